use Rattle.std.proofs.Common.{ap, ◌∙◌}
use Rattle.std.specs.FinMap.{FinMap, get, get-empty}
use Rattle.std.specs.Ordering.{nat_cmp}
use Rattle.inode_cache.specs.declared.inode.Kept.{Kept}
use Rattle.inode_cache.specs.Caches.{Cache}
use Rattle.tests_groups.proofs.caches.a_changed_inode_is_flushed.Goals as goal

pub install-requires-clause-absent : goal.install-requires-clause-absent
install-requires-clause-absent g c =
    ap (λ (k : Cache). get k.inodes 192) c.reserve.ensures.same
    ∙ ap (λ (m : FinMap nat_cmp Kept). get m 192) c.begin_cache-cache.ensures.none
    ∙ get-empty nat_cmp 192
