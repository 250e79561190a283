use Rattle.std.proofs.Common.{◌≡◌, Some, subst, refl, ◌∙◌}
use Rattle.std.specs.Prelude.{IsSome}
use Rattle.inode_cache.specs.declared.inode.Kept.{Kept}
use Rattle.inode_cache.specs.Caches.{incore_at}
use Rattle.inode_cache.proofs.Maps.{seen, copied_some, copied_value, and_holds}
use Rattle.inode_cache.proofs.cache.InodeCache.get.Goals as goal

pub unwrap-requires : goal.unwrap-requires
unwrap-requires c = copied_some c.get.result _ c.get.ensures.value (subst IsSome (seen c.args.self.now c.self.inside.group c.self.inside.uuid c.self.inside.inodes.entries _ c.self.view_is c.args.agino) c.requires)

pub returns-clause-found : goal.returns-clause-found
returns-clause-found c =
    let is : incore_at c.args.self.now c.args.agino ≡ Some c.unwrap.result.now = seen c.args.self.now c.self.inside.group c.self.inside.uuid c.self.inside.inodes.entries _ c.self.view_is c.args.agino ∙ copied_value c.get.result c.unwrap.result _ c.unwrap.ensures c.get.ensures.value in
    and_holds (incore_at c.args.self.now c.args.agino) c.unwrap.result.now (λ (kept : Kept). kept.inode ≡ c.unwrap.result.now.inode) is refl

pub returns-clause-inode : goal.returns-clause-inode
returns-clause-inode c = (c.self.invariant.0 c.args.agino c.unwrap.result.now (copied_value c.get.result c.unwrap.result _ c.unwrap.ensures c.get.ensures.value)).0
