use Rattle.std.proofs.Common.{◌≡◌, None, false, ap, sym, ◌∙◌, subst}
use Rattle.std.specs.Prelude.{IsSome, is_some}
use Rattle.inode_cache.specs.Caches.{incore_at, is_dirty}
use Rattle.inode_cache.proofs.Maps.{inodes_away, away_cache, seen, small_number}
use Rattle.inode_cache.proofs.Told.{clean_not_dirty, some_and_some, told_kept, told_put}
use Rattle.inode_cache.proofs.cache.InodeCache.reclaim.Goals as goal

pub remove-requires-2 : goal.remove-requires-2
remove-requires-2 c =
    small_number c.self.inside.inodes.entries c.args.agino
    (subst IsSome (seen c.args.self.now c.self.inside.group c.self.inside.uuid c.self.inside.inodes.entries _ c.self.view_is c.args.agino) (some_and_some (incore_at c.args.self.now c.args.agino) (λ kept. kept.dirty ≡ false) c.requires)) c.self.invariant.0

pub invariant_of-self : goal.invariant_of-self
invariant_of-self c =
    let es = c.self.inside.inodes.entries in
    let fs = c.remove.new.self.entries in (
      inodes_away es fs c.args.agino c.remove.ensures.updates.0 c.self.invariant.0,
      c.self.invariant.1,
      told_put is_some es fs c.self.inside.in_core _ c.args.agino None c.self.invariant.2 c.remove.ensures.updates.0 c.remove-2.ensures.here c.remove-2.ensures.others,
      told_kept is_dirty es fs c.self.inside.dirty c.args.agino None c.self.invariant.3 c.remove.ensures.updates.0
          (ap is_dirty (sym (seen c.args.self.now c.self.inside.group c.self.inside.uuid c.self.inside.inodes.entries _ c.self.view_is c.args.agino)) ∙ clean_not_dirty (incore_at c.args.self.now c.args.agino) c.requires),
    )

pub returns-clause-gone : goal.returns-clause-gone
returns-clause-gone c =
    away_cache c.args.self.now c.self.inside.group c.self.inside.uuid c.self.inside.inodes.entries c.remove.new.self.entries _ _ c.args.agino c.self.view_is c.remove.ensures.updates.0
