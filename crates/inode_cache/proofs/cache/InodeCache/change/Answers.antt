use Rattle.std.proofs.Common.{Some, subst}
use Rattle.std.specs.Prelude.{IsSome, is_some}
use Rattle.inode_cache.specs.declared.inode.Kept.{Kept}
use Rattle.inode_cache.specs.Caches.{dirty, is_dirty}
use Rattle.inode_cache.proofs.Maps.{seen, lent_some, inodes_put, small_number, changed_cache}
use Rattle.inode_cache.proofs.Told.{told_kept, told_put}
use Rattle.inode_cache.proofs.cache.InodeCache.change.Goals as goal

pub unwrap-requires : goal.unwrap-requires
unwrap-requires c =
    lent_some c.get_mut.result _ c.get_mut.ensures.value (subst IsSome (seen c.args.self.now c.self.inside.group c.self.inside.uuid c.self.inside.inodes.entries _ c.self.view_is c.args.agino) c.requires.in_core)

pub insert-requires : goal.insert-requires
insert-requires c =
    small_number c.self.inside.inodes.entries c.args.agino (subst IsSome (seen c.args.self.now c.self.inside.group c.self.inside.uuid c.self.inside.inodes.entries _ c.self.view_is c.args.agino) c.requires.in_core) c.self.invariant.0

pub invariant_of-self : goal.invariant_of-self
invariant_of-self c =
    let new : Kept = dirty (record { core = c.args.core; blocks = c.args.blocks }) in
    let there = subst IsSome (seen c.args.self.now c.self.inside.group c.self.inside.uuid c.self.inside.inodes.entries _ c.self.view_is c.args.agino) c.requires.in_core in (
      inodes_put c.self.inside.inodes.entries (c.get_mut.follows.lender new).entries c.args.agino new ((c.get_mut.follows.holds new).3 there).0 c.requires.inode
          (small_number c.self.inside.inodes.entries c.args.agino there c.self.invariant.0) c.self.invariant.0,
      c.self.invariant.1,
      told_kept is_some c.self.inside.inodes.entries (c.get_mut.follows.lender new).entries c.self.inside.in_core c.args.agino (Some new) c.self.invariant.2 ((c.get_mut.follows.holds new).3 there).0 there,
      told_put is_dirty c.self.inside.inodes.entries (c.get_mut.follows.lender new).entries c.self.inside.dirty _ c.args.agino (Some new) c.self.invariant.3 ((c.get_mut.follows.holds new).3 there).0 c.insert.ensures.here c.insert.ensures.others,
    )

pub returns : goal.returns
returns c =
    let new : Kept = dirty (record { core = c.args.core; blocks = c.args.blocks }) in
    let there = subst IsSome (seen c.args.self.now c.self.inside.group c.self.inside.uuid c.self.inside.inodes.entries _ c.self.view_is c.args.agino) c.requires.in_core in
    changed_cache c.args.self.now c.self.inside.group c.self.inside.uuid c.self.inside.inodes.entries (c.get_mut.follows.lender new).entries _ _ c.args.agino new c.self.view_is
    (c.get_mut.follows.holds new).6 ((c.get_mut.follows.holds new).3 there).0
