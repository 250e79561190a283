use Rattle.std.specs.Prelude.{is_some}
use Rattle.inode_cache.specs.Caches.{is_dirty}
use Rattle.inode_cache.proofs.Told.{told_same}
use Rattle.inode_cache.proofs.Maps.{inodes_same, same_cache}
use Rattle.inode_cache.proofs.cache.InodeCache.reserve.Goals as goal

pub invariant_of-self : goal.invariant_of-self
invariant_of-self c = (
  inodes_same c.self.inside.inodes.entries c.reserve.new.self.entries c.reserve.ensures.entries.2 c.self.invariant.0,
  c.self.invariant.1,
  told_same is_some c.self.inside.inodes.entries c.reserve.new.self.entries c.self.inside.in_core c.reserve.ensures.entries.2 c.self.invariant.2,
  told_same is_dirty c.self.inside.inodes.entries c.reserve.new.self.entries c.self.inside.dirty c.reserve.ensures.entries.2 c.self.invariant.3,
)

pub invariant_of-self-2 : goal.invariant_of-self-2
invariant_of-self-2 c = (
  inodes_same c.self.inside.inodes.entries c.reserve.new.self.entries c.reserve.ensures.entries.2 c.self.invariant.0,
  c.self.invariant.1,
  told_same is_some c.self.inside.inodes.entries c.reserve.new.self.entries c.self.inside.in_core c.reserve.ensures.entries.2 c.self.invariant.2,
  told_same is_dirty c.self.inside.inodes.entries c.reserve.new.self.entries c.self.inside.dirty c.reserve.ensures.entries.2 c.self.invariant.3,
)

pub returns-clause-same : goal.returns-clause-same
returns-clause-same c =
    same_cache c.args.self.now c.self.inside.group c.self.inside.uuid c.self.inside.inodes.entries c.reserve.new.self.entries _ _ c.self.view_is c.reserve.ensures.entries.2
