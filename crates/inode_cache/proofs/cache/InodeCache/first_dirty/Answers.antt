use Rattle.std.proofs.Common.{ap, sym, ◌∙◌}
use Rattle.inode_cache.specs.Caches.{is_dirty}
use Rattle.inode_cache.proofs.Maps.{seen}
use Rattle.inode_cache.proofs.Told.{next_found, next_least, next_none}
use Rattle.inode_cache.proofs.cache.InodeCache.first_dirty.Goals as goal

pub returns-clause-found : goal.returns-clause-found
returns-clause-found c =
    next_found is_dirty c.args.self.now c.self.inside.dirty c.first_from.result c.args.from (λ n. c.self.invariant.3 n ∙ ap is_dirty (sym (seen c.args.self.now c.self.inside.group c.self.inside.uuid c.self.inside.inodes.entries _ c.self.view_is n))) c.first_from.ensures.found

pub returns-clause-least : goal.returns-clause-least
returns-clause-least c =
    next_least is_dirty c.args.self.now c.self.inside.dirty c.first_from.result c.args.from (λ n. c.self.invariant.3 n ∙ ap is_dirty (sym (seen c.args.self.now c.self.inside.group c.self.inside.uuid c.self.inside.inodes.entries _ c.self.view_is n))) c.first_from.ensures.least

pub returns-clause-none : goal.returns-clause-none
returns-clause-none c =
    next_none is_dirty c.args.self.now c.self.inside.dirty c.first_from.result c.args.from (λ n. c.self.invariant.3 n ∙ ap is_dirty (sym (seen c.args.self.now c.self.inside.group c.self.inside.uuid c.self.inside.inodes.entries _ c.self.view_is n))) c.first_from.ensures.none
