use Rattle.std.proofs.Common.{ap, sym, ◌∙◌}
use Rattle.std.specs.Prelude.{is_some}
use Rattle.inode_cache.proofs.Maps.{seen}
use Rattle.inode_cache.proofs.Told.{next_found, next_least, next_none}
use Rattle.inode_cache.proofs.cache.InodeCache.first_in_core.Goals as goal

pub returns-clause-found : goal.returns-clause-found
returns-clause-found c =
    next_found is_some c.args.self.now c.self.inside.in_core c.first_from.result c.args.from (λ n. c.self.invariant.2 n ∙ ap is_some (sym (seen c.args.self.now c.self.inside.group c.self.inside.uuid c.self.inside.inodes.entries _ c.self.view_is n))) c.first_from.ensures.found

pub returns-clause-least : goal.returns-clause-least
returns-clause-least c =
    next_least is_some c.args.self.now c.self.inside.in_core c.first_from.result c.args.from (λ n. c.self.invariant.2 n ∙ ap is_some (sym (seen c.args.self.now c.self.inside.group c.self.inside.uuid c.self.inside.inodes.entries _ c.self.view_is n))) c.first_from.ensures.least

pub returns-clause-none : goal.returns-clause-none
returns-clause-none c =
    next_none is_some c.args.self.now c.self.inside.in_core c.first_from.result c.args.from (λ n. c.self.invariant.2 n ∙ ap is_some (sym (seen c.args.self.now c.self.inside.group c.self.inside.uuid c.self.inside.inodes.entries _ c.self.view_is n))) c.first_from.ensures.none
