use Rattle.std.proofs.Common.{ap, sym, ◌∙◌}
use Rattle.std.specs.Prelude.{is_some}
use Rattle.inode_cache.proofs.Maps.{seen}
use Rattle.inode_cache.proofs.cache.InodeCache.has.Goals as goal

pub returns : goal.returns
returns c = c.contains_key.ensures ∙ ap is_some (sym (seen c.args.self.now c.self.inside.group c.self.inside.uuid c.self.inside.inodes.entries _ c.self.view_is c.args.agino))
