use Rattle.std.proofs.Common.{◌≡◌, Some, subst, ◌∙◌}
use Rattle.std.specs.Prelude.{IsSome}
use Rattle.inode_cache.specs.Caches.{incore_at}
use Rattle.inode_cache.proofs.Maps.{seen, copied_some, copied_value, clean_told}
use Rattle.inode_cache.proofs.cache.InodeCache.clean.Goals as goal

pub unwrap-requires : goal.unwrap-requires
unwrap-requires c = copied_some c.get.result _ c.get.ensures.value (subst IsSome (seen c.args.self.now c.self.inside.group c.self.inside.uuid c.self.inside.inodes.entries _ c.self.view_is c.args.agino) c.requires)

pub returns : goal.returns
returns c =
    let is : incore_at c.args.self.now c.args.agino ≡ Some c.unwrap.result.now = seen c.args.self.now c.self.inside.group c.self.inside.uuid c.self.inside.inodes.entries _ c.self.view_is c.args.agino ∙ copied_value c.get.result c.unwrap.result _ c.unwrap.ensures c.get.ensures.value in
    clean_told c.args.self.now c.args.agino c.unwrap.result.now is
