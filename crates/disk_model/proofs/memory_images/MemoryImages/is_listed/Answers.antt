use Rattle.std.proofs.Common.{rules}
use Rattle.disk_model.proofs.ByPath.{lookup-by_path}
use Rattle.disk_model.proofs.memory_images.MemoryImages.is_listed.Goals as goal

pub returns : goal.returns
returns g c = rw (← c.self.view_is, lookup-by_path c.self.inside.disks.entries c.args.path.now) (search rules)
