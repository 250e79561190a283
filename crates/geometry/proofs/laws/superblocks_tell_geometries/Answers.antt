use Rattle.geometry.proofs.Superblocks.{superblocks_tell}
use Rattle.geometry.proofs.laws.superblocks_tell_geometries.Goals as goal

pub returns : goal.returns
returns c = superblocks_tell
