use Rattle.inobt_leaf.proofs.Whole.{pages_tell_leaves}
use Rattle.inobt_leaf.proofs.laws.pages_tell_leaves.Goals as goal

pub returns : goal.returns
returns c = pages_tell_leaves
