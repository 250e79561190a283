use Rattle.inobt_leaf.proofs.Whole.{pages_are_read}
use Rattle.inobt_leaf.proofs.laws.encoded_pages_are_read.Goals as goal

pub returns : goal.returns
returns c = pages_are_read
