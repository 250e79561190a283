use Rattle.encoded_changes.proofs.Touched.{create_touches}
use Rattle.encoded_changes.proofs.laws.creates_touch_their_inode.Goals as goal

pub returns : goal.returns
returns c = create_touches
