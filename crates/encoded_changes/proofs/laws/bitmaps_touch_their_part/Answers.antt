use Rattle.encoded_changes.proofs.Bitmaps.{bitmap_touches}
use Rattle.encoded_changes.proofs.laws.bitmaps_touch_their_part.Goals as goal

pub returns : goal.returns
returns c = bitmap_touches
