use Rattle.free_map.proofs.Bitmaps.{bits_are_held}
use Rattle.free_map.proofs.laws.numbers_hold_their_bits.Goals as goal

pub returns : goal.returns
returns c = bits_are_held
