use Rattle.free_map.proofs.Bitmaps.{read_blocks-bitmap, bitmap-read_blocks}
use Rattle.free_map.proofs.laws.bitmaps_are_the_sets.Goals as goal

pub returns-clause-read : goal.returns-clause-read
returns-clause-read c = read_blocks-bitmap

pub returns-clause-one : goal.returns-clause-one
returns-clause-one c = bitmap-read_blocks
