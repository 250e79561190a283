use Rattle.std.proofs.Common.{refl}
use Rattle.inode_cache.proofs.Bits.{none_in_zeros}
use Rattle.inode_cache.proofs.number_set.NumberSet.new.Goals as goal

pub returns : goal.returns
returns c = none_in_zeros _ 2048 refl
