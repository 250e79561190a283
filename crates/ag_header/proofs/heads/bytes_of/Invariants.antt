use Rattle.std.proofs.Common.{◌≡◌, ◌*◌, ◌-◌, ◌++◌, take}
use Rattle.std.specs.List.{flat_map}
use Rattle.byteorder.specs.Endian.{big_bytes}
use Rattle.life_bytes.specs.Pieces.{zeros}
use Rattle.ag_header.proofs.heads.bytes_of.Given as goal

abbrev pub invariant-loop-index : goal.invariant-loop-index
invariant-loop-index l = l.bytes ≡ flat_map (big_bytes 4) (take l.index l.heads) ++ zeros (256 - 4 * l.index)
