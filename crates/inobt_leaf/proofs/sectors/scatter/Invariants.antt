use Rattle.std.proofs.Common.{◌≡◌, ◌*◌, take}
use Rattle.life_bytes.specs.SectorBytes.{bytes_of}
use Rattle.inobt_leaf.proofs.sectors.scatter.Given as goal

abbrev pub invariant-loop-index : goal.invariant-loop-index
invariant-loop-index l = bytes_of (take l.index l.page) ≡ take (512 * l.index) l.bytes
