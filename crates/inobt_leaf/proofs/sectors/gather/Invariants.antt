use Rattle.std.proofs.Common.{◌≡◌, ◌*◌, take, length}
use Rattle.life_bytes.specs.SectorBytes.{bytes_of}
use Rattle.inobt_leaf.proofs.sectors.gather.Given as goal

abbrev pub invariant-loop-index : goal.invariant-loop-index
invariant-loop-index l = record {
  long : length l.bytes ≡ 4096;
  done : take (512 * l.index) l.bytes ≡ bytes_of (take l.index l.page);
}
