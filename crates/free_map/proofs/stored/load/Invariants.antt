use Rattle.std.proofs.Common.{◌≡◌, ◌<◌, ◌*◌, ℕ, get_or, take, length}
use Rattle.life_bytes.specs.Fields.{AreBytes}
use Rattle.life_bytes.specs.SectorBytes.{bytes_of}
use Rattle.free_map.proofs.Loading.{word_at}
use Rattle.free_map.proofs.stored.load.Given as goal

abbrev pub invariant-loop-index : goal.invariant-loop-index
invariant-loop-index l = record {
  kept : length l.words ≡ 256;
  long : length (bytes_of (take l.index l.sectors)) ≡ 512 * l.index;
  small : AreBytes (bytes_of (take l.index l.sectors));
  read : (k : ℕ) → k < 64 * l.index → get_or l.words k 0 ≡ word_at (bytes_of (take l.index l.sectors)) k;
}
