use Rattle.std.proofs.Common.{◌≡◌, ◌*◌, take}
use Rattle.std.specs.List.{flat_map}
use Rattle.byteorder.specs.Endian.{little_bytes}
use Rattle.life_bytes.specs.SectorBytes.{bytes_of}
use Rattle.free_map.proofs.stored.store.Given as goal

abbrev pub invariant-loop-index : goal.invariant-loop-index
invariant-loop-index l = bytes_of (take l.index l.into) ≡ flat_map (little_bytes 8) (take (64 * l.index) l.words)
