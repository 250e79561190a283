use Rattle.std.proofs.Common.{◌≡◌, take}
use Rattle.std.specs.List.{fold}
use Rattle.life_bytes.specs.Crc.{after_byte}
use Rattle.life_bytes.proofs.crc.feed_singly.Given as goal

abbrev pub invariant-loop-byte : goal.invariant-loop-byte
invariant-loop-byte l = l.now ≡ fold after_byte l.fn.register (take l.byte-index l.bytes)
