-- CRC32c, bit by bit.
use Rattle.std.specs.Prelude.{ℕ, zero, suc, ◌/◌, ◌%◌, ◌==◌, bit_xor, if◌then◌else◌, List, replicate, fold}
use Rattle.std.specs.Int.{w32, bit_not}
use Rattle.life_bytes.specs.Fields.{with_piece}

-- The divisor, reflected: the lowest power stands in the highest bit, and the 32nd power is left out.
abbrev pub polynomial : ℕ
polynomial = 0x82F6_3B78

-- the register after one bit: where a one falls out, the divisor is added
abbrev pub after_bit : ℕ → ℕ
after_bit register = if register % 2 == 1 then bit_xor (register / 2) polynomial else register / 2

unfoldable pub after_bits : ℕ → ℕ → ℕ
after_bits zero register = register
after_bits (suc n) register = after_bits n (after_bit register)

-- the register after one byte, which is added at its low end
unfoldable pub after_byte : ℕ → ℕ → ℕ
after_byte register byte = after_bits 8 (bit_xor register byte)

-- the register begins with all ones, and is inverted at the end
unfoldable pub crc32c : List ℕ → ℕ
crc32c bytes = bit_not w32 (fold after_byte 0xFFFF_FFFF bytes)

-- the bytes with the four at a place as zero
unfoldable pub holed : ℕ → List ℕ → List ℕ
holed at bytes = with_piece 4 at (replicate 4 0) bytes
