-- Masks of 64 bits: bit i has the value 2^i.
use Rattle.std.specs.Prelude.{◌^◌, ℕ, bit_and, bit_or}
use Rattle.std.specs.Int.{bit_not, w64}

-- the mask with bit i clear, and with bit i set
abbrev pub without_bit : ℕ → ℕ → ℕ
without_bit mask i = bit_and mask (bit_not w64 (2 ^ i))

abbrev pub with_bit : ℕ → ℕ → ℕ
with_bit mask i = bit_or mask (2 ^ i)
