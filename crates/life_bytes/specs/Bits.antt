-- Bits of numbers.
use Rattle.std.specs.Prelude.{◌==◌, ℕ, Bool}
use Rattle.std.specs.Int.{bit_at}

-- whether bit i of a word, of value 2^i, is set
abbrev pub is_set : ℕ → ℕ → Bool
is_set word i = bit_at word i == 1
