-- A set of numbers as words of 64 bits: bit i of word w tells of number 64 w + i.
use Rattle.std.specs.Prelude.{◌/◌, ◌%◌, ◌==◌, ℕ, Bool, List, slice_index}
use Rattle.std.specs.Int.{bit_at}

-- whether a number is in the set
abbrev pub has_number : List ℕ → ℕ → Bool
has_number words n = bit_at (slice_index words (n / 64)) (n % 64) == 1
