-- Numbers at a place in a list of bytes, the highest byte first.
use Rattle.std.specs.Prelude.{◌<◌, ◌+◌, ℕ, List, ◌++◌, take, drop, slice_index}
use Rattle.byteorder.specs.Endian.{big_number, big_bytes}

-- the number in the n bytes at a place
abbrev pub field : ℕ → ℕ → List ℕ → ℕ
field n at bytes = big_number n (drop at bytes)

-- the bytes with a piece of n bytes put over those at a place
abbrev pub with_piece : ℕ → ℕ → List ℕ → List ℕ → List ℕ
with_piece n at piece bytes = take at bytes ++ (piece ++ drop (at + n) bytes)

-- the bytes with a number of n bytes written at a place
abbrev pub with_field : ℕ → ℕ → ℕ → List ℕ → List ℕ
with_field n at value bytes = with_piece n at (big_bytes n value) bytes

-- each is a byte
abbrev pub AreBytes : List ℕ → Type 0
AreBytes xs = (i : ℕ) → slice_index xs i < 256
