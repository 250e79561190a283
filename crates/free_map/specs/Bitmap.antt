-- The bitmap that stands in the image: bit b mod 8 of byte b / 8, of value 2^(b mod 8), is set where block b is free.
use Rattle.std.specs.Prelude.{◌≡◌, ◌+◌, ◌*◌, ◌/◌, ◌%◌, ◌≤◌, ◌<◌, ◌^◌, ◌==◌, ℕ, Bool, false, List, [], ◌∷◌, length, map, take, drop, slice_index, slice_index_or, if◌then◌else◌}
use Rattle.std.specs.List.{range_with_len}
use Rattle.std.specs.Int.{bit_at}
use Rattle.life_bytes.specs.Fields.{AreBytes}

-- whether the bytes say that a block is free
abbrev pub says_free : List ℕ → ℕ → Bool
says_free bytes b = bit_at (slice_index bytes (b / 8)) (b % 8) == 1

-- what the bytes say of the first n blocks
abbrev pub read_blocks : List ℕ → ℕ → List Bool
read_blocks bytes n = map (says_free bytes) (range_with_len 0 n)

-- the number with these bits, the lowest first
abbrev pub number_of_bits : List Bool → ℕ
number_of_bits [] = 0
number_of_bits (bit ∷ bits) = (if bit then 1 else 0) + 2 * number_of_bits bits

-- the 2,048 bytes of the bitmap; bits at or past the number of blocks are clear
abbrev pub bitmap : List Bool → List ℕ
bitmap blocks = map (λ k. number_of_bits (take 8 (drop (8 * k) blocks))) (range_with_len 0 2048)

-- 2,048 bytes whose bits from block n on are clear
pub record IsBitmap (bytes : List ℕ) (n : ℕ) : Type 0 where
  pub long : length bytes ≡ 2048
  pub small : AreBytes bytes
  pub clear : (b : ℕ) → n ≤ b → says_free bytes b ≡ false

-- A number has the bits that it is made of, and no others; a bitmap has its 2,048 bytes.
pub record BitsAreHeld : Type 0 where
  pub bit : (bits : List Bool) (i : ℕ) → (bit_at (number_of_bits bits) i == 1) ≡ slice_index_or bits i false
  pub small : (bits : List Bool) (k : ℕ) → length bits ≤ k → number_of_bits bits < 2 ^ k
  pub long : (blocks : List Bool) → length (bitmap blocks) ≡ 2048
