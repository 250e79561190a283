-- How words of 64 bits hold a set of blocks: bit i of word w, of value 2^i, tells of block 64 w + i.
use Rattle.std.specs.Prelude.{◌≡◌, ◌-◌, ◌*◌, ◌+◌, ◌/◌, ◌%◌, ◌<◌, ◌≤◌, ◌==◌, ℕ, Bool, false, List, length, filter, map, count_by, slice_index}
use Rattle.std.specs.List.{range_with_len}
use Rattle.std.specs.Int.{bit_at}
use Rattle.life_bytes.specs.Bits.{is_set}
use Rattle.life_limits.specs.declared.TheConstants.{MAX_BLOCKS}

-- whether the bit of a block is set
abbrev pub block_bit : List ℕ → ℕ → Bool
block_bit words b = is_set (slice_index words (b / 64)) (b % 64)

-- the set bits of a word whose lowest bit tells of block base
unfoldable pub places : ℕ → ℕ → List ℕ
places base word = filter (λ b. is_set word (b - base)) (range_with_len base 64)

-- the first n blocks
abbrev pub map_blocks : List ℕ → ℕ → List Bool
map_blocks words n = map (block_bit words) (range_with_len 0 n)

-- byte k of a word has its 8 bits set
abbrev pub IsFull : ℕ → ℕ → Type 0
IsFull word k = (i : ℕ) → i < 8 → bit_at word (8 * k + i) ≡ 1

-- what a map keeps: 256 words; bits at or past the number of blocks are clear, and free counts the set ones
pub record AreMapWords (words : List ℕ) (blocks free : ℕ) : Type 0 where
  pub whole : length words ≡ 256
  pub few : blocks ≤ MAX_BLOCKS
  pub clear : (b : ℕ) → blocks ≤ b → block_bit words b ≡ false
  pub count : free ≡ count_by (λ f. f) (map_blocks words blocks)
