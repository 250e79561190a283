-- The free blocks of a group: a set of numbers below the group's number of blocks. It is written as one answer
-- for each block, in order, so the length is the number of blocks and equal sets are equal lists.
use Rattle.std.specs.Prelude.{◌≡◌, ◌+◌, ◌%◌, ◌<◌, ℕ, Bool, false, IsTrue, List, length, filter, slice_index_or}
use Rattle.std.specs.List.{range_with_len}

-- whether a block is free; one at or past the number of blocks never is
abbrev pub is_block_free : List Bool → ℕ → Bool
is_block_free blocks b = slice_index_or blocks b false

-- the free blocks, ascending
abbrev pub map_free_blocks : List Bool → List ℕ
map_free_blocks blocks = filter (is_block_free blocks) (range_with_len 0 (length blocks))

-- 8 free blocks in a row that begin at a multiple of 8
abbrev pub IsFreeRun : List Bool → ℕ → Type 0
IsFreeRun blocks b = (b % 8 ≡ 0) × ((i : ℕ) → i < 8 → IsTrue (is_block_free blocks (b + i)))
