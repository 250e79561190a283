-- How the free blocks of a group change, block by block.
use Rattle.std.specs.Prelude.{◌≡◌, ◌==◌, ◌≤◌, ◌<◌, ◌&&◌, ◌||◌, ℕ, Bool, true, false, List, length, nat_lt}
use Rattle.life_table.specs.Space.{times}
use Rattle.free_map.specs.Blocks.{is_block_free}

-- none of these blocks stands there twice, and all are free, or none is free and all are blocks of the group
pub record CanTake (free : List Bool) (some : List ℕ) : Type 0 where
  pub free_each : (block : ℕ) → 1 ≤ times block some → is_block_free free block ≡ true
  pub once : (block : ℕ) → times block some ≤ 1

pub record CanGive (free : List Bool) (some : List ℕ) : Type 0 where
  pub taken_each : (block : ℕ) → 1 ≤ times block some → (is_block_free free block ≡ false) × (block < length free)
  pub once : (block : ℕ) → times block some ≤ 1

-- the free blocks without these, and with these
pub record IsWithout (old : List Bool) (some : List ℕ) (new : List Bool) : Type 0 where
  pub long : length new ≡ length old
  pub each : (block : ℕ) → is_block_free new block ≡ (is_block_free old block && times block some == 0)

pub record IsWith (old : List Bool) (some : List ℕ) (new : List Bool) : Type 0 where
  pub long : length new ≡ length old
  pub each : (block : ℕ) → is_block_free new block ≡ (is_block_free old block || nat_lt 0 (times block some))
