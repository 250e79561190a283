-- A record that is whole at a position of a ring.
use Rattle.std.specs.Prelude.{ℕ, ◌≡◌, ◌<◌, ◌≤◌, ◌+◌, ◌-◌, ◌%◌, List, length, slice_index_or}
use Rattle.life_bytes.specs.declared.sector.Sector.{Sector}
use Rattle.log_record.specs.declared.record.LogRecord.{LogRecord}
use Rattle.log_record.specs.Encoding.{IsRecord, FitsFields, record_sector, sector_count}

-- the sector of a ring at the place of a position, and d where the ring has none
abbrev pub at_place : List Sector → ℕ → Sector → Sector
at_place ring position d = slice_index_or ring (position % length ring) d

-- From the place of a position on the ring has the sectors that the record is encoded as, and the record and all
-- that it needs from its tail on fit the ring.
pub record IsWholeAt (ring : List Sector) (position : ℕ) (item : LogRecord) : Type 0 where
  pub begins : item.position ≡ position
  pub form : IsRecord item
  pub fits : FitsFields item
  pub room : position + sector_count (length item.images) - item.tail ≤ length ring
  pub sectors : (i : ℕ) (d : Sector) → i < sector_count (length item.images) → at_place ring (position + i) d ≡ record_sector item i

-- no record is whole there
abbrev pub NoneWholeAt : List Sector → ℕ → Type 0
NoneWholeAt ring position = (item : LogRecord) → IsWholeAt ring position item → ⊥
