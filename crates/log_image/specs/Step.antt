-- What is written to an image, and what its log is then.
use Rattle.std.specs.Prelude.{ℕ, ◌≡◌, ◌≤◌, ◌<◌, ◌+◌, ◌-◌, ◌%◌, ◌^◌, ◌⊎◌, List, [], ◌∷◌, ◌++◌, length, Some, slice_index_or}
use Rattle.std.specs.List.{All}
use Rattle.life_bytes.specs.declared.sector.Sector.{Sector}
use Rattle.log_record.specs.declared.record.LogRecord.{LogRecord}
use Rattle.log_record.specs.Encoding.{IsRecord, FitsFields, record_sector, sector_count}
use Rattle.log_image.specs.Overlay.{newest, images_of}
use Rattle.log_image.specs.Log.{Log, IsGroupImage, record_end, next_of}

-- the sector of an image that is the place of a position
abbrev pub sector_of_position : ℕ → ℕ → ℕ → ℕ
sector_of_position anchor ring position = anchor + 1 + position % ring

-- a sector is the place of one of a record's sectors
abbrev pub IsPlaceOf : ℕ → ℕ → LogRecord → ℕ → Type 0
IsPlaceOf anchor ring item at =
    (i : ℕ) × (i < sector_count (length item.images)) × (at ≡ sector_of_position anchor ring (item.position + i))

-- Some of a record's sectors, or none, or all, were written to their places, and nothing else was.
pub record IsPartlyLogged (anchor ring : ℕ) (item : LogRecord) (old new : List Sector) : Type 0 where
  pub size : length new ≡ length old
  pub places : (i : ℕ) (d : Sector) → i < sector_count (length item.images)
      → (slice_index_or new (sector_of_position anchor ring (item.position + i)) d ≡ slice_index_or old (sector_of_position anchor ring (item.position + i)) d)
      ⊎ (slice_index_or new (sector_of_position anchor ring (item.position + i)) d ≡ record_sector item i)
  pub others : (at : ℕ) (d : Sector) → (IsPlaceOf anchor ring item at → ⊥) → slice_index_or new at d ≡ slice_index_or old at d

-- All of a record's sectors were written to their places, and nothing else was.
pub record IsLogged (anchor ring : ℕ) (item : LogRecord) (old new : List Sector) : Type 0 where
  pub size : length new ≡ length old
  pub places : (i : ℕ) (d : Sector) → i < sector_count (length item.images)
      → slice_index_or new (sector_of_position anchor ring (item.position + i)) d ≡ record_sector item i
  pub others : (at : ℕ) (d : Sector) → (IsPlaceOf anchor ring item at → ⊥) → slice_index_or new at d ≡ slice_index_or old at d

-- A record that goes on where a log ends: it has the next commits, keeps the log's tail, and takes no place from there on.
pub record ExtendsLog (anchor ring : ℕ) (log : Log) (item : LogRecord) : Type 0 where
  pub form : IsRecord item
  pub fits : FitsFields item
  pub position : item.position ≡ log.end
  pub first : item.first ≡ log.next
  pub tail : item.tail ≡ log.tail
  pub room : record_end item - log.tail ≤ ring
  pub homes : All (IsGroupImage anchor) item.images
  pub end : record_end item < 2 ^ 64
  pub next : next_of item < 2 ^ 64

-- the log with one record more
abbrev pub with_record : Log → LogRecord → Log
with_record log item =
    record { tail = log.tail; end = record_end item; next = next_of item; records = log.records ++ item ∷ [] }

-- the record without commits and images with which a log's tail moves to its end
abbrev pub cover_of : Log → LogRecord
cover_of log = record { position = log.end; tail = log.end; first = log.next; commits = 0; images = [] }

-- the log behind it
abbrev pub covered : Log → Log
covered log = record { tail = log.end; end = log.end + 1; next = log.next; records = cover_of log ∷ [] }

-- Some sectors of the groups were replaced by the newest images that records have for them, and nothing else was.
pub record IsPartlyHome (anchor : ℕ) (records : List LogRecord) (old new : List Sector) : Type 0 where
  pub size : length new ≡ length old
  pub groups : (at : ℕ) (d : Sector) → at < anchor → (slice_index_or new at d ≡ slice_index_or old at d)
      ⊎ (newest at (images_of records) ≡ Some (slice_index_or new at d))
  pub others : (at : ℕ) (d : Sector) → anchor ≤ at → slice_index_or new at d ≡ slice_index_or old at d

-- The newest image that records have for each sector of the groups stands in it.
abbrev pub AreHome : ℕ → List Sector → List LogRecord → Type 0
AreHome anchor image records = (home : ℕ) (sector d : Sector) → home < anchor
    → newest home (images_of records) ≡ Some sector → slice_index_or image home d ≡ sector
