-- The records of a log, followed one by one.
use Rattle.std.specs.Prelude.{ℕ, ◌≡◌, ◌≤◌, ◌<◌, ◌^◌, ◌⊎◌, List, []}
use Rattle.std.specs.List.{All}
use Rattle.life_bytes.specs.declared.sector.Sector.{Sector}
use Rattle.log_record.specs.declared.image.Image.{Image}
use Rattle.log_record.specs.declared.record.LogRecord.{LogRecord}
use Rattle.log_record.specs.Whole.{IsWholeAt}
use Rattle.log_image.specs.Log.{IsRecordChain, IsGroupImage, IsLogTo, Log, record_end, next_of}
use Rattle.log_image.specs.Overlay.{images_of}
use Rattle.log_batch.specs.Put.{put_all}

-- a record is whole at a position, its commits begin with a number, it has images of the groups' sectors, and the position
-- and the number behind it are of 64 bits
pub record IsNextInChain (ring : List Sector) (anchor position number : ℕ) (item : LogRecord) : Type 0 where
  pub whole : IsWholeAt ring position item
  pub first : item.first ≡ number
  pub homes : All (IsGroupImage anchor) item.images
  pub end : record_end item < 2 ^ 64
  pub next : next_of item < 2 ^ 64

-- no record is so
abbrev pub NoneNext : List Sector → ℕ → ℕ → ℕ → Type 0
NoneNext ring anchor position number = (item : LogRecord) → IsNextInChain ring anchor position number item → ⊥

-- no log leads up to the last record
abbrev pub NoLogTo : List Sector → ℕ → LogRecord → Type 0
NoLogTo ring anchor last = (log : Log) → IsLogTo ring anchor last log → ⊥

-- The records from a last record's tail up to a position were followed, beginning with a commit number: these are the
-- newest images of them. The position is not above the last record's, or it is the end. Any log that leads up to the last
-- record goes on from here.
pub record IsFollowed (ring : List Sector) (anchor : ℕ) (last : LogRecord) (first position number : ℕ) (images : List Image) : Type 0 where
  pub records : List LogRecord
  pub chain : IsRecordChain ring last.tail first records position number
  pub fits : number < 2 ^ 64
  pub homes : All (λ item. All (IsGroupImage anchor) item.images) records
  pub newest : images ≡ put_all (images_of records) []
  pub stands : (position ≤ last.position) ⊎ ((position ≡ record_end last) × (number ≡ next_of last))
  pub rest : (log : Log) → IsLogTo ring anchor last log
      → (rest : List LogRecord) × IsRecordChain ring position number rest log.end log.next
      × All (λ item. All (IsGroupImage anchor) item.images) rest
