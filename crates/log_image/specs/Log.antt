-- What the log of an image says. An image is the sectors of its groups, then the anchor, then the ring, and what is
-- behind the ring counts for nothing. `anchor` is the number of the anchor's sector, and so of the groups' sectors;
-- `ring` is the number of the ring's sectors.
use Rattle.std.specs.Prelude.{ℕ, ◌≡◌, ◌≤◌, ◌<◌, ◌+◌, ◌^◌, ◌⊎◌, List, [], ◌∷◌, length, take, drop, slice_index_or}
use Rattle.std.specs.List.{All}
use Rattle.life_bytes.specs.declared.sector.Sector.{Sector}
use Rattle.life_bytes.specs.Fields.{field}
use Rattle.log_record.specs.declared.image.Image.{Image}
use Rattle.log_record.specs.declared.record.LogRecord.{LogRecord}
use Rattle.log_record.specs.Encoding.{sector_count}
use Rattle.log_record.specs.Whole.{IsWholeAt}
use Rattle.log_image.specs.Anchor.{HasAnchor}
use Rattle.log_image.specs.Overlay.{overlaid, images_of}

-- the sectors of the groups
abbrev pub groups_part : ℕ → List Sector → List Sector
groups_part anchor image = take anchor image

-- the ring
abbrev pub ring_part : ℕ → ℕ → List Sector → List Sector
ring_part anchor ring image = take ring (drop (anchor + 1) image)

-- Each sector of a ring begins with a number, in its first eight bytes, that is below this position.
pub record AreBelow (ring : List Sector) (position : ℕ) : Type 0 where
  pub each : (place : ℕ) (d : Sector) → place < length ring → field 8 0 (slice_index_or ring place d).bytes < position

-- ---- records

-- the position behind a record
abbrev pub record_end : LogRecord → ℕ
record_end item = item.position + sector_count (length item.images)

-- the number of the commit behind a record's commits
abbrev pub next_of : LogRecord → ℕ
next_of item = item.first + item.commits

-- an image is of a sector of a group, and not of the superblock
abbrev pub IsGroupImage : ℕ → Image → Type 0
IsGroupImage anchor image = (0 < image.home) × (image.home < anchor)

-- of the records that are whole in a ring the one with the greatest position, which is this one or above it
pub record IsLast (ring : List Sector) (position : ℕ) (item : LogRecord) : Type 0 where
  pub whole : IsWholeAt ring item.position item
  pub counts : position ≤ item.position
  pub greatest : (other : LogRecord) → IsWholeAt ring other.position other → other.position ≤ item.position

-- no record that is whole has this position or one above it
abbrev pub HasNoLast : List Sector → ℕ → Type 0
HasNoLast ring position = (item : LogRecord) → IsWholeAt ring item.position item → item.position < position

-- Whole records without a gap, each of which begins where the one before ends: from a position and a commit number on,
-- up to others.
abbrev pub IsRecordChain : List Sector → ℕ → ℕ → List LogRecord → ℕ → ℕ → Type 0
IsRecordChain ring position number [] end next = (position ≡ end) × (number ≡ next)
IsRecordChain ring position number (item ∷ records) end next =
    IsWholeAt ring position item × (item.first ≡ number) × IsRecordChain ring (record_end item) (next_of item) records end next

-- ---- the log

-- What a log says: the position of the first record that counts, the position at which the log goes on, the next commit
-- number, and the records between the two positions.
pub record Log : Type 0 where
  pub tail : ℕ
  pub end : ℕ
  pub next : ℕ
  pub records : List LogRecord

-- the log that goes on at a position with a commit number, and has no record
abbrev pub empty_log : ℕ → ℕ → Log
empty_log position next = record { tail = position; end = position; next = next; records = [] }

-- The log that ends with a last record: whole records without a gap from that record's tail up to it, whose commit
-- numbers are at least 1 and go on, with images of the groups' sectors.
pub record IsLogTo (ring : List Sector) (anchor : ℕ) (last : LogRecord) (log : Log) : Type 0 where
  pub tail : log.tail ≡ last.tail
  pub end : (log.end ≡ record_end last) × (log.end < 2 ^ 64)
  pub next : (log.next ≡ next_of last) × (log.next < 2 ^ 64)
  pub chain : (first : ℕ) × (1 ≤ first) × IsRecordChain ring log.tail first log.records log.end log.next
  pub homes : All (λ item. All (IsGroupImage anchor) item.images) log.records

-- A ring has this log, where the anchor in front of it has the position and the commit number: the log up to the last
-- record, or the empty one. No sector of the ring is from beyond the log's end and one turn of the ring.
pub record HasLog (ring : List Sector) (anchor position next : ℕ) (log : Log) : Type 0 where
  pub records : ((last : LogRecord) × IsLast ring position last × IsLogTo ring anchor last log)
      ⊎ (HasNoLast ring position × (log ≡ empty_log position next))
  pub below : AreBelow ring (log.end + length ring)

-- An image's anchor and log are right, and the log is this one.
pub record IsLog (image : List Sector) (anchor ring : ℕ) (log : Log) : Type 0 where
  pub size : anchor + 1 + ring ≤ length image
  pub says : (position : ℕ) × (next : ℕ) × HasAnchor image anchor ring position next
      × HasLog (ring_part anchor ring image) anchor position next log

-- the sectors of the groups as an image's records leave them, once all of them are home
abbrev pub replayed : ℕ → List Sector → List LogRecord → List Sector
replayed anchor image records = overlaid (groups_part anchor image) (images_of records)
