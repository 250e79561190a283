-- What a store's disk holds, whatever a stop may leave of it.
use Rattle.std.specs.Prelude.{ℕ, ◌≡◌, ◌≤◌, ◌<◌, ◌+◌, false, None, Some, List, [], length, take, slice_index_or}
use Rattle.life_limits.specs.declared.TheConstants.{MAX_IMAGES, MAX_RECORD_SECTORS}
use Rattle.life_bytes.specs.declared.sector.Sector.{Sector}
use Rattle.disk_model.specs.Disk.{Cell, IsImage, as_read, written}
use Rattle.log_record.specs.declared.image.Image.{Image}
use Rattle.log_record.specs.declared.image.Commit.{Commit}
use Rattle.log_record.specs.declared.record.LogRecord.{LogRecord}
use Rattle.log_record.specs.Encoding.{encoded_record}
use Rattle.log_image.specs.Log.{AreBelow, IsLog, Log, empty_log, groups_part, replayed, ring_part}
use Rattle.log_image.specs.Overlay.{images_of, newest, overlaid}
use Rattle.log_image.specs.Step.{AreHome, ExtendsLog, covered, sector_of_position}
use Rattle.log_image.specs.Writes.{first_part, rest_part}
use Rattle.log_batch.specs.Newest.{IsNewestOf, commit_images}
use Rattle.log_store.specs.declared.store.Stage.{Stage}
use Rattle.log_store.specs.declared.store.Stage.TheVariants.{Free, Half, Record, Cover, Down}
use Rattle.log_store.specs.State.{State}

-- The base of a store: the groups' sectors as they read, with the logged images that are not home over them.
abbrev pub base_of : State → List Cell → List Sector
base_of s cells = overlaid (groups_part s.anchor (as_read cells)) s.dirty

-- An image has a right log, which ends at a position up to this one, and replays to the base with the images of some
-- first commits of the list over it. Its next commit number tells how many those are.
pub record Replays (anchor ring most : ℕ) (base : List Sector) (list : List Commit) (durable : ℕ) (image : List Sector) : Type 0 where
  pub log : Log
  pub count : ℕ
  pub within : count ≤ length list
  pub says : IsLog image anchor ring log
  pub groups : replayed anchor image log.records ≡ overlaid base (commit_images (take count list))
  pub next : log.next ≡ durable + 1 + count
  pub end : log.end ≤ most

-- The same of a store's base, list and durable number. The log ends not further behind a head than the longest record
-- reaches.
abbrev pub ReplaysUpTo : ℕ → State → List Cell → List Sector → Type 0
ReplaysUpTo head s cells image = Replays s.anchor s.ring (head + MAX_RECORD_SECTORS) (base_of s cells) s.list s.durable image

-- behind the store's own head
abbrev pub ReplaysTo : State → List Cell → List Sector → Type 0
ReplaysTo s cells image = ReplaysUpTo s.head s cells image

-- An image has this log, no sector of its ring is from beyond the log's end, and it replays to the base.
pub record HasLogTo (anchor ring : ℕ) (log : Log) (base image : List Sector) : Type 0 where
  pub says : IsLog image anchor ring log
  pub below : AreBelow (ring_part anchor ring image) log.end
  pub groups : replayed anchor image log.records ≡ base

-- The log of an image is one cover at a position: a record without commits and images that is its own tail.
abbrev pub HasCover : ℕ → ℕ → ℕ → ℕ → List Sector → Type 0
HasCover anchor ring position next image = IsLog image anchor ring (covered (empty_log position next))

-- Nothing is in flight: a log goes on at the head with the next commit number, and each image has it. What is dirty is
-- the newest logged image of its sector; any other logged sector reads as its newest image, and where none is dirty and
-- all is flushed, it is home in each image.
pub record AtRest (s : State) (cells : List Cell) : Type 0 where
  pub log : Log
  pub tail : log.tail ≡ s.tail
  pub end : log.end ≡ s.head
  pub next : log.next ≡ s.durable + 1
  pub images : (image : List Sector) → IsImage cells image → HasLogTo s.anchor s.ring log (base_of s cells) image
  pub logged : (home : ℕ) (sector : Sector) → newest home s.dirty ≡ Some sector → newest home (images_of log.records) ≡ Some sector
  pub home : (home : ℕ) (sector d : Sector) → home < s.anchor → newest home (images_of log.records) ≡ Some sector
      → newest home s.dirty ≡ None → slice_index_or (as_read cells) home d ≡ sector
  pub clean : s.dirty ≡ [] → s.unflushed ≡ false → (image : List Sector) → IsImage cells image → AreHome s.anchor image log.records

-- the record that is being written
abbrev pub item_of : State → LogRecord
item_of s = record { position = s.head; tail = s.tail; first = s.durable + 1; commits = s.taken; images = s.batch }

-- the cover that is being written
abbrev pub cover_record : State → LogRecord
cover_record s = record { position = s.head; tail = s.head; first = s.durable + 1; commits = 0; images = [] }

-- so many first commits of a list write no more different sectors than a record has images, and these are the newest images of those
pub record IsTaken (list : List Commit) (taken : ℕ) (batch : List Image) : Type 0 where
  pub within : taken ≤ length list
  pub newest : IsNewestOf (commit_images (take taken list)) batch
  pub few : length batch ≤ MAX_IMAGES

-- The record goes on where the log ends that was there before it, and has the next commits.
pub record Flies (s : State) (before : List Cell) : Type 0 where
  pub rest : AtRest s before
  pub goes : ExtendsLog s.anchor s.ring rest.log (item_of s)
  pub batch : IsTaken s.list s.taken s.batch

-- the disk after the first write of the record, and after both
abbrev pub half_written : State → List Cell → List Cell
half_written s before = written (sector_of_position s.anchor s.ring s.head) (first_part s.ring (item_of s)) before

abbrev pub fully_written : State → List Cell → List Cell
fully_written s before = written (s.anchor + 1) (rest_part s.ring (item_of s)) (half_written s before)

-- the disk after the write of the cover
abbrev pub cover_written : State → List Cell → List Cell
cover_written s before = written (sector_of_position s.anchor s.ring s.head) (encoded_record (cover_record s)) before

-- a cover may be written where every logged sector is home and flushed
pub record Covers (s : State) (before : List Cell) : Type 0 where
  pub rest : AtRest s before
  pub dirty : s.dirty ≡ []
  pub unflushed : s.unflushed ≡ false

-- what the disk holds at a stage
abbrev pub HoldsAtStage : Stage → State → List Cell → Type 0
HoldsAtStage Free s cells = AtRest s cells
HoldsAtStage Half s cells = (before : List Cell) × Flies s before × (cells ≡ half_written s before)
HoldsAtStage Record s cells = (before : List Cell) × Flies s before × (cells ≡ fully_written s before)
HoldsAtStage Cover s cells = (before : List Cell) × Covers s before × (cells ≡ cover_written s before)
HoldsAtStage (Down fault) s cells = (image : List Sector) → IsImage cells image → ReplaysTo s cells image

-- what the disk of a store holds
abbrev pub HoldsState : State → List Cell → Type 0
HoldsState s cells = HoldsAtStage s.stage s cells
