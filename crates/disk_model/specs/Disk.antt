-- A disk as its callers see it: what a read of each sector gives, and what a stop may leave.
use Rattle.std.specs.Prelude.{◌≡◌, ◌≤◌, ◌⊎◌, ◌+◌, ⊤, ℕ, zero, suc, Bool, true, false, List, [], ◌∷◌, Option, None, Some, Result, Ok, Err, Contains, map}
use Rattle.life_bytes.specs.declared.sector.Sector.{Sector}

-- one sector: what a read gives, and the other values that a stop may leave
pub record Cell : Type 0 where
  pub reads : Sector
  pub others : List Sector

-- a stop may leave this in the sector
abbrev pub MayLeave : Cell → Sector → Type 0
MayLeave cell sector = (sector ≡ cell.reads) ⊎ Contains cell.others sector

-- an image of the disk: for each sector one of the values that a stop may leave in it
abbrev pub IsImage : List Cell → List Sector → Type 0
IsImage [] [] = ⊤
IsImage [] (sector ∷ image) = ⊥
IsImage (cell ∷ cells) [] = ⊥
IsImage (cell ∷ cells) (sector ∷ image) = MayLeave cell sector × IsImage cells image

-- what reads give
abbrev pub as_read : List Cell → List Sector
as_read cells = map (λ cell. cell.reads) cells

-- nothing but this can be read or left
abbrev pub settled : Sector → Cell
settled sector = record { reads = sector; others = [] }

-- a disk that reads as this image, which is all that a stop may leave
abbrev pub settled_as : List Sector → List Cell
settled_as image = map settled image

-- after a flush
abbrev pub flushed : List Cell → List Cell
flushed cells = map (λ cell. settled cell.reads) cells

-- a stop may leave one image alone, which is the disk as it reads
abbrev pub HasOneImage : List Cell → Type 0
HasOneImage cells = cells ≡ flushed cells

-- a sector after a piece was written to it: the piece is read, and until a flush a stop may leave what it might before
abbrev pub overwritten : Sector → Cell → Cell
overwritten piece cell = record { reads = piece; others = cell.reads ∷ cell.others }

-- a sector where a write of a piece failed, which may be left and is not read
abbrev pub maybe_left : Sector → Cell → Cell
maybe_left piece cell = record { reads = cell.reads; others = piece ∷ cell.others }

-- the sectors after these pieces were written, the first of them to the sector `at`
abbrev pub written : ℕ → List Sector → List Cell → List Cell
written at [] cells = cells
written at (piece ∷ pieces) [] = []
written zero (piece ∷ pieces) (cell ∷ cells) = overwritten piece cell ∷ written zero pieces cells
written (suc at) (piece ∷ pieces) (cell ∷ cells) = cell ∷ written at (piece ∷ pieces) cells

-- what the failed write of a piece made of a sector: nothing, or it may be left, or it was written
abbrev pub IsAttempted : Sector → Cell → Cell → Type 0
IsAttempted piece old new = (new ≡ old) ⊎ ((new ≡ maybe_left piece old) ⊎ (new ≡ overwritten piece old))

-- the sectors after a write of these pieces failed: each of its own sectors is attempted, and the others stay
abbrev pub IsPartlyWritten : ℕ → List Sector → List Cell → List Cell → Type 0
IsPartlyWritten at [] old new = new ≡ old
IsPartlyWritten at (piece ∷ pieces) [] new = new ≡ []
IsPartlyWritten at (piece ∷ pieces) (cell ∷ cells) [] = ⊥
IsPartlyWritten zero (piece ∷ pieces) (cell ∷ cells) (now ∷ new) = IsAttempted piece cell now × IsPartlyWritten zero pieces cells new
IsPartlyWritten (suc at) (piece ∷ pieces) (cell ∷ cells) (now ∷ new) = (now ≡ cell) × IsPartlyWritten at (piece ∷ pieces) cells new

-- Time goes on over a call: what a stop since some moment may have left, it might have left before, or in the call.
pub record Elapses (before now : ℕ) (past since : ℕ → List Sector → Type 0) (in_call : List Sector → Type 0) : Type 0 where
  pub later : before ≤ now
  pub nothing_else : (moment : ℕ) (image : List Sector) → moment ≤ before → since moment image → past moment image ⊎ in_call image
  pub keeps : (moment : ℕ) (image : List Sector) → moment ≤ before → past moment image → since moment image

-- the calls of a disk that can fail
pub data CallKind : Type 0 where
  ReadCall : CallKind
  WriteCall : CallKind
  FlushCall : CallKind

-- What a call of this kind is, where a fact says of each kind that calls of that kind alone failed: a call that succeeded
-- is of each, and one that failed of its own.
abbrev pub FailsAs : {T E : Type 0} → CallKind → Result T E → (CallKind → Type 0) → Type 0
FailsAs kind (Ok value) only_failed = (other : CallKind) → only_failed other
FailsAs kind (Err error) only_failed = only_failed kind

-- Whether a disk is to stop, for tests of stops: within the write that is so many writes away, after its first sectors.
pub record Stopping : Type 0 where
  pub writes : ℕ
  pub sectors : ℕ

-- what is armed; whether the disk has stopped, since when each call fails; and how many calls failed so before it went on
pub record Arming : Type 0 where
  pub armed : Option Stopping
  pub stopped : Bool
  pub earlier : ℕ

-- nothing is armed, and the disk goes on and never stopped: all that a disk says that knows no such stops
abbrev pub unarmed : Arming
unarmed = record { armed = None; stopped = false; earlier = 0 }

-- an armed stop that is so many writes away, brought one write nearer: with none left the disk stops
abbrev pub brought_nearer : ℕ → ℕ → Arming → Arming
brought_nearer zero sectors arming = record arming { armed = Some (record { writes = 0; sectors = sectors }); stopped = true }
brought_nearer (suc zero) sectors arming = record arming { armed = Some (record { writes = 0; sectors = sectors }); stopped = true }
brought_nearer (suc (suc writes)) sectors arming = record arming { armed = Some (record { writes = writes + 1; sectors = sectors }) }

-- what a write leaves, whether it fails or not: a disk that has stopped, or on which nothing is armed, stays so
abbrev pub after_write_by : Bool → Option Stopping → Arming → Arming
after_write_by true armed arming = arming
after_write_by false None arming = arming
after_write_by false (Some stopping) arming = brought_nearer stopping.writes stopping.sectors arming

-- the same
abbrev pub after_write : Arming → Arming
after_write arming = after_write_by arming.stopped arming.armed arming

-- what so many writes leave, one after the other
abbrev pub after_writes : ℕ → Arming → Arming
after_writes zero arming = arming
after_writes (suc writes) arming = after_writes writes (after_write arming)

-- what some number of writes leaves
abbrev pub IsAfterWrites : Arming → Arming → Type 0
IsAfterWrites old new = (writes : ℕ) × (new ≡ after_writes writes old)
