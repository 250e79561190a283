-- What jobs come to: what they reach, how long they may take, where the positions end, and their faults.
use Rattle.std.specs.Prelude.{ℕ, ◌≡◌, ◌≢◌, ◌⊎◌, ◌≤◌, ◌<◌, ◌+◌, ◌-◌, ◌*◌, ◌^◌, nat_lt, if◌then◌else◌, false, [], length, Option, Some, None}
use Rattle.life_limits.specs.declared.TheConstants.{MAX_RECORD_SECTORS}
use Rattle.life_ports.specs.Faults.{Rose}
use Rattle.log_record.specs.Encoding.{sector_count}
use Rattle.log_store.specs.declared.fault.StoreFault.{StoreFault}
use Rattle.log_store.specs.declared.fault.StoreFault.TheVariants.{WriteFault, FlushFault, PositionEnd}
use Rattle.log_store.specs.declared.fault.StoreFault.TheVariants as faults
use Rattle.log_store.specs.declared.store.Job.{Job}
use Rattle.log_store.specs.declared.store.Job.TheVariants.{Clear, Force, Home, Idle, Nothing, WriteBack}
use Rattle.log_store.specs.declared.store.Stage.{Stage}
use Rattle.log_store.specs.declared.store.Stage.TheVariants.{Free, Half, Record, Cover, Down}
use Rattle.log_store.specs.State.{State}

-- what a job is for: room is made for a force alone
abbrev pub goal_of : Job → Job
goal_of Clear = Force
goal_of Force = Force
goal_of Home = Home
goal_of WriteBack = WriteBack
goal_of Nothing = Nothing
goal_of Idle = Idle

-- what a job that is done has reached
abbrev pub IsDone : Job → State → Type 0
IsDone Force s = s.list ≡ []
IsDone Clear s = s.list ≡ []
IsDone Home s = (s.dirty ≡ []) × (s.unflushed ≡ false) × (s.head ≡ s.tail + 1)
IsDone WriteBack s = (s.dirty ≡ []) × (s.unflushed ≡ false)
IsDone Nothing s = Unit {0}
IsDone Idle s = Unit {0}

-- how many more steps a job may take where nothing is in flight, apart from those of each commit and each dirty sector
abbrev pub steps_at_rest : Job → State → ℕ
steps_at_rest Force s = if nat_lt s.ring ((s.head - s.tail) + MAX_RECORD_SECTORS + 1) then 10 else 5
steps_at_rest Clear s = if s.unflushed then 8 else 7
steps_at_rest Home s = if s.unflushed then 8 else 7
steps_at_rest WriteBack s = if s.unflushed then 8 else 7
steps_at_rest Nothing s = 1
steps_at_rest Idle s = 1

abbrev pub steps_at : Stage → Job → State → ℕ
steps_at Free job s = steps_at_rest job s
steps_at Half job s = 4
steps_at Record job s = 3
steps_at Cover job s = 6
steps_at (Down fault) job s = 0

-- a bound of the steps that are left of a job
abbrev pub steps_left : State → Job → ℕ
steps_left s job = 600 * length s.list + 2 * length s.dirty + steps_at s.stage job s

-- A write of the log failed, and the store is down, with the disk's count then. No job that only writes back comes to it.
abbrev pub LogFails : State → Job → ℕ → Type 0
LogFails new was now = (new.stage ≡ Down now) × (was ≢ WriteBack)

-- a cover comes next, and would end past the last position
abbrev pub CoverEndsPast : State → Type 0
CoverEndsPast s = (s.dirty ≡ []) × (s.unflushed ≡ false) × (2 ^ 63 < s.head + 1)

-- Where nothing is in flight, the step that comes is the write of a record, a cover included, that would end past the last
-- position, 2^63. A force gathers a record of so many images first, and comes to a cover only where that has no room.
abbrev pub EndsPast : Job → State → ℕ → Type 0
EndsPast Force s images = (s.list ≢ []) × (
    (((s.head - s.tail) + sector_count images + 1 ≤ s.ring) × (2 ^ 63 < s.head + sector_count images))
    ⊎ ((s.ring < (s.head - s.tail) + sector_count images + 1) × CoverEndsPast s))
EndsPast Clear s images = CoverEndsPast s
EndsPast Home s images = CoverEndsPast s
EndsPast WriteBack s images = ⊥
EndsPast Nothing s images = ⊥
EndsPast Idle s images = ⊥

abbrev pub EndsPastAt : Stage → Job → State → ℕ → Type 0
EndsPastAt Free job s images = EndsPast job s images
EndsPastAt Half job s images = ⊥
EndsPastAt Record job s images = ⊥
EndsPastAt Cover job s images = ⊥
EndsPastAt (Down fault) job s images = ⊥

-- the head, the tail and the durable number stay
pub record PositionsStay (old new : State) : Type 0 where
  pub head : new.head ≡ old.head
  pub tail : new.tail ≡ old.tail
  pub durable : new.durable ≡ old.durable

-- a cover is flushed: it is the tail, and the head is behind it
pub record Covered (old new : State) : Type 0 where
  pub head : new.head ≡ old.head + 1
  pub tail : new.tail ≡ old.head
  pub durable : new.durable ≡ old.durable

-- 1 where the log is no longer than a cover: the next record pays for the cover
abbrev pub owed : State → ℕ
owed s = 1 - (s.head - (s.tail + 1))

-- the covers that a job writes and no record pays for
abbrev pub covers_of : Job → ℕ
covers_of Home = 1
covers_of Clear = 0
covers_of Force = 0
covers_of WriteBack = 0
covers_of Nothing = 0
covers_of Idle = 0

-- How far the head rises: a commit pays for a record of the longest kind and a cover in front of it, and so many covers
-- are paid for by themselves, of which some are still to come.
abbrev pub Rises : ℕ → ℕ → State → State → Type 0
Rises covers left old new =
    new.head + owed old + (MAX_RECORD_SECTORS + 1) * old.durable + left
    ≤ old.head + owed new + (MAX_RECORD_SECTORS + 1) * new.durable + covers

-- What a job answers in place of its end, with the state after it and the disk's counts before and after it. After a
-- failed home write a sector is still dirty, and the store goes on. The job comes to the positions' end where the next
-- record, a cover included, would end past the last one.
abbrev pub IsFault : StoreFault → Job → State → ℕ → ℕ → Type 0
IsFault WriteFault job new before now = Rose before now × (LogFails new job now ⊎ ((new.stage ≡ Free) × (new.dirty ≢ [])))
IsFault FlushFault job new before now = Rose before now × (new.stage ≡ Down now)
IsFault PositionEnd job new before now = (new.stage ≡ Free) × EndsPast (goal_of job) new (length new.batch)
IsFault (faults.Down fault) job new before now = new.stage ≡ Down fault

-- the count that a store that is down keeps
abbrev pub down_count : Stage → Option ℕ
down_count (Down fault) = Some fault
down_count Free = None
down_count Half = None
down_count Record = None
down_count Cover = None
