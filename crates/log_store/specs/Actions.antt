-- What a step of a store does, and what it leaves of the store: functions of the state, the job and the answer.
use Rattle.std.specs.Prelude.{ℕ, zero, suc, ◌≡◌, ◌≤◌, ◌+◌, ◌-◌, ◌%◌, ◌^◌, nat_le, nat_lt, if◌then◌else◌, Bool, true, false, List, [], ◌∷◌, length, drop, Result, Ok, Err}
use Rattle.life_ports.specs.Faults.{Rose}
use Rattle.disk_model.specs.Disk.{Arming, Cell}
use Rattle.log_record.specs.declared.image.Image.{Image}
use Rattle.log_record.specs.declared.image.Commit.{Commit}
use Rattle.log_record.specs.Encoding.{sector_count, encoded_record}
use Rattle.log_image.specs.Step.{sector_of_position}
use Rattle.log_image.specs.Writes.{first_part, rest_part}
use Rattle.log_batch.specs.Newest.{IsBatch}
use Rattle.log_store.specs.declared.fault.Progress.{Progress}
use Rattle.log_store.specs.declared.fault.Progress.TheVariants.{More, Ended}
use Rattle.log_store.specs.declared.fault.StoreFault.{StoreFault}
use Rattle.log_store.specs.declared.fault.StoreFault.TheVariants.{WriteFault, FlushFault, PositionEnd}
use Rattle.log_store.specs.declared.fault.StoreFault.TheVariants as faults
use Rattle.log_store.specs.declared.store.Job.{Job}
use Rattle.log_store.specs.declared.store.Job.TheVariants.{Clear, Force, Home, Idle, Nothing, WriteBack}
use Rattle.log_store.specs.declared.store.Stage.{Stage}
use Rattle.log_store.specs.declared.store.Stage.TheVariants.{Free, Half, Record, Cover, Down}
use Rattle.log_store.specs.declared.store.Store.{Store}
use Rattle.log_store.specs.Calls.{DeviceCall, Flushes, Made, Writes, has_room, with_batch, none, write, flush}
use Rattle.log_store.specs.Landed.{covered_state, flushed_home, landed, written_home}
use Rattle.log_store.specs.OnDisk.{cover_record, item_of}
use Rattle.log_store.specs.State.{State, state_of}

-- What a step does: it ends a job that has nothing left to do; it finds the store down, or the positions used up; or it
-- makes one call of the disk.
pub data Action : Type 0 where
  end_job : Action
  stay_down : ℕ → Action
  end_positions : Action
  write_record : Action
  write_rest : Action
  flush_record : Action
  write_home : Image → List Image → Action
  flush_home : Action
  write_cover : Action
  flush_cover : Action

-- ---- which action comes

-- While a logged sector is not home, the one with the least home is written. Then what was written home is flushed. The
-- last action comes after that.
abbrev pub home_action : List Image → Bool → Action → Action
home_action (image ∷ rest) unflushed last = write_home image rest
home_action [] true last = flush_home
home_action [] false last = last

-- a write to the ring up to this position, where no record ends past the last one
abbrev pub within_positions : ℕ → Action → Action
within_positions end action = if nat_lt (2 ^ 63) end then end_positions else action

-- making room ends with a cover
abbrev pub room_action : State → Action
room_action s = home_action s.dirty s.unflushed (within_positions (s.head + 1) write_cover)

-- a force ends where every commit is durable
abbrev pub force_action : List Commit → State → Action
force_action [] s = end_job
force_action (commit ∷ list) s = within_positions (s.head + sector_count (length s.batch)) write_record

abbrev pub action_at_rest : Job → State → Action
action_at_rest Force s = force_action s.list s
action_at_rest Clear s = room_action s
action_at_rest Home s = room_action s
action_at_rest WriteBack s = home_action s.dirty s.unflushed end_job
action_at_rest Nothing s = end_job
action_at_rest Idle s = end_job

abbrev pub action_at : Stage → Job → State → Action
action_at Free job s = action_at_rest job s
action_at Half job s = write_rest
action_at Record job s = flush_record
action_at Cover job s = flush_cover
action_at (Down fault) job s = stay_down fault

-- ---- what comes of it

-- its call of the disk
abbrev pub call_of : Action → State → DeviceCall
call_of end_job s = none
call_of (stay_down fault) s = none
call_of end_positions s = none
call_of write_record s = write (sector_of_position s.anchor s.ring s.head) (first_part s.ring (item_of s))
call_of write_rest s = write (s.anchor + 1) (rest_part s.ring (item_of s))
call_of flush_record s = flush
call_of (write_home image rest) s = write image.home (image.sector ∷ [])
call_of flush_home s = flush
call_of write_cover s = write (sector_of_position s.anchor s.ring s.head) (encoded_record (cover_record s))
call_of flush_cover s = flush

-- the state after it, where the call succeeds; a record that passes the ring's end has a rest
abbrev pub done_state : Action → State → State
done_state end_job s = s
done_state (stay_down fault) s = s
done_state end_positions s = s
done_state write_record s = record s { stage = if nat_le (sector_count (length s.batch)) (s.ring - s.head % s.ring) then Record else Half }
done_state write_rest s = record s { stage = Record }
done_state flush_record s = landed s
done_state (write_home image rest) s = written_home s rest
done_state flush_home s = flushed_home s
done_state write_cover s = record s { stage = Cover }
done_state flush_cover s = covered_state s

-- The state after it, where the call fails: a home write leaves the store up and its sector dirty. Any other call takes
-- the store down, with the disk's count of faults then.
abbrev pub failed_state : ℕ → Action → State → State
failed_state now end_job s = s
failed_state now (stay_down fault) s = s
failed_state now end_positions s = s
failed_state now write_record s = record s { stage = Down now }
failed_state now write_rest s = record s { stage = Down now }
failed_state now flush_record s = record s { stage = Down now }
failed_state now (write_home image rest) s = record s { unflushed = true }
failed_state now flush_home s = record s { stage = Down now }
failed_state now write_cover s = record s { stage = Down now }
failed_state now flush_cover s = record s { stage = Down now }

abbrev pub state_after : Result Progress StoreFault → ℕ → Action → State → State
state_after (Ok progress) now action s = done_state action s
state_after (Err WriteFault) now action s = failed_state now action s
state_after (Err FlushFault) now action s = failed_state now action s
state_after (Err PositionEnd) now action s = s
state_after (Err (faults.Down fault)) now action s = s

abbrev pub left_progress : List Commit → Progress
left_progress [] = Ended
left_progress (commit ∷ list) = More

-- whether the flush of sectors written home ends a job
abbrev pub home_progress : Job → Progress
home_progress WriteBack = Ended
home_progress Home = More
home_progress Clear = More
home_progress Force = More
home_progress Nothing = More
home_progress Idle = More

-- whether the flush of a cover ends a job
abbrev pub cover_progress : Job → Progress
cover_progress Home = Ended
cover_progress Clear = More
cover_progress WriteBack = More
cover_progress Force = More
cover_progress Nothing = More
cover_progress Idle = More

-- whether the job goes on after it, where the call succeeds: it ends with its last flush, or where nothing is left to do
abbrev pub progress_of : Action → Job → State → Progress
progress_of end_job job s = Ended
progress_of (stay_down fault) job s = Ended
progress_of end_positions job s = Ended
progress_of write_record job s = More
progress_of write_rest job s = More
progress_of flush_record job s = left_progress (drop s.taken s.list)
progress_of (write_home image rest) job s = More
progress_of flush_home job s = home_progress job
progress_of write_cover job s = More
progress_of flush_cover job s = cover_progress job

-- the job that goes on: where room was made the force does
abbrev pub next_job : Action → Job → Job
next_job flush_cover job = Force
next_job end_job job = job
next_job (stay_down fault) job = job
next_job end_positions job = job
next_job write_record job = job
next_job write_rest job = job
next_job flush_record job = job
next_job (write_home image rest) job = job
next_job flush_home job = job
next_job write_cover job = job

-- A job ends where `Ended` or a fault is answered.
abbrev pub job_after : Result Progress StoreFault → Action → Job → Job
job_after (Ok More) action job = next_job action job
job_after (Ok Ended) action job = Idle
job_after (Err fault) action job = Idle

-- the actions that can succeed
abbrev pub MaySucceed : Action → Type 0
MaySucceed (stay_down fault) = ⊥
MaySucceed end_positions = ⊥
MaySucceed end_job = Unit {0}
MaySucceed write_record = Unit {0}
MaySucceed write_rest = Unit {0}
MaySucceed flush_record = Unit {0}
MaySucceed (write_home image rest) = Unit {0}
MaySucceed flush_home = Unit {0}
MaySucceed write_cover = Unit {0}
MaySucceed flush_cover = Unit {0}

-- What may be answered: a write fault comes of a write, a flush fault of a flush, and the others of nothing but what they say.
abbrev pub IsStepAnswer : Result Progress StoreFault → Action → Job → State → Type 0
IsStepAnswer (Ok progress) action job s = MaySucceed action × (progress ≡ progress_of action job s)
IsStepAnswer (Err WriteFault) action job s = Writes (call_of action s)
IsStepAnswer (Err FlushFault) action job s = Flushes (call_of action s)
IsStepAnswer (Err PositionEnd) action job s = action ≡ end_positions
IsStepAnswer (Err (faults.Down fault)) action job s = action ≡ stay_down fault

-- the disk's counts of faults before and after: it does not fall, and rose where a call failed
abbrev pub CountsFaults : Result Progress StoreFault → ℕ → ℕ → Type 0
CountsFaults (Ok progress) before now = before ≤ now
CountsFaults (Err WriteFault) before now = (before ≤ now) × Rose before now
CountsFaults (Err FlushFault) before now = (before ≤ now) × Rose before now
CountsFaults (Err PositionEnd) before now = now ≡ before
CountsFaults (Err (faults.Down fault)) before now = now ≡ before

-- The action was made, by a job from a state over a disk, with this answer: the store after it.
pub record IsDoneBy {D : Type 0} (known : Bool) (cells : D → List Cell) (sectors : D → ℕ) (arming : D → Arming) (faults : D → ℕ)
    (action : Action) (result : Result Progress StoreFault) (was : Job) (s : State) (disk : D) (new : Store D) : Type 0 where
  pub answer : IsStepAnswer result action was s
  pub state : state_of new ≡ state_after result (faults new.disk) action s
  pub job : new.job ≡ job_after result action was
  pub call : Made known cells arming (call_of action s) result disk new.disk
  pub size : sectors new.disk ≡ sectors disk
  pub count : CountsFaults result (faults disk) (faults new.disk)

-- ---- a step

-- A force at rest gathers a record first, where commits wait.
abbrev pub gathers_at_rest : Job → List Commit → Bool
gathers_at_rest Force [] = false
gathers_at_rest Force (commit ∷ list) = true
gathers_at_rest Clear list = false
gathers_at_rest Home list = false
gathers_at_rest WriteBack list = false
gathers_at_rest Nothing list = false
gathers_at_rest Idle list = false

abbrev pub gathers : Stage → Job → List Commit → Bool
gathers Free job list = gathers_at_rest job list
gathers Half job list = false
gathers Record job list = false
gathers Cover job list = false
gathers (Down fault) job list = false

-- the record that is gathered has the longest list of next commits that it may; where none is, the last one stays
abbrev pub IsGathered : Bool → State → State → Type 0
IsGathered true old new = IsBatch old.list new.taken new.batch
IsGathered false old new = (new.batch ≡ old.batch) × (new.taken ≡ old.taken)

-- a force whose record has no room makes room
abbrev pub turned_force : List Commit → State → Job
turned_force [] s = Force
turned_force (commit ∷ list) s = if has_room s (length s.batch) then Force else Clear

abbrev pub job_at_rest : Job → State → Job
job_at_rest Force s = turned_force s.list s
job_at_rest Clear s = Clear
job_at_rest Home s = Home
job_at_rest WriteBack s = WriteBack
job_at_rest Nothing s = Nothing
job_at_rest Idle s = Idle

-- the job with which a step is made
abbrev pub step_job : Stage → Job → State → Job
step_job Free job s = job_at_rest job s
step_job Half job s = job
step_job Record job s = job
step_job Cover job s = job
step_job (Down fault) job s = job

-- its action
abbrev pub step_action : Stage → Job → State → Action
step_action stage job s = action_at stage (step_job stage job s) s

-- One step of a store: a record is gathered where a force asks for one, and the action that comes is made.
pub record IsStep {D : Type 0} (known : Bool) (cells : D → List Cell) (sectors : D → ℕ) (arming : D → Arming) (faults : D → ℕ)
    (result : Result Progress StoreFault) (old new : Store D) : Type 0 where
  pub batch : IsGathered (gathers old.stage old.job old.queue.items) (state_of old) (state_of new)
  pub done : IsDoneBy known cells sectors arming faults
      (step_action old.stage old.job (with_batch (state_of old) (state_of new))) result
      (step_job old.stage old.job (with_batch (state_of old) (state_of new)))
      (with_batch (state_of old) (state_of new)) old.disk new

-- ---- a whole job

-- so many steps, one after the other, each of which answered that the job goes on
abbrev pub GoesOn : {D : Type 0} → Bool → (D → List Cell) → (D → ℕ) → (D → Arming) → (D → ℕ) → ℕ → Store D → Store D → Type 0
GoesOn {D} known cells sectors arming faults zero old new = new ≡ old
GoesOn {D} known cells sectors arming faults (suc n) old new =
    (middle : Store D) × GoesOn known cells sectors arming faults n old middle × IsStep known cells sectors arming faults (Ok More) middle new

-- A job's steps up to the one that ends it, by its end or a fault, which is what the job answers.
pub record IsWholeJob {D : Type 0} (known : Bool) (cells : D → List Cell) (sectors : D → ℕ) (arming : D → Arming) (faults : D → ℕ)
    (result : Result Progress StoreFault) (old new : Store D) : Type 0 where
  pub count : ℕ
  pub last : Store D
  pub before : GoesOn known cells sectors arming faults count old last
  pub end : IsStep known cells sectors arming faults result last new

-- a job that has nothing to do where nothing is in flight
abbrev pub HasNothing : Job → State → Type 0
HasNothing Force s = s.list ≡ []
HasNothing WriteBack s = (s.dirty ≡ []) × (s.unflushed ≡ false)
HasNothing Nothing s = Unit {0}
HasNothing Idle s = Unit {0}
HasNothing Clear s = ⊥
HasNothing Home s = ⊥

-- the answer of the step that ends a job
abbrev pub last_answer : {T : Type 0} → Result T StoreFault → Result Progress StoreFault
last_answer (Ok value) = Ok Ended
last_answer (Err fault) = Err fault
