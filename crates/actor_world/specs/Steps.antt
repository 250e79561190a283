-- One atomic step of one actor. A step that takes a lock waits while another holds it: then there is no step.
use Rattle.std.specs.Prelude.{◌≡◌, ◌+◌, ◌-◌, ◌++◌, ◌∷◌, ℕ, Bool, true, false, List, [], Option, None, Some, Result, Ok, Err}
use Rattle.disk_model.specs.Disk.{Arming, Cell}
use Rattle.log_record.specs.declared.image.Commit.{Commit}
use Rattle.log_record.specs.declared.image.Image.{Image}
use Rattle.log_store.specs.declared.fault.Progress.{Progress}
use Rattle.log_store.specs.declared.fault.Progress.TheVariants.{More, Ended}
use Rattle.log_store.specs.declared.fault.StoreFault.{StoreFault}
use Rattle.log_store.specs.declared.fault.StoreFault.TheVariants as faults
use Rattle.log_store.specs.declared.store.Job.{Job}
use Rattle.log_store.specs.declared.store.Job.TheVariants as job
use Rattle.log_store.specs.State.{State, state_of}
use Rattle.log_store.specs.Outcome.{down_count}
use Rattle.log_store.specs.Actions.{IsStep}
use Rattle.life_table.specs.declared.types.Call.{Call}
use Rattle.life_table.specs.declared.types.Call.TheVariants as call
use Rattle.life_table.specs.declared.types.Reply.{Reply}
use Rattle.life_table.specs.declared.types.Reply.TheVariants as reply
use Rattle.life_table.specs.declared.types.Event.{Event}
use Rattle.life_table.specs.declared.types.Event.TheVariants.{Called}
use Rattle.life_table.specs.History.{is_change}
use Rattle.actor_world.specs.declared.memory.Place.{Place}
use Rattle.actor_world.specs.declared.memory.Place.TheVariants as place
use Rattle.actor_world.specs.declared.memory.Doing.{Doing}
use Rattle.actor_world.specs.declared.memory.Memory.{Memory}
use Rattle.actor_world.specs.Caches.{actor_at, moved_to, ended}
use Rattle.actor_world.specs.Moves.{Move, move_of}
use Rattle.actor_world.specs.World.{History, World, told_if}

-- What is told of a commit: whether it encodes the change from one history to the next. What is proved of the bytes of a
-- commit fills it in.
abbrev pub Telling : Type 1
Telling = History → History → Commit → Type 0

-- How a disk looks to a store: whether its contents are known, its contents, its size, the stop that is armed, and its
-- count of faults.
pub record DiskFace (D : Type 0) : Type 0 where
  pub known : Bool
  pub cells : D → List Cell
  pub sectors : D → ℕ
  pub arming : D → Arming
  pub faults : D → ℕ

-- ---- a step of a group

-- whether a step makes a change
abbrev pub makes_change : Option Event → Bool
makes_change None = false
makes_change (Some event) = is_change event

-- a change joins the queue as one commit, behind all others; nothing else does
abbrev pub Pushes : Telling → Bool → History → History → List Commit → List Commit → Type 0
Pushes tells true old new before after = (commit : Commit) × tells old new commit × (after ≡ before ++ commit ∷ [])
Pushes tells false old new before after = after ≡ before

-- The step that the table and the memory determine. It leaves the log's lock, the store and the disk.
pub record IsGroupStep {D : Type 0} (tells : Telling) (a : ℕ) (doing : Doing) (old new : World D) : Type 0 where
  pub move : Move
  pub made : move_of a old.history.table old.memory ≡ Some move
  pub history : new.history ≡ told_if a doing.«from» move.event old.history
  pub memory : new.memory ≡ move.memory
  pub queue : Pushes tells (makes_change move.event) old.history new.history old.queue new.queue
  pub holder : new.holder ≡ old.holder
  pub store : new.store ≡ old.store
  pub first_commit : new.first_commit ≡ old.first_commit

-- ---- a step of a sync or a home

-- what happens where a step has an answer for its call
abbrev pub answered : Call → Option Reply → Option Event
answered made None = None
answered made (Some answer) = Some (Called made answer)

-- where there is an answer the call ends, else it goes on at this place
abbrev pub answered_memory : ℕ → Doing → Option Reply → Place → Memory → Memory
answered_memory a doing None later m = moved_to a doing later m
answered_memory a doing (Some answer) later m = ended a m

-- and the log's lock is given back, else the actor has it
abbrev pub answered_holder : ℕ → Option Reply → Option ℕ
answered_holder a None = Some a
answered_holder a (Some answer) = None

-- What a step towards the log leaves of the rest: with an answer the call ends and gives back the log's lock, without one
-- it goes on.
pub record IsLogTurn {D : Type 0} (a : ℕ) (doing : Doing) (made : Call) (answer : Option Reply) (next : Place) (old new : World D) : Type 0 where
  pub history : new.history ≡ told_if a doing.«from» (answered made answer) old.history
  pub memory : new.memory ≡ answered_memory a doing answer next old.memory
  pub holder : new.holder ≡ answered_holder a answer
  pub first_commit : new.first_commit ≡ old.first_commit

-- how many first changes of the mount are durable, where the first commit has this number
abbrev pub covered_answer : ℕ → State → Reply
covered_answer first_commit s = reply.Covered ((s.durable + 1) - first_commit)

-- a store that is down answers so
abbrev pub or_down : Option ℕ → Option Reply → Option Reply
or_down None answer = answer
or_down (Some fault) answer = Some (reply.Down fault)

-- a sync ends at its first step where nothing is pending, a home where no logged sector is dirty
abbrev pub pending_answer : ℕ → State → List Commit → Option Reply
pending_answer first_commit s [] = Some (covered_answer first_commit s)
pending_answer first_commit s (commit ∷ list) = None

abbrev pub dirty_answer : List Image → Option Reply
dirty_answer [] = Some reply.Done
dirty_answer (image ∷ images) = None

-- the job that begins where a call goes on
abbrev pub begun_job : Job → Option Reply → Job
begun_job begun None = begun
begun_job begun (Some answer) = job.Idle

-- the state of a store that takes these commits behind its own
abbrev pub taken_all : List Commit → State → State
taken_all commits s = record s { list = s.list ++ commits }

abbrev pub take_answer : ℕ → State → Option Reply
take_answer first_commit s = or_down (down_count s.stage) (pending_answer first_commit s s.list)

abbrev pub home_answer : State → Option Reply
home_answer s = or_down (down_count s.stage) (dirty_answer s.dirty)

-- the first step of a sync: the lock is free, and the store takes all queued commits
pub record IsTake {D : Type 0} (a : ℕ) (doing : Doing) (old new : World D) : Type 0 where
  pub free : old.holder ≡ None
  pub turn : IsLogTurn a doing call.Sync (take_answer old.first_commit (state_of new.store)) place.Force old new
  pub queue : new.queue ≡ []
  pub state : state_of new.store ≡ taken_all old.queue (state_of old.store)
  pub job : new.store.job ≡ begun_job job.Force (take_answer old.first_commit (state_of new.store))
  pub disk : new.store.disk ≡ old.store.disk

-- the first step of a home
pub record IsHomeBegun {D : Type 0} (a : ℕ) (doing : Doing) (old new : World D) : Type 0 where
  pub free : old.holder ≡ None
  pub turn : IsLogTurn a doing call.Home (home_answer (state_of old.store)) place.WriteHome old new
  pub queue : new.queue ≡ old.queue
  pub state : state_of new.store ≡ state_of old.store
  pub job : new.store.job ≡ begun_job job.Home (home_answer (state_of old.store))
  pub disk : new.store.disk ≡ old.store.disk

-- what the end of a job answers
abbrev pub end_answer : Call → ℕ → State → Reply
end_answer call.Sync first_commit s = covered_answer first_commit s
end_answer _ first_commit s = reply.Done

-- the answer of a call whose job made a step, where that ended it
abbrev pub progress_answer : Call → ℕ → State → Result Progress StoreFault → Option Reply
progress_answer made first_commit s (Ok More) = None
progress_answer made first_commit s (Ok Ended) = Some (end_answer made first_commit s)
progress_answer made first_commit s (Err faults.WriteFault) = Some reply.WriteFault
progress_answer made first_commit s (Err faults.FlushFault) = Some reply.FlushFault
progress_answer made first_commit s (Err faults.PositionEnd) = Some reply.PositionEnd
progress_answer made first_commit s (Err (faults.Down fault)) = Some (reply.Down fault)

-- a later step: the store makes one step of its job
pub record IsAdvanced {D : Type 0} (face : DiskFace D) (a : ℕ) (doing : Doing) (made : Call) (old new : World D) : Type 0 where
  pub result : Result Progress StoreFault
  pub step : IsStep face.known face.cells face.sectors face.arming face.faults result old.store new.store
  pub turn : IsLogTurn a doing made (progress_answer made old.first_commit (state_of new.store) result) doing.place old new
  pub queue : new.queue ≡ old.queue

-- ---- any step

-- of a sync at its place
abbrev pub SyncStep : {D : Type 0} → DiskFace D → ℕ → Doing → Place → World D → World D → Type 0
SyncStep {D} face a doing place.Take old new = IsTake a doing old new
SyncStep {D} face a doing place.Force old new = IsAdvanced face a doing call.Sync old new
SyncStep {D} face a doing _ old new = ⊥

-- of a home
abbrev pub HomeStep : {D : Type 0} → DiskFace D → ℕ → Doing → Place → World D → World D → Type 0
HomeStep {D} face a doing place.TakeLog old new = IsHomeBegun a doing old new
HomeStep {D} face a doing place.WriteHome old new = IsAdvanced face a doing call.Home old new
HomeStep {D} face a doing _ old new = ⊥

-- of any call
abbrev pub StepOf : {D : Type 0} → DiskFace D → Telling → ℕ → Doing → Call → World D → World D → Type 0
StepOf {D} face tells a doing call.Sync old new = SyncStep face a doing doing.place old new
StepOf {D} face tells a doing call.Home old new = HomeStep face a doing doing.place old new
StepOf {D} face tells a doing _ old new = IsGroupStep tells a doing old new

-- One atomic step of an actor in a call.
pub record Step {D : Type 0} (face : DiskFace D) (tells : Telling) (a : ℕ) (old new : World D) : Type 0 where
  pub doing : Doing
  pub inside : (actor_at old.memory a).doing ≡ Some doing
  pub step : StepOf face tells a doing doing.call old new
