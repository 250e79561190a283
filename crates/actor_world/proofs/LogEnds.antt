-- What a step of the store leaves that ends a job, and why it answers a fault.
use Rattle.std.proofs.Common.{◌≡◌, ◌<◌, ◌≤◌, ◌+◌, ◌^◌, ℕ, Bool, true, false, List, [], ◌∷◌, None, Result, Ok, Err, if◌then◌else◌, nat_lt, length, drop, refl, sym, ap, subst, ◌∙◌, arith}
use Rattle.std.proofs.lemmas.Bool.Decides.{nat_tests}
use Rattle.std.proofs.lemmas.Option.{none-some}
use Rattle.std.proofs.lemmas.Bool.{false≢true, true≢false}
use Rattle.life_limits.specs.declared.TheConstants.{MAX_IMAGES, MAX_RECORD_SECTORS}
use Rattle.life_ports.specs.Faults.{Rose}
use Rattle.log_record.specs.declared.image.Commit.{Commit}
use Rattle.log_record.specs.declared.image.Image.{Image}
use Rattle.log_record.specs.Encoding.{sector_count}
use Rattle.log_store.specs.declared.fault.Progress.{Progress}
use Rattle.log_store.specs.declared.fault.Progress.TheVariants.{Ended}
use Rattle.log_store.specs.declared.fault.StoreFault.{StoreFault}
use Rattle.log_store.specs.declared.fault.StoreFault.TheVariants as faults
use Rattle.log_store.specs.declared.store.Job.{Job}
use Rattle.log_store.specs.declared.store.Job.TheVariants.{Clear, Force, Home, Idle, Nothing, WriteBack}
use Rattle.log_store.specs.declared.store.Stage.{Stage}
use Rattle.log_store.specs.declared.store.Stage.TheVariants.{Cover, Down, Free, Half, Record}
use Rattle.log_store.specs.declared.store.Store.{Store}
use Rattle.log_store.specs.State.{State, state_of}
use Rattle.log_store.specs.Calls.{has_room, with_batch}
use Rattle.log_store.specs.Actions.{Action, CountsFaults, IsGathered, IsStep, MaySucceed, action_at, action_at_rest, cover_progress, done_state, end_job, end_positions, flush_cover, flush_home, flush_record, force_action, gathers, gathers_at_rest, home_action, home_progress, job_at_rest, left_progress, progress_of, room_action, stay_down, step_action, step_job, turned_force, within_positions, write_cover, write_home, write_record, write_rest}
use Rattle.log_store.specs.Outcome.{down_count, goal_of}
use Rattle.actor_world.specs.Steps.{DiskFace}
use Rattle.actor_world.proofs.StoreJobs.{ended_more, is_down, rest_goal, rest_up, within_is}

-- ---- a force ends with nothing left

abbrev is_end : Action → Bool
is_end end_job = true
is_end _ = false

home_no_end : (images : List Image) (unflushed : Bool) (last : Action) → is_end last ≡ false → is_end (home_action images unflushed last) ≡ false
home_no_end (image ∷ rest) unflushed last not_so = refl
home_no_end [] true last not_so = refl
home_no_end [] false last not_so = not_so

room_no_end : (s : State) → is_end (room_action s) ≡ false
room_no_end s = home_no_end s.dirty s.unflushed (within_positions (s.head + 1) write_cover) (within_is is_end (s.head + 1) write_cover refl refl)

force_no_end : (list : List Commit) (s : State) → 0 < length list → is_end (force_action list s) ≡ false
force_no_end [] s some = absurd (omega arith)
force_no_end (commit ∷ list) s some = within_is is_end (s.head + sector_count (length s.batch)) write_record refl refl

turned_no_end : (list : List Commit) (s : State) → s.list ≡ list → 0 < length list → is_end (action_at_rest (turned_force list s) s) ≡ false
turned_no_end [] s is some = absurd (omega arith)
turned_no_end (commit ∷ list) s is some =
    let forced : is_end (force_action s.list s) ≡ false = force_no_end s.list s (subst (λ (cs : List Commit). 0 < length cs) (sym is) some) in
    elim (has_room s (length s.batch)) as (λ b. is_end (action_at_rest (if b then Force else Clear) s) ≡ false) [ true ↦ forced | false ↦ room_no_end s ]

rest_no_end : (going : Job) (s : State) → goal_of going ≡ Force → 0 < length s.list → is_end (action_at_rest (job_at_rest going s) s) ≡ false
rest_no_end Force s goal some = turned_no_end s.list s refl some
rest_no_end Clear s goal some = room_no_end s
rest_no_end Home s goal some = room_no_end s
rest_no_end WriteBack s goal some = let e : WriteBack ≡ Force = goal in absurd cc
rest_no_end Nothing s goal some = let e : Nothing ≡ Force = goal in absurd cc
rest_no_end Idle s goal some = let e : Idle ≡ Force = goal in absurd cc

step_no_end : (stage : Stage) (going : Job) (s : State) → goal_of going ≡ Force → 0 < length s.list → is_end (step_action stage going s) ≡ false
step_no_end Free going s goal some = rest_no_end going s goal some
step_no_end Half going s goal some = refl
step_no_end Record going s goal some = refl
step_no_end Cover going s goal some = refl
step_no_end (Down fault) going s goal some = refl

step_goal : (stage : Stage) (going : Job) (s : State) → goal_of (step_job stage going s) ≡ goal_of going
step_goal Free going s = rest_goal going s
step_goal Half going s = refl
step_goal Record going s = refl
step_goal Cover going s = refl
step_goal (Down fault) going s = refl

left_none : (list : List Commit) → Ended ≡ left_progress list → list ≡ []
left_none [] is = refl
left_none (commit ∷ list) is = absurd (ended_more is)

home_goes_on : (going : Job) → goal_of going ≡ Force → Ended ≡ home_progress going → ⊥
home_goes_on WriteBack goal is = let e : WriteBack ≡ Force = goal in cc
home_goes_on Home goal is = ended_more is
home_goes_on Clear goal is = ended_more is
home_goes_on Force goal is = ended_more is
home_goes_on Nothing goal is = ended_more is
home_goes_on Idle goal is = ended_more is

cover_goes_on : (going : Job) → goal_of going ≡ Force → Ended ≡ cover_progress going → ⊥
cover_goes_on Home goal is = let e : Home ≡ Force = goal in cc
cover_goes_on WriteBack goal is = ended_more is
cover_goes_on Clear goal is = ended_more is
cover_goes_on Force goal is = ended_more is
cover_goes_on Nothing goal is = ended_more is
cover_goes_on Idle goal is = ended_more is

ended_list : (action : Action) (going : Job) (s : State) → is_end action ≡ false → goal_of going ≡ Force → MaySucceed action → Ended ≡ progress_of action going s → (done_state action s).list ≡ []
ended_list end_job going s not_so goal may is = absurd (true≢false not_so)
ended_list (stay_down fault) going s not_so goal may is = absurd may
ended_list end_positions going s not_so goal may is = absurd may
ended_list write_record going s not_so goal may is = absurd (ended_more is)
ended_list write_rest going s not_so goal may is = absurd (ended_more is)
ended_list flush_record going s not_so goal may is = left_none (drop s.taken s.list) is
ended_list (write_home image rest) going s not_so goal may is = absurd (ended_more is)
ended_list flush_home going s not_so goal may is = absurd (home_goes_on going goal is)
ended_list write_cover going s not_so goal may is = absurd (ended_more is)
ended_list flush_cover going s not_so goal may is = absurd (cover_goes_on going goal is)

-- a force that ends has made every commit durable
pub force_ends : {D : Type 0} (face : DiskFace D) (old new : Store D) → IsStep face.known face.cells face.sectors face.arming face.faults (Ok Ended) old new
    → goal_of old.job ≡ Force → 0 < length (state_of old).list → (state_of new).list ≡ []
force_ends {D = D} face old new step goal some =
    let s : State = with_batch (state_of old) (state_of new) in
    ap (λ (x : State). x.list) step.done.state
    ∙ ended_list (step_action old.stage old.job s) (step_job old.stage old.job s) s (step_no_end old.stage old.job s goal some) (step_goal old.stage old.job s ∙ goal) step.done.answer.0 step.done.answer.1

-- ---- the positions are used up

abbrev is_past : Action → Bool
is_past end_positions = true
is_past _ = false

tested_past : (b : Bool) (end : ℕ) (action : Action) → nat_lt (2 ^ 63) end ≡ b → is_past action ≡ false → is_past (if b then end_positions else action) ≡ true → 2 ^ 63 < end
tested_past true end action test not_so is = grind (arith, nat_tests)
tested_past false end action test not_so is = absurd (true≢false (sym is ∙ not_so))

within_past : (end : ℕ) (action : Action) → is_past action ≡ false → is_past (within_positions end action) ≡ true → 2 ^ 63 < end
within_past end action not_so is = tested_past (nat_lt (2 ^ 63) end) end action refl not_so is

home_past : (images : List Image) (unflushed : Bool) (last : Action) → is_past (home_action images unflushed last) ≡ true → is_past last ≡ true
home_past (image ∷ rest) unflushed last is = absurd (false≢true is)
home_past [] true last is = absurd (false≢true is)
home_past [] false last is = is

room_past : (s : State) → is_past (room_action s) ≡ true → 2 ^ 63 < s.head + MAX_RECORD_SECTORS
room_past s is =
    let past = within_past (s.head + 1) write_cover refl (home_past s.dirty s.unflushed (within_positions (s.head + 1) write_cover) is) in
    omega (arith, past)

force_past : (list : List Commit) (s : State) → length s.batch ≤ MAX_IMAGES → is_past (force_action list s) ≡ true → 2 ^ 63 < s.head + MAX_RECORD_SECTORS
force_past [] s few is = absurd (false≢true is)
force_past (commit ∷ list) s few is =
    let past : 2 ^ 63 < s.head + sector_count (length s.batch) = within_past (s.head + sector_count (length s.batch)) write_record refl is in
    omega (arith, past, few)

turned_past : (list : List Commit) (s : State) → s.list ≡ list → (0 < length list → length s.batch ≤ MAX_IMAGES) → is_past (action_at_rest (turned_force list s) s) ≡ true → 2 ^ 63 < s.head + MAX_RECORD_SECTORS
turned_past [] s none few is = absurd (true≢false (sym is ∙ ap (λ (cs : List Commit). is_past (force_action cs s)) none))
turned_past (commit ∷ list) s some few is =
    elim (has_room s (length s.batch)) as (λ b. is_past (action_at_rest (if b then Force else Clear) s) ≡ true → 2 ^ 63 < s.head + MAX_RECORD_SECTORS) [
      | true ↦ λ past. force_past s.list s (few (omega arith)) past
      | false ↦ λ past. room_past s past
    ] is

some_gathers : (list : List Commit) → 0 < length list → gathers_at_rest Force list ≡ true
some_gathers [] some = absurd (omega arith)
some_gathers (commit ∷ list) some = refl

rest_past : (going : Job) (s : State) → (gathers_at_rest going s.list ≡ true → length s.batch ≤ MAX_IMAGES) → is_past (action_at_rest (job_at_rest going s) s) ≡ true → 2 ^ 63 < s.head + MAX_RECORD_SECTORS
rest_past Force s few is = turned_past s.list s refl (λ some. few (some_gathers s.list some)) is
rest_past Clear s few is = room_past s is
rest_past Home s few is = room_past s is
rest_past WriteBack s few is = absurd (false≢true (home_past s.dirty s.unflushed end_job is))
rest_past Nothing s few is = absurd (false≢true is)
rest_past Idle s few is = absurd (false≢true is)

step_past : (stage : Stage) (going : Job) (s : State) → (gathers stage going s.list ≡ true → length s.batch ≤ MAX_IMAGES) → is_past (step_action stage going s) ≡ true → 2 ^ 63 < s.head + MAX_RECORD_SECTORS
step_past Free going s few is = rest_past going s few is
step_past Half going s few is = absurd (false≢true is)
step_past Record going s few is = absurd (false≢true is)
step_past Cover going s few is = absurd (false≢true is)
step_past (Down fault) going s few is = absurd (false≢true is)

gathered_few : (b : Bool) (old new : State) → IsGathered b old new → b ≡ true → length new.batch ≤ MAX_IMAGES
gathered_few true old new gathered is = gathered.few
gathered_few false old new gathered is = absurd (false≢true is)

pub ends_past : {D : Type 0} (face : DiskFace D) (old new : Store D) → IsStep face.known face.cells face.sectors face.arming face.faults (Err faults.PositionEnd) old new
    → 2 ^ 63 < (state_of new).head + MAX_RECORD_SECTORS
ends_past {D = D} face old new step =
    let s : State = with_batch (state_of old) (state_of new) in
    let past = step_past old.stage old.job s (λ is. gathered_few (gathers old.stage old.job old.queue.items) (state_of old) (state_of new) step.batch is) (ap is_past step.done.answer) in
    let head : (state_of new).head ≡ s.head = ap (λ (x : State). x.head) step.done.state in
    omega (arith, past, head)

-- ---- a store that is up does not answer that it is down

up_stage : (stage : Stage) (going : Job) (s : State) → down_count stage ≡ None → is_down (action_at stage going s) ≡ true → ⊥
up_stage Free going s up is = true≢false (sym is ∙ rest_up going s)
up_stage Half going s up is = false≢true is
up_stage Record going s up is = false≢true is
up_stage Cover going s up is = false≢true is
up_stage (Down fault) going s up is = none-some fault (sym up)

pub stays_up : {D : Type 0} (face : DiskFace D) (fault : ℕ) (old new : Store D) → IsStep face.known face.cells face.sectors face.arming face.faults (Err (faults.Down fault)) old new
    → down_count (state_of old).stage ≡ None → ⊥
stays_up {D = D} face fault old new step up =
    let s : State = with_batch (state_of old) (state_of new) in
    up_stage old.stage (step_job old.stage old.job s) s up (ap is_down step.done.answer)

-- ---- the disk's count

pub counts_on : (result : Result Progress StoreFault) (before now : ℕ) → CountsFaults result before now → before ≤ now
counts_on (Ok progress) before now counts = counts
counts_on (Err faults.WriteFault) before now counts = counts.0
counts_on (Err faults.FlushFault) before now counts = counts.0
counts_on (Err faults.PositionEnd) before now counts = omega (arith, counts)
counts_on (Err (faults.Down fault)) before now counts = omega (arith, counts)

pub rose_from : (before middle now : ℕ) → before ≤ middle → Rose middle now → Rose before now
rose_from before middle now less rose = omega (arith, less, rose)
