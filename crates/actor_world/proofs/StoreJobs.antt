-- What a step of the store leaves of its job.
use Rattle.std.proofs.Common.{◌≡◌, ◌<◌, ◌≤◌, ◌+◌, ◌-◌, ◌%◌, ◌^◌, ◌⊎◌, inl, inr, ℕ, Bool, true, false, List, [], ◌∷◌, None, Result, Ok, Err, drop, if◌then◌else◌, length, nat_le, nat_lt, refl, sym, ap, subst, ◌∙◌, arith}
use Rattle.std.proofs.lemmas.Bool.{false≢true, true≢false}
use Rattle.log_record.specs.declared.image.Commit.{Commit}
use Rattle.log_record.specs.declared.image.Image.{Image}
use Rattle.log_record.specs.Encoding.{sector_count}
use Rattle.log_store.specs.declared.fault.Progress.{Progress}
use Rattle.log_store.specs.declared.fault.Progress.TheVariants.{More, Ended}
use Rattle.log_store.specs.declared.fault.StoreFault.{StoreFault}
use Rattle.log_store.specs.declared.fault.StoreFault.TheVariants as faults
use Rattle.log_store.specs.declared.store.Job.{Job}
use Rattle.log_store.specs.declared.store.Job.TheVariants.{Clear, Force, Home, Idle, Nothing, WriteBack}
use Rattle.log_store.specs.declared.store.Stage.{Stage}
use Rattle.log_store.specs.declared.store.Stage.TheVariants.{Cover, Down, Free, Half, Record}
use Rattle.log_store.specs.declared.store.Store.{Store}
use Rattle.log_store.specs.Calls.{Flushes, Writes, has_room, with_batch}
use Rattle.log_store.specs.State.{State, state_of}
use Rattle.log_store.specs.Outcome.{down_count, goal_of}
use Rattle.log_store.specs.Actions.{Action, IsGathered, IsStep, IsStepAnswer, MaySucceed, action_at, action_at_rest, call_of, cover_progress, done_state, end_job, end_positions, failed_state, flush_cover, flush_home, flush_record, force_action, gathers, gathers_at_rest, home_action, job_after, job_at_rest, left_progress, next_job, progress_of, room_action, state_after, stay_down, step_action, step_job, turned_force, within_positions, write_cover, write_home, write_record, write_rest}
use Rattle.actor_world.specs.Steps.{DiskFace}
use Rattle.actor_world.specs.Invariant.{IsAtRest, TakenFits}

-- ---- at which stage an action comes

abbrev pub is_rest : Action → Bool
is_rest end_job = true
is_rest end_positions = true
is_rest (write_home image rest) = true
is_rest flush_home = true
is_rest _ = false

rest_stage : (stage : Stage) (going : Job) (s : State) → is_rest (action_at stage going s) ≡ true → stage ≡ Free
rest_stage Free going s is = refl
rest_stage Half going s is = absurd (false≢true is)
rest_stage Record going s is = absurd (false≢true is)
rest_stage Cover going s is = absurd (false≢true is)
rest_stage (Down fault) going s is = absurd (false≢true is)

abbrev pub is_down : Action → Bool
is_down (stay_down fault) = true
is_down _ = false

-- what is so of no action at rest but those that write or flush what is home, end, or begin a record or a cover
pub within_is : (f : Action → Bool) (end : ℕ) (action : Action) → f end_positions ≡ false → f action ≡ false → f (within_positions end action) ≡ false
within_is f end action past is = elim (nat_lt (2 ^ 63) end) as (λ b. f (if b then end_positions else action) ≡ false) [ true ↦ past | false ↦ is ]

-- a test that no action at rest meets, but perhaps the write of a record
pub record IsNone (f : Action → Bool) : Type 0 where
  pub past : f end_positions ≡ false
  pub end : f end_job ≡ false
  pub home : (image : Image) (rest : List Image) → f (write_home image rest) ≡ false
  pub flushed : f flush_home ≡ false
  pub cover : f write_cover ≡ false

home_is : (f : Action → Bool) → IsNone f → (images : List Image) (unflushed : Bool) (last : Action) → f last ≡ false → f (home_action images unflushed last) ≡ false
home_is f none (image ∷ rest) unflushed last is = none.home image rest
home_is f none [] true last is = none.flushed
home_is f none [] false last is = is

room_is : (f : Action → Bool) → IsNone f → (s : State) → f (room_action s) ≡ false
room_is f none s = home_is f none s.dirty s.unflushed (within_positions (s.head + 1) write_cover) (within_is f (s.head + 1) write_cover none.past none.cover)

force_is : (f : Action → Bool) → IsNone f → f write_record ≡ false → (list : List Commit) (s : State) → f (force_action list s) ≡ false
force_is f none is [] s = none.end
force_is f none is (commit ∷ list) s = within_is f (s.head + sector_count (length s.batch)) write_record none.past is

rest_is : (f : Action → Bool) → IsNone f → f write_record ≡ false → (going : Job) (s : State) → f (action_at_rest going s) ≡ false
rest_is f none is Force s = force_is f none is s.list s
rest_is f none is Clear s = room_is f none s
rest_is f none is Home s = room_is f none s
rest_is f none is WriteBack s = home_is f none s.dirty s.unflushed end_job none.end
rest_is f none is Nothing s = none.end
rest_is f none is Idle s = none.end

pub rest_up : (going : Job) (s : State) → is_down (action_at_rest going s) ≡ false
rest_up going s = rest_is is_down (record { past = refl; end = refl; home = λ image rest. refl; flushed = refl; cover = refl }) refl going s

down_stage : (stage : Stage) (going : Job) (s : State) → is_down (action_at stage going s) ≡ true → IsAtRest stage
down_stage Free going s is = absurd (true≢false (sym is ∙ rest_up going s))
down_stage Half going s is = absurd (false≢true is)
down_stage Record going s is = absurd (false≢true is)
down_stage Cover going s is = absurd (false≢true is)
down_stage (Down fault) going s is = tt

at_rest : (stage : Stage) → stage ≡ Free → IsAtRest stage
at_rest stage free = subst IsAtRest (sym free) tt

-- ---- a job that ends

pub ended_more : Ended ≡ More → ⊥
ended_more is = cc

more_ended : More ≡ Ended → ⊥
more_ended is = cc

ended_rest : (action : Action) (going : Job) (s : State) → (is_rest action ≡ true → s.stage ≡ Free) → MaySucceed action → Ended ≡ progress_of action going s → IsAtRest (done_state action s).stage
ended_rest end_job going s free may is = at_rest s.stage (free refl)
ended_rest (stay_down fault) going s free may is = absurd may
ended_rest end_positions going s free may is = absurd may
ended_rest write_record going s free may is = absurd (ended_more is)
ended_rest write_rest going s free may is = absurd (ended_more is)
ended_rest flush_record going s free may is = tt
ended_rest (write_home image rest) going s free may is = absurd (ended_more is)
ended_rest flush_home going s free may is = at_rest s.stage (free refl)
ended_rest write_cover going s free may is = absurd (ended_more is)
ended_rest flush_cover going s free may is = tt

write_rest_stage : (now : ℕ) (action : Action) (s : State) → (is_rest action ≡ true → s.stage ≡ Free) → Writes (call_of action s) → IsAtRest (failed_state now action s).stage
write_rest_stage now end_job s free writes = absurd writes
write_rest_stage now (stay_down fault) s free writes = absurd writes
write_rest_stage now end_positions s free writes = absurd writes
write_rest_stage now write_record s free writes = tt
write_rest_stage now write_rest s free writes = tt
write_rest_stage now flush_record s free writes = absurd writes
write_rest_stage now (write_home image rest) s free writes = at_rest s.stage (free refl)
write_rest_stage now flush_home s free writes = absurd writes
write_rest_stage now write_cover s free writes = tt
write_rest_stage now flush_cover s free writes = absurd writes

flush_rest_stage : (now : ℕ) (action : Action) (s : State) → Flushes (call_of action s) → IsAtRest (failed_state now action s).stage
flush_rest_stage now flush_record s flushes = tt
flush_rest_stage now flush_home s flushes = tt
flush_rest_stage now flush_cover s flushes = tt
flush_rest_stage now _ s flushes = absurd flushes

-- ---- a job that goes on

-- what is so of a job that goes on
pub record GoesRight (going : Job) (s : State) : Type 0 where
  pub up : down_count s.stage ≡ None
  pub fits : TakenFits s.stage s

record_right : (b : Bool) (s : State) → s.taken ≤ length s.list → GoesRight Force (record s { stage = if b then Record else Half })
record_right true s fits = record { up = refl; fits = fits }
record_right false s fits = record { up = refl; fits = fits }

-- a stage at rest, of a store that is not down
free_right : (going : Job) (stage : Stage) (s : State) → stage ≡ Free → s.stage ≡ stage → GoesRight going s
free_right going stage s free same = record {
  up = ap down_count (same ∙ free);
  fits = subst (λ st. TakenFits st s) (sym (same ∙ free)) tt;
}

more_right : (action : Action) (going : Job) (s : State) → (is_rest action ≡ true → s.stage ≡ Free) → (action ≡ write_record → s.taken ≤ length s.list) → (action ≡ write_rest → s.taken ≤ length s.list)
    → MaySucceed action → More ≡ progress_of action going s → GoesRight going (done_state action s)
more_right end_job going s free fits rest may is = absurd (more_ended is)
more_right (stay_down fault) going s free fits rest may is = absurd may
more_right end_positions going s free fits rest may is = absurd may
more_right write_record going s free fits rest may is =
    let right = record_right (nat_le (sector_count (length s.batch)) (s.ring - s.head % s.ring)) s (fits refl) in
    record { up = right.up; fits = right.fits }
more_right write_rest going s free fits rest may is = record { up = refl; fits = rest refl }
more_right flush_record going s free fits rest may is = record { up = refl; fits = tt }
more_right (write_home image others) going s free fits rest may is = free_right going s.stage _ (free refl) refl
more_right flush_home going s free fits rest may is = free_right going s.stage _ (free refl) refl
more_right write_cover going s free fits rest may is = record { up = refl; fits = tt }
more_right flush_cover going s free fits rest may is = record { up = refl; fits = tt }

-- ---- the record that is gathered

abbrev pub is_record : Action → Bool
is_record write_record = true
is_record _ = false

no_record : IsNone is_record
no_record = record { past = refl; end = refl; home = λ image rest. refl; flushed = refl; cover = refl }

-- a record is begun only where one was gathered
rest_gathers : (going : Job) (list : List Commit) (s : State) → s.list ≡ list → is_record (action_at_rest (job_at_rest going s) s) ≡ true → gathers_at_rest going list ≡ true
rest_gathers Force [] s none is =
    absurd (true≢false (sym is ∙ ap (λ l. is_record (action_at_rest (turned_force l s) s)) none ∙ ap (λ l. is_record (force_action l s)) none))
rest_gathers Force (commit ∷ list) s some is = refl
rest_gathers Clear list s same is = absurd (true≢false (sym is ∙ room_is is_record no_record s))
rest_gathers Home list s same is = absurd (true≢false (sym is ∙ room_is is_record no_record s))
rest_gathers WriteBack list s same is = absurd (true≢false (sym is ∙ home_is is_record no_record s.dirty s.unflushed end_job refl))
rest_gathers Nothing list s same is = absurd (false≢true is)
rest_gathers Idle list s same is = absurd (false≢true is)

stage_gathers : (stage : Stage) (going : Job) (list : List Commit) (s : State) → s.list ≡ list → is_record (action_at stage (step_job stage going s) s) ≡ true → gathers stage going list ≡ true
stage_gathers Free going list s same is = rest_gathers going list s same is
stage_gathers Half going list s same is = absurd (false≢true is)
stage_gathers Record going list s same is = absurd (false≢true is)
stage_gathers Cover going list s same is = absurd (false≢true is)
stage_gathers (Down fault) going list s same is = absurd (false≢true is)

record_fits : (b : Bool) (old new : State) → IsGathered b old new → b ≡ true → new.taken ≤ length old.list
record_fits true old new gathered is = gathered.within
record_fits false old new gathered is = absurd (false≢true is)

abbrev pub is_second : Action → Bool
is_second write_rest = true
is_second _ = false

no_second : IsNone is_second
no_second = record { past = refl; end = refl; home = λ image rest. refl; flushed = refl; cover = refl }

-- the rest of a record is written where the record is in flight
second_fits : (stage : Stage) (going : Job) (s : State) → TakenFits stage s → is_second (action_at stage going s) ≡ true → s.taken ≤ length s.list
second_fits Free going s fits is = absurd (true≢false (sym is ∙ rest_is is_second no_second refl going s))
second_fits Half going s fits is = fits
second_fits Record going s fits is = fits
second_fits Cover going s fits is = absurd (false≢true is)
second_fits (Down fault) going s fits is = absurd (false≢true is)

-- ---- the job that goes on

abbrev pub is_cover : Action → Bool
is_cover flush_cover = true
is_cover _ = false

no_cover : IsNone is_cover
no_cover = record { past = refl; end = refl; home = λ image rest. refl; flushed = refl; cover = refl }

next_same : (action : Action) (going : Job) → is_cover action ≡ false → next_job action going ≡ going
next_same flush_cover going is = absurd (true≢false is)
next_same _ going is = refl

turned_goal : (list : List Commit) (s : State) → goal_of (turned_force list s) ≡ Force
turned_goal [] s = refl
turned_goal (commit ∷ list) s = elim (has_room s (length s.batch)) as (λ b. goal_of (if b then Force else Clear) ≡ Force) [ true ↦ refl | false ↦ refl ]

pub rest_goal : (going : Job) (s : State) → goal_of (job_at_rest going s) ≡ goal_of going
rest_goal Force s = turned_goal s.list s
rest_goal Clear s = refl
rest_goal Home s = refl
rest_goal WriteBack s = refl
rest_goal Nothing s = refl
rest_goal Idle s = refl

back_not : (goal : Job) → (goal ≡ Force) ⊎ (goal ≡ Home) → goal ≡ WriteBack → ⊥
back_not goal (inl is) back = let e : Force ≡ WriteBack = sym is ∙ back in cc
back_not goal (inr is) back = let e : Home ≡ WriteBack = sym is ∙ back in cc

nothing_not : (goal : Job) → (goal ≡ Force) ⊎ (goal ≡ Home) → goal ≡ Nothing → ⊥
nothing_not goal (inl is) back = let e : Force ≡ Nothing = sym is ∙ back in cc
nothing_not goal (inr is) back = let e : Home ≡ Nothing = sym is ∙ back in cc

idle_not : (goal : Job) → (goal ≡ Force) ⊎ (goal ≡ Home) → goal ≡ Idle → ⊥
idle_not goal (inl is) back = let e : Force ≡ Idle = sym is ∙ back in cc
idle_not goal (inr is) back = let e : Home ≡ Idle = sym is ∙ back in cc

cover_goal : (going : Job) → (goal_of going ≡ Force) ⊎ (goal_of going ≡ Home) → More ≡ cover_progress going → Force ≡ goal_of going
cover_goal Home goal is = absurd (more_ended is)
cover_goal Force goal is = refl
cover_goal Clear goal is = refl
cover_goal WriteBack goal is = absurd (back_not WriteBack goal refl)
cover_goal Nothing goal is = absurd (nothing_not Nothing goal refl)
cover_goal Idle goal is = absurd (idle_not Idle goal refl)

goal_kept : (stage : Stage) (going : Job) (s : State) → (goal_of going ≡ Force) ⊎ (goal_of going ≡ Home) → MaySucceed (step_action stage going s)
    → More ≡ progress_of (step_action stage going s) (step_job stage going s) s → goal_of (next_job (step_action stage going s) (step_job stage going s)) ≡ goal_of going
goal_kept Free going s goal may is =
    ap goal_of (next_same (action_at_rest (job_at_rest going s) s) (job_at_rest going s) (rest_is is_cover no_cover refl (job_at_rest going s) s)) ∙ rest_goal going s
goal_kept Half going s goal may is = refl
goal_kept Record going s goal may is = refl
goal_kept Cover going s goal may is = cover_goal going goal is
goal_kept (Down fault) going s goal may is = absurd may

left_some : (list : List Commit) → More ≡ left_progress list → 0 < length list
left_some [] is = absurd (more_ended is)
left_some (commit ∷ list) is = omega arith

some_left : (action : Action) (going : Job) (s : State) → More ≡ progress_of action going s → 0 < length s.list → 0 < length (done_state action s).list
some_left end_job going s is some = some
some_left (stay_down fault) going s is some = some
some_left end_positions going s is some = some
some_left write_record going s is some = some
some_left write_rest going s is some = some
some_left flush_record going s is some = left_some (drop s.taken s.list) is
some_left (write_home image rest) going s is some = some
some_left flush_home going s is some = some
some_left write_cover going s is some = some
some_left flush_cover going s is some = some

-- ---- a step

-- What a step of a job leaves: the job goes on, with the same goal, and commits wait where they did; or it ends, and
-- nothing is in flight.
abbrev pub JobSteps : Result Progress StoreFault → Job → State → Job → State → Type 0
JobSteps (Ok More) was old going new =
    (goal_of going ≡ goal_of was) × (down_count new.stage ≡ None) × TakenFits new.stage new × (0 < length old.list → 0 < length new.list)
JobSteps (Ok Ended) was old going new = (going ≡ Idle) × IsAtRest new.stage
JobSteps (Err fault) was old going new = (going ≡ Idle) × IsAtRest new.stage

-- a record in flight stays as it was gathered
kept_fits : (stage : Stage) (going : Job) (list : List Commit) (s new : State) → IsGathered (gathers stage going list) s new → TakenFits stage s → TakenFits stage (with_batch s new)
kept_fits Free going list s new gathered fits = tt
kept_fits Half going list s new gathered fits = subst (λ n. n ≤ length s.list) (sym gathered.1) fits
kept_fits Record going list s new gathered fits = subst (λ n. n ≤ length s.list) (sym gathered.1) fits
kept_fits Cover going list s new gathered fits = tt
kept_fits (Down fault) going list s new gathered fits = tt

answered_job : (result : Result Progress StoreFault) (now : ℕ) (was : Job) (old new : State) → IsGathered (gathers old.stage was old.list) old new
    → TakenFits old.stage old → (goal_of was ≡ Force) ⊎ (goal_of was ≡ Home) → IsStepAnswer result (step_action old.stage was (with_batch old new)) (step_job old.stage was (with_batch old new)) (with_batch old new)
    → JobSteps result was old (job_after result (step_action old.stage was (with_batch old new)) (step_job old.stage was (with_batch old new)))
    (state_after result now (step_action old.stage was (with_batch old new)) (with_batch old new))
answered_job (Ok More) now was old new gathered fits goal answer =
    let s : State = with_batch old new in
    let going : Job = step_job old.stage was s in
    let action : Action = step_action old.stage was s in
    let right = more_right action going s (λ is. rest_stage old.stage going s is)
    (λ is. record_fits (gathers old.stage was old.list) old new gathered (stage_gathers old.stage was old.list s refl (ap is_record is)))
    (λ is. second_fits old.stage going s (kept_fits old.stage was old.list old new gathered fits) (ap is_second is)) answer.0 answer.1 in
    (goal_kept old.stage was s goal answer.0 answer.1, right.up, right.fits, λ some. some_left action going s answer.1 some)
answered_job (Ok Ended) now was old new gathered fits goal answer =
    let s : State = with_batch old new in
    (refl, ended_rest (step_action old.stage was s) (step_job old.stage was s) s (λ is. rest_stage old.stage (step_job old.stage was s) s is) answer.0 answer.1)
answered_job (Err faults.WriteFault) now was old new gathered fits goal answer =
    let s : State = with_batch old new in
    (refl, write_rest_stage now (step_action old.stage was s) s (λ is. rest_stage old.stage (step_job old.stage was s) s is) answer)
answered_job (Err faults.FlushFault) now was old new gathered fits goal answer =
    (refl, flush_rest_stage now (step_action old.stage was (with_batch old new)) (with_batch old new) answer)
answered_job (Err faults.PositionEnd) now was old new gathered fits goal answer =
    let s : State = with_batch old new in
    (refl, at_rest old.stage (rest_stage old.stage (step_job old.stage was s) s (ap is_rest answer)))
answered_job (Err (faults.Down fault)) now was old new gathered fits goal answer =
    let s : State = with_batch old new in
    (refl, down_stage old.stage (step_job old.stage was s) s (ap is_down answer))

pub job_steps : {D : Type 0} (face : DiskFace D) (result : Result Progress StoreFault) (old new : Store D)
    → IsStep face.known face.cells face.sectors face.arming face.faults result old new → TakenFits old.stage (state_of old) → (goal_of old.job ≡ Force) ⊎ (goal_of old.job ≡ Home)
    → JobSteps result old.job (state_of old) new.job (state_of new)
job_steps face result old new step fits goal =
    let done = answered_job result (face.faults new.disk) old.job (state_of old) (state_of new) step.batch fits goal step.done.answer in
    subst (λ (j : Job). JobSteps result old.job (state_of old) j (state_of new)) (sym step.done.job)
    (subst (λ (s : State). JobSteps result old.job (state_of old) (job_after result (step_action old.stage old.job (with_batch (state_of old) (state_of new))) (step_job old.stage old.job (with_batch (state_of old) (state_of new)))) s)
    (sym step.done.state) done)
