-- What a step comes to: the positions, the goal of its job, what a job has reached at its end, and its faults.
use Rattle.std.proofs.Common.{Result, Ok, Err, ◌≡◌, ◌+◌, ◌≤◌, ◌⊎◌, ℕ, List, [], ◌∷◌, length, drop, refl, sym, ap, ◌∙◌, subst, inl, inr, arith}
use Rattle.life_bytes.specs.declared.sector.Sector.{Sector}
use Rattle.life_ports.specs.Faults.{Rose}
use Rattle.log_record.specs.declared.image.Image.{Image}
use Rattle.log_record.specs.declared.image.Commit.{Commit}
use Rattle.log_store.specs.declared.fault.Progress.{Progress}
use Rattle.log_store.specs.declared.fault.Progress.TheVariants.{Ended, More}
use Rattle.log_store.specs.declared.fault.StoreFault.{StoreFault}
use Rattle.log_store.specs.declared.fault.StoreFault.TheVariants.{WriteFault, FlushFault, PositionEnd}
use Rattle.log_store.specs.declared.fault.StoreFault.TheVariants as faults
use Rattle.log_store.specs.declared.store.Job.{Job}
use Rattle.log_store.specs.declared.store.Job.TheVariants.{Clear, Force, Home, Idle, Nothing, WriteBack}
use Rattle.log_store.specs.declared.store.Stage.{Stage}
use Rattle.log_store.specs.declared.store.Stage.TheVariants.{Cover, Down, Free, Half, Record}
use Rattle.log_store.specs.Calls.{Flushes, Writes}
use Rattle.log_store.specs.Actions
use Rattle.log_store.specs.Actions.{Action, CountsFaults, IsGathered, IsStepAnswer, MaySucceed, call_of, cover_progress, done_state, failed_state, gathers, home_progress, job_after, left_progress, next_job, progress_of, state_after}
use Rattle.log_store.specs.Landed.{covered_state}
use Rattle.log_store.specs.Outcome.{EndsPast, IsDone, IsFault, PositionsStay, Rises, covers_of, goal_of}
use Rattle.log_store.specs.State.{State}
use Rattle.log_store.specs.Steps.{IsShort, JobAsks, JobFits, StageFits}
use Rattle.log_store.proofs.Comes.{Comes, From}

ended_more : Ended ≡ More → ⊥
ended_more is = cc

more_ended : More ≡ Ended → ⊥
more_ended is = cc

-- ---- the jobs at each stage

-- nothing but a force writes records
record_force : (was : Job) → JobFits Record was → was ≡ Force
record_force Force fits = refl
record_force Clear fits = absurd fits
record_force Home fits = absurd fits
record_force WriteBack fits = absurd fits
record_force Nothing fits = absurd fits
record_force Idle fits = absurd fits

half_force : (was : Job) → JobFits Half was → was ≡ Force
half_force Force fits = refl
half_force Clear fits = absurd fits
half_force Home fits = absurd fits
half_force WriteBack fits = absurd fits
half_force Nothing fits = absurd fits
half_force Idle fits = absurd fits

-- a cover is written to go home, or to make room
cover_jobs : (was : Job) → JobFits Cover was → (was ≡ Home) ⊎ (was ≡ Clear)
cover_jobs Home fits = inl refl
cover_jobs Clear fits = inr refl
cover_jobs Force fits = absurd fits
cover_jobs WriteBack fits = absurd fits
cover_jobs Nothing fits = absurd fits
cover_jobs Idle fits = absurd fits

force_back : Force ≡ WriteBack → ⊥
force_back is = cc

force_home : Force ≡ Home → ⊥
force_home is = cc

clear_home : Clear ≡ Home → ⊥
clear_home is = cc

clear_back : Clear ≡ WriteBack → ⊥
clear_back is = cc

home_back : Home ≡ WriteBack → ⊥
home_back is = cc

fits_at : (stage at : Stage) (was : Job) → stage ≡ at → JobFits stage was → JobFits at was
fits_at stage at was is fits = subst (λ (st : Stage). JobFits st was) is fits

-- at the flush of a cover the job is the one that was going
same_job : (was job : Job) → JobFits Cover was → (job ≡ was) ⊎ ((was ≡ Force) × (job ≡ Clear)) → job ≡ was
same_job was job fits (inl same) = same
same_job was job fits (inr turned) = absurd (subst (λ (j : Job). JobFits Cover j) turned.0 fits)

-- ---- the positions

-- the actions that move them
abbrev pub MovesPositions : Action → Type 0
MovesPositions Actions.end_job = ⊥
MovesPositions (Actions.stay_down fault) = ⊥
MovesPositions Actions.end_positions = ⊥
MovesPositions Actions.write_record = ⊥
MovesPositions Actions.write_rest = ⊥
MovesPositions Actions.flush_record = Unit {0}
MovesPositions (Actions.write_home image rest) = ⊥
MovesPositions Actions.flush_home = ⊥
MovesPositions Actions.write_cover = ⊥
MovesPositions Actions.flush_cover = Unit {0}

done_stays : (action : Action) (s : State) → (MovesPositions action → ⊥) → PositionsStay s (done_state action s)
done_stays Actions.end_job s not = record { head = refl; tail = refl; durable = refl }
done_stays (Actions.stay_down fault) s not = record { head = refl; tail = refl; durable = refl }
done_stays Actions.end_positions s not = record { head = refl; tail = refl; durable = refl }
done_stays Actions.write_record s not = record { head = refl; tail = refl; durable = refl }
done_stays Actions.write_rest s not = record { head = refl; tail = refl; durable = refl }
done_stays Actions.flush_record s not = absurd (not tt)
done_stays (Actions.write_home image rest) s not = record { head = refl; tail = refl; durable = refl }
done_stays Actions.flush_home s not = record { head = refl; tail = refl; durable = refl }
done_stays Actions.write_cover s not = record { head = refl; tail = refl; durable = refl }
done_stays Actions.flush_cover s not = absurd (not tt)

failed_stays : (now : ℕ) (action : Action) (s : State) → PositionsStay s (failed_state now action s)
failed_stays now Actions.end_job s = record { head = refl; tail = refl; durable = refl }
failed_stays now (Actions.stay_down fault) s = record { head = refl; tail = refl; durable = refl }
failed_stays now Actions.end_positions s = record { head = refl; tail = refl; durable = refl }
failed_stays now Actions.write_record s = record { head = refl; tail = refl; durable = refl }
failed_stays now Actions.write_rest s = record { head = refl; tail = refl; durable = refl }
failed_stays now Actions.flush_record s = record { head = refl; tail = refl; durable = refl }
failed_stays now (Actions.write_home image rest) s = record { head = refl; tail = refl; durable = refl }
failed_stays now Actions.flush_home s = record { head = refl; tail = refl; durable = refl }
failed_stays now Actions.write_cover s = record { head = refl; tail = refl; durable = refl }
failed_stays now Actions.flush_cover s = record { head = refl; tail = refl; durable = refl }

pub err_stays : (fault : StoreFault) (now : ℕ) (action : Action) (s : State) → PositionsStay s (state_after (Err fault) now action s)
err_stays WriteFault now action s = failed_stays now action s
err_stays FlushFault now action s = failed_stays now action s
err_stays PositionEnd now action s = record { head = refl; tail = refl; durable = refl }
err_stays (faults.Down fault) now action s = record { head = refl; tail = refl; durable = refl }

-- writing back moves nothing
back_still : (action : Action) (stage : Stage) (s : State) → Comes action stage WriteBack s → JobFits stage WriteBack → MovesPositions action → ⊥
back_still Actions.end_job stage s comes fits moves = moves
back_still (Actions.stay_down fault) stage s comes fits moves = moves
back_still Actions.end_positions stage s comes fits moves = moves
back_still Actions.write_record stage s comes fits moves = moves
back_still Actions.write_rest stage s comes fits moves = moves
back_still Actions.flush_record stage s comes fits moves = fits_at stage Record WriteBack comes fits
back_still (Actions.write_home image rest) stage s comes fits moves = moves
back_still Actions.flush_home stage s comes fits moves = moves
back_still Actions.write_cover stage s comes fits moves = moves
back_still Actions.flush_cover stage s comes fits moves = fits_at stage Cover WriteBack comes fits

pub back_stays : (action : Action) (stage : Stage) (s : State) → Comes action stage WriteBack s → JobFits stage WriteBack → PositionsStay s (done_state action s)
back_stays action stage s comes fits = done_stays action s (back_still action stage s comes fits)

-- going home moves nothing before the last step
home_still : (action : Action) (stage : Stage) (s : State) → Comes action stage Home s → JobFits stage Home → More ≡ progress_of action Home s → MovesPositions action → ⊥
home_still Actions.end_job stage s comes fits more moves = moves
home_still (Actions.stay_down fault) stage s comes fits more moves = moves
home_still Actions.end_positions stage s comes fits more moves = moves
home_still Actions.write_record stage s comes fits more moves = moves
home_still Actions.write_rest stage s comes fits more moves = moves
home_still Actions.flush_record stage s comes fits more moves = fits_at stage Record Home comes fits
home_still (Actions.write_home image rest) stage s comes fits more moves = moves
home_still Actions.flush_home stage s comes fits more moves = moves
home_still Actions.write_cover stage s comes fits more moves = moves
home_still Actions.flush_cover stage s comes fits more moves = more_ended more

pub home_stays : (action : Action) (stage : Stage) (s : State) → Comes action stage Home s → JobFits stage Home → More ≡ progress_of action Home s
    → PositionsStay s (done_state action s)
home_stays action stage s comes fits more = done_stays action s (home_still action stage s comes fits more)

-- its last step is the flush of a cover
pub home_last : (action : Action) (stage : Stage) (s : State) → Comes action stage Home s → JobFits stage Home → MaySucceed action → Ended ≡ progress_of action Home s
    → action ≡ Actions.flush_cover
home_last Actions.end_job stage s comes fits may ended = absurd (comes.2 tt)
home_last (Actions.stay_down fault) stage s comes fits may ended = absurd may
home_last Actions.end_positions stage s comes fits may ended = absurd may
home_last Actions.write_record stage s comes fits may ended = absurd (ended_more ended)
home_last Actions.write_rest stage s comes fits may ended = absurd (ended_more ended)
home_last Actions.flush_record stage s comes fits may ended = absurd (fits_at stage Record Home comes fits)
home_last (Actions.write_home image rest) stage s comes fits may ended = absurd (ended_more ended)
home_last Actions.flush_home stage s comes fits may ended = absurd (ended_more ended)
home_last Actions.write_cover stage s comes fits may ended = absurd (ended_more ended)
home_last Actions.flush_cover stage s comes fits may ended = refl

-- ---- how far the head rises

-- room is made for a record that has none: the log is long enough to pay for the cover
pub clear_pays : (was : Job) (list : List Commit) (batch : List Image) (ring head tail : ℕ) → 256 ≤ ring → JobAsks was list batch ring head tail
    → was ≡ Clear → tail + 2 ≤ head
clear_pays was list batch ring head tail least asks is =
    let short : IsShort list batch ring head tail = subst (λ (j : Job). JobAsks j list batch ring head tail) is asks in
    omega (arith, short.few, short.short)

left_covers : (p : Progress) (action : Action) (was job : Job) → covers_of job ≡ covers_of was → next_job action job ≡ job
    → covers_of (job_after (Ok p) action job) ≤ covers_of was
left_covers More action was job same next = omega (arith, same, ap covers_of next)
left_covers Ended action was job same next = omega arith

cover_rises : (p : Progress) (was : Job) (s : State) → (was ≡ Home) ⊎ (was ≡ Clear) → (was ≡ Clear → s.tail + 2 ≤ s.head) → p ≡ cover_progress was
    → Rises (covers_of was) (covers_of (job_after (Ok p) Actions.flush_cover was)) s (covered_state s)
cover_rises More was s (inl home) paid is = absurd (more_ended (is ∙ ap cover_progress home))
cover_rises Ended was s (inl home) paid is = omega (arith, ap covers_of home)
cover_rises More was s (inr clear) paid is = omega (arith, ap covers_of clear, paid clear)
cover_rises Ended was s (inr clear) paid is = absurd (ended_more (is ∙ ap cover_progress clear))

ok_rises : (action : Action) (stage : Stage) (was job : Job) (s : State) (sectors : List Sector) (count : ℕ) (p : Progress) → From action stage was job s
    → JobFits stage was → StageFits stage s sectors count → (was ≡ Clear → s.tail + 2 ≤ s.head) → MaySucceed action → p ≡ progress_of action job s
    → Rises (covers_of was) (covers_of (job_after (Ok p) action job)) s (done_state action s)
ok_rises Actions.end_job stage was job s sectors count p from fits stays paid may is = omega (arith, left_covers p Actions.end_job was job from.covers refl)
ok_rises (Actions.stay_down fault) stage was job s sectors count p from fits stays paid may is = absurd may
ok_rises Actions.end_positions stage was job s sectors count p from fits stays paid may is = absurd may
ok_rises Actions.write_record stage was job s sectors count p from fits stays paid may is = omega (arith, left_covers p Actions.write_record was job from.covers refl)
ok_rises Actions.write_rest stage was job s sectors count p from fits stays paid may is = omega (arith, left_covers p Actions.write_rest was job from.covers refl)
ok_rises Actions.flush_record stage was job s sectors count p from fits stays paid may is =
    let flight = subst (λ (st : Stage). StageFits st s sectors count) from.comes stays in
    omega (arith, left_covers p Actions.flush_record was job from.covers refl, flight.some, flight.batch.few)
ok_rises (Actions.write_home image rest) stage was job s sectors count p from fits stays paid may is =
    omega (arith, left_covers p (Actions.write_home image rest) was job from.covers refl)
ok_rises Actions.flush_home stage was job s sectors count p from fits stays paid may is = omega (arith, left_covers p Actions.flush_home was job from.covers refl)
ok_rises Actions.write_cover stage was job s sectors count p from fits stays paid may is = omega (arith, left_covers p Actions.write_cover was job from.covers refl)
ok_rises Actions.flush_cover stage was job s sectors count p from fits stays paid may is =
    let covering : JobFits Cover was = fits_at stage Cover was from.comes fits in
    let same : job ≡ was = same_job was job covering from.same in
    subst (λ (j : Job). Rises (covers_of was) (covers_of (job_after (Ok p) Actions.flush_cover j)) s (covered_state s)) (sym same)
    (cover_rises p was s (cover_jobs was covering) paid (is ∙ ap cover_progress same))

err_rises : (fault : StoreFault) (now : ℕ) (action : Action) (was job : Job) (s : State)
    → Rises (covers_of was) (covers_of (job_after (Err fault) action job)) s (state_after (Err fault) now action s)
err_rises fault now action was job s = let still = err_stays fault now action s in omega (arith, still.head, still.tail, still.durable)

pub rises_after : (result : Result Progress StoreFault) (now : ℕ) (action : Action) (stage : Stage) (was job : Job) (s : State) (sectors : List Sector) (count : ℕ)
    → From action stage was job s → JobFits stage was → StageFits stage s sectors count → (was ≡ Clear → s.tail + 2 ≤ s.head) → IsStepAnswer result action job s
    → Rises (covers_of was) (covers_of (job_after result action job)) s (state_after result now action s)
rises_after (Ok p) now action stage was job s sectors count from fits stays paid answer =
    ok_rises action stage was job s sectors count p from fits stays paid answer.0 answer.1
rises_after (Err fault) now action stage was job s sectors count from fits stays paid answer = err_rises fault now action was job s

-- ---- the end of a job

left_none : (list : List Commit) → Ended ≡ left_progress list → list ≡ []
left_none [] is = refl
left_none (commit ∷ list) is = absurd (ended_more is)

back_ends : (job : Job) → Ended ≡ home_progress job → job ≡ WriteBack
back_ends WriteBack is = refl
back_ends Home is = absurd (ended_more is)
back_ends Clear is = absurd (ended_more is)
back_ends Force is = absurd (ended_more is)
back_ends Nothing is = absurd (ended_more is)
back_ends Idle is = absurd (ended_more is)

back_was : (was job : Job) → job ≡ WriteBack → (job ≡ was) ⊎ ((was ≡ Force) × (job ≡ Clear)) → was ≡ WriteBack
back_was was job is (inl same) = sym same ∙ is
back_was was job is (inr turned) = absurd (clear_back (sym turned.1 ∙ is))

home_ends : (was : Job) → (was ≡ Home) ⊎ (was ≡ Clear) → Ended ≡ cover_progress was → was ≡ Home
home_ends was (inl home) is = home
home_ends was (inr clear) is = absurd (ended_more (is ∙ ap cover_progress clear))

room_goes_on : (was : Job) → (was ≡ Home) ⊎ (was ≡ Clear) → More ≡ cover_progress was → was ≡ Clear
room_goes_on was (inl home) is = absurd (more_ended (is ∙ ap cover_progress home))
room_goes_on was (inr clear) is = clear

-- what it has reached
pub done_at_end : (action : Action) (stage : Stage) (was job : Job) (s : State) (sectors : List Sector) (count : ℕ) → From action stage was job s
    → JobFits stage was → StageFits stage s sectors count → MaySucceed action → Ended ≡ progress_of action job s → IsDone was (done_state action s)
done_at_end Actions.end_job stage was job s sectors count from fits stays may is = from.comes.1
done_at_end (Actions.stay_down fault) stage was job s sectors count from fits stays may is = absurd may
done_at_end Actions.end_positions stage was job s sectors count from fits stays may is = absurd may
done_at_end Actions.write_record stage was job s sectors count from fits stays may is = absurd (ended_more is)
done_at_end Actions.write_rest stage was job s sectors count from fits stays may is = absurd (ended_more is)
done_at_end Actions.flush_record stage was job s sectors count from fits stays may is =
    let force = record_force was (fits_at stage Record was from.comes fits) in
    subst (λ (j : Job). IsDone j (done_state Actions.flush_record s)) (sym force) (left_none (drop s.taken s.list) is)
done_at_end (Actions.write_home image rest) stage was job s sectors count from fits stays may is = absurd (ended_more is)
done_at_end Actions.flush_home stage was job s sectors count from fits stays may is =
    let back = back_was was job (back_ends job is) from.same in
    subst (λ (j : Job). IsDone j (done_state Actions.flush_home s)) (sym back) (from.comes.1, refl)
done_at_end Actions.write_cover stage was job s sectors count from fits stays may is = absurd (ended_more is)
done_at_end Actions.flush_cover stage was job s sectors count from fits stays may is =
    let covering : JobFits Cover was = fits_at stage Cover was from.comes fits in
    let same : job ≡ was = same_job was job covering from.same in
    let home : was ≡ Home = home_ends was (cover_jobs was covering) (is ∙ ap cover_progress same) in
    let cover = subst (λ (st : Stage). StageFits st s sectors count) from.comes stays in
    subst (λ (j : Job). IsDone j (covered_state s)) (sym home) (cover.1, cover.2, refl)

-- until then its goal stays
pub goal_goes_on : (action : Action) (stage : Stage) (was job : Job) (s : State) → From action stage was job s → JobFits stage was → MaySucceed action
    → More ≡ progress_of action job s → goal_of (next_job action job) ≡ goal_of was
goal_goes_on Actions.end_job stage was job s from fits may is = absurd (more_ended is)
goal_goes_on (Actions.stay_down fault) stage was job s from fits may is = absurd may
goal_goes_on Actions.end_positions stage was job s from fits may is = absurd may
goal_goes_on Actions.write_record stage was job s from fits may is = from.goal
goal_goes_on Actions.write_rest stage was job s from fits may is = from.goal
goal_goes_on Actions.flush_record stage was job s from fits may is = from.goal
goal_goes_on (Actions.write_home image rest) stage was job s from fits may is = from.goal
goal_goes_on Actions.flush_home stage was job s from fits may is = from.goal
goal_goes_on Actions.write_cover stage was job s from fits may is = from.goal
goal_goes_on Actions.flush_cover stage was job s from fits may is =
    let covering : JobFits Cover was = fits_at stage Cover was from.comes fits in
    let same : job ≡ was = same_job was job covering from.same in
    sym (ap goal_of (room_goes_on was (cover_jobs was covering) (is ∙ ap cover_progress same)))

-- ---- faults

some_none : (dirty rest : List Image) (image : Image) → dirty ≡ image ∷ rest → dirty ≡ [] → ⊥
some_none dirty rest image some none = cc

write_fails : (action : Action) (stage : Stage) (was job : Job) (s : State) (before now : ℕ) → From action stage was job s → JobFits stage was → s.stage ≡ stage
    → Writes (call_of action s) → Rose before now → IsFault WriteFault was (failed_state now action s) before now
write_fails Actions.end_job stage was job s before now from fits at call rose = absurd call
write_fails (Actions.stay_down fault) stage was job s before now from fits at call rose = absurd call
write_fails Actions.end_positions stage was job s before now from fits at call rose = absurd call
write_fails Actions.write_record stage was job s before now from fits at call rose = (rose, inl (refl, from.comes.1))
write_fails Actions.write_rest stage was job s before now from fits at call rose =
    (rose, inl (refl, λ is. force_back (sym (half_force was (fits_at stage Half was from.comes fits)) ∙ is)))
write_fails Actions.flush_record stage was job s before now from fits at call rose = absurd call
write_fails (Actions.write_home image rest) stage was job s before now from fits at call rose =
    (rose, inr (at ∙ from.comes.0, λ none. some_none s.dirty rest image from.comes.1 none))
write_fails Actions.flush_home stage was job s before now from fits at call rose = absurd call
write_fails Actions.write_cover stage was job s before now from fits at call rose = (rose, inl (refl, from.comes.1))
write_fails Actions.flush_cover stage was job s before now from fits at call rose = absurd call

flush_fails : (action : Action) (was : Job) (s : State) (before now : ℕ) → Flushes (call_of action s) → Rose before now
    → IsFault FlushFault was (failed_state now action s) before now
flush_fails Actions.end_job was s before now call rose = absurd call
flush_fails (Actions.stay_down fault) was s before now call rose = absurd call
flush_fails Actions.end_positions was s before now call rose = absurd call
flush_fails Actions.write_record was s before now call rose = absurd call
flush_fails Actions.write_rest was s before now call rose = absurd call
flush_fails Actions.flush_record was s before now call rose = (rose, refl)
flush_fails (Actions.write_home image rest) was s before now call rose = absurd call
flush_fails Actions.flush_home was s before now call rose = (rose, refl)
flush_fails Actions.write_cover was s before now call rose = absurd call
flush_fails Actions.flush_cover was s before now call rose = (rose, refl)

-- where room was made for a record, the record and its cover end past the last position
ends_goal : (was : Job) (s : State) → JobAsks was s.list s.batch s.ring s.head s.tail → EndsPast was s (length s.batch)
    → EndsPast (goal_of was) s (length s.batch)
ends_goal Force s asks ends = ends
ends_goal Clear s asks ends = (asks.some, inr (asks.short, ends))
ends_goal Home s asks ends = ends
ends_goal WriteBack s asks ends = ends
ends_goal Nothing s asks ends = ends
ends_goal Idle s asks ends = ends

pub fails : (fault : StoreFault) (action : Action) (stage : Stage) (was job : Job) (s : State) (before now : ℕ) → From action stage was job s → JobFits stage was
    → s.stage ≡ stage → JobAsks was s.list s.batch s.ring s.head s.tail → IsStepAnswer (Err fault) action job s → CountsFaults (Err fault) before now
    → IsFault fault was (state_after (Err fault) now action s) before now
fails WriteFault action stage was job s before now from fits at asks answer counts = write_fails action stage was job s before now from fits at answer counts.1
fails FlushFault action stage was job s before now from fits at asks answer counts = flush_fails action was s before now answer counts.1
fails PositionEnd action stage was job s before now from fits at asks answer counts =
    let comes : Comes Actions.end_positions stage was s = subst (λ (a : Action). Comes a stage was s) answer from.comes in
    (at ∙ comes.0, ends_goal was s asks comes.1)
fails (faults.Down fault) action stage was job s before now from fits at asks answer counts =
    at ∙ subst (λ (a : Action). Comes a stage was s) answer from.comes

-- the batch that a job asks for stays where none is gathered
keeps_asked : (stage : Stage) (list : List Commit) (s n : State) → IsGathered (gathers stage Clear list) s n → n.batch ≡ s.batch
keeps_asked Free list s n keeps = keeps.0
keeps_asked Half list s n keeps = keeps.0
keeps_asked Record list s n keeps = keeps.0
keeps_asked Cover list s n keeps = keeps.0
keeps_asked (Down fault) list s n keeps = keeps.0

pub asks_gathered : (stage : Stage) (was : Job) (list : List Commit) (s n : State) (ring head tail : ℕ) → IsGathered (gathers stage was list) s n
    → JobAsks was list s.batch ring head tail → JobAsks was list n.batch ring head tail
asks_gathered stage Clear list s n ring head tail keeps asks =
    subst (λ (b : List Image). IsShort list b ring head tail) (sym (keeps_asked stage list s n keeps)) asks
asks_gathered stage Force list s n ring head tail keeps asks = tt
asks_gathered stage Home list s n ring head tail keeps asks = tt
asks_gathered stage WriteBack list s n ring head tail keeps asks = tt
asks_gathered stage Nothing list s n ring head tail keeps asks = tt
asks_gathered stage Idle list s n ring head tail keeps asks = tt

-- ---- the end of the positions

ends_down : (fault : ℕ) → Actions.end_positions ≡ Actions.stay_down fault → ⊥
ends_down fault is = cc

pub not_at_end : (result : Result Progress StoreFault) (action : Action) (job : Job) (s : State) → IsStepAnswer result action job s
    → (result ≡ Err PositionEnd → ⊥) → action ≡ Actions.end_positions → ⊥
not_at_end (Ok p) action job s answer other is = subst MaySucceed is answer.0
not_at_end (Err WriteFault) action job s answer other is = subst (λ (a : Action). Writes (call_of a s)) is answer
not_at_end (Err FlushFault) action job s answer other is = subst (λ (a : Action). Flushes (call_of a s)) is answer
not_at_end (Err PositionEnd) action job s answer other is = other refl
not_at_end (Err (faults.Down fault)) action job s answer other is = ends_down fault (sym is ∙ answer)
