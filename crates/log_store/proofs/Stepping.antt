-- What one step of a store comes to.
use Rattle.std.proofs.Common.{Bool, Result, Ok, Err, ◌≡◌, ◌+◌, ◌^◌, ◌≤◌, ◌⊎◌, ℕ, List, length, refl, sym, ap, ◌∙◌, subst, inl, inr, arith}
use Rattle.std.specs.Prelude.{IsTrue}
use Rattle.life_ports.proofs.Faults.{Rose-after}
use Rattle.life_bytes.specs.declared.sector.Sector.{Sector}
use Rattle.disk_model.specs.Disk.{Arming, Cell, IsImage, flushed}
use Rattle.disk_model.specs.DiskLaws.{length-written}
use Rattle.log_record.specs.Encoding.{encoded_record}
use Rattle.log_image.specs.Step.{sector_of_position}
use Rattle.log_store.specs.declared.fault.Progress.{Progress}
use Rattle.log_store.specs.declared.fault.Progress.TheVariants.{Ended, More}
use Rattle.log_store.specs.declared.fault.StoreFault.{StoreFault}
use Rattle.log_store.specs.declared.fault.StoreFault.TheVariants.{WriteFault, FlushFault, PositionEnd}
use Rattle.log_store.specs.declared.fault.StoreFault.TheVariants as faults
use Rattle.log_store.specs.declared.store.Job.{Job}
use Rattle.log_store.specs.declared.store.Job.TheVariants.{Clear, Force, Home, Idle, Nothing, WriteBack}
use Rattle.log_store.specs.declared.store.Stage.{Stage}
use Rattle.log_store.specs.declared.store.Stage.TheVariants.{Cover, Down, Free, Half, Record}
use Rattle.log_store.specs.declared.store.Store.{Store}
use Rattle.log_store.specs.Calls.{Made, with_batch}
use Rattle.log_store.specs.Actions
use Rattle.log_store.specs.Actions.{Action, IsDoneBy, IsStep, IsStepAnswer, MaySucceed, call_of, done_state, job_after, progress_of, room_action, state_after, step_action, step_job, within_positions}
use Rattle.log_store.specs.Landed.{RingFits, covered_state}
use Rattle.log_store.specs.OnDisk.{Covers, HasCover, HoldsAtStage, cover_record, cover_written}
use Rattle.log_store.specs.Outcome.{CoverEndsPast, Covered, EndsPast, EndsPastAt, IsDone, IsFault, PositionsStay, Rises, covers_of, goal_of}
use Rattle.log_store.specs.State.{State, state_of}
use Rattle.log_store.specs.Steps.{IsConsistent, IsStore, JobFits, StageFits}
use Rattle.log_store.proofs.Comes.{Comes, comes_from}
use Rattle.log_store.proofs.Done.{all_home, past_end}
use Rattle.log_store.proofs.Ends.{fits_gathered}
use Rattle.log_store.proofs.Outcomes.{asks_gathered, back_stays, clear_pays, done_at_end, err_stays, fails, goal_goes_on, home_last, home_stays, not_at_end, rises_after}

ok_err : (progress : Progress) (fault : StoreFault) → Ok progress ≡ Err fault → ⊥
ok_err progress fault is = cc

write_end : ◌≡◌ {A = Result Progress StoreFault} (Err WriteFault) (Err PositionEnd) → ⊥
write_end is = cc

flush_end : ◌≡◌ {A = Result Progress StoreFault} (Err FlushFault) (Err PositionEnd) → ⊥
flush_end is = cc

down_end : (fault : ℕ) → ◌≡◌ {A = Result Progress StoreFault} (Err (faults.Down fault)) (Err PositionEnd) → ⊥
down_end fault is = cc

-- where the positions end does not depend on the record that was gathered before
past_free : (job : Job) (s n : State) (images : ℕ) → EndsPast job (with_batch s n) images → EndsPast job s images
past_free Force s n images ends = ends
past_free Clear s n images ends = ends
past_free Home s n images ends = ends
past_free WriteBack s n images ends = ends
past_free Nothing s n images ends = ends
past_free Idle s n images ends = ends

past_gathered : (stage : Stage) (job : Job) (s n : State) (images : ℕ) → EndsPastAt stage job s images → EndsPastAt stage job (with_batch s n) images
past_gathered Free Force s n images ends = ends
past_gathered Free Clear s n images ends = ends
past_gathered Free Home s n images ends = ends
past_gathered Free WriteBack s n images ends = ends
past_gathered Free Nothing s n images ends = ends
past_gathered Free Idle s n images ends = ends
past_gathered Half job s n images ends = ends
past_gathered Record job s n images ends = ends
past_gathered Cover job s n images ends = ends
past_gathered (Down fault) job s n images ends = ends

-- the fields of a store with the record that is gathered
stays_of : {D : Type 0} (known : Bool) (cells : D → List Cell) (sectors : D → ℕ) (arming : D → Arming) (count : D → ℕ) (size : ℕ)
    (result : Result Progress StoreFault) (old new : Store D) → IsConsistent size old → IsStep known cells sectors arming count result old new
    → StageFits old.stage (with_batch (state_of old) (state_of new)) old.sectors.items old.count
stays_of known cells sectors arming count size result old new sound step =
    fits_gathered old.stage old.job old.queue.items (state_of old) (state_of new) old.sectors.items old.count step.batch sound.stage

-- how far the head rises
pub step_rises : {D : Type 0} (known : Bool) (cells : D → List Cell) (sectors : D → ℕ) (arming : D → Arming) (count : D → ℕ) (size : ℕ)
    (result : Result Progress StoreFault) (old new : Store D) → IsConsistent size old → IsStep known cells sectors arming count result old new
    → Rises (covers_of old.job) (covers_of new.job) (state_of old) (state_of new)
step_rises known cells sectors arming count size result old new sound step =
    let g : State = with_batch (state_of old) (state_of new) in
    let job : Job = step_job old.stage old.job g in
    let action : Action = step_action old.stage old.job g in
    let least : 256 ≤ old.ring = omega (arith, old.positions.least_ring, sound.ring) in
    let after = rises_after result (count new.disk) action old.stage old.job job g old.sectors.items old.count (comes_from old.stage old.job g) sound.job
    (stays_of known cells sectors arming count size result old new sound step)
    (clear_pays old.job old.queue.items old.batch old.ring old.positions.head old.positions.tail least sound.asks) step.done.answer in
    subst (λ (n : State). Rises (covers_of old.job) (covers_of new.job) (state_of old) n) (sym step.done.state)
    (subst (λ (j : Job). Rises (covers_of old.job) (covers_of j) (state_of old) (state_after result (count new.disk) action g)) (sym step.done.job) after)

-- what a job has reached at its end
pub step_done : {D : Type 0} (known : Bool) (cells : D → List Cell) (sectors : D → ℕ) (arming : D → Arming) (count : D → ℕ) (size : ℕ)
    (old new : Store D) → IsConsistent size old → IsStep known cells sectors arming count (Ok Ended) old new → IsDone old.job (state_of new)
step_done known cells sectors arming count size old new sound step =
    let g : State = with_batch (state_of old) (state_of new) in
    subst (λ (n : State). IsDone old.job n) (sym step.done.state)
    (done_at_end (step_action old.stage old.job g) old.stage old.job (step_job old.stage old.job g) g old.sectors.items old.count (comes_from old.stage old.job g) sound.job
    (stays_of known cells sectors arming count size (Ok Ended) old new sound step) step.done.answer.0 step.done.answer.1)

-- the goal of a job that goes on
pub step_goal : {D : Type 0} (known : Bool) (cells : D → List Cell) (sectors : D → ℕ) (arming : D → Arming) (count : D → ℕ) (size : ℕ)
    (old new : Store D) → IsConsistent size old → IsStep known cells sectors arming count (Ok More) old new → goal_of new.job ≡ goal_of old.job
step_goal known cells sectors arming count size old new sound step =
    let g : State = with_batch (state_of old) (state_of new) in
    ap goal_of step.done.job
    ∙ goal_goes_on (step_action old.stage old.job g) old.stage old.job (step_job old.stage old.job g) g (comes_from old.stage old.job g) sound.job
    step.done.answer.0 step.done.answer.1

-- a fault
pub step_fails : {D : Type 0} (known : Bool) (cells : D → List Cell) (sectors : D → ℕ) (arming : D → Arming) (count : D → ℕ) (size : ℕ)
    (fault : StoreFault) (old new : Store D) → IsConsistent size old → IsStep known cells sectors arming count (Err fault) old new
    → IsFault fault old.job (state_of new) (count old.disk) (count new.disk)
step_fails known cells sectors arming count size fault old new sound step =
    let s : State = state_of old in
    let n : State = state_of new in
    let g : State = with_batch s n in
    subst (λ (x : State). IsFault fault old.job x (count old.disk) (count new.disk)) (sym step.done.state)
    (fails fault (step_action old.stage old.job g) old.stage old.job (step_job old.stage old.job g) g (count old.disk) (count new.disk) (comes_from old.stage old.job g) sound.job refl
    (asks_gathered old.stage old.job old.queue.items s n old.ring old.positions.head old.positions.tail step.batch sound.asks) step.done.answer step.done.count)

-- the jobs with this goal are those themselves
pub writes_back : (job : Job) → goal_of job ≡ WriteBack → job ≡ WriteBack
writes_back WriteBack is = refl
writes_back Clear is = absurd cc
writes_back Force is = absurd cc
writes_back Home is = absurd cc
writes_back Nothing is = absurd cc
writes_back Idle is = absurd cc

pub goes_home : (job : Job) → goal_of job ≡ Home → job ≡ Home
goes_home Home is = refl
goes_home Clear is = absurd cc
goes_home Force is = absurd cc
goes_home WriteBack is = absurd cc
goes_home Nothing is = absurd cc
goes_home Idle is = absurd cc

-- a fault of a job is one of the job that it began with
pub fault_along : (fault : StoreFault) (was first : Job) (n : State) (start before now : ℕ) → goal_of was ≡ goal_of first → start ≤ before
    → IsFault fault was n before now → IsFault fault first n start now
fault_along WriteFault was first n start before now goal le is = (
  Rose-after start before now le is.0,
  elim (is.1) [
    | inl log ↦ inl (log.0, λ back. log.1 (writes_back was (goal ∙ ap goal_of back)))
    | inr home ↦ inr home
  ],
)
fault_along FlushFault was first n start before now goal le is = (Rose-after start before now le is.0, is.1)
fault_along PositionEnd was first n start before now goal le is = (is.0, subst (λ (j : Job). EndsPast j n (length n.batch)) goal is.1)
fault_along (faults.Down fault) was first n start before now goal le is = is

-- that the positions are used up is answered where they are
pub step_at_end : {D : Type 0} (known : Bool) (cells : D → List Cell) (sectors : D → ℕ) (arming : D → Arming) (count : D → ℕ)
    (old new : Store D) → IsStep known cells sectors arming count (Err PositionEnd) old new → EndsPastAt old.stage old.job (state_of old) (length new.batch)
step_at_end known cells sectors arming count old new step =
    let g : State = with_batch (state_of old) (state_of new) in
    let comes : Comes Actions.end_positions old.stage old.job g =
    subst (λ (a : Action). Comes a old.stage old.job g) step.done.answer (comes_from old.stage old.job g).comes in
    subst (λ (st : Stage). EndsPastAt st old.job (state_of old) (length new.batch)) (sym comes.0)
    (past_free old.job (state_of old) (state_of new) (length new.batch) comes.1)

-- and nowhere else
pub step_within : {D : Type 0} (known : Bool) (cells : D → List Cell) (sectors : D → ℕ) (arming : D → Arming) (count : D → ℕ)
    (result : Result Progress StoreFault) (old new : Store D) → IsStep known cells sectors arming count result old new
    → (result ≡ Err PositionEnd → ⊥) → EndsPastAt old.stage old.job (state_of old) (length new.batch) → ⊥
step_within known cells sectors arming count result old new step other ends =
    let g : State = with_batch (state_of old) (state_of new) in
    (comes_from old.stage old.job g).ends (not_at_end result (step_action old.stage old.job g) (step_job old.stage old.job g) g step.done.answer other)
    (past_gathered old.stage old.job (state_of old) (state_of new) (length new.batch) ends)

pub step_ends : {D : Type 0} (known : Bool) (cells : D → List Cell) (sectors : D → ℕ) (arming : D → Arming) (count : D → ℕ)
    (result : Result Progress StoreFault) (old new : Store D) → IsStep known cells sectors arming count result old new
    → EndsPastAt old.stage old.job (state_of old) (length new.batch) → result ≡ Err PositionEnd
step_ends known cells sectors arming count (Ok progress) old new step ends =
    absurd (step_within known cells sectors arming count (Ok progress) old new step (λ is. ok_err progress PositionEnd is) ends)
step_ends known cells sectors arming count (Err WriteFault) old new step ends =
    absurd (step_within known cells sectors arming count (Err WriteFault) old new step (λ is. write_end is) ends)
step_ends known cells sectors arming count (Err FlushFault) old new step ends =
    absurd (step_within known cells sectors arming count (Err FlushFault) old new step (λ is. flush_end is) ends)
step_ends known cells sectors arming count (Err PositionEnd) old new step ends = refl
step_ends known cells sectors arming count (Err (faults.Down fault)) old new step ends =
    absurd (step_within known cells sectors arming count (Err (faults.Down fault)) old new step (λ is. down_end fault is) ends)

-- a store that is down stays down
pub step_down : {D : Type 0} (known : Bool) (cells : D → List Cell) (sectors : D → ℕ) (arming : D → Arming) (count : D → ℕ)
    (fault : ℕ) (old new : Store D) → IsStep known cells sectors arming count (Err (faults.Down fault)) old new → old.stage ≡ Down fault
step_down known cells sectors arming count fault old new step =
    let g : State = with_batch (state_of old) (state_of new) in
    subst (λ (a : Action). Comes a old.stage old.job g) step.done.answer (comes_from old.stage old.job g).comes

stay_other : (fault other : ℕ) → Actions.stay_down fault ≡ Actions.stay_down other → faults.Down other ≡ faults.Down fault
stay_other fault other is = cc

stay_end : (fault : ℕ) → Actions.stay_down fault ≡ Actions.end_positions → ⊥
stay_end fault is = cc

down_answers : (result : Result Progress StoreFault) (fault : ℕ) (job : Job) (s : State) → IsStepAnswer result (Actions.stay_down fault) job s
    → result ≡ Err (faults.Down fault)
down_answers (Ok progress) fault job s is = absurd is.0
down_answers (Err WriteFault) fault job s is = absurd is
down_answers (Err FlushFault) fault job s is = absurd is
down_answers (Err PositionEnd) fault job s is = absurd (stay_end fault is)
down_answers (Err (faults.Down other)) fault job s is = ap (λ (e : StoreFault). Err e) (stay_other fault other is)

-- its step makes no call
pub down_step : {D : Type 0} (known : Bool) (cells : D → List Cell) (sectors : D → ℕ) (arming : D → Arming) (count : D → ℕ)
    (result : Result Progress StoreFault) (fault : ℕ) (old new : Store D) → IsStep known cells sectors arming count result old new
    → old.stage ≡ Down fault → (result ≡ Err (faults.Down fault)) × (new.disk ≡ old.disk)
down_step known cells sectors arming count result fault old new step down =
    let g : State = with_batch (state_of old) (state_of new) in
    let job : Job = step_job old.stage old.job g in
    let action : step_action old.stage old.job g ≡ Actions.stay_down fault = ap (λ (st : Stage). step_action st old.job g) down in
    let done = subst (λ (a : Action). IsDoneBy known cells sectors arming count a result job g old.disk new) action step.done in
    (down_answers result fault job g done.answer, done.call)

-- ---- the positions

stays_to : (s g n m : State) → g.head ≡ s.head → g.tail ≡ s.tail → g.durable ≡ s.durable → m ≡ n → PositionsStay g n → PositionsStay s m
stays_to s g n m head tail durable is stays = record {
  head = ap (λ (x : State). x.head) is ∙ stays.head ∙ head;
  tail = ap (λ (x : State). x.tail) is ∙ stays.tail ∙ tail;
  durable = ap (λ (x : State). x.durable) is ∙ stays.durable ∙ durable;
}

pub fault_stays : {D : Type 0} (known : Bool) (cells : D → List Cell) (sectors : D → ℕ) (arming : D → Arming) (count : D → ℕ)
    (fault : StoreFault) (old new : Store D) → IsStep known cells sectors arming count (Err fault) old new → PositionsStay (state_of old) (state_of new)
fault_stays known cells sectors arming count fault old new step =
    let g : State = with_batch (state_of old) (state_of new) in
    stays_to (state_of old) g _ (state_of new) refl refl refl step.done.state (err_stays fault (count new.disk) (step_action old.stage old.job g) g)

-- a step of writing back
pub back_step : {D : Type 0} (known : Bool) (cells : D → List Cell) (sectors : D → ℕ) (arming : D → Arming) (count : D → ℕ) (size : ℕ)
    (progress : Progress) (old new : Store D) → IsConsistent size old → IsStep known cells sectors arming count (Ok progress) old new → old.job ≡ WriteBack
    → PositionsStay (state_of old) (state_of new)
back_step known cells sectors arming count size progress old new sound step is =
    let g : State = with_batch (state_of old) (state_of new) in
    let action : Action = step_action old.stage old.job g in
    stays_to (state_of old) g _ (state_of new) refl refl refl step.done.state
    (back_stays action old.stage g (subst (λ (j : Job). Comes action old.stage j g) is (comes_from old.stage old.job g).comes)
    (subst (λ (j : Job). JobFits old.stage j) is sound.job))

home_force : Home ≡ Force → ⊥
home_force is = cc

home_job : (was job : Job) → was ≡ Home → (job ≡ was) ⊎ ((was ≡ Force) × (job ≡ Clear)) → job ≡ Home
home_job was job is (inl same) = same ∙ is
home_job was job is (inr turned) = absurd (home_force (sym is ∙ turned.0))

-- a step of going home, but for the last
pub home_step_stays : {D : Type 0} (known : Bool) (cells : D → List Cell) (sectors : D → ℕ) (arming : D → Arming) (count : D → ℕ) (size : ℕ)
    (old new : Store D) → IsConsistent size old → IsStep known cells sectors arming count (Ok More) old new → old.job ≡ Home
    → PositionsStay (state_of old) (state_of new)
home_step_stays known cells sectors arming count size old new sound step is =
    let g : State = with_batch (state_of old) (state_of new) in
    let action : Action = step_action old.stage old.job g in
    let from = comes_from old.stage old.job g in
    let job : step_job old.stage old.job g ≡ Home = home_job old.job _ is from.same in
    stays_to (state_of old) g _ (state_of new) refl refl refl step.done.state
    (home_stays action old.stage g (subst (λ (j : Job). Comes action old.stage j g) is from.comes)
    (subst (λ (j : Job). JobFits old.stage j) is sound.job) (subst (λ (j : Job). More ≡ progress_of action j g) job step.done.answer.1))

-- its last step flushes a cover
pub home_step_covers : {D : Type 0} (known : Bool) (cells : D → List Cell) (sectors : D → ℕ) (arming : D → Arming) (count : D → ℕ) (size : ℕ)
    (old new : Store D) → IsConsistent size old → IsStep known cells sectors arming count (Ok Ended) old new → old.job ≡ Home
    → step_action old.stage old.job (with_batch (state_of old) (state_of new)) ≡ Actions.flush_cover
home_step_covers known cells sectors arming count size old new sound step is =
    let g : State = with_batch (state_of old) (state_of new) in
    let action : Action = step_action old.stage old.job g in
    let from = comes_from old.stage old.job g in
    let job : step_job old.stage old.job g ≡ Home = home_job old.job _ is from.same in
    home_last action old.stage g (subst (λ (j : Job). Comes action old.stage j g) is from.comes)
    (subst (λ (j : Job). JobFits old.stage j) is sound.job) step.done.answer.0 (subst (λ (j : Job). Ended ≡ progress_of action j g) job step.done.answer.1)

pub home_step_moves : {D : Type 0} (known : Bool) (cells : D → List Cell) (sectors : D → ℕ) (arming : D → Arming) (count : D → ℕ) (size : ℕ)
    (old new : Store D) → IsConsistent size old → IsStep known cells sectors arming count (Ok Ended) old new → old.job ≡ Home
    → Covered (state_of old) (state_of new)
home_step_moves known cells sectors arming count size old new sound step is =
    let g : State = with_batch (state_of old) (state_of new) in
    let action = home_step_covers known cells sectors arming count size old new sound step is in
    let state : state_of new ≡ covered_state g = step.done.state ∙ ap (λ (a : Action). done_state a g) action in
    record { head = ap (λ (x : State). x.head) state; tail = ap (λ (x : State). x.tail) state; durable = ap (λ (x : State). x.durable) state }

-- after it the log of each image is the cover alone
pub home_images : {D : Type 0} (known : Bool) (cells : D → List Cell) (sectors : D → ℕ) (arming : D → Arming) (count : D → ℕ)
    (law : (s : State) (before : List Cell) (image : List Sector) → Covers s before → RingFits s before → s.head + 1 ≤ 2 ^ 63
    → IsImage (flushed (cover_written s before)) image → HasCover s.anchor s.ring s.head (s.durable + 1) image)
    (old new : Store D) (image : List Sector) → IsStore known cells sectors old → IsStep known cells sectors arming count (Ok Ended) old new → old.job ≡ Home
    → IsTrue known → sectors old.disk ≡ length (cells old.disk) → IsImage (cells new.disk) image
    → HasCover old.anchor old.ring old.positions.head (old.durable + 1) image
home_images known cells sectors arming count law old new image store step is tells size left =
    let s : State = state_of old in
    let g : State = with_batch s (state_of new) in
    let action = home_step_covers known cells sectors arming count (sectors old.disk) old new store.sound step is in
    let cover : old.stage ≡ Cover = subst (λ (a : Action). Comes a old.stage old.job g) action (comes_from old.stage old.job g).comes in
    let held : (before : List Cell) × Covers s before × (cells old.disk ≡ cover_written s before) =
    subst (λ (st : Stage). HoldsAtStage st s (cells old.disk)) cover (store.holds tells) in
    let end : old.positions.head + 1 ≤ 2 ^ 63 = (subst (λ (st : Stage). StageFits st s old.sectors.items old.count) cover store.sound.stage).0 in
    let fits : RingFits s held.0 = record {
      some = omega (arith, store.sound.ring, old.positions.spare);
      place = omega (arith, store.sound.place, size, ap length held.2, length-written (sector_of_position s.anchor s.ring s.head) (encoded_record (cover_record s)) held.0);
    } in
    let made = subst (λ (a : Action). Made known cells arming (call_of a g) (Ok Ended) old.disk new.disk) action step.done.call in
    law s held.0 image held.1 fits end
    (subst (λ (cs : List Cell). IsImage cs image) (made.0 tells ∙ ap flushed held.2) left)

-- where a cover would end past the last position, a home job comes to it at once
end_answers_past : (result : Result Progress StoreFault) (job : Job) (s : State) → IsStepAnswer result Actions.end_positions job s → result ≡ Err PositionEnd
end_answers_past (Ok progress) job s is = absurd is.0
end_answers_past (Err WriteFault) job s is = absurd is
end_answers_past (Err FlushFault) job s is = absurd is
end_answers_past (Err PositionEnd) job s is = refl
end_answers_past (Err (faults.Down fault)) job s is = absurd (stay_end fault (sym is))

pub home_step_ends : {D : Type 0} (known : Bool) (cells : D → List Cell) (sectors : D → ℕ) (arming : D → Arming) (count : D → ℕ)
    (result : Result Progress StoreFault) (old new : Store D) → IsStep known cells sectors arming count result old new
    → old.job ≡ Home → old.stage ≡ Free → CoverEndsPast (state_of old) → result ≡ Err PositionEnd
home_step_ends known cells sectors arming count result old new step is free past =
    let g : State = with_batch (state_of old) (state_of new) in
    let job : Job = step_job old.stage old.job g in
    let action : step_action old.stage old.job g ≡ Actions.end_positions =
    ap (λ (st : Stage). step_action st old.job g) free ∙ ap (λ (j : Job). step_action Free j g) is
    ∙ all_home g.dirty g.unflushed (within_positions (g.head + 1) Actions.write_cover) past.0 past.1 ∙ past_end (g.head + 1) Actions.write_cover past.2 in
    end_answers_past result job g (subst (λ (a : Action). IsStepAnswer result a job g) action step.done.answer)
