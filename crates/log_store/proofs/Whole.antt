-- What whole jobs are, from their steps.
use Rattle.std.proofs.Common.{Bool, true, false, Result, Ok, Err, ◌≡◌, ◌-◌, ◌%◌, ◌≤◌, ℕ, suc, List, length, None, refl, sym, ap, ◌∙◌, subst, arith}
use Rattle.std.specs.Prelude.{if◌then◌else◌, nat_le}
use Rattle.std.specs.Result.{IsErrAnd}
use Rattle.disk_model.specs.Disk.{Arming, Cell}
use Rattle.log_record.specs.Encoding.{sector_count}
use Rattle.log_store.specs.declared.fault.Progress.{Progress}
use Rattle.log_store.specs.declared.fault.Progress.TheVariants.{Ended, More}
use Rattle.log_store.specs.declared.fault.StoreFault.{StoreFault}
use Rattle.log_store.specs.declared.fault.StoreFault.TheVariants.{WriteFault, FlushFault, PositionEnd}
use Rattle.log_store.specs.declared.fault.StoreFault.TheVariants as faults
use Rattle.log_store.specs.declared.store.Stage.{Stage}
use Rattle.log_store.specs.declared.store.Stage.TheVariants.{Cover, Down, Free, Half, Record}
use Rattle.log_store.specs.declared.store.Store.{Store}
use Rattle.log_store.specs.Calls.{with_batch}
use Rattle.log_store.specs.Actions
use Rattle.log_store.specs.Actions.{Action, CountsFaults, GoesOn, HasNothing, IsStepAnswer, IsDoneBy, IsStep, IsWholeJob, MaySucceed, action_at, done_state, force_action, job_at_rest, step_action, step_job, turned_force}
use Rattle.log_store.proofs.Done.{all_home}
use Rattle.log_store.specs.declared.store.Job.{Job}
use Rattle.log_store.specs.declared.store.Job.TheVariants.{Clear, Force, Home, Idle, Nothing, WriteBack}
use Rattle.log_record.specs.declared.image.Commit.{Commit}
use Rattle.log_store.specs.Outcome.{down_count}
use Rattle.log_store.specs.State.{State, state_of}

-- ---- a step that succeeds leaves the store up

staged_up : (b : Bool) (fault : ℕ) → (if b then Record else Half) ≡ Down fault → ⊥
staged_up true fault is = cc
staged_up false fault is = cc

free_up : (fault : ℕ) → Free ≡ Down fault → ⊥
free_up fault is = cc

record_up : (fault : ℕ) → Record ≡ Down fault → ⊥
record_up fault is = cc

cover_up : (fault : ℕ) → Cover ≡ Down fault → ⊥
cover_up fault is = cc

done_up : (action : Action) (s : State) (fault : ℕ) → MaySucceed action → (s.stage ≡ Down fault → ⊥) → (done_state action s).stage ≡ Down fault → ⊥
done_up Actions.end_job s fault may up is = up is
done_up (Actions.stay_down since) s fault may up is = may
done_up Actions.end_positions s fault may up is = may
done_up Actions.write_record s fault may up is = staged_up (nat_le (sector_count (length s.batch)) (s.ring - s.head % s.ring)) fault is
done_up Actions.write_rest s fault may up is = record_up fault is
done_up Actions.flush_record s fault may up is = free_up fault is
done_up (Actions.write_home image rest) s fault may up is = up is
done_up Actions.flush_home s fault may up is = up is
done_up Actions.write_cover s fault may up is = cover_up fault is
done_up Actions.flush_cover s fault may up is = free_up fault is

pub up_after : {D : Type 0} (known : Bool) (cells : D → List Cell) (sectors : D → ℕ) (arming : D → Arming) (count : D → ℕ)
    (progress : Progress) (old new : Store D) → IsStep known cells sectors arming count (Ok progress) old new → (fault : ℕ) → new.stage ≡ Down fault → ⊥
up_after known cells sectors arming count progress old new step fault is =
    let g : State = with_batch (state_of old) (state_of new) in
    let up : old.stage ≡ Down fault → ⊥ = λ down. subst (λ (st : Stage). MaySucceed (step_action st old.job g)) down step.done.answer.0 in
    done_up (step_action old.stage old.job g) g fault step.done.answer.0 up (sym (ap (λ (x : State). x.stage) step.done.state) ∙ is)

pub none_down : (stage : Stage) → ((fault : ℕ) → stage ≡ Down fault → ⊥) → down_count stage ≡ None
none_down Free up = refl
none_down Half up = refl
none_down Record up = refl
none_down Cover up = refl
none_down (Down fault) up = absurd (up fault refl)

-- ---- the answer of a `?`

pub answered : {T : Type 0} (result : Result T StoreFault) (fault : StoreFault) → IsErrAnd result (λ e. e ≡ fault) → result ≡ Err fault
answered (Ok value) fault is = absurd is
answered (Err other) fault is = ap Err is

-- ---- the count of faults

pub counts_rise : (result : Result Progress StoreFault) (before now : ℕ) → CountsFaults result before now → before ≤ now
counts_rise (Ok progress) before now is = is
counts_rise (Err WriteFault) before now is = is.0
counts_rise (Err FlushFault) before now is = is.0
counts_rise (Err PositionEnd) before now is = omega (arith, is)
counts_rise (Err (faults.Down fault)) before now is = omega (arith, is)

-- ---- one step more

pub one_more : {D : Type 0} (known : Bool) (cells : D → List Cell) (sectors : D → ℕ) (arming : D → Arming) (count : D → ℕ)
    (old middle new : Store D) → (n : ℕ) × GoesOn known cells sectors arming count n old middle
    → IsStep known cells sectors arming count (Ok More) middle new → (n : ℕ) × GoesOn known cells sectors arming count n old new
one_more known cells sectors arming count old middle new some step = (suc some.0, (middle, some.1, step))

pub last_one : {D : Type 0} (known : Bool) (cells : D → List Cell) (sectors : D → ℕ) (arming : D → Arming) (count : D → ℕ)
    (result : Result Progress StoreFault) (old last new : Store D) → (n : ℕ) × GoesOn known cells sectors arming count n old last
    → IsStep known cells sectors arming count result last new → IsWholeJob known cells sectors arming count result old new
last_one known cells sectors arming count result old last new some step = record { count = some.0; last = last; before = some.1; end = step }

-- ---- a job with nothing to do

end_other : Actions.end_job ≡ Actions.end_positions → ⊥
end_other is = cc

end_up : (fault : ℕ) → Actions.end_job ≡ Actions.stay_down fault → ⊥
end_up fault is = cc

nothing_rest : (job : Job) (s n : State) → HasNothing job s
    → action_at Free (job_at_rest job (with_batch s n)) (with_batch s n) ≡ Actions.end_job
nothing_rest Force s n none =
    let g : State = with_batch s n in
    ap (λ (l : List Commit). action_at Free (turned_force l g) g) none ∙ ap (λ (l : List Commit). force_action l g) none
nothing_rest WriteBack s n none = all_home s.dirty s.unflushed Actions.end_job none.0 none.1
nothing_rest Nothing s n none = refl
nothing_rest Idle s n none = refl
nothing_rest Clear s n none = absurd none
nothing_rest Home s n none = absurd none

end_answers : (result : Result Progress StoreFault) (job : Job) (s : State) → IsStepAnswer result Actions.end_job job s → result ≡ Ok Ended
end_answers (Ok progress) job s is = ap Ok is.1
end_answers (Err WriteFault) job s is = absurd is
end_answers (Err FlushFault) job s is = absurd is
end_answers (Err PositionEnd) job s is = absurd (end_other is)
end_answers (Err (faults.Down fault)) job s is = absurd (end_up fault is)

-- its step ends it and makes no call
pub nothing_step : {D : Type 0} (known : Bool) (cells : D → List Cell) (sectors : D → ℕ) (arming : D → Arming) (count : D → ℕ)
    (result : Result Progress StoreFault) (old new : Store D) → IsStep known cells sectors arming count result old new
    → old.stage ≡ Free → HasNothing old.job (state_of old) → (result ≡ Ok Ended) × (new.disk ≡ old.disk)
nothing_step known cells sectors arming count result old new step free none =
    let s : State = state_of old in
    let g : State = with_batch s (state_of new) in
    let job : Job = step_job old.stage old.job g in
    let action : step_action old.stage old.job g ≡ Actions.end_job =
    ap (λ (st : Stage). step_action st old.job g) free ∙ nothing_rest old.job s (state_of new) none in
    let done = subst (λ (a : Action). IsDoneBy known cells sectors arming count a result job g old.disk new) action step.done in
    (end_answers result job g done.answer, done.call)
