-- What a step of the store leaves of the commits that wait.
use Rattle.std.proofs.Common.{◌≡◌, ◌≤◌, ◌+◌, ◌^◌, ℕ, Bool, true, false, List, [], ◌∷◌, Result, Ok, Err, drop, if◌then◌else◌, length, nat_lt, refl, sym, subst, ◌∙◌}
use Rattle.std.proofs.lemmas.Bool.{false≢true, true≢false}
use Rattle.log_record.specs.declared.image.Commit.{Commit}
use Rattle.log_record.specs.declared.image.Image.{Image}
use Rattle.log_record.specs.Encoding.{sector_count}
use Rattle.log_store.specs.declared.fault.Progress.{Progress}
use Rattle.log_store.specs.declared.fault.StoreFault.{StoreFault}
use Rattle.log_store.specs.declared.fault.StoreFault.TheVariants as faults
use Rattle.log_store.specs.declared.store.Job.{Job}
use Rattle.log_store.specs.declared.store.Job.TheVariants.{Clear, Force, Home, Idle, Nothing, WriteBack}
use Rattle.log_store.specs.declared.store.Stage.{Stage}
use Rattle.log_store.specs.declared.store.Stage.TheVariants.{Cover, Down, Free, Half, Record}
use Rattle.log_store.specs.declared.store.Store.{Store}
use Rattle.log_store.specs.Calls.{with_batch}
use Rattle.log_store.specs.State.{State, state_of}
use Rattle.log_store.specs.Actions.{Action, IsGathered, IsStep, action_at, action_at_rest, done_state, end_job, end_positions, failed_state, flush_cover, flush_home, flush_record, force_action, gathers, home_action, state_after, stay_down, step_action, step_job, within_positions, write_cover, write_home, write_record, write_rest}
use Rattle.actor_world.specs.Steps.{DiskFace}
use Rattle.actor_world.specs.Invariant.{TakenFits}

-- ---- the flush of a record

is_flush : Action → Bool
is_flush flush_record = true
is_flush _ = false

within_not : (end : ℕ) (action : Action) → is_flush action ≡ false → is_flush (within_positions end action) ≡ false
unfolding is_flush
within_not end action not = elim (nat_lt (2 ^ 63) end) as (λ b. is_flush (if b then end_positions else action) ≡ false) [ true ↦ refl | false ↦ not ]

home_not : (images : List Image) (unflushed : Bool) (last : Action) → is_flush last ≡ false → is_flush (home_action images unflushed last) ≡ false
unfolding is_flush
home_not (image ∷ rest) unflushed last not = refl
home_not [] true last not = refl
home_not [] false last not = not

force_not : (list : List Commit) (s : State) → is_flush (force_action list s) ≡ false
unfolding is_flush
force_not [] s = refl
force_not (commit ∷ list) s = within_not (s.head + sector_count (length s.batch)) write_record refl

rest_not : (going : Job) (s : State) → is_flush (action_at_rest going s) ≡ false
unfolding is_flush
rest_not Force s = force_not s.list s
rest_not Clear s = home_not s.dirty s.unflushed (within_positions (s.head + 1) write_cover) (within_not (s.head + 1) write_cover refl)
rest_not Home s = home_not s.dirty s.unflushed (within_positions (s.head + 1) write_cover) (within_not (s.head + 1) write_cover refl)
rest_not WriteBack s = home_not s.dirty s.unflushed end_job refl
rest_not Nothing s = refl
rest_not Idle s = refl

-- where a record is flushed, it takes no more commits than wait
flush_fits : (stage : Stage) (going : Job) (s : State) → TakenFits stage s → is_flush (action_at stage going s) ≡ true → s.taken ≤ length s.list
unfolding is_flush
flush_fits Free going s fits is = absurd (true≢false (sym is ∙ rest_not going s))
flush_fits Half going s fits is = fits
flush_fits Record going s fits is = fits
flush_fits Cover going s fits is = absurd (false≢true is)
flush_fits (Down fault) going s fits is = absurd (false≢true is)

-- ---- the commits that wait, and the number of the last durable one

-- They stay; or so many first ones come to be durable.
pub data Moves (list : List Commit) (durable : ℕ) (after : List Commit) (later : ℕ) : Type 0 where
  Kept : after ≡ list → later ≡ durable → Moves list durable after later
  Landed : (n : ℕ) → n ≤ length list → after ≡ drop n list → later ≡ durable + n → Moves list durable after later

done_moves : (action : Action) (s : State) → (is_flush action ≡ true → s.taken ≤ length s.list) → Moves s.list s.durable (done_state action s).list (done_state action s).durable
unfolding is_flush
done_moves end_job s fits = Kept refl refl
done_moves (stay_down fault) s fits = Kept refl refl
done_moves end_positions s fits = Kept refl refl
done_moves write_record s fits = Kept refl refl
done_moves write_rest s fits = Kept refl refl
done_moves flush_record s fits = Landed s.taken (fits refl) refl refl
done_moves (write_home image rest) s fits = Kept refl refl
done_moves flush_home s fits = Kept refl refl
done_moves write_cover s fits = Kept refl refl
done_moves flush_cover s fits = Kept refl refl

failed_moves : (now : ℕ) (action : Action) (s : State) → Moves s.list s.durable (failed_state now action s).list (failed_state now action s).durable
failed_moves now end_job s = Kept refl refl
failed_moves now (stay_down fault) s = Kept refl refl
failed_moves now end_positions s = Kept refl refl
failed_moves now write_record s = Kept refl refl
failed_moves now write_rest s = Kept refl refl
failed_moves now flush_record s = Kept refl refl
failed_moves now (write_home image rest) s = Kept refl refl
failed_moves now flush_home s = Kept refl refl
failed_moves now write_cover s = Kept refl refl
failed_moves now flush_cover s = Kept refl refl

after_moves : (result : Result Progress StoreFault) (now : ℕ) (action : Action) (s : State) → (is_flush action ≡ true → s.taken ≤ length s.list)
    → Moves s.list s.durable (state_after result now action s).list (state_after result now action s).durable
after_moves (Ok progress) now action s fits = done_moves action s fits
after_moves (Err faults.WriteFault) now action s fits = failed_moves now action s
after_moves (Err faults.FlushFault) now action s fits = failed_moves now action s
after_moves (Err faults.PositionEnd) now action s fits = Kept refl refl
after_moves (Err (faults.Down fault)) now action s fits = Kept refl refl

-- a record that is in flight stays as it was gathered
gathered_fits : (stage : Stage) (going : Job) (list : List Commit) (s new : State) → IsGathered (gathers stage going list) s new → TakenFits stage s → TakenFits stage (with_batch s new)
gathered_fits Free going list s new gathered fits = tt
gathered_fits Half going list s new gathered fits = subst (λ n. n ≤ length s.list) (sym gathered.1) fits
gathered_fits Record going list s new gathered fits = subst (λ n. n ≤ length s.list) (sym gathered.1) fits
gathered_fits Cover going list s new gathered fits = tt
gathered_fits (Down fault) going list s new gathered fits = tt

pub step_moves : {D : Type 0} (face : DiskFace D) (result : Result Progress StoreFault) (old new : Store D)
    → IsStep face.known face.cells face.sectors face.arming face.faults result old new → TakenFits old.stage (state_of old)
    → Moves (state_of old).list (state_of old).durable (state_of new).list (state_of new).durable
step_moves face result old new step fits =
    let s : State = with_batch (state_of old) (state_of new) in
    let going : Job = step_job old.stage old.job s in
    let kept : TakenFits old.stage s = gathered_fits old.stage old.job old.queue.items (state_of old) (state_of new) step.batch fits in
    subst (λ (n : State). Moves s.list s.durable n.list n.durable) (sym step.done.state)
    (after_moves result (face.faults new.disk) (step_action old.stage old.job s) s (flush_fits old.stage going s kept))
