-- From the action that a function made to a step.
use Rattle.std.proofs.Common.{Bool, true, false, Result, Ok, Err, ◌≡◌, ◌≢◌, ◌+◌, ◌^◌, ◌<◌, ◌≤◌, ℕ, cond, List, [], ◌∷◌, length, refl, sym, ap, ◌∙◌, subst, ◌-◌, ◌⊎◌, inl, inr, arith}
use Rattle.std.specs.Prelude.{nat_le, nat_lt}
use Rattle.std.proofs.lemmas.Bool.Decides.{nat_tests}
use Rattle.disk_model.specs.Disk.{Arming, Cell}
use Rattle.log_record.specs.declared.image.Image.{Image}
use Rattle.log_record.specs.declared.image.Commit.{Commit}
use Rattle.log_record.specs.Encoding.{sector_count}
use Rattle.log_batch.specs.Newest.{IsBatch}
use Rattle.log_store.specs.declared.fault.Progress.{Progress}
use Rattle.log_store.specs.declared.fault.Progress.TheVariants.{Ended, More}
use Rattle.log_store.specs.declared.fault.StoreFault.{StoreFault}
use Rattle.log_store.specs.declared.fault.StoreFault.TheVariants.{WriteFault, FlushFault, PositionEnd}
use Rattle.log_store.specs.declared.fault.StoreFault.TheVariants as faults
use Rattle.log_store.specs.declared.store.Job.{Job}
use Rattle.log_store.specs.declared.store.Job.TheVariants.{Clear, Force, Home, Idle, Nothing, WriteBack}
use Rattle.log_store.specs.declared.store.Stage.{Stage}
use Rattle.log_store.specs.declared.store.Stage.TheVariants.{Cover, Free}
use Rattle.log_store.specs.declared.store.Store.{Store}
use Rattle.log_store.specs.Calls.{has_room, with_batch}
use Rattle.log_store.specs.Actions
use Rattle.log_store.specs.Actions.{Action, IsDoneBy, IsGathered, IsStep, action_at, cover_progress, done_state, failed_state, force_action, gathers, gathers_at_rest, home_action, home_progress, job_at_rest, left_progress, room_action, state_after, step_action, step_job, turned_force, within_positions}
use Rattle.log_store.specs.State.{State, state_of}
use Rattle.log_store.specs.Steps.{Covering, JobFits}

-- ---- the record that is gathered stays in a step

abbrev pub Keeps : State → State → Type 0
Keeps old new = (new.batch ≡ old.batch) × (new.taken ≡ old.taken)

done_keeps : (action : Action) (s : State) → Keeps s (done_state action s)
done_keeps Actions.end_job s = (refl, refl)
done_keeps (Actions.stay_down fault) s = (refl, refl)
done_keeps Actions.end_positions s = (refl, refl)
done_keeps Actions.write_record s = (refl, refl)
done_keeps Actions.write_rest s = (refl, refl)
done_keeps Actions.flush_record s = (refl, refl)
done_keeps (Actions.write_home image rest) s = (refl, refl)
done_keeps Actions.flush_home s = (refl, refl)
done_keeps Actions.write_cover s = (refl, refl)
done_keeps Actions.flush_cover s = (refl, refl)

failed_keeps : (now : ℕ) (action : Action) (s : State) → Keeps s (failed_state now action s)
failed_keeps now Actions.end_job s = (refl, refl)
failed_keeps now (Actions.stay_down fault) s = (refl, refl)
failed_keeps now Actions.end_positions s = (refl, refl)
failed_keeps now Actions.write_record s = (refl, refl)
failed_keeps now Actions.write_rest s = (refl, refl)
failed_keeps now Actions.flush_record s = (refl, refl)
failed_keeps now (Actions.write_home image rest) s = (refl, refl)
failed_keeps now Actions.flush_home s = (refl, refl)
failed_keeps now Actions.write_cover s = (refl, refl)
failed_keeps now Actions.flush_cover s = (refl, refl)

pub after_keeps : (result : Result Progress StoreFault) (now : ℕ) (action : Action) (s : State) → Keeps s (state_after result now action s)
after_keeps (Ok progress) now action s = done_keeps action s
after_keeps (Err WriteFault) now action s = failed_keeps now action s
after_keeps (Err FlushFault) now action s = failed_keeps now action s
after_keeps (Err PositionEnd) now action s = (refl, refl)
after_keeps (Err (faults.Down fault)) now action s = (refl, refl)

pub with_batch_same : (old new : State) → Keeps old new → with_batch old new ≡ old
with_batch_same old new keeps =
    ap (λ (b : List Image). record old { batch = b; taken = new.taken }) keeps.0
    ∙ ap (λ (t : ℕ). record old { taken = t }) keeps.1

-- ---- a step that gathers nothing

pub plain_step : {D : Type 0} (known : Bool) (cells : D → List Cell) (sectors : D → ℕ) (arming : D → Arming) (count : D → ℕ)
    (action : Action) (result : Result Progress StoreFault) (old new : Store D)
    → gathers old.stage old.job old.queue.items ≡ false → step_job old.stage old.job (state_of old) ≡ old.job
    → step_action old.stage old.job (state_of old) ≡ action
    → IsDoneBy known cells sectors arming count action result old.job (state_of old) old.disk new
    → IsStep known cells sectors arming count result old new
plain_step known cells sectors arming count action result old new none job_is action_is done =
    let s : State = state_of old in
    let n : State = state_of new in
    let after = after_keeps result (count new.disk) action s in
    let keeps : Keeps s n = (ap (λ (x : State). x.batch) done.state ∙ after.0, ap (λ (x : State). x.taken) done.state ∙ after.1) in
    record {
      batch = subst (λ (b : Bool). IsGathered b s n) (sym none) keeps;
      done = subst (λ (x : State). IsDoneBy known cells sectors arming count (step_action old.stage old.job x) result (step_job old.stage old.job x) x old.disk new)
          (sym (with_batch_same s n keeps))
          (subst (λ (a : Action). IsDoneBy known cells sectors arming count a result (step_job old.stage old.job s) s old.disk new) (sym action_is)
          (subst (λ (j : Job). IsDoneBy known cells sectors arming count action result j s old.disk new) (sym job_is) done));
    }

-- at a stage where something is in flight, or the store is down
pub stage_step : {D : Type 0} (known : Bool) (cells : D → List Cell) (sectors : D → ℕ) (arming : D → Arming) (count : D → ℕ)
    (stage : Stage) (result : Result Progress StoreFault) (old new : Store D) → old.stage ≡ stage
    → gathers stage old.job old.queue.items ≡ false → step_job stage old.job (state_of old) ≡ old.job
    → IsDoneBy known cells sectors arming count (action_at stage old.job (state_of old)) result old.job (state_of old) old.disk new
    → IsStep known cells sectors arming count result old new
stage_step known cells sectors arming count stage result old new is none job_is done =
    plain_step known cells sectors arming count (action_at stage old.job (state_of old)) result old new
    (ap (λ (st : Stage). gathers st old.job old.queue.items) is ∙ none)
    (ap (λ (st : Stage). step_job st old.job (state_of old)) is ∙ job_is)
    (ap (λ (st : Stage). step_action st old.job (state_of old)) is ∙ ap (λ (j : Job). action_at stage j (state_of old)) job_is)
    done

-- at rest, by a job
pub rest_step : {D : Type 0} (known : Bool) (cells : D → List Cell) (sectors : D → ℕ) (arming : D → Arming) (count : D → ℕ)
    (job : Job) (result : Result Progress StoreFault) (old new : Store D) → old.stage ≡ Free → old.job ≡ job
    → gathers_at_rest job old.queue.items ≡ false → job_at_rest job (state_of old) ≡ job
    → IsDoneBy known cells sectors arming count (action_at Free job (state_of old)) result old.job (state_of old) old.disk new
    → IsStep known cells sectors arming count result old new
rest_step known cells sectors arming count job result old new free is none job_is done =
    stage_step known cells sectors arming count Free result old new free
    (ap (λ (j : Job). gathers_at_rest j old.queue.items) is ∙ none)
    (ap (λ (j : Job). job_at_rest j (state_of old)) is ∙ job_is ∙ sym is)
    (subst (λ (j : Job). IsDoneBy known cells sectors arming count (action_at Free j (state_of old)) result old.job (state_of old) old.disk new) (sym is) done)

-- making room, for a force or to go home
pub covering_step : {D : Type 0} (known : Bool) (cells : D → List Cell) (sectors : D → ℕ) (arming : D → Arming) (count : D → ℕ)
    (job : Job) (result : Result Progress StoreFault) (old new : Store D) → old.stage ≡ Free → old.job ≡ job → Covering job
    → IsDoneBy known cells sectors arming count (room_action (state_of old)) result old.job (state_of old) old.disk new
    → IsStep known cells sectors arming count result old new
covering_step known cells sectors arming count Clear result old new free is covering done = rest_step known cells sectors arming count Clear result old new free is refl refl done
covering_step known cells sectors arming count Home result old new free is covering done = rest_step known cells sectors arming count Home result old new free is refl refl done
covering_step known cells sectors arming count WriteBack result old new free is covering done = absurd covering
covering_step known cells sectors arming count Force result old new free is covering done = absurd covering
covering_step known cells sectors arming count Nothing result old new free is covering done = absurd covering
covering_step known cells sectors arming count Idle result old new free is covering done = absurd covering

-- ---- a force that gathers

pub some_gathers : (list : List Commit) → list ≢ [] → gathers_at_rest Force list ≡ true
some_gathers [] some = absurd (some refl)
some_gathers (commit ∷ list) some = refl

pub room_job : (list : List Commit) (s : State) → list ≢ [] → has_room s (length s.batch) ≡ true → turned_force list s ≡ Force
room_job [] s some room = absurd (some refl)
room_job (commit ∷ list) s some room = ap (λ (b : Bool). cond b Force Clear) room

pub no_room_job : (list : List Commit) (s : State) → list ≢ [] → has_room s (length s.batch) ≡ false → turned_force list s ≡ Clear
no_room_job [] s some room = absurd (some refl)
no_room_job (commit ∷ list) s some room = ap (λ (b : Bool). cond b Force Clear) room

pub record_action : (list : List Commit) (s : State) → list ≢ [] → force_action list s ≡ within_positions (s.head + sector_count (length s.batch)) Actions.write_record
record_action [] s some = absurd (some refl)
record_action (commit ∷ list) s some = refl

pub gather_step : {D : Type 0} (known : Bool) (cells : D → List Cell) (sectors : D → ℕ) (arming : D → Arming) (count : D → ℕ)
    (action : Action) (job : Job) (s : State) (result : Result Progress StoreFault) (old new : Store D)
    → old.stage ≡ Free → old.job ≡ Force → old.queue.items ≢ [] → with_batch (state_of old) s ≡ s
    → IsBatch old.queue.items s.taken s.batch → job_at_rest Force s ≡ job → action_at Free job s ≡ action
    → IsDoneBy known cells sectors arming count action result job s old.disk new
    → IsStep known cells sectors arming count result old new
gather_step known cells sectors arming count action job s result old new free force some gathered batch job_is action_is done =
    let o : State = state_of old in
    let n : State = state_of new in
    let after = after_keeps result (count new.disk) action s in
    let keeps : Keeps s n = (ap (λ (x : State). x.batch) done.state ∙ after.0, ap (λ (x : State). x.taken) done.state ∙ after.1) in
    let same : with_batch o n ≡ s =
    ap (λ (b : List Image). record o { batch = b; taken = n.taken }) keeps.0
    ∙ ap (λ (t : ℕ). record o { batch = s.batch; taken = t }) keeps.1 ∙ gathered in
    let gathers_is : gathers old.stage old.job old.queue.items ≡ true =
    ap (λ (st : Stage). gathers st old.job old.queue.items) free ∙ ap (λ (j : Job). gathers_at_rest j old.queue.items) force ∙ some_gathers old.queue.items some in
    let jobs : step_job old.stage old.job s ≡ job =
    ap (λ (st : Stage). step_job st old.job s) free ∙ ap (λ (j : Job). job_at_rest j s) force ∙ job_is in
    let actions : step_action old.stage old.job s ≡ action =
    ap (λ (j : Job). action_at old.stage j s) jobs ∙ ap (λ (st : Stage). action_at st job s) free ∙ action_is in
    let taken_batch : IsBatch old.queue.items n.taken n.batch =
    subst (λ (t : ℕ). IsBatch old.queue.items t n.batch) (sym keeps.1)
    (subst (λ (b : List Image). IsBatch old.queue.items s.taken b) (sym keeps.0) batch) in
    record {
      batch = subst (λ (b : Bool). IsGathered b o n) (sym gathers_is) taken_batch;
      done = subst (λ (x : State). IsDoneBy known cells sectors arming count (step_action old.stage old.job x) result (step_job old.stage old.job x) x old.disk new)
          (sym same)
          (subst (λ (a : Action). IsDoneBy known cells sectors arming count a result (step_job old.stage old.job s) s old.disk new) (sym actions)
          (subst (λ (j : Job). IsDoneBy known cells sectors arming count action result j s old.disk new) (sym jobs) done));
    }

-- ---- which action comes

pub done_as : {D : Type 0} (known : Bool) (cells : D → List Cell) (sectors : D → ℕ) (arming : D → Arming) (count : D → ℕ)
    (action other : Action) (result : Result Progress StoreFault) (was : Job) (s : State) (disk : D) (new : Store D) → other ≡ action
    → IsDoneBy known cells sectors arming count action result was s disk new
    → IsDoneBy known cells sectors arming count other result was s disk new
done_as known cells sectors arming count action other result was s disk new is done =
    subst (λ (a : Action). IsDoneBy known cells sectors arming count a result was s disk new) (sym is) done

lt_true : (a b : ℕ) → a < b → nat_lt a b ≡ true
lt_true a b h = grind (arith, nat_tests)

lt_false : (a b : ℕ) → b ≤ a → nat_lt a b ≡ false
lt_false a b h = grind (arith, nat_tests)

pub le_true : (a b : ℕ) → a ≤ b → nat_le a b ≡ true
le_true a b h = grind (arith, nat_tests)

pub le_false : (a b : ℕ) → b < a → nat_le a b ≡ false
le_false a b h = grind (arith, nat_tests)

pub past_end : (end : ℕ) (action : Action) → 2 ^ 63 < end → within_positions end action ≡ Actions.end_positions
past_end end action past = ap (λ (b : Bool). cond b Actions.end_positions action) (lt_true (2 ^ 63) end past)

pub before_end : (end : ℕ) (action : Action) → end ≤ 2 ^ 63 → within_positions end action ≡ action
before_end end action before = ap (λ (b : Bool). cond b Actions.end_positions action) (lt_false (2 ^ 63) end before)

pub first_home : (dirty rest : List Image) (image : Image) (unflushed : Bool) (last : Action) → dirty ≡ image ∷ rest
    → home_action dirty unflushed last ≡ Actions.write_home image rest
first_home dirty rest image unflushed last is = ap (λ (l : List Image). home_action l unflushed last) is

pub no_home : (dirty : List Image) (unflushed : Bool) (last : Action) → dirty ≡ [] → home_action dirty unflushed last ≡ home_action [] unflushed last
no_home dirty unflushed last is = ap (λ (l : List Image). home_action l unflushed last) is

pub home_flush : (dirty : List Image) (unflushed : Bool) (last : Action) → dirty ≡ [] → unflushed ≡ true → home_action dirty unflushed last ≡ Actions.flush_home
home_flush dirty unflushed last none is = no_home dirty unflushed last none ∙ ap (λ (b : Bool). home_action [] b last) is

pub all_home : (dirty : List Image) (unflushed : Bool) (last : Action) → dirty ≡ [] → unflushed ≡ false → home_action dirty unflushed last ≡ last
all_home dirty unflushed last none is = no_home dirty unflushed last none ∙ ap (λ (b : Bool). home_action [] b last) is

-- ---- whether the job goes on

pub left_ended : (list : List Commit) → list ≡ [] → Ended ≡ left_progress list
left_ended list none = sym (ap left_progress none)

pub left_more : (list : List Commit) → list ≢ [] → More ≡ left_progress list
left_more [] some = absurd (some refl)
left_more (commit ∷ list) some = refl

pub home_goes_on : (job : Job) → (job ≡ WriteBack → ⊥) → More ≡ home_progress job
home_goes_on WriteBack other = absurd (other refl)
home_goes_on Home other = refl
home_goes_on Clear other = refl
home_goes_on Force other = refl
home_goes_on Nothing other = refl
home_goes_on Idle other = refl

cover_ends_at : (job : Job) → JobFits Cover job → (job ≡ Clear → ⊥) → Ended ≡ cover_progress job
cover_ends_at Home fits other = refl
cover_ends_at Clear fits other = absurd (other refl)
cover_ends_at Force fits other = absurd fits
cover_ends_at WriteBack fits other = absurd fits
cover_ends_at Nothing fits other = absurd fits
cover_ends_at Idle fits other = absurd fits

pub cover_ends : (stage : Stage) (job : Job) → stage ≡ Cover → JobFits stage job → (job ≡ Clear → ⊥) → Ended ≡ cover_progress job
cover_ends stage job is fits other = cover_ends_at job (subst (λ (st : Stage). JobFits st job) is fits) other

-- ---- the steps of a force

-- none waits
pub empty_step : {D : Type 0} (known : Bool) (cells : D → List Cell) (sectors : D → ℕ) (arming : D → Arming) (count : D → ℕ)
    (result : Result Progress StoreFault) (old new : Store D) → old.stage ≡ Free → old.job ≡ Force → old.queue.items ≡ []
    → IsDoneBy known cells sectors arming count Actions.end_job result old.job (state_of old) old.disk new
    → IsStep known cells sectors arming count result old new
empty_step known cells sectors arming count result old new free force none done =
    let s : State = state_of old in
    let jobs : step_job old.stage old.job s ≡ Force =
    ap (λ (st : Stage). step_job st old.job s) free ∙ ap (λ (j : Job). job_at_rest j s) force ∙ ap (λ (l : List Commit). turned_force l s) none in
    let actions : step_action old.stage old.job s ≡ Actions.end_job =
    ap (λ (j : Job). action_at old.stage j s) jobs ∙ ap (λ (st : Stage). action_at st Force s) free ∙ ap (λ (l : List Commit). force_action l s) none in
    plain_step known cells sectors arming count Actions.end_job result old new
    (ap (λ (st : Stage). gathers st old.job old.queue.items) free ∙ ap (λ (j : Job). gathers_at_rest j old.queue.items) force ∙ ap (gathers_at_rest Force) none)
    (jobs ∙ sym force) actions done

-- a record was gathered into a store, and has room
pub room_step : {D : Type 0} (known : Bool) (cells : D → List Cell) (sectors : D → ℕ) (arming : D → Arming) (count : D → ℕ)
    (result : Result Progress StoreFault) (old gathered new : Store D) (size : ℕ) → old.stage ≡ Free → old.job ≡ Force → old.queue.items ≢ []
    → gathered ≡ record old { batch = gathered.batch; taken = gathered.taken; count = size }
    → IsBatch old.queue.items gathered.taken gathered.batch
    → (gathered.positions.head - gathered.positions.tail) + sector_count (length gathered.batch) + 1 ≤ gathered.ring
    → IsDoneBy known cells sectors arming count (within_positions (gathered.positions.head + sector_count (length gathered.batch)) Actions.write_record)
    result gathered.job (state_of gathered) gathered.disk new
    → IsStep known cells sectors arming count result old new
room_step {D = D} known cells sectors arming count result old gathered new size free force some is batch room done =
    let s : State = state_of gathered in
    let action : Action = within_positions (gathered.positions.head + sector_count (length gathered.batch)) Actions.write_record in
    let job_force : gathered.job ≡ Force = ap (λ (x : Store D). x.job) is ∙ force in
    let disk_is : gathered.disk ≡ old.disk = ap (λ (x : Store D). x.disk) is in
    let some_left : gathered.queue.items ≢ [] = λ none. some (sym (ap (λ (x : Store D). x.queue.items) is) ∙ none) in
    let has : has_room s (length s.batch) ≡ true = le_true _ _ room in
    gather_step known cells sectors arming count action Force s result old new free force some (sym (ap state_of is)) batch
    (room_job gathered.queue.items s some_left has) (record_action gathered.queue.items s some_left)
    (subst (λ (d : D). IsDoneBy known cells sectors arming count action result Force s d new) disk_is
    (subst (λ (j : Job). IsDoneBy known cells sectors arming count action result j s gathered.disk new) job_force done))

-- a record was gathered into a store, and has no room
pub no_room_step : {D : Type 0} (known : Bool) (cells : D → List Cell) (sectors : D → ℕ) (arming : D → Arming) (count : D → ℕ)
    (result : Result Progress StoreFault) (old gathered new : Store D) (size : ℕ) → old.stage ≡ Free → old.job ≡ Force → old.queue.items ≢ []
    → gathered ≡ record old { batch = gathered.batch; taken = gathered.taken; count = size }
    → IsBatch old.queue.items gathered.taken gathered.batch
    → gathered.ring < (gathered.positions.head - gathered.positions.tail) + sector_count (length gathered.batch) + 1
    → IsDoneBy known cells sectors arming count (room_action (state_of gathered)) result Clear (state_of gathered) gathered.disk new
    → IsStep known cells sectors arming count result old new
no_room_step {D = D} known cells sectors arming count result old gathered new size free force some is batch short done =
    let s : State = state_of gathered in
    let disk_is : gathered.disk ≡ old.disk = ap (λ (x : Store D). x.disk) is in
    let some_left : gathered.queue.items ≢ [] = λ none. some (sym (ap (λ (x : Store D). x.queue.items) is) ∙ none) in
    let has : has_room s (length s.batch) ≡ false = le_false _ _ short in
    gather_step known cells sectors arming count (room_action s) Clear s result old new free force some (sym (ap state_of is)) batch
    (no_room_job gathered.queue.items s some_left has) refl
    (subst (λ (d : D). IsDoneBy known cells sectors arming count (room_action s) result Clear s d new) disk_is done)

-- nothing is to be done
pub quiet_step : {D : Type 0} (known : Bool) (cells : D → List Cell) (sectors : D → ℕ) (arming : D → Arming) (count : D → ℕ)
    (job : Job) (result : Result Progress StoreFault) (old new : Store D) → old.stage ≡ Free → old.job ≡ job → (job ≡ Idle) ⊎ (job ≡ Nothing)
    → IsDoneBy known cells sectors arming count Actions.end_job result old.job (state_of old) old.disk new
    → IsStep known cells sectors arming count result old new
quiet_step known cells sectors arming count job result old new free is quiet done = elim quiet [
  | inl idle ↦ rest_step known cells sectors arming count Idle result old new free (is ∙ idle) refl refl done
  | inr nothing ↦ rest_step known cells sectors arming count Nothing result old new free (is ∙ nothing) refl refl done
]
