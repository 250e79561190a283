-- A whole sync or home comes to what whole lines say, or is answered a fault with its cause.
use Rattle.std.proofs.Common.{◌≡◌, ◌<◌, ◌≤◌, ◌+◌, ◌-◌, ◌++◌, ℕ, zero, suc, true, false, List, [], ◌∷◌, Option, None, Some, IfSome, if◌then◌else◌, Result, Ok, Err, length, length-append, map, slice_set, refl, sym, ap, subst, ◌∙◌, arith}
use Rattle.std.specs.Bool.{⊤}
use Rattle.std.proofs.lemmas.List.{get_or-map, map-set, set-get_or}
use Rattle.std.proofs.lemmas.Option.{none-some, same_Some}
use Rattle.std.proofs.lemmas.Bool.{false≢true}
use Rattle.life_ports.specs.Faults.{Rose}
use Rattle.log_record.specs.declared.image.Commit.{Commit}
use Rattle.log_record.specs.declared.image.Image.{Image}
use Rattle.log_store.specs.declared.fault.Progress.{Progress}
use Rattle.log_store.specs.declared.fault.Progress.TheVariants.{More, Ended}
use Rattle.log_store.specs.declared.fault.StoreFault.{StoreFault}
use Rattle.log_store.specs.declared.fault.StoreFault.TheVariants as faults
use Rattle.log_store.specs.declared.store.Job.TheVariants as job
use Rattle.log_store.specs.declared.store.Store.{Store}
use Rattle.log_store.specs.State.{State, state_of}
use Rattle.log_store.specs.Actions.{IsStep}
use Rattle.log_store.specs.Outcome.{down_count, goal_of}
use Rattle.life_table.specs.declared.types.Call.{Call}
use Rattle.life_table.specs.declared.types.Call.TheVariants as call
use Rattle.life_table.specs.declared.types.Reply.{Reply}
use Rattle.life_table.specs.declared.types.Reply.TheVariants as reply
use Rattle.life_table.specs.declared.types.Event.TheVariants.{Called}
use Rattle.life_table.specs.declared.table.Table.{Table}
use Rattle.life_table.specs.History.{after_event, changes, is_change}
use Rattle.actor_world.specs.declared.memory.Place.{Place}
use Rattle.actor_world.specs.declared.memory.Place.TheVariants as place
use Rattle.actor_world.specs.declared.memory.Doing.{Doing}
use Rattle.actor_world.specs.declared.memory.Actor.{Actor}
use Rattle.actor_world.specs.declared.memory.Memory.{Memory}
use Rattle.actor_world.specs.Caches.{actor_at, idle_actor}
use Rattle.actor_world.specs.Moves.{first_place, is_log_call, lies_in_log}
use Rattle.actor_world.specs.World.{History, World, beginning, told_if}
use Rattle.actor_world.specs.Steps.{DiskFace, HomeStep, IsLogTurn, StepOf, SyncStep, Telling, answered, answered_memory, dirty_answer, home_answer, or_down, pending_answer, progress_answer, take_answer}
use Rattle.actor_world.specs.Lines.{LinesState, line}
use Rattle.actor_world.specs.WholeCalls.{IsWholeCall, StepsToEnd, lines_state}
use Rattle.actor_world.specs.LogCalls.{GoesWell, LogAnswers}
use Rattle.actor_world.specs.Invariant.{HasEntry, Invariant, JobAt, JobOfHolder, beginning_of, durable_changes}
use Rattle.actor_world.proofs.Begins.{begin_kept}
use Rattle.actor_world.proofs.CommitSteps.{job_fits}
use Rattle.actor_world.proofs.EachTurn.{in_list}
use Rattle.actor_world.proofs.EntrySteps.{entry_made, log_reply}
use Rattle.actor_world.proofs.JobSteps.{commits_count}
use Rattle.actor_world.proofs.Kept.{AllLaws, invariant_kept}
use Rattle.actor_world.proofs.Lists.{read_same}
use Rattle.actor_world.proofs.LogEnds.{counts_on, ends_past, force_ends, rose_from, stays_up}
use Rattle.actor_world.proofs.LogLock.{has_lock}
use Rattle.actor_world.proofs.StepTurns.{call_of}
use Rattle.actor_world.proofs.WholeLines.{lines_at}
use Rattle.actor_world.proofs.WholeRuns.{begun_lines, changes_push, idle_ends, lines_in}
use Rattle.actor_world.proofs.Within.{within}

-- ---- what lines see stays

queues_kept : (m : Memory) (a : ℕ) (x : Actor) → a < length m.actors → x.queue ≡ (actor_at m a).queue
    → map (λ (actor : Actor). actor.queue) (slice_set m.actors a x) ≡ map (λ (actor : Actor). actor.queue) m.actors
queues_kept m a x low same =
    map-set (λ (actor : Actor). actor.queue) m.actors a x
    ∙ ap (λ ks. slice_set (map (λ (actor : Actor). actor.queue) m.actors) a ks) (same ∙ sym (get_or-map (λ (actor : Actor). actor.queue) m.actors a idle_actor [] low))
    ∙ set-get_or (map (λ (actor : Actor). actor.queue) m.actors) a []

log_table : (t : Table) (made : Call) (answer : Reply) → is_log_call made ≡ true → after_event t (Called made answer) ≡ t
log_table t call.Sync answer log = refl
log_table t call.Home answer log = refl
log_table t _ answer log = absurd (false≢true log)

log_unchanged : (made : Call) (answer : Reply) → is_log_call made ≡ true → is_change (Called made answer) ≡ false
log_unchanged call.Sync answer log = refl
log_unchanged call.Home answer log = refl
log_unchanged _ answer log = absurd (false≢true log)

log_changes : (h : History) (a begin : ℕ) (made : Call) (answer : Option Reply) → is_log_call made ≡ true
    → length (changes (told_if a begin (answered made answer) h).entries) ≡ length (changes h.entries)
log_changes h a begin made None log = refl
log_changes h a begin made (Some answer) log =
    changes_push h.entries (record { actor = a; event = Called made answer })
    ∙ ap (λ b. length (changes h.entries) + (if b then 1 else 0)) (log_unchanged made answer log) ∙ plus_none (length (changes h.entries))
  where
    plus_none : (n : ℕ) → n + 0 ≡ n
    plus_none n = omega arith

log_lines : (h : History) (m : Memory) (a : ℕ) (d : Doing) (made : Call) (answer : Option Reply) (later : Place) → a < length m.actors → is_log_call made ≡ true
    → lines_in (told_if a d.«from» (answered made answer) h) (answered_memory a d answer later m) ≡ lines_in h m
log_lines h m a d made None later low log =
    λ i. lines_at h.table (queues_kept m a (record { doing = Some (record { call = d.call; place = later; «from» = d.«from» }); queue = (actor_at m a).queue }) low refl i) (length (changes h.entries))
log_lines h m a d made (Some answer) later low log =
    λ i. lines_at (log_table h.table made answer log i) (queues_kept m a (record { doing = None; queue = (actor_at m a).queue }) low refl i) (log_changes h a d.«from» made (Some answer) log i)

-- ---- one step

-- while a sync goes on its queue is taken
abbrev ForceQueue : Place → List Commit → Type 0
ForceQueue place.Force queue = queue ≡ []
ForceQueue _ queue = ⊤

record LogStepped {D : Type 0} (face : DiskFace D) (a : ℕ) (d : Doing) (made : Call) (w next : World D) : Type 0 where
  answer : Option Reply
  later : Place
  turn : IsLogTurn a d made answer later w next
  faults_on : face.faults w.store.disk ≤ face.faults next.store.disk
  right : IfSome answer (LogAnswers face made w next)
  queue : ForceQueue later next.queue
  lies : lies_in_log later ≡ true

-- with no commit that waits all changes are durable
all_durable : {D : Type 0} (tells : Telling) (start : Table) (w : World D) → Invariant tells start w → w.queue ≡ [] → (state_of w.store).list ≡ []
    → durable_changes w.first_commit (state_of w.store) ≡ length (changes w.history.entries)
all_durable tells start w inv none empty =
    let count = commits_count tells (beginning_of start) w.history.entries w.history.froms _ inv.commits.tell in
    let whole = length-append (inv.commits.durable ++ (state_of w.store).list) w.queue in
    let front = length-append inv.commits.durable (state_of w.store).list in
    let queue : length w.queue ≡ 0 = ap (λ (cs : List Commit). length cs) none in
    let list : length (state_of w.store).list ≡ 0 = ap (λ (cs : List Commit). length cs) empty in
    let durable = inv.commits.count in
    omega (arith, count, whole, front, queue, list, durable)

covers_all : {D : Type 0} (tells : Telling) (start : Table) (first : ℕ) (w : World D) → Invariant tells start w → w.first_commit ≡ first → w.queue ≡ [] → (state_of w.store).list ≡ []
    → ((state_of w.store).durable + 1) - first ≡ length (changes w.history.entries)
covers_all tells start first w inv same none empty =
    subst (λ n. ((state_of w.store).durable + 1) - n ≡ length (changes w.history.entries)) same (all_durable tells start w inv none empty)

take_right : {D : Type 0} (face : DiskFace D) (first : ℕ) (w next : World D) (down : Option ℕ) (list : List Commit) → down_count (state_of w.store).stage ≡ down
    → (list ≡ [] → ((state_of next.store).durable + 1) - first ≡ length (changes next.history.entries))
    → IfSome (or_down down (pending_answer first (state_of next.store) list)) (LogAnswers face call.Sync w next)
take_right face first w next (Some fault) list down_is all = down_is
take_right face first w next None [] down_is all = (refl, all refl)
take_right face first w next None (commit ∷ list) down_is all = tt

home_right : {D : Type 0} (face : DiskFace D) (w next : World D) (down : Option ℕ) (images : List Image) → down_count (state_of w.store).stage ≡ down
    → IfSome (or_down down (dirty_answer images)) (LogAnswers face call.Home w next)
home_right face w next (Some fault) images down_is = down_is
home_right face w next None [] down_is = refl
home_right face w next None (image ∷ images) down_is = tt

force_right : {D : Type 0} (face : DiskFace D) (first : ℕ) (w next : World D) (result : Result Progress StoreFault)
    → IsStep face.known face.cells face.sectors face.arming face.faults result w.store next.store → down_count (state_of w.store).stage ≡ None
    → goal_of w.store.job ≡ job.Force → 0 < length (state_of w.store).list
    → ((state_of next.store).list ≡ [] → ((state_of next.store).durable + 1) - first ≡ length (changes next.history.entries))
    → IfSome (progress_answer call.Sync first (state_of next.store) result) (LogAnswers face call.Sync w next)
force_right face first w next (Ok More) step up goal some all = tt
force_right face first w next (Ok Ended) step up goal some all = (refl, all (force_ends face w.store next.store step goal some))
force_right face first w next (Err faults.WriteFault) step up goal some all = step.done.count.1
force_right face first w next (Err faults.FlushFault) step up goal some all = step.done.count.1
force_right face first w next (Err faults.PositionEnd) step up goal some all = ends_past face w.store next.store step
force_right face first w next (Err (faults.Down fault)) step up goal some all = absurd (stays_up face fault w.store next.store step up)

write_right : {D : Type 0} (face : DiskFace D) (first : ℕ) (w next : World D) (result : Result Progress StoreFault)
    → IsStep face.known face.cells face.sectors face.arming face.faults result w.store next.store → down_count (state_of w.store).stage ≡ None
    → IfSome (progress_answer call.Home first (state_of next.store) result) (LogAnswers face call.Home w next)
write_right face first w next (Ok More) step up = tt
write_right face first w next (Ok Ended) step up = refl
write_right face first w next (Err faults.WriteFault) step up = step.done.count.1
write_right face first w next (Err faults.FlushFault) step up = step.done.count.1
write_right face first w next (Err faults.PositionEnd) step up = ends_past face w.store next.store step
write_right face first w next (Err (faults.Down fault)) step up = absurd (stays_up face fault w.store next.store step up)

-- the store of the log's holder is up
up_held : {D : Type 0} (tells : Telling) (start : Table) (a : ℕ) (w : World D) → Invariant tells start w → w.holder ≡ Some a → down_count (state_of w.store).stage ≡ None
up_held tells start a w inv holds =
    (subst (λ (o : Option ℕ). JobOfHolder (state_of w.store) w.history w.memory w.first_commit w.store.job o) holds inv.job.job).0

same_count : {D : Type 0} (face : DiskFace D) (old new : D) → new ≡ old → face.faults old ≤ face.faults new
same_count face old new same = let e = ap face.faults same in omega (arith, e)

sync_stepped : {D : Type 0} (face : DiskFace D) (tells : Telling) (start : Table) (a : ℕ) (d : Doing) (at : Place) (w next : World D) → Invariant tells start w → Invariant tells start next
    → (actor_at w.memory a).doing ≡ Some d → d.place ≡ at → ForceQueue at w.queue → SyncStep face a d at w next → LogStepped face a d call.Sync w next
sync_stepped face tells start a d place.Take w next inv after inside here queue step = record {
  answer = take_answer w.first_commit (state_of next.store);
  later = place.Force;
  turn = step.turn;
  faults_on = same_count face w.store.disk next.store.disk step.disk;
  right = take_right face w.first_commit w next (down_count (state_of next.store).stage) (state_of next.store).list (sym (ap (λ (s : State). down_count s.stage) step.state))
      (λ empty. covers_all tells start w.first_commit next after step.turn.first_commit step.queue empty);
  queue = step.queue;
  lies = refl;
}
sync_stepped face tells start a d place.Force w next inv after inside here queue step =
    let holds = has_lock w.holder w.memory a d inside inv.log_lock (ap lies_in_log here) in
    let at = subst (λ p. JobAt (state_of w.store) w.first_commit w.history.entries w.store.job d.«from» p) here (job_fits tells start a d w inv inside holds) in
    record {
      answer = progress_answer call.Sync w.first_commit (state_of next.store) step.result;
      later = d.place;
      turn = step.turn;
      faults_on = counts_on step.result _ _ step.step.done.count;
      right = force_right face w.first_commit w next step.result step.step (up_held tells start a w inv holds) at.0 at.1
          (λ empty. covers_all tells start w.first_commit next after step.turn.first_commit (step.queue ∙ queue) empty);
      queue = subst (λ p. ForceQueue p next.queue) (sym here) (step.queue ∙ queue);
      lies = ap lies_in_log here;
    }
sync_stepped face tells start a d _ w next inv after inside here queue step = absurd step

home_stepped : {D : Type 0} (face : DiskFace D) (tells : Telling) (start : Table) (a : ℕ) (d : Doing) (at : Place) (w next : World D) → Invariant tells start w
    → (actor_at w.memory a).doing ≡ Some d → d.place ≡ at → HomeStep face a d at w next → LogStepped face a d call.Home w next
home_stepped face tells start a d place.TakeLog w next inv inside here step = record {
  answer = home_answer (state_of w.store);
  later = place.WriteHome;
  turn = step.turn;
  faults_on = same_count face w.store.disk next.store.disk step.disk;
  right = home_right face w next (down_count (state_of w.store).stage) (state_of w.store).dirty refl;
  queue = tt;
  lies = refl;
}
home_stepped face tells start a d place.WriteHome w next inv inside here step =
    let holds = has_lock w.holder w.memory a d inside inv.log_lock (ap lies_in_log here) in
    record {
      answer = progress_answer call.Home w.first_commit (state_of next.store) step.result;
      later = d.place;
      turn = step.turn;
      faults_on = counts_on step.result _ _ step.step.done.count;
      right = write_right face w.first_commit w next step.result step.step (up_held tells start a w inv holds);
      queue = subst (λ p. ForceQueue p next.queue) (sym here) tt;
      lies = ap lies_in_log here;
    }
home_stepped face tells start a d _ w next inv inside here step = absurd step

log_stepped : {D : Type 0} (face : DiskFace D) (tells : Telling) (start : Table) (a : ℕ) (d : Doing) (made : Call) (w next : World D) → Invariant tells start w → Invariant tells start next
    → (actor_at w.memory a).doing ≡ Some d → is_log_call made ≡ true → ForceQueue d.place w.queue → StepOf face tells a d made w next → LogStepped face a d made w next
log_stepped face tells start a d call.Sync w next inv after inside log queue step = sync_stepped face tells start a d d.place w next inv after inside refl queue step
log_stepped face tells start a d call.Home w next inv after inside log queue step = home_stepped face tells start a d d.place w next inv inside refl step
log_stepped face tells start a d _ w next inv after inside log queue step = absurd (false≢true log)

-- ---- a run

pub record LogEnd {D : Type 0} (face : DiskFace D) (a begin : ℕ) (made : Call) (w new : World D) : Type 0 where
  pub answer : Reply
  pub entry : HasEntry new.history.entries new.history.froms a begin made (Some answer)
  pub right : LogAnswers face made w new answer
  pub state : lines_state new ≡ lines_state w

-- what is answered later has the same cause before a step
answers_back : {D : Type 0} (face : DiskFace D) (made : Call) (w next new : World D) (answer : Reply) → down_count (state_of next.store).stage ≡ None → face.faults w.store.disk ≤ face.faults next.store.disk
    → LogAnswers face made next new answer → LogAnswers face made w new answer
answers_back face made w next new (reply.Covered n) up less right = right
answers_back face made w next new reply.Done up less right = right
answers_back face made w next new reply.WriteFault up less right = rose_from _ _ _ less right
answers_back face made w next new reply.FlushFault up less right = rose_from _ _ _ less right
answers_back face made w next new reply.PositionEnd up less right = right
answers_back face made w next new (reply.Down fault) up less right = absurd (none-some fault (sym up ∙ right))
answers_back face made w next new _ up less right = absurd right

abbrev LogRun : {D : Type 0} → DiskFace D → Telling → Table → ℕ → ℕ → Type 0
LogRun {D} face tells start a n = (w new : World D) (d : Doing) → Invariant tells start w → (actor_at w.memory a).doing ≡ Some d → is_log_call d.call ≡ true → ForceQueue d.place w.queue
    → StepsToEnd face tells a n w new → LogEnd face a d.«from» d.call w new

stepped_lines : {D : Type 0} (face : DiskFace D) (a : ℕ) (d : Doing) (made : Call) (w next : World D) → a < length w.memory.actors → is_log_call made ≡ true → (s : LogStepped face a d made w next)
    → lines_state next ≡ lines_state w
stepped_lines face a d made w next low log s =
    (λ i. lines_in (s.turn.history i) (s.turn.memory i)) ∙ log_lines w.history w.memory a d made s.answer s.later low log

log_next : {D : Type 0} (face : DiskFace D) (tells : Telling) (start : Table) (a n : ℕ) (d : Doing) (w next new : World D) → LogRun face tells start a n → Invariant tells start w → Invariant tells start next
    → (actor_at w.memory a).doing ≡ Some d → is_log_call d.call ≡ true → (answer : Option Reply) (later : Place) → IsLogTurn a d d.call answer later w next
    → face.faults w.store.disk ≤ face.faults next.store.disk → IfSome answer (LogAnswers face d.call w next) → ForceQueue later next.queue → lies_in_log later ≡ true → lines_state next ≡ lines_state w
    → StepsToEnd face tells a n next new → LogEnd face a d.«from» d.call w new
log_next {D = D} face tells start a n d w next new on inv after inside log None later turn less right queue lies lines steps =
    let low = in_list w.memory a d inside in
    let x : Actor = record { doing = Some (record { call = d.call; place = later; «from» = d.«from» }); queue = (actor_at w.memory a).queue } in
    let goes : (actor_at next.memory a).doing ≡ Some (record { call = d.call; place = later; «from» = d.«from» }) =
    ap (λ (k : Memory). (actor_at k a).doing) turn.memory ∙ ap (λ (y : Actor). y.doing) (read_same w.memory.actors a x idle_actor low) in
    let end = on next new (record { call = d.call; place = later; «from» = d.«from» }) after goes log queue steps in
    record {
      answer = end.answer;
      entry = end.entry;
      right = answers_back face d.call w next new end.answer (up_held tells start a next after turn.holder) less end.right;
      state = end.state ∙ lines;
    }
log_next {D = D} face tells start a n d w next new on inv after inside log (Some answer) later turn less right queue lies lines steps =
    let low = in_list w.memory a d inside in
    let x : Actor = record { doing = None; queue = (actor_at w.memory a).queue } in
    let idle : (actor_at next.memory a).doing ≡ None =
    ap (λ (k : Memory). (actor_at k a).doing) turn.memory ∙ ap (λ (y : Actor). y.doing) (read_same w.memory.actors a x idle_actor low) in
    let c = call_of start w.history w.memory (within tells start w inv) a d inside in
    let none : HasEntry w.history.entries w.history.froms a d.«from» d.call None = subst (λ (o : Option Reply). HasEntry w.history.entries w.history.froms a d.«from» d.call o) (log_reply d.call d.place log c.stands) c.entry in
    let made : HasEntry next.history.entries next.history.froms a d.«from» d.call (Some answer) =
    subst (λ (h : History). HasEntry h.entries h.froms a d.«from» d.call (Some answer)) (sym turn.history)
    (entry_made w.history.entries w.history.froms a d.«from» d.call answer inv.intervals.length_is none) in
    subst (λ (v : World D). LogEnd face a d.«from» d.call w v) (sym (idle_ends face tells a n next new idle steps))
    (record { answer = answer; entry = made; right = right; state = lines })

run_log : AllLaws → {D : Type 0} (face : DiskFace D) (tells : Telling) (start : Table) (a n : ℕ) → LogRun face tells start a n
run_log all face tells start a zero w new d inv inside log queue steps = absurd (none-some d (sym steps.0 ∙ inside))
run_log all face tells start a (suc n) w new d inv inside log queue (next, step, steps) =
    let is : step.doing ≡ d = same_Some step.doing d (sym step.inside ∙ inside) in
    let after = invariant_kept all face tells start a w next inv step in
    let own : StepOf face tells a d d.call w next = subst (λ (e : Doing). StepOf face tells a e e.call w next) is step.step in
    let s = log_stepped face tells start a d d.call w next inv after inside log queue own in
    log_next face tells start a n d w next new (run_log all face tells start a n) inv after inside log s.answer s.later s.turn s.faults_on s.right s.queue s.lies
    (stepped_lines face a d d.call w next (in_list w.memory a d inside) log s) steps

-- ---- a whole call

first_queue : (made : Call) (queue : List Commit) → is_log_call made ≡ true → ForceQueue (first_place made) queue
first_queue call.Sync queue log = tt
first_queue call.Home queue log = tt
first_queue _ queue log = absurd (false≢true log)

begun_answers : {D : Type 0} (face : DiskFace D) (made : Call) (old begun new : World D) (answer : Reply) → begun.store ≡ old.store → LogAnswers face made begun new answer → LogAnswers face made old new answer
begun_answers face made old begun new (reply.Covered n) same right = right
begun_answers face made old begun new reply.Done same right = right
begun_answers {D = D} face made old begun new reply.WriteFault same right = subst (λ (s : Store D). Rose (face.faults s.disk) (face.faults new.store.disk)) same right
begun_answers {D = D} face made old begun new reply.FlushFault same right = subst (λ (s : Store D). Rose (face.faults s.disk) (face.faults new.store.disk)) same right
begun_answers face made old begun new reply.PositionEnd same right = right
begun_answers {D = D} face made old begun new (reply.Down fault) same right = subst (λ (s : Store D). down_count (state_of s).stage ≡ Some fault) same right
begun_answers face made old begun new _ same right = absurd right

pub whole_log : AllLaws → {D : Type 0} (face : DiskFace D) (tells : Telling) (start : Table) (a n : ℕ) (made : Call) (old new : World D) → Invariant tells start old → is_log_call made ≡ true
    → IsWholeCall face tells a made n old new → LogEnd face a (length old.history.entries) made old new
whole_log all face tells start a n made old new inv log whole =
    let b = whole.begins in
    let d : Doing = beginning made old.history in
    let x : Actor = record { doing = Some d; queue = (actor_at old.memory a).queue } in
    let inside : (actor_at whole.begun.memory a).doing ≡ Some d = ap (λ (k : Memory). (actor_at k a).doing) b.memory ∙ ap (λ (y : Actor). y.doing) (read_same old.memory.actors a x idle_actor b.actor) in
    let end = run_log all face tells start a n whole.begun new d (begin_kept all.laws tells start a made old whole.begun inv b) inside log (first_queue made whole.begun.queue log) whole.steps in
    record {
      answer = end.answer;
      entry = end.entry;
      right = begun_answers face made old whole.begun new end.answer b.store end.right;
      state = end.state ∙ begun_lines a made old whole.begun b;
    }

pub log_answered : AllLaws → {D : Type 0} (face : DiskFace D) (tells : Telling) (start : Table) (a n : ℕ) (made : Call) (old new : World D) → Invariant tells start old → is_log_call made ≡ true
    → IsWholeCall face tells a made n old new
    → (answer : Reply) × HasEntry new.history.entries new.history.froms a (length old.history.entries) made (Some answer) × LogAnswers face made old new answer × (lines_state new ≡ lines_state old)
log_answered all face tells start a n made old new inv log whole =
    let end = whole_log all face tells start a n made old new inv log whole in (end.answer, end.entry, end.right, end.state)

-- a sync that goes well covers all changes, and a home that goes well is done
well_answered : {D : Type 0} (face : DiskFace D) (a : ℕ) (made : Call) (old new : World D) (answer : Reply) → is_log_call made ≡ true → GoesWell face old new → lines_state new ≡ lines_state old
    → LogAnswers face made old new answer → answer ≡ (line a made (lines_state old)).reply
well_answered face a made old new (reply.Covered n) log well state right =
    ap (λ k. reply.Covered k) (right.1 ∙ ap (λ (s : LinesState). s.changes) state) ∙ ap (λ c. (line a c (lines_state old)).reply) (sym right.0)
well_answered face a made old new reply.Done log well state right = ap (λ c. (line a c (lines_state old)).reply) (sym right)
well_answered face a made old new reply.WriteFault log well state right = absurd (well.calls right)
well_answered face a made old new reply.FlushFault log well state right = absurd (well.calls right)
well_answered face a made old new reply.PositionEnd log well state right = let low = well.positions in absurd (omega (arith, low, right))
well_answered face a made old new (reply.Down fault) log well state right = absurd (none-some fault (sym well.up ∙ right))
well_answered face a made old new _ log well state right = absurd right

line_state : (a : ℕ) (made : Call) (s : LinesState) → is_log_call made ≡ true → (line a made s).state ≡ s
line_state a call.Sync s log = refl
line_state a call.Home s log = λ i. lines_at s.table s.queues (plus_none s.changes i)
  where
    plus_none : (n : ℕ) → n + 0 ≡ n
    plus_none n = omega arith
line_state a _ s log = absurd (false≢true log)

pub log_is_line : AllLaws → {D : Type 0} (face : DiskFace D) (tells : Telling) (start : Table) (a n : ℕ) (made : Call) (old new : World D) → Invariant tells start old → is_log_call made ≡ true
    → IsWholeCall face tells a made n old new → GoesWell face old new
    → HasEntry new.history.entries new.history.froms a (length old.history.entries) made (Some (line a made (lines_state old)).reply) × (lines_state new ≡ (line a made (lines_state old)).state)
log_is_line all face tells start a n made old new inv log whole well =
    let end = whole_log all face tells start a n made old new inv log whole in (
      subst (λ (r : Reply). HasEntry new.history.entries new.history.froms a (length old.history.entries) made (Some r)) (well_answered face a made old new end.answer log well end.state end.right) end.entry,
      end.state ∙ sym (line_state a made (lines_state old) log),
    )
