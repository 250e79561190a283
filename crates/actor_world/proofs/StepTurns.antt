-- Each step of a world that meets the invariant is one of the turns.
use Rattle.std.proofs.Common.{◌≡◌, ◌<◌, ℕ, true, List, [], ◌∷◌, Option, None, Some, IfSome, Result, Ok, Err, length, refl, sym, ap, subst, ◌∙◌}
use Rattle.std.proofs.lemmas.Bool.{false≢true}
use Rattle.log_record.specs.declared.image.Commit.{Commit}
use Rattle.log_record.specs.declared.image.Image.{Image}
use Rattle.log_store.specs.declared.fault.Progress.{Progress}
use Rattle.log_store.specs.declared.fault.Progress.TheVariants.{More, Ended}
use Rattle.log_store.specs.declared.fault.StoreFault.{StoreFault}
use Rattle.log_store.specs.declared.fault.StoreFault.TheVariants as faults
use Rattle.log_store.specs.State.{State, state_of}
use Rattle.log_store.specs.Outcome.{down_count}
use Rattle.life_table.specs.declared.key.Key.{Key}
use Rattle.life_table.specs.declared.types.Call.{Call}
use Rattle.life_table.specs.declared.types.Call.TheVariants as call
use Rattle.life_table.specs.declared.types.Reply.{Reply}
use Rattle.life_table.specs.declared.types.Reply.TheVariants as reply
use Rattle.life_table.specs.declared.types.Event.{Event}
use Rattle.life_table.specs.declared.types.Event.TheVariants.{Called}
use Rattle.life_table.specs.declared.table.Table.{Table}
use Rattle.life_table.specs.Legal.{Permits}
use Rattle.actor_world.specs.declared.memory.Place.{Place}
use Rattle.actor_world.specs.declared.memory.Place.TheVariants as place
use Rattle.actor_world.specs.declared.memory.Doing.{Doing}
use Rattle.actor_world.specs.declared.memory.Memory.{Memory}
use Rattle.actor_world.specs.Caches.{actor_at, with_actor}
use Rattle.actor_world.specs.Moves.{Move, move_of, stands_at, is_log_call}
use Rattle.actor_world.specs.World.{History, World, told_if}
use Rattle.actor_world.specs.Steps.{DiskFace, HomeStep, IsGroupStep, IsLogTurn, Step, StepOf, SyncStep, Telling, dirty_answer, or_down, pending_answer, progress_answer}
use Rattle.actor_world.specs.Words.{nothing, due_at}
use Rattle.actor_world.specs.Invariant.{CallIsRight, DoingIsRight, due_of_doing, first_key}
use Rattle.actor_world.proofs.EachTurn.{in_call, in_list, turn_of}
use Rattle.actor_world.proofs.HeldWords.{held_word}
use Rattle.actor_world.proofs.Turns.{Turn, Turned, after_turn, goes_on, is_answered}
use Rattle.actor_world.proofs.TurnsFound.{Laws}
use Rattle.actor_world.proofs.Within.{Within}

-- what the log answers is legal of any table
or_down_permits : (t : Table) (made : Call) (down : Option ℕ) (answer : Option Reply) → ((fault : ℕ) → Permits t made (reply.Down fault)) → IfSome answer (Permits t made) → IfSome (or_down down answer) (Permits t made)
or_down_permits t made None answer faulty permits = permits
or_down_permits t made (Some fault) answer faulty permits = faulty fault

pending_permits : (t : Table) (first : ℕ) (s : State) (list : List Commit) → IfSome (pending_answer first s list) (Permits t call.Sync)
pending_permits t first s [] = tt
pending_permits t first s (commit ∷ list) = tt

dirty_permits : (t : Table) (images : List Image) → IfSome (dirty_answer images) (Permits t call.Home)
dirty_permits t [] = tt
dirty_permits t (image ∷ images) = tt

sync_progress : (t : Table) (first : ℕ) (s : State) (result : Result Progress StoreFault) → IfSome (progress_answer call.Sync first s result) (Permits t call.Sync)
sync_progress t first s (Ok More) = tt
sync_progress t first s (Ok Ended) = tt
sync_progress t first s (Err faults.WriteFault) = tt
sync_progress t first s (Err faults.FlushFault) = tt
sync_progress t first s (Err faults.PositionEnd) = tt
sync_progress t first s (Err (faults.Down fault)) = tt

home_progress : (t : Table) (first : ℕ) (s : State) (result : Result Progress StoreFault) → IfSome (progress_answer call.Home first s result) (Permits t call.Home)
home_progress t first s (Ok More) = tt
home_progress t first s (Ok Ended) = tt
home_progress t first s (Err faults.WriteFault) = tt
home_progress t first s (Err faults.FlushFault) = tt
home_progress t first s (Err faults.PositionEnd) = tt
home_progress t first s (Err (faults.Down fault)) = tt

-- a close stands at a place at which nothing is due
pub close_due_not : (queue : Option Key) (key : Key) (at : Place) → stands_at (call.CloseKey key) at ≡ true → due_at queue (call.CloseKey key) at ≡ nothing
close_due_not queue key place.Unpin stands = refl
close_due_not queue key _ stands = absurd (false≢true stands)

pub call_of : (start : Table) (h : History) (m : Memory) → Within start h m → (a : ℕ) (d : Doing) → (actor_at m a).doing ≡ Some d → CallIsRight start h m a (actor_at m a).queue d
call_of start h m inv a d inside = subst (λ (o : Option Doing). DoingIsRight start h m a (actor_at m a).queue o) inside (inv.actors a).doing

pub the_turn : Laws → (start : Table) (h : History) (m : Memory) → Within start h m → (a : ℕ) (d : Doing) (move : Move) → (actor_at m a).doing ≡ Some d
    → move_of a h.table m ≡ Some move → Turned h.table m a d.call d.place d.«from» (actor_at m a).queue move
the_turn laws start h m inv a d move inside made =
    turn_of laws start h m inv a d move inside made (λ key held is.
    held_word laws start h m inv a key held
    (ap (λ (o : Option Doing). due_of_doing (actor_at m a).queue o) inside
    ∙ ap (λ c. due_at (first_key (actor_at m a).queue) c d.place) is
    ∙ close_due_not (first_key (actor_at m a).queue) key d.place
    (subst (λ c. stands_at c d.place ≡ true) is (call_of start h m inv a d inside).stands)))

-- What a step is, apart from its log.
pub record Stepped (a : ℕ) (d : Doing) (old new : History) (before after : Memory) : Type 0 where
  pub event : Option Event
  pub next : Option Place
  pub later : List Key
  pub memory : Memory
  pub turn : Turn old.table before a d.call d.place (actor_at before a).queue event next later memory
  pub history_is : new ≡ told_if a d.«from» event old
  pub memory_is : after ≡ with_actor a (after_turn d.call d.«from» next later) memory

pub group_step : Laws → {D : Type 0} (tells : Telling) (start : Table) (a : ℕ) (d : Doing) (old new : World D) → Within start old.history old.memory
    → (actor_at old.memory a).doing ≡ Some d → IsGroupStep tells a d old new → Stepped a d old.history new.history old.memory new.memory
group_step laws tells start a d old new inv inside step =
    let turned = the_turn laws start old.history old.memory inv a d step.move inside step.made in
    record {
      event = turned.event;
      next = turned.next;
      later = turned.later;
      memory = turned.memory;
      turn = turned.turn;
      history_is = step.history ∙ ap (λ (o : Option Event). told_if a d.«from» o old.history) turned.event_is;
      memory_is = step.memory ∙ turned.memory_is;
    }

-- a step of a sync or a home, by its answer
log_step : {D : Type 0} (a : ℕ) (d : Doing) (made : Call) (answer : Option Reply) (onward : Place) (old new : World D) → d.call ≡ made → is_log_call made ≡ true
    → stands_at made d.place ≡ true → stands_at made onward ≡ true → IfSome answer (Permits old.history.table made)
    → IsLogTurn a d made answer onward old new → Stepped a d old.history new.history old.memory new.memory
log_step a d made None onward old new is log here there permits turn = record {
  event = None;
  next = Some onward;
  later = (actor_at old.memory a).queue;
  memory = old.memory;
  turn = goes_on d.call d.place onward (subst (λ c. is_log_call c ≡ true) (sym is) log) (subst (λ c. stands_at c d.place ≡ true) (sym is) here) (subst (λ c. stands_at c onward ≡ true) (sym is) there);
  history_is = turn.history;
  memory_is = turn.memory;
}
log_step a d made (Some answer) onward old new is log here there permits turn = record {
  event = Some (Called d.call answer);
  next = None;
  later = (actor_at old.memory a).queue;
  memory = old.memory;
  turn = is_answered d.call d.place answer (subst (λ c. is_log_call c ≡ true) (sym is) log) (subst (λ c. stands_at c d.place ≡ true) (sym is) here) (subst (λ c. Permits old.history.table c answer) (sym is) permits);
  history_is = turn.history ∙ ap (λ c. told_if a d.«from» (Some (Called c answer)) old.history) (sym is);
  memory_is = turn.memory;
}

sync_step : {D : Type 0} (face : DiskFace D) (a : ℕ) (d : Doing) (at : Place) (old new : World D) → d.call ≡ call.Sync → d.place ≡ at
    → SyncStep face a d at old new → Stepped a d old.history new.history old.memory new.memory
sync_step face a d place.Take old new is here step =
    let s = state_of new.store in
    log_step a d call.Sync _ place.Force old new is refl (subst (λ p. stands_at call.Sync p ≡ true) (sym here) refl) refl
    (or_down_permits old.history.table call.Sync (down_count s.stage) _ (λ fault. tt) (pending_permits old.history.table old.first_commit s s.list)) step.turn
sync_step face a d place.Force old new is here step =
    let stands : stands_at call.Sync d.place ≡ true = subst (λ p. stands_at call.Sync p ≡ true) (sym here) refl in
    log_step a d call.Sync _ d.place old new is refl stands stands
    (sync_progress old.history.table old.first_commit (state_of new.store) step.result) step.turn
sync_step face a d _ old new is here step = absurd step

home_step : {D : Type 0} (face : DiskFace D) (a : ℕ) (d : Doing) (at : Place) (old new : World D) → d.call ≡ call.Home → d.place ≡ at
    → HomeStep face a d at old new → Stepped a d old.history new.history old.memory new.memory
home_step face a d place.TakeLog old new is here step =
    let s = state_of old.store in
    log_step a d call.Home _ place.WriteHome old new is refl (subst (λ p. stands_at call.Home p ≡ true) (sym here) refl) refl
    (or_down_permits old.history.table call.Home (down_count s.stage) _ (λ fault. tt) (dirty_permits old.history.table s.dirty)) step.turn
home_step face a d place.WriteHome old new is here step =
    let stands : stands_at call.Home d.place ≡ true = subst (λ p. stands_at call.Home p ≡ true) (sym here) refl in
    log_step a d call.Home _ d.place old new is refl stands stands
    (home_progress old.history.table old.first_commit (state_of new.store) step.result) step.turn
home_step face a d _ old new is here step = absurd step

step_of : Laws → {D : Type 0} (face : DiskFace D) (tells : Telling) (start : Table) (a : ℕ) (d : Doing) (made : Call) (old new : World D) → Within start old.history old.memory
    → (actor_at old.memory a).doing ≡ Some d → d.call ≡ made → StepOf face tells a d made old new → Stepped a d old.history new.history old.memory new.memory
step_of laws face tells start a d call.Sync old new inv inside is step = sync_step face a d d.place old new is refl step
step_of laws face tells start a d call.Home old new inv inside is step = home_step face a d d.place old new is refl step
step_of laws face tells start a d _ old new inv inside is step = group_step laws tells start a d old new inv inside step

pub stepped : Laws → {D : Type 0} (face : DiskFace D) (tells : Telling) (start : Table) (a : ℕ) (old new : World D) → Within start old.history old.memory
    → (step : Step face tells a old new) → Stepped a step.doing old.history new.history old.memory new.memory
stepped laws face tells start a old new inv step = step_of laws face tells start a step.doing step.doing.call old new inv step.inside refl step.step

-- A turn of an actor in a call, in a world within the invariant.
pub record TurnOf (start : Table) (h : History) (m : Memory) (a : ℕ) (made : Call) (at : Place) (begin : ℕ) (q : List Key) (event : Option Event) (next : Option Place) (later : List Key) (memory : Memory) : Type 0 where
  pub inv : Within start h m
  pub actor_is : actor_at m a ≡ in_call made at begin q
  pub low : a < length m.actors
  pub right : CallIsRight start h m a q (record { call = made; place = at; «from» = begin })
  pub turn : Turn h.table m a made at q event next later memory

pub turn_from : (start : Table) (h now : History) (m after : Memory) → Within start h m → (a : ℕ) (d : Doing) → (actor_at m a).doing ≡ Some d → (s : Stepped a d h now m after)
    → TurnOf start h m a d.call d.place d.«from» (actor_at m a).queue s.event s.next s.later s.memory
turn_from start h now m after inv a d inside s = record {
  inv = inv;
  actor_is = ap (λ (o : Option Doing). record { doing = o; queue = (actor_at m a).queue }) inside;
  low = in_list m a d inside;
  right = call_of start h m inv a d inside;
  turn = s.turn;
}

-- What is so of every turn at a world within the invariant is so of every step.
pub by_turn : Laws → {D : Type 0} (face : DiskFace D) (tells : Telling) (start : Table) (a : ℕ) (old new : World D) (P : History → Memory → Type 0) → Within start old.history old.memory
    → Step face tells a old new
    → ((made : Call) (at : Place) (begin : ℕ) (q later : List Key) (event : Option Event) (next : Option Place) (memory : Memory)
    → TurnOf start old.history old.memory a made at begin q event next later memory
    → P (told_if a begin event old.history) (with_actor a (after_turn made begin next later) memory)) → P new.history new.memory
by_turn laws face tells start a old new P inv step f =
    let s = stepped laws face tells start a old new inv step in
    let d : Doing = step.doing in
    let one = f d.call d.place d.«from» (actor_at old.memory a).queue s.later s.event s.next s.memory (turn_from start old.history new.history old.memory new.memory inv a d step.inside s) in
    subst (λ (h : History). P h new.memory) (sym s.history_is) (subst (λ (m : Memory). P (told_if a d.«from» s.event old.history) m) (sym s.memory_is) one)
