-- Whoever holds a lock gives it back after a bounded number of its own steps.
use Rattle.std.proofs.Common.{◌≡◌, ◌<◌, ◌≤◌, ◌+◌, ◌*◌, inl, inr, ℕ, zero, suc, Bool, true, false, List, [], ◌∷◌, ◌⊎◌, Option, None, Some, IsSomeAnd, Result, Ok, Err, if◌then◌else◌, length, refl, sym, ap, subst, ◌∙◌, arith}
use Rattle.std.proofs.lemmas.Bool.{false≢true, true≢false}
use Rattle.log_store.specs.declared.fault.Progress.{Progress}
use Rattle.log_store.specs.declared.fault.Progress.TheVariants.{More, Ended}
use Rattle.log_store.specs.declared.fault.StoreFault.{StoreFault}
use Rattle.log_store.specs.declared.fault.StoreFault.TheVariants as faults
use Rattle.log_store.specs.declared.store.Store.{Store}
use Rattle.log_store.specs.State.{State, state_of}
use Rattle.log_store.specs.Actions.{IsStep}
use Rattle.life_table.specs.declared.key.Key.{Key}
use Rattle.life_table.specs.declared.types.Call.{Call}
use Rattle.life_table.specs.declared.types.Call.TheVariants as call
use Rattle.life_table.specs.declared.types.Reply.TheVariants as reply
use Rattle.life_table.specs.declared.types.Event.{Event}
use Rattle.life_table.specs.declared.table.Table.{Table}
use Rattle.life_table.specs.Table.{row_of}
use Rattle.actor_world.specs.declared.memory.Place.{Place}
use Rattle.actor_world.specs.declared.memory.Place.TheVariants as place
use Rattle.actor_world.specs.declared.memory.Doing.{Doing}
use Rattle.actor_world.specs.declared.memory.Actor.{Actor}
use Rattle.actor_world.specs.declared.memory.Memory.{Memory}
use Rattle.actor_world.specs.Bounds.{IsInLock, StepsInLock, doing_left, lock_left, pin_left, steps_in_lock}
use Rattle.actor_world.specs.Caches.{actor_at, cached_word, idle_actor, same_word, with_actor}
use Rattle.actor_world.specs.Moves.{is_mark_due, lies_in_group, lies_in_log, links_of, stands_at, with_inodes, with_rows_to_free}
use Rattle.actor_world.specs.World.{World}
use Rattle.actor_world.specs.Steps.{DiskFace, HomeStep, IsAdvanced, Step, StepOf, SyncStep, Telling, answered_holder, progress_answer}
use Rattle.actor_world.specs.Invariant.{Invariant}
use Rattle.actor_world.proofs.Effects.{effect_actors, effect_of}
use Rattle.actor_world.proofs.Kept.{AllLaws, invariant_kept}
use Rattle.actor_world.proofs.Lists.{read_same}
use Rattle.actor_world.proofs.Locks.{log_lies}
use Rattle.actor_world.proofs.Sights.{same_word_self}
use Rattle.actor_world.proofs.StepTurns.{call_of, stepped, turn_from}
use Rattle.actor_world.proofs.Turns.{Turn, after_turn, changes, copies, frees_head, frees_one, goes_on, grow_refuses, grows, installs, installs_made, kills, kills_head, locked_crowded, locked_installs, locked_pins, locked_stale, makes, makes_none, marks, passes, pin_misses_locked, pins_locked, refuses, retires, retires_none}
use Rattle.actor_world.proofs.Within.{within}

-- ---- locks of groups

rows_left : (m : Memory) (made : Call) (keys : List Key) → lock_left m made (with_rows_to_free keys) < 2 * length keys + 4
rows_left m made [] = omega arith
rows_left m made (key ∷ keys) = omega arith

inodes_left : (m : Memory) (made : Call) (numbers : List ℕ) → lock_left m made (with_inodes numbers) < length numbers + 2
inodes_left m made [] = omega arith
inodes_left m made (number ∷ numbers) = omega arith

pin_some : (b : Bool) → 1 < pin_left b
pin_some true = omega arith
pin_some false = omega arith

turn_falls : {t : Table} {m : Memory} {a : ℕ} {made : Call} {at : Place} {q later : List Key} {event : Option Event} {onward : Place} {memory : Memory}
    → Turn t m a made at q event (Some onward) later memory → lies_in_group at ≡ true → lies_in_group onward ≡ true → lock_left memory made onward < lock_left m made at
turn_falls {m = m} (locked_pins key row is seen) lies stays = let two = ap pin_left (same_word_self (cached_word m key.number)) in omega (arith, two)
turn_falls (locked_crowded key row is full) lies stays = omega arith
turn_falls (locked_stale key row is awaits) lies stays = omega arith
turn_falls (locked_installs key row is dead) lies stays = omega arith
turn_falls {m = m} (pins_locked key seen o) lies stays = pin_some (same_word (cached_word m key.number) seen)
turn_falls (pin_misses_locked key seen row is differs) lies stays = let four = ap pin_left differs in omega (arith, four)
turn_falls (installs key dead has) lies stays = omega arith
turn_falls (refuses made key answer is permits none) lies stays = omega arith
turn_falls {t = t} {memory = memory} (changes made key is permits) lies stays =
    elim (is_mark_due made reply.Done (links_of (row_of t key))) as (λ b. lock_left memory made (if b then place.Mark reply.Done else place.Leave reply.Done) < 3) [ true ↦ omega arith | false ↦ omega arith ]
turn_falls (marks made key row answer is due) lies stays = omega arith
turn_falls (frees_one made g key others is group awaits) lies stays = omega arith
turn_falls {memory = memory} (kills made g key others is due) lies stays = rows_left memory made others
turn_falls (grow_refuses key count answer permits none) lies stays = omega arith
turn_falls (grows key count permits) lies stays = omega arith
turn_falls (makes made g key is permits) lies stays = omega arith
turn_falls (makes_none made g is permits) lies stays = omega arith
turn_falls (installs_made made g key row is due) lies stays = omega arith
turn_falls (frees_head key keys awaits) lies stays = omega arith
turn_falls (kills_head key keys due) lies stays = omega arith
turn_falls (passes key onward keys) lies stays = absurd (false≢true stays)
turn_falls (copies g) lies stays = omega arith
turn_falls {memory = memory} (retires g number others idle) lies stays = inodes_left memory (call.Reclaim g) others
turn_falls {memory = memory} (retires_none g number others busy) lies stays = inodes_left memory (call.Reclaim g) others
turn_falls (goes_on made at onward is stands stands_next) lies stays = absurd (true≢false (sym lies ∙ log_lies made at is stands))
turn_falls _ lies stays = absurd (false≢true lies)

-- a call whose place lies in a lock has a step left
some_left : (m : Memory) (made : Call) (at : Place) → stands_at made at ≡ true → lies_in_group at ≡ true → 1 ≤ lock_left m made at
some_left m made place.LoadLocked stands lies = omega arith
some_left m (call.OpenKey key) (place.PinLocked seen) stands lies = let some = pin_some (same_word (cached_word m key.number) seen) in omega (arith, some)
some_left m _ (place.PinLocked seen) stands lies = absurd (false≢true stands)
some_left m made place.Install stands lies = omega arith
some_left m made (place.Leave answer) stands lies = omega arith
some_left m made place.Change stands lies = omega arith
some_left m made (place.Mark answer) stands lies = omega arith
some_left m made (place.Free key others) stands lies = omega arith
some_left m made (place.Kill key others) stands lies = omega arith
some_left m made place.Answer stands lies = omega arith
some_left m made (place.InstallMade key) stands lies = omega arith
some_left m made place.FreeHead stands lies = omega arith
some_left m made place.KillHead stands lies = omega arith
some_left m made place.Pass stands lies = omega arith
some_left m made place.Copy stands lies = omega arith
some_left m made (place.Retire number others) stands lies = omega arith
some_left m made place.End stands lies = omega arith
some_left m made _ stands lies = absurd (false≢true lies)

falls_next : (t : Table) (m : Memory) (a : ℕ) (made : Call) (at : Place) (begin : ℕ) (q later : List Key) (event : Option Event) (next : Option Place) (memory : Memory) (actor : Actor)
    → Turn t m a made at q event next later memory → actor ≡ after_turn made begin next later → lies_in_group at ≡ true → IsSomeAnd actor.doing (λ (d : Doing). lies_in_group d.place ≡ true)
    → doing_left memory actor.doing < lock_left m made at
falls_next t m a made at begin q later event None memory actor turn is lies stays = absurd (subst (λ (x : Actor). IsSomeAnd x.doing (λ (d : Doing). lies_in_group d.place ≡ true)) is stays)
falls_next t m a made at begin q later event (Some onward) memory actor turn is lies stays =
    subst (λ (x : Actor). doing_left memory x.doing < lock_left m made at) (sym is)
    (turn_falls turn lies (subst (λ (x : Actor). IsSomeAnd x.doing (λ (d : Doing). lies_in_group d.place ≡ true)) is stays))

pub lock_falls : AllLaws → {D : Type 0} (face : DiskFace D) (tells : Telling) (start : Table) (a : ℕ) (old new : World D) → Invariant tells start old → Step face tells a old new
    → IsInLock old.memory a → IsInLock new.memory a → steps_in_lock new.memory a < steps_in_lock old.memory a
lock_falls all face tells start a old new inv step inside stays =
    let inv_in = within tells start old inv in
    let s = stepped all.laws face tells start a old new inv_in step in
    let d : Doing = step.doing in
    let turn = turn_from start old.history new.history old.memory new.memory inv_in a d step.inside s in
    let x : Actor = after_turn d.call d.«from» s.next s.later in
    let low : a < length s.memory.actors = subst (λ (xs : List Actor). a < length xs) (sym (effect_actors (effect_of inv_in.cached s.turn))) turn.low in
    let there : actor_at (with_actor a x s.memory) a ≡ x = read_same s.memory.actors a x idle_actor low in
    let lies : lies_in_group d.place ≡ true = subst (λ (o : Option Doing). IsSomeAnd o (λ (d : Doing). lies_in_group d.place ≡ true)) step.inside inside in
    let one : doing_left s.memory (actor_at (with_actor a x s.memory) a).doing < lock_left old.memory d.call d.place =
    falls_next old.history.table old.memory a d.call d.place d.«from» (actor_at old.memory a).queue s.later s.event s.next s.memory (actor_at (with_actor a x s.memory) a) s.turn there lies
    (subst (λ (m : Memory). IsInLock m a) s.memory_is stays) in
    let left : steps_in_lock (with_actor a x s.memory) a < lock_left old.memory d.call d.place = one in
    subst (λ (m : Memory). steps_in_lock m a < steps_in_lock old.memory a) (sym s.memory_is)
    (subst (λ (o : Option Doing). steps_in_lock (with_actor a x s.memory) a < doing_left old.memory o) (sym step.inside) left)

some_doing : (o : Option Doing) → IsSomeAnd o (λ (d : Doing). lies_in_group d.place ≡ true) → (d : Doing) × (o ≡ Some d) × (lies_in_group d.place ≡ true)
some_doing None lies = absurd lies
some_doing (Some d) lies = (d, refl, lies)

in_lock_some : {D : Type 0} (tells : Telling) (start : Table) (w : World D) (a : ℕ) → Invariant tells start w → IsInLock w.memory a → 1 ≤ steps_in_lock w.memory a
in_lock_some tells start w a inv inside =
    let d = some_doing (actor_at w.memory a).doing inside in
    subst (λ (o : Option Doing). 1 ≤ doing_left w.memory o) (sym d.1)
    (some_left w.memory d.0.call d.0.place (call_of start w.history w.memory (within tells start w inv) a d.0 d.1).stands d.2)

-- the actor still holds the lock after its steps
first_inside : {D : Type 0} (face : DiskFace D) (tells : Telling) (a n : ℕ) (old new : World D) → StepsInLock face tells a n old new → IsInLock old.memory a
first_inside face tells a zero old new steps = steps.0
first_inside face tells a (suc n) old new steps = steps.0

pub alone_ends : AllLaws → {D : Type 0} (face : DiskFace D) (tells : Telling) (start : Table) (a n : ℕ) (old new : World D) → Invariant tells start old → StepsInLock face tells a n old new
    → n < steps_in_lock old.memory a
alone_ends all face tells start a zero old new inv steps = in_lock_some tells start old a inv steps.0
alone_ends all face tells start a (suc n) old new inv (inside, next, step, steps) =
    let rest = alone_ends all face tells start a n next new (invariant_kept all face tells start a old next inv step) steps in
    let falls = lock_falls all face tells start a old next inv step inside (first_inside face tells a n next new steps) in
    omega (arith, rest, falls)

-- ---- the log's lock

by_result : {D : Type 0} (face : DiskFace D) (a : ℕ) (made : Call) (first : ℕ) (s : State) (holder : Option ℕ) (old new : Store D) (fewer : Type 0) → (result : Result Progress StoreFault)
    → IsStep face.known face.cells face.sectors face.arming face.faults result old new
    → (IsStep face.known face.cells face.sectors face.arming face.faults (Ok More) old new → fewer) → holder ≡ answered_holder a (progress_answer made first s result) → (holder ≡ None) ⊎ fewer
by_result face a made first s holder old new fewer (Ok More) step ends is = inr (ends step)
by_result face a made first s holder old new fewer (Ok Ended) step ends is = inl is
by_result face a made first s holder old new fewer (Err faults.WriteFault) step ends is = inl is
by_result face a made first s holder old new fewer (Err faults.FlushFault) step ends is = inl is
by_result face a made first s holder old new fewer (Err faults.PositionEnd) step ends is = inl is
by_result face a made first s holder old new fewer (Err (faults.Down fault)) step ends is = inl is

advanced_ends : {D : Type 0} (face : DiskFace D) (a : ℕ) (d : Doing) (made : Call) (old new : World D) (fewer : Type 0)
    → (IsStep face.known face.cells face.sectors face.arming face.faults (Ok More) old.store new.store → fewer) → IsAdvanced face a d made old new → (new.holder ≡ None) ⊎ fewer
advanced_ends face a d made old new fewer ends step = by_result face a made old.first_commit (state_of new.store) new.holder old.store new.store fewer step.result step.step ends step.turn.holder

sync_ends : {D : Type 0} (face : DiskFace D) (a : ℕ) (d : Doing) (at : Place) (old new : World D) (fewer : Type 0) → lies_in_log at ≡ true
    → (IsStep face.known face.cells face.sectors face.arming face.faults (Ok More) old.store new.store → fewer) → SyncStep face a d at old new → (new.holder ≡ None) ⊎ fewer
sync_ends face a d place.Force old new fewer lies ends step = advanced_ends face a d call.Sync old new fewer ends step
sync_ends face a d place.Take old new fewer lies ends step = absurd (false≢true lies)
sync_ends face a d _ old new fewer lies ends step = absurd step

home_ends : {D : Type 0} (face : DiskFace D) (a : ℕ) (d : Doing) (at : Place) (old new : World D) (fewer : Type 0) → lies_in_log at ≡ true
    → (IsStep face.known face.cells face.sectors face.arming face.faults (Ok More) old.store new.store → fewer) → HomeStep face a d at old new → (new.holder ≡ None) ⊎ fewer
home_ends face a d place.WriteHome old new fewer lies ends step = advanced_ends face a d call.Home old new fewer ends step
home_ends face a d place.TakeLog old new fewer lies ends step = absurd (false≢true lies)
home_ends face a d _ old new fewer lies ends step = absurd step

force_not : (made : Call) → stands_at made place.Force ≡ true → made ≡ call.Sync
force_not call.Sync stands = refl
force_not _ stands = absurd (false≢true stands)

write_not : (made : Call) → stands_at made place.WriteHome ≡ true → made ≡ call.Home
write_not call.Home stands = refl
write_not _ stands = absurd (false≢true stands)

log_call : (made : Call) (at : Place) → stands_at made at ≡ true → lies_in_log at ≡ true → (made ≡ call.Sync) ⊎ (made ≡ call.Home)
log_call made place.Force stands lies = inl (force_not made stands)
log_call made place.WriteHome stands lies = inr (write_not made stands)
log_call made _ stands lies = absurd (false≢true lies)

pub log_ends : {D : Type 0} (face : DiskFace D) (tells : Telling) (start : Table) (a : ℕ) (old new : World D) (fewer : Type 0) → Invariant tells start old
    → (IsStep face.known face.cells face.sectors face.arming face.faults (Ok More) old.store new.store → fewer) → Step face tells a old new → old.holder ≡ Some a → (new.holder ≡ None) ⊎ fewer
log_ends face tells start a old new fewer inv ends step holds =
    let d : Doing = step.doing in
    let lies : lies_in_log d.place ≡ true = subst (λ (o : Option Doing). IsSomeAnd o (λ (d : Doing). lies_in_log d.place ≡ true)) step.inside ((inv.log_lock a).0 holds) in
    let stands = (call_of start old.history old.memory (within tells start old inv) a d step.inside).stands in
    elim (log_call d.call d.place stands lies) [
      | inl sync ↦ sync_ends face a d d.place old new fewer lies ends (subst (λ c. StepOf face tells a d c old new) sync step.step)
      | inr home ↦ home_ends face a d d.place old new fewer lies ends (subst (λ c. StepOf face tells a d c old new) home step.step)
    ]
