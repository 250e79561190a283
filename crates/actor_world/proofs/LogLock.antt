-- A step leaves the log's lock with the actor whose place lies in it.
use Rattle.std.proofs.Common.{◌≡◌, ◌<◌, ◌==◌, ◌⊎◌, inl, inr, ℕ, true, false, List, [], ◌∷◌, Option, None, Some, IsSomeAnd, if◌then◌else◌, length, refl, sym, ap, subst, ◌∙◌}
use Rattle.std.specs.Prelude.{◌↔◌}
use Rattle.std.proofs.lemmas.Option.{none-some, same_Some}
use Rattle.std.proofs.lemmas.Bool.{cases_eq, false≢true, true≢false}
use Rattle.life_table.specs.declared.key.Key.{Key}
use Rattle.life_table.specs.declared.types.Call.{Call}
use Rattle.life_table.specs.declared.types.Call.TheVariants as call
use Rattle.life_table.specs.declared.types.Reply.{Reply}
use Rattle.life_table.specs.declared.types.Reply.TheVariants as reply
use Rattle.life_table.specs.declared.types.Event.{Event}
use Rattle.life_table.specs.declared.table.Table.{Table}
use Rattle.actor_world.specs.declared.memory.Place.{Place}
use Rattle.actor_world.specs.declared.memory.Place.TheVariants as place
use Rattle.actor_world.specs.declared.memory.Doing.{Doing}
use Rattle.actor_world.specs.declared.memory.Actor.{Actor}
use Rattle.actor_world.specs.declared.memory.Memory.{Memory}
use Rattle.actor_world.specs.Caches.{actor_at, idle_actor, with_actor}
use Rattle.actor_world.specs.Moves.{lies_in_log, place_after_change, stands_at, with_inodes, with_rows_to_free, is_log_call}
use Rattle.actor_world.specs.World.{World}
use Rattle.actor_world.specs.Steps.{DiskFace, HomeStep, IsGroupStep, IsLogTurn, Step, StepOf, SyncStep, Telling}
use Rattle.actor_world.specs.Invariant.{Invariant, LiesInLog}
use Rattle.actor_world.proofs.EachTurn.{in_list}
use Rattle.actor_world.proofs.Effects.{effect_actors, effect_of}
use Rattle.actor_world.proofs.Lists.{read_other, read_same}
use Rattle.actor_world.proofs.StepTurns.{call_of, group_step}
use Rattle.actor_world.proofs.Turns.{Turn, after_turn, changer_key, changes, frees_one, goes_on, installs_made, kills, locks_change, locks_reclaim, locks_short, maker_group, makes, makes_none, marks, refuses, retires, retires_none, room_group}
use Rattle.actor_world.proofs.TurnsFound.{Laws}
use Rattle.actor_world.proofs.Within.{Within, within}

-- ---- a call goes on at one of its places

changer_stands : (made : Call) (key : Key) (at : Place) → changer_key made ≡ Some key → stands_at (call.Cut key 0) at ≡ true → stands_at made at ≡ true
changer_stands (call.Cut other count) key at is stands = stands
changer_stands (call.Link other) key place.Lock is stands = refl
changer_stands (call.Link other) key place.Change is stands = refl
changer_stands (call.Link other) key (place.Leave answer) is stands = refl
changer_stands (call.Link other) key _ is stands = absurd (false≢true stands)
changer_stands (call.Unlink other) key place.Lock is stands = refl
changer_stands (call.Unlink other) key place.Change is stands = refl
changer_stands (call.Unlink other) key (place.Leave answer) is stands = refl
changer_stands (call.Unlink other) key _ is stands = absurd (false≢true stands)
changer_stands _ key at is stands = absurd (none-some key is)

change_stands : (made : Call) (key : Key) (links : ℕ) → changer_key made ≡ Some key → stands_at made (place_after_change made reply.Done links) ≡ true
change_stands (call.Link other) key links is =
    elim (links == 0) as (λ b. stands_at (call.Link other) (if b then place.Mark reply.Done else place.Leave reply.Done) ≡ true) [ true ↦ refl | false ↦ refl ]
change_stands (call.Unlink other) key links is =
    elim (links == 1) as (λ b. stands_at (call.Unlink other) (if b then place.Mark reply.Done else place.Leave reply.Done) ≡ true) [ true ↦ refl | false ↦ refl ]
change_stands (call.Cut other count) key links is = refl
change_stands _ key links is = absurd (none-some key is)

rows_stand : (made : Call) (g : ℕ) (keys : List Key) → room_group made ≡ Some g → stands_at made (with_rows_to_free keys) ≡ true
rows_stand (call.Create h) g [] is = refl
rows_stand (call.Create h) g (key ∷ keys) is = refl
rows_stand (call.Tmpfile h) g [] is = refl
rows_stand (call.Tmpfile h) g (key ∷ keys) is = refl
rows_stand (call.Grow grown count) g [] is = refl
rows_stand (call.Grow grown count) g (key ∷ keys) is = refl
rows_stand _ g keys is = absurd (none-some g is)

kill_stands : (made : Call) (g : ℕ) (key : Key) (others : List Key) → room_group made ≡ Some g → stands_at made (place.Kill key others) ≡ true
kill_stands (call.Create h) g key others is = refl
kill_stands (call.Tmpfile h) g key others is = refl
kill_stands (call.Grow grown count) g key others is = refl
kill_stands _ g key others is = absurd (none-some g is)

made_stands : (made : Call) (g : ℕ) (key : Key) → maker_group made ≡ Some g → stands_at made (place.InstallMade key) ≡ true
made_stands (call.Create h) g key is = refl
made_stands (call.Tmpfile h) g key is = refl
made_stands _ g key is = absurd (none-some g is)

maker_leaves : (made : Call) (g : ℕ) (answer : Reply) → maker_group made ≡ Some g → stands_at made (place.Leave answer) ≡ true
maker_leaves (call.Create h) g answer is = refl
maker_leaves (call.Tmpfile h) g answer is = refl
maker_leaves _ g answer is = absurd (none-some g is)

inodes_stand : (g : ℕ) (numbers : List ℕ) → stands_at (call.Reclaim g) (with_inodes numbers) ≡ true
inodes_stand g [] = refl
inodes_stand g (number ∷ numbers) = refl

pub stands_turn : {t : Table} {m : Memory} {a : ℕ} {made : Call} {at : Place} {q later : List Key} {event : Option Event} {onward : Place} {memory : Memory}
    → Turn t m a made at q event (Some onward) later memory → stands_at made onward ≡ true
stands_turn (locks_change made key is can) = changer_stands made key place.Change is refl
stands_turn (refuses made key answer is permits none) = changer_stands made key (place.Leave answer) is refl
stands_turn {t = t} (changes made key is permits) = change_stands made key _ is
stands_turn (marks made key row answer is due) = changer_stands made key (place.Leave answer) is refl
stands_turn (locks_short made g is can) = rows_stand made g _ is
stands_turn (frees_one made g key others is group awaits) = kill_stands made g key others is
stands_turn (kills made g key others is due) = rows_stand made g others is
stands_turn (makes made g key is permits) = made_stands made g key is
stands_turn (makes_none made g is permits) = maker_leaves made g reply.NoInodes is
stands_turn (installs_made made g key row is due) = maker_leaves made g (reply.Made key) is
stands_turn (locks_reclaim g can) = inodes_stand g _
stands_turn (retires g number others idle) = inodes_stand g others
stands_turn (retires_none g number others busy) = inodes_stand g others
stands_turn (goes_on made at onward is stands stands_next) = stands_next
stands_turn _ = refl

-- ---- places in the log's lock

no_force : (made : Call) → is_log_call made ≡ false → stands_at made place.Force ≡ true → ⊥
no_force call.Sync log stands = true≢false log
no_force call.Home log stands = true≢false log
no_force _ log stands = false≢true stands

no_home : (made : Call) → is_log_call made ≡ false → stands_at made place.WriteHome ≡ true → ⊥
no_home call.Sync log stands = true≢false log
no_home call.Home log stands = true≢false log
no_home _ log stands = false≢true stands

-- a call that the log does not answer never lies in its lock
pub not_in_log : (made : Call) (at : Place) → is_log_call made ≡ false → stands_at made at ≡ true → lies_in_log at ≡ true → ⊥
not_in_log made place.Force log stands lies = no_force made log stands
not_in_log made place.WriteHome log stands lies = no_home made log stands
not_in_log made _ log stands lies = false≢true lies

-- ---- the lock

abbrev pub LockIsRight : Option ℕ → Memory → Type 0
LockIsRight holder m = (b : ℕ) → holder ≡ Some b ↔ LiesInLog (actor_at m b)

-- where an actor that lies in no lock of the log is changed to one that does not
lock_stays : (holder : Option ℕ) (m : Memory) (a : ℕ) (x : Actor) (memory : Memory) → memory.actors ≡ m.actors → a < length m.actors → LockIsRight holder m
    → (LiesInLog (actor_at m a) → ⊥) → (LiesInLog x → ⊥) → LockIsRight holder (with_actor a x memory)
lock_stays holder m a x memory actors low right was is b =
    elim (cases_eq b a) [
      | inl same ↦
          let own : actor_at (with_actor a x memory) b ≡ x = ap (λ n. actor_at (with_actor a x memory) n) same ∙ read_same memory.actors a x idle_actor (subst (λ (xs : List Actor). a < length xs) (sym actors) low) in
          (λ holds. absurd (was ((right a).0 (holds ∙ ap (λ n. Some n) same))), λ lies. absurd (is (subst LiesInLog own lies)))
      | inr apart ↦
          let other : actor_at (with_actor a x memory) b ≡ actor_at m b = read_other memory.actors a b x idle_actor apart ∙ ap (λ (xs : List Actor). actor_at (record { actors = xs; groups = m.groups }) b) actors in
          (λ holds. subst LiesInLog (sym other) ((right b).0 holds), λ lies. (right b).1 (subst LiesInLog other lies))
    ]

-- where the lock was free or the actor's, it comes to be the actor's, or free
lock_turns : (holder new : Option ℕ) (m : Memory) (a : ℕ) (x : Actor) → a < length m.actors → LockIsRight holder m → (holder ≡ None) ⊎ (holder ≡ Some a)
    → ((new ≡ Some a) × LiesInLog x) ⊎ ((new ≡ None) × (LiesInLog x → ⊥)) → LockIsRight new (with_actor a x m)
lock_turns holder new m a x low right was turn b =
    elim (cases_eq b a) [
      | inl same ↦
          let own : actor_at (with_actor a x m) b ≡ x = ap (λ n. actor_at (with_actor a x m) n) same ∙ read_same m.actors a x idle_actor low in
          elim turn [
            | inl taken ↦ (λ holds. subst LiesInLog (sym own) taken.1, λ lies. taken.0 ∙ ap (λ n. Some n) (sym same))
            | inr free ↦ (λ holds. absurd (none-some b (sym free.0 ∙ holds)), λ lies. absurd (free.1 (subst LiesInLog own lies)))
          ]
      | inr apart ↦
          let other : actor_at (with_actor a x m) b ≡ actor_at m b = read_other m.actors a b x idle_actor apart in
          let not_held : holder ≡ Some b → ⊥ = λ holds. elim was [ inl none ↦ none-some b (sym none ∙ holds) | inr own ↦ apart (same_Some b a (sym holds ∙ own)) ] in
          let not_new : new ≡ Some b → ⊥ = λ holds. elim turn [ inl taken ↦ apart (same_Some b a (sym holds ∙ taken.0)) | inr free ↦ none-some b (sym free.0 ∙ holds) ] in
          (λ holds. absurd (not_new holds), λ lies. absurd (not_held ((right b).1 (subst LiesInLog other lies))))
    ]

-- ---- steps

log_turn_lock : {D : Type 0} (a : ℕ) (d : Doing) (made : Call) (answer : Option Reply) (onward : Place) (old new : World D) → a < length old.memory.actors → lies_in_log onward ≡ true
    → (old.holder ≡ None) ⊎ (old.holder ≡ Some a) → LockIsRight old.holder old.memory → IsLogTurn a d made answer onward old new → LockIsRight new.holder new.memory
log_turn_lock a d made None onward old new low lies was right turn =
    subst (λ (m : Memory). LockIsRight new.holder m) (sym turn.memory) (lock_turns old.holder new.holder old.memory a _ low right was (inl (turn.holder, lies)))
log_turn_lock a d made (Some answer) onward old new low lies was right turn =
    subst (λ (m : Memory). LockIsRight new.holder m) (sym turn.memory) (lock_turns old.holder new.holder old.memory a _ low right was (inr (turn.holder, λ none. none)))

-- an actor at a place in the log's lock has it
pub has_lock : (holder : Option ℕ) (m : Memory) (a : ℕ) (d : Doing) → (actor_at m a).doing ≡ Some d → LockIsRight holder m → lies_in_log d.place ≡ true → holder ≡ Some a
has_lock holder m a d inside right lies = (right a).1 (subst (λ (o : Option Doing). IsSomeAnd o (λ (x : Doing). lies_in_log x.place ≡ true)) (sym inside) lies)

sync_lock : {D : Type 0} (face : DiskFace D) (a : ℕ) (d : Doing) (at : Place) (old new : World D) → (actor_at old.memory a).doing ≡ Some d → d.place ≡ at
    → LockIsRight old.holder old.memory → SyncStep face a d at old new → LockIsRight new.holder new.memory
sync_lock face a d place.Take old new inside here right step =
    log_turn_lock a d call.Sync _ place.Force old new (in_list old.memory a d inside) refl (inl step.free) right step.turn
sync_lock face a d place.Force old new inside here right step =
    let lies : lies_in_log d.place ≡ true = ap lies_in_log here in
    log_turn_lock a d call.Sync _ d.place old new (in_list old.memory a d inside) lies (inr (has_lock old.holder old.memory a d inside right lies)) right step.turn
sync_lock face a d _ old new inside here right step = absurd step

home_lock : {D : Type 0} (face : DiskFace D) (a : ℕ) (d : Doing) (at : Place) (old new : World D) → (actor_at old.memory a).doing ≡ Some d → d.place ≡ at
    → LockIsRight old.holder old.memory → HomeStep face a d at old new → LockIsRight new.holder new.memory
home_lock face a d place.TakeLog old new inside here right step =
    log_turn_lock a d call.Home _ place.WriteHome old new (in_list old.memory a d inside) refl (inl step.free) right step.turn
home_lock face a d place.WriteHome old new inside here right step =
    let lies : lies_in_log d.place ≡ true = ap lies_in_log here in
    log_turn_lock a d call.Home _ d.place old new (in_list old.memory a d inside) lies (inr (has_lock old.holder old.memory a d inside right lies)) right step.turn
home_lock face a d _ old new inside here right step = absurd step

-- where an actor goes on after a turn it lies in no lock of the log
next_not : {t : Table} {m : Memory} {a : ℕ} {made : Call} {at : Place} {q later : List Key} {event : Option Event} {memory : Memory} (next : Option Place) (begin : ℕ)
    → is_log_call made ≡ false → Turn t m a made at q event next later memory → LiesInLog (after_turn made begin next later) → ⊥
next_not None begin log turn lies = lies
next_not {made = made} (Some onward) begin log turn lies = not_in_log made onward log (stands_turn turn) lies

group_lock : Laws → {D : Type 0} (tells : Telling) (start : Table) (a : ℕ) (d : Doing) (old new : World D) → Within start old.history old.memory
    → (actor_at old.memory a).doing ≡ Some d → is_log_call d.call ≡ false → LockIsRight old.holder old.memory → IsGroupStep tells a d old new → LockIsRight new.holder new.memory
group_lock laws tells start a d old new inv inside log right step =
    let s = group_step laws tells start a d old new inv inside step in
    let was : LiesInLog (actor_at old.memory a) → ⊥ = λ lies.
    not_in_log d.call d.place log (call_of start old.history old.memory inv a d inside).stands
    (subst (λ (o : Option Doing). IsSomeAnd o (λ (x : Doing). lies_in_log x.place ≡ true)) inside lies) in
    subst (λ (m : Memory). LockIsRight new.holder m) (sym s.memory_is)
    (subst (λ (o : Option ℕ). LockIsRight o (with_actor a (after_turn d.call d.«from» s.next s.later) s.memory)) (sym step.holder)
    (lock_stays old.holder old.memory a _ s.memory (effect_actors (effect_of inv.cached s.turn)) (in_list old.memory a d inside) right was (next_not s.next d.«from» log s.turn)))

lock_of_step : Laws → {D : Type 0} (face : DiskFace D) (tells : Telling) (start : Table) (a : ℕ) (d : Doing) (made : Call) (old new : World D) → Within start old.history old.memory
    → (actor_at old.memory a).doing ≡ Some d → d.call ≡ made → LockIsRight old.holder old.memory → StepOf face tells a d made old new → LockIsRight new.holder new.memory
lock_of_step laws face tells start a d call.Sync old new inv inside is right step = sync_lock face a d d.place old new inside refl right step
lock_of_step laws face tells start a d call.Home old new inv inside is right step = home_lock face a d d.place old new inside refl right step
lock_of_step laws face tells start a d _ old new inv inside is right step = group_lock laws tells start a d old new inv inside (ap is_log_call is) right step

pub log_lock_kept : Laws → {D : Type 0} (face : DiskFace D) (tells : Telling) (start : Table) (a : ℕ) (old new : World D) → Invariant tells start old → Step face tells a old new
    → (b : ℕ) → new.holder ≡ Some b ↔ LiesInLog (actor_at new.memory b)
log_lock_kept laws face tells start a old new inv step =
    lock_of_step laws face tells start a step.doing step.doing.call old new (within tells start old inv) step.inside refl inv.log_lock step.step
