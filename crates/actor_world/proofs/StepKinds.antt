-- Each step is of one of the four kinds.
use Rattle.std.proofs.Common.{◌≡◌, inl, inr, refl, ap, ◌∙◌, ℕ, Bool, true, false, cond, List, [], ◌∷◌, ◌++◌, append-nil, Option, None, Some}
use Rattle.std.proofs.lemmas.List.Elements.{filter-append}
use Rattle.log_store.specs.State.{state_of}
use Rattle.life_table.specs.declared.types.Call.{Call}
use Rattle.life_table.specs.declared.types.Call.TheVariants as call
use Rattle.life_table.specs.declared.types.Reply.{Reply}
use Rattle.life_table.specs.declared.types.Event.{Event}
use Rattle.life_table.specs.declared.types.Entry.{Entry}
use Rattle.life_table.specs.History.{changes, is_change}
use Rattle.actor_world.specs.declared.memory.Place.{Place}
use Rattle.actor_world.specs.declared.memory.Place.TheVariants as place
use Rattle.actor_world.specs.declared.memory.Doing.{Doing}
use Rattle.actor_world.specs.World.{History, World, told, told_if}
use Rattle.actor_world.specs.Steps.{DiskFace, HomeStep, IsAdvanced, IsGroupStep, IsHomeBegun, IsTake, Pushes, Step, StepOf, SyncStep, Telling, answered, makes_change}
use Rattle.actor_world.specs.Kinds.{IsLogKind, NoChange}

-- the changes with one entry more
changes_more : (entries : List Entry) (entry : Entry) → changes (entries ++ entry ∷ []) ≡ changes entries ++ cond (is_change entry.event) (entry ∷ []) []
changes_more entries entry = filter-append (λ (e : Entry). is_change e.event) entries (entry ∷ [])

pub changes_push : (entries : List Entry) (entry : Entry) → is_change entry.event ≡ true → changes (entries ++ entry ∷ []) ≡ changes entries ++ entry ∷ []
changes_push entries entry e = changes_more entries entry ∙ ap (λ b. changes entries ++ cond b (entry ∷ []) []) e

pub changes_stay : (entries : List Entry) (entry : Entry) → is_change entry.event ≡ false → changes (entries ++ entry ∷ []) ≡ changes entries
changes_stay entries entry e = changes_more entries entry ∙ ap (λ b. changes entries ++ cond b (entry ∷ []) []) e ∙ append-nil (changes entries)

told_stays : (h : History) (a begin : ℕ) (event : Option Event) → makes_change event ≡ false → changes (told_if a begin event h).entries ≡ changes h.entries
told_stays h a begin None e = refl
told_stays h a begin (Some event) e = changes_stay h.entries (record { actor = a; event = event }) e

-- no answer of a sync or a home is a change
sync_stays : (h : History) (a begin : ℕ) (answer : Option Reply) → changes (told_if a begin (answered call.Sync answer) h).entries ≡ changes h.entries
sync_stays h a begin None = refl
sync_stays h a begin (Some reply) = told_stays h a begin (answered call.Sync (Some reply)) refl

home_stays : (h : History) (a begin : ℕ) (answer : Option Reply) → changes (told_if a begin (answered call.Home answer) h).entries ≡ changes h.entries
home_stays h a begin None = refl
home_stays h a begin (Some reply) = told_stays h a begin (answered call.Home (Some reply)) refl

-- ---- a step of a group

leaves : {D : Type 0} (face : DiskFace D) (tells : Telling) (a : ℕ) (old new : World D) → new.queue ≡ old.queue → new.store ≡ old.store → NoChange old new → IsLogKind face tells a old new
leaves face tells a old new q s c = inr (inr (inr (record {
  queue = q;
  state = ap (λ store. state_of store) s;
  disk = ap (λ store. store.disk) s;
  changes_are = c;
})))

by_change : {D : Type 0} (face : DiskFace D) (tells : Telling) (a begin : ℕ) (old new : World D) (event : Event) (b : Bool) → is_change event ≡ b
    → new.history ≡ told a begin event old.history → Pushes tells b old.history new.history old.queue new.queue → new.store ≡ old.store
    → IsLogKind face tells a old new
by_change face tells a begin old new event true e h q s = inl (record {
  begin = begin;
  event = event;
  change = e;
  history = h;
  changes_are = ap (λ history. changes history.entries) h ∙ changes_push old.history.entries (record { actor = a; event = event }) e;
  commit = q.0;
  tells_it = q.1;
  queue = q.2;
  store = s;
})
by_change face tells a begin old new event false e h q s =
    leaves face tells a old new q s (ap (λ history. changes history.entries) h ∙ changes_stay old.history.entries (record { actor = a; event = event }) e)

by_event : {D : Type 0} (face : DiskFace D) (tells : Telling) (a begin : ℕ) (old new : World D) (event : Option Event)
    → new.history ≡ told_if a begin event old.history → Pushes tells (makes_change event) old.history new.history old.queue new.queue → new.store ≡ old.store
    → IsLogKind face tells a old new
by_event face tells a begin old new None h q s = leaves face tells a old new q s (ap (λ history. changes history.entries) h)
by_event face tells a begin old new (Some event) h q s = by_change face tells a begin old new event (is_change event) refl h q s

group_kind : {D : Type 0} (face : DiskFace D) (tells : Telling) (a : ℕ) (doing : Doing) (old new : World D) → IsGroupStep tells a doing old new → IsLogKind face tells a old new
group_kind face tells a doing old new s = by_event face tells a doing.«from» old new s.move.event s.history s.queue s.store

-- ---- a step of a sync or a home

take_kind : {D : Type 0} (face : DiskFace D) (tells : Telling) (a : ℕ) (doing : Doing) (old new : World D) → IsTake a doing old new → IsLogKind face tells a old new
take_kind face tells a doing old new s = inr (inl (record {
  queue = s.queue;
  state = s.state;
  disk = s.disk;
  changes_are = ap (λ history. changes history.entries) s.turn.history ∙ sync_stays old.history a doing.«from» _;
}))

home_kind : {D : Type 0} (face : DiskFace D) (tells : Telling) (a : ℕ) (doing : Doing) (old new : World D) → IsHomeBegun a doing old new → IsLogKind face tells a old new
home_kind face tells a doing old new s = inr (inr (inr (record {
  queue = s.queue;
  state = s.state;
  disk = s.disk;
  changes_are = ap (λ history. changes history.entries) s.turn.history ∙ home_stays old.history a doing.«from» _;
})))

force_kind : {D : Type 0} (face : DiskFace D) (tells : Telling) (a : ℕ) (doing : Doing) (old new : World D) → IsAdvanced face a doing call.Sync old new → IsLogKind face tells a old new
force_kind face tells a doing old new s = inr (inr (inl (record {
  result = s.result;
  step = s.step;
  queue = s.queue;
  changes_are = ap (λ history. changes history.entries) s.turn.history ∙ sync_stays old.history a doing.«from» _;
})))

write_kind : {D : Type 0} (face : DiskFace D) (tells : Telling) (a : ℕ) (doing : Doing) (old new : World D) → IsAdvanced face a doing call.Home old new → IsLogKind face tells a old new
write_kind face tells a doing old new s = inr (inr (inl (record {
  result = s.result;
  step = s.step;
  queue = s.queue;
  changes_are = ap (λ history. changes history.entries) s.turn.history ∙ home_stays old.history a doing.«from» _;
})))

sync_kind : {D : Type 0} (face : DiskFace D) (tells : Telling) (a : ℕ) (doing : Doing) (at : Place) (old new : World D) → SyncStep face a doing at old new → IsLogKind face tells a old new
sync_kind face tells a doing place.Take old new s = take_kind face tells a doing old new s
sync_kind face tells a doing place.Force old new s = force_kind face tells a doing old new s
sync_kind face tells a doing _ old new s = absurd s

home_step_kind : {D : Type 0} (face : DiskFace D) (tells : Telling) (a : ℕ) (doing : Doing) (at : Place) (old new : World D) → HomeStep face a doing at old new → IsLogKind face tells a old new
home_step_kind face tells a doing place.TakeLog old new s = home_kind face tells a doing old new s
home_step_kind face tells a doing place.WriteHome old new s = write_kind face tells a doing old new s
home_step_kind face tells a doing _ old new s = absurd s

-- ---- any step

kind_of : {D : Type 0} (face : DiskFace D) (tells : Telling) (a : ℕ) (doing : Doing) (made : Call) (old new : World D) → StepOf face tells a doing made old new → IsLogKind face tells a old new
kind_of face tells a doing call.Sync old new s = sync_kind face tells a doing doing.place old new s
kind_of face tells a doing call.Home old new s = home_step_kind face tells a doing doing.place old new s
kind_of face tells a doing _ old new s = group_kind face tells a doing old new s

pub step_kind : {D : Type 0} (face : DiskFace D) (tells : Telling) (a : ℕ) (old new : World D) → Step face tells a old new → IsLogKind face tells a old new
step_kind face tells a old new s = kind_of face tells a s.doing s.doing.call old new s.step

-- ---- one entry

abbrev pub Appends : {D : Type 0} → ℕ → ℕ → World D → World D → Type 0
Appends {D} a begin old new = (event : Option Event) × (new.history ≡ told_if a begin event old.history)

sync_appends : {D : Type 0} (face : DiskFace D) (a : ℕ) (doing : Doing) (at : Place) (old new : World D) → SyncStep face a doing at old new → Appends a doing.«from» old new
sync_appends face a doing place.Take old new s = (_, s.turn.history)
sync_appends face a doing place.Force old new s = (_, s.turn.history)
sync_appends face a doing _ old new s = absurd s

home_appends : {D : Type 0} (face : DiskFace D) (a : ℕ) (doing : Doing) (at : Place) (old new : World D) → HomeStep face a doing at old new → Appends a doing.«from» old new
home_appends face a doing place.TakeLog old new s = (_, s.turn.history)
home_appends face a doing place.WriteHome old new s = (_, s.turn.history)
home_appends face a doing _ old new s = absurd s

appends_of : {D : Type 0} (face : DiskFace D) (tells : Telling) (a : ℕ) (doing : Doing) (made : Call) (old new : World D) → StepOf face tells a doing made old new → Appends a doing.«from» old new
appends_of face tells a doing call.Sync old new s = sync_appends face a doing doing.place old new s
appends_of face tells a doing call.Home old new s = home_appends face a doing doing.place old new s
appends_of face tells a doing _ old new s = (s.move.event, s.history)

pub step_appends : {D : Type 0} (face : DiskFace D) (tells : Telling) (a : ℕ) (old new : World D) (s : Step face tells a old new) → Appends a s.doing.«from» old new
step_appends face tells a old new s = appends_of face tells a s.doing s.doing.call old new s.step
