-- After a step each call in progress has its entry as its place says; and a call that ended has one, with its reply.
use Rattle.std.proofs.Common.{◌≡◌, ◌≢◌, ◌<◌, inl, inr, ℕ, true, false, List, [], ◌∷◌, ◌++◌, Option, None, Some, if◌then◌else◌, length, slice_get, refl, sym, ap, subst, ◌∙◌, arith}
use Rattle.std.proofs.lemmas.Option.{none-some, same_Some}
use Rattle.std.proofs.lemmas.Bool.{cases_eq, false≢true}
use Rattle.life_table.specs.declared.key.Key.{Key}
use Rattle.life_table.specs.declared.types.Call.{Call}
use Rattle.life_table.specs.declared.types.Call.TheVariants as call
use Rattle.life_table.specs.declared.types.Reply.{Reply}
use Rattle.life_table.specs.declared.types.Reply.TheVariants as reply
use Rattle.life_table.specs.declared.types.Event.{Event}
use Rattle.life_table.specs.declared.types.Event.TheVariants.{Called, Freed}
use Rattle.life_table.specs.declared.types.Entry.{Entry}
use Rattle.life_table.specs.declared.table.Table.{Table}
use Rattle.actor_world.specs.declared.memory.Place.{Place}
use Rattle.actor_world.specs.declared.memory.Place.TheVariants as place
use Rattle.actor_world.specs.declared.memory.Doing.{Doing}
use Rattle.actor_world.specs.declared.memory.Actor.{Actor}
use Rattle.actor_world.specs.declared.memory.Memory.{Memory}
use Rattle.actor_world.specs.Caches.{actor_at, idle_actor, with_actor}
use Rattle.actor_world.specs.Moves.{is_mark_due, place_after_change, stands_at, with_inodes, with_rows_to_free, is_log_call}
use Rattle.actor_world.specs.World.{History, World, told_if}
use Rattle.actor_world.specs.Steps.{DiskFace, Step, Telling}
use Rattle.actor_world.specs.Invariant.{HasEntry, reply_at}
use Rattle.actor_world.proofs.Effects.{effect_actors, effect_of}
use Rattle.actor_world.proofs.Lists.{get_kept, get_last, get_push, read_other, read_same}
use Rattle.actor_world.proofs.StepTurns.{TurnOf, call_of, stepped, turn_from}
use Rattle.actor_world.proofs.TurnsFound.{Laws}
use Rattle.actor_world.proofs.Within.{Within}
use Rattle.actor_world.proofs.Turns.{Turn, after_turn, changes, ends_flush, ends_reclaim, finds_none, frees_head, frees_one, goes_on, grow_refuses, grows, installs, is_answered, kills, leaves, load_crowded, load_stale, locked_crowded, locked_stale, locks_reclaim, locks_short, makes, makes_none, next_empty, passes_last, pins, pins_locked, reads, refuses, retires, retires_none, unpins}

-- ---- what a turn does to the reply of a call

-- A turn leaves the reply that the call has, or has none; or it answers a call that has none; or it frees a key.
pub data EntryTurn (made : Call) (was : Option Reply) : Option Event → Option Reply → Type 0 where
  Silent : (is : Option Reply) → is ≡ was → EntryTurn made was None is
  Answers : (answer : Reply) → (is : Option Reply) → was ≡ None → is ≡ Some answer → EntryTurn made was (Some (Called made answer)) is
  Frees : (key : Key) → (is : Option Reply) → was ≡ None → is ≡ None → EntryTurn made was (Some (Freed key)) is

rows_reply : (keys : List Key) → reply_at (with_rows_to_free keys) ≡ None
rows_reply [] = refl
rows_reply (key ∷ keys) = refl

inodes_reply : (numbers : List ℕ) → reply_at (with_inodes numbers) ≡ None
inodes_reply [] = refl
inodes_reply (number ∷ numbers) = refl

change_reply : (made : Call) (answer : Reply) (links : ℕ) → reply_at (place_after_change made answer links) ≡ Some answer
change_reply made answer links = elim (is_mark_due made answer links) as (λ b. reply_at (if b then place.Mark answer else place.Leave answer) ≡ Some answer) [ true ↦ refl | false ↦ refl ]

sync_reply : (at : Place) → stands_at call.Sync at ≡ true → reply_at at ≡ None
sync_reply place.Take stands = refl
sync_reply place.Force stands = refl
sync_reply _ stands = absurd (false≢true stands)

home_reply : (at : Place) → stands_at call.Home at ≡ true → reply_at at ≡ None
home_reply place.TakeLog stands = refl
home_reply place.WriteHome stands = refl
home_reply _ stands = absurd (false≢true stands)

pub log_reply : (made : Call) (at : Place) → is_log_call made ≡ true → stands_at made at ≡ true → reply_at at ≡ None
log_reply call.Sync at log stands = sync_reply at stands
log_reply call.Home at log stands = home_reply at stands
log_reply _ at log stands = absurd (false≢true log)

pub entry_turn : {t : Table} {m : Memory} {a : ℕ} {made : Call} {at : Place} {q later : List Key} {event : Option Event} {onward : Place} {memory : Memory}
    → Turn t m a made at q event (Some onward) later memory → EntryTurn made (reply_at at) event (reply_at onward)
entry_turn (finds_none key can is) = Answers _ _ refl refl
entry_turn (locked_crowded key row is full) = Answers _ _ refl refl
entry_turn (locked_stale key row is awaits) = Answers _ _ refl refl
entry_turn (pins_locked key seen o) = Answers _ _ refl refl
entry_turn (installs key dead has) = Answers _ _ refl refl
entry_turn (reads key answer can permits) = Answers _ _ refl refl
entry_turn (refuses made key answer is permits none) = Answers _ _ refl refl
entry_turn (changes made key is permits) = Answers _ _ refl (change_reply made reply.Done _)
entry_turn (grow_refuses key count answer permits none) = Answers _ _ refl refl
entry_turn (grows key count permits) = Answers _ _ refl refl
entry_turn (makes made g key is permits) = Answers _ _ refl refl
entry_turn (makes_none made g is permits) = Answers _ _ refl refl
entry_turn (frees_one made g key others is group awaits) = Frees key _ refl refl
entry_turn (frees_head key keys awaits) = Frees key _ refl refl
entry_turn (locks_short made g is can) = Silent _ (rows_reply _)
entry_turn (kills made g key others is due) = Silent _ (rows_reply others)
entry_turn (locks_reclaim g can) = Silent _ (inodes_reply _)
entry_turn (retires g number others idle) = Silent _ (inodes_reply others)
entry_turn (retires_none g number others busy) = Silent _ (inodes_reply others)
entry_turn (goes_on made at onward is stands stands_next) = Silent _ (log_reply made onward is stands_next ∙ sym (log_reply made at is stands))
entry_turn _ = Silent _ refl

-- A call ends by its answer, or it has one.
pub data EndTurn (made : Call) (was : Option Reply) : Option Event → Type 0 where
  Had : (answer : Reply) → was ≡ Some answer → EndTurn made was None
  Gets : (answer : Reply) → was ≡ None → EndTurn made was (Some (Called made answer))

unfoldable pub end_turn : {t : Table} {m : Memory} {a : ℕ} {made : Call} {at : Place} {q later : List Key} {event : Option Event} {memory : Memory}
    → Turn t m a made at q event None later memory → EndTurn made (reply_at at) event
end_turn (leaves made answer g is) = Had answer refl
end_turn (load_crowded key row is full) = Gets _ refl
end_turn (load_stale key is) = Gets _ refl
end_turn (pins key seen o) = Gets _ refl
end_turn (unpins key held) = Gets _ refl
end_turn next_empty = Gets _ refl
end_turn (passes_last key) = Gets _ refl
end_turn (ends_flush g) = Gets _ refl
end_turn (ends_reclaim g) = Gets _ refl
end_turn (is_answered made at answer is stands permits) = Gets answer (log_reply made at is stands)

-- ---- entries of a call, with one entry more

-- an entry of somebody else, or of no call
abbrev pub IsNotOf : ℕ → Entry → Type 0
IsNotOf b entry = (other : Call) (answer : Reply) → entry ≡ record { actor = b; event = Called other answer } → ⊥

pub entry_kept : (entries : List Entry) (froms : List ℕ) (entry : Entry) (begun b begin : ℕ) (made : Call) (o : Option Reply) → length froms ≡ length entries → IsNotOf b entry
    → HasEntry entries froms b begin made o → HasEntry (entries ++ entry ∷ []) (froms ++ begun ∷ []) b begin made o
entry_kept entries froms entry begun b begin made None long foreign has = λ j other answer at began.
    elim (get_push entries entry _ j at) [
      | inl here ↦ elim (get_push froms begun begin j began) [
        | inl before ↦ has j other answer here.1 before.1
        | inr last ↦ let low = here.0 in let high = last.0 in absurd (omega (arith, low, high, long))
      ]
      | inr last ↦ foreign other answer (same_Some entry _ last.1)
    ]
entry_kept entries froms entry begun b begin made (Some reply) long foreign (i, at_i, began_i, only) = (
  i,
  get_kept entries entry _ i at_i,
  get_kept froms begun begin i began_i,
  λ j other answer at began.
      elim (get_push entries entry _ j at) [
        | inl here ↦ elim (get_push froms begun begin j began) [
          | inl before ↦ only j other answer here.1 before.1
          | inr last ↦ let low = here.0 in let high = last.0 in absurd (omega (arith, low, high, long))
        ]
        | inr last ↦ absurd (foreign other answer (same_Some entry _ last.1))
      ],
)

-- the call's own entry
pub entry_made : (entries : List Entry) (froms : List ℕ) (b begin : ℕ) (made : Call) (answer : Reply) → length froms ≡ length entries → HasEntry entries froms b begin made None
    → HasEntry (entries ++ record { actor = b; event = Called made answer } ∷ []) (froms ++ begin ∷ []) b begin made (Some answer)
entry_made entries froms b begin made answer long none =
    let entry : Entry = record { actor = b; event = Called made answer } in (
      length entries,
      get_last entries entry,
      subst (λ n. slice_get (froms ++ begin ∷ []) n ≡ Some begin) long (get_last froms begin),
      λ j other reply at began.
          elim (get_push entries entry _ j at) [
            | inl here ↦ elim (get_push froms begin begin j began) [
              | inl before ↦ absurd (none j other reply here.1 before.1)
              | inr last ↦ let low = here.0 in let high = last.0 in absurd (omega (arith, low, high, long))
            ]
            | inr last ↦ last.0
          ],
    )

freed_not : (a b : ℕ) (key : Key) → IsNotOf b (record { actor = a; event = Freed key })
freed_not a b key other answer is = let clash : Freed key ≡ Called other answer = ap (λ (e : Entry). e.event) is in freed_called key other answer clash
  where
    freed_called : (key : Key) (other : Call) (answer : Reply) → Freed key ≡ Called other answer → ⊥
    freed_called key other answer is = cc

other_not : (a b : ℕ) (event : Event) → b ≢ a → IsNotOf b (record { actor = a; event = event })
other_not a b event apart other answer is = apart (sym (ap (λ (e : Entry). e.actor) is))

-- ---- steps

-- the call that goes on
own_entry : (h : History) (a : ℕ) (made : Call) (begin : ℕ) (was is : Option Reply) (event : Option Event) → length h.froms ≡ length h.entries → EntryTurn made was event is
    → HasEntry h.entries h.froms a begin made was → HasEntry (told_if a begin event h).entries (told_if a begin event h).froms a begin made is
own_entry h a made begin was is None long (Silent _ same) has = subst (λ (o : Option Reply). HasEntry h.entries h.froms a begin made o) (sym same) has
own_entry h a made begin was is _ long (Answers answer _ none some) has =
    subst (λ (o : Option Reply). HasEntry (h.entries ++ record { actor = a; event = Called made answer } ∷ []) (h.froms ++ begin ∷ []) a begin made o) (sym some)
    (entry_made h.entries h.froms a begin made answer long (subst (λ (o : Option Reply). HasEntry h.entries h.froms a begin made o) none has))
own_entry h a made begin was is _ long (Frees key _ none gone) has =
    subst (λ (o : Option Reply). HasEntry (h.entries ++ record { actor = a; event = Freed key } ∷ []) (h.froms ++ begin ∷ []) a begin made o) (sym gone)
    (entry_kept h.entries h.froms (record { actor = a; event = Freed key }) begin a begin made None long (freed_not a a key)
    (subst (λ (o : Option Reply). HasEntry h.entries h.froms a begin made o) none has))

-- the call that ends
pub ended_entry : (h : History) (a : ℕ) (made : Call) (begin : ℕ) (was : Option Reply) (event : Option Event) → length h.froms ≡ length h.entries → EndTurn made was event
    → HasEntry h.entries h.froms a begin made was → (answer : Reply) × HasEntry (told_if a begin event h).entries (told_if a begin event h).froms a begin made (Some answer)
ended_entry h a made begin was None long (Had answer is) has = (answer, subst (λ (o : Option Reply). HasEntry h.entries h.froms a begin made o) is has)
ended_entry h a made begin was _ long (Gets answer none) has =
    (answer, entry_made h.entries h.froms a begin made answer long (subst (λ (o : Option Reply). HasEntry h.entries h.froms a begin made o) none has))

-- a call of another actor
other_entry : (h : History) (a b from begin : ℕ) (made : Call) (o : Option Reply) (event : Option Event) → length h.froms ≡ length h.entries → b ≢ a → HasEntry h.entries h.froms b begin made o
    → HasEntry (told_if a from event h).entries (told_if a from event h).froms b begin made o
other_entry h a b from begin made o None long apart has = has
other_entry h a b from begin made o (Some event) long apart has =
    entry_kept h.entries h.froms (record { actor = a; event = event }) from b begin made o long (other_not a b event apart) has

-- what is so of the actor's call, if it goes on
own_call : (h : History) (m : Memory) (a : ℕ) (made : Call) (at : Place) (begin : ℕ) (q later : List Key) (event : Option Event) (next : Option Place) (memory : Memory)
    → length h.froms ≡ length h.entries → Turn h.table m a made at q event next later memory → HasEntry h.entries h.froms a begin made (reply_at at)
    → (d : Doing) → (after_turn made begin next later).doing ≡ Some d → HasEntry (told_if a begin event h).entries (told_if a begin event h).froms a d.«from» d.call (reply_at d.place)
own_call h m a made at begin q later event None memory long turn has d is = absurd (none-some d is)
own_call h m a made at begin q later event (Some onward) memory long turn has d is =
    subst (λ (x : Doing). HasEntry (told_if a begin event h).entries (told_if a begin event h).froms a x.«from» x.call (reply_at x.place)) (same_Some _ d is)
    (own_entry h a made begin (reply_at at) (reply_at onward) event long (entry_turn turn) has)

pub entries_kept : (start : Table) (h : History) (m : Memory) (a : ℕ) (made : Call) (at : Place) (begin : ℕ) (q later : List Key) (event : Option Event) (next : Option Place) (memory : Memory)
    → TurnOf start h m a made at begin q event next later memory → (b : ℕ) (d : Doing) → (actor_at (with_actor a (after_turn made begin next later) memory) b).doing ≡ Some d
    → HasEntry (told_if a begin event h).entries (told_if a begin event h).froms b d.«from» d.call (reply_at d.place)
entries_kept start h m a made at begin q later event next memory turn b d inside =
    let actors = effect_actors (effect_of turn.inv.cached turn.turn) in
    let low : a < length memory.actors = subst (λ (xs : List Actor). a < length xs) (sym actors) turn.low in
    let x : Actor = after_turn made begin next later in
    elim (cases_eq b a) [
      | inl same ↦
          let own : (after_turn made begin next later).doing ≡ Some d =
          sym (ap (λ (y : Actor). y.doing) (ap (λ n. actor_at (with_actor a x memory) n) same ∙ read_same memory.actors a x idle_actor low)) ∙ inside in
          subst (λ n. HasEntry (told_if a begin event h).entries (told_if a begin event h).froms n d.«from» d.call (reply_at d.place)) (sym same)
          (own_call h m a made at begin q later event next memory turn.inv.intervals.length_is turn.turn turn.right.entry d own)
      | inr apart ↦
          let other : (actor_at m b).doing ≡ Some d =
          sym (ap (λ (y : Actor). y.doing) (read_other memory.actors a b x idle_actor apart ∙ ap (λ (xs : List Actor). actor_at (record { actors = xs; groups = m.groups }) b) actors)) ∙ inside in
          other_entry h a b begin d.«from» d.call (reply_at d.place) event turn.inv.intervals.length_is apart (call_of start h m turn.inv b d other).entry
    ]

-- a call that a step ends has exactly one entry, with its reply
pub ended_kept : (start : Table) (h : History) (m : Memory) (a : ℕ) (made : Call) (at : Place) (begin : ℕ) (q later : List Key) (event : Option Event) (next : Option Place) (memory : Memory)
    → TurnOf start h m a made at begin q event next later memory → (actor_at (with_actor a (after_turn made begin next later) memory) a).doing ≡ None
    → (answer : Reply) × HasEntry (told_if a begin event h).entries (told_if a begin event h).froms a begin made (Some answer)
ended_kept start h m a made at begin q later event None memory turn ends =
    ended_entry h a made begin (reply_at at) event turn.inv.intervals.length_is (end_turn turn.turn) turn.right.entry
ended_kept start h m a made at begin q later event (Some onward) memory turn ends =
    let actors = effect_actors (effect_of turn.inv.cached turn.turn) in
    let low : a < length memory.actors = subst (λ (xs : List Actor). a < length xs) (sym actors) turn.low in
    absurd (none-some _ (sym ends ∙ ap (λ (y : Actor). y.doing) (read_same memory.actors a (after_turn made begin (Some onward) later) idle_actor low)))

pub ended_by_step : Laws → {D : Type 0} (face : DiskFace D) (tells : Telling) (start : Table) (a : ℕ) (old new : World D) → Within start old.history old.memory
    → (step : Step face tells a old new) → (actor_at new.memory a).doing ≡ None
    → (answer : Reply) × HasEntry new.history.entries new.history.froms a step.doing.«from» step.doing.call (Some answer)
ended_by_step laws face tells start a old new inv step ends =
    let s = stepped laws face tells start a old new inv step in
    let d : Doing = step.doing in
    let done = ended_kept start old.history old.memory a d.call d.place d.«from» (actor_at old.memory a).queue s.later s.event s.next s.memory
    (turn_from start old.history new.history old.memory new.memory inv a d step.inside s) (subst (λ (m : Memory). (actor_at m a).doing ≡ None) s.memory_is ends) in
    (done.0, subst (λ (h : History). HasEntry h.entries h.froms a d.«from» d.call (Some done.0)) (sym s.history_is) done.1)
