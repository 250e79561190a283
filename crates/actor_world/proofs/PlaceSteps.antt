-- After a step each call in progress stands at one of its places, in a group that is there, and has its holds.
use Rattle.std.proofs.Common.{◌≡◌, ◌≢◌, ◌<◌, ◌≤◌, ◌==◌, ◌&&◌, ◌*◌, ◌/◌, ◌%◌, inl, inr, ℕ, Bool, true, false, List, [], ◌∷◌, ◌++◌, append-nil, append_assoc, Option, None, Some, if◌then◌else◌, nat_lt, length, refl, sym, ap, subst, ◌∙◌, arith}
use Rattle.std.specs.List.{AllByRecursion, count_by}
use Rattle.std.proofs.lemmas.Option.{none-some, same_Some}
use Rattle.std.proofs.lemmas.Bool.{and_parts, cases_Bool, cases_eq, eq-eqb, eqb-true, ltb-true, false≢true, true≢false}
use Rattle.life_limits.specs.declared.TheConstants.{BLOCK_SECTORS, GROUP_NUMBERS}
use Rattle.life_table.specs.declared.key.Key.{Key}
use Rattle.life_table.specs.declared.types.Call.{Call}
use Rattle.life_table.specs.declared.types.Call.TheVariants as call
use Rattle.life_table.specs.declared.types.Reply.{Reply}
use Rattle.life_table.specs.declared.types.Reply.TheVariants as reply
use Rattle.life_table.specs.declared.types.Event.{Event}
use Rattle.life_table.specs.declared.types.Event.TheVariants.{Called, Freed}
use Rattle.life_table.specs.declared.types.Entry.{Entry}
use Rattle.life_table.specs.declared.table.Table.{Table}
use Rattle.life_table.specs.Table.{group_number}
use Rattle.life_table.specs.History.{AreByHolders, IsByHolder, IsHeld, gives_up, holds, key_of, same_key, takes_hold}
use Rattle.actor_world.specs.declared.memory.Place.{Place}
use Rattle.actor_world.specs.declared.memory.Place.TheVariants as place
use Rattle.actor_world.specs.declared.memory.Doing.{Doing}
use Rattle.actor_world.specs.declared.memory.Actor.{Actor}
use Rattle.actor_world.specs.declared.memory.Memory.{Memory}
use Rattle.actor_world.specs.Caches.{actor_at, idle_actor, is_of_geometry, with_actor}
use Rattle.actor_world.specs.Moves.{group_of_call, is_mark_due, place_after_change, stands_at, with_inodes, with_rows_to_free, is_log_call}
use Rattle.actor_world.specs.World.{History, told_if}
use Rattle.actor_world.specs.Invariant.{GroupIsThere, IsShaped, IsThere, first_key, key_made}
use Rattle.actor_world.proofs.Effects.{effect_actors, effect_of, effect_shape}
use Rattle.actor_world.proofs.Holding.{count_push, held_other}
use Rattle.actor_world.proofs.Lists.{length-push, read_other, read_same}
use Rattle.actor_world.proofs.LogLock.{stands_turn}
use Rattle.actor_world.proofs.Locks.{changer_group, maker_call_group, room_call_group}
use Rattle.actor_world.proofs.WordTurns.{log_due, mark_key}
use Rattle.actor_world.proofs.WordsStill.{WordFacts}
use Rattle.actor_world.specs.Words.{Due, due_at, due_number, nothing}
use Rattle.life_table.specs.Legal.{Permits}
use Rattle.actor_world.proofs.StepTurns.{TurnOf, call_of}
use Rattle.actor_world.proofs.Turns.{Turn, after_turn, changer_key, changes, frees_head, frees_one, goes_on, kills, load_finds, load_pins, locks_reclaim, locks_short, maker_group, makes, makes_none, passes, refuses, retires, retires_none}

-- ---- the group

is_load : Place → Bool
is_load place.Load = true
is_load _ = false

from_there : (m : Memory) (q : List Key) (made : Call) (at : Place) → is_load at ≡ false → GroupIsThere m q made at → IsThere m (group_of_call q made)
unfolding is_load
from_there m q (call.OpenKey key) place.Load load there = absurd (true≢false load)
from_there m q made at load there = there

to_there : (m : Memory) (q : List Key) (made : Call) (at : Place) → IsThere m (group_of_call q made) → GroupIsThere m q made at
to_there m q (call.OpenKey key) place.Load there = tt
to_there m q made at there = there

log_there : (m : Memory) (q : List Key) (made : Call) → is_log_call made ≡ true → IsThere m (group_of_call q made)
log_there m q call.Sync log = tt
log_there m q call.Home log = tt
log_there m q _ log = absurd (false≢true log)

inside_there : (t : Table) (m : Memory) (key : Key) → IsShaped t m → is_of_geometry t key.number ≡ true → group_number key < length m.groups
inside_there t m key shaped inside =
    let parts = and_parts (nat_lt (key.number / GROUP_NUMBERS) (length t.groups)) (nat_lt (key.number % GROUP_NUMBERS) (t.blocks * BLOCK_SECTORS)) inside in
    subst (λ n. group_number key < n) (sym shaped.groups) (ltb-true (key.number / GROUP_NUMBERS) (length t.groups) parts.0)

turn_there : {t : Table} {m : Memory} {a : ℕ} {made : Call} {at : Place} {q later : List Key} {event : Option Event} {onward : Place} {memory : Memory}
    → IsShaped t m → AllByRecursion (λ (key : Key). group_number key < length m.groups) q → GroupIsThere m q made at
    → Turn t m a made at q event (Some onward) later memory → IsThere m (group_of_call later made)
unfolding is_load
turn_there {t = t} {m = m} shaped all there (load_pins key inside seen) = inside_there t m key shaped inside
turn_there {t = t} {m = m} shaped all there (load_finds key inside) = inside_there t m key shaped inside
turn_there {m = m} shaped all there (passes key next keys) = all.1.0
turn_there {m = m} {q = q} shaped all there (goes_on made at onward is stands stands_next) = log_there m q made is
turn_there {m = m} {made = made} {at = at} {q = q} shaped all there _ = from_there m q made at refl there

there_after : (m memory : Memory) (o : Option ℕ) → length memory.groups ≡ length m.groups → IsThere m o → IsThere memory o
there_after m memory None same there = tt
there_after m memory (Some g) same there = subst (λ n. g < n) (sym same) there

-- ---- holds

changer_gives : (made : Call) (k key : Key) (answer : Reply) → changer_key made ≡ Some k → gives_up key (Called made answer) ≡ false
changer_gives (call.Link other) k key answer is = refl
changer_gives (call.Unlink other) k key answer is = refl
changer_gives (call.Cut other count) k key answer is = refl
changer_gives _ k key answer is = absurd (none-some k is)

maker_gives : (made : Call) (g : ℕ) (key : Key) (answer : Reply) → maker_group made ≡ Some g → gives_up key (Called made answer) ≡ false
maker_gives (call.Create h) g key answer is = refl
maker_gives (call.Tmpfile h) g key answer is = refl
maker_gives _ g key answer is = absurd (none-some g is)

-- a call that goes on gives no hold up
turn_gives : {t : Table} {m : Memory} {a : ℕ} {made : Call} {at : Place} {q later : List Key} {event : Event} {onward : Place} {memory : Memory}
    → Turn t m a made at q (Some event) (Some onward) later memory → (key : Key) → gives_up key event ≡ false
turn_gives (refuses made k answer is permits none) key = changer_gives made k key answer is
turn_gives (changes made k is permits) key = changer_gives made k key reply.Done is
turn_gives (makes made g k is permits) key = maker_gives made g key (reply.Made k) is
turn_gives (makes_none made g is permits) key = maker_gives made g key reply.NoInodes is
turn_gives _ key = refl

one_of : Bool → ℕ
one_of b = if b then 1 else 0

both_false : (b c : Bool) → c ≡ false → (b && c) ≡ false
both_false true c is = is
both_false false c is = refl

-- an entry by which nothing is given up
holds_more : (entries : List Entry) (entry : Entry) (a : ℕ) (key : Key) → gives_up key entry.event ≡ false → 0 < holds entries a key → 0 < holds (entries ++ entry ∷ []) a key
holds_more entries entry a key keeps held =
    let takes = count_push (λ (e : Entry). (e.actor == a) && takes_hold key e.event) entries entry in
    let gives = count_push (λ (e : Entry). (e.actor == a) && gives_up key e.event) entries entry in
    let none : ◌≡◌ {A = ℕ} (if (entry.actor == a) && gives_up key entry.event then 1 else 0) 0 = ap (λ (b : Bool). if b then 1 else 0) (both_false (entry.actor == a) (gives_up key entry.event) keeps) in
    omega (arith, takes, gives, none, held)

held_more : (entries : List Entry) (entry : Entry) (a : ℕ) (o : Option Key) → ((key : Key) → gives_up key entry.event ≡ false) → IsHeld entries a o → IsHeld (entries ++ entry ∷ []) a o
held_more entries entry a None keeps held = tt
held_more entries entry a (Some key) keeps held = holds_more entries entry a key (keeps key) held

-- nobody gives up more holds than it took
count_taken : List Entry → ℕ → Key → ℕ
count_taken entries a key = count_by (λ (e : Entry). (e.actor == a) && takes_hold key e.event) entries

count_given : List Entry → ℕ → Key → ℕ
count_given entries a key = count_by (λ (e : Entry). (e.actor == a) && gives_up key e.event) entries

same_keys : (a b : Key) → same_key a b ≡ true → a ≡ b
same_keys a b is =
    let parts = and_parts (a.number == b.number) (a.generation == b.generation) is in
    let n = eqb-true a.number b.number parts.0 in
    let g = eqb-true a.generation b.generation parts.1 in
    λ i. record { number = n i; generation = g i }

giver_holds : (before : List Entry) (actor : ℕ) (key : Key) (event : Event) → IsByHolder before actor event → gives_up key event ≡ true → 0 < holds before actor key
giver_holds before actor key (Called (call.CloseKey other) reply.Done) by is = subst (λ k. 0 < holds before actor k) (sym (same_keys key other is)) by
giver_holds before actor key (Called _ _) by is = absurd (false≢true is)
giver_holds before actor key (Freed other) by is = absurd (false≢true is)

one_more : (before : List Entry) (entry : Entry) (a : ℕ) (key : Key) → IsByHolder before entry.actor entry.event → count_given before a key ≤ count_taken before a key
    → count_given (before ++ entry ∷ []) a key ≤ count_taken (before ++ entry ∷ []) a key
unfolding count_taken count_given
one_more before entry a key by few =
    let takes = count_push (λ (e : Entry). (e.actor == a) && takes_hold key e.event) before entry in
    let gives = count_push (λ (e : Entry). (e.actor == a) && gives_up key e.event) before entry in
    elim (cases_Bool ((entry.actor == a) && gives_up key entry.event)) [
      | inl both ↦
          let parts = and_parts (entry.actor == a) (gives_up key entry.event) both in
          let one : ◌≡◌ {A = ℕ} (if (entry.actor == a) && gives_up key entry.event then 1 else 0) 1 = ap (λ (b : Bool). if b then 1 else 0) both in
          let held : 0 < holds before a key = subst (λ n. 0 < holds before n key) (eqb-true entry.actor a parts.0) (giver_holds before entry.actor key entry.event by parts.1) in
          omega (arith, takes, gives, one, held)
      | inr not ↦
          let none : ◌≡◌ {A = ℕ} (if (entry.actor == a) && gives_up key entry.event then 1 else 0) 0 = ap (λ (b : Bool). if b then 1 else 0) not in
          omega (arith, takes, gives, none, few)
    ]

given_few : (before entries : List Entry) (a : ℕ) (key : Key) → AreByHolders before entries → count_given before a key ≤ count_taken before a key
    → count_given (before ++ entries) a key ≤ count_taken (before ++ entries) a key
given_few before [] a key all few = subst (λ es. count_given es a key ≤ count_taken es a key) (sym (append-nil before)) few
given_few before (entry ∷ entries) a key all few =
    subst (λ es. count_given es a key ≤ count_taken es a key) (append_assoc before (entry ∷ []) entries)
    (given_few (before ++ entry ∷ []) entries a key all.1 (one_more before entry a key all.0 few))

none_given : (a : ℕ) (key : Key) → count_given [] a key ≤ count_taken [] a key
unfolding count_taken count_given
none_given a key = omega arith

-- whoever makes an inode holds it
maker_holds : (entries : List Entry) (a : ℕ) (key : Key) (event : Event) → AreByHolders [] entries → takes_hold key event ≡ true → gives_up key event ≡ false
    → 0 < holds (entries ++ record { actor = a; event = event } ∷ []) a key
unfolding count_taken count_given
maker_holds entries a key event all takes_it keeps =
    let entry : Entry = record { actor = a; event = event } in
    let few = given_few [] entries a key all (none_given a key) in
    let takes = count_push (λ (e : Entry). (e.actor == a) && takes_hold key e.event) entries entry in
    let gives = count_push (λ (e : Entry). (e.actor == a) && gives_up key e.event) entries entry in
    let own : (a == a) ≡ true = eq-eqb a a refl in
    let one : ◌≡◌ {A = ℕ} (if (a == a) && takes_hold key event then 1 else 0) 1 =
    ap (λ (b : Bool). if b && takes_hold key event then 1 else 0) own ∙ ap (λ (b : Bool). if b then 1 else 0) takes_it in
    let none : ◌≡◌ {A = ℕ} (if (a == a) && gives_up key event then 1 else 0) 0 = ap (λ (b : Bool). if b then 1 else 0) (both_false (a == a) (gives_up key event) keeps) in
    omega (arith, few, takes, gives, one, none)

maker_takes : (made : Call) (g : ℕ) (key : Key) → maker_group made ≡ Some g → takes_hold key (Called made (reply.Made key)) ≡ true
maker_takes (call.Create h) g key is = rw (eq-eqb key.number key.number refl, eq-eqb key.generation key.generation refl)
maker_takes (call.Tmpfile h) g key is = rw (eq-eqb key.number key.number refl, eq-eqb key.generation key.generation refl)
maker_takes _ g key is = absurd (none-some g is)

-- ---- what was made

rows_made : (keys : List Key) → key_made (with_rows_to_free keys) ≡ None
rows_made [] = refl
rows_made (key ∷ keys) = refl

inodes_made : (numbers : List ℕ) → key_made (with_inodes numbers) ≡ None
inodes_made [] = refl
inodes_made (number ∷ numbers) = refl

change_made : (made : Call) (answer : Reply) (links : ℕ) → key_made (place_after_change made answer links) ≡ None
change_made made answer links = elim (is_mark_due made answer links) as (λ b. key_made (if b then place.Mark answer else place.Leave answer) ≡ None) [ true ↦ refl | false ↦ refl ]

sync_made : (at : Place) → stands_at call.Sync at ≡ true → key_made at ≡ None
sync_made place.Take stands = refl
sync_made place.Force stands = refl
sync_made _ stands = absurd (false≢true stands)

home_made : (at : Place) → stands_at call.Home at ≡ true → key_made at ≡ None
home_made place.TakeLog stands = refl
home_made place.WriteHome stands = refl
home_made _ stands = absurd (false≢true stands)

log_made : (made : Call) (at : Place) → is_log_call made ≡ true → stands_at made at ≡ true → key_made at ≡ None
log_made call.Sync at log stands = sync_made at stands
log_made call.Home at log stands = home_made at stands
log_made _ at log stands = absurd (false≢true log)

nothing_made : (entries : List Entry) (a : ℕ) (o : Option Key) → o ≡ None → IsHeld entries a o
nothing_made entries a o none = subst (λ (o : Option Key). IsHeld entries a o) (sym none) tt

turn_made : {t : Table} {m : Memory} {a : ℕ} {made : Call} {at : Place} {q later : List Key} {event : Option Event} {onward : Place} {memory : Memory}
    → (h : History) (begin : ℕ) → AreByHolders [] h.entries → Turn t m a made at q event (Some onward) later memory → IsHeld (told_if a begin event h).entries a (key_made onward)
turn_made {a = a} h begin all (makes made g key is permits) = maker_holds h.entries a key (Called made (reply.Made key)) all (maker_takes made g key is) (maker_gives made g key (reply.Made key) is)
turn_made {a = a} {event = event} h begin all (changes made key is permits) = nothing_made (told_if a begin event h).entries a _ (change_made made reply.Done _)
turn_made {a = a} {event = event} h begin all (locks_short made g is can) = nothing_made (told_if a begin event h).entries a _ (rows_made _)
turn_made {a = a} {event = event} h begin all (kills made g key others is due) = nothing_made (told_if a begin event h).entries a _ (rows_made others)
turn_made {a = a} {event = event} h begin all (locks_reclaim g can) = nothing_made (told_if a begin event h).entries a _ (inodes_made _)
turn_made {a = a} {event = event} h begin all (retires g number others idle) = nothing_made (told_if a begin event h).entries a _ (inodes_made others)
turn_made {a = a} {event = event} h begin all (retires_none g number others busy) = nothing_made (told_if a begin event h).entries a _ (inodes_made others)
turn_made {a = a} {event = event} h begin all (goes_on made at onward is stands stands_next) = nothing_made (told_if a begin event h).entries a _ (log_made made onward is stands_next)
turn_made h begin all _ = tt

-- ---- what is due

rows_due : (first : Option Key) (made : Call) (keys : List Key) → due_at first made (with_rows_to_free keys) ≡ nothing
rows_due first made [] = refl
rows_due first made (key ∷ keys) = refl

inodes_due : (first : Option Key) (made : Call) (numbers : List ℕ) → due_at first made (with_inodes numbers) ≡ nothing
inodes_due first made [] = refl
inodes_due first made (number ∷ numbers) = refl

no_due : (due : Due) (number : ℕ) {X : Type 0} → due ≡ nothing → due_number due ≡ Some number → X
no_due due number none is = absurd (none-some number (sym (ap due_number none) ∙ is))

change_due : (first : Option Key) (made : Call) (key : Key) (q : List Key) (links number : ℕ) → changer_key made ≡ Some key → due_number (due_at first made (place_after_change made reply.Done links)) ≡ Some number
    → group_of_call q made ≡ Some (number / GROUP_NUMBERS)
change_due first made key q links number is =
    elim (is_mark_due made reply.Done links) as (λ b. due_number (due_at first made (if b then place.Mark reply.Done else place.Leave reply.Done)) ≡ Some number → group_of_call q made ≡ Some (number / GROUP_NUMBERS)) [
      | true ↦ λ due. changer_group made key q is ∙ ap (λ n. Some (n / GROUP_NUMBERS)) (mark_key made key number is due)
      | false ↦ λ due. absurd (none-some number due)
    ]

maker_due : (t : Table) (m : Memory) → WordFacts t m → (made : Call) (g : ℕ) (key : Key) → maker_group made ≡ Some g → Permits t made (reply.Made key) → Some g ≡ Some (key.number / GROUP_NUMBERS)
maker_due t m facts (call.Create h) g key is permits = sym is ∙ ap (λ n. Some n) (sym (facts.made h key 1 permits (facts.legal (call.Create h) (reply.Made key) permits)).group)
maker_due t m facts (call.Tmpfile h) g key is permits = sym is ∙ ap (λ n. Some n) (sym (facts.made h key 0 permits (facts.legal (call.Tmpfile h) (reply.Made key) permits)).group)
maker_due t m facts _ g key is permits = absurd (none-some g is)

turn_due : {t : Table} {m : Memory} {a : ℕ} {made : Call} {at : Place} {q later : List Key} {event : Option Event} {onward : Place} {memory : Memory}
    → WordFacts t m → Turn t m a made at q event (Some onward) later memory → (number : ℕ) → due_number (due_at (first_key later) made onward) ≡ Some number
    → group_of_call later made ≡ Some (number / GROUP_NUMBERS)
turn_due {t = t} {m = m} {later = later} facts (makes made g key is permits) number due =
    maker_call_group made g later is ∙ maker_due t m facts made g key is permits ∙ ap (λ n. Some (n / GROUP_NUMBERS)) (same_Some key.number number due)
turn_due {later = later} facts (frees_one made g key others is group awaits) number due =
    room_call_group made g later is ∙ ap (λ n. Some n) (sym group) ∙ ap (λ n. Some (n / GROUP_NUMBERS)) (same_Some key.number number due)
turn_due facts (frees_head key keys awaits) number due = ap (λ n. Some (n / GROUP_NUMBERS)) (same_Some key.number number due)
turn_due {later = later} facts (changes made key is permits) number due = change_due (first_key later) made key later _ number is due
turn_due {later = later} facts (locks_short made g is can) number due = no_due _ number (rows_due (first_key later) made _) due
turn_due {later = later} facts (kills made g key others is kill) number due = no_due _ number (rows_due (first_key later) made others) due
turn_due {later = later} facts (locks_reclaim g can) number due = no_due _ number (inodes_due (first_key later) (call.Reclaim g) _) due
turn_due {later = later} facts (retires g n others idle) number due = no_due _ number (inodes_due (first_key later) (call.Reclaim g) others) due
turn_due {later = later} facts (retires_none g n others busy) number due = no_due _ number (inodes_due (first_key later) (call.Reclaim g) others) due
turn_due {later = later} facts (goes_on made at onward is stands stands_next) number due = no_due _ number (log_due (first_key later) made onward is stands_next) due
turn_due facts _ number due = absurd (none-some number due)

-- ---- steps

-- what is so of where a call in progress stands
pub record StandsRight (h : History) (m : Memory) (b : ℕ) (queue : List Key) (d : Doing) : Type 0 where
  pub begun : d.«from» ≤ length h.entries
  pub stands : stands_at d.call d.place ≡ true
  pub group : GroupIsThere m queue d.call d.place
  pub held : IsHeld h.entries b (key_of d.call)
  pub made : IsHeld h.entries b (key_made d.place)
  pub due_here : (number : ℕ) → due_number (due_at (first_key queue) d.call d.place) ≡ Some number → group_of_call queue d.call ≡ Some (number / GROUP_NUMBERS)

begun_more : (h : History) (a begin n : ℕ) (event : Option Event) → n ≤ length h.entries → n ≤ length (told_if a begin event h).entries
begun_more h a begin n None below = below
begun_more h a begin n (Some event) below = let long = length-push h.entries (record { actor = a; event = event }) in omega (arith, long, below)

own_held : {t : Table} {m : Memory} {a : ℕ} {made : Call} {at : Place} {q later : List Key} {onward : Place} {memory : Memory} (event : Option Event) (h : History) (begin : ℕ)
    → Turn t m a made at q event (Some onward) later memory → (o : Option Key) → IsHeld h.entries a o → IsHeld (told_if a begin event h).entries a o
own_held None h begin turn o held = held
own_held {a = a} (Some event) h begin turn o held = held_more h.entries (record { actor = a; event = event }) a o (turn_gives turn) held

others_held : (h : History) (a b begin : ℕ) (event : Option Event) (o : Option Key) → b ≢ a → IsHeld h.entries b o → IsHeld (told_if a begin event h).entries b o
others_held h a b begin None o apart held = held
others_held h a b begin (Some event) o apart held = held_other h.entries (record { actor = a; event = event }) b o (λ e. apart (sym e)) held

-- a group that was there still is
group_moves : (m memory : Memory) (q : List Key) (made : Call) (at : Place) → length memory.groups ≡ length m.groups → GroupIsThere m q made at → GroupIsThere memory q made at
group_moves m memory q (call.OpenKey key) place.Load same there = tt
group_moves m memory q made at same there = there_after m memory (group_of_call q made) same there

own_place : (start : Table) (h : History) (m : Memory) (a : ℕ) (made : Call) (at : Place) (begin : ℕ) (q later : List Key) (event : Option Event) (next : Option Place) (memory : Memory)
    → WordFacts h.table m → TurnOf start h m a made at begin q event next later memory → length memory.groups ≡ length m.groups → (d : Doing) → (after_turn made begin next later).doing ≡ Some d
    → StandsRight (told_if a begin event h) (with_actor a (after_turn made begin next later) memory) a (after_turn made begin next later).queue d
own_place start h m a made at begin q later event None memory facts turn count d inside = absurd (none-some d inside)
own_place start h m a made at begin q later event (Some onward) memory facts turn count d inside =
    let queue_is : (actor_at m a).queue ≡ q = ap (λ (y : Actor). y.queue) turn.actor_is in
    let all = subst (λ (ks : List Key). AllByRecursion (λ (key : Key). group_number key < length m.groups) ks) queue_is (turn.inv.actors a).there in
    subst (λ (y : Doing). StandsRight (told_if a begin event h) (with_actor a (after_turn made begin (Some onward) later) memory) a later y) (same_Some _ d inside) (record {
      begun = begun_more h a begin begin event turn.right.begun;
      stands = stands_turn turn.turn;
      group = to_there memory later made onward (there_after m memory (group_of_call later made) count (turn_there turn.inv.shaped all turn.right.group turn.turn));
      held = own_held event h begin turn.turn (key_of made) turn.right.held;
      made = turn_made h begin turn.inv.legal.held turn.turn;
      due_here = turn_due facts turn.turn;
    })

pub places_kept : (start : Table) (h : History) (m : Memory) (a : ℕ) (made : Call) (at : Place) (begin : ℕ) (q later : List Key) (event : Option Event) (next : Option Place) (memory : Memory)
    → WordFacts h.table m → TurnOf start h m a made at begin q event next later memory → (b : ℕ) (d : Doing) → (actor_at (with_actor a (after_turn made begin next later) memory) b).doing ≡ Some d
    → StandsRight (told_if a begin event h) (with_actor a (after_turn made begin next later) memory) b (actor_at (with_actor a (after_turn made begin next later) memory) b).queue d
places_kept start h m a made at begin q later event next memory facts turn b d inside =
    let effect = effect_of turn.inv.cached turn.turn in
    let actors = effect_actors effect in
    let count = (effect_shape effect).count in
    let low : a < length memory.actors = subst (λ (xs : List Actor). a < length xs) (sym actors) turn.low in
    let x : Actor = after_turn made begin next later in
    elim (cases_eq b a) [
      | inl same ↦
          let there : actor_at (with_actor a x memory) b ≡ x = ap (λ n. actor_at (with_actor a x memory) n) same ∙ read_same memory.actors a x idle_actor low in
          subst (λ (y : Actor). StandsRight (told_if a begin event h) (with_actor a x memory) b y.queue d) (sym there)
          (subst (λ n. StandsRight (told_if a begin event h) (with_actor a x memory) n x.queue d) (sym same)
          (own_place start h m a made at begin q later event next memory facts turn count d (sym (ap (λ (y : Actor). y.doing) there) ∙ inside)))
      | inr apart ↦
          let there : actor_at (with_actor a x memory) b ≡ actor_at m b = read_other memory.actors a b x idle_actor apart ∙ ap (λ (xs : List Actor). actor_at (record { actors = xs; groups = m.groups }) b) actors in
          let right = call_of start h m turn.inv b d (sym (ap (λ (y : Actor). y.doing) there) ∙ inside) in
          subst (λ (y : Actor). StandsRight (told_if a begin event h) (with_actor a x memory) b y.queue d) (sym there) (record {
            begun = begun_more h a begin d.«from» event right.begun;
            stands = right.stands;
            group = group_moves m memory (actor_at m b).queue d.call d.place count right.group;
            held = others_held h a b begin event (key_of d.call) apart right.held;
            made = others_held h a b begin event (key_made d.place) apart right.made;
            due_here = right.due_here;
          })
    ]
