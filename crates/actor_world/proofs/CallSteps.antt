-- A whole call makes at most so many steps.
use Rattle.std.proofs.Common.{◌≡◌, ◌<◌, ◌≤◌, ◌+◌, ◌*◌, ℕ, zero, suc, Bool, true, false, List, [], ◌∷◌, Option, None, Some, if◌then◌else◌, length, refl, sym, ap, subst, ◌∙◌, arith}
use Rattle.std.proofs.lemmas.Option.{none-some, same_Some}
use Rattle.std.proofs.lemmas.Bool.{true≢false}
use Rattle.life_table.specs.declared.key.Key.{Key}
use Rattle.life_table.specs.declared.types.Call.{Call}
use Rattle.life_table.specs.declared.types.Call.TheVariants as call
use Rattle.life_table.specs.declared.types.Reply.TheVariants as reply
use Rattle.life_table.specs.declared.types.Event.{Event}
use Rattle.life_table.specs.declared.table.Table.{Table}
use Rattle.life_table.specs.Table.{group_number, row_of}
use Rattle.actor_world.specs.declared.memory.Place.{Place}
use Rattle.actor_world.specs.declared.memory.Place.TheVariants as place
use Rattle.actor_world.specs.declared.memory.Doing.{Doing}
use Rattle.actor_world.specs.declared.memory.Actor.{Actor}
use Rattle.actor_world.specs.declared.memory.Memory.{Memory}
use Rattle.actor_world.specs.Bounds.{call_left, first_pin_left, pin_left, rows_now, steps_in_call}
use Rattle.actor_world.specs.Caches.{actor_at, cached_word, clean_of, idle_actor, same_word, with_actor}
use Rattle.actor_world.specs.Moves.{is_log_call, is_mark_due, links_of, rows_to_free, with_inodes, with_rows_to_free}
use Rattle.actor_world.specs.World.{History, World, beginning}
use Rattle.actor_world.specs.Steps.{DiskFace, Telling}
use Rattle.actor_world.specs.WholeCalls.{IsWholeCall, StepsToEnd}
use Rattle.actor_world.specs.Invariant.{Invariant}
use Rattle.actor_world.proofs.Begins.{begin_kept}
use Rattle.actor_world.proofs.Effects.{effect_actors, effect_of}
use Rattle.actor_world.proofs.Kept.{AllLaws, invariant_kept}
use Rattle.actor_world.proofs.Lists.{read_same}
use Rattle.actor_world.proofs.Sights.{same_word_self}
use Rattle.actor_world.proofs.StepTurns.{TurnOf, stepped, turn_from}
use Rattle.actor_world.proofs.Turns.{Turn, after_turn, changes, copies, ends_flush, ends_reclaim, finds_none, finds_row, frees_head, frees_one, goes_on, grow_refuses, grows, installs, installs_made, is_answered, kills, kills_head, leaves, load_crowded, load_finds, load_pins, load_stale, locked_crowded, locked_installs, locked_pins, locked_stale, locks_change, locks_flush, locks_reclaim, locks_short, makes, makes_none, marks, next_empty, next_none, next_row, passes, passes_last, pin_misses, pin_misses_locked, pins, pins_locked, reads, refuses, retires, retires_none, room_group, unpins}
use Rattle.actor_world.proofs.Within.{within}

rows_left : (u : Table) (m : Memory) (q : List Key) (made : Call) (keys : List Key) → call_left u m q made (with_rows_to_free keys) < 2 * length keys + 4
rows_left u m q made [] = omega arith
rows_left u m q made (key ∷ keys) = omega arith

inodes_left : (u : Table) (m : Memory) (q : List Key) (made : Call) (numbers : List ℕ) → call_left u m q made (with_inodes numbers) < length numbers + 2
inodes_left u m q made [] = omega arith
inodes_left u m q made (number ∷ numbers) = omega arith

first_some : (b : Bool) → 1 ≤ first_pin_left b
first_some true = omega arith
first_some false = omega arith

pin_more : (b : Bool) → 1 < pin_left b
pin_more true = omega arith
pin_more false = omega arith

short_left : (u t : Table) (m memory : Memory) (q : List Key) (made : Call) (g : ℕ) → room_group made ≡ Some g → call_left u memory q made (with_rows_to_free (rows_to_free made g t)) < 2 * rows_now t made + 4
short_left u t m memory q (call.Create h) g is = subst (λ n. call_left u memory q (call.Create h) (with_rows_to_free (rows_to_free (call.Create h) n t)) < 2 * rows_now t (call.Create h) + 4) (same_Some h g is) (rows_left u memory q (call.Create h) _)
short_left u t m memory q (call.Tmpfile h) g is = subst (λ n. call_left u memory q (call.Tmpfile h) (with_rows_to_free (rows_to_free (call.Tmpfile h) n t)) < 2 * rows_now t (call.Tmpfile h) + 4) (same_Some h g is) (rows_left u memory q (call.Tmpfile h) _)
short_left u t m memory q (call.Grow key count) g is = subst (λ n. call_left u memory q (call.Grow key count) (with_rows_to_free (rows_to_free (call.Grow key count) n t)) < 2 * rows_now t (call.Grow key count) + 4) (same_Some (group_number key) g is) (rows_left u memory q (call.Grow key count) _)
short_left u t m memory q _ g is = absurd (none-some g is)

-- each turn after which the call goes on leaves fewer
goes_fewer : {t : Table} {m : Memory} {a : ℕ} {made : Call} {at : Place} {q later : List Key} {event : Option Event} {onward : Place} {memory : Memory} (u : Table)
    → is_log_call made ≡ false → Turn t m a made at q event (Some onward) later memory → call_left u memory later made onward < call_left t m q made at
goes_fewer {m = m} u group (load_pins key inside seen) = let one = ap first_pin_left (same_word_self (cached_word m key.number)) in omega (arith, one)
goes_fewer u group (load_finds key inside) = omega arith
goes_fewer u group (pin_misses key seen differs) = let five = ap first_pin_left differs in omega (arith, five)
goes_fewer u group (finds_none key can is) = omega arith
goes_fewer u group (finds_row key row can is) = omega arith
goes_fewer {m = m} u group (locked_pins key row is seen) = let two = ap pin_left (same_word_self (cached_word m key.number)) in omega (arith, two)
goes_fewer u group (locked_crowded key row is full) = omega arith
goes_fewer u group (locked_stale key row is awaits) = omega arith
goes_fewer u group (locked_installs key row is dead) = omega arith
goes_fewer {m = m} u group (pins_locked key seen o) = pin_more (same_word (cached_word m key.number) seen)
goes_fewer u group (pin_misses_locked key seen row is differs) = let four = ap pin_left differs in omega (arith, four)
goes_fewer u group (installs key dead has) = omega arith
goes_fewer u group (reads key answer can permits) = omega arith
goes_fewer u group (locks_change made key is can) = omega arith
goes_fewer u group (refuses made key answer is permits none) = omega arith
goes_fewer {t = t} {q = q} {memory = memory} u group (changes made key is permits) =
    elim (is_mark_due made reply.Done (links_of (row_of t key))) as (λ b. call_left u memory q made (if b then place.Mark reply.Done else place.Leave reply.Done) < 3) [ true ↦ omega arith | false ↦ omega arith ]
goes_fewer u group (marks made key row answer is due) = omega arith
goes_fewer {t = t} {m = m} {q = q} {memory = memory} u group (locks_short made g is can) = short_left u t m memory q made g is
goes_fewer u group (frees_one made g key others is in_group awaits) = omega arith
goes_fewer {q = q} {memory = memory} u group (kills made g key others is due) = rows_left u memory q made others
goes_fewer u group (grow_refuses key count answer permits none) = omega arith
goes_fewer u group (grows key count permits) = omega arith
goes_fewer u group (makes made g key is permits) = omega arith
goes_fewer u group (makes_none made g is permits) = omega arith
goes_fewer u group (installs_made made g key row is due) = omega arith
goes_fewer u group (next_none key keys can is) = omega arith
goes_fewer u group (next_row key keys row can is) = omega arith
goes_fewer u group (frees_head key keys awaits) = omega arith
goes_fewer u group (kills_head key keys due) = omega arith
goes_fewer u group (passes key onward keys) = omega arith
goes_fewer u group (locks_flush g can) = omega arith
goes_fewer u group (copies g) = omega arith
goes_fewer {m = m} {q = q} {memory = memory} u group (locks_reclaim g can) = inodes_left u memory q (call.Reclaim g) (clean_of m g)
goes_fewer {q = q} {memory = memory} u group (retires g number others idle) = inodes_left u memory q (call.Reclaim g) others
goes_fewer {q = q} {memory = memory} u group (retires_none g number others busy) = inodes_left u memory q (call.Reclaim g) others
goes_fewer u group (goes_on made at onward is stands stands_next) = absurd (true≢false (sym is ∙ group))

-- and one that ends it had one left
ends_some : {t : Table} {m : Memory} {a : ℕ} {made : Call} {at : Place} {q later : List Key} {event : Option Event} {memory : Memory}
    → is_log_call made ≡ false → Turn t m a made at q event None later memory → 1 ≤ call_left t m q made at
ends_some group (load_crowded key row is full) = omega arith
ends_some group (load_stale key is) = omega arith
ends_some {m = m} group (pins key seen o) = first_some (same_word (cached_word m key.number) seen)
ends_some group (leaves made answer g is) = omega arith
ends_some group (unpins key held) = omega arith
ends_some group next_empty = omega arith
ends_some group (passes_last key) = omega arith
ends_some group (ends_flush g) = omega arith
ends_some group (ends_reclaim g) = omega arith
ends_some group (is_answered made at answer is stands permits) = absurd (true≢false (sym is ∙ group))

-- ---- a run

abbrev RunFew : {D : Type 0} → DiskFace D → Telling → Table → ℕ → ℕ → Type 0
RunFew {D} face tells start a n = (w new : World D) (d : Doing) → Invariant tells start w → (actor_at w.memory a).doing ≡ Some d → is_log_call d.call ≡ false → StepsToEnd face tells a n w new
    → n ≤ call_left w.history.table w.memory (actor_at w.memory a).queue d.call d.place

idle_none : {D : Type 0} (face : DiskFace D) (tells : Telling) (a n : ℕ) (w new : World D) → (actor_at w.memory a).doing ≡ None → StepsToEnd face tells a n w new → n ≡ 0
idle_none face tells a zero w new idle steps = refl
idle_none face tells a (suc n) w new idle steps = absurd (none-some steps.1.doing (sym idle ∙ steps.1.inside))

few_next : {D : Type 0} (face : DiskFace D) (tells : Telling) (start : Table) (h : History) (m : Memory) (a n : ℕ) (made : Call) (at : Place) (begin : ℕ) (q later : List Key) (event : Option Event) (next : Option Place) (memory : Memory) (w new : World D)
    → RunFew face tells start a n → Invariant tells start w → is_log_call made ≡ false → TurnOf start h m a made at begin q event next later memory
    → w.memory ≡ with_actor a (after_turn made begin next later) memory → StepsToEnd face tells a n w new → suc n ≤ call_left h.table m q made at
few_next face tells start h m a n made at begin q later event None memory w new on inv group turn memory_is steps =
    let low : a < length memory.actors = subst (λ (xs : List Actor). a < length xs) (sym (effect_actors (effect_of turn.inv.cached turn.turn))) turn.low in
    let idle : (actor_at w.memory a).doing ≡ None = ap (λ (k : Memory). (actor_at k a).doing) memory_is ∙ ap (λ (x : Actor). x.doing) (read_same memory.actors a (after_turn made begin None later) idle_actor low) in
    let none = idle_none face tells a n w new idle steps in
    let some = ends_some group turn.turn in
    omega (arith, none, some)
few_next face tells start h m a n made at begin q later event (Some onward) memory w new on inv group turn memory_is steps =
    let low : a < length memory.actors = subst (λ (xs : List Actor). a < length xs) (sym (effect_actors (effect_of turn.inv.cached turn.turn))) turn.low in
    let x : Actor = after_turn made begin (Some onward) later in
    let there : actor_at w.memory a ≡ x = ap (λ (k : Memory). actor_at k a) memory_is ∙ read_same memory.actors a x idle_actor low in
    let rest : n ≤ call_left w.history.table w.memory (actor_at w.memory a).queue made onward = on w new (record { call = made; place = onward; «from» = begin }) inv (ap (λ (y : Actor). y.doing) there) group steps in
    let moved : n ≤ call_left w.history.table (with_actor a x memory) later made onward =
    subst (λ (k : Memory). n ≤ call_left w.history.table k later made onward) memory_is (subst (λ (y : Actor). n ≤ call_left w.history.table w.memory y.queue made onward) there rest) in
    let fewer : call_left w.history.table (with_actor a x memory) later made onward < call_left h.table m q made at = goes_fewer w.history.table group turn.turn in
    omega (arith, moved, fewer)

run_few : AllLaws → {D : Type 0} (face : DiskFace D) (tells : Telling) (start : Table) (a n : ℕ) → RunFew face tells start a n
run_few all face tells start a zero w new d inv inside group steps = omega arith
run_few all face tells start a (suc n) w new d inv inside group (next, step, steps) =
    let is : step.doing ≡ d = same_Some step.doing d (sym step.inside ∙ inside) in
    let inv_in = within tells start w inv in
    let s = stepped all.laws face tells start a w next inv_in step in
    let e : Doing = step.doing in
    let turn = turn_from start w.history next.history w.memory next.memory inv_in a e step.inside s in
    subst (λ (x : Doing). suc n ≤ call_left w.history.table w.memory (actor_at w.memory a).queue x.call x.place) is
    (few_next face tells start w.history w.memory a n e.call e.place e.«from» (actor_at w.memory a).queue s.later s.event s.next s.memory next new (run_few all face tells start a n)
    (invariant_kept all face tells start a w next inv step) (ap (λ (x : Doing). is_log_call x.call) is ∙ group) turn s.memory_is steps)

pub whole_call_ends : AllLaws → {D : Type 0} (face : DiskFace D) (tells : Telling) (start : Table) (a n : ℕ) (made : Call) (old new : World D) → Invariant tells start old → is_log_call made ≡ false
    → IsWholeCall face tells a made n old new → n ≤ steps_in_call old a made
whole_call_ends all face tells start a n made old new inv group whole =
    let b = whole.begins in
    let d : Doing = beginning made old.history in
    let x : Actor = record { doing = Some d; queue = (actor_at old.memory a).queue } in
    let there : actor_at whole.begun.memory a ≡ x = ap (λ (k : Memory). actor_at k a) b.memory ∙ read_same old.memory.actors a x idle_actor b.actor in
    let few = run_few all face tells start a n whole.begun new d (begin_kept all.laws tells start a made old whole.begun inv b) (ap (λ (y : Actor). y.doing) there) group whole.steps in
    subst (λ (h : History). n ≤ call_left h.table old.memory (actor_at old.memory a).queue made d.place) b.history
    (subst (λ (k : Memory). n ≤ call_left whole.begun.history.table k (actor_at old.memory a).queue made d.place) b.memory
    (subst (λ (y : Actor). n ≤ call_left whole.begun.history.table whole.begun.memory y.queue made d.place) there few))
