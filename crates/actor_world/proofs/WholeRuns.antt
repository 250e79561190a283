-- A whole call comes to what whole lines say.
use Rattle.std.proofs.Common.{◌≡◌, ◌<◌, ◌+◌, ◌++◌, ℕ, zero, suc, true, false, List, [], ◌∷◌, Option, None, Some, if◌then◌else◌, length, map, slice_index_or, slice_set, refl, sym, ap, subst, ◌∙◌, arith}
use Rattle.std.proofs.lemmas.List.{get_or-map, length-map, map-set, set-get_or}
use Rattle.std.proofs.lemmas.Option.{none-some, same_Some}
use Rattle.std.proofs.lemmas.Bool.{true≢false}
use Rattle.life_table.specs.declared.key.Key.{Key}
use Rattle.life_table.specs.declared.types.Call.{Call}
use Rattle.life_table.specs.declared.types.Call.TheVariants as call
use Rattle.life_table.specs.declared.types.Reply.{Reply}
use Rattle.life_table.specs.declared.types.Event.{Event}
use Rattle.life_table.specs.declared.types.Entry.{Entry}
use Rattle.life_table.specs.declared.table.Table.{Table}
use Rattle.life_table.specs.Legal.{CanMake, IsOfTable, Legal, after_call}
use Rattle.life_table.specs.Replies.{reply_of}
use Rattle.life_table.specs.History.{IsHeld, changes, is_change, key_of}
use Rattle.actor_world.specs.declared.memory.Place.{Place}
use Rattle.actor_world.specs.declared.memory.Doing.{Doing}
use Rattle.actor_world.specs.declared.memory.Actor.{Actor}
use Rattle.actor_world.specs.declared.memory.Memory.{Memory}
use Rattle.actor_world.specs.Caches.{actor_at, idle_actor, with_actor}
use Rattle.actor_world.specs.Moves.{first_place, is_log_call, stands_at}
use Rattle.actor_world.specs.World.{History, IsBegun, World, beginning, told_if}
use Rattle.actor_world.specs.Steps.{DiskFace, Telling}
use Rattle.actor_world.specs.Words.{due_at, due_number}
use Rattle.actor_world.specs.Lines.{LineResult, LinesState, line}
use Rattle.actor_world.specs.WholeCalls.{IsWholeCall, StepsToEnd, lines_state}
use Rattle.actor_world.specs.Invariant.{CallIsRight, GroupIsThere, HasEntry, Invariant, due_of_actor, first_key, reply_at}
use Rattle.actor_world.proofs.Begins.{begin_kept}
use Rattle.actor_world.proofs.EachTurn.{in_call}
use Rattle.actor_world.proofs.Effects.{effect_actors, effect_of}
use Rattle.actor_world.proofs.EntrySteps.{EndTurn, Gets, Had, end_turn, entry_made}
use Rattle.actor_world.proofs.Kept.{AllLaws, invariant_kept, own_line}
use Rattle.actor_world.proofs.Lists.{read_same}
use Rattle.actor_world.proofs.Queues.{last_release}
use Rattle.actor_world.proofs.StepTurns.{TurnOf, close_due_not, stepped, turn_from}
use Rattle.actor_world.proofs.Turns.{after_turn}
use Rattle.actor_world.proofs.TurnsFound.{Laws}
use Rattle.actor_world.proofs.WholeLines.{LineFacts, changes_after, ends_rest, goes_rest, lines_after, lines_at, permits_of, reply_in, rest}
use Rattle.actor_world.proofs.Within.{Within, within}
use Rattle.actor_world.proofs.WordsKept.{told_table}

-- a call has one reply
abbrev pub OneReply : Type 0
OneReply = (t u v : Table) (called : Call) (first second : Reply) → IsOfTable called → Legal t called first u → Legal t called second v → (first ≡ second) × (u ≡ v)

of_table : (made : Call) → is_log_call made ≡ false → IsOfTable made
of_table call.Sync group = absurd (true≢false group)
of_table call.Home group = absurd (true≢false group)
of_table _ group = tt

can_make : Laws → (start : Table) (h : History) (m : Memory) (a : ℕ) (q : List Key) (made : Call) (at : Place) → Within start h m → GroupIsThere m q made at → IsHeld h.entries a (key_of made) → CanMake h.table made
can_make laws start h m a q (call.Create g) at inv there held = subst (λ n. g < n) inv.shaped.groups there
can_make laws start h m a q (call.Tmpfile g) at inv there held = subst (λ n. g < n) inv.shaped.groups there
can_make laws start h m a q (call.CloseKey key) at inv there held = laws.held start h.table h.entries a key inv.table inv.legal held
can_make laws start h m a q (call.Link key) at inv there held = laws.held start h.table h.entries a key inv.table inv.legal held
can_make laws start h m a q (call.Unlink key) at inv there held = laws.held start h.table h.entries a key inv.table inv.legal held
can_make laws start h m a q (call.Grow key count) at inv there held = laws.held start h.table h.entries a key inv.table inv.legal held
can_make laws start h m a q (call.Cut key count) at inv there held = laws.held start h.table h.entries a key inv.table inv.legal held
can_make laws start h m a q (call.Stat key) at inv there held = laws.held start h.table h.entries a key inv.table inv.legal held
can_make laws start h m a q _ at inv there held = tt

queues_of : Memory → List (List Key)
queues_of m = map (λ (actor : Actor). actor.queue) m.actors

abbrev pub lines_in : History → Memory → LinesState
lines_in h m = lines_at h.table (map (λ (actor : Actor). actor.queue) m.actors) (length (changes h.entries))

line_facts : AllLaws → OneReply → (start : Table) (h : History) (m : Memory) (a : ℕ) (made : Call) (at : Place) (begin : ℕ) (q : List Key) → Within start h m
    → actor_at m a ≡ in_call made at begin q → a < length m.actors → CallIsRight start h m a q (record { call = made; place = at; «from» = begin }) → is_log_call made ≡ false
    → LineFacts h.table m (map (λ (actor : Actor). actor.queue) m.actors) a made q
line_facts all one start h m a made at begin q inv actor_is low right group = record {
  low = subst (λ n. a < n) (sym (length-map m.actors (λ (actor : Actor). actor.queue))) low;
  queue = get_or-map (λ (actor : Actor). actor.queue) m.actors a idle_actor [] low ∙ ap (λ (x : Actor). x.queue) actor_is;
  group_call = group;
  one = λ answer permits.
      (one h.table (after_call h.table made (reply_of h.table made)) (after_call h.table made answer) made (reply_of h.table made) answer (of_table made group)
      (all.laws.computed h.table made (of_table made group) (can_make all.laws start h m a q made at inv right.group right.held), refl) (permits, refl)).0;
  last = λ key is held.
      last_release all.laws start h m inv a key held (subst (λ c. IsHeld h.entries a (key_of c)) is right.held)
      (ap (λ (x : Actor). due_number (due_of_actor x)) actor_is ∙ ap (λ c. due_number (due_at (first_key q) c at)) is
      ∙ ap due_number (close_due_not (first_key q) key at (subst (λ c. stands_at c at ≡ true) is right.stands)));
}

pub changes_push : (entries : List Entry) (entry : Entry) → length (changes (entries ++ entry ∷ [])) ≡ length (changes entries) + (if is_change entry.event then 1 else 0)
changes_push [] entry = elim (is_change entry.event) as (λ b. length (if b then entry ∷ [] else []) ≡ 0 + (if b then 1 else 0)) [ true ↦ omega arith | false ↦ omega arith ]
changes_push (first ∷ entries) entry =
    let more = changes_push entries entry in
    elim (is_change first.event) as (λ b. length (if b then first ∷ changes (entries ++ entry ∷ []) else changes (entries ++ entry ∷ [])) ≡ length (if b then first ∷ changes entries else changes entries) + (if is_change entry.event then 1 else 0)) [
      | true ↦ omega (arith, more)
      | false ↦ more
    ]

pub changes_told : (h : History) (a begin : ℕ) (event : Option Event) → length (changes (told_if a begin event h).entries) ≡ changes_after (length (changes h.entries)) event
changes_told h a begin None = refl
changes_told h a begin (Some event) = changes_push h.entries (record { actor = a; event = event })

lines_told : (h : History) (m : Memory) (a : ℕ) (made : Call) (begin : ℕ) (later : List Key) (event : Option Event) (next : Option Place) (memory : Memory) → memory.actors ≡ m.actors
    → lines_in (told_if a begin event h) (with_actor a (after_turn made begin next later) memory) ≡ lines_after h.table (map (λ (actor : Actor). actor.queue) m.actors) (length (changes h.entries)) a event later
lines_told h m a made begin later event next memory actors =
    let x : Actor = after_turn made begin next later in
    let queues : map (λ (actor : Actor). actor.queue) (slice_set memory.actors a x) ≡ slice_set (map (λ (actor : Actor). actor.queue) m.actors) a later =
    map-set (λ (actor : Actor). actor.queue) memory.actors a x ∙ ap (λ (xs : List Actor). slice_set (map (λ (actor : Actor). actor.queue) xs) a x.queue) actors
    ∙ ap (λ ks. slice_set (map (λ (actor : Actor). actor.queue) m.actors) a ks) (own_line made begin next later) in
    (λ i. lines_at (sym (told_table h a begin event) i) (queues i) (changes_told h a begin event i))

-- ---- a run

record LineEnd {D : Type 0} (a begin : ℕ) (made : Call) (r : LineResult) (new : World D) : Type 0 where
  entry : HasEntry new.history.entries new.history.froms a begin made (Some r.reply)
  state : lines_state new ≡ r.state

whole_entry : (h : History) (a : ℕ) (made : Call) (begin : ℕ) (was : Option Reply) (event : Option Event) → length h.froms ≡ length h.entries → (e : EndTurn made was event) → HasEntry h.entries h.froms a begin made was
    → HasEntry (told_if a begin event h).entries (told_if a begin event h).froms a begin made (Some (reply_in e))
whole_entry h a made begin was None long (Had answer is) has = subst (λ (o : Option Reply). HasEntry h.entries h.froms a begin made o) is has
whole_entry h a made begin was _ long (Gets answer none) has =
    entry_made h.entries h.froms a begin made answer long (subst (λ (o : Option Reply). HasEntry h.entries h.froms a begin made o) none has)

line_end : {D : Type 0} (start : Table) (h : History) (m : Memory) (a : ℕ) (made : Call) (at : Place) (begin : ℕ) (q later : List Key) (event : Option Event) (memory : Memory) (new : World D)
    → (turn : TurnOf start h m a made at begin q event None later memory) → LineFacts h.table m (map (λ (actor : Actor). actor.queue) m.actors) a made q
    → new.history ≡ told_if a begin event h → new.memory ≡ with_actor a (after_turn made begin None later) memory → LineEnd a begin made (rest a made at (lines_in h m)) new
line_end {D = D} start h m a made at begin q later event memory new turn facts history_is memory_is =
    let e = end_turn turn.turn in
    let same = ends_rest (map (λ (actor : Actor). actor.queue) m.actors) (length (changes h.entries)) facts (permits_of turn.turn) turn.turn in
    record {
      entry = subst (λ (g : History). HasEntry g.entries g.froms a begin made (Some (rest a made at (lines_in h m)).reply)) (sym history_is)
          (subst (λ (r : LineResult). HasEntry (told_if a begin event h).entries (told_if a begin event h).froms a begin made (Some r.reply)) same
          (whole_entry h a made begin (reply_at at) event turn.inv.intervals.length_is e turn.right.entry));
      state = (λ i. lines_in (history_is i) (memory_is i)) ∙ lines_told h m a made begin later event None memory (effect_actors (effect_of turn.inv.cached turn.turn)) ∙ ap (λ (r : LineResult). r.state) same;
    }

line_on : {D : Type 0} (start : Table) (h : History) (m : Memory) (a : ℕ) (made : Call) (at : Place) (begin : ℕ) (q later : List Key) (event : Option Event) (onward : Place) (memory : Memory) (next new : World D)
    → TurnOf start h m a made at begin q event (Some onward) later memory → LineFacts h.table m (map (λ (actor : Actor). actor.queue) m.actors) a made q
    → next.history ≡ told_if a begin event h → next.memory ≡ with_actor a (after_turn made begin (Some onward) later) memory
    → LineEnd a begin made (rest a made onward (lines_state next)) new → LineEnd a begin made (rest a made at (lines_in h m)) new
line_on {D = D} start h m a made at begin q later event onward memory next new turn facts history_is memory_is end =
    let same = goes_rest (map (λ (actor : Actor). actor.queue) m.actors) (length (changes h.entries)) facts (permits_of turn.turn) turn.turn in
    let lines : lines_state next ≡ lines_after h.table (map (λ (actor : Actor). actor.queue) m.actors) (length (changes h.entries)) a event later =
    (λ i. lines_in (history_is i) (memory_is i)) ∙ lines_told h m a made begin later event (Some onward) memory (effect_actors (effect_of turn.inv.cached turn.turn)) in
    subst (λ r. LineEnd a begin made r new) (ap (λ s. rest a made onward s) lines ∙ same) end

-- what the steps from a world on come to
abbrev RunEnds : {D : Type 0} → DiskFace D → Telling → Table → ℕ → ℕ → Type 0
RunEnds {D} face tells start a n = (w new : World D) (d : Doing) → Invariant tells start w → (actor_at w.memory a).doing ≡ Some d → is_log_call d.call ≡ false → StepsToEnd face tells a n w new
    → LineEnd a d.«from» d.call (rest a d.call d.place (lines_state w)) new

pub idle_ends : {D : Type 0} (face : DiskFace D) (tells : Telling) (a n : ℕ) (w new : World D) → (actor_at w.memory a).doing ≡ None → StepsToEnd face tells a n w new → new ≡ w
idle_ends face tells a zero w new idle steps = steps.1
idle_ends face tells a (suc n) w new idle steps = absurd (none-some steps.1.doing (sym idle ∙ steps.1.inside))

by_next : {D : Type 0} (face : DiskFace D) (tells : Telling) (start : Table) (h : History) (m : Memory) (a n : ℕ) (made : Call) (at : Place) (begin : ℕ) (q later : List Key) (event : Option Event) (next : Option Place) (memory : Memory) (w new : World D)
    → RunEnds face tells start a n → Invariant tells start w → is_log_call made ≡ false → TurnOf start h m a made at begin q event next later memory → LineFacts h.table m (map (λ (actor : Actor). actor.queue) m.actors) a made q
    → w.history ≡ told_if a begin event h → w.memory ≡ with_actor a (after_turn made begin next later) memory → StepsToEnd face tells a n w new → LineEnd a begin made (rest a made at (lines_in h m)) new
by_next {D = D} face tells start h m a n made at begin q later event None memory w new on inv group turn facts history_is memory_is steps =
    let low : a < length memory.actors = subst (λ (xs : List Actor). a < length xs) (sym (effect_actors (effect_of turn.inv.cached turn.turn))) turn.low in
    let idle : (actor_at w.memory a).doing ≡ None = ap (λ (k : Memory). (actor_at k a).doing) memory_is ∙ ap (λ (x : Actor). x.doing) (read_same memory.actors a (after_turn made begin None later) idle_actor low) in
    subst (LineEnd a begin made (rest a made at (lines_in h m))) (sym (idle_ends face tells a n w new idle steps))
    (line_end start h m a made at begin q later event memory w turn facts history_is memory_is)
by_next {D = D} face tells start h m a n made at begin q later event (Some onward) memory w new on inv group turn facts history_is memory_is steps =
    let low : a < length memory.actors = subst (λ (xs : List Actor). a < length xs) (sym (effect_actors (effect_of turn.inv.cached turn.turn))) turn.low in
    let inside : (actor_at w.memory a).doing ≡ Some (record { call = made; place = onward; «from» = begin }) =
    ap (λ (k : Memory). (actor_at k a).doing) memory_is ∙ ap (λ (x : Actor). x.doing) (read_same memory.actors a (after_turn made begin (Some onward) later) idle_actor low) in
    line_on start h m a made at begin q later event onward memory w new turn facts history_is memory_is (on w new _ inv inside group steps)

run_ends : AllLaws → OneReply → {D : Type 0} (face : DiskFace D) (tells : Telling) (start : Table) (a n : ℕ) → RunEnds face tells start a n
run_ends all one face tells start a zero w new d inv inside group steps = absurd (none-some d (sym steps.0 ∙ inside))
run_ends all one face tells start a (suc n) w new d inv inside group (next, step, steps) =
    let is : step.doing ≡ d = same_Some step.doing d (sym step.inside ∙ inside) in
    let inv_in = within tells start w inv in
    let s = stepped all.laws face tells start a w next inv_in step in
    let e : Doing = step.doing in
    let turn = turn_from start w.history next.history w.memory next.memory inv_in a e step.inside s in
    let free : is_log_call e.call ≡ false = ap (λ (x : Doing). is_log_call x.call) is ∙ group in
    let facts = line_facts all one start w.history w.memory a e.call e.place e.«from» (actor_at w.memory a).queue inv_in turn.actor_is turn.low turn.right free in
    subst (λ (x : Doing). LineEnd a x.«from» x.call (rest a x.call x.place (lines_state w)) new) is
    (by_next face tells start w.history w.memory a n e.call e.place e.«from» (actor_at w.memory a).queue s.later s.event s.next s.memory next new (run_ends all one face tells start a n)
    (invariant_kept all face tells start a w next inv step) free turn facts s.history_is s.memory_is steps)

-- ---- a whole call

first_rest : (a : ℕ) (made : Call) (s : LinesState) → is_log_call made ≡ false → rest a made (first_place made) s ≡ line a made s
first_rest a (call.Create g) s group = refl
first_rest a (call.Tmpfile g) s group = refl
first_rest a (call.OpenKey key) s group = refl
first_rest a (call.CloseKey key) s group = refl
first_rest a (call.Link key) s group = refl
first_rest a (call.Unlink key) s group = refl
first_rest a (call.Grow key count) s group = refl
first_rest a (call.Cut key count) s group = refl
first_rest a (call.Stat key) s group = refl
first_rest a call.Sync s group = absurd (true≢false group)
first_rest a call.Home s group = absurd (true≢false group)
first_rest a call.Gc s group = refl
first_rest a (call.FlushInodes g) s group = refl
first_rest a (call.Reclaim g) s group = refl

pub begun_lines : {D : Type 0} (a : ℕ) (made : Call) (old new : World D) → IsBegun a made old new → lines_state new ≡ lines_state old
begun_lines a made old new b =
    let x : Actor = record { doing = Some (beginning made old.history); queue = (actor_at old.memory a).queue } in
    let queue : (λ (actor : Actor). actor.queue) (actor_at old.memory a) ≡ slice_index_or (map (λ (actor : Actor). actor.queue) old.memory.actors) a [] =
    sym (get_or-map (λ (actor : Actor). actor.queue) old.memory.actors a idle_actor [] b.actor) in
    let queues : map (λ (actor : Actor). actor.queue) (slice_set old.memory.actors a x) ≡ map (λ (actor : Actor). actor.queue) old.memory.actors =
    map-set (λ (actor : Actor). actor.queue) old.memory.actors a x ∙ ap (λ ks. slice_set (map (λ (actor : Actor). actor.queue) old.memory.actors) a ks) queue
    ∙ set-get_or (map (λ (actor : Actor). actor.queue) old.memory.actors) a [] in
    (λ i. lines_in (b.history i) (b.memory i)) ∙ (λ i. lines_at old.history.table (queues i) (length (changes old.history.entries)))

pub whole_call : AllLaws → OneReply → {D : Type 0} (face : DiskFace D) (tells : Telling) (start : Table) (a n : ℕ) (made : Call) (old new : World D) → Invariant tells start old → is_log_call made ≡ false
    → IsWholeCall face tells a made n old new
    → HasEntry new.history.entries new.history.froms a (length old.history.entries) made (Some (line a made (lines_state old)).reply) × (lines_state new ≡ (line a made (lines_state old)).state)
whole_call all one face tells start a n made old new inv group whole =
    let b = whole.begins in
    let d : Doing = beginning made old.history in
    let x : Actor = record { doing = Some d; queue = (actor_at old.memory a).queue } in
    let inside : (actor_at whole.begun.memory a).doing ≡ Some d = ap (λ (k : Memory). (actor_at k a).doing) b.memory ∙ ap (λ (y : Actor). y.doing) (read_same old.memory.actors a x idle_actor b.actor) in
    let end = run_ends all one face tells start a n whole.begun new d (begin_kept all.laws tells start a made old whole.begun inv b) inside group whole.steps in
    let same : rest a made (first_place made) (lines_state whole.begun) ≡ line a made (lines_state old) = ap (λ s. rest a made (first_place made) s) (begun_lines a made old whole.begun b) ∙ first_rest a made (lines_state old) group in (
      subst (λ (r : LineResult). HasEntry new.history.entries new.history.froms a (length old.history.entries) made (Some r.reply)) same end.entry,
      end.state ∙ ap (λ (r : LineResult). r.state) same,
    )
