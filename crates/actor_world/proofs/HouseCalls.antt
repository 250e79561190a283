-- What whole flushes and reclaims leave.
use Rattle.std.proofs.Common.{◌≡◌, ◌≢◌, ◌<◌, ◌≤◌, ◌+◌, ◌*◌, ◌%◌, ◌/◌, ◌==◌, ◌&&◌, ◌⊎◌, inl, inr, ℕ, zero, suc, Bool, true, false, not, List, [], ◌∷◌, Option, None, Some, if◌then◌else◌, length, slice_index_or, refl, sym, ap, subst, ◌∙◌, arith}
use Rattle.std.specs.List.{Contains}
use Rattle.std.proofs.lemmas.Option.{none-some, same_Some}
use Rattle.std.proofs.lemmas.Bool.{and_parts, cases_eq, eq-eqb, false≢true, true≢false}
use Rattle.life_limits.specs.declared.TheConstants.{GROUP_NUMBERS}
use Rattle.life_table.specs.declared.key.Key.{Key}
use Rattle.life_table.specs.declared.types.Call.{Call}
use Rattle.life_table.specs.declared.types.Call.TheVariants as call
use Rattle.life_table.specs.declared.types.Reply.{Reply}
use Rattle.life_table.specs.declared.types.Reply.TheVariants as reply
use Rattle.life_table.specs.declared.types.Event.{Event}
use Rattle.life_table.specs.declared.table.Table.{Table}
use Rattle.life_table.specs.Table.{row_of}
use Rattle.slot_words.specs.declared.word.Word.{Word}
use Rattle.slot_words.specs.Steps.{is_idle}
use Rattle.actor_world.specs.declared.memory.Place.{Place}
use Rattle.actor_world.specs.declared.memory.Place.TheVariants as place
use Rattle.actor_world.specs.declared.memory.Residence.{Residence}
use Rattle.actor_world.specs.declared.memory.Residence.TheVariants.{Absent, Clean, Dirty}
use Rattle.actor_world.specs.declared.memory.Slot.{Slot}
use Rattle.actor_world.specs.declared.memory.GroupCache.{GroupCache}
use Rattle.actor_world.specs.declared.memory.Doing.{Doing}
use Rattle.actor_world.specs.declared.memory.Actor.{Actor}
use Rattle.actor_world.specs.declared.memory.Memory.{Memory}
use Rattle.actor_world.specs.Caches.{actor_at, cache_at, cached_word, clean_numbers, clean_of, copied, copy_all, copied_slot, first_slot, idle_actor, is_clean, locked, slot_at, unlocked, with_actor, with_slot}
use Rattle.actor_world.specs.Houses.{HasNoDirty, IsKept, IsReclaimed}
use Rattle.actor_world.specs.Moves.{first_place, is_log_call, is_mark_due, links_of, stands_at, with_inodes, with_rows_to_free, rows_to_free}
use Rattle.actor_world.specs.World.{History, World, beginning}
use Rattle.actor_world.specs.Steps.{DiskFace, Telling}
use Rattle.actor_world.specs.WholeCalls.{IsWholeCall, StepsToEnd}
use Rattle.actor_world.specs.Invariant.{GroupIsThere, Invariant}
use Rattle.actor_world.proofs.Begins.{begin_kept}
use Rattle.actor_world.proofs.Effects.{effect_actors, effect_of, read_copied, slots_stay}
use Rattle.actor_world.proofs.Kept.{AllLaws, invariant_kept}
use Rattle.actor_world.proofs.Lists.{contains_cons, contains_tail, read_same}
use Rattle.actor_world.proofs.Slots.{cache_same, live_has_slot, slot_other, slot_same}
use Rattle.actor_world.proofs.StepTurns.{TurnOf, stepped, turn_from}
use Rattle.actor_world.proofs.Turns.{Turn, after_turn, changes, copies, ends_flush, ends_reclaim, goes_on, is_answered, kills, leaves, locks_reclaim, locks_short, retires, retires_none}
use Rattle.actor_world.proofs.Within.{within}
use Rattle.actor_world.proofs.WholeRuns.{idle_ends}

-- each live word of a group is kept, or is still to be looked at
abbrev pub Looked : Memory → ℕ → List ℕ → Type 0
Looked m g left = (n : ℕ) → n / GROUP_NUMBERS ≡ g → (cached_word m n).live ≡ true → Contains left n ⊎ IsKept m n

abbrev RetireKeeps : Call → Memory → List ℕ → Type 0
RetireKeeps (call.Reclaim g) m left = Looked m g left
RetireKeeps _ m left = Unit {0}

abbrev EndKeeps : Call → Memory → Type 0
EndKeeps (call.FlushInodes g) m = HasNoDirty m g
EndKeeps (call.Reclaim g) m = Looked m g []
EndKeeps _ m = Unit {0}

-- what is so at a place where no other actor stepped since the call began
abbrev HouseKeeps : Call → Place → Memory → Type 0
HouseKeeps made (place.Retire number others) m = RetireKeeps made m (number ∷ others)
HouseKeeps made place.End m = EndKeeps made m
HouseKeeps made _ m = Unit {0}

-- ---- a flush

copied_not : (inode : Residence) → copied inode ≡ Dirty → ⊥
copied_not Absent is = let clash : Absent ≡ Dirty = is in cc
copied_not Clean is = let clash : Clean ≡ Dirty = is in cc
copied_not Dirty is = let clash : Clean ≡ Dirty = is in cc

copied_all : (m : Memory) (g : ℕ) → g < length m.groups → HasNoDirty (copy_all g m) g
copied_all m g low number inside dirty =
    let there : slot_at (copy_all g m) number ≡ copied_slot (slice_index_or (cache_at m g).slots (number % GROUP_NUMBERS) first_slot) =
    ap (λ h. slice_index_or (cache_at (copy_all g m) h).slots (number % GROUP_NUMBERS) first_slot) inside
    ∙ ap (λ (c : GroupCache). slice_index_or c.slots (number % GROUP_NUMBERS) first_slot) (cache_same m g _ low)
    ∙ read_copied (cache_at m g).slots (number % GROUP_NUMBERS) in
    copied_not (slice_index_or (cache_at m g).slots (number % GROUP_NUMBERS) first_slot).inode (sym (ap (λ (s : Slot). s.inode) there) ∙ dirty)

-- ---- a reclaim

clean_has : (number : ℕ) (slots : List Slot) (i : ℕ) → i < length slots → (slice_index_or slots i first_slot).inode ≡ Clean → Contains (clean_numbers number slots) (number + i)
unfolding clean_numbers
clean_has number [] i low clean = absurd (omega (arith, low))
clean_has number (slot ∷ slots) zero low clean =
    subst (λ n. Contains (if is_clean slot.inode then number ∷ clean_numbers (number + 1) slots else clean_numbers (number + 1) slots) n) (omega arith)
    (subst (λ (b : Bool). Contains (if b then number ∷ clean_numbers (number + 1) slots else clean_numbers (number + 1) slots) number) (sym (ap is_clean clean)) (zero, omega arith, refl))
clean_has number (slot ∷ slots) (suc i) low clean =
    let more : Contains (clean_numbers (number + 1) slots) (number + suc i) = subst (λ n. Contains (clean_numbers (number + 1) slots) n) (omega arith) (clean_has (number + 1) slots i (omega (arith, low)) clean) in
    elim (is_clean slot.inode) as (λ b. Contains (if b then number ∷ clean_numbers (number + 1) slots else clean_numbers (number + 1) slots) (number + suc i)) [
      | true ↦ contains_cons number (clean_numbers (number + 1) slots) (number + suc i) more
      | false ↦ more
    ]

looked_now : (m : Memory) (a g : ℕ) → ((n : ℕ) → (cached_word m n).live ≡ true → (slot_at m n).inode ≡ Absent → ⊥) → Looked (locked a g m) g (clean_of m g)
looked_now m a g core n inside live =
    let same = slots_stay m g (Some a) n in
    let live_there : (cached_word m n).live ≡ true = sym (ap (λ (s : Slot). s.word.live) same) ∙ live in
    let has = live_has_slot m n live_there in
    let low : n % GROUP_NUMBERS < length (cache_at m g).slots = subst (λ h. n % GROUP_NUMBERS < length (cache_at m h).slots) inside has.slot in
    let number : g * GROUP_NUMBERS + n % GROUP_NUMBERS ≡ n = omega (arith, inside) in
    elim (slot_at m n).inode as (λ inode. (slot_at m n).inode ≡ inode → Contains (clean_of m g) n ⊎ IsKept (locked a g m) n) [
      | Absent ↦ λ is. absurd (core n live_there is)
      | Clean ↦ λ is. inl (subst (λ k. Contains (clean_of m g) k) number (clean_has (g * GROUP_NUMBERS) (cache_at m g).slots (n % GROUP_NUMBERS) low (ap (λ h. (slice_index_or (cache_at m h).slots (n % GROUP_NUMBERS) first_slot).inode) (sym inside) ∙ is)))
      | Dirty ↦ λ is. inr (inr (inr (ap (λ (s : Slot). s.inode) same ∙ is)))
    ] refl

looked_on : (m memory : Memory) (n number : ℕ) (others : List ℕ) → n ≢ number → slot_at memory n ≡ slot_at m n → Contains (number ∷ others) n ⊎ IsKept m n → Contains others n ⊎ IsKept memory n
looked_on m memory n number others apart same (inl there) = inl (contains_tail number others n apart there)
looked_on m memory n number others apart same (inr (inl pins)) = inr (inl (subst (λ (s : Slot). 1 ≤ s.word.pins) (sym same) pins))
looked_on m memory n number others apart same (inr (inr (inl mark))) = inr (inr (inl (ap (λ (s : Slot). s.word.unlinked) same ∙ mark)))
looked_on m memory n number others apart same (inr (inr (inr dirty))) = inr (inr (inr (ap (λ (s : Slot). s.inode) same ∙ dirty)))

idle_live : (word : Word) → is_idle word ≡ true → word.live ≡ true
idle_live word idle = (and_parts word.live (not word.unlinked) (and_parts (word.live && not word.unlinked) (word.pins == 0) idle).0).0

retired_looked : (m : Memory) (g number : ℕ) (others : List ℕ) → is_idle (cached_word m number) ≡ true → Looked m g (number ∷ others)
    → Looked (with_slot number (record { word = record (cached_word m number) { live = false }; inode = Absent }) m) g others
retired_looked m g number others idle looked n inside live =
    elim (cases_eq n number) [
      | inl same ↦
          let put = slot_same m number (record { word = record (cached_word m number) { live = false }; inode = Absent }) (live_has_slot m number (idle_live (cached_word m number) idle)) in
          absurd (false≢true (sym (ap (λ (s : Slot). s.word.live) put) ∙ ap (λ k. (cached_word (with_slot number (record { word = record (cached_word m number) { live = false }; inode = Absent }) m) k).live) (sym same) ∙ live))
      | inr apart ↦
          let there = slot_other m number n (record { word = record (cached_word m number) { live = false }; inode = Absent }) apart in
          looked_on m (with_slot number (record { word = record (cached_word m number) { live = false }; inode = Absent }) m) n number others apart there (looked n inside (sym (ap (λ (s : Slot). s.word.live) there) ∙ live))
    ]

busy_kept : (m : Memory) (number : ℕ) → (cached_word m number).live ≡ true → is_idle (cached_word m number) ≡ false → IsKept m number
busy_kept m number live busy =
    elim (cached_word m number).unlinked as (λ b. (cached_word m number).unlinked ≡ b → IsKept m number) [
      | true ↦ λ mark. inr (inl mark)
      | false ↦ λ mark.
          elim (cases_eq (cached_word m number).pins 0) [
            | inl none ↦
                let pins : ((cached_word m number).pins == 0) ≡ true = eq-eqb (cached_word m number).pins 0 none in
                let idle : is_idle (cached_word m number) ≡ true = rw (live, mark, pins) in
                absurd (true≢false (sym idle ∙ busy))
            | inr some ↦ inl (omega (arith, some))
          ]
    ] refl

busy_looked : (m : Memory) (g number : ℕ) (others : List ℕ) → is_idle (cached_word m number) ≡ false → Looked m g (number ∷ others) → Looked m g others
busy_looked m g number others busy looked n inside live =
    elim (cases_eq n number) [
      | inl same ↦ inr (subst (λ k. IsKept m k) (sym same) (busy_kept m number (ap (λ k. (cached_word m k).live) (sym same) ∙ live) busy))
      | inr apart ↦ looked_on m m n number others apart refl (looked n inside live)
    ]

-- ---- a turn

rows_house : (made : Call) (m : Memory) (keys : List Key) → HouseKeeps made (with_rows_to_free keys) m
rows_house made m [] = tt
rows_house made m (key ∷ keys) = tt

inodes_house : (g : ℕ) (m : Memory) (numbers : List ℕ) → Looked m g numbers → HouseKeeps (call.Reclaim g) (with_inodes numbers) m
inodes_house g m [] looked = looked
inodes_house g m (number ∷ numbers) looked = looked

house_on : {t : Table} {m : Memory} {a : ℕ} {made : Call} {at : Place} {q later : List Key} {event : Option Event} {onward : Place} {memory : Memory}
    → is_log_call made ≡ false → ((n : ℕ) → (cached_word m n).live ≡ true → (slot_at m n).inode ≡ Absent → ⊥) → ((g : ℕ) → made ≡ call.FlushInodes g → g < length m.groups)
    → HouseKeeps made at m → Turn t m a made at q event (Some onward) later memory → HouseKeeps made onward memory
house_on {m = m} group core there keeps (copies g) = copied_all m g (there g refl)
house_on {m = m} {a = a} group core there keeps (locks_reclaim g can) = inodes_house g (locked a g m) (clean_of m g) (looked_now m a g core)
house_on {m = m} {memory = memory} group core there keeps (retires g number others idle) = inodes_house g memory others (retired_looked m g number others idle keeps)
house_on {m = m} group core there keeps (retires_none g number others busy) = inodes_house g m others (busy_looked m g number others busy keeps)
house_on {t = t} {memory = memory} group core there keeps (changes made key is permits) =
    elim (is_mark_due made reply.Done (links_of (row_of t key))) as (λ b. HouseKeeps made (if b then place.Mark reply.Done else place.Leave reply.Done) memory) [ true ↦ tt | false ↦ tt ]
house_on {t = t} {memory = memory} group core there keeps (locks_short made g is can) = rows_house made memory (rows_to_free made g t)
house_on {memory = memory} group core there keeps (kills made g key others is due) = rows_house made memory others
house_on group core there keeps (goes_on made at onward is stands stands_next) = absurd (true≢false (sym is ∙ group))
house_on group core there keeps _ = tt

leave_house : (made : Call) (answer : Reply) (m : Memory) → stands_at made (place.Leave answer) ≡ true → EndKeeps made m
leave_house (call.FlushInodes g) answer m stands = absurd (false≢true stands)
leave_house (call.Reclaim g) answer m stands = absurd (false≢true stands)
leave_house _ answer m stands = tt

unlocked_flushed : (m : Memory) (g : ℕ) → HasNoDirty m g → HasNoDirty (unlocked g m) g
unlocked_flushed m g flushed number inside dirty = flushed number inside (sym (ap (λ (s : Slot). s.inode) (slots_stay m g None number)) ∙ dirty)

unlocked_looked : (m : Memory) (g : ℕ) → Looked m g [] → Looked (unlocked g m) g []
unlocked_looked m g looked n inside live =
    let same = slots_stay m g None n in
    elim (looked n inside (sym (ap (λ (s : Slot). s.word.live) same) ∙ live)) [
      | inl none ↦ let low = none.1 in absurd (omega (arith, low))
      | inr kept ↦ looked_on m (unlocked g m) n (suc n) [] (λ e. omega (arith, e)) same (inr kept)
    ]

house_end : {t : Table} {m : Memory} {a : ℕ} {made : Call} {at : Place} {q later : List Key} {event : Option Event} {memory : Memory}
    → is_log_call made ≡ false → stands_at made at ≡ true → HouseKeeps made at m → Turn t m a made at q event None later memory → EndKeeps made memory
house_end {m = m} group stands keeps (ends_flush g) = unlocked_flushed m g keeps
house_end {m = m} group stands keeps (ends_reclaim g) = unlocked_looked m g keeps
house_end {memory = memory} group stands keeps (leaves made answer g is) = leave_house made answer memory stands
house_end group stands keeps (is_answered made at answer is here permits) = absurd (true≢false (sym is ∙ group))
house_end group stands keeps _ = tt

-- ---- a run

abbrev RunHouse : {D : Type 0} → DiskFace D → Telling → Table → ℕ → ℕ → Type 0
RunHouse {D} face tells start a n = (w new : World D) (d : Doing) → Invariant tells start w → (actor_at w.memory a).doing ≡ Some d → is_log_call d.call ≡ false → HouseKeeps d.call d.place w.memory
    → StepsToEnd face tells a n w new → EndKeeps d.call new.memory

-- what is so of the slots is so whatever the actors
end_moved : (made : Call) (m : Memory) (actors : List Actor) → EndKeeps made m → EndKeeps made (record { actors = actors; groups = m.groups })
end_moved (call.FlushInodes g) m actors keeps = keeps
end_moved (call.Reclaim g) m actors keeps = keeps
end_moved _ m actors keeps = tt

retire_moved : (made : Call) (m : Memory) (actors : List Actor) (left : List ℕ) → RetireKeeps made m left → RetireKeeps made (record { actors = actors; groups = m.groups }) left
retire_moved (call.Reclaim g) m actors left keeps = keeps
retire_moved _ m actors left keeps = tt

keeps_moved : (made : Call) (at : Place) (m : Memory) (actors : List Actor) → HouseKeeps made at m → HouseKeeps made at (record { actors = actors; groups = m.groups })
keeps_moved made (place.Retire number others) m actors keeps = retire_moved made m actors (number ∷ others) keeps
keeps_moved made place.End m actors keeps = end_moved made m actors keeps
keeps_moved made _ m actors keeps = tt

house_next : {D : Type 0} (face : DiskFace D) (tells : Telling) (start : Table) (h : History) (m : Memory) (a n : ℕ) (made : Call) (at : Place) (begin : ℕ) (q later : List Key) (event : Option Event) (next : Option Place) (memory : Memory) (w new : World D)
    → RunHouse face tells start a n → Invariant tells start w → is_log_call made ≡ false → TurnOf start h m a made at begin q event next later memory → HouseKeeps made at m
    → w.memory ≡ with_actor a (after_turn made begin next later) memory → StepsToEnd face tells a n w new → EndKeeps made new.memory
house_next {D = D} face tells start h m a n made at begin q later event None memory w new on inv group turn keeps memory_is steps =
    let low : a < length memory.actors = subst (λ (xs : List Actor). a < length xs) (sym (effect_actors (effect_of turn.inv.cached turn.turn))) turn.low in
    let idle : (actor_at w.memory a).doing ≡ None = ap (λ (k : Memory). (actor_at k a).doing) memory_is ∙ ap (λ (x : Actor). x.doing) (read_same memory.actors a (after_turn made begin None later) idle_actor low) in
    subst (λ (v : World D). EndKeeps made v.memory) (sym (idle_ends face tells a n w new idle steps))
    (subst (λ (k : Memory). EndKeeps made k) (sym memory_is) (end_moved made memory _ (house_end group turn.right.stands keeps turn.turn)))
house_next {D = D} face tells start h m a n made at begin q later event (Some onward) memory w new on inv group turn keeps memory_is steps =
    let low : a < length memory.actors = subst (λ (xs : List Actor). a < length xs) (sym (effect_actors (effect_of turn.inv.cached turn.turn))) turn.low in
    let inside : (actor_at w.memory a).doing ≡ Some (record { call = made; place = onward; «from» = begin }) =
    ap (λ (k : Memory). (actor_at k a).doing) memory_is ∙ ap (λ (x : Actor). x.doing) (read_same memory.actors a (after_turn made begin (Some onward) later) idle_actor low) in
    let there : (g : ℕ) → made ≡ call.FlushInodes g → g < length m.groups = λ g is. flush_there g is in
    on w new _ inv inside group
    (subst (λ (k : Memory). HouseKeeps made onward k) (sym memory_is) (keeps_moved made onward memory _ (house_on group turn.inv.cached there keeps turn.turn))) steps
  where
    flush_there : (g : ℕ) → made ≡ call.FlushInodes g → g < length m.groups
    flush_there g is = subst (λ c. GroupIsThere m q c at) is turn.right.group

run_house : AllLaws → {D : Type 0} (face : DiskFace D) (tells : Telling) (start : Table) (a n : ℕ) → RunHouse face tells start a n
run_house all face tells start a zero w new d inv inside group keeps steps = absurd (none-some d (sym steps.0 ∙ inside))
run_house all face tells start a (suc n) w new d inv inside group keeps (next, step, steps) =
    let is : step.doing ≡ d = same_Some step.doing d (sym step.inside ∙ inside) in
    let inv_in = within tells start w inv in
    let s = stepped all.laws face tells start a w next inv_in step in
    let e : Doing = step.doing in
    let turn = turn_from start w.history next.history w.memory next.memory inv_in a e step.inside s in
    subst (λ (x : Doing). EndKeeps x.call new.memory) is
    (house_next face tells start w.history w.memory a n e.call e.place e.«from» (actor_at w.memory a).queue s.later s.event s.next s.memory next new (run_house all face tells start a n)
    (invariant_kept all face tells start a w next inv step) (ap (λ (x : Doing). is_log_call x.call) is ∙ group) turn (subst (λ (x : Doing). HouseKeeps x.call x.place w.memory) (sym is) keeps) s.memory_is steps)

whole_house : AllLaws → {D : Type 0} (face : DiskFace D) (tells : Telling) (start : Table) (a n : ℕ) (made : Call) (old new : World D) → Invariant tells start old → is_log_call made ≡ false
    → ((m : Memory) → HouseKeeps made (first_place made) m) → IsWholeCall face tells a made n old new → EndKeeps made new.memory
whole_house all face tells start a n made old new inv group first whole =
    let b = whole.begins in
    let d : Doing = beginning made old.history in
    let x : Actor = record { doing = Some d; queue = (actor_at old.memory a).queue } in
    let inside : (actor_at whole.begun.memory a).doing ≡ Some d = ap (λ (k : Memory). (actor_at k a).doing) b.memory ∙ ap (λ (y : Actor). y.doing) (read_same old.memory.actors a x idle_actor b.actor) in
    run_house all face tells start a n whole.begun new d (begin_kept all.laws tells start a made old whole.begun inv b) inside group (first whole.begun.memory) whole.steps

pub whole_flush : AllLaws → {D : Type 0} (face : DiskFace D) (tells : Telling) (start : Table) (a n g : ℕ) (old new : World D) → Invariant tells start old
    → IsWholeCall face tells a (call.FlushInodes g) n old new → HasNoDirty new.memory g
whole_flush all face tells start a n g old new inv whole = whole_house all face tells start a n (call.FlushInodes g) old new inv refl (λ m. tt) whole

pub whole_reclaim : AllLaws → {D : Type 0} (face : DiskFace D) (tells : Telling) (start : Table) (a n g : ℕ) (old new : World D) → Invariant tells start old
    → IsWholeCall face tells a (call.Reclaim g) n old new → IsReclaimed new.memory g
whole_reclaim all face tells start a n g old new inv whole number inside live =
    elim (whole_house all face tells start a n (call.Reclaim g) old new inv refl (λ m. tt) whole number inside live) [
      | inl none ↦ let low = none.1 in absurd (omega (arith, low))
      | inr kept ↦ kept
    ]
