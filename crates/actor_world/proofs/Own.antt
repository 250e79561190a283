-- What is so of an actor in a call is so again after its own turn.
use Rattle.std.proofs.Common.{◌≡◌, ◌<◌, ◌≤◌, ◌+◌, ◌-◌, ◌*◌, ◌%◌, ◌==◌, ◌/◌, ◌++◌, inl, inr, ℕ, suc, Bool, true, false, List, [], ◌∷◌, Option, None, Some, IfSome, IsSome, IsSomeAnd, if◌then◌else◌, length, slice_get, slice_index_or, refl, sym, ap, subst, ◌∙◌, arith}
use Rattle.std.specs.List.{AllByRecursion, Contains}
use Rattle.std.proofs.lemmas.Option.{none-some, same_Some}
use Rattle.std.proofs.lemmas.Bool.{cases_Bool, cases_eq, cases_lt, eq-eqb, eqb-true, ne_eqb, false≢true}
use Rattle.life_limits.specs.declared.TheConstants.{BLOCK_SECTORS, GROUP_NUMBERS}
use Rattle.life_table.specs.declared.key.Key.{Key}
use Rattle.life_table.specs.declared.types.Row.{Row}
use Rattle.life_table.specs.declared.types.Call.{Call}
use Rattle.life_table.specs.declared.types.Call.TheVariants as call
use Rattle.life_table.specs.declared.types.Reply.TheVariants as reply
use Rattle.life_table.specs.declared.types.Event.{Event}
use Rattle.life_table.specs.declared.types.Event.TheVariants.{Freed}
use Rattle.life_table.specs.declared.types.Entry.{Entry}
use Rattle.life_table.specs.declared.table.Inode.{Inode}
use Rattle.life_table.specs.declared.table.Table.{Table}
use Rattle.life_table.specs.Table.{group_at, group_number, in_use, inode_in, inode_of, row_of, with_row}
use Rattle.life_table.specs.Legal.{Awaits, IsNextKey, Permits, Short, after_call, freed, made_row, prepare, row_after, with_changed}
use Rattle.life_table.specs.WellFormed.{IsTable}
use Rattle.actor_world.specs.declared.memory.Place.{Place}
use Rattle.actor_world.specs.declared.memory.Place.TheVariants as place
use Rattle.actor_world.specs.declared.memory.Residence.TheVariants.{Absent, Clean, Dirty}
use Rattle.actor_world.specs.declared.memory.Slot.{Slot}
use Rattle.actor_world.specs.declared.memory.GroupCache.{GroupCache}
use Rattle.actor_world.specs.declared.memory.Memory.{Memory}
use Rattle.actor_world.specs.Caches.{cache_at, cached_word, clean_numbers, clean_of, first_slot, is_clean, locked, make_dirty, no_cache, slot_at, with_slot}
use Rattle.actor_world.specs.Moves.{awaiting_of, group_of_call, is_awaiting_row, is_log_call, is_mark_due, is_short, lies_in_group, links_of, makes_unlinked, place_after_change, sets_mark, stands_at, with_inodes, with_rows_to_free}
use Rattle.actor_world.specs.World.{History, told_if}
use Rattle.actor_world.specs.Words.{DueHolds, DeadSays, InstallDue, KillDue, LiveSays, MarkDue, WordSays, any_row, due_at, nothing, says}
use Rattle.actor_world.specs.Licence.{table_at}
use Rattle.actor_world.specs.Invariant.{FreesAreRight, HasFreed, HasRow, IsCleanIn, IsShaped, KeysAscend, MayBeFreed, NumbersAscend, PlaceKeeps, RowsLeft, first_key}
use Rattle.actor_world.specs.Settled.{IsSettled}
use Rattle.actor_world.proofs.Effects.{slots_stay}
use Rattle.actor_world.proofs.Frames.{inode_is, made_number}
use Rattle.actor_world.proofs.Lists.{contains_tail, gone_not, all_read, get_last, read_past, the_some}
use Rattle.actor_world.proofs.Geometry.{is_placed}
use Rattle.actor_world.proofs.LiveWords.{any_row_is, has_inode}
use Rattle.actor_world.proofs.Locks.{maker_call_group, room_call_group}
use Rattle.actor_world.proofs.Looks.{row_other}
use Rattle.actor_world.proofs.Picks.{AreLaid, awaiting_picks, picks, picks_all, picks_ascend, picks_has}
use Rattle.actor_world.proofs.Prepares.{LowestIsFree}
use Rattle.actor_world.proofs.Settles.{awaits_from, awaits_to, bare_before, past_gone, row_in}
use Rattle.actor_world.proofs.ShapeSteps.{size_made}
use Rattle.actor_world.proofs.Shorts.{short_is, short_not}
use Rattle.actor_world.proofs.Slots.{live_has_slot, placed_has_slot, slot_other, slot_same}
use Rattle.actor_world.proofs.Turns.{HasSlot, HeldWord, Turn, changer_key, changes, finds_row, frees_head, frees_one, goes_on, kills, kills_head, load_pins, locked_installs, locked_pins, locks_reclaim, locks_short, maker_group, makes, next_none, next_row, pin_misses_locked, retires, retires_none}
use Rattle.actor_world.proofs.TurnsFound.{live_row}
use Rattle.actor_world.proofs.WordSteps.{changed_row, freed_bare}
use Rattle.actor_world.proofs.WordTurns.{log_due, table_after}
use Rattle.actor_world.proofs.WordsStill.{WordFacts}

-- ---- frees

rows_frees : (entries : List Entry) (froms : List ℕ) (t : Table) (a begin : ℕ) (made : Call) (keys : List Key) → ((((gone : Key) → HasFreed entries froms a begin gone → ⊥)) → Short t made)
    → FreesAreRight entries froms t a begin made (with_rows_to_free keys)
rows_frees entries froms t a begin made [] short = tt
rows_frees entries froms t a begin made (key ∷ keys) short = short

inodes_frees : (entries : List Entry) (froms : List ℕ) (t : Table) (a begin : ℕ) (made : Call) (numbers : List ℕ) → FreesAreRight entries froms t a begin made (with_inodes numbers)
inodes_frees entries froms t a begin made [] = tt
inodes_frees entries froms t a begin made (number ∷ numbers) = tt

log_frees : (entries : List Entry) (froms : List ℕ) (t : Table) (a begin : ℕ) (made other : Call) (at : Place) → is_log_call made ≡ true → stands_at made at ≡ true → FreesAreRight entries froms t a begin other at
log_frees entries froms t a begin call.Sync other place.Take log stands = tt
log_frees entries froms t a begin call.Sync other place.Force log stands = tt
log_frees entries froms t a begin call.Sync other _ log stands = absurd (false≢true stands)
log_frees entries froms t a begin call.Home other place.TakeLog log stands = tt
log_frees entries froms t a begin call.Home other place.WriteHome log stands = tt
log_frees entries froms t a begin call.Home other _ log stands = absurd (false≢true stands)
log_frees entries froms t a begin _ other at log stands = absurd (false≢true log)

freed_now : (h : History) (a begin : ℕ) (key : Key) → length h.froms ≡ length h.entries → HasFreed (told_if a begin (Some (Freed key)) h).entries (told_if a begin (Some (Freed key)) h).froms a begin key
freed_now h a begin key long =
    (length h.entries, get_last h.entries (record { actor = a; event = Freed key }), subst (λ n. slice_get (h.froms ++ begin ∷ []) n ≡ Some begin) long (get_last h.froms begin))

pub own_frees : (h : History) (begin : ℕ) {m : Memory} {a : ℕ} {made : Call} {at : Place} {q later : List Key} {event : Option Event} {onward : Place} {memory : Memory}
    → length h.froms ≡ length h.entries → FreesAreRight h.entries h.froms h.table a begin made at → Turn h.table m a made at q event (Some onward) later memory
    → FreesAreRight (told_if a begin event h).entries (told_if a begin event h).froms (table_after h.table event) a begin made onward
own_frees h begin {a = a} long frees (locks_short made g is can) =
    elim (is_short h.table made) as (λ b. is_short h.table made ≡ b → FreesAreRight h.entries h.froms h.table a begin made (with_rows_to_free (if b then awaiting_of h.table g else []))) [
      | true ↦ λ short. rows_frees h.entries h.froms h.table a begin made (awaiting_of h.table g) (λ none. short_is h.table made short)
      | false ↦ λ long. tt
    ] refl
own_frees h begin {a = a} long frees (kills made g key others is due) = rows_frees h.entries h.froms h.table a begin made others (λ none. absurd (none key frees))
own_frees h begin {a = a} long frees (frees_one made g key others is group awaits) = freed_now h a begin key long
own_frees h begin {a = a} long frees (locks_reclaim g can) = inodes_frees h.entries h.froms h.table a begin (call.Reclaim g) _
own_frees h begin {a = a} long frees (retires g number others idle) = inodes_frees h.entries h.froms h.table a begin (call.Reclaim g) others
own_frees h begin {a = a} long frees (retires_none g number others busy) = inodes_frees h.entries h.froms h.table a begin (call.Reclaim g) others
own_frees h begin {a = a} {event = event} long frees (changes made key is permits) =
    elim (is_mark_due made reply.Done (links_of (row_of h.table key))) as (λ b. FreesAreRight (told_if a begin event h).entries (told_if a begin event h).froms (table_after h.table event) a begin made (if b then place.Mark reply.Done else place.Leave reply.Done)) [ true ↦ tt | false ↦ tt ]
own_frees h begin {a = a} long frees (goes_on made at onward is stands stands_next) = log_frees h.entries h.froms h.table a begin made made onward is stands_next
own_frees h begin long frees _ = tt

-- ---- what a place keeps

has_row : (t : Table) (key : Key) (row : Row) → row_of t key ≡ Some row → HasRow t key
has_row t key row is = subst (λ (o : Option Row). IsSome o) (sym is) refl

-- the rows of a group that await
test : Inode → Bool
test inode = is_awaiting_row inode.row

module _ (t : Table) (g : ℕ) where
  inode_here : (agino : ℕ) (inode : Inode) → agino < GROUP_NUMBERS → inode_in (group_at t g) agino ≡ Some inode → inode_of t (g * GROUP_NUMBERS + agino) ≡ Some inode
  unfolding inode_of
  inode_here agino inode few at =
      let high : (g * GROUP_NUMBERS + agino) / GROUP_NUMBERS ≡ g = omega (arith, few) in
      let low : (g * GROUP_NUMBERS + agino) % GROUP_NUMBERS ≡ agino = omega (arith, few) in
      ap (λ h. inode_in (group_at t h) ((g * GROUP_NUMBERS + agino) % GROUP_NUMBERS)) high ∙ ap (λ n. inode_in (group_at t g) n) low ∙ at

  pub awaiting_free : AreLaid (group_at t g) → AllByRecursion (MayBeFreed t (Some g)) (awaiting_of t g)
  unfolding test
  awaiting_free laid =
      subst (AllByRecursion (MayBeFreed t (Some g))) (sym (awaiting_picks t g))
      (picks_all test (MayBeFreed t (Some g)) g (group_at t g) laid (λ agino inode at few is. (
        subst (λ (o : Option Row). IsSomeAnd o Awaits) (sym (row_in t (record { number = g * GROUP_NUMBERS + agino; generation = inode.generation }) inode (inode_here agino inode few at) refl)) (awaits_from inode.row is),
        ap (λ n. Some n) (omega (arith, few)),
      )))

  pub awaiting_ascend : AreLaid (group_at t g) → KeysAscend (awaiting_of t g)
  unfolding test
  awaiting_ascend laid = subst KeysAscend (sym (awaiting_picks t g)) (picks_ascend test g (group_at t g) laid)

  there_in : (key : Key) (inode : Inode) → group_number key ≡ g → inode_of t key.number ≡ Some inode → inode_in (group_at t g) (key.number % GROUP_NUMBERS) ≡ Some inode
  unfolding inode_of
  there_in key inode group at = ap (λ h. inode_in (group_at t h) (key.number % GROUP_NUMBERS)) (sym group) ∙ at

  pub awaiting_has : (key : Key) → group_number key ≡ g → IsSomeAnd (row_of t key) Awaits → Contains (awaiting_of t g) key
  unfolding test
  awaiting_has key group awaits =
      let row = the_some Awaits (row_of t key) awaits in
      let same : g * GROUP_NUMBERS + key.number % GROUP_NUMBERS ≡ key.number = omega (arith, group) in
      subst (λ keys. Contains keys key) (sym (awaiting_picks t g))
      (subst (λ n. Contains (picks test g (group_at t g)) (record { number = n; generation = key.generation })) same
      (picks_has test g (group_at t g) (key.number % GROUP_NUMBERS) (in_use key row.0) (there_in key (in_use key row.0) group (inode_is t key row.0 row.1)) (awaits_to (Some row.0) row.2)))

-- as the lock is taken
module _ (start : Table) (entries : List Entry) (t : Table) (g : ℕ) (begin : ℕ) (laid : AreLaid (group_at t g))
    (awaited : (key : Key) → IsSomeAnd (row_of (table_at start entries begin) key) Awaits → IsSettled t key) where
  settled_awaits : (key : Key) → HasRow t key → IsSettled t key → IsSomeAnd (row_of t key) Awaits
  settled_awaits key has (inl past) = absurd (gone_not (row_of t key) (past_gone t key past) has)
  settled_awaits key has (inr awaits) = awaits

  pub awaiting_left : RowsLeft start entries t (Some g) begin (awaiting_of t g)
  awaiting_left = record {
    free = awaiting_free t g laid;
    ascend = awaiting_ascend t g laid;
    passed = λ key group awaits has. awaiting_has t g key (same_Some (group_number key) g group) (settled_awaits key has (awaited key awaits));
  }

rows_keep : (start : Table) (entries : List Entry) (t : Table) (m : Memory) (q : List Key) (g : Option ℕ) (begin : ℕ) (made : Call) (keys : List Key)
    → RowsLeft start entries t g begin keys → PlaceKeeps start entries t m q g begin made (with_rows_to_free keys)
rows_keep start entries t m q g begin made [] left = λ short. left
rows_keep start entries t m q g begin made (key ∷ keys) left = left

inodes_keep : (start : Table) (entries : List Entry) (t : Table) (m : Memory) (q : List Key) (g : Option ℕ) (begin : ℕ) (made : Call) (numbers : List ℕ)
    → AllByRecursion (IsCleanIn m g) numbers → NumbersAscend numbers → PlaceKeeps start entries t m q g begin made (with_inodes numbers)
inodes_keep start entries t m q g begin made [] all ascend = tt
inodes_keep start entries t m q g begin made (number ∷ numbers) all ascend = (all, ascend)

-- no row is at the number of a key that was freed
bare_gone : (u : Table) (key : Key) → any_row (inode_of u key.number) ≡ None → row_of u key ≡ None
bare_gone u key bare = gone (row_of u key) refl
  where
    gone : (o : Option Row) → row_of u key ≡ o → o ≡ None
    gone None is = refl
    gone (Some row) is = absurd (none-some row (sym bare ∙ any_row_is u key row is))

pub freed_gone : (t : Table) (key : Key) → IsSomeAnd (row_of t key) Awaits → row_of (freed t key) key ≡ None
freed_gone t key awaits = let row = the_some Awaits (row_of t key) awaits in bare_gone (freed t key) key (freed_bare t key row.0 row.1)

-- the rows that are left after the first of them was freed
module _ (start : Table) (entries later : List Entry) (t : Table) (g : Option ℕ) (begin : ℕ) (key : Key) (awaits : IsSomeAnd (row_of t key) Awaits)
    (begun : table_at start later begin ≡ table_at start entries begin) where
  freed_rest : (others : List Key) → AllByRecursion (λ (next : Key). key.number < next.number) others → AllByRecursion (MayBeFreed t g) others → AllByRecursion (MayBeFreed (freed t key) g) others
  freed_rest [] above free = tt
  freed_rest (next ∷ others) above free = (
    (subst (λ (o : Option Row). IsSomeAnd o Awaits) (sym (row_other t next key.number _ (λ e. let low = above.0 in omega (arith, low, e)))) free.0.0, free.0.1),
    freed_rest others above.1 free.1,
  )

  freed_left : (others : List Key) → RowsLeft start entries t g begin (key ∷ others) → RowsLeft start later (freed t key) g begin others
  freed_left others left = record {
    free = freed_rest others left.ascend.0 left.free.1;
    ascend = left.ascend.1;
    passed = λ k group awaited has.
        elim (cases_eq k.number key.number) [
          | inl same ↦
              let row = the_some Awaits (row_of t key) awaits in
              absurd (gone_not (row_of (freed t key) k) (bare_gone (freed t key) k (ap (λ n. any_row (inode_of (freed t key) n)) same ∙ freed_bare t key row.0 row.1)) has)
          | inr apart ↦
              contains_tail key others k (λ e. apart (ap (λ (x : Key). x.number) e)) (left.passed k group (subst (λ v. IsSomeAnd (row_of v k) Awaits) begun awaited)
              (subst (λ (o : Option Row). IsSome o) (row_other t k key.number _ (λ e. apart (sym e))) has))
        ];
  }

-- ---- what a reclaim looks at

clean_all : (P : ℕ → Type 0) (number : ℕ) (slots : List Slot) → ((i : ℕ) → i < length slots → (slice_index_or slots i first_slot).inode ≡ Clean → P (number + i)) → AllByRecursion P (clean_numbers number slots)
unfolding clean_numbers
clean_all P number [] f = tt
clean_all P number (slot ∷ slots) f =
    let rest = clean_all P (number + 1) slots (λ i low clean. subst P (omega arith) (f (suc i) (omega (arith, low)) clean)) in
    elim slot.inode as (λ inode. slot.inode ≡ inode → AllByRecursion P (if is_clean inode then number ∷ clean_numbers (number + 1) slots else clean_numbers (number + 1) slots)) [
      | Absent ↦ λ is. rest
      | Clean ↦ λ is. (subst P (omega arith) (f 0 (omega arith) is), rest)
      | Dirty ↦ λ is. rest
    ] refl

clean_ascend : (number : ℕ) (slots : List Slot) → NumbersAscend (clean_numbers number slots)
unfolding clean_numbers
clean_ascend number [] = tt
clean_ascend number (slot ∷ slots) =
    let rest = clean_ascend (number + 1) slots in
    let above = clean_all (λ n. number < n) (number + 1) slots (λ i low clean. omega arith) in
    elim (is_clean slot.inode) as (λ b. NumbersAscend (if b then number ∷ clean_numbers (number + 1) slots else clean_numbers (number + 1) slots)) [
      | true ↦ (above, rest)
      | false ↦ rest
    ]

slots_few : (t : Table) (m : Memory) (g : ℕ) → IsTable t → IsShaped t m → length (cache_at m g).slots ≤ GROUP_NUMBERS
slots_few t m g ok shaped =
    elim (cases_lt g (length m.groups)) [
      | inl low ↦
          let long = all_read (λ (cache : GroupCache). length cache.slots ≡ t.blocks * BLOCK_SECTORS) m.groups g no_cache shaped.slots low in
          let most = ok.most in omega (arith, long, most)
      | inr high ↦ let none : length (cache_at m g).slots ≡ 0 = ap (λ (c : GroupCache). length c.slots) (read_past m.groups g no_cache high) in omega (arith, none)
    ]

clean_now : (t : Table) (m : Memory) (a g : ℕ) → IsTable t → IsShaped t m → AllByRecursion (IsCleanIn (locked a g m) (Some g)) (clean_of m g)
clean_now t m a g ok shaped =
    clean_all (IsCleanIn (locked a g m) (Some g)) (g * GROUP_NUMBERS) (cache_at m g).slots (λ i low clean.
    let few = slots_few t m g ok shaped in
    let high : (g * GROUP_NUMBERS + i) / GROUP_NUMBERS ≡ g = omega (arith, few, low) in
    let rest : (g * GROUP_NUMBERS + i) % GROUP_NUMBERS ≡ i = omega (arith, few, low) in
    let there : slot_at m (g * GROUP_NUMBERS + i) ≡ slice_index_or (cache_at m g).slots i first_slot =
    ap (λ h. slice_index_or (cache_at m h).slots ((g * GROUP_NUMBERS + i) % GROUP_NUMBERS) first_slot) high ∙ ap (λ n. slice_index_or (cache_at m g).slots n first_slot) rest in
    (ap (λ (s : Slot). s.inode) (slots_stay m g (Some a) (g * GROUP_NUMBERS + i) ∙ there) ∙ clean, ap (λ n. Some n) high))

retired_rest : (m : Memory) (g : Option ℕ) (number : ℕ) (slot : Slot) (others : List ℕ) → AllByRecursion (λ (later : ℕ). number < later) others → AllByRecursion (IsCleanIn m g) others
    → AllByRecursion (IsCleanIn (with_slot number slot m) g) others
retired_rest m g number slot [] above all = tt
retired_rest m g number slot (next ∷ others) above all = (
  (ap (λ (s : Slot). s.inode) (slot_other m number next slot (λ e. let low = above.0 in omega (arith, low, e))) ∙ all.0.0, all.0.1),
  retired_rest m g number slot others above.1 all.1,
)

log_keeps : (start : Table) (entries : List Entry) (t : Table) (m : Memory) (q : List Key) (g : Option ℕ) (begin : ℕ) (made other : Call) (at : Place) → is_log_call made ≡ true → stands_at made at ≡ true
    → PlaceKeeps start entries t m q g begin other at
log_keeps start entries t m q g begin call.Sync other place.Take log stands = tt
log_keeps start entries t m q g begin call.Sync other place.Force log stands = tt
log_keeps start entries t m q g begin call.Sync other _ log stands = absurd (false≢true stands)
log_keeps start entries t m q g begin call.Home other place.TakeLog log stands = tt
log_keeps start entries t m q g begin call.Home other place.WriteHome log stands = tt
log_keeps start entries t m q g begin call.Home other _ log stands = absurd (false≢true stands)
log_keeps start entries t m q g begin _ other at log stands = absurd (false≢true log)

-- What an own turn rests on.
pub record OwnFacts (start : Table) (h : History) (m : Memory) (begin : ℕ) (q : List Key) (made : Call) : Type 0 where
  pub ok : IsTable h.table
  pub shaped : IsShaped h.table m
  pub laid : (g : ℕ) → AreLaid (group_at h.table g)
  pub awaited : (key : Key) → IsSomeAnd (row_of (table_at start h.entries begin) key) Awaits → IsSettled h.table key
  pub waiting : made ≡ call.Gc → AllByRecursion (IsSettled h.table) q

pub settled_free : (t : Table) (key : Key) (row : Row) → row_of t key ≡ Some row → IsSettled t key → IsSomeAnd (row_of t key) Awaits
settled_free t key row is (inl past) = absurd (none-some row (sym (past_gone t key past) ∙ is))
settled_free t key row is (inr awaits) = awaits

pub own_keeps : (start : Table) (h : History) (begin : ℕ) {m : Memory} {a : ℕ} {made : Call} {at : Place} {q later : List Key} {event : Option Event} {onward : Place} {memory : Memory}
    → OwnFacts start h m begin q made → table_at start (told_if a begin event h).entries begin ≡ table_at start h.entries begin
    → PlaceKeeps start h.entries h.table m q (group_of_call q made) begin made at → Turn h.table m a made at q event (Some onward) later memory
    → PlaceKeeps start (told_if a begin event h).entries (table_after h.table event) memory later (group_of_call later made) begin made onward
own_keeps start h begin facts begun keeps (load_pins key inside seen) = seen
own_keeps start h begin facts begun keeps (finds_row key row can is) = has_row h.table key row is
own_keeps start h begin facts begun keeps (locked_pins key row is seen) = (seen, has_row h.table key row is)
own_keeps start h begin facts begun keeps (locked_installs key row is dead) = (has_row h.table key row is, dead)
own_keeps start h begin facts begun keeps (pin_misses_locked key seen row is differs) = has_row h.table key row is
own_keeps start h begin {m = m} {a = a} {q = q} {memory = memory} facts begun keeps (locks_short made g is can) =
    let t : Table = h.table in
    let go : Option ℕ = group_of_call q made in
    elim (is_short t made) as (λ b. is_short t made ≡ b → PlaceKeeps start h.entries t memory q go begin made (with_rows_to_free (if b then awaiting_of t g else []))) [
      | true ↦ λ short.
          rows_keep start h.entries t memory q go begin made (awaiting_of t g)
          (subst (λ o. RowsLeft start h.entries t o begin (awaiting_of t g)) (sym (room_call_group made g q is)) (awaiting_left start h.entries t g begin (facts.laid g) facts.awaited))
      | false ↦ λ long short. absurd (short_not t made long short)
    ] refl
own_keeps start h begin {q = q} facts begun keeps (frees_one made g key others is group awaits) = freed_left start h.entries _ h.table (group_of_call q made) begin key awaits begun others keeps
own_keeps start h begin {q = q} {memory = memory} facts begun keeps (kills made g key others is due) = rows_keep start h.entries h.table memory q (group_of_call q made) begin made others keeps
own_keeps start h begin facts begun keeps (next_none key keys can is) = is
own_keeps start h begin facts begun keeps (next_row key keys row can is) = (settled_free h.table key row is (facts.waiting refl).0, refl)
own_keeps start h begin facts begun keeps (frees_head key keys awaits) = freed_gone h.table key awaits
own_keeps start h begin facts begun keeps (kills_head key keys due) = keeps
own_keeps start h begin {m = m} {a = a} {q = q} {memory = memory} facts begun keeps (locks_reclaim g can) =
    inodes_keep start h.entries h.table memory q (Some g) begin (call.Reclaim g) (clean_of m g) (clean_now h.table m a g facts.ok facts.shaped) (clean_ascend (g * GROUP_NUMBERS) (cache_at m g).slots)
own_keeps start h begin {m = m} {q = q} {memory = memory} facts begun keeps (retires g number others idle) =
    inodes_keep start h.entries h.table memory q (Some g) begin (call.Reclaim g) others (retired_rest m (Some g) number _ others keeps.1.0 keeps.0.1) keeps.1.1
own_keeps start h begin {m = m} {q = q} facts begun keeps (retires_none g number others busy) =
    inodes_keep start h.entries h.table m q (Some g) begin (call.Reclaim g) others keeps.0.1 keeps.1.1
own_keeps start h begin {a = a} {q = q} {event = event} {memory = memory} facts begun keeps (changes made key is permits) =
    elim (is_mark_due made reply.Done (links_of (row_of h.table key))) as (λ b. PlaceKeeps start (told_if a begin event h).entries (table_after h.table event) memory q (group_of_call q made) begin made (if b then place.Mark reply.Done else place.Leave reply.Done)) [ true ↦ tt | false ↦ tt ]
own_keeps start h begin {m = m} {q = q} facts begun keeps (goes_on made at onward is stands stands_next) = log_keeps start h.entries h.table m q (group_of_call q made) begin made made onward is stands_next
own_keeps start h begin facts begun keeps _ = tt

-- ---- what is due

rows_dues : (made : Call) (t : Table) (m : Memory) (first : Option Key) (keys : List Key) → DueHolds made t m (due_at first made (with_rows_to_free keys))
rows_dues made t m first [] = tt
rows_dues made t m first (key ∷ keys) = tt

inodes_dues : (made : Call) (t : Table) (m : Memory) (first : Option Key) (numbers : List ℕ) → DueHolds made t m (due_at first made (with_inodes numbers))
inodes_dues made t m first [] = tt
inodes_dues made t m first (number ∷ numbers) = tt

-- the inode in core is dirty, and the word stays
dirty_slot : (m : Memory) (number : ℕ) → HasSlot m number → slot_at (make_dirty number m) number ≡ record { word = cached_word m number; inode = Dirty }
dirty_slot m number has = slot_same m number _ has

module _ (t : Table) (m : Memory) where
  mark_due : (made : Call) (key : Key) → HeldWord t m key → ((row : Row) → row_of t key ≡ Some row → ((row_after t row made).links == 0) ≡ sets_mark made) → ((row : Row) → (row_after t row made).opens ≡ row.opens)
      → after_call t made reply.Done ≡ with_changed t key (row_of t key) made → (row : Row) × MarkDue made (after_call t made reply.Done) (make_dirty key.number m) key row
  mark_due made key held links opens table =
      let put = dirty_slot m key.number (live_has_slot m key.number held.live) in (
        row_after t held.row made,
        record {
          row_is = ap (λ u. row_of u key) table ∙ changed_row t key held.row made held.row_is;
          live = ap (λ (s : Slot). s.word.live) put ∙ held.live;
          generation = ap (λ (s : Slot). s.word.generation) put ∙ held.generation;
          pins = ap (λ (s : Slot). s.word.pins) put ∙ held.pins ∙ sym (opens held.row);
          some = let is = opens held.row in let some = held.some in omega (arith, is, some);
          links = links held.row held.row_is;
        },
      )

  link_due : (first : Option Key) (key : Key) → HeldWord t m key
      → DueHolds (call.Link key) (after_call t (call.Link key) reply.Done) (make_dirty key.number m) (due_at first (call.Link key) (place_after_change (call.Link key) reply.Done (links_of (row_of t key))))
  link_due first key held =
      elim (links_of (row_of t key) == 0) as (λ b. links_of (row_of t key) == 0 ≡ b → DueHolds (call.Link key) (after_call t (call.Link key) reply.Done) (make_dirty key.number m) (due_at first (call.Link key) (if b then place.Mark reply.Done else place.Leave reply.Done))) [
        | true ↦ λ is. mark_due (call.Link key) key held (λ row row_is. ne_eqb (row.links + 1) 0 (λ e. omega (arith, e))) (λ row. refl) refl
        | false ↦ λ is. tt
      ] refl

  unlink_due : (first : Option Key) (key : Key) → HeldWord t m key
      → DueHolds (call.Unlink key) (after_call t (call.Unlink key) reply.Done) (make_dirty key.number m) (due_at first (call.Unlink key) (place_after_change (call.Unlink key) reply.Done (links_of (row_of t key))))
  unlink_due first key held =
      elim (links_of (row_of t key) == 1) as (λ b. links_of (row_of t key) == 1 ≡ b → DueHolds (call.Unlink key) (after_call t (call.Unlink key) reply.Done) (make_dirty key.number m) (due_at first (call.Unlink key) (if b then place.Mark reply.Done else place.Leave reply.Done))) [
        | true ↦ λ is. mark_due (call.Unlink key) key held (λ row row_is.
            let one : row.links ≡ 1 = eqb-true row.links 1 (ap (λ (o : Option Row). links_of o == 1) (sym row_is) ∙ is) in
            eq-eqb (row.links - 1) 0 (omega (arith, one))) (λ row. refl) refl
        | false ↦ λ is. tt
      ] refl

  change_due : (first : Option Key) (made : Call) (key : Key) → changer_key made ≡ Some key → HeldWord t m key
      → DueHolds made (after_call t made reply.Done) (make_dirty key.number m) (due_at first made (place_after_change made reply.Done (links_of (row_of t key))))
  change_due first (call.Link other) key is held =
      let same : other ≡ key = same_Some other key is in
      subst (λ (k : Key). DueHolds (call.Link other) (after_call t (call.Link other) reply.Done) (make_dirty k.number m) (due_at first (call.Link other) (place_after_change (call.Link other) reply.Done (links_of (row_of t k))))) same
      (link_due first other (subst (HeldWord t m) (sym same) held))
  change_due first (call.Unlink other) key is held =
      let same : other ≡ key = same_Some other key is in
      subst (λ (k : Key). DueHolds (call.Unlink other) (after_call t (call.Unlink other) reply.Done) (make_dirty k.number m) (due_at first (call.Unlink other) (place_after_change (call.Unlink other) reply.Done (links_of (row_of t k))))) same
      (unlink_due first other (subst (HeldWord t m) (sym same) held))
  change_due first (call.Cut other count) key is held = tt
  change_due first _ key is held = absurd (none-some key is)

  -- the word of a row that awaits, under the lock
  killed_due : (made : Call) (key : Key) → IsSomeAnd (row_of t key) Awaits → WordSays t (cached_word m key.number) key.number → KillDue (freed t key) (make_dirty key.number m) key
  killed_due made key awaits right =
      let row = the_some Awaits (row_of t key) awaits in
      elim (cases_Bool (cached_word m key.number).live) [
        | inl live ↦
            let says_it = live_row t m key row.0 row.1 right live in
            let put = dirty_slot m key.number (live_has_slot m key.number live) in
            record {
              live = ap (λ (s : Slot). s.word.live) put ∙ live;
              generation = ap (λ (s : Slot). s.word.generation) put ∙ says_it.0;
              mark = ap (λ (s : Slot). s.word.unlinked) put ∙ says_it.1.mark ∙ eq-eqb row.0.links 0 row.2.0;
              pins = ap (λ (s : Slot). s.word.pins) put ∙ says_it.1.pins ∙ row.2.1;
              no_row = freed_bare t key row.0 row.1;
            }
        | inr dead ↦
            let of_row : DeadSays row.0 = subst (λ (o : Option Row). IfSome o DeadSays) (any_row_is t key row.0 row.1) (subst (λ b. says b t (cached_word m key.number) key.number) dead right) in
            let some = of_row.links in let none = row.2.0 in absurd (omega (arith, some, none))
      ]

  module _ (lowest : LowestIsFree) (facts : WordFacts t m) (shaped : IsShaped t m) (g : ℕ) (key : Key) (links : ℕ) (next : IsNextKey t g key) (made_ok : IsTable (with_row (prepare t g) key (made_row links)))
      (right : WordSays t (cached_word m key.number) key.number) where
    new_slot : HasSlot m key.number
    new_slot =
        let u : Table = with_row (prepare t g) key (made_row links) in
        let has = has_inode (inode_of u key.number) key.generation (made_row links) (facts.made g key links next made_ok).row in
        let placed = is_placed u key.number has.inode made_ok has.at in
        let size = size_made t g key (made_row links) in
        placed_has_slot t m key.number shaped (record {
          group = subst (λ n. key.number / GROUP_NUMBERS < n) size.groups placed.group;
          sector = subst (λ n. key.number % GROUP_NUMBERS < n * BLOCK_SECTORS) size.blocks placed.sector;
        })

    new_dead : (cached_word m key.number).live ≡ false
    new_dead =
        elim (cases_Bool (cached_word m key.number).live) [
          | inl live ↦
              let old : Key = record { number = key.number; generation = (cached_word m key.number).generation } in
              let some = the_some (LiveSays (cached_word m key.number)) (row_of t old) (subst (λ b. says b t (cached_word m key.number) key.number) live right) in
              absurd (none-some some.0 (sym (bare_before lowest t g key links next facts.ok made_ok) ∙ any_row_is t old some.0 some.1))
          | inr dead ↦ dead
        ]

    installed_due : (made : Call) → (links == 0) ≡ makes_unlinked made → InstallDue made (with_row (prepare t g) key (made_row links)) (make_dirty key.number m) key (made_row links)
    installed_due made unlinked =
        let put = dirty_slot m key.number new_slot in
        record {
          row_is = (facts.made g key links next made_ok).row;
          opens = refl;
          links = unlinked;
          dead = ap (λ (s : Slot). s.word.live) put ∙ new_dead;
          incore = λ none. let clash : Dirty ≡ Absent = sym (ap (λ (s : Slot). s.inode) put) ∙ none in cc;
        }

  made_due : LowestIsFree → WordFacts t m → IsShaped t m → (made : Call) (g : ℕ) (key : Key) → maker_group made ≡ Some g → Permits t made (reply.Made key) → WordSays t (cached_word m key.number) key.number
      → (row : Row) × InstallDue made (after_call t made (reply.Made key)) (make_dirty key.number m) key row
  made_due lowest facts shaped (call.Create h) g key is permits right =
      (made_row 1, installed_due lowest facts shaped h key 1 permits (facts.legal (call.Create h) (reply.Made key) permits) right (call.Create h) refl)
  made_due lowest facts shaped (call.Tmpfile h) g key is permits right =
      (made_row 0, installed_due lowest facts shaped h key 0 permits (facts.legal (call.Tmpfile h) (reply.Made key) permits) right (call.Tmpfile h) refl)
  made_due lowest facts shaped _ g key is permits right = absurd (none-some g is)

-- What a turn rests on where something comes to be due.
pub record DueFacts (t : Table) (m : Memory) (q : List Key) (made : Call) (at : Place) : Type 0 where
  pub lowest : LowestIsFree
  pub words : WordFacts t m
  pub shaped : IsShaped t m
  pub held : at ≡ place.Change → (key : Key) → changer_key made ≡ Some key → HeldWord t m key
  pub right : lies_in_group at ≡ true → due_at (first_key q) made at ≡ nothing → (n : ℕ) → group_of_call q made ≡ Some (n / GROUP_NUMBERS) → WordSays t (cached_word m n) n

pub own_dues : {t : Table} {m : Memory} {a : ℕ} {made : Call} {at : Place} {q later : List Key} {event : Option Event} {onward : Place} {memory : Memory}
    → DueFacts t m q made at → Turn t m a made at q event (Some onward) later memory → DueHolds made (table_after t event) memory (due_at (first_key later) made onward)
own_dues {t = t} {m = m} {q = q} facts (changes made key is permits) = change_due t m (first_key q) made key is (facts.held refl key is)
own_dues {t = t} {m = m} {q = q} facts (makes made g key is permits) =
    made_due t m facts.lowest facts.words facts.shaped made g key is permits
    (facts.right refl refl key.number (maker_call_group made g q is ∙ ap (λ n. Some n) (sym (made_number t m made g key facts.words is permits))))
own_dues {t = t} {m = m} {q = q} facts (frees_one made g key others is group awaits) =
    killed_due t m made key awaits (facts.right refl refl key.number (room_call_group made g q is ∙ ap (λ n. Some n) (sym group)))
own_dues {t = t} {m = m} facts (frees_head key keys awaits) = killed_due t m call.Gc key awaits (facts.right refl refl key.number refl)
own_dues {t = t} {q = q} {memory = memory} facts (locks_short made g is can) = rows_dues made t memory (first_key q) _
own_dues {t = t} {q = q} {memory = memory} facts (kills made g key others is due) = rows_dues made t memory (first_key q) others
own_dues {t = t} {q = q} {memory = memory} facts (locks_reclaim g can) = inodes_dues (call.Reclaim g) t memory (first_key q) _
own_dues {t = t} {q = q} {memory = memory} facts (retires g number others idle) = inodes_dues (call.Reclaim g) t memory (first_key q) others
own_dues {t = t} {q = q} {memory = memory} facts (retires_none g number others busy) = inodes_dues (call.Reclaim g) t memory (first_key q) others
own_dues {t = t} {m = m} {q = q} facts (goes_on made at onward is stands stands_next) = subst (DueHolds made t m) (sym (log_due (first_key q) made onward is stands_next)) tt
own_dues facts _ = tt
