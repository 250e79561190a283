-- What is so of an actor in a call stays so after a turn of another.
use Rattle.std.proofs.Common.{◌≡◌, ◌≢◌, ◌≤◌, ◌+◌, ◌-◌, ◌==◌, ◌/◌, ◌⊎◌, inl, inr, ℕ, true, false, List, [], ◌∷◌, Option, None, Some, IsSome, IsSomeAnd, if◌then◌else◌, refl, sym, ap, subst, ◌∙◌, arith}
use Rattle.std.specs.Prelude.{◌↔◌}
use Rattle.std.proofs.lemmas.Option.{none-some, same_Some}
use Rattle.std.proofs.lemmas.Bool.{cases_eq, eq-eqb, ne_eqb, false≢true, true≢false}
use Rattle.life_limits.specs.declared.TheConstants.{GROUP_NUMBERS}
use Rattle.life_table.specs.declared.key.Key.{Key}
use Rattle.life_table.specs.declared.types.Row.{Row}
use Rattle.life_table.specs.declared.types.Call.{Call}
use Rattle.life_table.specs.declared.types.Call.TheVariants as call
use Rattle.life_table.specs.declared.types.Event.{Event}
use Rattle.life_table.specs.declared.types.Entry.{Entry}
use Rattle.life_table.specs.declared.table.Table.{Table}
use Rattle.life_table.specs.Table.{group_number, inode_of, row_in_life, row_of}
use Rattle.life_table.specs.Legal.{Awaits, Short}
use Rattle.life_table.specs.History.{key_of}
use Rattle.actor_world.specs.declared.memory.Place.{Place}
use Rattle.actor_world.specs.declared.memory.Place.TheVariants as place
use Rattle.actor_world.specs.declared.memory.Slot.{Slot}
use Rattle.actor_world.specs.declared.memory.Memory.{Memory}
use Rattle.actor_world.specs.Caches.{cached_word, slot_at}
use Rattle.actor_world.specs.Moves.{group_of_call, head_group, lies_in_group, stands_at}
use Rattle.actor_world.specs.World.{History, told_if}
use Rattle.actor_world.specs.Words.{DueHolds, any_row, due_at, due_number, install, kill, mark}
use Rattle.actor_world.specs.Licence.{table_at}
use Rattle.actor_world.specs.Invariant.{FreesAreRight, HasFreed, HasRow, HeadIsPassed, IsCleanIn, MayBeFreed, PlaceKeeps, RowsLeft, first_key, opened_key}
use Rattle.actor_world.proofs.Frames.{Framed, Repinned, Repins, Stays}
use Rattle.actor_world.proofs.Lists.{all_weaker, get_kept}

-- ---- a row

-- the row of a key stays, or has one hold more or less
pub data RowFramed (t u : Table) (m memory : Memory) (made : Call) (key : Key) : Type 0 where
  RowStays : row_of u key ≡ row_of t key → RowFramed t u m memory made key
  RowMoves : (r : Repins t u m memory made key) → row_of t key ≡ Some r.old → row_of u key ≡ Some r.new → RowFramed t u m memory made key

row_here : (t : Table) (key : Key) (row : Row) → inode_of t key.number ≡ Some (record { generation = key.generation; row = Some row }) → row_of t key ≡ Some row
row_here t key row at = ap (row_in_life key.generation) at ∙ ap (λ b. if b then Some row else None) (eq-eqb key.generation key.generation refl)

other_life : (t : Table) (key k : Key) (row : Row) → k.number ≡ key.number → k.generation ≢ key.generation → inode_of t k.number ≡ Some (record { generation = k.generation; row = Some row }) → row_of t key ≡ None
other_life t key k row same differ at =
    ap (λ n. row_in_life key.generation (inode_of t n)) (sym same) ∙ ap (row_in_life key.generation) at ∙ ap (λ b. if b then Some row else None) (ne_eqb k.generation key.generation differ)

pub row_framed : {t u : Table} {m memory : Memory} {made : Call} → (key : Key) → Framed t u m memory made key.number → RowFramed t u m memory made key
row_framed key (Stays inode slot) = RowStays (ap (row_in_life key.generation) inode)
row_framed {t = t} {u = u} {m = m} {memory = memory} {made = made} key (Repinned k same r) =
    elim (cases_eq k.generation key.generation) [
      | inl life ↦
          let is : k ≡ key = λ i. record { number = same i; generation = life i } in
          let here : Repins t u m memory made key = subst (Repins t u m memory made) is r in
          RowMoves here (row_here t key here.old here.was) (row_here u key here.new here.is)
      | inr differ ↦ RowStays (other_life u key k r.new same differ r.is ∙ sym (other_life t key k r.old same differ r.was))
    ]

some_from : {X : Type 0} (o : Option X) (x : X) → o ≡ Some x → IsSome o
some_from o x is = subst (λ p. IsSome p) (sym is) refl

module _ {t u : Table} {m memory : Memory} {made : Call} where
  row_on : (key : Key) → Framed t u m memory made key.number → HasRow t key → HasRow u key
  row_on key frame has = elim (row_framed key frame) [
    | RowStays same ↦ subst (λ (o : Option Row). IsSome o) (sym same) has
    | RowMoves r was is ↦ some_from (row_of u key) r.new is
  ]

  row_back : (key : Key) → Framed t u m memory made key.number → HasRow u key → HasRow t key
  row_back key frame has = elim (row_framed key frame) [
    | RowStays same ↦ subst (λ (o : Option Row). IsSome o) same has
    | RowMoves r was is ↦ some_from (row_of t key) r.old was
  ]

  gone_on : (key : Key) → Framed t u m memory made key.number → row_of t key ≡ None → row_of u key ≡ None
  gone_on key frame gone = elim (row_framed key frame) [
    | RowStays same ↦ same ∙ gone
    | RowMoves r was is ↦ absurd (none-some r.old (sym gone ∙ was))
  ]

  -- a row that awaits can't be pinned or let go
  awaits_on : (key : Key) → Framed t u m memory made key.number → IsSomeAnd (row_of t key) Awaits → IsSomeAnd (row_of u key) Awaits
  awaits_on key frame awaits = elim (row_framed key frame) [
    | RowStays same ↦ subst (λ (o : Option Row). IsSomeAnd o Awaits) (sym same) awaits
    | RowMoves r was is ↦ absurd (r.stays (subst (λ (o : Option Row). IsSomeAnd o Awaits) was awaits))
  ]

  -- neither a pin nor a release touches a word that is not live, or an inode in core
  dead_on : (n : ℕ) → Framed t u m memory made n → (cached_word m n).live ≡ false → slot_at memory n ≡ slot_at m n
  dead_on n (Stays inode slot) dead = slot
  dead_on n (Repinned k same r) dead = absurd (true≢false (sym r.live ∙ ap (λ k. (cached_word m k).live) same ∙ dead))

  core_on : (n : ℕ) → Framed t u m memory made n → (slot_at memory n).inode ≡ (slot_at m n).inode
  core_on n (Stays inode slot) = ap (λ (s : Slot). s.inode) slot
  core_on n (Repinned k same r) = ap (λ n. (slot_at memory n).inode) (sym same) ∙ ap (λ (s : Slot). s.inode) r.slot ∙ ap (λ n. (slot_at m n).inode) same

-- ---- what a place keeps

opened_on : (queue : List Key) (other : Call) (P Q : Key → Type 0) → IsSomeAnd (opened_key other) P → ((key : Key) → group_of_call queue other ≡ Some (group_number key) → P key → Q key) → IsSomeAnd (opened_key other) Q
opened_on queue (call.OpenKey key) P Q is f = f key refl is
opened_on queue _ P Q is f = absurd is

some_weaker : {X : Type 0} (o : Option X) (P Q : X → Type 0) → ((x : X) → P x → Q x) → IsSomeAnd o P → IsSomeAnd o Q
some_weaker None P Q f is = absurd is
some_weaker (Some x) P Q f is = f x is

-- only a gc looks at the head of its queue
kill_head_group : (queue : List Key) (other : Call) → stands_at other place.KillHead ≡ true → group_of_call queue other ≡ head_group queue
kill_head_group queue call.Gc stands = refl
kill_head_group queue _ stands = absurd (false≢true stands)

pass_group : (queue : List Key) (other : Call) → stands_at other place.Pass ≡ true → group_of_call queue other ≡ head_group queue
pass_group queue call.Gc stands = refl
pass_group queue _ stands = absurd (false≢true stands)

-- What a turn of one leaves of the group whose lock another holds, and of the entries.
pub record Apart (start : Table) (entries later : List Entry) (t u : Table) (m memory : Memory) (made : Call) (g : Option ℕ) (begin : ℕ) (other : Call) : Type 0 where
  pub frame : (n : ℕ) → g ≡ Some (n / GROUP_NUMBERS) → Framed t u m memory made n
  pub short : Short u other ↔ Short t other

module _ (start : Table) (entries later : List Entry) (t u : Table) (m memory : Memory) (made : Call) (g : Option ℕ) (begin : ℕ) (other : Call)
    (begun : table_at start later begin ≡ table_at start entries begin) where
  may_on : Apart start entries later t u m memory made g begin other → (key : Key) → MayBeFreed t g key → MayBeFreed u g key
  may_on apart key may = (awaits_on key (apart.frame key.number (sym may.1)) may.0, may.1)

  rows_on : Apart start entries later t u m memory made g begin other → (keys : List Key) → RowsLeft start entries t g begin keys → RowsLeft start later u g begin keys
  rows_on apart keys left = record {
    free = all_weaker (MayBeFreed t g) (MayBeFreed u g) keys (may_on apart) left.free;
    ascend = left.ascend;
    passed = λ key group awaits has.
        left.passed key group (subst (λ v. IsSomeAnd (row_of v key) Awaits) begun awaits) (row_back key (apart.frame key.number (sym group)) has);
  }

  head_on : Apart start entries later t u m memory made g begin other → (queue : List Key) → g ≡ head_group queue → HeadIsPassed t (first_key queue) → HeadIsPassed u (first_key queue)
  head_on apart [] group passed = absurd passed
  head_on apart (key ∷ keys) group passed = gone_on key (apart.frame key.number group) passed

  clean_on : Apart start entries later t u m memory made g begin other → (n : ℕ) → IsCleanIn m g n → IsCleanIn memory g n
  clean_on apart n clean = (core_on n (apart.frame n (sym clean.1)) ∙ clean.0, clean.1)

  pub keeps_on : (queue : List Key) → g ≡ group_of_call queue other → (at : Place) → stands_at other at ≡ true → (lies_in_group at ≡ true → Apart start entries later t u m memory made g begin other)
      → PlaceKeeps start entries t m queue g begin other at → PlaceKeeps start later u memory queue g begin other at
  keeps_on queue group (place.Pin seen) stands apart keeps = keeps
  keeps_on queue group place.LoadLocked stands apart keeps =
      opened_on queue other _ _ keeps (λ key here has. row_on key ((apart refl).frame key.number (group ∙ here)) has)
  keeps_on queue group (place.PinLocked seen) stands apart keeps =
      (keeps.0, opened_on queue other _ _ keeps.1 (λ key here has. row_on key ((apart refl).frame key.number (group ∙ here)) has))
  keeps_on queue group place.Install stands apart keeps =
      opened_on queue other _ _ keeps (λ key here is.
      let frame = (apart refl).frame key.number (group ∙ here) in
      (row_on key frame is.0, ap (λ (s : Slot). s.word.live) (dead_on key.number frame is.1) ∙ is.1))
  keeps_on queue group (place.Free key others) stands apart keeps = rows_on (apart refl) (key ∷ others) keeps
  keeps_on queue group (place.Kill key others) stands apart keeps = rows_on (apart refl) others keeps
  keeps_on queue group place.Answer stands apart keeps = λ short. rows_on (apart refl) [] (keeps ((apart refl).short.0 short))
  keeps_on queue group place.FreeHead stands apart keeps = some_weaker (first_key queue) (MayBeFreed t g) (MayBeFreed u g) (may_on (apart refl)) keeps
  keeps_on queue group place.KillHead stands apart keeps = head_on (apart refl) queue (group ∙ kill_head_group queue other stands) keeps
  keeps_on queue group place.Pass stands apart keeps = head_on (apart refl) queue (group ∙ pass_group queue other stands) keeps
  keeps_on queue group (place.Retire number others) stands apart keeps = (all_weaker (IsCleanIn m g) (IsCleanIn memory g) (number ∷ others) (clean_on (apart refl)) keeps.0, keeps.1)
  keeps_on queue group _ stands apart keeps = tt

-- ---- what a call has freed

freed_kept : (h : History) (a from b begin : ℕ) (event : Option Event) (key : Key) → HasFreed h.entries h.froms b begin key → HasFreed (told_if a from event h).entries (told_if a from event h).froms b begin key
freed_kept h a from b begin None key has = has
freed_kept h a from b begin (Some event) key (i, at, began) = (i, get_kept h.entries (record { actor = a; event = event }) _ i at, get_kept h.froms from begin i began)

pub frees_on : (h : History) (a from b begin : ℕ) (event : Option Event) (u : Table) (other : Call) (at : Place) → (lies_in_group at ≡ true → Short u other ↔ Short h.table other)
    → FreesAreRight h.entries h.froms h.table b begin other at → FreesAreRight (told_if a from event h).entries (told_if a from event h).froms u b begin other at
frees_on h a from b begin event u other (place.Free key others) short frees = λ none. (short refl).1 (frees (λ gone has. none gone (freed_kept h a from b begin event gone has)))
frees_on h a from b begin event u other (place.Kill key others) short frees = freed_kept h a from b begin event key frees
frees_on h a from b begin event u other _ short frees = tt

-- ---- what is due

-- A pin that is given up leaves the pin of another holder.
abbrev pub OthersHold : Table → Call → Key → Type 0
OthersHold t made key = (row : Row) → made ≡ call.CloseKey key → row_of t key ≡ Some row → 2 ≤ row.opens

few_left : (made : Call) (old new : Row) (key : Key) → (new.opens ≡ old.opens + 1) ⊎ ((new.opens ≡ old.opens - 1) × (made ≡ call.CloseKey key)) → (made ≡ call.CloseKey key → 2 ≤ old.opens) → 1 ≤ new.opens
few_left made old new key (inl more) two = omega (arith, more)
few_left made old new key (inr less) two = let some = two less.1 in let is = less.0 in omega (arith, is, some)

module _ {t u : Table} {m memory : Memory} {made : Call} where
  install_on : (other : Call) (key : Key) → Framed t u m memory made key.number → DueHolds other t m (install key) → DueHolds other u memory (install key)
  install_on other key (Stays inode slot) holds = (
    holds.0,
    record {
      row_is = ap (row_in_life key.generation) inode ∙ holds.1.row_is;
      opens = holds.1.opens;
      links = holds.1.links;
      dead = ap (λ (s : Slot). s.word.live) slot ∙ holds.1.dead;
      incore = λ none. holds.1.incore (sym (ap (λ (s : Slot). s.inode) slot) ∙ none);
    },
  )
  install_on other key (Repinned k same r) holds = absurd (true≢false (sym r.live ∙ ap (λ n. (cached_word m n).live) same ∙ holds.1.dead))

  mark_on : (other : Call) (key : Key) → OthersHold t made key → Framed t u m memory made key.number → DueHolds other t m (mark key) → DueHolds other u memory (mark key)
  mark_on other key two (Stays inode slot) holds = (
    holds.0,
    record {
      row_is = ap (row_in_life key.generation) inode ∙ holds.1.row_is;
      live = ap (λ (s : Slot). s.word.live) slot ∙ holds.1.live;
      generation = ap (λ (s : Slot). s.word.generation) slot ∙ holds.1.generation;
      pins = ap (λ (s : Slot). s.word.pins) slot ∙ holds.1.pins;
      some = holds.1.some;
      links = holds.1.links;
    },
  )
  mark_on other key two (Repinned k same r) holds =
      let life : k.generation ≡ key.generation = sym r.generation ∙ ap (λ n. (cached_word m n).generation) same ∙ holds.1.generation in
      let is : k ≡ key = λ i. record { number = same i; generation = life i } in
      let here : Repins t u m memory made key = subst (Repins t u m memory made) is r in
      let was : row_of t key ≡ Some here.old = row_here t key here.old here.was in
      let old_is : here.old ≡ holds.0 = same_Some here.old holds.0 (sym was ∙ holds.1.row_is) in (
        here.new,
        record {
          row_is = row_here u key here.new here.is;
          live = ap (λ (s : Slot). s.word.live) here.slot ∙ here.live;
          generation = ap (λ (s : Slot). s.word.generation) here.slot ∙ here.generation;
          pins = ap (λ (s : Slot). s.word.pins) here.slot;
          some = few_left made here.old here.new key here.by (λ close. two here.old close was);
          links = ap (λ n. n == 0) (here.links ∙ ap (λ (x : Row). x.links) old_is) ∙ holds.1.links;
        },
      )

  kill_on : (other : Call) (key : Key) → Framed t u m memory made key.number → DueHolds other t m (kill key) → DueHolds other u memory (kill key)
  kill_on other key (Stays inode slot) holds = record {
    live = ap (λ (s : Slot). s.word.live) slot ∙ holds.live;
    generation = ap (λ (s : Slot). s.word.generation) slot ∙ holds.generation;
    mark = ap (λ (s : Slot). s.word.unlinked) slot ∙ holds.mark;
    pins = ap (λ (s : Slot). s.word.pins) slot ∙ holds.pins;
    no_row = ap any_row inode ∙ holds.no_row;
  }
  kill_on other key (Repinned k same r) holds = absurd (none-some r.old (sym holds.no_row ∙ ap (λ n. any_row (inode_of t n)) (sym same) ∙ ap any_row r.was))

  pub dues_on : (first : Option Key) (other : Call) (at : Place) → ((n : ℕ) → due_number (due_at first other at) ≡ Some n → Framed t u m memory made n)
      → ((key : Key) → key_of other ≡ Some key → OthersHold t made key) → DueHolds other t m (due_at first other at) → DueHolds other u memory (due_at first other at)
  dues_on first other (place.InstallMade key) frame two holds = install_on other key (frame key.number refl) holds
  dues_on first (call.Link key) (place.Mark answer) frame two holds = mark_on (call.Link key) key (two key refl) (frame key.number refl) holds
  dues_on first (call.Unlink key) (place.Mark answer) frame two holds = mark_on (call.Unlink key) key (two key refl) (frame key.number refl) holds
  dues_on first other (place.Kill key others) frame two holds = kill_on other key (frame key.number refl) holds
  dues_on (Some key) other place.KillHead frame two holds = kill_on other key (frame key.number refl) holds
  dues_on first other at frame two holds = tt
