-- A key that is settled stays so, whatever legally happens.
use Rattle.std.proofs.Common.{◌≡◌, ◌<◌, ◌≤◌, ◌+◌, ◌/◌, ◌%◌, ◌==◌, ◌++◌, ◌⊎◌, inl, inr, ℕ, zero, suc, true, false, List, [], ◌∷◌, Option, None, Some, IsSome, IsSomeAnd, is_none, if◌then◌else◌, nat_lt, length, slice_get, slice_set, take, drop, append-nil, append_assoc, refl, sym, ap, subst, ◌∙◌, arith}
use Rattle.std.specs.List.{AllByRecursion}
use Rattle.std.proofs.lemmas.List.{take-append-drop}
use Rattle.std.proofs.lemmas.Option.{none-some, same_Some}
use Rattle.std.proofs.lemmas.Bool.{and_parts, cases_eq, eq-eqb, eqb-true, ne_eqb, true≢false}
use Rattle.life_limits.specs.declared.TheConstants.{CHUNK_INODES, GROUP_NUMBERS, MAX_GENERATION}
use Rattle.life_table.specs.declared.key.Key.{Key}
use Rattle.life_table.specs.declared.types.Row.{Row}
use Rattle.life_table.specs.declared.types.Call.{Call}
use Rattle.life_table.specs.declared.types.Call.TheVariants as call
use Rattle.life_table.specs.declared.types.Reply.{Reply}
use Rattle.life_table.specs.declared.types.Reply.TheVariants as reply
use Rattle.life_table.specs.declared.types.Event.{Event}
use Rattle.life_table.specs.declared.types.Event.TheVariants.{Called, Freed}
use Rattle.life_table.specs.declared.types.Entry.{Entry}
use Rattle.life_table.specs.declared.table.Inode.{Inode}
use Rattle.life_table.specs.declared.table.Chunk.{Chunk}
use Rattle.life_table.specs.declared.table.Table.{Table}
use Rattle.life_table.specs.Table.{Group, group_at, in_use, inode_in, inode_of, row_in_life, row_of, set_inode, start_of, with_group, with_inode, with_row}
use Rattle.life_table.specs.Space.{is_free, lowest_key, prepared}
use Rattle.life_table.specs.Legal.{Awaits, IsNextKey, IsOpen, KeyReplies, Permits, after_call, freed, made_row, prepare, row_after, with_changed}
use Rattle.life_table.specs.History.{AreByHolders, Happens, IsByHolder, IsHeld, Leads, LegalHistory, after_entries, after_event, key_of}
use Rattle.life_table.specs.WellFormed.{ChunksAscend, IsTable}
use Rattle.actor_world.specs.Moves.{is_awaiting_row}
use Rattle.actor_world.specs.Words.{any_row}
use Rattle.actor_world.specs.Licence.{queue_after, queue_after_own, queue_at, queue_from, table_at}
use Rattle.actor_world.specs.Settled.{IsPast, IsSettled}
use Rattle.actor_world.proofs.CommitSteps.{after_one}
use Rattle.actor_world.proofs.Frames.{inode_is}
use Rattle.actor_world.proofs.Holding.{legal_push}
use Rattle.actor_world.proofs.Lists.{take_all, all_push, all_weaker, set-length, the_some}
use Rattle.actor_world.proofs.Looks.{group_same, inode_other, inode_same}
use Rattle.actor_world.proofs.Picks.{AreLaid, IsLaid, free_picks, picks, picks_all, table_laid}
use Rattle.actor_world.proofs.Prepares.{LowestIsFree, made_is, prepare_stays}
use Rattle.actor_world.proofs.TurnsFound.{Laws}
use Rattle.actor_world.proofs.WordSteps.{changed_other}

-- ---- the inode of a number after an event

-- its life does not fall; where its row awaits it stays as it is, or its next life begins; and where it has a row it has one,
-- or its next life begins
pub record Follows (inode later : Inode) : Type 0 where
  pub rises : inode.generation ≤ later.generation
  pub awaits : IsSomeAnd inode.row Awaits → (later ≡ inode) ⊎ (inode.generation < later.generation)
  pub rows : IsSome inode.row → IsSome later.row ⊎ (inode.generation < later.generation)

abbrev pub Onward : Option Inode → Inode → Type 0
Onward o inode = (later : Inode) × (o ≡ Some later) × Follows inode later

follows_itself : (inode : Inode) → Follows inode inode
follows_itself inode = record { rises = omega arith; awaits = λ awaits. inl refl; rows = λ some. inl some }

stays_on : (o : Option Inode) (inode : Inode) → o ≡ Some inode → Onward o inode
stays_on o inode is = (inode, is, follows_itself inode)

-- a row that does not await changed
changed_follows : (t : Table) (key : Key) (made : Call) (row : Row) → row_of t key ≡ Some row → (Awaits row → ⊥) → (n : ℕ) (inode : Inode) → inode_of t n ≡ Some inode
    → Onward (inode_of (with_changed t key (row_of t key) made) n) inode
changed_follows t key made row is stays n inode at =
    elim (cases_eq n key.number) [
      | inl same ↦
          let here : inode ≡ in_use key row = same_Some inode (in_use key row) (sym at ∙ ap (λ k. inode_of t k) same ∙ inode_is t key row is) in (
            in_use key (row_after t row made),
            ap (λ k. inode_of (with_changed t key (row_of t key) made) k) same ∙ ap (λ (o : Option Row). inode_of (with_changed t key o made) key.number) is
                ∙ inode_same t key.number (in_use key row) (in_use key (row_after t row made)) (inode_is t key row is),
            subst (λ (x : Inode). Follows x (in_use key (row_after t row made))) (sym here) (record { rises = omega arith; awaits = λ awaits. absurd (stays awaits); rows = λ some. inl refl }),
          )
      | inr apart ↦ stays_on _ inode (changed_other t key (row_of t key) made n apart ∙ at)
    ]

-- ---- a new row

-- a group whose inodes are numbered right after one of them was changed was so before
starts_before : (bound : ℕ) (group : Group) (agino : ℕ) (new : Inode) → AllByRecursion (λ (later : Chunk). bound < later.start) (set_inode group agino new)
    → AllByRecursion (λ (later : Chunk). bound < later.start) group
unfolding set_inode
starts_before bound [] agino new all = tt
starts_before bound (chunk ∷ chunks) agino new all =
    elim (chunk.start == start_of agino) as (λ b. AllByRecursion (λ (later : Chunk). bound < later.start)
    (if b then record { start = chunk.start; inodes = slice_set chunk.inodes (agino % CHUNK_INODES) new } ∷ chunks else chunk ∷ set_inode chunks agino new)
    → AllByRecursion (λ (later : Chunk). bound < later.start) (chunk ∷ chunks)) [
      | true ↦ λ all. all
      | false ↦ λ all. (all.0, starts_before bound chunks agino new all.1)
    ] all

laid_set : (chunk : Chunk) (i : ℕ) (new : Inode) → IsLaid (record { start = chunk.start; inodes = slice_set chunk.inodes i new }) → IsLaid chunk
laid_set chunk i new laid = record { start = laid.start; whole = sym (set-length chunk.inodes i new) ∙ laid.whole; inside = laid.inside }

laid_before : (group : Group) (agino : ℕ) (new : Inode) → ChunksAscend (set_inode group agino new) → AllByRecursion IsLaid (set_inode group agino new) → AreLaid group
unfolding set_inode
laid_before [] agino new ascends all = record { ascends = tt; chunks = tt }
laid_before (chunk ∷ chunks) agino new ascends all =
    elim (chunk.start == start_of agino) as (λ b.
    ChunksAscend (if b then record { start = chunk.start; inodes = slice_set chunk.inodes (agino % CHUNK_INODES) new } ∷ chunks else chunk ∷ set_inode chunks agino new)
    → AllByRecursion IsLaid (if b then record { start = chunk.start; inodes = slice_set chunk.inodes (agino % CHUNK_INODES) new } ∷ chunks else chunk ∷ set_inode chunks agino new)
    → AreLaid (chunk ∷ chunks)) [
      | true ↦ λ ascends all. record { ascends = ascends; chunks = (laid_set chunk (agino % CHUNK_INODES) new all.0, all.1) }
      | false ↦ λ ascends all.
          let rest = laid_before chunks agino new ascends.1 all.1 in
          record { ascends = (starts_before chunk.start chunks agino new ascends.0, rest.ascends); chunks = (all.0, rest.chunks) }
    ] ascends all

-- the lowest key of a group is in the life that its number is in next
lowest_life : (g : ℕ) (group : Group) (key : Key) → AreLaid group → lowest_key g group ≡ Some key
    → (inode : Inode) × (inode_in group (key.number % GROUP_NUMBERS) ≡ Some inode) × (inode.generation ≡ key.generation) × (is_free inode ≡ true)
lowest_life g group key laid is =
    let P : Key → Type 0 = λ k. (inode : Inode) × (inode_in group (k.number % GROUP_NUMBERS) ≡ Some inode) × (inode.generation ≡ k.generation) × (is_free inode ≡ true) in
    all_first P (picks is_free g group)
    (picks_all is_free P g group laid (λ agino inode at few free. (inode, ap (λ n. inode_in group n) (omega (arith, few)) ∙ at, refl, free)))
    key (sym (ap (λ keys. slice_get keys 0) (free_picks g group)) ∙ is)
  where
    all_first : (P : Key → Type 0) (keys : List Key) → AllByRecursion P keys → (key : Key) → slice_get keys 0 ≡ Some key → P key
    all_first P [] all key at = absurd (none-some key at)
    all_first P (first ∷ keys) all key at = subst P (same_Some first key at) all.0

free_awaits_not : (inode : Inode) → is_free inode ≡ true → IsSomeAnd inode.row Awaits → ⊥
free_awaits_not inode free awaits =
    let none : is_none inode.row ≡ true = (and_parts (is_none inode.row) (nat_lt inode.generation MAX_GENERATION) free).0 in
    empty inode.row none awaits
  where
    empty : (o : Option Row) → is_none o ≡ true → IsSomeAnd o Awaits → ⊥
    empty None none awaits = awaits
    empty (Some row) none awaits = true≢false (sym none)

module _ (lowest : LowestIsFree) (t : Table) (g : ℕ) (key : Key) (links : ℕ) (next : IsNextKey t g key) (ok : IsTable t) (made_ok : IsTable (with_row (prepare t g) key (made_row links))) where
  group_is : key.number / GROUP_NUMBERS ≡ g
  group_is = (made_is lowest t g key links next made_ok).group

  ready : Group
  ready = prepared t.blocks g (group_at t g)

  ready_laid : AreLaid ready
  unfolding ready with_inode
  ready_laid =
      let there : group_at (with_row (prepare t g) key (made_row links)) g ≡ set_inode ready (key.number % GROUP_NUMBERS) (in_use key (made_row links)) =
      subst (λ h. group_at (with_group (prepare t g) h (set_inode (group_at (prepare t g) h) (key.number % GROUP_NUMBERS) (in_use key (made_row links)))) g ≡ set_inode ready (key.number % GROUP_NUMBERS) (in_use key (made_row links))) (sym group_is)
      (group_same (prepare t g) g (set_inode (group_at (prepare t g) g) (key.number % GROUP_NUMBERS) (in_use key (made_row links))) (subst (λ n. g < n) (sym (set-length t.groups g ready)) next.0)
      ∙ ap (λ group. set_inode group (key.number % GROUP_NUMBERS) (in_use key (made_row links))) (group_same t g ready next.0)) in
      let laid : AreLaid (set_inode ready (key.number % GROUP_NUMBERS) (in_use key (made_row links))) = subst AreLaid there (table_laid (with_row (prepare t g) key (made_row links)) g made_ok) in
      laid_before ready (key.number % GROUP_NUMBERS) (in_use key (made_row links)) laid.ascends laid.chunks

  life_is : (inode : Inode) × (inode_of (prepare t g) key.number ≡ Some inode) × (inode.generation ≡ key.generation) × (is_free inode ≡ true)
  unfolding ready inode_of
  life_is =
      let life = lowest_life g ready key ready_laid next.1 in
      (life.0, ap (λ h. inode_in (group_at (prepare t g) h) (key.number % GROUP_NUMBERS)) group_is ∙ ap (λ group. inode_in group (key.number % GROUP_NUMBERS)) (group_same t g ready next.0) ∙ life.1, life.2, life.3)

  -- no row was at the number
  pub bare_before : any_row (inode_of t key.number) ≡ None
  bare_before =
      let life = life_is in
      elim (prepare_stays t g key.number ok next.0) [
        | inl same ↦ ap any_row (sym same ∙ life.1) ∙ none_row life.0.row (and_parts (is_none life.0.row) (nat_lt life.0.generation MAX_GENERATION) life.3).0
        | inr comes ↦ ap any_row comes.0
      ]
    where
      none_row : (o : Option Row) → is_none o ≡ true → o ≡ None
      none_row None none = refl
      none_row (Some row) none = absurd (true≢false (sym none))

  -- an inode that is there stays as the group is made ready
  prepared_on : (n : ℕ) (inode : Inode) → inode_of t n ≡ Some inode → inode_of (prepare t g) n ≡ Some inode
  prepared_on n inode at = elim (prepare_stays t g n ok next.0) [
    | inl same ↦ same ∙ at
    | inr comes ↦ absurd (none-some inode (sym comes.0 ∙ at))
  ]

  made_follows : (n : ℕ) (inode : Inode) → inode_of t n ≡ Some inode → Onward (inode_of (with_row (prepare t g) key (made_row links)) n) inode
  made_follows n inode at =
      elim (cases_eq n key.number) [
        | inl same ↦
            let life = life_is in
            let is : inode ≡ life.0 = same_Some inode life.0 (sym (prepared_on n inode at) ∙ ap (λ k. inode_of (prepare t g) k) same ∙ life.1) in
            let new : Inode = in_use key (made_row links) in (
              new,
              ap (λ k. inode_of (with_row (prepare t g) key (made_row links)) k) same ∙ inode_same (prepare t g) key.number life.0 new life.1,
              subst (λ (x : Inode). Follows x new) (sym is) (record { rises = let g_is = life.2 in omega (arith, g_is); awaits = λ awaits. absurd (free_awaits_not life.0 life.3 awaits); rows = λ some. inl refl }),
            )
        | inr apart ↦ stays_on _ inode (inode_other (prepare t g) key.number n (in_use key (made_row links)) (λ e. apart (sym e)) ∙ prepared_on n inode at)
      ]

-- ---- one event

-- who calls on a key holds it
abbrev pub OpenIfOf : Table → Option Key → Type 0
OpenIfOf t None = Unit {0}
OpenIfOf t (Some key) = IsOpen (row_of t key)

open_awaits_not : (row : Row) → 1 ≤ row.opens → Awaits row → ⊥
open_awaits_not row some awaits = let none = awaits.1 in omega (arith, some, none)

held_follows : (t : Table) (key : Key) (made : Call) → IsOpen (row_of t key) → (n : ℕ) (inode : Inode) → inode_of t n ≡ Some inode
    → Onward (inode_of (with_changed t key (row_of t key) made) n) inode
held_follows t key made open_ n inode at =
    let row = the_some (λ (r : Row). 1 ≤ r.opens) (row_of t key) open_ in
    changed_follows t key made row.0 row.1 (open_awaits_not row.0 row.2) n inode at

open_follows : (t : Table) (key : Key) (o : Option Row) → row_of t key ≡ o → KeyReplies t o (call.OpenKey key) reply.Done → (n : ℕ) (inode : Inode) → inode_of t n ≡ Some inode
    → Onward (inode_of (with_changed t key (row_of t key) (call.OpenKey key)) n) inode
open_follows t key None is permits n inode at = absurd permits
open_follows t key (Some row) is permits n inode at = changed_follows t key (call.OpenKey key) row is permits.0 n inode at

call_follows : LowestIsFree → (t : Table) (made : Call) (answer : Reply) → IsTable t → IsTable (after_call t made answer) → Permits t made answer → OpenIfOf t (key_of made)
    → (n : ℕ) (inode : Inode) → inode_of t n ≡ Some inode → Onward (inode_of (after_call t made answer) n) inode
call_follows lowest t (call.Create g) (reply.Made key) ok made_ok permits open_ n inode at = made_follows lowest t g key 1 permits ok made_ok n inode at
call_follows lowest t (call.Tmpfile g) (reply.Made key) ok made_ok permits open_ n inode at = made_follows lowest t g key 0 permits ok made_ok n inode at
call_follows lowest t (call.OpenKey key) reply.Done ok made_ok permits open_ n inode at = open_follows t key (row_of t key) refl permits n inode at
call_follows lowest t (call.CloseKey key) reply.Done ok made_ok permits open_ n inode at = held_follows t key (call.CloseKey key) open_ n inode at
call_follows lowest t (call.Link key) reply.Done ok made_ok permits open_ n inode at = held_follows t key (call.Link key) open_ n inode at
call_follows lowest t (call.Unlink key) reply.Done ok made_ok permits open_ n inode at = held_follows t key (call.Unlink key) open_ n inode at
call_follows lowest t (call.Grow key count) reply.Done ok made_ok permits open_ n inode at = held_follows t key (call.Grow key count) open_ n inode at
call_follows lowest t (call.Cut key count) reply.Done ok made_ok permits open_ n inode at = held_follows t key (call.Cut key count) open_ n inode at
call_follows lowest t _ _ ok made_ok permits open_ n inode at = stays_on _ inode at

free_follows : (t : Table) (key : Key) → IsSomeAnd (row_of t key) Awaits → (n : ℕ) (inode : Inode) → inode_of t n ≡ Some inode → Onward (inode_of (freed t key) n) inode
free_follows t key awaits n inode at =
    elim (cases_eq n key.number) [
      | inl same ↦
          let row = the_some Awaits (row_of t key) awaits in
          let here : inode ≡ in_use key row.0 = same_Some inode (in_use key row.0) (sym at ∙ ap (λ k. inode_of t k) same ∙ inode_is t key row.0 row.1) in
          let new : Inode = record { generation = key.generation + 1; row = None } in (
            new,
            ap (λ k. inode_of (freed t key) k) same ∙ inode_same t key.number (in_use key row.0) new (inode_is t key row.0 row.1),
            subst (λ (x : Inode). Follows x new) (sym here) (record { rises = omega arith; awaits = λ awaits. inr (omega arith); rows = λ some. inr (omega arith) }),
          )
      | inr apart ↦ stays_on _ inode (inode_other t key.number n _ (λ e. apart (sym e)) ∙ at)
    ]

-- what an event by a holder rests on
abbrev pub ByHolder : Table → Event → Type 0
ByHolder t (Called made answer) = OpenIfOf t (key_of made)
ByHolder t (Freed key) = Unit {0}

event_follows : Laws → LowestIsFree → (t : Table) (event : Event) → IsTable t → Happens t event (after_event t event) → ByHolder t event → (n : ℕ) (inode : Inode) → inode_of t n ≡ Some inode
    → Onward (inode_of (after_event t event) n) inode
event_follows laws lowest t (Called made answer) ok happens open_ n inode at =
    let entry : Entry = record { actor = 0; event = Called made answer } in
    call_follows lowest t made answer ok (laws.history t (after_call t made answer) (entry ∷ []) ok (after_call t made answer, happens, refl)) happens.0 open_ n inode at
event_follows laws lowest t (Freed key) ok happens open_ n inode at = free_follows t key happens.0 n inode at

-- a row in the life of a key
pub row_in : (t : Table) (key : Key) (inode : Inode) → inode_of t key.number ≡ Some inode → inode.generation ≡ key.generation → row_of t key ≡ inode.row
row_in t key inode at life = ap (row_in_life key.generation) at ∙ ap (λ b. if b then inode.row else None) (eq-eqb inode.generation key.generation life)

-- the key has a row, or had one
abbrev pub HasLived : Table → Key → Type 0
HasLived t key = IsPast t key ⊎ IsSome (row_of t key)

some_row : (o : Option Row) → IsSome o → (row : Row) × (o ≡ Some row)
some_row None has = absurd (true≢false (sym has))
some_row (Some row) has = (row, refl)

module _ (laws : Laws) (lowest : LowestIsFree) (t : Table) (event : Event) (ok : IsTable t) (happens : Happens t event (after_event t event)) (by : ByHolder t event) (key : Key) where
  pub past_one : IsPast t key → IsPast (after_event t event) key
  past_one past =
      let on = event_follows laws lowest t event ok happens by key.number past.inode past.at in
      record { inode = on.0; at = on.1; later = let rises = on.2.rises in let later = past.later in omega (arith, rises, later) }

  awaits_one : IsSomeAnd (row_of t key) Awaits → IsSettled (after_event t event) key
  awaits_one awaits =
      let row = the_some Awaits (row_of t key) awaits in
      let on = event_follows laws lowest t event ok happens by key.number (in_use key row.0) (inode_is t key row.0 row.1) in
      elim (on.2.awaits row.2) [
        | inl same ↦
            let there : row_of (after_event t event) key ≡ Some row.0 = row_in (after_event t event) key on.0 on.1 (ap (λ (x : Inode). x.generation) same) ∙ ap (λ (x : Inode). x.row) same in
            inr (subst (λ (o : Option Row). IsSomeAnd o Awaits) (sym there) row.2)
        | inr rises ↦ inl (record { inode = on.0; at = on.1; later = rises })
      ]

  pub settled_one : IsSettled t key → IsSettled (after_event t event) key
  settled_one (inl past) = inl (past_one past)
  settled_one (inr awaits) = awaits_one awaits

  pub lived_one : HasLived t key → HasLived (after_event t event) key
  lived_one (inl past) = inl (past_one past)
  lived_one (inr has) =
      let row = some_row (row_of t key) has in
      let on = event_follows laws lowest t event ok happens by key.number (in_use key row.0) (inode_is t key row.0 row.1) in
      elim (on.2.rows refl) [
        | inl some ↦ elim (cases_eq on.0.generation key.generation) [
          | inl same ↦ inr (subst (λ (o : Option Row). IsSome o) (sym (row_in (after_event t event) key on.0 on.1 same)) some)
          | inr differ ↦ inl (record { inode = on.0; at = on.1; later = let rises = on.2.rises in omega (arith, rises, differ) })
        ]
        | inr rises ↦ inl (record { inode = on.0; at = on.1; later = rises })
      ]

-- a key whose life is past has no row
pub past_gone : (t : Table) (key : Key) → IsPast t key → row_of t key ≡ None
past_gone t key past =
    ap (row_in_life key.generation) past.at
    ∙ ap (λ b. if b then past.inode.row else None) (ne_eqb past.inode.generation key.generation (λ e. let later = past.later in omega (arith, later, e)))

-- a settled key that has no row is past
pub gone_past : (t : Table) (key : Key) → IsSettled t key → row_of t key ≡ None → IsPast t key
gone_past t key (inl past) gone = past
gone_past t key (inr awaits) gone = absurd (subst (λ (o : Option Row). IsSomeAnd o Awaits) gone awaits)

-- ---- histories

pub by_holder : Laws → (start t : Table) (before : List Entry) (a : ℕ) (event : Event) → IsTable start → LegalHistory start before t → IsByHolder before a event → ByHolder t event
by_holder laws start t before a (Called made answer) ok legal by = held_open (key_of made) by
  where
    held_open : (o : Option Key) → IsHeld before a o → OpenIfOf t o
    held_open None held = tt
    held_open (Some key) held = laws.held start t before a key ok legal held
by_holder laws start t before a (Freed key) ok legal by = tt

-- a legal history up to an entry, and what follows
pub record Parted (start : Table) (first rest : List Entry) (t : Table) : Type 0 where
  pub legal : LegalHistory start first (after_entries start first)
  pub leads : Leads (after_entries start first) rest t
  pub held : AreByHolders first rest

leads_parts : (start : Table) (first rest : List Entry) (t : Table) → Leads start (first ++ rest) t → Leads start first (after_entries start first) × Leads (after_entries start first) rest t
leads_parts start [] rest t leads = (refl, leads)
leads_parts start (entry ∷ first) rest t (next, one, leads) =
    let is : next ≡ after_event start entry.event = after_one start next entry.event one in
    let parts = leads_parts (after_event start entry.event) first rest t (subst (λ u. Leads u (first ++ rest) t) is leads) in
    ((after_event start entry.event, subst (Happens start entry.event) is one, parts.0), parts.1)

holders_parts : (before first rest : List Entry) → AreByHolders before (first ++ rest) → AreByHolders before first × AreByHolders (before ++ first) rest
holders_parts before [] rest all = (tt, subst (λ es. AreByHolders es rest) (sym (append-nil before)) all)
holders_parts before (entry ∷ first) rest all =
    let parts = holders_parts (before ++ entry ∷ []) first rest all.1 in
    ((all.0, parts.0), subst (λ es. AreByHolders es rest) (append_assoc before (entry ∷ []) first) parts.1)

pub parted : (start : Table) (first rest : List Entry) (t : Table) → LegalHistory start (first ++ rest) t → Parted start first rest t
parted start first rest t legal =
    let leads = leads_parts start first rest t legal.leads in
    let held = holders_parts [] first rest legal.held in
    record { legal = record { leads = leads.0; held = held.0 }; leads = leads.1; held = held.1 }

-- a row of which the test says that it awaits
pub awaits_from : (o : Option Row) → is_awaiting_row o ≡ true → IsSomeAnd o Awaits
awaits_from None is = absurd (true≢false (sym is))
awaits_from (Some row) is =
    let parts = and_parts (row.links == 0) (row.opens == 0) is in
    (eqb-true row.links 0 parts.0, eqb-true row.opens 0 parts.1)

pub awaits_to : (o : Option Row) → IsSomeAnd o Awaits → is_awaiting_row o ≡ true
awaits_to None awaits = absurd awaits
awaits_to (Some row) awaits = rw (eq-eqb row.links 0 awaits.0, eq-eqb row.opens 0 awaits.1)

split_at : (entries : List Entry) (i : ℕ) (entry : Entry) → slice_get entries i ≡ Some entry → (rest : List Entry) × (entries ≡ take i entries ++ entry ∷ rest)
split_at [] i entry at = absurd (none-some entry at)
split_at (first ∷ entries) zero entry at = (entries, ap (λ e. e ∷ entries) (same_Some first entry at))
split_at (first ∷ entries) (suc i) entry at =
    let rest = split_at entries i entry at in (rest.0, ap (λ es. first ∷ es) rest.1)

module _ (laws : Laws) (lowest : LowestIsFree) (start : Table) (ok : IsTable start) where
  table_ok : (before : List Entry) (t : Table) → LegalHistory start before t → IsTable t
  table_ok before t legal = laws.history start t before ok legal.leads

  -- the first of the entries that follow
  pub record One (before : List Entry) (entry : Entry) (rest : List Entry) (t u : Table) : Type 0 where
    pub ok_is : IsTable t
    pub happens : Happens t entry.event (after_event t entry.event)
    pub by : ByHolder t entry.event
    pub legal : LegalHistory start (before ++ entry ∷ []) (after_event t entry.event)
    pub leads : Leads (after_event t entry.event) rest u

  pub one_on : (before : List Entry) (entry : Entry) (rest : List Entry) (t u : Table) → LegalHistory start before t → Leads t (entry ∷ rest) u → AreByHolders before (entry ∷ rest) → One before entry rest t u
  one_on before entry rest t u legal (next, one, leads) all =
      let is : next ≡ after_event t entry.event = after_one t next entry.event one in
      let happens : Happens t entry.event (after_event t entry.event) = subst (Happens t entry.event) is one in
      record {
        ok_is = table_ok before t legal;
        happens = happens;
        by = by_holder laws start t before entry.actor entry.event ok legal all.0;
        legal = legal_push start before t (after_event t entry.event) entry legal happens all.0;
        leads = subst (λ v. Leads v rest u) is leads;
      }

  -- what each event of a legal history leaves so is so at its end
  kept_on : (P : Table → Type 0) → ((t : Table) (event : Event) → IsTable t → Happens t event (after_event t event) → ByHolder t event → P t → P (after_event t event))
      → (before rest : List Entry) (t u : Table) → LegalHistory start before t → Leads t rest u → AreByHolders before rest → P t → P u
  kept_on P keep before [] t u legal leads all is = subst P (sym leads) is
  kept_on P keep before (entry ∷ rest) t u legal leads all is =
      let one = one_on before entry rest t u legal leads all in
      kept_on P keep (before ++ entry ∷ []) rest (after_event t entry.event) u one.legal one.leads all.1 (keep t entry.event one.ok_is one.happens one.by is)

  kept_from : (P : Table → Type 0) → ((t : Table) (event : Event) → IsTable t → Happens t event (after_event t event) → ByHolder t event → P t → P (after_event t event))
      → (entries : List Entry) (t : Table) (n : ℕ) → LegalHistory start entries t → P (table_at start entries n) → P t
  kept_from P keep entries t n legal is =
      let parts = parted start (take n entries) (drop n entries) t (subst (λ es. LegalHistory start es t) (sym (take-append-drop n entries)) legal) in
      kept_on P keep (take n entries) (drop n entries) (table_at start entries n) t parts.legal parts.leads parts.held is

  -- a key that was settled after some entries is
  pub settled_from : (entries : List Entry) (t : Table) (n : ℕ) (key : Key) → LegalHistory start entries t → IsSettled (table_at start entries n) key → IsSettled t key
  settled_from entries t n key legal settled = kept_from (λ t. IsSettled t key) (λ t event ok_is happens by. settled_one laws lowest t event ok_is happens by key) entries t n legal settled

  -- a key that had a row after some entries has one, or is past
  pub lived_from : (entries : List Entry) (t : Table) (n : ℕ) (key : Key) → LegalHistory start entries t → IsSome (row_of (table_at start entries n) key) → HasLived t key
  lived_from entries t n key legal has = kept_from (λ t. HasLived t key) (λ t event ok_is happens by. lived_one laws lowest t event ok_is happens by key) entries t n legal (inr has)

  -- what an entry was answered was permitted at its table
  pub permitted_at : (entries : List Entry) (t : Table) (i a : ℕ) (made : Call) (answer : Reply) → LegalHistory start entries t → slice_get entries i ≡ Some (record { actor = a; event = Called made answer })
      → LegalHistory start (take i entries) (table_at start entries i) × Permits (table_at start entries i) made answer
  permitted_at entries t i a made answer legal at =
      let entry : Entry = record { actor = a; event = Called made answer } in
      let rest = split_at entries i entry at in
      let parts = parted start (take i entries) (entry ∷ rest.0) t (subst (λ es. LegalHistory start es t) rest.1 legal) in
      (parts.legal, (one_on (take i entries) entry rest.0 (table_at start entries i) t parts.legal parts.leads parts.held).happens.0)

  -- the keys that wait for a gc are settled
  own_settled : (t : Table) (event : Event) (keys : List Key) → AllByRecursion (IsSettled t) keys → AllByRecursion (IsSettled t) (queue_after_own t event keys)
  own_settled t (Called (call.CloseKey key) reply.Done) keys all =
      elim (is_awaiting_row (row_of t key)) as (λ b. is_awaiting_row (row_of t key) ≡ b → AllByRecursion (IsSettled t) (if b then keys ++ key ∷ [] else keys)) [
        | true ↦ λ is. all_push (IsSettled t) keys key all (inr (awaits_from (row_of t key) is))
        | false ↦ λ is. all
      ] refl
  own_settled t (Called call.Gc answer) keys all = tt
  own_settled t _ keys all = all

  queue_settled : (a : ℕ) (keys : List Key) (before rest : List Entry) (t u : Table) → LegalHistory start before t → Leads t rest u → AreByHolders before rest
      → AllByRecursion (IsSettled t) keys → AllByRecursion (IsSettled u) (queue_from t rest a keys)
  queue_settled a keys before [] t u legal leads all settled = subst (λ v. AllByRecursion (IsSettled v) keys) (sym leads) settled
  queue_settled a keys before (entry ∷ rest) t u legal leads all settled =
      let one = one_on before entry rest t u legal leads all in
      let v : Table = after_event t entry.event in
      let still : AllByRecursion (IsSettled v) keys = all_weaker (IsSettled t) (IsSettled v) keys (λ key. settled_one laws lowest t entry.event one.ok_is one.happens one.by key) settled in
      queue_settled a (queue_after a v entry keys) (before ++ entry ∷ []) rest v u one.legal one.leads all.1
      (elim (entry.actor == a) as (λ b. AllByRecursion (IsSettled v) (if b then queue_after_own v entry.event keys else keys)) [
        | true ↦ own_settled v entry.event keys still
        | false ↦ still
      ])

  pub queue_is_settled : (entries : List Entry) (t : Table) (a : ℕ) → LegalHistory start entries t → AllByRecursion (IsSettled t) (queue_at start entries (length entries) a)
  queue_is_settled entries t a legal =
      subst (λ es. AllByRecursion (IsSettled t) (queue_from start es a [])) (sym (take_all entries))
      (queue_settled a [] [] entries start t (record { leads = refl; held = tt }) legal.leads legal.held tt)

  -- a row that awaited after some entries
  pub awaited_settled : (entries : List Entry) (t : Table) (n : ℕ) (key : Key) → LegalHistory start entries t → IsSomeAnd (row_of (table_at start entries n) key) Awaits → IsSettled t key
  awaited_settled entries t n key legal awaits = settled_from entries t n key legal (inr awaits)
