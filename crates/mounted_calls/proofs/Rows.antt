-- A row that nobody has and that has no links comes to be in no call of one group.
use Rattle.std.proofs.Common.{◌≡◌, ◌==◌, ◌/◌, ◌%◌, ◌≤◌, ◌⊎◌, ℕ, zero, suc, true, false, List, [], ◌∷◌, Option, None, Some, is_some, if◌then◌else◌, nat_lt, slice_get, slice_set, slice_index_or, replicate, refl, sym, ap, ◌∙◌, inl, inr, arith}
use Rattle.std.proofs.lemmas.Option.{none-some, same_Some}
use Rattle.life_limits.specs.declared.TheConstants.{CHUNK_INODES, GROUP_NUMBERS}
use Rattle.life_table.specs.declared.key.Key.{Key}
use Rattle.life_table.specs.declared.types.Row.{Row}
use Rattle.life_table.specs.declared.types.Call.{Call}
use Rattle.life_table.specs.declared.types.Call.TheVariants as call
use Rattle.life_table.specs.declared.types.Reply.{Reply}
use Rattle.life_table.specs.declared.types.Reply.TheVariants as reply
use Rattle.life_table.specs.declared.table.Inode.{Inode}
use Rattle.life_table.specs.declared.table.Chunk.{Chunk}
use Rattle.life_table.specs.declared.table.Table.{Table}
use Rattle.life_table.specs.Table.{Group, group_at, in_use, inode_in, inode_of, row_in_life, row_of, set_inode, start_of, with_inode, with_row}
use Rattle.life_table.specs.Space.{chunk_place, insert_chunk, lowest_key, new_chunk, prepared, with_chunk}
use Rattle.life_table.specs.Legal.{Awaits, IsOpen, after_call, made_row, prepare, row_after, with_changed}
use Rattle.life_table.specs.History.{key_of}
use Rattle.mounted_calls.specs.Calls.{IsOnGroup}
use Rattle.mounted_calls.specs.Running.{NoneAwaits}

-- ---- lists

in_set : {X : Type 0} (xs : List X) (i j : ℕ) (new x : X) → slice_get (slice_set xs i new) j ≡ Some x → (x ≡ new) ⊎ (slice_get xs j ≡ Some x)
in_set [] i j new x at = absurd (none-some x at)
in_set (y ∷ xs) zero zero new x at = inl (sym (same_Some new x at))
in_set (y ∷ xs) zero (suc j) new x at = inr at
in_set (y ∷ xs) (suc i) zero new x at = inr at
in_set (y ∷ xs) (suc i) (suc j) new x at = in_set xs i j new x at

in_groups : (xs : List Group) (i j : ℕ) (group : Group) → ((i ≡ j) × (slice_index_or (slice_set xs i group) j [] ≡ group))
    ⊎ (slice_index_or (slice_set xs i group) j [] ≡ slice_index_or xs j [])
in_groups [] i j group = inr refl
in_groups (x ∷ xs) zero zero group = inl (refl, refl)
in_groups (x ∷ xs) zero (suc j) group = inr refl
in_groups (x ∷ xs) (suc i) zero group = inr refl
in_groups (x ∷ xs) (suc i) (suc j) group = elim (in_groups xs i j group) [ inl same ↦ inl (ap suc same.0, same.1) | inr other ↦ inr other ]

in_copies : (n k : ℕ) (y x : Inode) → slice_get (replicate n y) k ≡ Some x → x ≡ y
in_copies zero k y x at = absurd (none-some x at)
in_copies (suc n) zero y x at = sym (same_Some y x at)
in_copies (suc n) (suc k) y x at = in_copies n k y x at

-- ---- inodes

inode_set : (group : Group) (agino other : ℕ) (new x : Inode) → inode_in (set_inode group agino new) other ≡ Some x → (x ≡ new) ⊎ (inode_in group other ≡ Some x)
unfolding inode_in set_inode
inode_set [] agino other new x at = absurd (none-some x at)
inode_set (chunk ∷ chunks) agino other new x at =
    elim (chunk.start == start_of agino) as (λ c. inode_in (if c then record { start = chunk.start; inodes = slice_set chunk.inodes (agino % CHUNK_INODES) new } ∷ chunks else chunk ∷ set_inode chunks agino new) other ≡ Some x
    → (x ≡ new) ⊎ ((if chunk.start == start_of other then slice_get chunk.inodes (other % CHUNK_INODES) else inode_in chunks other) ≡ Some x)) [
      | true ↦
          elim (chunk.start == start_of other) as (λ d. (if d then slice_get (slice_set chunk.inodes (agino % CHUNK_INODES) new) (other % CHUNK_INODES) else inode_in chunks other) ≡ Some x
          → (x ≡ new) ⊎ ((if d then slice_get chunk.inodes (other % CHUNK_INODES) else inode_in chunks other) ≡ Some x)) [
            | true ↦ λ found. in_set chunk.inodes (agino % CHUNK_INODES) (other % CHUNK_INODES) new x found
            | false ↦ λ found. inr found
          ]
      | false ↦
          elim (chunk.start == start_of other) as (λ d. (if d then slice_get chunk.inodes (other % CHUNK_INODES) else inode_in (set_inode chunks agino new) other) ≡ Some x
          → (x ≡ new) ⊎ ((if d then slice_get chunk.inodes (other % CHUNK_INODES) else inode_in chunks other) ≡ Some x)) [
            | true ↦ λ found. inr found
            | false ↦ λ found. inode_set chunks agino other new x found
          ]
    ] at

inode_inserted : (new : Chunk) (group : Group) (agino : ℕ) (x : Inode) → inode_in (insert_chunk new group) agino ≡ Some x
    → (inode_in group agino ≡ Some x) ⊎ (slice_get new.inodes (agino % CHUNK_INODES) ≡ Some x)
unfolding inode_in insert_chunk
inode_inserted new [] agino x at =
    elim (new.start == start_of agino) as (λ c. (if c then slice_get new.inodes (agino % CHUNK_INODES) else None) ≡ Some x → (inode_in [] agino ≡ Some x) ⊎ (slice_get new.inodes (agino % CHUNK_INODES) ≡ Some x)) [
      | true ↦ λ found. inr found
      | false ↦ λ found. inl found
    ] at
inode_inserted new (chunk ∷ chunks) agino x at =
    elim (nat_lt new.start chunk.start) as (λ c. inode_in (if c then new ∷ chunk ∷ chunks else chunk ∷ insert_chunk new chunks) agino ≡ Some x
    → ((if chunk.start == start_of agino then slice_get chunk.inodes (agino % CHUNK_INODES) else inode_in chunks agino) ≡ Some x) ⊎ (slice_get new.inodes (agino % CHUNK_INODES) ≡ Some x)) [
      | true ↦
          elim (new.start == start_of agino) as (λ d. (if d then slice_get new.inodes (agino % CHUNK_INODES) else (if chunk.start == start_of agino then slice_get chunk.inodes (agino % CHUNK_INODES) else inode_in chunks agino)) ≡ Some x
          → ((if chunk.start == start_of agino then slice_get chunk.inodes (agino % CHUNK_INODES) else inode_in chunks agino) ≡ Some x) ⊎ (slice_get new.inodes (agino % CHUNK_INODES) ≡ Some x)) [
            | true ↦ λ found. inr found
            | false ↦ λ found. inl found
          ]
      | false ↦
          elim (chunk.start == start_of agino) as (λ d. (if d then slice_get chunk.inodes (agino % CHUNK_INODES) else inode_in (insert_chunk new chunks) agino) ≡ Some x
          → ((if d then slice_get chunk.inodes (agino % CHUNK_INODES) else inode_in chunks agino) ≡ Some x) ⊎ (slice_get new.inodes (agino % CHUNK_INODES) ≡ Some x)) [
            | true ↦ λ found. inl found
            | false ↦ λ found. inode_inserted new chunks agino x found
          ]
    ] at

unused : (block k : ℕ) (x : Inode) → slice_get (new_chunk block).inodes k ≡ Some x → x.row ≡ None
unfolding new_chunk
unused block k x at = ap (λ (i : Inode). i.row) (in_copies CHUNK_INODES k (record { generation = 1; row = None }) x at)

inode_prepared : (blocks g : ℕ) (group : Group) (agino : ℕ) (x : Inode) → inode_in (prepared blocks g group) agino ≡ Some x → (inode_in group agino ≡ Some x) ⊎ (x.row ≡ None)
unfolding prepared
inode_prepared blocks g group agino x at =
    elim (is_some (lowest_key g group)) as (λ c. inode_in (if c then group else with_chunk group (chunk_place blocks group)) agino ≡ Some x → (inode_in group agino ≡ Some x) ⊎ (x.row ≡ None)) [
      | true ↦ λ found. inl found
      | false ↦
          elim (chunk_place blocks group) as (λ (o : Option ℕ). inode_in (with_chunk group o) agino ≡ Some x → (inode_in group agino ≡ Some x) ⊎ (x.row ≡ None)) [
            | None ↦ λ found. inl found
            | Some block ↦ λ found. elim (inode_inserted (new_chunk block) group agino x found) [ inl was ↦ inl was | inr made ↦ inr (unused block (agino % CHUNK_INODES) x made) ]
          ]
    ] at

-- ---- rows

-- a row is that of an inode
record Found (generation : ℕ) (o : Option Inode) (row : Row) : Type 0 where
  pub inode : Inode
  pub at : o ≡ Some inode
  pub has : inode.row ≡ Some row

found_row : (generation : ℕ) (o : Option Inode) (row : Row) → row_in_life generation o ≡ Some row → Found generation o row
found_row generation None row at = absurd (none-some row at)
found_row generation (Some inode) row at =
    elim (inode.generation == generation) as (λ c. (if c then inode.row else None) ≡ Some row → Found generation (Some inode) row) [
      | true ↦ λ has. record { inode = inode; at = refl; has = has }
      | false ↦ λ has. absurd (none-some row has)
    ] at

-- each inode of a table is one of another in which no row awaits, or one whose row does not
awaits_from : (t u : Table) → NoneAwaits t
    → ((number : ℕ) (x : Inode) → inode_of u number ≡ Some x → ((row : Row) → x.row ≡ Some row → ¬ Awaits row) ⊎ (inode_of t number ≡ Some x)) → NoneAwaits u
awaits_from t u none from key row at =
    let found = found_row key.generation (inode_of u key.number) row at in
    elim (from key.number found.inode found.at) [
      | inl new ↦ new row found.has
      | inr was ↦ none key row (ap (row_in_life key.generation) (was ∙ sym found.at) ∙ at)
    ]

awaits_set : (t : Table) (number : ℕ) (new : Inode) → NoneAwaits t → ((row : Row) → new.row ≡ Some row → ¬ Awaits row) → NoneAwaits (with_inode t number new)
unfolding inode_of with_inode
awaits_set t number new none fresh =
    awaits_from t (with_inode t number new) none (λ other x at.
    let changed : Group = set_inode (group_at t (number / GROUP_NUMBERS)) (number % GROUP_NUMBERS) new in
    elim (in_groups t.groups (number / GROUP_NUMBERS) (other / GROUP_NUMBERS) changed) [
      | inl here ↦
          elim (inode_set (group_at t (number / GROUP_NUMBERS)) (number % GROUP_NUMBERS) (other % GROUP_NUMBERS) new x (ap (λ (gr : Group). inode_in gr (other % GROUP_NUMBERS)) (sym here.1) ∙ at)) [
            | inl is ↦ inl (λ row has. fresh row (ap (λ (i : Inode). i.row) (sym is) ∙ has))
            | inr was ↦ inr (ap (λ (h : ℕ). inode_in (group_at t h) (other % GROUP_NUMBERS)) (sym here.0) ∙ was)
          ]
      | inr apart ↦ inr (ap (λ (gr : Group). inode_in gr (other % GROUP_NUMBERS)) (sym apart) ∙ at)
    ])

awaits_prepared : (t : Table) (g : ℕ) → NoneAwaits t → NoneAwaits (prepare t g)
unfolding inode_of
awaits_prepared t g none =
    awaits_from t (prepare t g) none (λ other x at.
    elim (in_groups t.groups g (other / GROUP_NUMBERS) (prepared t.blocks g (group_at t g))) [
      | inl here ↦
          elim (inode_prepared t.blocks g (group_at t g) (other % GROUP_NUMBERS) x (ap (λ (gr : Group). inode_in gr (other % GROUP_NUMBERS)) (sym here.1) ∙ at)) [
            | inl was ↦ inr (ap (λ (h : ℕ). inode_in (group_at t h) (other % GROUP_NUMBERS)) (sym here.0) ∙ was)
            | inr empty ↦ inl (λ row has. absurd (none-some row (sym empty ∙ has)))
          ]
      | inr apart ↦ inr (ap (λ (gr : Group). inode_in gr (other % GROUP_NUMBERS)) (sym apart) ∙ at)
    ])

held_row : (row new : Row) → 1 ≤ row.opens → Some row ≡ Some new → ¬ Awaits new
held_row row new some same (links, opens) =
    let e : row.opens ≡ new.opens = ap (λ (r : Row). r.opens) (same_Some row new same) in
    omega (arith, some, e, opens)

awaits_made : (t : Table) (g links : ℕ) (key : Key) → NoneAwaits t → NoneAwaits (with_row (prepare t g) key (made_row links))
awaits_made t g links key none = awaits_set (prepare t g) key.number (in_use key (made_row links)) (awaits_prepared t g none) (λ row has. held_row (made_row links) row (omega arith) has)

awaits_turned : (t : Table) (key : Key) (called : Call) (o : Option Row) → NoneAwaits t → IsOpen o → ((row : Row) → (row_after t row called).opens ≡ row.opens) → NoneAwaits (with_changed t key o called)
awaits_turned t key called None none held same = absurd held
awaits_turned t key called (Some row) none held same =
    awaits_set t key.number (in_use key (row_after t row called)) none (λ new has. held_row (row_after t row called) new (omega (arith, held, same row)) has)

-- A call of one group, on a key that is held where it is on one, leaves no row that awaits.
pub awaits_after : (t : Table) (called : Call) (answer : Reply) → IsOnGroup called → NoneAwaits t → ((key : Key) → key_of called ≡ Some key → IsOpen (row_of t key)) → NoneAwaits (after_call t called answer)
awaits_after t (call.Create g) (reply.Made key) on none held = awaits_made t g 1 key none
awaits_after t (call.Tmpfile g) (reply.Made key) on none held = awaits_made t g 0 key none
awaits_after t (call.OpenKey key) answer on none held = absurd on
awaits_after t (call.CloseKey key) answer on none held = absurd on
awaits_after t (call.Link key) reply.Done on none held = awaits_turned t key (call.Link key) (row_of t key) none (held key refl) (λ row. refl)
awaits_after t (call.Unlink key) reply.Done on none held = awaits_turned t key (call.Unlink key) (row_of t key) none (held key refl) (λ row. refl)
awaits_after t (call.Grow key count) reply.Done on none held = awaits_turned t key (call.Grow key count) (row_of t key) none (held key refl) (λ row. refl)
awaits_after t (call.Cut key count) reply.Done on none held = awaits_turned t key (call.Cut key count) (row_of t key) none (held key refl) (λ row. refl)
awaits_after t called answer on none held = none
