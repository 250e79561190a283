-- Rows of a table after one of its inodes changed.
use Rattle.std.proofs.Common.{◌≡◌, ◌≢◌, ◌==◌, ◌/◌, ◌%◌, ◌<◌, ◌≤◌, ℕ, zero, suc, true, false, List, [], ◌∷◌, None, Some, if◌then◌else◌, length, slice_get, slice_set, slice_index_or, refl, sym, ap, ◌∙◌, inl, inr, arith}
use Rattle.std.proofs.lemmas.Option.{none-some}
use Rattle.std.proofs.lemmas.Bool.{cases_eq, cases_lt, eq-eqb, eqb-true}
use Rattle.life_limits.specs.declared.TheConstants.{CHUNK_INODES, GROUP_NUMBERS}
use Rattle.life_table.specs.declared.key.Key.{Key}
use Rattle.life_table.specs.declared.types.Row.{Row}
use Rattle.life_table.specs.declared.table.Inode.{Inode}
use Rattle.life_table.specs.declared.table.Table.{Table}
use Rattle.life_table.specs.Table.{Group, group_at, in_use, inode_in, inode_of, row_in_life, row_of, set_inode, start_of, with_group, with_inode, with_row}
use Rattle.actor_world.proofs.Lists.{read_other, read_past, read_same, set_past}
use Rattle.actor_world.proofs.LiveWords.{has_inode}

get_set_same : {X : Type 0} (xs : List X) (i : ℕ) (old new : X) → slice_get xs i ≡ Some old → slice_get (slice_set xs i new) i ≡ Some new
get_set_same [] i old new at = absurd (none-some old at)
get_set_same (x ∷ xs) zero old new at = refl
get_set_same (x ∷ xs) (suc i) old new at = get_set_same xs i old new at

get_set_other : {X : Type 0} (xs : List X) (i j : ℕ) (new : X) → i ≢ j → slice_get (slice_set xs i new) j ≡ slice_get xs j
get_set_other [] i j new apart = refl
get_set_other (x ∷ xs) zero zero new apart = absurd (apart refl)
get_set_other (x ∷ xs) zero (suc j) new apart = refl
get_set_other (x ∷ xs) (suc i) zero new apart = refl
get_set_other (x ∷ xs) (suc i) (suc j) new apart = get_set_other xs i j new (λ e. apart (ap suc e))

inode_in_same : (group : Group) (agino : ℕ) (old new : Inode) → inode_in group agino ≡ Some old → inode_in (set_inode group agino new) agino ≡ Some new
unfolding inode_in set_inode
inode_in_same [] agino old new at = absurd (none-some old at)
inode_in_same (chunk ∷ chunks) agino old new at =
    elim (chunk.start == start_of agino) as (λ c. chunk.start == start_of agino ≡ c
    → (if c then slice_get chunk.inodes (agino % CHUNK_INODES) else inode_in chunks agino) ≡ Some old
    → inode_in (if c then record { start = chunk.start; inodes = slice_set chunk.inodes (agino % CHUNK_INODES) new } ∷ chunks else chunk ∷ set_inode chunks agino new) agino ≡ Some new) [
      | true ↦ λ is here. rw is (get_set_same chunk.inodes (agino % CHUNK_INODES) old new here)
      | false ↦ λ is here. rw is (inode_in_same chunks agino old new here)
    ] refl at

same_place : (a b : ℕ) → start_of a ≡ start_of b → a % CHUNK_INODES ≡ b % CHUNK_INODES → a ≡ b
same_place a b starts places = omega arith

inode_in_other : (group : Group) (agino other : ℕ) (new : Inode) → agino ≢ other → inode_in (set_inode group agino new) other ≡ inode_in group other
unfolding inode_in set_inode
inode_in_other [] agino other new apart = refl
inode_in_other (chunk ∷ chunks) agino other new apart =
    elim (chunk.start == start_of agino) as (λ c. chunk.start == start_of agino ≡ c
    → inode_in (if c then record { start = chunk.start; inodes = slice_set chunk.inodes (agino % CHUNK_INODES) new } ∷ chunks else chunk ∷ set_inode chunks agino new) other
    ≡ (if chunk.start == start_of other then slice_get chunk.inodes (other % CHUNK_INODES) else inode_in chunks other)) [
      | true ↦ λ is.
          elim (chunk.start == start_of other) as (λ d. chunk.start == start_of other ≡ d
          → (if d then slice_get (slice_set chunk.inodes (agino % CHUNK_INODES) new) (other % CHUNK_INODES) else inode_in chunks other)
          ≡ (if d then slice_get chunk.inodes (other % CHUNK_INODES) else inode_in chunks other)) [
            | true ↦ λ also. get_set_other chunk.inodes (agino % CHUNK_INODES) (other % CHUNK_INODES) new
                (λ places. apart (same_place agino other (sym (eqb-true chunk.start (start_of agino) is) ∙ eqb-true chunk.start (start_of other) also) places))
            | false ↦ λ also. refl
          ] refl
      | false ↦ λ is. ap (λ o. if chunk.start == start_of other then slice_get chunk.inodes (other % CHUNK_INODES) else o) (inode_in_other chunks agino other new apart)
    ] refl

-- a group of the table that was changed
pub group_same : (t : Table) (g : ℕ) (group : Group) → g < length t.groups → group_at (with_group t g group) g ≡ group
group_same t g group there = read_same t.groups g group [] there

pub group_other : (t : Table) (g h : ℕ) (group : Group) → h ≢ g → group_at (with_group t g group) h ≡ group_at t h
group_other t g h group apart = read_other t.groups g h group [] apart

pub group_past : (t : Table) (g : ℕ) → length t.groups ≤ g → group_at t g ≡ []
group_past t g high = read_past t.groups g [] high

-- a number with an inode is in a group of the table
has_group : (t : Table) (number : ℕ) (inode : Inode) → inode_of t number ≡ Some inode → number / GROUP_NUMBERS < length t.groups
unfolding inode_of inode_in
has_group t number inode at =
    elim (cases_lt (number / GROUP_NUMBERS) (length t.groups)) [
      | inl low ↦ low
      | inr high ↦ absurd (none-some inode (sym (ap (λ group. inode_in group (number % GROUP_NUMBERS)) (group_past t (number / GROUP_NUMBERS) high)) ∙ at))
    ]

pub inode_same : (t : Table) (number : ℕ) (old new : Inode) → inode_of t number ≡ Some old → inode_of (with_inode t number new) number ≡ Some new
unfolding inode_of with_inode
inode_same t number old new at =
    let g = number / GROUP_NUMBERS in
    let agino = number % GROUP_NUMBERS in
    ap (λ group. inode_in group agino) (group_same t g (set_inode (group_at t g) agino new) (has_group t number old at))
    ∙ inode_in_same (group_at t g) agino old new at

-- numbers of one group that have one number there are one number
same_number : (a b : ℕ) → a / GROUP_NUMBERS ≡ b / GROUP_NUMBERS → a % GROUP_NUMBERS ≡ b % GROUP_NUMBERS → a ≡ b
same_number a b groups aginos = omega arith

-- a group, after one that may not be there was changed to what leaves a group without chunks
pub group_after : (t : Table) (g : ℕ) (change : Group → Group) → change [] ≡ [] → group_at (with_group t g (change (group_at t g))) g ≡ change (group_at t g)
group_after t g change none =
    elim (cases_lt g (length t.groups)) [
      | inl low ↦ group_same t g (change (group_at t g)) low
      | inr high ↦
          let before : group_at t g ≡ [] = group_past t g high in
          let same : group_at (with_group t g (change (group_at t g))) g ≡ group_at t g = ap (λ (gs : List Group). slice_index_or gs g []) (set_past t.groups g (change (group_at t g)) high) in
          same ∙ before ∙ sym none ∙ ap change (sym before)
    ]

pub inode_other : (t : Table) (number other : ℕ) (new : Inode) → number ≢ other → inode_of (with_inode t number new) other ≡ inode_of t other
unfolding inode_of with_inode set_inode
inode_other t number other new apart =
    let g = number / GROUP_NUMBERS in
    let agino = number % GROUP_NUMBERS in
    elim (cases_eq (other / GROUP_NUMBERS) g) [
      | inl same ↦
          let change : Group → Group = λ group. set_inode group agino new in
          rw same (
          ap (λ group. inode_in group (other % GROUP_NUMBERS)) (group_after t g change refl)
          ∙ inode_in_other (group_at t g) agino (other % GROUP_NUMBERS) new (λ e. apart (same_number number other (sym same) e)))
      | inr differ ↦ ap (λ group. inode_in group (other % GROUP_NUMBERS)) (group_other t g (other / GROUP_NUMBERS) (set_inode (group_at t g) agino new) differ)
    ]

-- ---- rows

-- the row of the key that was changed
pub row_same : (t : Table) (key : Key) (old new : Row) → row_of t key ≡ Some old → row_of (with_row t key new) key ≡ Some new
row_same t key old new at =
    let has = has_inode (inode_of t key.number) key.generation old at in
    ap (row_in_life key.generation) (inode_same t key.number has.inode (in_use key new) has.at)
    ∙ ap (λ b. if b then Some new else None) (eq-eqb key.generation key.generation refl)

-- of a key of another number
pub row_other : (t : Table) (key : Key) (number : ℕ) (new : Inode) → number ≢ key.number → row_of (with_inode t number new) key ≡ row_of t key
row_other t key number new apart = ap (row_in_life key.generation) (inode_other t number key.number new apart)
