-- The inode of a number, after a change of the group or of the table.
use Rattle.std.proofs.Common.{◌≡◌, ◌≢◌, ◌==◌, ◌/◌, ◌%◌, ◌<◌, ◌≤◌, ℕ, zero, suc, true, false, List, [], ◌∷◌, Some, if◌then◌else◌, nat_lt, length, slice_get, slice_set, slice_index_or, refl, sym, ap, ◌∙◌, inl, inr, arith}
use Rattle.std.specs.List.{AllByRecursion}
use Rattle.std.proofs.lemmas.Option.{none-some}
use Rattle.std.proofs.lemmas.List.{get_or-set_same, get_or-set_other}
use Rattle.std.proofs.lemmas.Bool.{eqb-true, ne_eqb, cases_eq, cases_lt}
use Rattle.life_limits.specs.declared.TheConstants.{CHUNK_INODES, GROUP_NUMBERS}
use Rattle.life_table.specs.declared.table.Inode.{Inode}
use Rattle.life_table.specs.declared.table.Chunk.{Chunk}
use Rattle.life_table.specs.declared.table.Table.{Table}
use Rattle.life_table.specs.Table.{Group, inode_in, set_inode, start_of, group_at, with_group, inode_of, with_inode}
use Rattle.life_table.specs.Space.{insert_chunk}

-- one element changed
pub slice_get-set_same : {X : Type 0} (xs : List X) (i : ℕ) (old new : X) → slice_get xs i ≡ Some old → slice_get (slice_set xs i new) i ≡ Some new
slice_get-set_same [] i old new at = absurd (none-some old at)
slice_get-set_same (x ∷ xs) zero old new at = refl
slice_get-set_same (x ∷ xs) (suc i) old new at = slice_get-set_same xs i old new at

pub slice_get-set_other : {X : Type 0} (xs : List X) (i j : ℕ) (new : X) → i ≢ j → slice_get (slice_set xs i new) j ≡ slice_get xs j
slice_get-set_other [] i j new apart = refl
slice_get-set_other (x ∷ xs) zero zero new apart = absurd (apart refl)
slice_get-set_other (x ∷ xs) zero (suc j) new apart = refl
slice_get-set_other (x ∷ xs) (suc i) zero new apart = refl
slice_get-set_other (x ∷ xs) (suc i) (suc j) new apart = slice_get-set_other xs i j new (λ e. apart (ap suc e))

-- the inode of the number that was changed
pub inode_in-set_same : (group : Group) (agino : ℕ) (old new : Inode) → inode_in group agino ≡ Some old → inode_in (set_inode group agino new) agino ≡ Some new
unfolding inode_in set_inode
inode_in-set_same [] agino old new at = absurd (none-some old at)
inode_in-set_same (chunk ∷ chunks) agino old new at =
    elim (chunk.start == start_of agino) as (λ c. chunk.start == start_of agino ≡ c
    → (if c then slice_get chunk.inodes (agino % CHUNK_INODES) else inode_in chunks agino) ≡ Some old
    → inode_in (if c then record { start = chunk.start; inodes = slice_set chunk.inodes (agino % CHUNK_INODES) new } ∷ chunks else chunk ∷ set_inode chunks agino new) agino ≡ Some new) [
      | true ↦ λ is here. rw is (slice_get-set_same chunk.inodes (agino % CHUNK_INODES) old new here)
      | false ↦ λ is here. rw is (inode_in-set_same chunks agino old new here)
    ] refl at

-- numbers of one chunk at one place are one number
same_agino : (a b : ℕ) → start_of a ≡ start_of b → a % CHUNK_INODES ≡ b % CHUNK_INODES → a ≡ b
same_agino a b starts places = omega arith

-- the inode of another number
pub inode_in-set_other : (group : Group) (agino other : ℕ) (new : Inode) → agino ≢ other → inode_in (set_inode group agino new) other ≡ inode_in group other
unfolding inode_in set_inode
inode_in-set_other [] agino other new apart = refl
inode_in-set_other (chunk ∷ chunks) agino other new apart =
    elim (chunk.start == start_of agino) as (λ c. chunk.start == start_of agino ≡ c
    → inode_in (if c then record { start = chunk.start; inodes = slice_set chunk.inodes (agino % CHUNK_INODES) new } ∷ chunks else chunk ∷ set_inode chunks agino new) other
    ≡ (if chunk.start == start_of other then slice_get chunk.inodes (other % CHUNK_INODES) else inode_in chunks other)) [
      | true ↦ λ is.
          elim (chunk.start == start_of other) as (λ d. chunk.start == start_of other ≡ d
          → (if d then slice_get (slice_set chunk.inodes (agino % CHUNK_INODES) new) (other % CHUNK_INODES) else inode_in chunks other)
          ≡ (if d then slice_get chunk.inodes (other % CHUNK_INODES) else inode_in chunks other)) [
            | true ↦ λ also. slice_get-set_other chunk.inodes (agino % CHUNK_INODES) (other % CHUNK_INODES) new
                (λ places. apart (same_agino agino other (sym (eqb-true chunk.start (start_of agino) is) ∙ eqb-true chunk.start (start_of other) also) places))
            | false ↦ λ also. refl
          ] refl
      | false ↦ λ is. ap (λ o. if chunk.start == start_of other then slice_get chunk.inodes (other % CHUNK_INODES) else o) (inode_in-set_other chunks agino other new apart)
    ] refl

-- no chunk of the group starts here
abbrev pub IsAbsent : ℕ → Group → Type 0
IsAbsent start group = AllByRecursion (λ (chunk : Chunk). chunk.start ≢ start) group

-- the inode of a number, after a chunk was added whose start was absent
pub inode_in-insert_chunk : (new : Chunk) (group : Group) (agino : ℕ) → IsAbsent new.start group
    → inode_in (insert_chunk new group) agino ≡ (if new.start == start_of agino then slice_get new.inodes (agino % CHUNK_INODES) else inode_in group agino)
unfolding inode_in insert_chunk
inode_in-insert_chunk new [] agino absent = refl
inode_in-insert_chunk new (chunk ∷ chunks) agino absent =
    elim (nat_lt new.start chunk.start) as (λ c. inode_in (if c then new ∷ chunk ∷ chunks else chunk ∷ insert_chunk new chunks) agino
    ≡ (if new.start == start_of agino then slice_get new.inodes (agino % CHUNK_INODES) else inode_in (chunk ∷ chunks) agino)) [
      | true ↦ refl
      | false ↦
          elim (chunk.start == start_of agino) as (λ d. chunk.start == start_of agino ≡ d
          → (if d then slice_get chunk.inodes (agino % CHUNK_INODES) else inode_in (insert_chunk new chunks) agino)
          ≡ (if new.start == start_of agino then slice_get new.inodes (agino % CHUNK_INODES) else (if d then slice_get chunk.inodes (agino % CHUNK_INODES) else inode_in chunks agino))) [
            | true ↦ λ is.
                let other : (new.start == start_of agino) ≡ false = ne_eqb new.start (start_of agino) (λ e. absent.0 (eqb-true chunk.start (start_of agino) is ∙ sym e)) in
                rw other
            | false ↦ λ is. inode_in-insert_chunk new chunks agino absent.1
          ] refl
    ]

-- a group of the table that was changed, or was not there
pub group_of-with_same : (t : Table) (g : ℕ) (group : Group) → g < length t.groups → group_at (with_group t g group) g ≡ group
group_of-with_same t g group there = get_or-set_same t.groups g group [] there

pub group_of-with_other : (t : Table) (g h : ℕ) (group : Group) → h ≢ g → group_at (with_group t g group) h ≡ group_at t h
group_of-with_other t g h group apart = get_or-set_other t.groups g h group [] apart

past : {X : Type 0} (xs : List X) (i : ℕ) (d : X) → length xs ≤ i → slice_index_or xs i d ≡ d
past [] i d high = refl
past (x ∷ xs) zero d high = absurd (omega arith)
past (x ∷ xs) (suc i) d high = past xs i d (omega arith)

set_past : {X : Type 0} (xs : List X) (i : ℕ) (x : X) → length xs ≤ i → slice_set xs i x ≡ xs
set_past [] i x high = refl
set_past (y ∷ xs) zero x high = absurd (omega arith)
set_past (y ∷ xs) (suc i) x high = ap (λ ys. y ∷ ys) (set_past xs i x (omega arith))

pub group_of_past : (t : Table) (g : ℕ) → length t.groups ≤ g → group_at t g ≡ []
group_of_past t g high = past t.groups g [] high

-- a number with an inode is in a group of the table
pub has_group : (t : Table) (number : ℕ) (inode : Inode) → inode_of t number ≡ Some inode → number / GROUP_NUMBERS < length t.groups
unfolding inode_of inode_in
has_group t number inode at =
    elim (cases_lt (number / GROUP_NUMBERS) (length t.groups)) [
      | inl low ↦ low
      | inr high ↦ absurd (none-some inode (sym (ap (λ group. inode_in group (number % GROUP_NUMBERS)) (group_of_past t (number / GROUP_NUMBERS) high)) ∙ at))
    ]

pub inode_of-with_same : (t : Table) (number : ℕ) (old new : Inode) → inode_of t number ≡ Some old → inode_of (with_inode t number new) number ≡ Some new
unfolding inode_of with_inode
inode_of-with_same t number old new at =
    let g = number / GROUP_NUMBERS in
    let agino = number % GROUP_NUMBERS in
    ap (λ group. inode_in group agino) (group_of-with_same t g (set_inode (group_at t g) agino new) (has_group t number old at))
    ∙ inode_in-set_same (group_at t g) agino old new at

-- numbers of one group that have one number there are one number
same_number : (a b : ℕ) → a / GROUP_NUMBERS ≡ b / GROUP_NUMBERS → a % GROUP_NUMBERS ≡ b % GROUP_NUMBERS → a ≡ b
same_number a b groups aginos = omega arith

-- a group, after one that may not be there was changed to what leaves a group without chunks
pub group_of-with : (t : Table) (g : ℕ) (change : Group → Group) → change [] ≡ [] → group_at (with_group t g (change (group_at t g))) g ≡ change (group_at t g)
group_of-with t g change none =
    elim (cases_lt g (length t.groups)) [
      | inl low ↦ group_of-with_same t g (change (group_at t g)) low
      | inr high ↦
          let before : group_at t g ≡ [] = group_of_past t g high in
          let same : group_at (with_group t g (change (group_at t g))) g ≡ group_at t g = ap (λ (gs : List Group). slice_index_or gs g []) (set_past t.groups g (change (group_at t g)) high) in
          same ∙ before ∙ sym none ∙ ap change (sym before)
    ]

pub inode_of-with_other : (t : Table) (number other : ℕ) (new : Inode) → number ≢ other → inode_of (with_inode t number new) other ≡ inode_of t other
unfolding inode_of with_inode set_inode
inode_of-with_other t number other new apart =
    let g = number / GROUP_NUMBERS in
    let agino = number % GROUP_NUMBERS in
    elim (cases_eq (other / GROUP_NUMBERS) g) [
      | inl same ↦
          let change : Group → Group = λ group. set_inode group agino new in
          rw same (
          ap (λ group. inode_in group (other % GROUP_NUMBERS)) (group_of-with t g change refl)
          ∙ inode_in-set_other (group_at t g) agino (other % GROUP_NUMBERS) new (λ e. apart (same_number number other (sym same) e)))
      | inr differ ↦ ap (λ group. inode_in group (other % GROUP_NUMBERS)) (group_of-with_other t g (other / GROUP_NUMBERS) (set_inode (group_at t g) agino new) differ)
    ]
