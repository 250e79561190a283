-- One free: which inodes stay, and what is left of the one that is freed.
use Rattle.std.proofs.Common.{◌≡◌, ◌≢◌, ◌+◌, ◌/◌, ◌%◌, ℕ, zero, suc, true, false, cond, eqb, List, [], ◌∷◌, get_or, map, Option, None, Some, inl, inr, refl, ap, sym, subst, ◌∙◌, arith}
use Rattle.std.specs.Prelude.{slice_get, slice_set}
use Rattle.std.proofs.lemmas.Bool.{cases_eq, cond-false, eqb-true, ne_eqb}
use Rattle.std.proofs.lemmas.List.{map-set}
use Rattle.std.proofs.lemmas.Option.{none-some}
use Rattle.std.proofs.Math.ListN.{get_or-map}
use Rattle.life_limits.specs.declared.TheConstants.{CHUNK_INODES, GROUP_NUMBERS}
use Rattle.life_table.specs.declared.key.Key.{Key}
use Rattle.life_table.specs.declared.types.Row.{Row}
use Rattle.life_table.specs.declared.table.Inode.{Inode}
use Rattle.life_table.specs.declared.table.Chunk.{Chunk}
use Rattle.life_table.specs.declared.table.Table.{Table}
use Rattle.life_table.specs.Legal.{freed}
use Rattle.life_table.specs.History.{closed, closed_inode}
use Rattle.life_table.specs.Table.{Group, group_at, inode_in, inode_of, map_group, row_in_life, row_of, set_inode, start_of, with_inode}

-- ---- an element of a list

get_other : {X : Type 0} (xs : List X) (i j : ℕ) (new : X) → i ≢ j → slice_get (slice_set xs i new) j ≡ slice_get xs j
get_other [] i j new apart = refl
get_other (x ∷ xs) zero zero new apart = absurd (apart refl)
get_other (x ∷ xs) zero (suc j) new apart = refl
get_other (x ∷ xs) (suc i) zero new apart = refl
get_other (x ∷ xs) (suc i) (suc j) new apart = get_other xs i j new (λ e. apart (ap suc e))

get_same : {X : Type 0} (xs : List X) (i : ℕ) (old new : X) → slice_get xs i ≡ Some old → slice_get (slice_set xs i new) i ≡ Some new
get_same [] i old new at = absurd (none-some old at)
get_same (x ∷ xs) zero old new at = refl
get_same (x ∷ xs) (suc i) old new at = get_same xs i old new at

same_agino : (a b : ℕ) → start_of a ≡ start_of b → a % CHUNK_INODES ≡ b % CHUNK_INODES → a ≡ b
same_agino a b starts places = omega arith

-- ---- an inode of a group

inode_other : (group : Group) (agino other : ℕ) (new : Inode) → agino ≢ other → inode_in (set_inode group agino new) other ≡ inode_in group other
unfolding inode_in set_inode
inode_other [] agino other new apart = refl
inode_other (chunk ∷ chunks) agino other new apart =
    elim (eqb chunk.start (start_of agino)) as (λ c. eqb chunk.start (start_of agino) ≡ c
    → inode_in (cond c (record { start = chunk.start; inodes = slice_set chunk.inodes (agino % CHUNK_INODES) new } ∷ chunks) (chunk ∷ set_inode chunks agino new)) other
    ≡ cond (eqb chunk.start (start_of other)) (slice_get chunk.inodes (other % CHUNK_INODES)) (inode_in chunks other)) [
      | true ↦ λ is.
          elim (eqb chunk.start (start_of other)) as (λ d. eqb chunk.start (start_of other) ≡ d
          → cond d (slice_get (slice_set chunk.inodes (agino % CHUNK_INODES) new) (other % CHUNK_INODES)) (inode_in chunks other)
          ≡ cond d (slice_get chunk.inodes (other % CHUNK_INODES)) (inode_in chunks other)) [
            | true ↦ λ also. get_other chunk.inodes (agino % CHUNK_INODES) (other % CHUNK_INODES) new
                (λ places. apart (same_agino agino other (sym (eqb-true chunk.start (start_of agino) is) ∙ eqb-true chunk.start (start_of other) also) places))
            | false ↦ λ also. refl
          ] refl
      | false ↦ λ is. ap (λ o. cond (eqb chunk.start (start_of other)) (slice_get chunk.inodes (other % CHUNK_INODES)) o) (inode_other chunks agino other new apart)
    ] refl

inode_same : (group : Group) (agino : ℕ) (old new : Inode) → inode_in group agino ≡ Some old → inode_in (set_inode group agino new) agino ≡ Some new
unfolding inode_in set_inode
inode_same [] agino old new at = absurd (none-some old at)
inode_same (chunk ∷ chunks) agino old new at =
    elim (eqb chunk.start (start_of agino)) as (λ c. eqb chunk.start (start_of agino) ≡ c
    → cond c (slice_get chunk.inodes (agino % CHUNK_INODES)) (inode_in chunks agino) ≡ Some old
    → inode_in (cond c (record { start = chunk.start; inodes = slice_set chunk.inodes (agino % CHUNK_INODES) new } ∷ chunks) (chunk ∷ set_inode chunks agino new)) agino ≡ Some new) [
      | true ↦ λ is here. rw is (get_same chunk.inodes (agino % CHUNK_INODES) old new here)
      | false ↦ λ is here. rw is (inode_same chunks agino old new here)
    ] refl at

-- ---- an inode of a list of groups

other_there : (groups : List Group) (i agino other : ℕ) (new : Inode) → agino ≢ other
    → inode_in (get_or (slice_set groups i (set_inode (get_or groups i []) agino new)) i []) other ≡ inode_in (get_or groups i []) other
other_there [] i agino other new apart = refl
other_there (group ∷ groups) zero agino other new apart = inode_other group agino other new apart
other_there (group ∷ groups) (suc i) agino other new apart = other_there groups i agino other new apart

nothing : (a : ℕ) (inode : Inode) → inode_in [] a ≡ Some inode → ⊥
unfolding inode_in
nothing a inode e = none-some inode e

same_there : (groups : List Group) (i agino : ℕ) (old new : Inode) → inode_in (get_or groups i []) agino ≡ Some old
    → inode_in (get_or (slice_set groups i (set_inode (get_or groups i []) agino new)) i []) agino ≡ Some new
same_there [] i agino old new at = absurd (nothing agino old at)
same_there (group ∷ groups) zero agino old new at = inode_same group agino old new at
same_there (group ∷ groups) (suc i) agino old new at = same_there groups i agino old new at

elsewhere : (groups : List Group) (i j : ℕ) (new : Group) → i ≢ j → get_or (slice_set groups i new) j [] ≡ get_or groups j []
elsewhere [] i j new apart = refl
elsewhere (group ∷ groups) zero zero new apart = absurd (apart refl)
elsewhere (group ∷ groups) zero (suc j) new apart = refl
elsewhere (group ∷ groups) (suc i) zero new apart = refl
elsewhere (group ∷ groups) (suc i) (suc j) new apart = elsewhere groups i j new (λ e. apart (ap suc e))

-- ---- a free

-- the inode that a free leaves
abbrev pub free_inode : Key → Inode
free_inode key = record { generation = key.generation + 1; row = None }

pub group_stays : (t : Table) (key : Key) (group : ℕ) → key.number / GROUP_NUMBERS ≢ group → group_at (freed t key) group ≡ group_at t group
unfolding with_inode
group_stays t key group apart =
    elsewhere t.groups (key.number / GROUP_NUMBERS) group (set_inode (group_at t (key.number / GROUP_NUMBERS)) (key.number % GROUP_NUMBERS) (free_inode key)) apart

pub inode_stays : (t : Table) (key : Key) (number : ℕ) → key.number ≢ number → inode_of (freed t key) number ≡ inode_of t number
unfolding inode_of with_inode
inode_stays t key number apart =
    elim (cases_eq (key.number / GROUP_NUMBERS) (number / GROUP_NUMBERS)) [
      | inl same ↦
          let places : key.number % GROUP_NUMBERS ≢ number % GROUP_NUMBERS = λ e. apart (omega (arith, same, e)) in
          subst (λ (g : ℕ). inode_in (group_at (with_inode t key.number (free_inode key)) g) (number % GROUP_NUMBERS) ≡ inode_in (group_at t g) (number % GROUP_NUMBERS)) same
          (other_there t.groups (key.number / GROUP_NUMBERS) (key.number % GROUP_NUMBERS) (number % GROUP_NUMBERS) (free_inode key) places)
      | inr other ↦ ap (λ (cs : Group). inode_in cs (number % GROUP_NUMBERS)) (group_stays t key (number / GROUP_NUMBERS) other)
    ]

pub inode_freed : (t : Table) (key : Key) (old : Inode) → inode_of t key.number ≡ Some old → inode_of (freed t key) key.number ≡ Some (free_inode key)
unfolding inode_of with_inode
inode_freed t key old at = same_there t.groups (key.number / GROUP_NUMBERS) (key.number % GROUP_NUMBERS) old (free_inode key) at

pub row_stays : (t : Table) (key other : Key) → key.number ≢ other.number → row_of (freed t key) other ≡ row_of t other
row_stays t key other apart = ap (row_in_life other.generation) (inode_stays t key other.number apart)

has_inode : (o : Option Inode) (generation : ℕ) (row : Row) → row_in_life generation o ≡ Some row → (old : Inode) × (o ≡ Some old)
has_inode None generation row at = absurd (none-some row at)
has_inode (Some old) generation row at = (old, refl)

pub row_freed : (t : Table) (key : Key) (row : Row) → row_of t key ≡ Some row → row_of (freed t key) key ≡ None
row_freed t key row at =
    let old = has_inode (inode_of t key.number) key.generation row at in
    ap (λ (o : Option Inode). row_in_life key.generation o) (inode_freed t key old.0 old.1)
    ∙ cond-false (eqb (key.generation + 1) key.generation) None None (ne_eqb (key.generation + 1) key.generation (λ e. omega (arith, e)))

pub inode_there : (t : Table) (key : Key) (row : Row) → row_of t key ≡ Some row → (old : Inode) × (inode_of t key.number ≡ Some old)
inode_there t key row at = has_inode (inode_of t key.number) key.generation row at

-- ---- a table that nobody holds

closed_set : (group : Group) (agino : ℕ) (new : Inode) → map_group closed_inode (set_inode group agino new) ≡ set_inode (map_group closed_inode group) agino (closed_inode new)
unfolding set_inode
closed_set [] agino new = refl
closed_set (chunk ∷ chunks) agino new =
    elim (eqb chunk.start (start_of agino)) as (λ c.
    map_group closed_inode (cond c (record { start = chunk.start; inodes = slice_set chunk.inodes (agino % CHUNK_INODES) new } ∷ chunks) (chunk ∷ set_inode chunks agino new))
    ≡ cond c (record { start = chunk.start; inodes = slice_set (map closed_inode chunk.inodes) (agino % CHUNK_INODES) (closed_inode new) } ∷ map_group closed_inode chunks)
    (record { start = chunk.start; inodes = map closed_inode chunk.inodes } ∷ set_inode (map_group closed_inode chunks) agino (closed_inode new))) [
      | true ↦ ap (λ (l : List Inode). let c : Chunk = record { start = chunk.start; inodes = l } in c ∷ map_group closed_inode chunks) (map-set closed_inode chunk.inodes (agino % CHUNK_INODES) new)
      | false ↦ ap (λ (l : Group). let c : Chunk = record { start = chunk.start; inodes = map closed_inode chunk.inodes } in c ∷ l) (closed_set chunks agino new)
    ]

pub freed_unheld : (t : Table) (key : Key) → closed t ≡ t → closed (freed t key) ≡ freed t key
unfolding with_inode
freed_unheld t key shut =
    let i : ℕ = key.number / GROUP_NUMBERS in
    let a : ℕ = key.number % GROUP_NUMBERS in
    let new : Inode = free_inode key in
    let groups : map (map_group closed_inode) t.groups ≡ t.groups = ap (λ (v : Table). v.groups) shut in
    let own : map_group closed_inode (group_at t i) ≡ group_at t i = sym (get_or-map (map_group closed_inode) t.groups i []) ∙ ap (λ (l : List Group). get_or l i []) groups in
    let set : map_group closed_inode (set_inode (group_at t i) a new) ≡ set_inode (group_at t i) a new =
    closed_set (group_at t i) a new ∙ ap (λ (cs : Group). set_inode cs a new) own in
    ap (λ (l : List Group). let v : Table = record { version = t.version; blocks = t.blocks; groups = l } in v)
    (map-set (map_group closed_inode) t.groups i (set_inode (group_at t i) a new)
    ∙ ap (λ (l : List Group). slice_set l i (map_group closed_inode (set_inode (group_at t i) a new))) groups
    ∙ ap (λ (cs : Group). slice_set t.groups i cs) set)
