-- Tables in which each inode was changed in one way.
use Rattle.std.proofs.Common.{◌≡◌, ◌==◌, ◌/◌, ◌%◌, ℕ, zero, suc, true, false, List, [], ◌∷◌, Some, option_map, if◌then◌else◌, map, slice_get, slice_set, refl, sym, ap, ◌∙◌}
use Rattle.std.proofs.lemmas.Option.{same_Some, slice_get-map}
use Rattle.std.proofs.lemmas.List.{map-set, set-get_or}
use Rattle.std.proofs.Math.ListN.{get_or-map}
use Rattle.life_limits.specs.declared.TheConstants.{CHUNK_INODES, GROUP_NUMBERS}
use Rattle.life_table.specs.declared.table.Inode.{Inode}
use Rattle.life_table.specs.declared.table.Table.{Table}
use Rattle.life_table.specs.Table.{Group, start_of, inode_in, set_inode, group_at, with_group, inode_of, with_inode, map_chunk, map_group, map_inodes}

-- the inode of a number is the changed one
inode_in-map : (change : Inode → Inode) (group : Group) (agino : ℕ) → inode_in (map_group change group) agino ≡ option_map change (inode_in group agino)
unfolding inode_in
inode_in-map change [] agino = refl
inode_in-map change (chunk ∷ chunks) agino =
    elim (chunk.start == start_of agino) as (λ c. (if c then slice_get (map change chunk.inodes) (agino % CHUNK_INODES) else inode_in (map_group change chunks) agino)
    ≡ option_map change (if c then slice_get chunk.inodes (agino % CHUNK_INODES) else inode_in chunks agino)) [
      | true ↦ slice_get-map change chunk.inodes (agino % CHUNK_INODES)
      | false ↦ inode_in-map change chunks agino
    ]

pub group_of-map : (change : Inode → Inode) (t : Table) (g : ℕ) → group_at (map_inodes change t) g ≡ map_group change (group_at t g)
group_of-map change t g = get_or-map (map_group change) t.groups g []

pub inode_of-map : (change : Inode → Inode) (t : Table) (number : ℕ) → inode_of (map_inodes change t) number ≡ option_map change (inode_of t number)
unfolding inode_of
inode_of-map change t number =
    ap (λ group. inode_in group (number % GROUP_NUMBERS)) (group_of-map change t (number / GROUP_NUMBERS))
    ∙ inode_in-map change (group_at t (number / GROUP_NUMBERS)) (number % GROUP_NUMBERS)

-- a change of one inode, and of each
set_inode-map : (change : Inode → Inode) (group : Group) (agino : ℕ) (inode : Inode) → map_group change (set_inode group agino inode) ≡ set_inode (map_group change group) agino (change inode)
unfolding set_inode
set_inode-map change [] agino inode = refl
set_inode-map change (chunk ∷ chunks) agino inode =
    elim (chunk.start == start_of agino) as (λ c. map_group change (if c then record { start = chunk.start; inodes = slice_set chunk.inodes (agino % CHUNK_INODES) inode } ∷ chunks else chunk ∷ set_inode chunks agino inode)
    ≡ (if c then record { start = chunk.start; inodes = slice_set (map change chunk.inodes) (agino % CHUNK_INODES) (change inode) } ∷ map_group change chunks else map_chunk change chunk ∷ set_inode (map_group change chunks) agino (change inode))) [
      | true ↦
          let front : List Inode → Group = λ inodes. record { start = chunk.start; inodes = inodes } ∷ map_group change chunks in
          ap front (map-set change chunk.inodes (agino % CHUNK_INODES) inode)
      | false ↦ ap (λ others. map_chunk change chunk ∷ others) (set_inode-map change chunks agino inode)
    ]

abbrev of_groups : Table → List Group → Table
of_groups t groups = record { version = t.version; blocks = t.blocks; groups = groups }

pub with_group-map : (change : Inode → Inode) (t : Table) (g : ℕ) (group : Group) → map_inodes change (with_group t g group) ≡ with_group (map_inodes change t) g (map_group change group)
with_group-map change t g group = ap (of_groups t) (map-set (map_group change) t.groups g group)

pub with_inode-map : (change : Inode → Inode) (t : Table) (number : ℕ) (inode : Inode) → map_inodes change (with_inode t number inode) ≡ with_inode (map_inodes change t) number (change inode)
unfolding with_inode
with_inode-map change t number inode =
    let g = number / GROUP_NUMBERS in
    let agino = number % GROUP_NUMBERS in
    let whole : Group → Table = λ group. with_group (map_inodes change t) g group in
    with_group-map change t g (set_inode (group_at t g) agino inode)
    ∙ ap whole (set_inode-map change (group_at t g) agino inode ∙ ap (λ group. set_inode group agino (change inode)) (sym (group_of-map change t g)))

-- to change an inode to itself changes nothing
set_itself : {X : Type 0} (xs : List X) (i : ℕ) (x : X) → slice_get xs i ≡ Some x → slice_set xs i x ≡ xs
set_itself [] i x at = refl
set_itself (y ∷ xs) zero x at = ap (λ z. z ∷ xs) (sym (same_Some y x at))
set_itself (y ∷ xs) (suc i) x at = ap (λ zs. y ∷ zs) (set_itself xs i x at)

set_inode-itself : (group : Group) (agino : ℕ) (inode : Inode) → inode_in group agino ≡ Some inode → set_inode group agino inode ≡ group
unfolding set_inode inode_in
set_inode-itself [] agino inode at = refl
set_inode-itself (chunk ∷ chunks) agino inode at =
    elim (chunk.start == start_of agino) as (λ c. (if c then slice_get chunk.inodes (agino % CHUNK_INODES) else inode_in chunks agino) ≡ Some inode
    → (if c then record { start = chunk.start; inodes = slice_set chunk.inodes (agino % CHUNK_INODES) inode } ∷ chunks else chunk ∷ set_inode chunks agino inode) ≡ chunk ∷ chunks) [
      | true ↦ λ here.
          let front : List Inode → Group = λ inodes. record { start = chunk.start; inodes = inodes } ∷ chunks in
          ap front (set_itself chunk.inodes (agino % CHUNK_INODES) inode here)
      | false ↦ λ here. ap (λ others. chunk ∷ others) (set_inode-itself chunks agino inode here)
    ] at

pub with_inode-itself : (t : Table) (number : ℕ) (inode : Inode) → inode_of t number ≡ Some inode → with_inode t number inode ≡ t
unfolding with_inode inode_of
with_inode-itself t number inode at =
    let g = number / GROUP_NUMBERS in
    ap (of_groups t) (ap (slice_set t.groups g) (set_inode-itself (group_at t g) (number % GROUP_NUMBERS) inode at) ∙ set-get_or t.groups g [])

-- two changes after each other that are one
map_twice : (one other both : Inode → Inode) → ((i : Inode) → other (one i) ≡ both i) → (inodes : List Inode) → map other (map one inodes) ≡ map both inodes
map_twice one other both same [] = refl
map_twice one other both same (inode ∷ inodes) = λ i. same inode i ∷ map_twice one other both same inodes i

map_group_twice : (one other both : Inode → Inode) → ((i : Inode) → other (one i) ≡ both i) → (group : Group) → map_group other (map_group one group) ≡ map_group both group
map_group_twice one other both same [] = refl
map_group_twice one other both same (chunk ∷ chunks) =
    λ i. record { start = chunk.start; inodes = map_twice one other both same chunk.inodes i } ∷ map_group_twice one other both same chunks i

map_groups_twice : (one other both : Inode → Inode) → ((i : Inode) → other (one i) ≡ both i) → (groups : List Group) → map (map_group other) (map (map_group one) groups) ≡ map (map_group both) groups
map_groups_twice one other both same [] = refl
map_groups_twice one other both same (group ∷ groups) = λ i. map_group_twice one other both same group i ∷ map_groups_twice one other both same groups i

pub map_inodes-twice : (one other both : Inode → Inode) → ((i : Inode) → other (one i) ≡ both i) → (t : Table) → map_inodes other (map_inodes one t) ≡ map_inodes both t
map_inodes-twice one other both same t = ap (of_groups t) (map_groups_twice one other both same t.groups)
