-- A table stays well formed where one inode is changed and its blocks are not.
use Rattle.std.proofs.Common.{◌≡◌, ◌==◌, ◌/◌, ◌%◌, ◌<◌, ◌≤◌, ℕ, zero, suc, true, false, List, [], ◌∷◌, ◌++◌, Option, None, Some, IfSome, if◌then◌else◌, length, slice_get, slice_set, slice_index_or, refl, sym, ap, subst, ◌∙◌, arith, length-set}
use Rattle.std.specs.List.{AllByRecursion}
use Rattle.std.proofs.lemmas.Option.{none-some, same_Some}
use Rattle.std.proofs.lemmas.Bool.{eqb-true}
use Rattle.life_limits.specs.declared.TheConstants.{CHUNK_INODES, GROUP_NUMBERS, MAX_CHUNKS, MAX_GENERATION, MAX_LINKS}
use Rattle.life_table.specs.declared.key.Key.{Key}
use Rattle.life_table.specs.declared.types.Row.{Row}
use Rattle.life_table.specs.declared.table.Inode.{Inode}
use Rattle.life_table.specs.declared.table.Chunk.{Chunk}
use Rattle.life_table.specs.declared.table.Table.{Table}
use Rattle.life_table.specs.Table.{Group, start_of, inode_in, set_inode, group_at, inode_of, with_inode, row_in_life, row_of, with_row}
use Rattle.life_table.specs.Space.{times, chunk_blocks, row_blocks, inode_blocks, used}
use Rattle.life_table.specs.WellFormed.{IsRow, IsInode, IsChunk, ChunksAscend, IsGroup, IsTable}
use Rattle.plain_table.specs.Beginnings.{with_links, in_life}

all_set : {X : Type 0} (P : X → Type 0) (xs : List X) (i : ℕ) (x : X) → AllByRecursion P xs → P x → AllByRecursion P (slice_set xs i x)
all_set P [] i x all here = tt
all_set P (y ∷ xs) zero x all here = (here, all.1)
all_set P (y ∷ xs) (suc i) x all here = (all.0, all_set P xs i x all.1 here)

all_get : {X : Type 0} (P : X → Type 0) (xs : List X) (i : ℕ) (x : X) → AllByRecursion P xs → slice_get xs i ≡ Some x → P x
all_get P [] i x all at = absurd (none-some x at)
all_get P (y ∷ xs) zero x all at = subst P (same_Some y x at) all.0
all_get P (y ∷ xs) (suc i) x all at = all_get P xs i x all.1 at

-- the blocks of a list of inodes, of a group
inode_blocks-set : (inodes : List Inode) (i : ℕ) (old new : Inode) → slice_get inodes i ≡ Some old → row_blocks new.row ≡ row_blocks old.row → inode_blocks (slice_set inodes i new) ≡ inode_blocks inodes
unfolding inode_blocks
inode_blocks-set [] i old new at same = absurd (none-some old at)
inode_blocks-set (inode ∷ inodes) zero old new at same =
    ap (λ blocks. blocks ++ inode_blocks inodes) (same ∙ ap (λ (other : Inode). row_blocks other.row) (sym (same_Some inode old at)))
inode_blocks-set (inode ∷ inodes) (suc i) old new at same = ap (λ blocks. row_blocks inode.row ++ blocks) (inode_blocks-set inodes i old new at same)

used-set_inode : (group : Group) (agino : ℕ) (old new : Inode) → inode_in group agino ≡ Some old → row_blocks new.row ≡ row_blocks old.row → used (set_inode group agino new) ≡ used group
unfolding used inode_in set_inode chunk_blocks
used-set_inode [] agino old new at same = refl
used-set_inode (chunk ∷ chunks) agino old new at same =
    elim (chunk.start == start_of agino) as (λ c. (if c then slice_get chunk.inodes (agino % CHUNK_INODES) else inode_in chunks agino) ≡ Some old
    → used (if c then record { start = chunk.start; inodes = slice_set chunk.inodes (agino % CHUNK_INODES) new } ∷ chunks else chunk ∷ set_inode chunks agino new) ≡ used (chunk ∷ chunks)) [
      | true ↦ λ here. ap (λ blocks. (chunk_blocks chunk ++ blocks) ++ used chunks) (inode_blocks-set chunk.inodes (agino % CHUNK_INODES) old new here same)
      | false ↦ λ here. ap (λ blocks. (chunk_blocks chunk ++ inode_blocks chunk.inodes) ++ blocks) (used-set_inode chunks agino old new here same)
    ] at

-- the number of its chunks, and their starts
length-set_inode : (group : Group) (agino : ℕ) (new : Inode) → length (set_inode group agino new) ≡ length group
unfolding set_inode
length-set_inode [] agino new = refl
length-set_inode (chunk ∷ chunks) agino new =
    elim (chunk.start == start_of agino) as (λ c. length (if c then record { start = chunk.start; inodes = slice_set chunk.inodes (agino % CHUNK_INODES) new } ∷ chunks else chunk ∷ set_inode chunks agino new) ≡ suc (length chunks)) [
      | true ↦ refl
      | false ↦ ap suc (length-set_inode chunks agino new)
    ]

starts-set_inode : (P : ℕ → Type 0) (group : Group) (agino : ℕ) (new : Inode) → AllByRecursion (λ (chunk : Chunk). P chunk.start) group
    → AllByRecursion (λ (chunk : Chunk). P chunk.start) (set_inode group agino new)
unfolding set_inode
starts-set_inode P [] agino new all = tt
starts-set_inode P (chunk ∷ chunks) agino new all =
    elim (chunk.start == start_of agino) as (λ c. AllByRecursion (λ (chunk : Chunk). P chunk.start) (if c then record { start = chunk.start; inodes = slice_set chunk.inodes (agino % CHUNK_INODES) new } ∷ chunks else chunk ∷ set_inode chunks agino new)) [
      | true ↦ all
      | false ↦ (all.0, starts-set_inode P chunks agino new all.1)
    ]

ascends-set_inode : (group : Group) (agino : ℕ) (new : Inode) → ChunksAscend group → ChunksAscend (set_inode group agino new)
unfolding set_inode
ascends-set_inode [] agino new ascends = tt
ascends-set_inode (chunk ∷ chunks) agino new ascends =
    elim (chunk.start == start_of agino) as (λ c. ChunksAscend (if c then record { start = chunk.start; inodes = slice_set chunk.inodes (agino % CHUNK_INODES) new } ∷ chunks else chunk ∷ set_inode chunks agino new)) [
      | true ↦ ascends
      | false ↦ (starts-set_inode (λ (start : ℕ). chunk.start < start) chunks agino new ascends.0, ascends-set_inode chunks agino new ascends.1)
    ]

chunks-set_inode : (group : Group) (agino : ℕ) (new : Inode) → IsInode new → AllByRecursion IsChunk group → AllByRecursion IsChunk (set_inode group agino new)
unfolding set_inode
chunks-set_inode [] agino new ok all = tt
chunks-set_inode (chunk ∷ chunks) agino new ok all =
    elim (chunk.start == start_of agino) as (λ c. AllByRecursion IsChunk (if c then record { start = chunk.start; inodes = slice_set chunk.inodes (agino % CHUNK_INODES) new } ∷ chunks else chunk ∷ set_inode chunks agino new)) [
      | true ↦ (
        record {
          start = all.0.start;
          whole = length-set chunk.inodes (agino % CHUNK_INODES) new ∙ all.0.whole;
          inodes = all_set IsInode chunk.inodes (agino % CHUNK_INODES) new all.0.inodes ok;
        },
        all.1,
      )
      | false ↦ (all.0, chunks-set_inode chunks agino new ok all.1)
    ]

-- the inode that a group has
inode_in-ok : (group : Group) (agino : ℕ) (inode : Inode) → AllByRecursion IsChunk group → inode_in group agino ≡ Some inode → IsInode inode
unfolding inode_in
inode_in-ok [] agino inode all at = absurd (none-some inode at)
inode_in-ok (chunk ∷ chunks) agino inode all at =
    elim (chunk.start == start_of agino) as (λ c. (if c then slice_get chunk.inodes (agino % CHUNK_INODES) else inode_in chunks agino) ≡ Some inode → IsInode inode) [
      | true ↦ λ here. all_get IsInode chunk.inodes (agino % CHUNK_INODES) inode all.0.inodes here
      | false ↦ λ here. inode_in-ok chunks agino inode all.1 here
    ] at

group-set_inode : (blocks : ℕ) (group : Group) (agino : ℕ) (old new : Inode) → IsGroup blocks group → inode_in group agino ≡ Some old → IsInode new → row_blocks new.row ≡ row_blocks old.row
    → IsGroup blocks (set_inode group agino new)
group-set_inode blocks group agino old new ok at inode same =
    let kept = used-set_inode group agino old new at same in
    record {
      few = subst (λ n. n ≤ MAX_CHUNKS) (sym (length-set_inode group agino new)) ok.few;
      ascends = ascends-set_inode group agino new ok.ascends;
      chunks = chunks-set_inode group agino new inode ok.chunks;
      data_blocks = λ block has. ok.data_blocks block (subst (λ blocks. 1 ≤ times block blocks) kept has);
      once = λ block. subst (λ blocks. times block blocks ≤ 1) (sym kept) (ok.once block);
    }

-- a number that a group has none of is in no table
nth_group : (t : Table) (groups : List Group) (g agino : ℕ) (inode : Inode) → AllByRecursion (IsGroup t.blocks) groups → inode_in (slice_index_or groups g []) agino ≡ Some inode → IsGroup t.blocks (slice_index_or groups g [])
unfolding inode_in
nth_group t [] g agino inode all at = absurd (none-some inode at)
nth_group t (group ∷ groups) zero agino inode all at = all.0
nth_group t (group ∷ groups) (suc g) agino inode all at = nth_group t groups g agino inode all.1 at

group_ok : (t : Table) (number : ℕ) (inode : Inode) → IsTable t → inode_of t number ≡ Some inode → IsGroup t.blocks (group_at t (number / GROUP_NUMBERS))
unfolding inode_of
group_ok t number inode ok at = nth_group t t.groups (number / GROUP_NUMBERS) (number % GROUP_NUMBERS) inode ok.groups at

inode_of-ok : (t : Table) (number : ℕ) (inode : Inode) → IsTable t → inode_of t number ≡ Some inode → IsInode inode
unfolding inode_of
inode_of-ok t number inode ok at = inode_in-ok (group_at t (number / GROUP_NUMBERS)) (number % GROUP_NUMBERS) inode (group_ok t number inode ok at).chunks at

table-with_inode : (t : Table) (number : ℕ) (old new : Inode) → IsTable t → inode_of t number ≡ Some old → IsInode new → row_blocks new.row ≡ row_blocks old.row → IsTable (with_inode t number new)
unfolding inode_of with_inode
table-with_inode t number old new ok at inode same =
    let g = number / GROUP_NUMBERS in
    let group = set_inode (group_at t g) (number % GROUP_NUMBERS) new in
    let long : length (slice_set t.groups g group) ≡ length t.groups = length-set t.groups g group in
    record {
      version = ok.version;
      least = ok.least;
      most = ok.most;
      some = omega (arith, long, ok.some);
      many = omega (arith, long, ok.many);
      groups = all_set (IsGroup t.blocks) t.groups g group ok.groups (group-set_inode t.blocks (group_at t g) (number % GROUP_NUMBERS) old new (group_ok t number old ok at) at inode same);
    }

-- an inode in another life that is not the last generation
row_in-life : (old new : ℕ) (o : Option Row) → new < MAX_GENERATION → IfSome o (IsRow old) → IfSome o (IsRow new)
row_in-life old new None left ok = tt
row_in-life old new (Some row) left ok = record { life = left; links = ok.links; opens = ok.opens; runs = ok.runs }

pub kept_in_life : (t : Table) (number generation : ℕ) (inode : Inode) → IsTable t → inode_of t number ≡ Some inode → 1 ≤ generation → generation < MAX_GENERATION
    → IsTable (with_inode t number (in_life generation inode))
kept_in_life t number generation inode ok at first left =
    let old = inode_of-ok t number inode ok at in
    table-with_inode t number inode (in_life generation inode) ok at
    (record { first = first; last = omega (arith, left); row = row_in-life inode.generation generation inode.row left old.row })
    refl

-- the inode of a row
record HasRow (o : Option Inode) (generation : ℕ) (row : Row) : Type 0 where
  inode : Inode
  at : o ≡ Some inode
  life : inode.generation ≡ generation
  is : inode.row ≡ Some row

has_row : (o : Option Inode) (generation : ℕ) (row : Row) → row_in_life generation o ≡ Some row → HasRow o generation row
has_row None generation row at = absurd (none-some row at)
has_row (Some inode) generation row at =
    elim (inode.generation == generation) as (λ c. inode.generation == generation ≡ c → (if c then inode.row else None) ≡ Some row → HasRow (Some inode) generation row) [
      | true ↦ λ is here. record { inode = inode; at = refl; life = eqb-true inode.generation generation is; is = here }
      | false ↦ λ is here. absurd (none-some row here)
    ] refl at

pub kept_with_links : (t : Table) (key : Key) (links : ℕ) (row : Row) → IsTable t → row_of t key ≡ Some row → links ≤ MAX_LINKS → IsTable (with_row t key (with_links links row))
kept_with_links t key links row ok at few =
    let has = has_row (inode_of t key.number) key.generation row at in
    let old = inode_of-ok t key.number has.inode ok has.at in
    let within : IsRow has.inode.generation row = subst (λ o. IfSome o (IsRow has.inode.generation)) has.is old.row in
    let limits : IsRow key.generation row = subst (λ n. IsRow n row) has.life within in
    let first : 1 ≤ has.inode.generation = old.first in
    let life : has.inode.generation ≡ key.generation = has.life in
    table-with_inode t key.number has.inode (record { generation = key.generation; row = Some (with_links links row) }) ok has.at
    (record {
      first = omega (arith, first, life);
      last = omega (arith, limits.life);
      row = record { life = limits.life; links = few; opens = limits.opens; runs = limits.runs };
    })
    (ap row_blocks (sym has.is))
