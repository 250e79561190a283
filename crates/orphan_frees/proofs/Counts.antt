-- How many rows without links there are.
use Rattle.std.proofs.Common.{◌≡◌, ◌<◌, ◌≤◌, ◌+◌, ◌*◌, ◌/◌, ◌%◌, ℕ, zero, suc, Bool, true, false, cond, eqb, List, [], ◌∷◌, length, get_or, Option, None, Some, inl, inr, refl, ap, sym, ◌∙◌, arith}
use Rattle.std.specs.Prelude.{IsSomeAnd, slice_get, slice_set}
use Rattle.std.specs.List.{AllByRecursion}
use Rattle.std.proofs.lemmas.Bool.{cases_eq, cases_lt, cond-false, cond-true, eq-eqb, ne_eqb}
use Rattle.std.proofs.lemmas.Option.{none-some, same_Some}
use Rattle.life_limits.specs.declared.TheConstants.{CHUNK_INODES, GROUP_NUMBERS, MAX_CHUNKS, MAX_GROUPS, MAX_NUMBERS}
use Rattle.life_table.specs.declared.key.Key.{Key}
use Rattle.life_table.specs.declared.types.Row.{Row}
use Rattle.life_table.specs.declared.table.Inode.{Inode}
use Rattle.life_table.specs.declared.table.Chunk.{Chunk}
use Rattle.life_table.specs.declared.table.Table.{Table}
use Rattle.life_table.specs.Legal.{Awaits, freed}
use Rattle.life_table.specs.History.{orphans, orphans_all, orphans_among, orphans_in, orphans_of}
use Rattle.life_table.specs.Table.{Group, group_at, inode_in, inode_of, row_in_life, row_of, set_inode, start_of, with_inode}
use Rattle.life_table.specs.WellFormed.{ChunksAscend, IsChunk, IsGroup, IsTable}
use Rattle.sound_image.specs.Encoding.{is_unlinked, is_unlinked_row}
use Rattle.orphan_frees.specs.Order.{freed_all}
use Rattle.orphan_frees.proofs.Due.{Apart, AwaitAll, await_stays}
use Rattle.orphan_frees.proofs.Rows.{free_inode}

-- ---- one inode changed

in_set : (inodes : List Inode) (i : ℕ) (old new : Inode) → slice_get inodes i ≡ Some old → orphans_in (slice_set inodes i new) + orphans_of old.row ≡ orphans_in inodes + orphans_of new.row
unfolding orphans_in
in_set [] i old new at = absurd (none-some old at)
in_set (inode ∷ inodes) zero old new at =
    let same : orphans_of inode.row ≡ orphans_of old.row = ap (λ (x : Inode). orphans_of x.row) (same_Some inode old at) in
    omega (arith, same)
in_set (inode ∷ inodes) (suc i) old new at = let rest = in_set inodes i old new at in omega (arith, rest)

among_set : (group : Group) (agino : ℕ) (old new : Inode) → inode_in group agino ≡ Some old → orphans_among (set_inode group agino new) + orphans_of old.row ≡ orphans_among group + orphans_of new.row
unfolding orphans_among inode_in set_inode
among_set [] agino old new at = absurd (none-some old at)
among_set (chunk ∷ chunks) agino old new at =
    elim (eqb chunk.start (start_of agino)) as (λ c. cond c (slice_get chunk.inodes (agino % CHUNK_INODES)) (inode_in chunks agino) ≡ Some old
    → orphans_among (cond c (record { start = chunk.start; inodes = slice_set chunk.inodes (agino % CHUNK_INODES) new } ∷ chunks) (chunk ∷ set_inode chunks agino new)) + orphans_of old.row
    ≡ orphans_in chunk.inodes + orphans_among chunks + orphans_of new.row) [
      | true ↦ λ here. let moved = in_set chunk.inodes (agino % CHUNK_INODES) old new here in omega (arith, moved)
      | false ↦ λ here. let rest = among_set chunks agino old new here in omega (arith, rest)
    ] at

nothing : (a : ℕ) (inode : Inode) → inode_in [] a ≡ Some inode → ⊥
unfolding inode_in
nothing a inode e = none-some inode e

all_set : (groups : List Group) (i agino : ℕ) (old new : Inode) → inode_in (get_or groups i []) agino ≡ Some old
    → orphans_all (slice_set groups i (set_inode (get_or groups i []) agino new)) + orphans_of old.row ≡ orphans_all groups + orphans_of new.row
unfolding orphans_all
all_set [] i agino old new at = absurd (nothing agino old at)
all_set (group ∷ groups) zero agino old new at = let one = among_set group agino old new at in omega (arith, one)
all_set (group ∷ groups) (suc i) agino old new at = let rest = all_set groups i agino old new at in omega (arith, rest)

row_there : (o : Option Inode) (generation : ℕ) → IsSomeAnd (row_in_life generation o) Awaits → (old : Inode) × (o ≡ Some old) × (orphans_of old.row ≡ 1)
row_there None generation is = absurd is
row_there (Some old) generation is = (
  old,
  refl,
  elim (eqb old.generation generation) as (λ c. IsSomeAnd (cond c old.row None) Awaits → orphans_of old.row ≡ 1) [
    | true ↦ λ here. one old.row here
    | false ↦ λ here. absurd here
  ] is,
)
  where
    one : (r : Option Row) → IsSomeAnd r Awaits → orphans_of r ≡ 1
    one None here = absurd here
    one (Some row) here = cond-true (eqb row.links 0) 1 0 (eq-eqb row.links 0 here.0)

one_less : (t : Table) (key : Key) → IsSomeAnd (row_of t key) Awaits → orphans (freed t key) + 1 ≡ orphans t
unfolding inode_of with_inode
one_less t key is =
    let old = row_there (inode_of t key.number) key.generation is in
    let moved = all_set t.groups (key.number / GROUP_NUMBERS) (key.number % GROUP_NUMBERS) old.0 (free_inode key) old.1 in
    let one = old.2 in
    omega (arith, moved, one)

pub fewer : (t : Table) (keys : List Key) → AwaitAll t keys → Apart keys → orphans (freed_all t keys) + length keys ≡ orphans t
unfolding freed_all
fewer t [] all apart = omega arith
fewer t (key ∷ keys) all apart =
    let here = one_less t key all.0 in
    let rest = fewer (freed t key) keys (await_stays t key keys apart.0 all.1) apart.1 in
    omega (arith, here, rest)

-- ---- a table without rows without links

in_none : (inodes : List Inode) → ((i : ℕ) → is_unlinked (slice_get inodes i) ≡ false) → orphans_in inodes ≡ 0
unfolding orphans_in
in_none [] none = refl
in_none (inode ∷ inodes) none =
    let here = linked inode.row (none 0) in
    let rest = in_none inodes (λ i. none (suc i)) in
    omega (arith, here, rest)
  where
    linked : (r : Option Row) → is_unlinked_row r ≡ false → orphans_of r ≡ 0
    linked None un = refl
    linked (Some row) un = ap (λ (b : Bool). cond {A = ℕ} b 1 0) un

-- no chunk of them starts here
later_none : (start agino : ℕ) (chunks : Group) → AllByRecursion (λ (later : Chunk). start < later.start) chunks → start_of agino ≡ start → inode_in chunks agino ≡ None
unfolding inode_in
later_none start agino [] all at = refl
later_none start agino (chunk ∷ chunks) all at =
    let up = all.0 in
    cond-false (eqb chunk.start (start_of agino)) (slice_get chunk.inodes (agino % CHUNK_INODES)) (inode_in chunks agino) (ne_eqb chunk.start (start_of agino) (λ e. omega (arith, up, at, e)))
    ∙ later_none start agino chunks all.1 at

first_inode : (chunk : Chunk) (chunks : Group) (i : ℕ) → chunk.start % CHUNK_INODES ≡ 0 → i < CHUNK_INODES → inode_in (chunk ∷ chunks) (chunk.start + i) ≡ slice_get chunk.inodes i
unfolding inode_in
first_inode chunk chunks i whole low =
    let start : chunk.start ≡ start_of (chunk.start + i) = omega (arith, whole, low) in
    let place : (chunk.start + i) % CHUNK_INODES ≡ i = omega (arith, whole, low) in
    cond-true (eqb chunk.start (start_of (chunk.start + i))) (slice_get chunk.inodes ((chunk.start + i) % CHUNK_INODES)) (inode_in chunks (chunk.start + i))
    (eq-eqb chunk.start (start_of (chunk.start + i)) start)
    ∙ ap (slice_get chunk.inodes) place

past_end : {X : Type 0} (xs : List X) (i : ℕ) → length xs ≤ i → slice_get xs i ≡ None
past_end [] i high = refl
past_end (x ∷ xs) zero high = absurd (omega (arith, high))
past_end (x ∷ xs) (suc i) high = past_end xs i (omega (arith, high))

rest_inode : (chunk : Chunk) (chunks : Group) (agino : ℕ) → AllByRecursion (λ (later : Chunk). chunk.start < later.start) chunks → is_unlinked (inode_in (chunk ∷ chunks) agino) ≡ false
    → is_unlinked (inode_in chunks agino) ≡ false
unfolding inode_in
rest_inode chunk chunks agino all none =
    elim (cases_eq chunk.start (start_of agino)) [
      | inl same ↦ ap (λ (o : Option Inode). is_unlinked o) (later_none chunk.start agino chunks all (sym same))
      | inr other ↦ ap (λ (o : Option Inode). is_unlinked o) (sym (cond-false (eqb chunk.start (start_of agino)) (slice_get chunk.inodes (agino % CHUNK_INODES)) (inode_in chunks agino)
          (ne_eqb chunk.start (start_of agino) other))) ∙ none
    ]

among_none : (chunks : Group) → ChunksAscend chunks → AllByRecursion IsChunk chunks → ((agino : ℕ) → is_unlinked (inode_in chunks agino) ≡ false) → orphans_among chunks ≡ 0
unfolding orphans_among
among_none [] ascend all none = refl
among_none (chunk ∷ chunks) ascend all none =
    let is : IsChunk chunk = all.0 in
    let long : length chunk.inodes ≡ CHUNK_INODES = is.whole in
    let here = in_none chunk.inodes (λ i. elim (cases_lt i CHUNK_INODES) [
      | inl low ↦ ap (λ (o : Option Inode). is_unlinked o) (sym (first_inode chunk chunks i is.start low)) ∙ none (chunk.start + i)
      | inr high ↦ ap (λ (o : Option Inode). is_unlinked o) (past_end chunk.inodes i (omega (arith, high, long)))
    ]) in
    let rest = among_none chunks ascend.1 all.1 (λ agino. rest_inode chunk chunks agino ascend.0 (none agino)) in
    omega (arith, here, rest)

groups_none : (blocks : ℕ) (groups : List Group) → AllByRecursion (IsGroup blocks) groups → ((i agino : ℕ) → i < length groups → is_unlinked (inode_in (get_or groups i []) agino) ≡ false)
    → orphans_all groups ≡ 0
unfolding orphans_all
groups_none blocks [] all none = refl
groups_none blocks (group ∷ groups) all none =
    let here = among_none group all.0.ascends all.0.chunks (λ agino. none 0 agino (omega arith)) in
    let rest = groups_none blocks groups all.1 (λ i agino low. none (suc i) agino (omega (arith, low))) in
    omega (arith, here, rest)

pub none_unlinked_at_all : (t : Table) → IsTable t → ((i agino : ℕ) → i < length t.groups → is_unlinked (inode_in (group_at t i) agino) ≡ false) → orphans t ≡ 0
none_unlinked_at_all t is none = groups_none t.blocks t.groups is.groups none

-- ---- there are no more than numbers

at_most_one : (r : Option Row) → orphans_of r ≤ 1
at_most_one None = omega arith
at_most_one (Some row) = elim (eqb row.links 0) as (λ c. cond {A = ℕ} c 1 0 ≤ 1) [ true ↦ omega arith | false ↦ omega arith ]

few_in : (inodes : List Inode) → orphans_in inodes ≤ length inodes
unfolding orphans_in
few_in [] = omega arith
few_in (inode ∷ inodes) = let one = at_most_one inode.row in let rest = few_in inodes in omega (arith, one, rest)

few_among : (chunks : Group) → AllByRecursion IsChunk chunks → orphans_among chunks ≤ CHUNK_INODES * length chunks
unfolding orphans_among
few_among [] all = omega arith
few_among (chunk ∷ chunks) all =
    let long : length chunk.inodes ≡ CHUNK_INODES = all.0.whole in
    let here = few_in chunk.inodes in
    let rest = few_among chunks all.1 in
    omega (arith, long, here, rest)

few_all : (blocks : ℕ) (groups : List Group) → AllByRecursion (IsGroup blocks) groups → orphans_all groups ≤ CHUNK_INODES * MAX_CHUNKS * length groups
unfolding orphans_all
few_all blocks [] all = omega arith
few_all blocks (group ∷ groups) all =
    let chunks : length group ≤ MAX_CHUNKS = all.0.few in
    let here = few_among group all.0.chunks in
    let rest = few_all blocks groups all.1 in
    omega (arith, chunks, here, rest)

pub few_orphans : (t : Table) → IsTable t → orphans t ≤ MAX_NUMBERS
few_orphans t is =
    let many : length t.groups ≤ MAX_GROUPS = is.many in
    let all = few_all t.blocks t.groups is.groups in
    omega (arith, many, all)
