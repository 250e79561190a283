-- The keys of those inodes of a group that meet a test, ascending.
use Rattle.std.proofs.Common.{◌≡◌, ◌<◌, ◌≤◌, ◌+◌, ◌-◌, ◌*◌, ◌/◌, ◌%◌, ◌==◌, ◌++◌, ℕ, Bool, zero, suc, true, false, List, [], ◌∷◌, Some, if◌then◌else◌, length, slice_get, refl, sym, ap, subst, ◌∙◌, arith, inl, inr}
use Rattle.std.specs.List.{AllByRecursion, Contains, flat_map, range_with_len}
use Rattle.std.proofs.lemmas.List.Elements.{Contains-append_left, Contains-append_right}
use Rattle.std.proofs.lemmas.Option.{none-some, same_Some, slice_get_within}
use Rattle.std.proofs.lemmas.Bool.{cases_lt, eqb-true, eq-eqb}
use Rattle.life_limits.specs.declared.TheConstants.{CHUNK_INODES, GROUP_NUMBERS, MAX_BLOCKS}
use Rattle.life_table.specs.declared.key.Key.{Key}
use Rattle.life_table.specs.declared.table.Inode.{Inode}
use Rattle.life_table.specs.declared.table.Chunk.{Chunk}
use Rattle.life_table.specs.declared.table.Table.{Table}
use Rattle.life_table.specs.Table.{Group, group_at, inode_in, start_of}
use Rattle.life_table.specs.Space.{chunk_blocks, free_keys, inode_blocks, is_free, keys_from, times, used}
use Rattle.life_table.specs.WellFormed.{ChunksAscend, IsChunk, IsDataBlock, IsGroup, IsTable}
use Rattle.actor_world.specs.Moves.{awaiting_from, awaiting_of, is_awaiting_row}
use Rattle.actor_world.specs.Invariant.{KeysAscend}
use Rattle.actor_world.proofs.Geometry.{times-append, times-range}
use Rattle.actor_world.proofs.Lists.{all_append, all_read, all_weaker, contains_cons, read_past}
use Rattle.actor_world.proofs.Prepares.{none_above}

-- ---- of a chunk

pub picked : (Inode → Bool) → ℕ → List Inode → List Key
picked test number [] = []
picked test number (inode ∷ inodes) =
    if test inode then record { number = number; generation = inode.generation } ∷ picked test (number + 1) inodes else picked test (number + 1) inodes

key_at : ℕ → Inode → Key
key_at number inode = record { number = number; generation = inode.generation }

number_is : (number other : ℕ) (inode : Inode) (P : Key → Type 0) → number ≡ other → P (record { number = number; generation = inode.generation }) → P (record { number = other; generation = inode.generation })
number_is number other inode P same is = subst (λ n. P (record { number = n; generation = inode.generation })) same is

picked_all : (test : Inode → Bool) (P : Key → Type 0) (number : ℕ) (inodes : List Inode)
    → ((i : ℕ) (inode : Inode) → slice_get inodes i ≡ Some inode → test inode ≡ true → P (record { number = number + i; generation = inode.generation }))
    → AllByRecursion P (picked test number inodes)
unfolding picked
picked_all test P number [] f = tt
picked_all test P number (inode ∷ inodes) f =
    let rest = picked_all test P (number + 1) inodes (λ i other at is. number_is (number + suc i) (number + 1 + i) other P (omega arith) (f (suc i) other at is)) in
    elim (test inode) as (λ b. test inode ≡ b → AllByRecursion P (if b then record { number = number; generation = inode.generation } ∷ picked test (number + 1) inodes else picked test (number + 1) inodes)) [
      | true ↦ λ is. (number_is (number + 0) number inode P (omega arith) (f 0 inode refl is), rest)
      | false ↦ λ is. rest
    ] refl

pub picked_has : (test : Inode → Bool) (number : ℕ) (inodes : List Inode) (i : ℕ) (inode : Inode) → slice_get inodes i ≡ Some inode → test inode ≡ true
    → Contains (picked test number inodes) (record { number = number + i; generation = inode.generation })
unfolding picked
picked_has test number [] i inode at is = absurd (none-some inode at)
picked_has test number (first ∷ inodes) zero inode at is =
    let same : first ≡ inode = same_Some first inode at in
    let here : test first ≡ true = ap test same ∙ is in
    number_is number (number + 0) inode (λ k. Contains (if test first then record { number = number; generation = first.generation } ∷ picked test (number + 1) inodes else picked test (number + 1) inodes) k) (omega arith)
    (subst (λ (b : Bool). Contains (if b then record { number = number; generation = first.generation } ∷ picked test (number + 1) inodes else picked test (number + 1) inodes) (record { number = number; generation = inode.generation })) (sym here)
    (subst (λ (x : Inode). Contains (record { number = number; generation = x.generation } ∷ picked test (number + 1) inodes) (record { number = number; generation = inode.generation })) (sym same)
    (zero, omega arith, refl)))
picked_has test number (first ∷ inodes) (suc i) inode at is =
    let rest : Contains (picked test (number + 1) inodes) (record { number = number + suc i; generation = inode.generation }) =
    number_is (number + 1 + i) (number + suc i) inode (λ k. Contains (picked test (number + 1) inodes) k) (omega arith) (picked_has test (number + 1) inodes i inode at is) in
    elim (test first) as (λ b. Contains (if b then record { number = number; generation = first.generation } ∷ picked test (number + 1) inodes else picked test (number + 1) inodes) (record { number = number + suc i; generation = inode.generation })) [
      | true ↦ contains_cons _ (picked test (number + 1) inodes) _ rest
      | false ↦ rest
    ]

-- each of them stands at this number or above it, below the last one
picked_between : (test : Inode → Bool) (number : ℕ) (inodes : List Inode) → AllByRecursion (λ (key : Key). (number ≤ key.number) × (key.number < number + length inodes)) (picked test number inodes)
picked_between test number inodes =
    picked_all test (λ (key : Key). (number ≤ key.number) × (key.number < number + length inodes)) number inodes
    (λ i inode at is. let within = slice_get_within inodes i inode at in (omega arith, omega (arith, within)))

picked_ascend : (test : Inode → Bool) (number : ℕ) (inodes : List Inode) → KeysAscend (picked test number inodes)
unfolding picked
picked_ascend test number [] = tt
picked_ascend test number (inode ∷ inodes) =
    let rest = picked_ascend test (number + 1) inodes in
    let above = all_weaker (λ (key : Key). (number + 1 ≤ key.number) × (key.number < number + 1 + length inodes)) (λ (key : Key). number < key.number) (picked test (number + 1) inodes)
    (λ key between. let low = between.0 in omega (arith, low)) (picked_between test (number + 1) inodes) in
    elim (test inode) as (λ b. KeysAscend (if b then record { number = number; generation = inode.generation } ∷ picked test (number + 1) inodes else picked test (number + 1) inodes)) [
      | true ↦ (above, rest)
      | false ↦ rest
    ]

-- ---- of a group

pub picks : (Inode → Bool) → ℕ → Group → List Key
picks test g group = flat_map (λ (chunk : Chunk). picked test (g * GROUP_NUMBERS + chunk.start) chunk.inodes) group

awaiting_picked : (number : ℕ) (inodes : List Inode) → awaiting_from number inodes ≡ picked (λ (inode : Inode). is_awaiting_row inode.row) number inodes
unfolding awaiting_from picked
awaiting_picked number [] = refl
awaiting_picked number (inode ∷ inodes) =
    ap (λ keys. if is_awaiting_row inode.row then record { number = number; generation = inode.generation } ∷ keys else keys) (awaiting_picked (number + 1) inodes)

free_picked : (number : ℕ) (inodes : List Inode) → keys_from number inodes ≡ picked is_free number inodes
unfolding keys_from picked
free_picked number [] = refl
free_picked number (inode ∷ inodes) =
    ap (λ keys. if is_free inode then record { number = number; generation = inode.generation } ∷ keys else keys) (free_picked (number + 1) inodes)

same_flat : (f h : Chunk → List Key) → ((chunk : Chunk) → f chunk ≡ h chunk) → (group : Group) → flat_map f group ≡ flat_map h group
same_flat f h same [] = refl
same_flat f h same (chunk ∷ chunks) = (λ i. same chunk i ++ same_flat f h same chunks i)

pub awaiting_picks : (t : Table) (g : ℕ) → awaiting_of t g ≡ picks (λ (inode : Inode). is_awaiting_row inode.row) g (group_at t g)
unfolding awaiting_of picks
awaiting_picks t g = same_flat _ _ (λ (chunk : Chunk). awaiting_picked (g * GROUP_NUMBERS + chunk.start) chunk.inodes) (group_at t g)

pub free_picks : (g : ℕ) (group : Group) → free_keys g group ≡ picks is_free g group
unfolding free_keys picks
free_picks g group = same_flat _ _ (λ (chunk : Chunk). free_picked (g * GROUP_NUMBERS + chunk.start) chunk.inodes) group

-- a chunk as its inodes are numbered
pub record IsLaid (chunk : Chunk) : Type 0 where
  pub start : chunk.start % CHUNK_INODES ≡ 0
  pub whole : length chunk.inodes ≡ CHUNK_INODES
  pub inside : chunk.start + CHUNK_INODES ≤ GROUP_NUMBERS

-- so are those of a group
pub record AreLaid (group : Group) : Type 0 where
  pub ascends : ChunksAscend group
  pub chunks : AllByRecursion IsLaid group

abbrev pub ascend_of : (chunk : Chunk) (chunks : Group) → AreLaid (chunk ∷ chunks) → AreLaid chunks
ascend_of chunk chunks laid = record { ascends = laid.ascends.1; chunks = laid.chunks.1 }

in_chunk : (chunk : Chunk) (i : ℕ) → IsLaid chunk → i < length chunk.inodes → (start_of (chunk.start + i) ≡ chunk.start) × ((chunk.start + i) % CHUNK_INODES ≡ i)
in_chunk chunk i laid low = (omega (arith, laid.start, laid.whole, low), omega (arith, laid.start, laid.whole, low))

-- an inode of a chunk is one of the group
in_first : (chunk : Chunk) (chunks : Group) (i : ℕ) (inode : Inode) → IsLaid chunk → slice_get chunk.inodes i ≡ Some inode → inode_in (chunk ∷ chunks) (chunk.start + i) ≡ Some inode
unfolding inode_in
in_first chunk chunks i inode laid at =
    let place = in_chunk chunk i laid (slice_get_within chunk.inodes i inode at) in
    ap (λ b. if b then slice_get chunk.inodes ((chunk.start + i) % CHUNK_INODES) else inode_in chunks (chunk.start + i)) (eq-eqb chunk.start (start_of (chunk.start + i)) (sym place.0))
    ∙ ap (λ n. slice_get chunk.inodes n) place.1 ∙ at

in_later : (chunk : Chunk) (chunks : Group) (agino : ℕ) (inode : Inode) → ChunksAscend (chunk ∷ chunks) → inode_in chunks agino ≡ Some inode → inode_in (chunk ∷ chunks) agino ≡ Some inode
unfolding inode_in
in_later chunk chunks agino inode ascends at =
    elim (chunk.start == start_of agino) as (λ b. chunk.start == start_of agino ≡ b → (if b then slice_get chunk.inodes (agino % CHUNK_INODES) else inode_in chunks agino) ≡ Some inode) [
      | true ↦ λ is. absurd (none-some inode (sym (none_above chunks chunk.start agino (eqb-true chunk.start (start_of agino) is) ascends.0) ∙ at))
      | false ↦ λ is. at
    ] refl

pub picks_all : (test : Inode → Bool) (P : Key → Type 0) (g : ℕ) (group : Group) → AreLaid group
    → ((agino : ℕ) (inode : Inode) → inode_in group agino ≡ Some inode → agino < GROUP_NUMBERS → test inode ≡ true → P (record { number = g * GROUP_NUMBERS + agino; generation = inode.generation }))
    → AllByRecursion P (picks test g group)
unfolding picks
picks_all test P g [] laid f = tt
picks_all test P g (chunk ∷ chunks) laid f =
    all_append P (picked test (g * GROUP_NUMBERS + chunk.start) chunk.inodes) _
    (picked_all test P (g * GROUP_NUMBERS + chunk.start) chunk.inodes (λ i inode at is.
    let low = slice_get_within chunk.inodes i inode at in
    number_is (g * GROUP_NUMBERS + (chunk.start + i)) (g * GROUP_NUMBERS + chunk.start + i) inode P (omega arith)
    (f (chunk.start + i) inode (in_first chunk chunks i inode laid.chunks.0 at) (let inside = laid.chunks.0.inside in let whole = laid.chunks.0.whole in omega (arith, inside, whole, low)) is)))
    (picks_all test P g chunks (ascend_of chunk chunks laid) (λ agino inode at few is. f agino inode (in_later chunk chunks agino inode laid.ascends at) few is))

pub picks_has : (test : Inode → Bool) (g : ℕ) (group : Group) (agino : ℕ) (inode : Inode) → inode_in group agino ≡ Some inode → test inode ≡ true
    → Contains (picks test g group) (record { number = g * GROUP_NUMBERS + agino; generation = inode.generation })
unfolding picks inode_in
picks_has test g [] agino inode at is = absurd (none-some inode at)
picks_has test g (chunk ∷ chunks) agino inode at is =
    let here : List Key = picked test (g * GROUP_NUMBERS + chunk.start) chunk.inodes in
    let rest : List Key = flat_map (λ (c : Chunk). picked test (g * GROUP_NUMBERS + c.start) c.inodes) chunks in
    elim (chunk.start == start_of agino) as (λ b. chunk.start == start_of agino ≡ b → (if b then slice_get chunk.inodes (agino % CHUNK_INODES) else inode_in chunks agino) ≡ Some inode
    → Contains (here ++ rest) (record { number = g * GROUP_NUMBERS + agino; generation = inode.generation })) [
      | true ↦ λ same at.
          let start : chunk.start ≡ agino - agino % CHUNK_INODES = eqb-true chunk.start (start_of agino) same in
          Contains-append_left here rest _ (number_is (g * GROUP_NUMBERS + chunk.start + agino % CHUNK_INODES) (g * GROUP_NUMBERS + agino) inode (λ k. Contains here k) (omega (arith, start))
          (picked_has test (g * GROUP_NUMBERS + chunk.start) chunk.inodes (agino % CHUNK_INODES) inode at is))
      | false ↦ λ other at. Contains-append_right here rest _ (picks_has test g chunks agino inode at is)
    ] refl at

pub ascend_append : (xs ys : List Key) (bound : ℕ) → KeysAscend xs → KeysAscend ys → AllByRecursion (λ (key : Key). key.number < bound) xs → AllByRecursion (λ (key : Key). bound ≤ key.number) ys → KeysAscend (xs ++ ys)
ascend_append [] ys bound first second low high = second
ascend_append (x ∷ xs) ys bound first second low high =
    let below = low.0 in (
      all_append (λ (later : Key). x.number < later.number) xs ys first.0
          (all_weaker (λ (key : Key). bound ≤ key.number) (λ (later : Key). x.number < later.number) ys (λ key above. omega (arith, above, below)) high),
      ascend_append xs ys bound first.1 second low.1 high,
    )

-- the inodes of a group's chunks stand at its first chunk or above it
from_first : (chunks : Group) (bound agino : ℕ) (inode : Inode) → AllByRecursion (λ (later : Chunk). bound ≤ later.start) chunks → inode_in chunks agino ≡ Some inode → bound ≤ agino
unfolding inode_in
from_first [] bound agino inode all at = absurd (none-some inode at)
from_first (chunk ∷ chunks) bound agino inode all at =
    elim (chunk.start == start_of agino) as (λ b. chunk.start == start_of agino ≡ b → (if b then slice_get chunk.inodes (agino % CHUNK_INODES) else inode_in chunks agino) ≡ Some inode → bound ≤ agino) [
      | true ↦ λ same at. let start : chunk.start ≡ agino - agino % CHUNK_INODES = eqb-true chunk.start (start_of agino) same in let low = all.0 in omega (arith, start, low)
      | false ↦ λ other at. from_first chunks bound agino inode all.1 at
    ] refl at

next_starts : (chunk : Chunk) (chunks : Group) → IsLaid chunk → AllByRecursion (λ (later : Chunk). chunk.start < later.start) chunks → AllByRecursion IsLaid chunks
    → AllByRecursion (λ (later : Chunk). chunk.start + CHUNK_INODES ≤ later.start) chunks
next_starts chunk [] laid above all = tt
next_starts chunk (later ∷ chunks) laid above all =
    let s = laid.start in let l = all.0.start in let low = above.0 in
    (omega (arith, s, l, low), next_starts chunk chunks laid above.1 all.1)

pub picks_ascend : (test : Inode → Bool) (g : ℕ) (group : Group) → AreLaid group → KeysAscend (picks test g group)
unfolding picks
picks_ascend test g [] laid = tt
picks_ascend test g (chunk ∷ chunks) laid =
    let whole = laid.chunks.0.whole in
    ascend_append (picked test (g * GROUP_NUMBERS + chunk.start) chunk.inodes) _ (g * GROUP_NUMBERS + (chunk.start + CHUNK_INODES))
    (picked_ascend test (g * GROUP_NUMBERS + chunk.start) chunk.inodes) (picks_ascend test g chunks (ascend_of chunk chunks laid))
    (all_weaker _ (λ (key : Key). key.number < g * GROUP_NUMBERS + (chunk.start + CHUNK_INODES)) _ (λ key between. let high = between.1 in omega (arith, high, whole)) (picked_between test (g * GROUP_NUMBERS + chunk.start) chunk.inodes))
    (picks_all test (λ (key : Key). g * GROUP_NUMBERS + (chunk.start + CHUNK_INODES) ≤ key.number) g chunks (ascend_of chunk chunks laid) (λ agino inode at few is.
    let low = from_first chunks (chunk.start + CHUNK_INODES) agino inode (next_starts chunk chunks laid.chunks.0 laid.ascends.0 laid.chunks.1) at in omega (arith, low)))

-- ---- of a table

laid_chunk : (blocks : ℕ) (chunk : Chunk) → IsChunk chunk → blocks ≤ MAX_BLOCKS → ((block : ℕ) → 1 ≤ times block (chunk_blocks chunk) → IsDataBlock blocks block) → IsLaid chunk
unfolding chunk_blocks
laid_chunk blocks chunk is most data_block =
    let start = is.start in
    let some : 1 ≤ times (chunk.start / 8 + 7) (range_with_len (chunk.start / 8) 8) = times-range (chunk.start / 8) 8 (chunk.start / 8 + 7) (omega arith) (omega arith) in
    let low = (data_block (chunk.start / 8 + 7) some).1 in
    record { start = is.start; whole = is.whole; inside = omega (arith, start, low, most) }

laid_all : (blocks : ℕ) (group : Group) → AllByRecursion IsChunk group → blocks ≤ MAX_BLOCKS → ((block : ℕ) → 1 ≤ times block (used group) → IsDataBlock blocks block) → AllByRecursion IsLaid group
unfolding used
laid_all blocks [] all most data_block = tt
laid_all blocks (chunk ∷ chunks) all most data_block = (
  laid_chunk blocks chunk all.0 most (λ block some.
      let first = times-append block (chunk_blocks chunk) (inode_blocks chunk.inodes) in
      let whole = times-append block (chunk_blocks chunk ++ inode_blocks chunk.inodes) (used chunks) in
      data_block block (omega (arith, some, first, whole))),
  laid_all blocks chunks all.1 most (λ block some.
      let whole = times-append block (chunk_blocks chunk ++ inode_blocks chunk.inodes) (used chunks) in
      data_block block (omega (arith, some, whole))),
)

pub table_laid : (t : Table) (g : ℕ) → IsTable t → AreLaid (group_at t g)
table_laid t g ok =
    elim (cases_lt g (length t.groups)) [
      | inl low ↦
          let group = all_read (IsGroup t.blocks) t.groups g [] ok.groups low in
          record { ascends = group.ascends; chunks = laid_all t.blocks (group_at t g) group.chunks ok.most group.data_blocks }
      | inr high ↦ subst AreLaid (sym (read_past t.groups g [] high)) (record { ascends = tt; chunks = tt })
    ]
