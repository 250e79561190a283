-- A group stays well formed: one inode is changed, or a chunk is added.
use Rattle.std.proofs.Common.{◌≡◌, ◌≢◌, ◌==◌, ◌+◌, ◌*◌, ◌/◌, ◌%◌, ◌<◌, ◌≤◌, ◌⊎◌, ℕ, zero, suc, Bool, true, false, List, [], ◌∷◌, Option, None, Some, if◌then◌else◌, nat_lt, length, find, slice_get, slice_set, replicate, refl, sym, ap, subst, ◌∙◌, inl, inr, arith, length-set}
use Rattle.std.specs.List.{AllByRecursion, list_all, range_with_len}
use Rattle.std.proofs.lemmas.List.{length-replicate}
use Rattle.std.proofs.lemmas.Option.{none-some, same_Some}
use Rattle.std.proofs.lemmas.Bool.{eqb-true, and_parts, cases_eq, cases_lt, ltb-true, ltb-false}
use Rattle.life_limits.specs.declared.TheConstants.{BLOCK_SECTORS, CHUNK_INODES, MAX_CHUNKS}
use Rattle.life_table.specs.declared.types.Row.{Row}
use Rattle.life_table.specs.declared.table.Inode.{Inode}
use Rattle.life_table.specs.declared.table.Chunk.{Chunk}
use Rattle.life_table.specs.Table.{Group, inode_in, set_inode, start_of}
use Rattle.life_table.specs.Space.{times, chunk_blocks, row_blocks, used, is_free_block, begins_run, chunk_place, new_chunk, insert_chunk}
use Rattle.life_table.specs.WellFormed.{IsInode, IsChunk, IsGroup, ChunksAscend}
use Rattle.life_table.proofs.Counts.{times-set_inode, times-insert_chunk, times-used_cons, times-new_chunk, times-chunk, times-chunk_outside, is_free_block-parts}
use Rattle.life_table.proofs.Lookups.{IsAbsent}

-- of each element, after one was changed to one of which it holds
pub AllByRecursion-set : {X : Type 0} (P : X → Type 0) (xs : List X) (i : ℕ) (x : X) → AllByRecursion P xs → P x → AllByRecursion P (slice_set xs i x)
AllByRecursion-set P [] i x all here = tt
AllByRecursion-set P (y ∷ xs) zero x all here = (here, all.1)
AllByRecursion-set P (y ∷ xs) (suc i) x all here = (all.0, AllByRecursion-set P xs i x all.1 here)

pub AllByRecursion-get : {X : Type 0} (P : X → Type 0) (xs : List X) (i : ℕ) (x : X) → AllByRecursion P xs → slice_get xs i ≡ Some x → P x
AllByRecursion-get P [] i x all at = absurd (none-some x at)
AllByRecursion-get P (y ∷ xs) zero x all at = subst P (same_Some y x at) all.0
AllByRecursion-get P (y ∷ xs) (suc i) x all at = AllByRecursion-get P xs i x all.1 at

AllByRecursion-replicate : {X : Type 0} (P : X → Type 0) (n : ℕ) (x : X) → P x → AllByRecursion P (replicate n x)
AllByRecursion-replicate P zero x here = tt
AllByRecursion-replicate P (suc n) x here = (here, AllByRecursion-replicate P n x here)

pub AllByRecursion-weaker : {X : Type 0} (P Q : X → Type 0) (xs : List X) → ((x : X) → P x → Q x) → AllByRecursion P xs → AllByRecursion Q xs
AllByRecursion-weaker P Q [] weaker all = tt
AllByRecursion-weaker P Q (x ∷ xs) weaker all = (weaker x all.0, AllByRecursion-weaker P Q xs weaker all.1)

-- what a change of one inode keeps of the chunks
length-set_inode : (group : Group) (agino : ℕ) (new : Inode) → length (set_inode group agino new) ≡ length group
unfolding set_inode
length-set_inode [] agino new = refl
length-set_inode (chunk ∷ chunks) agino new =
    elim (chunk.start == start_of agino) as (λ c. length (if c then record { start = chunk.start; inodes = slice_set chunk.inodes (agino % CHUNK_INODES) new } ∷ chunks else chunk ∷ set_inode chunks agino new) ≡ suc (length chunks)) [
      | true ↦ refl
      | false ↦ ap suc (length-set_inode chunks agino new)
    ]

-- a fact about starts holds of each chunk after the change where it held before
starts-set_inode : (P : ℕ → Type 0) (group : Group) (agino : ℕ) (new : Inode) → AllByRecursion (λ (chunk : Chunk). P chunk.start) group
    → AllByRecursion (λ (chunk : Chunk). P chunk.start) (set_inode group agino new)
unfolding set_inode
starts-set_inode P [] agino new all = tt
starts-set_inode P (chunk ∷ chunks) agino new all =
    elim (chunk.start == start_of agino) as (λ c. AllByRecursion (λ (chunk : Chunk). P chunk.start) (if c then record { start = chunk.start; inodes = slice_set chunk.inodes (agino % CHUNK_INODES) new } ∷ chunks else chunk ∷ set_inode chunks agino new)) [
      | true ↦ all
      | false ↦ (all.0, starts-set_inode P chunks agino new all.1)
    ]

Ascends-set_inode : (group : Group) (agino : ℕ) (new : Inode) → ChunksAscend group → ChunksAscend (set_inode group agino new)
unfolding set_inode
Ascends-set_inode [] agino new ascends = tt
Ascends-set_inode (chunk ∷ chunks) agino new ascends =
    elim (chunk.start == start_of agino) as (λ c. ChunksAscend (if c then record { start = chunk.start; inodes = slice_set chunk.inodes (agino % CHUNK_INODES) new } ∷ chunks else chunk ∷ set_inode chunks agino new)) [
      | true ↦ ascends
      | false ↦ (starts-set_inode (λ (start : ℕ). chunk.start < start) chunks agino new ascends.0, Ascends-set_inode chunks agino new ascends.1)
    ]

chunks-set_inode : (group : Group) (agino : ℕ) (new : Inode) → IsInode new → AllByRecursion IsChunk group → AllByRecursion IsChunk (set_inode group agino new)
unfolding set_inode
chunks-set_inode [] agino new ok all = tt
chunks-set_inode (chunk ∷ chunks) agino new ok all =
    elim (chunk.start == start_of agino) as (λ c. AllByRecursion IsChunk (if c then record { start = chunk.start; inodes = slice_set chunk.inodes (agino % CHUNK_INODES) new } ∷ chunks else chunk ∷ set_inode chunks agino new)) [
      | true ↦ (
        record {
          start = all.0.start;
          whole = length-set chunk.inodes (agino % CHUNK_INODES) new ∙ all.0.whole;
          inodes = AllByRecursion-set IsInode chunk.inodes (agino % CHUNK_INODES) new all.0.inodes ok;
        },
        all.1,
      )
      | false ↦ (all.0, chunks-set_inode chunks agino new ok all.1)
    ]

-- an inode of a well formed group is well formed
pub IsInode-in : (group : Group) (agino : ℕ) (inode : Inode) → AllByRecursion IsChunk group → inode_in group agino ≡ Some inode → IsInode inode
unfolding inode_in
IsInode-in [] agino inode all at = absurd (none-some inode at)
IsInode-in (chunk ∷ chunks) agino inode all at =
    elim (chunk.start == start_of agino) as (λ c. (if c then slice_get chunk.inodes (agino % CHUNK_INODES) else inode_in chunks agino) ≡ Some inode → IsInode inode) [
      | true ↦ λ here. AllByRecursion-get IsInode chunk.inodes (agino % CHUNK_INODES) inode all.0.inodes here
      | false ↦ λ here. IsInode-in chunks agino inode all.1 here
    ] at

-- each block of the new row was one of the old row, or was free
abbrev pub TakesOnlyFree : ℕ → Group → Option Row → Option Row → Type 0
TakesOnlyFree blocks group old new =
    (b : ℕ) → (times b (row_blocks new) ≤ times b (row_blocks old)) ⊎ ((is_free_block blocks group b ≡ true) × (times b (row_blocks new) ≤ 1))

-- one inode is changed
pub IsGroup-set_inode : (blocks : ℕ) (group : Group) (agino : ℕ) (old new : Inode) → IsGroup blocks group → inode_in group agino ≡ Some old → IsInode new
    → TakesOnlyFree blocks group old.row new.row → IsGroup blocks (set_inode group agino new)
IsGroup-set_inode blocks group agino old new ok at inode takes = record {
  few = subst (λ n. n ≤ MAX_CHUNKS) (sym (length-set_inode group agino new)) ok.few;
  ascends = Ascends-set_inode group agino new ok.ascends;
  chunks = chunks-set_inode group agino new inode ok.chunks;
  data_blocks = λ b has.
      let moved = times-set_inode b group agino old new at in
      elim (takes b) [
        | inl kept ↦ ok.data_blocks b (omega (arith, moved))
        | inr free ↦ let parts = is_free_block-parts blocks group b free.0 in (parts.0, parts.1)
      ];
  once = λ b.
      let moved = times-set_inode b group agino old new at in
      let before : times b (used group) ≤ 1 = ok.once b in
      elim (takes b) [
        | inl kept ↦ omega (arith, moved)
        | inr free ↦ let parts = is_free_block-parts blocks group b free.0 in omega (arith, moved, parts.2, free.1)
      ];
}

-- what is found passes the test
pub find-passes : (p : ℕ → Bool) (xs : List ℕ) (x : ℕ) → find p xs ≡ Some x → p x ≡ true
find-passes p [] x at = absurd (none-some x at)
find-passes p (y ∷ xs) x at =
    elim (p y) as (λ c. p y ≡ c → (if c then Some y else find p xs) ≡ Some x → p x ≡ true) [
      | true ↦ λ is here. subst (λ z. p z ≡ true) (same_Some y x here) is
      | false ↦ λ is here. find-passes p xs x here
    ] refl at

-- the tests of a range all pass
pub range_all : (p : ℕ → Bool) (a n b : ℕ) → list_all p (range_with_len a n) ≡ true → a ≤ b → b < a + n → p b ≡ true
range_all p a zero b all low high = absurd (omega arith)
range_all p a (suc n) b all low high =
    let parts = and_parts (p a) (list_all p (range_with_len (a + 1) n)) all in
    elim (cases_eq a b) [
      | inl same ↦ subst (λ z. p z ≡ true) same parts.0
      | inr differ ↦ range_all p (a + 1) n b parts.1 (omega arith) (omega arith)
    ]

-- where a chunk may be added: there is room for it, and its 8 blocks are free
pub record IsPlace (blocks : ℕ) (group : Group) (block : ℕ) : Type 0 where
  pub few : length group < MAX_CHUNKS
  pub aligned : block % 8 ≡ 0
  pub free : (b : ℕ) → block ≤ b → b < block + 8 → is_free_block blocks group b ≡ true

pub IsPlace-chunk_place : (blocks : ℕ) (group : Group) (block : ℕ) → chunk_place blocks group ≡ Some block → IsPlace blocks group block
unfolding chunk_place begins_run
IsPlace-chunk_place blocks group block at =
    elim (nat_lt (length group) MAX_CHUNKS) as (λ c. nat_lt (length group) MAX_CHUNKS ≡ c
    → (if c then find (begins_run blocks group) (range_with_len 0 blocks) else None) ≡ Some block → IsPlace blocks group block) [
      | true ↦ λ room found.
          let passes : begins_run blocks group block ≡ true = find-passes (begins_run blocks group) (range_with_len 0 blocks) block found in
          let parts = and_parts (block % 8 == 0) (list_all (is_free_block blocks group) (range_with_len block 8)) passes in
          record {
            few = ltb-true (length group) MAX_CHUNKS room;
            aligned = eqb-true (block % 8) 0 parts.0;
            free = λ b low high. range_all (is_free_block blocks group) block 8 b parts.1 low high;
          }
      | false ↦ λ room found. absurd (none-some block found)
    ] refl at

-- the start of the new chunk is no other's, since the blocks of the others are not free
has_its_first : (group : Group) (b : ℕ) → times b (used group) ≡ 0 → IsAbsent (b * BLOCK_SECTORS) group
has_its_first [] b none = tt
has_its_first (chunk ∷ chunks) b none =
    let parts = times-used_cons b chunk chunks in (
      λ e.
          let here : times b (chunk_blocks chunk) ≡ 1 = times-chunk b chunk (omega arith) (omega arith) in
          absurd (omega (arith, parts, here)),
      has_its_first chunks b (omega (arith, parts)),
    )

pub new_start : (block : ℕ) → (new_chunk block).start ≡ block * BLOCK_SECTORS
unfolding new_chunk
new_start block = refl

pub IsAbsent-place : (blocks : ℕ) (group : Group) (block : ℕ) → IsPlace blocks group block → IsAbsent (new_chunk block).start group
unfolding new_chunk
IsAbsent-place blocks group block place =
    let parts = is_free_block-parts blocks group block (place.free block (omega arith) (omega arith)) in
    has_its_first group block parts.2

length-insert_chunk : (new : Chunk) (group : Group) → length (insert_chunk new group) ≡ suc (length group)
unfolding insert_chunk
length-insert_chunk new [] = refl
length-insert_chunk new (chunk ∷ chunks) =
    elim (nat_lt new.start chunk.start) as (λ c. length (if c then new ∷ chunk ∷ chunks else chunk ∷ insert_chunk new chunks) ≡ suc (suc (length chunks))) [
      | true ↦ refl
      | false ↦ ap suc (length-insert_chunk new chunks)
    ]

pub All-insert_chunk : (P : Chunk → Type 0) (new : Chunk) (group : Group) → P new → AllByRecursion P group → AllByRecursion P (insert_chunk new group)
unfolding insert_chunk
All-insert_chunk P new [] here all = (here, tt)
All-insert_chunk P new (chunk ∷ chunks) here all =
    elim (nat_lt new.start chunk.start) as (λ c. AllByRecursion P (if c then new ∷ chunk ∷ chunks else chunk ∷ insert_chunk new chunks)) [
      | true ↦ (here, all)
      | false ↦ (all.0, All-insert_chunk P new chunks here all.1)
    ]

Ascends-insert_chunk : (new : Chunk) (group : Group) → IsAbsent new.start group → ChunksAscend group → ChunksAscend (insert_chunk new group)
unfolding insert_chunk
Ascends-insert_chunk new [] absent ascends = (tt, tt)
Ascends-insert_chunk new (chunk ∷ chunks) absent ascends =
    elim (nat_lt new.start chunk.start) as (λ c. nat_lt new.start chunk.start ≡ c → ChunksAscend (if c then new ∷ chunk ∷ chunks else chunk ∷ insert_chunk new chunks)) [
      | true ↦ λ below.
          let low : new.start < chunk.start = ltb-true new.start chunk.start below in
          let later : AllByRecursion (λ (other : Chunk). new.start < other.start) chunks =
          AllByRecursion-weaker (λ (other : Chunk). chunk.start < other.start) (λ (other : Chunk). new.start < other.start) chunks (λ other more. omega (arith, low, more)) ascends.0 in
          ((low, later), ascends)
      | false ↦ λ below.
          let high : chunk.start ≤ new.start = ltb-false new.start chunk.start below in
          let apart : chunk.start ≢ new.start = absent.0 in
          let behind : chunk.start < new.start = elim (cases_lt chunk.start new.start) [ inl low ↦ low | inr not_low ↦ absurd (apart (omega (arith, high, not_low))) ] in
          (All-insert_chunk (λ (other : Chunk). chunk.start < other.start) new chunks behind ascends.0, Ascends-insert_chunk new chunks absent.1 ascends.1)
    ] refl

pub IsChunk-new_chunk : (block : ℕ) → block % 8 ≡ 0 → IsChunk (new_chunk block)
unfolding new_chunk
IsChunk-new_chunk block aligned = record {
  start = omega arith;
  whole = length-replicate {A = Inode} CHUNK_INODES (record { generation = 1; row = None });
  inodes = AllByRecursion-replicate IsInode CHUNK_INODES (record { generation = 1; row = None }) (record { first = omega arith; last = omega arith; row = tt });
}

-- inside 8 blocks or outside
within : (b block : ℕ) → ((block ≤ b) × (b < block + 8)) ⊎ ((b < block) ⊎ (block + 8 ≤ b))
within b block = elim (cases_lt b block) [ inl low ↦ inr (inl low) | inr high ↦ elim (cases_lt b (block + 8)) [ inl below ↦ inl (high, below) | inr past ↦ inr (inr past) ] ]

moved : (b block start : ℕ) → start ≡ block * 8 → (b < block) ⊎ (block + 8 ≤ b) → (b < start / 8) ⊎ (start / 8 + 8 ≤ b)
moved b block start is (inl low) = inl (omega arith)
moved b block start is (inr high) = inr (omega arith)

-- a chunk is added
pub IsGroup-insert_chunk : (blocks : ℕ) (group : Group) (block : ℕ) → IsGroup blocks group → IsPlace blocks group block → IsGroup blocks (insert_chunk (new_chunk block) group)
IsGroup-insert_chunk blocks group block ok place =
    let new = new_chunk block in
    let start : new.start ≡ block * 8 = new_start block in
    record {
      few = subst (λ n. n ≤ MAX_CHUNKS) (sym (length-insert_chunk new group)) place.few;
      ascends = Ascends-insert_chunk new group (IsAbsent-place blocks group block place) ok.ascends;
      chunks = All-insert_chunk IsChunk new group (IsChunk-new_chunk block place.aligned) ok.chunks;
      data_blocks = λ b has.
          let parts = times-insert_chunk b new group in
          let rows = times-new_chunk b block in
          elim (within b block) [
            | inl inside ↦ let free = is_free_block-parts blocks group b (place.free b inside.0 inside.1) in (free.0, free.1)
            | inr outside ↦
                let none : times b (chunk_blocks new) ≡ 0 = times-chunk_outside b new (moved b block new.start start outside) in
                ok.data_blocks b (omega (arith, parts, rows, none, has))
          ];
      once = λ b.
          let parts = times-insert_chunk b new group in
          let rows = times-new_chunk b block in
          let before : times b (used group) ≤ 1 = ok.once b in
          elim (within b block) [
            | inl inside ↦
                let free = is_free_block-parts blocks group b (place.free b inside.0 inside.1) in
                let one : times b (chunk_blocks new) ≡ 1 = times-chunk b new (omega (arith, start, inside.0)) (omega (arith, start, inside.1)) in
                omega (arith, parts, rows, one, free.2)
            | inr outside ↦
                let none : times b (chunk_blocks new) ≡ 0 = times-chunk_outside b new (moved b block new.start start outside) in
                omega (arith, parts, rows, none, before)
          ];
    }
