-- One chunk more in a group, whose blocks were free, and its buffers.
use Rattle.std.proofs.Common.{◌≡◌, ◌≢◌, ◌<◌, ◌≤◌, ◌+◌, ◌*◌, ◌/◌, ◌%◌, ◌++◌, ◌&&◌, ℕ, zero, suc, true, eqb, ltb, leb, List, [], ◌∷◌, Some, None, map, inl, inr, refl, ap, sym, ◌∙◌, arith}
use Rattle.std.specs.Prelude.{replicate, slice_get}
use Rattle.std.specs.List.{AllByRecursion, range_with_len}
use Rattle.std.proofs.lemmas.Bool.{and_parts, cases_eq, cases_lt, cond-false, cond-true, eqb-true, ne_eqb, lt-ltb, le-ltb, ltb-true}
use Rattle.life_limits.specs.declared.TheConstants.{BLOCK_SECTORS, CHUNK_INODES}
use Rattle.life_table.specs.declared.table.Inode.{Inode}
use Rattle.life_table.specs.declared.table.Chunk.{Chunk}
use Rattle.life_table.specs.Space.{chunk_blocks, inode_blocks, insert_chunk, is_free_block, new_chunk, times, used}
use Rattle.life_table.specs.Table.{Group, inode_in, start_of}
use Rattle.group_ops.specs.Buffers.{Buffers, buffer_in}
use Rattle.group_ops.specs.Changes.{insert_buffers}
use Rattle.group_ops.proofs.BucketLists.{times-here}
use Rattle.group_ops.proofs.Finding.{buffer_first, buffer_later}
use Rattle.group_ops.proofs.Inodes.{inode_first, inode_later}
use Rattle.group_ops.proofs.Setting.{insert_behind, insert_front, insert_none}

-- no chunk of the group starts at this number
abbrev pub IsAbsent : ℕ → Group → Type 0
IsAbsent start group = AllByRecursion (λ (chunk : Chunk). chunk.start ≢ start) group

times-append : (b : ℕ) (xs ys : List ℕ) → times b (xs ++ ys) ≡ times b xs + times b ys
unfolding times
times-append b [] ys = omega arith
times-append b (x ∷ xs) ys = let rest = times-append b xs ys in omega arith

used_first : (b : ℕ) (c : Chunk) (cs : Group) → times b (used (c ∷ cs)) ≡ (times b (chunk_blocks c) + times b (inode_blocks c.inodes)) + times b (used cs)
unfolding used
used_first b c cs =
    times-append b (chunk_blocks c ++ inode_blocks c.inodes) (used cs)
    ∙ ap (λ (n : ℕ). n + times b (used cs)) (times-append b (chunk_blocks c) (inode_blocks c.inodes))

first_block : (chunk : Chunk) (block : ℕ) → chunk.start ≡ block * BLOCK_SECTORS → 1 ≤ times block (chunk_blocks chunk)
unfolding chunk_blocks
first_block chunk block e =
    let begins : chunk.start / BLOCK_SECTORS ≡ block = omega (arith, e) in
    omega (arith, times-here block (chunk.start / BLOCK_SECTORS) (range_with_len (chunk.start / BLOCK_SECTORS + 1) 7) begins)

absent_by : (group : Group) (block : ℕ) → times block (used group) ≡ 0 → IsAbsent (block * BLOCK_SECTORS) group
absent_by [] block none = tt
absent_by (chunk ∷ chunks) block none = (
  λ e. absurd (omega (arith, used_first block chunk chunks, first_block chunk block e, none)),
  absent_by chunks block (omega (arith, used_first block chunk chunks, none)),
)

-- no chunk starts at a block that is free
pub free_absent : (blocks : ℕ) (chunks : Group) (block : ℕ) → is_free_block blocks chunks block ≡ true → IsAbsent (block * BLOCK_SECTORS) chunks
unfolding is_free_block
free_absent blocks chunks block e =
    let outer = and_parts (leb 24 block) (ltb block blocks && eqb (times block (used chunks)) 0) e in
    absent_by chunks block (eqb-true (times block (used chunks)) 0 (and_parts (ltb block blocks) (eqb (times block (used chunks)) 0) outer.1).1)

pub free_below : (blocks : ℕ) (chunks : Group) (block : ℕ) → is_free_block blocks chunks block ≡ true → block < blocks
unfolding is_free_block
free_below blocks chunks block e =
    let outer = and_parts (leb 24 block) (ltb block blocks && eqb (times block (used chunks)) 0) e in
    ltb-true block blocks (and_parts (ltb block blocks) (eqb (times block (used chunks)) 0) outer.1).0

-- ---- the chunks

chunk_front : (new c : Chunk) (cs : Group) → new.start < c.start → insert_chunk new (c ∷ cs) ≡ new ∷ c ∷ cs
unfolding insert_chunk
chunk_front new c cs below = cond-true (ltb new.start c.start) (new ∷ c ∷ cs) (c ∷ insert_chunk new cs) (lt-ltb new.start c.start below)

chunk_behind : (new c : Chunk) (cs : Group) → c.start ≤ new.start → insert_chunk new (c ∷ cs) ≡ c ∷ insert_chunk new cs
unfolding insert_chunk
chunk_behind new c cs above = cond-false (ltb new.start c.start) (new ∷ c ∷ cs) (c ∷ insert_chunk new cs) (le-ltb new.start c.start above)

chunk_alone : (new : Chunk) → insert_chunk new [] ≡ new ∷ []
unfolding insert_chunk
chunk_alone new = refl

-- the inodes of the new chunk
pub inode_of_new : (new : Chunk) (chunks : Group) (agino : ℕ) → IsAbsent new.start chunks → new.start ≡ start_of agino → inode_in (insert_chunk new chunks) agino ≡ slice_get new.inodes (agino % CHUNK_INODES)
inode_of_new new [] agino absent e = ap (λ (cs : Group). inode_in cs agino) (chunk_alone new) ∙ inode_first new [] agino e
inode_of_new new (c ∷ cs) agino absent e = elim (cases_lt new.start c.start) [
  | inl below ↦ ap (λ (l : Group). inode_in l agino) (chunk_front new c cs below) ∙ inode_first new (c ∷ cs) agino e
  | inr above ↦
      ap (λ (l : Group). inode_in l agino) (chunk_behind new c cs above)
      ∙ inode_later c (insert_chunk new cs) agino (λ same. absent.0 (same ∙ sym e))
      ∙ inode_of_new new cs agino absent.1 e
]

-- there was none
pub inode_before : (start : ℕ) (chunks : Group) (agino : ℕ) → IsAbsent start chunks → start ≡ start_of agino → inode_in chunks agino ≡ None
unfolding inode_in
inode_before start [] agino absent e = refl
inode_before start (c ∷ cs) agino absent e =
    cond-false (eqb c.start (start_of agino)) (slice_get c.inodes (agino % CHUNK_INODES)) (inode_in cs agino) (ne_eqb c.start (start_of agino) (λ same. absent.0 (same ∙ sym e)))
    ∙ inode_before start cs agino absent.1 e

-- all others stay
pub inode_of_others : (new : Chunk) (chunks : Group) (agino : ℕ) → new.start ≢ start_of agino → inode_in (insert_chunk new chunks) agino ≡ inode_in chunks agino
inode_of_others new [] agino apart = ap (λ (cs : Group). inode_in cs agino) (chunk_alone new) ∙ inode_later new [] agino apart
inode_of_others new (c ∷ cs) agino apart = elim (cases_lt new.start c.start) [
  | inl below ↦ ap (λ (l : Group). inode_in l agino) (chunk_front new c cs below) ∙ inode_later new (c ∷ cs) agino apart
  | inr above ↦ ap (λ (l : Group). inode_in l agino) (chunk_behind new c cs above) ∙ elim (cases_eq c.start (start_of agino)) [
    | inl here ↦ inode_first c (insert_chunk new cs) agino here ∙ sym (inode_first c cs agino here)
    | inr past ↦ inode_later c (insert_chunk new cs) agino past ∙ inode_of_others new cs agino apart ∙ sym (inode_later c cs agino past)
  ]
]

get_replicate : (n i : ℕ) (x : Inode) → i < n → slice_get (replicate n x) i ≡ Some x
get_replicate zero i x low = absurd (omega arith)
get_replicate (suc n) zero x low = refl
get_replicate (suc n) (suc i) x low = get_replicate n i x (omega arith)

-- an inode of a chunk that is added
abbrev pub unused : Inode
unused = record { generation = 1; row = None }

pub new_start : (block : ℕ) → (new_chunk block).start ≡ block * BLOCK_SECTORS
unfolding new_chunk
new_start block = refl

pub unused_there : (block agino : ℕ) → slice_get (new_chunk block).inodes (agino % CHUNK_INODES) ≡ Some unused
unfolding new_chunk
unused_there block agino = get_replicate CHUNK_INODES (agino % CHUNK_INODES) unused (omega arith)

-- ---- the buffers

pub buffer_of_others : (new : Buffers) (xs : List Buffers) (agino : ℕ) → new.start ≢ start_of agino → buffer_in (insert_buffers new xs) agino ≡ buffer_in xs agino
buffer_of_others new [] agino apart = ap (λ (l : List Buffers). buffer_in l agino) (insert_none new) ∙ buffer_later new [] agino apart
buffer_of_others new (x ∷ xs) agino apart = elim (cases_lt new.start x.start) [
  | inl below ↦ ap (λ (l : List Buffers). buffer_in l agino) (insert_front new x xs below) ∙ buffer_later new (x ∷ xs) agino apart
  | inr above ↦ ap (λ (l : List Buffers). buffer_in l agino) (insert_behind new x xs above) ∙ elim (cases_eq x.start (start_of agino)) [
    | inl here ↦ buffer_first x (insert_buffers new xs) agino here ∙ sym (buffer_first x xs agino here)
    | inr past ↦ buffer_later x (insert_buffers new xs) agino past ∙ buffer_of_others new xs agino apart ∙ sym (buffer_later x xs agino past)
  ]
]

abbrev pub Starts : List Buffers → List ℕ
Starts buffers = map (λ (chunk : Buffers). chunk.start) buffers

abbrev pub ChunkStarts : Group → List ℕ
ChunkStarts chunks = map (λ (chunk : Chunk). chunk.start) chunks

-- the buffers of the new chunk, where those of the others stand as these do
pub buffer_of_new : (new : Buffers) (xs : List Buffers) (chunks : Group) (agino : ℕ) → Starts xs ≡ ChunkStarts chunks → IsAbsent new.start chunks → new.start ≡ start_of agino
    → buffer_in (insert_buffers new xs) agino ≡ slice_get new.sectors (agino % CHUNK_INODES)
buffer_of_new new [] chunks agino same absent e = ap (λ (l : List Buffers). buffer_in l agino) (insert_none new) ∙ buffer_first new [] agino e
buffer_of_new new (x ∷ xs) [] agino same absent e = cc
buffer_of_new new (x ∷ xs) (c ∷ cs) agino same absent e =
    let first : x.start ≡ c.start = cc in
    let rest : Starts xs ≡ ChunkStarts cs = cc in
    elim (cases_lt new.start x.start) [
      | inl below ↦ ap (λ (l : List Buffers). buffer_in l agino) (insert_front new x xs below) ∙ buffer_first new (x ∷ xs) agino e
      | inr above ↦
          ap (λ (l : List Buffers). buffer_in l agino) (insert_behind new x xs above)
          ∙ buffer_later x (insert_buffers new xs) agino (λ here. absent.0 (sym first ∙ here ∙ sym e))
          ∙ buffer_of_new new xs cs agino rest absent.1 e
    ]

-- buffers and chunks stand alike with one more
pub starts_more : (new : Buffers) (chunk : Chunk) (xs : List Buffers) (chunks : Group) → new.start ≡ chunk.start → Starts xs ≡ ChunkStarts chunks
    → Starts (insert_buffers new xs) ≡ ChunkStarts (insert_chunk chunk chunks)
starts_more new chunk [] [] own same = ap Starts (insert_none new) ∙ ap (λ (n : ℕ). n ∷ []) own ∙ sym (ap ChunkStarts (chunk_alone chunk))
starts_more new chunk [] (c ∷ cs) own same = cc
starts_more new chunk (x ∷ xs) [] own same = cc
starts_more new chunk (x ∷ xs) (c ∷ cs) own same =
    let first : x.start ≡ c.start = cc in
    let rest : Starts xs ≡ ChunkStarts cs = cc in
    elim (cases_lt new.start x.start) [
      | inl below ↦
          ap Starts (insert_front new x xs below) ∙ ap (λ (n : ℕ). n ∷ x.start ∷ Starts xs) own ∙ ap (λ (l : List ℕ). chunk.start ∷ l) same
          ∙ sym (ap ChunkStarts (chunk_front chunk c cs (omega (arith, below, own, first))))
      | inr above ↦
          ap Starts (insert_behind new x xs above) ∙ ap (λ (n : ℕ). n ∷ Starts (insert_buffers new xs)) first ∙ ap (λ (l : List ℕ). c.start ∷ l) (starts_more new chunk xs cs own rest)
          ∙ sym (ap ChunkStarts (chunk_behind chunk c cs (omega (arith, above, own, first))))
    ]
