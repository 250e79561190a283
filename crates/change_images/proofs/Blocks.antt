-- Which blocks are free, after another inode and after one chunk more.
use Rattle.std.proofs.Common.{◌≡◌, ◌+◌, ◌-◌, ◌*◌, ◌/◌, ◌%◌, ◌<◌, ◌≤◌, ◌⊎◌, ℕ, zero, suc, Bool, true, false, cond, List, [], ◌∷◌, ◌++◌, Option, None, Some, length, eqb, ltb, leb, inl, inr, refl, ap, sym, subst, ◌∙◌, arith}
use Rattle.std.specs.Prelude.{◌≢◌, ◌&&◌, slice_get, slice_set, is_some, is_none}
use Rattle.std.specs.List.{range_with_len}
use Rattle.std.proofs.lemmas.Bool.{cases_eq, cond-false, ne_eqb}
use Rattle.std.proofs.lemmas.Option.{none-some, same_Some}
use Rattle.life_limits.specs.declared.TheConstants.{BLOCK_SECTORS, CHUNK_INODES, FIRST_DATA_BLOCK, GROUP_NUMBERS, MAX_GENERATION}
use Rattle.life_table.specs.declared.key.Key.{Key}
use Rattle.life_table.specs.declared.table.Inode.{Inode}
use Rattle.life_table.specs.declared.table.Chunk.{Chunk}
use Rattle.life_table.specs.Table.{Group, inode_in, set_inode, start_of}
use Rattle.life_table.specs.Space.{times, chunk_blocks, row_blocks, inode_blocks, used, is_free_block, insert_chunk, new_chunk, free_keys, keys_from}

-- ---- how often a block is used

pub times-append : (b : ℕ) (xs ys : List ℕ) → times b (xs ++ ys) ≡ times b xs + times b ys
unfolding times
times-append b [] ys = omega arith
times-append b (x ∷ xs) ys = let rest = times-append b xs ys in omega arith

inode_first : (b : ℕ) (x : Inode) (xs : List Inode) → times b (inode_blocks (x ∷ xs)) ≡ times b (row_blocks x.row) + times b (inode_blocks xs)
unfolding inode_blocks
inode_first b x xs = times-append b (row_blocks x.row) (inode_blocks xs)

used_first : (b : ℕ) (c : Chunk) (cs : Group) → times b (used (c ∷ cs)) ≡ (times b (chunk_blocks c) + times b (inode_blocks c.inodes)) + times b (used cs)
unfolding used
used_first b c cs =
    times-append b (chunk_blocks c ++ inode_blocks c.inodes) (used cs)
    ∙ ap (λ (n : ℕ). n + times b (used cs)) (times-append b (chunk_blocks c) (inode_blocks c.inodes))

inodes_same : (b : ℕ) (xs : List Inode) (i : ℕ) (old new : Inode) → slice_get xs i ≡ Some old → times b (row_blocks new.row) ≡ times b (row_blocks old.row)
    → times b (inode_blocks (slice_set xs i new)) ≡ times b (inode_blocks xs)
inodes_same b [] i old new at same = absurd (none-some old at)
inodes_same b (x ∷ xs) zero old new at same =
    inode_first b new xs ∙ ap (λ (n : ℕ). n + times b (inode_blocks xs)) (same ∙ ap (λ (y : Inode). times b (row_blocks y.row)) (sym (same_Some x old at))) ∙ sym (inode_first b x xs)
inodes_same b (x ∷ xs) (suc i) old new at same =
    inode_first b x (slice_set xs i new) ∙ ap (λ (n : ℕ). times b (row_blocks x.row) + n) (inodes_same b xs i old new at same) ∙ sym (inode_first b x xs)

same_start : (b start : ℕ) (xs ys : List Inode) → times b (chunk_blocks (record { start = start; inodes = xs })) ≡ times b (chunk_blocks (record { start = start; inodes = ys }))
unfolding chunk_blocks
same_start b start xs ys = refl

used_same : (b : ℕ) (group : Group) (agino : ℕ) (old new : Inode) → inode_in group agino ≡ Some old → times b (row_blocks new.row) ≡ times b (row_blocks old.row)
    → times b (used (set_inode group agino new)) ≡ times b (used group)
unfolding inode_in set_inode
used_same b [] agino old new at same = refl
used_same b (chunk ∷ chunks) agino old new at same =
    elim (eqb chunk.start (start_of agino)) as (λ c. cond c (slice_get chunk.inodes (agino % CHUNK_INODES)) (inode_in chunks agino) ≡ Some old
    → times b (used (cond c (record { start = chunk.start; inodes = slice_set chunk.inodes (agino % CHUNK_INODES) new } ∷ chunks) (chunk ∷ set_inode chunks agino new))) ≡ times b (used (chunk ∷ chunks))) [
      | true ↦ λ here.
          let changed : Chunk = record { start = chunk.start; inodes = slice_set chunk.inodes (agino % CHUNK_INODES) new } in
          let three = same_start b chunk.start (slice_set chunk.inodes (agino % CHUNK_INODES) new) chunk.inodes in
          omega (arith, used_first b changed chunks, used_first b chunk chunks, inodes_same b chunk.inodes (agino % CHUNK_INODES) old new here same, three)
      | false ↦ λ here. omega (arith, used_first b chunk (set_inode chunks agino new), used_first b chunk chunks, used_same b chunks agino old new here same)
    ] at

-- ---- one chunk more

times_outside : (b s n : ℕ) → (b < s) ⊎ (s + n ≤ b) → times b (range_with_len s n) ≡ 0
unfolding times
times_outside b s zero out = refl
times_outside b s (suc n) out =
    let apart : b ≢ s = elim out [ inl low ↦ λ e. omega (arith, low, e) | inr high ↦ λ e. omega (arith, high, e) ] in
    let here : cond {A = ℕ} (eqb b s) 1 0 ≡ 0 = cond-false (eqb b s) 1 0 (ne_eqb b s apart) in
    let rest = times_outside b (s + 1) n (elim out [ inl low ↦ inl (omega (arith, low)) | inr high ↦ inr (omega (arith, high)) ]) in
    omega (arith, here, rest)

used_inserted : (b : ℕ) (new : Chunk) (group : Group) → times b (chunk_blocks new) + times b (inode_blocks new.inodes) ≡ 0 → times b (used (insert_chunk new group)) ≡ times b (used group)
unfolding insert_chunk
used_inserted b new [] none = omega (arith, used_first b new [], none)
used_inserted b new (chunk ∷ chunks) none =
    elim (ltb new.start chunk.start) as (λ c. times b (used (cond c (new ∷ chunk ∷ chunks) (chunk ∷ insert_chunk new chunks))) ≡ times b (used (chunk ∷ chunks))) [
      | true ↦ omega (arith, used_first b new (chunk ∷ chunks), none)
      | false ↦ omega (arith, used_first b chunk (insert_chunk new chunks), used_first b chunk chunks, used_inserted b new chunks none)
    ]

times-none : (b : ℕ) → times b [] ≡ 0
unfolding times
times-none b = refl

-- a new chunk has its 8 blocks and no other
new_blocks : (b block : ℕ) → (b < block) ⊎ (block + 8 ≤ b) → times b (chunk_blocks (new_chunk block)) + times b (inode_blocks (new_chunk block).inodes) ≡ 0
unfolding new_chunk chunk_blocks inode_blocks
new_blocks b block out =
    let back : (block * BLOCK_SECTORS) / BLOCK_SECTORS ≡ block = omega arith in
    let own : times b (range_with_len ((block * BLOCK_SECTORS) / BLOCK_SECTORS) 8) ≡ 0 = ap (λ (n : ℕ). times b (range_with_len n 8)) back ∙ times_outside b block 8 out in
    let rows : times b [] ≡ 0 = times-none b in
    omega (arith, own, rows)

-- ---- the free blocks

by_use : (blocks : ℕ) (group other : Group) (b : ℕ) → times b (used other) ≡ times b (used group) → is_free_block blocks other b ≡ is_free_block blocks group b
unfolding is_free_block
by_use blocks group other b same = ap (λ (n : ℕ). leb FIRST_DATA_BLOCK b && (ltb b blocks && eqb n 0)) same

pub free_same : (blocks : ℕ) (group : Group) (agino : ℕ) (old new : Inode) (b : ℕ) → inode_in group agino ≡ Some old → times b (row_blocks new.row) ≡ times b (row_blocks old.row)
    → is_free_block blocks (set_inode group agino new) b ≡ is_free_block blocks group b
free_same blocks group agino old new b at same = by_use blocks group (set_inode group agino new) b (used_same b group agino old new at same)

pub free_inserted : (blocks block : ℕ) (group : Group) (b : ℕ) → (b < block) ⊎ (block + 8 ≤ b) → is_free_block blocks (insert_chunk (new_chunk block) group) b ≡ is_free_block blocks group b
free_inserted blocks block group b out = by_use blocks group (insert_chunk (new_chunk block) group) b (used_inserted b (new_chunk block) group (new_blocks b block out))

-- ---- the first free key of a group with a new chunk and no other free number

none-both : {X : Type 0} (xs ys : List X) → slice_get (xs ++ ys) 0 ≡ None → (xs ≡ []) × (slice_get ys 0 ≡ None)
none-both [] ys e = (refl, e)
none-both (x ∷ xs) ys e = absurd (none-some x (sym e))

first_of_new : (g block : ℕ) (rest : List Key) → slice_get (keys_from (g * GROUP_NUMBERS + (new_chunk block).start) (new_chunk block).inodes ++ rest) 0
    ≡ Some (record { number = g * GROUP_NUMBERS + block * BLOCK_SECTORS; generation = 1 })
unfolding new_chunk keys_from
first_of_new g block rest = refl

pub lowest_of_new : (g block : ℕ) (group : Group) → slice_get (free_keys g group) 0 ≡ None
    → slice_get (free_keys g (insert_chunk (new_chunk block) group)) 0 ≡ Some (record { number = g * GROUP_NUMBERS + block * BLOCK_SECTORS; generation = 1 })
unfolding insert_chunk free_keys
lowest_of_new g block [] none = first_of_new g block []
lowest_of_new g block (chunk ∷ chunks) none =
    let parts = none-both (keys_from (g * GROUP_NUMBERS + chunk.start) chunk.inodes) (free_keys g chunks) none in
    elim (ltb (new_chunk block).start chunk.start) as (λ c. slice_get (free_keys g (cond c (new_chunk block ∷ chunk ∷ chunks) (chunk ∷ insert_chunk (new_chunk block) chunks))) 0
    ≡ Some (record { number = g * GROUP_NUMBERS + block * BLOCK_SECTORS; generation = 1 })) [
      | true ↦ first_of_new g block (free_keys g (chunk ∷ chunks))
      | false ↦ ap (λ (l : List Key). slice_get (l ++ free_keys g (insert_chunk (new_chunk block) chunks)) 0) parts.0 ∙ lowest_of_new g block chunks parts.1
    ]
