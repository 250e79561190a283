-- How often blocks stand in lists, in the parts of a group, and among the free ones.
use Rattle.std.proofs.Common.{◌≡◌, ◌==◌, ◌+◌, ◌/◌, ◌%◌, ◌<◌, ◌≤◌, ◌⊎◌, ℕ, zero, suc, Bool, true, false, cond, List, [], ◌∷◌, ◌++◌, None, Some, if◌then◌else◌, nat_le, nat_lt, length, take, filter, slice_get, slice_set, replicate, refl, sym, ap, ◌∙◌, inl, inr, arith}
use Rattle.std.specs.List.{range_with_len, AllByRecursion}
use Rattle.std.proofs.lemmas.Option.{none-some, same_Some}
use Rattle.std.proofs.lemmas.Bool.{eqb-true, eq-eqb, ne_eqb, and_parts, cases_eq, leb-true, ltb-true, le-leb, lt-ltb, true≢false}
use Rattle.life_limits.specs.declared.TheConstants.{BLOCK_SECTORS, CHUNK_INODES, FIRST_DATA_BLOCK}
use Rattle.life_table.specs.declared.table.Inode.{Inode}
use Rattle.life_table.specs.declared.table.Chunk.{Chunk}
use Rattle.life_table.specs.Table.{Group, inode_in, set_inode, start_of}
use Rattle.life_table.specs.Space.{times, chunk_blocks, row_blocks, inode_blocks, used, is_free_block, free_blocks, new_chunk, insert_chunk}

pub times-nil : (b : ℕ) → times b [] ≡ 0
unfolding times
times-nil b = refl

pub times-cons : (b x : ℕ) (xs : List ℕ) → times b (x ∷ xs) ≡ (if b == x then 1 else 0) + times b xs
unfolding times
times-cons b x xs = refl

pub times-append : (b : ℕ) (xs ys : List ℕ) → times b (xs ++ ys) ≡ times b xs + times b ys
unfolding times
times-append b [] ys = omega arith
times-append b (x ∷ xs) ys =
    let rest : times b (xs ++ ys) ≡ times b xs + times b ys = times-append b xs ys in
    omega arith

-- a part has no block oftener
pub times-take : (b k : ℕ) (xs : List ℕ) → times b (take k xs) ≤ times b xs
unfolding times
times-take b zero xs = omega arith
times-take b (suc k) [] = omega arith
times-take b (suc k) (x ∷ xs) =
    let rest : times b (take k xs) ≤ times b xs = times-take b k xs in
    omega arith

-- a range has each of its numbers once
pub times-range_below : (b a n : ℕ) → b < a → times b (range_with_len a n) ≡ 0
unfolding times
times-range_below b a zero h = refl
times-range_below b a (suc n) h =
    let rest : times b (range_with_len (a + 1) n) ≡ 0 = times-range_below b (a + 1) n (omega arith) in
    let other : (b == a) ≡ false = ne_eqb b a (λ e. omega arith) in
    rw (other, rest)

pub times-range_past : (b a n : ℕ) → a + n ≤ b → times b (range_with_len a n) ≡ 0
unfolding times
times-range_past b a zero h = refl
times-range_past b a (suc n) h =
    let rest : times b (range_with_len (a + 1) n) ≡ 0 = times-range_past b (a + 1) n (omega arith) in
    let other : (b == a) ≡ false = ne_eqb b a (λ e. omega arith) in
    rw (other, rest)

pub times-range : (b a n : ℕ) → a ≤ b → b < a + n → times b (range_with_len a n) ≡ 1
unfolding times
times-range b a zero h below = absurd (omega arith)
times-range b a (suc n) h below =
    elim (cases_eq b a) [
      | inl same ↦
          let rest : times b (range_with_len (a + 1) n) ≡ 0 = times-range_below b (a + 1) n (omega arith) in
          let here : (b == a) ≡ true = eq-eqb b a same in
          rw (here, rest)
      | inr differ ↦
          let rest : times b (range_with_len (a + 1) n) ≡ 1 = times-range b (a + 1) n (omega arith) (omega arith) in
          let other : (b == a) ≡ false = ne_eqb b a differ in
          rw (other, rest)
    ]

-- among the numbers of a range that pass a test, one that passes stands once
times-filter_fail : (p : ℕ → Bool) (b : ℕ) (xs : List ℕ) → p b ≡ false → times b (filter p xs) ≡ 0
unfolding times
times-filter_fail p b [] fails = refl
times-filter_fail p b (x ∷ xs) fails =
    let rest : times b (filter p xs) ≡ 0 = times-filter_fail p b xs fails in
    elim (p x) as (λ c. p x ≡ c → times b (cond c (x ∷ filter p xs) (filter p xs)) ≡ 0) [
      | true ↦ λ passes. let other : (b == x) ≡ false = ne_eqb b x (λ e. true≢false (sym passes ∙ ap p (sym e) ∙ fails)) in rw (other, rest)
      | false ↦ λ passes. rest
    ] refl

times-filter_pass : (p : ℕ → Bool) (b : ℕ) (xs : List ℕ) → p b ≡ true → times b (filter p xs) ≡ times b xs
unfolding times
times-filter_pass p b [] pass = refl
times-filter_pass p b (x ∷ xs) pass =
    let rest : times b (filter p xs) ≡ times b xs = times-filter_pass p b xs pass in
    elim (p x) as (λ c. p x ≡ c → times b (cond c (x ∷ filter p xs) (filter p xs)) ≡ (if b == x then 1 else 0) + times b xs) [
      | true ↦ λ passes. ap (λ n. (if b == x then 1 else 0) + n) rest
      | false ↦ λ passes. let other : (b == x) ≡ false = ne_eqb b x (λ e. true≢false (sym pass ∙ ap p e ∙ passes)) in rw other (omega arith)
    ] refl

-- what it is for a block to be free
pub is_free_block-parts : (blocks : ℕ) (group : Group) (b : ℕ) → is_free_block blocks group b ≡ true
    → (FIRST_DATA_BLOCK ≤ b) × (b < blocks) × (times b (used group) ≡ 0)
unfolding is_free_block
is_free_block-parts blocks group b free =
    let outer = and_parts _ _ free in
    let inner = and_parts _ _ outer.1 in
    (leb-true _ _ outer.0, ltb-true _ _ inner.0, eqb-true _ _ inner.1)

pub is_free_block-from : (blocks : ℕ) (group : Group) (b : ℕ) → FIRST_DATA_BLOCK ≤ b → b < blocks → times b (used group) ≡ 0 → is_free_block blocks group b ≡ true
unfolding is_free_block
is_free_block-from blocks group b high below none =
    let first : nat_le FIRST_DATA_BLOCK b ≡ true = le-leb _ _ high in
    let second : nat_lt b blocks ≡ true = lt-ltb _ _ below in
    let third : (times b (used group) == 0) ≡ true = eq-eqb _ _ none in
    rw (first, second, third)

-- a free block stands once among the free blocks, and no other does
pub times-free : (blocks : ℕ) (group : Group) (b : ℕ) → is_free_block blocks group b ≡ true → times b (free_blocks blocks group) ≡ 1
unfolding free_blocks
times-free blocks group b free =
    let parts = is_free_block-parts blocks group b free in
    times-filter_pass (is_free_block blocks group) b (range_with_len 0 blocks) free ∙ times-range b 0 blocks (omega arith) (omega (arith, parts.1))

pub times-not_free : (blocks : ℕ) (group : Group) (b : ℕ) → is_free_block blocks group b ≡ false → times b (free_blocks blocks group) ≡ 0
unfolding free_blocks
times-not_free blocks group b free = times-filter_fail (is_free_block blocks group) b (range_with_len 0 blocks) free

-- the blocks of rows, where one inode is changed
pub times-set_inodes : (b : ℕ) (inodes : List Inode) (i : ℕ) (old new : Inode) → slice_get inodes i ≡ Some old
    → times b (inode_blocks (slice_set inodes i new)) + times b (row_blocks old.row) ≡ times b (inode_blocks inodes) + times b (row_blocks new.row)
unfolding inode_blocks
times-set_inodes b [] i old new at = absurd (none-some old at)
times-set_inodes b (inode ∷ inodes) zero old new at =
    let same : inode ≡ old = same_Some inode old at in
    let one : times b (row_blocks new.row ++ inode_blocks inodes) ≡ times b (row_blocks new.row) + times b (inode_blocks inodes) = times-append b (row_blocks new.row) (inode_blocks inodes) in
    let two : times b (row_blocks inode.row ++ inode_blocks inodes) ≡ times b (row_blocks inode.row) + times b (inode_blocks inodes) = times-append b (row_blocks inode.row) (inode_blocks inodes) in
    let three : times b (row_blocks inode.row) ≡ times b (row_blocks old.row) = ap (λ (x : Inode). times b (row_blocks x.row)) same in
    omega (arith, one, two, three)
times-set_inodes b (inode ∷ inodes) (suc i) old new at =
    let rest : times b (inode_blocks (slice_set inodes i new)) + times b (row_blocks old.row) ≡ times b (inode_blocks inodes) + times b (row_blocks new.row) = times-set_inodes b inodes i old new at in
    let one : times b (row_blocks inode.row ++ inode_blocks (slice_set inodes i new)) ≡ times b (row_blocks inode.row) + times b (inode_blocks (slice_set inodes i new)) = times-append b (row_blocks inode.row) (inode_blocks (slice_set inodes i new)) in
    let two : times b (row_blocks inode.row ++ inode_blocks inodes) ≡ times b (row_blocks inode.row) + times b (inode_blocks inodes) = times-append b (row_blocks inode.row) (inode_blocks inodes) in
    omega (arith, one, two, rest)

-- the blocks that a chunk and its rows have
pub chunk_times : ℕ → Chunk → ℕ
chunk_times b chunk = times b (chunk_blocks chunk) + times b (inode_blocks chunk.inodes)

pub times-used_nil : (b : ℕ) → times b (used []) ≡ 0
unfolding used times
times-used_nil b = refl

pub times-used_cons : (b : ℕ) (chunk : Chunk) (chunks : Group) → times b (used (chunk ∷ chunks)) ≡ times b (chunk_blocks chunk) + times b (inode_blocks chunk.inodes) + times b (used chunks)
unfolding used
times-used_cons b chunk chunks =
    times-append b (chunk_blocks chunk ++ inode_blocks chunk.inodes) (used chunks)
    ∙ ap (λ n. n + times b (used chunks)) (times-append b (chunk_blocks chunk) (inode_blocks chunk.inodes))

same_blocks : (b : ℕ) (chunk : Chunk) (inodes : List Inode) → times b (chunk_blocks (record { start = chunk.start; inodes = inodes })) ≡ times b (chunk_blocks chunk)
unfolding chunk_blocks
same_blocks b chunk inodes = refl

-- the blocks of a group, where one inode is changed
pub times-set_inode : (b : ℕ) (group : Group) (agino : ℕ) (old new : Inode) → inode_in group agino ≡ Some old
    → times b (used (set_inode group agino new)) + times b (row_blocks old.row) ≡ times b (used group) + times b (row_blocks new.row)
unfolding inode_in set_inode
times-set_inode b [] agino old new at = absurd (none-some old at)
times-set_inode b (chunk ∷ chunks) agino old new at =
    elim (chunk.start == start_of agino) as (λ c. (if c then slice_get chunk.inodes (agino % CHUNK_INODES) else inode_in chunks agino) ≡ Some old
    → times b (used (if c then record { start = chunk.start; inodes = slice_set chunk.inodes (agino % CHUNK_INODES) new } ∷ chunks else chunk ∷ set_inode chunks agino new)) + times b (row_blocks old.row)
    ≡ times b (used (chunk ∷ chunks)) + times b (row_blocks new.row)) [
      | true ↦ λ here.
          let changed : Chunk = record { start = chunk.start; inodes = slice_set chunk.inodes (agino % CHUNK_INODES) new } in
          let inner = times-set_inodes b chunk.inodes (agino % CHUNK_INODES) old new here in
          let one = times-used_cons b changed chunks in
          let two = times-used_cons b chunk chunks in
          let three : times b (chunk_blocks changed) ≡ times b (chunk_blocks chunk) = same_blocks b chunk (slice_set chunk.inodes (agino % CHUNK_INODES) new) in
          omega (arith, inner, one, two, three)
      | false ↦ λ here.
          let rest = times-set_inode b chunks agino old new here in
          let one = times-used_cons b chunk (set_inode chunks agino new) in
          let two = times-used_cons b chunk chunks in
          omega (arith, rest, one, two)
    ] at

-- the blocks of a group with one chunk more
pub times-insert_chunk : (b : ℕ) (new : Chunk) (group : Group)
    → times b (used (insert_chunk new group)) ≡ times b (chunk_blocks new) + times b (inode_blocks new.inodes) + times b (used group)
unfolding insert_chunk
times-insert_chunk b new [] = times-used_cons b new []
times-insert_chunk b new (chunk ∷ chunks) =
    elim (nat_lt new.start chunk.start) as (λ c. times b (used (if c then new ∷ chunk ∷ chunks else chunk ∷ insert_chunk new chunks))
    ≡ times b (chunk_blocks new) + times b (inode_blocks new.inodes) + times b (used (chunk ∷ chunks))) [
      | true ↦ times-used_cons b new (chunk ∷ chunks)
      | false ↦
          let rest = times-insert_chunk b new chunks in
          let one = times-used_cons b chunk (insert_chunk new chunks) in
          let two = times-used_cons b chunk chunks in
          omega (arith, rest, one, two)
    ]

-- a new chunk has no rows
pub no_inode_blocks : (n : ℕ) (generation : ℕ) → inode_blocks (replicate n (record { generation = generation; row = None })) ≡ []
unfolding inode_blocks
no_inode_blocks zero generation = refl
no_inode_blocks (suc n) generation = no_inode_blocks n generation

pub times-new_chunk : (b block : ℕ) → times b (inode_blocks (new_chunk block).inodes) ≡ 0
unfolding new_chunk
times-new_chunk b block = ap (times b) (no_inode_blocks CHUNK_INODES 1) ∙ times-nil b

-- the blocks of a chunk are the 8 from its first on
pub times-chunk : (b : ℕ) (chunk : Chunk) → chunk.start / BLOCK_SECTORS ≤ b → b < chunk.start / BLOCK_SECTORS + 8 → times b (chunk_blocks chunk) ≡ 1
unfolding chunk_blocks
times-chunk b chunk low high = times-range b (chunk.start / BLOCK_SECTORS) 8 low high

pub times-chunk_outside : (b : ℕ) (chunk : Chunk) → (b < chunk.start / BLOCK_SECTORS) ⊎ (chunk.start / BLOCK_SECTORS + 8 ≤ b) → times b (chunk_blocks chunk) ≡ 0
unfolding chunk_blocks
times-chunk_outside b chunk (inl low) = times-range_below b (chunk.start / BLOCK_SECTORS) 8 low
times-chunk_outside b chunk (inr high) = times-range_past b (chunk.start / BLOCK_SECTORS) 8 high

-- how many of the numbers below n stand in a list, each as often as it stands
count_below : ℕ → List ℕ → ℕ
count_below zero xs = 0
count_below (suc n) xs = times n xs + count_below n xs

count_one : (n x : ℕ) → ℕ
count_one zero x = 0
count_one (suc n) x = (if n == x then 1 else 0) + count_one n x

count_one-past : (n x : ℕ) → n ≤ x → count_one n x ≡ 0
unfolding count_one
count_one-past zero x high = refl
count_one-past (suc n) x high =
    let rest = count_one-past n x (omega arith) in
    let other : (n == x) ≡ false = ne_eqb n x (λ e. omega arith) in
    rw (other, rest)

count_one-here : (n x : ℕ) → x < n → count_one n x ≡ 1
unfolding count_one
count_one-here zero x low = absurd (omega arith)
count_one-here (suc n) x low =
    elim (cases_eq n x) [
      | inl same ↦
          let rest = count_one-past n x (omega arith) in
          let here : (n == x) ≡ true = eq-eqb n x same in
          rw (here, rest)
      | inr apart ↦
          let rest = count_one-here n x (omega arith) in
          let other : (n == x) ≡ false = ne_eqb n x apart in
          rw (other, rest)
    ]

count_below-nil : (n : ℕ) → count_below n [] ≡ 0
unfolding count_below times
count_below-nil zero = refl
count_below-nil (suc n) = let rest = count_below-nil n in omega (arith, rest)

count_below-cons : (n x : ℕ) (xs : List ℕ) → count_below n (x ∷ xs) ≡ count_one n x + count_below n xs
unfolding count_below count_one times
count_below-cons zero x xs = omega arith
count_below-cons (suc n) x xs = let rest = count_below-cons n x xs in omega (arith, rest)

count_below-all : (n : ℕ) (xs : List ℕ) → AllByRecursion (λ x. x < n) xs → count_below n xs ≡ length xs
count_below-all n [] all = count_below-nil n
count_below-all n (x ∷ xs) all =
    let one = count_one-here n x all.0 in
    let rest = count_below-all n xs all.1 in
    let cons = count_below-cons n x xs in
    omega (arith, one, rest, cons)

count_below-once : (n : ℕ) (xs : List ℕ) → ((b : ℕ) → times b xs ≤ 1) → count_below n xs ≤ n
unfolding count_below
count_below-once zero xs once = omega arith
count_below-once (suc n) xs once = let rest = count_below-once n xs once in let here = once n in omega (arith, rest, here)

-- of numbers below n of which none stands twice there are at most n
pub length-once : (n : ℕ) (xs : List ℕ) → AllByRecursion (λ x. x < n) xs → ((b : ℕ) → times b xs ≤ 1) → length xs ≤ n
length-once n xs all once =
    let count = count_below-all n xs all in
    let few = count_below-once n xs once in
    omega (arith, count, few)

-- what holds of each block that stands in a list holds of each element
pub all-by_times : (P : ℕ → Type 0) (xs : List ℕ) → ((b : ℕ) → 1 ≤ times b xs → P b) → AllByRecursion P xs
unfolding times
all-by_times P [] each = tt
all-by_times P (x ∷ xs) each =
    let here : (x == x) ≡ true = eq-eqb x x refl in
    (each x (rw here (omega arith)), all-by_times P xs (λ b some. each b (omega (arith, some))))
