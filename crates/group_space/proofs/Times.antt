-- How often a block stands in lists, in the parts of a group, and among the free ones.
use Rattle.std.proofs.Common.{◌≡◌, ◌≢◌, ◌==◌, ◌+◌, ◌*◌, ◌/◌, ◌%◌, ◌<◌, ◌≤◌, ℕ, zero, suc, Bool, true, false, cond, List, [], ◌∷◌, ◌++◌, None, Some, if◌then◌else◌, nat_lt, length, take, filter, get_or, refl, sym, ap, ◌∙◌, inl, inr, arith}
use Rattle.std.specs.Prelude.{replicate, slice_get, slice_set}
use Rattle.std.specs.List.{range_with_len}
use Rattle.std.proofs.lemmas.List.{take_more}
use Rattle.std.proofs.lemmas.Option.{none-some, same_Some}
use Rattle.std.proofs.lemmas.Bool.{eqb-true, eq-eqb, ne_eqb, and_parts, cases_eq, leb-true, ltb-true, true≢false}
use Rattle.life_limits.specs.declared.TheConstants.{CHUNK_INODES, FIRST_DATA_BLOCK}
use Rattle.life_table.specs.declared.table.Inode.{Inode}
use Rattle.life_table.specs.declared.table.Chunk.{Chunk}
use Rattle.life_table.specs.Table.{Group, inode_in, set_inode, start_of}
use Rattle.life_table.specs.Space.{times, chunk_blocks, row_blocks, inode_blocks, used, is_free_block, free_blocks, new_chunk, insert_chunk}

-- ---- lists

pub times-nil : (b : ℕ) → times b [] ≡ 0
unfolding times
times-nil b = refl

pub times-cons : (b x : ℕ) (xs : List ℕ) → times b (x ∷ xs) ≡ (if b == x then 1 else 0) + times b xs
unfolding times
times-cons b x xs = refl

pub times-append : (b : ℕ) (xs ys : List ℕ) → times b (xs ++ ys) ≡ times b xs + times b ys
unfolding times
times-append b [] ys = omega arith
times-append b (x ∷ xs) ys =
    let rest : times b (xs ++ ys) ≡ times b xs + times b ys = times-append b xs ys in
    omega arith

-- a part has no block oftener
pub times-take : (b k : ℕ) (xs : List ℕ) → times b (take k xs) ≤ times b xs
unfolding times
times-take b zero xs = omega arith
times-take b (suc k) [] = omega arith
times-take b (suc k) (x ∷ xs) =
    let rest : times b (take k xs) ≤ times b xs = times-take b k xs in
    omega arith

times_one : (x : ℕ) → times x (x ∷ []) ≡ 1
times_one x = let here : (x == x) ≡ true = eq-eqb x x refl in times-cons x x [] ∙ rw here (omega (arith, times-nil x))

times_other : (b x : ℕ) → b ≢ x → times b (x ∷ []) ≡ 0
times_other b x apart = let other : (b == x) ≡ false = ne_eqb b x apart in times-cons b x [] ∙ rw other (omega (arith, times-nil b))

-- one element more
pub times-more_here : (xs : List ℕ) (i : ℕ) → i < length xs → times (get_or xs i 0) (take (i + 1) xs) ≡ times (get_or xs i 0) (take i xs) + 1
times-more_here xs i low =
    ap (times (get_or xs i 0)) (take_more xs i 0 low) ∙ times-append (get_or xs i 0) (take i xs) (get_or xs i 0 ∷ []) ∙ ap (λ (n : ℕ). times (get_or xs i 0) (take i xs) + n) (times_one (get_or xs i 0))

pub times-more_other : (b : ℕ) (xs : List ℕ) (i : ℕ) → i < length xs → b ≢ get_or xs i 0 → times b (take (i + 1) xs) ≡ times b (take i xs)
times-more_other b xs i low apart =
    ap (times b) (take_more xs i 0 low) ∙ times-append b (take i xs) (get_or xs i 0 ∷ [])
    ∙ ap (λ (n : ℕ). times b (take i xs) + n) (times_other b (get_or xs i 0) apart) ∙ omega arith

-- a range has each of its numbers once
pub times-range_below : (b a n : ℕ) → b < a → times b (range_with_len a n) ≡ 0
unfolding times
times-range_below b a zero h = refl
times-range_below b a (suc n) h =
    let rest : times b (range_with_len (a + 1) n) ≡ 0 = times-range_below b (a + 1) n (omega arith) in
    let other : (b == a) ≡ false = ne_eqb b a (λ e. omega arith) in
    rw (other, rest)

pub times-range : (b a n : ℕ) → a ≤ b → b < a + n → times b (range_with_len a n) ≡ 1
unfolding times
times-range b a zero h below = absurd (omega arith)
times-range b a (suc n) h below =
    elim (cases_eq b a) [
      | inl same ↦
          let rest : times b (range_with_len (a + 1) n) ≡ 0 = times-range_below b (a + 1) n (omega arith) in
          let here : (b == a) ≡ true = eq-eqb b a same in
          rw (here, rest)
      | inr differ ↦
          let rest : times b (range_with_len (a + 1) n) ≡ 1 = times-range b (a + 1) n (omega arith) (omega arith) in
          let other : (b == a) ≡ false = ne_eqb b a differ in
          rw (other, rest)
    ]

pub times-range_in : (b a n : ℕ) → 1 ≤ times b (range_with_len a n) → (a ≤ b) × (b < a + n)
unfolding times
times-range_in b a zero some = absurd (omega arith)
times-range_in b a (suc n) some =
    elim (cases_eq b a) [
      | inl same ↦ (omega arith, omega arith)
      | inr differ ↦
          let other : (b == a) ≡ false = ne_eqb b a differ in
          let none : ◌≡◌ {A = ℕ} (if b == a then 1 else 0) 0 = ap (λ (c : Bool). if c then 1 else 0) other in
          let rest = times-range_in b (a + 1) n (omega arith) in
          let low = rest.0 in
          let high = rest.1 in
          (omega arith, omega arith)
    ]

-- ---- the parts of a group

pub inode_first : (b : ℕ) (x : Inode) (xs : List Inode) → times b (inode_blocks (x ∷ xs)) ≡ times b (row_blocks x.row) + times b (inode_blocks xs)
unfolding inode_blocks
inode_first b x xs = times-append b (row_blocks x.row) (inode_blocks xs)

pub used_first : (b : ℕ) (c : Chunk) (cs : Group) → times b (used (c ∷ cs)) ≡ (times b (chunk_blocks c) + times b (inode_blocks c.inodes)) + times b (used cs)
unfolding used
used_first b c cs =
    times-append b (chunk_blocks c ++ inode_blocks c.inodes) (used cs)
    ∙ ap (λ (n : ℕ). n + times b (used cs)) (times-append b (chunk_blocks c) (inode_blocks c.inodes))

set_inodes : (b : ℕ) (xs : List Inode) (i : ℕ) (old new : Inode) → slice_get xs i ≡ Some old
    → times b (inode_blocks (slice_set xs i new)) + times b (row_blocks old.row) ≡ times b (inode_blocks xs) + times b (row_blocks new.row)
set_inodes b [] i old new at = absurd (none-some old at)
set_inodes b (x ∷ xs) zero old new at =
    let same : times b (row_blocks x.row) ≡ times b (row_blocks old.row) = ap (λ (y : Inode). times b (row_blocks y.row)) (same_Some x old at) in
    omega (arith, inode_first b new xs, inode_first b x xs, same)
set_inodes b (x ∷ xs) (suc i) old new at = omega (arith, inode_first b x (slice_set xs i new), inode_first b x xs, set_inodes b xs i old new at)

same_place : (b start : ℕ) (xs ys : List Inode) → times b (chunk_blocks (record { start = start; inodes = xs })) ≡ times b (chunk_blocks (record { start = start; inodes = ys }))
unfolding chunk_blocks
same_place b start xs ys = refl

-- the blocks of a group, where one inode is changed
pub used-set : (b : ℕ) (group : Group) (agino : ℕ) (old new : Inode) → inode_in group agino ≡ Some old
    → times b (used (set_inode group agino new)) + times b (row_blocks old.row) ≡ times b (used group) + times b (row_blocks new.row)
unfolding inode_in set_inode
used-set b [] agino old new at = absurd (none-some old at)
used-set b (chunk ∷ chunks) agino old new at =
    elim (chunk.start == start_of agino) as (λ c. (if c then slice_get chunk.inodes (agino % CHUNK_INODES) else inode_in chunks agino) ≡ Some old
    → times b (used (if c then record { start = chunk.start; inodes = slice_set chunk.inodes (agino % CHUNK_INODES) new } ∷ chunks else chunk ∷ set_inode chunks agino new)) + times b (row_blocks old.row)
    ≡ times b (used (chunk ∷ chunks)) + times b (row_blocks new.row)) [
      | true ↦ λ here.
          let changed : Chunk = record { start = chunk.start; inodes = slice_set chunk.inodes (agino % CHUNK_INODES) new } in
          let inner = set_inodes b chunk.inodes (agino % CHUNK_INODES) old new here in
          let one = used_first b changed chunks in
          let two = used_first b chunk chunks in
          let three = same_place b chunk.start (slice_set chunk.inodes (agino % CHUNK_INODES) new) chunk.inodes in
          omega (arith, inner, one, two, three)
      | false ↦ λ here.
          let rest = used-set b chunks agino old new here in
          let one = used_first b chunk (set_inode chunks agino new) in
          let two = used_first b chunk chunks in
          omega (arith, rest, one, two)
    ] at

-- the blocks of a row are among those of its group
in_list : (b : ℕ) (xs : List Inode) (i : ℕ) (x : Inode) → slice_get xs i ≡ Some x → times b (row_blocks x.row) ≤ times b (inode_blocks xs)
in_list b [] i x e = absurd (none-some x e)
in_list b (y ∷ ys) zero x e =
    let same : times b (row_blocks y.row) ≡ times b (row_blocks x.row) = ap (λ (z : Inode). times b (row_blocks z.row)) (same_Some y x e) in
    omega (arith, inode_first b y ys)
in_list b (y ∷ ys) (suc i) x e = let rest = in_list b ys i x e in omega (arith, inode_first b y ys)

pub row_blocks_used : (b : ℕ) (group : Group) (agino : ℕ) (x : Inode) → inode_in group agino ≡ Some x → times b (row_blocks x.row) ≤ times b (used group)
unfolding inode_in
row_blocks_used b [] agino x e = absurd (none-some x e)
row_blocks_used b (c ∷ cs) agino x e =
    elim (c.start == start_of agino) as (λ (t : Bool). (if t then slice_get c.inodes (agino % CHUNK_INODES) else inode_in cs agino) ≡ Some x → times b (row_blocks x.row) ≤ times b (used (c ∷ cs))) [
      | true ↦ λ here. omega (arith, used_first b c cs, in_list b c.inodes (agino % CHUNK_INODES) x here)
      | false ↦ λ here. omega (arith, used_first b c cs, row_blocks_used b cs agino x here)
    ] e

-- the blocks of a group with one chunk more
pub used-insert : (b : ℕ) (new : Chunk) (group : Group)
    → times b (used (insert_chunk new group)) ≡ times b (chunk_blocks new) + times b (inode_blocks new.inodes) + times b (used group)
unfolding insert_chunk
used-insert b new [] = used_first b new []
used-insert b new (chunk ∷ chunks) =
    elim (nat_lt new.start chunk.start) as (λ c. times b (used (if c then new ∷ chunk ∷ chunks else chunk ∷ insert_chunk new chunks))
    ≡ times b (chunk_blocks new) + times b (inode_blocks new.inodes) + times b (used (chunk ∷ chunks))) [
      | true ↦ used_first b new (chunk ∷ chunks)
      | false ↦
          let rest = used-insert b new chunks in
          let one = used_first b chunk (insert_chunk new chunks) in
          let two = used_first b chunk chunks in
          omega (arith, rest, one, two)
    ]

no_inode_blocks : (n generation : ℕ) → inode_blocks (replicate n (record { generation = generation; row = None })) ≡ []
unfolding inode_blocks
no_inode_blocks zero generation = refl
no_inode_blocks (suc n) generation = no_inode_blocks n generation

pub new_chunk-no_rows : (b block : ℕ) → times b (inode_blocks (new_chunk block).inodes) ≡ 0
unfolding new_chunk
new_chunk-no_rows b block = ap (times b) (no_inode_blocks CHUNK_INODES 1) ∙ times-nil b

pub new_chunk-blocks : (block : ℕ) → chunk_blocks (new_chunk block) ≡ range_with_len block 8
unfolding new_chunk chunk_blocks
new_chunk-blocks block = let e : block * 8 / 8 ≡ block = omega arith in ap (λ (n : ℕ). range_with_len n 8) e

-- the blocks of a chunk of the group
pub chunk_used : (b : ℕ) (group : Group) (k : ℕ) (c : Chunk) → slice_get group k ≡ Some c → times b (chunk_blocks c) ≤ times b (used group)
chunk_used b [] k c at = absurd (none-some c at)
chunk_used b (d ∷ ds) zero c at =
    let same = ap (λ (x : Chunk). times b (chunk_blocks x)) (same_Some d c at) in
    omega (arith, used_first b d ds)
chunk_used b (d ∷ ds) (suc k) c at = omega (arith, used_first b d ds, chunk_used b ds k c at)

pub first_block_used : (c : Chunk) (b : ℕ) → c.start / 8 ≡ b → 1 ≤ times b (chunk_blocks c)
unfolding chunk_blocks
first_block_used c b same = omega (arith, times-range b (c.start / 8) 8 (omega (arith, same)) (omega (arith, same)))

-- ---- free blocks

times-filter_fail : (p : ℕ → Bool) (b : ℕ) (xs : List ℕ) → p b ≡ false → times b (filter p xs) ≡ 0
unfolding times
times-filter_fail p b [] fails = refl
times-filter_fail p b (x ∷ xs) fails =
    let rest : times b (filter p xs) ≡ 0 = times-filter_fail p b xs fails in
    elim (p x) as (λ c. p x ≡ c → times b (cond c (x ∷ filter p xs) (filter p xs)) ≡ 0) [
      | true ↦ λ passes. let other : (b == x) ≡ false = ne_eqb b x (λ e. true≢false (sym passes ∙ ap p (sym e) ∙ fails)) in rw (other, rest)
      | false ↦ λ passes. rest
    ] refl

times-filter : (p : ℕ → Bool) (b : ℕ) (xs : List ℕ) → times b (filter p xs) ≤ times b xs
unfolding times
times-filter p b [] = omega arith
times-filter p b (x ∷ xs) =
    let rest : times b (filter p xs) ≤ times b xs = times-filter p b xs in
    elim (p x) as (λ c. times b (cond c (x ∷ filter p xs) (filter p xs)) ≤ (if b == x then 1 else 0) + times b xs) [
      | true ↦ omega (arith, rest)
      | false ↦ omega (arith, rest)
    ]

pub range_once : (b a n : ℕ) → times b (range_with_len a n) ≤ 1
unfolding times
range_once b a zero = omega arith
range_once b a (suc n) =
    elim (cases_eq b a) [
      | inl same ↦ let rest : times b (range_with_len (a + 1) n) ≡ 0 = times-range_below b (a + 1) n (omega arith) in
          let here : (b == a) ≡ true = eq-eqb b a same in
          rw (here, rest) (omega arith)
      | inr differ ↦
          let other : (b == a) ≡ false = ne_eqb b a differ in
          rw other (omega (arith, range_once b (a + 1) n))
    ]

pub free_once : (blocks : ℕ) (group : Group) (b : ℕ) → times b (free_blocks blocks group) ≤ 1
unfolding free_blocks
free_once blocks group b = omega (arith, times-filter (is_free_block blocks group) b (range_with_len 0 blocks), range_once b 0 blocks)

pub free_from_times : (blocks : ℕ) (group : Group) (b : ℕ) → 1 ≤ times b (free_blocks blocks group) → is_free_block blocks group b ≡ true
unfolding free_blocks
free_from_times blocks group b some =
    elim (is_free_block blocks group b) as (λ c. is_free_block blocks group b ≡ c → c ≡ true) [
      | true ↦ λ is. refl
      | false ↦ λ is. absurd (omega (arith, some, times-filter_fail (is_free_block blocks group) b (range_with_len 0 blocks) is))
    ] refl

-- what it is for a block to be free
pub is_free_block-parts : (blocks : ℕ) (group : Group) (b : ℕ) → is_free_block blocks group b ≡ true
    → (FIRST_DATA_BLOCK ≤ b) × (b < blocks) × (times b (used group) ≡ 0)
unfolding is_free_block
is_free_block-parts blocks group b free =
    let outer = and_parts _ _ free in
    let inner = and_parts _ _ outer.1 in
    (leb-true _ _ outer.0, ltb-true _ _ inner.0, eqb-true _ _ inner.1)
