-- The chunks and rows of a well-formed group.
use Rattle.std.proofs.Common.{◌≡◌, ◌≢◌, ◌<◌, ◌≤◌, ◌+◌, ◌*◌, ◌/◌, ◌%◌, ◌⊎◌, ℕ, zero, suc, cond, List, [], ◌∷◌, ◌++◌, Some, length, get_or, eqb, inl, inr, refl, ap, sym, subst, ◌∙◌, arith}
use Rattle.std.specs.List.{flat_map, range_with_len, AllByRecursion, slice_get}
use Rattle.std.proofs.lemmas.Bool.{cases_eq, cases_Bool, eq-eqb, eqb-true, cond-true, cond-false}
use Rattle.std.proofs.lemmas.Option.{none-some, same_Some}
use Rattle.life_table.specs.declared.table.Inode.{Inode}
use Rattle.life_table.specs.declared.table.Chunk.{Chunk}
use Rattle.life_table.specs.Table.{Group, start_of, inode_in}
use Rattle.life_table.specs.Space.{times, chunk_blocks, row_blocks, inode_blocks, used}
use Rattle.life_table.specs.WellFormed.{IsInode, IsChunk, IsDataBlock}

-- ---- how often a block stands in layouts

pub times-cons : (b x : ℕ) (xs : List ℕ) → times b (x ∷ xs) ≡ cond (eqb b x) 1 0 + times b xs
unfolding times
times-cons b x xs = refl

pub times-nil : (b : ℕ) → times b [] ≡ 0
unfolding times
times-nil b = refl

pub times-append : (b : ℕ) (xs ys : List ℕ) → times b (xs ++ ys) ≡ times b xs + times b ys
times-append b [] ys = omega (arith, times-nil b)
times-append b (x ∷ xs) ys = omega (arith, times-append b xs ys, times-cons b x xs, times-cons b x (xs ++ ys))

pub times_here : (b : ℕ) (xs : List ℕ) → 1 ≤ times b (b ∷ xs)
times_here b xs = let one : cond {A = ℕ} (eqb b b) 1 0 ≡ 1 = cond-true (eqb b b) 1 0 (eq-eqb b b refl) in omega (arith, times-cons b b xs)

pub times_later : (b x : ℕ) (xs : List ℕ) → times b xs ≤ times b (x ∷ xs)
times_later b x xs = omega (arith, times-cons b x xs)

times-range : (b s n : ℕ) → s ≤ b → b < s + n → 1 ≤ times b (range_with_len s n)
times-range b s zero low high = absurd (omega arith)
times-range b s (suc n) low high =
    elim (cases_eq b s) [
      | inl e ↦ subst (λ (x : ℕ). 1 ≤ times b (x ∷ range_with_len (s + 1) n)) e (times_here b (range_with_len (s + 1) n))
      | inr ne ↦ let rest = times-range b (s + 1) n (omega arith) (omega arith) in omega (arith, times_later b s (range_with_len (s + 1) n))
    ]

-- the blocks of chunks, and the blocks of rows
pub used_first : (b : ℕ) (c : Chunk) (cs : Group) → times b (used (c ∷ cs)) ≡ (times b (chunk_blocks c) + times b (inode_blocks c.inodes)) + times b (used cs)
unfolding used
used_first b c cs =
    times-append b (chunk_blocks c ++ inode_blocks c.inodes) (flat_map (λ chunk. chunk_blocks chunk ++ inode_blocks chunk.inodes) cs)
    ∙ ap (λ (n : ℕ). n + times b (flat_map (λ chunk. chunk_blocks chunk ++ inode_blocks chunk.inodes) cs)) (times-append b (chunk_blocks c) (inode_blocks c.inodes))

pub inode_first : (b : ℕ) (x : Inode) (xs : List Inode) → times b (inode_blocks (x ∷ xs)) ≡ times b (row_blocks x.row) + times b (inode_blocks xs)
unfolding inode_blocks
inode_first b x xs = times-append b (row_blocks x.row) (flat_map (λ inode. row_blocks inode.row) xs)

-- ---- chunks in data blocks

pub record InData (blocks : ℕ) (chunk : Chunk) : Type 0 where
  pub low : 192 ≤ chunk.start
  pub high : chunk.start + 64 ≤ blocks * 8

chunk_in_data : (blocks : ℕ) (chunk : Chunk) → IsChunk chunk → ((b : ℕ) → 1 ≤ times b (chunk_blocks chunk) → IsDataBlock blocks b) → InData blocks chunk
unfolding chunk_blocks
chunk_in_data blocks chunk is data_blocks =
    let first = data_blocks (chunk.start / 8) (times-range (chunk.start / 8) (chunk.start / 8) 8 (omega arith) (omega arith)) in
    let last = data_blocks (chunk.start / 8 + 7) (times-range (chunk.start / 8 + 7) (chunk.start / 8) 8 (omega arith) (omega arith)) in
    let aligned = is.start in
    record { low = omega arith; high = omega arith }

pub all_in_data : (blocks : ℕ) (group : Group) → AllByRecursion IsChunk group → ((b : ℕ) → 1 ≤ times b (used group) → IsDataBlock blocks b) → AllByRecursion (InData blocks) group
all_in_data blocks [] is data_blocks = tt
all_in_data blocks (c ∷ cs) is data_blocks = (
  chunk_in_data blocks c is.0 (λ b h. data_blocks b (omega (arith, h, used_first b c cs))),
  all_in_data blocks cs is.1 (λ b h. data_blocks b (omega (arith, h, used_first b c cs))),
)

-- ---- the inode of a number

pub inode_cases : (c : Chunk) (cs : Group) (agino : ℕ) (inode : Inode) → inode_in (c ∷ cs) agino ≡ Some inode
    → ((c.start ≡ start_of agino) × (slice_get c.inodes (agino % 64) ≡ Some inode)) ⊎ (inode_in cs agino ≡ Some inode)
unfolding inode_in
inode_cases c cs agino inode e =
    elim (cases_Bool (eqb c.start (start_of agino))) [
      | inl same ↦ inl (eqb-true c.start (start_of agino) same, sym (cond-true (eqb c.start (start_of agino)) (slice_get c.inodes (agino % 64)) (inode_in cs agino) same) ∙ e)
      | inr other ↦ inr (sym (cond-false (eqb c.start (start_of agino)) (slice_get c.inodes (agino % 64)) (inode_in cs agino) other) ∙ e)
    ]

pub no_inode : (agino : ℕ) (inode : Inode) → inode_in [] agino ≡ Some inode → ⊥
unfolding inode_in
no_inode agino inode e = none-some inode e

pub in_range : (blocks : ℕ) (group : Group) (agino : ℕ) (inode : Inode) → AllByRecursion (InData blocks) group → inode_in group agino ≡ Some inode → (192 ≤ agino) × (agino < blocks * 8)
in_range blocks [] agino inode all e = absurd (no_inode agino inode e)
in_range blocks (c ∷ cs) agino inode all e =
    elim (inode_cases c cs agino inode e) [
      | inl here ↦ let low = all.0.low in let high = all.0.high in let at = here.0 in (omega arith, omega arith)
      | inr later ↦ in_range blocks cs agino inode all.1 later
    ]

all_get : (P : Inode → Type 0) (xs : List Inode) (i : ℕ) (x : Inode) → AllByRecursion P xs → slice_get xs i ≡ Some x → P x
all_get P [] i x all e = absurd (none-some x e)
all_get P (y ∷ ys) zero x all e = subst P (same_Some y x e) all.0
all_get P (y ∷ ys) (suc i) x all e = all_get P ys i x all.1 e

pub is_inode : (group : Group) (agino : ℕ) (inode : Inode) → AllByRecursion IsChunk group → inode_in group agino ≡ Some inode → IsInode inode
is_inode [] agino inode all e = absurd (no_inode agino inode e)
is_inode (c ∷ cs) agino inode all e =
    elim (inode_cases c cs agino inode e) [
      | inl here ↦ all_get IsInode c.inodes (agino % 64) inode all.0.inodes here.1
      | inr later ↦ is_inode cs agino inode all.1 later
    ]

-- ---- the blocks of rows

in_list : (b : ℕ) (xs : List Inode) (i : ℕ) (x : Inode) → slice_get xs i ≡ Some x → times b (row_blocks x.row) ≤ times b (inode_blocks xs)
in_list b [] i x e = absurd (none-some x e)
in_list b (y ∷ ys) zero x e =
    let same : times b (row_blocks y.row) ≡ times b (row_blocks x.row) = ap (λ (z : Inode). times b (row_blocks z.row)) (same_Some y x e) in
    omega (arith, inode_first b y ys)
in_list b (y ∷ ys) (suc i) x e = let rest = in_list b ys i x e in omega (arith, inode_first b y ys)

two_in_list : (b : ℕ) (xs : List Inode) (i j : ℕ) (x y : Inode) → i ≢ j → slice_get xs i ≡ Some x → slice_get xs j ≡ Some y
    → times b (row_blocks x.row) + times b (row_blocks y.row) ≤ times b (inode_blocks xs)
two_in_list b [] i j x y ne e f = absurd (none-some x e)
two_in_list b (z ∷ zs) zero zero x y ne e f = absurd (ne refl)
two_in_list b (z ∷ zs) zero (suc j) x y ne e f =
    let same : times b (row_blocks z.row) ≡ times b (row_blocks x.row) = ap (λ (w : Inode). times b (row_blocks w.row)) (same_Some z x e) in
    let rest = in_list b zs j y f in
    omega (arith, inode_first b z zs)
two_in_list b (z ∷ zs) (suc i) zero x y ne e f =
    let same : times b (row_blocks z.row) ≡ times b (row_blocks y.row) = ap (λ (w : Inode). times b (row_blocks w.row)) (same_Some z y f) in
    let rest = in_list b zs i x e in
    omega (arith, inode_first b z zs)
two_in_list b (z ∷ zs) (suc i) (suc j) x y ne e f =
    let rest = two_in_list b zs i j x y (λ h. ne (ap suc h)) e f in
    omega (arith, inode_first b z zs)

pub row_blocks_used : (b : ℕ) (group : Group) (agino : ℕ) (x : Inode) → inode_in group agino ≡ Some x → times b (row_blocks x.row) ≤ times b (used group)
row_blocks_used b [] agino x e = absurd (no_inode agino x e)
row_blocks_used b (c ∷ cs) agino x e =
    elim (inode_cases c cs agino x e) [
      | inl here ↦ omega (arith, used_first b c cs, in_list b c.inodes (agino % 64) x here.1)
      | inr later ↦ omega (arith, used_first b c cs, row_blocks_used b cs agino x later)
    ]

pub two_rows_used : (b : ℕ) (group : Group) (agino other : ℕ) (x y : Inode) → agino ≢ other → inode_in group agino ≡ Some x → inode_in group other ≡ Some y
    → times b (row_blocks x.row) + times b (row_blocks y.row) ≤ times b (used group)
two_rows_used b [] agino other x y ne e f = absurd (no_inode agino x e)
two_rows_used b (c ∷ cs) agino other x y ne e f =
    elim (inode_cases c cs agino x e) [
      | inl here ↦ elim (inode_cases c cs other y f) [
        | inl there ↦
            let apart : agino % 64 ≢ other % 64 = λ h. ne (let p = here.0 in let q = there.0 in omega arith) in
            omega (arith, used_first b c cs, two_in_list b c.inodes (agino % 64) (other % 64) x y apart here.1 there.1)
        | inr later ↦ omega (arith, used_first b c cs, in_list b c.inodes (agino % 64) x here.1, row_blocks_used b cs other y later)
      ]
      | inr later ↦ elim (inode_cases c cs other y f) [
        | inl there ↦ omega (arith, used_first b c cs, in_list b c.inodes (other % 64) y there.1, row_blocks_used b cs agino x later)
        | inr last ↦ omega (arith, used_first b c cs, two_rows_used b cs agino other x y ne later last)
      ]
    ]

-- a chunk's own blocks, beside those of a row
pub chunk_and_row_used : (b : ℕ) (group : Group) (k : ℕ) (d : Chunk) (agino : ℕ) (x : Inode) → k < length group → inode_in group agino ≡ Some x
    → times b (chunk_blocks (get_or group k d)) + times b (row_blocks x.row) ≤ times b (used group)
chunk_and_row_used b [] k d agino x lt e = absurd (omega arith)
chunk_and_row_used b (c ∷ cs) zero d agino x lt e =
    elim (inode_cases c cs agino x e) [
      | inl here ↦ omega (arith, used_first b c cs, in_list b c.inodes (agino % 64) x here.1)
      | inr later ↦ omega (arith, used_first b c cs, row_blocks_used b cs agino x later)
    ]
chunk_and_row_used b (c ∷ cs) (suc k) d agino x lt e =
    elim (inode_cases c cs agino x e) [
      | inl here ↦ omega (arith, used_first b c cs, in_list b c.inodes (agino % 64) x here.1, one_chunk b cs k d (omega arith))
      | inr later ↦ omega (arith, used_first b c cs, chunk_and_row_used b cs k d agino x (omega arith) later)
    ]
  where
    one_chunk : (b : ℕ) (group : Group) (k : ℕ) (d : Chunk) → k < length group → times b (chunk_blocks (get_or group k d)) ≤ times b (used group)
    one_chunk b [] k d lt = absurd (omega arith)
    one_chunk b (c ∷ cs) zero d lt = omega (arith, used_first b c cs)
    one_chunk b (c ∷ cs) (suc k) d lt = omega (arith, used_first b c cs, one_chunk b cs k d (omega arith))
