-- What is free, as the program finds it.
use Rattle.std.proofs.Common.{◌≡◌, ◌==◌, ◌+◌, ◌-◌, ◌*◌, ◌/◌, ◌%◌, ◌<◌, ◌≤◌, ◌&&◌, ◌||◌, ℕ, zero, suc, Bool, true, false, cond, not, List, [], ◌∷◌, ◌++◌, Option, None, Some, is_some, if◌then◌else◌, nat_le, nat_lt, filter, find, length, take, drop, insert, replicate, slice_get, refl, sym, ap, ◌∙◌, append-nil, true≢false, inl, inr, arith}
use Rattle.std.proofs.Common.{All}
use Rattle.std.proofs.lemmas.List.Elements.{All-from_recursion}
use Rattle.life_table.specs.WellFormed.{IsDataBlock}
use Rattle.std.specs.List.{AllByRecursion, list_all, list_any, position_or_len, range_with_len}
use Rattle.std.proofs.Common.{one-add}
use Rattle.std.proofs.lemmas.Option.{none-some, same_Some}
use Rattle.std.proofs.lemmas.Bool.{and_left, and_right, and_from, eq-eqb, ne_eqb, cases_eq, cases_lt, lt-ltb, le-ltb, le-leb, lt-leb}
use Rattle.life_limits.specs.declared.TheConstants.{BLOCK_SECTORS, FIRST_DATA_BLOCK, GROUP_NUMBERS, MAX_BLOCKS, MAX_CHUNKS}
use Rattle.life_table.specs.declared.key.Key.{Key}
use Rattle.life_table.specs.declared.table.Inode.{Inode}
use Rattle.life_table.specs.declared.table.Chunk.{Chunk}
use Rattle.life_table.specs.Table.{Group}
use Rattle.life_table.specs.Space.{times, chunk_blocks, row_blocks, inode_blocks, used, is_free_block, free_blocks, begins_run, chunk_place, new_chunk, insert_chunk, is_free, keys_from, free_keys, lowest_key, with_chunk, prepared}
use Rattle.plain_table.specs.Parts.{has_block, is_own_block, uses_block}

-- a number is above zero, as a test, of a sum
above_sum : (a b : ℕ) → nat_lt 0 (a + b) ≡ (nat_lt 0 a || nat_lt 0 b)
above_sum a b =
    elim (cases_lt 0 a) [
      | inl some ↦
          let one : nat_lt 0 a ≡ true = lt-ltb 0 a some in
          let all : nat_lt 0 (a + b) ≡ true = lt-ltb 0 (a + b) (omega arith) in
          rw (one, all)
      | inr none ↦
          let zero_is : a ≡ 0 = omega (arith, none) in
          rw zero_is (ap (nat_lt 0) (omega arith))
    ]

times-append : (b : ℕ) (xs ys : List ℕ) → times b (xs ++ ys) ≡ times b xs + times b ys
unfolding times
times-append b [] ys = omega arith
times-append b (x ∷ xs) ys =
    let rest : times b (xs ++ ys) ≡ times b xs + times b ys = times-append b xs ys in
    omega arith

one_above : (c : Bool) → nat_lt 0 (if c then 1 else 0) ≡ c
one_above true = refl
one_above false = refl

turned : (a b : ℕ) → (a == b) ≡ (b == a)
turned a b = elim (cases_eq a b) [
  | inl same ↦ ap (λ n. n == b) same ∙ ap (λ n. b == n) (sym same)
  | inr apart ↦ ne_eqb a b apart ∙ sym (ne_eqb b a (λ e. apart (sym e)))
]

has_block-times : (b : ℕ) (xs : List ℕ) → nat_lt 0 (times b xs) ≡ has_block b xs
unfolding times
has_block-times b [] = refl
has_block-times b (x ∷ xs) =
    above_sum (if b == x then 1 else 0) (times b xs)
    ∙ (λ i. (one_above (b == x) ∙ turned b x) i || has_block-times b xs i)

rows-times : (b : ℕ) (inodes : List Inode) → nat_lt 0 (times b (inode_blocks inodes)) ≡ list_any (λ (inode : Inode). has_block b (row_blocks inode.row)) inodes
unfolding inode_blocks times
rows-times b [] = refl
rows-times b (inode ∷ inodes) =
    ap (nat_lt 0) (times-append b (row_blocks inode.row) (inode_blocks inodes))
    ∙ above_sum (times b (row_blocks inode.row)) (times b (inode_blocks inodes))
    ∙ (λ i. has_block-times b (row_blocks inode.row) i || rows-times b inodes i)

-- one less on both sides
last : (b a n : ℕ) → a < b → nat_lt (b - (a + 1)) n ≡ nat_lt (b - a) (suc n)
last b a n more =
    elim (cases_lt (b - (a + 1)) n) [
      | inl below ↦ lt-ltb (b - (a + 1)) n below ∙ sym (lt-ltb (b - a) (suc n) (omega (arith, below)))
      | inr above ↦ le-ltb (b - (a + 1)) n above ∙ sym (le-ltb (b - a) (suc n) (omega (arith, above)))
    ]

range-times : (b a n : ℕ) → nat_lt 0 (times b (range_with_len a n)) ≡ (nat_le a b && nat_lt (b - a) n)
unfolding times
range-times b a zero =
    let no : nat_lt (b - a) 0 ≡ false = le-ltb (b - a) 0 (omega arith) in
    rw no (elim (nat_le a b) as (λ c. false ≡ (c && false)) [ true ↦ refl | false ↦ refl ])
range-times b a (suc n) =
    above_sum (if b == a then 1 else 0) (times b (range_with_len (a + 1) n))
    ∙ (λ i. one_above (b == a) i || range-times b (a + 1) n i)
    ∙ elim (cases_eq b a) [
      | inl same ↦
          let here : (b == a) ≡ true = eq-eqb b a same in
          let low : nat_le a b ≡ true = le-leb a b (omega arith) in
          let below : nat_lt (b - a) (suc n) ≡ true = lt-ltb (b - a) (suc n) (omega arith) in
          rw (here, low, below)
      | inr apart ↦
          let there : (b == a) ≡ false = ne_eqb b a apart in
          elim (cases_lt a b) [
            | inl more ↦
                let low : nat_le a b ≡ true = le-leb a b (omega arith) in
                let high : nat_le (a + 1) b ≡ true = le-leb (a + 1) b (omega arith) in
                rw (there, low, high) (last b a n more)
            | inr less ↦
                let low : nat_le a b ≡ false = lt-leb a b (omega (arith, apart, less)) in
                let high : nat_le (a + 1) b ≡ false = lt-leb (a + 1) b (omega (arith, less)) in
                rw (there, low, high)
          ]
    ]

chunk-times : (b : ℕ) (chunk : Chunk) → nat_lt 0 (times b (chunk_blocks chunk)) ≡ is_own_block b chunk
unfolding chunk_blocks
chunk-times b chunk = range-times b (chunk.start / BLOCK_SECTORS) 8

-- a group uses a block where one of its chunks does
pub uses-times : (b : ℕ) (group : Group) → nat_lt 0 (times b (used group)) ≡ list_any (uses_block b) group
unfolding used times
uses-times b [] = refl
uses-times b (chunk ∷ chunks) =
    ap (nat_lt 0) (times-append b (chunk_blocks chunk ++ inode_blocks chunk.inodes) (used chunks))
    ∙ above_sum (times b (chunk_blocks chunk ++ inode_blocks chunk.inodes)) (times b (used chunks))
    ∙ (λ i. (ap (nat_lt 0) (times-append b (chunk_blocks chunk) (inode_blocks chunk.inodes))
    ∙ above_sum (times b (chunk_blocks chunk)) (times b (inode_blocks chunk.inodes))
    ∙ (λ j. chunk-times b chunk j || rows-times b chunk.inodes j)) i || uses-times b chunks i)

none_is : (n : ℕ) → (n == 0) ≡ not (nat_lt 0 n)
none_is n = elim (cases_lt 0 n) [
  | inl some ↦ ne_eqb n 0 (λ e. omega arith) ∙ ap not (sym (lt-ltb 0 n some))
  | inr none ↦ eq-eqb n 0 (omega arith) ∙ ap not (sym (le-ltb 0 n none))
]

pub free_test : (blocks : ℕ) (group : Group) (b : ℕ) → is_free_block blocks group b ≡ (nat_le FIRST_DATA_BLOCK b && (nat_lt b blocks && not (list_any (uses_block b) group)))
unfolding is_free_block
free_test blocks group b = ap (λ c. nat_le FIRST_DATA_BLOCK b && (nat_lt b blocks && c)) (none_is (times b (used group)) ∙ ap not (uses-times b group))

-- a chunk goes in front of the first one that starts behind it
pub insert_chunk-insert : (new : Chunk) (group : Group) → insert_chunk new group ≡ insert group (position_or_len (λ (other : Chunk). nat_lt new.start other.start) group) new
unfolding insert_chunk
insert_chunk-insert new [] = refl
insert_chunk-insert new (chunk ∷ chunks) =
    elim (nat_lt new.start chunk.start) as (λ c. (if c then new ∷ chunk ∷ chunks else chunk ∷ insert_chunk new chunks)
    ≡ insert (chunk ∷ chunks) (cond (not c) (1 + position_or_len (λ (other : Chunk). nat_lt new.start other.start) chunks) 0) new) [
      | true ↦ refl
      | false ↦ rw one-add (ap (λ others. chunk ∷ others) (insert_chunk-insert new chunks))
    ]

shifted : (number i : ℕ) → number + 1 + (i + 1) ≡ number + (suc i + 1)
shifted number i = omega arith

later : (number i : ℕ) (inodes : List Inode) (first : Inode) → keys_from (number + (suc i + 1)) (drop (i + 1) inodes) ≡ keys_from (number + (suc i + 1)) (drop (suc i + 1) (first ∷ inodes))
later number i inodes first =
    let e : suc (i + 1) ≡ suc i + 1 = omega arith in
    ap (λ n. keys_from (number + (suc i + 1)) (drop n (first ∷ inodes))) e

-- the first key, behind inodes that are not free
pub first_key-step : (number i : ℕ) (inodes : List Inode) (inode : Inode) → slice_get inodes i ≡ Some inode → is_free inode ≡ false
    → keys_from (number + i) (drop i inodes) ≡ keys_from (number + (i + 1)) (drop (i + 1) inodes)
unfolding keys_from
first_key-step number i [] inode at busy = absurd (none-some inode at)
first_key-step number zero (first ∷ inodes) inode at busy =
    let test : is_free first ≡ false = ap is_free (same_Some first inode at) ∙ busy in
    rw test (ap (λ n. keys_from n inodes) (omega arith))
first_key-step number (suc i) (first ∷ inodes) inode at busy =
    let rest = first_key-step (number + 1) i inodes inode at busy in
    ap (λ n. keys_from n (drop i inodes)) (omega arith) ∙ rest ∙ (λ j. keys_from (shifted number i j) (drop (i + 1) inodes)) ∙ later number i inodes first

pub keys_from-past : (number i : ℕ) (inodes : List Inode) → length inodes ≤ i → keys_from number (drop i inodes) ≡ []
unfolding keys_from
keys_from-past number zero [] high = refl
keys_from-past number (suc i) [] high = refl
keys_from-past number zero (inode ∷ inodes) high = absurd (omega arith)
keys_from-past number (suc i) (inode ∷ inodes) high = keys_from-past number i inodes (omega arith)

pub first_key-here : (number i : ℕ) (inodes : List Inode) (inode : Inode) → slice_get inodes i ≡ Some inode → is_free inode ≡ true
    → slice_get (keys_from number (drop i inodes)) 0 ≡ Some (record { number = number; generation = inode.generation })
unfolding keys_from
first_key-here number i [] inode at free = absurd (none-some inode at)
first_key-here number zero (first ∷ inodes) inode at free =
    let same : first ≡ inode = same_Some first inode at in
    let test : is_free first ≡ true = ap is_free same ∙ free in
    let whole : ℕ → Option Key = λ generation. Some (record { number = number; generation = generation }) in
    rw test (ap whole (ap (λ (x : Inode). x.generation) same))
first_key-here number (suc i) (first ∷ inodes) inode at free = first_key-here number i inodes inode at free

-- the lowest key, behind chunks that have none
head-append_none : {X : Type 0} (xs ys : List X) → slice_get xs 0 ≡ None → slice_get (xs ++ ys) 0 ≡ slice_get ys 0
head-append_none [] ys none = refl
head-append_none (x ∷ xs) ys none = absurd (none-some x (sym none))

head-append_some : {X : Type 0} (xs ys : List X) (x : X) → slice_get xs 0 ≡ Some x → slice_get (xs ++ ys) 0 ≡ Some x
head-append_some [] ys x some = absurd (none-some x some)
head-append_some (y ∷ xs) ys x some = some

pub lowest-step : (g i : ℕ) (group : Group) (chunk : Chunk) → slice_get group i ≡ Some chunk → slice_get (keys_from (g * GROUP_NUMBERS + chunk.start) chunk.inodes) 0 ≡ None
    → lowest_key g (drop i group) ≡ lowest_key g (drop (i + 1) group)
unfolding free_keys
lowest-step g i [] chunk at none = absurd (none-some chunk at)
lowest-step g zero (first ∷ group) chunk at none =
    head-append_none (keys_from (g * GROUP_NUMBERS + first.start) first.inodes) (free_keys g group) (ap (λ (c : Chunk). slice_get (keys_from (g * GROUP_NUMBERS + c.start) c.inodes) 0) (same_Some first chunk at) ∙ none)
lowest-step g (suc i) (first ∷ group) chunk at none =
    let e : suc (i + 1) ≡ suc i + 1 = omega arith in
    lowest-step g i group chunk at none ∙ ap (λ n. lowest_key g (drop n (first ∷ group))) e

pub lowest-here : (g i : ℕ) (group : Group) (chunk : Chunk) (key : Key) → slice_get group i ≡ Some chunk → slice_get (keys_from (g * GROUP_NUMBERS + chunk.start) chunk.inodes) 0 ≡ Some key
    → lowest_key g (drop i group) ≡ Some key
unfolding free_keys
lowest-here g i [] chunk key at some = absurd (none-some chunk at)
lowest-here g zero (first ∷ group) chunk key at some =
    head-append_some (keys_from (g * GROUP_NUMBERS + first.start) first.inodes) (free_keys g group) key (ap (λ (c : Chunk). slice_get (keys_from (g * GROUP_NUMBERS + c.start) c.inodes) 0) (same_Some first chunk at) ∙ some)
lowest-here g (suc i) (first ∷ group) chunk key at some = lowest-here g i group chunk key at some

pub lowest-past : (g i : ℕ) (group : Group) → length group ≤ i → lowest_key g (drop i group) ≡ None
unfolding free_keys
lowest-past g zero [] high = refl
lowest-past g (suc i) [] high = refl
lowest-past g zero (chunk ∷ group) high = absurd (omega arith)
lowest-past g (suc i) (chunk ∷ group) high = lowest-past g i group (omega arith)

-- the place of the first that passes
pub position-step : (p : Chunk → Bool) (i : ℕ) (group : Group) (chunk : Chunk) → slice_get group i ≡ Some chunk → p chunk ≡ false → position_or_len p (drop i group) ≡ 1 + position_or_len p (drop (i + 1) group)
position-step p i [] chunk at fails = absurd (none-some chunk at)
position-step p zero (first ∷ group) chunk at fails =
    let test : p first ≡ false = ap p (same_Some first chunk at) ∙ fails in
    rw test refl
position-step p (suc i) (first ∷ group) chunk at fails =
    let e : suc (i + 1) ≡ suc i + 1 = omega arith in
    position-step p i group chunk at fails ∙ ap (λ n. 1 + position_or_len p (drop n (first ∷ group))) e

pub position-here : (p : Chunk → Bool) (i : ℕ) (group : Group) (chunk : Chunk) → slice_get group i ≡ Some chunk → p chunk ≡ true → position_or_len p (drop i group) ≡ 0
position-here p i [] chunk at passes = absurd (none-some chunk at)
position-here p zero (first ∷ group) chunk at passes =
    let test : p first ≡ true = ap p (same_Some first chunk at) ∙ passes in
    rw test refl
position-here p (suc i) (first ∷ group) chunk at passes = position-here p i group chunk at passes

pub position-past : (p : Chunk → Bool) (i : ℕ) (group : Group) → length group ≤ i → position_or_len p (drop i group) ≡ 0
position-past p zero [] high = refl
position-past p (suc i) [] high = refl
position-past p zero (chunk ∷ group) high = absurd (omega arith)
position-past p (suc i) (chunk ∷ group) high = position-past p i group (omega arith)

-- ranges in two parts
pub range-split : (a k m : ℕ) → range_with_len a (k + m) ≡ range_with_len a k ++ range_with_len (a + k) m
range-split a zero m =
    let left : zero + m ≡ m = omega arith in
    let right : a ≡ a + zero = omega arith in
    (λ i. range_with_len (right i) (left i))
range-split a (suc k) m =
    let shift : a + 1 + k ≡ a + suc k = omega arith in
    let e : suc k + m ≡ suc (k + m) = omega arith in
    ap (range_with_len a) e ∙ ap (λ xs. a ∷ xs) (range-split (a + 1) k m ∙ ap (λ n. range_with_len (a + 1) k ++ range_with_len n m) shift)

pub filter-append : (p : ℕ → Bool) (xs ys : List ℕ) → filter p (xs ++ ys) ≡ filter p xs ++ filter p ys
filter-append p [] ys = refl
filter-append p (x ∷ xs) ys =
    elim (p x) as (λ c. (if c then x ∷ filter p (xs ++ ys) else filter p (xs ++ ys)) ≡ (if c then x ∷ filter p xs else filter p xs) ++ filter p ys) [
      | true ↦ ap (λ zs. x ∷ zs) (filter-append p xs ys)
      | false ↦ filter-append p xs ys
    ]

pub list_all-append : (p : ℕ → Bool) (xs ys : List ℕ) → list_all p (xs ++ ys) ≡ (list_all p xs && list_all p ys)
list_all-append p [] ys = refl
list_all-append p (x ∷ xs) ys =
    elim (p x) as (λ c. (c && list_all p (xs ++ ys)) ≡ ((c && list_all p xs) && list_all p ys)) [
      | true ↦ list_all-append p xs ys
      | false ↦ refl
    ]

pub find-append_none : (p : ℕ → Bool) (xs ys : List ℕ) → find p xs ≡ None → find p (xs ++ ys) ≡ find p ys
find-append_none p [] ys none = refl
find-append_none p (x ∷ xs) ys none =
    elim (p x) as (λ c. (if c then Some x else find p xs) ≡ None → (if c then Some x else find p (xs ++ ys)) ≡ find p ys) [
      | true ↦ λ is. absurd (none-some x (sym is))
      | false ↦ λ is. find-append_none p xs ys is
    ] none

-- a range with one number more
pub range-more : (a n : ℕ) → range_with_len a (n + 1) ≡ range_with_len a n ++ (a + n) ∷ []
range-more a n = range-split a n 1

-- a range from one of its numbers on
pub range-from : (a k n : ℕ) → k < n → range_with_len a n ≡ range_with_len a k ++ (a + k) ∷ range_with_len (a + k + 1) (n - (k + 1))
range-from a k n low =
    let e : n ≡ k + suc (n - (k + 1)) = omega arith in
    ap (range_with_len a) e ∙ range-split a k (suc (n - (k + 1)))

-- where 8 free blocks begin, and where not
pub begins-other : (blocks : ℕ) (group : Group) (block : ℕ) → (block % 8 ≡ 0 → ⊥) → begins_run blocks group block ≡ false
unfolding begins_run
begins-other blocks group block apart = and_left (block % 8 == 0) (list_all (is_free_block blocks group) (range_with_len block 8)) (ne_eqb (block % 8) 0 apart)

all-false : (p : ℕ → Bool) (a k n : ℕ) → k < n → p (a + k) ≡ false → list_all p (range_with_len a n) ≡ false
all-false p a k n low fails =
    ap (list_all p) (range-from a k n low) ∙ list_all-append p (range_with_len a k) ((a + k) ∷ range_with_len (a + k + 1) (n - (k + 1)))
    ∙ and_right (list_all p (range_with_len a k)) (p (a + k) && list_all p (range_with_len (a + k + 1) (n - (k + 1)))) (and_left (p (a + k)) (list_all p (range_with_len (a + k + 1) (n - (k + 1)))) fails)

pub begins-not : (blocks : ℕ) (group : Group) (block place : ℕ) → place < 8 → is_free_block blocks group (block + place) ≡ false → begins_run blocks group block ≡ false
unfolding begins_run
begins-not blocks group block place low fails =
    and_right (block % 8 == 0) (list_all (is_free_block blocks group) (range_with_len block 8)) (all-false (is_free_block blocks group) block place 8 low fails)

pub all-more : (p : ℕ → Bool) (a n : ℕ) → list_all p (range_with_len a n) ≡ true → p (a + n) ≡ true → list_all p (range_with_len a (n + 1)) ≡ true
all-more p a n all here =
    ap (list_all p) (range-more a n) ∙ list_all-append p (range_with_len a n) ((a + n) ∷ []) ∙ and_from (list_all p (range_with_len a n)) (p (a + n) && true) all (and_from (p (a + n)) true here refl)

pub begins-all : (blocks : ℕ) (group : Group) (block : ℕ) → block % 8 ≡ 0 → list_all (is_free_block blocks group) (range_with_len block 8) ≡ true → begins_run blocks group block ≡ true
unfolding begins_run
begins-all blocks group block aligned all = and_from (block % 8 == 0) (list_all (is_free_block blocks group) (range_with_len block 8)) (eq-eqb (block % 8) 0 aligned) all

-- the first that is found
pub place-full : (blocks : ℕ) (group : Group) → MAX_CHUNKS ≤ length group → chunk_place blocks group ≡ None
unfolding chunk_place
place-full blocks group many = let test : nat_lt (length group) MAX_CHUNKS ≡ false = le-ltb (length group) MAX_CHUNKS many in rw test refl

find-at : (p : ℕ → Bool) (k n : ℕ) → k < n → find p (range_with_len 0 k) ≡ None → p k ≡ true → find p (range_with_len 0 n) ≡ Some k
find-at p k n low none here =
    let start : 0 + k ≡ k = omega arith in
    let test : p (0 + k) ≡ true = ap p start ∙ here in
    ap (find p) (range-from 0 k n low) ∙ find-append_none p (range_with_len 0 k) ((0 + k) ∷ range_with_len (0 + k + 1) (n - (k + 1))) none
    ∙ ap (λ c. if c then Some (0 + k) else find p (range_with_len (0 + k + 1) (n - (k + 1)))) test ∙ ap Some start

pub place-found : (blocks : ℕ) (group : Group) (block : ℕ) → length group < MAX_CHUNKS → block < blocks → find (begins_run blocks group) (range_with_len 0 block) ≡ None → begins_run blocks group block ≡ true
    → chunk_place blocks group ≡ Some block
unfolding chunk_place
place-found blocks group block few low none here =
    let test : nat_lt (length group) MAX_CHUNKS ≡ true = lt-ltb (length group) MAX_CHUNKS few in
    rw test (find-at (begins_run blocks group) block blocks low none here)

pub find-more : (p : ℕ → Bool) (n : ℕ) → find p (range_with_len 0 n) ≡ None → p n ≡ false → find p (range_with_len 0 (n + 1)) ≡ None
find-more p n none here =
    let start : 0 + n ≡ n = omega arith in
    let test : p (0 + n) ≡ false = ap p start ∙ here in
    ap (find p) (range-more 0 n) ∙ find-append_none p (range_with_len 0 n) ((0 + n) ∷ []) none ∙ ap (λ c. if c then Some (0 + n) else None) test

pub place-none : (blocks : ℕ) (group : Group) → length group < MAX_CHUNKS → find (begins_run blocks group) (range_with_len 0 blocks) ≡ None → chunk_place blocks group ≡ None
unfolding chunk_place
place-none blocks group few none = let test : nat_lt (length group) MAX_CHUNKS ≡ true = lt-ltb (length group) MAX_CHUNKS few in rw test none

-- one number more in a filtered range
pub filter-more : (p : ℕ → Bool) (n : ℕ) (c : Bool) → p n ≡ c → filter p (range_with_len 0 (n + 1)) ≡ (if c then filter p (range_with_len 0 n) ++ n ∷ [] else filter p (range_with_len 0 n))
filter-more p n c is =
    let start : 0 + n ≡ n = omega arith in
    ap (filter p) (range-more 0 n) ∙ filter-append p (range_with_len 0 n) ((0 + n) ∷ [])
    ∙ ap (λ m. filter p (range_with_len 0 n) ++ (if p m then m ∷ [] else [])) start
    ∙ ap (λ b. filter p (range_with_len 0 n) ++ (if b then n ∷ [] else [])) is
    ∙ elim c as (λ b. filter p (range_with_len 0 n) ++ (if b then n ∷ [] else []) ≡ (if b then filter p (range_with_len 0 n) ++ n ∷ [] else filter p (range_with_len 0 n))) [ true ↦ refl | false ↦ append-nil (filter p (range_with_len 0 n)) ]

pub free_blocks-is : (blocks : ℕ) (group : Group) → free_blocks blocks group ≡ filter (is_free_block blocks group) (range_with_len 0 blocks)
unfolding free_blocks
free_blocks-is blocks group = refl

pub new_chunk-is : (block : ℕ) → new_chunk block ≡ record { start = block * 8; inodes = replicate 64 (record { generation = 1; row = None }) }
unfolding new_chunk
new_chunk-is block = refl

-- an option by its test
pub none_from : {X : Type 0} (o : Option X) → is_some o ≡ false → o ≡ None
none_from None is = refl
none_from (Some x) is = absurd (true≢false is)

pub some_from : {X : Type 0} (o : Option X) → is_some o ≡ true → (x : X) × (o ≡ Some x)
some_from None is = absurd (true≢false (sym is))
some_from (Some x) is = (x, refl)

-- the group as a create finds it
pub prepared-is : (blocks g : ℕ) (group : Group) → prepared blocks g group ≡ (if is_some (lowest_key g group) then group else with_chunk group (chunk_place blocks group))
unfolding prepared
prepared-is blocks g group = refl

-- the free blocks are below the number of blocks
range_below : (m a n : ℕ) → a + n ≤ m → AllByRecursion (λ b. b < m) (range_with_len a n)
range_below m a zero high = tt
range_below m a (suc n) high = (omega arith, range_below m (a + 1) n (omega arith))

filter_keeps : (P : ℕ → Type 0) (p : ℕ → Bool) (xs : List ℕ) → AllByRecursion P xs → AllByRecursion P (filter p xs)
filter_keeps P p [] all = tt
filter_keeps P p (x ∷ xs) all =
    elim (p x) as (λ c. AllByRecursion P (if c then x ∷ filter p xs else filter p xs)) [
      | true ↦ (all.0, filter_keeps P p xs all.1)
      | false ↦ filter_keeps P p xs all.1
    ]

free_below : (blocks : ℕ) (group : Group) → AllByRecursion (λ b. b < blocks) (free_blocks blocks group)
unfolding free_blocks
free_below blocks group = filter_keeps (λ b. b < blocks) (is_free_block blocks group) (range_with_len 0 blocks) (range_below blocks 0 blocks (omega arith))

all_append : (P : ℕ → Type 0) (xs ys : List ℕ) → AllByRecursion P xs → AllByRecursion P ys → AllByRecursion P (xs ++ ys)
all_append P [] ys all more = more
all_append P (x ∷ xs) ys all more = (all.0, all_append P xs ys all.1 more)

all_take : (P : ℕ → Type 0) (k : ℕ) (xs : List ℕ) → AllByRecursion P xs → AllByRecursion P (take k xs)
all_take P zero xs all = tt
all_take P (suc k) [] all = tt
all_take P (suc k) (x ∷ xs) all = (all.0, all_take P k xs all.1)

all_below : (low high : ℕ) (xs : List ℕ) → low ≤ high → AllByRecursion (λ b. b < low) xs → AllByRecursion (λ b. b < high) xs
all_below low high [] less all = tt
all_below low high (x ∷ xs) less all = (omega (arith, less, all.0), all_below low high xs less all.1)

data_below : (blocks : ℕ) (xs : List ℕ) → AllByRecursion (IsDataBlock blocks) xs → AllByRecursion (λ b. b < blocks) xs
data_below blocks [] all = tt
data_below blocks (x ∷ xs) all = (all.0.1, data_below blocks xs all.1)

pub grown_below : (blocks count : ℕ) (group : Group) (old : List ℕ) → blocks ≤ MAX_BLOCKS → AllByRecursion (IsDataBlock blocks) old → All (λ b. b < MAX_BLOCKS) (old ++ take count (free_blocks blocks group))
grown_below blocks count group old small all =
    All-from_recursion (λ b. b < MAX_BLOCKS) (old ++ take count (free_blocks blocks group))
    (all_below blocks MAX_BLOCKS (old ++ take count (free_blocks blocks group)) small
    (all_append (λ b. b < blocks) old (take count (free_blocks blocks group)) (data_below blocks old all) (all_take (λ b. b < blocks) count (free_blocks blocks group) (free_below blocks group))))
