-- A set of blocks as words, and the list of answers that it represents.
use Rattle.std.proofs.Common.{◌≡◌, ◌≢◌, ◌<◌, ◌≤◌, ◌+◌, ◌-◌, ℕ, Bool, true, false, cond, List, ◌++◌, length, set, inl, inr, ap, sym, ◌∙◌, arith, get_or-set_same, get_or-set_other}
use Rattle.std.specs.Prelude.{count_by}
use Rattle.std.specs.List.{range_with_len, filter}
use Rattle.std.proofs.lemmas.Bool.{cases_eq, cases_lt, false≢true}
use Rattle.std.proofs.lemmas.List.Elements.{filter-append}
use Rattle.std.proofs.lemmas.List.{append-nil, same_lists, length-set, get_or_past}
use Rattle.std.proofs.lemmas.List.Sums.{length-filter, sum_by-set, count_by-le-length}
use Rattle.std.proofs.lemmas.List.FromFn.{length-map-range_with_len, get_or-map-range_with_len}
use Rattle.free_map.specs.Blocks.{is_block_free, map_free_blocks}
use Rattle.free_map.specs.Words.{block_bit, map_blocks, AreMapWords}
use Rattle.free_map.proofs.Ranges.{filter-range_agree, filter-range_none, range-append, count-range}

pub length-blocks_of : (words : List ℕ) (n : ℕ) → length (map_blocks words n) ≡ n
length-blocks_of words n = length-map-range_with_len (block_bit words) 0 n

-- a block below the number of blocks is free where its bit is set
pub is_free-blocks_of : (words : List ℕ) (n b : ℕ) → b < n → is_block_free (map_blocks words n) b ≡ block_bit words b
is_free-blocks_of words n b h = get_or-map-range_with_len (block_bit words) 0 n b b false h (omega arith)

pub is_free_past : (words : List ℕ) (n b : ℕ) → n ≤ b → is_block_free (map_blocks words n) b ≡ false
is_free_past words n b h = get_or_past (map_blocks words n) b false (omega (arith, length-blocks_of words n))

-- of a kept map the bit says it at each block
pub is_free_kept : (words : List ℕ) (n free b : ℕ) → AreMapWords words n free → is_block_free (map_blocks words n) b ≡ block_bit words b
is_free_kept words n free b kept =
    elim (cases_lt b n) [ inl h ↦ is_free-blocks_of words n b h | inr h ↦ is_free_past words n b h ∙ sym (kept.clear b h) ]

-- the free blocks are the set bits of all words
pub free_blocks_where : (words : List ℕ) (n m : ℕ) → ((b : ℕ) → n ≤ b → block_bit words b ≡ false) → n ≤ m
    → map_free_blocks (map_blocks words n) ≡ filter (block_bit words) (range_with_len 0 m)
free_blocks_where words n m clear h =
    let rest : ℕ = m - n in
    let split : m ≡ n + rest = omega arith in
    ap (λ (k : ℕ). filter (is_block_free (map_blocks words n)) (range_with_len 0 k)) (length-blocks_of words n)
    ∙ filter-range_agree (is_block_free (map_blocks words n)) (block_bit words) 0 n (λ i l u. is_free-blocks_of words n i (omega arith))
    ∙ sym (append-nil (filter (block_bit words) (range_with_len 0 n)))
    ∙ ap (λ (xs : List ℕ). filter (block_bit words) (range_with_len 0 n) ++ xs) (sym (filter-range_none (block_bit words) (0 + n) rest (λ i l u. clear i (omega arith))))
    ∙ sym (filter-append (block_bit words) (range_with_len 0 n) (range_with_len (0 + n) rest))
    ∙ ap (λ (xs : List ℕ). filter (block_bit words) xs) (sym (range-append 0 n rest))
    ∙ ap (λ (k : ℕ). filter (block_bit words) (range_with_len 0 k)) (sym split)

pub free_blocks_kept : (words : List ℕ) (n free m : ℕ) → AreMapWords words n free → n ≤ m → map_free_blocks (map_blocks words n) ≡ filter (block_bit words) (range_with_len 0 m)
free_blocks_kept words n free m kept h = free_blocks_where words n m kept.clear h

-- there are as many free blocks as answers that say so
pub length-free_blocks : (blocks : List Bool) → length (map_free_blocks blocks) ≡ count_by (λ f. f) blocks
length-free_blocks blocks = length-filter (is_block_free blocks) (range_with_len 0 (length blocks)) ∙ count-range blocks

-- one bit changed
pub blocks_of-set : (old new : List ℕ) (n block : ℕ) (v : Bool) → block < n → block_bit new block ≡ v → ((b : ℕ) → b ≢ block → block_bit new b ≡ block_bit old b)
    → map_blocks new n ≡ set (map_blocks old n) block v
blocks_of-set old new n block v h here others =
    same_lists (map_blocks new n) (set (map_blocks old n) block v)
    (length-blocks_of new n ∙ sym (length-blocks_of old n) ∙ sym (length-set (map_blocks old n) block v))
    (λ k d l. let b : k < n = omega (arith, length-blocks_of new n) in
    get_or-map-range_with_len (block_bit new) 0 n k k d b (omega arith) ∙ elim (cases_eq k block) [
      | inl e ↦ rw e (here ∙ sym (get_or-set_same (map_blocks old n) block v d (omega (arith, length-blocks_of old n))))
      | inr ne ↦ others k ne ∙ sym (get_or-map-range_with_len (block_bit old) 0 n k k d b (omega arith)) ∙ sym (get_or-set_other (map_blocks old n) block k v d ne)
    ])

-- the count after one answer changed
pub count-set : (blocks : List Bool) (block : ℕ) (v : Bool) → block < length blocks
    → count_by (λ f. f) (set blocks block v) + cond (is_block_free blocks block) 1 0 ≡ count_by (λ f. f) blocks + cond v 1 0
count-set blocks block v h = sum_by-set (λ f. cond f 1 0) blocks block v false h

-- a map after one bit changed
pub kept-set : (old new : List ℕ) (n free more block : ℕ) (v : Bool) → AreMapWords old n free → length new ≡ length old → block < n
    → block_bit new block ≡ v → ((b : ℕ) → b ≢ block → block_bit new b ≡ block_bit old b)
    → more + cond (is_block_free (map_blocks old n) block) 1 0 ≡ free + cond v 1 0 → AreMapWords new n more
kept-set old new n free more block v kept long below here others counted =
    let m : List Bool = map_blocks old n in
    let change = count-set m block v (omega (arith, length-blocks_of old n)) in
    record {
      whole = long ∙ kept.whole;
      few = kept.few;
      clear = λ b h. let other : b ≢ block = omega arith in others b other ∙ kept.clear b h;
      count = omega (arith, counted, change, kept.count) ∙ ap (count_by (λ f. f)) (sym (blocks_of-set old new n block v below here others));
    }

-- only a block below the number of blocks is free
pub free_below : (words : List ℕ) (n b : ℕ) → is_block_free (map_blocks words n) b ≡ true → b < n
free_below words n b h =
    elim (cases_lt b n) [ inl below ↦ below | inr past ↦ absurd (false≢true (sym (is_free_past words n b past) ∙ h)) ]

-- there are at most as many free blocks, and one less where one is taken
pub count_below : (blocks : List Bool) (b : ℕ) → b < length blocks → is_block_free blocks b ≡ false → count_by (λ f. f) blocks < length blocks
count_below blocks b h taken =
    let change = count-set blocks b true h in
    let most = count_by-le-length (λ f. f) (set blocks b true) in
    omega (arith, change, most, length-set blocks b true, ap {B = ℕ} (λ (t : Bool). cond t 1 0) taken)

-- a free block is counted
pub count_above : (blocks : List Bool) (b : ℕ) → b < length blocks → is_block_free blocks b ≡ true → 0 < count_by (λ f. f) blocks
count_above blocks b h free =
    let change = count-set blocks b false h in
    omega (arith, change, ap {B = ℕ} (λ (t : Bool). cond t 1 0) free)
