-- The records of chunks: which inode a bit speaks of, and how the records follow the chunks.
use Rattle.std.proofs.Common.{◌≡◌, ◌≢◌, ◌+◌, ◌-◌, ◌*◌, ◌%◌, ◌<◌, ◌≤◌, ℕ, zero, suc, Bool, true, false, cond, eqb, List, [], ◌∷◌, ◌++◌, Option, None, Some, length, map, get_or, set, refl, sym, ap, subst, ◌∙◌, inl, inr, arith}
use Rattle.std.specs.Prelude.{IsSomeAnd, is_none, replicate, slice_get, slice_set, nat_le, nat_lt}
use Rattle.std.specs.List.{find, filter}
use Rattle.std.proofs.lemmas.Bool.{cases_eq, cases_lt, eq-eqb, ne_eqb, eqb-true, and_from, and_parts, le-leb, lt-ltb, leb-true, ltb-true, le-ltb, false≢true, cond-true, cond-false, false_from_ne_true}
use Rattle.std.proofs.lemmas.Option.{none-some, same_Some, slice_get_within}
use Rattle.std.proofs.lemmas.List.{length-map}
use Rattle.std.proofs.lemmas.List.Elements.{All-get_or}
use Rattle.std.proofs.lemmas.List.Sums.{sum_by-cons}
use Rattle.life_limits.specs.declared.TheConstants.{CHUNK_INODES}
use Rattle.life_bytes.specs.Bits.{is_set}
use Rattle.free_map.specs.Bitmap.{number_of_bits}
use Rattle.inobt_leaf.specs.declared.chunk.ChunkRec.{ChunkRec}
use Rattle.inobt_leaf.specs.Chunks.{IsLeaf, IsChunkRecord, chunk_holds, after_take, after_give, where_held, whole_chunk, with_whole_chunk}
use Rattle.inobt_leaf.specs.Masks.{without_bit, with_bit}
use Rattle.life_table.specs.declared.table.Inode.{Inode}
use Rattle.life_table.specs.declared.table.Chunk.{Chunk}
use Rattle.life_table.specs.Table.{Group, inode_in, set_inode, start_of}
use Rattle.life_table.specs.Space.{insert_chunk, new_chunk}
use Rattle.sound_image.specs.Encoding.{mask_of, free_count, chunk_record}
use Rattle.group_space.proofs.Masks.{bit_of_number, mask-clear, mask-set}

abbrev pub unused : Inode → Bool
unused inode = is_none inode.row

-- ---- a leaf, record by record

pub tail_leaf : (r : ChunkRec) (rs : List ChunkRec) → IsLeaf (r ∷ rs) → IsLeaf rs
tail_leaf r rs leaf = record {
  few = let few = leaf.few in omega arith;
  each = λ k e low. leaf.each (suc k) e (omega arith);
  ascends = λ i j d l h. leaf.ascends (suc i) (suc j) d (omega arith) (omega arith);
}

pub head_record : (r : ChunkRec) (rs : List ChunkRec) → IsLeaf (r ∷ rs) → IsChunkRecord r
head_record r rs leaf = leaf.each 0 r (omega arith)

pub head_below : (r : ChunkRec) (rs : List ChunkRec) (j : ℕ) (d : ChunkRec) → IsLeaf (r ∷ rs) → j < length rs → r.start < (get_or rs j d).start
head_below r rs j d leaf low = leaf.ascends 0 (suc j) d (omega arith) (omega arith)

pub held_by : (agino : ℕ) (chunk : ChunkRec) → chunk_holds agino chunk ≡ true → (chunk.start ≤ agino) × (agino < chunk.start + 64)
held_by agino chunk held =
    let both = and_parts (nat_le chunk.start agino) (nat_lt agino (chunk.start + 64)) held in
    (leb-true chunk.start agino both.0, ltb-true agino (chunk.start + 64) both.1)

pub holds : (agino : ℕ) (chunk : ChunkRec) → chunk.start ≤ agino → agino < chunk.start + 64 → chunk_holds agino chunk ≡ true
holds agino chunk low high = and_from _ _ (le-leb chunk.start agino low) (lt-ltb agino (chunk.start + 64) high)

-- an aligned record holds the numbers that start there
pub held_is : (agino : ℕ) (chunk : ChunkRec) → chunk.start % 64 ≡ 0 → chunk_holds agino chunk ≡ eqb chunk.start (start_of agino)
held_is agino chunk aligned =
    elim (cases_eq chunk.start (start_of agino)) [
      | inl same ↦ holds agino chunk (omega (arith, same)) (omega (arith, same)) ∙ sym (eq-eqb chunk.start (start_of agino) same)
      | inr apart ↦
          false_from_ne_true (chunk_holds agino chunk) (λ held. let h = held_by agino chunk held in let low = h.0 in let high = h.1 in apart (omega arith))
          ∙ sym (ne_eqb chunk.start (start_of agino) apart)
    ]

pub record_start : (c : Chunk) → (chunk_record c).start ≡ c.start
unfolding chunk_record
record_start c = refl

record_mask : (c : Chunk) → (chunk_record c).mask ≡ number_of_bits (map unused c.inodes)
unfolding chunk_record mask_of
record_mask c = refl

pub chunk_held : (agino : ℕ) (c : Chunk) → IsChunkRecord (chunk_record c) → chunk_holds agino (chunk_record c) ≡ eqb c.start (start_of agino)
chunk_held agino c is = held_is agino (chunk_record c) is.aligned ∙ ap (λ (n : ℕ). eqb n (start_of agino)) (record_start c)

-- ---- what a bit says

map_get : (xs : List Inode) (i : ℕ) (x : Inode) → slice_get xs i ≡ Some x → get_or (map unused xs) i false ≡ unused x
map_get [] i x at = absurd (none-some x at)
map_get (y ∷ ys) zero x at = ap unused (same_Some y x at)
map_get (y ∷ ys) (suc i) x at = map_get ys i x at

no_row : {X : Type 0} (o : Option X) → is_none o ≡ true → o ≡ None
no_row None e = refl
no_row (Some y) e = absurd (false≢true e)

get_map : (xs : List Inode) (i : ℕ) → get_or (map unused xs) i false ≡ true → IsSomeAnd (slice_get xs i) (λ inode. inode.row ≡ None)
get_map [] i is = absurd (false≢true is)
get_map (x ∷ xs) zero is = no_row x.row is
get_map (x ∷ xs) (suc i) is = get_map xs i is

place_in : (agino start : ℕ) → start ≡ start_of agino → agino - start ≡ agino % 64
place_in agino start same = omega (arith, same)

record_bit : (c : Chunk) (agino : ℕ) → c.start ≡ start_of agino → is_set (chunk_record c).mask (agino - (chunk_record c).start) ≡ get_or (map unused c.inodes) (agino % 64) false
record_bit c agino same =
    (λ i. is_set (record_mask c i) (place_in agino (chunk_record c).start (record_start c ∙ same) i)) ∙ bit_of_number (map unused c.inodes) (agino % 64)

-- the record of a number's chunk has its bit set where no row has the number
pub bit_says : (cs : Group) (agino : ℕ) (inode : Inode) → IsLeaf (map chunk_record cs) → inode_in cs agino ≡ Some inode
    → IsSomeAnd (find (chunk_holds agino) (map chunk_record cs)) (λ r. is_set r.mask (agino - r.start) ≡ unused inode)
unfolding inode_in
bit_says [] agino inode leaf at = absurd (none-some inode at)
bit_says (c ∷ cs) agino inode leaf at =
    let own = chunk_held agino c (head_record (chunk_record c) (map chunk_record cs) leaf) in
    let P : Option ChunkRec → Type 0 = λ o. IsSomeAnd o (λ r. is_set r.mask (agino - r.start) ≡ unused inode) in
    elim (eqb c.start (start_of agino)) as (λ t. eqb c.start (start_of agino) ≡ t → (cond t (slice_get c.inodes (agino % CHUNK_INODES)) (inode_in cs agino)) ≡ Some inode
    → P (find (chunk_holds agino) (chunk_record c ∷ map chunk_record cs))) [
      | true ↦ λ is here.
          subst P (sym (cond-true (chunk_holds agino (chunk_record c)) (Some (chunk_record c)) (find (chunk_holds agino) (map chunk_record cs)) (own ∙ is)))
          (record_bit c agino (eqb-true c.start (start_of agino) is) ∙ map_get c.inodes (agino % 64) inode here)
      | false ↦ λ is here.
          subst P (sym (cond-false (chunk_holds agino (chunk_record c)) (Some (chunk_record c)) (find (chunk_holds agino) (map chunk_record cs)) (own ∙ is)))
          (bit_says cs agino inode (tail_leaf (chunk_record c) (map chunk_record cs) leaf) here)
    ] refl at

pub says_bit : (cs : Group) (agino : ℕ) → IsLeaf (map chunk_record cs) → IsSomeAnd (find (chunk_holds agino) (map chunk_record cs)) (λ r. is_set r.mask (agino - r.start) ≡ true)
    → IsSomeAnd (inode_in cs agino) (λ inode. inode.row ≡ None)
unfolding inode_in
says_bit [] agino leaf says = absurd says
says_bit (c ∷ cs) agino leaf says =
    let own = chunk_held agino c (head_record (chunk_record c) (map chunk_record cs) leaf) in
    let P : Option ChunkRec → Type 0 = λ o. IsSomeAnd o (λ r. is_set r.mask (agino - r.start) ≡ true) in
    elim (eqb c.start (start_of agino)) as (λ t. eqb c.start (start_of agino) ≡ t → IsSomeAnd (cond t (slice_get c.inodes (agino % CHUNK_INODES)) (inode_in cs agino)) (λ inode. inode.row ≡ None)) [
      | true ↦ λ is.
          get_map c.inodes (agino % 64)
          (sym (record_bit c agino (eqb-true c.start (start_of agino) is))
          ∙ subst P (cond-true (chunk_holds agino (chunk_record c)) (Some (chunk_record c)) (find (chunk_holds agino) (map chunk_record cs)) (own ∙ is)) says)
      | false ↦ λ is.
          says_bit cs agino (tail_leaf (chunk_record c) (map chunk_record cs) leaf)
          (subst P (cond-false (chunk_holds agino (chunk_record c)) (Some (chunk_record c)) (find (chunk_holds agino) (map chunk_record cs)) (own ∙ is)) says)
    ] refl

-- ---- one inode changed

map_set : (xs : List Inode) (i : ℕ) (new : Inode) → map unused (slice_set xs i new) ≡ set (map unused xs) i (unused new)
map_set [] i new = refl
map_set (x ∷ xs) zero new = refl
map_set (x ∷ xs) (suc i) new = ap (λ (bs : List Bool). unused x ∷ bs) (map_set xs i new)

count_set : (xs : List Inode) (i : ℕ) (old new : Inode) → slice_get xs i ≡ Some old
    → free_count (slice_set xs i new) + cond (unused old) 1 0 ≡ free_count xs + cond (unused new) 1 0
unfolding free_count
count_set [] i old new at = absurd (none-some old at)
count_set (x ∷ xs) zero old new at =
    let same : ◌≡◌ {A = ℕ} (cond (unused x) 1 0) (cond (unused old) 1 0) = ap (λ (y : Inode). cond {A = ℕ} (unused y) 1 0) (same_Some x old at) in
    omega (arith, same, sum_by-cons (λ (y : Inode). cond {A = ℕ} (unused y) 1 0) new xs, sum_by-cons (λ (y : Inode). cond {A = ℕ} (unused y) 1 0) x xs)
count_set (x ∷ xs) (suc i) old new at =
    omega (
      arith,
      count_set xs i old new at,
      sum_by-cons (λ (y : Inode). cond {A = ℕ} (unused y) 1 0) x (slice_set xs i new),
      sum_by-cons (λ (y : Inode). cond {A = ℕ} (unused y) 1 0) x xs,
    )

abbrev pub with_inodes : Chunk → List Inode → Chunk
with_inodes c inodes = record { start = c.start; inodes = inodes }

same_record : (start a b m n : ℕ) → a ≡ b → m ≡ n → ◌≡◌ {A = ChunkRec} (record { start = start; free = a; mask = m }) (record { start = start; free = b; mask = n })
same_record start a b m n e f = λ i. record { start = start; free = e i; mask = f i }

taken_record : (c : Chunk) (agino : ℕ) (old new : Inode) → IsChunkRecord (chunk_record c) → c.start ≡ start_of agino → slice_get c.inodes (agino % 64) ≡ Some old
    → unused old ≡ true → unused new ≡ false → chunk_record (with_inodes c (slice_set c.inodes (agino % 64) new)) ≡ after_take agino (chunk_record c)
unfolding chunk_record mask_of
taken_record c agino old new is same at free busy =
    let within : agino % 64 < length (map unused c.inodes) = omega (arith, slice_get_within c.inodes (agino % 64) old at, length-map c.inodes unused) in
    let fits = is.mask in
    let one : ◌≡◌ {A = ℕ} (cond (unused old) 1 0) 1 = ap (λ (b : Bool). cond {A = ℕ} b 1 0) free in
    let nil : ◌≡◌ {A = ℕ} (cond (unused new) 1 0) 0 = ap (λ (b : Bool). cond {A = ℕ} b 1 0) busy in
    same_record c.start (free_count (slice_set c.inodes (agino % 64) new)) (free_count c.inodes - 1)
    (number_of_bits (map unused (slice_set c.inodes (agino % 64) new))) (without_bit (number_of_bits (map unused c.inodes)) (agino - c.start))
    (omega (arith, count_set c.inodes (agino % 64) old new at, one, nil))
    (ap number_of_bits (map_set c.inodes (agino % 64) new ∙ ap (set (map unused c.inodes) (agino % 64)) busy)
    ∙ sym (mask-clear (map unused c.inodes) (agino % 64) within (omega arith) fits (map_get c.inodes (agino % 64) old at ∙ free))
    ∙ ap (without_bit (number_of_bits (map unused c.inodes))) (sym (place_in agino c.start same)))

given_record : (c : Chunk) (agino : ℕ) (old new : Inode) → c.start ≡ start_of agino → slice_get c.inodes (agino % 64) ≡ Some old
    → unused old ≡ false → unused new ≡ true → chunk_record (with_inodes c (slice_set c.inodes (agino % 64) new)) ≡ after_give agino (chunk_record c)
unfolding chunk_record mask_of
given_record c agino old new same at busy free =
    let within : agino % 64 < length (map unused c.inodes) = omega (arith, slice_get_within c.inodes (agino % 64) old at, length-map c.inodes unused) in
    let nil : ◌≡◌ {A = ℕ} (cond (unused old) 1 0) 0 = ap (λ (b : Bool). cond {A = ℕ} b 1 0) busy in
    let one : ◌≡◌ {A = ℕ} (cond (unused new) 1 0) 1 = ap (λ (b : Bool). cond {A = ℕ} b 1 0) free in
    same_record c.start (free_count (slice_set c.inodes (agino % 64) new)) (free_count c.inodes + 1)
    (number_of_bits (map unused (slice_set c.inodes (agino % 64) new))) (with_bit (number_of_bits (map unused c.inodes)) (agino - c.start))
    (omega (arith, count_set c.inodes (agino % 64) old new at, one, nil))
    (ap number_of_bits (map_set c.inodes (agino % 64) new ∙ ap (set (map unused c.inodes) (agino % 64)) free)
    ∙ sym (mask-set (map unused c.inodes) (agino % 64) within (map_get c.inodes (agino % 64) old at ∙ busy))
    ∙ ap (with_bit (number_of_bits (map unused c.inodes))) (sym (place_in agino c.start same)))

kept_bits : (xs : List Inode) (i : ℕ) (old new : Inode) → slice_get xs i ≡ Some old → unused new ≡ unused old → map unused (slice_set xs i new) ≡ map unused xs
kept_bits [] i old new at same = absurd (none-some old at)
kept_bits (x ∷ xs) zero old new at same = ap (λ (b : Bool). b ∷ map unused xs) (same ∙ ap unused (sym (same_Some x old at)))
kept_bits (x ∷ xs) (suc i) old new at same = ap (λ (bs : List Bool). unused x ∷ bs) (kept_bits xs i old new at same)

kept_record : (c : Chunk) (i : ℕ) (old new : Inode) → slice_get c.inodes i ≡ Some old → unused new ≡ unused old → chunk_record (with_inodes c (slice_set c.inodes i new)) ≡ chunk_record c
unfolding chunk_record mask_of
kept_record c i old new at same =
    let counted : ◌≡◌ {A = ℕ} (cond (unused new) 1 0) (cond (unused old) 1 0) = ap (λ (b : Bool). cond {A = ℕ} b 1 0) same in
    same_record c.start (free_count (slice_set c.inodes i new)) (free_count c.inodes) (number_of_bits (map unused (slice_set c.inodes i new))) (number_of_bits (map unused c.inodes))
    (omega (arith, count_set c.inodes i old new at, counted)) (ap number_of_bits (kept_bits c.inodes i old new at same))

-- no record behind the one that holds a number holds it
untouched : (rs : List ChunkRec) (agino : ℕ) (change : ChunkRec → ChunkRec) → ((j : ℕ) (d : ChunkRec) → j < length rs → chunk_holds agino (get_or rs j d) ≡ false)
    → map (where_held agino change) rs ≡ rs
untouched [] agino change none = refl
untouched (r ∷ rs) agino change none =
    (λ i. cond-false (chunk_holds agino r) (change r) r (none 0 r (omega arith)) i ∷ untouched rs agino change (λ j d low. none (suc j) d (omega arith)) i)

pub behind : (r : ChunkRec) (rs : List ChunkRec) (agino : ℕ) → IsLeaf (r ∷ rs) → chunk_holds agino r ≡ true → (j : ℕ) (d : ChunkRec) → j < length rs → chunk_holds agino (get_or rs j d) ≡ false
behind r rs agino leaf held j d low =
    let h = held_by agino r held in
    let up = head_below r rs j d leaf low in
    let mine = (head_record r rs leaf).aligned in
    let other = (All-get_or IsChunkRecord rs j d low (tail_leaf r rs leaf).each).aligned in
    let high = h.1 in
    false_from_ne_true (chunk_holds agino (get_or rs j d)) (λ also. let a = (held_by agino (get_or rs j d) also).0 in omega arith)

-- the records after an inode of a chunk came to be in use, or ceased to be
changed_records : (change : ChunkRec → ChunkRec) (old new : Inode) (cs : Group) (agino : ℕ) → IsLeaf (map chunk_record cs) → inode_in cs agino ≡ Some old
    → ((c : Chunk) → IsChunkRecord (chunk_record c) → c.start ≡ start_of agino → slice_get c.inodes (agino % 64) ≡ Some old → chunk_record (with_inodes c (slice_set c.inodes (agino % 64) new)) ≡ change (chunk_record c))
    → map chunk_record (set_inode cs agino new) ≡ map (where_held agino change) (map chunk_record cs)
unfolding inode_in set_inode
changed_records change old new [] agino leaf at one = refl
changed_records change old new (c ∷ cs) agino leaf at one =
    let r : ChunkRec = chunk_record c in
    let rs : List ChunkRec = map chunk_record cs in
    let is_record = head_record r rs leaf in
    let own = chunk_held agino c is_record in
    elim (eqb c.start (start_of agino)) as (λ t. eqb c.start (start_of agino) ≡ t → cond t (slice_get c.inodes (agino % CHUNK_INODES)) (inode_in cs agino) ≡ Some old
    → map chunk_record (cond t (with_inodes c (slice_set c.inodes (agino % CHUNK_INODES) new) ∷ cs) (c ∷ set_inode cs agino new)) ≡ where_held agino change r ∷ map (where_held agino change) rs) [
      | true ↦ λ is here.
          let held : chunk_holds agino r ≡ true = own ∙ is in
          (λ i. (one c is_record (eqb-true c.start (start_of agino) is) here ∙ sym (cond-true (chunk_holds agino r) (change r) r held)) i
          ∷ sym (untouched rs agino change (behind r rs agino leaf held)) i)
      | false ↦ λ is here.
          (λ i. sym (cond-false (chunk_holds agino r) (change r) r (own ∙ is)) i ∷ changed_records change old new cs agino (tail_leaf r rs leaf) here one i)
    ] refl at

pub taken_records : (cs : Group) (agino : ℕ) (old new : Inode) → IsLeaf (map chunk_record cs) → inode_in cs agino ≡ Some old → unused old ≡ true → unused new ≡ false
    → map chunk_record (set_inode cs agino new) ≡ map (where_held agino (after_take agino)) (map chunk_record cs)
taken_records cs agino old new leaf at free busy = changed_records (after_take agino) old new cs agino leaf at (λ c is same here. taken_record c agino old new is same here free busy)

pub given_records : (cs : Group) (agino : ℕ) (old new : Inode) → IsLeaf (map chunk_record cs) → inode_in cs agino ≡ Some old → unused old ≡ false → unused new ≡ true
    → map chunk_record (set_inode cs agino new) ≡ map (where_held agino (after_give agino)) (map chunk_record cs)
given_records cs agino old new leaf at busy free = changed_records (after_give agino) old new cs agino leaf at (λ c is same here. given_record c agino old new same here busy free)

pub kept_records : (cs : Group) (agino : ℕ) (old new : Inode) → inode_in cs agino ≡ Some old → unused new ≡ unused old → map chunk_record (set_inode cs agino new) ≡ map chunk_record cs
unfolding inode_in set_inode
kept_records [] agino old new at same = refl
kept_records (c ∷ cs) agino old new at same =
    elim (eqb c.start (start_of agino)) as (λ t. cond t (slice_get c.inodes (agino % CHUNK_INODES)) (inode_in cs agino) ≡ Some old
    → map chunk_record (cond t (with_inodes c (slice_set c.inodes (agino % CHUNK_INODES) new) ∷ cs) (c ∷ set_inode cs agino new)) ≡ chunk_record c ∷ map chunk_record cs) [
      | true ↦ λ here. ap (λ (r : ChunkRec). r ∷ map chunk_record cs) (kept_record c (agino % 64) old new here same)
      | false ↦ λ here. ap (λ (rs : List ChunkRec). chunk_record c ∷ rs) (kept_records cs agino old new here same)
    ] at

-- ---- one chunk more

whole_is : (start : ℕ) → chunk_record (record { start = start; inodes = replicate 64 (record { generation = 1; row = None }) }) ≡ whole_chunk start
unfolding chunk_record mask_of free_count
whole_is start = refl

pub new_start : (block : ℕ) → (new_chunk block).start ≡ 8 * block
unfolding new_chunk
new_start block = omega arith

new_is_whole : (block : ℕ) → chunk_record (new_chunk block) ≡ whole_chunk (8 * block)
unfolding new_chunk
new_is_whole block = whole_is (block * 8) ∙ ap whole_chunk (omega arith)

-- no chunk starts there
abbrev pub IsAbsent : Group → ℕ → Type 0
IsAbsent cs start = (k : ℕ) (c : Chunk) → slice_get cs k ≡ Some c → c.start ≢ start

all_above : (start : ℕ) (rs : List ChunkRec) → ((j : ℕ) (d : ChunkRec) → j < length rs → start < (get_or rs j d).start)
    → (filter (λ (c : ChunkRec). nat_lt c.start start) rs ≡ []) × (filter (λ (c : ChunkRec). nat_lt start c.start) rs ≡ rs)
all_above start [] above = (refl, refl)
all_above start (r ∷ rs) above =
    let here = above 0 r (omega arith) in
    let rest = all_above start rs (λ j d low. above (suc j) d (omega arith)) in (
      cond-false (nat_lt r.start start) _ _ (le-ltb r.start start (omega (arith, here))) ∙ rest.0,
      cond-true (nat_lt start r.start) _ _ (lt-ltb start r.start here) ∙ ap (λ (xs : List ChunkRec). r ∷ xs) rest.1,
    )

above_head : (start : ℕ) (r : ChunkRec) (rs : List ChunkRec) (j : ℕ) (d : ChunkRec) → IsLeaf (r ∷ rs) → j < length (r ∷ rs) → start < r.start → start < (get_or (r ∷ rs) j d).start
above_head start r rs zero d leaf low first = first
above_head start r rs (suc j) d leaf low first = omega (arith, first, head_below r rs j d leaf (omega arith))

pub added_records : (cs : Group) (block : ℕ) → IsLeaf (map chunk_record cs) → IsAbsent cs (8 * block)
    → map chunk_record (insert_chunk (new_chunk block) cs) ≡ with_whole_chunk (8 * block) (map chunk_record cs)
unfolding insert_chunk
added_records [] block leaf absent = ap (λ (r : ChunkRec). r ∷ []) (new_is_whole block)
added_records (c ∷ cs) block leaf absent =
    let new : Chunk = new_chunk block in
    let start : ℕ = 8 * block in
    let r : ChunkRec = chunk_record c in
    let rs : List ChunkRec = map chunk_record cs in
    let at = new_start block in
    let own = record_start c in
    let front : List ChunkRec → List ChunkRec = λ xs. filter (λ (d : ChunkRec). nat_lt d.start start) xs in
    let back : List ChunkRec → List ChunkRec = λ xs. filter (λ (d : ChunkRec). nat_lt start d.start) xs in
    elim (cases_lt new.start c.start) [
      | inl before ↦
          let whole = all_above start (r ∷ rs) (λ j d low. above_head start r rs j d leaf low (omega (arith, before, at, own))) in
          ap (map chunk_record) (cond-true (nat_lt new.start c.start) (new ∷ c ∷ cs) (c ∷ insert_chunk new cs) (lt-ltb new.start c.start before))
          ∙ (λ i. new_is_whole block i ∷ r ∷ rs) ∙ (λ i. sym whole.0 i ++ whole_chunk start ∷ sym whole.1 i)
      | inr past ↦
          let apart : c.start ≢ start = absent 0 c refl in
          let below : r.start < start = omega (arith, past, at, own, apart) in
          let first : front (r ∷ rs) ≡ r ∷ front rs = cond-true (nat_lt r.start start) (r ∷ front rs) (front rs) (lt-ltb r.start start below) in
          let last : back (r ∷ rs) ≡ back rs = cond-false (nat_lt start r.start) (r ∷ back rs) (back rs) (le-ltb start r.start (omega (arith, below))) in
          ap (map chunk_record) (cond-false (nat_lt new.start c.start) (new ∷ c ∷ cs) (c ∷ insert_chunk new cs) (le-ltb new.start c.start past))
          ∙ ap (λ (xs : List ChunkRec). r ∷ xs) (added_records cs block (tail_leaf r rs leaf) (λ k d e. absent (suc k) d e))
          ∙ (λ i. sym first i ++ whole_chunk start ∷ sym last i)
    ]

-- the first inode of a chunk that is added
new_first : (block : ℕ) → block % 8 ≡ 0 → (rest : Option Inode)
    → cond (eqb (new_chunk block).start (start_of (8 * block))) (slice_get (new_chunk block).inodes (8 * block % CHUNK_INODES)) rest ≡ Some (record { generation = 1; row = None })
unfolding new_chunk
new_first block aligned rest =
    let here : block * 8 ≡ start_of (8 * block) = omega (arith, aligned) in
    let first : 8 * block % 64 ≡ 0 = omega (arith, aligned) in
    cond-true (eqb (block * 8) (start_of (8 * block))) _ rest (eq-eqb (block * 8) (start_of (8 * block)) here)
    ∙ ap (λ (i : ℕ). slice_get (replicate 64 (record { generation = 1; row = None })) i) first

-- its first number
pub added_inode : (cs : Group) (block : ℕ) → block % 8 ≡ 0 → IsAbsent cs (8 * block) → inode_in (insert_chunk (new_chunk block) cs) (8 * block) ≡ Some (record { generation = 1; row = None })
unfolding inode_in insert_chunk
added_inode [] block aligned absent = new_first block aligned (inode_in [] (8 * block))
added_inode (c ∷ cs) block aligned absent =
    let start : ℕ = 8 * block in
    let whole : start_of start ≡ start = omega (arith, aligned) in
    elim (nat_lt (new_chunk block).start c.start) as (λ t. inode_in (cond t (new_chunk block ∷ c ∷ cs) (c ∷ insert_chunk (new_chunk block) cs)) start ≡ Some (record { generation = 1; row = None })) [
      | true ↦ new_first block aligned (inode_in (c ∷ cs) start)
      | false ↦
          cond-false (eqb c.start (start_of start)) (slice_get c.inodes (start % CHUNK_INODES)) (inode_in (insert_chunk (new_chunk block) cs) start)
          (ne_eqb c.start (start_of start) (λ e. absent 0 c refl (e ∙ whole)))
          ∙ added_inode cs block aligned (λ k d e. absent (suc k) d e)
    ]
