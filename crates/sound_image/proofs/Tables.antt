-- The table of a sound image is well formed.
use Rattle.std.proofs.Common.{◌≡◌, ◌≢◌, ◌<◌, ◌≤◌, ◌+◌, ◌/◌, ◌%◌, ◌⊎◌, ℕ, zero, suc, Bool, true, false, cond, eqb, List, [], ◌∷◌, Some, length, map, get_or, inl, inr, refl, ap, sym, subst, ◌∙◌, arith}
use Rattle.std.specs.List.{range_with_len, AllByRecursion, AllPairs, slice_get}
use Rattle.std.proofs.lemmas.Bool.{cases_lt, cond-false, ne_eqb}
use Rattle.std.proofs.lemmas.List.{length-map, get_or-map}
use Rattle.std.proofs.lemmas.List.Elements.{All-from_recursion, recursion_from_All}
use Rattle.std.proofs.lemmas.List.FromFn.{length-map-range_with_len, get_or-map-range_with_len}
use Rattle.std.proofs.lemmas.Option.{slice_get-get_or, slice_get_within}
use Rattle.life_bytes.specs.declared.sector.Sector.{Sector}
use Rattle.geometry.specs.declared.shape.Geometry.{Geometry}
use Rattle.geometry.specs.Shape.{IsGeometry}
use Rattle.inobt_leaf.specs.declared.chunk.ChunkRec.{ChunkRec}
use Rattle.inobt_leaf.specs.Chunks.{IsLeaf}
use Rattle.life_table.specs.declared.table.Inode.{Inode}
use Rattle.life_table.specs.declared.table.Chunk.{Chunk}
use Rattle.life_table.specs.Table.{Group, inode_in}
use Rattle.life_table.specs.Space.{times, chunk_blocks, row_blocks, inode_blocks, used}
use Rattle.life_table.specs.WellFormed.{IsInode, IsChunk, ChunksAscend, IsDataBlock, IsGroup, IsTable}
use Rattle.sound_image.specs.Reading.{records_of, inode_read, chunk_read, group_read, rows_of}
use Rattle.sound_image.specs.Rules.{IsPageRight}
use Rattle.sound_image.specs.Damage.{tree, core, fork, blocks, AreGroupsSound}
use Rattle.sound_image.proofs.Found.{IsGood, is_good, in_ranges, row_data, row_once, row_not_chunk, two_rows}
use Rattle.sound_image.proofs.Groups.{times-cons, times-nil, used_first, inode_first}
use Rattle.sound_image.proofs.Leaves.{below_later, no_chunk}
use Rattle.sound_image.proofs.Ready.{Lower}
use Rattle.sound_image.proofs.Rows.{IsAligned, in_chunk}

-- ---- the blocks of a list of inodes

record In (b : ℕ) (xs : List Inode) : Type 0 where
  index : ℕ
  inode : Inode
  at : slice_get xs index ≡ Some inode
  some : 1 ≤ times b (row_blocks inode.row)

inodes_some : (b : ℕ) (xs : List Inode) → 1 ≤ times b (inode_blocks xs) → In b xs
unfolding inode_blocks
inodes_some b [] some = absurd (omega (arith, times-nil b))
inodes_some b (x ∷ xs) some =
    elim (cases_lt 0 (times b (row_blocks x.row))) [
      | inl here ↦ record { index = 0; inode = x; at = refl; some = here }
      | inr none ↦
          let later = inodes_some b xs (omega (arith, some, none, inode_first b x xs)) in
          record { index = suc later.index; inode = later.inode; at = later.at; some = later.some }
    ]

abbrev Apart : ℕ → List Inode → Type 0
Apart b xs = (i j : ℕ) (x y : Inode) → i < j → slice_get xs i ≡ Some x → slice_get xs j ≡ Some y → 1 ≤ times b (row_blocks x.row) → 1 ≤ times b (row_blocks y.row) → ⊥

inodes_once : (b : ℕ) (xs : List Inode) → ((i : ℕ) (x : Inode) → slice_get xs i ≡ Some x → times b (row_blocks x.row) ≤ 1) → Apart b xs → times b (inode_blocks xs) ≤ 1
unfolding inode_blocks
inodes_once b [] one apart = omega (arith, times-nil b)
inodes_once b (x ∷ xs) one apart =
    let rest = inodes_once b xs (λ i. one (suc i)) (λ i j y z lt. apart (suc i) (suc j) y z (omega arith)) in
    let first = one 0 x refl in
    elim (cases_lt 0 (times b (row_blocks x.row))) [
      | inl here ↦ elim (cases_lt 0 (times b (inode_blocks xs))) [
        | inl later ↦ let p = inodes_some b xs later in absurd (apart 0 (suc p.index) x p.inode (omega arith) refl p.at here p.some)
        | inr none ↦ omega (arith, inode_first b x xs, none, first)
      ]
      | inr none ↦ omega (arith, inode_first b x xs, none, rest)
    ]

-- ---- the blocks of a list of chunks

record Within (b : ℕ) (cs : Group) : Type 0 where
  index : ℕ
  within : index < length cs
  where_in : (1 ≤ times b (chunk_blocks (get_or cs index no_chunk))) ⊎ (In b (get_or cs index no_chunk).inodes)

used_some : (b : ℕ) (cs : Group) → 1 ≤ times b (used cs) → Within b cs
unfolding used
used_some b [] some = absurd (omega (arith, times-nil b))
used_some b (c ∷ cs) some =
    elim (cases_lt 0 (times b (chunk_blocks c))) [
      | inl here ↦ record { index = 0; within = omega arith; where_in = inl here }
      | inr none ↦ elim (cases_lt 0 (times b (inode_blocks c.inodes))) [
        | inl row ↦ record { index = 0; within = omega arith; where_in = inr (inodes_some b c.inodes row) }
        | inr no_row ↦
            let later = used_some b cs (omega (arith, some, none, no_row, used_first b c cs)) in
            let within = later.within in
            record { index = suc later.index; within = omega arith; where_in = later.where_in }
      ]
    ]

-- what is known of each chunk of a group
record Fact (group : Group) (c : Chunk) : Type 0 where
  held : (i : ℕ) → i < 64 → inode_in group (c.start + i) ≡ slice_get c.inodes i
  whole : length c.inodes ≡ 64
  even : c.start % 64 ≡ 0
  apart : (b agino : ℕ) (x : Inode) → inode_in group agino ≡ Some x → 1 ≤ times b (row_blocks x.row) → 1 ≤ times b (chunk_blocks c) → ⊥

-- and of its rows
record Rows (group : Group) : Type 0 where
  once : (b agino : ℕ) (x : Inode) → inode_in group agino ≡ Some x → times b (row_blocks x.row) ≤ 1
  apart : (b agino other : ℕ) (x y : Inode) → agino ≢ other → inode_in group agino ≡ Some x → inode_in group other ≡ Some y
      → 1 ≤ times b (row_blocks x.row) → 1 ≤ times b (row_blocks y.row) → ⊥

one_or_none : (t : Bool) → cond {A = ℕ} t 1 0 ≤ 1
one_or_none true = omega arith
one_or_none false = omega arith

range_once : (b s n : ℕ) → times b (range_with_len s n) ≤ 1
range_once b s zero = omega (arith, times-nil b)
range_once b s (suc n) =
    elim (cases_lt 0 (times b (range_with_len (s + 1) n))) [
      | inl later ↦
          let range = in_ranges b (s + 1) n later in
          let other : cond {A = ℕ} (eqb b s) 1 0 ≡ 0 = cond-false (eqb b s) 1 0 (ne_eqb b s (λ e. omega (arith, e, range.0))) in
          omega (arith, times-cons b s (range_with_len (s + 1) n), range_once b (s + 1) n, other)
      | inr none ↦ omega (arith, times-cons b s (range_with_len (s + 1) n), none, one_or_none (eqb b s))
    ]

chunk_once : (b : ℕ) (c : Chunk) → times b (chunk_blocks c) ≤ 1
unfolding chunk_blocks
chunk_once b c = range_once b (c.start / 8) 8

chunk_range : (b : ℕ) (c : Chunk) → 1 ≤ times b (chunk_blocks c) → (c.start / 8 ≤ b) × (b < c.start / 8 + 8)
unfolding chunk_blocks
chunk_range b c some = in_ranges b (c.start / 8) 8 some

-- the chunks of a group share no block
chunks_apart : (b : ℕ) (c d : Chunk) → c.start % 64 ≡ 0 → d.start % 64 ≡ 0 → c.start < d.start → 1 ≤ times b (chunk_blocks c) → 1 ≤ times b (chunk_blocks d) → ⊥
chunks_apart b c d even other lt here there =
    let p = chunk_range b c here in
    let q = chunk_range b d there in
    omega (arith, p.0, p.1, q.0, q.1)

at_most_one : (a b c : ℕ) → a ≤ 1 → b ≤ 1 → c ≤ 1 → (1 ≤ a → 1 ≤ b → ⊥) → (1 ≤ a → 1 ≤ c → ⊥) → (1 ≤ b → 1 ≤ c → ⊥) → (a + b) + c ≤ 1
at_most_one a b c p q r ab ac bc =
    elim (cases_lt 0 a) [
      | inl some ↦ elim (cases_lt 0 b) [
        | inl other ↦ absurd (ab some other)
        | inr no_b ↦ elim (cases_lt 0 c) [ inl other ↦ absurd (ac some other) | inr no_c ↦ omega arith ]
      ]
      | inr no_a ↦ elim (cases_lt 0 b) [
        | inl some ↦ elim (cases_lt 0 c) [ inl other ↦ absurd (bc some other) | inr no_c ↦ omega arith ]
        | inr no_b ↦ omega arith
      ]
    ]

-- an inode of a chunk
in_fact : (group : Group) (b : ℕ) (c : Chunk) (p : In b c.inodes) → Fact group c → inode_in group (c.start + p.index) ≡ Some p.inode
in_fact group b c p fact =
    let lt = slice_get_within c.inodes p.index p.inode p.at in
    fact.held p.index (omega (arith, lt, fact.whole)) ∙ p.at

in_low : (group : Group) (b : ℕ) (c : Chunk) (p : In b c.inodes) → Fact group c → p.index < 64
in_low group b c p fact = let lt = slice_get_within c.inodes p.index p.inode p.at in omega (arith, lt, fact.whole)

one_chunk : (group : Group) (b : ℕ) (c : Chunk) → Fact group c → Rows group → times b (inode_blocks c.inodes) ≤ 1
one_chunk group b c fact rows =
    inodes_once b c.inodes
    (λ i x e. let lt = slice_get_within c.inodes i x e in rows.once b (c.start + i) x (fact.held i (omega (arith, lt, fact.whole)) ∙ e))
    (λ i j x y lt e f some there.
    let p = slice_get_within c.inodes i x e in
    let q = slice_get_within c.inodes j y f in
    rows.apart b (c.start + i) (c.start + j) x y (λ same. omega (arith, same, lt)) (fact.held i (omega (arith, p, fact.whole)) ∙ e) (fact.held j (omega (arith, q, fact.whole)) ∙ f) some there)

used_once : (group : Group) (b : ℕ) (cs : Group) → Rows group → AllByRecursion (Fact group) cs → ChunksAscend cs → times b (used cs) ≤ 1
unfolding used
used_once group b [] rows facts up = omega (arith, times-nil b)
used_once group b (c ∷ cs) rows facts up =
    let fact = facts.0 in
    let sum = at_most_one (times b (chunk_blocks c)) (times b (inode_blocks c.inodes)) (times b (used cs)) (chunk_once b c) (one_chunk group b c fact rows) (used_once group b cs rows facts.1 up.1)
    (λ here row. let p = inodes_some b c.inodes row in fact.apart b (c.start + p.index) p.inode (in_fact group b c p fact) p.some here)
    (λ here there. chunk_later (used_some b cs there) here)
    (λ row there. row_later (used_some b cs there) (inodes_some b c.inodes row)) in
    omega (arith, used_first b c cs, sum)
  where
    later_fact : (k : ℕ) → k < length cs → Fact group (get_or cs k no_chunk)
    later_fact k lt = All-from_recursion (Fact group) cs facts.1 k no_chunk lt

    chunk_later : Within b cs → 1 ≤ times b (chunk_blocks c) → ⊥
    chunk_later w here =
        let d : Chunk = get_or cs w.index no_chunk in
        let other = later_fact w.index w.within in
        elim w.where_in [
          | inl there ↦ chunks_apart b c d facts.0.even other.even (below_later c.start cs w.index no_chunk up.0 w.within) here there
          | inr p ↦ facts.0.apart b (d.start + p.index) p.inode (in_fact group b d p other) p.some here
        ]

    row_later : Within b cs → In b c.inodes → ⊥
    row_later w p =
        let d : Chunk = get_or cs w.index no_chunk in
        let other = later_fact w.index w.within in
        let above = below_later c.start cs w.index no_chunk up.0 w.within in
        elim w.where_in [
          | inl there ↦ other.apart b (c.start + p.index) p.inode (in_fact group b c p facts.0) p.some there
          | inr q ↦
              let low = in_low group b c p facts.0 in
              rows.apart b (c.start + p.index) (d.start + q.index) p.inode q.inode (λ same. omega (arith, same, above, facts.0.even, other.even, low))
              (in_fact group b c p facts.0) (in_fact group b d q other) p.some q.some
        ]

-- ---- the group that is read

pub start_read : (g : Geometry) (image : List Sector) (group : ℕ) (r : ChunkRec) → (chunk_read g image group r).start ≡ r.start
unfolding chunk_read
start_read g image group r = refl

length_read : (g : Geometry) (image : List Sector) (group : ℕ) (r : ChunkRec) → length (chunk_read g image group r).inodes ≡ 64
unfolding chunk_read
length_read g image group r = length-map-range_with_len (inode_read g image group r) 0 64

pub group_is_map : (g : Geometry) (image : List Sector) (group : ℕ) → group_read g image group ≡ map (chunk_read g image group) (records_of g image group)
unfolding group_read
group_is_map g image group = refl

abbrev pub no_record : ChunkRec
no_record = record { start = 0; free = 0; mask = 0 }

pub length_group : (g : Geometry) (image : List Sector) (group : ℕ) → length (group_read g image group) ≡ length (records_of g image group)
length_group g image group = ap length (group_is_map g image group) ∙ length-map (records_of g image group) (chunk_read g image group)

pub chunk_at : (g : Geometry) (image : List Sector) (group k : ℕ) (d : Chunk) → k < length (records_of g image group)
    → get_or (group_read g image group) k d ≡ chunk_read g image group (get_or (records_of g image group) k no_record)
chunk_at g image group k d lt =
    ap (λ (cs : Group). get_or cs k d) (group_is_map g image group) ∙ get_or-map (chunk_read g image group) (records_of g image group) k no_record d lt

all_later : (f : ChunkRec → Chunk) → ((r : ChunkRec) → (f r).start ≡ r.start) → (start : ℕ) (rs : List ChunkRec) → ((j : ℕ) (d : ChunkRec) → j < length rs → start < (get_or rs j d).start)
    → AllByRecursion (λ (later : Chunk). start < later.start) (map f rs)
all_later f same start [] each = tt
all_later f same start (r ∷ rs) each = (omega (arith, same r, each 0 r (omega arith)), all_later f same start rs (λ j d lt. each (suc j) d (omega arith)))

ascends_map : (f : ChunkRec → Chunk) → ((r : ChunkRec) → (f r).start ≡ r.start) → (rs : List ChunkRec) → AllPairs (λ (a b : ChunkRec). a.start < b.start) rs → ChunksAscend (map f rs)
ascends_map f same [] pairs = tt
ascends_map f same (r ∷ rs) pairs = (
  subst (λ (start : ℕ). AllByRecursion (λ (later : Chunk). start < later.start) (map f rs)) (sym (same r))
      (all_later f same r.start rs (λ j d lt. pairs 0 (suc j) d (omega arith) (omega arith))),
  ascends_map f same rs (λ i j d lt within. pairs (suc i) (suc j) d (omega arith) (omega arith)),
)

pub ascends_read : (g : Geometry) (image : List Sector) (group : ℕ) → IsLeaf (records_of g image group) → ChunksAscend (group_read g image group)
ascends_read g image group leaf =
    subst ChunksAscend (sym (group_is_map g image group)) (ascends_map (chunk_read g image group) (start_read g image group) (records_of g image group) leaf.ascends)

even_read : (g : Geometry) (image : List Sector) (group : ℕ) → IsLeaf (records_of g image group) → (k : ℕ) (d : Chunk) → k < length (group_read g image group)
    → (get_or (group_read g image group) k d).start % 64 ≡ 0
even_read g image group leaf k d lt =
    let within : k < length (records_of g image group) = omega (arith, lt, length_group g image group) in
    let record_even = (leaf.each k no_record within).aligned in
    ap (λ (c : Chunk). c.start % 64) (chunk_at g image group k d within) ∙ ap (λ (n : ℕ). n % 64) (start_read g image group (get_or (records_of g image group) k no_record)) ∙ record_even

pub aligned_read : (g : Geometry) (image : List Sector) (group : ℕ) → IsLeaf (records_of g image group) → AllByRecursion IsAligned (group_read g image group)
aligned_read g image group leaf = recursion_from_All IsAligned (group_read g image group) (even_read g image group leaf)

whole_read : (g : Geometry) (image : List Sector) (group k : ℕ) (d : Chunk) → k < length (group_read g image group) → length (get_or (group_read g image group) k d).inodes ≡ 64
whole_read g image group k d lt =
    let within : k < length (records_of g image group) = omega (arith, lt, length_group g image group) in
    ap (λ (c : Chunk). length c.inodes) (chunk_at g image group k d within) ∙ length_read g image group (get_or (records_of g image group) k no_record)

pub held_read : (g : Geometry) (image : List Sector) (group k i : ℕ) (d : Chunk) → IsLeaf (records_of g image group) → k < length (group_read g image group) → i < 64
    → inode_in (group_read g image group) ((get_or (group_read g image group) k d).start + i) ≡ slice_get (get_or (group_read g image group) k d).inodes i
held_read g image group k i d leaf lt low = in_chunk (group_read g image group) k i d (ascends_read g image group leaf) (aligned_read g image group leaf) lt low

facts_read : (g : Geometry) (image : List Sector) (group : ℕ) → IsGood g image group → IsLeaf (records_of g image group) → AllByRecursion (Fact (group_read g image group)) (group_read g image group)
facts_read g image group good leaf =
    recursion_from_All (Fact (group_read g image group)) (group_read g image group) (λ k d lt. record {
      held = λ i low. held_read g image group k i d leaf lt low;
      whole = whole_read g image group k d lt;
      even = even_read g image group leaf k d lt;
      apart = λ b agino x e some there. row_not_chunk g image group agino b x k d good e some lt there;
    })

rows_read : (g : Geometry) (image : List Sector) (group : ℕ) → IsGood g image group → Rows (group_read g image group)
rows_read g image group good = record {
  once = λ b agino x e. row_once g image group agino b x good e;
  apart = λ b agino other x y ne e f. two_rows g image group agino other b x y good ne e f;
}

chunk_right : (l : Lower) (g : Geometry) (image : List Sector) (group : ℕ) → IsGood g image group → IsLeaf (records_of g image group) → AllByRecursion IsChunk (group_read g image group)
chunk_right l g image group good leaf =
    recursion_from_All IsChunk (group_read g image group) (λ k d lt.
    let c : Chunk = get_or (group_read g image group) k d in
    let whole = whole_read g image group k d lt in
    record {
      start = even_read g image group leaf k d lt;
      whole = whole;
      inodes = recursion_from_All IsInode c.inodes (λ i e low.
          is_good l g image group (c.start + i) (get_or c.inodes i e) good (held_read g image group k i d leaf lt (omega arith) ∙ slice_get-get_or c.inodes i e low));
    })

data_read : (g : Geometry) (image : List Sector) (group : ℕ) → IsGood g image group → IsPageRight g image group → (b : ℕ) → 1 ≤ times b (used (group_read g image group)) → IsDataBlock g.blocks b
data_read g image group good page b some =
    let chunks = group_read g image group in
    let w = used_some b chunks some in
    let c : Chunk = get_or chunks w.index no_chunk in
    elim w.where_in [
      | inl here ↦
          let within : w.index < length (records_of g image group) = omega (arith, w.within, length_group g image group) in
          let r : ChunkRec = get_or (records_of g image group) w.index no_record in
          let same : c.start ≡ r.start = ap (λ (c : Chunk). c.start) (chunk_at g image group w.index no_chunk within) ∙ start_read g image group r in
          let range = chunk_range b c here in
          let in_data = page.in_data w.index no_record within in
          (omega (arith, same, range.0, in_data.0), omega (arith, same, range.1, in_data.1))
      | inr p ↦
          let fact = All-from_recursion (Fact chunks) chunks (facts_read g image group good page.leaf) w.index no_chunk w.within in
          row_data g image group (c.start + p.index) b p.inode good (in_fact chunks b c p fact) p.some
    ]

pub group_right : (l : Lower) (g : Geometry) (image : List Sector) (group : ℕ) → IsGood g image group → IsPageRight g image group → IsGroup g.blocks (group_read g image group)
group_right l g image group good page = record {
  few = omega (arith, length_group g image group, page.leaf.few);
  ascends = ascends_read g image group page.leaf;
  chunks = chunk_right l g image group good page.leaf;
  data_blocks = data_read g image group good page;
  once = λ b. used_once (group_read g image group) b (group_read g image group) (rows_read g image group good) (facts_read g image group good page.leaf) (ascends_read g image group page.leaf);
}

-- ---- the table

pub good_group : (g : Geometry) (image : List Sector) (group : ℕ) → AreGroupsSound g image → group < g.groups → IsGood g image group
good_group g image group sound lt = record { cores = sound core group lt; forks = sound fork group lt; alone = sound blocks group lt }

pub table_right : (l : Lower) (g : Geometry) (image : List Sector) → IsGeometry g → AreGroupsSound g image → IsTable (rows_of g image)
unfolding rows_of
table_right l g image is sound =
    let f : ℕ → Group = group_read g image in
    let many : length (map f (range_with_len 0 g.groups)) ≡ g.groups = length-map-range_with_len f 0 g.groups in
    record {
      version = is.version;
      least = is.blocks.0;
      most = is.blocks.1;
      some = omega (arith, many, is.groups.0);
      many = omega (arith, many, is.groups.1);
      groups = recursion_from_All (IsGroup g.blocks) (map f (range_with_len 0 g.groups)) (λ group d low.
          let lt : group < g.groups = omega (arith, low, many) in
          subst (IsGroup g.blocks) (sym (get_or-map-range_with_len f 0 g.groups group group d lt (omega arith)))
          (group_right l g image group (good_group g image group sound lt) (sound tree group lt).0));
    }
