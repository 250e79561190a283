-- The chunks of a group, one after the other.
use Rattle.std.proofs.Common.{◌≡◌, ◌<◌, ◌≤◌, ◌+◌, ◌/◌, ℕ, zero, suc, List, Option, None, Some, All, length, get_or, map, slice_get, inl, inr, refl, ap, sym, subst, ◌∙◌, arith, ◌⊎◌}
use Rattle.std.specs.List.{range_with_len}
use Rattle.std.proofs.lemmas.Bool.{cases_lt}
use Rattle.std.proofs.lemmas.List.{get_or-map, length-map}
use Rattle.std.proofs.lemmas.List.Elements.{All-map}
use Rattle.std.proofs.lemmas.Option.{slice_get_within, get_or_from_slice_get, slice_get-get_or}
use Rattle.life_bytes.specs.declared.sector.Sector.{Sector}
use Rattle.geometry.specs.declared.shape.Geometry.{Geometry}
use Rattle.inobt_leaf.specs.declared.chunk.ChunkRec.{ChunkRec}
use Rattle.inobt_leaf.specs.Chunks.{IsLeaf}
use Rattle.life_table.specs.declared.table.Inode.{Inode}
use Rattle.life_table.specs.declared.table.Chunk.{Chunk}
use Rattle.life_table.specs.Space.{chunk_blocks}
use Rattle.sound_image.specs.Reading.{inode_at, inode_read, records_of, group_read, chunk_read, IsOfChunk}
use Rattle.sound_image.specs.Rules.{IsIn}
use Rattle.image_rules.specs.Gathered.{IsNextChunk, InNoChunk}
use Rattle.image_rules.specs.Taking.{Misses}
use Rattle.image_rules.proofs.Blocking.{in_range}
use Rattle.image_rules.proofs.Gathering.{In-All, range_has}

abbrev pub blank : ChunkRec
blank = record { start = 0; free = 0; mask = 0 }

-- where the inodes of the first chunks end
pub bound_at : List ChunkRec → ℕ → ℕ
bound_at chunks zero = 0
bound_at chunks (suc i) = (get_or chunks i blank).start + 64

pub bound_none : (chunks : List ChunkRec) → bound_at chunks 0 ≡ 0
unfolding bound_at
bound_none chunks = refl

pub bound_more : (chunks : List ChunkRec) (i : ℕ) → bound_at chunks (i + 1) ≡ (get_or chunks i blank).start + 64
unfolding bound_at
bound_more chunks i = let e : i + 1 ≡ suc i = omega arith in ap (bound_at chunks) e

-- chunks stand apart
apart : (chunks : List ChunkRec) (i j : ℕ) → IsLeaf chunks → i < j → j < length chunks → (get_or chunks i blank).start + 64 ≤ (get_or chunks j blank).start
apart chunks i j leaf lt low =
    let a = leaf.each i blank (omega arith) in
    let b = leaf.each j blank low in
    let up : (get_or chunks i blank).start < (get_or chunks j blank).start = leaf.ascends i j blank lt low in
    omega (arith, a.aligned, b.aligned, up)

pub bound_below : (chunks : List ChunkRec) (i j : ℕ) → IsLeaf chunks → i ≤ j → j < length chunks → bound_at chunks i ≤ (get_or chunks j blank).start
unfolding bound_at
bound_below chunks zero j leaf le low = omega arith
bound_below chunks (suc i) j leaf le low = apart chunks i j leaf (omega arith) low

-- the inodes of the first chunks are below their end
pub below_bound : (chunks : List ChunkRec) (p n k : ℕ) → IsLeaf chunks → p < n → n ≤ length chunks → k < 64 → (get_or chunks p blank).start + k < bound_at chunks n
unfolding bound_at
below_bound chunks p zero k leaf lt le low = absurd (omega arith)
below_bound chunks p (suc n) k leaf lt le low =
    elim (cases_lt p n) [
      | inl l ↦ let far = apart chunks p n leaf l (omega arith) in omega arith
      | inr ge ↦ let e : p ≡ n = omega arith in let same = ap (λ (q : ℕ). (get_or chunks q blank).start) e in omega arith
    ]

pub none_or_some : {A : Type 0} (o : Option A) → (o ≡ None) ⊎ ((x : A) × o ≡ Some x)
none_or_some None = inl refl
none_or_some (Some x) = inr (x, refl)

-- what the law says of each inode of a group
abbrev pub Only : Geometry → List Sector → ℕ → Type 0
Only g image group = (agino : ℕ) (inode : Inode) → inode_at g image group agino ≡ Some inode → IsOfChunk g image group agino inode

abbrev pub Each : Geometry → List Sector → ℕ → Type 0
Each g image group = (k i : ℕ) (chunk : ChunkRec) → IsLeaf (records_of g image group) → slice_get (records_of g image group) k ≡ Some chunk → i < 64 → inode_at g image group (chunk.start + i) ≡ Some (inode_read g image group chunk i)

-- an inode of the group is one of a chunk, at its place
pub at_place : (g : Geometry) (image : List Sector) (group agino : ℕ) (inode : Inode) (chunks : List ChunkRec) → records_of g image group ≡ chunks → IsOfChunk g image group agino inode
    → (p : ℕ) × (k : ℕ) × (p < length chunks) × (k < 64) × (agino ≡ (get_or chunks p blank).start + k)
at_place g image group agino inode chunks same of =
    let held = ap (λ (cs : List ChunkRec). slice_get cs of.place) (sym same) ∙ of.held in
    let at = get_or_from_slice_get chunks of.place of.chunk blank held in
    (of.place, of.index, slice_get_within chunks of.place of.chunk held, of.low, of.number ∙ ap (λ (c : ChunkRec). c.start + of.index) (sym at))

pub none_between : (g : Geometry) (image : List Sector) (group : ℕ) (chunks : List ChunkRec) (i other : ℕ) → records_of g image group ≡ chunks → IsLeaf chunks → Only g image group → i < length chunks
    → bound_at chunks i ≤ other → other < (get_or chunks i blank).start → inode_at g image group other ≡ None
none_between g image group chunks i other same leaf only low from to =
    elim (none_or_some (inode_at g image group other)) [
      | inl e ↦ e
      | inr found ↦
          let p = at_place g image group other found.0 chunks same (only other found.0 found.1) in
          elim (cases_lt p.0 i) [
            | inl lt ↦ let below = below_bound chunks p.0 i p.1 leaf lt (omega arith) p.3 in absurd (omega (arith, below, p.4))
            | inr ge ↦ elim (cases_lt i p.0) [
              | inl lt ↦ let far = apart chunks i p.0 leaf lt p.2 in absurd (omega (arith, far, p.4))
              | inr le ↦ let e : p.0 ≡ i = omega arith in let at = ap (λ (q : ℕ). (get_or chunks q blank).start) e in absurd (omega (arith, at, p.4))
            ]
          ]
    ]

pub none_after : (g : Geometry) (image : List Sector) (group : ℕ) (chunks : List ChunkRec) (n other : ℕ) → records_of g image group ≡ chunks → IsLeaf chunks → Only g image group → n ≡ length chunks
    → bound_at chunks n ≤ other → inode_at g image group other ≡ None
none_after g image group chunks n other same leaf only whole from =
    elim (none_or_some (inode_at g image group other)) [
      | inl e ↦ e
      | inr found ↦
          let p = at_place g image group other found.0 chunks same (only other found.0 found.1) in
          let below = below_bound chunks p.0 n p.1 leaf (omega (arith, p.2, whole)) (omega arith) p.3 in
          absurd (omega (arith, below, p.4))
    ]

pub next_chunk : (g : Geometry) (image : List Sector) (group : ℕ) (chunks : List ChunkRec) (i : ℕ) → records_of g image group ≡ chunks → IsLeaf chunks → Each g image group → Only g image group → i < length chunks
    → IsNextChunk g image group (bound_at chunks i) (get_or chunks i blank)
next_chunk g image group chunks i same leaf each only low = record {
  from = bound_below chunks i i leaf (omega arith) low;
  none = λ other from to. none_between g image group chunks i other same leaf only low from to;
  found = λ k lt. each i k (get_or chunks i blank) (subst IsLeaf (sym same) leaf) (ap (λ (cs : List ChunkRec). slice_get cs i) same ∙ slice_get-get_or chunks i blank low) lt;
}

-- ---- the blocks of chunks

blocks_read : (g : Geometry) (image : List Sector) (group : ℕ) (chunk : ChunkRec) → chunk_blocks (chunk_read g image group chunk) ≡ range_with_len (chunk.start / 8) 8
unfolding chunk_read chunk_blocks
blocks_read g image group chunk = refl

misses_none : (b s : ℕ) → (b < s) ⊎ (s + 8 ≤ b) → IsIn b (range_with_len s 8) → ⊥
misses_none b s misses has =
    let inside = In-All (λ (x : ℕ). (s ≤ x) × (x < s + 8)) (range_with_len s 8) b (in_range s 8 s (s + 8) (omega arith) (omega arith)) has in
    elim misses [ inl lt ↦ absurd (omega arith) | inr ge ↦ absurd (omega arith) ]

none_misses : (b s : ℕ) → (IsIn b (range_with_len s 8) → ⊥) → (b < s) ⊎ (s + 8 ≤ b)
none_misses b s none =
    elim (cases_lt b s) [
      | inl lt ↦ inl lt
      | inr ge ↦ elim (cases_lt b (s + 8)) [ inl lt ↦ absurd (none (range_has s 8 b ge lt)) | inr past ↦ inr past ]
    ]

pub in_no_chunk : (g : Geometry) (image : List Sector) (group b : ℕ) (chunks : List ChunkRec) → records_of g image group ≡ chunks → All (Misses b) chunks → InNoChunk g image group b
unfolding group_read
in_no_chunk g image group b chunks same misses =
    subst (λ (cs : List ChunkRec). All (λ (chunk : Chunk). IsIn b (chunk_blocks chunk) → ⊥) (map (chunk_read g image group) cs)) (sym same)
    (All-map (λ (chunk : Chunk). IsIn b (chunk_blocks chunk) → ⊥) (chunk_read g image group) chunks
    (λ k d low has. misses_none b ((get_or chunks k d).start / 8) (misses k d low) (subst (IsIn b) (blocks_read g image group (get_or chunks k d)) has)))

pub misses_all : (g : Geometry) (image : List Sector) (group b : ℕ) (chunks : List ChunkRec) → records_of g image group ≡ chunks → InNoChunk g image group b → All (Misses b) chunks
unfolding group_read
misses_all g image group b chunks same none k d low =
    let none' = subst (λ (cs : List ChunkRec). All (λ (chunk : Chunk). IsIn b (chunk_blocks chunk) → ⊥) (map (chunk_read g image group) cs)) same none in
    let at = get_or-map (chunk_read g image group) chunks k d (chunk_read g image group d) low in
    none_misses b ((get_or chunks k d).start / 8)
    (λ has. none' k (chunk_read g image group d) (omega (arith, low, length-map chunks (chunk_read g image group)))
    (subst (IsIn b) (sym (ap chunk_blocks at ∙ blocks_read g image group (get_or chunks k d))) has))
