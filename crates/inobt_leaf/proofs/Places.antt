-- Where an inode's chunk stands among ascending chunks.
use Rattle.std.proofs.Common.{◌≡◌, ◌≢◌, ◌<◌, ◌≤◌, ◌+◌, ℕ, zero, suc, Bool, true, false, leb, ltb, List, [], ◌∷◌, Some, None, Option, length, get_or, set, map, get_or-set_same, get_or-set_other, inl, inr, refl, ap, sym, ◌∙◌, arith, subst}
use Rattle.std.specs.Prelude.{IsSomeAnd}
use Rattle.std.specs.List.{find}
use Rattle.std.specs.List.Sorted.{IsPartitionedBy}
use Rattle.std.proofs.lemmas.Bool.{cases_lt, cases_eq, cases_order, leb-true, ltb-true, le-leb, lt-leb, le-ltb, cond-true, cond-false, and_parts, and_left, and_right}
use Rattle.std.proofs.lemmas.List.{ext_get_or, length-set, length-map, get_or-map, get_or_default}
use Rattle.std.proofs.lemmas.List.Elements.{All-get_or, All-set}
use Rattle.inobt_leaf.specs.declared.chunk.ChunkRec.{ChunkRec}
use Rattle.inobt_leaf.specs.Chunks.{RecordsAscend, chunk_holds, IsChunkRecord, IsLeaf, where_held}

-- those that start at or before an inode stand in front
pub parted : (chunks : List ChunkRec) (agino : ℕ) → RecordsAscend chunks → IsPartitionedBy (λ c. leb c.start agino) chunks
parted chunks agino ascends i j d le within passes =
    elim (cases_lt i j) [
      | inl lt ↦ le-leb _ _ (omega (arith, ascends i j d lt within, leb-true _ _ passes))
      | inr ge ↦ let same : i ≡ j = omega arith in subst (λ (k : ℕ). leb (get_or chunks k d).start agino ≡ true) (sym same) passes
    ]

-- the first that passes
pub find-at : {X : Type 0} (p : X → Bool) (xs : List X) (k : ℕ) (d : X) → k < length xs → p (get_or xs k d) ≡ true
    → ((j : ℕ) → j < k → p (get_or xs j d) ≡ false) → find p xs ≡ Some (get_or xs k d)
find-at p [] k d h passes before = absurd (omega arith)
find-at p (x ∷ xs) zero d h passes before = cond-true _ _ _ passes
find-at p (x ∷ xs) (suc k) d h passes before =
    cond-false _ _ _ (before 0 (omega arith)) ∙ find-at p xs k d (omega arith) passes (λ j l. before (suc j) (omega arith))

pub find-none : {X : Type 0} (p : X → Bool) (xs : List X) (d : X) → ((j : ℕ) → j < length xs → p (get_or xs j d) ≡ false) → find p xs ≡ None
find-none p [] d none = refl
find-none p (x ∷ xs) d none = cond-false _ _ _ (none 0 (omega arith)) ∙ find-none p xs d (λ j l. none (suc j) (omega arith))

-- what it means that a chunk holds an inode
pub held_by : (agino : ℕ) (chunk : ChunkRec) → chunk_holds agino chunk ≡ true → (chunk.start ≤ agino) × (agino < chunk.start + 64)
held_by agino chunk held =
    let both = and_parts (leb chunk.start agino) (ltb agino (chunk.start + 64)) held in
    (leb-true chunk.start agino both.0, ltb-true agino (chunk.start + 64) both.1)

pub not_held_before : (agino : ℕ) (chunk : ChunkRec) → agino < chunk.start → chunk_holds agino chunk ≡ false
not_held_before agino chunk h = and_left (leb chunk.start agino) (ltb agino (chunk.start + 64)) (lt-leb chunk.start agino h)

pub not_held_after : (agino : ℕ) (chunk : ChunkRec) → chunk.start + 64 ≤ agino → chunk_holds agino chunk ≡ false
not_held_after agino chunk h = and_right (leb chunk.start agino) (ltb agino (chunk.start + 64)) (le-ltb agino (chunk.start + 64) h)

-- chunks at multiples of 64 share no inode
pub before_holds : (chunks : List ChunkRec) (agino k : ℕ) (d : ChunkRec) → IsLeaf chunks → k < length chunks → chunk_holds agino (get_or chunks k d) ≡ true
    → (j : ℕ) → j < k → chunk_holds agino (get_or chunks j d) ≡ false
before_holds chunks agino k d leaf h held j l =
    let here = held_by agino (get_or chunks k d) held in
    let up = leaf.ascends j k d l h in
    let mine = (All-get_or IsChunkRecord chunks k d h leaf.each).aligned in
    let other = (All-get_or IsChunkRecord chunks j d (omega arith) leaf.each).aligned in
    not_held_after agino (get_or chunks j d) (omega (arith, up, mine, other, here))

pub after_holds : (chunks : List ChunkRec) (agino k : ℕ) (d : ChunkRec) → IsLeaf chunks → chunk_holds agino (get_or chunks k d) ≡ true
    → (j : ℕ) → k < j → j < length chunks → chunk_holds agino (get_or chunks j d) ≡ false
after_holds chunks agino k d leaf held j l h =
    let here = held_by agino (get_or chunks k d) held in
    let up = leaf.ascends k j d l h in
    let mine = (All-get_or IsChunkRecord chunks k d (omega arith) leaf.each).aligned in
    let other = (All-get_or IsChunkRecord chunks j d h leaf.each).aligned in
    not_held_before agino (get_or chunks j d) (omega (arith, up, mine, other, here))

-- the one chunk that holds the inode is changed
pub map-where_held : (chunks : List ChunkRec) (agino k : ℕ) (d : ChunkRec) (change : ChunkRec → ChunkRec) → IsLeaf chunks → k < length chunks
    → chunk_holds agino (get_or chunks k d) ≡ true → set chunks k (change (get_or chunks k d)) ≡ map (where_held agino change) chunks
map-where_held chunks agino k d change leaf h held =
    ext_get_or d (set chunks k (change (get_or chunks k d))) (map (where_held agino change) chunks)
    (length-set chunks k _ ∙ sym (length-map chunks (where_held agino change)))
    (λ j l.
    let within : j < length chunks = omega (arith, l, length-set chunks k (change (get_or chunks k d))) in
    elim (cases_order j k) [
      | inl e ↦
          rw (e, get_or-set_same chunks k (change (get_or chunks k d)) d h)
          (sym (get_or-map (where_held agino change) chunks k d d h ∙ cond-true _ _ _ held))
      | inr ne ↦
          let other : chunk_holds agino (get_or chunks j d) ≡ false = elim ne [
            | inl below ↦ before_holds chunks agino k d leaf h held j below
            | inr above ↦ after_holds chunks agino k d leaf held j above within
          ] in
          let apart : j ≢ k = elim ne [ inl below ↦ (λ e. omega (arith, e, below)) | inr above ↦ (λ e. omega (arith, e, above)) ] in
          get_or-set_other chunks k j (change (get_or chunks k d)) d apart
          ∙ sym (get_or-map (where_held agino change) chunks j d d within ∙ cond-false _ _ _ other)
    ])

-- what `find` gave is at the place that holds it
pub found_at : (chunks : List ChunkRec) (agino k : ℕ) (d : ChunkRec) (P : ChunkRec → Type 0) → IsLeaf chunks → k < length chunks → chunk_holds agino (get_or chunks k d) ≡ true
    → IsSomeAnd (find (chunk_holds agino) chunks) P → P (get_or chunks k d)
found_at chunks agino k d P leaf h held found =
    subst (λ (o : Option ChunkRec). IsSomeAnd o P) (find-at (chunk_holds agino) chunks k d h held (before_holds chunks agino k d leaf h held)) found

-- a leaf after one chunk changed and kept its start
pub leaf-set : (chunks : List ChunkRec) (k : ℕ) (d chunk : ChunkRec) → IsLeaf chunks → k < length chunks → IsChunkRecord chunk → chunk.start ≡ (get_or chunks k d).start
    → IsLeaf (set chunks k chunk)
leaf-set chunks k d chunk leaf h is same = record {
  few = omega (arith, length-set chunks k chunk, leaf.few);
  each = All-set IsChunkRecord chunks k chunk is leaf.each;
  ascends = λ i j e l m.
      let within : j < length chunks = omega (arith, m, length-set chunks k chunk) in
      let start_of : (n : ℕ) → n < length chunks → (get_or (set chunks k chunk) n e).start ≡ (get_or chunks n d).start = λ n inside.
      elim (cases_eq n k) [
        | inl q ↦ ap (λ (c : ChunkRec). c.start) (ap (λ (x : ℕ). get_or (set chunks k chunk) x e) q ∙ get_or-set_same chunks k chunk e h) ∙ same ∙ ap (λ (x : ℕ). (get_or chunks x d).start) (sym q)
        | inr ne ↦ ap (λ (c : ChunkRec). c.start) (get_or-set_other chunks k n chunk e ne ∙ get_or_default chunks n e d inside)
      ] in
      omega (arith, start_of i (omega arith), start_of j within, leaf.ascends i j d l within);
}
