-- Leaves after one inode was taken or given, or a chunk added.
use Rattle.std.proofs.Common.{◌≡◌, ◌<◌, ◌≤◌, ◌+◌, ◌-◌, ◌^◌, ◌%◌, ℕ, zero, suc, Bool, true, false, ltb, cond, List, [], ◌∷◌, Some, None, Option, length, get_or, take, drop, inl, inr, refl, ap, sym, ◌∙◌, arith, subst}
use Rattle.std.specs.Prelude.{IsSomeAnd}
use Rattle.std.specs.List.{find, filter, insert}
use Rattle.std.specs.Int.Count.{ones-ones}
use Rattle.std.proofs.lemmas.Bool.{cases_lt, cases_order, lt-ltb, le-ltb, le-leb, and_from, cond-true, cond-false, false≢true, false_from_ne_true}
use Rattle.std.proofs.lemmas.List.Edits.{get_or-insert_at, get_or-insert_below, get_or-insert_above, length-insert}
use Rattle.std.proofs.lemmas.List.Elements.{All-append, All-cons, All-take, All-drop}
use Rattle.std.proofs.lemmas.Nat.{and_le_l, or_lt, pow_below}
use Rattle.life_bytes.specs.Bits.{is_set}
use Rattle.inobt_leaf.specs.declared.chunk.ChunkRec.{ChunkRec}
use Rattle.inobt_leaf.specs.Chunks.{RecordsAscend, chunk_holds, IsChunkRecord, IsLeaf, after_take, after_give, whole_chunk, with_whole_chunk}
use Rattle.inobt_leaf.proofs.OneBit.{clear_count, set_count}
use Rattle.inobt_leaf.proofs.Places.{held_by, find-none}

-- a chunk with a free inode counts one
pub some_free : (agino : ℕ) (chunk : ChunkRec) → IsChunkRecord chunk → chunk_holds agino chunk ≡ true → is_set chunk.mask (agino - chunk.start) ≡ true → 1 ≤ chunk.free
some_free agino chunk is held free =
    let here = held_by agino chunk held in
    omega (arith, is.free, clear_count chunk.mask (agino - chunk.start) is.mask (omega (arith, here)) free)

pub IsChunk-after_take : (agino : ℕ) (chunk : ChunkRec) → IsChunkRecord chunk → chunk_holds agino chunk ≡ true → is_set chunk.mask (agino - chunk.start) ≡ true → IsChunkRecord (after_take agino chunk)
IsChunk-after_take agino chunk is held free =
    let here = held_by agino chunk held in
    let below = and_le_l chunk.mask (2 ^ 64 - 1 - 2 ^ (agino - chunk.start)) in
    record {
      start = is.start;
      mask = omega (arith, below, is.mask);
      aligned = is.aligned;
      free = omega (arith, is.free, clear_count chunk.mask (agino - chunk.start) is.mask (omega (arith, here)) free);
    }

pub IsChunk-after_give : (agino : ℕ) (chunk : ChunkRec) → IsChunkRecord chunk → chunk_holds agino chunk ≡ true → is_set chunk.mask (agino - chunk.start) ≡ false → IsChunkRecord (after_give agino chunk)
IsChunk-after_give agino chunk is held taken =
    let here = held_by agino chunk held in
    record {
      start = is.start;
      mask = or_lt 64 chunk.mask (2 ^ (agino - chunk.start)) is.mask (pow_below (agino - chunk.start) 64 (omega (arith, here)));
      aligned = is.aligned;
      free = omega (arith, is.free, set_count chunk.mask (agino - chunk.start) (omega (arith, here)) taken);
    }

-- none of the list passes where nothing is found
pub none_passes : {X : Type 0} (p : X → Bool) (xs : List X) (j : ℕ) (d : X) → find p xs ≡ None → j < length xs → p (get_or xs j d) ≡ false
none_passes p [] j d nothing h = absurd (omega arith)
none_passes p (x ∷ xs) j d nothing h = split (p x) refl j h nothing (λ i l e. none_passes p xs i d e l)
  where
    split : (b : Bool) → p x ≡ b → (j : ℕ) → j < length (x ∷ xs) → cond b (Some x) (find p xs) ≡ None
        → ((i : ℕ) → i < length xs → find p xs ≡ None → p (get_or xs i d) ≡ false) → p (get_or (x ∷ xs) j d) ≡ false
    split true e j h nothing rest = absurd cc
    split false e zero h nothing rest = e
    split false e (suc j) h nothing rest = rest j (omega arith) nothing

-- a test that holds of a front and of nothing behind it
pub filter_front : {X : Type 0} (p : X → Bool) (xs : List X) (n : ℕ) → ((k : ℕ) (d : X) → k < n → k < length xs → p (get_or xs k d) ≡ true)
    → ((k : ℕ) (d : X) → n ≤ k → k < length xs → p (get_or xs k d) ≡ false) → filter p xs ≡ take n xs
filter_front p [] zero front behind = refl
filter_front p [] (suc n) front behind = refl
filter_front p (x ∷ xs) zero front behind =
    cond-false _ _ _ (behind 0 x (omega arith) (omega arith)) ∙ filter_front p xs zero (λ k d h l. absurd (omega arith)) (λ k d h l. behind (suc k) d (omega arith) (omega arith))
filter_front {X = X} p (x ∷ xs) (suc n) front behind =
    cond-true _ _ _ (front 0 x (omega arith) (omega arith))
    ∙ ap (λ (ys : List X). x ∷ ys) (filter_front p xs n (λ k d h l. front (suc k) d (omega arith) (omega arith)) (λ k d h l. behind (suc k) d (omega arith) (omega arith)))

pub filter_back : {X : Type 0} (p : X → Bool) (xs : List X) (n : ℕ) → ((k : ℕ) (d : X) → k < n → k < length xs → p (get_or xs k d) ≡ false)
    → ((k : ℕ) (d : X) → n ≤ k → k < length xs → p (get_or xs k d) ≡ true) → filter p xs ≡ drop n xs
filter_back p [] zero front behind = refl
filter_back p [] (suc n) front behind = refl
filter_back {X = X} p (x ∷ xs) zero front behind =
    cond-true _ _ _ (behind 0 x (omega arith) (omega arith))
    ∙ ap (λ (ys : List X). x ∷ ys) (filter_back p xs zero (λ k d h l. absurd (omega arith)) (λ k d h l. behind (suc k) d (omega arith) (omega arith)))
filter_back p (x ∷ xs) (suc n) front behind =
    cond-false _ _ _ (front 0 x (omega arith) (omega arith)) ∙ filter_back p xs n (λ k d h l. front (suc k) d (omega arith) (omega arith)) (λ k d h l. behind (suc k) d (omega arith) (omega arith))

-- a chunk holds its first inode
holds_own : (chunk : ChunkRec) (start : ℕ) → chunk.start ≡ start → chunk_holds start chunk ≡ true
holds_own chunk start e = and_from _ _ (le-leb chunk.start start (omega (arith, e))) (lt-ltb start (chunk.start + 64) (omega (arith, e)))

-- where an inode's chunk would stand, by the starts
pub record Represents (chunks : List ChunkRec) (start n : ℕ) : Type 0 where
  pub within : n ≤ length chunks
  pub before : (k : ℕ) (d : ChunkRec) → k < n → (get_or chunks k d).start < start
  pub after : (k : ℕ) (d : ChunkRec) → n ≤ k → k < length chunks → start < (get_or chunks k d).start

pub stands : (chunks : List ChunkRec) (start n : ℕ) → find (chunk_holds start) chunks ≡ None → n ≤ length chunks
    → ((k : ℕ) (d : ChunkRec) → k < n → (get_or chunks k d).start ≤ start)
    → ((k : ℕ) (d : ChunkRec) → n ≤ k → k < length chunks → start < (get_or chunks k d).start) → Represents chunks start n
stands chunks start n absent within before after = record {
  within = within;
  before = λ k d h.
      let none = none_passes (chunk_holds start) chunks k d absent (omega arith) in
      let le = before k d h in
      elim (cases_lt (get_or chunks k d).start start) [
        | inl lt ↦ lt
        | inr ge ↦ absurd (false≢true (sym none ∙ holds_own (get_or chunks k d) start (omega (arith, le, ge))))
      ];
  after = after;
}

-- put in at that place
pub insert-with_chunk : (chunks : List ChunkRec) (start n : ℕ) → Represents chunks start n → insert chunks n (whole_chunk start) ≡ with_whole_chunk start chunks
insert-with_chunk chunks start n at =
    let front : filter (λ c. ltb c.start start) chunks ≡ take n chunks =
    filter_front (λ c. ltb c.start start) chunks n (λ k d h l. lt-ltb _ _ (at.before k d h)) (λ k d h l. le-ltb _ _ (omega (arith, at.after k d h l))) in
    let back : filter (λ c. ltb start c.start) chunks ≡ drop n chunks =
    filter_back (λ c. ltb start c.start) chunks n (λ k d h l. le-ltb _ _ (omega (arith, at.before k d h))) (λ k d h l. lt-ltb _ _ (at.after k d h l)) in
    rw (front, back) refl

IsChunk-whole : (start : ℕ) → start < 2 ^ 32 → start % 64 ≡ 0 → IsChunkRecord (whole_chunk start)
IsChunk-whole start fits aligned = record { start = fits; mask = omega arith; aligned = aligned; free = sym (ones-ones 64) }

-- starts after the insert
start_below : (chunks : List ChunkRec) (new : ChunkRec) (n k : ℕ) (d : ChunkRec) → n ≤ length chunks → k < n → (get_or (insert chunks n new) k d).start ≡ (get_or chunks k d).start
start_below chunks new n k d within h = ap (λ (c : ChunkRec). c.start) (get_or-insert_below chunks n new d k h within)

start_here : (chunks : List ChunkRec) (new : ChunkRec) (n : ℕ) (d : ChunkRec) → n ≤ length chunks → (get_or (insert chunks n new) n d).start ≡ new.start
start_here chunks new n d within = ap (λ (c : ChunkRec). c.start) (get_or-insert_at chunks n new d within)

start_above : (chunks : List ChunkRec) (new : ChunkRec) (n k : ℕ) (d : ChunkRec) → n ≤ length chunks → n < k → (get_or (insert chunks n new) k d).start ≡ (get_or chunks (k - 1) d).start
start_above chunks new n k d within h =
    let e : k ≡ k - 1 + 1 = omega arith in
    ap (λ (m : ℕ). (get_or (insert chunks n new) m d).start) e ∙ ap (λ (c : ChunkRec). c.start) (get_or-insert_above chunks n new d (k - 1) (omega arith) within)

-- chunks that ascend, with one more put in where it stands
Ascends-insert : (chunks : List ChunkRec) (new : ChunkRec) (n : ℕ) → RecordsAscend chunks → Represents chunks new.start n → RecordsAscend (insert chunks n new)
Ascends-insert chunks new n ascends at i j d l h =
    let many = length-insert chunks n new at.within in
    elim (cases_order j n) [
      | inl e ↦
          let low : i < n = omega (arith, l, e) in
          omega (arith, ap (λ (m : ℕ). (get_or (insert chunks n new) m d).start) e, start_here chunks new n d at.within, start_below chunks new n i d at.within low, at.before i d low)
      | inr other ↦ elim other [
        | inl below ↦
            omega (arith, start_below chunks new n j d at.within below, start_below chunks new n i d at.within (omega arith), ascends i j d l (omega (arith, below, at.within)))
        | inr above ↦
            let past = start_above chunks new n j d at.within above in
            elim (cases_order i n) [
              | inl e ↦ omega (arith, past, ap (λ (m : ℕ). (get_or (insert chunks n new) m d).start) e, start_here chunks new n d at.within, at.after (j - 1) d (omega arith) (omega (arith, many, h, above)))
              | inr apart ↦ elim apart [
                | inl low ↦ omega (arith, past, start_below chunks new n i d at.within low, ascends i (j - 1) d (omega arith) (omega (arith, many, h, above)))
                | inr high ↦ omega (arith, past, start_above chunks new n i d at.within high, ascends (i - 1) (j - 1) d (omega arith) (omega (arith, many, h, above)))
              ]
            ]
      ]
    ]

pub IsLeaf-insert : (chunks : List ChunkRec) (start n : ℕ) → IsLeaf chunks → length chunks < 252 → start < 2 ^ 32 → start % 64 ≡ 0 → Represents chunks start n
    → IsLeaf (insert chunks n (whole_chunk start))
IsLeaf-insert chunks start n leaf room fits aligned at = record {
  few = omega (arith, room, length-insert chunks n (whole_chunk start) at.within);
  each =
      All-append IsChunkRecord (take n chunks) (whole_chunk start ∷ drop n chunks) (All-take IsChunkRecord n chunks leaf.each)
      (All-cons IsChunkRecord (whole_chunk start) (drop n chunks) (IsChunk-whole start fits aligned) (All-drop IsChunkRecord n chunks leaf.each));
  ascends = Ascends-insert chunks (whole_chunk start) n leaf.ascends at;
}

-- what is found has a place
pub no_place : (chunks : List ChunkRec) (agino : ℕ) (P : ChunkRec → Type 0) → ((k : ℕ) (d : ChunkRec) → k < length chunks → ¬ (chunk_holds agino (get_or chunks k d) ≡ true))
    → IsSomeAnd (find (chunk_holds agino) chunks) P → ⊥
no_place chunks agino P none found =
    subst (λ (o : Option ChunkRec). IsSomeAnd o P)
    (find-none (chunk_holds agino) chunks record { start = 0; free = 0; mask = 0 } (λ j h. false_from_ne_true _ (none j _ h))) found
