-- Chunks looked at one after the other.
use Rattle.std.proofs.Common.{◌≡◌, ◌<◌, ◌+◌, ◌-◌, ℕ, List, length, get_or, inl, inr, ap, arith, subst}
use Rattle.std.proofs.lemmas.Bool.{cases_lt}
use Rattle.std.proofs.lemmas.List.{get_or_default}
use Rattle.inobt_leaf.specs.declared.chunk.ChunkRec.{ChunkRec}
use Rattle.inobt_leaf.specs.Chunks.{IsChunkRecord}

-- what holds of those before a place, and of the one there
pub each_more : (chunks : List ChunkRec) (i : ℕ) (e : ChunkRec) → i < length chunks → ((k : ℕ) (d : ChunkRec) → k < i → IsChunkRecord (get_or chunks k d))
    → IsChunkRecord (get_or chunks i e) → (k : ℕ) (d : ChunkRec) → k < i + 1 → IsChunkRecord (get_or chunks k d)
each_more chunks i e within before here k d h =
    elim (cases_lt k i) [
      | inl low ↦ before k d low
      | inr high ↦
          let at : i ≡ k = omega arith in
          subst (λ (n : ℕ). IsChunkRecord (get_or chunks n d)) at (subst IsChunkRecord (get_or_default chunks i e d within) here)
    ]

-- those before a place ascend, and the one there starts behind the last of them
pub ascends_more : (chunks : List ChunkRec) (n : ℕ) (e : ChunkRec) → n < length chunks
    → ((i j : ℕ) (d : ChunkRec) → i < j → j < n → (get_or chunks i d).start < (get_or chunks j d).start)
    → (0 < n → (get_or chunks (n - 1) e).start < (get_or chunks n e).start)
    → (i j : ℕ) (d : ChunkRec) → i < j → j < n + 1 → (get_or chunks i d).start < (get_or chunks j d).start
ascends_more chunks n e within before last i j d l h =
    elim (cases_lt j n) [
      | inl low ↦ before i j d l low
      | inr high ↦
          let at : j ≡ n = omega arith in
          let start_of : (k : ℕ) → k < length chunks → (get_or chunks k d).start ≡ (get_or chunks k e).start = λ k inside. ap (λ (c : ChunkRec). c.start) (get_or_default chunks k d e inside) in
          let step : (get_or chunks (n - 1) d).start < (get_or chunks n d).start = omega (arith, last (omega arith), start_of (n - 1) (omega arith), start_of n within) in
          elim (cases_lt i (n - 1)) [
            | inl below ↦ omega (arith, before i (n - 1) d below (omega arith), step, ap (λ (k : ℕ). (get_or chunks k d).start) at)
            | inr same ↦
                let place : i ≡ n - 1 = omega arith in
                omega (arith, step, ap (λ (k : ℕ). (get_or chunks k d).start) at, ap (λ (k : ℕ). (get_or chunks k d).start) place)
          ]
    ]
