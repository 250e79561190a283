-- Runs of 8 free blocks are the full bytes of words.
use Rattle.std.proofs.Common.{◌≡◌, ◌<◌, ◌≤◌, ◌+◌, ◌*◌, ◌/◌, ◌%◌, ℕ, true, eqb, List, get_or, inl, inr, ap, sym, ◌∙◌, arith}
use Rattle.std.specs.Int.{bit_at}
use Rattle.std.proofs.lemmas.Bool.{cases_order, cases_lt, eqb-true, false≢true}
use Rattle.free_map.specs.Blocks.{is_block_free, IsFreeRun}
use Rattle.free_map.specs.Words.{block_bit, map_blocks, AreMapWords, IsFull}
use Rattle.free_map.proofs.Maps.{is_free_kept}

pub run_from_full : (words : List ℕ) (n free w k : ℕ) → AreMapWords words n free → k < 8 → IsFull (get_or words w 0) k → IsFreeRun (map_blocks words n) (64 * w + 8 * k)
run_from_full words n free w k kept h full = (
  omega arith,
  λ i l.
      let word : (64 * w + 8 * k + i) / 64 ≡ w = omega arith in
      let bit : (64 * w + 8 * k + i) % 64 ≡ 8 * k + i = omega arith in
      is_free_kept words n free (64 * w + 8 * k + i) kept ∙ rw (word, bit) (ap (λ (x : ℕ). eqb x 1) (full i l)),
)

pub full_from_run : (words : List ℕ) (n free b : ℕ) → AreMapWords words n free → IsFreeRun (map_blocks words n) b → IsFull (get_or words (b / 64) 0) (b % 64 / 8)
full_from_run words n free b kept run i l =
    let word : (b + i) / 64 ≡ b / 64 = omega (arith, run.0) in
    let bit : (b + i) % 64 ≡ 8 * (b % 64 / 8) + i = omega (arith, run.0) in
    let e : bit_at (get_or words ((b + i) / 64) 0) ((b + i) % 64) ≡ 1 = eqb-true _ _ (sym (is_free_kept words n free (b + i) kept) ∙ run.1 i l) in
    rw (← word, ← bit) e

-- no run below the lowest full byte of the first word that has one
pub lowest_run : (words : List ℕ) (n free w k : ℕ) → AreMapWords words n free → k < 8
    → ((v : ℕ) → v < w → (j : ℕ) → j < 8 → ¬ IsFull (get_or words v 0) j)
    → ((j : ℕ) → j < 8 → IsFull (get_or words w 0) j → k ≤ j)
    → (b : ℕ) → IsFreeRun (map_blocks words n) b → 64 * w + 8 * k ≤ b
lowest_run words n free w k kept small before least b run =
    let full = full_from_run words n free b kept run in
    let at : b ≡ 64 * (b / 64) + 8 * (b % 64 / 8) = omega (arith, run.0) in
    elim (cases_order (b / 64) w) [
      | inl here ↦
          let below : k ≤ b % 64 / 8 = least (b % 64 / 8) (omega arith) (rw (← here) full) in
          omega (arith, at, here, below)
      | inr other ↦ elim other [
        | inl low ↦ absurd (before (b / 64) low (b % 64 / 8) (omega arith) full)
        | inr high ↦ omega (arith, at, high, run.0)
      ]
    ]

-- no run at all
pub no_run : (words : List ℕ) (n free : ℕ) → AreMapWords words n free
    → ((v : ℕ) → v < 256 → (j : ℕ) → j < 8 → ¬ IsFull (get_or words v 0) j)
    → (b : ℕ) → ¬ IsFreeRun (map_blocks words n) b
no_run words n free kept none b run =
    let full = full_from_run words n free b kept run in
    elim (cases_lt (b / 64) 256) [
      | inl in' ↦ none (b / 64) in' (b % 64 / 8) (omega arith) full
      | inr past ↦
          let free_there : block_bit words b ≡ true = sym (is_free_kept words n free b kept) ∙ ap (is_block_free (map_blocks words n)) (omega_zero b) ∙ run.1 0 (omega arith) in
          false≢true (sym (kept.clear b (omega (arith, past, kept.few))) ∙ free_there)
    ]
  where
    omega_zero : (b : ℕ) → b ≡ b + 0
    omega_zero b = omega arith
