-- The blocks of runs, one run after the other.
use Rattle.std.proofs.Common.{◌≡◌, ◌<◌, ◌≤◌, ◌+◌, ◌-◌, ◌++◌, ℕ, zero, suc, List, [], ◌∷◌, All, length, take, get_or, inl, inr, ap, sym, ◌∙◌, arith, length-append}
use Rattle.std.specs.List.{range_with_len, flat_map}
use Rattle.std.proofs.lemmas.Bool.{cases_lt}
use Rattle.std.proofs.lemmas.List.{take_more, flat_map_more, get_or_past}
use Rattle.std.proofs.lemmas.List.Concat.{get_or-flat_map}
use Rattle.std.proofs.lemmas.List.Elements.{All-same, All-append, All-nil, All-head, All-tail}
use Rattle.std.proofs.lemmas.List.FromFn.{length-range_with_len, get_or-range_with_len}
use Rattle.extent_fork.specs.declared.extent.Extent.{Extent}
use Rattle.extent_fork.specs.Forks.{IsRun}
use Rattle.extent_fork.specs.Runs.{blocks_of}

pub blocks_more : (runs : List Extent) (i : ℕ) (d : Extent) → i < length runs → flat_map blocks_of (take (i + 1) runs) ≡ flat_map blocks_of (take i runs) ++ blocks_of (get_or runs i d)
blocks_more runs i d low = ap (flat_map blocks_of) (take_more runs i d low) ∙ sym (flat_map_more blocks_of [] (take i runs) (get_or runs i d))

pub in_range : (start count low high : ℕ) → low ≤ start → start + count ≤ high → All (λ (block : ℕ). (low ≤ block) × (block < high)) (range_with_len start count)
in_range start count low high from to k d within =
    let few : k < count = omega (arith, within, length-range_with_len start count) in
    let at : get_or (range_with_len start count) k d ≡ start + k = get_or-range_with_len start count k d few in
    (omega arith, omega arith)

below_range : (start count high : ℕ) → start + count ≤ high → All (λ (block : ℕ). block < high) (range_with_len start count)
below_range start count high to k d within = (in_range start count 0 high (omega arith) to k d within).1

pub within_more : (n : ℕ) (runs : List Extent) (i : ℕ) (d : Extent) → i < length runs → (get_or runs i d).start + (get_or runs i d).count ≤ n
    → All (λ (block : ℕ). block < n) (flat_map blocks_of (take i runs)) → All (λ (block : ℕ). block < n) (flat_map blocks_of (take (i + 1) runs))
within_more n runs i d low to before =
    All-same (λ (block : ℕ). block < n) (flat_map blocks_of (take (i + 1) runs)) (flat_map blocks_of (take i runs) ++ blocks_of (get_or runs i d)) (blocks_more runs i d low)
    (All-append (λ (block : ℕ). block < n) (flat_map blocks_of (take i runs)) (blocks_of (get_or runs i d)) before (below_range (get_or runs i d).start (get_or runs i d).count n to))

-- the last block of a run that ends past n is not below n
pub passes : (n : ℕ) (runs : List Extent) (i : ℕ) (d : Extent) → i < length runs → 1 ≤ (get_or runs i d).count → n < (get_or runs i d).start + (get_or runs i d).count
    → All (λ (block : ℕ). block < n) (flat_map blocks_of runs) → ⊥
passes n runs i d low some past all =
    let start : ℕ = (get_or runs i d).start in
    let count : ℕ = (get_or runs i d).count in
    let j : ℕ = count - 1 in
    let place : ℕ = length (flat_map blocks_of (take i runs)) + j in
    let few : j < count = omega arith in
    let at : get_or (flat_map blocks_of runs) place (start + j + 1) ≡ get_or (range_with_len start count) j (start + j + 1) =
    get_or-flat_map blocks_of runs i j d (start + j + 1) low (omega (arith, length-range_with_len start count)) in
    let last : get_or (range_with_len start count) j (start + j + 1) ≡ start + j = get_or-range_with_len start count j (start + j + 1) few in
    elim (cases_lt place (length (flat_map blocks_of runs))) [
      | inl inside ↦ let below : get_or (flat_map blocks_of runs) place (start + j + 1) < n = all place (start + j + 1) inside in omega arith
      | inr outside ↦ let none = get_or_past (flat_map blocks_of runs) place (start + j + 1) outside in omega arith
    ]

pub count_more : (runs : List Extent) (i : ℕ) (d : Extent) → i < length runs → length (flat_map blocks_of (take (i + 1) runs)) ≡ length (flat_map blocks_of (take i runs)) + (get_or runs i d).count
count_more runs i d low =
    ap (λ (blocks : List ℕ). length blocks) (blocks_more runs i d low)
    ∙ length-append (flat_map blocks_of (take i runs)) (blocks_of (get_or runs i d))
    ∙ ap (λ (n : ℕ). length (flat_map blocks_of (take i runs)) + n) (length-range_with_len (get_or runs i d).start (get_or runs i d).count)

-- blocks of runs of data blocks are data blocks
pub from_data : (runs : List Extent) → All IsRun runs → All (λ (block : ℕ). 24 ≤ block) (flat_map blocks_of runs)
from_data [] all = All-nil (λ (block : ℕ). 24 ≤ block)
from_data (run ∷ runs) all =
    let first : IsRun run = All-head IsRun run runs all in
    All-append (λ (block : ℕ). 24 ≤ block) (blocks_of run) (flat_map blocks_of runs)
    (λ k d within. (in_range run.start run.count 24 16384 first.start first.end k d within).0) (from_data runs (All-tail IsRun run runs all))

pub range_more : (start n block : ℕ) → start + n ≡ block → range_with_len start (n + 1) ≡ range_with_len start n ++ block ∷ []
range_more start zero block e = let same : start ≡ block = omega arith in ap (λ (b : ℕ). b ∷ []) same
range_more start (suc n) block e =
    let next : suc n + 1 ≡ suc (n + 1) = omega arith in
    ap (range_with_len start) next ∙ ap (λ (xs : List ℕ). start ∷ xs) (range_more (start + 1) n block (omega arith))
