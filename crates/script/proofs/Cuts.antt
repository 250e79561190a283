-- A text that is cut at the first byte that passes a test.
use Rattle.std.proofs.Common.{◌≡◌, ◌+◌, ◌-◌, ◌<◌, ◌≤◌, ℕ, Bool, List, [], ◌∷◌, Some, None, length, take, drop, position, sym, ap, ◌∙◌, arith, inl, inr}
use Rattle.std.specs.List.{slice_split, position_or_len}
use Rattle.std.proofs.lemmas.Bool.{cases_lt}
use Rattle.std.proofs.lemmas.Bool.Decides.{nat_tests}
use Rattle.std.proofs.lemmas.List.{take_all, length-drop}
use Rattle.std.proofs.lemmas.List.Splits.{slice_split_first, slice_split_none}
use Rattle.std.proofs.lemmas.List.Sums.{position_or_len_is, fails_before_first}
use Rattle.std.proofs.lemmas.List.Quantifiers.{position-Some}

-- the first piece, and the pieces of what stands behind its end
pub split_found : (p : ℕ → Bool) (text : List ℕ) (end : ℕ) → Some end ≡ position p text
    → slice_split p text ≡ take end text ∷ slice_split p (take (length text - (end + 1)) (drop (end + 1) text))
split_found p text end is =
    let at = position-Some p text end 0 (sym is) in
    let place : position_or_len p text ≡ end = position_or_len_is p text end 0 (omega (arith, at.0)) at.2 (λ _. at.1) in
    let within : position_or_len p text < length text = omega (arith, at.0, place) in
    let rest : take (length text - (end + 1)) (drop (end + 1) text) ≡ drop (end + 1) text = take_all (length text - (end + 1)) (drop (end + 1) text) (omega (arith, length-drop (end + 1) text)) in
    slice_split_first p text 0 within
    ∙ ap (λ k. take k text ∷ slice_split p (drop (k + 1) text)) place
    ∙ ap (λ r. take end text ∷ slice_split p r) (sym rest)

-- a text without such a byte is one piece
pub split_none : (p : ℕ → Bool) (text : List ℕ) → None ≡ position p text → slice_split p text ≡ text ∷ []
split_none p text is =
    let far : length text ≤ position_or_len p text = elim (cases_lt (position_or_len p text) (length text)) [
      | inl low ↦ let found : position p text ≡ Some (position_or_len p text) = grind (arith, nat_tests) in let bad : None ≡ Some (position_or_len p text) = is ∙ found in absurd cc
      | inr high ↦ high
    ] in
    slice_split_none p text (λ k d low. fails_before_first p text k d (omega arith))
