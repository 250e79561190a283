-- Words as text.
use Rattle.std.proofs.Common.{◌<◌, ◌^◌, ◌∷◌, ℕ, List, Result, Ok, Err, IfNone, MatchResult, subst, sym, arith, Bor}
use Rattle.std.specs.Result.{result_ok}
use Rattle.std.specs.Str.{IsAscii, IsUtf8}
use Rattle.std.specs.Fmt.{decimal}
use Rattle.std.proofs.lemmas.Fmt.{IsAscii-decimal}
use Rattle.std.proofs.lemmas.Str.{IsAscii-append, IsUtf8-from_ascii}
use Rattle.std.proofs.lemmas.Str.Ascii.{IsAscii-cons}
use Rattle.script.specs.Words.{IsDecimal, IsHandleText}

-- what is no UTF-8 has no text
pub no_text : {E : Type 0} (P : Bor (List ℕ) → Type 0) (R : E → Type 0) (word : List ℕ) (r : Result (Bor (List ℕ)) E) → MatchResult r P (λ e. (¬ IsUtf8 word) × R e) → IfNone (result_ok r) (IsAscii word → ⊥)
no_text P R word (Ok text) cases = tt
no_text P R word (Err e) cases = λ ascii. cases.0 (IsUtf8-from_ascii word ascii)

pub number_is_ascii : (low high : ℕ) (word : List ℕ) → high < 2 ^ 32 → IsDecimal low high word → IsAscii word
number_is_ascii low high word fits (n, least, most, is) = subst IsAscii (sym is) (IsAscii-decimal n (omega arith))

pub handle_is_ascii : (word : List ℕ) → IsHandleText word → IsAscii word
handle_is_ascii word (key, ok, is) =
    subst IsAscii (sym is) (IsAscii-append (decimal key.number) (46 ∷ decimal key.generation) (IsAscii-decimal key.number (omega (arith, ok.number)))
    (IsAscii-cons 46 (decimal key.generation) (omega arith) (IsAscii-decimal key.generation (omega (arith, ok.last)))))
