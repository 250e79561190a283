-- Decimal numbers, and handles made of two of them.
use Rattle.std.proofs.Common.{◌≡◌, ◌≢◌, ◌^◌, ◌<◌, ◌≤◌, ◌⊎◌, ℕ, List, [], ◌∷◌, Option, Some, IfSome, MatchOption, Result, Ok, Err, length, get_or, sym, ap, ◌∙◌, inl, inr, arith, Bor}
use Rattle.std.specs.Result.{result_ok}
use Rattle.std.specs.Str.Parse.{AllDigits, digits_value, ParsesUnsigned}
use Rattle.std.specs.Fmt.{decimal}
use Rattle.std.proofs.lemmas.Bool.{cases_lt}
use Rattle.std.proofs.lemmas.Fmt.{decimal_is_IsNumeral, parse-decimal, decimal_digit, first_decimal, decimal-digits_value}
use Rattle.std.proofs.lemmas.Str.Parse.{IsNumeralModel, numerals_by_value, tells_digits, parse_plain, digit_at}
use Rattle.std.proofs.lemmas.Str.Pattern.{IsSplitOnceResult, split_after}
use Rattle.life_table.specs.declared.key.Key.{Key}
use Rattle.life_table.specs.Handles.{handle_text, IsHandle}

own : IsNumeralModel (AllDigits 10) (digits_value 10)
own = numerals_by_value (AllDigits 10) tells_digits

-- what was parsed, of a text that begins as a number without leading zeros does
pub parsed : {E : Type 0} (bs : List ℕ) (r : Result ℕ E) → ParsesUnsigned 64 10 bs r → get_or bs 0 0 ≢ 43 → (get_or bs 0 0 ≡ 48 → length bs ≡ 1)
    → IfSome (result_ok r) (λ n. bs ≡ decimal n)
parsed {E = E} bs (Err e) parses plain leading = tt
parsed {E = E} bs (Ok n) parses plain leading =
    let is = parse_plain own {E = E} 64 bs (Ok n) parses plain in
    sym (decimal-digits_value own bs is.0.0 is.0.1 leading is.0.2) ∙ ap decimal (sym is.1)

pub parsed_only : {E : Type 0} (bs : List ℕ) (r : Result ℕ E) (n : ℕ) → ParsesUnsigned 64 10 bs r → n < 2 ^ 64 → bs ≡ decimal n → result_ok r ≡ Some n
parsed_only bs r n parses small is = ap result_ok (parse-decimal 64 n bs r small small is parses)

-- how the decimal of a number begins
pub begins : (n : ℕ) → n < 2 ^ 64 → (decimal n ≡ 48 ∷ []) ⊎ ((48 < get_or (decimal n) 0 0) × (get_or (decimal n) 0 0 ≤ 57))
begins n small =
    elim (cases_lt 0 n) [
      | inl some ↦
          let numeral = (decimal_is_IsNumeral n small).0 in
          let digit = digit_at (decimal n) 0 numeral.1 numeral.0 in
          inr (first_decimal n some small, digit.1)
      | inr none ↦ let is : n ≡ 0 = omega (arith, none) in inl (ap decimal is ∙ decimal_digit 0 (omega arith))
    ]

-- the two numbers of a handle's text
no_dot : (n : ℕ) → n < 2 ^ 64 → (i : ℕ) → i < length (decimal n) → get_or (decimal n) i 0 ≢ 46
no_dot n small i low is =
    let numeral = (decimal_is_IsNumeral n small).0 in
    let digit = digit_at (decimal n) i numeral.1 low in
    omega (arith, digit.0, is)

pub handle_parts : (text : List ℕ) (key : Key) (r : Option (Bor (List ℕ) × Bor (List ℕ))) → IsSplitOnceResult 46 text r → IsHandle key → text ≡ handle_text key
    → MatchOption r ⊥ (λ x. (x.0.now ≡ decimal key.number) × (x.1.now ≡ decimal key.generation))
handle_parts text key r split ok is =
    split_after 46 text (decimal key.number) (decimal key.generation) r split (omega arith) is (no_dot key.number (omega (arith, ok.number)))
