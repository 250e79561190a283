-- Words in a form are words of a command.
use Rattle.std.proofs.Common.{◌<◌, ◌≤◌, ◌^◌, ℕ, List, [], ◌∷◌, String, Global, codes, get_or, arith}
use Rattle.std.proofs.lemmas.Fmt.{first_decimal}
use Rattle.std.specs.Fmt.{decimal}
use Rattle.life_cli.specs.Words.{BeginWith}
use Rattle.life_cli.specs.Form.{IsNoForm, IsPath}

-- a text that begins above the digit 0 is no option
no_option : (text : List ℕ) → 48 < get_or text 0 0 → IsPath text
no_option [] above = absurd (omega arith)
no_option (first ∷ rest) above = λ e. absurd (omega arith)

number : (n : ℕ) → 1 ≤ n → n < 2 ^ 32 → IsPath (decimal n)
number n least most = no_option (decimal n) (first_decimal n (omega arith) (omega arith))

pub no_form : (words : List (String Global)) → ((form : List ℕ) → BeginWith words form → ⊥) → IsNoForm words
no_form words none = record {
  no_steps = λ path is. none (codes "steps") (path ∷ [], (is.0, ((λ e. absurd (omega arith)), (is.1, tt))));
  no_check = λ path is. none (codes "check") (path ∷ [], (is.0, ((λ e. absurd (omega arith)), (is.1, tt))));
  no_make = λ path g make. none (codes "make") (
    path ∷ decimal g.groups ∷ decimal g.blocks ∷ decimal g.ring ∷ [],
    (
      make.0,
      (
        (λ e. absurd (omega arith)),
        (
          make.1,
          (
            number g.groups (omega (arith, make.2.0.groups)) (omega (arith, make.2.0.groups)),
            (
              number g.blocks (omega (arith, make.2.0.blocks)) (omega (arith, make.2.0.blocks)),
              (number g.ring (omega (arith, make.2.0.ring)) (omega (arith, make.2.0.ring)), tt),
            ),
          ),
        ),
      ),
    ),
  );
}
