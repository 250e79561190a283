use Rattle.std.proofs.Common.{◌≡◌, ◌≢◌, ◌<◌, ◌≤◌, ℕ, true, false, List, get_or, length, sym, subst, ◌∙◌, inl, inr}
use Rattle.std.specs.Fmt.{decimal}
use Rattle.std.proofs.lemmas.Bool.{both_ways}
use Rattle.life_table.proofs.Numbers.{parsed, parsed_only, begins}
use Rattle.life_table.proofs.handle.read_number.Goals as goal

pub returns-then-not-begins_as_number-clause-only : goal.returns-then-not-begins_as_number-clause-only
returns-then-not-begins_as_number-clause-only c n small is =
    let bytes : c.as_bytes.result.now ≡ decimal n = c.as_bytes.ensures.value ∙ is in
    let no : c.begins_as_number.result ≡ false = c.if-not-begins_as_number.true in
    absurd (both_ways c.begins_as_number.result no (
    elim (begins n small) [
      | inl zero ↦ c.begins_as_number.ensures.is_zero (bytes ∙ zero)
      | inr more ↦ c.begins_as_number.ensures.is_more (subst (λ (s : List ℕ). 48 < get_or s 0 0) (sym bytes) more.0) (subst (λ (s : List ℕ). get_or s 0 0 ≤ 57) (sym bytes) more.1)
    ]))

pub returns-clause-found : goal.returns-clause-found
returns-clause-found c =
    let yes : c.begins_as_number.result ≡ true = c.if-not-begins_as_number.false in
    let plain = subst (λ (s : List ℕ). get_or s 0 0 ≢ 43) c.as_bytes.ensures.value (c.begins_as_number.ensures.no_plus yes) in
    let leading = subst (λ (s : List ℕ). get_or s 0 0 ≡ 48 → length s ≡ 1) c.as_bytes.ensures.value (c.begins_as_number.ensures.zero yes) in
    rw c.ok.ensures.value (parsed c.args.text.now c.parse.result c.parse.ensures.value.0 plain leading)

pub returns-clause-only : goal.returns-clause-only
returns-clause-only c n small is = c.ok.ensures.value ∙ parsed_only c.args.text.now c.parse.result n c.parse.ensures.value.0 small is
