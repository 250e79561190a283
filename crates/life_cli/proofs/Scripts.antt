-- The lines of a script, and which of them is refused.
use Rattle.std.proofs.Common.{◌≡◌, ◌==◌, ◌+◌, ◌≤◌, ℕ, zero, suc, Bool, true, false, if◌then◌else◌, List, [], ◌∷◌, Some, length, slice_get, inl, inr, cond, refl, sym, ap, ◌∙◌, subst, arith}
use Rattle.std.specs.List.{AllByRecursion, onto_first}
use Rattle.std.proofs.lemmas.Bool.{cases_lt}
use Rattle.std.proofs.lemmas.Slice.Zip.{AllZip-long}
use Rattle.script.specs.declared.types.Command.{Command}
use Rattle.script.specs.declared.types.Line.{Line}
use Rattle.script.specs.Meaning.{Denotes, IsCommand}
use Rattle.script.specs.Rules.{IsInside, rule_number}
use Rattle.script.specs.declared.fault.Rule.{Rule}
use Rattle.script.specs.declared.fault.Rule.TheVariants as rule
use Rattle.script.specs.Scripts.{Numbered, AreReadAs, IsFirstFault, IsInGrammar, IsReadAs, asking_lines, is_skipped, lines_of, numbered_lines}
use Rattle.script.specs.Words.{words_of}
use Rattle.life_cli.specs.Outcome.{IsFaultAt, IsFirstNotRun, IsNotRunAt, IsReadable}

-- that a script has at most one first fault, and none where it is in the grammar; and that no words are two commands
pub record ScriptLaws : Type 0 where
  pub none : (bytes : List ℕ) (line rule : ℕ) → IsInGrammar bytes → IsFirstFault (asking_lines bytes) line rule → ⊥
  pub one : (bytes : List ℕ) (line rule other named : ℕ) → IsFirstFault (asking_lines bytes) line rule → IsFirstFault (asking_lines bytes) other named
      → (line ≡ other) × (rule ≡ named)
  pub command : (words : List (List ℕ)) (a b : Command) → IsCommand a → IsCommand b → Denotes words a → Denotes words b → a ≡ b

-- ---- a script is read as one list of lines

same_line : ScriptLaws → (asking : Numbered) (a b : Line) → IsReadAs asking a → IsReadAs asking b → a ≡ b
same_line law asking a b x y =
    let number : a.number ≡ b.number = x.number ∙ sym y.number in
    let command : a.command ≡ b.command = law.command (words_of asking.text) a.command b.command x.command y.command x.denotes y.denotes in
    ap (λ (n : ℕ). record { number = n; command = a.command }) number ∙ ap (λ (c : Command). record { number = b.number; command = c }) command

same_lines : ScriptLaws → (asking : List Numbered) (a b : List Line) → AreReadAs asking a → AreReadAs asking b → a ≡ b
same_lines law [] [] [] x y = refl
same_lines law [] [] (m ∷ ms) x y = absurd y
same_lines law [] (l ∷ ls) b x y = absurd x
same_lines law (q ∷ qs) [] b x y = absurd x
same_lines law (q ∷ qs) (l ∷ ls) [] x y = absurd y
same_lines law (q ∷ qs) (l ∷ ls) (m ∷ ms) x y =
    ap (λ (k : Line). k ∷ ls) (same_line law q l m x.0 y.0) ∙ ap (λ (ks : List Line). m ∷ ks) (same_lines law qs ls ms x.1 y.1)

inside_of : (asking : List Numbered) (lines : List Line) → AreReadAs asking lines → AllByRecursion (λ (a : Numbered). IsInside a.text) asking
inside_of [] lines read = tt
inside_of (q ∷ qs) [] read = absurd read
inside_of (q ∷ qs) (l ∷ ls) read = (read.0.inside, inside_of qs ls read.1)

-- ---- a script is refused for one line, by one rule

one_not_run : (lines : List Line) (n m : ℕ) → IsFirstNotRun lines n → IsFirstNotRun lines m → n ≡ m
one_not_run lines n m x y =
    elim (cases_lt x.at y.at) [
      | inl below ↦ absurd (x.not_run (y.before x.at x.line below x.is))
      | inr above ↦ elim (cases_lt y.at x.at) [
        | inl below ↦ absurd (y.not_run (x.before y.at y.line below y.is))
        | inr still ↦
            let at : y.at ≡ x.at = omega arith in
            let same : Some y.line ≡ Some x.line = sym y.is ∙ ap (slice_get lines) at ∙ x.is in
            let line : y.line ≡ x.line = cc in
            x.number_is ∙ ap (λ (l : Line). l.number) (sym line) ∙ sym y.number_is
      ]
    ]

not_run_both : ScriptLaws → (bytes : List ℕ) (n m : ℕ) → IsNotRunAt bytes n → IsNotRunAt bytes m → n ≡ m
not_run_both law bytes n m x y =
    one_not_run y.0 n m (subst (λ (l : List Line). IsFirstNotRun l n) (same_lines law (asking_lines bytes) x.0 y.0 x.1 y.1) x.2) y.2

pub one_fault : ScriptLaws → (bytes : List ℕ) (line other r s : ℕ) → IsFaultAt bytes line r → IsFaultAt bytes other s → (line ≡ other) × (r ≡ s)
one_fault law bytes line other zero zero x y = (not_run_both law bytes line other (x.not_run refl) (y.not_run refl), refl)
one_fault law bytes line other zero (suc s) x y =
    let read = x.not_run refl in
    absurd (law.none bytes other (suc s) (inside_of (asking_lines bytes) read.0 read.1) (y.grammar (omega arith)))
one_fault law bytes line other (suc r) zero x y =
    let read = y.not_run refl in
    absurd (law.none bytes line (suc r) (inside_of (asking_lines bytes) read.0 read.1) (x.grammar (omega arith)))
one_fault law bytes line other (suc r) (suc s) x y = law.one bytes line (suc r) other (suc s) (x.grammar (omega arith)) (y.grammar (omega arith))

-- a script whose lines are all run has none for which it is refused
pub not_readable : ScriptLaws → (bytes : List ℕ) (line r : ℕ) → IsReadable bytes → IsFaultAt bytes line r → ⊥
not_readable law bytes line zero readable fault =
    let it = fault.not_run refl in
    let first : IsFirstNotRun readable.lines line =
    subst (λ (l : List Line). IsFirstNotRun l line) (same_lines law (asking_lines bytes) it.0 readable.lines it.1 readable.read) it.2 in
    first.not_run (readable.steady first.at first.line first.is)
not_readable law bytes line (suc r) readable fault = law.none bytes line (suc r) readable.inside (fault.grammar (omega arith))

-- ---- why a script is refused that was parsed

numbered : (r : Rule) → 1 ≤ rule_number r
numbered rule.Bytes = omega arith
numbered rule.FirstWord = omega arith
numbered rule.WordCount = omega arith
numbered rule.WordForm = omega arith
numbered rule.CallFollows = omega arith

pub fault_of_grammar : (bytes : List ℕ) (line r : ℕ) → length bytes ≤ 16777216 → IsFirstFault (asking_lines bytes) line r → IsFaultAt bytes line r
fault_of_grammar bytes line r short first = record {
  short = short;
  grammar = λ some. first;
  not_run = λ zero.
      let named = first.named in
      let some = numbered first.broken in
      absurd (omega arith);
}

pub fault_of_line : (bytes : List ℕ) (lines : List Line) (line : ℕ) → length bytes ≤ 16777216 → AreReadAs (asking_lines bytes) lines → IsFirstNotRun lines line
    → IsFaultAt bytes line 0
fault_of_line bytes lines line short read first = record {
  short = short;
  grammar = λ some. absurd (omega (arith, some));
  not_run = λ zero. (lines, read, first);
}

-- ---- a script has no more lines that ask for something than bytes

few_one : (skipped : Bool) (a : Numbered) → length (if skipped then [] else a ∷ []) ≤ 1
few_one true a = omega arith
few_one false a = omega arith

few_more : (skipped other : Bool) (a b : Numbered) (rest : List Numbered) → length (if skipped then rest else a ∷ rest) ≤ 1 + length (if other then rest else b ∷ rest)
few_more true true a b rest = omega arith
few_more true false a b rest = omega arith
few_more false true a b rest = omega arith
few_more false false a b rest = omega arith

few_onto : (b n : ℕ) (pieces : List (List ℕ)) → length (numbered_lines n (onto_first b pieces)) ≤ 1 + length (numbered_lines n pieces)
few_onto b n [] = few_one (is_skipped (b ∷ [])) (record { number = n; text = b ∷ [] })
few_onto b n (piece ∷ pieces) =
    few_more (is_skipped (b ∷ piece)) (is_skipped piece) (record { number = n; text = b ∷ piece }) (record { number = n; text = piece }) (numbered_lines (n + 1) pieces)

few_cut : (ends : Bool) (b n : ℕ) (bytes : List ℕ) → length (numbered_lines (n + 1) (lines_of bytes)) ≤ length bytes
    → length (numbered_lines n (lines_of bytes)) ≤ length bytes
    → length (numbered_lines n (cond ends ([] ∷ lines_of bytes) (onto_first b (lines_of bytes)))) ≤ 1 + length bytes
few_cut true b n bytes behind same = omega (arith, behind)
few_cut false b n bytes behind same = omega (arith, few_onto b n (lines_of bytes), same)

few_numbered : (n : ℕ) (bytes : List ℕ) → length (numbered_lines n (lines_of bytes)) ≤ length bytes
few_numbered n [] = omega arith
few_numbered n (b ∷ bytes) =
    let it : length (numbered_lines n (lines_of (b ∷ bytes))) ≤ 1 + length bytes = few_cut (b == 10) b n bytes (few_numbered (n + 1) bytes) (few_numbered n bytes) in
    omega (arith, it)

pub few_lines : (bytes : List ℕ) (lines : List Line) → length bytes ≤ 16777216 → AreReadAs (asking_lines bytes) lines → length lines ≤ 16777216
few_lines bytes lines short read =
    omega (arith, AllZip-long IsReadAs (asking_lines bytes) lines read, few_numbered 1 bytes)
