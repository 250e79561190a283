-- How far a script was read.
use Rattle.std.proofs.Common.{◌≡◌, ◌+◌, ◌≤◌, ◌++◌, ℕ, inl, inr, false, List, [], ◌∷◌, length, eqb, sym, ap, ◌∙◌, subst, arith, cond}
use Rattle.std.specs.List.{AllZip, AllByRecursion}
use Rattle.std.proofs.lemmas.Bool.{cases_lt}
use Rattle.std.proofs.lemmas.List.{append_assoc, append-nil}
use Rattle.std.proofs.lemmas.List.Splits.{length-slice_split}
use Rattle.std.proofs.lemmas.List.Sums.{count_by-le-length}
use Rattle.script.specs.declared.fault.Rule.{Rule}
use Rattle.script.specs.declared.fault.LineFault.{LineFault}
use Rattle.script.specs.declared.fault.LineFault.TheVariants as fault
use Rattle.script.specs.declared.fault.ScriptFault.TheVariants as script
use Rattle.script.specs.declared.types.Line.{Line}
use Rattle.script.specs.Rules.{IsInside, IsLeastBroken, rule_number}
use Rattle.script.specs.Reading.{IsLineFault, fault_at}
use Rattle.script.specs.Scripts.{Numbered, IsReadAs, IsFirstFault, is_skipped, lines_of, numbered_lines}

-- no script has more lines than bytes, but for one
pub few_lines : (bytes : List ℕ) → length (lines_of bytes) ≤ length bytes + 1
few_lines bytes = omega (arith, length-slice_split (λ b. eqb b 10) bytes, count_by-le-length (λ b. eqb b 10) bytes)

push : (done : List Numbered) (lines : List Line) (asking : Numbered) (line : Line) → AllZip IsReadAs done lines → IsReadAs asking line
    → AllZip IsReadAs (done ++ asking ∷ []) (lines ++ line ∷ [])
push [] [] asking line h one = (one, tt)
push [] (l ∷ lines) asking line h one = absurd h
push (d ∷ done) [] asking line h one = absurd h
push (d ∷ done) (l ∷ lines) asking line h one = (h.0, push done lines asking line h.1 one)

inside_of : (done : List Numbered) (lines : List Line) → AllZip IsReadAs done lines → AllByRecursion (λ earlier. IsInside earlier.text) done
inside_of [] [] h = tt
inside_of [] (l ∷ lines) h = absurd h
inside_of (d ∷ done) [] h = absurd h
inside_of (d ∷ done) (l ∷ lines) h = (h.0.inside, inside_of done lines h.1)

-- when no line is left, all were read
pub inside_all : (asking : List Numbered) (lines : List Line) (number : ℕ) (all : List (List ℕ))
    → (done : List Numbered) × (asking ≡ done ++ numbered_lines number all) × AllZip IsReadAs done lines → all ≡ [] → AllByRecursion (λ earlier. IsInside earlier.text) asking
inside_all asking lines number all (done, is, read) none =
    let same : asking ≡ done = is ∙ ap (λ (l : List (List ℕ)). done ++ numbered_lines number l) none ∙ append-nil done in
    subst (λ (l : List Numbered). AllByRecursion (λ earlier. IsInside earlier.text) l) (sym same) (inside_of done lines read)

-- a line that asks for something is the next of those that do
asks : (number : ℕ) (text : List ℕ) (rest all : List (List ℕ)) → all ≡ text ∷ rest → is_skipped text ≡ false
    → numbered_lines number all ≡ record { number = number; text = text } ∷ numbered_lines (number + 1) rest
asks number text rest all is kept = ap (numbered_lines number) is ∙ ap (λ b. cond b (numbered_lines (number + 1) rest) (record { number = number; text = text } ∷ numbered_lines (number + 1) rest)) kept

-- one more line was read
pub read_more : (asking : List Numbered) (lines : List Line) (number : ℕ) (text : List ℕ) (rest all : List (List ℕ)) (line : Line)
    → (done : List Numbered) × (asking ≡ done ++ numbered_lines number all) × AllZip IsReadAs done lines
    → all ≡ text ∷ rest → is_skipped text ≡ false → IsReadAs (record { number = number; text = text }) line
    → (done : List Numbered) × (asking ≡ done ++ numbered_lines (number + 1) rest) × AllZip IsReadAs done (lines ++ line ∷ [])
read_more asking lines number text rest all line (done, is, read) here kept one = (
  done ++ record { number = number; text = text } ∷ [],
  is ∙ ap (λ (l : List Numbered). done ++ l) (asks number text rest all here kept) ∙ sym (append_assoc done (record { number = number; text = text } ∷ []) (numbered_lines (number + 1) rest)),
  push done lines (record { number = number; text = text }) line read one,
)

-- the line that was refused is the first
pub first_fault : (asking : List Numbered) (lines : List Line) (number : ℕ) (text : List ℕ) (rest all : List (List ℕ)) (refused : LineFault) (line named : ℕ)
    → (done : List Numbered) × (asking ≡ done ++ numbered_lines number all) × AllZip IsReadAs done lines
    → all ≡ text ∷ rest → is_skipped text ≡ false → IsLineFault text refused → fault_at number refused ≡ script.Outside line named → IsFirstFault asking line named
first_fault asking lines number text rest all (fault.Breaks r) line named (done, is, read) here kept least told = record {
  before = done;
  at = record { number = number; text = text };
  behind = numbered_lines (number + 1) rest;
  lines = is ∙ ap (λ (l : List Numbered). done ++ l) (asks number text rest all here kept);
  inside = inside_of done lines read;
  number = cc;
  broken = r;
  least = least;
  named = cc;
}
first_fault asking lines number text rest all fault.NoMemory line named so_far here kept least told = absurd cc

-- a line that breaks a rule is not in the grammar
outside : (asking : Numbered) (r : Rule) → IsLeastBroken r asking.text → IsInside asking.text → ⊥
outside asking r least inside = inside r least.0

-- of two first lines outside the grammar
pub same_line : (before before' : List Numbered) (at at' : Numbered) (behind behind' : List Numbered) → before ++ at ∷ behind ≡ before' ++ at' ∷ behind'
    → AllByRecursion (λ earlier. IsInside earlier.text) before → AllByRecursion (λ earlier. IsInside earlier.text) before'
    → (IsInside at.text → ⊥) → (IsInside at'.text → ⊥) → at ≡ at'
same_line [] [] at at' behind behind' is h h' bad bad' = cc
same_line [] (b ∷ before') at at' behind behind' is h h' bad bad' =
    let head : at ≡ b = cc in absurd (bad (subst (λ (n : Numbered). IsInside n.text) (sym head) h'.0))
same_line (b ∷ before) [] at at' behind behind' is h h' bad bad' =
    let head : b ≡ at' = cc in absurd (bad' (subst (λ (n : Numbered). IsInside n.text) head h.0))
same_line (b ∷ before) (b' ∷ before') at at' behind behind' is h h' bad bad' =
    let rest : before ++ at ∷ behind ≡ before' ++ at' ∷ behind' = cc in same_line before before' at at' behind behind' rest h.1 h'.1 bad bad'

pub same_rule : (text : List ℕ) (r r' : Rule) → IsLeastBroken r text → IsLeastBroken r' text → rule_number r ≡ rule_number r'
same_rule text r r' least least' =
    elim (cases_lt (rule_number r) (rule_number r')) [
      | inl low ↦ absurd (least'.1 r low least.0)
      | inr high ↦ elim (cases_lt (rule_number r') (rule_number r)) [
        | inl low ↦ absurd (least.1 r' low least'.0)
        | inr high' ↦ omega arith
      ]
    ]

pub one_fault : (asking : List Numbered) (line rule line' rule' : ℕ) → IsFirstFault asking line rule → IsFirstFault asking line' rule' → (line ≡ line') × (rule ≡ rule')
one_fault asking line rule line' rule' f f' =
    let same : f.at ≡ f'.at =
    same_line f.before f'.before f.at f'.at f.behind f'.behind (sym f.lines ∙ f'.lines) f.inside f'.inside (outside f.at f.broken f.least) (outside f'.at f'.broken f'.least)
    in (
      f.number ∙ ap (λ (n : Numbered). n.number) same ∙ sym f'.number,
      f.named ∙ same_rule f'.at.text f.broken f'.broken (subst (λ (n : Numbered). IsLeastBroken f.broken n.text) same f.least) f'.least ∙ sym f'.named,
    )

found_inside : (before : List Numbered) (at : Numbered) (behind : List Numbered) → AllByRecursion (λ earlier. IsInside earlier.text) (before ++ at ∷ behind) → IsInside at.text
found_inside [] at behind h = h.0
found_inside (b ∷ before) at behind h = found_inside before at behind h.1

pub no_fault : (asking : List Numbered) (line rule : ℕ) → AllByRecursion (λ earlier. IsInside earlier.text) asking → IsFirstFault asking line rule → ⊥
no_fault asking line rule all f = outside f.at f.broken f.least (found_inside f.before f.at f.behind (subst (λ (l : List Numbered). AllByRecursion (λ earlier. IsInside earlier.text) l) f.lines all))
