-- Words that were read, and words that were refused.
use Rattle.std.proofs.Common.{◌≡◌, ℕ, Bool, true, false, List, [], ◌∷◌, Option, None, Some, Result, Ok, Err, IsTrue, length, refl, sym, ap, ◌∙◌, subst, arith, cond}
use Rattle.std.specs.Str.{bytes_eq}
use Rattle.std.specs.List.{list_any}
use Rattle.std.specs.Result.{MatchResult}
use Rattle.std.proofs.lemmas.Slice.Eq.{bytes_eq-Decides}
use Rattle.std.proofs.lemmas.Bool.{both_ways}
use Rattle.script.specs.declared.fault.Rule.{Rule}
use Rattle.script.specs.declared.fault.Rule.TheVariants as rule
use Rattle.script.specs.declared.fault.LineFault.{LineFault}
use Rattle.script.specs.declared.fault.LineFault.TheVariants as fault
use Rattle.script.specs.declared.commands.Call.{Call}
use Rattle.script.specs.declared.commands.Control.{Control}
use Rattle.script.specs.declared.types.Command.{Command}
use Rattle.script.specs.Words.{Kind, FitAll, is_letter, words_of}
use Rattle.script.specs.Words.Kind.{actor}
use Rattle.script.specs.Commands.{written_so, call_word, call_kinds, call_named, calls, control_word, control_of, controls}
use Rattle.script.specs.Rules.{Outline, Known, call_outline, outline_at, begin_outline, control_outline, plain_outline, outline, LineBreaks, IsInside, is_stray}
use Rattle.script.specs.Meaning.{Denotes, IsCommand}
use Rattle.script.specs.Reading.{BreaksAt, IsOutlineFault, ReadsAs, IsLineFault}

-- what is found by its word has that word
pub written_word : {C : Type 0} (word_of : C → List ℕ) (cs : List C) (word : List ℕ) (c : C) → written_so word_of cs word ≡ Some c → word ≡ word_of c
written_word word_of [] word c found = let bad : None ≡ Some c = found in absurd cc
written_word {C = C} word_of (d ∷ cs) word c found =
    let by : (b : Bool) → bytes_eq word (word_of d) ≡ b → cond b (Some d) (written_so word_of cs word) ≡ Some c → word ≡ word_of c =
    λ b. elim b as (λ v. bytes_eq word (word_of d) ≡ v → cond v (Some d) (written_so word_of cs word) ≡ Some c → word ≡ word_of c) [
      | true ↦ λ same is. let one : d ≡ c = cc in (bytes_eq-Decides word (word_of d)).0 same ∙ ap word_of one
      | false ↦ λ other is. written_word word_of cs word c is
    ]
    in by (bytes_eq word (word_of d)) refl found

pub call_written : (word : List ℕ) (call : Call) → Some call ≡ call_named word → word ≡ call_word call
unfolding call_named
call_written word call found = written_word call_word calls word call (sym found)

pub control_written : (word : List ℕ) (control : Control) → Some control ≡ control_of word → word ≡ control_word control
unfolding control_of
control_written word control found = written_word control_word controls word control (sym found)

pub fit_length : (kinds : List Kind) (words : List (List ℕ)) → FitAll kinds words → length kinds ≡ length words
fit_length [] [] fit = refl
fit_length [] (word ∷ words) fit = absurd fit
fit_length (kind ∷ kinds) [] fit = absurd fit
fit_length (kind ∷ kinds) (word ∷ words) fit = omega (arith, fit_length kinds words fit.1)

-- words that fit the one list of kinds break no rule
pub known_right : (kinds : List Kind) (words : List (List ℕ)) → FitAll kinds words → (r : Rule) → BreaksAt r (Known (kinds ∷ []) words) → ⊥
known_right kinds words fit rule.Bytes h = h
known_right kinds words fit rule.FirstWord h = h
known_right kinds words fit rule.WordCount h = h.0 (fit_length kinds words fit)
known_right kinds words fit rule.WordForm h = h.0 fit
known_right kinds words fit rule.CallFollows h = h

-- words of which one does not fit, where there are as many
pub known_misfit : (kinds : List Kind) (words : List (List ℕ)) → length kinds ≡ length words → (FitAll kinds words → ⊥) → IsOutlineFault (Known (kinds ∷ []) words) (fault.Breaks rule.WordForm)
known_misfit kinds words count misfit = (
  (misfit, tt),
  elim [
    | rule.Bytes ↦ λ low h. h
    | rule.FirstWord ↦ λ low h. h
    | rule.WordCount ↦ λ low h. h.0 count
    | rule.WordForm ↦ λ low h. absurd (omega (arith, low))
    | rule.CallFollows ↦ λ low h. h
  ],
)

pub call_right : (words rest : List (List ℕ)) (word : List ℕ) (call : Call) → words ≡ word ∷ rest → Some call ≡ call_named word → FitAll (call_kinds call) rest
    → (r : Rule) → BreaksAt r (call_outline [] [] words) → ⊥
call_right words rest word call is found fit r h =
    known_right (call_kinds call) rest fit r (subst (λ (o : Option Call). BreaksAt r (outline_at [] [] rest o)) (sym found) (subst (λ (w : List (List ℕ)). BreaksAt r (call_outline [] [] w)) is h))

begin_known : (words rest : List (List ℕ)) (who word : List ℕ) (call : Call) → words ≡ who ∷ word ∷ rest → Some call ≡ call_named word
    → begin_outline words ≡ Known ((actor ∷ call_kinds call) ∷ []) (who ∷ rest)
begin_known words rest who word call is found = ap begin_outline is ∙ sym (ap (outline_at (actor ∷ []) (who ∷ []) rest) found)

pub begin_right : (words rest : List (List ℕ)) (who word : List ℕ) (call : Call) → words ≡ who ∷ word ∷ rest → Some call ≡ call_named word → IsTrue (is_letter who)
    → FitAll (call_kinds call) rest → (r : Rule) → BreaksAt r (begin_outline words) → ⊥
begin_right words rest who word call is found letter fit r h =
    known_right (actor ∷ call_kinds call) (who ∷ rest) (letter, fit) r (subst (BreaksAt r) (begin_known words rest who word call is found) h)

pub begin_misfit : (words rest : List (List ℕ)) (who word : List ℕ) (call : Call) → words ≡ who ∷ word ∷ rest → Some call ≡ call_named word → is_letter who ≡ false
    → FitAll (call_kinds call) rest → IsOutlineFault (begin_outline words) (fault.Breaks rule.WordForm)
begin_misfit words rest who word call is found none fit =
    subst (λ (o : Outline). IsOutlineFault o (fault.Breaks rule.WordForm)) (sym (begin_known words rest who word call is found))
    (known_misfit (actor ∷ call_kinds call) (who ∷ rest) (omega (arith, fit_length (call_kinds call) rest fit)) (λ h. both_ways (is_letter who) none h.0))

pub plain_right : (words : List (List ℕ)) (o : Option Call) (control : Option Control) (call : Call) → Some call ≡ o → FitAll (call_kinds call) words
    → (r : Rule) → BreaksAt r (plain_outline words o control) → ⊥
plain_right words o control call found fit r h = known_right (call_kinds call) words fit r (subst (λ (p : Option Call). BreaksAt r (plain_outline words p control)) (sym found) h)

pub plain_control : (words : List (List ℕ)) (first : List ℕ) (control : Control) (result : Result Command LineFault) → None ≡ call_named first → Some control ≡ control_of first
    → ReadsAs (control_outline words control) (control_word control ∷ words) result → ReadsAs (plain_outline words (call_named first) (control_of first)) (first ∷ words) result
plain_control words first control result no_call found reads =
    subst (λ (o : Option Call). ReadsAs (plain_outline words o (control_of first)) (first ∷ words) result) no_call
    (subst (λ (o : Option Control). ReadsAs (plain_outline words None o) (first ∷ words) result) found
    (subst (λ (w : List ℕ). ReadsAs (control_outline words control) (w ∷ words) result) (sym (control_written first control found)) reads))

-- the rules of a line without stray bytes are those of its outline
to_line : (line : List ℕ) (r : Rule) → BreaksAt r (outline (words_of line)) → LineBreaks r line
to_line line rule.Bytes h = absurd h
to_line line rule.FirstWord h = h
to_line line rule.WordCount h = h
to_line line rule.WordForm h = h
to_line line rule.CallFollows h = h

from_line : (line : List ℕ) → list_any is_stray line ≡ false → (r : Rule) → LineBreaks r line → BreaksAt r (outline (words_of line))
from_line line clean rule.Bytes h = both_ways (list_any is_stray line) clean h
from_line line clean rule.FirstWord h = h
from_line line clean rule.WordCount h = h
from_line line clean rule.WordForm h = h
from_line line clean rule.CallFollows h = h

pub line_read : (line : List ℕ) (result : Result Command LineFault) → list_any is_stray line ≡ false → ReadsAs (outline (words_of line)) (words_of line) result
    → MatchResult result (λ command. IsInside line × Denotes (words_of line) command × IsCommand command) (IsLineFault line)
line_read line (Ok command) clean h = ((λ r b. h.0 r (from_line line clean r b)), h.1, h.2)
line_read line (Err (fault.Breaks r)) clean h = (to_line line r h.0, (λ other low b. h.1 other low (from_line line clean other b)))
line_read line (Err fault.NoMemory) clean h = tt
