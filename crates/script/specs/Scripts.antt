-- What a script is read as.
use Rattle.std.specs.Prelude.{◌≡◌, ◌==◌, ◌+◌, ℕ, Bool, true, List, [], ◌∷◌, ◌++◌, if◌then◌else◌}
use Rattle.std.specs.List.{slice_split, AllZip, AllByRecursion}
use Rattle.script.specs.declared.fault.Rule.{Rule}
use Rattle.script.specs.declared.types.Line.{Line}
use Rattle.script.specs.Words.{words_of}
use Rattle.script.specs.Rules.{IsInside, IsLeastBroken, rule_number}
use Rattle.script.specs.Meaning.{Denotes, IsCommand}

-- the lines of a script, cut at line feeds; behind the last one stands an empty line
abbrev pub lines_of : List ℕ → List (List ℕ)
lines_of bytes = slice_split (λ b. b == 10) bytes

-- a line that is empty or begins with # is skipped
abbrev pub is_skipped : List ℕ → Bool
is_skipped [] = true
is_skipped (first ∷ rest) = first == 35

-- a line with its number
pub record Numbered : Type 0 where
  pub number : ℕ
  pub text : List ℕ

-- of lines of which the first has this number, those that are not skipped
abbrev pub numbered_lines : ℕ → List (List ℕ) → List Numbered
numbered_lines number [] = []
numbered_lines number (line ∷ lines) =
    if is_skipped line then numbered_lines (number + 1) lines else record { number = number; text = line } ∷ numbered_lines (number + 1) lines

-- the lines of a script that ask for something, which are numbered from 1
abbrev pub asking_lines : List ℕ → List Numbered
asking_lines bytes = numbered_lines 1 (lines_of bytes)

-- the line is in the grammar, and was read as what it denotes
pub record IsReadAs (asking : Numbered) (line : Line) : Type 0 where
  pub number : line.number ≡ asking.number
  pub inside : IsInside asking.text
  pub denotes : Denotes (words_of asking.text) line.command
  pub command : IsCommand line.command

-- each line of the script that asks for something is in the grammar
abbrev pub IsInGrammar : List ℕ → Type 0
IsInGrammar bytes = AllByRecursion (λ asking. IsInside asking.text) (asking_lines bytes)

-- the lines were read, each as what it denotes
abbrev pub AreReadAs : List Numbered → List Line → Type 0
AreReadAs asking lines = AllZip IsReadAs asking lines

-- of these lines the one of this number is the first outside the grammar, and this the least rule that it breaks
pub record IsFirstFault (asking : List Numbered) (line rule : ℕ) : Type 0 where
  pub before : List Numbered
  pub at : Numbered
  pub behind : List Numbered
  pub lines : asking ≡ before ++ at ∷ behind
  pub inside : AllByRecursion (λ earlier. IsInside earlier.text) before
  pub number : line ≡ at.number
  pub broken : Rule
  pub least : IsLeastBroken broken at.text
  pub named : rule ≡ rule_number broken
