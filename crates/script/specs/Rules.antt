-- The rules of the grammar, and which of them a line breaks.
use Rattle.std.specs.Prelude.{◌≢◌, ◌<◌, ◌||◌, nat_lt, ℕ, Bool, List, [], ◌∷◌, ◌++◌, Option, None, Some, length, IsTrue, if◌then◌else◌}
use Rattle.std.specs.List.{list_any, AllByRecursion}
use Rattle.script.specs.declared.fault.Rule.{Rule}
use Rattle.script.specs.declared.fault.Rule.TheVariants as rule
use Rattle.script.specs.declared.commands.Call.{Call}
use Rattle.script.specs.declared.commands.Control.{Control}
use Rattle.script.specs.declared.commands.Control.TheVariants as control
use Rattle.script.specs.Words.{Kind, FitAll, is_letter, words_of}
use Rattle.script.specs.Words.Kind.{actor, name, handle, write, sectors}
use Rattle.script.specs.Commands.{call_kinds, call_named, control_of}

-- the numbers by which the rules are named
abbrev pub rule_number : Rule → ℕ
rule_number rule.Bytes = 1
rule_number rule.FirstWord = 2
rule_number rule.WordCount = 3
rule_number rule.WordForm = 4
rule_number rule.CallFollows = 5

-- what the commands in a line leave to be checked
pub data Outline : Type 0 where
  -- the first word is neither an actor's letter nor a command
  Unknown : Outline
  -- no word stands where a call's command has to stand
  Short : Outline
  -- a word that is no call's command stands there, behind these words, which have to be of these kinds
  NoCall : List Kind → List (List ℕ) → Outline
  -- the words beside the commands, and the lists of kinds of which one has to fit them
  Known : List (List Kind) → List (List ℕ) → Outline

-- a call's command is sought, behind these words of these kinds; it was found or not
abbrev pub outline_at : List Kind → List (List ℕ) → List (List ℕ) → Option Call → Outline
outline_at kinds ahead rest None = NoCall kinds ahead
outline_at kinds ahead rest (Some call) = Known ((kinds ++ call_kinds call) ∷ []) (ahead ++ rest)

abbrev pub call_outline : List Kind → List (List ℕ) → List (List ℕ) → Outline
call_outline kinds ahead [] = Short
call_outline kinds ahead (word ∷ rest) = outline_at kinds ahead rest (call_named word)

-- behind `begin`: an actor, and a call
abbrev pub begin_outline : List (List ℕ) → Outline
begin_outline [] = Short
begin_outline (who ∷ rest) = call_outline (actor ∷ []) (who ∷ []) rest

-- behind the word of a control line
abbrev pub control_outline : List (List ℕ) → Control → Outline
control_outline rest control.Mount = Known ([] ∷ []) rest
control_outline rest control.Unmount = Known ([] ∷ []) rest
control_outline rest control.Stop = Known ([] ∷ (write ∷ sectors ∷ []) ∷ []) rest
control_outline rest control.Name = Known ((name ∷ handle ∷ []) ∷ []) rest
control_outline rest control.Begin = begin_outline rest
control_outline rest control.Step = Known ((actor ∷ []) ∷ []) rest
control_outline rest control.Finish = Known ((actor ∷ []) ∷ []) rest

-- behind a first word that is no letter: a call's command, the word of a control line, or neither
abbrev pub plain_outline : List (List ℕ) → Option Call → Option Control → Outline
plain_outline rest (Some call) found = Known (call_kinds call ∷ []) rest
plain_outline rest None (Some control) = control_outline rest control
plain_outline rest None None = Unknown

abbrev pub outline : List (List ℕ) → Outline
outline [] = Unknown
outline (first ∷ rest) = if is_letter first then call_outline [] [] rest else plain_outline rest (call_named first) (control_of first)

-- no command and no actor's letter stands first
abbrev pub HasNoCommand : Outline → Type 0
HasNoCommand Unknown = Unit {0}
HasNoCommand Short = ⊥
HasNoCommand (NoCall kinds ahead) = ⊥
HasNoCommand (Known forms words) = ⊥

-- there are more words than the command takes, or fewer
abbrev pub HasWrongCount : Outline → Type 0
HasWrongCount Unknown = ⊥
HasWrongCount Short = Unit {0}
HasWrongCount (NoCall kinds ahead) = ⊥
HasWrongCount (Known forms words) = AllByRecursion (λ kinds. length kinds ≢ length words) forms

-- one of the words does not fit its place
abbrev pub HasWrongWord : Outline → Type 0
HasWrongWord Unknown = ⊥
HasWrongWord Short = ⊥
HasWrongWord (NoCall kinds ahead) = ¬ FitAll kinds ahead
HasWrongWord (Known forms words) = AllByRecursion (λ kinds. ¬ FitAll kinds words) forms

-- behind an actor stands a word that is no call's command
abbrev pub HasNoCall : Outline → Type 0
HasNoCall Unknown = ⊥
HasNoCall Short = ⊥
HasNoCall (NoCall kinds ahead) = Unit {0}
HasNoCall (Known forms words) = ⊥

-- a byte that is neither a blank nor printable
abbrev pub is_stray : ℕ → Bool
is_stray b = nat_lt b 32 || nat_lt 126 b

-- the line breaks the rule
abbrev pub LineBreaks : Rule → List ℕ → Type 0
LineBreaks rule.Bytes line = IsTrue (list_any is_stray line)
LineBreaks rule.FirstWord line = HasNoCommand (outline (words_of line))
LineBreaks rule.WordCount line = HasWrongCount (outline (words_of line))
LineBreaks rule.WordForm line = HasWrongWord (outline (words_of line))
LineBreaks rule.CallFollows line = HasNoCall (outline (words_of line))

-- the line is in the grammar
abbrev pub IsInside : List ℕ → Type 0
IsInside line = (r : Rule) → ¬ LineBreaks r line

-- of the rules that the line breaks, this is the least
abbrev pub IsLeastBroken : Rule → List ℕ → Type 0
IsLeastBroken r line = LineBreaks r line × ((other : Rule) → rule_number other < rule_number r → ¬ LineBreaks other line)
