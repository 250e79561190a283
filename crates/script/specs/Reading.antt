-- What reading a part of a line answers.
use Rattle.std.specs.Prelude.{◌≡◌, ◌≢◌, ◌<◌, ℕ, List, [], ◌∷◌, length, Result, MatchResult}
use Rattle.script.specs.declared.fault.Rule.{Rule}
use Rattle.script.specs.declared.fault.Rule.TheVariants as rule
use Rattle.script.specs.declared.fault.LineFault.{LineFault}
use Rattle.script.specs.declared.fault.LineFault.TheVariants as fault
use Rattle.script.specs.declared.fault.ScriptFault.{ScriptFault}
use Rattle.script.specs.declared.fault.ScriptFault.TheVariants as script
use Rattle.script.specs.declared.read.StopWords.{StopWords}
use Rattle.script.specs.declared.read.StopWords.TheVariants as stop
use Rattle.script.specs.declared.types.Command.{Command}
use Rattle.script.specs.Words.{Kind, IsOfKind, FitAll}
use Rattle.script.specs.Rules.{Outline, HasNoCommand, HasWrongCount, HasWrongWord, HasNoCall, IsLeastBroken, rule_number}
use Rattle.script.specs.Meaning.{Denotes, IsCommand}

-- a word is not of this form, or there was no memory
abbrev pub IsWordFault : Kind → List ℕ → LineFault → Type 0
IsWordFault kind word (fault.Breaks rule.WordForm) = ¬ IsOfKind kind word
IsWordFault kind word (fault.Breaks rule.Bytes) = ⊥
IsWordFault kind word (fault.Breaks rule.FirstWord) = ⊥
IsWordFault kind word (fault.Breaks rule.WordCount) = ⊥
IsWordFault kind word (fault.Breaks rule.CallFollows) = ⊥
IsWordFault kind word fault.NoMemory = Unit {0}

-- words are not as many as these kinds, or one is not of its form, or there was no memory
abbrev pub AreWordsFault : List Kind → List (List ℕ) → LineFault → Type 0
AreWordsFault kinds words (fault.Breaks rule.WordCount) = length kinds ≢ length words
AreWordsFault kinds words (fault.Breaks rule.WordForm) = (length kinds ≡ length words) × ¬ FitAll kinds words
AreWordsFault kinds words (fault.Breaks rule.Bytes) = ⊥
AreWordsFault kinds words (fault.Breaks rule.FirstWord) = ⊥
AreWordsFault kinds words (fault.Breaks rule.CallFollows) = ⊥
AreWordsFault kinds words fault.NoMemory = Unit {0}

-- the rules that speak of words, of an outline
abbrev pub BreaksAt : Rule → Outline → Type 0
BreaksAt rule.Bytes at = ⊥
BreaksAt rule.FirstWord at = HasNoCommand at
BreaksAt rule.WordCount at = HasWrongCount at
BreaksAt rule.WordForm at = HasWrongWord at
BreaksAt rule.CallFollows at = HasNoCall at

-- an outline was refused by the least rule that it breaks
abbrev pub IsOutlineFault : Outline → LineFault → Type 0
IsOutlineFault at (fault.Breaks r) = BreaksAt r at × ((other : Rule) → rule_number other < rule_number r → ¬ BreaksAt other at)
IsOutlineFault at fault.NoMemory = Unit {0}

-- the words were read as a command, or refused
abbrev pub ReadsAs : Outline → List (List ℕ) → Result Command LineFault → Type 0
ReadsAs at words result = MatchResult result (λ command. ((r : Rule) → ¬ BreaksAt r at) × Denotes words command × IsCommand command) (IsOutlineFault at)

-- a line was refused by the least rule that it breaks
abbrev pub IsLineFault : List ℕ → LineFault → Type 0
IsLineFault line (fault.Breaks r) = IsLeastBroken r line
IsLineFault line fault.NoMemory = Unit {0}

-- the words behind a stop: none, two, or another number
abbrev pub AreStopWords : List (List ℕ) → StopWords → Type 0
AreStopWords words stop.None = words ≡ []
AreStopWords words (stop.Two count first) = words ≡ count.now ∷ first.now ∷ []
AreStopWords words stop.Others = (0 ≢ length words) × (2 ≢ length words)

-- the fault of a script of which the line of this number was refused
abbrev pub fault_at : ℕ → LineFault → ScriptFault
fault_at line (fault.Breaks r) = script.Outside line (rule_number r)
fault_at line fault.NoMemory = script.NoMemory
