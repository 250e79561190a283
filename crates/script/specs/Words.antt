-- What the words of a line may be.
use Rattle.std.specs.Prelude.{◌≡◌, ◌==◌, ◌+◌, ◌≤◌, ◌&&◌, ◌||◌, nat_le, ℕ, Bool, false, List, [], ◌∷◌, length, IsTrue}
use Rattle.std.specs.List.{list_all, slice_split}
use Rattle.std.specs.Fmt.{decimal}
use Rattle.life_limits.specs.declared.TheConstants.{MAX_BLOCKS}
use Rattle.life_table.specs.declared.key.Key.{Key}
use Rattle.life_table.specs.Handles.{handle_text, IsHandle}

-- the words of a line, cut at each single blank
abbrev pub words_of : List ℕ → List (List ℕ)
words_of line = slice_split (λ b. b == 32) line

-- a to z
abbrev pub is_lower : ℕ → Bool
is_lower b = nat_le 97 b && nat_le b 122

-- 0 to 9
abbrev pub is_digit : ℕ → Bool
is_digit b = nat_le 48 b && nat_le b 57

-- a lower-case letter and up to 15 lower-case letters or digits
abbrev pub is_name : List ℕ → Bool
is_name [] = false
is_name (first ∷ rest) = is_lower first && (nat_le (length rest) 15 && list_all (λ b. is_lower b || is_digit b) rest)

-- an actor's letter: A for actor 0, to Z for actor 25
abbrev pub is_letter : List ℕ → Bool
is_letter (letter ∷ []) = nat_le 65 letter && nat_le letter 90
is_letter _ = false

abbrev pub letter_of : ℕ → List ℕ
letter_of actor = (65 + actor) ∷ []

-- the decimal of a number within these bounds, which has no leading zero
abbrev pub IsDecimal : ℕ → ℕ → List ℕ → Type 0
IsDecimal low high word = (n : ℕ) × (low ≤ n) × (n ≤ high) × (word ≡ decimal n)

-- the text of a handle
abbrev pub IsHandleText : List ℕ → Type 0
IsHandleText word = (key : Key) × IsHandle key × (word ≡ handle_text key)

-- what a word is
pub data Kind : Type 0 where
  actor : Kind
  name : Kind
  handle : Kind
  -- a group's number
  group : Kind
  -- how many blocks
  blocks : Kind
  -- which write from now on is cut short, and how many of its sectors pass
  write : Kind
  sectors : Kind

-- a word is of its form
abbrev pub IsOfKind : Kind → List ℕ → Type 0
IsOfKind actor word = IsTrue (is_letter word)
IsOfKind name word = IsTrue (is_name word)
IsOfKind handle word = IsHandleText word
IsOfKind group word = IsDecimal 0 4294967295 word
IsOfKind blocks word = IsDecimal 1 MAX_BLOCKS word
IsOfKind write word = IsDecimal 1 4294967295 word
IsOfKind sectors word = IsDecimal 0 4294967295 word

-- as many words as kinds, each of its form
abbrev pub FitAll : List Kind → List (List ℕ) → Type 0
FitAll [] [] = Unit {0}
FitAll (kind ∷ kinds) (word ∷ words) = IsOfKind kind word × FitAll kinds words
FitAll [] (word ∷ words) = ⊥
FitAll (kind ∷ kinds) [] = ⊥
