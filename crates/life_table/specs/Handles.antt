-- The text of a handle.
use Rattle.std.specs.Prelude.{◌<◌, ◌≤◌, ℕ, List, ◌∷◌, ◌++◌}
use Rattle.std.specs.Fmt.{decimal}
use Rattle.life_limits.specs.declared.TheConstants.{MAX_GENERATION, MAX_NUMBERS}
use Rattle.life_table.specs.declared.key.Key.{Key}

-- its number and its generation in decimal, with a dot between them
abbrev pub handle_text : Key → List ℕ
handle_text key = decimal key.number ++ 46 ∷ decimal key.generation

-- a key whose number an image can have, in a life that there is
pub record IsHandle (key : Key) : Type 0 where
  pub number : key.number < MAX_NUMBERS
  pub first : 1 ≤ key.generation
  pub last : key.generation ≤ MAX_GENERATION
