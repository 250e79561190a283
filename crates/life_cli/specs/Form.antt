-- The words of the command line.
use Rattle.std.specs.Prelude.{◌≡◌, ℕ, List, [], ◌∷◌, String, string_bytes, map, codes}
use Rattle.std.specs.Fmt.{decimal}
use Rattle.std.specs.declared.alloc.Global.{Global}
use Rattle.life_limits.specs.declared.TheConstants.{VERSION}
use Rattle.geometry.specs.declared.shape.Geometry.{Geometry}
use Rattle.geometry.specs.Shape.{IsGeometry}
use Rattle.life_cli.specs.declared.form.Form.{Form}
use Rattle.life_cli.specs.declared.form.Form.TheVariants as form

-- a path: not empty, and no option
abbrev pub IsPath : List ℕ → Type 0
IsPath [] = ⊥
IsPath (first ∷ rest) = first ≡ 45 → ⊥

-- the words are this one and a path
abbrev pub IsOnImage : List (String Global) → List ℕ → List ℕ → Type 0
IsOnImage words word path = (map string_bytes words ≡ word ∷ path ∷ []) × IsPath path

-- the words are `steps` and this path
abbrev pub IsSteps : List (String Global) → List ℕ → Type 0
IsSteps words path = IsOnImage words (codes "steps") path

-- the words are `check` and this path
abbrev pub IsCheck : List (String Global) → List ℕ → Type 0
IsCheck words path = IsOnImage words (codes "check") path

-- what `make` gives an image: its uuid has the bytes 0 to 15
abbrev pub made_geometry : ℕ → ℕ → ℕ → Geometry
made_geometry groups blocks ring = record {
  version = VERSION;
  groups = groups;
  blocks = blocks;
  ring = ring;
  uuid = 0 ∷ 1 ∷ 2 ∷ 3 ∷ 4 ∷ 5 ∷ 6 ∷ 7 ∷ 8 ∷ 9 ∷ 10 ∷ 11 ∷ 12 ∷ 13 ∷ 14 ∷ 15 ∷ [];
}

-- such a geometry, within the limits
abbrev pub IsMade : Geometry → Type 0
IsMade g = IsGeometry g × (g ≡ made_geometry g.groups g.blocks g.ring)

-- three words encode it, in decimal without leading zeros
pub record IsEncoded (g : Geometry) (groups blocks ring : List ℕ) : Type 0 where
  pub groups_word : groups ≡ decimal g.groups
  pub blocks_word : blocks ≡ decimal g.blocks
  pub ring_word : ring ≡ decimal g.ring
  pub made : IsMade g

-- the words are `make`, this path, and the numbers of this geometry
abbrev pub IsMake : List (String Global) → List ℕ → Geometry → Type 0
IsMake words path g =
    (map string_bytes words ≡ codes "make" ∷ path ∷ decimal g.groups ∷ decimal g.blocks ∷ decimal g.ring ∷ []) × IsPath path × IsMade g

-- the words are in this form
abbrev pub IsForm : List (String Global) → Form → Type 0
IsForm words (form.Steps path) = IsSteps words path.now
IsForm words (form.Check path) = IsCheck words path.now
IsForm words (form.Make path g) = IsMake words path.now g

-- the words are in no form
pub record IsNoForm (words : List (String Global)) : Type 0 where
  pub no_steps : (path : List ℕ) → IsSteps words path → ⊥
  pub no_check : (path : List ℕ) → IsCheck words path → ⊥
  pub no_make : (path : List ℕ) (g : Geometry) → IsMake words path g → ⊥
