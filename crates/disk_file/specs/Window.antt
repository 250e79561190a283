-- Windows onto an image.
use Rattle.std.specs.Prelude.{◌≡◌, ◌<◌, ◌+◌, ℕ, List, slice_get}
use Rattle.life_bytes.specs.declared.sector.Sector.{Sector}

-- the first so many sectors of a list are those of an image from this one on
abbrev pub IsWindow : List Sector → ℕ → ℕ → List Sector → Type 0
IsWindow image first count sectors = (i : ℕ) → i < count → slice_get image (first + i) ≡ slice_get sectors i
