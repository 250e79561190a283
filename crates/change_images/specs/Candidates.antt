-- Sectors that a change of a group may touch, and the images of those that it does touch.
use Rattle.std.specs.Prelude.{◌≡◌, ◌==◌, ◌-◌, ◌&&◌, ℕ, Bool, true, false, List, [], ◌∷◌, ◌++◌, Option, None, Some, if◌then◌else◌, length}
use Rattle.geometry.specs.declared.shape.Geometry.{Geometry}
use Rattle.log_record.specs.declared.image.Image.{Image}
use Rattle.life_table.specs.Table.{Group}
use Rattle.sound_image.specs.Encoding.{Layouts, metadata}
use Rattle.encoded_changes.specs.Carry.{image_for}

-- A sector of a group: its place, what the format said of it before the change, which is nothing where no inode stood there, and its bytes after it.
pub record Candidate : Type 0 where
  pub place : ℕ
  pub before : Option (List ℕ)
  pub after : List ℕ

-- whether two lists of bytes are the same
unfoldable pub same_bytes : List ℕ → List ℕ → Bool
same_bytes [] [] = true
same_bytes (x ∷ xs) (y ∷ ys) = (x == y) && same_bytes xs ys
same_bytes _ _ = false

-- whether the sector's bytes were these before
unfoldable pub had_bytes : Option (List ℕ) → List ℕ → Bool
had_bytes None after = false
had_bytes (Some before) after = same_bytes before after

-- the image of a candidate, and none where its bytes stay
unfoldable pub image_if_changed : Geometry → ℕ → Candidate → List Image
image_if_changed g group c = if had_bytes c.before c.after then [] else image_for g group c.place c.after ∷ []

-- the images of the candidates whose bytes change, in their order
unfoldable pub changed_images : Geometry → ℕ → List Candidate → List Image
changed_images g group [] = []
changed_images g group (c ∷ cs) = image_if_changed g group c ++ changed_images g group cs

-- what a candidate says of its sector is what the format says of it, before and after
pub record IsCandidate (g : Geometry) (group : ℕ) (layouts : Layouts) (chunks : Group) (others : Layouts) (next : Group) (c : Candidate) : Type 0 where
  pub before : metadata g layouts group chunks c.place ≡ c.before
  pub after : metadata g others group next c.place ≡ Some c.after

-- What contracts see of the images that are gathered for a commit: the image and the group that they are of, the images, and for how many more there is room.
pub record StagingValue : Type 0 where
  pub geometry : Geometry
  pub group : ℕ
  pub images : List Image
  pub spare : ℕ

-- with the image of one candidate more
abbrev pub with_candidate : StagingValue → Candidate → StagingValue
with_candidate s c =
    let more : List Image = image_if_changed s.geometry s.group c in
    record { geometry = s.geometry; group = s.group; images = s.images ++ more; spare = s.spare - length more }
