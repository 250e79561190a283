-- What a crash leaves when a run has ended, wherever it stood.
use Rattle.std.specs.Prelude.{◌≤◌, ◌+◌, ℕ, List, [], ◌∷◌, Option, None, Some}
use Rattle.life_bytes.specs.declared.sector.Sector.{Sector}
use Rattle.disk_model.specs.Disk.{Cell, IsImage}
use Rattle.life_table.specs.declared.table.Table.{Table}
use Rattle.whole_image.specs.Represents.{Represents}
use Rattle.run_history.specs.Mounts.{MountStory, acknowledged, changes_made, table_after}

-- An image represents the table after the first so many changes of a mount: at least those that were acknowledged, and at most all. Its next commit number tells how
-- many.
pub record IsPrefixLeft (m : MountStory) (image : List Sector) (n : ℕ) : Type 0 where
  pub acknowledged : acknowledged m ≤ n
  pub made : n ≤ changes_made m.story
  pub represents : Represents image (table_after m n) (m.story.base + n)

-- the last mount, where there is one
abbrev pub last_of : MountStory → List MountStory → MountStory
last_of m [] = m
last_of m (next ∷ later) = last_of next later

abbrev pub last_mount : List MountStory → Option MountStory
last_mount [] = None
last_mount (m ∷ later) = Some (last_of m later)

-- what the image that a crash leaves represents: by the last mount; where there is none, the first image's table, with its commit number
abbrev pub IsLeftSafe : Table → ℕ → Option MountStory → List Sector → Type 0
IsLeftSafe first number None image = Represents image first number
IsLeftSafe first number (Some m) image = (n : ℕ) × IsPrefixLeft m image n

-- Each image that a crash may leave of the disk is such a one.
abbrev pub CrashSafe : Table → ℕ → List MountStory → List Cell → Type 0
CrashSafe first number mounts cells = (image : List Sector) → IsImage cells image → IsLeftSafe first number (last_mount mounts) image
