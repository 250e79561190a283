-- Images of a table, and which of them a mount leaves.
use Rattle.std.specs.Prelude.{◌≤◌, ◌+◌, ◌⊎◌, ℕ, List, length}
use Rattle.life_limits.specs.declared.TheConstants.{MAX_ACTORS}
use Rattle.life_bytes.specs.declared.sector.Sector.{Sector}
use Rattle.disk_model.specs.Disk.{Cell, IsImage, as_read}
use Rattle.geometry.specs.declared.shape.Geometry.{Geometry}
use Rattle.life_table.specs.declared.table.Table.{Table}
use Rattle.life_table.specs.History.{After, frees_of}
use Rattle.log_image.specs.Log.{Log}
use Rattle.sound_image.specs.Encoding.{Layouts}
use Rattle.whole_image.specs.Damage.{HasFrontAndLog, IsSound, groups_of}
use Rattle.whole_image.specs.Represents.{Represents}
use Rattle.commit_history.specs.Carried.{IsEncoding}
use Rattle.orphan_frees.specs.Order.{keys_to_free}

-- An image represents a table, with its next commit number; and its groups, once the log is replayed, encode the table with these layouts.
pub record IsImageOf (g : Geometry) (t : Table) (layouts : Layouts) (next : ℕ) (image : List Sector) : Type 0 where
  pub represents : Represents image t next
  pub log : Log
  pub front : HasFrontAndLog g image log
  pub encodes : IsEncoding g t layouts (groups_of g image log)

-- the table after the first so many frees of its rows without links, in the order of a recovery
abbrev pub after_frees : Table → Layouts → ℕ → Table
after_frees t layouts count = After t (frees_of MAX_ACTORS (keys_to_free t layouts)) count

-- An image represents the table after the first so many of these frees, and no more than a number of them. Its next commit number tells how many.
pub record HasFreed (t : Table) (layouts : Layouts) (next most : ℕ) (image : List Sector) : Type 0 where
  pub count : ℕ
  pub within : count ≤ most
  pub represents : Represents image (after_frees t layouts count) (next + count)

-- The image before was sound, and whichever layouts its table was encoded with, an image represents the table after some first of the frees.
pub record IsOnTheWay (before image : List Sector) : Type 0 where
  pub sound : IsSound before
  pub freed : (g : Geometry) (t : Table) (layouts : Layouts) (next : ℕ) → IsImageOf g t layouts next before → HasFreed t layouts next (length (keys_to_free t layouts)) image

-- What a stop in the mount of a disk leaves: an image that it might have left before, or one on the way from what the disk read as to where all is freed.
abbrev pub IsLeftInMount : List Cell → List Sector → Type 0
IsLeftInMount cells image = IsImage cells image ⊎ IsOnTheWay (as_read cells) image
