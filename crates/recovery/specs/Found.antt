-- What is found of a log.
use Rattle.std.specs.Prelude.{ℕ, ◌≡◌, List}
use Rattle.std.specs.List.{All}
use Rattle.life_bytes.specs.declared.sector.Sector.{Sector}
use Rattle.log_image.specs.Log.{IsGroupImage, IsLog, Log, groups_part, replayed}
use Rattle.log_image.specs.Overlay.{images_of, overlaid}
use Rattle.log_batch.specs.Newest.{IsNewestOf}
use Rattle.recovery.specs.declared.found.Found.{Found}

-- These are the numbers of a log, and the newest image of each sector that its records write.
pub record Says (log : Log) (found : Found) : Type 0 where
  pub tail : found.tail ≡ log.tail
  pub end : found.end ≡ log.end
  pub next : found.next_commit ≡ log.next
  pub images : IsNewestOf (images_of log.records) found.images

-- each image is of a sector of the groups, and not of the superblock
abbrev pub HasGroupImages : ℕ → Found → Type 0
HasGroupImages anchor found = All (IsGroupImage anchor) found.images

-- An image's anchor and log are right, and this is what they say: the groups' sectors with the images over them are the
-- replayed ones.
pub record LogIsFound (image : List Sector) (anchor ring : ℕ) (found : Found) : Type 0 where
  pub log : Log
  pub says : IsLog image anchor ring log
  pub found_is : Says log found
  pub groups : overlaid (groups_part anchor image) found.images ≡ replayed anchor image log.records
