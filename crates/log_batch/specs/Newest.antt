-- The newest image of each sector, among several commits.
use Rattle.std.specs.Prelude.{◌≡◌, ◌≤◌, ◌<◌, ◌+◌, ◌-◌, ◌^◌, ℕ, List, length, map, take}
use Rattle.std.specs.List.{flat_map}
use Rattle.std.specs.List.Sorted.{IsStrictlyIncreasing}
use Rattle.life_limits.specs.declared.TheConstants.{MAX_IMAGES}
use Rattle.log_record.specs.declared.image.Image.{Image}
use Rattle.log_record.specs.declared.image.Commit.{Commit}
use Rattle.log_image.specs.Overlay.{newest, homes}

-- the images of commits, the oldest first
abbrev pub commit_images : List Commit → List Image
commit_images commits = flat_map (λ commit. commit.images) commits

-- each sector that the images write once, by ascending home, as its newest image says
pub record IsNewestOf (images newer : List Image) : Type 0 where
  pub ascending : IsStrictlyIncreasing (homes newer)
  pub same : (home : ℕ) → newest home newer ≡ newest home images

-- a commit that a record can take
pub record IsCommit (commit : Commit) : Type 0 where
  pub few : length commit.images ≤ MAX_IMAGES
  pub ascending : IsStrictlyIncreasing (homes commit.images)

-- So many first commits are what one record takes: they write no more different sectors than it may have images, of each of which it has
-- the newest image, and with the next commit they would write more, or be 2^32.
pub record IsBatch (commits : List Commit) (taken : ℕ) (images : List Image) : Type 0 where
  pub within : taken ≤ length commits
  pub newest : IsNewestOf (commit_images (take taken commits)) images
  pub few : length images ≤ MAX_IMAGES
  pub countable : taken < 2 ^ 32
  pub longest : taken < length commits → taken < 2 ^ 32 - 1 → (more : List Image) → IsNewestOf (commit_images (take (taken + 1) commits)) more → MAX_IMAGES < length more
