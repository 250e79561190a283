-- Picks, each of which names an image of one of several commits.
use Rattle.std.specs.Prelude.{◌≡◌, ◌<◌, List, [], length, slice_index_or}
use Rattle.std.specs.List.{All}
use Rattle.log_record.specs.declared.image.Image.{Image}
use Rattle.log_record.specs.declared.image.Commit.{Commit}
use Rattle.log_batch.specs.declared.find.Pick.{Pick}
use Rattle.log_batch.specs.Put.{KeysRise}

-- the image that a pick names
abbrev pub picked_image : List Commit → Pick → Image
picked_image commits pick = slice_index_or (slice_index_or commits pick.commit (record { group = 0; images = [] })).images pick.image (record { home = pick.home; sector = record { bytes = [] } })

-- a pick names an image of the commits, and its home
pub record Names (commits : List Commit) (pick : Pick) : Type 0 where
  pub commit : pick.commit < length commits
  pub image : pick.image < length (slice_index_or commits pick.commit (record { group = 0; images = [] })).images
  pub home : (picked_image commits pick).home ≡ pick.home

-- picks name images of the commits, by ascending home
pub record ArePicks (commits : List Commit) (picks : List Pick) : Type 0 where
  pub rise : KeysRise (λ pick. pick.home) 0 picks
  pub names : All (Names commits) picks
