-- Images that are written home.
use Rattle.std.specs.Prelude.{ℕ, ◌≡◌, ◌≤◌, ◌⊎◌, List, length, Some, Result, OnOk, slice_index_or}
use Rattle.life_bytes.specs.declared.sector.Sector.{Sector}
use Rattle.disk_model.specs.Disk.{Arming, after_writes}
use Rattle.log_record.specs.declared.image.Image.{Image}
use Rattle.log_image.specs.Overlay.{newest}

-- Some of these images were put in their places, and nothing else was changed.
pub record IsPartlyPut (images : List Image) (old new : List Sector) : Type 0 where
  pub size : length new ≡ length old
  pub each : (at : ℕ) (d : Sector) → (slice_index_or new at d ≡ slice_index_or old at d)
      ⊎ (newest at images ≡ Some (slice_index_or new at d))

-- A call made at most so many writes of a disk, and all of them where it succeeded.
pub record MakesWrites {T E : Type 0} (count : ℕ) (result : Result T E) (old new : Arming) : Type 0 where
  pub made : ℕ
  pub few : made ≤ count
  pub leaves : new ≡ after_writes made old
  pub all : OnOk result (made ≡ count)
