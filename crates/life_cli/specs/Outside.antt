-- What contracts see of the outside of a run.
use Rattle.std.specs.Prelude.{ℕ, Bool, true, false, List, Option, None}
use Rattle.life_bytes.specs.declared.sector.Sector.{Sector}
use Rattle.disk_model.specs.Disk.{Cell}
use Rattle.disk_model.specs.Images.{Given}

-- what is seen of images and of their disks
pub record ImagesSeen (I D : Type 0) : Type 0 where
  -- of images: what was given so far, their faults, and what stands at a path
  pub given : I → List Given
  pub faults : I → ℕ
  pub image_at : I → List ℕ → Option (List Sector)
  -- of a disk: whether such disks tell what they hold, what that is, its sectors, and its faults
  pub known : Bool
  pub cells : D → List Cell
  pub sectors : D → ℕ
  pub disk_faults : D → ℕ

-- what is seen of a script: the bytes that are left of it, and the faults of its source
pub record ScriptSeen (S : Type 0) : Type 0 where
  pub bytes_left : S → Option (List ℕ)
  pub faults : S → ℕ

-- an image that stands at a path, of a kind of disk that tells what it holds
abbrev pub image_known : Bool → Option (List Sector) → Option (List Sector)
image_known true image = image
image_known false image = None

-- the image at a path, where it is known
abbrev pub image_before : {I D : Type 0} → ImagesSeen I D → I → List ℕ → Option (List Sector)
image_before seen images path = image_known seen.known (seen.image_at images path)
