-- Disks that stand at paths in memory.
use Rattle.std.specs.Prelude.{◌≡◌, ◌≢◌, ℕ, Bool, true, false, List, Option, None, Some}
use Rattle.std.specs.Map.{lookup}
use Rattle.std.specs.Str.{bytes_eq}
use Rattle.life_bytes.specs.declared.sector.Sector.{Sector}
use Rattle.life_ports.specs.FaultPlan.{Plan}
use Rattle.disk_model.specs.Disk.{Cell, as_read}
use Rattle.disk_model.specs.Images.{Given}

-- the disks with their paths, each path once, what was given so far, and the plan of faults
pub record Shelf (D : Type 0) : Type 0 where
  pub disks : List (List ℕ × D)
  pub given : List Given
  pub plan : Plan

-- the disk that stands at a path
abbrev pub disk_at : {D : Type 0} → Shelf D → List ℕ → Option D
disk_at shelf path = lookup (bytes_eq path) shelf.disks

-- what a disk reads as, where there is one and such disks tell
abbrev pub image_of : {D : Type 0} → Bool → (D → List Cell) → Option D → Option (List Sector)
image_of true cells (Some disk) = Some (as_read (cells disk))
image_of true cells None = None
image_of false cells disk = None

-- only the disk at this path may have changed
abbrev pub KeepsOthers : {D : Type 0} → List ℕ → Shelf D → Shelf D → Type 0
KeepsOthers path old new = (other : List ℕ) → other ≢ path → disk_at new other ≡ disk_at old other
