-- What is read of an image, and why a group was not loaded.
use Rattle.std.specs.Prelude.{◌≡◌, ◌+◌, ◌<◌, ⊤, ℕ, List, All, length}
use Rattle.life_bytes.specs.declared.sector.Sector.{Sector}
use Rattle.life_ports.specs.Faults.{Rose}
use Rattle.geometry.specs.declared.shape.Geometry.{Geometry}
use Rattle.sound_image.specs.Places.{bytes_at, sector_in}
use Rattle.group_ops.specs.declared.fault.LoadFault.{LoadFault}
use Rattle.group_ops.specs.declared.fault.LoadFault.TheVariants.{Damaged, ReadFault, NoMemory}
use Rattle.group_ops.specs.Buffers.{Buffers}

-- the image has these sectors from one on
pub record Shows (image : List Sector) (s : ℕ) (sectors : List Sector) : Type 0 where
  pub each : (k : ℕ) → k < length sectors → bytes_at image (s + k) ≡ bytes_at sectors k

-- the buffers of these chunks are the sectors of the image
abbrev pub ShowChunks : Geometry → List Sector → ℕ → List Buffers → Type 0
ShowChunks g image group chunks = All (λ (chunk : Buffers). Shows image (sector_in g group chunk.start) chunk.sectors) chunks

-- a read fault comes only where the count of faults rose
abbrev pub IsLoadCause : ℕ → ℕ → LoadFault → Type 0
IsLoadCause before now (Damaged rule sector) = ⊤
IsLoadCause before now ReadFault = Rose before now
IsLoadCause before now NoMemory = ⊤

-- a fault that no damage is
abbrev pub IsNoDamage : LoadFault → Type 0
IsNoDamage (Damaged rule sector) = ⊥
IsNoDamage ReadFault = ⊤
IsNoDamage NoMemory = ⊤
