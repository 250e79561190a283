-- What a disk's anchor starts, and what a scan of its log answers where it finds none.
use Rattle.std.specs.Prelude.{ℕ, ◌≡◌, ◌≤◌, ◌<◌, ◌*◌, ◌^◌, List}
use Rattle.life_bytes.specs.declared.sector.Sector.{Sector}
use Rattle.geometry.specs.Places.{group_sectors}
use Rattle.geometry.specs.declared.shape.Geometry.{Geometry}
use Rattle.log_image.specs.Anchor.{anchor_sector}
use Rattle.log_image.specs.Damage.{IsLogDamage}
use Rattle.log_image.specs.declared.anchor.Anchor.{Anchor}
use Rattle.recovery.specs.declared.fault.ScanFault.{ScanFault}
use Rattle.recovery.specs.declared.fault.ScanFault.TheVariants.{Damaged, ReadFault, NoMemory}

-- a sector is a right anchor in front of a ring of so many sectors, with these numbers
pub record IsStart (sector : Sector) (ring : ℕ) (start : Anchor) : Type 0 where
  pub encoded : sector ≡ anchor_sector start.position start.next_commit
  pub position : (ring ≤ start.position) × (start.position < 2 ^ 64)
  pub number : (1 ≤ start.next_commit) × (start.next_commit < 2 ^ 64)

-- it is one with no numbers
abbrev pub NoStart : Sector → ℕ → Type 0
NoStart sector ring = (position next : ℕ) → position < 2 ^ 64 → next < 2 ^ 64 → ring ≤ position → 1 ≤ next
    → sector ≡ anchor_sector position next → ⊥

-- the fault speaks of a call alone
abbrev pub NamesNoDamage : ScanFault → Type 0
NamesNoDamage (Damaged rule sector) = ⊥
NamesNoDamage ReadFault = Unit {0}
NamesNoDamage NoMemory = Unit {0}

-- Damage that is named is the first of an image's anchor and log.
abbrev pub NamesLogDamage : List Sector → ℕ → ℕ → ScanFault → Type 0
NamesLogDamage image anchor ring (Damaged rule sector) = IsLogDamage image anchor ring rule sector
NamesLogDamage image anchor ring ReadFault = Unit {0}
NamesLogDamage image anchor ring NoMemory = Unit {0}
