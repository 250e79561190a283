-- The anchor: the sector in front of the ring, which tells from which position on records count.
use Rattle.std.specs.Prelude.{ℕ, List, [], ◌∷◌, ◌≡◌, ◌≤◌, ◌<◌, ◌^◌, Some, slice_get}
use Rattle.life_bytes.specs.declared.sector.Sector.{Sector}
use Rattle.life_bytes.specs.Pieces.{Field, number, placed, blank, sealed}

-- `ANCH` in ASCII
abbrev pub anchor_magic : ℕ
anchor_magic = 0x414E_4348

-- the first valid position, and the next commit number
abbrev pub anchor_rows : ℕ → ℕ → List Field
anchor_rows position next =
    number 0 4 anchor_magic
    ∷ number 8 8 position
    ∷ number 16 8 next
    ∷ []

-- the sector that encodes these numbers: its fields over zeros, and the checksum at byte 4
unfoldable pub anchor_sector : ℕ → ℕ → Sector
anchor_sector position next = record { bytes = sealed 4 (placed (anchor_rows position next) blank) }

-- An image has a right anchor with these numbers, in front of a ring of so many sectors.
pub record HasAnchor (image : List Sector) (anchor ring position next : ℕ) : Type 0 where
  pub sector : slice_get image anchor ≡ Some (anchor_sector position next)
  pub start : (ring ≤ position) × (position < 2 ^ 64)
  pub number : (1 ≤ next) × (next < 2 ^ 64)
