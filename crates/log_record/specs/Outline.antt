-- What is read of a record before its images.
use Rattle.std.specs.Prelude.{ℕ, ◌≡◌, ◌<◌, ◌≤◌, ◌+◌, ◌-◌, ◌*◌, ◌^◌, List, length, replicate}
use Rattle.life_limits.specs.declared.TheConstants.{MAX_IMAGES}
use Rattle.life_bytes.specs.declared.sector.Sector.{Sector}
use Rattle.life_bytes.specs.Sectors.{AreSectors}
use Rattle.log_record.specs.declared.read.Header.{Header}
use Rattle.log_record.specs.Encoding.{record_header, sector_count, stamps}
use Rattle.log_record.specs.Whole.{at_place}
use Rattle.log_record.specs.Payload.{stamps_of, window, HoldsPayload}

-- a header's numbers are ones that a record can have
pub record IsRecordHeader (h : Header) : Type 0 where
  pub tail : h.tail < 2 ^ 64
  pub first : h.first < 2 ^ 64
  pub commits : h.commits < 2 ^ 32
  pub images : h.images ≤ MAX_IMAGES

-- a header's bytes
abbrev pub header_bytes : Header → List ℕ
header_bytes h = record_header h.tail h.first h.commits h.images

-- a record with this header at this position has room in a ring of so many sectors
pub record HasRoom (h : Header) (position ring : ℕ) : Type 0 where
  pub tail : h.tail ≤ position
  pub positions : position + sector_count h.images ≤ 2 ^ 64
  pub room : position + sector_count h.images - h.tail ≤ ring

-- so many sectors from a position on have the stamps of a record that begins there
abbrev pub IsStamped : List Sector → ℕ → ℕ → Type 0
IsStamped ring position count = (i : ℕ) (d : Sector) → i < count
    → stamps_of (at_place ring (position + i) d) ≡ stamps (position + i) position

-- the zero bytes behind so many images
abbrev pub filling : ℕ → List ℕ
filling images = replicate (496 * sector_count images - (32 + 520 * images)) 0

-- all of a record but its images stands at a position of a ring
pub record HasOutline (ring : List Sector) (position : ℕ) (h : Header) : Type 0 where
  pub form : IsRecordHeader h
  pub room : HasRoom h position (length ring)
  pub whole : AreSectors (window ring position (sector_count h.images))
  pub stamped : IsStamped ring position (sector_count h.images)
  pub header : HoldsPayload ring position 0 (header_bytes h)
  pub filling : HoldsPayload ring position (32 + 520 * h.images) (filling h.images)
