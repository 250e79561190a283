-- The AGI header as a sector.
use Rattle.std.specs.Prelude.{◌≡◌, ◌≤◌, ◌<◌, ◌^◌, ℕ, List, [], ◌∷◌, length, get_or, slice_set}
use Rattle.std.specs.List.{flat_map}
use Rattle.byteorder.specs.Endian.{big_bytes}
use Rattle.life_limits.specs.declared.TheConstants.{FIRST_PAGE_BLOCK, LAST_PAGE_BLOCK, MAX_LEVEL, NO_INODE}
use Rattle.life_bytes.specs.Pieces.{Field, number, piece, placed, blank, sealed}
use Rattle.ag_header.specs.declared.agi.TheConstants.{AGI_CRC_AT, AGI_UNLINKED_AT}
use Rattle.ag_header.specs.declared.agi.Agi.{Agi}

-- the root page is a block of pages, and the level is one that trees have
pub record IsAgi (agi : Agi) : Type 0 where
  pub root : (FIRST_PAGE_BLOCK ≤ agi.root) × (agi.root ≤ LAST_PAGE_BLOCK)
  pub level : (1 ≤ agi.level) × (agi.level ≤ MAX_LEVEL)

-- the fields have their widths
pub record FieldsFit (agi : Agi) : Type 0 where
  pub group : agi.group < 2 ^ 32
  pub blocks : agi.blocks < 2 ^ 32
  pub count : agi.count < 2 ^ 32
  pub free : agi.free < 2 ^ 32
  pub heads : length agi.heads ≡ 64
  pub each_head : (k : ℕ) → get_or agi.heads k 0 < 2 ^ 32
  pub uuid : length agi.uuid ≡ 16

abbrev pub header_fields : Agi → List Field
header_fields agi =
    number 0 4 0x5841_4749
    ∷ number 4 4 1
    ∷ number 8 4 agi.group
    ∷ number 12 4 agi.blocks
    ∷ number 16 4 agi.count
    ∷ number 20 4 agi.root
    ∷ number 24 4 agi.level
    ∷ number 28 4 agi.free
    ∷ number 32 4 NO_INODE
    ∷ number 36 4 NO_INODE
    ∷ piece AGI_UNLINKED_AT 256 (flat_map (big_bytes 4) agi.heads)
    ∷ piece 296 16 agi.uuid
    ∷ []

-- the sector that encodes a header, with the checksum in its place
unfoldable pub header_encoding : Agi → List ℕ
header_encoding agi = sealed AGI_CRC_AT (placed (header_fields agi) blank)

-- the sector encodes the header
pub record EncodesHeader (bytes : List ℕ) (agi : Agi) : Type 0 where
  pub allowed : IsAgi agi
  pub fits : FieldsFit agi
  pub sector : bytes ≡ header_encoding agi

-- the sector reads as some header
abbrev pub IsGroupHeader : List ℕ → Type 0
IsGroupHeader bytes = (agi : Agi) × EncodesHeader bytes agi

-- the header with another head of one bucket, with other counts, with another root
abbrev pub with_head : Agi → ℕ → ℕ → Agi
with_head agi bucket agino = record agi { heads = slice_set agi.heads bucket agino }

abbrev pub with_counts : Agi → ℕ → ℕ → Agi
with_counts agi count free = record agi { count = count; free = free }

abbrev pub with_root : Agi → ℕ → ℕ → Agi
with_root agi root level = record agi { root = root; level = level }
