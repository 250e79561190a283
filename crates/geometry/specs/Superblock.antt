-- The superblock as a sector.
use Rattle.std.specs.Prelude.{◌≡◌, ℕ, List, [], ◌∷◌}
use Rattle.life_bytes.specs.Pieces.{Field, number, piece, placed, blank, sealed}
use Rattle.geometry.specs.declared.superblock.TheConstants.{SUPERBLOCK_CRC_AT}
use Rattle.geometry.specs.declared.shape.Geometry.{Geometry}
use Rattle.geometry.specs.Shape.{IsGeometry}

-- `LIFE` in ASCII
abbrev pub superblock_magic : ℕ
superblock_magic = 0x4C49_4645

abbrev pub superblock : Geometry → List Field
superblock g =
    number 0 4 superblock_magic
    ∷ number 4 4 g.version
    ∷ number 8 4 g.groups
    ∷ number 12 4 g.blocks
    ∷ number 16 4 g.ring
    ∷ piece 24 16 g.uuid
    ∷ []

-- the sector that encodes a geometry: its fields over zeros, and the checksum in its place
unfoldable pub superblock_encoding : Geometry → List ℕ
superblock_encoding g = sealed SUPERBLOCK_CRC_AT (placed (superblock g) blank)

-- no sector encodes two geometries
abbrev pub SuperblocksTell : Type 0
SuperblocksTell = (a b : Geometry) → IsGeometry a → IsGeometry b → superblock_encoding a ≡ superblock_encoding b → a ≡ b
