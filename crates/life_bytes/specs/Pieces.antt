-- Sectors as tables of what stands where.
use Rattle.std.specs.Prelude.{ℕ, List, [], ◌∷◌, replicate}
use Rattle.byteorder.specs.Endian.{big_bytes, little_bytes}
use Rattle.life_bytes.specs.Fields.{with_piece}
use Rattle.life_bytes.specs.Crc.{crc32c, holed}

-- a row of a table: where a field begins, how many bytes it has, and those bytes
pub record Field : Type 0 where
  pub at : ℕ
  pub width : ℕ
  pub bytes : List ℕ

-- a field that holds a number, the highest byte first
abbrev pub number : ℕ → ℕ → ℕ → Field
number at width value = record { at = at; width = width; bytes = big_bytes width value }

-- a field that holds these bytes
abbrev pub piece : ℕ → ℕ → List ℕ → Field
piece at width bytes = record { at = at; width = width; bytes = bytes }

-- the bytes with the fields of a table put in
unfoldable pub placed : List Field → List ℕ → List ℕ
placed [] bytes = bytes
placed (row ∷ rows) bytes = placed rows (with_piece row.width row.at row.bytes bytes)

-- so many zero bytes
unfoldable pub zeros : ℕ → List ℕ
zeros n = replicate n 0

-- the bytes of a sector of zeros
abbrev pub blank : List ℕ
blank = zeros 512

-- the bytes with their checksum at a place: it is taken with its own four bytes as zero, and stands the lowest byte first
unfoldable pub sealed : ℕ → List ℕ → List ℕ
sealed at bytes = with_piece 4 at (little_bytes 4 (crc32c (holed at bytes))) bytes
