-- What the fields of a sector give, and that it is what the sector encodes.
use Rattle.std.specs.Prelude.{◌≡◌, ◌+◌, ◌*◌, ℕ, List, length, map, take, drop}
use Rattle.std.specs.List.{range_with_len}
use Rattle.life_bytes.specs.Fields.{field}
use Rattle.ag_header.specs.declared.agi.TheConstants.{AGI_UNLINKED_AT}
use Rattle.ag_header.specs.declared.agi.Agi.{Agi}
use Rattle.ag_header.specs.Headers.{IsAgi, FieldsFit, EncodesHeader, header_encoding}

-- the header that the fields give, whatever else the sector holds
abbrev pub agi_in : List ℕ → Agi
agi_in bytes = record {
  group = field 4 8 bytes;
  blocks = field 4 12 bytes;
  count = field 4 16 bytes;
  root = field 4 20 bytes;
  level = field 4 24 bytes;
  free = field 4 28 bytes;
  heads = map (λ k. field 4 (AGI_UNLINKED_AT + 4 * k) bytes) (range_with_len 0 64);
  uuid = take 16 (drop 296 bytes);
}

-- What is encoded is read, so no sector encodes two headers; and a header's encoding is a sector that encodes it.
pub record HeadersAreRead : Type 0 where
  pub read : (bytes : List ℕ) (agi : Agi) → EncodesHeader bytes agi → agi_in bytes ≡ agi
  pub encoded : (agi : Agi) → IsAgi agi → FieldsFit agi → EncodesHeader (header_encoding agi) agi
  pub long : (agi : Agi) → IsAgi agi → FieldsFit agi → length (header_encoding agi) ≡ 512
