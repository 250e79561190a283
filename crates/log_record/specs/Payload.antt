-- What sectors of the log hold, apart from any record.
use Rattle.std.specs.Prelude.{ℕ, ◌+◌, ◌*◌, ◌<◌, ◌≤◌, ◌≡◌, List, [], length, map, take, drop, slice_index_or}
use Rattle.std.specs.List.{flat_map, range_with_len, All}
use Rattle.life_bytes.specs.declared.sector.Sector.{Sector}
use Rattle.life_bytes.specs.Sectors.{AreSectors}
use Rattle.log_record.specs.Encoding.{stamps}
use Rattle.log_record.specs.Whole.{at_place}

-- the bytes of a sector's stamps
abbrev pub stamps_of : Sector → List ℕ
stamps_of sector = take 16 sector.bytes

-- the bytes behind a sector's stamps
abbrev pub part_of : Sector → List ℕ
part_of sector = drop 16 sector.bytes

-- the payload of several sectors, one behind the other
unfoldable pub payload_of : List Sector → List ℕ
payload_of sectors = flat_map part_of sectors

-- each has the stamps of its place in the record at a position
abbrev pub HasStamps : ℕ → List Sector → Type 0
HasStamps position sectors = (i : ℕ) → i < length sectors
    → slice_index_or (map stamps_of sectors) i [] ≡ stamps (position + i) position

-- so many sectors of a ring, from the place of a position on
unfoldable pub window : List Sector → ℕ → ℕ → List Sector
window ring position count = map (λ i. at_place ring (position + i) (record { bytes = [] })) (range_with_len 0 count)

-- the payload of a ring's sectors from a position on has these bytes at a place
abbrev pub HoldsPayload : List Sector → ℕ → ℕ → List ℕ → Type 0
HoldsPayload ring position at bytes = (count : ℕ) → AreSectors (window ring position count) → at + length bytes ≤ 496 * count
    → take (length bytes) (drop at (payload_of (window ring position count))) ≡ bytes
