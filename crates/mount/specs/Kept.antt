-- Some sectors of an image that are kept in memory, and the sectors that they stand for.
use Rattle.std.specs.Prelude.{◌≡◌, ◌<◌, ◌+◌, ℕ, List, Some, IfSome, IsSome, map, unwrap_or}
use Rattle.std.specs.List.{range_with_len}
use Rattle.std.specs.Ordering.{nat_cmp}
use Rattle.std.specs.BTreeMap.{BTreeMap, get}
use Rattle.life_limits.specs.declared.TheConstants.{CHUNK_INODES}
use Rattle.life_bytes.specs.declared.sector.Sector.{Sector}
use Rattle.life_bytes.specs.Sectors.{zero_sector}
use Rattle.geometry.specs.declared.shape.Geometry.{Geometry}
use Rattle.geometry.specs.Places.{group_sectors}
use Rattle.life_table.specs.declared.table.Table.{Table}
use Rattle.life_table.specs.Table.{group_at}
use Rattle.sound_image.specs.Encoding.{Layouts, metadata}
use Rattle.sound_image.specs.Places.{bytes_at, sector_in}
use Rattle.mount.specs.declared.memory_view.MemoryView.{MemoryView}

-- each sector that is kept has the bytes that the image has there
abbrev pub Agrees : List Sector → BTreeMap ℕ Sector → Type 0
Agrees image kept = (s : ℕ) → IfSome (get nat_cmp kept s) (λ sector. bytes_at image s ≡ sector.bytes)

-- what is kept of an image agrees with it if what was kept before did
abbrev pub StillAgrees : List Sector → BTreeMap ℕ Sector → BTreeMap ℕ Sector → Type 0
StillAgrees image old new = Agrees image old → Agrees image new

-- a sector is kept
abbrev pub Has : BTreeMap ℕ Sector → ℕ → Type 0
Has kept s = IsSome (get nat_cmp kept s)

-- none is dropped
abbrev pub Grows : BTreeMap ℕ Sector → BTreeMap ℕ Sector → Type 0
Grows old new = (s : ℕ) → Has old s → Has new s

-- so many sectors from one on are kept
abbrev pub HasRun : BTreeMap ℕ Sector → ℕ → ℕ → Type 0
HasRun kept s n = (k : ℕ) → k < n → Has kept (s + k)

-- those of a chunk's inodes are kept, so far as they are in the group
abbrev pub HasChunk : Geometry → BTreeMap ℕ Sector → ℕ → ℕ → Type 0
HasChunk g kept group start = (i : ℕ) → i < CHUNK_INODES → start + i < group_sectors g → Has kept (sector_in g group (start + i))

-- each sector of a group is kept of which the format says what stands there
abbrev pub HasGroup : Geometry → Table → Layouts → BTreeMap ℕ Sector → ℕ → Type 0
HasGroup g t layouts kept group = (place : ℕ) (bytes : List ℕ) → metadata g layouts group (group_at t group) place ≡ Some bytes → Has kept (sector_in g group place)

-- what stands for a sector: itself where it is kept, else zeros
abbrev pub kept_sector : BTreeMap ℕ Sector → ℕ → Sector
kept_sector kept s = unwrap_or (get nat_cmp kept s) zero_sector

-- so many sectors, of which those that are not kept are zero
unfoldable pub kept_image : BTreeMap ℕ Sector → ℕ → List Sector
kept_image kept count = map (kept_sector kept) (range_with_len 0 count)

-- what a view over kept sectors shows
abbrev pub shown_by : MemoryView → List Sector
shown_by view = kept_image view.kept.now view.count
