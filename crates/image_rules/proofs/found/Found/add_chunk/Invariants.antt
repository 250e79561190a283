use Rattle.std.proofs.Common.{◌≡◌, ◌+◌, ℕ, List, length}
use Rattle.life_bytes.specs.declared.sector.Sector.{Sector}
use Rattle.sound_image.specs.Places.{sector_in}
use Rattle.image_rules.specs.Gathered.{IsNextChunk}
use Rattle.image_rules.specs.Listing.{GroupIsFound}
use Rattle.image_rules.specs.Shown.{Shows}
use Rattle.image_rules.proofs.Tallies.{orphans_to}
use Rattle.image_rules.proofs.found.Found.add_chunk.Given as goal

abbrev pub invariant-loop-index : goal.invariant-loop-index
invariant-loop-index l = record {
  found : (image : List Sector) (bound : ℕ) → IsNextChunk l.g image l.group bound l.chunk → Shows image (sector_in l.g l.group l.chunk.start) l.sectors
      → GroupIsFound l.g image l.group bound l.fn.self → GroupIsFound l.g image l.group (l.chunk.start + l.index) l.self;
  counted : (image : List Sector) (bound : ℕ) → IsNextChunk l.g image l.group bound l.chunk → Shows image (sector_in l.g l.group l.chunk.start) l.sectors
      → GroupIsFound l.g image l.group bound l.fn.self
      → length l.self.links.orphans.entries ≡ length l.fn.self.links.orphans.entries + orphans_to l.g image l.group l.chunk l.index;
}
