use Rattle.std.proofs.Common.{◌≡◌, ◌≢◌, ◌%◌, ℕ, List, length, slice_index}
use Rattle.life_limits.specs.declared.TheConstants.{BUCKETS}
use Rattle.life_bytes.specs.declared.sector.Sector.{Sector}
use Rattle.geometry.specs.declared.shape.Geometry.{Geometry}
use Rattle.sound_image.specs.Reading.{header_of}
use Rattle.image_rules.specs.Listing.{AreUnmet, next_pointer_of}
use Rattle.image_rules.proofs.Strolls.{IsAt}
use Rattle.image_rules.proofs.lists.walk.Given as goal

abbrev pub invariant-loop-at : goal.invariant-loop-at
invariant-loop-at l = record {
  here : (g : Geometry) (image : List Sector) (group : ℕ) → slice_index (header_of g image group).heads l.bucket ≡ l.head → AreUnmet g image group l.bucket 0 l.fn.unmet.entries
      → IsAt g image group l.bucket l.at l.holder l.unmet.entries;
  others : (agino : ℕ) → agino % BUCKETS ≢ l.bucket → next_pointer_of l.unmet.entries agino ≡ next_pointer_of l.fn.unmet.entries agino;
}

abbrev pub decreases-loop-at : goal.decreases-loop-at
decreases-loop-at l = length l.unmet.entries
