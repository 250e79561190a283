use Rattle.std.proofs.Common.{◌≡◌, ◌≤◌, ◌%◌, ℕ, List}
use Rattle.life_limits.specs.declared.TheConstants.{BUCKETS}
use Rattle.life_bytes.specs.declared.sector.Sector.{Sector}
use Rattle.geometry.specs.declared.shape.Geometry.{Geometry}
use Rattle.sound_image.specs.Reading.{header_of}
use Rattle.image_rules.specs.Listing.{AreUnmet, WalkedBelow, next_pointer_of}
use Rattle.image_rules.proofs.lists.walk_all.Given as goal

abbrev pub invariant-loop-bucket : goal.invariant-loop-bucket
invariant-loop-bucket l = record {
  walked : (g : Geometry) (image : List Sector) (group : ℕ) → (header_of g image group).heads ≡ l.heads → ((bucket : ℕ) → AreUnmet g image group bucket 0 l.fn.unmet.entries)
      → WalkedBelow g image group l.bucket l.unmet.entries l.wrong;
  ahead : (agino : ℕ) → l.bucket ≤ agino % BUCKETS → next_pointer_of l.unmet.entries agino ≡ next_pointer_of l.fn.unmet.entries agino;
}
