use Rattle.std.proofs.Common.{◌≡◌, IsTrue, length, take}
use Rattle.std.specs.Prelude.{sum_by}
use Rattle.sound_image.specs.Reading.{records_of}
use Rattle.image_rules.specs.Counted.{chunk_orphans}
use Rattle.image_rules.specs.Listing.{GroupIsFound}
use Rattle.image_rules.proofs.Walking.{bound_at}
use Rattle.image_rules.proofs.groups.check_inodes.Given as goal

abbrev pub invariant-loop-chunk : goal.invariant-loop-chunk
invariant-loop-chunk g l = record {
  read : g.V.View.only_read l.fn.view l.view;
  gathered : IsTrue g.V.View.known → records_of l.g (g.V.View.image l.fn.view) l.group ≡ l.leaf
      → GroupIsFound l.g (g.V.View.image l.fn.view) l.group (bound_at l.chunks l.chunk-index) l.found;
  counted : IsTrue g.V.View.known → records_of l.g (g.V.View.image l.fn.view) l.group ≡ l.leaf
      → length l.found.links.orphans.entries ≡ sum_by (chunk_orphans l.g (g.V.View.image l.fn.view) l.group) (take l.chunk-index l.chunks);
}
