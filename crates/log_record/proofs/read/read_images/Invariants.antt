use Rattle.std.proofs.Common.{length, ◌≡◌}
use Rattle.std.specs.List.{flat_map, All}
use Rattle.log_record.specs.Payload.{HoldsPayload}
use Rattle.log_record.specs.Encoding.{FitsImage, image_bytes}
use Rattle.log_record.proofs.read.read_images.Given as goal

abbrev pub invariant-loop-i : goal.invariant-loop-i
invariant-loop-i l = record {
  count : length l.images.items ≡ l.i;
  images : All FitsImage l.images.items;
  held : HoldsPayload l.ring l.position 32 (flat_map image_bytes l.images.items);
}
