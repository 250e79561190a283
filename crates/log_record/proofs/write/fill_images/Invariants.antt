use Rattle.std.proofs.Common.{◌≡◌, ◌+◌, ◌*◌, ◌-◌, ◌++◌, length, take, replicate}
use Rattle.std.specs.List.{flat_map, All}
use Rattle.life_bytes.specs.Sectors.{AreSectors}
use Rattle.log_record.specs.Numbers.{record_of}
use Rattle.log_record.specs.Payload.{HasStamps, payload_of}
use Rattle.log_record.specs.Encoding.{FitsImage, image_bytes}
use Rattle.log_record.proofs.Encoded.{header_of}
use Rattle.log_record.proofs.write.fill_images.Given as goal

abbrev pub invariant-loop-image : goal.invariant-loop-image
invariant-loop-image l = record {
  place : l.at ≡ 32 + 520 * l.image-index;
  whole : AreSectors l.into;
  stamps : HasStamps l.numbers.position l.into;
  images : All FitsImage (take l.image-index l.images);
  payload : payload_of l.into ≡ header_of (record_of l.numbers l.images) ++ flat_map image_bytes (take l.image-index l.images)
      ++ replicate (496 * length l.into - l.at) 0;
}
