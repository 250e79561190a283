use Rattle.std.proofs.Common.{◌≡◌, ◌≤◌, ◌<◌, ◌+◌, ◌*◌, ◌-◌, ℕ, List, [], ◌++◌, length, take, replicate, get_or, refl, ap, sym, subst, ◌∙◌, arith, length-append, append_assoc}
use Rattle.std.specs.List.{flat_map}
use Rattle.std.proofs.lemmas.List.{append-nil, take_all, length-take-le}
use Rattle.life_bytes.specs.Fields.{with_piece}
use Rattle.log_record.specs.declared.image.Image.{Image}
use Rattle.log_record.specs.Numbers.{record_of}
use Rattle.log_record.specs.Payload.{payload_of}
use Rattle.log_record.specs.Encoding.{FitsImage, record_header, image_bytes, payload, sector_count}
use Rattle.log_record.proofs.Encoded.{header_of, length-header, length-images, with_piece-zeros, image_step, stamps_follow, more_images, encoded_from_parts}
use Rattle.log_record.proofs.write.fill_images.Goals as goal

pub loop-image-init : goal.loop-image-init
loop-image-init c =
    let item = record_of c.args.numbers.now c.args.images.now in
    let blank = c.stamp_all.new.into in
    let head = c.header_bytes-header.result in
    let written : head ≡ header_of item =
    c.header_bytes-header.ensures in
    let size : length head ≡ 32 = ap (λ (l : List ℕ). length l) written ∙ length-header item.tail item.first item.commits (length item.images) in
    let fits : 32 ≤ 496 * length blank = omega arith in
    let same : length c.put_payload.new.into ≡ length blank = c.put_payload.auto.into in
    record {
      place = refl;
      whole = c.put_payload.ensures.whole;
      stamps = stamps_follow blank c.put_payload.new.into item.position c.put_payload.ensures.stamps c.stamp_all.ensures.stamps;
      images = λ k d h. absurd (omega arith);
      payload = c.put_payload.ensures.payload
          ∙ ap (λ (k : ℕ). with_piece k 0 head (payload_of blank)) size
          ∙ ap (λ (l : List ℕ). with_piece 32 0 l (payload_of blank)) written
          ∙ ap (λ (l : List ℕ). with_piece 32 0 (header_of item) l) c.stamp_all.ensures.payload
          ∙ with_piece-zeros [] (header_of item) 32 0 (496 * length blank) refl fits
          ∙ ap (λ (l : List ℕ). l ++ replicate (496 * length blank - 32) 0) (sym (append-nil (header_of item)))
          ∙ ap (λ (k : ℕ). header_of item ++ [] ++ replicate (496 * k - 32) 0) (sym same);
    }

pub loop-image-preserved : goal.loop-image-preserved
loop-image-preserved c =
    let item = record_of c.args.numbers.now c.args.images.now in
    let images = item.images in
    let i = c.loop-image.image-index in
    let at = c.loop-image.at in
    let into = c.loop-image.into in
    let none : Image = record { home = 0; sector = record { bytes = [] } } in
    let listed : c.args.images.now ≡ images = refl in
    let within : i < length images = omega (arith, ap (λ (l : List Image). length l) listed) in
    let same : length c.put_image.new.into ≡ length into = c.put_image.auto.into in
    let read : get_or c.args.images.now i none ≡ get_or images i none = ap (λ (l : List Image). get_or l i none) listed in
    let is : FitsImage (get_or images i none) = subst FitsImage read c.put_image.ensures.image in
    let front : length (header_of item ++ flat_map image_bytes (take i images)) ≡ at =
    omega (
      arith,
      length-append (header_of item) (flat_map image_bytes (take i images)),
      length-header item.tail item.first item.commits (length item.images),
      length-images (take i images) c.loop-image.invariant.images,
      length-take-le i images (omega arith),
    ) in
    let room : at + 520 ≤ 496 * length into = omega (arith, ap (λ (l : List Image). length l) listed) in
    record {
      place = omega arith;
      whole = c.put_image.ensures.whole;
      stamps = stamps_follow into c.put_image.new.into item.position c.put_image.ensures.stamps c.loop-image.invariant.stamps;
      images = more_images images i none within c.loop-image.invariant.images is;
      payload = c.put_image.ensures.payload
          ∙ ap (λ (image : Image). with_piece 520 at (image_bytes image) (payload_of into)) read
          ∙ ap (λ (l : List ℕ). with_piece 520 at (image_bytes (get_or images i none)) l) c.loop-image.invariant.payload
          ∙ image_step (header_of item) images i at (496 * length into) none within front room
          ∙ ap (λ (k : ℕ). header_of item ++ flat_map image_bytes (take (i + 1) images) ++ replicate (496 * k - (at + 520)) 0) (sym same);
    }

pub returns-clause-encoded : goal.returns-clause-encoded
unfolding payload
returns-clause-encoded c =
    let item = record_of c.args.numbers.now c.args.images.now in
    let into = c.loop-image.into in
    let images = item.images in
    let m = length images in
    let listed : length c.args.images.now ≡ m = refl in
    let all : take c.loop-image.image-index images ≡ images = take_all c.loop-image.image-index images (omega arith) in
    let count : length into ≡ sector_count m = omega arith in
    encoded_from_parts into item count c.loop-image.invariant.whole c.loop-image.invariant.stamps
    (c.loop-image.invariant.payload
    ∙ ap (λ (l : List Image). header_of item ++ flat_map image_bytes l ++ replicate (496 * length into - c.loop-image.at) 0) all
    ∙ append_assoc (header_of item) (flat_map image_bytes images) (replicate (496 * length into - c.loop-image.at) 0)
    ∙ ap (λ (k : ℕ). header_of item ++ (flat_map image_bytes images ++ replicate k 0)) (ap (λ (n : ℕ). 496 * n - c.loop-image.at) count ∙ omega arith))
