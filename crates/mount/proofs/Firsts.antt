-- The first sector of an image, which no log writes.
use Rattle.std.proofs.Common.{◌≡◌, ◌<◌, ℕ, List, [], ◌∷◌, None, length, get_or, ap, ◌∙◌, arith}
use Rattle.std.specs.Prelude.{unwrap_or}
use Rattle.std.specs.List.{All}
use Rattle.std.proofs.lemmas.List.Elements.{All-head, All-tail}
use Rattle.std.proofs.Math.Nat.{mul-le-mul_right}
use Rattle.life_bytes.specs.declared.sector.Sector.{Sector}
use Rattle.life_bytes.specs.Sectors.{zero_sector}
use Rattle.geometry.specs.declared.shape.Geometry.{Geometry}
use Rattle.geometry.specs.Places.{anchor_of, group_sectors}
use Rattle.geometry.specs.Shape.{IsGeometry}
use Rattle.log_record.specs.declared.image.Image.{Image}
use Rattle.log_image.specs.Log.{IsGroupImage}
use Rattle.log_image.specs.Overlay.{newest, overlaid}
use Rattle.log_image.specs.OverlayLaws.{get_or-overlaid}
use Rattle.log_batch.specs.NewestLaws.{newest-nil, newest_rest}
use Rattle.sound_image.specs.Places.{bytes_at}
use Rattle.sound_image.specs.Superblocks.{HasSuperblock}

pub some_sectors : (g : Geometry) → IsGeometry g → 0 < anchor_of g
some_sectors g shape = let more = mul-le-mul_right (group_sectors g) shape.groups.0 in omega (arith, more, shape.blocks.0)

-- no image is of the first sector
pub none_first : (anchor : ℕ) (images : List Image) → All (IsGroupImage anchor) images → newest 0 images ≡ None
none_first anchor [] all = newest-nil 0
none_first anchor (image ∷ images) all =
    let here = All-head (IsGroupImage anchor) image images all in
    newest_rest 0 image images (omega (arith, here.0)) ∙ none_first anchor images (All-tail (IsGroupImage anchor) image images all)

pub first_under : (anchor : ℕ) (sectors : List Sector) (images : List Image) (d : Sector) → 0 < length sectors → All (IsGroupImage anchor) images
    → get_or (overlaid sectors images) 0 d ≡ get_or sectors 0 d
first_under anchor sectors images d some all =
    get_or-overlaid sectors images 0 d some ∙ ap (λ o. unwrap_or o (get_or sectors 0 d)) (none_first anchor images all)

-- an image with the same first sector has the same superblock
pub same_superblock : (g : Geometry) (old new : List Sector) → get_or new 0 zero_sector ≡ get_or old 0 zero_sector → HasSuperblock g old → HasSuperblock g new
unfolding bytes_at
same_superblock g old new same has = record { shape = has.shape; encoded = ap (λ (s : Sector). s.bytes) same ∙ has.encoded }
