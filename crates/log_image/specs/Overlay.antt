-- Sectors with images over them.
use Rattle.std.specs.Prelude.{ℕ, List, [], ◌∷◌, Option, None, Some, ◌==◌, if◌then◌else◌, slice_set, map}
use Rattle.std.specs.List.{flat_map}
use Rattle.std.specs.Option.{option_or}
use Rattle.life_bytes.specs.declared.sector.Sector.{Sector}
use Rattle.log_record.specs.declared.image.Image.{Image}
use Rattle.log_record.specs.declared.record.LogRecord.{LogRecord}

-- sectors with images put over them, one after the other, so that the last image of a home stays
unfoldable pub overlaid : List Sector → List Image → List Sector
overlaid sectors [] = sectors
overlaid sectors (image ∷ images) = overlaid (slice_set sectors image.home image.sector) images

-- the last image that a list has for a home
unfoldable pub newest : ℕ → List Image → Option Sector
newest home [] = None
newest home (image ∷ images) = option_or (newest home images) (if image.home == home then Some image.sector else None)

-- the images of several records, one record's after the other's
abbrev pub images_of : List LogRecord → List Image
images_of records = flat_map (λ item. item.images) records

-- the homes of images
abbrev pub homes : List Image → List ℕ
homes images = map (λ (image : Image). image.home) images
