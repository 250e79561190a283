-- How a record of the log is encoded: as a list of log sectors.
use Rattle.std.specs.Prelude.{ℕ, ◌+◌, ◌*◌, ◌-◌, ◌/◌, ◌^◌, ◌<◌, ◌≤◌, ◌≡◌, List, ◌++◌, length, take, drop, map, replicate}
use Rattle.std.specs.List.{flat_map, range_with_len, All}
use Rattle.std.specs.List.Sorted.{IsStrictlyIncreasing}
use Rattle.life_limits.specs.declared.TheConstants.{MAX_IMAGES}
use Rattle.byteorder.specs.Endian.{big_bytes}
use Rattle.life_bytes.specs.Fields.{AreBytes}
use Rattle.life_bytes.specs.declared.sector.Sector.{Sector}
use Rattle.log_record.specs.declared.image.Image.{Image}
use Rattle.log_record.specs.declared.record.LogRecord.{LogRecord}

-- the sectors of a record of m images: 32 bytes of header and 520 for each image, 496 in a sector, rounded up
abbrev pub sector_count : ℕ → ℕ
sector_count m = (32 + 520 * m + 495) / 496

-- the tail, the first commit number, the numbers of commits, images and sectors, and a zero
unfoldable pub record_header : ℕ → ℕ → ℕ → ℕ → List ℕ
record_header tail first commits images =
    big_bytes 8 tail ++ (big_bytes 8 first ++ (big_bytes 4 commits ++ (big_bytes 4 images
    ++ (big_bytes 4 (sector_count images) ++ big_bytes 4 0))))

-- the home of an image, and then the bytes of its sector
unfoldable pub image_bytes : Image → List ℕ
image_bytes image = big_bytes 8 image.home ++ image.sector.bytes

-- the header, the images, and zero to the end of the last sector
unfoldable pub payload : LogRecord → List ℕ
payload item =
    let m = length item.images in
    record_header item.tail item.first item.commits m
    ++ (flat_map image_bytes item.images ++ replicate (496 * sector_count m - (32 + 520 * m)) 0)

-- what a log sector has before its payload: its position, and the position of its record's first sector
unfoldable pub stamps : ℕ → ℕ → List ℕ
stamps position first = big_bytes 8 position ++ big_bytes 8 first

-- the sector of a record at an index: its stamps, and the 496 bytes of the record's payload that are its part
unfoldable pub record_sector : LogRecord → ℕ → Sector
record_sector item i = record { bytes = stamps (item.position + i) item.position ++ take 496 (drop (496 * i) (payload item)) }

-- the sectors of a record
unfoldable pub encoded_record : LogRecord → List Sector
encoded_record item = map (record_sector item) (range_with_len 0 (sector_count (length item.images)))

-- what a record has to be: no more images than one may have, whose homes ascend and none stands twice, a tail that is not
-- above its position, and sectors whose positions are numbers of 64 bits
pub record IsRecord (item : LogRecord) : Type 0 where
  pub few : length item.images ≤ MAX_IMAGES
  pub homes : IsStrictlyIncreasing (map (λ image. image.home) item.images)
  pub tail : item.tail ≤ item.position
  pub positions : item.position + sector_count (length item.images) ≤ 2 ^ 64

-- an image is one that its fields hold: a home of 64 bits, and 512 bytes
pub record FitsImage (image : Image) : Type 0 where
  pub home : image.home < 2 ^ 64
  pub size : length image.sector.bytes ≡ 512
  pub bytes : AreBytes image.sector.bytes

-- a record is one that its fields hold: numbers of 64 and 32 bits, and images that are
pub record FitsFields (item : LogRecord) : Type 0 where
  pub first : item.first < 2 ^ 64
  pub commits : item.commits < 2 ^ 32
  pub images : All FitsImage item.images
