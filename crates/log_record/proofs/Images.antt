-- Headers and images are told by their bytes.
use Rattle.std.proofs.Common.{◌≡◌, ℕ, suc, ◌^◌, ◌<◌, List, [], ◌∷◌, length, take, drop, refl, sym, ap, ◌∙◌, arith}
use Rattle.std.specs.List.{flat_map, All}
use Rattle.std.proofs.lemmas.List.{take_at, drop_at}
use Rattle.byteorder.specs.Numbers.{big_number-reads_back}
use Rattle.life_bytes.specs.Fields.{field}
use Rattle.log_record.specs.declared.image.Image.{Image}
use Rattle.log_record.specs.Encoding.{FitsImage, record_header, image_bytes}
use Rattle.log_record.proofs.Encoded.{length-image_bytes}

-- each number of a header is read where it stands
pub header_tail : (t f c m : ℕ) → t < 2 ^ 64 → field 8 0 (record_header t f c m) ≡ t
unfolding record_header
header_tail t f c m h = big_number-reads_back 8 t (drop 8 (record_header t f c m)) h

pub header_first : (t f c m : ℕ) → f < 2 ^ 64 → field 8 8 (record_header t f c m) ≡ f
unfolding record_header
header_first t f c m h = big_number-reads_back 8 f (drop 16 (record_header t f c m)) h

pub header_commits : (t f c m : ℕ) → c < 2 ^ 32 → field 4 16 (record_header t f c m) ≡ c
unfolding record_header
header_commits t f c m h = big_number-reads_back 4 c (drop 20 (record_header t f c m)) h

pub header_images : (t f c m : ℕ) → m < 2 ^ 32 → field 4 20 (record_header t f c m) ≡ m
unfolding record_header
header_images t f c m h = big_number-reads_back 4 m (drop 24 (record_header t f c m)) h

-- an image is told by its bytes
pub image_bytes-injective : (x y : Image) → FitsImage x → FitsImage y → image_bytes x ≡ image_bytes y → x ≡ y
unfolding image_bytes
image_bytes-injective x y isx isy same =
    let image_of : ℕ → List ℕ → Image = λ h l. record { home = h; sector = record { bytes = l } } in
    let home : x.home ≡ y.home =
    sym (big_number-reads_back 8 x.home x.sector.bytes isx.home) ∙ ap (λ (l : List ℕ). field 8 0 l) same
    ∙ big_number-reads_back 8 y.home y.sector.bytes isy.home in
    let bytes : x.sector.bytes ≡ y.sector.bytes = ap (λ (l : List ℕ). drop 8 l) same in
    ap (λ (h : ℕ). image_of h x.sector.bytes) home ∙ ap (λ (l : List ℕ). image_of y.home l) bytes

-- and so are as many images
pub images-injective : (xs ys : List Image) → All FitsImage xs → All FitsImage ys → length xs ≡ length ys
    → flat_map image_bytes xs ≡ flat_map image_bytes ys → xs ≡ ys
images-injective [] [] isx isy count same = refl
images-injective [] (y ∷ ys) isx isy count same = absurd (omega arith)
images-injective (x ∷ xs) [] isx isy count same = absurd (omega arith)
images-injective (x ∷ xs) (y ∷ ys) isx isy count same =
    let wx : length (image_bytes x) ≡ 520 = length-image_bytes x (isx 0 x (omega arith)) in
    let wy : length (image_bytes y) ≡ 520 = length-image_bytes y (isy 0 y (omega arith)) in
    let head : image_bytes x ≡ image_bytes y =
    sym (take_at (image_bytes x) (flat_map image_bytes xs) 520 wx) ∙ ap (λ (l : List ℕ). take 520 l) same
    ∙ take_at (image_bytes y) (flat_map image_bytes ys) 520 wy in
    let rest : flat_map image_bytes xs ≡ flat_map image_bytes ys =
    sym (drop_at (image_bytes x) (flat_map image_bytes xs) 520 wx) ∙ ap (λ (l : List ℕ). drop 520 l) same
    ∙ drop_at (image_bytes y) (flat_map image_bytes ys) 520 wy in
    let front = image_bytes-injective x y (isx 0 x (omega arith)) (isy 0 y (omega arith)) head in
    let behind = images-injective xs ys (λ k d h. isx (suc k) d (omega arith)) (λ k d h. isy (suc k) d (omega arith)) (omega arith) rest in
    cc
