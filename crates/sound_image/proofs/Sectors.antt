-- The sectors of an image that encodes a table.
use Rattle.std.proofs.Common.{◌≡◌, ◌<◌, ◌≤◌, ◌+◌, ◌*◌, ◌%◌, ℕ, zero, suc, List, ◌++◌, Option, None, Some, length, get_or, take, drop, ltb, ap, sym, ◌∙◌, arith}
use Rattle.std.specs.Prelude.{unwrap_or}
use Rattle.std.specs.List.{flat_map, range_with_len}
use Rattle.std.proofs.lemmas.Bool.{lt-ltb, le-ltb, cond-true, cond-false}
use Rattle.std.proofs.lemmas.List.{same_lists, get_or_default, drop_all, drop-drop, length-drop, take-append-drop}
use Rattle.std.proofs.lemmas.List.FromFn.{length-map-range_with_len, get_or-map-range_with_len}
use Rattle.std.proofs.lemmas.Nat.{div-mul-add, mod-mul-add}
use Rattle.life_bytes.specs.declared.sector.Sector.{Sector}
use Rattle.life_bytes.specs.Sectors.{zero_sector}
use Rattle.geometry.specs.declared.shape.Geometry.{Geometry}
use Rattle.geometry.specs.Places.{group_sectors}
use Rattle.life_table.specs.declared.table.Table.{Table}
use Rattle.life_table.specs.Table.{group_at}
use Rattle.sound_image.specs.Places.{bytes_at, bytes_from, part, sector_in}
use Rattle.sound_image.specs.Encoding.{Layouts, metadata, encoded, encoded_bytes}

abbrev pub sector_of : List ℕ → Sector
sector_of bytes = record { bytes = bytes }

pub length-encoded : (g : Geometry) (t : Table) (layouts : Layouts) (image : List Sector) → length (encoded g t layouts image) ≡ length image
unfolding encoded
length-encoded g t layouts image = length-map-range_with_len (λ s. sector_of (encoded_bytes g t layouts image s)) 0 (length image)

pub bytes_at-encoded : (g : Geometry) (t : Table) (layouts : Layouts) (image : List Sector) (s : ℕ) → s < length image
    → bytes_at (encoded g t layouts image) s ≡ encoded_bytes g t layouts image s
unfolding encoded bytes_at
bytes_at-encoded g t layouts image s lt =
    ap (λ (sector : Sector). sector.bytes) (get_or-map-range_with_len (λ s. sector_of (encoded_bytes g t layouts image s)) 0 (length image) s s zero_sector lt (omega arith))

-- behind the groups all stays
pub behind_groups : (g : Geometry) (t : Table) (layouts : Layouts) (image : List Sector) (s : ℕ) → s < length image → g.groups * group_sectors g ≤ s
    → bytes_at (encoded g t layouts image) s ≡ bytes_at image s
unfolding encoded_bytes
behind_groups g t layouts image s lt past =
    bytes_at-encoded g t layouts image s lt ∙ cond-false (ltb s (g.groups * group_sectors g)) _ _ (le-ltb s (g.groups * group_sectors g) past)

-- a place of a group of the image
pub in_image : (groups size group place : ℕ) → group < groups → place < size → group * size + place < groups * size
in_image groups size group place lt low = let all : (group + 1) * size ≤ groups * size = grind arith in omega arith

pub at_place : (g : Geometry) (t : Table) (layouts : Layouts) (image : List Sector) (group place : ℕ) → g.groups * group_sectors g ≤ length image → group < g.groups → place < group_sectors g
    → bytes_at (encoded g t layouts image) (sector_in g group place) ≡ unwrap_or (metadata g layouts group (group_at t group) place) (bytes_at image (sector_in g group place))
unfolding encoded_bytes sector_in
at_place g t layouts image group place size lt low =
    let within : group * group_sectors g + place < g.groups * group_sectors g = in_image g.groups (group_sectors g) group place lt low in
    let old : List ℕ = bytes_at image (group * group_sectors g + place) in
    bytes_at-encoded g t layouts image (group * group_sectors g + place) (omega arith)
    ∙ cond-true (ltb (group * group_sectors g + place) (g.groups * group_sectors g)) _ _ (lt-ltb (group * group_sectors g + place) (g.groups * group_sectors g) within)
    ∙ ap (λ (x : ℕ). unwrap_or (metadata g layouts x (group_at t x) ((group * group_sectors g + place) % group_sectors g)) old) (div-mul-add group (group_sectors g) place low)
    ∙ ap (λ (x : ℕ). unwrap_or (metadata g layouts group (group_at t group) x) old) (mod-mul-add group (group_sectors g) place low)

-- a place of which the format says what stands there
pub at_metadata : (g : Geometry) (t : Table) (layouts : Layouts) (image : List Sector) (group place : ℕ) (bytes : List ℕ) → g.groups * group_sectors g ≤ length image → group < g.groups → place < group_sectors g
    → metadata g layouts group (group_at t group) place ≡ Some bytes → bytes_at (encoded g t layouts image) (sector_in g group place) ≡ bytes
at_metadata g t layouts image group place bytes size lt low e =
    at_place g t layouts image group place size lt low ∙ ap (λ (o : Option (List ℕ)). unwrap_or o (bytes_at image (sector_in g group place))) e

-- one of which it does not
pub at_rest : (g : Geometry) (t : Table) (layouts : Layouts) (image : List Sector) (group place : ℕ) → g.groups * group_sectors g ≤ length image → group < g.groups → place < group_sectors g
    → metadata g layouts group (group_at t group) place ≡ None → bytes_at (encoded g t layouts image) (sector_in g group place) ≡ bytes_at image (sector_in g group place)
at_rest g t layouts image group place size lt low e =
    at_place g t layouts image group place size lt low ∙ ap (λ (o : Option (List ℕ)). unwrap_or o (bytes_at image (sector_in g group place))) e

-- sectors that hold the parts of bytes hold the bytes
parts_whole : (f : ℕ → List ℕ) (bytes : List ℕ) (s n : ℕ) → length bytes ≡ 512 * n → ((k : ℕ) → k < n → f (s + k) ≡ part k bytes) → flat_map f (range_with_len s n) ≡ bytes
unfolding part
parts_whole f bytes s zero long each = sym (drop_all 0 bytes (omega arith))
parts_whole f bytes s (suc n) long each =
    let rest : List ℕ = drop 512 bytes in
    let here : f s ≡ take 512 bytes = let e : s + 0 ≡ s = omega arith in ap f (sym e) ∙ each 0 (omega arith) in
    let others : flat_map f (range_with_len (s + 1) n) ≡ rest =
    parts_whole f rest (s + 1) n (omega (arith, length-drop 512 bytes)) (λ k lt.
    let e : s + suc k ≡ s + 1 + k = omega arith in
    let d : 512 * suc k ≡ 512 + 512 * k = omega arith in
    ap f (sym e) ∙ each (suc k) (omega arith) ∙ ap (λ (m : ℕ). take 512 (drop m bytes)) d ∙ ap (take 512) (sym (drop-drop (512 * k) 512 bytes))) in
    ap (λ (l : List ℕ). l ++ flat_map f (range_with_len (s + 1) n)) here ∙ ap (λ (l : List ℕ). take 512 bytes ++ l) others ∙ take-append-drop 512 bytes

pub bytes_from_parts : (image : List Sector) (bytes : List ℕ) (s n : ℕ) → length bytes ≡ 512 * n → ((k : ℕ) → k < n → bytes_at image (s + k) ≡ part k bytes) → bytes_from image s n ≡ bytes
unfolding bytes_from
bytes_from_parts image bytes s n long each = parts_whole (bytes_at image) bytes s n long each

-- images with the same bytes in each sector are one
same_bytes : (a b : List Sector) (s : ℕ) → bytes_at a s ≡ bytes_at b s → get_or a s zero_sector ≡ get_or b s zero_sector
unfolding bytes_at
same_bytes a b s e = ap sector_of e

pub same_image : (a b : List Sector) → length a ≡ length b → ((s : ℕ) → s < length b → bytes_at a s ≡ bytes_at b s) → a ≡ b
same_image a b many each =
    same_lists a b many
    (λ s d lt.
    let within : s < length b = omega (arith, lt, many) in
    get_or_default a s d zero_sector lt ∙ same_bytes a b s (each s within) ∙ get_or_default b s zero_sector d within)
