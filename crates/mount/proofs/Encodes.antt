-- The first sectors of an image that encodes a table.
use Rattle.std.proofs.Common.{◌≡◌, ◌<◌, ◌≤◌, ◌*◌, ◌/◌, ◌%◌, ℕ, cond, List, length, get_or, take, ltb, ap, sym, ◌∙◌, arith}
use Rattle.std.specs.Prelude.{unwrap_or}
use Rattle.std.proofs.lemmas.List.{same_lists, length-take, get_or-take}
use Rattle.std.proofs.lemmas.List.FromFn.{length-map-range_with_len, get_or-map-range_with_len}
use Rattle.life_bytes.specs.declared.sector.Sector.{Sector}
use Rattle.life_bytes.specs.Sectors.{zero_sector}
use Rattle.geometry.specs.declared.shape.Geometry.{Geometry}
use Rattle.geometry.specs.Places.{group_sectors}
use Rattle.life_table.specs.declared.table.Table.{Table}
use Rattle.life_table.specs.Table.{group_at}
use Rattle.sound_image.specs.Places.{HasSameGroups, bytes_at}
use Rattle.sound_image.specs.Encoding.{Layouts, metadata, encoded, encoded_bytes}

abbrev sector_of : List ℕ → Sector
sector_of bytes = record { bytes = bytes }

length-encoded : (g : Geometry) (t : Table) (layouts : Layouts) (image : List Sector) → length (encoded g t layouts image) ≡ length image
unfolding encoded
length-encoded g t layouts image = length-map-range_with_len (λ s. sector_of (encoded_bytes g t layouts image s)) 0 (length image)

at_encoded : (g : Geometry) (t : Table) (layouts : Layouts) (image : List Sector) (s : ℕ) (d : Sector) → s < length image
    → get_or (encoded g t layouts image) s d ≡ sector_of (encoded_bytes g t layouts image s)
unfolding encoded
at_encoded g t layouts image s d lt =
    get_or-map-range_with_len (λ s. sector_of (encoded_bytes g t layouts image s)) 0 (length image) s s d lt (omega arith)

pub bytes_same : (g : Geometry) (t : Table) (layouts : Layouts) (a b : List Sector) (s : ℕ) → bytes_at a s ≡ bytes_at b s
    → encoded_bytes g t layouts a s ≡ encoded_bytes g t layouts b s
unfolding encoded_bytes
bytes_same g t layouts a b s same =
    ap (λ (x : List ℕ). cond (ltb s (g.groups * group_sectors g)) (unwrap_or (metadata g layouts (s / group_sectors g) (group_at t (s / group_sectors g)) (s % group_sectors g)) x) x) same

pub bytes_taken : (n s : ℕ) (image : List Sector) → s < n → bytes_at (take n image) s ≡ bytes_at image s
unfolding bytes_at
bytes_taken n s image lt = ap (λ (x : Sector). x.bytes) (get_or-take n image s zero_sector lt)

pub first_encoded : (g : Geometry) (t : Table) (layouts : Layouts) (image : List Sector) (n : ℕ) → n ≤ length image
    → encoded g t layouts (take n image) ≡ take n (encoded g t layouts image)
first_encoded g t layouts image n le =
    let part : List Sector = take n image in
    let size = length-take n image in
    let here = length-encoded g t layouts part in
    let there = length-encoded g t layouts image in
    let cut = length-take n (encoded g t layouts image) in
    same_lists (encoded g t layouts part) (take n (encoded g t layouts image)) (omega (arith, size, here, there, cut)) (λ s d lt.
    let below : s < n = omega (arith, size, here) in
    at_encoded g t layouts part s d (omega (arith, here))
    ∙ ap sector_of (bytes_same g t layouts part image s (bytes_taken n s image below))
    ∙ sym (at_encoded g t layouts image s d (omega arith))
    ∙ sym (get_or-take n (encoded g t layouts image) s d below))

pub same_groups : (g : Geometry) (image : List Sector) → g.groups * group_sectors g ≤ length image → HasSameGroups g (take (g.groups * group_sectors g) image) image
same_groups g image le = record {
  size = omega (arith, length-take (g.groups * group_sectors g) image);
  other_size = le;
  each = λ s lt. bytes_taken (g.groups * group_sectors g) s image lt;
}
