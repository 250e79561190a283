-- What the groups of an image are, they are by the groups' sectors alone.
use Rattle.std.proofs.Common.{◌≡◌, ◌<◌, ◌-◌, ◌*◌, ◌/◌, ◌%◌, ℕ, cond, List, Option, None, Some, length, map, eqb, ltb, inl, inr, refl, ap, sym, subst, ◌∙◌, arith}
use Rattle.std.specs.Prelude.{unwrap_or}
use Rattle.std.specs.List.{range_with_len}
use Rattle.std.specs.Option.{option_map}
use Rattle.std.proofs.lemmas.Bool.{cases_lt, le-ltb, cond-false}
use Rattle.std.proofs.lemmas.List.{same_lists}
use Rattle.std.proofs.lemmas.List.FromFn.{length-map-range_with_len, get_or-map-range_with_len}
use Rattle.std.proofs.lemmas.Nat.{div_below}
use Rattle.life_bytes.specs.declared.sector.Sector.{Sector}
use Rattle.geometry.specs.declared.shape.Geometry.{Geometry}
use Rattle.geometry.specs.Places.{group_sectors, number_in}
use Rattle.geometry.specs.Shape.{IsGeometry}
use Rattle.ag_header.specs.declared.agi.Agi.{Agi}
use Rattle.ag_header.specs.Headers.{header_encoding}
use Rattle.extent_fork.specs.Inodes.{inode_encoding}
use Rattle.inobt_leaf.specs.Pages.{page_encoding}
use Rattle.free_map.specs.Bitmap.{bitmap}
use Rattle.life_table.specs.declared.table.Inode.{Inode}
use Rattle.life_table.specs.declared.table.Table.{Table}
use Rattle.life_table.specs.Table.{Group, group_at, inode_in}
use Rattle.life_table.specs.Space.{row_blocks}
use Rattle.sound_image.specs.Places.{HasSameGroups, bytes_at, part, sector_in}
use Rattle.sound_image.specs.Reading.{rows_of}
use Rattle.sound_image.specs.Rules.{free_set}
use Rattle.sound_image.specs.Damage.{AreGroupsSound}
use Rattle.sound_image.specs.Encoding.{Layouts, HasSameLayouts, bucket_list, head_of, next_in, header_for, core_for, chunk_record, inode_sector, page_place, page_bytes, metadata, encoded, encoded_bytes, CanEncode}
use Rattle.sound_image.proofs.Again.{encoded_again}
use Rattle.sound_image.proofs.Metadata.{is_bitmap, is_page, chosen, by_tests}
use Rattle.sound_image.proofs.NoOpens.{no_opens}
use Rattle.sound_image.proofs.Ready.{Lower}
use Rattle.sound_image.proofs.Sectors.{length-encoded, bytes_at-encoded, behind_groups, same_image}
use Rattle.sound_image.proofs.Rows.{rows_are}
use Rattle.sound_image.proofs.Whole.{sound}

-- what is encoded at a sector takes nothing of the image but that sector
bytes_by : (g : Geometry) (t : Table) (layouts : Layouts) (image other : List Sector) (s : ℕ) → bytes_at image s ≡ bytes_at other s
    → encoded_bytes g t layouts image s ≡ encoded_bytes g t layouts other s
unfolding encoded_bytes
bytes_by g t layouts image other s same =
    ap (λ (old : List ℕ). cond (ltb s (g.groups * group_sectors g)) (unwrap_or (metadata g layouts (s / group_sectors g) (group_at t (s / group_sectors g)) (s % group_sectors g)) old) old) same

pub encoded_alike : (g : Geometry) (t : Table) (layouts : Layouts) (image other : List Sector) → HasSameGroups g image other → HasSameGroups g (encoded g t layouts image) (encoded g t layouts other)
encoded_alike g t layouts image other same =
    let size = same.size in
    let other_size = same.other_size in
    record {
      size = omega (arith, length-encoded g t layouts image);
      other_size = omega (arith, length-encoded g t layouts other);
      each = λ s lt. bytes_at-encoded g t layouts image s (omega arith) ∙ bytes_by g t layouts image other s (same.each s lt) ∙ sym (bytes_at-encoded g t layouts other s (omega arith));
    }

-- an image that is its own encoding, and another with the same groups
other_again : (g : Geometry) (t : Table) (layouts : Layouts) (image other : List Sector) → HasSameGroups g image other → encoded g t layouts image ≡ image → encoded g t layouts other ≡ other
other_again g t layouts image other same again =
    let size = same.size in
    same_image (encoded g t layouts other) other (length-encoded g t layouts other)
    (λ s within. elim (cases_lt s (g.groups * group_sectors g)) [
      | inl low ↦ sym ((encoded_alike g t layouts image other same).each s low) ∙ ap (λ (i : List Sector). bytes_at i s) again ∙ same.each s low
      | inr past ↦ behind_groups g t layouts other s within past
    ])

record Again (g : Geometry) (image other : List Sector) : Type 0 where
  sound : AreGroupsSound g other
  rows : rows_of g other ≡ rows_of g image

both : (l : Lower) (g : Geometry) (image other : List Sector) → IsGeometry g → HasSameGroups g image other → AreGroupsSound g image → Again g image other
both l g image other is same whole =
    let r = encoded_again l g image is whole same.size in
    let t : Table = rows_of g image in
    let can : CanEncode g t r.0 other = record { shape = is; table = r.1.table; groups = r.1.groups; blocks = r.1.blocks; layouts_of = r.1.layouts_of; size = same.other_size } in
    let here : encoded g t r.0 other ≡ other = other_again g t r.0 image other same r.2 in
    record {
      sound = subst (AreGroupsSound g) here (sound l g t r.0 other can);
      rows = ap (rows_of g) (sym here) ∙ rows_are l g t r.0 other can ∙ no_opens g image;
    }

pub sound_alike : (l : Lower) (g : Geometry) (image other : List Sector) → IsGeometry g → HasSameGroups g image other → AreGroupsSound g image → AreGroupsSound g other
sound_alike l g image other is same whole = (both l g image other is same whole).sound

pub rows_alike : (l : Lower) (g : Geometry) (image other : List Sector) → IsGeometry g → HasSameGroups g image other → AreGroupsSound g image → rows_of g other ≡ rows_of g image
rows_alike l g image other is same whole = (both l g image other is same whole).rows

-- ---- layouts

header_alike : (g : Geometry) (layouts others : Layouts) (group : ℕ) (chunks : Group) → HasSameLayouts g layouts others → group < g.groups → header_for g group chunks others ≡ header_for g group chunks layouts
unfolding header_for
header_alike g layouts others group chunks same lt =
    let heads : Layouts → ℕ → ℕ = λ ls bucket. head_of (bucket_list ls group bucket) in
    ap (λ (root : ℕ). record (header_for g group chunks others) { root = root }) (same.page group lt)
    ∙ ap (λ (list : List ℕ). record (header_for g group chunks layouts) { heads = list })
    (same_lists (map (heads others) (range_with_len 0 64)) (map (heads layouts) (range_with_len 0 64)) (length-map-range_with_len (heads others) 0 64 ∙ sym (length-map-range_with_len (heads layouts) 0 64))
    (λ k d low.
    let small : k < 64 = omega (arith, low, length-map-range_with_len (heads others) 0 64) in
    get_or-map-range_with_len (heads others) 0 64 k k d small (omega arith) ∙ ap head_of (same.lists group k lt small) ∙ sym (get_or-map-range_with_len (heads layouts) 0 64 k k d small (omega arith))))

place_alike : (g : Geometry) (layouts others : Layouts) (group : ℕ) → HasSameLayouts g layouts others → group < g.groups → page_place others group ≡ page_place layouts group
unfolding page_place
place_alike g layouts others group same lt = ap (λ (n : ℕ). 8 * n) (same.page group lt)

page_alike : (g : Geometry) (layouts others : Layouts) (group : ℕ) (chunks : Group) → HasSameLayouts g layouts others → group < g.groups → page_bytes g others group chunks ≡ page_bytes g layouts group chunks
unfolding page_bytes
page_alike g layouts others group chunks same lt = ap (λ (p : ℕ). page_encoding (map chunk_record chunks) group (sector_in g group p) g.uuid) (place_alike g layouts others group same lt)

inode_alike : (g : Geometry) (layouts others : Layouts) (group agino : ℕ) (o : Option Inode) → HasSameLayouts g layouts others → group < g.groups
    → option_map (inode_sector g others group agino) o ≡ option_map (inode_sector g layouts group agino) o
unfolding inode_sector
inode_alike g layouts others group agino None same lt = refl
inode_alike g layouts others group agino (Some x) same lt =
    ap (λ (members : List ℕ). Some (inode_encoding (core_for x.generation x.row (next_in members agino)) (number_in group agino) g.uuid group (row_blocks x.row))) (same.lists group (agino % 64) lt (omega arith))

metadata_alike : (g : Geometry) (layouts others : Layouts) (group : ℕ) (chunks : Group) (place : ℕ) → HasSameLayouts g layouts others → group < g.groups
    → metadata g others group chunks place ≡ metadata g layouts group chunks place
metadata_alike g layouts others group chunks place same lt =
    let bits : Option (List ℕ) = Some (part (place - 8) (bitmap (free_set g.blocks chunks))) in
    let page : ℕ → List ℕ → Option (List ℕ) = λ p bytes. Some (part (place - p) bytes) in
    let inode : Option (List ℕ) = option_map (inode_sector g others group place) (inode_in chunks place) in
    by_tests g others group chunks place
    ∙ ap (λ (agi : Agi). chosen (eqb place 2) (is_bitmap place) (is_page (page_place others group) place) (Some (header_encoding agi)) bits (page (page_place others group) (page_bytes g others group chunks)) inode)
    (header_alike g layouts others group chunks same lt)
    ∙ ap (λ (p : ℕ). chosen (eqb place 2) (is_bitmap place) (is_page p place) (Some (header_encoding (header_for g group chunks layouts))) bits (page p (page_bytes g others group chunks)) inode)
    (place_alike g layouts others group same lt)
    ∙ ap (λ (bytes : List ℕ). chosen (eqb place 2) (is_bitmap place) (is_page (page_place layouts group) place) (Some (header_encoding (header_for g group chunks layouts))) bits (page (page_place layouts group) bytes) inode)
    (page_alike g layouts others group chunks same lt)
    ∙ ap (λ (o : Option (List ℕ)). chosen (eqb place 2) (is_bitmap place) (is_page (page_place layouts group) place) (Some (header_encoding (header_for g group chunks layouts))) bits
    (page (page_place layouts group) (page_bytes g layouts group chunks)) o)
    (inode_alike g layouts others group place (inode_in chunks place) same lt)
    ∙ sym (by_tests g layouts group chunks place)

bytes_alike : (g : Geometry) (t : Table) (layouts others : Layouts) (image : List Sector) (s : ℕ) → HasSameLayouts g layouts others → encoded_bytes g t others image s ≡ encoded_bytes g t layouts image s
unfolding encoded_bytes
bytes_alike g t layouts others image s same =
    let size : ℕ = group_sectors g in
    let group : ℕ = s / size in
    let old : List ℕ = bytes_at image s in
    elim (cases_lt s (g.groups * size)) [
      | inl low ↦ elim (cases_lt 0 size) [
        | inl some ↦
            ap (λ (o : Option (List ℕ)). cond (ltb s (g.groups * size)) (unwrap_or o old) old)
            (metadata_alike g layouts others group (group_at t group) (s % size) same (div_below s size g.groups some low))
        | inr none ↦
            let zero_size : size ≡ 0 = omega arith in
            let less : s < g.groups * 0 = subst (λ (n : ℕ). s < g.groups * n) zero_size low in
            absurd (omega arith)
      ]
      | inr past ↦ cond-false (ltb s (g.groups * size)) _ _ (le-ltb s (g.groups * size) past) ∙ sym (cond-false (ltb s (g.groups * size)) _ _ (le-ltb s (g.groups * size) past))
    ]

pub layouts_alike : (g : Geometry) (t : Table) (layouts others : Layouts) (image : List Sector) → HasSameLayouts g layouts others → encoded g t others image ≡ encoded g t layouts image
layouts_alike g t layouts others image same =
    let many = length-encoded g t others image in
    let long = length-encoded g t layouts image in
    same_image (encoded g t others image) (encoded g t layouts image) (many ∙ sym long)
    (λ s within.
    let lt : s < length image = omega (arith, within, long) in
    bytes_at-encoded g t others image s lt ∙ bytes_alike g t layouts others image s same ∙ sym (bytes_at-encoded g t layouts image s lt))
