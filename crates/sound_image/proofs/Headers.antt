-- The headers and pages of an image that encodes a table.
use Rattle.std.proofs.Common.{◌≡◌, ◌<◌, ◌≤◌, ◌+◌, ◌*◌, ◌^◌, ℕ, List, [], ◌∷◌, length, map, get_or, inl, inr, refl, ap, sym, subst, ◌∙◌, arith, lit<, lit≤}
use Rattle.std.specs.Prelude.{sum_by}
use Rattle.std.specs.List.{range_with_len}
use Rattle.std.proofs.lemmas.Bool.{cases_lt}
use Rattle.std.proofs.lemmas.List.{length-map, get_or_past}
use Rattle.std.proofs.lemmas.List.FromFn.{length-map-range_with_len, get_or-map-range_with_len}
use Rattle.life_bytes.specs.declared.sector.Sector.{Sector}
use Rattle.geometry.specs.declared.shape.Geometry.{Geometry}
use Rattle.ag_header.specs.declared.agi.Agi.{Agi}
use Rattle.ag_header.specs.Headers.{IsAgi, FieldsFit, EncodesHeader, header_encoding}
use Rattle.inobt_leaf.specs.declared.chunk.ChunkRec.{ChunkRec}
use Rattle.inobt_leaf.specs.Chunks.{IsLeaf}
use Rattle.inobt_leaf.specs.Pages.{chunks_in}
use Rattle.inobt_leaf.specs.Pages.{no_siblings, page_encoding}
use Rattle.life_table.specs.declared.table.Table.{Table}
use Rattle.life_table.specs.Table.{Group, group_at}
use Rattle.life_table.specs.Space.{times}
use Rattle.sound_image.specs.Places.{bytes_at, bytes_from, part, sector_in}
use Rattle.sound_image.specs.Reading.{header_of, page_sector, records_of}
use Rattle.sound_image.specs.Rules.{IsHeaderRight, IsPageRight, AreCountsRight, IsInData}
use Rattle.sound_image.specs.Encoding.{Layouts, bucket_list, head_of, chunk_record, header_for, page_of, page_place, page_bytes, encoded}
use Rattle.sound_image.proofs.Groups.{times_here}
use Rattle.sound_image.proofs.Leaves.{free_bound, free_sum, all_in_data_blocks}
use Rattle.sound_image.proofs.Metadata.{at_header, at_page}
use Rattle.sound_image.proofs.Ready.{Lower, IsReady, member_range}
use Rattle.sound_image.proofs.Sectors.{at_metadata, bytes_from_parts}

-- ---- the header

small_head : (members : List ℕ) → ((m : ℕ) → 1 ≤ times m members → m < 2 ^ 32) → head_of members < 2 ^ 32
unfolding head_of
small_head [] each = lit< tt
small_head (m ∷ members) each = each m (times_here m members)

heads_small : (g : Geometry) (t : Table) (layouts : Layouts) (image : List Sector) (group : ℕ) → IsReady g t layouts image group → (k : ℕ)
    → get_or (map (λ bucket. head_of (bucket_list layouts group bucket)) (range_with_len 0 64)) k 0 < 2 ^ 32
heads_small g t layouts image group r k =
    let f : ℕ → ℕ = λ bucket. head_of (bucket_list layouts group bucket) in
    let most = r.most in
    elim (cases_lt k 64) [
      | inl lt ↦
          subst (λ (n : ℕ). n < 2 ^ 32) (sym (get_or-map-range_with_len f 0 64 k k 0 lt (omega arith)))
          (small_head (bucket_list layouts group k) (λ m some. let range = member_range g t layouts image group k m r lt some in omega arith))
      | inr past ↦ subst (λ (n : ℕ). n < 2 ^ 32) (sym (get_or_past (map f (range_with_len 0 64)) k 0 (omega (arith, length-map-range_with_len f 0 64)))) (lit< tt)
    ]

header_allowed : (g : Geometry) (group : ℕ) (chunks : Group) (layouts : Layouts) → 16 ≤ page_place layouts group → page_place layouts group ≤ 136 → IsAgi (header_for g group chunks layouts)
unfolding header_for page_place
header_allowed g group chunks layouts low high = record { root = (omega arith, omega arith); level = (lit≤ tt, lit≤ tt) }

header_fits : (g : Geometry) (t : Table) (layouts : Layouts) (image : List Sector) (group : ℕ) → IsReady g t layouts image group → FieldsFit (header_for g group (group_at t group) layouts)
unfolding header_for
header_fits g t layouts image group r =
    let few = r.is_group.few in
    let most = r.most in
    let small = r.small in
    record {
      group = omega arith;
      blocks = omega arith;
      count = omega arith;
      free = omega (arith, free_bound (group_at t group) r.is_group.chunks);
      heads = length-map-range_with_len (λ bucket. head_of (bucket_list layouts group bucket)) 0 64;
      each_head = heads_small g t layouts image group r;
      uuid = r.uuid;
    }

pub header_encoded : (l : Lower) (g : Geometry) (t : Table) (layouts : Layouts) (image : List Sector) (group : ℕ) → IsReady g t layouts image group
    → EncodesHeader (bytes_at (encoded g t layouts image) (sector_in g group 2)) (header_for g group (group_at t group) layouts)
header_encoded l g t layouts image group r =
    let agi = header_for g group (group_at t group) layouts in
    let least = r.least in
    subst (λ (bytes : List ℕ). EncodesHeader bytes agi)
    (sym (at_metadata g t layouts image group 2 (header_encoding agi) r.size r.below (omega arith) (at_header g layouts group (group_at t group))))
    (l.headers.encoded agi (header_allowed g group (group_at t group) layouts r.page_low r.page_high) (header_fits g t layouts image group r))

pub header_is : (l : Lower) (g : Geometry) (t : Table) (layouts : Layouts) (image : List Sector) (group : ℕ) → IsReady g t layouts image group
    → header_of g (encoded g t layouts image) group ≡ header_for g group (group_at t group) layouts
unfolding header_of
header_is l g t layouts image group r =
    l.headers.read (bytes_at (encoded g t layouts image) (sector_in g group 2)) (header_for g group (group_at t group) layouts) (header_encoded l g t layouts image group r)

record IsFor (g : Geometry) (layouts : Layouts) (group : ℕ) (agi : Agi) : Type 0 where
  own_group : agi.group ≡ group
  blocks : agi.blocks ≡ g.blocks
  uuid : agi.uuid ≡ g.uuid
  root : agi.root ≡ page_of layouts group

is_for : (g : Geometry) (group : ℕ) (chunks : Group) (layouts : Layouts) → IsFor g layouts group (header_for g group chunks layouts)
unfolding header_for
is_for g group chunks layouts = record { own_group = refl; blocks = refl; uuid = refl; root = refl }

header_read_for : (l : Lower) (g : Geometry) (t : Table) (layouts : Layouts) (image : List Sector) (group : ℕ) → IsReady g t layouts image group
    → IsFor g layouts group (header_of g (encoded g t layouts image) group)
header_read_for l g t layouts image group r = subst (IsFor g layouts group) (sym (header_is l g t layouts image group r)) (is_for g group (group_at t group) layouts)

pub header_right : (l : Lower) (g : Geometry) (t : Table) (layouts : Layouts) (image : List Sector) (group : ℕ) → IsReady g t layouts image group
    → IsHeaderRight g (encoded g t layouts image) group
header_right l g t layouts image group r =
    let is = header_read_for l g t layouts image group r in
    record {
      encoded = subst (EncodesHeader (bytes_at (encoded g t layouts image) (sector_in g group 2))) (sym (header_is l g t layouts image group r)) (header_encoded l g t layouts image group r);
      own_group = is.own_group;
      blocks = is.blocks;
      uuid = is.uuid;
    }

-- ---- the page

pub page_sector_is : (l : Lower) (g : Geometry) (t : Table) (layouts : Layouts) (image : List Sector) (group : ℕ) → IsReady g t layouts image group
    → page_sector g (encoded g t layouts image) group ≡ sector_in g group (page_place layouts group)
unfolding page_sector page_place
page_sector_is l g t layouts image group r = ap (λ (root : ℕ). sector_in g group (8 * root)) (header_read_for l g t layouts image group r).root

pub sector_more : (g : Geometry) (group place k : ℕ) → sector_in g group place + k ≡ sector_in g group (place + k)
unfolding sector_in
sector_more g group place k = omega arith

page_part : (g : Geometry) (t : Table) (layouts : Layouts) (image : List Sector) (group k : ℕ) → IsReady g t layouts image group → k < 8
    → bytes_at (encoded g t layouts image) (sector_in g group (page_place layouts group) + k) ≡ part k (page_bytes g layouts group (group_at t group))
page_part g t layouts image group k r lt =
    let least = r.least in
    let high = r.page_high in
    ap (bytes_at (encoded g t layouts image)) (sector_more g group (page_place layouts group) k)
    ∙ at_metadata g t layouts image group (page_place layouts group + k) (part k (page_bytes g layouts group (group_at t group))) r.size r.below (omega arith) (at_page g layouts group (group_at t group) k r.page_low lt)

pub page_is : (l : Lower) (g : Geometry) (t : Table) (layouts : Layouts) (image : List Sector) (group : ℕ) → IsReady g t layouts image group
    → bytes_from (encoded g t layouts image) (sector_in g group (page_place layouts group)) 8 ≡ page_encoding (map chunk_record (group_at t group)) group (sector_in g group (page_place layouts group)) g.uuid
unfolding page_bytes
page_is l g t layouts image group r =
    bytes_from_parts (encoded g t layouts image) (page_bytes g layouts group (group_at t group)) (sector_in g group (page_place layouts group)) 8
    (l.pages.long no_siblings (map chunk_record (group_at t group)) group (sector_in g group (page_place layouts group)) g.uuid r.leaf r.uuid)
    (λ k lt. page_part g t layouts image group k r lt)

pub records_are : (l : Lower) (g : Geometry) (t : Table) (layouts : Layouts) (image : List Sector) (group : ℕ) → IsReady g t layouts image group
    → records_of g (encoded g t layouts image) group ≡ map chunk_record (group_at t group)
unfolding records_of
records_are l g t layouts image group r =
    ap (λ (s : ℕ). chunks_in (bytes_from (encoded g t layouts image) s 8)) (page_sector_is l g t layouts image group r)
    ∙ ap chunks_in (page_is l g t layouts image group r)
    ∙ l.pages.read no_siblings (map chunk_record (group_at t group)) group (sector_in g group (page_place layouts group)) g.uuid r.leaf r.uuid

pub page_right : (l : Lower) (g : Geometry) (t : Table) (layouts : Layouts) (image : List Sector) (group : ℕ) → IsReady g t layouts image group
    → IsPageRight g (encoded g t layouts image) group
unfolding page_bytes
page_right l g t layouts image group r =
    let new = encoded g t layouts image in
    let records = sym (records_are l g t layouts image group r) in
    let at = page_sector_is l g t layouts image group r in
    record {
      leaf = subst IsLeaf records r.leaf;
      encoded = λ k lt. ap (λ (s : ℕ). bytes_at new (s + k)) at ∙ page_part g t layouts image group k r lt
          ∙ ap (λ (cs : List ChunkRec). part k (page_encoding cs group (sector_in g group (page_place layouts group)) g.uuid)) records
          ∙ ap (λ (s : ℕ). part k (page_encoding (records_of g new group) group s g.uuid)) (sym at);
      in_data = subst (λ (cs : List ChunkRec). (k : ℕ) (d : ChunkRec) → k < length cs → IsInData g.blocks (get_or cs k d)) records
          (all_in_data_blocks g.blocks (group_at t group) r.is_group.chunks r.data_of);
    }

-- ---- the counts

record Counts (count free : ℕ) (chunks : List ChunkRec) : Type 0 where
  count_is : count ≡ 64 * length chunks
  free_is : free ≡ sum_by (λ (chunk : ChunkRec). chunk.free) chunks

counted : (g : Geometry) (group : ℕ) (chunks : Group) (layouts : Layouts) → Counts (header_for g group chunks layouts).count (header_for g group chunks layouts).free (map chunk_record chunks)
unfolding header_for
counted g group chunks layouts = record { count_is = ap (λ (n : ℕ). 64 * n) (sym (length-map chunks chunk_record)); free_is = sym (free_sum chunks) }

pub counts_right : (l : Lower) (g : Geometry) (t : Table) (layouts : Layouts) (image : List Sector) (group : ℕ) → IsReady g t layouts image group
    → AreCountsRight g (encoded g t layouts image) group
counts_right l g t layouts image group r =
    let c =
    subst (λ (cs : List ChunkRec). Counts (header_of g (encoded g t layouts image) group).count (header_of g (encoded g t layouts image) group).free cs) (sym (records_are l g t layouts image group r))
    (subst (λ (agi : Agi). Counts agi.count agi.free (map chunk_record (group_at t group))) (sym (header_is l g t layouts image group r)) (counted g group (group_at t group) layouts)) in
    record { count = c.count_is; free = c.free_is }
