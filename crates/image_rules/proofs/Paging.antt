-- What the sectors of a page say of a group.
use Rattle.std.proofs.Common.{◌≡◌, ◌<◌, ◌+◌, ◌*◌, ◌++◌, ℕ, suc, List, [], ◌∷◌, length, refl, ap, sym, subst, ◌∙◌, arith, All, add-zero}
use Rattle.std.specs.List.{range_with_len, flat_map}
use Rattle.life_limits.specs.declared.TheConstants.{SECTOR_BYTES}
use Rattle.life_bytes.specs.declared.sector.Sector.{Sector}
use Rattle.life_bytes.specs.SectorBytes.{bytes_of}
use Rattle.geometry.specs.declared.shape.Geometry.{Geometry}
use Rattle.inobt_leaf.specs.declared.chunk.ChunkRec.{ChunkRec}
use Rattle.inobt_leaf.specs.Chunks.{IsLeaf}
use Rattle.inobt_leaf.specs.Pages.{no_siblings, page_encoding, chunks_in}
use Rattle.inobt_leaf.specs.PageLaws.{PagesAreRead}
use Rattle.sound_image.specs.Places.{bytes_at, bytes_from, part, sector_in}
use Rattle.sound_image.specs.Reading.{header_of, page_sector, records_of}
use Rattle.sound_image.specs.Rules.{IsPageRight, AreCountsRight, IsInData}
use Rattle.std.specs.Prelude.{sum_by}
use Rattle.ag_header.specs.declared.agi.Agi.{Agi}
use Rattle.image_rules.specs.Shown.{Shows, Counts}

-- sectors as bytes, one by one
joined : (image : List Sector) (sectors : List Sector) (s : ℕ) → ((k : ℕ) → k < length sectors → bytes_at image (s + k) ≡ bytes_at sectors k)
    → flat_map (bytes_at image) (range_with_len s (length sectors)) ≡ bytes_of sectors
unfolding bytes_at
joined image [] s each = refl
joined image (x ∷ xs) s each =
    let first : bytes_at image s ≡ x.bytes = ap (bytes_at image) (sym (add-zero s)) ∙ each 0 (omega arith) in
    ap (λ (b : List ℕ). b ++ flat_map (bytes_at image) (range_with_len (s + 1) (length xs))) first
    ∙ ap (λ (b : List ℕ). x.bytes ++ b) (joined image xs (s + 1) (λ k low. let e : s + 1 + k ≡ s + suc k = omega arith in ap (bytes_at image) e ∙ each (suc k) (omega arith)))

pub shown_bytes : (image : List Sector) (s n : ℕ) (sectors : List Sector) → Shows image s sectors → length sectors ≡ n → bytes_from image s n ≡ bytes_of sectors
unfolding bytes_from
shown_bytes image s n sectors shows long = ap (λ (k : ℕ). flat_map (bytes_at image) (range_with_len s k)) (sym long) ∙ joined image sectors s shows.each

-- the records that a page with the leaf's bytes gives are the leaf's
pub records_read : (l : PagesAreRead) (g : Geometry) (image : List Sector) (group at : ℕ) (bytes : List ℕ) (leaf : List ChunkRec) → bytes_from image (page_sector g image group) 8 ≡ bytes
    → length g.uuid ≡ 16 → IsLeaf leaf → bytes ≡ page_encoding leaf group at g.uuid → records_of g image group ≡ leaf
unfolding records_of
records_read l g image group at bytes leaf shown wide is encoded = ap chunks_in (shown ∙ encoded) ∙ l.read no_siblings leaf group at g.uuid is wide

-- each sector of a page that is shown is the part of its bytes
pub shown_parts : (g : Geometry) (image : List Sector) (group n : ℕ) (sectors : List Sector) → Shows image (page_sector g image group) sectors → length sectors ≡ n
    → ((k : ℕ) → k < length sectors → bytes_at sectors k ≡ part k (bytes_of sectors)) → (k : ℕ) → k < n → bytes_at image (page_sector g image group + k) ≡ part k (bytes_of sectors)
shown_parts g image group n sectors shows long parts k lt = shows.each k (omega (arith, lt, long)) ∙ parts k (omega (arith, lt, long))

pub page_right : (l : PagesAreRead) (g : Geometry) (image : List Sector) (group : ℕ) (bytes : List ℕ) (leaf : List ChunkRec) → bytes_from image (page_sector g image group) 8 ≡ bytes
    → ((k : ℕ) → k < 8 → bytes_at image (page_sector g image group + k) ≡ part k bytes)
    → length g.uuid ≡ 16 → IsLeaf leaf → bytes ≡ page_encoding leaf group (page_sector g image group) g.uuid → All (IsInData g.blocks) leaf → IsPageRight g image group × records_of g image group ≡ leaf
page_right l g image group bytes leaf shown parts wide is encoded within =
    let e : records_of g image group ≡ leaf = records_read l g image group (page_sector g image group) bytes leaf shown wide is encoded in (
      record {
        leaf = subst IsLeaf (sym e) is;
        encoded = λ k lt. parts k lt ∙ ap (part k) encoded ∙ ap (λ (cs : List ChunkRec). part k (page_encoding cs group (page_sector g image group) g.uuid)) (sym e);
        in_data = subst (All (IsInData g.blocks)) (sym e) within;
      },
      e,
    )

pub page_place : (g : Geometry) (image : List Sector) (group root : ℕ) → (header_of g image group).root ≡ root → page_sector g image group ≡ group * (g.blocks * 8) + 8 * root
unfolding page_sector sector_in
page_place g image group root e = ap (λ (r : ℕ). group * (g.blocks * 8) + 8 * r) e

-- a right page is the page of the group's records
pub page_encoded : (l : PagesAreRead)
    → ((image : List Sector) (bytes : List ℕ) (s n : ℕ) → length bytes ≡ SECTOR_BYTES * n → ((k : ℕ) → k < n → bytes_at image (s + k) ≡ part k bytes) → bytes_from image s n ≡ bytes)
    → (g : Geometry) (image : List Sector) (group at : ℕ) (bytes : List ℕ) → bytes_from image (page_sector g image group) 8 ≡ bytes → page_sector g image group ≡ at
    → length g.uuid ≡ 16 → IsPageRight g image group → bytes ≡ page_encoding (records_of g image group) group at g.uuid
page_encoded l whole g image group at bytes shown place wide right =
    let page : ℕ → List ℕ = λ s. page_encoding (records_of g image group) group s g.uuid in
    sym shown
    ∙ whole image (page (page_sector g image group)) (page_sector g image group) 8 (l.long no_siblings (records_of g image group) group (page_sector g image group) g.uuid right.leaf wide) right.encoded
    ∙ ap page place

-- a leaf that is read where its page is right has its chunks among the data blocks
pub read_in_data : (l : PagesAreRead) (g : Geometry) (image : List Sector) (group at : ℕ) (bytes : List ℕ) (leaf : List ChunkRec) → bytes_from image (page_sector g image group) 8 ≡ bytes
    → length g.uuid ≡ 16 → IsLeaf leaf → bytes ≡ page_encoding leaf group at g.uuid → IsPageRight g image group → All (IsInData g.blocks) leaf
read_in_data l g image group at bytes leaf shown wide is encoded right =
    subst (All (IsInData g.blocks)) (records_read l g image group at bytes leaf shown wide is encoded) right.in_data

-- where the page stands that a header names
pub page_at : (g : Geometry) (image : List Sector) (group : ℕ) (agi : Agi) → header_of g image group ≡ agi → page_sector g image group ≡ sector_in g group (8 * agi.root)
unfolding page_sector
page_at g image group agi e = ap (λ (a : Agi). sector_in g group (8 * a.root)) e

pub counts_to : (g : Geometry) (image : List Sector) (group : ℕ) (agi : Agi) (leaf : List ChunkRec) → header_of g image group ≡ agi → records_of g image group ≡ leaf → AreCountsRight g image group → Counts agi leaf
counts_to g image group agi leaf header records right = record {
  count = ap (λ (a : Agi). a.count) (sym header) ∙ right.count ∙ ap (λ (cs : List ChunkRec). 64 * length cs) records;
  free = ap (λ (a : Agi). a.free) (sym header) ∙ right.free ∙ ap (λ (cs : List ChunkRec). sum_by (λ (chunk : ChunkRec). chunk.free) cs) records;
}

pub counts_from : (g : Geometry) (image : List Sector) (group : ℕ) (agi : Agi) (leaf : List ChunkRec) → header_of g image group ≡ agi → records_of g image group ≡ leaf → Counts agi leaf → AreCountsRight g image group
counts_from g image group agi leaf header records counts = record {
  count = ap (λ (a : Agi). a.count) header ∙ counts.count ∙ ap (λ (cs : List ChunkRec). 64 * length cs) (sym records);
  free = ap (λ (a : Agi). a.free) header ∙ counts.free ∙ ap (λ (cs : List ChunkRec). sum_by (λ (chunk : ChunkRec). chunk.free) cs) (sym records);
}
