-- The parts of a commit: header, bitmap, page, and the inodes of a chunk that is added.
use Rattle.std.proofs.Common.{◌≡◌, ◌<◌, ◌+◌, ◌*◌, ◌%◌, ℕ, zero, suc, List, [], ◌∷◌, Some, None, length, map, refl, sym, ◌∙◌, arith, subst}
use Rattle.std.specs.Prelude.{sum_by}
use Rattle.std.specs.List.{range_with_len}
use Rattle.life_bytes.specs.declared.sector.Sector.{Sector}
use Rattle.life_bytes.specs.SectorBytes.{bytes_of}
use Rattle.geometry.specs.Shape.{IsGeometry}
use Rattle.ag_header.specs.Headers.{header_encoding}
use Rattle.free_map.specs.Bitmap.{bitmap}
use Rattle.group_space.specs.Space.{IsSpaceOf, changed_space}
use Rattle.life_table.specs.declared.table.Chunk.{Chunk}
use Rattle.life_table.specs.declared.table.Table.{Table}
use Rattle.life_table.specs.Table.{Group, group_at, inode_in}
use Rattle.sound_image.specs.Places.{bytes_at, part}
use Rattle.sound_image.specs.Encoding.{Layouts, free_count, inode_sector, page_bytes, page_of}
use Rattle.sound_image.specs.Rules.{free_set}
use Rattle.change_images.specs.Candidates.{Candidate, IsCandidate, StagingValue}
use Rattle.group_ops.specs.declared.delta.Delta.{Delta}
use Rattle.group_ops.specs.Buffers.{Buffers}
use Rattle.group_ops.specs.Changes.{with_head}
use Rattle.group_ops.specs.Staging.{IsAfter, IsStagingOf, Leads, PushesPart, candidate_at, candidates_at, with_candidates}
use Rattle.group_ops.specs.Values.{StateValue}
use Rattle.group_ops.proofs.Incores.{PlacesStand}
use Rattle.group_ops.proofs.Parts.{BitmapStands, HeaderStands, InodeStands, PageStands, added_before, after_group, agi_of, bitmap_part_is, header_after, header_before, inode_after, page_low, page_part_is, place_after, says_nothing}
use Rattle.group_ops.proofs.Pushing.{FewImages, at_candidates, candidate_places, part_run, run_places}

-- each of some sectors holds its part of their bytes
abbrev pub HoldParts : List Sector → Type 0
HoldParts sectors = (k : ℕ) → k < length sectors → bytes_at sectors k ≡ part k (bytes_of sectors)

only_one : (P : Candidate → Type 0) (b a : Sector) → P (record { place = 2; before = Some b.bytes; after = a.bytes }) → (k : ℕ) → k < length (b ∷ []) → P (candidate_at 2 (b ∷ []) (a ∷ []) k)
unfolding bytes_at
only_one P b a p zero low = p
only_one P b a p (suc k) low = absurd (omega arith)

pub header_pushes : FewImages → HeaderStands → (s : StateValue) (d : Delta) (old new : StagingValue) (b a : Sector) (count free counted freed : ℕ) (heads : List ℕ) → s.group < s.geometry.groups → IsStagingOf s old
    → new ≡ with_candidates old (candidates_at 2 (b ∷ []) (a ∷ []))
    → ((blocks : ℕ) (chunks : Group) → IsSpaceOf blocks chunks s.space → count ≡ 64 * length chunks)
    → ((blocks : ℕ) (chunks : Group) → IsSpaceOf blocks chunks s.space → free ≡ sum_by (λ (chunk : Chunk). free_count chunk.inodes) chunks)
    → ((blocks : ℕ) (chunks : Group) → IsSpaceOf blocks chunks (changed_space s.space d.space) → counted ≡ 64 * length chunks)
    → ((blocks : ℕ) (chunks : Group) → IsSpaceOf blocks chunks (changed_space s.space d.space) → freed ≡ sum_by (λ (chunk : Chunk). free_count chunk.inodes) chunks)
    → heads ≡ with_head s.heads d.head
    → b.bytes ≡ header_encoding (agi_of s.group s.geometry.blocks count s.page free s.heads s.geometry.uuid)
    → a.bytes ≡ header_encoding (agi_of s.group s.geometry.blocks counted s.page freed heads s.geometry.uuid)
    → PushesPart s d (2 ∷ []) old new
header_pushes few law s d old new b a count free counted freed heads inside own is counts frees new_counts new_frees headed before after =
    part_run few s d (2 ∷ []) (candidates_at 2 (b ∷ []) (a ∷ [])) old new own is (candidate_places 2 1 (b ∷ []) (a ∷ []) refl) (λ t layouts u others leads.
    let next = after_group s d u others inside leads.after in
    at_candidates (IsCandidate s.geometry s.group layouts (group_at t s.group) others (group_at u s.group)) 2 (b ∷ []) (a ∷ [])
    (only_one (IsCandidate s.geometry s.group layouts (group_at t s.group) others (group_at u s.group)) b a record {
      before =
          header_before law s t layouts count free b.bytes leads.before (counts s.geometry.blocks (group_at t s.group) leads.before.space) (frees s.geometry.blocks (group_at t s.group) leads.before.space)
          before;
      after =
          header_after law s d u others counted freed heads a.bytes next (new_counts s.geometry.blocks (group_at u s.group) next.space) (new_frees s.geometry.blocks (group_at u s.group) next.space) headed
          after;
    }))

pub bitmap_pushes : FewImages → BitmapStands → (s : StateValue) (d : Delta) (old new : StagingValue) (before after : List Sector) → s.group < s.geometry.groups → IsStagingOf s old
    → length before ≡ 4 → length after ≡ 4 → new ≡ with_candidates old (candidates_at 8 before after) → HoldParts before → HoldParts after
    → ((blocks : ℕ) (chunks : Group) → IsSpaceOf blocks chunks s.space → bytes_of before ≡ bitmap (free_set blocks chunks))
    → ((blocks : ℕ) (chunks : Group) → IsSpaceOf blocks chunks (changed_space s.space d.space) → bytes_of after ≡ bitmap (free_set blocks chunks))
    → PushesPart s d (map (λ (k : ℕ). 8 + k) (range_with_len 0 4)) old new
bitmap_pushes few law s d old new before after inside own long same is holds held written changed =
    part_run few s d (map (λ (k : ℕ). 8 + k) (range_with_len 0 4)) (candidates_at 8 before after) old new own is (candidate_places 8 4 before after long) (λ t layouts u others leads.
    let next = after_group s d u others inside leads.after in
    at_candidates (IsCandidate s.geometry s.group layouts (group_at t s.group) others (group_at u s.group)) 8 before after (λ k low. record {
      before =
          bitmap_part_is law s.geometry layouts s.group (group_at t s.group) before k (omega (arith, low, long)) (holds k low) (written s.geometry.blocks (group_at t s.group) leads.before.space);
      after =
          bitmap_part_is law s.geometry others s.group (group_at u s.group) after k (omega (arith, low, long)) (held k (omega (arith, low, long, same)))
          (changed s.geometry.blocks (group_at u s.group) next.space);
    }))

pub page_pushes : FewImages → PageStands → (s : StateValue) (d : Delta) (old new : StagingValue) (before after : List Sector) → s.group < s.geometry.groups → IsStagingOf s old
    → length before ≡ 8 → length after ≡ 8 → new ≡ with_candidates old (candidates_at (8 * s.page) before after) → HoldParts before → HoldParts after
    → ((blocks : ℕ) (chunks : Group) (layouts : Layouts) → IsSpaceOf blocks chunks s.space → page_of layouts s.group ≡ s.page → bytes_of before ≡ page_bytes s.geometry layouts s.group chunks)
    → ((blocks : ℕ) (chunks : Group) (layouts : Layouts) → IsSpaceOf blocks chunks (changed_space s.space d.space) → page_of layouts s.group ≡ s.page
    → bytes_of after ≡ page_bytes s.geometry layouts s.group chunks)
    → PushesPart s d (range_with_len (8 * s.page) 8) old new
page_pushes few law s d old new before after inside own long same is holds held written changed =
    part_run few s d (range_with_len (8 * s.page) 8) (candidates_at (8 * s.page) before after) old new own is
    (candidate_places (8 * s.page) 8 before after long ∙ run_places (8 * s.page) 8) (λ t layouts u others leads.
    let next = after_group s d u others inside leads.after in
    let low_page = page_low s t layouts inside leads.before in
    at_candidates (IsCandidate s.geometry s.group layouts (group_at t s.group) others (group_at u s.group)) (8 * s.page) before after (λ k low. record {
      before =
          page_part_is law s.geometry layouts s.group s.page (group_at t s.group) before k leads.before.page low_page.0 (omega (arith, low, long)) (holds k low)
          (written s.geometry.blocks (group_at t s.group) layouts leads.before.space (sym leads.before.page));
      after =
          page_part_is law s.geometry others s.group s.page (group_at u s.group) after k next.page next.pages.0 (omega (arith, low, long)) (held k (omega (arith, low, long, same)))
          (changed s.geometry.blocks (group_at u s.group) others next.space (sym next.page));
    }))

-- an inode of a chunk that is added, as a candidate
pub added_candidate : InodeStands → PlacesStand → (s : StateValue) (d : Delta) (t : Table) (layouts : Layouts) (u : Table) (others : Layouts) (chunk : Buffers) (start i : ℕ) (bytes : List ℕ)
    → IsGeometry s.geometry → s.group < s.geometry.groups → Leads s d t layouts u others → d.chunk ≡ Some chunk → start ≡ chunk.start → start % 64 ≡ 0 → i < 64 → IsAfter s d (chunk.start + i) bytes
    → IsCandidate s.geometry s.group layouts (group_at t s.group) others (group_at u s.group) (record { place = start + i; before = None; after = bytes })
added_candidate law places s d t layouts u others chunk start i bytes shape inside leads at own aligned low after =
    let here : IsAfter s d (start + i) bytes = subst (λ (n : ℕ). IsAfter s d (n + i) bytes) (sym own) after in
    let none : inode_in (group_at t s.group) (start + i) ≡ None =
    subst (λ (n : ℕ). inode_in (group_at t s.group) (n + i) ≡ None) (sym own)
    (added_before s d t layouts u others chunk i leads at (subst (λ (n : ℕ). n % 64 ≡ 0) own aligned) low) in
    let place =
    place_after places s d u others (start + i) (λ inode. bytes ≡ inode_sector s.geometry others s.group (start + i) inode) shape inside leads.after (here t layouts u others leads) in
    record {
      before = says_nothing s.geometry layouts s.group (group_at t s.group) (start + i) (page_low s t layouts inside leads.before).1 place.0 none;
      after = inode_after law places s d t layouts u others (start + i) bytes shape inside leads here;
    }
