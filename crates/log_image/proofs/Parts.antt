-- The parts of an image: its groups, its anchor and its ring.
use Rattle.std.proofs.Common.{◌≡◌, ℕ, ◌+◌, ◌^◌, ◌<◌, ◌≤◌, List, length, take, drop, get_or, Some, refl, sym, ap, ◌∙◌, arith}
use Rattle.std.proofs.lemmas.List.{get_or-take, get_or-drop, length-take, length-drop, length-take-le, same_lists}
use Rattle.std.proofs.lemmas.Option.{slice_get-get_or, slice_get_within, get_or_from_slice_get, same_Some}
use Rattle.life_bytes.specs.declared.sector.Sector.{Sector}
use Rattle.life_bytes.specs.Fields.{field}
use Rattle.life_bytes.specs.TableLaws.{sealed_number, AreFields}
use Rattle.log_image.specs.Anchor.{HasAnchor, anchor_rows, anchor_sector}
use Rattle.log_image.specs.Log.{groups_part, ring_part}

pub get_or-ring_part : (anchor ring : ℕ) (image : List Sector) (x : ℕ) (d : Sector) → x < ring
    → get_or (ring_part anchor ring image) x d ≡ get_or image (anchor + 1 + x) d
get_or-ring_part anchor ring image x d within = get_or-take ring (drop (anchor + 1) image) x d within ∙ get_or-drop (anchor + 1) image x d

pub length-ring_part : (anchor ring : ℕ) (image : List Sector) → anchor + 1 + ring ≤ length image → length (ring_part anchor ring image) ≡ ring
length-ring_part anchor ring image size = length-take-le ring (drop (anchor + 1) image) (omega (arith, length-drop (anchor + 1) image))

-- the anchor is the same where its sector is
pub anchor_kept : (old new : List Sector) (anchor ring position next : ℕ) → length new ≡ length old → ((d : Sector) → get_or new anchor d ≡ get_or old anchor d)
    → HasAnchor old anchor ring position next → HasAnchor new anchor ring position next
anchor_kept old new anchor ring position next size same has =
    let s = anchor_sector position next in
    let within : anchor < length old = slice_get_within old anchor s has.sector in
    record {
      sector = slice_get-get_or new anchor s (omega arith) ∙ ap (λ (t : Sector). Some t) (same s ∙ get_or_from_slice_get old anchor s s has.sector);
      start = has.start;
      number = has.number;
    }

-- an image whose sectors are the same from some place to another has the same part there
pub same_groups : (old new : List Sector) (anchor : ℕ) → length new ≡ length old → ((at : ℕ) (d : Sector) → at < anchor → get_or new at d ≡ get_or old at d)
    → groups_part anchor new ≡ groups_part anchor old
same_groups old new anchor size same =
    same_lists (take anchor new) (take anchor old) (omega (arith, length-take anchor new, length-take anchor old))
    (λ k d within.
    let low : k < anchor = omega (arith, length-take anchor new) in
    get_or-take anchor new k d low ∙ same k d low ∙ sym (get_or-take anchor old k d low))

pub same_ring : (old new : List Sector) (anchor ring : ℕ) → length new ≡ length old → ((at : ℕ) (d : Sector) → anchor ≤ at → get_or new at d ≡ get_or old at d)
    → ring_part anchor ring new ≡ ring_part anchor ring old
same_ring old new anchor ring size same =
    let left = drop (anchor + 1) new in
    let right = drop (anchor + 1) old in
    let size_left = length-drop (anchor + 1) new in
    let size_right = length-drop (anchor + 1) old in
    same_lists (ring_part anchor ring new) (ring_part anchor ring old) (omega (arith, length-take ring left, length-take ring right, size_left, size_right))
    (λ k d within.
    let low : k < ring = omega (arith, length-take ring left) in
    get_or-ring_part anchor ring new k d low ∙ same (anchor + 1 + k) d (omega arith) ∙ sym (get_or-ring_part anchor ring old k d low))

-- ---- an anchor's numbers

anchor_is_rows : (position next : ℕ) → AreFields 512 (anchor_rows position next)
anchor_is_rows position next = ((omega arith, refl), ((omega arith, refl), ((omega arith, refl), tt)))

pub anchor_position : (position next : ℕ) → position < 2 ^ 64 → field 8 8 (anchor_sector position next).bytes ≡ position
unfolding anchor_sector
anchor_position position next small =
    sealed_number 4 (anchor_rows position next) 1 8 8 position (anchor_is_rows position next) (omega arith) refl refl small

pub anchor_next : (position next : ℕ) → next < 2 ^ 64 → field 8 16 (anchor_sector position next).bytes ≡ next
unfolding anchor_sector
anchor_next position next small =
    sealed_number 4 (anchor_rows position next) 2 16 8 next (anchor_is_rows position next) (omega arith) refl refl small

pub anchor-unique : (image : List Sector) (anchor ring p n q m : ℕ) → HasAnchor image anchor ring p n → HasAnchor image anchor ring q m
    → (p ≡ q) × (n ≡ m)
anchor-unique image anchor ring p n q m a b =
    let same : anchor_sector p n ≡ anchor_sector q m = same_Some (anchor_sector p n) (anchor_sector q m) (sym a.sector ∙ b.sector) in (
      sym (anchor_position p n a.start.1) ∙ ap (λ (s : Sector). field 8 8 s.bytes) same ∙ anchor_position q m b.start.1,
      sym (anchor_next p n a.number.1) ∙ ap (λ (s : Sector). field 8 16 s.bytes) same ∙ anchor_next q m b.number.1,
    )
