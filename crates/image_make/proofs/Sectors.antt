-- The sectors of a disk as they are filled, and what a stop leaves of them.
use Rattle.std.proofs.Common.{◌≡◌, ◌<◌, ◌≤◌, ◌+◌, ◌-◌, ◌*◌, ◌⊎◌, ℕ, zero, suc, List, [], ◌∷◌, length, get_or, replicate, sym, ap, subst, ◌∙◌, inl, inr, arith}
use Rattle.std.specs.Prelude.{Result, Ok, Err, OnOk}
use Rattle.std.proofs.lemmas.Bool.{cases_lt}
use Rattle.std.proofs.lemmas.List.{length-replicate}
use Rattle.life_bytes.specs.declared.sector.Sector.{Sector}
use Rattle.life_bytes.specs.Sectors.{zero_sector}
use Rattle.disk_model.specs.Disk.{Cell, HasOneImage, IsImage, as_read, settled_as, written}
use Rattle.disk_model.specs.DiskLaws.{IsTorn, IsTorn-from_image, IsTorn-from_one_image, IsImage-settled_as, as_read-settled_as, as_read-written}
use Rattle.geometry.specs.declared.shape.Geometry.{Geometry}
use Rattle.geometry.specs.Places.{group_sectors, anchor_of}
use Rattle.geometry.specs.Shape.{IsGeometry}
use Rattle.geometry.specs.Superblock.{superblock_encoding}
use Rattle.sound_image.specs.Places.{bytes_at, sector_in}
use Rattle.log_image.specs.Anchor.{anchor_sector}
use Rattle.image_make.specs.Empty.{AreMade, IsFinished, AwaitsSuperblock, empty_sector, sector_or_zero}
use Rattle.image_make.specs.Outcome.{IsBlank, LeavesBlank}
use Rattle.image_make.proofs.Putting.{with_at, length-with_at, put_inside, put_before, put_behind, all_zero}
use Rattle.image_make.proofs.Places.{at_none, no_sector}

-- ---- sector 0

first_kept : (at : ℕ) (pieces old new : List Sector) → 0 < at → IsTorn at pieces old new → bytes_at new 0 ≡ bytes_at old 0
unfolding bytes_at
first_kept zero pieces old new some torn = absurd (omega arith)
first_kept (suc at) [] old new some torn = ap (λ (l : List Sector). (get_or l 0 zero_sector).bytes) torn
first_kept (suc at) (piece ∷ pieces) [] new some torn = ap (λ (l : List Sector). (get_or l 0 zero_sector).bytes) torn
first_kept (suc at) (piece ∷ pieces) (sector ∷ old) [] some torn = absurd torn
first_kept (suc at) (piece ∷ pieces) (sector ∷ old) (now ∷ new) some (same, torn) = ap (λ (s : Sector). s.bytes) same

pub blank_written : (at : ℕ) (pieces : List Sector) (cells : List Cell) (image : List Sector) → 0 < at → LeavesBlank cells → IsImage (written at pieces cells) image → IsBlank image
blank_written at pieces cells image some blank is =
    let torn = IsTorn-from_image at pieces cells image is in
    first_kept at pieces torn.0 image some torn.2 ∙ blank torn.0 torn.1

pub read_after : {T E : Type 0} (result : Result T E) (at : ℕ) (pieces : List Sector) (old new : List Cell) → at + length pieces ≤ length old → OnOk result (new ≡ written at pieces old)
    → OnOk result (as_read new ≡ with_at at pieces (as_read old))
read_after (Ok x) at pieces old new fits is = ap as_read is ∙ as_read-written at pieces old fits
read_after (Err e) at pieces old new fits is = tt

-- ---- a blank disk

blank_read : (n : ℕ) (cells : List Cell) → cells ≡ settled_as (replicate n zero_sector) → as_read cells ≡ replicate n zero_sector
blank_read n cells is = ap as_read is ∙ as_read-settled_as (replicate n zero_sector)

pub begins_blank : (n : ℕ) (cells : List Cell) → cells ≡ settled_as (replicate n zero_sector) → LeavesBlank cells
unfolding bytes_at
begins_blank n cells is = λ image left.
    let same : image ≡ replicate n zero_sector = IsImage-settled_as (replicate n zero_sector) image (subst (λ (c : List Cell). IsImage c image) is left) in
    ap (λ (l : List Sector). (sector_or_zero l 0).bytes) same ∙ ap (λ (s : Sector). s.bytes) (all_zero n 0)

pub begins_unmade : (g : Geometry) (n : ℕ) (cells : List Cell) → anchor_of g + 1 + g.ring ≤ n → cells ≡ settled_as (replicate n zero_sector) → AreMade g 0 (as_read cells)
begins_unmade g n cells enough is =
    let read = blank_read n cells is in
    record {
      size = omega (arith, ap length read, length-replicate n zero_sector);
      groups = λ group place lt low. absurd (omega arith);
      behind = λ s le. ap (λ (l : List Sector). sector_or_zero l s) read ∙ all_zero n s;
    }

-- ---- one group more

one_more : (n size : ℕ) → (n + 1) * size ≡ n * size + size
one_more n size = grind arith

up_to : (group n size : ℕ) → group < n → group * size + size ≤ n * size
up_to group n size lt = let all : (group + 1) * size ≤ n * size = grind arith in let more = one_more group size in omega arith

pub large : (g : Geometry) → IsGeometry g → 512 ≤ group_sectors g
large g shape = omega (arith, shape.blocks)

abbrev Head : Geometry → ℕ → List Sector → Type 0
Head g n head = (k : ℕ) → k < 22 → sector_or_zero head k ≡ empty_sector g n (2 + k)

own_place : (g : Geometry) (n place : ℕ) (head image : List Sector) → IsGeometry g → AreMade g n image → length head ≡ 22 → Head g n head
    → n * group_sectors g + 2 + length head ≤ length image → place < group_sectors g
    → sector_or_zero (with_at (n * group_sectors g + 2) head image) (n * group_sectors g + place) ≡ empty_sector g n place
own_place g n place head image shape made long holds fits low =
    let at : ℕ = n * group_sectors g + 2 in
    elim (cases_lt place 2) [
      | inl before ↦
          put_before at (n * group_sectors g + place) head image fits (omega arith)
          ∙ made.behind (n * group_sectors g + place) (omega arith) ∙ sym (no_sector g n place (at_none g n place (inl before)))
      | inr in_head ↦ elim (cases_lt place 24) [
        | inl inside ↦
            let e : at + (place - 2) ≡ n * group_sectors g + place = omega arith in
            let p : 2 + (place - 2) ≡ place = omega arith in
            ap (sector_or_zero (with_at at head image)) (sym e) ∙ put_inside at (place - 2) head image fits (omega arith)
            ∙ holds (place - 2) (omega arith) ∙ ap (empty_sector g n) p
        | inr behind ↦
            put_behind at (n * group_sectors g + place) head image fits (omega arith)
            ∙ made.behind (n * group_sectors g + place) (omega arith) ∙ sym (no_sector g n place (at_none g n place (inr (inr (inr behind)))))
      ]
    ]

pub made_more : (g : Geometry) (n : ℕ) (head image : List Sector) → IsGeometry g → n < g.groups → AreMade g n image → length head ≡ 22 → Head g n head
    → AreMade g (n + 1) (with_at (n * group_sectors g + 2) head image)
unfolding sector_in
made_more g n head image shape lt made long holds =
    let size : ℕ = group_sectors g in
    let least : 512 ≤ size = large g shape in
    let room : n * size + size ≤ g.groups * size = up_to n g.groups size lt in
    let fits : n * size + 2 + length head ≤ length image = omega (arith, made.size) in
    record {
      size = omega (arith, made.size, length-with_at (n * size + 2) head image fits);
      groups = λ group place few low. elim (cases_lt group n) [
        | inl less ↦
            let under : group * size + size ≤ n * size = up_to group n size less in
            put_before (n * size + 2) (group * size + place) head image fits (omega arith) ∙ made.groups group place less low
        | inr same ↦
            let e : n ≡ group = omega arith in
            subst (λ (x : ℕ). sector_or_zero (with_at (n * size + 2) head image) (x * size + place) ≡ empty_sector g x place) e
            (own_place g n place head image shape made long holds fits low)
      ];
      behind = λ s le.
          let more = one_more n size in
          put_behind (n * size + 2) s head image fits (omega arith) ∙ made.behind s (omega arith);
    }

-- ---- the anchor

in_groups : (g : Geometry) (group place : ℕ) → group < g.groups → place < group_sectors g → sector_in g group place < anchor_of g
unfolding sector_in
in_groups g group place lt low = let room : group * group_sectors g + group_sectors g ≤ g.groups * group_sectors g = up_to group g.groups (group_sectors g) lt in omega arith

pub awaits_from : (g : Geometry) (image : List Sector) → AreMade g g.groups image → AwaitsSuperblock g (with_at (anchor_of g) (anchor_sector g.ring 1 ∷ []) image)
awaits_from g image made =
    let at : ℕ = anchor_of g in
    let pieces : List Sector = anchor_sector g.ring 1 ∷ [] in
    let fits : at + length pieces ≤ length image = omega (arith, made.size) in
    record {
      size = omega (arith, made.size, length-with_at at pieces image fits);
      groups = λ group place lt low. put_before at (sector_in g group place) pieces image fits (in_groups g group place lt low) ∙ made.groups group place lt low;
      anchor = let e : at + 0 ≡ at = omega arith in ap (sector_or_zero (with_at at pieces image)) (sym e) ∙ put_inside at 0 pieces image fits (omega arith);
      ring = λ s gt. put_behind at s pieces image fits (omega arith) ∙ made.behind s (omega arith);
    }

-- ---- the superblock

pub awaits_blank : (g : Geometry) (image : List Sector) → IsGeometry g → AwaitsSuperblock g image → IsBlank image
unfolding bytes_at sector_in
awaits_blank g image shape awaits =
    let least = large g shape in
    let e : 0 * group_sectors g + 0 ≡ 0 = omega arith in
    ap (λ (s : Sector). s.bytes)
    (ap (sector_or_zero image) (sym e) ∙ awaits.groups 0 0 (omega (arith, shape.groups)) (omega arith) ∙ no_sector g 0 0 (at_none g 0 0 (inl (omega arith))))

pub finished_from : (g : Geometry) (image : List Sector) (sector : Sector) → IsGeometry g → sector.bytes ≡ superblock_encoding g → AwaitsSuperblock g image → IsFinished g (with_at 0 (sector ∷ []) image)
finished_from g image sector shape encodes awaits =
    let least = large g shape in
    let room = up_to 0 g.groups (group_sectors g) shape.groups.0 in
    let pieces : List Sector = sector ∷ [] in
    let fits : 0 + length pieces ≤ length image = omega (arith, awaits.size) in
    record {
      size = omega (arith, awaits.size, length-with_at 0 pieces image fits);
      first = encodes;
      groups = λ group place lt low some. put_behind 0 (sector_in g group place) pieces image fits (omega arith) ∙ awaits.groups group place lt low;
      anchor = put_behind 0 (anchor_of g) pieces image fits (omega arith) ∙ awaits.anchor;
      ring = λ s gt. put_behind 0 s pieces image fits (omega arith) ∙ awaits.ring s gt;
    }

old_or_new : (sector : Sector) (old image : List Sector) → IsTorn 0 (sector ∷ []) old image → (image ≡ old) ⊎ (image ≡ with_at 0 (sector ∷ []) old)
old_or_new sector [] image torn = inl torn
old_or_new sector (first ∷ old) [] torn = absurd torn
old_or_new sector (first ∷ old) (now ∷ image) (inl same, rest) = inl (ap (λ (s : Sector). s ∷ image) same ∙ ap (λ (l : List Sector). first ∷ l) rest)
old_or_new sector (first ∷ old) (now ∷ image) (inr new, rest) = inr (ap (λ (s : Sector). s ∷ image) new ∙ ap (λ (l : List Sector). sector ∷ l) rest)

-- what a stop leaves of the write of the superblock
pub super_left : (sector : Sector) (cells : List Cell) (image : List Sector) → HasOneImage cells → IsImage (written 0 (sector ∷ []) cells) image
    → (image ≡ as_read cells) ⊎ (image ≡ with_at 0 (sector ∷ []) (as_read cells))
super_left sector cells image one is = old_or_new sector (as_read cells) image (IsTorn-from_one_image 0 (sector ∷ []) cells image one is)

pub on_ok : {T E : Type 0} (result : Result T E) (P Q : Type 0) → (P → Q) → OnOk result P → OnOk result Q
on_ok (Ok x) P Q f p = f p
on_ok (Err e) P Q f p = tt
