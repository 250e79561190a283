-- Images from the time in which a log is brought home.
use Rattle.std.proofs.Common.{◌≡◌, ℕ, zero, suc, ◌+◌, ◌-◌, ◌<◌, ◌≤◌, ◌^◌, List, [], ◌∷◌, Some, None, length, take, drop, set, sym, ap, subst, inl, inr, ◌∙◌, arith, length-set}
use Rattle.std.specs.List.{All}
use Rattle.std.proofs.lemmas.List.{get_or-set_same, get_or-set_other, length-take, take-set-le, drop-set-lt}
use Rattle.std.proofs.lemmas.List.Elements.{All-head, All-tail}
use Rattle.std.proofs.lemmas.Option.{slice_get-get_or}
use Rattle.life_limits.specs.declared.TheConstants.{MOUNT_LIMIT}
use Rattle.life_bytes.specs.declared.sector.Sector.{Sector}
use Rattle.disk_model.specs.Disk.{Cell, HasOneImage, IsImage, as_read, written}
use Rattle.disk_model.specs.DiskLaws.{IsTorn, IsTorn-from_image, IsImage-one}
use Rattle.log_record.specs.declared.image.Image.{Image}
use Rattle.log_record.specs.declared.record.LogRecord.{LogRecord}
use Rattle.log_image.specs.Anchor.{HasAnchor, anchor_sector}
use Rattle.log_image.specs.Log.{AreBelow, IsGroupImage, IsLog, Log, empty_log, groups_part, replayed, ring_part}
use Rattle.log_image.specs.Overlay.{images_of, newest, overlaid}
use Rattle.log_image.specs.OverlayLaws.{take-overlaid}
use Rattle.log_image.specs.Step.{IsPartlyHome}
use Rattle.log_batch.specs.Newest.{IsNewestOf}
use Rattle.log_batch.specs.NewestLaws.{newest-nil, newest_rest, none_some}
use Rattle.recovery.specs.Found.{LogIsFound}
use Rattle.recovery.specs.Put.{IsPartlyPut}
use Rattle.recovery.specs.Replay.{BeginsAnew, IsBehind, IsEither, IsOfReplay, LeavesOthers, Recovers, brought_home, groups_found}
use Rattle.recovery.specs.declared.found.Found.{Found}
use Rattle.recovery.specs.declared.start.Start.{Start}
use Rattle.recovery.proofs.Puts.{overlaid-nil}

-- the laws of logs that are needed
pub record Laws : Type 0 where
  pub log : (old new : List Sector) (anchor ring : ℕ) (log : Log) → IsLog old anchor ring log
      → IsPartlyHome anchor log.records old new → IsLog new anchor ring log
  pub replays : (old new : List Sector) (anchor : ℕ) (records : List LogRecord) → anchor ≤ length old
      → IsPartlyHome anchor records old new → replayed anchor new records ≡ replayed anchor old records
  pub bounds : (image : List Sector) (anchor ring : ℕ) (log : Log) → IsLog image anchor ring log
      → (log.tail ≤ log.end) × (log.end - log.tail ≤ ring) × (ring ≤ log.end) × (log.end < 2 ^ 64)
      × (1 ≤ log.next) × (log.next < 2 ^ 64)
  pub empty : (image : List Sector) (anchor ring position next : ℕ) → anchor + 1 + ring ≤ length image
      → HasAnchor image anchor ring position next → AreBelow (ring_part anchor ring image) position
      → IsLog image anchor ring (empty_log position next)

-- ---- images of the groups

newest_above : (anchor at : ℕ) (images : List Image) → All (IsGroupImage anchor) images → anchor ≤ at → newest at images ≡ None
newest_above anchor at [] all above = newest-nil at
newest_above anchor at (image ∷ images) all above =
    let here = All-head (IsGroupImage anchor) image images all in
    newest_rest at image images (omega (arith, here.1)) ∙ newest_above anchor at images (All-tail (IsGroupImage anchor) image images all) above

partly_home : (anchor : ℕ) (records : List LogRecord) (images : List Image) (base image : List Sector) → IsNewestOf (images_of records) images
    → All (IsGroupImage anchor) images → IsPartlyPut images base image → IsPartlyHome anchor records base image
partly_home anchor records images base image newer homes is = record {
  size = is.size;
  groups = λ at d below. elim (is.each at d) [
    | inl same ↦ inl same
    | inr put ↦ inr (sym (newer.same at) ∙ put)
  ];
  others = λ at d above. elim (is.each at d) [
    | inl same ↦ same
    | inr put ↦ absurd (none_some (sym (newest_above anchor at images homes above) ∙ put))
  ];
}

-- ---- while images are written home

recovers_partly : Laws → (base : List Sector) (anchor ring : ℕ) (found : Found) → LogIsFound base anchor ring found → All (IsGroupImage anchor) found.images
    → (image : List Sector) → IsPartlyPut found.images base image → Recovers anchor ring (groups_found anchor base found) found.next_commit image
recovers_partly laws base anchor ring found is homes image partly =
    let home = partly_home anchor is.log.records found.images base image is.found_is.images homes partly in
    record {
      log = is.log;
      says = laws.log base image anchor ring is.log is.says home;
      groups_are = laws.replays base image anchor is.log.records (omega (arith, is.says.size)) home ∙ sym is.groups;
      number = sym is.found_is.next;
    }

-- each home was changed or not, and nothing else was
others_partly : (base : List Sector) (anchor : ℕ) (images : List Image) (image : List Sector) → IsPartlyPut images base image → LeavesOthers anchor images base image
others_partly base anchor images image partly = record {
  size = partly.size;
  others = λ at d far none. elim (partly.each at d) [
    | inl same ↦ same
    | inr put ↦ absurd (none_some (sym none ∙ put))
  ];
}

pub of_replay_partly : Laws → (base : List Sector) (anchor ring : ℕ) (found : Found) → LogIsFound base anchor ring found → All (IsGroupImage anchor) found.images
    → (image : List Sector) → IsPartlyPut found.images base image → IsOfReplay anchor ring found base image
of_replay_partly laws base anchor ring found is homes image partly = record {
  recovers = recovers_partly laws base anchor ring found is homes image partly;
  others = others_partly base anchor found.images image partly;
}

-- ---- once the anchor is written

-- what is known of the disk in front of the anchor's write
pub record Home (base : List Sector) (anchor ring : ℕ) (found : Found) (mid : List Sector) : Type 0 where
  pub is : LogIsFound base anchor ring found
  pub homes : All (IsGroupImage anchor) found.images
  pub partly : IsPartlyPut found.images base mid
  pub reads : mid ≡ overlaid base found.images

below_more : (ring : List Sector) (low high : ℕ) → low ≤ high → AreBelow ring low → AreBelow ring high
below_more ring low high le below = record { each = λ place d within. omega (arith, below.each place d within) }

-- the image with the new anchor
pub anchored : Laws → (base : List Sector) (anchor ring : ℕ) (found : Found) (mid : List Sector) (start : Start) → Home base anchor ring found mid
    → IsBehind ring found start → start.position < MOUNT_LIMIT
    → HasAnchor (set mid anchor (anchor_sector start.position start.next_commit)) anchor ring start.position start.next_commit
    × AreBelow (ring_part anchor ring (set mid anchor (anchor_sector start.position start.next_commit))) start.position
    × (groups_part anchor (set mid anchor (anchor_sector start.position start.next_commit)) ≡ groups_found anchor base found)
    × (anchor + 1 + ring ≤ length (set mid anchor (anchor_sector start.position start.next_commit)))
anchored laws base anchor ring found mid start home behind fits =
    let a = anchor_sector start.position start.next_commit in
    let new = set mid anchor a in
    let bounds = laws.bounds base anchor ring home.is.log home.is.says in
    let partly = partly_home anchor home.is.log.records found.images base mid home.is.found_is.images home.homes home.partly in
    let says = laws.log base mid anchor ring home.is.log home.is.says partly in
    let size = length-set mid anchor a in
    let long = home.is.says.size in
    let inside : anchor < length mid = omega (arith, home.partly.size) in
    let part : ring_part anchor ring new ≡ ring_part anchor ring mid = ap (take ring) (drop-set-lt (anchor + 1) mid anchor a (omega arith)) in
    let few = length-take ring (drop (anchor + 1) mid) in
    let low = below_more (ring_part anchor ring mid) (home.is.log.end + length (ring_part anchor ring mid)) start.position
    (omega (arith, few, behind.position, home.is.found_is.end)) says.says.3.below in (
      record {
        sector = slice_get-get_or new anchor a (omega arith) ∙ ap (λ (s : Sector). Some s) (get_or-set_same mid anchor a a inside);
        start = (omega (arith, behind.position), omega arith);
        number = (omega (arith, behind.number, home.is.found_is.next, bounds.4), omega (arith, behind.number, home.is.found_is.next, bounds.5));
      },
      subst (λ (l : List Sector). AreBelow l start.position) (sym part) low,
      take-set-le anchor mid anchor a (omega arith) ∙ ap (take anchor) home.reads ∙ take-overlaid anchor base found.images,
      omega (arith, size, home.partly.size),
    )

recovers_anchored : Laws → (base : List Sector) (anchor ring : ℕ) (found : Found) (mid : List Sector) (start : Start) → Home base anchor ring found mid
    → IsBehind ring found start → start.position < MOUNT_LIMIT
    → Recovers anchor ring (groups_found anchor base found) found.next_commit (set mid anchor (anchor_sector start.position start.next_commit))
recovers_anchored laws base anchor ring found mid start home behind fits =
    let new = set mid anchor (anchor_sector start.position start.next_commit) in
    let facts = anchored laws base anchor ring found mid start home behind fits in
    record {
      log = empty_log start.position start.next_commit;
      says = laws.empty new anchor ring start.position start.next_commit facts.3 facts.0 facts.1;
      groups_are = overlaid-nil (groups_part anchor new) ∙ facts.2;
      number = behind.number;
    }

-- either way
recovers_either : Laws → (base : List Sector) (anchor ring : ℕ) (found : Found) (mid : List Sector) (start : Start) (at : ℕ) (sector : Sector)
    → Home base anchor ring found mid → IsBehind ring found start → start.position < MOUNT_LIMIT
    → at ≡ anchor → sector ≡ anchor_sector start.position start.next_commit → (image : List Sector) → IsEither mid at sector image
    → Recovers anchor ring (groups_found anchor base found) found.next_commit image
recovers_either laws base anchor ring found mid start at sector home behind fits same encoded image (inl old) =
    subst (λ (l : List Sector). Recovers anchor ring (groups_found anchor base found) found.next_commit l) (sym old)
    (recovers_partly laws base anchor ring found home.is home.homes mid home.partly)
recovers_either laws base anchor ring found mid start at sector home behind fits same encoded image (inr put) =
    let is : image ≡ set mid anchor (anchor_sector start.position start.next_commit) =
    put ∙ ap (λ (k : ℕ). set mid k sector) same ∙ ap (λ (s : Sector). set mid anchor s) encoded in
    subst (λ (l : List Sector). Recovers anchor ring (groups_found anchor base found) found.next_commit l) (sym is)
    (recovers_anchored laws base anchor ring found mid start home behind fits)

others_either : (base : List Sector) (anchor : ℕ) (images : List Image) (mid : List Sector) (at : ℕ) (sector : Sector) → IsPartlyPut images base mid → at ≡ anchor
    → (image : List Sector) → IsEither mid at sector image → LeavesOthers anchor images base image
others_either base anchor images mid at sector partly same image (inl old) =
    subst (λ (l : List Sector). LeavesOthers anchor images base l) (sym old) (others_partly base anchor images mid partly)
others_either base anchor images mid at sector partly same image (inr put) =
    let before = others_partly base anchor images mid partly in
    subst (λ (l : List Sector). LeavesOthers anchor images base l) (sym put)
    (record {
      size = length-set mid at sector ∙ before.size;
      others = λ k d far none. get_or-set_other mid at k sector d (λ e. far (e ∙ same)) ∙ before.others k d far none;
    })

pub of_replay_either : Laws → (base : List Sector) (anchor ring : ℕ) (found : Found) (mid : List Sector) (start : Start) (at : ℕ) (sector : Sector)
    → Home base anchor ring found mid → IsBehind ring found start → start.position < MOUNT_LIMIT
    → at ≡ anchor → sector ≡ anchor_sector start.position start.next_commit → (image : List Sector) → IsEither mid at sector image
    → IsOfReplay anchor ring found base image
of_replay_either laws base anchor ring found mid start at sector home behind fits same encoded image either = record {
  recovers = recovers_either laws base anchor ring found mid start at sector home behind fits same encoded image either;
  others = others_either base anchor found.images mid at sector home.partly same image either;
}

-- what reads then give
pub reads_home : (base : List Sector) (anchor ring : ℕ) (found : Found) (mid : List Sector) (start : Start) (at : ℕ) (sector : Sector) (new : List Sector)
    → mid ≡ overlaid base found.images → at ≡ anchor → sector ≡ anchor_sector start.position start.next_commit → new ≡ set mid at sector
    → new ≡ brought_home anchor base found start
reads_home base anchor ring found mid start at sector new home same encoded put =
    put ∙ ap (λ (k : ℕ). set mid k sector) same ∙ ap (λ (s : Sector). set mid anchor s) encoded
    ∙ ap (λ (l : List Sector). set l anchor (anchor_sector start.position start.next_commit)) home

pub begins_anew : Laws → (base : List Sector) (anchor ring : ℕ) (found : Found) (mid : List Sector) (start : Start) (at : ℕ) (sector : Sector) (cells : List Cell)
    → Home base anchor ring found mid → IsBehind ring found start → start.position < MOUNT_LIMIT
    → at ≡ anchor → sector ≡ anchor_sector start.position start.next_commit → HasOneImage cells → as_read cells ≡ set mid at sector
    → BeginsAnew anchor ring (groups_found anchor base found) cells start
begins_anew laws base anchor ring found mid start at sector cells home behind fits same encoded one reads =
    let is : as_read cells ≡ set mid anchor (anchor_sector start.position start.next_commit) =
    reads ∙ ap (λ (k : ℕ). set mid k sector) same ∙ ap (λ (s : Sector). set mid anchor s) encoded in
    let facts = anchored laws base anchor ring found mid start home behind fits in
    record {
      one = one;
      anchor_is = subst (λ (l : List Sector). HasAnchor l anchor ring start.position start.next_commit) (sym is) facts.0;
      below = subst (λ (l : List Sector). AreBelow (ring_part anchor ring l) start.position) (sym is) facts.1;
      groups_read = ap (take anchor) is ∙ facts.2;
    }

-- ---- one sector of a disk with one image

torn_either : (at : ℕ) (s : Sector) (old new : List Sector) → IsTorn at (s ∷ []) old new → IsEither old at s new
torn_either at s [] new torn = inl torn
torn_either zero s (o ∷ old) [] torn = absurd torn
torn_either (suc at) s (o ∷ old) [] torn = absurd torn
torn_either zero s (o ∷ old) (n ∷ new) torn = elim torn.0 [
  | inl same ↦ inl (ap (λ (x : Sector). x ∷ new) same ∙ ap (λ (l : List Sector). o ∷ l) torn.1)
  | inr put ↦ inr (ap (λ (x : Sector). x ∷ new) put ∙ ap (λ (l : List Sector). s ∷ l) torn.1)
]
torn_either (suc at) s (o ∷ old) (n ∷ new) torn = elim (torn_either at s old new torn.1) [
  | inl same ↦ inl (ap (λ (x : Sector). x ∷ new) torn.0 ∙ ap (λ (l : List Sector). o ∷ l) same)
  | inr put ↦ inr (ap (λ (x : Sector). x ∷ new) torn.0 ∙ ap (λ (l : List Sector). o ∷ l) put)
]

pub either_image : (at : ℕ) (s : Sector) (cells : List Cell) → HasOneImage cells → (image : List Sector) → IsImage (written at (s ∷ []) cells) image
    → IsEither (as_read cells) at s image
either_image at s cells one image is =
    let torn = IsTorn-from_image at (s ∷ []) cells image is in
    subst (λ (l : List Sector). IsEither l at s image) (IsImage-one cells torn.0 one torn.1) (torn_either at s torn.0 image torn.2)
