use Rattle.std.proofs.Common.{◌≡◌, ◌≢◌, ℕ, ◌+◌, ◌<◌, ◌≤◌, List, [], ◌∷◌, Some, None, length, take, set, get_or, sym, ap, ◌∙◌, subst, inl, inr, arith}
use Rattle.std.proofs.lemmas.Bool.{cases_eq, false≢true}
use Rattle.std.proofs.lemmas.List.{get_or-set_same, get_or-set_other}
use Rattle.life_bytes.specs.declared.sector.Sector.{Sector}
use Rattle.disk_model.specs.Disk.{Cell, IsImage, IsPartlyWritten, as_read, flushed, written}
use Rattle.disk_model.specs.DiskLaws.{IsImage-as_read, IsImage-flushed, IsImage-partly_written, as_read-flushed, as_read-partly_written, length-as_read, length-image}
use Rattle.log_record.specs.declared.image.Image.{Image}
use Rattle.log_image.specs.Log.{AreBelow}
use Rattle.log_image.specs.Overlay.{images_of, newest, overlaid}
use Rattle.log_image.specs.OverlayLaws.{overlaid-none}
use Rattle.log_batch.specs.NewestLaws.{newest_below, newest_first, newest_rest, none_some, some_same}
use Rattle.log_batch.specs.Put.{KeysRise}
use Rattle.log_store.specs.State.{State}
use Rattle.log_store.specs.Landed.{flushed_home, written_home}
use Rattle.log_store.specs.OnDisk.{AtRest, HasLogTo, base_of}
use Rattle.log_store.proofs.Base.{ReadsHome, as_read-one, base-flushed, base_home, base_home_twice, clean_flushed, torn_one}
use Rattle.log_store.proofs.laws.homes.Goals as goal

first_rises : (dirty rest : List Image) (image : Image) → dirty ≡ image ∷ rest → KeysRise (λ i. i.home) 0 dirty → KeysRise (λ i. i.home) 0 (image ∷ rest)
first_rises dirty rest image is rises = subst (λ (l : List Image). KeysRise (λ (i : Image). i.home) 0 l) is rises

-- the first dirty image is the newest of its home
first_newest : (dirty rest : List Image) (image : Image) → dirty ≡ image ∷ rest → KeysRise (λ i. i.home) 0 dirty → newest image.home dirty ≡ Some image.sector
first_newest dirty rest image is rises = ap (newest image.home) is ∙ newest_first 0 image rest (first_rises dirty rest image is rises)

other_newest : (home : ℕ) (dirty rest : List Image) (image : Image) → dirty ≡ image ∷ rest → home ≢ image.home → newest home dirty ≡ newest home rest
other_newest home dirty rest image is other = ap (newest home) is ∙ newest_rest home image rest other

-- the rest has none of its home
rest_newest : (dirty rest : List Image) (image : Image) → dirty ≡ image ∷ rest → KeysRise (λ i. i.home) 0 dirty → newest image.home rest ≡ None
rest_newest dirty rest image is rises = newest_below image.home (image.home + 1) rest (first_rises dirty rest image is rises).1 (omega arith)

-- the newest logged image of the first dirty home
logged_first : (s : State) (cells : List Cell) (image : Image) (rest : List Image) (r : AtRest s cells) → s.dirty ≡ image ∷ rest → KeysRise (λ i. i.home) 0 s.dirty
    → newest image.home (images_of r.log.records) ≡ Some image.sector
logged_first s cells image rest r is rises = r.logged image.home image.sector (first_newest s.dirty rest image is rises)

-- an image left by the write has the log, and replays as before
has_log : (c : goal.After-disk_writes) (s : State) (cells : List Cell) (image : Image) (rest : List Image) (left : List Sector) (r : AtRest s cells)
    → s.dirty ≡ image ∷ rest → KeysRise (λ i. i.home) 0 s.dirty → image.home < s.anchor → s.anchor ≤ length cells
    → IsImage (written image.home (image.sector ∷ []) cells) left → HasLogTo s.anchor s.ring r.log (base_of s cells) left
has_log c s cells image rest left r is rises below within left_is =
    let newer = logged_first s cells image rest r is rises in
    let from = c.disk_writes.ensures.home cells left s.anchor image.home r.log.records image.sector below newer left_is in
    let has = r.images from.0 from.1 in record {
      says = c.home_writes.ensures.log from.0 left s.anchor s.ring r.log has.says from.2;
      below = subst (λ (l : List Sector). AreBelow l r.log.end) (sym (c.home_writes.ensures.ring from.0 left s.anchor s.ring r.log.records from.2)) has.below;
      groups = c.home_writes.ensures.replayed from.0 left s.anchor r.log.records (omega (arith, length-image cells from.0 from.1)) from.2 ∙ has.groups;
    }

pub returns-clause-images : goal.returns-clause-images
returns-clause-images c = λ s cells image rest left r is rises below within left_is.
    let has = has_log c s cells image rest left r is rises below within left_is in record {
      log = r.log;
      count = 0;
      within = omega arith;
      says = has.says;
      groups = has.groups ∙ sym (overlaid-none (base_of s cells));
      next = r.next ∙ sym (omega arith);
      end = omega (arith, r.end);
    }

base_done : (s : State) (cells : List Cell) (image : Image) (rest : List Image) → s.dirty ≡ image ∷ rest → image.home < s.anchor
    → base_of (written_home s rest) (written image.home (image.sector ∷ []) cells) ≡ base_of s cells
base_done s cells image rest is below =
    ap (λ (l : List Sector). overlaid (take s.anchor l) rest) (as_read-one image.home image.sector cells)
    ∙ base_home s.anchor (as_read cells) image rest below
    ∙ ap (overlaid (take s.anchor (as_read cells))) (sym is)

pub returns-clause-base : goal.returns-clause-base
returns-clause-base c = λ s cells image rest r is rises below within. base_done s cells image rest is below

pub returns-clause-done : goal.returns-clause-done
returns-clause-done c = λ s cells image rest r is rises below within.
    let after = written image.home (image.sector ∷ []) cells in
    let reads = as_read cells in
    let set_is : as_read after ≡ set reads image.home image.sector = as_read-one image.home image.sector cells in
    let size = length-as_read cells in
    let home : ReadsHome (written_home s rest) after r.log.records = λ at sector d low newer none.
    elim (cases_eq at image.home) [
      | inl here ↦
          let same : sector ≡ image.sector = some_same (sym newer ∙ ap (λ (h : ℕ). newest h (images_of r.log.records)) here ∙ logged_first s cells image rest r is rises) in
          ap (λ (l : List Sector). get_or l at d) set_is ∙ ap (λ (h : ℕ). get_or (set reads image.home image.sector) h d) here
          ∙ get_or-set_same reads image.home image.sector d (omega arith) ∙ sym same
      | inr other ↦
          ap (λ (l : List Sector). get_or l at d) set_is
          ∙ get_or-set_other reads image.home at image.sector d other
          ∙ r.home at sector d low newer (other_newest at s.dirty rest image is other ∙ none)
    ] in
    record {
      log = r.log;
      tail = r.tail;
      end = r.end;
      next = r.next;
      images = λ left left_is. subst (λ (b : List Sector). HasLogTo s.anchor s.ring r.log b left) (sym (base_done s cells image rest is below)) (has_log c s cells image rest left r is rises below within left_is);
      logged = λ at sector dirty. elim (cases_eq at image.home) [
        | inl here ↦ absurd (none_some (sym (ap (λ (h : ℕ). newest h rest) here ∙ rest_newest s.dirty rest image is rises) ∙ dirty))
        | inr other ↦ r.logged at sector (other_newest at s.dirty rest image is other ∙ dirty)
      ];
      home = home;
      clean = λ none still image is. absurd (false≢true (sym still));
    }

-- a write that failed left the sector or wrote it
torn_base : (s : State) (cells new : List Cell) (image : Image) (rest : List Image) → s.dirty ≡ image ∷ rest → image.home < s.anchor
    → IsPartlyWritten image.home (image.sector ∷ []) cells new → base_of (written_home s s.dirty) new ≡ base_of s cells
torn_base s cells new image rest is below partly =
    elim (torn_one image.home image.sector (as_read cells) (as_read new) (as_read-partly_written image.home (image.sector ∷ []) cells new partly)) [
      | inl same ↦ ap (λ (l : List Sector). overlaid (take s.anchor l) s.dirty) same
      | inr put ↦ ap (λ (l : List Sector). overlaid (take s.anchor l) s.dirty) put
          ∙ ap (overlaid (take s.anchor (set (as_read cells) image.home image.sector))) is
          ∙ base_home_twice s.anchor (as_read cells) image rest below
          ∙ ap (overlaid (take s.anchor (as_read cells))) (sym is)
    ]

torn_reads : (cells new : List Cell) (image : Image) (at : ℕ) (d : Sector) → at ≢ image.home → IsPartlyWritten image.home (image.sector ∷ []) cells new
    → get_or (as_read new) at d ≡ get_or (as_read cells) at d
torn_reads cells new image at d other partly =
    elim (torn_one image.home image.sector (as_read cells) (as_read new) (as_read-partly_written image.home (image.sector ∷ []) cells new partly)) [
      | inl same ↦ ap (λ (l : List Sector). get_or l at d) same
      | inr put ↦ ap (λ (l : List Sector). get_or l at d) put ∙ get_or-set_other (as_read cells) image.home at image.sector d other
    ]

pub returns-clause-failed_base : goal.returns-clause-failed_base
returns-clause-failed_base c = λ s cells new image rest r is rises below within partly. torn_base s cells new image rest is below partly

pub returns-clause-failed : goal.returns-clause-failed
returns-clause-failed c = λ s cells new image rest r is rises below within partly.
    let home : ReadsHome (written_home s s.dirty) new r.log.records = λ at sector d low newer none.
    let other : at ≢ image.home = λ here. none_some (sym none ∙ ap (λ (h : ℕ). newest h s.dirty) here ∙ first_newest s.dirty rest image is rises) in
    torn_reads cells new image at d other partly ∙ r.home at sector d low newer none in
    record {
      log = r.log;
      tail = r.tail;
      end = r.end;
      next = r.next;
      images = λ left left_is. subst (λ (b : List Sector). HasLogTo s.anchor s.ring r.log b left) (sym (torn_base s cells new image rest is below partly))
          (has_log c s cells image rest left r is rises below within (IsImage-partly_written image.home (image.sector ∷ []) cells new left partly left_is));
      logged = r.logged;
      home = home;
      clean = λ none still image is. absurd (false≢true (sym still));
    }

pub returns-clause-flushed : goal.returns-clause-flushed
returns-clause-flushed c = λ s cells r.
    let base = base-flushed s cells in
    let home : ReadsHome (flushed_home s) (flushed cells) r.log.records = λ at sector d low newer none.
    ap (λ (l : List Sector). get_or l at d) (as_read-flushed cells) ∙ r.home at sector d low newer none in
    record {
      log = r.log;
      tail = r.tail;
      end = r.end;
      next = r.next;
      images = λ left left_is.
          subst (HasLogTo s.anchor s.ring r.log (base_of (flushed_home s) (flushed cells))) (sym (IsImage-flushed cells left left_is))
          (subst (λ (b : List Sector). HasLogTo s.anchor s.ring r.log b (as_read cells)) (sym base) (r.images (as_read cells) (IsImage-as_read cells)));
      logged = r.logged;
      home = home;
      clean = λ none still left left_is. clean_flushed (flushed_home s) cells r.log.records home none left left_is;
    }
