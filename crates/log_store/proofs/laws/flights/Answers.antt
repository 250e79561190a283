use Rattle.std.proofs.Common.{◌≡◌, ℕ, ◌-◌, ◌%◌, ◌≤◌, List, [], ◌∷◌, ◌++◌, length, take, refl, sym, ap, ◌∙◌, subst, inl, inr, arith}
use Rattle.std.proofs.lemmas.List.{length-take}
use Rattle.log_record.specs.Encoding.{sector_count, encoded_record}
use Rattle.log_image.specs.Writes.{first_part}
use Rattle.life_bytes.specs.declared.sector.Sector.{Sector}
use Rattle.disk_model.specs.Disk.{Cell, IsImage, as_read, flushed}
use Rattle.disk_model.specs.DiskLaws.{IsImage-as_read, IsImage-flushed, as_read-flushed}
use Rattle.log_record.specs.declared.record.LogRecord.{LogRecord}
use Rattle.log_image.specs.Log.{groups_part, replayed}
use Rattle.log_image.specs.Overlay.{images_of, overlaid}
use Rattle.log_image.specs.OverlayLaws.{overlaid-none, overlaid-newest}
use Rattle.log_image.specs.Step.{IsLogged, IsPartlyLogged, sector_of_position, with_record}
use Rattle.log_batch.specs.Newest.{commit_images}
use Rattle.log_batch.specs.Put.{KeysRise, put_all}
use Rattle.log_store.specs.State.{State}
use Rattle.log_store.specs.Landed.{RingFits, landed}
use Rattle.log_store.specs.OnDisk.{Flies, HasLogTo, ReplaysTo, base_of, fully_written, item_of}
use Rattle.log_store.proofs.Base.{ReadsHome, base-written, base_landed, clean_flushed, home_landed, logged_landed, replayed-more, same_home}
use Rattle.log_store.proofs.Launch.{few_sectors}
use Rattle.log_store.proofs.laws.flights.Goals as goal

-- an image over which the record was written in part
partly : (c : goal.After-disk_writes) (s : State) (before : List Cell) (old image : List Sector) → Flies s before → IsImage before old
    → IsPartlyLogged s.anchor s.ring (item_of s) old image → ReplaysTo s before image
partly c s before old image flies is part =
    let log = flies.rest.log in
    let has = flies.rest.images old is in
    let groups = c.torn_records.ensures.groups old image s.anchor s.ring (item_of s) part in
    let kept : replayed s.anchor image log.records ≡ base_of s before =
    ap (λ (l : List Sector). overlaid l (images_of log.records)) groups ∙ has.groups in
    elim (c.torn_records.ensures.torn old image s.anchor s.ring log (item_of s) has.says has.below flies.goes part) [
      | inl says ↦ record {
        log = log;
        count = 0;
        within = omega arith;
        says = says;
        groups = kept ∙ sym (overlaid-none (base_of s before));
        next = flies.rest.next ∙ sym (omega arith);
        end = omega (arith, flies.rest.end);
      }
      | inr whole ↦ record {
        log = with_record log (item_of s);
        count = s.taken;
        within = flies.batch.within;
        says = whole.1;
        groups = replayed-more s.anchor image log.records (item_of s)
            ∙ ap (λ (l : List Sector). overlaid l s.batch) kept
            ∙ overlaid-newest (base_of s before) s.batch (commit_images (take s.taken s.list)) flies.batch.newest.same;
        next = refl;
        end = omega (arith, (few_sectors (length s.batch) flies.batch.few).0);
      }
    ]

-- the record was written whole over what was read
count_fits : (s : State) (before : List Cell) → Flies s before → sector_count (length s.batch) ≤ s.ring
count_fits s before flies = omega (arith, flies.goes.form.tail, flies.goes.room, flies.goes.tail, flies.rest.tail)

read_whole : (c : goal.After-disk_writes) (s : State) (before : List Cell) → Flies s before → RingFits s before
    → IsLogged s.anchor s.ring (item_of s) (as_read before) (as_read (fully_written s before))
read_whole c s before flies fits = c.disk_writes.ensures.read before s.anchor s.ring (item_of s) fits.place fits.some (count_fits s before flies)

in_part : (anchor ring : ℕ) (item : LogRecord) (old new : List Sector) → IsLogged anchor ring item old new → IsPartlyLogged anchor ring item old new
in_part anchor ring item old new whole = record { size = whole.size; places = λ i d h. inr (whole.places i d h); others = whole.others }

same_groups : (c : goal.After-disk_writes) (s : State) (before : List Cell) → Flies s before → RingFits s before
    → groups_part s.anchor (as_read (flushed (fully_written s before))) ≡ groups_part s.anchor (as_read before)
same_groups c s before flies fits =
    ap (take s.anchor) (as_read-flushed (fully_written s before))
    ∙ c.torn_records.ensures.groups (as_read before) (as_read (fully_written s before)) s.anchor s.ring (item_of s)
    (in_part s.anchor s.ring (item_of s) (as_read before) (as_read (fully_written s before)) (read_whole c s before flies fits))

landed_base : (c : goal.After-disk_writes) (s : State) (before : List Cell) → Flies s before → RingFits s before → KeysRise (λ i. i.home) 0 s.dirty
    → base_of (landed s) (flushed (fully_written s before)) ≡ overlaid (base_of s before) (commit_images (take s.taken s.list))
landed_base c s before flies fits rises =
    ap (λ (l : List Sector). overlaid l (put_all s.batch s.dirty)) (same_groups c s before flies fits)
    ∙ base_landed (groups_part s.anchor (as_read before)) s.dirty s.batch (take s.taken s.list) rises flies.batch.newest

pub returns-clause-half_base : goal.returns-clause-half_base
returns-clause-half_base c = λ s before fits.
    let at = sector_of_position s.anchor s.ring s.head in
    let pieces = first_part s.ring (item_of s) in
    base-written s at pieces before (omega arith)
    (omega (arith, fits.place, fits.some, length-take (s.ring - s.head % s.ring) (encoded_record (item_of s))))

pub returns-clause-full_base : goal.returns-clause-full_base
returns-clause-full_base c = λ s before flies fits.
    ap (λ (l : List Sector). overlaid l s.dirty)
    (c.torn_records.ensures.groups (as_read before) (as_read (fully_written s before)) s.anchor s.ring (item_of s)
    (in_part s.anchor s.ring (item_of s) (as_read before) (as_read (fully_written s before)) (read_whole c s before flies fits)))

pub returns-clause-half : goal.returns-clause-half
returns-clause-half c = λ s before image flies fits is.
    let from = c.disk_writes.ensures.first before image s.anchor s.ring (item_of s) fits.some (count_fits s before flies) is in
    partly c s before from.0 image flies from.1 from.2

pub returns-clause-full : goal.returns-clause-full
returns-clause-full c = λ s before image flies fits is.
    let from = c.disk_writes.ensures.both before image s.anchor s.ring (item_of s) fits.some (count_fits s before flies) is in
    partly c s before from.0 image flies from.1 from.2

pub returns-clause-base : goal.returns-clause-base
returns-clause-base c = λ s before flies fits rises. landed_base c s before flies fits rises

pub returns-clause-landed : goal.returns-clause-landed
returns-clause-landed c = λ s before flies fits rises.
    let log = flies.rest.log in
    let full = fully_written s before in
    let reads = as_read full in
    let has = flies.rest.images (as_read before) (IsImage-as_read before) in
    let whole = read_whole c s before flies fits in
    let part = in_part s.anchor s.ring (item_of s) (as_read before) reads whole in
    let groups = c.torn_records.ensures.groups (as_read before) reads s.anchor s.ring (item_of s) part in
    let kept : replayed s.anchor reads log.records ≡ base_of s before =
    ap (λ (l : List Sector). overlaid l (images_of log.records)) groups ∙ has.groups in
    let same = same_groups c s before flies fits in
    let right : HasLogTo s.anchor s.ring (with_record log (item_of s)) (base_of (landed s) (flushed full)) reads = record {
      says = c.torn_records.ensures.whole (as_read before) reads s.anchor s.ring log (item_of s) has.says has.below flies.goes whole;
      below = c.torn_records.ensures.below (as_read before) reads s.anchor s.ring log (item_of s) has.says has.below flies.goes part;
      groups = replayed-more s.anchor reads log.records (item_of s)
          ∙ ap (λ (l : List Sector). overlaid l s.batch) kept
          ∙ overlaid-newest (base_of s before) s.batch (commit_images (take s.taken s.list)) flies.batch.newest.same
          ∙ sym (landed_base c s before flies fits rises);
    } in
    let home : ReadsHome (landed s) (flushed full) (log.records ++ item_of s ∷ []) = λ at sector d below newer none.
    let was = home_landed at sector s.batch s.dirty log.records (item_of s) refl rises newer none in
    same_home s.anchor at (as_read before) (as_read (flushed full)) d same below ∙ flies.rest.home at sector d below was.0 was.1 in
    record {
      log = with_record log (item_of s);
      tail = flies.rest.tail;
      end = refl;
      next = omega arith;
      images = λ image is. subst (HasLogTo s.anchor s.ring (with_record log (item_of s)) (base_of (landed s) (flushed full))) (sym (IsImage-flushed full image is)) right;
      logged = λ at sector is. logged_landed at sector s.batch s.dirty log.records (item_of s) refl rises flies.rest.logged is;
      home = home;
      clean = λ none still image is. clean_flushed (landed s) full (log.records ++ item_of s ∷ []) home none image is;
    }
