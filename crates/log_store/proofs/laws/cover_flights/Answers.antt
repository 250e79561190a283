use Rattle.std.proofs.Common.{◌≡◌, ℕ, ◌+◌, ◌^◌, ◌<◌, ◌≤◌, List, [], take, sym, ap, ◌∙◌, subst, inl, inr, arith}
use Rattle.life_bytes.specs.declared.sector.Sector.{Sector}
use Rattle.disk_model.specs.Disk.{Cell, IsImage, as_read, flushed, written}
use Rattle.disk_model.specs.DiskLaws.{IsImage-as_read, IsImage-flushed, as_read-flushed, length-image}
use Rattle.log_record.specs.declared.record.LogRecord.{LogRecord}
use Rattle.log_record.specs.Encoding.{encoded_record}
use Rattle.log_image.specs.Log.{IsLog, Log, empty_log, groups_part}
use Rattle.log_image.specs.Overlay.{images_of, newest, overlaid}
use Rattle.log_image.specs.OverlayLaws.{overlaid-none, newest-none}
use Rattle.log_image.specs.Step.{IsLogged, IsPartlyLogged, cover_of, covered as covered_log, sector_of_position}
use Rattle.log_image.specs.Writes.{first_part, rest_part}
use Rattle.log_batch.specs.NewestLaws.{none_some}
use Rattle.log_store.specs.State.{State}
use Rattle.log_store.specs.Landed.{RingFits, covered_state}
use Rattle.log_store.specs.OnDisk.{Covers, HasLogTo, base_of, cover_record, cover_written}
use Rattle.log_store.proofs.laws.cover_flights.Goals as goal

-- the cover is that of the log
same_cover : (s : State) (before : List Cell) (covers : Covers s before) → cover_record s ≡ cover_of covers.rest.log
same_cover s before covers =
    let cover : ℕ → ℕ → LogRecord = λ at first. record { position = at; tail = at; first = first; commits = 0; images = [] } in
    ap (λ (at : ℕ). cover at (s.durable + 1)) (sym covers.rest.end) ∙ ap (λ (n : ℕ). cover covers.rest.log.end n) (sym covers.rest.next)

-- it does not pass the ring's end
straight : (c : goal.After-disk_writes) (s : State) → 0 < s.ring → (first_part s.ring (cover_record s) ≡ encoded_record (cover_record s)) × (rest_part s.ring (cover_record s) ≡ [])
straight c s some = c.disk_writes.ensures.straight s.ring (cover_record s) (omega arith)

-- an image over which the cover was written or not
torn_cover : (c : goal.After-disk_writes) (s : State) (before : List Cell) (image : List Sector) → Covers s before → RingFits s before
    → IsImage (cover_written s before) image → (old : List Sector) × IsImage before old × IsPartlyLogged s.anchor s.ring (cover_record s) old image
torn_cover c s before image covers fits is =
    let at = straight c s fits.some in
    c.disk_writes.ensures.first before image s.anchor s.ring (cover_record s) fits.some (omega (arith, fits.some))
    (subst (λ (l : List Sector). IsImage (written (sector_of_position s.anchor s.ring s.head) l before) image) (sym at.0) is)

-- all is home: the groups of each image are the base
all_home : (c : goal.After-disk_writes) (s : State) (before : List Cell) (old : List Sector) (covers : Covers s before) → RingFits s before → IsImage before old
    → base_of s before ≡ groups_part s.anchor old
all_home c s before old covers fits is =
    let has = covers.rest.images old is in
    sym has.groups
    ∙ c.home_writes.ensures.all old s.anchor covers.rest.log.records (omega (arith, length-image before old is, fits.place)) (covers.rest.clean covers.dirty covers.unflushed old is)

in_part : (anchor ring : ℕ) (item : LogRecord) (old new : List Sector) → IsLogged anchor ring item old new → IsPartlyLogged anchor ring item old new
in_part anchor ring item old new whole = record { size = whole.size; places = λ i d h. inr (whole.places i d h); others = whole.others }

read_whole : (c : goal.After-disk_writes) (s : State) (before : List Cell) → RingFits s before
    → IsLogged s.anchor s.ring (cover_record s) (as_read before) (as_read (cover_written s before))
read_whole c s before fits =
    let at = straight c s fits.some in
    let both = c.disk_writes.ensures.read before s.anchor s.ring (cover_record s) fits.place fits.some (omega (arith, fits.some)) in
    subst (λ (l : List Sector). IsLogged s.anchor s.ring (cover_record s) (as_read before) (as_read (written (sector_of_position s.anchor s.ring s.head) l before))) at.0
    (subst (λ (l : List Sector). IsLogged s.anchor s.ring (cover_record s) (as_read before) (as_read (written (s.anchor + 1) l (written (sector_of_position s.anchor s.ring s.head) (first_part s.ring (cover_record s)) before)))) at.1 both)

same_groups : (c : goal.After-disk_writes) (s : State) (before : List Cell) → RingFits s before
    → groups_part s.anchor (as_read (flushed (cover_written s before))) ≡ groups_part s.anchor (as_read before)
same_groups c s before fits =
    ap (take s.anchor) (as_read-flushed (cover_written s before))
    ∙ c.torn_records.ensures.groups (as_read before) (as_read (cover_written s before)) s.anchor s.ring (cover_record s)
    (in_part s.anchor s.ring (cover_record s) (as_read before) (as_read (cover_written s before)) (read_whole c s before fits))

pub returns-clause-written_base : goal.returns-clause-written_base
returns-clause-written_base c = λ s before fits.
    ap (λ (l : List Sector). overlaid l s.dirty)
    (c.torn_records.ensures.groups (as_read before) (as_read (cover_written s before)) s.anchor s.ring (cover_record s)
    (in_part s.anchor s.ring (cover_record s) (as_read before) (as_read (cover_written s before)) (read_whole c s before fits)))

pub returns-clause-written : goal.returns-clause-written
returns-clause-written c = λ s before image covers fits end is.
    let log = covers.rest.log in
    let from = torn_cover c s before image covers fits is in
    let old = from.0 in
    let has = covers.rest.images old from.1 in
    let groups = c.torn_records.ensures.groups old image s.anchor s.ring (cover_record s) from.2 in
    let part = subst (λ (item : LogRecord). IsPartlyLogged s.anchor s.ring item old image) (same_cover s before covers) from.2 in
    elim (c.covers.ensures.torn old image s.anchor s.ring log has.says has.below fits.some (omega (arith, covers.rest.end, end)) part) [
      | inl says ↦ record {
        log = log;
        count = 0;
        within = omega arith;
        says = says;
        groups = ap (λ (l : List Sector). overlaid l (images_of log.records)) groups ∙ has.groups ∙ sym (overlaid-none (base_of s before));
        next = covers.rest.next ∙ sym (omega arith);
        end = omega (arith, covers.rest.end);
      }
      | inr whole ↦ record {
        log = covered_log log;
        count = 0;
        within = omega arith;
        says = whole.1;
        groups = c.covers.ensures.replayed s.anchor image log ∙ groups ∙ sym (all_home c s before old covers fits from.1) ∙ sym (overlaid-none (base_of s before));
        next = covers.rest.next ∙ sym (omega arith);
        end = omega (arith, covers.rest.end);
      }
    ]

pub returns-clause-base : goal.returns-clause-base
returns-clause-base c = λ s before covers fits end. ap (λ (l : List Sector). overlaid l s.dirty) (same_groups c s before fits)

-- the log of the cover
covered_reads : (c : goal.After-disk_writes) (s : State) (before : List Cell) (covers : Covers s before) → RingFits s before → s.head + 1 ≤ 2 ^ 63
    → IsLog (as_read (cover_written s before)) s.anchor s.ring (covered_log covers.rest.log)
covered_reads c s before covers fits end =
    let log = covers.rest.log in
    let reads = as_read (cover_written s before) in
    let has = covers.rest.images (as_read before) (IsImage-as_read before) in
    let whole = subst (λ (item : LogRecord). IsLogged s.anchor s.ring item (as_read before) reads) (same_cover s before covers) (read_whole c s before fits) in
    c.covers.ensures.whole (as_read before) reads s.anchor s.ring log has.says has.below fits.some (omega (arith, covers.rest.end, end)) whole

pub returns-clause-last : goal.returns-clause-last
returns-clause-last c = λ s before image covers fits end is.
    let one : ℕ → ℕ → Log = λ at next. covered_log (empty_log at next) in
    let same : covered_log covers.rest.log ≡ one s.head (s.durable + 1) =
    ap (λ (at : ℕ). one at covers.rest.log.next) covers.rest.end ∙ ap (one s.head) covers.rest.next in
    subst (λ (l : List Sector). IsLog l s.anchor s.ring (one s.head (s.durable + 1))) (sym (IsImage-flushed (cover_written s before) image is))
    (subst (IsLog (as_read (cover_written s before)) s.anchor s.ring) same (covered_reads c s before covers fits end))

pub returns-clause-landed : goal.returns-clause-landed
returns-clause-landed c = λ s before covers fits end.
    let log = covers.rest.log in
    let after = cover_written s before in
    let reads = as_read after in
    let has = covers.rest.images (as_read before) (IsImage-as_read before) in
    let cover = same_cover s before covers in
    let whole = subst (λ (item : LogRecord). IsLogged s.anchor s.ring item (as_read before) reads) cover (read_whole c s before fits) in
    let part = in_part s.anchor s.ring (cover_of log) (as_read before) reads whole in
    let bare : base_of (covered_state s) (flushed after) ≡ groups_part s.anchor (as_read (flushed after)) =
    ap (overlaid (groups_part s.anchor (as_read (flushed after)))) covers.dirty ∙ overlaid-none (groups_part s.anchor (as_read (flushed after))) in
    let right : HasLogTo s.anchor s.ring (covered_log log) (base_of (covered_state s) (flushed after)) reads = record {
      says = covered_reads c s before covers fits end;
      below = c.covers.ensures.below (as_read before) reads s.anchor s.ring log has.says has.below fits.some part;
      groups = c.covers.ensures.replayed s.anchor reads log ∙ sym (bare ∙ ap (take s.anchor) (as_read-flushed after));
    } in
    record {
      log = covered_log log;
      tail = covers.rest.end;
      end = ap (λ (n : ℕ). n + 1) covers.rest.end;
      next = covers.rest.next;
      images = λ image is. subst (HasLogTo s.anchor s.ring (covered_log log) (base_of (covered_state s) (flushed after))) (sym (IsImage-flushed after image is)) right;
      logged = λ home sector is. absurd (none_some (sym (ap (newest home) covers.dirty ∙ newest-none home) ∙ is));
      home = λ home sector d below newer none. absurd (none_some (sym (newest-none home) ∙ newer));
      clean = λ none still image is. λ home sector d below newer. absurd (none_some (sym (newest-none home) ∙ newer));
    }
