use Rattle.std.proofs.Common.{◌≡◌, ◌+◌, ◌%◌, ◌^◌, ◌<◌, ◌≤◌, ℕ, List, [], take, sym, ap, ◌∙◌, subst, arith}
use Rattle.std.specs.Prelude.{IsTrue}
use Rattle.life_bytes.specs.declared.sector.Sector.{Sector}
use Rattle.disk_model.specs.Disk.{Cell, IsImage, Elapses, IsPartlyWritten, written}
use Rattle.disk_model.specs.DiskLaws.{IsImage-partly_written}
use Rattle.log_record.specs.declared.record.LogRecord.{LogRecord}
use Rattle.log_record.specs.Encoding.{encoded_record}
use Rattle.log_image.specs.Step.{sector_of_position}
use Rattle.log_store.specs.declared.store.Store.{Store}
use Rattle.log_store.specs.declared.store.Stage.{Stage}
use Rattle.log_store.specs.declared.store.Stage.TheVariants.{Cover}
use Rattle.log_store.specs.declared.store.Job.{Job}
use Rattle.log_store.specs.declared.store.Job.TheVariants.{Clear, Force, Home, Idle}
use Rattle.log_store.specs.Landed.{RingFits}
use Rattle.log_store.specs.OnDisk.{Covers, ReplaysTo, base_of, cover_record, cover_written}
use Rattle.log_store.specs.State.{State, state_of}
use Rattle.log_store.specs.Steps.{Goes, JobFits}
use Rattle.log_store.proofs.Base.{base-partly}
use Rattle.log_store.proofs.Falls.{falls}
use Rattle.log_store.proofs.Going.{leaves}
use Rattle.log_store.proofs.Sound.{job_free, rest_of}
use Rattle.log_store.proofs.Ways.{goes_job, goes_written, rerest}
use Rattle.log_store.specs.Steps.{Covering}
use Rattle.log_store.specs.declared.store.Job.TheVariants.{Nothing, WriteBack}
use Rattle.log_store.proofs.store.Store.write_cover.Goals as goal

last_left : (head : ℕ) {read : ℕ} → head ≡ read → read ≤ 2 ^ 63 → (read ≡ 2 ^ 63 → ⊥) → head + 1 ≤ 2 ^ 63
last_left head is le other = omega arith

covering_fits : (job : Job) → Covering job → JobFits Cover job
covering_fits Clear is = tt
covering_fits Home is = tt
covering_fits WriteBack is = absurd is
covering_fits Force is = absurd is
covering_fits Nothing is = absurd is
covering_fits Idle is = absurd is

pub returns-then-head-clause-goes : goal.returns-then-head-clause-goes
returns-then-head-clause-goes g c =
    goes_job g.D.Disk.known g.D.Disk.cells g.D.Disk.sector_count g.D.Disk.moment g.D.Disk.left_since c.args.self.now Idle c.requires.store (job_free c.args.self.now.stage Idle c.requires.stage) tt

pub returns-in-Ok-clause-goes : goal.returns-in-Ok-clause-goes
returns-in-Ok-clause-goes g c =
    let old = c.args.self.now in
    let sound = c.requires.store.sound in
    let s : State = state_of old in
    let cells = g.D.Disk.cells old.disk in
    let disk = c.write.new.self in
    let xs = c.fill_buffer.new.sectors.items in
    let with_head : ℕ → LogRecord = λ head. record { position = head; tail = head; first = old.durable + 1; commits = 0; images = [] } in
    let same_item : with_head c.head-head.result ≡ cover_record s = ap with_head c.head-head.ensures.head in
    let encoded_is : take 1 xs ≡ encoded_record (cover_record s) = c.fill_buffer.ensures.encoded ∙ ap encoded_record same_item in
    let pieces_is : take 1 c.deref.result.now ≡ encoded_record (cover_record s) = ap (λ (l : List Sector). take 1 l) c.deref.ensures.value ∙ encoded_is in
    let place_is : old.anchor + 1 + c.place.result ≡ sector_of_position old.anchor old.ring old.positions.head =
    ap (λ (n : ℕ). old.anchor + 1 + n) (c.place.ensures.place ∙ ap (λ (n : ℕ). n % old.positions.ring) c.head-head.ensures.head ∙ ap (λ (n : ℕ). old.positions.head % n) sound.ring) in
    let cells_is : written (old.anchor + 1 + c.place.result) (take 1 c.deref.result.now) cells ≡ cover_written s cells =
    ap (λ (n : ℕ). written n (take 1 c.deref.result.now) cells) place_is
    ∙ ap (λ (l : List Sector). written (sector_of_position old.anchor old.ring old.positions.head) l cells) pieces_is in
    let end : old.positions.head + 1 ≤ 2 ^ 63 = last_left old.positions.head (ap (λ (n : ℕ). n) (sym c.head-head.ensures.head)) c.head-head.ensures.end c.if-head.false in
    let long = c.fill_buffer.ensures.length ∙ sound.buffer in
    let ring_some : 0 < old.ring = omega (arith, c.place.ensures.within, sound.ring) in
    let ring_fits : IsTrue g.D.Disk.known → RingFits s cells = λ tells. record { some = ring_some; place = omega (arith, sound.place, g.met.D.Disk.cells_fit tells old.disk) } in
    let covers : (st : Stage) → IsTrue g.D.Disk.known → Covers (record s { stage = st }) cells = λ st tells. record {
      rest = rerest s old.queue.items old.batch old.taken st cells (rest_of old.stage s cells c.requires.stage (c.requires.store.holds tells));
      dirty = c.requires.none;
      unflushed = c.requires.flushed;
    } in
    let images : IsTrue g.D.Disk.known → (image : List Sector) → IsImage (cover_written s cells) image → ReplaysTo s cells image = λ tells image is.
    c.cover_flights.ensures.written s cells image (covers old.stage tells) (ring_fits tells) end is in
    goes_written g.D.Disk.known g.D.Disk.cells g.D.Disk.sector_count g.D.Disk.moment g.D.Disk.left_since old disk c.fill_buffer.new.sectors Cover c.requires.store
    (covering_fits old.job c.requires.job)
    c.in-Ok.ensures.sectors long (end, c.requires.none, c.requires.flushed)
    (λ tells. (cells, covers Cover tells, c.in-Ok.ensures.written tells ∙ cells_is))
    (λ tells. ap (base_of s) (c.in-Ok.ensures.written tells ∙ cells_is) ∙ c.cover_flights.ensures.written_base s cells (ring_fits tells))
    (λ tells. leaves _ _ _ _ (cover_written s cells) (ReplaysTo s cells)
    (subst (λ (cs : List Cell). Elapses (g.D.Disk.moment old.disk) (g.D.Disk.moment disk) (g.D.Disk.left_since old.disk) (g.D.Disk.left_since disk) (IsImage cs)) cells_is (c.in-Ok.ensures.time tells))
    (images tells))

pub returns-in-Err-clause-goes : goal.returns-in-Err-clause-goes
returns-in-Err-clause-goes g c =
    let old = c.args.self.now in
    let sound = c.requires.store.sound in
    let s : State = state_of old in
    let cells = g.D.Disk.cells old.disk in
    let disk = c.write.new.self in
    let xs = c.fill_buffer.new.sectors.items in
    let with_head : ℕ → LogRecord = λ head. record { position = head; tail = head; first = old.durable + 1; commits = 0; images = [] } in
    let same_item : with_head c.head-head.result ≡ cover_record s = ap with_head c.head-head.ensures.head in
    let encoded_is : take 1 xs ≡ encoded_record (cover_record s) = c.fill_buffer.ensures.encoded ∙ ap encoded_record same_item in
    let pieces_is : take 1 c.deref.result.now ≡ encoded_record (cover_record s) = ap (λ (l : List Sector). take 1 l) c.deref.ensures.value ∙ encoded_is in
    let place_is : old.anchor + 1 + c.place.result ≡ sector_of_position old.anchor old.ring old.positions.head =
    ap (λ (n : ℕ). old.anchor + 1 + n) (c.place.ensures.place ∙ ap (λ (n : ℕ). n % old.positions.ring) c.head-head.ensures.head ∙ ap (λ (n : ℕ). old.positions.head % n) sound.ring) in
    let cells_is : written (old.anchor + 1 + c.place.result) (take 1 c.deref.result.now) cells ≡ cover_written s cells =
    ap (λ (n : ℕ). written n (take 1 c.deref.result.now) cells) place_is
    ∙ ap (λ (l : List Sector). written (sector_of_position old.anchor old.ring old.positions.head) l cells) pieces_is in
    let end : old.positions.head + 1 ≤ 2 ^ 63 = last_left old.positions.head (ap (λ (n : ℕ). n) (sym c.head-head.ensures.head)) c.head-head.ensures.end c.if-head.false in
    let long = c.fill_buffer.ensures.length ∙ sound.buffer in
    let ring_some : 0 < old.ring = omega (arith, c.place.ensures.within, sound.ring) in
    let ring_fits : IsTrue g.D.Disk.known → RingFits s cells = λ tells. record { some = ring_some; place = omega (arith, sound.place, g.met.D.Disk.cells_fit tells old.disk) } in
    let covers : (st : Stage) → IsTrue g.D.Disk.known → Covers (record s { stage = st }) cells = λ st tells. record {
      rest = rerest s old.queue.items old.batch old.taken st cells (rest_of old.stage s cells c.requires.stage (c.requires.store.holds tells));
      dirty = c.requires.none;
      unflushed = c.requires.flushed;
    } in
    let images : IsTrue g.D.Disk.known → (image : List Sector) → IsImage (cover_written s cells) image → ReplaysTo s cells image = λ tells image is.
    c.cover_flights.ensures.written s cells image (covers old.stage tells) (ring_fits tells) end is in
    let partly : IsTrue g.D.Disk.known → IsPartlyWritten (sector_of_position old.anchor old.ring old.positions.head) (encoded_record (cover_record s)) cells (g.D.Disk.cells disk) = λ tells.
    subst (λ (l : List Sector). IsPartlyWritten (sector_of_position old.anchor old.ring old.positions.head) l cells (g.D.Disk.cells disk)) pieces_is
    (subst (λ (n : ℕ). IsPartlyWritten n (take 1 c.deref.result.now) cells (g.D.Disk.cells disk)) place_is (c.in-Err.ensures.failed tells)) in
    subst (λ (x : Store g.row.D.Denot). Goes g.D.Disk.known g.D.Disk.cells g.D.Disk.sector_count g.D.Disk.moment g.D.Disk.left_since old x) (sym c.go_down.ensures)
    (falls g.D.Disk.known g.D.Disk.cells g.D.Disk.sector_count g.D.Disk.moment g.D.Disk.left_since old disk c.fill_buffer.new.sectors _ c.requires.store c.in-Err.ensures.sectors long
    (λ tells. base-partly s (sector_of_position old.anchor old.ring old.positions.head) (encoded_record (cover_record s)) cells (g.D.Disk.cells disk) (omega arith) (partly tells))
    (λ tells image is. images tells image (IsImage-partly_written (sector_of_position old.anchor old.ring old.positions.head) (encoded_record (cover_record s)) cells (g.D.Disk.cells disk) image (partly tells) is))
    (λ tells. leaves _ _ _ _ (cover_written s cells) (ReplaysTo s cells)
    (subst (λ (cs : List Cell). Elapses (g.D.Disk.moment old.disk) (g.D.Disk.moment disk) (g.D.Disk.left_since old.disk) (g.D.Disk.left_since disk) (IsImage cs)) cells_is (c.in-Err.ensures.time tells))
    (images tells)))
