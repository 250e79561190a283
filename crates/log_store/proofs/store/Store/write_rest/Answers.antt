use Rattle.std.proofs.Common.{Err, ◌≡◌, ◌+◌, ◌-◌, ◌%◌, ◌<◌, ℕ, List, length, take, drop, sym, ap, ◌∙◌, subst, arith}
use Rattle.std.specs.Prelude.{IsTrue}
use Rattle.life_limits.specs.declared.TheConstants.{MAX_RECORD_SECTORS}
use Rattle.life_bytes.specs.declared.sector.Sector.{Sector}
use Rattle.disk_model.specs.Disk.{Cell, IsImage, Elapses, IsPartlyWritten, written}
use Rattle.disk_model.specs.DiskLaws.{IsImage-partly_written, length-written}
use Rattle.log_record.specs.Encoding.{encoded_record}
use Rattle.log_image.specs.Step.{sector_of_position}
use Rattle.log_image.specs.Writes.{first_part, rest_part}
use Rattle.log_store.specs.declared.store.Store.{Store}
use Rattle.log_store.specs.declared.store.Stage.{Stage}
use Rattle.log_store.specs.declared.store.Stage.TheVariants.{Half, Record}
use Rattle.log_store.specs.declared.store.Job.{Job}
use Rattle.log_store.specs.declared.store.Job.TheVariants.{Clear, Force, Home, Idle}
use Rattle.log_store.specs.Landed.{RingFits}
use Rattle.log_store.specs.OnDisk.{Flies, HoldsAtStage, ReplaysTo, base_of, fully_written, half_written, item_of}
use Rattle.log_store.specs.State.{State, state_of}
use Rattle.log_store.specs.Steps.{Goes, IsInFlight, JobFits, StageFits}
use Rattle.log_store.proofs.Base.{base-partly}
use Rattle.log_store.proofs.Falls.{falls}
use Rattle.log_store.proofs.Going.{leaves}
use Rattle.log_store.proofs.Ways.{goes_written, rerest, rest_range}
use Rattle.log_store.specs.OnDisk.{Replays}
use Rattle.log_store.specs.declared.store.Job.TheVariants.{Nothing, WriteBack}
use Rattle.log_store.specs.declared.fault.StoreFault.TheVariants.{WriteFault}
use Rattle.log_store.specs.Actions.{IsDoneBy, write_rest}
use Rattle.std.proofs.Common.{refl}
use Rattle.log_store.proofs.store.Store.write_rest.Goals as goal

record_force : (job : Job) → JobFits Half job → JobFits Record job
record_force Force fits = tt
record_force Clear fits = absurd fits
record_force Home fits = absurd fits
record_force WriteBack fits = absurd fits
record_force Nothing fits = absurd fits
record_force Idle fits = absurd fits

pub returns-in-Ok-clause-goes : goal.returns-in-Ok-clause-goes
returns-in-Ok-clause-goes g c =
    let old = c.args.self.now in
    let sound = c.requires.store.sound in
    let s : State = state_of old in
    let cells = g.D.Disk.cells old.disk in
    let disk = c.write.new.self in
    let xs = old.sectors.items in
    let k = old.ring - old.positions.head % old.ring in
    let fit : IsInFlight s xs old.count × (k < old.count) = subst (λ (st : Stage). StageFits st s xs old.count) c.requires.stage sound.stage in
    let flight = fit.0 in
    let held : IsTrue g.D.Disk.known → (before : List Cell) × Flies s before × (cells ≡ half_written s before) = λ tells.
    subst (λ (st : Stage). HoldsAtStage st s cells) c.requires.stage (c.requires.store.holds tells) in
    let pieces_is : take (old.count - c.straight-part.result) (drop c.straight-part.result c.deref.result.now) ≡ rest_part old.ring (item_of s) =
    ap (λ (l : List Sector). take (old.count - c.straight-part.result) (drop c.straight-part.result l)) c.deref.ensures.value
    ∙ ap (λ (n : ℕ). take (old.count - n) (drop n xs)) c.straight-part.ensures.left
    ∙ rest_range xs (encoded_record (item_of s)) old.count k (omega (arith, fit.1)) flight.encoded in
    let cells_is : (tells : IsTrue g.D.Disk.known) → written (old.anchor + 1) (take (old.count - c.straight-part.result) (drop c.straight-part.result c.deref.result.now)) cells ≡ fully_written s (held tells).0 = λ tells.
    ap (λ (l : List Sector). written (old.anchor + 1) l cells) pieces_is ∙ ap (λ (cs : List Cell). written (old.anchor + 1) (rest_part old.ring (item_of s)) cs) (held tells).2 in
    let ring_some : 0 < old.ring = omega (arith, flight.room) in
    let before_fits : (tells : IsTrue g.D.Disk.known) → RingFits s (held tells).0 = λ tells. record {
      some = ring_some;
      place = omega (arith, sound.place, g.met.D.Disk.cells_fit tells old.disk, ap length (held tells).2, length-written (sector_of_position s.anchor s.ring s.head) (first_part s.ring (item_of s)) (held tells).0);
    } in
    let base_half : (tells : IsTrue g.D.Disk.known) → base_of s cells ≡ base_of s (held tells).0 = λ tells.
    ap (base_of s) (held tells).2 ∙ c.flights.ensures.half_base s (held tells).0 (before_fits tells) in
    let images : (tells : IsTrue g.D.Disk.known) → (image : List Sector) → IsImage (fully_written s (held tells).0) image → ReplaysTo s cells image = λ tells image is.
    subst (λ (b : List Sector). Replays old.anchor old.ring (old.positions.head + MAX_RECORD_SECTORS) b old.queue.items old.durable image) (sym (base_half tells))
    (c.flights.ensures.full s (held tells).0 image (held tells).1 (before_fits tells) is) in
    let restaged : (tells : IsTrue g.D.Disk.known) → Flies (record s { stage = Record }) (held tells).0 = λ tells.
    let flies = (held tells).1 in record { rest = rerest s old.queue.items old.batch old.taken Record (held tells).0 flies.rest; goes = flies.goes; batch = flies.batch } in
    goes_written g.D.Disk.known g.D.Disk.cells g.D.Disk.sector_count g.D.Disk.moment g.D.Disk.left_since old disk old.sectors Record c.requires.store
    (record_force old.job (subst (λ (st : Stage). JobFits st old.job) c.requires.stage sound.job))
    c.in-Ok.ensures.sectors sound.buffer
    (record { some = flight.some; batch = flight.batch; fits = flight.fits; size = flight.size; encoded = flight.encoded; room = flight.room; end = flight.end })
    (λ tells. ((held tells).0, restaged tells, c.in-Ok.ensures.written tells ∙ cells_is tells))
    (λ tells. ap (base_of s) (c.in-Ok.ensures.written tells ∙ cells_is tells) ∙ c.flights.ensures.full_base s (held tells).0 (held tells).1 (before_fits tells) ∙ sym (base_half tells))
    (λ tells. leaves _ _ _ _ (fully_written s (held tells).0) (ReplaysTo s cells)
    (subst (λ (cs : List Cell). Elapses (g.D.Disk.moment old.disk) (g.D.Disk.moment disk) (g.D.Disk.left_since old.disk) (g.D.Disk.left_since disk) (IsImage cs)) (cells_is tells) (c.in-Ok.ensures.time tells))
    (images tells))

pub returns-in-Err-clause-goes : goal.returns-in-Err-clause-goes
returns-in-Err-clause-goes g c =
    let old = c.args.self.now in
    let sound = c.requires.store.sound in
    let s : State = state_of old in
    let cells = g.D.Disk.cells old.disk in
    let disk = c.write.new.self in
    let xs = old.sectors.items in
    let k = old.ring - old.positions.head % old.ring in
    let fit : IsInFlight s xs old.count × (k < old.count) = subst (λ (st : Stage). StageFits st s xs old.count) c.requires.stage sound.stage in
    let flight = fit.0 in
    let held : IsTrue g.D.Disk.known → (before : List Cell) × Flies s before × (cells ≡ half_written s before) = λ tells.
    subst (λ (st : Stage). HoldsAtStage st s cells) c.requires.stage (c.requires.store.holds tells) in
    let pieces_is : take (old.count - c.straight-part.result) (drop c.straight-part.result c.deref.result.now) ≡ rest_part old.ring (item_of s) =
    ap (λ (l : List Sector). take (old.count - c.straight-part.result) (drop c.straight-part.result l)) c.deref.ensures.value
    ∙ ap (λ (n : ℕ). take (old.count - n) (drop n xs)) c.straight-part.ensures.left
    ∙ rest_range xs (encoded_record (item_of s)) old.count k (omega (arith, fit.1)) flight.encoded in
    let cells_is : (tells : IsTrue g.D.Disk.known) → written (old.anchor + 1) (take (old.count - c.straight-part.result) (drop c.straight-part.result c.deref.result.now)) cells ≡ fully_written s (held tells).0 = λ tells.
    ap (λ (l : List Sector). written (old.anchor + 1) l cells) pieces_is ∙ ap (λ (cs : List Cell). written (old.anchor + 1) (rest_part old.ring (item_of s)) cs) (held tells).2 in
    let ring_some : 0 < old.ring = omega (arith, flight.room) in
    let before_fits : (tells : IsTrue g.D.Disk.known) → RingFits s (held tells).0 = λ tells. record {
      some = ring_some;
      place = omega (arith, sound.place, g.met.D.Disk.cells_fit tells old.disk, ap length (held tells).2, length-written (sector_of_position s.anchor s.ring s.head) (first_part s.ring (item_of s)) (held tells).0);
    } in
    let base_half : (tells : IsTrue g.D.Disk.known) → base_of s cells ≡ base_of s (held tells).0 = λ tells.
    ap (base_of s) (held tells).2 ∙ c.flights.ensures.half_base s (held tells).0 (before_fits tells) in
    let images : (tells : IsTrue g.D.Disk.known) → (image : List Sector) → IsImage (fully_written s (held tells).0) image → ReplaysTo s cells image = λ tells image is.
    subst (λ (b : List Sector). Replays old.anchor old.ring (old.positions.head + MAX_RECORD_SECTORS) b old.queue.items old.durable image) (sym (base_half tells))
    (c.flights.ensures.full s (held tells).0 image (held tells).1 (before_fits tells) is) in
    let restaged : (tells : IsTrue g.D.Disk.known) → Flies (record s { stage = Record }) (held tells).0 = λ tells.
    let flies = (held tells).1 in record { rest = rerest s old.queue.items old.batch old.taken Record (held tells).0 flies.rest; goes = flies.goes; batch = flies.batch } in
    let partly : (tells : IsTrue g.D.Disk.known) → IsPartlyWritten (old.anchor + 1) (rest_part old.ring (item_of s)) cells (g.D.Disk.cells disk) = λ tells.
    subst (λ (l : List Sector). IsPartlyWritten (old.anchor + 1) l cells (g.D.Disk.cells disk)) pieces_is (c.in-Err.ensures.failed tells) in
    let still : (tells : IsTrue g.D.Disk.known) → written (old.anchor + 1) (rest_part old.ring (item_of s)) cells ≡ fully_written s (held tells).0 = λ tells.
    ap (λ (cs : List Cell). written (old.anchor + 1) (rest_part old.ring (item_of s)) cs) (held tells).2 in
    subst (λ (x : Store g.row.D.Denot). Goes g.D.Disk.known g.D.Disk.cells g.D.Disk.sector_count g.D.Disk.moment g.D.Disk.left_since old x) (sym c.go_down.ensures)
    (falls g.D.Disk.known g.D.Disk.cells g.D.Disk.sector_count g.D.Disk.moment g.D.Disk.left_since old disk old.sectors _ c.requires.store c.in-Err.ensures.sectors sound.buffer
    (λ tells. base-partly s (old.anchor + 1) (rest_part old.ring (item_of s)) cells (g.D.Disk.cells disk) (omega arith) (partly tells))
    (λ tells image is. images tells image (subst (λ (cs : List Cell). IsImage cs image) (still tells)
    (IsImage-partly_written (old.anchor + 1) (rest_part old.ring (item_of s)) cells (g.D.Disk.cells disk) image (partly tells) is)))
    (λ tells. leaves _ _ _ _ (fully_written s (held tells).0) (ReplaysTo s cells)
    (subst (λ (cs : List Cell). Elapses (g.D.Disk.moment old.disk) (g.D.Disk.moment disk) (g.D.Disk.left_since old.disk) (g.D.Disk.left_since disk) (IsImage cs)) (cells_is tells) (c.in-Err.ensures.time tells))
    (images tells)))

-- the sectors behind the ring's end, at the ring's start
rest_pieces : (old_ring head count part : ℕ) (xs all now : List Sector) → now ≡ xs → part ≡ old_ring - head % old_ring → old_ring - head % old_ring < count → take count xs ≡ all
    → take (count - part) (drop part now) ≡ drop (old_ring - head % old_ring) all
rest_pieces ring head count part xs all now value left within is =
    ap (λ (l : List Sector). take (count - part) (drop part l)) value
    ∙ ap (λ (n : ℕ). take (count - n) (drop n xs)) left
    ∙ rest_range xs all count (ring - head % ring) (omega (arith, within)) is

-- ---- what was done

pub returns-in-Ok-clause-done : goal.returns-in-Ok-clause-done
returns-in-Ok-clause-done g c =
    let old = c.args.self.now in
    let sound = c.requires.store.sound in
    let s : State = state_of old in
    let cells = g.D.Disk.cells old.disk in
    let disk = c.write.new.self in
    let fit : IsInFlight s old.sectors.items old.count × (old.ring - old.positions.head % old.ring < old.count) = subst (λ (st : Stage). StageFits st s old.sectors.items old.count) c.requires.stage sound.stage in
    let pieces_is = rest_pieces old.ring old.positions.head old.count c.straight-part.result old.sectors.items (encoded_record (item_of s)) c.deref.result.now c.deref.ensures.value c.straight-part.ensures.left fit.1 fit.0.encoded in
    record {
      answer = (tt, refl);
      state = refl;
      job = refl;
      call = (λ tells. c.in-Ok.ensures.written tells ∙ ap (λ (l : List Sector). written (old.anchor + 1) l cells) pieces_is, c.in-Ok.ensures.arming);
      size = c.in-Ok.ensures.sectors;
      count = c.in-Ok.ensures.cause.never_falls;
    }

pub returns-in-Err-clause-done : goal.returns-in-Err-clause-done
returns-in-Err-clause-done g c =
    let old = c.args.self.now in
    let sound = c.requires.store.sound in
    let s : State = state_of old in
    let cells = g.D.Disk.cells old.disk in
    let disk = c.write.new.self in
    let fit : IsInFlight s old.sectors.items old.count × (old.ring - old.positions.head % old.ring < old.count) = subst (λ (st : Stage). StageFits st s old.sectors.items old.count) c.requires.stage sound.stage in
    let pieces_is = rest_pieces old.ring old.positions.head old.count c.straight-part.result old.sectors.items (encoded_record (item_of s)) c.deref.result.now c.deref.ensures.value c.straight-part.ensures.left fit.1 fit.0.encoded in
    subst (λ (x : Store g.row.D.Denot). IsDoneBy g.D.Disk.known g.D.Disk.cells g.D.Disk.sector_count g.D.Disk.arming g.D.Disk.fault_count write_rest (Err WriteFault) old.job s old.disk x) (sym c.go_down.ensures) (record {
      answer = tt;
      state = refl;
      job = refl;
      call = (λ tells. subst (λ (l : List Sector). IsPartlyWritten (old.anchor + 1) l cells (g.D.Disk.cells disk)) pieces_is (c.in-Err.ensures.failed tells), c.in-Err.ensures.arming);
      size = c.in-Err.ensures.sectors;
      count = (c.in-Err.ensures.cause.never_falls, c.in-Err.ensures.cause.failed);
    })
