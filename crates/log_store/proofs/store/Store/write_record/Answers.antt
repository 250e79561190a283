use Rattle.std.proofs.Common.{◌≡◌, ◌+◌, ◌-◌, ◌%◌, ◌^◌, ◌<◌, ◌≤◌, ℕ, List, [], length, take, min, sym, ap, ◌∙◌, subst, arith}
use Rattle.std.specs.Prelude.{IsTrue}
use Rattle.std.proofs.lemmas.List.{length-take}
use Rattle.life_bytes.specs.declared.sector.Sector.{Sector}
use Rattle.disk_model.specs.Disk.{Cell, IsImage, Elapses, IsPartlyWritten, written}
use Rattle.disk_model.specs.DiskLaws.{IsImage-partly_written}
use Rattle.log_record.specs.declared.image.Image.{Image}
use Rattle.log_record.specs.declared.record.LogRecord.{LogRecord}
use Rattle.log_record.specs.Encoding.{FitsFields, sector_count, encoded_record}
use Rattle.log_image.specs.Step.{sector_of_position}
use Rattle.log_image.specs.Writes.{first_part, rest_part}
use Rattle.log_store.specs.declared.store.Store.{Store}
use Rattle.log_store.specs.declared.store.Stage.{Stage}
use Rattle.log_store.specs.declared.store.Stage.TheVariants.{Half, Record}
use Rattle.log_store.specs.declared.store.Job.{Job}
use Rattle.log_store.specs.declared.store.Job.TheVariants.{Idle}
use Rattle.log_store.specs.Landed.{RingFits}
use Rattle.log_store.specs.OnDisk.{AtRest, Flies, ReplaysTo, base_of, half_written, item_of}
use Rattle.log_store.specs.State.{State, state_of}
use Rattle.log_store.specs.Steps.{Goes, IsInFlight, JobFits}
use Rattle.log_store.proofs.Base.{base-partly}
use Rattle.log_store.proofs.Falls.{falls}
use Rattle.log_store.proofs.Going.{leaves}
use Rattle.log_store.proofs.Launch.{taken_of, few_sectors, launch}
use Rattle.log_store.proofs.Sound.{job_free, rest_of}
use Rattle.log_store.proofs.Ways.{front_part, goes_job, goes_written, no_rest, rerest}
use Rattle.log_store.proofs.store.Store.write_record.Goals as goal

pub returns-then-head-from-clause-goes : goal.returns-then-head-from-clause-goes
returns-then-head-from-clause-goes g c =
    goes_job g.D.Disk.known g.D.Disk.cells g.D.Disk.sector_count g.D.Disk.moment g.D.Disk.left_since c.args.self.now Idle c.requires.store (job_free c.args.self.now.stage Idle c.requires.stage) tt

pub slice_bounds-write-end : goal.slice_bounds-write-end
slice_bounds-write-end g c =
    let few = few_sectors (length c.args.self.now.batch) c.requires.batch.few in
    let size = ap length c.deref.ensures.value in
    omega (arith, length-take c.min-part.result c.deref.result.now, c.min-part.ensures, c.requires.size, few.0, size, c.fill_buffer.ensures.length, c.requires.store.sound.buffer)

pub write-requires-clause-some : goal.write-requires-clause-some
write-requires-clause-some g c =
    let few = few_sectors (length c.args.self.now.batch) c.requires.batch.few in
    let size = ap length c.deref.ensures.value in
    omega (arith, length-take c.min-part.result c.deref.result.now, c.min-part.ensures, c.straight.ensures.some, c.requires.size, few.0, few.1, size, c.fill_buffer.ensures.length, c.requires.store.sound.buffer)

pub returns-then-part-count-clause-goes : goal.returns-then-part-count-clause-goes
returns-then-part-count-clause-goes g c =
    let old = c.args.self.now in
    let sound = c.requires.store.sound in
    let s : State = state_of old in
    let cells = g.D.Disk.cells old.disk in
    let disk = c.write.new.self in
    let xs = c.fill_buffer.new.sectors.items in
    let k = old.ring - old.positions.head % old.ring in
    let with_head : ℕ → ℕ → List Image → LogRecord = λ head tail images. record { position = head; tail = tail; first = old.durable + 1; commits = old.taken; images = images } in
    let same_item : with_head c.head-head.result c.tail.result c.images.result.now ≡ item_of s =
    ap (λ (n : ℕ). with_head n c.tail.result c.images.result.now) c.head-head.ensures.head
    ∙ ap (λ (n : ℕ). with_head old.positions.head n c.images.result.now) c.tail.ensures.tail
    ∙ ap (λ (l : List Image). with_head old.positions.head old.positions.tail l) c.images.ensures in
    let encoded_is : take old.count xs ≡ encoded_record (item_of s) = c.fill_buffer.ensures.encoded ∙ ap encoded_record same_item in
    let fits_is = subst FitsFields same_item c.fill_buffer.ensures.fits in
    let least : c.min-part.result ≡ min old.count k = c.min-part.ensures ∙ ap (λ (n : ℕ). min old.count n) c.straight.ensures.left in
    let pieces_is : take c.min-part.result c.deref.result.now ≡ first_part old.ring (item_of s) =
    ap (λ (l : List Sector). take c.min-part.result l) c.deref.ensures.value ∙ ap (λ (n : ℕ). take n xs) least ∙ front_part xs (encoded_record (item_of s)) old.count k encoded_is in
    let place_is : old.anchor + 1 + c.place.result ≡ sector_of_position old.anchor old.ring old.positions.head =
    ap (λ (n : ℕ). old.anchor + 1 + n) (c.place.ensures.place ∙ ap (λ (n : ℕ). n % old.positions.ring) c.head-head.ensures.head ∙ ap (λ (n : ℕ). old.positions.head % n) sound.ring) in
    let cells_is : written (old.anchor + 1 + c.place.result) (take c.min-part.result c.deref.result.now) cells ≡ half_written s cells =
    ap (λ (n : ℕ). written n (take c.min-part.result c.deref.result.now) cells) place_is
    ∙ ap (λ (l : List Sector). written (sector_of_position old.anchor old.ring old.positions.head) l cells) pieces_is in
    let end : old.positions.head + old.count ≤ 2 ^ 63 = omega (arith, c.if-head-from.false, c.from.ensures, c.head-head.ensures.head, c.head-head.ensures.end) in
    let long = c.fill_buffer.ensures.length ∙ sound.buffer in
    let ring_some : 0 < old.ring = omega (arith, c.requires.room) in
    let ring_fits : IsTrue g.D.Disk.known → RingFits s cells = λ tells. record { some = ring_some; place = omega (arith, sound.place, g.met.D.Disk.cells_fit tells old.disk) } in
    let rest_is : IsTrue g.D.Disk.known → AtRest s cells = λ tells. rest_of old.stage s cells c.requires.stage (c.requires.store.holds tells) in
    let order : old.positions.tail ≤ old.positions.head = omega (arith, c.tail.ensures.tail, c.tail.ensures.ordered) in
    let room_is : (old.positions.head - old.positions.tail) + sector_count (length old.batch) + 1 ≤ old.ring = omega (arith, c.requires.room, c.requires.size) in
    let end_is : old.positions.head + sector_count (length old.batch) ≤ 2 ^ 63 = omega (arith, end, c.requires.size) in
    let flies : (st : Stage) → IsTrue g.D.Disk.known → Flies (record s { stage = st }) cells = λ st tells.
    launch (record s { stage = st }) cells (rerest s old.queue.items old.batch old.taken st cells (rest_is tells)) (taken_of old.queue.items old.taken old.batch c.requires.batch) fits_is sound.groups order room_is end_is sound.numbers in
    let images : IsTrue g.D.Disk.known → (image : List Sector) → IsImage (half_written s cells) image → ReplaysTo s cells image = λ tells image is.
    c.flights.ensures.half s cells image (flies old.stage tells) (ring_fits tells) is in
    let flight : (st : Stage) → IsInFlight (record s { stage = st }) xs old.count = λ st. record {
      some = c.requires.some;
      batch = taken_of old.queue.items old.taken old.batch c.requires.batch;
      fits = fits_is;
      size = c.requires.size;
      encoded = encoded_is;
      room = c.requires.room;
      end = end;
    } in
    goes_written g.D.Disk.known g.D.Disk.cells g.D.Disk.sector_count g.D.Disk.moment g.D.Disk.left_since old disk c.fill_buffer.new.sectors Half c.requires.store
    (subst (λ (j : Job). JobFits Half j) (sym c.requires.job) tt)
    c.in-Ok.ensures.sectors long (flight Half, omega (arith, c.if-part-count.true, least))
    (λ tells. (cells, flies Half tells, c.in-Ok.ensures.written tells ∙ cells_is))
    (λ tells. ap (base_of s) (c.in-Ok.ensures.written tells ∙ cells_is) ∙ c.flights.ensures.half_base s cells (ring_fits tells))
    (λ tells. leaves _ _ _ _ (half_written s cells) (ReplaysTo s cells)
    (subst (λ (cs : List Cell). Elapses (g.D.Disk.moment old.disk) (g.D.Disk.moment disk) (g.D.Disk.left_since old.disk) (g.D.Disk.left_since disk) (IsImage cs)) cells_is (c.in-Ok.ensures.time tells))
    (images tells))

pub returns-else-part-count-clause-goes : goal.returns-else-part-count-clause-goes
returns-else-part-count-clause-goes g c =
    let old = c.args.self.now in
    let sound = c.requires.store.sound in
    let s : State = state_of old in
    let cells = g.D.Disk.cells old.disk in
    let disk = c.write.new.self in
    let xs = c.fill_buffer.new.sectors.items in
    let k = old.ring - old.positions.head % old.ring in
    let with_head : ℕ → ℕ → List Image → LogRecord = λ head tail images. record { position = head; tail = tail; first = old.durable + 1; commits = old.taken; images = images } in
    let same_item : with_head c.head-head.result c.tail.result c.images.result.now ≡ item_of s =
    ap (λ (n : ℕ). with_head n c.tail.result c.images.result.now) c.head-head.ensures.head
    ∙ ap (λ (n : ℕ). with_head old.positions.head n c.images.result.now) c.tail.ensures.tail
    ∙ ap (λ (l : List Image). with_head old.positions.head old.positions.tail l) c.images.ensures in
    let encoded_is : take old.count xs ≡ encoded_record (item_of s) = c.fill_buffer.ensures.encoded ∙ ap encoded_record same_item in
    let fits_is = subst FitsFields same_item c.fill_buffer.ensures.fits in
    let least : c.min-part.result ≡ min old.count k = c.min-part.ensures ∙ ap (λ (n : ℕ). min old.count n) c.straight.ensures.left in
    let pieces_is : take c.min-part.result c.deref.result.now ≡ first_part old.ring (item_of s) =
    ap (λ (l : List Sector). take c.min-part.result l) c.deref.ensures.value ∙ ap (λ (n : ℕ). take n xs) least ∙ front_part xs (encoded_record (item_of s)) old.count k encoded_is in
    let place_is : old.anchor + 1 + c.place.result ≡ sector_of_position old.anchor old.ring old.positions.head =
    ap (λ (n : ℕ). old.anchor + 1 + n) (c.place.ensures.place ∙ ap (λ (n : ℕ). n % old.positions.ring) c.head-head.ensures.head ∙ ap (λ (n : ℕ). old.positions.head % n) sound.ring) in
    let cells_is : written (old.anchor + 1 + c.place.result) (take c.min-part.result c.deref.result.now) cells ≡ half_written s cells =
    ap (λ (n : ℕ). written n (take c.min-part.result c.deref.result.now) cells) place_is
    ∙ ap (λ (l : List Sector). written (sector_of_position old.anchor old.ring old.positions.head) l cells) pieces_is in
    let end : old.positions.head + old.count ≤ 2 ^ 63 = omega (arith, c.if-head-from.false, c.from.ensures, c.head-head.ensures.head, c.head-head.ensures.end) in
    let long = c.fill_buffer.ensures.length ∙ sound.buffer in
    let ring_some : 0 < old.ring = omega (arith, c.requires.room) in
    let ring_fits : IsTrue g.D.Disk.known → RingFits s cells = λ tells. record { some = ring_some; place = omega (arith, sound.place, g.met.D.Disk.cells_fit tells old.disk) } in
    let rest_is : IsTrue g.D.Disk.known → AtRest s cells = λ tells. rest_of old.stage s cells c.requires.stage (c.requires.store.holds tells) in
    let order : old.positions.tail ≤ old.positions.head = omega (arith, c.tail.ensures.tail, c.tail.ensures.ordered) in
    let room_is : (old.positions.head - old.positions.tail) + sector_count (length old.batch) + 1 ≤ old.ring = omega (arith, c.requires.room, c.requires.size) in
    let end_is : old.positions.head + sector_count (length old.batch) ≤ 2 ^ 63 = omega (arith, end, c.requires.size) in
    let flies : (st : Stage) → IsTrue g.D.Disk.known → Flies (record s { stage = st }) cells = λ st tells.
    launch (record s { stage = st }) cells (rerest s old.queue.items old.batch old.taken st cells (rest_is tells)) (taken_of old.queue.items old.taken old.batch c.requires.batch) fits_is sound.groups order room_is end_is sound.numbers in
    let images : IsTrue g.D.Disk.known → (image : List Sector) → IsImage (half_written s cells) image → ReplaysTo s cells image = λ tells image is.
    c.flights.ensures.half s cells image (flies old.stage tells) (ring_fits tells) is in
    let flight : (st : Stage) → IsInFlight (record s { stage = st }) xs old.count = λ st. record {
      some = c.requires.some;
      batch = taken_of old.queue.items old.taken old.batch c.requires.batch;
      fits = fits_is;
      size = c.requires.size;
      encoded = encoded_is;
      room = c.requires.room;
      end = end;
    } in
    let none : rest_part old.ring (item_of s) ≡ [] = no_rest xs (encoded_record (item_of s)) old.count k (omega (arith, c.if-part-count.false, least)) encoded_is in
    goes_written g.D.Disk.known g.D.Disk.cells g.D.Disk.sector_count g.D.Disk.moment g.D.Disk.left_since old disk c.fill_buffer.new.sectors Record c.requires.store
    (subst (λ (j : Job). JobFits Record j) (sym c.requires.job) tt)
    c.in-Ok.ensures.sectors long (flight Record)
    (λ tells. (cells, flies Record tells, c.in-Ok.ensures.written tells ∙ cells_is ∙ ap (λ (l : List Sector). written (old.anchor + 1) l (half_written s cells)) (sym none)))
    (λ tells. ap (base_of s) (c.in-Ok.ensures.written tells ∙ cells_is) ∙ c.flights.ensures.half_base s cells (ring_fits tells))
    (λ tells. leaves _ _ _ _ (half_written s cells) (ReplaysTo s cells)
    (subst (λ (cs : List Cell). Elapses (g.D.Disk.moment old.disk) (g.D.Disk.moment disk) (g.D.Disk.left_since old.disk) (g.D.Disk.left_since disk) (IsImage cs)) cells_is (c.in-Ok.ensures.time tells))
    (images tells))

pub returns-in-Err-clause-goes : goal.returns-in-Err-clause-goes
returns-in-Err-clause-goes g c =
    let old = c.args.self.now in
    let sound = c.requires.store.sound in
    let s : State = state_of old in
    let cells = g.D.Disk.cells old.disk in
    let disk = c.write.new.self in
    let xs = c.fill_buffer.new.sectors.items in
    let k = old.ring - old.positions.head % old.ring in
    let with_head : ℕ → ℕ → List Image → LogRecord = λ head tail images. record { position = head; tail = tail; first = old.durable + 1; commits = old.taken; images = images } in
    let same_item : with_head c.head-head.result c.tail.result c.images.result.now ≡ item_of s =
    ap (λ (n : ℕ). with_head n c.tail.result c.images.result.now) c.head-head.ensures.head
    ∙ ap (λ (n : ℕ). with_head old.positions.head n c.images.result.now) c.tail.ensures.tail
    ∙ ap (λ (l : List Image). with_head old.positions.head old.positions.tail l) c.images.ensures in
    let encoded_is : take old.count xs ≡ encoded_record (item_of s) = c.fill_buffer.ensures.encoded ∙ ap encoded_record same_item in
    let fits_is = subst FitsFields same_item c.fill_buffer.ensures.fits in
    let least : c.min-part.result ≡ min old.count k = c.min-part.ensures ∙ ap (λ (n : ℕ). min old.count n) c.straight.ensures.left in
    let pieces_is : take c.min-part.result c.deref.result.now ≡ first_part old.ring (item_of s) =
    ap (λ (l : List Sector). take c.min-part.result l) c.deref.ensures.value ∙ ap (λ (n : ℕ). take n xs) least ∙ front_part xs (encoded_record (item_of s)) old.count k encoded_is in
    let place_is : old.anchor + 1 + c.place.result ≡ sector_of_position old.anchor old.ring old.positions.head =
    ap (λ (n : ℕ). old.anchor + 1 + n) (c.place.ensures.place ∙ ap (λ (n : ℕ). n % old.positions.ring) c.head-head.ensures.head ∙ ap (λ (n : ℕ). old.positions.head % n) sound.ring) in
    let cells_is : written (old.anchor + 1 + c.place.result) (take c.min-part.result c.deref.result.now) cells ≡ half_written s cells =
    ap (λ (n : ℕ). written n (take c.min-part.result c.deref.result.now) cells) place_is
    ∙ ap (λ (l : List Sector). written (sector_of_position old.anchor old.ring old.positions.head) l cells) pieces_is in
    let end : old.positions.head + old.count ≤ 2 ^ 63 = omega (arith, c.if-head-from.false, c.from.ensures, c.head-head.ensures.head, c.head-head.ensures.end) in
    let long = c.fill_buffer.ensures.length ∙ sound.buffer in
    let ring_some : 0 < old.ring = omega (arith, c.requires.room) in
    let ring_fits : IsTrue g.D.Disk.known → RingFits s cells = λ tells. record { some = ring_some; place = omega (arith, sound.place, g.met.D.Disk.cells_fit tells old.disk) } in
    let rest_is : IsTrue g.D.Disk.known → AtRest s cells = λ tells. rest_of old.stage s cells c.requires.stage (c.requires.store.holds tells) in
    let order : old.positions.tail ≤ old.positions.head = omega (arith, c.tail.ensures.tail, c.tail.ensures.ordered) in
    let room_is : (old.positions.head - old.positions.tail) + sector_count (length old.batch) + 1 ≤ old.ring = omega (arith, c.requires.room, c.requires.size) in
    let end_is : old.positions.head + sector_count (length old.batch) ≤ 2 ^ 63 = omega (arith, end, c.requires.size) in
    let flies : (st : Stage) → IsTrue g.D.Disk.known → Flies (record s { stage = st }) cells = λ st tells.
    launch (record s { stage = st }) cells (rerest s old.queue.items old.batch old.taken st cells (rest_is tells)) (taken_of old.queue.items old.taken old.batch c.requires.batch) fits_is sound.groups order room_is end_is sound.numbers in
    let images : IsTrue g.D.Disk.known → (image : List Sector) → IsImage (half_written s cells) image → ReplaysTo s cells image = λ tells image is.
    c.flights.ensures.half s cells image (flies old.stage tells) (ring_fits tells) is in
    let flight : (st : Stage) → IsInFlight (record s { stage = st }) xs old.count = λ st. record {
      some = c.requires.some;
      batch = taken_of old.queue.items old.taken old.batch c.requires.batch;
      fits = fits_is;
      size = c.requires.size;
      encoded = encoded_is;
      room = c.requires.room;
      end = end;
    } in
    let partly : IsTrue g.D.Disk.known → IsPartlyWritten (sector_of_position old.anchor old.ring old.positions.head) (first_part old.ring (item_of s)) cells (g.D.Disk.cells disk) = λ tells.
    subst (λ (l : List Sector). IsPartlyWritten (sector_of_position old.anchor old.ring old.positions.head) l cells (g.D.Disk.cells disk)) pieces_is
    (subst (λ (n : ℕ). IsPartlyWritten n (take c.min-part.result c.deref.result.now) cells (g.D.Disk.cells disk)) place_is (c.in-Err.ensures.failed tells)) in
    subst (λ (x : Store g.row.D.Denot). Goes g.D.Disk.known g.D.Disk.cells g.D.Disk.sector_count g.D.Disk.moment g.D.Disk.left_since old x) (sym c.go_down.ensures)
    (falls g.D.Disk.known g.D.Disk.cells g.D.Disk.sector_count g.D.Disk.moment g.D.Disk.left_since old disk c.fill_buffer.new.sectors _ c.requires.store c.in-Err.ensures.sectors long
    (λ tells. base-partly s (sector_of_position old.anchor old.ring old.positions.head) (first_part old.ring (item_of s)) cells (g.D.Disk.cells disk) (omega arith) (partly tells))
    (λ tells image is. images tells image (IsImage-partly_written (sector_of_position old.anchor old.ring old.positions.head) (first_part old.ring (item_of s)) cells (g.D.Disk.cells disk) image (partly tells) is))
    (λ tells. leaves _ _ _ _ (half_written s cells) (ReplaysTo s cells)
    (subst (λ (cs : List Cell). Elapses (g.D.Disk.moment old.disk) (g.D.Disk.moment disk) (g.D.Disk.left_since old.disk) (g.D.Disk.left_since disk) (IsImage cs)) cells_is (c.in-Err.ensures.time tells))
    (images tells)))
