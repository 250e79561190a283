use Rattle.std.proofs.Common.{◌≡◌, ◌+◌, ◌<◌, ◌≤◌, ℕ, List, ◌++◌, false, length, take, drop, refl, sym, ap, ◌∙◌, subst, arith}
use Rattle.std.specs.Prelude.{IsTrue}
use Rattle.std.specs.List.{All}
use Rattle.std.proofs.lemmas.List.{length-drop}
use Rattle.life_bytes.specs.declared.sector.Sector.{Sector}
use Rattle.disk_model.specs.Disk.{Cell, IsImage, flushed}
use Rattle.disk_model.specs.DiskLaws.{length-written}
use Rattle.log_record.specs.declared.image.Image.{Image}
use Rattle.log_record.specs.declared.image.Commit.{Commit}
use Rattle.log_record.specs.Encoding.{sector_count}
use Rattle.log_image.specs.Log.{IsGroupImage}
use Rattle.log_image.specs.Step.{sector_of_position}
use Rattle.log_image.specs.Writes.{first_part, rest_part}
use Rattle.log_batch.specs.Newest.{commit_images}
use Rattle.log_batch.specs.Put.{KeysRise, put_all}
use Rattle.log_store.specs.declared.store.Store.{Store}
use Rattle.log_store.specs.declared.store.Stage.{Stage}
use Rattle.log_store.specs.declared.store.Stage.TheVariants.{Cover, Free, Record}
use Rattle.log_store.specs.declared.store.Job.{Job}
use Rattle.log_store.specs.declared.store.Job.TheVariants.{Clear, Force, Home, Idle}
use Rattle.log_store.specs.Landed.{RingFits, landed}
use Rattle.log_store.specs.OnDisk.{AtRest, Flies, HoldsAtStage, IsTaken, ReplaysTo, ReplaysUpTo, base_of, fully_written, half_written, item_of}
use Rattle.log_store.specs.State.{State, state_of}
use Rattle.log_store.specs.Steps.{Goes, HasImageRoom, IsInFlight, JobAsks, JobFits, StageFits}
use Rattle.log_store.proofs.Falls.{falls}
use Rattle.log_store.proofs.Going.{leaves, replays_wider}
use Rattle.log_store.proofs.Launch.{groups_batch, length_batch}
use Rattle.std.proofs.lemmas.List.{drop_at, length-append}
use Rattle.std.proofs.lemmas.List.Elements.{All-drop, All-same}
use Rattle.disk_model.specs.Disk.{as_read}
use Rattle.log_image.specs.Log.{groups_part}
use Rattle.log_image.specs.Overlay.{overlaid}
use Rattle.log_batch.specs.Newest.{IsCommit}
use Rattle.log_batch.specs.NewestLaws.{Rises-put_all}
use Rattle.log_store.specs.declared.store.Job.TheVariants.{Nothing, WriteBack}
use Rattle.log_store.proofs.Launch.{All-put_all, commit_images-split}
use Rattle.log_store.proofs.store.Store.flush_record.Goals as goal

-- only a force writes records
forced : (job : Job) (list : List Commit) (batch : List Image) (ring head tail : ℕ) → JobFits Record job → JobAsks job list batch ring head tail
forced Force list batch ring head tail fits = tt
forced Clear list batch ring head tail fits = absurd fits
forced Home list batch ring head tail fits = absurd fits
forced WriteBack list batch ring head tail fits = absurd fits
forced Nothing list batch ring head tail fits = absurd fits
forced Idle list batch ring head tail fits = absurd fits

record_cover : Record ≡ Cover → ⊥
record_cover same = cc

groups_left : (anchor n : ℕ) (commits : List Commit) → All (IsGroupImage anchor) (commit_images commits) → All (IsGroupImage anchor) (commit_images (drop n commits))
groups_left anchor n commits all =
    let whole = subst (λ (l : List Image). All (IsGroupImage anchor) l) (sym (commit_images-split n commits)) all in
    All-same (IsGroupImage anchor) (commit_images (drop n commits)) (drop (length (commit_images (take n commits))) (commit_images (take n commits) ++ commit_images (drop n commits)))
    (sym (drop_at (commit_images (take n commits)) (commit_images (drop n commits)) (length (commit_images (take n commits))) refl))
    (All-drop (IsGroupImage anchor) (length (commit_images (take n commits))) (commit_images (take n commits) ++ commit_images (drop n commits)) whole)

-- the commits of a record that is flushed wait no more, and their images take the room that was held for them
room_left : (list left : List Commit) (batch : List Image) (taken room now waiting rest spare : ℕ) → HasImageRoom list room waiting spare → IsTaken list taken batch
    → left ≡ drop taken list → rest ≡ length (commit_images left) → room ≤ now + length batch → HasImageRoom left now rest spare
room_left list left batch taken room now waiting rest spare has is left_is rest_is le =
    let both = ap length (commit_images-split taken list) in
    let sizes = length-append (commit_images (take taken list)) (commit_images (drop taken list)) in
    let left_size : length (commit_images left) ≡ length (commit_images (drop taken list)) = ap (λ (l : List Commit). length (commit_images l)) left_is in
    record {
      counted = rest_is;
      within = omega (arith, has.counted, has.within, rest_is, le, length_batch taken list batch is, both, sizes, left_size);
      countable = omega (arith, has.counted, has.countable, rest_is, both, sizes, left_size);
    }

pub drop_front-requires : goal.drop_front-requires
drop_front-requires g c = c.requires.store.sound.room.counted

pub put_all-requires : goal.put_all-requires
put_all-requires g c =
    let old = c.args.self.now in
    let sound = c.requires.store.sound in
    let s : State = state_of old in
    let cells = g.D.Disk.cells old.disk in
    let disk = c.flush.new.self in
    let flight : IsInFlight s old.sectors.items old.count =
    subst (λ (st : Stage). StageFits st s old.sectors.items old.count) c.requires.stage sound.stage in
    let split = ap length (commit_images-split old.taken old.queue.items) in
    omega (
      arith,
      sound.room.counted,
      sound.room.within,
      ap length c.images.ensures,
      length_batch old.taken old.queue.items old.batch flight.batch,
      split,
      length-append (commit_images (take old.taken old.queue.items)) (commit_images (drop old.taken old.queue.items)),
    )

pub returns-then-is_empty-clause-goes : goal.returns-then-is_empty-clause-goes
returns-then-is_empty-clause-goes g c =
    let old = c.args.self.now in
    let sound = c.requires.store.sound in
    let s : State = state_of old in
    let cells = g.D.Disk.cells old.disk in
    let disk = c.flush.new.self in
    let flight : IsInFlight s old.sectors.items old.count =
    subst (λ (st : Stage). StageFits st s old.sectors.items old.count) c.requires.stage sound.stage in
    let held : IsTrue g.D.Disk.known → (before : List Cell) × Flies s before × (cells ≡ fully_written s before) = λ tells.
    subst (λ (st : Stage). HoldsAtStage st s cells) c.requires.stage (c.requires.store.holds tells) in
    let ring_some : 0 < old.ring = omega (arith, flight.room) in
    let ring_fits : IsTrue g.D.Disk.known → RingFits s cells = λ tells. record { some = ring_some; place = omega (arith, sound.place, g.met.D.Disk.cells_fit tells old.disk) } in
    let before_fits : (tells : IsTrue g.D.Disk.known) → RingFits s (held tells).0 = λ tells. record {
      some = ring_some;
      place = omega (
        arith,
        sound.place,
        g.met.D.Disk.cells_fit tells old.disk,
        ap length (held tells).2,
        length-written (s.anchor + 1) (rest_part s.ring (item_of s)) (half_written s (held tells).0),
        length-written (sector_of_position s.anchor s.ring s.head) (first_part s.ring (item_of s)) (held tells).0,
      );
    } in
    let images : IsTrue g.D.Disk.known → (image : List Sector) → IsImage cells image → ReplaysTo s cells image = λ tells image is.
    c.states.ensures.replays s cells image (c.requires.store.holds tells) (ring_fits tells) (λ at. absurd (record_cover (sym c.requires.stage ∙ at))) is in
    let whole : IsTrue g.D.Disk.known → AtRest (landed s) (g.D.Disk.cells disk) = λ tells.
    subst (λ (cs : List Cell). AtRest (landed s) cs) (ap flushed (sym (held tells).2) ∙ sym (c.in-Ok.ensures.flushed tells))
    (c.flights.ensures.landed s (held tells).0 (held tells).1 (before_fits tells) sound.rises) in
    let base : (tells : IsTrue g.D.Disk.known) → base_of (landed s) (g.D.Disk.cells disk) ≡ overlaid (base_of s cells) (commit_images (take s.taken s.list)) = λ tells.
    ap (base_of (landed s)) (c.in-Ok.ensures.flushed tells ∙ ap flushed (held tells).2)
    ∙ c.flights.ensures.base s (held tells).0 (held tells).1 (before_fits tells) sound.rises
    ∙ ap (λ (b : List Sector). overlaid b (commit_images (take s.taken s.list)))
    (sym (ap (base_of s) (held tells).2 ∙ c.flights.ensures.full_base s (held tells).0 (held tells).1 (before_fits tells))) in
    let dirty_is : c.put_all.new.self.images ≡ put_all old.batch old.dirty.images =
    c.put_all.ensures.images ∙ ap (λ (l : List Image). put_all l old.dirty.images) c.images.ensures in
    let head_is : c.wrote.new.self.head ≡ old.positions.head + sector_count (length old.batch) = c.wrote.ensures.head ∙ ap (λ (n : ℕ). old.positions.head + n) flight.size in
    let list_is = c.drop_front.ensures.list in
    let now : ℕ → ℕ → List Commit → List Image → State = λ head tail list dirty. record {
      anchor = old.anchor;
      ring = old.ring;
      head = head;
      tail = tail;
      durable = old.durable + old.taken;
      list = list;
      dirty = dirty;
      unflushed = false;
      batch = old.batch;
      taken = old.taken;
      stage = Free;
    } in
    record {
      store = record {
        sound = record {
          place = omega (arith, sound.place, c.in-Ok.ensures.sectors);
          last = sound.last;
          ring = c.wrote.ensures.ring ∙ sound.ring;
          commits = subst (λ (l : List Commit). All IsCommit l) (sym list_is) (All-drop IsCommit old.taken old.queue.items sound.commits);
          groups = subst (λ (l : List Commit). All (IsGroupImage old.anchor) (commit_images l)) (sym list_is) (groups_left old.anchor old.taken old.queue.items sound.groups);
          numbers = omega (arith, sound.numbers, ap length list_is, length-drop old.taken old.queue.items, flight.batch.within);
          rises = subst (λ (l : List Image). KeysRise (λ (i : Image). i.home) 0 l) (sym dirty_is) (Rises-put_all old.batch old.dirty.images sound.rises);
          homes = subst (λ (l : List Image). All (IsGroupImage old.anchor) l) (sym dirty_is)
              (All-put_all (IsGroupImage old.anchor) old.batch old.dirty.images (groups_batch old.anchor old.taken old.queue.items old.batch flight.batch sound.groups) sound.homes);
          room = room_left old.queue.items c.drop_front.new.queue.items old.batch old.taken old.dirty.room c.put_all.new.self.room old.waiting c.drop_front.new.waiting old.spare
              sound.room flight.batch list_is c.drop_front.ensures.counted
              (omega (arith, c.put_all.ensures.room, ap length c.images.ensures));
          buffer = sound.buffer;
          stage = tt;
          job = tt;
          asks = tt;
        };
        holds = λ tells.
            subst (λ (n : ℕ). AtRest (now n c.wrote.new.self.tail c.drop_front.new.queue.items c.put_all.new.self.images) (g.D.Disk.cells disk)) (sym head_is)
            (subst (λ (n : ℕ). AtRest (now (old.positions.head + sector_count (length old.batch)) n c.drop_front.new.queue.items c.put_all.new.self.images) (g.D.Disk.cells disk)) (sym c.wrote.ensures.tail)
            (subst (λ (l : List Commit). AtRest (now (old.positions.head + sector_count (length old.batch)) old.positions.tail l c.put_all.new.self.images) (g.D.Disk.cells disk)) (sym list_is)
            (subst (λ (l : List Image). AtRest (now (old.positions.head + sector_count (length old.batch)) old.positions.tail (drop old.taken old.queue.items) l) (g.D.Disk.cells disk)) (sym dirty_is)
            (whole tells))));
      };
      moves = record {
        anchor = refl;
        ring = refl;
        head = omega (arith, head_is);
        count = old.taken;
        within = flight.batch.within;
        list = list_is;
        durable = refl;
        base = λ tells. ap (λ (l : List Image). overlaid (groups_part old.anchor (as_read (g.D.Disk.cells disk))) l) dirty_is ∙ base tells;
      };
      moments = λ tells. leaves _ _ _ _ cells (ReplaysUpTo c.wrote.new.self.head s cells) (c.in-Ok.ensures.time tells)
          (λ image is. replays_wider old.positions.head c.wrote.new.self.head s cells image (omega (arith, head_is)) (images tells image is));
    }

pub returns-else-is_empty-clause-goes : goal.returns-else-is_empty-clause-goes
returns-else-is_empty-clause-goes g c =
    let old = c.args.self.now in
    let sound = c.requires.store.sound in
    let s : State = state_of old in
    let cells = g.D.Disk.cells old.disk in
    let disk = c.flush.new.self in
    let flight : IsInFlight s old.sectors.items old.count =
    subst (λ (st : Stage). StageFits st s old.sectors.items old.count) c.requires.stage sound.stage in
    let held : IsTrue g.D.Disk.known → (before : List Cell) × Flies s before × (cells ≡ fully_written s before) = λ tells.
    subst (λ (st : Stage). HoldsAtStage st s cells) c.requires.stage (c.requires.store.holds tells) in
    let ring_some : 0 < old.ring = omega (arith, flight.room) in
    let ring_fits : IsTrue g.D.Disk.known → RingFits s cells = λ tells. record { some = ring_some; place = omega (arith, sound.place, g.met.D.Disk.cells_fit tells old.disk) } in
    let before_fits : (tells : IsTrue g.D.Disk.known) → RingFits s (held tells).0 = λ tells. record {
      some = ring_some;
      place = omega (
        arith,
        sound.place,
        g.met.D.Disk.cells_fit tells old.disk,
        ap length (held tells).2,
        length-written (s.anchor + 1) (rest_part s.ring (item_of s)) (half_written s (held tells).0),
        length-written (sector_of_position s.anchor s.ring s.head) (first_part s.ring (item_of s)) (held tells).0,
      );
    } in
    let images : IsTrue g.D.Disk.known → (image : List Sector) → IsImage cells image → ReplaysTo s cells image = λ tells image is.
    c.states.ensures.replays s cells image (c.requires.store.holds tells) (ring_fits tells) (λ at. absurd (record_cover (sym c.requires.stage ∙ at))) is in
    let whole : IsTrue g.D.Disk.known → AtRest (landed s) (g.D.Disk.cells disk) = λ tells.
    subst (λ (cs : List Cell). AtRest (landed s) cs) (ap flushed (sym (held tells).2) ∙ sym (c.in-Ok.ensures.flushed tells))
    (c.flights.ensures.landed s (held tells).0 (held tells).1 (before_fits tells) sound.rises) in
    let base : (tells : IsTrue g.D.Disk.known) → base_of (landed s) (g.D.Disk.cells disk) ≡ overlaid (base_of s cells) (commit_images (take s.taken s.list)) = λ tells.
    ap (base_of (landed s)) (c.in-Ok.ensures.flushed tells ∙ ap flushed (held tells).2)
    ∙ c.flights.ensures.base s (held tells).0 (held tells).1 (before_fits tells) sound.rises
    ∙ ap (λ (b : List Sector). overlaid b (commit_images (take s.taken s.list)))
    (sym (ap (base_of s) (held tells).2 ∙ c.flights.ensures.full_base s (held tells).0 (held tells).1 (before_fits tells))) in
    let dirty_is : c.put_all.new.self.images ≡ put_all old.batch old.dirty.images =
    c.put_all.ensures.images ∙ ap (λ (l : List Image). put_all l old.dirty.images) c.images.ensures in
    let head_is : c.wrote.new.self.head ≡ old.positions.head + sector_count (length old.batch) = c.wrote.ensures.head ∙ ap (λ (n : ℕ). old.positions.head + n) flight.size in
    let list_is = c.drop_front.ensures.list in
    let now : ℕ → ℕ → List Commit → List Image → State = λ head tail list dirty. record {
      anchor = old.anchor;
      ring = old.ring;
      head = head;
      tail = tail;
      durable = old.durable + old.taken;
      list = list;
      dirty = dirty;
      unflushed = false;
      batch = old.batch;
      taken = old.taken;
      stage = Free;
    } in
    record {
      store = record {
        sound = record {
          place = omega (arith, sound.place, c.in-Ok.ensures.sectors);
          last = sound.last;
          ring = c.wrote.ensures.ring ∙ sound.ring;
          commits = subst (λ (l : List Commit). All IsCommit l) (sym list_is) (All-drop IsCommit old.taken old.queue.items sound.commits);
          groups = subst (λ (l : List Commit). All (IsGroupImage old.anchor) (commit_images l)) (sym list_is) (groups_left old.anchor old.taken old.queue.items sound.groups);
          numbers = omega (arith, sound.numbers, ap length list_is, length-drop old.taken old.queue.items, flight.batch.within);
          rises = subst (λ (l : List Image). KeysRise (λ (i : Image). i.home) 0 l) (sym dirty_is) (Rises-put_all old.batch old.dirty.images sound.rises);
          homes = subst (λ (l : List Image). All (IsGroupImage old.anchor) l) (sym dirty_is)
              (All-put_all (IsGroupImage old.anchor) old.batch old.dirty.images (groups_batch old.anchor old.taken old.queue.items old.batch flight.batch sound.groups) sound.homes);
          room = room_left old.queue.items c.drop_front.new.queue.items old.batch old.taken old.dirty.room c.put_all.new.self.room old.waiting c.drop_front.new.waiting old.spare
              sound.room flight.batch list_is c.drop_front.ensures.counted
              (omega (arith, c.put_all.ensures.room, ap length c.images.ensures));
          buffer = sound.buffer;
          stage = tt;
          job = tt;
          asks = forced old.job _ _ _ _ _ (subst (λ (st : Stage). JobFits st old.job) c.requires.stage sound.job);
        };
        holds = λ tells.
            subst (λ (n : ℕ). AtRest (now n c.wrote.new.self.tail c.drop_front.new.queue.items c.put_all.new.self.images) (g.D.Disk.cells disk)) (sym head_is)
            (subst (λ (n : ℕ). AtRest (now (old.positions.head + sector_count (length old.batch)) n c.drop_front.new.queue.items c.put_all.new.self.images) (g.D.Disk.cells disk)) (sym c.wrote.ensures.tail)
            (subst (λ (l : List Commit). AtRest (now (old.positions.head + sector_count (length old.batch)) old.positions.tail l c.put_all.new.self.images) (g.D.Disk.cells disk)) (sym list_is)
            (subst (λ (l : List Image). AtRest (now (old.positions.head + sector_count (length old.batch)) old.positions.tail (drop old.taken old.queue.items) l) (g.D.Disk.cells disk)) (sym dirty_is)
            (whole tells))));
      };
      moves = record {
        anchor = refl;
        ring = refl;
        head = omega (arith, head_is);
        count = old.taken;
        within = flight.batch.within;
        list = list_is;
        durable = refl;
        base = λ tells. ap (λ (l : List Image). overlaid (groups_part old.anchor (as_read (g.D.Disk.cells disk))) l) dirty_is ∙ base tells;
      };
      moments = λ tells. leaves _ _ _ _ cells (ReplaysUpTo c.wrote.new.self.head s cells) (c.in-Ok.ensures.time tells)
          (λ image is. replays_wider old.positions.head c.wrote.new.self.head s cells image (omega (arith, head_is)) (images tells image is));
    }

pub returns-in-Err-clause-goes : goal.returns-in-Err-clause-goes
returns-in-Err-clause-goes g c =
    let old = c.args.self.now in
    let sound = c.requires.store.sound in
    let s : State = state_of old in
    let cells = g.D.Disk.cells old.disk in
    let disk = c.flush.new.self in
    let flight : IsInFlight s old.sectors.items old.count =
    subst (λ (st : Stage). StageFits st s old.sectors.items old.count) c.requires.stage sound.stage in
    let held : IsTrue g.D.Disk.known → (before : List Cell) × Flies s before × (cells ≡ fully_written s before) = λ tells.
    subst (λ (st : Stage). HoldsAtStage st s cells) c.requires.stage (c.requires.store.holds tells) in
    let ring_some : 0 < old.ring = omega (arith, flight.room) in
    let ring_fits : IsTrue g.D.Disk.known → RingFits s cells = λ tells. record { some = ring_some; place = omega (arith, sound.place, g.met.D.Disk.cells_fit tells old.disk) } in
    let before_fits : (tells : IsTrue g.D.Disk.known) → RingFits s (held tells).0 = λ tells. record {
      some = ring_some;
      place = omega (
        arith,
        sound.place,
        g.met.D.Disk.cells_fit tells old.disk,
        ap length (held tells).2,
        length-written (s.anchor + 1) (rest_part s.ring (item_of s)) (half_written s (held tells).0),
        length-written (sector_of_position s.anchor s.ring s.head) (first_part s.ring (item_of s)) (held tells).0,
      );
    } in
    let images : IsTrue g.D.Disk.known → (image : List Sector) → IsImage cells image → ReplaysTo s cells image = λ tells image is.
    c.states.ensures.replays s cells image (c.requires.store.holds tells) (ring_fits tells) (λ at. absurd (record_cover (sym c.requires.stage ∙ at))) is in
    let same : g.D.Disk.cells disk ≡ cells = c.in-Err.ensures.failed in
    subst (λ (x : Store g.row.D.Denot). Goes g.D.Disk.known g.D.Disk.cells g.D.Disk.sector_count g.D.Disk.moment g.D.Disk.left_since old x) (sym c.go_down.ensures)
    (falls g.D.Disk.known g.D.Disk.cells g.D.Disk.sector_count g.D.Disk.moment g.D.Disk.left_since old disk old.sectors _ c.requires.store c.in-Err.ensures.sectors sound.buffer
    (λ tells. ap (base_of s) same)
    (λ tells image is. images tells image (subst (λ (cs : List Cell). IsImage cs image) same is))
    (λ tells. leaves _ _ _ _ cells (ReplaysTo s cells) (c.in-Err.ensures.time tells) (images tells)))
