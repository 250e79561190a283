use Rattle.std.proofs.Common.{◌≡◌, ◌+◌, ◌^◌, ◌<◌, ◌≤◌, ℕ, List, [], false, length, refl, sym, ap, ◌∙◌, subst, arith}
use Rattle.std.specs.Prelude.{IsTrue}
use Rattle.life_bytes.specs.declared.sector.Sector.{Sector}
use Rattle.disk_model.specs.Disk.{Cell, IsImage, flushed}
use Rattle.disk_model.specs.DiskLaws.{length-written}
use Rattle.log_record.specs.Encoding.{encoded_record}
use Rattle.log_image.specs.Step.{sector_of_position}
use Rattle.log_store.specs.declared.store.Store.{Store}
use Rattle.log_store.specs.declared.store.Stage.{Stage}
use Rattle.log_store.specs.declared.store.Stage.TheVariants.{Free}
use Rattle.log_store.specs.Landed.{RingFits, covered_state}
use Rattle.log_store.specs.OnDisk.{AtRest, Covers, HoldsAtStage, ReplaysTo, ReplaysUpTo, base_of, cover_record, cover_written}
use Rattle.log_store.specs.State.{State, state_of}
use Rattle.log_store.specs.Steps.{Goes, StageFits}
use Rattle.log_store.proofs.Base.{base-flushed}
use Rattle.log_store.proofs.Falls.{falls}
use Rattle.log_store.proofs.Going.{leaves, moves_none, replays_wider}
use Rattle.log_store.proofs.store.Store.flush_cover.Goals as goal

pub returns-then-eq-clause-goes : goal.returns-then-eq-clause-goes
returns-then-eq-clause-goes g c =
    let old = c.args.self.now in
    let sound = c.requires.store.sound in
    let s : State = state_of old in
    let cells = g.D.Disk.cells old.disk in
    let disk = c.flush.new.self in
    let fit : (old.positions.head + 1 ≤ 2 ^ 63) × (old.dirty.images ≡ []) × (old.unflushed ≡ false) =
    subst (λ (st : Stage). StageFits st s old.sectors.items old.count) c.requires.stage sound.stage in
    let held : IsTrue g.D.Disk.known → (before : List Cell) × Covers s before × (cells ≡ cover_written s before) = λ tells.
    subst (λ (st : Stage). HoldsAtStage st s cells) c.requires.stage (c.requires.store.holds tells) in
    let ring_some : 0 < old.ring = omega (arith, sound.ring, old.positions.spare) in
    let ring_fits : IsTrue g.D.Disk.known → RingFits s cells = λ tells. record { some = ring_some; place = omega (arith, sound.place, g.met.D.Disk.cells_fit tells old.disk) } in
    let before_fits : (tells : IsTrue g.D.Disk.known) → RingFits s (held tells).0 = λ tells. record {
      some = ring_some;
      place = omega (arith, sound.place, g.met.D.Disk.cells_fit tells old.disk, ap length (held tells).2, length-written (sector_of_position s.anchor s.ring s.head) (encoded_record (cover_record s)) (held tells).0);
    } in
    let images : IsTrue g.D.Disk.known → (image : List Sector) → IsImage cells image → ReplaysTo s cells image = λ tells image is.
    c.states.ensures.replays s cells image (c.requires.store.holds tells) (ring_fits tells) (λ at. fit.0) is in
    let after : IsTrue g.D.Disk.known → AtRest (covered_state s) (g.D.Disk.cells disk) = λ tells.
    subst (λ (cs : List Cell). AtRest (covered_state s) cs) (ap flushed (sym (held tells).2) ∙ sym (c.in-Ok.ensures.flushed tells))
    (c.cover_flights.ensures.landed s (held tells).0 (held tells).1 (before_fits tells) fit.0) in
    let now : ℕ → ℕ → State = λ head tail. record s { head = head; tail = tail; stage = Free } in
    record {
      store = record {
        sound = record {
          place = omega (arith, sound.place, c.in-Ok.ensures.sectors);
          last = sound.last;
          ring = c.covered.ensures.ring ∙ sound.ring;
          commits = sound.commits;
          groups = sound.groups;
          numbers = sound.numbers;
          rises = sound.rises;
          homes = sound.homes;
          room = sound.room;
          buffer = sound.buffer;
          stage = tt;
          job = tt;
          asks = tt;
        };
        holds = λ tells.
            subst (λ (n : ℕ). AtRest (now n c.covered.new.self.tail) (g.D.Disk.cells disk)) (sym c.covered.ensures.head)
            (subst (λ (n : ℕ). AtRest (now (old.positions.head + 1) n) (g.D.Disk.cells disk)) (sym c.covered.ensures.tail) (after tells));
      };
      moves = moves_none g.D.Disk.known s _ cells (g.D.Disk.cells disk) refl refl refl refl (omega (arith, c.covered.ensures.head)) (λ tells.
          ap (base_of s) (c.in-Ok.ensures.flushed tells) ∙ base-flushed s cells);
      moments = λ tells. leaves _ _ _ _ cells (ReplaysUpTo c.covered.new.self.head s cells) (c.in-Ok.ensures.time tells)
          (λ image is. replays_wider old.positions.head c.covered.new.self.head s cells image (omega (arith, c.covered.ensures.head)) (images tells image is));
    }

pub returns-else-eq-clause-goes : goal.returns-else-eq-clause-goes
returns-else-eq-clause-goes g c =
    let old = c.args.self.now in
    let sound = c.requires.store.sound in
    let s : State = state_of old in
    let cells = g.D.Disk.cells old.disk in
    let disk = c.flush.new.self in
    let fit : (old.positions.head + 1 ≤ 2 ^ 63) × (old.dirty.images ≡ []) × (old.unflushed ≡ false) =
    subst (λ (st : Stage). StageFits st s old.sectors.items old.count) c.requires.stage sound.stage in
    let held : IsTrue g.D.Disk.known → (before : List Cell) × Covers s before × (cells ≡ cover_written s before) = λ tells.
    subst (λ (st : Stage). HoldsAtStage st s cells) c.requires.stage (c.requires.store.holds tells) in
    let ring_some : 0 < old.ring = omega (arith, sound.ring, old.positions.spare) in
    let ring_fits : IsTrue g.D.Disk.known → RingFits s cells = λ tells. record { some = ring_some; place = omega (arith, sound.place, g.met.D.Disk.cells_fit tells old.disk) } in
    let before_fits : (tells : IsTrue g.D.Disk.known) → RingFits s (held tells).0 = λ tells. record {
      some = ring_some;
      place = omega (arith, sound.place, g.met.D.Disk.cells_fit tells old.disk, ap length (held tells).2, length-written (sector_of_position s.anchor s.ring s.head) (encoded_record (cover_record s)) (held tells).0);
    } in
    let images : IsTrue g.D.Disk.known → (image : List Sector) → IsImage cells image → ReplaysTo s cells image = λ tells image is.
    c.states.ensures.replays s cells image (c.requires.store.holds tells) (ring_fits tells) (λ at. fit.0) is in
    let after : IsTrue g.D.Disk.known → AtRest (covered_state s) (g.D.Disk.cells disk) = λ tells.
    subst (λ (cs : List Cell). AtRest (covered_state s) cs) (ap flushed (sym (held tells).2) ∙ sym (c.in-Ok.ensures.flushed tells))
    (c.cover_flights.ensures.landed s (held tells).0 (held tells).1 (before_fits tells) fit.0) in
    let now : ℕ → ℕ → State = λ head tail. record s { head = head; tail = tail; stage = Free } in
    record {
      store = record {
        sound = record {
          place = omega (arith, sound.place, c.in-Ok.ensures.sectors);
          last = sound.last;
          ring = c.covered.ensures.ring ∙ sound.ring;
          commits = sound.commits;
          groups = sound.groups;
          numbers = sound.numbers;
          rises = sound.rises;
          homes = sound.homes;
          room = sound.room;
          buffer = sound.buffer;
          stage = tt;
          job = tt;
          asks = tt;
        };
        holds = λ tells.
            subst (λ (n : ℕ). AtRest (now n c.covered.new.self.tail) (g.D.Disk.cells disk)) (sym c.covered.ensures.head)
            (subst (λ (n : ℕ). AtRest (now (old.positions.head + 1) n) (g.D.Disk.cells disk)) (sym c.covered.ensures.tail) (after tells));
      };
      moves = moves_none g.D.Disk.known s _ cells (g.D.Disk.cells disk) refl refl refl refl (omega (arith, c.covered.ensures.head)) (λ tells.
          ap (base_of s) (c.in-Ok.ensures.flushed tells) ∙ base-flushed s cells);
      moments = λ tells. leaves _ _ _ _ cells (ReplaysUpTo c.covered.new.self.head s cells) (c.in-Ok.ensures.time tells)
          (λ image is. replays_wider old.positions.head c.covered.new.self.head s cells image (omega (arith, c.covered.ensures.head)) (images tells image is));
    }

pub returns-in-Err-clause-goes : goal.returns-in-Err-clause-goes
returns-in-Err-clause-goes g c =
    let old = c.args.self.now in
    let sound = c.requires.store.sound in
    let s : State = state_of old in
    let cells = g.D.Disk.cells old.disk in
    let disk = c.flush.new.self in
    let fit : (old.positions.head + 1 ≤ 2 ^ 63) × (old.dirty.images ≡ []) × (old.unflushed ≡ false) =
    subst (λ (st : Stage). StageFits st s old.sectors.items old.count) c.requires.stage sound.stage in
    let held : IsTrue g.D.Disk.known → (before : List Cell) × Covers s before × (cells ≡ cover_written s before) = λ tells.
    subst (λ (st : Stage). HoldsAtStage st s cells) c.requires.stage (c.requires.store.holds tells) in
    let ring_some : 0 < old.ring = omega (arith, sound.ring, old.positions.spare) in
    let ring_fits : IsTrue g.D.Disk.known → RingFits s cells = λ tells. record { some = ring_some; place = omega (arith, sound.place, g.met.D.Disk.cells_fit tells old.disk) } in
    let before_fits : (tells : IsTrue g.D.Disk.known) → RingFits s (held tells).0 = λ tells. record {
      some = ring_some;
      place = omega (arith, sound.place, g.met.D.Disk.cells_fit tells old.disk, ap length (held tells).2, length-written (sector_of_position s.anchor s.ring s.head) (encoded_record (cover_record s)) (held tells).0);
    } in
    let images : IsTrue g.D.Disk.known → (image : List Sector) → IsImage cells image → ReplaysTo s cells image = λ tells image is.
    c.states.ensures.replays s cells image (c.requires.store.holds tells) (ring_fits tells) (λ at. fit.0) is in
    let same : g.D.Disk.cells disk ≡ cells = c.in-Err.ensures.failed in
    subst (λ (x : Store g.row.D.Denot). Goes g.D.Disk.known g.D.Disk.cells g.D.Disk.sector_count g.D.Disk.moment g.D.Disk.left_since old x) (sym c.go_down.ensures)
    (falls g.D.Disk.known g.D.Disk.cells g.D.Disk.sector_count g.D.Disk.moment g.D.Disk.left_since old disk old.sectors _ c.requires.store c.in-Err.ensures.sectors sound.buffer
    (λ tells. ap (base_of s) same)
    (λ tells image is. images tells image (subst (λ (cs : List Cell). IsImage cs image) same is))
    (λ tells. leaves _ _ _ _ cells (ReplaysTo s cells) (c.in-Err.ensures.time tells) (images tells)))
