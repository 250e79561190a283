use Rattle.std.proofs.Common.{◌≡◌, ◌∷◌, [], ◌<◌, ◌+◌, ℕ, List, length, refl, sym, ap, subst, ◌∙◌, arith, rules}
use Rattle.std.specs.List.{All}
use Rattle.std.specs.Map.Iter.{deref_pair}
use Rattle.std.proofs.lemmas.Map.Iter.{rest_more, rest_all}
use Rattle.life_bytes.specs.declared.sector.Sector.{Sector}
use Rattle.disk_model.specs.Disk.{Cell, IsImage, as_read, written}
use Rattle.disk_model.specs.DiskLaws.{Elapses-more, Elapses-none, IsImage-partly_written}
use Rattle.log_record.specs.declared.image.Image.{Image}
use Rattle.log_image.specs.Overlay.{overlaid}
use Rattle.recovery.specs.Homes.{images_in}
use Rattle.recovery.specs.Put.{IsPartlyPut}
use Rattle.recovery.proofs.Puts.{AreLeft, as_read_put, left_all, length_in, one_more_write, overlaid-cons, overlaid-nil, put_first, put_more}
use Rattle.recovery.proofs.homes.HomeImages.write_home.Goals as goal

pub loop-home-init : goal.loop-home-init
loop-home-init g c =
    let d = g.D.Disk in
    let disk = c.args.disk.now in
    let entries = c.self.inside.sectors.entries in
    let all : c.into_iter-home-iterator.result ≡ entries = c.into_iter-home-iterator.ensures.into_iter_gives.0 in
    let homes = subst (λ (l : List Image). All (λ (i : Image). i.home < d.sector_count disk) l) (sym c.self.view_is) c.requires in
    let left = left_all 0 (d.sector_count disk) entries c.self.invariant homes in
    record {
      rest = subst (λ (l : List (ℕ × Sector)). AreLeft c.args.self.now (d.sector_count disk) l) (sym all)
          (subst (λ (l : List Image). AreLeft l (d.sector_count disk) entries) c.self.view_is left);
      sectors = search rules;
      count = omega arith;
      armed = (0, omega (arith, ap length all, length_in entries, ap length c.self.view_is), refl);
      reads = λ known. ap (λ (l : List (ℕ × Sector)). overlaid (as_read (d.cells disk)) (images_in l)) all ∙ ap (overlaid (as_read (d.cells disk))) c.self.view_is;
      left = λ known one. put_first c.args.self.now (d.cells disk) one;
      time = λ known one. Elapses-none (d.moment disk) (d.left_since disk) (IsPartlyPut c.args.self.now (as_read (d.cells disk)));
    }

pub loop-home-preserved : goal.loop-home-preserved
loop-home-preserved g c =
    let d = g.D.Disk in
    let inv = c.loop-home.invariant in
    let base = as_read (d.cells c.args.disk.now) in
    let home = c.in-Some.home.now in
    let sector = c.in-Some.sector.now in
    let cells = d.cells c.loop-home.disk in
    let split : c.loop-home.home-iterator ≡ (home, sector) ∷ c.next.new.self =
    rest_more deref_pair c.loop-home.home-iterator c.next.new.self c.next.result (c.in-Some.home, c.in-Some.sector) c.in-Some.is c.next.ensures.steps in
    let left = subst (λ (l : List (ℕ × Sector)). AreLeft c.args.self.now (d.sector_count c.loop-home.disk) l) split inv.rest in
    record {
      rest = subst (λ (n : ℕ). AreLeft c.args.self.now n c.next.new.self) (sym c.write.ensures.sectors) left.2;
      sectors = c.write.ensures.sectors ∙ inv.sectors;
      count = omega (arith, inv.count, c.write.ensures.cause.never_falls);
      armed = (
        inv.armed.0 + 1,
        omega (arith, ap length split, inv.armed.1),
        one_more_write inv.armed.0 (d.arming c.args.disk.now) (d.arming c.loop-home.disk) (d.arming c.write.new.self) inv.armed.2 c.write.ensures.arming,
      );
      reads = λ known.
          ap (λ (l : List Sector). overlaid l (images_in c.next.new.self)) (ap as_read (c.in_ok-write.ensures.written known) ∙ as_read_put home sector cells)
          ∙ sym (overlaid-cons (as_read cells) (record { home = home; sector = sector }) (images_in c.next.new.self))
          ∙ ap (λ (l : List (ℕ × Sector)). overlaid (as_read cells) (images_in l)) (sym split)
          ∙ inv.reads known;
      left = λ known one image is.
          put_more c.args.self.now base cells home sector (inv.left known one) left.0 image
          (subst (λ (cs : List Cell). IsImage cs image) (c.in_ok-write.ensures.written known) is);
      time = λ known one.
          Elapses-more (d.moment c.args.disk.now) (d.moment c.loop-home.disk) (d.moment c.write.new.self)
          (d.left_since c.args.disk.now) (d.left_since c.loop-home.disk) (d.left_since c.write.new.self)
          (IsPartlyPut c.args.self.now base) (IsImage (written home (sector ∷ []) cells))
          (inv.time known one) (c.write.ensures.time known) (put_more c.args.self.now base cells home sector (inv.left known one) left.0);
    }

pub returns-in_err-write-clause-left : goal.returns-in_err-write-clause-left
returns-in_err-write-clause-left g c known one image is =
    let d = g.D.Disk in
    let inv = c.loop-home.invariant in
    let base = as_read (d.cells c.args.disk.now) in
    let home = c.in-Some.home.now in
    let sector = c.in-Some.sector.now in
    let cells = d.cells c.loop-home.disk in
    let split : c.loop-home.home-iterator ≡ (home, sector) ∷ c.next.new.self =
    rest_more deref_pair c.loop-home.home-iterator c.next.new.self c.next.result (c.in-Some.home, c.in-Some.sector) c.in-Some.is c.next.ensures.steps in
    let left = subst (λ (l : List (ℕ × Sector)). AreLeft c.args.self.now (d.sector_count c.loop-home.disk) l) split inv.rest in
    put_more c.args.self.now base cells home sector (inv.left known one) left.0 image
    (IsImage-partly_written home (sector ∷ []) cells (d.cells c.write.new.self) image (c.in_err-write.ensures.failed known) is)

pub returns-in_err-write-clause-time : goal.returns-in_err-write-clause-time
returns-in_err-write-clause-time g c known one =
    let d = g.D.Disk in
    let inv = c.loop-home.invariant in
    let base = as_read (d.cells c.args.disk.now) in
    let home = c.in-Some.home.now in
    let sector = c.in-Some.sector.now in
    let cells = d.cells c.loop-home.disk in
    let split : c.loop-home.home-iterator ≡ (home, sector) ∷ c.next.new.self =
    rest_more deref_pair c.loop-home.home-iterator c.next.new.self c.next.result (c.in-Some.home, c.in-Some.sector) c.in-Some.is c.next.ensures.steps in
    let left = subst (λ (l : List (ℕ × Sector)). AreLeft c.args.self.now (d.sector_count c.loop-home.disk) l) split inv.rest in
    Elapses-more (d.moment c.args.disk.now) (d.moment c.loop-home.disk) (d.moment c.write.new.self)
    (d.left_since c.args.disk.now) (d.left_since c.loop-home.disk) (d.left_since c.write.new.self)
    (IsPartlyPut c.args.self.now base) (IsImage (written home (sector ∷ []) cells))
    (inv.time known one) (c.write.ensures.time known) (put_more c.args.self.now base cells home sector (inv.left known one) left.0)

pub returns-in_err-write-clause-writes : goal.returns-in_err-write-clause-writes
returns-in_err-write-clause-writes g c =
    let d = g.D.Disk in
    let armed = c.loop-home.invariant.armed in
    let split : c.loop-home.home-iterator ≡ (c.in-Some.home.now, c.in-Some.sector.now) ∷ c.next.new.self =
    rest_more deref_pair c.loop-home.home-iterator c.next.new.self c.next.result (c.in-Some.home, c.in-Some.sector) c.in-Some.is c.next.ensures.steps in
    record {
      made = armed.0 + 1;
      few = omega (arith, ap length split, armed.1);
      leaves = one_more_write armed.0 (d.arming c.args.disk.now) (d.arming c.loop-home.disk) (d.arming c.write.new.self) armed.2 c.write.ensures.arming;
      all = search rules;
    }

pub returns-clause-writes : goal.returns-clause-writes
returns-clause-writes g c =
    let armed = c.loop-home.invariant.armed in
    let none : c.loop-home.home-iterator ≡ [] =
    rest_all deref_pair c.loop-home.home-iterator c.next.new.self c.next.result c.in-None.is c.next.ensures.steps in
    let count : armed.0 ≡ length c.args.self.now = omega (arith, ap length none, armed.1) in
    record { made = armed.0; few = omega (arith, count); leaves = armed.2; all = count }

pub returns-clause-reads : goal.returns-clause-reads
returns-clause-reads g c known =
    let d = g.D.Disk in
    let none : c.loop-home.home-iterator ≡ [] =
    rest_all deref_pair c.loop-home.home-iterator c.next.new.self c.next.result c.in-None.is c.next.ensures.steps in
    sym (overlaid-nil (as_read (d.cells c.loop-home.disk)))
    ∙ ap (λ (l : List (ℕ × Sector)). overlaid (as_read (d.cells c.loop-home.disk)) (images_in l)) (sym none)
    ∙ c.loop-home.invariant.reads known
