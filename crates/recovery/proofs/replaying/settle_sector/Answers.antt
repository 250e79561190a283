use Rattle.std.proofs.Common.{◌∷◌, [], List, ap, sym, subst, ◌∙◌}
use Rattle.life_bytes.specs.declared.sector.Sector.{Sector}
use Rattle.disk_model.specs.Disk.{Cell, HasOneImage, IsImage, as_read, written}
use Rattle.disk_model.specs.DiskLaws.{Elapses-more, Elapses-none, HasOneImage-flushed, IsImage-before_flush, IsImage-partly_written, as_read-flushed}
use Rattle.recovery.specs.Replay.{IsEither}
use Rattle.recovery.proofs.Puts.{as_read_put}
use Rattle.recovery.proofs.Recovering.{either_image}
use Rattle.recovery.proofs.replaying.settle_sector.Goals as goal

pub returns-in_default-clause-left : goal.returns-in_default-clause-left
returns-in_default-clause-left g c known one image is =
    let cells = g.D.Disk.cells c.args.disk.now in
    either_image c.args.at c.args.sector.now cells one image
    (IsImage-partly_written c.args.at (c.args.sector.now ∷ []) cells (g.D.Disk.cells c.write.new.self) image (c.in_default.ensures.failed known) is)

pub returns-in_default-clause-time : goal.returns-in_default-clause-time
returns-in_default-clause-time g c known one =
    let d = g.D.Disk in
    let old = c.args.disk.now in
    let P : List Sector → Type 0 = IsEither (as_read (d.cells old)) c.args.at c.args.sector.now in
    Elapses-more (d.moment old) (d.moment old) (d.moment c.write.new.self) (d.left_since old) (d.left_since old) (d.left_since c.write.new.self)
    P (IsImage (written c.args.at (c.args.sector.now ∷ []) (d.cells old)))
    (Elapses-none (d.moment old) (d.left_since old) P) (c.write.ensures.time known) (either_image c.args.at c.args.sector.now (d.cells old) one)

pub returns-in_default-flush-clause-left : goal.returns-in_default-flush-clause-left
returns-in_default-flush-clause-left g c known one image is =
    let cells = g.D.Disk.cells c.args.disk.now in
    either_image c.args.at c.args.sector.now cells one image
    (subst (λ (cs : List Cell). IsImage cs image) (c.in_default-flush.ensures.failed ∙ c.in-Ok.ensures.written known) is)

pub returns-in_default-flush-clause-time : goal.returns-in_default-flush-clause-time
returns-in_default-flush-clause-time g c known one =
    let d = g.D.Disk in
    let old = c.args.disk.now in
    let P : List Sector → Type 0 = IsEither (as_read (d.cells old)) c.args.at c.args.sector.now in
    let W : List Sector → Type 0 = IsImage (written c.args.at (c.args.sector.now ∷ []) (d.cells old)) in
    let first = Elapses-more (d.moment old) (d.moment old) (d.moment c.write.new.self) (d.left_since old) (d.left_since old) (d.left_since c.write.new.self)
    P W (Elapses-none (d.moment old) (d.left_since old) P) (c.write.ensures.time known) (either_image c.args.at c.args.sector.now (d.cells old) one) in
    Elapses-more (d.moment old) (d.moment c.write.new.self) (d.moment c.flush.new.self) (d.left_since old) (d.left_since c.write.new.self) (d.left_since c.flush.new.self)
    P (IsImage (d.cells c.write.new.self)) first (c.flush.ensures.time known)
    (λ image is. either_image c.args.at c.args.sector.now (d.cells old) one image (subst (λ (cs : List Cell). IsImage cs image) (c.in-Ok.ensures.written known) is))

pub returns-clause-reads : goal.returns-clause-reads
returns-clause-reads g c known =
    ap as_read (c.in-Ok-flush.ensures.flushed known) ∙ as_read-flushed (g.D.Disk.cells c.write.new.self)
    ∙ ap as_read (c.in-Ok.ensures.written known) ∙ as_read_put c.args.at c.args.sector.now (g.D.Disk.cells c.args.disk.now)

pub returns-clause-one : goal.returns-clause-one
returns-clause-one g c known =
    subst HasOneImage (sym (c.in-Ok-flush.ensures.flushed known)) (HasOneImage-flushed (g.D.Disk.cells c.write.new.self))

pub returns-clause-left : goal.returns-clause-left
returns-clause-left g c known one image is =
    let d = g.D.Disk in
    let before = IsImage-before_flush (d.cells c.write.new.self) image (subst (λ (cs : List Cell). IsImage cs image) (c.in-Ok-flush.ensures.flushed known) is) in
    either_image c.args.at c.args.sector.now (d.cells c.args.disk.now) one image (subst (λ (cs : List Cell). IsImage cs image) (c.in-Ok.ensures.written known) before)

pub returns-clause-time : goal.returns-clause-time
returns-clause-time g c known one =
    let d = g.D.Disk in
    let old = c.args.disk.now in
    let P : List Sector → Type 0 = IsEither (as_read (d.cells old)) c.args.at c.args.sector.now in
    let W : List Sector → Type 0 = IsImage (written c.args.at (c.args.sector.now ∷ []) (d.cells old)) in
    let first = Elapses-more (d.moment old) (d.moment old) (d.moment c.write.new.self) (d.left_since old) (d.left_since old) (d.left_since c.write.new.self)
    P W (Elapses-none (d.moment old) (d.left_since old) P) (c.write.ensures.time known) (either_image c.args.at c.args.sector.now (d.cells old) one) in
    Elapses-more (d.moment old) (d.moment c.write.new.self) (d.moment c.flush.new.self) (d.left_since old) (d.left_since c.write.new.self) (d.left_since c.flush.new.self)
    P (IsImage (d.cells c.write.new.self)) first (c.flush.ensures.time known)
    (λ image is. either_image c.args.at c.args.sector.now (d.cells old) one image (subst (λ (cs : List Cell). IsImage cs image) (c.in-Ok.ensures.written known) is))
