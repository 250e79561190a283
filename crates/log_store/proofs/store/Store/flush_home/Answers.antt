use Rattle.std.proofs.Common.{◌≡◌, List, sym, ap, subst}
use Rattle.std.specs.Prelude.{IsTrue}
use Rattle.life_bytes.specs.declared.sector.Sector.{Sector}
use Rattle.disk_model.specs.Disk.{Cell, IsImage}
use Rattle.log_store.specs.declared.store.Store.{Store}
use Rattle.log_store.specs.declared.store.Job.TheVariants.{Idle}
use Rattle.log_store.specs.OnDisk.{ReplaysTo, base_of}
use Rattle.log_store.specs.State.{State, state_of}
use Rattle.log_store.specs.Steps.{Goes}
use Rattle.log_store.proofs.Base.{rest_replays}
use Rattle.log_store.proofs.Falls.{falls}
use Rattle.log_store.proofs.Going.{leaves}
use Rattle.log_store.proofs.Lands.{lands_home}
use Rattle.log_store.proofs.Sound.{rest_of}
use Rattle.log_store.proofs.store.Store.flush_home.Goals as goal

pub returns-in-Err-clause-goes : goal.returns-in-Err-clause-goes
returns-in-Err-clause-goes g c =
    let old = c.args.self.now in
    let s : State = state_of old in
    let cells = g.D.Disk.cells old.disk in
    let disk = c.flush.new.self in
    let same : g.D.Disk.cells disk ≡ cells = c.in-Err.ensures.failed in
    let all : IsTrue g.D.Disk.known → (image : List Sector) → IsImage cells image → ReplaysTo s cells image =
    λ tells image is. rest_replays s cells image (rest_of old.stage s cells c.requires.stage (c.requires.store.holds tells)) is in
    subst (λ (x : Store g.row.D.Denot). Goes g.D.Disk.known g.D.Disk.cells g.D.Disk.sector_count g.D.Disk.moment g.D.Disk.left_since old x) (sym c.go_down.ensures)
    (falls g.D.Disk.known g.D.Disk.cells g.D.Disk.sector_count g.D.Disk.moment g.D.Disk.left_since old disk old.sectors _ c.requires.store c.in-Err.ensures.sectors c.requires.store.sound.buffer
    (λ tells. ap (base_of s) same)
    (λ tells image is. all tells image (subst (λ (cs : List Cell). IsImage cs image) same is))
    (λ tells. leaves _ _ _ _ cells (ReplaysTo s cells) (c.in-Err.ensures.time tells) (all tells)))

pub returns-then-eq-clause-goes : goal.returns-then-eq-clause-goes
returns-then-eq-clause-goes g c =
    let old = c.args.self.now in
    let s : State = state_of old in
    let cells = g.D.Disk.cells old.disk in
    lands_home g.D.Disk.known g.D.Disk.cells g.D.Disk.sector_count g.D.Disk.moment g.D.Disk.left_since old c.flush.new.self Idle c.requires.store tt c.requires.stage
    c.in-Ok.ensures.sectors c.in-Ok.ensures.flushed c.homes.ensures.flushed
    (λ tells. leaves _ _ _ _ cells (ReplaysTo s cells) (c.in-Ok.ensures.time tells)
    (λ image is. rest_replays s cells image (rest_of old.stage s cells c.requires.stage (c.requires.store.holds tells)) is))

pub returns-else-eq-clause-goes : goal.returns-else-eq-clause-goes
returns-else-eq-clause-goes g c =
    let old = c.args.self.now in
    let s : State = state_of old in
    let cells = g.D.Disk.cells old.disk in
    lands_home g.D.Disk.known g.D.Disk.cells g.D.Disk.sector_count g.D.Disk.moment g.D.Disk.left_since old c.flush.new.self old.job c.requires.store c.requires.store.sound.asks c.requires.stage
    c.in-Ok.ensures.sectors c.in-Ok.ensures.flushed c.homes.ensures.flushed
    (λ tells. leaves _ _ _ _ cells (ReplaysTo s cells) (c.in-Ok.ensures.time tells)
    (λ image is. rest_replays s cells image (rest_of old.stage s cells c.requires.stage (c.requires.store.holds tells)) is))
