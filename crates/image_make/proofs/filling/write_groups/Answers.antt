use Rattle.std.proofs.Common.{◌≡◌, ◌+◌, ◌*◌, ◌∙◌, ℕ, List, sym, ap, subst, arith}
use Rattle.life_bytes.specs.declared.sector.Sector.{Sector}
use Rattle.disk_model.specs.Disk.{as_read}
use Rattle.image_make.specs.Empty.{AreMade}
use Rattle.image_make.specs.Outcome.{IsBlank}
use Rattle.image_make.proofs.Leaving.{leaves_both}
use Rattle.image_make.proofs.Putting.{with_at}
use Rattle.image_make.proofs.Sectors.{made_more}
use Rattle.image_make.proofs.filling.write_groups.Goals as goal

pub returns-in_err-write_behind-clause-leaves : goal.returns-in_err-write_behind-clause-leaves
returns-in_err-write_behind-clause-leaves g c =
    leaves_both g.D.Disk.known g.D.Disk.cells g.D.Disk.sector_count g.D.Disk.moment g.D.Disk.arming g.D.Disk.left_since IsBlank c.args.disk.now c.loop-group.disk c.write_behind.new.disk
    c.loop-group.invariant.leaves c.write_behind.ensures.leaves

pub loop-group-preserved : goal.loop-group-preserved
loop-group-preserved g c = record {
  leaves = leaves_both g.D.Disk.known g.D.Disk.cells g.D.Disk.sector_count g.D.Disk.moment g.D.Disk.arming g.D.Disk.left_since IsBlank c.args.disk.now c.loop-group.disk c.write_behind.new.disk
      c.loop-group.invariant.leaves c.write_behind.ensures.leaves;
  made = λ tells.
      let image : List Sector = as_read (g.D.Disk.cells c.loop-group.disk) in
      let head : List Sector = c.empty_head.result in
      let is : as_read (g.D.Disk.cells c.write_behind.new.disk) ≡ with_at (c.loop-group.group * (c.args.g.now.blocks * 8) + 2) head image =
      c.in_ok-write_behind.ensures.read tells ∙ ap (λ (at : ℕ). with_at at head image) c.from.ensures in
      subst (λ (l : List Sector). AreMade c.args.g.now (c.loop-group.group + 1) l) (sym is)
      (made_more c.args.g.now c.loop-group.group head image c.requires.shape c.loop-group-test.true (c.loop-group.invariant.made tells) c.empty_head.ensures.many c.empty_head.ensures.each);
  count = omega (arith, c.loop-group.invariant.count, c.write_behind.ensures.cause.never_falls);
  kind = λ kind. g.met.D.Disk.both_failed kind c.args.disk.now c.loop-group.disk c.write_behind.new.disk (c.loop-group.invariant.kind kind) (c.in_ok-write_behind.ensures.kind kind);
}
