use Rattle.std.proofs.Common.{◌≡◌, ◌∙◌, ◌∷◌, [], ℕ, List, sym, ap, subst}
use Rattle.geometry.specs.Places.{anchor_of}
use Rattle.life_bytes.specs.declared.sector.Sector.{Sector}
use Rattle.disk_model.specs.Disk.{as_read}
use Rattle.disk_model.specs.Disk.CallKind.{WriteCall}
use Rattle.log_image.specs.Anchor.{anchor_sector}
use Rattle.image_make.specs.Empty.{AwaitsSuperblock}
use Rattle.image_make.specs.Outcome.{IsBlank}
use Rattle.image_make.proofs.Leaving.{fails_from, leaves_both}
use Rattle.image_make.proofs.Putting.{with_at}
use Rattle.image_make.proofs.Sectors.{on_ok, awaits_from}
use Rattle.image_make.proofs.filling.write_without_superblock.Goals as goal

pub returns-clause-leaves : goal.returns-clause-leaves
returns-clause-leaves g c =
    leaves_both g.D.Disk.known g.D.Disk.cells g.D.Disk.sector_count g.D.Disk.moment g.D.Disk.arming g.D.Disk.left_since IsBlank c.args.disk.now c.write_groups.new.disk c.write_behind.new.disk
    c.write_groups.ensures.leaves c.write_behind.ensures.leaves

pub returns-clause-made : goal.returns-clause-made
returns-clause-made g c = λ tells.
    let image : List Sector = as_read (g.D.Disk.cells c.write_groups.new.disk) in
    let new : List Sector = as_read (g.D.Disk.cells c.write_behind.new.disk) in
    let sector : Sector = c.first_anchor.result in
    on_ok c.write_behind.result (new ≡ with_at c.from.result (sector ∷ []) image) (AwaitsSuperblock c.args.g.now new)
    (λ is.
    let there : new ≡ with_at (anchor_of c.args.g.now) (anchor_sector c.args.g.now.ring 1 ∷ []) image =
    is ∙ ap (λ (at : ℕ). with_at at (sector ∷ []) image) c.from.ensures ∙ ap (λ (s : Sector). with_at (anchor_of c.args.g.now) (s ∷ []) image) c.first_anchor.ensures in
    subst (AwaitsSuperblock c.args.g.now) (sym there) (awaits_from c.args.g.now image (c.in_ok-write_groups.ensures.made tells)))
    (c.write_behind.ensures.read tells)

pub returns-clause-kind : goal.returns-clause-kind
returns-clause-kind g c =
    fails_from WriteCall c.write_behind.result (λ kind. g.D.Disk.only_failed kind c.write_groups.new.disk c.write_behind.new.disk)
    (λ kind. g.D.Disk.only_failed kind c.args.disk.now c.write_behind.new.disk)
    (λ kind. g.met.D.Disk.both_failed kind c.args.disk.now c.write_groups.new.disk c.write_behind.new.disk (c.in_ok-write_groups.ensures.kind kind))
    c.write_behind.ensures.kind
