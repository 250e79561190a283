use Rattle.std.proofs.Common.{◌≡◌, ◌∙◌, List, length, ap, subst, arith}
use Rattle.geometry.specs.Places.{anchor_of}
use Rattle.life_bytes.specs.declared.sector.Sector.{Sector}
use Rattle.disk_model.specs.Disk.{Cell, as_read}
use Rattle.disk_model.specs.DiskLaws.{length-as_read}
use Rattle.sound_image.specs.Damage.{AreGroupsSound}
use Rattle.sound_image.specs.Superblocks.{IsLongEnough}
use Rattle.image_rules.specs.Counted.{HasTables}
use Rattle.image_rules.specs.Faults.{IsDamage}
use Rattle.recovery.specs.Found.{LogIsFound}
use Rattle.recovery.specs.Replay.{groups_found}
use Rattle.recovery.specs.Scan.{NamesLogDamage}
use Rattle.inspect.specs.Faults.{NamesFirstDamage, of_check, of_scan}
use Rattle.inspect.proofs.Results.{passed_up}
use Rattle.inspect.proofs.Wholes.{WholeLaws, first_of_groups, first_of_log, sound_with}
use Rattle.inspect.proofs.whole.inspect_with_log.Goals as goal

pub returns-in_err-log-clause-first_damage : goal.returns-in_err-log-clause-first_damage
returns-in_err-log-clause-first_damage g c known =
    let laws : WholeLaws = record { of_log = c.one_first_damage.ensures.of_log; of_groups = c.one_first_damage.ensures.of_groups; made = c.sound_images_represent_a_table.ensures.made } in
    let d = g.D.Disk in
    let geometry = c.in_ok-geometry.geometry in
    let image : List Sector = as_read (d.cells c.args.disk.now) in
    let size_is : length image ≡ d.sector_count c.args.disk.now = length-as_read (d.cells c.args.disk.now) ∙ g.met.D.Disk.cells_fit known c.args.disk.now in
    let enough : IsLongEnough geometry image = omega (arith, c.in_ok-geometry.ensures.size) in
    let breaks : NamesLogDamage image (anchor_of geometry) geometry.ring c.in_err-log.field-0.0 =
    subst (λ (cells : List Cell). NamesLogDamage (as_read cells) (anchor_of geometry) geometry.ring c.in_err-log.field-0.0)
    c.read_geometry.ensures.only_reads.cells_stay (c.in_err-log.ensures.damaged known) in
    passed_up c.from_residual-in_err-log.result (of_scan c.in_err-log.field-0.0) (NamesFirstDamage image) c.from_residual-in_err-log.ensures.1
    (first_of_log laws geometry image c.in_err-log.field-0.0 (c.in_ok-geometry.ensures.superblock known) enough breaks)

pub returns-in_err-tables-clause-first_damage : goal.returns-in_err-tables-clause-first_damage
returns-in_err-tables-clause-first_damage g c known =
    let laws : WholeLaws = record { of_log = c.one_first_damage.ensures.of_log; of_groups = c.one_first_damage.ensures.of_groups; made = c.sound_images_represent_a_table.ensures.made } in
    let d = g.D.Disk in
    let geometry = c.in_ok-geometry.geometry in
    let image : List Sector = as_read (d.cells c.args.disk.now) in
    let first = c.read_geometry.ensures.only_reads.cells_stay in
    let both = c.scan.ensures.only_reads.cells_stay ∙ first in
    let log : LogIsFound image (anchor_of geometry) geometry.ring c.in_ok-log.log =
    subst (λ (cells : List Cell). LogIsFound (as_read cells) (anchor_of geometry) geometry.ring c.in_ok-log.log) first (c.in_ok-log.ensures.found known) in
    let damage : IsDamage geometry (groups_found (anchor_of geometry) image c.in_ok-log.log) c.in_err-tables.field-0.0 =
    subst (λ (cells : List Cell). IsDamage geometry (groups_found (anchor_of geometry) (as_read cells) c.in_ok-log.log) c.in_err-tables.field-0.0)
    both (c.in_err-tables.ensures.damaged known) in
    passed_up c.from_residual-in_err-tables.result (of_check c.in_err-tables.field-0.0) (NamesFirstDamage image) c.from_residual-in_err-tables.ensures.1
    (first_of_groups laws geometry image c.in_ok-log.log c.in_err-tables.field-0.0 (c.in_ok-geometry.ensures.superblock known) log damage)

pub returns-clause-sound : goal.returns-clause-sound
returns-clause-sound g c known =
    let laws : WholeLaws = record { of_log = c.one_first_damage.ensures.of_log; of_groups = c.one_first_damage.ensures.of_groups; made = c.sound_images_represent_a_table.ensures.made } in
    let d = g.D.Disk in
    let geometry = c.in_ok-geometry.geometry in
    let image : List Sector = as_read (d.cells c.args.disk.now) in
    let first = c.read_geometry.ensures.only_reads.cells_stay in
    let both = c.scan.ensures.only_reads.cells_stay ∙ first in
    let log : LogIsFound image (anchor_of geometry) geometry.ring c.in_ok-log.log =
    subst (λ (cells : List Cell). LogIsFound (as_read cells) (anchor_of geometry) geometry.ring c.in_ok-log.log) first (c.in_ok-log.ensures.found known) in
    let sound : AreGroupsSound geometry (groups_found (anchor_of geometry) image c.in_ok-log.log) =
    subst (λ (cells : List Cell). AreGroupsSound geometry (groups_found (anchor_of geometry) (as_read cells) c.in_ok-log.log)) both (c.in_ok-tables.ensures.sound known) in
    let counted : HasTables geometry (groups_found (anchor_of geometry) image c.in_ok-log.log) c.in_ok-tables.tables =
    subst (λ (cells : List Cell). HasTables geometry (groups_found (anchor_of geometry) (as_read cells) c.in_ok-log.log) c.in_ok-tables.tables) both (c.in_ok-tables.ensures.counted known) in
    sound_with laws geometry image c.in_ok-log.log c.in_ok-tables.tables (c.in_ok-geometry.ensures.superblock known) log sound counted
