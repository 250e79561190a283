use Rattle.std.proofs.Common.{◌∙◌, Err, None, Some, ap}
use Rattle.script.specs.declared.status.Status.TheVariants as status
use Rattle.life_cli.specs.declared.checking.Numbers.{Numbers}
use Rattle.life_cli.specs.Checking.{fault_status}
use Rattle.life_cli.proofs.Checkings.{OneDamage, checked_fault, checked_sound, checked_told}
use Rattle.life_cli.proofs.checking.check_disk.Goals as goal

pub returns-in-Ok-clause-checked : goal.returns-in-Ok-clause-checked
returns-in-Ok-clause-checked g c =
    let law : OneDamage = record { one = c.one_first_damage.ensures.one; none = c.one_first_damage.ensures.none } in
    let found : Numbers = record { geometry = c.in-Ok.geometry; tables = c.in-Ok.tables } in
    let is = c.in-Ok.ensures in
    let now = c.inspect.new.disk in
    let told = c.ended_with.ensures in
    checked_told g.D.Disk.known g.D.Disk.cells g.D.Disk.fault_count (g.D.Disk.fault_count c.args.disk) c.ended_with.result.ended.disk now status.Good
    c.ended_with.result.ended.status (Some found) c.ended_with.result.found told.disk told.status told.found
    (checked_sound law g.D.Disk.known (g.D.Disk.cells c.args.disk) (g.D.Disk.cells now) (g.D.Disk.fault_count c.args.disk) (g.D.Disk.fault_count now) found
    c.inspect.ensures.only_reads.cells_stay is.sound is.shape)

pub returns-in-Err-clause-checked : goal.returns-in-Err-clause-checked
returns-in-Err-clause-checked g c =
    let law : OneDamage = record { one = c.one_first_damage.ensures.one; none = c.one_first_damage.ensures.none } in
    let it = c.in-Err.fault in
    let is = c.in-Err.ensures in
    let now = c.inspect.new.disk in
    let ended = c.ended_with-in-Err in
    let told = ended.ensures in
    checked_told g.D.Disk.known g.D.Disk.cells g.D.Disk.fault_count (g.D.Disk.fault_count c.args.disk) ended.result.ended.disk now (fault_status it)
    ended.result.ended.status None ended.result.found told.disk (told.status ∙ c.status_of.ensures) told.found
    (checked_fault law g.D.Disk.known (g.D.Disk.cells c.args.disk) (g.D.Disk.cells now) (g.D.Disk.fault_count c.args.disk) (g.D.Disk.fault_count now) it
    c.inspect.ensures.only_reads.cells_stay is.first_damage (λ e. is.read_fault (ap (λ f. Err f) e)))
