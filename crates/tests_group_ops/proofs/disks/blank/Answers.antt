use Rattle.std.proofs.Common.{◌≡◌, ◌∙◌, ℕ, length, replicate, sym, ap}
use Rattle.std.proofs.lemmas.List.{length-replicate}
use Rattle.life_bytes.specs.Sectors.{zero_sector}
use Rattle.disk_model.specs.Disk.{settled_as}
use Rattle.disk_model.specs.DiskLaws.{length-settled_as}
use Rattle.disk_model.specs.MemoryDisk.{DiskRecord, cells_of, fresh}
use Rattle.tests_group_ops.proofs.disks.blank.Goals as goal

long : (n : ℕ) (disk : DiskRecord) → disk ≡ fresh (replicate n zero_sector) → length (cells_of disk) ≡ n
long n disk is = ap (λ (d : DiskRecord). length (cells_of d)) is ∙ length-settled_as (replicate n zero_sector) ∙ length-replicate n zero_sector

blank : (n : ℕ) (disk : DiskRecord) → disk ≡ fresh (replicate n zero_sector) → cells_of disk ≡ settled_as (replicate (length (cells_of disk)) zero_sector)
blank n disk is = ap cells_of is ∙ ap (λ (m : ℕ). settled_as (replicate m zero_sector)) (sym (long n disk is))

pub returns-clause-sectors : goal.returns-clause-sectors
returns-clause-sectors c = long c.args.sectors c.in_ok-new.field-0 c.in_ok-new.ensures

pub returns-clause-blank : goal.returns-clause-blank
returns-clause-blank c = blank c.args.sectors c.in_ok-new.field-0 c.in_ok-new.ensures
