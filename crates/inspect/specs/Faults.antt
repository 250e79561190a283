-- What a fault of an inspection says of the image, and how the faults of its parts are handed on.
use Rattle.std.specs.Prelude.{List}
use Rattle.life_bytes.specs.declared.sector.Sector.{Sector}
use Rattle.geometry.specs.declared.shape.Damaged as geometry_damage
use Rattle.recovery.specs.declared.fault.ScanFault.{ScanFault}
use Rattle.recovery.specs.declared.fault.ScanFault.TheVariants as scan
use Rattle.image_rules.specs.declared.fault.CheckFault.{CheckFault}
use Rattle.image_rules.specs.declared.fault.CheckFault.TheVariants as check
use Rattle.whole_image.specs.Damage.{IsFirstDamage}
use Rattle.inspect.specs.declared.fault.InspectFault.{InspectFault}
use Rattle.inspect.specs.declared.fault.InspectFault.TheVariants.{Damaged, ReadFault, NoMemory}

-- damage is the first of the image; other faults say nothing of it
abbrev pub NamesFirstDamage : List Sector → InspectFault → Type 0
NamesFirstDamage image (Damaged rule sector) = IsFirstDamage image (record { rule = rule; sector = sector })
NamesFirstDamage image ReadFault = Unit {0}
NamesFirstDamage image NoMemory = Unit {0}

-- the damage of a superblock
abbrev pub of_superblock : geometry_damage.Damaged → InspectFault
of_superblock damage = Damaged damage.rule damage.sector

-- a fault of a scan of the log
abbrev pub of_scan : ScanFault → InspectFault
of_scan (scan.Damaged rule sector) = Damaged rule sector
of_scan scan.ReadFault = ReadFault
of_scan scan.NoMemory = NoMemory

-- a fault of a check of the groups
abbrev pub of_check : CheckFault → InspectFault
of_check (check.Damaged rule sector) = Damaged rule sector
of_check check.ReadFault = ReadFault
of_check check.NoMemory = NoMemory
