-- What is found of the parts of an image, as what is found of the whole.
use Rattle.std.proofs.Common.{◌≡◌, ℕ, List, sym, subst}
use Rattle.life_bytes.specs.declared.sector.Sector.{Sector}
use Rattle.geometry.specs.declared.shape.Geometry.{Geometry}
use Rattle.geometry.specs.Places.{anchor_of}
use Rattle.sound_image.specs.Damage.{Rule, AreGroupsSound, FirstGroupsDamage}
use Rattle.sound_image.specs.Reading.{rows_of}
use Rattle.sound_image.specs.Superblocks.{HasSuperblock, IsLongEnough}
use Rattle.log_image.specs.Damage.{IsLogDamage}
use Rattle.log_image.specs.Log.{Log}
use Rattle.image_rules.specs.Counted.{HasTables}
use Rattle.image_rules.specs.Faults.{IsDamage}
use Rattle.image_rules.specs.declared.fault.CheckFault.{CheckFault}
use Rattle.image_rules.specs.declared.fault.CheckFault.TheVariants as check
use Rattle.image_rules.specs.declared.tables.Tables.{Tables}
use Rattle.recovery.specs.declared.fault.ScanFault.{ScanFault}
use Rattle.recovery.specs.declared.fault.ScanFault.TheVariants as scan
use Rattle.recovery.specs.declared.found.Found.{Found}
use Rattle.recovery.specs.Found.{LogIsFound}
use Rattle.recovery.specs.Replay.{groups_found}
use Rattle.recovery.specs.Scan.{NamesLogDamage}
use Rattle.whole_image.specs.Damage.{ImageRule, of_groups, image_rule_number, FirstDamage, HasFrontAndLog, groups_of}
use Rattle.whole_image.specs.Represents.{Represents}
use Rattle.inspect.specs.Faults.{NamesFirstDamage, of_check, of_scan}
use Rattle.inspect.specs.Inspected.{IsSoundWith}

-- the laws of whole images that are used
pub record WholeLaws : Type 0 where
  pub of_log : (g : Geometry) (image : List Sector) (rule s : ℕ) → HasSuperblock g image → IsLongEnough g image → IsLogDamage image (anchor_of g) g.ring rule s
      → (known : ImageRule) × (rule ≡ image_rule_number known) × FirstDamage image known s
  pub of_groups : (g : Geometry) (image : List Sector) (said : Log) (rule : Rule) (s : ℕ) → HasFrontAndLog g image said
      → FirstGroupsDamage g (groups_of g image said) rule s → FirstDamage image (of_groups rule) s
  pub made : (g : Geometry) (image : List Sector) (said : Log) → HasFrontAndLog g image said → AreGroupsSound g (groups_of g image said)
      → Represents image (rows_of g (groups_of g image said)) said.next

pub first_of_log : WholeLaws → (g : Geometry) (image : List Sector) (fault : ScanFault) → HasSuperblock g image → IsLongEnough g image
    → NamesLogDamage image (anchor_of g) g.ring fault → NamesFirstDamage image (of_scan fault)
first_of_log laws g image (scan.Damaged rule sector) has enough breaks = laws.of_log g image rule sector has enough breaks
first_of_log laws g image scan.ReadFault has enough breaks = tt
first_of_log laws g image scan.NoMemory has enough breaks = tt

front_and_log : (g : Geometry) (image : List Sector) (found : Found) → HasSuperblock g image → (log : LogIsFound image (anchor_of g) g.ring found) → HasFrontAndLog g image log.log
front_and_log g image found has log = record { superblock = has; log = log.says }

pub first_of_groups : WholeLaws → (g : Geometry) (image : List Sector) (found : Found) (fault : CheckFault) → HasSuperblock g image → LogIsFound image (anchor_of g) g.ring found
    → IsDamage g (groups_found (anchor_of g) image found) fault → NamesFirstDamage image (of_check fault)
first_of_groups laws g image found (check.Damaged number s) has log damage = (
  of_groups damage.0,
  sym damage.1,
  laws.of_groups g image log.log damage.0 s (front_and_log g image found has log)
      (subst (λ (groups : List Sector). FirstGroupsDamage g groups damage.0 s) log.groups damage.2),
)
first_of_groups laws g image found check.ReadFault has log damage = tt
first_of_groups laws g image found check.NoMemory has log damage = tt

pub sound_with : WholeLaws → (g : Geometry) (image : List Sector) (found : Found) (tables : Tables) → HasSuperblock g image → LogIsFound image (anchor_of g) g.ring found
    → AreGroupsSound g (groups_found (anchor_of g) image found) → HasTables g (groups_found (anchor_of g) image found) tables
    → IsSoundWith image g tables found.next_commit
sound_with laws g image found tables has log sound counted =
    let said : Log = log.log in
    let there = front_and_log g image found has log in
    let holds : AreGroupsSound g (groups_of g image said) = subst (AreGroupsSound g) log.groups sound in
    let numbers : HasTables g (groups_of g image said) tables = subst (λ (groups : List Sector). HasTables g groups tables) log.groups counted in
    record {
      superblock = has;
      table = rows_of g (groups_of g image said);
      represents = subst (λ (next : ℕ). Represents image (rows_of g (groups_of g image said)) next) (sym log.found_is.next) (laws.made g image said there holds);
      chunks = numbers.chunks;
      inodes = numbers.inodes;
      orphans = numbers.orphans;
    }
