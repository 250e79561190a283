-- What the answers of a run have told so far, and what they tell once it is over.
use Rattle.std.proofs.Common.{◌≡◌, ◌≤◌, ℕ, List, [], ◌∷◌, ◌++◌, sym, subst, arith}
use Rattle.std.specs.Prelude.{IsTrue}
use Rattle.life_ports.specs.Faults.{Rose}
use Rattle.life_table.specs.declared.types.MountRecord.{MountRecord}
use Rattle.script.specs.declared.answers.Said.{Said}
use Rattle.run_faults.specs.Log.{LogKnown, MaySay, known_behind, no_mount}
use Rattle.run_faults.specs.News.{news_of}
use Rattle.run_faults.specs.Progress.{HasTold, RecordsGrow}
use Rattle.run_faults.specs.Told.{is_fault}
use Rattle.script_runs.specs.Faults.{LogIs, TellsOfLog}
use Rattle.script_runs.specs.Running.{disk_of_device, disk_of_run, records_with}
use Rattle.script_runs.specs.declared.running.Comes.TheVariants.{Answered, Unanswered}
use Rattle.script_runs.specs.declared.running.Device.{Device}
use Rattle.script_runs.specs.declared.running.Device.TheVariants as device
use Rattle.script_runs.specs.declared.running.Run.{Run}

-- What the answers have told is so of the run as it stands.
pub record TellsSoFar {D : Type 0} (fault_count : D → ℕ) (old : D) (said : List Said) (run : Run D) : Type 0 where
  pub log : LogKnown
  pub told : HasTold (records_with run.past.items run.device) said log (fault_count old) (fault_count (disk_of_run run))
  pub log_is : LogIs log run.device

abbrev pub BeginsLaw : Type 0
BeginsLaw = (count : ℕ) → HasTold [] [] no_mount count count

abbrev pub GrowsLaw : Type 0
GrowsLaw = (old new : List MountRecord) (said : List Said) (known : LogKnown) (before now later : ℕ) → HasTold old said known before now → RecordsGrow old new → now ≤ later
    → HasTold new said known before later

abbrev pub GoesOnLaw : Type 0
GoesOnLaw = (mounts : List MountRecord) (said : List Said) (one : Said) (known : LogKnown) (before now later : ℕ) → HasTold mounts said known before now → MaySay known (news_of mounts one)
    → (IsTrue (is_fault (news_of mounts one)) → Rose now later) → now ≤ later → HasTold mounts (said ++ one ∷ []) (known_behind known (news_of mounts one)) before later

-- before the first line
pub begins_told : {D : Type 0} (fault_count : D → ℕ) (old : D) (said : List Said) (run : Run D) → BeginsLaw → said ≡ [] → run.past.items ≡ [] → run.device ≡ device.Idle old
    → TellsSoFar fault_count old said run
begins_told {D = D} fault_count old said run law none items idle = record {
  log = no_mount;
  told = subst (λ (d : Device D). HasTold (records_with run.past.items d) said no_mount (fault_count old) (fault_count (disk_of_device d))) (sym idle)
      (subst (λ (l : List MountRecord). HasTold l said no_mount (fault_count old) (fault_count old)) (sym items)
      (subst (λ (l : List Said). HasTold [] l no_mount (fault_count old) (fault_count old)) (sym none) (law (fault_count old))));
  log_is = subst (LogIs no_mount) (sym idle) tt;
}

-- one line more
pub goes_on_told : {D : Type 0} (fault_count : D → ℕ) (old : D) (said : List Said) (one : Said) (run next : Run D) → GrowsLaw → GoesOnLaw → TellsSoFar fault_count old said run
    → TellsOfLog fault_count run.past.items run.device (Answered next one) → fault_count (disk_of_run run) ≤ fault_count (disk_of_run next)
    → TellsSoFar fault_count old (said ++ one ∷ []) next
goes_on_told fault_count old said one run next grows goes_on so tells low =
    let mounts : List MountRecord = records_with next.past.items next.device in
    let now : ℕ = fault_count (disk_of_run run) in
    record {
      log = known_behind so.log (news_of mounts one);
      told = goes_on mounts said one so.log (fault_count old) now (fault_count (disk_of_run next))
          (grows (records_with run.past.items run.device) mounts said so.log (fault_count old) now now so.told tells.0 (omega arith))
          (tells.1.may so.log so.log_is) tells.1.fault low;
      log_is = tells.1.behind so.log so.log_is;
    }

-- ---- the end

-- what was handed back tells the same
pub over_told : {D : Type 0} (fault_count : D → ℕ) (old : D) (known : LogKnown) (said said_is : List Said) (mounts mounts_are : List MountRecord) (disk disk_is : D)
    → HasTold mounts said known (fault_count old) (fault_count disk) → said_is ≡ said → mounts_are ≡ mounts → disk_is ≡ disk
    → HasTold mounts_are said_is known (fault_count old) (fault_count disk_is)
over_told {D = D} fault_count old known said said_is mounts mounts_are disk disk_is told same_said same_mounts same_disk =
    subst (λ (d : D). HasTold mounts_are said_is known (fault_count old) (fault_count d)) (sym same_disk)
    (subst (λ (l : List MountRecord). HasTold l said_is known (fault_count old) (fault_count disk)) (sym same_mounts)
    (subst (λ (l : List Said). HasTold mounts l known (fault_count old) (fault_count disk)) (sym same_said) told))

-- the last line was broken off
pub broken_told : {D : Type 0} (fault_count : D → ℕ) (old : D) (said : List Said) (run broken : Run D) → GrowsLaw → (so : TellsSoFar fault_count old said run)
    → TellsOfLog fault_count run.past.items run.device (Unanswered broken) → fault_count (disk_of_run run) ≤ fault_count (disk_of_run broken)
    → HasTold (records_with broken.past.items broken.device) said so.log (fault_count old) (fault_count (disk_of_run broken))
broken_told fault_count old said run broken grows so tells low =
    grows (records_with run.past.items run.device) (records_with broken.past.items broken.device) said so.log (fault_count old) (fault_count (disk_of_run run)) (fault_count (disk_of_run broken))
    so.told tells low
