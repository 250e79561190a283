-- How a runner's state stands for the run as its definitions have it, and what each line owes.
use Rattle.std.specs.Prelude.{◌≡◌, ◌≤◌, ◌<◌, ◌+◌, ◌⊎◌, ◌++◌, ◌∷◌, ⊤, ℕ, Bool, true, false, IsTrue, List, [], Option, None, Some, is_some, map, length, vec_len, vec_capacity}
use Rattle.life_limits.specs.declared.TheConstants.{MAX_NUMBERS, MAX_SCRIPT_BYTES, MOUNT_LIMIT}
use Rattle.life_bytes.specs.declared.sector.Sector.{Sector}
use Rattle.disk_model.specs.Disk.{Arming, Cell, IsImage}
use Rattle.life_table.specs.declared.types.MountRecord.{MountRecord}
use Rattle.life_table.specs.declared.table.Table.{Table}
use Rattle.life_table.specs.History.{closed}
use Rattle.whole_image.specs.Damage.{IsFirstDamage, IsSound}
use Rattle.script.specs.declared.types.Command.{Command}
use Rattle.script.specs.declared.types.Command.TheVariants as command
use Rattle.script.specs.declared.answers.LineReply.TheVariants as line
use Rattle.script.specs.declared.answers.Said.{Said}
use Rattle.run_history.specs.Answers.{AnswersLine, BreaksOff, line_said}
use Rattle.run_history.specs.FirstImage.{TellsDamage}
use Rattle.run_history.specs.Mounts.{MountStory}
use Rattle.run_history.specs.States.{RunState, UpMount, mounts_of, table_now}
use Rattle.mounted_calls.specs.Running.{IsRunning}
use Rattle.run_mounts.specs.Safe.{StandsSafe}
use Rattle.script_names.specs.Bindings.{AreNames}
use Rattle.actor_holds.specs.Holds.{AreHolds, AreSteady}
use Rattle.script_runs.specs.declared.running.Comes.{Comes}
use Rattle.script_runs.specs.declared.running.Comes.TheVariants.{Answered, Unanswered}
use Rattle.script_runs.specs.declared.running.Device.{Device}
use Rattle.script_runs.specs.declared.running.Device.TheVariants as device
use Rattle.script_runs.specs.declared.running.Run.{Run}
use Rattle.script_runs.specs.declared.running.Up.{Up}

-- ---- the state

-- the disk, whether a mount is up or not
abbrev pub disk_of_device : {D : Type 0} → Device D → D
disk_of_device (device.Idle disk) = disk
disk_of_device (device.Mounted up) = up.mounted.store.disk

abbrev pub disk_of_run : {D : Type 0} → Run D → D
disk_of_run run = disk_of_device run.device

-- the records of mounts
abbrev pub records_of : List MountStory → List MountRecord
records_of mounts = map (λ (m : MountStory). m.story) mounts

-- A mount that is up: from a table of which nobody held an inode, with what is recorded of it, and who holds what. No call is going on, and the table can be told from the record.
pub record IsUpAs {D : Type 0} (known : Bool) (cells : D → List Cell) (sector_count : D → ℕ) (lines : ℕ) (m : UpMount) (up : Up D) : Type 0 where
  pub story : m.story ≡ up.mounted.story
  pub going : m.going ≡ []
  pub unheld : closed m.start ≡ m.start
  pub running : IsRunning known cells sector_count m.start (table_now m) up.mounted
  pub holds : AreHolds m.story.entries up.holds
  pub steady : AreSteady m.story.entries
  pub number : m.story.base < MOUNT_LIMIT
  pub few : length m.story.entries ≤ MAX_NUMBERS + lines

abbrev pub IsDeviceAs : {D : Type 0} → Bool → (D → List Cell) → (D → ℕ) → ℕ → Option UpMount → Device D → Type 0
IsDeviceAs known cells sector_count lines None (device.Idle disk) = ⊤
IsDeviceAs known cells sector_count lines None (device.Mounted up) = ⊥
IsDeviceAs known cells sector_count lines (Some m) (device.Idle disk) = ⊥
IsDeviceAs known cells sector_count lines (Some m) (device.Mounted up) = IsUpAs known cells sector_count lines m up

-- there is room for the record of a mount that is up
abbrev pub HasRoom : {D : Type 0} → Run D → Device D → Type 0
HasRoom run (device.Idle disk) = ⊤
HasRoom run (device.Mounted up) = vec_len run.past < vec_capacity run.past

-- A device between two lines: it has not stopped, and a stop is armed exactly where a line armed one that has not come.
pub record IsArmedAs (armed : Bool) (arming : Arming) : Type 0 where
  pub goes_on : arming.stopped ≡ false
  pub told : is_some arming.armed ≡ armed

-- The same behind writes, in which it may have stopped where one was armed.
pub record IsArmedBehind (armed : Bool) (arming : Arming) : Type 0 where
  pub told : is_some arming.armed ≡ armed
  pub stopped : arming.stopped ≡ true → armed ≡ true

-- The runner's state is that of the run between two lines.
pub record IsRun {D : Type 0} (known : Bool) (cells : D → List Cell) (sector_count : D → ℕ) (arming : D → Arming) (s : RunState) (run : Run D) : Type 0 where
  pub names : AreNames s.names run.names
  pub past : run.past.items ≡ records_of s.past
  pub device : IsDeviceAs known cells sector_count s.lines s.up run.device
  pub room : HasRoom run run.device
  pub armed : IsArmedAs s.armed (arming (disk_of_run run))

-- the records of all mounts, with that of one that is up
abbrev pub records_with : {D : Type 0} → List MountRecord → Device D → List MountRecord
records_with past (device.Idle disk) = past
records_with past (device.Mounted up) = past ++ up.mounted.story ∷ []

-- What is left where a line had no answer: the records are those of a run.
pub record TellsOf {D : Type 0} (s : RunState) (run : Run D) : Type 0 where
  pub records : records_with run.past.items run.device ≡ records_of (mounts_of s)
  pub room : HasRoom run run.device

-- ---- what a line owes

-- Where it is known of a run that it stands safe, it does on these cells. That can be known only of a disk that tells what it holds.
abbrev pub StandsWhereKnown : Bool → Table → ℕ → RunState → List Cell → Type 0
StandsWhereKnown sure first number s cells = IsTrue sure → StandsSafe first number (mounts_of s) cells

-- A line was answered: the run goes on, from this answer.
pub record IsAnswer {D : Type 0} (known sure : Bool) (cells : D → List Cell) (sector_count : D → ℕ) (arming : D → Arming) (first : Table) (number : ℕ) (s : RunState) (asked : Command) (said : Said) (run : Run D) : Type 0 where
  pub next : RunState
  pub run_is : IsRun known cells sector_count arming next run
  pub lines : next.lines ≡ s.lines + 1
  pub answers : IsTrue sure → AnswersLine first s asked said next
  pub safe : StandsWhereKnown sure first number next (cells (disk_of_run run))

-- There was no memory for its answer: nothing happened, or the line was broken off.
pub record IsBroken {D : Type 0} (sure : Bool) (cells : D → List Cell) (first : Table) (number : ℕ) (s : RunState) (asked : Command) (run : Run D) : Type 0 where
  pub last : RunState
  pub tells : TellsOf last run
  pub breaks : IsTrue sure → (last ≡ s) ⊎ BreaksOff first s s.up asked last
  pub safe : StandsWhereKnown sure first number last (cells (disk_of_run run))

abbrev pub ComesTo : {D : Type 0} → Bool → Bool → (D → List Cell) → (D → ℕ) → (D → Arming) → Table → ℕ → RunState → Command → Comes D → Type 0
ComesTo known sure cells sector_count arming first number s asked (Answered run said) = IsAnswer known sure cells sector_count arming first number s asked said run
ComesTo known sure cells sector_count arming first number s asked (Unanswered run) = IsBroken sure cells first number s asked run

-- the run that a line comes to
abbrev pub run_of : {D : Type 0} → Comes D → Run D
run_of (Answered run said) = run
run_of (Unanswered run) = run

-- A run has room for a line more.
pub record HasLine {D : Type 0} (known : Bool) (cells : D → List Cell) (sector_count : D → ℕ) (arming : D → Arming) (run : Run D) : Type 0 where
  pub s : RunState
  pub run_is : IsRun known cells sector_count arming s run
  pub few : s.lines < MAX_SCRIPT_BYTES

-- ---- what the first image decides

-- No mount was begun, and whatever a crash leaves is the first image.
pub record IsUntouched {D : Type 0} (cells : D → List Cell) (before : List Sector) (run : Run D) : Type 0 where
  pub none : records_with run.past.items run.device ≡ []
  pub left : (image : List Sector) → IsImage (cells (disk_of_run run)) image → image ≡ before

-- What a line may say of an image that no mount was begun of: a mount line tells that it is damaged or can't be read, and what it says of damage is so.
abbrev pub SaysOfUntouched : List Sector → Command → Said → Type 0
SaysOfUntouched before asked said =
    (asked ≡ command.Mount → TellsDamage said)
    × ((rule sector : ℕ) → said ≡ line_said (line.Damaged rule sector) → IsFirstDamage before (record { rule = rule; sector = sector }))

-- It stays so where the image is not sound.
abbrev pub StaysUntouched : {D : Type 0} → (D → List Cell) → List Sector → Command → Comes D → Type 0
StaysUntouched cells before asked (Answered run said) = IsSound before ⊎ (IsUntouched cells before run × SaysOfUntouched before asked said)
StaysUntouched cells before asked (Unanswered run) = IsSound before ⊎ IsUntouched cells before run

-- a line says of no image that it is damaged
abbrev pub SaysNoDamage : {D : Type 0} → Comes D → Type 0
SaysNoDamage (Answered run said) = (rule sector : ℕ) → ¬ (said ≡ line_said (line.Damaged rule sector))
SaysNoDamage (Unanswered run) = ⊤
