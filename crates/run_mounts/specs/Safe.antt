-- What a run's mounts are between two calls, and what its disk holds of them.
use Rattle.std.specs.Prelude.{◌≡◌, ◌-◌, ◌∷◌, ◌++◌, ℕ, Bool, List, [], Option, None, Some}
use Rattle.std.specs.Option.{option_map}
use Rattle.disk_model.specs.Disk.{Cell}
use Rattle.life_table.specs.declared.types.MountRecord.{MountRecord}
use Rattle.life_table.specs.declared.table.Table.{Table}
use Rattle.life_table.specs.History.{closed, recovered}
use Rattle.mount.specs.declared.mounted.Mounted.{Mounted}
use Rattle.run_history.specs.Answers.{IsFresh}
use Rattle.run_history.specs.CrashSafe.{CrashSafe, last_mount}
use Rattle.run_history.specs.Linear.{AreLegalFrom}
use Rattle.run_history.specs.Mounts.{Ending, MountStory, left, never_up, start_behind}
use Rattle.run_history.specs.NextMount.{NextMount}
use Rattle.run_history.specs.States.{PastCall}
use Rattle.mounted_calls.specs.Running.{IsRunning}

-- What happened in each mount is one legal history, whatever calls the mounts cut off; each mount begins from what the one before it left; and each image that a crash may leave
-- represents the table after a prefix of the last one's changes.
pub record StandsSafe (first : Table) (number : ℕ) (mounts : List MountStory) (cells : List Cell) : Type 0 where
  pub legal : (calls : List PastCall) → AreLegalFrom calls 0 mounts
  pub next_mount : NextMount first number mounts
  pub crash_safe : CrashSafe first number mounts cells

-- a mount as it ended, or as it ends if it is left now
abbrev pub story_as : Ending → Table → MountRecord → MountStory
story_as ending start story = record { start = start; story = story; ending = ending }

-- Behind these mounts stands one more, which began from this table.
abbrev pub StandsBehind : Table → ℕ → List MountStory → Ending → Table → MountRecord → List Cell → Type 0
StandsBehind first number past ending start story cells = StandsSafe first number (past ++ story_as ending start story ∷ []) cells

-- the number of the first change of a run's last mount
abbrev pub base_behind : List MountStory → Option ℕ
base_behind past = option_map (λ (m : MountStory). m.story.base) (last_mount past)

-- how many changes of the mount before a mount keeps, by the numbers of their first changes: none where there is none before
abbrev pub kept_behind : ℕ → Option ℕ → ℕ
kept_behind base None = 0
kept_behind base (Some earlier) = base - earlier

-- the record of a mount, with what it keeps of the one before it
abbrev pub with_kept : Option ℕ → MountRecord → MountRecord
with_kept behind story = record story { kept = kept_behind story.base behind }

-- What is recorded is what recovery freed, of which so much is acknowledged.
abbrev pub IsFreshWith : ℕ → MountRecord → Type 0
IsFreshWith acknowledged story = IsFresh story × (story.acknowledged ≡ acknowledged)

-- A mount came up behind the mounts of a run: it began from what the last of them left, of which nobody held an inode, and is at the table without rows that have no links.
pub record IsUpBehind {D : Type 0} (known : Bool) (cells : D → List Cell) (sector_count : D → ℕ) (first : Table) (number : ℕ) (past : List MountStory) (m : Mounted D) : Type 0 where
  pub start : Table
  pub starts : start ≡ start_behind first past m.story.kept
  pub unheld : closed start ≡ start
  pub running : IsRunning known cells sector_count start (recovered start) m
  pub safe : StandsBehind first number past left start m.story (cells m.store.disk)

-- A mount did not come up behind them: the run stands as before, or with a mount that never came up, of which some rows were freed.
abbrev pub StandsDown : Table → ℕ → List MountStory → Option MountRecord → List Cell → Type 0
StandsDown first number past None cells = StandsSafe first number past cells
StandsDown first number past (Some story) cells = StandsBehind first number past never_up (start_behind first past story.kept) story cells
