-- The headline: whatever the lines of a script order, their answers are those of one legal history for each mount, each call's entry between its begin and its end;
-- and whatever a crash then leaves represents the table after a prefix of the changes that has each acknowledged one, from which the next mount begins.
use Rattle.std.specs.Prelude.{◌≡◌, ◌≤◌, ◌⊎◌, ℕ, List, Some, length, map, slice_get, take}
use Rattle.life_bytes.specs.declared.sector.Sector.{Sector}
use Rattle.disk_model.specs.Disk.{Cell}
use Rattle.life_table.specs.declared.types.MountRecord.{MountRecord}
use Rattle.life_table.specs.declared.table.Table.{Table}
use Rattle.whole_image.specs.Represents.{Represents}
use Rattle.script.specs.declared.types.Line.{Line as ScriptLine}
use Rattle.script.specs.declared.answers.Said.{Said}
use Rattle.script.specs.declared.status.Status.{Status}
use Rattle.script.specs.declared.status.Status.TheVariants as status
use Rattle.run_history.specs.Mounts.{MountStory}
use Rattle.run_history.specs.States.{RunState, calls_of, mounts_of, run_begins}
use Rattle.run_history.specs.Answers.{Answers, BreaksOff}
use Rattle.run_history.specs.Linear.{AreBetween, AreLegalFrom}
use Rattle.run_history.specs.NextMount.{NextMount}
use Rattle.run_history.specs.CrashSafe.{CrashSafe}

-- How a run ended behind its last answer: well, and that was the last line; or memory ran out, in the line behind it or between two lines.
abbrev pub EndsRun : Table → List ScriptLine → List Said → RunState → Status → RunState → Type 0
EndsRun first lines said s status.Good last = (length said ≡ length lines) × (last ≡ s)
EndsRun first lines said s status.NoMemory last =
    (length said ≤ length lines)
    × ((last ≡ s) ⊎ ((asked : ScriptLine) × (slice_get lines (length said) ≡ Some asked) × BreaksOff first s s.up asked.command last))
EndsRun first lines said s ended last = ⊥

-- The lines are answered one by one, up to the end; and these are the records of the mounts that they make.
pub record Replies (first : Table) (lines : List ScriptLine) (ended : Status) (said : List Said) (mounts : List MountRecord) (last : RunState) : Type 0 where
  pub answered : RunState
  pub answers : Answers first run_begins (take (length said) lines) said answered
  pub ends : EndsRun first lines said answered ended last
  pub records : mounts ≡ map (λ (m : MountStory). m.story) (mounts_of last)

-- What a run tells by itself, whether or not its disk tells what it holds.
pub record IsOneHistory (first : Table) (number : ℕ) (lines : List ScriptLine) (ended : Status) (said : List Said) (mounts : List MountRecord) (last : RunState) : Type 0 where
  pub replies : Replies first lines ended said mounts last
  pub legal : AreLegalFrom (calls_of last) 0 (mounts_of last)
  pub between : AreBetween (calls_of last)
  pub next_mount : NextMount first number (mounts_of last)

-- The whole of it, of a sound first image.
pub record Headline (before : List Sector) (lines : List ScriptLine) (ended : Status) (said : List Said) (mounts : List MountRecord) (cells : List Cell) : Type 0 where
  pub first : Table
  pub number : ℕ
  pub represents : Represents before first number
  pub last : RunState
  pub history : IsOneHistory first number lines ended said mounts last
  pub crash_safe : CrashSafe first number (mounts_of last) cells
