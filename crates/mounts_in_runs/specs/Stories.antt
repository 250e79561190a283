-- A mount as a run has it.
use Rattle.std.specs.Prelude.{◌≡◌, ◌≤◌, ◌+◌, ℕ, List, None, Some, Option}
use Rattle.life_table.specs.declared.types.MountRecord.{MountRecord}
use Rattle.life_table.specs.declared.table.Table.{Table}
use Rattle.run_history.specs.Mounts.{Ending, MountStory, acknowledged, changes_made, start_behind}
use Rattle.run_history.specs.CrashSafe.{last_mount}

-- It began from this table, and keeps so many changes of the mount before.
abbrev pub mount_of : Ending → Table → ℕ → MountRecord → MountStory
mount_of ending t kept story = record { start = t; story = record story { kept = kept }; ending = ending }

-- How many changes of the last mount the next one keeps, which numbers its changes from here on: none of a first image; else no fewer than were acknowledged, and no
-- more than there are.
abbrev pub KeepsOf : ℕ → Option MountStory → ℕ → ℕ → Type 0
KeepsOf number None next kept = (next ≡ number) × (kept ≡ 0)
KeepsOf number (Some m) next kept = (next ≡ m.story.base + kept) × (acknowledged m ≤ kept) × (kept ≤ changes_made m.story)

-- The next mount of a run begins from this table, with this number for its first change, and keeps so many changes of the mount before.
pub record BeginsWhere (first : Table) (number : ℕ) (past : List MountStory) (t : Table) (next kept : ℕ) : Type 0 where
  pub start : t ≡ start_behind first past kept
  pub keeps : KeepsOf number (last_mount past) next kept
