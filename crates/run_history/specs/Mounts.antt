-- The mounts of a run: the table from which each begins, what is recorded of it, and how it ended.
use Rattle.std.specs.Prelude.{ℕ, List, [], ◌∷◌, length, max}
use Rattle.life_table.specs.declared.types.Event.{Event}
use Rattle.life_table.specs.declared.types.Event.TheVariants.{Called}
use Rattle.life_table.specs.declared.types.Reply.TheVariants as reply
use Rattle.life_table.specs.declared.types.Entry.{Entry}
use Rattle.life_table.specs.declared.types.MountRecord.{MountRecord}
use Rattle.life_table.specs.declared.table.Table.{Table}
use Rattle.life_table.specs.History.{After, changes}

-- It never came up, though recovery had begun to write. Or it was up, and a crash, a log that is down or the end of the script left it. Or its unmount was answered ok.
pub data Ending : Type 0 where
  never_up : Ending
  left : Ending
  unmounted : Ending

pub record MountStory : Type 0 where
  pub start : Table
  pub story : MountRecord
  pub ending : Ending

-- how many changes a mount made
abbrev pub changes_made : MountRecord → ℕ
changes_made story = length (changes story.entries)

-- how many first changes an event acknowledges: those that a sync answered are durable
abbrev pub covered : Event → ℕ
covered (Called made (reply.Covered durable)) = durable
covered event = 0

-- the most that one of these entries acknowledges
abbrev pub most_covered : List Entry → ℕ
most_covered [] = 0
most_covered (entry ∷ entries) = max (covered entry.event) (most_covered entries)

-- How many first changes of a mount are acknowledged: none before it is up; then what recovery freed, or what a sync was answered, where that is more; all once
-- its unmount was answered ok.
abbrev pub acknowledged_by : Ending → MountRecord → ℕ
acknowledged_by never_up story = 0
acknowledged_by left story = max story.freed (most_covered story.entries)
acknowledged_by unmounted story = changes_made story

-- the same of a mount
abbrev pub acknowledged : MountStory → ℕ
acknowledged m = acknowledged_by m.ending m.story

-- the table after so many first changes of a mount, held by nobody
abbrev pub table_after : MountStory → ℕ → Table
table_after m n = After m.start m.story.entries n

-- the table from which a mount begins behind these, if it keeps so many changes of the last of them: the first image's, where there is none
abbrev pub start_behind : Table → List MountStory → ℕ → Table
start_behind first [] kept = first
start_behind first (m ∷ later) kept = start_behind (table_after m kept) later kept
