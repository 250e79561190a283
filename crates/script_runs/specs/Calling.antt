-- Which call words begin where a mount is up, and what the line comes to once it is made.
use Rattle.std.specs.Prelude.{◌≡◌, ◌≤◌, ◌<◌, ◌+◌, ℕ, Bool, false, IsTrue, List, [], Option, None, Some, Result, Ok, Err, if◌then◌else◌, length, nat_le}
use Rattle.life_limits.specs.declared.TheConstants.{MAX_NUMBERS, MOUNT_LIMIT}
use Rattle.disk_model.specs.Disk.{Arming, Cell}
use Rattle.life_table.specs.declared.types.Call.{Call}
use Rattle.life_table.specs.declared.types.Reply.{Reply}
use Rattle.life_table.specs.declared.types.Entry.{Entry}
use Rattle.life_table.specs.declared.types.MountRecord.{MountRecord}
use Rattle.life_table.specs.declared.table.Table.{Table}
use Rattle.life_table.specs.Legal.{after_call}
use Rattle.life_table.specs.History.{closed, key_of}
use Rattle.script.specs.declared.types.Spoken.{Spoken}
use Rattle.script.specs.declared.types.Spoken.TheVariants as spoken
use Rattle.script.specs.declared.answers.LineReply.{LineReply}
use Rattle.script.specs.declared.answers.LineReply.TheVariants as line
use Rattle.run_history.specs.Mounts.{left}
use Rattle.run_history.specs.States.{Binding, RunState, UpMount, beginning, begun, call_meant, holds_key, table_now}
use Rattle.mounted_calls.specs.Calls.{with_call}
use Rattle.mounted_calls.specs.Running.{IsRunning}
use Rattle.script_names.specs.Bindings.{AreNames}
use Rattle.script_names.specs.declared.names.Names.{Names}
use Rattle.actor_holds.specs.Holds.{AreHolds}
use Rattle.run_mounts.specs.Calls.{IsWholeCall}
use Rattle.run_mounts.specs.Safe.{StandsBehind}
use Rattle.script_runs.specs.Running.{IsArmedBehind, records_of}
use Rattle.script_runs.specs.declared.running.Up.{Up}

-- ---- which call begins

-- the words name a group that is none of so many
abbrev pub lacks_in : ℕ → Spoken → Bool
lacks_in groups (spoken.Create group name) = nat_le groups group
lacks_in groups (spoken.Tmpfile group name) = nat_le groups group
lacks_in groups (spoken.Flush group) = nat_le groups group
lacks_in groups (spoken.Reclaim group) = nat_le groups group
lacks_in groups other = false

-- the call that words mean, where the actor may make it
abbrev pub call_held : List Entry → ℕ → Option Call → Result Call LineReply
call_held entries actor None = Err line.Unbound
call_held entries actor (Some made) = if holds_key entries actor (key_of made) then Ok made else Err line.Unbound

-- the call that an actor's words begin, over so many groups, names and entries, or why they begin none
abbrev pub call_begun : ℕ → List Binding → List Entry → ℕ → Spoken → Result Call LineReply
call_begun groups names entries actor words = if lacks_in groups words then Err line.NoGroup else call_held entries actor (call_meant names words)

-- ---- a call that was made

-- The call was made, and its entry is the last one of the mount's record; names and holds are as before it.
pub record IsMadeIn {D : Type 0} (known sure : Bool) (cells : D → List Cell) (sector_count : D → ℕ) (arming : D → Arming) (first : Table) (number : ℕ) (s : RunState) (actor : ℕ) (words : Spoken) (names : Names) (past : List MountRecord) (up : Up D) : Type 0 where
  pub before : UpMount
  pub is_up : s.up ≡ Some before
  pub going : before.going ≡ []
  pub bound : AreNames s.names names
  pub records : past ≡ records_of s.past
  pub holds : AreHolds before.story.entries up.holds
  pub unheld : closed before.start ≡ before.start
  pub base : before.story.base < MOUNT_LIMIT
  pub few : length before.story.entries ≤ MAX_NUMBERS + s.lines
  pub made : Call
  pub whole : IsWholeCall made
  pub begins : IsTrue sure → begun s before actor words None ≡ Ok (beginning s before actor words made)
  pub answer : Reply
  pub story : up.mounted.story ≡ with_call before.story actor made answer
  pub running : IsRunning known cells sector_count before.start (after_call (table_now before) made answer) up.mounted
  pub armed : IsArmedBehind s.armed (arming up.mounted.store.disk)
  pub safe : IsTrue sure → StandsBehind first number s.past left before.start up.mounted.story (cells up.mounted.store.disk)
