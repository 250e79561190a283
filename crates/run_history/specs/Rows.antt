-- A run that is worked out, and the same with wrong answers.
use Rattle.std.specs.Prelude.{ℕ, List, [], ◌∷◌, ◌++◌, codes, flat_map, take}
use Rattle.life_limits.specs.declared.TheConstants.{MIN_BLOCKS, VERSION}
use Rattle.life_table.specs.declared.key.Key.{Key}
use Rattle.life_table.specs.declared.types.Call.TheVariants as call
use Rattle.life_table.specs.declared.types.Reply.TheVariants as reply
use Rattle.life_table.specs.declared.types.Event.{Event}
use Rattle.life_table.specs.declared.types.Event.TheVariants.{Called}
use Rattle.life_table.specs.declared.types.Entry.{Entry}
use Rattle.life_table.specs.declared.types.MountRecord.{MountRecord}
use Rattle.life_table.specs.declared.table.Table.{Table}
use Rattle.life_table.specs.Table.{empty_table}
use Rattle.script.specs.declared.types.Command.TheVariants as command
use Rattle.script.specs.declared.types.Line.{Line as ScriptLine}
use Rattle.script.specs.declared.types.Spoken.TheVariants as spoken
use Rattle.script.specs.declared.answers.LineReply.TheVariants as line
use Rattle.script.specs.declared.answers.Said.{Said}
use Rattle.script.specs.declared.answers.Said.TheVariants.{Of}
use Rattle.run_history.specs.Answers.{line_said}

-- one group of the least size without a chunk
abbrev pub row_table : Table
row_table = empty_table VERSION 1 MIN_BLOCKS

-- the first inodes of its first chunk, in their first lives
abbrev pub key_a : Key
key_a = record { number = 192; generation = 1 }

abbrev pub key_b : Key
key_b = record { number = 193; generation = 1 }

-- Two files are made, of which a sync acknowledges the first; a crash; then a mount, and its end.
abbrev pub row_lines : List ScriptLine
row_lines =
    record { number = 1; command = command.Mount }
    ∷ record { number = 2; command = command.Whole 0 (spoken.Create 0 (codes "a")) }
    ∷ record { number = 3; command = command.Whole 0 spoken.Sync }
    ∷ record { number = 4; command = command.Whole 0 (spoken.Create 0 (codes "b")) }
    ∷ record { number = 5; command = command.Stop }
    ∷ record { number = 6; command = command.Mount }
    ∷ record { number = 7; command = command.Unmount }
    ∷ []

-- what the lines are answered, where the second mount keeps so many changes
abbrev pub row_said : ℕ → List Said
row_said kept =
    line_said (line.Mounted 0 0) ∷ Of 0 0 ∷ Of 0 1 ∷ Of 0 2 ∷ line_said line.Stopped ∷ line_said (line.Mounted kept 0) ∷ line_said line.Unmounted ∷ []

-- an entry of actor A
abbrev pub by_first_actor : Event → Entry
by_first_actor event = record { actor = 0; event = event }

-- the record of the first mount, where the first file had this key
abbrev pub row_first : Key → MountRecord
row_first key = record {
  base = 1;
  kept = 0;
  freed = 0;
  entries =
      by_first_actor (Called (call.Create 0) (reply.Made key))
      ∷ by_first_actor (Called call.Sync (reply.Covered 1))
      ∷ by_first_actor (Called (call.Create 0) (reply.Made key_b))
      ∷ [];
  froms = 0 ∷ 1 ∷ 2 ∷ [];
  acknowledged = 1;
}

-- the record of the second, where it keeps so many changes
abbrev pub row_second : ℕ → MountRecord
row_second kept = record { base = 2; kept = kept; freed = 0; entries = []; froms = []; acknowledged = 0 }

abbrev pub row_records : Key → ℕ → List MountRecord
row_records key kept = row_first key ∷ row_second kept ∷ []

-- a line that is written
abbrev pub line_end : List ℕ → List ℕ
line_end text = text ++ 10 ∷ []

-- the texts of the right answers
abbrev pub row_texts : List (List ℕ)
row_texts =
    codes "ok kept 0 freed 0"
    ∷ codes "ok 192.1"
    ∷ codes "ok 1"
    ∷ codes "ok 193.1"
    ∷ codes "stopped"
    ∷ codes "ok kept 1 freed 0"
    ∷ codes "ok"
    ∷ []

-- what is written of so many of them
abbrev pub row_output : ℕ → List ℕ
row_output count = flat_map line_end (take count row_texts)

-- ---- two actors, by steps

-- A makes a file and begins to unlink it; B opens it between A's steps, and waits for A's lock with its next call.
abbrev pub beside_lines : List ScriptLine
beside_lines =
    record { number = 1; command = command.Mount }
    ∷ record { number = 2; command = command.Whole 0 (spoken.Create 0 (codes "a")) }
    ∷ record { number = 3; command = command.Begin 0 (spoken.Unlink (codes "a")) }
    ∷ record { number = 4; command = command.Step 0 }
    ∷ record { number = 5; command = command.Step 0 }
    ∷ record { number = 6; command = command.Whole 1 (spoken.Open (codes "a")) }
    ∷ record { number = 7; command = command.Whole 1 (spoken.Stat (codes "a")) }
    ∷ record { number = 8; command = command.Finish 0 }
    ∷ record { number = 9; command = command.Finish 1 }
    ∷ []

abbrev pub beside_said : List Said
beside_said =
    line_said (line.Mounted 0 0) ∷ Of 0 0 ∷ line_said line.Begun ∷ line_said line.Went ∷ line_said line.Went ∷ Of 0 2 ∷ line_said (line.Waits 0) ∷ Of 0 1 ∷ Of 0 3 ∷ []

-- the entries stand in the order in which the steps made them, each with the number of entries at its call's begin
abbrev pub beside_record : MountRecord
beside_record = record {
  base = 1;
  kept = 0;
  freed = 0;
  entries =
      by_first_actor (Called (call.Create 0) (reply.Made key_a))
      ∷ by_first_actor (Called (call.Unlink key_a) reply.Done)
      ∷ record { actor = 1; event = Called (call.OpenKey key_a) reply.Done }
      ∷ record { actor = 1; event = Called (call.Stat key_a) (reply.Shown key_a 0 0 []) }
      ∷ [];
  froms = 0 ∷ 1 ∷ 2 ∷ 3 ∷ [];
  acknowledged = 0;
}
