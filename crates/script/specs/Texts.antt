-- What is written of a run: a line for each answer, and one for how it ended.
use Rattle.std.specs.Prelude.{ℕ, List, [], ◌∷◌, ◌++◌, Option, None, Some, codes, flat_map, nat_lt, slice_get, if◌then◌else◌}
use Rattle.std.specs.Option.{option_and_then}
use Rattle.std.specs.Fmt.{decimal}
use Rattle.extent_fork.specs.declared.extent.Extent.{Extent}
use Rattle.life_limits.specs.declared.TheConstants.{MAX_ACTORS}
use Rattle.life_table.specs.Handles.{handle_text}
use Rattle.life_table.specs.declared.types.Reply.{Reply}
use Rattle.life_table.specs.declared.types.Reply.TheVariants as reply
use Rattle.life_table.specs.declared.types.Event.{Event}
use Rattle.life_table.specs.declared.types.Event.TheVariants.{Called, Freed}
use Rattle.life_table.specs.declared.types.Entry.{Entry}
use Rattle.life_table.specs.declared.types.MountRecord.{MountRecord}
use Rattle.script.specs.declared.answers.LineReply.{LineReply}
use Rattle.script.specs.declared.answers.LineReply.TheVariants as line
use Rattle.script.specs.declared.answers.Said.{Said}
use Rattle.script.specs.declared.answers.Said.TheVariants.{Of, InGroup, Direct, Line}
use Rattle.script.specs.declared.answers.GroupStory.{GroupStory}
use Rattle.script.specs.declared.status.Status.{Status}
use Rattle.script.specs.declared.status.Status.TheVariants as status
use Rattle.script.specs.Words.{letter_of}

-- texts that several answers share
abbrev pub read_fault : List ℕ
read_fault = codes "read fault"

abbrev pub write_fault : List ℕ
write_fault = codes "write fault"

abbrev pub flush_fault : List ℕ
flush_fault = codes "flush fault"

abbrev pub position_end : List ℕ
position_end = codes "positions used up"

abbrev pub damaged_text : ℕ → ℕ → List ℕ
damaged_text rule sector = codes "damaged rule " ++ (decimal rule ++ (codes " sector " ++ decimal sector))

abbrev pub down_text : ℕ → List ℕ
down_text fault = codes "down " ++ decimal fault

-- an actor's letter; a number that is no actor's has none
abbrev pub actor_text : ℕ → List ℕ
actor_text actor = if nat_lt actor MAX_ACTORS then letter_of actor else []

-- a run of blocks: its first block, and how many they are
abbrev pub run_text : Extent → List ℕ
run_text run = decimal run.start ++ (codes "+" ++ decimal run.count)

-- runs, with commas between them
abbrev pub runs_text : List Extent → List ℕ
runs_text [] = codes "-"
runs_text (run ∷ runs) = run_text run ++ flat_map (λ other. codes "," ++ run_text other) runs

abbrev pub reply_text : Reply → List ℕ
reply_text reply.Done = codes "ok"
reply_text (reply.Made key) = codes "ok " ++ handle_text key
reply_text (reply.Shown key links blocks runs) =
    codes "ok " ++ (handle_text key ++ (codes " links " ++ (decimal links ++ (codes " blocks " ++ (decimal blocks ++ (codes " runs " ++ runs_text runs))))))
reply_text (reply.Covered changes) = codes "ok " ++ decimal changes
reply_text reply.Stale = codes "stale"
reply_text reply.Crowded = codes "crowded"
reply_text reply.NoInodes = codes "no inodes"
reply_text reply.NoSpace = codes "no space"
reply_text reply.TooManyLinks = codes "too many links"
reply_text reply.NoLinks = codes "no links"
reply_text reply.TooManyExtents = codes "too many extents"
reply_text reply.CutTooFar = codes "cut too far"
reply_text reply.WriteFault = write_fault
reply_text reply.FlushFault = flush_fault
reply_text reply.PositionEnd = position_end
reply_text (reply.Down fault) = down_text fault

abbrev pub line_reply_text : LineReply → List ℕ
line_reply_text (line.Mounted kept freed) = codes "ok kept " ++ (decimal kept ++ (codes " freed " ++ decimal freed))
line_reply_text (line.Damaged rule sector) = damaged_text rule sector
line_reply_text line.ReadFault = read_fault
line_reply_text line.WriteFault = write_fault
line_reply_text line.FlushFault = flush_fault
line_reply_text line.PositionEnd = position_end
line_reply_text line.AlreadyMounted = codes "mounted"
line_reply_text line.NotMounted = codes "not mounted"
line_reply_text line.Unmounted = codes "ok"
line_reply_text (line.Busy opens) = codes "busy " ++ decimal opens
line_reply_text (line.Down fault) = down_text fault
line_reply_text (line.Mid actor) = codes "mid " ++ actor_text actor
line_reply_text line.Idle = codes "idle"
line_reply_text line.NoGroup = codes "no group"
line_reply_text line.Unbound = codes "unbound"
line_reply_text line.Begun = codes "begun"
line_reply_text line.Went = codes "went"
line_reply_text (line.Waits actor) = codes "waits " ++ actor_text actor
line_reply_text line.Named = codes "named"
line_reply_text line.Armed = codes "armed"
line_reply_text line.Stopped = codes "stopped"

-- an entry's reply; a free has none
abbrev pub event_text : Event → List ℕ
event_text (Called call reply) = reply_text reply
event_text (Freed key) = []

abbrev pub entry_text : Option Entry → List ℕ
entry_text None = []
entry_text (Some entry) = event_text entry.event

-- the entry of a mount, both counted from 0
abbrev pub entry_at : List MountRecord → ℕ → ℕ → Option Entry
entry_at mounts mount entry = option_and_then (λ record_of. slice_get record_of.entries entry) (slice_get mounts mount)

-- the entry of a group's story; the stories stand in the order of the groups
abbrev pub story_entry : List GroupStory → ℕ → ℕ → Option Entry
story_entry groups group entry = option_and_then (λ story. slice_get story.entries entry) (slice_get groups group)

-- an answer, without the end of its line
abbrev pub said_text : List MountRecord → List GroupStory → Said → List ℕ
said_text mounts groups (Of mount entry) = entry_text (entry_at mounts mount entry)
said_text mounts groups (InGroup actor group entry) = actor_text actor ++ (codes " " ++ entry_text (story_entry groups group entry))
said_text mounts groups (Direct actor reply) = actor_text actor ++ (codes " " ++ reply_text reply)
said_text mounts groups (Line None reply) = line_reply_text reply
said_text mounts groups (Line (Some actor) reply) = actor_text actor ++ (codes " " ++ line_reply_text reply)

-- a line of its own for each answer
abbrev pub answer_lines : List Said → List MountRecord → List GroupStory → List ℕ
answer_lines said mounts groups = flat_map (λ one. said_text mounts groups one ++ (10 ∷ [])) said

-- what tells how the run ended, where it did not end well
abbrev pub status_text : Status → List ℕ
status_text status.Good = []
status_text status.Usage = codes "usage: life make, check, steps, load, live, drill"
status_text (status.ScriptFault line rule) = codes "script fault line " ++ (decimal line ++ (codes " rule " ++ decimal rule))
status_text status.ScriptTooLong = codes "script too long"
status_text status.OpenFault = codes "open fault"
status_text status.SourceFault = codes "source fault"
status_text status.SinkFault = []
status_text (status.Damaged rule sector) = damaged_text rule sector
status_text status.ReadFault = read_fault
status_text status.WriteFault = write_fault
status_text status.FlushFault = flush_fault
status_text status.PositionEnd = position_end
status_text status.NoMemory = codes "no memory"
status_text (status.Down fault) = down_text fault

-- a line of its own, where there is a text
abbrev pub line_of : List ℕ → List ℕ
line_of [] = []
line_of (first ∷ rest) = (first ∷ rest) ++ (10 ∷ [])

-- all that is written of a run of a script
abbrev pub output : List Said → List MountRecord → List GroupStory → Status → List ℕ
output said mounts groups ended = answer_lines said mounts groups ++ line_of (status_text ended)

-- the exit status of the program, where its run ended so
abbrev pub exit_status : Status → ℕ
exit_status status.Good = 0
exit_status status.Usage = 2
exit_status (status.ScriptFault line rule) = 3
exit_status status.ScriptTooLong = 4
exit_status status.OpenFault = 5
exit_status status.SourceFault = 6
exit_status status.SinkFault = 7
exit_status (status.Damaged rule sector) = 8
exit_status status.ReadFault = 9
exit_status status.WriteFault = 10
exit_status status.FlushFault = 11
exit_status status.PositionEnd = 12
exit_status status.NoMemory = 13
exit_status (status.Down fault) = 14
