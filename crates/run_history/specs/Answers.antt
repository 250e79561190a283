-- Which answer each line of a script may have, and what it leaves of the run. What the script, the names, the table and the entries decide is decided here, both
-- ways; what a disk decides is which of several answers comes.
use Rattle.std.specs.Prelude.{◌≡◌, ◌<◌, ◌+◌, ◌⊎◌, ℕ, true, List, [], ◌∷◌, ◌++◌, Option, None, Some, MatchOption, MatchResult, IsSome, length, slice_get, sum_by, take}
use Rattle.std.specs.List.{flat_map, range_with_len}
use Rattle.life_limits.specs.declared.TheConstants.{MAX_ACTORS}
use Rattle.life_table.specs.declared.key.Key.{Key}
use Rattle.life_table.specs.declared.types.Row.{Row}
use Rattle.life_table.specs.declared.types.Event.{Event}
use Rattle.life_table.specs.declared.types.Event.TheVariants.{Called, Freed}
use Rattle.life_table.specs.declared.types.Entry.{Entry}
use Rattle.life_table.specs.declared.types.MountRecord.{MountRecord}
use Rattle.life_table.specs.declared.table.Inode.{Inode}
use Rattle.life_table.specs.declared.table.Chunk.{Chunk}
use Rattle.life_table.specs.declared.table.Table.{Table}
use Rattle.life_table.specs.Table.{Group}
use Rattle.life_table.specs.History.{frees_of}
use Rattle.actor_world.specs.Mounted.{own_places}
use Rattle.actor_world.specs.Moves.{awaiting_of}
use Rattle.script.specs.declared.types.Command.{Command}
use Rattle.script.specs.declared.types.Command.TheVariants as command
use Rattle.script.specs.declared.types.Line.{Line as ScriptLine}
use Rattle.script.specs.declared.types.Spoken.{Spoken}
use Rattle.script.specs.declared.answers.LineReply.{LineReply}
use Rattle.script.specs.declared.answers.LineReply.TheVariants as line
use Rattle.script.specs.declared.answers.Said.{Said}
use Rattle.script.specs.declared.answers.Said.TheVariants.{Of, Line}
use Rattle.run_history.specs.Mounts.{left, never_up, start_behind, unmounted}
use Rattle.run_history.specs.States.{LineCall, RunState, UpMount, begun, disarmed, down_now, going_of, least_actor, names_after, next_line, of_others, table_now, up_now, went_on, went_to_end, with_entries}

-- a line reply, as it is said in a run of one script
abbrev pub line_said : LineReply → Said
line_said reply = Line None reply

-- The line is answered so, and nothing else happens.
abbrev pub OnlySays : LineReply → RunState → Said → RunState → Type 0
OnlySays reply s said next = (said ≡ line_said reply) × (next ≡ next_line s)

-- ---- mounts

-- What is recorded of a mount as it begins: what recovery freed of these keys, each free at its own place.
pub record IsFresh (story : MountRecord) : Type 0 where
  pub keys : List Key
  pub entries : story.entries ≡ frees_of MAX_ACTORS keys
  pub froms : story.froms ≡ own_places 0 keys
  pub freed : story.freed ≡ length keys

-- A mount line that is refused: nothing happens, or recovery had begun to write, and what it had freed so far is recorded.
abbrev pub FailsToMount : Table → RunState → RunState → Type 0
FailsToMount first s next =
    (next ≡ next_line s)
    ⊎ ((story : MountRecord) × IsFresh story
    × (next ≡ down_now never_up (record { start = start_behind first s.past story.kept; story = story; going = [] }) s))

-- The mount is up with what is recorded of it: so many changes kept, and so many inodes freed, which are acknowledged.
abbrev pub ComesUpAs : Table → RunState → ℕ → ℕ → RunState → Type 0
ComesUpAs first s kept freed next =
    (story : MountRecord) × IsFresh story × (story.kept ≡ kept) × (story.freed ≡ freed) × (story.acknowledged ≡ freed)
    × (next ≡ up_now (record { start = start_behind first s.past kept; story = story; going = [] }) s)

-- a mount line where no mount is up
abbrev pub AnswersMount : Table → RunState → Said → RunState → Type 0
AnswersMount first s (Line None (line.Mounted kept freed)) next = ComesUpAs first s kept freed next
AnswersMount first s (Line None (line.Damaged rule sector)) next = next ≡ next_line s
AnswersMount first s (Line None line.ReadFault) next = FailsToMount first s next
AnswersMount first s (Line None line.WriteFault) next = FailsToMount first s next
AnswersMount first s (Line None line.FlushFault) next = FailsToMount first s next
AnswersMount first s (Line None line.PositionEnd) next = FailsToMount first s next
AnswersMount first s (Line None line.Stopped) next = (s.armed ≡ true) × FailsToMount first (disarmed s) next
AnswersMount first s said next = ⊥

-- ---- unmounts

-- how many holds there are on an inode, on those of a table
abbrev pub holds_on : Option Row → ℕ
holds_on None = 0
holds_on (Some row) = row.opens

abbrev pub holds_in : Table → ℕ
holds_in t = sum_by (λ (group : Group). sum_by (λ (chunk : Chunk). sum_by (λ (inode : Inode). holds_on inode.row) chunk.inodes) group) t.groups

-- the keys of all inodes that await being freed, ascending
abbrev pub all_awaiting : Table → List Key
all_awaiting t = flat_map (awaiting_of t) (range_with_len 0 (length t.groups))

-- the mount with these keys freed by its unmount
abbrev pub with_frees : List Key → UpMount → UpMount
with_frees keys up = record {
  start = up.start;
  story = with_entries up.story (frees_of MAX_ACTORS keys) (own_places (length up.story.entries) keys);
  going = up.going;
}

-- An unmount once all that awaited is freed: it is busy exactly where somebody holds an inode; else the mount is over, or a disk's fault leaves it up.
abbrev pub AnswersEnd : RunState → UpMount → Said → RunState → Type 0
AnswersEnd s up (Line None (line.Busy opens)) next = (opens ≡ holds_in (table_now up)) × (0 < opens) × (next ≡ up_now up s)
AnswersEnd s up (Line None line.Unmounted) next = (holds_in (table_now up) ≡ 0) × (next ≡ down_now unmounted up s)
AnswersEnd s up (Line None (line.Down fault)) next = (holds_in (table_now up) ≡ 0) × (next ≡ down_now left up s)
AnswersEnd s up (Line None line.WriteFault) next = (holds_in (table_now up) ≡ 0) × (next ≡ up_now up s)
AnswersEnd s up (Line None line.FlushFault) next = (holds_in (table_now up) ≡ 0) × (next ≡ up_now up s)
AnswersEnd s up (Line None line.PositionEnd) next = (holds_in (table_now up) ≡ 0) × (next ≡ up_now up s)
AnswersEnd s up (Line None line.Stopped) next = (s.armed ≡ true) × (holds_in (table_now up) ≡ 0) × (next ≡ down_now left up (disarmed s))
AnswersEnd s up said next = ⊥

-- an unmount line where a mount is up: it waits for no call
abbrev pub AnswersUnmount : RunState → UpMount → Said → RunState → Type 0
AnswersUnmount s up said next = MatchOption (least_actor up.going)
    (AnswersEnd s (with_frees (all_awaiting (table_now up)) up) said next)
    (λ actor. OnlySays (line.Mid actor) s said next)

-- ---- calls

-- An entry that a call's steps append at a place: a free, or the call's own entry, of which it has one.
abbrev pub AddsEvent : LineCall → ℕ → Event → LineCall → Type 0
AddsEvent made place (Freed key) after = after ≡ made
AddsEvent made place (Called called answer) after =
    (called ≡ made.call) × (made.entry ≡ None) × (after ≡ record made { entry = Some place })

-- entries that they append from this place on, one after the other
abbrev pub AddsEntries : LineCall → ℕ → List Entry → LineCall → Type 0
AddsEntries made place [] after = after ≡ made
AddsEntries made place (entry ∷ entries) after =
    (entry.actor ≡ made.actor) × ((next : LineCall) × AddsEvent made place entry.event next × AddsEntries next (place + 1) entries after)

-- A call's steps append these entries, and leave the call so.
abbrev pub Works : UpMount → LineCall → List Entry → LineCall → Type 0
Works up made added after = AddsEntries made (length up.story.entries) added after

-- They end it, and the line is answered by its entry.
abbrev pub EndsCall : RunState → UpMount → LineCall → ℕ → ℕ → RunState → Type 0
EndsCall s up made mount place next =
    (added : List Entry) × (after : LineCall) × Works up made added after
    × (mount ≡ length s.past) × (after.entry ≡ Some place)
    × (next ≡ record (up_now (went_to_end after added up) s) {
      names = names_after s.names made.spoken (slice_get (up.story.entries ++ added) place);
      over = s.over ++ record { mount = mount; made = after; last = Some s.lines } ∷ [];
    })

-- They come to a lock that another actor's call holds.
abbrev pub WaitsFor : RunState → UpMount → LineCall → ℕ → RunState → Type 0
WaitsFor s up made holder next =
    (added : List Entry) × (after : LineCall) × Works up made added after
    × IsSome (going_of holder (of_others made.actor up.going)) × (next ≡ up_now (went_on after added up) s)

-- The armed write comes in them: the mount is left, and its calls are dropped.
abbrev pub StopsIn : RunState → UpMount → LineCall → RunState → Type 0
StopsIn s up made next =
    (added : List Entry) × (after : LineCall) × Works up made added after × (next ≡ down_now left (went_on after added up) s)

-- a line that makes steps of a call until it ends or waits
abbrev pub RunsCall : RunState → UpMount → LineCall → Said → RunState → Type 0
RunsCall s up made (Of mount place) next = EndsCall s up made mount place next
RunsCall s up made (Line None (line.Waits holder)) next = WaitsFor s up made holder next
RunsCall s up made (Line None line.Stopped) next = (s.armed ≡ true) × StopsIn (disarmed s) up made next
RunsCall s up made said next = ⊥

-- a line that makes one step of it, or none where that would have to wait
abbrev pub StepsCall : RunState → UpMount → LineCall → Said → RunState → Type 0
StepsCall s up made (Of mount place) next = EndsCall s up made mount place next
StepsCall s up made (Line None line.Went) next =
    (added : List Entry) × (after : LineCall) × Works up made added after × (next ≡ up_now (went_on after added up) s)
StepsCall s up made (Line None (line.Waits holder)) next =
    IsSome (going_of holder (of_others made.actor up.going)) × (next ≡ next_line s)
StepsCall s up made (Line None line.Stopped) next = (s.armed ≡ true) × StopsIn (disarmed s) up made next
StepsCall s up made said next = ⊥

-- the mount where a call has begun, with no step of it made
abbrev pub with_call : LineCall → UpMount → UpMount
with_call made up = went_on made [] up

-- ---- lines

-- a line that needs a mount
abbrev pub WithMount : RunState → Said → RunState → (UpMount → Type 0) → Type 0
WithMount s said next answers = MatchOption s.up (OnlySays line.NotMounted s said next) answers

-- a line that begins a call, which is answered so where it begins it
abbrev pub WithCall : RunState → ℕ → Spoken → Said → RunState → (UpMount → LineCall → Type 0) → Type 0
WithCall s actor words said next answers = WithMount s said next (λ up.
    MatchResult (begun s up actor words (going_of actor up.going)) (answers up) (λ refusal. OnlySays refusal s said next))

-- a line that goes on with a call, which is answered so where there is one
abbrev pub WithGoing : RunState → ℕ → Said → RunState → (UpMount → LineCall → Type 0) → Type 0
WithGoing s actor said next answers = WithMount s said next (λ up.
    MatchOption (going_of actor up.going) (OnlySays line.Idle s said next) (answers up))

-- the run after the device stopped between two calls
abbrev pub stopped_now : Option UpMount → RunState → RunState
stopped_now None s = next_line s
stopped_now (Some up) s = down_now left up s

-- Which answer a line may have, and the run after it, over the table from which the first mount begins.
abbrev pub AnswersLine : Table → RunState → Command → Said → RunState → Type 0
AnswersLine first s command.Mount said next =
    MatchOption s.up (AnswersMount first s said next) (λ up. OnlySays line.AlreadyMounted s said next)
AnswersLine first s command.Unmount said next = WithMount s said next (λ up. AnswersUnmount s up said next)
AnswersLine first s command.Stop said next = (said ≡ line_said line.Stopped) × (next ≡ stopped_now s.up (disarmed s))
AnswersLine first s (command.Arm count sectors) said next = (said ≡ line_said line.Armed) × (next ≡ record (next_line s) { armed = true })
AnswersLine first s (command.Bind name key) said next =
    (said ≡ line_said line.Named) × (next ≡ record (next_line s) { names = record { name = name; key = key } ∷ s.names })
AnswersLine first s (command.Begin actor words) said next =
    WithCall s actor words said next (λ up made. (said ≡ line_said line.Begun) × (next ≡ up_now (with_call made up) s))
AnswersLine first s (command.Step actor) said next = WithGoing s actor said next (λ up made. StepsCall s up made said next)
AnswersLine first s (command.Finish actor) said next = WithGoing s actor said next (λ up made. RunsCall s up made said next)
AnswersLine first s (command.Whole actor words) said next = WithCall s actor words said next (λ up made. RunsCall s up made said next)

-- Each line has one answer, in order.
abbrev pub Answers : Table → RunState → List ScriptLine → List Said → RunState → Type 0
Answers first s [] [] last = last ≡ s
Answers first s [] (one ∷ said) last = ⊥
Answers first s (asked ∷ lines) [] last = ⊥
Answers first s (asked ∷ lines) (one ∷ said) last =
    (next : RunState) × AnswersLine first s asked.command one next × Answers first next lines said last

-- ---- a line in which memory ran out

-- What a line may leave that has no answer: recovery had begun to write; or an unmount had freed some inodes; or a call had made some of its steps; or nothing.
abbrev pub BreaksOff : Table → RunState → Option UpMount → Command → RunState → Type 0
BreaksOff first s None command.Mount next = FailsToMount first s next
BreaksOff first s (Some up) command.Unmount next =
    (n : ℕ) × (next ≡ down_now left (with_frees (take n (all_awaiting (table_now up))) up) s)
BreaksOff first s (Some up) (command.Step actor) next = MatchOption (going_of actor up.going) ⊥ (λ made. StopsIn s up made next)
BreaksOff first s (Some up) (command.Finish actor) next = MatchOption (going_of actor up.going) ⊥ (λ made. StopsIn s up made next)
BreaksOff first s (Some up) (command.Whole actor words) next =
    MatchResult (begun s up actor words (going_of actor up.going)) (λ made. StopsIn s up made next) (λ refusal. ⊥)
BreaksOff first s other command next = ⊥
