-- A run between two lines: what names are bound to, which mount is up and what was recorded of it so far, and which calls were made.
use Rattle.std.specs.Prelude.{◌==◌, ◌+◌, ℕ, Bool, true, false, List, [], ◌∷◌, ◌++◌, Option, None, Some, Result, Ok, Err, if◌then◌else◌, nat_le, nat_lt, filter, length, map, max, replicate}
use Rattle.std.specs.Option.{option_map}
use Rattle.std.specs.Str.{bytes_eq}
use Rattle.life_table.specs.declared.key.Key.{Key}
use Rattle.life_table.specs.declared.types.Call.{Call}
use Rattle.life_table.specs.declared.types.Call.TheVariants as call
use Rattle.life_table.specs.declared.types.Reply.TheVariants as reply
use Rattle.life_table.specs.declared.types.Event.{Event}
use Rattle.life_table.specs.declared.types.Event.TheVariants.{Called}
use Rattle.life_table.specs.declared.types.Entry.{Entry}
use Rattle.life_table.specs.declared.types.MountRecord.{MountRecord}
use Rattle.life_table.specs.declared.table.Table.{Table}
use Rattle.life_table.specs.History.{after_entries, holds, key_of}
use Rattle.script.specs.declared.types.Spoken.{Spoken}
use Rattle.script.specs.declared.types.Spoken.TheVariants as spoken
use Rattle.script.specs.declared.answers.LineReply.{LineReply}
use Rattle.script.specs.declared.answers.LineReply.TheVariants as line
use Rattle.run_history.specs.Mounts.{Ending, MountStory, acknowledged_by, left, most_covered}

-- ---- names

-- a name, and the key that it is bound to
pub record Binding : Type 0 where
  pub name : List ℕ
  pub key : Key

-- the key that a name is bound to, where the newest binding stands first
abbrev pub key_bound : List Binding → List ℕ → Option Key
key_bound [] name = None
key_bound (binding ∷ bindings) name = if bytes_eq name binding.name then Some binding.key else key_bound bindings name

-- the call that a script's words mean, by the names as they are bound now; none where a name is bound to no key
abbrev pub call_meant : List Binding → Spoken → Option Call
call_meant names (spoken.Create group name) = Some (call.Create group)
call_meant names (spoken.Tmpfile group name) = Some (call.Tmpfile group)
call_meant names (spoken.Open name) = option_map call.OpenKey (key_bound names name)
call_meant names (spoken.Close name) = option_map call.CloseKey (key_bound names name)
call_meant names (spoken.Link name) = option_map call.Link (key_bound names name)
call_meant names (spoken.Unlink name) = option_map call.Unlink (key_bound names name)
call_meant names (spoken.Grow name count) = option_map (λ (key : Key). call.Grow key count) (key_bound names name)
call_meant names (spoken.Cut name count) = option_map (λ (key : Key). call.Cut key count) (key_bound names name)
call_meant names (spoken.Stat name) = option_map call.Stat (key_bound names name)
call_meant names spoken.Sync = Some call.Sync
call_meant names spoken.Home = Some call.Home
call_meant names spoken.Gc = Some call.Gc
call_meant names (spoken.Flush group) = Some (call.FlushInodes group)
call_meant names (spoken.Reclaim group) = Some (call.Reclaim group)

-- the names once a call has ended with this entry: a create binds its name to the key that it made
abbrev pub bound_by : List Binding → List ℕ → Event → List Binding
bound_by names name (Called made (reply.Made key)) = record { name = name; key = key } ∷ names
bound_by names name event = names

abbrev pub bound_to_made : List Binding → List ℕ → Option Entry → List Binding
bound_to_made names name None = names
bound_to_made names name (Some entry) = bound_by names name entry.event

abbrev pub names_after : List Binding → Spoken → Option Entry → List Binding
names_after names (spoken.Create group name) entry = bound_to_made names name entry
names_after names (spoken.Tmpfile group name) entry = bound_to_made names name entry
names_after names other entry = names

-- ---- calls

-- A call that lines make: the place of its first line, from 0; how many entries its mount had as it began; and the place of its own entry, once that is made.
pub record LineCall : Type 0 where
  pub actor : ℕ
  pub spoken : Spoken
  pub call : Call
  pub first : ℕ
  pub begin : ℕ
  pub entry : Option ℕ

-- A call that is over: the place of its mount, and that of the line that ended it; none where its mount ended before it.
pub record PastCall : Type 0 where
  pub mount : ℕ
  pub made : LineCall
  pub last : Option ℕ

-- ---- the run

-- A mount that is up: from which table, what is recorded of it so far, and the calls in progress.
pub record UpMount : Type 0 where
  pub start : Table
  pub story : MountRecord
  pub going : List LineCall

-- How many lines were answered; what names are bound to; the mounts that are over; the one that is up, if one is; the calls that are over; and whether the disk is
-- armed to stop within a write.
pub record RunState : Type 0 where
  pub lines : ℕ
  pub names : List Binding
  pub past : List MountStory
  pub up : Option UpMount
  pub over : List PastCall
  pub armed : Bool

-- before the first line
abbrev pub run_begins : RunState
run_begins = record { lines = 0; names = []; past = []; up = None; over = []; armed = false }

-- the table now, with its holds
abbrev pub table_now : UpMount → Table
table_now up = after_entries up.start up.story.entries

-- a mount that ends so
abbrev pub ends_as : Ending → UpMount → MountStory
ends_as ending up = record {
  start = up.start;
  story = record up.story { acknowledged = acknowledged_by ending up.story };
  ending = ending;
}

-- calls of a mount that ends before them
abbrev pub dropped : ℕ → List LineCall → List PastCall
dropped mount going = map (λ (made : LineCall). record { mount = mount; made = made; last = None }) going

-- all mounts of a run that ends now: one that is up is left
abbrev pub with_up : List MountStory → Option UpMount → List MountStory
with_up past None = past
with_up past (Some up) = past ++ ends_as left up ∷ []

abbrev pub mounts_of : RunState → List MountStory
mounts_of s = with_up s.past s.up

-- all calls of a run that ends now
abbrev pub calls_with_up : ℕ → List PastCall → Option UpMount → List PastCall
calls_with_up mount over None = over
calls_with_up mount over (Some up) = over ++ dropped mount up.going

abbrev pub calls_of : RunState → List PastCall
calls_of s = calls_with_up (length s.past) s.over s.up

-- ---- what a line changes

-- one line more was answered, and nothing else happened
abbrev pub next_line : RunState → RunState
next_line s = record s { lines = s.lines + 1 }

-- and this mount is up now
abbrev pub up_now : UpMount → RunState → RunState
up_now up s = record s { lines = s.lines + 1; up = Some up }

-- and the mount that was up is over, with its calls
abbrev pub down_now : Ending → UpMount → RunState → RunState
down_now ending up s = record s {
  lines = s.lines + 1;
  past = s.past ++ ends_as ending up ∷ [];
  up = None;
  over = s.over ++ dropped (length s.past) up.going;
}

-- what is armed is so no more
abbrev pub disarmed : RunState → RunState
disarmed s = record s { armed = false }

-- the story with these entries more, of a call that began at this place
abbrev pub with_entries : MountRecord → List Entry → List ℕ → MountRecord
with_entries story added begins = record {
  base = story.base;
  kept = story.kept;
  freed = story.freed;
  entries = story.entries ++ added;
  froms = story.froms ++ begins;
  acknowledged = max story.freed (most_covered (story.entries ++ added));
}

-- the calls in progress of the other actors
abbrev pub of_others : ℕ → List LineCall → List LineCall
of_others actor going = filter (λ (made : LineCall). if made.actor == actor then false else true) going

-- the mount after a call's steps have left these entries; the call is still in progress
abbrev pub went_on : LineCall → List Entry → UpMount → UpMount
went_on made added up = record {
  start = up.start;
  story = with_entries up.story added (replicate (length added) made.begin);
  going = of_others made.actor up.going ++ made ∷ [];
}

-- the same where it is over
abbrev pub went_to_end : LineCall → List Entry → UpMount → UpMount
went_to_end made added up = record {
  start = up.start;
  story = with_entries up.story added (replicate (length added) made.begin);
  going = of_others made.actor up.going;
}

-- ---- which call a line begins

-- the call of an actor in progress
abbrev pub going_of : ℕ → List LineCall → Option LineCall
going_of actor [] = None
going_of actor (made ∷ going) = if made.actor == actor then Some made else going_of actor going

abbrev pub lesser : ℕ → Option ℕ → Option ℕ
lesser actor None = Some actor
lesser actor (Some other) = if nat_lt actor other then Some actor else Some other

-- the least actor that has one
abbrev pub least_actor : List LineCall → Option ℕ
least_actor [] = None
least_actor (made ∷ going) = lesser made.actor (least_actor going)

-- the words name a group that the table does not have
abbrev pub lacks_group : Table → Spoken → Bool
lacks_group t (spoken.Create group name) = nat_le (length t.groups) group
lacks_group t (spoken.Tmpfile group name) = nat_le (length t.groups) group
lacks_group t (spoken.Flush group) = nat_le (length t.groups) group
lacks_group t (spoken.Reclaim group) = nat_le (length t.groups) group
lacks_group t other = false

-- the actor holds the key that a call is on, where it is on one
abbrev pub holds_key : List Entry → ℕ → Option Key → Bool
holds_key entries actor None = true
holds_key entries actor (Some key) = nat_lt 0 (holds entries actor key)

-- a call that begins now
abbrev pub beginning : RunState → UpMount → ℕ → Spoken → Call → LineCall
beginning s up actor words made = record { actor = actor; spoken = words; call = made; first = s.lines; begin = length up.story.entries; entry = None }

abbrev pub begun_if_held : RunState → UpMount → ℕ → Spoken → Option Call → Result LineCall LineReply
begun_if_held s up actor words None = Err line.Unbound
begun_if_held s up actor words (Some made) =
    if holds_key up.story.entries actor (key_of made) then Ok (beginning s up actor words made) else Err line.Unbound

-- The call that words of an actor begin, or why they begin none, the first reason that there is: the actor has a call in progress; the group is not there; the
-- name is bound to no key, or the actor does not hold it.
abbrev pub begun : RunState → UpMount → ℕ → Spoken → Option LineCall → Result LineCall LineReply
begun s up actor words (Some made) = Err (line.Mid actor)
begun s up actor words None = if lacks_group up.start words then Err line.NoGroup else begun_if_held s up actor words (call_meant s.names words)
