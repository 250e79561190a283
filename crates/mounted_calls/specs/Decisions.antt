-- What a call in a group comes to before it is made, and what its making leaves of the groups.
use Rattle.std.specs.Prelude.{◌≡◌, ◌≤◌, ◌++◌, ⊤, ℕ, true, false, List, [], ◌∷◌, Option, None, Some, IsSomeAnd, slice_get, slice_set}
use Rattle.std.specs.List.{All}
use Rattle.log_record.specs.declared.image.Commit.{Commit}
use Rattle.log_image.specs.Log.{IsGroupImage}
use Rattle.log_batch.specs.Newest.{IsCommit}
use Rattle.life_table.specs.declared.types.Call.{Call}
use Rattle.life_table.specs.declared.types.Call.TheVariants as call
use Rattle.life_table.specs.declared.types.Reply.{Reply}
use Rattle.life_table.specs.declared.types.Event.TheVariants.{Called}
use Rattle.life_table.specs.declared.types.Entry.{Entry}
use Rattle.life_table.specs.declared.table.Table.{Table}
use Rattle.life_table.specs.Legal.{after_call}
use Rattle.life_table.specs.History.{IsHeld, is_change, key_of}
use Rattle.life_table.specs.Replies.{reply_of}
use Rattle.sound_image.specs.Encoding.{Layouts}
use Rattle.group_core.specs.GroupHistory.{HappensUnheld, IsInGroup, call_group}
use Rattle.group_core.specs.Value.{GroupValue}
use Rattle.group_ops.specs.declared.delta.Delta.{Delta}
use Rattle.group_ops.specs.Changes.{changed_state, with_room}
use Rattle.group_ops.specs.OwnTable.{TakesTo, own_table}
use Rattle.group_ops.specs.Represents.{RepresentsGroup}
use Rattle.group_ops.specs.Staging.{ChangeValue, Tells}
use Rattle.group_ops.specs.Telling.{HasRowOf}
use Rattle.group_ops.specs.Values.{StateValue}
use Rattle.mounted_calls.specs.Calls.{IsOnGroup, NamesGroup, roomless}
use Rattle.mounted_calls.specs.declared.decision.Decision.{Decision}

-- a state is its group of some table, where the key of a call has a row
abbrev pub CanDecide : StateValue → Call → Type 0
CanDecide s (call.Link key) = HasRowOf s key
CanDecide s (call.Unlink key) = HasRowOf s key
CanDecide s (call.Grow key count) = HasRowOf s key
CanDecide s (call.Cut key count) = HasRowOf s key
CanDecide s (call.Stat key) = HasRowOf s key
CanDecide s _ = RepresentsGroup s

-- A call with a reply is a change, and leads to the table after it; or it is none.
abbrev pub CallComesTo : StateValue → Table → Layouts → Call → Reply → Option ChangeValue → Type 0
CallComesTo s t layouts made answer None = is_change (Called made answer) ≡ false
CallComesTo s t layouts made answer (Some change) = (is_change (Called made answer) ≡ true) × ((others : Layouts) × Tells s change t layouts (after_call t made answer) others)

-- a decision has the table's reply, and what the call comes to
pub record Decides (s : StateValue) (t : Table) (layouts : Layouts) (made : Call) (d : Decision) : Type 0 where
  pub reply : d.reply ≡ reply_of t made
  pub again : d.noted ≡ reply_of t made
  pub comes : CallComesTo s t layouts made (reply_of t made) d.change

-- A call of an actor in a group of so many: it names one, or the actor holds its key.
pub record IsCallIn (groups k : ℕ) (entries : List Entry) (actor : ℕ) (made : Call) : Type 0 where
  pub kind : IsOnGroup made
  pub own : call_group made ≡ Some k
  pub names : NamesGroup groups made
  pub held : IsHeld entries actor (key_of made)

-- ---- what is left of the groups

-- a group has room for one entry and one change
abbrev pub GroupHasRoom : List (GroupValue StateValue) → ℕ → Type 0
GroupHasRoom groups k = (group : GroupValue StateValue) → slice_get groups k ≡ Some group → (1 ≤ group.spare) × (1 ≤ group.state.room)

-- a group with an entry more; and with its change made too
abbrev pub noting : GroupValue StateValue → Entry → GroupValue StateValue
noting group entry = record { state = with_room group.state 0; history = group.history ++ entry ∷ []; spare = 0 }

abbrev pub changing : GroupValue StateValue → Entry → Delta → GroupValue StateValue
changing group entry delta = record { state = with_room (changed_state group.state delta) 0; history = group.history ++ entry ∷ []; spare = 0 }

-- An entry was noted in one group, room aside.
pub record IsNoted (k : ℕ) (entry : Entry) (old new : List (GroupValue StateValue)) : Type 0 where
  pub group : GroupValue StateValue
  pub found : slice_get old k ≡ Some group
  pub put : roomless new ≡ slice_set (roomless old) k (noting group entry)

-- A change was made in one group, and its entry was noted.
pub record IsChanged (k : ℕ) (entry : Entry) (delta : Delta) (old new : List (GroupValue StateValue)) : Type 0 where
  pub group : GroupValue StateValue
  pub found : slice_get old k ≡ Some group
  pub put : roomless new ≡ slice_set (roomless old) k (changing group entry delta)

abbrev pub IsSettled : ℕ → Entry → Option ChangeValue → List (GroupValue StateValue) → List (GroupValue StateValue) → Type 0
IsSettled k entry None old new = IsNoted k entry old new
IsSettled k entry (Some change) old new = IsChanged k entry change.delta old new

-- an entry may be noted in a state's history, or with a change that was made on it
abbrev pub MayNote : Entry → StateValue → Type 0
MayNote entry s = HappensUnheld (own_table s) entry.event (own_table s) × IsInGroup s.group entry.event

abbrev pub MayChange : Entry → Delta → StateValue → Type 0
MayChange entry delta s = ((u : Table) × TakesTo s delta u × HappensUnheld (own_table s) entry.event u) × IsInGroup s.group entry.event

abbrev pub MaySettle : Entry → Option ChangeValue → StateValue → Type 0
MaySettle entry None s = MayNote entry s
MaySettle entry (Some change) s = MayChange entry change.delta s

-- ---- what is given to the log

-- the commit of a change is one that the log takes, in front of this anchor
abbrev pub FitsLog : ℕ → Commit → Type 0
FitsLog anchor commit = IsCommit commit × All (IsGroupImage anchor) commit.images

abbrev pub MayTake : ℕ → Option ChangeValue → Type 0
MayTake anchor None = ⊤
MayTake anchor (Some change) = IsSomeAnd change.commit (FitsLog anchor)

-- commits with that of a change behind them
abbrev pub with_commit : List Commit → Option Commit → List Commit
with_commit list None = list
with_commit list (Some commit) = list ++ commit ∷ []

abbrev pub with_change : List Commit → Option ChangeValue → List Commit
with_change list None = list
with_change list (Some change) = with_commit list change.commit
