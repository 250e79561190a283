-- The history of one group, as it is made under the group's lock. Holds are kept elsewhere: the group's table has none, and what is done without the lock
-- has no entry.
use Rattle.std.specs.Prelude.{◌≡◌, ⊤, ℕ, List, [], ◌∷◌, Option, None, Some, IsSomeAnd}
use Rattle.std.specs.List.{AllByRecursion}
use Rattle.life_table.specs.declared.types.Row.{Row}
use Rattle.life_table.specs.declared.types.Call.{Call}
use Rattle.life_table.specs.declared.types.Call.TheVariants as call
use Rattle.life_table.specs.declared.types.Reply.{Reply}
use Rattle.life_table.specs.declared.types.Reply.TheVariants as reply
use Rattle.life_table.specs.declared.types.Event.{Event}
use Rattle.life_table.specs.declared.types.Event.TheVariants.{Called, Freed}
use Rattle.life_table.specs.declared.types.Entry.{Entry}
use Rattle.life_table.specs.declared.table.Table.{Table}
use Rattle.life_table.specs.Table.{group_number, row_of}
use Rattle.life_table.specs.Legal.{Awaits, Permits}
use Rattle.life_table.specs.History.{after_event, closed}

-- what an open may be answered where holds are not known
abbrev pub OpenReplies : Option Row → Reply → Type 0
OpenReplies None reply.Stale = ⊤
OpenReplies (Some row) reply.Stale = row.links ≡ 0
OpenReplies (Some row) reply.Crowded = ⊤
OpenReplies (Some row) reply.Done = ⊤
OpenReplies _ _ = ⊥

-- whether an event may happen at a table without holds: each call is answered as ever, but an open; a row without links may be freed
abbrev pub PermitsUnheld : Table → Event → Type 0
PermitsUnheld t (Called (call.OpenKey key) answer) = OpenReplies (row_of t key) answer
PermitsUnheld t (Called made answer) = Permits t made answer
PermitsUnheld t (Freed key) = IsSomeAnd (row_of t key) Awaits

-- an event at a table without holds, and the table after, without holds too
abbrev pub HappensUnheld : Table → Event → Table → Type 0
HappensUnheld t event u = PermitsUnheld t event × (u ≡ closed (after_event t event))

-- the events of these entries lead, one after the other, from the first table to the last
abbrev pub LeadsUnheld : Table → List Entry → Table → Type 0
LeadsUnheld first [] last = last ≡ first
LeadsUnheld first (entry ∷ entries) last = (next : Table) × HappensUnheld first entry.event next × LeadsUnheld next entries last

-- the group that a call is in, where it is in one
abbrev pub call_group : Call → Option ℕ
call_group (call.Create g) = Some g
call_group (call.Tmpfile g) = Some g
call_group (call.OpenKey key) = Some (group_number key)
call_group (call.CloseKey key) = Some (group_number key)
call_group (call.Link key) = Some (group_number key)
call_group (call.Unlink key) = Some (group_number key)
call_group (call.Grow key count) = Some (group_number key)
call_group (call.Cut key count) = Some (group_number key)
call_group (call.Stat key) = Some (group_number key)
call_group (call.FlushInodes g) = Some g
call_group (call.Reclaim g) = Some g
call_group _ = None

-- the event is in this group
abbrev pub IsInGroup : ℕ → Event → Type 0
IsInGroup g (Called made answer) = call_group made ≡ Some g
IsInGroup g (Freed key) = group_number key ≡ g

-- the entries are a legal history of this group, from the first table to the last
pub record LegalGroupHistory (g : ℕ) (first : Table) (entries : List Entry) (last : Table) : Type 0 where
  pub leads : LeadsUnheld first entries last
  pub own : AllByRecursion (λ (entry : Entry). IsInGroup g entry.event) entries
