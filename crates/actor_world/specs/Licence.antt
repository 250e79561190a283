-- Where the entries of a history may stand, and which frees a call may make.
use Rattle.std.specs.Prelude.{◌≡◌, ◌≤◌, ◌<◌, ◌==◌, ◌⊎◌, ℕ, List, [], ◌∷◌, ◌++◌, Option, None, Some, IsSomeAnd, if◌then◌else◌, take, length, slice_get}
use Rattle.std.specs.List.{Contains}
use Rattle.life_limits.specs.declared.TheConstants.{MAX_ACTORS}
use Rattle.life_table.specs.declared.key.Key.{Key}
use Rattle.life_table.specs.declared.types.Call.{Call}
use Rattle.life_table.specs.declared.types.Call.TheVariants as call
use Rattle.life_table.specs.declared.types.Reply.{Reply}
use Rattle.life_table.specs.declared.types.Reply.TheVariants as reply
use Rattle.life_table.specs.declared.types.Event.{Event}
use Rattle.life_table.specs.declared.types.Event.TheVariants.{Called, Freed}
use Rattle.life_table.specs.declared.types.Entry.{Entry}
use Rattle.life_table.specs.declared.table.Table.{Table}
use Rattle.life_table.specs.Table.{group_number, row_of}
use Rattle.life_table.specs.Legal.{Awaits, Short}
use Rattle.life_table.specs.History.{after_entries, after_event}
use Rattle.actor_world.specs.Moves.{is_awaiting_row}

-- ---- intervals

-- No entry stands before its call's begin: each has as its `from` a number of entries that were there before it.
pub record Interval (entries : List Entry) (froms : List ℕ) : Type 0 where
  pub length_is : length froms ≡ length entries
  pub between : (i begin : ℕ) → slice_get froms i ≡ Some begin → begin ≤ i

-- ---- which frees a call may make

-- the keys that wait for an actor's gc after one entry more of its own: a close after which the row awaits adds its key, a
-- gc leaves none
abbrev pub queue_after_own : Table → Event → List Key → List Key
queue_after_own t (Called (call.CloseKey key) reply.Done) keys = if is_awaiting_row (row_of t key) then keys ++ key ∷ [] else keys
queue_after_own t (Called call.Gc answer) keys = []
queue_after_own t event keys = keys

-- the same after any entry
abbrev pub queue_after : ℕ → Table → Entry → List Key → List Key
queue_after a t entry keys = if entry.actor == a then queue_after_own t entry.event keys else keys

-- the keys that wait for an actor's gc after a history, where these waited at its begin: those of its closes since its
-- last gc after which their row awaited
abbrev pub queue_from : Table → List Entry → ℕ → List Key → List Key
queue_from t [] a keys = keys
queue_from t (entry ∷ entries) a keys = queue_from (after_event t entry.event) entries a (queue_after a (after_event t entry.event) entry keys)

-- the same after the first n entries of a mount
abbrev pub queue_at : Table → List Entry → ℕ → ℕ → List Key
queue_at start entries n a = queue_from start (take n entries) a []

-- the table before an entry
abbrev pub table_at : Table → List Entry → ℕ → Table
table_at start entries n = after_entries start (take n entries)

-- a call in progress, as far as the licence reads it
pub record Unfinished : Type 0 where
  pub actor : ℕ
  pub call : Call
  pub begin : ℕ

-- An entry belongs to a call: of an actor, which began at this entry. The call was answered by a later entry, or is still
-- going on.
pub record IsAnsweredAt (entries : List Entry) (froms : List ℕ) (a begin : ℕ) (made : Call) (j : ℕ) : Type 0 where
  pub answer : Reply
  pub entry : slice_get entries j ≡ Some (record { actor = a; event = Called made answer })
  pub begin_is : slice_get froms j ≡ Some begin

abbrev pub BelongsTo : List Entry → List ℕ → List Unfinished → ℕ → ℕ → ℕ → Call → Type 0
BelongsTo entries froms unfinished a i begin made =
    ((j : ℕ) × (i < j) × IsAnsweredAt entries froms a begin made j)
    ⊎ Contains unfinished (record { actor = a; call = made; begin = begin })

-- an earlier entry is a free of the same call
pub record IsEarlierFree (entries : List Entry) (froms : List ℕ) (a begin i : ℕ) : Type 0 where
  pub place : ℕ
  pub before : place < i
  pub key : Key
  pub entry : slice_get entries place ≡ Some (record { actor = a; event = Freed key })
  pub begin_is : slice_get froms place ≡ Some begin

-- the call makes room in the key's group, and was short at its first free
pub record FreesForRoom (start : Table) (entries : List Entry) (froms : List ℕ) (a begin i g : ℕ) (key : Key) (made : Call) : Type 0 where
  pub group : group_number key ≡ g
  pub short : (IsEarlierFree entries froms a begin i → ⊥) → Short (table_at start entries i) made

-- a call may free a key at an entry: a gc one that waits for it, a call that makes room one of its group where it was
-- short; no other call frees
abbrev pub MayFree : Table → List Entry → List ℕ → ℕ → ℕ → ℕ → Key → Call → Type 0
MayFree start entries froms a i begin key call.Gc = Contains (queue_at start entries i a) key
MayFree start entries froms a i begin key (call.Create g) = FreesForRoom start entries froms a begin i g key (call.Create g)
MayFree start entries froms a i begin key (call.Tmpfile g) = FreesForRoom start entries froms a begin i g key (call.Tmpfile g)
MayFree start entries froms a i begin key (call.Grow grown count) = FreesForRoom start entries froms a begin i (group_number grown) key (call.Grow grown count)
MayFree start entries froms a i begin key _ = ⊥

-- the group that was refused for want of room
abbrev pub refused_group : Event → Option ℕ
refused_group (Called (call.Create g) reply.NoInodes) = Some g
refused_group (Called (call.Tmpfile g) reply.NoInodes) = Some g
refused_group (Called (call.Grow key count) reply.NoSpace) = Some (group_number key)
refused_group _ = None

-- Each free has its call and its reason; a gc leaves no row of its queue; and no refusal for want of room leaves a row
-- that awaited as its call began. What mount and unmount free, by the actor above all others, needs no call.
pub record Licensed (start : Table) (entries : List Entry) (froms : List ℕ) (unfinished : List Unfinished) : Type 0 where
  pub frees : (i a begin : ℕ) (key : Key) → a < MAX_ACTORS → slice_get entries i ≡ Some (record { actor = a; event = Freed key })
      → slice_get froms i ≡ Some begin
      → (made : Call) × BelongsTo entries froms unfinished a i begin made × MayFree start entries froms a i begin key made
  pub gc : (i a : ℕ) (key : Key) (answer : Reply) → slice_get entries i ≡ Some (record { actor = a; event = Called call.Gc answer })
      → Contains (queue_at start entries i a) key → row_of (table_at start entries i) key ≡ None
  pub refused : (i begin g : ℕ) (entry : Entry) (key : Key) → slice_get entries i ≡ Some entry → slice_get froms i ≡ Some begin
      → refused_group entry.event ≡ Some g → group_number key ≡ g → IsSomeAnd (row_of (table_at start entries begin) key) Awaits
      → row_of (table_at start entries i) key ≡ None
