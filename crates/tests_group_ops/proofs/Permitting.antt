-- A call that is answered as made may be answered so, whoever holds the row.
use Rattle.std.proofs.Common.{◌≡◌, ◌==◌, ◌<◌, ℕ, Bool, true, false, Option, None, Some, length, nat_lt, if◌then◌else◌, refl, sym, ap, ◌∙◌, arith}
use Rattle.std.specs.Prelude.{⊤}
use Rattle.std.proofs.lemmas.Bool.{eqb-false, ltb-false, true≢false}
use Rattle.life_limits.specs.declared.TheConstants.{MAX_EXTENTS, MAX_LINKS}
use Rattle.extent_fork.specs.Runs.{runs}
use Rattle.life_table.specs.declared.key.Key.{Key}
use Rattle.life_table.specs.declared.types.Row.{Row}
use Rattle.life_table.specs.declared.types.Call.{Call}
use Rattle.life_table.specs.declared.types.Call.TheVariants as call
use Rattle.life_table.specs.declared.types.Reply.{Reply}
use Rattle.life_table.specs.declared.types.Reply.TheVariants as reply
use Rattle.life_table.specs.declared.table.Table.{Table}
use Rattle.life_table.specs.Legal.{IsNoHold, KeyReplies, Permits, RowReplies, free_of, grown_blocks}
use Rattle.life_table.specs.Replies.{create_reply, key_reply, reply_of, row_reply}
use Rattle.life_table.specs.Space.{lowest_key, prepared}
use Rattle.life_table.specs.Table.{group_at, row_of}
use Rattle.group_core.specs.GroupHistory.{call_group}

-- the calls that change a row
abbrev pub IsOnRow : Call → Type 0
IsOnRow (call.Link key) = ⊤
IsOnRow (call.Unlink key) = ⊤
IsOnRow (call.Grow key count) = ⊤
IsOnRow (call.Cut key count) = ⊤
IsOnRow _ = ⊥

abbrev is_done : Reply → Bool
is_done reply.Done = true
is_done _ = false

abbrev made_key : Reply → Option Key
made_key (reply.Made key) = Some key
made_key _ = None

-- where a choice between a refusal and another reply is the reply of a call that is made, it is the other
taken : (refuses : Bool) (refusal other : Reply) → is_done refusal ≡ false → (if refuses then refusal else other) ≡ reply.Done → (refuses ≡ false) × (other ≡ reply.Done)
taken true refusal other no_reply is = absurd (true≢false (sym (ap is_done is) ∙ no_reply))
taken false refusal other no_reply is = (refl, is)

row_permits : (t : Table) (row : Row) (called : Call) → IsOnRow called → row_reply t row called ≡ reply.Done → RowReplies t row called reply.Done
row_permits t row (call.Link key) on is = eqb-false row.links MAX_LINKS (taken (row.links == MAX_LINKS) reply.TooManyLinks reply.Done refl is).0
row_permits t row (call.Unlink key) on is = eqb-false row.links 0 (taken (row.links == 0) reply.NoLinks reply.Done refl is).0
row_permits t row (call.Grow key count) on is =
    let many = length (runs (grown_blocks t key count row)) in
    let enough = taken (nat_lt (length (free_of t key)) count) reply.NoSpace (if nat_lt MAX_EXTENTS many then reply.TooManyExtents else reply.Done) refl is in
    let few = taken (nat_lt MAX_EXTENTS many) reply.TooManyExtents reply.Done refl enough.1 in
    (λ short. omega (arith, short, ltb-false (length (free_of t key)) count enough.0), ltb-false MAX_EXTENTS many few.0)
row_permits t row (call.Cut key count) on is = ltb-false (length row.blocks) count (taken (nat_lt (length row.blocks) count) reply.CutTooFar reply.Done refl is).0
row_permits t row _ on is = absurd on

key_permits : (t : Table) (row : Option Row) (called : Call) → IsOnRow called → key_reply t row called ≡ reply.Done → KeyReplies t row called reply.Done
key_permits t None called on is = absurd (true≢false (sym (ap is_done is)))
key_permits t (Some row) called on is = row_permits t row called on is

pub permits : (t : Table) (called : Call) → IsOnRow called → reply_of t called ≡ reply.Done → Permits t called reply.Done
permits t (call.Link key) on is = key_permits t (row_of t key) (call.Link key) on is
permits t (call.Unlink key) on is = key_permits t (row_of t key) (call.Unlink key) on is
permits t (call.Grow key count) on is = key_permits t (row_of t key) (call.Grow key count) on is
permits t (call.Cut key count) on is = key_permits t (row_of t key) (call.Cut key count) on is
permits t _ on is = absurd on

pub no_hold : (called : Call) → IsOnRow called → IsNoHold called
no_hold (call.OpenKey key) on = absurd on
no_hold (call.CloseKey key) on = absurd on
no_hold called on = tt

-- ---- creates

found : (next : Option Key) (key : Key) → create_reply next ≡ reply.Made key → next ≡ Some key
found None key is = ap made_key is
found (Some next) key is = ap made_key is

pub makes : (t : Table) (group : ℕ) (key : Key) (tmpfile : Bool) → group < length t.groups → reply_of t (if tmpfile then call.Tmpfile group else call.Create group) ≡ reply.Made key
    → Permits t (if tmpfile then call.Tmpfile group else call.Create group) (reply.Made key)
makes t group key true low is = (low, found (lowest_key group (prepared t.blocks group (group_at t group))) key is)
makes t group key false low is = (low, found (lowest_key group (prepared t.blocks group (group_at t group))) key is)

pub making_holds_none : (group : ℕ) (tmpfile : Bool) → IsNoHold (if tmpfile then call.Tmpfile group else call.Create group)
making_holds_none group true = tt
making_holds_none group false = tt

pub making_group : (group : ℕ) (tmpfile : Bool) → call_group (if tmpfile then call.Tmpfile group else call.Create group) ≡ Some group
making_group group true = refl
making_group group false = refl
