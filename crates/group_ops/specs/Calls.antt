-- What the calls that change a group answer.
use Rattle.std.specs.Prelude.{◌≡◌, ◌/◌, ◌%◌, ⊤, ℕ, Bool, true, false, Option, IsSomeAnd}
use Rattle.life_limits.specs.declared.TheConstants.{GROUP_NUMBERS}
use Rattle.life_table.specs.declared.key.Key.{Key}
use Rattle.life_table.specs.declared.types.Row.{Row}
use Rattle.life_table.specs.declared.types.Call.{Call}
use Rattle.life_table.specs.declared.types.Reply.{Reply}
use Rattle.life_table.specs.declared.types.Reply.TheVariants as reply
use Rattle.life_table.specs.declared.table.Table.{Table}
use Rattle.life_table.specs.Legal.{Awaits, after_call, freed}
use Rattle.life_table.specs.Replies.{reply_of}
use Rattle.life_table.specs.Table.{row_of}
use Rattle.sound_image.specs.Encoding.{Layouts, is_unlinked_row}
use Rattle.encoded_changes.specs.Changes.{put_in, taken_from}
use Rattle.group_ops.specs.declared.refusals.LinkFault.{LinkFault}
use Rattle.group_ops.specs.declared.refusals.LinkFault.TheVariants as link
use Rattle.group_ops.specs.declared.refusals.UnlinkFault.{UnlinkFault}
use Rattle.group_ops.specs.declared.refusals.UnlinkFault.TheVariants as unlink
use Rattle.group_ops.specs.declared.refusals.GrowFault.{GrowFault}
use Rattle.group_ops.specs.declared.refusals.GrowFault.TheVariants as grow
use Rattle.group_ops.specs.declared.refusals.CutFault.{CutFault}
use Rattle.group_ops.specs.declared.refusals.CutFault.TheVariants as cut
use Rattle.group_ops.specs.Represents.{IsGroupOf}
use Rattle.group_ops.specs.Staging.{ChangeValue, Tells}
use Rattle.group_ops.specs.Values.{StateValue}

-- The layouts where an inode of a group changes, by whether it was in use without links and whether it is then: one that comes to be so is put first in its
-- bucket, and one that ceases to be is taken out of it.
abbrev pub relisted : Layouts → ℕ → ℕ → Bool → Bool → Layouts
relisted layouts group agino false true = put_in layouts group agino
relisted layouts group agino true false = taken_from layouts group agino
relisted layouts group agino _ _ = layouts

-- the same where a table comes to be another, for the number of a key
abbrev pub relisted_by : Layouts → Key → Option Row → Option Row → Layouts
relisted_by layouts key old new = relisted layouts (key.number / GROUP_NUMBERS) (key.number % GROUP_NUMBERS) (is_unlinked_row old) (is_unlinked_row new)

-- A change is that of a call on a key which is made: the table gives that reply, and the change leads to the table after the call.
pub record Makes (s : StateValue) (change : ChangeValue) (t : Table) (layouts : Layouts) (key : Key) (called : Call) : Type 0 where
  pub replies : reply_of t called ≡ reply.Done
  pub tells : Tells s change t layouts (after_call t called reply.Done)
      (relisted_by layouts key (row_of t key) (row_of (after_call t called reply.Done) key))

-- A change is that of the free of a key.
abbrev pub FreesKey : StateValue → ChangeValue → Table → Layouts → Key → Type 0
FreesKey s change t layouts key = Tells s change t layouts (freed t key) (relisted_by layouts key (row_of t key) (row_of (freed t key) key))

-- a refusal is the table's reply; want of memory may come always
abbrev pub IsLinkCause : LinkFault → Reply → Type 0
IsLinkCause link.TooManyLinks answer = answer ≡ reply.TooManyLinks
IsLinkCause link.NoMemory answer = ⊤

abbrev pub IsUnlinkCause : UnlinkFault → Reply → Type 0
IsUnlinkCause unlink.NoLinks answer = answer ≡ reply.NoLinks
IsUnlinkCause unlink.NoMemory answer = ⊤

abbrev pub IsGrowCause : GrowFault → Reply → Type 0
IsGrowCause grow.NoSpace answer = answer ≡ reply.NoSpace
IsGrowCause grow.TooManyExtents answer = answer ≡ reply.TooManyExtents
IsGrowCause grow.NoMemory answer = ⊤

abbrev pub IsCutCause : CutFault → Reply → Type 0
IsCutCause cut.CutTooFar answer = answer ≡ reply.CutTooFar
IsCutCause cut.NoMemory answer = ⊤

-- the state is its group of some table, in which the row of the key awaits being freed
abbrev pub HasAwaiting : StateValue → Key → Type 0
HasAwaiting s key = (t : Table) × (layouts : Layouts) × IsGroupOf s t layouts × IsSomeAnd (row_of t key) Awaits
