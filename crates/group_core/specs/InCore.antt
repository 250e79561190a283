-- What a group keeps in core.
use Rattle.std.specs.Prelude.{◌==◌, ⊤, ℕ, Bool, true, false, IsSome, if◌then◌else◌}
use Rattle.life_table.specs.declared.table.Table.{Table}
use Rattle.life_table.specs.Table.{group_at, inode_in}

-- of an inode: nothing, the inode as its buffer encodes it, or one that was changed since
pub data Cached : Type 0 where
  uncached : Cached
  unchanged : Cached
  changed : Cached

-- what was in core still is, and what its buffer does not encode is not taken for encoded
abbrev pub StaysInCore : Cached → Cached → Type 0
StaysInCore uncached after = ⊤
StaysInCore unchanged uncached = ⊥
StaysInCore unchanged unchanged = ⊤
StaysInCore unchanged changed = ⊤
StaysInCore changed uncached = ⊥
StaysInCore changed unchanged = ⊥
StaysInCore changed changed = ⊤

-- a chunk of the group has the number
abbrev pub HasNumber : Table → ℕ → ℕ → Type 0
HasNumber t group agino = IsSome (inode_in (group_at t group) agino)

-- whether it is in core, and whether it is there as its buffer encodes it
abbrev pub is_in_core : Cached → Bool
is_in_core uncached = false
is_in_core unchanged = true
is_in_core changed = true

abbrev pub is_unchanged : Cached → Bool
is_unchanged uncached = false
is_unchanged unchanged = true
is_unchanged changed = false

-- what it is once the inode was brought in, where it was not there yet; and once what was changed was copied into its buffer
abbrev pub once_brought : Cached → Cached
once_brought uncached = unchanged
once_brought unchanged = unchanged
once_brought changed = changed

abbrev pub once_flushed : Cached → Cached
once_flushed uncached = uncached
once_flushed unchanged = unchanged
once_flushed changed = unchanged

-- the same of all numbers but one
abbrev pub but_at : (ℕ → Cached) → ℕ → Cached → ℕ → Cached
but_at kept agino here number = if number == agino then here else kept number
