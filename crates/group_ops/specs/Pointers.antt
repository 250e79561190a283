-- The pointers of a group's unlinked buckets, and how a change sets them before it is made.
use Rattle.std.specs.Prelude.{◌≡◌, ◌==◌, ◌<◌, ℕ, List, Option, None, Some, IsSome, length, refl, if◌then◌else◌}
use Rattle.std.specs.Coded.{Coded, code_by, coded×, coded_ℕ, coded_list, coded_option}
use Rattle.std.specs.List.{range_with_len}
use Rattle.life_limits.specs.declared.TheConstants.{GROUP_NUMBERS, NO_INODE}
use Rattle.life_bytes.specs.declared.sector.Sector.{Sector}
use Rattle.inode_core.specs.Reading.{core_in}
use Rattle.inode_cache.specs.declared.inode.Kept.{Kept}
use Rattle.agi_buckets.specs.Buckets.{AreBuckets, Pointers}
use Rattle.life_table.specs.declared.table.Table.{Table}
use Rattle.life_table.specs.Table.{group_at, inode_in}
use Rattle.sound_image.specs.Encoding.{Layouts, layout_of}
use Rattle.group_ops.specs.declared.next_pointer.NextPointer.{NextPointer}
use Rattle.group_ops.specs.Buffers.{buffer_in}
use Rattle.group_ops.specs.Codes.{group_code}
use Rattle.group_ops.specs.Relinks.{next_of}
use Rattle.group_ops.specs.Values.{StateValue, kept_at}

-- the next pointer in a buffer; the end mark where there is none
abbrev pub next_in_buffer : Option Sector → ℕ
next_in_buffer None = NO_INODE
next_in_buffer (Some sector) = (core_in sector.bytes).next

-- that of the inode in core where there is one, and else that in the buffer
abbrev pub next_kept : Option Kept → Option Sector → ℕ
next_kept None buffer = next_in_buffer buffer
next_kept (Some kept) buffer = kept.inode.core.next

-- the next pointer of a number of a group
unfoldable pub next_at : StateValue → ℕ → ℕ
next_at s agino = next_kept (kept_at s agino) (buffer_in s.buffers agino)

-- the numbers below one
unfoldable pub numbers_below : ℕ → List ℕ
numbers_below n = range_with_len 0 n

-- The pointers of a state. Each number of the group has a next pointer: one that no chunk has points at the end mark.
abbrev pub pointers_of : StateValue → Pointers
pointers_of s = record { heads = s.heads; next = next_at s; places = numbers_below GROUP_NUMBERS }

-- The pointers of a state are the lists of its layouts. Its group is one of the table's, whose inodes have numbers of a group.
pub record ShowsLists (s : StateValue) (t : Table) (layouts : Layouts) : Type 0 where
  pub inside : s.group < length t.groups
  pub low : (agino : ℕ) → IsSome (inode_in (group_at t s.group) agino) → agino < GROUP_NUMBERS
  pub buckets : AreBuckets (pointers_of s) (layout_of layouts s.group).buckets
  pub nexts : (agino : ℕ) → next_at s agino ≡ next_of layouts s.group agino

-- A state with pointers that are set: its heads as they are then, and at most two next pointers, of which the second was set later.
pub record PointingValue : Type 0 where
  pub state : StateValue
  pub heads : List ℕ
  pub first : Option NextPointer
  pub second : Option NextPointer

abbrev pub next_pointer_code : Coded NextPointer
next_pointer_code = code_by (ℕ × ℕ) (coded× coded_ℕ coded_ℕ) (λ l. (l.agino, l.next)) (λ p. record { agino = p.0; next = p.1 }) (λ _. refl)

abbrev pub pointing_code : Coded PointingValue
pointing_code =
    code_by
    (StateValue × (List ℕ × (Option NextPointer × Option NextPointer)))
    (coded× group_code (coded× (coded_list coded_ℕ) (coded× (coded_option next_pointer_code) (coded_option next_pointer_code))))
    (λ p. (p.state, (p.heads, (p.first, p.second))))
    (λ p. record { state = p.0; heads = p.1.0; first = p.1.1.0; second = p.1.1.1 })
    (λ _. refl)

-- a next pointer, where it may have been set
abbrev pub next_through : Option NextPointer → ℕ → ℕ → ℕ
next_through None agino next = next
next_through (Some link) agino next = if link.agino == agino then link.next else next

-- the pointers as they are set
abbrev pub pointers_set : PointingValue → Pointers
pointers_set p =
    record {
      heads = p.heads;
      next = λ agino. next_through p.second agino (next_through p.first agino (next_at p.state agino));
      places = numbers_below GROUP_NUMBERS;
    }

-- for how many next pointers there is room
abbrev pub room_for : Option NextPointer → Option NextPointer → ℕ
room_for None None = 2
room_for (Some link) None = 1
room_for first (Some link) = 0
