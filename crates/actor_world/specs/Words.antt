-- What the word of a number says of the number's row: always, but for the one number that the holder of its group's lock
-- is about to mend.
use Rattle.std.specs.Prelude.{◌≡◌, ◌≤◌, ◌==◌, ⊤, ℕ, Bool, true, false, Option, None, Some, IsSomeAnd, IfSome}
use Rattle.life_table.specs.declared.key.Key.{Key}
use Rattle.life_table.specs.declared.types.Row.{Row}
use Rattle.life_table.specs.declared.types.Call.{Call}
use Rattle.life_table.specs.declared.types.Call.TheVariants as call
use Rattle.life_table.specs.declared.table.Inode.{Inode}
use Rattle.life_table.specs.declared.table.Table.{Table}
use Rattle.life_table.specs.Table.{inode_of, row_of}
use Rattle.slot_words.specs.declared.word.Word.{Word}
use Rattle.actor_world.specs.declared.memory.Place.{Place}
use Rattle.actor_world.specs.declared.memory.Place.TheVariants as place
use Rattle.actor_world.specs.declared.memory.Residence.TheVariants.{Absent}
use Rattle.actor_world.specs.declared.memory.Memory.{Memory}
use Rattle.actor_world.specs.Caches.{cached_word, slot_at}
use Rattle.actor_world.specs.Moves.{makes_unlinked, sets_mark}

-- a live word: its key has a row, its pins are the holds on it, and it is marked exactly where the row has no links
pub record LiveSays (word : Word) (row : Row) : Type 0 where
  pub pins : word.pins ≡ row.opens
  pub mark : word.unlinked ≡ (row.links == 0)

-- a word that is not live: the row, if there is one, has links, and nobody holds it
pub record DeadSays (row : Row) : Type 0 where
  pub links : 1 ≤ row.links
  pub opens : row.opens ≡ 0

-- the row of a number, in whichever life
abbrev pub any_row : Option Inode → Option Row
any_row None = None
any_row (Some inode) = inode.row

abbrev pub says : Bool → Table → Word → ℕ → Type 0
says true t word number = IsSomeAnd (row_of t (record { number = number; generation = word.generation })) (LiveSays word)
says false t word number = IfSome (any_row (inode_of t number)) DeadSays

-- what the word of a number says of the table
abbrev pub WordSays : Table → Word → ℕ → Type 0
WordSays t word number = says word.live t word number

-- ---- what the holder of a lock is about to mend

-- nothing; the word of an inode that was made is to be put in place; the mark of a word is to be set or cleared; the word
-- of a row that was freed is to leave the cache
pub data Due : Type 0 where
  nothing : Due
  install : Key → Due
  mark : Key → Due
  kill : Key → Due

abbrev pub key_due : Option Key → (Key → Due) → Due
key_due None due = nothing
key_due (Some key) due = due key

abbrev pub mark_due_by : Call → Due
mark_due_by (call.Link key) = mark key
mark_due_by (call.Unlink key) = mark key
mark_due_by _ = nothing

-- what is due at a place; a gc's key is the first of the queue
abbrev pub due_at : Option Key → Call → Place → Due
due_at first made (place.InstallMade key) = install key
due_at first made (place.Mark answer) = mark_due_by made
due_at first made (place.Kill key others) = kill key
due_at first made place.KillHead = key_due first kill
due_at first made _ = nothing

-- the number that it is due for
abbrev pub due_number : Due → Option ℕ
due_number nothing = None
due_number (install key) = Some key.number
due_number (mark key) = Some key.number
due_number (kill key) = Some key.number

-- The row of the new inode has its maker's hold alone, and the links of its call; its word is not live, and it is in core.
pub record InstallDue (made : Call) (t : Table) (m : Memory) (key : Key) (row : Row) : Type 0 where
  pub row_is : row_of t key ≡ Some row
  pub opens : row.opens ≡ 1
  pub links : (row.links == 0) ≡ makes_unlinked made
  pub dead : (cached_word m key.number).live ≡ false
  pub incore : (slot_at m key.number).inode ≡ Absent → ⊥

-- The word is of the key and live, and its pins are the holds, at least the caller's. The row has no links where the mark
-- is to be set, and has links where it is to be cleared. The mark itself may be either.
pub record MarkDue (made : Call) (t : Table) (m : Memory) (key : Key) (row : Row) : Type 0 where
  pub row_is : row_of t key ≡ Some row
  pub live : (cached_word m key.number).live ≡ true
  pub generation : (cached_word m key.number).generation ≡ key.generation
  pub pins : (cached_word m key.number).pins ≡ row.opens
  pub some : 1 ≤ row.opens
  pub links : (row.links == 0) ≡ sets_mark made

-- The word is of the key and live, marked and without pins, and the number has no row.
pub record KillDue (t : Table) (m : Memory) (key : Key) : Type 0 where
  pub live : (cached_word m key.number).live ≡ true
  pub generation : (cached_word m key.number).generation ≡ key.generation
  pub mark : (cached_word m key.number).unlinked ≡ true
  pub pins : (cached_word m key.number).pins ≡ 0
  pub no_row : any_row (inode_of t key.number) ≡ None

-- what is so where something is due
abbrev pub DueHolds : Call → Table → Memory → Due → Type 0
DueHolds made t m nothing = ⊤
DueHolds made t m (install key) = (row : Row) × InstallDue made t m key row
DueHolds made t m (mark key) = (row : Row) × MarkDue made t m key row
DueHolds made t m (kill key) = KillDue t m key
