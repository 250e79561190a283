-- What is in memory, looked up and changed: actors, locks of groups, and slots of numbers.
use Rattle.std.specs.Prelude.{◌+◌, ◌*◌, ◌/◌, ◌%◌, ◌==◌, ◌&&◌, ℕ, Bool, true, false, not, List, [], ◌∷◌, Option, None, Some, if◌then◌else◌, map, nat_lt, length, slice_set, slice_index_or}
use Rattle.life_limits.specs.declared.TheConstants.{BLOCK_SECTORS, GROUP_NUMBERS}
use Rattle.life_table.specs.declared.key.Key.{Key}
use Rattle.life_table.specs.declared.table.Table.{Table}
use Rattle.slot_words.specs.declared.word.Word.{Word}
use Rattle.actor_world.specs.declared.memory.Residence.{Residence}
use Rattle.actor_world.specs.declared.memory.Residence.TheVariants.{Absent, Clean, Dirty}
use Rattle.actor_world.specs.declared.memory.Slot.{Slot}
use Rattle.actor_world.specs.declared.memory.GroupCache.{GroupCache}
use Rattle.actor_world.specs.declared.memory.Place.{Place}
use Rattle.actor_world.specs.declared.memory.Doing.{Doing}
use Rattle.actor_world.specs.declared.memory.Actor.{Actor}
use Rattle.actor_world.specs.declared.memory.Memory.{Memory}

-- ---- actors

-- an actor with no call and nothing to free
abbrev pub idle_actor : Actor
idle_actor = record { doing = None; queue = [] }

abbrev pub actor_at : Memory → ℕ → Actor
actor_at m a = slice_index_or m.actors a idle_actor

abbrev pub with_actor : ℕ → Actor → Memory → Memory
with_actor a actor m = record { actors = slice_set m.actors a actor; groups = m.groups }

-- the actor's call stands at another place
abbrev pub moved_to : ℕ → Doing → Place → Memory → Memory
moved_to a doing place m = with_actor a (record { doing = Some (record { call = doing.call; place = place; «from» = doing.«from» }); queue = (actor_at m a).queue }) m

-- the actor's call has ended
abbrev pub ended : ℕ → Memory → Memory
ended a m = with_actor a (record { doing = None; queue = (actor_at m a).queue }) m

-- the actor has this queue
abbrev pub with_queue : ℕ → List Key → Memory → Memory
with_queue a keys m = with_actor a (record { doing = (actor_at m a).doing; queue = keys }) m

-- ---- groups

-- the cache of a group that there is not
abbrev pub no_cache : GroupCache
no_cache = record { slots = []; holder = None }

abbrev pub cache_at : Memory → ℕ → GroupCache
cache_at m g = slice_index_or m.groups g no_cache

abbrev pub with_cache : ℕ → GroupCache → Memory → Memory
with_cache g cache m = record { actors = m.actors; groups = slice_set m.groups g cache }

-- a group's lock is taken by an actor, and given back
abbrev pub locked : ℕ → ℕ → Memory → Memory
locked a g m = with_cache g (record { slots = (cache_at m g).slots; holder = Some a }) m

abbrev pub unlocked : ℕ → Memory → Memory
unlocked g m = with_cache g (record { slots = (cache_at m g).slots; holder = None }) m

-- ---- slots

-- a word that is in no cache: no inode of the number was ever in it
abbrev pub first_word : Word
first_word = record { generation = 0; live = false; unlinked = false; unused = 0; pins = 0 }

abbrev pub first_slot : Slot
first_slot = record { word = first_word; inode = Absent }

-- the slot of a number of the image
abbrev pub slot_at : Memory → ℕ → Slot
slot_at m number = slice_index_or (cache_at m (number / GROUP_NUMBERS)).slots (number % GROUP_NUMBERS) first_slot

abbrev pub cached_word : Memory → ℕ → Word
cached_word m number = (slot_at m number).word

abbrev pub with_slot : ℕ → Slot → Memory → Memory
with_slot number slot m =
    with_cache (number / GROUP_NUMBERS) (record {
      slots = slice_set (cache_at m (number / GROUP_NUMBERS)).slots (number % GROUP_NUMBERS) slot;
      holder = (cache_at m (number / GROUP_NUMBERS)).holder;
    }) m

-- a word in the place of a number's word, where there is one to put there
abbrev pub put_word : ℕ → Option Word → Memory → Memory
put_word number None m = m
put_word number (Some word) m = with_slot number (record { word = word; inode = (slot_at m number).inode }) m

-- the number's inode is in core like this
abbrev pub put_inode : ℕ → Residence → Memory → Memory
put_inode number inode m = with_slot number (record { word = cached_word m number; inode = inode }) m

-- an inode that is not in core is brought in, clean
abbrev pub brought : Residence → Residence
brought Absent = Clean
brought Clean = Clean
brought Dirty = Dirty

abbrev pub bring_in : ℕ → Memory → Memory
bring_in number m = put_inode number (brought (slot_at m number).inode) m

-- an inode that was changed is in core and dirty
abbrev pub make_dirty : ℕ → Memory → Memory
make_dirty number m = put_inode number Dirty m

-- an inode after its copy into its buffer
abbrev pub copied : Residence → Residence
copied Absent = Absent
copied Clean = Clean
copied Dirty = Clean

abbrev pub copied_slot : Slot → Slot
copied_slot slot = record { word = slot.word; inode = copied slot.inode }

-- all dirty inodes of a group are copied
abbrev pub copy_all : ℕ → Memory → Memory
copy_all g m = with_cache g (record { slots = map copied_slot (cache_at m g).slots; holder = (cache_at m g).holder }) m

abbrev pub is_clean : Residence → Bool
is_clean Absent = false
is_clean Clean = true
is_clean Dirty = false

-- the numbers of the clean inodes in core among these slots, which are numbered from here on, ascending
unfoldable pub clean_numbers : ℕ → List Slot → List ℕ
clean_numbers number [] = []
clean_numbers number (slot ∷ slots) =
    if is_clean slot.inode then number ∷ clean_numbers (number + 1) slots else clean_numbers (number + 1) slots

-- those of a group
abbrev pub clean_of : Memory → ℕ → List ℕ
clean_of m g = clean_numbers (g * GROUP_NUMBERS) (cache_at m g).slots

-- whether two bits are the same
abbrev pub same_bit : Bool → Bool → Bool
same_bit true other = other
same_bit false other = not other

-- an exchange finds a word as it was seen, in each of its parts
abbrev pub same_word : Word → Word → Bool
same_word word seen =
    (word.generation == seen.generation)
    && (same_bit word.live seen.live && (same_bit word.unlinked seen.unlinked && ((word.unused == seen.unused) && (word.pins == seen.pins))))

-- The number is of the geometry: of a group that there is, and in a group the number of one of its sectors.
abbrev pub is_of_geometry : Table → ℕ → Bool
is_of_geometry t number = nat_lt (number / GROUP_NUMBERS) (length t.groups) && nat_lt (number % GROUP_NUMBERS) (t.blocks * BLOCK_SECTORS)
