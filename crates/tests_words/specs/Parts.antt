-- A cache for the tests, and who steps on its words.
use Rattle.std.specs.Prelude.{◌≡◌, ◌≤◌, replicate}
use Rattle.geometry.specs.declared.shape.Geometry.{Geometry}
use Rattle.geometry.specs.Places.{place_of}
use Rattle.life_table.specs.declared.key.Key.{Key}
use Rattle.word_table.specs.Ends.{CacheState, SeatState}
use Rattle.word_table.specs.Known.{times}
use Rattle.word_table.specs.declared.session.TryOpen.{TryOpen}
use Rattle.word_table.specs.declared.session.TryOpen.TheVariants.{Pinned, Ask, Raced, Crowded}

-- one group of 512 inodes
abbrev pub one_group : Geometry
one_group = record { version = 1; groups = 1; blocks = 64; ring = 256; uuid = replicate 16 0 }

pub record IsSession (cache : CacheState) (session : SeatState) : Type 0 where
  pub geometry : cache.geometry ≡ one_group
  pub own : session.cache ≡ cache.name

-- the keeper of all its words
pub record KeepsWords (cache : CacheState) (keeper : SeatState) : Type 0 where
  pub geometry : cache.geometry ≡ one_group
  pub own : keeper.cache ≡ cache.name
  pub first : keeper.known.first ≡ 0
  pub count : keeper.known.count ≡ 512

abbrev pub HasPin : SeatState → Key → Type 0
HasPin seat key = 1 ≤ times (place_of one_group key.number) key.generation seat.known.pins

-- an open that succeeded gives a pin, which the session has
abbrev pub IsOpened : Key → TryOpen → SeatState → Type 0
IsOpened key (Pinned pin) session = (pin ≡ key) × HasPin session key
IsOpened key (Ask seen) session = Unit {0}
IsOpened key (Raced seen found) session = Unit {0}
IsOpened key Crowded session = Unit {0}
