-- What is seen of a cache and of those who step on its words.
use Rattle.std.specs.Prelude.{◌≡◌, ◌+◌, ◌*◌, ◌<◌, ℕ, List, [], ◌∷◌, ◌++◌, length, replicate, slice_get, Some}
use Rattle.atomic_table.specs.Seated.{TableId}
use Rattle.geometry.specs.declared.shape.Geometry.{Geometry}
use Rattle.geometry.specs.Shape.{IsGeometry}
use Rattle.geometry.specs.Places.{anchor_of, group_sectors}
use Rattle.word_table.specs.declared.known.Known.{Known}
use Rattle.word_table.specs.Known.{nothing_known, new_keeper, maker_knows}

-- a cache: its name, which no other has, and the image whose inodes have words in it
pub record CacheState : Type 0 where
  pub name : TableId
  pub geometry : Geometry

-- a session or a keeper: the cache that it belongs to, and what it knows
pub record SeatState : Type 0 where
  pub cache : TableId
  pub known : Known

abbrev pub seat_state : TableId → Known → SeatState
seat_state cache known = record { cache = cache; known = known }

-- the cache has a word for each inode of the image
pub record IsCache (geometry key : Geometry) (count : ℕ) : Type 0 where
  pub shape : IsGeometry geometry
  pub same : key ≡ geometry
  pub words : count ≡ anchor_of geometry

-- one keeper for each of the first groups, of the words of that group's inodes
pub record AreKeepers (cache : CacheState) (groups : ℕ) (keepers : List SeatState) : Type 0 where
  pub one_each : length keepers ≡ groups
  pub each : (group : ℕ) → group < groups → let per = group_sectors cache.geometry in
      slice_get keepers group ≡ Some (seat_state cache.name (new_keeper (group * per) per))

-- who makes sessions and keepers, after the keepers of the first groups were made
abbrev pub IsMaker : CacheState → ℕ → SeatState → Type 0
IsMaker cache made maker = (left : ℕ) × (made * group_sectors cache.geometry + left ≡ anchor_of cache.geometry)
    × (maker ≡ seat_state cache.name
    (maker_knows (made * group_sectors cache.geometry) left (group_sectors cache.geometry)))

-- the keeper that keeps no word
abbrev pub last_keeper : CacheState → SeatState
last_keeper cache = seat_state cache.name (maker_knows (anchor_of cache.geometry) 0 (group_sectors cache.geometry))

-- Sessions that know nothing; one keeper for each group; and a last one, which keeps no word.
pub record AreNewParts (g : Geometry) (count : ℕ) (cache : CacheState) (sessions keepers : List SeatState) : Type 0 where
  pub shape : cache.geometry ≡ g
  pub sessions_are : sessions ≡ replicate count (seat_state cache.name nothing_known)
  pub groups : List SeatState
  pub groups_are : AreKeepers cache cache.geometry.groups groups
  pub keepers_are : keepers ≡ groups ++ last_keeper cache ∷ []
