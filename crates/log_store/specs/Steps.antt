-- What each call of a store keeps, and what it moves.
use Rattle.std.specs.Prelude.{ℕ, ◌≡◌, ◌≢◌, ◌≤◌, ◌<◌, ◌+◌, ◌-◌, ◌%◌, ◌^◌, Bool, false, IsTrue, List, [], length, take, drop}
use Rattle.std.specs.List.{All}
use Rattle.life_limits.specs.declared.TheConstants.{MAX_IMAGES, MAX_RECORD_SECTORS}
use Rattle.life_bytes.specs.declared.sector.Sector.{Sector}
use Rattle.disk_model.specs.Disk.{Cell, Elapses}
use Rattle.log_record.specs.declared.image.Commit.{Commit}
use Rattle.log_record.specs.declared.image.Image.{Image}
use Rattle.log_record.specs.Encoding.{FitsFields, sector_count, encoded_record}
use Rattle.log_image.specs.Log.{IsGroupImage}
use Rattle.log_image.specs.Overlay.{overlaid}
use Rattle.log_batch.specs.Newest.{IsCommit, commit_images}
use Rattle.log_batch.specs.Put.{KeysRise}
use Rattle.log_store.specs.declared.store.Stage.{Stage}
use Rattle.log_store.specs.declared.store.Stage.TheVariants.{Free, Half, Record, Cover, Down}
use Rattle.log_store.specs.declared.store.Job.{Job}
use Rattle.log_store.specs.declared.store.Job.TheVariants.{Clear, Force, Home, Idle, Nothing, WriteBack}
use Rattle.log_store.specs.declared.store.Store.{Store}
use Rattle.log_store.specs.OnDisk.{HoldsState, IsTaken, ReplaysUpTo, base_of, item_of}
use Rattle.log_store.specs.State.{State, state_of}

-- the record that is being written stands in the store's buffer, and has room
pub record IsInFlight (s : State) (sectors : List Sector) (count : ℕ) : Type 0 where
  pub some : 0 < s.taken
  pub batch : IsTaken s.list s.taken s.batch
  pub fits : FitsFields (item_of s)
  pub size : count ≡ sector_count (length s.batch)
  pub encoded : take count sectors ≡ encoded_record (item_of s)
  pub room : (s.head - s.tail) + count + 1 ≤ s.ring
  pub end : s.head + count ≤ 2 ^ 63

-- what a stage asks of the store's fields
abbrev pub StageFits : Stage → State → List Sector → ℕ → Type 0
StageFits Free s sectors count = Unit {0}
StageFits Half s sectors count = IsInFlight s sectors count × (s.ring - s.head % s.ring < count)
StageFits Record s sectors count = IsInFlight s sectors count
StageFits Cover s sectors count = (s.head + 1 ≤ 2 ^ 63) × (s.dirty ≡ []) × (s.unflushed ≡ false)
StageFits (Down fault) s sectors count = Unit {0}

-- the job that may be going at a stage
abbrev pub JobFits : Stage → Job → Type 0
JobFits Half Force = Unit {0}
JobFits Half job = ⊥
JobFits Record Force = Unit {0}
JobFits Record job = ⊥
JobFits Cover Clear = Unit {0}
JobFits Cover Home = Unit {0}
JobFits Cover job = ⊥
JobFits Free job = Unit {0}
JobFits (Down fault) job = Unit {0}

-- the jobs that write sectors home
abbrev pub MovesHome : Job → Type 0
MovesHome Clear = Unit {0}
MovesHome Home = Unit {0}
MovesHome WriteBack = Unit {0}
MovesHome Force = ⊥
MovesHome Nothing = ⊥
MovesHome Idle = ⊥

-- Room is being made for a record, since it had none. The commits that wait are not empty, and it has the images of some.
pub record IsShort (list : List Commit) (batch : List Image) (ring head tail : ℕ) : Type 0 where
  pub some : list ≢ []
  pub few : length batch ≤ MAX_IMAGES
  pub short : ring < (head - tail) + sector_count (length batch) + 1

-- what a job asks of the store's fields
abbrev pub JobAsks : Job → List Commit → List Image → ℕ → ℕ → ℕ → Type 0
JobAsks Clear list batch ring head tail = IsShort list batch ring head tail
JobAsks Force list batch ring head tail = Unit {0}
JobAsks Home list batch ring head tail = Unit {0}
JobAsks WriteBack list batch ring head tail = Unit {0}
JobAsks Nothing list batch ring head tail = Unit {0}
JobAsks Idle list batch ring head tail = Unit {0}

-- the jobs that move the tail
abbrev pub Covering : Job → Type 0
Covering Clear = Unit {0}
Covering Home = Unit {0}
Covering WriteBack = ⊥
Covering Force = ⊥
Covering Nothing = ⊥
Covering Idle = ⊥

-- The images of the commits that wait are counted, and there is room for them, and for so many more beside them.
pub record HasImageRoom (list : List Commit) (room waiting spare : ℕ) : Type 0 where
  pub counted : waiting ≡ length (commit_images list)
  pub within : waiting + spare ≤ room
  pub countable : waiting + spare < 2 ^ 64

-- What a store's fields always meet, on a disk of so many sectors: the log lies on the disk; commits are ones that a
-- record can take, of sectors of the groups, with numbers of 64 bits; dirty images are by ascending home; and there is
-- room for the images of all commits.
pub record IsConsistent {D : Type 0} (sector_count : ℕ) (store : Store D) : Type 0 where
  pub place : store.anchor + 1 + store.ring ≤ sector_count
  pub last : store.anchor + 1 + store.ring < 2 ^ 64
  pub ring : store.positions.ring ≡ store.ring
  pub commits : All IsCommit store.queue.items
  pub groups : All (IsGroupImage store.anchor) (commit_images store.queue.items)
  pub numbers : store.durable + length store.queue.items < 2 ^ 64 - 1
  pub rises : KeysRise (λ i. i.home) 0 store.dirty.images
  pub homes : All (IsGroupImage store.anchor) store.dirty.images
  pub room : HasImageRoom store.queue.items store.dirty.room store.waiting store.spare
  pub buffer : length store.sectors.items ≡ MAX_RECORD_SECTORS
  pub stage : StageFits store.stage (state_of store) store.sectors.items store.count
  pub job : JobFits store.stage store.job
  pub asks : JobAsks store.job store.queue.items store.batch store.ring store.positions.head store.positions.tail

-- a store whose fields and whose disk are right
pub record IsStore {D : Type 0} (known : Bool) (cells : D → List Cell) (sector_count : D → ℕ) (store : Store D) : Type 0 where
  pub sound : IsConsistent (sector_count store.disk) store
  pub holds : IsTrue known → HoldsState (state_of store) (cells store.disk)

-- Some first commits of the list became durable: they left the list, the durable number rose by their number, and the
-- base has their images over it. Where none did, all three stay. The head did not fall.
pub record Moves (known : Bool) (old new : State) (before after : List Cell) : Type 0 where
  pub anchor : new.anchor ≡ old.anchor
  pub ring : new.ring ≡ old.ring
  pub head : old.head ≤ new.head
  pub count : ℕ
  pub within : count ≤ length old.list
  pub list : new.list ≡ drop count old.list
  pub durable : new.durable ≡ old.durable + count
  pub base : IsTrue known → base_of new after ≡ overlaid (base_of old before) (commit_images (take count old.list))

-- A call of a store went on from one store to another: it is still right, its commits moved in order, and a stop in the
-- call left nothing but what replays to the base with some first commits of the list over it, with a log that ends not
-- further behind the head after the call than the longest record reaches.
pub record Goes {D : Type 0} (known : Bool) (cells : D → List Cell) (sector_count moment : D → ℕ) (left : D → ℕ → List Sector → Type 0) (old new : Store D) : Type 0 where
  pub store : IsStore known cells sector_count new
  pub moves : Moves known (state_of old) (state_of new) (cells old.disk) (cells new.disk)
  pub moments : IsTrue known → Elapses (moment old.disk) (moment new.disk) (left old.disk) (left new.disk)
      (ReplaysUpTo new.positions.head (state_of old) (cells old.disk))

-- a store that begins: nothing is taken, logged or in flight
pub record IsNew {D : Type 0} (disk : D) (anchor ring position next : ℕ) (store : Store D) : Type 0 where
  pub disk_is : store.disk ≡ disk
  pub places : (store.anchor ≡ anchor) × (store.ring ≡ ring)
  pub positions : (store.positions.head ≡ position) × (store.positions.tail ≡ position)
  pub durable : store.durable + 1 ≡ next
  pub list : store.queue.items ≡ []
  pub dirty : store.dirty.images ≡ []
  pub unflushed : store.unflushed ≡ false
  pub stage : store.stage ≡ Free
  pub job : store.job ≡ Idle
