-- The steps of a mount behind the recovery of its disk.
use Rattle.std.specs.Prelude.{◌≡◌, ◌≤◌, ◌<◌, ◌+◌, ⊤, ℕ, Bool, List, [], Result, Ok, Err, IfOk, IfErr, IsSomeAnd, Some, All, length, take}
use Rattle.life_limits.specs.declared.TheConstants.{MAX_NUMBERS, MOUNT_LIMIT}
use Rattle.life_bytes.specs.declared.sector.Sector.{Sector}
use Rattle.life_ports.specs.Faults.{NeverFalls}
use Rattle.disk_model.specs.Disk.{Arming, Cell, HasOneImage, IsAfterWrites, as_read}
use Rattle.geometry.specs.declared.shape.Geometry.{Geometry}
use Rattle.geometry.specs.Places.{anchor_of}
use Rattle.geometry.specs.Shape.{IsGeometry}
use Rattle.life_table.specs.declared.types.MountRecord.{MountRecord}
use Rattle.life_table.specs.declared.table.Table.{Table}
use Rattle.life_table.specs.History.{closed, recovered}
use Rattle.log_record.specs.declared.image.Commit.{Commit}
use Rattle.log_image.specs.Anchor.{HasAnchor}
use Rattle.log_image.specs.Log.{AreBelow, groups_part, ring_part}
use Rattle.log_store.specs.declared.store.Store.{Store}
use Rattle.log_store.specs.declared.store.Job.TheVariants.{Idle}
use Rattle.log_store.specs.declared.store.Stage.TheVariants.{Free}
use Rattle.log_store.specs.State.{state_of}
use Rattle.log_store.specs.Steps.{IsStore}
use Rattle.recovery.specs.declared.start.Start.{Start}
use Rattle.sound_image.specs.Encoding.{CanEncode, Layouts}
use Rattle.sound_image.specs.Superblocks.{HasSuperblock}
use Rattle.whole_image.specs.Represents.{Represents}
use Rattle.commit_history.specs.Carried.{CommitsCarry, IsEncoding}
use Rattle.group_core.specs.Value.{GroupValue}
use Rattle.group_ops.specs.Values.{StateValue}
use Rattle.orphan_frees.specs.Frees.{freed_first, unlisted_first}
use Rattle.orphan_frees.specs.Loaded.{AreGroupsOf}
use Rattle.orphan_frees.specs.Order.{keys_to_free, unlisted_all}
use Rattle.mount.specs.Ending.{IsStoreOf}
use Rattle.mount.specs.Images.{HasFreed, after_frees}
use Rattle.mount.specs.Mounts.{IsBegun, IsBegunOver, IsMountOf, IsStoryOf, IsUp, disk_of, states_of}
use Rattle.mount.specs.Faults.{IsDeviceCause}
use Rattle.mount.specs.declared.fault.MountFault.{MountFault}
use Rattle.mount.specs.declared.fault.MountFault.TheVariants.{Damaged, ReadFault, WriteFault, FlushFault, PositionEnd, NoMemory}
use Rattle.mount.specs.declared.freeing.Freed.{Freed}
use Rattle.mount.specs.declared.mounted.Mounted.{Mounted}
use Rattle.mount.specs.declared.mounted.NotMounted.{NotMounted}

-- The log of a disk begins anew: the disk has one image, with an anchor whose position no sector of the ring has reached.
pub record IsAnew (g : Geometry) (start : Start) (cells : List Cell) : Type 0 where
  pub one : HasOneImage cells
  pub anchor : HasAnchor (as_read cells) (anchor_of g) g.ring start.position start.next_commit
  pub below : AreBelow (ring_part (anchor_of g) g.ring (as_read cells)) start.position

-- So is it, and the disk's groups encode a table, of which nobody holds an inode, and which the disk represents.
pub record IsClean (g : Geometry) (t : Table) (layouts : Layouts) (start : Start) (cells : List Cell) : Type 0 where
  pub anew : IsAnew g start cells
  pub superblock : HasSuperblock g (as_read cells)
  pub encodes : IsEncoding g t layouts (groups_part (anchor_of g) (as_read cells))
  pub unheld : closed t ≡ t
  pub represents : Represents (as_read cells) t start.next_commit

-- All rows without links of a table were freed, and nothing else: the commits that wait carry it, each first so many of them to the table after so many frees, and all of
-- them to the recovered table, of which these are the groups.
pub record AreFreed (g : Geometry) (t : Table) (layouts : Layouts) (base : ℕ) (list : List Commit) (freed : Freed) : Type 0 where
  pub story : IsStoryOf base (keys_to_free t layouts) 0 freed.story
  pub one_each : length list ≡ length (keys_to_free t layouts)
  pub few : length (keys_to_free t layouts) ≤ MAX_NUMBERS
  pub each : (n : ℕ) → n ≤ length list → CommitsCarry g t layouts (take n list) (freed_first t layouts n) (unlisted_first t layouts n)
  pub after : (n : ℕ) → closed (freed_first t layouts n) ≡ after_frees t layouts n
  pub carry : CommitsCarry g t layouts list (recovered t) (unlisted_all layouts (keys_to_free t layouts))
  pub unheld : closed (recovered t) ≡ recovered t
  pub can : (sectors : List Sector) → CanEncode g t layouts sectors → CanEncode g (recovered t) (unlisted_all layouts (keys_to_free t layouts)) sectors
  pub groups : AreGroupsOf g (recovered t) (unlisted_all layouts (keys_to_free t layouts)) (states_of freed.groups.items)
  pub fresh : All (λ (group : GroupValue StateValue). group.history ≡ []) freed.groups.items

-- A store that has just begun, behind the groups of this geometry.
pub record IsAtStart {D : Type 0} (known : Bool) (cells : D → List Cell) (sector_count : D → ℕ) (g : Geometry) (base : ℕ) (store : Store D) : Type 0 where
  pub store_is : IsStore known cells sector_count store
  pub shape : IsGeometry g
  pub place : (store.anchor ≡ anchor_of g) × (store.ring ≡ g.ring)
  pub rests : (store.job ≡ Idle) × (store.stage ≡ Free)
  pub durable : store.durable + 1 ≡ base
  pub number : (1 ≤ base) × (base < MOUNT_LIMIT)
  pub position : (store.positions.head < MOUNT_LIMIT) × (store.positions.tail ≡ store.positions.head)

-- The same of one in which the commits of all frees wait.
pub record IsReady {D : Type 0} (known : Bool) (cells : D → List Cell) (sector_count : D → ℕ) (g : Geometry) (base : ℕ) (store : Store D) (freed : Freed) : Type 0 where
  pub start : IsAtStart known cells sector_count g base store
  pub over : (t : Table) × (layouts : Layouts) × (sectors : List Sector) × CanEncode g t layouts sectors × (closed t ≡ t) × AreFreed g t layouts base store.queue.items freed

-- a fault of the disk or of memory
abbrev pub IsLateFault : MountFault → Type 0
IsLateFault (Damaged rule sector) = ⊥
IsLateFault PositionEnd = ⊥
IsLateFault ReadFault = ⊤
IsLateFault WriteFault = ⊤
IsLateFault FlushFault = ⊤
IsLateFault NoMemory = ⊤

-- a fault of a write or a flush
abbrev pub IsForceFault : MountFault → Type 0
IsForceFault (Damaged rule sector) = ⊥
IsForceFault PositionEnd = ⊥
IsForceFault ReadFault = ⊥
IsForceFault WriteFault = ⊤
IsForceFault FlushFault = ⊤
IsForceFault NoMemory = ⊥

-- It did not come up over a table that the disk encoded.
pub record IsDownOver (t : Table) (layouts : Layouts) (next : ℕ) (fault : MountFault) (story : MountRecord) (cells : List Cell) : Type 0 where
  pub late : IsLateFault fault
  pub begun : IsBegunOver t layouts next story cells

-- What a mount comes to over a table that its disk encodes.
abbrev pub ComesTo : {D : Type 0} → (D → List Cell) → Geometry → Table → Layouts → ℕ → Result (Mounted D) (NotMounted D) → Type 0
ComesTo cells g t layouts next (Ok mounted) = IsMountOf cells g t layouts next mounted
ComesTo cells g t layouts next (Err down) = IsSomeAnd down.begun (λ story. IsDownOver t layouts next down.fault story (cells down.disk))

-- What it comes to, whatever tells of the disk.
pub record Comes {D : Type 0} (known : Bool) (cells : D → List Cell) (sector_count fault_count : D → ℕ) (arming : D → Arming) (old : D)
    (result : Result (Mounted D) (NotMounted D)) : Type 0 where
  pub up : IfOk result (IsUp known cells sector_count)
  pub begun : IfErr result (λ (down : NotMounted D). IsSomeAnd down.begun (λ story. IsBegun (Some story)))
  pub device : IfErr result (λ (down : NotMounted D). IsDeviceCause (fault_count old) (fault_count down.disk) down.fault)
  pub count : NeverFalls (fault_count old) (fault_count (disk_of result))
  pub sectors : sector_count (disk_of result) ≡ sector_count old
  pub writes : IsAfterWrites (arming old) (arming (disk_of result))

-- ---- what a stop leaves within a step, by what it begins with

abbrev pub LeftByForce : {D : Type 0} → (D → List Cell) → Geometry → ℕ → Store D → Freed → List Sector → Type 0
LeftByForce cells g base store freed image = (t : Table) (layouts : Layouts) → IsStoreOf g t layouts (state_of store) (cells store.disk)
    → AreFreed g t layouts base store.queue.items freed → HasFreed t layouts base (length (keys_to_free t layouts)) image

abbrev pub LeftByFrees : {D : Type 0} → (D → List Cell) → Geometry → ℕ → Store D → List StateValue → List Sector → Type 0
LeftByFrees cells g base store states image = (t : Table) (layouts : Layouts) → IsStoreOf g t layouts (state_of store) (cells store.disk) → closed t ≡ t
    → AreGroupsOf g t layouts states → HasFreed t layouts base (length (keys_to_free t layouts)) image

abbrev pub LeftByBegin : Geometry → Start → List Cell → List StateValue → List Sector → Type 0
LeftByBegin g start cells states image = (t : Table) (layouts : Layouts) → IsClean g t layouts start cells → AreGroupsOf g t layouts states
    → HasFreed t layouts start.next_commit (length (keys_to_free t layouts)) image

abbrev pub LeftByRise : Geometry → Start → List Cell → List Sector → Type 0
LeftByRise g start cells image = (t : Table) (layouts : Layouts) → IsClean g t layouts start cells
    → HasFreed t layouts start.next_commit (length (keys_to_free t layouts)) image
