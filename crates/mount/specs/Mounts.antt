-- What a mount comes to.
use Rattle.std.specs.Prelude.{◌≡◌, ◌≤◌, ◌<◌, ◌+◌, ◌*◌, ℕ, Bool, List, [], Option, None, Some, Result, Ok, Err, All, length, map, take}
use Rattle.std.specs.List.{range_with_len}
use Rattle.life_limits.specs.declared.TheConstants.{MAX_ACTORS, MAX_NUMBERS, MAX_RECORD_SECTORS, MOUNT_LIMIT}
use Rattle.life_bytes.specs.declared.sector.Sector.{Sector}
use Rattle.disk_model.specs.Disk.{Arming, Cell, IsAfterWrites, IsImage, as_read}
use Rattle.geometry.specs.declared.shape.Geometry.{Geometry}
use Rattle.geometry.specs.Places.{anchor_of}
use Rattle.life_table.specs.declared.key.Key.{Key}
use Rattle.life_table.specs.declared.types.MountRecord.{MountRecord}
use Rattle.life_table.specs.declared.table.Table.{Table}
use Rattle.life_table.specs.History.{closed, frees_of, recovered}
use Rattle.log_store.specs.declared.store.Job.TheVariants.{Idle}
use Rattle.log_store.specs.declared.store.Stage.TheVariants.{Free}
use Rattle.log_store.specs.State.{state_of}
use Rattle.log_store.specs.Steps.{IsStore}
use Rattle.sound_image.specs.Encoding.{CanEncode, Layouts}
use Rattle.whole_image.specs.Damage.{IsSound}
use Rattle.whole_image.specs.Represents.{Represents}
use Rattle.group_core.specs.Value.{GroupValue}
use Rattle.group_ops.specs.Values.{StateValue}
use Rattle.orphan_frees.specs.Loaded.{AreGroupsOf}
use Rattle.orphan_frees.specs.Order.{keys_to_free, unlisted_all}
use Rattle.mount.specs.Ending.{IsStoreOf}
use Rattle.mount.specs.Images.{HasFreed, IsImageOf}
use Rattle.mount.specs.Left.{Arms, IsHandedBack}
use Rattle.mount.specs.declared.fault.MountFault.{MountFault}
use Rattle.mount.specs.declared.mounted.Mounted.{Mounted}
use Rattle.mount.specs.declared.mounted.NotMounted.{NotMounted}
use Rattle.mount.specs.declared.recovering.Recovery.{Recovery}

-- the disk, whatever a mount came to
abbrev pub disk_of : {D : Type 0} → Result (Mounted D) (NotMounted D) → D
disk_of (Ok mounted) = mounted.store.disk
disk_of (Err down) = down.disk

-- What is recorded of a mount that freed these keys and had no call yet: its changes are numbered from here on, it keeps none of another one, and each free stands at its
-- own place.
pub record IsStoryOf (next : ℕ) (keys : List Key) (acknowledged : ℕ) (story : MountRecord) : Type 0 where
  pub base : story.base ≡ next
  pub kept : story.kept ≡ 0
  pub freed : story.freed ≡ length keys
  pub entries : story.entries ≡ frees_of MAX_ACTORS keys
  pub froms : story.froms ≡ range_with_len 0 (length keys)
  pub acknowledged_is : story.acknowledged ≡ acknowledged

-- ---- it came up

-- the states of groups
abbrev pub states_of : List (GroupValue StateValue) → List StateValue
states_of groups = map (λ (group : GroupValue StateValue). group.state) groups

-- Over an image of a table all of its rows without links were freed, durably: the groups are those of the recovered table, the log lies behind sectors that encode it, and
-- a stop from then on leaves it.
pub record IsMountOf {D : Type 0} (cells : D → List Cell) (g : Geometry) (t : Table) (layouts : Layouts) (next : ℕ) (mounted : Mounted D) : Type 0 where
  pub geometry : mounted.geometry ≡ g
  pub story : IsStoryOf next (keys_to_free t layouts) (length (keys_to_free t layouts)) mounted.story
  pub groups : AreGroupsOf g (recovered t) (unlisted_all layouts (keys_to_free t layouts)) (states_of mounted.groups.items)
  pub store : IsStoreOf g (recovered t) (unlisted_all layouts (keys_to_free t layouts)) (state_of mounted.store) (cells mounted.store.disk)
  pub represents : (image : List Sector) → IsImage (cells mounted.store.disk) image → Represents image (recovered t) (next + length (keys_to_free t layouts))

-- Whatever tells of the disk: there is a table that sectors can encode, of which nobody holds an inode, and all of its rows without links were freed, durably; the groups are
-- those of the recovered table, and nothing happened to them since; and the store has the log behind them, and nothing waits in it.
pub record IsUp {D : Type 0} (known : Bool) (cells : D → List Cell) (sector_count : D → ℕ) (mounted : Mounted D) : Type 0 where
  pub start : Table
  pub lists : Layouts
  pub sectors : List Sector
  pub can : CanEncode mounted.geometry start lists sectors
  pub unheld : closed start ≡ start
  pub groups : AreGroupsOf mounted.geometry (recovered start) (unlisted_all lists (keys_to_free start lists)) (states_of mounted.groups.items)
  pub fresh : All (λ (group : GroupValue StateValue). group.history ≡ []) mounted.groups.items
  pub story : IsStoryOf mounted.story.base (keys_to_free start lists) (length (keys_to_free start lists)) mounted.story
  pub few : mounted.story.freed ≤ MAX_NUMBERS
  pub store : IsStore known cells sector_count mounted.store
  pub place : (mounted.store.anchor ≡ anchor_of mounted.geometry) × (mounted.store.ring ≡ mounted.geometry.ring)
  pub rests : (mounted.store.job ≡ Idle) × (mounted.store.stage ≡ Free)
  pub list : mounted.store.queue.items ≡ []
  pub durable : mounted.store.durable + 1 ≡ mounted.story.base + mounted.story.freed
  pub number : (1 ≤ mounted.story.base) × (mounted.story.base < MOUNT_LIMIT)
  pub position : mounted.store.positions.head < MOUNT_LIMIT + (MAX_RECORD_SECTORS + 1) * mounted.story.freed

-- ---- it did not

-- the record of a mount that did not come up is of the frees of some keys, and acknowledges none
abbrev pub IsBegun : Option MountRecord → Type 0
IsBegun None = Unit {0}
IsBegun (Some story) = (keys : List Key) × IsStoryOf story.base keys 0 story × (length keys ≤ MAX_NUMBERS) × (1 ≤ story.base) × (story.base < MOUNT_LIMIT)

-- Over an image of a table some first rows without links were freed, of which each image that the disk may leave has some first.
pub record IsBegunOver (t : Table) (layouts : Layouts) (next : ℕ) (story : MountRecord) (cells : List Cell) : Type 0 where
  pub count : ℕ
  pub within : count ≤ length (keys_to_free t layouts)
  pub story_is : IsStoryOf next (take count (keys_to_free t layouts)) 0 story
  pub left : (image : List Sector) → IsImage cells image → HasFreed t layouts next count image

-- What is left of the disk, by what was recorded: where there is no record, what a recovery that failed leaves; else the image was sound, and was recovered.
abbrev pub IsLeftDown : Option MountRecord → MountFault → List Cell → List Cell → Type 0
IsLeftDown None fault old new = IsHandedBack {T = Recovery} (Err fault) old new
IsLeftDown (Some story) fault old new = IsSound (as_read old)
    × ((g : Geometry) (t : Table) (layouts : Layouts) (next : ℕ) → IsImageOf g t layouts next (as_read old) → IsBegunOver t layouts next story new)

-- what it leaves armed
abbrev pub ArmsDown : Option MountRecord → MountFault → Arming → Arming → Type 0
ArmsDown None fault old new = Arms {T = Recovery} (Err fault) old new
ArmsDown (Some story) fault old new = IsAfterWrites old new
