-- What a replay makes of a disk.
use Rattle.std.specs.Prelude.{ℕ, ◌≡◌, ◌≢◌, ◌≤◌, ◌+◌, ◌⊎◌, List, None, Result, IfErr, OnErr, length, slice_index_or, slice_set}
use Rattle.life_limits.specs.declared.TheConstants.{MOUNT_LIMIT}
use Rattle.life_bytes.specs.declared.sector.Sector.{Sector}
use Rattle.life_ports.specs.Faults.{NeverFalls, Rose}
use Rattle.disk_model.specs.Disk.{Cell, HasOneImage, as_read}
use Rattle.log_record.specs.declared.image.Image.{Image}
use Rattle.log_image.specs.Anchor.{HasAnchor, anchor_sector}
use Rattle.log_image.specs.Log.{AreBelow, IsLog, Log, groups_part, replayed, ring_part}
use Rattle.log_image.specs.Overlay.{newest, overlaid}
use Rattle.recovery.specs.declared.found.Found.{Found}
use Rattle.recovery.specs.declared.start.ReplayFault.{ReplayFault}
use Rattle.recovery.specs.declared.start.ReplayFault.TheVariants.{WriteFault, FlushFault, PositionEnd}
use Rattle.recovery.specs.declared.start.Start.{Start}

-- the groups' sectors of an image, with what was found over them
abbrev pub groups_found : ℕ → List Sector → Found → List Sector
groups_found anchor image found = overlaid (groups_part anchor image) found.images

-- An image has a right log, replays to these sectors of the groups, and goes on with this commit number.
pub record Recovers (anchor ring : ℕ) (groups : List Sector) (next : ℕ) (image : List Sector) : Type 0 where
  pub log : Log
  pub says : IsLog image anchor ring log
  pub groups_are : replayed anchor image log.records ≡ groups
  pub number : log.next ≡ next

-- Nothing but the homes of some images and the anchor's sector was changed: each other sector is as before, behind the image too.
pub record LeavesOthers (anchor : ℕ) (images : List Image) (old new : List Sector) : Type 0 where
  pub size : length new ≡ length old
  pub others : (at : ℕ) (d : Sector) → at ≢ anchor → newest at images ≡ None → slice_index_or new at d ≡ slice_index_or old at d

-- what a stop within a replay leaves: an image that recovers to the same groups, with nothing else changed
pub record IsOfReplay (anchor ring : ℕ) (found : Found) (old new : List Sector) : Type 0 where
  pub recovers : Recovers anchor ring (groups_found anchor old found) found.next_commit new
  pub others : LeavesOthers anchor found.images old new

-- sectors with what was found brought home, and the anchor with which the log begins anew
abbrev pub brought_home : ℕ → List Sector → Found → Start → List Sector
brought_home anchor old found start = slice_set (overlaid old found.images) anchor (anchor_sector start.position start.next_commit)

-- where the log begins anew: one turn of the ring behind its end, with the next commit number
pub record IsBehind (ring : ℕ) (found : Found) (start : Start) : Type 0 where
  pub position : start.position ≡ found.end + ring
  pub number : start.next_commit ≡ found.next_commit

-- that position, or that number, is one with which no image is mounted
abbrev pub AreUsedUp : ℕ → Found → Type 0
AreUsedUp ring found = (MOUNT_LIMIT ≤ found.end + ring) ⊎ (MOUNT_LIMIT ≤ found.next_commit)

-- The log of a disk begins anew: the disk has one image, which has the anchor, no sector of the ring has reached the
-- anchor's position, and the groups read as these sectors.
pub record BeginsAnew (anchor ring : ℕ) (groups : List Sector) (cells : List Cell) (start : Start) : Type 0 where
  pub one : HasOneImage cells
  pub anchor_is : HasAnchor (as_read cells) anchor ring start.position start.next_commit
  pub below : AreBelow (ring_part anchor ring (as_read cells)) start.position
  pub groups_read : groups_part anchor (as_read cells) ≡ groups

-- the image is the old one, or the sector was put into it
abbrev pub IsEither : List Sector → ℕ → Sector → List Sector → Type 0
IsEither old at sector image = (image ≡ old) ⊎ (image ≡ slice_set old at sector)

-- a write or a flush failed
abbrev pub IsOfDevice : ReplayFault → Type 0
IsOfDevice WriteFault = Unit {0}
IsOfDevice FlushFault = Unit {0}
IsOfDevice PositionEnd = ⊥

-- a call failed only at a write or a flush, and only where the disk's count rose
pub record HasDeviceCause {T : Type 0} (result : Result T ReplayFault) (before now : ℕ) : Type 0 where
  pub never_falls : NeverFalls before now
  pub failed : OnErr result (Rose before now)
  pub kind : IfErr result IsOfDevice
