-- What the making of an image leaves of a disk.
use Rattle.std.specs.Prelude.{◌≡◌, ◌⊎◌, ⊤, ℕ, Bool, IsTrue, List, Result, Ok, Err}
use Rattle.life_bytes.specs.declared.sector.Sector.{Sector}
use Rattle.life_bytes.specs.Sectors.{zero_sector}
use Rattle.disk_model.specs.Disk.{Arming, CallKind, Cell, Elapses, IsAfterWrites, IsImage}
use Rattle.disk_model.specs.Disk.CallKind.{FlushCall, WriteCall}
use Rattle.geometry.specs.declared.shape.Geometry.{Geometry}
use Rattle.life_table.specs.Table.{empty_table}
use Rattle.sound_image.specs.Places.{bytes_at}
use Rattle.sound_image.specs.Superblocks.{HasSuperblock}
use Rattle.whole_image.specs.Damage.{FirstDamage}
use Rattle.whole_image.specs.Damage.ImageRule.{superblock}
use Rattle.whole_image.specs.Represents.{Represents}
use Rattle.image_make.specs.declared.fault.MakeFault.{MakeFault}
use Rattle.image_make.specs.declared.fault.MakeFault.TheVariants.{FlushFault, WriteFault}
use Rattle.image_make.specs.Empty.{IsFinished}

-- an image whose sector 0 is zero, and a disk of which a stop leaves no other
abbrev pub IsBlank : List Sector → Type 0
IsBlank image = bytes_at image 0 ≡ zero_sector.bytes

abbrev pub LeavesBlank : List Cell → Type 0
LeavesBlank cells = (image : List Sector) → IsImage cells image → IsBlank image

-- an image with this geometry that represents the table without chunks; its next commit is the first, and each of its sectors is as it was made
abbrev pub IsEmptyImage : Geometry → List Sector → Type 0
IsEmptyImage g image = HasSuperblock g image × Represents image (empty_table g.version g.groups g.blocks) 1 × IsFinished g image

-- an image that has no superblock, or is the empty one
abbrev pub IsBlankOrEmpty : Geometry → List Sector → Type 0
IsBlankOrEmpty g image = FirstDamage image superblock 0 ⊎ IsEmptyImage g image

-- Calls of a disk: each image that a stop then leaves, and each that a stop in them left, has P; the disk has as many sectors as before, and it is armed
-- as some number of writes leaves it.
pub record LeavesOnly {D : Type 0} (known : Bool) (cells : D → List Cell) (sector_count moment : D → ℕ) (arming : D → Arming) (left : D → ℕ → List Sector → Type 0)
    (P : List Sector → Type 0) (old new : D) : Type 0 where
  pub images : IsTrue known → (image : List Sector) → IsImage (cells new) image → P image
  pub moments : IsTrue known → Elapses (moment old) (moment new) (left old) (left new) P
  pub sectors : sector_count new ≡ sector_count old
  pub armed : IsAfterWrites (arming old) (arming new)

-- By the answer of a make, of what kind alone were the calls that failed: where it ended well, none failed.
abbrev pub FailedOnly : Result ⊤ MakeFault → (CallKind → Type 0) → Type 0
FailedOnly (Ok made) only_failed = (kind : CallKind) → only_failed kind
FailedOnly (Err WriteFault) only_failed = only_failed WriteCall
FailedOnly (Err FlushFault) only_failed = only_failed FlushCall
