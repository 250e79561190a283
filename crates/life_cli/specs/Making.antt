-- What the making of an image comes to.
use Rattle.std.specs.Prelude.{◌≡◌, ◌+◌, ◌++◌, ◌⊎◌, ⊤, ℕ, Bool, IsTrue, List, [], ◌∷◌, Option, Result, Ok, Err}
use Rattle.std.specs.Option.{MatchOption}
use Rattle.life_bytes.specs.declared.sector.Sector.{Sector}
use Rattle.life_ports.specs.Faults.{Rose}
use Rattle.disk_model.specs.Disk.{Cell, HasOneImage, IsImage, as_read}
use Rattle.disk_model.specs.Images.{Given, created}
use Rattle.geometry.specs.declared.shape.Geometry.{Geometry}
use Rattle.geometry.specs.Places.{anchor_of}
use Rattle.image_make.specs.declared.fault.MakeFault.{MakeFault}
use Rattle.image_make.specs.declared.fault.MakeFault.TheVariants as fault
use Rattle.image_make.specs.Empty.{AwaitsSuperblock}
use Rattle.image_make.specs.Outcome.{IsBlankOrEmpty, IsEmptyImage}
use Rattle.script.specs.declared.status.Status.{Status}
use Rattle.script.specs.declared.status.Status.TheVariants as status
use Rattle.life_table.specs.declared.types.MountRecord.{MountRecord}
use Rattle.script.specs.declared.answers.GroupStory.{GroupStory}
use Rattle.script.specs.declared.answers.Said.{Said}
use Rattle.life_cli.specs.Outcome.{IsEarly, Yields}
use Rattle.life_cli.specs.Outside.{ImagesSeen}

-- sectors of an image
abbrev pub sectors_of : Geometry → ℕ
sectors_of g = anchor_of g + 1 + g.ring

-- how a make ends that was given a disk
abbrev pub make_status : Result ⊤ MakeFault → Status
make_status (Ok _) = status.Good
make_status (Err fault.WriteFault) = status.WriteFault
make_status (Err fault.FlushFault) = status.FlushFault

-- how a make may end before its output is written
abbrev pub EndsMake : Status → Type 0
EndsMake status.Good = ⊤
EndsMake status.Usage = ⊥
EndsMake (status.ScriptFault line rule) = ⊥
EndsMake status.ScriptTooLong = ⊥
EndsMake status.OpenFault = ⊤
EndsMake status.SourceFault = ⊥
EndsMake status.SinkFault = ⊥
EndsMake (status.Damaged rule sector) = ⊥
EndsMake status.ReadFault = ⊥
EndsMake status.WriteFault = ⊤
EndsMake status.FlushFault = ⊤
EndsMake status.PositionEnd = ⊥
EndsMake status.NoMemory = ⊤
EndsMake (status.Down fault) = ⊥

-- A disk was created for an image, with so many faults then, and now it has these cells, sectors and faults. Where the run ended well, its one image is the
-- empty one. Each image that a stop may leave has no superblock, or is that one.
pub record IsMaking (known : Bool) (g : Geometry) (cells : List Cell) (sectors before after : ℕ) (ended : Status) : Type 0 where
  pub size : sectors ≡ sectors_of g
  pub made : ended ≡ status.Good → IsTrue known → HasOneImage cells × IsEmptyImage g (as_read cells)
  pub crash_safe : IsTrue known → (image : List Sector) → IsImage cells image → IsBlankOrEmpty g image
  pub write_fault : ended ≡ status.WriteFault → Rose before after
  pub flush_fault : ended ≡ status.FlushFault → Rose before after
  pub read_back : ended ≡ status.FlushFault → IsTrue known → AwaitsSuperblock g (as_read cells) ⊎ IsEmptyImage g (as_read cells)
  pub complete : (ended ≡ status.WriteFault) ⊎ ((ended ≡ status.FlushFault) ⊎ Yields ended status.Good)

-- What a make leaves: where nothing was given, the image could not be created. Else one disk was created, and made.
abbrev pub Makes : {D : Type 0} → Bool → (D → List Cell) → (D → ℕ) → (D → ℕ) → List ℕ → Geometry → List Given → List Given → Option D → Status → Type 0
Makes known cells sectors faults path g old new disk ended =
    MatchOption disk ((new ≡ old) × Yields ended status.OpenFault)
    (λ d. (count : ℕ) × (new ≡ old ++ created path count ∷ []) × IsMaking known g (cells d) (sectors d) count (faults d) ended)

-- A run that makes an image of this geometry at a path: the images before and after it, the run's own status, the disk that is handed back, and what it tells.
pub record RunsMake {I D : Type 0} (seen : ImagesSeen I D) (path : List ℕ) (g : Geometry) (images images_after : I)
    (own : Status) (disk : Option D) (mounts : List MountRecord) (groups : List GroupStory) (said : List Said) : Type 0 where
  -- it ends in no other way
  pub ends : EndsMake own
  pub open_fault : own ≡ status.OpenFault → Rose (seen.faults images) (seen.faults images_after)
  -- A disk was created and made, or none could be created. What stands there where it ended well is the image without a file.
  pub makes : Makes seen.known seen.cells seen.sectors seen.disk_faults path g (seen.given images) (seen.given images_after) disk own
  -- it gives no answers
  pub early : IsEarly mounts groups said
