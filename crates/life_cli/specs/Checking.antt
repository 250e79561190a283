-- What the check of an image comes to.
use Rattle.std.specs.Prelude.{◌≡◌, ◌++◌, ◌⊎◌, ⊤, ℕ, Bool, IsTrue, IsSome, List, [], ◌∷◌, Option}
use Rattle.std.specs.Option.{IfSome, MatchOption}
use Rattle.life_bytes.specs.declared.sector.Sector.{Sector}
use Rattle.life_ports.specs.Faults.{Rose}
use Rattle.disk_model.specs.Disk.{Cell, HasOneImage, as_read, settled_as}
use Rattle.disk_model.specs.Images.{Given, attached}
use Rattle.geometry.specs.declared.shape.Damaged.{Damaged}
use Rattle.geometry.specs.Shape.{IsGeometry}
use Rattle.inspect.specs.declared.fault.InspectFault.{InspectFault}
use Rattle.inspect.specs.declared.fault.InspectFault.TheVariants as fault
use Rattle.inspect.specs.Inspected.{IsSoundWith}
use Rattle.whole_image.specs.Damage.{IsFirstDamage, IsSound}
use Rattle.script.specs.declared.status.Status.{Status}
use Rattle.script.specs.declared.status.Status.TheVariants as status
use Rattle.life_table.specs.declared.types.MountRecord.{MountRecord}
use Rattle.script.specs.declared.answers.GroupStory.{GroupStory}
use Rattle.script.specs.declared.answers.Said.{Said}
use Rattle.life_cli.specs.declared.checking.Numbers.{Numbers}
use Rattle.life_cli.specs.Outcome.{IsEarly, Yields}
use Rattle.life_cli.specs.Outside.{ImagesSeen, image_before}

-- how a check ends that found a fault
abbrev pub fault_status : InspectFault → Status
fault_status (fault.Damaged rule sector) = status.Damaged rule sector
fault_status fault.ReadFault = status.ReadFault
fault_status fault.NoMemory = status.NoMemory

-- how a check may end before its output is written
abbrev pub EndsCheck : Status → Type 0
EndsCheck status.Good = ⊤
EndsCheck status.Usage = ⊥
EndsCheck (status.ScriptFault line rule) = ⊥
EndsCheck status.ScriptTooLong = ⊥
EndsCheck status.OpenFault = ⊤
EndsCheck status.SourceFault = ⊥
EndsCheck status.SinkFault = ⊥
EndsCheck (status.Damaged rule sector) = ⊤
EndsCheck status.ReadFault = ⊤
EndsCheck status.WriteFault = ⊥
EndsCheck status.FlushFault = ⊥
EndsCheck status.PositionEnd = ⊥
EndsCheck status.NoMemory = ⊤
EndsCheck (status.Down fault) = ⊥

-- a check ended so, unless a read failed or memory lacked
abbrev pub YieldsChecked : Status → Status → Type 0
YieldsChecked ended expected = (ended ≡ status.ReadFault) ⊎ Yields ended expected

-- What a check said of an image: that it is sound, with these numbers; or its first damage, exactly. Otherwise a read failed or memory lacked.
pub record IsRightAbout (image : List Sector) (ended : Status) (found : Option Numbers) : Type 0 where
  pub sound : IfSome found (λ n. (next : ℕ) × IsSoundWith image n.geometry n.tables next)
  pub first_damage : (rule sector : ℕ) → ended ≡ status.Damaged rule sector → IsFirstDamage image (record { rule = rule; sector = sector })
  pub complete : IsSound image → YieldsChecked ended status.Good
  pub exact : (damage : Damaged) → IsFirstDamage image damage → YieldsChecked ended (status.Damaged damage.rule damage.sector)

-- A disk was attached, with so many faults then, and now it has these cells and faults. Its one image is as it was, and the check speaks of it.
pub record IsChecking (known : Bool) (cells : List Cell) (before after : ℕ) (ended : Status) (found : Option Numbers) : Type 0 where
  pub right : IsTrue known → IsRightAbout (as_read cells) ended found
  -- the numbers are there where it ended well, and are of a geometry within the limits
  pub numbers : ended ≡ status.Good → IsSome found
  pub within : IfSome found (λ n. IsGeometry n.geometry)
  pub read_fault : ended ≡ status.ReadFault → Rose before after
  pub given : ended ≡ status.OpenFault → ⊥

-- What a check leaves: where nothing was given, the image could not be opened. Else one disk was attached, whose one image is the one that stood there.
abbrev pub Checks : {D : Type 0} → Bool → (D → List Cell) → (D → ℕ) → List ℕ → Option (List Sector) → List Given → List Given → Option D → Status → Option Numbers → Type 0
Checks known cells faults path image old new disk ended found =
    MatchOption disk ((new ≡ old) × Yields ended status.OpenFault)
    (λ d. (count : ℕ) × (new ≡ old ++ attached path count ∷ []) × IfSome image (λ held. cells d ≡ settled_as held) × (IsTrue known → HasOneImage (cells d))
    × IsChecking known (cells d) count (faults d) ended found)

-- A check of the image at a path: the images before and after it, the run's own status, the disk that is handed back, the numbers that are written, and what it
-- tells.
pub record RunsCheck {I D : Type 0} (seen : ImagesSeen I D) (path : List ℕ) (images images_after : I)
    (own : Status) (disk : Option D) (found : Option Numbers) (mounts : List MountRecord) (groups : List GroupStory) (said : List Said) : Type 0 where
  -- it ends in no other way
  pub ends : EndsCheck own
  pub open_fault : own ≡ status.OpenFault → Rose (seen.faults images) (seen.faults images_after)
  -- The disk at the path was attached and checked, and every image of it is as it was; or none could be attached.
  pub checks : Checks seen.known seen.cells seen.disk_faults path (image_before seen images path) (seen.given images) (seen.given images_after) disk own found
  -- it gives no answers
  pub early : IsEarly mounts groups said
