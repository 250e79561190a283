-- Sound images with all their rules, and the first damage of one that is not sound.
use Rattle.std.specs.Prelude.{◌≡◌, ◌<◌, ◌≤◌, ℕ, List, length}
use Rattle.life_bytes.specs.declared.sector.Sector.{Sector}
use Rattle.geometry.specs.declared.shape.Geometry.{Geometry}
use Rattle.geometry.specs.declared.shape.Damaged.{Damaged}
use Rattle.geometry.specs.Places.{anchor_of}
use Rattle.sound_image.specs.Damage.{Rule}
use Rattle.sound_image.specs.Damage.{groups_rule_number as number_in_groups}
use Rattle.sound_image.specs.Damage.{GroupsHold as HoldsInGroups}
use Rattle.sound_image.specs.Damage.{GroupsBreak as BreaksInGroups}
use Rattle.sound_image.specs.Superblocks.{HasSuperblock, IsLongEnough}
use Rattle.log_image.specs.Anchor.{HasAnchor}
use Rattle.log_image.specs.Log.{Log, IsLog, replayed}
use Rattle.log_image.specs.Damage.{AnchorBreaks, LogBreaks}
use Rattle.whole_image.specs.Front.{ring_of, IsSuperblockRight, IsAnchorRight, IsLogRight}

-- what the rules are about, in the order in which they are checked; those of the groups are eight
pub data ImageRule : Type 0 where
  superblock : ImageRule
  size : ImageRule
  anchor : ImageRule
  log : ImageRule
  of_groups : Rule → ImageRule

-- the number of a rule
abbrev pub image_rule_number : ImageRule → ℕ
image_rule_number superblock = 1
image_rule_number size = 2
image_rule_number anchor = 3
image_rule_number log = 4
image_rule_number (of_groups rule) = number_in_groups rule

-- An image has the superblock of a geometry, and its anchor and its log are right: the log is this one.
pub record HasFrontAndLog (g : Geometry) (image : List Sector) (said : Log) : Type 0 where
  pub superblock : HasSuperblock g image
  pub log : IsLog image (anchor_of g) g.ring said

-- its groups, once the log is replayed
abbrev pub groups_of : Geometry → List Sector → Log → List Sector
groups_of g image said = replayed (anchor_of g) image said.records

-- A rule holds. Each but the first is of the geometry that the superblock has, the fourth also of the numbers that the anchor has, and those of the
-- groups are of the replayed image; where there is no such thing they say nothing.
abbrev pub ImageHolds : List Sector → ImageRule → Type 0
ImageHolds image superblock = IsSuperblockRight image
ImageHolds image size = (g : Geometry) → HasSuperblock g image → IsLongEnough g image
ImageHolds image anchor = (g : Geometry) → HasSuperblock g image → IsAnchorRight g image
ImageHolds image log = (g : Geometry) (position next : ℕ) → HasSuperblock g image → HasAnchor image (anchor_of g) g.ring position next → IsLogRight g image position next
ImageHolds image (of_groups rule) = (g : Geometry) (said : Log) → HasFrontAndLog g image said → HoldsInGroups g (groups_of g image said) rule

-- it is broken at a sector
abbrev pub ImageBreaks : List Sector → ImageRule → ℕ → Type 0
ImageBreaks image superblock s = (s ≡ 0) × ¬ IsSuperblockRight image
ImageBreaks image size s = (g : Geometry) × HasSuperblock g image × (s ≡ length image) × ¬ IsLongEnough g image
ImageBreaks image anchor s = (g : Geometry) × HasSuperblock g image × AnchorBreaks image (anchor_of g) g.ring s
ImageBreaks image log s = (g : Geometry) × (position : ℕ) × (next : ℕ) × HasSuperblock g image × HasAnchor image (anchor_of g) g.ring position next × LogBreaks (ring_of g image) (anchor_of g) position s
ImageBreaks image (of_groups rule) s = (g : Geometry) × (said : Log) × HasFrontAndLog g image said × BreaksInGroups g (groups_of g image said) rule s

-- the image is sound
abbrev pub IsSound : List Sector → Type 0
IsSound image = (rule : ImageRule) → ImageHolds image rule

-- the least rule that is broken, and the least sector at which it is
pub record FirstDamage (image : List Sector) (rule : ImageRule) (s : ℕ) : Type 0 where
  pub before : (other : ImageRule) → image_rule_number other < image_rule_number rule → ImageHolds image other
  pub broken : ImageBreaks image rule s
  pub least : (other : ℕ) → ImageBreaks image rule other → s ≤ other

-- the first damage, as it is reported
abbrev pub IsFirstDamage : List Sector → Damaged → Type 0
IsFirstDamage image damage = (rule : ImageRule) × (damage.rule ≡ image_rule_number rule) × FirstDamage image rule damage.sector
