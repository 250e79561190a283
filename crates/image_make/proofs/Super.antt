-- The write of the superblock.
use Rattle.std.proofs.Common.{◌≡◌, ◌≤◌, ◌+◌, List, [], ◌∷◌, length, sym, ap, subst, ◌∙◌, inl, inr, arith}
use Rattle.life_bytes.specs.declared.sector.Sector.{Sector}
use Rattle.disk_model.specs.Disk.{Cell, HasOneImage, IsImage, as_read, written}
use Rattle.disk_model.specs.DiskLaws.{as_read-written, length-as_read}
use Rattle.geometry.specs.declared.shape.Geometry.{Geometry}
use Rattle.geometry.specs.Shape.{IsGeometry}
use Rattle.geometry.specs.Superblock.{superblock_encoding}
use Rattle.image_make.specs.Empty.{IsFinished, AwaitsSuperblock}
use Rattle.image_make.specs.Outcome.{IsBlank, IsBlankOrEmpty, IsEmptyImage}
use Rattle.image_make.proofs.Sectors.{finished_from, super_left, awaits_blank}

-- the laws of images with and without a superblock
pub record Laws : Type 0 where
  pub blank : (g : Geometry) (image : List Sector) → IsBlank image → IsBlankOrEmpty g image
  pub finished : (g : Geometry) (image : List Sector) → IsGeometry g → IsFinished g image → IsEmptyImage g image

-- what a stop leaves
pub left : Laws → (g : Geometry) (sector : Sector) (cells : List Cell) (image : List Sector) → IsGeometry g → sector.bytes ≡ superblock_encoding g → HasOneImage cells → AwaitsSuperblock g (as_read cells)
    → IsImage (written 0 (sector ∷ []) cells) image → IsBlankOrEmpty g image
left laws g sector cells image shape encodes one awaits is = elim (super_left sector cells image one is) [
  | inl old ↦ laws.blank g image (subst IsBlank (sym old) (awaits_blank g (as_read cells) shape awaits))
  | inr new ↦ inr (laws.finished g image shape (subst (IsFinished g) (sym new) (finished_from g (as_read cells) sector shape encodes awaits)))
]

-- what reads then give
pub read : Laws → (g : Geometry) (sector : Sector) (cells new : List Cell) → IsGeometry g → sector.bytes ≡ superblock_encoding g → AwaitsSuperblock g (as_read cells) → new ≡ written 0 (sector ∷ []) cells
    → IsEmptyImage g (as_read new)
read laws g sector cells new shape encodes awaits is =
    let fits : 0 + 1 ≤ length cells = omega (arith, awaits.size, length-as_read cells) in
    let there = ap as_read is ∙ as_read-written 0 (sector ∷ []) cells fits in
    laws.finished g (as_read new) shape (subst (IsFinished g) (sym there) (finished_from g (as_read cells) sector shape encodes awaits))
