-- What the first sector of an image tells, and that there is none.
use Rattle.std.proofs.Common.{◌≡◌, ◌+◌, ◌*◌, ◌<◌, ◌≤◌, ℕ, List, [], ◌∷◌, Some, length, slice_get, refl, ap, sym, subst, ◌∙◌, arith}
use Rattle.std.proofs.lemmas.Option.{get_or_from_slice_get}
use Rattle.life_bytes.specs.declared.sector.Sector.{Sector}
use Rattle.life_bytes.specs.Sectors.{zero_sector}
use Rattle.geometry.specs.declared.shape.Damaged.{Damaged}
use Rattle.geometry.specs.declared.shape.Geometry.{Geometry}
use Rattle.geometry.specs.Places.{group_sectors}
use Rattle.geometry.specs.Shape.{IsGeometry}
use Rattle.geometry.specs.Superblock.{superblock_encoding}
use Rattle.sound_image.specs.Places.{bytes_at}
use Rattle.sound_image.specs.Superblocks.{HasSuperblock, IsLongEnough}
use Rattle.whole_image.specs.Front.{IsSuperblockRight}
use Rattle.whole_image.specs.Damage.{FirstDamage, size, superblock}
use Rattle.inspect.specs.Faults.{NamesFirstDamage, of_superblock}

shown : (image : List Sector) (sector : Sector) → slice_get image 0 ≡ Some sector → bytes_at image 0 ≡ sector.bytes
unfolding bytes_at
shown image sector one = ap (λ (s : Sector). s.bytes) (get_or_from_slice_get image 0 sector zero_sector one)

pub nothing_shown : (image : List Sector) → length image ≡ 0 → bytes_at image 0 ≡ zero_sector.bytes
unfolding bytes_at
nothing_shown [] none = refl
nothing_shown (sector ∷ image) none = absurd (omega arith)

pub superblock_is : (g : Geometry) (image : List Sector) (sector : Sector) → slice_get image 0 ≡ Some sector → IsGeometry g → sector.bytes ≡ superblock_encoding g
    → HasSuperblock g image
superblock_is g image sector one shape encoded = record { shape = shape; encoded = shown image sector one ∙ encoded }

pub superblock_is_wrong : (image : List Sector) (sector : Sector) → slice_get image 0 ≡ Some sector
    → ((g : Geometry) → IsGeometry g → sector.bytes ≡ superblock_encoding g → ⊥) → ¬ IsSuperblockRight image
superblock_is_wrong image sector one none right = none right.0 right.1.shape (sym (shown image sector one) ∙ right.1.encoded)

-- the damage of a superblock, and of a size
pub first_of_superblock : (image : List Sector) (damage : Damaged) → damage ≡ record { rule = 1; sector = 0 }
    → ((other : List Sector) → ¬ IsSuperblockRight other → FirstDamage other superblock 0) → ¬ IsSuperblockRight image → NamesFirstDamage image (of_superblock damage)
first_of_superblock image damage is law wrong =
    subst (λ (d : Damaged). NamesFirstDamage image (of_superblock d)) (sym is) (superblock, refl, law image wrong)

pub first_of_size : (g : Geometry) (image : List Sector) (sectors : ℕ) → length image ≡ sectors → sectors < g.groups * group_sectors g + 1 + g.ring → HasSuperblock g image
    → ((h : Geometry) (other : List Sector) → HasSuperblock h other → ¬ IsLongEnough h other → FirstDamage other size (length other))
    → FirstDamage image size sectors
first_of_size g image sectors long short has law =
    subst (λ (n : ℕ). FirstDamage image size n) long (law g image has (λ enough. absurd (omega arith)))
