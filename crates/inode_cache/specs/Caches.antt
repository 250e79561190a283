-- The inodes of a group that are in core, as a finite map.
use Rattle.std.specs.Prelude.{◌≡◌, ◌<◌, ℕ, Bool, true, false, List, Option, None, Some, IsSomeAnd, nat_eq, refl}
use Rattle.std.specs.Map.{lookup}
use Rattle.std.specs.Ordering.{nat_cmp}
use Rattle.std.specs.FinMap as map
use Rattle.std.specs.FinMap.{FinMap}
use Rattle.std.specs.Coded.{Coded, code_by, coded×, coded_ℕ, coded_list}
use Rattle.life_limits.specs.declared.TheConstants.{GROUP_NUMBERS}
use Rattle.inode_cache.specs.declared.inode.Incore.{Incore}
use Rattle.inode_cache.specs.declared.inode.Kept.{Kept}
use Rattle.inode_cache.specs.Codes.{kept_code}
use Rattle.inode_cache.specs.Inodes.{IsIncore}
use Rattle.inode_cache.specs.Numbers.{has_number}

-- The group, the uuid of the image, by its number in the group each inode that is in core, and for how many more there is room.
pub record Cache : Type 0 where
  pub group : ℕ
  pub uuid : List ℕ
  pub inodes : FinMap nat_cmp Kept
  pub spare : ℕ

abbrev pub cache_code : Coded Cache
cache_code =
    code_by
    (ℕ × (List ℕ × (FinMap nat_cmp Kept × ℕ)))
    (coded× coded_ℕ (coded× (coded_list coded_ℕ) (coded× (map.code coded_ℕ kept_code) coded_ℕ)))
    (λ c. (c.group, (c.uuid, (c.inodes, c.spare))))
    (λ p. record { group = p.0; uuid = p.1.0; inodes = p.1.1.0; spare = p.1.1.1 })
    (λ _. refl)

-- the inode of a number, where it is in core
abbrev pub incore_at : Cache → ℕ → Option Kept
incore_at cache agino = map.get cache.inodes agino

-- whether it is in core and was changed since its buffer was written
abbrev pub is_dirty : Option Kept → Bool
is_dirty None = false
is_dirty (Some kept) = kept.dirty

-- it is in core, and nothing was changed since its buffer was written
abbrev pub IsClean : Cache → ℕ → Type 0
IsClean cache agino = IsSomeAnd (incore_at cache agino) (λ kept. kept.dirty ≡ false)

-- a clean inode and a dirty one
abbrev pub clean : Incore → Kept
clean inode = record { inode = inode; dirty = false }

abbrev pub dirty : Incore → Kept
dirty inode = record { inode = inode; dirty = true }

-- the cache with an inode put in its place, or taken out; its room is what it then is
abbrev pub with_incore : ℕ → Kept → Cache → ℕ → Cache
with_incore agino kept cache spare = record { group = cache.group; uuid = cache.uuid; inodes = map.insert cache.inodes agino kept; spare = spare }

abbrev pub without_inode : ℕ → Cache → ℕ → Cache
without_inode agino cache spare = record { group = cache.group; uuid = cache.uuid; inodes = map.remove cache.inodes agino; spare = spare }

-- What is in core are inodes of the group that sectors can encode.
abbrev pub AreInodes : List (ℕ × Kept) → Type 0
AreInodes entries = (agino : ℕ) (kept : Kept) → lookup (nat_eq agino) entries ≡ Some kept → IsIncore kept.inode × (agino < GROUP_NUMBERS)

-- A set has the numbers of which this is so: for those in core that they are there, for the dirty ones that they are dirty.
abbrev pub HasNumbers : (Option Kept → Bool) → List (ℕ × Kept) → List ℕ → Type 0
HasNumbers told entries set = (n : ℕ) → has_number set n ≡ told (lookup (nat_eq n) entries)
