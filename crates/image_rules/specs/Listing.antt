-- What the next pointers of a group's inodes tell, and how far the unlinked lists were walked.
use Rattle.std.specs.Prelude.{◌≡◌, ◌≢◌, ◌≤◌, ◌<◌, ◌%◌, ◌⊎◌, ℕ, List, Option, None, Some, IfSome, IsSomeAnd}
use Rattle.std.specs.BTreeMap.{is_at}
use Rattle.std.specs.Map.{lookup}
use Rattle.std.specs.Ordering.{nat_cmp}
use Rattle.life_limits.specs.declared.TheConstants.{BUCKETS, NO_INODE}
use Rattle.life_bytes.specs.declared.sector.Sector.{Sector}
use Rattle.geometry.specs.declared.shape.Geometry.{Geometry}
use Rattle.life_table.specs.declared.types.Row.{Row}
use Rattle.sound_image.specs.Places.{sector_in}
use Rattle.sound_image.specs.Reading.{core_of, inode_at, row_at}
use Rattle.sound_image.specs.Rules.{AreMembers, IsWrongPointer, holder, pointer}
use Rattle.image_rules.specs.Gathered.{Gathered}
use Rattle.image_rules.specs.declared.found.Found.{Found}

-- the next pointer that is kept of an inode, by its number in the group
abbrev pub next_pointer_of : List (ℕ × ℕ) → ℕ → Option ℕ
next_pointer_of nexts agino = lookup (is_at (nat_cmp agino)) nexts

-- an inode is in use and has no links
abbrev pub IsOrphan : Geometry → List Sector → ℕ → ℕ → Type 0
IsOrphan g image group agino = IsSomeAnd (row_at g image group agino) (λ row. row.links ≡ 0)

-- what is kept of an inode is its next pointer, and it has no links
pub record IsUnlinkedEntry (g : Geometry) (image : List Sector) (group agino next : ℕ) : Type 0 where
  pub some : agino ≢ NO_INODE
  pub orphan : IsOrphan g image group agino
  pub points : (core_of g image group agino).next ≡ next

-- the next pointers of the inodes below a number that are in use without links are kept, and no others
pub record AreOrphans (g : Geometry) (image : List Sector) (group bound : ℕ) (nexts : List (ℕ × ℕ)) : Type 0 where
  pub held : (agino next : ℕ) → next_pointer_of nexts agino ≡ Some next → IsUnlinkedEntry g image group agino next
  pub none : (agino : ℕ) → agino < bound → next_pointer_of nexts agino ≡ None → ¬ IsOrphan g image group agino
  pub low : (agino next : ℕ) → next_pointer_of nexts agino ≡ Some next → agino < bound

-- an inode with links has no next pointer
abbrev pub EndsThere : Geometry → List Sector → ℕ → ℕ → Type 0
EndsThere g image group agino = (row : Row) → row_at g image group agino ≡ Some row → row.links ≢ 0 → (core_of g image group agino).next ≡ NO_INODE

-- the first inode that has links and a next pointer
pub record FirstPointing (g : Geometry) (image : List Sector) (group agino : ℕ) : Type 0 where
  pub row : Row
  pub found : row_at g image group agino ≡ Some row
  pub linked : row.links ≢ 0
  pub wrong : (core_of g image group agino).next ≢ NO_INODE
  pub before : (other : ℕ) → other < agino → EndsThere g image group other

-- of the inodes below a number, which is the first that has links and a next pointer
abbrev pub PointingBelow : Geometry → List Sector → ℕ → ℕ → Option ℕ → Type 0
PointingBelow g image group bound None = (agino : ℕ) → agino < bound → EndsThere g image group agino
PointingBelow g image group bound (Some agino) = FirstPointing g image group agino

-- all that is known of the next pointers of the inodes below a number
pub record Noted (g : Geometry) (image : List Sector) (group bound : ℕ) (nexts : List (ℕ × ℕ)) (pointing : Option ℕ) : Type 0 where
  pub orphans : AreOrphans g image group bound nexts
  pub first : PointingBelow g image group bound pointing

-- all that was found of the inodes below a number
pub record GroupIsFound (g : Geometry) (image : List Sector) (group bound : ℕ) (found : Found) : Type 0 where
  pub space : Gathered g image group bound found.map found.fork found.shared
  pub links : Noted g image group bound found.links.orphans.entries found.links.pointing

-- all that is known of the next pointers once no inode is left
pub record AllNoted (g : Geometry) (image : List Sector) (group : ℕ) (nexts : List (ℕ × ℕ)) (pointing : Option ℕ) : Type 0 where
  pub bound : ℕ
  pub none : (agino : ℕ) → bound ≤ agino → inode_at g image group agino ≡ None
  pub noted : Noted g image group bound nexts pointing

-- of a bucket those without links are kept that none of its first n pointers points at
pub record AreUnmet (g : Geometry) (image : List Sector) (group bucket n : ℕ) (nexts : List (ℕ × ℕ)) : Type 0 where
  pub held : (agino next : ℕ) → agino % BUCKETS ≡ bucket → next_pointer_of nexts agino ≡ Some next
      → IsUnlinkedEntry g image group agino next × ((k : ℕ) → k < n → pointer g image group bucket k ≢ agino)
  pub gone : (agino : ℕ) → agino % BUCKETS ≡ bucket → next_pointer_of nexts agino ≡ None → IsOrphan g image group agino
      → (k : ℕ) × (k < n) × (pointer g image group bucket k ≡ agino)

-- the list of a bucket was walked to its end
pub record IsWalked (g : Geometry) (image : List Sector) (group bucket : ℕ) (nexts : List (ℕ × ℕ)) : Type 0 where
  pub count : ℕ
  pub members : AreMembers g image group bucket count
  pub end : pointer g image group bucket count ≡ NO_INODE
  pub unmet : AreUnmet g image group bucket count nexts

-- a place of the group is that of the sector that holds the first wrong pointer of a bucket
pub record IsWrongAt (g : Geometry) (image : List Sector) (group bucket place : ℕ) : Type 0 where
  pub count : ℕ
  pub wrong : IsWrongPointer g image group bucket count
  pub held : holder g image group bucket count ≡ sector_in g group place

-- it is the least such place of the first buckets
pub record IsLeastWrong (g : Geometry) (image : List Sector) (group bound place : ℕ) : Type 0 where
  pub bucket : ℕ
  pub low : bucket < bound
  pub wrong : IsWrongAt g image group bucket place
  pub least : (other at : ℕ) → other < bound → IsWrongAt g image group other at → place ≤ at

-- of the first buckets, either all were walked to their ends, or this is the least place of a wrong pointer
abbrev pub WalkedBelow : Geometry → List Sector → ℕ → ℕ → List (ℕ × ℕ) → Option ℕ → Type 0
WalkedBelow g image group bound nexts None = (bucket : ℕ) → bucket < bound → IsWalked g image group bucket nexts
WalkedBelow g image group bound nexts (Some place) = IsLeastWrong g image group bound place

-- an inode's next pointer is kept no longer
pub record Takes (old : List (ℕ × ℕ)) (agino next : ℕ) (new : List (ℕ × ℕ)) : Type 0 where
  pub was : next_pointer_of old agino ≡ Some next
  pub gone : next_pointer_of new agino ≡ None
  pub others : (q : ℕ) → q ≢ agino → next_pointer_of new q ≡ next_pointer_of old q

-- a number is the less of two, where there are two
abbrev pub IsLesser : Option ℕ → Option ℕ → Option ℕ → Type 0
IsLesser first second None = (first ≡ None) × (second ≡ None)
IsLesser first second (Some n) = ((first ≡ Some n) ⊎ (second ≡ Some n)) × IfSome first (λ x. n ≤ x) × IfSome second (λ y. n ≤ y)
