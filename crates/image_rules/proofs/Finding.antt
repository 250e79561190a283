-- All that was found of the inodes below a number.
use Rattle.std.proofs.Common.{◌≡◌, ◌<◌, ◌≤◌, ℕ, List, Bool, None}
use Rattle.life_bytes.specs.declared.sector.Sector.{Sector}
use Rattle.geometry.specs.declared.shape.Geometry.{Geometry}
use Rattle.sound_image.specs.Reading.{inode_at}
use Rattle.image_rules.specs.declared.found.Found.{Found}
use Rattle.image_rules.specs.Gathered.{IsNextInode}
use Rattle.image_rules.specs.Listing.{GroupIsFound}
use Rattle.image_rules.proofs.Gathering.{Gathered-wider}
use Rattle.image_rules.proofs.Noting.{Noted-wider}

pub IsFound-wider : (g : Geometry) (image : List Sector) (group n m : ℕ) (found : Found) → n ≤ m → ((other : ℕ) → n ≤ other → other < m → inode_at g image group other ≡ None)
    → GroupIsFound g image group n found → GroupIsFound g image group m found
IsFound-wider g image group n m found le none was = record {
  space = Gathered-wider g image group n m found.map found.fork found.shared le none was.space;
  links = Noted-wider g image group n m found.links.orphans.entries found.links.pointing le none was.links;
}

pub reached : (g : Geometry) (image : List Sector) (group bound agino : ℕ) (bytes : List ℕ) (free : Bool) (found : Found) → IsNextInode g image group bound agino bytes free
    → GroupIsFound g image group bound found → GroupIsFound g image group agino found
reached g image group bound agino bytes free found next was = IsFound-wider g image group bound agino found next.from next.none was
