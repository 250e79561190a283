-- Where the inodes of an image stand.
use Rattle.std.specs.Prelude.{ℕ, ◌+◌, ◌*◌, ◌/◌, ◌%◌, ◌<◌}
use Rattle.life_limits.specs.declared.TheConstants.{GROUP_NUMBERS, BLOCK_SECTORS}
use Rattle.geometry.specs.declared.shape.Geometry.{Geometry}

-- an inode's group, and its place in the group
abbrev pub group_of : ℕ → ℕ
group_of number = number / GROUP_NUMBERS

abbrev pub agino_of : ℕ → ℕ
agino_of number = number % GROUP_NUMBERS

-- the number of the inode at a place of a group
abbrev pub number_in : ℕ → ℕ → ℕ
number_in group agino = group * GROUP_NUMBERS + agino

-- sectors of a group
abbrev pub group_sectors : Geometry → ℕ
group_sectors g = g.blocks * BLOCK_SECTORS

-- the number of an inode of the image
abbrev pub IsInodeNumber : Geometry → ℕ → Type 0
IsInodeNumber g number = (group_of number < g.groups) × (agino_of number < group_sectors g)

-- An inode stands in the sector of its place in its group, and the groups follow each other.
abbrev pub place_of : Geometry → ℕ → ℕ
place_of g number = group_of number * group_sectors g + agino_of number

-- the sector of the anchor, behind all groups; so also the number of the groups' sectors
abbrev pub anchor_of : Geometry → ℕ
anchor_of g = g.groups * group_sectors g
