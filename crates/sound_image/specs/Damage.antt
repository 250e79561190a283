-- Sound images, and the first damage of one that is not.
use Rattle.std.specs.Prelude.{◌≡◌, ◌+◌, ◌<◌, ◌≤◌, ◌⊎◌, ℕ, List, Some}
use Rattle.life_limits.specs.declared.TheConstants.{BUCKETS}
use Rattle.life_bytes.specs.declared.sector.Sector.{Sector}
use Rattle.geometry.specs.declared.shape.Geometry.{Geometry}
use Rattle.life_table.specs.declared.types.Row.{Row}
use Rattle.life_table.specs.declared.table.Inode.{Inode}
use Rattle.sound_image.specs.Places.{sector_in, header_place, bitmap_place, bitmap_sectors}
use Rattle.sound_image.specs.Reading.{page_sector, inode_at, row_at}
use Rattle.sound_image.specs.Rules.{IsHeaderRight, IsPageRight, AreCountsRight, IsCoreRight, IsForkRight, AreBlocksAlone, IsBitmapRight, Ends, IsWrongPointer, holder, IsListed}

-- what the rules are about, in the order in which they are checked
pub data Rule : Type 0 where
  header : Rule
  tree : Rule
  core : Rule
  fork : Rule
  blocks : Rule
  bitmap : Rule
  pointers : Rule
  lists : Rule

-- the number of a rule; rules 1 to 4 are those of the superblock, the image's size, the anchor and the log
abbrev pub groups_rule_number : Rule → ℕ
groups_rule_number header = 5
groups_rule_number tree = 6
groups_rule_number core = 7
groups_rule_number fork = 8
groups_rule_number blocks = 9
groups_rule_number bitmap = 10
groups_rule_number pointers = 11
groups_rule_number lists = 12

-- the rule holds at each place of a group
abbrev pub HoldsIn : Geometry → List Sector → Rule → ℕ → Type 0
HoldsIn g image header group = IsHeaderRight g image group
HoldsIn g image tree group = IsPageRight g image group × AreCountsRight g image group
HoldsIn g image core group = (agino : ℕ) (inode : Inode) → inode_at g image group agino ≡ Some inode → IsCoreRight g image group agino inode
HoldsIn g image fork group = (agino : ℕ) (row : Row) → row_at g image group agino ≡ Some row → IsForkRight g image group agino
HoldsIn g image blocks group = (agino : ℕ) (row : Row) → row_at g image group agino ≡ Some row → AreBlocksAlone g image group agino row
HoldsIn g image bitmap group = (k : ℕ) → k < bitmap_sectors → IsBitmapRight g image group k
HoldsIn g image pointers group = (bucket : ℕ) → bucket < BUCKETS → Ends g image group bucket
HoldsIn g image lists group = (agino : ℕ) (row : Row) → row_at g image group agino ≡ Some row → IsListed g image group agino row

-- The rule is broken at a sector of a group. Of the tree the header's counts are checked where the page is right, and their sector is the
-- header's; of the pointers the sector is the one that holds the wrong one.
abbrev pub BreaksIn : Geometry → List Sector → Rule → ℕ → ℕ → Type 0
BreaksIn g image header group s = (s ≡ sector_in g group header_place) × ¬ IsHeaderRight g image group
BreaksIn g image tree group s =
    ((s ≡ page_sector g image group) × ¬ IsPageRight g image group)
    ⊎ ((s ≡ sector_in g group header_place) × IsPageRight g image group × ¬ AreCountsRight g image group)
BreaksIn g image core group s =
    (agino : ℕ) × (inode : Inode) × (s ≡ sector_in g group agino) × (inode_at g image group agino ≡ Some inode) × ¬ IsCoreRight g image group agino inode
BreaksIn g image fork group s =
    (agino : ℕ) × (row : Row) × (s ≡ sector_in g group agino) × (row_at g image group agino ≡ Some row) × ¬ IsForkRight g image group agino
BreaksIn g image blocks group s =
    (agino : ℕ) × (row : Row) × (s ≡ sector_in g group agino) × (row_at g image group agino ≡ Some row) × ¬ AreBlocksAlone g image group agino row
BreaksIn g image bitmap group s = (k : ℕ) × (k < bitmap_sectors) × (s ≡ sector_in g group (bitmap_place + k)) × ¬ IsBitmapRight g image group k
BreaksIn g image pointers group s = (bucket : ℕ) × (n : ℕ) × (bucket < BUCKETS) × (s ≡ holder g image group bucket n) × IsWrongPointer g image group bucket n
BreaksIn g image lists group s =
    (agino : ℕ) × (row : Row) × (s ≡ sector_in g group agino) × (row_at g image group agino ≡ Some row) × ¬ IsListed g image group agino row

-- the rule holds, and it is broken at a sector
abbrev pub GroupsHold : Geometry → List Sector → Rule → Type 0
GroupsHold g image rule = (group : ℕ) → group < g.groups → HoldsIn g image rule group

abbrev pub GroupsBreak : Geometry → List Sector → Rule → ℕ → Type 0
GroupsBreak g image rule s = (group : ℕ) × (group < g.groups) × BreaksIn g image rule group s

-- the groups of the image are sound
abbrev pub AreGroupsSound : Geometry → List Sector → Type 0
AreGroupsSound g image = (rule : Rule) → GroupsHold g image rule

-- the least rule that is broken, and the least sector at which it is
pub record FirstGroupsDamage (g : Geometry) (image : List Sector) (rule : Rule) (s : ℕ) : Type 0 where
  pub before : (other : Rule) → groups_rule_number other < groups_rule_number rule → GroupsHold g image other
  pub broken : GroupsBreak g image rule s
  pub least : (other : ℕ) → GroupsBreak g image rule other → s ≤ other
