-- Images that carry a change of the groups of an image: put over what encodes a table, they give what encodes the next one.
use Rattle.std.specs.Prelude.{◌≡◌, ◌≢◌, ◌⊎◌, ◌<◌, ℕ, List, Some, All, Contains}
use Rattle.std.specs.List.Sorted.{IsStrictlyIncreasing}
use Rattle.log_image.specs.Overlay.{homes}
use Rattle.geometry.specs.declared.shape.Geometry.{Geometry}
use Rattle.geometry.specs.Places.{group_sectors}
use Rattle.log_record.specs.declared.image.Image.{Image}
use Rattle.life_table.specs.declared.table.Table.{Table}
use Rattle.life_table.specs.Table.{Group, group_at}
use Rattle.sound_image.specs.Places.{sector_in}
use Rattle.sound_image.specs.Encoding.{Layouts, layout_of, metadata}

-- the image of these bytes for a place of a group
abbrev pub image_for : Geometry → ℕ → ℕ → List ℕ → Image
image_for g group place bytes = record { home = sector_in g group place; sector = record { bytes = bytes } }

-- the image's home is a place of a group, and its sector what the format says of that place
pub record IsOfGroup (g : Geometry) (layouts : Layouts) (group : ℕ) (chunks : Group) (image : Image) : Type 0 where
  pub place : ℕ
  pub within : place < group_sectors g
  pub home : image.home ≡ sector_in g group place
  pub bytes : metadata g layouts group chunks place ≡ Some image.sector.bytes

-- what the format says of a place of a group is the same before and after
abbrev pub Stays : Geometry → ℕ → Layouts → Group → Layouts → Group → ℕ → Type 0
Stays g group layouts chunks others next place = metadata g others group next place ≡ metadata g layouts group chunks place

-- The images carry how a group changes: each is of the group as it comes to be, and they have each sector of which the format then says something else.
pub record CarryGroup (g : Geometry) (group : ℕ) (layouts : Layouts) (chunks : Group) (others : Layouts) (next : Group) (images : List Image) : Type 0 where
  pub right : All (IsOfGroup g others group next) images
  pub whole : (place : ℕ) → place < group_sectors g → Stays g group layouts chunks others next place ⊎ Contains (homes images) (sector_in g group place)

-- The images of how a group changes: by ascending home, the sectors of which the format then says something else, and no others.
pub record AreImagesOf (g : Geometry) (group : ℕ) (layouts : Layouts) (chunks : Group) (others : Layouts) (next : Group) (images : List Image) : Type 0 where
  pub carry : CarryGroup g group layouts chunks others next images
  pub ascend : IsStrictlyIncreasing (homes images)
  pub differ : (place : ℕ) → place < group_sectors g → Contains (homes images) (sector_in g group place) → ¬ Stays g group layouts chunks others next place

-- the image is of some group of a table
abbrev pub IsImageOfTable : Geometry → Layouts → Table → Image → Type 0
IsImageOfTable g layouts t image = (group : ℕ) × (group < g.groups) × IsOfGroup g layouts group (group_at t group) image

-- the same of all groups of a table
pub record Carry (g : Geometry) (t : Table) (layouts : Layouts) (u : Table) (others : Layouts) (images : List Image) : Type 0 where
  pub right : All (IsImageOfTable g others u) images
  pub whole : (group place : ℕ) → group < g.groups → place < group_sectors g
      → Stays g group layouts (group_at t group) others (group_at u group) place ⊎ Contains (homes images) (sector_in g group place)

-- only this group of a table and of its layouts has changed
pub record ChangesOnly (group : ℕ) (t : Table) (layouts : Layouts) (u : Table) (others : Layouts) : Type 0 where
  pub chunks : (other : ℕ) → other ≢ group → group_at u other ≡ group_at t other
  pub layouts_of : (other : ℕ) → other ≢ group → layout_of others other ≡ layout_of layouts other
