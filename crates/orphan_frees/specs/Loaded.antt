-- The groups of an image, loaded.
use Rattle.std.specs.Prelude.{◌≡◌, ℕ, List, Some, length, slice_get}
use Rattle.life_bytes.specs.declared.sector.Sector.{Sector}
use Rattle.geometry.specs.declared.shape.Geometry.{Geometry}
use Rattle.geometry.specs.Shape.{IsGeometry}
use Rattle.life_table.specs.declared.table.Table.{Table}
use Rattle.life_table.specs.History.{closed}
use Rattle.sound_image.specs.Encoding.{CanEncode, Layouts}
use Rattle.group_ops.specs.Represents.{IsGroupOf}
use Rattle.group_ops.specs.Values.{StateValue}

-- a state is this group of an image's table, with its layouts
pub record IsGroupAt (g : Geometry) (t : Table) (layouts : Layouts) (group : ℕ) (s : StateValue) : Type 0 where
  pub geometry : s.geometry ≡ g
  pub group_is : s.group ≡ group
  pub represents : IsGroupOf s t layouts

-- The states are all groups of an image's table, in their order.
pub record AreGroupsOf (g : Geometry) (t : Table) (layouts : Layouts) (states : List StateValue) : Type 0 where
  pub shape : IsGeometry g
  pub count : length states ≡ g.groups
  pub each : (group : ℕ) (s : StateValue) → slice_get states group ≡ Some s → IsGroupAt g t layouts group s

-- they are those of some table that sectors can encode, of which nobody holds an inode
abbrev pub AreGroups : Geometry → List StateValue → Type 0
AreGroups g states =
    (t : Table) × (layouts : Layouts) × (sectors : List Sector) × AreGroupsOf g t layouts states × CanEncode g t layouts sectors × (closed t ≡ t)
