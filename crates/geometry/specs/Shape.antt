-- Which geometries an image may have.
use Rattle.std.specs.Prelude.{◌≡◌, ◌≤◌, length}
use Rattle.life_limits.specs.declared.TheConstants.{VERSION, MAX_GROUPS, MIN_BLOCKS, MAX_BLOCKS, MIN_RING, MAX_RING}
use Rattle.geometry.specs.declared.shape.Geometry.{Geometry}

-- the version is known, and the numbers are within the limits
pub record IsGeometry (g : Geometry) : Type 0 where
  pub version : g.version ≡ VERSION
  pub groups : (1 ≤ g.groups) × (g.groups ≤ MAX_GROUPS)
  pub blocks : (MIN_BLOCKS ≤ g.blocks) × (g.blocks ≤ MAX_BLOCKS)
  pub ring : (MIN_RING ≤ g.ring) × (g.ring ≤ MAX_RING)
  pub uuid : length g.uuid ≡ 16
