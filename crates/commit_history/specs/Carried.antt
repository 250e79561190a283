-- Commits of the groups of an image, one after the other, and the tables that they lead to. A table has nobody's holds here (`closed`), since none is encoded.
use Rattle.std.specs.Prelude.{◌≡◌, ◌==◌, ◌<◌, ◌≤◌, ℕ, List, [], ◌∷◌, filter, length}
use Rattle.life_limits.specs.declared.TheConstants.{MAX_IMAGES}
use Rattle.life_bytes.specs.declared.sector.Sector.{Sector}
use Rattle.geometry.specs.declared.shape.Geometry.{Geometry}
use Rattle.log_record.specs.declared.image.Commit.{Commit}
use Rattle.life_table.specs.declared.table.Table.{Table}
use Rattle.life_table.specs.Table.{group_at}
use Rattle.sound_image.specs.Encoding.{Layouts, CanEncode, encoded, layout_of}
use Rattle.encoded_changes.specs.Carry.{AreImagesOf, ChangesOnly}

-- These sectors encode the table with its layouts: they can, and encoding it there changes nothing.
pub record IsEncoding (g : Geometry) (t : Table) (layouts : Layouts) (sectors : List Sector) : Type 0 where
  pub can : CanEncode g t layouts sectors
  pub same : encoded g t layouts sectors ≡ sectors

-- A commit carries a table with its layouts to the next one. Its group alone changes; it has the images of exactly the sectors that change, no more than a
-- commit may have; and what can encode the table can encode the next one.
pub record CommitCarries (g : Geometry) (t : Table) (layouts : Layouts) (u : Table) (others : Layouts) (commit : Commit) : Type 0 where
  pub group : commit.group < g.groups
  pub only : ChangesOnly commit.group t layouts u others
  pub images : AreImagesOf g commit.group layouts (group_at t commit.group) others (group_at u commit.group) commit.images
  pub few : length commit.images ≤ MAX_IMAGES
  pub next : (sectors : List Sector) → CanEncode g t layouts sectors → CanEncode g u others sectors

-- Commits carry it on, one after the other, up to a last table with its layouts.
unfoldable pub CommitsCarry : Geometry → Table → Layouts → List Commit → Table → Layouts → Type 0
CommitsCarry g t layouts [] u others = (u ≡ t) × (others ≡ layouts)
CommitsCarry g t layouts (commit ∷ commits) u others =
    (next : Table) × (nexts : Layouts) × CommitCarries g t layouts next nexts commit × CommitsCarry g next nexts commits u others

-- two tables with their layouts have the same in one group
pub record AreAlikeIn (group : ℕ) (t : Table) (layouts : Layouts) (u : Table) (others : Layouts) : Type 0 where
  pub chunks : group_at u group ≡ group_at t group
  pub layout : layout_of others group ≡ layout_of layouts group

-- the commits of a group, in their order
abbrev pub commits_in : ℕ → List Commit → List Commit
commits_in group commits = filter (λ (c : Commit). c.group == group) commits
