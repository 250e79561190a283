-- One group of a table, apart from the others.
use Rattle.std.specs.Prelude.{◌≡◌, ℕ, length}
use Rattle.life_table.specs.declared.table.Table.{Table}
use Rattle.life_table.specs.Table.{empty_table, group_at, with_group}

-- two tables have the same chunks in a group, and as many groups of as many blocks
pub record AgreesAt (g : ℕ) (t u : Table) : Type 0 where
  pub blocks : u.blocks ≡ t.blocks
  pub groups : length u.groups ≡ length t.groups
  pub group : group_at u g ≡ group_at t g

-- the table with the other groups without a chunk
abbrev pub alone : Table → ℕ → Table
alone t g = with_group (empty_table t.version (length t.groups) t.blocks) g (group_at t g)
