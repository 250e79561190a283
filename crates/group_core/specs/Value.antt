-- What contracts see of a group.
use Rattle.std.specs.Prelude.{ℕ, List}
use Rattle.life_table.specs.declared.types.Entry.{Entry}

-- its state, its history, and for how many more entries there is room
pub record GroupValue (S : Type 0) : Type 0 where
  pub state : S
  pub history : List Entry
  pub spare : ℕ
