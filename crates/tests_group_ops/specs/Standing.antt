-- A group of the tests.
use Rattle.std.specs.Prelude.{◌≡◌, false, is_none}
use Rattle.geometry.specs.declared.shape.Geometry.{Geometry}
use Rattle.geometry.specs.Shape.{IsGeometry}
use Rattle.life_table.specs.declared.types.Event.{Event}
use Rattle.life_table.specs.declared.table.Table.{Table}
use Rattle.group_core.specs.GroupHistory.{HappensUnheld, IsInGroup}
use Rattle.group_core.specs.Value.{GroupValue}
use Rattle.group_ops.specs.OwnTable.{TakesTo, own_table}
use Rattle.group_ops.specs.Represents.{RepresentsGroup}
use Rattle.group_ops.specs.Staging.{ChangeValue}
use Rattle.group_ops.specs.Values.{StateValue}

-- the state is group 0 of some table of an image
pub record IsFirst (s : StateValue) : Type 0 where
  pub first : s.group ≡ 0
  pub shape : IsGeometry s.geometry
  pub represents : RepresentsGroup s

-- the same of a group behind its lock
abbrev pub Stands : GroupValue StateValue → Type 0
Stands g = IsFirst g.state

-- and of an image that may be
abbrev pub IsPair : Geometry → GroupValue StateValue → Type 0
IsPair geometry group = IsGeometry geometry × Stands group

-- A change may be made in its group with this event as its entry: the event happens there by it, and its commit is not handed out yet.
pub record MayMake (event : Event) (s : StateValue) (change : ChangeValue) : Type 0 where
  pub after : Table
  pub takes : TakesTo s change.delta after
  pub happens : HappensUnheld (own_table s) event after
  pub own : IsInGroup s.group event
  pub commit : is_none change.commit ≡ false
