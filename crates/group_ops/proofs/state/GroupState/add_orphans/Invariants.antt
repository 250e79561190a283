use Rattle.std.proofs.Common.{◌≡◌, ◌++◌, take}
use Rattle.std.specs.Prelude.{map}
use Rattle.life_table.specs.declared.table.Table.{Table}
use Rattle.life_table.specs.Table.{group_at}
use Rattle.sound_image.specs.Encoding.{Layouts}
use Rattle.group_ops.specs.Orphans.{key_in}
use Rattle.group_ops.specs.Represents.{IsGroupOf}
use Rattle.group_ops.proofs.state.GroupState.add_orphans.Given as goal

abbrev pub invariant-loop-agino : goal.invariant-loop-agino
invariant-loop-agino l =
    (t : Table) (layouts : Layouts) → IsGroupOf l.self t layouts → l.keys.items ≡ l.fn.keys.items ++ map (key_in l.self.group (group_at t l.self.group)) (take l.agino-index l.agino-items)
