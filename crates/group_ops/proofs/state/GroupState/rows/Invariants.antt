use Rattle.std.proofs.Common.{◌≡◌, take}
use Rattle.life_table.specs.declared.table.Table.{Table}
use Rattle.life_table.specs.Table.{group_at}
use Rattle.sound_image.specs.Encoding.{Layouts}
use Rattle.group_ops.specs.Represents.{IsGroupOf}
use Rattle.group_ops.specs.Rows.{row_lines}
use Rattle.group_ops.proofs.state.GroupState.rows.Given as goal

abbrev pub invariant-loop-chunk : goal.invariant-loop-chunk
invariant-loop-chunk l =
    (t : Table) (layouts : Layouts) → IsGroupOf l.self t layouts → l.lines.items ≡ row_lines l.self.group (take l.chunk-index (group_at t l.self.group))
