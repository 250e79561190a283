use Rattle.std.proofs.Common.{◌≡◌, ◌++◌, List, take}
use Rattle.geometry.specs.Places.{number_in}
use Rattle.life_table.specs.declared.table.Inode.{Inode}
use Rattle.life_table.specs.declared.table.Table.{Table}
use Rattle.life_table.specs.Table.{group_at}
use Rattle.sound_image.specs.Encoding.{Layouts}
use Rattle.group_ops.specs.Represents.{IsGroupOf}
use Rattle.group_ops.specs.Rows.{HasInodes, rows_from}
use Rattle.group_ops.proofs.state.GroupState.add_lines.Given as goal

abbrev pub invariant-loop-index : goal.invariant-loop-index
invariant-loop-index l =
    (t : Table) (layouts : Layouts) (inodes : List Inode) → IsGroupOf l.self t layouts → HasInodes (group_at t l.self.group) l.start inodes
    → l.lines.items ≡ l.fn.lines.items ++ rows_from (number_in l.self.group l.start) (take l.index inodes)
