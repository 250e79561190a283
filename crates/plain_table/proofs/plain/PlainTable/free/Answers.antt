use Rattle.std.proofs.Common.{arith}
use Rattle.life_table.specs.Table.{row_of}
use Rattle.plain_table.proofs.Outcomes.{awaiting_row}
use Rattle.plain_table.proofs.plain.PlainTable.free.Goals as goal

pub overflow_add-inode : goal.overflow_add-inode
overflow_add-inode c =
    let row = awaiting_row (row_of c.self.inside.table c.args.key) (c.awaits.ensures.0 c.if-not-awaits.false) in
    let within = c.rows_are_within_limits.ensures.limits c.self.inside.table c.args.key row.0 c.self.invariant row.1 in
    omega (arith, within.life)
