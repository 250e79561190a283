use Rattle.std.proofs.Common.{◌≡◌, ◌++◌, ◌/◌, take, arith}
use Rattle.std.proofs.lemmas.Grind.{common_steps}
use Rattle.life_limits.specs.declared.TheConstants.{GROUP_NUMBERS}
use Rattle.life_table.specs.Table.{group_at}
use Rattle.life_table.specs.Legal.{free_of}
use Rattle.plain_table.proofs.Spaces.{grown_below}
use Rattle.plain_table.proofs.rows.grow.Goals as goal

pub runs_of-requires : goal.runs_of-requires
runs_of-requires c =
    let is : c.deref-2.result.now ≡ c.args.row.now.blocks ++ take c.args.count (free_of c.args.table.now c.args.key) = grind (arith, common_steps) in
    let all = grown_below c.args.table.now.blocks c.args.count (group_at c.args.table.now (c.args.key.number / GROUP_NUMBERS)) c.args.row.now.blocks c.requires.small c.requires.blocks in
    rw is all
