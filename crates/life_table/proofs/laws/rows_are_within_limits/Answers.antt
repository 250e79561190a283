use Rattle.life_table.proofs.WellKept.{row_within, row_blocks_within, row_blocks_few}
use Rattle.life_table.proofs.laws.rows_are_within_limits.Goals as goal

pub returns-clause-limits : goal.returns-clause-limits
returns-clause-limits c = row_within

pub returns-clause-blocks : goal.returns-clause-blocks
returns-clause-blocks c = row_blocks_within

pub returns-clause-few : goal.returns-clause-few
returns-clause-few c = row_blocks_few
