use Rattle.life_table.proofs.Holds.{held_is_open}
use Rattle.life_table.proofs.laws.holders_have_rows.Goals as goal

pub returns : goal.returns
returns c = held_is_open
