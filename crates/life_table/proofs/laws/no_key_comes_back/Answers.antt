use Rattle.life_table.proofs.Lives.{never_again}
use Rattle.life_table.proofs.laws.no_key_comes_back.Goals as goal

pub returns : goal.returns
returns c = never_again
