use Rattle.life_table.proofs.LowestKey.{key_free, key_least, key_none}
use Rattle.life_table.proofs.laws.lowest_keys_are_least.Goals as goal

pub returns-clause-free : goal.returns-clause-free
returns-clause-free c = key_free

pub returns-clause-least : goal.returns-clause-least
returns-clause-least c = key_least

pub returns-clause-none : goal.returns-clause-none
returns-clause-none c = key_none
