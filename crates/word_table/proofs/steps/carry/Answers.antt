use Rattle.std.proofs.Common.{arith, rules}
use Rattle.word_table.proofs.StepsKeep.{fronts, gives, takes_in}
use Rattle.word_table.proofs.steps.carry.Goals as goal

pub load-requires : goal.load-requires
load-requires c = (c.requires.from, omega (arith, c.requires.inside, c.requires.words), fronts _ _ _ _ _ _ c.requires.inside c.requires.pin)

pub split_seat-one-requires : goal.split_seat-one-requires
split_seat-one-requires c = (search rules, omega (arith, c.requires.inside, c.requires.words), gives _ _ _)

pub join_seat-requires : goal.join_seat-requires
join_seat-requires c = (search rules, search rules, search rules, omega (arith, c.requires.inside, c.requires.words), takes_in _ _ _ _ _)
