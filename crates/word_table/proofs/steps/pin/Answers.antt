use Rattle.std.proofs.Common.{arith}
use Rattle.word_table.proofs.Parts.{opens}
use Rattle.word_table.proofs.StepsKeep.{pins}
use Rattle.word_table.proofs.steps.pin.Goals as goal

pub compare_exchange-requires : goal.compare_exchange-requires
compare_exchange-requires c = (
  c.requires.seat,
  omega (arith, c.requires.inside, c.requires.words),
  pins _ _ _ _ _ _ _ _ c.requires.inside (opens c.each_number_is_one_word.ensures c.args.seen c.args.generation c.args.next (omega arith) c.requires.next),
)
