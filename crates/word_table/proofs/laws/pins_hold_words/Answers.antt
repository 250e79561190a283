use Rattle.word_table.proofs.StepsKeep.{holds}
use Rattle.word_table.proofs.laws.pins_hold_words.Goals as goal

pub returns : goal.returns
returns c = λ count s was id place generation v at has. holds count s id place v was at generation has
