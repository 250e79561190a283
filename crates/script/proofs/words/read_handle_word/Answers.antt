use Rattle.script.proofs.Ascii.{handle_is_ascii}
use Rattle.script.proofs.words.read_handle_word.Goals as goal

pub returns-in_err-text_of-clause-none : goal.returns-in_err-text_of-clause-none
returns-in_err-text_of-clause-none c = rw c.from_residual.ensures (λ is. c.in_err-text_of.ensures.none (handle_is_ascii c.args.word.now is))
