use Rattle.std.proofs.Common.{arith}
use Rattle.script.proofs.Ascii.{number_is_ascii}
use Rattle.script.proofs.words.read_number.Goals as goal

pub returns-in_err-text_of-clause-none : goal.returns-in_err-text_of-clause-none
returns-in_err-text_of-clause-none c =
    rw c.from_residual.ensures (λ is. c.in_err-text_of.ensures.none (number_is_ascii c.args.low c.args.high c.args.word.now (omega arith) is))
