use Rattle.std.proofs.Common.{eqb}
use Rattle.script.proofs.Cuts.{split_found, split_none}
use Rattle.script.proofs.pieces.cut.Goals as goal

pub returns-in-Some : goal.returns-in-Some
returns-in-Some c = split_found (λ b. eqb b c.args.separator) c.args.text.now c.in-Some.end c.in-Some.ensures

pub returns-in-None : goal.returns-in-None
returns-in-None c = split_none (λ b. eqb b c.args.separator) c.args.text.now c.in-None.ensures
