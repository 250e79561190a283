use Rattle.script.proofs.Ascii.{no_text}
use Rattle.script.proofs.words.text_of.Goals as goal

pub returns-clause-none : goal.returns-clause-none
returns-clause-none c = rw c.ok.ensures.value (no_text _ _ c.args.word.now c.from_utf8.result c.from_utf8.ensures.cases)
