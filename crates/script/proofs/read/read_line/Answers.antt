use Rattle.std.proofs.Common.{List, ℕ, subst, sym, ◌∙◌}
use Rattle.script.specs.Rules.{outline}
use Rattle.script.specs.Reading.{ReadsAs}
use Rattle.script.proofs.Checked.{line_read}
use Rattle.script.proofs.read.read_line.Goals as goal

pub returns : goal.returns
returns c =
    line_read c.args.line.now c.read_words.result (sym c.has_stray_byte.ensures ∙ c.if-has_stray_byte.false)
    (subst (λ (w : List (List ℕ)). ReadsAs (outline w) w c.read_words.result) c.new.ensures c.read_words.ensures)
