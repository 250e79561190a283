use Rattle.std.proofs.Common.{true≢false, sym, ◌∙◌}
use Rattle.life_cli.proofs.Parses.{command_words, first_word}
use Rattle.life_cli.proofs.form.form_word.Goals as goal

pub returns-then-not-have_no_option : goal.returns-then-not-have_no_option
returns-then-not-have_no_option c form is =
    absurd (true≢false (sym (c.have_no_option.ensures.1 (command_words c.args.words.now form is)) ∙ c.if-not-have_no_option.true))

pub returns : goal.returns
returns c = first_word c.args.words.now c.in_ok-form.form.now c.as_str.result.now c.in_ok-form.ensures.value c.as_str.ensures.value (c.have_no_option.ensures.0 c.if-not-have_no_option.false)
