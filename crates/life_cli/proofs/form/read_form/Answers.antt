use Rattle.life_cli.proofs.Forms.{no_form}
use Rattle.life_cli.proofs.form.read_form.Goals as goal

pub returns-in_default : goal.returns-in_default
returns-in_default c = no_form c.args.words.now c.in_default.ensures
