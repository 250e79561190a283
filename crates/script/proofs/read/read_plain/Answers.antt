use Rattle.std.proofs.Common.{ap, inr, ◌∷◌, ◌∙◌, List, ℕ, refl, lit<}
use Rattle.script.proofs.Checked.{plain_control, plain_right, call_written}
use Rattle.script.proofs.read.read_plain.Goals as goal

pub returns-in_ok-spoken-in-Some : goal.returns-in_ok-spoken-in-Some
returns-in_ok-spoken-in-Some c =
    let spoken = c.in_ok-spoken-in-Some.ensures in
    let word = call_written c.args.first.now c.in-Some.call c.in-Some.ensures in (
      plain_right c.args.words _ _ c.in-Some.call c.in-Some.ensures spoken.2,
      inr (refl, ap (λ (w : List ℕ). w ∷ c.args.words) word ∙ spoken.0),
      (lit< tt, spoken.1),
    )

pub returns-in-Some-read_control : goal.returns-in-Some-read_control
returns-in-Some-read_control c =
    plain_control c.args.words c.args.first.now c.in-Some-read_control.control c.read_control_line.result c.in-None.ensures c.in-Some-read_control.ensures c.read_control_line.ensures
