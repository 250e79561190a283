use Rattle.std.proofs.Common.{ap, inl, ◌∷◌, ◌∙◌, List, ℕ}
use Rattle.script.specs.Words.{letter_of}
use Rattle.script.proofs.Checked.{call_right, call_written}
use Rattle.script.proofs.read.read_whole.Goals as goal

pub returns : goal.returns
returns c =
    let spoken = c.in_ok-spoken.ensures in
    let rest = c.next.new.self in
    let call = c.in-Some-read_call.call in
    let word = call_written c.in-Some.word.now call c.in-Some-read_call.ensures in (
      call_right c.args.words rest c.in-Some.word.now call c.in-Some.ensures c.in-Some-read_call.ensures spoken.2,
      inl (ap (λ (w : List (List ℕ)). letter_of c.args.actor ∷ w) (c.in-Some.ensures ∙ ap (λ (w : List ℕ). w ∷ rest) word ∙ spoken.0)),
      (c.requires, spoken.1),
    )
