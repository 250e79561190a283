use Rattle.std.proofs.Common.{ap, ◌∷◌, ◌∙◌, List, ℕ, codes}
use Rattle.script.specs.Meaning.{spoken_words}
use Rattle.script.proofs.Checked.{begin_right, call_written}
use Rattle.script.proofs.read.read_begin.Goals as goal

pub returns : goal.returns
returns c =
    let spoken = c.in_ok-spoken.ensures in
    let rest = c.next-2.new.self in
    let call = c.in-Some-read_call.call in
    let who = c.in-Some.who.now in
    let word = call_written c.in-Some-next.word.now call c.in-Some-read_call.ensures in
    let words = c.in-Some.ensures ∙ ap (λ (w : List (List ℕ)). who ∷ w) c.in-Some-next.ensures in
    let read = c.in-Some-read_actor.ensures in (
      begin_right c.args.words rest who c.in-Some-next.word.now call words c.in-Some-read_call.ensures read.letter spoken.2,
      ap (λ (w : List (List ℕ)). codes "begin" ∷ w)
          (words ∙ ap (λ (w : List ℕ). who ∷ w ∷ rest) word ∙ ap (λ (w : List (List ℕ)). who ∷ w) spoken.0 ∙ ap (λ (w : List ℕ). w ∷ spoken_words c.in_ok-spoken.spoken) read.found.1),
      (read.found.0, spoken.1),
    )
