use Rattle.std.proofs.Common.{◌≡◌, ℕ, List, Result, Ok, String, Global, string_bytes, inl, inr, ◌∙◌, subst}
use Rattle.std.specs.Result.{IfOk}
use Rattle.life_cli.specs.Output.{AppendsPrefix}
use Rattle.life_cli.proofs.ending.write_out.Goals as goal

-- what was printed
text_of : {E : Type 0} (printed : Result (String Global) E) (text : String Global) (P : String Global → Type 0) → printed ≡ Ok text → IfOk printed P → P text
text_of printed text P is holds = subst (λ (r : Result (String Global) _). IfOk r P) is holds

pub returns-in-Ok-clause-output : goal.returns-in-Ok-clause-output
returns-in-Ok-clause-output g c told printed =
    let ended = c.args.ended.status in
    let text : c.as_bytes.result.now ≡ told ended =
    c.as_bytes.ensures.value ∙ text_of c.args.printed c.in-Ok.text (λ (t : String Global). string_bytes t ≡ told ended) c.in-Ok.is printed in
    rw c.with_status.ensures
    (inl (subst (λ (l : List ℕ). AppendsPrefix (g.K.Sink.bytes_held c.args.out.now) (g.K.Sink.bytes_held c.write_whole.new.out) l) text c.in-Err-write_whole.ensures.prefix))

pub returns-clause-output : goal.returns-clause-output
returns-clause-output g c told printed =
    let text = c.as_bytes-in-Err.ensures.value ∙ c.no_memory_line.ensures in
    rw c.with_status-in-Err-write_whole-2.ensures
    (inr (subst (λ (l : List ℕ). AppendsPrefix (g.K.Sink.bytes_held c.args.out.now) (g.K.Sink.bytes_held c.write_whole-in-Err.new.out) l) text c.in-Err-write_whole-2.ensures.prefix))
