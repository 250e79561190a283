use Rattle.std.proofs.Common.{◌+◌, ◌==◌, ◌&&◌, Bool, sym, ap, ◌∙◌, arith}
use Rattle.std.proofs.lemmas.List.Sums.{count_by_more_no, count_by_more_yes}
use Rattle.life_table.specs.declared.types.Entry.{Entry}
use Rattle.life_table.specs.History.{takes_hold}
use Rattle.plain_world.proofs.holds.count_taken.Goals as goal
use Rattle.plain_world.proofs.holds.count_taken.Goals.{then-is_taken, else-is_taken}

pub loop-entry-preserved : goal.loop-entry-preserved
loop-entry-preserved c =
    let p : Entry → Bool = λ (entry : Entry). (entry.actor == c.args.a) && takes_hold c.args.key entry.event in
    elim c.if-is_taken.branch [
      | then-is_taken w ↦ (
        omega arith,
        w.count-is ∙ ap (λ n. n + 1) c.loop-entry.invariant.1
            ∙ sym (count_by_more_yes p c.args.entries.now c.loop-entry.entry-index c.entry-item.result c.loop-entry-test.true
            (ap p (sym c.entry-item.is) ∙ sym c.is_taken.ensures ∙ w.if-is_taken.true)),
      )
      | else-is_taken w ↦ (
        omega arith,
        w.count-is ∙ c.loop-entry.invariant.1
            ∙ sym (count_by_more_no p c.args.entries.now c.loop-entry.entry-index c.entry-item.result c.loop-entry-test.true
            (ap p (sym c.entry-item.is) ∙ sym c.is_taken.ensures ∙ w.if-is_taken.false)),
      )
    ]
