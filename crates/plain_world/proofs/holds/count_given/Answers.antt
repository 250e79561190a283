use Rattle.std.proofs.Common.{◌+◌, ◌==◌, ◌&&◌, Bool, sym, ap, ◌∙◌, arith}
use Rattle.std.proofs.lemmas.List.Sums.{count_by_more_no, count_by_more_yes}
use Rattle.life_table.specs.declared.types.Entry.{Entry}
use Rattle.life_table.specs.History.{gives_up}
use Rattle.plain_world.proofs.holds.count_given.Goals as goal
use Rattle.plain_world.proofs.holds.count_given.Goals.{then-is_given, else-is_given}

pub loop-entry-preserved : goal.loop-entry-preserved
loop-entry-preserved c =
    let p : Entry → Bool = λ (entry : Entry). (entry.actor == c.args.a) && gives_up c.args.key entry.event in
    elim c.if-is_given.branch [
      | then-is_given w ↦ (
        omega arith,
        w.count-is ∙ ap (λ n. n + 1) c.loop-entry.invariant.1
            ∙ sym (count_by_more_yes p c.args.entries.now c.loop-entry.entry-index c.entry-item.result c.loop-entry-test.true
            (ap p (sym c.entry-item.is) ∙ sym c.is_given.ensures ∙ w.if-is_given.true)),
      )
      | else-is_given w ↦ (
        omega arith,
        w.count-is ∙ c.loop-entry.invariant.1
            ∙ sym (count_by_more_no p c.args.entries.now c.loop-entry.entry-index c.entry-item.result c.loop-entry-test.true
            (ap p (sym c.entry-item.is) ∙ sym c.is_given.ensures ∙ w.if-is_given.false)),
      )
    ]
