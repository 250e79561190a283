use Rattle.std.proofs.Common.{◌≡◌, [], ◌∷◌, ◌++◌, Some, sym, subst, ◌∙◌}
use Rattle.std.specs.Prelude.{OnOk}
use Rattle.life_table.specs.declared.types.Entry.{Entry}
use Rattle.run_history.specs.States.{names_after}
use Rattle.script_names.specs.Bindings.{AreNames}
use Rattle.actor_holds.specs.Holds.{AreHolds, IsSteady}
use Rattle.script_runs.proofs.Noted.{last_pushed, on_both}
use Rattle.script_runs.proofs.calling.note_last.Goals as goal

pub returns : goal.returns
returns c = record {
  noted = λ bound entries entry named held steady is.
      let same : c.in-Some.entry.now ≡ entry = last_pushed c.as_slice.result.now entries c.in-Some.entry.now entry c.in-Some.ensures.value (c.as_slice.ensures ∙ is) in
      subst (λ (x : Entry). OnOk c.note.result (AreNames (names_after bound c.args.spoken.now (Some x)) c.after.new.self × AreHolds (entries ++ x ∷ []) c.note.new.self)) same
      (on_both _ _ c.note.result (c.in_ok-after.ensures.bound bound named) (c.note.ensures.noted entries held (subst (λ (x : Entry). IsSteady x.event) (sym same) steady)));
}
