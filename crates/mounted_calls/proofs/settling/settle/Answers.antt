use Rattle.std.proofs.Common.{Option, subst}
use Rattle.group_ops.specs.Staging.{ChangeValue}
use Rattle.mounted_calls.specs.Decisions.{MaySettle}
use Rattle.mounted_calls.proofs.settling.settle.Goals as goal

pub note_in-requires-clause-may : goal.note_in-requires-clause-may
note_in-requires-clause-may g c = λ of at. subst (λ (x : Option ChangeValue). MaySettle c.args.entry x of.state) c.in-None.is (c.requires.may of at)

pub make_change-requires-clause-may : goal.make_change-requires-clause-may
make_change-requires-clause-may g c = λ of at. subst (λ (x : Option ChangeValue). MaySettle c.args.entry x of.state) c.in-Some.is (c.requires.may of at)
