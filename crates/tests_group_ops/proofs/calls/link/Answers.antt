use Rattle.std.proofs.Common.{ℕ, Some, ap}
use Rattle.life_table.specs.declared.types.Call.TheVariants as call
use Rattle.tests_group_ops.proofs.Turning.{made}
use Rattle.tests_group_ops.proofs.calls.link.Goals as goal

pub settle_call-requires-clause-may : goal.settle_call-requires-clause-may
settle_call-requires-clause-may c =
    made c.changes_are_events.ensures.call c.args.group.now.state c.state.result.now c.in-Ok.change c.args.key (call.Link c.args.key) c.state.ensures c.requires.stands tt (ap (λ (n : ℕ). Some n) c.requires.own) (λ t layouts is. c.in-Ok.ensures t layouts is)
