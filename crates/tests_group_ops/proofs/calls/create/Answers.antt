use Rattle.std.proofs.Common.{subst, sym}
use Rattle.life_table.specs.declared.types.Call.{Call}
use Rattle.life_table.specs.declared.types.Reply.TheVariants as reply
use Rattle.life_table.specs.declared.types.Event.TheVariants.{Called}
use Rattle.tests_group_ops.specs.Standing.{MayMake}
use Rattle.tests_group_ops.proofs.Turning.{created}
use Rattle.tests_group_ops.proofs.calls.create.Goals as goal

pub settle-requires-clause-may : goal.settle-requires-clause-may
settle-requires-clause-may c =
    let s = c.args.group.now.state in
    subst (λ (called : Call). MayMake (Called called (reply.Made c.in-Ok.key)) s c.in-Ok.change) (sym c.call_of-call.ensures) (
    created c.changes_are_events.ensures.call s c.state.result.now c.in-Ok.change c.in-Ok.key c.args.links c.state.ensures c.requires.stands (λ t layouts is. c.in-Ok.ensures t layouts is)
    )
