use Rattle.actor_world.proofs.Frees.{freed_once, gc_awaits, unmount_leads, unmount_leaves, waiting_ascends, waiting_is}
use Rattle.actor_world.proofs.Within.{within}
use Rattle.actor_world.proofs.laws.frees_are_exact.Goals as goal

pub returns-clause-shortage : goal.returns-clause-shortage
returns-clause-shortage g c = λ t group key ok. waiting_is t group ok key

pub returns-clause-ascending : goal.returns-clause-ascending
returns-clause-ascending g c = λ t group ok. waiting_ascends t group ok

pub returns-clause-gc : goal.returns-clause-gc
returns-clause-gc g c = λ start w a key inv there has.
    gc_awaits (record {
      computed = c.each_call_has_one_reply.ensures.computed;
      history = c.tables_stay_well_formed.ensures.history;
      limits = c.rows_are_within_limits.ensures.limits;
      held = c.holders_have_rows.ensures;
    }) c.lowest_keys_are_least.ensures.free start w.history w.memory (within g.T.Tells.tells start w inv) a key there has

pub returns-clause-unmount : goal.returns-clause-unmount
returns-clause-unmount g c = λ t actor ok. unmount_leads t ok actor

pub returns-clause-left : goal.returns-clause-left
returns-clause-left g c = λ t actor key row ok is. unmount_leaves t ok actor key row is

pub returns-clause-once : goal.returns-clause-once
returns-clause-once g c = λ start w i j a b key inv first second.
    freed_once (record {
      computed = c.each_call_has_one_reply.ensures.computed;
      history = c.tables_stay_well_formed.ensures.history;
      limits = c.rows_are_within_limits.ensures.limits;
      held = c.holders_have_rows.ensures;
    }) c.lowest_keys_are_least.ensures.free start inv.table key w.history.entries w.history.table inv.legal i j a b first second
