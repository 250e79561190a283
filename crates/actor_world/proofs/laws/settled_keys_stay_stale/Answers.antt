use Rattle.actor_world.proofs.Settles.{settled_from}
use Rattle.actor_world.proofs.SettledKeys.{answered_settled, entries_stale, settled_step, stale}
use Rattle.actor_world.proofs.laws.settled_keys_stay_stale.Goals as goal

pub returns-clause-stays : goal.returns-clause-stays
returns-clause-stays g c = λ start w n key inv settled.
    settled_from (record {
      computed = c.each_call_has_one_reply.ensures.computed;
      history = c.tables_stay_well_formed.ensures.history;
      limits = c.rows_are_within_limits.ensures.limits;
      held = c.holders_have_rows.ensures;
    }) c.lowest_keys_are_least.ensures.free start inv.table w.history.entries w.history.table n key inv.legal settled

pub returns-clause-steps : goal.returns-clause-steps
returns-clause-steps g c = λ face start a old new key inv step settled.
    settled_step (record {
      computed = c.each_call_has_one_reply.ensures.computed;
      history = c.tables_stay_well_formed.ensures.history;
      limits = c.rows_are_within_limits.ensures.limits;
      held = c.holders_have_rows.ensures;
    }) c.lowest_keys_are_least.ensures.free face g.T.Tells.tells start a old new key inv step settled

pub returns-clause-stale : goal.returns-clause-stale
returns-clause-stale g c = λ t key answer settled permits. stale t key answer settled permits

pub returns-clause-entries : goal.returns-clause-entries
returns-clause-entries g c = λ start w n i a key answer inv low settled at.
    entries_stale (record {
      computed = c.each_call_has_one_reply.ensures.computed;
      history = c.tables_stay_well_formed.ensures.history;
      limits = c.rows_are_within_limits.ensures.limits;
      held = c.holders_have_rows.ensures;
    }) c.lowest_keys_are_least.ensures.free start inv.table w.history.entries w.history.table inv.legal key n i a answer low settled at

pub returns-clause-answered : goal.returns-clause-answered
returns-clause-answered g c = λ start w n key inv has permits.
    answered_settled (record {
      computed = c.each_call_has_one_reply.ensures.computed;
      history = c.tables_stay_well_formed.ensures.history;
      limits = c.rows_are_within_limits.ensures.limits;
      held = c.holders_have_rows.ensures;
    }) c.lowest_keys_are_least.ensures.free start inv.table w.history.entries w.history.table inv.legal key n has permits
