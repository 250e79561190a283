use Rattle.actor_world.proofs.EntrySteps.{ended_by_step}
use Rattle.actor_world.proofs.Within.{within}
use Rattle.actor_world.proofs.laws.ended_calls_have_one_entry.Goals as goal

pub returns : goal.returns
returns g c = λ face start a old new inv step ends.
    ended_by_step (record {
      computed = c.each_call_has_one_reply.ensures.computed;
      history = c.tables_stay_well_formed.ensures.history;
      limits = c.rows_are_within_limits.ensures.limits;
      held = c.holders_have_rows.ensures;
    }) face g.T.Tells.tells start a old new (within g.T.Tells.tells start old inv) step ends
