use Rattle.actor_world.proofs.CallSteps.{whole_call_ends}
use Rattle.actor_world.proofs.laws.whole_calls_end.Goals as goal

pub returns : goal.returns
returns g c = λ face start a n made old new inv group whole.
    whole_call_ends (record {
      laws = record {
        computed = c.each_call_has_one_reply.ensures.computed;
        history = c.tables_stay_well_formed.ensures.history;
        limits = c.rows_are_within_limits.ensures.limits;
        held = c.holders_have_rows.ensures;
      };
      lowest = c.lowest_keys_are_least.ensures.free;
      hold_laws = record {
        permits = c.changes_pass_over_holds.ensures.permits;
        no_change = c.changes_pass_over_holds.ensures.no_change;
      };
    }) face g.T.Tells.tells start a n made old new inv group whole
