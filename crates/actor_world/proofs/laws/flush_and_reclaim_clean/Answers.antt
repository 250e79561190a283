use Rattle.actor_world.proofs.HouseCalls.{whole_flush, whole_reclaim}
use Rattle.actor_world.proofs.laws.flush_and_reclaim_clean.Goals as goal

pub returns-clause-flush : goal.returns-clause-flush
returns-clause-flush g c = λ face start a n group old new inv whole.
    whole_flush (record {
      laws = record {
        computed = c.each_call_has_one_reply.ensures.computed;
        history = c.tables_stay_well_formed.ensures.history;
        limits = c.rows_are_within_limits.ensures.limits;
        held = c.holders_have_rows.ensures;
      };
      lowest = c.lowest_keys_are_least.ensures.free;
      hold_laws = record {
        permits = c.changes_pass_over_holds.ensures.permits;
        no_change = c.changes_pass_over_holds.ensures.no_change;
      };
    }) face g.T.Tells.tells start a n group old new inv whole

pub returns-clause-reclaim : goal.returns-clause-reclaim
returns-clause-reclaim g c = λ face start a n group old new inv whole.
    whole_reclaim (record {
      laws = record {
        computed = c.each_call_has_one_reply.ensures.computed;
        history = c.tables_stay_well_formed.ensures.history;
        limits = c.rows_are_within_limits.ensures.limits;
        held = c.holders_have_rows.ensures;
      };
      lowest = c.lowest_keys_are_least.ensures.free;
      hold_laws = record {
        permits = c.changes_pass_over_holds.ensures.permits;
        no_change = c.changes_pass_over_holds.ensures.no_change;
      };
    }) face g.T.Tells.tells start a n group old new inv whole
