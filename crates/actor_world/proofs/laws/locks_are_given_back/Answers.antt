use Rattle.actor_world.proofs.LockSteps.{alone_ends, log_ends}
use Rattle.actor_world.proofs.laws.locks_are_given_back.Goals as goal

pub returns-clause-alone : goal.returns-clause-alone
returns-clause-alone g c = λ face start a n old new inv steps.
    alone_ends (record {
      laws = record {
        computed = c.each_call_has_one_reply.ensures.computed;
        history = c.tables_stay_well_formed.ensures.history;
        limits = c.rows_are_within_limits.ensures.limits;
        held = c.holders_have_rows.ensures;
      };
      lowest = c.lowest_keys_are_least.ensures.free;
      hold_laws = record {
        permits = c.changes_pass_over_holds.ensures.permits;
        no_change = c.changes_pass_over_holds.ensures.no_change;
      };
    }) face g.T.Tells.tells start a n old new inv steps

pub returns-clause-log : goal.returns-clause-log
returns-clause-log g c = λ start a old new inv store step holds.
    log_ends _ g.T.Tells.tells start a old new _ inv (λ goes_on. c.jobs_end.ensures old.store new.store store goes_on) step holds
