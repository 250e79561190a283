use Rattle.actor_world.proofs.LogLines.{log_answered, log_is_line}
use Rattle.actor_world.proofs.laws.whole_syncs_are_lines.Goals as goal

pub returns-clause-lines : goal.returns-clause-lines
returns-clause-lines g c = λ face start a n made old new inv log whole well.
    log_is_line (record {
      laws = record {
        computed = c.each_call_has_one_reply.ensures.computed;
        history = c.tables_stay_well_formed.ensures.history;
        limits = c.rows_are_within_limits.ensures.limits;
        held = c.holders_have_rows.ensures;
      };
      lowest = c.lowest_keys_are_least.ensures.free;
      hold_laws = record {
        permits = c.changes_pass_over_holds.ensures.permits;
        no_change = c.changes_pass_over_holds.ensures.no_change;
      };
    }) face g.T.Tells.tells start a n made old new inv log whole well

pub returns-clause-answers : goal.returns-clause-answers
returns-clause-answers g c = λ face start a n made old new inv log whole.
    log_answered (record {
      laws = record {
        computed = c.each_call_has_one_reply.ensures.computed;
        history = c.tables_stay_well_formed.ensures.history;
        limits = c.rows_are_within_limits.ensures.limits;
        held = c.holders_have_rows.ensures;
      };
      lowest = c.lowest_keys_are_least.ensures.free;
      hold_laws = record {
        permits = c.changes_pass_over_holds.ensures.permits;
        no_change = c.changes_pass_over_holds.ensures.no_change;
      };
    }) face g.T.Tells.tells start a n made old new inv log whole
