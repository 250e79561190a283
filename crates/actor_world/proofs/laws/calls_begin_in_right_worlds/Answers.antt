use Rattle.actor_world.proofs.Begins.{begin_kept}
use Rattle.actor_world.proofs.laws.calls_begin_in_right_worlds.Goals as goal

pub returns : goal.returns
returns g c = λ start a made old new inv begun.
    begin_kept (record {
      computed = c.each_call_has_one_reply.ensures.computed;
      history = c.tables_stay_well_formed.ensures.history;
      limits = c.rows_are_within_limits.ensures.limits;
      held = c.holders_have_rows.ensures;
    }) g.T.Tells.tells start a made old new inv begun
