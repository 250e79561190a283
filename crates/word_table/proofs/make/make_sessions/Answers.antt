use Rattle.std.proofs.Common.{◌∙◌}
use Rattle.word_table.proofs.Making.{one_more_session}
use Rattle.word_table.proofs.make.make_sessions.Goals as goal

pub loop-session-preserved : goal.loop-session-preserved
loop-session-preserved c = record {
  maker = c.make_session.ensures.stays ∙ c.loop-session.invariant.maker;
  made = one_more_session _ _ _ _ _ c.loop-session.invariant.made c.in_ok-push.ensures.items c.make_session.ensures.session;
}
