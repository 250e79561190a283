use Rattle.std.proofs.Common.{sym, ◌∙◌}
use Rattle.plain_world.proofs.Happening.{called_leaves}
use Rattle.plain_world.proofs.happen.happen.Goals as goal

pub returns-in_ok-step-in-Called-clause-ok : goal.returns-in_ok-step-in-Called-clause-ok
returns-in_ok-step-in-Called-clause-ok c =
    called_leaves c.each_call_has_one_reply.ensures.at_most_one c.args.table.now c.step.new.self c.args.event.now c.in-Called.call c.in-Called.reply
    c.in_ok-step-in-Called.field-0 c.in-Called.is (sym c.is_log_call.ensures ∙ c.if-is_log_call.false) c.requires
    c.in_ok-step-in-Called.ensures.made c.in_ok-step-in-Called.ensures.able
