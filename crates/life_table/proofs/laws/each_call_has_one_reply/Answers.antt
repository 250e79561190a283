use Rattle.life_table.proofs.Replies.{one_reply, some_reply, permitted}
use Rattle.life_table.proofs.laws.each_call_has_one_reply.Goals as goal

pub returns-clause-at_most_one : goal.returns-clause-at_most_one
returns-clause-at_most_one c = one_reply

pub returns-clause-at_least_one : goal.returns-clause-at_least_one
returns-clause-at_least_one c = some_reply

pub returns-clause-computed : goal.returns-clause-computed
returns-clause-computed c = permitted
