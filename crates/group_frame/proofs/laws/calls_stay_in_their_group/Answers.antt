use Rattle.group_frame.proofs.Agree.{agrees_same}
use Rattle.group_frame.proofs.Calls.{after_both, both_agree, both_others, both_put_back, gives_own, permits_agree, reply_agrees}
use Rattle.group_frame.proofs.laws.calls_stay_in_their_group.Goals as goal

pub returns-clause-permits : goal.returns-clause-permits
returns-clause-permits c = permits_agree

pub returns-clause-reply : goal.returns-clause-reply
returns-clause-reply c = reply_agrees

pub returns-clause-after : goal.returns-clause-after
returns-clause-after c = λ g t u called answer is in_group inside agrees permits.
    both_agree g t u _ _ inside agrees (after_both g t u called answer in_group agrees (gives_own c.created_keys_are_free.ensures.group t called answer is permits))

pub returns-clause-put_back : goal.returns-clause-put_back
returns-clause-put_back c = λ g t u called answer is in_group inside agrees permits.
    both_put_back g t u _ _ inside agrees (after_both g t u called answer in_group agrees (gives_own c.created_keys_are_free.ensures.group t called answer is permits))

pub returns-clause-others : goal.returns-clause-others
returns-clause-others c = λ g other t called answer is in_group apart permits.
    both_others g other t t _ _ apart
    (after_both g t t called answer in_group (agrees_same g t) (gives_own c.created_keys_are_free.ensures.group t called answer is permits))
