use Rattle.group_frame.proofs.Agree.{agrees_same}
use Rattle.group_frame.proofs.Calls.{awaits_agree, both_agree, both_others, both_put_back, freed_both}
use Rattle.group_frame.proofs.laws.frees_stay_in_their_group.Goals as goal

pub returns-clause-awaits : goal.returns-clause-awaits
returns-clause-awaits c = awaits_agree

pub returns-clause-after : goal.returns-clause-after
returns-clause-after c = λ g t u key in_group inside agrees. both_agree g t u _ _ inside agrees (freed_both g t u key in_group agrees)

pub returns-clause-put_back : goal.returns-clause-put_back
returns-clause-put_back c = λ g t u key in_group inside agrees. both_put_back g t u _ _ inside agrees (freed_both g t u key in_group agrees)

pub returns-clause-others : goal.returns-clause-others
returns-clause-others c = λ g other t key in_group apart. both_others g other t t _ _ apart (freed_both g t t key in_group (agrees_same g t))
