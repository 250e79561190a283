use Rattle.life_table.proofs.GivenBack.{free_gives, free_keeps_others, cut_gives, cut_keeps_others, gives_none}
use Rattle.life_table.proofs.laws.blocks_come_back_once.Goals as goal

pub returns-clause-free : goal.returns-clause-free
returns-clause-free c t u key row block ok frees at = free_gives t key u row block ok frees at

pub returns-clause-free_elsewhere : goal.returns-clause-free_elsewhere
returns-clause-free_elsewhere c t u key g frees apart = free_keeps_others t key u g frees apart

pub returns-clause-cut : goal.returns-clause-cut
returns-clause-cut c t u key count row block ok legal at = cut_gives t key count u row block ok legal at

pub returns-clause-cut_elsewhere : goal.returns-clause-cut_elsewhere
returns-clause-cut_elsewhere c t u key count g legal apart = cut_keeps_others t key count u g legal apart

pub returns-clause-other_calls : goal.returns-clause-other_calls
returns-clause-other_calls c t u called answer g block ok legal plain = gives_none t called answer u ok legal plain g block
