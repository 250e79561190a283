use Rattle.encoded_changes.proofs.Listed.{first_put, out_taken}
use Rattle.encoded_changes.proofs.Buckets.{next-without, none_before, not_itself, one_before, put_touches, taken_touches}
use Rattle.encoded_changes.proofs.laws.buckets_touch_pointers.Goals as goal

pub returns-clause-put : goal.returns-clause-put
returns-clause-put c = λ g layouts others group chunks agino place puts. put_touches g layouts others group chunks agino place (first_put layouts others group agino puts)

pub returns-clause-taken : goal.returns-clause-taken
returns-clause-taken c = λ g layouts others group chunks agino place out. taken_touches g layouts others group chunks agino place (out_taken layouts others group agino out)

pub returns-clause-one_before : goal.returns-clause-one_before
returns-clause-one_before c = one_before

pub returns-clause-none_before : goal.returns-clause-none_before
returns-clause-none_before c = none_before

pub returns-clause-not_itself : goal.returns-clause-not_itself
returns-clause-not_itself c = not_itself

pub returns-clause-others_stay : goal.returns-clause-others_stay
returns-clause-others_stay c = next-without
