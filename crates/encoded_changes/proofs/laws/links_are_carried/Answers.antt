use Rattle.encoded_changes.proofs.Listed.{first_put, out_taken}
use Rattle.encoded_changes.proofs.Links.{carried_alone, carried_first, carried_later, carried_put}
use Rattle.encoded_changes.proofs.laws.links_are_carried.Goals as goal

pub returns-clause-alone : goal.returns-clause-alone
returns-clause-alone c = carried_alone

pub returns-clause-put : goal.returns-clause-put
returns-clause-put c = λ g t layouts others image group agino old new can lt at used blocks puts.
    carried_put g t layouts others image group agino old new can lt at used blocks (first_put layouts others group agino puts)

pub returns-clause-taken_first : goal.returns-clause-taken_first
returns-clause-taken_first c = λ g t layouts others image group agino old new can lt at used blocks out.
    carried_first g t layouts others image group agino old new can lt at used blocks (out_taken layouts others group agino out)

pub returns-clause-taken_later : goal.returns-clause-taken_later
returns-clause-taken_later c = λ g t layouts others image group agino before old new other can lt at used blocks out.
    carried_later g t layouts others image group agino before old new other can lt at used blocks (out_taken layouts others group agino out)
