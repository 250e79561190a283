use Rattle.encoded_changes.proofs.Listed.{first_put, out_taken}
use Rattle.encoded_changes.proofs.Follow.{layouts_same, layouts_put, layouts_taken, layouts_chunk}
use Rattle.encoded_changes.proofs.laws.layouts_follow_the_table.Goals as goal

pub returns-clause-same : goal.returns-clause-same
returns-clause-same c = layouts_same

pub returns-clause-put : goal.returns-clause-put
returns-clause-put c = λ t layouts others group agino old new are lt at was is puts. layouts_put t layouts others group agino old new are lt at was is (first_put layouts others group agino puts)

pub returns-clause-taken : goal.returns-clause-taken
returns-clause-taken c = λ t layouts others group agino old new are lt at is out. layouts_taken t layouts others group agino old new are lt at is (out_taken layouts others group agino out)

pub returns-clause-chunk : goal.returns-clause-chunk
returns-clause-chunk c = layouts_chunk
