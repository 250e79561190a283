use Rattle.encoded_changes.proofs.Listed.{first_put, out_taken}
use Rattle.encoded_changes.proofs.Rows.{row_put, row_taken}
use Rattle.encoded_changes.proofs.laws.rows_touch_their_bucket.Goals as goal

pub returns-clause-put : goal.returns-clause-put
returns-clause-put c = λ g layouts others group chunks agino old new place puts. row_put g layouts others group chunks agino old new place (first_put layouts others group agino puts)

pub returns-clause-taken : goal.returns-clause-taken
returns-clause-taken c = λ g layouts others group chunks agino old new place out. row_taken g layouts others group chunks agino old new place (out_taken layouts others group agino out)
