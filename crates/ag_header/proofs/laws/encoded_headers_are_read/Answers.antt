use Rattle.ag_header.proofs.Encoded.{headers_are_read}
use Rattle.ag_header.proofs.laws.encoded_headers_are_read.Goals as goal

pub returns : goal.returns
returns c = headers_are_read
