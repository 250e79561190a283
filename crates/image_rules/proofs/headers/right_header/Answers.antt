use Rattle.std.proofs.Common.{rules}
use Rattle.image_rules.proofs.Heading.{header_right}
use Rattle.image_rules.proofs.headers.right_header.Goals as goal

pub returns-then-eq-clause-right : goal.returns-then-eq-clause-right
returns-then-eq-clause-right c image shown =
    let a = c.args in
    header_right c.encoded_headers_are_read.ensures a.g.now image a.group a.sector.now.bytes c.in_ok-agi.agi shown c.in_ok-agi.ensures.found
    c.if-agi-group.true c.if-agi-g.true (search rules)
