use Rattle.std.proofs.Common.{Some, None, arith}
use Rattle.life_table.proofs.Numbers.{handle_parts}
use Rattle.life_table.proofs.handle.read_handle.Goals as goal

pub returns-in-Some-clause-only : goal.returns-in-Some-clause-only
returns-in-Some-clause-only c key ok is =
    let parts = handle_parts c.args.text.now key (Some (c.in-Some.number, c.in-Some.generation)) c.in-Some.ensures.cases ok is in
    c.key_of.ensures.only key ok
    (c.read_number.ensures.only key.number (omega (arith, ok.number)) parts.0)
    (c.read_number-in-Some.ensures.only key.generation (omega (arith, ok.last)) parts.1)

pub returns-in-None-clause-only : goal.returns-in-None-clause-only
returns-in-None-clause-only c key ok is = absurd (handle_parts c.args.text.now key None c.in-None.ensures.cases ok is)
