use Rattle.std.proofs.Common.{◌<◌, ◌/◌, ◌^◌, ℕ, arith}
use Rattle.std.proofs.Math.Nat.{div-le_self}
use Rattle.group_space.proofs.Unused.{no_bit_from, first_bit_is_set, first_bit_is_low, first_bit_is_least}
use Rattle.group_space.proofs.numbers.bit_from.Goals as goal

pub returns-then-rest-eq0-clause-least : goal.returns-then-rest-eq0-clause-least
returns-then-rest-eq0-clause-least c i low high is = no_bit_from c.args.mask c.args.from i c.if-rest-eq0.true low is

pub returns-else-rest-eq0-clause-set : goal.returns-else-rest-eq0-clause-set
returns-else-rest-eq0-clause-set c =
    let rest : ℕ = c.args.mask / 2 ^ c.args.from in
    let fits = c.ranges.mask.fits in
    let small : rest < 2 ^ 64 = omega (arith, div-le_self c.args.mask (2 ^ c.args.from)) in
    let some : 0 < rest = omega (arith, c.if-rest-eq0.false) in
    (omega arith, first_bit_is_low c.args.mask c.args.from some fits small, first_bit_is_set c.args.mask c.args.from some small)

pub returns-else-rest-eq0-clause-least : goal.returns-else-rest-eq0-clause-least
returns-else-rest-eq0-clause-least c i low high is =
    let rest : ℕ = c.args.mask / 2 ^ c.args.from in
    let fits = c.ranges.mask.fits in
    let small : rest < 2 ^ 64 = omega (arith, div-le_self c.args.mask (2 ^ c.args.from)) in
    let some : 0 < rest = omega (arith, c.if-rest-eq0.false) in
    first_bit_is_least c.args.mask c.args.from i some small low is
