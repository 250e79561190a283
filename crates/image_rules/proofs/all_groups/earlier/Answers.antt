use Rattle.std.proofs.Common.{◌≡◌, arith}
use Rattle.image_rules.specs.Faults.{first_rule, second_rule, first_sector, second_sector}
use Rattle.image_rules.proofs.all_groups.earlier.Goals as goal

pub returns-then-second-first : goal.returns-then-second-first
returns-then-second-first c = second_rule c.args.first c.args.second c.if-second-first.true

pub returns-then-first-second : goal.returns-then-first-second
returns-then-first-second c = first_rule c.args.first c.args.second c.if-first-second.true

pub returns-then-second-first-2 : goal.returns-then-second-first-2
returns-then-second-first-2 c =
    let same : c.args.first.rule ≡ c.args.second.rule = omega (arith, c.if-second-first.false, c.if-first-second.false) in
    second_sector c.args.first c.args.second same (omega (arith, c.if-second-first-2.true))

pub returns : goal.returns
returns c =
    let same : c.args.first.rule ≡ c.args.second.rule = omega (arith, c.if-second-first.false, c.if-first-second.false) in
    first_sector c.args.first c.args.second same (omega (arith, c.if-second-first-2.false))
