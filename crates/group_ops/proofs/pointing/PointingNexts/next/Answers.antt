use Rattle.life_limits.specs.declared.TheConstants.{GROUP_NUMBERS}
use Rattle.group_ops.proofs.Shown.{numbers_are}
use Rattle.group_ops.proofs.pointing.PointingNexts.next.Goals as goal

pub next_at-requires-clause-low : goal.next_at-requires-clause-low
next_at-requires-clause-low c = numbers_are GROUP_NUMBERS c.args.agino c.requires
