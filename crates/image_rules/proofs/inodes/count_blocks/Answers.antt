use Rattle.std.proofs.Common.{arith, get_or}
use Rattle.extent_fork.specs.declared.extent.Extent.{Extent}
use Rattle.extent_fork.specs.Forks.{IsRun}
use Rattle.image_rules.proofs.Blocking.{count_more}
use Rattle.image_rules.proofs.inodes.count_blocks.Goals as goal

abbrev blank : Extent
blank = record { start = 0; count = 0 }

pub loop-run-preserved : goal.loop-run-preserved
loop-run-preserved c =
    let run : IsRun (get_or c.args.runs.now c.loop-run.run-index blank) = c.requires.runs c.loop-run.run-index blank c.loop-run-test.true in
    let more = count_more c.args.runs.now c.loop-run.run-index blank c.loop-run-test.true in
    let start = run.start in
    let end = run.end in
    record { count = omega (arith, more, c.from-count.ensures, c.loop-run.invariant.count); small = omega (arith, c.from-count.ensures, c.loop-run.invariant.small) }
