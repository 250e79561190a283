use Rattle.std.proofs.Common.{◌≡◌, ◌<◌, List, arith, All, ℕ, take, get_or, subst}
use Rattle.std.proofs.lemmas.List.{take_all}
use Rattle.std.specs.List.{flat_map}
use Rattle.extent_fork.specs.declared.extent.Extent.{Extent}
use Rattle.extent_fork.specs.Forks.{IsRun}
use Rattle.extent_fork.specs.Runs.{blocks_of}
use Rattle.image_rules.proofs.Blocking.{passes, within_more}
use Rattle.image_rules.proofs.inodes.are_within.Goals as goal

abbrev blank : Extent
blank = record { start = 0; count = 0 }

pub returns-then-run-blocks-clause-complete : goal.returns-then-run-blocks-clause-complete
returns-then-run-blocks-clause-complete c all =
    let run : IsRun (get_or c.args.runs.now c.loop-run.run-index blank) = c.requires c.loop-run.run-index blank c.loop-run-test.true in
    absurd (passes c.args.blocks c.args.runs.now c.loop-run.run-index blank c.loop-run-test.true run.count c.if-run-blocks.true all)

pub loop-run-preserved : goal.loop-run-preserved
loop-run-preserved c = within_more c.args.blocks c.args.runs.now c.loop-run.run-index blank c.loop-run-test.true c.if-run-blocks.false c.loop-run.invariant

pub returns-clause-sound : goal.returns-clause-sound
returns-clause-sound c _ =
    let whole : take c.loop-run.run-index c.args.runs.now ≡ c.args.runs.now = take_all c.loop-run.run-index c.args.runs.now (omega arith) in
    subst (λ (runs : List Extent). All (λ (block : ℕ). block < c.args.blocks) (flat_map blocks_of runs)) whole c.loop-run.invariant
