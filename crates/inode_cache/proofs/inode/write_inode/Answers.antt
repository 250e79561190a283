use Rattle.std.proofs.Common.{List, ℕ, take, ap, ◌∙◌}
use Rattle.extent_fork.specs.declared.extent.Extent.{Extent}
use Rattle.extent_fork.specs.Forks.{AreRuns, fork}
use Rattle.inode_cache.proofs.Inodes.{some_holds, filled_runs, blocks_above, free_fork, encoded_inode}
use Rattle.inode_cache.proofs.inode.write_inode.Goals as goal

pub write_fork-requires-clause-runs : goal.write_fork-requires-clause-runs
write_fork-requires-clause-runs c =
    some_holds c.fill_runs.result c.unwrap-count.result (λ (count : ℕ). AreRuns (take count c.fill_runs.new.into)) c.unwrap-count.ensures (c.fill_runs.ensures.for_fork (blocks_above c.args.inode.now c.as_slice.result.now c.requires.inode c.as_slice.ensures))

pub write_core-requires-clause-fork : goal.write_core-requires-clause-fork
write_core-requires-clause-fork c = λ free.
    let runs_are = filled_runs c.fill_runs.result c.unwrap-count.result c.fill_runs.new.into c.as_slice.result.now c.args.inode.now.blocks c.unwrap-count.ensures c.fill_runs.ensures.found c.as_slice.ensures in
    c.write_fork.ensures.fork ∙ ap (λ (l : List Extent). fork c.args.group l) runs_are ∙ free_fork c.args.inode.now c.args.group c.requires.inode free

pub returns : goal.returns
returns c =
    let runs_are = filled_runs c.fill_runs.result c.unwrap-count.result c.fill_runs.new.into c.as_slice.result.now c.args.inode.now.blocks c.unwrap-count.ensures c.fill_runs.ensures.found c.as_slice.ensures in
    encoded_inode c.write_core.new.into.bytes c.args.uuid.now c.number.result c.args.group c.args.agino c.args.inode.now (take c.unwrap-count.result c.fill_runs.new.into)
    c.write_core.ensures.encoded (c.write_core.ensures.same_fork ∙ c.write_fork.ensures.fork) runs_are c.number.ensures
