use Rattle.std.proofs.Common.{Option, List, length, ap, sym, subst, ◌∙◌}
use Rattle.std.specs.List.{AllByRecursion, flat_map}
use Rattle.extent_fork.specs.declared.extent.Extent.{Extent}
use Rattle.extent_fork.specs.Forks.{IsRun}
use Rattle.extent_fork.specs.Runs.{blocks_of, runs}
use Rattle.life_table.specs.declared.types.Row.{Row}
use Rattle.life_table.specs.Space.{row_blocks}
use Rattle.group_ops.specs.Telling.{HasRowAt}
use Rattle.group_ops.specs.Values.{StateValue}
use Rattle.group_ops.proofs.Outcomes.{IfOk-weaker}
use Rattle.group_ops.proofs.Standing.{no_blocks, row_at, row_some, runs_stand}
use Rattle.group_ops.proofs.state.GroupState.blocks_at.Goals as goal

pub returns-then-extents-eq0 : goal.returns-then-extents-eq0
returns-then-extents-eq0 c t layouts inode is there =
    c.new.ensures.items ∙ no_blocks c.encoded_forks_are_read.ensures (row_blocks inode.row) c.args.extents c.if-extents-eq0.true (c.requires.many t layouts inode is there)

pub runs_at-requires-clause-used : goal.runs_at-requires-clause-used
runs_at-requires-clause-used c = row_at c.args.self.now c.args.agino c.args.extents c.requires.there c.requires.many c.if-extents-eq0.false

pub runs_at-requires-clause-many : goal.runs_at-requires-clause-many
runs_at-requires-clause-many c t layouts inode row has =
    c.requires.many t layouts inode has.group has.inode_there ∙ ap (λ (r : Option Row). length (runs (row_blocks r))) has.used

pub blocks_of_runs-requires : goal.blocks_of_runs-requires
blocks_of_runs-requires c =
    let w = row_at c.args.self.now c.args.agino c.args.extents c.requires.there c.requires.many c.if-extents-eq0.false in
    let own = subst (λ (v : StateValue). HasRowAt v c.args.agino w.0 w.1 w.2 w.3) (sym c.self.view_is) w.4 in
    subst (AllByRecursion IsRun) (sym (c.as_slice.ensures.value ∙ c.in_ok-runs.ensures w.0 w.1 w.2 w.3 w.4))
    (runs_stand c.encoded_places.ensures.fork _ w.0 w.1 c.args.agino w.2 w.3 c.self.invariant.shape c.self.invariant.inside own)

pub returns : goal.returns
returns c t layouts inode is there =
    let row = row_some inode.row c.args.extents c.if-extents-eq0.false (c.requires.many t layouts inode is there) in
    let found = c.in_ok-runs.ensures t layouts inode row.is record { group = is; inode_there = there; used = row.of } in
    IfOk-weaker c.blocks_of_runs.result c.blocks_of_runs.ensures (λ v e.
    e
    ∙ ap (λ (l : List Extent). flat_map blocks_of l) (c.as_slice.ensures.value ∙ found)
    ∙ c.encoded_forks_are_read.ensures.blocks row.is.blocks
    ∙ sym (ap (λ (r : Option Row). row_blocks r) row.of))
