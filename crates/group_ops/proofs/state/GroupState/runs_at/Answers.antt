use Rattle.std.proofs.Common.{◌≡◌, Some, None, List, ℕ, sym, subst, ◌∙◌}
use Rattle.std.specs.Prelude.{IfOk}
use Rattle.extent_fork.specs.Runs.{runs}
use Rattle.inode_cache.specs.Caches.{incore_at}
use Rattle.group_ops.specs.Buffers.{buffer_in}
use Rattle.group_ops.specs.Telling.{HasRowAt}
use Rattle.group_ops.specs.Values.{StateValue}
use Rattle.group_ops.proofs.Seen.{blocks_in_core, buffer_fork, has_buffer}
use Rattle.group_ops.proofs.Told.{none_is}
use Rattle.group_ops.proofs.state.GroupState.runs_at.Goals as goal

pub returns-then-has : goal.returns-then-has
returns-then-has c t layouts inode row has =
    let own = subst (λ (v : StateValue). HasRowAt v c.args.agino t layouts inode row) (sym c.self.view_is) has in
    subst (λ (b : List ℕ). IfOk c.runs_in_core.result (λ found. found.items ≡ runs b)) (blocks_in_core _ t layouts c.args.agino inode row c.get.result.now own c.get.ensures.found) c.runs_in_core.ensures

pub unreachable-requires : goal.unreachable-requires
unreachable-requires c =
    let gone : buffer_in c.self.inside.chunks.items c.args.agino ≡ None = cc (c.find_buffer.ensures, c.as_slice.ensures.value) in
    let w = c.requires.used in
    let own = subst (λ (v : StateValue). HasRowAt v c.args.agino w.0 w.1 w.2 w.3) (sym c.self.view_is) w.4 in
    has_buffer _ w.0 w.1 c.args.agino w.2 w.3 own gone

pub runs_in_buffer-requires-clause-right : goal.runs_in_buffer-requires-clause-right
runs_in_buffer-requires-clause-right c =
    let laws = c.encoded_places.ensures in
    let at : buffer_in c.self.inside.chunks.items c.args.agino ≡ Some c.in-Some.sector = cc (c.find_buffer.ensures, c.as_slice.ensures.value) in
    let w = c.requires.used in
    let own = subst (λ (v : StateValue). HasRowAt v c.args.agino w.0 w.1 w.2 w.3) (sym c.self.view_is) w.4 in (
      runs w.3.blocks,
      buffer_fork laws.inode laws.fork _ w.0 w.1 c.args.agino c.args.extents w.2 w.3 c.in-Some.sector c.self.invariant.shape c.self.invariant.inside own
          (none_is (incore_at c.self.inside.cache c.args.agino) (sym c.has.ensures ∙ c.if-has.false)) at (c.requires.many w.0 w.1 w.2 w.3 w.4),
    )

pub returns : goal.returns
returns c t layouts inode row has =
    let laws = c.encoded_places.ensures in
    let at : buffer_in c.self.inside.chunks.items c.args.agino ≡ Some c.in-Some.sector = cc (c.find_buffer.ensures, c.as_slice.ensures.value) in
    let own = subst (λ (v : StateValue). HasRowAt v c.args.agino t layouts inode row) (sym c.self.view_is) has in
    c.runs_in_buffer.ensures (runs row.blocks)
    (buffer_fork laws.inode laws.fork _ t layouts c.args.agino c.args.extents inode row c.in-Some.sector c.self.invariant.shape c.self.invariant.inside own
    (none_is (incore_at c.self.inside.cache c.args.agino) (sym c.has.ensures ∙ c.if-has.false)) at (c.requires.many t layouts inode row has))
