use Rattle.std.proofs.Common.{◌≡◌, Some, None, sym, subst, ◌∙◌, ℕ}
use Rattle.inode_core.specs.Cores.{EncodesCore}
use Rattle.inode_cache.specs.Caches.{incore_at}
use Rattle.life_table.specs.Table.{group_at, inode_in}
use Rattle.group_ops.specs.Buffers.{buffer_in}
use Rattle.group_ops.specs.Values.{StateValue}
use Rattle.group_ops.specs.Represents.{IsGroupOf}
use Rattle.group_ops.specs.Telling.{core_told}
use Rattle.group_ops.proofs.Told.{none_is, told_buffer, told_found, told_no_buffer}
use Rattle.group_ops.proofs.state.GroupState.core_at.Goals as goal

pub returns-then-has-clause-told : goal.returns-then-has-clause-told
returns-then-has-clause-told c t layouts is =
    subst (λ (v : StateValue). Some c.get.result.now.core ≡ core_told layouts v.group c.args.agino (inode_in (group_at t v.group) c.args.agino)) c.self.view_is
    (told_found _ t layouts c.args.agino c.get.result.now (subst (λ (v : StateValue). IsGroupOf v t layouts) (sym c.self.view_is) is) c.get.ensures.found)

pub returns-in_err-sector-clause-told : goal.returns-in_err-sector-clause-told
returns-in_err-sector-clause-told c t layouts is =
    let out : c.find_buffer.result ≡ None = c.in_err-sector.was in
    let gone : buffer_in c.self.inside.chunks.items c.args.agino ≡ None = cc (c.find_buffer.ensures, c.as_slice.ensures.value) in
    rw c.from_residual.ensures
    (subst (λ (v : StateValue). None ≡ core_told layouts v.group c.args.agino (inode_in (group_at t v.group) c.args.agino)) c.self.view_is
    (told_no_buffer _ t layouts c.args.agino (subst (λ (v : StateValue). IsGroupOf v t layouts) (sym c.self.view_is) is) gone))

pub returns-clause-told : goal.returns-clause-told
returns-clause-told c t layouts is =
    let laws = c.encoded_places.ensures in
    let found : c.find_buffer.result ≡ Some c.in_ok-sector.sector = c.in_ok-sector.was in
    let at : buffer_in c.self.inside.chunks.items c.args.agino ≡ Some c.in_ok-sector.sector = cc (c.find_buffer.ensures, c.as_slice.ensures.value) in
    subst (λ (v : StateValue). c.read_core.result ≡ core_told layouts v.group c.args.agino (inode_in (group_at t v.group) c.args.agino)) c.self.view_is
    (told_buffer laws.inode laws.core _ t layouts c.args.agino c.in_ok-sector.sector c.read_core.result c.self.invariant.shape c.self.invariant.inside
    (subst (λ (v : StateValue). IsGroupOf v t layouts) (sym c.self.view_is) is) (none_is (incore_at c.self.inside.cache c.args.agino) (sym c.has.ensures ∙ c.if-has.false)) at
    (λ core e. c.read_core.ensures.only core (subst (λ (n : ℕ). EncodesCore c.in_ok-sector.sector.bytes n c.self.inside.geometry.uuid core) (sym c.number.ensures) e)))
