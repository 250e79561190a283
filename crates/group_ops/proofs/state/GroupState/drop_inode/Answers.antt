use Rattle.std.proofs.Common.{◌≡◌, false, ap, sym, subst}
use Rattle.std.specs.Prelude.{IsSomeAnd}
use Rattle.inode_cache.specs.Caches.{Cache}
use Rattle.group_ops.specs.Represents.{IsGroupOf}
use Rattle.group_ops.specs.Values.{StateValue, kept_at}
use Rattle.group_ops.proofs.Keepings.{goes_now}
use Rattle.group_ops.proofs.state.GroupState.drop_inode.Goals as goal

pub returns-clause-represents : goal.returns-clause-represents
returns-clause-represents c t layouts is =
    let own = subst (λ (v : StateValue). IsGroupOf v t layouts) (sym c.self.view_is) is in
    let kept = subst (λ (v : StateValue). IsSomeAnd (kept_at v c.args.agino) (λ k. k.dirty ≡ false)) (sym c.self.view_is) c.requires.clean in
    goes_now _ c.args.agino c.reclaim.new.self.inodes _ kept (ap (λ (v : Cache). v.inodes) c.reclaim.ensures.gone) t layouts own
