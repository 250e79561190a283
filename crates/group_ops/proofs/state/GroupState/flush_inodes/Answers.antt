use Rattle.std.proofs.Common.{◌*◌, sym, ◌∙◌, subst}
use Rattle.group_ops.specs.Telling.{HasInodeAt}
use Rattle.group_ops.specs.Values.{StateValue}
use Rattle.group_ops.proofs.Flushed.{buffer_there}
use Rattle.group_ops.proofs.Setting.{ascend_alike}
use Rattle.group_ops.proofs.Standing.{number_small}
use Rattle.group_ops.proofs.state.GroupState.flush_inodes.Goals as goal

pub flush_buffers-requires-clause-small : goal.flush_buffers-requires-clause-small
flush_buffers-requires-clause-small c =
    let own = subst (λ (v : StateValue). HasInodeAt v (c.args.cluster * 32)) (sym c.self.view_is) c.requires in
    number_small c.places_have_their_metadata.ensures.place _ (c.args.cluster * 32) c.self.invariant.shape c.self.invariant.inside own

pub flush_buffers-requires-clause-there : goal.flush_buffers-requires-clause-there
flush_buffers-requires-clause-there c =
    let own = subst (λ (v : StateValue). HasInodeAt v (c.args.cluster * 32)) (sym c.self.view_is) c.requires in
    buffer_there _ (c.args.cluster * 32) own

pub invariant_of-self : goal.invariant_of-self
invariant_of-self c = record {
  shape = c.self.invariant.shape;
  inside = c.self.invariant.inside;
  ascends = ascend_alike c.flush_buffers.new.chunks.items c.self.inside.chunks.items c.flush_buffers.ensures.starts c.self.invariant.ascends;
  whole = c.flush_buffers.ensures.whole;
  own = c.flush_buffers.ensures.cache.group ∙ c.self.invariant.own;
  uuid = c.flush_buffers.ensures.cache.uuid ∙ c.self.invariant.uuid;
}
