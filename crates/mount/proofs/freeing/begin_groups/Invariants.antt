use Rattle.std.specs.Prelude.{◌≡◌, [], All}
use Rattle.group_core.specs.Value.{GroupValue}
use Rattle.group_ops.specs.Values.{StateValue}
use Rattle.mount.specs.Mounts.{states_of}
use Rattle.mount.proofs.freeing.begin_groups.Given as goal

abbrev pub invariant-loop-state : goal.invariant-loop-state
invariant-loop-state l = record {
  states : states_of l.groups.items ≡ l.yielded;
  fresh : All (λ (group : GroupValue StateValue). group.history ≡ []) l.groups.items;
}
