use Rattle.std.proofs.Common.{◌≡◌, drop, length}
use Rattle.log_batch.specs.Newest.{commit_images}
use Rattle.log_store.proofs.record.drop_front.Given as goal

abbrev pub invariant-loop-i : goal.invariant-loop-i
invariant-loop-i l = record {
  list : l.queue.items ≡ drop l.i l.fn.queue.items;
  counted : l.waiting ≡ length (commit_images l.queue.items);
}
