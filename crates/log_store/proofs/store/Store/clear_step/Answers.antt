use Rattle.std.proofs.Common.{◌+◌}
use Rattle.log_store.specs.Actions.{within_positions, write_cover}
use Rattle.log_store.proofs.store.Store.clear_step.Goals as goal

-- ---- what was done

pub returns-then-not-is_empty-clause-done : goal.returns-then-not-is_empty-clause-done
returns-then-not-is_empty-clause-done g c = c.write_home.ensures.done (within_positions (c.args.self.now.positions.head + 1) write_cover)

pub returns-then-self-clause-done : goal.returns-then-self-clause-done
returns-then-self-clause-done g c = c.flush_home.ensures.done (within_positions (c.args.self.now.positions.head + 1) write_cover)
