-- How much more a store has room for, so that no memory is taken later.
use Rattle.std.specs.Prelude.{ℕ, ◌-◌}
use Rattle.std.specs.VecDeque.{deque_capacity, deque_len}
use Rattle.log_store.specs.declared.store.Store.{Store}

-- commits
abbrev pub spare_commits : {D : Type 0} → Store D → ℕ
spare_commits store = deque_capacity store.queue - deque_len store.queue

-- images of commits, beside those that wait
abbrev pub spare_images : {D : Type 0} → Store D → ℕ
spare_images store = store.spare
