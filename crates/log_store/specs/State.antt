-- What a store is at, apart from its disk.
use Rattle.std.specs.Prelude.{ℕ, Bool, List}
use Rattle.log_record.specs.declared.image.Image.{Image}
use Rattle.log_record.specs.declared.image.Commit.{Commit}
use Rattle.log_store.specs.declared.store.Stage.{Stage}
use Rattle.log_store.specs.declared.store.Store.{Store}

-- The anchor's sector and the sectors of the ring; the head and the tail; the greatest durable commit number; the
-- commits that are not durable; the logged images that are not home, and whether sectors were written home since the
-- last flush; the images and the number of commits of the record that is being written; and how far that is.
pub record State : Type 0 where
  pub anchor : ℕ
  pub ring : ℕ
  pub head : ℕ
  pub tail : ℕ
  pub durable : ℕ
  pub list : List Commit
  pub dirty : List Image
  pub unflushed : Bool
  pub batch : List Image
  pub taken : ℕ
  pub stage : Stage

abbrev pub state_of : {D : Type 0} → Store D → State
state_of store = record {
  anchor = store.anchor;
  ring = store.ring;
  head = store.positions.head;
  tail = store.positions.tail;
  durable = store.durable;
  list = store.queue.items;
  dirty = store.dirty.images;
  unflushed = store.unflushed;
  batch = store.batch;
  taken = store.taken;
  stage = store.stage;
}
