-- What a store is at after a record or a cover is flushed, or an image is written home.
use Rattle.std.specs.Prelude.{◌≤◌, ◌<◌, ◌+◌, false, true, List, length, drop}
use Rattle.disk_model.specs.Disk.{Cell}
use Rattle.log_record.specs.declared.image.Image.{Image}
use Rattle.log_record.specs.Encoding.{sector_count}
use Rattle.log_batch.specs.Put.{put_all}
use Rattle.log_store.specs.declared.store.Stage.TheVariants.{Free}
use Rattle.log_store.specs.State.{State}

-- the ring lies on the disk
pub record RingFits (s : State) (cells : List Cell) : Type 0 where
  pub some : 0 < s.ring
  pub place : s.anchor + 1 + s.ring ≤ length cells

-- the record is flushed
abbrev pub landed : State → State
landed s = record {
  anchor = s.anchor;
  ring = s.ring;
  head = s.head + sector_count (length s.batch);
  tail = s.tail;
  durable = s.durable + s.taken;
  list = drop s.taken s.list;
  dirty = put_all s.batch s.dirty;
  unflushed = false;
  batch = s.batch;
  taken = s.taken;
  stage = Free;
}

-- the cover is flushed
abbrev pub covered_state : State → State
covered_state s = record {
  anchor = s.anchor;
  ring = s.ring;
  head = s.head + 1;
  tail = s.head;
  durable = s.durable;
  list = s.list;
  dirty = s.dirty;
  unflushed = s.unflushed;
  batch = s.batch;
  taken = s.taken;
  stage = Free;
}

-- an image was written home: the others are left
abbrev pub written_home : State → List Image → State
written_home s rest = record {
  anchor = s.anchor;
  ring = s.ring;
  head = s.head;
  tail = s.tail;
  durable = s.durable;
  list = s.list;
  dirty = rest;
  unflushed = true;
  batch = s.batch;
  taken = s.taken;
  stage = s.stage;
}

-- what was written home is flushed
abbrev pub flushed_home : State → State
flushed_home s = record {
  anchor = s.anchor;
  ring = s.ring;
  head = s.head;
  tail = s.tail;
  durable = s.durable;
  list = s.list;
  dirty = s.dirty;
  unflushed = false;
  batch = s.batch;
  taken = s.taken;
  stage = s.stage;
}
