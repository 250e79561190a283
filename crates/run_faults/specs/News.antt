-- What one answer of a run tells of the device and of the log.
use Rattle.std.specs.Prelude.{ℕ, List, Option, None, Some, slice_get}
use Rattle.life_table.specs.declared.types.Call.TheVariants as call
use Rattle.life_table.specs.declared.types.Reply.{Reply}
use Rattle.life_table.specs.declared.types.Reply.TheVariants as reply
use Rattle.life_table.specs.declared.types.Event.{Event}
use Rattle.life_table.specs.declared.types.Event.TheVariants.{Called, Freed}
use Rattle.life_table.specs.declared.types.Entry.{Entry}
use Rattle.life_table.specs.declared.types.MountRecord.{MountRecord}
use Rattle.script.specs.declared.answers.LineReply.{LineReply}
use Rattle.script.specs.declared.answers.LineReply.TheVariants as line
use Rattle.script.specs.declared.answers.Said.{Said}
use Rattle.script.specs.declared.answers.Said.TheVariants.{Of, Line}

-- A mount came up; it ended well; a stop left it. A sync or a home was done; the positions of the log ended. A read, a write or a flush failed. A call was refused by a log that is
-- down; so was the end of a mount, which is left. None of these. Or nothing is told, since no record has such an entry.
pub data News : Type 0 where
  comes_up : News
  ends_well : News
  stops : News
  log_works : News
  positions_end : News
  read_fails : News
  write_fails : News
  flush_fails : News
  call_finds_down : News
  end_finds_down : News
  other_news : News
  unrecorded : News

-- what the reply of a call tells
abbrev pub news_of_reply : Reply → News
news_of_reply (reply.Covered durable) = log_works
news_of_reply reply.PositionEnd = positions_end
news_of_reply reply.WriteFault = write_fails
news_of_reply reply.FlushFault = flush_fails
news_of_reply (reply.Down count) = call_finds_down
news_of_reply _ = other_news

-- what an event tells: a home that is done has written the log, as a sync has
abbrev pub news_of_event : Event → News
news_of_event (Called call.Home reply.Done) = log_works
news_of_event (Called made answer) = news_of_reply answer
news_of_event (Freed key) = other_news

-- what the reply of a line tells
abbrev pub news_of_line : LineReply → News
news_of_line (line.Mounted kept count) = comes_up
news_of_line line.Unmounted = ends_well
news_of_line line.Stopped = stops
news_of_line line.PositionEnd = positions_end
news_of_line line.ReadFault = read_fails
news_of_line line.WriteFault = write_fails
news_of_line line.FlushFault = flush_fails
news_of_line (line.Down count) = end_finds_down
news_of_line _ = other_news

-- what the entry at a place of a record tells
abbrev pub news_of_entry : Option Entry → News
news_of_entry None = unrecorded
news_of_entry (Some entry) = news_of_event entry.event

abbrev pub news_in : Option MountRecord → ℕ → News
news_in None place = unrecorded
news_in (Some story) place = news_of_entry (slice_get story.entries place)

-- What an answer tells, by the records of the run's mounts.
abbrev pub news_of : List MountRecord → Said → News
news_of mounts (Of mount place) = news_in (slice_get mounts mount) place
news_of mounts (Line None answer) = news_of_line answer
news_of mounts said = unrecorded
