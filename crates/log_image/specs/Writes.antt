-- How a record is written: up to the ring's end, and the rest from the ring's beginning on.
use Rattle.std.specs.Prelude.{ℕ, ◌-◌, ◌%◌, List, take, drop}
use Rattle.life_bytes.specs.declared.sector.Sector.{Sector}
use Rattle.log_record.specs.declared.record.LogRecord.{LogRecord}
use Rattle.log_record.specs.Encoding.{encoded_record}

-- the sectors of a record up to the ring's end: all of them, where the record does not pass it
abbrev pub first_part : ℕ → LogRecord → List Sector
first_part ring item = take (ring - item.position % ring) (encoded_record item)

-- the others
abbrev pub rest_part : ℕ → LogRecord → List Sector
rest_part ring item = drop (ring - item.position % ring) (encoded_record item)
