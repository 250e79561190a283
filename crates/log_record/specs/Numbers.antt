-- A record as its numbers and its images.
use Rattle.std.specs.Prelude.{List}
use Rattle.log_record.specs.declared.image.Image.{Image}
use Rattle.log_record.specs.declared.record.LogRecord.{LogRecord}
use Rattle.log_record.specs.declared.record.RecordNumbers.{RecordNumbers}

-- the record with these numbers and images
abbrev pub record_of : RecordNumbers → List Image → LogRecord
record_of numbers images =
    record { position = numbers.position; tail = numbers.tail; first = numbers.first; commits = numbers.commits; images = images }
