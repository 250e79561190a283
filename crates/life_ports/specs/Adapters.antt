-- What the adapters over readers and writers keep.
use Rattle.std.specs.Prelude.{ℕ}
use Rattle.life_ports.specs.declared.adapters.ReaderSource.{ReaderSource}
use Rattle.life_ports.specs.declared.adapters.WriterSink.{WriterSink}

abbrev pub reader_of : {R : Type 0} → ReaderSource R → R
reader_of s = s.reader

abbrev pub reader_faults : {R : Type 0} → ReaderSource R → ℕ
reader_faults s = s.faults

abbrev pub writer_of : {W : Type 0} → WriterSink W → W
writer_of s = s.writer

abbrev pub writer_faults : {W : Type 0} → WriterSink W → ℕ
writer_faults s = s.faults
