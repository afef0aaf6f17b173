-- What the adapters hold.
use Rattle.std.specs.Prelude.{ℕ}
use Rattle.command_ends.specs.declared.adapters.ReaderSource.{ReaderSource}
use Rattle.command_ends.specs.declared.adapters.WriterSink.{WriterSink}

-- the reader behind a source, and how many of its reads failed
abbrev pub source_reader : {R : Type 0} → ReaderSource R → R
source_reader source = source.reader

abbrev pub source_faults : {R : Type 0} → ReaderSource R → ℕ
source_faults source = source.faults

-- the writer behind a sink, and how many of its writes failed
abbrev pub sink_writer : {W : Type 0} → WriterSink W → W
sink_writer sink = sink.writer

abbrev pub sink_faults : {W : Type 0} → WriterSink W → ℕ
sink_faults sink = sink.faults
