-- The counters of the adapters over std's readers and writers.
use Rattle.std.specs.Prelude.{ℕ}
use Rattle.em_io.specs.declared.standard.StdSink.{StdSink}
use Rattle.em_io.specs.declared.standard.StdSource.{StdSource}

abbrev pub std_given : {R : Type 0} → StdSource R → ℕ
std_given source = source.given

abbrev pub std_source_faults : {R : Type 0} → StdSource R → ℕ
std_source_faults source = source.faults

abbrev pub std_sink_faults : {W : Type 0} → StdSink W → ℕ
std_sink_faults sink = sink.faults
