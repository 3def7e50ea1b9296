-- What a source and a sink in memory hold, and how often they were called.
use Rattle.std.specs.Prelude.{ℕ, List}
use Rattle.em_io.specs.declared.memory.MemSink.{MemSink}
use Rattle.em_io.specs.declared.memory.MemSource.{MemSource}
use Rattle.em_io.specs.Sure.{sure_given, sure_left}

abbrev pub source_left : MemSource → List ℕ
source_left source = sure_left source.source

abbrev pub source_given : MemSource → ℕ
source_given source = sure_given source.source

-- the calls that fail
abbrev pub source_fails : MemSource → List ℕ
source_fails source = source.calls.fails.items

-- the calls made so far
abbrev pub source_made : MemSource → ℕ
source_made source = source.calls.made

abbrev pub source_faults : MemSource → ℕ
source_faults source = source.calls.faults

abbrev pub sink_bytes : MemSink → List ℕ
sink_bytes sink = sink.sink

-- the calls that fail
abbrev pub sink_fails : MemSink → List ℕ
sink_fails sink = sink.calls.fails.items

-- the calls made so far
abbrev pub sink_made : MemSink → ℕ
sink_made sink = sink.calls.made

abbrev pub sink_faults : MemSink → ℕ
sink_faults sink = sink.calls.faults
