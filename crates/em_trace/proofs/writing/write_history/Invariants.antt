use Rattle.std.proofs.Common.{◌≡◌, take}
use Rattle.std.specs.List.{AllByRecursion}
use Rattle.std.specs.Io.KnownBytes.{append_known}
use Rattle.em_trace.specs.Fitting.{EntryFits}
use Rattle.em_trace.proofs.Appending.{text_before}
use Rattle.em_trace.proofs.writing.write_history.Given as goal

abbrev pub invariant-loop-place : goal.invariant-loop-place
invariant-loop-place g l = record {
  written : g.K.Sink.written l.sink ≡ append_known (g.K.Sink.written l.fn.sink) (text_before l.log l.place);
  faults : g.K.Sink.faults l.sink ≡ g.K.Sink.faults l.fn.sink;
  fits : AllByRecursion EntryFits (take l.place l.log);
}
