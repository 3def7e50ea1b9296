use Rattle.std.proofs.Common.{◌≡◌, ℕ, Result, Ok, Err, ap, subst, ◌∙◌}
use Rattle.std.specs.Prelude.{List, IfOk}
use Rattle.em_trace.specs.declared.history.Trace.{Trace}
use Rattle.em_trace.specs.declared.history.TraceEnd.{TraceEnd}
use Rattle.em_trace.specs.Fitting.{AreEntries}
use Rattle.em_trace.specs.Text.{text}
use Rattle.em_trace.specs.Reading.{trace_of}
use Rattle.em_trace.specs.Traces.{Gives}
use Rattle.em_trace.proofs.TextLaws.{text-again, trace-took}
use Rattle.em_trace.proofs.history.read_history.Goals as goal

found : (bytes : List ℕ) (r : Result Trace TraceEnd) → Gives r (trace_of bytes) → IfOk r (λ trace. AreEntries trace.entries × (bytes ≡ text trace.entries trace.end))
found bytes (Ok trace) h = trace-took bytes trace.entries trace.end h
found bytes (Err end) h = tt

pub returns-clause-found : goal.returns-clause-found
returns-clause-found c = found c.args.bytes.now c.read_trace.result c.read_trace.ensures

pub returns-clause-only : goal.returns-clause-only
returns-clause-only c = λ history end fits e. subst (λ f. Gives c.read_trace.result f) (ap trace_of e ∙ text-again history end fits) c.read_trace.ensures
