-- What reading a trace answers.
use Rattle.std.specs.Prelude.{◌≡◌, Result, Ok, Err}
use Rattle.em_trace.specs.declared.history.Trace.{Trace}
use Rattle.em_trace.specs.declared.history.TraceEnd.{TraceEnd}
use Rattle.em_trace.specs.declared.history.TraceEnd.TheVariants as ends
use Rattle.em_trace.specs.Reading.{Found}

abbrev pub FailsAs : TraceEnd → Found → Type 0
FailsAs (ends.Refused line rule) found = found ≡ Err (line, rule)
FailsAs ends.NoMemory found = Unit {0}

-- the answer is what is found, unless memory ran out
abbrev pub Gives : Result Trace TraceEnd → Found → Type 0
Gives (Ok trace) found = found ≡ Ok (trace.entries, trace.end)
Gives (Err end) found = FailsAs end found
