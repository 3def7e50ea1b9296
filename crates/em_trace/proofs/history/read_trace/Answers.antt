use Rattle.std.proofs.Common.{◌≡◌, ◌∷◌, true, sym, ◌∙◌}
use Rattle.std.specs.Prelude.{bytes_eq}
use Rattle.em_trace.specs.Line.{pieces}
use Rattle.em_trace.specs.Text.{head_word}
use Rattle.em_trace.proofs.Lines.{trace_behind_head}
use Rattle.em_trace.proofs.history.read_trace.Goals as goal

pub returns-in-Some : goal.returns-in-Some
returns-in-Some c =
    let more : pieces 10 c.args.bytes.now ≡ c.split.result.0.now ∷ pieces 10 c.in-Some.rest.now = rw c.in-Some.is at c.split.ensures.pieces in
    let good : bytes_eq c.split.result.0.now head_word ≡ true = sym c.is.ensures ∙ c.if-not-is.false in
    rw (trace_behind_head c.args.bytes.now c.split.result.0.now c.in-Some.rest.now more good) c.read_lines.ensures
