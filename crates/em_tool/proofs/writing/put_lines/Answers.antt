use Rattle.std.proofs.Common.{◌≤◌, ◌+◌, length, arith, ◌∙◌}
use Rattle.em_tool.proofs.Pieces.{piece-end, next-whole, next-part}
use Rattle.em_tool.proofs.writing.put_lines.Goals as goal

pub returns-in-Err-clause-part : goal.returns-in-Err-clause-part
returns-in-Err-clause-part g c =
    next-part _ _ _ c.args.bytes.now c.lines.at (c.lines.at + c.line_end.result) (omega arith) c.lines.invariant.written c.in-Err.ensures.part

pub lines-preserved : goal.lines-preserved
lines-preserved g c =
    let within : c.lines.at + c.line_end.result ≤ length c.args.bytes.now =
    piece-end c.args.bytes.now c.lines.at c.line_end.result c.lines.invariant.within c.line_end.ensures.most in
    record {
      within = within;
      written = next-whole _ _ _ c.args.bytes.now c.lines.at (c.lines.at + c.line_end.result) (omega arith) within c.lines.invariant.written c.in_default.ensures.whole;
      faults = c.in_default.ensures.sound (λ h. cc) ∙ c.lines.invariant.faults;
    }
