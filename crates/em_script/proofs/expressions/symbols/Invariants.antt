use Rattle.std.proofs.Common.{◌≡◌, ◌≤◌, ◌<◌, ◌+◌, ◌^◌, length}
use Rattle.em_script.specs.Expressions.{read_symbols}
use Rattle.em_script.proofs.Front.{with_front}
use Rattle.em_script.proofs.expressions.symbols.Given as goal

abbrev pub invariant-symbols : goal.invariant-symbols
invariant-symbols l = record {
  so_far : with_front l.symbols (read_symbols l.places l.line.tokens l.line.rule) ≡ read_symbols 1 l.initial.line.tokens l.initial.line.rule;
  few : l.places ≤ 1 + length l.symbols;
  counted : length l.symbols + length l.line.tokens ≡ length l.initial.line.tokens;
  small : 0 < length l.symbols → length l.initial.line.tokens < 2 ^ 63;
}

abbrev pub decreases-symbols : goal.decreases-symbols
decreases-symbols l = length l.line.tokens
