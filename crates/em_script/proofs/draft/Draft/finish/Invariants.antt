use Rattle.std.proofs.Common.{◌≡◌}
use Rattle.em_script.proofs.draft.Draft.finish.Given as goal

abbrev pub invariant-loop-eo : goal.invariant-loop-eo
invariant-loop-eo l = l.eos ≡ l.yielded
