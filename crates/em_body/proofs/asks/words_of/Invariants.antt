use Rattle.std.proofs.Common.{◌≡◌, map, take}
use Rattle.em_body.specs.Environments.{env_of}
use Rattle.em_log.specs.Expressions.{value}
use Rattle.em_body.proofs.asks.words_of.Given as goal

abbrev pub invariant-loop-word : goal.invariant-loop-word
invariant-loop-word l = l.all ≡ map (λ e. value e (env_of l.v)) (take l.word-index l.words)
