use Rattle.std.proofs.Common.{◌∙◌, ap, map}
use Rattle.std.proofs.lemmas.List.{take_all}
use Rattle.em_body.specs.Environments.{env_of}
use Rattle.em_log.specs.Expressions.{value}
use Rattle.em_body.proofs.AsksOf.{map-values}
use Rattle.em_body.proofs.asks.words_of.Goals as goal

pub returns : goal.returns
returns c =
    c.loop-word.invariant
    ∙ ap (λ es. map (λ e. value e (env_of c.args.v.now)) es) (take_all c.loop-word.word-index c.args.words.now c.loop-word-test.false)
    ∙ map-values (env_of c.args.v.now) c.args.words.now
