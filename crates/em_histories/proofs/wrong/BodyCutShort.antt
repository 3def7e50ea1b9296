use Rattle.std.proofs.Common.{[], ◌∷◌, None, reverse, refl, sym}
use Rattle.em_log.specs.declared.ask.Ask.{Ask}
use Rattle.em_log.specs.Declarations.{declarations_of}
use Rattle.em_log.specs.Lawful.{AllAllowed}
use Rattle.em_log.specs.Lawful as next
use Rattle.em_log.specs.Legal.{IsLegal}
use Rattle.em_histories.specs.Words.{queue, pool}
use Rattle.em_histories.specs.Runs.{IsUnfaithful}
use Rattle.em_histories.specs.wrong.BodyCutShort.{run}
use Rattle.em_histories.proofs.Chain.{◌after◌, allowed}
use Rattle.em_histories.proofs.Refusals.{some-none}

each : AllAllowed (declarations_of run.graph) run.limits (reverse run.history)
each =
    allowed tt (next.Asks (Ask.End None) refl refl)
    after allowed tt (next.Asks (Ask.Say 5) refl refl)
    after allowed tt refl
    after allowed tt (next.Takes 0 refl refl)
    after allowed tt (next.Asks (Ask.End None) refl refl)
    after allowed tt (next.Asks (Ask.Send 65536 (queue 0) None) refl refl)
    after allowed tt (next.Asks (Ask.Alloc (pool 0) 7 (5 ∷ [])) refl refl)
    after allowed tt (next.Boots refl refl refl)
    after tt

illegal : IsLegal run.graph run.limits run.history → ⊥
unfolding Rattle.em_log.specs.declared.body.Expr.TheBlock.hidden-the_row-Expr-0 denote.Hole.Carrier.hidden Rattle.em_log.specs.declared.body.Stmt.TheBlock.hidden-the_row-Stmt-0
illegal legal = some-none (sym legal.ended.0.over.1)

pub is_unfaithful : IsUnfaithful run
is_unfaithful = record { lawful = record { each = each; whole = refl }; illegal = illegal }
