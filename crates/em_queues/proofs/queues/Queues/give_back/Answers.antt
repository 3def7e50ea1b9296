use Rattle.std.proofs.Common.{◌≡◌, ◌∷◌, ◌∙◌, Some, ap, sym, subst}
use Rattle.std.specs.Option.{option_map}
use Rattle.em_queues.specs.State.{source_at}
use Rattle.em_queues.specs.Steps.{Untook}
use Rattle.em_queues.specs.Stands.{Stands}
use Rattle.em_queues.proofs.Stands.{unsourced-stands}
use Rattle.em_queues.proofs.Calls.{gave-local-stands, gave-shared-stands}
use Rattle.em_queues.proofs.queues.Queues.give_back.Goals as goal

pub returns-in-None-clause-stands : goal.returns-in-None-clause-stands
returns-in-None-clause-stands c = λ k s stands.
    unsourced-stands stands c.args.core.0 (ap (option_map (λ q. q.0)) (sym c.source.ensures.value ∙ c.in-None.is)) c.in-None.ensures.idle

pub returns-then-is_local-clause-stands : goal.returns-then-is_local-clause-stands
returns-then-is_local-clause-stands c = λ k s stands.
    let from : source_at c.args.self.now c.args.core.0 ≡ Some c.in-Some.queue.0 = ap (option_map (λ q. q.0)) (sym c.source.ensures.value ∙ c.in-Some.is) in
    subst (λ v. Stands k v (Untook c.args.core.0 ∷ s)) (sym c.give_back_local.ensures)
    (gave-local-stands stands c.in-Some.queue.0 c.args.core.0 from (sym c.is_local.ensures.value ∙ c.if-is_local.true) c.requires
    (c.is_local.ensures.local c.args.core.0 c.requires))

pub returns-else-is_local-clause-stands : goal.returns-else-is_local-clause-stands
returns-else-is_local-clause-stands c = λ k s stands.
    let from : source_at c.args.self.now c.args.core.0 ≡ Some c.in-Some.queue.0 = ap (option_map (λ q. q.0)) (sym c.source.ensures.value ∙ c.in-Some.is) in
    subst (λ v. Stands k v (Untook c.args.core.0 ∷ s)) (sym c.give_back_shared.ensures)
    (gave-shared-stands stands c.in-Some.queue.0 c.args.core.0 from (sym c.is_local.ensures.value ∙ c.if-is_local.false) c.requires
    c.is_local.ensures.shared)
