use Rattle.std.proofs.Common.{◌≡◌, ◌∙◌, ◌≤◌, [], replicate, ap, sym, subst}
use Rattle.em_log.specs.declared.declarations.Declarations.{Declarations}
use Rattle.em_log.specs.Declarations.{event_total}
use Rattle.em_pool.specs.Changes.{opened}
use Rattle.em_pool.specs.Stands.{Stands}
use Rattle.em_pool.specs.State.{fresh}
use Rattle.em_pool.proofs.Opening.{opened-stands, whole-opened}
use Rattle.em_pool.proofs.pools.Pools.build.Goals as goal
use Rattle.em_pool.proofs.pools.Pools.build.Goals.{After-new}

events_is : (c : After-new) → c.total-events.result ≡ event_total c.in_ok-cores.field-0.pools
events_is c = c.total-events.ensures ∙ ap event_total c.as_slice.ensures

pub invariant_of-result : goal.invariant_of-result
invariant_of-result c =
    whole-opened c.in_ok-cores.field-0.pools c.in_ok-cores.field-0.cores c.total-events.result c.new.result.room c.in_ok-fresh_slots.field-0.items
    c.in_ok-full.field-0 c.in_ok-nothing_held.field-0.items (events_is c)
    (subst (λ (d : Declarations). event_total d.pools ≤ 4096) (sym c.in_ok-cores.ensures) c.requires) c.in_ok-fresh_slots.ensures c.in_ok-full.ensures
    c.in_ok-nothing_held.ensures

pub returns-clause-value : goal.returns-clause-value
returns-clause-value c =
    (λ i. record {
      pools = c.in_ok-cores.field-0.pools;
      slots = (c.in_ok-fresh_slots.ensures ∙ ap (λ n. replicate n fresh) (events_is c)) i;
      older = c.new.ensures i;
      mintings = 0;
      spare = 0;
    })
    ∙ ap (λ (d : Declarations). opened d.pools) c.in_ok-cores.ensures

pub returns-clause-stands : goal.returns-clause-stands
returns-clause-stands c = subst (λ v. Stands v []) (sym (returns-clause-value c)) (opened-stands _)
