use Rattle.std.proofs.Common.{◌∙◌, ◌∷◌, length, ap, sym, subst, arith}
use Rattle.em_log.specs.Declarations.{event_total}
use Rattle.em_log.specs.Leads.{event_with}
use Rattle.em_pool.specs.Changes.{minted}
use Rattle.em_pool.specs.Stands.{Stands}
use Rattle.em_pool.specs.State.{PoolState, place_at}
use Rattle.em_pool.specs.Steps.{Minted}
use Rattle.em_pool.proofs.Minting.{minted-stands, unheld_mintable}
use Rattle.em_pool.proofs.pools.Pools.mint.Goals as goal

pub mint_with-handle-requires-clause-unheld : goal.mint_with-handle-requires-clause-unheld
mint_with-handle-requires-clause-unheld c = unheld_mintable (place_at c.args.self.now c.args.index) c.requires.from

pub returns-clause-stands : goal.returns-clause-stands
returns-clause-stands c = λ s stands.
    let pools = ap (λ (v : PoolState). event_total v.pools) c.self.view_is in
    let slots = ap (λ (v : PoolState). length v.slots) c.self.view_is in
    let events = c.self.invariant.events in
    let few = c.self.invariant.few in
    let index = c.requires.index in
    subst (λ v. Stands v (Minted c.args.core.0 (event_with c.mint_with-handle.result.0 c.index-slot.result.now.kind c.copy-words.result) ∷ s))
    (sym (c.mint_with-handle.ensures.value ∙ ap (minted c.args.self.now c.args.core.0 c.args.index c.index-slot.result.now.kind) c.copy.ensures))
    (minted-stands stands c.args.core.0 c.args.index c.index-slot.result.now.kind c.copy-words.result c.mint_with-handle.result.0
    c.mint_with-handle.ensures.handle (omega arith) (omega arith) (unheld_mintable (place_at c.args.self.now c.args.index) c.requires.from))
