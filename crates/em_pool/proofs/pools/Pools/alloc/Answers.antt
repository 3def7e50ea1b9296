use Rattle.std.proofs.Common.{◌+◌, ◌∷◌, length, get_or, take, Ok, Err, ap, sym, ◌∙◌, subst, arith}
use Rattle.em_log.specs.declared.fault.Fault.{Fault}
use Rattle.em_log.specs.Declarations.{event_total}
use Rattle.em_log.specs.History.{handle_of}
use Rattle.em_log.specs.Leads.{event_with}
use Rattle.em_pool.specs.Places.{is_free, events_of, indices_of}
use Rattle.em_pool.specs.Stands.{Stands}
use Rattle.em_pool.specs.State.{PoolState, place_at}
use Rattle.em_pool.specs.Steps.{Minted}
use Rattle.em_pool.proofs.Allocating.{words-read, found-passes, found-within, answer-empty, answer-minted, first-same}
use Rattle.em_pool.proofs.FirstFree.{pool-within, events-read}
use Rattle.em_pool.proofs.Minting.{minted-stands, unheld_free}
use Rattle.em_pool.proofs.pools.Pools.alloc.Goals as goal

pub mint_with-requires-clause-index : goal.mint_with-requires-clause-index
mint_with-requires-clause-index c =
    let lt = found-within (λ i. is_free (place_at c.args.self.now i)) (events_of c.args.self.now.pools c.args.pool.0)
    (event_total (take c.args.pool.0 c.args.self.now.pools)) c.in-Some.index (sym c.in-Some.ensures) in
    let le = pool-within c.args.self.now.pools c.args.pool.0 in omega arith

pub mint_with-requires-clause-unheld : goal.mint_with-requires-clause-unheld
mint_with-requires-clause-unheld c =
    unheld_free (place_at c.args.self.now c.in-Some.index)
    (found-passes (λ i. is_free (place_at c.args.self.now i)) (indices_of c.args.self.now.pools c.args.pool.0) c.in-Some.index (sym c.in-Some.ensures))

pub returns-in-None-clause-answer : goal.returns-in-None-clause-answer
returns-in-None-clause-answer c = λ s stands.
    let pools = c.as_slice.ensures ∙ ap (λ (v : PoolState). v.pools) c.self.view_is in
    let events = (λ i. (get_or (pools i) (c.from.ensures i) (record { events = 0; words = 0 })).events)
    ∙ sym (events-read c.args.self.now.pools c.args.pool.0 (record { events = 0; words = 0 }) c.requires.pool) in
    let words = (λ i. (get_or (pools i) (c.from.ensures i) (record { events = 0; words = 0 })).words)
    ∙ sym (words-read c.args.self.now.pools c.args.pool.0 (record { events = 0; words = 0 }) c.requires.pool) in
    let size = ap length c.as_slice-2.ensures.value in
    let few = c.if-as_slice-from.false in
    let limit = c.from-2.ensures in
    ap (λ n. Err (Fault.PoolEmpty n)) (c.from-in-None.ensures ∙ events)
    ∙ sym (answer-empty c.args.self.now.pools s c.args.pool.0 (length c.args.words) (omega arith)
    (first-same stands (indices_of c.args.self.now.pools c.args.pool.0) ∙ sym c.in-None.ensures))

pub returns-in-Some-clause-answer : goal.returns-in-Some-clause-answer
returns-in-Some-clause-answer c = λ s stands.
    let pools = c.as_slice.ensures ∙ ap (λ (v : PoolState). v.pools) c.self.view_is in
    let words = (λ i. (get_or (pools i) (c.from.ensures i) (record { events = 0; words = 0 })).words)
    ∙ sym (words-read c.args.self.now.pools c.args.pool.0 (record { events = 0; words = 0 }) c.requires.pool) in
    let size = ap length c.as_slice-2.ensures.value in
    let few = c.if-as_slice-from.false in
    let limit = c.from-2.ensures in
    ap (λ n. Ok (record { 0 = n })) (c.mint_with.ensures.handle ∙ ap (λ g. handle_of (g + 1) c.in-Some.index) (stands.generations c.in-Some.index))
    ∙ sym (answer-minted c.args.self.now.pools s c.args.pool.0 (length c.args.words) c.in-Some.index (omega arith)
    (first-same stands (indices_of c.args.self.now.pools c.args.pool.0) ∙ sym c.in-Some.ensures))

pub returns-in-Some-clause-stands : goal.returns-in-Some-clause-stands
returns-in-Some-clause-stands c = λ s stands.
    let pools = ap (λ (v : PoolState). event_total v.pools) c.self.view_is in
    let slots = ap (λ (v : PoolState). length v.slots) c.self.view_is in
    let events = c.self.invariant.events in
    let few = c.self.invariant.few in
    let within = found-within (λ i. is_free (place_at c.args.self.now i)) (events_of c.args.self.now.pools c.args.pool.0)
    (event_total (take c.args.pool.0 c.args.self.now.pools)) c.in-Some.index (sym c.in-Some.ensures) in
    let le = pool-within c.args.self.now.pools c.args.pool.0 in
    let is_free = found-passes (λ i. is_free (place_at c.args.self.now i)) (indices_of c.args.self.now.pools c.args.pool.0) c.in-Some.index
    (sym c.in-Some.ensures) in
    subst (λ v. Stands v (Minted c.args.core.0 (event_with c.mint_with.result.0 c.args.kind c.args.words) ∷ s)) (sym c.mint_with.ensures.value)
    (minted-stands stands c.args.core.0 c.in-Some.index c.args.kind c.args.words c.mint_with.result.0 c.mint_with.ensures.handle
    (omega arith) (omega arith) (unheld_free (place_at c.args.self.now c.in-Some.index) is_free))
