use Rattle.std.proofs.Common.{◌≡◌, ◌∙◌, ◌<◌, [], ◌∷◌, ℕ, List, drop, refl, ap, sym, subst, arith, None, Some, slice_set}
use Rattle.em_log.specs.declared.ask.Ask.{Ask}
use Rattle.em_log.specs.declared.entry.Event.{Event}
use Rattle.em_log.specs.declared.ids.EoId.{EoId}
use Rattle.em_log.specs.Declarations.{event_total}
use Rattle.em_log.specs.Leads.{claimed, event_with}
use Rattle.em_pool.specs.Handles.{last_event, next_handle}
use Rattle.em_pool.specs.Steps.{PoolStep}
use Rattle.em_pool.specs.State.{PoolState}
use Rattle.em_pool.specs.Stands as pools
use Rattle.em_desk.specs.declared.parts.Parts.{Parts}
use Rattle.em_desk.specs.Histories.{HistoryState}
use Rattle.em_desk.specs.Lines.{list_at}
use Rattle.em_desk.specs.Openings.{opening_at, receiver_in}
use Rattle.em_desk.specs.Standing.{Stands}
use Rattle.em_desk.specs.State.{MayAsk}
use Rattle.em_desk.proofs.Asked.{steps_of, asked-outside, settled, adds-none}
use Rattle.em_desk.proofs.Minting.{can-mint, has-spare}
use Rattle.em_desk.proofs.KeptEvents.{IsReceiving, receiving, claim_of, claim-cause, claim-asked, claims-nothing, kept-none, IsFirstKept, first-kept, can-claim, last-kept, claims-first, kept-less}
use Rattle.em_desk.proofs.Begun.{pushed, asked-room, settled-pools}
use Rattle.em_desk.proofs.parts.Parts.claim.Goals as goal

-- the object that claims
claiming : (p : Parts) (n : ℕ) → Stands p → MayAsk p.declarations p.history.past n Ask.Claim → IsReceiving p n
claiming p n s may = receiving p n Ask.Claim s may (asked-outside p n Ask.Claim may refl)

-- its list is the one that is looked at
object-at : (p : Parts) (n at : ℕ) (x : EoId) (s : Stands p) (may : MayAsk p.declarations p.history.past n Ask.Claim) → at ≡ x.0
    → x ≡ receiver_in (opening_at p.contexts.items n) → at ≡ (claiming p n s may).object
object-at p n at x s may from is = from ∙ ap (λ (x : EoId). x.0) (is ∙ (claiming p n s may).opening)

first-at : (p : Parts) (n at i : ℕ) (s : Stands p) (may : MayAsk p.declarations p.history.past n Ask.Claim) → at ≡ (claiming p n s may).object
    → list_at p.kept at ≡ i ∷ drop 1 (list_at p.kept at) → IsFirstKept p (claiming p n s may).object i
first-at p n at i s may same first =
    first-kept p (claiming p n s may).object i (drop 1 (list_at p.kept (claiming p n s may).object)) s (claiming p n s may).declared
    (subst (λ (x : ℕ). list_at p.kept x ≡ i ∷ drop 1 (list_at p.kept x)) same first)

-- the event that the pools mint is the claimed one
event-at : (p : Parts) (n i : ℕ) (e : Event) (s : Stands p) (may : MayAsk p.declarations p.history.past n Ask.Claim) → IsFirstKept p (claiming p n s may).object i
    → ((s : List PoolStep) (m : Event) → pools.Stands p.pools s → last_event s i ≡ Some m → e ≡ event_with (next_handle s i) m.kind m.words)
    → Some e ≡ claimed p.declarations p.history.past n
event-at p n i e s may f answer =
    ap Some (answer (steps_of p) f.minter.event (settled-pools p 0 s) (last-kept p (claiming p n s may).object i f)) ∙ claims-first p n i (claiming p n s may) f

pub take-requires : goal.take-requires
take-requires c =
    let p = c.args.self.now in
    let r = claiming p c.args.core.0 c.requires.stands c.requires.may in
    let at = object-at p c.args.core.0 c.from.result c.receiver-object.result c.requires.stands c.requires.may c.from.ensures
    (c.receiver-object.ensures ∙ ap (λ os. receiver_in (opening_at os c.args.core.0)) c.as_slice.ensures.value) in
    let declared = r.declared in
    let count = c.requires.stands.kept.count in
    omega (arith, at, declared, count)

pub mint-event-requires-clause-mintings : goal.mint-event-requires-clause-mintings
mint-event-requires-clause-mintings c = can-mint c.args.self.now c.requires.stands

pub mint-event-requires-clause-spare : goal.mint-event-requires-clause-spare
mint-event-requires-clause-spare c = has-spare c.args.self.now c.args.core.0 Ask.Claim c.requires.stands c.requires.may (omega arith)

pub mint-event-requires-clause-index : goal.mint-event-requires-clause-index
mint-event-requires-clause-index c =
    let p = c.args.self.now in
    let at = object-at p c.args.core.0 c.from.result c.receiver-object.result c.requires.stands c.requires.may c.from.ensures
    (c.receiver-object.ensures ∙ ap (λ os. receiver_in (opening_at os c.args.core.0)) c.as_slice.ensures.value) in
    let f = first-at p c.args.core.0 c.from.result c.in-Some.index c.requires.stands c.requires.may at c.in-Some.ensures.first in
    subst (λ ps. c.in-Some.index < event_total ps) (sym c.requires.stands.pool_shape) f.below

pub mint-event-requires-clause-from : goal.mint-event-requires-clause-from
mint-event-requires-clause-from c =
    let p = c.args.self.now in
    let at = object-at p c.args.core.0 c.from.result c.receiver-object.result c.requires.stands c.requires.may c.from.ensures
    (c.receiver-object.ensures ∙ ap (λ os. receiver_in (opening_at os c.args.core.0)) c.as_slice.ensures.value) in
    let f = first-at p c.args.core.0 c.from.result c.in-Some.index c.requires.stands c.requires.may at c.in-Some.ensures.first in
    can-claim p (claiming p c.args.core.0 c.requires.stands c.requires.may).object c.in-Some.index c.requires.stands f

pub push-requires-clause-room : goal.push-requires-clause-room
push-requires-clause-room c =
    let p = c.args.self.now in
    (asked-room p c.args.core.0 Ask.Claim _ c.requires.stands (claim-asked p c.args.core.0 (claimed p.declarations p.history.past c.args.core.0) c.requires.may refl)).length

pub push-requires-clause-paid : goal.push-requires-clause-paid
push-requires-clause-paid c =
    let p = c.args.self.now in
    (asked-room p c.args.core.0 Ask.Claim _ c.requires.stands (claim-asked p c.args.core.0 (claimed p.declarations p.history.past c.args.core.0) c.requires.may refl)).paid

pub push-requires-2-clause-room : goal.push-requires-2-clause-room
push-requires-2-clause-room c =
    let p = c.args.self.now in
    (asked-room p c.args.core.0 Ask.Claim _ c.requires.stands (claim-asked p c.args.core.0 (claimed p.declarations p.history.past c.args.core.0) c.requires.may refl)).length

pub push-requires-2-clause-paid : goal.push-requires-2-clause-paid
push-requires-2-clause-paid c =
    let p = c.args.self.now in
    (asked-room p c.args.core.0 Ask.Claim _ c.requires.stands (claim-asked p c.args.core.0 (claimed p.declarations p.history.past c.args.core.0) c.requires.may refl)).paid

-- nothing is kept

pub returns-in_default-clause-stands : goal.returns-in_default-clause-stands
returns-in_default-clause-stands c =
    let p = c.args.self.now in
    let n = c.args.core.0 in
    let s = c.requires.stands in
    let q : Parts = record p { kept = c.take.new.self } in
    let r = claiming p n s c.requires.may in
    let at = object-at p n c.from.result c.receiver-object.result s c.requires.may c.from.ensures (c.receiver-object.ensures ∙ ap (λ os. receiver_in (opening_at os n)) c.as_slice.ensures.value) in
    let empty = subst (λ (x : ℕ). list_at p.kept x ≡ []) at c.in_default.ensures.first in
    let lists : c.take.new.self.lists ≡ slice_set p.kept.lists r.object (drop 1 (list_at p.kept r.object)) =
    c.in_default.ensures.lists ∙ ap (λ (x : ℕ). slice_set p.kept.lists x (drop 1 (list_at p.kept x))) at in
    subst (λ (h : HistoryState). Stands (record p { history = h; kept = c.take.new.self })) (sym c.push.ensures)
    (settled p q n Ask.Claim (claim_of None) s (claim-asked p n None c.requires.may (claims-nothing p n r s empty)) refl (record { queues = λ c t. refl; atomics = refl; groups = refl; orders = refl }) (claim-cause p.declarations p.history.past n None)
    (settled-pools p 0 s) refl (omega arith) (kept-none p c.take.new.self n r s empty lists c.in_default.ensures.room))

pub returns-in_default-clause-adds : goal.returns-in_default-clause-adds
returns-in_default-clause-adds c =
    let p = c.args.self.now in
    let n = c.args.core.0 in
    let s = c.requires.stands in
    let r = claiming p n s c.requires.may in
    let at = object-at p n c.from.result c.receiver-object.result s c.requires.may c.from.ensures (c.receiver-object.ensures ∙ ap (λ os. receiver_in (opening_at os n)) c.as_slice.ensures.value) in
    let empty = subst (λ (x : ℕ). list_at p.kept x ≡ []) at c.in_default.ensures.first in
    let e = claim-asked p n None c.requires.may (claims-nothing p n r s empty) in
    adds-none p _ n Ask.Claim (claim_of None) _ (ap (λ (h : HistoryState). h.past) c.push.ensures) (claim-cause p.declarations p.history.past n None) e.gives refl refl refl

-- something is kept

pub returns-clause-stands : goal.returns-clause-stands
returns-clause-stands c =
    let p = c.args.self.now in
    let n = c.args.core.0 in
    let s = c.requires.stands in
    let q : Parts = record p { pools = c.mint-event.new.self; kept = c.take.new.self } in
    let r = claiming p n s c.requires.may in
    let at = object-at p n c.from.result c.receiver-object.result s c.requires.may c.from.ensures (c.receiver-object.ensures ∙ ap (λ os. receiver_in (opening_at os n)) c.as_slice.ensures.value) in
    let f = first-at p n c.from.result c.in-Some.index s c.requires.may at c.in-Some.ensures.first in
    let first = subst (λ (x : ℕ). list_at p.kept x ≡ c.in-Some.index ∷ drop 1 (list_at p.kept x)) at c.in-Some.ensures.first in
    let gives = event-at p n c.in-Some.index c.mint-event.result s c.requires.may f c.mint-event.ensures.answer in
    let spare = ap (λ (v : PoolState). v.spare) c.mint-event.ensures.value in
    let least = has-spare p n Ask.Claim s c.requires.may (omega arith) in
    let lists : c.take.new.self.lists ≡ slice_set p.kept.lists r.object (drop 1 (list_at p.kept r.object)) =
    c.in-Some.ensures.lists ∙ ap (λ (x : ℕ). slice_set p.kept.lists x (drop 1 (list_at p.kept x))) at in
    subst (λ (h : HistoryState). Stands (record p { history = h; pools = c.mint-event.new.self; kept = c.take.new.self }))
    (sym (c.push-2.ensures ∙ ap (λ (e : Event). pushed p n (claim_of (Some e))) c.copy.ensures))
    (settled p q n Ask.Claim (claim_of (Some c.mint-event.result)) s (claim-asked p n (Some c.mint-event.result) c.requires.may gives) refl (record { queues = λ c t. refl; atomics = refl; groups = refl; orders = refl })
    (claim-cause p.declarations p.history.past n (Some c.mint-event.result)) (c.mint-event.ensures.stands (steps_of p) (settled-pools p 0 s))
    (ap (λ (v : PoolState). v.pools) c.mint-event.ensures.value) (omega (arith, spare, least))
    (kept-less p c.take.new.self n c.in-Some.index (drop 1 (list_at p.kept r.object)) c.mint-event.result r s first lists c.in-Some.ensures.room))

pub returns-clause-adds : goal.returns-clause-adds
returns-clause-adds c =
    let p = c.args.self.now in
    let n = c.args.core.0 in
    let s = c.requires.stands in
    let at = object-at p n c.from.result c.receiver-object.result s c.requires.may c.from.ensures (c.receiver-object.ensures ∙ ap (λ os. receiver_in (opening_at os n)) c.as_slice.ensures.value) in
    let f = first-at p n c.from.result c.in-Some.index s c.requires.may at c.in-Some.ensures.first in
    let gives = event-at p n c.in-Some.index c.mint-event.result s c.requires.may f c.mint-event.ensures.answer in
    let e = claim-asked p n (Some c.mint-event.result) c.requires.may gives in
    adds-none p _ n Ask.Claim (claim_of (Some c.mint-event.result)) _
    (ap (λ (h : HistoryState). h.past) (c.push-2.ensures ∙ ap (λ (e : Event). pushed p n (claim_of (Some e))) c.copy.ensures))
    (claim-cause p.declarations p.history.past n (Some c.mint-event.result)) e.gives refl refl refl
