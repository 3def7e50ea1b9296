use Rattle.std.proofs.Common.{◌≡◌, ◌∙◌, ◌∷◌, ◌<◌, ℕ, List, Option, MatchOption, refl, ap, sym, subst, arith, None, Some}
use Rattle.em_log.specs.declared.ask.Ask.{Ask}
use Rattle.em_log.specs.declared.declarations.Declarations.{Declarations}
use Rattle.em_log.specs.declared.entry.Event.{Event}
use Rattle.em_log.specs.Declarations.{event_total}
use Rattle.em_log.specs.History.{entry_by}
use Rattle.em_log.specs.Leads.{dequeued}
use Rattle.em_log.specs.Places.{waiting}
use Rattle.em_pool.specs.State.{PoolState}
use Rattle.em_queues.specs.Steps.{QueueStep}
use Rattle.em_queues.specs.State.{QueueState}
use Rattle.em_queues.specs.Stands as queues
use Rattle.em_parts.specs.QueueSteps.{queue_steps}
use Rattle.em_desk.specs.declared.parts.Parts.{Parts}
use Rattle.em_desk.specs.Histories.{HistoryState}
use Rattle.em_desk.specs.Standing.{Stands}
use Rattle.em_desk.proofs.Asked.{steps_of, settled-with, adds-none, kept-same}
use Rattle.em_desk.proofs.Begun.{pushed, IsAsked, asked-room, settled-pools, settled-queues}
use Rattle.em_desk.proofs.Dequeues.{dequeue_of, dequeue-cause, dequeue-asked, gives-nothing, IsGiven, is-given, can-give, gives-first, with-queues}
use Rattle.em_desk.proofs.Minting.{can-mint, has-spare}
use Rattle.em_desk.proofs.parts.Parts.dequeue.Goals.{After-dequeue, After-mint-arg-1, After-push-arg-1, After-push-arg-2-1, After-push, After-push-2}
use Rattle.em_desk.proofs.parts.Parts.dequeue.Goals as goal

-- how the queues stand by what they answer
stands-by : (k : Declarations) (v : QueueState) (none : List QueueStep) (some : List QueueStep) (o r : Option ℕ) → o ≡ r
    → MatchOption o (queues.Stands k v none) (λ i. queues.Stands k v some) → MatchOption r (queues.Stands k v none) (λ i. queues.Stands k v some)
stands-by k v none some o r is stands = subst (λ (o : Option ℕ). MatchOption o (queues.Stands k v none) (λ i. queues.Stands k v some)) is stands

-- a queue of another kind

pub refuse-requires-clause-stands : goal.refuse-requires-clause-stands
refuse-requires-clause-stands c =
    let p = c.args.self.now in
    with-queues p c.dequeue.new.self c.requires.stands
    (c.in-Err.ensures.stands p.declarations (queue_steps p.declarations p.history.past) c.args.core.0 (settled-queues p 0 c.requires.stands)) c.in-Err.ensures.same_shape

pub refuse-requires-clause-refused : goal.refuse-requires-clause-refused
refuse-requires-clause-refused c =
    let p = c.args.self.now in (
      Ask.Dequeue c.args.queue,
      c.requires.may,
      omega arith,
      c.in-Err.ensures.answer p.declarations (queue_steps p.declarations p.history.past) c.args.core.0 (settled-queues p 0 c.requires.stands),
      refl,
    )

pub returns-in-Err-clause-adds : goal.returns-in-Err-clause-adds
returns-in-Err-clause-adds c =
    let p = c.args.self.now in
    let a = c.refuse.ensures.adds (Ask.Dequeue c.args.queue)
    (c.in-Err.ensures.answer p.declarations (queue_steps p.declarations p.history.past) c.args.core.0 (settled-queues p 0 c.requires.stands)) refl in
    record { past = a.past; told = a.told; declarations = a.declarations; limits = a.limits }

-- nothing waits

pub push-requires-clause-room : goal.push-requires-clause-room
push-requires-clause-room c =
    let p = c.args.self.now in
    let is = c.in-Ok-None.ensures.answer p.declarations (queue_steps p.declarations p.history.past) c.args.core.0 (settled-queues p 0 c.requires.stands) in
    (asked-room p c.args.core.0 (Ask.Dequeue c.args.queue) _ c.requires.stands
    (dequeue-asked p c.args.core.0 c.args.queue None c.requires.may is.0 (gives-nothing p c.args.core.0 c.args.queue _ c.requires.stands is.0 c.in-Ok-None.field-0-is is.1))).length

pub push-requires-clause-paid : goal.push-requires-clause-paid
push-requires-clause-paid c =
    let p = c.args.self.now in
    let is = c.in-Ok-None.ensures.answer p.declarations (queue_steps p.declarations p.history.past) c.args.core.0 (settled-queues p 0 c.requires.stands) in
    (asked-room p c.args.core.0 (Ask.Dequeue c.args.queue) _ c.requires.stands
    (dequeue-asked p c.args.core.0 c.args.queue None c.requires.may is.0 (gives-nothing p c.args.core.0 c.args.queue _ c.requires.stands is.0 c.in-Ok-None.field-0-is is.1))).paid

nothing-asked : (c : After-push) → IsAsked c.args.self.now c.args.core.0 (Ask.Dequeue c.args.queue) (dequeue_of c.args.queue None)
nothing-asked c =
    let p = c.args.self.now in
    let is = c.in-Ok-None.ensures.answer p.declarations (queue_steps p.declarations p.history.past) c.args.core.0 (settled-queues p 0 c.requires.stands) in
    dequeue-asked p c.args.core.0 c.args.queue None c.requires.may is.0 (gives-nothing p c.args.core.0 c.args.queue _ c.requires.stands is.0 c.in-Ok-None.field-0-is is.1)

pub returns-in-Ok-None-clause-stands : goal.returns-in-Ok-None-clause-stands
returns-in-Ok-None-clause-stands c =
    let p = c.args.self.now in
    let n = c.args.core.0 in
    let s = c.requires.stands in
    let q : Parts = record p { queues = c.dequeue.new.self } in
    subst (λ (h : HistoryState). Stands (record p { history = h; queues = c.dequeue.new.self })) (sym c.push.ensures)
    (settled-with p q n (Ask.Dequeue c.args.queue) (dequeue_of c.args.queue None) s (nothing-asked c) refl (dequeue-cause p.declarations p.history.past n c.args.queue None)
    (settled-pools p 0 s) refl (omega arith) (stands-by p.declarations c.dequeue.new.self _ _ _ None c.in-Ok-None.field-0-is (c.in-Ok-None.ensures.stands p.declarations (queue_steps p.declarations p.history.past) n (settled-queues p 0 s))) c.in-Ok-None.ensures.same_shape s.atomics refl refl
    (kept-same p.declarations p.history.past (entry_by n (dequeue_of c.args.queue None) ∷ p.history.past) p.kept (λ x. refl) s.kept))

pub returns-in-Ok-None-clause-adds : goal.returns-in-Ok-None-clause-adds
returns-in-Ok-None-clause-adds c =
    let p = c.args.self.now in
    adds-none p _ c.args.core.0 (Ask.Dequeue c.args.queue) (dequeue_of c.args.queue None) _ (ap (λ (h : HistoryState). h.past) c.push.ensures)
    (dequeue-cause p.declarations p.history.past c.args.core.0 c.args.queue None) (nothing-asked c).gives refl refl refl

-- the first event is given

given-at : (c : After-mint-arg-1) → IsGiven c.args.self.now c.args.core.0 c.args.queue c.in-Ok-Some.index
given-at c =
    let p = c.args.self.now in
    let is = c.in-Ok-Some.ensures.answer p.declarations (queue_steps p.declarations p.history.past) c.args.core.0 (settled-queues p 0 c.requires.stands) in
    is-given p c.args.core.0 c.args.queue c.in-Ok-Some.index _ c.requires.stands is.0 c.in-Ok-Some.field-0-is is.1

pub mint-event-requires-clause-spare : goal.mint-event-requires-clause-spare
mint-event-requires-clause-spare c = has-spare c.args.self.now c.args.core.0 (Ask.Dequeue c.args.queue) c.requires.stands c.requires.may (omega arith)

pub mint-event-requires-clause-mintings : goal.mint-event-requires-clause-mintings
mint-event-requires-clause-mintings c = can-mint c.args.self.now c.requires.stands

pub mint-event-requires-clause-index : goal.mint-event-requires-clause-index
mint-event-requires-clause-index c =
    let p = c.args.self.now in
    let g = given-at c in
    subst (λ ps. c.in-Ok-Some.index < event_total ps) (sym c.requires.stands.pool_shape)
    (subst (λ (i : ℕ). i < event_total p.declarations.pools) (sym g.index) g.front.below)

pub mint-event-requires-clause-from : goal.mint-event-requires-clause-from
mint-event-requires-clause-from c = can-give c.args.self.now c.args.core.0 c.args.queue c.in-Ok-Some.index c.requires.stands (given-at c)

-- the queue accepts, and this is what it gives
event-asked : (c : After-push-2) → IsAsked c.args.self.now c.args.core.0 (Ask.Dequeue c.args.queue) (dequeue_of c.args.queue (Some c.mint-event.result))
event-asked c =
    let p = c.args.self.now in
    let n = c.args.core.0 in
    let is = c.in-Ok-Some.ensures.answer p.declarations (queue_steps p.declarations p.history.past) n (settled-queues p 0 c.requires.stands) in
    dequeue-asked p n c.args.queue (Some c.mint-event.result) c.requires.may is.0
    (gives-first p n c.args.queue c.in-Ok-Some.index c.mint-event.result c.requires.stands (is-given p n c.args.queue c.in-Ok-Some.index _ c.requires.stands is.0 c.in-Ok-Some.field-0-is is.1) c.mint-event.ensures.answer)

-- what is given pays as any other dequeue
dequeue-room : (c : After-push-arg-2-1) → IsAsked c.args.self.now c.args.core.0 (Ask.Dequeue c.args.queue) (dequeue_of c.args.queue (dequeued c.args.self.now.history.past (waiting c.args.self.now.declarations c.args.self.now.history.past c.args.queue.0 c.args.core.0)))
dequeue-room c =
    let p = c.args.self.now in
    let is = c.in-Ok-Some.ensures.answer p.declarations (queue_steps p.declarations p.history.past) c.args.core.0 (settled-queues p 0 c.requires.stands) in
    dequeue-asked p c.args.core.0 c.args.queue _ c.requires.may is.0 refl

pub push-requires-2-clause-room : goal.push-requires-2-clause-room
push-requires-2-clause-room c = (asked-room c.args.self.now c.args.core.0 (Ask.Dequeue c.args.queue) _ c.requires.stands (dequeue-room c)).length

pub push-requires-2-clause-paid : goal.push-requires-2-clause-paid
push-requires-2-clause-paid c = (asked-room c.args.self.now c.args.core.0 (Ask.Dequeue c.args.queue) _ c.requires.stands (dequeue-room c)).paid

pub returns-clause-stands : goal.returns-clause-stands
returns-clause-stands c =
    let p = c.args.self.now in
    let n = c.args.core.0 in
    let s = c.requires.stands in
    let q : Parts = record p { pools = c.mint-event.new.self; queues = c.dequeue.new.self } in
    let w = dequeue_of c.args.queue (Some c.mint-event.result) in
    let spare = ap (λ (v : PoolState). v.spare) c.mint-event.ensures.value in
    let least = has-spare p n (Ask.Dequeue c.args.queue) s c.requires.may (omega arith) in
    subst (λ (h : HistoryState). Stands (record p { history = h; pools = c.mint-event.new.self; queues = c.dequeue.new.self }))
    (sym (c.push-2.ensures ∙ ap (λ (e : Event). pushed p n (dequeue_of c.args.queue (Some e))) c.copy.ensures))
    (settled-with p q n (Ask.Dequeue c.args.queue) w s (event-asked c) refl (dequeue-cause p.declarations p.history.past n c.args.queue (Some c.mint-event.result))
    (c.mint-event.ensures.stands (steps_of p) (settled-pools p 0 s)) (ap (λ (v : PoolState). v.pools) c.mint-event.ensures.value) (omega (arith, spare, least))
    (stands-by p.declarations c.dequeue.new.self _ _ _ (Some c.in-Ok-Some.index) c.in-Ok-Some.field-0-is (c.in-Ok-Some.ensures.stands p.declarations (queue_steps p.declarations p.history.past) n (settled-queues p 0 s))) c.in-Ok-Some.ensures.same_shape s.atomics refl refl
    (kept-same p.declarations p.history.past (entry_by n w ∷ p.history.past) p.kept (λ x. refl) s.kept))

pub returns-clause-adds : goal.returns-clause-adds
returns-clause-adds c =
    let p = c.args.self.now in
    let n = c.args.core.0 in
    adds-none p _ n (Ask.Dequeue c.args.queue) (dequeue_of c.args.queue (Some c.mint-event.result)) _
    (ap (λ (h : HistoryState). h.past) (c.push-2.ensures ∙ ap (λ (e : Event). pushed p n (dequeue_of c.args.queue (Some e))) c.copy.ensures))
    (dequeue-cause p.declarations p.history.past n c.args.queue (Some c.mint-event.result)) (event-asked c).gives refl refl refl
