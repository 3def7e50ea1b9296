use Rattle.std.proofs.Common.{◌∷◌, refl, ap, sym, subst, arith}
use Rattle.em_log.specs.declared.ask.Ask.{Ask}
use Rattle.em_log.specs.History.{entry_by}
use Rattle.em_context_parts.specs.AtomicSteps.{atomic_steps}
use Rattle.em_parts.specs.QueueSteps.{queue_steps}
use Rattle.em_desk.specs.declared.parts.Parts.{Parts}
use Rattle.em_desk.specs.Histories.{HistoryState}
use Rattle.em_desk.specs.Standing.{Stands}
use Rattle.em_desk.proofs.Asked.{settled-with, adds-none, kept-same}
use Rattle.em_desk.proofs.Begun.{IsAsked, asked-room, settled-pools, settled-queues}
use Rattle.em_desk.proofs.EarlyEnds.{early_end, holds-none, none-told, early-refused, early-accepted, early-cause, early-asked, rest-is}
use Rattle.em_desk.proofs.parts.Parts.end_atomic.Goals.{After-push-arg-1, After-push}
use Rattle.em_desk.proofs.parts.Parts.end_atomic.Goals as goal

-- no atomic context is held

pub refuse-requires-clause-refused : goal.refuse-requires-clause-refused
refuse-requires-clause-refused c =
    let p = c.args.self.now in (
      Ask.EndAtomic c.args.cells,
      c.requires.may,
      omega arith,
      early-refused p c.args.core.0 c.args.cells _ c.is_none.result
          (holds-none p c.args.core.0 c.args.cells c.held.result c.requires.stands c.requires.may c.held.ensures.answer) (none-told c.held.result c.is_none.result c.is_none.ensures) c.if-is_none.true,
      refl,
    )

pub returns-then-is_none-clause-adds : goal.returns-then-is_none-clause-adds
returns-then-is_none-clause-adds c =
    let p = c.args.self.now in
    c.refuse.ensures.adds (Ask.EndAtomic c.args.cells)
    (early-refused p c.args.core.0 c.args.cells _ c.is_none.result
    (holds-none p c.args.core.0 c.args.cells c.held.result c.requires.stands c.requires.may c.held.ensures.answer) (none-told c.held.result c.is_none.result c.is_none.ensures) c.if-is_none.true) refl

-- one is given back

asked-first : (c : After-push-arg-1) → IsAsked c.args.self.now c.args.core.0 (Ask.EndAtomic c.args.cells) (early_end c.untake-rest.result c.args.cells)
asked-first c =
    let p = c.args.self.now in
    let s = c.requires.stands in
    early-asked p c.args.core.0 c.untake-rest.result c.args.cells c.requires.may
    (early-accepted p c.args.core.0 c.args.cells _ c.is_none.result
    (holds-none p c.args.core.0 c.args.cells c.held.result s c.requires.may c.held.ensures.answer) (none-told c.held.result c.is_none.result c.is_none.ensures) c.if-is_none.false)
    (rest-is p c.args.core.0 c.untake-rest.result s c.untake-rest.ensures.answer)

asked : (c : After-push) → IsAsked c.args.self.now c.args.core.0 (Ask.EndAtomic c.args.cells) (early_end c.untake-rest.result c.args.cells)
asked c =
    let p = c.args.self.now in
    let s = c.requires.stands in
    early-asked p c.args.core.0 c.untake-rest.result c.args.cells c.requires.may
    (early-accepted p c.args.core.0 c.args.cells _ c.is_none.result
    (holds-none p c.args.core.0 c.args.cells c.held.result s c.requires.may c.held.ensures.answer) (none-told c.held.result c.is_none.result c.is_none.ensures) c.if-is_none.false)
    (rest-is p c.args.core.0 c.untake-rest.result s c.untake-rest.ensures.answer)

pub push-requires-clause-room : goal.push-requires-clause-room
push-requires-clause-room c = (asked-room c.args.self.now c.args.core.0 (Ask.EndAtomic c.args.cells) _ c.requires.stands (asked-first c)).length

pub push-requires-clause-paid : goal.push-requires-clause-paid
push-requires-clause-paid c = (asked-room c.args.self.now c.args.core.0 (Ask.EndAtomic c.args.cells) _ c.requires.stands (asked-first c)).paid

pub returns-clause-stands : goal.returns-clause-stands
returns-clause-stands c =
    let p = c.args.self.now in
    let n = c.args.core.0 in
    let s = c.requires.stands in
    let w = early_end c.untake-rest.result c.args.cells in
    let q : Parts = record p { queues = c.untake-rest.new.self; atomics = c.give.new.self } in
    subst (λ (h : HistoryState). Stands (record p { history = h; queues = c.untake-rest.new.self; atomics = c.give.new.self })) (sym c.push.ensures)
    (settled-with p q n (Ask.EndAtomic c.args.cells) w s (asked c) refl (early-cause p n c.untake-rest.result c.args.cells s)
    (settled-pools p 0 s) refl (omega arith)
    (c.untake-rest.ensures.stands p.declarations (queue_steps p.declarations p.history.past) (settled-queues p 0 s)) c.untake-rest.ensures.same_shape
    (c.give.ensures p.declarations (atomic_steps p.declarations p.history.past) s.atomics) refl refl
    (kept-same p.declarations p.history.past (entry_by n w ∷ p.history.past) p.kept (λ x. refl) s.kept))

pub returns-clause-adds : goal.returns-clause-adds
returns-clause-adds c =
    let p = c.args.self.now in
    adds-none p _ c.args.core.0 (Ask.EndAtomic c.args.cells) (early_end c.untake-rest.result c.args.cells) _ (ap (λ (h : HistoryState). h.past) c.push.ensures)
    (early-cause p c.args.core.0 c.untake-rest.result c.args.cells c.requires.stands) (asked c).gives refl refl refl
