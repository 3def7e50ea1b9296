use Rattle.std.proofs.Common.{◌∙◌, [], refl, ap, sym, subst, arith}
use Rattle.em_log.specs.declared.ask.Ask.{Ask}
use Rattle.em_log.specs.declared.entry.What.{What}
use Rattle.em_log.specs.History.{entries_by, onto}
use Rattle.em_desk.specs.declared.parts.Parts.{Parts}
use Rattle.em_desk.specs.Acts.{said}
use Rattle.em_desk.specs.Histories.{HistoryState}
use Rattle.em_desk.specs.Standing.{IsReleasing}
use Rattle.em_desk.proofs.Asked.{adds-acts}
use Rattle.em_desk.proofs.Begun.{asked-room, at-rest}
use Rattle.em_desk.proofs.EarlyEnds.{none-told}
use Rattle.em_desk.proofs.EarlyOrders.{ticket-none, ordered-refused, ordered-accepted, ordered-asked, ordered-cause, ordered-stands, ends-early}
use Rattle.em_desk.proofs.Ends.{ending_acts, is-ended}
use Rattle.em_desk.proofs.parts.Parts.end_ordered.Goals.{After-release}
use Rattle.em_desk.proofs.parts.Parts.end_ordered.Goals as goal

-- no ticket is open

pub refuse-requires-clause-refused : goal.refuse-requires-clause-refused
refuse-requires-clause-refused c =
    let p = c.args.self.now in (
      Ask.EndOrdered,
      c.requires.may,
      omega arith,
      ordered-refused p c.args.core.0 _ c.is_none.result (ticket-none p c.args.core.0 c.open_ticket.result c.requires.stands c.open_ticket.ensures.answer)
          (none-told c.open_ticket.result c.is_none.result c.is_none.ensures) c.if-is_none.true,
      refl,
    )

pub returns-then-is_none-clause-adds : goal.returns-then-is_none-clause-adds
returns-then-is_none-clause-adds c =
    let p = c.args.self.now in
    c.refuse.ensures.adds Ask.EndOrdered
    (ordered-refused p c.args.core.0 _ c.is_none.result (ticket-none p c.args.core.0 c.open_ticket.result c.requires.stands c.open_ticket.ensures.answer)
    (none-told c.open_ticket.result c.is_none.result c.is_none.ensures) c.if-is_none.true) refl

-- one ends

pub push-requires-clause-room : goal.push-requires-clause-room
push-requires-clause-room c =
    let p = c.args.self.now in
    let ok = ordered-accepted p c.args.core.0 _ c.is_none.result (ticket-none p c.args.core.0 c.open_ticket.result c.requires.stands c.open_ticket.ensures.answer)
    (none-told c.open_ticket.result c.is_none.result c.is_none.ensures) c.if-is_none.false
    in
    (asked-room p c.args.core.0 Ask.EndOrdered What.EndOrdered c.requires.stands (ordered-asked p c.args.core.0 c.requires.may ok)).length

pub push-requires-clause-paid : goal.push-requires-clause-paid
push-requires-clause-paid c =
    let p = c.args.self.now in
    let ok = ordered-accepted p c.args.core.0 _ c.is_none.result (ticket-none p c.args.core.0 c.open_ticket.result c.requires.stands c.open_ticket.ensures.answer)
    (none-told c.open_ticket.result c.is_none.result c.is_none.ensures) c.if-is_none.false
    in
    (asked-room p c.args.core.0 Ask.EndOrdered What.EndOrdered c.requires.stands (ordered-asked p c.args.core.0 c.requires.may ok)).paid

pub release-requires : goal.release-requires
release-requires c =
    let p = c.args.self.now in
    let n = c.args.core.0 in
    let s = c.requires.stands in
    let q : Parts = record p { orders = c.finish-over.new.self } in
    let ok = ordered-accepted p n _ c.is_none.result (ticket-none p n c.open_ticket.result s c.open_ticket.ensures.answer)
    (none-told c.open_ticket.result c.is_none.result c.is_none.ensures) c.if-is_none.false
    in (
      ending_acts p n What.EndOrdered,
      [],
      subst (λ (h : HistoryState). IsReleasing (record q { history = h }) n (ending_acts p n What.EndOrdered) []) (sym c.push.ensures)
          (ordered-stands p q n s c.requires.may ok
          (is-ended p c.finish-over.new.self n What.EndOrdered c.finish-over.result s (ends-early p n s) c.finish-over.ensures.answer c.finish-over.ensures.stands c.finish-over.ensures.same_shape)),
    )

-- what the end has let in is to be released
let-in : (c : After-release)
    → IsReleasing (record c.args.self.now { history = c.push.new.self; orders = c.finish-over.new.self }) c.args.core.0 (ending_acts c.args.self.now c.args.core.0 What.EndOrdered) []
let-in c =
    let p = c.args.self.now in
    let n = c.args.core.0 in
    let s = c.requires.stands in
    let q : Parts = record p { orders = c.finish-over.new.self } in
    let ok = ordered-accepted p n _ c.is_none.result (ticket-none p n c.open_ticket.result s c.open_ticket.ensures.answer)
    (none-told c.open_ticket.result c.is_none.result c.is_none.ensures) c.if-is_none.false
    in
    subst (λ (h : HistoryState). IsReleasing (record q { history = h }) n (ending_acts p n What.EndOrdered) []) (sym c.push.ensures)
    (ordered-stands p q n s c.requires.may ok
    (is-ended p c.finish-over.new.self n What.EndOrdered c.finish-over.result s (ends-early p n s) c.finish-over.ensures.answer c.finish-over.ensures.stands c.finish-over.ensures.same_shape))

pub returns-clause-stands : goal.returns-clause-stands
returns-clause-stands c = at-rest c.release.new.self c.args.core.0 (c.release.ensures.stands _ [] (let-in c))

pub returns-clause-adds : goal.returns-clause-adds
returns-clause-adds c =
    let p = c.args.self.now in
    let n = c.args.core.0 in
    let acts = ending_acts p n What.EndOrdered in
    let ok = ordered-accepted p n _ c.is_none.result (ticket-none p n c.open_ticket.result c.requires.stands c.open_ticket.ensures.answer)
    (none-told c.open_ticket.result c.is_none.result c.is_none.ensures) c.if-is_none.false
    in
    adds-acts p c.release.new.self n Ask.EndOrdered What.EndOrdered acts _
    (c.release.ensures.past acts [] (let-in c) ∙ ap (λ (h : HistoryState). onto (entries_by n (said acts)) h.past) c.push.ensures)
    (ordered-cause p n c.requires.stands) (ordered-asked p n c.requires.may ok).gives refl c.release.ensures.declarations c.release.ensures.limits
