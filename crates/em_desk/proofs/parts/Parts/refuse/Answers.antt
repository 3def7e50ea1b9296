use Rattle.std.proofs.Common.{◌∙◌, ◌∷◌, refl, ap, sym, subst, arith}
use Rattle.em_log.specs.declared.entry.What.{What}
use Rattle.em_log.specs.History.{entry_by}
use Rattle.em_desk.specs.Histories.{HistoryState}
use Rattle.em_desk.specs.Openings.{opening_at, object_in}
use Rattle.em_desk.specs.Standing.{Stands}
use Rattle.em_desk.proofs.Asked.{refused-asked, scope-is, fault-cause, settled, adds-none, kept-same, fault-lead}
use Rattle.em_desk.proofs.Begun.{IsAsked, asked-room, settled-pools}
use Rattle.em_desk.proofs.parts.Parts.refuse.Goals.{After-push-arg-1, After-push}
use Rattle.em_desk.proofs.parts.Parts.refuse.Goals as goal

asked-first : (c : After-push-arg-1) → IsAsked c.args.self.now c.args.core.0 c.requires.refused.0 (What.Fault c.args.call c.args.fault c.object_in-scope.result)
asked-first c =
    refused-asked c.args.self.now c.args.core.0 c.requires.refused.0 c.args.call c.args.fault c.object_in-scope.result c.requires.refused.1 c.requires.refused.2 c.requires.refused.3 c.requires.refused.4
    (c.object_in-scope.ensures ∙ (ap (λ os. object_in (opening_at os c.args.core.0)) c.as_slice.ensures.value ∙ scope-is c.args.self.now c.args.core.0 c.requires.refused.0 c.requires.stands c.requires.refused.1))

pub push-requires-clause-room : goal.push-requires-clause-room
push-requires-clause-room c = (asked-room c.args.self.now c.args.core.0 c.requires.refused.0 _ c.requires.stands (asked-first c)).length

pub push-requires-clause-paid : goal.push-requires-clause-paid
push-requires-clause-paid c = (asked-room c.args.self.now c.args.core.0 c.requires.refused.0 _ c.requires.stands (asked-first c)).paid

asked : (c : After-push) → IsAsked c.args.self.now c.args.core.0 c.requires.refused.0 (What.Fault c.args.call c.args.fault c.object_in-scope.result)
asked c =
    refused-asked c.args.self.now c.args.core.0 c.requires.refused.0 c.args.call c.args.fault c.object_in-scope.result c.requires.refused.1 c.requires.refused.2 c.requires.refused.3 c.requires.refused.4
    (c.object_in-scope.ensures ∙ (ap (λ os. object_in (opening_at os c.args.core.0)) c.as_slice.ensures.value ∙ scope-is c.args.self.now c.args.core.0 c.requires.refused.0 c.requires.stands c.requires.refused.1))

pub returns-clause-stands : goal.returns-clause-stands
returns-clause-stands c =
    let p = c.args.self.now in
    let w : What = What.Fault c.args.call c.args.fault c.object_in-scope.result in
    subst (λ (h : HistoryState). Stands (record p { history = h })) (sym c.push.ensures)
    (settled p p c.args.core.0 c.requires.refused.0 w c.requires.stands (asked c) refl (record { queues = λ c t. refl; atomics = refl; groups = refl; orders = refl }) (fault-cause p.declarations p.history.past c.args.core.0 c.args.call c.args.fault c.object_in-scope.result)
    (settled-pools p 0 c.requires.stands) refl (omega arith)
    (kept-same p.declarations p.history.past (entry_by c.args.core.0 w ∷ p.history.past) p.kept (λ x. refl) c.requires.stands.kept))

pub returns-clause-adds : goal.returns-clause-adds
returns-clause-adds c = λ a refused call.
    let p = c.args.self.now in
    let w : What = What.Fault c.args.call c.args.fault c.object_in-scope.result in
    let at = scope-is p c.args.core.0 c.requires.refused.0 c.requires.stands c.requires.refused.1 in
    let is = c.object_in-scope.ensures ∙ (ap (λ os. object_in (opening_at os c.args.core.0)) c.as_slice.ensures.value ∙ at) in
    adds-none p _ c.args.core.0 a w _ (ap (λ (h : HistoryState). h.past) c.push.ensures)
    (fault-cause p.declarations p.history.past c.args.core.0 c.args.call c.args.fault c.object_in-scope.result)
    ((λ i. What.Fault (sym call i) c.args.fault (is i)) ∙ fault-lead p.declarations p.history.past c.args.core.0 a c.args.fault refused) refl refl refl
