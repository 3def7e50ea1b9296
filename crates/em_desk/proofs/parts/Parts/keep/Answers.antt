use Rattle.std.proofs.Common.{◌≡◌, ◌∙◌, ◌<◌, [], ◌∷◌, ◌++◌, ℕ, length, refl, ap, sym, subst, arith, None, Some, slice_set}
use Rattle.em_log.specs.declared.ask.Ask.{Ask}
use Rattle.em_log.specs.declared.ids.EoId.{EoId}
use Rattle.em_log.specs.History.{index_of}
use Rattle.em_pool.specs.declared.place.Spend.{Spend}
use Rattle.em_pool.specs.State.{PoolState}
use Rattle.em_desk.specs.declared.parts.Parts.{Parts}
use Rattle.em_desk.specs.Histories.{HistoryState}
use Rattle.em_desk.specs.Lines.{list_at}
use Rattle.em_desk.specs.Openings.{opening_at, receiver_in}
use Rattle.em_desk.specs.Standing.{Stands}
use Rattle.em_desk.proofs.Asked.{rule-is, settled, adds-none, spent-at, asked-outside}
use Rattle.em_desk.proofs.Sends.{is-ours}
use Rattle.em_desk.proofs.KeptEvents.{receiving, keep_of, keep-cause, keep-asked, keep-room, kept-more, kept-spent}
use Rattle.em_desk.proofs.Begun.{asked-room}
use Rattle.em_desk.proofs.parts.Parts.keep.Goals as goal

pub refuse-requires-clause-refused : goal.refuse-requires-clause-refused
refuse-requires-clause-refused c =
    (Ask.Keep c.args.word, c.requires.may, omega arith, rule-is c.args.self.now c.args.core.0 c.args.word (Some c.in-Err.fault) c.requires.stands c.in-Err.ensures.answer, refl)

pub returns-in-Err-clause-adds : goal.returns-in-Err-clause-adds
returns-in-Err-clause-adds c =
    c.refuse.ensures.adds (Ask.Keep c.args.word) (rule-is c.args.self.now c.args.core.0 c.args.word (Some c.in-Err.fault) c.requires.stands c.in-Err.ensures.answer) refl

pub add-requires-clause-list : goal.add-requires-clause-list
add-requires-clause-list c =
    let p = c.args.self.now in
    let r = receiving p c.args.core.0 (Ask.Keep c.args.word) c.requires.stands c.requires.may (asked-outside p c.args.core.0 (Ask.Keep c.args.word) c.requires.may refl) in
    let at : c.receiver-object.result.0 ≡ r.object = ap (λ (x : EoId). x.0) (c.receiver-object.ensures ∙ (ap (λ os. receiver_in (opening_at os c.args.core.0)) c.as_slice.ensures.value ∙ r.opening)) in
    let count = c.requires.stands.kept.count in
    let declared = r.declared in
    let from = c.from.ensures in
    omega (arith, at, count, declared, from)

pub add-requires-clause-room : goal.add-requires-clause-room
add-requires-clause-room c =
    let p = c.args.self.now in
    let r = receiving p c.args.core.0 (Ask.Keep c.args.word) c.requires.stands c.requires.may (asked-outside p c.args.core.0 (Ask.Keep c.args.word) c.requires.may refl) in
    let at : c.receiver-object.result.0 ≡ r.object = ap (λ (x : EoId). x.0) (c.receiver-object.ensures ∙ (ap (λ os. receiver_in (opening_at os c.args.core.0)) c.as_slice.ensures.value ∙ r.opening)) in
    let ours = is-ours p c.args.core.0 c.args.word c.requires.stands (rule-is p c.args.core.0 c.args.word None c.requires.stands c.in_default.ensures.answer) in
    subst (λ (x : ℕ). length (list_at p.kept x) < p.kept.room) (sym (c.from.ensures ∙ at))
    (keep-room p c.args.word r.object c.requires.stands ours c.in_default.ensures.within r.declared)

pub push-requires-clause-room : goal.push-requires-clause-room
push-requires-clause-room c =
    (asked-room c.args.self.now c.args.core.0 (Ask.Keep c.args.word) _ c.requires.stands
    (keep-asked c.args.self.now c.args.core.0 c.args.word c.requires.may (rule-is c.args.self.now c.args.core.0 c.args.word None c.requires.stands c.in_default.ensures.answer))).length

pub push-requires-clause-paid : goal.push-requires-clause-paid
push-requires-clause-paid c =
    (asked-room c.args.self.now c.args.core.0 (Ask.Keep c.args.word) _ c.requires.stands
    (keep-asked c.args.self.now c.args.core.0 c.args.word c.requires.may (rule-is c.args.self.now c.args.core.0 c.args.word None c.requires.stands c.in_default.ensures.answer))).paid

pub returns-clause-stands : goal.returns-clause-stands
returns-clause-stands c =
    let p = c.args.self.now in
    let n = c.args.core.0 in
    let w = c.args.word in
    let q : Parts = record p { pools = c.spend.new.self; kept = c.add.new.self } in
    let ok = rule-is p n w None c.requires.stands c.in_default.ensures.answer in
    let ours = is-ours p n w c.requires.stands ok in
    let r = receiving p n (Ask.Keep w) c.requires.stands c.requires.may (asked-outside p n (Ask.Keep w) c.requires.may refl) in
    let object : c.receiver-object.result ≡ record { 0 = r.object } = c.receiver-object.ensures ∙ (ap (λ os. receiver_in (opening_at os n)) c.as_slice.ensures.value ∙ r.opening) in
    let at : c.from.result ≡ r.object = c.from.ensures ∙ ap (λ (x : EoId). x.0) object in
    let spare = ap (λ (v : PoolState). v.spare) c.spend.ensures.value in
    let lists : c.add.new.self.lists ≡ slice_set p.kept.lists r.object (list_at p.kept r.object ++ index_of w ∷ []) =
    c.add.ensures.lists ∙ ((λ i. slice_set p.kept.lists (at i) (list_at p.kept (at i) ++ c.index_of.result ∷ []))
    ∙ ap (λ (j : ℕ). slice_set p.kept.lists r.object (list_at p.kept r.object ++ j ∷ [])) c.index_of.ensures) in
    subst (λ (h : HistoryState). Stands (record p { history = h; pools = c.spend.new.self; kept = c.add.new.self })) (sym c.push.ensures)
    (settled p q n (Ask.Keep w) (keep_of w) c.requires.stands (keep-asked p n w c.requires.may ok) refl (record { queues = λ c t. refl; atomics = refl; groups = refl; orders = refl }) (keep-cause p.declarations p.history.past n w)
    (kept-spent p q n w r c.receiver-object.result object
    (spent-at p q n w c.place-place.result (Spend.Kept c.receiver-object.result) c.requires.stands c.spend.ensures.stands c.place-place.ensures))
    (ap (λ (v : PoolState). v.pools) c.spend.ensures.value) (omega (arith, spare))
    (kept-more p c.add.new.self n w r c.requires.stands ours c.in_default.ensures.within lists c.add.ensures.room))

pub returns-clause-adds : goal.returns-clause-adds
returns-clause-adds c =
    let p = c.args.self.now in
    let e = keep-asked p c.args.core.0 c.args.word c.requires.may (rule-is p c.args.core.0 c.args.word None c.requires.stands c.in_default.ensures.answer) in
    adds-none p _ c.args.core.0 (Ask.Keep c.args.word) (keep_of c.args.word) _ (ap (λ (h : HistoryState). h.past) c.push.ensures)
    (keep-cause p.declarations p.history.past c.args.core.0 c.args.word) e.gives refl refl refl
