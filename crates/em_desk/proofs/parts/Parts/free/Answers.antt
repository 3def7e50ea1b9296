use Rattle.std.proofs.Common.{◌∷◌, refl, ap, sym, subst, arith, None, Some}
use Rattle.em_log.specs.declared.ask.Ask.{Ask}
use Rattle.em_log.specs.declared.entry.What.{What}
use Rattle.em_log.specs.History.{entry_by}
use Rattle.em_pool.specs.declared.place.Spend.{Spend}
use Rattle.em_pool.specs.State.{PoolState}
use Rattle.em_desk.specs.declared.parts.Parts.{Parts}
use Rattle.em_desk.specs.Histories.{HistoryState}
use Rattle.em_desk.specs.Standing.{Stands}
use Rattle.em_desk.proofs.Asked.{rule-is, free-asked, free-cause, settled, adds-none, kept-same, spent-at}
use Rattle.em_desk.proofs.Begun.{asked-room}
use Rattle.em_desk.proofs.parts.Parts.free.Goals as goal

pub refuse-requires-clause-refused : goal.refuse-requires-clause-refused
refuse-requires-clause-refused c =
    (Ask.Free c.args.word, c.requires.may, omega arith, rule-is c.args.self.now c.args.core.0 c.args.word (Some c.in-Err.fault) c.requires.stands c.in-Err.ensures.answer, refl)

pub returns-in-Err-clause-adds : goal.returns-in-Err-clause-adds
returns-in-Err-clause-adds c =
    c.refuse.ensures.adds (Ask.Free c.args.word) (rule-is c.args.self.now c.args.core.0 c.args.word (Some c.in-Err.fault) c.requires.stands c.in-Err.ensures.answer) refl

pub push-requires-clause-room : goal.push-requires-clause-room
push-requires-clause-room c =
    (asked-room c.args.self.now c.args.core.0 (Ask.Free c.args.word) _ c.requires.stands
    (free-asked c.args.self.now c.args.core.0 c.args.word c.requires.may (rule-is c.args.self.now c.args.core.0 c.args.word None c.requires.stands c.in_default.ensures.answer))).length

pub push-requires-clause-paid : goal.push-requires-clause-paid
push-requires-clause-paid c =
    (asked-room c.args.self.now c.args.core.0 (Ask.Free c.args.word) _ c.requires.stands
    (free-asked c.args.self.now c.args.core.0 c.args.word c.requires.may (rule-is c.args.self.now c.args.core.0 c.args.word None c.requires.stands c.in_default.ensures.answer))).paid

pub returns-clause-stands : goal.returns-clause-stands
returns-clause-stands c =
    let p = c.args.self.now in
    let w : What = What.Free (record { 0 = c.args.word }) in
    let q : Parts = record p { pools = c.spend.new.self } in
    let spare = ap (λ (v : PoolState). v.spare) c.spend.ensures.value in
    subst (λ (h : HistoryState). Stands (record p { history = h; pools = c.spend.new.self })) (sym c.push.ensures)
    (settled p q c.args.core.0 (Ask.Free c.args.word) w c.requires.stands
    (free-asked p c.args.core.0 c.args.word c.requires.may (rule-is p c.args.core.0 c.args.word None c.requires.stands c.in_default.ensures.answer)) refl (record { queues = λ c t. refl; atomics = refl; groups = refl; orders = refl })
    (free-cause p.declarations p.history.past c.args.core.0 (record { 0 = c.args.word }))
    (spent-at p q c.args.core.0 c.args.word c.place-place.result Spend.Freed c.requires.stands c.spend.ensures.stands c.place-place.ensures)
    (ap (λ (v : PoolState). v.pools) c.spend.ensures.value) (omega (arith, spare))
    (kept-same p.declarations p.history.past (entry_by c.args.core.0 w ∷ p.history.past) p.kept (λ x. refl) c.requires.stands.kept))

pub returns-clause-adds : goal.returns-clause-adds
returns-clause-adds c =
    let p = c.args.self.now in
    let w : What = What.Free (record { 0 = c.args.word }) in
    let e = free-asked p c.args.core.0 c.args.word c.requires.may (rule-is p c.args.core.0 c.args.word None c.requires.stands c.in_default.ensures.answer) in
    adds-none p _ c.args.core.0 (Ask.Free c.args.word) w _ (ap (λ (h : HistoryState). h.past) c.push.ensures)
    (free-cause p.declarations p.history.past c.args.core.0 (record { 0 = c.args.word })) e.gives refl refl refl
