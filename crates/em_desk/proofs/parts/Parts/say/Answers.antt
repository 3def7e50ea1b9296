use Rattle.std.proofs.Common.{◌∷◌, refl, ap, sym, subst, arith}
use Rattle.em_log.specs.declared.ask.Ask.{Ask}
use Rattle.em_log.specs.declared.entry.What.{What}
use Rattle.em_log.specs.History.{entry_by}
use Rattle.em_desk.specs.Histories.{HistoryState}
use Rattle.em_desk.specs.Standing.{Stands}
use Rattle.em_desk.proofs.Asked.{say-asked, silent-cause, settled, adds-none, kept-same}
use Rattle.em_desk.proofs.Begun.{asked-room, settled-pools}
use Rattle.em_desk.proofs.parts.Parts.say.Goals as goal

pub push-requires-clause-room : goal.push-requires-clause-room
push-requires-clause-room c =
    (asked-room c.args.self.now c.args.core.0 (Ask.Say c.args.value) _ c.requires.stands (say-asked c.args.self.now c.args.core.0 c.args.value c.requires.may)).length

pub push-requires-clause-paid : goal.push-requires-clause-paid
push-requires-clause-paid c =
    (asked-room c.args.self.now c.args.core.0 (Ask.Say c.args.value) _ c.requires.stands (say-asked c.args.self.now c.args.core.0 c.args.value c.requires.may)).paid

pub returns-clause-stands : goal.returns-clause-stands
returns-clause-stands c =
    let p = c.args.self.now in
    let w : What = What.Say c.args.value in
    subst (λ (h : HistoryState). Stands (record p { history = h })) (sym c.push.ensures)
    (settled p p c.args.core.0 (Ask.Say c.args.value) w c.requires.stands (say-asked p c.args.core.0 c.args.value c.requires.may) refl (record { queues = λ c t. refl; atomics = refl; groups = refl; orders = refl })
    (silent-cause p.declarations p.history.past c.args.core.0 c.args.value) (settled-pools p 0 c.requires.stands) refl (omega arith)
    (kept-same p.declarations p.history.past (entry_by c.args.core.0 w ∷ p.history.past) p.kept (λ x. refl) c.requires.stands.kept))

pub returns-clause-adds : goal.returns-clause-adds
returns-clause-adds c =
    let p = c.args.self.now in
    adds-none p _ c.args.core.0 (Ask.Say c.args.value) (What.Say c.args.value) _ (ap (λ (h : HistoryState). h.past) c.push.ensures)
    (silent-cause p.declarations p.history.past c.args.core.0 c.args.value) refl refl refl refl
