use Rattle.std.proofs.Common.{refl, sym, subst}
use Rattle.std.specs.Vec.{with_item}
use Rattle.em_desk.specs.declared.opening.Opening.{Opening}
use Rattle.em_desk.specs.declared.parts.Parts.{Parts}
use Rattle.em_desk.specs.Histories.{HistoryState}
use Rattle.em_desk.specs.Standing.{Stands}
use Rattle.em_desk.proofs.Boots.{boot-room, boot-stands}
use Rattle.em_desk.proofs.parts.Parts.boot.Goals as goal

pub push-requires-clause-room : goal.push-requires-clause-room
push-requires-clause-room c = (boot-room c.args.self.now c.requires.stands c.requires.unbegun c.requires.history).length

pub push-requires-clause-paid : goal.push-requires-clause-paid
push-requires-clause-paid c = (boot-room c.args.self.now c.requires.stands c.requires.unbegun c.requires.history).paid

pub returns-clause-stands : goal.returns-clause-stands
returns-clause-stands c =
    let p = c.args.self.now in
    let q : Parts = record p { contexts = with_item p.contexts 0 Opening.Boot } in
    subst (λ (h : HistoryState). Stands (record p { history = h; contexts = with_item p.contexts 0 Opening.Boot })) (sym c.push.ensures)
    (boot-stands p q c.requires.stands c.requires.unbegun c.requires.history c.requires.mintings refl)
