use Rattle.std.proofs.Common.{◌≡◌, ◌∙◌, ◌∷◌, List, Some, None, refl, ap, sym, subst, arith}
use Rattle.em_log.specs.declared.ask.Ask.{Ask}
use Rattle.em_log.specs.declared.entry.What.{What}
use Rattle.em_log.specs.declared.ids.Note.{Note}
use Rattle.em_log.specs.History.{entry_by, entries_by, onto}
use Rattle.em_log.specs.EventGroups.{applied_notes}
use Rattle.em_context_parts.specs.EgroupSteps.{egroup_steps}
use Rattle.em_desk.specs.declared.parts.Parts.{Parts}
use Rattle.em_desk.specs.Histories.{HistoryState}
use Rattle.em_desk.specs.Notes.{freed_acts}
use Rattle.em_desk.specs.Standing.{Standing}
use Rattle.em_desk.proofs.Asked.{adds-acts}
use Rattle.em_desk.proofs.Begun.{asked-room}
use Rattle.em_desk.proofs.Aborts.{abort_of, abort-told, abort-asked, abort-cause, abort-stands}
use Rattle.em_desk.proofs.FreedNotes.{freed-said}
use Rattle.em_desk.proofs.GroupAsks.{groups-alike}
use Rattle.em_desk.proofs.parts.Parts.abort.Goals as goal

pub refuse-requires-clause-refused : goal.refuse-requires-clause-refused
refuse-requires-clause-refused c = (
  Ask.Abort c.args.group,
  record { core = c.requires.may.core; may = c.requires.may.may; enough = c.requires.may.enough; served = c.requires.may.served },
  omega arith,
  abort-told c.args.self.now c.args.core.0 c.args.group (Some c.in-Err.fault) c.requires.stands c.in-Err.ensures.answer,
  refl,
)

pub returns-in-Err-clause-adds : goal.returns-in-Err-clause-adds
returns-in-Err-clause-adds c =
    let a = c.refuse.ensures.adds (Ask.Abort c.args.group) (abort-told c.args.self.now c.args.core.0 c.args.group (Some c.in-Err.fault) c.requires.stands c.in-Err.ensures.answer) refl in
    record { past = a.past; told = a.told; declarations = a.declarations; limits = a.limits }

pub push-requires-clause-room : goal.push-requires-clause-room
push-requires-clause-room c =
    (asked-room c.args.self.now c.args.core.0 (Ask.Abort c.args.group) _ c.requires.stands
    (abort-asked c.args.self.now c.args.core.0 c.args.group c.requires.may
    (abort-told c.args.self.now c.args.core.0 c.args.group None c.requires.stands (λ s stands. (c.in-Ok.ensures.answer s stands).1)))).length

pub push-requires-clause-paid : goal.push-requires-clause-paid
push-requires-clause-paid c =
    (asked-room c.args.self.now c.args.core.0 (Ask.Abort c.args.group) _ c.requires.stands
    (abort-asked c.args.self.now c.args.core.0 c.args.group c.requires.may
    (abort-told c.args.self.now c.args.core.0 c.args.group None c.requires.stands (λ s stands. (c.in-Ok.ensures.answer s stands).1)))).paid

pub free_notes-requires : goal.free_notes-requires
free_notes-requires c =
    let p = c.args.self.now in
    let n = c.args.core.0 in
    let s = c.requires.stands in
    let ok = abort-told p n c.args.group None s (λ s stands. (c.in-Ok.ensures.answer s stands).1) in
    let notes : applied_notes p.history.past c.args.group.0 ≡ c.as_slice.result.now =
    sym ((groups-alike p s).notes c.args.group.0) ∙ (sym (c.in-Ok.ensures.answer (egroup_steps p.history.past) s.groups.steps).0 ∙ sym c.as_slice.ensures.value) in
    let q : Parts = record p { groups = c.abort.new.self } in
    subst (λ (ns : List Note). Standing (record p { history = c.push.new.self; groups = c.abort.new.self }) n (freed_acts ns)) notes
    (subst (λ (h : HistoryState). Standing (record p { history = h; groups = c.abort.new.self }) n (freed_acts (applied_notes p.history.past c.args.group.0))) (sym c.push.ensures)
    (abort-stands p q n c.args.group s c.requires.may ok
    (record { steps = c.in-Ok.ensures.stands (egroup_steps p.history.past) s.groups.steps; count = c.in-Ok.ensures.same_shape ∙ s.groups.count })))

pub returns-in-Ok-clause-adds : goal.returns-in-Ok-clause-adds
returns-in-Ok-clause-adds c =
    let p = c.args.self.now in
    let n = c.args.core.0 in
    let ok = abort-told p n c.args.group None c.requires.stands (λ s stands. (c.in-Ok.ensures.answer s stands).1) in
    adds-acts p _ n (Ask.Abort c.args.group) (abort_of c.args.group) (freed_acts (applied_notes p.history.past c.args.group.0)) _
    (c.free_notes.ensures.past ∙ (ap (λ (h : HistoryState). h.past) c.push.ensures
    ∙ ap (λ (ws : List What). onto (entries_by n ws) (entry_by n (abort_of c.args.group) ∷ p.history.past)) (freed-said (applied_notes p.history.past c.args.group.0))))
    (abort-cause p.declarations p.history.past n c.args.group) (abort-asked p n c.args.group c.requires.may ok).gives refl c.free_notes.ensures.declarations c.free_notes.ensures.limits
