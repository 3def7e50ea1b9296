use Rattle.std.proofs.Common.{◌≡◌, ◌++◌, ◌∷◌, [], List, length, None, Some, Option, refl, ap, ◌∙◌, subst, is_some, not, false, if◌then◌else◌}
use Rattle.std.proofs.lemmas.List.{length-reverse}
use Rattle.em_log.specs.Items.{LogItem, Halted}
use Rattle.em_desk.specs.State.{DeskState}
use Rattle.em_board.specs.declared.shared_desk.Mark.{Mark}
use Rattle.em_board.specs.Marked.{is_marked, shown}
use Rattle.em_board.specs.SharedDesks.{SharedState}
use Rattle.em_board.proofs.SharedDesks.{halted-now, halted-before}
use Rattle.em_board.proofs.shared_desk.SharedDesk.halt.Goals as goal

none-there : (m : Option Mark) → is_some m ≡ false → m ≡ None
none-there None there = refl
none-there (Some x) there = absurd cc

pub returns-then-is_none-clause-items : goal.returns-then-is_none-clause-items
returns-then-is_none-clause-items c =
    let d = c.self.inside.desk.value in
    let m = c.self.inside.mark in
    let n = length c.log-place.result.now in
    let shows : DeskState → List LogItem = λ x. shown x.past (Some (record { core = c.args.core; place = n })) in
    ap shows c.halt.ensures ∙ ap shows c.deref_mut.ensures.value
    ∙ halted-now c.args.core d.past m n (none-there m (c.is_none.ensures ∙ ap not c.if-is_none.true))
    (ap length c.log-place.ensures.value ∙ length-reverse c.deref.result.now.past ∙ ap (λ (x : DeskState). length x.past) c.deref.ensures)
    ∙ ap (λ (s : SharedState). s.items ++ (if is_marked s.items then [] else Halted c.args.core ∷ [])) c.self.view_is

pub returns-else-is_none-clause-items : goal.returns-else-is_none-clause-items
returns-else-is_none-clause-items c =
    let d = c.self.inside.desk.value in
    let m = c.self.inside.mark in
    subst (λ (s : SharedState). s.items ≡ s.items ++ (if is_marked s.items then [] else Halted c.args.core ∷ [])) c.self.view_is
    (halted-before c.args.core d.past m (c.is_none.ensures ∙ ap not c.if-is_none.false))
