use Rattle.std.proofs.Common.{◌≡◌, ◌+◌, None, Some, get_or, drop, sym, subst, ◌∙◌}
use Rattle.em_desk.specs.State.{DeskState}
use Rattle.em_desk_rows.specs.declared.moves.Move.{Move}
use Rattle.em_desk_rows.specs.Moves.{Drives, Makes, ask_of}
use Rattle.em_desk_rows.proofs.Driving.{drives-at, takes-next, asks-next, drives-taken, drives-asked, makes-at, makes-taken, makes-asked, makes-end}
use Rattle.em_desk_rows.proofs.moves.drive.Goals as goal
use Rattle.em_desk_rows.proofs.moves.drive.Goals.{in-None+in_ok-take-in-None, in-Some}

pub take-requires : goal.take-requires
take-requires c =
    let ms = c.args.moves.now in
    let i = c.loop-core.core-index in
    let at = drives-at c.loop-core.desk ms i c.loop-core-test.true c.loop-core.invariant.drives in
    let is : ask_of (get_or ms i (0, Move.Take)).1 ≡ None = sym c.asked.ensures ∙ c.in-None.is in
    let may = (takes-next c.loop-core.desk (get_or ms i (0, Move.Take)) (drop (i + 1) ms) at is).0 in
    record { core = may.core; no_locals = c.new.ensures; closed = may.closed; untaken = may.untaken }

pub ask-requires : goal.ask-requires
ask-requires c =
    let ms = c.args.moves.now in
    let i = c.loop-core.core-index in
    let at = drives-at c.loop-core.desk ms i c.loop-core-test.true c.loop-core.invariant.drives in
    let is : ask_of (get_or ms i (0, Move.Take)).1 ≡ Some c.in-Some.ask = sym c.asked.ensures ∙ c.in-Some.is in
    let may = (asks-next c.loop-core.desk (get_or ms i (0, Move.Take)) (drop (i + 1) ms) c.in-Some.ask at is).0 in
    record {
      core = may.core;
      no_locals = c.new-in-Some.ensures;
      may_ask = may.may_ask;
      allowance = may.allowance;
      served = may.served;
    }

pub loop-core-init : goal.loop-core-init
loop-core-init c = record { drives = c.requires; makes = λ (end : DeskState) (made : Makes c.args.desk.now c.args.moves.now end). made }

pub loop-core-preserved : goal.loop-core-preserved
loop-core-preserved c =
    let ms = c.args.moves.now in
    let i = c.loop-core.core-index in
    let rest = drop (i + 1) ms in
    let m = get_or ms i (0, Move.Take) in
    let old = c.loop-core.desk in
    let at = drives-at old ms i c.loop-core-test.true c.loop-core.invariant.drives in
    elim c.match-asked.branch [
      | in-None+in_ok-take-in-None w ↦
          let is : ask_of m.1 ≡ None = sym c.asked.ensures ∙ w.in-None.is in
          let new = w.take.new.self in
          let answer = w.in_ok-take-in-None.field-0.answer in
          let takes = w.in_ok-take-in-None.ensures.takes in
          record {
            drives = subst (λ d. Drives d rest) (sym w.desk-is) (drives-taken old new m rest answer at is w.take.ensures.run takes);
            makes =
                λ (end : DeskState) (made : Makes c.match-asked.desk rest end).
                c.loop-core.invariant.makes end
                (makes-at old end ms i c.loop-core-test.true
                (makes-taken old new end m rest answer is w.take.ensures.run takes (subst (λ d. Makes d rest end) w.desk-is made)));
          }
      | in-Some w ↦
          let is : ask_of m.1 ≡ Some w.in-Some.ask = sym c.asked.ensures ∙ w.in-Some.is in
          let new = w.ask.new.self in
          record {
            drives = subst (λ d. Drives d rest) (sym w.desk-is) (drives-asked old new m rest w.in-Some.ask w.ask.result at is w.ask.ensures);
            makes =
                λ (end : DeskState) (made : Makes c.match-asked.desk rest end).
                c.loop-core.invariant.makes end
                (makes-at old end ms i c.loop-core-test.true
                (makes-asked old new end m rest w.in-Some.ask w.ask.result is w.ask.ensures (subst (λ d. Makes d rest end) w.desk-is made)));
          }
    ]

pub returns : goal.returns
returns c =
    let d = c.loop-core.desk in
    c.loop-core.invariant.makes d (makes-end d c.args.moves.now c.loop-core.core-index c.loop-core-test.false)
