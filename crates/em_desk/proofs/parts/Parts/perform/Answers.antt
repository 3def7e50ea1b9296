use Rattle.std.proofs.Common.{sym, subst}
use Rattle.em_desk.specs.declared.parts.Parts.{Parts}
use Rattle.em_desk.specs.Histories.{HistoryState}
use Rattle.em_desk.specs.Standing.{Ending}
use Rattle.em_desk.proofs.Performed.{can-shift, can-arrive, can-say, performed}
use Rattle.em_desk.proofs.parts.Parts.perform.Goals as goal

pub shift-requires : goal.shift-requires
shift-requires c = can-shift c.args.self.now c.args.core.0 c.args.act c.requires.0 c.requires.1 c.requires.2 c.requires.3

pub enter-requires : goal.enter-requires
enter-requires c = can-arrive c.args.self.now c.args.core.0 c.args.act c.requires.0 c.requires.1 c.requires.2 c.requires.3

pub say-requires : goal.say-requires
say-requires c = can-say c.args.self.now c.args.core.0 c.args.act c.requires.0 c.requires.1 c.requires.2 c.requires.3

pub returns-clause-stands : goal.returns-clause-stands
returns-clause-stands c = λ acts rest n s.
    let p = c.args.self.now in
    let q : Parts = record p { pools = c.shift.new.pools; queues = c.enter.new.queues } in
    subst (λ (h : HistoryState). Ending (record p { history = h; pools = c.shift.new.pools; queues = c.enter.new.queues }) c.args.core.0 acts rest n) (sym c.say.ensures)
    (performed p q c.args.core.0 c.args.act acts rest n s c.shift.ensures.stands c.shift.ensures.shapes c.shift.ensures.spare c.enter.ensures.stands c.enter.ensures.same_shape)
