use Rattle.std.proofs.Common.{[], drop, ap}
use Rattle.em_desk.proofs.Mapped.{seen-changed}
use Rattle.em_desk.proofs.lines.Lines.take.Goals as goal

pub returns-clause-lists : goal.returns-clause-lists
returns-clause-lists c =
    seen-changed (λ d. d.items) c.self.inside.lists.items c.args.self.now.lists c.from.result c.args.list c.index_mut.result.now
    c.pop_front.new.self [] (drop 1) (ap (λ s. s.lists) c.self.view_is) c.from.ensures c.requires
    c.index_mut.ensures.value c.pop_front.ensures.rest
