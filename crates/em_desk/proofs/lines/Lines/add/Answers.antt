use Rattle.std.proofs.Common.{◌∷◌, ◌++◌, [], ap}
use Rattle.em_desk.proofs.Mapped.{seen-changed}
use Rattle.em_desk.proofs.lines.Lines.add.Goals as goal

pub returns-clause-lists : goal.returns-clause-lists
returns-clause-lists c =
    seen-changed (λ d. d.items) c.self.inside.lists.items c.args.self.now.lists c.from.result c.args.list c.index_mut.result.now
    c.push_back_reserved.new.self [] (λ is. is ++ c.args.index ∷ []) (ap (λ s. s.lists) c.self.view_is) c.from.ensures c.requires.list
    c.index_mut.ensures.value c.push_back_reserved.ensures.items
