use Rattle.std.proofs.Common.{ℕ, List, ap, sym, ◌∙◌}
use Rattle.em_log.specs.History.{has}
use Rattle.em_acks.proofs.WordLemmas.{members-set_same, members-set_other, has-without_same, has-without_other, put-as}
use Rattle.em_acks.proofs.words.WordSet.put.Goals as goal

pub returns-then-is_in : goal.returns-then-is_in
returns-then-is_in c = put-as c.args.self.now _ c.args.number c.args.is_in
    (members-set_same c.self.inside.bits c.args.number c.requires ∙ sym c.if-is_in.true)
    (λ i ne. members-set_other c.self.inside.bits c.args.number i c.requires ne ∙ ap (λ (l : List ℕ). has l i) c.self.view_is)

pub returns-else-is_in : goal.returns-else-is_in
returns-else-is_in c = put-as c.args.self.now _ c.args.number c.args.is_in
    (ap (λ (l : List ℕ). has l c.args.number) c.without.ensures ∙ (has-without_same c.args.number c.args.self.now ∙ sym c.if-is_in.false))
    (λ i ne. ap (λ (l : List ℕ). has l i) c.without.ensures ∙ has-without_other c.args.number i c.args.self.now ne)
