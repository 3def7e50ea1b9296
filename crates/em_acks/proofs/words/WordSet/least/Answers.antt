use Rattle.std.proofs.Common.{ℕ, List, ap, sym, ◌∙◌, arith}
use Rattle.std.specs.Int.{trailing_zeros, w64}
use Rattle.em_log.specs.History.{has}
use Rattle.em_acks.specs.Words.{members}
use Rattle.em_acks.proofs.WordLemmas.{members-none, least-member}
use Rattle.em_acks.proofs.words.WordSet.least.Goals as goal

pub returns-then-self-eq0-clause-least : goal.returns-then-self-eq0-clause-least
returns-then-self-eq0-clause-least c = λ n. ap (λ (l : List ℕ). has l n) (sym c.self.view_is ∙ (ap members c.if-self-eq0.true ∙ members-none))

pub returns-else-self-eq0-clause-least : goal.returns-else-self-eq0-clause-least
returns-else-self-eq0-clause-least c =
    let least = least-member c.self.inside.bits (omega arith) (omega arith) in
    (ap (λ (l : List ℕ). has l (trailing_zeros w64 c.self.inside.bits)) (sym c.self.view_is) ∙ least.0, λ m lt. ap (λ (l : List ℕ). has l m) (sym c.self.view_is) ∙ least.1 m lt)
