use Rattle.std.proofs.Common.{◌≡◌, ℕ, ◌<◌, true, false, List, [], get_or, Some, ◌+◌, ◌*◌, arith, ap, sym, ◌∙◌, subst}
use Rattle.std.proofs.lemmas.List.{get_or_default}
use Rattle.em_log.specs.History.{has}
use Rattle.em_acks.specs.Words.{IsLeast}
use Rattle.em_acks.specs.Sets.{contains}
use Rattle.em_acks.proofs.OwedSets.{least-in-word, none-in-word, none-there}
use Rattle.em_acks.proofs.sets.OperationSet.first.Goals as goal

pub returns-in-Some : goal.returns-in-Some
returns-in-Some c =
    let words = c.args.self.now.words in
    let word = get_or_default words c.from.result c.index-self-from.result [] (omega arith) ∙ ap (λ k. get_or words k []) c.from.ensures in
    let least = c.in-Some.ensures.least in
    subst (λ k. IsLeast (contains c.args.self.now) (Some (64 * c.loop-word.word + k))) (sym c.from-in-Some.ensures)
    (least-in-word c.args.self.now c.loop-word.word c.in-Some.bit c.loop-word-test.true c.in-Some.ensures.small c.loop-word.invariant
    (subst (λ (l : List ℕ). has l c.in-Some.bit ≡ true) word least.0)
    (subst (λ (l : List ℕ). (j : ℕ) → j < c.in-Some.bit → has l j ≡ false) word least.1))

pub loop-word-preserved : goal.loop-word-preserved
loop-word-preserved c =
    let words = c.args.self.now.words in
    let word = get_or_default words c.from.result c.index-self-from.result [] (omega arith) ∙ ap (λ k. get_or words k []) c.from.ensures in
    none-in-word c.args.self.now c.loop-word.word c.loop-word.invariant
    (subst (λ (l : List ℕ). (j : ℕ) → has l j ≡ false) word c.in_default.ensures.least)

pub returns : goal.returns
returns c = none-there c.args.self.now c.loop-word.word c.loop-word.invariant c.loop-word-test.false
