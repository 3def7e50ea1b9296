use Rattle.std.proofs.Common.{◌≡◌, ◌∙◌, ℕ, ◌+◌, ◌<◌, false, is_some, sym, subst, arith}
use Rattle.em_log.specs.declared.declarations.Declarations.{Declarations}
use Rattle.em_log.specs.Operations.{step}
use Rattle.em_log.specs.History.{Past}
use Rattle.em_laws.proofs.Cores.{Compared, Same, Other, compared}
use Rattle.em_operations.proofs.DoneOperations.{not-done, done}
use Rattle.em_operations.proofs.operations.Operations.are_done.Goals as goal

pub loop-core-init : goal.loop-core-init
loop-core-init c = λ k l past lawful stands n lt. absurd (omega (arith, lt))

pub owes-requires : goal.owes-requires
owes-requires c =
    let some = c.requires in
    let lt = c.loop-core-test.true in
    let count = some.stands.cores in
    record { graph = some.graph; past = some.past; stands = some.stands; core = omega (arith, lt, count) }

one-more : (k : Declarations) (past : Past) (n m : ℕ) → is_some (step k past n) ≡ false → ((m : ℕ) → m < n → is_some (step k past m) ≡ false) → m < n + 1
    → is_some (step k past m) ≡ false
one-more k past n m here before more = by_test (compared m n)
  where
    by_test : Compared m n → is_some (step k past m) ≡ false
    by_test (Same e same) = subst (λ (x : ℕ). is_some (step k past x) ≡ false) (sym same) here
    by_test (Other f ne) = before m (omega (arith, more, ne))

pub loop-core-preserved : goal.loop-core-preserved
loop-core-preserved c = λ k l past lawful stands n more.
    one-more k past c.loop-core.core n (sym (c.owes.ensures k l past lawful.each stands) ∙ c.if-owes.false) (c.loop-core.invariant k l past lawful stands) more

pub returns-then-owes : goal.returns-then-owes
returns-then-owes c = λ k l past lawful stands.
    let lt = c.loop-core-test.true in
    let count = stands.cores in
    sym (not-done k l past c.loop-core.core lawful (omega (arith, lt, count)) (sym (c.owes.ensures k l past lawful.each stands) ∙ c.if-owes.true))

pub returns : goal.returns
returns c = λ k l past lawful stands.
    sym (done k l past lawful (λ n lt. c.loop-core.invariant k l past lawful stands n (let end = c.loop-core-test.false in let count = stands.cores in omega (arith, end, lt, count))))
