-- What is left of a body weighs no more than the body, less what has been carried out.
use Rattle.std.proofs.Common.{◌≡◌, ℕ, zero, suc, ◌+◌, ◌*◌, ◌≤◌, max, List, [], ◌∷◌, length, Some, None, IsTrue, refl, ap, ◌∙◌, arith}
use Rattle.std.specs.Option.{option_map_or}
use Rattle.em_log.specs.declared.ask.Ask.{Ask}
use Rattle.em_log.specs.declared.body.Stmt.{Stmt}
use Rattle.em_log.specs.declared.work.Move.{Move}
use Rattle.em_log.specs.Allowance.{cost_of_ask}
use Rattle.em_log.specs.Bodies.{ask_of, notes_in}
use Rattle.em_log.specs.Expressions.{Env, value}
use Rattle.em_log.specs.Weights.{cost_of, served_cost, served_step, weight, weight_of, steps, steps_of}
use Rattle.em_body.specs.Standings.{Left, Standing, Does, Sets, Branches, Repeats, Writes, Asks, entered, resumed, first_in, first_of, without_first, after_first, chosen, does_ask}
use Rattle.em_body.proofs.Rows.{if-weight, repeat-weight, if-steps, repeat-steps}

-- a list, each statement counted so
abbrev pub total : (Stmt → ℕ) → List Stmt → ℕ
total m [] = 0
total m (s ∷ ss) = m s + total m ss

-- what is left, counted so
abbrev pub left_sum : (Stmt → ℕ) → List Left → ℕ
left_sum m [] = 0
left_sum m (l ∷ ls) = total m l.rest + l.again * total m l.block + left_sum m ls

pub entered-sum : (m : Stmt → ℕ) (block : List Stmt) (n : ℕ) (ls : List Left) → left_sum m (entered block n ls) ≡ n * total m block + left_sum m ls
entered-sum m [] n ls = omega arith
entered-sum m (s ∷ ss) zero ls = omega arith
entered-sum m (s ∷ ss) (suc n) ls = omega arith

resumed-sum : (m : Stmt → ℕ) (rest block : List Stmt) (n : ℕ) (ls : List Left)
    → left_sum m (resumed rest block n ls) ≡ total m rest + n * total m block + left_sum m ls
resumed-sum m [] block n ls = let e = entered-sum m block n ls in omega arith
resumed-sum m (s ∷ ss) block n ls = refl

first-sum-in : (m : Stmt → ℕ) (rest block : List Stmt) (n : ℕ) (ls : List Left) (s : Stmt) → first_in rest ≡ Some s
    → total m rest + n * total m block + left_sum m ls ≡ m s + left_sum m (resumed (without_first rest) block n ls)
first-sum-in m [] block n ls s is = absurd (cc is)
first-sum-in m (q ∷ ss) block n ls s is =
    let e : q ≡ s = cc is in
    let f : m q ≡ m s = ap m e in
    let r = resumed-sum m ss block n ls in omega arith

pub first-sum : (m : Stmt → ℕ) (ls : List Left) (s : Stmt) → first_of ls ≡ Some s → left_sum m ls ≡ m s + left_sum m (after_first ls)
first-sum m [] s is = absurd (cc is)
first-sum m (l ∷ ls) s is = first-sum-in m l.rest l.block l.again ls s is

chosen-sum : (m : Stmt → ℕ) (n : ℕ) (first second : List Stmt) → total m (chosen n first second) ≤ max (total m first) (total m second)
chosen-sum m zero first second = omega arith
chosen-sum m (suc n) first second = omega arith

-- the weight and the steps of a list

pub weight_of-sum : (e : ℕ) (ss : List Stmt) → weight_of e ss ≡ total (weight e) ss
weight_of-sum e [] = refl
weight_of-sum e (s ∷ ss) = ap (λ n. weight e s + n) (weight_of-sum e ss)

pub steps_of-sum : (e : ℕ) (ss : List Stmt) → steps_of e ss ≡ total (steps e) ss
steps_of-sum e [] = refl
steps_of-sum e (s ∷ ss) = ap (λ n. steps e s + n) (steps_of-sum e ss)

-- the cost of an ask and what serves its fault are at most the weight of its statement

cost-served : (e n : ℕ) → 1 ≤ n → n + e ≤ served_cost e n
cost-served e zero some = omega arith
cost-served e (suc n) some = omega arith

step-served : (e n : ℕ) → 1 ≤ served_step e n
step-served e zero = omega arith
step-served e (suc n) = omega arith

error-served : (e n : ℕ) → 1 ≤ n → 1 + e ≤ served_step e n
error-served e zero some = omega arith
error-served e (suc n) some = omega arith

pub length-notes : (ns : List _) (v : Env) → length (notes_in ns v) ≡ length ns
length-notes [] v = refl
length-notes (n ∷ ns) v = ap suc (length-notes ns v)

-- what a statement costs that asks
asks-some : (s : Stmt) (v : Env) → IsTrue (does_ask s v) → 1 ≤ cost_of s
asks-some (Stmt.Set i x) v does = absurd (cc does)
asks-some (Stmt.If' t _ b _ b' _) v does = absurd (cc does)
asks-some (Stmt.Repeat' n _ b) v does = absurd (cc does)
asks-some (Stmt.Apply g x ns) v does = omega arith
asks-some (Stmt.Start x ns) v does = omega arith
asks-some (Stmt.Stop x ns) v does = omega arith
asks-some (Stmt.Modify g x ns) v does = omega arith
asks-some s v does = omega arith

ask-cost : (s : Stmt) (v : Env) → IsTrue (does_ask s v) → cost_of_ask (ask_of s v) ≡ cost_of s
ask-cost (Stmt.Set i x) v does = absurd (cc does)
ask-cost (Stmt.If' t _ b _ b' _) v does = absurd (cc does)
ask-cost (Stmt.Repeat' n _ b) v does = absurd (cc does)
ask-cost (Stmt.Apply g x ns) v does = ap (λ n. 2 + n) (length-notes ns v)
ask-cost (Stmt.Start x ns) v does = ap (λ n. 3 + n) (length-notes ns v)
ask-cost (Stmt.Stop x ns) v does = ap (λ n. 3 + n) (length-notes ns v)
ask-cost (Stmt.Modify g x ns) v does = ap (λ n. 3 + n) (length-notes ns v)
ask-cost s v does = refl

asks-weight : (e : ℕ) (s : Stmt) (v : Env) → IsTrue (does_ask s v) → weight e s ≡ served_cost e (cost_of s)
asks-weight e (Stmt.If' t _ b _ b' _) v does = absurd (cc does)
asks-weight e (Stmt.Repeat' n _ b) v does = absurd (cc does)
asks-weight e s v does = refl

asks-steps : (e : ℕ) (s : Stmt) (v : Env) → IsTrue (does_ask s v) → steps e s ≡ served_step e (cost_of s)
asks-steps e (Stmt.If' t _ b _ b' _) v does = absurd (cc does)
asks-steps e (Stmt.Repeat' n _ b) v does = absurd (cc does)
asks-steps e s v does = refl

ask-weight : (e : ℕ) (s : Stmt) (v : Env) → IsTrue (does_ask s v) → cost_of_ask (ask_of s v) + e ≤ weight e s
ask-weight e s v does =
    let cost = ask-cost s v does in
    let whole = asks-weight e s v does in
    let served = cost-served e (cost_of s) (asks-some s v does) in
    omega arith

ask-steps : (e : ℕ) (s : Stmt) (v : Env) → IsTrue (does_ask s v) → 1 + e ≤ steps e s
ask-steps e s v does =
    let whole = asks-steps e s v does in
    let served = error-served e (cost_of s) (asks-some s v does) in
    omega arith

-- a statement is counted no less than its ask, if it makes one, and the blocks that it leaves

-- an ask that is not answered yet, with what may serve its fault
abbrev pub pending : (Ask → ℕ) → ℕ → Standing → ℕ
pending asked e s = option_map_or (λ q. asked (ask_of q s.env) + e) s.asking 0

pub unasked-pending : (asked : Ask → ℕ) (e : ℕ) (s : Standing) → s.asking ≡ None → pending asked e s ≡ 0
unasked-pending asked e s none = ap (λ o. option_map_or (λ q. asked (ask_of q s.env) + e) o 0) none

-- one body: its ask and what is left of it
abbrev pub in_body : (ℕ → Stmt → ℕ) → (Ask → ℕ) → ℕ → Standing → ℕ
in_body m asked e s = pending asked e s + left_sum (m e) s.left

pub does-weight : (e : ℕ) (s : Stmt) (was : Standing) (m : Move) (now : Standing) → was.asking ≡ None → Does s was m now
    → in_body weight cost_of_ask e now ≤ weight e s + left_sum (weight e) was.left
does-weight e s was m now none (Sets i x is silent new) =
    let c = unasked-pending cost_of_ask e now (ap (λ t. t.asking) new ∙ none) in
    let l : left_sum (weight e) now.left ≡ left_sum (weight e) was.left = ap (λ t. left_sum (weight e) t.left) new in
    omega arith
does-weight e s was m now none (Branches t first second has_else is silent new) =
    let block : List Stmt = chosen (value t was.env) first second in
    let c = unasked-pending cost_of_ask e now (ap (λ t. t.asking) new ∙ none) in
    let l : left_sum (weight e) now.left ≡ 1 * total (weight e) block + left_sum (weight e) was.left =
    ap (λ t. left_sum (weight e) t.left) new ∙ entered-sum (weight e) block 1 was.left in
    let h = chosen-sum (weight e) (value t was.env) first second in
    let w : weight e s ≡ max (weight_of e first) (weight_of e second) = ap (weight e) is ∙ if-weight e t first second has_else in
    let a = weight_of-sum e first in
    let b = weight_of-sum e second in
    omega arith
does-weight e s was m now none (Repeats n block is silent new) =
    let c = unasked-pending cost_of_ask e now (ap (λ t. t.asking) new ∙ none) in
    let l : left_sum (weight e) now.left ≡ n * total (weight e) block + left_sum (weight e) was.left =
    ap (λ t. left_sum (weight e) t.left) new ∙ entered-sum (weight e) block n was.left in
    let w : weight e s ≡ n * total (weight e) block = ap (weight e) is ∙ repeat-weight e n block ∙ ap (λ k. n * k) (weight_of-sum e block) in
    omega arith
does-weight e s was m now none (Writes x y cells is some silent new) =
    let c = unasked-pending cost_of_ask e now (ap (λ t. t.asking) new ∙ none) in
    let l : left_sum (weight e) now.left ≡ left_sum (weight e) was.left = ap (λ t. left_sum (weight e) t.left) new in
    omega arith
does-weight e s was m now none (Asks does is new) =
    let c : pending cost_of_ask e now ≡ cost_of_ask (ask_of s was.env) + e = ap (pending cost_of_ask e) new in
    let l : left_sum (weight e) now.left ≡ left_sum (weight e) was.left = ap (λ t. left_sum (weight e) t.left) new in
    let h = ask-weight e s was.env does in
    omega arith

-- no ask is a step
abbrev pub no_step : Ask → ℕ
no_step a = 0

pub does-steps : (e : ℕ) (s : Stmt) (was : Standing) (m : Move) (now : Standing) → was.asking ≡ None → Does s was m now
    → 1 + in_body steps no_step e now ≤ steps e s + left_sum (steps e) was.left
does-steps e s was m now none (Sets i x is silent new) =
    let c = unasked-pending no_step e now (ap (λ t. t.asking) new ∙ none) in
    let l : left_sum (steps e) now.left ≡ left_sum (steps e) was.left = ap (λ t. left_sum (steps e) t.left) new in
    let w : steps e s ≡ 1 = ap (steps e) is in
    omega arith
does-steps e s was m now none (Branches t first second has_else is silent new) =
    let c = unasked-pending no_step e now (ap (λ t. t.asking) new ∙ none) in
    let block : List Stmt = chosen (value t was.env) first second in
    let l : left_sum (steps e) now.left ≡ 1 * total (steps e) block + left_sum (steps e) was.left =
    ap (λ t. left_sum (steps e) t.left) new ∙ entered-sum (steps e) block 1 was.left in
    let h = chosen-sum (steps e) (value t was.env) first second in
    let w : steps e s ≡ 1 + max (steps_of e first) (steps_of e second) = ap (steps e) is ∙ if-steps e t first second has_else in
    let a = steps_of-sum e first in
    let b = steps_of-sum e second in
    omega arith
does-steps e s was m now none (Repeats n block is silent new) =
    let c = unasked-pending no_step e now (ap (λ t. t.asking) new ∙ none) in
    let l : left_sum (steps e) now.left ≡ n * total (steps e) block + left_sum (steps e) was.left =
    ap (λ t. left_sum (steps e) t.left) new ∙ entered-sum (steps e) block n was.left in
    let w : steps e s ≡ 1 + n * total (steps e) block = ap (steps e) is ∙ repeat-steps e n block ∙ ap (λ k. 1 + n * k) (steps_of-sum e block) in
    omega arith
does-steps e s was m now none (Writes x y cells is some silent new) =
    let c = unasked-pending no_step e now (ap (λ t. t.asking) new ∙ none) in
    let l : left_sum (steps e) now.left ≡ left_sum (steps e) was.left = ap (λ t. left_sum (steps e) t.left) new in
    let w : steps e s ≡ served_step e 1 = ap (steps e) is in
    let h = step-served e 1 in
    omega arith
does-steps e s was m now none (Asks does is new) =
    let c : pending no_step e now ≡ 0 + e = ap (pending no_step e) new in
    let l : left_sum (steps e) now.left ≡ left_sum (steps e) was.left = ap (λ t. left_sum (steps e) t.left) new in
    let h = ask-steps e s was.env does in
    omega arith
