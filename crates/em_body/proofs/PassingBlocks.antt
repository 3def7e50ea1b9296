-- What all statements of a body pass is passed by what its statements leave of it, and by a statement that asks.
use Rattle.std.proofs.Common.{◌≡◌, ℕ, zero, suc, Bool, List, [], ◌∷◌, Option, Some, None, IsTrue, sym, ap, ◌∙◌, subst}
use Rattle.std.proofs.lemmas.Bool.{and_parts}
use Rattle.em_log.specs.declared.body.Stmt.{Stmt}
use Rattle.em_log.specs.declared.work.Move.{Move}
use Rattle.em_log.specs.Expressions.{Env, value}
use Rattle.em_body.specs.Everywhere.{everywhere, everywhere_in}
use Rattle.em_body.specs.Standings.{Left, Standing, Does, Sets, Branches, Repeats, Writes, Asks, entered, resumed, first_in, first_of, without_first, after_first, chosen, does_ask}
use Rattle.em_body.proofs.Rows.{if-everywhere, repeat-everywhere}

abbrev pub Pass : (Stmt → Bool) → List Stmt → Type 0
Pass p ss = IsTrue (everywhere_in p ss)

pub record BlockPasses (p : Stmt → Bool) (l : Left) : Type 0 where
  pub rest : Pass p l.rest
  pub block : Pass p l.block

abbrev pub AllPass : (Stmt → Bool) → List Left → Type 0
AllPass p [] = Unit {0}
AllPass p (l ∷ ls) = BlockPasses p l × AllPass p ls

-- blocks

pub entered-pass : (p : Stmt → Bool) (block : List Stmt) (n : ℕ) (ls : List Left) → Pass p block → AllPass p ls → AllPass p (entered block n ls)
entered-pass p [] n ls all under = under
entered-pass p (s ∷ ss) zero ls all under = under
entered-pass p (s ∷ ss) (suc n) ls all under = (record { rest = all; block = all }, under)

resumed-pass : (p : Stmt → Bool) (rest block : List Stmt) (n : ℕ) (ls : List Left) → Pass p rest → Pass p block → AllPass p ls
    → AllPass p (resumed rest block n ls)
resumed-pass p [] block n ls left all under = entered-pass p block n ls all under
resumed-pass p (s ∷ ss) block n ls left all under = (record { rest = left; block = all }, under)

-- the next statement passes, and what is left after it

first-pass-in : (p : Stmt → Bool) (rest block : List Stmt) (n : ℕ) (ls : List Left) (s : Stmt) → Pass p rest → Pass p block → AllPass p ls
    → first_in rest ≡ Some s → IsTrue (everywhere p s) × AllPass p (resumed (without_first rest) block n ls)
first-pass-in p [] block n ls s left all under is = absurd (cc is)
first-pass-in p (q ∷ ss) block n ls s left all under is =
    let both = and_parts (everywhere p q) (everywhere_in p ss) left in
    let e : q ≡ s = cc is in
    (subst (λ x. IsTrue (everywhere p x)) e both.0, resumed-pass p ss block n ls both.1 all under)

pub first-pass : (p : Stmt → Bool) (ls : List Left) (s : Stmt) → AllPass p ls → first_of ls ≡ Some s
    → IsTrue (everywhere p s) × AllPass p (after_first ls)
first-pass p [] s all is = absurd (cc is)
first-pass p (l ∷ ls) s (here, under) is = first-pass-in p l.rest l.block l.again ls s here.rest here.block under is

chosen-pass : (p : Stmt → Bool) (n : ℕ) (first second : List Stmt) → Pass p first → Pass p second → Pass p (chosen n first second)
chosen-pass p zero first second a b = b
chosen-pass p (suc n) first second a b = a

-- what a statement leaves passes
pub does-pass : (p : Stmt → Bool) (s : Stmt) (was : Standing) (m : Move) (now : Standing) → IsTrue (everywhere p s) → AllPass p was.left
    → Does s was m now → AllPass p now.left
does-pass p s was m now passes all (Sets i e is silent new) = subst (AllPass p) (sym (ap (λ t. t.left) new)) all
does-pass p s was m now passes all (Branches t first second has_else is silent new) =
    let blocks = sym (if-everywhere p t first second has_else) ∙ sym (ap (everywhere p) is) ∙ passes in
    let both = and_parts (everywhere_in p first) (everywhere_in p second) blocks in
    subst (AllPass p) (sym (ap (λ t. t.left) new))
    (entered-pass p (chosen (value t was.env) first second) 1 was.left (chosen-pass p (value t was.env) first second both.0 both.1) all)
does-pass p s was m now passes all (Repeats n block is silent new) =
    subst (AllPass p) (sym (ap (λ t. t.left) new))
    (entered-pass p block n was.left (sym (repeat-everywhere p n block) ∙ sym (ap (everywhere p) is) ∙ passes) all)
does-pass p s was m now passes all (Writes c e cells is some silent new) = subst (AllPass p) (sym (ap (λ t. t.left) new)) all
does-pass p s was m now passes all (Asks does is new) = subst (AllPass p) (sym (ap (λ t. t.left) new)) all

-- the statement that asks

-- a statement that passes and asks in this environment
pub record AsksThere (p : Stmt → Bool) (v : Env) (s : Stmt) : Type 0 where
  pub passes : IsTrue (p s)
  pub asks : IsTrue (does_ask s v)

abbrev pub AskingPasses : (Stmt → Bool) → Env → Option Stmt → Type 0
AskingPasses p v None = Unit {0}
AskingPasses p v (Some s) = AsksThere p v s

-- a statement that asks holds no blocks
asking-passes : (p : Stmt → Bool) (s : Stmt) (v : Env) → IsTrue (everywhere p s) → IsTrue (does_ask s v) → IsTrue (p s)
asking-passes p (Stmt.If' t _ first _ second b) v passes does = absurd (cc does)
asking-passes p (Stmt.Repeat' n _ block) v passes does = absurd (cc does)
asking-passes p s v passes does = passes

pub unasked-passes : (p : Stmt → Bool) (v : Env) (o : Option Stmt) → o ≡ None → AskingPasses p v o
unasked-passes p v None none = tt
unasked-passes p v (Some s) none = absurd (cc none)

pub does-asking : (p : Stmt → Bool) (s : Stmt) (was : Standing) (m : Move) (now : Standing) → IsTrue (everywhere p s) → was.asking ≡ None
    → Does s was m now → AskingPasses p now.env now.asking
does-asking p s was m now passes none (Sets i e is silent new) = unasked-passes p now.env now.asking (ap (λ t. t.asking) new ∙ none)
does-asking p s was m now passes none (Branches t first second has_else is silent new) = unasked-passes p now.env now.asking (ap (λ t. t.asking) new ∙ none)
does-asking p s was m now passes none (Repeats n block is silent new) = unasked-passes p now.env now.asking (ap (λ t. t.asking) new ∙ none)
does-asking p s was m now passes none (Writes c e cells is some silent new) = unasked-passes p now.env now.asking (ap (λ t. t.asking) new ∙ none)
does-asking p s was m now passes none (Asks does is new) =
    subst (λ t. AskingPasses p t.env t.asking) (sym new) (record { passes = asking-passes p s was.env passes does; asks = does })
