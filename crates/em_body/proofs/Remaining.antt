-- What is left of a body is read as the rest of the body's reading.
use Rattle.std.proofs.Common.{◌≡◌, ℕ, zero, suc, List, [], ◌∷◌, Option, Some, None, IsTrue, refl, sym, ap, ◌∙◌}
use Rattle.std.specs.Prelude.{◌%◌, is_none, slice_set}
use Rattle.em_log.specs.declared.body.Stmt.{Stmt}
use Rattle.em_log.specs.declared.entry.What.{What}
use Rattle.em_log.specs.declared.ask.Ask.{Ask}
use Rattle.em_log.specs.declared.work.Move.{Move}
use Rattle.em_log.specs.Expressions.{Env, value, with_var}
use Rattle.em_log.specs.Bodies.{Reading, Behavior, Handler, ask_of, variable, asks, writes, and_then, turns, branch, follow, follow_all}
use Rattle.em_body.specs.Standings.{Left, Standing, Does, Sets, Branches, Repeats, Writes, Asks, Steps, Ends, Goes, entered, resumed, first_in, first_of, without_first, after_first, chosen, does_ask}
use Rattle.em_body.specs.Followed.{follow_left, follow_asking}
use Rattle.em_body.proofs.Readings.{and_then-stays, and_then-end, and_then-assoc, behavior, turns-none, turns-one}
use Rattle.em_body.proofs.Rows.{if-follow, repeat-follow}

-- blocks

pub entered-follow : (h : Handler) (block : List Stmt) (n : ℕ) (ls : List Left) (v : Env) (ws : List What)
    → follow_left h (entered block n ls) v ws ≡ and_then (turns n (follow_all h block) v ws) (follow_left h ls)
entered-follow h [] n ls v ws =
    sym (and_then-stays v ws (follow_left h ls)) ∙ ap (λ r. and_then r (follow_left h ls)) (sym (turns-none n v ws))
entered-follow h (s ∷ ss) zero ls v ws = sym (and_then-stays v ws (follow_left h ls))
entered-follow h (s ∷ ss) (suc n) ls v ws = refl

-- a body that is begun is read as the body
pub begun-follow : (h : Handler) (body : List Stmt) (v : Env) (ws : List What) → follow_left h (entered body 1 []) v ws ≡ follow_all h body v ws
begun-follow h body v ws =
    entered-follow h body 1 [] v ws ∙ and_then-end (turns 1 (follow_all h body) v ws) ∙ turns-one (follow_all h body) v ws

resumed-follow : (h : Handler) (rest block : List Stmt) (n : ℕ) (ls : List Left) (v : Env) (ws : List What)
    → follow_left h (resumed rest block n ls) v ws
    ≡ and_then (and_then (follow_all h rest v ws) (turns n (follow_all h block))) (follow_left h ls)
resumed-follow h [] block n ls v ws =
    entered-follow h block n ls v ws
    ∙ ap (λ r. and_then r (follow_left h ls)) (sym (and_then-stays v ws (turns n (follow_all h block))))
resumed-follow h (s ∷ ss) block n ls v ws = refl

-- the next statement comes first

first-follow-in : (h : Handler) (rest block : List Stmt) (n : ℕ) (ls : List Left) (s : Stmt) (v : Env) (ws : List What) → first_in rest ≡ Some s
    → and_then (and_then (follow_all h rest v ws) (turns n (follow_all h block))) (follow_left h ls)
    ≡ and_then (follow h s v ws) (follow_left h (resumed (without_first rest) block n ls))
first-follow-in h [] block n ls s v ws is = absurd (cc is)
first-follow-in h (q ∷ ss) block n ls s v ws is =
    let e : q ≡ s = cc is in
    let T : Behavior = turns n (follow_all h block) in
    let L : Behavior = follow_left h ls in
    ap (λ r. and_then r L) (and_then-assoc (follow h q v ws) (follow_all h ss) T)
    ∙ and_then-assoc (follow h q v ws) (λ u xs. and_then (follow_all h ss u xs) T) L
    ∙ ap (λ f. and_then (follow h q v ws) f) (behavior (λ u xs. sym (resumed-follow h ss block n ls u xs)))
    ∙ ap (λ x. and_then (follow h x v ws) (follow_left h (resumed ss block n ls))) e

first-follow : (h : Handler) (ls : List Left) (s : Stmt) (v : Env) (ws : List What) → first_of ls ≡ Some s
    → follow_left h ls v ws ≡ and_then (follow h s v ws) (follow_left h (after_first ls))
first-follow h [] s v ws is = absurd (cc is)
first-follow h (l ∷ ls) s v ws is = first-follow-in h l.rest l.block l.again ls s v ws is

-- what a statement does is what it is read as

chosen-follow : (h : Handler) (n : ℕ) (first second : List Stmt) (v : Env) (ws : List What)
    → branch n (follow_all h first) (follow_all h second) v ws ≡ follow_all h (chosen n first second) v ws
chosen-follow h zero first second v ws = refl
chosen-follow h (suc n) first second v ws = refl

cell-asks : (h : Handler) (i n : ℕ) (v : Env) (cells : Option (List ℕ)) (ws : List What) → IsTrue (is_none cells)
    → writes h i n v cells ws ≡ asks h Ask.Cell None v ws
cell-asks h i n v None ws none = refl
cell-asks h i n v (Some cs) ws none = absurd (cc none)

asks-follow : (h : Handler) (s : Stmt) (v : Env) (ws : List What) → IsTrue (does_ask s v) → follow h s v ws ≡ asks h (ask_of s v) (variable s) v ws
asks-follow h (Stmt.Set i e) v ws does = absurd (cc does)
asks-follow h (Stmt.If' t _ b _ b' _) v ws does = absurd (cc does)
asks-follow h (Stmt.Repeat' n _ b) v ws does = absurd (cc does)
asks-follow h (Stmt.CellWrite c e) v ws does = cell-asks h (value c v) (value e v) v v.cells ws does
asks-follow h s v ws does = refl

-- how a body goes on whose faults are served so, by itself
abbrev pub level : Handler → Standing → List What → Reading
level h s ws = follow_asking h s.asking s.left s.env ws

-- one whose ask is none goes on with what is left
unasked-level : (h : Handler) (s : Standing) (ws : List What) → s.asking ≡ None → level h s ws ≡ follow_left h s.left s.env ws
unasked-level h s ws none = ap (λ o. follow_asking h o s.left s.env ws) none

does-level : (h : Handler) (s : Stmt) (was : Standing) (m : Move) (now : Standing) (ws : List What) → was.asking ≡ None → Does s was m now
    → and_then (follow h s was.env ws) (follow_left h was.left) ≡ level h now ws
does-level h s was m now ws none (Sets i e is silent new) =
    ap (λ q. and_then (follow h q was.env ws) (follow_left h was.left)) is
    ∙ and_then-stays (with_var i (value e was.env) was.env) ws (follow_left h was.left)
    ∙ sym (unasked-level h (record was { env = with_var i (value e was.env) was.env }) ws none)
    ∙ ap (λ t. level h t ws) (sym new)
does-level h s was m now ws none (Branches t first second has_else is silent new) =
    let block : List Stmt = chosen (value t was.env) first second in
    ap (λ q. and_then (follow h q was.env ws) (follow_left h was.left)) is
    ∙ ap (λ r. and_then r (follow_left h was.left)) (if-follow h t first second has_else was.env ws)
    ∙ ap (λ r. and_then r (follow_left h was.left)) (chosen-follow h (value t was.env) first second was.env ws)
    ∙ ap (λ r. and_then r (follow_left h was.left)) (sym (turns-one (follow_all h block) was.env ws))
    ∙ sym (entered-follow h block 1 was.left was.env ws)
    ∙ sym (unasked-level h (record was { left = entered block 1 was.left }) ws none)
    ∙ ap (λ t. level h t ws) (sym new)
does-level h s was m now ws none (Repeats n block is silent new) =
    ap (λ q. and_then (follow h q was.env ws) (follow_left h was.left)) is
    ∙ ap (λ r. and_then r (follow_left h was.left)) (repeat-follow h n block was.env ws)
    ∙ sym (entered-follow h block n was.left was.env ws)
    ∙ sym (unasked-level h (record was { left = entered block n was.left }) ws none)
    ∙ ap (λ t. level h t ws) (sym new)
does-level h s was m now ws none (Writes c e cells is some silent new) =
    ap (λ q. and_then (follow h q was.env ws) (follow_left h was.left)) is
    ∙ ap (λ o. and_then (writes h (value c was.env) (value e was.env) was.env o ws) (follow_left h was.left)) some
    ∙ and_then-stays _ ws (follow_left h was.left)
    ∙ sym (unasked-level h (record was { env = record was.env { cells = Some (slice_set cells (value c was.env % 8) (value e was.env)) } }) ws none)
    ∙ ap (λ t. level h t ws) (sym new)
does-level h s was m now ws none (Asks does is new) =
    ap (λ r. and_then r (follow_left h was.left)) (asks-follow h s was.env ws does) ∙ ap (λ t. level h t ws) (sym new)

-- a step leaves what is ahead of a body as it was
pub steps-level : (h : Handler) (was : Standing) (m : Move) (now : Standing) (ws : List What) → Steps was m now → level h was ws ≡ level h now ws
steps-level h was m now ws (Ends none empty is same) = ap (λ t. level h t ws) (sym same)
steps-level h was m now ws (Goes s none first does) =
    unasked-level h was ws none ∙ first-follow h was.left s was.env ws first
    ∙ does-level h s (record was { left = after_first was.left }) m now ws none does
