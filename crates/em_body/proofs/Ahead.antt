-- What is ahead of a body stays as it was at each move.
use Rattle.std.proofs.Common.{◌≡◌, List, [], ◌∷◌, Option, Some, None, refl, sym, ap, ◌∙◌}
use Rattle.em_log.specs.declared.body.Stmt.{Stmt}
use Rattle.em_log.specs.declared.entry.What.{What}
use Rattle.em_log.specs.declared.work.Move.{Move}
use Rattle.em_log.specs.Bodies.{and_then, served, unserved, serves}
use Rattle.em_body.specs.Standings.{Made, Left, Outer, Standing, Moves, Steps, after_error, settled_by, settled}
use Rattle.em_body.specs.Followed.{follow_left, going, ahead}
use Rattle.em_body.proofs.Readings.{and_then-stays}
use Rattle.em_body.proofs.Remaining.{level, steps-level}
use Rattle.em_body.proofs.Settled.{settled-asking, steps-error, steps-outer, steps-unasked}

-- where nothing is left of an error body, its body goes on
by-ahead : (ls : List Left) (o : Option Outer) (asking : Option Stmt) (s : Standing) (ws : List What) → asking ≡ None
    → going o (record s { left = ls; asking = asking; outer = o }) ws ≡ ahead (settled_by ls o (record s { left = ls; asking = asking; outer = o })) ws
by-ahead [] (Some o) None s ws none = and_then-stays (after_error o.variable o.env s.env) ws (follow_left (serves s.error) o.left)
by-ahead [] None None s ws none = refl
by-ahead (l ∷ ls) (Some o) None s ws none = refl
by-ahead (l ∷ ls) None None s ws none = refl
by-ahead ls o (Some q) s ws none = absurd (cc none)

settled-ahead : (s : Standing) (ws : List What) → s.asking ≡ None → ahead s ws ≡ ahead (settled s) ws
settled-ahead s ws none = by-ahead s.left s.outer s.asking s ws none

by-going : (o : Option Outer) (was : Standing) (m : Move) (now : Standing) (ws : List What) → Steps was m now → now.error ≡ was.error
    → going o was ws ≡ going o now ws
by-going None was m now ws steps error = steps-level (serves was.error) was m now ws steps ∙ ap (λ e. level (serves e) now ws) (sym error)
by-going (Some o) was m now ws steps error =
    ap (λ r. and_then (served o.variable o.env r) (follow_left (serves was.error) o.left)) (steps-level unserved was m now ws steps)
    ∙ ap (λ e. and_then (served o.variable o.env (level unserved now ws)) (follow_left (serves e) o.left)) (sym error)

pub moves-ahead : (f : Made) (was : Standing) (m : Move) (now : Standing) (ws : List What) → Moves f was m now → ahead was ws ≡ ahead now ws
moves-ahead f was m now ws moves =
    settled-ahead was ws (sym (settled-asking was) ∙ steps-unasked (settled was) m now moves)
    ∙ by-going (settled was).outer (settled was) m now ws moves (steps-error (settled was) m now moves)
    ∙ ap (λ o. going o now ws) (sym (steps-outer (settled was) m now moves))
