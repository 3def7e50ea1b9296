-- With no entry to read, a body makes no pair and leaves no entry.
use Rattle.std.proofs.Common.{◌≡◌, ℕ, zero, suc, List, [], ◌∷◌, Option, Some, None, refl}
use Rattle.em_log.specs.declared.body.Stmt.{Stmt}
use Rattle.em_log.specs.declared.body.Stmt.TheBlock.{Row_of-Stmt, end_of-Stmt, more_of-Stmt}
use Rattle.em_log.specs.declared.entry.What.{What}
use Rattle.em_log.specs.Bodies.{Pair, Reading, Behavior, Handler, back, served, unserved, serves, writes, stays, continued, and_then, turns, branch, follow, follow_row, follow_all}
use Rattle.em_log.specs.Expressions.{Env, value}
use Rattle.em_body.specs.Standings.{Left, Outer, Standing}
use Rattle.em_body.specs.Followed.{follow_block, follow_left, follow_asking, going, ahead}
use mathlib.Core.Former.{Count}

pub record IsBare (r : Reading) : Type 0 where
  pub pairs : r.pairs ≡ []
  pub rest : r.rest ≡ []

-- with no entry to read
abbrev IsQuiet : Behavior → Type 0
IsQuiet f = (v : Env) → IsBare (f v [])

bare-stays : IsQuiet stays
bare-stays v = record { pairs = refl; rest = refl }

continued-bare : (ps : List Pair) (ws : List What) (o : Option Env) (f : Behavior) → ps ≡ [] → ws ≡ [] → IsQuiet f
    → IsBare (continued (record { pairs = ps; rest = ws; env = o }) o f)
continued-bare ps ws None f no_pairs no_rest quiet = record { pairs = no_pairs; rest = no_rest }
continued-bare (p ∷ ps) ws (Some v) f no_pairs no_rest quiet = absurd (cc no_pairs)
continued-bare [] (w ∷ ws) (Some v) f no_pairs no_rest quiet = absurd (cc no_rest)
continued-bare [] [] (Some v) f no_pairs no_rest quiet = record { pairs = (quiet v).pairs; rest = (quiet v).rest }

and_then-bare : (r : Reading) (f : Behavior) → IsBare r → IsQuiet f → IsBare (and_then r f)
and_then-bare r f bare quiet = continued-bare r.pairs r.rest r.env f bare.pairs bare.rest quiet

turns-bare : (n : ℕ) (f : Behavior) → IsQuiet f → IsQuiet (turns n f)
turns-bare zero f quiet v = bare-stays v
turns-bare (suc n) f quiet v = and_then-bare (f v []) (turns n f) (quiet v) (turns-bare n f quiet)

branch-bare : (n : ℕ) (f g : Behavior) → IsQuiet f → IsQuiet g → IsQuiet (branch n f g)
branch-bare zero f g first second = second
branch-bare (suc n) f g first second = first

writes-bare : (h : Handler) (i n : ℕ) (v : Env) (cells : Option (List ℕ)) → IsBare (writes h i n v cells [])
writes-bare h i n v None = record { pairs = refl; rest = refl }
writes-bare h i n v (Some cs) = record { pairs = refl; rest = refl }

mutual
  follow-bare : (h : Handler) (s : Stmt) → IsQuiet (follow h s)
  follow-bare h (Stmt.Set i e) v = record { pairs = refl; rest = refl }
  follow-bare h (Stmt.If' t _ b _ b' _) v = branch-bare (value t v) (follow_row h b) (follow_row h b') (row-bare h b) (row-bare h b') v
  follow-bare h (Stmt.Repeat' n _ b) v = turns-bare n (follow_row h b) (row-bare h b) v
  follow-bare h (Stmt.CellWrite c e) v = writes-bare h (value c v) (value e v) v v.cells
  follow-bare h s v = record { pairs = refl; rest = refl }

  row-bare : {n : Count} (h : Handler) (b : Row_of-Stmt n) → IsQuiet (follow_row h b)
  row-bare h end_of-Stmt v = bare-stays v
  row-bare h (more_of-Stmt s ss) v = and_then-bare (follow h s v []) (follow_row h ss) (follow-bare h s v) (row-bare h ss)

all-bare : (h : Handler) (ss : List Stmt) → IsQuiet (follow_all h ss)
all-bare h [] v = bare-stays v
all-bare h (s ∷ ss) v = and_then-bare (follow h s v []) (follow_all h ss) (follow-bare h s v) (all-bare h ss)

left-bare : (h : Handler) (ls : List Left) → IsQuiet (follow_left h ls)
left-bare h [] v = bare-stays v
left-bare h (l ∷ ls) v =
    and_then-bare (follow_block h l v []) (follow_left h ls)
    (and_then-bare (follow_all h l.rest v []) (turns l.again (follow_all h l.block)) (all-bare h l.rest v)
    (turns-bare l.again (follow_all h l.block) (all-bare h l.block)))
    (left-bare h ls)

asking-bare : (h : Handler) (o : Option Stmt) (ls : List Left) → IsQuiet (follow_asking h o ls)
asking-bare h None ls v = left-bare h ls v
asking-bare h (Some s) ls v = record { pairs = refl; rest = refl }

-- after an error body too
back-bare : (i : Option ℕ) (v : Env) (ps : List Pair) (ws : List What) (o : Option Env) → ps ≡ [] → ws ≡ []
    → IsBare (back i v (record { pairs = ps; rest = ws; env = o }) o)
back-bare i v ps ws None no_pairs no_rest = record { pairs = no_pairs; rest = no_rest }
back-bare i v ps ws (Some u) no_pairs no_rest = record { pairs = no_pairs; rest = no_rest }

served-bare : (i : Option ℕ) (v : Env) (r : Reading) → IsBare r → IsBare (served i v r)
served-bare i v r bare = back-bare i v r.pairs r.rest r.env bare.pairs bare.rest

going-bare : (o : Option Outer) (s : Standing) → IsBare (going o s [])
going-bare None s = asking-bare (serves s.error) s.asking s.left s.env
going-bare (Some o) s =
    and_then-bare (served o.variable o.env (follow_asking unserved s.asking s.left s.env [])) (follow_left (serves s.error) o.left)
    (served-bare o.variable o.env (follow_asking unserved s.asking s.left s.env []) (asking-bare unserved s.asking s.left s.env))
    (left-bare (serves s.error) o.left)

pub ahead-bare : (s : Standing) → IsBare (ahead s [])
ahead-bare s = going-bare s.outer s
