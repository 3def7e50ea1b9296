-- The laws of readings that go on.
use Rattle.std.proofs.Common.{◌≡◌, ℕ, zero, suc, List, [], ◌∷◌, ◌++◌, Option, Some, None, refl, sym, ap, ◌∙◌, append_assoc}
use Rattle.std.proofs.Math.Path.{fun_ext}
use Rattle.em_log.specs.declared.entry.What.{What}
use Rattle.em_log.specs.Expressions.{Env}
use Rattle.em_log.specs.Bodies.{Pair, Reading, Behavior, back, served, stays, with_pairs, continued, and_then, turns}

abbrev read : List Pair → List What → Option Env → Reading
read ps ws o = record { pairs = ps; rest = ws; env = o }

pub no_pairs : (r : Reading) → with_pairs [] r ≡ r
no_pairs r = refl

pub with_pairs-append : (ps qs : List Pair) (r : Reading) → with_pairs ps (with_pairs qs r) ≡ with_pairs (ps ++ qs) r
with_pairs-append ps qs r = ap (λ xs. read xs r.rest r.env) (sym (append_assoc ps qs r.pairs))

pairs-continued : (ps qs : List Pair) (ws : List What) (o : Option Env) (f : Behavior)
    → continued (with_pairs ps (read qs ws o)) o f ≡ with_pairs ps (continued (read qs ws o) o f)
pairs-continued ps qs ws None f = refl
pairs-continued ps qs ws (Some v) f = sym (with_pairs-append ps qs (f v ws))

-- the pairs before stay in front
pub and_then-pairs : (ps : List Pair) (r : Reading) (f : Behavior) → and_then (with_pairs ps r) f ≡ with_pairs ps (and_then r f)
and_then-pairs ps r f = pairs-continued ps r.pairs r.rest r.env f

pub and_then-stays : (v : Env) (ws : List What) (f : Behavior) → and_then (stays v ws) f ≡ f v ws
and_then-stays v ws f = no_pairs (f v ws)

append-none : {A : Type 0} (xs : List A) → xs ++ [] ≡ xs
append-none [] = refl
append-none (x ∷ xs) = ap (λ ys. x ∷ ys) (append-none xs)

continued-stays : (ps : List Pair) (ws : List What) (o : Option Env) → continued (read ps ws o) o stays ≡ read ps ws o
continued-stays ps ws None = refl
continued-stays ps ws (Some v) = ap (λ qs. read qs ws (Some v)) (append-none ps)

pub and_then-end : (r : Reading) → and_then r stays ≡ r
and_then-end r = continued-stays r.pairs r.rest r.env

continued-assoc : (ps : List Pair) (ws : List What) (o : Option Env) (f g : Behavior)
    → and_then (continued (read ps ws o) o f) g ≡ continued (read ps ws o) o (λ v xs. and_then (f v xs) g)
continued-assoc ps ws None f g = refl
continued-assoc ps ws (Some v) f g = and_then-pairs ps (f v ws) g

pub and_then-assoc : (r : Reading) (f g : Behavior) → and_then (and_then r f) g ≡ and_then r (λ v ws. and_then (f v ws) g)
and_then-assoc r f g = continued-assoc r.pairs r.rest r.env f g

pub behavior : {f g : Behavior} → ((v : Env) (ws : List What) → f v ws ≡ g v ws) → f ≡ g
behavior same = fun_ext (λ v. fun_ext (λ ws. same v ws))

-- the pairs before an error body's stay in front

back-pairs : (i : Option ℕ) (v : Env) (ps qs : List Pair) (ws : List What) (o : Option Env)
    → back i v (with_pairs ps (read qs ws o)) o ≡ with_pairs ps (back i v (read qs ws o) o)
back-pairs i v ps qs ws None = refl
back-pairs i v ps qs ws (Some u) = refl

pub served-pairs : (i : Option ℕ) (v : Env) (ps : List Pair) (r : Reading) → served i v (with_pairs ps r) ≡ with_pairs ps (served i v r)
served-pairs i v ps r = back-pairs i v ps r.pairs r.rest r.env

-- turns of nothing, and one turn

pub turns-none : (n : ℕ) (v : Env) (ws : List What) → turns n stays v ws ≡ stays v ws
turns-none zero v ws = refl
turns-none (suc n) v ws = and_then-stays v ws (turns n stays) ∙ turns-none n v ws

pub turns-one : (f : Behavior) (v : Env) (ws : List What) → turns 1 f v ws ≡ f v ws
turns-one f v ws = and_then-end (f v ws)
