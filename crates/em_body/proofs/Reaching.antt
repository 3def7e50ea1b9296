-- In each state that a context reaches its body has been followed.
use Rattle.std.proofs.Common.{◌≡◌, List, [], ◌∷◌, ◌++◌, reverse, Option, Some, None, IsSome, refl, sym, ap, ◌∙◌, subst, append_assoc}
use Rattle.std.proofs.lemmas.List.{reverse-append}
use Rattle.em_log.specs.declared.ask.Answer.{Answer}
use Rattle.em_log.specs.declared.ask.Ask.{Ask}
use Rattle.em_log.specs.declared.ask.Context.{Context}
use Rattle.em_log.specs.declared.body.Stmt.{Stmt}
use Rattle.em_log.specs.declared.entry.What.{What}
use Rattle.em_log.specs.declared.work.Move.{Move}
use Rattle.em_log.specs.Bodies.{Pair, Handler, serves, with_pairs}
use Rattle.em_log.specs.Expressions.{Env}
use Rattle.em_log.specs.Works.{Exchange, Reached}
use Rattle.em_body.specs.Standings.{Left, Made, Outer, Standing, Begins, Leaves, unanswered, body_of, error_body_of, opening, begun, after_error, settled_by}
use Rattle.em_body.specs.Followed.{AreRead, pairs_of, follow_left, going, ahead, IsReached, whole, reading, IsFollowed}
use Rattle.em_body.proofs.Readings.{with_pairs-append}
use Rattle.em_body.proofs.Remaining.{begun-follow}
use Rattle.em_body.proofs.Ahead.{moves-ahead}
use Rattle.em_body.proofs.AnswersRead.{leaves-ahead}
use Rattle.em_body.proofs.Bare.{ahead-bare}

reverse-cons : {A : Type 0} (x : A) (xs : List A) → reverse (x ∷ xs) ≡ reverse xs ++ (x ∷ [])
reverse-cons x xs = reverse-append (x ∷ []) xs

-- the whole body is ahead at its beginning
begun-whole : (f : Made) (c : Context) (more : List What) → whole f c more ≡ ahead (begun f c) more
begun-whole f c more = sym (begun-follow (serves (error_body_of f.graph c)) (body_of f.graph c) (opening f.core c) more)

-- what is reached by no exchange was read from no entry
begun-further : (f : Made) (c : Context) (es : List Exchange) (s : Standing) → es ≡ [] → Begins f c s → (ws more : List What) → AreRead es ws
    → whole f c (reverse ws ++ more) ≡ with_pairs (reverse (pairs_of es ws)) (ahead s more)
begun-further f c [] s none begins [] more read = begun-whole f c more ∙ ap (λ t. ahead t more) (sym begins)
begun-further f c [] s none begins (w ∷ ws) more read = absurd read
begun-further f c (x ∷ xs) s none begins ws more read = absurd (cc none)

-- one more exchange
answered-further : (f : Made) (c : Context) (before : List Exchange) (a : Ask) (x : Answer) (was now : Standing) → unanswered was ≡ Some a
    → Leaves f was x now
    → ((ws more : List What) → AreRead before ws
    → whole f c (reverse ws ++ more) ≡ with_pairs (reverse (pairs_of before ws)) (ahead was more))
    → (ws more : List What) → AreRead (record { ask = a; answer = x } ∷ before) ws
    → whole f c (reverse ws ++ more) ≡ with_pairs (reverse (pairs_of (record { ask = a; answer = x } ∷ before) ws)) (ahead now more)
answered-further f c before a x was now some leaves further [] more read = absurd read
answered-further f c before a x was now some leaves further (w ∷ ws) more read =
    let p : Pair = record { ask = a; what = w } in
    let ps : List Pair = pairs_of before ws in
    ap (λ vs. whole f c (vs ++ more)) (reverse-cons w ws)
    ∙ ap (λ vs. whole f c vs) (append_assoc (reverse ws) (w ∷ []) more)
    ∙ further ws (w ∷ more) read.1
    ∙ ap (λ r. with_pairs (reverse ps) r) (leaves-ahead f was a x now w more some leaves read.0)
    ∙ with_pairs-append (reverse ps) (p ∷ []) (ahead now more)
    ∙ ap (λ qs. with_pairs qs (ahead now more)) (sym (reverse-cons p ps))

pub reached-further : (f : Made) (c : Context) (es : List Exchange) (s : Standing) → IsReached f c es s → (ws more : List What) → AreRead es ws
    → whole f c (reverse ws ++ more) ≡ with_pairs (reverse (pairs_of es ws)) (ahead s more)
reached-further f c es s (Reached.Begun _ _ none begins) ws more read = begun-further f c es s none begins ws more read
reached-further f c es s (Reached.Silent _ was _ before moves) ws more read =
    reached-further f c es was before ws more read
    ∙ ap (λ r. with_pairs (reverse (pairs_of es ws)) r) (moves-ahead f was Move.Silent s more moves)
reached-further f c es s (Reached.Asked _ was _ a before moves) ws more read =
    reached-further f c es was before ws more read
    ∙ ap (λ r. with_pairs (reverse (pairs_of es ws)) r) (moves-ahead f was (Move.Ask a) s more moves)
reached-further f c es s (Reached.Answered _ past was _ a x before some fits leaves is) ws more read =
    subst (λ xs. (ws more : List What) → AreRead xs ws
    → whole f c (reverse ws ++ more) ≡ with_pairs (reverse (pairs_of xs ws)) (ahead s more)) (sym is)
    (answered-further f c past a x was s some leaves (reached-further f c past was before)) ws more read

-- with nothing further

append-none : {A : Type 0} (xs : List A) → xs ++ [] ≡ xs
append-none [] = refl
append-none (x ∷ xs) = ap (λ ys. x ∷ ys) (append-none xs)

cut-going : (o : Option Outer) (q : Stmt) (s : Standing) → (going o (record s { asking = Some q }) []).env ≡ None
cut-going None q s = refl
cut-going (Some o) q s = refl

cut-asking : (asking : Option Stmt) (s : Standing) → IsSome asking → (going s.outer (record s { asking = asking }) []).env ≡ None
cut-asking None s some = absurd (cc some)
cut-asking (Some q) s some = cut-going s.outer q s

nothing-left : (h : Handler) (ls : List Left) (v : Env) → ls ≡ [] → (follow_left h ls v []).env ≡ Some v
nothing-left h [] v empty = refl
nothing-left h (l ∷ ls) v empty = absurd (cc empty)

-- a body that is settled, and of which nothing is left, has ended
over-going : (o : Option Outer) (asking : Option Stmt) (ls : List Left) (s : Standing) → asking ≡ None → (settled_by ls o (record s { left = ls; asking = asking; outer = o })).left ≡ []
    → (going o (record s { left = ls; asking = asking; outer = o }) []).env ≡ Some (settled_by ls o (record s { left = ls; asking = asking; outer = o })).env
over-going None None [] s none empty = refl
over-going None None (l ∷ ls) s none empty = absurd (cc empty)
over-going (Some o) None (l ∷ ls) s none empty = absurd (cc empty)
over-going (Some o) None [] s none empty = nothing-left (serves s.error) o.left (after_error o.variable o.env s.env) empty
over-going o (Some q) ls s none empty = absurd (cc none)

pub followed : (f : Made) (c : Context) (es : List Exchange) (s : Standing) → IsReached f c es s → (ws : List What) → AreRead es ws → IsFollowed f c es ws s
followed f c es s reached ws read =
    let ps : List Pair = reverse (pairs_of es ws) in
    let here : reading f c ws ≡ with_pairs ps (ahead s []) =
    ap (λ vs. whole f c vs) (sym (append-none (reverse ws))) ∙ reached-further f c es s reached ws [] read in
    let bare = ahead-bare s in
    record {
      further = λ more. reached-further f c es s reached ws more read;
      pairs = ap (λ r. r.pairs) here ∙ ap (λ qs. ps ++ qs) bare.pairs ∙ append-none ps;
      rest = ap (λ r. r.rest) here ∙ bare.rest;
      cut = λ some. ap (λ r. r.env) here ∙ cut-asking s.asking s some;
      over = λ none empty. ap (λ r. r.env) here ∙ over-going s.outer s.asking s.left s none empty;
    }
