-- The bodies of a well-formed graph.
use Rattle.std.proofs.Common.{◌≡◌, ℕ, zero, suc, ◌&&◌, Bool, true, List, [], ◌∷◌, length, Option, Some, None, refl, subst, arith, IsTrue}
use Rattle.std.proofs.lemmas.Bool.{and_parts}
use Rattle.std.specs.Prelude.{nat_le, nat_lt, slice_get}
use Rattle.std.specs.Option.{option_and_then, option_map_or, option_or}
use Rattle.std.specs.List.{list_all}
use Rattle.em_log.specs.declared.ask.Context.{Context}
use Rattle.em_log.specs.declared.body.Stmt.{Stmt}
use Rattle.em_log.specs.declared.graph.Config.{Config}
use Rattle.em_log.specs.declared.graph.EoDecl.{EoDecl}
use Rattle.em_log.specs.Legal.{body_for}
use Rattle.em_log.specs.Weights.{weight_of, steps_of}
use Rattle.em_log.specs.WellFormed.{Where, Boot, Receive, Start, OtherOfObject, is_statement, is_plain, is_body, are_bodies, is_error_body, are_given, is_expression, are_expressions, is_variable, are_note_expressions, is_group_number, is_note, may_begin, IsWellFormed}
use Rattle.em_body.specs.Standings.{entered, is_small, body_of, error_body_of, entry_of}
use Rattle.em_body.specs.Runs.{AreFew}
use Rattle.em_body.proofs.NestedBlocks.{entered-nested, nested-less}

-- the statements of a script have no more words and notes than their asks

few-notes : (g : Config) (ns : List _) → IsTrue (are_note_expressions g ns) → IsTrue (nat_le (length ns) 8)
few-notes g ns h = (and_parts (nat_le (length ns) 8) (list_all (is_note g) ns) h).0

plain-small : (g : Config) (w : Where) (s : Stmt) → IsTrue (is_plain g w s) → IsTrue (is_small s)
plain-small g w (Stmt.Alloc v p e es) h =
    let a = and_parts (is_variable v && nat_lt p.0 (length g.pools) && is_expression e && nat_le (length es) 16) (are_expressions es) h in
    (and_parts (is_variable v && nat_lt p.0 (length g.pools) && is_expression e) (nat_le (length es) 16) a.0).1
plain-small g w (Stmt.Apply n e notes) h =
    few-notes g notes (and_parts (nat_lt n.0 (length g.egroups) && is_expression e) (are_note_expressions g notes) h).1
plain-small g w (Stmt.Start x notes) h =
    few-notes g notes (and_parts (may_begin w && nat_lt x.0 (length g.eos)) (are_note_expressions g notes) h).1
plain-small g w (Stmt.Stop x notes) h =
    few-notes g notes (and_parts (may_begin w && nat_lt x.0 (length g.eos)) (are_note_expressions g notes) h).1
plain-small g w (Stmt.Modify n e notes) h =
    few-notes g notes (and_parts (may_begin w && is_group_number g n && is_expression e) (are_note_expressions g notes) h).1
plain-small g w s h = refl

pub small : (g : Config) (w : Where) (d : ℕ) (s : Stmt) → IsTrue (is_statement g w d s) → IsTrue (is_small s)
small g w d (Stmt.If' t _ first _ second b) h = refl
small g w d (Stmt.Repeat' n _ block) h = refl
small g w zero s h = plain-small g w s h
small g w (suc d) s h = plain-small g w s h

-- the body of a context is one of the graph's, or empty

-- where the body of a context stands
abbrev pub place_of : Context → Where
place_of Context.Boot = Boot
place_of (Context.Receive r) = Receive
place_of (Context.GlobalStart op x) = Start
place_of c = OtherOfObject

-- a body in this place that this error body serves, if there is one
abbrev pub IsServed : Config → Where → Option (List Stmt) → List Stmt → Type 0
IsServed g w error body = IsTrue (is_body g w error body)

pub all-get : {X : Type 0} (p : X → Bool) (xs : List X) (i : ℕ) (x : X) → list_all p xs ≡ true → slice_get xs i ≡ Some x → p x ≡ true
all-get p [] i x all is = absurd (cc is)
all-get p (y ∷ ys) zero x all is = let e : y ≡ x = cc is in subst (λ z. p z ≡ true) e (and_parts (p y) (list_all p ys) all).0
all-get p (y ∷ ys) (suc i) x all is = all-get p ys i x (and_parts (p y) (list_all p ys) all).1 is

pub record ServesAll (g : Config) (d : EoDecl) (error : Option (List Stmt)) : Type 0 where
  pub receive : IsServed g Receive error d.receive
  pub start : IsServed g Start error d.start
  pub stop : IsServed g OtherOfObject error d.stop
  pub lstart : IsServed g OtherOfObject error d.lstart
  pub lstop : IsServed g OtherOfObject error d.lstop
  pub own : IsTrue (is_error_body g OtherOfObject d.error)

pub object-served : (g : Config) (d : EoDecl) → IsTrue (are_bodies g d) → ServesAll g d (option_or d.error g.error)
object-served g d h =
    let error : Option (List Stmt) = option_or d.error g.error in
    let a = and_parts (is_body g Receive error d.receive && is_body g Start error d.start && is_body g OtherOfObject error d.stop
    && is_body g OtherOfObject error d.lstart && is_body g OtherOfObject error d.lstop && is_error_body g OtherOfObject d.error) (are_given d) h in
    let b = and_parts (is_body g Receive error d.receive && is_body g Start error d.start && is_body g OtherOfObject error d.stop
    && is_body g OtherOfObject error d.lstart && is_body g OtherOfObject error d.lstop) (is_error_body g OtherOfObject d.error) a.0 in
    let c = and_parts (is_body g Receive error d.receive && is_body g Start error d.start && is_body g OtherOfObject error d.stop
    && is_body g OtherOfObject error d.lstart) (is_body g OtherOfObject error d.lstop) b.0 in
    let e = and_parts (is_body g Receive error d.receive && is_body g Start error d.start && is_body g OtherOfObject error d.stop)
    (is_body g OtherOfObject error d.lstart) c.0 in
    let f = and_parts (is_body g Receive error d.receive && is_body g Start error d.start) (is_body g OtherOfObject error d.stop) e.0 in
    let h = and_parts (is_body g Receive error d.receive) (is_body g Start error d.start) f.0 in
    record { receive = h.0; start = h.1; stop = f.1; lstart = e.1; lstop = c.1; own = b.1 }

for-served : (g : Config) (d : EoDecl) (error : Option (List Stmt)) → ServesAll g d error → (c : Context)
    → IsServed g (place_of c) error (body_for (Some (entry_of c)) d)
for-served g d error all Context.Boot = refl
for-served g d error all (Context.Receive r) = all.receive
for-served g d error all (Context.GlobalStart op x) = all.start
for-served g d error all (Context.LocalStart op x) = all.lstart
for-served g d error all (Context.LocalStop op x) = all.lstop
for-served g d error all (Context.GlobalStop op x) = all.stop

declared-served : (g : Config) → IsWellFormed g → (i : ℕ) (c : Context) (o : Option EoDecl) → slice_get g.eos i ≡ o
    → IsServed g (place_of c) (option_or (option_and_then (λ d. d.error) o) g.error) (option_map_or (body_for (Some (entry_of c))) o [])
declared-served g well i c None is = refl
declared-served g well i c (Some d) is =
    for-served g d (option_or d.error g.error) (object-served g d (all-get (are_bodies g) g.eos i d well.eos is)) c

-- the body of a context is served by the context's error body
pub body-served : (g : Config) → IsWellFormed g → (c : Context) → IsServed g (place_of c) (error_body_of g c) (body_of g c)
body-served g well Context.Boot = well.boot
body-served g well (Context.Receive r) = declared-served g well r.eo.0 (Context.Receive r) _ refl
body-served g well (Context.GlobalStart op x) = declared-served g well x.0 (Context.GlobalStart op x) _ refl
body-served g well (Context.LocalStart op x) = declared-served g well x.0 (Context.LocalStart op x) _ refl
body-served g well (Context.LocalStop op x) = declared-served g well x.0 (Context.LocalStop op x) _ refl
body-served g well (Context.GlobalStop op x) = declared-served g well x.0 (Context.GlobalStop op x) _ refl

-- the statements of such a body

pub served-statements : (g : Config) (w : Where) (error : Option (List Stmt)) (body : List Stmt) → IsServed g w error body
    → IsTrue (list_all (is_statement g w 16) body)
served-statements g w error body fits =
    let a = and_parts (list_all (is_statement g w 16) body && nat_le (weight_of (option_map_or (weight_of 0) error 0) body) 256)
    (nat_le (steps_of (option_map_or (steps_of 0) error 0) body) 65536) fits in
    (and_parts (list_all (is_statement g w 16) body) (nat_le (weight_of (option_map_or (weight_of 0) error 0) body) 256) a.0).0

pub body-statements : (g : Config) → IsWellFormed g → (c : Context) → IsTrue (list_all (is_statement g (place_of c) 16) (body_of g c))
body-statements g well c = served-statements g (place_of c) (error_body_of g c) (body_of g c) (body-served g well c)

-- what is left of a body that begins is nested no deeper than a script's
pub few-of : (g : Config) (w : Where) (body : List Stmt) → IsTrue (list_all (is_statement g w 16) body) → AreFew g (entered body 1 [])
few-of g w body fits = (w, nested-less g w 16 0 _ (omega arith) (entered-nested g w 16 body 1 [] fits (omega arith)))
