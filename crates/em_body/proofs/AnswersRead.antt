-- What an answer leaves is what the entry that it is read from leaves.
use Rattle.std.proofs.Common.{◌≡◌, true, false, List, [], ◌∷◌, Option, Some, None, refl, sym, ap, ◌∙◌, subst}
use Rattle.std.proofs.lemmas.Bool.{both_ways}
use Rattle.std.specs.Option.{option_map}
use Rattle.em_log.specs.declared.ask.Answer.{Answer}
use Rattle.em_log.specs.declared.ask.Ask.{Ask}
use Rattle.em_log.specs.declared.body.Stmt.{Stmt}
use Rattle.em_log.specs.declared.entry.What.{What}
use Rattle.em_log.specs.declared.fault.Call.{Call}
use Rattle.em_log.specs.declared.fault.Fault.{Fault}
use Rattle.em_log.specs.declared.ids.EoId.{EoId}
use Rattle.em_log.specs.Answers.{answer_of}
use Rattle.em_log.specs.Bodies.{Pair, Behavior, Handler, ask_of, variable, stays, and_then, with_pairs, served, unserved, serves, error_env, follow_all}
use Rattle.em_log.specs.Bodies.{answered as answered_by}
use Rattle.em_log.specs.Expressions.{Env}
use Rattle.em_log.specs.Leads.{call_of}
use Rattle.em_body.specs.Standings.{Made, Left, Outer, Standing, Leaves, unanswered, left_by, replied, answered}
use Rattle.em_body.specs.Followed.{Reads, Refused, Accepted, is_own, follow_left, follow_asking, ahead}
use Rattle.em_body.proofs.Readings.{and_then-pairs, and_then-stays, served-pairs}
use Rattle.em_body.proofs.Remaining.{begun-follow}

abbrev pair : Ask → What → List Pair
pair a w = record { ask = a; what = w } ∷ []

-- accepted asks

-- an entry of the ask's own kind leaves what its answer leaves
own-answered : (handler : Handler) (s : Stmt) (v : Env) (w : What) (ws : List What) → is_own (ask_of s v) w ≡ true
    → answered_by handler (ask_of s v) (variable s) v w ws ≡ with_pairs (pair (ask_of s v) w) (stays (answered s (answer_of w) v) ws)
own-answered handler (Stmt.Say e) v (What.Say n) ws own = refl
own-answered handler (Stmt.Alloc i p e es) v (What.Alloc q x) ws own = refl
own-answered handler (Stmt.Free e) v (What.Free h) ws own = refl
own-answered handler (Stmt.Keep e) v (What.Keep h) ws own = refl
own-answered handler (Stmt.Send e q) v (What.Send h r t s) ws own = refl
own-answered handler (Stmt.SendG e q g) v (What.Send h r t s) ws own = refl
own-answered handler (Stmt.Claim i) v (What.Claim None) ws own = refl
own-answered handler (Stmt.Claim i) v (What.Claim (Some e)) ws own = refl
own-answered handler (Stmt.Dequeue i q) v (What.Dequeue r None) ws own = refl
own-answered handler (Stmt.Dequeue i q) v (What.Dequeue r (Some e)) ws own = refl
own-answered handler (Stmt.Enable q) v (What.Enable r) ws own = refl
own-answered handler (Stmt.Disable q) v (What.Disable r) ws own = refl
own-answered handler Stmt.EndAtomic v (What.EndAtomic rest cells) ws own = refl
own-answered handler Stmt.EndOrdered v What.EndOrdered ws own = refl
own-answered handler Stmt.EndGroup v What.EndGroup ws own = refl
own-answered handler (Stmt.Apply g e ns) v (What.Apply h a n notes) ws own = refl
own-answered handler (Stmt.Increment e) v (What.Increment g n) ws own = refl
own-answered handler (Stmt.Abort g) v (What.Abort h) ws own = refl
own-answered handler (Stmt.Start x ns) v (What.Begin op job notes) ws own = refl
own-answered handler (Stmt.Stop x ns) v (What.Begin op job notes) ws own = refl
own-answered handler (Stmt.Modify g e ns) v (What.Begin op job notes) ws own = refl
own-answered handler s v w ws own = absurd (both_ways false refl own)

-- a fault is no ask's own entry
fault-not_own : (a : Ask) (c : Call) (f : Fault) (scope : Option EoId) → is_own a (What.Fault c f scope) ≡ false
fault-not_own (Ask.Say n) c f scope = refl
fault-not_own a c f scope = refl

own-replied : (s : Stmt) (was : Standing) (w : What) → is_own (ask_of s was.env) w ≡ true
    → replied s (answer_of w) was ≡ record was { env = answered s (answer_of w) was.env; asking = None }
own-replied s was (What.Fault c f scope) own =
    absurd (both_ways (is_own (ask_of s was.env) (What.Fault c f scope)) (fault-not_own (ask_of s was.env) c f scope) own)
own-replied s was (What.Claim None) own = refl
own-replied s was (What.Claim (Some e)) own = refl
own-replied s was (What.Dequeue q None) own = refl
own-replied s was (What.Dequeue q (Some e)) own = refl
own-replied s was w own = refl

-- one body

-- the entry comes first, and what is left goes on from what its answer leaves
answered-level : (h : Handler) (s : Stmt) (v u : Env) (ls : List Left) (w : What) (ws : List What)
    → answered_by h (ask_of s v) (variable s) v w ws ≡ with_pairs (pair (ask_of s v) w) (stays u ws)
    → follow_asking h (Some s) ls v (w ∷ ws) ≡ with_pairs (pair (ask_of s v) w) (follow_left h ls u ws)
answered-level h s v u ls w ws is =
    ap (λ r. and_then r (follow_left h ls)) is
    ∙ and_then-pairs (pair (ask_of s v) w) (stays u ws) (follow_left h ls)
    ∙ ap (with_pairs (pair (ask_of s v) w)) (and_then-stays u ws (follow_left h ls))

-- the same in an error body
answered-inside : (o : Outer) (error : Option (List Stmt)) (s : Stmt) (v u : Env) (ls : List Left) (w : What) (ws : List What)
    → answered_by unserved (ask_of s v) (variable s) v w ws ≡ with_pairs (pair (ask_of s v) w) (stays u ws)
    → and_then (served o.variable o.env (follow_asking unserved (Some s) ls v (w ∷ ws))) (follow_left (serves error) o.left)
    ≡ with_pairs (pair (ask_of s v) w) (and_then (served o.variable o.env (follow_left unserved ls u ws)) (follow_left (serves error) o.left))
answered-inside o error s v u ls w ws is =
    let L : Behavior = follow_left (serves error) o.left in
    let p = pair (ask_of s v) w in
    ap (λ r. and_then (served o.variable o.env r) L) (answered-level unserved s v u ls w ws is)
    ∙ ap (λ r. and_then r L) (served-pairs o.variable o.env p (follow_left unserved ls u ws))
    ∙ and_then-pairs p (served o.variable o.env (follow_left unserved ls u ws)) L

-- a body that stands at this statement's ask
abbrev at : Env → List Left → Option (List Stmt) → Option Outer → Stmt → Standing
at v ls error o s = record { env = v; left = ls; asking = Some s; error = error; outer = o }

own-ahead : (v : Env) (ls : List Left) (error : Option (List Stmt)) (o : Option Outer) (s : Stmt) (w : What) (ws : List What)
    → is_own (ask_of s v) w ≡ true
    → ahead (at v ls error o s) (w ∷ ws)
    ≡ with_pairs (pair (ask_of s v) w) (ahead (record (at v ls error o s) { env = answered s (answer_of w) v; asking = None }) ws)
own-ahead v ls error None s w ws own =
    answered-level (serves error) s v (answered s (answer_of w) v) ls w ws (own-answered (serves error) s v w ws own)
own-ahead v ls error (Some o) s w ws own =
    answered-inside o error s v (answered s (answer_of w) v) ls w ws (own-answered unserved s v w ws own)

-- refused asks

-- an error body begins, and is read before what is left of the body that it serves
serving-ahead : (v : Env) (ls : List Left) (body : List Stmt) (s : Stmt) (f : Fault) (scope : Option EoId) (ws : List What)
    → let w = What.Fault (call_of (ask_of s v)) f scope in
    ahead (at v ls (Some body) None s) (w ∷ ws)
    ≡ with_pairs (pair (ask_of s v) w) (ahead (replied s (Answer.Refused f) (at v ls (Some body) None s)) ws)
serving-ahead v ls body s f scope ws =
    let w : What = What.Fault (call_of (ask_of s v)) f scope in
    let L : Behavior = follow_left (serves (Some body)) ls in
    and_then-pairs (pair (ask_of s v) w) (served (variable s) v (follow_all unserved body (error_env f v) ws)) L
    ∙ ap (λ r. with_pairs (pair (ask_of s v) w) (and_then (served (variable s) v r) L)) (sym (begun-follow unserved body (error_env f v) ws))

refused-ahead : (v : Env) (ls : List Left) (error : Option (List Stmt)) (o : Option Outer) (s : Stmt) (f : Fault) (scope : Option EoId) (ws : List What)
    → let w = What.Fault (call_of (ask_of s v)) f scope in
    ahead (at v ls error o s) (w ∷ ws) ≡ with_pairs (pair (ask_of s v) w) (ahead (replied s (Answer.Refused f) (at v ls error o s)) ws)
refused-ahead v ls (Some body) None s f scope ws = serving-ahead v ls body s f scope ws
refused-ahead v ls None None s f scope ws = answered-level (serves None) s v (answered s (Answer.Refused f) v) ls _ ws refl
refused-ahead v ls None (Some o) s f scope ws = answered-inside o None s v (answered s (Answer.Refused f) v) ls _ ws refl
refused-ahead v ls (Some body) (Some o) s f scope ws = answered-inside o (Some body) s v (answered s (Answer.Refused f) v) ls _ ws refl

-- any ask

read-ahead : (v : Env) (ls : List Left) (error : Option (List Stmt)) (o : Option Outer) (s : Stmt) (x : Answer) (w : What) (ws : List What)
    → Reads (ask_of s v) x w
    → ahead (at v ls error o s) (w ∷ ws) ≡ with_pairs (pair (ask_of s v) w) (ahead (replied s x (at v ls error o s)) ws)
read-ahead v ls error o s x w ws (Refused f scope is answer) =
    let was : Standing = at v ls error o s in
    subst (λ u. ahead was (u ∷ ws) ≡ with_pairs (pair (ask_of s v) u) (ahead (replied s x was) ws)) (sym is)
    (subst (λ y. ahead was (What.Fault (call_of (ask_of s v)) f scope ∷ ws)
    ≡ with_pairs (pair (ask_of s v) (What.Fault (call_of (ask_of s v)) f scope)) (ahead (replied s y was) ws)) (sym answer)
    (refused-ahead v ls error o s f scope ws))
read-ahead v ls error o s x w ws (Accepted own answer) =
    let was : Standing = at v ls error o s in
    own-ahead v ls error o s w ws own
    ∙ ap (λ t. with_pairs (pair (ask_of s v) w) (ahead t ws)) (sym (own-replied s was w own))
    ∙ ap (λ y. with_pairs (pair (ask_of s v) w) (ahead (replied s y was) ws)) (sym answer)

stands : (was : Standing) (s : Stmt) → was.asking ≡ Some s → at was.env was.left was.error was.outer s ≡ was
stands was s asks = ap (λ o. record was { asking = o }) (sym asks)

reply-ahead : (was : Standing) (s : Stmt) (x : Answer) (w : What) (ws : List What) → was.asking ≡ Some s → Reads (ask_of s was.env) x w
    → ahead was (w ∷ ws) ≡ with_pairs (pair (ask_of s was.env) w) (ahead (replied s x was) ws)
reply-ahead was s x w ws asks reads =
    subst (λ (t : Standing). ahead t (w ∷ ws) ≡ with_pairs (pair (ask_of s t.env) w) (ahead (replied s x t) ws)) (stands was s asks)
    (read-ahead was.env was.left was.error was.outer s x w ws reads)

-- the statement whose ask is not answered yet
record Asking (o : Option Stmt) (v : Env) (a : Ask) : Type 0 where
  statement : Stmt
  is : o ≡ Some statement
  ask : ask_of statement v ≡ a

asking : (o : Option Stmt) (v : Env) (a : Ask) → option_map (λ q. ask_of q v) o ≡ Some a → Asking o v a
asking None v a is = absurd (cc is)
asking (Some s) v a is = record { statement = s; is = refl; ask = cc is }

-- an answer takes its entry from those that come, and leaves what is ahead after it
pub leaves-ahead : (f : Made) (was : Standing) (a : Ask) (x : Answer) (now : Standing) (w : What) (ws : List What) → unanswered was ≡ Some a
    → Leaves f was x now → Reads a x w → ahead was (w ∷ ws) ≡ with_pairs (pair a w) (ahead now ws)
leaves-ahead f was a x now w ws some leaves reads =
    let q = asking was.asking was.env a some in
    let reads-it : Reads (ask_of q.statement was.env) x w = subst (λ b. Reads b x w) (sym q.ask) reads in
    reply-ahead was q.statement x w ws q.is reads-it
    ∙ ap (λ b. with_pairs (pair b w) (ahead (replied q.statement x was) ws)) q.ask
    ∙ ap (λ o. with_pairs (pair a w) (ahead (left_by o x was) ws)) (sym q.is)
    ∙ ap (λ t. with_pairs (pair a w) (ahead t ws)) (sym leaves)
