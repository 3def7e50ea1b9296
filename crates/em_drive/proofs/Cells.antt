-- The cells of a context: its body has them exactly while its core holds an atomic context.
use Rattle.std.proofs.Common.{◌≡◌, ℕ, Bool, true, false, List, [], ◌∷◌, Option, Some, None, refl, sym, ap, ◌∙◌, is_some, IsTrue}
use Rattle.std.specs.Option.{option_map, option_and_then, option_map_or}
use Rattle.em_log.specs.declared.ask.Answer.{Answer}
use Rattle.em_log.specs.declared.ask.Ask.{Ask}
use Rattle.em_log.specs.declared.ask.Context.{Context}
use Rattle.em_log.specs.declared.body.Stmt.{Stmt}
use Rattle.em_log.specs.declared.declarations.Declarations.{Declarations}
use Rattle.em_log.specs.declared.entry.Event.{Event}
use Rattle.em_log.specs.declared.entry.What.{What}
use Rattle.em_log.specs.declared.fault.Fault.{Fault}
use Rattle.em_log.specs.declared.work.Move.{Move}
use Rattle.em_log.specs.Answers.{answer_of}
use Rattle.em_log.specs.Atomic.{has_open_after, has_open_take, received_atomic}
use Rattle.em_log.specs.Bodies.{ask_of, set_in, variable}
use Rattle.em_log.specs.Contexts.{context, context_after, received_queue}
use Rattle.em_log.specs.Declarations.{atomic_of}
use Rattle.em_log.specs.Expressions.{Env}
use Rattle.em_log.specs.History.{Past, entry_by, entries_by, onto}
use Rattle.em_log.specs.Arrivals.{Item}
use Rattle.em_log.specs.Leads.{lead, own, refusal, refused_or, call_of}
use Rattle.em_log.specs.Places.{taken}
use Rattle.em_log.specs.Works.{Exchange, Reached, is_end}
use Rattle.em_core.specs.Pieces.{AreTail, is_tail}
use Rattle.em_core.proofs.Histories as histories
use Rattle.em_cores.proofs.Holding.{has_hold}
use Rattle.em_body.specs.Followed.{IsReached}
use Rattle.em_body.specs.Standings.{Made, Outer, Standing, Does, Sets, Branches, Repeats, Writes, Asks, Steps, Ends, Goes, Moves, after_first, settled, minted, done, answered, refused, replied, left_by}
use Rattle.em_body.proofs.Settled.{settled-cells}
use Rattle.em_drive.specs.Readings.{keeps_cells, has_cells}

-- in the body

abbrev has_some : Env → Bool
has_some v = is_some v.cells

set-cells : (i : Option ℕ) (n : ℕ) (v : Env) → has_some (set_in i n v) ≡ has_some v
set-cells None n v = refl
set-cells (Some i) n v = refl

minted-cells : (s : Stmt) (e : Event) (v : Env) → has_some (minted s e v) ≡ has_some v
minted-cells (Stmt.Alloc i p a ws) e v = refl
minted-cells s e v = set-cells (variable s) e.handle.0 (record v { event = record { kind = e.kind; words = e.words } })

abbrev is_done : Answer → Bool
is_done Answer.Done = true
is_done x = false

keeps-other : (a : Ask) (x : Answer) (was : Bool) → is_done x ≡ false → keeps_cells a x was ≡ was
keeps-other (Ask.EndAtomic cells) Answer.Done was other = absurd cc
keeps-other a x was other = refl

done-cells : (s : Stmt) (v : Env) → has_some (done s v) ≡ keeps_cells (ask_of s v) Answer.Done (has_some v)
done-cells Stmt.EndAtomic v = refl
done-cells s v = refl

answered-cells : (s : Stmt) (x : Answer) (v : Env) → has_some (answered s x v) ≡ keeps_cells (ask_of s v) x (has_some v)
answered-cells s (Answer.Refused f) v = set-cells (variable s) 0 (record v { ok = 0 }) ∙ sym (keeps-other (ask_of s v) (Answer.Refused f) (has_some v) refl)
answered-cells s (Answer.Minted e) v = minted-cells s e v ∙ sym (keeps-other (ask_of s v) (Answer.Minted e) (has_some v) refl)
answered-cells s Answer.Nothing v = set-cells (variable s) 0 v ∙ sym (keeps-other (ask_of s v) Answer.Nothing (has_some v) refl)
answered-cells s Answer.Done v = done-cells s v
answered-cells s x v = sym (keeps-other (ask_of s v) x (has_some v) refl)

does-cells : (s : Stmt) (was : Standing) (m : Move) (now : Standing) → Does s was m now → has_some now.env ≡ has_some was.env
does-cells s was m now (Sets i e is silent new) = ap (λ t. has_some t.env) new
does-cells s was m now (Branches t first second has_else is silent new) = ap (λ t. has_some t.env) new
does-cells s was m now (Repeats n block is silent new) = ap (λ t. has_some t.env) new
does-cells s was m now (Writes c e cells is some silent new) = ap (λ t. has_some t.env) new ∙ sym (ap (λ (o : Option (List ℕ)). is_some o) some)
does-cells s was m now (Asks does is new) = ap (λ t. has_some t.env) new

steps-cells : (was : Standing) (m : Move) (now : Standing) → Steps was m now → has_some now.env ≡ has_some was.env
steps-cells was m now (Ends none empty is same) = ap (λ t. has_some t.env) same
steps-cells was m now (Goes s none first does) = does-cells s (record was { left = after_first was.left }) m now does

moves-cells : (f : Made) (was : Standing) (m : Move) (now : Standing) → Moves f was m now → has_some now.env ≡ has_some was.env
moves-cells f was m now moves =
    steps-cells (settled was) m now moves ∙ ap (λ (o : Option (List ℕ)). is_some o) (settled-cells was)

-- an error body begins with the cells
refused-cells : (error : Option (List Stmt)) (outer : Option Outer) (s : Stmt) (f : Fault) (was : Standing)
    → has_some (refused error outer s f was).env ≡ has_some was.env
refused-cells (Some body) None s f was = refl
refused-cells (Some body) (Some o) s f was = set-cells (variable s) 0 (record was.env { ok = 0 })
refused-cells None outer s f was = set-cells (variable s) 0 (record was.env { ok = 0 })

replied-cells : (s : Stmt) (x : Answer) (was : Standing) → has_some (replied s x was).env ≡ keeps_cells (ask_of s was.env) x (has_some was.env)
replied-cells s (Answer.Refused f) was =
    refused-cells was.error was.outer s f was ∙ sym (keeps-other (ask_of s was.env) (Answer.Refused f) (has_some was.env) refl)
replied-cells s x was = answered-cells s x was.env

left-cells : (o : Option Stmt) (a : Ask) (x : Answer) (was : Standing) → option_map (λ q. ask_of q was.env) o ≡ Some a
    → has_some (left_by o x was).env ≡ keeps_cells a x (has_some was.env)
left-cells None a x was is = absurd cc
left-cells (Some s) a x was is =
    let same : ask_of s was.env ≡ a = cc is in replied-cells s x was ∙ ap (λ (b : Ask). keeps_cells b x (has_some was.env)) same

-- the environment of each state that a context reaches has cells exactly where its asks have left them
pub reached-cells : (f : Made) (context : Context) (es : List Exchange) (s : Standing) → IsReached f context es s → has_some s.env ≡ has_cells f.core context es
reached-cells f context es s (Reached.Begun _ _ empty begins) =
    ap (λ t. has_some t.env) begins ∙ sym (ap (has_cells f.core context) empty)
reached-cells f context es s (Reached.Silent _ was _ before moves) = moves-cells f was Move.Silent s moves ∙ reached-cells f context es was before
reached-cells f context es s (Reached.Asked _ was _ a before moves) = moves-cells f was (Move.Ask a) s moves ∙ reached-cells f context es was before
reached-cells f context es s (Reached.Answered _ past was _ a x before some fits leaves is) =
    ap (λ t. has_some t.env) leaves ∙ left-cells was.asking a x was some
    ∙ ap (keeps_cells a x) (reached-cells f context past was before) ∙ sym (ap (has_cells f.core context) is)

-- in the history

keeps-none : (a : Ask) (x : Answer) → keeps_cells a x false ≡ false
keeps-none (Ask.EndAtomic cells) Answer.Done = refl
keeps-none a x = refl

-- an entry of core c that neither begins nor ends a context changes its open takes so
entry-hold : (k : Declarations) (past : Past) (c : ℕ) (w : What) (f : Bool → Bool) → context_after w (context past c) ≡ context past c → f false ≡ false
    → ((a : ℕ) (xs : List Item) (was : Bool) → has_open_after k a xs w was ≡ f was) → has_hold k (entry_by c w ∷ past) c ≡ f (has_hold k past c)
entry-hold k past c w f keeps none by =
    let received : received_atomic k (entry_by c w ∷ past) c ≡ received_atomic k past c =
    ap (λ (o : Option What). option_and_then (atomic_of k) (received_queue o)) (histories.entry-context c w past ∙ keeps) in
    ap (λ (o : Option ℕ). option_map_or (λ a. has_open_take k (entry_by c w ∷ past) a c) o false) received ∙ by_atomic (received_atomic k past c)
  where
    by_atomic : (o : Option ℕ)
        → option_map_or (λ a. has_open_take k (entry_by c w ∷ past) a c) o false ≡ f (option_map_or (λ a. has_open_take k past a c) o false)
    by_atomic None = sym none
    by_atomic (Some a) = histories.own c _ _ ∙ by a (taken k past c) (has_open_take k past a c)

tail-opens : (k : Declarations) (a : ℕ) (xs : List Item) (w : What) (was : Bool) → IsTrue (is_tail w) → has_open_after k a xs w was ≡ was
tail-opens k a xs (What.Take q n t) was is = absurd cc
tail-opens k a xs (What.Untake q n) was is = absurd cc
tail-opens k a xs (What.EndAtomic rest cells) was is = absurd cc
tail-opens k a xs (What.End lost cells) was is = absurd cc
tail-opens k a xs w was is = refl

tail-keeps : (w : What) (was : Option What) → IsTrue (is_tail w) → context_after w was ≡ was
tail-keeps (What.Enter b) was is = absurd cc
tail-keeps (What.Start q e s) was is = absurd cc
tail-keeps (What.End lost cells) was is = absurd cc
tail-keeps w was is = refl

pub tail-hold : (k : Declarations) (c : ℕ) (ws : List What) (past : Past) → AreTail ws → has_hold k (onto (entries_by c ws) past) c ≡ has_hold k past c
tail-hold k c [] past all = refl
tail-hold k c (w ∷ ws) past all =
    tail-hold k c ws (entry_by c w ∷ past) all.1
    ∙ entry-hold k past c w (λ b. b) (tail-keeps w (context past c) all.0) refl (λ a xs was. tail-opens k a xs w was all.0)

own-opens : (k : Declarations) (past : Past) (c : ℕ) (a : Ask) (at : ℕ) (xs : List Item) (was : Bool) → is_end a ≡ false → refusal k past c a ≡ None
    → has_open_after k at xs (own k past c a) was ≡ keeps_cells a (answer_of (own k past c a)) was
own-opens k past c (Ask.End cells) at xs was mid none = absurd cc
own-opens k past c a at xs was mid none = refl

lead-opens : (k : Declarations) (past : Past) (c : ℕ) (a : Ask) (at : ℕ) (xs : List Item) (was : Bool) → is_end a ≡ false
    → has_open_after k at xs (lead k past c a) was ≡ keeps_cells a (answer_of (lead k past c a)) was
lead-opens k past c a at xs was mid = by_refusal (refusal k past c a) refl
  where
    by_refusal : (o : Option Fault) → refusal k past c a ≡ o
        → has_open_after k at xs (refused_or k past c (call_of a) o (own k past c a)) was
        ≡ keeps_cells a (answer_of (refused_or k past c (call_of a) o (own k past c a))) was
    by_refusal None is = own-opens k past c a at xs was mid is
    by_refusal (Some f) is = sym (keeps-other a (Answer.Refused f) was refl)

-- an ask in the midst of a context leaves its core's hold as it leaves the cells
pub lead-hold : (k : Declarations) (past : Past) (c : ℕ) (a : Ask) → is_end a ≡ false
    → context_after (lead k past c a) (context past c) ≡ context past c
    → has_hold k (entry_by c (lead k past c a) ∷ past) c ≡ keeps_cells a (answer_of (lead k past c a)) (has_hold k past c)
lead-hold k past c a mid keeps =
    entry-hold k past c (lead k past c a) (keeps_cells a (answer_of (lead k past c a))) keeps (keeps-none a (answer_of (lead k past c a)))
    (λ at xs was. lead-opens k past c a at xs was mid)
