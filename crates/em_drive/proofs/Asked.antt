-- What holds after an ask in the midst of a context.
use Rattle.std.proofs.Common.{◌≡◌, ℕ, ◌+◌, ◌≤◌, false, List, [], ◌∷◌, ◌++◌, reverse, Option, Some, None, refl, sym, ap, ◌∙◌, subst, arith}
use Rattle.std.specs.Prelude.{IsTrue}
use Rattle.std.specs.List.{sum_by}
use Rattle.std.proofs.lemmas.List.{map-append, reverse-append}
use Rattle.std.proofs.lemmas.List.Sums.{sum_by-append, sum_by-cons}
use Rattle.em_log.specs.declared.declarations.Declarations.{Declarations}
use Rattle.em_log.specs.declared.graph.Config.{Config}
use Rattle.em_log.specs.declared.ask.Answer.{Answer}
use Rattle.em_log.specs.declared.ask.Ask.{Ask}
use Rattle.em_log.specs.declared.ask.Context.{Context}
use Rattle.em_log.specs.declared.entry.Entry.{Entry}
use Rattle.em_log.specs.declared.entry.What.{What}
use Rattle.em_log.specs.declared.fault.Fault.{Fault}
use Rattle.em_log.specs.declared.ids.Limits.{Limits}
use Rattle.em_log.specs.Allowance.{cost_of_ask, cost_of_lead}
use Rattle.em_log.specs.Answers.{answer_of, block}
use Rattle.em_log.specs.Bodies.{Pair}
use Rattle.em_log.specs.Contexts as log
use Rattle.em_log.specs.Contexts.{context_after}
use Rattle.em_log.specs.Declarations.{declarations_of}
use Rattle.em_log.specs.Expressions.{Env}
use Rattle.em_log.specs.History.{Past, entry_by, entries_by, onto}
use Rattle.em_log.specs.Lawful.{AllAllowed, due, due_after}
use Rattle.em_log.specs.Leads.{lead, own, refusal, refused_or, call_of}
use Rattle.em_log.specs.Legal.{Lead, lead_here, leads_after, leads, whats, AreLeads, opening, opening_after, EndFollows, EndedFollow}
use Rattle.em_log.specs.Tails.{tail, tail_of}
use Rattle.em_log.specs.Works.{Exchange, is_end}
use Rattle.em_core.specs.Pieces.{Piece, AreTail, is_tail}
use Rattle.em_core.specs.Steps.{GrowsByAsk}
use Rattle.em_core.proofs.Histories as histories
use Rattle.em_core.proofs.Leads.{lead-shows}
use Rattle.em_core.proofs.Parts.{lead-grows}
use Rattle.em_cores.proofs.Holding.{has_hold, holds-own}
use Rattle.em_cores.proofs.Objects.{begun-object-stays}
use Rattle.em_cores.proofs.Onto.{allowed-before}
use Rattle.em_body.specs.Followed.{pairs_of}
use Rattle.em_body.proofs.LeadsRead.{lead-read}
use Rattle.em_drive.specs.Readings.{IsReading, keeps_cells}
use Rattle.em_drive.proofs.Cells.{lead-hold, tail-hold}

-- entries in the midst of a context

-- the entry neither begins nor ends a context
abbrev pub Keeps : What → Type 0
Keeps w = (was : Option What) → context_after w was ≡ was

abbrev pub AllKeep : List What → Type 0
AllKeep [] = Unit {0}
AllKeep (w ∷ ws) = Keeps w × AllKeep ws

tail_entry-keeps : (w : What) → IsTrue (is_tail w) → Keeps w
tail_entry-keeps (What.Enter b) is was = absurd cc
tail_entry-keeps (What.Start q e s) is was = absurd cc
tail_entry-keeps (What.End lost cells) is was = absurd cc
tail_entry-keeps w is was = refl

pub tail-keeps : (ws : List What) → AreTail ws → AllKeep ws
tail-keeps [] all = tt
tail-keeps (w ∷ ws) all = (tail_entry-keeps w all.0, tail-keeps ws all.1)

abbrev tail_first : List Piece → List What
tail_first (Piece.Answered w ws a x ∷ m) = ws
tail_first m = []

grown-tail : (c : ℕ) (a : Ask) (x : Answer) (w : What) (ws : List What) → GrowsByAsk c a x [] (Piece.Answered w ws a x ∷ []) → AreTail ws
grown-tail c a x w ws grows = subst AreTail (sym (ap tail_first grows.is)) grows.follow

-- what follows the entry of an ask
pub follows-tail : (k : Declarations) (past : Past) (c : ℕ) (a : Ask)
    → AreTail (tail_of k past (entry_by c (lead k past c a) ∷ past) c (lead k past c a))
follows-tail k past c a =
    let w = lead k past c a in
    grown-tail c a (answer_of w) w (tail_of k past (entry_by c w ∷ past) c w) (lead-grows k past c a [])

pub lead-keeps : (k : Declarations) (past : Past) (c : ℕ) (a : Ask) → is_end a ≡ false → Keeps (lead k past c a)
lead-keeps k past c a mid =
    (lead-shows c a (answer_of (lead k past c a)) (lead k past c a) mid (record { shapes = k; past = past; is = refl; answer = refl })).context

pub keeps-context : (c : ℕ) (ws : List What) (past : Past) → AllKeep ws → log.context (onto (entries_by c ws) past) c ≡ log.context past c
keeps-context c [] past all = refl
keeps-context c (w ∷ ws) past all =
    keeps-context c ws (entry_by c w ∷ past) all.1 ∙ histories.entry-context c w past ∙ all.0 (log.context past c)

entry-opening : (k : Declarations) (now : Past) (c : ℕ) (w : What) (v : Env) → Keeps w → opening_after k now c w v ≡ v
entry-opening k now c (What.Enter b) v keeps = absurd (cc (keeps None))
entry-opening k now c (What.Start q e s) v keeps = absurd (cc (keeps None))
entry-opening k now c w v keeps = refl

keeps-opening : (k : Declarations) (c : ℕ) (ws : List What) (past : Past) → AllKeep ws
    → opening k (onto (entries_by c ws) past) c ≡ opening k past c
keeps-opening k c [] past all = refl
keeps-opening k c (w ∷ ws) past all =
    keeps-opening k c ws (entry_by c w ∷ past) all.1 ∙ histories.own c _ _
    ∙ entry-opening k (entry_by c w ∷ past) c w (opening k past c) all.0

-- no context has ended by them
entry-ended : (g : Config) (past : Past) (c : ℕ) (w : What) → Keeps w → EndFollows g past c w
entry-ended g past c (What.End lost cells) keeps = absurd (cc (keeps (Some (What.End lost cells))))
entry-ended g past c w keeps = tt

pub keeps-ended : (g : Config) (c : ℕ) (ws : List What) (past : Past) → AllKeep ws → EndedFollow g past
    → EndedFollow g (onto (entries_by c ws) past)
keeps-ended g c [] past all ended = ended
keeps-ended g c (w ∷ ws) past all ended =
    keeps-ended g c ws (entry_by c w ∷ past) all.1 (entry-ended g past c w all.0, ended)

-- leads

entry-leads : (k : Declarations) (past : Past) (b w : What) (ls : List Lead) → Keeps w
    → leads_after k past (Some b) w ls ≡ lead_here (due k past) past w ls
entry-leads k past b (What.Enter x) ls keeps = absurd (cc (keeps None))
entry-leads k past b (What.Start q e s) ls keeps = absurd (cc (keeps None))
entry-leads k past b (What.End lost cells) ls keeps = absurd (cc (keeps (Some b)))
entry-leads k past b w ls keeps = refl

own-leads : (k : Declarations) (past : Past) (c : ℕ) (b w : What) (ds : List Entry) → Keeps w → log.context past c ≡ Some b
    → due k past ≡ ds → leads k (entry_by c w ∷ past) c ≡ lead_here ds past w (leads k past c)
own-leads k past c b w ds keeps is now =
    histories.own c _ _ ∙ ap (λ o. leads_after k past o w (leads k past c)) is ∙ entry-leads k past b w (leads k past c) keeps
    ∙ ap (λ es. lead_here es past w (leads k past c)) now

-- what follows adds no lead
due-leads : (k : Declarations) (c : ℕ) (b : What) (ws : List What) (past : Past) → AllKeep ws → log.context past c ≡ Some b
    → due k past ≡ entries_by c ws → leads k (onto (entries_by c ws) past) c ≡ leads k past c
due-leads k c b [] past all is now = refl
due-leads k c b (w ∷ ws) past all is now =
    let e = entry_by c w in
    due-leads k c b ws (e ∷ past) all.1 (histories.entry-context c w past ∙ all.0 (log.context past c) ∙ is)
    (ap (λ ds. due_after ds (tail k past e)) now)
    ∙ own-leads k past c b w (e ∷ entries_by c ws) all.0 is now

-- a whole ask adds one
pub asked-leads : (k : Declarations) (past : Past) (c : ℕ) (b : What) (a : Ask) → is_end a ≡ false → due k past ≡ []
    → log.context past c ≡ Some b → let w = lead k past c a in
    leads k (block k past (entry_by c w)) c ≡ leads k past c ++ record { before = past; what = w } ∷ []
asked-leads k past c b a mid whole is =
    let w = lead k past c a in
    let e = entry_by c w in
    let ws = tail_of k past (e ∷ past) c w in
    let keeps = lead-keeps k past c a mid in
    due-leads k c b ws (e ∷ past) (tail-keeps ws (follows-tail k past c a))
    (histories.entry-context c w past ∙ keeps (log.context past c) ∙ is) (ap (λ ds. due_after ds (tail k past e)) whole)
    ∙ own-leads k past c b w [] keeps is whole

are_leads-add : (k : Declarations) (c : ℕ) (p : Pair) (l : Lead) (ps : List Pair) (ls : List Lead) → AreLeads k c ps ls
    → l.what ≡ lead k l.before c p.ask → AreLeads k c (ps ++ p ∷ []) (ls ++ l ∷ [])
are_leads-add k c p l [] [] all is = (is, tt)
are_leads-add k c p l (q ∷ ps) (m ∷ ls) all is = (all.0, are_leads-add k c p l ps ls all.1 is)
are_leads-add k c p l [] (m ∷ ls) all is = absurd all
are_leads-add k c p l (q ∷ ps) [] all is = absurd all

-- costs

ask-cost : (a : Ask) → is_end a ≡ false → 1 ≤ cost_of_ask a
ask-cost (Ask.Send w q g) mid = omega arith
ask-cost (Ask.Apply g n notes) mid = omega arith
ask-cost (Ask.Start x notes) mid = omega arith
ask-cost (Ask.Stop x notes) mid = omega arith
ask-cost (Ask.Modify g m notes) mid = omega arith
ask-cost (Ask.End cells) mid = absurd cc
ask-cost a mid = omega arith

own-cost : (k : Declarations) (past : Past) (c : ℕ) (a : Ask) → cost_of_lead (own k past c a) ≤ cost_of_ask a
own-cost k past c (Ask.Send w q g) = omega arith
own-cost k past c (Ask.Apply g n notes) = omega arith
own-cost k past c (Ask.Start x notes) = omega arith
own-cost k past c (Ask.Stop x notes) = omega arith
own-cost k past c (Ask.Modify g m notes) = omega arith
own-cost k past c (Ask.End cells) = omega arith
own-cost k past c a = omega arith

refused-cost : (k : Declarations) (past : Past) (c : ℕ) (a : Ask) (r : Option Fault) → is_end a ≡ false
    → cost_of_lead (refused_or k past c (call_of a) r (own k past c a)) ≤ cost_of_ask a
refused-cost k past c a None mid = own-cost k past c a
refused-cost k past c a (Some f) mid = ask-cost a mid

-- the entry of an ask costs no more than the ask
pub lead-cost : (k : Declarations) (past : Past) (c : ℕ) (a : Ask) → is_end a ≡ false → cost_of_lead (lead k past c a) ≤ cost_of_ask a
lead-cost k past c a mid = refused-cost k past c a (refusal k past c a) mid

-- the reading goes on

pub asked-reading : (g : Config) (l : Limits) (past : Past) (c : ℕ) (told : Context) (es : List Exchange) (ws : List What) (a : Ask)
    → IsReading g past c told es ws → due (declarations_of g) past ≡ [] → is_end a ≡ false
    → let w = lead (declarations_of g) past c a in
    AllAllowed (declarations_of g) l (block (declarations_of g) past (entry_by c w))
    → IsReading g (block (declarations_of g) past (entry_by c w)) c told (record { ask = a; answer = answer_of w } ∷ es) (w ∷ ws)
asked-reading g l past c told es ws a r whole mid allowed =
    let k = declarations_of g in
    let w = lead k past c a in
    let e = entry_by c w in
    let now = block k past e in
    let after = tail_of k past (e ∷ past) c w in
    let x : Exchange = record { ask = a; answer = answer_of w } in
    let p : Pair = record { ask = a; what = w } in
    let led : Lead = record { before = past; what = w } in
    let all : AllKeep (w ∷ after) = (lead-keeps k past c a mid, tail-keeps after (follows-tail k past c a)) in
    let same : log.context now c ≡ log.context past c = keeps-context c (w ∷ after) past all in
    let follow : AreTail after = follows-tail k past c a in
    let holding : has_hold k now c ≡ keeps_cells a (answer_of w) (has_hold k past c) =
    tail-hold k c after (e ∷ past) follow ∙ lead-hold k past c a mid (lead-keeps k past c a mid (log.context past c)) in
    let before : AllAllowed k l past = allowed-before k l (e ∷ tail k past e) past allowed in
    let added : leads k now c ≡ leads k past c ++ led ∷ [] = asked-leads k past c _ a mid whole r.begun in
    let lead_costs : sum_by (λ m. cost_of_lead m.what) (leads k now c)
    ≡ sum_by (λ m. cost_of_lead m.what) (leads k past c) + sum_by (λ m. cost_of_lead m.what) (led ∷ []) =
    ap (sum_by (λ m. cost_of_lead m.what)) added ∙ sum_by-append (λ m. cost_of_lead m.what) (leads k past c) (led ∷ []) in
    let ask_costs : sum_by (λ y. cost_of_ask y.ask) (x ∷ es) ≡ cost_of_ask a + sum_by (λ y. cost_of_ask y.ask) es =
    sum_by-cons (λ y. cost_of_ask y.ask) x es in
    record {
      begun = same ∙ r.begun;
      object = ap (log.object_begun k now) same ∙ begun-object-stays k l (e ∷ tail k past e) past allowed c ∙ r.object;
      first = keeps-opening k c (w ∷ after) past all ∙ r.first;
      hold =
          holds-own k l now c allowed ∙ holding ∙ ap (keeps_cells a (answer_of w)) (sym (holds-own k l past c before) ∙ r.hold);
      entries =
          ap whats added ∙ map-append (λ m. m.what) (leads k past c) (led ∷ []) ∙ ap (λ vs. vs ++ w ∷ []) r.entries
          ∙ sym (reverse-append (w ∷ []) ws);
      read = (lead-read k past c a mid, r.read);
      each =
          subst (λ ls. AreLeads k c (reverse (pairs_of (x ∷ es) (w ∷ ws))) ls) (sym added)
          (subst (λ ps. AreLeads k c ps (leads k past c ++ led ∷ [])) (sym (reverse-append (p ∷ []) (pairs_of es ws)))
          (are_leads-add k c p led (reverse (pairs_of es ws)) (leads k past c) r.each refl));
      cost = omega (arith, lead_costs, ask_costs, r.cost, lead-cost k past c a mid);
    }

-- no context has ended in an ask that is no end
pub ended-kept : (g : Config) (past : Past) (c : ℕ) (a : Ask) → is_end a ≡ false → EndedFollow g past
    → EndedFollow g (block (declarations_of g) past (entry_by c (lead (declarations_of g) past c a)))
ended-kept g past c a mid ended =
    let k = declarations_of g in
    let w = lead k past c a in
    let after = tail_of k past (entry_by c w ∷ past) c w in
    keeps-ended g c (w ∷ after) past (lead-keeps k past c a mid, tail-keeps after (follows-tail k past c a)) ended
