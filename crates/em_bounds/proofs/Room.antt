-- What each kind of entry leaves of the room.
use Rattle.std.proofs.Common.{◌≡◌, ◌≢◌, ℕ, ◌+◌, ◌<◌, ◌≤◌, ◌==◌, Bool, true, false, [], ◌∷◌, ◌++◌, List, Option, Some, None, length, refl, ap, sym, ◌∙◌, arith, if◌then◌else◌}
use Rattle.std.specs.List.{sum_by}
use Rattle.std.proofs.lemmas.Bool.{eq-eqb}
use Rattle.std.proofs.lemmas.List.Sums.{sum_by-append}
use Rattle.em_log.specs.declared.declarations.Declarations.{Declarations}
use Rattle.em_log.specs.declared.entry.Entry.{Entry}
use Rattle.em_log.specs.declared.entry.What.{What}
use Rattle.em_log.specs.declared.ids.QueueId.{QueueId}
use Rattle.em_log.specs.declared.ids.Limits.{Limits}
use Rattle.em_log.specs.History.{Past, entry_by}
use Rattle.em_log.specs.Declarations.{below}
use Rattle.em_log.specs.Contexts.{context, context_after}
use Rattle.em_log.specs.Legal.{Lead, lead_here, leads, leads_after}
use Rattle.em_log.specs.Lawful.{AllAllowed, due}
use Rattle.em_log.specs.Allowance.{left, cost_of_lead}
use Rattle.em_laws.proofs.Cores.{Compared, Same, Other, compared}
use Rattle.em_bounds.specs.Paid.{pays}
use Rattle.em_bounds.proofs.Paid.{is-paid}
use Rattle.em_bounds.specs.Room.{left_if, left_open, lefts, needed}
use Rattle.em_bounds.proofs.Sums.{sum-one, sum-same}

abbrev cost : Lead → ℕ
cost l = cost_of_lead l.what

-- the sum over the cores

-- one core has x less
pub lefts-less : (k : Declarations) (past now : Past) (c x : ℕ) → c < k.cores → ((d : ℕ) → d ≢ c → left_open k now d ≡ left_open k past d)
    → left_open k now c + x ≡ left_open k past c → lefts k now + x ≡ lefts k past
lefts-less k past now c x lt same own =
    let sum = sum-one (left_open k past) (left_open k now) c k.cores lt same in omega (arith, sum, own)

-- one core has x more
pub lefts-more : (k : Declarations) (past now : Past) (c x : ℕ) → c < k.cores → ((d : ℕ) → d ≢ c → left_open k now d ≡ left_open k past d)
    → left_open k now c ≡ left_open k past c + x → lefts k now ≡ lefts k past + x
lefts-more k past now c x lt same own =
    let sum = sum-one (left_open k past) (left_open k now) c k.cores lt same in omega (arith, sum, own)

-- other cores

pub other-left : (k : Declarations) (past : Past) (c : ℕ) (w : What) (d : ℕ) → d ≢ c → left_open k (entry_by c w ∷ past) d ≡ left_open k past d
other-left k past c w d ne = by_test (compared c d)
  where
    by_test : Compared c d → left_open k (entry_by c w ∷ past) d ≡ left_open k past d
    by_test (Same t e) = absurd (ne (sym e))
    by_test (Other f e) = rw f refl

-- the lead of an ask lowers what is left by its cost

left-next : (k : Declarations) (past : Past) (c : ℕ) (b w : What) → due k past ≡ [] → context past c ≡ Some b
    → ((ls : List Lead) → leads_after k past (Some b) w ls ≡ lead_here (due k past) past w ls)
    → cost_of_lead w ≤ left k past c → left k (entry_by c w ∷ past) c + cost_of_lead w ≡ left k past c
left-next k past c b w whole is here enough =
    let ls = leads k past c in
    let own : (c == c) ≡ true = eq-eqb c c refl in
    let added : leads k (entry_by c w ∷ past) c ≡ ls ++ record { before = past; what = w } ∷ [] =
    rw own (ap (λ o. leads_after k past o w ls) is ∙ (here ls ∙ ap (λ ds. lead_here ds past w ls) whole)) in
    let total : sum_by cost (leads k (entry_by c w ∷ past) c) ≡ sum_by cost ls + sum_by cost (record { before = past; what = w } ∷ []) =
    ap (sum_by cost) added ∙ sum_by-append cost ls (record { before = past; what = w } ∷ []) in
    omega (arith, total)

pub context-stays : (past : Past) (c d : ℕ) (w : What) → ((o : Option What) → context_after w o ≡ o)
    → context (entry_by c w ∷ past) d ≡ context past d
context-stays past c d w stays = by_test (c == d)
  where
    by_test : (b : Bool) → (if b then context_after w (context past d) else context past d) ≡ context past d
    by_test true = stays (context past d)
    by_test false = refl

-- an ask that leaves its context open
pub needed-lead : (k : Declarations) (past : Past) (c : ℕ) (b w : What) → c < k.cores → due k past ≡ [] → context past c ≡ Some b
    → ((o : Option What) → context_after w o ≡ o) → ((ls : List Lead) → leads_after k past (Some b) w ls ≡ lead_here (due k past) past w ls)
    → cost_of_lead w ≤ left k past c → pays w ≤ cost_of_lead w → needed k (entry_by c w ∷ past) ≤ needed k past
needed-lead k past c b w lt whole is stays here enough pays_it =
    let now : Past = entry_by c w ∷ past in
    let less = left-next k past c b w whole is here enough in
    let after : left_open k now c ≡ left k now c = ap (λ (o : Option What). left_if o (left k now c)) (context-stays past c c w stays ∙ is) in
    let before : left_open k past c ≡ left k past c = ap (λ (o : Option What). left_if o (left k past c)) is in
    let own : left_open k now c + cost_of_lead w ≡ left_open k past c = omega (arith, less, after, before) in
    let sum = lefts-less k past now c (cost_of_lead w) lt (other-left k past c w) own in
    omega (arith, sum, pays_it)

-- one that ends it
pub needed-end : (k : Declarations) (past : Past) (c : ℕ) (w : What) → c < k.cores → pays w ≡ 0 → ((o : Option What) → context_after w o ≡ None)
    → needed k (entry_by c w ∷ past) ≤ needed k past
needed-end k past c w lt free ends =
    let now : Past = entry_by c w ∷ past in
    let own_core : (c == c) ≡ true = eq-eqb c c refl in
    let none : context now c ≡ None = rw own_core (ends (context past c)) in
    let after : left_open k now c ≡ 0 = ap (λ (o : Option What). left_if o (left k now c)) none in
    let own : left_open k now c + left_open k past c ≡ left_open k past c = omega (arith, after) in
    let sum = lefts-less k past now c (left_open k past c) lt (other-left k past c w) own in
    omega (arith, sum, free)

-- an output costs nothing, where it is due

out-left : (k : Declarations) (past : Past) (c : ℕ) (q : QueueId) (kind : ℕ) (words : List ℕ) (e : Entry) (es : List Entry) → due k past ≡ e ∷ es
    → (d : ℕ) → left_open k (entry_by c (What.Out q kind words) ∷ past) d ≡ left_open k past d
out-left k past c q kind words e es is d = by_test (compared c d)
  where
    by_context : (o : Option What) → context past d ≡ o → (c == d) ≡ true → left_open k (entry_by c (What.Out q kind words) ∷ past) d ≡ left_open k past d
    by_context None at t = rw (t, at) refl
    by_context (Some b) at t = rw (t, at, is) refl

    by_test : Compared c d → left_open k (entry_by c (What.Out q kind words) ∷ past) d ≡ left_open k past d
    by_test (Same t same) = by_context (context past d) refl t
    by_test (Other f ne) = rw f refl

pub needed-out : (k : Declarations) (past : Past) (c : ℕ) (q : QueueId) (kind : ℕ) (words : List ℕ) (e : Entry) (es : List Entry) → due k past ≡ e ∷ es
    → needed k (entry_by c (What.Out q kind words) ∷ past) ≤ needed k past
needed-out k past c q kind words e es is =
    let sum = sum-same (left_open k past) (left_open k (entry_by c (What.Out q kind words) ∷ past)) (below k.cores) (out-left k past c q kind words e es is) in
    omega (arith, sum)

-- so the log has room for each entry that is allowed
pub has-room : (k : Declarations) (l : Limits) (now : Past) (capacity : ℕ) → AllAllowed k l now → needed k now ≤ capacity → length now ≤ capacity
has-room k l now capacity all enough =
    let law = is-paid k l now all in
    omega (arith, law, enough)
