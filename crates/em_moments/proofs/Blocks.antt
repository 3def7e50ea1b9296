-- A whole ask keeps a history lawful.
use Rattle.std.proofs.Common.{◌≡◌, ℕ, ◌<◌, List, [], ◌∷◌, refl, sym, ap, subst}
use Rattle.em_log.specs.declared.declarations.Declarations.{Declarations}
use Rattle.em_log.specs.declared.entry.Entry.{Entry}
use Rattle.em_log.specs.declared.entry.What.{What}
use Rattle.em_log.specs.declared.ids.Limits.{Limits}
use Rattle.em_log.specs.History.{Past, entry_by, entries_by, onto}
use Rattle.em_log.specs.Tails.{tail, tail_of}
use Rattle.em_log.specs.Lawful.{Begins, Allowed, AllAllowed, IsNext, Lawful, due, due_after}
use Rattle.em_log.specs.Answers.{block}

-- the entries are of cores of the graph
abbrev pub OfCores : ℕ → List Entry → Type 0
OfCores n [] = Unit {0}
OfCores n (e ∷ es) = (e.core.0 < n) × OfCores n es

pub entries_by-of : (n c : ℕ) (ws : List What) → c < n → OfCores n (entries_by c ws)
entries_by-of n c [] h = tt
entries_by-of n c (w ∷ ws) h = (h, entries_by-of n c ws h)

-- what is due may be put on, one entry after another
pub onto-lawful : (k : Declarations) (l : Limits) (past : Past) (es : List Entry) → OfCores k.cores es → AllAllowed k l past
    → due k past ≡ es → Lawful k l (onto es past)
onto-lawful k l past [] of all is = record { each = all; whole = is }
onto-lawful k l past (e ∷ es) of all is =
    onto-lawful k l (e ∷ past) es of.1
    (record { core = of.0; next = subst (λ ds. IsNext k l past ds e) (sym is) refl }, all)
    (ap (λ ds. due_after ds (tail k past e)) is)

-- a lawful history with a whole ask is lawful
pub block-lawful : (k : Declarations) (l : Limits) (past : Past) (c : ℕ) (w : What) → c < k.cores → Lawful k l past
    → Begins k l past c w → Lawful k l (block k past (entry_by c w))
block-lawful k l past c w h lawful begins =
    let e = entry_by c w in
    let allowed : Allowed k l past e = record { core = h; next = subst (λ ds. IsNext k l past ds e) (sym lawful.whole) begins } in
    onto-lawful k l (e ∷ past) (tail k past e) (entries_by-of k.cores c (tail_of k past (e ∷ past) c w) h) (allowed, lawful.each)
    (ap (λ ds. due_after ds (tail k past e)) lawful.whole)
