-- What is due may be put on, and prefixes at which nothing is due are lawful.
use Rattle.std.proofs.Common.{◌≡◌, ◌<◌, List, [], ◌∷◌, ◌++◌, refl}
use Rattle.em_log.specs.declared.declarations.Declarations.{Declarations}
use Rattle.em_log.specs.declared.entry.Entry.{Entry}
use Rattle.em_log.specs.declared.ids.Limits.{Limits}
use Rattle.em_log.specs.History.{Past, onto}
use Rattle.em_log.specs.Tails.{tail, tail_of}
use Rattle.em_log.specs.Lawful.{AllAllowed, Lawful, due, due_after}
use Rattle.em_moments.proofs.Blocks.{OfCores, entries_by-of, onto-lawful}

after-of : (k : Declarations) (past : Past) (e : Entry) (ds : List Entry) → e.core.0 < k.cores → OfCores k.cores ds → OfCores k.cores (due_after ds (tail k past e))
after-of k past e [] h of = entries_by-of k.cores e.core.0 (tail_of k past (e ∷ past) e.core.0 e.what) h
after-of k past e (d ∷ ds) h of = of.1

due-of : (k : Declarations) (l : Limits) (past : Past) → AllAllowed k l past → OfCores k.cores (due k past)
due-of k l [] all = tt
due-of k l (e ∷ past) all = after-of k past e (due k past) all.0.core (due-of k l past all.1)

-- a history with all that is due is lawful
pub due-lawful : (k : Declarations) (l : Limits) (past : Past) → AllAllowed k l past → Lawful k l (onto (due k past) past)
due-lawful k l past all = onto-lawful k l past (due k past) (due-of k l past all) all refl

-- what is left of a history without its newest entries was allowed
pub all-before : (k : Declarations) (l : Limits) (new : List Entry) (past : Past) → AllAllowed k l (new ++ past) → AllAllowed k l past
all-before k l [] past all = all
all-before k l (e ∷ es) past all = all-before k l es past all.1

pub prefix-lawful : (k : Declarations) (l : Limits) (new : List Entry) (past : Past) → Lawful k l (new ++ past) → due k past ≡ [] → Lawful k l past
prefix-lawful k l new past lawful none = record { each = all-before k l new past lawful.each; whole = none }
