-- No more receives start than the limit, and no more operations begin than there are numbers.
use Rattle.std.proofs.Common.{◌≡◌, ◌≢◌, ℕ, suc, ◌+◌, ◌-◌, ◌≤◌, ◌<◌, Bool, true, false, List, [], ◌∷◌, length, Some, None, refl, sym, ap, if◌then◌else◌, min, arith}
use Rattle.std.specs.Prelude.{nat_lt}
use Rattle.std.specs.List.{sum_by}
use Rattle.std.proofs.lemmas.List.{length-take, length-drop}
use Rattle.std.proofs.lemmas.List.Sums.{sum_by-cons}
use Rattle.em_log.specs.declared.declarations.Declarations.{Declarations}
use Rattle.em_log.specs.declared.entry.What.{What}
use Rattle.em_log.specs.declared.fault.Fault.{Fault}
use Rattle.em_log.specs.declared.ids.Limits.{Limits}
use Rattle.em_log.specs.History.{Past, entry_by}
use Rattle.em_log.specs.Declarations.{below, kind_of, is_atomic}
use Rattle.em_log.specs.Operations.{operations}
use Rattle.em_log.specs.Places.{waiting, taken, taken_after, taken_by_all, promised}
use Rattle.em_log.specs.Eligible.{ready, eligible, is_best, take_size}
use Rattle.em_log.specs.Bounds.{operation_limit}
use Rattle.em_log.specs.Lawful.{AllAllowed}
use Rattle.em_moments.proofs.Asked.{and-true}
use Rattle.em_moments.proofs.Moments.{Moment, allowed-moment}
use Rattle.std.proofs.lemmas.Bool.{ltb-true}
use Rattle.em_laws.proofs.Cores.{Compared, Same, Other, compared, if-own}
use Rattle.em_bounds.proofs.Sums.{sum-one}

-- how many events core c has taken
abbrev hand : Declarations → Past → ℕ → ℕ
hand k past c = length (taken k past c)

taken-sum : (k : Declarations) (past : Past) (cs : List ℕ) → taken_by_all k past cs ≡ sum_by (hand k past) cs
taken-sum k past [] = refl
taken-sum k past (c ∷ cs) =
    let rest = taken-sum k past cs in
    let sum = sum_by-cons (hand k past) c cs in omega (arith, rest, sum)

taken-step : (k : Declarations) (past : Past) (d : ℕ) (w : What) → d < k.cores
    → taken_by_all k (entry_by d w ∷ past) (below k.cores) + hand k past d ≡ taken_by_all k past (below k.cores) + length (taken_after k past d w (taken k past d))
taken-step k past d w lt =
    let sum = sum-one (hand k past) (hand k (entry_by d w ∷ past)) d k.cores lt (λ c ne. by_test c (compared d c) ne) in
    let own : hand k (entry_by d w ∷ past) d ≡ length (taken_after k past d w (taken k past d)) = ap length (if-own d _ _) in
    let new = taken-sum k (entry_by d w ∷ past) (below k.cores) in
    let old = taken-sum k past (below k.cores) in
    omega (arith, sum, own, new, old)
  where
    by_test : (c : ℕ) → Compared d c → c ≢ d → hand k (entry_by d w ∷ past) c ≡ hand k past c
    by_test c (Same t e) ne = absurd (ne (sym e))
    by_test c (Other f e) ne = rw f refl

take-fits : (k : Declarations) (l : Limits) (past : Past) (d q : ℕ) → promised k past < l.receives → take_size k l past d q ≤ l.receives - promised k past
take-fits k l past d q some = by_kind (is_atomic (kind_of k q))
  where
    by_kind : (b : Bool) → (if b then min l.burst (min (length (waiting k past q d)) (l.receives - promised k past)) else 1) ≤ l.receives - promised k past
    by_kind true = omega arith
    by_kind false = omega (arith, some)

promised-next : (k : Declarations) (l : Limits) (past : Past) (d : ℕ) (w : What) → d < k.cores → Moment k l past d w → promised k past ≤ l.receives
    → promised k (entry_by d w ∷ past) ≤ l.receives
promised-next k l past d (What.Take q n t) lt m was =
    let step = taken-step k past d (What.Take q n t) lt in
    let may = and-true (ready k past d q.0) _ (and-true (eligible k l past d q.0) (is_best k l past d q.0) m.choice).0 in
    let some : promised k past < l.receives = ltb-true (promised k past) l.receives may.1 in
    let fits = take-fits k l past d q.0 some in
    let size = m.size in
    let none : hand k past d ≡ 0 = ap length m.ready.between.untaken in
    let few = length-take n (waiting k past q.0 d) in
    omega (arith, step, some, fits, size, none, few)
promised-next k l past d (What.Start q e s) lt m was =
    let step = taken-step k past d (What.Start q e s) lt in
    let some : hand k past d ≡ suc (length m.rest) = ap length m.taken in
    let less = length-drop 1 (taken k past d) in
    omega (arith, step, some, less, was)
promised-next k l past d (What.Untake q n) lt m was = let step = taken-step k past d (What.Untake q n) lt in omega (arith, step, was)
promised-next k l past d (What.EndAtomic rest cells) lt m was = let step = taken-step k past d (What.EndAtomic rest cells) lt in omega (arith, step, was)
promised-next k l past d w lt m was = let step = taken-step k past d w lt in omega (arith, step, was)

-- what has started or is taken is within the limit
pub promised-within : (k : Declarations) (l : Limits) (past : Past) → AllAllowed k l past → promised k past ≤ l.receives
promised-within k l [] all = let none = taken-none k (below k.cores) in omega (arith, none)
  where
    taken-none : (k : Declarations) (cs : List ℕ) → taken_by_all k [] cs ≡ 0
    taken-none k [] = refl
    taken-none k (c ∷ cs) = let rest = taken-none k cs in omega (arith, rest)
promised-within k l (e ∷ past) all =
    promised-next k l past e.core.0 e.what all.0.core (allowed-moment k l past e all.1 all.0) (promised-within k l past all.1)

operations-next : (k : Declarations) (l : Limits) (past : Past) (d : ℕ) (w : What) → Moment k l past d w → operations past ≤ operation_limit
    → operations (entry_by d w ∷ past) ≤ operation_limit
operations-next k l past d (What.Begin op job notes) m was = by_test (nat_lt (operations past) operation_limit) refl m.more
  where
    by_test : (b : Bool) → nat_lt (operations past) operation_limit ≡ b → (if b then None else Some (Fault.OpsSpent operation_limit)) ≡ None
        → suc (operations past) ≤ operation_limit
    by_test true is ok = let lt = ltb-true (operations past) operation_limit is in omega (arith, lt)
    by_test false is ok = absurd cc
operations-next k l past d w m was = was

-- operations have numbers below the limit
pub operations-within : (k : Declarations) (l : Limits) (past : Past) → AllAllowed k l past → operations past ≤ operation_limit
operations-within k l [] all = omega arith
operations-within k l (e ∷ past) all =
    operations-next k l past e.core.0 e.what (allowed-moment k l past e all.1 all.0) (operations-within k l past all.1)
