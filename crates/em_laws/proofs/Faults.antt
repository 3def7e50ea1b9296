-- A fault leaves everything as it was.
use Rattle.std.proofs.Common.{◌≡◌, ℕ, ◌+◌, ◌==◌, Bool, true, false, ◌&&◌, ◌||◌, List, [], ◌∷◌, length, Option, Some, None, refl, ◌∙◌, ap, if◌then◌else◌}
use Rattle.std.specs.List.{find}
use Rattle.std.specs.Option.{option_or, option_map_or}
use Rattle.em_log.specs.declared.declarations.Declarations.{Declarations}
use Rattle.em_log.specs.declared.entry.What.{What}
use Rattle.em_log.specs.declared.fault.Fault.{Fault}
use Rattle.em_log.specs.declared.fault.Call.{Call}
use Rattle.em_log.specs.declared.ids.EoId.{EoId}
use Rattle.em_log.specs.declared.ids.Note.{Note}
use Rattle.em_log.specs.History.{Past, entry_by}
use Rattle.em_log.specs.Declarations.{below, kind_of, is_output}
use Rattle.em_log.specs.Contexts.{context}
use Rattle.em_log.specs.Handles.{Minting, Spending, held, with_minted, last_handle, minting, spending}
use Rattle.em_log.specs.Operations.{done, owed_to, first_owed, operations}
use Rattle.em_log.specs.Tails.{failed_after, has_failed}
use Rattle.em_log.specs.Places.{Free, Taken, Waiting, Lost, Delayed, taken, taken_by_all, started, has_item, has_entered, taker, entered_place, note_queue, completed_place, application_end, noted_place, place_after, place_of, place_by}
use Rattle.em_laws.specs.Unchanged.{IsUnchanged, IsRefusal, is_fail}
use Rattle.em_laws.proofs.Cores.{if-same}

find-same : (p r : ℕ → Bool) (xs : List ℕ) → ((x : ℕ) → p x ≡ r x) → find p xs ≡ find r xs
find-same p r [] same = refl
find-same p r (x ∷ xs) same = rw (same x) (ap (λ o. if r x then Some x else o) (find-same p r xs same))

first-same : (k : Declarations) (now past : Past) (c : ℕ) (ns : List ℕ) → ((n : ℕ) → owed_to k now c n ≡ owed_to k past c n) → first_owed k now c ns ≡ first_owed k past c ns
first-same k now past c [] same = refl
first-same k now past c (n ∷ ns) same = rw (same n) (ap (λ o. option_or (owed_to k past c n) o) (first-same k now past c ns same))

taken-same : (k : Declarations) (now past : Past) (cs : List ℕ) → ((c : ℕ) → taken k now c ≡ taken k past c) → taken_by_all k now cs ≡ taken_by_all k past cs
taken-same k now past [] same = refl
taken-same k now past (c ∷ cs) same = ap (λ xs. length xs + taken_by_all k now cs) (same c) ∙ ap (λ n. length (taken k past c) + n) (taken-same k now past cs same)

-- the history with a fault more
abbrev WithFault : Past → ℕ → Call → Fault → Option EoId → Past
WithFault past d asked f s = entry_by d (What.Fault asked f s) ∷ past

held-same : (past : Past) (d : ℕ) (asked : Call) (f : Fault) (s : Option EoId) (c : ℕ) → held (WithFault past d asked f s) c ≡ held past c
held-same past d asked f s c = by_context (context past c) (d == c)
  where
    by_context : (o : Option What) (b : Bool) → (if b then with_minted o None (held past c) else held past c) ≡ held past c
    by_context None true = refl
    by_context (Some w) true = refl
    by_context o false = refl

taker-same : (k : Declarations) (past : Past) (d : ℕ) (asked : Call) (f : Fault) (s : Option EoId) (h : ℕ) → taker k (WithFault past d asked f s) h ≡ taker k past h
taker-same k past d asked f s h = find-same _ _ (below k.cores) (λ c. ap (λ xs. has_item xs h) (if-same (d == c) (taken k past c)))

entered-same : (k : Declarations) (past : Past) (d : ℕ) (asked : Call) (f : Fault) (s : Option EoId) (h q : ℕ)
    → entered_place k (WithFault past d asked f s) h q ≡ entered_place k past h q
entered-same k past d asked f s h q =
    ap (λ o. if is_output (kind_of k q) then Free else option_map_or Taken o (Waiting q)) (taker-same k past d asked f s h)

completed-same : (k : Declarations) (past : Past) (d : ℕ) (asked : Call) (f : Fault) (s : Option EoId) (h : ℕ) (o : Option ℕ)
    → completed_place k (WithFault past d asked f s) h o ≡ completed_place k past h o
completed-same k past d asked f s h None = refl
completed-same k past d asked f s h (Some q) = ap (λ p. if has_entered k past h q then p else Lost) (entered-same k past d asked f s h q)

noted-same : (k : Declarations) (past : Past) (d : ℕ) (asked : Call) (f : Fault) (s : Option EoId) (h : ℕ) (ns : List Note) (o : Option Bool)
    → noted_place k (WithFault past d asked f s) h ns o ≡ noted_place k past h ns o
noted-same k past d asked f s h ns None = refl
noted-same k past d asked f s h ns (Some true) = completed-same k past d asked f s h (note_queue h ns)
noted-same k past d asked f s h ns (Some false) = refl

after-same : (k : Declarations) (past : Past) (d : ℕ) (asked : Call) (f : Fault) (s : Option EoId) (h : ℕ) (before : Past) (c : ℕ) (w : What)
    → place_after k (WithFault past d asked f s) h before c w ≡ place_after k past h before c w
after-same k past d asked f s h before c (What.Send g q t stamp) =
    ap (λ p. if has_entered k past h q.0 then p else Delayed q.0) (entered-same k past d asked f s h q.0)
after-same k past d asked f s h before c (What.Begin op job notes) = noted-same k past d asked f s h notes (done past op.0)
after-same k past d asked f s h before c (What.Apply g a n notes) = noted-same k past d asked f s h notes (application_end past g.0 a)
after-same k past d asked f s h before c w = refl

place_of-same : (k : Declarations) (past : Past) (d : ℕ) (asked : Call) (f : Fault) (s : Option EoId) (h : ℕ) (m : Option Minting) (p : Option Spending)
    → place_of k (WithFault past d asked f s) h m p ≡ place_of k past h m p
place_of-same k past d asked f s h None p = refl
place_of-same k past d asked f s h (Some m) None = refl
place_of-same k past d asked f s h (Some m) (Some p) = after-same k past d asked f s h p.before p.core p.what

place_by-same : (k : Declarations) (past : Past) (d : ℕ) (asked : Call) (f : Fault) (s : Option EoId) (o : Option ℕ)
    → place_by k (WithFault past d asked f s) o ≡ place_by k past o
place_by-same k past d asked f s None = refl
place_by-same k past d asked f s (Some h) = place_of-same k past d asked f s h (minting past h) (spending past h)

-- a fault leaves everything as it was
fault-unchanged : (k : Declarations) (past : Past) (d : ℕ) (asked : Call) (f : Fault) (s : Option EoId) → IsUnchanged k past (entry_by d (What.Fault asked f s) ∷ past)
fault-unchanged k past d asked f s = record {
  place = λ i. place_by-same k past d asked f s (last_handle past i);
  generation = λ i. refl;
  rule = λ c w. refl;
  held = λ c. held-same past d asked f s c;
  context = λ c. if-same (d == c) _;
  boot_ended = refl;
  open_ticket = λ c. if-same (d == c) _;
  released = λ q. refl;
  arrivals = λ q c. refl;
  waiting = λ q c. refl;
  taken = λ c. if-same (d == c) _;
  promised = ap (λ n. started past + n) (taken-same k (WithFault past d asked f s) past (below k.cores) (λ c. if-same (d == c) _));
  kept = λ x. refl;
  holder = λ a. find-same _ _ (below k.cores) (λ c. if-same (d == c) _);
  cells = λ a. refl;
  state = λ x. refl;
  flag = λ q. refl;
  mask = λ g. refl;
  effective = λ g. refl;
  closed = λ q. refl;
  operation = λ n. refl;
  done = λ n. refl;
  global_done = λ n. refl;
  acked = λ n. refl;
  last_acker = λ n. refl;
  step = λ c. first-same k (WithFault past d asked f s) past c (below (operations past)) (λ n. refl);
  busy = λ g. refl;
  applications = λ g. refl;
  total = λ g. refl;
  members = λ g a. refl;
  count = λ g. refl;
  open_stamp = λ c. if-same (d == c) _;
}

failed-by : (asked : Call) (f : Fault) (s : Option EoId) (was : Bool) → failed_after (What.Fault asked f s) was ≡ (is_fail f || was)
failed-by asked (Fault.StartFailed op) s was = refl
failed-by asked f s was = refl

-- and only that of a `fail` makes a global start fail
pub fault-refuses : (k : Declarations) (past : Past) (d : ℕ) (asked : Call) (f : Fault) (s : Option EoId) → IsRefusal k past d f (entry_by d (What.Fault asked f s) ∷ past)
fault-refuses k past d asked f s = record { unchanged = fault-unchanged k past d asked f s; failed = λ c. by_core c (d == c) }
  where
    by_core : (c : ℕ) (b : Bool) → (if b then failed_after (What.Fault asked f s) (has_failed past c) else has_failed past c) ≡ ((b && is_fail f) || has_failed past c)
    by_core c true = failed-by asked f s (has_failed past c)
    by_core c false = refl
