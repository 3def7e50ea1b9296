-- Acknowledgements only grow, and the last one comes once.
use Rattle.std.proofs.Common.{◌≡◌, ◌⊎◌, inl, inr, ℕ, zero, suc, ◌+◌, ◌<◌, ◌≤◌, ◌==◌, Bool, true, false, ◌||◌, List, [], ◌∷◌, Option, Some, None, refl, sym, ◌∙◌, ap, if◌then◌else◌, arith}
use Rattle.std.specs.List.{list_all}
use Rattle.em_log.specs.declared.declarations.Declarations.{Declarations}
use Rattle.em_log.specs.declared.entry.What.{What}
use Rattle.em_log.specs.History.{Past, entry_by, has}
use Rattle.em_log.specs.Declarations.{numbers_from, below}
use Rattle.em_log.specs.Operations.{acked, all_acked, last_if, last_acker}
use Rattle.em_moments.proofs.Asked.{and-true}
use Rattle.em_laws.proofs.Cores.{Compared, Same, Other, compared}

all-from : (p : ℕ → Bool) (c a n : ℕ) → list_all p (numbers_from a n) ≡ true → a ≤ c → c < a + n → p c ≡ true
all-from p c a zero all low high = absurd (omega arith)
all-from p c a (suc n) all low high =
    let both = and-true (p a) (list_all p (numbers_from (suc a) n)) all in by_test both.0 (all-from p c (suc a) n both.1) (compared a c)
  where
    by_test : p a ≡ true → (suc a ≤ c → c < suc a + n → p c ≡ true) → Compared a c → p c ≡ true
    by_test here later (Same _ e) = ap p (sym e) ∙ here
    by_test here later (Other _ e) = later (omega (arith, e)) (omega arith)

pub all-below : (p : ℕ → Bool) (c n : ℕ) → list_all p (below n) ≡ true → c < n → p c ≡ true
all-below p c n all lt = all-from p c 0 n all (omega arith) (omega arith)

pub all-more : (p r : ℕ → Bool) (xs : List ℕ) → ((x : ℕ) → p x ≡ true → r x ≡ true) → list_all p xs ≡ true → list_all r xs ≡ true
all-more p r [] more all = refl
all-more p r (x ∷ xs) more all =
    let both = and-true (p x) (list_all p xs) all in rw (more x both.0) (all-more p r xs more both.1)

pub has-cons : (m : ℕ) (ms : List ℕ) (n : ℕ) → has ms n ≡ true → has (m ∷ ms) n ≡ true
has-cons m ms n h = by_test (m == n)
  where
    by_test : (b : Bool) → (b || has ms n) ≡ true
    by_test true = refl
    by_test false = h

pub acked-more : (past : Past) (d : ℕ) (w : What) (n c : ℕ) → has (acked past n) c ≡ true → has (acked (entry_by d w ∷ past) n) c ≡ true
acked-more past d (What.Ack op) n c h = by_test (op.0 == n)
  where
    by_test : (b : Bool) → has (if b then d ∷ acked past n else acked past n) c ≡ true
    by_test true = has-cons d (acked past n) c h
    by_test false = h
acked-more past d w n c h = h

-- who has acknowledged after an entry: this core now, or before
pub data AckedAfter (past : Past) (n c d : ℕ) (w : What) : Type 0 where
  AckedBefore : has (acked past n) c ≡ true → AckedAfter past n c d w
  AcksNow : d ≡ c → w ≡ What.Ack (record { 0 = n }) → AckedAfter past n c d w

pub acked-after : (past : Past) (d : ℕ) (w : What) (n c : ℕ) → has (acked (entry_by d w ∷ past) n) c ≡ true → AckedAfter past n c d w
acked-after past d (What.Ack op) n c h = by_test (compared op.0 n)
  where
    by_core : n ≡ op.0 → Compared d c → has (d ∷ acked past n) c ≡ true → AckedAfter past n c d (What.Ack op)
    by_core same (Same _ e) h = AcksNow e (ap (λ (i : ℕ). What.Ack (record { 0 = i })) (sym same))
    by_core same (Other f e) h = AckedBefore (rw f at h)

    by_test : Compared op.0 n → AckedAfter past n c d (What.Ack op)
    by_test (Same t e) = by_core (sym e) (compared d c) (rw t at h)
    by_test (Other f e) = AckedBefore (rw f at h)
acked-after past d w n c h = AckedBefore h

pub all-acked-has : (k : Declarations) (past : Past) (n c : ℕ) → all_acked k past n ≡ true → c < k.cores → has (acked past n) c ≡ true
all-acked-has k past n c all lt = all-below (has (acked past n)) c k.cores all lt

pub all-acked-more : (k : Declarations) (past : Past) (d : ℕ) (w : What) (n : ℕ) → all_acked k past n ≡ true → all_acked k (entry_by d w ∷ past) n ≡ true
all-acked-more k past d w n all = all-more (has (acked past n)) (has (acked (entry_by d w ∷ past) n)) (below k.cores) (λ c h. acked-more past d w n c h) all

last_if-some : (b : Bool) (c x : ℕ) → last_if b c (Some x) ≡ Some x
last_if-some true c x = refl
last_if-some false c x = refl

-- the last acknowledgement stays the last
pub last-kept : (k : Declarations) (past : Past) (d : ℕ) (w : What) (n c : ℕ) → last_acker k past n ≡ Some c → last_acker k (entry_by d w ∷ past) n ≡ Some c
last-kept k past d (What.Ack op) n c h = by_test (op.0 == n)
  where
    by_test : (b : Bool) → (if b then last_if (all_acked k (entry_by d (What.Ack op) ∷ past) n) d (last_acker k past n) else last_acker k past n) ≡ Some c
    by_test true = ap (last_if (all_acked k (entry_by d (What.Ack op) ∷ past) n) d) h ∙ last_if-some (all_acked k (entry_by d (What.Ack op) ∷ past) n) d c
    by_test false = h
last-kept k past d w n c h = h

last_if-all : (b : Bool) (d : ℕ) (o : Option ℕ) (c : ℕ) → last_if b d o ≡ Some c → (b ≡ true) ⊎ (o ≡ Some c)
last_if-all true d None c h = inl refl
last_if-all true d (Some x) c h = inr h
last_if-all false d None c h = inr h
last_if-all false d (Some x) c h = inr h

last-all-by : (k : Declarations) (past : Past) (d : ℕ) (w : What) (n c : ℕ) → (last_acker k past n ≡ Some c → all_acked k past n ≡ true)
    → last_acker k (entry_by d w ∷ past) n ≡ Some c → all_acked k (entry_by d w ∷ past) n ≡ true
last-all-by k past d (What.Ack op) n c older h = by_test (op.0 == n) h
  where
    by_case : (all_acked k (entry_by d (What.Ack op) ∷ past) n ≡ true) ⊎ (last_acker k past n ≡ Some c) → all_acked k (entry_by d (What.Ack op) ∷ past) n ≡ true
    by_case (inl all) = all
    by_case (inr was) = all-acked-more k past d (What.Ack op) n (older was)

    by_test : (b : Bool) → (if b then last_if (all_acked k (entry_by d (What.Ack op) ∷ past) n) d (last_acker k past n) else last_acker k past n) ≡ Some c
        → all_acked k (entry_by d (What.Ack op) ∷ past) n ≡ true
    by_test true h = by_case (last_if-all (all_acked k (entry_by d (What.Ack op) ∷ past) n) d (last_acker k past n) c h)
    by_test false h = by_case (inr h)
last-all-by k past d w n c older h = all-acked-more k past d w n (older h)

-- after it every core has acknowledged
pub last-all : (k : Declarations) (past : Past) (n c : ℕ) → last_acker k past n ≡ Some c → all_acked k past n ≡ true
last-all k [] n c h = absurd cc
last-all k (e ∷ past) n c h = last-all-by k past e.core.0 e.what n c (last-all k past n c) h
