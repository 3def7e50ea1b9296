-- Which spent handles have an event that is free again, before and after an entry.
use Rattle.std.proofs.Common.{◌≡◌, ◌⊎◌, inl, inr, ℕ, Bool, true, false, ◌||◌, List, [], ◌∷◌, Option, Some, None, refl, subst}
use Rattle.std.proofs.lemmas.Bool.{or_right, and_from}
use Rattle.std.specs.List.{list_any}
use Rattle.em_log.specs.declared.declarations.Declarations.{Declarations}
use Rattle.em_log.specs.declared.entry.Entry.{Entry}
use Rattle.em_log.specs.declared.entry.What.{What}
use Rattle.em_log.specs.declared.ids.Note.{Note}
use Rattle.em_log.specs.History.{Past}
use Rattle.em_log.specs.Declarations.{below, kind_of, is_output}
use Rattle.em_log.specs.Operations.{done}
use Rattle.em_log.specs.Arrivals.{entering, arrivals}
use Rattle.em_log.specs.Places.{has_item, has_entered, note_queue, application_end}
use Rattle.em_moments.proofs.Asked.{and-true}
use Rattle.em_places.specs.Parked.{completed_free, noted_free, free_after}
use Rattle.em_arrivals.proofs.Lists.{came, with-came, InEither, InFirst, InSecond, in-either}

completed-pull : (k : Declarations) (past now : Past) (h : ℕ) (q : Option ℕ) → ((q : ℕ) → has_entered k now h q ≡ true → has_entered k past h q ≡ true)
    → completed_free k now h q ≡ true → completed_free k past h q ≡ true
completed-pull k past now h None pull free = absurd cc
completed-pull k past now h (Some q) pull free = let b = and-true (has_entered k now h q) _ free in and_from _ _ (pull q b.0) b.1

noted-pull : (k : Declarations) (past now : Past) (h : ℕ) (notes : List Note) (o r : Option Bool) → ((q : ℕ) → has_entered k now h q ≡ true → has_entered k past h q ≡ true) → o ≡ r
    → noted_free k now h notes o ≡ true → noted_free k past h notes r ≡ true
noted-pull k past now h notes None r pull same free = absurd cc
noted-pull k past now h notes (Some true) r pull same free = subst (λ v. noted_free k past h notes v ≡ true) same (completed-pull k past now h (note_queue h notes) pull free)
noted-pull k past now h notes (Some false) r pull same free = subst (λ v. noted_free k past h notes v ≡ true) same refl

pub free-pull : (k : Declarations) (past now : Past) (h : ℕ) (w : What) → ((q : ℕ) → has_entered k now h q ≡ true → has_entered k past h q ≡ true) → ((n : ℕ) → done now n ≡ done past n)
    → ((g a : ℕ) → application_end now g a ≡ application_end past g a) → free_after k now h w ≡ true → free_after k past h w ≡ true
free-pull k past now h (What.Free f) pull dones apps free = refl
free-pull k past now h (What.Send f q t s) pull dones apps free = let b = and-true (has_entered k now h q.0) _ free in and_from _ _ (pull q.0 b.0) b.1
free-pull k past now h (What.Begin op job notes) pull dones apps free = noted-pull k past now h notes (done now op.0) (done past op.0) pull (dones op.0) free
free-pull k past now h (What.Apply g a n notes) pull dones apps free = noted-pull k past now h notes (application_end now g.0 a) (application_end past g.0 a) pull (apps g.0 a) free
free-pull k past now h w pull dones apps free = absurd cc

-- what has entered had entered before, or came now

pub data Enters (k : Declarations) (past : Past) (e : Entry) (h q : ℕ) : Type 0 where
  EnteredBefore : has_entered k past h q ≡ true → Enters k past e h q
  CameNow : (c : ℕ) → has_item (came k past q c (entering k past e)) h ≡ true → Enters k past e h q

entered-in : (k : Declarations) (past : Past) (e : Entry) (h q : ℕ) (cs : List ℕ) → list_any (λ c. has_item (arrivals k (e ∷ past) q c) h) cs ≡ true
    → (list_any (λ c. has_item (arrivals k past q c) h) cs ≡ true) ⊎ ((c : ℕ) × (has_item (came k past q c (entering k past e)) h ≡ true))
entered-in k past e h q [] is = absurd cc
entered-in k past e h q (c ∷ cs) is = by_test (has_item (arrivals k (e ∷ past) q c) h) refl is (entered-in k past e h q cs)
  where
    later : (list_any (λ c. has_item (arrivals k past q c) h) cs ≡ true) ⊎ ((c : ℕ) × (has_item (came k past q c (entering k past e)) h ≡ true))
        → (list_any (λ c. has_item (arrivals k past q c) h) (c ∷ cs) ≡ true) ⊎ ((c : ℕ) × (has_item (came k past q c (entering k past e)) h ≡ true))
    later (inl t) = inl (or_right (has_item (arrivals k past q c) h) _ t)
    later (inr t) = inr t

    by_either : InEither h (arrivals k past q c) (came k past q c (entering k past e))
        → (list_any (λ c. has_item (arrivals k past q c) h) (c ∷ cs) ≡ true) ⊎ ((c : ℕ) × (has_item (came k past q c (entering k past e)) h ≡ true))
    by_either (InFirst t) = inl (rw t refl)
    by_either (InSecond t) = inr (c, t)

    by_test : (b : Bool) → has_item (arrivals k (e ∷ past) q c) h ≡ b → (b || list_any (λ c. has_item (arrivals k (e ∷ past) q c) h) cs) ≡ true
        → (list_any (λ c. has_item (arrivals k (e ∷ past) q c) h) cs ≡ true
        → (list_any (λ c. has_item (arrivals k past q c) h) cs ≡ true) ⊎ ((c : ℕ) × (has_item (came k past q c (entering k past e)) h ≡ true)))
        → (list_any (λ c. has_item (arrivals k past q c) h) (c ∷ cs) ≡ true) ⊎ ((c : ℕ) × (has_item (came k past q c (entering k past e)) h ≡ true))
    by_test true own is rest =
        by_either (in-either h (arrivals k past q c) (came k past q c (entering k past e)) (subst (λ xs. has_item xs h ≡ true) (with-came k past q c (arrivals k past q c) (entering k past e)) own))
    by_test false own is rest = later (rest is)

pub enters-by : (k : Declarations) (past : Past) (e : Entry) (h q : ℕ) → has_entered k (e ∷ past) h q ≡ true → Enters k past e h q
enters-by k past e h q is = by_case (entered-in k past e h q (below k.cores) is)
  where
    by_case : (list_any (λ c. has_item (arrivals k past q c) h) (below k.cores) ≡ true) ⊎ ((c : ℕ) × (has_item (came k past q c (entering k past e)) h ≡ true)) → Enters k past e h q
    by_case (inl t) = EnteredBefore t
    by_case (inr t) = CameNow t.0 t.1

-- a spent handle whose event is free now was free before, or came to an output now
pub data FreeNow (k : Declarations) (past : Past) (e : Entry) (h : ℕ) (w : What) : Type 0 where
  FreeBefore : free_after k past h w ≡ true → FreeNow k past e h w
  CameOut : (q c : ℕ) → is_output (kind_of k q) ≡ true → has_item (came k past q c (entering k past e)) h ≡ true → FreeNow k past e h w

pub completed-now : (k : Declarations) (past : Past) (e : Entry) (h : ℕ) (w : What) (o : Option ℕ) → completed_free k (e ∷ past) h o ≡ true
    → (completed_free k past h o ≡ true → FreeNow k past e h w) → FreeNow k past e h w
completed-now k past e h w None free before = absurd cc
completed-now k past e h w (Some q) free before = by_enters (enters-by k past e h q b.0)
  where
    b : (has_entered k (e ∷ past) h q ≡ true) × (is_output (kind_of k q) ≡ true)
    b = and-true (has_entered k (e ∷ past) h q) (is_output (kind_of k q)) free

    by_enters : Enters k past e h q → FreeNow k past e h w
    by_enters (EnteredBefore t) = before (and_from _ _ t b.1)
    by_enters (CameNow c t) = CameOut q c b.1 t

pub noted-freed : (k : Declarations) (past : Past) (e : Entry) (h : ℕ) (w : What) (notes : List Note) (o r : Option Bool) → o ≡ r → noted_free k (e ∷ past) h notes o ≡ true
    → (noted_free k past h notes r ≡ true → FreeNow k past e h w) → FreeNow k past e h w
noted-freed k past e h w notes None r same free before = absurd cc
noted-freed k past e h w notes (Some true) r same free before =
    completed-now k past e h w (note_queue h notes) free (λ t. before (subst (λ v. noted_free k past h notes v ≡ true) same t))
noted-freed k past e h w notes (Some false) r same free before = before (subst (λ v. noted_free k past h notes v ≡ true) same refl)

pub free-now : (k : Declarations) (past : Past) (e : Entry) (h : ℕ) (w : What) → ((n : ℕ) → done (e ∷ past) n ≡ done past n) → ((g a : ℕ) → application_end (e ∷ past) g a ≡ application_end past g a)
    → free_after k (e ∷ past) h w ≡ true → FreeNow k past e h w
free-now k past e h (What.Free f) dones apps free = FreeBefore refl
free-now k past e h (What.Send f q t s) dones apps free = completed-now k past e h (What.Send f q t s) (Some q.0) free (λ t. FreeBefore t)
free-now k past e h (What.Begin op job notes) dones apps free =
    noted-freed k past e h (What.Begin op job notes) notes (done (e ∷ past) op.0) (done past op.0) (dones op.0) free (λ t. FreeBefore t)
free-now k past e h (What.Apply g a n notes) dones apps free =
    noted-freed k past e h (What.Apply g a n notes) notes (application_end (e ∷ past) g.0 a) (application_end past g.0 a) (apps g.0 a) free (λ t. FreeBefore t)
free-now k past e h w dones apps free = absurd cc
