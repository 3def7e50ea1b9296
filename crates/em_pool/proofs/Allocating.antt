-- What an alloc answers.
use Rattle.std.proofs.Common.{◌≡◌, ℕ, zero, suc, ◌+◌, ◌<◌, ◌≤◌, Bool, true, false, nat_lt, List, [], ◌∷◌, length, get_or, take, Some, None, Ok, Err, find, if◌then◌else◌, is_none, unwrap_or, arith, refl, ap, sym, ◌∙◌, subst}
use Rattle.em_log.specs.declared.declarations.PoolShape.{PoolShape}
use Rattle.em_log.specs.declared.fault.Fault.{Fault}
use Rattle.em_log.specs.Declarations.{numbers_from, event_total}
use Rattle.em_pool.specs.Steps.{PoolStep}
use Rattle.em_pool.specs.Handles.{next_handle}
use Rattle.em_pool.specs.Places.{place, is_free, live, first_free, events_of, words_of, indices_of, alloc_handle, alloc_answer, handle_unless}
use Rattle.em_pool.specs.State.{PoolState, place_at}
use Rattle.em_pool.specs.Stands.{Stands}
use Rattle.em_pool.proofs.Numbers.{lt-leb_not}

pub words-read : (ps : List PoolShape) (n : ℕ) (d : PoolShape) → n < length ps → words_of ps n ≡ (get_or ps n d).words
words-read [] n d lt = absurd (omega arith)
words-read (p ∷ ps) zero d lt = refl
words-read (p ∷ ps) (suc n) d lt = words-read ps n d (omega arith)

-- what is found passes the test, and is one of the numbers

pub found-passes : (test : ℕ → Bool) (xs : List ℕ) (i : ℕ) → find test xs ≡ Some i → test i ≡ true
found-passes test [] i e = absurd (cc e)
found-passes test (x ∷ xs) i e = by_test (test x) refl (found-passes test xs i) e
  where
    by_test : (b : Bool) → test x ≡ b → (find test xs ≡ Some i → test i ≡ true) → (if b then Some x else find test xs) ≡ Some i → test i ≡ true
    by_test true t rest got = let same : x ≡ i = cc got in subst (λ n. test n ≡ true) same t
    by_test false t rest got = rest got

pub found-within : (test : ℕ → Bool) (n a i : ℕ) → find test (numbers_from a n) ≡ Some i → i < a + n
found-within test zero a i e = absurd (cc e)
found-within test (suc n) a i e = by_test (test a) (found-within test n (suc a) i) e
  where
    by_test : (b : Bool) → (find test (numbers_from (suc a) n) ≡ Some i → i < suc a + n)
        → (if b then Some a else find test (numbers_from (suc a) n)) ≡ Some i → i < a + suc n
    by_test true rest got = let same : a ≡ i = cc got in omega arith
    by_test false rest got = let lt = rest got in omega arith

length-numbers_from : (n a : ℕ) → length (numbers_from a n) ≡ n
length-numbers_from zero a = refl
length-numbers_from (suc n) a = ap (λ m. suc m) (length-numbers_from n (suc a))

-- where none of the events is free, all of them are live
all-live : (s : List PoolStep) (is : List ℕ) → first_free s is ≡ None → live s is ≡ length is
all-live s [] e = refl
all-live s (i ∷ is) e = by_test (is_free (place s i)) (all-live s is) e
  where
    by_test : (b : Bool) → (first_free s is ≡ None → live s is ≡ length is) → (if b then Some i else first_free s is) ≡ None
        → (if b then live s is else suc (live s is)) ≡ suc (length is)
    by_test true rest got = absurd (cc got)
    by_test false rest got = ap (λ n. suc n) (rest got)

not_more : (words size : ℕ) → size ≤ words → nat_lt words size ≡ false
not_more words size le = lt-leb_not (suc words) size (omega arith)

pub answer-empty : (pools : List PoolShape) (s : List PoolStep) (p size : ℕ) → size ≤ words_of pools p → first_free s (indices_of pools p) ≡ None
    → alloc_answer pools s p size ≡ Err (Fault.PoolEmpty (events_of pools p))
answer-empty pools s p size le none =
    let all = all-live s (indices_of pools p) none ∙ length-numbers_from (events_of pools p) (event_total (take p pools)) in
    ap (λ f. handle_unless f (alloc_handle pools s p))
    ((λ k. if not_more (words_of pools p) size le k then Some (Fault.BadSize (words_of pools p))
    else if is_none (none k) then Some (Fault.PoolEmpty (all k)) else None))

pub answer-minted : (pools : List PoolShape) (s : List PoolStep) (p size i : ℕ) → size ≤ words_of pools p → first_free s (indices_of pools p) ≡ Some i
    → alloc_answer pools s p size ≡ Ok (record { 0 = next_handle s i })
answer-minted pools s p size i le some =
    (λ k. handle_unless
    (if not_more (words_of pools p) size le k then Some (Fault.BadSize (words_of pools p))
    else if is_none (some k) then Some (Fault.PoolEmpty (live s (indices_of pools p))) else None)
    (next_handle s (unwrap_or (some k) 0)))

pub first-same : {v : PoolState} {s : List PoolStep} → Stands v s → (is : List ℕ) → first_free s is ≡ find (λ i. is_free (place_at v i)) is
first-same stands is = sym (λ k. find (λ i. is_free (stands.places i k)) is)
