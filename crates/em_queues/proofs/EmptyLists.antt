-- At the opening all lists of events are empty.
use Rattle.std.proofs.Common.{◌≡◌, ℕ, zero, suc, ◌*◌, ◌≤◌, ◌==◌, false, List, [], ◌∷◌, length, map, get_or, replicate, if◌then◌else◌, arith, refl, ap, sym, subst}
use Rattle.std.specs.List.{sum_by}
use Rattle.std.proofs.lemmas.List.{length-replicate}
use Rattle.std.proofs.lemmas.List.Folds.{sum_by-replicate}
use Rattle.std.proofs.lemmas.List.Sums.{count_by-le-length}
use Rattle.em_queues.specs.Events.{list_in}
use Rattle.em_queues.specs.Links.{no_ends, all_events, is_linked, times, told, IsLinked, AreLinked}

pub all-empty : (n : ℕ) (next : List ℕ) → all_events (replicate n no_ends) next ≡ replicate n []
all-empty zero next = refl
all-empty (suc n) next = λ i. [] ∷ all-empty n next i

pub none-listed : (n : ℕ) → map is_linked (replicate n 65535) ≡ replicate n false
none-listed zero = refl
none-listed (suc n) = λ i. false ∷ none-listed n i

pub empty-list : (n l : ℕ) → list_in (replicate n []) l ≡ []
empty-list zero l = refl
empty-list (suc n) zero = refl
empty-list (suc n) (suc l) = empty-list n l

no_next : (n i : ℕ) → ◌≡◌ {A = ℕ} (get_or (replicate n 65535) i 65535) 65535
no_next zero i = refl
no_next (suc n) zero = refl
no_next (suc n) (suc i) = no_next n i

pub empty-linked : (n m : ℕ) → m ≤ 4096 → AreLinked (replicate n no_ends) (replicate m 65535)
empty-linked n m few =
    subst (λ ls. IsLinked ls (replicate n no_ends) (replicate m 65535)) (sym (all-empty n (replicate m 65535)))
    (record {
      last = λ l k long. absurd (let none : length (list_in (replicate n []) l) ≡ 0 = ap (λ (xs : List ℕ). length xs) (empty-list n l) in omega arith);
      once = λ i.
          let sums : sum_by (times i) (replicate n []) ≡ n * 0 = sum_by-replicate (times i) n [] in
          let none : told (replicate m 65535) i ≡ 0 = ap (λ k. if is_linked k then 1 else 0) (no_next m i) in omega arith;
      enough =
          let sums : sum_by (λ (xs : List ℕ). length xs) (replicate n []) ≡ n * 0 = sum_by-replicate (λ (xs : List ℕ). length xs) n [] in
          let all = count_by-le-length (λ k. k == 65535) (replicate m 65535) in omega arith;
      few = let long : length (replicate {A = ℕ} m 65535) ≡ m = length-replicate {A = ℕ} m 65535 in omega arith;
    })
