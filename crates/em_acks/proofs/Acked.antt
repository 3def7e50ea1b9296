-- Which cores have acknowledged an operation, and which one last.
use Rattle.std.proofs.Common.{◌≡◌, ◌≢◌, ℕ, zero, suc, ◌+◌, ◌<◌, ◌≤◌, ◌==◌, Bool, true, false, not, ◌&&◌, ◌||◌, List, [], ◌∷◌, filter, cond, Option, Some, None, if◌then◌else◌, arith, refl, ap, sym, ◌∙◌, subst, ⊎_elim}
use Rattle.std.specs.List.{list_all}
use Rattle.std.proofs.lemmas.Bool.{cases_eq, cases_Bool, eq-eqb, ne_eqb, and_parts, both_ways}
use Rattle.em_log.specs.History.{has, without}
use Rattle.em_log.specs.Declarations.{below, numbers_from}
use Rattle.em_log.specs.Operations.{last_if}
use Rattle.em_acks.specs.Steps.{AckStep, Began, GlobalEnded, Acknowledged}
use Rattle.em_acks.specs.Operations.{acked, all_acked, not_acked, last_acker}
use Rattle.em_acks.proofs.WordLemmas.{has-passing, without-passing}

abbrev pub is_nil : List ℕ → Bool
is_nil [] = true
is_nil (x ∷ xs) = false

-- all of these have acknowledged where none is left
pub all-left : (those cs : List ℕ) → list_all (has those) cs ≡ is_nil (filter (λ c. not (has those c)) cs)
all-left those [] = refl
all-left those (c ∷ cs) = by_test (has those c) (all-left those cs)
  where
    by_test : (b : Bool) → list_all (has those) cs ≡ is_nil (filter (λ d. not (has those d)) cs)
        → (b && list_all (has those) cs) ≡ is_nil (cond (not b) (c ∷ filter (λ d. not (has those d)) cs) (filter (λ d. not (has those d)) cs))
    by_test true rest = rest
    by_test false rest = refl

has-all : (those : List ℕ) (w a c : ℕ) → list_all (has those) (numbers_from a w) ≡ true → a ≤ c → c < a + w → has those c ≡ true
has-all those zero a c all le lt = absurd (omega arith)
has-all those (suc w) a c all le lt =
    let parts = and_parts (has those a) (list_all (has those) (numbers_from (suc a) w)) all in
    ⊎_elim (λ e. subst (λ k. has those k ≡ true) e parts.0) (λ ne. has-all those w (suc a) c parts.1 (omega arith) (omega arith)) (cases_eq a c)

all-more : (c : ℕ) (those cs : List ℕ) → list_all (has those) cs ≡ true → list_all (has (c ∷ those)) cs ≡ true
all-more c those [] all = refl
all-more c those (d ∷ cs) all =
    let parts = and_parts (has those d) (list_all (has those) cs) all in
    (λ i. or_true (c == d) (has those d) parts.0 i && all-more c those cs parts.1 i)
  where
    or_true : (x y : Bool) → y ≡ true → (x || y) ≡ true
    or_true true y e = refl
    or_true false y e = e

pub none-all : (cores : ℕ) → 0 < cores → list_all (has []) (below cores) ≡ false
none-all zero lt = absurd (omega arith)
none-all (suc k) lt = refl

pub all-pass : (cs : List ℕ) → filter (λ c. not (has [] c)) cs ≡ cs
all-pass [] = refl
all-pass (c ∷ cs) = ap (λ l. c ∷ l) (all-pass cs)

pub has-left : (those : List ℕ) (cores c : ℕ) → c < cores → has (filter (λ d. not (has those d)) (below cores)) c ≡ not (has those c)
has-left those cores c lt = has-passing (λ d. not (has those d)) cores 0 c (omega arith) (omega arith)

pub left-more : (those : List ℕ) (cores c : ℕ) → filter (λ d. not (has (c ∷ those) d)) (below cores) ≡ without c (filter (λ d. not (has those d)) (below cores))
left-more those cores c =
    without-passing (λ d. not (has those d)) (λ d. not (has (c ∷ those) d)) c (ap (λ b. not (b || has those c)) (eq-eqb c c refl)) cores 0
    (λ i le lt ne. ap (λ b. not (b || has those i)) (ne_eqb c i (λ e. ne (sym e))))

module _ (cores : ℕ) where
  pub acked-has : (s : List AckStep) (n c : ℕ) → all_acked cores s n ≡ true → c < cores → has (acked s n) c ≡ true
  acked-has s n c all lt = has-all (acked s n) cores 0 c all (omega arith) (omega arith)

  -- acknowledgements are not taken back
  fewer : (s : List AckStep) (n c op : ℕ) → all_acked cores (Acknowledged c op ∷ s) n ≡ false → all_acked cores s n ≡ false
  fewer s n c op not_all = by_test (op == n) not_all
    where
      by_test : (b : Bool) → list_all (has (if b then (c ∷ acked s n) else acked s n)) (below cores) ≡ false → all_acked cores s n ≡ false
      by_test true f =
          ⊎_elim (λ t. absurd (both_ways (list_all (has (c ∷ acked s n)) (below cores)) f (all-more c (acked s n) (below cores) t)))
          (λ f'. f') (cases_Bool (all_acked cores s n))
      by_test false f = f

  -- there is a last core exactly where every core has acknowledged

  pub last-none : (s : List AckStep) (n : ℕ) → all_acked cores s n ≡ false → last_acker cores s n ≡ None
  last-none [] n f = refl
  last-none (Began c job t ∷ s) n f = last-none s n f
  last-none (GlobalEnded c op ok ∷ s) n f = last-none s n f
  last-none (Acknowledged c op ∷ s) n f =
      ap (λ b. if op == n then last_if b c (last_acker cores s n) else last_acker cores s n) f
      ∙ (either_way (op == n) (last_acker cores s n) ∙ last-none s n (fewer s n c op f))
    where
      either_way : (b : Bool) (was : Option ℕ) → (if b then was else was) ≡ was
      either_way true was = refl
      either_way false was = refl

  pub last-some : 0 < cores → (s : List AckStep) (n : ℕ) → all_acked cores s n ≡ true → (c : ℕ) × (last_acker cores s n ≡ Some c)
  last-some lt [] n t = absurd (both_ways (list_all (has []) (below cores)) (none-all cores lt) t)
  last-some lt (Began c job t' ∷ s) n t = last-some lt s n t
  last-some lt (GlobalEnded c op ok ∷ s) n t = last-some lt s n t
  last-some lt (Acknowledged c op ∷ s) n t = by_test (op == n) t (last-some lt s n)
    where
      by_last : (was : Option ℕ) → (d : ℕ) × (last_if true c was ≡ Some d)
      by_last None = (c, refl)
      by_last (Some d) = (d, refl)

      by_test : (b : Bool) → list_all (has (if b then (c ∷ acked s n) else acked s n)) (below cores) ≡ true
          → (all_acked cores s n ≡ true → (d : ℕ) × (last_acker cores s n ≡ Some d))
          → (d : ℕ)
          × ((if b then last_if (list_all (has (if b then (c ∷ acked s n) else acked s n)) (below cores)) c (last_acker cores s n) else last_acker cores s n)
          ≡ Some d)
      by_test true all rest =
          let last = by_last (last_acker cores s n) in (last.0, ap (λ b. last_if b c (last_acker cores s n)) all ∙ last.1)
      by_test false all rest = rest all

  -- an acknowledgement of another operation

  pub acked-other : (s : List AckStep) (n m c : ℕ) → n ≢ m → acked (Acknowledged c n ∷ s) m ≡ acked s m
  acked-other s n m c ne = ap (λ b. if b then (c ∷ acked s m) else acked s m) (ne_eqb n m ne)

  pub last-other : (s : List AckStep) (n m c : ℕ) → n ≢ m → last_acker cores (Acknowledged c n ∷ s) m ≡ last_acker cores s m
  last-other s n m c ne =
      ap (λ b. if b then last_if (all_acked cores (Acknowledged c n ∷ s) m) c (last_acker cores s m) else last_acker cores s m) (ne_eqb n m ne)

  -- one of this operation

  pub acked-same : (s : List AckStep) (n c : ℕ) → acked (Acknowledged c n ∷ s) n ≡ c ∷ acked s n
  acked-same s n c = ap (λ b. if b then (c ∷ acked s n) else acked s n) (eq-eqb n n refl)

  pub not_acked-same : (s : List AckStep) (n c : ℕ) → not_acked cores (Acknowledged c n ∷ s) n ≡ without c (not_acked cores s n)
  not_acked-same s n c =
      ap (λ those. filter (λ d. not (has those d)) (below cores)) (acked-same s n c) ∙ left-more (acked s n) cores c

  pub all-same : (s : List AckStep) (n c : ℕ) → all_acked cores (Acknowledged c n ∷ s) n ≡ is_nil (without c (not_acked cores s n))
  all-same s n c = all-left (acked (Acknowledged c n ∷ s) n) (below cores) ∙ ap is_nil (not_acked-same s n c)
