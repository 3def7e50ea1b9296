-- What is given back, on the steps alone.
use Rattle.std.proofs.Common.{◌≡◌, ℕ, zero, suc, ◌≤◌, ◌==◌, Bool, true, false, List, [], ◌∷◌, ◌++◌, length, take, drop, if◌then◌else◌, Some, refl, ap, sym, ◌∙◌}
use Rattle.std.specs.Option.{option_map_or}
use Rattle.std.proofs.lemmas.Bool.{eq-eqb}
use Rattle.std.proofs.lemmas.List.{take-append-drop, drop-append-le}
use Rattle.em_log.specs.declared.declarations.Declarations.{Declarations}
use Rattle.em_log.specs.Arrivals.{is_for}
use Rattle.em_queues.specs.Steps.{QueueStep, Took, lists}
use Rattle.em_queues.specs.Laws.{started_by, GivesBack, RestoresTheRest}
use Rattle.em_queues.proofs.ListChanges.{for_it}

one_more : (m : ℕ) (xs : List ℕ) → drop 1 (drop m xs) ≡ drop (suc m) xs
one_more zero xs = refl
one_more (suc m) [] = refl
one_more (suc m) (x ∷ xs) = one_more m xs

module _ (k : Declarations) (s : List QueueStep) (q c n : ℕ) where
  abbrev after : ℕ → List QueueStep
  after m = started_by m c (Took c q n ∷ s)

  abbrev before : List ℕ
  before = (lists k s).waiting q c

  same : (c == c) ≡ true
  same = eq-eqb c c refl

  taken-after : (m : ℕ) → (lists k (after m)).taken c ≡ drop m (take n before)
  taken-after zero = ap (λ (b : Bool). if b then take n before else (lists k s).taken c) same
  taken-after (suc m) =
      ap (λ (b : Bool). if b then drop 1 ((lists k (after m)).taken c) else (lists k (after m)).taken c) same
      ∙ (ap (drop 1) (taken-after m) ∙ one_more m (take n before))

  waiting-after : (m : ℕ) → (lists k (after m)).waiting q c ≡ drop n before
  waiting-after zero = ap (λ (b : Bool). if b then drop n before else before) (for_it k q c)
  waiting-after (suc m) = waiting-after m

  source-after : (m : ℕ) → (lists k (after m)).source c ≡ Some q
  source-after zero = ap (λ (b : Bool). if b then Some q else (lists k s).source c) same
  source-after (suc m) = source-after m

  pub gives-back : (m : ℕ) → m ≤ length (take n before) → GivesBack k s q c n m
  gives-back m le = record {
    waiting =
        ap (λ o. if option_map_or (λ r. is_for k q c r c) o false then (lists k (after m)).taken c ++ (lists k (after m)).waiting q c else (lists k (after m)).waiting q c)
        (source-after m)
        ∙ (ap (λ (b : Bool). if b then (lists k (after m)).taken c ++ (lists k (after m)).waiting q c else (lists k (after m)).waiting q c) (for_it k q c)
        ∙ ((λ i. taken-after m i ++ waiting-after m i)
        ∙ (sym (drop-append-le m (take n before) (drop n before) le) ∙ ap (drop m) (take-append-drop n before))));
    taken = ap (λ (b : Bool). if b then [] else (lists k (after m)).taken c) same;
  }

pub restores : RestoresTheRest
restores k s q c n m le = gives-back k s q c n m le
