-- The sets of the queues in whose lists something waits stay exact.
use Rattle.std.proofs.Common.{◌≡◌, ◌≢◌, ℕ, zero, suc, ◌<◌, ◌≤◌, ◌==◌, ◌&&◌, nat_lt, Bool, true, false, List, [], ◌∷◌, ◌++◌, drop, length, map, if◌then◌else◌, Option, Some, None, IfSome, arith, refl, ap, sym, ◌∙◌, subst, ⊎_elim}
use Rattle.std.proofs.lemmas.Bool.{cases_eq, eq-eqb, ne_eqb, eqb-true, eqb-false, lt-ltb, le-ltb, ltb-true, ltb-false}
use Rattle.std.proofs.lemmas.List.{get_or-set_same, get_or-set_other, length-set, length-map, length_push, length-drop, length-append}
use Rattle.em_log.specs.declared.ids.Kind.{Kind}
use Rattle.em_log.specs.declared.graph.Priority.{Priority}
use Rattle.em_log.specs.declared.graph.QueueDecl.{QueueDecl}
use Rattle.em_queues.specs.declared.set.QueueSet.{QueueSet}
use Rattle.em_queues.specs.Waiting.{WaitingList}
use Rattle.em_queues.specs.Waiting.{ListScope}
use Rattle.em_queues.specs.Ready.{has_ready, is_ranked, IsMarked}
use Rattle.em_queues.specs.Waiting.{no_list, list_in, items_in, with_items, is_ready, AreIndexed, opened_list, rank_in, rank_or_lowest}

and_true : (b : Bool) → (b && true) ≡ b
and_true true = refl
and_true false = refl

and_false : (b : Bool) → (b && false) ≡ false
and_false true = refl
and_false false = refl

chosen : (b w o : Bool) → (b ≡ false → o ≡ false) → (if b then w else o) ≡ (b && w)
chosen true w o f = refl
chosen false w o f = f refl

module _ {lists : List WaitingList} {old : List QueueSet} (indexed : AreIndexed lists old) (q : ℕ) (xs : List ℕ) (within : q < length lists) where
  here : list_in (with_items lists q xs) q ≡ record (list_in lists q) { items = xs }
  here = get_or-set_same lists q (record (list_in lists q) { items = xs }) no_list within

  there : (p : ℕ) → p ≢ q → list_in (with_items lists q xs) p ≡ list_in lists p
  there p ne = get_or-set_other lists q p (record (list_in lists q) { items = xs }) no_list ne

  -- the set tells what waits in the list where that may have changed, and else nothing has
  module _ (new : List QueueSet) (is_so is_in : Bool) (marked : IsMarked old new q (list_in lists q).rank is_so is_in) (now : is_so ≡ true → is_in ≡ nat_lt 0 (length xs))
      (still : is_so ≡ false → nat_lt 0 (length (list_in lists q).items) ≡ nat_lt 0 (length xs)) where
    own : (r : ℕ) (b : Bool) → is_so ≡ b → has_ready new r q ≡ (is_ranked r (list_in lists q).rank && nat_lt 0 (length xs))
    own r true e =
        marked r q
        ∙ (ap (λ b. if b && (is_ranked r (list_in lists q).rank && (q == q)) then is_in else has_ready old r q) e
        ∙ (ap (λ b. if is_ranked r (list_in lists q).rank && b then is_in else has_ready old r q) (eq-eqb q q refl)
        ∙ (ap (λ (b : Bool). if b then is_in else has_ready old r q) (and_true (is_ranked r (list_in lists q).rank))
        ∙ (chosen (is_ranked r (list_in lists q).rank) is_in (has_ready old r q)
        (λ no_rank. indexed.exact r q ∙ ap (λ b. b && nat_lt 0 (length (list_in lists q).items)) no_rank)
        ∙ ap (λ b. is_ranked r (list_in lists q).rank && b) (now e)))))
    own r false e =
        marked r q
        ∙ (ap (λ b. if b && (is_ranked r (list_in lists q).rank && (q == q)) then is_in else has_ready old r q) e
        ∙ (indexed.exact r q ∙ ap (λ b. is_ranked r (list_in lists q).rank && b) (still e)))

    other : (r p : ℕ) → p ≢ q → has_ready new r p ≡ has_ready old r p
    other r p ne =
        marked r p
        ∙ (ap (λ b. if is_so && (is_ranked r (list_in lists q).rank && b) then is_in else has_ready old r p) (ne_eqb p q ne)
        ∙ (ap (λ b. if is_so && b then is_in else has_ready old r p) (and_false (is_ranked r (list_in lists q).rank))
        ∙ ap (λ (b : Bool). if b then is_in else has_ready old r p) (and_false is_so)))

    pub marked-indexed : AreIndexed (with_items lists q xs) new
    marked-indexed = record {
      few = subst (λ n. n ≤ 256) (sym (length-set lists q (record (list_in lists q) { items = xs }))) indexed.few;
      ranked = λ p.
          ⊎_elim
          (λ same. subst (λ k. IfSome (list_in (with_items lists q xs) k).rank (λ r. r < 5)) (sym same)
          (subst (λ (l : WaitingList). IfSome l.rank (λ r. r < 5)) (sym here) (indexed.ranked q)))
          (λ ne. subst (λ (l : WaitingList). IfSome l.rank (λ r. r < 5)) (sym (there p ne)) (indexed.ranked p)) (cases_eq p q);
      exact = λ r p.
          ⊎_elim
          (λ same. subst (λ k. has_ready new r k ≡ is_ready r (list_in (with_items lists q xs) k)) (sym same) (own r is_so refl ∙ ap (is_ready r) (sym here)))
          (λ ne. other r p ne ∙ (indexed.exact r p ∙ ap (is_ready r) (sym (there p ne)))) (cases_eq p q);
    }

-- an event has come to the list, events have left it, or others have come before

some_more : (x y : ℕ) → 0 < x → 0 < y → nat_lt 0 x ≡ nat_lt 0 y
some_more x y a b = lt-ltb 0 x a ∙ sym (lt-ltb 0 y b)

module _ {lists : List WaitingList} {old : List QueueSet} (indexed : AreIndexed lists old) (q : ℕ) (within : q < length lists) (new : List QueueSet) (is_so : Bool) where
  pub pushed-indexed : (i : ℕ) → is_so ≡ (length (items_in lists q) == 0) → IsMarked old new q (list_in lists q).rank is_so true
      → AreIndexed (with_items lists q (items_in lists q ++ i ∷ [])) new
  pushed-indexed i tells marked =
      let long = length_push (items_in lists q) i in
      marked-indexed indexed q (items_in lists q ++ i ∷ []) within new is_so true marked
      (λ _. sym (lt-ltb 0 (length (items_in lists q ++ i ∷ [])) (omega arith)))
      (λ e. let some = eqb-false (length (items_in lists q)) 0 (sym tells ∙ e) in
      some_more (length (items_in lists q)) (length (items_in lists q ++ i ∷ [])) (omega arith) (omega arith))

  pub cut-indexed : (n : ℕ) → n ≤ length (items_in lists q) → is_so ≡ (length (items_in lists q) == n) → IsMarked old new q (list_in lists q).rank is_so false
      → AreIndexed (with_items lists q (drop n (items_in lists q))) new
  cut-indexed n le tells marked =
      let long = length-drop n (items_in lists q) in
      marked-indexed indexed q (drop n (items_in lists q)) within new is_so false marked
      (λ e. let all = eqb-true (length (items_in lists q)) n (sym tells ∙ e) in sym (le-ltb 0 (length (drop n (items_in lists q))) (omega arith)))
      (λ e. let some = eqb-false (length (items_in lists q)) n (sym tells ∙ e) in
      some_more (length (items_in lists q)) (length (drop n (items_in lists q))) (omega arith) (omega arith))

  pub given-indexed : (xs : List ℕ) → is_so ≡ nat_lt 0 (length xs) → IsMarked old new q (list_in lists q).rank is_so true
      → AreIndexed (with_items lists q (xs ++ items_in lists q)) new
  given-indexed xs tells marked =
      let long = length-append xs (items_in lists q) in
      marked-indexed indexed q (xs ++ items_in lists q) within new is_so true marked
      (λ e. let some = ltb-true 0 (length xs) (sym tells ∙ e) in sym (lt-ltb 0 (length (xs ++ items_in lists q)) (omega arith)))
      (λ e. let none = ltb-false 0 (length xs) (sym tells ∙ e) in
      let same : length (items_in lists q) ≡ length (xs ++ items_in lists q) = omega arith in ap (nat_lt 0) same)

-- at the opening

rank_few : (p : Option Priority) → rank_or_lowest p < 5
rank_few None = omega arith
rank_few (Some Priority.Lowest) = omega arith
rank_few (Some Priority.Low) = omega arith
rank_few (Some Priority.Normal) = omega arith
rank_few (Some Priority.High) = omega arith
rank_few (Some Priority.Highest) = omega arith

rank_in_few : (kind : Kind) (p : Option Priority) (scope : ListScope) → IfSome (rank_in kind p scope) (λ r. r < 5)
rank_in_few Kind.Atomic p ListScope.Local = tt
rank_in_few Kind.Atomic p ListScope.Shared = rank_few p
rank_in_few Kind.Parallel p ListScope.Local = tt
rank_in_few Kind.Parallel p ListScope.Shared = rank_few p
rank_in_few Kind.Ordered p ListScope.Local = tt
rank_in_few Kind.Ordered p ListScope.Shared = rank_few p
rank_in_few Kind.Local p ListScope.Local = rank_few p
rank_in_few Kind.Local p ListScope.Shared = tt
rank_in_few Kind.Unscheduled p ListScope.Local = tt
rank_in_few Kind.Unscheduled p ListScope.Shared = tt
rank_in_few Kind.Output p ListScope.Local = tt
rank_in_few Kind.Output p ListScope.Shared = tt

pub opened-empty : (scope : ListScope) (ds : List QueueDecl) (q : ℕ) → (list_in (map (opened_list scope) ds) q).items ≡ []
opened-empty scope [] q = refl
opened-empty scope (d ∷ ds) zero = refl
opened-empty scope (d ∷ ds) (suc q) = opened-empty scope ds q

opened-ranked : (scope : ListScope) (ds : List QueueDecl) (q : ℕ) → IfSome (list_in (map (opened_list scope) ds) q).rank (λ r. r < 5)
opened-ranked scope [] q = tt
opened-ranked scope (d ∷ ds) zero = rank_in_few d.kind d.priority scope
opened-ranked scope (d ∷ ds) (suc q) = opened-ranked scope ds q

pub opened-indexed : (scope : ListScope) (ds : List QueueDecl) (ready : List QueueSet) → length ds ≤ 256 → ((r q : ℕ) → has_ready ready r q ≡ false)
    → AreIndexed (map (opened_list scope) ds) ready
opened-indexed scope ds ready few none = record {
  few = subst (λ n. n ≤ 256) (sym (length-map ds (opened_list scope))) few;
  ranked = opened-ranked scope ds;
  exact = λ r q.
      none r q
      ∙ sym (ap (λ (xs : List ℕ). is_ranked r (list_in (map (opened_list scope) ds) q).rank && nat_lt 0 (length xs)) (opened-empty scope ds q)
      ∙ and_false (is_ranked r (list_in (map (opened_list scope) ds) q).rank));
}
