-- What is true of the fields of the ordered queues stays true.
use Rattle.std.proofs.Common.{◌≡◌, ℕ, ◌+◌, ◌<◌, ◌≤◌, List, [], ◌∷◌, length, get_or, set, take, drop, arith, ap, sym, ◌∙◌, subst, ⊎_elim}
use Rattle.std.proofs.lemmas.Bool.{cases_eq, cases_lt}
use Rattle.std.proofs.lemmas.List.{get_or-set_same, get_or-set_other, length-set, set_past}
use Rattle.std.proofs.lemmas.List.Sums.{sum_by-set}
use Rattle.em_order.specs.declared.item_list.Item.{Item}
use Rattle.em_order.specs.declared.tickets.CoreOrder.{CoreOrder}
use Rattle.em_order.specs.declared.tickets.QueueOrder.{QueueOrder}
use Rattle.em_order.specs.Whole.{IsWhole}

one_taken : (due : List Item) → length (take 1 due) ≤ 1
one_taken [] = omega arith
one_taken (x ∷ xs) = omega arith

fewer : (due : List Item) → 0 < length due → length (drop 1 due) + 1 ≡ length due
fewer [] lt = absurd (omega arith)
fewer (x ∷ xs) lt = omega arith

module _ {cores : List CoreOrder} {queues : List QueueOrder} {nodes : List (List Item)} {due : List Item} (whole : IsWhole cores queues nodes due)
    (some : 0 < length due) (i : ℕ) where
  past : length nodes ≤ i → IsWhole cores queues (set nodes i (take 1 due)) (drop 1 due)
  past le = subst (λ rs. IsWhole cores queues rs (drop 1 due)) (sym (set_past nodes i (take 1 due) le)) (record {
    named = whole.named;
    single = whole.single;
    enough = let less = fewer due some in let enough = whole.enough in omega arith;
    few = whole.few;
  })

  within : i < length nodes → IsWhole cores queues (set nodes i (take 1 due)) (drop 1 due)
  within lt = record {
    named = whole.named;
    single = λ j.
        ⊎_elim
        (λ same. subst (λ l. length l ≤ 1) (sym (ap (λ k. get_or (set nodes i (take 1 due)) k []) same ∙ get_or-set_same nodes i (take 1 due) [] lt)) (one_taken due))
        (λ ne. subst (λ l. length l ≤ 1) (sym (get_or-set_other nodes i j (take 1 due) [] ne)) (whole.single j)) (cases_eq j i);
    enough =
        let less = fewer due some in let enough = whole.enough in let most = one_taken due in
        let sums = sum_by-set length nodes i (take 1 due) [] lt in
        let len = length-set nodes i (take 1 due) in omega arith;
    few = let len = length-set nodes i (take 1 due) in let few = whole.few in omega arith;
  }

  pub whole-released : IsWhole cores queues (set nodes i (take 1 due)) (drop 1 due)
  whole-released = ⊎_elim within past (cases_lt i (length nodes))
