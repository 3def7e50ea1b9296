-- After an item is released, the ordered queues stand for one step more.
use Rattle.std.proofs.Common.{◌≡◌, ℕ, ◌<◌, ◌==◌, false, List, [], ◌∷◌, length, take, drop, if◌then◌else◌, refl, ap, sym, ◌∙◌, subst, ⊎_elim}
use Rattle.std.proofs.lemmas.Bool.{cases_eq, eq-eqb, ne_eqb}
use Rattle.std.proofs.lemmas.List.{get_or-set_same, get_or-set_other, length-set}
use Rattle.em_order.specs.declared.item_list.Item.{Item}
use Rattle.em_order.specs.Steps.{OrderStep, Released}
use Rattle.em_order.specs.Sends.{due, is_held_back, begins_with}
use Rattle.em_order.specs.State.{OrderState, held_back_at, is_nil}
use Rattle.em_order.specs.Stands.{Stands}
use Rattle.em_order.specs.Changes.{released_by}

module _ {v : OrderState} {s : List OrderStep} (stands : Stands v s) (x : Item) (xs : List Item) (first : v.due ≡ x ∷ xs) where
  abbrev w : OrderState
  w = released_by v x.index

  due_is : due s ≡ x ∷ xs
  due_is = sym stands.due_is ∙ first

  waits : (i : ℕ) → is_held_back (Released ∷ s) i ≡ (if x.index == i then false else is_held_back s i)
  waits i = ap (λ l. if begins_with i l then false else is_held_back s i) due_is

  back : (i : ℕ) → i < length w.nodes → held_back_at w i ≡ is_held_back (Released ∷ s) i
  back i within =
      let lt : i < length v.nodes = subst (λ k. i < k) (length-set v.nodes x.index (take 1 v.due)) within in
      ⊎_elim
      (λ same.
      subst (λ k. held_back_at w k ≡ is_held_back (Released ∷ s) k) same
      (ap is_nil (get_or-set_same v.nodes x.index (take 1 v.due) [] (subst (λ k. k < length v.nodes) (sym same) lt))
      ∙ (ap (λ l. is_nil (take 1 l)) first
      ∙ sym (waits x.index ∙ ap (λ b. if b then false else is_held_back s x.index) (eq-eqb x.index x.index refl)))))
      (λ apart.
      ap is_nil (get_or-set_other v.nodes x.index i (take 1 v.due) [] (λ e. apart (sym e)))
      ∙ (stands.held_back i lt ∙ sym (waits i ∙ ap (λ b. if b then false else is_held_back s i) (ne_eqb x.index i apart))))
      (cases_eq x.index i)

  pub released-stands : Stands w (Released ∷ s)
  released-stands = record {
    drawn_is = stands.drawn_is;
    tickets = stands.tickets;
    open_drawn = stands.open_drawn;
    open_not_ended = stands.open_not_ended;
    one_core = stands.one_core;
    not_ended_open = stands.not_ended_open;
    ended_drawn = stands.ended_drawn;
    unsent = stands.unsent;
    held_is = stands.held_is;
    idle_is = stands.idle_is;
    rest_is = stands.rest_is;
    due_is = ap (drop 1) stands.due_is;
    held_back = back;
  }
