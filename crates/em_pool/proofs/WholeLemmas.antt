-- The fields of the pools after one slot is written.
use Rattle.std.proofs.Common.{◌≡◌, ℕ, ◌<◌, ◌≤◌, Bool, List, [], ◌∷◌, length, map, refl, get_or, set, arith, ap, sym, ◌∙◌, subst, ⊎_elim, length-set, get_or-set_same, get_or-set_other}
use Rattle.std.proofs.lemmas.Bool.{cases_eq}
use Rattle.std.proofs.lemmas.List.{map-set, length-map, get_or_read}
use Rattle.em_log.specs.declared.declarations.PoolShape.{PoolShape}
use Rattle.em_pool.specs.declared.slot.Slot.{Slot}
use Rattle.em_pool.specs.Places.{is_free}
use Rattle.em_pool.specs.State.{fresh}
use Rattle.em_pool.specs.Whole.{IsWhole, AreHeld, is_free_slot}
use Rattle.em_pool.specs.Changes.{lost_slot}
use Rattle.em_pool.proofs.Losing.{lost-cases, get_or-map, held_by-not_free}

pub whole-put : {pools : List PoolShape} {slots : List Slot} {free : List Bool} {held : List (List Bool)} {m spare room : ℕ} → IsWhole pools slots free held m spare room
    → (i n k r : ℕ) (x : Slot) (b : Bool) (now : List Bool) → i < length slots → b ≡ is_free x.place → now ≡ set free i b → x.generation ≤ n
    → m ≤ n → k ≤ r → (sets : List (List Bool)) → AreHeld sets (set slots i x) → IsWhole pools (set slots i x) now sets n k r
whole-put {slots = slots} {free = free} whole i n k r x b now lt free_is put few more enough sets are = record {
  events = length-set slots i x ∙ whole.events;
  few = whole.few;
  free_is = put ∙ ((λ t. set (whole.free_is t) i (free_is t)) ∙ sym (map-set is_free_slot slots i x));
  held_are = are;
  generations = λ j. ⊎_elim
      (λ e. subst (λ (sl : Slot). sl.generation ≤ n) (sym (ap (λ q. get_or (set slots i x) q fresh) e ∙ get_or-set_same slots i x fresh lt)) few)
      (λ ne. subst (λ (sl : Slot). sl.generation ≤ n) (sym (get_or-set_other slots i j x fresh ne)) (let g = whole.generations j in omega arith))
      (cases_eq j i);
  enough = enough;
}

-- as many free as events
pub length-free : {pools : List PoolShape} {slots : List Slot} {free : List Bool} {held : List (List Bool)} {m spare room : ℕ} → IsWhole pools slots free held m spare room
    → length free ≡ length slots
length-free {slots = slots} whole = ap length whole.free_is ∙ length-map slots is_free_slot

pub read-generation : {pools : List PoolShape} {slots : List Slot} {free : List Bool} {held : List (List Bool)} {m spare room : ℕ} → IsWhole pools slots free held m spare room
    → (i : ℕ) (x : Slot) → i < length slots → x ≡ get_or slots i x → x.generation ≤ m
read-generation {slots = slots} {m = m} whole i x lt read =
    subst (λ (sl : Slot). sl.generation ≤ m) (sym (get_or_read slots i x lt read fresh)) (whole.generations i)

same_free : (c p : ℕ) (sl : Slot) → is_free_slot (lost_slot c p sl) ≡ is_free_slot sl
same_free c p sl = lost-cases c p sl (λ x. is_free_slot x ≡ is_free_slot sl) (λ t. sym (held_by-not_free c sl.place t)) (λ _. refl)

map-same_free : (c p : ℕ) (xs : List Slot) → map is_free_slot (map (lost_slot c p) xs) ≡ map is_free_slot xs
map-same_free c p [] = refl
map-same_free c p (x ∷ xs) = λ i. same_free c p x i ∷ map-same_free c p xs i

pub whole-lost : {pools : List PoolShape} {slots : List Slot} {free : List Bool} {held : List (List Bool)} {m spare room : ℕ} → IsWhole pools slots free held m spare room
    → (c p : ℕ) (now : List Slot) → now ≡ map (lost_slot c p) slots → (sets : List (List Bool)) → AreHeld sets now
    → IsWhole pools now free sets m spare room
whole-lost {pools = pools} {slots = slots} {free = free} {m = m} {spare = spare} {room = room} whole c p now e sets are =
    subst (λ xs. IsWhole pools xs free sets m spare room) (sym e) (record {
      events = length-map slots (lost_slot c p) ∙ whole.events;
      few = whole.few;
      free_is = whole.free_is ∙ sym (map-same_free c p slots);
      held_are = subst (AreHeld sets) e are;
      generations = λ j. subst (λ (sl : Slot). sl.generation ≤ m) (sym (get_or-map (lost_slot c p) fresh refl slots j))
          (lost-cases c p (get_or slots j fresh) (λ x. x.generation ≤ m) (λ _. whole.generations j) (λ _. whole.generations j));
      enough = whole.enough;
    })
