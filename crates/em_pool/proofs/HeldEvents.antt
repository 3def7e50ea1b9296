-- The sets of what the cores hold, after one slot is written and after an end.
use Rattle.std.proofs.Common.{◌≡◌, ◌≢◌, ℕ, suc, ◌+◌, ◌<◌, ◌≤◌, Bool, true, false, ◌==◌, List, [], ◌∷◌, length, map, get_or, set, count_by, cond, Option, Some, None, if◌then◌else◌, arith, refl, ap, sym, ◌∙◌, subst, ⊎_elim, length-set, get_or-set_same, get_or-set_other}
use Rattle.std.proofs.lemmas.Bool.{cases_eq, cases_lt}
use Rattle.std.proofs.lemmas.List.{map-set, length-map, get_or_past, get_or-map as get_or-map_within}
use Rattle.std.proofs.lemmas.List.Sums.{sum_by-cons}
use Rattle.std.proofs.Math.Seq.{map-set_same}
use Rattle.em_log.specs.declared.fault.Fault.{Fault}
use Rattle.em_log.specs.History.{index_of}
use Rattle.em_pool.specs.declared.place.Place.{Place}
use Rattle.em_pool.specs.declared.place.Spent.{Spent}
use Rattle.em_pool.specs.declared.slot.Slot.{Slot}
use Rattle.em_pool.specs.State.{PoolState, fresh, place_at, is_minted, spent_in, is_held_by, is_slot_held_by, rule_at, rule_by}
use Rattle.em_pool.specs.Changes.{lost_now, lost_slot}
use Rattle.em_pool.specs.Whole.{AreHeld, put_held}
use Rattle.em_pool.proofs.Numbers.{from_test, ne_test, count_by-set}
use Rattle.em_pool.proofs.Losing.{lost-held_other}

-- each core holds the event that is written as before
pub held-same : (held : List (List Bool)) (slots : List Slot) → AreHeld held slots → (i : ℕ) (x : Slot)
    → ((c : ℕ) → is_slot_held_by c x ≡ is_slot_held_by c (get_or slots i fresh)) → AreHeld held (set slots i x)
held-same held slots are i x same c lt = are c lt ∙ sym (map-set_same (is_slot_held_by c) slots i x fresh (same c))

-- core c alone has it in its set or not, as it holds it then
pub held-put : (held : List (List Bool)) (slots : List Slot) → AreHeld held slots → (c i : ℕ) (x : Slot) (b : Bool) → b ≡ is_slot_held_by c x
    → ((d : ℕ) → d ≢ c → is_slot_held_by d x ≡ is_slot_held_by d (get_or slots i fresh)) → AreHeld (put_held c i b held) (set slots i x)
held-put held slots are c i x b is others d lt =
    let size = length-set held c (set (get_or held c []) i b) in
    ⊎_elim
    (λ e. let within : c < length held = omega arith in
    subst (λ n. get_or (put_held c i b held) n [] ≡ map (is_slot_held_by n) (set slots i x)) (sym e)
    (get_or-set_same held c (set (get_or held c []) i b) [] within
    ∙ ((λ k. set (are c within k) i (is k)) ∙ sym (map-set (is_slot_held_by c) slots i x))))
    (λ ne. get_or-set_other held c d (set (get_or held c []) i b) [] ne
    ∙ (are d (omega arith) ∙ sym (map-set_same (is_slot_held_by d) slots i x fresh (others d ne))))
    (cases_eq d c)

-- a set has room for each event
pub held-within : (held : List (List Bool)) (slots : List Slot) → AreHeld held slots → (c i : ℕ) → i < length slots → c < length held
    → i < length (get_or held c [])
held-within held slots are c i lt within =
    let size = ap length (are c within) ∙ length-map slots (is_slot_held_by c) in omega arith

-- an event whose handle core c may use is held by no other core

others-cases : (b : Bool) (c d w : ℕ) (p : Place) (s : Option Spent) → d ≢ c → (if b then rule_by c p s else Some (Fault.NeverMinted w)) ≡ None
    → is_held_by d p ≡ false
others-cases false c d w p s ne e = absurd (cc e)
others-cases true c d w p (Some s) ne e = absurd (cc e)
others-cases true c d w (Place.Held h) None ne e = by_test (h.0 == c) refl e
  where
    by_test : (b : Bool) → (h.0 == c) ≡ b → ◌≡◌ {A = Option Fault} (if b then None else Some (Fault.HeldElsewhere h)) None → (h.0 == d) ≡ false
    by_test true t e = ne_test h.0 d (λ same. ne (sym same ∙ from_test h.0 c t))
    by_test false t e = absurd (cc e)
others-cases true c d w Place.Free None ne e = refl
others-cases true c d w (Place.Kept x) None ne e = refl
others-cases true c d w (Place.Waiting q) None ne e = refl
others-cases true c d w (Place.Taken h) None ne e = refl
others-cases true c d w (Place.Delayed q) None ne e = refl
others-cases true c d w Place.Noted None ne e = refl
others-cases true c d w Place.Lost None ne e = refl

pub usable-others : (v : PoolState) (c d w : ℕ) → rule_at v c w ≡ None → d ≢ c → is_held_by d (place_at v (index_of w)) ≡ false
usable-others v c d w e ne = others-cases (is_minted v w) c d w (place_at v (index_of w)) (spent_in v w) ne e

-- an end

lost-others : (c d p : ℕ) (slots : List Slot) → d ≢ c → map (is_slot_held_by d) (map (lost_slot c p) slots) ≡ map (is_slot_held_by d) slots
lost-others c d p [] ne = refl
lost-others c d p (x ∷ xs) ne = λ k. lost-held_other c d p x (ne_test c d (λ e. ne (sym e))) k ∷ lost-others c d p xs ne k

pub held-lost : (held : List (List Bool)) (slots : List Slot) → AreHeld held slots → (c p k : ℕ) (own : List Bool) (now : List Slot)
    → k ≡ c → now ≡ map (lost_slot c p) slots → own ≡ map (is_slot_held_by c) now → AreHeld (set held k own) now
held-lost held slots are c p k own now at is own_is d lt =
    let size = length-set held k own in
    ⊎_elim
    (λ e. subst (λ n. get_or (set held k own) n [] ≡ map (is_slot_held_by n) now) (sym e)
    (get_or-set_same held k own [] (omega arith) ∙ (own_is ∙ ap (λ n. map (is_slot_held_by n) now) (sym at))))
    (λ ne. get_or-set_other held k d own [] ne
    ∙ (are d (omega arith) ∙ (sym (lost-others c d p slots (λ e. ne (e ∙ sym at))) ∙ ap (map (is_slot_held_by d)) (sym is))))
    (cases_eq d k)

-- a core without a set
pub held-lost_past : (held : List (List Bool)) (slots : List Slot) → AreHeld held slots → (c p : ℕ) (now : List Slot)
    → now ≡ map (lost_slot c p) slots → length held ≤ c → AreHeld held now
held-lost_past held slots are c p now is past d lt =
    are d lt ∙ (sym (lost-others c d p slots (λ e. absurd (omega arith))) ∙ ap (map (is_slot_held_by d)) (sym is))

-- one event after another

pub found-within : (c i : ℕ) (slots : List Slot) → get_or (map (is_slot_held_by c) slots) i false ≡ true → i < length slots
found-within c i slots e =
    ⊎_elim (λ lt. lt)
    (λ past. absurd (let none = get_or_past (map (is_slot_held_by c) slots) i false (let l = length-map slots (is_slot_held_by c) in omega arith) in cc))
    (cases_lt i (length slots))

pub found-held : (c i : ℕ) (slots : List Slot) → get_or (map (is_slot_held_by c) slots) i false ≡ true → is_slot_held_by c (get_or slots i fresh) ≡ true
found-held c i slots e = sym (get_or-map_within (is_slot_held_by c) slots i fresh false (found-within c i slots e)) ∙ e

pub lost-is : (c p : ℕ) (sl : Slot) → is_slot_held_by c sl ≡ true → lost_slot c p sl ≡ lost_now p sl
lost-is c p sl t = ap (λ b. if b then lost_now p sl else sl) t

-- the end of what is left comes to the end of all
pub end-same : (c p i : ℕ) (slots : List Slot) → is_slot_held_by c (get_or slots i fresh) ≡ true
    → map (lost_slot c p) (set slots i (lost_now p (get_or slots i fresh))) ≡ map (lost_slot c p) slots
end-same c p i slots t = map-set_same (lost_slot c p) slots i (lost_now p (get_or slots i fresh)) fresh (sym (lost-is c p (get_or slots i fresh) t))

pub held-less : (c p i : ℕ) (slots : List Slot) → map (is_slot_held_by c) (set slots i (lost_now p (get_or slots i fresh))) ≡ set (map (is_slot_held_by c) slots) i false
held-less c p i slots = map-set (is_slot_held_by c) slots i (lost_now p (get_or slots i fresh))

pub count-less : (c p i : ℕ) (slots : List Slot) → i < length slots → is_slot_held_by c (get_or slots i fresh) ≡ true
    → count_by (is_slot_held_by c) (set slots i (lost_now p (get_or slots i fresh))) + 1 ≡ count_by (is_slot_held_by c) slots
count-less c p i slots lt t =
    let put = count_by-set (is_slot_held_by c) slots i (lost_now p (get_or slots i fresh)) fresh lt in
    let some : ◌≡◌ {A = ℕ} (if is_slot_held_by c (get_or slots i fresh) then 1 else 0) 1 = ap (λ (b : Bool). if b then 1 else 0) t in
    omega arith

-- nothing is left
pub record IsOver (c p : ℕ) (slots : List Slot) : Type 0 where
  pub same : map (lost_slot c p) slots ≡ slots
  pub none : count_by (is_slot_held_by c) slots ≡ 0

pub none-left : (c p : ℕ) (slots : List Slot) → ((k : ℕ) → get_or (map (is_slot_held_by c) slots) k false ≡ false) → IsOver c p slots
none-left c p [] all = record { same = refl; none = refl }
none-left c p (x ∷ xs) all =
    let rest = none-left c p xs (λ k. all (suc k)) in
    record {
      same = λ k. (if all 0 k then lost_now p x else x) ∷ rest.same k;
      none = let step = sum_by-cons (λ sl. cond (is_slot_held_by c sl) 1 0) x xs in
          let zero : ◌≡◌ {A = ℕ} (cond (is_slot_held_by c x) 1 0) 0 = ap (λ b. cond b 1 0) (all 0) in
          let left = rest.none in omega arith;
    }
