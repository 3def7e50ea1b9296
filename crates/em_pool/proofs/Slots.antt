-- One slot written, and what that changes of what is read.
use Rattle.std.proofs.Common.{◌≡◌, ◌≢◌, ℕ, ◌<◌, true, ◌==◌, ◌&&◌, nat_le, None, length, if◌then◌else◌, refl, ap, sym, ◌∙◌, subst, ⊎_elim, get_or-set_same, get_or-set_other}
use Rattle.std.specs.FinMap as finite
use Rattle.std.proofs.lemmas.Bool.{cases_eq}
use Rattle.em_log.specs.History.{index_of}
use Rattle.em_pool.specs.declared.slot.Slot.{Slot}
use Rattle.em_pool.specs.State.{PoolState, fresh, slot_at, generation_at, place_at, generation_of, is_minted, is_last, spent_at, holds, is_held_by}
use Rattle.em_pool.specs.Changes.{with_slot}
use Rattle.em_pool.proofs.Numbers.{from_test, same_handle, bool_cases}

-- what is true of the slot that is written, and of the others, is true of each
pub at_each : (v : PoolState) (i : ℕ) (x : Slot) → i < length v.slots → (P : ℕ → Slot → Type 0) → P i x
    → ((j : ℕ) → j ≢ i → P j (slot_at v j)) → (j : ℕ) → P j (slot_at (with_slot v i x) j)
at_each v i x lt P here others j =
    ⊎_elim
    (λ e. subst (λ k. P k (slot_at (with_slot v i x) k)) (sym e) (subst (P i) (sym (get_or-set_same v.slots i x fresh lt)) here))
    (λ ne. subst (P j) (sym (get_or-set_other v.slots i j x fresh ne)) (others j ne))
    (cases_eq j i)

pub at_same : (v : PoolState) (i : ℕ) (x : Slot) → i < length v.slots → slot_at (with_slot v i x) i ≡ x
at_same v i x lt = get_or-set_same v.slots i x fresh lt

pub at_other : (v : PoolState) (i j : ℕ) (x : Slot) → j ≢ i → slot_at (with_slot v i x) j ≡ slot_at v j
at_other v i j x ne = get_or-set_other v.slots i j x fresh ne

-- a slot of the same generation

module _ (v : PoolState) (i : ℕ) (x : Slot) (lt : i < length v.slots) (same : x.generation ≡ generation_at v i) where
  pub generation-same : (j : ℕ) → generation_at (with_slot v i x) j ≡ generation_at v j
  generation-same = at_each v i x lt (λ j sl. sl.generation ≡ generation_at v j) same (λ j ne. refl)

  pub minted-same : (h : ℕ) → is_minted (with_slot v i x) h ≡ is_minted v h
  minted-same h = ap (λ g. nat_le 1 (generation_of h) && nat_le (generation_of h) g) (generation-same (index_of h))

  pub last-same : (h : ℕ) → is_last (with_slot v i x) h ≡ is_last v h
  last-same h = ap (λ g. generation_of h == g) (generation-same (index_of h))

  -- a handle that is not the last of the index is spent as before
  pub spent-other : (w h : ℕ) → index_of w ≡ i → is_last v w ≡ true → w ≢ h → spent_at (with_slot v i x) h ≡ spent_at v h
  spent-other w h wi last ne =
      (λ k. if minted-same h k then (if last-same h k then (slot_at (with_slot v i x) (index_of h)).spent else finite.get v.older h) else None)
      ∙ ⊎_elim
      (λ t. let apart : index_of h ≢ i = (λ e. ne (same_handle w h
      (from_test (generation_of w) (generation_at v (index_of w)) last
      ∙ (ap (generation_at v) (wi ∙ sym e) ∙ sym (from_test (generation_of h) (generation_at v (index_of h)) t))) (wi ∙ sym e))) in
      ap (λ (sl : Slot). if is_minted v h then (if is_last v h then sl.spent else finite.get v.older h) else None) (at_other v i (index_of h) x apart))
      (λ f. ap (λ b. if is_minted v h then (if b then (slot_at (with_slot v i x) (index_of h)).spent else finite.get v.older h) else None) f
      ∙ sym (ap (λ b. if is_minted v h then (if b then (slot_at v (index_of h)).spent else finite.get v.older h) else None) f))
      (bool_cases (is_last v h))

  pub holds-other : (w c h : ℕ) → index_of w ≡ i → is_last v w ≡ true → w ≢ h → holds (with_slot v i x) c h ≡ holds v c h
  holds-other w c h wi last ne =
      (λ k. last-same h k && is_held_by c (place_at (with_slot v i x) (index_of h)))
      ∙ ⊎_elim
      (λ t. let apart : index_of h ≢ i = (λ e. ne (same_handle w h
      (from_test (generation_of w) (generation_at v (index_of w)) last
      ∙ (ap (generation_at v) (wi ∙ sym e) ∙ sym (from_test (generation_of h) (generation_at v (index_of h)) t))) (wi ∙ sym e))) in
      ap (λ (sl : Slot). is_last v h && is_held_by c sl.place) (at_other v i (index_of h) x apart))
      (λ f. ap (λ b. b && is_held_by c (place_at (with_slot v i x) (index_of h))) f
      ∙ sym (ap (λ b. b && is_held_by c (place_at v (index_of h))) f))
      (bool_cases (is_last v h))
