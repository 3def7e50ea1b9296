-- What the calls say of the seat, from what their steps told.
use Rattle.std.proofs.Common.{◌≡◌, ℕ, true, false, true≢false, ◌<◌, List, [], ◌∷◌, refl, sym, ap, ◌∙◌, subst}
use Rattle.std.specs.Prelude.{Option, Some, None}
use Rattle.atomic_table.specs.Table.{rest, Me}
use Rattle.atomic_table.specs.Seated.{TableId}
use Rattle.em_log.specs.Items.{LogItem, Fixed}
use Rattle.em_turn.specs.Numbers.{After}
use Rattle.em_turn.specs.Views.{Stage, Idle, Waiting, Inside, Known}
use Rattle.em_turn.specs.Steps.{with_ticket, entered, Seated, Enters}
use Rattle.em_turn.specs.Seats.{SeatView, is_inside, is_waiting, carries, shown, IsSettled}

module _ {A : Type 0} where
  abbrev in_hand : A → List (ℕ × A) → A
  in_hand d [] = d
  in_hand d (c ∷ cs) = c.1

  pub one_slot : (a b : A) (l : List (ℕ × A)) (cs ds : List (ℕ × A)) → l ≡ (0, a) ∷ cs → l ≡ (0, b) ∷ ds → a ≡ b
  one_slot a b l cs ds e f = ap (in_hand a) (sym e ∙ f)

module _ {V : Type 0} where
  abbrev payload : V → Option V → V
  payload d None = d
  payload d (Some x) = x

  pub some_same : (x y : V) → Some x ≡ Some y → x ≡ y
  some_same x y e = ap (payload x) e

module _ {V : Type 0} (items : V → List LogItem) (fixed_of : V → Fixed) where
  -- a look that took the slot, the exchange of its value for None, and that value
  pub enter_gives : (v : Known) (n : ℕ) (m m' m'' : Seated V) (old : Option V) (y : V) → m ≡ (with_ticket v n, []) → Enters items fixed_of m m' → m'.1 ≡ (0, old) ∷ rest m'.1 → m'' ≡ (m'.0, (0, None) ∷ rest m'.1) → old ≡ Some y
      → (m'' ≡ (entered (with_ticket v n) (items y), (0, None) ∷ [])) × (fixed_of y ≡ v.fixed) × After (items y) v.own
  enter_gives v n m m' m'' old y is took had now value =
      let x : V = took.0 in let same : x ≡ y = some_same x y (one_slot (Some x) old m'.1 m.1 (rest m'.1) (ap (λ z. z.1) took.1) had ∙ value) in
      let r : rest m'.1 ≡ [] = ap (λ z. rest z.1) took.1 ∙ ap (λ z. z.1) is in (
        now ∙ (λ i. ((took.1 i).0, (0, None) ∷ r i)) ∙ (λ i. (entered (is i).0 (items (same i)), (0, None) ∷ [])),
        ap fixed_of (sym same) ∙ took.2 ∙ ap (λ z. z.0.fixed) is,
        subst (λ (z : V × Known). After (items z.0) z.1.own) (λ i. (same i, (is i).0)) took.3,
      )

idle_stage : (s : Stage) → is_inside s ≡ false → is_waiting s ≡ false → s ≡ Idle
idle_stage Idle a b = refl
idle_stage Waiting a b = absurd (true≢false b)
idle_stage Inside a b = absurd (true≢false a)

inside_stage : (s : Stage) → is_inside s ≡ true → s ≡ Inside
inside_stage Idle a = absurd (true≢false (sym a))
inside_stage Waiting a = absurd (true≢false (sym a))
inside_stage Inside a = refl

module _ {V : Type 0} where
  -- a seat without the turn, between two calls
  pub at_rest : (id : TableId) (me : Me (Option V) Known) (s : SeatView) → shown id me.0 ≡ s → IsSettled me → s.inside ≡ false → (me.0.stage ≡ Idle) × (0 < me.0.parts) × (me.1 ≡ [])
  at_rest id me s is settled out = let st = idle_stage me.0.stage (ap (λ z. z.inside) is ∙ out) settled.1 in (st, settled.0, settled.2 ∙ ap carries st)

  -- a seat with the turn
  pub has_turn : (id : TableId) (me : Me (Option V) Known) (s : SeatView) → shown id me.0 ≡ s → IsSettled me → s.inside ≡ true → (me.0.stage ≡ Inside) × (0 < me.0.parts) × (me.1 ≡ (0, None) ∷ [])
  has_turn id me s is settled out = let st = inside_stage me.0.stage (ap (λ z. z.inside) is ∙ out) in (st, settled.0, settled.2 ∙ ap carries st)
