-- Cores in their order.
use Rattle.std.proofs.Common.{◌≡◌, ◌<◌, ◌==◌, ◌||◌, Bool, true, false, Contains, take, ◌∙◌, refl, sym, ℕ, suc, length, get_or, arith, eqb-true, List, [], ◌∷◌, ap}
use Rattle.em_log.specs.History.{has}
use Rattle.em_log.specs.Laws.{AreDifferent}
use Rattle.em_tool.specs.Decimal.{AllFit, AreNumbers}
use Rattle.em_tool.specs.declared.commands.Solo.{Solo}
use Rattle.em_tool.specs.Words.{IsOrder}

AllFit-below : (ns : List ℕ) → ((i : ℕ) → i < length ns → get_or ns i 0 < 64) → AllFit ns
AllFit-below [] small = tt
AllFit-below (n ∷ ns) small = (let first = small 0 (omega arith) in omega arith, AllFit-below ns (λ i below. small (suc i) (omega arith)))

AreNumbers-below : (ns : List ℕ) → 0 < length ns → ((i : ℕ) → i < length ns → get_or ns i 0 < 64) → AreNumbers ns
AreNumbers-below [] some small = absurd (omega arith)
AreNumbers-below (n ∷ ns) some small = AllFit-below (n ∷ ns) small

pub AreNumbers-order : (ns : List ℕ) → IsOrder ns → AreNumbers ns
AreNumbers-order ns is = AreNumbers-below ns is.some is.cores

-- what is among them stands at some place
has-place : (ns : List ℕ) (n : ℕ) → has ns n ≡ true → (i : ℕ) × (i < length ns) × (get_or ns i 0 ≡ n)
has-place [] n e = absurd (cc (e))
has-place (m ∷ ns) n e = by_test (m == n) refl e (has-place ns n)
  where
    by_test : (b : Bool) → (m == n) ≡ b → (b || has ns n) ≡ true → (has ns n ≡ true → (i : ℕ) × (i < length ns) × (get_or ns i 0 ≡ n))
        → (i : ℕ) × (i < length (m ∷ ns)) × (get_or (m ∷ ns) i 0 ≡ n)
    by_test true same e rest = (0, omega arith, eqb-true m n same)
    by_test false other e rest = let found = rest e in (suc found.0, (let below = found.1 in omega (arith, below)), found.2)

-- different by place is different one by one
apart : (ns : List ℕ) → ((i : ℕ) → i < length ns → ¬ (Contains (take i ns) (get_or ns i 0))) → AreDifferent ns
apart [] different = tt
apart (n ∷ ns) different = (by_test (has ns n) refl, apart ns (λ i below stands. different (suc i) (omega (arith, below)) (suc stands.0, omega (arith, stands.1), stands.2)))
  where
    by_test : (b : Bool) → has ns n ≡ b → has ns n ≡ false
    by_test false e = e
    by_test true e =
        let found = has-place ns n e in
        let below = found.1 in
        absurd (different (suc found.0) (omega (arith, below)) (0, omega arith, sym found.2))

pub AreDifferent-order : (ns : List ℕ) → IsOrder ns → AreDifferent ns
AreDifferent-order ns is = apart ns is.different

abbrev whole : ℕ → ℕ → List ℕ → Solo
whole receives burst order = record { limits = record { receives = receives; burst = burst }; order = order }

pub solo-equals : (receives : ℕ) (order : List ℕ) (solo : Solo) → receives ≡ solo.limits.receives → 1 ≡ solo.limits.burst → order ≡ solo.order
    → ◌≡◌ {A = Solo} (record { limits = record { receives = receives; burst = 1 }; order = order }) solo
solo-equals receives order solo first second third =
    ap (λ (n : ℕ). whole n 1 order) first ∙ ap (λ (n : ℕ). whole solo.limits.receives n order) second ∙ ap (λ (o : List ℕ). whole solo.limits.receives solo.limits.burst o) third
