-- Codes of what the pools keep, by which its values are told apart.
use Rattle.std.specs.Prelude.{ℕ, ◌≡◌, ◌⊎◌, Bool, List, Option, refl}
use Rattle.std.specs.Coded.{Coded, code_by, coded×, coded⊎, coded_ℕ, coded_bool, coded_list, coded_option}
use base.Stored.{coded_unit}
use mathlib.Core.Logic.{inl, inr}
use Rattle.em_log.specs.declared.declarations.PoolShape.{PoolShape}
use Rattle.em_pool.specs.declared.place.Place.{Place}
use Rattle.em_pool.specs.declared.place.Spent.{Spent}
use Rattle.em_pool.specs.declared.slot.Slot.{Slot}

abbrev pub spent_code : Coded Spent
spent_code =
    code_by (Bool × ℕ) (coded× coded_bool coded_ℕ) (λ s. (s.freed, s.place)) (λ p. record { freed = p.0; place = p.1 }) (λ _. refl)

abbrev pub shape_code : Coded PoolShape
shape_code =
    code_by (ℕ × ℕ) (coded× coded_ℕ coded_ℕ) (λ d. (d.events, d.words)) (λ p. record { events = p.0; words = p.1 }) (λ _. refl)

abbrev pub Constants : Type 0
Constants = Unit {0} ⊎ (Unit {0} ⊎ Unit {0})

abbrev pub Places : Type 0
Places = Constants ⊎ (ℕ ⊎ (ℕ ⊎ (ℕ ⊎ (ℕ ⊎ ℕ))))

abbrev pub place_cases : Place → Places
place_cases Place.Free = inl (inl tt)
place_cases Place.Noted = inl (inr (inl tt))
place_cases Place.Lost = inl (inr (inr tt))
place_cases (Place.Held c) = inr (inl c.0)
place_cases (Place.Kept x) = inr (inr (inl x.0))
place_cases (Place.Waiting q) = inr (inr (inr (inl q.0)))
place_cases (Place.Taken c) = inr (inr (inr (inr (inl c.0))))
place_cases (Place.Delayed q) = inr (inr (inr (inr (inr q.0))))

abbrev pub place_from : Places → Place
place_from (inl (inl _)) = Place.Free
place_from (inl (inr (inl _))) = Place.Noted
place_from (inl (inr (inr _))) = Place.Lost
place_from (inr (inl n)) = Place.Held (record { 0 = n })
place_from (inr (inr (inl n))) = Place.Kept (record { 0 = n })
place_from (inr (inr (inr (inl n)))) = Place.Waiting (record { 0 = n })
place_from (inr (inr (inr (inr (inl n))))) = Place.Taken (record { 0 = n })
place_from (inr (inr (inr (inr (inr n))))) = Place.Delayed (record { 0 = n })

pub place_from_cases : (p : Place) → place_from (place_cases p) ≡ p
place_from_cases Place.Free = refl
place_from_cases Place.Noted = refl
place_from_cases Place.Lost = refl
place_from_cases (Place.Held c) = refl
place_from_cases (Place.Kept x) = refl
place_from_cases (Place.Waiting q) = refl
place_from_cases (Place.Taken c) = refl
place_from_cases (Place.Delayed q) = refl

abbrev pub place_code : Coded Place
place_code =
    code_by Places (coded⊎ (coded⊎ coded_unit (coded⊎ coded_unit coded_unit)) (coded⊎ coded_ℕ (coded⊎ coded_ℕ (coded⊎ coded_ℕ (coded⊎ coded_ℕ coded_ℕ)))))
    place_cases place_from place_from_cases

abbrev pub slot_code : Coded Slot
slot_code =
    code_by (ℕ × (ℕ × (List ℕ × (Place × Option Spent))))
    (coded× coded_ℕ (coded× coded_ℕ (coded× (coded_list coded_ℕ) (coded× place_code (coded_option spent_code)))))
    (λ s. (s.generation, (s.kind, (s.words, (s.place, s.spent)))))
    (λ p. record { generation = p.0; kind = p.1.0; words = p.1.1.0; place = p.1.1.1.0; spent = p.1.1.1.1 })
    (λ _. refl)
