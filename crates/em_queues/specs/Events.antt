-- Lists of events: the events of each, and for each event whether it is in one.
use Rattle.std.specs.Prelude.{ℕ, Bool, List, [], slice_index_or, refl}
use Rattle.std.specs.Coded.{Coded, code_by, coded×, coded_ℕ, coded_bool, coded_list}

pub record EventState : Type 0 where
  pub lists : List (List ℕ)
  pub listed : List Bool

abbrev pub event_code : Coded EventState
event_code =
    code_by (List (List ℕ) × List Bool) (coded× (coded_list (coded_list coded_ℕ)) (coded_list coded_bool)) (λ v. (v.lists, v.listed))
    (λ p. record { lists = p.0; listed = p.1 })
    (λ _. refl)

abbrev pub list_in : List (List ℕ) → ℕ → List ℕ
list_in lists l = slice_index_or lists l []

abbrev pub list_at : EventState → ℕ → List ℕ
list_at v l = list_in v.lists l
