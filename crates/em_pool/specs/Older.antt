-- How older handles were spent: a finite map, and how many more it has room for.
use Rattle.std.specs.Prelude.{ℕ, refl}
use Rattle.std.specs.Ordering.{nat_cmp}
use Rattle.std.specs.Coded.{Coded, code_by, coded×, coded_ℕ}
use Rattle.std.specs.FinMap as map
use Rattle.std.specs.HashMap.{spare}
use Rattle.em_pool.specs.declared.place.Spent.{Spent}
use Rattle.em_pool.specs.Codes.{spent_code}
use Rattle.em_pool.specs.declared.older.Older.TheInside.{Inside}

-- how each handle was spent
abbrev pub SpentHandles : Type 0
SpentHandles = map.FinMap nat_cmp Spent

abbrev pub spent_handles_code : Coded SpentHandles
spent_handles_code = map.code coded_ℕ spent_code

pub record OlderState : Type 0 where
  pub spent : SpentHandles
  pub room : ℕ

abbrev pub older_code : Coded OlderState
older_code =
    code_by (SpentHandles × ℕ) (coded× spent_handles_code coded_ℕ) (λ o. (o.spent, o.room)) (λ p. record { spent = p.0; room = p.1 })
    (λ _. refl)

abbrev pub older_state : Inside → OlderState
older_state a = record { spent = map.from_entries a.spent.entries; room = spare a.spent }
