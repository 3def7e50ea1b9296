-- Digits and the numbers that they spell.
use Rattle.std.proofs.Common.{◌≡◌, ℕ, ◌+◌, ◌-◌, ◌*◌, ◌^◌, ◌<◌, ◌≤◌, List, [], ◌∷◌, length, get_or, drop, refl, arith, add-one, drop-cons}
use Rattle.em_script.specs.Numerals.{value_from}

pub value_from-ge : (n : ℕ) (ds : List ℕ) → n ≤ value_from n ds
value_from-ge n [] = omega arith
value_from-ge n (c ∷ cs) = omega (arith, value_from-ge (10 * n + (c - 48)) cs)

-- one digit more
pub value_from_more : (n : ℕ) (ds : List ℕ) (i : ℕ) → i < length ds → value_from n (drop i ds) ≡ value_from (10 * n + (get_or ds i 0 - 48)) (drop (i + 1) ds)
value_from_more n ds i lt = rw (add-one, drop-cons ds i 0) refl

pub value_from_large : (n : ℕ) (ds : List ℕ) (i : ℕ) → i < length ds → 2 ^ 64 ≤ 10 * n + (get_or ds i 0 - 48) → 2 ^ 64 ≤ value_from n (drop i ds)
value_from_large n ds i lt h = rw (value_from_more n ds i lt) (omega (arith, value_from-ge (10 * n + (get_or ds i 0 - 48)) (drop (i + 1) ds)))
