-- What writes append to a sink, one after the other, and what a failing one leaves.
use Rattle.std.proofs.Common.{◌≡◌, ℕ, zero, suc, ◌+◌, List, [], ◌∷◌, ◌++◌, length, take, Option, Some, None, refl, sym, ap, ◌∙◌, append_assoc}
use Rattle.std.specs.Io.KnownBytes.{append_known}
use Rattle.std.proofs.Math.Seq.{take-append-add}
use Rattle.em_io.specs.Sink.{AppendsPrefix}

append-then : (a : Option (List ℕ)) (x y : List ℕ) → append_known (append_known a x) y ≡ append_known a (x ++ y)
append-then None x y = refl
append-then (Some xs) x y = ap (λ t. Some t) (append_assoc xs x y)

-- one piece after the other
pub appends_then : (a b c : Option (List ℕ)) (x y : List ℕ) → b ≡ append_known a x → c ≡ append_known b y → c ≡ append_known a (x ++ y)
appends_then a b c x y p q = q ∙ ap (λ o. append_known o y) p ∙ append-then a x y

take-prefix : (n : ℕ) (y z : List ℕ) → (m : ℕ) × (take n y ≡ take m (y ++ z))
take-prefix zero y z = (0, refl)
take-prefix (suc n) [] z = (0, refl)
take-prefix (suc n) (b ∷ bs) z =
    let more = take-prefix n bs z in
    (suc more.0, ap (λ t. b ∷ t) more.1)

-- whole pieces and a part of the next
pub prefix_then : (a b c : Option (List ℕ)) (x y z : List ℕ) → b ≡ append_known a x → AppendsPrefix b c y → AppendsPrefix a c (x ++ (y ++ z))
prefix_then a b c x y z p q =
    let m = take-prefix q.0 y z in
    let e : take (length x + m.0) (x ++ (y ++ z)) ≡ x ++ take q.0 y = take-append-add x (y ++ z) m.0 ∙ ap (λ t. x ++ t) (sym m.1) in
    (length x + m.0, appends_then a b c x (take q.0 y) p q.1 ∙ ap (λ t. append_known a t) (sym e))

pub prefix_first : (a c : Option (List ℕ)) (y z : List ℕ) → AppendsPrefix a c y → AppendsPrefix a c (y ++ z)
prefix_first a c y z q = let m = take-prefix q.0 y z in (m.0, q.1 ∙ ap (λ t. append_known a t) m.1)
