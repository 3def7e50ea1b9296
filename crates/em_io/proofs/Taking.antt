-- What reads take from a source, one after the other.
use Rattle.std.proofs.Common.{◌≡◌, ◌≤◌, ℕ, List, [], ◌++◌, ◌↔◌, None, Some, IfSome, refl, sym, ap, ◌∙◌, append_assoc, take, arith, length-append}
use Rattle.std.specs.Prelude.{Option}
use Rattle.std.specs.Io.KnownBytes.{prepend_known, IsAtEnd}
use Rattle.std.proofs.KnownBytes.{prepend_known-nil}
use Rattle.em_io.specs.Source.{Takes}

pub Takes-nil : (left : Option (List ℕ)) (given : ℕ) → Takes left left given given []
Takes-nil left given = record { left = sym (prepend_known-nil left); given = omega arith }

prepend_known-twice : (xs ys : List ℕ) (left : Option (List ℕ)) → prepend_known xs (prepend_known ys left) ≡ prepend_known (xs ++ ys) left
prepend_known-twice xs ys None = refl
prepend_known-twice xs ys (Some zs) = ap Some (sym (append_assoc xs ys zs))

pub Takes-trans : {a b c : Option (List ℕ)} {m n k : ℕ} (xs ys : List ℕ) → Takes a b m n xs → Takes b c n k ys → Takes a c m k (xs ++ ys)
Takes-trans xs ys first second = record {
  left = first.left ∙ ap (prepend_known xs) second.left ∙ prepend_known-twice xs ys _;
  given = let joined = length-append xs ys in omega arith;
}

-- a read that moved nothing, though it had room, found the end
pub Takes-end : {n : ℕ} {a b : Option (List ℕ)} {g h : ℕ} (buf : List ℕ) → Takes a b g h (take n buf) → n ≡ 0 → IfSome a (λ rest. (n ≡ 0) ↔ (rest ≡ [])) → IsAtEnd b
Takes-end {b = None} buf taken none end = tt
Takes-end {n} {a = Some xs} {b = Some ys} buf taken none end =
    let all : xs ≡ take n buf ++ ys = cc (taken.left) in
    let front : take n buf ≡ [] = rw none refl in
    let empty : xs ≡ [] = end.0 none in
    cc
Takes-end {a = None} {b = Some ys} buf taken none end = absurd (cc (taken.left))
