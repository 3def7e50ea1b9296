-- What a reading that gives a value says of its steps.
use Rattle.std.proofs.Common.{◌≡◌, Bool, true, false, cond, Option, Some, None, refl, ap, inl, inr, ◌⊎◌}
use Rattle.em_script.specs.Lines.{Rest}
use Rattle.em_script.specs.Form.{◌>>=◌, given}

pub some-is : {A : Type 0} (x y : A) → ◌≡◌ {A = Option A} (Some x) (Some y) → x ≡ y
some-is x y e = cc

pub bind-none : {A B : Type 0} (o : Option A) (g : A → Option B) → ((x : A) → o ≡ Some x → g x ≡ None) → (o >>= g) ≡ None
bind-none None g h = refl
bind-none (Some x) g h = h x refl

pub bind-some : {A B : Type 0} (o : Option A) (g : A → Option B) (y : B) → (o >>= g) ≡ Some y → (x : A) × (o ≡ Some x) × (g x ≡ Some y)
bind-some None g y e = absurd cc
bind-some (Some x) g y e = (x, refl, e)

pub cond-some : {A : Type 0} (b : Bool) (x y : A) → cond b (Some x) None ≡ Some y → (b ≡ true) × (x ≡ y)
cond-some true x y e = (refl, cc)
cond-some false x y e = absurd cc

pub test-some : {A : Type 0} (b : Bool) (o : Option A) (y : A) → cond b o None ≡ Some y → (b ≡ true) × (o ≡ Some y)
test-some true o y e = (refl, e)
test-some false o y e = absurd cc

pub given-some : {A B : Type 0} (to : A → B) (read : Option (A × Rest)) (y : B) (s' : Rest) → given to read ≡ Some (y, s') → (x : A) × (read ≡ Some (x, s')) × (to x ≡ y)
given-some to None y s' e = absurd cc
given-some to (Some x) y s' e =
    let p = some-is (to x.0, x.1) (y, s') e in
    let rest : x.1 ≡ s' = ap (λ q. q.1) p in
    (x.0, ap (λ r. Some (x.0, r)) rest, ap (λ q. q.0) p)

pub chosen-some : {A : Type 0} (b : Bool) (x y : A) (o : Option A) → cond b (Some x) o ≡ Some y → ((b ≡ true) × (x ≡ y)) ⊎ (o ≡ Some y)
chosen-some true x y o e = inl (refl, cc)
chosen-some false x y o e = inr e

pub tested : {A : Type 0} (b : Bool) (o p : Option A) (y : A) → cond b o p ≡ Some y → ((b ≡ true) × (o ≡ Some y)) ⊎ (p ≡ Some y)
tested true o p y e = inl (refl, e)
tested false o p y e = inr e
