-- The parts of a graph that runs today.
use Rattle.std.proofs.Common.{◌≡◌, ℕ, zero, suc, Bool, true, false, not, ◌&&◌, ◌||◌, List, [], ◌∷◌, Option, Some, refl, subst, IsTrue, slice_get}
use Rattle.std.proofs.lemmas.Bool.{and_parts}
use Rattle.std.specs.List.{list_all}
use Rattle.em_log.specs.declared.graph.Config.{Config}
use Rattle.em_log.specs.declared.graph.EoDecl.{EoDecl}
use Rattle.em_drive.specs.Runnable.{is_runnable, is_runnable_object, is_runnable_body, is_runnable_error}

-- lists

pub all-get : {X : Type 0} (p : X → Bool) (xs : List X) (i : ℕ) (x : X) → list_all p xs ≡ true → slice_get xs i ≡ Some x → p x ≡ true
all-get p [] i x all is = absurd (cc is)
all-get p (y ∷ ys) zero x all is = let e : y ≡ x = cc is in subst (λ z. p z ≡ true) e (and_parts (p y) (list_all p ys) all).0
all-get p (y ∷ ys) (suc i) x all is = all-get p ys i x (and_parts (p y) (list_all p ys) all).1 is

-- what each element passes, a test that follows from it passes too
all-more : {X : Type 0} (p q : X → Bool) (xs : List X) → ((x : X) → p x ≡ true → q x ≡ true) → list_all p xs ≡ true → list_all q xs ≡ true
all-more p q [] more h = refl
all-more p q (x ∷ xs) more h =
    let parts = and_parts (p x) (list_all p xs) h in
    let here = more x parts.0 in
    let rest = all-more p q xs more parts.1 in
    rw (here, rest) refl

-- the parts of the test

pub record Parts (g : Config) : Type 0 where
  pub objects : IsTrue (list_all is_runnable_object g.eos)
  pub boot : IsTrue (is_runnable_body g.boot)
  pub error : IsTrue (is_runnable_error g.error)

pub runnable-parts : (g : Config) → IsTrue (is_runnable g) → Parts g
runnable-parts g h =
    let objects : Bool = list_all is_runnable_object g.eos in
    let a = and_parts (objects && is_runnable_body g.boot) (is_runnable_error g.error) h in
    let b = and_parts objects (is_runnable_body g.boot) a.0 in
    record { objects = b.0; boot = b.1; error = a.1 }

-- objects

pub record ObjectParts (d : EoDecl) : Type 0 where
  pub running : d.running ≡ true
  pub receive : IsTrue (is_runnable_body d.receive)
  pub start : d.given.start ≡ false
  pub stop : d.given.stop ≡ false
  pub lstart : d.given.lstart ≡ false
  pub lstop : d.given.lstop ≡ false
  pub error : IsTrue (is_runnable_error d.error)

none-given : (a b c d : Bool) → not (a || b || c || d) ≡ true → (a ≡ false) × (b ≡ false) × (c ≡ false) × (d ≡ false)
none-given false false false false h = (refl, refl, refl, refl)
none-given true b c d h = absurd cc
none-given false true c d h = absurd cc
none-given false false true d h = absurd cc
none-given false false false true h = absurd cc

pub object-parts : (d : EoDecl) → IsTrue (is_runnable_object d) → ObjectParts d
object-parts d h =
    let given : Bool = not (d.given.start || d.given.stop || d.given.lstart || d.given.lstop) in
    let a = and_parts (d.running && is_runnable_body d.receive && given) (is_runnable_error d.error) h in
    let b = and_parts (d.running && is_runnable_body d.receive) given a.0 in
    let c = and_parts d.running (is_runnable_body d.receive) b.0 in
    let e = none-given d.given.start d.given.stop d.given.lstart d.given.lstop b.1 in
    record { running = c.0; receive = c.1; start = e.0; stop = e.1; lstart = e.2; lstop = e.3; error = a.1 }

pub runnable-objects : (g : Config) → IsTrue (is_runnable g) → IsTrue (list_all (λ d. is_runnable_error d.error) g.eos)
runnable-objects g h =
    all-more is_runnable_object (λ d. is_runnable_error d.error) g.eos (λ d is. (object-parts d is).error) (runnable-parts g h).objects
