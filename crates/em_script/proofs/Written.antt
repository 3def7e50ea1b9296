-- The bodies that have been written, and one more of them.
use Rattle.std.proofs.Common.{◌≡◌, ℕ, zero, suc, ◌+◌, ◌<◌, Bool, true, false, List, [], ◌∷◌, ◌++◌, length, Option, Some, None, refl, sym, ap, subst, arith}
use Rattle.std.specs.Prelude.{slice_get, IsPermutation, is_some, ◌||◌}
use Rattle.std.specs.Option.{option_map_or}
use Rattle.std.proofs.lemmas.List.Sorted.{IsPermutation-refl, IsPermutation-trans, IsPermutation-append_right, IsPermutation-append_left, IsPermutation-middle}
use Rattle.em_log.specs.declared.body.Stmt.{Stmt}
use Rattle.em_log.specs.declared.graph.Config.{Config}
use Rattle.em_log.specs.declared.graph.EoDecl.{EoDecl}
use Rattle.em_log.specs.declared.ids.EoId.{EoId}
use Rattle.em_script.specs.declared.line.Part.{Part}
use Rattle.em_script.specs.declared.line.Part.TheVariants as parts
use Rattle.em_script.specs.declared.line.Place.{Place}
use Rattle.em_script.specs.declared.line.Place.TheVariants as places
use Rattle.em_script.specs.declared.phase.Phase.TheVariants as phases
use Rattle.em_script.specs.Spelling.{Placed, written_body, optional_body, bodies_of, bodies_of_object, bodies_of_objects}
use Rattle.em_script.specs.State.{State, body_ended, with_part, with_body_at}
use Rattle.em_script.specs.Judging.{is_given, has_part}
use Rattle.em_script.proofs.Agreeing.{with_body_at-behind}

-- the bodies that have been written so far
abbrev pub written : State → List Placed
written s = written_body s.has_boot places.Boot s.graph.boot ++ (optional_body places.Error s.graph.error ++ bodies_of_objects 0 s.graph.eos)

-- when boot is given, these are all bodies of the graph
pub written-all : (s : State) → s.has_boot ≡ true → written s ≡ bodies_of s.graph
written-all s e = ap (λ b. written_body b places.Boot s.graph.boot ++ (optional_body places.Error s.graph.error ++ bodies_of_objects 0 s.graph.eos)) e

-- one more behind a front is one more
pass : {A : Type 0} (front xs ys : List A) (x : A) → IsPermutation xs (x ∷ ys) → IsPermutation (front ++ xs) (x ∷ (front ++ ys))
pass front xs ys x p = IsPermutation-trans (front ++ xs) (front ++ x ∷ ys) (x ∷ (front ++ ys)) (IsPermutation-append_right front xs (x ∷ ys) p) (IsPermutation-middle front x ys)

here : (w : Bool) (p : Place) (old new : List Stmt) (rest : List Placed) → w ≡ false → IsPermutation (written_body true p new ++ rest) ((p, new) ∷ (written_body w p old ++ rest))
here w p old new rest e = rw e (IsPermutation-refl ((p, new) ∷ rest))

optional : (o : Option (List Stmt)) (p : Place) (b : List Stmt) → is_some o ≡ false → IsPermutation (optional_body p (Some b)) ((p, b) ∷ optional_body p o)
optional None p b e = IsPermutation-refl ((p, b) ∷ [])
optional (Some x) p b e = absurd cc

of_object : (eo : EoId) (p : Part) (b : List Stmt) (d : EoDecl) → has_part p d ≡ false → IsPermutation (bodies_of_object eo (with_part p b d)) ((places.Object eo p, b) ∷ bodies_of_object eo d)
of_object eo parts.Receive b d e = here d.given.receive (places.Object eo parts.Receive) d.receive b _ e
of_object eo parts.Start b d e = pass (written_body d.given.receive (places.Object eo parts.Receive) d.receive) _ _ _ (here d.given.start (places.Object eo parts.Start) d.start b _ e)
of_object eo parts.Stop b d e =
    pass (written_body d.given.receive (places.Object eo parts.Receive) d.receive) _ _ _
    (pass (written_body d.given.start (places.Object eo parts.Start) d.start) _ _ _ (here d.given.stop (places.Object eo parts.Stop) d.stop b _ e))
of_object eo parts.LocalStart b d e =
    pass (written_body d.given.receive (places.Object eo parts.Receive) d.receive) _ _ _
    (pass (written_body d.given.start (places.Object eo parts.Start) d.start) _ _ _
    (pass (written_body d.given.stop (places.Object eo parts.Stop) d.stop) _ _ _ (here d.given.lstart (places.Object eo parts.LocalStart) d.lstart b _ e)))
of_object eo parts.LocalStop b d e =
    pass (written_body d.given.receive (places.Object eo parts.Receive) d.receive) _ _ _
    (pass (written_body d.given.start (places.Object eo parts.Start) d.start) _ _ _
    (pass (written_body d.given.stop (places.Object eo parts.Stop) d.stop) _ _ _
    (pass (written_body d.given.lstart (places.Object eo parts.LocalStart) d.lstart) _ _ _ (here d.given.lstop (places.Object eo parts.LocalStop) d.lstop b _ e))))
of_object eo parts.Error b d e =
    pass (written_body d.given.receive (places.Object eo parts.Receive) d.receive) _ _ _
    (pass (written_body d.given.start (places.Object eo parts.Start) d.start) _ _ _
    (pass (written_body d.given.stop (places.Object eo parts.Stop) d.stop) _ _ _
    (pass (written_body d.given.lstart (places.Object eo parts.LocalStart) d.lstart) _ _ _
    (pass (written_body d.given.lstop (places.Object eo parts.LocalStop) d.lstop) _ _ _ (optional d.error (places.Object eo parts.Error) b e)))))

-- the object of this number, where objects are numbered from m on
object_at : ℕ → ℕ → EoId
object_at m n = record { 0 = m + n }

number-zero : (m : ℕ) → object_at m zero ≡ record { 0 = m }
unfolding object_at
number-zero m = ap (λ (k : ℕ). record { 0 = k }) (let e : m + 0 ≡ m = omega arith in e)

number-suc : (m n : ℕ) → object_at m (suc n) ≡ object_at (suc m) n
unfolding object_at
number-suc m n = ap (λ (k : ℕ). record { 0 = k }) (let e : m + suc n ≡ suc m + n = omega arith in e)

of_objects : (m n : ℕ) (p : Part) (b : List Stmt) (eos : List EoDecl) → n < length eos → option_map_or (has_part p) (slice_get eos n) false ≡ false
    → IsPermutation (bodies_of_objects m (with_body_at n p b eos)) ((places.Object (object_at m n) p, b) ∷ bodies_of_objects m eos)
of_objects m n p b [] lt e = absurd (omega arith)
of_objects m zero p b (d ∷ ds) lt e =
    subst (λ (eo : EoId). IsPermutation (bodies_of_object (record { 0 = m }) (with_part p b d) ++ bodies_of_objects (suc m) ds) ((places.Object eo p, b) ∷ (bodies_of_object (record { 0 = m }) d ++ bodies_of_objects (suc m) ds))) (sym (number-zero m))
    (IsPermutation-append_left (bodies_of_objects (suc m) ds) (bodies_of_object (record { 0 = m }) (with_part p b d)) ((places.Object (record { 0 = m }) p, b) ∷ bodies_of_object (record { 0 = m }) d) (of_object (record { 0 = m }) p b d e))
of_objects m (suc n) p b (d ∷ ds) lt e =
    let tail = of_objects (suc m) n p b ds (omega arith) e in
    let whole : IsPermutation (bodies_of_object (record { 0 = m }) d ++ bodies_of_objects (suc m) (with_body_at n p b ds)) ((places.Object (object_at (suc m) n) p, b) ∷ (bodies_of_object (record { 0 = m }) d ++ bodies_of_objects (suc m) ds)) = pass (bodies_of_object (record { 0 = m }) d) _ _ _ tail in
    let named = subst (λ (eo : EoId). IsPermutation (bodies_of_object (record { 0 = m }) d ++ bodies_of_objects (suc m) (with_body_at n p b ds)) ((places.Object eo p, b) ∷ (bodies_of_object (record { 0 = m }) d ++ bodies_of_objects (suc m) ds))) (sym (number-suc m n)) whole in
    subst (λ eos. IsPermutation (bodies_of_objects m eos) ((places.Object (object_at m (suc n)) p, b) ∷ bodies_of_objects m (d ∷ ds))) (sym (with_body_at-behind n p b d ds)) named

-- the place is in the graph
abbrev pub IsPlace : Config → Place → Type 0
IsPlace g places.Boot = Unit {0}
IsPlace g places.Error = Unit {0}
IsPlace g (places.Object eo p) = eo.0 < length g.eos

number-of : (eo : EoId) → object_at 0 eo.0 ≡ eo
unfolding object_at
number-of eo = ap (λ (k : ℕ). record { 0 = k }) (let e : 0 + eo.0 ≡ eo.0 = omega arith in e)

boot-more : (h : Bool) (old new : List Stmt) (rest : List Placed) → h ≡ false → IsPermutation (written_body (h || true) places.Boot new ++ rest) ((places.Boot, new) ∷ (written_body h places.Boot old ++ rest))
boot-more true old new rest e = absurd cc
boot-more false old new rest e = IsPermutation-refl ((places.Boot, new) ∷ rest)

kept : (h : Bool) (b : List Stmt) (rest : List Placed) → written_body (h || false) places.Boot b ++ rest ≡ written_body h places.Boot b ++ rest
kept true b rest = refl
kept false b rest = refl

-- a body that ends is one more
pub written-more : (p : Place) (s : State) → IsPlace s.graph p → is_given s p ≡ false → IsPermutation (written (body_ended (phases.Body p) s)) ((p, s.block) ∷ written s)
written-more places.Boot s place e = boot-more s.has_boot s.graph.boot s.block _ e
written-more places.Error s place e =
    let b = s.block in
    let rest = bodies_of_objects 0 s.graph.eos in
    let more = IsPermutation-append_left rest (optional_body places.Error (Some b)) ((places.Error, b) ∷ optional_body places.Error s.graph.error) (optional s.graph.error places.Error b e) in
    subst (λ ws. IsPermutation ws ((places.Error, b) ∷ written s)) (sym (kept s.has_boot s.graph.boot (optional_body places.Error (Some b) ++ rest)))
    (pass (written_body s.has_boot places.Boot s.graph.boot) _ _ _ more)
written-more (places.Object eo p) s place e =
    let b = s.block in
    let eos = with_body_at eo.0 p b s.graph.eos in
    let more = of_objects 0 eo.0 p b s.graph.eos place e in
    let named = subst (λ (x : EoId). IsPermutation (bodies_of_objects 0 eos) ((places.Object x p, b) ∷ bodies_of_objects 0 s.graph.eos)) (number-of eo) more in
    subst (λ ws. IsPermutation ws ((places.Object eo p, b) ∷ written s)) (sym (kept s.has_boot s.graph.boot (optional_body places.Error s.graph.error ++ bodies_of_objects 0 eos)))
    (pass (written_body s.has_boot places.Boot s.graph.boot) _ _ _ (pass (optional_body places.Error s.graph.error) _ _ _ named))
