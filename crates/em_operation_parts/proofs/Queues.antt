-- A step of objects or of queue groups concerns the queues of one object, or of one group.
use Rattle.std.proofs.Common.{◌≡◌, ℕ, ◌==◌, Bool, true, false, List, ◌∷◌, Option, Some, None, if◌then◌else◌, refl, sym, ap, ◌∙◌}
use Rattle.std.specs.Option.{option_map_or}
use Rattle.em_log.specs.declared.declarations.Declarations.{Declarations}
use Rattle.em_log.specs.declared.ids.EoState.{EoState}
use Rattle.em_log.specs.Declarations.{object_of, group_of, is_number}
use Rattle.em_log.specs.Eligible.{has_core}
use Rattle.em_log.specs.States.{is_running}
use Rattle.em_laws.proofs.Cores.{Compared, Same, Other, compared}
use Rattle.em_groups.specs.Masks.{effective}
use Rattle.em_groups.specs.Steps.{GroupStep, Began, Finished}
use Rattle.em_objects.specs.Queues.{state, state_after, runs}
use Rattle.em_objects.specs.Steps.{ObjectStep, Moved}
use Rattle.em_operation_parts.specs.Queues.{in_group, group_of_step}

pub move-concerns : (k : Declarations) (steps : List ObjectStep) (x : ℕ) (to : EoState) (q : ℕ)
    → runs k (Moved x to ∷ steps) q ≡ (if is_number x (object_of k q) then is_running to else runs k steps q)
move-concerns k steps x to q = by_object (object_of k q)
  where
    by_test : (b : Bool) (s : EoState) → is_running (if b then to else s) ≡ (if b then is_running to else is_running s)
    by_test true s = refl
    by_test false s = refl

    by_object : (o : Option ℕ) → option_map_or (λ y. is_running (state_after y (Moved x to) (state k steps y))) o false
        ≡ (if is_number x o then is_running to else option_map_or (λ y. is_running (state k steps y)) o false)
    by_object None = refl
    by_object (Some y) = by_test (x == y) (state k steps y)

-- a step of another group leaves the mask in force
effective-kept : (k : Declarations) (steps : List GroupStep) (s : GroupStep) (g : ℕ) → (group_of_step s == g) ≡ false → effective k (s ∷ steps) g ≡ effective k steps g
effective-kept k steps (Began h m) g apart = rw apart refl
effective-kept k steps (Finished h) g apart = rw apart refl

pub change-concerns : (k : Declarations) (steps : List GroupStep) (s : GroupStep) (c q : ℕ)
    → in_group k (s ∷ steps) c q ≡ (if is_number (group_of_step s) (group_of k q) then has_core (effective k (s ∷ steps) (group_of_step s)) c else in_group k steps c q)
change-concerns k steps s c q = by_group (group_of k q)
  where
    now : ℕ → Bool
    now g = has_core (effective k (s ∷ steps) g) c

    by_number : (g : ℕ) → Compared (group_of_step s) g → now g ≡ (if group_of_step s == g then now (group_of_step s) else has_core (effective k steps g) c)
    by_number g (Same t e) = ap now (sym e) ∙ sym (rw t refl)
    by_number g (Other f e) = ap (λ m. has_core m c) (effective-kept k steps s g f) ∙ sym (rw f refl)

    by_group : (o : Option ℕ) → option_map_or now o true
        ≡ (if is_number (group_of_step s) o then now (group_of_step s) else option_map_or (λ g. has_core (effective k steps g) c) o true)
    by_group None = refl
    by_group (Some g) = by_number g (compared (group_of_step s) g)
