-- What follows a word in a line.
use Rattle.std.proofs.Common.{◌≡◌, ℕ, Bool, true, List, Option, None, refl, sym, ap, ◌∙◌}
use Rattle.std.specs.Prelude.{not, if◌then◌else◌, codes}
use Rattle.em_script.specs.Lines.{Rest}
use Rattle.em_script.specs.Names.{Naming}
use Rattle.em_script.specs.declared.tokens.Stop.{Stop}
use Rattle.em_script.specs.declared.tokens.Stop.TheVariants as stops
use Rattle.em_script.specs.declared.line.Membership.TheVariants as memberships
use Rattle.em_script.specs.Form.{Stops, given, is_at, is_over, is_followed, skip, agroup_name}
use Rattle.em_script.specs.Declarations.{membership}
use Rattle.em_script.proofs.Ascii.{both}

pub is_at-followed : (word : List ℕ) (s : Rest) → is_followed word s ≡ true → is_at word s ≡ true
unfolding is_followed
is_at-followed word s e = (both (is_at word s) (not (is_over (skip s))) e).0

pub skipped : (word : List ℕ) (s after : Rest) (followed at : Bool) → followed ≡ is_followed word s → followed ≡ true → at ≡ is_at word s → after ≡ (if at then skip s else s) → after ≡ skip s
skipped word s after followed at f is a rest =
    let t : at ≡ true = a ∙ is_at-followed word s (sym f ∙ is) in
    rest ∙ ap (λ b. if b then skip s else s) t

pub membership-in : (names : Naming) (s : Rest) → is_followed (codes "in") s ≡ true → (membership names).read s ≡ given (λ a. memberships.Agroup a) ((agroup_name names).read (skip s))
membership-in names s f = rw f refl

pub given-stops : {A B : Type 0} (to : A → B) (stop : Stop) (read : Option (A × Rest)) → Stops stop read → Stops stop (given to read)
given-stops to stops.NoForm read e = ap (given to) e
given-stops to stops.NoMemory read e = tt

pub stops-by : {A B : Type 0} (stop : Stop) (read : Option (A × Rest)) (total : Option (B × Rest)) → Stops stop read → (read ≡ None → total ≡ None) → Stops stop total
stops-by stops.NoForm read total e h = h e
stops-by stops.NoMemory read total e h = tt
