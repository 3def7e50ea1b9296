use Rattle.std.proofs.Common.{◌≡◌, ◌≤◌, Bool, true, false, List, ℕ, length, Option, Some, None, refl, sym, ap, ◌∙◌, arith, if◌then◌else◌}
use Rattle.std.specs.Prelude.{IsSome, IfSome, ◌&&◌, nat_le, not}
use Rattle.std.proofs.lemmas.Bool.Decides.{nat_tests}
use Rattle.em_log.specs.Names.{is_name, is_reserved, begins_well}
use Rattle.em_script.proofs.Ascii.{IsUtf8-name, both}
use Rattle.em_script.proofs.names.name_of.Goals as goal

none_of : {A : Type 0} (b : Bool) (x : A) → (b ≡ true → ⊥) → None ≡ (if b then Some x else None)
none_of true x h = absurd (h refl)
none_of false x h = refl

some_of : {A : Type 0} (b : Bool) (r : Option A) (x : A) → b ≡ true → r ≡ Some x → r ≡ (if b then Some x else None)
some_of true r x e s = s
some_of false r x e s = absurd cc

short : (text : List ℕ) → is_name text ≡ true → length text ≤ 16
short text name =
    let (front, free) = both (begins_well text && nat_le (length text) 16) (not (is_reserved text)) name in
    let (well, few) = both (begins_well text) (nat_le (length text) 16) front in
    grind (arith, nat_tests)

made : (r : Option (List ℕ)) (text : List ℕ) → (length text ≤ 16 → IsSome r) → IfSome r (λ n. n ≡ text) → length text ≤ 16 → r ≡ Some text
made None text fits value few = cc (fits few)
made (Some n) text fits value few = ap Some value

pub returns-in_default : goal.returns-in_default
returns-in_default c = none_of (is_name c.args.token.now) c.args.token.now (λ name. c.in_default.ensures.cases.0 (IsUtf8-name c.args.token.now name))

pub returns-then-is_name : goal.returns-then-is_name
returns-then-is_name c =
    let name : is_name c.in-Ok.text.now ≡ true = sym c.is_name.ensures ∙ c.if-is_name.true in
    let same : c.in-Ok.text.now ≡ c.args.token.now = c.in-Ok.ensures.cases.0 in
    some_of (is_name c.args.token.now) c.new.result c.args.token.now (ap is_name (sym same) ∙ name)
    (made c.new.result c.in-Ok.text.now c.new.ensures.fits.1 c.new.ensures.value (short c.in-Ok.text.now name) ∙ ap Some same)
