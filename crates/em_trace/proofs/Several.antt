-- Several in a row, counted or not; words of a table; and what only some values have.
use Rattle.std.proofs.Common.{◌≡◌, ℕ, zero, suc, ◌^◌, ◌<◌, ◌≤◌, inl, inr, ◌⊎◌, Bool, true, false, cond, leb, List, [], ◌∷◌, ◌++◌, length, Option, Some, None, is_some, unwrap_or, refl, sym, ap, subst, ◌∙◌, arith, append_assoc, le-leb}
use Rattle.std.specs.List.{AllByRecursion, flat_map}
use Rattle.std.specs.Prelude.{decimal, bytes_eq}
use Rattle.std.proofs.lemmas.Slice.Eq.{bytes_eq-Decides}
use Rattle.em_trace.specs.Line.{Rest}
use Rattle.em_trace.specs.Form.{◌>>=◌, Form, judged, token_at, value, is_digits, is_well, items, times, read_count, counted, lookup, one_of, checked}
use Rattle.em_trace.proofs.Binds.{some-is, bind-some, cond-some}
use Rattle.em_trace.proofs.Forms.{IsPlain, well_rest, Took, IsForm, Any, and-true, All-append}
use Rattle.em_trace.proofs.Numbers.{token-again, token-took, digits-decimal, value-decimal, well-decimal, decimal-value, plain-decimal}

pub record TookItems {A : Type 0} (f : Form A) (F : A → Type 0) (n : ℕ) (s : Rest) (xs : List A) (s' : Rest) : Type 0 where
  pub tokens : s.tokens ≡ flat_map f.write xs ++ s'.tokens
  pub well : s.well ≡ true
  pub each : AllByRecursion F xs
  pub as_many : length xs ≡ n

module _ {A : Type 0} (f : Form A) (F : A → Type 0) (a : IsForm f F Any) where
  pub items-again : (xs : List A) → AllByRecursion F xs → (more : List (List ℕ)) → items f (length xs) (well_rest (flat_map f.write xs ++ more)) ≡ Some (xs, well_rest more)
  unfolding items
  items-again [] fits more = refl
  items-again (x ∷ xs) fits more =
      let rest = flat_map f.write xs ++ more in
      let one : f.read (well_rest ((f.write x ++ flat_map f.write xs) ++ more)) ≡ Some (x, well_rest (flat_map f.write xs ++ more)) = rw (append_assoc (f.write x) (flat_map f.write xs) more) (a.again x fits.0 (flat_map f.write xs ++ more) tt) in
      rw (one, items-again xs fits.1 more) refl

  pub items-took : (n : ℕ) (s : Rest) (xs : List A) (s' : Rest) → items f n s ≡ Some (xs, s') → s'.well ≡ true → TookItems f F n s xs s'
  unfolding items
  items-took zero s xs s' e w =
      let same = some-is ([], s) (xs, s') e in
      subst (λ (q : List A × Rest). TookItems f F 0 s q.0 q.1) same (record { tokens = refl; well = ap (λ (q : List A × Rest). q.1.well) same ∙ w; each = tt; as_many = refl })
  items-took (suc n) s xs s' e w =
      let x = bind-some (f.read s) (λ x. items f n x.1 >>= λ ys. Some (x.0 ∷ ys.0, ys.1)) (xs, s') e in
      let ys = bind-some (items f n x.0.1) (λ ys. Some (x.0.0 ∷ ys.0, ys.1)) (xs, s') x.2 in
      let same = some-is (x.0.0 ∷ ys.0.0, ys.0.1) (xs, s') ys.2 in
      let w' : ys.0.1.well ≡ true = ap (λ (q : List A × Rest). q.1.well) same ∙ w in
      let more = items-took n x.0.1 ys.0.0 ys.0.1 ys.1 w' in
      let t = a.took s x.0.0 x.0.1 x.1 more.well in
      let tokens : s.tokens ≡ (f.write x.0.0 ++ flat_map f.write ys.0.0) ++ ys.0.1.tokens = t.tokens ∙ ap (λ ts. f.write x.0.0 ++ ts) more.tokens ∙ sym (append_assoc (f.write x.0.0) (flat_map f.write ys.0.0) ys.0.1.tokens) in
      subst (λ (q : List A × Rest). TookItems f F (suc n) s q.0 q.1) same (record { tokens = tokens; well = t.well; each = (t.fits, more.each); as_many = ap suc more.as_many })

  pub items-plain : (xs : List A) → AllByRecursion F xs → AllByRecursion IsPlain (flat_map f.write xs)
  items-plain [] fits = tt
  items-plain (x ∷ xs) fits = All-append IsPlain (f.write x) (flat_map f.write xs) (a.plain x fits.0) (items-plain xs fits.1)

  pub times-form : (n : ℕ) → IsForm (times n f) (λ xs. (length xs ≡ n) × AllByRecursion F xs) Any
  times-form n = record {
    again = λ xs fits more ends. subst (λ k. items f k (well_rest (flat_map f.write xs ++ more)) ≡ Some (xs, well_rest more)) fits.0 (items-again xs fits.1 more);
    took = λ s xs s' e w.
        let t = items-took n s xs s' e w in
        record { tokens = t.tokens; well = t.well; fits = (t.as_many, t.each); ends = tt };
    plain = λ xs fits. items-plain xs fits.1;
  }

count-again : (max n : ℕ) (more : List (List ℕ)) → n ≤ max → max < 2 ^ 64 → read_count max (well_rest (decimal n ∷ more)) ≡ Some (n, well_rest more)
unfolding read_count
count-again max n more le small =
    let lt : n < 2 ^ 64 = omega arith in
    rw (token-again (decimal n) more, digits-decimal n lt, value-decimal n lt, well-decimal max n le lt) refl

count-took : (max : ℕ) (s : Rest) (n : ℕ) (s' : Rest) → max < 2 ^ 64 → read_count max s ≡ Some (n, s') → s'.well ≡ true → (s.tokens ≡ decimal n ∷ s'.tokens) × (s.well ≡ true) × (n ≤ max)
unfolding read_count
count-took max s n s' small e w =
    let t = bind-some (token_at s) (λ t. cond (is_digits t.0) (Some (value t.0, judged (is_well max t.0) t.1)) None) (n, s') e in
    let c = cond-some (is_digits t.0.0) (value t.0.0, judged (is_well max t.0.0) t.0.1) (n, s') t.2 in
    let n-is : value t.0.0 ≡ n = ap (λ (p : ℕ × Rest). p.0) c.1 in
    let rest : judged (is_well max t.0.0) t.0.1 ≡ s' = ap (λ (p : ℕ × Rest). p.1) c.1 in
    let both = and-true t.0.1.well (is_well max t.0.0) (ap (λ r. r.well) rest ∙ w) in
    let d = decimal-value max t.0.0 small c.0 both.1 in
    let f = token-took s t.0.0 t.0.1 t.1 in
    let spelled : t.0.0 ≡ decimal n = sym d.1 ∙ ap (λ v. decimal v) n-is in
    (f.0 ∙ (λ i. spelled i ∷ (rest i).tokens), f.1 ∙ both.0, rw (← n-is) d.0)

cond-taken : {A : Type 0} (b : Bool) (xs ys : List A) → b ≡ true → cond b xs [] ≡ ys → xs ≡ ys
cond-taken true xs ys b e = e
cond-taken false xs ys b e = absurd cc

pub counted-form : {A : Type 0} (max : ℕ) (f : Form A) (F : A → Type 0) → max < 2 ^ 64 → IsForm f F Any → IsForm (counted max f) (λ xs. (length xs ≤ max) × AllByRecursion F xs) Any
counted-form max f F small a = record {
  again = λ xs fits more ends.
      rw (count-again max (length xs) (flat_map f.write xs ++ more) fits.0 small, items-again f F a xs fits.1 more, le-leb (length xs) max fits.0) refl;
  took = λ s xs s' e w.
      let n = bind-some (read_count max s) (λ n. items f n.0 n.1 >>= λ ys. Some (cond (leb n.0 max) ys.0 [], ys.1)) (xs, s') e in
      let ys = bind-some (items f n.0.0 n.0.1) (λ ys. Some (cond (leb n.0.0 max) ys.0 [], ys.1)) (xs, s') n.2 in
      let same = some-is (cond (leb n.0.0 max) ys.0.0 [], ys.0.1) (xs, s') ys.2 in
      let rest : ys.0.1 ≡ s' = ap (λ q. q.1) same in
      let t = items-took f F a n.0.0 n.0.1 ys.0.0 ys.0.1 ys.1 (ap (λ r. r.well) rest ∙ w) in
      let k = count-took max s n.0.0 n.0.1 small n.1 t.well in
      let xs-is : ys.0.0 ≡ xs = cond-taken (leb n.0.0 max) ys.0.0 xs (le-leb n.0.0 max k.2) (ap (λ q. q.0) same) in
      let many = sym t.as_many in
      let tokens : s.tokens ≡ decimal (length ys.0.0) ∷ (flat_map f.write ys.0.0 ++ ys.0.1.tokens) = k.0 ∙ (λ i. decimal (many i) ∷ t.tokens i) in
      let fits : (length ys.0.0 ≤ max) × AllByRecursion F ys.0.0 = (rw t.as_many k.2, t.each) in
      subst (λ zs. Took (counted max f) (λ xs. (length xs ≤ max) × AllByRecursion F xs) Any s zs s') xs-is (record { tokens = tokens ∙ ap (λ r. decimal (length ys.0.0) ∷ (flat_map f.write ys.0.0 ++ r.tokens)) rest; well = k.1; fits = fits; ends = tt });
  plain = λ xs fits. (plain-decimal (length xs) (omega (arith, fits.0)), items-plain f F a xs fits.1);
}

-- each word of a table is that of its entry, and the table has each entry
pub record IsTable {A : Type 0} (table : List (List ℕ × A)) (word : A → List ℕ) : Type 0 where
  pub found : (x : A) → lookup (word x) table ≡ Some x
  pub named : AllByRecursion (λ p. p.0 ≡ word p.1) table
  pub plain : (x : A) → IsPlain (word x)

found-chosen : {A : Type 0} (b : Bool) (x y : A) (o : Option A) → cond b (Some x) o ≡ Some y → ((b ≡ true) × (x ≡ y)) ⊎ (o ≡ Some y)
found-chosen true x y o e = inl (refl, cc)
found-chosen false x y o e = inr e

lookup-named : {A : Type 0} (table : List (List ℕ × A)) (word : A → List ℕ) → AllByRecursion (λ p. p.0 ≡ word p.1) table → (w : List ℕ) (x : A) → lookup w table ≡ Some x → w ≡ word x
lookup-named [] word named w x e = absurd cc
lookup-named (p ∷ ps) word named w x e =
    elim (found-chosen (bytes_eq w p.0) p.1 x (lookup w ps) e) [
      | inl c ↦ (bytes_eq-Decides w p.0).0 c.0 ∙ named.0 ∙ ap word c.1
      | inr more ↦ lookup-named ps word named.1 w x more
    ]

pub one_of-form : {A : Type 0} (table : List (List ℕ × A)) (word : A → List ℕ) → IsTable table word → IsForm (one_of table word) (λ _. Unit {0}) Any
one_of-form table word t = record {
  again = λ x fits more ends. rw (token-again (word x) more, t.found x) refl;
  took = λ s x s' e w.
      let k = bind-some (token_at s) (λ t. lookup t.0 table >>= λ x. Some (x, t.1)) (x, s') e in
      let y = bind-some (lookup k.0.0 table) (λ x. Some (x, k.0.1)) (x, s') k.2 in
      let same = some-is (y.0, k.0.1) (x, s') y.2 in
      let rest : k.0.1 ≡ s' = ap (λ q. q.1) same in
      let x-is : y.0 ≡ x = ap (λ q. q.0) same in
      let f = token-took s k.0.0 k.0.1 k.1 in
      let spelled : k.0.0 ≡ word x = lookup-named table word t.named k.0.0 y.0 y.1 ∙ ap word x-is in
      record { tokens = f.0 ∙ (λ i. spelled i ∷ (rest i).tokens); well = f.1 ∙ ap (λ r. r.well) rest ∙ w; fits = tt; ends = tt };
  plain = λ x fits. (t.plain x, tt);
}

some-known : {A : Type 0} (o : Option A) (default : A) → is_some o ≡ true → o ≡ Some (unwrap_or o default)
some-known None default e = absurd cc
some-known (Some x) default e = refl

pub checked-form : {A B : Type 0} (to : A → Option B) (back : B → A) (default : B) (f : Form A) (F : A → Type 0) (G : B → Type 0) → IsForm f F Any → ((y : B) → G y → F (back y)) → ((y : B) → G y → to (back y) ≡ Some y) → ((x : A) (y : B) → F x → to x ≡ Some y → (back y ≡ x) × G y) → IsForm (checked to back default f) G Any
checked-form to back default f F G a fits_back to-back from = record {
  again = λ y fits more ends. rw (a.again (back y) (fits_back y fits) more tt, to-back y fits) refl;
  took = λ s y s' e w.
      let x = bind-some (f.read s) (λ x. Some (unwrap_or (to x.0) default, judged (is_some (to x.0)) x.1)) (y, s') e in
      let same = some-is (unwrap_or (to x.0.0) default, judged (is_some (to x.0.0)) x.0.1) (y, s') x.2 in
      let rest : judged (is_some (to x.0.0)) x.0.1 ≡ s' = ap (λ q. q.1) same in
      let both = and-true x.0.1.well (is_some (to x.0.0)) (ap (λ r. r.well) rest ∙ w) in
      let known : to x.0.0 ≡ Some y = some-known (to x.0.0) default both.1 ∙ ap (λ q. Some q.0) same in
      let t = a.took s x.0.0 x.0.1 x.1 both.0 in
      let k = from x.0.0 y t.fits known in
      let back-is = sym k.0 in
      let tokens : s.tokens ≡ f.write (back y) ++ s'.tokens = t.tokens ∙ (λ i. f.write (back-is i) ++ (rest i).tokens) in
      record { tokens = tokens; well = t.well; fits = k.1; ends = tt };
  plain = λ y fits. a.plain (back y) (fits_back y fits);
}

pub counted_law : (n : ℕ) → n ≡ n
counted_law n = refl
