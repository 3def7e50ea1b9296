-- What each step leaves of the second half of the rule.
use Rattle.std.proofs.Common.{◌≡◌, ◌≢◌, ◌⊎◌, ℕ, ◌+◌, ◌-◌, ◌<◌, ◌≤◌, List, [], ◌∷◌, ◌++◌, length, set, get_or, refl, sym, ap, ◌∙◌, subst, inl, inr, ⊎_elim, arith, length-append}
use mathlib.Core.Option.{none, some}
use lib.ListN.{get_elem?}
use Rattle.std.specs.Prelude.{Option, Some, None}
use Rattle.atomic_table.specs.Table.{State}
use Rattle.atomic_table.proofs.Lists.{at_set}
use Rattle.em_log.specs.Items.{LogItem, Fixed}
use Rattle.em_turn.specs.Numbers.{In, OnlyOf, Below, After, Claim, claim}
use Rattle.em_turn.specs.Views.{Stage, Idle, Inside, Known, view_of, Each, Pairs}
use Rattle.em_turn.specs.Steps.{divided, parted, united, spent}
use Rattle.em_turn.specs.Rule.{Homes, Fits, OtherNumbers, Bounds, Lists}
use Rattle.em_turn.proofs.Views.{each_set, pairs_set, each_end, pairs_end, at_end, idle-inside}
use Rattle.em_turn.proofs.Items.{only_none, below_suffix, below_less, below_none, after_more, after_nothing, in_either, in_first, in_second, fresh, has_zero, after_join}

-- a seat of the changed list has the numbers and parts that it had
was : (views : List Known) (id : ℕ) (v w : Known) → get_elem? views id ≡ some v → w.own.numbers ≡ v.own.numbers → w.parts ≡ v.parts → (j : ℕ) (u : Known) → get_elem? (set views id w) j ≡ some u
    → (o : Known) × (get_elem? views j ≡ some o) × (u.own.numbers ≡ o.own.numbers) × (u.parts ≡ o.parts)
was views id v w at ns ps j u e = ⊎_elim
    (λ (x : (j ≡ id) × (w ≡ u)). (v, ap (get_elem? views) x.0 ∙ at, ap (λ z. z.own.numbers) (sym x.1) ∙ ns, ap (λ z. z.parts) (sym x.1) ∙ ps))
    (λ (x : (j ≢ id) × (get_elem? views j ≡ some u)). (u, x.1, refl, refl)) (at_set views id j w u e)

module _ {V : Type 0} (items : V → List LogItem) (fixed_of : V → Fixed) where
  -- one seat's view changes, but not its numbers and parts
  pub lists_moved : (s : State (Option V) Known) (l : Lists items fixed_of s) (id : ℕ) (v w : Known) (words' : List ℕ) (homes' : Homes V) (log' : List LogItem) → get_elem? s.views id ≡ some v
      → w.own.numbers ≡ v.own.numbers → w.parts ≡ v.parts → ((x : V) → homes' ≡ some (Some x) ∷ [] → (items x ≡ log') × (fixed_of x ≡ l.fixed)) → Fits log' l.fixed w
      → ((j : ℕ) (u : Known) → j ≢ id → get_elem? s.views j ≡ some u → Fits log' l.fixed u) → Each (λ u. u.own.numbers ≡ 0 ∷ [] → Below u.parts log') s.views
      → Lists items fixed_of record { words = words'; homes = homes'; views = set s.views id w }
  lists_moved s l id v w words' homes' log' at ns ps home mine others below = record {
    log = log';
    fixed = l.fixed;
    home = home;
    fits = each_set (Fits log' l.fixed) s.views id w mine others;
    alone = λ i j u u' ne a b. let o = was s.views id v w at ns ps i u a in let o' = was s.views id v w at ns ps j u' b in
        λ n x y. l.alone i j o.0 o'.0 ne o.1 o'.1 n (subst (In n) o.2 x) (subst (In n) o'.2 y);
    bounds = λ i j u u' a b. let o = was s.views id v w at ns ps i u a in let o' = was s.views id v w at ns ps j u' b in
        λ e n x. subst (λ (p : ℕ). n + p < 65) (sym o.3) (l.bounds i j o.0 o'.0 o.1 o'.1 (sym o.2 ∙ e) n (subst (In n) o'.2 x));
    below = λ j u a. let o = was s.views id v w at ns ps j u a in λ e. subst (λ (p : ℕ). Below p log') (sym o.3) (below j o.0 o.1 (sym o.2 ∙ e));
  }

  -- a view with no join to check fits where its own list does
  pub fits_view : (log : List LogItem) (fixed : Fixed) (own : Claim) (f : Fixed) (turns parts : ℕ) (stage : Stage) (ticket : ℕ) → f ≡ fixed → 0 < length own.numbers → (stage ≡ Inside → own.seen ≡ log) → After log own → Fits log fixed (view_of own f turns parts stage ticket)
  fits_view log fixed own f turns parts stage ticket same named whole after = record {
    same = λ _. same;
    other_same = λ _. same;
    named = λ _. named;
    whole = whole;
    own = after;
    first = after_nothing log;
    second = after_nothing log;
    first_in = λ n h. absurd h;
    second_in = λ n h. absurd h;
    first_short = omega arith;
    second_short = omega arith;
  }

  pub fits_more : (log added : List LogItem) (fixed : Fixed) (u : Known) (ns : List ℕ) → Fits log fixed u → u.stage ≢ Inside → OnlyOf ns added → ((n : ℕ) → In n ns → In n u.own.numbers → ⊥) → Fits (log ++ added) fixed u
  fits_more log added fixed u ns f not only apart = record {
    same = f.same;
    other_same = f.other_same;
    named = f.named;
    whole = λ e. absurd (not e);
    own = after_more log added u.own f.own (only_none ns u.own.numbers added apart only);
    first = after_more log added u.first f.first (only_none ns u.first.numbers added (λ n a b. apart n a (f.first_in n b)) only);
    second = after_more log added u.second f.second (only_none ns u.second.numbers added (λ n a b. apart n a (f.second_in n b)) only);
    first_in = f.first_in;
    second_in = f.second_in;
    first_short = f.first_short;
    second_short = f.second_short;
  }

  abbrev value_of : V → Homes V → V
  value_of d [] = d
  value_of d (none ∷ hs) = d
  value_of d (some None ∷ hs) = d
  value_of d (some (Some x) ∷ hs) = x

  pub same_value : (x y : V) (homes : Homes V) → homes ≡ some (Some y) ∷ [] → homes ≡ some (Some x) ∷ [] → y ≡ x
  same_value x y homes a b = ap (value_of y) (sym a ∙ b)

  pub not_home : (x : V) (homes : Homes V) → homes ≡ none ∷ [] → homes ≡ some (Some x) ∷ [] → ⊥
  not_home x homes a b = mathlib.Core.Option.some-ne-none (Some x) (ap (λ h. mathlib_head h) (sym b ∙ a))
    where
      mathlib_head : Homes V → mathlib.Core.Option.Option (Option V)
      mathlib_head [] = none
      mathlib_head (h ∷ hs) = h

module _ {V : Type 0} (items : V → List LogItem) (fixed_of : V → Fixed) (s : State (Option V) Known) (l : Lists items fixed_of s) (id : ℕ) (v : Known) (at : get_elem? s.views id ≡ some v) (zero_alone : v.own.numbers ≡ 0 ∷ []) (some_left : 1 < v.parts) (most : v.parts ≤ 64) where
  abbrev L : Known
  L = divided v

  abbrev R : Known
  R = parted v

  abbrev vs : List Known
  vs = set s.views id L

  not_new : (x : Known) → R ≡ x → x.own.numbers ≡ 0 ∷ [] → ⊥
  not_new x e is = let p : ℕ = v.parts in let z : 65 - p ≡ 0 = ap (λ (u : Known). get_or u.own.numbers 0 0) e ∙ ap (λ ns. get_or ns 0 0) is in omega arith

  split_small : (j : ℕ) (y : Known) → get_elem? (vs ++ R ∷ []) j ≡ some y → (m : ℕ) → In m y.own.numbers → m + v.parts ≤ 65
  split_small j y b m h = let p : ℕ = v.parts in ⊎_elim
      (λ b'. ⊎_elim (λ (e : (j ≡ id) × (L ≡ y)). let q : m + p < 65 = l.bounds id id v v at at zero_alone m (subst (λ (u : Known). In m u.own.numbers) (sym e.1) h) in omega arith)
      (λ (o : (j ≢ id) × (get_elem? s.views j ≡ some y)). let q : m + p < 65 = l.bounds id j v y at o.1 zero_alone m h in omega arith) (at_set s.views id j L y b'))
      (λ (e : (R ≡ y) × (j ≡ length vs)). ⊎_elim (λ (q : m ≡ 65 - p). let r : m + p ≡ 65 = omega arith in omega arith) (λ z. absurd z) (subst (λ (u : Known). In m u.own.numbers) (sym e.0) h)) (at_end vs R y j b)

  split_bounds : (i j : ℕ) (x y : Known) → get_elem? (vs ++ R ∷ []) i ≡ some x → get_elem? (vs ++ R ∷ []) j ≡ some y → Bounds x y
  split_bounds i j x y a b is m h = let p : ℕ = v.parts in let q : m + p ≤ 65 = split_small j y b m h in ⊎_elim
      (λ a'. ⊎_elim (λ (e : (i ≡ id) × (L ≡ x)). subst (λ (u : Known). m + u.parts < 65) e.1 (let z : m + (p - 1) < 65 = omega arith in z))
      (λ (o : (i ≢ id) × (get_elem? s.views i ≡ some x)). absurd (l.alone i id x v o.0 o.1 at 0 (has_zero x.own.numbers is) (has_zero v.own.numbers zero_alone))) (at_set s.views id i L x a'))
      (λ (e : (R ≡ x) × (i ≡ length vs)). absurd (not_new x e.0 is)) (at_end vs R x i a)

  split_below : Each (λ u. u.own.numbers ≡ 0 ∷ [] → Below u.parts l.log) (vs ++ R ∷ [])
  split_below i x a is = let p : ℕ = v.parts in ⊎_elim
      (λ a'. ⊎_elim (λ (e : (i ≡ id) × (L ≡ x)). subst (λ (u : Known). Below u.parts l.log) e.1 (below_less p (p - 1) l.log (omega arith) (l.below id v at zero_alone)))
      (λ (o : (i ≢ id) × (get_elem? s.views i ≡ some x)). l.below i x o.1 is) (at_set s.views id i L x a'))
      (λ (e : (R ≡ x) × (i ≡ length vs)). absurd (not_new x e.0 is)) (at_end vs R x i a)

  pub lists_split : Fits l.log l.fixed v → Lists items fixed_of record { words = s.words; homes = s.homes; views = vs ++ R ∷ [] }
  lists_split f = let p : ℕ = v.parts in let n : ℕ = 65 - p in let sum : n + p ≡ 65 = omega arith in let lives : 0 < p = omega arith in
      let apart : (j : ℕ) (u : Known) → get_elem? s.views j ≡ some u → (m : ℕ) → In m (n ∷ []) → In m u.own.numbers → ⊥ = λ j u e. fresh n p u.own.numbers sum (λ h. l.bounds id j v u at e zero_alone h) in
      record {
        log = l.log;
        fixed = l.fixed;
        home = l.home;
        fits = each_end (Fits l.log l.fixed) vs R
            (fits_view items fixed_of l.log l.fixed (claim (n ∷ []) v.own.seen) v.fixed 0 1 Idle 0 (f.same lives) (omega arith) (λ e. absurd (idle-inside Idle refl e))
            (f.own.0, f.own.1, below_none p n f.own.0 sum (below_suffix p v.own.seen f.own.0 (subst (Below p) f.own.1 (l.below id v at zero_alone)))))
            (each_set (Fits l.log l.fixed) s.views id L
            (fits_view items fixed_of l.log l.fixed v.own v.fixed v.turns (p - 1) Idle v.ticket (f.same lives) (f.named lives) (λ e. absurd (idle-inside Idle refl e)) f.own)
            (λ j u ne e. l.fits j u e));
        alone = pairs_end OtherNumbers vs R
            (each_set (λ u. OtherNumbers R u × OtherNumbers u R) s.views id L (apart id v at, λ m b a. apart id v at m a b) (λ j u ne e. (apart j u e, λ m b a. apart j u e m a b)))
            (pairs_set OtherNumbers s.views id L (λ j u ne e. (l.alone id j v u (λ z. ne (sym z)) at e, l.alone j id u v ne e at)) l.alone);
        bounds = split_bounds;
        below = split_below;
      }

module _ {V : Type 0} (items : V → List LogItem) (fixed_of : V → Fixed) (s : State (Option V) Known) (l : Lists items fixed_of s) (id other : ℕ) (v w : Known) (at : get_elem? s.views id ≡ some v) (ne : other ≢ id) (at' : get_elem? s.views other ≡ some w)
    (lives : 0 < v.parts) (lives' : 0 < w.parts) where
  abbrev B : Known
  B = united v w

  abbrev ws : List Known
  ws = set (set s.views id B) other spent

  joined : (j : ℕ) (u : Known) → get_elem? ws j ≡ some u → (spent ≡ u) ⊎ (((j ≡ id) × (B ≡ u)) ⊎ ((j ≢ id) × (j ≢ other) × (get_elem? s.views j ≡ some u)))
  joined j u e = ⊎_elim (λ (x : (j ≡ other) × (spent ≡ u)). inl x.1)
      (λ (x : (j ≢ other) × (get_elem? (set s.views id B) j ≡ some u)). ⊎_elim (λ (y : (j ≡ id) × (B ≡ u)). inr (inl y)) (λ (y : (j ≢ id) × (get_elem? s.views j ≡ some u)). inr (inr (y.0, x.0, y.1))) (at_set s.views id j B u x.1))
      (at_set (set s.views id B) other j spent u e)

  not_zero : (x : Known) → B ≡ x → x.own.numbers ≡ 0 ∷ [] → ⊥
  not_zero x e is = let a = (l.fits id v at).named lives in let b = (l.fits other w at').named lives' in
      let sum = length-append v.own.numbers w.own.numbers in let one : length (v.own.numbers ++ w.own.numbers) ≡ 1 = ap (λ (u : Known). length u.own.numbers) e ∙ ap length is in omega arith

  -- who has a number in the joined list had it, or is the joined seat and one of the two had it
  join_pairs : Pairs OtherNumbers ws
  join_pairs i j x y apart a b n p q = ⊎_elim (λ (e : spent ≡ x). absurd (subst (λ (u : Known). In n u.own.numbers) (sym e) p)) (λ xs. ⊎_elim (λ (e : spent ≡ y). absurd (subst (λ (u : Known). In n u.own.numbers) (sym e) q)) (λ ys.
      ⊎_elim (λ (e : (i ≡ id) × (B ≡ x)). ⊎_elim (λ (f : (j ≡ id) × (B ≡ y)). absurd (apart (e.0 ∙ sym f.0)))
      (λ (f : (j ≢ id) × (j ≢ other) × (get_elem? s.views j ≡ some y)). ⊎_elim (λ h. l.alone id j v y (λ z. f.0 (sym z)) at f.2 n h q) (λ h. l.alone other j w y (λ z. f.1 (sym z)) at' f.2 n h q) (in_either n v.own.numbers w.own.numbers (subst (λ (u : Known). In n u.own.numbers) (sym e.1) p))) ys)
      (λ (e : (i ≢ id) × (i ≢ other) × (get_elem? s.views i ≡ some x)). ⊎_elim
      (λ (f : (j ≡ id) × (B ≡ y)). ⊎_elim (λ h. l.alone i id x v e.0 e.2 at n p h) (λ h. l.alone i other x w e.1 e.2 at' n p h) (in_either n v.own.numbers w.own.numbers (subst (λ (u : Known). In n u.own.numbers) (sym f.1) q)))
      (λ (f : (j ≢ id) × (j ≢ other) × (get_elem? s.views j ≡ some y)). l.alone i j x y apart e.2 f.2 n p q) ys) xs) (joined j y b)) (joined i x a)

  join_bounds : (i j : ℕ) (x y : Known) → get_elem? ws i ≡ some x → get_elem? ws j ≡ some y → Bounds x y
  join_bounds i j x y a b is n q = ⊎_elim (λ (e : spent ≡ x). let z : 0 ≡ length x.own.numbers = ap (λ (u : Known). length u.own.numbers) e in let o : length x.own.numbers ≡ 1 = ap length is in absurd (omega arith))
      (λ xs. ⊎_elim (λ (e : (i ≡ id) × (B ≡ x)). absurd (not_zero x e.1 is))
      (λ (e : (i ≢ id) × (i ≢ other) × (get_elem? s.views i ≡ some x)). ⊎_elim (λ (f : spent ≡ y). absurd (subst (λ (u : Known). In n u.own.numbers) (sym f) q))
      (λ ys. ⊎_elim (λ (f : (j ≡ id) × (B ≡ y)). ⊎_elim (λ h. l.bounds i id x v e.2 at is n h) (λ h. l.bounds i other x w e.2 at' is n h) (in_either n v.own.numbers w.own.numbers (subst (λ (u : Known). In n u.own.numbers) (sym f.1) q)))
      (λ (f : (j ≢ id) × (j ≢ other) × (get_elem? s.views j ≡ some y)). l.bounds i j x y e.2 f.2 is n q) ys) (joined j y b)) xs) (joined i x a)

  join_below : Each (λ u. u.own.numbers ≡ 0 ∷ [] → Below u.parts l.log) ws
  join_below i x a is = ⊎_elim (λ (e : spent ≡ x). let z : 0 ≡ length x.own.numbers = ap (λ (u : Known). length u.own.numbers) e in let o : length x.own.numbers ≡ 1 = ap length is in absurd (omega arith))
      (λ xs. ⊎_elim (λ (e : (i ≡ id) × (B ≡ x)). absurd (not_zero x e.1 is)) (λ (e : (i ≢ id) × (i ≢ other) × (get_elem? s.views i ≡ some x)). l.below i x e.2 is) xs) (joined i x a)

  pub lists_joined : Lists items fixed_of record { words = s.words; homes = s.homes; views = ws }
  lists_joined = let f = l.fits id v at in let g = l.fits other w at' in let both = after_join l.log v.own w.own f.own g.own in record {
    log = l.log;
    fixed = l.fixed;
    home = l.home;
    fits = each_set (Fits l.log l.fixed) (set s.views id B) other spent
        record { same = λ h. absurd (omega arith); other_same = λ h. absurd (omega arith); named = λ h. absurd (omega arith); whole = λ e. absurd (idle-inside Idle refl e); own = after_nothing l.log; first = after_nothing l.log; second = after_nothing l.log; first_in = λ n h. absurd h; second_in = λ n h. absurd h; first_short = omega arith; second_short = omega arith }
        (λ j u _ e. each_set (Fits l.log l.fixed) s.views id B
        record { same = λ _. f.same lives; other_same = λ _. g.same lives'; named = λ _. (let a = f.named lives in omega (arith, length-append v.own.numbers w.own.numbers)); whole = λ e. absurd (idle-inside Idle refl e); own = both.0; first = f.own; second = g.own; first_in = λ n h. in_first n v.own.numbers w.own.numbers h; second_in = λ n h. in_second n v.own.numbers w.own.numbers h; first_short = both.1; second_short = both.2 }
        (λ j u _ e. l.fits j u e) j u e);
    alone = join_pairs;
    bounds = join_bounds;
    below = join_below;
  }
