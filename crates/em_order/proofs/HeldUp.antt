-- What was sent under a number and those just before it that are over.
use Rattle.std.proofs.Common.{◌≡◌, ◌≢◌, ℕ, zero, suc, ◌+◌, ◌-◌, ◌<◌, ◌≤◌, nat_le, Bool, true, false, List, [], ◌∷◌, ◌++◌, if◌then◌else◌, arith, refl, ap, sym, ◌∙◌, ⊎_elim, append_assoc}
use Rattle.std.proofs.lemmas.List.{append-nil}
use Rattle.std.specs.List.{flat_map}
use Rattle.std.proofs.lemmas.Bool.{cases_eq, cases_lt, le-leb, lt-leb}
use Rattle.std.proofs.lemmas.List.Concat.{flat_map-append}
use Rattle.em_log.specs.Declarations.{numbers_from}
use Rattle.em_order.specs.declared.item_list.Item.{Item}
use Rattle.em_order.specs.Stands.{gathered}

module _ (r : ℕ) (is_over : ℕ → Bool) (sent : ℕ → List Item) where
  pub released-none : (m : ℕ) → m ≤ r → gathered r is_over sent m ≡ []
  released-none zero le = refl
  released-none (suc m) le =
      ap (λ (b : Bool). if b then [] else ((if is_over m then gathered r is_over sent m else []) ++ sent (suc m))) (le-leb (suc m) r le)

  step : (m : ℕ) → r < suc m → gathered r is_over sent (suc m) ≡ (if is_over m then gathered r is_over sent m else []) ++ sent (suc m)
  step m lt =
      ap (λ (b : Bool). if b then [] else ((if is_over m then gathered r is_over sent m else []) ++ sent (suc m))) (lt-leb (suc m) r lt)

  pub after-over : (m : ℕ) → r < suc m → is_over m ≡ true → gathered r is_over sent (suc m) ≡ gathered r is_over sent m ++ sent (suc m)
  after-over m lt e = step m lt ∙ ap (λ (b : Bool). (if b then gathered r is_over sent m else []) ++ sent (suc m)) e

  pub after-open : (m : ℕ) → r < suc m → is_over m ≡ false → gathered r is_over sent (suc m) ≡ sent (suc m)
  after-open m lt e = step m lt ∙ ap (λ (b : Bool). (if b then gathered r is_over sent m else []) ++ sent (suc m)) e

-- it depends on the numbers up to there alone
pub gathered-same : (r : ℕ) (f g : ℕ → Bool) (s t : ℕ → List Item) (m : ℕ) → ((k : ℕ) → k < m → f k ≡ g k) → ((k : ℕ) → k ≤ m → s k ≡ t k)
    → gathered r f s m ≡ gathered r g t m
gathered-same r f g s t zero over sent = refl
gathered-same r f g s t (suc m) over sent =
    let rest = gathered-same r f g s t m (λ k lt. over k (omega arith)) (λ k le. sent k (omega arith)) in
    (λ i. if nat_le (suc m) r then [] else ((if over m (omega arith) i then rest i else []) ++ sent (suc m) (omega arith) i))

-- and on those above one that is not over
pub gathered-above : (p r u : ℕ) (f g : ℕ → Bool) (s t : ℕ → List Item) (m : ℕ) → r ≤ p → u ≤ p → f p ≡ false → g p ≡ false
    → ((k : ℕ) → p < k → k < m → f k ≡ g k) → ((k : ℕ) → p < k → k ≤ m → s k ≡ t k) → p < m → gathered r f s m ≡ gathered u g t m
gathered-above p r u f g s t zero ler leu fp gp over sent lt = absurd (omega arith)
gathered-above p r u f g s t (suc m) ler leu fp gp over sent lt =
    ⊎_elim
    (λ same. after-open r f s m (omega arith) (ap f (sym same) ∙ fp)
    ∙ (sent (suc m) (omega arith) (omega arith) ∙ sym (after-open u g t m (omega arith) (ap g (sym same) ∙ gp))))
    (λ apart.
    let above : p < m = grind (arith, apart, lt) in
    let rest = gathered-above p r u f g s t m ler leu fp gp (λ k gt below. over k gt (omega arith)) (λ k gt le. sent k gt (omega arith)) above in
    step r f s m (omega arith)
    ∙ ((λ i. (if over m above (omega arith) i then rest i else []) ++ sent (suc m) (omega arith) (omega arith) i)
    ∙ sym (step u g t m (omega arith))))
    (cases_eq p m)

-- one more is sent under a number that is not over

pub gathered-sent : (r : ℕ) (f : ℕ → Bool) (s t : ℕ → List Item) (n : ℕ) (x : Item) → r < n → ((k : ℕ) → k ≢ n → s k ≡ t k)
    → t n ≡ s n ++ x ∷ [] → gathered r f t n ≡ gathered r f s n ++ x ∷ []
gathered-sent r f s t zero x lt others here = absurd (omega arith)
gathered-sent r f s t (suc m) x lt others here =
    let rest = gathered-same r f f t s m (λ k lt. refl) (λ k le. sym (others k (λ e. absurd (omega arith)))) in
    step r f t m lt
    ∙ ((λ i. (if f m then rest i else []) ++ here i)
    ∙ (sym (append_assoc (if f m then gathered r f s m else []) (s (suc m)) (x ∷ []))
    ∙ ap (λ l. l ++ x ∷ []) (sym (step r f s m lt))))

pub gathered-sent_other : (r : ℕ) (f : ℕ → Bool) (s t : ℕ → List Item) (n m : ℕ) → r ≤ n → f n ≡ false → ((k : ℕ) → k ≢ n → s k ≡ t k) → m ≢ n
    → gathered r f t m ≡ gathered r f s m
gathered-sent_other r f s t n m le fn others ne =
    ⊎_elim
    (λ lt. gathered-same r f f t s m (λ k lt. refl) (λ k le. sym (others k (λ e. absurd (omega arith)))))
    (λ ge.
    let above : n < m = grind (arith, ge, ne) in
    gathered-above n r r f f t s m le le fn fn (λ k gt lt. refl) (λ k gt le. sym (others k (λ e. absurd (omega arith)))) above)
    (cases_lt m n)

-- number n is over now: what it gathered goes to the next one that is not
pub gathered-over : (r : ℕ) (f g : ℕ → Bool) (s : ℕ → List Item) (n m : ℕ) → r ≤ n → f n ≡ false → g n ≡ true → ((k : ℕ) → k ≢ n → f k ≡ g k)
    → ((k : ℕ) → n < k → k < m → f k ≡ true) → n < m → gathered r g s m ≡ gathered r f s n ++ gathered r f s m
gathered-over r f g s n zero le fn gn others all lt = absurd (omega arith)
gathered-over r f g s n (suc m) le fn gn others all lt =
    ⊎_elim
    (λ same.
    let before = gathered-same r g f s s n (λ k lt. sym (others k (λ e. absurd (omega arith)))) (λ k le. refl) in
    after-over r g s m (omega arith) (ap g (sym same) ∙ gn)
    ∙ ((λ i. gathered r g s (sym same i) ++ s (suc m))
    ∙ ((λ i. before i ++ s (suc m)) ∙ ap (λ l. gathered r f s n ++ l) (sym (after-open r f s m (omega arith) (ap f (sym same) ∙ fn))))))
    (λ apart.
    let above : n < m = grind (arith, apart, lt) in
    let over : f m ≡ true = all m above (omega arith) in
    let rest = gathered-over r f g s n m le fn gn others (λ k gt lt. all k gt (omega arith)) above in
    after-over r g s m (omega arith) (sym (others m (λ e. apart (sym e))) ∙ over)
    ∙ ((λ i. rest i ++ s (suc m))
    ∙ (append_assoc (gathered r f s n) (gathered r f s m) (s (suc m))
    ∙ ap (λ l. gathered r f s n ++ l) (sym (after-over r f s m (omega arith) over)))))
    (cases_eq n m)

-- from the first number that is not over to the next one

pub numbers_from-more : (n a : ℕ) → numbers_from a (suc n) ≡ numbers_from a n ++ (a + n) ∷ []
numbers_from-more zero a = ap (λ k. k ∷ []) (omega arith)
numbers_from-more (suc n) a =
    ap (λ l. a ∷ l) (numbers_from-more n (suc a) ∙ ap (λ k. numbers_from (suc a) n ++ k ∷ []) (omega arith))

pub gathered-all : (r : ℕ) (f : ℕ → Bool) (s : ℕ → List Item) (m : ℕ) → r ≤ m → f r ≡ false → ((k : ℕ) → r < k → k < m → f k ≡ true)
    → flat_map s (numbers_from (suc r) (m - r)) ≡ gathered r f s m
gathered-all r f s zero le fr all = let none : zero - r ≡ 0 = omega arith in ap (λ n. flat_map s (numbers_from (suc r) n)) none
gathered-all r f s (suc m) le fr all =
    ⊎_elim at_once (later (λ le. gathered-all r f s m le fr (λ k gt lt. all k gt (omega arith)))) (cases_lt m r)
  where
    at_once : m < r → flat_map s (numbers_from (suc r) (suc m - r)) ≡ gathered r f s (suc m)
    at_once lt =
        let none : suc m - r ≡ 0 = omega arith in
        ap (λ n. flat_map s (numbers_from (suc r) n)) none ∙ sym (released-none r f s (suc m) (omega arith))

    last : r ≤ m → flat_map s (numbers_from (suc r) (suc m - r)) ≡ flat_map s (numbers_from (suc r) (m - r)) ++ s (suc m)
    last le =
        let one_more : suc m - r ≡ suc (m - r) = omega arith in
        let number : suc r + (m - r) ≡ suc m = omega arith in
        ap (λ n. flat_map s (numbers_from (suc r) n)) one_more
        ∙ (ap (flat_map s) (numbers_from-more (m - r) (suc r))
        ∙ (flat_map-append s (numbers_from (suc r) (m - r)) ((suc r + (m - r)) ∷ [])
        ∙ ap (λ l. flat_map s (numbers_from (suc r) (m - r)) ++ l) (append-nil (s (suc r + (m - r))) ∙ ap s number)))

    later : (r ≤ m → flat_map s (numbers_from (suc r) (m - r)) ≡ gathered r f s m) → r ≤ m
        → flat_map s (numbers_from (suc r) (suc m - r)) ≡ gathered r f s (suc m)
    later so_far le =
        last le
        ∙ (ap (λ l. l ++ s (suc m)) (so_far le)
        ∙ ⊎_elim
        (λ same. ap (λ l. l ++ s (suc m)) (released-none r f s m (omega arith))
        ∙ sym (after-open r f s m (omega arith) (ap f (sym same) ∙ fr)))
        (λ apart. let above : r < m = grind (arith, apart, le) in sym (after-over r f s m (omega arith) (all m above (omega arith))))
        (cases_eq r m))
