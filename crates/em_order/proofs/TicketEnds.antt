-- What the end of a ticket does to the steps: what is released, held back and let in.
use Rattle.std.proofs.Common.{◌≡◌, ◌≢◌, ℕ, suc, ◌-◌, ◌<◌, ◌≤◌, ◌==◌, ◌||◌, Bool, true, false, List, ◌∷◌, ◌++◌, Some, if◌then◌else◌, arith, refl, ap, sym, ◌∙◌, subst, ⊎_elim}
use Rattle.std.specs.List.{flat_map}
use Rattle.std.proofs.lemmas.Bool.{cases_eq, cases_lt, eq-eqb, ne_eqb}
use Rattle.std.proofs.lemmas.List.{append-nil}
use Rattle.em_log.specs.History.{has}
use Rattle.em_log.specs.Order.{run_from, with_number}
use Rattle.em_log.specs.Declarations.{numbers_from}
use Rattle.em_order.specs.Steps.{OrderStep, Finished}
use Rattle.em_order.specs.Tickets.{drawn, open_ticket, ended, released}
use Rattle.em_order.specs.Sends.{sent_under, let_in, let_in_by, due}
use Rattle.em_order.specs.State.{OrderState, ticket_at}
use Rattle.em_order.specs.Stands.{Stands, gathered, held_up}
use Rattle.em_order.specs.Changes.{kept, due_with}
use Rattle.em_order.proofs.Runs.{run_from-is}
use Rattle.em_order.proofs.HeldUp.{released-none, gathered-same, gathered-above, gathered-over, gathered-all}
use Rattle.em_order.proofs.Readings.{ticket, run, released-drawn, released-below, first-not_ended}

-- m is the next open ticket of the queue after n, or the next one to be drawn; leads tells whether n is the first open one
pub record IsEnd (s : List OrderStep) (q n m : ℕ) (leads : Bool) : Type 0 where
  pub later : n < m
  pub most : m ≤ drawn s q
  pub between : (k : ℕ) → n < k → k < m → has (ended s q) k ≡ true
  pub stops : has (ended s q) m ≡ false
  pub first : leads ≡ true → released s q ≡ n
  pub not_first : leads ≡ false → released s q < n

module _ {v : OrderState} {s : List OrderStep} (stands : Stands v s) (c q n m : ℕ) (leads : Bool) (e : ticket_at v c ≡ Some (ticket q n))
    (end : IsEnd s q n m leads) where
  open_here : open_ticket s c ≡ Some (ticket q n)
  open_here = sym (stands.tickets c) ∙ e

  abbrev now : List OrderStep
  now = Finished c ∷ s

  ended-here : ended now q ≡ n ∷ ended s q
  ended-here =
      ap (λ o. with_number q o (ended s q)) open_here ∙ ap (λ b. if b then n ∷ ended s q else ended s q) (eq-eqb q q refl)

  ended-other : (r : ℕ) → r ≢ q → ended now r ≡ ended s r
  ended-other r ne =
      ap (λ o. with_number r o (ended s r)) open_here
      ∙ ap (λ b. if b then n ∷ ended s r else ended s r) (ne_eqb q r (λ same. ne (sym same)))

  pub over : (k : ℕ) → has (ended now q) k ≡ ((n == k) || has (ended s q) k)
  over k = ap (λ ts. has ts k) ended-here

  pub over-same : has (ended now q) n ≡ true
  over-same = over n ∙ ap (λ b. b || has (ended s q) n) (eq-eqb n n refl)

  pub over-other : (k : ℕ) → k ≢ n → has (ended now q) k ≡ has (ended s q) k
  over-other k ne = over k ∙ ap (λ b. b || has (ended s q) k) (ne_eqb n k (λ same. ne (sym same)))

  pub over-queue : (r k : ℕ) → r ≢ q → has (ended now r) k ≡ has (ended s r) k
  over-queue r k ne = ap (λ ts. has ts k) (ended-other r ne)

  not_over : has (ended now q) m ≡ false
  not_over = over-other m (λ same. let later = end.later in absurd (omega arith)) ∙ end.stops

  released-now : (b : Bool) → leads ≡ b → released now q ≡ (if b then m else released s q)
  released-now false is =
      let less = end.not_first is in
      run_from-is (drawn s q) 0 (released s q) (ended now q) (record {
        most = released-drawn stands q;
        all = λ t le lt. over-other t (λ same. absurd (omega arith)) ∙ (run stands q).all t le lt;
        stops = λ lt.
            subst (λ k. has (ended now q) k ≡ false) (omega arith) (over-other (released s q) (λ same. absurd (omega arith)) ∙ first-not_ended stands q);
      })
  released-now true is =
      let first = end.first is in
      run_from-is (drawn s q) 0 m (ended now q) (record {
        most = end.most;
        all = λ t le lt.
            ⊎_elim
            (λ less. over-other t (λ same. absurd (omega arith)) ∙ (run stands q).all t le (omega arith))
            (λ ge. ⊎_elim (λ same. subst (λ k. has (ended now q) k ≡ true) (sym same) over-same)
            (λ ne. over-other t ne ∙ end.between t (grind (arith, ge, ne)) (omega arith)) (cases_eq t n))
            (cases_lt t n);
        stops = λ lt. subst (λ k. has (ended now q) k ≡ false) (omega arith) not_over;
      })

  released-other : (r : ℕ) → r ≢ q → released now r ≡ released s r
  released-other r ne = ap (run_from (drawn s r) 0) (ended-other r ne)

  not_later : released s q ≤ n
  not_later = released-below stands c q n e

  -- what is held back

  pub held-queue : (r k : ℕ) → r ≢ q → held_up now r k ≡ held_up s r k
  held-queue r k ne = (λ i. gathered (released-other r ne i) (has (ended-other r ne i)) (sent_under s r) k)

  pub held-below : (k : ℕ) → k < n → released s q ≤ k → held_up now q k ≡ held_up s q k
  held-below k lt le = by_lead leads refl
    where
      by_lead : (b : Bool) → leads ≡ b → held_up now q k ≡ held_up s q k
      by_lead true is = let first = end.first is in absurd (omega arith)
      by_lead false is =
          ap (λ r. gathered r (has (ended now q)) (sent_under s q) k) (released-now false is)
          ∙ gathered-same (released s q) (has (ended now q)) (has (ended s q)) (sent_under s q) (sent_under s q) k
          (λ j less. over-other j (λ same. absurd (omega arith))) (λ j le. refl)

  pub held-next : held_up now q m ≡ kept leads (held_up s q n) (held_up s q m)
  held-next = by_lead leads refl
    where
      by_lead : (b : Bool) → leads ≡ b → held_up now q m ≡ kept leads (held_up s q n) (held_up s q m)
      by_lead true is =
          released-none (released now q) (has (ended now q)) (sent_under s q) m (let r = released-now true is in omega arith)
          ∙ ap (λ b. kept b (held_up s q n) (held_up s q m)) (sym is)
      by_lead false is =
          ap (λ r. gathered r (has (ended now q)) (sent_under s q) m) (released-now false is)
          ∙ (gathered-over (released s q) (has (ended s q)) (has (ended now q)) (sent_under s q) n m not_later
          (stands.open_not_ended c q n e) over-same (λ k ne. sym (over-other k ne)) end.between end.later
          ∙ ap (λ b. kept b (held_up s q n) (held_up s q m)) (sym is))

  pub held-above : (k : ℕ) → m < k → held_up now q k ≡ held_up s q k
  held-above k lt =
      let later = end.later in
      gathered-above m (released now q) (released s q) (has (ended now q)) (has (ended s q)) (sent_under s q) (sent_under s q) k
      (by_lead leads refl) (let first = not_later in omega arith) not_over end.stops
      (λ j gt less. over-other j (λ same. absurd (omega arith))) (λ j gt le. refl) lt
    where
      by_lead : (b : Bool) → leads ≡ b → released now q ≤ m
      by_lead true is = let r = released-now true is in omega arith
      by_lead false is = let r = released-now false is in let first = not_later in let later = end.later in omega arith

  -- what is let in

  let_in-is : let_in s c ≡ flat_map (sent_under s q) (numbers_from (suc (released s q)) (released now q - released s q))
  let_in-is = ap (let_in_by s now) open_here

  pub due-now : due now ≡ due_with leads (due s) (held_up s q n ++ held_up s q m)
  due-now = by_lead leads refl
    where
      by_lead : (b : Bool) → leads ≡ b → due now ≡ due_with leads (due s) (held_up s q n ++ held_up s q m)
      by_lead false is =
          let none : released now q - released s q ≡ 0 = let r = released-now false is in omega arith in
          ap (λ l. due s ++ l) (let_in-is ∙ ap (λ k. flat_map (sent_under s q) (numbers_from (suc (released s q)) k)) none)
          ∙ (append-nil (due s) ∙ ap (λ b. due_with b (due s) (held_up s q n ++ held_up s q m)) (sym is))
      by_lead true is =
          let first = end.first is in
          let later = end.later in
          ap (λ l. due s ++ l)
          (let_in-is
          ∙ (ap (λ r. flat_map (sent_under s q) (numbers_from (suc (released s q)) (r - released s q))) (released-now true is)
          ∙ (gathered-all (released s q) (has (ended s q)) (sent_under s q) m (omega arith) (first-not_ended stands q)
          (λ k gt lt. end.between k (omega arith) lt)
          ∙ ap (λ l. l ++ held_up s q m) (sym (released-none (released s q) (has (ended s q)) (sent_under s q) n (omega arith))))))
          ∙ ap (λ b. due_with b (due s) (held_up s q n ++ held_up s q m)) (sym is)
