-- After a send, the ordered queues stand for one step more.
use Rattle.std.proofs.Common.{◌≡◌, ◌≢◌, ℕ, suc, ◌<◌, ◌≤◌, ◌==◌, ◌||◌, nat_le, false, List, [], ◌∷◌, ◌++◌, length, set, Some, None, if◌then◌else◌, arith, refl, ap, sym, ◌∙◌, subst, ⊎_elim}
use Rattle.std.proofs.lemmas.Bool.{cases_eq, cases_lt, le-leb, lt-leb, eq-eqb, ne_eqb}
use Rattle.std.proofs.lemmas.List.{get_or-set_same, get_or-set_other, length-set}
use Rattle.em_log.specs.History.{has}
use Rattle.em_log.specs.Order.{Ticket, is_ticket}
use Rattle.em_order.specs.declared.item_list.Item.{Item}
use Rattle.em_order.specs.declared.tickets.CoreOrder.{CoreOrder}
use Rattle.em_order.specs.declared.tickets.Way.{Way}
use Rattle.em_order.specs.Steps.{OrderStep, Sent}
use Rattle.em_order.specs.Tickets.{drawn, open_ticket, ended, released}
use Rattle.em_order.specs.Sends.{sent_under, enters, way, way_under, is_held_back}
use Rattle.em_order.specs.State.{OrderState, core_in, ticket_at, held_at, held_back_at, is_nil}
use Rattle.em_order.specs.Stands.{Stands, held_up}
use Rattle.em_order.specs.Changes.{LeastOpen, held_by}
use Rattle.em_order.proofs.HeldUp.{released-none, gathered-same, gathered-sent, gathered-sent_other}
use Rattle.em_order.proofs.Readings.{ticket, both, none_some, core-same, core-other, ticket-stays, is_ticket-same, is_ticket-queue, is_ticket-number, released-below, least-released}
use Rattle.em_order.proofs.NextOpen.{ticket-within}

-- what a send answers

module _ {v : OrderState} {s : List OrderStep} (stands : Stands v s) (c : ℕ) where
  pub way-free : ticket_at v c ≡ None → way s c ≡ Way.Enter
  way-free e = ap (way_under s) (sym (stands.tickets c) ∙ e)

  module _ (q n m : ℕ) (e : ticket_at v c ≡ Some (ticket q n)) (l : LeastOpen v.cores q n m) where
    way-is : way s c ≡ (if nat_le n m then Way.Enter else Way.Held m)
    way-is =
        ap (way_under s) (sym (stands.tickets c) ∙ e)
        ∙ ap (λ r. if nat_le n r then Way.Enter else Way.Held r) (least-released stands c q n m e l)

    pub way-held : m < n → way s c ≡ Way.Held m
    way-held lt = way-is ∙ ap (λ b. if b then Way.Enter else Way.Held m) (lt-leb n m lt)

    pub way-first : n ≤ m → way s c ≡ Way.Enter
    way-first le = way-is ∙ ap (λ b. if b then Way.Enter else Way.Held m) (le-leb n m le)

-- a send with no open ticket

pub free-stands : {v : OrderState} {s : List OrderStep} → Stands v s → (c : ℕ) (x : Item) → ticket_at v c ≡ None → Stands v (Sent c x ∷ s)
free-stands {v} {s} stands c x e = record {
  drawn_is = stands.drawn_is;
  tickets = stands.tickets;
  open_drawn = stands.open_drawn;
  open_not_ended = stands.open_not_ended;
  one_core = stands.one_core;
  not_ended_open = stands.not_ended_open;
  ended_drawn = stands.ended_drawn;
  unsent = λ q n le. nothing q n ∙ stands.unsent q n le;
  held_is = λ d q n is. stands.held_is d q n is ∙ sym (same q n);
  idle_is = stands.idle_is;
  rest_is = λ q. stands.rest_is q ∙ sym (same q (drawn s q));
  due_is = stands.due_is;
  held_back = λ i lt. stands.held_back i lt
      ∙ sym (ap (λ o. if enters s o then is_held_back s i else ((x.index == i) || is_held_back s i)) here);
}
  where
    here : open_ticket s c ≡ None
    here = sym (stands.tickets c) ∙ e

    nothing : (q n : ℕ) → sent_under (Sent c x ∷ s) q n ≡ sent_under s q n
    nothing q n = ap (λ o. if is_ticket q n o then sent_under s q n ++ x ∷ [] else sent_under s q n) here

    same : (q n : ℕ) → held_up (Sent c x ∷ s) q n ≡ held_up s q n
    same q n =
        gathered-same (released s q) (has (ended s q)) (has (ended s q)) (sent_under (Sent c x ∷ s) q) (sent_under s q) n (λ k lt. refl)
        (λ k le. nothing q k)

-- a send under an open ticket

module _ {v : OrderState} {s : List OrderStep} (stands : Stands v s) (c : ℕ) (x : Item) (q n : ℕ) (e : ticket_at v c ≡ Some (ticket q n)) where
  here : open_ticket s c ≡ Some (ticket q n)
  here = sym (stands.tickets c) ∙ e

  under : (r m : ℕ) → sent_under (Sent c x ∷ s) r m ≡ (if is_ticket r m (Some (ticket q n)) then sent_under s r m ++ x ∷ [] else sent_under s r m)
  under r m = ap (λ o. if is_ticket r m o then sent_under s r m ++ x ∷ [] else sent_under s r m) here

  under-same : sent_under (Sent c x ∷ s) q n ≡ sent_under s q n ++ x ∷ []
  under-same = under q n ∙ ap (λ b. if b then sent_under s q n ++ x ∷ [] else sent_under s q n) (is_ticket-same q n)

  under-queue : (r m : ℕ) → r ≢ q → sent_under (Sent c x ∷ s) r m ≡ sent_under s r m
  under-queue r m ne =
      under r m ∙ ap (λ b. if b then sent_under s r m ++ x ∷ [] else sent_under s r m) (is_ticket-queue q n r m (λ e. ne (sym e)))

  under-number : (r m : ℕ) → m ≢ n → sent_under (Sent c x ∷ s) r m ≡ sent_under s r m
  under-number r m ne =
      under r m ∙ ap (λ b. if b then sent_under s r m ++ x ∷ [] else sent_under s r m) (is_ticket-number q n r m (λ e. ne (sym e)))

  nothing : (r m : ℕ) → drawn s r ≤ m → sent_under (Sent c x ∷ s) r m ≡ []
  nothing r m le =
      ⊎_elim
      (λ same. under-number r m (λ number. let lt = stands.open_drawn c q n e in let many = ap (drawn s) same in absurd (omega arith)) ∙ stands.unsent r m le)
      (λ ne. under-queue r m ne ∙ stands.unsent r m le) (cases_eq r q)

  -- the other queues hold the same
  other-queue : (r m : ℕ) → r ≢ q → held_up (Sent c x ∷ s) r m ≡ held_up s r m
  other-queue r m ne =
      gathered-same (released s r) (has (ended s r)) (has (ended s r)) (sent_under (Sent c x ∷ s) r) (sent_under s r) m (λ k lt. refl)
      (λ k le. under-queue r k ne)

  -- and so do the other tickets
  other-number : (m : ℕ) → m ≢ n → held_up (Sent c x ∷ s) q m ≡ held_up s q m
  other-number m ne = ⊎_elim below above (cases_lt (released s q) (suc n))
    where
      below : released s q < suc n → held_up (Sent c x ∷ s) q m ≡ held_up s q m
      below lt =
          gathered-sent_other (released s q) (has (ended s q)) (sent_under s q) (sent_under (Sent c x ∷ s) q) n m (omega arith)
          (stands.open_not_ended c q n e) (λ k apart. sym (under-number q k apart)) ne

      above : suc n ≤ released s q → held_up (Sent c x ∷ s) q m ≡ held_up s q m
      above le = let most = released-below stands c q n e in absurd (omega arith)

  other : (r m : ℕ) → ticket r m ≢ ticket q n → held_up (Sent c x ∷ s) r m ≡ held_up s r m
  other r m ne =
      ⊎_elim
      (λ same. subst (λ k. held_up (Sent c x ∷ s) k m ≡ held_up s k m) (sym same)
      (other-number m (λ number. ne (λ i. record { queue = same i; number = number i }))))
      (λ apart. other-queue r m apart) (cases_eq r q)

  the_rest : (r : ℕ) → held_up (Sent c x ∷ s) r (drawn s r) ≡ held_up s r (drawn s r)
  the_rest r =
      other r (drawn s r) (λ same. let lt = stands.open_drawn c q n e in
      let queue : r ≡ q = ap (λ (t : Ticket). t.queue) same in
      let number : drawn s r ≡ n = ap (λ (t : Ticket). t.number) same in
      let many = ap (drawn s) queue in absurd (omega arith))

  -- it enters at once where no earlier ticket is open
  pub first-stands : n ≤ released s q → Stands v (Sent c x ∷ s)
  first-stands le = record {
    drawn_is = stands.drawn_is;
    tickets = stands.tickets;
    open_drawn = stands.open_drawn;
    open_not_ended = stands.open_not_ended;
    one_core = stands.one_core;
    not_ended_open = stands.not_ended_open;
    ended_drawn = stands.ended_drawn;
    unsent = nothing;
    held_is = λ d r m is. stands.held_is d r m is ∙ sym (all r m);
    idle_is = stands.idle_is;
    rest_is = λ r. stands.rest_is r ∙ sym (the_rest r);
    due_is = stands.due_is;
    held_back = λ i lt. stands.held_back i lt
        ∙ sym (ap (λ o. if enters s o then is_held_back s i else ((x.index == i) || is_held_back s i)) here
        ∙ ap (λ b. if b then is_held_back s i else ((x.index == i) || is_held_back s i)) (le-leb n (released s q) le));
  }
    where
      all : (r m : ℕ) → held_up (Sent c x ∷ s) r m ≡ held_up s r m
      all r m =
          ⊎_elim
          (λ same. ⊎_elim
          (λ number.
          let none = λ (steps : List OrderStep) (g : ℕ → List Item). released-none (released s q) (has (ended s q)) g n le in
          subst (λ k. held_up (Sent c x ∷ s) k m ≡ held_up s k m) (sym same)
          (subst (λ k. held_up (Sent c x ∷ s) q k ≡ held_up s q k) (sym number)
          (none s (sent_under (Sent c x ∷ s) q) ∙ sym (none s (sent_under s q)))))
          (λ apart. subst (λ k. held_up (Sent c x ∷ s) k m ≡ held_up s k m) (sym same) (other-number m apart)) (cases_eq m n))
          (λ apart. other-queue r m apart) (cases_eq r q)

  -- it is held back where an earlier ticket is open
  pub held-stands : released s q < n → held_back_at v x.index ≡ false → Stands (held_by v c x) (Sent c x ∷ s)
  held-stands lt free = record {
    drawn_is = stands.drawn_is;
    tickets = λ d. kept d ∙ stands.tickets d;
    open_drawn = λ d r m is. stands.open_drawn d r m (sym (kept d) ∙ is);
    open_not_ended = λ d r m is. stands.open_not_ended d r m (sym (kept d) ∙ is);
    one_core = λ d g t a b. stands.one_core d g t (sym (kept d) ∙ a) (sym (kept g) ∙ b);
    not_ended_open = λ r m lt f. let o = stands.not_ended_open r m lt f in (o.0, kept o.0 ∙ o.1);
    ended_drawn = stands.ended_drawn;
    unsent = nothing;
    held_is = λ d r m is. held_now d r m (sym (kept d) ∙ is);
    idle_is = λ d is.
        ap (λ (o : CoreOrder). o.held) (core-other v.cores c changed d (λ same. none_some (sym (kept d) ∙ is) (ap (ticket_at v) same ∙ e)))
        ∙ stands.idle_is d (sym (kept d) ∙ is);
    rest_is = λ r. stands.rest_is r ∙ sym (the_rest r);
    due_is = stands.due_is;
    held_back = back;
  }
    where
      changed : CoreOrder
      changed = record (core_in v.cores c) { held = held_at v c ++ x ∷ [] }

      within : c < length v.cores
      within = ticket-within v.cores c (ticket q n) e

      kept : (d : ℕ) → ticket_at (held_by v c x) d ≡ ticket_at v d
      kept d = ticket-stays v.cores c changed within refl d

      held_now : (d r m : ℕ) → ticket_at v d ≡ Some (ticket r m) → held_at (held_by v c x) d ≡ held_up (Sent c x ∷ s) r m
      held_now d r m is =
          ⊎_elim
          (λ same.
          let one : ticket r m ≡ ticket q n = both is (ap (ticket_at v) same ∙ e) in
          let more : held_up (Sent c x ∷ s) q n ≡ held_up s q n ++ x ∷ [] =
          gathered-sent (released s q) (has (ended s q)) (sent_under s q) (sent_under (Sent c x ∷ s) q) n x lt
          (λ k apart. sym (under-number q k apart)) under-same in
          subst (λ (t : Ticket). held_at (held_by v c x) d ≡ held_up (Sent c x ∷ s) t.queue t.number) (sym one)
          (subst (λ k. held_at (held_by v c x) k ≡ held_up (Sent c x ∷ s) q n) (sym same)
          (ap (λ (o : CoreOrder). o.held) (core-same v.cores c changed within)
          ∙ (ap (λ l. l ++ x ∷ []) (stands.held_is c q n e) ∙ sym more))))
          (λ apart.
          ap (λ (o : CoreOrder). o.held) (core-other v.cores c changed d apart)
          ∙ (stands.held_is d r m is
          ∙ sym (other r m (λ one. apart (stands.one_core d c (ticket q n) (is ∙ ap Some one) e)))))
          (cases_eq d c)

      waits : (i : ℕ) → is_held_back (Sent c x ∷ s) i ≡ ((x.index == i) || is_held_back s i)
      waits i =
          ap (λ o. if enters s o then is_held_back s i else ((x.index == i) || is_held_back s i)) here
          ∙ ap (λ b. if b then is_held_back s i else ((x.index == i) || is_held_back s i)) (lt-leb n (released s q) lt)

      back : (i : ℕ) → i < length (set v.nodes x.index []) → held_back_at (held_by v c x) i ≡ is_held_back (Sent c x ∷ s) i
      back i within =
          let lt : i < length v.nodes = subst (λ k. i < k) (length-set v.nodes x.index []) within in
          ⊎_elim
          (λ same.
          subst (λ k. held_back_at (held_by v c x) k ≡ is_held_back (Sent c x ∷ s) k) same
          (ap is_nil (get_or-set_same v.nodes x.index [] [] (subst (λ k. k < length v.nodes) (sym same) lt))
          ∙ sym (waits x.index ∙ ap (λ b. b || is_held_back s x.index) (eq-eqb x.index x.index refl))))
          (λ apart.
          ap is_nil (get_or-set_other v.nodes x.index i [] [] (λ e. apart (sym e)))
          ∙ (stands.held_back i lt ∙ sym (waits i ∙ ap (λ b. b || is_held_back s i) (ne_eqb x.index i apart))))
          (cases_eq x.index i)
