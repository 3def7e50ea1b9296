-- What each step leaves of the first half of the rule.
use Rattle.std.proofs.Common.{◌≡◌, ◌≢◌, ℕ, suc, ◌+◌, ◌-◌, ◌%◌, ◌<◌, ◌≤◌, List, [], ◌∷◌, ◌++◌, set, get_or, refl, sym, ap, ◌∙◌, subst, inl, inr, ⊎_elim, arith}
use mathlib.Core.Logic.{dite}
use native.Mathlib.Decide.{ℕ_discrete}
use mathlib.Core.Option.{none, some}
use lib.ListN.{get_elem?}
use Rattle.std.specs.Prelude.{Option, Some}
use Rattle.atomic_table.specs.Table.{State}
use Rattle.atomic_table.proofs.Lists.{set_here, set_else, at_longer}
use Rattle.em_log.specs.Items.{LogItem}
use Rattle.em_turn.specs.Views.{Stage, Idle, Waiting, Inside, Known, tickets_at, tickets_of, Each}
use Rattle.em_turn.specs.Steps.{with_ticket, entered, passed, checked}
use Rattle.em_turn.specs.Rule.{wrap, InLine, OtherTicket, Homes, Slot, Tickets}
use Rattle.em_turn.proofs.Wraps.{next_ticket, moved_on, served_first, one_place}
use Rattle.em_turn.proofs.Views.{each_set, pairs_set, each_end, pairs_end, at_length, one_view, total_set, total_end, total_le, idle-inside, waiting-inside, still, moves}

tickets_le : (serving count : ℕ) (v : Known) → (st : Stage) → v.stage ≡ st → InLine serving count v → tickets_of v ≤ v.parts
tickets_le serving count v Idle e l = let q : tickets_of v ≡ 0 = ap tickets_at e in omega arith
tickets_le serving count v Waiting e l = let q : tickets_of v ≡ 1 = ap tickets_at e in let p = l.lives q in omega arith
tickets_le serving count v Inside e l = let q : tickets_of v ≡ 1 = ap tickets_at e in let p = l.lives q in omega arith

module _ {V : Type 0} where
  pub few : (s : State (Option V) Known) (t : Tickets s) → t.count ≤ 64
  few s t = let le = total_le tickets_of (λ v. v.parts) s.views (λ j u e. tickets_le t.serving t.count u u.stage refl (t.lined j u e)) in let a = t.counted in let b = t.shared in omega arith

  pub tickets_drawn : (s : State (Option V) Known) (t : Tickets s) (id : ℕ) (v : Known) → get_elem? s.views id ≡ some v → v.stage ≡ Idle → 0 < v.parts
      → Tickets record { words = set s.words 0 ((get_or s.words 0 0 + 1) % wrap); homes = s.homes; views = set s.views id (with_ticket v (get_or s.words 0 0)) }
  tickets_drawn s t id v at st lives =
      let n : ℕ = get_or s.words 0 0 in let w : Known = with_ticket v n in let c : ℕ = t.count in let k : ℕ = t.serving in
      let is : n ≡ (k + c) % wrap = ap (λ ws. get_or ws 0 0) t.words in
      let q : tickets_of v ≡ 0 = ap tickets_at st in let sum = total_set tickets_of s.views id v w at in let all = t.counted in
      let parts = total_set (λ u. u.parts) s.views id v w at in let all' = t.shared in let small = few s t in
      record {
        serving = k;
        count = suc c;
        words = ap (λ ws. set ws 0 ((get_or ws 0 0 + 1) % wrap)) t.words ∙ ap (λ (z : ℕ). z ∷ k ∷ []) (next_ticket k c wrap);
        counted = omega arith;
        shared = omega arith;
        lined = each_set (InLine k (suc c)) s.views id w
            record { lives = λ _. lives; drawn = λ _. (c, omega arith, is); served = λ e. absurd (waiting-inside Waiting refl e) }
            (λ j u ne e. let l = t.lined j u e in record { lives = l.lives; drawn = λ h. let d = l.drawn h in let lt = d.1 in (d.0, omega arith, d.2); served = l.served });
        apart = pairs_set OtherTicket s.views id w
            (λ j u ne e. let differ : tickets_of u ≡ 1 → n ≢ u.ticket = λ h f. let d = (t.lined j u e).drawn h in let lt : d.0 < c = d.1 in let x : d.0 ≡ c = one_place k d.0 c wrap (omega arith) (omega arith) (sym d.2 ∙ sym f ∙ is) in omega arith in
            ((λ _ h. differ h), λ h _ f. differ h (sym f))) t.apart;
        each = λ p lt. dite (ℕ_discrete p c)
            (λ e. (id, w, set_here s.views id w (at_length s.views id v at), refl, is ∙ ap (λ (z : ℕ). (k + z) % wrap) (sym e)))
            (λ ne. let h = t.each p (omega arith) in let not : h.0 ≢ id = (λ z. let x : tickets_of v ≡ tickets_of h.1 = ap tickets_of (one_view s.views id h.0 v h.1 (sym z) at h.2) in let y : tickets_of h.1 ≡ 1 = h.3 in omega arith) in
            (h.0, h.1, set_else s.views id h.0 w not ∙ h.2, h.3, h.4));
        slot = ⊎_elim (λ h. inl (h.0, h.1, each_set (λ u. u.stage ≢ Inside) s.views id w (waiting-inside Waiting refl) (λ j u ne e. h.2 j u e)))
            (λ h. inr (h.0, h.1, h.2, set_else s.views id h.1 w (λ e. idle-inside v.stage st (ap (λ u. u.stage) (one_view s.views id h.1 v h.2 (sym e) at h.3) ∙ h.4)) ∙ h.3, h.4)) t.slot;
      }

  -- where the ticket of a waiting seat is served, the slot is at home
  pub served_home : (s : State (Option V) Known) (t : Tickets s) (id : ℕ) (v : Known) → get_elem? s.views id ≡ some v → v.stage ≡ Waiting → v.ticket ≡ t.serving → (x : V) × (s.homes ≡ some (Some x) ∷ []) × Each (λ u. u.stage ≢ Inside) s.views
  served_home s t id v at st is = ⊎_elim (λ h. h)
      (λ h. let u = h.2 in absurd (dite (ℕ_discrete h.1 id)
      (λ e. waiting-inside v.stage st (ap (λ z. z.stage) (one_view s.views id h.1 v u (sym e) at h.3) ∙ h.4))
      (λ ne. t.apart h.1 id u v ne h.3 at (ap tickets_at h.4) (ap tickets_at st) ((t.lined h.1 u h.3).served h.4 ∙ sym is)))) t.slot

  pub tickets_entered : (s : State (Option V) Known) (t : Tickets s) (id : ℕ) (v : Known) (xs : List LogItem) → get_elem? s.views id ≡ some v → v.stage ≡ Waiting → v.ticket ≡ t.serving
      → Tickets record { words = set s.words 1 (get_or s.words 1 0); homes = set s.homes 0 none; views = set s.views id (entered v xs) }
  tickets_entered s t id v xs at st is =
      let w : Known = entered v xs in let c : ℕ = t.count in let k : ℕ = t.serving in let home = served_home s t id v at st is in let mine = t.lined id v at in
      let q : tickets_of v ≡ 1 = ap tickets_at st in let sum = total_set tickets_of s.views id v w at in let all = t.counted in
      let parts = total_set (λ u. u.parts) s.views id v w at in let all' = t.shared in
      record {
        serving = k;
        count = c;
        words = ap (λ ws. set ws 1 (get_or ws 1 0)) t.words;
        counted = omega arith;
        shared = omega arith;
        lined = each_set (InLine k c) s.views id w record { lives = λ _. mine.lives q; drawn = λ _. mine.drawn q; served = λ _. is } (λ j u ne e. t.lined j u e);
        apart = pairs_set OtherTicket s.views id w (λ j u ne e. ((λ _ h. t.apart id j v u (λ f. ne (sym f)) at e q h), λ h _. t.apart j id u v ne e at h q)) t.apart;
        each = λ p lt. let h = t.each p lt in dite (ℕ_discrete h.0 id)
            (λ z. (id, w, set_here s.views id w (at_length s.views id v at), refl, ap (λ u. u.ticket) (one_view s.views id h.0 v h.1 (sym z) at h.2) ∙ h.4))
            (λ ne. (h.0, h.1, set_else s.views id h.0 w ne ∙ h.2, h.3, h.4));
        slot = inr (ap (λ h. set h 0 none) home.1, id, w, set_here s.views id w (at_length s.views id v at), refl);
      }

  -- a seat with the turn has the slot out, and no other seat has the turn
  pub inside_out : (s : State (Option V) Known) (t : Tickets s) (id : ℕ) (v : Known) → get_elem? s.views id ≡ some v → v.stage ≡ Inside → (s.homes ≡ none ∷ []) × ((j : ℕ) (u : Known) → j ≢ id → get_elem? s.views j ≡ some u → u.stage ≢ Inside)
  inside_out s t id v at st = (
    ⊎_elim (λ h. absurd (h.2 id v at st)) (λ h. h.0) t.slot,
    λ j u ne e f. t.apart j id u v ne e at (ap tickets_at f) (ap tickets_at st) ((t.lined j u e).served f ∙ sym ((t.lined id v at).served st)),
  )

  pub tickets_passed : (s : State (Option V) Known) (t : Tickets s) (id : ℕ) (v : Known) (y : V) (xs : List LogItem) → get_elem? s.views id ≡ some v → v.stage ≡ Inside → get_or s.words 1 0 < wrap
      → Tickets record { words = set s.words 1 ((get_or s.words 1 0 + 1) % wrap); homes = set s.homes 0 (some (Some y)); views = set s.views id (passed v xs) }
  tickets_passed s t id v y xs at st small =
      let w : Known = passed v xs in let c : ℕ = t.count in let k : ℕ = t.serving in let out = inside_out s t id v at st in let mine = t.lined id v at in let is : v.ticket ≡ k = mine.served st in
      let q : tickets_of v ≡ 1 = ap tickets_at st in let sum = total_set tickets_of s.views id v w at in let all = t.counted in
      let parts = total_set (λ u. u.parts) s.views id v w at in let all' = t.shared in
      let low : k < wrap = subst (λ (z : ℕ). z < wrap) (ap (λ ws. get_or ws 1 0) t.words) small in
      let some_one : 0 < c = (let d = mine.drawn q in let lt : d.0 < c = d.1 in omega arith) in
      record {
        serving = (k + 1) % wrap;
        count = c - 1;
        words = ap (λ ws. set ws 1 ((get_or ws 1 0 + 1) % wrap)) t.words ∙ ap (λ (z : ℕ). z ∷ (k + 1) % wrap ∷ []) (moved_on k c wrap some_one);
        counted = omega arith;
        shared = omega arith;
        lined = each_set (InLine ((k + 1) % wrap) (c - 1)) s.views id w
            record { lives = λ h. let z : tickets_of w ≡ 1 = h in absurd (omega arith); drawn = λ h. let z : tickets_of w ≡ 1 = h in absurd (omega arith); served = λ e. absurd (idle-inside Idle refl e) }
            (λ j u ne e. let l = t.lined j u e in record {
              lives = l.lives;
              drawn = λ h. let d = l.drawn h in let p : ℕ = d.0 in let lt : p < c = d.1 in let far : p ≢ 0 = (λ z. t.apart j id u v ne e at h q (d.2 ∙ served_first k p wrap low z ∙ sym is)) in (p - 1, omega arith, d.2 ∙ moved_on k p wrap (omega arith));
              served = λ f. absurd (out.1 j u ne e f);
            });
        apart = pairs_set OtherTicket s.views id w (λ j u ne e. ((λ h _. let z : tickets_of w ≡ 1 = h in absurd (omega arith)), λ _ h. let z : tickets_of w ≡ 1 = h in absurd (omega arith))) t.apart;
        each = λ p lt. let h = t.each (suc p) (omega arith) in let small = few s t in
            let not : h.0 ≢ id = (λ z. let e : (k + suc p) % wrap ≡ (k + 0) % wrap = sym h.4 ∙ ap (λ u. u.ticket) (sym (one_view s.views id h.0 v h.1 (sym z) at h.2)) ∙ is ∙ sym (served_first k 0 wrap low refl) in
            let x : suc p ≡ 0 = one_place k (suc p) 0 wrap (omega arith) (omega arith) e in omega arith) in
            (h.0, h.1, set_else s.views id h.0 w not ∙ h.2, h.3, h.4 ∙ moved_on k (suc p) wrap (omega arith) ∙ ap (λ (z : ℕ). ((k + 1) % wrap + z) % wrap) (let z : suc p - 1 ≡ p = omega arith in z));
        slot = inl (y, ap (λ h. set h 0 (some (Some y))) out.0, each_set (λ u. u.stage ≢ Inside) s.views id w (idle-inside Idle refl) (λ j u ne e. out.1 j u ne e));
      }

pub idle_line : (serving count : ℕ) (v : Known) → v.stage ≡ Idle → InLine serving count v
idle_line serving count v st = record { lives = λ h. absurd (still v.stage st h); drawn = λ h. absurd (still v.stage st h); served = λ e. absurd (idle-inside v.stage st e) }

-- the slot, where the views of seats without the turn change
module _ {V : Type 0} where
  slot_same : (homes : Homes V) (views views' : List Known) → ((j : ℕ) (u : Known) → get_elem? views j ≡ some u → u.stage ≡ Inside → get_elem? views' j ≡ some u) → (Each (λ u. u.stage ≢ Inside) views → Each (λ u. u.stage ≢ Inside) views')
      → Slot homes views → Slot homes views'
  slot_same homes views views' stay none_inside h = ⊎_elim (λ a. inl (a.0, a.1, none_inside a.2)) (λ b. inr (b.0, b.1, b.2, stay b.1 b.2 b.3 b.4, b.4)) h

  pub tickets_split : (s : State (Option V) Known) (t : Tickets s) (id : ℕ) (v l r : Known) → get_elem? s.views id ≡ some v → v.stage ≡ Idle → l.stage ≡ Idle → r.stage ≡ Idle → l.parts + r.parts ≡ v.parts
      → Tickets record { words = s.words; homes = s.homes; views = set s.views id l ++ r ∷ [] }
  tickets_split s t id v l r at st sl sr sum =
      let c : ℕ = t.count in let k : ℕ = t.serving in let vs : List Known = set s.views id l in
      let a = total_set tickets_of s.views id v l at in let b = total_end tickets_of vs r in let q : tickets_of v ≡ 0 = ap tickets_at st in let ql : tickets_of l ≡ 0 = ap tickets_at sl in let qr : tickets_of r ≡ 0 = ap tickets_at sr in let all = t.counted in
      let a' = total_set (λ u. u.parts) s.views id v l at in let b' = total_end (λ u. u.parts) vs r in let all' = t.shared in
      record {
        serving = k;
        count = c;
        words = t.words;
        counted = omega arith;
        shared = omega arith;
        lined = each_end (InLine k c) vs r (idle_line k c r sr) (each_set (InLine k c) s.views id l (idle_line k c l sl) (λ j u ne e. t.lined j u e));
        apart = pairs_end OtherTicket vs r (λ j u e. ((λ h _. absurd (still r.stage sr h)), λ _ h. absurd (still r.stage sr h)))
            (pairs_set OtherTicket s.views id l (λ j u ne e. ((λ h _. absurd (still l.stage sl h)), λ _ h. absurd (still l.stage sl h))) t.apart);
        each = λ p lt. let h = t.each p lt in (h.0, h.1, at_longer vs (r ∷ []) h.0 h.1 (set_else s.views id h.0 l (λ z. moves v h.1 st h.3 (one_view s.views id h.0 v h.1 (sym z) at h.2)) ∙ h.2), h.3, h.4);
        slot = slot_same s.homes s.views (vs ++ r ∷ [])
            (λ j u e f. at_longer vs (r ∷ []) j u (set_else s.views id j l (λ z. idle-inside v.stage st (ap (λ w. w.stage) (one_view s.views id j v u (sym z) at e) ∙ f)) ∙ e))
            (λ none. each_end (λ u. u.stage ≢ Inside) vs r (idle-inside r.stage sr) (each_set (λ u. u.stage ≢ Inside) s.views id l (idle-inside l.stage sl) (λ j u ne e. none j u e))) t.slot;
      }

  pub tickets_joined : (s : State (Option V) Known) (t : Tickets s) (id other : ℕ) (v w b x : Known) → get_elem? s.views id ≡ some v → other ≢ id → get_elem? s.views other ≡ some w → v.stage ≡ Idle → w.stage ≡ Idle
      → b.stage ≡ Idle → x.stage ≡ Idle → b.parts + x.parts ≡ v.parts + w.parts → Tickets record { words = s.words; homes = s.homes; views = set (set s.views id b) other x }
  tickets_joined s t id other v w b x at ne at' sv sw sb sx sum =
      let c : ℕ = t.count in let k : ℕ = t.serving in let vs : List Known = set s.views id b in let there : get_elem? vs other ≡ some w = set_else s.views id other b ne ∙ at' in
      let m = total_set tickets_of s.views id v b at in let n = total_set tickets_of vs other w x there in let qv : tickets_of v ≡ 0 = ap tickets_at sv in let qw : tickets_of w ≡ 0 = ap tickets_at sw in let qb : tickets_of b ≡ 0 = ap tickets_at sb in let qx : tickets_of x ≡ 0 = ap tickets_at sx in
      let m' = total_set (λ u. u.parts) s.views id v b at in let n' = total_set (λ u. u.parts) vs other w x there in let all = t.counted in let all' = t.shared in
      record {
        serving = k;
        count = c;
        words = t.words;
        counted = omega arith;
        shared = omega arith;
        lined = each_set (InLine k c) vs other x (idle_line k c x sx) (λ j u _ e. each_set (InLine k c) s.views id b (idle_line k c b sb) (λ j u ne e. t.lined j u e) j u e);
        apart = pairs_set OtherTicket vs other x (λ j u ne e. ((λ h _. absurd (still x.stage sx h)), λ _ h. absurd (still x.stage sx h)))
            (pairs_set OtherTicket s.views id b (λ j u ne e. ((λ h _. absurd (still b.stage sb h)), λ _ h. absurd (still b.stage sb h))) t.apart);
        each = λ p lt. let h = t.each p lt in (h.0, h.1, set_else vs other h.0 x (λ z. moves w h.1 sw h.3 (one_view s.views other h.0 w h.1 (sym z) at' h.2)) ∙ set_else s.views id h.0 b (λ z. moves v h.1 sv h.3 (one_view s.views id h.0 v h.1 (sym z) at h.2)) ∙ h.2, h.3, h.4);
        slot = slot_same s.homes s.views (set vs other x)
            (λ j u e f. set_else vs other j x (λ z. idle-inside w.stage sw (ap (λ y. y.stage) (one_view s.views other j w u (sym z) at' e) ∙ f))
            ∙ set_else s.views id j b (λ z. idle-inside v.stage sv (ap (λ y. y.stage) (one_view s.views id j v u (sym z) at e) ∙ f)) ∙ e)
            (λ none. each_set (λ u. u.stage ≢ Inside) vs other x (idle-inside x.stage sx) (λ j u _ e. each_set (λ u. u.stage ≢ Inside) s.views id b (idle-inside b.stage sb) (λ j u _ e. none j u e) j u e)) t.slot;
      }

  pub tickets_checked : (s : State (Option V) Known) (t : Tickets s) (id : ℕ) (v : Known) → get_elem? s.views id ≡ some v → v.stage ≡ Idle
      → Tickets record { words = set s.words 0 (get_or s.words 0 0); homes = s.homes; views = set s.views id (checked v) }
  tickets_checked s t id v at st = let w : Known = checked v in let c : ℕ = t.count in let k : ℕ = t.serving in
      let a = total_set tickets_of s.views id v w at in let b = total_set (λ u. u.parts) s.views id v w at in let all = t.counted in let all' = t.shared in record {
        serving = k;
        count = c;
        words = ap (λ ws. set ws 0 (get_or ws 0 0)) t.words;
        counted = omega arith;
        shared = omega arith;
        lined = each_set (InLine k c) s.views id w (idle_line k c w st) (λ j u ne e. t.lined j u e);
        apart = pairs_set OtherTicket s.views id w (λ j u ne e. ((λ h _. absurd (still v.stage st h)), λ _ h. absurd (still v.stage st h))) t.apart;
        each = λ p lt. let h = t.each p lt in (h.0, h.1, set_else s.views id h.0 w (λ z. moves v h.1 st h.3 (one_view s.views id h.0 v h.1 (sym z) at h.2)) ∙ h.2, h.3, h.4);
        slot = slot_same s.homes s.views (set s.views id w) (λ j u e f. set_else s.views id j w (λ z. idle-inside v.stage st (ap (λ y. y.stage) (one_view s.views id j v u (sym z) at e) ∙ f)) ∙ e)
            (λ none. each_set (λ u. u.stage ≢ Inside) s.views id w (idle-inside v.stage st) (λ j u ne e. none j u e)) t.slot;
      }
