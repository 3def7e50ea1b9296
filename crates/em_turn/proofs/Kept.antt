-- The rule holds at the start, each step keeps it and may tell what it tells, and what it leaves at the end.
use Rattle.std.proofs.Common.{◌≡◌, ◌≢◌, ℕ, ◌+◌, ◌-◌, ◌%◌, ◌<◌, ◌≤◌, List, [], ◌∷◌, ◌++◌, set, get_or, refl, sym, ap, ◌∙◌, subst, inl, ⊎_elim, arith, append-nil}
use mathlib.Core.Logic.{dite}
use native.Mathlib.Decide.{ℕ_discrete}
use mathlib.Core.Option.{none, some}
use lib.ListN.{get_elem?}
use Rattle.std.specs.Prelude.{Option, Some}
use Rattle.atomic_table.specs.Table.{State, step, keeps, takes, gives, opening, Allows, Splits, Joins, Final, Seen}
use Rattle.atomic_table.proofs.Lists.{set_again, set_else}
use Rattle.em_log.specs.Items.{LogItem, Fixed}
use Rattle.em_turn.specs.Numbers.{OnlyOf, Below, After, claim}
use Rattle.em_turn.specs.Views.{Idle, Waiting, Inside, Known, tickets_at, total, Each}
use Rattle.em_turn.specs.Steps.{opened, with_ticket, entered, passed, divided, parted, united, spent, checked, Seated, Draws, Looks, Passes, Checks}
use Rattle.em_turn.specs.Rule.{wrap, InLine, Homes, Fits, Bounds, IsKept}
use Rattle.em_turn.proofs.Views.{only_one, one_view, total_one, total_two, idle-inside, waiting-inside}
use Rattle.em_turn.proofs.Items.{below_append, after_check}
use Rattle.em_turn.proofs.Tickets.{tickets_drawn, served_home, tickets_entered, inside_out, tickets_passed, idle_line, tickets_split, tickets_joined, tickets_checked}
use Rattle.em_turn.proofs.Lists.{lists_moved, fits_view, fits_more, same_value, not_home, lists_split, lists_joined}

module _ {V : Type 0} (items : V → List LogItem) (fixed_of : V → Fixed) where
  pub opening_keeps : (y : V) → items y ≡ [] → IsKept items fixed_of (opening (0 ∷ 0 ∷ []) (Some y ∷ []) (opened (fixed_of y)))
  opening_keeps y empty = let w : Known = opened (fixed_of y) in (
    record {
      serving = 0;
      count = 0;
      words = refl;
      counted = refl;
      shared = refl;
      lined = λ j u e. subst (InLine 0 0) (only_one w u j e).1 (idle_line 0 0 w refl);
      apart = λ i j u v ne a b. absurd (ne ((only_one w u i a).0 ∙ sym (only_one w v j b).0));
      each = λ p lt. absurd (omega arith);
      slot = inl (y, refl, λ j u e. subst (λ (z : Known). z.stage ≢ Inside) (only_one w u j e).1 (idle-inside Idle refl));
    },
    record {
      log = [];
      fixed = fixed_of y;
      home = λ x e. let same : y ≡ x = same_value items fixed_of x y (some (Some y) ∷ []) refl e in (ap items (sym same) ∙ empty, ap fixed_of (sym same));
      fits = λ j u e. subst (Fits [] (fixed_of y)) (only_one w u j e).1 (fits_view items fixed_of [] (fixed_of y) (claim (0 ∷ []) []) (fixed_of y) 0 64 Idle 0 refl (omega arith) (λ z. absurd (idle-inside Idle refl z)) ([], refl, tt));
      alone = λ i j u v ne a b. absurd (ne ((only_one w u i a).0 ∙ sym (only_one w v j b).0));
      bounds = λ i j u v a b. subst (λ (z : Known × Known). Bounds z.0 z.1) (λ k. ((only_one w u i a).1 k, (only_one w v j b).1 k)) (λ _ n h. ⊎_elim (λ (e : n ≡ 0). omega arith) (λ z. absurd z) h);
      below = λ j u e. subst (λ (z : Known). z.own.numbers ≡ 0 ∷ [] → Below z.parts []) (only_one w u j e).1 (λ _. tt);
    },
  )

  pub draw_keeps : (slots id : ℕ) (me : Seated V) → me.0.stage ≡ Idle → 0 < me.0.parts → Allows (IsKept items fixed_of) slots id me 0 (λ n. (n + 1) % wrap) (Draws (step slots 0 1 0 none) me)
  draw_keeps slots id me st lives s k wide at small =
      let n : ℕ = get_or s.words 0 0 in let w : Known = with_ticket me.0 n in let l = k.1 in let f = l.fits id me.0 at in (
        w,
        keeps,
        tt,
        (
          tickets_drawn s k.0 id me.0 at st lives,
          lists_moved items fixed_of s l id me.0 w (set s.words 0 ((n + 1) % wrap)) s.homes l.log at refl refl l.home
              (fits_view items fixed_of l.log l.fixed me.0.own me.0.fixed (me.0.turns + 1) me.0.parts Waiting n (f.same lives) (f.named lives) (λ e. absurd (waiting-inside Waiting refl e)) f.own)
              (λ j u ne e. l.fits j u e) l.below,
        ),
        refl,
      )

  -- a step that changes nothing
  stays : (s : State (Option V) Known) (i id : ℕ) (v : Known) → IsKept items fixed_of s → get_elem? s.views id ≡ some v → set s.words i (get_or s.words i 0) ≡ s.words
      → IsKept items fixed_of record { words = set s.words i (get_or s.words i 0); homes = s.homes; views = set s.views id v }
  stays s i id v k at same = subst (λ (z : List ℕ × List Known). IsKept items fixed_of record { words = z.0; homes = s.homes; views = z.1 }) (λ j. (sym same j, sym (set_again s.views id v at) j)) k

  pub look_keeps : (slots id : ℕ) (me : Seated V) → me.0.stage ≡ Waiting → 0 < me.0.parts → Allows (IsKept items fixed_of) slots id me 1 (λ n. n) (Looks items fixed_of (step slots 1 0 0 none) me)
  look_keeps slots id me st lives s k wide at small =
      let n : ℕ = get_or s.words 1 0 in let t = k.0 in let l = k.1 in let v : Known = me.0 in let f = l.fits id v at in
      let same : set s.words 1 (get_or s.words 1 0) ≡ s.words = ap (λ ws. set ws 1 (get_or ws 1 0)) t.words ∙ sym t.words in let shows : n ≡ t.serving = ap (λ ws. get_or ws 1 0) t.words in
      dite (ℕ_discrete n v.ticket)
      (λ hit. let is : v.ticket ≡ t.serving = sym hit ∙ shows in let home = served_home s t id v at st is in let x : V = home.0 in let here = l.home x home.1 in let w : Known = entered v (items x) in let F = f.same lives in (
        w,
        takes 0 (Some x),
        ap (λ h. get_elem? h 0) home.1,
        (
          tickets_entered s t id v (items x) at st is,
          lists_moved items fixed_of s l id v w (set s.words 1 n) (set s.homes 0 none) l.log at refl refl (λ y e. absurd (not_home items fixed_of y (set s.homes 0 none) (ap (λ h. set h 0 none) home.1) e))
              (fits_view items fixed_of l.log l.fixed (claim v.own.numbers (items x)) v.fixed v.turns v.parts Inside v.ticket F (f.named lives) (λ _. here.0) ([], sym here.0 ∙ sym (append-nil (items x)), tt))
              (λ j u ne e. l.fits j u e) l.below,
        ),
        ((λ _. (x, refl, here.1 ∙ sym F, subst (λ (xs : List LogItem). After xs v.own) (sym here.0) f.own)), λ miss. absurd (miss hit)),
      ))
      (λ miss. (v, keeps, tt, stays s 1 id v k at same, ((λ hit. absurd (miss hit)), λ _. refl)))

  pub pass_keeps : (slots id : ℕ) (v : Known) (y : V) (added : List LogItem) → v.stage ≡ Inside → 0 < v.parts → items y ≡ v.own.seen ++ added → OnlyOf v.own.numbers added → fixed_of y ≡ v.fixed
      → Allows (IsKept items fixed_of) slots id (v, (0, Some y) ∷ []) 1 (λ n. (n + 1) % wrap) (Passes items (step slots 1 1 0 none) (v, (0, Some y) ∷ []))
  pass_keeps slots id v y added st lives is only fx s k wide at small =
      let n : ℕ = get_or s.words 1 0 in let t = k.0 in let l = k.1 in let f = l.fits id v at in let w : Known = passed v (items y) in
      let out = inside_out s t id v at st in let homes' : Homes V = set s.homes 0 (some (Some y)) in let full : homes' ≡ some (Some y) ∷ [] = ap (λ h. set h 0 (some (Some y))) out.0 in
      let grown : items y ≡ l.log ++ added = is ∙ ap (λ (xs : List LogItem). xs ++ added) (f.whole st) in (
        w,
        gives,
        tt,
        (
          tickets_passed s t id v y (items y) at st small,
          lists_moved items fixed_of s l id v w (set s.words 1 ((n + 1) % wrap)) homes' (items y) at refl refl
              (λ x e. let same : y ≡ x = same_value items fixed_of x y homes' full e in (ap items (sym same), ap fixed_of (sym same) ∙ fx ∙ f.same lives))
              (fits_view items fixed_of (items y) l.fixed (claim v.own.numbers (items y)) v.fixed v.turns v.parts Idle v.ticket (f.same lives) (f.named lives) (λ _. refl) ([], sym (append-nil (items y)), tt))
              (λ j u ne e. subst (λ (xs : List LogItem). Fits xs l.fixed u) (sym grown) (fits_more items fixed_of l.log added l.fixed u v.own.numbers (l.fits j u e) (out.1 j u ne e) only (l.alone id j v u (λ z. ne (sym z)) at e)))
              (λ j u e ns. subst (Below u.parts) (sym grown) (below_append u.parts v.own.numbers l.log added (l.below j u e ns) only (l.bounds j id u v e at ns))),
        ),
        refl,
      )

  pub split_keeps : (id : ℕ) (v : Known) → v.stage ≡ Idle → v.own.numbers ≡ 0 ∷ [] → 1 < v.parts → Splits (IsKept items fixed_of) id v (divided v) (parted v)
  split_keeps id v st zero_alone some_left s k at =
      let p : ℕ = v.parts in
      let many : p ≤ total (λ u. u.parts) s.views = total_one (λ u. u.parts) s.views id v at in let all : total (λ u. u.parts) s.views ≡ 64 = k.0.shared in
      (tickets_split s k.0 id v (divided v) (parted v) at st refl refl (let z : p - 1 + 1 ≡ p = omega arith in z), lists_split items fixed_of s k.1 id v at zero_alone some_left (omega arith) (k.1.fits id v at))

  pub join_keeps : (id : ℕ) (v : Known) (other : ℕ) (w : Known) → v.stage ≡ Idle → 0 < v.parts → w.stage ≡ Idle → 0 < w.parts → Joins (IsKept items fixed_of) id v other w (united v w) spent
  join_keeps id v other w st lives st' lives' s k at ne there =
      let at' : get_elem? s.views other ≡ some w = sym (set_else s.views id other (united v w) ne) ∙ there in
      (tickets_joined s k.0 id other v w (united v w) spent at ne at' st st' refl refl (omega arith), lists_joined items fixed_of s k.1 id other v w at ne at' lives lives')

  pub check_keeps : (slots id : ℕ) (me : Seated V) → me.0.stage ≡ Idle → 0 < me.0.parts → Allows (IsKept items fixed_of) slots id me 0 (λ n. n) (Checks (step slots 0 0 0 none) me)
  check_keeps slots id me st lives s k wide at small =
      let v : Known = me.0 in let t = k.0 in let l = k.1 in let f = l.fits id v at in
      let w : Known = checked v in (
        w,
        keeps,
        tt,
        (
          tickets_checked s t id v at st,
          lists_moved items fixed_of s l id v w (set s.words 0 (get_or s.words 0 0)) s.homes l.log at refl refl l.home
              (fits_view items fixed_of l.log l.fixed v.own v.fixed v.turns v.parts v.stage v.ticket (f.same lives) (f.named lives) f.whole f.own) (λ j u ne e. l.fits j u e) l.below,
        ),
        (refl, after_check l.log v.own v.first f.own f.first f.first_short, after_check l.log v.own v.second f.own f.second f.second_short, f.other_same lives ∙ sym (f.same lives)),
      )

  -- with all parts in one idle seat, the slot is at home
  pub closing_gives : (id : ℕ) (v : Known) (ws : List ℕ) (xs : List (Option V)) → v.stage ≡ Idle → v.parts ≡ 64 → Final (Seen (IsKept items fixed_of) id v) ws xs → (x : V) × (get_elem? xs 0 ≡ some (Some x)) × After (items x) v.own × (fixed_of x ≡ v.fixed)
  closing_gives id v ws xs st all last =
      let s = last.0 in let at = last.1.1 in let k = last.1.0 in let t = k.0 in let l = k.1 in let f = l.fits id v at in let lives : 0 < v.parts = omega arith in
      let home : (x : V) × (s.homes ≡ some (Some x) ∷ []) × Each (λ u. u.stage ≢ Inside) s.views = ⊎_elim (λ h. h)
      (λ h. let u = h.2 in absurd (dite (ℕ_discrete h.1 id)
      (λ e. idle-inside v.stage st (ap (λ y. y.stage) (one_view s.views id h.1 v u (sym e) at h.3) ∙ h.4))
      (λ ne. let p = (t.lined h.1 u h.3).lives (ap tickets_at h.4) in let two = total_two (λ y. y.parts) s.views id h.1 v u (λ z. ne (sym z)) at h.3 in let sum = t.shared in omega arith))) t.slot in
      let here = l.home home.0 home.1 in (
        home.0,
        last.4 0 (Some home.0) (ap (λ hs. get_elem? hs 0) home.1),
        subst (λ (ys : List LogItem). After ys v.own) (sym here.0) f.own,
        here.1 ∙ sym (f.same lives),
      )
