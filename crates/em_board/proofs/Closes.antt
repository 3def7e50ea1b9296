-- The passes of a board are joined into one seat, and its lock is closed.
use Rattle.std.proofs.Common.{◌≡◌, ℕ, suc, ◌+◌, ◌-◌, ◌*◌, ◌<◌, ◌≤◌, ◌==◌, Bool, true, false, List, [], ◌∷◌, ◌++◌, length, refl, sym, ap, ◌∙◌, subst, arith, append-nil, append_assoc, eqb-true, if◌then◌else◌}
use Rattle.em_log.specs.Items.{LogItem, Logged, Halted, Fixed}
use Rattle.em_turn.specs.Numbers.{In, After, claim}
use Rattle.em_turn.specs.Seats.{TableId, SeatView, GoesOn, joined}
use Rattle.em_turn.proofs.Items.{none_append, none_within, in_first, in_second}
use Rattle.em_board.specs.Marked.{entries, history, is_marked, items_of}
use Rattle.em_board.specs.SharedDesks.{SharedState, desk_in}
use Rattle.em_board.specs.Passes.{PassView, mine, share_of, count_of, shares, AreOf, AreAll}
use Rattle.em_board.specs.Calls.{Closes, ClosesEach, any_marked}
use Rattle.em_board.specs.Joins.{Covers, CoversAll, IsJoined}
use Rattle.em_board.proofs.Marked.{history-append, marked-append, items-after, part-history}

-- what goes on from what the first has seen goes on from what the second has
pub after-covered : (xs seen : List LogItem) (numbers ns : List ℕ) (ys : List LogItem) → After xs (claim numbers seen) → After seen (claim ns ys)
    → ((n : ℕ) → In n ns → In n numbers) → After xs (claim ns ys)
after-covered xs seen numbers ns ys a c within =
    (c.0 ++ a.0, a.1 ∙ ap (λ (l : List LogItem). l ++ a.0) c.1 ∙ append_assoc ys c.0 a.0, none_append ns c.0 a.0 c.2 (none_within numbers ns a.0 within a.2))

pub covers-more : (f o t : SeatView) (ns : List ℕ) (xs : List LogItem) → t ≡ joined f o → GoesOn t.seen f → Covers f ns xs → Covers t ns xs
covers-more f o t ns xs e a c =
    (after-covered t.seen f.seen f.numbers ns xs a c.0 c.1, λ n h. subst (λ (z : SeatView). In n z.numbers) (sym e) (in_first n f.numbers o.numbers (c.1 n h)))

pub covers-other : (f o t : SeatView) → t ≡ joined f o → GoesOn t.seen o → Covers t o.numbers o.seen
covers-other f o t e b = (b, λ n h. subst (λ (z : SeatView). In n z.numbers) (sym e) (in_second n f.numbers o.numbers h))

pub covers-all-more : (f o t : SeatView) (ps : List PassView) → t ≡ joined f o → GoesOn t.seen f → CoversAll f ps → CoversAll t ps
covers-all-more f o t [] e a c = tt
covers-all-more f o t (p ∷ ps) e a c = (covers-more f o t (p.core ∷ []) p.seen e a c.0, covers-all-more f o t ps e a c.1)

pub covers-self : (f : SeatView) → Covers f f.numbers f.seen
covers-self f = (([], sym (append-nil f.seen), tt), λ n h. h)

-- lists of passes from their end

pub of-last : (board : TableId) (fixed : Fixed) (ps : List PassView) (p : PassView) → AreOf board fixed (ps ++ p ∷ []) → AreOf board fixed ps × (p.board ≡ board) × (p.fixed ≡ fixed)
of-last board fixed [] p h = (tt, h.0, h.1)
of-last board fixed (q ∷ ps) p h = let r = of-last board fixed ps p h.2 in ((h.0, h.1, r.0), r.1, r.2)

pub shares-last : (n : ℕ) (ps : List PassView) (p : PassView) → shares n (ps ++ p ∷ []) ≡ shares n ps + share_of n p.core
shares-last n [] p = omega arith
shares-last n (q ∷ ps) p = let r = shares-last n ps p in omega arith

shares-by : (n : ℕ) (ps : List PassView) → 0 < n → n ≤ 8 → shares n ps ≡ length ps + count_of 0 ps * (64 - n)
shares-by n [] some few = omega arith
shares-by n (p ∷ ps) some few = by_test (p.core == 0) (shares-by n ps some few)
  where
    by_test : (b : Bool) → shares n ps ≡ length ps + count_of 0 ps * (64 - n) → (if b then 65 - n else 1) + shares n ps ≡ suc (length ps) + ((if b then 1 else 0) + count_of 0 ps) * (64 - n)
    by_test true e = omega arith
    by_test false e = omega arith

-- the seats of all passes are those of the lock
pub shares-all : (board : TableId) (ps : List PassView) (all : AreAll board ps) → all.fixed.declarations.cores ≤ 8 → shares all.fixed.declarations.cores ps ≡ 64
shares-all board ps all few =
    let n = all.fixed.declarations.cores in
    let some : 0 < n = all.some in
    let e : shares n ps ≡ length ps + count_of 0 ps * (64 - n) = shares-by n ps some few in
    let one : count_of 0 ps ≡ 1 = all.each 0 some in
    let many : length ps ≡ n = all.count in
    let f : length ps + count_of 0 ps * (64 - n) ≡ n + 1 * (64 - n) = λ i. many i + one i * (64 - n) in
    e ∙ f ∙ omega arith

-- joins, one after the other

pub record Joining (turn : TableId) (f t : SeatView) (all rest : List PassView) : Type 0 where
  pub done : List PassView
  pub passes : all ≡ rest ++ done
  pub here : t.turn ≡ turn
  pub outside : t.inside ≡ false
  pub fixed : t.fixed ≡ f.fixed
  pub spare : t.spare + shares f.fixed.declarations.cores rest ≡ f.spare + shares f.fixed.declarations.cores all
  pub first : Covers t f.numbers f.seen
  pub each : CoversAll t done
  pub left : AreOf turn f.fixed rest

pub joining-first : (turn : TableId) (f : SeatView) (all : List PassView) → f.turn ≡ turn → f.inside ≡ false → AreOf turn f.fixed all → Joining turn f f all all
joining-first turn f all here outside of =
    record { done = []; passes = sym (append-nil all); here = here; outside = outside; fixed = refl; spare = refl; first = covers-self f; each = tt; left = of }

pub joining-next : (turn : TableId) (f t t' o : SeatView) (all rest rest' : List PassView) (p : PassView) → Joining turn f t all rest → rest ≡ rest' ++ p ∷ []
    → o.numbers ≡ p.core ∷ [] → o.seen ≡ p.seen → o.spare + 1 ≡ share_of f.fixed.declarations.cores p.core
    → t' ≡ joined t o → GoesOn t'.seen t → GoesOn t'.seen o → Joining turn f t' all rest'
joining-next turn f t t' o all rest rest' p j cut numbers seen share e a b =
    let n = f.fixed.declarations.cores in
    let sum : t.spare + shares n rest ≡ f.spare + shares n all = j.spare in
    let last : shares n rest ≡ shares n rest' + share_of n p.core = ap (shares n) cut ∙ shares-last n rest' p in
    let more : t'.spare ≡ t.spare + o.spare + 1 = ap (λ (z : SeatView). z.spare) e in
    record {
      done = p ∷ j.done;
      passes = j.passes ∙ ap (λ (l : List PassView). l ++ j.done) cut ∙ append_assoc rest' (p ∷ []) j.done;
      here = ap (λ (z : SeatView). z.turn) e ∙ j.here;
      outside = ap (λ (z : SeatView). z.inside) e;
      fixed = ap (λ (z : SeatView). z.fixed) e ∙ j.fixed;
      spare = omega arith;
      first = covers-more t o t' f.numbers f.seen e a j.first;
      each = (subst (λ (ns : List ℕ). Covers t' ns p.seen) numbers (subst (λ (xs : List LogItem). Covers t' o.numbers xs) seen (covers-other t o t' e b)), covers-all-more t o t' j.done e a j.each);
      left = (of-last turn f.fixed rest' p (subst (AreOf turn f.fixed) cut j.left)).0;
    }

pub joining-done : (turn : TableId) (f t : SeatView) (all : List PassView) → f.turn ≡ turn → Joining turn f t all [] → IsJoined f t all
joining-done turn f t all is j =
    record { here = j.here ∙ sym is; outside = j.outside; fixed = j.fixed; spare = let e : t.spare + 0 ≡ f.spare + shares f.fixed.declarations.cores all = j.spare in omega arith; own = j.first; each = subst (CoversAll t) (sym j.passes) j.each }

-- the closed desk

pub covers-end : (t : SeatView) (ps : List PassView) (p : PassView) → CoversAll t ps → Covers t (p.core ∷ []) p.seen → CoversAll t (ps ++ p ∷ [])
covers-end t [] p c h = (h, tt)
covers-end t (q ∷ ps) p c h = (c.0, covers-end t ps p c.1 h)

marked-own : (c : ℕ) (xs : List LogItem) → is_marked (items_of c xs) ≡ true → is_marked xs ≡ true
marked-own c [] m = m
marked-own c (Logged e ∷ xs) m = by_test (e.core.0 == c) m (marked-own c xs)
  where
    by_test : (b : Bool) → is_marked (if b then Logged e ∷ items_of c xs else items_of c xs) ≡ true → (is_marked (items_of c xs) ≡ true → is_marked xs ≡ true) → is_marked xs ≡ true
    by_test true h later = later h
    by_test false h later = later h
marked-own c (Halted d ∷ xs) m = refl

both : (a b : Bool) → (a ≡ true → b ≡ true) → (b ≡ true → a ≡ true) → a ≡ b
both true b f g = sym (f refl)
both false true f g = absurd (cc (g refl))
both false false f g = refl

module _ (L : SharedState) (t : SeatView) (board : TableId) (fixed : Fixed) (same : L.fixed ≡ fixed) (goes : GoesOn L.items t) where
  after-one : (p : PassView) → Covers t (p.core ∷ []) p.seen → After L.items (claim (p.core ∷ []) p.seen)
  after-one p c = after-covered L.items t.seen t.numbers (p.core ∷ []) p.seen goes c.0 c.1

  closes-one : (p : PassView) → p.fixed ≡ fixed → Covers t (p.core ∷ []) p.seen → Closes (desk_in L) p
  closes-one p is c =
      let a = after-one p c in
      let f : L.fixed ≡ p.fixed = same ∙ sym is in
      record {
        declarations = ap (λ (z : Fixed). z.declarations) f;
        limits = ap (λ (z : Fixed). z.limits) f;
        rest = entries a.0;
        seen = ap history a.1 ∙ history-append p.seen a.0;
        own_part = part-history p.core L.items ∙ ap history (items-after p.core p.seen a.0 L.items a.1 a.2);
        halted = λ m. ap is_marked a.1 ∙ marked-append p.seen a.0 ∙ ap (λ (b : Bool). if b then true else is_marked a.0) m;
      }

  pub closes-each : (ps : List PassView) → AreOf board fixed ps → CoversAll t ps → ClosesEach (desk_in L) ps
  closes-each [] of c = tt
  closes-each (p ∷ ps) of c = (closes-one p of.1 c.0, closes-each ps of.2 c.1)

  -- the mark

  same-mine : (p : PassView) → Covers t (p.core ∷ []) p.seen → mine p ≡ items_of p.core L.items
  same-mine p c = let a = after-one p c in sym (items-after p.core p.seen a.0 L.items a.1 a.2)

  any-has : (d : ℕ) (ps : List PassView) → count_of d ps ≡ 1 → CoversAll t ps → is_marked (items_of d L.items) ≡ true → any_marked ps ≡ true
  any-has d [] one c m = absurd (omega arith)
  any-has d (p ∷ ps) one c m = by_test (p.core == d) refl one (λ e. any-has d ps e c.1 m)
    where
      either : (b x : Bool) → x ≡ true → (if b then true else x) ≡ true
      either true x e = refl
      either false x e = e

      by_test : (b : Bool) → (p.core == d) ≡ b → (if b then 1 else 0) + count_of d ps ≡ 1 → (count_of d ps ≡ 1 → any_marked ps ≡ true) → (if is_marked (mine p) then true else any_marked ps) ≡ true
      by_test true is n later =
          let e : p.core ≡ d = eqb-true p.core d is in
          ap (λ (b : Bool). if b then true else any_marked ps) (ap is_marked (same-mine p c.0) ∙ ap (λ (k : ℕ). is_marked (items_of k L.items)) e ∙ m)
      by_test false is n later = either (is_marked (mine p)) (any_marked ps) (later (omega arith))

  any-back : (ps : List PassView) → CoversAll t ps → any_marked ps ≡ true → is_marked L.items ≡ true
  any-back [] c m = absurd cc
  any-back (p ∷ ps) c m = by_test (is_marked (mine p)) refl m (any-back ps c.1)
    where
      by_test : (b : Bool) → is_marked (mine p) ≡ b → (if b then true else any_marked ps) ≡ true → (any_marked ps ≡ true → is_marked L.items ≡ true) → is_marked L.items ≡ true
      by_test true is h later = marked-own p.core L.items (ap is_marked (sym (same-mine p c.0)) ∙ is)
      by_test false is h later = later h

  pub marked-any : (ps : List PassView) → CoversAll t ps → ((d : ℕ) → d < fixed.declarations.cores → count_of d ps ≡ 1)
      → (is_marked L.items ≡ true → (d : ℕ) × (d < L.fixed.declarations.cores) × (is_marked (items_of d L.items) ≡ true)) → is_marked L.items ≡ any_marked ps
  marked-any ps c each mark =
      both (is_marked L.items) (any_marked ps)
      (λ m. let at = mark m in any-has at.0 ps (each at.0 (subst (λ (f : Fixed). at.0 < f.declarations.cores) same at.1)) c at.2)
      (any-back ps c)

pub close-spare : (board : TableId) (ps rest : List PassView) (p : PassView) (s t : SeatView) (all : AreAll board ps) → ps ≡ rest ++ p ∷ [] → s.fixed ≡ all.fixed → s.fixed.declarations.cores ≤ 8
    → s.spare + 1 ≡ share_of s.fixed.declarations.cores p.core → t.spare ≡ s.spare + shares s.fixed.declarations.cores rest → t.spare ≡ 63
close-spare board ps rest p s t all cut same few share sum =
    let n = s.fixed.declarations.cores in
    let whole : shares all.fixed.declarations.cores ps ≡ 64 = shares-all board ps all (subst (λ (f : Fixed). f.declarations.cores ≤ 8) same few) in
    let parts : shares n rest + share_of n p.core ≡ 64 = sym (shares-last n rest p) ∙ ap (shares n) (sym cut) ∙ ap (λ (f : Fixed). shares f.declarations.cores ps) same ∙ whole in
    omega arith

pub covers-passes : (t s : SeatView) (ps rest : List PassView) (p : PassView) → ps ≡ rest ++ p ∷ [] → s.numbers ≡ p.core ∷ [] → s.seen ≡ p.seen → CoversAll t rest → Covers t s.numbers s.seen → CoversAll t ps
covers-passes t s ps rest p cut numbers seen each own =
    subst (CoversAll t) (sym cut)
    (covers-end t rest p each (subst (λ (ns : List ℕ). Covers t ns p.seen) numbers (subst (λ (xs : List LogItem). Covers t s.numbers xs) seen own)))
