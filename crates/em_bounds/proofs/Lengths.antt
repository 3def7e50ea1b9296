-- What goes to queues is no more than a list of handles in which each stands as often.
use Rattle.std.proofs.Common.{◌≡◌, ◌≢◌, ℕ, suc, ◌≤◌, ◌==◌, List, [], ◌∷◌, length, refl, sym, ◌∙◌, ap, if◌then◌else◌, arith}
use Rattle.std.proofs.lemmas.Bool.{eq-eqb}
use Rattle.em_log.specs.Order.{Sent}
use Rattle.em_laws.proofs.Cores.{Compared, Same, Other, compared}
use Rattle.em_laws.proofs.Counts.{occ, times}

-- the list less the first h
less_one : ℕ → List ℕ → List ℕ
less_one h [] = []
less_one h (y ∷ ys) = if y == h then ys else y ∷ less_one h ys

record LessOne (h : ℕ) (ys : List ℕ) : Type 0 where
  size : length ys ≡ suc (length (less_one h ys))
  own : occ h ys ≡ suc (occ h (less_one h ys))
  others : (x : ℕ) → x ≢ h → occ x ys ≡ occ x (less_one h ys)

less-one : (h : ℕ) (ys : List ℕ) → 1 ≤ occ h ys → LessOne h ys
unfolding less_one
less-one h [] some = absurd (omega arith)
less-one h (y ∷ ys) some = by_test (compared y h) (less-one h ys) some
  where
    by_test : Compared y h → (1 ≤ occ h ys → LessOne h ys) → 1 ≤ occ h (y ∷ ys) → LessOne h (y ∷ ys)
    by_test (Same t e) later some = record {
      size = rw t refl;
      own = rw t refl;
      others = λ x other. rw t (away x other (compared y x));
    }
      where
        away : (x : ℕ) → x ≢ h → Compared y x → occ x (y ∷ ys) ≡ occ x ys
        away x other (Same u f) = absurd (other (sym f ∙ e))
        away x other (Other u f) = rw u refl
    by_test (Other t e) later some =
        let rest = later (rw t at some) in
        record {
          size = rw t (ap suc rest.size);
          own = rw t (rw t rest.own);
          others = λ x other. rw t (ap (λ n. if y == x then suc n else n) (rest.others x other));
        }

pub shorter : (xs : List Sent) (ys : List ℕ) → ((h : ℕ) → times h xs ≤ occ h ys) → length xs ≤ length ys
shorter [] ys within = omega arith
shorter (x ∷ xs) ys within =
    let mine : times x.handle (x ∷ xs) ≡ suc (times x.handle xs) = rw (eq-eqb x.handle x.handle refl) refl in
    let some : 1 ≤ occ x.handle ys = let w = within x.handle in omega (arith, mine, w) in
    let less = less-one x.handle ys some in
    let rest = shorter xs (less_one x.handle ys) (λ h. by_test h less (compared x.handle h)) in
    let size = less.size in omega (arith, rest, size)
  where
    by_test : (h : ℕ) → LessOne x.handle ys → Compared x.handle h → times h xs ≤ occ h (less_one x.handle ys)
    by_test h less (Same t e) =
        let whole : times h (x ∷ xs) ≡ suc (times h xs) = rw t refl in
        let w = within h in
        let own : occ h ys ≡ suc (occ h (less_one x.handle ys)) = ap (λ (i : ℕ). occ i ys) (sym e) ∙ (less.own ∙ ap (λ (i : ℕ). suc (occ i (less_one x.handle ys))) e) in
        omega (arith, whole, w, own)
    by_test h less (Other t e) =
        let whole : times h (x ∷ xs) ≡ times h xs = rw t refl in
        let w = within h in
        let other = less.others h (λ f. e (sym f)) in
        omega (arith, whole, w, other)
