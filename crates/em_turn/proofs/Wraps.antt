-- Numbers counted modulo n.
use Rattle.std.proofs.Common.{◌≡◌, ℕ, suc, ◌+◌, ◌-◌, ◌%◌, ◌<◌, sym, ap, ◌∙◌, arith, lt_of_not-le}
use Rattle.std.proofs.Math.Nat.{mod-add-mod, mod-eq_of_lt}
use mathlib.Core.Logic.{dite}
use native.Mathlib.Decide.{dec_le}
use Rattle.atomic_table.proofs.Lists.{one_turn}

pub next_ticket : (s c n : ℕ) → ((s + c) % n + 1) % n ≡ (s + suc c) % n
next_ticket s c n = let e : s + c + 1 ≡ s + suc c = omega arith in mod-add-mod (s + c) n 1 ∙ ap (λ (z : ℕ). z % n) e

pub moved_on : (s p n : ℕ) → 0 < p → (s + p) % n ≡ ((s + 1) % n + (p - 1)) % n
moved_on s p n pos = let e : s + p ≡ s + 1 + (p - 1) = omega arith in ap (λ (z : ℕ). z % n) e ∙ sym (mod-add-mod (s + 1) n (p - 1))

pub served_first : (s p n : ℕ) → s < n → p ≡ 0 → (s + p) % n ≡ s
served_first s p n small e = let f : s + p ≡ s = omega arith in ap (λ (z : ℕ). z % n) f ∙ mod-eq_of_lt small

pub one_place : (s p q n : ℕ) → p < n → q < n → (s + p) % n ≡ (s + q) % n → p ≡ q
one_place s p q n a b e = dite (dec_le p q)
    (λ le. let x = one_turn (s + p) (s + q) n (omega arith) (omega arith) e in omega arith)
    (λ no. let le : q < p = lt_of_not-le no in let x = one_turn (s + q) (s + p) n (omega arith) (omega arith) (sym e) in omega arith)
