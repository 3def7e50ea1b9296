-- Lists of views where one is changed or added, and the stages of seats.
use Rattle.std.proofs.Common.{◌≡◌, ◌≢◌, ◌⊎◌, ℕ, zero, suc, ◌+◌, ◌<◌, ◌≤◌, List, [], ◌∷◌, ◌++◌, length, set, refl, sym, ap, ◌∙◌, subst, inl, inr, ⊎_elim, arith}
use mathlib.Core.Option.{some, some-injective, some-ne-none}
use lib.ListN.{get_elem?}
use Rattle.atomic_table.proofs.Lists.{at_set}
use Rattle.em_turn.specs.Views.{Stage, Idle, Waiting, Inside, Known, tickets_at, tickets_of, total, Each, Pairs}

pub each_set : (F : Known → Type 0) (views : List Known) (id : ℕ) (w : Known) → F w → ((j : ℕ) (u : Known) → j ≢ id → get_elem? views j ≡ some u → F u) → Each F (set views id w)
each_set F views id w mine others j u e = ⊎_elim (λ (x : (j ≡ id) × (w ≡ u)). subst F x.1 mine) (λ (x : (j ≢ id) × (get_elem? views j ≡ some u)). others j u x.0 x.1) (at_set views id j w u e)

pub pairs_set : (F : Known → Known → Type 0) (views : List Known) (id : ℕ) (w : Known) → ((j : ℕ) (u : Known) → j ≢ id → get_elem? views j ≡ some u → F w u × F u w) → Pairs F views → Pairs F (set views id w)
pairs_set F views id w mine others i j u v ne a b = ⊎_elim
    (λ (x : (i ≡ id) × (w ≡ u)). ⊎_elim (λ (y : (j ≡ id) × (w ≡ v)). absurd (ne (x.0 ∙ sym y.0)))
    (λ (y : (j ≢ id) × (get_elem? views j ≡ some v)). subst (λ (z : Known). F z v) x.1 (mine j v y.0 y.1).0) (at_set views id j w v b))
    (λ (x : (i ≢ id) × (get_elem? views i ≡ some u)). ⊎_elim (λ (y : (j ≡ id) × (w ≡ v)). subst (λ (z : Known). F u z) y.1 (mine i u x.0 x.1).1)
    (λ (y : (j ≢ id) × (get_elem? views j ≡ some v)). others i j u v ne x.1 y.1) (at_set views id j w v b)) (at_set views id i w u a)

pub at_end : (l : List Known) (a b : Known) (j : ℕ) → get_elem? (l ++ a ∷ []) j ≡ some b → (get_elem? l j ≡ some b) ⊎ ((a ≡ b) × (j ≡ length l))
at_end [] a b zero e = inr (some-injective a b e, refl)
at_end [] a b (suc j) e = absurd (some-ne-none b (sym e))
at_end (x ∷ xs) a b zero e = inl e
at_end (x ∷ xs) a b (suc j) e = ⊎_elim inl (λ t. inr (t.0, ap suc t.1)) (at_end xs a b j e)

pub each_end : (F : Known → Type 0) (views : List Known) (w : Known) → F w → Each F views → Each F (views ++ w ∷ [])
each_end F views w mine others j u e = ⊎_elim (λ x. others j u x) (λ (x : (w ≡ u) × (j ≡ length views)). subst F x.0 mine) (at_end views w u j e)

pub pairs_end : (F : Known → Known → Type 0) (views : List Known) (w : Known) → Each (λ u. F w u × F u w) views → Pairs F views → Pairs F (views ++ w ∷ [])
pairs_end F views w mine others i j u v ne a b = ⊎_elim
    (λ x. ⊎_elim (λ y. others i j u v ne x y) (λ (y : (w ≡ v) × (j ≡ length views)). subst (λ (z : Known). F u z) y.0 (mine i u x).1) (at_end views w v j b))
    (λ (x : (w ≡ u) × (i ≡ length views)). ⊎_elim (λ y. subst (λ (z : Known). F z v) x.0 (mine j v y).0) (λ (y : (w ≡ v) × (j ≡ length views)). absurd (ne (x.1 ∙ sym y.1))) (at_end views w v j b)) (at_end views w u i a)

pub only_one : (a b : Known) (i : ℕ) → get_elem? (a ∷ []) i ≡ some b → (i ≡ 0) × (a ≡ b)
only_one a b zero e = (refl, some-injective a b e)
only_one a b (suc i) e = absurd (some-ne-none b (sym e))

pub one_view : (views : List Known) (i j : ℕ) (u v : Known) → i ≡ j → get_elem? views i ≡ some u → get_elem? views j ≡ some v → u ≡ v
one_view views i j u v e a b = some-injective u v (sym a ∙ ap (get_elem? views) e ∙ b)

pub at_length : (l : List Known) (i : ℕ) (a : Known) → get_elem? l i ≡ some a → i < length l
at_length [] i a e = absurd (some-ne-none a (sym e))
at_length (x ∷ xs) zero a e = omega arith
at_length (x ∷ xs) (suc i) a e = let r = at_length xs i a e in omega arith

pub total_set : (f : Known → ℕ) (views : List Known) (id : ℕ) (v w : Known) → get_elem? views id ≡ some v → total f (set views id w) + f v ≡ total f views + f w
total_set f [] id v w e = absurd (some-ne-none v (sym e))
total_set f (x ∷ xs) zero v w e = let s : f x ≡ f v = ap f (some-injective x v e) in omega arith
total_set f (x ∷ xs) (suc id) v w e = let s = total_set f xs id v w e in omega arith

pub total_end : (f : Known → ℕ) (views : List Known) (w : Known) → total f (views ++ w ∷ []) ≡ total f views + f w
total_end f [] w = omega arith
total_end f (x ∷ xs) w = let s = total_end f xs w in omega arith

pub total_le : (f g : Known → ℕ) (views : List Known) → Each (λ v. f v ≤ g v) views → total f views ≤ total g views
total_le f g [] each = omega arith
total_le f g (x ∷ xs) each = let s = total_le f g xs (λ j u e. each (suc j) u e) in let t = each 0 x refl in omega arith

pub total_one : (f : Known → ℕ) (views : List Known) (i : ℕ) (u : Known) → get_elem? views i ≡ some u → f u ≤ total f views
total_one f [] i u e = absurd (some-ne-none u (sym e))
total_one f (x ∷ xs) zero u e = let s : f x ≡ f u = ap f (some-injective x u e) in omega arith
total_one f (x ∷ xs) (suc i) u e = let s = total_one f xs i u e in omega arith

pub total_two : (f : Known → ℕ) (views : List Known) (i j : ℕ) (u v : Known) → i ≢ j → get_elem? views i ≡ some u → get_elem? views j ≡ some v → f u + f v ≤ total f views
total_two f [] i j u v ne a b = absurd (some-ne-none u (sym a))
total_two f (x ∷ xs) zero zero u v ne a b = absurd (ne refl)
total_two f (x ∷ xs) zero (suc j) u v ne a b = let s : f x ≡ f u = ap f (some-injective x u a) in let t = total_one f xs j v b in omega arith
total_two f (x ∷ xs) (suc i) zero u v ne a b = let s : f x ≡ f v = ap f (some-injective x v b) in let t = total_one f xs i u a in omega arith
total_two f (x ∷ xs) (suc i) (suc j) u v ne a b = let t = total_two f xs i j u v (λ e. ne (ap suc e)) a b in omega arith

-- stages differ

abbrev code : Stage → ℕ
code Idle = 1
code Waiting = 2
code Inside = 3

apart_stages : (s a b : Stage) → code a ≢ code b → s ≡ a → s ≢ b
apart_stages s a b ne p q = ne (ap code (sym p ∙ q))

pub idle-inside : (s : Stage) → s ≡ Idle → s ≢ Inside
idle-inside s = apart_stages s Idle Inside (λ e. omega arith)

pub waiting-inside : (s : Stage) → s ≡ Waiting → s ≢ Inside
waiting-inside s = apart_stages s Waiting Inside (λ e. omega arith)

-- an idle seat has no ticket

pub still : (s : Stage) → s ≡ Idle → tickets_at s ≢ 1
still s e f = let z = ap tickets_at e in omega arith

pub moves : (v u : Known) → v.stage ≡ Idle → tickets_of u ≡ 1 → v ≡ u → ⊥
moves v u st e same = still v.stage st (ap tickets_of same ∙ e)
