-- Lists of passes.
use Rattle.std.proofs.Common.{◌≡◌, ℕ, zero, suc, ◌+◌, ◌<◌, ◌≤◌, ◌==◌, false, List, [], ◌∷◌, ◌++◌, append-nil, length, map, Option, Some, None, IfSome, Result, Ok, Err, IfOk, option_to_list, refl, sym, ap, ◌∙◌, subst, if◌then◌else◌}
use Rattle.std.proofs.lemmas.List.{length-map}
use Rattle.em_log.specs.declared.declarations.Declarations.{Declarations}
use Rattle.em_log.specs.declared.declarations.PoolShape.{PoolShape}
use Rattle.em_log.specs.declared.graph.Config.{Config}
use Rattle.em_log.specs.declared.ids.Limits.{Limits}
use Rattle.em_log.specs.declared.ids.NoMemory.{NoMemory}
use Rattle.em_log.specs.Declarations.{atomic_of, declarations_of}
use Rattle.em_log.specs.Items.{Fixed}
use Rattle.em_turn.specs.Seats.{TableId}
use Rattle.em_board.specs.Passes.{PassView, AreAll, AreOf, count_of, first_pass, passes_from}
use Rattle.em_desk_rows.specs.Graphs.{one_queue}
use Rattle.em_board_rows.specs.Cores.{HasOneQueue, IsPlainRun}
use Rattle.em_board_rows.specs.Graphs.{boot_graph}
use Rattle.em_board_rows.specs.Passes.{AreBetween, IsAt, IsOf, Rights, rights}

-- the last pass, and those before it
pub record IsCut (board : TableId) (n : ℕ) (xs : List PassView) (p : PassView) : Type 0 where
  pub rest : AreBetween board n xs
  pub last : IsAt board false p
  pub room : n ≤ p.fixed.declarations.cores

pub cut-last : (board : TableId) (n : ℕ) (xs : List PassView) (p : PassView) → AreBetween board n (xs ++ p ∷ []) → IsCut board n xs p
cut-last board n [] p h = record { rest = tt; last = h.0; room = h.1 }
cut-last board n (x ∷ xs) p h = let c = cut-last board n xs p h.2 in record { rest = (h.0, h.1, c.rest); last = c.last; room = c.room }

pub with-last : (board : TableId) (n : ℕ) (xs : List PassView) (p : PassView) → IsCut board n xs p → AreBetween board n (xs ++ p ∷ [])
with-last board n [] p c = (c.last, c.room, tt)
with-last board n (x ∷ xs) p c = (c.rest.0, c.rest.1, with-last board n xs p (record { rest = c.rest.2; last = c.last; room = c.room }))

-- what is left where the last pass, if there is one, is taken off

module _ (board : TableId) (n : ℕ) (all rest : List PassView) (between : AreBetween board n all) where
  pub rest-between : (r : Option PassView) → all ≡ rest ++ option_to_list r → AreBetween board n rest
  rest-between None is = subst (AreBetween board n) (is ∙ append-nil rest) between
  rest-between (Some p) is = (cut-last board n rest p (subst (AreBetween board n) is between)).rest

  pub last-between : (r : Option PassView) → all ≡ rest ++ option_to_list r → IfSome r (λ p. IsAt board false p)
  last-between None is = tt
  last-between (Some p) is = (cut-last board n rest p (subst (AreBetween board n) is between)).last

  pub last-room : (r : Option PassView) → all ≡ rest ++ option_to_list r → IfSome r (λ p. n ≤ p.fixed.declarations.cores)
  last-room None is = tt
  last-room (Some p) is = (cut-last board n rest p (subst (AreBetween board n) is between)).room

-- lists with the same rights are as complete

module _ (board : TableId) where
  same-of : (fixed : Fixed) (ps qs : List PassView) → map rights qs ≡ map rights ps → AreOf board fixed ps → AreOf board fixed qs
  same-of fixed [] [] e h = tt
  same-of fixed [] (q ∷ qs) e h = absurd cc
  same-of fixed (p ∷ ps) [] e h = absurd cc
  same-of fixed (p ∷ ps) (q ∷ qs) e h =
      let first : rights q ≡ rights p = cc in
      let rest : map rights qs ≡ map rights ps = cc in
      (ap (λ (r : Rights). r.board) first ∙ h.0, ap (λ (r : Rights). r.fixed) first ∙ h.1, same-of fixed ps qs rest h.2)

  same-count : (c : ℕ) (ps qs : List PassView) → map rights qs ≡ map rights ps → count_of c qs ≡ count_of c ps
  same-count c [] [] e = refl
  same-count c [] (q ∷ qs) e = absurd cc
  same-count c (p ∷ ps) [] e = absurd cc
  same-count c (p ∷ ps) (q ∷ qs) e =
      let first : rights q ≡ rights p = cc in
      let rest : map rights qs ≡ map rights ps = cc in
      λ i. (if (first i).core == c then 1 else 0) + same-count c ps qs rest i

  same-length : (ps qs : List PassView) → map rights qs ≡ map rights ps → length qs ≡ length ps
  same-length ps qs e = sym (length-map qs rights) ∙ ap length e ∙ length-map ps rights

  pub same-all : (ps qs : List PassView) → map rights qs ≡ map rights ps → AreAll board ps → AreAll board qs
  same-all ps qs e all =
      record {
        fixed = all.fixed;
        of = same-of all.fixed ps qs e all.of;
        some = all.some;
        count = same-length ps qs e ∙ all.count;
        each = λ c lt. same-count c ps qs e ∙ all.each c lt;
      }

-- the passes that a board begins with

pub first-at : (such : Declarations → Limits → Type 0) (board : TableId) (fixed : Fixed) (c : ℕ) → such fixed.declarations fixed.limits
    → IsOf such board false (first_pass board fixed c)
first-at such board fixed c run = record { here = refl; run = run; known = record { lawful = record { each = tt; whole = refl }; open_context = refl } }

pub first-between : (board : TableId) (fixed : Fixed) (n c m : ℕ) → HasOneQueue fixed.declarations fixed.limits → n ≤ fixed.declarations.cores
    → AreBetween board n (passes_from board fixed c m)
first-between board fixed n c zero run few = tt
first-between board fixed n c (suc m) run few = (first-at HasOneQueue board fixed c run, few, first-between board fixed n (suc c) m run few)

-- graphs

pub one-queue : (g : Config) (l : Limits) (n : ℕ) (pool : PoolShape) → declarations_of g ≡ one_queue n pool → l.burst ≡ 1 → HasOneQueue (declarations_of g) l
one-queue g l n pool is one =
    record {
      run = record {
        graph = g;
        declared = refl;
        burst = one;
        unheld = λ q. ap (λ (k : Declarations). atomic_of k q) is ∙ none-atomic q;
      };
      pool = pool;
      is = is ∙ ap (λ (m : ℕ). one_queue m pool) (sym (ap (λ (k : Declarations). k.cores) is));
    }
  where
    none-atomic : (q : ℕ) → atomic_of (one_queue n pool) q ≡ None
    none-atomic zero = refl
    none-atomic (suc q) = refl

pub boot-run : (g : Config) (l : Limits) → declarations_of g ≡ boot_graph → l.burst ≡ 1 → IsPlainRun (declarations_of g) l
boot-run g l is one = record { graph = g; declared = refl; burst = one; unheld = λ q. ap (λ (k : Declarations). atomic_of k q) is }

pub one-core : (board : TableId) (fixed : Fixed) (ps : List PassView) (n : ℕ) → n ≡ 1 → ps ≡ passes_from board fixed 0 n → ps ≡ first_pass board fixed 0 ∷ []
one-core board fixed ps n one is = is ∙ ap (passes_from board fixed 0) one

pub one-pass : (x p : PassView) (xs : List PassView) → x ∷ [] ≡ xs ++ p ∷ [] → (xs ≡ []) × (p ≡ x)
one-pass x p [] e = let same : x ≡ p = cc in (refl, sym same)
one-pass x p (y ∷ []) e = absurd cc
one-pass x p (y ∷ z ∷ ys) e = absurd cc

-- what follows of each value of a call that has one
pub map-ok : {X : Type 0} (r : Result X NoMemory) (p q : X → Type 0) → IfOk r p → ((x : X) → p x → q x) → IfOk r q
map-ok (Ok x) p q h f = f x h
map-ok (Err e) p q h f = tt
