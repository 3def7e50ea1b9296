-- Notes that are handed in with an ask: which word may not be used, and what their spending leaves.
use Rattle.std.proofs.Common.{◌≡◌, ℕ, zero, suc, ◌+◌, ◌<◌, ◌≤◌, ◌==◌, Bool, true, false, ◌||◌, List, [], ◌∷◌, length, drop, take, get_or, Option, Some, None, refl, ap, sym, ◌∙◌, subst, arith, if◌then◌else◌}
use Rattle.std.specs.List.{list_any}
use Rattle.std.specs.Option.{option_or}
use Rattle.std.proofs.Math.Seq.{drop-cons}
use Rattle.em_log.specs.declared.fault.Fault.{Fault}
use Rattle.em_log.specs.declared.declarations.Declarations.{Declarations}
use Rattle.em_log.specs.declared.ids.Limits.{Limits}
use Rattle.em_log.specs.declared.ids.Note.{Note}
use Rattle.em_log.specs.History.{Past, has}
use Rattle.em_log.specs.Leads as log
use Rattle.em_log.specs.Lawful.{AllAllowed}
use Rattle.em_pool.specs.declared.place.Spend.{Spend}
use Rattle.em_pool.specs.Steps.{PoolStep, Spent}
use Rattle.em_pool.specs.Handles.{rule, rule_of, minting, spending}
use Rattle.em_pool.specs.State.{PoolState, rule_at}
use Rattle.em_pool.proofs.Reading.{rule_at-rule}
use Rattle.em_pool.specs.Stands as pools
use Rattle.em_parts.specs.PoolSteps.{noted_steps, pool_steps}
use Rattle.em_parts.proofs.StepLemmas.{or-none}
use Rattle.em_parts.proofs.Spendings.{same-rule}
use Rattle.em_desk.specs.Notes.{notes_refusal, CanNote}

or-swap : (a b c : Bool) → (a || (b || c)) ≡ (b || (a || c))
or-swap true true c = refl
or-swap true false c = refl
or-swap false b c = refl

or-false : (a b : Bool) → (a || b) ≡ false → (a ≡ false) × (b ≡ false)
or-false true b h = absurd cc
or-false false b h = (refl, h)

-- the notes that were looked at

any-next : (ns : List Note) (i w : ℕ) (d : Note) → i < length ns → list_any (λ n. n.word == w) (take (suc i) ns) ≡ (((get_or ns i d).word == w) || list_any (λ n. n.word == w) (take i ns))
any-next [] i w d lt = absurd (omega (arith, lt))
any-next (n ∷ ns) zero w d lt = refl
any-next (n ∷ ns) (suc i) w d lt =
    ap (λ (b : Bool). (n.word == w) || b) (any-next ns i w d (omega (arith, lt))) ∙ or-swap (n.word == w) ((get_or ns i d).word == w) (list_any (λ n. n.word == w) (take i ns))

-- none of the first i notes is refused
pub record SoFar (s : List PoolStep) (c place : ℕ) (ns : List Note) (i : ℕ) : Type 0 where
  pub seen : List ℕ
  pub among : (w : ℕ) → has seen w ≡ list_any (λ n. n.word == w) (take i ns)
  pub same : notes_refusal s c place [] ns ≡ notes_refusal s c place seen (drop i ns)

at-note : (s : List PoolStep) (c place i : ℕ) (ns : List Note) (d : Note) (f : SoFar s c place ns i) → i < length ns
    → notes_refusal s c place [] ns ≡ option_or (if has f.seen (get_or ns i d).word then Some (Fault.SpentBySend place) else rule s c (get_or ns i d).word)
    (notes_refusal s c place ((get_or ns i d).word ∷ f.seen) (drop (suc i) ns))
at-note s c place i ns d f lt = f.same ∙ ap (notes_refusal s c place f.seen) (drop-cons ns i d lt)

pub so-far-next : (s : List PoolStep) (c place i : ℕ) (ns : List Note) (d : Note) → SoFar s c place ns i → i < length ns
    → list_any (λ n. n.word == (get_or ns i d).word) (take i ns) ≡ false → rule s c (get_or ns i d).word ≡ None → SoFar s c place ns (suc i)
so-far-next s c place i ns d f lt new ok =
    record {
      seen = (get_or ns i d).word ∷ f.seen;
      among = λ w. ap (λ (b : Bool). ((get_or ns i d).word == w) || b) (f.among w) ∙ sym (any-next ns i w d lt);
      same = at-note s c place i ns d f lt ∙ (let no = f.among (get_or ns i d).word ∙ new in rw (no, ok) refl);
    }

pub refused-twice : (s : List PoolStep) (c place i : ℕ) (ns : List Note) (d : Note) → SoFar s c place ns i → i < length ns
    → list_any (λ n. n.word == (get_or ns i d).word) (take i ns) ≡ true → Some (Fault.SpentBySend place) ≡ notes_refusal s c place [] ns
refused-twice s c place i ns d f lt old =
    sym (at-note s c place i ns d f lt ∙ (let yes = f.among (get_or ns i d).word ∙ old in rw yes refl))

pub refused-by-rule : (s : List PoolStep) (c place i : ℕ) (ns : List Note) (d : Note) (fault : Fault) → SoFar s c place ns i → i < length ns
    → list_any (λ n. n.word == (get_or ns i d).word) (take i ns) ≡ false → rule s c (get_or ns i d).word ≡ Some fault → Some fault ≡ notes_refusal s c place [] ns
refused-by-rule s c place i ns d fault f lt new ruled =
    sym (at-note s c place i ns d f lt ∙ (let fresh = f.among (get_or ns i d).word ∙ new in rw (fresh, ruled) refl))

-- by the history

pub notes-alike : (k : Declarations) (l : Limits) (past : Past) (c : ℕ) (seen : List ℕ) (ns : List Note) → AllAllowed k l past
    → notes_refusal (pool_steps k past) c (length past) seen ns ≡ log.notes_refusal past c seen ns
notes-alike k l past c seen [] all = refl
notes-alike k l past c seen (n ∷ ns) all =
    (λ i. option_or (if has seen n.word then Some (Fault.SpentBySend (length past)) else same-rule k l past c n.word all i)
    (notes-alike k l past c (n.word ∷ seen) ns all i))

-- their spending

rule-next : (s : List PoolStep) (c d w h place : ℕ) (how : Spend) → (w == h) ≡ false → rule (Spent c w how place ∷ s) d h ≡ rule s d h
rule-next s c d w h place how other =
    let none = or-none (spending s h) in rw other (ap (rule_of d h (minting s h)) none)

-- once a note is spent, the rest may be
spent-next : (s : List PoolStep) (c place w : ℕ) (seen more : List ℕ) (ns : List Note) → ((x : ℕ) → has more x ≡ ((w == x) || has seen x))
    → notes_refusal s c place more ns ≡ None → notes_refusal (Spent c w Spend.Noted place ∷ s) c place seen ns ≡ None
spent-next s c place w seen more [] same ok = refl
spent-next s c place w seen more (n ∷ ns) same ok =
    by_test (has more n.word) refl ok
    (spent-next s c place w (n.word ∷ seen) (n.word ∷ more) ns (λ x. ap (λ (b : Bool). (n.word == x) || b) (same x) ∙ or-swap (n.word == x) (w == x) (has seen x)))
  where
    both : (o p : Option Fault) → option_or o p ≡ None → (o ≡ None) × (p ≡ None)
    both None p h = (refl, h)
    both (Some f) p h = absurd (cc h)

    by_test : (b : Bool) → has more n.word ≡ b → option_or (if b then Some (Fault.SpentBySend place) else rule s c n.word) (notes_refusal s c place (n.word ∷ more) ns) ≡ None
        → (notes_refusal s c place (n.word ∷ more) ns ≡ None → notes_refusal (Spent c w Spend.Noted place ∷ s) c place (n.word ∷ seen) ns ≡ None)
        → notes_refusal (Spent c w Spend.Noted place ∷ s) c place seen (n ∷ ns) ≡ None
    by_test true is ok rest = absurd (cc ok)
    by_test false is ok rest =
        let parts = both (rule s c n.word) (notes_refusal s c place (n.word ∷ more) ns) ok in
        let apart = or-false (w == n.word) (has seen n.word) (sym (same n.word) ∙ is) in
        let free = rule-next s c c w n.word place Spend.Noted apart.0 ∙ parts.0 in
        let unseen = apart.1 in
        let later = rest parts.1 in rw (unseen, free) later

-- the first of them may be spent, and then the others
pub record CanFirst (s : List PoolStep) (c place : ℕ) (n : Note) (ns : List Note) : Type 0 where
  pub free : rule s c n.word ≡ None
  pub rest : notes_refusal (Spent c n.word Spend.Noted place ∷ s) c place [] ns ≡ None

pub can-first : (s : List PoolStep) (c place : ℕ) (n : Note) (ns : List Note) → notes_refusal s c place [] (n ∷ ns) ≡ None → CanFirst s c place n ns
can-first s c place n ns ok = by_rule (rule s c n.word) refl ok
  where
    by_rule : (o : Option Fault) → rule s c n.word ≡ o → option_or o (notes_refusal s c place (n.word ∷ []) ns) ≡ None → CanFirst s c place n ns
    by_rule None is ok = record { free = is; rest = spent-next s c place n.word [] (n.word ∷ []) ns (λ x. refl) ok }
    by_rule (Some f) is ok = absurd (cc ok)

-- so far as they are spent
pub record SpentFar (v : PoolState) (s : List PoolStep) (c place : ℕ) (ns rest : List Note) : Type 0 where
  pub steps : List PoolStep
  pub stands : pools.Stands v steps
  pub same : noted_steps c place rest steps ≡ noted_steps c place ns s

pub can-now : (v : PoolState) (c place i : ℕ) (ns : List Note) (d : Note) → CanNote v c place (drop i ns) → i < length ns → rule_at v c (get_or ns i d).word ≡ None
can-now v c place i ns d can lt =
    let ok : notes_refusal can.steps c place [] (get_or ns i d ∷ drop (suc i) ns) ≡ None = subst (λ ns. notes_refusal can.steps c place [] ns ≡ None) (drop-cons ns i d lt) can.free in
    rule_at-rule can.stands c (get_or ns i d).word ∙ (can-first can.steps c place (get_or ns i d) (drop (suc i) ns) ok).free

pub can-later : (v now : PoolState) (c place i : ℕ) (ns : List Note) (d : Note) → CanNote v c place (drop i ns) → i < length ns
    → ((s : List PoolStep) → pools.Stands v s → pools.Stands now (Spent c (get_or ns i d).word Spend.Noted place ∷ s)) → CanNote now c place (drop (i + 1) ns)
can-later v now c place i ns d can lt stands =
    let ok : notes_refusal can.steps c place [] (get_or ns i d ∷ drop (suc i) ns) ≡ None = subst (λ ns. notes_refusal can.steps c place [] ns ≡ None) (drop-cons ns i d lt) can.free in
    let one : suc i ≡ i + 1 = omega arith in
    subst (λ (m : ℕ). CanNote now c place (drop m ns)) one
    (record {
      steps = Spent c (get_or ns i d).word Spend.Noted place ∷ can.steps;
      stands = stands can.steps can.stands;
      free = (can-first can.steps c place (get_or ns i d) (drop (suc i) ns) ok).rest;
    })

pub spent-later : (v now : PoolState) (s : List PoolStep) (c place i : ℕ) (ns : List Note) (d : Note) → SpentFar v s c place ns (drop i ns) → i < length ns
    → ((s : List PoolStep) → pools.Stands v s → pools.Stands now (Spent c (get_or ns i d).word Spend.Noted place ∷ s)) → SpentFar now s c place ns (drop (i + 1) ns)
spent-later v now s c place i ns d far lt stands =
    let one : suc i ≡ i + 1 = omega arith in
    subst (λ (m : ℕ). SpentFar now s c place ns (drop m ns)) one
    (record {
      steps = Spent c (get_or ns i d).word Spend.Noted place ∷ far.steps;
      stands = stands far.steps far.stands;
      same = ap (λ ms. noted_steps c place ms far.steps) (sym (drop-cons ns i d lt)) ∙ far.same;
    })

drop-past : (ns : List Note) (i : ℕ) → length ns ≤ i → drop i ns ≡ []
drop-past [] zero le = refl
drop-past [] (suc i) le = refl
drop-past (n ∷ ns) zero le = absurd (omega (arith, le))
drop-past (n ∷ ns) (suc i) le = drop-past ns i (omega (arith, le))

pub spent-last : (v : PoolState) (s : List PoolStep) (c place i : ℕ) (ns : List Note) → SpentFar v s c place ns (drop i ns) → length ns ≤ i → pools.Stands v (noted_steps c place ns s)
spent-last v s c place i ns far end =
    subst (pools.Stands v) (ap (λ ms. noted_steps c place ms far.steps) (sym (drop-past ns i end)) ∙ far.same) far.stands
