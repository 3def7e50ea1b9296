-- An entry of another core names nothing that a core holds: each handle may be used by one core alone.
use Rattle.std.proofs.Common.{◌≡◌, ◌≢◌, ℕ, ◌==◌, Bool, true, false, ◌||◌, List, [], ◌∷◌, Option, Some, None, refl, sym, ap, ◌∙◌, eq-eqb, if◌then◌else◌}
use Rattle.std.proofs.lemmas.Bool.{false_from_ne_true}
use Rattle.em_log.specs.declared.declarations.Declarations.{Declarations}
use Rattle.em_log.specs.declared.entry.Entry.{Entry}
use Rattle.em_log.specs.declared.entry.What.{What}
use Rattle.em_log.specs.declared.ids.Limits.{Limits}
use Rattle.em_log.specs.Handles.{Minting, minting, held, Spending, spending, rule_of, rule}
use Rattle.em_log.specs.History.{Past, has, names, without, without_all}
use Rattle.em_log.specs.Lawful.{AllAllowed}
use Rattle.em_moments.proofs.Asked.{is_none-none}
use Rattle.em_moments.proofs.Moments.{Moment, allowed-moment}
use Rattle.em_laws.specs.Minted.{HasSmallIndices}
use Rattle.em_laws.proofs.Cores.{Compared, Same, Other, compared}
use Rattle.em_laws.proofs.Spent.{notes-usable}
use Rattle.em_laws.proofs.Usable.{usable-after}

-- a handle that is not in a list leaves it

without-absent : (n : ℕ) (ms : List ℕ) → has ms n ≡ false → without n ms ≡ ms
without-absent n [] none = refl
without-absent n (m ∷ ms) none = by_test (m == n) none (without-absent n ms)
  where
    by_test : (b : Bool) → (b || has ms n) ≡ false → (has ms n ≡ false → without n ms ≡ ms)
        → (if b then without n ms else m ∷ without n ms) ≡ m ∷ ms
    by_test true none rest = absurd cc
    by_test false none rest = ap (λ (xs : List ℕ). m ∷ xs) (rest none)

or-true : (b c : Bool) → c ≡ true → (b || c) ≡ true
or-true true c is = refl
or-true false c is = is

without-all-absent : (ns ms : List ℕ) → ((h : ℕ) → has ns h ≡ true → has ms h ≡ false) → without_all ns ms ≡ ms
without-all-absent [] ms apart = refl
without-all-absent (n ∷ ns) ms apart =
    let own : has (n ∷ ns) n ≡ true = let same = eq-eqb n n refl in rw same refl in
    let first = without-absent n ms (apart n own) in
    ap (without_all ns) first ∙ without-all-absent ns ms (λ h is. apart h (or-true (n == h) (has ns h) is))

-- who may use a handle

-- the core that may use a handle has minted it
usable-core : (past : Past) (c h : ℕ) → rule past c h ≡ None → (m : Minting) × (minting past h ≡ Some m) × (m.core ≡ c)
usable-core past c h ok = by_rule (minting past h) refl (spending past h) ok
  where
    by_rule : (m : Option Minting) → minting past h ≡ m → (s : Option Spending) → rule_of c h m s ≡ None
        → (m : Minting) × (minting past h ≡ Some m) × (m.core ≡ c)
    by_rule None at s ok = absurd cc
    by_rule (Some m) at (Some s) ok = absurd cc
    by_rule (Some m) at None ok = by_core (compared m.core c) ok
      where
        by_core : Compared m.core c → rule_of c h (Some m) None ≡ None → (x : Minting) × (minting past h ≡ Some x) × (x.core ≡ c)
        by_core (Same _ e) ok = (m, at, e)
        by_core (Other f _) ok = absurd (cc (rw f at ok))

-- no two cores may use the same handle
usable-once : (past : Past) (c d h : ℕ) → rule past c h ≡ None → rule past d h ≡ None → c ≡ d
usable-once past c d h first second =
    let a = usable-core past c h first in
    let b = usable-core past d h second in
    let same : a.0 ≡ b.0 = cc (a.1, b.1) in
    sym a.2 ∙ ap (λ (m : Minting). m.core) same ∙ b.2

one-named : (past : Past) (d v h : ℕ) → rule past d v ≡ None → has (v ∷ []) h ≡ true → rule past d h ≡ None
one-named past d v h may there = by_test (compared v h)
  where
    by_test : Compared v h → rule past d h ≡ None
    by_test (Same _ e) = ap (rule past d) (sym e) ∙ may
    by_test (Other f _) = absurd (cc (rw f at there))

-- the words that an entry names may be used by its core
named-usable : (k : Declarations) (l : Limits) (past : Past) (d : ℕ) (w : What) (h : ℕ) → Moment k l past d w → has (names w) h ≡ true → rule past d h ≡ None
named-usable k l past d (What.Send v q t s) h m there = one-named past d v.0 h m.rule there
named-usable k l past d (What.Free v) h m there = one-named past d v.0 h m.rule there
named-usable k l past d (What.Keep v) h m there = one-named past d v.0 h m.rule there
named-usable k l past d (What.Begin op job notes) h m there = notes-usable past d [] notes m.usable h there
named-usable k l past d (What.Apply g a n notes) h m there = notes-usable past d [] notes m.usable h there
named-usable k l past d w h m there = absurd cc

-- what a core holds it may use
pub held-usable : (k : Declarations) (l : Limits) (past : Past) (c h : ℕ) → HasSmallIndices k → AllAllowed k l past → has (held past c) h ≡ true → rule past c h ≡ None
held-usable k l past c h small all is = is_none-none (rule past c h) (sym ((usable-after k l past small all).held c h) ∙ is)

-- an entry of another core names nothing that core c holds
pub names-others : (k : Declarations) (l : Limits) (e : Entry) (past : Past) (c : ℕ) → HasSmallIndices k → AllAllowed k l (e ∷ past) → e.core.0 ≢ c
    → without_all (names e.what) (held past c) ≡ held past c
names-others k l e past c small all apart =
    without-all-absent (names e.what) (held past c)
    (λ h named. false_from_ne_true _ (λ among.
    apart (usable-once past e.core.0 c h (named-usable k l past e.core.0 e.what h (allowed-moment k l past e all.1 all.0) named)
    (held-usable k l past c h small all.1 among))))
