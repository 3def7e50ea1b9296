-- A core may use a word exactly where it holds it.
use Rattle.std.proofs.Common.{◌≡◌, ℕ, ◌==◌, Bool, true, false, ◌||◌, List, [], ◌∷◌, ◌++◌, Option, Some, None, refl, sym, ◌∙◌, subst, ap, is_none, if◌then◌else◌}
use Rattle.std.proofs.lemmas.Bool.{eq-eqb}
use Rattle.em_log.specs.declared.declarations.Declarations.{Declarations}
use Rattle.em_log.specs.declared.ask.Ask.{Ask}
use Rattle.em_log.specs.declared.entry.Body.{Body}
use Rattle.em_log.specs.declared.entry.Entry.{Entry}
use Rattle.em_log.specs.declared.entry.Event.{Event}
use Rattle.em_log.specs.declared.entry.What.{What}
use Rattle.em_log.specs.declared.fault.Fault.{Fault}
use Rattle.em_log.specs.declared.ids.Cells.{Cells}
use Rattle.em_log.specs.declared.ids.Limits.{Limits}
use Rattle.em_log.specs.History.{Past, entry_by, has, names, minted_in, note_words, without, without_all}
use Rattle.em_log.specs.Contexts.{context, context_after}
use Rattle.em_log.specs.Handles.{Minting, minting_by, minting, Spending, spends, spent_by, spending, with_minted, held, held_after, rule_of, rule}
use Rattle.em_log.specs.Lawful.{AllAllowed}
use Rattle.em_log.specs.Laws.{AreDifferent}
use Rattle.em_moments.proofs.Asked.{is_none-none}
use Rattle.em_moments.proofs.Moments.{Moment, EnterMoment, EntersBoot, EntersStep, IsOpen, allowed-moment}
use Rattle.em_laws.specs.Minted.{with_handle, minted, HasSmallIndices}
use Rattle.em_laws.proofs.Cores.{Compared, Same, Other, compared, none-some}
use Rattle.em_laws.proofs.Fresh.{minted-once}
use Rattle.em_laws.proofs.Spent.{notes-usable}

-- a core with no open context holds nothing

without-nothing : (ns : List ℕ) → without_all ns [] ≡ []
without-nothing [] = refl
without-nothing (n ∷ ns) = without-nothing ns

own-closed : (past : Past) (c : ℕ) (w : What) → (context past c ≡ None → held past c ≡ []) → context_after w (context past c) ≡ None
    → held_after w (context past c) (without_all (names w) (held past c)) ≡ []
own-closed past c (What.Enter b) before none = refl
own-closed past c (What.Start q e s) before none = absurd (none-some _ (sym none))
own-closed past c (What.End lost cells) before none = refl
own-closed past c w before none = let e = before none in rw (none, e) (without-nothing (names w))

pub closed-held : (past : Past) (c : ℕ) → context past c ≡ None → held past c ≡ []
closed-held [] c none = refl
closed-held (e ∷ past) c none = by_core (e.core.0 == c) (closed-held past c) none
  where
    by_core : (b : Bool) → (context past c ≡ None → held past c ≡ []) → (if b then context_after e.what (context past c) else context past c) ≡ None
        → (if b then held_after e.what (context past c) (without_all (names e.what) (held past c)) else without_all (names e.what) (held past c)) ≡ []
    by_core true before none = own-closed past c e.what before none
    by_core false before none = let h = before none in rw h (without-nothing (names e.what))

-- lists of handles

without-own : (n : ℕ) (ms : List ℕ) → has (without n ms) n ≡ false
without-own n [] = refl
without-own n (m ∷ ms) = by_test (m == n) refl (without-own n ms)
  where
    by_test : (b : Bool) → (m == n) ≡ b → has (without n ms) n ≡ false → has (if b then without n ms else m ∷ without n ms) n ≡ false
    by_test true is later = later
    by_test false is later = rw is later

without-other : (n h : ℕ) (ms : List ℕ) → (n == h) ≡ false → has (without n ms) h ≡ has ms h
without-other n h [] apart = refl
without-other n h (m ∷ ms) apart = by_test (compared m n) (without-other n h ms apart)
  where
    by_test : Compared m n → has (without n ms) h ≡ has ms h → has (if m == n then without n ms else m ∷ without n ms) h ≡ ((m == h) || has ms h)
    by_test (Same t e) later =
        let other : (m == h) ≡ false = ap (λ i. i == h) e ∙ apart in rw (t, other) later
    by_test (Other f _) later = rw f (ap (λ b. (m == h) || b) later)

out-stays : (ns ms : List ℕ) (h : ℕ) → has ms h ≡ false → has (without_all ns ms) h ≡ false
out-stays [] ms h out = out
out-stays (n ∷ ns) ms h out = out-stays ns (without n ms) h (by_test (compared n h))
  where
    by_test : Compared n h → has (without n ms) h ≡ false
    by_test (Same _ e) = ap (has (without n ms)) (sym e) ∙ without-own n ms
    by_test (Other f _) = without-other n h ms f ∙ out

-- what is named is taken out, and all else stays
named-out : (ns ms : List ℕ) (h : ℕ) → has ns h ≡ true → has (without_all ns ms) h ≡ false
named-out [] ms h there = absurd cc
named-out (n ∷ ns) ms h there = by_test (compared n h) there (named-out ns (without n ms) h)
  where
    by_test : Compared n h → ((n == h) || has ns h) ≡ true → (has ns h ≡ true → has (without_all ns (without n ms)) h ≡ false) → has (without_all ns (without n ms)) h ≡ false
    by_test (Same _ e) there later = out-stays ns (without n ms) h (ap (has (without n ms)) (sym e) ∙ without-own n ms)
    by_test (Other f _) there later = later (rw f at there)

unnamed-stays : (ns ms : List ℕ) (h : ℕ) → has ns h ≡ false → has (without_all ns ms) h ≡ has ms h
unnamed-stays [] ms h away = refl
unnamed-stays (n ∷ ns) ms h away = by_test (compared n h) away (unnamed-stays ns (without n ms) h)
  where
    by_test : Compared n h → ((n == h) || has ns h) ≡ false → (has ns h ≡ false → has (without_all ns (without n ms)) h ≡ has (without n ms) h) → has (without_all ns (without n ms)) h ≡ has ms h
    by_test (Same t _) away later = absurd (cc (rw t at away))
    by_test (Other f _) away later = later (rw f at away) ∙ without-other n h ms f

last-own : (h : ℕ) (hs : List ℕ) → has (hs ++ h ∷ []) h ≡ true
last-own h [] = rw (eq-eqb h h refl) refl
last-own h (m ∷ ms) = by_test (m == h) (last-own h ms)
  where
    by_test : (b : Bool) → has (ms ++ h ∷ []) h ≡ true → (b || has (ms ++ h ∷ []) h) ≡ true
    by_test true later = refl
    by_test false later = later

last-other : (g h : ℕ) (hs : List ℕ) → (g == h) ≡ false → has (hs ++ g ∷ []) h ≡ has hs h
last-other g h [] apart = rw apart refl
last-other g h (m ∷ ms) apart = ap (λ b. (m == h) || b) (last-other g h ms apart)

-- the rule after an entry

spent-refused : (c h : ℕ) (m : Option Minting) (past : Past) (e : Entry) (s : Option Spending) → is_none (rule_of c h m (spent_by true past e s)) ≡ false
spent-refused c h None past e s = refl
spent-refused c h (Some m) past e None = refl
spent-refused c h (Some m) past e (Some s) = refl

rule-kept : (past : Past) (d : ℕ) (w : What) (c h : ℕ) → minting (entry_by d w ∷ past) h ≡ minting past h → spends past d w h ≡ false → rule (entry_by d w ∷ past) c h ≡ rule past c h
rule-kept past d w c h same unspent =
    ap (λ o. rule_of c h o (spent_by (spends past d w h) past (entry_by d w) (spending past h))) same
    ∙ ap (λ b. rule_of c h (minting past h) (spent_by b past (entry_by d w) (spending past h))) unspent

rule-spent : (past : Past) (d : ℕ) (w : What) (c h : ℕ) → spends past d w h ≡ true → is_none (rule (entry_by d w ∷ past) c h) ≡ false
rule-spent past d w c h spent =
    ap (λ b. is_none (rule_of c h (minting (entry_by d w ∷ past) h) (spent_by b past (entry_by d w) (spending past h)))) spent
    ∙ spent-refused c h (minting (entry_by d w ∷ past) h) past (entry_by d w) (spending past h)

-- what holds after each entry
pub record Usable (past : Past) : Type 0 where
  pub held : (c h : ℕ) → has (held past c) h ≡ is_none (rule past c h)
  pub unminted : (h : ℕ) → minting past h ≡ None → spending past h ≡ None

abbrev HeldNow : Past → ℕ → What → Type 0
HeldNow past d w = (c h : ℕ) → has (held (entry_by d w ∷ past) c) h ≡ is_none (rule (entry_by d w ∷ past) c h)

-- an entry that mints nothing, and spends the handles that it names
named-step : (past : Past) (d : ℕ) (w : What) (ns : List ℕ) → ((c : ℕ) → held (entry_by d w ∷ past) c ≡ without_all ns (held past c))
    → ((h : ℕ) → minting (entry_by d w ∷ past) h ≡ minting past h) → ((h : ℕ) → spends past d w h ≡ has ns h) → Usable past → HeldNow past d w
named-step past d w ns left same spent u c h = ap (λ hs. has hs h) (left c) ∙ by_named (has ns h) refl
  where
    by_named : (b : Bool) → has ns h ≡ b → has (without_all ns (held past c)) h ≡ is_none (rule (entry_by d w ∷ past) c h)
    by_named true is = named-out ns (held past c) h is ∙ sym (rule-spent past d w c h (spent h ∙ is))
    by_named false is = unnamed-stays ns (held past c) h is ∙ (u.held c h ∙ sym (ap is_none (rule-kept past d w c h (same h) (spent h ∙ is))))

-- an entry that mints a handle
mint-step : (past : Past) (d : ℕ) (w : What) (v : Event) → ((c : ℕ) → held (entry_by d w ∷ past) c ≡ (if d == c then held past c ++ v.handle.0 ∷ [] else held past c))
    → ((h : ℕ) → minting (entry_by d w ∷ past) h ≡ (if v.handle.0 == h then Some (record { core = d; event = v }) else minting past h)) → ((h : ℕ) → spends past d w h ≡ false)
    → minting past v.handle.0 ≡ None → Usable past → HeldNow past d w
mint-step past d w v left mints free none u c h = ap (λ hs. has hs h) (left c) ∙ by_handle (compared v.handle.0 h)
  where
    m : Minting
    m = record { core = d; event = v }

    rule-now : (v.handle.0 == h) ≡ true → v.handle.0 ≡ h → is_none (rule (entry_by d w ∷ past) c h) ≡ is_none (rule_of c h (Some m) None)
    rule-now t e =
        let there : minting (entry_by d w ∷ past) h ≡ Some m = mints h ∙ ap (λ b. if b then Some m else minting past h) t in
        ap (λ o. is_none (rule_of c h o (spent_by (spends past d w h) past (entry_by d w) (spending past h)))) there
        ∙ ap (λ b. is_none (rule_of c h (Some m) (spent_by b past (entry_by d w) (spending past h)))) (free h)
        ∙ ap (λ s. is_none (rule_of c h (Some m) s)) (u.unminted h (ap (minting past) (sym e) ∙ none))

    before : v.handle.0 ≡ h → has (held past c) h ≡ false
    before e = u.held c h ∙ ap (λ o. is_none (rule_of c h o (spending past h))) (ap (minting past) (sym e) ∙ none)

    by_core : (v.handle.0 == h) ≡ true → v.handle.0 ≡ h → Compared d c
        → has (if d == c then held past c ++ v.handle.0 ∷ [] else held past c) h ≡ is_none (rule_of c h (Some m) None)
    by_core t e (Same s _) = rw s (subst (λ i. has (held past c ++ i ∷ []) h ≡ true) (sym e) (last-own h (held past c)))
    by_core t e (Other f _) = rw f (before e)

    by_other : (v.handle.0 == h) ≡ false → (b : Bool) → has (if b then held past c ++ v.handle.0 ∷ [] else held past c) h ≡ has (held past c) h
    by_other f true = last-other v.handle.0 h (held past c) f
    by_other f false = refl

    by_handle : Compared v.handle.0 h → has (if d == c then held past c ++ v.handle.0 ∷ [] else held past c) h ≡ is_none (rule (entry_by d w ∷ past) c h)
    by_handle (Same t e) = by_core t e (compared d c) ∙ sym (rule-now t e)
    by_handle (Other f _) =
        let same : minting (entry_by d w ∷ past) h ≡ minting past h = mints h ∙ ap (λ b. if b then Some m else minting past h) f in
        by_other f (d == c) ∙ (u.held c h ∙ sym (ap is_none (rule-kept past d w c h same (free h))))

-- what one core may use, no other may
other-refused : (c d h : ℕ) (o : Option Minting) (s : Option Spending) → is_none (rule_of d h o s) ≡ true → (d == c) ≡ false → is_none (rule_of c h o s) ≡ false
other-refused c d h None s ok apart = refl
other-refused c d h (Some m) (Some s) ok apart = refl
other-refused c d h (Some m) None ok apart = by_test (compared m.core d) ok
  where
    by_test : Compared m.core d → is_none (rule_of d h (Some m) None) ≡ true → is_none (rule_of c h (Some m) None) ≡ false
    by_test (Same _ e) ok = let other : (m.core == c) ≡ false = ap (λ i. i == c) e ∙ apart in rw other refl
    by_test (Other f _) ok = absurd (cc (rw f at ok))

end-step : (past : Past) (d lost : ℕ) (cells : Option Cells) → Usable past → HeldNow past d (What.End lost cells)
end-step past d lost cells u c h = by_core (compared d c)
  where
    w : What
    w = What.End lost cells

    by_own : (b : Bool) → has (held past d) h ≡ b → d ≡ c → false ≡ is_none (rule (entry_by d w ∷ past) c h)
    by_own true is e = sym (rule-spent past d w c h is)
    by_own false is e =
        sym (ap is_none (rule-kept past d w c h refl is) ∙ (sym (u.held c h) ∙ (ap (λ i. has (held past i) h) (sym e) ∙ is)))

    by_other : (b : Bool) → has (held past d) h ≡ b → (d == c) ≡ false → has (held past c) h ≡ is_none (rule (entry_by d w ∷ past) c h)
    by_other true is f =
        u.held c h ∙ (other-refused c d h (minting past h) (spending past h) (sym (u.held d h) ∙ is) f ∙ sym (rule-spent past d w c h is))
    by_other false is f = u.held c h ∙ sym (ap is_none (rule-kept past d w c h refl is))

    by_core : Compared d c → has (if d == c then [] else held past c) h ≡ is_none (rule (entry_by d w ∷ past) c h)
    by_core (Same t e) = rw t (by_own (has (held past d) h) refl e)
    by_core (Other f _) = rw f (by_other (has (held past d) h) refl f)

-- what is held after an entry of each kind

nothing-minted : (b : Bool) (o : Option What) (hs : List ℕ) → (if b then with_minted o None hs else hs) ≡ hs
nothing-minted true None hs = refl
nothing-minted true (Some w) hs = refl
nothing-minted false o hs = refl

at-core : (P : ℕ → Type 0) (d c : ℕ) → (d == c) ≡ true → P d → P c
at-core P d c test h = by_test (compared d c)
  where
    by_test : Compared d c → P c
    by_test (Same _ e) = subst P e h
    by_test (Other f _) = absurd (cc (f, test))

emptied : (b : Bool) (hs : List ℕ) → (b ≡ true → hs ≡ []) → (if b then [] else hs) ≡ hs
emptied true hs none = sym (none refl)
emptied false hs none = refl

enter-held : (k : Declarations) (past : Past) (c d : ℕ) (b : Body) → EnterMoment k past d b → (if d == c then [] else held past c) ≡ held past c
enter-held k past c d b (EntersBoot none core is) = emptied (d == c) (held past c) (λ t. ap (λ (p : Past). held p c) none)
enter-held k past c d b (EntersStep between owed owes) =
    emptied (d == c) (held past c) (λ t. at-core (λ n. held past n ≡ []) d c t (closed-held past d between.closed))

open-minted : (b : Bool) (o : Option What) (v : Event) (hs : List ℕ) → (b ≡ true → (w : What) × (o ≡ Some w))
    → (if b then with_minted o (Some v) hs else hs) ≡ (if b then hs ++ v.handle.0 ∷ [] else hs)
open-minted true o v hs begun = let s = (begun refl).1 in rw s refl
open-minted false o v hs begun = refl

started-held : (b : Bool) (v : Event) (hs : List ℕ) → (b ≡ true → hs ≡ []) → (if b then v.handle.0 ∷ [] else hs) ≡ (if b then hs ++ v.handle.0 ∷ [] else hs)
started-held true v hs none = let n = none refl in rw n refl
started-held false v hs none = refl

asked-held : (k : Declarations) (past : Past) (d : ℕ) (a : Ask) (v : Event) → IsOpen k past d a → (c : ℕ)
    → (if d == c then with_minted (context past c) (Some v) (held past c) else held past c) ≡ (if d == c then held past c ++ v.handle.0 ∷ [] else held past c)
asked-held k past d a v o c =
    open-minted (d == c) (context past c) v (held past c) (λ t. at-core (λ n. (w : What) × (context past n ≡ Some w)) d c t (o.began, o.context))

held-next : (k : Declarations) (l : Limits) (past : Past) (d : ℕ) (w : What) → Moment k l past d w → ((v : Event) → minted_in w ≡ Some v → minting past v.handle.0 ≡ None)
    → Usable past → HeldNow past d w
held-next k l past d (What.Enter b) m new u = named-step past d (What.Enter b) [] (λ c. enter-held k past c d b m) (λ h. refl) (λ h. refl) u
held-next k l past d (What.Start q e s) m new u =
    mint-step past d (What.Start q e s) e (λ c. started-held (d == c) e (held past c) (λ t. at-core (λ n. held past n ≡ []) d c t (closed-held past d m.closed)))
    (λ h. refl) (λ h. refl) (new e refl) u
held-next k l past d (What.End lost cells) m new u = end-step past d lost cells u
held-next k l past d (What.Alloc p e) m new u = mint-step past d (What.Alloc p e) e (asked-held k past d _ e m.open_context) (λ h. refl) (λ h. refl) (new e refl) u
held-next k l past d (What.Claim (Some e)) m new u = mint-step past d (What.Claim (Some e)) e (asked-held k past d _ e m.open_context) (λ h. refl) (λ h. refl) (new e refl) u
held-next k l past d (What.Claim None) m new u = named-step past d (What.Claim None) [] (λ c. nothing-minted (d == c) (context past c) (held past c)) (λ h. refl) (λ h. refl) u
held-next k l past d (What.Dequeue q (Some e)) m new u = mint-step past d (What.Dequeue q (Some e)) e (asked-held k past d _ e m.open_context) (λ h. refl) (λ h. refl) (new e refl) u
held-next k l past d (What.Dequeue q None) m new u = named-step past d (What.Dequeue q None) [] (λ c. nothing-minted (d == c) (context past c) (held past c)) (λ h. refl) (λ h. refl) u
held-next k l past d (What.Send f q t s) m new u =
    named-step past d (What.Send f q t s) (f.0 ∷ []) (λ c. nothing-minted (d == c) (context past c) (without f.0 (held past c))) (λ h. refl) (λ h. refl) u
held-next k l past d (What.Free f) m new u =
    named-step past d (What.Free f) (f.0 ∷ []) (λ c. nothing-minted (d == c) (context past c) (without f.0 (held past c))) (λ h. refl) (λ h. refl) u
held-next k l past d (What.Keep f) m new u =
    named-step past d (What.Keep f) (f.0 ∷ []) (λ c. nothing-minted (d == c) (context past c) (without f.0 (held past c))) (λ h. refl) (λ h. refl) u
held-next k l past d (What.Begin op job notes) m new u =
    named-step past d (What.Begin op job notes) (note_words notes) (λ c. nothing-minted (d == c) (context past c) (without_all (note_words notes) (held past c))) (λ h. refl) (λ h. refl) u
held-next k l past d (What.Apply g a n notes) m new u =
    named-step past d (What.Apply g a n notes) (note_words notes) (λ c. nothing-minted (d == c) (context past c) (without_all (note_words notes) (held past c))) (λ h. refl) (λ h. refl) u
held-next k l past d w m new u = named-step past d w [] (λ c. nothing-minted (d == c) (context past c) (held past c)) (λ h. refl) (λ h. refl) u

-- what an entry spends its core could use

one-named : (f h : ℕ) → has (f ∷ []) h ≡ true → f ≡ h
one-named f h is = by_test (compared f h) is
  where
    by_test : Compared f h → has (f ∷ []) h ≡ true → f ≡ h
    by_test (Same t e) is = e
    by_test (Other t ne) is = absurd (cc (rw t at is))

spends-usable : (k : Declarations) (l : Limits) (past : Past) (d : ℕ) (w : What) (h : ℕ) → Moment k l past d w → Usable past → spends past d w h ≡ true → rule past d h ≡ None
spends-usable k l past d (What.Send f q t s) h m u is = ap (rule past d) (sym (one-named f.0 h is)) ∙ m.rule
spends-usable k l past d (What.Free f) h m u is = ap (rule past d) (sym (one-named f.0 h is)) ∙ m.rule
spends-usable k l past d (What.Keep f) h m u is = ap (rule past d) (sym (one-named f.0 h is)) ∙ m.rule
spends-usable k l past d (What.Begin op job notes) h m u is = notes-usable past d [] notes m.usable h is
spends-usable k l past d (What.Apply g a n notes) h m u is = notes-usable past d [] notes m.usable h is
spends-usable k l past d (What.End lost cells) h m u is = is_none-none (rule past d h) (sym (u.held d h) ∙ is)
spends-usable k l past d w h m u is = absurd cc

minted-before : (h c : ℕ) (o : Option Event) (was : Option Minting) → minting_by h c o was ≡ None → was ≡ None
minted-before h c None was none = none
minted-before h c (Some e) was none = by_test (e.handle.0 == h) none
  where
    by_test : (b : Bool) → (if b then Some (record { core = c; event = e }) else was) ≡ None → was ≡ None
    by_test true none = absurd cc
    by_test false none = none

unminted-next : (k : Declarations) (l : Limits) (past : Past) (d : ℕ) (w : What) → Moment k l past d w → Usable past
    → (h : ℕ) → minting (entry_by d w ∷ past) h ≡ None → spending (entry_by d w ∷ past) h ≡ None
unminted-next k l past d w m u h none = by_spends (spends past d w h) refl
  where
    before : minting past h ≡ None
    before = minted-before h d (minted_in w) (minting past h) none

    by_spends : (b : Bool) → spends past d w h ≡ b → spending (entry_by d w ∷ past) h ≡ None
    by_spends true is =
        let ok = spends-usable k l past d w h m u is in
        let refused : Some (Fault.NeverMinted h) ≡ None = ap (λ o. rule_of d h o (spending past h)) (sym before) ∙ ok in absurd cc
    by_spends false is = ap (λ b. spent_by b past (entry_by d w) (spending past h)) is ∙ u.unminted h before

-- a handle that is not among those minted has no minting
unlisted-unminted : (past : Past) (h : ℕ) → has (minted past) h ≡ false → minting past h ≡ None
unlisted-unminted [] h away = refl
unlisted-unminted (e ∷ past) h away = by_mint (minted_in e.what) away (unlisted-unminted past h)
  where
    by_mint : (o : Option Event) → has (with_handle o (minted past)) h ≡ false → (has (minted past) h ≡ false → minting past h ≡ None) → minting_by h e.core.0 o (minting past h) ≡ None
    by_mint None away older = older away
    by_mint (Some v) away older = by_test (compared v.handle.0 h) away
      where
        by_test : Compared v.handle.0 h → has (v.handle.0 ∷ minted past) h ≡ false → (if v.handle.0 == h then Some (record { core = e.core.0; event = v }) else minting past h) ≡ None
        by_test (Same t _) away = absurd (cc (rw t at away))
        by_test (Other f _) away = rw f (older (rw f at away))

newly-minted : (past : Past) (w : What) (v : Event) → AreDifferent (with_handle (minted_in w) (minted past)) → minted_in w ≡ Some v → minting past v.handle.0 ≡ None
newly-minted past w v once is =
    let now : AreDifferent (with_handle (Some v) (minted past)) = subst (λ o. AreDifferent (with_handle o (minted past))) is once in
    unlisted-unminted past v.handle.0 now.0

pub usable-after : (k : Declarations) (l : Limits) (past : Past) → HasSmallIndices k → AllAllowed k l past → Usable past
usable-after k l [] small all = record { held = λ c h. refl; unminted = λ h none. refl }
usable-after k l (e ∷ past) small all =
    let m = allowed-moment k l past e all.1 all.0 in
    let u = usable-after k l past small all.1 in
    record {
      held = held-next k l past e.core.0 e.what m (λ v. newly-minted past e.what v (minted-once k l (e ∷ past) small all)) u;
      unminted = unminted-next k l past e.core.0 e.what m u;
    }
