-- A handle that the next entry mints is held by no core: a held handle was minted, and none is minted twice.
use Rattle.std.proofs.Common.{◌≡◌, ℕ, ◌==◌, true, false, [], ◌∷◌, Option, Some, None, refl, subst, if◌then◌else◌}
use Rattle.std.proofs.lemmas.Bool.{false_from_ne_true}
use Rattle.em_log.specs.declared.entry.Event.{Event}
use Rattle.em_log.specs.declared.entry.What.{What}
use Rattle.em_log.specs.declared.graph.Config.{Config}
use Rattle.em_log.specs.declared.ids.Limits.{Limits}
use Rattle.em_log.specs.Answers.{block}
use Rattle.em_log.specs.Declarations.{declarations_of}
use Rattle.em_log.specs.Handles.{Minting, minting, minting_by, held}
use Rattle.em_log.specs.History.{Past, entry_by, has, minted_in}
use Rattle.em_log.specs.Lawful.{Lawful}
use Rattle.em_log.specs.Laws.{AreDifferent}
use Rattle.em_log.specs.Tails.{tail}
use Rattle.em_log.specs.WellFormed.{IsWellFormed}
use Rattle.em_laws.specs.Minted.{minted, with_handle}
use Rattle.em_laws.proofs.Cores.{Compared, Same, Other, compared}
use Rattle.em_laws.proofs.Fresh.{graph-minted-once, graph-small}
use Rattle.em_laws.proofs.Spent.{usable}
use Rattle.em_cores.proofs.Held.{held-usable}
use Rattle.em_cores.proofs.Onto.{allowed-before}

-- a handle that has a minting is among those that were minted
minted-among : (past : Past) (h : ℕ) (m : Minting) → minting past h ≡ Some m → has (minted past) h ≡ true
minted-among [] h m is = absurd cc
minted-among (e ∷ past) h m is = by_mint (minted_in e.what) is (minted-among past h m)
  where
    by_mint : (o : Option Event) → minting_by h e.core.0 o (minting past h) ≡ Some m → (minting past h ≡ Some m → has (minted past) h ≡ true)
        → has (with_handle o (minted past)) h ≡ true
    by_mint None is older = older is
    by_mint (Some v) is older = by_test (compared v.handle.0 h) is
      where
        by_test : Compared v.handle.0 h → (if v.handle.0 == h then Some (record { core = e.core.0; event = v }) else minting past h) ≡ Some m
            → has (v.handle.0 ∷ minted past) h ≡ true
        by_test (Same t _) is = rw t refl
        by_test (Other f _) is = rw f (older (rw f at is))

-- what the first entry of a block mints is held by no core before it
pub new-handle : (g : Config) (l : Limits) (past : Past) (c d : ℕ) (w : What) (e : Event) → IsWellFormed g
    → Lawful (declarations_of g) l (block (declarations_of g) past (entry_by d w)) → minted_in w ≡ Some e
    → has (held past c) e.handle.0 ≡ false
new-handle g l past c d w e formed lawful is =
    let k = declarations_of g in
    let all = allowed-before k l (tail k past (entry_by d w)) (entry_by d w ∷ past) lawful.each in
    let once : AreDifferent (with_handle (Some e) (minted past)) =
    subst (λ o. AreDifferent (with_handle o (minted past))) is (graph-minted-once g l (entry_by d w ∷ past) formed all) in
    false_from_ne_true _
    (λ among.
    let origin = usable past c e.handle.0 (held-usable k l past c e.handle.0 (graph-small g formed) all.1 among) in
    cc (minted-among past e.handle.0 origin.origin origin.minted, once.0))
