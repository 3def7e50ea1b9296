-- Entries of other cores leave what is a core's own.
use Rattle.std.proofs.Common.{◌≡◌, ◌≢◌, ℕ, ◌==◌, ◌&&◌, ◌-◌, false, List, refl, ap, ◌∙◌, is_some, sum_by}
use Rattle.em_log.specs.declared.declarations.Declarations.{Declarations}
use Rattle.em_log.specs.declared.entry.Entry.{Entry}
use Rattle.em_log.specs.declared.ids.Limits.{Limits}
use Rattle.em_log.specs.Allowance.{allowance, cost_of_lead}
use Rattle.em_log.specs.Contexts.{context_object, object_begun}
use Rattle.em_log.specs.Handles.{held}
use Rattle.em_log.specs.History.{Past, onto, part}
use Rattle.em_log.specs.Lawful.{AllAllowed, is_ask, is_placed}
use Rattle.em_log.specs.Legal.{Lead, leads, opening}
use Rattle.em_log.specs.Places.{taken}
use Rattle.em_laws.specs.Minted.{HasSmallIndices}
use Rattle.em_laws.proofs.Cores.{Compared, Same, Other, compared}
use Rattle.em_cores.specs.Others.{AreOfOthers, IsSameFor}
use Rattle.em_cores.proofs.Held.{names-others}
use Rattle.em_cores.proofs.Holding.{context-others, holds-others}
use Rattle.em_cores.proofs.Objects.{begun-object-stays}
use Rattle.em_cores.proofs.Onto.{same-after, same-allowed}

apart : (m n : ℕ) → (m == n) ≡ false → m ≢ n
apart m n f e = by_test (compared m n)
  where
    by_test : Compared m n → ⊥
    by_test (Same t _) = cc (t, f)
    by_test (Other _ ne) = ne e

module _ (k : Declarations) (l : Limits) (c : ℕ) (es : List Entry) (past : Past) (small : HasSmallIndices k) (all : AllAllowed k l (onto es past))
    (others : AreOfOthers c es) where
  leads-others : leads k (onto es past) c ≡ leads k past c
  leads-others = same-after (λ (h : Past). leads k h c) c (λ e h f. rw f refl) es past others

  object-others : context_object k (onto es past) c ≡ context_object k past c
  object-others = ap (object_begun k (onto es past)) (context-others k l c es past all others) ∙ begun-object-stays k l es past all c

  held-others : held (onto es past) c ≡ held past c
  held-others =
      same-allowed (λ (h : Past). held h c) k l c
      (λ e h ok f. rw f (names-others k l e h c small ok (apart e.core.0 c f))) es past all others

  pub others-same : IsSameFor k past (onto es past) c
  others-same =
      let opened = context-others k l c es past all others in
      let hold = holds-others k l c es past all others in
      record {
        part = same-after (λ (h : Past). part h c) c (λ e h f. rw f refl) es past others;
        context = opened;
        object = object-others;
        taken = same-after (λ (h : Past). taken k h c) c (λ e h f. rw f refl) es past others;
        leads = leads-others;
        left = ap (λ (ls : List Lead). allowance - sum_by (λ x. cost_of_lead x.what) ls) leads-others;
        opening = same-after (λ (h : Past). opening k h c) c (λ e h f. rw f refl) es past others;
        held = held-others;
        holds = hold;
        may_ask = λ a i. is_some (opened i) && is_ask k a && is_placed (opened i) (hold i) a;
      }
