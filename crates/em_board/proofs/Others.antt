-- Items of other cores leave a core's open context, what it has taken, what it may ask and its allowance as they were.
use Rattle.std.proofs.Common.{◌≡◌, inl, ℕ, ◌&&◌, ◌-◌, List, [], ◌∷◌, refl, ap, is_some, sum_by}
use Rattle.em_log.specs.declared.ask.Ask.{Ask}
use Rattle.em_log.specs.declared.declarations.Declarations.{Declarations}
use Rattle.em_log.specs.declared.ids.Limits.{Limits}
use Rattle.em_log.specs.Allowance.{allowance, cost_of_lead, left}
use Rattle.em_log.specs.Contexts.{context}
use Rattle.em_log.specs.History.{Past, onto}
use Rattle.em_log.specs.Items.{LogItem, Logged, Halted}
use Rattle.em_log.specs.Lawful.{AllAllowed, is_ask, is_placed, may_ask}
use Rattle.em_log.specs.Legal.{Lead, leads}
use Rattle.em_log.specs.Places.{taken}
use Rattle.em_turn.specs.Numbers.{NoneOf}
use Rattle.em_cores.specs.Others.{AreOfOthers}
use Rattle.em_cores.proofs.Holding.{context-others as context-stays, holds-others}
use Rattle.em_cores.proofs.Onto.{same-after}
use Rattle.em_board.specs.Marked.{entries}

of-others : (c : ℕ) (xs : List LogItem) → NoneOf (c ∷ []) xs → AreOfOthers c (entries xs)
of-others c [] none = tt
of-others c (Logged e ∷ xs) none = (λ q. none.0 (inl q), of-others c xs none.1)
of-others c (Halted d ∷ xs) none = of-others c xs none.1

module _ (c : ℕ) (xs : List LogItem) (past : Past) (none : NoneOf (c ∷ []) xs) (k : Declarations) where
  pub context-others : context (onto (entries xs) past) c ≡ context past c
  context-others = same-after (λ (h : Past). context h c) c (λ e h f. rw f refl) (entries xs) past (of-others c xs none)

  pub taken-others : taken k (onto (entries xs) past) c ≡ taken k past c
  taken-others = same-after (λ (h : Past). taken k h c) c (λ e h f. rw f refl) (entries xs) past (of-others c xs none)

  leads-others : leads k (onto (entries xs) past) c ≡ leads k past c
  leads-others = same-after (λ (h : Past). leads k h c) c (λ e h f. rw f refl) (entries xs) past (of-others c xs none)

  pub left-others : left k (onto (entries xs) past) c ≡ left k past c
  left-others = ap (λ (ls : List Lead). allowance - sum_by (λ l. cost_of_lead l.what) ls) leads-others

  pub may_ask-others : (l : Limits) → AllAllowed k l (onto (entries xs) past) → (a : Ask) → may_ask k (onto (entries xs) past) c a ≡ may_ask k past c a
  may_ask-others l all a =
      let others = of-others c xs none in
      let opened = context-stays k l c (entries xs) past all others in
      let hold = holds-others k l c (entries xs) past all others in
      λ i. is_some (opened i) && is_ask k a && is_placed (opened i) (hold i) a
