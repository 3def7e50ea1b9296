use Rattle.std.proofs.Common.{◌≡◌, ◌++◌, ◌∷◌, [], map, cond, Bool, true, false, List, ℕ, refl, sym, ap, ◌∙◌, subst, inl, is_ok, append-nil}
use Rattle.std.proofs.lemmas.List.{map-append}
use Rattle.em_log.specs.Items.{LogItem, Logged}
use Rattle.em_log.specs.declared.entry.Entry.{Entry}
use Rattle.em_log.specs.declared.entry.What.TheVariants.{Say}
use Rattle.em_turn.specs.Numbers.{In, OnlyOf}
use Rattle.em_turn.proofs.tests.add.Goals as goal

list_grows : (b : Bool) (xs : List Entry) (e : Entry) → map Logged (cond b (xs ++ e ∷ []) xs) ≡ map Logged xs ++ cond b (Logged e ∷ []) []
list_grows true xs e = map-append Logged xs (e ∷ [])
list_grows false xs e = sym (append-nil (map Logged xs))

only_mine : (b : Bool) (ns : List ℕ) (e : Entry) → In e.core.0 ns → OnlyOf ns (cond b (Logged e ∷ []) [])
only_mine true ns e mine = (mine, tt)
only_mine false ns e mine = tt

pub leave-requires-clause-list : goal.leave-requires-clause-list
leave-requires-clause-list g c = let shown = c.enter-journal.ensures.seat in let b = is_ok c.push.result in let e : Entry = record { core = c.args.core; what = Say c.args.word } in (
  cond b (Logged e ∷ []) [],
  ap (map Logged) c.push.ensures.items ∙ list_grows b _ e ∙ ap (λ s. s.seen ++ cond b (Logged e ∷ []) []) (sym shown),
  only_mine b _ e (subst (In c.args.core.0) (sym (ap (λ s. s.numbers) shown ∙ c.requires.mine)) (inl refl)),
)
