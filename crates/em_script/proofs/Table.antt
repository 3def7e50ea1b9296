-- The table of names as it is kept: what entries whose keys are read as texts have at a text.
use Rattle.std.proofs.Common.{◌≡◌, ℕ, Bool, true, false, cond, List, [], ◌∷◌, map, Option, Some, refl, sym, ap, subst, ◌∙◌, Ordering, Less, Equal, Greater, ⊎_elim}
use Rattle.std.specs.Ordering.{is_eq, nat_cmp}
use Rattle.std.specs.Cmp.{eq_by_cmp_equiv}
use Rattle.std.specs.Cmp.Lexicographic.{slice_cmp}
use Rattle.std.specs.Map.{lookup, IsKeyTest, AreApart, KeepsOthers}
use Rattle.std.specs.FinMap.{from_entries, insert, get, get-from_entries, get-insert, same_map}
use Rattle.std.specs.FinMap.Entries.{find}
use Rattle.std.proofs.lemmas.Bool.{cases_Bool, cond-true, cond-false}
use Rattle.std.proofs.lemmas.Cmp.{nat_list_cmp_total}
use Rattle.std.proofs.lemmas.Map.Lookups.{exact_bytes}

abbrev pub same_key : List ℕ → List ℕ → Bool
same_key bs cs = is_eq (slice_cmp nat_cmp bs cs)

equal-of : (o : Ordering) → is_eq o ≡ true → o ≡ Equal
equal-of Less e = absurd cc
equal-of Equal e = refl
equal-of Greater e = absurd cc

apart : (bs cs ks : List ℕ) → same_key bs cs ≡ false → same_key bs ks ≡ true → same_key cs ks ≡ false
apart bs cs ks n y = (eq_by_cmp_equiv nat_list_cmp_total).symm cs ks ∙ sym ((eq_by_cmp_equiv nat_list_cmp_total).congr bs ks cs y) ∙ n

module _ {K X : Type 0} (key : K → List ℕ) where
  abbrev pub plain : List (K × X) → List (List ℕ × X)
  plain es = map (λ e. (key e.0, e.1)) es

  abbrev pub found : List ℕ → List (K × X) → Option X
  found q es = lookup (λ k. same_key q (key k)) es

  find-plain : (es : List (K × X)) (q : List ℕ) → find (slice_cmp nat_cmp) q (plain es) ≡ found q es
  find-plain [] q = refl
  find-plain (e ∷ es) q = ap (cond (same_key q (key e.0)) (Some e.1)) (find-plain es q)

  pub get-plain : (es : List (K × X)) (q : List ℕ) → get (from_entries {R = slice_cmp nat_cmp} (plain es)) q ≡ found q es
  get-plain es q = get-from_entries nat_list_cmp_total (plain es) q ∙ find-plain es q

  others : (eq : K → K → Bool) (test : K → Bool) (es fs : List (K × X)) → KeepsOthers eq test es fs → (other : K → Bool) → IsKeyTest eq other → AreApart test other → lookup other fs ≡ lookup other es
  unfolding KeepsOthers
  others eq test es fs h = h

  found-other : (bs : List ℕ) (v : X) (es fs : List (K × X)) → found bs fs ≡ Some v
      → KeepsOthers (λ x y. same_key (key x) (key y)) (λ k. same_key bs (key k)) es fs
      → (cs : List ℕ) → found cs fs ≡ cond (same_key bs cs) (Some v) (found cs es)
  found-other bs v es fs here keeps cs =
      ⊎_elim
      (λ y. subst (λ l. found l fs ≡ Some v) (exact_bytes bs cs (equal-of (slice_cmp nat_cmp bs cs) y)) here ∙ sym (cond-true (same_key bs cs) (Some v) (found cs es) y))
      (λ n. others _ _ es fs keeps (λ k. same_key cs (key k)) (λ x y. (eq_by_cmp_equiv nat_list_cmp_total).congr cs (key x) (key y)) (λ k. apart bs cs (key k) n) ∙ sym (cond-false (same_key bs cs) (Some v) (found cs es) n))
      (cases_Bool (same_key bs cs))

  -- an update at a text inserts there
  pub inserted : (bs : List ℕ) (v : X) (es fs : List (K × X)) → found bs fs ≡ Some v
      → KeepsOthers (λ x y. same_key (key x) (key y)) (λ k. same_key bs (key k)) es fs
      → from_entries {R = slice_cmp nat_cmp} (plain fs) ≡ insert (from_entries (plain es)) bs v
  inserted bs v es fs here keeps = same_map nat_list_cmp_total exact_bytes _ _ (λ q.
      get-plain fs q ∙ found-other bs v es fs here keeps q ∙ ap (λ b. cond b (Some v) (found q es)) ((eq_by_cmp_equiv nat_list_cmp_total).symm bs q)
      ∙ sym (get-insert nat_list_cmp_total (from_entries (plain es)) bs v q ∙ ap (cond (same_key q bs) (Some v)) (get-plain es q)))
