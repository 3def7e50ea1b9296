-- A refusal is decided by the lines up to the one that fails.
use Rattle.std.proofs.Common.{◌≡◌, ℕ, zero, suc, ◌+◌, ◌≤◌, Bool, true, false, cond, eqb, List, [], ◌∷◌, length, Option, Some, None, Result, Ok, Err, refl, sym, ap, subst, ◌∙◌, arith, inl, inr, ◌⊎◌}
use Rattle.std.specs.Prelude.{bytes_eq}
use Rattle.em_log.specs.declared.ids.EndKind.{EndKind}
use Rattle.em_log.specs.declared.entry.Entry.{Entry}
use Rattle.em_trace.specs.declared.judging.Line.{Line}
use Rattle.em_trace.specs.declared.judging.Line.TheVariants as lines
use Rattle.em_trace.specs.Line.{pieces}
use Rattle.em_trace.specs.FirstLines.{first_lines}
use Rattle.em_trace.specs.Text.{head_word}
use Rattle.em_trace.specs.Reading.{judge, Found, Refusal, fault_after, found_from, followed, with_first, end_unless, found_behind, rule_after_end, trace_of}
use Rattle.em_trace.proofs.Lines.{fault_after_more, found_from_more, head-more}
use Rattle.em_trace.proofs.Pieces.{has_none_pieces}

err-is : (x y : Refusal) → ◌≡◌ {A = Found} (Err x) (Err y) → x ≡ y
err-is x y e = cc

some-is : (x y : Refusal) → ◌≡◌ {A = Option Refusal} (Some x) (Some y) → x ≡ y
some-is x y e = cc

err-line : (x y : Refusal) → ◌≡◌ {A = Found} (Err x) (Err y) → x.0 ≡ y.0
err-line x y e = ap (λ r. r.0) (err-is x y e)

-- ---- the first line

-- two texts are one last line, or have the same first line before texts that have the same first n lines
abbrev BeginAlike : ℕ → List ℕ → List ℕ → Type 0
BeginAlike n a b =
    ((p : List ℕ) × (pieces 10 a ≡ p ∷ []) × (pieces 10 b ≡ p ∷ []))
    ⊎ ((p : List ℕ) × (s : List ℕ) × (t : List ℕ) × (pieces 10 a ≡ p ∷ pieces 10 s) × (pieces 10 b ≡ p ∷ pieces 10 t) × (first_lines n s ≡ first_lines n t))

alike-byte : (test : Bool) (n b : ℕ) (s t : List ℕ) → (first_lines (cond test n (suc n)) s ≡ first_lines (cond test n (suc n)) t)
    → (first_lines (suc n) s ≡ first_lines (suc n) t → BeginAlike n s t) → eqb b 10 ≡ test → BeginAlike n (b ∷ s) (b ∷ t)
unfolding pieces
alike-byte true n b s t same more is = inr ([], s, t, rw is refl, rw is refl, same)
alike-byte false n b s t same more is = elim (more same) [
  | inl x ↦ inl (b ∷ x.0, rw (is, x.1) refl, rw (is, x.2) refl)
  | inr x ↦ inr (b ∷ x.0, x.1, x.2, rw (is, x.3) refl, rw (is, x.4) refl, x.5)
]

alike : (n : ℕ) (a b : List ℕ) → first_lines (suc n) a ≡ first_lines (suc n) b → BeginAlike n a b
unfolding pieces
alike n [] [] same = inl ([], refl, refl)
alike n [] (y ∷ t) same = absurd cc
alike n (x ∷ s) [] same = absurd cc
alike n (x ∷ s) (y ∷ t) same =
    let first : x ≡ y = cc in
    let others : first_lines (cond (eqb x 10) n (suc n)) s ≡ first_lines (cond (eqb y 10) n (suc n)) t = cc in
    let level : first_lines (cond (eqb x 10) n (suc n)) s ≡ first_lines (cond (eqb x 10) n (suc n)) t = subst (λ z. first_lines (cond (eqb x 10) n (suc n)) s ≡ first_lines (cond (eqb z 10) n (suc n)) t) (sym first) others in
    rw (sym first) (alike-byte (eqb x 10) n x s t level (λ h. alike n s t h) refl)

-- ---- behind the last line

fault-line : (number place : ℕ) (ps : List (List ℕ)) (refusal : Refusal) → fault_after number place ps ≡ Some refusal → refusal.0 ≡ number
unfolding fault_after
fault-line number place [] refusal e = absurd cc
fault-line number place (p ∷ []) refusal e = elim (eqb (length p) 0) as (λ t. cond t None (Some (number, 2)) ≡ Some refusal → refusal.0 ≡ number) [
  | true ↦ λ h. absurd cc
  | false ↦ λ h. sym (ap (λ r. r.0) (some-is (number, 2) refusal h))
] e
fault-line number place (p ∷ q ∷ more) refusal e = sym (ap (λ r. r.0) (some-is (number, rule_after_end (judge place p)) refusal e))

fault-same : (number place : ℕ) (a b : List ℕ) → first_lines 1 a ≡ first_lines 1 b → fault_after number place (pieces 10 a) ≡ fault_after number place (pieces 10 b)
fault-same number place a b same = elim (alike 0 a b same) [
  | inl x ↦ rw (x.1, x.2) refl
  | inr x ↦ ap (fault_after number place) x.3 ∙ fault_after_more number place x.0 x.1 ∙ sym (ap (fault_after number place) x.4 ∙ fault_after_more number place x.0 x.2)
]

-- ---- no line before the first fails

with_first-err : (entry : Entry) (more : Found) (refusal : Refusal) → with_first entry more ≡ Err refusal → more ≡ Err refusal
with_first-err entry (Ok x) refusal e = absurd cc
with_first-err entry (Err x) refusal e = e

end-err : (end : EndKind) (after : Option Refusal) (refusal : Refusal) → end_unless end after ≡ Err refusal → after ≡ Some refusal
end-err end None refusal e = absurd cc
end-err end (Some x) refusal e = ap (λ r. Some r) (err-is x refusal e)

followed-later : (number place : ℕ) (r : Result Line ℕ) (more : Found) (ps : List (List ℕ)) (refusal : Refusal) → (more ≡ Err refusal → number + 1 ≤ refusal.0)
    → followed number r more (fault_after (number + 1) place ps) ≡ Err refusal → number ≤ refusal.0
followed-later number place (Err rule) more ps refusal later e = let same = err-line (number, rule) refusal e in omega (arith, same)
followed-later number place (Ok (lines.Entry entry)) more ps refusal later e = let h = later (with_first-err entry more refusal e) in omega (arith, h)
followed-later number place (Ok (lines.End end)) more ps refusal later e =
    let h = fault-line (number + 1) place ps refusal (end-err end (fault_after (number + 1) place ps) refusal e) in omega (arith, h)

later : (ps : List (List ℕ)) (number place : ℕ) (refusal : Refusal) → found_from number place ps ≡ Err refusal → number ≤ refusal.0
unfolding found_from
later [] number place refusal e = let same = err-line (number, 5) refusal e in omega (arith, same)
later (p ∷ []) number place refusal e = let same = err-line (number, cond (eqb (length p) 0) 5 2) refusal e in omega (arith, same)
later (p ∷ q ∷ more) number place refusal e =
    followed-later number place (judge place p) (found_from (number + 1) (place + 1) (q ∷ more)) (q ∷ more) refusal (λ h. later (q ∷ more) (number + 1) (place + 1) refusal h) e

-- ---- the same lines are refused alike

followed-same : (number : ℕ) (r : Result Line ℕ) (more more' : Found) (after after' : Option Refusal) (refusal : Refusal) → (more ≡ Err refusal → more' ≡ Err refusal)
    → (after ≡ Some refusal → after' ≡ Some refusal) → followed number r more after ≡ Err refusal → followed number r more' after' ≡ Err refusal
followed-same number (Err rule) more more' after after' refusal same behind e = e
followed-same number (Ok (lines.Entry entry)) more more' after after' refusal same behind e = ap (with_first entry) (same (with_first-err entry more refusal e))
followed-same number (Ok (lines.End end)) more more' after after' refusal same behind e = ap (end_unless end) (behind (end-err end after refusal e))

-- where n lines are the same, and the one that fails is among them
refused-again : (n : ℕ) (a b : List ℕ) (number place : ℕ) (refusal : Refusal) → refusal.0 + 1 ≡ number + n
    → found_from number place (pieces 10 a) ≡ Err refusal → first_lines n a ≡ first_lines n b → found_from number place (pieces 10 b) ≡ Err refusal
refused-again zero a b number place refusal reach e same = let h = later (pieces 10 a) number place refusal e in absurd (omega (arith, h, reach))
refused-again (suc n) a b number place refusal reach e same = elim (alike n a b same) [
  | inl x ↦ ap (found_from number place) x.2 ∙ sym (ap (found_from number place) x.1) ∙ e
  | inr x ↦
      let more = found_from (number + 1) (place + 1) (pieces 10 x.1) in
      let after = fault_after (number + 1) place (pieces 10 x.1) in
      let was : followed number (judge place x.0) more after ≡ Err refusal = sym (ap (found_from number place) x.3 ∙ found_from_more number place x.0 x.1) ∙ e in
      let again = λ (h : more ≡ Err refusal). refused-again n x.1 x.2 (number + 1) (place + 1) refusal (omega (arith, reach)) h x.5 in
      let behind = λ (h : after ≡ Some refusal). (
      let line = fault-line (number + 1) place (pieces 10 x.1) refusal h in
      let one : n ≡ 1 = omega (arith, line, reach) in
      let level : first_lines 1 x.1 ≡ first_lines 1 x.2 = rw one at x.5 in
      sym (fault-same (number + 1) place x.1 x.2 level) ∙ h) in
      ap (found_from number place) x.4 ∙ found_from_more number place x.0 x.2
      ∙ followed-same number (judge place x.0) more (found_from (number + 1) (place + 1) (pieces 10 x.2)) after (fault_after (number + 1) place (pieces 10 x.2)) refusal again behind was
]

behind-same : (test : Bool) (n : ℕ) (s t : List ℕ) (refusal : Refusal) → refusal.0 ≡ suc n → first_lines n s ≡ first_lines n t
    → cond test (found_from 2 0 (pieces 10 s)) (Err (1, 1)) ≡ Err refusal → cond test (found_from 2 0 (pieces 10 t)) (Err (1, 1)) ≡ Err refusal
behind-same true n s t refusal reach same e = refused-again n s t 2 0 refusal (omega (arith, reach)) e same
behind-same false n s t refusal reach same e = e

head-later : (test : Bool) (ps : List (List ℕ)) (refusal : Refusal) → cond test (found_from 2 0 ps) (Err (1, 1)) ≡ Err refusal → 1 ≤ refusal.0
head-later true ps refusal e = let h = later ps 2 0 refusal e in omega (arith, h)
head-later false ps refusal e = let same = err-line (1, 1) refusal e in omega (arith, same)

some-line : (ps : List (List ℕ)) (refusal : Refusal) → found_behind ps ≡ Err refusal → 1 ≤ refusal.0
some-line [] refusal e = let same = err-line (1, 1) refusal e in omega (arith, same)
some-line (p ∷ []) refusal e = let same = err-line (1, cond (bytes_eq p head_word) 2 1) refusal e in omega (arith, same)
some-line (p ∷ q ∷ more) refusal e = head-later (bytes_eq p head_word) (q ∷ more) refusal e

refused-from : (n : ℕ) (bytes others : List ℕ) (refusal : Refusal) → refusal.0 ≡ n → found_behind (pieces 10 bytes) ≡ Err refusal
    → first_lines n bytes ≡ first_lines n others → found_behind (pieces 10 others) ≡ Err refusal
refused-from zero bytes others refusal at e same = let h = some-line (pieces 10 bytes) refusal e in absurd (omega (arith, h, at))
refused-from (suc n) bytes others refusal at e same = elim (alike n bytes others same) [
  | inl x ↦ ap found_behind x.2 ∙ sym (ap found_behind x.1) ∙ e
  | inr x ↦
      let was = sym (ap found_behind x.3 ∙ head-more x.0 (pieces 10 x.1) (has_none_pieces 10 x.1)) ∙ e in
      ap found_behind x.4 ∙ head-more x.0 (pieces 10 x.2) (has_none_pieces 10 x.2) ∙ behind-same (bytes_eq x.0 head_word) n x.1 x.2 refusal at x.5 was
]

pub refused-by-first-lines : (bytes others : List ℕ) (line rule : ℕ) → trace_of bytes ≡ Err (line, rule) → first_lines line bytes ≡ first_lines line others
    → trace_of others ≡ Err (line, rule)
unfolding trace_of
refused-by-first-lines bytes others line rule e same = refused-from line bytes others (line, rule) refl e same
