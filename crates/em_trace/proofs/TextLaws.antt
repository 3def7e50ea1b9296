-- What is written is found again, and what is found was written.
use Rattle.std.proofs.Common.{◌≡◌, ℕ, ◌+◌, ◌^◌, ◌≤◌, Bool, true, false, cond, eqb, List, [], ◌∷◌, ◌++◌, length, Option, Some, None, Result, Ok, Err, refl, sym, ap, subst, ◌∙◌, append_assoc, arith, inl, inr, ◌⊎◌, ne_eqb}
use Rattle.std.specs.List.{AllByRecursion}
use Rattle.std.specs.Prelude.{bytes_eq}
use Rattle.std.proofs.lemmas.Slice.Eq.{bytes_eq-Decides}
use Rattle.em_log.specs.declared.ids.EndKind.{EndKind}
use Rattle.em_log.specs.declared.ids.EndKind.TheVariants.{Quiet, Limit}
use Rattle.em_log.specs.declared.entry.Entry.{Entry}
use Rattle.em_trace.specs.declared.judging.Line.{Line}
use Rattle.em_trace.specs.declared.judging.Line.TheVariants as lines
use Rattle.em_trace.specs.Line.{pieces, joined}
use Rattle.em_trace.specs.Fitting.{IsU64, EntryFits, AreEntries}
use Rattle.em_trace.specs.Text.{line_tokens, line, lines_from, end_word, head_word, text}
use Rattle.em_trace.specs.Reading.{judge, Found, Refusal, fault_after, found_from, followed, with_first, end_unless, found_behind, trace_of}
use Rattle.em_trace.proofs.Lines.{found_from_more, trace_behind_head}
use Rattle.em_trace.proofs.LineLaws.{Above, pieces-then, behind_each, joined_by, joined-pieces, judge-entry, judge-end, judge-took, above-line}

found-is : (x y : List Entry × EndKind) → ◌≡◌ {A = Found} (Ok x) (Ok y) → x ≡ y
found-is x y e = cc

pub end-above : (end : EndKind) → Above 10 (end_word end)
end-above Quiet = search arith
end-above Limit = search arith

-- ---- written and found again

found-end : (number place : ℕ) (end : EndKind) → found_from number place (pieces 10 (end_word end ++ 10 ∷ [])) ≡ Ok ([], end)
unfolding found_from fault_after pieces
found-end number place end =
    let ps : pieces 10 (end_word end ++ 10 ∷ []) ≡ end_word end ∷ ([] ∷ []) = pieces-then 10 (end_word end) [] (end-above end) in
    rw (ps, judge-end place end) refl

found-line : (number place : ℕ) (entry : Entry) (rest : List ℕ) (h : List Entry) (end : EndKind) → IsU64 place → EntryFits entry → found_from (number + 1) (place + 1) (pieces 10 rest) ≡ Ok (h, end) → found_from number place (pieces 10 (line place entry ++ rest)) ≡ Ok (entry ∷ h, end)
unfolding line
found-line number place entry rest h end p fits more =
    let text-is : (joined (line_tokens place entry) ++ 10 ∷ []) ++ rest ≡ joined (line_tokens place entry) ++ 10 ∷ rest = append_assoc (joined (line_tokens place entry)) (10 ∷ []) rest in
    let ps : pieces 10 ((joined (line_tokens place entry) ++ 10 ∷ []) ++ rest) ≡ joined (line_tokens place entry) ∷ pieces 10 rest = ap (λ t. pieces 10 t) text-is ∙ pieces-then 10 (joined (line_tokens place entry)) rest (above-line place entry) in
    ap (λ ps. found_from number place ps) ps ∙ found_from_more number place (joined (line_tokens place entry)) rest ∙ rw (judge-entry place entry p fits, more) refl

found-again : (h : List Entry) (end : EndKind) (number place : ℕ) → AllByRecursion EntryFits h → place + length h ≤ 2 ^ 64 → found_from number place (pieces 10 (lines_from place h ++ (end_word end ++ 10 ∷ []))) ≡ Ok (h, end)
unfolding lines_from
found-again [] end number place fits room = found-end number place end
found-again (e ∷ es) end number place fits room =
    let last = end_word end ++ 10 ∷ [] in
    let more = found-again es end (number + 1) (place + 1) fits.1 (omega arith) in
    let p : IsU64 place = omega arith in
    ap (λ t. found_from number place (pieces 10 t)) (append_assoc (line place e) (lines_from (place + 1) es) (end_word end ++ 10 ∷ [])) ∙ found-line number place e (lines_from (place + 1) es ++ (end_word end ++ 10 ∷ [])) es end p fits.0 more

pub text-again : (h : List Entry) (end : EndKind) → AreEntries h → trace_of (text h end) ≡ Ok (h, end)
unfolding text
text-again h end fits =
    let rest = lines_from 0 h ++ (end_word end ++ 10 ∷ []) in
    let ps : pieces 10 (head_word ++ 10 ∷ (lines_from 0 h ++ (end_word end ++ 10 ∷ []))) ≡ head_word ∷ pieces 10 (lines_from 0 h ++ (end_word end ++ 10 ∷ [])) = pieces-then 10 head_word (lines_from 0 h ++ (end_word end ++ 10 ∷ [])) (search arith) in
    trace_behind_head (head_word ++ 10 ∷ (lines_from 0 h ++ (end_word end ++ 10 ∷ []))) head_word (lines_from 0 h ++ (end_word end ++ 10 ∷ [])) ps refl ∙ found-again h end 2 0 fits.1 (omega (arith, fits.0))

-- ---- found, and so written

abbrev FollowedBy : Result Line ℕ → Found → Option Refusal → List Entry → EndKind → Type 0
FollowedBy r more after h end =
    ((e : Entry) × (es : List Entry) × (r ≡ Ok (lines.Entry e)) × (more ≡ Ok (es, end)) × (h ≡ e ∷ es)) ⊎ ((r ≡ Ok (lines.End end)) × (after ≡ None) × (h ≡ []))

with_first-ok : (e : Entry) (more : Found) (h : List Entry) (end : EndKind) → with_first e more ≡ Ok (h, end) → (es : List Entry) × (more ≡ Ok (es, end)) × (h ≡ e ∷ es)
with_first-ok e (Err refusal) h end eq = absurd cc
with_first-ok e (Ok x) h end eq =
    let same : (e ∷ x.0, x.1) ≡ (h, end) = found-is (e ∷ x.0, x.1) (h, end) eq in
    let ends : x.1 ≡ end = ap (λ p. p.1) same in
    (x.0, ap (λ k. Ok (x.0, k)) ends, sym (ap (λ p. p.0) same))

end_unless-ok : (k : EndKind) (after : Option Refusal) (h : List Entry) (end : EndKind) → end_unless k after ≡ Ok (h, end) → (after ≡ None) × (k ≡ end) × (h ≡ [])
end_unless-ok k (Some refusal) h end eq = absurd cc
end_unless-ok k None h end eq =
    let same : ([], k) ≡ (h, end) = found-is ([], k) (h, end) eq in
    (refl, ap (λ p. p.1) same, sym (ap (λ p. p.0) same))

followed-ok : (number : ℕ) (r : Result Line ℕ) (more : Found) (after : Option Refusal) (h : List Entry) (end : EndKind) → followed number r more after ≡ Ok (h, end) → FollowedBy r more after h end
followed-ok number (Err rule) more after h end eq = absurd cc
followed-ok number (Ok (lines.Entry e)) more after h end eq =
    let w = with_first-ok e more h end eq in
    inl (e, w.0, refl, w.1, w.2)
followed-ok number (Ok (lines.End k)) more after h end eq =
    let u = end_unless-ok k after h end eq in
    inr (ap (λ x. Ok (lines.End x)) u.1, u.0, u.2)

some-is-none : (x : Refusal) → ◌≡◌ {A = Option Refusal} (Some x) None → ⊥
some-is-none x e = absurd cc

fault-none : (number place : ℕ) (next : List ℕ) (more : List (List ℕ)) → fault_after number place (next ∷ more) ≡ None → (next ≡ []) × (more ≡ [])
unfolding fault_after
fault-none number place [] [] eq = (refl, refl)
fault-none number place (b ∷ bytes) [] eq =
    let some : eqb (length (b ∷ bytes)) 0 ≡ false = ne_eqb (length (b ∷ bytes)) 0 (λ e. omega arith) in
    let never : Some (number, 2) ≡ None = rw some at eq in
    absurd (some-is-none (number, 2) never)
fault-none number place next (m ∷ more) eq = absurd cc

-- what the pieces are the lines of
record Spelled (place : ℕ) (ps : List (List ℕ)) (h : List Entry) (end : EndKind) : Type 0 where
  bytes : joined_by 10 ps ≡ lines_from place h ++ (end_word end ++ 10 ∷ [])
  fits : AllByRecursion EntryFits h
  room : place + length h ≤ 2 ^ 64

found-took : (ps : List (List ℕ)) (number place : ℕ) (h : List Entry) (end : EndKind) → place ≤ 2 ^ 64 → found_from number place ps ≡ Ok (h, end) → Spelled place ps h end
unfolding found_from lines_from line
found-took [] number place h end low eq = absurd cc
found-took (p ∷ []) number place h end low eq = absurd cc
found-took (l ∷ next ∷ more) number place h end low eq =
    elim (followed-ok number (judge place l) (found_from (number + 1) (place + 1) (next ∷ more)) (fault_after (number + 1) place (next ∷ more)) h end eq) [
      | inl f ↦
          let is = judge-took place l (lines.Entry f.0) f.2 in
          let room : place + 1 ≤ 2 ^ 64 = omega (arith, is.1) in
          let rest = found-took (next ∷ more) (number + 1) (place + 1) f.1 end room f.3 in
          let tail : l ++ 10 ∷ joined_by 10 (next ∷ more) ≡ (joined (line_tokens place f.0) ++ 10 ∷ []) ++ (lines_from (place + 1) f.1 ++ (end_word end ++ 10 ∷ [])) = (let a = is.0 in let b = rest.bytes in λ i. a i ++ 10 ∷ b i) ∙ sym (append_assoc (joined (line_tokens place f.0)) (10 ∷ []) (lines_from (place + 1) f.1 ++ (end_word end ++ 10 ∷ []))) in
          let bytes : l ++ 10 ∷ joined_by 10 (next ∷ more) ≡ ((joined (line_tokens place f.0) ++ 10 ∷ []) ++ lines_from (place + 1) f.1) ++ (end_word end ++ 10 ∷ []) = tail ∙ sym (append_assoc (joined (line_tokens place f.0) ++ 10 ∷ []) (lines_from (place + 1) f.1) (end_word end ++ 10 ∷ [])) in
          subst (λ es. Spelled place (l ∷ next ∷ more) es end) (sym f.4) (record { bytes = bytes; fits = (is.2, rest.fits); room = omega (arith, rest.room) })
      | inr f ↦
          let is = judge-took place l (lines.End end) f.0 in
          let none = fault-none (number + 1) place next more f.1 in
          let bytes : l ++ 10 ∷ joined_by 10 (next ∷ more) ≡ end_word end ++ 10 ∷ [] = (let a = none.0 in let b = none.1 in λ i. is i ++ 10 ∷ (a i ++ behind_each 10 (b i))) in
          subst (λ es. Spelled place (l ∷ next ∷ more) es end) (sym f.2) (record { bytes = bytes; fits = tt; room = omega arith })
    ]

head-ok : (b : Bool) (found : Found) (refusal : Refusal) (x : List Entry × EndKind) → cond b found (Err refusal) ≡ Ok x → (b ≡ true) × (found ≡ Ok x)
head-ok true found refusal x eq = (refl, eq)
head-ok false found refusal x eq = absurd cc

behind-took : (ps : List (List ℕ)) (h : List Entry) (end : EndKind) → found_behind ps ≡ Ok (h, end) → (joined_by 10 ps ≡ text h end) × AreEntries h
unfolding text
behind-took [] h end eq = absurd cc
behind-took (p ∷ []) h end eq = absurd cc
behind-took (head ∷ next ∷ more) h end eq =
    let c = head-ok (bytes_eq head head_word) (found_from 2 0 (next ∷ more)) (1, 1) (h, end) eq in
    let is : head ≡ head_word = (bytes_eq-Decides head head_word).0 c.0 in
    let rest = found-took (next ∷ more) 2 0 h end (omega arith) c.1 in
    ((let b = rest.bytes in λ i. is i ++ 10 ∷ b i), (omega (arith, rest.room), rest.fits))

pub trace-took : (bytes : List ℕ) (h : List Entry) (end : EndKind) → trace_of bytes ≡ Ok (h, end) → AreEntries h × (bytes ≡ text h end)
unfolding trace_of
trace-took bytes h end eq =
    let t = behind-took (pieces 10 bytes) h end eq in
    (t.1, sym (joined-pieces 10 bytes) ∙ t.0)

pub texts_differ : (h k : List Entry) (e f : EndKind) → AreEntries h → AreEntries k → text h e ≡ text k f → (h ≡ k) × (e ≡ f)
texts_differ h k e f a b same =
    let both = sym (text-again h e a) ∙ ap trace_of same ∙ text-again k f b in
    let is = found-is (h, e) (k, f) both in
    (ap (λ p. p.0) is, ap (λ p. p.1) is)
