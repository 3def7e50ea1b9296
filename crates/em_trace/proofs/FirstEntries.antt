-- The whole lines of a beginning of a text are those of its first entries.
use Rattle.std.proofs.Common.{◌≡◌, ℕ, zero, suc, ◌+◌, false, eqb, List, [], ◌∷◌, ◌++◌, take, refl, sym, ap, subst, ◌∙◌, append_assoc, arith, inl, inr, ◌⊎◌, ne_eqb}
use Rattle.em_log.specs.declared.ids.EndKind.{EndKind}
use Rattle.em_log.specs.declared.entry.Entry.{Entry}
use Rattle.em_trace.specs.Line.{joined}
use Rattle.em_trace.specs.Text.{line_tokens, line, lines_from, end_word, head_word, text}
use Rattle.em_trace.specs.FirstLines.{first_lines, newlines, whole_lines, AreFirstEntries}
use Rattle.em_trace.proofs.LineLaws.{Above, above-line}
use Rattle.em_trace.proofs.TextLaws.{end-above}

differs : (b : ℕ) (bytes : List ℕ) → Above 10 (b ∷ bytes) → eqb b 10 ≡ false
differs b bytes h = ne_eqb b 10 (λ e. omega (arith, h.0))

newlines-then : (first rest : List ℕ) → Above 10 first → newlines (first ++ 10 ∷ rest) ≡ suc (newlines rest)
newlines-then [] rest h = refl
newlines-then (b ∷ bytes) rest h = rw (differs b bytes h) (newlines-then bytes rest h.1)

first_lines-then : (n : ℕ) (first rest : List ℕ) → Above 10 first → first_lines (suc n) (first ++ 10 ∷ rest) ≡ first ++ 10 ∷ first_lines n rest
first_lines-then n [] rest h = refl
first_lines-then n (b ∷ bytes) rest h = rw (differs b bytes h) (ap (λ t. b ∷ t) (first_lines-then n bytes rest h.1))

whole-then : (first rest : List ℕ) → Above 10 first → whole_lines (first ++ 10 ∷ rest) ≡ first ++ 10 ∷ whole_lines rest
whole-then first rest h = ap (λ n. first_lines n (first ++ 10 ∷ rest)) (newlines-then first rest h) ∙ first_lines-then (newlines rest) first rest h

-- a beginning of a text has its first line whole, or no line
take-line : (n : ℕ) (first rest : List ℕ) → Above 10 first
    → (newlines (take n (first ++ 10 ∷ rest)) ≡ 0) ⊎ ((m : ℕ) × (take n (first ++ 10 ∷ rest) ≡ first ++ 10 ∷ take m rest))
take-line zero first rest h = inl refl
take-line (suc n) [] rest h = inr (n, refl)
take-line (suc n) (b ∷ bytes) rest h = elim (take-line n bytes rest h.1) [
  | inl e ↦ inl (rw (differs b bytes h) e)
  | inr p ↦ inr (p.0, ap (λ t. b ∷ t) p.1)
]

whole-take : (n : ℕ) (first rest : List ℕ) → Above 10 first
    → (whole_lines (take n (first ++ 10 ∷ rest)) ≡ []) ⊎ ((m : ℕ) × (whole_lines (take n (first ++ 10 ∷ rest)) ≡ first ++ 10 ∷ whole_lines (take m rest)))
whole-take n first rest h = elim (take-line n first rest h) [
  | inl e ↦ inl (ap (λ k. first_lines k (take n (first ++ 10 ∷ rest))) e)
  | inr p ↦ inr (p.0, ap whole_lines p.1 ∙ whole-then first (take p.0 rest) h)
]

take-nothing : (n : ℕ) → take {A = ℕ} n [] ≡ []
take-nothing zero = refl
take-nothing (suc n) = refl

-- the lines from this place on, and the last line
abbrev rest_of_text : ℕ → List Entry → EndKind → List ℕ
rest_of_text place history end = lines_from place history ++ (end_word end ++ 10 ∷ [])

abbrev AreEntriesFrom : ℕ → List Entry → EndKind → List ℕ → Type 0
AreEntriesFrom place history end lines = ((k : ℕ) × (lines ≡ lines_from place (take k history))) ⊎ (lines ≡ rest_of_text place history end)

no-lines : (place : ℕ) (history : List Entry) (end : EndKind) → AreEntriesFrom place history end []
unfolding lines_from
no-lines place history end = inl (0, refl)

line-apart : (first lines last : List ℕ) → ((first ++ 10 ∷ []) ++ lines) ++ last ≡ first ++ 10 ∷ (lines ++ last)
line-apart first lines last = append_assoc (first ++ 10 ∷ []) lines last ∙ append_assoc first (10 ∷ []) (lines ++ last)

regroup : (place : ℕ) (entry : Entry) (entries : List Entry) (end : EndKind)
    → rest_of_text place (entry ∷ entries) end ≡ joined (line_tokens place entry) ++ 10 ∷ rest_of_text (place + 1) entries end
unfolding lines_from line
regroup place entry entries end =
    line-apart (joined (line_tokens place entry)) (lines_from (place + 1) entries) (end_word end ++ 10 ∷ [])

line-first : (place : ℕ) (entry : Entry) (entries : List Entry) → joined (line_tokens place entry) ++ 10 ∷ lines_from (place + 1) entries ≡ lines_from place (entry ∷ entries)
unfolding lines_from line
line-first place entry entries = sym (append_assoc (joined (line_tokens place entry)) (10 ∷ []) (lines_from (place + 1) entries))

entries-first : (history : List Entry) (end : EndKind) (place n : ℕ) → AreEntriesFrom place history end (whole_lines (take n (rest_of_text place history end)))
unfolding lines_from
entries-first [] end place n = elim (whole-take n (end_word end) [] (end-above end)) [
  | inl e ↦ subst (λ t. AreEntriesFrom place [] end t) (sym e) (no-lines place [] end)
  | inr p ↦ inr (p.1 ∙ ap (λ t. end_word end ++ 10 ∷ whole_lines t) (take-nothing p.0))
]
entries-first (entry ∷ entries) end place n =
    let first = joined (line_tokens place entry) in
    let rest = rest_of_text (place + 1) entries end in
    subst (λ t. AreEntriesFrom place (entry ∷ entries) end (whole_lines (take n t))) (sym (regroup place entry entries end))
    (elim (whole-take n first rest (above-line place entry)) [
      | inl e ↦ subst (λ t. AreEntriesFrom place (entry ∷ entries) end t) (sym e) (no-lines place (entry ∷ entries) end)
      | inr p ↦ elim (entries-first entries end (place + 1) p.0) [
        | inl some ↦ inl (suc some.0, p.1 ∙ ap (λ t. first ++ 10 ∷ t) some.1 ∙ line-first place entry (take some.0 entries))
        | inr all ↦ inr (p.1 ∙ ap (λ t. first ++ 10 ∷ t) all ∙ sym (regroup place entry entries end))
      ]
    ])

pub first-entries : (history : List Entry) (end : EndKind) (n : ℕ) → AreFirstEntries history end (whole_lines (take n (text history end)))
unfolding text
first-entries history end n =
    elim (whole-take n head_word (rest_of_text 0 history end) (search arith)) [
      | inl e ↦ inl e
      | inr p ↦ elim (entries-first history end 0 p.0) [
        | inl some ↦ inr (inl (some.0, p.1 ∙ ap (λ t. head_word ++ 10 ∷ t) some.1))
        | inr all ↦ inr (inr (p.1 ∙ ap (λ t. head_word ++ 10 ∷ t) all))
      ]
    ]
