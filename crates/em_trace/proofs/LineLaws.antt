-- The line of an entry is judged to be it, and nothing else is.
use Rattle.std.proofs.Common.{◌≡◌, ℕ, ◌^◌, ◌<◌, Bool, true, false, cond, eqb, List, [], ◌∷◌, ◌++◌, Option, Some, None, Result, Ok, Err, refl, sym, ap, subst, ◌∙◌, append-nil, arith, inl, inr, ◌⊎◌, eqb-true, eq-eqb, ne_eqb}
use Rattle.std.specs.List.{AllByRecursion}
use Rattle.std.specs.Prelude.{decimal, bytes_eq, codes}
use Rattle.std.proofs.lemmas.Slice.Eq.{bytes_eq-Decides}
use Rattle.em_log.specs.declared.ids.EndKind.{EndKind}
use Rattle.em_log.specs.declared.ids.EndKind.TheVariants.{Quiet, Limit}
use Rattle.em_log.specs.declared.entry.Entry.{Entry}
use Rattle.em_trace.specs.declared.judging.Line.{Line}
use Rattle.em_trace.specs.declared.judging.Line.TheVariants as lines
use Rattle.em_trace.specs.Line.{Rest, pieces, onto_first, spaced, joined}
use Rattle.em_trace.specs.Form.{has_none}
use Rattle.em_trace.specs.Forms.{entry_form}
use Rattle.em_trace.specs.Fitting.{IsU64, EntryFits}
use Rattle.em_trace.specs.Text.{line_tokens, end_word}
use Rattle.em_trace.specs.Reading.{placed_form, placed, judge}
use Rattle.em_trace.proofs.Pieces.{has_none_pieces}
use Rattle.em_trace.proofs.Forms.{IsPlain, well_rest, IsForm, Nothing}
use Rattle.em_trace.proofs.Numbers.{decimal-differs-with}
use Rattle.em_trace.proofs.Parts.{then-law, u64-law}
use Rattle.em_trace.proofs.WhatLaws.{entry-law}
use Rattle.em_trace.proofs.PlainForms.{line-plain}

-- ---- pieces and what they are pieces of

-- no byte is the separator
abbrev pub Above : ℕ → List ℕ → Type 0
Above separator bytes = AllByRecursion (λ b. separator < b) bytes

pub pieces-alone : (separator : ℕ) (bytes : List ℕ) → Above separator bytes → pieces separator bytes ≡ bytes ∷ []
unfolding pieces
pieces-alone separator [] h = refl
pieces-alone separator (b ∷ bytes) h =
    let differs : eqb b separator ≡ false = ne_eqb b separator (λ e. omega (arith, h.0)) in
    rw (differs, pieces-alone separator bytes h.1) refl

pub pieces-then : (separator : ℕ) (first rest : List ℕ) → Above separator first → pieces separator (first ++ separator ∷ rest) ≡ first ∷ pieces separator rest
unfolding pieces
pieces-then separator [] rest h = rw (eq-eqb separator separator refl) refl
pieces-then separator (b ∷ bytes) rest h =
    let differs : eqb b separator ≡ false = ne_eqb b separator (λ e. omega (arith, h.0)) in
    rw (differs, pieces-then separator bytes rest h.1) refl

pub pieces-joined : (token : List ℕ) (tokens : List (List ℕ)) → IsPlain token → AllByRecursion IsPlain tokens → pieces 32 (token ++ spaced tokens) ≡ token ∷ tokens
pieces-joined token [] h all = ap (λ t. pieces 32 t) (append-nil token) ∙ pieces-alone 32 token h
pieces-joined token (t ∷ ts) h all = pieces-then 32 token (t ++ spaced ts) h ∙ ap (λ ps. token ∷ ps) (pieces-joined t ts all.0 all.1)

-- the pieces, each after a separator
abbrev pub behind_each : ℕ → List (List ℕ) → List ℕ
behind_each separator [] = []
behind_each separator (p ∷ ps) = separator ∷ p ++ behind_each separator ps

abbrev pub joined_by : ℕ → List (List ℕ) → List ℕ
joined_by separator [] = []
joined_by separator (p ∷ ps) = p ++ behind_each separator ps

joined-onto_first : (separator b : ℕ) (ps : List (List ℕ)) → joined_by separator (onto_first b ps) ≡ b ∷ joined_by separator ps
joined-onto_first separator b [] = refl
joined-onto_first separator b (p ∷ ps) = refl

behind-some : (separator : ℕ) (ps : List (List ℕ)) → has_none ps ≡ false → behind_each separator ps ≡ separator ∷ joined_by separator ps
behind-some separator [] h = absurd cc
behind-some separator (p ∷ ps) h = refl

by-test : (a b : ℕ) (t : Bool) → eqb a b ≡ t → (a ≡ b) ⊎ (eqb a b ≡ false)
by-test a b true e = inl (eqb-true a b e)
by-test a b false e = inr e

same-or-not : (a b : ℕ) → (a ≡ b) ⊎ (eqb a b ≡ false)
same-or-not a b = by-test a b (eqb a b) refl

pub joined-pieces : (separator : ℕ) (bytes : List ℕ) → joined_by separator (pieces separator bytes) ≡ bytes
unfolding pieces
joined-pieces separator [] = refl
joined-pieces separator (b ∷ bytes) =
    elim (same-or-not b separator) [
      | inl e ↦ rw (eq-eqb b separator e) (behind-some separator (pieces separator bytes) (has_none_pieces separator bytes) ∙ (let back = sym e in λ i. back i ∷ joined-pieces separator bytes i))
      | inr n ↦ rw n (joined-onto_first separator b (pieces separator bytes) ∙ ap (λ t. b ∷ t) (joined-pieces separator bytes))
    ]

pub spaced-is : (tokens : List (List ℕ)) → behind_each 32 tokens ≡ spaced tokens
spaced-is [] = refl
spaced-is (t ∷ ts) = ap (λ x. 32 ∷ t ++ x) (spaced-is ts)

pub joined-is : (tokens : List (List ℕ)) → joined_by 32 tokens ≡ joined tokens
joined-is [] = refl
joined-is (t ∷ ts) = ap (λ x. t ++ x) (spaced-is ts)

-- ---- the line of an entry

pub placed-law : IsForm placed_form (λ p. IsU64 p.0 × EntryFits p.1) Nothing
placed-law = then-law u64-law entry-law

pub judge-entry : (place : ℕ) (entry : Entry) → IsU64 place → EntryFits entry → judge place (joined (line_tokens place entry)) ≡ Ok (lines.Entry entry)
unfolding judge
judge-entry place entry p fits =
    let small : place < 2 ^ 64 = omega (arith, p) in
    let rest = spaced (entry_form.write entry) in
    let no_quiet : bytes_eq (decimal place ++ spaced (entry_form.write entry)) (codes "quiet") ≡ false = decimal-differs-with place 113 (117 ∷ 105 ∷ 101 ∷ 116 ∷ []) (spaced (entry_form.write entry)) small (omega arith) in
    let no_limit : bytes_eq (decimal place ++ spaced (entry_form.write entry)) (codes "limit") ≡ false = decimal-differs-with place 108 (105 ∷ 109 ∷ 105 ∷ 116 ∷ []) (spaced (entry_form.write entry)) small (omega arith) in
    let plain = placed-law.plain (place, entry) (p, fits) in
    let tokens : pieces 32 (decimal place ++ spaced (entry_form.write entry)) ≡ decimal place ∷ entry_form.write entry = pieces-joined (decimal place) (entry_form.write entry) plain.0 plain.1 in
    let again : placed_form.read (well_rest (decimal place ∷ entry_form.write entry)) ≡ Some ((place, entry), well_rest []) = subst (λ ts. placed_form.read (well_rest (decimal place ∷ ts)) ≡ Some ((place, entry), well_rest [])) (append-nil (entry_form.write entry)) (placed-law.again (place, entry) (p, fits) [] refl) in
    rw (no_quiet, no_limit) (ap (λ ts. placed place (placed_form.read (well_rest ts))) tokens ∙ rw (again, eq-eqb place place refl) refl)

pub judge-end : (place : ℕ) (end : EndKind) → judge place (end_word end) ≡ Ok (lines.End end)
unfolding judge
judge-end place Quiet = refl
judge-end place Limit = refl

-- what a line that is judged good says
abbrev pub LineIs : ℕ → List ℕ → Line → Type 0
LineIs place line (lines.Entry entry) = (line ≡ joined (line_tokens place entry)) × IsU64 place × EntryFits entry
LineIs place line (lines.End end) = line ≡ end_word end

chosen-ok : (b : Bool) (x : Line) (other : Result Line ℕ) (y : Line) → cond b (Ok x) other ≡ Ok y → ((b ≡ true) × (x ≡ y)) ⊎ (other ≡ Ok y)
chosen-ok true x other y e = inl (refl, cc)
chosen-ok false x other y e = inr e

tested-ok : (b : Bool) (r : Result Line ℕ) (rule : ℕ) (y : Line) → cond b r (Err rule) ≡ Ok y → (b ≡ true) × (r ≡ Ok y)
tested-ok true r rule y e = (refl, e)
tested-ok false r rule y e = absurd cc

ok-is : (x y : Line) → ◌≡◌ {A = Result Line ℕ} (Ok x) (Ok y) → x ≡ y
ok-is x y e = cc

placed-took : (place : ℕ) (line : List ℕ) (read : Option ((ℕ × Entry) × Rest)) → placed_form.read (well_rest (pieces 32 line)) ≡ read → (l : Line) → placed place read ≡ Ok l → LineIs place line l
placed-took place line None h l e = absurd cc
placed-took place line (Some x) h l e =
    let a = tested-ok x.1.well (cond (eqb x.0.0 place) (Ok (lines.Entry x.0.1)) (Err 4)) 3 l e in
    let b = tested-ok (eqb x.0.0 place) (Ok (lines.Entry x.0.1)) 4 l a.1 in
    let at : x.0.0 ≡ place = eqb-true x.0.0 place b.0 in
    let t = placed-law.took (well_rest (pieces 32 line)) x.0 x.1 h a.0 in
    let tokens : pieces 32 line ≡ line_tokens x.0.0 x.0.1 = t.tokens ∙ ap (λ ts. (decimal x.0.0 ∷ entry_form.write x.0.1) ++ ts) t.ends ∙ append-nil (decimal x.0.0 ∷ entry_form.write x.0.1) in
    let spelled : line ≡ joined (line_tokens x.0.0 x.0.1) = sym (joined-pieces 32 line) ∙ joined-is (pieces 32 line) ∙ ap joined tokens in
    let facts : (line ≡ joined (line_tokens place x.0.1)) × IsU64 place × EntryFits x.0.1 = subst (λ p. (line ≡ joined (line_tokens p x.0.1)) × IsU64 p × EntryFits x.0.1) at (spelled, t.fits.0, t.fits.1) in
    subst (λ z. LineIs place line z) (ok-is (lines.Entry x.0.1) l b.1) facts

pub judge-took : (place : ℕ) (line : List ℕ) (l : Line) → judge place line ≡ Ok l → LineIs place line l
unfolding judge
judge-took place line l e =
    elim (chosen-ok (bytes_eq line (codes "quiet")) (lines.End Quiet) _ l e) [
      | inl c ↦ subst (λ z. LineIs place line z) c.1 ((bytes_eq-Decides line (codes "quiet")).0 c.0)
      | inr e ↦ elim (chosen-ok (bytes_eq line (codes "limit")) (lines.End Limit) _ l e) [
        | inl c ↦ subst (λ z. LineIs place line z) c.1 ((bytes_eq-Decides line (codes "limit")).0 c.0)
        | inr e ↦ placed-took place line (placed_form.read (well_rest (pieces 32 line))) refl l e
      ]
    ]

-- ---- no newline stands in a line

above-append : (separator : ℕ) (xs ys : List ℕ) → Above separator xs → Above separator ys → Above separator (xs ++ ys)
above-append separator [] ys a b = b
above-append separator (x ∷ xs) ys a b = (a.0, above-append separator xs ys a.1 b)

above-lower : (bytes : List ℕ) → IsPlain bytes → Above 10 bytes
above-lower [] h = tt
above-lower (b ∷ bytes) h = (omega (arith, h.0), above-lower bytes h.1)

above-spaced : (tokens : List (List ℕ)) → AllByRecursion IsPlain tokens → Above 10 (spaced tokens)
above-spaced [] h = tt
above-spaced (t ∷ ts) h = (omega arith, above-append 10 t (spaced ts) (above-lower t h.0) (above-spaced ts h.1))

pub above-line : (place : ℕ) (entry : Entry) → Above 10 (joined (line_tokens place entry))
above-line place entry =
    let plain = line-plain place entry in
    above-append 10 (decimal place) (spaced (entry_form.write entry)) (above-lower (decimal place) plain.0) (above-spaced (entry_form.write entry) plain.1)
