-- The text of a history, piece by piece, and what a failing write leaves of it.
use Rattle.std.proofs.Common.{◌≡◌, ℕ, zero, suc, ◌+◌, ◌<◌, ◌≤◌, List, [], ◌∷◌, ◌++◌, length, get_or, take, drop, drop-cons, Option, Some, None, refl, sym, ap, subst, ◌∙◌, append_assoc, append-nil, arith}
use Rattle.std.specs.Io.KnownBytes.{append_known}
use Rattle.std.proofs.lemmas.List.{take_more, take_all, length-take-le, take-append-drop}
use Rattle.em_io.specs.Sink.{AppendsPrefix}
use Rattle.em_io.proofs.Writing.{appends_then, prefix_then, prefix_first}
use Rattle.em_log.specs.declared.ids.EndKind.{EndKind}
use Rattle.em_log.specs.declared.entry.Entry.{Entry}
use Rattle.em_trace.specs.Text.{line, lines_from, text, head_word, end_word}

abbrev pub head_line : List ℕ
head_line = head_word ++ 10 ∷ []

-- the text up to the line of this place
abbrev pub text_before : List Entry → ℕ → List ℕ
text_before log i = head_line ++ lines_from 0 (take i log)

lines-append : (place : ℕ) (xs ys : List Entry) → lines_from place (xs ++ ys) ≡ lines_from place xs ++ lines_from (place + length xs) ys
unfolding lines_from
lines-append place [] ys = ap (λ p. lines_from p ys) (omega arith)
lines-append place (x ∷ xs) ys =
    let p : (place + 1) + length xs ≡ place + suc (length xs) = omega arith in
    ap (λ t. line place x ++ t) (lines-append (place + 1) xs ys ∙ ap (λ n. lines_from (place + 1) xs ++ lines_from n ys) p) ∙ sym (append_assoc (line place x) (lines_from (place + 1) xs) (lines_from (place + suc (length xs)) ys))

lines-one : (place : ℕ) (e : Entry) (es : List Entry) → lines_from place (e ∷ es) ≡ line place e ++ lines_from (place + 1) es
unfolding lines_from
lines-one place e es = refl

lines-none : (place : ℕ) → lines_from place [] ≡ []
unfolding lines_from
lines-none place = refl

-- the next line
pub text_before_more : (log : List Entry) (i : ℕ) (d : Entry) → i < length log → text_before log (i + 1) ≡ text_before log i ++ line i (get_or log i d)
text_before_more log i d lt =
    let n : 0 + length (take i log) ≡ i = omega (arith, length-take-le i log (omega arith)) in
    ap (λ es. head_line ++ lines_from 0 es) (take_more log i d lt) ∙ ap (λ t. head_line ++ t) (lines-append 0 (take i log) (get_or log i d ∷ []) ∙ ap (λ t. lines_from 0 (take i log) ++ t) (ap (λ p. lines_from p (get_or log i d ∷ [])) n ∙ lines-one i (get_or log i d) [] ∙ ap (λ t. line i (get_or log i d) ++ t) (lines-none (i + 1)) ∙ append-nil (line i (get_or log i d)))) ∙ sym (append_assoc head_line (lines_from 0 (take i log)) (line i (get_or log i d)))

text-head : (log : List Entry) (end : EndKind) → text log end ≡ head_line ++ (lines_from 0 log ++ (end_word end ++ 10 ∷ []))
unfolding text
text-head log end = refl

-- the text from its head
pub text_first : (log : List Entry) (end : EndKind) (a c : Option (List ℕ)) → AppendsPrefix a c head_line → AppendsPrefix a c (text log end)
text_first log end a c h = subst (λ t. AppendsPrefix a c t) (sym (text-head log end)) (prefix_first a c head_line (lines_from 0 log ++ (end_word end ++ 10 ∷ [])) h)

lines-split : (log : List Entry) (i : ℕ) (d : Entry) → i < length log → lines_from 0 log ≡ lines_from 0 (take i log) ++ (line i (get_or log i d) ++ lines_from (i + 1) (drop (suc i) log))
lines-split log i d lt =
    let n : 0 + length (take i log) ≡ i = omega (arith, length-take-le i log (omega arith)) in
    let cons : drop i log ≡ get_or log i d ∷ drop (suc i) log = drop-cons log i d lt in
    ap (λ es. lines_from 0 es) (sym (take-append-drop i log)) ∙ lines-append 0 (take i log) (drop i log) ∙ ap (λ t. lines_from 0 (take i log) ++ t) ((λ j. lines_from (n j) (cons j)) ∙ lines-one i (get_or log i d) (drop (suc i) log))

regroup : (h b l m e : List ℕ) → h ++ ((b ++ (l ++ m)) ++ e) ≡ (h ++ b) ++ (l ++ (m ++ e))
regroup h b l m e = simp append_assoc

-- the text up to a line, a part of which was written
pub text_part : (log : List Entry) (end : EndKind) (i : ℕ) (d : Entry) (a b c : Option (List ℕ)) → i < length log → b ≡ append_known a (text_before log i) → AppendsPrefix b c (line i (get_or log i d)) → AppendsPrefix a c (text log end)
text_part log end i d a b c lt p q =
    let l = line i (get_or log i d) in
    let more = lines_from (i + 1) (drop (suc i) log) in
    let last = end_word end ++ 10 ∷ [] in
    let e : text log end ≡ text_before log i ++ (l ++ (more ++ last)) = text-head log end ∙ ap (λ t. head_line ++ (t ++ last)) (lines-split log i d lt) ∙ regroup head_line (lines_from 0 (take i log)) l more last in
    subst (λ t. AppendsPrefix a c t) (sym e) (prefix_then a b c (text_before log i) l (more ++ last) p q)

text-last : (log : List Entry) (end : EndKind) (i : ℕ) → length log ≤ i → text log end ≡ text_before log i ++ (end_word end ++ 10 ∷ [])
text-last log end i le = text-head log end ∙ sym (ap (λ es. (head_line ++ lines_from 0 es) ++ (end_word end ++ 10 ∷ [])) (take_all i log le) ∙ append_assoc head_line (lines_from 0 log) (end_word end ++ 10 ∷ []))

-- the last line
pub text_whole : (log : List Entry) (end : EndKind) (i : ℕ) (a b c : Option (List ℕ)) → length log ≤ i → b ≡ append_known a (text_before log i) → c ≡ append_known b (end_word end ++ 10 ∷ []) → c ≡ append_known a (text log end)
text_whole log end i a b c le p q = appends_then a b c (text_before log i) (end_word end ++ 10 ∷ []) p q ∙ ap (λ t. append_known a t) (sym (text-last log end i le))

pub text_last_part : (log : List Entry) (end : EndKind) (i : ℕ) (a b c : Option (List ℕ)) → length log ≤ i → b ≡ append_known a (text_before log i) → AppendsPrefix b c (end_word end ++ 10 ∷ []) → AppendsPrefix a c (text log end)
text_last_part log end i a b c le p q =
    let last = end_word end ++ 10 ∷ [] in
    subst (λ t. AppendsPrefix a c t) (sym (text-last log end i le ∙ ap (λ t. text_before log i ++ t) (sym (append-nil last)))) (prefix_then a b c (text_before log i) last [] p q)

-- before the first line
pub text_before_none : (log : List Entry) → text_before log 0 ≡ head_line
text_before_none log = ap (λ t. head_line ++ t) (lines-none 0) ∙ append-nil head_line
