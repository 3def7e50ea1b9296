-- Lines of any spacing, with blank lines and comments between them, are read as what their tokens say.
use Rattle.std.proofs.Common.{◌≡◌, ℕ, ◌+◌, Bool, true, false, not, cond, List, [], ◌∷◌, map, Ok, refl, sym, ap, ◌∙◌}
use Rattle.std.specs.List.{list_all}
use Rattle.em_log.specs.declared.graph.Config.{Config}
use Rattle.em_script.specs.declared.judging.Judged.TheVariants as judgments
use Rattle.em_script.specs.declared.line.Line.{Line}
use Rattle.em_script.specs.Judging.{is_skipped, judge}
use Rattle.em_script.specs.Lines.{is_plain_line, tokens}
use Rattle.em_script.specs.Names.{writing}
use Rattle.em_script.specs.Reading.{found_from, is_done}
use Rattle.em_script.specs.Spelling.{line_tokens}
use Rattle.em_script.specs.State.{State, after, after_all}
use Rattle.em_script.proofs.Ascii.{both}
use Rattle.em_script.proofs.Finding.{found-end, found-says, found-skipped}
use Rattle.em_script.proofs.Running.{shown_lines}
use Rattle.em_script.proofs.Saying.{AreSaid, IsSaid}

-- a line without tokens, or with a comment
judge-blank : (s : State) (text : List ℕ) → is_plain_line text ≡ true → is_skipped (tokens text) ≡ true → judge s text ≡ judgments.Skipped
unfolding judge
judge-blank s text plain skipped = rw (plain, skipped) refl

-- what a line says is said by its tokens alone
judge-tokens : (g : Config) (s : State) (line : Line) (text : List ℕ) → is_plain_line text ≡ true → tokens text ≡ line_tokens (writing g) line → IsSaid g s line → judge s text ≡ judgments.Says line
unfolding judge
judge-tokens g s line text plain same said = rw (plain, same, said.1) said.2

kept : {A : Type 0} (b : Bool) (x : A) (xs : List A) → b ≡ false → cond (not b) (x ∷ xs) xs ≡ x ∷ xs
kept b x xs e = rw e refl

left : {A : Type 0} (b : Bool) (x : A) (xs : List A) → b ≡ true → cond (not b) (x ∷ xs) xs ≡ xs
left b x xs e = rw e refl

heads : {A : Type 0} (x y : A) (xs ys : List A) → x ∷ xs ≡ y ∷ ys → x ≡ y
heads x y xs ys e = cc

tails : {A : Type 0} (x y : A) (xs ys : List A) → x ∷ xs ≡ y ∷ ys → xs ≡ ys
tails x y xs ys e = cc

done-found : (number : ℕ) (s : State) → is_done s.phase ≡ true → found_from number s [] ≡ Ok s.graph
done-found number s done = found-end number s ∙ rw done refl

-- that the lines behind are read
abbrev pub IsRead : Config → List (List ℕ) → Type 0
IsRead g texts = (ls : List Line) (number : ℕ) (s : State) → list_all is_plain_line texts ≡ true → shown_lines texts ≡ map (line_tokens (writing g)) ls → AreSaid g ls s → is_done (after_all ls s).phase ≡ true → found_from number s texts ≡ Ok (after_all ls s).graph

found-line : (g : Config) (text : List ℕ) (texts : List (List ℕ)) (ls : List Line) (number : ℕ) (s : State) (b : Bool) → IsRead g texts → is_skipped (tokens text) ≡ b → list_all is_plain_line (text ∷ texts) ≡ true → shown_lines (text ∷ texts) ≡ map (line_tokens (writing g)) ls → AreSaid g ls s → is_done (after_all ls s).phase ≡ true → found_from number s (text ∷ texts) ≡ Ok (after_all ls s).graph
found-line g text texts ls number s true read e plain same said done =
    let each = both (is_plain_line text) (list_all is_plain_line texts) plain in
    found-skipped number s text texts (judge-blank s text each.0 e)
    ∙ read ls (number + 1) s each.1 (sym (left (is_skipped (tokens text)) (tokens text) (shown_lines texts) e) ∙ same) said done
found-line g text texts [] number s false read e plain same said done =
    let none : tokens text ∷ shown_lines texts ≡ [] = sym (kept (is_skipped (tokens text)) (tokens text) (shown_lines texts) e) ∙ same in
    absurd cc
found-line g text texts (line ∷ more) number s false read e plain same said done =
    let each = both (is_plain_line text) (list_all is_plain_line texts) plain in
    let whole : tokens text ∷ shown_lines texts ≡ line_tokens (writing g) line ∷ map (line_tokens (writing g)) more = sym (kept (is_skipped (tokens text)) (tokens text) (shown_lines texts) e) ∙ same in
    found-says number s text texts line (judge-tokens g s line text each.0 (heads (tokens text) (line_tokens (writing g) line) (shown_lines texts) (map (line_tokens (writing g)) more) whole) said.0)
    ∙ read more (number + 1) (after line s) each.1 (tails (tokens text) (line_tokens (writing g) line) (shown_lines texts) (map (line_tokens (writing g)) more) whole) said.1 done

pub found-shown : (g : Config) (texts : List (List ℕ)) → IsRead g texts
found-shown g [] [] number s plain same said done = done-found number s done
found-shown g [] (line ∷ more) number s plain same said done = absurd cc
found-shown g (text ∷ texts) ls number s plain same said done = found-line g text texts ls number s (is_skipped (tokens text)) (found-shown g texts) refl plain same said done
