use Rattle.std.proofs.Common.{◌≡◌, ℕ, List, [], ◌∷◌, Option, Some, None, true, ap, sym, ◌∙◌, get_or, eqb, refl, unwrap_or, option_map, lit≤}
use Rattle.std.specs.Option.{option_eq}
use Rattle.std.specs.Borrow.{Bor}
use Rattle.em_script.specs.Lines.{Rest}
use Rattle.em_script.specs.Form.{first_token, token_at}
use Rattle.em_script.specs.Judging.{is_skipped}
use Rattle.em_script.proofs.Binds.{some-is}
use Rattle.em_script.proofs.judging.is_skipped.Goals as goal

first-some : (ts : List (List ℕ)) (r : ℕ) (t : List ℕ) (after : Rest) → first_token r ts ≡ Some (t, after) → is_skipped ts ≡ eqb (get_or t 0 0) 35
first-some [] r t after e = absurd cc
first-some (x ∷ xs) r t after e = ap (λ (p : List ℕ × Rest). eqb (get_or p.0 0 0) 35) (some-is (x, record { tokens = xs; rule = r }) (t, after) e)

first-none : (ts : List (List ℕ)) (r : ℕ) → first_token r ts ≡ None → is_skipped ts ≡ true
first-none [] r e = refl
first-none (x ∷ xs) r e = absurd cc

skipped-some : (rest : Rest) (t : List ℕ) (after : Rest) → token_at rest ≡ Some (t, after) → is_skipped rest.tokens ≡ eqb (get_or t 0 0) 35
unfolding token_at
skipped-some rest t after e = first-some rest.tokens rest.rule t after e

skipped-none : (rest : Rest) → token_at rest ≡ None → is_skipped rest.tokens ≡ true
unfolding token_at
skipped-none rest e = first-none rest.tokens rest.rule e

eq-first : (r : Option (Bor ℕ)) (b : Bor ℕ) → b.now ≡ 35 → option_eq (λ x y. eqb x.now y.now) r (Some b) ≡ eqb (unwrap_or (option_map (λ x. x.now) r) 0) 35
eq-first None b e = refl
eq-first (Some x) b e = ap (eqb x.now) e

pub returns-in-Ok : goal.returns-in-Ok
returns-in-Ok c =
    let t = c.in-Ok.token.now in
    let skip : is_skipped c.new.result.tokens ≡ eqb (get_or t 0 0) 35 = skipped-some c.new.result t c.token.new.self c.in-Ok.ensures.read in
    c.eq.ensures ∙ eq-first c.first.result _ refl ∙ ap (λ x. eqb x 35) (c.first.ensures.item.4 (lit≤ tt) 0) ∙ sym skip ∙ ap (λ r. is_skipped r.tokens) c.new.ensures

pub returns-in-Err : goal.returns-in-Err
returns-in-Err c =
    let none = rw c.in-Err.ensures.err at c.in-Err.ensures.read in
    sym (skipped-none c.new.result none) ∙ ap (λ r. is_skipped r.tokens) c.new.ensures
