use Rattle.std.proofs.Common.{◌≡◌, ℕ, Bool, true, false, List, [], Option, Some, None, not, is_some, refl, sym, ap, ◌∙◌, if◌then◌else◌}
use Rattle.std.specs.Prelude.{is_none}
use Rattle.em_log.specs.Names.{is_name}
use Rattle.em_script.specs.Lines.{Rest}
use Rattle.em_script.specs.Names.{reading}
use Rattle.em_script.specs.Form.{◌>>=◌, judged, declared_name}
use Rattle.em_script.proofs.slots.new_name.Goals as goal

none-of : {A : Type 0} (o : Option A) (b : Bool) → is_some o ≡ not b → b ≡ is_none o
none-of None true e = refl
none-of None false e = absurd cc
none-of (Some x) true e = absurd cc
none-of (Some x) false e = refl

-- what is declared, by whether the token is a name
module _ (token : List ℕ) (r r1 r2 : Rest) (found : Option (List ℕ)) (is : Bool) (fresh none : Bool) (one : r1 ≡ judged 3 is r) (two : r2 ≡ judged 4 none r1) (first : is ≡ is_some found) (second : none ≡ fresh) where
  left : (good : Bool) → is_some found ≡ good → r2 ≡ judged 4 fresh (judged 3 good r)
  left good e = two ∙ ap (λ b. judged 4 b r1) second ∙ ap (judged 4 fresh) (one ∙ ap (λ b. judged 3 b r) (first ∙ e))

  pub declared-some : (good : Bool) (name : List ℕ) → found ≡ (if good then Some token else None) → found ≡ Some name → ◌≡◌ {A = List ℕ × Rest} (if good then token else [], judged 4 fresh (judged 3 good r)) (name, r2)
  declared-some true name e f =
      let same : token ≡ name = cc in
      ap (λ (t : List ℕ). (t, judged 4 fresh (judged 3 true r))) same ∙ ap (λ (q : Rest). (name, q)) (sym (left true (ap is_some e)))
  declared-some false name e f = absurd cc

  pub declared-none : (good : Bool) (name : List ℕ) → found ≡ (if good then Some token else None) → found ≡ None → name ≡ [] → ◌≡◌ {A = List ℕ × Rest} (if good then token else [], judged 4 fresh (judged 3 good r)) (name, r2)
  declared-none true name e f n = absurd cc
  declared-none false name e f n = ap (λ (t : List ℕ). (t, judged 4 fresh (judged 3 false r))) (sym n) ∙ ap (λ (q : Rest). (name, q)) (sym (left false (ap is_some e)))

pub returns-in-Some : goal.returns-in-Some
returns-in-Some c =
    let names = reading c.args.names.now in
    let t = c.in_ok-token.token.now in
    ap (λ o. o >>= λ t. Some (declared_name names t.0 t.1)) c.in_ok-token.ensures.read
    ∙ ap (λ (p : List ℕ × Rest). Some p)
    (declared-some t c.token.new.self c.judge.new.self c.judge-2.new.self c.name_of-name.result c.is_some.result (is_none (names.find t)) c.is_none.result
    c.judge.ensures c.judge-2.ensures c.is_some.ensures (none-of c.find.result c.is_none.result c.is_none.ensures ∙ ap is_none c.find.ensures)
    (is_name t) c.in-Some.name c.name_of-name.ensures c.in-Some.is)

pub returns-in-None : goal.returns-in-None
returns-in-None c =
    let names = reading c.args.names.now in
    let t = c.in_ok-token.token.now in
    ap (λ o. o >>= λ t. Some (declared_name names t.0 t.1)) c.in_ok-token.ensures.read
    ∙ ap (λ (p : List ℕ × Rest). Some p)
    (declared-none t c.token.new.self c.judge.new.self c.judge-2.new.self c.name_of-name.result c.is_some.result (is_none (names.find t)) c.is_none.result
    c.judge.ensures c.judge-2.ensures c.is_some.ensures (none-of c.find.result c.is_none.result c.is_none.ensures ∙ ap is_none c.find.ensures)
    (is_name t) c.no_name.result c.name_of-name.ensures c.in-None.is c.no_name.ensures)
