-- The laws of words that stand in tables.
use Rattle.std.proofs.Common.{◌≡◌, ℕ, Bool, true, false, ◌&&◌, cond, ltb, List, [], ◌∷◌, length, Option, Some, refl, ap, ◌∙◌, inl, inr, ◌⊎◌, ltb-true}
use Rattle.std.specs.List.{AllByRecursion}
use Rattle.std.specs.Prelude.{bytes_eq}
use Rattle.std.proofs.lemmas.Slice.Eq.{bytes_eq-Decides}
use Rattle.em_script.specs.Form.{◌>>=◌, token_at, lookup, one_of}
use Rattle.em_script.specs.declared.words.BodyWord.{BodyWord}
use Rattle.em_script.specs.declared.words.BodyWord.TheVariants as body
use Rattle.em_script.specs.Words.{body_words, body_text, body_word}
use Rattle.em_script.proofs.Binds.{some-is, bind-some}
use Rattle.em_script.proofs.Forms.{kept, IsPlain, IsVisible, IsForm, Any, and-true}
use Rattle.em_script.proofs.NumberForms.{token-again, token-took}

-- a test that computes
abbrev pub are_plain : List ℕ → Bool
are_plain [] = true
are_plain (b ∷ bs) = ltb 32 b && ltb b 127 && are_plain bs

all-plain : (bs : List ℕ) → are_plain bs ≡ true → AllByRecursion IsVisible bs
all-plain [] e = tt
all-plain (b ∷ bs) e =
    let p = and-true (ltb 32 b && ltb b 127) (are_plain bs) e in
    let q = and-true (ltb 32 b) (ltb b 127) p.0 in
    ((ltb-true 32 b q.0, ltb-true b 127 q.1), all-plain bs p.1)

pub plain-word : (word : List ℕ) → are_plain word ≡ true → ltb 0 (length word) ≡ true → IsPlain word
plain-word word e some = (ltb-true 0 (length word) some, all-plain word e)

-- what a table says of a word that is found holds of its entry
found-chosen : {A : Type 0} (b : Bool) (x y : A) (o : Option A) → cond b (Some x) o ≡ Some y → ((b ≡ true) × (x ≡ y)) ⊎ (o ≡ Some y)
found-chosen true x y o e = inl (refl, cc)
found-chosen false x y o e = inr e

pub lookup-named : {A : Type 0} (table : List (List ℕ × A)) (word : A → List ℕ) → AllByRecursion (λ p. p.0 ≡ word p.1) table → (w : List ℕ) (x : A) → lookup w table ≡ Some x → w ≡ word x
lookup-named [] word named w x e = absurd cc
lookup-named (p ∷ ps) word named w x e =
    elim (found-chosen (bytes_eq w p.0) p.1 x (lookup w ps) e) [
      | inl c ↦ (bytes_eq-Decides w p.0).0 c.0 ∙ named.0 ∙ ap word c.1
      | inr more ↦ lookup-named ps word named.1 w x more
    ]

-- each word of a table is that of its entry, and the table has each entry
pub record IsTable {A : Type 0} (table : List (List ℕ × A)) (word : A → List ℕ) : Type 0 where
  pub found : (x : A) → lookup (word x) table ≡ Some x
  pub named : AllByRecursion (λ p. p.0 ≡ word p.1) table
  pub plain : (x : A) → IsPlain (word x)

pub one_of-form : {A : Type 0} (table : List (List ℕ × A)) (word : A → List ℕ) → IsTable table word → IsForm (one_of table word) (λ _. Unit {0}) Any
one_of-form table word t = record {
  again = λ x fits more ends. rw (token-again (word x) more, t.found x) refl;
  took = λ s x s' e w.
      let k = bind-some (token_at s) (λ t. lookup t.0 table >>= λ x. Some (x, t.1)) (x, s') e in
      let y = bind-some (lookup k.0.0 table) (λ x. Some (x, k.0.1)) (x, s') k.2 in
      let same = some-is (y.0, k.0.1) (x, s') y.2 in
      let rest : k.0.1 ≡ s' = ap (λ q. q.1) same in
      let x-is : y.0 ≡ x = ap (λ q. q.0) same in
      let f = token-took s k.0.0 k.0.1 k.1 in
      let spelled : k.0.0 ≡ word x = lookup-named table word t.named k.0.0 y.0 y.1 ∙ ap word x-is in
      record { tokens = f.0 ∙ (λ i. spelled i ∷ (rest i).tokens); well = kept (f.1 ∙ ap (λ r. r.rule) rest) w; fits = tt; ends = tt };
  plain = λ x fits. (t.plain x, tt);
}

-- ---- words of a body

body-found : (w : BodyWord) → lookup (body_text w) body_words ≡ Some w
body-found body.Set = refl
body-found body.If = refl
body-found body.Else = refl
body-found body.End = refl
body-found body.Repeat = refl
body-found body.Cell = refl
body-found body.Say = refl
body-found body.Alloc = refl
body-found body.Free = refl
body-found body.Keep = refl
body-found body.Send = refl
body-found body.SendG = refl
body-found body.Claim = refl
body-found body.Dequeue = refl
body-found body.Enable = refl
body-found body.Disable = refl
body-found body.EndAtomic = refl
body-found body.EndOrdered = refl
body-found body.EndGroup = refl
body-found body.Apply = refl
body-found body.Increment = refl
body-found body.Abort = refl
body-found body.Start = refl
body-found body.Stop = refl
body-found body.Modify = refl
body-found body.Fail = refl

body-plain : (w : BodyWord) → IsPlain (body_text w)
body-plain body.Set = plain-word (body_text body.Set) refl refl
body-plain body.If = plain-word (body_text body.If) refl refl
body-plain body.Else = plain-word (body_text body.Else) refl refl
body-plain body.End = plain-word (body_text body.End) refl refl
body-plain body.Repeat = plain-word (body_text body.Repeat) refl refl
body-plain body.Cell = plain-word (body_text body.Cell) refl refl
body-plain body.Say = plain-word (body_text body.Say) refl refl
body-plain body.Alloc = plain-word (body_text body.Alloc) refl refl
body-plain body.Free = plain-word (body_text body.Free) refl refl
body-plain body.Keep = plain-word (body_text body.Keep) refl refl
body-plain body.Send = plain-word (body_text body.Send) refl refl
body-plain body.SendG = plain-word (body_text body.SendG) refl refl
body-plain body.Claim = plain-word (body_text body.Claim) refl refl
body-plain body.Dequeue = plain-word (body_text body.Dequeue) refl refl
body-plain body.Enable = plain-word (body_text body.Enable) refl refl
body-plain body.Disable = plain-word (body_text body.Disable) refl refl
body-plain body.EndAtomic = plain-word (body_text body.EndAtomic) refl refl
body-plain body.EndOrdered = plain-word (body_text body.EndOrdered) refl refl
body-plain body.EndGroup = plain-word (body_text body.EndGroup) refl refl
body-plain body.Apply = plain-word (body_text body.Apply) refl refl
body-plain body.Increment = plain-word (body_text body.Increment) refl refl
body-plain body.Abort = plain-word (body_text body.Abort) refl refl
body-plain body.Start = plain-word (body_text body.Start) refl refl
body-plain body.Stop = plain-word (body_text body.Stop) refl refl
body-plain body.Modify = plain-word (body_text body.Modify) refl refl
body-plain body.Fail = plain-word (body_text body.Fail) refl refl

body-named : AllByRecursion (λ p. p.0 ≡ body_text p.1) body_words
body-named = (refl, (refl, (refl, (refl, (refl, (refl, (refl, (refl, (refl, (refl, (refl, (refl, (refl, (refl, (refl, (refl, (refl, (refl, (refl, (refl, (refl, (refl, (refl, (refl, (refl, (refl, tt))))))))))))))))))))))))))

pub body_word-form : IsForm body_word (λ _. Unit {0}) Any
body_word-form = one_of-form body_words body_text (record { found = body-found; named = body-named; plain = body-plain })
