-- Markup behind markup is markup.
use Rattle.std.proofs.Common.{◌≡◌, ℕ, List, [], ◌++◌, Bool, true, false, if◌then◌else◌, refl, sym, ap, subst, ◌∙◌, append_assoc, append-nil}
use Rattle.std.proofs.Math.Logic.{∥∥₁_map, ∥∥₁_map₂}
use Rattle.em_view.specs.declared.tag.Tag.{Tag}
use Rattle.em_view.specs.declared.tag.Tag.TheVariants as tags
use Rattle.em_view.specs.Markup.{Content, Nothing, Text, Element, IsContent, IsPage, element, escaped, spelling}

abbrev behind : Content → Content → Content
behind Nothing more = more
behind (Text text rest) more = Text text (behind rest more)
behind (Element tag inner rest) more = Element tag inner (behind rest more)

spelling-behind : (first more : Content) → spelling (behind first more) ≡ spelling first ++ spelling more
unfolding spelling
spelling-behind Nothing more = refl
spelling-behind (Text text rest) more =
    ap (λ bs. escaped text ++ bs) (spelling-behind rest more) ∙ sym (append_assoc (escaped text) (spelling rest) (spelling more))
spelling-behind (Element tag inner rest) more =
    ap (λ bs. element tag (spelling inner) ++ bs) (spelling-behind rest more)
    ∙ sym (append_assoc (element tag (spelling inner)) (spelling rest) (spelling more))

pub nothing-formed : ∥ IsContent [] ∥₁
unfolding spelling
nothing-formed = ∣ (Nothing, refl) ∣₁

pub both-formed : (first more : List ℕ) → ∥ IsContent first ∥₁ → ∥ IsContent more ∥₁ → ∥ IsContent (first ++ more) ∥₁
both-formed first more a b =
    ∥∥₁_map₂ a b (λ p q. (behind p.0 q.0, ap (λ bs. bs ++ more) p.1 ∙ ap (λ bs. spelling p.0 ++ bs) q.1 ∙ sym (spelling-behind p.0 q.0)))

-- what was put behind it, or nothing, where memory ran out
pub put-formed : (old new more : List ℕ) (ok : Bool) → ∥ IsContent old ∥₁ → ∥ IsContent more ∥₁ → new ≡ (if ok then old ++ more else old)
    → ∥ IsContent new ∥₁
put-formed old new more true formed more_formed is =
    subst (λ (bs : List ℕ). ∥ IsContent bs ∥₁) (sym is) (both-formed old more formed more_formed)
put-formed old new more false formed more_formed is = subst (λ (bs : List ℕ). ∥ IsContent bs ∥₁) (sym is) formed

pub text-formed : (text : List ℕ) → ∥ IsContent (escaped text) ∥₁
unfolding spelling
text-formed text = ∣ (Text text Nothing, sym (append-nil (escaped text))) ∣₁

pub element-formed : (tag : Tag) (inner : List ℕ) → ∥ IsContent inner ∥₁ → ∥ IsContent (element tag inner) ∥₁
unfolding spelling
element-formed tag inner formed =
    ∥∥₁_map formed (λ p. (Element tag p.0 Nothing, ap (λ bs. element tag bs) p.1 ∙ sym (append-nil (element tag (spelling p.0)))))

pub page-formed : (width height : ℕ) (inner bytes : List ℕ) → ∥ IsContent inner ∥₁ → bytes ≡ element (tags.Page width height) inner → IsPage bytes
page-formed width height inner bytes formed is =
    ∥∥₁_map formed (λ p. record {
      width = width;
      height = height;
      content = p.0;
      spelled = is ∙ ap (λ bs. element (tags.Page width height) bs) p.1;
    })
