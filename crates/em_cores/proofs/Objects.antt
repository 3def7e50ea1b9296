-- The object of an open context stays what it is: its operation stays as it began.
use Rattle.std.proofs.Common.{◌≡◌, ℕ, List, [], ◌∷◌, Option, Some, None, refl, sym, ap, ◌∙◌}
use Rattle.std.specs.Option.{option_and_then}
use Rattle.em_log.specs.declared.declarations.Declarations.{Declarations}
use Rattle.em_log.specs.declared.entry.Body.{Body}
use Rattle.em_log.specs.declared.entry.Entry.{Entry}
use Rattle.em_log.specs.declared.entry.What.{What}
use Rattle.em_log.specs.declared.ids.Limits.{Limits}
use Rattle.em_log.specs.Contexts.{context, object_begun, body_object, operation_object, object_in}
use Rattle.em_log.specs.History.{Past, onto}
use Rattle.em_log.specs.Lawful.{AllAllowed}
use Rattle.em_log.specs.Operations.{Operation, operation}
use Rattle.em_moments.proofs.Moments.{allowed-moment}
use Rattle.em_laws.proofs.Begun.{begun-kept}
use Rattle.em_laws.proofs.Cores.{some-inj}
use Rattle.em_laws.proofs.Steps.{InStep, InBoot, InGlobalStart, InLocalStart, InLocalStop, InGlobalStop, always-here, contexts, Contexts}
use Rattle.em_cores.proofs.Onto.{allowed-before}

-- the operation of a context
abbrev pub body_operation : Body → Option ℕ
body_operation Body.Boot = None
body_operation (Body.GlobalStart op) = Some op.0
body_operation (Body.LocalStart op) = Some op.0
body_operation (Body.LocalStop op) = Some op.0
body_operation (Body.GlobalStop op) = Some op.0

object-of : (past : Past) (b : Body) → body_object past b ≡ option_and_then (operation_object past) (body_operation b)
object-of past Body.Boot = refl
object-of past (Body.GlobalStart op) = refl
object-of past (Body.LocalStart op) = refl
object-of past (Body.LocalStop op) = refl
object-of past (Body.GlobalStop op) = refl

at-number : (past : Past) (m n : ℕ) (o : Operation) (b : Option ℕ) → operation past m ≡ Some o → b ≡ Some m → b ≡ Some n
    → (p : Operation) × (operation past n ≡ Some p)
at-number past m n o b is first second = let same : m ≡ n = some-inj m n (sym first ∙ second) in (o, ap (operation past) (sym same) ∙ is)

-- the operation of an open context has begun
pub step-begun : (k : Declarations) (past : Past) (c : ℕ) (b : Body) (n : ℕ) → InStep k past c b → body_operation b ≡ Some n
    → (o : Operation) × (operation past n ≡ Some o)
step-begun k past c b n (InBoot e) has = absurd (cc (ap body_operation e, has))
step-begun k past c b n (InGlobalStart m o x e is job none core) has = at-number past m n o (body_operation b) is (ap body_operation e) has
step-begun k past c b n (InLocalStart m o x e is job done un) has = at-number past m n o (body_operation b) is (ap body_operation e) has
step-begun k past c b n (InLocalStop m o x e is job un) has = at-number past m n o (body_operation b) is (ap body_operation e) has
step-begun k past c b n (InGlobalStop m o x e is job none all last) has = at-number past m n o (body_operation b) is (ap body_operation e) has

-- an operation stays as it began
pub begun-stays : (k : Declarations) (l : Limits) (es : List Entry) (past : Past) → AllAllowed k l (onto es past) → (n : ℕ) (o : Operation)
    → operation past n ≡ Some o → operation (onto es past) n ≡ Some o
begun-stays k l [] past all n o is = is
begun-stays k l (e ∷ es) past all n o is =
    let ok : AllAllowed k l (e ∷ past) = allowed-before k l es (e ∷ past) all in
    begun-stays k l es (e ∷ past) all n o (begun-kept k l past e.core.0 e.what n o ok.1 (allowed-moment k l past e ok.1 ok.0) is)

module _ (k : Declarations) (l : Limits) (es : List Entry) (past : Past) (all : AllAllowed k l (onto es past)) where
  operation-kept : (n : ℕ) (o : Operation) → operation past n ≡ Some o → operation_object (onto es past) n ≡ operation_object past n
  operation-kept n o is =
      ap (option_and_then (λ (p : Operation). object_in p.job)) (begun-stays k l es past all n o is ∙ sym is)

  step-kept : (c : ℕ) (b : Body) → InStep k past c b → body_object (onto es past) b ≡ body_object past b
  step-kept c b in_step = object-of (onto es past) b ∙ by_operation (body_operation b) refl ∙ sym (object-of past b)
    where
      by_operation : (o : Option ℕ) → body_operation b ≡ o
          → option_and_then (operation_object (onto es past)) o ≡ option_and_then (operation_object past) o
      by_operation None is = refl
      by_operation (Some n) is = let begun = step-begun k past c b n in_step is in operation-kept n begun.0 begun.1

  -- the object of core c's open context, whichever entries came
  pub begun-object-stays : (c : ℕ) → object_begun k (onto es past) (context past c) ≡ object_begun k past (context past c)
  begun-object-stays c = by_context (context past c) refl
    where
      by_context : (o : Option What) → context past c ≡ o → object_begun k (onto es past) o ≡ object_begun k past o
      by_context (Some (What.Enter b)) is =
          let before : AllAllowed k l past = allowed-before k l es past all in
          let stand : Contexts k past = always-here (Contexts k) past (contexts k l past before) in
          step-kept c b (stand.steps c b is)
      by_context o is = refl
