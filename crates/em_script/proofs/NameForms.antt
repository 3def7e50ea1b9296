-- The laws of names that are used, where what is found by a name has that name.
use Rattle.std.proofs.Common.{◌≡◌, ◌≤◌, ℕ, true, List, ◌∷◌, Option, Some, None, is_some, unwrap_or, refl, sym, ap, subst, ◌∙◌, arith}
use Rattle.em_log.specs.declared.ids.PoolId.{PoolId}
use Rattle.em_log.specs.declared.ids.GroupId.{GroupId}
use Rattle.em_log.specs.declared.ids.EoId.{EoId}
use Rattle.em_log.specs.declared.ids.QueueId.{QueueId}
use Rattle.em_log.specs.declared.ids.EventGroupId.{EventGroupId}
use Rattle.em_script.specs.Lines.{Rest}
use Rattle.em_script.specs.declared.named.Named.{Named}
use Rattle.em_script.specs.declared.named.Named.TheVariants as named
use Rattle.em_script.specs.Names.{Naming, as_pool, as_group, as_eo, as_agroup, as_queue, as_egroup}
use Rattle.em_script.specs.Form.{◌>>=◌, token_at, used, used_name, pool_name, group_name, eo_name, agroup_name, queue_name, egroup_name}
use Rattle.em_script.proofs.Binds.{some-is, bind-some}
use Rattle.em_script.proofs.Forms.{kept, IsPlain, IsForm, Any, judged-met}
use Rattle.em_script.proofs.NumberForms.{token-again, token-took}

-- the name of it is found, and means it
abbrev pub IsKnown : Naming → Named → Type 0
IsKnown names x = names.find (names.name x) ≡ Some x

-- what is found by a token has that name; and the names that are found are tokens
pub record IsNaming (names : Naming) : Type 0 where
  pub named : (token : List ℕ) (x : Named) → names.find token ≡ Some x → names.name x ≡ token
  pub plain : (x : Named) → IsKnown names x → IsPlain (names.name x)

some-known : {A : Type 0} (o : Option A) (default : A) → is_some o ≡ true → o ≡ Some (unwrap_or o default)
some-known None default e = absurd cc
some-known (Some x) default e = refl

module _ {A : Type 0} (names : Naming) (is : IsNaming names) (pick : Named → Option A) (back : A → Named) (default : A) (there : (x : A) → pick (back x) ≡ Some x) (only : (y : Named) (x : A) → pick y ≡ Some x → y ≡ back x) where
  used-took : (s : Rest) (x : A) (s' : Rest) (token : List ℕ) (found : Option Named) → names.find token ≡ found → used default (found >>= pick) s ≡ (x, s') → 12 ≤ s'.rule → (token ≡ names.name (back x)) × IsKnown names (back x) × (12 ≤ s.rule) × (s.tokens ≡ s'.tokens)
  used-took s x s' token found f e w =
      let met = judged-met 5 (is_some (found >>= pick)) s s' (omega arith) (ap (λ (q : A × Rest). q.1) e) w in
      let some : (found >>= pick) ≡ Some x = some-known (found >>= pick) default met.0 ∙ ap (λ (q : A × Rest). Some q.0) e in
      let y = bind-some found pick x some in
      let y-is : y.0 ≡ back x = only y.0 x y.2 in
      let found-is : names.find token ≡ Some (back x) = f ∙ y.1 ∙ ap (λ (z : Named). Some z) y-is in
      let spelled : names.name (back x) ≡ token = is.named token (back x) found-is in
      (sym spelled, subst (λ t. names.find t ≡ Some (back x)) (sym spelled) found-is, met.1, met.2)

  pub used-form : IsForm (used_name names pick back default) (λ x. IsKnown names (back x)) Any
  used-form = record {
    again = λ x known more ends. rw (token-again (names.name (back x)) more, known, there x) refl;
    took = λ s x s' e w.
        let t = bind-some (token_at s) (λ t. Some (used default (names.find t.0 >>= pick) t.1)) (x, s') e in
        let same = some-is (used default (names.find t.0.0 >>= pick) t.0.1) (x, s') t.2 in
        let k = used-took t.0.1 x s' t.0.0 (names.find t.0.0) refl same w in
        let f = token-took s t.0.0 t.0.1 t.1 in
        record { tokens = f.0 ∙ (λ i. k.0 i ∷ k.3 i); well = kept f.1 k.2; fits = k.1; ends = tt };
    plain = λ x known. (is.plain (back x) known, tt);
  }

pool-only : (y : Named) (x : PoolId) → as_pool y ≡ Some x → y ≡ named.Pool x
pool-only (named.Pool z) x e = ap (λ (i : PoolId). named.Pool i) (some-is z x e)
pool-only (named.Group z) x e = absurd cc
pool-only (named.Eo z) x e = absurd cc
pool-only (named.Agroup z) x e = absurd cc
pool-only (named.Queue z) x e = absurd cc
pool-only (named.Egroup z) x e = absurd cc

pub pool_name-form : (names : Naming) → IsNaming names → IsForm (pool_name names) (λ id. IsKnown names (named.Pool id)) Any
pool_name-form names is = used-form names is as_pool (λ id. named.Pool id) (record { 0 = 0 }) (λ x. refl) pool-only

group-only : (y : Named) (x : GroupId) → as_group y ≡ Some x → y ≡ named.Group x
group-only (named.Pool z) x e = absurd cc
group-only (named.Group z) x e = ap (λ (i : GroupId). named.Group i) (some-is z x e)
group-only (named.Eo z) x e = absurd cc
group-only (named.Agroup z) x e = absurd cc
group-only (named.Queue z) x e = absurd cc
group-only (named.Egroup z) x e = absurd cc

pub group_name-form : (names : Naming) → IsNaming names → IsForm (group_name names) (λ id. IsKnown names (named.Group id)) Any
group_name-form names is = used-form names is as_group (λ id. named.Group id) (record { 0 = 0 }) (λ x. refl) group-only

eo-only : (y : Named) (x : EoId) → as_eo y ≡ Some x → y ≡ named.Eo x
eo-only (named.Pool z) x e = absurd cc
eo-only (named.Group z) x e = absurd cc
eo-only (named.Eo z) x e = ap (λ (i : EoId). named.Eo i) (some-is z x e)
eo-only (named.Agroup z) x e = absurd cc
eo-only (named.Queue z) x e = absurd cc
eo-only (named.Egroup z) x e = absurd cc

pub eo_name-form : (names : Naming) → IsNaming names → IsForm (eo_name names) (λ id. IsKnown names (named.Eo id)) Any
eo_name-form names is = used-form names is as_eo (λ id. named.Eo id) (record { 0 = 0 }) (λ x. refl) eo-only

queue-only : (y : Named) (x : QueueId) → as_queue y ≡ Some x → y ≡ named.Queue x
queue-only (named.Pool z) x e = absurd cc
queue-only (named.Group z) x e = absurd cc
queue-only (named.Eo z) x e = absurd cc
queue-only (named.Agroup z) x e = absurd cc
queue-only (named.Queue z) x e = ap (λ (i : QueueId). named.Queue i) (some-is z x e)
queue-only (named.Egroup z) x e = absurd cc

pub queue_name-form : (names : Naming) → IsNaming names → IsForm (queue_name names) (λ id. IsKnown names (named.Queue id)) Any
queue_name-form names is = used-form names is as_queue (λ id. named.Queue id) (record { 0 = 0 }) (λ x. refl) queue-only

egroup-only : (y : Named) (x : EventGroupId) → as_egroup y ≡ Some x → y ≡ named.Egroup x
egroup-only (named.Pool z) x e = absurd cc
egroup-only (named.Group z) x e = absurd cc
egroup-only (named.Eo z) x e = absurd cc
egroup-only (named.Agroup z) x e = absurd cc
egroup-only (named.Queue z) x e = absurd cc
egroup-only (named.Egroup z) x e = ap (λ (i : EventGroupId). named.Egroup i) (some-is z x e)

pub egroup_name-form : (names : Naming) → IsNaming names → IsForm (egroup_name names) (λ id. IsKnown names (named.Egroup id)) Any
egroup_name-form names is = used-form names is as_egroup (λ id. named.Egroup id) (record { 0 = 0 }) (λ x. refl) egroup-only

agroup-only : (y : Named) (x : ℕ) → as_agroup y ≡ Some x → y ≡ named.Agroup x
agroup-only (named.Pool z) x e = absurd cc
agroup-only (named.Group z) x e = absurd cc
agroup-only (named.Eo z) x e = absurd cc
agroup-only (named.Agroup z) x e = ap (λ (i : ℕ). named.Agroup i) (some-is z x e)
agroup-only (named.Queue z) x e = absurd cc
agroup-only (named.Egroup z) x e = absurd cc

pub agroup_name-form : (names : Naming) → IsNaming names → IsForm (agroup_name names) (λ n. IsKnown names (named.Agroup n)) Any
agroup_name-form names is = used-form names is as_agroup (λ n. named.Agroup n) 0 (λ x. refl) agroup-only
