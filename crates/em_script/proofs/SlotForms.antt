-- The laws of names that are declared, of the words in slots, and of what may end a line.
use Rattle.std.proofs.Common.{◌≡◌, ◌≤◌, ℕ, Bool, true, false, ◌&&◌, cond, List, [], ◌∷◌, ◌++◌, length, Option, Some, None, refl, sym, ap, subst, ◌∙◌, arith, append-nil}
use Rattle.std.specs.List.{AllByRecursion, list_all}
use Rattle.std.specs.Prelude.{is_none, nat_le, not, codes}
use Rattle.std.proofs.lemmas.Bool.Decides.{nat_tests}
use Rattle.em_log.specs.Names.{is_name, is_name_byte, is_letter, is_reserved, begins_well}
use Rattle.em_log.specs.declared.graph.Priority.{Priority}
use Rattle.em_log.specs.declared.graph.Priority.TheVariants as priorities
use Rattle.em_log.specs.declared.ids.Kind.{Kind}
use Rattle.em_log.specs.declared.ids.Kind.TheVariants as kinds
use Rattle.em_script.specs.declared.line.Part.{Part}
use Rattle.em_script.specs.declared.line.Part.TheVariants as parts
use Rattle.em_script.specs.declared.line.Membership.{Membership}
use Rattle.em_script.specs.declared.line.Membership.TheVariants as memberships
use Rattle.em_script.specs.declared.words.TopWord.{TopWord}
use Rattle.em_script.specs.declared.words.TopWord.TheVariants as top
use Rattle.em_script.specs.declared.named.Named.TheVariants as named
use Rattle.em_script.specs.Lines.{Rest}
use Rattle.em_script.specs.Names.{Naming}
use Rattle.em_script.specs.Words.{top_words, top_text, top_word, priority_words, priority_text, priority, part_words, part_text, part, kind_words, kind_text, kind}
use Rattle.em_script.specs.Form.{◌>>=◌, Form, given, ◌▷◌, ended, flag, token_at, lookup, is_at, is_over, is_followed, skip, judged, declared_name, new_name, group_name, agroup_name}
use Rattle.em_script.specs.Declarations.{membership}
use Rattle.em_script.proofs.Ascii.{both}
use Rattle.em_script.proofs.Binds.{some-is, bind-some, given-some}
use Rattle.em_script.proofs.Forms.{kept, IsPlain, IsVisible, well_rest, Took, IsForm, Any, Nothing, All-append, judged-met, ended-form, is_at-same, skip-same, is_at-skip, skip-well}
use Rattle.em_script.proofs.NumberForms.{token-again, token-took}
use Rattle.em_script.proofs.WordForms.{plain-word, one_of-form}
use Rattle.em_script.proofs.NameForms.{IsKnown, IsNaming, group_name-form, agroup_name-form}
use Rattle.em_script.proofs.Follows.{is_at-followed}

-- ---- names that are declared

name_byte-visible : (b : ℕ) → is_name_byte b ≡ true → IsVisible b
name_byte-visible b e = (grind (arith, nat_tests), grind (arith, nat_tests))

letter-visible : (b : ℕ) → is_letter b ≡ true → IsVisible b
letter-visible b e = (grind (arith, nat_tests), grind (arith, nat_tests))

bytes-visible : (bs : List ℕ) → list_all is_name_byte bs ≡ true → AllByRecursion IsVisible bs
bytes-visible [] all = tt
bytes-visible (b ∷ bs) all =
    let p = both (is_name_byte b) (list_all is_name_byte bs) all in
    (name_byte-visible b p.0, bytes-visible bs p.1)

begins-plain : (text : List ℕ) → begins_well text ≡ true → IsPlain text
begins-plain [] well = absurd cc
begins-plain (b ∷ bs) well =
    let p = both (is_letter b) (list_all is_name_byte bs) well in
    (omega arith, (letter-visible b p.0, bytes-visible bs p.1))

pub name-plain : (text : List ℕ) → is_name text ≡ true → IsPlain text
name-plain text name =
    let p = both (begins_well text && nat_le (length text) 16) (not (is_reserved text)) name in
    begins-plain text (both (begins_well text) (nat_le (length text) 16) p.0).0

none-is : {A : Type 0} (o : Option A) → is_none o ≡ true → o ≡ None
none-is None e = refl
none-is (Some x) e = absurd cc

declared-again : (good fresh : Bool) (token : List ℕ) (r : Rest) → good ≡ true → fresh ≡ true → ◌≡◌ {A = List ℕ × Rest} (cond good token [], judged 4 fresh (judged 3 good r)) (token, r)
declared-again true true token r g f = refl
declared-again true false token r g f = absurd cc
declared-again false fresh token r g f = absurd cc

declared-took : (good fresh : Bool) (token : List ℕ) (r : Rest) (x : List ℕ) (s' : Rest) → ◌≡◌ {A = List ℕ × Rest} (cond good token [], judged 4 fresh (judged 3 good r)) (x, s') → 12 ≤ s'.rule → (good ≡ true) × (fresh ≡ true) × (token ≡ x) × (12 ≤ r.rule) × (r.tokens ≡ s'.tokens)
declared-took good fresh token r x s' e w =
    let a = judged-met 4 fresh (judged 3 good r) s' (omega arith) (ap (λ (q : List ℕ × Rest). q.1) e) w in
    let b = judged-met 3 good r (judged 3 good r) (omega arith) refl a.1 in
    let same : token ≡ x = (rw b.0 at (ap (λ (q : List ℕ × Rest). q.0) e)) in
    (b.0, a.0, same, b.1, b.2 ∙ a.2)

-- a name that may be given, and that stands for nothing yet
pub record IsFree (names : Naming) (name : List ℕ) : Type 0 where
  pub name-is : is_name name ≡ true
  pub unused : names.find name ≡ None

pub new_name-form : (names : Naming) → IsForm (new_name names) (IsFree names) Any
new_name-form names = record {
  again = λ name free more ends.
      ap (λ o. o >>= λ t. Some (declared_name names t.0 t.1)) (token-again name more)
      ∙ ap (λ (q : List ℕ × Rest). Some q) (declared-again (is_name name) (is_none (names.find name)) name (well_rest more) free.name-is (ap is_none free.unused));
  took = λ s x s' e w.
      let t = bind-some (token_at s) (λ t. Some (declared_name names t.0 t.1)) (x, s') e in
      let k = declared-took (is_name t.0.0) (is_none (names.find t.0.0)) t.0.0 t.0.1 x s' (some-is (declared_name names t.0.0 t.0.1) (x, s') t.2) w in
      let f = token-took s t.0.0 t.0.1 t.1 in
      let spelled = k.2 in
      let rest = k.4 in
      record {
        tokens = f.0 ∙ (λ i. spelled i ∷ rest i);
        well = kept f.1 k.3;
        fits = subst (IsFree names) spelled (record { name-is = k.0; unused = none-is (names.find t.0.0) k.1 });
        ends = tt;
      };
  plain = λ name free. (name-plain name free.name-is, tt);
}

-- ---- words

top-found : (x : TopWord) → lookup (top_text x) top_words ≡ Some x
top-found top.Cores = refl
top-found top.Pool = refl
top-found top.Group = refl
top-found top.Eo = refl
top-found top.Agroup = refl
top-found top.Queue = refl
top-found top.Egroup = refl
top-found top.Boot = refl
top-found top.Error = refl
top-found top.Body = refl
top-found top.Done = refl

top-plain : (x : TopWord) → IsPlain (top_text x)
top-plain top.Cores = plain-word (top_text top.Cores) refl refl
top-plain top.Pool = plain-word (top_text top.Pool) refl refl
top-plain top.Group = plain-word (top_text top.Group) refl refl
top-plain top.Eo = plain-word (top_text top.Eo) refl refl
top-plain top.Agroup = plain-word (top_text top.Agroup) refl refl
top-plain top.Queue = plain-word (top_text top.Queue) refl refl
top-plain top.Egroup = plain-word (top_text top.Egroup) refl refl
top-plain top.Boot = plain-word (top_text top.Boot) refl refl
top-plain top.Error = plain-word (top_text top.Error) refl refl
top-plain top.Body = plain-word (top_text top.Body) refl refl
top-plain top.Done = plain-word (top_text top.Done) refl refl

top-named : AllByRecursion (λ p. p.0 ≡ top_text p.1) top_words
top-named = (refl, (refl, (refl, (refl, (refl, (refl, (refl, (refl, (refl, (refl, (refl, tt)))))))))))

pub top_word-form : IsForm top_word (λ _. Unit {0}) Any
top_word-form = one_of-form top_words top_text (record { found = top-found; named = top-named; plain = top-plain })

priority-found : (x : Priority) → lookup (priority_text x) priority_words ≡ Some x
priority-found priorities.Lowest = refl
priority-found priorities.Low = refl
priority-found priorities.Normal = refl
priority-found priorities.High = refl
priority-found priorities.Highest = refl

priority-plain : (x : Priority) → IsPlain (priority_text x)
priority-plain priorities.Lowest = plain-word (priority_text priorities.Lowest) refl refl
priority-plain priorities.Low = plain-word (priority_text priorities.Low) refl refl
priority-plain priorities.Normal = plain-word (priority_text priorities.Normal) refl refl
priority-plain priorities.High = plain-word (priority_text priorities.High) refl refl
priority-plain priorities.Highest = plain-word (priority_text priorities.Highest) refl refl

priority-named : AllByRecursion (λ p. p.0 ≡ priority_text p.1) priority_words
priority-named = (refl, (refl, (refl, (refl, (refl, tt)))))

pub priority-form : IsForm priority (λ _. Unit {0}) Any
priority-form = one_of-form priority_words priority_text (record { found = priority-found; named = priority-named; plain = priority-plain })

part-found : (x : Part) → lookup (part_text x) part_words ≡ Some x
part-found parts.Receive = refl
part-found parts.Start = refl
part-found parts.Stop = refl
part-found parts.LocalStart = refl
part-found parts.LocalStop = refl
part-found parts.Error = refl

part-plain : (x : Part) → IsPlain (part_text x)
part-plain parts.Receive = plain-word (part_text parts.Receive) refl refl
part-plain parts.Start = plain-word (part_text parts.Start) refl refl
part-plain parts.Stop = plain-word (part_text parts.Stop) refl refl
part-plain parts.LocalStart = plain-word (part_text parts.LocalStart) refl refl
part-plain parts.LocalStop = plain-word (part_text parts.LocalStop) refl refl
part-plain parts.Error = plain-word (part_text parts.Error) refl refl

part-named : AllByRecursion (λ p. p.0 ≡ part_text p.1) part_words
part-named = (refl, (refl, (refl, (refl, (refl, (refl, tt))))))

pub part-form : IsForm part (λ _. Unit {0}) Any
part-form = one_of-form part_words part_text (record { found = part-found; named = part-named; plain = part-plain })

kind-found : (x : Kind) → lookup (kind_text x) kind_words ≡ Some x
kind-found kinds.Atomic = refl
kind-found kinds.Parallel = refl
kind-found kinds.Ordered = refl
kind-found kinds.Local = refl
kind-found kinds.Unscheduled = refl
kind-found kinds.Output = refl

kind-plain : (x : Kind) → IsPlain (kind_text x)
kind-plain kinds.Atomic = plain-word (kind_text kinds.Atomic) refl refl
kind-plain kinds.Parallel = plain-word (kind_text kinds.Parallel) refl refl
kind-plain kinds.Ordered = plain-word (kind_text kinds.Ordered) refl refl
kind-plain kinds.Local = plain-word (kind_text kinds.Local) refl refl
kind-plain kinds.Unscheduled = plain-word (kind_text kinds.Unscheduled) refl refl
kind-plain kinds.Output = plain-word (kind_text kinds.Output) refl refl

kind-named : AllByRecursion (λ p. p.0 ≡ kind_text p.1) kind_words
kind-named = (refl, (refl, (refl, (refl, (refl, (refl, tt))))))

pub kind-form : IsForm kind (λ _. Unit {0}) Any
kind-form = one_of-form kind_words kind_text (record { found = kind-found; named = kind-named; plain = kind-plain })

-- ---- the last of a line

-- What is written at the end of a line is read again; and what is read was written so.
pub record IsLast {A : Type 0} (f : Form A) (Fits : A → Type 0) : Type 0 where
  pub again : (x : A) → Fits x → f.read (well_rest (f.write x)) ≡ Some (x, well_rest [])
  pub took : (s : Rest) (x : A) (s' : Rest) → f.read s ≡ Some (x, s') → 12 ≤ s'.rule → Took f Fits Any s x s'
  pub plain : (x : A) → Fits x → AllByRecursion IsPlain (f.write x)

over-none : is_over (well_rest []) ≡ true
unfolding is_over
over-none = refl

pub last-form : {A : Type 0} (f : Form A) (F : A → Type 0) → IsLast f F → IsForm (f ▷ ended) (λ p. F p.0 × Unit {0}) Nothing
last-form {A = A} f F a = record {
  again = λ p fits more ends. rw (ends, append-nil (f.write p.0), append-nil (f.write p.0), a.again p.0 fits.0, over-none) refl;
  took = λ s p s' e w.
      let x = bind-some (f.read s) (λ x. ended.read x.1 >>= λ y. Some ((x.0, y.0), y.1)) (p, s') e in
      let y = bind-some (ended.read x.0.1) (λ y. Some ((x.0.0, y.0), y.1)) (p, s') x.2 in
      let same = some-is ((x.0.0, y.0.0), y.0.1) (p, s') y.2 in
      let second = ended-form.took x.0.1 y.0.0 y.0.1 y.1 (kept (ap (λ (q : (A × Unit {0}) × Rest). q.1.rule) same) w) in
      let first = a.took s x.0.0 x.0.1 x.1 second.well in
      let tokens : s.tokens ≡ (f.write x.0.0 ++ []) ++ y.0.1.tokens = first.tokens ∙ ap (λ ts. f.write x.0.0 ++ ts) second.tokens ∙ ap (λ ts. ts ++ y.0.1.tokens) (sym (append-nil (f.write x.0.0))) in
      subst (λ (q : (A × Unit {0}) × Rest). Took (f ▷ ended) (λ p. F p.0 × Unit {0}) Nothing s q.0 q.1) same (record { tokens = tokens; well = first.well; fits = (first.fits, tt); ends = second.ends });
  plain = λ p fits. All-append IsPlain (f.write p.0) [] (a.plain p.0 fits.0) tt;
}

at-none : (word : List ℕ) → is_at word (well_rest []) ≡ false
unfolding is_at
at-none word = refl

flag-again : (word : List ℕ) (b : Bool) → (flag word).read (well_rest ((flag word).write b)) ≡ Some (b, well_rest [])
flag-again word true = rw (is_at-same word [], skip-same word []) refl
flag-again word false = rw (at-none word) refl

flag-took : (word : List ℕ) (s : Rest) (x : Bool) (s' : Rest) (at : Bool) → is_at word s ≡ at → cond {A = Option (Bool × Rest)} at (Some (true, skip s)) (Some (false, s)) ≡ Some (x, s') → 12 ≤ s'.rule → Took (flag word) (λ _. Unit {0}) Any s x s'
flag-took word s x s' true t e w =
    let same = some-is (true, skip s) (x, s') e in
    subst (λ (q : Bool × Rest). Took (flag word) (λ _. Unit {0}) Any s q.0 q.1) same (record { tokens = is_at-skip word s t; well = kept (sym (skip-well s) ∙ ap (λ (q : Bool × Rest). q.1.rule) same) w; fits = tt; ends = tt })
flag-took word s x s' false t e w =
    let same = some-is (false, s) (x, s') e in
    subst (λ (q : Bool × Rest). Took (flag word) (λ _. Unit {0}) Any s q.0 q.1) same (record { tokens = refl; well = kept (ap (λ (q : Bool × Rest). q.1.rule) same) w; fits = tt; ends = tt })

flag-plain : (word : List ℕ) → IsPlain word → (b : Bool) → AllByRecursion IsPlain ((flag word).write b)
flag-plain word p true = (p, tt)
flag-plain word p false = tt

pub flag-last : (word : List ℕ) → IsPlain word → IsLast (flag word) (λ _. Unit {0})
flag-last word p = record { again = λ b fits. flag-again word b; took = λ s x s' e w. flag-took word s x s' (is_at word s) refl e w; plain = λ b fits. flag-plain word p b }

-- ---- where a queue belongs

abbrev pub MembershipFits : Naming → Membership → Type 0
MembershipFits names (memberships.Group g) = IsKnown names (named.Group g)
MembershipFits names (memberships.Agroup a) = IsKnown names (named.Agroup a)

and-false : (a b : Bool) → b ≡ false → (a && b) ≡ false
and-false true b e = e
and-false false b e = refl

over-one : (token : List ℕ) → is_over (skip (well_rest (token ∷ []))) ≡ true
unfolding is_over skip
over-one token = refl

over-two : (word token : List ℕ) → is_over (skip (well_rest (word ∷ token ∷ []))) ≡ false
unfolding is_over skip
over-two word token = refl

alone : (word token : List ℕ) → is_followed word (well_rest (token ∷ [])) ≡ false
unfolding is_followed
alone word token = and-false (is_at word (well_rest (token ∷ []))) (not (is_over (skip (well_rest (token ∷ []))))) (ap not (over-one token))

followed : (word token : List ℕ) → is_followed word (well_rest (word ∷ token ∷ [])) ≡ true
unfolding is_followed
followed word token = rw (is_at-same word (token ∷ []), over-two word token) refl

membership-again : (names : Naming) (is : IsNaming names) (m : Membership) → MembershipFits names m → (membership names).read (well_rest ((membership names).write m)) ≡ Some (m, well_rest [])
membership-again names is (memberships.Group g) fits =
    ap (λ b. cond b (given (λ a. memberships.Agroup a) ((agroup_name names).read (skip (well_rest (names.name (named.Group g) ∷ []))))) (given (λ g. memberships.Group g) ((group_name names).read (well_rest (names.name (named.Group g) ∷ []))))) (alone (codes "in") (names.name (named.Group g)))
    ∙ ap (given (λ g. memberships.Group g)) ((group_name-form names is).again g fits [] tt)
membership-again names is (memberships.Agroup a) fits =
    ap (λ b. cond b (given (λ a. memberships.Agroup a) ((agroup_name names).read (skip (well_rest (codes "in" ∷ names.name (named.Agroup a) ∷ []))))) (given (λ g. memberships.Group g) ((group_name names).read (well_rest (codes "in" ∷ names.name (named.Agroup a) ∷ []))))) (followed (codes "in") (names.name (named.Agroup a)))
    ∙ ap (λ r. given (λ a. memberships.Agroup a) ((agroup_name names).read r)) (skip-same (codes "in") (names.name (named.Agroup a) ∷ []))
    ∙ ap (given (λ a. memberships.Agroup a)) ((agroup_name-form names is).again a fits [] tt)

membership-took : (names : Naming) (is : IsNaming names) (s : Rest) (m : Membership) (s' : Rest) (b : Bool) → is_followed (codes "in") s ≡ b
    → cond b (given (λ a. memberships.Agroup a) ((agroup_name names).read (skip s))) (given (λ g. memberships.Group g) ((group_name names).read s)) ≡ Some (m, s') → 12 ≤ s'.rule → Took (membership names) (MembershipFits names) Any s m s'
membership-took names is s m s' true f e w =
    let g = given-some (λ a. memberships.Agroup a) ((agroup_name names).read (skip s)) m s' e in
    let t = (agroup_name-form names is).took (skip s) g.0 s' g.1 w in
    subst (λ z. Took (membership names) (MembershipFits names) Any s z s') g.2
    (record { tokens = is_at-skip (codes "in") s (is_at-followed (codes "in") s f) ∙ ap (λ ts. codes "in" ∷ ts) t.tokens; well = kept (sym (skip-well s)) t.well; fits = t.fits; ends = tt })
membership-took names is s m s' false f e w =
    let g = given-some (λ g. memberships.Group g) ((group_name names).read s) m s' e in
    let t = (group_name-form names is).took s g.0 s' g.1 w in
    subst (λ z. Took (membership names) (MembershipFits names) Any s z s') g.2 (record { tokens = t.tokens; well = t.well; fits = t.fits; ends = tt })

membership-plain : (names : Naming) → IsNaming names → (m : Membership) → MembershipFits names m → AllByRecursion IsPlain ((membership names).write m)
membership-plain names is (memberships.Group g) fits = (group_name-form names is).plain g fits
membership-plain names is (memberships.Agroup a) fits = (plain-word (codes "in") refl refl, (agroup_name-form names is).plain a fits)

pub membership-last : (names : Naming) → IsNaming names → IsLast (membership names) (MembershipFits names)
membership-last names is = record { again = membership-again names is; took = λ s m s' e w. membership-took names is s m s' (is_followed (codes "in") s) refl e w; plain = membership-plain names is }
