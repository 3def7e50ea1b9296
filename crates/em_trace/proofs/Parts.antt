-- The laws of the parts of entries.
use Rattle.std.proofs.Common.{◌≡◌, ℕ, ◌≤◌, Bool, true, false, ◌&&◌, cond, eqb, leb, ltb, List, [], ◌∷◌, ◌++◌, length, Option, Some, None, refl, sym, ap, subst, ◌∙◌, arith, inl, inr, ◌⊎◌, le-leb, leb-true, eqb-true, ltb-true}
use Rattle.std.specs.List.{AllByRecursion}
use Rattle.std.specs.Prelude.{codes, bytes_eq}
use Rattle.em_log.specs.declared.ids.GroupId.{GroupId}
use Rattle.em_log.specs.declared.ids.EoId.{EoId}
use Rattle.em_log.specs.declared.ids.OpId.{OpId}
use Rattle.em_log.specs.declared.ids.EoState.{EoState}
use Rattle.em_log.specs.declared.ids.EoState.TheVariants as states
use Rattle.em_log.specs.declared.ids.Kind.{Kind}
use Rattle.em_log.specs.declared.ids.Kind.TheVariants as queue_kinds
use Rattle.em_log.specs.declared.fault.Fault.{Fault}
use Rattle.em_log.specs.declared.fault.Fault.TheVariants as faults
use Rattle.em_log.specs.declared.fault.Call.{Call}
use Rattle.em_log.specs.declared.fault.Call.TheVariants as calls
use Rattle.em_log.specs.declared.entry.Body.{Body}
use Rattle.em_log.specs.declared.entry.Body.TheVariants as bodies
use Rattle.em_log.specs.declared.entry.Begun.{Begun}
use Rattle.em_log.specs.declared.entry.Begun.TheVariants as begun
use Rattle.em_trace.specs.Form.{Form, number, marked, ◌▷◌, nothing, after, either, times, counted, lookup, is_first}
use Rattle.em_trace.specs.Forms.{u8_form, u32_form, u64_form, core_form, group_form, eo_form, egroup_form, pool_form, queue_form, op_form, handle_form, words_form, content_form, event_form, option_from, option_back, received_form, stamp_form, note_form, notes_form, eight_form, cells_form, bool_from, bool_back, outcome_form, body_from, body_back, body_form, job_from, job_back, job_form, scope_form, word_of_call, call_words, call_form, number_of_kind, kind_of_number, number_of_state, state_of_number, numbers_of_fault, at_most, only_zero, of_kind, of_state, faults_by_number, fault_in, fault_of_numbers, fault_form}
use Rattle.em_trace.specs.Fitting.{IsU8, IsU16, IsU32, IsU64, AreWords, EventFits, StampFits, NoteFits, AreNotes, CellsFit, BodyFits, JobFits, FaultFits}
use Rattle.em_trace.specs.Fitting.{OptionFits}
use Rattle.em_trace.proofs.Forms.{IsPlain, IsForm, Any, SumFits, then-form, mapped-form, nothing-form, after-form, either-form}
use Rattle.em_trace.proofs.Numbers.{number-form, marked-form, decimal-differs}
use Rattle.em_trace.proofs.Binds.{some-is, cond-some, chosen-some, tested}
use Rattle.em_trace.proofs.Several.{times-form, counted-form, one_of-form, checked-form}

abbrev pub is_plain : List ℕ → Bool
is_plain [] = true
is_plain (b ∷ bs) = ltb 32 b && is_plain bs

and-is : (a b : Bool) → (a && b) ≡ true → (a ≡ true) × (b ≡ true)
and-is true b e = (refl, e)
and-is false b e = absurd cc

-- a test that computes
pub plain-word : (word : List ℕ) → is_plain word ≡ true → IsPlain word
plain-word [] e = tt
plain-word (b ∷ bs) e =
    let p = and-is (ltb 32 b) (is_plain bs) e in
    (ltb-true 32 b p.0, plain-word bs p.1)

pub then-law : {A B : Type 0} {f : Form A} {g : Form B} {F : A → Type 0} {G : B → Type 0} {E : List (List ℕ) → Type 0} → IsForm f F Any → IsForm g G E → IsForm (f ▷ g) (λ p. F p.0 × G p.1) E
then-law {f = f} {g = g} {F = F} {G = G} {E = E} a b = then-form f g F G E a b

pub u8-law : IsForm u8_form IsU8 Any
u8-law = number-form 255 (omega arith)

pub u32-law : IsForm u32_form IsU32 Any
u32-law = number-form 4294967295 (omega arith)

pub u64-law : IsForm u64_form IsU64 Any
u64-law = number-form 18446744073709551615 (omega arith)

pub core-law : IsForm core_form (λ id. IsU8 id.0) Any
core-law = mapped-form (λ n. record { 0 = n }) (λ id. id.0) (marked 99 255) IsU8 (λ id. IsU8 id.0) Any (marked-form 99 255 (omega arith) (omega arith)) (λ y h. h) (λ y. refl) (λ x. refl) (λ x h. h)

pub group-law : IsForm group_form (λ id. IsU8 id.0) Any
group-law = mapped-form (λ n. record { 0 = n }) (λ id. id.0) (marked 103 255) IsU8 (λ id. IsU8 id.0) Any (marked-form 103 255 (omega arith) (omega arith)) (λ y h. h) (λ y. refl) (λ x. refl) (λ x h. h)

pub eo-law : IsForm eo_form (λ id. IsU8 id.0) Any
eo-law = mapped-form (λ n. record { 0 = n }) (λ id. id.0) (marked 111 255) IsU8 (λ id. IsU8 id.0) Any (marked-form 111 255 (omega arith) (omega arith)) (λ y h. h) (λ y. refl) (λ x. refl) (λ x h. h)

pub egroup-law : IsForm egroup_form (λ id. IsU8 id.0) Any
egroup-law = mapped-form (λ n. record { 0 = n }) (λ id. id.0) (marked 101 255) IsU8 (λ id. IsU8 id.0) Any (marked-form 101 255 (omega arith) (omega arith)) (λ y h. h) (λ y. refl) (λ x. refl) (λ x h. h)

pub pool-law : IsForm pool_form (λ id. IsU8 id.0) Any
pool-law = mapped-form (λ n. record { 0 = n }) (λ id. id.0) (marked 112 255) IsU8 (λ id. IsU8 id.0) Any (marked-form 112 255 (omega arith) (omega arith)) (λ y h. h) (λ y. refl) (λ x. refl) (λ x h. h)

pub queue-law : IsForm queue_form (λ id. IsU16 id.0) Any
queue-law = mapped-form (λ n. record { 0 = n }) (λ id. id.0) (marked 113 65535) IsU16 (λ id. IsU16 id.0) Any (marked-form 113 65535 (omega arith) (omega arith)) (λ y h. h) (λ y. refl) (λ x. refl) (λ x h. h)

pub op-law : IsForm op_form (λ id. IsU16 id.0) Any
op-law = mapped-form (λ n. record { 0 = n }) (λ id. id.0) (number 65535) IsU16 (λ id. IsU16 id.0) Any (number-form 65535 (omega arith)) (λ y h. h) (λ y. refl) (λ x. refl) (λ x h. h)

pub handle-law : IsForm handle_form (λ id. IsU64 id.0) Any
handle-law = mapped-form (λ n. record { 0 = n }) (λ id. id.0) u64_form IsU64 (λ id. IsU64 id.0) Any u64-law (λ y h. h) (λ y. refl) (λ x. refl) (λ x h. h)

words-law : IsForm words_form AreWords Any
words-law = after-form (codes "words") (counted 16 u64_form) AreWords Any (plain-word (codes "words") refl) (counted-form 16 u64_form IsU64 (omega arith) u64-law)

pub content-law : IsForm content_form (λ p. IsU32 p.0 × AreWords p.1) Any
content-law = then-law (after-form (codes "kind") u32_form IsU32 Any (plain-word (codes "kind") refl) u32-law) words-law

pub event-law : IsForm event_form EventFits Any
event-law = mapped-form (λ p. record { handle = p.0; kind = p.1.0; words = p.1.1 }) (λ e. (e.handle, (e.kind, e.words))) (handle_form ▷ content_form) (λ p. IsU64 p.0.0 × (IsU32 p.1.0 × AreWords p.1.1)) EventFits Any (then-law handle-law content-law) (λ y h. h) (λ y. refl) (λ x. refl) (λ x h. h)

pub stamp-law : IsForm stamp_form StampFits Any
stamp-law = mapped-form (λ p. record { group = p.0; app = p.1 }) (λ s. (s.group, s.app)) (egroup_form ▷ u32_form) (λ p. IsU8 p.0.0 × IsU32 p.1) StampFits Any (then-law egroup-law u32-law) (λ y h. h) (λ y. refl) (λ x. refl) (λ x h. h)

pub note-law : IsForm note_form NoteFits Any
note-law = mapped-form (λ p. record { word = p.0; queue = p.1 }) (λ n. (n.word, n.queue)) (u64_form ▷ queue_form) (λ p. IsU64 p.0 × IsU16 p.1.0) NoteFits Any (then-law u64-law queue-law) (λ y h. h) (λ y. refl) (λ x. refl) (λ x h. h)

pub notes-law : IsForm notes_form AreNotes Any
notes-law = after-form (codes "notes") (counted 8 note_form) AreNotes Any (plain-word (codes "notes") refl) (counted-form 8 note_form NoteFits (omega arith) note-law)

pub eight-law : IsForm eight_form CellsFit Any
eight-law = mapped-form (λ xs. record { 0 = xs }) (λ c. c.0) (times 8 u64_form) (λ xs. (length xs ≡ 8) × AllByRecursion IsU64 xs) CellsFit Any (times-form u64_form IsU64 u64-law 8) (λ y h. h) (λ y. refl) (λ x. refl) (λ x h. h)

pub cells-law : IsForm cells_form CellsFit Any
cells-law = after-form (codes "cells") eight_form CellsFit Any (plain-word (codes "cells") refl) eight-law

option-there : {A : Type 0} (y : Option A) → option_from (option_back y) ≡ y
option-there None = refl
option-there (Some x) = refl

option-again : {A : Type 0} (x : Unit {0} ⊎ A) → option_back (option_from x) ≡ x
option-again (inl u) = refl
option-again (inr x) = refl

option-fits-back : {A : Type 0} (F : A → Type 0) (y : Option A) → OptionFits F y → SumFits (λ (u : Unit {0}). Unit {0}) F (option_back y)
option-fits-back F None h = tt
option-fits-back F (Some x) h = h

option-fits : {A : Type 0} (F : A → Type 0) (x : Unit {0} ⊎ A) → SumFits (λ (u : Unit {0}). Unit {0}) F x → OptionFits F (option_from x)
option-fits F (inl u) h = tt
option-fits F (inr x) h = h

pub received-law : IsForm received_form (OptionFits EventFits) Any
received-law = mapped-form option_from option_back (either (codes "none") nothing event_form) (SumFits (λ u. Unit {0}) EventFits) (OptionFits EventFits) Any (either-form (codes "none") nothing event_form (λ u. Unit {0}) EventFits Any (plain-word (codes "none") refl) nothing-form event-law (λ y h more ends. decimal-differs y.handle.0 110 (111 ∷ 110 ∷ 101 ∷ []) (omega (arith, h.0)) (omega arith))) (option-fits-back EventFits) option-there option-again (option-fits EventFits)

pub scope-law : IsForm scope_form (OptionFits (λ eo. IsU8 eo.0)) Any
scope-law = mapped-form option_from option_back (either (codes "global") nothing eo_form) (SumFits (λ u. Unit {0}) (λ eo. IsU8 eo.0)) (OptionFits (λ eo. IsU8 eo.0)) Any (either-form (codes "global") nothing eo_form (λ u. Unit {0}) (λ eo. IsU8 eo.0) Any (plain-word (codes "global") refl) nothing-form eo-law (λ y h more ends. refl)) (option-fits-back (λ eo. IsU8 eo.0)) option-there option-again (option-fits (λ eo. IsU8 eo.0))

bool-there : (y : Bool) → bool_from (bool_back y) ≡ y
bool-there true = refl
bool-there false = refl

bool-again : (x : Unit {0} ⊎ Unit {0}) → bool_back (bool_from x) ≡ x
bool-again (inl u) = refl
bool-again (inr u) = refl

bool-fits : (y : Bool) → Unit {0} → SumFits (λ (u : Unit {0}). Unit {0}) (λ (u : Unit {0}). Unit {0}) (bool_back y)
bool-fits true h = tt
bool-fits false h = tt

pub outcome-law : IsForm outcome_form (λ ok. Unit {0}) Any
outcome-law = mapped-form bool_from bool_back (either (codes "ok") nothing (after (codes "failed") nothing)) (SumFits (λ u. Unit {0}) (λ u. Unit {0})) (λ ok. Unit {0}) Any (either-form (codes "ok") nothing (after (codes "failed") nothing) (λ u. Unit {0}) (λ u. Unit {0}) Any (plain-word (codes "ok") refl) nothing-form (after-form (codes "failed") nothing (λ u. Unit {0}) Any (plain-word (codes "failed") refl) nothing-form) (λ y h more ends. refl)) bool-fits bool-there bool-again (λ x h. tt)

abbrev OpFits : OpId → Type 0
OpFits op = IsU16 op.0

abbrev BodyParts : Unit {0} ⊎ (OpId ⊎ (OpId ⊎ (OpId ⊎ OpId))) → Type 0
BodyParts = SumFits (λ u. Unit {0}) (SumFits OpFits (SumFits OpFits (SumFits OpFits OpFits)))

body-there : (y : Body) → body_from (body_back y) ≡ y
body-there bodies.Boot = refl
body-there (bodies.GlobalStart op) = refl
body-there (bodies.LocalStart op) = refl
body-there (bodies.LocalStop op) = refl
body-there (bodies.GlobalStop op) = refl

body-again : (x : Unit {0} ⊎ (OpId ⊎ (OpId ⊎ (OpId ⊎ OpId)))) → body_back (body_from x) ≡ x
body-again (inl u) = refl
body-again (inr (inl op)) = refl
body-again (inr (inr (inl op))) = refl
body-again (inr (inr (inr (inl op)))) = refl
body-again (inr (inr (inr (inr op)))) = refl

body-fits-back : (y : Body) → BodyFits y → BodyParts (body_back y)
body-fits-back bodies.Boot h = tt
body-fits-back (bodies.GlobalStart op) h = h
body-fits-back (bodies.LocalStart op) h = h
body-fits-back (bodies.LocalStop op) h = h
body-fits-back (bodies.GlobalStop op) h = h

body-fits : (x : Unit {0} ⊎ (OpId ⊎ (OpId ⊎ (OpId ⊎ OpId)))) → BodyParts x → BodyFits (body_from x)
body-fits (inl u) h = tt
body-fits (inr (inl op)) h = h
body-fits (inr (inr (inl op))) h = h
body-fits (inr (inr (inr (inl op)))) h = h
body-fits (inr (inr (inr (inr op)))) h = h

gstop-form : IsForm (after (codes "gstop") op_form) OpFits Any
gstop-form = after-form (codes "gstop") op_form OpFits Any (plain-word (codes "gstop") refl) op-law

lstop-form : IsForm (either (codes "lstop") op_form (after (codes "gstop") op_form)) (SumFits OpFits OpFits) Any
lstop-form = either-form (codes "lstop") op_form (after (codes "gstop") op_form) OpFits OpFits Any (plain-word (codes "lstop") refl) op-law gstop-form (λ y h more ends. refl)

lstart-form : IsForm (either (codes "lstart") op_form (either (codes "lstop") op_form (after (codes "gstop") op_form))) (SumFits OpFits (SumFits OpFits OpFits)) Any
lstart-form = either-form (codes "lstart") op_form (either (codes "lstop") op_form (after (codes "gstop") op_form)) OpFits (SumFits OpFits OpFits) Any (plain-word (codes "lstart") refl) op-law lstop-form (λ y h more ends. elim y as (λ z. is_first (codes "lstart") ((either (codes "lstop") op_form (after (codes "gstop") op_form)).write z ++ more) ≡ false) [ inl a ↦ refl | inr b ↦ refl ])

apart3 : (word : List ℕ) → bytes_eq (codes "lstart") word ≡ false → bytes_eq (codes "lstop") word ≡ false → bytes_eq (codes "gstop") word ≡ false → (y : OpId ⊎ (OpId ⊎ OpId)) (more : List (List ℕ)) → is_first word ((either (codes "lstart") op_form (either (codes "lstop") op_form (after (codes "gstop") op_form))).write y ++ more) ≡ false
apart3 word a b c (inl op) more = a
apart3 word a b c (inr (inl op)) more = b
apart3 word a b c (inr (inr op)) more = c

gstart-form : IsForm (either (codes "gstart") op_form (either (codes "lstart") op_form (either (codes "lstop") op_form (after (codes "gstop") op_form)))) (SumFits OpFits (SumFits OpFits (SumFits OpFits OpFits))) Any
gstart-form = either-form (codes "gstart") op_form (either (codes "lstart") op_form (either (codes "lstop") op_form (after (codes "gstop") op_form))) OpFits (SumFits OpFits (SumFits OpFits OpFits)) Any (plain-word (codes "gstart") refl) op-law lstart-form (λ y h more ends. apart3 (codes "gstart") refl refl refl y more)

apart4 : (y : OpId ⊎ (OpId ⊎ (OpId ⊎ OpId))) (more : List (List ℕ)) → is_first (codes "boot") ((either (codes "gstart") op_form (either (codes "lstart") op_form (either (codes "lstop") op_form (after (codes "gstop") op_form)))).write y ++ more) ≡ false
apart4 (inl op) more = refl
apart4 (inr y) more = apart3 (codes "boot") refl refl refl y more

pub body-law : IsForm body_form BodyFits Any
body-law = mapped-form body_from body_back (either (codes "boot") nothing (either (codes "gstart") op_form (either (codes "lstart") op_form (either (codes "lstop") op_form (after (codes "gstop") op_form))))) BodyParts BodyFits Any (either-form (codes "boot") nothing (either (codes "gstart") op_form (either (codes "lstart") op_form (either (codes "lstop") op_form (after (codes "gstop") op_form)))) (λ u. Unit {0}) (SumFits OpFits (SumFits OpFits (SumFits OpFits OpFits))) Any (plain-word (codes "boot") refl) nothing-form gstart-form (λ y h more ends. apart4 y more)) body-fits-back body-there body-again body-fits

abbrev EoFits : EoId → Type 0
EoFits eo = IsU8 eo.0

abbrev ModifyFits : GroupId × ℕ → Type 0
ModifyFits p = IsU8 p.0.0 × IsU64 p.1

job-there : (y : Begun) → job_from (job_back y) ≡ y
job-there (begun.Start eo) = refl
job-there (begun.Stop eo) = refl
job-there (begun.Modify group mask) = refl

job-again : (x : EoId ⊎ (EoId ⊎ (GroupId × ℕ))) → job_back (job_from x) ≡ x
job-again (inl eo) = refl
job-again (inr (inl eo)) = refl
job-again (inr (inr p)) = refl

job-fits-back : (y : Begun) → JobFits y → SumFits EoFits (SumFits EoFits ModifyFits) (job_back y)
job-fits-back (begun.Start eo) h = h
job-fits-back (begun.Stop eo) h = h
job-fits-back (begun.Modify group mask) h = h

job-fits : (x : EoId ⊎ (EoId ⊎ (GroupId × ℕ))) → SumFits EoFits (SumFits EoFits ModifyFits) x → JobFits (job_from x)
job-fits (inl eo) h = h
job-fits (inr (inl eo)) h = h
job-fits (inr (inr p)) h = h

modify-form : IsForm (after (codes "modify") (group_form ▷ u64_form)) ModifyFits Any
modify-form = after-form (codes "modify") (group_form ▷ u64_form) ModifyFits Any (plain-word (codes "modify") refl) (then-law group-law u64-law)

stop-form : IsForm (either (codes "stop") eo_form (after (codes "modify") (group_form ▷ u64_form))) (SumFits EoFits ModifyFits) Any
stop-form = either-form (codes "stop") eo_form (after (codes "modify") (group_form ▷ u64_form)) EoFits ModifyFits Any (plain-word (codes "stop") refl) eo-law modify-form (λ y h more ends. refl)

apart-job : (y : EoId ⊎ (GroupId × ℕ)) (more : List (List ℕ)) → is_first (codes "start") ((either (codes "stop") eo_form (after (codes "modify") (group_form ▷ u64_form))).write y ++ more) ≡ false
apart-job (inl eo) more = refl
apart-job (inr p) more = refl

pub job-law : IsForm job_form JobFits Any
job-law = mapped-form job_from job_back (either (codes "start") eo_form (either (codes "stop") eo_form (after (codes "modify") (group_form ▷ u64_form)))) (SumFits EoFits (SumFits EoFits ModifyFits)) JobFits Any (either-form (codes "start") eo_form (either (codes "stop") eo_form (after (codes "modify") (group_form ▷ u64_form))) EoFits (SumFits EoFits ModifyFits) Any (plain-word (codes "start") refl) eo-law stop-form (λ y h more ends. apart-job y more)) job-fits-back job-there job-again job-fits

-- ---- calls

call-found : (call : Call) → lookup (word_of_call call) call_words ≡ Some call
call-found calls.Alloc = refl
call-found calls.Free = refl
call-found calls.Send = refl
call-found calls.Keep = refl
call-found calls.Dequeue = refl
call-found calls.Enable = refl
call-found calls.Disable = refl
call-found calls.EndAtomic = refl
call-found calls.EndOrdered = refl
call-found calls.EndGroup = refl
call-found calls.Cell = refl
call-found calls.Apply = refl
call-found calls.Increment = refl
call-found calls.Abort = refl
call-found calls.Start = refl
call-found calls.Stop = refl
call-found calls.Modify = refl
call-found calls.Fail = refl
call-found calls.Note = refl

call-plain : (call : Call) → IsPlain (word_of_call call)
call-plain calls.Alloc = plain-word (word_of_call calls.Alloc) refl
call-plain calls.Free = plain-word (word_of_call calls.Free) refl
call-plain calls.Send = plain-word (word_of_call calls.Send) refl
call-plain calls.Keep = plain-word (word_of_call calls.Keep) refl
call-plain calls.Dequeue = plain-word (word_of_call calls.Dequeue) refl
call-plain calls.Enable = plain-word (word_of_call calls.Enable) refl
call-plain calls.Disable = plain-word (word_of_call calls.Disable) refl
call-plain calls.EndAtomic = plain-word (word_of_call calls.EndAtomic) refl
call-plain calls.EndOrdered = plain-word (word_of_call calls.EndOrdered) refl
call-plain calls.EndGroup = plain-word (word_of_call calls.EndGroup) refl
call-plain calls.Cell = plain-word (word_of_call calls.Cell) refl
call-plain calls.Apply = plain-word (word_of_call calls.Apply) refl
call-plain calls.Increment = plain-word (word_of_call calls.Increment) refl
call-plain calls.Abort = plain-word (word_of_call calls.Abort) refl
call-plain calls.Start = plain-word (word_of_call calls.Start) refl
call-plain calls.Stop = plain-word (word_of_call calls.Stop) refl
call-plain calls.Modify = plain-word (word_of_call calls.Modify) refl
call-plain calls.Fail = plain-word (word_of_call calls.Fail) refl
call-plain calls.Note = plain-word (word_of_call calls.Note) refl

pub call-law : IsForm call_form (λ call. Unit {0}) Any
call-law = one_of-form call_words word_of_call (record { found = call-found; named = (refl, (refl, (refl, (refl, (refl, (refl, (refl, (refl, (refl, (refl, (refl, (refl, (refl, (refl, (refl, (refl, (refl, (refl, (refl, tt))))))))))))))))))); plain = call-plain })

-- ---- faults

abbrev Named : ℕ → ℕ → Fault → Type 0
Named n d y = (numbers_of_fault y ≡ (n, d)) × FaultFits y

at_most-named : (n max : ℕ) (to : ℕ → Fault) → ((d : ℕ) → numbers_of_fault (to d) ≡ (n, d)) → ((d : ℕ) → d ≤ max → FaultFits (to d)) → (d : ℕ) (y : Fault) → at_most max to d ≡ Some y → Named n d y
at_most-named n max to numbers fits d y e =
    let c = cond-some (leb d max) (to d) y e in
    subst (λ z. Named n d z) c.1 (numbers d, fits d (leb-true d max c.0))

only_zero-named : (n : ℕ) (fault : Fault) → numbers_of_fault fault ≡ (n, 0) → FaultFits fault → (d : ℕ) (y : Fault) → only_zero fault d ≡ Some y → Named n d y
only_zero-named n fault numbers fits d y e =
    let c = cond-some (eqb d 0) fault y e in
    let zero-is : d ≡ 0 = eqb-true d 0 c.0 in
    subst (λ z. Named n d z) c.1 (rw zero-is numbers, fits)

-- what a chain of tests gives
step : {A : Type 0} (d n : ℕ) (x y : A) (o : Option A) → cond (eqb d n) (Some x) o ≡ Some y → ((d ≡ n) × (x ≡ y)) ⊎ (o ≡ Some y)
step {A} d n x y o e = elim (chosen-some (eqb d n) x y o e) [ inl c ↦ inl (eqb-true d n c.0, c.1) | inr more ↦ inr more ]

kind-number : (d : ℕ) (kind : Kind) → kind_of_number d ≡ Some kind → number_of_kind kind ≡ d
kind-number d kind e =
    elim (step d 0 queue_kinds.Atomic kind _ e) [
      | inl c ↦ ap number_of_kind (sym c.1) ∙ sym c.0
      | inr e ↦
          elim (step d 1 queue_kinds.Parallel kind _ e) [
            | inl c ↦ ap number_of_kind (sym c.1) ∙ sym c.0
            | inr e ↦
                elim (step d 2 queue_kinds.Ordered kind _ e) [
                  | inl c ↦ ap number_of_kind (sym c.1) ∙ sym c.0
                  | inr e ↦
                      elim (step d 3 queue_kinds.Local kind _ e) [
                        | inl c ↦ ap number_of_kind (sym c.1) ∙ sym c.0
                        | inr e ↦
                            elim (step d 4 queue_kinds.Unscheduled kind _ e) [
                              | inl c ↦ ap number_of_kind (sym c.1) ∙ sym c.0
                              | inr e ↦
                                  elim (step d 5 queue_kinds.Output kind _ e) [ inl c ↦ ap number_of_kind (sym c.1) ∙ sym c.0 | inr e ↦ absurd cc ]
                            ]
                      ]
                ]
          ]
    ]

state-number : (d : ℕ) (state : EoState) → state_of_number d ≡ Some state → number_of_state state ≡ d
state-number d state e =
    elim (step d 0 states.Created state _ e) [
      | inl c ↦ ap number_of_state (sym c.1) ∙ sym c.0
      | inr e ↦
          elim (step d 1 states.Starting state _ e) [
            | inl c ↦ ap number_of_state (sym c.1) ∙ sym c.0
            | inr e ↦
                elim (step d 2 states.Running state _ e) [
                  | inl c ↦ ap number_of_state (sym c.1) ∙ sym c.0
                  | inr e ↦
                      elim (step d 3 states.Stopping state _ e) [ inl c ↦ ap number_of_state (sym c.1) ∙ sym c.0 | inr e ↦ absurd cc ]
                ]
          ]
    ]

of_kind-named : (d : ℕ) (o : Option Kind) (y : Fault) → ((kind : Kind) → o ≡ Some kind → number_of_kind kind ≡ d) → of_kind o ≡ Some y → Named 6 d y
of_kind-named d None y numbers e = absurd cc
of_kind-named d (Some kind) y numbers e = subst (λ z. Named 6 d z) (some-is (faults.WrongKind kind) y e) (ap (λ n. (6, n)) (numbers kind refl), tt)

of_state-named : (d : ℕ) (o : Option EoState) (y : Fault) → ((state : EoState) → o ≡ Some state → number_of_state state ≡ d) → of_state o ≡ Some y → Named 13 d y
of_state-named d None y numbers e = absurd cc
of_state-named d (Some state) y numbers e = subst (λ z. Named 13 d z) (some-is (faults.EoState state) y e) (ap (λ n. (13, n)) (numbers state refl), tt)

abbrev AllNamed : List (ℕ × (ℕ → Option Fault)) → Type 0
AllNamed table = AllByRecursion (λ p. (d : ℕ) (y : Fault) → p.1 d ≡ Some y → Named p.0 d y) table

faults-named : AllNamed faults_by_number
faults-named = (
  at_most-named 1 18446744073709551615 (λ d. faults.NeverMinted d) (λ d. refl) (λ d h. h),
  (
    at_most-named 2 18446744073709551615 (λ d. faults.SpentBySend d) (λ d. refl) (λ d h. h),
    (
      at_most-named 3 18446744073709551615 (λ d. faults.SpentByFree d) (λ d. refl) (λ d h. h),
      (
        at_most-named 4 255 (λ d. faults.HeldElsewhere (record { 0 = d })) (λ d. refl) (λ d h. h),
        (
          at_most-named 5 255 (λ d. faults.QueueClosed d) (λ d. refl) (λ d h. h),
          (
            (λ d y e. of_kind-named d (kind_of_number d) y (λ kind k. kind-number d kind k) e),
            (
              only_zero-named 7 faults.NotAtomic refl tt,
              (
                only_zero-named 8 faults.NotOrdered refl tt,
                (
                  only_zero-named 9 faults.NoGroup refl tt,
                  (
                    at_most-named 10 4294967295 (λ d. faults.GroupBusy d) (λ d. refl) (λ d h. h),
                    (
                      at_most-named 11 255 (λ d. faults.GroupIdle (record { 0 = d })) (λ d. refl) (λ d h. h),
                      (
                        at_most-named 12 65535 (λ d. faults.OpPending (record { 0 = d })) (λ d. refl) (λ d h. h),
                        (
                          (λ d y e. of_state-named d (state_of_number d) y (λ state k. state-number d state k) e),
                          (
                            at_most-named 14 18446744073709551615 (λ d. faults.BadMask d) (λ d. refl) (λ d h. h),
                            (
                              at_most-named 15 4294967295 (λ d. faults.PoolEmpty d) (λ d. refl) (λ d h. h),
                              (
                                at_most-named 16 255 (λ d. faults.BadSize d) (λ d. refl) (λ d h. h),
                                (
                                  at_most-named 17 65535 (λ d. faults.NoteLost (record { 0 = d })) (λ d. refl) (λ d h. h),
                                  (
                                    at_most-named 18 4294967295 (λ d. faults.BadCount d) (λ d. refl) (λ d h. h),
                                    (
                                      at_most-named 19 65535 (λ d. faults.StartFailed (record { 0 = d })) (λ d. refl) (λ d h. h),
                                      (
                                        at_most-named 20 65535 (λ d. faults.OpsSpent d) (λ d. refl) (λ d h. h),
                                        tt,
                                      ),
                                    ),
                                  ),
                                ),
                              ),
                            ),
                          ),
                        ),
                      ),
                    ),
                  ),
                ),
              ),
            ),
          ),
        ),
      ),
    ),
  ),
)

fault_in-named : (table : List (ℕ × (ℕ → Option Fault))) → AllNamed table → (n d : ℕ) (y : Fault) → fault_in table n d ≡ Some y → Named n d y
fault_in-named [] named n d y e = absurd cc
fault_in-named (p ∷ ps) named n d y e =
    elim (tested (eqb n p.0) (p.1 d) (fault_in ps n d) y e) [
      | inl c ↦ let same : p.0 ≡ n = sym (eqb-true n p.0 c.0) in subst (λ m. Named m d y) same (named.0 d y c.1)
      | inr more ↦ fault_in-named ps named.1 n d y more
    ]

fault-numbers : (y : Fault) → FaultFits y → IsU64 (numbers_of_fault y).0 × IsU64 (numbers_of_fault y).1
fault-numbers (faults.NeverMinted word) h = (omega arith, h)
fault-numbers (faults.SpentBySend place) h = (omega arith, h)
fault-numbers (faults.SpentByFree place) h = (omega arith, h)
fault-numbers (faults.HeldElsewhere core) h = (omega arith, omega (arith, h))
fault-numbers (faults.QueueClosed state) h = (omega arith, omega (arith, h))
fault-numbers (faults.WrongKind queue_kinds.Atomic) h = (omega arith, omega arith)
fault-numbers (faults.WrongKind queue_kinds.Parallel) h = (omega arith, omega arith)
fault-numbers (faults.WrongKind queue_kinds.Ordered) h = (omega arith, omega arith)
fault-numbers (faults.WrongKind queue_kinds.Local) h = (omega arith, omega arith)
fault-numbers (faults.WrongKind queue_kinds.Unscheduled) h = (omega arith, omega arith)
fault-numbers (faults.WrongKind queue_kinds.Output) h = (omega arith, omega arith)
fault-numbers faults.NotAtomic h = (omega arith, omega arith)
fault-numbers faults.NotOrdered h = (omega arith, omega arith)
fault-numbers faults.NoGroup h = (omega arith, omega arith)
fault-numbers (faults.GroupBusy left) h = (omega arith, omega (arith, h))
fault-numbers (faults.GroupIdle group) h = (omega arith, omega (arith, h))
fault-numbers (faults.OpPending op) h = (omega arith, omega (arith, h))
fault-numbers (faults.EoState states.Created) h = (omega arith, omega arith)
fault-numbers (faults.EoState states.Starting) h = (omega arith, omega arith)
fault-numbers (faults.EoState states.Running) h = (omega arith, omega arith)
fault-numbers (faults.EoState states.Stopping) h = (omega arith, omega arith)
fault-numbers (faults.BadMask mask) h = (omega arith, h)
fault-numbers (faults.PoolEmpty live) h = (omega arith, omega (arith, h))
fault-numbers (faults.BadSize words) h = (omega arith, omega (arith, h))
fault-numbers (faults.NoteLost queue) h = (omega arith, omega (arith, h))
fault-numbers (faults.BadCount total) h = (omega arith, omega (arith, h))
fault-numbers (faults.StartFailed op) h = (omega arith, omega (arith, h))
fault-numbers (faults.OpsSpent begun) h = (omega arith, omega (arith, h))

at_most-some : (max : ℕ) (to : ℕ → Fault) (d : ℕ) → d ≤ max → at_most max to d ≡ Some (to d)
at_most-some max to d le = rw (le-leb d max le) refl

fault-again : (y : Fault) → FaultFits y → fault_of_numbers (numbers_of_fault y) ≡ Some y
fault-again (faults.NeverMinted word) h = at_most-some 18446744073709551615 (λ d. faults.NeverMinted d) word h
fault-again (faults.SpentBySend place) h = at_most-some 18446744073709551615 (λ d. faults.SpentBySend d) place h
fault-again (faults.SpentByFree place) h = at_most-some 18446744073709551615 (λ d. faults.SpentByFree d) place h
fault-again (faults.HeldElsewhere core) h = at_most-some 255 (λ d. faults.HeldElsewhere (record { 0 = d })) core.0 h
fault-again (faults.QueueClosed state) h = at_most-some 255 (λ d. faults.QueueClosed d) state h
fault-again (faults.WrongKind queue_kinds.Atomic) h = refl
fault-again (faults.WrongKind queue_kinds.Parallel) h = refl
fault-again (faults.WrongKind queue_kinds.Ordered) h = refl
fault-again (faults.WrongKind queue_kinds.Local) h = refl
fault-again (faults.WrongKind queue_kinds.Unscheduled) h = refl
fault-again (faults.WrongKind queue_kinds.Output) h = refl
fault-again faults.NotAtomic h = refl
fault-again faults.NotOrdered h = refl
fault-again faults.NoGroup h = refl
fault-again (faults.GroupBusy left) h = at_most-some 4294967295 (λ d. faults.GroupBusy d) left h
fault-again (faults.GroupIdle group) h = at_most-some 255 (λ d. faults.GroupIdle (record { 0 = d })) group.0 h
fault-again (faults.OpPending op) h = at_most-some 65535 (λ d. faults.OpPending (record { 0 = d })) op.0 h
fault-again (faults.EoState states.Created) h = refl
fault-again (faults.EoState states.Starting) h = refl
fault-again (faults.EoState states.Running) h = refl
fault-again (faults.EoState states.Stopping) h = refl
fault-again (faults.BadMask mask) h = at_most-some 18446744073709551615 (λ d. faults.BadMask d) mask h
fault-again (faults.PoolEmpty live) h = at_most-some 4294967295 (λ d. faults.PoolEmpty d) live h
fault-again (faults.BadSize words) h = at_most-some 255 (λ d. faults.BadSize d) words h
fault-again (faults.NoteLost queue) h = at_most-some 65535 (λ d. faults.NoteLost (record { 0 = d })) queue.0 h
fault-again (faults.BadCount total) h = at_most-some 4294967295 (λ d. faults.BadCount d) total h
fault-again (faults.StartFailed op) h = at_most-some 65535 (λ d. faults.StartFailed (record { 0 = d })) op.0 h
fault-again (faults.OpsSpent begun) h = at_most-some 65535 (λ d. faults.OpsSpent d) begun h

pub fault-law : IsForm fault_form FaultFits Any
fault-law = checked-form fault_of_numbers numbers_of_fault faults.NotAtomic (u64_form ▷ u64_form) (λ p. IsU64 p.0 × IsU64 p.1) FaultFits (then-law u64-law u64-law) fault-numbers fault-again (λ x y fits e. fault_in-named faults_by_number faults-named x.0 x.1 y e)
