-- No token that is written has a space or a newline, whatever its numbers are.
use Rattle.std.proofs.Common.{◌≡◌, ℕ, zero, suc, ◌+◌, ◌<◌, ◌/◌, ◌%◌, Bool, true, false, cond, eqb, ltb, List, [], ◌∷◌, ◌++◌, length, Option, Some, None, refl, arith}
use Rattle.std.specs.List.{AllByRecursion}
use Rattle.std.specs.Prelude.{codes, decimal, flat_map}
use Rattle.std.specs.Fmt.{digit_glyph, digits_onto, digits}
use Rattle.em_log.specs.declared.ids.EoId.{EoId}
use Rattle.em_log.specs.declared.ids.Cells.{Cells}
use Rattle.em_log.specs.declared.ids.Note.{Note}
use Rattle.em_log.specs.declared.ids.Stamp.{Stamp}
use Rattle.em_log.specs.declared.fault.Fault.{Fault}
use Rattle.em_log.specs.declared.fault.Call.{Call}
use Rattle.em_log.specs.declared.fault.Call.TheVariants as calls
use Rattle.em_log.specs.declared.entry.Event.{Event}
use Rattle.em_log.specs.declared.entry.Body.{Body}
use Rattle.em_log.specs.declared.entry.Body.TheVariants as bodies
use Rattle.em_log.specs.declared.entry.Begun.{Begun}
use Rattle.em_log.specs.declared.entry.Begun.TheVariants as begun
use Rattle.em_log.specs.declared.entry.What.{What}
use Rattle.em_log.specs.declared.entry.What.TheVariants as what
use Rattle.em_log.specs.declared.entry.Entry.{Entry}
use Rattle.em_trace.specs.Forms.{u64_form, content_form, event_form, received_form, stamp_form, ticket_form, stamped_form, note_form, notes_form, cells_form, some_cells_form, outcome_form, body_form, job_form, scope_form, call_form, fault_form, numbers_of_fault, what_tokens}
use Rattle.em_trace.specs.Text.{line_tokens}
use Rattle.em_trace.proofs.Forms.{IsPlain, All-append}
use Rattle.em_trace.proofs.Parts.{is_plain, plain-word}

glyph-plain : (b : Bool) (d : ℕ) → 32 < cond b (48 + d) (87 + d)
glyph-plain true d = omega arith
glyph-plain false d = omega arith

onto-plain : (k n : ℕ) (acc : List ℕ) → IsPlain acc → IsPlain (digits_onto k 10 false n acc)
onto-plain zero n acc h = h
onto-plain (suc k) n acc h =
    let more : IsPlain (digit_glyph false (n % 10) ∷ acc) = (glyph-plain (ltb (n % 10) 10) (n % 10), h) in
    elim (eqb (n / 10) 0) as (λ t. IsPlain (cond t (digit_glyph false (n % 10) ∷ acc) (digits_onto k 10 false (n / 10) (digit_glyph false (n % 10) ∷ acc)))) [
      | true ↦ more
      | false ↦ onto-plain k (n / 10) (digit_glyph false (n % 10) ∷ acc) more
    ]

decimal-plain : (n : ℕ) → IsPlain (decimal n)
unfolding digits
decimal-plain n = onto-plain 64 n [] tt

-- ---- tokens

record ArePlain (tokens : List (List ℕ)) : Type 0 where
  all : AllByRecursion IsPlain tokens

none : ArePlain []
none = record { all = tt }

both : {xs ys : List (List ℕ)} → ArePlain xs → ArePlain ys → ArePlain (xs ++ ys)
both {xs = xs} {ys = ys} a b = record { all = All-append IsPlain xs ys a.all b.all }

word : (token : List ℕ) {more : List (List ℕ)} → is_plain token ≡ true → ArePlain more → ArePlain (token ∷ more)
word token is more = record { all = (plain-word token is, more.all) }

digits-then : (n : ℕ) {more : List (List ℕ)} → ArePlain more → ArePlain (decimal n ∷ more)
digits-then n more = record { all = (decimal-plain n, more.all) }

plain-number : (n : ℕ) → ArePlain (decimal n ∷ [])
plain-number n = digits-then n none

plain-marked : (mark n : ℕ) → 32 < mark → ArePlain ((mark ∷ decimal n) ∷ [])
plain-marked mark n h = record { all = ((h, decimal-plain n), tt) }

each : {A : Type 0} (write : A → List (List ℕ)) → ((x : A) → ArePlain (write x)) → (xs : List A) → ArePlain (flat_map write xs)
each write one [] = none
each write one (x ∷ xs) = both (one x) (each write one xs)

-- ---- parts

queue : (n : ℕ) → ArePlain ((113 ∷ decimal n) ∷ [])
queue n = plain-marked 113 n (omega arith)

group : (n : ℕ) → ArePlain ((101 ∷ decimal n) ∷ [])
group n = plain-marked 101 n (omega arith)

object : (n : ℕ) → ArePlain ((111 ∷ decimal n) ∷ [])
object n = plain-marked 111 n (omega arith)

content : (kind : ℕ) (words : List ℕ) → ArePlain (content_form.write (kind, words))
content kind words =
    word (codes "kind") refl (digits-then kind (word (codes "words") refl (digits-then (length words) (each u64_form.write plain-number words))))

event : (e : Event) → ArePlain (event_form.write e)
event e = digits-then e.handle.0 (content e.kind e.words)

received : (e : Option Event) → ArePlain (received_form.write e)
received None = word (codes "none") refl none
received (Some e) = event e

stamp : (s : Stamp) → ArePlain (stamp_form.write s)
stamp s = both (group s.group.0) (plain-number s.app)

stamped : (s : Option Stamp) → ArePlain (stamped_form.write s)
stamped None = none
stamped (Some s) = word (codes "stamp") refl (stamp s)

ticket : (t : Option ℕ) → ArePlain (ticket_form.write t)
ticket None = none
ticket (Some t) = word (codes "ticket") refl (plain-number t)

note : (n : Note) → ArePlain (note_form.write n)
note n = both (plain-number n.word) (queue n.queue.0)

notes : (ns : List Note) → ArePlain (notes_form.write ns)
notes ns = word (codes "notes") refl (digits-then (length ns) (each note_form.write note ns))

cells : (cs : Cells) → ArePlain (cells_form.write cs)
cells cs = word (codes "cells") refl (each u64_form.write plain-number cs.0)

some-cells : (cs : Option Cells) → ArePlain (some_cells_form.write cs)
some-cells None = none
some-cells (Some cs) = cells cs

outcome : (ok : Bool) → ArePlain (outcome_form.write ok)
outcome true = word (codes "ok") refl none
outcome false = word (codes "failed") refl none

body : (b : Body) → ArePlain (body_form.write b)
body bodies.Boot = word (codes "boot") refl none
body (bodies.GlobalStart op) = word (codes "gstart") refl (plain-number op.0)
body (bodies.LocalStart op) = word (codes "lstart") refl (plain-number op.0)
body (bodies.LocalStop op) = word (codes "lstop") refl (plain-number op.0)
body (bodies.GlobalStop op) = word (codes "gstop") refl (plain-number op.0)

job : (j : Begun) → ArePlain (job_form.write j)
job (begun.Start x) = word (codes "start") refl (object x.0)
job (begun.Stop x) = word (codes "stop") refl (object x.0)
job (begun.Modify g mask) = word (codes "modify") refl (both (plain-marked 103 g.0 (omega arith)) (plain-number mask))

scope : (x : Option EoId) → ArePlain (scope_form.write x)
scope None = word (codes "global") refl none
scope (Some x) = object x.0

call : (c : Call) → ArePlain (call_form.write c)
call calls.Alloc = word (codes "alloc") refl none
call calls.Free = word (codes "free") refl none
call calls.Send = word (codes "send") refl none
call calls.Keep = word (codes "keep") refl none
call calls.Dequeue = word (codes "dequeue") refl none
call calls.Enable = word (codes "enable") refl none
call calls.Disable = word (codes "disable") refl none
call calls.EndAtomic = word (codes "endatomic") refl none
call calls.EndOrdered = word (codes "endordered") refl none
call calls.EndGroup = word (codes "endgroup") refl none
call calls.Cell = word (codes "cell") refl none
call calls.Apply = word (codes "apply") refl none
call calls.Increment = word (codes "increment") refl none
call calls.Abort = word (codes "abort") refl none
call calls.Start = word (codes "start") refl none
call calls.Stop = word (codes "stop") refl none
call calls.Modify = word (codes "modify") refl none
call calls.Fail = word (codes "fail") refl none
call calls.Note = word (codes "note") refl none

fault : (f : Fault) → ArePlain (fault_form.write f)
fault f = both (plain-number (numbers_of_fault f).0) (plain-number (numbers_of_fault f).1)

-- ---- entries

what-plain : (w : What) → ArePlain (what_tokens w)
what-plain (what.Enter b) = word (codes "enter") refl (both (body b) none)
what-plain (what.Take q n t) = word (codes "take") refl (both (queue q.0) (both (plain-number n) (both (ticket t) none)))
what-plain (what.Start q e s) = word (codes "start") refl (both (queue q.0) (both (event e) (both (stamped s) none)))
what-plain (what.Untake q n) = word (codes "untake") refl (both (queue q.0) (both (plain-number n) none))
what-plain (what.End lost cs) = word (codes "end") refl (both (word (codes "lost") refl (plain-number lost)) (both (some-cells cs) none))
what-plain (what.EndAtomic rest cs) = word (codes "endatomic") refl (both (word (codes "rest") refl (plain-number rest)) (both (cells cs) none))
what-plain what.EndOrdered = word (codes "endordered") refl none
what-plain what.EndGroup = word (codes "endgroup") refl none
what-plain (what.Alloc p e) = word (codes "alloc") refl (both (plain-marked 112 p.0 (omega arith)) (both (event e) none))
what-plain (what.Free h) = word (codes "free") refl (both (plain-number h.0) none)
what-plain (what.Send h q t s) = word (codes "send") refl (both (plain-number h.0) (both (queue q.0) (both (ticket t) (both (stamped s) none))))
what-plain (what.Keep h) = word (codes "keep") refl (both (plain-number h.0) none)
what-plain (what.Claim e) = word (codes "claim") refl (both (received e) none)
what-plain (what.Dequeue q e) = word (codes "dequeue") refl (both (queue q.0) (both (received e) none))
what-plain (what.Out q kind words) = word (codes "out") refl (both (queue q.0) (both (content kind words) none))
what-plain (what.Say value) = word (codes "say") refl (both (plain-number value) none)
what-plain (what.Enable q) = word (codes "enable") refl (both (queue q.0) none)
what-plain (what.Disable q) = word (codes "disable") refl (both (queue q.0) none)
what-plain (what.Begin op j ns) = word (codes "begin") refl (both (plain-number op.0) (both (job j) (both (notes ns) none)))
what-plain (what.GlobalDone op ok) = word (codes "gdone") refl (both (plain-number op.0) (both (outcome ok) none))
what-plain (what.Ack op) = word (codes "ack") refl (both (plain-number op.0) none)
what-plain (what.Done op ok) = word (codes "done") refl (both (plain-number op.0) (both (outcome ok) none))
what-plain (what.Apply g app count ns) =
    word (codes "apply") refl (both (group g.0) (both (plain-number app) (both (plain-number count) (both (notes ns) none))))
what-plain (what.Increment g n) = word (codes "increment") refl (both (group g.0) (both (plain-number n) none))
what-plain (what.Abort g) = word (codes "abort") refl (both (group g.0) none)
what-plain (what.Notify g app) = word (codes "notify") refl (both (group g.0) (both (plain-number app) none))
what-plain (what.Fault c f x) = word (codes "fault") refl (both (call c) (both (fault f) (both (scope x) none)))

-- the tokens of a line
pub line-plain : (place : ℕ) (entry : Entry) → AllByRecursion IsPlain (line_tokens place entry)
line-plain place entry =
    let tokens : ArePlain (line_tokens place entry) = digits-then place (both (plain-marked 99 entry.core.0 (omega arith)) (what-plain entry.what)) in
    tokens.all
