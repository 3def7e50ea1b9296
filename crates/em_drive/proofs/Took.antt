-- What a take of a core comes to: a context, an acknowledgement, nothing for now, or the end.
use Rattle.std.proofs.Common.{◌≡◌, ◌+◌, ◌<◌, ℕ, Bool, true, false, not, ◌&&◌, List, [], ◌∷◌, length, Some, None, refl, sym, subst, arith}
use Rattle.std.specs.Prelude.{IsTrue}
use Rattle.em_log.specs.declared.ask.Answer.{Answer}
use Rattle.em_log.specs.declared.ask.Context.{Context}
use Rattle.em_log.specs.declared.declarations.Declarations.{Declarations}
use Rattle.em_log.specs.declared.entry.Body.{Body}
use Rattle.em_log.specs.declared.entry.Entry.{Entry}
use Rattle.em_log.specs.declared.entry.What.{What}
use Rattle.em_log.specs.declared.graph.Config.{Config}
use Rattle.em_log.specs.declared.ids.EndKind.{EndKind}
use Rattle.em_log.specs.declared.ids.Limits.{Limits}
use Rattle.em_log.specs.declared.ids.OpId.{OpId}
use Rattle.em_log.specs.Answers.{Takes, Halted, Boots, Early, Enters, Acks, Receives, Rests, RestAnswer, block, end_of}
use Rattle.em_log.specs.Contexts.{context}
use Rattle.em_log.specs.Declarations.{declarations_of}
use Rattle.em_log.specs.Eligible.{is_idle, is_wanted, is_quiet, is_at_limit, take_size, ticket_drawn}
use Rattle.em_log.specs.History.{Past, entry_by, onto}
use Rattle.em_log.specs.Tails.{tail, tail_of}
use Rattle.em_moments.proofs.Asked.{and-true}
use Rattle.em_desk.specs.State.{IsWaited}
use Rattle.em_drive.specs.Going.{IsGrownBy, IsIdle}
use Rattle.em_drive.proofs.Opening.{IsOpened, boot-opened, receive-opened, step-opened}

-- a block adds something

length-onto : (es : List Entry) (past : Past) → length (onto es past) ≡ length es + length past
length-onto [] past = omega arith
length-onto (e ∷ es) past = let rest = length-onto es (e ∷ past) in omega (arith, rest)

pub block-grows : (k : Declarations) (past : Past) (e : Entry) → length past < length (block k past e)
block-grows k past e = let all = length-onto (tail k past e) (e ∷ past) in omega (arith, all)

-- and all of it is of the core of its first entry
pub block-grown : (k : Declarations) (past : Past) (c : ℕ) (w : What) → IsGrownBy c past (block k past (entry_by c w))
block-grown k past c w = (w ∷ tail_of k past (entry_by c w ∷ past) c w, refl)

-- a context has been opened, a change acknowledged, the core is idle, or the history has ended so
pub data Took (g : Config) (l : Limits) (past : Past) (c : ℕ) (x : Answer) (now : Past) : Type 0 where
  Opens : (opened : Context) → x ≡ Answer.Context opened → IsOpened g past now c opened → length past < length now → Took g l past c x now
  Acknowledges : (op : OpId) → x ≡ Answer.Acked op → now ≡ block (declarations_of g) past (entry_by c (What.Ack op)) → Took g l past c x now
  Idles : x ≡ Answer.Idle → now ≡ past → IsIdle g l past c → Took g l past c x now
  EndsQuiet : x ≡ Answer.Quiet → now ≡ past → end_of (declarations_of g) l past ≡ Some EndKind.Quiet → Took g l past c x now
  EndsAtLimit : x ≡ Answer.Limit → now ≡ past → end_of (declarations_of g) l past ≡ Some EndKind.Limit → Took g l past c x now

-- the end

quiet-ends : (k : Declarations) (l : Limits) (past : Past) → IsTrue (is_quiet k past) → end_of k l past ≡ Some EndKind.Quiet
quiet-ends k l past quiet = rw quiet refl

not-both : (b : Bool) (a : Bool) → b ≡ true → (a && not b) ≡ false
not-both true true is = refl
not-both true false is = refl
not-both false a is = absurd cc

limit-ends : (k : Declarations) (l : Limits) (past : Past) → IsTrue (is_at_limit k l past) → end_of k l past ≡ Some EndKind.Limit
limit-ends k l past limit =
    let wanted = (and-true _ (is_wanted k past) limit).1 in
    let loud : is_quiet k past ≡ false = not-both (is_wanted k past) (is_idle k past) wanted in
    rw (loud, limit) refl

idles : (g : Config) (l : Limits) (past now : Past) (c : ℕ) (x : Answer) → let k = declarations_of g in
    context past c ≡ None → Takes k l false past c x now → (x ≡ Answer.Idle → IsWaited k l past c) → x ≡ Answer.Idle → now ≡ past → Took g l past c x now
idles g l past now c x closed takes waited is same =
    Idles is same
    (record {
      closed = closed;
      takes = subst (λ (h : Past). Takes (declarations_of g) l false past c Answer.Idle h) same
          (subst (λ (y : Answer). Takes (declarations_of g) l false past c y now) is takes);
      waited = waited is;
    })

rests : (g : Config) (l : Limits) (past now : Past) (c : ℕ) (x : Answer) → (x ≡ Answer.Idle → Took g l past c x now) → now ≡ past
    → RestAnswer (declarations_of g) l past x → Took g l past c x now
rests g l past now c Answer.Quiet idle same rest = EndsQuiet refl same (quiet-ends (declarations_of g) l past rest)
rests g l past now c Answer.Limit idle same rest = EndsAtLimit refl same (limit-ends (declarations_of g) l past rest)
rests g l past now c Answer.Idle idle same rest = idle refl
rests g l past now c x idle same rest = absurd rest

-- a take with a burst of 1 between contexts
pub took : (g : Config) (l : Limits) (past now : Past) (c : ℕ) (x : Answer) → let k = declarations_of g in
    l.burst ≡ 1 → context past c ≡ None → (x ≡ Answer.Idle → IsWaited k l past c) → Takes k l false past c x now
    → Took g l past c x now
took g l past now c x burst closed waited (Halted halts is same) = absurd cc
took g l past now c x burst closed waited (Boots going first is new) =
    Opens Context.Boot is (subst (λ (h : Past). IsOpened g past h c Context.Boot) (sym new) (boot-opened g past c)) (rw new (omega arith))
took g l past now c x burst closed waited (Early going second early is same) =
    idles g l past now c x closed (Early going second early is same) waited is same
took g l past now c x burst closed waited (Enters b opened going booted owed new told is) =
    Opens opened is (step-opened g past now c b opened owed new told) (rw new (block-grows (declarations_of g) past (entry_by c (What.Enter b))))
took g l past now c x burst closed waited (Acks op going booted owed new is) = Acknowledges (record { 0 = op }) is new
took g l past now c x burst closed waited (Receives q opened going booted none choice new told is) =
    let k = declarations_of g in
    Opens opened is (receive-opened g l past now c q opened burst choice new told)
    (rw new (block-grows k past (entry_by c (What.Take (record { 0 = q }) (take_size k l past c q) (ticket_drawn k past q)))))
took g l past now c x burst closed waited (Rests going booted none no_choice rest same) =
    rests g l past now c x (λ i. idles g l past now c x closed (Rests going booted none no_choice rest same) waited i same) same rest

-- the entries of a take are of its core
pub takes-grown : (k : Declarations) (l : Limits) (halted : Bool) (past now : Past) (c : ℕ) (x : Answer) → Takes k l halted past c x now
    → IsGrownBy c past now
takes-grown k l halted past now c x (Halted halts is same) = ([], same)
takes-grown k l halted past now c x (Boots going first is new) = (What.Enter Body.Boot ∷ [], new)
takes-grown k l halted past now c x (Early going second early is same) = ([], same)
takes-grown k l halted past now c x (Enters b opened going booted owed new told is) =
    subst (IsGrownBy c past) (sym new) (block-grown k past c (What.Enter b))
takes-grown k l halted past now c x (Acks op going booted owed new is) =
    subst (IsGrownBy c past) (sym new) (block-grown k past c (What.Ack (record { 0 = op })))
takes-grown k l halted past now c x (Receives q opened going booted none choice new told is) =
    subst (IsGrownBy c past) (sym new) (block-grown k past c (What.Take (record { 0 = q }) (take_size k l past c q) (ticket_drawn k past q)))
takes-grown k l halted past now c x (Rests going booted none no_choice rest same) = ([], same)
