-- A context that a take has opened: its reading begins, and the core's list has the entries of the take.
use Rattle.std.proofs.Common.{◌≡◌, ℕ, suc, ◌-◌, ◌<◌, ◌≤◌, Bool, true, false, min, List, [], ◌∷◌, length, map, take, drop, Option, Some, None, refl, sym, ◌∙◌, ap, subst, arith, is_some, nat_lt, if◌then◌else◌, IsTrue}
use Rattle.std.specs.Option.{option_map, option_and_then}
use Rattle.std.proofs.lemmas.Bool.{ltb-true}
use Rattle.em_log.specs.declared.ask.Context.{Context}
use Rattle.em_log.specs.declared.ask.Receive.{Receive}
use Rattle.em_log.specs.declared.declarations.Declarations.{Declarations}
use Rattle.em_log.specs.declared.entry.Body.{Body}
use Rattle.em_log.specs.declared.entry.Event.{Event}
use Rattle.em_log.specs.declared.entry.What.{What}
use Rattle.em_log.specs.declared.graph.Config.{Config}
use Rattle.em_log.specs.declared.ids.EoId.{EoId}
use Rattle.em_log.specs.declared.ids.Limits.{Limits}
use Rattle.em_log.specs.declared.ids.QueueId.{QueueId}
use Rattle.em_log.specs.declared.ids.Stamp.{Stamp}
use Rattle.em_log.specs.Answers.{block, context_told, context_from, object_id, cells_as, taken_as}
use Rattle.em_log.specs.Arrivals.{Item}
use Rattle.em_log.specs.Atomic.{holds, cells, if_holder}
use Rattle.em_log.specs.Contexts as log
use Rattle.em_log.specs.Declarations.{atomic_of, declarations_of, is_atomic, kind_of, object_of}
use Rattle.em_log.specs.Eligible.{eligible, is_best, is_choice, ready, take_size, ticket_drawn}
use Rattle.em_log.specs.Expressions.{Env}
use Rattle.em_log.specs.History.{Past, entry_by, entries_by, onto, part}
use Rattle.em_log.specs.Leads.{item_again}
use Rattle.em_log.specs.Legal.{leads, whats, opening, plain_env, AreLeads, EndedFollow}
use Rattle.em_log.specs.Operations.{Operation, operation, step}
use Rattle.em_log.specs.Order.{Ticket, open_ticket}
use Rattle.em_log.specs.Places.{promised, taken, waiting}
use Rattle.em_log.specs.Tails.{first_start}
use Rattle.em_moments.proofs.Asked.{and-true}
use Rattle.em_moments.proofs.Choices.{choice-ready}
use Rattle.em_moments.proofs.Steps.{Owes, OwesAck, OwesGlobalStart, OwesLocalStart, OwesLocalStop, OwesGlobalStop, step-owes}
use Rattle.em_core.specs.Pieces.{Piece, HasNoRest, begun_by, history}
use Rattle.em_core.proofs.Histories.{own}
use Rattle.em_body.specs.Standings as work
use Rattle.em_drive.specs.Readings.{IsReading}

-- core c's open context is one that the history's last entries have opened
pub record IsOpened (g : Config) (past now : Past) (c : ℕ) (context : Context) : Type 0 where
  pub reading : IsReading g now c context [] []
  pub no_rest : HasNoRest context
  -- a list that stands for the core's part before stands for the one after, with this context
  pub own : (m : List Piece) → history c m ≡ part past c → history c (Piece.Opened context ∷ m) ≡ part now c
  -- no context has ended
  pub kept : EndedFollow g past → EndedFollow g now

-- contexts that an entry begins

-- the context of this body, whose object is x
abbrev context_of : Body → EoId → Context
context_of Body.Boot x = Context.Boot
context_of (Body.GlobalStart op) x = Context.GlobalStart op x
context_of (Body.LocalStart op) x = Context.LocalStart op x
context_of (Body.LocalStop op) x = Context.LocalStop op x
context_of (Body.GlobalStop op) x = Context.GlobalStop op x

-- boot has no object, and each other context one
abbrev HasObject : Body → Option ℕ → Type 0
HasObject Body.Boot o = o ≡ None
HasObject b o = (x : ℕ) × (o ≡ Some x)

-- what is so of the context of each body
record IsContextOf (c : ℕ) (b : Body) (x : EoId) (context : Context) : Type 0 where
  begun : begun_by context ≡ What.Enter b
  first : work.opening c context ≡ plain_env c
  no_rest : HasNoRest context
  own : (m : List Piece) → history c (Piece.Opened context ∷ m) ≡ entry_by c (What.Enter b) ∷ history c m

is-context : (c : ℕ) (b : Body) (x : EoId) → IsContextOf c b x (context_of b x)
is-context c Body.Boot x = record { begun = refl; first = refl; no_rest = tt; own = λ m. refl }
is-context c (Body.GlobalStart op) x = record { begun = refl; first = refl; no_rest = tt; own = λ m. refl }
is-context c (Body.LocalStart op) x = record { begun = refl; first = refl; no_rest = tt; own = λ m. refl }
is-context c (Body.LocalStop op) x = record { begun = refl; first = refl; no_rest = tt; own = λ m. refl }
is-context c (Body.GlobalStop op) x = record { begun = refl; first = refl; no_rest = tt; own = λ m. refl }

known-object : (o : Option ℕ) (x : ℕ) → o ≡ Some x → o ≡ Some (object_id o).0
known-object o x is = rw is refl

has-object : (b : Body) (o : Option ℕ) → HasObject b o → o ≡ work.object_of (context_of b (object_id o))
has-object Body.Boot o none = none
has-object (Body.GlobalStart op) o some = known-object o some.0 some.1
has-object (Body.LocalStart op) o some = known-object o some.0 some.1
has-object (Body.LocalStop op) o some = known-object o some.0 some.1
has-object (Body.GlobalStop op) o some = known-object o some.0 some.1

told-of : (k : Declarations) (now : Past) (c : ℕ) (b : Body) → context_from k now c (What.Enter b) ≡ Some (context_of b (object_id (log.context_object k now c)))
told-of k now c Body.Boot = refl
told-of k now c (Body.GlobalStart op) = refl
told-of k now c (Body.LocalStart op) = refl
told-of k now c (Body.LocalStop op) = refl
told-of k now c (Body.GlobalStop op) = refl

same-context : (a b : Context) (o : Option Context) → o ≡ Some a → o ≡ Some b → a ≡ b
same-context a b o first second = cc

-- an entry that begins a context opens it
entered-opened : (g : Config) (past : Past) (c : ℕ) (b : Body) → HasObject b (log.body_object past b)
    → let now = entry_by c (What.Enter b) ∷ past in
    IsOpened g past now c (context_of b (object_id (log.context_object (declarations_of g) now c)))
entered-opened g past c b object =
    let k = declarations_of g in
    let now : Past = entry_by c (What.Enter b) ∷ past in
    let begun : log.context now c ≡ Some (What.Enter b) = own c _ _ in
    let object_now : log.context_object k now c ≡ log.body_object past b = ap (log.object_begun k now) begun ∙ same-object past c b in
    let x : EoId = object_id (log.context_object k now c) in
    let has : HasObject b (log.context_object k now c) = subst (HasObject b) (sym object_now) object in
    let told = is-context c b x in
    let none : leads k now c ≡ [] = own c _ _ in
    let unheld : holds k now c ≡ None = ap (λ (o : Option What). option_and_then (if_holder k now c) (option_and_then (atomic_of k) (log.received_queue o))) begun in
    record {
      reading = record {
        begun = begun ∙ ap Some (sym told.begun);
        object = has-object b (log.context_object k now c) has;
        first = own c _ _ ∙ sym told.first;
        hold = ap (λ (o : Option ℕ). is_some o) unheld ∙ sym (ap (λ (v : Env). is_some v.cells) told.first);
        entries = ap whats none;
        read = tt;
        each = subst (AreLeads k c []) (sym none) tt;
        cost = rw none (omega arith);
      };
      no_rest = told.no_rest;
      own = λ m same. told.own m ∙ ap (λ (h : Past). entry_by c (What.Enter b) ∷ h) same ∙ sym (own c _ _);
      kept = λ ended. (tt, ended);
    }
  where
    same-object : (past : Past) (c : ℕ) (b : Body) → log.body_object (entry_by c (What.Enter b) ∷ past) b ≡ log.body_object past b
    same-object past c Body.Boot = refl
    same-object past c (Body.GlobalStart op) = refl
    same-object past c (Body.LocalStart op) = refl
    same-object past c (Body.LocalStop op) = refl
    same-object past c (Body.GlobalStop op) = refl

pub boot-opened : (g : Config) (past : Past) (c : ℕ) → IsOpened g past (entry_by c (What.Enter Body.Boot) ∷ past) c Context.Boot
boot-opened g past c = entered-opened g past c Body.Boot refl

-- the object of an operation that has begun
begun-object : (past : Past) (n : ℕ) (o : Operation) (x : ℕ) → operation past n ≡ Some o → log.object_in o.job ≡ Some x
    → (y : ℕ) × (log.operation_object past n ≡ Some y)
begun-object past n o x is job = (x, ap (option_and_then (λ (p : Operation). log.object_in p.job)) is ∙ job)

same-body : (a b : Body) → What.Enter a ≡ What.Enter b → a ≡ b
same-body a b is = cc is

-- the body of a step that is owed has an object
owed-object : (k : Declarations) (past : Past) (c : ℕ) (b : Body) → Owes k past c (What.Enter b) → HasObject b (log.body_object past b)
owed-object k past c b (OwesAck n o g m is job un e) = absurd cc
owed-object k past c b (OwesGlobalStart n o x is job none core e) =
    subst (λ (d : Body). HasObject d (log.body_object past d)) (sym (same-body b _ e)) (begun-object past n o x.0 is (ap log.object_in job))
owed-object k past c b (OwesLocalStart n o x is job done un e) =
    subst (λ (d : Body). HasObject d (log.body_object past d)) (sym (same-body b _ e)) (begun-object past n o x.0 is (ap log.object_in job))
owed-object k past c b (OwesLocalStop n o x is job none un e) =
    subst (λ (d : Body). HasObject d (log.body_object past d)) (sym (same-body b _ e)) (begun-object past n o x.0 is (ap log.object_in job))
owed-object k past c b (OwesGlobalStop n o x is job none at last e) =
    subst (λ (d : Body). HasObject d (log.body_object past d)) (sym (same-body b _ e)) (begun-object past n o x.0 is (ap log.object_in job))

-- a step that begins a context opens it
pub step-opened : (g : Config) (past now : Past) (c : ℕ) (b : Body) (context : Context) → let k = declarations_of g in
    step k past c ≡ Some (What.Enter b) → now ≡ block k past (entry_by c (What.Enter b)) → context_told k now c ≡ Some context
    → IsOpened g past now c context
step-opened g past now c b context owed is opens =
    let k = declarations_of g in
    let after : Past = entry_by c (What.Enter b) ∷ past in
    let begun : log.context after c ≡ Some (What.Enter b) = own c _ _ in
    let told : context_told k after c ≡ Some (context_of b (object_id (log.context_object k after c))) =
    ap (option_and_then (context_from k after c)) begun ∙ told-of k after c b in
    let shown : context_told k after c ≡ Some context = subst (λ (h : Past). context_told k h c ≡ Some context) is opens in
    let same = same-context _ context (context_told k after c) told shown in
    subst (λ (h : Past). IsOpened g past h c context) (sym is)
    (subst (λ (o : Context). IsOpened g past after c o) same
    (entered-opened g past c b (owed-object k past c b (step-owes k past c (What.Enter b) owed))))

-- receives

-- core c has taken one event from the queue, with this ticket, and started it
abbrev taken_one : Past → ℕ → QueueId → Option ℕ → Event → Option Stamp → Past
taken_one past c q t e s = entry_by c (What.Start q e s) ∷ entry_by c (What.Take q 1 t) ∷ past

-- its context, as it is told
abbrev told : Declarations → Past → ℕ → QueueId → Event → Option Stamp → Receive
told k now c q e s =
    record {
      queue = q;
      eo = object_id (log.context_object k now c);
      event = e;
      stamp = s;
      ticket = option_map (λ t. t.number) (open_ticket now c);
      cells = option_map (λ a. cells_as (cells k now a)) (holds k now c);
      rest = map (taken_as now) (taken k now c);
    }

taken_one-begun : (past : Past) (c : ℕ) (q : QueueId) (t : Option ℕ) (e : Event) (s : Option Stamp)
    → log.context (taken_one past c q t e s) c ≡ Some (What.Start q e s)
taken_one-begun past c q t e s = own c _ _

taken_one-told : (k : Declarations) (past : Past) (c : ℕ) (q : QueueId) (t : Option ℕ) (e : Event) (s : Option Stamp)
    → let now = taken_one past c q t e s in
    context_told k now c ≡ Some (Context.Receive (told k now c q e s))
taken_one-told k past c q t e s =
    ap (option_and_then (context_from k (taken_one past c q t e s) c)) (taken_one-begun past c q t e s)

taken_one-leads : (k : Declarations) (past : Past) (c : ℕ) (q : QueueId) (t : Option ℕ) (e : Event) (s : Option Stamp)
    → leads k (taken_one past c q t e s) c ≡ []
taken_one-leads k past c q t e s = own c _ _

number-of : (q : ℕ) (t : Option ℕ)
    → option_map (λ (x : Ticket). x.number) (option_map (λ n. record { queue = q; number = n }) t) ≡ t
number-of q None = refl
number-of q (Some n) = refl

taken_one-ticket : (past : Past) (c : ℕ) (q : QueueId) (t : Option ℕ) (e : Event) (s : Option Stamp)
    → option_map (λ (x : Ticket). x.number) (open_ticket (taken_one past c q t e s) c) ≡ t
taken_one-ticket past c q t e s =
    ap (option_map (λ (x : Ticket). x.number)) (own c _ _ ∙ own c _ _) ∙ number-of q.0 t

same-cells : (k : Declarations) (now : Past) (o : Option ℕ)
    → option_map (cells k now) o ≡ option_map (λ cs. cs.0) (option_map (λ a. cells_as (cells k now a)) o)
same-cells k now None = refl
same-cells k now (Some a) = refl

taken_one-first : (k : Declarations) (past : Past) (c : ℕ) (q : QueueId) (t : Option ℕ) (e : Event) (s : Option Stamp)
    → let now = taken_one past c q t e s in
    opening k now c ≡ work.opening c (Context.Receive (told k now c q e s))
taken_one-first k past c q t e s =
    let now = taken_one past c q t e s in
    own c _ _
    ∙ ap (λ (cs : Option (List ℕ)). record (plain_env c) {
      event = record { kind = e.kind; words = e.words };
      me = e.handle.0;
      queue = q.0;
      cells = cs;
    }) (same-cells k now (holds k now c))

some-cells : (k : Declarations) (now : Past) (o : Option ℕ)
    → is_some o ≡ is_some (option_map (λ cs. cs.0) (option_map (λ a. cells_as (cells k now a)) o))
some-cells k now None = refl
some-cells k now (Some a) = refl

taken_one-reading : (g : Config) (past : Past) (c : ℕ) (q : QueueId) (t : Option ℕ) (e : Event) (s : Option Stamp) (x : ℕ)
    → object_of (declarations_of g) q.0 ≡ Some x
    → let now = taken_one past c q t e s in
    IsReading g now c (Context.Receive (told (declarations_of g) now c q e s)) [] []
taken_one-reading g past c q t e s x is =
    let k = declarations_of g in
    let now = taken_one past c q t e s in
    let none = taken_one-leads k past c q t e s in
    let object : log.context_object k now c ≡ Some x = ap (log.object_begun k now) (taken_one-begun past c q t e s) ∙ is in
    record {
      begun = taken_one-begun past c q t e s;
      object = known-object (log.context_object k now c) x object;
      first = taken_one-first k past c q t e s;
      hold = some-cells k now (holds k now c);
      entries = ap whats none;
      read = tt;
      each = subst (AreLeads k c []) (sym none) tt;
      cost = rw none (omega arith);
    }

taken_one-opens : (g : Config) (past : Past) (c : ℕ) (q : QueueId) (t : Option ℕ) (e : Event) (s : Option Stamp) (x : ℕ)
    → object_of (declarations_of g) q.0 ≡ Some x
    → let now = taken_one past c q t e s in
    taken (declarations_of g) now c ≡ []
    → IsOpened g past now c (Context.Receive (told (declarations_of g) now c q e s))
taken_one-opens g past c q t e s x is none =
    let now = taken_one past c q t e s in
    let r = told (declarations_of g) now c q e s in
    let rest : r.rest ≡ [] = ap (map (taken_as now)) none in
    record {
      reading = taken_one-reading g past c q t e s x is;
      no_rest = rest;
      own = λ m same.
          ap (λ (h : Past). entry_by c (What.Start q e s) ∷ entry_by c (What.Take q (suc (length r.rest)) r.ticket) ∷ h) same
          ∙ ap (λ (n : ℕ). entry_by c (What.Start q e s) ∷ entry_by c (What.Take q (suc n) r.ticket) ∷ part past c) (ap length rest)
          ∙ ap (λ (o : Option ℕ). taken_one (part past c) c q o e s) (taken_one-ticket past c q t e s)
          ∙ sym (part-one past c q t e s);
      kept = λ ended. (tt, (tt, ended));
    }
  where
    part-one : (past : Past) (c : ℕ) (q : QueueId) (t : Option ℕ) (e : Event) (s : Option Stamp)
        → part (taken_one past c q t e s) c ≡ taken_one (part past c) c q t e s
    part-one past c q t e s = own c _ _ ∙ ap (λ (h : Past). entry_by c (What.Start q e s) ∷ h) (own c _ _)

-- what the take of a choice adds

one-taken : (k : Declarations) (past : Past) (c q : ℕ) (t : Option ℕ) (x : Item) (xs : List Item) → waiting k past q c ≡ x ∷ xs
    → taken k (entry_by c (What.Take (record { 0 = q }) 1 t) ∷ past) c ≡ x ∷ []
one-taken k past c q t x xs waits = own c _ _ ∙ ap (take 1) waits

block-of-one : (k : Declarations) (past : Past) (c q n : ℕ) (t : Option ℕ) (x : Item) (xs : List Item) → n ≡ 1
    → waiting k past q c ≡ x ∷ xs
    → let took = entry_by c (What.Take (record { 0 = q }) 1 t) in
    block k past (entry_by c (What.Take (record { 0 = q }) n t))
    ≡ taken_one past c (record { 0 = q }) t (item_again (took ∷ past) x) x.stamp
block-of-one k past c q n t x xs one waits =
    let took = entry_by c (What.Take (record { 0 = q }) 1 t) in
    ap (λ (m : ℕ). block k past (entry_by c (What.Take (record { 0 = q }) m t))) one
    ∙ ap (λ (ys : List Item). onto (entries_by c (first_start (took ∷ past) q ys)) (took ∷ past)) (one-taken k past c q t x xs waits)

none-left : (k : Declarations) (past : Past) (c q : ℕ) (t : Option ℕ) (e : Event) (s : Option Stamp) (x : Item) (xs : List Item)
    → waiting k past q c ≡ x ∷ xs → taken k (taken_one past c (record { 0 = q }) t e s) c ≡ []
none-left k past c q t e s x xs waits = own c _ _ ∙ ap (drop 1) (one-taken k past c q t x xs waits)

min-one : (n m : ℕ) → 1 ≤ n → 1 ≤ m → min 1 (min n m) ≡ 1
min-one n m some others = omega (arith, some, others)

-- with a burst of 1, one event is taken at a time
pub size-one : (k : Declarations) (l : Limits) (past : Past) (c q : ℕ) → l.burst ≡ 1 → IsTrue (is_choice k l past c q) → take_size k l past c q ≡ 1
size-one k l past c q burst choice = by_kind (is_atomic (kind_of k q))
  where
    below-limit : promised k past < l.receives
    below-limit =
        ltb-true (promised k past) l.receives
        (and-true (ready k past c q) (nat_lt (promised k past) l.receives) (and-true (eligible k l past c q) (is_best k l past c q) choice).0).1

    waits : 1 ≤ length (waiting k past q c)
    waits = let ready = choice-ready k l past c q choice in let is = ap length ready.waits.1.1 in omega (arith, is)

    by_kind : (b : Bool) → (if b then min l.burst (min (length (waiting k past q c)) (l.receives - promised k past)) else 1) ≡ 1
    by_kind false = refl
    by_kind true =
        ap (λ (n : ℕ). min n (min (length (waiting k past q c)) (l.receives - promised k past))) burst
        ∙ min-one (length (waiting k past q c)) (l.receives - promised k past) waits (let lt = below-limit in omega (arith, lt))

-- a take of one event opens its receive
pub receive-opened : (g : Config) (l : Limits) (past now : Past) (c q : ℕ) (context : Context)
    → let k = declarations_of g in
    l.burst ≡ 1 → IsTrue (is_choice k l past c q)
    → now ≡ block k past (entry_by c (What.Take (record { 0 = q }) (take_size k l past c q) (ticket_drawn k past q)))
    → context_told k now c ≡ Some context → IsOpened g past now c context
receive-opened g l past now c q context burst choice is opens =
    let k = declarations_of g in
    let one = size-one k l past c q burst choice in
    let ready = choice-ready k l past c q choice in
    let x = ready.waits.0 in
    let xs = ready.waits.1.0 in
    let waits = ready.waits.1.1 in
    let t = ticket_drawn k past q in
    let queue : QueueId = record { 0 = q } in
    let e = item_again (entry_by c (What.Take queue 1 t) ∷ past) x in
    let after = taken_one past c queue t e x.stamp in
    let grown : now ≡ after = is ∙ block-of-one k past c q (take_size k l past c q) t x xs one waits in
    let shown : context_told k after c ≡ Some context = subst (λ (h : Past). context_told k h c ≡ Some context) grown opens in
    let same : Context.Receive (told k after c queue e x.stamp) ≡ context =
    same-context _ _ (context_told k after c) (taken_one-told k past c queue t e x.stamp) shown in
    let opened = taken_one-opens g past c queue t e x.stamp ready.runs.0 ready.runs.1.0
    (none-left k past c q t e x.stamp x xs waits) in
    subst (λ (h : Past). IsOpened g past h c context) (sym grown)
    (subst (λ (o : Context). IsOpened g past after c o) same opened)
