-- What the desk's calls do to the items.
use Rattle.std.proofs.Common.{◌≡◌, inl, ℕ, ◌≤◌, ◌<◌, Bool, true, List, [], ◌∷◌, ◌++◌, length, Option, Some, None, IfSome, is_some, refl, sym, ap, ◌∙◌, subst, append-nil, if◌then◌else◌}
use Rattle.em_log.specs.declared.ask.Answer.{Answer}
use Rattle.em_log.specs.declared.ask.Ask.{Ask}
use Rattle.em_log.specs.declared.ask.Reply.{Reply}
use Rattle.em_log.specs.declared.declarations.Declarations.{Declarations}
use Rattle.em_log.specs.declared.entry.Body.{Body}
use Rattle.em_log.specs.declared.entry.Entry.{Entry}
use Rattle.em_log.specs.declared.entry.What.{What}
use Rattle.em_log.specs.declared.ids.CoreId.{CoreId}
use Rattle.em_log.specs.declared.ids.Limits.{Limits}
use Rattle.em_log.specs.Answers.{Takes, Halted as HaltedTake, Boots, Early, Enters, Acks, Receives, Rests}
use Rattle.em_log.specs.Eligible.{take_size, ticket_drawn}
use Rattle.em_log.specs.History.{Past, entry_by, entries_by, onto}
use Rattle.em_log.specs.Items.{Halted}
use Rattle.em_log.specs.Lawful.{Lawful}
use Rattle.em_log.specs.Leads.{lead}
use Rattle.em_log.specs.Tails.{tail, tail_of}
use Rattle.em_desk.specs.State.{DeskState, IsAnswered, IsSameRun}
use Rattle.em_turn.specs.Numbers.{OnlyOf}
use Rattle.em_board.specs.declared.shared_desk.Mark.{Mark}
use Rattle.em_board.specs.Marked.{history, is_marked, logged, shown}
use Rattle.em_board.specs.SharedDesks.{SharedState, fixed_of, desk_in, IsMarked, Grows, TakeAnswered, SharedTook, SharedAnswered}
use Rattle.em_board.proofs.Marked.{history-shown, marked-shown, shown-grows, longer-place, shown-marked}

abbrev pub view_of : DeskState → Option Mark → SharedState
view_of d m = record { fixed = fixed_of d.declarations d.limits; items = shown d.past m }

-- the items tell the desk
pub desk-same : (d : DeskState) (m : Option Mark) → IsMarked d m → desk_in (view_of d m) ≡ d
desk-same d m is = λ i. record { declarations = d.declarations; limits = d.limits; past = history-shown d.past m i; halted = (marked-shown d.past m ∙ sym is.halted) i }

pub told-desk : (d : DeskState) (m : Option Mark) (s : SharedState) → IsMarked d m → view_of d m ≡ s → desk_in s ≡ d
told-desk d m s is shows = ap desk_in (sym shows) ∙ desk-same d m is

pub lawful-shown : (d : DeskState) (m : Option Mark) → Lawful d.declarations d.limits d.past → Lawful d.declarations d.limits (history (shown d.past m))
lawful-shown d m lawful = subst (Lawful d.declarations d.limits) (sym (history-shown d.past m)) lawful

pub only-by : (c : ℕ) (ws : List What) → OnlyOf (c ∷ []) (logged (entries_by c ws))
only-by c [] = tt
only-by c (w ∷ ws) = (inl refl, only-by c ws)

pub only-block : (k : Declarations) (past : Past) (c : ℕ) (w : What) → OnlyOf (c ∷ []) (logged (entry_by c w ∷ tail k past (entry_by c w)))
only-block k past c w = (inl refl, only-by c (tail_of k past (entry_by c w ∷ past) c w))

-- the entries of a take
pub record TakeGrows (past now : Past) (c : ℕ) : Type 0 where
  pub entries : List Entry
  pub is : now ≡ onto entries past
  pub only : OnlyOf (c ∷ []) (logged entries)

no-entries : (past now : Past) (c : ℕ) → now ≡ past → TakeGrows past now c
no-entries past now c e = record { entries = []; is = e; only = tt }

block-entries : (k : Declarations) (past now : Past) (c : ℕ) (w : What) → now ≡ onto (tail k past (entry_by c w)) (entry_by c w ∷ past) → TakeGrows past now c
block-entries k past now c w e = record { entries = entry_by c w ∷ tail k past (entry_by c w); is = e; only = only-block k past c w }

pub take-grows : (k : Declarations) (l : Limits) (halted : Bool) (past : Past) (c : ℕ) (answer : Answer) (now : Past) → Takes k l halted past c answer now → TakeGrows past now c
take-grows k l halted past c answer now (HaltedTake h a e) = no-entries past now c e
take-grows k l halted past c answer now (Boots h f a e) = record { entries = entry_by c (What.Enter Body.Boot) ∷ []; is = e; only = (inl refl, tt) }
take-grows k l halted past c answer now (Early h f b a e) = no-entries past now c e
take-grows k l halted past c answer now (Enters b context h ended s e told a) = block-entries k past now c (What.Enter b) e
take-grows k l halted past c answer now (Acks op h ended s e a) = block-entries k past now c (What.Ack (record { 0 = op })) e
take-grows k l halted past c answer now (Receives q context h ended s choice e told a) = block-entries k past now c (What.Take (record { 0 = q }) (take_size k l past c q) (ticket_drawn k past q)) e
take-grows k l halted past c answer now (Rests h ended s none rest e) = no-entries past now c e

-- the mark stands in a longer history too
pub still-marked : (d d' : DeskState) (m : Option Mark) (es : List Entry) → IsMarked d m → IsSameRun d d' → d'.past ≡ onto es d.past → IsMarked d' m
still-marked d d' m es is run e =
    record {
      halted = run.halted ∙ is.halted;
      place = subst (λ (h : Past). IfSome m (λ x. x.place ≤ length h)) (sym e) (longer-place m es d.past is.place);
      core = subst (λ (k : Declarations). IfSome m (λ x. x.core.0 < k.cores)) (sym run.declarations) is.core;
    }

grows : (d d' : DeskState) (m : Option Mark) (c : ℕ) (es : List Entry) → IsMarked d m → IsSameRun d d' → d'.past ≡ onto es d.past → OnlyOf (c ∷ []) (logged es)
    → Lawful d'.declarations d'.limits d'.past → Grows (view_of d m) (view_of d' m) c es
grows d d' m c es is run e only lawful =
    record {
      items = ap (λ (h : Past). shown h m) e ∙ shown-grows m es d.past is.place;
      only = only;
      fixed = λ i. record { declarations = run.declarations i; limits = run.limits i };
      lawful = lawful-shown d' m lawful;
    }

pub asked-marked : (d d' : DeskState) (m : Option Mark) (c : ℕ) (w : What) (reply : Reply) → IsMarked d m → IsAnswered d d' c w reply → IsMarked d' m
asked-marked d d' m c w reply is a = still-marked d d' m (entry_by c w ∷ tail d.declarations d.past (entry_by c w)) is a.run a.past

pub asked : (d d' : DeskState) (m : Option Mark) (c : ℕ) (ask : Ask) (reply : Reply) → IsMarked d m → IsAnswered d d' c (lead d.declarations d.past c ask) reply
    → Lawful d'.declarations d'.limits d'.past → SharedAnswered (view_of d m) (view_of d' m) c ask reply
asked d d' m c ask reply is a lawful =
    let w = lead d.declarations d.past c ask in
    let es : List Entry = entry_by c w ∷ tail d.declarations d.past (entry_by c w) in
    record {
      entries = es;
      grows = grows d d' m c es is a.run a.past (only-block d.declarations d.past c w) lawful;
      answered = subst (λ (y : DeskState). IsAnswered (desk_in (view_of d m)) y c (lead d.declarations (history (shown d.past m)) c ask) reply)
          (sym (desk-same d' m (asked-marked d d' m c w reply is a)))
          (subst (λ (x : DeskState). IsAnswered x d' c (lead x.declarations x.past c ask) reply) (sym (desk-same d m is)) a);
    }

pub took : (d d' : DeskState) (m : Option Mark) (c : ℕ) (reply : Reply) → IsMarked d m → TakeAnswered d d' c reply → IsSameRun d d'
    → Lawful d'.declarations d'.limits d'.past → SharedTook (view_of d m) (view_of d' m) c reply
took d d' m c reply is a run lawful =
    let g = take-grows d.declarations d.limits d.halted d.past c reply.answer d'.past a.takes in
    record {
      entries = g.entries;
      grows = grows d d' m c g.entries is run g.is g.only lawful;
      answered = subst (λ (y : DeskState). TakeAnswered (desk_in (view_of d m)) y c reply)
          (sym (desk-same d' m (still-marked d d' m g.entries is run g.is)))
          (subst (λ (x : DeskState). TakeAnswered x d' c reply) (sym (desk-same d m is)) a);
    }

-- halts

pub halted-now : (c : CoreId) (past : Past) (m : Option Mark) (n : ℕ) → m ≡ None → n ≡ length past
    → shown past (Some (record { core = c; place = n })) ≡ shown past m ++ (if is_marked (shown past m) then [] else Halted c ∷ [])
halted-now c past m n none is =
    ap (λ (p : ℕ). shown past (Some (record { core = c; place = p }))) is ∙ shown-marked c past
    ∙ ap (λ (b : Bool). shown past None ++ (if b then [] else Halted c ∷ [])) (sym (marked-shown past None))
    ∙ ap (λ (o : Option Mark). shown past o ++ (if is_marked (shown past o) then [] else Halted c ∷ [])) (sym none)

pub halted-before : (c : CoreId) (past : Past) (m : Option Mark) → is_some m ≡ true → shown past m ≡ shown past m ++ (if is_marked (shown past m) then [] else Halted c ∷ [])
halted-before c past None there = absurd cc
halted-before c past (Some x) there = sym (append-nil (shown past (Some x))) ∙ ap (λ (b : Bool). shown past (Some x) ++ (if b then [] else Halted c ∷ [])) (sym (marked-shown past (Some x)))
