-- Why an entry may not come next.
use Rattle.std.proofs.Common.{◌≡◌, ◌∙◌, ℕ, zero, suc, Bool, true, false, List, [], ◌∷◌, drop, Option, Some, None, arith, ap, sym, refl}
use Rattle.em_log.specs.declared.declarations.Declarations.{Declarations}
use Rattle.em_log.specs.declared.entry.Entry.{Entry}
use Rattle.em_log.specs.declared.entry.What.{What}
use Rattle.em_log.specs.declared.entry.Body.{Body}
use Rattle.em_log.specs.declared.ids.Limits.{Limits}
use Rattle.em_log.specs.declared.ids.OpId.{OpId}
use Rattle.em_log.specs.declared.entry.Begun.{Begun}
use Rattle.em_log.specs.declared.ids.Note.{Note}
use Rattle.em_log.specs.History.{Past}
use Rattle.em_log.specs.Contexts.{context}
use Rattle.em_log.specs.Operations.{step, pending}
use Rattle.em_log.specs.Leads.{aims_at_group}
use Rattle.em_log.specs.Lawful.{AllAllowed, Begins, Boots, Steps, Takes, Starts, Untakes, Asks, IsNext, due}
use Rattle.em_moments.proofs.Asked.{asks-open}
use Rattle.em_moments.proofs.Moments.{Moment, allowed-moment, AckMoment, AckChange, AckStart, AckStop, EnterMoment, EntersBoot, EntersStep, JobMoment, StartJob, StopJob, ModifyJob}

-- the newest entry of this history, as the definitions let it come, and the facts of its moment

abbrev pub NextOfNewest : Declarations → Limits → Past → Type 0
NextOfNewest k l [] = Unit {0}
NextOfNewest k l (e ∷ past) = IsNext k l past (due k past) e

abbrev pub MomentOfNewest : Declarations → Limits → Past → Type 0
MomentOfNewest k l [] = Unit {0}
MomentOfNewest k l (e ∷ past) = Moment k l past e.core.0 e.what

pub next-of-newest : (k : Declarations) (l : Limits) (past : Past) → AllAllowed k l past → NextOfNewest k l past
next-of-newest k l [] all = tt
next-of-newest k l (e ∷ past) all = all.0.next

pub moment-of-newest : (k : Declarations) (l : Limits) (past : Past) → AllAllowed k l past → MomentOfNewest k l past
moment-of-newest k l [] all = tt
moment-of-newest k l (e ∷ past) all = allowed-moment k l past e all.1 all.0

-- the entries behind the n newest were allowed too
pub all-behind : (k : Declarations) (l : Limits) (n : ℕ) (past : Past) → AllAllowed k l past → AllAllowed k l (drop n past)
all-behind k l zero past all = all
all-behind k l (suc n) [] all = tt
all-behind k l (suc n) (e ∷ past) all = all-behind k l n past all.1

-- what cannot be

pub false-true : false ≡ true → ⊥
false-true same = grind (arith, same)

pub some-none : {A : Type 0} {x : A} → Some x ≡ None → ⊥
some-none same = grind (arith, same)

none-some : {A : Type 0} {o : Option A} {x : A} → o ≡ None → o ≡ Some x → ⊥
none-some none some = some-none (sym some ∙ none)

-- where core c has no open context and owes nothing, only takes, starts, givings back and boot begin

abbrev pub begins_alone : What → Bool
begins_alone (What.Enter b) = true
begins_alone (What.Take q n t) = true
begins_alone (What.Start q e s) = true
begins_alone (What.Untake q n) = true
begins_alone w = false

alone : (v w : What) → begins_alone w ≡ false → begins_alone v ≡ true → w ≡ v → ⊥
alone v w other alone_too same = false-true (sym other ∙ ap begins_alone same ∙ alone_too)

pub nothing-begins : (k : Declarations) (l : Limits) (past : Past) (c : ℕ) (w : What) → context past c ≡ None → step k past c ≡ None
    → begins_alone w ≡ false → Begins k l past c w → ⊥
nothing-begins k l past c w closed owed other (Boots _ _ e) = alone _ w other refl e
nothing-begins k l past c w closed owed other (Steps _ owes) = none-some owed owes
nothing-begins k l past c w closed owed other (Takes q _ e) = alone _ w other refl e
nothing-begins k l past c w closed owed other (Starts q x xs _ _ _ e) = alone _ w other refl e
nothing-begins k l past c w closed owed other (Untakes q x xs _ _ _ e) = alone _ w other refl e
nothing-begins k l past c w closed owed other (Asks a may e) = let o = asks-open k past c a may in none-some closed o.1

-- in an open context no step is taken

pub no-step : (k : Declarations) (past : Past) (c : ℕ) (b : Body) (began : What) → context past c ≡ Some began → EnterMoment k past c b → ⊥
no-step k past c b began opened (EntersBoot none _ _) = some-none (sym opened ∙ ap (λ p. context p c) none)
no-step k past c b began opened (EntersStep between _ _) = none-some between.closed opened

abbrev pub is_end : What → Bool
is_end (What.End lost cells) = true
is_end w = false

abbrev pub ends_last : Past → Bool
ends_last [] = false
ends_last (e ∷ past) = is_end e.what

pub no-acknowledgement : (k : Declarations) (past : Past) (c : ℕ) (op : OpId) (began : What) → context past c ≡ Some began
    → ends_last past ≡ false → AckMoment k past c op → ⊥
no-acknowledgement k past c op began opened other (AckChange between _ _) = none-some between.closed opened
no-acknowledgement k past c op began opened other (AckStart _ _ _ e _) = false-true (sym other ∙ ap ends_last e)
no-acknowledgement k past c op began opened other (AckStop _ _ _ e _) = false-true (sym other ∙ ap ends_last e)

-- a queue group that has a pending change takes no other

abbrev is_change : Begun → Bool
is_change (Begun.Modify g m) = true
is_change b = false

abbrev group_changed : Begun → ℕ
group_changed (Begun.Modify g m) = g.0
group_changed b = 0

pub no-change : (k : Declarations) (past : Past) (c g m : ℕ) (notes : List Note) (op : ℕ)
    → pending past (aims_at_group g) ≡ Some op → JobMoment k past c (Begun.Modify (record { 0 = g }) m) notes → ⊥
no-change k past c g m notes op busy (StartJob x _ job _ _) = false-true (sym (ap is_change job))
no-change k past c g m notes op busy (StopJob x _ job _ _) = false-true (sym (ap is_change job))
no-change k past c g m notes op busy (ModifyJob g2 m2 _ job idle _) =
    some-none (sym busy ∙ ap (λ b. pending past (aims_at_group (group_changed b))) job ∙ idle)

-- what is due is due

pub nothing-due : {e : Entry} {es : List Entry} → e ∷ es ≡ [] → ⊥
nothing-due same = grind (arith, same)

-- boot comes first

pub no-second-boot : (k : Declarations) (e : Entry) (past : Past) (c : ℕ) (b : Body) → step k (e ∷ past) c ≡ None
    → EnterMoment k (e ∷ past) c b → ⊥
no-second-boot k e past c b owed (EntersBoot none _ _) = nothing-due none
no-second-boot k e past c b owed (EntersStep _ owes _) = none-some owed owes

-- what entries show, to tell them apart

abbrev kind_of_out : What → ℕ
kind_of_out (What.Out q kind words) = kind
kind_of_out w = 0

abbrev handle_of_start : What → ℕ
handle_of_start (What.Start q e s) = e.handle.0
handle_of_start w = 0

abbrev pub kind_shown : Entry → ℕ
kind_shown e = kind_of_out e.what

abbrev pub value_said : What → ℕ
value_said (What.Say v) = v
value_said w = 0

abbrev pub handle_shown : Entry → ℕ
handle_shown e = handle_of_start e.what

abbrev ok_of_done : What → Bool
ok_of_done (What.GlobalDone op ok) = ok
ok_of_done w = false

abbrev pub ok_shown : Entry → Bool
ok_shown e = ok_of_done e.what
