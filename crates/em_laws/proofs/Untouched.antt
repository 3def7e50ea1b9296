-- Laws that a history obeys since nothing in it bears on them.
use Rattle.std.proofs.Common.{◌≡◌, ℕ, ◌==◌, Bool, true, false, ◌||◌, [], ◌∷◌, Option, Some, None, refl, sym, ◌∙◌, is_some, if◌then◌else◌}
use Rattle.std.specs.Option.{option_map_or}
use Rattle.em_log.specs.declared.declarations.Declarations.{Declarations}
use Rattle.em_log.specs.declared.entry.What.{What}
use Rattle.em_log.specs.declared.entry.Begun.{Begun}
use Rattle.em_log.specs.History.{Past, entry_by}
use Rattle.em_log.specs.Declarations.{atomic_of}
use Rattle.em_log.specs.Operations.{Operation, operation}
use Rattle.em_log.specs.Laws.{Always, Each, is_stopped, stopped_by, NoneOfStopped, StoppedIsQuiet, StopQuiet, settled, settled_by, TakesInSettled, ServedInSettled, GroupQuiet, within, within_after, OnlyHolder, Exclusive}
use Rattle.em_laws.proofs.Cores.{none-some}

or-false : (a b : Bool) → (a || b) ≡ false → (a ≡ false) × (b ≡ false)
or-false true b h = absurd cc
or-false false b h = (refl, h)

-- no stop

abbrev is_stop : Begun → Bool
is_stop (Begun.Stop x) = true
is_stop job = false

abbrev stops_now : Past → What → Bool
stops_now past (What.Done op ok) = option_map_or (λ o. is_stop o.job) (operation past op.0) false
stops_now past w = false

-- whether a stop is done in the history
abbrev pub stops : Past → Bool
stops [] = false
stops (e ∷ past) = stops_now past e.what || stops past

stopped-job : (x : ℕ) (job : Begun) (ok : Bool) → is_stop job ≡ false → stopped_by x job ok false ≡ false
stopped-job x (Begun.Start y) true h = by_test (y.0 == x)
  where
    by_test : (b : Bool) → (if b then false else false) ≡ false
    by_test true = refl
    by_test false = refl
stopped-job x (Begun.Start y) false h = refl
stopped-job x (Begun.Stop y) ok h = absurd cc
stopped-job x (Begun.Modify g m) true h = refl
stopped-job x (Begun.Modify g m) false h = refl

unstopped-by : (past : Past) (d : ℕ) (w : What) (x : ℕ) → stops_now past w ≡ false → is_stopped past x ≡ false → is_stopped (entry_by d w ∷ past) x ≡ false
unstopped-by past d (What.Done op ok) x h older = by_operation (operation past op.0) h
  where
    by_operation : (o : Option Operation) → option_map_or (λ p. is_stop p.job) o false ≡ false → option_map_or (λ p. stopped_by x p.job ok (is_stopped past x)) o (is_stopped past x) ≡ false
    by_operation None h = older
    by_operation (Some o) h = rw older (stopped-job x o.job ok h)
unstopped-by past d w x h older = older

unstopped : (past : Past) → stops past ≡ false → (x : ℕ) → is_stopped past x ≡ false
unstopped [] h x = refl
unstopped (e ∷ past) h x = let both = or-false _ _ h in unstopped-by past e.core.0 e.what x both.0 (unstopped past both.1 x)

none-of-stopped : (k : Declarations) (past : Past) (d : ℕ) (w : What) → stops past ≡ false → NoneOfStopped k past d w
none-of-stopped k past d (What.Take q n t) h = λ x is. unstopped past h x
none-of-stopped k past d (What.Start q e s) h = λ x is. unstopped past h x
none-of-stopped k past d w h = tt

stop-entries : (k : Declarations) (past : Past) → stops past ≡ false → Each (NoneOfStopped k) past
stop-entries k [] h = tt
stop-entries k (e ∷ past) h = let both = or-false _ _ h in (none-of-stopped k past e.core.0 e.what both.1, stop-entries k past both.1)

stop-after : (k : Declarations) (past : Past) → stops past ≡ false → Always (StoppedIsQuiet k) past
stop-after k [] h = λ c q s x is. refl
stop-after k (e ∷ past) h = let both = or-false _ _ h in ((λ c q s x is. unstopped (e ∷ past) h x), stop-after k past both.1)

pub stop-obeyed : (k : Declarations) (past : Past) → stops past ≡ false → StopQuiet k past
stop-obeyed k past h = record { entries = stop-entries k past h; after = stop-after k past h }

-- no change

abbrev is_change : Begun → Bool
is_change (Begun.Modify g m) = true
is_change job = false

abbrev changes_now : Past → What → Bool
changes_now past (What.Done op ok) = option_map_or (λ o. is_change o.job) (operation past op.0) false
changes_now past w = false

-- whether a change of a queue group is done in the history
abbrev pub changes : Past → Bool
changes [] = false
changes (e ∷ past) = changes_now past e.what || changes past

settled-job : (g : ℕ) (job : Begun) (ok : Bool) → is_change job ≡ false → settled_by g job ok None ≡ None
settled-job g (Begun.Start y) true h = refl
settled-job g (Begun.Start y) false h = refl
settled-job g (Begun.Stop y) true h = refl
settled-job g (Begun.Stop y) false h = refl
settled-job g (Begun.Modify i m) ok h = absurd cc

unsettled-by : (past : Past) (d : ℕ) (w : What) (g : ℕ) → changes_now past w ≡ false → settled past g ≡ None → settled (entry_by d w ∷ past) g ≡ None
unsettled-by past d (What.Done op ok) g h older = by_operation (operation past op.0) h
  where
    by_operation : (o : Option Operation) → option_map_or (λ p. is_change p.job) o false ≡ false → option_map_or (λ p. settled_by g p.job ok (settled past g)) o (settled past g) ≡ None
    by_operation None h = older
    by_operation (Some o) h = rw older (settled-job g o.job ok h)
unsettled-by past d w g h older = older

unsettled : (past : Past) → changes past ≡ false → (g : ℕ) → settled past g ≡ None
unsettled [] h g = refl
unsettled (e ∷ past) h g = let both = or-false _ _ h in unsettled-by past e.core.0 e.what g both.0 (unsettled past both.1 g)

takes-settled : (k : Declarations) (past : Past) (d : ℕ) (w : What) → changes past ≡ false → TakesInSettled k past d w
takes-settled k past d (What.Take q n t) h = λ g m is at. absurd (none-some m (sym (unsettled past h g) ∙ at))
takes-settled k past d w h = tt

group-entries : (k : Declarations) (past : Past) → changes past ≡ false → Each (TakesInSettled k) past
group-entries k [] h = tt
group-entries k (e ∷ past) h = let both = or-false _ _ h in (takes-settled k past e.core.0 e.what both.1, group-entries k past both.1)

group-after : (k : Declarations) (past : Past) → changes past ≡ false → Always (ServedInSettled k) past
group-after k [] h = λ c q s g m is at. absurd (none-some m at)
group-after k (e ∷ past) h =
    let both = or-false _ _ h in ((λ c q s g m is at. absurd (none-some m (sym (unsettled (e ∷ past) h g) ∙ at))), group-after k past both.1)

pub group-obeyed : (k : Declarations) (past : Past) → changes past ≡ false → GroupQuiet k past
group-obeyed k past h = record { entries = group-entries k past h; after = group-after k past h }

-- no start of an atomic queue

abbrev enters_now : Declarations → What → Bool
enters_now k (What.Start q e s) = is_some (atomic_of k q.0)
enters_now k w = false

-- whether a receive of an atomic queue starts in the history
abbrev pub enters_atomic : Declarations → Past → Bool
enters_atomic k [] = false
enters_atomic k (e ∷ past) = enters_now k e.what || enters_atomic k past

outside-none : (o : Option ℕ) → is_some o ≡ false → o ≡ None
outside-none None h = refl
outside-none (Some n) h = absurd cc

outside-by : (k : Declarations) (w : What) (was : Option ℕ) → enters_now k w ≡ false → was ≡ None → within_after k w was ≡ None
outside-by k (What.Start q e s) was h older = outside-none (atomic_of k q.0) h
outside-by k (What.Enter b) was h older = refl
outside-by k (What.End lost cells) was h older = refl
outside-by k (What.EndAtomic rest cells) was h older = refl
outside-by k w was h older = older

outside : (k : Declarations) (past : Past) → enters_atomic k past ≡ false → (c : ℕ) → within k past c ≡ None
outside k [] h c = refl
outside k (e ∷ past) h c = let both = or-false _ _ h in by_core (e.core.0 == c) both.0 (outside k past both.1 c)
  where
    by_core : (b : Bool) → enters_now k e.what ≡ false → within k past c ≡ None → (if b then within_after k e.what (within k past c) else within k past c) ≡ None
    by_core true n older = outside-by k e.what (within k past c) n older
    by_core false n older = older

nobody-inside : (k : Declarations) (past : Past) → enters_atomic k past ≡ false → OnlyHolder k past
nobody-inside k past h = λ a c is. absurd (none-some a (sym (outside k past h c) ∙ is))

pub atomic-obeyed : (k : Declarations) (past : Past) → enters_atomic k past ≡ false → Exclusive k past
atomic-obeyed k [] h = nobody-inside k [] h
atomic-obeyed k (e ∷ past) h = let both = or-false _ _ h in (nobody-inside k (e ∷ past) h, atomic-obeyed k past both.1)
