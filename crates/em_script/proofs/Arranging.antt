-- The lines that were read are those of the graph so far, arranged as a script.
use Rattle.std.proofs.Common.{◌≡◌, ℕ, suc, ◌<◌, Bool, true, false, not, cond, List, [], ◌∷◌, ◌++◌, length, refl, sym, ap, subst, ◌∙◌, arith, append_assoc, append-nil, length-append}
use Rattle.std.specs.Prelude.{slice_get, IsPermutation, flat_map, option_to_list, is_some, ◌||◌}
use Rattle.std.specs.List.{AllByRecursion}
use Rattle.std.specs.Option.{option_map, option_map_or}
use Rattle.std.proofs.lemmas.List.Sorted.{IsPermutation-refl, IsPermutation-trans, IsPermutation-sym, IsPermutation-cons, IsPermutation-to_front}
use Rattle.em_log.specs.declared.body.Stmt.{Stmt}
use Rattle.em_log.specs.declared.graph.Config.{Config}
use Rattle.em_log.specs.declared.graph.Decl.{Decl}
use Rattle.em_log.specs.declared.graph.Decl.TheVariants as decls
use Rattle.em_log.specs.declared.graph.EoDecl.{EoDecl}
use Rattle.em_script.specs.declared.draft.Frame.{Frame}
use Rattle.em_script.specs.declared.line.Line.{Line}
use Rattle.em_script.specs.declared.line.Line.TheVariants as lines
use Rattle.em_script.specs.declared.line.Place.{Place}
use Rattle.em_script.specs.declared.line.Place.TheVariants as places
use Rattle.em_script.specs.declared.phase.Phase.{Phase}
use Rattle.em_script.specs.declared.phase.Phase.TheVariants as phases
use Rattle.em_script.specs.Spelling.{Placed, block_lines, body_lines, written_body, optional_body, bodies_of, bodies_of_object, bodies_of_objects, declared_lines, arranged}
use Rattle.em_script.specs.State.{State, first_state, after, ended, turned, body_ended, with_body, new_eo}
use Rattle.em_script.specs.Judging.{is_given, has_part, may_else, rule_of, unless, are_light}
use Rattle.em_script.proofs.Agreeing.{Parts, parts-after, parts-body, get-last}
use Rattle.em_script.proofs.Standing.{declares, begins, tells_cores, InBody, Stands}
use Rattle.em_script.proofs.OpenBlocks.{around, open_lines, statement-open, if-open, repeat-open, else-open, end-open}
use Rattle.em_script.proofs.Written.{written, written-all, written-more, IsPlace}

-- ---- declarations

-- a declaration is of something that the graph has
abbrev pub IsInOrder : Config → Decl → Type 0
IsInOrder g (Decl.Pool n) = n < length g.pools
IsInOrder g (Decl.Group n) = n < length g.groups
IsInOrder g (Decl.Eo n) = n < length g.eos
IsInOrder g (Decl.Agroup n) = n < length g.agroups
IsInOrder g (Decl.Queue n) = n < length g.queues
IsInOrder g (Decl.Egroup n) = n < length g.egroups

lines-kept : (g h : Config) → Parts g h → (d : Decl) → IsInOrder g d → declared_lines h d ≡ declared_lines g d
lines-kept g h p (Decl.Pool n) lt = ap (λ o. option_to_list (option_map (λ d. lines.Pool d) o)) (p.pools.first n lt)
lines-kept g h p (Decl.Group n) lt = ap (λ o. option_to_list (option_map (λ d. lines.Group d.name d.mask.0) o)) (p.groups.first n lt)
lines-kept g h p (Decl.Eo n) lt = ap option_to_list (p.eo_lines n lt)
lines-kept g h p (Decl.Agroup n) lt = ap (λ o. option_to_list (option_map (λ d. lines.Agroup d) o)) (p.agroups.first n lt)
lines-kept g h p (Decl.Queue n) lt = ap (λ o. option_to_list (option_map (λ d. lines.Queue d) o)) (p.queues.first n lt)
lines-kept g h p (Decl.Egroup n) lt = ap (λ o. option_to_list (option_map (λ name. lines.Egroup name) o)) (p.egroups.first n lt)

in-kept : (g h : Config) → Parts g h → (d : Decl) → IsInOrder g d → IsInOrder h d
in-kept g h p (Decl.Pool n) lt = let l = p.pools.longer in omega arith
in-kept g h p (Decl.Group n) lt = let l = p.groups.longer in omega arith
in-kept g h p (Decl.Eo n) lt = let l = p.more_eos in omega arith
in-kept g h p (Decl.Agroup n) lt = let l = p.agroups.longer in omega arith
in-kept g h p (Decl.Queue n) lt = let l = p.queues.longer in omega arith
in-kept g h p (Decl.Egroup n) lt = let l = p.egroups.longer in omega arith

abbrev pub AreInOrder : Config → List Decl → Type 0
AreInOrder g ds = AllByRecursion (IsInOrder g) ds

all-kept : (g h : Config) → Parts g h → (ds : List Decl) → AreInOrder g ds → AreInOrder h ds
all-kept g h p [] all = tt
all-kept g h p (d ∷ ds) all = (in-kept g h p d all.0, all-kept g h p ds all.1)

flat-kept : (g h : Config) → Parts g h → (ds : List Decl) → AreInOrder g ds → flat_map (declared_lines h) ds ≡ flat_map (declared_lines g) ds
flat-kept g h p [] all = refl
flat-kept g h p (d ∷ ds) all = λ i. lines-kept g h p d all.0 i ++ flat-kept g h p ds all.1 i

all-more : (g : Config) (ds : List Decl) (d : Decl) → AreInOrder g ds → IsInOrder g d → AreInOrder g (ds ++ d ∷ [])
all-more g [] d all one = (one, tt)
all-more g (x ∷ ds) d all one = (all.0, all-more g ds d all.1 one)

flat-append : {A B : Type 0} (f : A → List B) (xs ys : List A) → flat_map f (xs ++ ys) ≡ flat_map f xs ++ flat_map f ys
flat-append f [] ys = refl
flat-append f (x ∷ xs) ys = ap (λ zs. f x ++ zs) (flat-append f xs ys) ∙ sym (append_assoc (f x) (flat_map f xs) (flat_map f ys))

abbrev decl_of : Line → State → Decl
decl_of (lines.Pool d) s = decls.Pool (length s.graph.pools)
decl_of (lines.Group name mask) s = decls.Group (length s.graph.groups)
decl_of (lines.Eo name running) s = decls.Eo (length s.graph.eos)
decl_of (lines.Agroup d) s = decls.Agroup (length s.graph.agroups)
decl_of (lines.Queue d) s = decls.Queue (length s.graph.queues)
decl_of (lines.Egroup name) s = decls.Egroup (length s.graph.egroups)
decl_of _ s = decls.Pool 0

objects-new : (m : ℕ) (eos : List EoDecl) (name : List ℕ) (running : Bool) → bodies_of_objects m (eos ++ new_eo name running ∷ []) ≡ bodies_of_objects m eos
objects-new m [] name running = refl
objects-new m (d ∷ ds) name running = ap (λ bs. bodies_of_object (record { 0 = m }) d ++ bs) (objects-new (suc m) ds name running)

-- what a declaration does
record Declared (l : Line) (s : State) : Type 0 where
  order : (after l s).graph.order ≡ s.graph.order ++ decl_of l s ∷ []
  line : declared_lines (after l s).graph (decl_of l s) ≡ l ∷ []
  within : IsInOrder (after l s).graph (decl_of l s)
  cores : (after l s).graph.cores ≡ s.graph.cores
  phase : (after l s).phase ≡ s.phase
  bodies : written (after l s) ≡ written s
  nest : (after l s).nest ≡ s.nest
  block : (after l s).block ≡ s.block

declared-of : (l : Line) (s : State) → declares l ≡ true → Declared l s
declared-of (lines.Pool d) s e = record {
  order = refl;
  line = ap (λ o. option_to_list (option_map (λ d. lines.Pool d) o)) (get-last s.graph.pools (d));
  within = omega (arith, length-append s.graph.pools ((d) ∷ []));
  cores = refl;
  phase = refl;
  bodies = refl;
  nest = refl;
  block = refl;
}
declared-of (lines.Group name mask) s e = record {
  order = refl;
  line = ap (λ o. option_to_list (option_map (λ d. lines.Group d.name d.mask.0) o)) (get-last s.graph.groups (record { name = name; mask = record { 0 = mask } }));
  within = omega (arith, length-append s.graph.groups ((record { name = name; mask = record { 0 = mask } }) ∷ []));
  cores = refl;
  phase = refl;
  bodies = refl;
  nest = refl;
  block = refl;
}
declared-of (lines.Eo name running) s e = record {
  order = refl;
  line = ap (λ o. option_to_list (option_map (λ d. lines.Eo d.name d.running) o)) (get-last s.graph.eos (new_eo name running));
  within = omega (arith, length-append s.graph.eos ((new_eo name running) ∷ []));
  cores = refl;
  phase = refl;
  bodies = ap (λ bs. written_body s.has_boot places.Boot s.graph.boot ++ (optional_body places.Error s.graph.error ++ bs)) (objects-new 0 s.graph.eos name running);
  nest = refl;
  block = refl;
}
declared-of (lines.Agroup d) s e = record {
  order = refl;
  line = ap (λ o. option_to_list (option_map (λ d. lines.Agroup d) o)) (get-last s.graph.agroups (d));
  within = omega (arith, length-append s.graph.agroups ((d) ∷ []));
  cores = refl;
  phase = refl;
  bodies = refl;
  nest = refl;
  block = refl;
}
declared-of (lines.Queue d) s e = record {
  order = refl;
  line = ap (λ o. option_to_list (option_map (λ d. lines.Queue d) o)) (get-last s.graph.queues (d));
  within = omega (arith, length-append s.graph.queues ((d) ∷ []));
  cores = refl;
  phase = refl;
  bodies = refl;
  nest = refl;
  block = refl;
}
declared-of (lines.Egroup name) s e = record {
  order = refl;
  line = ap (λ o. option_to_list (option_map (λ name. lines.Egroup name) o)) (get-last s.graph.egroups (name));
  within = omega (arith, length-append s.graph.egroups ((name) ∷ []));
  cores = refl;
  phase = refl;
  bodies = refl;
  nest = refl;
  block = refl;
}
declared-of (lines.Cores n) s e = absurd cc
declared-of (lines.Body p) s e = absurd cc
declared-of lines.Done s e = absurd cc
declared-of (lines.Statement x) s e = absurd cc
declared-of (lines.If x) s e = absurd cc
declared-of (lines.Repeat n) s e = absurd cc
declared-of lines.Else s e = absurd cc
declared-of lines.End s e = absurd cc

-- ---- what has been read, arranged

abbrev pub base : Config → List Placed → List Line
base g bodies = lines.Cores g.cores ∷ (flat_map (declared_lines g) g.order ++ flat_map body_lines bodies)

pub record InBodies (s : State) (says more : List Line) : Type 0 where
  pub bodies : List Placed
  pub same : IsPermutation bodies (written s)
  pub lines : says ≡ base s.graph bodies ++ more

pub record Closed (s : State) : Type 0 where
  pub nest : s.nest ≡ []
  pub block : s.block ≡ []

-- what has been read, by how far the reading has come
abbrev pub Held : Phase → State → List Line → Type 0
Held phases.First s says = (says ≡ []) × (s ≡ first_state)
Held phases.Declarations s says = (says ≡ base s.graph []) × (written s ≡ []) × Closed s
Held phases.Bodies s says = InBodies s says [] × Closed s
Held (phases.Body p) s says = InBodies s says (lines.Body p ∷ open_lines s) × (is_given s p ≡ false) × IsPlace s.graph p
Held phases.Done s says = InBodies s says (lines.Done ∷ []) × (s.has_boot ≡ true)

pub record Arrangement (s : State) (says : List Line) : Type 0 where
  pub order : AreInOrder s.graph s.graph.order
  pub held : Held s.phase s says

-- the place of a body that begins is in the graph
abbrev pub PlaceIsKnown : State → Line → Type 0
PlaceIsKnown s (lines.Body p) = IsPlace s.graph p
PlaceIsKnown s _ = Unit {0}

pub arrangement-first : Arrangement first_state []
arrangement-first = record { order = tt; held = (refl, refl) }

-- ---- the first line

first-cores : (n : ℕ) (s : State) (says : List Line) → says ≡ [] → s ≡ first_state → Arrangement (after (lines.Cores n) s) (says ++ lines.Cores n ∷ [])
first-cores n s says none is =
    subst (λ (t : State). Arrangement (after (lines.Cores n) t) (says ++ lines.Cores n ∷ [])) (sym is)
    (subst (λ ls. Arrangement (after (lines.Cores n) first_state) (ls ++ lines.Cores n ∷ [])) (sym none)
    (record { order = tt; held = (refl, refl, record { nest = refl; block = refl }) }))

-- ---- declarations

base-more : (l : Line) (s : State) → Declared l s → AreInOrder s.graph s.graph.order → base (after l s).graph [] ≡ base s.graph [] ++ l ∷ []
base-more l s d all =
    let h = (after l s).graph in
    let one : flat_map (declared_lines h) (decl_of l s ∷ []) ≡ l ∷ [] = append-nil (declared_lines h (decl_of l s)) ∙ d.line in
    let flat : flat_map (declared_lines h) h.order ≡ flat_map (declared_lines s.graph) s.graph.order ++ l ∷ [] =
    ap (flat_map (declared_lines h)) d.order ∙ flat-append (declared_lines h) s.graph.order (decl_of l s ∷ [])
    ∙ (λ i. flat-kept s.graph h (parts-after l s) s.graph.order all i ++ one i) in
    (λ i. lines.Cores (d.cores i) ∷ (flat i ++ []))
    ∙ ap (λ ls. lines.Cores s.graph.cores ∷ ls) (append-nil (flat_map (declared_lines s.graph) s.graph.order ++ l ∷ []) ∙ ap (λ ls. ls ++ l ∷ []) (sym (append-nil (flat_map (declared_lines s.graph) s.graph.order))))

declaration-step : (l : Line) (s : State) (says : List Line) → declares l ≡ true → s.phase ≡ phases.Declarations → AreInOrder s.graph s.graph.order → Held phases.Declarations s says → Arrangement (after l s) (says ++ l ∷ [])
declaration-step l s says e phase all held =
    let d = declared-of l s e in
    record {
      order = subst (AreInOrder (after l s).graph) (sym d.order) (all-more (after l s).graph s.graph.order (decl_of l s) (all-kept s.graph (after l s).graph (parts-after l s) s.graph.order all) d.within);
      held = subst (λ p. Held p (after l s) (says ++ l ∷ [])) (sym (d.phase ∙ phase))
          (ap (λ ls. ls ++ l ∷ []) held.0 ∙ sym (base-more l s d all), d.bodies ∙ held.1, record { nest = d.nest ∙ held.2.nest; block = d.block ∙ held.2.block });
    }

-- no body has been written behind declarations alone
to-bodies : (s : State) (says : List Line) → Held phases.Declarations s says → Held phases.Bodies s says
to-bodies s says held = (record { bodies = []; same = subst (IsPermutation []) (sym held.1) (IsPermutation-refl []); lines = held.0 ∙ sym (append-nil (base s.graph [])) }, held.2)

-- ---- where bodies begin, and the end

given-not : (b : Bool) → unless (not b) 8 ≡ 12 → b ≡ false
given-not true e = absurd (let n : ◌≡◌ {A = ℕ} 8 12 = e in omega arith)
given-not false e = refl

boot-given : (b l : Bool) → cond b (unless l 9) 11 ≡ 12 → b ≡ true
boot-given true l e = refl
boot-given false l e = absurd (let n : ◌≡◌ {A = ℕ} 11 12 = e in omega arith)

given-same : (s t : State) → t.graph ≡ s.graph → t.has_boot ≡ s.has_boot → (p : Place) → is_given t p ≡ is_given s p
given-same s t g h places.Boot = h
given-same s t g h places.Error = ap (λ (x : Config). is_some x.error) g
given-same s t g h (places.Object eo p) = ap (λ (x : Config). option_map_or (has_part p) (slice_get x.eos eo.0) false) g

closed-open : (s : State) → Closed s → open_lines s ≡ []
closed-open s c = λ i. around (c.nest i) ++ block_lines (c.block i)

begin-step : (p : Place) (s : State) (says : List Line) → rule_of s (lines.Body p) ≡ 12 → IsPlace s.graph p → AreInOrder s.graph s.graph.order → Held phases.Bodies s says → Arrangement (after (lines.Body p) s) (says ++ lines.Body p ∷ [])
begin-step p s says rule place all held =
    let t = after (lines.Body p) s in
    let lines_are : says ++ lines.Body p ∷ [] ≡ base s.graph held.0.bodies ++ (lines.Body p ∷ open_lines s) =
    ap (λ ls. ls ++ lines.Body p ∷ []) (held.0.lines ∙ append-nil (base s.graph held.0.bodies)) ∙ ap (λ ls. base s.graph held.0.bodies ++ (lines.Body p ∷ ls)) (sym (closed-open s held.1)) in
    record {
      order = all;
      held = (record { bodies = held.0.bodies; same = held.0.same; lines = lines_are }, given-same s t refl refl p ∙ given-not (is_given s p) rule, place);
    }

done-step : (s : State) (says : List Line) → rule_of s lines.Done ≡ 12 → AreInOrder s.graph s.graph.order → Held phases.Bodies s says → Arrangement (after lines.Done s) (says ++ lines.Done ∷ [])
done-step s says rule all held =
    record {
      order = all;
      held = (record { bodies = held.0.bodies; same = held.0.same; lines = ap (λ ls. ls ++ lines.Done ∷ []) (held.0.lines ∙ append-nil (base s.graph held.0.bodies)) }, boot-given s.has_boot (are_light s.graph) rule);
    }

-- ---- in a body

-- a line that only adds to the open body
inner-step : (p : Place) (l : Line) (s t : State) (says : List Line) → t.phase ≡ phases.Body p → t.graph ≡ s.graph → t.has_boot ≡ s.has_boot → open_lines t ≡ open_lines s ++ l ∷ [] → AreInOrder s.graph s.graph.order → Held (phases.Body p) s says → Arrangement t (says ++ l ∷ [])
inner-step p l s t says phase g h opened all held =
    let same_bodies : written t ≡ written s = λ i. written_body (h i) places.Boot (g i).boot ++ (optional_body places.Error (g i).error ++ bodies_of_objects 0 (g i).eos) in
    let lines_are : says ++ l ∷ [] ≡ base t.graph held.0.bodies ++ (lines.Body p ∷ open_lines t) =
    ap (λ ls. ls ++ l ∷ []) held.0.lines
    ∙ append_assoc (base s.graph held.0.bodies) (lines.Body p ∷ open_lines s) (l ∷ [])
    ∙ (λ i. base (sym g i) held.0.bodies ++ (lines.Body p ∷ sym opened i)) in
    record {
      order = subst (λ (x : Config). AreInOrder x x.order) (sym g) all;
      held = subst (λ q. Held q t (says ++ l ∷ [])) (sym phase)
          (record { bodies = held.0.bodies; same = subst (IsPermutation held.0.bodies) (sym same_bodies) held.0.same; lines = lines_are }, given-same s t g h p ∙ held.1, subst (λ (x : Config). IsPlace x p) (sym g) held.2);
    }

turned-keeps : (nest : List Frame) (s : State) → ((turned nest s).phase ≡ s.phase) × ((turned nest s).graph ≡ s.graph) × ((turned nest s).has_boot ≡ s.has_boot)
turned-keeps [] s = (refl, refl, refl)
turned-keeps (f ∷ fs) s = (refl, refl, refl)

body-order : (p : Place) (b : List Stmt) (g : Config) → (with_body p b g).order ≡ g.order
body-order places.Boot b g = refl
body-order places.Error b g = refl
body-order (places.Object eo p) b g = refl

body-cores : (p : Place) (b : List Stmt) (g : Config) → (with_body p b g).cores ≡ g.cores
body-cores places.Boot b g = refl
body-cores places.Error b g = refl
body-cores (places.Object eo p) b g = refl

-- the end of a body
body-step : (p : Place) (s : State) (says : List Line) → s.nest ≡ [] → AreInOrder s.graph s.graph.order → Held (phases.Body p) s says → Arrangement (body_ended (phases.Body p) s) (says ++ lines.End ∷ [])
body-step p s says closed all held =
    let t = body_ended (phases.Body p) s in
    let h = with_body p s.block s.graph in
    let bodies = held.0.bodies in
    let x : Placed = (p, s.block) in
    let kept = parts-body p s.block s.graph in
    let flat : flat_map (declared_lines h) h.order ≡ flat_map (declared_lines s.graph) s.graph.order = ap (flat_map (declared_lines h)) (body-order p s.block s.graph) ∙ flat-kept s.graph h kept s.graph.order all in
    let front = flat_map (declared_lines s.graph) s.graph.order in
    let more : flat_map body_lines (bodies ++ x ∷ []) ≡ flat_map body_lines bodies ++ body_lines x = flat-append body_lines bodies (x ∷ []) ∙ ap (λ ls. flat_map body_lines bodies ++ ls) (append-nil (body_lines x)) in
    let grown : base h (bodies ++ x ∷ []) ≡ base s.graph bodies ++ body_lines x =
    (λ i. lines.Cores (body-cores p s.block s.graph i) ∷ (flat i ++ more i)) ∙ ap (λ ls. lines.Cores s.graph.cores ∷ ls) (sym (append_assoc front (flat_map body_lines bodies) (body_lines x))) in
    let opened : open_lines s ≡ block_lines s.block = ap (λ fs. around fs ++ block_lines s.block) closed in
    let lines_are : says ++ lines.End ∷ [] ≡ base h (bodies ++ x ∷ []) ++ [] =
    ap (λ ls. ls ++ lines.End ∷ []) held.0.lines
    ∙ append_assoc (base s.graph bodies) (lines.Body p ∷ open_lines s) (lines.End ∷ [])
    ∙ ap (λ ls. base s.graph bodies ++ (lines.Body p ∷ (ls ++ lines.End ∷ []))) opened
    ∙ sym grown ∙ sym (append-nil (base h (bodies ++ x ∷ []))) in
    let one : IsPermutation (bodies ++ x ∷ []) (x ∷ written s) = IsPermutation-trans (bodies ++ x ∷ []) (x ∷ bodies) (x ∷ written s) (IsPermutation-to_front bodies x) (IsPermutation-cons x bodies (written s) held.0.same) in
    let same = IsPermutation-trans (bodies ++ x ∷ []) (x ∷ written s) (written t) one (IsPermutation-sym (written t) (x ∷ written s) (written-more p s held.2 held.1)) in
    record {
      order = subst (AreInOrder h) (sym (body-order p s.block s.graph)) (all-kept s.graph h kept s.graph.order all);
      held = (record { bodies = bodies ++ x ∷ []; same = same; lines = lines_are }, record { nest = closed; block = refl });
    }

end-step : (p : Place) (nest : List Frame) (s : State) (says : List Line) → s.nest ≡ nest → s.phase ≡ phases.Body p → AreInOrder s.graph s.graph.order → Held (phases.Body p) s says → Arrangement (ended nest s) (says ++ lines.End ∷ [])
end-step p [] s says is phase all held = subst (λ q. Arrangement (body_ended q s) (says ++ lines.End ∷ [])) (sym phase) (body-step p s says is all held)
end-step p (f ∷ fs) s says is phase all held =
    let t = ended (f ∷ fs) s in
    let opened : open_lines t ≡ open_lines s ++ lines.End ∷ [] = subst (λ n. open_lines (ended n s) ≡ open_lines s ++ lines.End ∷ []) is (end-open s f fs is) in
    inner-step p lines.End s t says phase refl refl opened all held

in_body-step : (p : Place) (l : Line) (s : State) (says : List Line) → s.phase ≡ phases.Body p → InBody (may_else s.nest) l → AreInOrder s.graph s.graph.order → Held (phases.Body p) s says → Arrangement (after l s) (says ++ l ∷ [])
in_body-step p (lines.Statement x) s says phase stands all held = inner-step p (lines.Statement x) s (after (lines.Statement x) s) says phase refl refl (statement-open s x stands) all held
in_body-step p (lines.If e) s says phase stands all held = inner-step p (lines.If e) s (after (lines.If e) s) says phase refl refl (if-open s e) all held
in_body-step p (lines.Repeat n) s says phase stands all held = inner-step p (lines.Repeat n) s (after (lines.Repeat n) s) says phase refl refl (repeat-open s n) all held
in_body-step p lines.Else s says phase stands all held =
    let k = turned-keeps s.nest s in
    inner-step p lines.Else s (after lines.Else s) says (k.0 ∙ phase) k.1 k.2 (else-open s s.nest refl stands) all held
in_body-step p lines.End s says phase stands all held = end-step p s.nest s says refl phase all held
in_body-step p (lines.Cores n) s says phase stands all held = absurd stands
in_body-step p (lines.Pool d) s says phase stands all held = absurd stands
in_body-step p (lines.Group name mask) s says phase stands all held = absurd stands
in_body-step p (lines.Eo name running) s says phase stands all held = absurd stands
in_body-step p (lines.Agroup d) s says phase stands all held = absurd stands
in_body-step p (lines.Queue d) s says phase stands all held = absurd stands
in_body-step p (lines.Egroup name) s says phase stands all held = absurd stands
in_body-step p (lines.Body q) s says phase stands all held = absurd stands
in_body-step p lines.Done s says phase stands all held = absurd stands

-- ---- each line

first-step : (l : Line) (s : State) (says : List Line) → tells_cores l ≡ true → Held phases.First s says → Arrangement (after l s) (says ++ l ∷ [])
first-step (lines.Cores n) s says e held = first-cores n s says held.0 held.1
first-step (lines.Pool d) s says e held = absurd cc
first-step (lines.Group name mask) s says e held = absurd cc
first-step (lines.Eo name running) s says e held = absurd cc
first-step (lines.Agroup d) s says e held = absurd cc
first-step (lines.Queue d) s says e held = absurd cc
first-step (lines.Egroup name) s says e held = absurd cc
first-step (lines.Body q) s says e held = absurd cc
first-step lines.Done s says e held = absurd cc
first-step (lines.Statement x) s says e held = absurd cc
first-step (lines.If x) s says e held = absurd cc
first-step (lines.Repeat n) s says e held = absurd cc
first-step lines.Else s says e held = absurd cc
first-step lines.End s says e held = absurd cc

begins-step : (l : Line) (s : State) (says : List Line) → begins l ≡ true → rule_of s l ≡ 12 → PlaceIsKnown s l → AreInOrder s.graph s.graph.order → Held phases.Bodies s says → Arrangement (after l s) (says ++ l ∷ [])
begins-step (lines.Body p) s says e rule known all held = begin-step p s says rule known all held
begins-step lines.Done s says e rule known all held = done-step s says rule all held
begins-step (lines.Cores n) s says e rule known all held = absurd cc
begins-step (lines.Pool d) s says e rule known all held = absurd cc
begins-step (lines.Group name mask) s says e rule known all held = absurd cc
begins-step (lines.Eo name running) s says e rule known all held = absurd cc
begins-step (lines.Agroup d) s says e rule known all held = absurd cc
begins-step (lines.Queue d) s says e rule known all held = absurd cc
begins-step (lines.Egroup name) s says e rule known all held = absurd cc
begins-step (lines.Statement x) s says e rule known all held = absurd cc
begins-step (lines.If x) s says e rule known all held = absurd cc
begins-step (lines.Repeat n) s says e rule known all held = absurd cc
begins-step lines.Else s says e rule known all held = absurd cc
begins-step lines.End s says e rule known all held = absurd cc

either-step : (l : Line) (s : State) (says : List Line) (d : Bool) → declares l ≡ d → (d || begins l) ≡ true → s.phase ≡ phases.Declarations → rule_of s l ≡ 12 → PlaceIsKnown s l → AreInOrder s.graph s.graph.order → Held phases.Declarations s says → Arrangement (after l s) (says ++ l ∷ [])
either-step l s says true e stands phase rule known all held = declaration-step l s says e phase all held
either-step l s says false e stands phase rule known all held = begins-step l s says stands rule known all (to-bodies s says held)

step-by : (q : Phase) (l : Line) (s : State) (says : List Line) → s.phase ≡ q → Stands q (may_else s.nest) l → rule_of s l ≡ 12 → PlaceIsKnown s l → AreInOrder s.graph s.graph.order → Held q s says → Arrangement (after l s) (says ++ l ∷ [])
step-by phases.First l s says phase stands rule known all held = first-step l s says stands held
step-by phases.Declarations l s says phase stands rule known all held = either-step l s says (declares l) refl stands phase rule known all held
step-by phases.Bodies l s says phase stands rule known all held = begins-step l s says stands rule known all held
step-by (phases.Body p) l s says phase stands rule known all held = in_body-step p l s says phase stands all held
step-by phases.Done l s says phase stands rule known all held = absurd stands

-- a line that may stand, and that no rule refuses, keeps the arrangement
pub arrangement-after : (l : Line) (s : State) (says : List Line) → Stands s.phase (may_else s.nest) l → rule_of s l ≡ 12 → PlaceIsKnown s l → Arrangement s says → Arrangement (after l s) (says ++ l ∷ [])
arrangement-after l s says stands rule known a = step-by s.phase l s says refl stands rule known a.order a.held

-- ---- the whole

pub record Arranged (g : Config) (says : List Line) : Type 0 where
  pub bodies : List Placed
  pub same : IsPermutation bodies (bodies_of g)
  pub lines : says ≡ arranged g bodies

-- at the end the lines are those of the graph, with its bodies in some order
pub arranged-at_end : (s : State) (says : List Line) → s.phase ≡ phases.Done → Arrangement s says → Arranged s.graph says
arranged-at_end s says done a =
    let held = subst (λ q. Held q s says) done a.held in
    record {
      bodies = held.0.bodies;
      same = subst (IsPermutation held.0.bodies) (written-all s held.1) held.0.same;
      lines = held.0.lines ∙ ap (λ ls. lines.Cores s.graph.cores ∷ ls) (append_assoc (flat_map (declared_lines s.graph) s.graph.order) (flat_map body_lines held.0.bodies) (lines.Done ∷ []));
    }
