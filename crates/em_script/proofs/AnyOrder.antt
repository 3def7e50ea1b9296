-- A script of a graph, with its bodies in any order, is read as this graph.
use Rattle.std.proofs.Common.{◌≡◌, ◌-◌, ◌^◌, ◌<◌, ℕ, Bool, true, false, not, ◌||◌, List, [], ◌∷◌, ◌++◌, Ok, Result, IsPermutation, refl, sym, ap, subst, ◌∙◌}
use Rattle.std.proofs.lemmas.List.{length-map}
use Rattle.std.specs.List.{flat_map, list_all}
use Rattle.std.proofs.lemmas.List.Sorted.{IsPermutation-sym}
use Rattle.em_log.specs.WellFormed.{IsWellFormed, are_given, no_counts}
use Rattle.em_log.specs.declared.graph.Config.{Config}
use Rattle.em_script.specs.declared.line.Line.TheVariants as lines
use Rattle.em_script.specs.declared.line.Place.{Place}
use Rattle.em_script.specs.declared.line.Place.TheVariants as places
use Rattle.em_script.specs.declared.phase.Phase.TheVariants as phases
use Rattle.em_script.specs.declared.reading.ScriptEnd.{ScriptEnd}
use Rattle.em_script.specs.Declarations.{may_stand}
use Rattle.em_script.specs.Judging.{are_light, is_given, unless}
use Rattle.em_script.specs.Lines as text
use Rattle.em_script.specs.Names.{Table, first_table}
use Rattle.em_script.specs.Reading.{Gives, is_done, script_of}
use Rattle.em_script.specs.Scripts.{IsScript}
use Rattle.em_script.specs.Spelling.{Placed, arranged, bodies_of, bodies_of_objects, body_lines, declared_lines, optional_body}
use Rattle.em_script.specs.State.{after, after_all, first_state, is_boot, with_body}
use Rattle.em_script.proofs.BlocksRead.{after_all-append}
use Rattle.em_script.proofs.BlocksSpelled.{AreAllNamed}
use Rattle.em_script.proofs.BodiesMet.{AreNew, body_met, later_new}
use Rattle.em_script.proofs.BodiesRead.{AreBlocks, bare, between, bodies_of_read, bodies_read, body_read, boot_among, boot_read, unwritten, with_bodies}
use Rattle.em_script.proofs.BodiesShuffled.{AreAlike, AreFresh, ComesTo, alike}
use Rattle.em_script.proofs.BodiesSpelled.{ArePlaced, bodies_spelled, done_spelled, later-placed, place-fits}
use Rattle.em_script.proofs.DeclarationForms.{first_word}
use Rattle.em_script.proofs.DeclarationsRead.{all_named, declaring, order_read}
use Rattle.em_script.proofs.DeclarationsSpelled.{cores_spelled, knows-first, order-knows, order_spelled}
use Rattle.em_script.proofs.Declaring.{all-named}
use Rattle.em_script.proofs.Finding.{script-begins}
use Rattle.em_script.proofs.LineSpelled.{AreSpelled-append, top-spelled}
use Rattle.em_script.proofs.RulesMet.{AreMet, AreMet-append, unless-met}
use Rattle.em_script.proofs.Saying.{AreSpelled, said-of}
use Rattle.em_script.proofs.ScriptMet.{lights-of, order_met}
use Rattle.em_script.proofs.ScriptRead.{all-blocks, objects-given, read_whole}
use Rattle.em_script.proofs.ScriptsShown.{found-shown}
use Rattle.em_script.proofs.Shuffling.{shuffled}
use Rattle.em_script.proofs.Taken.{powers}

-- ---- bodies of which none was given before it

fresh-of : (g : Config) (t : Table) (ps : List Placed) (h : Config) → ArePlaced g ps → AreBlocks g ps → AreNew t ps h → AreFresh g t ps h true
fresh-of g t [] h placed blocks new = tt
fresh-of g t (p ∷ ps) h placed blocks new = (placed.0, blocks.0, new.0, fresh-of g t ps (with_body p.0 p.1 h) placed.1 blocks.1 new.1)

fresh-blocks : (g : Config) (t : Table) (ps : List Placed) (h : Config) (boot : Bool) → AreFresh g t ps h boot → AreBlocks g ps
fresh-blocks g t [] h boot fresh = tt
fresh-blocks g t (p ∷ ps) h boot fresh = (fresh.1, fresh-blocks g t ps (with_body p.0 p.1 h) (boot || is_boot p.0) fresh.3)

fresh-placed : (g : Config) (t : Table) (ps : List Placed) (h : Config) (boot : Bool) → AreFresh g t ps h boot → ArePlaced g ps
fresh-placed g t [] h boot fresh = tt
fresh-placed g t (p ∷ ps) h boot fresh = (fresh.0, fresh-placed g t ps (with_body p.0 p.1 h) (boot || is_boot p.0) fresh.3)

fresh-met : (g : Config) (t : Table) (ps : List Placed) (h : Config) (boot : Bool) → AreFresh g t ps h boot → AreMet (flat_map body_lines ps) (between h t boot)
fresh-met g t [] h boot fresh = tt
fresh-met g t (p ∷ ps) h boot fresh =
    AreMet-append (body_lines p) (flat_map body_lines ps) (between h t boot) (body_met g h t boot p fresh.1 fresh.2)
    (subst (AreMet (flat_map body_lines ps)) (sym (body_read g h t boot p fresh.1)) (fresh-met g t ps (with_body p.0 p.1 h) (boot || is_boot p.0) fresh.3))

all-fresh : (g : Config) (t : Table) → AreBlocks g (bodies_of g) → list_all are_given g.eos ≡ true → AreFresh g t (bodies_of g) (unwritten g) false
all-fresh g t blocks given =
    (tt, blocks.0, refl, fresh-of g t (optional_body places.Error g.error ++ bodies_of_objects 0 g.eos) (with_body places.Boot g.boot (unwritten g)) (later-placed g) blocks.1 (later_new g t given))

pub any-order : (g : Config) (t : Table) → IsWellFormed g → (bodies : List Placed) → IsPermutation bodies (bodies_of g) → ComesTo g t (bodies_of g) bodies (unwritten g) false
any-order g t well bodies same =
    shuffled (AreAlike g t) (alike g t) (bodies_of g) bodies (IsPermutation-sym bodies (bodies_of g) same) (unwritten g) false (length-map g.eos bare) (all-fresh g t (all-blocks g well) (objects-given g g.eos well.eos))

-- ---- behind the declarations

begun-read : (g : Config) (t : Table) (ps : List Placed) (h : Config) → boot_among ps false ≡ true → AreBlocks g ps → after_all (flat_map body_lines ps) (declaring h t) ≡ between (with_bodies ps h) t (boot_among ps false)
begun-read g t [] h booted blocks = absurd cc
begun-read g t (p ∷ ps) h booted blocks = bodies_read g h t false (p ∷ ps) blocks

given-too : (h : Config) (t : Table) (p : Place) → is_given (declaring h t) p ≡ is_given (between h t false) p
given-too h t places.Boot = refl
given-too h t places.Error = refl
given-too h t (places.Object eo p) = refl

begun-met : (g : Config) (t : Table) (ps : List Placed) (h : Config) → boot_among ps false ≡ true → AreFresh g t ps h false → AreMet (flat_map body_lines ps) (declaring h t)
begun-met g t [] h booted fresh = absurd cc
begun-met g t (p ∷ ps) h booted fresh =
    let met = fresh-met g t (p ∷ ps) h false fresh in
    (ap (λ b. unless (not b) 8) (given-too h t p.0) ∙ met.0, met.1)

place-stands : (p : Place) → may_stand phases.Declarations (first_word (lines.Body p)) ≡ true
place-stands places.Boot = refl
place-stands places.Error = refl
place-stands (places.Object eo p) = refl

begun-spelled : (g : Config) (t : Table) (k : AreAllNamed g t) (ps : List Placed) (h : Config) → boot_among ps false ≡ true → 2 ^ h.cores - 1 < 2 ^ 64 → ArePlaced g ps → AreBlocks g ps → AreSpelled g (flat_map body_lines ps) (declaring h t)
begun-spelled g t k [] h booted few placed blocks = absurd cc
begun-spelled g t k (p ∷ ps) h booted few placed blocks =
    let spelled = bodies_spelled g t k h false (p ∷ ps) few placed blocks in
    (top-spelled g (declaring h t) (lines.Body p.0) k.is few (λ r. refl) (place-stands p.0) (place-fits g t k h.cores p.0 placed.0), spelled.1)

-- ---- the whole

-- what the lines of a graph come to, with its bodies in this order
record IsReadAs (g : Config) (bodies : List Placed) : Type 0 where
  read : after_all (arranged g bodies) first_state ≡ read_whole g
  met : AreMet (arranged g bodies) first_state
  spelled : AreSpelled g (arranged g bodies) first_state

read-as : (g : Config) → IsWellFormed g → (bodies : List Placed) → ComesTo g (all_named g g.order first_table) (bodies_of g) bodies (unwritten g) false → IsReadAs g bodies
read-as g well bodies to =
    let t = all_named g g.order first_table in
    let declared = flat_map (declared_lines g) g.order in
    let given = flat_map body_lines bodies in
    let done = lines.Done ∷ [] in
    let booted : boot_among bodies false ≡ true = sym to.booted ∙ boot_read g in
    let graph : with_bodies bodies (unwritten g) ≡ g = sym to.graph ∙ bodies_of_read g (objects-given g g.eos well.eos) in
    let blocks = fresh-blocks g t bodies (unwritten g) false to.fresh in
    let placed = fresh-placed g t bodies (unwritten g) false to.fresh in
    let few : 2 ^ g.cores - 1 < 2 ^ 64 = powers g.cores well.few.cores.1 in
    let k = all-named g well t (order-knows g well g.order no_counts first_table well.order (knows-first g)) in
    let whole : after_all given (declaring (unwritten g) t) ≡ between g t true = begun-read g t bodies (unwritten g) booted blocks ∙ λ i. between (graph i) t (booted i) in
    let ordered = order_read g g.order [] no_counts first_table well.order in
    let last : AreMet done (between g t true) = (unless-met (are_light g) 9 (lights-of g well), tt) in
    record {
      read = after_all-append declared (given ++ done) (after (lines.Cores g.cores) first_state) ∙ ap (after_all (given ++ done)) ordered ∙ after_all-append given done (declaring (unwritten g) t) ∙ ap (after_all done) whole;
      met = (
        refl,
        AreMet-append declared (given ++ done) (after (lines.Cores g.cores) first_state) (order_met g well.few g.order [] no_counts first_table well.order)
            (subst (AreMet (given ++ done)) (sym ordered) (AreMet-append given done (declaring (unwritten g) t) (begun-met g t bodies (unwritten g) booted to.fresh) (subst (AreMet done) (sym whole) last))),
      );
      spelled = (
        (cores_spelled g well).0,
        AreSpelled-append g declared (given ++ done) (after (lines.Cores g.cores) first_state) (order_spelled g well g.order [] no_counts first_table well.order (knows-first g))
            (subst (AreSpelled g (given ++ done)) (sym ordered) (AreSpelled-append g given done (declaring (unwritten g) t) (begun-spelled g t k bodies (unwritten g) booted few placed blocks) (subst (AreSpelled g done) (sym whole) (done_spelled g t k g true few)))),
      );
    }

-- a script of a graph is read as this graph
pub script-read : (bytes : List ℕ) (g : Config) → IsWellFormed g → IsScript bytes g → script_of bytes ≡ Ok g
script-read bytes g well script =
    let bodies = script.bodies in
    let whole = read-as g well bodies (any-order g (all_named g g.order first_table) well bodies script.same) in
    let said = said-of g (arranged g bodies) first_state whole.spelled whole.met in
    let done : is_done (after_all (arranged g bodies) first_state).phase ≡ true = ap (λ s. is_done s.phase) whole.read in
    sym (script-begins bytes) ∙ found-shown g (text.lines bytes) (arranged g bodies) 1 first_state script.plain script.written said done ∙ ap (λ s. Ok s.graph) whole.read

-- an answer that gives what is found gives this graph
pub script-given : (bytes : List ℕ) (r : Result Config ScriptEnd) → Gives r (script_of bytes) → (g : Config) → IsWellFormed g → IsScript bytes g → Gives r (Ok g)
script-given bytes r given g well script = subst (λ found. Gives r found) (script-read bytes g well script) given
