-- What a queue uses has been declared.
use Rattle.std.proofs.Common.{◌≡◌, true, List, [], ◌∷◌, refl, ap, ◌∙◌}
use Rattle.std.specs.List.{list_all}
use Rattle.em_log.specs.WellFormed.{is_queue_decl}
use Rattle.em_log.specs.declared.body.Stmt.{Stmt}
use Rattle.em_log.specs.declared.graph.Config.{Config}
use Rattle.em_script.specs.declared.draft.Frame.{Frame}
use Rattle.em_script.specs.declared.line.Line.{Line}
use Rattle.em_script.specs.declared.line.Line.TheVariants as lines
use Rattle.em_script.specs.declared.line.Place.{Place}
use Rattle.em_script.specs.declared.line.Place.TheVariants as places
use Rattle.em_script.specs.declared.phase.Phase.{Phase}
use Rattle.em_script.specs.declared.phase.Phase.TheVariants as phases
use Rattle.em_script.specs.State.{State, first_state, after, ended, turned, body_ended, with_body}
use Rattle.em_script.proofs.Agreeing.{Extends, extends-then, extends-after}
use Rattle.em_script.proofs.QueueFitting.{fits-queue}
use Rattle.em_script.proofs.Contents.{all-more}
use Rattle.em_script.proofs.Told.{Told, knows-only, names_at}

-- the queues are good in each graph that goes on from here
abbrev pub AreQueues : State → Type 0
AreQueues s = (h : Config) → Extends s.graph h → list_all (is_queue_decl h) s.graph.queues ≡ true

with_body-queues : (p : Place) (b : List Stmt) (g : Config) → (with_body p b g).queues ≡ g.queues
with_body-queues places.Boot b g = refl
with_body-queues places.Error b g = refl
with_body-queues (places.Object eo p) b g = refl

body_ended-queues : (p : Phase) (s : State) → (body_ended p s).graph.queues ≡ s.graph.queues
body_ended-queues phases.First s = refl
body_ended-queues phases.Declarations s = refl
body_ended-queues phases.Bodies s = refl
body_ended-queues (phases.Body p) s = with_body-queues p s.block s.graph
body_ended-queues phases.Done s = refl

ended-queues : (nest : List Frame) (s : State) → (ended nest s).graph.queues ≡ s.graph.queues
ended-queues [] s = body_ended-queues s.phase s
ended-queues (f ∷ fs) s = refl

turned-queues : (nest : List Frame) (s : State) → (turned nest s).graph.queues ≡ s.graph.queues
turned-queues [] s = refl
turned-queues (f ∷ fs) s = refl

same : (l : Line) (s : State) → (after l s).graph.queues ≡ s.graph.queues → AreQueues s → AreQueues (after l s)
same l s e q h ext = ap (list_all (is_queue_decl h)) e ∙ q h (extends-then s.graph (after l s).graph h (extends-after l s) ext)

pub queues-first : AreQueues first_state
queues-first h ext = refl

pub queues-after : (l : Line) (s : State) → Told s l → AreQueues s → AreQueues (after l s)
queues-after (lines.Queue d) s told q = λ h ext.
    let grows = extends-then s.graph (after (lines.Queue d) s).graph h (extends-after (lines.Queue d) s) ext in
    let fits = (told.named refl).1 in
    let good = fits-queue (names_at s (lines.Queue d)) h (knows-only s (after (lines.Queue d) s).graph h told.agree grows) d d.kind fits in
    all-more (is_queue_decl h) s.graph.queues d (q h grows) good
queues-after (lines.Cores n) s told q = same (lines.Cores n) s refl q
queues-after (lines.Pool d) s told q = same (lines.Pool d) s refl q
queues-after (lines.Group name mask) s told q = same (lines.Group name mask) s refl q
queues-after (lines.Eo name running) s told q = same (lines.Eo name running) s refl q
queues-after (lines.Agroup d) s told q = same (lines.Agroup d) s refl q
queues-after (lines.Egroup name) s told q = same (lines.Egroup name) s refl q
queues-after (lines.Body p) s told q = same (lines.Body p) s refl q
queues-after lines.Done s told q = same lines.Done s refl q
queues-after (lines.Statement x) s told q = same (lines.Statement x) s refl q
queues-after (lines.If x) s told q = same (lines.If x) s refl q
queues-after (lines.Repeat n) s told q = same (lines.Repeat n) s refl q
queues-after lines.Else s told q = same lines.Else s (turned-queues s.nest s) q
queues-after lines.End s told q = same lines.End s (ended-queues s.nest s) q
