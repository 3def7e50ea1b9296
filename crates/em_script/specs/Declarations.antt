-- The forms of the lines outside bodies.
use Rattle.std.specs.Prelude.{ℕ, ◌-◌, ◌^◌, Bool, true, false, List, [], ◌∷◌, Option, Some, None, unwrap_or, if◌then◌else◌, codes}
use Rattle.std.specs.Option.{option_map_or}
use Rattle.em_log.specs.declared.graph.QueueDecl.{QueueDecl}
use Rattle.em_log.specs.declared.graph.Priority.{Priority}
use Rattle.em_log.specs.declared.graph.Priority.TheVariants as priorities
use Rattle.em_log.specs.declared.ids.Kind.{Kind}
use Rattle.em_log.specs.declared.ids.Kind.TheVariants as kinds
use Rattle.em_log.specs.declared.ids.GroupId.{GroupId}
use Rattle.em_log.specs.declared.ids.EoId.{EoId}
use Rattle.em_script.specs.declared.line.Line.{Line}
use Rattle.em_script.specs.declared.line.Line.TheVariants as lines
use Rattle.em_script.specs.declared.line.Part.{Part}
use Rattle.em_script.specs.declared.line.Place.TheVariants as places
use Rattle.em_script.specs.declared.line.Membership.{Membership}
use Rattle.em_script.specs.declared.line.Membership.TheVariants as memberships
use Rattle.em_script.specs.declared.words.TopWord.{TopWord}
use Rattle.em_script.specs.declared.words.TopWord.TheVariants as top
use Rattle.em_script.specs.declared.phase.Phase.{Phase}
use Rattle.em_script.specs.declared.phase.Phase.TheVariants as phases
use Rattle.em_script.specs.Lines.{Rest}
use Rattle.em_script.specs.Names.{Naming}
use Rattle.em_script.specs.Form.{◌>>=◌, Form, given, ◌▷◌, ended, flag, number, new_name, group_name, eo_name, agroup_name, skip, is_followed}
use Rattle.em_script.specs.Words.{top_word, kind, kind_text, priority, part}

-- ---- what stands behind the first word

abbrev pub cores_form : Form (ℕ × Unit {0})
cores_form = number 1 8 ▷ ended

abbrev pub pool_form : Naming → Form (List ℕ × (ℕ × (ℕ × Unit {0})))
pool_form names = new_name names ▷ number 1 4096 ▷ number 0 16 ▷ ended

-- a mask names some core, and none that there is not
abbrev pub group_form : Naming → ℕ → Form (List ℕ × (ℕ × Unit {0}))
group_form names cores = new_name names ▷ number 1 (2 ^ cores - 1) ▷ ended

abbrev pub eo_form : Naming → Form (List ℕ × (Bool × Unit {0}))
eo_form names = new_name names ▷ flag (codes "running") ▷ ended

abbrev pub agroup_form : Naming → Form (List ℕ × (GroupId × Unit {0}))
agroup_form names = new_name names ▷ group_name names ▷ ended

abbrev pub egroup_form : Naming → Form (List ℕ × Unit {0})
egroup_form names = new_name names ▷ ended

abbrev pub body_form : Naming → Form (EoId × (Part × Unit {0}))
body_form names = eo_name names ▷ part ▷ ended

-- ---- queues

abbrev pub membership_tokens : Naming → Membership → List (List ℕ)
membership_tokens names (memberships.Group g) = (group_name names).write g
membership_tokens names (memberships.Agroup a) = codes "in" ∷ (agroup_name names).write a

-- `in` with a name behind it is an atomic group; alone it is the name of a queue group
abbrev pub membership : Naming → Form Membership
membership names = record {
  write = membership_tokens names;
  read = λ rest.
      if is_followed (codes "in") rest then given (λ a. memberships.Agroup a) ((agroup_name names).read (skip rest))
      else given (λ g. memberships.Group g) ((group_name names).read rest);
}

abbrev pub atomic_form : Naming → Form (EoId × (Priority × (Membership × Unit {0})))
atomic_form names = eo_name names ▷ priority ▷ membership names ▷ ended

-- parallel and ordered queues
abbrev pub grouped_form : Naming → Form (EoId × (Priority × (GroupId × Unit {0})))
grouped_form names = eo_name names ▷ priority ▷ group_name names ▷ ended

abbrev pub local_form : Naming → Form (EoId × (Priority × Unit {0}))
local_form names = eo_name names ▷ priority ▷ ended

abbrev pub group_in : Membership → Option GroupId
group_in (memberships.Group g) = Some g
group_in (memberships.Agroup a) = None

abbrev pub agroup_in : Membership → Option ℕ
agroup_in (memberships.Group g) = None
agroup_in (memberships.Agroup a) = Some a

abbrev pub atomic_queue : List ℕ → EoId → Priority → Membership → QueueDecl
atomic_queue name eo p m = record { name = name; kind = kinds.Atomic; eo = Some eo; priority = Some p; group = group_in m; agroup = agroup_in m }

abbrev pub grouped_queue : List ℕ → Kind → EoId → Priority → GroupId → QueueDecl
grouped_queue name k eo p g = record { name = name; kind = k; eo = Some eo; priority = Some p; group = Some g; agroup = None }

abbrev pub local_queue : List ℕ → EoId → Priority → QueueDecl
local_queue name eo p = record { name = name; kind = kinds.Local; eo = Some eo; priority = Some p; group = None; agroup = None }

abbrev pub free_queue : List ℕ → Kind → QueueDecl
free_queue name k = record { name = name; kind = k; eo = None; priority = None; group = None; agroup = None }

abbrev pub IsGrouped : Kind → Type 0
IsGrouped kinds.Parallel = Unit {0}
IsGrouped kinds.Ordered = Unit {0}
IsGrouped _ = ⊥

abbrev pub IsFree : Kind → Type 0
IsFree kinds.Unscheduled = Unit {0}
IsFree kinds.Output = Unit {0}
IsFree _ = ⊥

unfoldable pub queue_behind : Naming → List ℕ → Kind → Rest → Option (Line × Rest)
queue_behind names name kinds.Atomic rest = given (λ p. lines.Queue (atomic_queue name p.0 p.1.0 p.1.1.0)) ((atomic_form names).read rest)
queue_behind names name kinds.Parallel rest =
    given (λ p. lines.Queue (grouped_queue name kinds.Parallel p.0 p.1.0 p.1.1.0)) ((grouped_form names).read rest)
queue_behind names name kinds.Ordered rest =
    given (λ p. lines.Queue (grouped_queue name kinds.Ordered p.0 p.1.0 p.1.1.0)) ((grouped_form names).read rest)
queue_behind names name kinds.Local rest = given (λ p. lines.Queue (local_queue name p.0 p.1.0)) ((local_form names).read rest)
queue_behind names name kinds.Unscheduled rest = given (λ _. lines.Queue (free_queue name kinds.Unscheduled)) (ended.read rest)
queue_behind names name kinds.Output rest = given (λ _. lines.Queue (free_queue name kinds.Output)) (ended.read rest)

unfoldable pub read_queue : Naming → Rest → Option (Line × Rest)
read_queue names rest = do
  name ← (new_name names).read rest
  k ← kind.read name.1
  queue_behind names name.0 k.0 k.1

abbrev pub eo_of : QueueDecl → EoId
eo_of d = unwrap_or d.eo (record { 0 = 0 })

abbrev pub priority_of : QueueDecl → Priority
priority_of d = unwrap_or d.priority priorities.Normal

abbrev pub group_of : QueueDecl → GroupId
group_of d = unwrap_or d.group (record { 0 = 0 })

abbrev pub membership_of : QueueDecl → Membership
membership_of d = option_map_or (λ a. memberships.Agroup a) d.agroup (memberships.Group (group_of d))

-- what is written behind the kind of a queue
abbrev pub kind_tokens : Naming → QueueDecl → Kind → List (List ℕ)
kind_tokens names d kinds.Atomic = (atomic_form names).write (eo_of d, (priority_of d, (membership_of d, tt)))
kind_tokens names d kinds.Parallel = (grouped_form names).write (eo_of d, (priority_of d, (group_of d, tt)))
kind_tokens names d kinds.Ordered = (grouped_form names).write (eo_of d, (priority_of d, (group_of d, tt)))
kind_tokens names d kinds.Local = (local_form names).write (eo_of d, (priority_of d, tt))
kind_tokens names d kinds.Unscheduled = []
kind_tokens names d kinds.Output = []

abbrev pub queue_tokens : Naming → QueueDecl → List (List ℕ)
queue_tokens names d = d.name ∷ kind_text d.kind ∷ kind_tokens names d d.kind

-- ---- whole lines

-- what a line outside bodies says behind its first word
unfoldable pub top_line_behind : Naming → ℕ → TopWord → Rest → Option (Line × Rest)
top_line_behind names cores top.Cores rest = given (λ p. lines.Cores p.0) (cores_form.read rest)
top_line_behind names cores top.Pool rest =
    given (λ p. lines.Pool (record { name = p.0; events = p.1.0; words = p.1.1.0 })) ((pool_form names).read rest)
top_line_behind names cores top.Group rest = given (λ p. lines.Group p.0 p.1.0) ((group_form names cores).read rest)
top_line_behind names cores top.Eo rest = given (λ p. lines.Eo p.0 p.1.0) ((eo_form names).read rest)
top_line_behind names cores top.Agroup rest = given (λ p. lines.Agroup (record { name = p.0; group = p.1.0 })) ((agroup_form names).read rest)
top_line_behind names cores top.Queue rest = read_queue names rest
top_line_behind names cores top.Egroup rest = given (λ p. lines.Egroup p.0) ((egroup_form names).read rest)
top_line_behind names cores top.Boot rest = given (λ _. lines.Body places.Boot) (ended.read rest)
top_line_behind names cores top.Error rest = given (λ _. lines.Body places.Error) (ended.read rest)
top_line_behind names cores top.Body rest = given (λ p. lines.Body (places.Object p.0 p.1.0)) ((body_form names).read rest)
top_line_behind names cores top.Done rest = given (λ _. lines.Done) (ended.read rest)

abbrev pub begins_body : TopWord → Bool
begins_body top.Boot = true
begins_body top.Error = true
begins_body top.Body = true
begins_body top.Done = true
begins_body _ = false

abbrev pub is_cores : TopWord → Bool
is_cores top.Cores = true
is_cores _ = false

-- the first line tells the cores; then come declarations, then bodies, then the end
abbrev pub may_stand : Phase → TopWord → Bool
may_stand phases.First w = is_cores w
may_stand phases.Declarations w = if is_cores w then false else true
may_stand phases.Bodies w = begins_body w
may_stand _ w = false

unfoldable pub read_top_line : Naming → ℕ → Phase → Rest → Option (Line × Rest)
read_top_line names cores phase rest = do
  w ← top_word.read rest
  if may_stand phase w.0 then top_line_behind names cores w.0 w.1 else None
