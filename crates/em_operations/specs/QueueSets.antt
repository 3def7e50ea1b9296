-- Sets of queues by their objects and queue groups, and those that a core may take from.
use Rattle.std.specs.Prelude.{ℕ, ◌≡◌, ◌+◌, ◌<◌, Bool, false, not, ◌&&◌, nat_lt, List, length, get_or, slice_get, slice_index_or, Option, None, unwrap_or, if◌then◌else◌}
use Rattle.std.specs.Option.{option_map, option_map_or}
use Rattle.em_log.specs.declared.declarations.Declarations.{Declarations}
use Rattle.em_log.specs.declared.declarations.QueueShape.{QueueShape}
use Rattle.em_log.specs.Declarations.{object_of, group_of, declared_mask, is_number}
use Rattle.em_log.specs.Eligible.{has_core}
use Rattle.em_queues.specs.declared.set.QueueSet.{QueueSet}
use Rattle.em_queues.specs.Sets.{contains}
use Rattle.em_objects.specs.Queues.{runs, flag}
use Rattle.em_objects.specs.Steps.{ObjectStep}
use Rattle.em_groups.specs.Steps.{GroupStep}
use Rattle.em_operation_parts.specs.Queues.{in_group}
use Rattle.em_operations.specs.declared.queue_sets.QueueSets.{QueueSets}

-- as declared

abbrev pub object_in : QueueShape → Option ℕ
object_in d = option_map (λ x. x.0) d.eo

-- the number of the queue's object or group, in a list of these
abbrev pub number_at : List (Option ℕ) → ℕ → Option ℕ
number_at numbers q = slice_index_or numbers q None

-- whether such an object runs at first
abbrev pub runs_as : List Bool → Option ℕ → Bool
runs_as running o = option_map_or (λ x. unwrap_or (slice_get running x) false) o false

-- whether the declared mask of such a group lacks core c
abbrev pub bars_as : Declarations → ℕ → Option ℕ → Bool
bars_as k c o = option_map_or (λ g. not (has_core (declared_mask k g) c)) o false

abbrev pub AreDeclaredBarred : Declarations → List (Option ℕ) → List QueueSet → Type 0
AreDeclaredBarred k groups sets = (c q : ℕ) (s : QueueSet) → c < length sets → s ≡ get_or sets c s → contains s q ≡ bars_as k c (number_at groups q)

-- each set has the queues of its number
abbrev pub AreOf : (ℕ → Option ℕ) → List QueueSet → Type 0
AreOf number sets = (n q : ℕ) (s : QueueSet) → n < length sets → s ≡ get_or sets n s → contains s q ≡ is_number n (number q)

-- on the steps of objects and queue groups

-- the set of each core has the queues of groups whose mask in force lacks the core
abbrev pub AreBarred : Declarations → List GroupStep → List QueueSet → Type 0
AreBarred k groups sets = (c q : ℕ) (s : QueueSet) → c < length sets → s ≡ get_or sets c s → contains s q ≡ not (in_group k groups c q)

-- a set is given these queues, or they are taken from it
abbrev pub put_as : Bool → Bool → Bool → Bool
put_as concerned is_in was = if concerned then is_in else was

-- the cores below n that the mask lacks are barred from these queues, and the others below n are not
abbrev pub AreRebarred : ℕ → List QueueSet → QueueSet → ℕ → List QueueSet → Type 0
AreRebarred n old queues mask new =
    (c q : ℕ) (s t : QueueSet) → c < length old → s ≡ get_or new c s → t ≡ get_or old c t
    → contains s q ≡ put_as (contains queues q && nat_lt c n) (not (has_core mask c)) (contains t q)

pub record SetsStand (k : Declarations) (v : QueueSets) (objects : List ObjectStep) (groups : List GroupStep) : Type 0 where
  pub object_count : length v.of_object.items ≡ length k.running
  pub of_object : AreOf (object_of k) v.of_object.items
  pub group_count : length v.of_group.items ≡ length k.groups + 1
  pub of_group : AreOf (group_of k) v.of_group.items
  pub running : (q : ℕ) → contains v.running q ≡ runs k objects q
  pub disabled : (q : ℕ) → contains v.disabled q ≡ not (flag objects q)
  pub core_count : length v.barred.items ≡ k.cores
  pub barred : AreBarred k groups v.barred.items
