-- What the names of a script stand for, and the names of a graph's parts.
use Rattle.std.specs.Prelude.{ℕ, zero, suc, List, [], Option, Some, None, codes, slice_get}
use Rattle.std.specs.Option.{option_map_or}
use Rattle.std.specs.Ordering.{nat_cmp}
use Rattle.std.specs.Cmp.Lexicographic.{slice_cmp}
use Rattle.std.specs.FinMap as map
use Rattle.em_log.specs.declared.graph.Config.{Config}
use Rattle.em_log.specs.declared.ids.PoolId.{PoolId}
use Rattle.em_log.specs.declared.ids.GroupId.{GroupId}
use Rattle.em_log.specs.declared.ids.EoId.{EoId}
use Rattle.em_log.specs.declared.ids.QueueId.{QueueId}
use Rattle.em_log.specs.declared.ids.EventGroupId.{EventGroupId}
use Rattle.em_script.specs.declared.named.Named.{Named}
use Rattle.em_script.specs.declared.named.Named.TheVariants as named

-- the names that stand for something so far, each with what it stands for
abbrev pub Table : Type 0
Table = map.FinMap (slice_cmp nat_cmp) Named

-- at first there is the queue group of every core
abbrev pub first_table : Table
first_table = map.insert map.empty (codes "all") (named.Group (record { 0 = 0 }))

-- names both ways: what a name stands for, and the name of what is declared
pub record Naming : Type 0 where
  pub find : List ℕ → Option Named
  pub name : Named → List ℕ

abbrev pub group_name : Config → ℕ → List ℕ
group_name g zero = codes "all"
group_name g (suc n) = option_map_or (λ d. d.name) (slice_get g.groups n) []

-- the name of what a graph declares
abbrev pub name_in : Config → Named → List ℕ
name_in g (named.Pool id) = option_map_or (λ d. d.name) (slice_get g.pools id.0) []
name_in g (named.Group id) = group_name g id.0
name_in g (named.Eo id) = option_map_or (λ d. d.name) (slice_get g.eos id.0) []
name_in g (named.Agroup n) = option_map_or (λ d. d.name) (slice_get g.agroups n) []
name_in g (named.Queue id) = option_map_or (λ d. d.name) (slice_get g.queues id.0) []
name_in g (named.Egroup id) = option_map_or (λ d. d) (slice_get g.egroups id.0) []

abbrev pub no_name : Named → List ℕ
no_name x = []

abbrev pub no_meaning : List ℕ → Option Named
no_meaning token = None

-- where names are looked up, and where they are written

abbrev pub reading : Table → Naming
reading table = record { find = map.get table; name = no_name }

abbrev pub writing : Config → Naming
writing g = record { find = no_meaning; name = name_in g }

-- what each slot needs

abbrev pub as_pool : Named → Option PoolId
as_pool (named.Pool id) = Some id
as_pool _ = None

abbrev pub as_group : Named → Option GroupId
as_group (named.Group id) = Some id
as_group _ = None

abbrev pub as_eo : Named → Option EoId
as_eo (named.Eo id) = Some id
as_eo _ = None

abbrev pub as_agroup : Named → Option ℕ
as_agroup (named.Agroup n) = Some n
as_agroup _ = None

abbrev pub as_queue : Named → Option QueueId
as_queue (named.Queue id) = Some id
as_queue _ = None

abbrev pub as_egroup : Named → Option EventGroupId
as_egroup (named.Egroup id) = Some id
as_egroup _ = None
