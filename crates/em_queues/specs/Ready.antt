-- A set of queues for each priority.
use Rattle.std.specs.Prelude.{ℕ, ◌≡◌, ◌==◌, ◌&&◌, if◌then◌else◌, Bool, true, false, List, [], slice_index_or, Option, Some, None, refl}
use Rattle.std.specs.Int.{bit_at}
use Rattle.std.specs.Coded.{Coded, code_by, coded_ℕ, coded_list}
use Rattle.em_queues.specs.declared.set.QueueSet.{QueueSet}
use Rattle.em_queues.specs.Sets.{contains}

-- a set with no queue
abbrev pub no_queues : QueueSet
no_queues = record { words = [] }

-- whether queue q is in the set of priority r
abbrev pub has_ready : List QueueSet → ℕ → ℕ → Bool
has_ready sets r q = contains (slice_index_or sets r no_queues) q

abbrev pub is_ranked : ℕ → Option ℕ → Bool
is_ranked r None = false
is_ranked r (Some s) = r == s

-- where it is so, the set of this priority tells of queue q what is given, and nothing else has changed
abbrev pub IsMarked : List QueueSet → List QueueSet → ℕ → Option ℕ → Bool → Bool → Type 0
IsMarked old new q rank is_so is_in =
    (r p : ℕ) → has_ready new r p ≡ (if is_so && (is_ranked r rank && (p == q)) then is_in else has_ready old r p)

-- the bit of each priority is set whose set has a queue
abbrev pub AreNoted : List QueueSet → ℕ → Type 0
AreNoted sets occupied = (r q : ℕ) → has_ready sets r q ≡ true → bit_at occupied r ≡ 1

-- the code of sets, by which they are told apart
abbrev pub sets_code : Coded (List QueueSet)
sets_code = coded_list (code_by (List ℕ) (coded_list coded_ℕ) (λ s. s.words) (λ w. record { words = w }) (λ _. refl))
