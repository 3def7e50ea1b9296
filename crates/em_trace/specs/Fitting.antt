-- Which entries have numbers that fit their types.
use Rattle.std.specs.Prelude.{◌≡◌, ℕ, ◌≤◌, ◌^◌, List, length, Option, Some, None}
use Rattle.std.specs.List.{AllByRecursion}
use Rattle.em_log.specs.declared.ids.Cells.{Cells}
use Rattle.em_log.specs.declared.ids.Note.{Note}
use Rattle.em_log.specs.declared.ids.Stamp.{Stamp}
use Rattle.em_log.specs.declared.fault.Fault.{Fault}
use Rattle.em_log.specs.declared.fault.Fault.TheVariants as faults
use Rattle.em_log.specs.declared.entry.Event.{Event}
use Rattle.em_log.specs.declared.entry.Body.{Body}
use Rattle.em_log.specs.declared.entry.Body.TheVariants as bodies
use Rattle.em_log.specs.declared.entry.Begun.{Begun}
use Rattle.em_log.specs.declared.entry.Begun.TheVariants as begun
use Rattle.em_log.specs.declared.entry.What.{What}
use Rattle.em_log.specs.declared.entry.What.TheVariants as what
use Rattle.em_log.specs.declared.entry.Entry.{Entry}

abbrev pub IsU8 : ℕ → Type 0
IsU8 n = n ≤ 255

abbrev pub IsU16 : ℕ → Type 0
IsU16 n = n ≤ 65535

abbrev pub IsU32 : ℕ → Type 0
IsU32 n = n ≤ 4294967295

abbrev pub IsU64 : ℕ → Type 0
IsU64 n = n ≤ 18446744073709551615

abbrev pub OptionFits : {A : Type 0} → (A → Type 0) → Option A → Type 0
OptionFits F None = Unit {0}
OptionFits F (Some x) = F x

abbrev pub AreWords : List ℕ → Type 0
AreWords words = (length words ≤ 16) × AllByRecursion IsU64 words

abbrev pub EventFits : Event → Type 0
EventFits event = IsU64 event.handle.0 × (IsU32 event.kind × AreWords event.words)

abbrev pub StampFits : Stamp → Type 0
StampFits stamp = IsU8 stamp.group.0 × IsU32 stamp.app

abbrev pub NoteFits : Note → Type 0
NoteFits note = IsU64 note.word × IsU16 note.queue.0

abbrev pub AreNotes : List Note → Type 0
AreNotes notes = (length notes ≤ 8) × AllByRecursion NoteFits notes

abbrev pub CellsFit : Cells → Type 0
CellsFit cells = (length cells.0 ≡ 8) × AllByRecursion IsU64 cells.0

abbrev pub BodyFits : Body → Type 0
BodyFits bodies.Boot = Unit {0}
BodyFits (bodies.GlobalStart op) = IsU16 op.0
BodyFits (bodies.LocalStart op) = IsU16 op.0
BodyFits (bodies.LocalStop op) = IsU16 op.0
BodyFits (bodies.GlobalStop op) = IsU16 op.0

abbrev pub JobFits : Begun → Type 0
JobFits (begun.Start eo) = IsU8 eo.0
JobFits (begun.Stop eo) = IsU8 eo.0
JobFits (begun.Modify group mask) = IsU8 group.0 × IsU64 mask

abbrev pub FaultFits : Fault → Type 0
FaultFits (faults.NeverMinted word) = IsU64 word
FaultFits (faults.SpentBySend place) = IsU64 place
FaultFits (faults.SpentByFree place) = IsU64 place
FaultFits (faults.HeldElsewhere core) = IsU8 core.0
FaultFits (faults.QueueClosed state) = IsU8 state
FaultFits (faults.WrongKind kind) = Unit {0}
FaultFits faults.NotAtomic = Unit {0}
FaultFits faults.NotOrdered = Unit {0}
FaultFits faults.NoGroup = Unit {0}
FaultFits (faults.GroupBusy left) = IsU32 left
FaultFits (faults.GroupIdle group) = IsU8 group.0
FaultFits (faults.OpPending op) = IsU16 op.0
FaultFits (faults.EoState state) = Unit {0}
FaultFits (faults.BadMask mask) = IsU64 mask
FaultFits (faults.PoolEmpty live) = IsU32 live
FaultFits (faults.BadSize words) = IsU8 words
FaultFits (faults.NoteLost queue) = IsU16 queue.0
FaultFits (faults.BadCount total) = IsU32 total
FaultFits (faults.StartFailed op) = IsU16 op.0
FaultFits (faults.OpsSpent begun) = IsU16 begun

abbrev pub WhatFits : What → Type 0
WhatFits (what.Enter body) = BodyFits body
WhatFits (what.Take queue n ticket) = IsU16 queue.0 × (IsU8 n × OptionFits IsU32 ticket)
WhatFits (what.Start queue event stamp) = IsU16 queue.0 × (EventFits event × OptionFits StampFits stamp)
WhatFits (what.Untake queue n) = IsU16 queue.0 × IsU8 n
WhatFits (what.End lost cells) = IsU32 lost × OptionFits CellsFit cells
WhatFits (what.EndAtomic rest cells) = IsU8 rest × CellsFit cells
WhatFits what.EndOrdered = Unit {0}
WhatFits what.EndGroup = Unit {0}
WhatFits (what.Alloc pool event) = IsU8 pool.0 × EventFits event
WhatFits (what.Free handle) = IsU64 handle.0
WhatFits (what.Send handle queue ticket stamp) = IsU64 handle.0 × (IsU16 queue.0 × (OptionFits IsU32 ticket × OptionFits StampFits stamp))
WhatFits (what.Keep handle) = IsU64 handle.0
WhatFits (what.Claim event) = OptionFits EventFits event
WhatFits (what.Dequeue queue event) = IsU16 queue.0 × OptionFits EventFits event
WhatFits (what.Out queue kind words) = IsU16 queue.0 × (IsU32 kind × AreWords words)
WhatFits (what.Say value) = IsU64 value
WhatFits (what.Enable queue) = IsU16 queue.0
WhatFits (what.Disable queue) = IsU16 queue.0
WhatFits (what.Begin op job notes) = IsU16 op.0 × (JobFits job × AreNotes notes)
WhatFits (what.GlobalDone op ok) = IsU16 op.0
WhatFits (what.Ack op) = IsU16 op.0
WhatFits (what.Done op ok) = IsU16 op.0
WhatFits (what.Apply group app count notes) = IsU8 group.0 × (IsU32 app × (IsU64 count × AreNotes notes))
WhatFits (what.Increment group n) = IsU8 group.0 × IsU64 n
WhatFits (what.Abort group) = IsU8 group.0
WhatFits (what.Notify group app) = IsU8 group.0 × IsU32 app
WhatFits (what.Fault _ fault scope) = FaultFits fault × OptionFits (λ eo. IsU8 eo.0) scope

abbrev pub EntryFits : Entry → Type 0
EntryFits entry = IsU8 entry.core.0 × WhatFits entry.what

-- the places fit 64 bits too
abbrev pub AreEntries : List Entry → Type 0
AreEntries entries = (length entries ≤ 2 ^ 64) × AllByRecursion EntryFits entries
