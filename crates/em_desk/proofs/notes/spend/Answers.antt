use Rattle.std.proofs.Common.{◌∙◌, refl, ap}
use Rattle.em_pool.specs.State.{PoolState}
use Rattle.em_desk.proofs.HandedNotes.{can-now, can-later, spent-later, spent-last}
use Rattle.em_desk.proofs.notes.spend.Goals as goal

pub loop-note-init : goal.loop-note-init
loop-note-init c =
    record { can = c.requires; spent = λ s stands. record { steps = s; stands = stands; same = refl }; shapes = refl; spare = refl }

pub spend-requires : goal.spend-requires
spend-requires c =
    can-now c.loop-note.pools c.args.core.0 c.args.place c.loop-note.note-index c.args.notes.now _ c.loop-note.invariant.can c.loop-note-test.true

pub loop-note-preserved : goal.loop-note-preserved
loop-note-preserved c =
    record {
      can = can-later c.loop-note.pools c.spend.new.self c.args.core.0 c.args.place c.loop-note.note-index c.args.notes.now _ c.loop-note.invariant.can c.loop-note-test.true c.spend.ensures.stands;
      spent = λ s stands.
          spent-later c.loop-note.pools c.spend.new.self s c.args.core.0 c.args.place c.loop-note.note-index c.args.notes.now _ (c.loop-note.invariant.spent s stands) c.loop-note-test.true
          c.spend.ensures.stands;
      shapes = ap (λ (v : PoolState). v.pools) c.spend.ensures.value ∙ c.loop-note.invariant.shapes;
      spare = ap (λ (v : PoolState). v.spare) c.spend.ensures.value ∙ c.loop-note.invariant.spare;
    }

pub returns-clause-stands : goal.returns-clause-stands
returns-clause-stands c = λ s stands.
    spent-last c.loop-note.pools s c.args.core.0 c.args.place c.loop-note.note-index c.args.notes.now (c.loop-note.invariant.spent s stands) c.loop-note-test.false
