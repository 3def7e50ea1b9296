-- A run that is sound stays so.
use Rattle.std.proofs.Common.{◌≡◌, ◌<◌, List, [], ◌∷◌, length, Option, Some, None, sym, subst, IsTrue}
use Rattle.em_log.specs.declared.ask.Answer.{Answer}
use Rattle.em_log.specs.declared.ask.Context.{Context}
use Rattle.em_log.specs.declared.body.Stmt.{Stmt}
use Rattle.em_log.specs.declared.fault.Fault.{Fault}
use Rattle.em_log.specs.declared.graph.Config.{Config}
use Rattle.em_log.specs.declared.work.Move.{Move}
use Rattle.em_log.specs.WellFormed.{IsWellFormed}
use Rattle.em_body.specs.Runs.{IsErrorBody, IsOuter, IsSound}
use Rattle.em_body.specs.Standings.{Left, Made, Outer, Standing, Does, nests, first_of, after_first, is_small, settled_by, settled, refused, left_by, begun, body_of}
use Rattle.em_body.proofs.Bodies.{place_of, body-statements, few-of, small}
use Rattle.em_body.proofs.ErrorBodies.{error-statements}
use Rattle.em_body.proofs.Settled.{does-error, does-outer}
use Rattle.em_body.proofs.NestedBlocks.{Opened, opened, room, does-nested}

-- beginnings

pub begun-sound : (f : Made) → IsWellFormed f.graph → (c : Context) → IsSound f.graph (begun f c)
begun-sound f well c =
    record {
      graph = well;
      left = few-of f.graph (place_of c) (body_of f.graph c) (body-statements f.graph well c);
      error = error-statements f.graph well c;
      outer = tt;
    }

-- answers

refused-sound : (g : Config) (error : Option (List Stmt)) (outer : Option Outer) (q : Stmt) (f : Fault) (s : Standing) → IsErrorBody g error
    → IsSound g s → IsSound g (refused error outer q f s)
refused-sound g (Some body) None q f s fits sound =
    record { graph = sound.graph; left = few-of g fits.0 body fits.1; error = sound.error; outer = sound.left }
refused-sound g (Some body) (Some o) q f s fits sound =
    record { graph = sound.graph; left = sound.left; error = sound.error; outer = sound.outer }
refused-sound g None outer q f s fits sound =
    record { graph = sound.graph; left = sound.left; error = sound.error; outer = sound.outer }

pub left-sound : (g : Config) (o : Option Stmt) (x : Answer) (s : Standing) → IsSound g s → IsSound g (left_by o x s)
left-sound g None x s sound = record { graph = sound.graph; left = sound.left; error = sound.error; outer = sound.outer }
left-sound g (Some q) (Answer.Refused f) s sound = refused-sound g s.error s.outer q f s sound.error sound
left-sound g (Some q) x s sound = record { graph = sound.graph; left = sound.left; error = sound.error; outer = sound.outer }

-- moves

by-sound : (g : Config) (ls : List Left) (o : Option Outer) (s : Standing) → IsOuter g o → IsSound g s → IsSound g (settled_by ls o s)
by-sound g [] (Some o) s outer sound = record { graph = sound.graph; left = outer; error = sound.error; outer = tt }
by-sound g [] None s outer sound = sound
by-sound g (l ∷ ls) o s outer sound = sound

pub settled-sound : (g : Config) (s : Standing) → IsSound g s → IsSound g (settled s)
settled-sound g s sound = by-sound g s.left s.outer s sound.outer sound

-- the next statement of a sound run
opened-of : (g : Config) (s : Standing) (q : Stmt) (sound : IsSound g s) → Some q ≡ first_of s.left → Opened g sound.left.0 q (after_first s.left)
opened-of g s q sound first = opened g sound.left.0 0 s.left q sound.left.1 (sym first)

-- it leaves room for its blocks
pub next-room : (g : Config) (s : Standing) (q : Stmt) (rest : List Left) → IsSound g s → Some q ≡ first_of s.left → rest ≡ after_first s.left
    → IsTrue (nests q) → length rest < 17
next-room g s q rest sound first after deep =
    subst (λ ls. length ls < 17) (sym after) (room g sound.left.0 q (after_first s.left) (opened-of g s q sound first) deep)

pub next-small : (g : Config) (s : Standing) (q : Stmt) → IsSound g s → Some q ≡ first_of s.left → IsTrue (is_small q)
next-small g s q sound first = let o = opened-of g s q sound first in small g sound.left.0 o.depth q o.fits

pub does-sound : (g : Config) (s : Standing) (q : Stmt) (rest : List Left) (m : Move) (now : Standing) → IsSound g s → Some q ≡ first_of s.left
    → rest ≡ after_first s.left → Does q (record s { left = rest }) m now → IsSound g now
does-sound g s q rest m now sound first after does =
    let o : Opened g sound.left.0 q rest = subst (Opened g sound.left.0 q) (sym after) (opened-of g s q sound first) in
    record {
      graph = sound.graph;
      left = (sound.left.0, does-nested g sound.left.0 o.depth q (record s { left = rest }) m now o.fits o.nested does);
      error = subst (IsErrorBody g) (sym (does-error q (record s { left = rest }) m now does)) sound.error;
      outer = subst (IsOuter g) (sym (does-outer q (record s { left = rest }) m now does)) sound.outer;
    }
