-- Threads may share a graph, and a body that runs may go to another thread.
use mathlib.Core.List.{[], ◌∷◌}
use denote.Param.Send.{IsSend, IsSync, recorded_send, recorded_sync, sendable, shr_send, struct_send, view_send}
use denote.Ref.{NamedLft}
use denote.Struct.Declared.{shape}
use denote.Struct.Tuple.{Tuple}
use Rattle.std.proofs.Crossing.{crosses}
use Rattle.em_log.proofs.body.Expr.TheLaws.TheKnot as expr
use Rattle.em_log.proofs.body.Stmt.TheLaws.TheKnot as stmt
use Rattle.em_log.proofs.list.List.TheSendSync as list
use Rattle.em_log.specs.contracts.body.Expr as Expr
use Rattle.em_log.specs.contracts.body.Stmt as Stmt
use Rattle.em_log.specs.contracts.graph.Config as Config
use Rattle.em_log.specs.contracts.graph.EoDecl as EoDecl
use Rattle.em_log.specs.contracts.graph.Name as Name
use Rattle.em_log.specs.contracts.graph.QueueDecl as QueueDecl
use Rattle.em_log.specs.contracts.ids.QueueId as QueueId
use Rattle.em_log.specs.contracts.list.List as List
use Rattle.em_body.proofs.environment.Environment.TheSendSync as environment
use Rattle.em_body.specs.contracts.environment.Environment as Environment
use Rattle.em_body.specs.contracts.run.BodyRun as BodyRun
use Rattle.em_body.specs.contracts.run.BodyRun.TheInside as Inside
use Rattle.em_body.specs.contracts.stack.Stack as Stack
use Rattle.em_body.specs.contracts.standing.Outer as Outer
use Rattle.em_body.specs.contracts.standing.Standing as Standing

expr-sync : IsSync (Expr.the_field).row
expr-sync = search (expr.crosses, sendable, crosses) depth 30

expr-row-sync : IsSync Expr.the_row
expr-row-sync = recorded_sync (Expr.the_field).row _ _ (Expr.the_type).to_one expr-sync

stmt-sync : IsSync (Stmt.the_field).row
stmt-sync =
    let e = expr-sync in
    let r = expr-row-sync in
    let notes : IsSync (Tuple (Expr.the_row ∷ QueueId.the_row ∷ [])) = search sendable depth 20 in
    stmt.sync-Stmt
    (search sendable depth 20)
    e
    list.the_sync
    (search sendable depth 20)
    (search sendable depth 20)
    (search sendable depth 20)
    (list.the_sync Expr.the_row r)
    (search sendable depth 20)
    (search sendable depth 20)
    (list.the_sync (Tuple (Expr.the_row ∷ QueueId.the_row ∷ [])) notes)
    (search sendable depth 20)
    (search sendable depth 20)

stmt-row-sync : IsSync Stmt.the_row
stmt-row-sync = recorded_sync (Stmt.the_field).row _ _ (Stmt.the_type).to_one stmt-sync

block-sync : IsSync (List.the_row Stmt.the_row)
block-sync = list.the_sync Stmt.the_row stmt-row-sync

name-sync : IsSync Name.the_row
name-sync = search (sendable, crosses) depth 30

object-sync : IsSync EoDecl.the_row
object-sync = let b = block-sync in let n = name-sync in search (sendable, crosses) depth 30

queue-sync : IsSync QueueDecl.the_row
queue-sync = let n = name-sync in search (sendable, crosses) depth 30

config-sync : IsSync Config.the_row
config-sync = let b = block-sync in let n = name-sync in let o = object-sync in let q = queue-sync in search (sendable, crosses) depth 30

environment-send : IsSend Environment.the_row
environment-send = search (environment.the_send, sendable, crosses) depth 30

stack-send : (κ : NamedLft) → IsSend (Stack.the_row κ)
stack-send κ = let s = stmt-row-sync in search (sendable, crosses) depth 30

outer-send : (κ : NamedLft) → IsSend (Outer.the_row κ)
outer-send κ = let e = environment-send in let s = stack-send κ in search (sendable, crosses) depth 30

standing-send : (κ : NamedLft) → IsSend (Standing.the_field κ).row
standing-send κ = let e = environment-send in let s = stack-send κ in let o = outer-send κ in let b = block-sync in let t = stmt-row-sync in search (sendable, crosses) depth 30

inside-send : (κ : NamedLft) → IsSend (Inside.the_row κ)
inside-send κ = recorded_send (Inside.the_field κ).row _ _ (Inside.the_type κ).to_one (struct_send (shape (Inside.the_type κ))
    (shr_send κ.mir κ.lft Config.the_row config-sync, (search sendable depth 20, (standing-send κ, tt))))

pub body-send : (κ : NamedLft) → IsSend (BodyRun.the_row κ)
body-send κ = view_send (Inside.the_row κ) _ _ _ _ (inside-send κ)
