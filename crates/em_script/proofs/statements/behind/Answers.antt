use Rattle.em_script.specs.Names.{reading}
use Rattle.em_script.proofs.statements.behind.Goals as goal

pub returns-in-Set : goal.returns-in-Set
returns-in-Set c = rw c.in-Set.is (c.set.ensures (reading c.args.names.now) c.args.may_else)

pub returns-in-If : goal.returns-in-If
returns-in-If c = rw c.in-If.is (c.test.ensures (reading c.args.names.now) c.args.may_else)

pub returns-in-Else : goal.returns-in-Else
returns-in-Else c = rw c.in-Else.is (c.otherwise.ensures (reading c.args.names.now))

pub returns-in-End : goal.returns-in-End
returns-in-End c = rw c.in-End.is (c.end.ensures (reading c.args.names.now) c.args.may_else)

pub returns-in-Repeat : goal.returns-in-Repeat
returns-in-Repeat c = rw c.in-Repeat.is (c.repeat.ensures (reading c.args.names.now) c.args.may_else)

pub returns-in-Cell : goal.returns-in-Cell
returns-in-Cell c = rw c.in-Cell.is (c.cell.ensures (reading c.args.names.now) c.args.may_else)

pub returns-in-Say : goal.returns-in-Say
returns-in-Say c = rw c.in-Say.is (c.say.ensures (reading c.args.names.now) c.args.may_else)

pub returns-in-Alloc : goal.returns-in-Alloc
returns-in-Alloc c = rw c.in-Alloc.is (c.alloc_event.ensures c.args.may_else)

pub returns-in-Free : goal.returns-in-Free
returns-in-Free c = rw c.in-Free.is (c.free.ensures (reading c.args.names.now) c.args.may_else)

pub returns-in-Keep : goal.returns-in-Keep
returns-in-Keep c = rw c.in-Keep.is (c.keep.ensures (reading c.args.names.now) c.args.may_else)

pub returns-in-Send : goal.returns-in-Send
returns-in-Send c = rw c.in-Send.is (c.send.ensures c.args.may_else)

pub returns-in-SendG : goal.returns-in-SendG
returns-in-SendG c = rw c.in-SendG.is (c.send_in_group.ensures c.args.may_else)

pub returns-in-Claim : goal.returns-in-Claim
returns-in-Claim c = rw c.in-Claim.is (c.claim.ensures (reading c.args.names.now) c.args.may_else)

pub returns-in-Dequeue : goal.returns-in-Dequeue
returns-in-Dequeue c = rw c.in-Dequeue.is (c.dequeue.ensures c.args.may_else)

pub returns-in-Enable : goal.returns-in-Enable
returns-in-Enable c = rw c.in-Enable.is (c.enable.ensures c.args.may_else)

pub returns-in-Disable : goal.returns-in-Disable
returns-in-Disable c = rw c.in-Disable.is (c.disable.ensures c.args.may_else)

pub returns-in-EndAtomic : goal.returns-in-EndAtomic
returns-in-EndAtomic c = rw c.in-EndAtomic.is (c.end_atomic.ensures (reading c.args.names.now) c.args.may_else)

pub returns-in-EndOrdered : goal.returns-in-EndOrdered
returns-in-EndOrdered c = rw c.in-EndOrdered.is (c.end_ordered.ensures (reading c.args.names.now) c.args.may_else)

pub returns-in-EndGroup : goal.returns-in-EndGroup
returns-in-EndGroup c = rw c.in-EndGroup.is (c.end_group.ensures (reading c.args.names.now) c.args.may_else)

pub returns-in-Apply : goal.returns-in-Apply
returns-in-Apply c = rw c.in-Apply.is (c.apply.ensures c.args.may_else)

pub returns-in-Increment : goal.returns-in-Increment
returns-in-Increment c = rw c.in-Increment.is (c.increment.ensures (reading c.args.names.now) c.args.may_else)

pub returns-in-Abort : goal.returns-in-Abort
returns-in-Abort c = rw c.in-Abort.is (c.abort.ensures c.args.may_else)

pub returns-in-Start : goal.returns-in-Start
returns-in-Start c = rw c.in-Start.is (c.start.ensures c.args.may_else)

pub returns-in-Stop : goal.returns-in-Stop
returns-in-Stop c = rw c.in-Stop.is (c.stop.ensures c.args.may_else)

pub returns-in-Modify : goal.returns-in-Modify
returns-in-Modify c = rw c.in-Modify.is (c.modify.ensures c.args.may_else)

pub returns-in-Fail : goal.returns-in-Fail
returns-in-Fail c = rw c.in-Fail.is (c.fail.ensures (reading c.args.names.now) c.args.may_else)
