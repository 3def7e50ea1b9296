use Rattle.em_replies.proofs.replies.Replies.new.Goals as goal

-- src/replies.rt:103:5
pub invariant_of-result : goal.invariant_of-result
invariant_of-result c = record {
  receive = (_, c.ready.ensures);
  minted = (_, c.ready-2.ensures);
  refused = (_, c.ready-3.ensures);
  done = c.ready-4.ensures;
  nothing = c.ready-5.ensures;
  idle = c.ready-6.ensures;
}
