use Rattle.std.proofs.Common.{◌≡◌, ◌∙◌, ℕ, false, Some, None, refl, ap, subst}
use Rattle.em_log.specs.declared.ask.Ask.{Ask}
use Rattle.em_log.specs.declared.ask.Reply.{Reply}
use Rattle.em_log.specs.declared.entry.What.{What}
use Rattle.em_log.specs.Leads.{lead}
use Rattle.em_log.specs.Answers.{answer_of}
use Rattle.em_desk.specs.declared.desk.Desk.TheInside.{Inside}
use Rattle.em_desk.specs.declared.outcome.Outcome.{Outcome}
use Rattle.em_desk.specs.declared.parts.Parts.{Parts}
use Rattle.em_desk.specs.Standing.{Stands}
use Rattle.em_desk.specs.State.{DeskState, state_of, IsAnswered, Adds, answer_by, outcome_of}
use Rattle.em_desk.proofs.TakeAnswers.{owed-by}
use Rattle.em_desk.proofs.desk.Desk.ask_brief.Goals as goal

-- an ask is answered by what it comes to
answer-is : (w : What) → answer_by (outcome_of w) ≡ answer_of w
answer-is (What.Claim None) = refl
answer-is (What.Claim (Some e)) = refl
answer-is (What.Dequeue q None) = refl
answer-is (What.Dequeue q (Some e)) = refl
answer-is w = refl

answered : (d : Inside) (t : DeskState) (q : Parts) (c : ℕ) (a : Ask) (o : Outcome) (r : Reply) → state_of d ≡ t → Stands q
    → Adds d.parts q c (lead d.parts.declarations d.parts.history.past c a) o → r ≡ record { answer = answer_by o; owed = false }
    → IsAnswered t (state_of (record { parts = q; halted = d.halted })) c (lead t.declarations t.past c a) r
answered d t q c a o r view stands adds is =
    subst (λ (s : DeskState). IsAnswered s (state_of (record { parts = q; halted = d.halted })) c (lead s.declarations s.past c a) r) view
    (record {
      past = adds.past;
      answer = ap (λ (r : Reply). r.answer) is ∙ (ap answer_by adds.told ∙ answer-is (lead d.parts.declarations d.parts.history.past c a));
      owed = owed-by (state_of d) q c (answer_by o) r stands adds.declarations is;
      run = record { declarations = adds.declarations; limits = adds.limits; halted = refl };
    })

pub returns : goal.returns
returns c =
    answered c.self.inside c.args.self.now c.ask.new.self c.args.core.0 c.args.ask c.ask.result c.reply.result c.self.view_is c.ask.ensures.stands
    c.ask.ensures.adds c.reply.ensures
