use Rattle.mz_desk.proofs.AnswerLemmas.{one_answer, taken_stands, stands_strays, one_reason, one_publication, one_reclaim, one_unsettled}
use Rattle.mz_desk.proofs.laws.answers_law.Goals as goal

pub returns : goal.returns
returns c = record {
  claim = λ s new newer w x y corpus whole h i. one_answer s corpus whole w new newer x y h i;
  taken = taken_stands;
  stands = stands_strays;
  reason = one_reason;
  publish = one_publication;
  reclaim = one_reclaim;
  unsettled = one_unsettled;
}
