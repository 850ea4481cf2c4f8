use Rattle.mz_terms.proofs.OneTerm.{one_term, one_list}
use Rattle.mz_terms.proofs.OneType.{one_own, one_type}
use Rattle.mz_formula_laws.proofs.OneAtom.{Determined, one_declared}
use Rattle.mz_formula_laws.proofs.OneFormula.{one_formula, one_sentence}
use Rattle.mz_formula_laws.proofs.laws.one_formula_law.Goals as goal

determined : Determined
determined =
    record {
      term = λ e c least t o p h k. one_term e c least t o h p k;
      terms = λ e c least t o p h k. one_list e c least t o h p k;
      own = one_own;
      ty = one_type;
    }

pub returns-clause-formula : goal.returns-clause-formula
returns-clause-formula z = λ e least c f o p h k. one_formula determined e least c f o h p k

pub returns-clause-declaration : goal.returns-clause-declaration
returns-clause-declaration z = one_declared determined

pub returns-clause-sentence : goal.returns-clause-sentence
returns-clause-sentence z = one_sentence determined
