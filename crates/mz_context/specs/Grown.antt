-- Contexts that have grown.
use Rattle.std.specs.Prelude.{◌≡◌, ◌++◌, List, Option}
use Rattle.mz_context.specs.declared.constants.Constant.{Constant}
use Rattle.mz_context.specs.declared.context.Context.{Context}
use Rattle.mz_context.specs.declared.labelled.LabelledStatement.{LabelledStatement}
use Rattle.mz_context.specs.declared.letters.NamedLetter.{NamedLetter}
use Rattle.mz_context.specs.declared.private.PrivateFunctor.{PrivateFunctor}
use Rattle.mz_context.specs.declared.private.PrivatePredicate.{PrivatePredicate}
use Rattle.mz_context.specs.declared.reserved.ReservedVariable.{ReservedVariable}

-- the lists of the second context are those of the first, and more behind them; beside the statement just before and the thesis
-- nothing else differs
pub record Grew (c d : Context) : Type 0 where
  pub article : d.article ≡ c.article
  pub counts : d.counts ≡ c.counts
  pub constants : (ks : List (Option Constant)) × (d.constants ≡ c.constants ++ ks)
  pub reserved : (vs : List ReservedVariable) × (d.reserved ≡ c.reserved ++ vs)
  pub labelled : (ps : List LabelledStatement) × (d.labelled ≡ c.labelled ++ ps)
  pub schemes : d.schemes ≡ c.schemes
  pub functors : (fs : List PrivateFunctor) × (d.functors ≡ c.functors ++ fs)
  pub predicates : (ps : List PrivatePredicate) × (d.predicates ≡ c.predicates ++ ps)
  pub letters : (ls : List NamedLetter) × (d.letters ≡ c.letters ++ ls)
  pub it_is : d.it ≡ c.it
  pub arguments : d.arguments ≡ c.arguments
  pub subject : d.subject ≡ c.subject
