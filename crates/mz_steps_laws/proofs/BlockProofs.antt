-- Steps only add to the lists of a context, and the end of a block cuts these back.
use Rattle.std.proofs.Common.{◌≡◌, ℕ, zero, suc, List, [], ◌∷◌, ◌++◌, length, take, refl, sym, ap, ◌∙◌, append_assoc, Option, Some, None}
use Rattle.std.specs.Prelude.{flat_map}
use Rattle.std.proofs.lemmas.List.{append-nil}
use Rattle.mz_core.specs.Statement.{Statement}
use Rattle.mz_context.specs.Changes.{trimmed, with_constant}
use Rattle.mz_context.specs.Grown.{Grew}
use Rattle.mz_context.specs.declared.constants.Constant.{Constant}
use Rattle.mz_context.specs.declared.context.Context.{Context}
use Rattle.mz_context.specs.declared.labelled.LabelledStatement.{LabelledStatement}
use Rattle.mz_names.specs.Closing.{constant_of, with_variables}
use Rattle.mz_names.specs.declared.variable.Variable.{Variable}
use Rattle.mz_steps.specs.Rows.{with_constants, constant_for}
use Rattle.mz_steps.specs.Changes.{with_thesis, label_of, with_stated, context_after, outside_of, at_start_of_proof, at_start_of_now, behind_block}
use Rattle.mz_steps.specs.declared.block.Effect.{Effect}
use Rattle.mz_steps.specs.declared.block.Effect.TheVariants.{Unchanged, Leaves, Says}
use Rattle.mz_steps.specs.declared.read_step.ReadStep.{ReadStep}
use Rattle.mz_steps.specs.declared.read_step.ReadStep.TheVariants.{Let, Assume, Given, Thus, Take, Consider, Reconsider, Set, State}
use Rattle.mz_steps_laws.specs.BlockLaws.{StepGrowsLaw, MoreGrewLaw, ProofGrewLaw, NowGrewLaw, BlockLaw}

-- a list is itself and nothing more
itself : {X : Type 0} (xs : List X) → (ys : List X) × (xs ≡ xs ++ ys)
itself xs = ([], sym (append-nil xs))

further : {X : Type 0} (xs ys zs : List X) → (us : List X) × (ys ≡ xs ++ us) → (vs : List X) × (zs ≡ ys ++ vs) → (ws : List X) × (zs ≡ xs ++ ws)
further xs ys zs p q = (p.0 ++ q.0, q.1 ∙ (ap (λ ys. ys ++ q.0) p.1 ∙ append_assoc xs p.0 q.0))

pub more_grew_law : MoreGrewLaw
more_grew_law c d e g h = record {
  article = h.article ∙ g.article;
  counts = h.counts ∙ g.counts;
  constants = further c.constants d.constants e.constants g.constants h.constants;
  reserved = further c.reserved d.reserved e.reserved g.reserved h.reserved;
  labelled = further c.labelled d.labelled e.labelled g.labelled h.labelled;
  schemes = h.schemes ∙ g.schemes;
  functors = further c.functors d.functors e.functors g.functors h.functors;
  predicates = further c.predicates d.predicates e.predicates g.predicates h.predicates;
  letters = further c.letters d.letters e.letters g.letters h.letters;
  it_is = h.it_is ∙ g.it_is;
  arguments = h.arguments ∙ g.arguments;
  subject = h.subject ∙ g.subject;
}

grew_itself : (c : Context) → Grew c c
grew_itself c = record {
  article = refl;
  counts = refl;
  constants = itself c.constants;
  reserved = itself c.reserved;
  labelled = itself c.labelled;
  schemes = refl;
  functors = itself c.functors;
  predicates = itself c.predicates;
  letters = itself c.letters;
  it_is = refl;
  arguments = refl;
  subject = refl;
}

grew_constant : (c : Context) (k : Constant) → Grew c (with_constant c k)
grew_constant c k = record {
  article = refl;
  counts = refl;
  constants = (Some k ∷ [], refl);
  reserved = itself c.reserved;
  labelled = itself c.labelled;
  schemes = refl;
  functors = itself c.functors;
  predicates = itself c.predicates;
  letters = itself c.letters;
  it_is = refl;
  arguments = refl;
  subject = refl;
}

grew_variables : (c : Context) (vs : List Variable) → Grew c (with_variables c vs)
grew_variables c [] = grew_itself c
grew_variables c (v ∷ vs) = more_grew_law c (with_constant c (constant_of v)) (with_variables (with_constant c (constant_of v)) vs) (grew_constant c (constant_of v)) (grew_variables (with_constant c (constant_of v)) vs)

grew_constants : (c : Context) (s : ReadStep) → Grew c (with_constants c s)
grew_constants c (Let v) = grew_constant c (constant_of v)
grew_constants c (Assume s) = grew_itself c
grew_constants c (Given vs s) = grew_variables c vs
grew_constants c (Thus s) = grew_itself c
grew_constants c (Take t) = grew_itself c
grew_constants c (Consider vs s) = grew_variables c vs
grew_constants c (Reconsider d) = grew_constant c (constant_for d)
grew_constants c (Set d) = grew_constant c (constant_for d)
grew_constants c (State s) = grew_itself c

grew_left : (c : Context) (s : Statement) → Grew c (with_thesis c (Leaves s))
grew_left c s = record {
  article = refl;
  counts = refl;
  constants = itself c.constants;
  reserved = itself c.reserved;
  labelled = itself c.labelled;
  schemes = refl;
  functors = itself c.functors;
  predicates = itself c.predicates;
  letters = itself c.letters;
  it_is = refl;
  arguments = refl;
  subject = refl;
}

grew_thesis : (c : Context) (e : Effect) → Grew c (with_thesis c e)
grew_thesis c Unchanged = grew_itself c
grew_thesis c (Leaves s) = grew_left c s
grew_thesis c (Says ps) = grew_itself c

grew_stated : (c : Context) (ps : List LabelledStatement) → Grew c (with_stated c ps)
grew_stated c ps = record {
  article = refl;
  counts = refl;
  constants = itself c.constants;
  reserved = itself c.reserved;
  labelled = (flat_map label_of ps, refl);
  schemes = refl;
  functors = itself c.functors;
  predicates = itself c.predicates;
  letters = itself c.letters;
  it_is = refl;
  arguments = refl;
  subject = refl;
}

pub step_grows_law : StepGrowsLaw
step_grows_law c s e ps =
    let d : Context = with_constants c s in
    more_grew_law c d (context_after c s e ps) (grew_constants c s) (more_grew_law d (with_thesis d e) (with_stated (with_thesis d e) ps) (grew_thesis d e) (grew_stated (with_thesis d e) ps))

pub proof_grew_law : ProofGrewLaw
proof_grew_law c thesis = record {
  article = refl;
  counts = refl;
  constants = itself c.constants;
  reserved = itself c.reserved;
  labelled = itself c.labelled;
  schemes = refl;
  functors = itself c.functors;
  predicates = itself c.predicates;
  letters = itself c.letters;
  it_is = refl;
  arguments = refl;
  subject = refl;
}

pub now_grew_law : NowGrewLaw
now_grew_law c = record {
  article = refl;
  counts = refl;
  constants = itself c.constants;
  reserved = itself c.reserved;
  labelled = itself c.labelled;
  schemes = refl;
  functors = itself c.functors;
  predicates = itself c.predicates;
  letters = itself c.letters;
  it_is = refl;
  arguments = refl;
  subject = refl;
}

-- what was there before
taken : {X : Type 0} (xs ys : List X) → take (length xs) (xs ++ ys) ≡ xs
taken [] [] = refl
taken [] (y ∷ ys) = refl
taken (x ∷ xs) ys = ap (λ zs. x ∷ zs) (taken xs ys)

take-cut : {X : Type 0} (xs ys : List X) → (zs : List X) × (ys ≡ xs ++ zs) → take (length xs) ys ≡ xs
take-cut xs ys p = ap (take (length xs)) p.1 ∙ taken xs p.0

pub block_law : BlockLaw
block_law c d whole g = λ i. record {
  article = g.article i;
  counts = g.counts i;
  constants = (ap trimmed (take-cut c.constants d.constants g.constants) ∙ whole) i;
  reserved = take-cut c.reserved d.reserved g.reserved i;
  labelled = take-cut c.labelled d.labelled g.labelled i;
  previous = c.previous;
  schemes = g.schemes i;
  functors = take-cut c.functors d.functors g.functors i;
  predicates = take-cut c.predicates d.predicates g.predicates i;
  letters = take-cut c.letters d.letters g.letters i;
  thesis = c.thesis;
  it = g.it_is i;
  arguments = g.arguments i;
  subject = g.subject i;
}
