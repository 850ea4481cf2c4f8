-- Laws of parts of steps: each is read to one thing at most, and behind what is read one thing is left.
use Rattle.std.specs.Prelude.{◌≡◌, ℕ, List, Result, Ok, Err}
use Rattle.mz_logic.specs.Term.{Term}
use Rattle.mz_core.specs.declared.outcome.Left.{Left}
use Rattle.mz_base.specs.declared.place.Place.{Place}
use Rattle.mz_context.specs.declared.context.Context.{Context}
use Rattle.mz_environment.specs.declared.environment.Environment.{Environment}
use Rattle.mz_names.specs.declared.refusal.Refusal.{Refusal}
use Rattle.mz_names.specs.declared.variable.Variable.{Variable}
use Rattle.mz_tree.specs.Trees.{TermData, TypeData, FormulaData, DeclaredData, DeclarationsData}
use Rattle.mz_tree.specs.declared.word.Word.{Word}
use Rattle.mz_tree_proof.specs.declared.equality_step.EqualityStepTree.{EqualityStepTree}
use Rattle.mz_tree_proof.specs.declared.introduction.NamedTermTree.{NamedTermTree}
use Rattle.mz_tree_proof.specs.declared.introduction.RetypedTree.{RetypedTree}
use Rattle.mz_tree_proof.specs.declared.propositions.PropositionTree.{PropositionTree}
use Rattle.mz_tree_proof.specs.declared.propositions.PropositionsTree.{PropositionsTree}
use Rattle.mz_resolve.specs.Calls.{TermRead, TypeRead, FormulaRead, SentenceRead}
use Rattle.mz_parts.specs.Declarations.{Declares, DeclarationsRead}
use Rattle.mz_parts.specs.Propositions.{PropositionsRead}
use Rattle.mz_parts.specs.Described.{DescriptionRead}
use Rattle.mz_parts.specs.Named.{Defines, NamedRead, TermsRead, RetypedRead, SidesRead}
use Rattle.mz_justified_laws.specs.Determined.{AtMostOne, IsDetermined}

abbrev pub OneTermReadLaw : Type 0
OneTermReadLaw = (e : Environment) (c : Context) (least : ℕ) (left : Left) (t : TermData) → IsDetermined (TermRead e c least left t)

abbrev pub OneTypeReadLaw : Type 0
OneTypeReadLaw = (e : Environment) (c : Context) (least : ℕ) (left : Left) (t : TypeData) → IsDetermined (TypeRead e c least left t)

abbrev pub OneFormulaReadLaw : Type 0
OneFormulaReadLaw = (e : Environment) (c : Context) (least : ℕ) (left : Left) (f : FormulaData) → IsDetermined (FormulaRead e c least left f)

abbrev pub OneSentenceReadLaw : Type 0
OneSentenceReadLaw = (e : Environment) (c : Context) (least : ℕ) (left : Left) (f : FormulaData) → IsDetermined (SentenceRead e c least left f)

-- behind a declared identifier that isn't refused the same identifiers wait, and the same is left
abbrev pub SameBehind : Result (List Variable) Refusal → List Word → List Word → Left → Left → Type 0
SameBehind (Ok vs) us ws a b = (us ≡ ws) × (a ≡ b)
SameBehind (Err r) us ws a b = Unit {0}

abbrev pub OneDeclarationLaw : Type 0
OneDeclarationLaw =
    (e : Environment) (c : Context) (least : ℕ) (waiting : List Word) (left : Left) (d : DeclaredData) (o p : Result (List Variable) Refusal) (us ws : List Word) (a b : Left) →
    Declares e c least waiting left d o us a → Declares e c least waiting left d p ws b → (o ≡ p) × SameBehind o us ws a b

abbrev pub OneDeclarationsLaw : Type 0
OneDeclarationsLaw = (e : Environment) (c : Context) (least : ℕ) (left : Left) (ds : DeclarationsData) → IsDetermined (DeclarationsRead e c least left ds)

abbrev pub OnePropositionsLaw : Type 0
OnePropositionsLaw = (e : Environment) (c : Context) (least : ℕ) (left : Left) (ps : List PropositionTree) → IsDetermined (PropositionsRead e c least left ps)

abbrev pub OneDescriptionLaw : Type 0
OneDescriptionLaw = (e : Environment) (c : Context) (least : ℕ) (left : Left) (first : Place) (ds : DeclarationsData) (ps : PropositionsTree) → IsDetermined (DescriptionRead e c least left first ds ps)

abbrev pub OneDefinitionLaw : Type 0
OneDefinitionLaw = (e : Environment) (c : Context) (w : Word) (t : Term) → AtMostOne (Defines e c w t)

abbrev pub OneNamedLaw : Type 0
OneNamedLaw = (e : Environment) (c : Context) (least : ℕ) (left : Left) (n : NamedTermTree) → IsDetermined (NamedRead e c least left n)

abbrev pub OneTermsLaw : Type 0
OneTermsLaw = (e : Environment) (c : Context) (least : ℕ) (left : Left) (ts : List TermData) → IsDetermined (TermsRead e c least left ts)

abbrev pub OneRetypedLaw : Type 0
OneRetypedLaw = (e : Environment) (c : Context) (least : ℕ) (left : Left) (xs : List RetypedTree) (ty : TypeData) → IsDetermined (RetypedRead e c least left xs ty)

abbrev pub OneSidesLaw : Type 0
OneSidesLaw = (e : Environment) (c : Context) (least : ℕ) (left : Left) (vs : List Variable) (ls : List EqualityStepTree) → IsDetermined (SidesRead e c least left vs ls)
