-- An article stands soundly at its start and behind each of its items; and what is decided and what may be reasoned with there.
use Rattle.std.specs.Prelude.{◌≡◌, ℕ, Bool, true, List, [], None, Ok, All, Contains}
use Rattle.std.specs.List.{list_all}
use Rattle.mz_base.specs.declared.place.Place.{Place}
use Rattle.mz_base.specs.declared.head.Directive.{Directive}
use Rattle.mz_logic.specs.Formula.{Formula}
use Rattle.mz_logic.specs.Derives.{Derives}
use Rattle.mz_core.specs.Closed.{statement_under}
use Rattle.mz_core.specs.Erasure.{erase}
use Rattle.mz_core.specs.Statement.{Statement}
use Rattle.mz_core.specs.declared.item.Item.{Item}
use Rattle.mz_core.specs.declared.item.Item.TheVariants.{Theorem}
use Rattle.mz_core.specs.declared.outcome.Export.{Export}
use Rattle.mz_core.specs.declared.outcome.Left.{Left}
use Rattle.mz_items.specs.Closed.{letter_closed}
use Rattle.mz_axioms.specs.Library.{HasClosedItems}
use Rattle.mz_ground.specs.Table.{Extends}
use Rattle.mz_ground.specs.declared.clause.Clause.{Clause}
use Rattle.mz_closed_laws.specs.ClosedClauses.{clause_closed}
use Rattle.mz_types.specs.Known.{letters_clauses}
use Rattle.mz_block_laws.specs.Met.{AreMet, AreHeld}
use Rattle.mz_walk_laws.specs.Grounds.{IsGrounded}
use Rattle.mz_walk_laws.specs.MadeLaws.{AreMadeAt}
pub use Rattle.mz_level_laws.specs.Level.{IsLevel}
use Rattle.mz_context.specs.Context.{next}
use Rattle.mz_context.specs.declared.context.Context.{Context}
use Rattle.mz_context.specs.declared.letters.NamedLetter.{NamedLetter}
use Rattle.mz_environment.specs.declared.environment.Environment.{Environment}
use Rattle.mz_env.specs.LetIn.{LetIn}
use Rattle.mz_env_laws.specs.Entries.{IsOfExports, AreOfItems}
use Rattle.mz_formulas.specs.declared.sentence.Sentence.{Sentence}
use Rattle.mz_resolve.specs.Calls.{SentenceRead}
use Rattle.mz_steps.specs.declared.block.Block.TheVariants.{Proof}
use Rattle.mz_obligations.specs.declared.obligation.Obligation.{Obligation}
use Rattle.mz_tree.specs.Trees.{FormulaData}
use Rattle.mz_tree_proof.specs.Reasoning.{JustData, StatementData}
use Rattle.mz_tree_part.specs.declared.reserve.SegmentTree.{SegmentTree}
use Rattle.mz_reserve.specs.Reserve.{Reserves}
use Rattle.mz_walk.specs.Walked.{State, state, Made}
use Rattle.mz_walk.specs.Walk.{Justifies, States}
use Rattle.mz_standing.specs.Standing.{clauses_in, extent_of, standing_at_start, with_left, with_context, with_item, behind_item, behind_theorem}
use Rattle.mz_standing.specs.declared.standing.Standing.{Standing}
use Rattle.mz_standing_laws.specs.Owed.{IsOwed}
use Rattle.mz_standing_laws.specs.Soundly.{Setting, axioms_at, AreAmong, AreDecided, StandsSoundly, basis, SaysNoMore}

-- at the start, by what is let in of exports without constants and loose indices
abbrev pub StartLaw : Type 0
StartLaw =
    (g : Setting) (head : List Directive) (exports : List Export) (e : Environment) (bytes : ℕ) → All HasClosedItems exports → LetIn head exports (Ok e) →
    AreOfItems (IsOfExports g.used) e → g.clauses ≡ clauses_in e → StandsSoundly g (standing_at_start g.name bytes e)

-- behind any item that is owed there
abbrev pub ItemLaw : Type 0
ItemLaw = (g : Setting) (s : Standing) (x : Item) → StandsSoundly g s → IsOwed (axioms_at g s) x → StandsSoundly g (with_item s x)

-- where a statement that derives has a label
abbrev pub LabelLaw : Type 0
LabelLaw =
    (g : Setting) (s : Standing) (label : List ℕ) (t : Statement) → StandsSoundly g s → statement_under 0 t ≡ true → Derives (axioms_at g s) [] (erase t) →
    StandsSoundly g (with_context s (behind_theorem s.context label t))

-- in a context of the article's own level that says no more
abbrev pub ContextLaw : Type 0
ContextLaw = (g : Setting) (s : Standing) (d : Context) → StandsSoundly g s → SaysNoMore d s.context → IsLevel d → d.thesis ≡ None → StandsSoundly g (with_context s d)

-- with whatever is left of nodes and obligations
abbrev pub LeftLaw : Type 0
LeftLaw = (g : Setting) (s : Standing) (left : Left) → StandsSoundly g s → StandsSoundly g (with_left s left)

-- behind a reservation
abbrev pub ReservationLaw : Type 0
ReservationLaw =
    (g : Setting) (s : Standing) (ss : List SegmentTree) (c : Context) (after : Left) → StandsSoundly g s → Reserves s.environment s.context s.left ss (Ok c) after →
    StandsSoundly g (with_left (with_context s (behind_item c)) after)

-- behind a theorem, whose sentence has no constant of the article's own level, where the obligations of its justification are decided
-- by clauses that begin with those of here
abbrev pub TheoremLaw : Type 0
TheoremLaw =
    (g : Setting) (s : Standing) (label : List ℕ) (f : FormulaData) (x : Sentence) (between after : Left) (first behind : Place) (linked : Bool) (j : JustData) (os : List Obligation) (final : List Clause) →
    StandsSoundly g s → SentenceRead s.environment s.context (next s.context) s.left f (Ok x) between →
    Justifies s.environment (extent_of s) s.context first linked behind j x between (Made os after) → Extends s.clauses final → AreDecided final os →
    StandsSoundly g (with_left (with_item (with_context s (behind_theorem s.context label x.closed)) (Theorem x.closed)) after)

-- behind a statement of the article's own level, where its obligations are so decided
abbrev pub StatementLaw : Type 0
StatementLaw =
    (g : Setting) (s : Standing) (first : Place) (t : StatementData) (os : List Obligation) (d : State) (final : List Clause) →
    StandsSoundly g s → States s.environment (extent_of s) (state s.context Proof s.left) first t (Made os d) → Extends s.clauses final → AreDecided final os →
    StandsSoundly g (with_left (with_context s d.context) d.left)

-- what is decided by clauses that begin with those of here is met by these, whatever the axioms, where the obligations were made
-- here and the clauses of the letters in force have no constant and no loose index
abbrev pub DecidedLaw : Type 0
DecidedLaw =
    (g : Setting) (s : Standing) (final : List Clause) (letters : List NamedLetter) (os : List Obligation) → StandsSoundly g s → Extends s.clauses final →
    list_all clause_closed (letters_clauses letters) ≡ true → AreMadeAt (extent_of s) letters os → AreDecided final os →
    (axioms : List Formula) → AreMet axioms s.clauses os

-- reasonings are grounded, from what the exports say, what the items grant, and whatever further axioms; and where letters are in
-- force, whose clauses derive from what is held
abbrev pub GroundedLaw : Type 0
GroundedLaw =
    (g : Setting) (s : Standing) (axioms held : List Formula) (letters : List NamedLetter) → StandsSoundly g s → AreAmong (axioms_at g s) axioms →
    ((l : NamedLetter) → Contains letters l → letter_closed l.letter ≡ true) → AreHeld axioms held (letters_clauses letters) → IsGrounded (basis axioms letters s) held
