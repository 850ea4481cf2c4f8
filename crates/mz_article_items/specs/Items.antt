-- The items of an article, read one after another with their reasonings: what each gives, and the obligations that it makes; or the
-- first refusal in the order of reading.
use Rattle.std.specs.Prelude.{◌≡◌, Bool, false, List, [], Some, Result, Ok, Err}
use Rattle.mz_base.specs.declared.place.Place.{Place}
use Rattle.mz_core.specs.declared.item.Item.TheVariants.{Theorem}
use Rattle.mz_core.specs.declared.outcome.Left.{Left}
use Rattle.mz_context.specs.Context.{next}
use Rattle.mz_context.specs.declared.context.Context.{Context}
use Rattle.mz_formulas.specs.declared.sentence.Sentence.{Sentence}
use Rattle.mz_names.specs.declared.refusal.Refusal.{Refusal}
use Rattle.mz_resolve.specs.Calls.{SentenceRead}
use Rattle.mz_cited.specs.Cited.{members}
use Rattle.mz_steps.specs.declared.block.Block.TheVariants.{Proof}
use Rattle.mz_parts.specs.Propositions.{label_in}
use Rattle.mz_justified.specs.declared.proof_fault.ProofRefusal.TheVariants.{Resolve}
use Rattle.mz_walk.specs.Walked.{State, state, Walked, Made, Refused}
use Rattle.mz_walk.specs.Walk.{Justifies, States}
use Rattle.mz_reserve.specs.Reserve.{Reserves}
use Rattle.mz_tree.specs.Places.{first_place}
use Rattle.mz_tree_proof.specs.Reasoning.{StatementData}
use Rattle.mz_tree_proof.specs.SpellReasoning.{spell_statement}
use Rattle.mz_tree_part.specs.declared.reserve.ReserveTree.{ReserveTree}
use Rattle.mz_tree_part.specs.declared.notation.NotationTree.{NotationTree}
use Rattle.mz_tree_item.specs.declared.definition.DefinitionTree.{DefinitionTree}
use Rattle.mz_tree_item.specs.declared.registration.RegistrationTree.{RegistrationTree}
use Rattle.mz_tree_item.specs.declared.schemes.SchemeTree.{SchemeTree}
use Rattle.mz_tree_item.specs.declared.schemes.TheoremTree.{TheoremTree}
use Rattle.mz_tree_item.specs.declared.article.ItemTree.{ItemTree}
use Rattle.mz_tree_item.specs.declared.article.ItemTree.TheVariants as tree
use Rattle.mz_tree_item.specs.declared.article.ArticlePartTree.{ArticlePartTree}
use Rattle.mz_tree_item.specs.declared.article.ArticlePartTree.TheVariants.{Begin, Item}
use Rattle.mz_standing.specs.Standing.{extent_of, with_left, with_context, with_item, behind_item, behind_theorem}
use Rattle.mz_standing.specs.declared.standing.Standing.{Standing}
use Rattle.mz_taken.specs.Taken as part
use Rattle.mz_taken.specs.Taken.{Taken, taken}
use Rattle.mz_taken.specs.OneByOne.{OneByOne}
use Rattle.mz_define.specs.Defines.{Defines, Notes}
use Rattle.mz_register.specs.Registers.{Registers}
use Rattle.mz_scheme_items.specs.StatesScheme.{StatesScheme}

-- a reservation: the identifiers are reserved
pub data IsReserved (s : Standing) (t : ReserveTree) : Walked Standing → Type 0 where
  not_read : (r : Refusal) (after : Left) → Reserves s.environment s.context s.left (members t.segments) (Err r) after → IsReserved s t (Refused (Resolve r))
  reserved : (c : Context) (after : Left) → Reserves s.environment s.context s.left (members t.segments) (Ok c) after → IsReserved s t (Made [] (with_left (with_context s (behind_item c)) after))

-- behind a theorem: it is an item, and can be cited by its number and its label
abbrev pub stands_behind : Standing → TheoremTree → Sentence → Left → Standing
stands_behind s t x l = with_left (with_item (with_context s (behind_theorem s.context (label_in t.proposition.label) x.closed)) (Theorem x.closed)) l

abbrev pub theorem_stated : Standing → TheoremTree → Sentence → Walked Left → Walked Standing
theorem_stated s t x (Made os l) = Made os (stands_behind s t x l)
theorem_stated s t x (Refused r) = Refused r

-- the reading of its sentence, in which no constant of the article's own level may be used, and the justification of the sentence by all
-- that stands above
abbrev pub ReadsTheorem : Standing → TheoremTree → Result Sentence Refusal → Left → Type 0
ReadsTheorem s t = SentenceRead s.environment s.context (next s.context) s.left t.proposition.formula

abbrev pub JustifiesTheorem : Standing → TheoremTree → Sentence → Left → Walked Left → Type 0
JustifiesTheorem s t x l = Justifies s.environment (extent_of s) s.context t.theorem false t.semicolon t.just x l

-- a theorem: it is read, and then justified; only behind its justification it can be cited
pub data IsTheorem (s : Standing) (t : TheoremTree) : Walked Standing → Type 0 where
  not_read : (r : Refusal) (after : Left) → ReadsTheorem s t (Err r) after → IsTheorem s t (Refused (Resolve r))
  read : (x : Sentence) (between : Left) (o : Walked Left) → ReadsTheorem s t (Ok x) between → JustifiesTheorem s t x between o → IsTheorem s t (theorem_stated s t x o)

-- behind a statement of the article's own level: what it makes stands in the context
abbrev pub statement_stated : Standing → Walked State → Walked Standing
statement_stated s (Made os t) = Made os (with_left (with_context s t.context) t.left)
statement_stated s (Refused r) = Refused r

-- a statement of the article's own level
abbrev pub StatesThere : Standing → StatementData → Place → Walked State → Type 0
StatesThere s t first = States s.environment (extent_of s) (state s.context Proof s.left) first t

pub data IsStatement (s : Standing) (t : StatementData) : Walked Standing → Type 0 where
  stated : (first : Place) (o : Walked State) → first_place (spell_statement t) ≡ Some first → StatesThere s t first o → IsStatement s t (statement_stated s o)

-- an item: what comes of each kind
pub data IsItem (s : Standing) : ItemTree → Taken Standing → Type 0 where
  reserve : (t : ReserveTree) (o : Walked Standing) → IsReserved s t o → IsItem s (tree.Reserve t) (taken o)
  theorem : (t : TheoremTree) (o : Walked Standing) → IsTheorem s t o → IsItem s (tree.Theorem t) (taken o)
  scheme : (t : SchemeTree) (o : Taken Standing) → StatesScheme s t o → IsItem s (tree.Scheme t) o
  definition : (t : DefinitionTree) (o : Taken Standing) → Defines s t o → IsItem s (tree.Definition t) o
  notation : (t : NotationTree) (o : Taken Standing) → Notes s t o → IsItem s (tree.Notation t) o
  registration : (t : RegistrationTree) (o : Taken Standing) → Registers s t o → IsItem s (tree.Registration t) o
  statement : (t : StatementData) (o : Walked Standing) → IsStatement s t o → IsItem s (tree.Statement t) (taken o)

-- a part of an article behind its first `begin`: a further `begin` changes nothing
pub data IsPart (s : Standing) : ArticlePartTree → Taken Standing → Type 0 where
  section : (begin : Place) → IsPart s (Begin begin) (part.Made [] s)
  item : (x : ItemTree) (o : Taken Standing) → IsItem s x o → IsPart s (Item x) o

-- the parts, one after another
abbrev pub AreItems : Standing → List ArticlePartTree → Taken Standing → Type 0
AreItems = OneByOne IsPart
