-- What comes of a scheme.
use Rattle.std.specs.Prelude.{◌+◌, ℕ, false, List, [], ◌++◌, map, flat_map, Option, Some, None, Result, Ok, Err}
use Rattle.mz_core.specs.declared.item.Item.{Item}
use Rattle.mz_core.specs.declared.item.Item.TheVariants as item
use Rattle.mz_core.specs.declared.outcome.Left.{Left}
use Rattle.mz_context.specs.Context.{next}
use Rattle.mz_context.specs.declared.context.Context.{Context}
use Rattle.mz_context.specs.declared.labelled.LabelledStatement.{LabelledStatement}
use Rattle.mz_context.specs.declared.letters.NamedLetter.{NamedLetter}
use Rattle.mz_core.specs.declared.scheme.SchemeLetter.{SchemeLetter}
use Rattle.mz_environment.specs.declared.environment.Environment.{Environment}
use Rattle.mz_formulas.specs.declared.sentence.Sentence.{Sentence}
use Rattle.mz_names.specs.declared.refusal.Refusal.{Refusal}
use Rattle.mz_resolve.specs.Calls.{SentenceRead}
use Rattle.mz_cited.specs.Cited.{members}
use Rattle.mz_steps.specs.Changes.{statement_of, label_of}
use Rattle.mz_parts.specs.Propositions.{PropositionsRead, propositions_in}
use Rattle.mz_justified.specs.declared.proof_fault.ProofRefusal.TheVariants.{Resolve}
use Rattle.mz_walk.specs.Walked as walked
use Rattle.mz_walk.specs.Walked.{Walked}
use Rattle.mz_walk.specs.Walk.{Justifies}
use Rattle.mz_standing.specs.Standing.{extent_of, with_left, with_context, with_item, behind_scheme}
use Rattle.mz_standing.specs.declared.standing.Standing.{Standing}
use Rattle.mz_taken.specs.Taken.{Taken, Made, Refused}
use Rattle.mz_taken.specs.declared.item_fault.ItemRefusal.{ItemRefusal}
use Rattle.mz_taken.specs.declared.item_fault.ItemRefusal.TheVariants.{Proof}
use Rattle.mz_tree_item.specs.declared.schemes.ProvidedTree.{ProvidedTree}
use Rattle.mz_tree_item.specs.declared.schemes.SchemeTree.{SchemeTree}
use Rattle.mz_tree_proof.specs.declared.propositions.PropositionTree.{PropositionTree}
use Rattle.mz_letters.specs.Aside.{without_letters}
use Rattle.mz_scheme_items.specs.Parameters.{Scope, scope, TakesParameters}

-- the propositions behind `provided`
abbrev pub premises_in : Option ProvidedTree → List PropositionTree
premises_in None = []
premises_in (Some p) = propositions_in p.propositions

-- What a scheme says: the context with its letters in force, its conclusion, its premises with their labels; and what the article has left.
pub record SchemeHeading : Type 0 where
  pub context : Context
  pub conclusion : Sentence
  pub premises : List LabelledStatement
  pub left : Left

abbrev pub heading : Context → Sentence → List LabelledStatement → Left → SchemeHeading
heading c x ps left = record { context = c; conclusion = x; premises = ps; left = left }

-- The letters are declared, then the conclusion is read, then the premises, each closed over its own free reserved variables. No constant
-- of the article's own level may be used in them.
pub data TakesHeading (e : Environment) (c : Context) (left : Left) (t : SchemeTree) : Taken SchemeHeading → Type 0 where
  letters_refused : (r : ItemRefusal) → TakesParameters e (next c) (scope c left) (members t.parameters) (Refused r) → TakesHeading e c left t (Refused r)
  conclusion_refused : (d : Scope) (r : Refusal) (after : Left) → TakesParameters e (next c) (scope c left) (members t.parameters) (Made [] d) →
      SentenceRead e d.context (next c) d.left t.formula (Err r) after → TakesHeading e c left t (Refused (Proof (Resolve r)))
  premises_refused : (d : Scope) (x : Sentence) (between : Left) (r : Refusal) (after : Left) → TakesParameters e (next c) (scope c left) (members t.parameters) (Made [] d) →
      SentenceRead e d.context (next c) d.left t.formula (Ok x) between → PropositionsRead e d.context (next c) between (premises_in t.provided) (Err r) after →
      TakesHeading e c left t (Refused (Proof (Resolve r)))
  heading_taken : (d : Scope) (x : Sentence) (between : Left) (ps : List LabelledStatement) (after : Left) → TakesParameters e (next c) (scope c left) (members t.parameters) (Made [] d) →
      SentenceRead e d.context (next c) d.left t.formula (Ok x) between → PropositionsRead e d.context (next c) between (premises_in t.provided) (Ok ps) after →
      TakesHeading e c left t (Made [] (heading d.context x ps after))

-- the context of its proof: its letters are in force, and its premises have their labels
abbrev pub with_premises : Context → List LabelledStatement → Context
with_premises c ps = record c { labelled = c.labelled ++ flat_map label_of ps }

-- the scheme as an item
abbrev pub letter_in : NamedLetter → SchemeLetter
letter_in l = l.letter

abbrev pub scheme_item : SchemeHeading → Item
scheme_item h = item.Scheme (record { letters = map letter_in h.context.letters; premises = map statement_of h.premises; conclusion = h.conclusion.closed })

-- behind a scheme: it is an item, and can be named by its label
abbrev pub stands_behind : Standing → SchemeTree → SchemeHeading → Left → Standing
stands_behind s t h left = with_left (with_context (with_item s (scheme_item h)) (behind_scheme s.context (scheme_item h) t.name.spelling (s.numbering.schemes + 1))) left

abbrev pub scheme_stated : Standing → SchemeTree → SchemeHeading → Walked Left → Taken Standing
scheme_stated s t h (walked.Made os l) = Made os (stands_behind s t h l)
scheme_stated s t h (walked.Refused r) = Refused (Proof r)

-- the justification of its conclusion, by all that stands above, its letters' types and its premises
abbrev pub JustifiesScheme : Standing → SchemeTree → SchemeHeading → Walked Left → Type 0
JustifiesScheme s t h = Justifies s.environment (extent_of s) (with_premises h.context h.premises) t.scheme false t.semicolon t.just h.conclusion h.left

-- a scheme, at whose start no letters are in force: its heading is read, and its conclusion is justified; only behind its justification it
-- can be named
pub data StatesScheme (s : Standing) (t : SchemeTree) : Taken Standing → Type 0 where
  not_read : (r : ItemRefusal) → TakesHeading s.environment (without_letters s.context) s.left t (Refused r) → StatesScheme s t (Refused r)
  read : (h : SchemeHeading) (o : Walked Left) → TakesHeading s.environment (without_letters s.context) s.left t (Made [] h) → JustifiesScheme s t h o →
      StatesScheme s t (scheme_stated s t h o)
