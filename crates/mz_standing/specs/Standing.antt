-- Where the reading of an article's items stands.
use Rattle.std.specs.Prelude.{ℕ, ◌+◌, ◌*◌, List, [], ◌∷◌, ◌++◌, length, take, Option, Some, None}
use Rattle.mz_base.specs.declared.name.Name.{Name}
use Rattle.mz_core.specs.Statement.{Statement}
use Rattle.mz_core.specs.declared.item.Item.{Item}
use Rattle.mz_core.specs.declared.outcome.Left.{Left}
use Rattle.mz_items.specs.Items.{definitional_theorem}
use Rattle.mz_ground.specs.declared.clause.Clause.{Clause}
use Rattle.mz_clauses.specs.Clauses.{typing_clauses, further_clauses, equality_clauses}
use Rattle.mz_environment.specs.Cited.{at_start, numbered}
use Rattle.mz_environment.specs.Environment.{joined, of_item}
use Rattle.mz_environment.specs.declared.environment.Environment.{Environment}
use Rattle.mz_context.specs.Changes.{labelled, trimmed}
use Rattle.mz_context.specs.declared.context.Context.{Context}
use Rattle.mz_context.specs.declared.context.SymbolCounts.{SymbolCounts}
use Rattle.mz_context.specs.declared.labelled.LabelledStatement.{LabelledStatement}
use Rattle.mz_obligations.specs.declared.obligation.Extent.{Extent}
use Rattle.mz_standing.specs.Counts.{counted}
use Rattle.mz_standing.specs.declared.standing.Standing.{Standing}

-- the clauses by which an article's obligations are decided: those that were let in, and then those of its items, as they come
abbrev pub clauses_in : Environment → List Clause
clauses_in e = (e.typing ++ e.further) ++ e.equalities

abbrev pub clauses_of : Item → List Clause
clauses_of x = (typing_clauses x ++ further_clauses x) ++ equality_clauses x

-- how much stands above
abbrev pub extent_of : Standing → Extent
extent_of s = record {
  clauses = length s.clauses;
  unfoldings = length s.environment.expansions;
  theorems = length s.environment.theorems;
  schemes = length s.environment.schemes;
}

-- no symbols were made
abbrev pub no_symbols : SymbolCounts
no_symbols = record { modes = 0; structures = 0; attributes = 0; functors = 0; selectors = 0; aggregates = 0; predicates = 0; functor_letters = 0; predicate_letters = 0 }

-- the context at the start of an article: nothing is in force
abbrev pub no_context : ℕ → Context
no_context article = record {
  article = article;
  counts = no_symbols;
  constants = [];
  reserved = [];
  labelled = [];
  previous = None;
  schemes = [];
  functors = [];
  predicates = [];
  letters = [];
  thesis = None;
  it = None;
  arguments = [];
  subject = None;
}

-- what an article of so many bytes may have: 65,536 nodes and four for each byte, and 20,000 obligations
abbrev pub left_at_start : ℕ → Left
left_at_start bytes = record { nodes = 65536 + 4 * bytes; obligations = 20000; made = [] }

-- at the start of the article
abbrev pub standing_at_start : Name → ℕ → Environment → Standing
standing_at_start name bytes e = record {
  environment = e;
  clauses = clauses_in e;
  numbering = at_start name.number;
  context = no_context name.number;
  items = [];
  left = left_at_start bytes;
}

-- with this left, and with this context
abbrev pub with_left : Standing → Left → Standing
with_left s l = record s { left = l }

abbrev pub with_context : Standing → Context → Standing
with_context s c = record s { context = c }

-- behind an item: what it gives may be used
abbrev pub with_item : Standing → Item → Standing
with_item s x = record {
  environment = joined s.environment (of_item s.numbering x);
  clauses = s.clauses ++ clauses_of x;
  numbering = numbered s.numbering x;
  context = s.context;
  items = s.items ++ x ∷ [];
  left = s.left;
}

-- the context behind an item: there is no statement just before
abbrev pub behind_item : Context → Context
behind_item c = record c { previous = None }

-- the context behind a theorem: it has its label, where it has one
abbrev pub behind_theorem : Context → List ℕ → Statement → Context
behind_theorem c label s = record c { labelled = c.labelled ++ labelled label s; previous = None }

-- a statement under a label, where there is one
abbrev pub with_label : Standing → List ℕ → Statement → Standing
with_label s label t = with_context s (record s.context { labelled = s.context.labelled ++ labelled label t })

-- what can be cited of a definition, under the label of its definiens
abbrev pub labelled_if_any : List ℕ → Option Statement → List LabelledStatement
labelled_if_any label None = []
labelled_if_any label (Some t) = labelled label t

-- the context behind a heading that made an item: its symbols are counted, and what can be cited of it has the label of its definiens
abbrev pub behind_heading : Context → Item → List ℕ → Context
behind_heading c x label = record c { counts = counted c.counts x; labelled = c.labelled ++ labelled_if_any label (definitional_theorem x); previous = None }

-- the context behind a scheme: its letters are counted, and it can be named, by the label, as the scheme of the number
abbrev pub behind_scheme : Context → Item → List ℕ → ℕ → Context
behind_scheme c x label number = record c { counts = counted c.counts x; previous = None; schemes = c.schemes ++ record { label = label; number = number } ∷ [] }

-- the context behind a block at whose word the constants had so many places: its loci are out of force; what was labelled in it stays
abbrev pub behind_block : Context → ℕ → Context
behind_block c places = record c { constants = trimmed (take places c.constants); previous = None }
