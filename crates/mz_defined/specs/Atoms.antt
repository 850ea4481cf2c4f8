-- What comes of the heading of a predicate or an attribute.
use Rattle.std.specs.Prelude.{◌+◌, ℕ, List, [], ◌∷◌, Option, None, Result}
use Rattle.mz_base.specs.declared.place.Place.{Place}
use Rattle.mz_logic.specs.declared.kind.Kind.{Kind}
use Rattle.mz_logic.specs.declared.kind.Kind.TheVariants as kind
use Rattle.mz_logic.specs.declared.sym.Sym.{Sym}
use Rattle.mz_core.specs.declared.formula_definiens.FormulaDefiniens.{FormulaDefiniens}
use Rattle.mz_core.specs.declared.item.Item.{Item}
use Rattle.mz_core.specs.declared.item.Item.TheVariants as item
use Rattle.mz_core.specs.declared.outcome.Left.{Left}
use Rattle.mz_core.specs.declared.pattern.Pattern.{Pattern}
use Rattle.mz_context.specs.declared.context.Context.{Context}
use Rattle.mz_loci.specs.Loci.{loci_from, locus_types}
use Rattle.mz_meanings.specs.Definientia.{FormulasRead}
use Rattle.mz_names.specs.declared.refusal.Refusal.{Refusal}
use Rattle.mz_patterns.specs.Patterns.{identifier, identifiers_in, identifiers_beside, visible_loci, pattern}
use Rattle.mz_patterns.specs.declared.visible.Visible.{Visible}
use Rattle.mz_standing.specs.declared.standing.Standing.{Standing}
use Rattle.mz_taken.specs.Taken.{Taken}
use Rattle.mz_tree.specs.Trees.{FormulaData}
use Rattle.mz_tree_heading.specs.declared.heading.AttributeHeadingTree.{AttributeHeadingTree}
use Rattle.mz_tree_heading.specs.declared.heading.PredicateHeadingTree.{PredicateHeadingTree}
use Rattle.mz_tree_heading.specs.declared.meaning.CasesTree.{CasesTree}
use Rattle.mz_tree_heading.specs.declared.meaning.MeaningTree.{MeaningTree}
use Rattle.mz_tree_heading.specs.declared.patterns.AttributePatternTree.{AttributePatternTree}
use Rattle.mz_tree_heading.specs.declared.patterns.PredicatePatternTree.{PredicatePatternTree}
use Rattle.mz_tree_item.specs.declared.definition.ConditionOrPropertyTree.{ConditionOrPropertyTree}
use Rattle.mz_defined.specs.Definientia.{label_in, formulas_over}
use Rattle.mz_defined.specs.Headed.{DefiningHeading, DefinesByFormulas}
use Rattle.mz_defined.specs.Owing.{loci_count}

-- what was read with the loci as constants, as it stands under them; `it` isn't known
abbrev pub atom_definiens : ℕ → Context → FormulaDefiniens → FormulaDefiniens
atom_definiens least c d = formulas_over least (loci_count least c) (loci_count least c) d

abbrev pub AtomRead : ℕ → Standing → CasesTree FormulaData → Result FormulaDefiniens Refusal → Left → Type 0
AtomRead least s f o after = FormulasRead s.environment s.context least None s.left f o after

abbrev pub pattern_in : ℕ → Context → Kind → List ℕ → Visible → Pattern
pattern_in least c kind symbol v = pattern kind symbol (locus_types least (loci_from least c.constants)) v

-- a predicate: its symbol is the article's next one
abbrev pub next_predicate : Context → Sym
next_predicate c = record { article = c.article; kind = kind.Predicate; number = c.counts.predicates + 1 }

abbrev pub predicate_of : ℕ → Context → PredicatePatternTree → Visible → FormulaDefiniens → Item
predicate_of least c t v d = item.Predicate (record { pattern = pattern_in least c kind.Predicate t.symbol.spelling v; sym = next_predicate c; definiens = atom_definiens least c d })

abbrev pub predicate_loci : ℕ → Context → PredicatePatternTree → Option Visible
predicate_loci least c t = visible_loci least (loci_from least c.constants) (identifiers_in t.left) (identifiers_in t.right)

abbrev pub predicate_heading : ℕ → Context → PredicateHeadingTree MeaningTree → DefiningHeading FormulaDefiniens
predicate_heading least c t = record { first = t.pred; label = label_in t.meaning; visible = predicate_loci least c t.pattern; item = predicate_of least c t.pattern }

abbrev pub DefinesPredicate : ℕ → Standing → PredicateHeadingTree MeaningTree → List ConditionOrPropertyTree → Place → Taken Standing → Type 0
DefinesPredicate least s t ws behind = DefinesByFormulas least s (predicate_heading least s.context t) (AtomRead least s) ws behind t.meaning

-- an attribute, whose subject is the locus before `is`
abbrev pub next_attribute : Context → Sym
next_attribute c = record { article = c.article; kind = kind.Attribute; number = c.counts.attributes + 1 }

abbrev pub first_place_of : List ℕ → ℕ
first_place_of [] = 0
first_place_of (n ∷ ns) = n

abbrev pub attribute_of : ℕ → Context → AttributePatternTree → Visible → FormulaDefiniens → Item
attribute_of least c t v d = item.Attribute (record {
  pattern = pattern_in least c kind.Attribute t.symbol.spelling v;
  subject = first_place_of v.right;
  sym = next_attribute c;
  definiens = atom_definiens least c d;
})

abbrev pub attribute_loci : ℕ → Context → AttributePatternTree → Option Visible
attribute_loci least c t = visible_loci least (loci_from least c.constants) (identifiers_beside t.loci) (identifier t.subject ∷ [])

abbrev pub attribute_heading : ℕ → Context → AttributeHeadingTree MeaningTree → DefiningHeading FormulaDefiniens
attribute_heading least c t = record { first = t.attr; label = label_in t.meaning; visible = attribute_loci least c t.pattern; item = attribute_of least c t.pattern }

abbrev pub DefinesAttribute : ℕ → Standing → AttributeHeadingTree MeaningTree → List ConditionOrPropertyTree → Place → Taken Standing → Type 0
DefinesAttribute least s t ws behind = DefinesByFormulas least s (attribute_heading least s.context t) (AtomRead least s) ws behind t.meaning
