-- What comes of the heading of a functor, a mode or an abbreviation.
use Rattle.std.specs.Prelude.{◌≡◌, ◌+◌, ℕ, true, false, List, [], Option, Some, None, Result, Ok, Err}
use Rattle.mz_base.specs.declared.place.Place.{Place}
use Rattle.mz_logic.specs.declared.kind.Kind.TheVariants as kind
use Rattle.mz_logic.specs.declared.sym.Sym.{Sym}
use Rattle.mz_core.specs.Hidden.{is_of_any_object}
use Rattle.mz_core.specs.declared.item.Item.{Item}
use Rattle.mz_core.specs.declared.item.Item.TheVariants as item
use Rattle.mz_core.specs.declared.notation.Meaning.TheVariants.{OfType}
use Rattle.mz_core.specs.declared.outcome.Left.{Left}
use Rattle.mz_core.specs.declared.pattern.Pattern.{Pattern}
use Rattle.mz_core.specs.declared.soft_type.SoftType.{SoftType}
use Rattle.mz_context.specs.declared.context.Context.{Context}
use Rattle.mz_justified.specs.declared.proof_fault.ProofRefusal.TheVariants.{Resolve, NotBuilt}
use Rattle.mz_loci.specs.Loci.{loci_from, locus_types, type_over_loci}
use Rattle.mz_meanings.specs.Results.{MeansRead, EqualsRead}
use Rattle.mz_meanings.specs.declared.read_meaning.ReadMeans.{ReadMeans}
use Rattle.mz_meanings.specs.declared.read_meaning.ReadEquals.{ReadEquals}
use Rattle.mz_names.specs.declared.refusal.Refusal.{Refusal}
use Rattle.mz_patterns.specs.Patterns.{visible_loci}
use Rattle.mz_patterns.specs.Functors.{functor_left, functor_right, functor_symbol, functor_closing, mode_right, closed_pattern}
use Rattle.mz_patterns.specs.declared.visible.Visible.{Visible}
use Rattle.mz_resolve.specs.Calls.{TypeRead}
use Rattle.mz_standing.specs.Standing.{with_left}
use Rattle.mz_standing.specs.declared.standing.Standing.{Standing}
use Rattle.mz_taken.specs.Taken.{Taken, Refused}
use Rattle.mz_taken.specs.declared.item_fault.ItemRefusal.TheVariants.{Proof, BadLoci}
use Rattle.mz_tree.specs.Trees.{TermData, FormulaData}
use Rattle.mz_tree_heading.specs.declared.heading.AbbreviationTree.{AbbreviationTree}
use Rattle.mz_tree_heading.specs.declared.heading.FunctorHeadingTree.{FunctorHeadingTree}
use Rattle.mz_tree_heading.specs.declared.heading.ModeHeadingTree.{ModeHeadingTree}
use Rattle.mz_tree_heading.specs.declared.heading.ResultTree.{ResultTree}
use Rattle.mz_tree_heading.specs.declared.meaning.CasesTree.{CasesTree}
use Rattle.mz_tree_heading.specs.declared.meaning.DefinitionLabelTree.{DefinitionLabelTree}
use Rattle.mz_tree_heading.specs.declared.meaning.MeaningTree.{MeaningTree}
use Rattle.mz_tree_heading.specs.declared.meaning.MeaningTree.TheVariants.{Means, Equals}
use Rattle.mz_tree_heading.specs.declared.patterns.FunctorPatternTree.{FunctorPatternTree}
use Rattle.mz_tree_heading.specs.declared.patterns.ModePatternTree.{ModePatternTree}
use Rattle.mz_tree_item.specs.declared.definition.ConditionOrPropertyTree.{ConditionOrPropertyTree}
use Rattle.mz_defined.specs.Definientia.{label_in, formulas_over, terms_over}
use Rattle.mz_defined.specs.Headed.{DefiningHeading, DefinesBy, DefinesByFormulas}
use Rattle.mz_defined.specs.Owing.{loci_count, TakesWritten}

-- the type of the result and the definiens, as they are read where an article stands
abbrev pub MeansReadAt : ℕ → Standing → Option ResultTree → CasesTree FormulaData → Result ReadMeans Refusal → Left → Type 0
MeansReadAt least s t f = MeansRead s.environment s.context least s.left t f

abbrev pub EqualsReadAt : ℕ → Standing → Option ResultTree → CasesTree TermData → Result ReadEquals Refusal → Left → Type 0
EqualsReadAt least s t u = EqualsRead s.environment s.context least s.left t u

-- a functor: its symbol is the article's next one
abbrev pub next_functor : Context → Sym
next_functor c = record { article = c.article; kind = kind.Functor; number = c.counts.functors + 1 }

abbrev pub functor_pattern : ℕ → Context → FunctorPatternTree → Visible → Pattern
functor_pattern least c t v = closed_pattern kind.Functor (functor_symbol t) (functor_closing t) (locus_types least (loci_from least c.constants)) v

abbrev pub type_in_block : ℕ → Context → SoftType → SoftType
type_in_block least c ty = type_over_loci least (loci_count least c) ty

abbrev pub means_functor : ℕ → Context → FunctorPatternTree → Visible → ReadMeans → Item
means_functor least c t v x = item.FunctorMeans (record {
  pattern = functor_pattern least c t v;
  sym = next_functor c;
  ty = type_in_block least c x.ty;
  definiens = formulas_over least (loci_count least c) (loci_count least c + 1) x.definiens;
})

abbrev pub equals_functor : ℕ → Context → FunctorPatternTree → Visible → ReadEquals → Item
equals_functor least c t v x = item.FunctorEquals (record {
  pattern = functor_pattern least c t v;
  sym = next_functor c;
  ty = type_in_block least c x.ty;
  definiens = terms_over least (loci_count least c) x.definiens;
})

abbrev pub functor_visible : ℕ → Context → FunctorPatternTree → Option Visible
functor_visible least c t = visible_loci least (loci_from least c.constants) (functor_left t) (functor_right t)

abbrev pub means_functor_heading : ℕ → Context → FunctorHeadingTree MeaningTree → DefiningHeading ReadMeans
means_functor_heading least c t = record { first = t.func; label = label_in t.meaning; visible = functor_visible least c t.pattern; item = means_functor least c t.pattern }

abbrev pub equals_functor_heading : ℕ → Context → FunctorHeadingTree MeaningTree → DefiningHeading ReadEquals
equals_functor_heading least c t = record { first = t.func; label = label_in t.meaning; visible = functor_visible least c t.pattern; item = equals_functor least c t.pattern }

pub data DefinesFunctorBy (least : ℕ) (s : Standing) (t : FunctorHeadingTree MeaningTree) (ws : List ConditionOrPropertyTree) (behind : Place) : MeaningTree → Taken Standing → Type 0 where
  by_means : (means : Place) (label : Option DefinitionLabelTree) (f : CasesTree FormulaData) (o : Taken Standing) → DefinesBy least s (means_functor_heading least s.context t) (MeansReadAt least s t.result f) ws behind o →
      DefinesFunctorBy least s t ws behind (Means means label f) o
  by_equals : (equals : Place) (label : Option DefinitionLabelTree) (u : CasesTree TermData) (o : Taken Standing) → DefinesBy least s (equals_functor_heading least s.context t) (EqualsReadAt least s t.result u) ws behind o →
      DefinesFunctorBy least s t ws behind (Equals equals label u) o

abbrev pub DefinesFunctor : ℕ → Standing → FunctorHeadingTree MeaningTree → List ConditionOrPropertyTree → Place → Taken Standing → Type 0
DefinesFunctor least s t ws behind = DefinesFunctorBy least s t ws behind t.meaning

-- a mode, alike
abbrev pub next_mode : Context → Sym
next_mode c = record { article = c.article; kind = kind.Mode; number = c.counts.modes + 1 }

abbrev pub mode_pattern : ℕ → Context → ModePatternTree → Visible → Pattern
mode_pattern least c t v = closed_pattern kind.Mode t.symbol.spelling [] (locus_types least (loci_from least c.constants)) v

abbrev pub means_mode : ℕ → Context → ModePatternTree → Visible → ReadMeans → Item
means_mode least c t v x = item.ModeMeans (record {
  pattern = mode_pattern least c t v;
  sym = next_mode c;
  ty = type_in_block least c x.ty;
  definiens = formulas_over least (loci_count least c) (loci_count least c + 1) x.definiens;
})

abbrev pub mode_visible : ℕ → Context → ModePatternTree → Option Visible
mode_visible least c t = visible_loci least (loci_from least c.constants) [] (mode_right t)

abbrev pub mode_heading : ℕ → Context → ModeHeadingTree MeaningTree → DefiningHeading ReadMeans
mode_heading least c t = record { first = t.mode; label = label_in t.meaning; visible = mode_visible least c t.pattern; item = means_mode least c t.pattern }

-- in an article named HIDDEN the next mode may be its `object` or `set` anew, which isn't built
pub data DefinesMode (least : ℕ) (s : Standing) (t : ModeHeadingTree MeaningTree) (ws : List ConditionOrPropertyTree) (behind : Place) : Taken Standing → Type 0 where
  hidden_mode : is_of_any_object (next_mode s.context) ≡ true → DefinesMode least s t ws behind (Refused (Proof (NotBuilt t.mode)))
  other_mode : (o : Taken Standing) → is_of_any_object (next_mode s.context) ≡ false → DefinesByFormulas least s (mode_heading least s.context t) (MeansReadAt least s t.result) ws behind t.meaning o → DefinesMode least s t ws behind o

-- an abbreviation of a type: it makes no symbol, and owes and grants nothing
abbrev pub abbreviation_of : ℕ → Context → ModePatternTree → Visible → SoftType → Item
abbreviation_of least c t v ty = item.Abbreviation (record { pattern = mode_pattern least c t v; meaning = OfType (type_in_block least c ty) })

pub data DefinesAbbreviation (least : ℕ) (s : Standing) (t : AbbreviationTree) (ws : List ConditionOrPropertyTree) (behind : Place) : Taken Standing → Type 0 where
  pattern_unfit : mode_visible least s.context t.pattern ≡ None → DefinesAbbreviation least s t ws behind (Refused (BadLoci t.mode))
  type_refused : (v : Visible) (r : Refusal) (after : Left) → mode_visible least s.context t.pattern ≡ Some v → TypeRead s.environment s.context least s.left t.ty (Err r) after →
      DefinesAbbreviation least s t ws behind (Refused (Proof (Resolve r)))
  type_read : (v : Visible) (ty : SoftType) (after : Left) (o : Taken Standing) → mode_visible least s.context t.pattern ≡ Some v → TypeRead s.environment s.context least s.left t.ty (Ok ty) after →
      TakesWritten least (with_left s after) [] (abbreviation_of least s.context t.pattern v ty) ws behind o → DefinesAbbreviation least s t ws behind o
