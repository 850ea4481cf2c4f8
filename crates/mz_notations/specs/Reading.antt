-- What a pattern reads to in a block.
use Rattle.std.specs.Prelude.{◌+◌, ℕ, Bool, if◌then◌else◌, List, map, Option, Result, Ok, Err}
use Rattle.mz_base.specs.declared.place.Place.{Place}
use Rattle.mz_logic.specs.Term.{Term, Const}
use Rattle.mz_logic.specs.declared.kind.Kind.{Kind}
use Rattle.mz_core.specs.TypeStatements.{literal_statement}
use Rattle.mz_core.specs.declared.notation.Meaning.{Meaning}
use Rattle.mz_core.specs.declared.notation.Meaning.TheVariants.{OfTerm, OfLiteral, OfType}
use Rattle.mz_items.specs.Closed.{meaning_fits}
use Rattle.mz_applied.specs.Reading.{ReadsAs}
use Rattle.mz_choice.specs.declared.choice.Applied.{Applied}
use Rattle.mz_choice.specs.declared.choice.Wanted.TheVariants.{Anything}
use Rattle.mz_context.specs.declared.constants.Constant.{Constant}
use Rattle.mz_context.specs.declared.context.Context.{Context}
use Rattle.mz_environment.specs.declared.environment.Environment.{Environment}
use Rattle.mz_names.specs.declared.refusal.Refusal.{Refusal}
use Rattle.mz_names.specs.declared.refusal.Refusal.TheVariants.{UnfitArgument, TooLarge}
use Rattle.mz_patterns.specs.Patterns.{loci_named, both_sides, visible_loci}
use Rattle.mz_patterns.specs.declared.visible.Visible.{Visible}
use Rattle.mz_sizes.specs.Sizes.{term_keeps, type_keeps, statement_keeps}
use Rattle.mz_tree_heading.specs.declared.patterns.PatternTree.{PatternTree}
use Rattle.mz_notations.specs.Patterns.{kind_of, names_before, names_behind, symbol_of, closing_of, symbol_place, first_of}

-- the loci that a new pattern names, where they are those that it wants; and those that an old one names, each as often as it likes
abbrev pub new_loci : ℕ → List (Option Constant) → PatternTree → Option Visible
new_loci least ks t = visible_loci least ks (names_before t) (names_behind t)

abbrev pub old_loci : List (Option Constant) → PatternTree → Option Visible
old_loci ks t = both_sides (loci_named ks (names_before t)) (loci_named ks (names_behind t))

-- the loci at these places, as constants
abbrev pub locus_at : ℕ → ℕ → Term
locus_at least place = Const (least + place)

-- a symbol on these loci, and so that of a pattern
abbrev pub applied_on : ℕ → Kind → List ℕ → List ℕ → Visible → Applied
applied_on least k symbol closing v = record { symbol = symbol; closing = closing; kind = k; left = map (locus_at least) v.left; right = map (locus_at least) v.right }

abbrev pub applied_to : ℕ → PatternTree → Visible → Applied
applied_to least t v = applied_on least (kind_of t) (symbol_of t) (closing_of t) v

-- within the limits, as an expression
abbrev pub meaning_keeps : Meaning → Bool
meaning_keeps (OfTerm t) = term_keeps t
meaning_keeps (OfLiteral l) = statement_keeps (literal_statement l)
meaning_keeps (OfType ty) = type_keeps ty

abbrev pub kept_meaning : Place → Meaning → Result Meaning Refusal
kept_meaning first m = if meaning_keeps m then Ok m else Err (TooLarge first)

-- what is meant, as what a pattern of the kind reads to; what is none fits nowhere
abbrev pub as_pattern : Kind → Place → Place → Meaning → Result Meaning Refusal
as_pattern k place first m = if meaning_fits k m then kept_meaning first m else Err (UnfitArgument place)

-- what a symbol reads to on loci, as a pattern of the kind whose symbol and first token stand at places, with the latest notation that passes;
-- refusals stand at the symbol, but `TooLarge` at the first token
abbrev pub SymbolReads : Environment → Context → Kind → Place → Place → Applied → Result Meaning Refusal → Type 0
SymbolReads e c k place first a = ReadsAs e c Anything place (as_pattern k place first) a

abbrev pub PatternReads : Environment → Context → ℕ → PatternTree → Visible → Result Meaning Refusal → Type 0
PatternReads e c least t v = SymbolReads e c (kind_of t) (symbol_place t) (first_of t) (applied_to least t v)
