-- What a pattern reads to, with loci as constants, as it stands under them.
use Rattle.std.specs.Prelude.{ℕ, map}
use Rattle.mz_logic.specs.declared.literal.Literal.{Literal}
use Rattle.mz_logic.specs.declared.literal.Literal.TheVariants.{Atom, Eq}
use Rattle.mz_core.specs.declared.notation.Meaning.{Meaning}
use Rattle.mz_core.specs.declared.notation.Meaning.TheVariants.{OfTerm, OfLiteral, OfType}
use Rattle.mz_cluster_items.specs.OverLoci.{term_over_loci}
use Rattle.mz_loci.specs.Loci.{type_over_loci}

abbrev pub literal_over_loci : ℕ → ℕ → Literal → Literal
literal_over_loci least count (Atom positive s ts) = Atom positive s (map (term_over_loci least count) ts)
literal_over_loci least count (Eq positive t u) = Eq positive (term_over_loci least count t) (term_over_loci least count u)

abbrev pub meaning_over_loci : ℕ → ℕ → Meaning → Meaning
meaning_over_loci least count (OfTerm t) = OfTerm (term_over_loci least count t)
meaning_over_loci least count (OfLiteral l) = OfLiteral (literal_over_loci least count l)
meaning_over_loci least count (OfType ty) = OfType (type_over_loci least count ty)
