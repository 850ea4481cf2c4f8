-- Equations, part by part of a formula.
use Rattle.std.specs.Prelude.{Bool, false, codes}
use Rattle.std.specs.Str.{bytes_eq}
use Rattle.mz_tree.specs.declared.word.Word.{Word}
use Rattle.mz_tree.specs.Trees.{TermsData, UnitData, ConjunctionData, DisjunctionData, ChainDisjunction, ChainConjunction, PredicateBothUnit, ListTerms, no_next_terms, no_next_units, no_next_conjunctions}

-- one term on each side of the symbol `=`
abbrev pub equates : TermsData → Word → TermsData → Bool
equates (ListTerms t no_next_terms) w (ListTerms u no_next_terms) = bytes_eq w.spelling (codes "=")
equates _ w _ = false

-- one equation of two terms
abbrev pub is_equation : UnitData → Bool
is_equation (PredicateBothUnit ts w us) = equates ts w us
is_equation _ = false

abbrev pub is_only_equation : ConjunctionData → Bool
is_only_equation (ChainConjunction u no_next_units) = is_equation u
is_only_equation _ = false

abbrev pub is_plain : DisjunctionData → Bool
is_plain (ChainDisjunction c no_next_conjunctions) = is_only_equation c
is_plain _ = false
