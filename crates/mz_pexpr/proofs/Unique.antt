-- Two trees of one form that spell the same tokens are equal.
use Rattle.std.proofs.Common.{false}
use Rattle.mz_forms.specs.Parse.{OneTree}
use Rattle.mz_pterm.proofs.Unique.{one_term, one_terms}
use Rattle.mz_ptype.proofs.Unique.{one_type, one_adjectives, one_declarations}
use Rattle.mz_pformula.proofs.UniqueFormulas.{one_formula}
use Rattle.mz_pexpr.specs.Expression.{grammar_of}
use Rattle.mz_pexpr.specs.declared.forms.Form as rust
use Rattle.mz_pexpr.specs.declared.forms.Form.TheVariants as forms

pub one_expression : (form : rust.Form) → OneTree (grammar_of form)
one_expression forms.Formula = one_formula false
one_expression forms.Term = one_term false
one_expression forms.Terms = one_terms false
one_expression forms.TypeForm = one_type false
one_expression forms.Adjectives = one_adjectives false
one_expression forms.Declarations = one_declarations false
