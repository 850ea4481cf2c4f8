-- The forms of expressions, and what their parse promises.
use Rattle.std.specs.Prelude.{◌≡◌, ℕ, false, List, Result, Ok, Err}
use Rattle.mz_base.specs.TokenList.{TokenList}
use Rattle.mz_base.specs.declared.place.Place.{Place}
use Rattle.mz_base.specs.declared.token.MarkedToken.{MarkedToken}
use Rattle.mz_forms.specs.Form.{Form}
use Rattle.mz_forms.specs.Parse.{TheTree}
use Rattle.mz_marks.specs.Marks.{AreMarked}
use Rattle.mz_tree.specs.Grammar as grammar
use Rattle.mz_pterm.specs.Parses as any_form
use Rattle.mz_pterm.specs.declared.parse.ParseFault.{ParseFault}
use Rattle.mz_pterm.specs.declared.parse.ParseFault.TheVariants.{Memory}
use Rattle.mz_pexpr.specs.declared.forms.Expression.{Expression}
use Rattle.mz_pexpr.specs.declared.forms.Expression.TheVariants as expressions
use Rattle.mz_pexpr.specs.declared.forms.Form as rust
use Rattle.mz_pexpr.specs.declared.forms.Form.TheVariants as forms

-- Which marked tokens spell which tree. No selector stands without `of`, since no field's type is read.
abbrev pub grammar_of : rust.Form → Form MarkedToken
grammar_of forms.Formula = grammar.formula false
grammar_of forms.Term = grammar.term false
grammar_of forms.Terms = grammar.terms false
grammar_of forms.TypeForm = grammar.type_form false
grammar_of forms.Adjectives = grammar.adjectives false
grammar_of forms.Declarations = grammar.declarations false

-- the expression that is this tree
abbrev pub expression_of : (form : rust.Form) → (grammar_of form).Tree → Expression
expression_of forms.Formula tree = expressions.Formula tree
expression_of forms.Term tree = expressions.Term tree
expression_of forms.Terms tree = expressions.Terms tree
expression_of forms.TypeForm tree = expressions.TypeForm tree
expression_of forms.Adjectives tree = expressions.Adjectives tree
expression_of forms.Declarations tree = expressions.Declarations tree

-- Constructs nest at most 128 deep. The expression, and the number of the token behind it; or the place of the first token
-- with which no tree of the form begins, of the first one that is nested too deep, or of the text's end.
abbrev pub IsRead : rust.Form → List MarkedToken → Place → ℕ → Result (Expression × ℕ) ParseFault → Type 0
IsRead form tokens end from (Ok p) = (tree : (grammar_of form).Tree) × (p.0 ≡ expression_of form tree) × TheTree (grammar_of form) 128 tokens from tree p.1
IsRead form tokens end from (Err e) = any_form.Parses (grammar_of form) (λ tree. tree) tokens end from (Err e)

-- The same over the tokens of a text, with the marks that commas have in the whole list.
abbrev pub Parses : rust.Form → TokenList → ℕ → Result (Expression × ℕ) ParseFault → Type 0
Parses form tokens from (Err Memory) = Unit {0}
Parses form tokens from result = (all : List MarkedToken) × AreMarked tokens.items all × IsRead form all tokens.end from result
