-- The sets of tokens that statements, steps and justifications begin with.
use Rattle.std.specs.Prelude.{◌≡◌, Bool, true, false, ◌||◌, ◌&&◌, List, [], ◌∷◌, codes}
use Rattle.std.specs.Str.{bytes_eq}
use Rattle.mz_base.specs.declared.token.MarkedToken.{MarkedToken}
use Rattle.mz_pterm.specs.declared.sign.Sign.{Sign}
use Rattle.mz_pterm.specs.declared.sign.Sign.TheVariants as signs
use Rattle.mz_pterm.specs.Sign.{sign_of}
use Rattle.mz_pformula.specs.Classes.{begins_unit}
use Rattle.mz_pjustification.specs.declared.keyword.Keyword.{Keyword}
use Rattle.mz_pjustification.specs.declared.keyword.Keyword.TheVariants as keywords
use Rattle.mz_pjustification.specs.Keyword.{keyword_of}

-- the next token, where there is one, is of the set
abbrev pub comes : (MarkedToken → Bool) → List MarkedToken → Bool
comes c [] = false
comes c (t ∷ ts) = c t

-- the next token has this keyword
abbrev pub KeyComes : Keyword → List MarkedToken → Type 0
KeyComes k [] = ⊥
KeyComes k (t ∷ ts) = keyword_of t ≡ k

abbrev pub is_proof_key : Keyword → Bool
is_proof_key keywords.Proof = true
is_proof_key _ = false

abbrev pub is_link_key : Keyword → Bool
is_link_key keywords.Link = true
is_link_key _ = false

abbrev pub is_suppose_key : Keyword → Bool
is_suppose_key keywords.Suppose = true
is_suppose_key _ = false

abbrev pub is_per_key : Keyword → Bool
is_per_key keywords.Per = true
is_per_key _ = false

abbrev pub is_then_key : Keyword → Bool
is_then_key keywords.Then = true
is_then_key _ = false

abbrev pub is_mode : Sign → Bool
is_mode signs.Mode = true
is_mode _ = false

abbrev pub is_set : MarkedToken → Bool
is_set t = is_mode (sign_of t) && bytes_eq t.token.spelling (codes "set")

-- what a statement begins with, where that is no token of an expression
abbrev pub is_statement_key : Keyword → Bool
is_statement_key keywords.Then = true
is_statement_key keywords.Now = true
is_statement_key keywords.Consider = true
is_statement_key keywords.Reconsider = true
is_statement_key keywords.Deffunc = true
is_statement_key keywords.Defpred = true
is_statement_key _ = false

abbrev pub begins_statement : MarkedToken → Bool
begins_statement t = is_statement_key (keyword_of t) || (is_set t || begins_unit (sign_of t))

abbrev pub defines : Keyword → Bool
defines keywords.Deffunc = true
defines keywords.Defpred = true
defines _ = false

abbrev pub begins_definition : MarkedToken → Bool
begins_definition t = defines (keyword_of t) || is_set t

abbrev pub is_skeleton_key : Keyword → Bool
is_skeleton_key keywords.Let = true
is_skeleton_key keywords.Assume = true
is_skeleton_key keywords.Given = true
is_skeleton_key keywords.Take = true
is_skeleton_key _ = false

abbrev pub begins_skeleton : MarkedToken → Bool
begins_skeleton t = is_skeleton_key (keyword_of t)

abbrev pub is_conclusion_key : Keyword → Bool
is_conclusion_key keywords.Thus = true
is_conclusion_key keywords.Hence = true
is_conclusion_key keywords.Hereby = true
is_conclusion_key _ = false

abbrev pub begins_conclusion : MarkedToken → Bool
begins_conclusion t = is_conclusion_key (keyword_of t)

-- a split into cases comes next, behind a `then` or without one
abbrev pub cases_next : List MarkedToken → Bool
cases_next [] = false
cases_next (t ∷ ts) = is_per_key (keyword_of t) || (is_then_key (keyword_of t) && comes (λ n. is_per_key (keyword_of n)) ts)

-- what a step begins with, where no statement does
abbrev pub is_step_key : Keyword → Bool
is_step_key k = is_skeleton_key k || (is_conclusion_key k || is_per_key k)

abbrev pub begins_step : MarkedToken → Bool
begins_step t = is_step_key (keyword_of t) || begins_statement t
