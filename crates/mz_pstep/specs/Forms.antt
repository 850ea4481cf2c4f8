-- The forms of the parts of reasonings that hold no proof.
use Rattle.std.specs.Prelude.{◌≡◌, ℕ, suc, Bool, true, false, ◌||◌, List, [], ◌∷◌, ◌++◌, map, length, Option, Some, None, Result, refl}
use Rattle.mz_base.specs.declared.place.Place.{Place}
use Rattle.mz_base.specs.declared.token.MarkedToken.{MarkedToken}
use Rattle.mz_forms.specs.declared.refusal.Refusal.{Refusal}
use Rattle.mz_forms.specs.Form.{Form, each_append, then}
use Rattle.mz_forms.specs.Reading.{Gives, Builds}
use Rattle.mz_forms.specs.Repeat.{maybe}
use Rattle.mz_forms.specs.Chain.{Links}
use Rattle.mz_tree.specs.declared.word.Comma.{Comma}
use Rattle.mz_tree.specs.declared.lists.Separated.{Separated}
use Rattle.mz_tree.specs.Spelled as spelled
use Rattle.mz_tree.specs.Spelled.{comma_token}
use Rattle.mz_tree.specs.Trees.{TypeData, DeclarationsData}
use Rattle.mz_tree.specs.Levels.{nested_each, each_type}
use Rattle.mz_tree.specs.Spell.{spell_type}
use Rattle.mz_tree.specs.Levels.{levels_type}
use Rattle.mz_tree.specs.Lists.{spell_separated, levels_separated, each_separated, AreDivided}
use Rattle.mz_tree.specs.Rules.{DividesAfter, IfAny, ends_in_terms}
use Rattle.mz_tree_proof.specs.declared.propositions.SuchTree.{SuchTree}
use Rattle.mz_tree_proof.specs.declared.references.SimpleTree.{SimpleTree}
use Rattle.mz_tree_proof.specs.declared.equality_step.EqualityStepTree.{EqualityStepTree}
use Rattle.mz_tree_proof.specs.declared.introduction.NamedTermTree.{NamedTermTree}
use Rattle.mz_tree_proof.specs.declared.introduction.RetypedTree.{RetypedTree}
use Rattle.mz_tree_proof.specs.declared.introduction.ConsiderTree.{ConsiderTree}
use Rattle.mz_tree_proof.specs.declared.introduction.ReconsiderTree.{ReconsiderTree}
use Rattle.mz_tree_proof.specs.declared.introduction.SetTree.{SetTree}
use Rattle.mz_tree_proof.specs.declared.introduction.DeffuncTree.{DeffuncTree}
use Rattle.mz_tree_proof.specs.declared.introduction.DefpredTree.{DefpredTree}
use Rattle.mz_tree_proof.specs.declared.skeleton.TakenTree.{TakenTree}
use Rattle.mz_tree_proof.specs.declared.skeleton.LetTree.{LetTree}
use Rattle.mz_tree_proof.specs.declared.skeleton.AssumeTree.{AssumeTree}
use Rattle.mz_tree_proof.specs.declared.skeleton.GivenTree.{GivenTree}
use Rattle.mz_tree_proof.specs.declared.skeleton.TakeTree.{TakeTree}
use Rattle.mz_tree_proof.specs.declared.skeleton.SplitTree.{SplitTree}
use Rattle.mz_tree_proof.specs.Spell as spell
use Rattle.mz_tree_proof.specs.Levels as levels
use Rattle.mz_tree_proof.specs.EachLevel as each
use Rattle.mz_tree_proof.specs.Rules as rules
use Rattle.mz_pterm.specs.declared.sign.Sign.{Sign}
use Rattle.mz_pterm.specs.Classes.{goes_on_term}
use Rattle.mz_pterm.specs.Sign.{sign_of}
use Rattle.mz_pterm.specs.Words.{fixed}
use Rattle.mz_ptype.specs.Forms.{whole_type, declarations_form, goes_on_declared, is_comma}
use Rattle.mz_pjustification.specs.declared.keyword.Keyword.{Keyword}
use Rattle.mz_pjustification.specs.declared.keyword.Keyword.TheVariants as keywords
use Rattle.mz_pjustification.specs.Words.{keyword, tokens_of}
use Rattle.mz_pjustification.specs.Forms.{goes_on_simple, simple_form}
use Rattle.mz_pproposition.specs.Forms.{such_form}
use Rattle.mz_pstep.specs.Words.{is_predicate}

-- Lists with commas: behind what ends in a list of terms only a dividing comma stands.
abbrev pub links : (X : Form MarkedToken) → (X.Tree → Bool) → (Sign → Bool) → Links MarkedToken
links X ends goes = record { Member = X; Sign = Comma; sign = comma_token; State = Bool; May = DividesAfter; next = ends; deepens = false; goes = λ t. goes (sign_of t) }

abbrev pub divided : (X : Form MarkedToken) → (X.Tree → Bool) → (Sign → Bool) → Form MarkedToken
divided X ends goes = record { Tree = Separated X.Tree; spell = spell_separated X.spell; levels = levels_separated X.levels; each = each_separated X.levels X.spell X.each; IsTree = AreDivided X.IsTree ends; goes = λ _ t. goes (sign_of t) }

-- Names for terms.
abbrev pub named_term_form : Form MarkedToken
named_term_form = record { Tree = NamedTermTree; spell = spell.spell_named_term; levels = levels.levels_named_term; each = each.each_named_term; IsTree = rules.IsNamedTerm; goes = λ _ t. goes_on_term (sign_of t) }

-- a name alone is one, on which `=` goes
abbrev pub goes_on_named : Sign → Bool
goes_on_named s = goes_on_term s || is_predicate s

abbrev pub retyped_form : Form MarkedToken
retyped_form = record { Tree = RetypedTree; spell = spell.spell_retyped; levels = levels.levels_retyped; each = each.each_retyped; IsTree = rules.IsRetyped; goes = λ _ t. goes_on_named (sign_of t) }

abbrev pub taken_form : Form MarkedToken
taken_form = record { Tree = TakenTree; spell = spell.spell_taken; levels = levels.levels_taken; each = each.each_taken; IsTree = rules.IsTaken; goes = λ _ t. goes_on_named (sign_of t) }

abbrev pub goes_on_list : Sign → Bool
goes_on_list s = goes_on_named s || is_comma s

abbrev pub named_terms_form : Form MarkedToken
named_terms_form = divided named_term_form rules.named_term_ends_in_list goes_on_list

abbrev pub retypeds_form : Form MarkedToken
retypeds_form = divided retyped_form rules.retyped_ends_in_list goes_on_list

abbrev pub takens_form : Form MarkedToken
takens_form = divided taken_form rules.taken_ends_in_list goes_on_list

abbrev pub types_form : Form MarkedToken
types_form = divided (whole_type false) ends_in_terms goes_on_declared

-- A further side of an iterative equality.
abbrev pub goes_on_equality : Sign → Keyword → Bool
goes_on_equality s k = goes_on_term s || goes_on_simple s k

abbrev pub equality_step_form : Form MarkedToken
equality_step_form = record { Tree = EqualityStepTree; spell = spell.spell_equality_step; levels = levels.levels_equality_step; each = each.each_equality_step; IsTree = rules.IsEqualityStep; goes = λ _ t. tokens_of goes_on_equality t }

-- Statements behind a `then`, if there is one.
abbrev pub consider_form : Form MarkedToken
consider_form = then (keyword keywords.Consider) (λ _. then (declarations_form false) (λ _. then such_form (λ _. then simple_form (λ _. keyword keywords.Semicolon))))

abbrev pub consider_from : Option Place → (Place × (DeclarationsData × (SuchTree × (SimpleTree × Place)))) → ConsiderTree
consider_from o k = record { then = o; consider = k.0; declarations = k.1.0; such = k.1.1.0; simple = k.1.1.1.0; semicolon = k.1.1.1.1 }

abbrev pub reconsider_form : Form MarkedToken
reconsider_form = then (keyword keywords.Reconsider) (λ _. then retypeds_form (λ _. then (keyword keywords.As) (λ _. then (whole_type false) (λ _. then simple_form (λ _. keyword keywords.Semicolon)))))

abbrev pub reconsider_from : Option Place → (Place × (Separated RetypedTree × (Place × (TypeData × (SimpleTree × Place))))) → ReconsiderTree
reconsider_from o k = record { then = o; reconsider = k.0; retyped = k.1.0; as_ = k.1.1.0; ty = k.1.1.1.0; simple = k.1.1.1.1.0; semicolon = k.1.1.1.1.1 }

abbrev pub set_statement_form : Form MarkedToken
set_statement_form = record { Tree = SetTree; spell = spell.spell_set; levels = levels.levels_set; each = each.each_set; IsTree = rules.IsSet; goes = λ _ _. false }

abbrev pub deffunc_form : Form MarkedToken
deffunc_form = record { Tree = DeffuncTree; spell = spell.spell_deffunc; levels = levels.levels_deffunc; each = each.each_deffunc; IsTree = rules.IsDeffunc; goes = λ _ _. false }

abbrev pub defpred_form : Form MarkedToken
defpred_form = record { Tree = DefpredTree; spell = spell.spell_defpred; levels = levels.levels_defpred; each = each.each_defpred; IsTree = rules.IsDefpred; goes = λ _ _. false }

-- Types or nothing, one level down, and the bracket that closes.
abbrev pub Closing : Type 0
Closing = Option (Separated TypeData) × Place

abbrev pub spell_closing : Sign → Closing → List MarkedToken
spell_closing c k = spelled.maybe (spell_separated spell_type) k.0 ++ fixed c k.1 ∷ []

abbrev pub levels_closing : Closing → List ℕ
levels_closing k = map suc (spelled.maybe (levels_separated levels_type) k.0) ++ 0 ∷ []

pub each_types : (o : Option (Separated TypeData)) → length (spelled.maybe (levels_separated levels_type) o) ≡ length (spelled.maybe (spell_separated spell_type) o)
each_types None = refl
each_types (Some s) = each_separated levels_type spell_type each_type s

pub each_closing : (c : Sign) (k : Closing) → length (levels_closing k) ≡ length (spell_closing c k)
each_closing c k = each_append (map suc (spelled.maybe (levels_separated levels_type) k.0)) (0 ∷ []) (spelled.maybe (spell_separated spell_type) k.0) (fixed c k.1 ∷ [])
    (nested_each (spelled.maybe (levels_separated levels_type) k.0) (spelled.maybe (spell_separated spell_type) k.0) (each_types k.0)) refl

abbrev pub closing_form : Sign → Form MarkedToken
closing_form c = record { Tree = Closing; spell = spell_closing c; levels = levels_closing; each = each_closing c; IsTree = λ k. IfAny rules.AreTypes k.0; goes = λ _ _. false }

-- Steps that need no justification.
abbrev pub begins_such : Sign → Keyword → Bool
begins_such s keywords.Such = true
begins_such s _ = false

abbrev pub maybe_such_form : Form MarkedToken
maybe_such_form = maybe such_form (tokens_of begins_such)

abbrev pub let_form : Form MarkedToken
let_form = record { Tree = LetTree; spell = spell.spell_let; levels = levels.levels_let; each = each.each_let; IsTree = rules.IsLet; goes = λ _ _. false }

abbrev pub assume_form : Form MarkedToken
assume_form = record { Tree = AssumeTree; spell = spell.spell_assume; levels = levels.levels_assume; each = each.each_assume; IsTree = rules.IsAssume; goes = λ _ _. false }

abbrev pub given_form : Form MarkedToken
given_form = record { Tree = GivenTree; spell = spell.spell_given; levels = levels.levels_given; each = each.each_given; IsTree = rules.IsGiven; goes = λ _ _. false }

abbrev pub take_form : Form MarkedToken
take_form = record { Tree = TakeTree; spell = spell.spell_take; levels = levels.levels_take; each = each.each_take; IsTree = rules.IsTake; goes = λ _ _. false }

-- the beginning of a split into cases, behind a `then`, if there is one
abbrev pub split_form : Form MarkedToken
split_form = then (keyword keywords.Per) (λ _. then (keyword keywords.Cases) (λ _. then simple_form (λ _. keyword keywords.Semicolon)))

abbrev pub split_from : Option Place → (Place × (Place × (SimpleTree × Place))) → SplitTree
split_from o k = record { then = o; per = k.0; cases = k.1.0; simple = k.1.1.0; semicolon = k.1.1.1 }

-- What is read.
abbrev pub same_named_term : NamedTermTree → NamedTermTree
same_named_term x = x

abbrev pub same_retyped : RetypedTree → RetypedTree
same_retyped x = x

abbrev pub same_taken : TakenTree → TakenTree
same_taken x = x

abbrev pub same_named_terms : Separated NamedTermTree → Separated NamedTermTree
same_named_terms x = x

abbrev pub same_retypeds : Separated RetypedTree → Separated RetypedTree
same_retypeds x = x

abbrev pub same_takens : Separated TakenTree → Separated TakenTree
same_takens x = x

abbrev pub same_types : Separated TypeData → Separated TypeData
same_types x = x

abbrev pub same_equality_step : EqualityStepTree → EqualityStepTree
same_equality_step x = x

abbrev pub same_set : SetTree → SetTree
same_set x = x

abbrev pub same_deffunc : DeffuncTree → DeffuncTree
same_deffunc x = x

abbrev pub same_defpred : DefpredTree → DefpredTree
same_defpred x = x

abbrev pub same_closing : Closing → Closing
same_closing x = x

abbrev pub same_maybe_such : Option SuchTree → Option SuchTree
same_maybe_such x = x

abbrev pub same_let : LetTree → LetTree
same_let x = x

abbrev pub same_assume : AssumeTree → AssumeTree
same_assume x = x

abbrev pub same_given : GivenTree → GivenTree
same_given x = x

abbrev pub same_take : TakeTree → TakeTree
same_take x = x

abbrev pub ReadsConsider : Option Place → ℕ → List MarkedToken → Result ConsiderTree Refusal → List MarkedToken → Type 0
ReadsConsider o room before result after = Gives consider_form room (λ x. Builds consider_form room (consider_from o) x before after) before result after

abbrev pub ReadsReconsider : Option Place → ℕ → List MarkedToken → Result ReconsiderTree Refusal → List MarkedToken → Type 0
ReadsReconsider o room before result after = Gives reconsider_form room (λ x. Builds reconsider_form room (reconsider_from o) x before after) before result after

abbrev pub ReadsSplit : Option Place → ℕ → List MarkedToken → Result SplitTree Refusal → List MarkedToken → Type 0
ReadsSplit o room before result after = Gives split_form room (λ x. Builds split_form room (split_from o) x before after) before result after
