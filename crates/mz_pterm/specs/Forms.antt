-- The forms of terms, and what a reading of one promises. In a field's type a selector may stand without `of`.
use Rattle.std.specs.Prelude.{◌≡◌, ℕ, suc, ◌<◌, Bool, true, false, List, [], ◌∷◌, ◌++◌, map, length, refl, codes, Result, Ok, Err, Option, Some, None, Box}
use Rattle.std.specs.declared.alloc.Global.{Global}
use Rattle.std.proofs.Common.{ap}
use Rattle.mz_base.specs.declared.place.Place.{Place}
use Rattle.mz_forms.specs.declared.refusal.Refusal.{Refusal}
use Rattle.mz_forms.specs.declared.refusal.Refusal.TheVariants.{Memory}
use Rattle.mz_forms.specs.Form.{Form, Agrees, Leads, Found, each_append, then, nested}
use Rattle.mz_forms.specs.Reading.{Gives, Builds}
use Rattle.mz_forms.specs.Chain.{Links, chain}
use Rattle.mz_base.specs.declared.token.MarkedToken.{MarkedToken}
use Rattle.mz_tree.specs.declared.word.Word.{Word}
use Rattle.mz_tree.specs.declared.nodes.BaseNode.{BaseNode}
use Rattle.mz_tree.specs.declared.nodes.PieceNode.{PieceNode}
use Rattle.mz_tree.specs.declared.nodes.TermNode.{TermNode}
use Rattle.mz_tree.specs.declared.chain.Chain.{Chain}
use Rattle.mz_tree.specs.Spelled.{reserved, special, list_comma}
use Rattle.mz_tree.specs.Trees.{TermData, PieceData, PrefixList, BaseData, TermsData, PieceList, NextTermList, RunTerm, SelectorPrefix, IdentifierBase, SelectorBase, GroupBase, CallBase, CallWithBase, AggregateBase, BracketsBase, ListTerms, NextNextTerm, no_pieces, more_pieces, no_prefixs, more_prefixs, no_next_terms, more_next_terms}
use Rattle.mz_tree.specs.Spell.{spell_term, spell_terms, spell_base, spell_piece_list, spell_prefix_list}
use Rattle.mz_tree.specs.Levels.{levels_term, levels_terms, levels_base, levels_piece_list, levels_prefix_list, each_term, each_terms, each_base, each_piece_list, each_prefix_list, nested_each}
use Rattle.mz_tree.specs.Rules.{Last, start, functor, operand, several, IsTerm, AreTerms, IsBase, ArePrefixes, IsOperandAfter, GoesOn, is_several}
use Rattle.mz_tree.specs.Views.{OperandData, base_of, piece_of, term_of, terms_of}
use Rattle.mz_pterm.specs.declared.sign.Sign.{Sign}
use Rattle.mz_pterm.specs.declared.sign.Sign.TheVariants as signs
use Rattle.mz_pterm.specs.declared.terms.Bracketed.{Bracketed}
use Rattle.mz_pterm.specs.declared.terms.Last as rust_last
use Rattle.mz_pterm.specs.declared.terms.Last.TheVariants as lasts
use Rattle.mz_pterm.specs.declared.terms.Selected as rust_selected
use Rattle.mz_pterm.specs.declared.terms.Selected.TheVariants as selecteds
use Rattle.mz_pterm.specs.Classes.{is_open, is_of, goes_on_term, goes_on_terms}
use Rattle.mz_pterm.specs.Sign.{sign_of}
use Rattle.mz_pterm.specs.Words.{word, name}

-- what goes on an operand: parentheses on an identifier, and `of` on a selector
abbrev pub goes_base : BaseData → Sign → Bool
goes_base (IdentifierBase w) s = is_open s
goes_base (SelectorBase p w) s = is_of s
goes_base _ s = false

abbrev pub spell_operand : OperandData → List MarkedToken
spell_operand o = spell_prefix_list o.prefixes ++ spell_base o.base

abbrev pub levels_operand : OperandData → List ℕ
levels_operand o = levels_prefix_list o.prefixes ++ levels_base o.base

pub each_operand : (o : OperandData) → length (levels_operand o) ≡ length (spell_operand o)
each_operand o = each_append (levels_prefix_list o.prefixes) (levels_base o.base) (spell_prefix_list o.prefixes) (spell_base o.base) (each_prefix_list o.prefixes) (each_base o.base)

-- behind an `of` no several terms in parentheses stand
abbrev pub IsBehind : Bool → PrefixList → BaseData → Type 0
IsBehind true ps b = is_several b ≡ false
IsBehind false ps b = IsOperandAfter ps b

abbrev pub IsRest : Bool → Bool → OperandData → Type 0
IsRest field behind o = ArePrefixes field o.prefixes × IsBase field o.base × IsBehind behind o.prefixes o.base

-- an operand, or what stands behind the `of` of one
abbrev pub operand_form : Bool → Bool → Form MarkedToken
operand_form field behind = record { Tree = OperandData; spell = spell_operand; levels = levels_operand; each = each_operand; IsTree = IsRest field behind; goes = λ o t. goes_base o.base (sign_of t) }

abbrev pub IsAlone : Bool → BaseData → Type 0
IsAlone true b = is_several b ≡ false
IsAlone false b = Unit {0}

-- no selector alone
abbrev pub IsUnselected : BaseData → Type 0
IsUnselected (SelectorBase p w) = ⊥
IsUnselected _ = Unit {0}

-- an operand without selectors before it
abbrev pub base_form : Bool → Bool → Form MarkedToken
base_form field behind = record { Tree = BaseData; spell = spell_base; levels = levels_base; each = each_base; IsTree = λ b. IsBase field b × IsUnselected b × IsAlone behind b; goes = λ b t. goes_base b (sign_of t) }

-- what stands behind `the U`
pub data Selection : Type 0 where
  alone_selection : Selection
  of_selection : Place → OperandData → Selection

abbrev pub spell_selection : Selection → List MarkedToken
spell_selection alone_selection = []
spell_selection (of_selection q o) = reserved q (codes "of") ∷ spell_operand o

abbrev pub levels_selection : Selection → List ℕ
levels_selection alone_selection = []
levels_selection (of_selection q o) = 0 ∷ levels_operand o

pub each_selection : (s : Selection) → length (levels_selection s) ≡ length (spell_selection s)
each_selection alone_selection = refl
each_selection (of_selection q o) = ap suc (each_operand o)

abbrev pub IsSelection : Bool → Selection → Type 0
IsSelection field alone_selection = field ≡ true
IsSelection field (of_selection q o) = IsRest field true o

abbrev pub goes_selection : Selection → Sign → Bool
goes_selection alone_selection s = is_of s
goes_selection (of_selection q o) s = goes_base o.base s

abbrev pub selection : Bool → Form MarkedToken
selection field = record { Tree = Selection; spell = spell_selection; levels = levels_selection; each = each_selection; IsTree = IsSelection field; goes = λ k t. goes_selection k (sign_of t) }

abbrev pub selected_with : Place → Word → Selection → OperandData
selected_with p w alone_selection = record { prefixes = no_prefixs; base = SelectorBase p w }
selected_with p w (of_selection q o) = record { prefixes = more_prefixs (SelectorPrefix p w q) o.prefixes; base = o.base }

-- a run of pieces, behind what stands last before it
abbrev pub rest_of_term : Bool → Last → Form MarkedToken
rest_of_term field l = record { Tree = PieceList; spell = spell_piece_list; levels = levels_piece_list; each = each_piece_list; IsTree = GoesOn field l; goes = λ _ t. goes_on_term (sign_of t) }

abbrev pub term_form : Bool → Form MarkedToken
term_form field = record { Tree = TermData; spell = spell_term; levels = levels_term; each = each_term; IsTree = IsTerm field; goes = λ _ t. goes_on_term (sign_of t) }

-- list commas between terms
abbrev pub term_links : Bool → Links MarkedToken
term_links field = record { Member = term_form field; Sign = Place; sign = list_comma; State = Unit {0}; May = λ _ _. Unit {0}; next = λ _. tt; deepens = false; goes = λ t. goes_on_terms (sign_of t) }

abbrev pub more_terms : Bool → Form MarkedToken
more_terms field = chain (term_links field) tt

abbrev pub next_terms : List (Place × TermData) → NextTermList
next_terms [] = no_next_terms
next_terms (p ∷ ps) = more_next_terms (NextNextTerm p.0 p.1) (next_terms ps)

abbrev pub terms_form : Bool → Form MarkedToken
terms_form field = record { Tree = TermsData; spell = spell_terms; levels = levels_terms; each = each_terms; IsTree = AreTerms field; goes = λ _ t. goes_on_terms (sign_of t) }

-- terms, and the bracket that closes
abbrev pub to_close : Bool → Sign → Form MarkedToken
to_close field c = then (nested (terms_form field)) (λ _. word c)

-- terms in brackets
abbrev pub bracket : Bool → Sign → Sign → Form MarkedToken
bracket field s c = then (nested (word s)) (λ _. to_close field c)

abbrev pub bracketed_of : Bracketed → Place × (TermsData × Place)
bracketed_of b = (b.open, (terms_of b.terms, b.close))

-- one term in parentheses
abbrev pub single : Bool → Form MarkedToken
single field = then (nested (word signs.Open)) (λ _. then (nested (term_form field)) (λ _. word signs.Close))

abbrev pub one_bracketed : (Place × (TermData × Place)) → Place × (TermsData × Place)
one_bracketed k = (k.0, (ListTerms k.1.0 no_next_terms, k.1.1))

abbrev pub make_group : (Place × (TermsData × Place)) → BaseData
make_group k = GroupBase k.0 k.1.0 k.1.1

abbrev pub make_single : (Place × (TermData × Place)) → BaseData
make_single k = make_group (one_bracketed k)

-- the fields of a structure
abbrev pub aggregate : Bool → Form MarkedToken
aggregate field = bracket field signs.OpenAggregate signs.CloseAggregate

abbrev pub make_aggregate : Word → (Place × (TermsData × Place)) → BaseData
make_aggregate w k = AggregateBase w k.0 k.1.0 k.1.1

-- terms in brackets of an environment
abbrev pub brackets : Bool → Form MarkedToken
brackets field = then (nested (name signs.LeftBracket)) (λ _. then (nested (terms_form field)) (λ _. name signs.RightBracket))

abbrev pub brackets_base : (Word × (TermsData × Word)) → BaseData
brackets_base k = BracketsBase k.0 k.1.0 k.1.1

-- the arguments of an application, up to the parenthesis that closes
pub data Arguments : Type 0 where
  no_arguments : Place → Arguments
  some_arguments : TermsData → Place → Arguments

abbrev pub spell_arguments : Arguments → List MarkedToken
spell_arguments (no_arguments q) = special q (codes ")") ∷ []
spell_arguments (some_arguments ts q) = spell_terms ts ++ special q (codes ")") ∷ []

abbrev pub levels_arguments : Arguments → List ℕ
levels_arguments (no_arguments q) = 0 ∷ []
levels_arguments (some_arguments ts q) = map suc (levels_terms ts) ++ 0 ∷ []

pub each_arguments : (a : Arguments) → length (levels_arguments a) ≡ length (spell_arguments a)
each_arguments (no_arguments q) = refl
each_arguments (some_arguments ts q) = each_append (map suc (levels_terms ts)) (0 ∷ []) (spell_terms ts) (special q (codes ")") ∷ []) (nested_each (levels_terms ts) (spell_terms ts) (each_terms ts)) refl

abbrev pub AreArguments : Bool → Arguments → Type 0
AreArguments field (no_arguments q) = Unit {0}
AreArguments field (some_arguments ts q) = AreTerms field ts

abbrev pub arguments : Bool → Form MarkedToken
arguments field = record { Tree = Arguments; spell = spell_arguments; levels = levels_arguments; each = each_arguments; IsTree = AreArguments field; goes = λ _ _. false }

-- what stands behind an identifier: nothing, or arguments in parentheses
pub data Call : Type 0 where
  no_call : Call
  call_with : Place → Arguments → Call

abbrev pub spell_call : Call → List MarkedToken
spell_call no_call = []
spell_call (call_with p a) = special p (codes "(") ∷ spell_arguments a

abbrev pub levels_call : Call → List ℕ
levels_call no_call = []
levels_call (call_with p a) = 1 ∷ levels_arguments a

pub each_call : (c : Call) → length (levels_call c) ≡ length (spell_call c)
each_call no_call = refl
each_call (call_with p a) = ap suc (each_arguments a)

abbrev pub IsCall : Bool → Call → Type 0
IsCall field no_call = Unit {0}
IsCall field (call_with p a) = AreArguments field a

abbrev pub goes_call : Call → Sign → Bool
goes_call no_call s = is_open s
goes_call (call_with p a) s = false

abbrev pub call_form : Bool → Form MarkedToken
call_form field = record { Tree = Call; spell = spell_call; levels = levels_call; each = each_call; IsTree = IsCall field; goes = λ c t. goes_call c (sign_of t) }

abbrev pub called : Word → Call → BaseData
called w no_call = IdentifierBase w
called w (call_with p (no_arguments q)) = CallBase w p q
called w (call_with p (some_arguments ts q)) = CallWithBase w p ts q

-- the base in a box
abbrev pub base_in : Box BaseNode Global → BaseData
base_in b = base_of b.value

-- what is handed in stands in the box
abbrev pub Boxes : BaseNode → Result (Box BaseNode Global) Refusal → Type 0
Boxes x (Ok b) = b.value ≡ x
Boxes x (Err e) = e ≡ Memory

-- what stands last in a term, as the grammar has it
abbrev pub last_seen : rust_last.Last → Last
last_seen lasts.Start = start
last_seen lasts.Functor = functor
last_seen lasts.Operand = operand
last_seen lasts.Several = several

abbrev pub ReadsSingle : Bool → ℕ → List MarkedToken → Result Bracketed Refusal → List MarkedToken → Type 0
ReadsSingle field room before result after = Gives (single field) room (λ b. Builds (single field) room one_bracketed (bracketed_of b) before after) before result after

-- several terms in parentheses don't stand behind an `of`
abbrev pub ReadsGroup : Bool → Bool → ℕ → List MarkedToken → Result (Box BaseNode Global) Refusal → List MarkedToken → Type 0
ReadsGroup field true room before result after = Gives (single field) room (λ b. Builds (single field) room make_single (base_in b) before after) before result after
ReadsGroup field false room before result after = Gives (bracket field signs.Open signs.Close) room (λ b. Builds (bracket field signs.Open signs.Close) room make_group (base_in b) before after) before result after

abbrev pub ReadsAggregate : Bool → ℕ → Word → List MarkedToken → Result (Box BaseNode Global) Refusal → List MarkedToken → Type 0
ReadsAggregate field room w before result after = Gives (aggregate field) room (λ b. Builds (aggregate field) room (make_aggregate w) (base_in b) before after) before result after

abbrev pub ReadsBrackets : Bool → ℕ → List MarkedToken → Result (Box BaseNode Global) Refusal → List MarkedToken → Type 0
ReadsBrackets field room before result after = Gives (brackets field) room (λ b. Builds (brackets field) room brackets_base (base_in b) before after) before result after

abbrev pub ReadsCall : Bool → ℕ → Word → List MarkedToken → Result (Box BaseNode Global) Refusal → List MarkedToken → Type 0
ReadsCall field room w before result after = Gives (call_form field) room (λ b. Builds (call_form field) room (called w) (base_in b) before after) before result after

-- A selector with its `of`, or alone; or nothing, where no selector comes next.
abbrev pub IsSelected : Bool → Bool → ℕ → List MarkedToken → List MarkedToken → Option rust_selected.Selected → Type 0
IsSelected field behind room before after (Some (selecteds.Of p w q)) = Leads (operand_form field behind) (operand_form field true) room (λ o. selected_with p w (of_selection q o)) before after × (length after < length before)
IsSelected field behind room before after (Some (selecteds.Alone p w)) = Found (operand_form field behind) room before (selected_with p w alone_selection) after
IsSelected field behind room before after None = (before ≡ after) × ((p : Place) → Agrees before (reserved p (codes "the") ∷ []) → ⊥)

abbrev pub ReadsSelected : Bool → Bool → ℕ → List MarkedToken → Result (Option rust_selected.Selected) Refusal → List MarkedToken → Type 0
ReadsSelected field behind room before result after = Gives (operand_form field behind) room (IsSelected field behind room before after) before result after

-- The next piece of a term, with what then stands last, or nothing where no piece may come next.
abbrev pub IsPieceOf : Bool → ℕ → Last → List MarkedToken → List MarkedToken → Option (PieceNode × rust_last.Last) → Type 0
IsPieceOf field room l before after (Some p) = Leads (rest_of_term field l) (rest_of_term field (last_seen p.1)) room (more_pieces (piece_of p.0)) before after × (length after < length before)
IsPieceOf field room l before after None = (before ≡ after) × ((x : PieceList) → GoesOn field l x → Agrees before (spell_piece_list x) → x ≡ no_pieces)

abbrev pub ReadsPiece : Bool → ℕ → Last → List MarkedToken → Result (Option (PieceNode × rust_last.Last)) Refusal → List MarkedToken → Type 0
ReadsPiece field room l before result after = Gives (rest_of_term field l) room (IsPieceOf field room l before after) before result after

abbrev pub ReadsRestOfTerm : Bool → ℕ → Last → PieceData → List MarkedToken → Result TermNode Refusal → List MarkedToken → Type 0
ReadsRestOfTerm field room l p before result after = Gives (rest_of_term field l) room (λ t. Builds (rest_of_term field l) room (RunTerm p) (term_of t) before after) before result after

abbrev pub ReadsRestOfTerms : Bool → ℕ → TermData → List MarkedToken → Result (Chain Place TermNode) Refusal → List MarkedToken → Type 0
ReadsRestOfTerms field room t before result after = Gives (more_terms field) room (λ c. Builds (more_terms field) room (λ ps. ListTerms t (next_terms ps)) (terms_of c) before after) before result after
