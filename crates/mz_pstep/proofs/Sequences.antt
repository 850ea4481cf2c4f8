-- The readings of statements that are parts one behind another.
use Rattle.std.proofs.Common.{◌≡◌, ℕ, suc, true, false, List, [], ◌∷◌, map, refl, sym, ap, subst, ◌∙◌, append_assoc, None}
use Rattle.std.proofs.lemmas.Bool.{or_left, or_right}
use Rattle.mz_base.specs.declared.place.Place.{Place}
use Rattle.mz_base.specs.declared.token.MarkedToken.{MarkedToken}
use Rattle.mz_forms.specs.declared.refusal.Refusal.{Refusal}
use Rattle.mz_forms.specs.Form.{Form, Found, Leads, is_empty, then, nested}
use Rattle.mz_forms.specs.Reading.{Refuses}
use Rattle.mz_forms.proofs.Choose.{Reshapes}
use Rattle.mz_forms.proofs.Compose.{Apart, head_of}
use Rattle.mz_forms.proofs.Leads.{leads_as, leads_behind, leads_here, leads_on, beside, apart_closed, passes, first_refuses}
use Rattle.mz_tree.specs.declared.word.Word.{Word}
use Rattle.mz_tree.specs.declared.lists.Separated.{Separated}
use Rattle.mz_tree.specs.Spelled as spelled
use Rattle.mz_tree.specs.Spelled.{equals_sign}
use Rattle.mz_tree.specs.Trees.{TermData, TypeData, DeclarationsData, FormulaData, ModeType, TypedDeclared, no_adjectives}
use Rattle.mz_tree.specs.Spell.{spell_term, spell_type, spell_formula}
use Rattle.mz_tree.specs.Levels.{levels_term, levels_type, levels_formula}
use Rattle.mz_tree.specs.Lists.{spell_separated, levels_separated}
use Rattle.mz_tree_proof.specs.declared.propositions.SuchTree.{SuchTree}
use Rattle.mz_tree_proof.specs.declared.references.SimpleTree.{SimpleTree}
use Rattle.mz_tree_proof.specs.declared.references.SimpleTree.TheVariants as simple_tree
use Rattle.mz_tree_proof.specs.declared.equality_step.EqualityStepTree.{EqualityStepTree}
use Rattle.mz_tree_proof.specs.declared.introduction.NamedTermTree.{NamedTermTree}
use Rattle.mz_tree_proof.specs.declared.introduction.RetypedTree.{RetypedTree}
use Rattle.mz_tree_proof.specs.declared.introduction.RetypedTree.TheVariants as retyped_tree
use Rattle.mz_tree_proof.specs.declared.introduction.SetTree.{SetTree}
use Rattle.mz_tree_proof.specs.declared.introduction.DeffuncTree.{DeffuncTree}
use Rattle.mz_tree_proof.specs.declared.introduction.DefpredTree.{DefpredTree}
use Rattle.mz_tree_proof.specs.Spell.{spell_simple, spell_deffunc, spell_defpred}
use Rattle.mz_tree_proof.specs.Levels.{levels_deffunc, levels_defpred}
use Rattle.mz_tree_proof.specs.Rules.{IsSuch}
use Rattle.mz_pterm.specs.declared.sign.Sign.{Sign}
use Rattle.mz_pterm.specs.declared.sign.Sign.TheVariants as signs
use Rattle.mz_pterm.specs.Classes.{goes_on_term}
use Rattle.mz_pterm.specs.Sign.{sign_of}
use Rattle.mz_pterm.specs.Words.{fixed, named, word, name}
use Rattle.mz_pterm.specs.Forms.{term_form}
use Rattle.mz_pterm.proofs.Bases.{word_at, term_at}
use Rattle.mz_ptype.specs.Forms.{whole_type, goes_type, declarations_form, goes_on_declared}
use Rattle.mz_ptype.proofs.DeclarationSteps.{declared_on}
use Rattle.mz_ptype.proofs.Optional.{never}
use Rattle.mz_patom.specs.Classes.{goes_open}
use Rattle.mz_pformula.specs.Forms.{any_operator, formula_takes, formula_form}
use Rattle.mz_pformula.proofs.Operators.{goes_weaker}
use Rattle.mz_pformula.proofs.Quantifiers.{some_formula, some_declarations}
use Rattle.mz_pjustification.specs.declared.keyword.Keyword.TheVariants as keywords
use Rattle.mz_pjustification.specs.Words.{key, keyword, tokens_of}
use Rattle.mz_pjustification.specs.Forms.{goes_on_simple, simple_form}
use Rattle.mz_pjustification.proofs.Taken.{nowhere, or_goes}
use Rattle.mz_pproposition.specs.Forms.{goes_on_propositions, such_form}
use Rattle.mz_pproposition.proofs.PropositionSteps.{some_condition}
use Rattle.mz_pstep.specs.Words.{equals_form, set_form}
use Rattle.mz_pstep.specs.Forms.{named_term_form, goes_on_list, named_terms_form, retypeds_form, goes_on_equality, equality_step_form, consider_form, reconsider_form, set_statement_form, deffunc_form, defpred_form, Closing, closing_form}
use Rattle.mz_pstep.proofs.Ends.{Ends, ends_class, ends_then, before_key, before_key_then, key_off, before_such, before_simple}

-- Examples.
abbrev pub some_such : SuchTree
some_such = record { such = nowhere; that = nowhere; propositions = some_condition }

abbrev pub some_such_is : IsSuch some_such
some_such_is = (((tt, tt), tt), tt)

abbrev some_type : TypeData
some_type = ModeType no_adjectives (word_at nowhere)

abbrev some_named : NamedTermTree
some_named = record { name = word_at nowhere; equals = nowhere; term = term_at nowhere }

abbrev some_named_terms : Separated NamedTermTree
some_named_terms = record { first = some_named; more = [] }

abbrev some_retypeds : Separated RetypedTree
some_retypeds = record { first = retyped_tree.Itself (word_at nowhere); more = [] }

-- What goes on the parts.
type_on : (x : TypeData) (s : Sign) → goes_type x s ≡ true → goes_on_declared s ≡ true
type_on x s g = declared_on (TypedDeclared (word_at nowhere) (record { place = nowhere; long = false }) x) s g

term_before_simple : Apart (term_form false) (λ _. simple_form)
term_before_simple a simple_tree.Nothing s x isa isk e g = cc
term_before_simple a (simple_tree.By p rs) s x isa isk e g = let C : MarkedToken → Type 0 = λ z. goes_on_term (sign_of z) ≡ true in key_off (λ s k. goes_on_term s) keywords.By p refl refl (subst C (sym (head_of _ _ _ _ e)) g)
term_before_simple a (simple_tree.From p r o) s x isa isk e g = let C : MarkedToken → Type 0 = λ z. goes_on_term (sign_of z) ≡ true in key_off (λ s k. goes_on_term s) keywords.From p refl refl (subst C (sym (head_of _ _ _ _ e)) g)

-- named_term
abbrev pub named_3 : Form MarkedToken
named_3 = term_form false

abbrev pub named_2 : Form MarkedToken
named_2 = then equals_form (λ _. named_3)

abbrev pub named_1 : Form MarkedToken
named_1 = then (name signs.Identifier) (λ _. named_2)

pub named_apart_1 : Apart (name signs.Identifier) (λ _. named_2)
named_apart_1 = apart_closed (name signs.Identifier) (λ _. named_2) (λ a t. refl)

pub named_apart_2 : Apart equals_form (λ _. named_3)
named_apart_2 = apart_closed equals_form (λ _. named_3) (λ a t. refl)

abbrev pub make_named : named_1.Tree → NamedTermTree
make_named k = record { name = k.0; equals = k.1.0; term = k.1.1 }

pub only_named : (x : NamedTermTree) → named_term_form.IsTree x → (k : named_1.Tree) × named_1.IsTree k × (x ≡ make_named k)
only_named x is = ((x.name, (x.equals, x.term)), (tt, (tt, is)), refl)

named_goes : (k : named_1.Tree) (t : MarkedToken) → named_1.goes k t ≡ true → goes_on_term (sign_of t) ≡ true
named_goes k t g = or_goes (named_2.goes k.1 t) false (is_empty (named_2.spell k.1)) (goes_on_term (sign_of t)) (λ h. or_goes (goes_on_term (sign_of t)) false (is_empty (spell_term k.1.1)) (goes_on_term (sign_of t)) (λ i. i) (λ i. absurd (never i)) h) (λ h. absurd (never h)) g

pub as_named : (b : List MarkedToken) → Reshapes named_term_form named_1 make_named b
as_named b = record {
  into = λ k is. is.1.1;
  spells = λ k is. refl;
  only = λ x is g. only_named x is;
  goes = λ k t is g. named_goes k t g;
  level = λ k is. refl;
}

begin_named : (room : ℕ) (b : List MarkedToken) → Leads named_term_form named_1 room make_named b b
begin_named room b = leads_as named_term_form named_1 make_named room b (as_named b)

pub named_refused_1 : (room : ℕ) (b after : List MarkedToken) (e : Refusal) → Refuses (name signs.Identifier) room b e after → Refuses named_term_form room b e after
named_refused_1 room b after e h = passes named_term_form named_1 room make_named b b after e (begin_named room b) (first_refuses (name signs.Identifier) (λ _. named_2) named_apart_1 room b after e (λ a is. ((nowhere, (term_at nowhere)), (tt, (tt, tt)))) h)

module _ (room : ℕ) (b : List MarkedToken) where
  module _ (x1 : Word) (c1 : List MarkedToken) (h1 : Found (name signs.Identifier) room b x1 c1) where
    named_at_1 : Leads named_term_form named_2 room (λ k. make_named (x1, k)) b c1
    named_at_1 = leads_on named_term_form named_1 named_2 room make_named (beside (name signs.Identifier) (λ _. named_2) x1) b b c1 (begin_named room b) (leads_behind (name signs.Identifier) (λ _. named_2) named_apart_1 room b c1 x1 h1)

    pub named_refused_2 : (after : List MarkedToken) (e : Refusal) → Refuses equals_form room c1 e after → Refuses named_term_form room b e after
    named_refused_2 after e h = passes named_term_form named_2 room (λ k. make_named (x1, k)) b c1 after e named_at_1 (first_refuses equals_form (λ _. named_3) named_apart_2 room c1 after e (λ a is. ((term_at nowhere), (tt, tt))) h)

    module _ (x2 : Place) (c2 : List MarkedToken) (h2 : Found equals_form room c1 x2 c2) where
      named_at_2 : Leads named_term_form named_3 room (λ k. make_named (x1, (x2, k))) b c2
      named_at_2 = leads_on named_term_form named_2 named_3 room (λ k. make_named (x1, k)) (beside equals_form (λ _. named_3) x2) b c1 c2 named_at_1 (leads_behind equals_form (λ _. named_3) named_apart_2 room c1 c2 x2 h2)

      pub named_refused_3 : (after : List MarkedToken) (e : Refusal) → Refuses (term_form false) room c2 e after → Refuses named_term_form room b e after
      named_refused_3 after e h = passes named_term_form named_3 room (λ k. make_named (x1, (x2, k))) b c2 after e named_at_2 h

      pub named_found : (x3 : TermData) (after : List MarkedToken) → Found (term_form false) room c2 x3 after → Found named_term_form room b (make_named (x1, (x2, x3))) after
      named_found x3 after h = named_at_2.finds x3 after h

-- equality_step
abbrev pub equality_3 : Form MarkedToken
equality_3 = simple_form

abbrev pub equality_2 : Form MarkedToken
equality_2 = then (term_form false) (λ _. equality_3)

abbrev pub equality_1 : Form MarkedToken
equality_1 = then (keyword keywords.Link) (λ _. equality_2)

pub equality_apart_1 : Apart (keyword keywords.Link) (λ _. equality_2)
equality_apart_1 = apart_closed (keyword keywords.Link) (λ _. equality_2) (λ a t. refl)

pub equality_apart_2 : Apart (term_form false) (λ _. equality_3)
equality_apart_2 = term_before_simple

abbrev pub make_equality : equality_1.Tree → EqualityStepTree
make_equality k = record { sign = k.0; term = k.1.0; simple = k.1.1 }

pub only_equality : (x : EqualityStepTree) → equality_step_form.IsTree x → (k : equality_1.Tree) × equality_1.IsTree k × (x ≡ make_equality k)
only_equality x is = ((x.sign, (x.term, x.simple)), (tt, (is.0, is.1)), refl)

equality_goes : (k : equality_1.Tree) (t : MarkedToken) → equality_1.goes k t ≡ true → tokens_of goes_on_equality t ≡ true
equality_goes k t g = or_goes (equality_2.goes k.1 t) false (is_empty (equality_2.spell k.1)) (tokens_of goes_on_equality t)
    (λ h. or_goes (tokens_of goes_on_simple t) (goes_on_term (sign_of t)) (is_empty (spell_simple k.1.1)) (tokens_of goes_on_equality t) (λ i. or_right (goes_on_term (sign_of t)) (tokens_of goes_on_simple t) i) (λ i. or_left (goes_on_term (sign_of t)) (tokens_of goes_on_simple t) i) h) (λ h. absurd (never h)) g

pub as_equality : (b : List MarkedToken) → Reshapes equality_step_form equality_1 make_equality b
as_equality b = record {
  into = λ k is. (is.1.0, is.1.1);
  spells = λ k is. refl;
  only = λ x is g. only_equality x is;
  goes = λ k t is g. equality_goes k t g;
  level = λ k is. refl;
}

begin_equality : (room : ℕ) (b : List MarkedToken) → Leads equality_step_form equality_1 room make_equality b b
begin_equality room b = leads_as equality_step_form equality_1 make_equality room b (as_equality b)

pub equality_refused_1 : (room : ℕ) (b after : List MarkedToken) (e : Refusal) → Refuses (keyword keywords.Link) room b e after → Refuses equality_step_form room b e after
equality_refused_1 room b after e h = passes equality_step_form equality_1 room make_equality b b after e (begin_equality room b) (first_refuses (keyword keywords.Link) (λ _. equality_2) equality_apart_1 room b after e (λ a is. (((term_at nowhere), simple_tree.Nothing), ((tt, tt), tt))) h)

module _ (room : ℕ) (b : List MarkedToken) where
  module _ (x1 : Place) (c1 : List MarkedToken) (h1 : Found (keyword keywords.Link) room b x1 c1) where
    equality_at_1 : Leads equality_step_form equality_2 room (λ k. make_equality (x1, k)) b c1
    equality_at_1 = leads_on equality_step_form equality_1 equality_2 room make_equality (beside (keyword keywords.Link) (λ _. equality_2) x1) b b c1 (begin_equality room b) (leads_behind (keyword keywords.Link) (λ _. equality_2) equality_apart_1 room b c1 x1 h1)

    pub equality_refused_2 : (after : List MarkedToken) (e : Refusal) → Refuses (term_form false) room c1 e after → Refuses equality_step_form room b e after
    equality_refused_2 after e h = passes equality_step_form equality_2 room (λ k. make_equality (x1, k)) b c1 after e equality_at_1 (first_refuses (term_form false) (λ _. equality_3) equality_apart_2 room c1 after e (λ a is. (simple_tree.Nothing, tt)) h)

    module _ (x2 : TermData) (c2 : List MarkedToken) (h2 : Found (term_form false) room c1 x2 c2) where
      equality_at_2 : Leads equality_step_form equality_3 room (λ k. make_equality (x1, (x2, k))) b c2
      equality_at_2 = leads_on equality_step_form equality_2 equality_3 room (λ k. make_equality (x1, k)) (beside (term_form false) (λ _. equality_3) x2) b c1 c2 equality_at_1 (leads_behind (term_form false) (λ _. equality_3) equality_apart_2 room c1 c2 x2 h2)

      pub equality_refused_3 : (after : List MarkedToken) (e : Refusal) → Refuses simple_form room c2 e after → Refuses equality_step_form room b e after
      equality_refused_3 after e h = passes equality_step_form equality_3 room (λ k. make_equality (x1, (x2, k))) b c2 after e equality_at_2 h

      pub equality_found : (x3 : SimpleTree) (after : List MarkedToken) → Found simple_form room c2 x3 after → Found equality_step_form room b (make_equality (x1, (x2, x3))) after
      equality_found x3 after h = equality_at_2.finds x3 after h

-- consider
abbrev pub consider_5 : Form MarkedToken
consider_5 = keyword keywords.Semicolon

abbrev pub consider_4 : Form MarkedToken
consider_4 = then simple_form (λ _. consider_5)

abbrev pub consider_3 : Form MarkedToken
consider_3 = then such_form (λ _. consider_4)

abbrev pub consider_2 : Form MarkedToken
consider_2 = then (declarations_form false) (λ _. consider_3)

abbrev pub consider_1 : Form MarkedToken
consider_1 = then (keyword keywords.Consider) (λ _. consider_2)

pub consider_apart_1 : Apart (keyword keywords.Consider) (λ _. consider_2)
consider_apart_1 = apart_closed (keyword keywords.Consider) (λ _. consider_2) (λ a t. refl)

pub consider_apart_2 : Apart (declarations_form false) (λ _. consider_3)
consider_apart_2 = before_such (declarations_form false) (λ s k. goes_on_declared s) refl (λ a t g. g) (λ _. consider_4)

pub consider_apart_3 : Apart such_form (λ _. consider_4)
consider_apart_3 = before_simple such_form goes_on_propositions refl refl refl (λ a t g. g)

pub consider_apart_4 : Apart simple_form (λ _. consider_5)
consider_apart_4 = before_key simple_form keywords.Semicolon (λ a p g. key_off goes_on_simple keywords.Semicolon p refl refl (g))

abbrev pub make_consider : consider_1.Tree → consider_1.Tree
make_consider k = k

begin_consider : (room : ℕ) (b : List MarkedToken) → Leads consider_form consider_1 room make_consider b b
begin_consider room b = leads_here consider_1 room b

pub consider_refused_1 : (room : ℕ) (b after : List MarkedToken) (e : Refusal) → Refuses (keyword keywords.Consider) room b e after → Refuses consider_form room b e after
consider_refused_1 room b after e h = passes consider_form consider_1 room make_consider b b after e (begin_consider room b) (first_refuses (keyword keywords.Consider) (λ _. consider_2) consider_apart_1 room b after e (λ a is. ((some_declarations, (some_such, (simple_tree.Nothing, nowhere))), ((tt, tt), (some_such_is, (tt, tt))))) h)

module _ (room : ℕ) (b : List MarkedToken) where
  module _ (x1 : Place) (c1 : List MarkedToken) (h1 : Found (keyword keywords.Consider) room b x1 c1) where
    consider_at_1 : Leads consider_form consider_2 room (λ k. make_consider (x1, k)) b c1
    consider_at_1 = leads_on consider_form consider_1 consider_2 room make_consider (beside (keyword keywords.Consider) (λ _. consider_2) x1) b b c1 (begin_consider room b) (leads_behind (keyword keywords.Consider) (λ _. consider_2) consider_apart_1 room b c1 x1 h1)

    pub consider_refused_2 : (after : List MarkedToken) (e : Refusal) → Refuses (declarations_form false) room c1 e after → Refuses consider_form room b e after
    consider_refused_2 after e h = passes consider_form consider_2 room (λ k. make_consider (x1, k)) b c1 after e consider_at_1 (first_refuses (declarations_form false) (λ _. consider_3) consider_apart_2 room c1 after e (λ a is. ((some_such, (simple_tree.Nothing, nowhere)), (some_such_is, (tt, tt)))) h)

    module _ (x2 : DeclarationsData) (c2 : List MarkedToken) (h2 : Found (declarations_form false) room c1 x2 c2) where
      consider_at_2 : Leads consider_form consider_3 room (λ k. make_consider (x1, (x2, k))) b c2
      consider_at_2 = leads_on consider_form consider_2 consider_3 room (λ k. make_consider (x1, k)) (beside (declarations_form false) (λ _. consider_3) x2) b c1 c2 consider_at_1 (leads_behind (declarations_form false) (λ _. consider_3) consider_apart_2 room c1 c2 x2 h2)

      pub consider_refused_3 : (after : List MarkedToken) (e : Refusal) → Refuses such_form room c2 e after → Refuses consider_form room b e after
      consider_refused_3 after e h = passes consider_form consider_3 room (λ k. make_consider (x1, (x2, k))) b c2 after e consider_at_2 (first_refuses such_form (λ _. consider_4) consider_apart_3 room c2 after e (λ a is. ((simple_tree.Nothing, nowhere), (tt, tt))) h)

      module _ (x3 : SuchTree) (c3 : List MarkedToken) (h3 : Found such_form room c2 x3 c3) where
        consider_at_3 : Leads consider_form consider_4 room (λ k. make_consider (x1, (x2, (x3, k)))) b c3
        consider_at_3 = leads_on consider_form consider_3 consider_4 room (λ k. make_consider (x1, (x2, k))) (beside such_form (λ _. consider_4) x3) b c2 c3 consider_at_2 (leads_behind such_form (λ _. consider_4) consider_apart_3 room c2 c3 x3 h3)

        pub consider_refused_4 : (after : List MarkedToken) (e : Refusal) → Refuses simple_form room c3 e after → Refuses consider_form room b e after
        consider_refused_4 after e h = passes consider_form consider_4 room (λ k. make_consider (x1, (x2, (x3, k)))) b c3 after e consider_at_3 (first_refuses simple_form (λ _. consider_5) consider_apart_4 room c3 after e (λ a is. (nowhere, tt)) h)

        module _ (x4 : SimpleTree) (c4 : List MarkedToken) (h4 : Found simple_form room c3 x4 c4) where
          consider_at_4 : Leads consider_form consider_5 room (λ k. make_consider (x1, (x2, (x3, (x4, k))))) b c4
          consider_at_4 = leads_on consider_form consider_4 consider_5 room (λ k. make_consider (x1, (x2, (x3, k)))) (beside simple_form (λ _. consider_5) x4) b c3 c4 consider_at_3 (leads_behind simple_form (λ _. consider_5) consider_apart_4 room c3 c4 x4 h4)

          pub consider_refused_5 : (after : List MarkedToken) (e : Refusal) → Refuses (keyword keywords.Semicolon) room c4 e after → Refuses consider_form room b e after
          consider_refused_5 after e h = passes consider_form consider_5 room (λ k. make_consider (x1, (x2, (x3, (x4, k))))) b c4 after e consider_at_4 h

          pub consider_found : (x5 : Place) (after : List MarkedToken) → Found (keyword keywords.Semicolon) room c4 x5 after → Found consider_form room b (make_consider (x1, (x2, (x3, (x4, x5))))) after
          consider_found x5 after h = consider_at_4.finds x5 after h

-- reconsider
abbrev pub reconsider_6 : Form MarkedToken
reconsider_6 = keyword keywords.Semicolon

abbrev pub reconsider_5 : Form MarkedToken
reconsider_5 = then simple_form (λ _. reconsider_6)

abbrev pub reconsider_4 : Form MarkedToken
reconsider_4 = then (whole_type false) (λ _. reconsider_5)

abbrev pub reconsider_3 : Form MarkedToken
reconsider_3 = then (keyword keywords.As) (λ _. reconsider_4)

abbrev pub reconsider_2 : Form MarkedToken
reconsider_2 = then retypeds_form (λ _. reconsider_3)

abbrev pub reconsider_1 : Form MarkedToken
reconsider_1 = then (keyword keywords.Reconsider) (λ _. reconsider_2)

pub reconsider_apart_1 : Apart (keyword keywords.Reconsider) (λ _. reconsider_2)
reconsider_apart_1 = apart_closed (keyword keywords.Reconsider) (λ _. reconsider_2) (λ a t. refl)

pub reconsider_apart_2 : Apart retypeds_form (λ _. reconsider_3)
reconsider_apart_2 = before_key_then retypeds_form keywords.As (λ _. reconsider_4) (λ a p g. key_off (λ s k. goes_on_list s) keywords.As p refl refl (g))

pub reconsider_apart_3 : Apart (keyword keywords.As) (λ _. reconsider_4)
reconsider_apart_3 = apart_closed (keyword keywords.As) (λ _. reconsider_4) (λ a t. refl)

pub reconsider_apart_4 : Apart (whole_type false) (λ _. reconsider_5)
reconsider_apart_4 = before_simple (whole_type false) (λ s k. goes_on_declared s) refl refl refl (λ a t g. type_on a (sign_of t) g)

pub reconsider_apart_5 : Apart simple_form (λ _. reconsider_6)
reconsider_apart_5 = before_key simple_form keywords.Semicolon (λ a p g. key_off goes_on_simple keywords.Semicolon p refl refl (g))

abbrev pub make_reconsider : reconsider_1.Tree → reconsider_1.Tree
make_reconsider k = k

begin_reconsider : (room : ℕ) (b : List MarkedToken) → Leads reconsider_form reconsider_1 room make_reconsider b b
begin_reconsider room b = leads_here reconsider_1 room b

pub reconsider_refused_1 : (room : ℕ) (b after : List MarkedToken) (e : Refusal) → Refuses (keyword keywords.Reconsider) room b e after → Refuses reconsider_form room b e after
reconsider_refused_1 room b after e h = passes reconsider_form reconsider_1 room make_reconsider b b after e (begin_reconsider room b) (first_refuses (keyword keywords.Reconsider) (λ _. reconsider_2) reconsider_apart_1 room b after e (λ a is. ((some_retypeds, (nowhere, (some_type, (simple_tree.Nothing, nowhere)))), ((tt, tt), (tt, (tt, (tt, tt)))))) h)

module _ (room : ℕ) (b : List MarkedToken) where
  module _ (x1 : Place) (c1 : List MarkedToken) (h1 : Found (keyword keywords.Reconsider) room b x1 c1) where
    reconsider_at_1 : Leads reconsider_form reconsider_2 room (λ k. make_reconsider (x1, k)) b c1
    reconsider_at_1 = leads_on reconsider_form reconsider_1 reconsider_2 room make_reconsider (beside (keyword keywords.Reconsider) (λ _. reconsider_2) x1) b b c1 (begin_reconsider room b) (leads_behind (keyword keywords.Reconsider) (λ _. reconsider_2) reconsider_apart_1 room b c1 x1 h1)

    pub reconsider_refused_2 : (after : List MarkedToken) (e : Refusal) → Refuses retypeds_form room c1 e after → Refuses reconsider_form room b e after
    reconsider_refused_2 after e h = passes reconsider_form reconsider_2 room (λ k. make_reconsider (x1, k)) b c1 after e reconsider_at_1 (first_refuses retypeds_form (λ _. reconsider_3) reconsider_apart_2 room c1 after e (λ a is. ((nowhere, (some_type, (simple_tree.Nothing, nowhere))), (tt, (tt, (tt, tt))))) h)

    module _ (x2 : (Separated RetypedTree)) (c2 : List MarkedToken) (h2 : Found retypeds_form room c1 x2 c2) where
      reconsider_at_2 : Leads reconsider_form reconsider_3 room (λ k. make_reconsider (x1, (x2, k))) b c2
      reconsider_at_2 = leads_on reconsider_form reconsider_2 reconsider_3 room (λ k. make_reconsider (x1, k)) (beside retypeds_form (λ _. reconsider_3) x2) b c1 c2 reconsider_at_1 (leads_behind retypeds_form (λ _. reconsider_3) reconsider_apart_2 room c1 c2 x2 h2)

      pub reconsider_refused_3 : (after : List MarkedToken) (e : Refusal) → Refuses (keyword keywords.As) room c2 e after → Refuses reconsider_form room b e after
      reconsider_refused_3 after e h = passes reconsider_form reconsider_3 room (λ k. make_reconsider (x1, (x2, k))) b c2 after e reconsider_at_2 (first_refuses (keyword keywords.As) (λ _. reconsider_4) reconsider_apart_3 room c2 after e (λ a is. ((some_type, (simple_tree.Nothing, nowhere)), (tt, (tt, tt)))) h)

      module _ (x3 : Place) (c3 : List MarkedToken) (h3 : Found (keyword keywords.As) room c2 x3 c3) where
        reconsider_at_3 : Leads reconsider_form reconsider_4 room (λ k. make_reconsider (x1, (x2, (x3, k)))) b c3
        reconsider_at_3 = leads_on reconsider_form reconsider_3 reconsider_4 room (λ k. make_reconsider (x1, (x2, k))) (beside (keyword keywords.As) (λ _. reconsider_4) x3) b c2 c3 reconsider_at_2 (leads_behind (keyword keywords.As) (λ _. reconsider_4) reconsider_apart_3 room c2 c3 x3 h3)

        pub reconsider_refused_4 : (after : List MarkedToken) (e : Refusal) → Refuses (whole_type false) room c3 e after → Refuses reconsider_form room b e after
        reconsider_refused_4 after e h = passes reconsider_form reconsider_4 room (λ k. make_reconsider (x1, (x2, (x3, k)))) b c3 after e reconsider_at_3 (first_refuses (whole_type false) (λ _. reconsider_5) reconsider_apart_4 room c3 after e (λ a is. ((simple_tree.Nothing, nowhere), (tt, tt))) h)

        module _ (x4 : TypeData) (c4 : List MarkedToken) (h4 : Found (whole_type false) room c3 x4 c4) where
          reconsider_at_4 : Leads reconsider_form reconsider_5 room (λ k. make_reconsider (x1, (x2, (x3, (x4, k))))) b c4
          reconsider_at_4 = leads_on reconsider_form reconsider_4 reconsider_5 room (λ k. make_reconsider (x1, (x2, (x3, k)))) (beside (whole_type false) (λ _. reconsider_5) x4) b c3 c4 reconsider_at_3 (leads_behind (whole_type false) (λ _. reconsider_5) reconsider_apart_4 room c3 c4 x4 h4)

          pub reconsider_refused_5 : (after : List MarkedToken) (e : Refusal) → Refuses simple_form room c4 e after → Refuses reconsider_form room b e after
          reconsider_refused_5 after e h = passes reconsider_form reconsider_5 room (λ k. make_reconsider (x1, (x2, (x3, (x4, k))))) b c4 after e reconsider_at_4 (first_refuses simple_form (λ _. reconsider_6) reconsider_apart_5 room c4 after e (λ a is. (nowhere, tt)) h)

          module _ (x5 : SimpleTree) (c5 : List MarkedToken) (h5 : Found simple_form room c4 x5 c5) where
            reconsider_at_5 : Leads reconsider_form reconsider_6 room (λ k. make_reconsider (x1, (x2, (x3, (x4, (x5, k)))))) b c5
            reconsider_at_5 = leads_on reconsider_form reconsider_5 reconsider_6 room (λ k. make_reconsider (x1, (x2, (x3, (x4, k))))) (beside simple_form (λ _. reconsider_6) x5) b c4 c5 reconsider_at_4 (leads_behind simple_form (λ _. reconsider_6) reconsider_apart_5 room c4 c5 x5 h5)

            pub reconsider_refused_6 : (after : List MarkedToken) (e : Refusal) → Refuses (keyword keywords.Semicolon) room c5 e after → Refuses reconsider_form room b e after
            reconsider_refused_6 after e h = passes reconsider_form reconsider_6 room (λ k. make_reconsider (x1, (x2, (x3, (x4, (x5, k)))))) b c5 after e reconsider_at_5 h

            pub reconsider_found : (x6 : Place) (after : List MarkedToken) → Found (keyword keywords.Semicolon) room c5 x6 after → Found reconsider_form room b (make_reconsider (x1, (x2, (x3, (x4, (x5, x6)))))) after
            reconsider_found x6 after h = reconsider_at_5.finds x6 after h

-- set_statement
abbrev pub set_3 : Form MarkedToken
set_3 = keyword keywords.Semicolon

abbrev pub set_2 : Form MarkedToken
set_2 = then named_terms_form (λ _. set_3)

abbrev pub set_1 : Form MarkedToken
set_1 = then set_form (λ _. set_2)

pub set_apart_1 : Apart set_form (λ _. set_2)
set_apart_1 = apart_closed set_form (λ _. set_2) (λ a t. refl)

pub set_apart_2 : Apart named_terms_form (λ _. set_3)
set_apart_2 = before_key named_terms_form keywords.Semicolon (λ a p g. key_off (λ s k. goes_on_list s) keywords.Semicolon p refl refl (g))

abbrev pub make_set : set_1.Tree → SetTree
make_set k = record { set = k.0; named = k.1.0; semicolon = k.1.1 }

pub only_set : (x : SetTree) → set_statement_form.IsTree x → (k : set_1.Tree) × set_1.IsTree k × (x ≡ make_set k)
only_set x is = ((x.set, (x.named, x.semicolon)), (tt, (is, tt)), refl)

ends_set : Ends set_1
ends_set = ends_then set_form (λ _. set_2) (λ _. ends_then named_terms_form (λ _. set_3) (λ _. ends_class Place (key keywords.Semicolon)))

pub as_set : (b : List MarkedToken) → Reshapes set_statement_form set_1 make_set b
as_set b = record {
  into = λ k is. is.1.0;
  spells = λ k is. refl;
  only = λ x is g. only_set x is;
  goes = λ k t is g. absurd (ends_set.closed k t is g);
  level = λ k is. refl;
}

begin_set : (room : ℕ) (b : List MarkedToken) → Leads set_statement_form set_1 room make_set b b
begin_set room b = leads_as set_statement_form set_1 make_set room b (as_set b)

pub set_refused_1 : (room : ℕ) (b after : List MarkedToken) (e : Refusal) → Refuses set_form room b e after → Refuses set_statement_form room b e after
set_refused_1 room b after e h = passes set_statement_form set_1 room make_set b b after e (begin_set room b) (first_refuses set_form (λ _. set_2) set_apart_1 room b after e (λ a is. ((some_named_terms, nowhere), (((tt, tt), tt), tt))) h)

module _ (room : ℕ) (b : List MarkedToken) where
  module _ (x1 : Place) (c1 : List MarkedToken) (h1 : Found set_form room b x1 c1) where
    set_at_1 : Leads set_statement_form set_2 room (λ k. make_set (x1, k)) b c1
    set_at_1 = leads_on set_statement_form set_1 set_2 room make_set (beside set_form (λ _. set_2) x1) b b c1 (begin_set room b) (leads_behind set_form (λ _. set_2) set_apart_1 room b c1 x1 h1)

    pub set_refused_2 : (after : List MarkedToken) (e : Refusal) → Refuses named_terms_form room c1 e after → Refuses set_statement_form room b e after
    set_refused_2 after e h = passes set_statement_form set_2 room (λ k. make_set (x1, k)) b c1 after e set_at_1 (first_refuses named_terms_form (λ _. set_3) set_apart_2 room c1 after e (λ a is. (nowhere, tt)) h)

    module _ (x2 : (Separated NamedTermTree)) (c2 : List MarkedToken) (h2 : Found named_terms_form room c1 x2 c2) where
      set_at_2 : Leads set_statement_form set_3 room (λ k. make_set (x1, (x2, k))) b c2
      set_at_2 = leads_on set_statement_form set_2 set_3 room (λ k. make_set (x1, k)) (beside named_terms_form (λ _. set_3) x2) b c1 c2 set_at_1 (leads_behind named_terms_form (λ _. set_3) set_apart_2 room c1 c2 x2 h2)

      pub set_refused_3 : (after : List MarkedToken) (e : Refusal) → Refuses (keyword keywords.Semicolon) room c2 e after → Refuses set_statement_form room b e after
      set_refused_3 after e h = passes set_statement_form set_3 room (λ k. make_set (x1, (x2, k))) b c2 after e set_at_2 h

      pub set_found : (x3 : Place) (after : List MarkedToken) → Found (keyword keywords.Semicolon) room c2 x3 after → Found set_statement_form room b (make_set (x1, (x2, x3))) after
      set_found x3 after h = set_at_2.finds x3 after h

-- deffunc
abbrev pub deffunc_7 : Form MarkedToken
deffunc_7 = keyword keywords.Semicolon

abbrev pub deffunc_6 : Form MarkedToken
deffunc_6 = then (term_form false) (λ _. deffunc_7)

abbrev pub deffunc_5 : Form MarkedToken
deffunc_5 = then equals_form (λ _. deffunc_6)

abbrev pub deffunc_4 : Form MarkedToken
deffunc_4 = then (closing_form signs.Close) (λ _. deffunc_5)

abbrev pub deffunc_3 : Form MarkedToken
deffunc_3 = then (nested (word signs.Open)) (λ _. deffunc_4)

abbrev pub deffunc_2 : Form MarkedToken
deffunc_2 = then (name signs.Identifier) (λ _. deffunc_3)

abbrev pub deffunc_1 : Form MarkedToken
deffunc_1 = then (keyword keywords.Deffunc) (λ _. deffunc_2)

pub deffunc_apart_1 : Apart (keyword keywords.Deffunc) (λ _. deffunc_2)
deffunc_apart_1 = apart_closed (keyword keywords.Deffunc) (λ _. deffunc_2) (λ a t. refl)

pub deffunc_apart_2 : Apart (name signs.Identifier) (λ _. deffunc_3)
deffunc_apart_2 = apart_closed (name signs.Identifier) (λ _. deffunc_3) (λ a t. refl)

pub deffunc_apart_3 : Apart (nested (word signs.Open)) (λ _. deffunc_4)
deffunc_apart_3 = apart_closed (nested (word signs.Open)) (λ _. deffunc_4) (λ a t. refl)

pub deffunc_apart_4 : Apart (closing_form signs.Close) (λ _. deffunc_5)
deffunc_apart_4 = apart_closed (closing_form signs.Close) (λ _. deffunc_5) (λ a t. refl)

pub deffunc_apart_5 : Apart equals_form (λ _. deffunc_6)
deffunc_apart_5 = apart_closed equals_form (λ _. deffunc_6) (λ a t. refl)

pub deffunc_apart_6 : Apart (term_form false) (λ _. deffunc_7)
deffunc_apart_6 = before_key (term_form false) keywords.Semicolon (λ a p g. key_off (λ s k. goes_on_term s) keywords.Semicolon p refl refl (g))

abbrev pub make_deffunc : deffunc_1.Tree → DeffuncTree
make_deffunc k = record { deffunc = k.0; name = k.1.0; left = k.1.1.0; types = k.1.1.1.0.0; right = k.1.1.1.0.1; equals = k.1.1.1.1.0; term = k.1.1.1.1.1.0; semicolon = k.1.1.1.1.1.1 }

pub only_deffunc : (x : DeffuncTree) → deffunc_form.IsTree x → (k : deffunc_1.Tree) × deffunc_1.IsTree k × (x ≡ make_deffunc k)
only_deffunc x is = ((x.deffunc, (x.name, (x.left, ((x.types, x.right), (x.equals, (x.term, x.semicolon)))))), (tt, (tt, (tt, (is.0, (tt, (is.1, tt)))))), refl)

ends_deffunc : Ends deffunc_1
ends_deffunc = ends_then (keyword keywords.Deffunc) (λ _. deffunc_2) (λ _. ends_then (name signs.Identifier) (λ _. deffunc_3) (λ _. ends_then (nested (word signs.Open)) (λ _. deffunc_4) (λ _. ends_then (closing_form signs.Close) (λ _. deffunc_5) (λ _. ends_then equals_form (λ _. deffunc_6) (λ _. ends_then (term_form false) (λ _. deffunc_7) (λ _. ends_class Place (key keywords.Semicolon)))))))

deffunc_spells : (k : deffunc_1.Tree) → spell_deffunc (make_deffunc k) ≡ deffunc_1.spell k
deffunc_spells k = ap (λ z. key keywords.Deffunc k.0 ∷ named signs.Identifier k.1.0 ∷ fixed signs.Open k.1.1.0 ∷ z)
    (append_assoc (spelled.maybe (spell_separated spell_type) k.1.1.1.0.0) (fixed signs.Close k.1.1.1.0.1 ∷ equals_sign k.1.1.1.1.0 ∷ spell_term k.1.1.1.1.1.0) (key keywords.Semicolon k.1.1.1.1.1.1 ∷ []) ∙
    sym (append_assoc (spelled.maybe (spell_separated spell_type) k.1.1.1.0.0) (fixed signs.Close k.1.1.1.0.1 ∷ []) (deffunc_5.spell k.1.1.1.1)))

deffunc_levels : (k : deffunc_1.Tree) → levels_deffunc (make_deffunc k) ≡ deffunc_1.levels k
deffunc_levels k = ap (λ z. 0 ∷ 0 ∷ 1 ∷ z)
    (append_assoc (map suc (spelled.maybe (levels_separated levels_type) k.1.1.1.0.0)) (0 ∷ 0 ∷ levels_term k.1.1.1.1.1.0) (0 ∷ []) ∙
    sym (append_assoc (map suc (spelled.maybe (levels_separated levels_type) k.1.1.1.0.0)) (0 ∷ []) (deffunc_5.levels k.1.1.1.1)))

pub as_deffunc : (b : List MarkedToken) → Reshapes deffunc_form deffunc_1 make_deffunc b
as_deffunc b = record {
  into = λ k is. (is.1.1.1.0, is.1.1.1.1.1.0);
  spells = λ k is. deffunc_spells k;
  only = λ x is g. only_deffunc x is;
  goes = λ k t is g. absurd (ends_deffunc.closed k t is g);
  level = λ k is. deffunc_levels k;
}

begin_deffunc : (room : ℕ) (b : List MarkedToken) → Leads deffunc_form deffunc_1 room make_deffunc b b
begin_deffunc room b = leads_as deffunc_form deffunc_1 make_deffunc room b (as_deffunc b)

pub deffunc_refused_1 : (room : ℕ) (b after : List MarkedToken) (e : Refusal) → Refuses (keyword keywords.Deffunc) room b e after → Refuses deffunc_form room b e after
deffunc_refused_1 room b after e h = passes deffunc_form deffunc_1 room make_deffunc b b after e (begin_deffunc room b) (first_refuses (keyword keywords.Deffunc) (λ _. deffunc_2) deffunc_apart_1 room b after e (λ a is. (((word_at nowhere), (nowhere, ((None, nowhere), (nowhere, ((term_at nowhere), nowhere))))), (tt, (tt, (tt, (tt, ((tt, tt), tt))))))) h)

module _ (room : ℕ) (b : List MarkedToken) where
  module _ (x1 : Place) (c1 : List MarkedToken) (h1 : Found (keyword keywords.Deffunc) room b x1 c1) where
    deffunc_at_1 : Leads deffunc_form deffunc_2 room (λ k. make_deffunc (x1, k)) b c1
    deffunc_at_1 = leads_on deffunc_form deffunc_1 deffunc_2 room make_deffunc (beside (keyword keywords.Deffunc) (λ _. deffunc_2) x1) b b c1 (begin_deffunc room b) (leads_behind (keyword keywords.Deffunc) (λ _. deffunc_2) deffunc_apart_1 room b c1 x1 h1)

    pub deffunc_refused_2 : (after : List MarkedToken) (e : Refusal) → Refuses (name signs.Identifier) room c1 e after → Refuses deffunc_form room b e after
    deffunc_refused_2 after e h = passes deffunc_form deffunc_2 room (λ k. make_deffunc (x1, k)) b c1 after e deffunc_at_1 (first_refuses (name signs.Identifier) (λ _. deffunc_3) deffunc_apart_2 room c1 after e (λ a is. ((nowhere, ((None, nowhere), (nowhere, ((term_at nowhere), nowhere)))), (tt, (tt, (tt, ((tt, tt), tt)))))) h)

    module _ (x2 : Word) (c2 : List MarkedToken) (h2 : Found (name signs.Identifier) room c1 x2 c2) where
      deffunc_at_2 : Leads deffunc_form deffunc_3 room (λ k. make_deffunc (x1, (x2, k))) b c2
      deffunc_at_2 = leads_on deffunc_form deffunc_2 deffunc_3 room (λ k. make_deffunc (x1, k)) (beside (name signs.Identifier) (λ _. deffunc_3) x2) b c1 c2 deffunc_at_1 (leads_behind (name signs.Identifier) (λ _. deffunc_3) deffunc_apart_2 room c1 c2 x2 h2)

      pub deffunc_refused_3 : (after : List MarkedToken) (e : Refusal) → Refuses (nested (word signs.Open)) room c2 e after → Refuses deffunc_form room b e after
      deffunc_refused_3 after e h = passes deffunc_form deffunc_3 room (λ k. make_deffunc (x1, (x2, k))) b c2 after e deffunc_at_2 (first_refuses (nested (word signs.Open)) (λ _. deffunc_4) deffunc_apart_3 room c2 after e (λ a is. (((None, nowhere), (nowhere, ((term_at nowhere), nowhere))), (tt, (tt, ((tt, tt), tt))))) h)

      module _ (x3 : Place) (c3 : List MarkedToken) (h3 : Found (nested (word signs.Open)) room c2 x3 c3) where
        deffunc_at_3 : Leads deffunc_form deffunc_4 room (λ k. make_deffunc (x1, (x2, (x3, k)))) b c3
        deffunc_at_3 = leads_on deffunc_form deffunc_3 deffunc_4 room (λ k. make_deffunc (x1, (x2, k))) (beside (nested (word signs.Open)) (λ _. deffunc_4) x3) b c2 c3 deffunc_at_2 (leads_behind (nested (word signs.Open)) (λ _. deffunc_4) deffunc_apart_3 room c2 c3 x3 h3)

        pub deffunc_refused_4 : (after : List MarkedToken) (e : Refusal) → Refuses (closing_form signs.Close) room c3 e after → Refuses deffunc_form room b e after
        deffunc_refused_4 after e h = passes deffunc_form deffunc_4 room (λ k. make_deffunc (x1, (x2, (x3, k)))) b c3 after e deffunc_at_3 (first_refuses (closing_form signs.Close) (λ _. deffunc_5) deffunc_apart_4 room c3 after e (λ a is. ((nowhere, ((term_at nowhere), nowhere)), (tt, ((tt, tt), tt)))) h)

        module _ (x4 : Closing) (c4 : List MarkedToken) (h4 : Found (closing_form signs.Close) room c3 x4 c4) where
          deffunc_at_4 : Leads deffunc_form deffunc_5 room (λ k. make_deffunc (x1, (x2, (x3, (x4, k))))) b c4
          deffunc_at_4 = leads_on deffunc_form deffunc_4 deffunc_5 room (λ k. make_deffunc (x1, (x2, (x3, k)))) (beside (closing_form signs.Close) (λ _. deffunc_5) x4) b c3 c4 deffunc_at_3 (leads_behind (closing_form signs.Close) (λ _. deffunc_5) deffunc_apart_4 room c3 c4 x4 h4)

          pub deffunc_refused_5 : (after : List MarkedToken) (e : Refusal) → Refuses equals_form room c4 e after → Refuses deffunc_form room b e after
          deffunc_refused_5 after e h = passes deffunc_form deffunc_5 room (λ k. make_deffunc (x1, (x2, (x3, (x4, k))))) b c4 after e deffunc_at_4 (first_refuses equals_form (λ _. deffunc_6) deffunc_apart_5 room c4 after e (λ a is. (((term_at nowhere), nowhere), ((tt, tt), tt))) h)

          module _ (x5 : Place) (c5 : List MarkedToken) (h5 : Found equals_form room c4 x5 c5) where
            deffunc_at_5 : Leads deffunc_form deffunc_6 room (λ k. make_deffunc (x1, (x2, (x3, (x4, (x5, k)))))) b c5
            deffunc_at_5 = leads_on deffunc_form deffunc_5 deffunc_6 room (λ k. make_deffunc (x1, (x2, (x3, (x4, k))))) (beside equals_form (λ _. deffunc_6) x5) b c4 c5 deffunc_at_4 (leads_behind equals_form (λ _. deffunc_6) deffunc_apart_5 room c4 c5 x5 h5)

            pub deffunc_refused_6 : (after : List MarkedToken) (e : Refusal) → Refuses (term_form false) room c5 e after → Refuses deffunc_form room b e after
            deffunc_refused_6 after e h = passes deffunc_form deffunc_6 room (λ k. make_deffunc (x1, (x2, (x3, (x4, (x5, k)))))) b c5 after e deffunc_at_5 (first_refuses (term_form false) (λ _. deffunc_7) deffunc_apart_6 room c5 after e (λ a is. (nowhere, tt)) h)

            module _ (x6 : TermData) (c6 : List MarkedToken) (h6 : Found (term_form false) room c5 x6 c6) where
              deffunc_at_6 : Leads deffunc_form deffunc_7 room (λ k. make_deffunc (x1, (x2, (x3, (x4, (x5, (x6, k))))))) b c6
              deffunc_at_6 = leads_on deffunc_form deffunc_6 deffunc_7 room (λ k. make_deffunc (x1, (x2, (x3, (x4, (x5, k)))))) (beside (term_form false) (λ _. deffunc_7) x6) b c5 c6 deffunc_at_5 (leads_behind (term_form false) (λ _. deffunc_7) deffunc_apart_6 room c5 c6 x6 h6)

              pub deffunc_refused_7 : (after : List MarkedToken) (e : Refusal) → Refuses (keyword keywords.Semicolon) room c6 e after → Refuses deffunc_form room b e after
              deffunc_refused_7 after e h = passes deffunc_form deffunc_7 room (λ k. make_deffunc (x1, (x2, (x3, (x4, (x5, (x6, k))))))) b c6 after e deffunc_at_6 h

              pub deffunc_found : (x7 : Place) (after : List MarkedToken) → Found (keyword keywords.Semicolon) room c6 x7 after → Found deffunc_form room b (make_deffunc (x1, (x2, (x3, (x4, (x5, (x6, x7))))))) after
              deffunc_found x7 after h = deffunc_at_6.finds x7 after h

-- defpred
abbrev pub defpred_7 : Form MarkedToken
defpred_7 = keyword keywords.Semicolon

abbrev pub defpred_6 : Form MarkedToken
defpred_6 = then (formula_form false) (λ _. defpred_7)

abbrev pub defpred_5 : Form MarkedToken
defpred_5 = then (keyword keywords.Means) (λ _. defpred_6)

abbrev pub defpred_4 : Form MarkedToken
defpred_4 = then (closing_form signs.CloseSquare) (λ _. defpred_5)

abbrev pub defpred_3 : Form MarkedToken
defpred_3 = then (nested (word signs.OpenSquare)) (λ _. defpred_4)

abbrev pub defpred_2 : Form MarkedToken
defpred_2 = then (name signs.Identifier) (λ _. defpred_3)

abbrev pub defpred_1 : Form MarkedToken
defpred_1 = then (keyword keywords.Defpred) (λ _. defpred_2)

pub defpred_apart_1 : Apart (keyword keywords.Defpred) (λ _. defpred_2)
defpred_apart_1 = apart_closed (keyword keywords.Defpred) (λ _. defpred_2) (λ a t. refl)

pub defpred_apart_2 : Apart (name signs.Identifier) (λ _. defpred_3)
defpred_apart_2 = apart_closed (name signs.Identifier) (λ _. defpred_3) (λ a t. refl)

pub defpred_apart_3 : Apart (nested (word signs.OpenSquare)) (λ _. defpred_4)
defpred_apart_3 = apart_closed (nested (word signs.OpenSquare)) (λ _. defpred_4) (λ a t. refl)

pub defpred_apart_4 : Apart (closing_form signs.CloseSquare) (λ _. defpred_5)
defpred_apart_4 = apart_closed (closing_form signs.CloseSquare) (λ _. defpred_5) (λ a t. refl)

pub defpred_apart_5 : Apart (keyword keywords.Means) (λ _. defpred_6)
defpred_apart_5 = apart_closed (keyword keywords.Means) (λ _. defpred_6) (λ a t. refl)

pub defpred_apart_6 : Apart (formula_form false) (λ _. defpred_7)
defpred_apart_6 = before_key (formula_form false) keywords.Semicolon (λ a p g. key_off (λ s k. goes_open any_operator s) keywords.Semicolon p refl refl (goes_weaker (formula_takes a) any_operator (λ o h. refl) (sign_of (key keywords.Semicolon p)) g))

abbrev pub make_defpred : defpred_1.Tree → DefpredTree
make_defpred k = record { defpred = k.0; name = k.1.0; left = k.1.1.0; types = k.1.1.1.0.0; right = k.1.1.1.0.1; means = k.1.1.1.1.0; formula = k.1.1.1.1.1.0; semicolon = k.1.1.1.1.1.1 }

pub only_defpred : (x : DefpredTree) → defpred_form.IsTree x → (k : defpred_1.Tree) × defpred_1.IsTree k × (x ≡ make_defpred k)
only_defpred x is = ((x.defpred, (x.name, (x.left, ((x.types, x.right), (x.means, (x.formula, x.semicolon)))))), (tt, (tt, (tt, (is.0, (tt, (is.1, tt)))))), refl)

ends_defpred : Ends defpred_1
ends_defpred = ends_then (keyword keywords.Defpred) (λ _. defpred_2) (λ _. ends_then (name signs.Identifier) (λ _. defpred_3) (λ _. ends_then (nested (word signs.OpenSquare)) (λ _. defpred_4) (λ _. ends_then (closing_form signs.CloseSquare) (λ _. defpred_5) (λ _. ends_then (keyword keywords.Means) (λ _. defpred_6) (λ _. ends_then (formula_form false) (λ _. defpred_7) (λ _. ends_class Place (key keywords.Semicolon)))))))

defpred_spells : (k : defpred_1.Tree) → spell_defpred (make_defpred k) ≡ defpred_1.spell k
defpred_spells k = ap (λ z. key keywords.Defpred k.0 ∷ named signs.Identifier k.1.0 ∷ fixed signs.OpenSquare k.1.1.0 ∷ z)
    (append_assoc (spelled.maybe (spell_separated spell_type) k.1.1.1.0.0) (fixed signs.CloseSquare k.1.1.1.0.1 ∷ key keywords.Means k.1.1.1.1.0 ∷ spell_formula k.1.1.1.1.1.0) (key keywords.Semicolon k.1.1.1.1.1.1 ∷ []) ∙
    sym (append_assoc (spelled.maybe (spell_separated spell_type) k.1.1.1.0.0) (fixed signs.CloseSquare k.1.1.1.0.1 ∷ []) (defpred_5.spell k.1.1.1.1)))

defpred_levels : (k : defpred_1.Tree) → levels_defpred (make_defpred k) ≡ defpred_1.levels k
defpred_levels k = ap (λ z. 0 ∷ 0 ∷ 1 ∷ z)
    (append_assoc (map suc (spelled.maybe (levels_separated levels_type) k.1.1.1.0.0)) (0 ∷ 0 ∷ levels_formula k.1.1.1.1.1.0) (0 ∷ []) ∙
    sym (append_assoc (map suc (spelled.maybe (levels_separated levels_type) k.1.1.1.0.0)) (0 ∷ []) (defpred_5.levels k.1.1.1.1)))

pub as_defpred : (b : List MarkedToken) → Reshapes defpred_form defpred_1 make_defpred b
as_defpred b = record {
  into = λ k is. (is.1.1.1.0, is.1.1.1.1.1.0);
  spells = λ k is. defpred_spells k;
  only = λ x is g. only_defpred x is;
  goes = λ k t is g. absurd (ends_defpred.closed k t is g);
  level = λ k is. defpred_levels k;
}

begin_defpred : (room : ℕ) (b : List MarkedToken) → Leads defpred_form defpred_1 room make_defpred b b
begin_defpred room b = leads_as defpred_form defpred_1 make_defpred room b (as_defpred b)

pub defpred_refused_1 : (room : ℕ) (b after : List MarkedToken) (e : Refusal) → Refuses (keyword keywords.Defpred) room b e after → Refuses defpred_form room b e after
defpred_refused_1 room b after e h = passes defpred_form defpred_1 room make_defpred b b after e (begin_defpred room b) (first_refuses (keyword keywords.Defpred) (λ _. defpred_2) defpred_apart_1 room b after e (λ a is. (((word_at nowhere), (nowhere, ((None, nowhere), (nowhere, (some_formula, nowhere))))), (tt, (tt, (tt, (tt, (((tt, tt), tt), tt))))))) h)

module _ (room : ℕ) (b : List MarkedToken) where
  module _ (x1 : Place) (c1 : List MarkedToken) (h1 : Found (keyword keywords.Defpred) room b x1 c1) where
    defpred_at_1 : Leads defpred_form defpred_2 room (λ k. make_defpred (x1, k)) b c1
    defpred_at_1 = leads_on defpred_form defpred_1 defpred_2 room make_defpred (beside (keyword keywords.Defpred) (λ _. defpred_2) x1) b b c1 (begin_defpred room b) (leads_behind (keyword keywords.Defpred) (λ _. defpred_2) defpred_apart_1 room b c1 x1 h1)

    pub defpred_refused_2 : (after : List MarkedToken) (e : Refusal) → Refuses (name signs.Identifier) room c1 e after → Refuses defpred_form room b e after
    defpred_refused_2 after e h = passes defpred_form defpred_2 room (λ k. make_defpred (x1, k)) b c1 after e defpred_at_1 (first_refuses (name signs.Identifier) (λ _. defpred_3) defpred_apart_2 room c1 after e (λ a is. ((nowhere, ((None, nowhere), (nowhere, (some_formula, nowhere)))), (tt, (tt, (tt, (((tt, tt), tt), tt)))))) h)

    module _ (x2 : Word) (c2 : List MarkedToken) (h2 : Found (name signs.Identifier) room c1 x2 c2) where
      defpred_at_2 : Leads defpred_form defpred_3 room (λ k. make_defpred (x1, (x2, k))) b c2
      defpred_at_2 = leads_on defpred_form defpred_2 defpred_3 room (λ k. make_defpred (x1, k)) (beside (name signs.Identifier) (λ _. defpred_3) x2) b c1 c2 defpred_at_1 (leads_behind (name signs.Identifier) (λ _. defpred_3) defpred_apart_2 room c1 c2 x2 h2)

      pub defpred_refused_3 : (after : List MarkedToken) (e : Refusal) → Refuses (nested (word signs.OpenSquare)) room c2 e after → Refuses defpred_form room b e after
      defpred_refused_3 after e h = passes defpred_form defpred_3 room (λ k. make_defpred (x1, (x2, k))) b c2 after e defpred_at_2 (first_refuses (nested (word signs.OpenSquare)) (λ _. defpred_4) defpred_apart_3 room c2 after e (λ a is. (((None, nowhere), (nowhere, (some_formula, nowhere))), (tt, (tt, (((tt, tt), tt), tt))))) h)

      module _ (x3 : Place) (c3 : List MarkedToken) (h3 : Found (nested (word signs.OpenSquare)) room c2 x3 c3) where
        defpred_at_3 : Leads defpred_form defpred_4 room (λ k. make_defpred (x1, (x2, (x3, k)))) b c3
        defpred_at_3 = leads_on defpred_form defpred_3 defpred_4 room (λ k. make_defpred (x1, (x2, k))) (beside (nested (word signs.OpenSquare)) (λ _. defpred_4) x3) b c2 c3 defpred_at_2 (leads_behind (nested (word signs.OpenSquare)) (λ _. defpred_4) defpred_apart_3 room c2 c3 x3 h3)

        pub defpred_refused_4 : (after : List MarkedToken) (e : Refusal) → Refuses (closing_form signs.CloseSquare) room c3 e after → Refuses defpred_form room b e after
        defpred_refused_4 after e h = passes defpred_form defpred_4 room (λ k. make_defpred (x1, (x2, (x3, k)))) b c3 after e defpred_at_3 (first_refuses (closing_form signs.CloseSquare) (λ _. defpred_5) defpred_apart_4 room c3 after e (λ a is. ((nowhere, (some_formula, nowhere)), (tt, (((tt, tt), tt), tt)))) h)

        module _ (x4 : Closing) (c4 : List MarkedToken) (h4 : Found (closing_form signs.CloseSquare) room c3 x4 c4) where
          defpred_at_4 : Leads defpred_form defpred_5 room (λ k. make_defpred (x1, (x2, (x3, (x4, k))))) b c4
          defpred_at_4 = leads_on defpred_form defpred_4 defpred_5 room (λ k. make_defpred (x1, (x2, (x3, k)))) (beside (closing_form signs.CloseSquare) (λ _. defpred_5) x4) b c3 c4 defpred_at_3 (leads_behind (closing_form signs.CloseSquare) (λ _. defpred_5) defpred_apart_4 room c3 c4 x4 h4)

          pub defpred_refused_5 : (after : List MarkedToken) (e : Refusal) → Refuses (keyword keywords.Means) room c4 e after → Refuses defpred_form room b e after
          defpred_refused_5 after e h = passes defpred_form defpred_5 room (λ k. make_defpred (x1, (x2, (x3, (x4, k))))) b c4 after e defpred_at_4 (first_refuses (keyword keywords.Means) (λ _. defpred_6) defpred_apart_5 room c4 after e (λ a is. ((some_formula, nowhere), (((tt, tt), tt), tt))) h)

          module _ (x5 : Place) (c5 : List MarkedToken) (h5 : Found (keyword keywords.Means) room c4 x5 c5) where
            defpred_at_5 : Leads defpred_form defpred_6 room (λ k. make_defpred (x1, (x2, (x3, (x4, (x5, k)))))) b c5
            defpred_at_5 = leads_on defpred_form defpred_5 defpred_6 room (λ k. make_defpred (x1, (x2, (x3, (x4, k))))) (beside (keyword keywords.Means) (λ _. defpred_6) x5) b c4 c5 defpred_at_4 (leads_behind (keyword keywords.Means) (λ _. defpred_6) defpred_apart_5 room c4 c5 x5 h5)

            pub defpred_refused_6 : (after : List MarkedToken) (e : Refusal) → Refuses (formula_form false) room c5 e after → Refuses defpred_form room b e after
            defpred_refused_6 after e h = passes defpred_form defpred_6 room (λ k. make_defpred (x1, (x2, (x3, (x4, (x5, k)))))) b c5 after e defpred_at_5 (first_refuses (formula_form false) (λ _. defpred_7) defpred_apart_6 room c5 after e (λ a is. (nowhere, tt)) h)

            module _ (x6 : FormulaData) (c6 : List MarkedToken) (h6 : Found (formula_form false) room c5 x6 c6) where
              defpred_at_6 : Leads defpred_form defpred_7 room (λ k. make_defpred (x1, (x2, (x3, (x4, (x5, (x6, k))))))) b c6
              defpred_at_6 = leads_on defpred_form defpred_6 defpred_7 room (λ k. make_defpred (x1, (x2, (x3, (x4, (x5, k)))))) (beside (formula_form false) (λ _. defpred_7) x6) b c5 c6 defpred_at_5 (leads_behind (formula_form false) (λ _. defpred_7) defpred_apart_6 room c5 c6 x6 h6)

              pub defpred_refused_7 : (after : List MarkedToken) (e : Refusal) → Refuses (keyword keywords.Semicolon) room c6 e after → Refuses defpred_form room b e after
              defpred_refused_7 after e h = passes defpred_form defpred_7 room (λ k. make_defpred (x1, (x2, (x3, (x4, (x5, (x6, k))))))) b c6 after e defpred_at_6 h

              pub defpred_found : (x7 : Place) (after : List MarkedToken) → Found (keyword keywords.Semicolon) room c6 x7 after → Found defpred_form room b (make_defpred (x1, (x2, (x3, (x4, (x5, (x6, x7))))))) after
              defpred_found x7 after h = defpred_at_6.finds x7 after h
