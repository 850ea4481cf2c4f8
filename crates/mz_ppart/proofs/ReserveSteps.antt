-- The readings of segments and of parameters of schemes.
use Rattle.std.proofs.Common.{◌≡◌, ℕ, suc, Bool, true, false, ◌||◌, ◌&&◌, List, [], ◌∷◌, ◌++◌, map, length, refl, sym, ap, ◌∙◌, append_assoc, None}
use Rattle.mz_base.specs.declared.place.Place.{Place}
use Rattle.mz_base.specs.declared.token.MarkedToken.{MarkedToken}
use Rattle.mz_forms.specs.declared.refusal.Refusal.{Refusal}
use Rattle.mz_forms.specs.Form.{Form, Agrees, Found, Leads, is_empty, then, nested}
use Rattle.mz_forms.specs.Reading.{Refuses}
use Rattle.mz_forms.proofs.Chain.{Linked}
use Rattle.mz_forms.proofs.Choose.{Reshapes}
use Rattle.mz_forms.proofs.Compose.{Apart}
use Rattle.mz_forms.proofs.Leads.{leads_as, leads_behind, leads_on, beside, apart_closed, passes, first_refuses}
use Rattle.mz_tree.specs.declared.lists.Separated.{Separated}
use Rattle.mz_tree.specs.declared.word.Comma.{Comma}
use Rattle.mz_tree.specs.Spelled.{comma_token}
use Rattle.mz_tree.specs.Spelled as spelled
use Rattle.mz_tree.specs.Trees.{TypeData, ModeType, TypedDeclared, no_adjectives}
use Rattle.mz_tree.specs.Spell.{spell_type}
use Rattle.mz_tree.specs.Levels.{levels_type}
use Rattle.mz_tree.specs.Rules.{DividesAfter}
use Rattle.mz_tree.specs.Lists.{spell_separated, levels_separated}
use Rattle.mz_tree_heading.specs.declared.patterns.IdentifierTree.{IdentifierTree}
use Rattle.mz_tree_part.specs.declared.parameter.ParameterTree.{ParameterTree}
use Rattle.mz_tree_part.specs.declared.parameter.ParameterTree.TheVariants as parameter_tree
use Rattle.mz_tree_part.specs.Rules.{segment_ends_in_terms, parameter_ends_in_terms}
use Rattle.mz_patom.specs.Classes.{is_open_square}
use Rattle.mz_pterm.specs.declared.sign.Sign.{Sign}
use Rattle.mz_pterm.specs.declared.sign.Sign.TheVariants as signs
use Rattle.mz_pterm.specs.Sign.{sign_of}
use Rattle.mz_pterm.specs.Words.{fixed, word}
use Rattle.mz_pterm.proofs.Bases.{word_at}
use Rattle.mz_pterm.proofs.Signs.{sign_of-fixed}
use Rattle.mz_ptype.specs.Forms.{whole_type, goes_type, goes_on_declared}
use Rattle.mz_ptype.proofs.DeclarationSteps.{comma_told, declared_on, linked_declared}
use Rattle.mz_ptype.proofs.Optional.{never}
use Rattle.mz_pjustification.proofs.Taken.{nowhere, or_goes}
use Rattle.mz_pstep.specs.Forms.{links, Closing, closing_form}
use Rattle.mz_ppattern.specs.Words.{arrow_form, arrow_token}
use Rattle.mz_ppattern.specs.Optional.{next_has}
use Rattle.mz_ppattern.specs.Classes.{goes_on_names}
use Rattle.mz_ppattern.specs.Forms.{identifiers_form}
use Rattle.mz_ppattern.proofs.NameSteps.{any_names}
use Rattle.mz_ppattern.proofs.LociSteps.{has_not, has_so}
use Rattle.mz_ppattern.proofs.Sets.{Off, head_off, apart_off}
use Rattle.mz_ppart.specs.Classes.{opens_square}
use Rattle.mz_ppart.specs.Forms.{segment_form, parameter_form, goes_parameter}

-- Commas stand between segments and between parameters as they do between declarations with these types.
pub linked_segments : Linked (links segment_form segment_ends_in_terms goes_on_declared)
linked_segments = record {
  told = λ a b e. comma_told a b e;
  weaker = λ x t is g. declared_on (TypedDeclared (word_at nowhere) (record { place = nowhere; long = false }) x.ty) (sign_of t) g;
  on = λ c. (linked_declared false).on c;
  apart = λ x c is may g. (linked_declared false).apart (TypedDeclared (word_at nowhere) (record { place = nowhere; long = false }) x.ty) c is may g;
}

parameter_on : (x : ParameterTree) (s : Sign) → goes_parameter x s ≡ true → goes_on_declared s ≡ true
parameter_on (parameter_tree.Functor a p ts q r t) s g = declared_on (TypedDeclared (word_at nowhere) (record { place = nowhere; long = false }) t) s g
parameter_on (parameter_tree.Predicate a p ts q) s g = absurd (never g)

pub linked_parameters : Linked (links parameter_form parameter_ends_in_terms goes_on_declared)
linked_parameters = record {
  told = λ a b e. comma_told a b e;
  weaker = λ x t is g. parameter_on x (sign_of t) g;
  on = λ c. (linked_declared false).on c;
  apart = λ x c is may g. apart x c is may g;
}
  where
    apart : (x : ParameterTree) (c : Comma) → parameter_form.IsTree x → DividesAfter (parameter_ends_in_terms x) c → parameter_form.goes x (comma_token c) ≡ true → ⊥
    apart (parameter_tree.Functor a p ts q r t) c is may g = (linked_declared false).apart (TypedDeclared (word_at nowhere) (record { place = nowhere; long = false }) t) c is.1 may g
    apart (parameter_tree.Predicate a p ts q) c is may g = never g

-- what goes on a form behind a token is what goes on the form
or_next : (p q r : Bool) → r ≡ false → (p || (r && q)) ≡ true → p ≡ true
or_next true q r h g = refl
or_next false q true h g = cc
or_next false q false h g = cc

-- Behind the identifiers of a parameter: of a predicate by `[`, of a functor by `(`.
pub data Kind : Type 0 where
  of_predicate : Place → Closing → Kind
  of_functor : Place → (Closing × (Place × TypeData)) → Kind

abbrev pub predicate_kind : Form MarkedToken
predicate_kind = then (nested (word signs.OpenSquare)) (λ _. closing_form signs.CloseSquare)

abbrev pub functor_kind_2 : Form MarkedToken
functor_kind_2 = then (closing_form signs.Close) (λ _. then arrow_form (λ _. whole_type false))

abbrev pub functor_kind : Form MarkedToken
functor_kind = then (nested (word signs.Open)) (λ _. functor_kind_2)

abbrev pub spell_kind : Kind → List MarkedToken
spell_kind (of_predicate p k) = predicate_kind.spell (p, k)
spell_kind (of_functor p k) = functor_kind.spell (p, k)

abbrev pub levels_kind : Kind → List ℕ
levels_kind (of_predicate p k) = predicate_kind.levels (p, k)
levels_kind (of_functor p k) = functor_kind.levels (p, k)

pub each_kind : (x : Kind) → length (levels_kind x) ≡ length (spell_kind x)
each_kind (of_predicate p k) = predicate_kind.each (p, k)
each_kind (of_functor p k) = functor_kind.each (p, k)

abbrev pub IsKind : Kind → Type 0
IsKind (of_predicate p k) = predicate_kind.IsTree (p, k)
IsKind (of_functor p k) = functor_kind.IsTree (p, k)

abbrev pub goes_kind : Kind → Sign → Bool
goes_kind (of_predicate p k) s = false
goes_kind (of_functor p k) s = goes_type k.1.1 s

abbrev pub kind_form : Form MarkedToken
kind_form = record { Tree = Kind; spell = spell_kind; levels = levels_kind; each = each_kind; IsTree = IsKind; goes = λ x t. goes_kind x (sign_of t) }

abbrev pub parts_of_parameter : Form MarkedToken
parts_of_parameter = then identifiers_form (λ _. kind_form)

abbrev pub parameter_from : Separated IdentifierTree → Kind → ParameterTree
parameter_from s (of_predicate p k) = parameter_tree.Predicate s p k.0 k.1
parameter_from s (of_functor p k) = parameter_tree.Functor s p k.0.0 k.0.1 k.1.0 k.1.1

abbrev pub make_parameter : parts_of_parameter.Tree → ParameterTree
make_parameter k = parameter_from k.0 k.1

never_goes : (p q r : Bool) → (p ≡ true → ⊥) → (q ≡ true → ⊥) → (p || (r && q)) ≡ true → ⊥
never_goes true q r h k g = h refl
never_goes false true true h k g = k refl
never_goes false true false h k g = cc
never_goes false false true h k g = cc
never_goes false false false h k g = cc

predicate_closed : (k : predicate_kind.Tree) (t : MarkedToken) → predicate_kind.goes k t ≡ true → ⊥
predicate_closed k t g = never_goes ((closing_form signs.CloseSquare).goes k.1 t) false (is_empty ((closing_form signs.CloseSquare).spell k.1)) (λ h. never h) (λ h. never h) g

functor_goes : (k : functor_kind.Tree) (t : MarkedToken) → functor_kind.goes k t ≡ true → goes_type k.1.1.1 (sign_of t) ≡ true
functor_goes k t g = or_goes (functor_kind_2.goes k.1 t) false (is_empty (functor_kind_2.spell k.1)) (goes_type k.1.1.1 (sign_of t))
    (λ h. or_goes ((then arrow_form (λ _. whole_type false)).goes k.1.1 t) ((closing_form signs.Close).goes k.1.0 t) (is_empty ((then arrow_form (λ _. whole_type false)).spell k.1.1)) (goes_type k.1.1.1 (sign_of t))
    (λ i. or_goes ((whole_type false).goes k.1.1.1 t) false (is_empty ((whole_type false).spell k.1.1.1)) (goes_type k.1.1.1 (sign_of t)) (λ j. j) (λ j. absurd (never j)) i) (λ i. absurd (never i)) h) (λ h. absurd (never h)) g

pub square_in : (p : Place) → opens_square (fixed signs.OpenSquare p) ≡ true
square_in p = ap is_open_square (sign_of-fixed signs.OpenSquare p refl)

pub round_out : (p : Place) → opens_square (fixed signs.Open p) ≡ false
round_out p = ap is_open_square (sign_of-fixed signs.Open p refl)

abbrev pub put_predicate : predicate_kind.Tree → Kind
put_predicate k = of_predicate k.0 k.1

abbrev pub put_functor : functor_kind.Tree → Kind
put_functor k = of_functor k.0 k.1

pub as_predicate : (b : List MarkedToken) → next_has opens_square b ≡ true → Reshapes kind_form predicate_kind put_predicate b
as_predicate b h = record {
  into = λ k is. is;
  spells = λ k is. refl;
  only = λ x is g. only x is g;
  goes = λ k t is g. absurd (predicate_closed k t g);
  level = λ k is. refl;
}
  where
    only : (x : Kind) → IsKind x → Agrees b (spell_kind x) → (k : predicate_kind.Tree) × predicate_kind.IsTree k × (x ≡ put_predicate k)
    only (of_predicate p k) is g = ((p, k), is, refl)
    only (of_functor p k) is g = absurd (has_not opens_square b (fixed signs.Open p) _ h (round_out p) g)

pub as_functor : (b : List MarkedToken) → next_has opens_square b ≡ false → Reshapes kind_form functor_kind put_functor b
as_functor b h = record {
  into = λ k is. is;
  spells = λ k is. refl;
  only = λ x is g. only x is g;
  goes = λ k t is g. functor_goes k t g;
  level = λ k is. refl;
}
  where
    only : (x : Kind) → IsKind x → Agrees b (spell_kind x) → (k : functor_kind.Tree) × functor_kind.IsTree k × (x ≡ put_functor k)
    only (of_predicate p k) is g = absurd (has_so opens_square b (fixed signs.OpenSquare p) _ h (square_in p) g)
    only (of_functor p k) is g = ((p, k), is, refl)

-- The identifiers, and what stands behind them.
abbrev some_type : TypeData
some_type = ModeType no_adjectives (word_at nowhere)

abbrev some_kind : Kind
some_kind = of_predicate nowhere (None, nowhere)

abbrev on_names : MarkedToken → Bool
on_names t = goes_on_names (sign_of t)

kind_off : Off on_names kind_form
kind_off (of_predicate p k) s m is e g = head_off on_names (fixed signs.OpenSquare p) s _ m e (λ h. never (sym (ap goes_on_names (sign_of-fixed signs.OpenSquare p refl)) ∙ h)) g
kind_off (of_functor p k) s m is e g = head_off on_names (fixed signs.Open p) s _ m e (λ h. never (sym (ap goes_on_names (sign_of-fixed signs.Open p refl)) ∙ h)) g

pub kind_apart : Apart identifiers_form (λ _. kind_form)
kind_apart = apart_off identifiers_form kind_form on_names (λ a t is g. g) kind_off

parameter_into : (s : Separated IdentifierTree) (x : Kind) → IsKind x → parameter_form.IsTree (parameter_from s x)
parameter_into s (of_predicate p k) is = is.1
parameter_into s (of_functor p k) is = (is.1.0, is.1.1.1)

parameter_spells : (s : Separated IdentifierTree) (x : Kind) → parameter_form.spell (parameter_from s x) ≡ parts_of_parameter.spell (s, x)
parameter_spells s (of_predicate p k) = append_assoc (identifiers_form.spell s) (fixed signs.OpenSquare p ∷ spelled.maybe (spell_separated spell_type) k.0) (fixed signs.CloseSquare k.1 ∷ [])
parameter_spells s (of_functor p k) = append_assoc (identifiers_form.spell s) (fixed signs.Open p ∷ spelled.maybe (spell_separated spell_type) k.0.0) (fixed signs.Close k.0.1 ∷ arrow_token k.1.0 ∷ spell_type k.1.1)
    ∙ ap (λ z. identifiers_form.spell s ++ fixed signs.Open p ∷ z) (sym (append_assoc (spelled.maybe (spell_separated spell_type) k.0.0) (fixed signs.Close k.0.1 ∷ []) (arrow_token k.1.0 ∷ spell_type k.1.1)))

parameter_levels : (s : Separated IdentifierTree) (x : Kind) → parameter_form.levels (parameter_from s x) ≡ parts_of_parameter.levels (s, x)
parameter_levels s (of_predicate p k) = append_assoc (identifiers_form.levels s) (1 ∷ map suc (spelled.maybe (levels_separated levels_type) k.0)) (0 ∷ [])
parameter_levels s (of_functor p k) = append_assoc (identifiers_form.levels s) (1 ∷ map suc (spelled.maybe (levels_separated levels_type) k.0.0)) (0 ∷ 0 ∷ levels_type k.1.1)
    ∙ ap (λ z. identifiers_form.levels s ++ 1 ∷ z) (sym (append_assoc (map suc (spelled.maybe (levels_separated levels_type) k.0.0)) (0 ∷ []) (0 ∷ levels_type k.1.1)))

pub only_parameter : (x : ParameterTree) → parameter_form.IsTree x → (k : parts_of_parameter.Tree) × parts_of_parameter.IsTree k × (x ≡ make_parameter k)
only_parameter (parameter_tree.Functor s p ts q r t) is = ((s, of_functor p ((ts, q), (r, t))), (any_names s, (tt, (is.0, (tt, is.1)))), refl)
only_parameter (parameter_tree.Predicate s p ts q) is = ((s, of_predicate p (ts, q)), (any_names s, (tt, is)), refl)

kind_goes : (s : Separated IdentifierTree) (x : Kind) (t : MarkedToken) → parts_of_parameter.goes (s, x) t ≡ true → parameter_form.goes (parameter_from s x) t ≡ true
kind_goes s (of_predicate p k) t g = absurd (never (or_next false (goes_on_names (sign_of t)) false refl g))
kind_goes s (of_functor p k) t g = or_next (goes_type k.1.1 (sign_of t)) (goes_on_names (sign_of t)) false refl g

pub as_parameter : (b : List MarkedToken) → Reshapes parameter_form parts_of_parameter make_parameter b
as_parameter b = record {
  into = λ k is. parameter_into k.0 k.1 is.1;
  spells = λ k is. parameter_spells k.0 k.1;
  only = λ x is g. only_parameter x is;
  goes = λ k t is g. kind_goes k.0 k.1 t g;
  level = λ k is. parameter_levels k.0 k.1;
}

begin_parameter : (room : ℕ) (b : List MarkedToken) → Leads parameter_form parts_of_parameter room make_parameter b b
begin_parameter room b = leads_as parameter_form parts_of_parameter make_parameter room b (as_parameter b)

pub parameter_unread : (room : ℕ) (b after : List MarkedToken) (e : Refusal) → Refuses identifiers_form room b e after → Refuses parameter_form room b e after
parameter_unread room b after e h = passes parameter_form parts_of_parameter room make_parameter b b after e (begin_parameter room b) (first_refuses identifiers_form (λ _. kind_form) kind_apart room b after e (λ a is. (some_kind, (tt, tt))) h)

module _ (room : ℕ) (b : List MarkedToken) (s : Separated IdentifierTree) (c : List MarkedToken) (found : Found identifiers_form room b s c) where
  behind_names : Leads parameter_form kind_form room (parameter_from s) b c
  behind_names = leads_on parameter_form parts_of_parameter kind_form room make_parameter (beside identifiers_form (λ _. kind_form) s) b b c (begin_parameter room b) (leads_behind identifiers_form (λ _. kind_form) kind_apart room b c s found)

  module _ (h : next_has opens_square c ≡ true) where
    of_square : Leads parameter_form predicate_kind room (λ k. parameter_from s (put_predicate k)) b c
    of_square = leads_on parameter_form kind_form predicate_kind room (parameter_from s) put_predicate b c c behind_names (leads_as kind_form predicate_kind put_predicate room c (as_predicate c h))

    square_apart : Apart (nested (word signs.OpenSquare)) (λ _. closing_form signs.CloseSquare)
    square_apart = apart_closed (nested (word signs.OpenSquare)) (λ _. closing_form signs.CloseSquare) (λ a t. refl)

    pub square_refused : (after : List MarkedToken) (e : Refusal) → Refuses (nested (word signs.OpenSquare)) room c e after → Refuses parameter_form room b e after
    square_refused after e r = passes parameter_form predicate_kind room (λ k. parameter_from s (put_predicate k)) b c after e of_square (first_refuses (nested (word signs.OpenSquare)) (λ _. closing_form signs.CloseSquare) square_apart room c after e (λ a is. ((None, nowhere), tt)) r)

    module _ (p : Place) (d : List MarkedToken) (opened : Found (nested (word signs.OpenSquare)) room c p d) where
      in_square : Leads parameter_form (closing_form signs.CloseSquare) room (λ k. parameter_from s (of_predicate p k)) b d
      in_square = leads_on parameter_form predicate_kind (closing_form signs.CloseSquare) room (λ k. parameter_from s (put_predicate k)) (beside (nested (word signs.OpenSquare)) (λ _. closing_form signs.CloseSquare) p) b c d of_square (leads_behind (nested (word signs.OpenSquare)) (λ _. closing_form signs.CloseSquare) square_apart room c d p opened)

      pub square_types_refused : (after : List MarkedToken) (e : Refusal) → Refuses (closing_form signs.CloseSquare) room d e after → Refuses parameter_form room b e after
      square_types_refused after e r = passes parameter_form (closing_form signs.CloseSquare) room (λ k. parameter_from s (of_predicate p k)) b d after e in_square r

      pub square_found : (k : Closing) (after : List MarkedToken) → Found (closing_form signs.CloseSquare) room d k after → Found parameter_form room b (parameter_tree.Predicate s p k.0 k.1) after
      square_found k after f = in_square.finds k after f

  module _ (h : next_has opens_square c ≡ false) where
    of_round : Leads parameter_form functor_kind room (λ k. parameter_from s (put_functor k)) b c
    of_round = leads_on parameter_form kind_form functor_kind room (parameter_from s) put_functor b c c behind_names (leads_as kind_form functor_kind put_functor room c (as_functor c h))

    round_apart : Apart (nested (word signs.Open)) (λ _. functor_kind_2)
    round_apart = apart_closed (nested (word signs.Open)) (λ _. functor_kind_2) (λ a t. refl)

    close_apart : Apart (closing_form signs.Close) (λ _. then arrow_form (λ _. whole_type false))
    close_apart = apart_closed (closing_form signs.Close) (λ _. then arrow_form (λ _. whole_type false)) (λ a t. refl)

    arrow_apart : Apart arrow_form (λ _. whole_type false)
    arrow_apart = apart_closed arrow_form (λ _. whole_type false) (λ a t. refl)

    pub round_refused : (after : List MarkedToken) (e : Refusal) → Refuses (nested (word signs.Open)) room c e after → Refuses parameter_form room b e after
    round_refused after e r = passes parameter_form functor_kind room (λ k. parameter_from s (put_functor k)) b c after e of_round (first_refuses (nested (word signs.Open)) (λ _. functor_kind_2) round_apart room c after e (λ a is. (((None, nowhere), (nowhere, some_type)), (tt, (tt, tt)))) r)

    module _ (p : Place) (d : List MarkedToken) (opened : Found (nested (word signs.Open)) room c p d) where
      in_round : Leads parameter_form functor_kind_2 room (λ k. parameter_from s (of_functor p k)) b d
      in_round = leads_on parameter_form functor_kind functor_kind_2 room (λ k. parameter_from s (put_functor k)) (beside (nested (word signs.Open)) (λ _. functor_kind_2) p) b c d of_round (leads_behind (nested (word signs.Open)) (λ _. functor_kind_2) round_apart room c d p opened)

      pub round_types_refused : (after : List MarkedToken) (e : Refusal) → Refuses (closing_form signs.Close) room d e after → Refuses parameter_form room b e after
      round_types_refused after e r = passes parameter_form functor_kind_2 room (λ k. parameter_from s (of_functor p k)) b d after e in_round (first_refuses (closing_form signs.Close) (λ _. then arrow_form (λ _. whole_type false)) close_apart room d after e (λ a is. ((nowhere, some_type), (tt, tt))) r)

      module _ (k : Closing) (f : List MarkedToken) (closed : Found (closing_form signs.Close) room d k f) where
        behind_types : Leads parameter_form (then arrow_form (λ _. whole_type false)) room (λ z. parameter_from s (of_functor p (k, z))) b f
        behind_types = leads_on parameter_form functor_kind_2 (then arrow_form (λ _. whole_type false)) room (λ z. parameter_from s (of_functor p z)) (beside (closing_form signs.Close) (λ _. then arrow_form (λ _. whole_type false)) k) b d f in_round (leads_behind (closing_form signs.Close) (λ _. then arrow_form (λ _. whole_type false)) close_apart room d f k closed)

        pub arrow_refused : (after : List MarkedToken) (e : Refusal) → Refuses arrow_form room f e after → Refuses parameter_form room b e after
        arrow_refused after e r = passes parameter_form (then arrow_form (λ _. whole_type false)) room (λ z. parameter_from s (of_functor p (k, z))) b f after e behind_types (first_refuses arrow_form (λ _. whole_type false) arrow_apart room f after e (λ a is. (some_type, tt)) r)

        module _ (q : Place) (g : List MarkedToken) (arrow : Found arrow_form room f q g) where
          behind_arrow : Leads parameter_form (whole_type false) room (λ z. parameter_from s (of_functor p (k, (q, z)))) b g
          behind_arrow = leads_on parameter_form (then arrow_form (λ _. whole_type false)) (whole_type false) room (λ z. parameter_from s (of_functor p (k, z))) (beside arrow_form (λ _. whole_type false) q) b f g behind_types (leads_behind arrow_form (λ _. whole_type false) arrow_apart room f g q arrow)

          pub round_type_refused : (after : List MarkedToken) (e : Refusal) → Refuses (whole_type false) room g e after → Refuses parameter_form room b e after
          round_type_refused after e r = passes parameter_form (whole_type false) room (λ z. parameter_from s (of_functor p (k, (q, z)))) b g after e behind_arrow r

          pub round_found : (t : TypeData) (after : List MarkedToken) → Found (whole_type false) room g t after → Found parameter_form room b (parameter_tree.Functor s p k.0 k.1 q t) after
          round_found t after f = behind_arrow.finds t after f
