-- Types in headings, and what stands behind patterns.
use Rattle.std.proofs.Common.{◌≡◌, Bool, true, false, ◌||◌, List, [], ◌∷◌, ◌++◌, refl, sym, ap, ◌∙◌, Option, Some, None, is_some}
use Rattle.mz_base.specs.declared.place.Place.{Place}
use Rattle.mz_base.specs.declared.token.MarkedToken.{MarkedToken}
use Rattle.mz_forms.specs.Form.{Form, then}
use Rattle.mz_forms.proofs.Compose.{Apart, head_of}
use Rattle.mz_forms.proofs.Lists.{Begun}
use Rattle.mz_forms.proofs.Maybe.{Starts}
use Rattle.mz_forms.proofs.Words.{apart_class}
use Rattle.mz_tree.specs.Trees.{TypeData, TypedDeclared, ModeType, no_adjectives}
use Rattle.mz_tree.specs.Spell.{spell_type}
use Rattle.mz_tree_heading.specs.declared.heading.ResultTree.{ResultTree}
use Rattle.mz_tree_heading.specs.declared.meaning.CasesTree.TheVariants as cases_tree
use Rattle.mz_tree_heading.specs.declared.meaning.MeaningTree.{MeaningTree}
use Rattle.mz_tree_heading.specs.declared.meaning.MeaningTree.TheVariants as meaning_tree
use Rattle.mz_tree.specs.Rules.{IfAny}
use Rattle.mz_tree_heading.specs.Rules.{IsMeans}
use Rattle.mz_pterm.specs.declared.sign.Sign.{Sign}
use Rattle.mz_pterm.specs.declared.sign.Sign.TheVariants as signs
use Rattle.mz_pterm.specs.Sign.{sign_of}
use Rattle.mz_pterm.proofs.Bases.{word_at}
use Rattle.mz_ptype.specs.Forms.{whole_type, goes_type, goes_on_declared}
use Rattle.mz_ptype.proofs.DeclarationSteps.{declared_on}
use Rattle.mz_ptype.proofs.Optional.{never}
use Rattle.mz_pformula.proofs.Quantifiers.{some_formula}
use Rattle.mz_pjustification.specs.declared.keyword.Keyword.TheVariants as keywords
use Rattle.mz_pjustification.specs.Words.{key, keyword}
use Rattle.mz_pjustification.proofs.Keywords.{sign_of-key}
use Rattle.mz_pjustification.proofs.Taken.{nowhere}
use Rattle.mz_pstep.proofs.Ends.{before_key}
use Rattle.mz_ppattern.specs.Words.{is_arrow}
use Rattle.mz_ppattern.proofs.WordSteps.{arrow_own, arrow_signed, arrow_told}
use Rattle.mz_pmeaning.specs.MeaningForms.{means_form}
use Rattle.mz_pmeaning.proofs.Bodies.{IsMeant}
use Rattle.mz_pmeaning.proofs.MeaningSteps.{means_is_meant, optional_means_is_meant}
use Rattle.mz_pmeaning.proofs.Steps.{Unsigned, unsigned_optional}
use Rattle.mz_pheading.specs.ModeForms.{defines, definition_rest, mode_meaning, optional_result, result_form, stated, IsModeMeaning, IsModeRest, ModeRest}

-- Examples.
abbrev pub some_meaning : MeaningTree
some_meaning = meaning_tree.Means nowhere None (cases_tree.Plain some_formula)

abbrev pub some_rest : ModeRest
some_rest = defines None some_meaning nowhere

pub some_rest_is : IsModeRest some_rest
some_rest_is = (tt, (((tt, tt), tt), tt))

-- Types.
abbrev result_type : TypeData
result_type = ModeType no_adjectives (word_at nowhere)

pub type_on : (x : TypeData) (s : Sign) → goes_type x s ≡ true → goes_on_declared s ≡ true
type_on x s g = declared_on (TypedDeclared (word_at nowhere) (record { place = nowhere; long = false }) x) s g

pub type_apart : Apart (whole_type false) (λ _. keyword keywords.Semicolon)
type_apart = before_key (whole_type false) keywords.Semicolon (λ x p g. never (sym (ap goes_on_declared (sign_of-key keywords.Semicolon p refl)) ∙ type_on x (sign_of (key keywords.Semicolon p)) g))

pub starts_result : Starts result_form is_arrow
starts_result = record {
  filled = λ x is e. cc;
  first = λ x t m is e. ap is_arrow (sym (head_of _ _ _ _ e)) ∙ arrow_own x.arrow;
}

pub begun_result : (t : MarkedToken) → is_arrow t ≡ true → Begun result_form t
begun_result t h = (record { arrow = t.token.place; ty = result_type }, spell_type result_type, tt, ap (λ z. z ∷ spell_type result_type) (sym (arrow_told t h)))

-- What a definition says, and the semicolon behind it.
module _ (M : Form MarkedToken) (meant : IsMeant M) where
  abbrev pub ended : Form MarkedToken
  ended = then M (λ _. keyword keywords.Semicolon)

  told : (y : ended.Tree) (t : MarkedToken) (m : List MarkedToken) → ended.IsTree y → ended.spell y ≡ t ∷ m → (sign_of t ≡ signs.Other) × (is_arrow t ≡ false)
  told y t m is e = go (M.spell y.0) refl
    where
      go : (w : List MarkedToken) → M.spell y.0 ≡ w → (sign_of t ≡ signs.Other) × (is_arrow t ≡ false)
      go [] f =
          let g : key keywords.Semicolon y.1 ∷ [] ≡ t ∷ m = ap (λ z. z ++ key keywords.Semicolon y.1 ∷ []) (sym f) ∙ e in
          (sym (ap sign_of (head_of _ _ _ _ g)) ∙ sign_of-key keywords.Semicolon y.1 refl, ap is_arrow (sym (head_of _ _ _ _ g)))
      go (s ∷ w) f =
          let g : s ∷ (w ++ key keywords.Semicolon y.1 ∷ []) ≡ t ∷ m = ap (λ z. z ++ key keywords.Semicolon y.1 ∷ []) (sym f) ∙ e in
          let k = meant.first y.0 s w is.0 f in
          (sym (ap sign_of (head_of _ _ _ _ g)) ∙ k.0, ap is_arrow (sym (head_of _ _ _ _ g)) ∙ k.1)

  pub meant_unsigned : Unsigned ended
  meant_unsigned y t m is e = (told y t m is e).0

  pub meant_apart : Apart M (λ _. keyword keywords.Semicolon)
  meant_apart = apart_class M (key keywords.Semicolon) (λ a p isa g. meant.ends a p isa g)

  pub result_unsigned : Unsigned (then optional_result (λ _. ended))
  result_unsigned y t m is e = unsigned_optional result_form is_arrow ended (λ x s w isx f. sym (ap sign_of (head_of _ _ _ _ f)) ∙ arrow_signed x.arrow) (λ x isx f. filled x f) meant_unsigned y t m is e
    where
      filled : (x : ResultTree) → result_form.spell x ≡ [] → ⊥
      filled x f = cc

  pub result_apart : Apart optional_result (λ _. ended)
  result_apart None k s x iso isk e g = never (sym (told k s x isk e).1 ∙ g)
  result_apart (Some r) k s x iso isk e g = never (sym (ap goes_on_declared (told k s x isk e).0) ∙ type_on r.ty (sign_of s) g)

pub definition_unsigned : Unsigned definition_rest
definition_unsigned y t m is e = result_unsigned means_form means_is_meant y t m is e

-- What is written, though it might be left out.
stated_first : (o : Option MeaningTree) (t : MarkedToken) (m : List MarkedToken) → (stated means_form).IsTree o → (stated means_form).spell o ≡ t ∷ m → (sign_of t ≡ signs.Other) × (is_arrow t ≡ false)
stated_first None t m is e = absurd is
stated_first (Some x) t m is e = means_is_meant.first x t m is e

stated_ends : (o : Option MeaningTree) (p : Place) → (stated means_form).IsTree o → (stated means_form).goes o (key keywords.Semicolon p) ≡ true → ⊥
stated_ends None p is g = absurd is
stated_ends (Some x) p is g = means_is_meant.ends x p is g

pub stated_is_meant : IsMeant (stated means_form)
stated_is_meant = record {
  first = λ x t m is e. stated_first x t m is e;
  ends = λ x p is g. stated_ends x p is g;
  some = Some some_meaning;
  some_is = ((tt, tt), tt);
}

-- The meaning of a redefined mode.
meaning_first : (typed : Bool) (o : Option MeaningTree) (t : MarkedToken) (m : List MarkedToken) → IsModeMeaning typed o → (mode_meaning typed).spell o ≡ t ∷ m → (sign_of t ≡ signs.Other) × (is_arrow t ≡ false)
meaning_first true o t m is e = optional_means_is_meant.first o t m is e
meaning_first false o t m is e = stated_first o t m is e

meaning_ends : (typed : Bool) (o : Option MeaningTree) (p : Place) → IsModeMeaning typed o → (mode_meaning typed).goes o (key keywords.Semicolon p) ≡ true → ⊥
meaning_ends true o p is g = optional_means_is_meant.ends o p is g
meaning_ends false o p is g = stated_ends o p is g

pub some_stated : (typed : Bool) → IsModeMeaning typed (Some some_meaning)
some_stated true = ((tt, tt), tt)
some_stated false = ((tt, tt), tt)

pub mode_meaning_is_meant : (typed : Bool) → IsMeant (mode_meaning typed)
mode_meaning_is_meant typed = record {
  first = λ x t m is e. meaning_first typed x t m is e;
  ends = λ x p is g. meaning_ends typed x p is g;
  some = Some some_meaning;
  some_is = some_stated typed;
}

pub meaning_into : (r : Option ResultTree) (o : Option MeaningTree) → IsModeMeaning (is_some r) o → IfAny IsMeans o × ((is_some r || is_some o) ≡ true)
meaning_into None None is = absurd is
meaning_into None (Some x) is = (is, refl)
meaning_into (Some r) o is = (is, refl)

pub meaning_from : (r : Option ResultTree) (o : Option MeaningTree) → IfAny IsMeans o → (is_some r || is_some o) ≡ true → IsModeMeaning (is_some r) o
meaning_from None None is h = cc
meaning_from None (Some x) is h = is
meaning_from (Some r) o is h = is
