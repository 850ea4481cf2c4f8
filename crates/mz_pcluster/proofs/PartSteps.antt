-- The readings of the parts of clusters behind their premises, adjectives or term.
use Rattle.std.proofs.Common.{◌≡◌, ℕ, Bool, true, false, ◌||◌, ◌&&◌, List, [], ◌∷◌, ◌++◌, refl, sym, ap, subst, ◌∙◌, Option, Some, None}
use Rattle.std.proofs.lemmas.Bool.{or_left}
use Rattle.mz_base.specs.declared.place.Place.{Place}
use Rattle.mz_base.specs.declared.token.MarkedToken.{MarkedToken}
use Rattle.mz_forms.specs.Form.{Form, Agrees, Found, is_empty, then}
use Rattle.mz_forms.specs.Reading.{Builds}
use Rattle.mz_forms.proofs.Choose.{Reshapes}
use Rattle.mz_forms.proofs.Compose.{Apart, head_of}
use Rattle.mz_forms.proofs.Leads.{apart_closed}
use Rattle.mz_forms.proofs.Lists.{Begun}
use Rattle.mz_forms.proofs.Maybe.{Starts}
use Rattle.mz_tree.specs.declared.word.Word.{Word}
use Rattle.mz_tree.specs.Trees.{AdjectiveData, AdjectivesData, TypeData, ModeType, ModeOfType, StructureType, StructureOverType, PlainAdjective, WithIdentifierAdjective, WithTermsAdjective, no_adjectives, more_adjectives, adjectives_of}
use Rattle.mz_tree.specs.Spell.{spell_adjective, spell_adjective_list, spell_adjectives, spell_type}
use Rattle.mz_tree.specs.Rules.{IfAny, IsAdjective}
use Rattle.mz_tree_part.specs.declared.cluster.ForTypeTree.{ForTypeTree}
use Rattle.mz_pterm.specs.declared.sign.Sign.{Sign}
use Rattle.mz_pterm.specs.declared.sign.Sign.TheVariants as signs
use Rattle.mz_pterm.specs.Sign.{sign_of}
use Rattle.mz_pterm.specs.Words.{fixed, named, word}
use Rattle.mz_pterm.proofs.Bases.{word_at}
use Rattle.mz_pterm.proofs.Signs.{sign_of-fixed, sign_of-named, told_fixed}
use Rattle.mz_ptype.specs.Classes.{begins_adjective, begins_radix}
use Rattle.mz_ptype.specs.Forms.{adjective_form, adjectives_form, goes_type, parts_of_type, radix_form, radix_sign, type_of_parts, whole_type}
use Rattle.mz_ptype.proofs.AdjectiveSteps.{repeats}
use Rattle.mz_ptype.proofs.Optional.{never, true_not_false}
use Rattle.mz_ptype.proofs.TypeSteps.{as_type, parts_goes, parts_spelled}
use Rattle.mz_patom.specs.Forms.{Radix}
use Rattle.mz_pjustification.specs.declared.keyword.Keyword.{Keyword}
use Rattle.mz_pjustification.specs.declared.keyword.Keyword.TheVariants as keywords
use Rattle.mz_pjustification.specs.Words.{is_key, key, keyword}
use Rattle.mz_pjustification.proofs.Keywords.{sign_of-key}
use Rattle.mz_pjustification.proofs.Taken.{nowhere, or_goes}
use Rattle.mz_pstep.proofs.Ends.{Ends, ends_class, ends_then}
use Rattle.mz_ppattern.specs.Words.{arrow_form, arrow_token, is_arrow}
use Rattle.mz_ppattern.specs.Optional.{next_has}
use Rattle.mz_ppattern.proofs.LociSteps.{has_not, has_so}
use Rattle.mz_ppattern.proofs.Sets.{Off, apart_off, head_off, off_one, off_optional_then, off_then}
use Rattle.mz_ppattern.proofs.WordSteps.{arrow_own, arrow_signed, arrow_told}
use Rattle.mz_pcluster.specs.declared.parts.ImpliedTree.{ImpliedTree}
use Rattle.mz_pcluster.specs.declared.parts.AssignedTree.{AssignedTree}
use Rattle.mz_pcluster.specs.declared.parts.BehindTree.{BehindTree}
use Rattle.mz_pcluster.specs.declared.parts.BehindTree.TheVariants as behinds
use Rattle.mz_pcluster.specs.Classes.{begins_for_type, is_for}
use Rattle.mz_pcluster.specs.Forms.{assigned_form, bare_type_form, behind_form, for_type_form, implied_form, optional_for_type, spell_behind, IsBareType, IsBehind}
use Rattle.mz_pcluster.proofs.Joined.{Joined, shaped_found}

-- Examples.
abbrev pub some_type : TypeData
some_type = ModeType no_adjectives (word_at nowhere)

abbrev pub some_adjectives : AdjectivesData
some_adjectives = record { first = PlainAdjective None (word_at nowhere); more = no_adjectives }

abbrev pub some_for_type : ForTypeTree
some_for_type = record { for_ = nowhere; ty = some_type }

abbrev pub some_implied : ImpliedTree
some_implied = record { arrow = nowhere; adjectives = some_adjectives; for_type = some_for_type; semicolon = nowhere }

abbrev pub some_assigned : AssignedTree
some_assigned = record { arrow = nowhere; adjectives = some_adjectives; for_type = None; semicolon = nowhere }

abbrev pub some_behind : BehindTree
some_behind = behinds.Type some_type nowhere

-- The first token.
pub headed : (b w : List MarkedToken) → Agrees b w → (w ≡ [] → ⊥) → (t : MarkedToken) × (m : List MarkedToken) × (w ≡ t ∷ m) × Agrees b (t ∷ m)
headed b [] g h = absurd (h refl)
headed b (t ∷ m) g h = (t, m, refl, g)

-- it is `->`, which has no sign of expressions
pub sign_of-arrow_head : (b : List MarkedToken) (t : MarkedToken) (w : List MarkedToken) → next_has is_arrow b ≡ true → Agrees b (t ∷ w) → sign_of t ≡ signs.Other
sign_of-arrow_head [] t w h g = absurd g
sign_of-arrow_head (s ∷ b) t w h g = ap sign_of (g ∙ arrow_told s h) ∙ arrow_signed s.token.place

pub no_arrow : (t : MarkedToken) (s : Sign) → sign_of t ≡ s → (s ≡ signs.Other → ⊥) → is_arrow t ≡ false
no_arrow t s e differ = go (is_arrow t) refl
  where
    go : (p : Bool) → is_arrow t ≡ p → p ≡ false
    go true h = absurd (differ (sym e ∙ (ap sign_of (arrow_told t h) ∙ arrow_signed t.token.place)))
    go false h = refl

-- Sets.
abbrev pub on_adjective : MarkedToken → Bool
on_adjective t = begins_adjective (sign_of t)

pub adjective_off_arrow : (p : Place) → on_adjective (arrow_token p) ≡ true → ⊥
adjective_off_arrow p g = never (sym (ap begins_adjective (arrow_signed p)) ∙ g)

adjective_off_for : (p : Place) → on_adjective (fixed signs.For p) ≡ true → ⊥
adjective_off_for p g = never (sym (ap begins_adjective (sign_of-fixed signs.For p refl)) ∙ g)

adjective_off_key : (k : Keyword) (p : Place) → is_key k ≡ true → on_adjective (key k p) ≡ true → ⊥
adjective_off_key k p h g = never (sym (ap begins_adjective (sign_of-key k p h)) ∙ g)

for_off_key : (k : Keyword) (p : Place) → is_key k ≡ true → begins_for_type (key k p) ≡ true → ⊥
for_off_key k p h g = never (sym (ap is_for (sign_of-key k p h)) ∙ g)

-- nothing but expressions goes on a type
type_off : (a : TypeData) → goes_type a signs.Other ≡ false
type_off (ModeType x w) = refl
type_off (ModeOfType x w p ts) = refl
type_off (StructureType x w) = refl
type_off (StructureOverType x w p ts) = refl

type_off_key : (a : TypeData) (k : Keyword) (p : Place) → is_key k ≡ true → goes_type a (sign_of (key k p)) ≡ true → ⊥
type_off_key a k p h g = never (sym (ap (goes_type a) (sign_of-key k p h) ∙ type_off a) ∙ g)

before_key : (A : Form MarkedToken) (k : Keyword) → ((a : A.Tree) (p : Place) → A.goes a (key k p) ≡ true → ⊥) → Apart A (λ _. keyword k)
before_key A k h a x s m isa isx e g = let G : MarkedToken → Type 0 = λ z. A.goes a z ≡ true in h a x (subst G (sym (head_of _ _ _ _ e)) g)

-- Adjectives begin with one of them.
pub adjective_first : (x : AdjectiveData) (v : List MarkedToken) (t : MarkedToken) (m : List MarkedToken) → spell_adjective x ++ v ≡ t ∷ m → begins_adjective (sign_of t) ≡ true
adjective_first (PlainAdjective None w) v t m e = ap begins_adjective (sym (ap sign_of (head_of _ _ _ _ e)) ∙ sign_of-named signs.Attribute w refl)
adjective_first (PlainAdjective (Some p) w) v t m e = ap begins_adjective (sym (ap sign_of (head_of _ _ _ _ e)) ∙ sign_of-fixed signs.Non p refl)
adjective_first (WithIdentifierAdjective None u w) v t m e = ap begins_adjective (sym (ap sign_of (head_of _ _ _ _ e)) ∙ sign_of-named signs.Identifier u refl)
adjective_first (WithIdentifierAdjective (Some p) u w) v t m e = ap begins_adjective (sym (ap sign_of (head_of _ _ _ _ e)) ∙ sign_of-fixed signs.Non p refl)
adjective_first (WithTermsAdjective None p ts q w) v t m e = ap begins_adjective (sym (ap sign_of (head_of _ _ _ _ e)) ∙ sign_of-fixed signs.Open p refl)
adjective_first (WithTermsAdjective (Some r) p ts q w) v t m e = ap begins_adjective (sym (ap sign_of (head_of _ _ _ _ e)) ∙ sign_of-fixed signs.Non r refl)

-- `for` and a type.
abbrev pub for_type_1 : Form MarkedToken
for_type_1 = then (word signs.For) (λ _. whole_type false)

abbrev pub make_for_type : (Place × TypeData) → ForTypeTree
make_for_type k = record { for_ = k.0; ty = k.1 }

pub joined_for_type : Joined (word signs.For) (λ _. whole_type false)
joined_for_type = record { apart = apart_closed (word signs.For) (λ _. whole_type false) (λ a t. refl); some = λ a is. (some_type, tt) }

pub only_for_type : (x : ForTypeTree) → for_type_form.IsTree x → (k : for_type_1.Tree) × for_type_1.IsTree k × (x ≡ make_for_type k)
only_for_type x is = ((x.for_, x.ty), (tt, is), refl)

for_type_goes : (k : for_type_1.Tree) (t : MarkedToken) → for_type_1.goes k t ≡ true → goes_type k.1 (sign_of t) ≡ true
for_type_goes k t g = or_goes ((whole_type false).goes k.1 t) ((word signs.For).goes k.0 t) (is_empty ((whole_type false).spell k.1)) (goes_type k.1 (sign_of t)) (λ h. h) (λ h. absurd (never h)) g

pub as_for_type : (b : List MarkedToken) → Reshapes for_type_form for_type_1 make_for_type b
as_for_type b = record {
  into = λ k is. is.1;
  spells = λ k is. refl;
  only = λ x is g. only_for_type x is;
  goes = λ k t is g. for_type_goes k t g;
  level = λ k is. refl;
}

pub starts_for_type : Starts for_type_form begins_for_type
starts_for_type = record {
  filled = λ x is e. filled x e;
  first = λ x t m is e. ap is_for (sym (ap sign_of (head_of _ _ _ _ e)) ∙ sign_of-fixed signs.For x.for_ refl);
}
  where
    filled : (x : ForTypeTree) → for_type_form.spell x ≡ [] → ⊥
    filled x e = cc

for_is : (s : Sign) → is_for s ≡ true → s ≡ signs.For
for_is signs.For e = refl
for_is _ e = cc

abbrev behind_for : List MarkedToken
behind_for = (whole_type false).spell some_type

pub begun_for_type : (t : MarkedToken) → begins_for_type t ≡ true → Begun for_type_form t
begun_for_type t h = (record { for_ = t.token.place; ty = some_type }, behind_for, tt, ap (λ z. z ∷ behind_for) (sym (told_fixed signs.For t refl (for_is (sign_of t) h))))

-- What stands behind premises.
abbrev pub implied_4 : Form MarkedToken
implied_4 = keyword keywords.Semicolon

abbrev pub implied_3 : Form MarkedToken
implied_3 = then for_type_form (λ _. implied_4)

abbrev pub implied_2 : Form MarkedToken
implied_2 = then (adjectives_form false) (λ _. implied_3)

abbrev pub implied_1 : Form MarkedToken
implied_1 = then arrow_form (λ _. implied_2)

for_type_off : Off on_adjective for_type_form
for_type_off x s m is e g = head_off on_adjective (fixed signs.For x.for_) s _ m e (adjective_off_for x.for_) g

pub joined_implied_1 : Joined arrow_form (λ _. implied_2)
joined_implied_1 = record { apart = apart_closed arrow_form (λ _. implied_2) (λ a t. refl); some = λ a is. ((some_adjectives, (some_for_type, nowhere)), ((tt, tt), (tt, tt))) }

pub joined_implied_2 : Joined (adjectives_form false) (λ _. implied_3)
joined_implied_2 = record {
  apart = apart_off (adjectives_form false) implied_3 on_adjective (λ a t is g. g) (off_then on_adjective for_type_form (λ _. implied_4) for_type_off (λ x is e. starts_for_type.filled x is e));
  some = λ a is. ((some_for_type, nowhere), (tt, tt));
}

pub joined_implied_3 : Joined for_type_form (λ _. implied_4)
joined_implied_3 = record { apart = before_key for_type_form keywords.Semicolon (λ a p g. type_off_key a.ty keywords.Semicolon p refl g); some = λ a is. (nowhere, tt) }

abbrev pub make_implied : implied_1.Tree → ImpliedTree
make_implied k = record { arrow = k.0; adjectives = k.1.0; for_type = k.1.1.0; semicolon = k.1.1.1 }

pub only_implied : (x : ImpliedTree) → implied_form.IsTree x → (k : implied_1.Tree) × implied_1.IsTree k × (x ≡ make_implied k)
only_implied x is = ((x.arrow, (x.adjectives, (x.for_type, x.semicolon))), (tt, (is.0, (is.1, tt))), refl)

ends_implied : Ends implied_1
ends_implied = ends_then arrow_form (λ _. implied_2) (λ _. ends_then (adjectives_form false) (λ _. implied_3) (λ _. ends_then for_type_form (λ _. implied_4) (λ _. ends_class Place (key keywords.Semicolon))))

pub as_implied : (b : List MarkedToken) → Reshapes implied_form implied_1 make_implied b
as_implied b = record {
  into = λ k is. (is.1.0, is.1.1.0);
  spells = λ k is. refl;
  only = λ x is g. only_implied x is;
  goes = λ k t is g. absurd (ends_implied.closed k t is g);
  level = λ k is. refl;
}

-- What stands behind a term.
abbrev pub assigned_4 : Form MarkedToken
assigned_4 = keyword keywords.Semicolon

abbrev pub assigned_3 : Form MarkedToken
assigned_3 = then optional_for_type (λ _. assigned_4)

abbrev pub assigned_2 : Form MarkedToken
assigned_2 = then (adjectives_form false) (λ _. assigned_3)

abbrev pub assigned_1 : Form MarkedToken
assigned_1 = then arrow_form (λ _. assigned_2)

optional_off_key : (o : Option ForTypeTree) (p : Place) → optional_for_type.goes o (key keywords.Semicolon p) ≡ true → ⊥
optional_off_key None p g = for_off_key keywords.Semicolon p refl g
optional_off_key (Some x) p g = type_off_key x.ty keywords.Semicolon p refl g

pub joined_assigned_1 : Joined arrow_form (λ _. assigned_2)
joined_assigned_1 = record { apart = apart_closed arrow_form (λ _. assigned_2) (λ a t. refl); some = λ a is. ((some_adjectives, (None, nowhere)), ((tt, tt), (tt, tt))) }

pub joined_assigned_2 : Joined (adjectives_form false) (λ _. assigned_3)
joined_assigned_2 = record {
  apart = apart_off (adjectives_form false) assigned_3 on_adjective (λ a t is g. g) (off_optional_then on_adjective for_type_form begins_for_type assigned_4 for_type_off (λ x is e. starts_for_type.filled x is e) (off_one on_adjective (key keywords.Semicolon) (λ p g. adjective_off_key keywords.Semicolon p refl g)));
  some = λ a is. ((None, nowhere), (tt, tt));
}

pub joined_assigned_3 : Joined optional_for_type (λ _. assigned_4)
joined_assigned_3 = record { apart = before_key optional_for_type keywords.Semicolon optional_off_key; some = λ a is. (nowhere, tt) }

abbrev pub make_assigned : assigned_1.Tree → AssignedTree
make_assigned k = record { arrow = k.0; adjectives = k.1.0; for_type = k.1.1.0; semicolon = k.1.1.1 }

pub only_assigned : (x : AssignedTree) → assigned_form.IsTree x → (k : assigned_1.Tree) × assigned_1.IsTree k × (x ≡ make_assigned k)
only_assigned x is = ((x.arrow, (x.adjectives, (x.for_type, x.semicolon))), (tt, (is.0, (is.1, tt))), refl)

ends_assigned : Ends assigned_1
ends_assigned = ends_then arrow_form (λ _. assigned_2) (λ _. ends_then (adjectives_form false) (λ _. assigned_3) (λ _. ends_then optional_for_type (λ _. assigned_4) (λ _. ends_class Place (key keywords.Semicolon))))

pub as_assigned : (b : List MarkedToken) → Reshapes assigned_form assigned_1 make_assigned b
as_assigned b = record {
  into = λ k is. (is.1.0, is.1.1.0);
  spells = λ k is. refl;
  only = λ x is g. only_assigned x is;
  goes = λ k t is g. absurd (ends_assigned.closed k t is g);
  level = λ k is. refl;
}

-- A type without adjectives.
abbrev pub make_bare : Radix → TypeData
make_bare k = type_of_parts [] k

bare : (k : Radix) → (radix_form false).IsTree k → IsBareType (make_bare k)
bare ((false, w), None) is = (tt, tt)
bare ((false, w), Some a) is = ((tt, is.1.1), tt)
bare ((true, w), None) is = (tt, tt)
bare ((true, w), Some a) is = ((tt, is.1.1), tt)

pub only_bare : (x : TypeData) → IsBareType x → (k : Radix) × (radix_form false).IsTree k × (x ≡ make_bare k)
only_bare (ModeType no_adjectives w) is = (((false, w), None), (tt, tt), refl)
only_bare (ModeType (more_adjectives a b) w) is = absurd is.1
only_bare (ModeOfType no_adjectives w p ts) is = (((false, w), Some (p, ts)), (tt, (tt, is.0.1)), refl)
only_bare (ModeOfType (more_adjectives a b) w p ts) is = absurd is.1
only_bare (StructureType no_adjectives w) is = (((true, w), None), (tt, tt), refl)
only_bare (StructureType (more_adjectives a b) w) is = absurd is.1
only_bare (StructureOverType no_adjectives w p ts) is = (((true, w), Some (p, ts)), (tt, (tt, is.0.1)), refl)
only_bare (StructureOverType (more_adjectives a b) w p ts) is = absurd is.1

pub as_bare : (b : List MarkedToken) → Reshapes bare_type_form (radix_form false) make_bare b
as_bare b = record {
  into = λ k is. bare k is;
  spells = λ k is. parts_spelled false ([], k) (tt, is);
  only = λ x is g. only_bare x is;
  goes = λ k t is g. parts_goes false ([], k) t (or_left ((radix_form false).goes k t) _ g);
  level = λ k is. (as_type false []).level ([], k) (tt, is);
}

-- it begins with a mode or a structure
bare_first : (x : TypeData) (v : List MarkedToken) (t : MarkedToken) (m : List MarkedToken) → IsBareType x → spell_type x ++ v ≡ t ∷ m → begins_radix (sign_of t) ≡ true
bare_first (ModeType no_adjectives w) v t m is e = ap begins_radix (sym (ap sign_of (head_of _ _ _ _ e)) ∙ sign_of-named signs.Mode w refl)
bare_first (ModeType (more_adjectives a b) w) v t m is e = absurd is.1
bare_first (ModeOfType no_adjectives w p ts) v t m is e = ap begins_radix (sym (ap sign_of (head_of _ _ _ _ e)) ∙ sign_of-named signs.Mode w refl)
bare_first (ModeOfType (more_adjectives a b) w p ts) v t m is e = absurd is.1
bare_first (StructureType no_adjectives w) v t m is e = ap begins_radix (sym (ap sign_of (head_of _ _ _ _ e)) ∙ sign_of-named signs.Structure w refl)
bare_first (StructureType (more_adjectives a b) w) v t m is e = absurd is.1
bare_first (StructureOverType no_adjectives w p ts) v t m is e = ap begins_radix (sym (ap sign_of (head_of _ _ _ _ e)) ∙ sign_of-named signs.Structure w refl)
bare_first (StructureOverType (more_adjectives a b) w p ts) v t m is e = absurd is.1

bare_filled : (x : TypeData) (v : List MarkedToken) → IsBareType x → spell_type x ++ v ≡ [] → ⊥
bare_filled (ModeType no_adjectives w) v is e = mode_filled w _ e
  where
    mode_filled : (w : Word) (r : List MarkedToken) → named signs.Mode w ∷ r ≡ [] → ⊥
    mode_filled w r e = cc
bare_filled (ModeType (more_adjectives a b) w) v is e = absurd is.1
bare_filled (ModeOfType no_adjectives w p ts) v is e = mode_filled w _ e
  where
    mode_filled : (w : Word) (r : List MarkedToken) → named signs.Mode w ∷ r ≡ [] → ⊥
    mode_filled w r e = cc
bare_filled (ModeOfType (more_adjectives a b) w p ts) v is e = absurd is.1
bare_filled (StructureType no_adjectives w) v is e = cc
bare_filled (StructureType (more_adjectives a b) w) v is e = absurd is.1
bare_filled (StructureOverType no_adjectives w p ts) v is e = cc
bare_filled (StructureOverType (more_adjectives a b) w p ts) v is e = absurd is.1

-- What stands behind adjectives.
abbrev pub behind_type : Form MarkedToken
behind_type = then bare_type_form (λ _. keyword keywords.Semicolon)

abbrev pub make_behind_type : (TypeData × Place) → BehindTree
make_behind_type k = behinds.Type k.0 k.1

pub joined_behind_type : Joined bare_type_form (λ _. keyword keywords.Semicolon)
joined_behind_type = record { apart = before_key bare_type_form keywords.Semicolon (λ a p g. type_off_key a keywords.Semicolon p refl g); some = λ a is. (nowhere, tt) }

abbrev pub behind_for_type : Form MarkedToken
behind_for_type = then for_type_form (λ _. keyword keywords.Semicolon)

pub joined_behind_for : Joined for_type_form (λ _. keyword keywords.Semicolon)
joined_behind_for = record { apart = before_key for_type_form keywords.Semicolon (λ a p g. type_off_key a.ty keywords.Semicolon p refl g); some = λ a is. (nowhere, tt) }

abbrev pub make_behind_for : (ForTypeTree × Place) → BehindTree
make_behind_for k = behinds.For k.0 k.1

abbrev pub make_behind_implied : ImpliedTree → BehindTree
make_behind_implied a = behinds.Implied a

ends_behind_type : Ends behind_type
ends_behind_type = ends_then bare_type_form (λ _. keyword keywords.Semicolon) (λ _. ends_class Place (key keywords.Semicolon))

ends_behind_for : Ends behind_for_type
ends_behind_for = ends_then for_type_form (λ _. keyword keywords.Semicolon) (λ _. ends_class Place (key keywords.Semicolon))

radix_no_arrow : (s : Sign) → begins_radix s ≡ true → s ≡ signs.Other → ⊥
radix_no_arrow s g e = never (sym (ap begins_radix e) ∙ g)

radix_no_for : (s : Sign) → begins_radix s ≡ true → is_for s ≡ false
radix_no_for signs.Mode e = refl
radix_no_for signs.Structure e = refl
radix_no_for _ e = cc

radix_no_adjective : (s : Sign) → begins_radix s ≡ true → begins_adjective s ≡ false
radix_no_adjective signs.Mode e = refl
radix_no_adjective signs.Structure e = refl
radix_no_adjective _ e = cc

pub as_behind_implied : (b : List MarkedToken) → next_has is_arrow b ≡ true → Reshapes behind_form implied_form make_behind_implied b
as_behind_implied b h = record {
  into = λ k is. is;
  spells = λ k is. refl;
  only = λ x is g. only x is g;
  goes = λ k t is g. g;
  level = λ k is. refl;
}
  where
    only : (x : BehindTree) → IsBehind x → Agrees b (spell_behind x) → (k : ImpliedTree) × implied_form.IsTree k × (x ≡ make_behind_implied k)
    only (behinds.Type a p) is g = let k = headed b (spell_behind (behinds.Type a p)) g (λ e. bare_filled a _ is e) in absurd (radix_no_arrow (sign_of k.0) (bare_first a _ k.0 k.1 is k.2) (sign_of-arrow_head b k.0 k.1 h k.3))
    only (behinds.For a p) is g = absurd (has_not is_arrow b (fixed signs.For a.for_) _ h (no_arrow (fixed signs.For a.for_) signs.For (sign_of-fixed signs.For a.for_ refl) (λ e. clash e)) g)
      where
        clash : signs.For ≡ signs.Other → ⊥
        clash e = cc
    only (behinds.Implied a) is g = (a, is, refl)

pub as_behind_for : (b : List MarkedToken) → next_has begins_for_type b ≡ true → Reshapes behind_form behind_for_type make_behind_for b
as_behind_for b h = record {
  into = λ k is. is.0;
  spells = λ k is. refl;
  only = λ x is g. only x is g;
  goes = λ k t is g. absurd (ends_behind_for.closed k t is g);
  level = λ k is. refl;
}
  where
    only : (x : BehindTree) → IsBehind x → Agrees b (spell_behind x) → (k : behind_for_type.Tree) × behind_for_type.IsTree k × (x ≡ make_behind_for k)
    only (behinds.Type a p) is g = let k = headed b (spell_behind (behinds.Type a p)) g (λ e. bare_filled a _ is e) in absurd (has_not begins_for_type b k.0 k.1 h (radix_no_for (sign_of k.0) (bare_first a _ k.0 k.1 is k.2)) k.3)
    only (behinds.For a p) is g = ((a, p), (is, tt), refl)
    only (behinds.Implied a) is g = absurd (has_not begins_for_type b (arrow_token a.arrow) _ h (ap is_for (arrow_signed a.arrow)) g)

pub as_behind_type : (b : List MarkedToken) → next_has is_arrow b ≡ false → next_has begins_for_type b ≡ false → Reshapes behind_form behind_type make_behind_type b
as_behind_type b h i = record {
  into = λ k is. is.0;
  spells = λ k is. refl;
  only = λ x is g. only x is g;
  goes = λ k t is g. absurd (ends_behind_type.closed k t is g);
  level = λ k is. refl;
}
  where
    only : (x : BehindTree) → IsBehind x → Agrees b (spell_behind x) → (k : behind_type.Tree) × behind_type.IsTree k × (x ≡ make_behind_type k)
    only (behinds.Type a p) is g = ((a, p), (is, tt), refl)
    only (behinds.For a p) is g = absurd (has_so begins_for_type b (fixed signs.For a.for_) _ i (ap is_for (sign_of-fixed signs.For a.for_ refl)) g)
    only (behinds.Implied a) is g = absurd (has_so is_arrow b (arrow_token a.arrow) _ h (arrow_own a.arrow) g)

-- No adjective begins it.
pub behind_off : Off on_adjective behind_form
behind_off (behinds.Type a p) s m is e g = true_not_false (begins_adjective (sign_of s)) (radix_no_adjective (sign_of s) (bare_first a _ s m is e)) g
behind_off (behinds.For a p) s m is e g = head_off on_adjective (fixed signs.For a.for_) s _ m e (adjective_off_for a.for_) g
behind_off (behinds.Implied a) s m is e g = head_off on_adjective (arrow_token a.arrow) s _ m e (adjective_off_arrow a.arrow) g

pub behind_filled : (x : BehindTree) → IsBehind x → spell_behind x ≡ [] → ⊥
behind_filled (behinds.Type a p) is e = bare_filled a _ is e
behind_filled (behinds.For a p) is e = cc
behind_filled (behinds.Implied a) is e = cc

-- What the first token tells of it.
pub type_token : (a : TypeData) (p : Place) (t : MarkedToken) (m : List MarkedToken) → IsBareType a → spell_behind (behinds.Type a p) ≡ t ∷ m → (is_arrow t ≡ false) × (begins_for_type t ≡ false)
type_token a p t m is e =
    let f = bare_first a _ t m is e in
    (no_arrow t (sign_of t) refl (radix_no_arrow (sign_of t) f), radix_no_for (sign_of t) f)

pub for_token : (p : Place) (t : MarkedToken) (v m : List MarkedToken) → fixed signs.For p ∷ v ≡ t ∷ m → begins_for_type t ≡ true
for_token p t v m e = ap is_for (sym (ap sign_of (head_of _ _ _ _ e)) ∙ sign_of-fixed signs.For p refl)

pub arrow_comes : (p : Place) (t : MarkedToken) (v m : List MarkedToken) → arrow_token p ∷ v ≡ t ∷ m → is_arrow t ≡ true
arrow_comes p t v m e = ap is_arrow (sym (head_of _ _ _ _ e)) ∙ arrow_own p

-- A type that was read behind no adjectives.
pub bare_given : (room : ℕ) (ads : List AdjectiveData) (y : TypeData) (b after : List MarkedToken) → ads ≡ [] → Builds (radix_form false) room (type_of_parts ads) y b after → Found bare_type_form room b y after
bare_given room ads y b after e k =
    let F : TypeData → Type 0 = λ z. Found bare_type_form room b z after in
    subst F (sym (k.2 ∙ ap (λ z. type_of_parts z k.0) e)) (shaped_found bare_type_form (radix_form false) make_bare room b (as_bare b) k.0 after k.1)
