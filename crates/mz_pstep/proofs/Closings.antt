-- The readings of types or nothing, up to the bracket that closes, and of conditions or nothing.
use Rattle.std.specs.List.{flat_map}
use Rattle.std.proofs.Common.{◌≡◌, ℕ, ◌-◌, ◌<◌, arith, Bool, true, false, ◌||◌, List, [], ◌∷◌, ◌++◌, refl, sym, ap, subst, ◌∙◌, Option, Some, None}
use Rattle.std.proofs.lemmas.Bool.{or_left}
use Rattle.mz_base.specs.declared.place.Place.{Place}
use Rattle.mz_base.specs.declared.token.MarkedToken.{MarkedToken}
use Rattle.mz_forms.specs.declared.refusal.Refusal.{Refusal}
use Rattle.mz_forms.specs.Form.{Form, Agrees, Found, Leads, then, nested, nothing}
use Rattle.mz_forms.specs.Reading.{Refuses}
use Rattle.mz_forms.specs.Repeat.{spell_all}
use Rattle.mz_forms.proofs.Choose.{Chooses, Reshapes}
use Rattle.mz_forms.proofs.Compose.{Apart, head_of}
use Rattle.mz_forms.proofs.Leads.{leads_by, leads_as, leads_behind, leads_on, beside, passes, first_refuses}
use Rattle.mz_forms.proofs.Maybe.{Starts, begin_some, found_none}
use Rattle.mz_forms.proofs.Nested.{found_under, refuses_under}
use Rattle.mz_forms.proofs.Words.{apart_class, word_in_any, word_refuses, found_nothing}
use Rattle.mz_tree.specs.declared.lists.Separated.{Separated}
use Rattle.mz_tree.specs.Trees.{TypeData, AdjectiveData}
use Rattle.mz_tree.specs.Spell.{spell_type}
use Rattle.mz_tree.specs.Lists.{spell_next, spell_separated}
use Rattle.mz_tree.specs.Rules.{IsType, IfAny}
use Rattle.mz_tree_proof.specs.declared.propositions.SuchTree.{SuchTree}
use Rattle.mz_tree_proof.specs.Spell.{spell_propositions}
use Rattle.mz_tree_proof.specs.Rules.{AreTypes}
use Rattle.mz_pterm.specs.declared.sign.Sign.{Sign}
use Rattle.mz_pterm.specs.declared.sign.Sign.TheVariants as signs
use Rattle.mz_pterm.specs.Classes.{closes}
use Rattle.mz_pterm.specs.Sign.{sign_of}
use Rattle.mz_pterm.specs.Words.{is_fixed, fixed, word, TakesPlace}
use Rattle.mz_pterm.proofs.Signs.{sign_of-fixed, same_fixed}
use Rattle.mz_ptype.specs.Classes.{begins_adjective, begins_radix}
use Rattle.mz_ptype.specs.Forms.{adjective_form, radix_sign, parts_of_type, radix_form, goes_on_declared}
use Rattle.mz_ptype.proofs.AdjectiveSteps.{repeats}
use Rattle.mz_ptype.proofs.Optional.{never}
use Rattle.mz_ptype.proofs.TypeSteps as types
use Rattle.mz_pjustification.specs.declared.keyword.Keyword.{Keyword}
use Rattle.mz_pjustification.specs.declared.keyword.Keyword.TheVariants as keywords
use Rattle.mz_pjustification.specs.Keyword.{keyword_of}
use Rattle.mz_pjustification.specs.Words.{key, tokens_of}
use Rattle.mz_pjustification.proofs.Keywords.{told_key}
use Rattle.mz_pjustification.proofs.Taken.{nowhere, key_among, among_at}
use Rattle.mz_pproposition.specs.Forms.{such_form}
use Rattle.mz_pstep.specs.Forms.{types_form, Closing, spell_closing, closing_form, begins_such, maybe_such_form}
use Rattle.mz_pproposition.proofs.PropositionSteps.{some_condition}

-- What types begin with.
abbrev pub begins_type : Sign → Bool
begins_type s = begins_adjective s || begins_radix s

radix_begins : (b : Bool) (s : Sign) → s ≡ radix_sign b → begins_type s ≡ true
radix_begins true s e = ap begins_type e
radix_begins false s e = ap begins_type e

type_first : (x : TypeData) (s : MarkedToken) (m : List MarkedToken) → IsType false x → spell_type x ≡ s ∷ m → begins_type (sign_of s) ≡ true
type_first x s m is e =
    let k = types.only_parts false x is in
    go k.0.0 k.0.1 k.1 (sym (types.parts_spelled false k.0 k.1) ∙ (ap spell_type (sym k.2) ∙ e))
  where
    go : (ads : List AdjectiveData) (r : (radix_form false).Tree) → (parts_of_type false).IsTree (ads, r) → spell_all (adjective_form false) ads ++ (radix_form false).spell r ≡ s ∷ m → begins_type (sign_of s) ≡ true
    go [] r i f = radix_begins r.0.0 (sign_of s) (sym (ap sign_of (head_of _ _ _ _ f)) ∙ types.symbol_sign r.0)
    go (a ∷ ads) r i f = at ((adjective_form false).spell a) refl
      where
        at : (w : List MarkedToken) → (adjective_form false).spell a ≡ w → begins_type (sign_of s) ≡ true
        at [] g = absurd ((repeats false).filled a i.0.0 g)
        at (t ∷ w) g =
            let first : t ≡ s = head_of t s ((w ++ spell_all (adjective_form false) ads) ++ (radix_form false).spell r) m (ap (λ z. (z ++ spell_all (adjective_form false) ads) ++ (radix_form false).spell r) (sym g) ∙ f) in
            or_left (begins_adjective (sign_of s)) (begins_radix (sign_of s)) ((repeats false).first a s w i.0.0 (g ∙ ap (λ z. z ∷ w) first))

types_not_empty : (x : TypeData) → IsType false x → spell_type x ≡ [] → ⊥
types_not_empty x is e =
    let k = types.only_parts false x is in
    go k.0.0 k.0.1 k.1 (sym (types.parts_spelled false k.0 k.1) ∙ (ap spell_type (sym k.2) ∙ e))
  where
    left : (v w : List MarkedToken) → v ++ w ≡ [] → v ≡ []
    left [] w f = refl
    left (s ∷ v) w f = cc

    go : (ads : List AdjectiveData) (r : (radix_form false).Tree) → (parts_of_type false).IsTree (ads, r) → spell_all (adjective_form false) ads ++ (radix_form false).spell r ≡ [] → ⊥
    go [] r i f = cc
    go (a ∷ ads) r i f = (repeats false).filled a i.0.0 (left ((adjective_form false).spell a) (spell_all (adjective_form false) ads) (left (spell_all (adjective_form false) (a ∷ ads)) ((radix_form false).spell r) f))

abbrev pub SameClosing : Closing → Closing → Type 0
SameClosing a b = a ≡ b

token_last : (w : List MarkedToken) (t : MarkedToken) → w ++ t ∷ [] ≡ [] → ⊥
token_last [] t e = cc
token_last (s ∷ w) t e = cc

closes_off : (c : Sign) → closes c ≡ true → begins_type c ≡ true → ⊥
closes_off signs.Close h g = never g
closes_off signs.CloseAggregate h g = never g
closes_off signs.CloseBrace h g = never g
closes_off signs.CloseSquare h g = never g
closes_off _ h g = cc

pub closes_fixed : (c : Sign) → closes c ≡ true → is_fixed c ≡ true
closes_fixed signs.Close h = refl
closes_fixed signs.CloseAggregate h = refl
closes_fixed signs.CloseBrace h = refl
closes_fixed signs.CloseSquare h = refl
closes_fixed _ h = cc

declared_off : (c : Sign) → closes c ≡ true → goes_on_declared c ≡ true → ⊥
declared_off signs.Close h g = never g
declared_off signs.CloseAggregate h g = never g
declared_off signs.CloseBrace h g = never g
declared_off signs.CloseSquare h g = never g
declared_off _ h g = cc

module _ (c : Sign) (closed : closes c ≡ true) where
  -- no types begin with the bracket
  pub types_not_closed : (s : Separated TypeData) (p q : Place) (m : List MarkedToken) → AreTypes s → spell_separated spell_type s ++ fixed c q ∷ [] ≡ fixed c p ∷ m → ⊥
  types_not_closed s p q m is e = at (spell_type s.first) refl
    where
      at : (w : List MarkedToken) → spell_type s.first ≡ w → ⊥
      at [] g = types_not_empty s.first is.0 g
      at (t ∷ w) g =
          let first : t ≡ fixed c p = head_of t (fixed c p) ((w ++ flat_map (spell_next spell_type) s.more) ++ fixed c q ∷ []) m (ap (λ z. (z ++ flat_map (spell_next spell_type) s.more) ++ fixed c q ∷ []) (sym g) ∙ e) in
          closes_off c closed (sym (ap begins_type (ap sign_of first ∙ sign_of-fixed c p (closes_fixed c closed))) ∙ type_first s.first t w is.0 g)

  only_closed : (p : Place) (o : Option (Separated TypeData)) (q : Place) (m : List MarkedToken) → IfAny AreTypes o → spell_closing c (o, q) ≡ fixed c p ∷ m → (k : Unit {0}) × Unit {0} × SameClosing (o, q) (None, p)
  only_closed p None q m is e = (tt, tt, ap (λ z. (None, z)) (same_fixed c (closes_fixed c closed) q p (head_of _ _ _ _ e)))
  only_closed p (Some s) q m is e = absurd (types_not_closed s p q m is e)

  pub closing_filled : (k : Closing) → spell_closing c k ≡ [] → ⊥
  closing_filled k e = token_last _ (fixed c k.1) e

  pub by_close : (p : Place) → Chooses (closing_form c) (fixed c p) nothing (λ _. (None, p)) 0
  by_close p = record {
    level = λ k is. refl;
    into = λ k is. tt;
    spells = λ k is. refl;
    only = λ x m is e. only_closed p x.0 x.1 m is e;
    empty = λ x is e. absurd (closing_filled x e);
    goes = λ k t is g. absurd (never g);
  }

  pub closed_found : (room : ℕ) (p : Place) (b rest : List MarkedToken) → b ≡ fixed c p ∷ rest → Found (closing_form c) room b (None, p) rest
  closed_found room p b rest e = (leads_by (closing_form c) (fixed c p) nothing (λ _. (None, p)) 0 (by_close p) room (omega arith) b rest e).finds tt rest (found_nothing room rest)

  abbrev pub some_closing : Form MarkedToken
  some_closing = then (nested types_form) (λ _. word c)

  abbrev pub make_closing : some_closing.Tree → Closing
  make_closing k = (Some k.0, k.1)

  only_types : (b : List MarkedToken) → ((p : Place) → Agrees b (fixed c p ∷ []) → ⊥) → (o : Option (Separated TypeData)) (q : Place) → IfAny AreTypes o → Agrees b (spell_closing c (o, q)) → (k : some_closing.Tree) × some_closing.IsTree k × SameClosing (o, q) (make_closing k)
  only_types b h None q is g = absurd (h q g)
  only_types b h (Some s) q is g = ((s, q), (is, tt), refl)

  pub as_types : (b : List MarkedToken) → ((p : Place) → Agrees b (fixed c p ∷ []) → ⊥) → Reshapes (closing_form c) some_closing make_closing b
  as_types b h = record {
    into = λ k is. is.0;
    spells = λ k is. refl;
    only = λ x is g. only_types b h x.0 x.1 is g;
    goes = λ k t is g. absurd (never g);
    level = λ k is. refl;
  }

  pub types_apart : Apart (nested types_form) (λ _. word c)
  types_apart = apart_class (nested types_form) (fixed c) (λ a q isa g. declared_off c closed (sym (ap goes_on_declared (sign_of-fixed c q (closes_fixed c closed))) ∙ g))

  begin_types : (room : ℕ) (b : List MarkedToken) → ((p : Place) → Agrees b (fixed c p ∷ []) → ⊥) → Leads (closing_form c) some_closing room make_closing b b
  begin_types room b h = leads_as (closing_form c) some_closing make_closing room b (as_types b h)

  module _ (room : ℕ) (more : 0 < room) (b d : List MarkedToken) (open_ : TakesPlace c b None d) where
    pub types_refused : (after : List MarkedToken) (e : Refusal) → Refuses types_form (room - 1) d e after → Refuses (closing_form c) room b e after
    types_refused after e h = let R : List MarkedToken → Type 0 = λ z. Refuses (nested types_form) room z e after in
        passes (closing_form c) some_closing room make_closing b b after e (begin_types room b open_.1)
        (first_refuses (nested types_form) (λ _. word c) types_apart room b after e (λ a is. (nowhere, tt)) (subst R (sym open_.0) (refuses_under types_form room (room - 1) (omega (arith, more)) d after e h)))

    module _ (s : Separated TypeData) (g : List MarkedToken) (f : Found types_form (room - 1) d s g) where
      behind_types : Leads (closing_form c) (word c) room (λ q. (Some s, q)) b g
      behind_types = let F : List MarkedToken → Type 0 = λ z. Found (nested types_form) room z s g in
          leads_on (closing_form c) some_closing (word c) room make_closing (beside (nested types_form) (λ _. word c) s) b b g (begin_types room b open_.1)
          (leads_behind (nested types_form) (λ _. word c) types_apart room b g s (subst F (sym open_.0) (found_under types_form room (room - 1) (omega (arith, more)) d g s f)))

      pub close_refused : (after : List MarkedToken) (e : Refusal) → Refuses (word c) 0 g e after → Refuses (closing_form c) room b e after
      close_refused after e h = passes (closing_form c) (word c) room (λ q. (Some s, q)) b g after e behind_types (word_refuses Place (fixed c) room g after e h)

      pub types_found : (q : Place) (after : List MarkedToken) → Found (word c) 0 g q after → Found (closing_form c) room b (Some s, q) after
      types_found q after h = behind_types.finds q after (word_in_any Place (fixed c) room g after q h)

-- Conditions may be left out.
pub starts_such : Starts such_form (tokens_of begins_such)
starts_such = record {
  filled = λ x is e. cc;
  first = λ x t m is e. among_at begins_such (key keywords.Such x.such) t _ m e (key_among begins_such keywords.Such x.such refl);
}

pub such_at_end : (room : ℕ) (b : List MarkedToken) → b ≡ [] → Found maybe_such_form room b None b
such_at_end room b e = let F : List MarkedToken → Type 0 = λ z. Found maybe_such_form room z None z in subst F (sym e) (found_none such_form (tokens_of begins_such) starts_such room [] tt)

such_begins : (s : Sign) (k : Keyword) → begins_such s k ≡ true → k ≡ keywords.Such
such_begins s keywords.Such e = refl
such_begins s _ e = cc

pub such_lacks : (room : ℕ) (t : MarkedToken) (b rest : List MarkedToken) → (keyword_of t ≡ keywords.Such → ⊥) → b ≡ t ∷ rest → Found maybe_such_form room b None b
such_lacks room t b rest differ e = let F : List MarkedToken → Type 0 = λ z. Found maybe_such_form room z None z in subst F (sym e) (found_none such_form (tokens_of begins_such) starts_such room (t ∷ rest) (λ g. differ (such_begins (sign_of t) (keyword_of t) g)))

begin_such : (room : ℕ) (t : MarkedToken) (b rest : List MarkedToken) → keyword_of t ≡ keywords.Such → b ≡ t ∷ rest → Leads maybe_such_form such_form room Some b b
begin_such room t b rest h e = begin_some such_form (tokens_of begins_such) starts_such room t b rest (ap (begins_such (sign_of t)) h)
    (record { such = t.token.place; that = nowhere; propositions = some_condition }, key keywords.That nowhere ∷ spell_propositions some_condition, (((tt, tt), tt), tt), ap (λ z. z ∷ (key keywords.That nowhere ∷ spell_propositions some_condition)) (sym (told_key keywords.Such t refl h))) e

pub such_part_refused : (room : ℕ) (t : MarkedToken) (b rest after : List MarkedToken) (r : Refusal) → keyword_of t ≡ keywords.Such → b ≡ t ∷ rest → Refuses such_form room b r after → Refuses maybe_such_form room b r after
such_part_refused room t b rest after r h e refused = passes maybe_such_form such_form room Some b b after r (begin_such room t b rest h e) refused

pub such_part_found : (room : ℕ) (t : MarkedToken) (x : SuchTree) (b rest after : List MarkedToken) → keyword_of t ≡ keywords.Such → b ≡ t ∷ rest → Found such_form room b x after → Found maybe_such_form room b (Some x) after
such_part_found room t x b rest after h e found = (begin_such room t b rest h e).finds x after found
