-- The readings of declarations.
use Rattle.std.specs.Prelude.{codes}
use Rattle.std.specs.declared.alloc.Global.{Global}
use Rattle.std.proofs.Common.{◌≡◌, ℕ, ◌+◌, ◌<◌, ◌≤◌, arith, length, length-append, Bool, true, false, ◌||◌, ◌&&◌, List, [], ◌∷◌, ◌++◌, map, refl, sym, ap, subst, ◌∙◌, Option, Some, None, Result, Ok, Err, Vec}
use Rattle.mz_base.specs.declared.place.Place.{Place}
use Rattle.mz_base.specs.declared.token.MarkedToken.{MarkedToken}
use Rattle.mz_forms.specs.declared.refusal.Refusal.{Refusal}
use Rattle.mz_forms.specs.Form.{Form, Agrees, Found, Fails, Leads, is_empty, then}
use Rattle.mz_forms.specs.Reading.{Refuses, Gives, Builds, Reads}
use Rattle.mz_forms.specs.Repeat.{maybe, spell_maybe, IsMaybe}
use Rattle.mz_forms.specs.Chain.{chain, spell_chain, levels_chain, AreLinked}
use Rattle.mz_forms.proofs.Compose.{Apart, head_of}
use Rattle.mz_forms.proofs.Choose.{Reshapes}
use Rattle.mz_forms.proofs.Chain.{Linked, Chained, chained_none, chained_step, chained_end, member_refused, chain_ends, pair_apart}
use Rattle.mz_forms.proofs.Descend.{passes_down}
use Rattle.mz_forms.proofs.Leads.{leads_as, leads_behind, leads_on, beside, passes, first_refuses, gives_through}
use Rattle.mz_forms.proofs.Lists.{either}
use Rattle.mz_forms.proofs.Maybe.{Starts}
use Rattle.mz_forms.proofs.Words.{behind_word, first_word_refuses}
use Rattle.mz_tree.specs.declared.word.Word.{Word}
use Rattle.mz_tree.specs.declared.word.Comma.{Comma}
use Rattle.mz_tree.specs.declared.word.Being.{Being}
use Rattle.mz_tree.specs.declared.chain.Chain.{Chain}
use Rattle.mz_tree.specs.declared.chain.Next.{Next}
use Rattle.mz_tree.specs.declared.nodes.DeclaredNode.{DeclaredNode}
use Rattle.mz_tree.specs.Spelled.{comma_token, being_token}
use Rattle.mz_tree.specs.Trees.{AdjectiveList, TypeData, ModeType, ModeOfType, StructureType, StructureOverType, DeclaredData, DeclarationsData, NextDeclaredList, PlainDeclared, TypedDeclared, NextNextDeclared, no_adjectives, no_next_declareds, more_next_declareds, next_declareds_of}
use Rattle.mz_tree.specs.Spell.{spell_type, spell_declared, spell_next_declared_list}
use Rattle.mz_tree.specs.Levels.{levels_type, levels_declared, levels_next_declared_list}
use Rattle.mz_tree.specs.Rules.{IsType, IsDeclared, AreDeclared, DividesAfter, ends_in_terms}
use Rattle.mz_tree.specs.Views.{declared_of, next_declared_of, declarations_of}
use Rattle.mz_pterm.specs.declared.sign.Sign.{Sign}
use Rattle.mz_pterm.specs.declared.sign.Sign.TheVariants as signs
use Rattle.mz_pterm.specs.Classes.{is_of, goes_on_terms}
use Rattle.mz_pterm.specs.Sign.{sign_of}
use Rattle.mz_pterm.specs.Words.{fixed, named, word, name}
use Rattle.mz_pterm.proofs.Signs.{told_fixed, sign_of-fixed, sign_of-named}
use Rattle.mz_pterm.proofs.Bases.{word_at}
use Rattle.mz_pterm.proofs.Steps.{told_rest}
use Rattle.mz_pterm.proofs.Loops.{map_push}
use Rattle.mz_ptype.specs.Classes.{is_over, is_being}
use Rattle.mz_ptype.specs.Forms.{whole_type, goes_type, being, behind_being, maybe_type, parts_of_declared, declared_from, declared_of_parts, goes_declared, declared_form, declared_ends_in_terms, goes_on_declared, declared_links, more_declared, next_declareds, declarations_form, declarations_with, TakesBeing, TakesComma, ReadsRestOfDeclarations}
use Rattle.mz_ptype.proofs.Optional.{never, true_not_false, starts_behind, behind_taken, behind_refused, behind_lacks}
use Rattle.mz_ptype.proofs.AdjectiveSteps.{nowhere}

-- `be` and `being`
abbrev be_at : Bool → Place → Being
be_at long p = record { place = p; long = long }

pub being_sign : (b : Being) → is_being (sign_of (being_token b)) ≡ true
being_sign b = go b.long refl
  where
    go : (l : Bool) → b.long ≡ l → is_being (sign_of (being_token b)) ≡ true
    go true e = ap (λ z. is_being (sign_of (being_token (be_at z b.place)))) e ∙ ap is_being (sign_of-fixed signs.Being b.place refl)
    go false e = ap (λ z. is_being (sign_of (being_token (be_at z b.place)))) e ∙ ap is_being (sign_of-fixed signs.Be b.place refl)

pub being_told : (t : MarkedToken) → is_being (sign_of t) ≡ true → (b : Being) × (being_token b ≡ t)
being_told t h = go (sign_of t) refl h
  where
    go : (s : Sign) → sign_of t ≡ s → is_being s ≡ true → (b : Being) × (being_token b ≡ t)
    go signs.Be e g = (be_at false t.token.place, sym (told_fixed signs.Be t refl e))
    go signs.Being e g = (be_at true t.token.place, sym (told_fixed signs.Being t refl e))
    go _ e g = cc

same_long : (p q : Place) (a b : Bool) → being_token (be_at a p) ≡ being_token (be_at b q) → a ≡ b
same_long p q true true e = refl
same_long p q false false e = refl
same_long p q true false e = absurd (differ (sym (sign_of-fixed signs.Being p refl) ∙ (ap sign_of e ∙ sign_of-fixed signs.Be q refl)))
  where
    differ : signs.Being ≡ signs.Be → ⊥
    differ f = cc
same_long p q false true e = absurd (differ (sym (sign_of-fixed signs.Be p refl) ∙ (ap sign_of e ∙ sign_of-fixed signs.Being q refl)))
  where
    differ : signs.Be ≡ signs.Being → ⊥
    differ f = cc

pub being_same : (a b : Being) → being_token a ≡ being_token b → a ≡ b
being_same a b e = ap (λ z. be_at a.long z) (ap (λ t. t.token.place) e) ∙ ap (λ z. be_at z b.place) (same_long a.place b.place a.long b.long e)

pub starts_being : (field : Bool) → Starts (behind_being field) (λ t. is_being (sign_of t))
starts_being field = starts_behind Being being_token being_same is_being being_sign being_told (whole_type field) (ModeType no_adjectives (word_at nowhere)) tt

pub typed_refused : (field : Bool) (room : ℕ) (x : Being) (b d after : List MarkedToken) (e : Refusal) → b ≡ being_token x ∷ d → Refuses (whole_type field) room d e after → Refuses (maybe_type field) room b e after
typed_refused field room x b d after e f h = behind_refused Being being_token being_same is_being being_sign being_told (whole_type field) (ModeType no_adjectives (word_at nowhere)) tt room x b d after e f h

pub typed_found : (field : Bool) (room : ℕ) (x : Being) (t : TypeData) (b d after : List MarkedToken) → b ≡ being_token x ∷ d → Found (whole_type field) room d t after → Found (maybe_type field) room b (Some (x, t)) after
typed_found field room x t b d after f h = (behind_taken Being being_token being_same is_being being_sign being_told (whole_type field) (ModeType no_adjectives (word_at nowhere)) tt room x b d f).finds t after h

pub type_lacks : (field : Bool) (room : ℕ) (b after : List MarkedToken) → TakesBeing b None after → Found (maybe_type field) room b None after
type_lacks field room b after h = behind_lacks Being being_token being_same is_being being_sign being_told (whole_type field) (ModeType no_adjectives (word_at nowhere)) tt room b after h.0 h.1

pub being_taken : (long : Bool) (t : MarkedToken) (b rest : List MarkedToken) → t ≡ being_token (be_at long t.token.place) → b ≡ t ∷ rest → TakesBeing b (Some (be_at long t.token.place)) rest
being_taken long t b rest h e = told_rest b rest t _ e h

pub no_being : (t : MarkedToken) (b rest : List MarkedToken) → (sign_of t ≡ signs.Be → ⊥) → (sign_of t ≡ signs.Being → ⊥) → b ≡ t ∷ rest → TakesBeing b None b
no_being t b rest n m e = (refl, λ x agrees. not (sign_of t) n m (ap (λ z. is_being (sign_of z)) (sym (subst (λ (z : List MarkedToken). Agrees z (being_token x ∷ [])) e agrees)) ∙ being_sign x))
  where
    not : (s : Sign) → (s ≡ signs.Be → ⊥) → (s ≡ signs.Being → ⊥) → is_being s ≡ true → ⊥
    not signs.Be n m g = n refl
    not signs.Being n m g = m refl
    not _ n m g = cc

pub being_at_end : (b : List MarkedToken) → b ≡ [] → TakesBeing b None b
being_at_end b e = (refl, λ x agrees. none x (subst (λ (z : List MarkedToken). Agrees z (being_token x ∷ [])) e agrees))
  where
    none : (x : Being) → Agrees [] (being_token x ∷ []) → ⊥
    none x h = h

-- A declared identifier.
pub name_apart : (field : Bool) → Apart (name signs.Identifier) (λ _. maybe_type field)
name_apart field w k s x isa isk e g = never g

parts_into : (field : Bool) (w : Word) (o : Option (Being × TypeData)) → IsMaybe (behind_being field) o → IsDeclared field (declared_from w o)
parts_into field w None is = tt
parts_into field w (Some a) is = is.1

parts_spell : (field : Bool) (w : Word) (o : Option (Being × TypeData)) → spell_declared (declared_from w o) ≡ named signs.Identifier w ∷ spell_maybe (behind_being field) o
parts_spell field w None = refl
parts_spell field w (Some a) = refl

parts_levels : (field : Bool) (w : Word) (o : Option (Being × TypeData)) → levels_declared (declared_from w o) ≡ (parts_of_declared field).levels (w, o)
parts_levels field w None = refl
parts_levels field w (Some a) = refl

pub only_parts : (field : Bool) (x : DeclaredData) → IsDeclared field x → (k : (parts_of_declared field).Tree) × (parts_of_declared field).IsTree k × (x ≡ declared_of_parts k)
only_parts field (PlainDeclared w) is = ((w, None), (tt, tt), refl)
only_parts field (TypedDeclared w b t) is = ((w, Some (b, t)), (tt, (tt, is)), refl)

declared_goes : (field : Bool) (w : Word) (o : Option (Being × TypeData)) (s : MarkedToken) → (parts_of_declared field).goes (w, o) s ≡ true → goes_declared (declared_from w o) (sign_of s) ≡ true
declared_goes field w None s g = either (is_being (sign_of s)) false true (λ h. absurd (never h)) g
declared_goes field w (Some a) s g = either (goes_type a.1 (sign_of s)) false (is_empty (spell_type a.1)) (λ h. absurd (never h)) (either ((behind_being field).goes a s) false false (λ h. absurd (never h)) g)

pub as_declared : (field : Bool) (b : List MarkedToken) → Reshapes (declared_form field) (parts_of_declared field) declared_of_parts b
as_declared field b = record {
  into = λ k is. parts_into field k.0 k.1 is.1;
  spells = λ k is. parts_spell field k.0 k.1;
  only = λ x is agrees. only_parts field x is;
  goes = λ k s is g. declared_goes field k.0 k.1 s g;
  level = λ k is. parts_levels field k.0 k.1;
}

begin_declared : (field : Bool) (room : ℕ) (b : List MarkedToken) → Leads (declared_form field) (parts_of_declared field) room declared_of_parts b b
begin_declared field room b = leads_as (declared_form field) (parts_of_declared field) declared_of_parts room b (as_declared field b)

pub name_refused : (field : Bool) (room : ℕ) (b after : List MarkedToken) (e : Refusal) → Refuses (name signs.Identifier) 0 b e after → Refuses (declared_form field) room b e after
name_refused field room b after e h = passes (declared_form field) (parts_of_declared field) room declared_of_parts b b after e (begin_declared field room b) (first_word_refuses Word (named signs.Identifier) (λ _. maybe_type field) (λ w. (None, tt)) room b after e h)

pub behind_name : (field : Bool) (room : ℕ) (b c : List MarkedToken) (w : Word) → Found (name signs.Identifier) 0 b w c → Leads (declared_form field) (maybe_type field) room (declared_from w) b c
behind_name field room b c w h = leads_on (declared_form field) (parts_of_declared field) (maybe_type field) room declared_of_parts (beside (name signs.Identifier) (λ _. maybe_type field) w) b b c (begin_declared field room b) (behind_word Word (named signs.Identifier) (λ _. maybe_type field) room b c w h)

pub declared_refused : (field : Bool) (room : ℕ) (b c after : List MarkedToken) (w : Word) (e : Refusal) → Found (name signs.Identifier) 0 b w c → Refuses (maybe_type field) room c e after → Refuses (declared_form field) room b e after
declared_refused field room b c after w e f h = passes (declared_form field) (maybe_type field) room (declared_from w) b c after e (behind_name field room b c w f) h

pub declared_found : (field : Bool) (room : ℕ) (b c after : List MarkedToken) (w : Word) (o : Option (Being × TypeData)) (x : DeclaredNode) → Found (name signs.Identifier) 0 b w c → Found (maybe_type field) room c o after → declared_of x ≡ declared_from w o → Found (declared_form field) room b (declared_of x) after
declared_found field room b c after w o x f h e = let F : DeclaredData → Type 0 = λ z. Found (declared_form field) room b z after in subst F (sym e) ((behind_name field room b c w f).finds o after h)

-- Commas.
abbrev comma_at : Bool → Place → Comma
comma_at divides p = record { place = p; dividing = divides }

abbrev pub comma_kind : Bool → Sign
comma_kind true = signs.DividingComma
comma_kind false = signs.ListComma

pub comma_signed : (c : Comma) → sign_of (comma_token c) ≡ comma_kind c.dividing
comma_signed c = go c.dividing c.place
  where
    go : (d : Bool) (p : Place) → sign_of (comma_token (comma_at d p)) ≡ comma_kind d
    go true p = sign_of-fixed signs.DividingComma p refl
    go false p = sign_of-fixed signs.ListComma p refl

same_kind : (a b : Bool) → comma_kind a ≡ comma_kind b → a ≡ b
same_kind true true e = refl
same_kind false false e = refl
same_kind true false e = cc
same_kind false true e = cc

pub comma_told : (a b : Comma) → comma_token a ≡ comma_token b → a ≡ b
comma_told a b e =
    let d : a.dividing ≡ b.dividing = same_kind a.dividing b.dividing (sym (comma_signed a) ∙ (ap sign_of e ∙ comma_signed b)) in
    ap (λ z. comma_at a.dividing z) (ap (λ t. t.token.place) e) ∙ ap (λ z. comma_at z b.place) d

-- the comma was taken
pub comma_taken : (ends divides : Bool) (t : MarkedToken) (b rest : List MarkedToken) → sign_of t ≡ comma_kind divides → DividesAfter ends (comma_at divides t.token.place) → b ≡ t ∷ rest → TakesComma ends b (Some (comma_at divides t.token.place)) rest
comma_taken ends true t b rest h may e = (told_rest b rest t _ e (told_fixed signs.DividingComma t refl h), may)
comma_taken ends false t b rest h may e = (told_rest b rest t _ e (told_fixed signs.ListComma t refl h), may)

any_comma : (ends : Bool) (p : Place) → DividesAfter ends (comma_at true p)
any_comma true p = refl
any_comma false p = tt

pub dividing_taken : (ends : Bool) (t : MarkedToken) (b rest : List MarkedToken) → sign_of t ≡ signs.DividingComma → b ≡ t ∷ rest → TakesComma ends b (Some (comma_at true t.token.place)) rest
dividing_taken ends t b rest h e = comma_taken ends true t b rest h (any_comma ends t.token.place) e

pub list_taken : (ends : Bool) (t : MarkedToken) (b rest : List MarkedToken) → sign_of t ≡ signs.ListComma → (ends ≡ true → ⊥) → b ≡ t ∷ rest → TakesComma ends b (Some (comma_at false t.token.place)) rest
list_taken true t b rest h off e = absurd (off refl)
list_taken false t b rest h off e = comma_taken false false t b rest h tt e

-- none comes next that may stand there
comma_of : (t : MarkedToken) (b rest : List MarkedToken) (c : Comma) → b ≡ t ∷ rest → Agrees b (comma_token c ∷ []) → sign_of t ≡ comma_kind c.dividing
comma_of t b rest c e agrees = ap sign_of (sym (subst (λ (z : List MarkedToken). Agrees z (comma_token c ∷ [])) e agrees)) ∙ comma_signed c

pub no_comma : (ends : Bool) (t : MarkedToken) (b rest : List MarkedToken) → (sign_of t ≡ signs.DividingComma → ⊥) → (sign_of t ≡ signs.ListComma → ⊥) → b ≡ t ∷ rest → TakesComma ends b None b
no_comma ends t b rest n m e = (refl, λ c may agrees. not c.dividing (comma_of t b rest c e agrees))
  where
    not : (d : Bool) → sign_of t ≡ comma_kind d → ⊥
    not true g = n g
    not false g = m g

pub list_not_taken : (ends : Bool) (t : MarkedToken) (b rest : List MarkedToken) → sign_of t ≡ signs.ListComma → ends ≡ true → b ≡ t ∷ rest → TakesComma ends b None b
list_not_taken true t b rest h on e = (refl, λ c may agrees. differ (sym h ∙ (comma_of t b rest c e agrees ∙ ap comma_kind may)))
  where
    differ : signs.ListComma ≡ signs.DividingComma → ⊥
    differ g = cc
list_not_taken false t b rest h on e = absurd (never on)

pub comma_at_end : (ends : Bool) (b : List MarkedToken) → b ≡ [] → TakesComma ends b None b
comma_at_end ends b e = (refl, λ c may agrees. none c (subst (λ (z : List MarkedToken). Agrees z (comma_token c ∷ [])) e agrees))
  where
    none : (c : Comma) → Agrees [] (comma_token c ∷ []) → ⊥
    none c h = h

-- Declarations are a chain.
terms_on : (s : Sign) → goes_on_terms s ≡ true → goes_on_declared s ≡ true
terms_on signs.ListComma e = refl
terms_on signs.DividingComma e = refl
terms_on signs.Be e = refl
terms_on signs.Being e = refl
terms_on signs.Over e = refl
terms_on _ e = e

being_on : (s : Sign) → is_being s ≡ true → goes_on_declared s ≡ true
being_on signs.Be e = refl
being_on signs.Being e = refl
being_on _ e = cc

of_on : (s : Sign) → is_of s ≡ true → goes_on_declared s ≡ true
of_on signs.Of e = refl
of_on _ e = cc

over_on : (s : Sign) → is_over s ≡ true → goes_on_declared s ≡ true
over_on signs.Over e = refl
over_on _ e = cc

type_on : (x : TypeData) (s : Sign) → goes_type x s ≡ true → goes_on_declared s ≡ true
type_on (ModeType a w) s g = of_on s g
type_on (ModeOfType a w p ts) s g = terms_on s g
type_on (StructureType a w) s g = over_on s g
type_on (StructureOverType a w p ts) s g = terms_on s g

pub declared_on : (x : DeclaredData) (s : Sign) → goes_declared x s ≡ true → goes_on_declared s ≡ true
declared_on (PlainDeclared w) s g = being_on s g
declared_on (TypedDeclared w b t) s g = type_on t s g

kind_on : (d : Bool) → goes_on_declared (comma_kind d) ≡ true
kind_on true = refl
kind_on false = refl

no_being_comma : (d : Bool) → is_being (comma_kind d) ≡ true → ⊥
no_being_comma true g = never g
no_being_comma false g = never g

no_of_comma : (d : Bool) → is_of (comma_kind d) ≡ true → ⊥
no_of_comma true g = never g
no_of_comma false g = never g

no_over_comma : (d : Bool) → is_over (comma_kind d) ≡ true → ⊥
no_over_comma true g = never g
no_over_comma false g = never g

no_terms_comma : (d : Bool) → d ≡ true → goes_on_terms (comma_kind d) ≡ true → ⊥
no_terms_comma true e g = never g
no_terms_comma false e g = never e

type_comma : (x : TypeData) (c : Comma) → DividesAfter (ends_in_terms x) c → goes_type x (comma_kind c.dividing) ≡ true → ⊥
type_comma (ModeType a w) c may g = no_of_comma c.dividing g
type_comma (ModeOfType a w p ts) c may g = no_terms_comma c.dividing may g
type_comma (StructureType a w) c may g = no_over_comma c.dividing g
type_comma (StructureOverType a w p ts) c may g = no_terms_comma c.dividing may g

declared_comma : (x : DeclaredData) (c : Comma) → DividesAfter (declared_ends_in_terms x) c → goes_declared x (comma_kind c.dividing) ≡ true → ⊥
declared_comma (PlainDeclared w) c may g = no_being_comma c.dividing g
declared_comma (TypedDeclared w b t) c may g = type_comma t c may g

pub linked_declared : (field : Bool) → Linked (declared_links field)
linked_declared field = record {
  told = λ a b e. comma_told a b e;
  weaker = λ x t is g. declared_on x (sign_of t) g;
  on = λ c. ap goes_on_declared (comma_signed c) ∙ kind_on c.dividing;
  apart = λ x c is may g. declared_comma x c may (sym (ap (goes_declared x) (comma_signed c)) ∙ g);
}

abbrev pub with_comma : Next Comma DeclaredNode → Comma × DeclaredData
with_comma n = (n.sign, declared_of n.tree)

abbrev pub Declared : Bool → ℕ → Bool → Bool → List (Comma × DeclaredData) → List MarkedToken → List MarkedToken → Type 0
Declared field room st so so_far b c = Chained (declared_links field) (linked_declared field) room room st so [] so_far b c

pub declared_none : (field : Bool) (room : ℕ) (st so : Bool) (v : List (Next Comma DeclaredNode)) (b : List MarkedToken) → so ≡ st → v ≡ [] → Declared field room st so (map with_comma v) b b
declared_none field room st so v b same e =
    let P : List (Next Comma DeclaredNode) → Type 0 = λ z. Declared field room st so (map with_comma z) b b in
    let S : Bool → Type 0 = λ z. Declared field room st z [] b b in
    subst P (sym e) (subst S (sym same) (chained_none (declared_links field) (linked_declared field) room st [] b))

pub declared_step : (field : Bool) (room : ℕ) (st so now : Bool) (c : Comma) (t : DeclaredNode) (v w : List (Next Comma DeclaredNode)) (b d e g : List MarkedToken) → Declared field room st so (map with_comma v) b d → w ≡ v ++ record { sign = c; tree = t } ∷ [] →
    TakesComma so d (Some c) e → Found (declared_form field) room e (declared_of t) g → now ≡ declared_ends_in_terms (declared_of t) → Declared field room st now (map with_comma w) b g
declared_step field room st so now c t v w b d e g so_far grown taken found same =
    let S : Bool → Type 0 = λ z. Declared field room st z (map with_comma w) b g in
    subst S (sym same) (chained_step (declared_links field) (linked_declared field) room room room st so c (declared_of t) [] (map with_comma v) (map with_comma w) b d e g so_far (map_push with_comma v w (record { sign = c; tree = t }) grown) refl taken.1 taken.0 found)

pub rest_refused : (field : Bool) (room : ℕ) (st so : Bool) (c : Comma) (so_far : List (Comma × DeclaredData)) (b d e after : List MarkedToken) (r : Refusal) → Declared field room st so so_far b d → TakesComma so d (Some c) e → Refuses (declared_form field) room e r after → Refuses (more_declared field st) room b r after
rest_refused field room st so c so_far b d e after r chained taken refused =
    passes_down (more_declared field st) (more_declared field so) room room (λ ps. chained.taken ++ ps) b d after r chained.leads (member_refused (declared_links field) (linked_declared field) so c room room d e after r refl taken.1 taken.0 refused)

-- what is left is less
pub shorter_declared : (field : Bool) (room : ℕ) (so : Bool) (c : Comma) (x : DeclaredData) (b d e : List MarkedToken) → TakesComma so b (Some c) d → Found (declared_form field) room d x e → length e < length b
shorter_declared field room so c x b d e taken h =
    let f : length b ≡ length (comma_token c ∷ d) = ap length taken.0 in
    let g : length d ≡ length (spell_declared x ++ e) = ap length h.found.split in
    let i : length (spell_declared x ++ e) ≡ length (spell_declared x) + length e = length-append (spell_declared x) e in
    omega (arith, f, g, i)

next_seen : (ns : List (Next Comma DeclaredNode)) → next_declareds (map with_comma ns) ≡ next_declareds_of (map next_declared_of ns)
next_seen [] = refl
next_seen (n ∷ ns) = ap (λ z. more_next_declareds (NextNextDeclared n.sign (declared_of n.tree)) z) (next_seen ns)

pub rest_found : (field : Bool) (room : ℕ) (so : Bool) (first now : DeclaredNode) (v : Vec (Next Comma DeclaredNode) Global) (b d after : List MarkedToken) → now ≡ first → Declared field room (declared_ends_in_terms (declared_of first)) so (map with_comma v.items) b d → TakesComma so d None after →
    Builds (more_declared field (declared_ends_in_terms (declared_of first))) room (declarations_with (declared_of first)) (declarations_of (record { first = now; more = v })) b after
rest_found field room so first now v b d after same chained none =
    let st = declared_ends_in_terms (declared_of first) in
    let F : List MarkedToken → Type 0 = λ z. Found (more_declared field so) room d [] z in
    let k = chained_end (declared_links field) (linked_declared field) room room st so [] (map with_comma v.items) b d after chained (subst F none.0 (chain_ends (declared_links field) (linked_declared field) so room d (λ c may agrees. none.1 c may agrees))) in
    (k.0, k.1, ap (λ z. record { first = declared_of z; more = next_declareds_of (map next_declared_of v.items) }) same ∙ ap (λ z. record { first = declared_of first; more = z }) (sym (next_seen v.items) ∙ ap next_declareds k.2))

-- Declarations are one, and a chain of others.
next_spells : (field : Bool) (ps : List (Comma × DeclaredData)) → spell_next_declared_list (next_declareds ps) ≡ spell_chain (declared_links field) ps
next_spells field [] = refl
next_spells field (p ∷ ps) = ap (λ z. comma_token p.0 ∷ (spell_declared p.1 ++ z)) (next_spells field ps)

next_levels : (field : Bool) (ps : List (Comma × DeclaredData)) → levels_next_declared_list (next_declareds ps) ≡ levels_chain (declared_links field) ps
next_levels field [] = refl
next_levels field (p ∷ ps) = ap (λ z. 0 ∷ (levels_declared p.1 ++ z)) (next_levels field ps)

divides_into : (field : Bool) (d e : DeclaredData) (c : Comma) (es : NextDeclaredList) → DividesAfter (declared_ends_in_terms d) c → IsDeclared field e → AreDeclared field e es → AreDeclared field d (more_next_declareds (NextNextDeclared c e) es)
divides_into field (PlainDeclared w) e c es may is are = (may, is, are)
divides_into field (TypedDeclared w b t) e c es may is are = (may, is, are)

divides_from : (field : Bool) (d e : DeclaredData) (c : Comma) (es : NextDeclaredList) → AreDeclared field d (more_next_declareds (NextNextDeclared c e) es) → DividesAfter (declared_ends_in_terms d) c × IsDeclared field e × AreDeclared field e es
divides_from field (PlainDeclared w) e c es are = are
divides_from field (TypedDeclared w b t) e c es are = are

next_into : (field : Bool) (d : DeclaredData) (ps : List (Comma × DeclaredData)) → AreLinked (declared_links field) (declared_ends_in_terms d) ps → AreDeclared field d (next_declareds ps)
next_into field d [] h = tt
next_into field d (p ∷ ps) h = divides_into field d p.1 p.0 (next_declareds ps) h.0 h.1 (next_into field p.1 ps h.2)

only_next : (field : Bool) (d : DeclaredData) (x : NextDeclaredList) → AreDeclared field d x → (ps : List (Comma × DeclaredData)) × AreLinked (declared_links field) (declared_ends_in_terms d) ps × (x ≡ next_declareds ps)
only_next field d no_next_declareds h = ([], tt, refl)
only_next field d (more_next_declareds (NextNextDeclared c e) es) h =
    let g = divides_from field d e c es h in
    let k = only_next field e es g.2 in
    ((c, e) ∷ k.0, (g.0, g.1, k.1), ap (λ z. more_next_declareds (NextNextDeclared c e) z) k.2)

abbrev pub behind_declared : Bool → DeclaredData → Form MarkedToken
behind_declared field d = more_declared field (declared_ends_in_terms d)

abbrev pub some_declared : Bool → Form MarkedToken
some_declared field = then (declared_form field) (behind_declared field)

abbrev pub make_declarations : (DeclaredData × List (Comma × DeclaredData)) → DeclarationsData
make_declarations k = declarations_with k.0 k.1

pub only_declarations : (field : Bool) (x : DeclarationsData) → (declarations_form field).IsTree x → (k : (some_declared field).Tree) × (some_declared field).IsTree k × (x ≡ make_declarations k)
only_declarations field x is = let k = only_next field x.first x.more is.1 in ((x.first, k.0), (is.0, k.1), ap (λ z. record { first = x.first; more = z }) k.2)

pub as_declarations : (field : Bool) (b : List MarkedToken) → Reshapes (declarations_form field) (some_declared field) make_declarations b
as_declarations field b = record {
  into = λ k is. (is.0, next_into field k.0 k.1 is.1);
  spells = λ k is. ap (λ z. spell_declared k.0 ++ z) (next_spells field k.1);
  only = λ x is agrees. only_declarations field x is;
  goes = λ k t is g. either (goes_on_declared (sign_of t)) (goes_declared k.0 (sign_of t)) (is_empty (spell_chain (declared_links field) k.1)) (declared_on k.0 (sign_of t)) g;
  level = λ k is. ap (λ z. levels_declared k.0 ++ z) (next_levels field k.1);
}

begin_declarations : (field : Bool) (room : ℕ) (b : List MarkedToken) → Leads (declarations_form field) (some_declared field) room make_declarations b b
begin_declarations field room b = leads_as (declarations_form field) (some_declared field) make_declarations room b (as_declarations field b)

pub first_refused : (field : Bool) (room : ℕ) (b after : List MarkedToken) (e : Refusal) → Refuses (declared_form field) room b e after → Refuses (declarations_form field) room b e after
first_refused field room b after e h = passes (declarations_form field) (some_declared field) room make_declarations b b after e (begin_declarations field room b)
    (first_refuses (declared_form field) (behind_declared field) (pair_apart (declared_links field) (linked_declared field)) room b after e (λ a is. ([], tt)) h)

pub declarations_from : (field : Bool) (room : ℕ) (d : DeclaredNode) (b c after : List MarkedToken) (r : Result (Chain Comma DeclaredNode) Refusal) → Found (declared_form field) room b (declared_of d) c → ReadsRestOfDeclarations field room (declared_of d) c r after → Reads (declarations_form field) room declarations_of b r after
declarations_from field room d b c after r found given =
    let K = behind_declared field (declared_of d) in
    let leads = leads_on (declarations_form field) (some_declared field) K room make_declarations (beside (declared_form field) (behind_declared field) (declared_of d)) b b c (begin_declarations field room b)
    (leads_behind (declared_form field) (behind_declared field) (pair_apart (declared_links field) (linked_declared field)) room b c (declared_of d) found) in
    gives_through (declarations_form field) K room (λ x. Found (declarations_form field) room b (declarations_of x) after) (λ x. Builds K room (declarations_with (declared_of d)) (declarations_of x) c after) (declarations_with (declared_of d)) b c after r
    (λ x k. let F : DeclarationsData → Type 0 = λ z. Found (declarations_form field) room b z after in subst F (sym k.2) (leads.finds k.0 after k.1))
    leads given
