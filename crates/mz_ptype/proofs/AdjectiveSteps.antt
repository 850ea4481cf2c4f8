-- The readings of adjectives.
use Rattle.std.specs.Prelude.{codes}
use Rattle.std.specs.declared.alloc.Global.{Global}
use Rattle.std.proofs.Common.{◌≡◌, ℕ, ◌+◌, ◌<◌, ◌≤◌, arith, length, length-append, Bool, true, false, ◌||◌, ◌&&◌, List, [], ◌∷◌, ◌++◌, map, suc, refl, sym, ap, subst, ◌∙◌, append_assoc, Option, Some, None, Vec}
use Rattle.mz_base.specs.declared.place.Place.{Place}
use Rattle.mz_base.specs.declared.symbol_kind.SymbolKind.TheVariants as symbols
use Rattle.mz_base.specs.declared.token.MarkedToken.{MarkedToken}
use Rattle.mz_forms.specs.declared.refusal.Refusal.{Refusal}
use Rattle.mz_forms.specs.Form.{Form, Agrees, Found, Fails, Leads, is_empty, then, nested}
use Rattle.mz_forms.specs.Reading.{Refuses}
use Rattle.mz_forms.specs.Repeat.{many, maybe, spell_all, levels_all, AreAll, spell_maybe, IsMaybe, levels_maybe}
use Rattle.mz_forms.proofs.Compose.{Apart, head_of, append_nil}
use Rattle.mz_forms.proofs.Choose.{Turns, Reshapes}
use Rattle.mz_forms.proofs.Leads.{leads_turn, leads_as, leads_behind, leads_on, beside, passes, first_refuses}
use Rattle.mz_forms.proofs.Lists.{Repeats, Begun, Listing, listing_none, listing_step, listing_end, go_on, member_refused, no_more, Stops, either, pair, pair_apart}
use Rattle.mz_forms.proofs.Maybe.{Starts, Lacks, begin_some, found_none}
use Rattle.mz_forms.proofs.Words.{word_in_any, word_refuses}
use Rattle.mz_tree.specs.declared.word.Word.{Word}
use Rattle.mz_tree.specs.declared.nodes.AdjectiveNode.{AdjectiveNode}
use Rattle.mz_tree.specs.Spelled.{special, identifier, symbol, non_of}
use Rattle.mz_tree.specs.Trees.{TermsData, AdjectiveData, AdjectivesData, AdjectiveList, PlainAdjective, WithIdentifierAdjective, WithTermsAdjective, no_adjectives, more_adjectives, adjectives_of}
use Rattle.mz_tree.specs.Spell.{spell_terms, spell_adjective, spell_adjective_list}
use Rattle.mz_tree.specs.Levels.{levels_terms, levels_adjective, levels_adjective_list, non_levels}
use Rattle.mz_tree.specs.Rules.{AreTerms, IsAdjective, AreAdjectives}
use Rattle.mz_tree.specs.Views.{adjective_of}
use Rattle.mz_pterm.specs.declared.sign.Sign.{Sign}
use Rattle.mz_pterm.specs.declared.sign.Sign.TheVariants as signs
use Rattle.mz_pterm.specs.Sign.{sign_of}
use Rattle.mz_pterm.specs.Words.{fixed, named, word_of, word, name, TakesPlace}
use Rattle.mz_pterm.specs.Forms.{bracket}
use Rattle.mz_pterm.proofs.Signs.{told_fixed, told_named, sign_of-fixed, sign_of-named, same_fixed}
use Rattle.mz_pterm.proofs.Bases.{word_at, terms_at}
use Rattle.mz_pterm.proofs.Loops.{map_push}
use Rattle.mz_ptype.specs.Classes.{is_non, begins_argument, begins_adjective, next_is}
use Rattle.mz_ptype.specs.Forms.{non_form, Argument, identifier_argument, terms_argument, spell_argument, IsArgument, argument_form, maybe_argument, argued, parts_of_adjective, adjective_from, adjective_of_parts, adjective_form, adjective_list_form, adjectives_form, list_of_adjectives}
use Rattle.mz_ptype.proofs.Optional.{never, true_not_false, token_in, last_of_or, off_and, starts_class, class_taken, class_lacks}

abbrev pub nowhere : Place
nowhere = record { line = 0; column = 0 }

-- the class holds of the first token
pub begun_at : (c : Sign → Bool) (s t : MarkedToken) (v w : List MarkedToken) → s ∷ v ≡ t ∷ w → c (sign_of s) ≡ true → c (sign_of t) ≡ true
begun_at c s t v w e h = let C : MarkedToken → Type 0 = λ z. c (sign_of z) ≡ true in subst C (head_of _ _ _ _ e) h

-- `non`
non_only : (s : Sign) → is_non s ≡ true → s ≡ signs.Non
non_only signs.Non e = refl
non_only _ e = cc

non_told : (t : MarkedToken) → is_non (sign_of t) ≡ true → (x : Place) × (fixed signs.Non x ≡ t)
non_told t h = (t.token.place, sym (told_fixed signs.Non t refl (non_only (sign_of t) h)))

non_own : (x : Place) → is_non (sign_of (fixed signs.Non x)) ≡ true
non_own x = ap is_non (sign_of-fixed signs.Non x refl)

pub non_taken : (room : ℕ) (p : Place) (b after : List MarkedToken) → b ≡ fixed signs.Non p ∷ after → Found non_form room b (Some p) after
non_taken room p b after e = class_taken Place (fixed signs.Non) (same_fixed signs.Non refl) is_non non_own non_told room p b after e

pub non_lacks : (room : ℕ) (b after : List MarkedToken) → b ≡ after → ((x : Place) → Agrees b (fixed signs.Non x ∷ []) → ⊥) → Found non_form room b None after
non_lacks room b after e h = class_lacks Place (fixed signs.Non) (same_fixed signs.Non refl) is_non non_own non_told room b after e h

pub non_read : (room : ℕ) (b after : List MarkedToken) (r : Option Place) → TakesPlace signs.Non b r after → Found non_form room b r after
non_read room b after (Some p) h = non_taken room p b after h
non_read room b after None h = non_lacks room b after h.0 h.1

pub starts_non : Starts (word signs.Non) (λ t. is_non (sign_of t))
starts_non = starts_class Place (fixed signs.Non) (same_fixed signs.Non refl) is_non non_own non_told

-- Arguments.
argument_filled : (x : Argument) → spell_argument x ≡ [] → ⊥
argument_filled (identifier_argument w) e = cc
argument_filled (terms_argument p ts q) e = cc

argument_begins : (x : Argument) (t : MarkedToken) (m : List MarkedToken) → spell_argument x ≡ t ∷ m → begins_argument (sign_of t) ≡ true
argument_begins (identifier_argument w) t m e = begun_at begins_argument _ t _ m e (ap begins_argument (sign_of-named signs.Identifier w refl))
argument_begins (terms_argument p ts q) t m e = begun_at begins_argument _ t _ m e (ap begins_argument (sign_of-fixed signs.Open p refl))

pub starts_argument : (field : Bool) → Starts (argument_form field) (λ t. begins_argument (sign_of t))
starts_argument field = record { filled = λ x is e. argument_filled x e; first = λ x t m is e. argument_begins x t m e }

only_named : (t : MarkedToken) (x : Argument) (m : List MarkedToken) → sign_of t ≡ signs.Identifier → spell_argument x ≡ t ∷ m → (k : Word) × Unit {0} × (x ≡ identifier_argument k)
only_named t (identifier_argument w) m h e = (w, tt, refl)
only_named t (terms_argument p ts q) m h e = absurd (clash (sym (sign_of-fixed signs.Open p refl) ∙ (ap sign_of (head_of _ _ _ _ e) ∙ h)))
  where
    clash : signs.Open ≡ signs.Identifier → ⊥
    clash g = cc

pub turn_named : (field : Bool) (t : MarkedToken) → sign_of t ≡ signs.Identifier → Turns (argument_form field) (name signs.Identifier) identifier_argument t
turn_named field t h = record {
  into = λ k is. tt;
  spells = λ k is. refl;
  only = λ x m is e. only_named t x m h e;
  empty = λ x is e. absurd (argument_filled x e);
  filled = λ k is e. cc;
  goes = λ k s is g. g;
  level = λ k is. refl;
  begins = (word_of t, [], tt, ap (λ z. z ∷ []) (sym (told_named signs.Identifier t refl h)));
}

abbrev pub make_argument : (Place × (TermsData × Place)) → Argument
make_argument k = terms_argument k.0 k.1.0 k.1.1

abbrev pub parentheses : Bool → Form MarkedToken
parentheses field = bracket field signs.Open signs.Close

only_terms : (field : Bool) (t : MarkedToken) (x : Argument) (m : List MarkedToken) → sign_of t ≡ signs.Open → IsArgument field x → spell_argument x ≡ t ∷ m → (k : (parentheses field).Tree) × (parentheses field).IsTree k × (x ≡ make_argument k)
only_terms field t (identifier_argument w) m h is e = absurd (clash (sym (sign_of-named signs.Identifier w refl) ∙ (ap sign_of (head_of _ _ _ _ e) ∙ h)))
  where
    clash : signs.Identifier ≡ signs.Open → ⊥
    clash g = cc
only_terms field t (terms_argument p ts q) m h is e = ((p, (ts, q)), (tt, (is, tt)), refl)

-- nothing goes on what a token closes
closed : (w : List MarkedToken) (t : MarkedToken) → (false || (is_empty (w ++ t ∷ []) && false)) ≡ true → ⊥
closed [] t g = cc
closed (s ∷ w) t g = cc

abbrev some_parentheses : (field : Bool) (p : Place) → (k : (parentheses field).Tree) × (parentheses field).IsTree k
some_parentheses field p = ((p, (terms_at p, p)), (tt, (((tt, tt), tt), tt)))

pub turn_terms : (field : Bool) (t : MarkedToken) → sign_of t ≡ signs.Open → Turns (argument_form field) (parentheses field) make_argument t
turn_terms field t h = record {
  into = λ k is. is.1.0;
  spells = λ k is. refl;
  only = λ x m is e. only_terms field t x m h is e;
  empty = λ x is e. absurd (argument_filled x e);
  filled = λ k is e. cc;
  goes = λ k s is g. absurd (closed (spell_terms k.1.0) (fixed signs.Close k.1.1) g);
  level = λ k is. refl;
  begins = ((t.token.place, (terms_at t.token.place, t.token.place)), spell_terms (terms_at t.token.place) ++ fixed signs.Close t.token.place ∷ [], (tt, (((tt, tt), tt), tt)), ap (λ z. z ∷ (spell_terms (terms_at t.token.place) ++ fixed signs.Close t.token.place ∷ [])) (sym (told_fixed signs.Open t refl h)));
}

-- the argument that this token begins
pub begin_named : (field : Bool) (room : ℕ) (t : MarkedToken) (b rest : List MarkedToken) → sign_of t ≡ signs.Identifier → b ≡ t ∷ rest → Leads (maybe_argument field) (name signs.Identifier) room (λ w. Some (identifier_argument w)) b b
begin_named field room t b rest h e = leads_on (maybe_argument field) (argument_form field) (name signs.Identifier) room Some identifier_argument b b b
    (begin_some (argument_form field) (λ z. begins_argument (sign_of z)) (starts_argument field) room t b rest (ap begins_argument h) (identifier_argument (word_of t), [], tt, ap (λ z. z ∷ []) (sym (told_named signs.Identifier t refl h))) e)
    (leads_turn (argument_form field) (name signs.Identifier) identifier_argument t (turn_named field t h) room b rest e)

pub begin_parentheses : (field : Bool) (room : ℕ) (t : MarkedToken) (b rest : List MarkedToken) → sign_of t ≡ signs.Open → b ≡ t ∷ rest → Leads (maybe_argument field) (parentheses field) room (λ k. Some (make_argument k)) b b
begin_parentheses field room t b rest h e = leads_on (maybe_argument field) (argument_form field) (parentheses field) room Some make_argument b b b
    (begin_some (argument_form field) (λ z. begins_argument (sign_of z)) (starts_argument field) room t b rest (ap begins_argument h)
    (make_argument (some_parentheses field t.token.place).0, spell_terms (terms_at t.token.place) ++ fixed signs.Close t.token.place ∷ [], ((tt, tt), tt), ap (λ z. z ∷ (spell_terms (terms_at t.token.place) ++ fixed signs.Close t.token.place ∷ [])) (sym (told_fixed signs.Open t refl h))) e)
    (leads_turn (argument_form field) (parentheses field) make_argument t (turn_terms field t h) room b rest e)

not_argument : (s : Sign) → (s ≡ signs.Identifier → ⊥) → (s ≡ signs.Open → ⊥) → begins_argument s ≡ true → ⊥
not_argument signs.Identifier i o e = i refl
not_argument signs.Open i o e = o refl
not_argument _ i o e = cc

pub argument_at_end : (field : Bool) (room : ℕ) (b : List MarkedToken) → b ≡ [] → Found (maybe_argument field) room b None b
argument_at_end field room b e =
    let F : List MarkedToken → Type 0 = λ z. Found (maybe_argument field) room z None z in
    subst F (sym e) (found_none (argument_form field) (λ z. begins_argument (sign_of z)) (starts_argument field) room [] tt)

pub argument_lacks : (field : Bool) (room : ℕ) (t : MarkedToken) (b rest : List MarkedToken) → (sign_of t ≡ signs.Identifier → ⊥) → (sign_of t ≡ signs.Open → ⊥) → b ≡ t ∷ rest → Found (maybe_argument field) room b None b
argument_lacks field room t b rest i o e =
    let F : List MarkedToken → Type 0 = λ z. Found (maybe_argument field) room z None z in
    subst F (sym e) (found_none (argument_form field) (λ z. begins_argument (sign_of z)) (starts_argument field) room (t ∷ rest) (not_argument (sign_of t) i o))

-- An adjective is `non` or nothing, an argument or nothing, and an attribute.
not_attribute : (s : Sign) → s ≡ signs.Attribute → begins_argument s ≡ true → ⊥
not_attribute s e g = never (sym (ap begins_argument e) ∙ g)

attribute_sign : (w : Word) (s : MarkedToken) (v x : List MarkedToken) → named signs.Attribute w ∷ v ≡ s ∷ x → sign_of s ≡ signs.Attribute
attribute_sign w s v x e = sym (ap sign_of (head_of _ _ _ _ e)) ∙ sign_of-named signs.Attribute w refl

pub argument_apart : (field : Bool) → Apart (maybe_argument field) (λ _. name signs.Attribute)
argument_apart field None w s x isa isk e g = not_attribute (sign_of s) (attribute_sign w s [] x e) g
argument_apart field (Some a) w s x isa isk e g = never g

argued_first : (field : Bool) (o : Option Argument) (w : Word) (s : MarkedToken) (x : List MarkedToken) → spell_maybe (argument_form field) o ++ (named signs.Attribute w ∷ []) ≡ s ∷ x → is_non (sign_of s) ≡ true → ⊥
argued_first field None w s x e g = never (sym (ap is_non (attribute_sign w s [] x e)) ∙ g)
argued_first field (Some (identifier_argument v)) w s x e g = never (sym (ap is_non (sign_of-named signs.Identifier v refl)) ∙ (ap (λ z. is_non (sign_of z)) (head_of _ _ _ _ e) ∙ g))
argued_first field (Some (terms_argument p ts q)) w s x e g = never (sym (ap is_non (sign_of-fixed signs.Open p refl)) ∙ (ap (λ z. is_non (sign_of z)) (head_of _ _ _ _ e) ∙ g))

pub non_apart : (field : Bool) → Apart non_form (λ _. argued field)
non_apart field None k s x isa isk e g = argued_first field k.0 k.1 s x e g
non_apart field (Some p) k s x isa isk e g = never g

parts_into : (field : Bool) (non : Option Place) (o : Option Argument) (w : Word) → IsMaybe (argument_form field) o → IsAdjective field (adjective_from non o w)
parts_into field non None w is = tt
parts_into field non (Some (identifier_argument v)) w is = tt
parts_into field non (Some (terms_argument p ts q)) w is = is

parts_spell : (field : Bool) (non : Option Place) (o : Option Argument) (w : Word) → spell_adjective (adjective_from non o w) ≡ spell_maybe (word signs.Non) non ++ (spell_maybe (argument_form field) o ++ (named signs.Attribute w ∷ []))
parts_spell field None None w = refl
parts_spell field (Some r) None w = refl
parts_spell field None (Some (identifier_argument v)) w = refl
parts_spell field (Some r) (Some (identifier_argument v)) w = refl
parts_spell field None (Some (terms_argument p ts q)) w = ap (λ z. special p (codes "(") ∷ z) (sym (append_assoc (spell_terms ts) (special q (codes ")") ∷ []) (named signs.Attribute w ∷ [])))
parts_spell field (Some r) (Some (terms_argument p ts q)) w = ap (λ z. fixed signs.Non r ∷ (special p (codes "(") ∷ z)) (sym (append_assoc (spell_terms ts) (special q (codes ")") ∷ []) (named signs.Attribute w ∷ [])))

parts_levels : (field : Bool) (non : Option Place) (o : Option Argument) (w : Word) → levels_adjective (adjective_from non o w) ≡ levels_maybe (word signs.Non) non ++ (levels_maybe (argument_form field) o ++ (0 ∷ []))
parts_levels field None None w = refl
parts_levels field (Some r) None w = refl
parts_levels field None (Some (identifier_argument v)) w = refl
parts_levels field (Some r) (Some (identifier_argument v)) w = refl
parts_levels field None (Some (terms_argument p ts q)) w = ap (λ z. 1 ∷ z) (sym (append_assoc (map suc (levels_terms ts)) (0 ∷ []) (0 ∷ [])))
parts_levels field (Some r) (Some (terms_argument p ts q)) w = ap (λ z. 0 ∷ (1 ∷ z)) (sym (append_assoc (map suc (levels_terms ts)) (0 ∷ []) (0 ∷ [])))

non_is : (o : Option Place) → IsMaybe (word signs.Non) o
non_is None = tt
non_is (Some p) = tt

pub only_parts : (field : Bool) (x : AdjectiveData) → IsAdjective field x → (k : (parts_of_adjective field).Tree) × (parts_of_adjective field).IsTree k × (x ≡ adjective_of_parts k)
only_parts field (PlainAdjective non w) is = ((non, (None, w)), (non_is non, (tt, tt)), refl)
only_parts field (WithIdentifierAdjective non v w) is = ((non, (Some (identifier_argument v), w)), (non_is non, (tt, tt)), refl)
only_parts field (WithTermsAdjective non p ts q w) is = ((non, (Some (terms_argument p ts q), w)), (non_is non, (is, tt)), refl)

parts_closed : (field : Bool) (k : (parts_of_adjective field).Tree) (s : MarkedToken) → (parts_of_adjective field).goes k s ≡ true → ⊥
parts_closed field k s g =
    let w = spell_maybe (argument_form field) k.1.0 in
    let e : is_empty (w ++ (named signs.Attribute k.1.1 ∷ [])) ≡ false = token_in w [] (named signs.Attribute k.1.1) in
    off_and (is_empty (w ++ (named signs.Attribute k.1.1 ∷ []))) (non_form.goes k.0 s) e g

pub as_parts : (field : Bool) (b : List MarkedToken) → Reshapes (adjective_form field) (parts_of_adjective field) adjective_of_parts b
as_parts field b = record {
  into = λ k is. parts_into field k.0 k.1.0 k.1.1 is.1.0;
  spells = λ k is. parts_spell field k.0 k.1.0 k.1.1;
  only = λ x is agrees. only_parts field x is;
  goes = λ k s is g. absurd (parts_closed field k s g);
  level = λ k is. parts_levels field k.0 k.1.0 k.1.1;
}

pub behind_non : (field : Bool) (room : ℕ) (b c : List MarkedToken) (non : Option Place) → Found non_form room b non c → Leads (adjective_form field) (argued field) room (λ k. adjective_from non k.0 k.1) b c
behind_non field room b c non h = leads_on (adjective_form field) (parts_of_adjective field) (argued field) room adjective_of_parts (beside non_form (λ _. argued field) non) b b c
    (leads_as (adjective_form field) (parts_of_adjective field) adjective_of_parts room b (as_parts field b))
    (leads_behind non_form (λ _. argued field) (non_apart field) room b c non h)

pub argument_refused : (field : Bool) (room : ℕ) (b c after : List MarkedToken) (non : Option Place) (e : Refusal) → Found non_form room b non c → Refuses (maybe_argument field) room c e after → Refuses (adjective_form field) room b e after
argument_refused field room b c after non e h r = passes (adjective_form field) (argued field) room (λ k. adjective_from non k.0 k.1) b c after e (behind_non field room b c non h)
    (first_refuses (maybe_argument field) (λ _. name signs.Attribute) (argument_apart field) room c after e (λ a is. (word_at nowhere, tt)) r)

pub behind_argument : (field : Bool) (room : ℕ) (b c d : List MarkedToken) (non : Option Place) (o : Option Argument) → Found non_form room b non c → Found (maybe_argument field) room c o d → Leads (adjective_form field) (name signs.Attribute) room (adjective_from non o) b d
behind_argument field room b c d non o h f = leads_on (adjective_form field) (argued field) (name signs.Attribute) room (λ k. adjective_from non k.0 k.1) (beside (maybe_argument field) (λ _. name signs.Attribute) o) b c d
    (behind_non field room b c non h) (leads_behind (maybe_argument field) (λ _. name signs.Attribute) (argument_apart field) room c d o f)

pub attribute_refused : (field : Bool) (room : ℕ) (b c d after : List MarkedToken) (non : Option Place) (o : Option Argument) (e : Refusal) → Found non_form room b non c → Found (maybe_argument field) room c o d → Refuses (name signs.Attribute) 0 d e after → Refuses (adjective_form field) room b e after
attribute_refused field room b c d after non o e h f r = passes (adjective_form field) (name signs.Attribute) room (adjective_from non o) b d after e (behind_argument field room b c d non o h f) (word_refuses Word (named signs.Attribute) room d after e r)

pub attribute_found : (field : Bool) (room : ℕ) (b c d after : List MarkedToken) (non : Option Place) (o : Option Argument) (w : Word) (x : AdjectiveNode) → Found non_form room b non c → Found (maybe_argument field) room c o d → Found (name signs.Attribute) 0 d w after → adjective_of x ≡ adjective_from non o w → Found (adjective_form field) room b (adjective_of x) after
attribute_found field room b c d after non o w x h f g e =
    let F : AdjectiveData → Type 0 = λ z. Found (adjective_form field) room b z after in
    subst F (sym e) ((behind_argument field room b c d non o h f).finds w after (word_in_any Word (named signs.Attribute) room d after w g))

-- Lists of adjectives.
adjective_filled : (x : AdjectiveData) → spell_adjective x ≡ [] → ⊥
adjective_filled (PlainAdjective None w) e = cc
adjective_filled (PlainAdjective (Some p) w) e = cc
adjective_filled (WithIdentifierAdjective None v w) e = cc
adjective_filled (WithIdentifierAdjective (Some p) v w) e = cc
adjective_filled (WithTermsAdjective None p ts q w) e = cc
adjective_filled (WithTermsAdjective (Some r) p ts q w) e = cc

abbrev pub adjective_class : MarkedToken → Bool
adjective_class t = begins_adjective (sign_of t)

adjective_begins : (x : AdjectiveData) (t : MarkedToken) (m : List MarkedToken) → spell_adjective x ≡ t ∷ m → begins_adjective (sign_of t) ≡ true
adjective_begins (PlainAdjective None w) t m e = begun_at begins_adjective _ t _ m e (ap begins_adjective (sign_of-named signs.Attribute w refl))
adjective_begins (WithIdentifierAdjective None v w) t m e = begun_at begins_adjective _ t _ m e (ap begins_adjective (sign_of-named signs.Identifier v refl))
adjective_begins (WithTermsAdjective None p ts q w) t m e = begun_at begins_adjective _ t _ m e (ap begins_adjective (sign_of-fixed signs.Open p refl))
adjective_begins (PlainAdjective (Some r) w) t m e = begun_at begins_adjective _ t _ m e (ap begins_adjective (sign_of-fixed signs.Non r refl))
adjective_begins (WithIdentifierAdjective (Some r) v w) t m e = begun_at begins_adjective _ t _ m e (ap begins_adjective (sign_of-fixed signs.Non r refl))
adjective_begins (WithTermsAdjective (Some r) p ts q w) t m e = begun_at begins_adjective _ t _ m e (ap begins_adjective (sign_of-fixed signs.Non r refl))

pub repeats : (field : Bool) → Repeats (adjective_form field) adjective_class adjective_class
repeats field = record {
  filled = λ x is e. adjective_filled x e;
  first = λ x t m is e. adjective_begins x t m e;
  weaker = λ x t is g. absurd (never g);
  on = λ t g. g;
  apart = λ x t is h g. never g;
}

begun_by : (s : Sign) (field : Bool) (t : MarkedToken) → sign_of t ≡ s → begins_adjective s ≡ true → Begun (adjective_form field) t
begun_by signs.Non field t h g = (PlainAdjective (Some t.token.place) (word_of t), named signs.Attribute (word_of t) ∷ [], tt, ap (λ z. z ∷ (named signs.Attribute (word_of t) ∷ [])) (sym (told_fixed signs.Non t refl h)))
begun_by signs.Identifier field t h g = (WithIdentifierAdjective None (word_of t) (word_of t), named signs.Attribute (word_of t) ∷ [], tt, ap (λ z. z ∷ (named signs.Attribute (word_of t) ∷ [])) (sym (told_named signs.Identifier t refl h)))
begun_by signs.Open field t h g =
    let v : List MarkedToken = spell_terms (terms_at t.token.place) ++ (special t.token.place (codes ")") ∷ (named signs.Attribute (word_of t) ∷ [])) in
    (WithTermsAdjective None t.token.place (terms_at t.token.place) t.token.place (word_of t), v, ((tt, tt), tt), ap (λ z. z ∷ v) (sym (told_fixed signs.Open t refl h)))
begun_by signs.Attribute field t h g = (PlainAdjective None (word_of t), [], tt, ap (λ z. z ∷ []) (sym (told_named signs.Attribute t refl h)))
begun_by _ field t h g = cc

pub begun_adjective : (field : Bool) (t : MarkedToken) → begins_adjective (sign_of t) ≡ true → Begun (adjective_form field) t
begun_adjective field t g = begun_by (sign_of t) field t refl g

abbrev pub Listed : Bool → ℕ → List AdjectiveData → List MarkedToken → List MarkedToken → Type 0
Listed field room so_far b c = Listing (adjective_form field) adjective_class adjective_class (repeats field) room [] so_far b c

pub listed_none : (field : Bool) (room : ℕ) (v : List AdjectiveNode) (b : List MarkedToken) → v ≡ [] → Listed field room (map adjective_of v) b b
listed_none field room v b e = let P : List AdjectiveNode → Type 0 = λ z. Listed field room (map adjective_of z) b b in subst P (sym e) (listing_none (adjective_form field) adjective_class adjective_class (repeats field) room [] b)

-- what comes next, where an adjective does
pub comes : (c : Sign → Bool) (b : List MarkedToken) → next_is c b ≡ true → (t : MarkedToken) × (rest : List MarkedToken) × (b ≡ t ∷ rest) × (c (sign_of t) ≡ true)
comes c [] e = absurd (never e)
comes c (t ∷ rest) e = (t, rest, refl, e)

pub listed_step : (field : Bool) (room : ℕ) (v w : List AdjectiveNode) (x : AdjectiveNode) (b c d : List MarkedToken) → Listed field room (map adjective_of v) b c → w ≡ v ++ x ∷ [] → next_is begins_adjective c ≡ true → Found (adjective_form field) room c (adjective_of x) d → Listed field room (map adjective_of w) b d
listed_step field room v w x b c d so_far e next found =
    let k = comes begins_adjective c next in
    listing_step (adjective_form field) adjective_class adjective_class (repeats field) room [] (map adjective_of v) (map adjective_of w) (adjective_of x) b c d so_far (map_push adjective_of v w x e)
    (go_on (adjective_form field) adjective_class adjective_class (repeats field) room k.0 c k.1 d (adjective_of x) k.3 (begun_adjective field k.0 k.3) k.2 found)

pub listed_refused : (field : Bool) (room : ℕ) (v : List AdjectiveData) (b c after : List MarkedToken) (e : Refusal) → Listed field room v b c → next_is begins_adjective c ≡ true → Refuses (adjective_form field) room c e after → Refuses (adjective_list_form field) room b e after
listed_refused field room v b c after e so_far next refused =
    let k = comes begins_adjective c next in
    passes (adjective_list_form field) (adjective_list_form field) room (λ xs. so_far.taken ++ xs) b c after e so_far.leads
    (member_refused (adjective_form field) adjective_class adjective_class (repeats field) room k.0 c k.1 after e k.3 (begun_adjective field k.0 k.3) k.2 refused)

pub listed_end : (field : Bool) (room : ℕ) (v : List AdjectiveData) (b c : List MarkedToken) → Listed field room v b c → next_is begins_adjective c ≡ false → Found (adjective_list_form field) room b v c
listed_end field room v b c so_far next =
    let k = listing_end (adjective_form field) adjective_class adjective_class (repeats field) room [] v b c c so_far (no_more (adjective_form field) adjective_class adjective_class (repeats field) room c (stops c next)) in
    let F : List AdjectiveData → Type 0 = λ z. Found (adjective_list_form field) room b z c in
    subst F (sym k.2) k.1
  where
    stops : (c : List MarkedToken) → next_is begins_adjective c ≡ false → Stops (adjective_form field) adjective_class adjective_class (repeats field) c
    stops [] e = tt
    stops (t ∷ rest) e = true_not_false (begins_adjective (sign_of t)) e

-- what is left is less
pub shorter_adjective : (field : Bool) (room : ℕ) (x : AdjectiveData) (b c : List MarkedToken) → Found (adjective_form field) room b x c → length c < length b
shorter_adjective field room x b c h = go (spell_adjective x) refl
  where
    go : (w : List MarkedToken) → spell_adjective x ≡ w → length c < length b
    go [] e = absurd (adjective_filled x e)
    go (s ∷ w) e =
        let f : length b ≡ length ((s ∷ w) ++ c) = ap length (h.found.split ∙ ap (λ z. z ++ c) e) in
        let g : length ((s ∷ w) ++ c) ≡ length (s ∷ w) + length c = length-append (s ∷ w) c in
        omega (arith, f, g)

-- The lists of the trees.
pub list_spells : (field : Bool) (xs : List AdjectiveData) → spell_adjective_list (adjectives_of xs) ≡ spell_all (adjective_form field) xs
list_spells field [] = refl
list_spells field (x ∷ xs) = ap (λ z. spell_adjective x ++ z) (list_spells field xs)

pub list_levels : (field : Bool) (xs : List AdjectiveData) → levels_adjective_list (adjectives_of xs) ≡ levels_all (adjective_form field) xs
list_levels field [] = refl
list_levels field (x ∷ xs) = ap (λ z. levels_adjective x ++ z) (list_levels field xs)

pub list_into : (field : Bool) (xs : List AdjectiveData) → AreAll (adjective_form field) xs → AreAdjectives field (adjectives_of xs)
list_into field [] h = tt
list_into field (x ∷ xs) h = (h.0, list_into field xs h.1)

pub only_listed : (field : Bool) (x : AdjectiveList) → AreAdjectives field x → (xs : List AdjectiveData) × AreAll (adjective_form field) xs × (x ≡ adjectives_of xs)
only_listed field no_adjectives h = ([], tt, refl)
only_listed field (more_adjectives a ads) h = let k = only_listed field ads h.1 in (a ∷ k.0, (h.0, k.1), ap (λ z. more_adjectives a z) k.2)

-- Adjectives, at least one.
abbrev pub some_adjectives : Bool → Form MarkedToken
some_adjectives field = then (adjective_form field) (λ _. adjective_list_form field)

pub adjectives_apart : (field : Bool) → Apart (adjective_form field) (λ _. adjective_list_form field)
adjectives_apart field a k s x isa isk e g = never g

some_goes : (c : Bool) (w : List MarkedToken) → (c || (is_empty w && false)) ≡ true → c ≡ true
some_goes c w g = either c false (is_empty w) (λ h. absurd (never h)) g

pub only_some : (field : Bool) (x : AdjectivesData) → (adjectives_form field).IsTree x → (k : (some_adjectives field).Tree) × (some_adjectives field).IsTree k × (x ≡ list_of_adjectives k)
only_some field x is = let k = only_listed field x.more is.1 in ((x.first, k.0), (is.0, k.1), ap (λ z. record { first = x.first; more = z }) k.2)

pub as_some : (field : Bool) (b : List MarkedToken) → Reshapes (adjectives_form field) (some_adjectives field) list_of_adjectives b
as_some field b = record {
  into = λ k is. (is.0, list_into field k.1 is.1);
  spells = λ k is. ap (λ z. spell_adjective k.0 ++ z) (list_spells field k.1);
  only = λ x is agrees. only_some field x is;
  goes = λ k s is g. some_goes (begins_adjective (sign_of s)) (spell_all (adjective_form field) k.1) g;
  level = λ k is. ap (λ z. levels_adjective k.0 ++ z) (list_levels field k.1);
}

pub behind_first : (field : Bool) (room : ℕ) (b c : List MarkedToken) (x : AdjectiveData) → Found (adjective_form field) room b x c → Leads (adjectives_form field) (adjective_list_form field) room (λ xs. list_of_adjectives (x, xs)) b c
behind_first field room b c x h = leads_on (adjectives_form field) (some_adjectives field) (adjective_list_form field) room list_of_adjectives (beside (adjective_form field) (λ _. adjective_list_form field) x) b b c
    (leads_as (adjectives_form field) (some_adjectives field) list_of_adjectives room b (as_some field b)) (leads_behind (adjective_form field) (λ _. adjective_list_form field) (adjectives_apart field) room b c x h)

pub first_refused : (field : Bool) (room : ℕ) (b after : List MarkedToken) (e : Refusal) → Refuses (adjective_form field) room b e after → Refuses (adjectives_form field) room b e after
first_refused field room b after e h = passes (adjectives_form field) (some_adjectives field) room list_of_adjectives b b after e
    (leads_as (adjectives_form field) (some_adjectives field) list_of_adjectives room b (as_some field b)) (first_refuses (adjective_form field) (λ _. adjective_list_form field) (adjectives_apart field) room b after e (λ a is. ([], tt)) h)
