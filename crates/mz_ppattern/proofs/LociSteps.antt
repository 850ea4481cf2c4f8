-- The readings of loci, and of what may be left out of patterns.
use Rattle.std.proofs.Common.{◌≡◌, ℕ, Bool, true, false, List, [], ◌∷◌, ◌++◌, refl, sym, ap, ◌∙◌, Option, Some, None}
use Rattle.mz_base.specs.declared.token.MarkedToken.{MarkedToken}
use Rattle.mz_forms.specs.declared.refusal.Refusal.{Refusal}
use Rattle.mz_forms.specs.Form.{Form, Agrees, Found, Leads}
use Rattle.mz_forms.specs.Reading.{Refuses}
use Rattle.mz_forms.proofs.Choose.{Reshapes}
use Rattle.mz_forms.proofs.Compose.{head_of}
use Rattle.mz_forms.proofs.Leads.{leads_as, passes}
use Rattle.mz_forms.proofs.Lists.{Begun}
use Rattle.mz_forms.proofs.Maybe.{Starts}
use Rattle.mz_forms.proofs.Words.{word_in_any, word_refuses}
use Rattle.mz_tree.specs.declared.word.Word.{Word}
use Rattle.mz_tree.specs.declared.lists.Separated.{Separated}
use Rattle.mz_tree_heading.specs.declared.patterns.IdentifierTree.{IdentifierTree}
use Rattle.mz_tree_heading.specs.declared.patterns.LociTree.{LociTree}
use Rattle.mz_tree_heading.specs.declared.patterns.LociTree.TheVariants as loci_tree
use Rattle.mz_tree_heading.specs.declared.patterns.ModeLociTree.{ModeLociTree}
use Rattle.mz_tree_heading.specs.Spell.{spell_loci}
use Rattle.mz_pterm.specs.declared.sign.Sign.{Sign}
use Rattle.mz_pterm.specs.declared.sign.Sign.TheVariants as signs
use Rattle.mz_pterm.specs.Classes.{is_of}
use Rattle.mz_pterm.specs.Sign.{sign_of}
use Rattle.mz_pterm.specs.Words.{fixed, named, name, word_of}
use Rattle.mz_pterm.proofs.Signs.{told_fixed, told_named, sign_of-fixed, sign_of-named}
use Rattle.mz_ptype.proofs.Optional.{never, true_not_false}
use Rattle.mz_patom.specs.Classes.{is_identifier}
use Rattle.mz_pformula.proofs.Identifiers.{identifier_is}
use Rattle.mz_pjustification.proofs.Taken.{nowhere}
use Rattle.mz_ppattern.specs.Optional.{next_has}
use Rattle.mz_ppattern.specs.Classes.{is_loci, begins_loci, begins_identifiers, begins_mode_loci, goes_on_names, goes_on_pattern}
use Rattle.mz_ppattern.specs.Forms.{identifiers_form, bracketed_form, loci_form, optional_loci, optional_identifiers, mode_loci_form, optional_mode_loci}
use Rattle.mz_ppattern.proofs.NameSteps.{make_identifier, any_names}
use Rattle.mz_ppattern.proofs.SymbolSteps.{some_names}

-- The next token is the first of what agrees with it.
pub has_of : (c : MarkedToken → Bool) (b : List MarkedToken) (s : MarkedToken) (w : List MarkedToken) → Agrees b (s ∷ w) → next_has c b ≡ c s
has_of c [] s w g = absurd g
has_of c (t ∷ b) s w g = ap c (sym g)

pub has_not : (c : MarkedToken → Bool) (b : List MarkedToken) (s : MarkedToken) (w : List MarkedToken) → next_has c b ≡ true → c s ≡ false → Agrees b (s ∷ w) → ⊥
has_not c b s w h e g = true_not_false (c s) e (sym (has_of c b s w g) ∙ h)

pub has_so : (c : MarkedToken → Bool) (b : List MarkedToken) (s : MarkedToken) (w : List MarkedToken) → next_has c b ≡ false → c s ≡ true → Agrees b (s ∷ w) → ⊥
has_so c b s w h e g = true_not_false (next_has c b) h (has_of c b s w g ∙ e)

-- Loci that are an identifier.
pub as_one : (b : List MarkedToken) → next_has begins_identifiers b ≡ true → Reshapes loci_form (name signs.Identifier) (λ w. loci_tree.One w) b
as_one b h = record {
  into = λ w is. tt;
  spells = λ w is. refl;
  only = λ x is g. only x g;
  goes = λ w t is g. absurd (never g);
  level = λ w is. refl;
}
  where
    only : (x : LociTree) → Agrees b (spell_loci x) → (w : Word) × Unit {0} × (x ≡ loci_tree.One w)
    only (loci_tree.One w) g = (w, tt, refl)
    only (loci_tree.Several p s q) g = absurd (has_not begins_identifiers b (fixed signs.Open p) _ h (ap is_identifier (sign_of-fixed signs.Open p refl)) g)

pub one_refused : (room : ℕ) (b after : List MarkedToken) (e : Refusal) → next_has begins_identifiers b ≡ true → Refuses (name signs.Identifier) 0 b e after → Refuses loci_form room b e after
one_refused room b after e h r = passes loci_form (name signs.Identifier) room (λ w. loci_tree.One w) b b after e (leads_as loci_form (name signs.Identifier) (λ w. loci_tree.One w) room b (as_one b h)) (word_refuses Word (named signs.Identifier) room b after e r)

pub one_found : (room : ℕ) (w : Word) (b after : List MarkedToken) → next_has begins_identifiers b ≡ true → Found (name signs.Identifier) 0 b w after → Found loci_form room b (loci_tree.One w) after
one_found room w b after h f = (leads_as loci_form (name signs.Identifier) (λ w. loci_tree.One w) room b (as_one b h)).finds w after (word_in_any Word (named signs.Identifier) room b after w f)

-- Loci in parentheses.
abbrev pub parenthesized : Form MarkedToken
parenthesized = bracketed_form signs.Open signs.Close

abbrev pub make_several : parenthesized.Tree → LociTree
make_several k = loci_tree.Several k.0 k.1.0 k.1.1

pub as_several : (b : List MarkedToken) → next_has begins_identifiers b ≡ false → Reshapes loci_form parenthesized make_several b
as_several b h = record {
  into = λ k is. tt;
  spells = λ k is. refl;
  only = λ x is g. only x g;
  goes = λ k t is g. g;
  level = λ k is. refl;
}
  where
    only : (x : LociTree) → Agrees b (spell_loci x) → (k : parenthesized.Tree) × parenthesized.IsTree k × (x ≡ make_several k)
    only (loci_tree.One w) g = absurd (has_so begins_identifiers b (named signs.Identifier w) [] h (ap is_identifier (sign_of-named signs.Identifier w refl)) g)
    only (loci_tree.Several p s q) g = ((p, (s, q)), (tt, (any_names s, tt)), refl)

begin_several : (room : ℕ) (b : List MarkedToken) → next_has begins_identifiers b ≡ false → Leads loci_form parenthesized room make_several b b
begin_several room b h = leads_as loci_form parenthesized make_several room b (as_several b h)

pub several_refused : (room : ℕ) (b after : List MarkedToken) (e : Refusal) → next_has begins_identifiers b ≡ false → Refuses parenthesized room b e after → Refuses loci_form room b e after
several_refused room b after e h r = passes loci_form parenthesized room make_several b b after e (begin_several room b h) r

pub several_found : (room : ℕ) (k : parenthesized.Tree) (b after : List MarkedToken) → next_has begins_identifiers b ≡ false → Found parenthesized room b k after → Found loci_form room b (make_several k) after
several_found room k b after h f = (begin_several room b h).finds k after f

-- What parts that may be left out begin with.
loci_first : (x : LociTree) (t : MarkedToken) (m : List MarkedToken) → spell_loci x ≡ t ∷ m → begins_loci t ≡ true
loci_first (loci_tree.One w) t m e = ap begins_loci (sym (head_of _ _ _ _ e)) ∙ ap is_loci (sign_of-named signs.Identifier w refl)
loci_first (loci_tree.Several p s q) t m e = ap begins_loci (sym (head_of _ _ _ _ e)) ∙ ap is_loci (sign_of-fixed signs.Open p refl)

loci_filled : (x : LociTree) → spell_loci x ≡ [] → ⊥
loci_filled (loci_tree.One w) e = cc
loci_filled (loci_tree.Several p s q) e = cc

pub starts_loci : Starts loci_form begins_loci
starts_loci = record { filled = λ x is e. loci_filled x e; first = λ x t m is e. loci_first x t m e }

abbrev behind_parenthesis : List MarkedToken
behind_parenthesis = identifiers_form.spell some_names ++ fixed signs.Close nowhere ∷ []

pub begun_loci : (t : MarkedToken) → begins_loci t ≡ true → Begun loci_form t
begun_loci t h = go (sign_of t) refl h
  where
    go : (s : Sign) → sign_of t ≡ s → is_loci s ≡ true → Begun loci_form t
    go signs.Identifier e g = (loci_tree.One (word_of t), [], tt, ap (λ z. z ∷ []) (sym (told_named signs.Identifier t refl e)))
    go signs.Open e g = (loci_tree.Several t.token.place some_names nowhere, behind_parenthesis, tt, ap (λ z. z ∷ behind_parenthesis) (sym (told_fixed signs.Open t refl e)))
    go _ e g = absurd (never g)

pub starts_identifiers : Starts identifiers_form begins_identifiers
starts_identifiers = record {
  filled = λ x is e. cc;
  first = λ x t m is e. ap begins_identifiers (sym (head_of _ _ _ _ e)) ∙ ap is_identifier (sign_of-named signs.Identifier x.first.name refl);
}

pub begun_identifiers : (t : MarkedToken) → begins_identifiers t ≡ true → Begun identifiers_form t
begun_identifiers t h = (record { first = make_identifier (word_of t); more = [] }, [], (tt, tt), ap (λ z. z ∷ []) (sym (told_named signs.Identifier t refl (identifier_is (sign_of t) h))))

of_is : (s : Sign) → is_of s ≡ true → s ≡ signs.Of
of_is signs.Of e = refl
of_is _ e = cc

pub starts_mode_loci : Starts mode_loci_form begins_mode_loci
starts_mode_loci = record {
  filled = λ x is e. cc;
  first = λ x t m is e. ap begins_mode_loci (sym (head_of _ _ _ _ e)) ∙ ap is_of (sign_of-fixed signs.Of x.of refl);
}

pub begun_mode_loci : (t : MarkedToken) → begins_mode_loci t ≡ true → Begun mode_loci_form t
begun_mode_loci t h = (record { of = t.token.place; identifiers = some_names }, identifiers_form.spell some_names, tt, ap (λ z. z ∷ identifiers_form.spell some_names) (sym (told_fixed signs.Of t refl (of_is (sign_of t) h))))

-- What goes on them.
pub names_on : (s : Sign) → goes_on_names s ≡ true → goes_on_pattern s ≡ true
names_on signs.ListComma g = refl
names_on signs.DividingComma g = refl
names_on _ g = absurd (never g)

loci_on : (s : Sign) → is_loci s ≡ true → goes_on_pattern s ≡ true
loci_on signs.Identifier g = refl
loci_on signs.Open g = refl
loci_on _ g = absurd (never g)

identifier_on : (s : Sign) → is_identifier s ≡ true → goes_on_pattern s ≡ true
identifier_on signs.Identifier g = refl
identifier_on _ g = absurd (never g)

of_on : (s : Sign) → is_of s ≡ true → goes_on_pattern s ≡ true
of_on signs.Of g = refl
of_on _ g = absurd (never g)

pub optional_loci_on : (o : Option LociTree) (t : MarkedToken) → optional_loci.goes o t ≡ true → goes_on_pattern (sign_of t) ≡ true
optional_loci_on None t g = loci_on (sign_of t) g
optional_loci_on (Some x) t g = absurd (never g)

pub optional_identifiers_on : (o : Option (Separated IdentifierTree)) (t : MarkedToken) → optional_identifiers.goes o t ≡ true → goes_on_pattern (sign_of t) ≡ true
optional_identifiers_on None t g = identifier_on (sign_of t) g
optional_identifiers_on (Some x) t g = names_on (sign_of t) g

pub optional_mode_loci_on : (o : Option ModeLociTree) (t : MarkedToken) → optional_mode_loci.goes o t ≡ true → goes_on_pattern (sign_of t) ≡ true
optional_mode_loci_on None t g = of_on (sign_of t) g
optional_mode_loci_on (Some x) t g = names_on (sign_of t) g
