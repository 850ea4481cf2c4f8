-- The readings of the patterns of functors.
use Rattle.std.proofs.Common.{◌≡◌, ℕ, Bool, true, false, List, [], ◌∷◌, ◌++◌, refl, ap, subst, ◌∙◌, Option, Some, None}
use Rattle.mz_base.specs.declared.place.Place.{Place}
use Rattle.mz_base.specs.declared.token.MarkedToken.{MarkedToken}
use Rattle.mz_forms.specs.Form.{Form, Agrees, Fails, Leads, then, nested}
use Rattle.mz_forms.proofs.Choose.{Reshapes, fails_here}
use Rattle.mz_forms.proofs.Leads.{leads_as}
use Rattle.mz_tree.specs.declared.word.Word.{Word}
use Rattle.mz_tree.specs.Spelled as spelled
use Rattle.mz_tree.specs.Spelled.{functor}
use Rattle.mz_tree_heading.specs.declared.patterns.LociTree.{LociTree}
use Rattle.mz_tree_heading.specs.declared.patterns.LociTree.TheVariants as loci_tree
use Rattle.mz_tree_heading.specs.declared.patterns.SymbolPatternTree.{SymbolPatternTree}
use Rattle.mz_tree_heading.specs.declared.patterns.FunctorPatternTree.{FunctorPatternTree}
use Rattle.mz_tree_heading.specs.declared.patterns.FunctorPatternTree.TheVariants as functor_patterns
use Rattle.mz_tree_heading.specs.Spell.{spell_loci, spell_symbol_pattern, spell_functor_pattern}
use Rattle.mz_pterm.specs.declared.sign.Sign.{Sign}
use Rattle.mz_pterm.specs.declared.sign.Sign.TheVariants as signs
use Rattle.mz_pterm.specs.Sign.{sign_of}
use Rattle.mz_pterm.specs.Words.{fixed, named, word, name}
use Rattle.mz_pterm.proofs.Bases.{word_at}
use Rattle.mz_pterm.proofs.Signs.{sign_of-fixed, sign_of-named, sign_of-functor}
use Rattle.mz_pjustification.proofs.Taken.{nowhere}
use Rattle.mz_pstep.proofs.Ends.{ends_class, ends_then}
use Rattle.mz_ppattern.specs.Optional.{next_has}
use Rattle.mz_ppattern.specs.Forms.{identifiers_form, bracketed_form, enclosed_form, symbol_pattern_form, functor_pattern_form}
use Rattle.mz_ppattern.proofs.NameSteps.{any_names}
use Rattle.mz_ppattern.proofs.LociSteps.{has_not, has_so}

-- What the first token of the pattern of a functor is.
abbrev pub is_left : Sign → Bool
is_left signs.LeftBracket = true
is_left _ = false

abbrev pub is_brace : Sign → Bool
is_brace signs.OpenBrace = true
is_brace _ = false

abbrev pub is_square : Sign → Bool
is_square signs.OpenSquare = true
is_square _ = false

abbrev pub opens_left : MarkedToken → Bool
opens_left t = is_left (sign_of t)

abbrev pub opens_brace : MarkedToken → Bool
opens_brace t = is_brace (sign_of t)

abbrev pub opens_square : MarkedToken → Bool
opens_square t = is_square (sign_of t)

-- a set of signs that a functor symbol with its loci doesn't begin with
record Aside (c : Sign → Bool) : Type 0 where
  at_functor : c signs.Functor ≡ false
  at_identifier : c signs.Identifier ≡ false
  at_open : c signs.Open ≡ false

aside_left : Aside is_left
aside_left = record { at_functor = refl; at_identifier = refl; at_open = refl }

aside_brace : Aside is_brace
aside_brace = record { at_functor = refl; at_identifier = refl; at_open = refl }

aside_square : Aside is_square
aside_square = record { at_functor = refl; at_identifier = refl; at_open = refl }

symbol_aside : (c : Sign → Bool) → Aside c → (b : List MarkedToken) → next_has (λ t. c (sign_of t)) b ≡ true → (l : Option LociTree) (w : Word) (n : ℕ) (r : List MarkedToken) → Agrees b (spelled.maybe spell_loci l ++ functor w n ∷ r) → ⊥
symbol_aside c a b h None w n r g = has_not (λ t. c (sign_of t)) b (functor w n) r h (ap c (sign_of-functor w n) ∙ a.at_functor) g
symbol_aside c a b h (Some (loci_tree.One v)) w n r g = has_not (λ t. c (sign_of t)) b (named signs.Identifier v) _ h (ap c (sign_of-named signs.Identifier v refl) ∙ a.at_identifier) g
symbol_aside c a b h (Some (loci_tree.Several p s q)) w n r g = has_not (λ t. c (sign_of t)) b (fixed signs.Open p) _ h (ap c (sign_of-fixed signs.Open p refl) ∙ a.at_open) g

-- Identifiers in brackets of an environment.
abbrev pub make_enclosed : enclosed_form.Tree → FunctorPatternTree
make_enclosed k = functor_patterns.Brackets k.0 k.1.0 k.1.1

pub as_enclosed : (b : List MarkedToken) → next_has opens_left b ≡ true → Reshapes functor_pattern_form enclosed_form make_enclosed b
as_enclosed b h = record {
  into = λ k is. tt;
  spells = λ k is. refl;
  only = λ x is g. only x g;
  goes = λ k t is g. absurd (closed k t is g);
  level = λ k is. refl;
}
  where
    closed : (k : enclosed_form.Tree) (t : MarkedToken) → enclosed_form.IsTree k → enclosed_form.goes k t ≡ true → ⊥
    closed k t is g = (ends_then (nested (name signs.LeftBracket)) (λ _. then (nested identifiers_form) (λ _. name signs.RightBracket)) (λ _. ends_then (nested identifiers_form) (λ _. name signs.RightBracket) (λ _. ends_class Word (named signs.RightBracket)))).closed k t is g

    only : (x : FunctorPatternTree) → Agrees b (spell_functor_pattern x) → (k : enclosed_form.Tree) × enclosed_form.IsTree k × (x ≡ make_enclosed k)
    only (functor_patterns.Symbol a) g = absurd (symbol_aside is_left aside_left b h a.left a.symbol a.priority _ g)
    only (functor_patterns.Brackets p s q) g = ((p, (s, q)), (tt, (any_names s, tt)), refl)
    only (functor_patterns.Braces p s q) g = absurd (has_not opens_left b (fixed signs.OpenBrace p) _ h (ap is_left (sign_of-fixed signs.OpenBrace p refl)) g)
    only (functor_patterns.Squares p s q) g = absurd (has_not opens_left b (fixed signs.OpenSquare p) _ h (ap is_left (sign_of-fixed signs.OpenSquare p refl)) g)

-- Identifiers in braces, and in square brackets.
bracketed_closed : (o c : Sign) (k : (bracketed_form o c).Tree) (t : MarkedToken) → (bracketed_form o c).IsTree k → (bracketed_form o c).goes k t ≡ true → ⊥
bracketed_closed o c k t is g = (ends_then (nested (word o)) (λ _. then (nested identifiers_form) (λ _. word c)) (λ _. ends_then (nested identifiers_form) (λ _. word c) (λ _. ends_class Place (fixed c)))).closed k t is g

abbrev pub braces : Form MarkedToken
braces = bracketed_form signs.OpenBrace signs.CloseBrace

abbrev pub make_braces : braces.Tree → FunctorPatternTree
make_braces k = functor_patterns.Braces k.0 k.1.0 k.1.1

pub as_braces : (b : List MarkedToken) → next_has opens_brace b ≡ true → Reshapes functor_pattern_form braces make_braces b
as_braces b h = record {
  into = λ k is. tt;
  spells = λ k is. refl;
  only = λ x is g. only x g;
  goes = λ k t is g. absurd (bracketed_closed signs.OpenBrace signs.CloseBrace k t is g);
  level = λ k is. refl;
}
  where
    only : (x : FunctorPatternTree) → Agrees b (spell_functor_pattern x) → (k : braces.Tree) × braces.IsTree k × (x ≡ make_braces k)
    only (functor_patterns.Symbol a) g = absurd (symbol_aside is_brace aside_brace b h a.left a.symbol a.priority _ g)
    only (functor_patterns.Brackets p s q) g = absurd (has_not opens_brace b (named signs.LeftBracket p) _ h (ap is_brace (sign_of-named signs.LeftBracket p refl)) g)
    only (functor_patterns.Braces p s q) g = ((p, (s, q)), (tt, (any_names s, tt)), refl)
    only (functor_patterns.Squares p s q) g = absurd (has_not opens_brace b (fixed signs.OpenSquare p) _ h (ap is_brace (sign_of-fixed signs.OpenSquare p refl)) g)

abbrev pub squares : Form MarkedToken
squares = bracketed_form signs.OpenSquare signs.CloseSquare

abbrev pub make_squares : squares.Tree → FunctorPatternTree
make_squares k = functor_patterns.Squares k.0 k.1.0 k.1.1

pub as_squares : (b : List MarkedToken) → next_has opens_square b ≡ true → Reshapes functor_pattern_form squares make_squares b
as_squares b h = record {
  into = λ k is. tt;
  spells = λ k is. refl;
  only = λ x is g. only x g;
  goes = λ k t is g. absurd (bracketed_closed signs.OpenSquare signs.CloseSquare k t is g);
  level = λ k is. refl;
}
  where
    only : (x : FunctorPatternTree) → Agrees b (spell_functor_pattern x) → (k : squares.Tree) × squares.IsTree k × (x ≡ make_squares k)
    only (functor_patterns.Symbol a) g = absurd (symbol_aside is_square aside_square b h a.left a.symbol a.priority _ g)
    only (functor_patterns.Brackets p s q) g = absurd (has_not opens_square b (named signs.LeftBracket p) _ h (ap is_square (sign_of-named signs.LeftBracket p refl)) g)
    only (functor_patterns.Braces p s q) g = absurd (has_not opens_square b (fixed signs.OpenBrace p) _ h (ap is_square (sign_of-fixed signs.OpenBrace p refl)) g)
    only (functor_patterns.Squares p s q) g = ((p, (s, q)), (tt, (any_names s, tt)), refl)

-- A functor symbol with its loci.
pub as_symbol : (b : List MarkedToken) → next_has opens_left b ≡ false → next_has opens_brace b ≡ false → next_has opens_square b ≡ false → Reshapes functor_pattern_form symbol_pattern_form (λ a. functor_patterns.Symbol a) b
as_symbol b l r s = record {
  into = λ k is. tt;
  spells = λ k is. refl;
  only = λ x is g. only x g;
  goes = λ k t is g. g;
  level = λ k is. refl;
}
  where
    only : (x : FunctorPatternTree) → Agrees b (spell_functor_pattern x) → (a : SymbolPatternTree) × Unit {0} × (x ≡ functor_patterns.Symbol a)
    only (functor_patterns.Symbol a) g = (a, tt, refl)
    only (functor_patterns.Brackets p v q) g = absurd (has_so opens_left b (named signs.LeftBracket p) _ l (ap is_left (sign_of-named signs.LeftBracket p refl)) g)
    only (functor_patterns.Braces p v q) g = absurd (has_so opens_brace b (fixed signs.OpenBrace p) _ r (ap is_brace (sign_of-fixed signs.OpenBrace p refl)) g)
    only (functor_patterns.Squares p v q) g = absurd (has_so opens_square b (fixed signs.OpenSquare p) _ s (ap is_square (sign_of-fixed signs.OpenSquare p refl)) g)

-- The readings.
pub has_at : (c : Sign → Bool) (t : MarkedToken) (b rest : List MarkedToken) (s : Sign) → sign_of t ≡ s → b ≡ t ∷ rest → next_has (λ z. c (sign_of z)) b ≡ c s
has_at c t b rest s h e = ap (next_has (λ z. c (sign_of z))) e ∙ ap c h

pub enclosed_leads : (room : ℕ) (t : MarkedToken) (b rest : List MarkedToken) → sign_of t ≡ signs.LeftBracket → b ≡ t ∷ rest → Leads functor_pattern_form enclosed_form room make_enclosed b b
enclosed_leads room t b rest h e = leads_as functor_pattern_form enclosed_form make_enclosed room b (as_enclosed b (has_at is_left t b rest signs.LeftBracket h e))

pub braces_lead : (room : ℕ) (t : MarkedToken) (b rest : List MarkedToken) → sign_of t ≡ signs.OpenBrace → b ≡ t ∷ rest → Leads functor_pattern_form braces room make_braces b b
braces_lead room t b rest h e = leads_as functor_pattern_form braces make_braces room b (as_braces b (has_at is_brace t b rest signs.OpenBrace h e))

pub squares_lead : (room : ℕ) (t : MarkedToken) (b rest : List MarkedToken) → sign_of t ≡ signs.OpenSquare → b ≡ t ∷ rest → Leads functor_pattern_form squares room make_squares b b
squares_lead room t b rest h e = leads_as functor_pattern_form squares make_squares room b (as_squares b (has_at is_square t b rest signs.OpenSquare h e))

not_left : (s : Sign) → (s ≡ signs.LeftBracket → ⊥) → is_left s ≡ false
not_left signs.LeftBracket h = absurd (h refl)
not_left _ h = refl

not_brace : (s : Sign) → (s ≡ signs.OpenBrace → ⊥) → is_brace s ≡ false
not_brace signs.OpenBrace h = absurd (h refl)
not_brace _ h = refl

not_square : (s : Sign) → (s ≡ signs.OpenSquare → ⊥) → is_square s ≡ false
not_square signs.OpenSquare h = absurd (h refl)
not_square _ h = refl

pub symbol_leads : (room : ℕ) (t : MarkedToken) (b rest : List MarkedToken) → (sign_of t ≡ signs.LeftBracket → ⊥) → (sign_of t ≡ signs.OpenBrace → ⊥) → (sign_of t ≡ signs.OpenSquare → ⊥) → b ≡ t ∷ rest → Leads functor_pattern_form symbol_pattern_form room (λ a. functor_patterns.Symbol a) b b
symbol_leads room t b rest l r s e = leads_as functor_pattern_form symbol_pattern_form (λ a. functor_patterns.Symbol a) room b
    (as_symbol b (has_at is_left t b rest (sign_of t) refl e ∙ not_left (sign_of t) l) (has_at is_brace t b rest (sign_of t) refl e ∙ not_brace (sign_of t) r) (has_at is_square t b rest (sign_of t) refl e ∙ not_square (sign_of t) s))

-- a pattern has a token
pub functor_filled : (x : FunctorPatternTree) → spell_functor_pattern x ≡ [] → ⊥
functor_filled (functor_patterns.Symbol a) e = symbol_filled a.left e
  where
    symbol_filled : (l : Option LociTree) → spelled.maybe spell_loci l ++ functor a.symbol a.priority ∷ spelled.maybe spell_loci a.right ≡ [] → ⊥
    symbol_filled None f = cc
    symbol_filled (Some (loci_tree.One v)) f = cc
    symbol_filled (Some (loci_tree.Several p s q)) f = cc
functor_filled (functor_patterns.Brackets p s q) e = cc
functor_filled (functor_patterns.Braces p s q) e = cc
functor_filled (functor_patterns.Squares p s q) e = cc

abbrev pub some_functor_pattern : FunctorPatternTree
some_functor_pattern = functor_patterns.Symbol (record { left = None; symbol = word_at nowhere; priority = 0; right = None })

pub functor_left_out : (room : ℕ) (b : List MarkedToken) → b ≡ [] → Fails functor_pattern_form room b b
functor_left_out room b e = fails_here functor_pattern_form room some_functor_pattern b tt (λ x is agrees. go x (spell_functor_pattern x) refl agrees)
  where
    go : (x : FunctorPatternTree) (w : List MarkedToken) → spell_functor_pattern x ≡ w → Agrees b w → ⊥
    go x [] f g = functor_filled x f
    go x (t ∷ w) f g = let A : List MarkedToken → Type 0 = λ z. Agrees z (t ∷ w) in subst A e g
