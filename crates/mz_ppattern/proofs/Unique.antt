-- Two patterns that spell the same tokens are equal.
use Rattle.std.proofs.Common.{◌≡◌, ℕ, zero, suc, ◌<◌, true, false, List, [], ◌∷◌, ◌++◌, length, refl, sym, ap, ◌∙◌, subst, arith, Option, Some, None}
use Rattle.mz_base.specs.declared.place.Place.{Place}
use Rattle.mz_base.specs.declared.token.MarkedToken.{MarkedToken}
use Rattle.mz_forms.specs.Form.{Agrees}
use Rattle.mz_forms.proofs.Choose.{agrees_self}
use Rattle.mz_forms.proofs.Compose.{head_of, tail_of}
use Rattle.mz_forms.proofs.One.{One, OneAt, Quiet, one_then, one_as, one_class, one_from, at_as, at_same}
use Rattle.mz_tree.specs.declared.word.Word.{Word}
use Rattle.mz_tree.specs.Spelled as spelled
use Rattle.mz_tree_heading.specs.declared.patterns.LociTree.{LociTree}
use Rattle.mz_tree_heading.specs.declared.patterns.LociTree.TheVariants as loci_tree
use Rattle.mz_tree_heading.specs.declared.patterns.FunctorPatternTree.{FunctorPatternTree}
use Rattle.mz_tree_heading.specs.declared.patterns.FunctorPatternTree.TheVariants as functor_patterns
use Rattle.mz_tree_heading.specs.declared.patterns.PatternTree.{PatternTree}
use Rattle.mz_tree_heading.specs.declared.patterns.PatternTree.TheVariants as patterns
use Rattle.mz_tree_heading.specs.Spell.{spell_loci, spell_functor_pattern, spell_pattern}
use Rattle.mz_pterm.specs.declared.sign.Sign.{Sign}
use Rattle.mz_pterm.specs.declared.sign.Sign.TheVariants as signs
use Rattle.mz_pterm.specs.Sign.{sign_of}
use Rattle.mz_pterm.specs.Words.{is_fixed, is_named, fixed, named, word, name}
use Rattle.mz_pterm.proofs.Signs.{same_fixed, same_named, sign_of-fixed, sign_of-named, sign_of-functor}
use Rattle.mz_patom.specs.Classes.{is_identifier}
use Rattle.mz_ppattern.specs.Optional.{next_has}
use Rattle.mz_ppattern.specs.Classes.{begins_loci, begins_identifiers, begins_mode_loci, kind_next}
use Rattle.mz_ppattern.specs.Forms.{identifiers_form, enclosed_form, functor_form, loci_form, optional_loci, optional_identifiers, mode_loci_form, optional_mode_loci, symbol_pattern_form, functor_pattern_form, predicate_pattern_form, attribute_pattern_form, mode_pattern_form, pattern_form}
use Rattle.mz_ppattern.proofs.NameSteps.{identifiers_one}
use Rattle.mz_ppattern.proofs.SymbolSteps.{functor_one, bracketed_one, enclosed_one}
use Rattle.mz_ppattern.proofs.LociSteps as loci
use Rattle.mz_ppattern.proofs.LociSteps.{starts_loci, starts_identifiers, starts_mode_loci}
use Rattle.mz_ppattern.proofs.OptionalSteps.{one_optional}
use Rattle.mz_ppattern.proofs.PatternSequences as sequences
use Rattle.mz_ppattern.proofs.FunctorPatterns as functors
use Rattle.mz_ppattern.proofs.KindSteps.{kind_of, kind_told, pattern_filled, functor_pattern, predicate_pattern, attribute_pattern, mode_pattern}

names : (n : ℕ) (s : Sign) → is_named s ≡ true → One n (name s)
names n s h = one_class n Word (named s) (same_named s h)

words : (n : ℕ) (s : Sign) → is_fixed s ≡ true → One n (word s)
words n s h = one_class n Place (fixed s) (same_fixed s h)

-- Loci.
loci_at : (n : ℕ) (x : LociTree) (tok : MarkedToken) (m : List MarkedToken) → spell_loci x ≡ tok ∷ m → OneAt n loci_form tok
loci_at n (loci_tree.One w) tok m e = at_as n loci_form (name signs.Identifier) (λ v. loci_tree.One v) tok
    (loci.as_one (tok ∷ []) (ap begins_identifiers (sym (head_of _ _ _ _ e)) ∙ ap is_identifier (sign_of-named signs.Identifier w refl))) (names n signs.Identifier refl)
loci_at n (loci_tree.Several p s q) tok m e = at_as n loci_form loci.parenthesized loci.make_several tok
    (loci.as_several (tok ∷ []) (ap begins_identifiers (sym (head_of _ _ _ _ e)) ∙ ap is_identifier (sign_of-fixed signs.Open p refl))) (bracketed_one signs.Open signs.Close refl refl n)

pub loci_one : (n : ℕ) → One n loci_form
loci_one n = one_from n loci_form (λ a b isa isb ea eb. absurd (starts_loci.filled a isa ea)) (λ a b tok m isa isb ea eb. absurd (starts_loci.filled a isa ea)) (λ a tok m isa e. loci_at n a tok m e)

pub optional_loci_one : (n : ℕ) → One n optional_loci
optional_loci_one n = one_optional loci_form begins_loci starts_loci n (loci_one n)

pub optional_identifiers_one : (n : ℕ) → One n optional_identifiers
optional_identifiers_one n = one_optional identifiers_form begins_identifiers starts_identifiers n (identifiers_one n)

pub mode_loci_one : (n : ℕ) → One n mode_loci_form
mode_loci_one n = one_as n mode_loci_form sequences.mode_loci_1 sequences.make_mode_loci sequences.only_mode_loci (λ s is. (sequences.as_mode_loci []).spells s is) (λ s t is g. (sequences.as_mode_loci []).goes s t is g)
    (one_then n n (word signs.Of) (λ _. sequences.mode_loci_2) sequences.mode_loci_apart_1 (words n signs.Of refl) (λ a. identifiers_one n) (λ a l isa h. omega (arith, h)))

optional_mode_loci_one : (n : ℕ) → One n optional_mode_loci
optional_mode_loci_one n = one_optional mode_loci_form begins_mode_loci starts_mode_loci n (mode_loci_one n)

-- Patterns that are parts one behind another.
pub symbol_pattern_one : (n : ℕ) → One n symbol_pattern_form
symbol_pattern_one n = one_as n symbol_pattern_form sequences.symbol_pattern_1 sequences.make_symbol_pattern sequences.only_symbol_pattern (λ s is. (sequences.as_symbol_pattern []).spells s is) (λ s t is g. (sequences.as_symbol_pattern []).goes s t is g)
    (one_then n n optional_loci (λ _. sequences.symbol_pattern_2) sequences.symbol_pattern_apart_1 (optional_loci_one n) (λ a. one_then n n functor_form (λ _. sequences.symbol_pattern_3) sequences.symbol_pattern_apart_2 (functor_one n) (λ a. optional_loci_one n) (λ a l isa h. omega (arith, h))) (λ a l isa h. omega (arith, h)))

pub predicate_pattern_one : (n : ℕ) → One n predicate_pattern_form
predicate_pattern_one n = one_as n predicate_pattern_form sequences.predicate_pattern_1 sequences.make_predicate_pattern sequences.only_predicate_pattern (λ s is. (sequences.as_predicate_pattern []).spells s is) (λ s t is g. (sequences.as_predicate_pattern []).goes s t is g)
    (one_then n n optional_identifiers (λ _. sequences.predicate_pattern_2) sequences.predicate_pattern_apart_1 (optional_identifiers_one n) (λ a. one_then n n (name signs.Predicate) (λ _. sequences.predicate_pattern_3) sequences.predicate_pattern_apart_2 (names n signs.Predicate refl) (λ a. optional_identifiers_one n) (λ a l isa h. omega (arith, h))) (λ a l isa h. omega (arith, h)))

pub attribute_pattern_one : (n : ℕ) → One n attribute_pattern_form
attribute_pattern_one n = one_as n attribute_pattern_form sequences.attribute_pattern_1 sequences.make_attribute_pattern sequences.only_attribute_pattern (λ s is. (sequences.as_attribute_pattern []).spells s is) (λ s t is g. (sequences.as_attribute_pattern []).goes s t is g)
    (one_then n n (name signs.Identifier) (λ _. sequences.attribute_pattern_2) sequences.attribute_pattern_apart_1 (names n signs.Identifier refl) (λ a. one_then n n (word signs.Is) (λ _. sequences.attribute_pattern_3) sequences.attribute_pattern_apart_2 (words n signs.Is refl) (λ a. one_then n n optional_loci (λ _. sequences.attribute_pattern_4) sequences.attribute_pattern_apart_3 (optional_loci_one n) (λ a. names n signs.Attribute refl) (λ a l isa h. omega (arith, h))) (λ a l isa h. omega (arith, h))) (λ a l isa h. omega (arith, h)))

pub mode_pattern_one : (n : ℕ) → One n mode_pattern_form
mode_pattern_one n = one_as n mode_pattern_form sequences.mode_pattern_1 sequences.make_mode_pattern sequences.only_mode_pattern (λ s is. (sequences.as_mode_pattern []).spells s is) (λ s t is g. (sequences.as_mode_pattern []).goes s t is g)
    (one_then n n (name signs.Mode) (λ _. sequences.mode_pattern_2) sequences.mode_pattern_apart_1 (names n signs.Mode refl) (λ a. optional_mode_loci_one n) (λ a l isa h. omega (arith, h)))

-- Patterns of functors.
functor_at : (n : ℕ) (x : FunctorPatternTree) (tok : MarkedToken) (m : List MarkedToken) → spell_functor_pattern x ≡ tok ∷ m → OneAt n functor_pattern_form tok
functor_at n (functor_patterns.Symbol a) tok m e = go a.left e
  where
    at : (s : MarkedToken) (k : Sign) → tok ≡ s → sign_of s ≡ k → functors.is_left k ≡ false → functors.is_brace k ≡ false → functors.is_square k ≡ false → OneAt n functor_pattern_form tok
    at s k f h l r q = at_as n functor_pattern_form symbol_pattern_form (λ b. functor_patterns.Symbol b) tok
        (functors.as_symbol (tok ∷ []) (ap functors.is_left (ap sign_of f ∙ h) ∙ l) (ap functors.is_brace (ap sign_of f ∙ h) ∙ r) (ap functors.is_square (ap sign_of f ∙ h) ∙ q)) (symbol_pattern_one n)

    go : (l : Option LociTree) → spelled.maybe spell_loci l ++ spelled.functor a.symbol a.priority ∷ spelled.maybe spell_loci a.right ≡ tok ∷ m → OneAt n functor_pattern_form tok
    go None f = at (spelled.functor a.symbol a.priority) signs.Functor (sym (head_of _ _ _ _ f)) (sign_of-functor a.symbol a.priority) refl refl refl
    go (Some (loci_tree.One v)) f = at (named signs.Identifier v) signs.Identifier (sym (head_of _ _ _ _ f)) (sign_of-named signs.Identifier v refl) refl refl refl
    go (Some (loci_tree.Several p s q)) f = at (fixed signs.Open p) signs.Open (sym (head_of _ _ _ _ f)) (sign_of-fixed signs.Open p refl) refl refl refl
functor_at n (functor_patterns.Brackets p s q) tok m e = at_as n functor_pattern_form enclosed_form functors.make_enclosed tok
    (functors.as_enclosed (tok ∷ []) (ap functors.opens_left (sym (head_of _ _ _ _ e)) ∙ ap functors.is_left (sign_of-named signs.LeftBracket p refl))) (enclosed_one n)
functor_at n (functor_patterns.Braces p s q) tok m e = at_as n functor_pattern_form functors.braces functors.make_braces tok
    (functors.as_braces (tok ∷ []) (ap functors.opens_brace (sym (head_of _ _ _ _ e)) ∙ ap functors.is_brace (sign_of-fixed signs.OpenBrace p refl))) (bracketed_one signs.OpenBrace signs.CloseBrace refl refl n)
functor_at n (functor_patterns.Squares p s q) tok m e = at_as n functor_pattern_form functors.squares functors.make_squares tok
    (functors.as_squares (tok ∷ []) (ap functors.opens_square (sym (head_of _ _ _ _ e)) ∙ ap functors.is_square (sign_of-fixed signs.OpenSquare p refl))) (bracketed_one signs.OpenSquare signs.CloseSquare refl refl n)

pub functor_pattern_one : (n : ℕ) → One n functor_pattern_form
functor_pattern_one n = one_from n functor_pattern_form (λ a b isa isb ea eb. absurd (functors.functor_filled a ea)) (λ a b tok m isa isb ea eb. absurd (functors.functor_filled a ea)) (λ a tok m isa e. functor_at n a tok m e)

-- Patterns of notations: the tokens say of which kind both are.
same_kind : (a b : PatternTree) (tok : MarkedToken) (x y m k : List MarkedToken) → spell_pattern a ≡ tok ∷ m → spell_pattern b ≡ tok ∷ k → m ++ x ≡ k ++ y → kind_of a ≡ kind_of b
same_kind a b tok x y m k ea eb f =
    let A : List MarkedToken → Type 0 = λ z. Agrees z k in
    sym (kind_told a tok (m ++ x) m ea (agrees_self m x)) ∙ kind_told b tok (m ++ x) k eb (subst A (sym f) (agrees_self k y))

pattern_at : (n : ℕ) (tok : MarkedToken) → OneAt n pattern_form tok
pattern_at n tok a b x y m k less isa isb ea eb e qa qb = go a b less e qa qb (same_kind a b tok x y m k ea eb (tail_of _ _ _ _ (ap (λ z. z ++ x) (sym ea) ∙ (e ∙ ap (λ z. z ++ y) eb))))
  where
    go : (a b : PatternTree) → length (spell_pattern a) < n → spell_pattern a ++ x ≡ spell_pattern b ++ y → Quiet pattern_form a x → Quiet pattern_form b y → kind_of a ≡ kind_of b → a ≡ b
    go (patterns.Functor s) (patterns.Functor t) l f p q h = at_same n pattern_form functor_pattern_form functor_pattern (λ z is. refl) (λ z t is g. g) (functor_pattern_one n) (functor_pattern s) (functor_pattern t) x y l (s, tt, refl) (t, tt, refl) f p q
    go (patterns.Predicate s) (patterns.Predicate t) l f p q h = at_same n pattern_form predicate_pattern_form predicate_pattern (λ z is. refl) (λ z t is g. g) (predicate_pattern_one n) (predicate_pattern s) (predicate_pattern t) x y l (s, tt, refl) (t, tt, refl) f p q
    go (patterns.Attribute s) (patterns.Attribute t) l f p q h = at_same n pattern_form attribute_pattern_form attribute_pattern (λ z is. refl) (λ z t is g. g) (attribute_pattern_one n) (attribute_pattern s) (attribute_pattern t) x y l (s, tt, refl) (t, tt, refl) f p q
    go (patterns.Mode s) (patterns.Mode t) l f p q h = at_same n pattern_form mode_pattern_form mode_pattern (λ z is. refl) (λ z t is g. g) (mode_pattern_one n) (mode_pattern s) (mode_pattern t) x y l (s, tt, refl) (t, tt, refl) f p q
    go (patterns.Functor s) (patterns.Predicate t) l f p q h = cc
    go (patterns.Functor s) (patterns.Attribute t) l f p q h = cc
    go (patterns.Functor s) (patterns.Mode t) l f p q h = cc
    go (patterns.Predicate s) (patterns.Functor t) l f p q h = cc
    go (patterns.Predicate s) (patterns.Attribute t) l f p q h = cc
    go (patterns.Predicate s) (patterns.Mode t) l f p q h = cc
    go (patterns.Attribute s) (patterns.Functor t) l f p q h = cc
    go (patterns.Attribute s) (patterns.Predicate t) l f p q h = cc
    go (patterns.Attribute s) (patterns.Mode t) l f p q h = cc
    go (patterns.Mode s) (patterns.Functor t) l f p q h = cc
    go (patterns.Mode s) (patterns.Predicate t) l f p q h = cc
    go (patterns.Mode s) (patterns.Attribute t) l f p q h = cc

pub pattern_one : (n : ℕ) → One n pattern_form
pattern_one n = one_from n pattern_form (λ a b isa isb ea eb. absurd (pattern_filled a ea)) (λ a b tok m isa isb ea eb. absurd (pattern_filled a ea)) (λ a tok m isa e. pattern_at n tok)
