-- The readings of the patterns of notations.
use Rattle.std.proofs.Common.{◌≡◌, ℕ, Bool, true, false, List, [], ◌∷◌, ◌++◌, refl, sym, ap, subst, ◌∙◌, get_or, Option, Some, None}
use Rattle.mz_base.specs.declared.token.MarkedToken.{MarkedToken}
use Rattle.mz_forms.specs.Form.{Form, Agrees, Leads}
use Rattle.mz_forms.proofs.Choose.{Reshapes}
use Rattle.mz_forms.proofs.Leads.{leads_as, leads_look, leads_on}
use Rattle.mz_forms.proofs.Lists.{Begun}
use Rattle.mz_forms.proofs.Look.{Looks}
use Rattle.mz_tree.specs.Spelled as spelled
use Rattle.mz_tree.specs.Spelled.{functor}
use Rattle.mz_tree_heading.specs.declared.patterns.LociTree.{LociTree}
use Rattle.mz_tree_heading.specs.declared.patterns.LociTree.TheVariants as loci_tree
use Rattle.mz_tree_heading.specs.declared.patterns.FunctorPatternTree.{FunctorPatternTree}
use Rattle.mz_tree_heading.specs.declared.patterns.FunctorPatternTree.TheVariants as functor_patterns
use Rattle.mz_tree_heading.specs.declared.patterns.PatternTree.{PatternTree}
use Rattle.mz_tree_heading.specs.Spell.{spell_loci, spell_functor_pattern, spell_pattern}
use Rattle.mz_tree_heading.specs.Levels.{levels_functor_pattern}
use Rattle.mz_pterm.specs.declared.sign.Sign.{Sign}
use Rattle.mz_pterm.specs.declared.sign.Sign.TheVariants as signs
use Rattle.mz_pterm.specs.Sign.{sign_of}
use Rattle.mz_pterm.specs.Words.{fixed, named, word_of}
use Rattle.mz_pterm.proofs.Bases.{word_at}
use Rattle.mz_pterm.proofs.Signs.{told_named, sign_of-fixed, sign_of-named}
use Rattle.mz_ptype.proofs.Optional.{true_not_false}
use Rattle.mz_patom.specs.Classes.{is_identifier}
use Rattle.mz_pformula.proofs.Begun.{begun, leads_begun}
use Rattle.mz_pformula.proofs.Identifiers.{identifier_is}
use Rattle.mz_pjustification.proofs.Taken.{nowhere}
use Rattle.mz_ppattern.specs.declared.patterns.PatternKind.TheVariants as kinds
use Rattle.mz_ppattern.specs.Classes.{first_kind, kind_next}
use Rattle.mz_ppattern.specs.Forms.{functor_pattern_form, predicate_pattern_form, attribute_pattern_form, mode_pattern_form, pattern_form}
use Rattle.mz_ppattern.proofs.FunctorPatterns.{functor_filled}
use Rattle.mz_ppattern.proofs.KindSteps.{kind_of, pattern_filled, functor_pattern, predicate_pattern, attribute_pattern, mode_pattern, only_functor, kind_at, looks_predicate, looks_attribute, looks_mode}

pub predicate_leads : (room : ℕ) (b : List MarkedToken) → kind_next b ≡ kinds.Predicate → Leads pattern_form predicate_pattern_form room predicate_pattern b b
predicate_leads room [] h = absurd (no h)
  where
    no : kinds.Functor ≡ kinds.Predicate → ⊥
    no e = cc
predicate_leads room (t ∷ rest) h = leads_look pattern_form predicate_pattern_form predicate_pattern t rest (looks_predicate t rest h) room (t ∷ rest) refl

pub attribute_leads : (room : ℕ) (b : List MarkedToken) → kind_next b ≡ kinds.Attribute → Leads pattern_form attribute_pattern_form room attribute_pattern b b
attribute_leads room [] h = absurd (no h)
  where
    no : kinds.Functor ≡ kinds.Attribute → ⊥
    no e = cc
attribute_leads room (t ∷ rest) h = leads_look pattern_form attribute_pattern_form attribute_pattern t rest (looks_attribute t rest h) room (t ∷ rest) refl

pub mode_leads : (room : ℕ) (b : List MarkedToken) → kind_next b ≡ kinds.Mode → Leads pattern_form mode_pattern_form room mode_pattern b b
mode_leads room [] h = absurd (no h)
  where
    no : kinds.Functor ≡ kinds.Mode → ⊥
    no e = cc
mode_leads room (t ∷ rest) h = leads_look pattern_form mode_pattern_form mode_pattern t rest (looks_mode t rest h) room (t ∷ rest) refl

-- Functors, where an identifier comes first and a functor symbol behind it.
functor_level : (x : FunctorPatternTree) (t : MarkedToken) → sign_of t ≡ signs.Identifier → Agrees (t ∷ []) (spell_functor_pattern x) → get_or (levels_functor_pattern x) 0 0 ≡ 0
functor_level (functor_patterns.Symbol a) t h agrees = go a.left agrees
  where
    go : (l : Option LociTree) → Agrees (t ∷ []) (spelled.maybe spell_loci l ++ functor a.symbol a.priority ∷ spelled.maybe spell_loci a.right) → get_or (levels_functor_pattern (functor_patterns.Symbol (record { left = l; symbol = a.symbol; priority = a.priority; right = a.right }))) 0 0 ≡ 0
    go None g = refl
    go (Some (loci_tree.One v)) g = refl
    go (Some (loci_tree.Several p s q)) g = absurd (clash (sym (sign_of-fixed signs.Open p refl) ∙ (ap sign_of g ∙ h)))
      where
        clash : signs.Open ≡ signs.Identifier → ⊥
        clash e = cc
functor_level (functor_patterns.Brackets p s q) t h agrees = absurd (clash (sym (sign_of-named signs.LeftBracket p refl) ∙ (ap sign_of agrees ∙ h)))
  where
    clash : signs.LeftBracket ≡ signs.Identifier → ⊥
    clash e = cc
functor_level (functor_patterns.Braces p s q) t h agrees = absurd (clash (sym (sign_of-fixed signs.OpenBrace p refl) ∙ (ap sign_of agrees ∙ h)))
  where
    clash : signs.OpenBrace ≡ signs.Identifier → ⊥
    clash e = cc
functor_level (functor_patterns.Squares p s q) t h agrees = absurd (clash (sym (sign_of-fixed signs.OpenSquare p refl) ∙ (ap sign_of agrees ∙ h)))
  where
    clash : signs.OpenSquare ≡ signs.Identifier → ⊥
    clash e = cc

abbrev some_left : MarkedToken → FunctorPatternTree
some_left t = functor_patterns.Symbol (record { left = Some (loci_tree.One (word_of t)); symbol = word_at nowhere; priority = 0; right = None })

begun_functor : (t : MarkedToken) → sign_of t ≡ signs.Identifier → Begun functor_pattern_form t
begun_functor t h = (some_left t, functor (word_at nowhere) 0 ∷ [], tt, ap (λ z. z ∷ (functor (word_at nowhere) 0 ∷ [])) (sym (told_named signs.Identifier t refl h)))

agreeing : (t : MarkedToken) (w m : List MarkedToken) → w ≡ t ∷ m → Agrees (t ∷ []) w
agreeing t w m e = subst (λ (z : List MarkedToken). Agrees (t ∷ []) z) (sym e) refl

only_begun : (t : MarkedToken) (rest : List MarkedToken) → kind_next (t ∷ rest) ≡ kinds.Functor → (x : PatternTree) (m : List MarkedToken) → spell_pattern x ≡ t ∷ m → Agrees rest m → (s : FunctorPatternTree) × (begun functor_pattern_form t).IsTree s × (x ≡ functor_pattern s)
only_begun t rest h x m e agrees =
    let got = only_functor x (kind_at kinds.Functor t rest h x m e agrees) in
    (got.0, (tt, agreeing t (spell_functor_pattern got.0) m (sym (ap spell_pattern got.2) ∙ e)), got.2)

looks_functor : (t : MarkedToken) (rest : List MarkedToken) → sign_of t ≡ signs.Identifier → kind_next (t ∷ rest) ≡ kinds.Functor → Looks pattern_form (begun functor_pattern_form t) functor_pattern t rest
looks_functor t rest i h = record {
  into = λ k is. tt;
  spells = λ k is. refl;
  only = λ x m is e agrees. only_begun t rest h x m e agrees;
  empty = λ x is e. absurd (pattern_filled x e);
  filled = λ k is e. functor_filled k e;
  goes = λ k s is g. g;
  level = λ k is. refl;
  first = λ k is. functor_level k t i is.1;
  begins = let some = begun_functor t i in (some.0, some.1, (some.2, agreeing t _ some.1 some.3), some.3);
}

-- Functors otherwise: the next token says it.
as_functor : (b : List MarkedToken) → ((x : PatternTree) → Agrees b (spell_pattern x) → kind_of x ≡ kinds.Functor) → Reshapes pattern_form functor_pattern_form functor_pattern b
as_functor b h = record {
  into = λ k is. tt;
  spells = λ k is. refl;
  only = λ x is g. only_functor x (h x g);
  goes = λ k t is g. g;
  level = λ k is. refl;
}

kind_of-none_left : (x : PatternTree) → Agrees [] (spell_pattern x) → kind_of x ≡ kinds.Functor
kind_of-none_left x g = go (spell_pattern x) refl g
  where
    go : (w : List MarkedToken) → spell_pattern x ≡ w → Agrees [] w → kind_of x ≡ kinds.Functor
    go [] f a = absurd (pattern_filled x f)
    go (s ∷ w) f a = absurd a

-- a token that is no identifier decides kind_next-alone
kind_next-alone : (t : MarkedToken) (rest r : List MarkedToken) → (sign_of t ≡ signs.Identifier → ⊥) → kind_next (t ∷ rest) ≡ kind_next (t ∷ r)
kind_next-alone t rest r h = go (sign_of t) h
  where
    go : (s : Sign) → (s ≡ signs.Identifier → ⊥) → first_kind s rest ≡ first_kind s r
    go signs.Identifier g = absurd (g refl)
    go signs.Predicate g = refl
    go signs.Mode g = refl
    go _ g = refl

self : (w : List MarkedToken) → Agrees w w
self [] = tt
self (s ∷ w) = refl

kind_of-told_alone : (t : MarkedToken) (rest : List MarkedToken) → (sign_of t ≡ signs.Identifier → ⊥) → kind_next (t ∷ rest) ≡ kinds.Functor → (x : PatternTree) → Agrees (t ∷ rest) (spell_pattern x) → kind_of x ≡ kinds.Functor
kind_of-told_alone t rest i h x g = go (spell_pattern x) refl g
  where
    go : (w : List MarkedToken) → spell_pattern x ≡ w → Agrees (t ∷ rest) w → kind_of x ≡ kinds.Functor
    go [] f a = absurd (pattern_filled x f)
    go (s ∷ w) f a = kind_at kinds.Functor t w (sym (kind_next-alone t rest w i) ∙ h) x w (f ∙ ap (λ z. z ∷ w) a) (self w)

pub functor_leads : (room : ℕ) (b : List MarkedToken) → kind_next b ≡ kinds.Functor → Leads pattern_form functor_pattern_form room functor_pattern b b
functor_leads room [] h = leads_as pattern_form functor_pattern_form functor_pattern room [] (as_functor [] kind_of-none_left)
functor_leads room (t ∷ rest) h = go (is_identifier (sign_of t)) refl
  where
    other : (sign_of t ≡ signs.Identifier → ⊥) → Leads pattern_form functor_pattern_form room functor_pattern (t ∷ rest) (t ∷ rest)
    other i = leads_as pattern_form functor_pattern_form functor_pattern room (t ∷ rest) (as_functor (t ∷ rest) (kind_of-told_alone t rest i h))

    named_first : sign_of t ≡ signs.Identifier → Leads pattern_form functor_pattern_form room functor_pattern (t ∷ rest) (t ∷ rest)
    named_first i = leads_on pattern_form (begun functor_pattern_form t) functor_pattern_form room functor_pattern (λ k. k) (t ∷ rest) (t ∷ rest) (t ∷ rest)
        (leads_look pattern_form (begun functor_pattern_form t) functor_pattern t rest (looks_functor t rest i h) room (t ∷ rest) refl)
        (leads_begun functor_pattern_form t (begun_functor t i) rest room (t ∷ rest) refl)

    go : (b : Bool) → is_identifier (sign_of t) ≡ b → Leads pattern_form functor_pattern_form room functor_pattern (t ∷ rest) (t ∷ rest)
    go true i = named_first (identifier_is (sign_of t) i)
    go false i = other (λ e. true_not_false (is_identifier (sign_of t)) i (ap is_identifier e))
