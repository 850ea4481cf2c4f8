-- Which pattern of a notation tokens begin, by the first two of them.
use Rattle.std.specs.List.{flat_map}
use Rattle.std.proofs.Common.{◌≡◌, ℕ, Bool, true, false, List, [], ◌∷◌, ◌++◌, refl, sym, ap, subst, ◌∙◌, get_or, Option, Some, None}
use Rattle.mz_base.specs.declared.token.MarkedToken.{MarkedToken}
use Rattle.mz_forms.specs.Form.{Agrees}
use Rattle.mz_forms.proofs.Compose.{head_of, tail_of}
use Rattle.mz_forms.proofs.Lists.{Begun}
use Rattle.mz_forms.proofs.Look.{Looks}
use Rattle.mz_tree.specs.declared.word.Word.{Word}
use Rattle.mz_tree.specs.declared.word.Comma.{Comma}
use Rattle.mz_tree.specs.declared.chain.Next.{Next}
use Rattle.mz_tree.specs.declared.lists.Separated.{Separated}
use Rattle.mz_tree.specs.Spelled as spelled
use Rattle.mz_tree.specs.Spelled.{functor, comma_token}
use Rattle.mz_tree.specs.Lists.{spell_separated, spell_next}
use Rattle.mz_tree_heading.specs.declared.patterns.IdentifierTree.{IdentifierTree}
use Rattle.mz_tree_heading.specs.declared.patterns.LociTree.{LociTree}
use Rattle.mz_tree_heading.specs.declared.patterns.LociTree.TheVariants as loci_tree
use Rattle.mz_tree_heading.specs.declared.patterns.FunctorPatternTree.{FunctorPatternTree}
use Rattle.mz_tree_heading.specs.declared.patterns.FunctorPatternTree.TheVariants as functor_patterns
use Rattle.mz_tree_heading.specs.declared.patterns.PredicatePatternTree.{PredicatePatternTree}
use Rattle.mz_tree_heading.specs.declared.patterns.AttributePatternTree.{AttributePatternTree}
use Rattle.mz_tree_heading.specs.declared.patterns.ModePatternTree.{ModePatternTree}
use Rattle.mz_tree_heading.specs.declared.patterns.PatternTree.{PatternTree}
use Rattle.mz_tree_heading.specs.declared.patterns.PatternTree.TheVariants as patterns
use Rattle.mz_tree_heading.specs.Spell.{spell_identifier, spell_loci, spell_functor_pattern, spell_pattern}
use Rattle.mz_tree_heading.specs.Levels.{levels_predicate_pattern}
use Rattle.mz_pterm.specs.declared.sign.Sign.{Sign}
use Rattle.mz_pterm.specs.declared.sign.Sign.TheVariants as signs
use Rattle.mz_pterm.specs.Sign.{sign_of}
use Rattle.mz_pterm.specs.Words.{fixed, named, word_of}
use Rattle.mz_pterm.proofs.Bases.{word_at}
use Rattle.mz_pterm.proofs.Signs.{told_named, sign_of-fixed, sign_of-named, sign_of-functor}
use Rattle.mz_ptype.proofs.DeclarationSteps.{comma_kind, comma_signed}
use Rattle.mz_pjustification.proofs.Taken.{nowhere}
use Rattle.mz_ppattern.specs.declared.patterns.PatternKind.{PatternKind}
use Rattle.mz_ppattern.specs.declared.patterns.PatternKind.TheVariants as kinds
use Rattle.mz_ppattern.specs.Classes.{kind_behind, second_kind, first_kind, kind_next}
use Rattle.mz_ppattern.specs.Forms.{functor_pattern_form, predicate_pattern_form, attribute_pattern_form, mode_pattern_form, pattern_form}
use Rattle.mz_ppattern.proofs.NameSteps.{make_identifier}
use Rattle.mz_ppattern.proofs.FunctorPatterns.{functor_filled}

abbrev pub kind_of : PatternTree → PatternKind
kind_of (patterns.Functor x) = kinds.Functor
kind_of (patterns.Predicate x) = kinds.Predicate
kind_of (patterns.Attribute x) = kinds.Attribute
kind_of (patterns.Mode x) = kinds.Mode

-- by the first token, and by the second behind an identifier
kind_next-by_first : (t : MarkedToken) (rest : List MarkedToken) (s : MarkedToken) (k : Sign) → t ≡ s → sign_of s ≡ k → kind_next (t ∷ rest) ≡ first_kind k rest
kind_next-by_first t rest s k e h = ap (λ z. first_kind z rest) (ap sign_of e ∙ h)

by_second : (rest : List MarkedToken) (n : MarkedToken) (w more : List MarkedToken) (k : Sign) → more ≡ n ∷ w → Agrees rest more → sign_of n ≡ k → second_kind rest ≡ kind_behind k
by_second rest n w more k e agrees h = go rest (subst (λ (z : List MarkedToken). Agrees rest z) e agrees)
  where
    go : (r : List MarkedToken) → Agrees r (n ∷ w) → second_kind r ≡ kind_behind k
    go [] g = absurd g
    go (s ∷ r) g = ap kind_behind (ap sign_of (sym g) ∙ h)

functor_kind : (x : FunctorPatternTree) (t : MarkedToken) (rest more : List MarkedToken) → spell_functor_pattern x ≡ t ∷ more → Agrees rest more → kind_next (t ∷ rest) ≡ kinds.Functor
functor_kind (functor_patterns.Symbol a) t rest more e agrees = go a.left e
  where
    go : (l : Option LociTree) → spelled.maybe spell_loci l ++ functor a.symbol a.priority ∷ spelled.maybe spell_loci a.right ≡ t ∷ more → kind_next (t ∷ rest) ≡ kinds.Functor
    go None f = kind_next-by_first t rest (functor a.symbol a.priority) signs.Functor (sym (head_of _ _ _ _ f)) (sign_of-functor a.symbol a.priority)
    go (Some (loci_tree.One v)) f = kind_next-by_first t rest (named signs.Identifier v) signs.Identifier (sym (head_of _ _ _ _ f)) (sign_of-named signs.Identifier v refl)
        ∙ by_second rest (functor a.symbol a.priority) (spelled.maybe spell_loci a.right) more signs.Functor (sym (tail_of _ _ _ _ f)) agrees (sign_of-functor a.symbol a.priority)
    go (Some (loci_tree.Several p s q)) f = kind_next-by_first t rest (fixed signs.Open p) signs.Open (sym (head_of _ _ _ _ f)) (sign_of-fixed signs.Open p refl)
functor_kind (functor_patterns.Brackets p s q) t rest more e agrees = kind_next-by_first t rest (named signs.LeftBracket p) signs.LeftBracket (sym (head_of _ _ _ _ e)) (sign_of-named signs.LeftBracket p refl)
functor_kind (functor_patterns.Braces p s q) t rest more e agrees = kind_next-by_first t rest (fixed signs.OpenBrace p) signs.OpenBrace (sym (head_of _ _ _ _ e)) (sign_of-fixed signs.OpenBrace p refl)
functor_kind (functor_patterns.Squares p s q) t rest more e agrees = kind_next-by_first t rest (fixed signs.OpenSquare p) signs.OpenSquare (sym (head_of _ _ _ _ e)) (sign_of-fixed signs.OpenSquare p refl)

comma_behind : (d : Bool) → kind_behind (comma_kind d) ≡ kinds.Predicate
comma_behind true = refl
comma_behind false = refl

predicate_kind : (l : Option (Separated IdentifierTree)) (w : Word) (r : List MarkedToken) (t : MarkedToken) (rest more : List MarkedToken) → spelled.maybe (spell_separated spell_identifier) l ++ named signs.Predicate w ∷ r ≡ t ∷ more → Agrees rest more → kind_next (t ∷ rest) ≡ kinds.Predicate
predicate_kind None w r t rest more e agrees = kind_next-by_first t rest (named signs.Predicate w) signs.Predicate (sym (head_of _ _ _ _ e)) (sign_of-named signs.Predicate w refl)
predicate_kind (Some s) w r t rest more e agrees =
    kind_next-by_first t rest (named signs.Identifier s.first.name) signs.Identifier (sym (head_of _ _ _ _ e)) (sign_of-named signs.Identifier s.first.name refl) ∙ go s.more (tail_of _ _ _ _ e)
  where
    go : (ns : List (Next Comma IdentifierTree)) → flat_map (spell_next spell_identifier) ns ++ named signs.Predicate w ∷ r ≡ more → second_kind rest ≡ kinds.Predicate
    go [] f = by_second rest (named signs.Predicate w) r more signs.Predicate (sym f) agrees (sign_of-named signs.Predicate w refl)
    go (n ∷ ns) f = by_second rest (comma_token n.sign) _ more (comma_kind n.sign.dividing) (sym f) agrees (comma_signed n.sign) ∙ comma_behind n.sign.dividing

pub kind_told : (x : PatternTree) (t : MarkedToken) (rest more : List MarkedToken) → spell_pattern x ≡ t ∷ more → Agrees rest more → kind_next (t ∷ rest) ≡ kind_of x
kind_told (patterns.Functor x) t rest more e agrees = functor_kind x t rest more e agrees
kind_told (patterns.Predicate x) t rest more e agrees = predicate_kind x.left x.symbol _ t rest more e agrees
kind_told (patterns.Attribute x) t rest more e agrees =
    kind_next-by_first t rest (named signs.Identifier x.subject) signs.Identifier (sym (head_of _ _ _ _ e)) (sign_of-named signs.Identifier x.subject refl)
    ∙ by_second rest (fixed signs.Is x.is) _ more signs.Is (sym (tail_of _ _ _ _ e)) agrees (sign_of-fixed signs.Is x.is refl)
kind_told (patterns.Mode x) t rest more e agrees = kind_next-by_first t rest (named signs.Mode x.symbol) signs.Mode (sym (head_of _ _ _ _ e)) (sign_of-named signs.Mode x.symbol refl)

-- each pattern has a token
predicate_filled : (l : Option (Separated IdentifierTree)) (w : Word) (r : List MarkedToken) → spelled.maybe (spell_separated spell_identifier) l ++ named signs.Predicate w ∷ r ≡ [] → ⊥
predicate_filled None w r e = cc
predicate_filled (Some s) w r e = cc

mode_not_empty : (w : Word) (r : List MarkedToken) → named signs.Mode w ∷ r ≡ [] → ⊥
mode_not_empty w r e = cc

pub pattern_filled : (x : PatternTree) → spell_pattern x ≡ [] → ⊥
pattern_filled (patterns.Functor x) e = functor_filled x e
pattern_filled (patterns.Predicate x) e = predicate_filled x.left x.symbol _ e
pattern_filled (patterns.Attribute x) e = cc
pattern_filled (patterns.Mode x) e = mode_not_empty x.symbol _ e

-- The alternatives.
abbrev pub functor_pattern : FunctorPatternTree → PatternTree
functor_pattern x = patterns.Functor x

abbrev pub predicate_pattern : PredicatePatternTree → PatternTree
predicate_pattern x = patterns.Predicate x

abbrev pub attribute_pattern : AttributePatternTree → PatternTree
attribute_pattern x = patterns.Attribute x

abbrev pub mode_pattern : ModePatternTree → PatternTree
mode_pattern x = patterns.Mode x

pub only_functor : (x : PatternTree) → kind_of x ≡ kinds.Functor → (s : FunctorPatternTree) × Unit {0} × (x ≡ functor_pattern s)
only_functor (patterns.Functor x) e = (x, tt, refl)
only_functor (patterns.Predicate x) e = cc
only_functor (patterns.Attribute x) e = cc
only_functor (patterns.Mode x) e = cc

only_predicate : (x : PatternTree) → kind_of x ≡ kinds.Predicate → (s : PredicatePatternTree) × Unit {0} × (x ≡ predicate_pattern s)
only_predicate (patterns.Functor x) e = cc
only_predicate (patterns.Predicate x) e = (x, tt, refl)
only_predicate (patterns.Attribute x) e = cc
only_predicate (patterns.Mode x) e = cc

only_attribute : (x : PatternTree) → kind_of x ≡ kinds.Attribute → (s : AttributePatternTree) × Unit {0} × (x ≡ attribute_pattern s)
only_attribute (patterns.Functor x) e = cc
only_attribute (patterns.Predicate x) e = cc
only_attribute (patterns.Attribute x) e = (x, tt, refl)
only_attribute (patterns.Mode x) e = cc

only_mode : (x : PatternTree) → kind_of x ≡ kinds.Mode → (s : ModePatternTree) × Unit {0} × (x ≡ mode_pattern s)
only_mode (patterns.Functor x) e = cc
only_mode (patterns.Predicate x) e = cc
only_mode (patterns.Attribute x) e = cc
only_mode (patterns.Mode x) e = (x, tt, refl)

pub kind_at : (k : PatternKind) (t : MarkedToken) (rest : List MarkedToken) → kind_next (t ∷ rest) ≡ k → (x : PatternTree) (more : List MarkedToken) → spell_pattern x ≡ t ∷ more → Agrees rest more → kind_of x ≡ k
kind_at k t rest h x more e agrees = sym (kind_told x t rest more e agrees) ∙ h

-- Predicates: an identifier, or the symbol, comes first.
predicate_level : (x : PredicatePatternTree) → get_or (levels_predicate_pattern x) 0 0 ≡ 0
predicate_level x = go x.left
  where
    go : (l : Option (Separated IdentifierTree)) → get_or (levels_predicate_pattern (record { left = l; symbol = x.symbol; right = x.right })) 0 0 ≡ 0
    go None = refl
    go (Some s) = refl

begun_predicate : (t : MarkedToken) (rest : List MarkedToken) → kind_next (t ∷ rest) ≡ kinds.Predicate → Begun predicate_pattern_form t
begun_predicate t rest h = go (sign_of t) refl h
  where
    go : (s : Sign) → sign_of t ≡ s → first_kind s rest ≡ kinds.Predicate → Begun predicate_pattern_form t
    go signs.Identifier e g = (record { left = Some (record { first = make_identifier (word_of t); more = [] }); symbol = word_at nowhere; right = None }, named signs.Predicate (word_at nowhere) ∷ [], tt, ap (λ z. z ∷ (named signs.Predicate (word_at nowhere) ∷ [])) (sym (told_named signs.Identifier t refl e)))
    go signs.Predicate e g = (record { left = None; symbol = word_of t; right = None }, [], tt, ap (λ z. z ∷ []) (sym (told_named signs.Predicate t refl e)))
    go signs.Mode e g = cc
    go _ e g = cc

pub looks_predicate : (t : MarkedToken) (rest : List MarkedToken) → kind_next (t ∷ rest) ≡ kinds.Predicate → Looks pattern_form predicate_pattern_form predicate_pattern t rest
looks_predicate t rest h = record {
  into = λ k is. tt;
  spells = λ k is. refl;
  only = λ x m is e agrees. only_predicate x (kind_at kinds.Predicate t rest h x m e agrees);
  empty = λ x is e. absurd (pattern_filled x e);
  filled = λ k is e. predicate_filled k.left k.symbol _ e;
  goes = λ k s is g. g;
  level = λ k is. refl;
  first = λ k is. predicate_level k;
  begins = begun_predicate t rest h;
}

-- Attributes: an identifier comes first.
begun_attribute : (t : MarkedToken) (rest : List MarkedToken) → kind_next (t ∷ rest) ≡ kinds.Attribute → Begun attribute_pattern_form t
begun_attribute t rest h = go (sign_of t) refl h
  where
    go : (s : Sign) → sign_of t ≡ s → first_kind s rest ≡ kinds.Attribute → Begun attribute_pattern_form t
    go signs.Identifier e g = (record { subject = word_of t; is = nowhere; loci = None; symbol = word_at nowhere }, fixed signs.Is nowhere ∷ (named signs.Attribute (word_at nowhere) ∷ []), tt, ap (λ z. z ∷ (fixed signs.Is nowhere ∷ (named signs.Attribute (word_at nowhere) ∷ []))) (sym (told_named signs.Identifier t refl e)))
    go signs.Predicate e g = cc
    go signs.Mode e g = cc
    go _ e g = cc

pub looks_attribute : (t : MarkedToken) (rest : List MarkedToken) → kind_next (t ∷ rest) ≡ kinds.Attribute → Looks pattern_form attribute_pattern_form attribute_pattern t rest
looks_attribute t rest h = record {
  into = λ k is. tt;
  spells = λ k is. refl;
  only = λ x m is e agrees. only_attribute x (kind_at kinds.Attribute t rest h x m e agrees);
  empty = λ x is e. absurd (pattern_filled x e);
  filled = λ k is e. cc;
  goes = λ k s is g. g;
  level = λ k is. refl;
  first = λ k is. refl;
  begins = begun_attribute t rest h;
}

-- Modes: their symbol comes first.
begun_mode : (t : MarkedToken) (rest : List MarkedToken) → kind_next (t ∷ rest) ≡ kinds.Mode → Begun mode_pattern_form t
begun_mode t rest h = go (sign_of t) refl h
  where
    behind_mode : (r : List MarkedToken) → second_kind r ≡ kinds.Mode → ⊥
    behind_mode [] g = cc
    behind_mode (n ∷ r) g = other (sign_of n) g
      where
        other : (s : Sign) → kind_behind s ≡ kinds.Mode → ⊥
        other signs.Functor f = cc
        other signs.Is f = cc
        other _ f = cc

    go : (s : Sign) → sign_of t ≡ s → first_kind s rest ≡ kinds.Mode → Begun mode_pattern_form t
    go signs.Mode e g = (record { symbol = word_of t; loci = None }, [], tt, ap (λ z. z ∷ []) (sym (told_named signs.Mode t refl e)))
    go signs.Identifier e g = absurd (behind_mode rest g)
    go signs.Predicate e g = cc
    go _ e g = cc

pub looks_mode : (t : MarkedToken) (rest : List MarkedToken) → kind_next (t ∷ rest) ≡ kinds.Mode → Looks pattern_form mode_pattern_form mode_pattern t rest
looks_mode t rest h = record {
  into = λ k is. tt;
  spells = λ k is. refl;
  only = λ x m is e agrees. only_mode x (kind_at kinds.Mode t rest h x m e agrees);
  empty = λ x is e. absurd (pattern_filled x e);
  filled = λ k is e. mode_not_empty k.symbol _ e;
  goes = λ k s is g. g;
  level = λ k is. refl;
  first = λ k is. refl;
  begins = begun_mode t rest h;
}
