-- Which formulas are plain equations.
use Rattle.std.specs.Prelude.{codes}
use Rattle.std.specs.Str.{bytes_eq}
use Rattle.std.proofs.Common.{◌≡◌, true, false, List, [], ◌∷◌, length, refl, arith, map}
use Rattle.mz_tree.specs.declared.word.Word.{Word}
use Rattle.mz_tree.specs.Trees.{TermData, NextTermData, TermsData, UnitData, NextUnitData, NextUnitList, ConjunctionData, NextConjunctionData, NextConjunctionList, DisjunctionData, PlainFormula, ChainDisjunction, ChainConjunction, ListTerms, NotUnit, ContradictionUnit, ThesisUnit, QuantifiedUnit, GroupUnit, PrivateUnit, PrivateWithUnit, PredicateUnit, PredicateRightUnit, PredicateLeftUnit, PredicateBothUnit, IsTypeUnit, IsAdjectivesUnit, no_next_terms, more_next_terms, no_next_units, more_next_units, no_next_conjunctions, more_next_conjunctions, next_terms_of, next_units_of, next_conjunctions_of}
use Rattle.mz_tree_proof.specs.RulesReasoning.{is_plain_equation}
use Rattle.mz_patom.specs.Forms.{is_single}
use Rattle.mz_pproof.specs.Equations.{equates, is_equation, is_only_equation, is_plain}

module _ {X : Type 0} where
  pub single_if : (f : X → NextTermData) (t : TermData) (xs : List X) → length xs ≡ 0 → is_single (ListTerms t (next_terms_of (map f xs))) ≡ true
  single_if f t [] e = refl
  single_if f t (x ∷ xs) e = absurd (omega (arith, e))

  pub several_if : (f : X → NextTermData) (t : TermData) (xs : List X) → (length xs ≡ 0 → ⊥) → is_single (ListTerms t (next_terms_of (map f xs))) ≡ false
  several_if f t [] h = absurd (h refl)
  several_if f t (x ∷ xs) h = refl

  pub only_unit : (f : X → NextUnitData) (u : UnitData) (xs : List X) → length xs ≡ 0 → is_only_equation (ChainConjunction u (next_units_of (map f xs))) ≡ is_equation u
  only_unit f u [] e = refl
  only_unit f u (x ∷ xs) e = absurd (omega (arith, e))

  pub more_units : (f : X → NextUnitData) (u : UnitData) (xs : List X) → (length xs ≡ 0 → ⊥) → is_only_equation (ChainConjunction u (next_units_of (map f xs))) ≡ false
  more_units f u [] h = absurd (h refl)
  more_units f u (x ∷ xs) h = refl

  pub only_conjunction : (f : X → NextConjunctionData) (c : ConjunctionData) (xs : List X) → length xs ≡ 0 → is_plain (ChainDisjunction c (next_conjunctions_of (map f xs))) ≡ is_only_equation c
  only_conjunction f c [] e = refl
  only_conjunction f c (x ∷ xs) e = absurd (omega (arith, e))

  pub more_conjunctions : (f : X → NextConjunctionData) (c : ConjunctionData) (xs : List X) → (length xs ≡ 0 → ⊥) → is_plain (ChainDisjunction c (next_conjunctions_of (map f xs))) ≡ false
  more_conjunctions f c [] h = absurd (h refl)
  more_conjunctions f c (x ∷ xs) h = refl

pub equates_both : (l : TermsData) (w : Word) (r : TermsData) → is_single l ≡ true → is_single r ≡ true → equates l w r ≡ bytes_eq w.spelling (codes "=")
equates_both (ListTerms t no_next_terms) w (ListTerms u no_next_terms) e f = refl
equates_both (ListTerms t no_next_terms) w (ListTerms u (more_next_terms x xs)) e f = cc
equates_both (ListTerms t (more_next_terms x xs)) w r e f = cc

pub several_left : (l : TermsData) (w : Word) (r : TermsData) → is_single l ≡ false → equates l w r ≡ false
several_left (ListTerms t no_next_terms) w r e = cc
several_left (ListTerms t (more_next_terms x xs)) w r e = refl

pub several_right : (l : TermsData) (w : Word) (r : TermsData) → is_single r ≡ false → equates l w r ≡ false
several_right (ListTerms t no_next_terms) w (ListTerms u no_next_terms) e = cc
several_right (ListTerms t no_next_terms) w (ListTerms u (more_next_terms x xs)) e = refl
several_right (ListTerms t (more_next_terms x xs)) w r e = refl

is_plain_equation-by_parts : (u : UnitData) (us : NextUnitList) (cs : NextConjunctionList) → is_plain_equation (PlainFormula (ChainDisjunction (ChainConjunction u us) cs)) ≡ is_plain (ChainDisjunction (ChainConjunction u us) cs)
is_plain_equation-by_parts (NotUnit p v) no_next_units no_next_conjunctions = refl
is_plain_equation-by_parts (NotUnit p v) no_next_units (more_next_conjunctions z zs) = refl
is_plain_equation-by_parts (NotUnit p v) (more_next_units x xs) no_next_conjunctions = refl
is_plain_equation-by_parts (NotUnit p v) (more_next_units x xs) (more_next_conjunctions z zs) = refl
is_plain_equation-by_parts (ContradictionUnit p) no_next_units no_next_conjunctions = refl
is_plain_equation-by_parts (ContradictionUnit p) no_next_units (more_next_conjunctions z zs) = refl
is_plain_equation-by_parts (ContradictionUnit p) (more_next_units x xs) no_next_conjunctions = refl
is_plain_equation-by_parts (ContradictionUnit p) (more_next_units x xs) (more_next_conjunctions z zs) = refl
is_plain_equation-by_parts (ThesisUnit p) no_next_units no_next_conjunctions = refl
is_plain_equation-by_parts (ThesisUnit p) no_next_units (more_next_conjunctions z zs) = refl
is_plain_equation-by_parts (ThesisUnit p) (more_next_units x xs) no_next_conjunctions = refl
is_plain_equation-by_parts (ThesisUnit p) (more_next_units x xs) (more_next_conjunctions z zs) = refl
is_plain_equation-by_parts (QuantifiedUnit q) no_next_units no_next_conjunctions = refl
is_plain_equation-by_parts (QuantifiedUnit q) no_next_units (more_next_conjunctions z zs) = refl
is_plain_equation-by_parts (QuantifiedUnit q) (more_next_units x xs) no_next_conjunctions = refl
is_plain_equation-by_parts (QuantifiedUnit q) (more_next_units x xs) (more_next_conjunctions z zs) = refl
is_plain_equation-by_parts (GroupUnit p f q) no_next_units no_next_conjunctions = refl
is_plain_equation-by_parts (GroupUnit p f q) no_next_units (more_next_conjunctions z zs) = refl
is_plain_equation-by_parts (GroupUnit p f q) (more_next_units x xs) no_next_conjunctions = refl
is_plain_equation-by_parts (GroupUnit p f q) (more_next_units x xs) (more_next_conjunctions z zs) = refl
is_plain_equation-by_parts (PrivateUnit w p q) no_next_units no_next_conjunctions = refl
is_plain_equation-by_parts (PrivateUnit w p q) no_next_units (more_next_conjunctions z zs) = refl
is_plain_equation-by_parts (PrivateUnit w p q) (more_next_units x xs) no_next_conjunctions = refl
is_plain_equation-by_parts (PrivateUnit w p q) (more_next_units x xs) (more_next_conjunctions z zs) = refl
is_plain_equation-by_parts (PrivateWithUnit w p ts q) no_next_units no_next_conjunctions = refl
is_plain_equation-by_parts (PrivateWithUnit w p ts q) no_next_units (more_next_conjunctions z zs) = refl
is_plain_equation-by_parts (PrivateWithUnit w p ts q) (more_next_units x xs) no_next_conjunctions = refl
is_plain_equation-by_parts (PrivateWithUnit w p ts q) (more_next_units x xs) (more_next_conjunctions z zs) = refl
is_plain_equation-by_parts (PredicateUnit w) no_next_units no_next_conjunctions = refl
is_plain_equation-by_parts (PredicateUnit w) no_next_units (more_next_conjunctions z zs) = refl
is_plain_equation-by_parts (PredicateUnit w) (more_next_units x xs) no_next_conjunctions = refl
is_plain_equation-by_parts (PredicateUnit w) (more_next_units x xs) (more_next_conjunctions z zs) = refl
is_plain_equation-by_parts (PredicateRightUnit w ts) no_next_units no_next_conjunctions = refl
is_plain_equation-by_parts (PredicateRightUnit w ts) no_next_units (more_next_conjunctions z zs) = refl
is_plain_equation-by_parts (PredicateRightUnit w ts) (more_next_units x xs) no_next_conjunctions = refl
is_plain_equation-by_parts (PredicateRightUnit w ts) (more_next_units x xs) (more_next_conjunctions z zs) = refl
is_plain_equation-by_parts (PredicateLeftUnit ts w) no_next_units no_next_conjunctions = refl
is_plain_equation-by_parts (PredicateLeftUnit ts w) no_next_units (more_next_conjunctions z zs) = refl
is_plain_equation-by_parts (PredicateLeftUnit ts w) (more_next_units x xs) no_next_conjunctions = refl
is_plain_equation-by_parts (PredicateLeftUnit ts w) (more_next_units x xs) (more_next_conjunctions z zs) = refl
is_plain_equation-by_parts (PredicateBothUnit (ListTerms t no_next_terms) w (ListTerms u no_next_terms)) no_next_units no_next_conjunctions = refl
is_plain_equation-by_parts (PredicateBothUnit (ListTerms t no_next_terms) w (ListTerms u no_next_terms)) no_next_units (more_next_conjunctions z zs) = refl
is_plain_equation-by_parts (PredicateBothUnit (ListTerms t no_next_terms) w (ListTerms u no_next_terms)) (more_next_units x xs) no_next_conjunctions = refl
is_plain_equation-by_parts (PredicateBothUnit (ListTerms t no_next_terms) w (ListTerms u no_next_terms)) (more_next_units x xs) (more_next_conjunctions z zs) = refl
is_plain_equation-by_parts (PredicateBothUnit (ListTerms t no_next_terms) w (ListTerms u (more_next_terms n ns))) no_next_units no_next_conjunctions = refl
is_plain_equation-by_parts (PredicateBothUnit (ListTerms t no_next_terms) w (ListTerms u (more_next_terms n ns))) no_next_units (more_next_conjunctions z zs) = refl
is_plain_equation-by_parts (PredicateBothUnit (ListTerms t no_next_terms) w (ListTerms u (more_next_terms n ns))) (more_next_units x xs) no_next_conjunctions = refl
is_plain_equation-by_parts (PredicateBothUnit (ListTerms t no_next_terms) w (ListTerms u (more_next_terms n ns))) (more_next_units x xs) (more_next_conjunctions z zs) = refl
is_plain_equation-by_parts (PredicateBothUnit (ListTerms t (more_next_terms n ns)) w r) no_next_units no_next_conjunctions = refl
is_plain_equation-by_parts (PredicateBothUnit (ListTerms t (more_next_terms n ns)) w r) no_next_units (more_next_conjunctions z zs) = refl
is_plain_equation-by_parts (PredicateBothUnit (ListTerms t (more_next_terms n ns)) w r) (more_next_units x xs) no_next_conjunctions = refl
is_plain_equation-by_parts (PredicateBothUnit (ListTerms t (more_next_terms n ns)) w r) (more_next_units x xs) (more_next_conjunctions z zs) = refl
is_plain_equation-by_parts (IsTypeUnit t p y) no_next_units no_next_conjunctions = refl
is_plain_equation-by_parts (IsTypeUnit t p y) no_next_units (more_next_conjunctions z zs) = refl
is_plain_equation-by_parts (IsTypeUnit t p y) (more_next_units x xs) no_next_conjunctions = refl
is_plain_equation-by_parts (IsTypeUnit t p y) (more_next_units x xs) (more_next_conjunctions z zs) = refl
is_plain_equation-by_parts (IsAdjectivesUnit t p a ads) no_next_units no_next_conjunctions = refl
is_plain_equation-by_parts (IsAdjectivesUnit t p a ads) no_next_units (more_next_conjunctions z zs) = refl
is_plain_equation-by_parts (IsAdjectivesUnit t p a ads) (more_next_units x xs) no_next_conjunctions = refl
is_plain_equation-by_parts (IsAdjectivesUnit t p a ads) (more_next_units x xs) (more_next_conjunctions z zs) = refl

pub plain_same : (d : DisjunctionData) → is_plain_equation (PlainFormula d) ≡ is_plain d
plain_same (ChainDisjunction (ChainConjunction u us) cs) = is_plain_equation-by_parts u us cs
