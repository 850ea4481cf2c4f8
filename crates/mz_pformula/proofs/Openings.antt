-- The alternatives of units, told by the sign of the first token.
use Rattle.std.specs.Prelude.{codes}
use Rattle.std.proofs.Common.{◌≡◌, ℕ, Bool, true, false, List, [], ◌∷◌, ◌++◌, refl, sym, ap, subst, ◌∙◌, Option, Some, None}
use Rattle.mz_base.specs.declared.place.Place.{Place}
use Rattle.mz_base.specs.declared.token.MarkedToken.{MarkedToken}
use Rattle.mz_forms.specs.Repeat.{spell_all, levels_all}
use Rattle.mz_forms.proofs.Compose.{head_of, append_nil}
use Rattle.mz_tree.specs.declared.word.Word.{Word}
use Rattle.mz_tree.specs.Spelled.{reserved}
use Rattle.mz_tree.specs.Trees.{TermData, TermsData, AdjectiveData, AdjectiveList, TypeData, UnitData, FormulaData, QuantifiedData, ListTerms, NotUnit, ContradictionUnit, ThesisUnit, QuantifiedUnit, GroupUnit, PrivateUnit, PrivateWithUnit, PredicateUnit, PredicateRightUnit, PredicateLeftUnit, PredicateBothUnit, IsTypeUnit, IsAdjectivesUnit, ForQuantified, ForSuchQuantified, ForFurtherQuantified, ForSuchFurtherQuantified, ExistsQuantified, no_next_terms, more_next_terms, adjectives_of}
use Rattle.mz_tree.specs.Spell.{spell_term, spell_terms, spell_adjective, spell_adjective_list, spell_type, spell_quantified}
use Rattle.mz_tree.specs.Levels.{levels_term, levels_terms, levels_adjective, levels_adjective_list, levels_type}
use Rattle.mz_tree.specs.Rules.{Operator, takes_unit, AreTerms, IsUnit}
use Rattle.mz_pterm.specs.declared.sign.Sign.{Sign}
use Rattle.mz_pterm.specs.declared.sign.Sign.TheVariants as signs
use Rattle.mz_pterm.specs.Sign.{sign_of}
use Rattle.mz_pterm.specs.Words.{named}
use Rattle.mz_pterm.proofs.Signs.{sign_of-fixed, sign_of-named}
use Rattle.mz_pterm.proofs.Operands.{terms_filled, term_filled}
use Rattle.mz_ptype.specs.Forms.{adjective_form, type_of_parts, whole_type}
use Rattle.mz_ptype.proofs.AdjectiveSteps.{list_spells, list_levels, list_into, only_listed}
use Rattle.mz_ptype.proofs.TypeSteps as types
use Rattle.mz_patom.specs.Classes.{begins_term, goes_on_atom, goes_open}
use Rattle.mz_patom.specs.Forms.{Opening, unit_opening, terms_opening, spell_opening, levels_opening, IsOpening, is_unit, Tail, no_tail, relates, is_tail, first_term, spell_tail, levels_tail, IsTail, related, join, predicate_from, private_from, goes_opening}
use Rattle.mz_patom.proofs.Parts.{term_first, terms_first}
use Rattle.mz_pformula.specs.Classes.{begins_quantified}

-- The sign of the first token tells the alternative.
pub data Begins : Bool → Sign → Opening → Type 0 where
  not_first : (field : Bool) (p : Place) (u : UnitData) → Begins field signs.Not (unit_opening (NotUnit p u))
  contradiction_first : (field : Bool) (p : Place) → Begins field signs.Contradiction (unit_opening (ContradictionUnit p))
  thesis_first : (field : Bool) (p : Place) → Begins field signs.Thesis (unit_opening (ThesisUnit p))
  quantified_first : (field : Bool) (s : Sign) (q : QuantifiedData) → begins_quantified s ≡ true → Begins field s (unit_opening (QuantifiedUnit q))
  group_first : (field : Bool) (p : Place) (f : FormulaData) (q : Place) → Begins field signs.Open (unit_opening (GroupUnit p f q))
  private_first : (field : Bool) (w : Word) (p : Place) (o : Option TermsData) (q : Place) → Begins field signs.Identifier (unit_opening (private_from w p o q))
  predicate_first : (field : Bool) (w : Word) (o : Option TermsData) → Begins field signs.Predicate (unit_opening (predicate_from w o))
  atom_first : (field : Bool) (s : Sign) (ts : TermsData) (k : Tail) → begins_term s ≡ true → AreTerms field ts → IsTail field ts k → Begins field s (join ts k)

at_sign : (field : Bool) (s : Sign) (x : Opening) (m t : MarkedToken) (v w : List MarkedToken) → m ∷ v ≡ t ∷ w → sign_of m ≡ s → Begins field s x → Begins field (sign_of t) x
at_sign field s x m t v w e f h = let S : Sign → Type 0 = λ z. Begins field z x in subst S (sym f ∙ ap sign_of (head_of _ _ _ _ e)) h

pub quantified_sign : (q : QuantifiedData) (t : MarkedToken) (w : List MarkedToken) → spell_quantified q ≡ t ∷ w → begins_quantified (sign_of t) ≡ true
quantified_sign (ForQuantified a b c d e) t w f = ap begins_quantified (sym (ap sign_of (head_of _ _ _ _ f)) ∙ sign_of-fixed signs.For a refl)
quantified_sign (ForSuchQuantified a b c d e g h) t w f = ap begins_quantified (sym (ap sign_of (head_of _ _ _ _ f)) ∙ sign_of-fixed signs.For a refl)
quantified_sign (ForFurtherQuantified a b c d) t w f = ap begins_quantified (sym (ap sign_of (head_of _ _ _ _ f)) ∙ sign_of-fixed signs.For a refl)
quantified_sign (ForSuchFurtherQuantified a b c d e g) t w f = ap begins_quantified (sym (ap sign_of (head_of _ _ _ _ f)) ∙ sign_of-fixed signs.For a refl)
quantified_sign (ExistsQuantified a b c d e) t w f = ap begins_quantified (sym (ap sign_of (head_of _ _ _ _ f)) ∙ sign_of-fixed signs.Ex a refl)

pub quantified_filled : (q : QuantifiedData) → spell_quantified q ≡ [] → ⊥
quantified_filled (ForQuantified a b c d e) f = cc
quantified_filled (ForSuchQuantified a b c d e g h) f = cc
quantified_filled (ForFurtherQuantified a b c d) f = cc
quantified_filled (ForSuchFurtherQuantified a b c d e g) f = cc
quantified_filled (ExistsQuantified a b c d e) f = cc

-- Terms with what stands behind them.
pub join_is : (field : Bool) (ts : TermsData) (k : Tail) → AreTerms field ts → IsTail field ts k → IsOpening field (join ts k)
join_is field ts no_tail h g = h
join_is field ts (relates w None) h g = h
join_is field ts (relates w (Some us)) h g = (h, g)
join_is field (ListTerms t ts) (is_tail p [] None) h g = absurd g.2
join_is field (ListTerms t ts) (is_tail p (a ∷ ads) None) h g = (h.0, g.1.0, list_into field ads g.1.1)
join_is field (ListTerms t ts) (is_tail p ads (Some k)) h g = (h.0, type_is)
  where
    type_is : (whole_type field).IsTree (type_of_parts ads k)
    type_is = (types.as_type field []).into (ads, k) (g.1, g.2)

pub join_spells : (field : Bool) (ts : TermsData) (k : Tail) → IsTail field ts k → spell_opening (join ts k) ≡ spell_terms ts ++ spell_tail field k
join_spells field ts no_tail g = sym (append_nil (spell_terms ts))
join_spells field ts (relates w None) g = refl
join_spells field ts (relates w (Some us)) g = refl
join_spells field (ListTerms t no_next_terms) (is_tail p [] None) g = absurd g.2
join_spells field (ListTerms t no_next_terms) (is_tail p (a ∷ ads) None) g =
    ap (λ z. z ++ reserved p (codes "is") ∷ (spell_adjective a ++ spell_adjective_list (adjectives_of ads))) (sym (append_nil (spell_term t))) ∙
    ap (λ z. (spell_term t ++ []) ++ reserved p (codes "is") ∷ z) (ap (λ z. spell_adjective a ++ z) (list_spells field ads) ∙ sym (append_nil (spell_all (adjective_form field) (a ∷ ads))))
join_spells field (ListTerms t no_next_terms) (is_tail p ads (Some k)) g =
    ap (λ z. z ++ reserved p (codes "is") ∷ spell_type (type_of_parts ads k)) (sym (append_nil (spell_term t))) ∙
    ap (λ z. (spell_term t ++ []) ++ reserved p (codes "is") ∷ z) (types.parts_spelled field (ads, k) (g.1, g.2))
join_spells field (ListTerms t (more_next_terms u us)) (is_tail p ads o) g = absurd (no g.0)
  where
    no : false ≡ true → ⊥
    no e = cc

no_levels : (ls : List ℕ) → ls ≡ ls ++ []
no_levels [] = refl
no_levels (l ∷ ls) = ap (λ z. l ∷ z) (no_levels ls)

pub join_levels : (field : Bool) (ts : TermsData) (k : Tail) → IsTail field ts k → levels_opening (join ts k) ≡ levels_terms ts ++ levels_tail field k
join_levels field ts no_tail g = no_levels (levels_terms ts)
join_levels field ts (relates w None) g = refl
join_levels field ts (relates w (Some us)) g = refl
join_levels field (ListTerms t no_next_terms) (is_tail p [] None) g = absurd g.2
join_levels field (ListTerms t no_next_terms) (is_tail p (a ∷ ads) None) g =
    ap (λ z. z ++ 0 ∷ (levels_unit_adjectives a ads)) (no_levels (levels_term t)) ∙
    ap (λ z. (levels_term t ++ []) ++ 0 ∷ z) (ap (λ z. levels_adjective a ++ z) (list_levels field ads) ∙ no_levels (levels_all (adjective_form field) (a ∷ ads)))
  where
    levels_unit_adjectives : AdjectiveData → List AdjectiveData → List ℕ
    levels_unit_adjectives a ads = levels_adjective a ++ levels_adjective_list (adjectives_of ads)
join_levels field (ListTerms t no_next_terms) (is_tail p ads (Some k)) g =
    ap (λ z. z ++ 0 ∷ levels_type (type_of_parts ads k)) (no_levels (levels_term t)) ∙
    ap (λ z. (levels_term t ++ []) ++ 0 ∷ z) ((types.as_type field []).level (ads, k) (g.1, g.2))
join_levels field (ListTerms t (more_next_terms u us)) (is_tail p ads o) g = absurd (no g.0)
  where
    no : false ≡ true → ⊥
    no e = cc

-- an atom takes no operator
pub atom_goes : (f : Operator → Bool) (s : Sign) → goes_on_atom s ≡ true → goes_open f s ≡ true
atom_goes f signs.And e = cc
atom_goes f signs.Or e = cc
atom_goes f signs.Implies e = cc
atom_goes f signs.Iff e = cc
atom_goes f _ e = e

pub join_goes : (ts : TermsData) (k : Tail) (s : Sign) → goes_on_atom s ≡ true → goes_opening (join ts k) s ≡ true
join_goes ts no_tail s g = g
join_goes ts (relates w o) s g = atom_goes (λ z. takes_unit z (related ts w o)) s g
join_goes ts (is_tail p ads o) s g = atom_goes (λ z. takes_unit z (is_unit (first_term ts) p ads o)) s g

-- The first token of a unit, or of terms.
type_atom : (field : Bool) (t : TermData) (p : Place) (y : TypeData) (s : Sign) → begins_term s ≡ true → IsUnit field (IsTypeUnit t p y) → Begins field s (unit_opening (IsTypeUnit t p y))
type_atom field t p y s g is =
    let k = types.only_parts field y is.1 in
    let B : TypeData → Type 0 = λ z. Begins field s (unit_opening (IsTypeUnit t p z)) in
    subst B (sym k.2) (atom_first field s (ListTerms t no_next_terms) (is_tail p k.0.0 (Some k.0.1)) g (is.0, tt) (refl, k.1.0, k.1.1))

adjectives_atom : (field : Bool) (t : TermData) (p : Place) (a : AdjectiveData) (ads : AdjectiveList) (s : Sign) → begins_term s ≡ true → IsUnit field (IsAdjectivesUnit t p a ads) → Begins field s (unit_opening (IsAdjectivesUnit t p a ads))
adjectives_atom field t p a ads s g is =
    let k = only_listed field ads is.2 in
    let B : AdjectiveList → Type 0 = λ z. Begins field s (unit_opening (IsAdjectivesUnit t p a z)) in
    subst B (sym k.2) (atom_first field s (ListTerms t no_next_terms) (is_tail p (a ∷ k.0) None) g (is.0, tt) (refl, (is.1, k.1), tt))

pub begins : (field : Bool) (x : Opening) (t : MarkedToken) (m : List MarkedToken) → IsOpening field x → spell_opening x ≡ t ∷ m → Begins field (sign_of t) x
begins field (unit_opening (NotUnit p u)) t m is e = at_sign field signs.Not _ _ t _ m e (sign_of-fixed signs.Not p refl) (not_first field p u)
begins field (unit_opening (ContradictionUnit p)) t m is e = at_sign field signs.Contradiction _ _ t _ m e (sign_of-fixed signs.Contradiction p refl) (contradiction_first field p)
begins field (unit_opening (ThesisUnit p)) t m is e = at_sign field signs.Thesis _ _ t _ m e (sign_of-fixed signs.Thesis p refl) (thesis_first field p)
begins field (unit_opening (QuantifiedUnit q)) t m is e = quantified_first field (sign_of t) q (quantified_sign q t m e)
begins field (unit_opening (GroupUnit p f q)) t m is e = at_sign field signs.Open _ _ t _ m e (sign_of-fixed signs.Open p refl) (group_first field p f q)
begins field (unit_opening (PrivateUnit w p q)) t m is e = at_sign field signs.Identifier _ _ t _ m e (sign_of-named signs.Identifier w refl) (private_first field w p None q)
begins field (unit_opening (PrivateWithUnit w p ts q)) t m is e = at_sign field signs.Identifier _ _ t _ m e (sign_of-named signs.Identifier w refl) (private_first field w p (Some ts) q)
begins field (unit_opening (PredicateUnit w)) t m is e = at_sign field signs.Predicate _ _ t _ m e (sign_of-named signs.Predicate w refl) (predicate_first field w None)
begins field (unit_opening (PredicateRightUnit w ts)) t m is e = at_sign field signs.Predicate _ _ t _ m e (sign_of-named signs.Predicate w refl) (predicate_first field w (Some ts))
begins field (unit_opening (PredicateLeftUnit ts w)) t m is e = atom_first field (sign_of t) ts (relates w None) (terms_first field ts (named signs.Predicate w ∷ []) t m is e) is tt
begins field (unit_opening (PredicateBothUnit ts w us)) t m is e = atom_first field (sign_of t) ts (relates w (Some us)) (terms_first field ts (named signs.Predicate w ∷ spell_terms us) t m is.0 e) is.0 is.1
begins field (unit_opening (IsTypeUnit u p y)) t m is e = type_atom field u p y (sign_of t) (term_first field u (reserved p (codes "is") ∷ spell_type y) t m is.0 e) is
begins field (unit_opening (IsAdjectivesUnit u p a ads)) t m is e = adjectives_atom field u p a ads (sign_of t) (term_first field u (reserved p (codes "is") ∷ (spell_adjective a ++ spell_adjective_list ads)) t m is.0 e) is
begins field (terms_opening ts) t m is e = atom_first field (sign_of t) ts no_tail (terms_first field ts [] t m is (append_nil (spell_terms ts) ∙ e)) is tt

pub opening_filled : (field : Bool) (x : Opening) → IsOpening field x → spell_opening x ≡ [] → ⊥
opening_filled field (unit_opening (NotUnit p u)) is e = cc
opening_filled field (unit_opening (ContradictionUnit p)) is e = cc
opening_filled field (unit_opening (ThesisUnit p)) is e = cc
opening_filled field (unit_opening (QuantifiedUnit q)) is e = quantified_filled q e
opening_filled field (unit_opening (GroupUnit p f q)) is e = cc
opening_filled field (unit_opening (PrivateUnit w p q)) is e = cc
opening_filled field (unit_opening (PrivateWithUnit w p ts q)) is e = cc
opening_filled field (unit_opening (PredicateUnit w)) is e = cc
opening_filled field (unit_opening (PredicateRightUnit w ts)) is e = cc
opening_filled field (unit_opening (PredicateLeftUnit ts w)) is e = terms_filled field ts (named signs.Predicate w ∷ []) is e
opening_filled field (unit_opening (PredicateBothUnit ts w us)) is e = terms_filled field ts (named signs.Predicate w ∷ spell_terms us) is.0 e
opening_filled field (unit_opening (IsTypeUnit u p y)) is e = term_filled field u (reserved p (codes "is") ∷ spell_type y) is.0 e
opening_filled field (unit_opening (IsAdjectivesUnit u p a ads)) is e = term_filled field u (reserved p (codes "is") ∷ (spell_adjective a ++ spell_adjective_list ads)) is.0 e
opening_filled field (terms_opening ts) is e = terms_filled field ts [] is (append_nil (spell_terms ts) ∙ e)
