-- A list comma takes a formula that ends in a list of terms to a longer one.
use Rattle.std.specs.Prelude.{codes}
use Rattle.std.proofs.Common.{◌≡◌, Bool, true, List, [], ◌∷◌, ◌++◌, refl, sym, ap, subst, ◌∙◌, append_assoc, ◌⊎◌, inl, inr}
use Rattle.mz_base.specs.declared.place.Place.{Place}
use Rattle.mz_base.specs.declared.symbol_kind.SymbolKind.TheVariants as symbols
use Rattle.mz_base.specs.declared.token.MarkedToken.{MarkedToken}
use Rattle.mz_forms.proofs.Compose.{append_nil}
use Rattle.mz_tree.specs.Spelled.{identifier, list_comma, mode, reserved, special, symbol}
use Rattle.mz_tree.specs.Trees.{TermsData, TypeData, UnitData, ConjunctionData, DisjunctionData, FormulaData, QuantifiedData, NextTermList, NextUnitList, NextConjunctionList, RunTerm, OperandPiece, IdentifierBase, ListTerms, NextNextTerm, no_prefixs, no_pieces, no_next_terms, more_next_terms, ModeType, ModeOfType, StructureType, StructureOverType, PlainFormula, ImpliesFormula, IffFormula, ChainDisjunction, ChainConjunction, OrNextConjunction, AndNextUnit, no_next_units, more_next_units, no_next_conjunctions, more_next_conjunctions, NotUnit, ContradictionUnit, ThesisUnit, QuantifiedUnit, GroupUnit, PrivateUnit, PrivateWithUnit, PredicateUnit, PredicateRightUnit, PredicateLeftUnit, PredicateBothUnit, IsTypeUnit, IsAdjectivesUnit, ForQuantified, ForSuchQuantified, ForFurtherQuantified, ForSuchFurtherQuantified, ExistsQuantified}
use Rattle.mz_tree.specs.Spell.{spell_term, spell_terms, spell_next_term, spell_next_term_list, spell_adjective_list, spell_declared, spell_next_declared_list, spell_type, spell_unit, spell_next_unit, spell_next_unit_list, spell_conjunction, spell_next_conjunction, spell_next_conjunction_list, spell_disjunction, spell_formula, spell_quantified}
use Rattle.mz_tree.specs.Rules.{conjoins, disjoins, takes_unit, takes_conjunction, ends_in_terms, AreTerms, AreMoreTerms, IsType, IsUnit, AreConjoined, IsConjunction, AreDisjoined, IsDisjunction, IsFormula, IsQuantified}
use Rattle.mz_tree_heading.specs.Rules.{formula_ends_in_terms, disjunction_ends_in_terms, last_conjunction_ends_in_terms, conjunction_ends_in_terms, last_unit_ends_in_terms, unit_ends_in_terms, quantified_ends_in_terms}
use Rattle.mz_comma_laws.specs.CommaLaw.{BehindTermsAlways}

-- a tree that is spelled as this one is, and these tokens append-behind it
abbrev Longer : {X : Type 0} → (X → List MarkedToken) → (X → Type 0) → List MarkedToken → X → Type 0
Longer {X = X} spell Is w x = (y : X) × Is y × (spell y ≡ spell x ++ w)

append-behind : (a m n w : List MarkedToken) → m ≡ n ++ w → a ++ m ≡ (a ++ n) ++ w
append-behind a m n w e = ap (λ z. a ++ z) e ∙ sym (append_assoc a n w)

append-nil : (a b w : List MarkedToken) → a ≡ b ++ w → a ++ [] ≡ (b ++ []) ++ w
append-nil a b w e = append_nil a ∙ (e ∙ ap (λ z. z ++ w) (sym (append_nil b)))

-- a term more
abbrev with : Place → List MarkedToken
with p = list_comma p ∷ (identifier (record { place = p; spelling = [] }) ∷ [])

abbrev longer_list : Place → NextTermList → NextTermList
longer_list p no_next_terms = more_next_terms (NextNextTerm p (RunTerm (OperandPiece no_prefixs (IdentifierBase (record { place = p; spelling = [] }))) no_pieces)) no_next_terms
longer_list p (more_next_terms t ts) = more_next_terms t (longer_list p ts)

list_spells : (p : Place) (ts : NextTermList) → spell_next_term_list (longer_list p ts) ≡ spell_next_term_list ts ++ with p
list_spells p no_next_terms = refl
list_spells p (more_next_terms t ts) = append-behind (spell_next_term t) (spell_next_term_list (longer_list p ts)) (spell_next_term_list ts) (with p) (list_spells p ts)

list_is : (field : Bool) (p : Place) (ts : NextTermList) → AreMoreTerms field ts → AreMoreTerms field (longer_list p ts)
list_is field p no_next_terms is = (((tt, tt, tt, tt), tt), tt)
list_is field p (more_next_terms (NextNextTerm q t) ts) is = (is.0, list_is field p ts is.1)

terms_longer : (field : Bool) (p : Place) (ts : TermsData) → AreTerms field ts → Longer spell_terms (AreTerms field) (with p) ts
terms_longer field p (ListTerms t ts) is = (ListTerms t (longer_list p ts), (is.0, list_is field p ts is.1), append-behind (spell_term t) (spell_next_term_list (longer_list p ts)) (spell_next_term_list ts) (with p) (list_spells p ts))

type_longer : (field : Bool) (p : Place) (y : TypeData) → IsType field y → ends_in_terms y ≡ true → Longer spell_type (IsType field) (with p) y
type_longer field p (ModeType a b) is g = cc
type_longer field p (StructureType a b) is g = cc
type_longer field p (ModeOfType a b c d) is g = let k = terms_longer field p d is.1 in (ModeOfType a b c k.0, (is.0, k.1), append-behind (spell_adjective_list a) (mode b ∷ (reserved c (codes "of") ∷ spell_terms k.0)) (mode b ∷ (reserved c (codes "of") ∷ spell_terms d)) (with p) (ap (λ z. mode b ∷ (reserved c (codes "of") ∷ z)) k.2))
type_longer field p (StructureOverType a b c d) is g = let k = terms_longer field p d is.1 in (StructureOverType a b c k.0, (is.0, k.1), append-behind (spell_adjective_list a) (symbol symbols.Structure b ∷ (reserved c (codes "over") ∷ spell_terms k.0)) (symbol symbols.Structure b ∷ (reserved c (codes "over") ∷ spell_terms d)) (with p) (ap (λ z. symbol symbols.Structure b ∷ (reserved c (codes "over") ∷ z)) k.2))

-- the last of a list, or what stands before an empty one
abbrev LongerList : {X : Type 0} → (X → List MarkedToken) → (X → Type 0) → List MarkedToken → X → X → Bool → Type 0
LongerList spell Is w none x b = ((x ≡ none) × (b ≡ true)) ⊎ Longer spell Is w x

module _ (field : Bool) (p : Place) where
  last_unit : (q : Place) (v : UnitData) (vs : NextUnitList) (st : Bool) → AreConjoined field st (more_next_units (AndNextUnit q v) vs) → (unit_ends_in_terms v ≡ true → Longer spell_unit (IsUnit field) (with p) v) →
      LongerList spell_next_unit_list (AreConjoined field (takes_unit conjoins v)) (with p) no_next_units vs (unit_ends_in_terms v) → Longer spell_next_unit_list (AreConjoined field st) (with p) (more_next_units (AndNextUnit q v) vs)
  last_unit q v vs st is one (inl e) =
      let k = one e.1 in
      let N : NextUnitList → Type 0 = λ z. Longer spell_next_unit_list (AreConjoined field st) (with p) (more_next_units (AndNextUnit q v) z) in
      subst N (sym e.0) (more_next_units (AndNextUnit q k.0) no_next_units, (is.0, k.1, tt), append-nil (special q (codes "&") ∷ spell_unit k.0) (special q (codes "&") ∷ spell_unit v) (with p) (ap (λ z. special q (codes "&") ∷ z) k.2))
  last_unit q v vs st is one (inr k) = (more_next_units (AndNextUnit q v) k.0, (is.0, is.1, k.1), append-behind (spell_next_unit (AndNextUnit q v)) (spell_next_unit_list k.0) (spell_next_unit_list vs) (with p) k.2)

  last_conjunction : (q : Place) (v : ConjunctionData) (vs : NextConjunctionList) (st : Bool) → AreDisjoined field st (more_next_conjunctions (OrNextConjunction q v) vs) → (conjunction_ends_in_terms v ≡ true → Longer spell_conjunction (IsConjunction field) (with p) v) →
      LongerList spell_next_conjunction_list (AreDisjoined field (takes_conjunction disjoins v)) (with p) no_next_conjunctions vs (conjunction_ends_in_terms v) → Longer spell_next_conjunction_list (AreDisjoined field st) (with p) (more_next_conjunctions (OrNextConjunction q v) vs)
  last_conjunction q v vs st is one (inl e) =
      let k = one e.1 in
      let N : NextConjunctionList → Type 0 = λ z. Longer spell_next_conjunction_list (AreDisjoined field st) (with p) (more_next_conjunctions (OrNextConjunction q v) z) in
      subst N (sym e.0) (more_next_conjunctions (OrNextConjunction q k.0) no_next_conjunctions, (is.0, k.1, tt), append-nil (reserved q (codes "or") ∷ spell_conjunction k.0) (reserved q (codes "or") ∷ spell_conjunction v) (with p) (ap (λ z. reserved q (codes "or") ∷ z) k.2))
  last_conjunction q v vs st is one (inr k) = (more_next_conjunctions (OrNextConjunction q v) k.0, (is.0, is.1, k.1), append-behind (spell_next_conjunction (OrNextConjunction q v)) (spell_next_conjunction_list k.0) (spell_next_conjunction_list vs) (with p) k.2)

  first_unit : (u : UnitData) (us : NextUnitList) → IsConjunction field (ChainConjunction u us) → (unit_ends_in_terms u ≡ true → Longer spell_unit (IsUnit field) (with p) u) →
      LongerList spell_next_unit_list (AreConjoined field (takes_unit conjoins u)) (with p) no_next_units us (unit_ends_in_terms u) → Longer spell_conjunction (IsConjunction field) (with p) (ChainConjunction u us)
  first_unit u us is one (inl e) =
      let k = one e.1 in
      let N : NextUnitList → Type 0 = λ z. Longer spell_conjunction (IsConjunction field) (with p) (ChainConjunction u z) in
      subst N (sym e.0) (ChainConjunction k.0 no_next_units, (k.1, tt), append-nil (spell_unit k.0) (spell_unit u) (with p) k.2)
  first_unit u us is one (inr k) = (ChainConjunction u k.0, (is.0, k.1), append-behind (spell_unit u) (spell_next_unit_list k.0) (spell_next_unit_list us) (with p) k.2)

  first_conjunction : (u : ConjunctionData) (us : NextConjunctionList) → IsDisjunction field (ChainDisjunction u us) → (conjunction_ends_in_terms u ≡ true → Longer spell_conjunction (IsConjunction field) (with p) u) →
      LongerList spell_next_conjunction_list (AreDisjoined field (takes_conjunction disjoins u)) (with p) no_next_conjunctions us (conjunction_ends_in_terms u) → Longer spell_disjunction (IsDisjunction field) (with p) (ChainDisjunction u us)
  first_conjunction u us is one (inl e) =
      let k = one e.1 in
      let N : NextConjunctionList → Type 0 = λ z. Longer spell_disjunction (IsDisjunction field) (with p) (ChainDisjunction u z) in
      subst N (sym e.0) (ChainDisjunction k.0 no_next_conjunctions, (k.1, tt), append-nil (spell_conjunction k.0) (spell_conjunction u) (with p) k.2)
  first_conjunction u us is one (inr k) = (ChainDisjunction u k.0, (is.0, k.1), append-behind (spell_conjunction u) (spell_next_conjunction_list k.0) (spell_next_conjunction_list us) (with p) k.2)

  mutual
    formula_longer : (f : FormulaData) → IsFormula field f → formula_ends_in_terms f ≡ true → Longer spell_formula (IsFormula field) (with p) f
    formula_longer (PlainFormula d) is g = let k = disjunction_longer d is g in (PlainFormula k.0, k.1, k.2)
    formula_longer (ImpliesFormula d q e) is g = let k = disjunction_longer e is.2 g in (ImpliesFormula d q k.0, (is.0, is.1, k.1), append-behind (spell_disjunction d) (reserved q (codes "implies") ∷ spell_disjunction k.0) (reserved q (codes "implies") ∷ spell_disjunction e) (with p) (ap (λ z. reserved q (codes "implies") ∷ z) k.2))
    formula_longer (IffFormula d q e) is g = let k = disjunction_longer e is.2 g in (IffFormula d q k.0, (is.0, is.1, k.1), append-behind (spell_disjunction d) (reserved q (codes "iff") ∷ spell_disjunction k.0) (reserved q (codes "iff") ∷ spell_disjunction e) (with p) (ap (λ z. reserved q (codes "iff") ∷ z) k.2))

    disjunction_longer : (d : DisjunctionData) → IsDisjunction field d → disjunction_ends_in_terms d ≡ true → Longer spell_disjunction (IsDisjunction field) (with p) d
    disjunction_longer (ChainDisjunction c cs) is g = first_conjunction c cs is (conjunction_longer c is.0) (conjunctions_longer cs (conjunction_ends_in_terms c) (takes_conjunction disjoins c) is.1 g)

    conjunctions_longer : (cs : NextConjunctionList) (b st : Bool) → AreDisjoined field st cs → last_conjunction_ends_in_terms b cs ≡ true → LongerList spell_next_conjunction_list (AreDisjoined field st) (with p) no_next_conjunctions cs b
    conjunctions_longer no_next_conjunctions b st is g = inl (refl, g)
    conjunctions_longer (more_next_conjunctions (OrNextConjunction q v) vs) b st is g = inr (last_conjunction q v vs st is (conjunction_longer v is.1) (conjunctions_longer vs (conjunction_ends_in_terms v) (takes_conjunction disjoins v) is.2 g))

    conjunction_longer : (c : ConjunctionData) → IsConjunction field c → conjunction_ends_in_terms c ≡ true → Longer spell_conjunction (IsConjunction field) (with p) c
    conjunction_longer (ChainConjunction u us) is g = first_unit u us is (unit_longer u is.0) (units_longer us (unit_ends_in_terms u) (takes_unit conjoins u) is.1 g)

    units_longer : (us : NextUnitList) (b st : Bool) → AreConjoined field st us → last_unit_ends_in_terms b us ≡ true → LongerList spell_next_unit_list (AreConjoined field st) (with p) no_next_units us b
    units_longer no_next_units b st is g = inl (refl, g)
    units_longer (more_next_units (AndNextUnit q v) vs) b st is g = inr (last_unit q v vs st is (unit_longer v is.1) (units_longer vs (unit_ends_in_terms v) (takes_unit conjoins v) is.2 g))

    unit_longer : (u : UnitData) → IsUnit field u → unit_ends_in_terms u ≡ true → Longer spell_unit (IsUnit field) (with p) u
    unit_longer (NotUnit q u) is g = let k = unit_longer u is g in (NotUnit q k.0, k.1, ap (λ z. reserved q (codes "not") ∷ z) k.2)
    unit_longer (ContradictionUnit a) is g = cc
    unit_longer (ThesisUnit a) is g = cc
    unit_longer (QuantifiedUnit q) is g = let k = quantified_longer q is g in (QuantifiedUnit k.0, k.1, k.2)
    unit_longer (GroupUnit a b c) is g = cc
    unit_longer (PrivateUnit a b c) is g = cc
    unit_longer (PrivateWithUnit a b c d) is g = cc
    unit_longer (PredicateUnit a) is g = cc
    unit_longer (PredicateRightUnit a b) is g = let k = terms_longer field p b is in (PredicateRightUnit a k.0, k.1, ap (λ z. symbol symbols.Predicate a ∷ z) k.2)
    unit_longer (PredicateLeftUnit a b) is g = cc
    unit_longer (PredicateBothUnit a b c) is g = let k = terms_longer field p c is.1 in (PredicateBothUnit a b k.0, (is.0, k.1), append-behind (spell_terms a) (symbol symbols.Predicate b ∷ spell_terms k.0) (symbol symbols.Predicate b ∷ spell_terms c) (with p) (ap (λ z. symbol symbols.Predicate b ∷ z) k.2))
    unit_longer (IsTypeUnit a b t) is g = let k = type_longer field p t is.1 g in (IsTypeUnit a b k.0, (is.0, k.1), append-behind (spell_term a) (reserved b (codes "is") ∷ spell_type k.0) (reserved b (codes "is") ∷ spell_type t) (with p) (ap (λ z. reserved b (codes "is") ∷ z) k.2))
    unit_longer (IsAdjectivesUnit a b c d) is g = cc

    quantified_longer : (q : QuantifiedData) → IsQuantified field q → quantified_ends_in_terms q ≡ true → Longer spell_quantified (IsQuantified field) (with p) q
    quantified_longer (ForQuantified a b c d f) is g = let k = formula_longer f is.2 g in (ForQuantified a b c d k.0, (is.0, is.1, k.1), ap (λ z. reserved a (codes "for") ∷ z) (append-behind (spell_declared b) (spell_next_declared_list c ++ (reserved d (codes "holds") ∷ spell_formula k.0)) (spell_next_declared_list c ++ (reserved d (codes "holds") ∷ spell_formula f)) (with p) (append-behind (spell_next_declared_list c) (reserved d (codes "holds") ∷ spell_formula k.0) (reserved d (codes "holds") ∷ spell_formula f) (with p) (ap (λ z. reserved d (codes "holds") ∷ z) k.2))))
    quantified_longer (ForSuchQuantified a b c d h e f) is g = let k = formula_longer f is.3 g in (ForSuchQuantified a b c d h e k.0, (is.0, is.1, is.2, k.1), ap (λ z. reserved a (codes "for") ∷ z) (append-behind (spell_declared b) (spell_next_declared_list c ++ (reserved d (codes "st") ∷ (spell_formula h ++ (reserved e (codes "holds") ∷ spell_formula k.0)))) (spell_next_declared_list c ++ (reserved d (codes "st") ∷ (spell_formula h ++ (reserved e (codes "holds") ∷ spell_formula f)))) (with p) (append-behind (spell_next_declared_list c) (reserved d (codes "st") ∷ (spell_formula h ++ (reserved e (codes "holds") ∷ spell_formula k.0))) (reserved d (codes "st") ∷ (spell_formula h ++ (reserved e (codes "holds") ∷ spell_formula f))) (with p) (ap (λ z. reserved d (codes "st") ∷ z) (append-behind (spell_formula h) (reserved e (codes "holds") ∷ spell_formula k.0) (reserved e (codes "holds") ∷ spell_formula f) (with p) (ap (λ z. reserved e (codes "holds") ∷ z) k.2))))))
    quantified_longer (ForFurtherQuantified a b c q) is g = let k = quantified_longer q is.2 g in (ForFurtherQuantified a b c k.0, (is.0, is.1, k.1), ap (λ z. reserved a (codes "for") ∷ z) (append-behind (spell_declared b) (spell_next_declared_list c ++ (spell_quantified k.0)) (spell_next_declared_list c ++ (spell_quantified q)) (with p) (append-behind (spell_next_declared_list c) (spell_quantified k.0) (spell_quantified q) (with p) (k.2))))
    quantified_longer (ForSuchFurtherQuantified a b c d h q) is g = let k = quantified_longer q is.3 g in (ForSuchFurtherQuantified a b c d h k.0, (is.0, is.1, is.2, k.1), ap (λ z. reserved a (codes "for") ∷ z) (append-behind (spell_declared b) (spell_next_declared_list c ++ (reserved d (codes "st") ∷ (spell_formula h ++ spell_quantified k.0))) (spell_next_declared_list c ++ (reserved d (codes "st") ∷ (spell_formula h ++ spell_quantified q))) (with p) (append-behind (spell_next_declared_list c) (reserved d (codes "st") ∷ (spell_formula h ++ spell_quantified k.0)) (reserved d (codes "st") ∷ (spell_formula h ++ spell_quantified q)) (with p) (ap (λ z. reserved d (codes "st") ∷ z) (append-behind (spell_formula h) (spell_quantified k.0) (spell_quantified q) (with p) (k.2))))))
    quantified_longer (ExistsQuantified a b c d f) is g = let k = formula_longer f is.2 g in (ExistsQuantified a b c d k.0, (is.0, is.1, k.1), ap (λ z. reserved a (codes "ex") ∷ z) (append-behind (spell_declared b) (spell_next_declared_list c ++ (reserved d (codes "st") ∷ spell_formula k.0)) (spell_next_declared_list c ++ (reserved d (codes "st") ∷ spell_formula f)) (with p) (append-behind (spell_next_declared_list c) (reserved d (codes "st") ∷ spell_formula k.0) (reserved d (codes "st") ∷ spell_formula f) (with p) (ap (λ z. reserved d (codes "st") ∷ z) k.2))))

pub behind_terms_always : (field : Bool) → BehindTermsAlways field
behind_terms_always field f p is g = let k = formula_longer field p f is g in (k.0, identifier (record { place = p; spelling = [] }) ∷ [], k.1, k.2)
