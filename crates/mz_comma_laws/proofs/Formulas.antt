-- A formula behind which a list comma begins a longer one ends in a list of terms.
use Rattle.std.proofs.Common.{◌≡◌, ℕ, zero, suc, ◌≤◌, Bool, true, false, List, [], ◌∷◌, ◌++◌, length, refl, sym, ap, ◌∙◌, arith}
use Rattle.mz_base.specs.declared.place.Place.{Place}
use Rattle.mz_base.specs.declared.token.MarkedToken.{MarkedToken}
use Rattle.mz_forms.specs.Form.{Form, Agrees, then, nested, nothing}
use Rattle.mz_forms.specs.Chain.{Links, under, spell_chain, AreLinked}
use Rattle.mz_forms.proofs.Compose.{head_of}
use Rattle.mz_forms.proofs.Leads.{apart_closed}
use Rattle.mz_forms.proofs.One.{One, one_nested}
use Rattle.mz_tree.specs.Spelled.{list_comma}
use Rattle.mz_tree.specs.Trees.{UnitData, ConjunctionData, DisjunctionData, QuantifiedData, DeclarationsData, ChainConjunction, ChainDisjunction, ContradictionUnit, ThesisUnit}
use Rattle.mz_tree.specs.Spell.{spell_unit, spell_conjunction, spell_disjunction, spell_quantified}
use Rattle.mz_tree.specs.Rules.{takes_unit, takes_conjunction, conjoins, disjoins, IsConjunction, IsDisjunction}
use Rattle.mz_tree_heading.specs.Rules.{formula_ends_in_terms, disjunction_ends_in_terms, last_conjunction_ends_in_terms, conjunction_ends_in_terms, last_unit_ends_in_terms, unit_ends_in_terms, quantified_ends_in_terms}
use Rattle.mz_pterm.specs.declared.sign.Sign.{Sign}
use Rattle.mz_pterm.specs.declared.sign.Sign.TheVariants as signs
use Rattle.mz_pterm.specs.Classes.{is_open}
use Rattle.mz_pterm.specs.Sign.{sign_of}
use Rattle.mz_pterm.specs.Words.{is_fixed, fixed, word}
use Rattle.mz_pterm.proofs.Signs.{told_fixed, sign_of-fixed}
use Rattle.mz_ptype.specs.Forms.{declarations_form}
use Rattle.mz_ptype.proofs.Unique.{declarations_one}
use Rattle.mz_patom.specs.Classes.{begins_term, is_identifier}
use Rattle.mz_patom.specs.Forms.{Opening, unit_opening, opening_form, unit_form, atom_form, make_atom, predicate_form}
use Rattle.mz_pformula.specs.Classes.{begins_quantified}
use Rattle.mz_pformula.specs.Row.{row}
use Rattle.mz_pformula.specs.Forms.{and_links, or_links, conjunction_form, behind_unit, units_form, units_of, disjunction_form, behind_conjunction, conjunctions_form, conjunctions_of, Conclusion, no_conclusion, implies_conclusion, iff_conclusion, spell_conclusion, conclusion, IsConclusion, formula_form, formula_with, concluded}
use Rattle.mz_pformula.specs.Quantified.{Scope, holds_scope, further_scope, spell_scope, IsScope, scope_form, Universal, plain_universal, such_universal, spell_universal, IsUniversal, universal_form, universal_from, condition, quantified_form, behind_for, for_form, such_formula, behind_ex, ex_form}
use Rattle.mz_pformula.specs.Inside.{not_form, Inside, formula_inside, terms_inside, inside_form, behind_inside, closed_inside, opened_inside, parenthesis_form, parenthesis_with, closed_with}
use Rattle.mz_pformula.proofs.Row.{pair, put, pair_apart, by_sign, Rowed}
use Rattle.mz_pformula.proofs.Operators.{both_ways, opens_other}
use Rattle.mz_pformula.proofs.Conjunctions.{rowed_and, make_conjunction, as_conjunction, only_conjunction}
use Rattle.mz_pformula.proofs.Disjunctions.{rowed_or, make_disjunction, as_disjunction, only_disjunction}
use Rattle.mz_pformula.proofs.Conclusions.{conclusion_apart, by_implies, by_iff, make_formula, as_formula, only_formula}
use Rattle.mz_pformula.proofs.Openings.{Begins, not_first, contradiction_first, thesis_first, quantified_first, group_first, private_first, predicate_first, atom_first, begins, opening_filled, quantified_sign, quantified_filled}
use Rattle.mz_pformula.proofs.Units.{put_not, turn_not, by_contradiction, by_thesis, put_predicate, turn_predicate, put_quantified, as_quantified, as_atom}
use Rattle.mz_pformula.proofs.Quantifiers.{scope_filled, universal_filled, condition_apart, by_holds, as_further, by_such, as_plain}
use Rattle.mz_pformula.proofs.Quantified.{make_for, make_ex, as_for, as_ex, universal_apart, such_apart}
use Rattle.mz_pformula.proofs.Parentheses.{turn_parenthesis, close_apart}
use Rattle.mz_pformula.proofs.Identifiers.{identifier_is}
use Rattle.mz_pformula.proofs.Unique.{size, words}
use Rattle.mz_pformula.proofs.UniqueFormulas.{FormulasOne, formulas_one}
use Rattle.mz_comma_laws.specs.CommaLaw.{BehindTermsAlone}
use Rattle.mz_comma_laws.proofs.OnlyBehind.{OnlyBehind, OnlyAt, one_token, behind_then, behind_filled, only_by, only_turn, only_as, behind_as, only_from, only_token}
use Rattle.mz_comma_laws.proofs.Atoms.{opening_ends, no_nil, atom_behind, group_behind, predicate_behind, identifier_behind}

-- What the last of a chain says, given what stands before it.
abbrev last_says : {P X : Type 0} → (X → Bool) → Bool → List (P × X) → Bool
last_says f b [] = b
last_says f b (p ∷ ps) = last_says f (f p.1) ps

not_last : {P X : Type 0} (f : X → Bool) (b : Bool) (ps : List (P × X)) → last_says f false ps ≡ true → last_says f b ps ≡ true
not_last f b [] g = cc
not_last f b (p ∷ ps) g = g

abbrev conclusion_ends : Conclusion → Bool
conclusion_ends no_conclusion = false
conclusion_ends (implies_conclusion p e) = disjunction_ends_in_terms e
conclusion_ends (iff_conclusion p e) = disjunction_ends_in_terms e

abbrev scope_ends : Scope → Bool
scope_ends (holds_scope p f) = formula_ends_in_terms f
scope_ends (further_scope q) = quantified_ends_in_terms q

abbrev universal_ends : Universal → Bool
universal_ends (plain_universal s) = scope_ends s
universal_ends (such_universal p f s) = scope_ends s

for_ends : (p : Place) (d : DeclarationsData) (u : Universal) → universal_ends u ≡ true → quantified_ends_in_terms (universal_from p d u) ≡ true
for_ends p d (plain_universal (holds_scope q f)) g = g
for_ends p d (plain_universal (further_scope q)) g = g
for_ends p d (such_universal r f (holds_scope q h)) g = g
for_ends p d (such_universal r f (further_scope q)) g = g

units_end : (b : Bool) (ps : List (Place × UnitData)) → last_says unit_ends_in_terms b ps ≡ last_unit_ends_in_terms b (units_of ps)
units_end b [] = refl
units_end b (p ∷ ps) = units_end (unit_ends_in_terms p.1) ps

conjunctions_end : (b : Bool) (ps : List (Place × ConjunctionData)) → last_says conjunction_ends_in_terms b ps ≡ last_conjunction_ends_in_terms b (conjunctions_of ps)
conjunctions_end b [] = refl
conjunctions_end b (p ∷ ps) = conjunctions_end (conjunction_ends_in_terms p.1) ps

formula_end : (d : DisjunctionData) (k : Conclusion) → conclusion_ends k ≡ true → formula_ends_in_terms (formula_with d k) ≡ true
formula_end d no_conclusion g = cc
formula_end d (implies_conclusion p e) g = g
formula_end d (iff_conclusion p e) g = g

empty_row : (L : Links MarkedToken) (ps : List (L.Sign × L.Member.Tree)) → spell_chain L ps ≡ [] → ps ≡ []
empty_row L [] e = refl
empty_row L (p ∷ ps) e = cc

empty_conclusion : (k : Conclusion) → spell_conclusion k ≡ [] → k ≡ no_conclusion
empty_conclusion no_conclusion e = refl
empty_conclusion (implies_conclusion p x) e = cc
empty_conclusion (iff_conclusion p x) e = cc

left_nil : (v w : List MarkedToken) → v ++ w ≡ [] → v ≡ []
left_nil [] w f = refl
left_nil (s ∷ v) w f = cc

conjunction_size : (field : Bool) (c : ConjunctionData) → IsConjunction field c → 1 ≤ length (spell_conjunction c)
conjunction_size field (ChainConjunction u us) is = size (spell_conjunction (ChainConjunction u us)) (λ e. opening_filled field (unit_opening u) is.0 (left_nil (spell_unit u) _ e))

disjunction_size : (field : Bool) (d : DisjunctionData) → IsDisjunction field d → 1 ≤ length (spell_disjunction d)
disjunction_size field (ChainDisjunction (ChainConjunction u us) cs) is = size (spell_disjunction (ChainDisjunction (ChainConjunction u us) cs)) (λ e. opening_filled field (unit_opening u) is.0.0 (left_nil (spell_unit u) _ (left_nil (spell_conjunction (ChainConjunction u us)) _ e)))

-- a sign that begins terms alone
other : (s : Sign) → begins_term s ≡ true → (s ≡ signs.Open → ⊥) → opens_other s ≡ false
other signs.Open g h = absurd (h refl)
other signs.Not g h = cc
other signs.For g h = cc
other signs.Ex g h = cc
other signs.Contradiction g h = cc
other signs.Thesis g h = cc
other signs.Predicate g h = cc
other _ g h = refl

module _ (field : Bool) (tok : MarkedToken) where
  record Behind (n : ℕ) : Type 0 where
    openings : OnlyBehind tok n (opening_form field) opening_ends
    units : OnlyBehind tok n (unit_form field) unit_ends_in_terms
    unit_rows : (st : Bool) → OnlyBehind tok n (row (and_links field) st) (last_says unit_ends_in_terms false)
    conjunctions : OnlyBehind tok n (conjunction_form field) conjunction_ends_in_terms
    conjunction_rows : (st : Bool) → OnlyBehind tok n (row (or_links field) st) (last_says conjunction_ends_in_terms false)
    disjunctions : OnlyBehind tok n (disjunction_form field) disjunction_ends_in_terms
    conclusions : (d : DisjunctionData) → OnlyBehind tok n (conclusion field d) conclusion_ends
    formulas : OnlyBehind tok n (formula_form field) formula_ends_in_terms
    quantifieds : OnlyBehind tok n (quantified_form field) quantified_ends_in_terms
    scopes : OnlyBehind tok n (scope_form field) scope_ends
    universals : OnlyBehind tok n (universal_form field) universal_ends

  none : (F : Form MarkedToken) (such : F.Tree → Bool) → OnlyBehind tok zero F such
  none F such a b more less isa isb e = absurd (omega (arith, less))

  nothing_behind : (n : ℕ) (such : Unit {0} → Bool) → OnlyBehind tok n nothing such
  nothing_behind n such a b more less isa isb e = absurd (no_nil tok more e)

  -- behind a word
  opened_behind : (n : ℕ) (c : Sign) → is_fixed c ≡ true → (K : Place → Form MarkedToken) (such : (p : Place) → (K p).Tree → Bool) → ((p : Place) → OnlyBehind tok n (K p) (such p)) → OnlyBehind tok (suc n) (then (nested (word c)) K) (λ k. such k.0 k.1)
  opened_behind n c fix K such only = behind_then tok (suc n) n (nested (word c)) K (λ k. such k.0 k.1) such (apart_closed (nested (word c)) K (λ a t. refl)) (one_nested (suc n) (word c) (words (suc n) c fix))
      (λ a b k more less isa isb isk f e. absurd (false_is (one_token tok (suc n) Place (fixed c) (λ _. false) a b more less isa isb e)))
      only (λ a k isa isk g. g) (λ a l is h. omega (arith, h))
    where
      false_is : false ≡ true → ⊥
      false_is e = cc

  word_behind : (n : ℕ) (c : Sign) → is_fixed c ≡ true → (K : Place → Form MarkedToken) (such : (p : Place) → (K p).Tree → Bool) → ((p : Place) → OnlyBehind tok n (K p) (such p)) → OnlyBehind tok n (then (word c) K) (λ k. such k.0 k.1)
  word_behind n c fix K such only = behind_then tok n n (word c) K (λ k. such k.0 k.1) such (apart_closed (word c) K (λ a t. refl)) (words n c fix)
      (λ a b k more less isa isb isk f e. absurd (false_is (one_token tok n Place (fixed c) (λ _. false) a b more less isa isb e)))
      only (λ a k isa isk g. g) (λ a l is h. omega (arith, h))
    where
      false_is : false ≡ true → ⊥
      false_is e = cc

  -- a chain, whose signs are other tokens
  row_behind : (L : Links MarkedToken) (by : Rowed L) (ends : L.Member.Tree → Bool) → ((s : L.Sign) → L.sign s ≡ tok → ⊥) → (n : ℕ) → One n L.Member → OnlyBehind tok n L.Member ends → ((st : L.State) → OnlyBehind tok n (row L st) (last_says ends false)) → (st : L.State) → OnlyBehind tok (suc n) (row L st) (last_says ends false)
  row_behind L by ends differ n one members rows st = only_from tok (suc n) (row L st) (last_says ends false) (λ a b more isa isb ea eb. absurd (begun b more eb)) at
    where
      begun : (ps : List (L.Sign × L.Member.Tree)) (more : List MarkedToken) → spell_chain L ps ≡ tok ∷ more → ⊥
      begun [] more e = no_nil tok more e
      begun (p ∷ ps) more e = differ p.0 (head_of _ _ _ _ e)

      pairs : OnlyBehind tok n (pair L by) (λ k. last_says ends (ends k.0) k.1)
      pairs = behind_then tok n n L.Member (λ x. row L (L.next x)) (λ k. last_says ends (ends k.0) k.1) (λ x ps. last_says ends false ps) (pair_apart L by) one
          (λ a b k more less isa isb isk f e. ap (last_says ends (ends a)) (empty_row L k f) ∙ members a b more less isa isb e)
          (λ x. rows (L.next x)) (λ x ps isx isps g. not_last ends (ends x) ps g) (λ a l isa h. omega (arith, h))

      at : (ps : List (L.Sign × L.Member.Tree)) (t : MarkedToken) (m : List MarkedToken) → AreLinked L st ps → spell_chain L ps ≡ t ∷ m → OnlyAt tok (suc n) (row L st) t (last_says ends false)
      at [] t m is e = cc
      at (p ∷ ps) t m is e = only_token tok (suc n) (row L st) (last_says ends false) (L.sign p.0) t (head_of _ _ _ _ e)
          (only_by tok n (row L st) (L.sign p.0) (under L.deepens (pair L by)) (put L by p.0) 0 (last_says ends false) (λ k. last_says ends (ends k.0) k.1) (by_sign L by st p.0 is.0) (λ k isk g. g) pairs)

  module _ (comma : sign_of tok ≡ signs.ListComma) (n : ℕ) (o : FormulasOne field n) (one : FormulasOne field (suc n)) (r : Behind n) where
    -- no word that is told by another sign is the comma
    no_word : (c : Sign) → is_fixed c ≡ true → (c ≡ signs.ListComma → ⊥) → (p : Place) → fixed c p ≡ tok → ⊥
    no_word c fix differ p e = differ (sym (sign_of-fixed c p fix) ∙ (ap sign_of e ∙ comma))

    no_and : signs.And ≡ signs.ListComma → ⊥
    no_and e = cc

    no_or : signs.Or ≡ signs.ListComma → ⊥
    no_or e = cc

    no_implies : signs.Implies ≡ signs.ListComma → ⊥
    no_implies e = cc

    no_iff : signs.Iff ≡ signs.ListComma → ⊥
    no_iff e = cc

    -- quantified formulas
    such_behind : OnlyBehind tok n (such_formula field) (λ k. formula_ends_in_terms k.1)
    such_behind = word_behind n signs.St refl (λ _. formula_form field) (λ p f. formula_ends_in_terms f) (λ p. r.formulas)

    behind_for_behind : OnlyBehind tok n (behind_for field) (λ k. universal_ends k.1)
    behind_for_behind = behind_filled tok n n (declarations_form field) (λ _. universal_form field) (λ k. universal_ends k.1) (λ d u. universal_ends u) (universal_apart field) (declarations_one field n) (λ d u e. universal_filled u e) (λ d. r.universals) (λ d u isd isu g. g) (λ a l isa h. omega (arith, h))

    behind_ex_behind : OnlyBehind tok n (behind_ex field) (λ k. formula_ends_in_terms k.1.1)
    behind_ex_behind = behind_filled tok n n (declarations_form field) (λ _. such_formula field) (λ k. formula_ends_in_terms k.1.1) (λ d k. formula_ends_in_terms k.1) (such_apart field) (declarations_one field n) (λ d k e. filled k e) (λ d. such_behind) (λ d k isd isk g. g) (λ a l isa h. omega (arith, h))
      where
        filled : (k : (such_formula field).Tree) → (such_formula field).spell k ≡ [] → ⊥
        filled k e = cc

    for_at : (t : MarkedToken) → (sign_of t ≡ signs.Ex → ⊥) → OnlyAt tok (suc n) (quantified_form field) t quantified_ends_in_terms
    for_at t differ = only_as tok (suc n) (quantified_form field) (for_form field) make_for t quantified_ends_in_terms (λ k. universal_ends k.1.1) (as_for field t [] differ) (λ k isk g. for_ends k.0 k.1.0 k.1.1 g) (opened_behind n signs.For refl (λ _. nested (behind_for field)) (λ p k. universal_ends k.1) (λ p. behind_for_behind))

    ex_at : (t : MarkedToken) → sign_of t ≡ signs.Ex → OnlyAt tok (suc n) (quantified_form field) t quantified_ends_in_terms
    ex_at t h = only_as tok (suc n) (quantified_form field) (ex_form field) make_ex t quantified_ends_in_terms (λ k. formula_ends_in_terms k.1.1.1) (as_ex field t [] h) (λ k isk g. g) (opened_behind n signs.Ex refl (λ _. nested (behind_ex field)) (λ p k. formula_ends_in_terms k.1.1) (λ p. behind_ex_behind))

    quantified_at : (s : Sign) (t : MarkedToken) → sign_of t ≡ s → begins_quantified s ≡ true → OnlyAt tok (suc n) (quantified_form field) t quantified_ends_in_terms
    quantified_at signs.For t h g = for_at t (λ e. clash (sym h ∙ e))
      where
        clash : signs.For ≡ signs.Ex → ⊥
        clash e = cc
    quantified_at signs.Ex t h g = ex_at t h
    quantified_at _ t h g = cc

    quantifieds_next : OnlyBehind tok (suc n) (quantified_form field) quantified_ends_in_terms
    quantifieds_next = only_from tok (suc n) (quantified_form field) quantified_ends_in_terms (λ a b more isa isb ea eb. absurd (quantified_filled a ea)) (λ a t m isa e. quantified_at (sign_of t) t refl (quantified_sign a t m e))

    scopes_next : OnlyBehind tok (suc n) (scope_form field) scope_ends
    scopes_next = only_from tok (suc n) (scope_form field) scope_ends (λ a b more isa isb ea eb. absurd (scope_filled a ea)) at
      where
        no_holds : (q : QuantifiedData) (t : MarkedToken) (m : List MarkedToken) → spell_quantified q ≡ t ∷ m → (p : Place) → Agrees (t ∷ []) (fixed signs.Holds p ∷ []) → ⊥
        no_holds q t m e p agrees = clash (sym (ap begins_quantified (sym (ap sign_of agrees) ∙ sign_of-fixed signs.Holds p refl)) ∙ quantified_sign q t m e)
          where
            clash : false ≡ true → ⊥
            clash f = cc

        at : (a : Scope) (t : MarkedToken) (m : List MarkedToken) → IsScope field a → spell_scope a ≡ t ∷ m → OnlyAt tok (suc n) (scope_form field) t scope_ends
        at (holds_scope p f) t m is e = only_token tok (suc n) (scope_form field) scope_ends (fixed signs.Holds p) t (head_of _ _ _ _ e) (only_by tok n (scope_form field) (fixed signs.Holds p) (formula_form field) (holds_scope p) 0 scope_ends formula_ends_in_terms (by_holds field p) (λ k isk g. g) r.formulas)
        at (further_scope q) t m is e = only_as tok (suc n) (scope_form field) (quantified_form field) further_scope t scope_ends quantified_ends_in_terms (as_further field (t ∷ []) (no_holds q t m e)) (λ k isk g. g) quantifieds_next

    condition_behind : OnlyBehind tok n (condition field) (λ k. scope_ends k.1)
    condition_behind = behind_filled tok n n (formula_form field) (λ _. scope_form field) (λ k. scope_ends k.1) (λ f s. scope_ends s) (condition_apart field) o.formulas (λ f s e. scope_filled s e) (λ f. r.scopes) (λ f s isf iss g. g) (λ a l isa h. omega (arith, h))

    universals_next : OnlyBehind tok (suc n) (universal_form field) universal_ends
    universals_next = only_from tok (suc n) (universal_form field) universal_ends (λ a b more isa isb ea eb. absurd (universal_filled a ea)) at
      where
        no_st : (s : Scope) (t : MarkedToken) (m : List MarkedToken) → spell_scope s ≡ t ∷ m → (p : Place) → Agrees (t ∷ []) (fixed signs.St p ∷ []) → ⊥
        no_st (holds_scope q f) t m e p agrees = clash (sym (sign_of-fixed signs.Holds q refl) ∙ (ap sign_of (head_of _ _ _ _ e) ∙ (sym (ap sign_of agrees) ∙ sign_of-fixed signs.St p refl)))
          where
            clash : signs.Holds ≡ signs.St → ⊥
            clash f = cc
        no_st (further_scope q) t m e p agrees = clash (sym (ap begins_quantified (sym (ap sign_of agrees) ∙ sign_of-fixed signs.St p refl)) ∙ quantified_sign q t m e)
          where
            clash : false ≡ true → ⊥
            clash f = cc

        at : (a : Universal) (t : MarkedToken) (m : List MarkedToken) → IsUniversal field a → spell_universal a ≡ t ∷ m → OnlyAt tok (suc n) (universal_form field) t universal_ends
        at (such_universal p f s) t m is e = only_token tok (suc n) (universal_form field) universal_ends (fixed signs.St p) t (head_of _ _ _ _ e) (only_by tok n (universal_form field) (fixed signs.St p) (condition field) (λ k. such_universal p k.0 k.1) 0 universal_ends (λ k. scope_ends k.1) (by_such field p) (λ k isk g. g) condition_behind)
        at (plain_universal s) t m is e = only_as tok (suc n) (universal_form field) (scope_form field) plain_universal t universal_ends scope_ends (as_plain field (t ∷ []) (no_st s t m e)) (λ k isk g. g) scopes_next

    -- units
    inside_behind : (p : Place) (i : Inside) (q : Place) → OnlyBehind tok n (behind_inside field p i q) (λ k. opening_ends (closed_with field p i q k))
    inside_behind p (formula_inside f) q = nothing_behind n (λ _. false)
    inside_behind p (terms_inside ts) q = λ a b more less isa isb e. group_behind field tok comma n p ts q a b more (omega (arith, less)) isa isb e

    closed_behind : (p : Place) (i : Inside) → OnlyBehind tok n (closed_inside field p i) (λ k. opening_ends (closed_with field p i k.0 k.1))
    closed_behind p i = word_behind n signs.Close refl (behind_inside field p i) (λ q k. opening_ends (closed_with field p i q k)) (inside_behind p i)

    opened_inside_behind : (p : Place) → OnlyBehind tok n (opened_inside field p) (λ k. opening_ends (closed_with field p k.0 k.1.0 k.1.1))
    opened_inside_behind p = behind_filled tok n n (nested (inside_form field)) (closed_inside field p) (λ k. opening_ends (closed_with field p k.0 k.1.0 k.1.1)) (λ i k. opening_ends (closed_with field p i k.0 k.1)) (close_apart field p) (one_nested n (inside_form field) o.insides) (λ i k e. filled i k e) (closed_behind p) (λ i k isi isk g. g) (λ a l isa h. omega (arith, h))
      where
        filled : (i : Inside) (k : (closed_inside field p i).Tree) → (closed_inside field p i).spell k ≡ [] → ⊥
        filled i k e = cc

    parenthesis_at : (t : MarkedToken) → sign_of t ≡ signs.Open → OnlyAt tok (suc n) (opening_form field) t opening_ends
    parenthesis_at t h = only_turn tok (suc n) (opening_form field) (parenthesis_form field) (parenthesis_with field) t opening_ends (λ k. opening_ends (parenthesis_with field k)) (turn_parenthesis field t h) (λ k isk g. g) (opened_behind n signs.Open refl (opened_inside field) (λ p k. opening_ends (closed_with field p k.0 k.1.0 k.1.1)) opened_inside_behind)

    atom_at : (t : MarkedToken) → begins_term (sign_of t) ≡ true → OnlyAt tok (suc n) (opening_form field) t opening_ends
    atom_at t g = go (is_open (sign_of t)) (is_identifier (sign_of t)) refl refl
      where
        open_is : (s : Sign) → is_open s ≡ true → s ≡ signs.Open
        open_is signs.Open e = refl
        open_is _ e = cc

        differ : (f : Sign → Bool) (s : Sign) → f s ≡ true → f (sign_of t) ≡ false → sign_of t ≡ s → ⊥
        differ f s e h k = both_ways (f (sign_of t)) h (ap f k ∙ e)

        go : (a b : Bool) → is_open (sign_of t) ≡ a → is_identifier (sign_of t) ≡ b → OnlyAt tok (suc n) (opening_form field) t opening_ends
        go true b e f = parenthesis_at t (open_is (sign_of t) e)
        go false true e f = identifier_behind field tok comma n t (identifier_is (sign_of t) f)
        go false false e f = only_as tok (suc n) (opening_form field) (atom_form field) make_atom t opening_ends (λ k. opening_ends (make_atom k)) (as_atom field t [] (other (sign_of t) g (differ is_open signs.Open refl e)) (differ is_identifier signs.Identifier refl f)) (λ k isk g. g) (atom_behind field tok comma n)

    opening_at : (t : MarkedToken) (x : Opening) → Begins field (sign_of t) x → OnlyAt tok (suc n) (opening_form field) t opening_ends
    opening_at t x b = at (sign_of t) refl x b
      where
        at : (s : Sign) → sign_of t ≡ s → (x : Opening) → Begins field s x → OnlyAt tok (suc n) (opening_form field) t opening_ends
        at s h x (not_first f p u) = only_turn tok (suc n) (opening_form field) (not_form field) put_not t opening_ends (λ k. unit_ends_in_terms k.1) (turn_not field t h) (λ k isk g. g) (opened_behind n signs.Not refl (λ _. nested (unit_form field)) (λ p u. unit_ends_in_terms u) (λ p. r.units))
        at s h x (contradiction_first f p) = only_token tok (suc n) (opening_form field) opening_ends (fixed signs.Contradiction t.token.place) t (sym (told_fixed signs.Contradiction t refl h)) (only_by tok n (opening_form field) (fixed signs.Contradiction t.token.place) nothing (λ _. unit_opening (ContradictionUnit t.token.place)) 0 opening_ends (λ _. false) (by_contradiction field t.token.place) (λ k isk g. g) (nothing_behind n (λ _. false)))
        at s h x (thesis_first f p) = only_token tok (suc n) (opening_form field) opening_ends (fixed signs.Thesis t.token.place) t (sym (told_fixed signs.Thesis t refl h)) (only_by tok n (opening_form field) (fixed signs.Thesis t.token.place) nothing (λ _. unit_opening (ThesisUnit t.token.place)) 0 opening_ends (λ _. false) (by_thesis field t.token.place) (λ k isk g. g) (nothing_behind n (λ _. false)))
        at s h x (quantified_first f w q g) = only_as tok (suc n) (opening_form field) (quantified_form field) put_quantified t opening_ends quantified_ends_in_terms (as_quantified field t [] (ap begins_quantified h ∙ g)) (λ k isk g. g) quantifieds_next
        at s h x (group_first f p g q) = parenthesis_at t h
        at s h x (private_first f w p k q) = identifier_behind field tok comma n t h
        at s h x (predicate_first f w k) = only_turn tok (suc n) (opening_form field) (predicate_form field) put_predicate t opening_ends (λ k. opening_ends (put_predicate k)) (turn_predicate field t h) (λ k isk g. g) (predicate_behind field tok comma (suc n))
        at s h x (atom_first f w ts k g i j) = atom_at t (ap begins_term h ∙ g)

    openings_next : OnlyBehind tok (suc n) (opening_form field) opening_ends
    openings_next = only_from tok (suc n) (opening_form field) opening_ends (λ a b more isa isb ea eb. absurd (opening_filled field a isa ea)) (λ a t m isa e. opening_at t a (begins field a t m isa e))

    units_next : OnlyBehind tok (suc n) (unit_form field) unit_ends_in_terms
    units_next a b more less isa isb e = openings_next (unit_opening a) (unit_opening b) more less isa isb e

    -- chains
    unit_rows_next : (st : Bool) → OnlyBehind tok (suc n) (row (and_links field) st) (last_says unit_ends_in_terms false)
    unit_rows_next = row_behind (and_links field) (rowed_and field) unit_ends_in_terms (no_word signs.And refl no_and) n o.units r.units r.unit_rows

    conjunctions_next : OnlyBehind tok (suc n) (conjunction_form field) conjunction_ends_in_terms
    conjunctions_next = behind_as tok (suc n) (conjunction_form field) (units_form field) make_conjunction conjunction_ends_in_terms (λ k. last_says unit_ends_in_terms (unit_ends_in_terms k.0) k.1) (only_conjunction field) (λ s is. (as_conjunction field []).spells s is) (λ k isk g. sym (units_end (unit_ends_in_terms k.0) k.1) ∙ g)
        (behind_then tok (suc n) n (unit_form field) (behind_unit field) (λ k. last_says unit_ends_in_terms (unit_ends_in_terms k.0) k.1) (λ u us. last_says unit_ends_in_terms false us) (pair_apart (and_links field) (rowed_and field)) one.units
        (λ a b k more less isa isb isk f e. ap (last_says unit_ends_in_terms (unit_ends_in_terms a)) (empty_row (and_links field) k f) ∙ units_next a b more less isa isb e)
        (λ u. r.unit_rows (takes_unit conjoins u)) (λ u us isu isus g. not_last unit_ends_in_terms (unit_ends_in_terms u) us g) (λ u l is h. omega (arith, h, size (spell_unit u) (opening_filled field (unit_opening u) is))))

    conjunction_rows_next : (st : Bool) → OnlyBehind tok (suc n) (row (or_links field) st) (last_says conjunction_ends_in_terms false)
    conjunction_rows_next = row_behind (or_links field) (rowed_or field) conjunction_ends_in_terms (no_word signs.Or refl no_or) n o.conjunctions r.conjunctions r.conjunction_rows

    disjunctions_next : OnlyBehind tok (suc n) (disjunction_form field) disjunction_ends_in_terms
    disjunctions_next = behind_as tok (suc n) (disjunction_form field) (conjunctions_form field) make_disjunction disjunction_ends_in_terms (λ k. last_says conjunction_ends_in_terms (conjunction_ends_in_terms k.0) k.1) (only_disjunction field) (λ s is. (as_disjunction field []).spells s is) (λ k isk g. sym (conjunctions_end (conjunction_ends_in_terms k.0) k.1) ∙ g)
        (behind_then tok (suc n) n (conjunction_form field) (behind_conjunction field) (λ k. last_says conjunction_ends_in_terms (conjunction_ends_in_terms k.0) k.1) (λ c cs. last_says conjunction_ends_in_terms false cs) (pair_apart (or_links field) (rowed_or field)) one.conjunctions
        (λ a b k more less isa isb isk f e. ap (last_says conjunction_ends_in_terms (conjunction_ends_in_terms a)) (empty_row (or_links field) k f) ∙ conjunctions_next a b more less isa isb e)
        (λ c. r.conjunction_rows (takes_conjunction disjoins c)) (λ c cs isc iscs g. not_last conjunction_ends_in_terms (conjunction_ends_in_terms c) cs g) (λ c l is h. omega (arith, h, conjunction_size field c is)))

    conclusions_next : (d : DisjunctionData) → OnlyBehind tok (suc n) (conclusion field d) conclusion_ends
    conclusions_next d = only_from tok (suc n) (conclusion field d) conclusion_ends (λ a b more isa isb ea eb. absurd (begun b more eb)) at
      where
        begun : (k : Conclusion) (more : List MarkedToken) → spell_conclusion k ≡ tok ∷ more → ⊥
        begun no_conclusion more e = no_nil tok more e
        begun (implies_conclusion p x) more e = no_word signs.Implies refl no_implies p (head_of _ _ _ _ e)
        begun (iff_conclusion p x) more e = no_word signs.Iff refl no_iff p (head_of _ _ _ _ e)

        at : (k : Conclusion) (t : MarkedToken) (m : List MarkedToken) → IsConclusion field d k → spell_conclusion k ≡ t ∷ m → OnlyAt tok (suc n) (conclusion field d) t conclusion_ends
        at no_conclusion t m is e = cc
        at (implies_conclusion p x) t m is e = only_token tok (suc n) (conclusion field d) conclusion_ends (fixed signs.Implies p) t (head_of _ _ _ _ e) (only_by tok n (conclusion field d) (fixed signs.Implies p) (disjunction_form field) (implies_conclusion p) 0 conclusion_ends disjunction_ends_in_terms (by_implies field d p is.0) (λ k isk g. g) r.disjunctions)
        at (iff_conclusion p x) t m is e = only_token tok (suc n) (conclusion field d) conclusion_ends (fixed signs.Iff p) t (head_of _ _ _ _ e) (only_by tok n (conclusion field d) (fixed signs.Iff p) (disjunction_form field) (iff_conclusion p) 0 conclusion_ends disjunction_ends_in_terms (by_iff field d p is.0) (λ k isk g. g) r.disjunctions)

    formulas_next : OnlyBehind tok (suc n) (formula_form field) formula_ends_in_terms
    formulas_next = behind_as tok (suc n) (formula_form field) (concluded field) make_formula formula_ends_in_terms (λ k. formula_ends_in_terms (make_formula k)) (only_formula field) (λ s is. (as_formula field []).spells s is) (λ k isk g. g)
        (behind_then tok (suc n) n (disjunction_form field) (conclusion field) (λ k. formula_ends_in_terms (make_formula k)) (λ d k. conclusion_ends k) (conclusion_apart field) one.disjunctions
        (λ a b k more less isa isb isk f e. ap (λ z. formula_ends_in_terms (formula_with a z)) (empty_conclusion k f) ∙ disjunctions_next a b more less isa isb e)
        r.conclusions (λ d k isd isk g. formula_end d k g) (λ d l is h. omega (arith, h, disjunction_size field d is)))

  all_behind : sign_of tok ≡ signs.ListComma → (n : ℕ) → Behind n
  all_behind comma zero = record {
    openings = none (opening_form field) opening_ends;
    units = none (unit_form field) unit_ends_in_terms;
    unit_rows = λ st. none (row (and_links field) st) (last_says unit_ends_in_terms false);
    conjunctions = none (conjunction_form field) conjunction_ends_in_terms;
    conjunction_rows = λ st. none (row (or_links field) st) (last_says conjunction_ends_in_terms false);
    disjunctions = none (disjunction_form field) disjunction_ends_in_terms;
    conclusions = λ d. none (conclusion field d) conclusion_ends;
    formulas = none (formula_form field) formula_ends_in_terms;
    quantifieds = none (quantified_form field) quantified_ends_in_terms;
    scopes = none (scope_form field) scope_ends;
    universals = none (universal_form field) universal_ends;
  }
  all_behind comma (suc n) =
      let o = formulas_one field n in
      let one = formulas_one field (suc n) in
      let r = all_behind comma n in
      record {
        openings = openings_next comma n o one r;
        units = units_next comma n o one r;
        unit_rows = unit_rows_next comma n o one r;
        conjunctions = conjunctions_next comma n o one r;
        conjunction_rows = conjunction_rows_next comma n o one r;
        disjunctions = disjunctions_next comma n o one r;
        conclusions = conclusions_next comma n o one r;
        formulas = formulas_next comma n o one r;
        quantifieds = quantifieds_next comma n o one r;
        scopes = scopes_next comma n o one r;
        universals = universals_next comma n o one r;
      }

pub behind_terms_alone : (field : Bool) → BehindTermsAlone field
behind_terms_alone field f g p more isf isg e = (all_behind field (list_comma p) (sign_of-fixed signs.ListComma p refl) (suc (length ((formula_form field).spell f)))).formulas f g more (omega arith) isf isg e
