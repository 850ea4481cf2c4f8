-- Two formulas that spell the same tokens are equal.
use Rattle.std.proofs.Common.{◌≡◌, ℕ, zero, suc, ◌≤◌, Bool, true, false, List, [], ◌∷◌, ◌++◌, length, refl, sym, ap, ◌∙◌, arith}
use Rattle.mz_base.specs.declared.place.Place.{Place}
use Rattle.mz_base.specs.declared.token.MarkedToken.{MarkedToken}
use Rattle.mz_forms.specs.Form.{Agrees, nested, nothing}
use Rattle.mz_forms.specs.Parse.{OneTree}
use Rattle.mz_forms.proofs.Compose.{head_of}
use Rattle.mz_forms.proofs.Leads.{apart_closed}
use Rattle.mz_forms.proofs.One.{One, OneAt, one_then, at_by, at_turn, at_as, at_token, one_from, one_nothing, one_zero, one_as, one_nested, one_tree, quiet_weaker}
use Rattle.mz_tree.specs.Trees.{UnitData, ConjunctionData, DisjunctionData, QuantifiedData, ChainDisjunction, ChainConjunction, ContradictionUnit, ThesisUnit}
use Rattle.mz_tree.specs.Spell.{spell_unit, spell_conjunction, spell_disjunction, spell_quantified}
use Rattle.mz_tree.specs.Rules.{takes_unit, takes_conjunction, conjoins, disjoins, IsUnit, IsConjunction, IsDisjunction}
use Rattle.mz_pterm.specs.declared.sign.Sign.{Sign}
use Rattle.mz_pterm.specs.declared.sign.Sign.TheVariants as signs
use Rattle.mz_pterm.specs.Classes.{is_open}
use Rattle.mz_pterm.specs.Sign.{sign_of}
use Rattle.mz_pterm.specs.Words.{fixed, word}
use Rattle.mz_pterm.proofs.Signs.{told_fixed, sign_of-fixed}
use Rattle.mz_ptype.specs.Forms.{declarations_form}
use Rattle.mz_ptype.proofs.Unique.{declarations_one}
use Rattle.mz_patom.specs.Classes.{begins_term, is_identifier}
use Rattle.mz_patom.specs.Forms.{Opening, unit_opening, terms_opening, spell_opening, opening_form, unit_form, atom_form, make_atom, predicate_form}
use Rattle.mz_pformula.specs.Classes.{begins_quantified, concludes_sign}
use Rattle.mz_pformula.specs.Row.{row}
use Rattle.mz_pformula.specs.Forms.{and_links, or_links, conjunction_form, behind_unit, units_form, conjunction_with, disjunction_form, behind_conjunction, conjunctions_form, disjunction_with, Conclusion, no_conclusion, implies_conclusion, iff_conclusion, spell_conclusion, goes_conclusion, conclusion, IsConclusion, formula_form, concluded}
use Rattle.mz_pformula.specs.Quantified.{Scope, holds_scope, further_scope, spell_scope, IsScope, scope_form, Universal, plain_universal, such_universal, spell_universal, IsUniversal, universal_form, condition, quantified_form, behind_for, for_form, such_formula, behind_ex, ex_form}
use Rattle.mz_pformula.specs.Inside.{not_form, Inside, formula_inside, terms_inside, inside_form, behind_units, after_opening, begun_inside, behind_inside, closed_inside, opened_inside, parenthesis_form, parenthesis_with}
use Rattle.mz_pformula.proofs.Row.{one_row, pair_apart}
use Rattle.mz_pformula.proofs.Operators.{both_ways, opens_other}
use Rattle.mz_pformula.proofs.Conjunctions.{rowed_and, make_conjunction, as_conjunction, only_conjunction}
use Rattle.mz_pformula.proofs.Disjunctions.{rowed_or, make_disjunction, as_disjunction, only_disjunction}
use Rattle.mz_pformula.proofs.Conclusions.{conclusion_apart, by_implies, by_iff, make_formula, as_formula, only_formula}
use Rattle.mz_pformula.proofs.Openings.{Begins, not_first, contradiction_first, thesis_first, quantified_first, group_first, private_first, predicate_first, atom_first, begins, opening_filled, quantified_sign, quantified_filled}
use Rattle.mz_pformula.proofs.Units.{put_not, turn_not, by_contradiction, by_thesis, put_predicate, turn_predicate, put_quantified, as_quantified, as_atom}
use Rattle.mz_pformula.proofs.Quantifiers.{scope_filled, universal_filled, condition_apart, by_holds, as_further, by_such, as_plain}
use Rattle.mz_pformula.proofs.Quantified.{make_for, make_ex, as_for, as_ex, universal_apart, such_apart}
use Rattle.mz_pformula.proofs.Parentheses.{turn_parenthesis, close_apart}
use Rattle.mz_pformula.proofs.Insides.{make_inside, inside_spells, inside_goes, only_inside, opening_apart, units_apart, rest_apart}
use Rattle.mz_pformula.proofs.Identifiers.{identifier_is}
use Rattle.mz_pformula.proofs.Unique.{size, words, one_opened, atom_one, group_one, predicate_one, identifier_at}

pub record FormulasOne (field : Bool) (n : ℕ) : Type 0 where
  pub openings : One n (opening_form field)
  pub insides : One n (inside_form field)
  pub units : One n (unit_form field)
  pub unit_rows : (st : Bool) → One n (row (and_links field) st)
  pub conjunctions : One n (conjunction_form field)
  pub conjunction_rows : (st : Bool) → One n (row (or_links field) st)
  pub disjunctions : One n (disjunction_form field)
  pub conclusions : (d : DisjunctionData) → One n (conclusion field d)
  pub formulas : One n (formula_form field)
  pub quantifieds : One n (quantified_form field)
  pub scopes : One n (scope_form field)
  pub universals : One n (universal_form field)

unit_from : (field : Bool) (n : ℕ) → One n (opening_form field) → One n (unit_form field)
unit_from field n one a b x y less isa isb e qa qb = inner a b (one (unit_opening a) (unit_opening b) x y less isa isb e (quiet_weaker (unit_form field) (opening_form field) a (unit_opening a) (λ t g. g) x qa) (quiet_weaker (unit_form field) (opening_form field) b (unit_opening b) (λ t g. g) y qb))
  where
    inner : (a b : UnitData) → unit_opening a ≡ unit_opening b → a ≡ b
    inner a b e = cc

left_nil : (v w : List MarkedToken) → v ++ w ≡ [] → v ≡ []
left_nil [] w f = refl
left_nil (s ∷ v) w f = cc

unit_size : (field : Bool) (u : UnitData) → IsUnit field u → 1 ≤ length (spell_unit u)
unit_size field u is = size (spell_unit u) (opening_filled field (unit_opening u) is)

conjunction_size : (field : Bool) (c : ConjunctionData) → IsConjunction field c → 1 ≤ length (spell_conjunction c)
conjunction_size field (ChainConjunction u us) is = size (spell_conjunction (ChainConjunction u us)) (λ e. opening_filled field (unit_opening u) is.0 (left_nil (spell_unit u) _ e))

disjunction_size : (field : Bool) (d : DisjunctionData) → IsDisjunction field d → 1 ≤ length (spell_disjunction d)
disjunction_size field (ChainDisjunction (ChainConjunction u us) cs) is = size (spell_disjunction (ChainDisjunction (ChainConjunction u us) cs)) (λ e. opening_filled field (unit_opening u) is.0.0 (left_nil (spell_unit u) _ (left_nil (spell_conjunction (ChainConjunction u us)) _ e)))

-- a sign that begins terms alone
other : (s : Sign) → begins_term s ≡ true → (s ≡ signs.Open → ⊥) → opens_other s ≡ false
other signs.Open g h = absurd (h refl)
other signs.Not g h = cc
other signs.For g h = cc
other signs.Ex g h = cc
other signs.Contradiction g h = cc
other signs.Thesis g h = cc
other signs.Predicate g h = cc
other _ g h = refl

module _ (field : Bool) (n : ℕ) (o : FormulasOne field n) where
  -- quantified formulas
  such_one : One n (such_formula field)
  such_one = one_then n n (word signs.St) (λ _. formula_form field) (apart_closed (word signs.St) (λ _. formula_form field) (λ a t. refl)) (words n signs.St refl) (λ p. o.formulas) (λ a l isa h. omega (arith, h))

  behind_for_one : One n (behind_for field)
  behind_for_one = one_then n n (declarations_form field) (λ _. universal_form field) (universal_apart field) (declarations_one field n) (λ d. o.universals) (λ a l isa h. omega (arith, h))

  behind_ex_one : One n (behind_ex field)
  behind_ex_one = one_then n n (declarations_form field) (λ _. such_formula field) (such_apart field) (declarations_one field n) (λ d. such_one) (λ a l isa h. omega (arith, h))

  for_at : (t : MarkedToken) → (sign_of t ≡ signs.Ex → ⊥) → OneAt (suc n) (quantified_form field) t
  for_at t differ = at_as (suc n) (quantified_form field) (for_form field) make_for t (as_for field t [] differ) (one_opened n signs.For refl (λ _. nested (behind_for field)) (λ p. one_nested n (behind_for field) behind_for_one))

  ex_at : (t : MarkedToken) → sign_of t ≡ signs.Ex → OneAt (suc n) (quantified_form field) t
  ex_at t h = at_as (suc n) (quantified_form field) (ex_form field) make_ex t (as_ex field t [] h) (one_opened n signs.Ex refl (λ _. nested (behind_ex field)) (λ p. one_nested n (behind_ex field) behind_ex_one))

  quantified_at : (s : Sign) (t : MarkedToken) → sign_of t ≡ s → begins_quantified s ≡ true → OneAt (suc n) (quantified_form field) t
  quantified_at signs.For t h g = for_at t (λ e. clash (sym h ∙ e))
    where
      clash : signs.For ≡ signs.Ex → ⊥
      clash e = cc
  quantified_at signs.Ex t h g = ex_at t h
  quantified_at _ t h g = cc

  quantifieds_next : One (suc n) (quantified_form field)
  quantifieds_next = one_from (suc n) (quantified_form field) (λ a b isa isb ea eb. absurd (quantified_filled a ea)) (λ a b tok m isa isb ea eb. absurd (quantified_filled a ea)) (λ a tok m isa e. quantified_at (sign_of tok) tok refl (quantified_sign a tok m e))

  scopes_next : One (suc n) (scope_form field)
  scopes_next = one_from (suc n) (scope_form field) (λ a b isa isb ea eb. absurd (scope_filled a ea)) (λ a b tok m isa isb ea eb. absurd (scope_filled a ea)) at
    where
      no_holds : (q : QuantifiedData) (tok : MarkedToken) (m : List MarkedToken) → spell_quantified q ≡ tok ∷ m → (p : Place) → Agrees (tok ∷ []) (fixed signs.Holds p ∷ []) → ⊥
      no_holds q tok m e p agrees = clash (sym (ap begins_quantified (sym (ap sign_of agrees) ∙ sign_of-fixed signs.Holds p refl)) ∙ quantified_sign q tok m e)
        where
          clash : false ≡ true → ⊥
          clash f = cc

      at : (a : Scope) (tok : MarkedToken) (m : List MarkedToken) → IsScope field a → spell_scope a ≡ tok ∷ m → OneAt (suc n) (scope_form field) tok
      at (holds_scope p f) tok m is e = at_token (suc n) (scope_form field) (fixed signs.Holds p) tok (head_of _ _ _ _ e) (at_by n (scope_form field) (fixed signs.Holds p) (formula_form field) (holds_scope p) 0 (by_holds field p) o.formulas)
      at (further_scope q) tok m is e = at_as (suc n) (scope_form field) (quantified_form field) further_scope tok (as_further field (tok ∷ []) (no_holds q tok m e)) quantifieds_next

  condition_one : One n (condition field)
  condition_one = one_then n n (formula_form field) (λ _. scope_form field) (condition_apart field) o.formulas (λ f. o.scopes) (λ a l isa h. omega (arith, h))

  universals_next : One (suc n) (universal_form field)
  universals_next = one_from (suc n) (universal_form field) (λ a b isa isb ea eb. absurd (universal_filled a ea)) (λ a b tok m isa isb ea eb. absurd (universal_filled a ea)) at
    where
      no_st : (s : Scope) (tok : MarkedToken) (m : List MarkedToken) → spell_scope s ≡ tok ∷ m → (p : Place) → Agrees (tok ∷ []) (fixed signs.St p ∷ []) → ⊥
      no_st (holds_scope q f) tok m e p agrees = clash (sym (sign_of-fixed signs.Holds q refl) ∙ (ap sign_of (head_of _ _ _ _ e) ∙ (sym (ap sign_of agrees) ∙ sign_of-fixed signs.St p refl)))
        where
          clash : signs.Holds ≡ signs.St → ⊥
          clash f = cc
      no_st (further_scope q) tok m e p agrees = clash (sym (ap begins_quantified (sym (ap sign_of agrees) ∙ sign_of-fixed signs.St p refl)) ∙ quantified_sign q tok m e)
        where
          clash : false ≡ true → ⊥
          clash f = cc

      at : (a : Universal) (tok : MarkedToken) (m : List MarkedToken) → IsUniversal field a → spell_universal a ≡ tok ∷ m → OneAt (suc n) (universal_form field) tok
      at (such_universal p f s) tok m is e = at_token (suc n) (universal_form field) (fixed signs.St p) tok (head_of _ _ _ _ e) (at_by n (universal_form field) (fixed signs.St p) (condition field) (λ k. such_universal p k.0 k.1) 0 (by_such field p) condition_one)
      at (plain_universal s) tok m is e = at_as (suc n) (universal_form field) (scope_form field) plain_universal tok (as_plain field (tok ∷ []) (no_st s tok m e)) scopes_next

  -- units
  behind_one : (p : Place) (i : Inside) (q : Place) → One n (behind_inside field p i q)
  behind_one p (formula_inside f) q = one_nothing n
  behind_one p (terms_inside ts) q = λ a b x y less isa isb e qa qb. group_one field n p ts q a b x y (omega (arith, less)) isa isb e qa qb

  closed_one : (p : Place) (i : Inside) → One n (closed_inside field p i)
  closed_one p i = one_then n n (word signs.Close) (behind_inside field p i) (apart_closed (word signs.Close) (behind_inside field p i) (λ a t. refl)) (words n signs.Close refl) (behind_one p i) (λ a l isa h. omega (arith, h))

  opened_one : (p : Place) → One n (opened_inside field p)
  opened_one p = one_then n n (nested (inside_form field)) (closed_inside field p) (close_apart field p) (one_nested n (inside_form field) o.insides) (closed_one p) (λ a l isa h. omega (arith, h))

  parenthesis_at : (t : MarkedToken) → sign_of t ≡ signs.Open → OneAt (suc n) (opening_form field) t
  parenthesis_at t h = at_turn (suc n) (opening_form field) (parenthesis_form field) (parenthesis_with field) t (turn_parenthesis field t h) (one_opened n signs.Open refl (opened_inside field) opened_one)

  atom_at : (t : MarkedToken) → begins_term (sign_of t) ≡ true → OneAt (suc n) (opening_form field) t
  atom_at t g = go (is_open (sign_of t)) (is_identifier (sign_of t)) refl refl
    where
      open_is : (s : Sign) → is_open s ≡ true → s ≡ signs.Open
      open_is signs.Open e = refl
      open_is _ e = cc

      differ : (f : Sign → Bool) (s : Sign) → f s ≡ true → f (sign_of t) ≡ false → sign_of t ≡ s → ⊥
      differ f s e h k = both_ways (f (sign_of t)) h (ap f k ∙ e)

      go : (a b : Bool) → is_open (sign_of t) ≡ a → is_identifier (sign_of t) ≡ b → OneAt (suc n) (opening_form field) t
      go true b e f = parenthesis_at t (open_is (sign_of t) e)
      go false true e f = identifier_at field n t (identifier_is (sign_of t) f)
      go false false e f = at_as (suc n) (opening_form field) (atom_form field) make_atom t (as_atom field t [] (other (sign_of t) g (differ is_open signs.Open refl e)) (differ is_identifier signs.Identifier refl f)) (atom_one field n)

  opening_at : (t : MarkedToken) (x : Opening) → Begins field (sign_of t) x → OneAt (suc n) (opening_form field) t
  opening_at t x b = at (sign_of t) refl x b
    where
      at : (s : Sign) → sign_of t ≡ s → (x : Opening) → Begins field s x → OneAt (suc n) (opening_form field) t
      at s h x (not_first f p u) = at_turn (suc n) (opening_form field) (not_form field) put_not t (turn_not field t h) (one_opened n signs.Not refl (λ _. nested (unit_form field)) (λ q. one_nested n (unit_form field) o.units))
      at s h x (contradiction_first f p) = at_token (suc n) (opening_form field) (fixed signs.Contradiction t.token.place) t (sym (told_fixed signs.Contradiction t refl h)) (at_by n (opening_form field) (fixed signs.Contradiction t.token.place) nothing (λ _. unit_opening (ContradictionUnit t.token.place)) 0 (by_contradiction field t.token.place) (one_nothing n))
      at s h x (thesis_first f p) = at_token (suc n) (opening_form field) (fixed signs.Thesis t.token.place) t (sym (told_fixed signs.Thesis t refl h)) (at_by n (opening_form field) (fixed signs.Thesis t.token.place) nothing (λ _. unit_opening (ThesisUnit t.token.place)) 0 (by_thesis field t.token.place) (one_nothing n))
      at s h x (quantified_first f r q g) = at_as (suc n) (opening_form field) (quantified_form field) put_quantified t (as_quantified field t [] (ap begins_quantified h ∙ g)) quantifieds_next
      at s h x (group_first f p g q) = parenthesis_at t h
      at s h x (private_first f w p k q) = identifier_at field n t h
      at s h x (predicate_first f w k) = at_turn (suc n) (opening_form field) (predicate_form field) put_predicate t (turn_predicate field t h) (predicate_one field (suc n))
      at s h x (atom_first f r ts k g i j) = atom_at t (ap begins_term h ∙ g)

  openings_next : One (suc n) (opening_form field)
  openings_next = one_from (suc n) (opening_form field) (λ a b isa isb ea eb. absurd (opening_filled field a isa ea)) (λ a b tok m isa isb ea eb. absurd (opening_filled field a isa ea)) (λ a tok m isa e. opening_at tok a (begins field a tok m isa e))

  units_next : One (suc n) (unit_form field)
  units_next = unit_from field (suc n) openings_next

  -- chains
  conjunctions_next : One (suc n) (conjunction_form field)
  conjunctions_next = one_as (suc n) (conjunction_form field) (units_form field) make_conjunction (only_conjunction field) (λ s is. (as_conjunction field []).spells s is) (λ s t is g. (as_conjunction field []).goes s t is g)
      (one_then (suc n) n (unit_form field) (behind_unit field) (pair_apart (and_links field) (rowed_and field)) units_next (λ u. o.unit_rows (takes_unit conjoins u)) (λ u l is h. omega (arith, h, unit_size field u is)))

  disjunctions_next : One (suc n) (disjunction_form field)
  disjunctions_next = one_as (suc n) (disjunction_form field) (conjunctions_form field) make_disjunction (only_disjunction field) (λ s is. (as_disjunction field []).spells s is) (λ s t is g. (as_disjunction field []).goes s t is g)
      (one_then (suc n) n (conjunction_form field) (behind_conjunction field) (pair_apart (or_links field) (rowed_or field)) conjunctions_next (λ c. o.conjunction_rows (takes_conjunction disjoins c)) (λ c l is h. omega (arith, h, conjunction_size field c is)))

  conclusions_next : (d : DisjunctionData) → One (suc n) (conclusion field d)
  conclusions_next d = one_from (suc n) (conclusion field d) (λ a b isa isb ea eb. none a ea ∙ sym (none b eb)) (λ a b tok m isa isb ea eb. on a b tok m ea eb) at
    where
      none : (k : Conclusion) → spell_conclusion k ≡ [] → k ≡ no_conclusion
      none no_conclusion e = refl
      none (implies_conclusion p x) e = cc
      none (iff_conclusion p x) e = cc

      on : (a b : Conclusion) (tok : MarkedToken) (m : List MarkedToken) → spell_conclusion a ≡ [] → spell_conclusion b ≡ tok ∷ m → goes_conclusion a (sign_of tok) ≡ true
      on (implies_conclusion p x) b tok m ea eb = cc
      on (iff_conclusion p x) b tok m ea eb = cc
      on no_conclusion no_conclusion tok m ea eb = cc
      on no_conclusion (implies_conclusion p x) tok m ea eb = ap concludes_sign (sym (ap sign_of (head_of _ _ _ _ eb)) ∙ sign_of-fixed signs.Implies p refl)
      on no_conclusion (iff_conclusion p x) tok m ea eb = ap concludes_sign (sym (ap sign_of (head_of _ _ _ _ eb)) ∙ sign_of-fixed signs.Iff p refl)

      at : (k : Conclusion) (tok : MarkedToken) (m : List MarkedToken) → IsConclusion field d k → spell_conclusion k ≡ tok ∷ m → OneAt (suc n) (conclusion field d) tok
      at no_conclusion tok m is e = cc
      at (implies_conclusion p x) tok m is e = at_token (suc n) (conclusion field d) (fixed signs.Implies p) tok (head_of _ _ _ _ e) (at_by n (conclusion field d) (fixed signs.Implies p) (disjunction_form field) (implies_conclusion p) 0 (by_implies field d p is.0) o.disjunctions)
      at (iff_conclusion p x) tok m is e = at_token (suc n) (conclusion field d) (fixed signs.Iff p) tok (head_of _ _ _ _ e) (at_by n (conclusion field d) (fixed signs.Iff p) (disjunction_form field) (iff_conclusion p) 0 (by_iff field d p is.0) o.disjunctions)

  formulas_next : One (suc n) (formula_form field)
  formulas_next = one_as (suc n) (formula_form field) (concluded field) make_formula (only_formula field) (λ s is. (as_formula field []).spells s is) (λ s t is g. (as_formula field []).goes s t is g)
      (one_then (suc n) n (disjunction_form field) (conclusion field) (conclusion_apart field) disjunctions_next o.conclusions (λ d l is h. omega (arith, h, disjunction_size field d is)))

  -- what stands in parentheses
  after_one : (x : Opening) → One n (after_opening field x)
  after_one (terms_opening ts) = one_nothing n
  after_one (unit_opening u) = one_then n n (behind_unit field u) (behind_units field u) (units_apart field u) (o.unit_rows (takes_unit conjoins u))
      (λ us. one_then n n (behind_conjunction field (conjunction_with u us)) (λ cs. conclusion field (disjunction_with (conjunction_with u us) cs)) (rest_apart field (conjunction_with u us)) (o.conjunction_rows (takes_conjunction disjoins (conjunction_with u us)))
      (λ cs. o.conclusions (disjunction_with (conjunction_with u us) cs)) (λ a l isa h. omega (arith, h)))
      (λ a l isa h. omega (arith, h))

  insides_next : One (suc n) (inside_form field)
  insides_next = one_as (suc n) (inside_form field) (begun_inside field) (make_inside field) (only_inside field) (inside_spells field) (λ s t is g. inside_goes field s t g)
      (one_then (suc n) n (opening_form field) (after_opening field) (opening_apart field) openings_next after_one (λ x l is h. omega (arith, h, size (spell_opening x) (opening_filled field x is))))

pub formulas_one : (field : Bool) (n : ℕ) → FormulasOne field n
formulas_one field zero = record {
  openings = one_zero (opening_form field);
  insides = one_zero (inside_form field);
  units = one_zero (unit_form field);
  unit_rows = λ st. one_zero (row (and_links field) st);
  conjunctions = one_zero (conjunction_form field);
  conjunction_rows = λ st. one_zero (row (or_links field) st);
  disjunctions = one_zero (disjunction_form field);
  conclusions = λ d. one_zero (conclusion field d);
  formulas = one_zero (formula_form field);
  quantifieds = one_zero (quantified_form field);
  scopes = one_zero (scope_form field);
  universals = one_zero (universal_form field);
}
formulas_one field (suc n) =
    let o = formulas_one field n in
    record {
      openings = openings_next field n o;
      insides = insides_next field n o;
      units = units_next field n o;
      unit_rows = one_row (and_links field) (rowed_and field) n o.units o.unit_rows;
      conjunctions = conjunctions_next field n o;
      conjunction_rows = one_row (or_links field) (rowed_or field) n o.conjunctions o.conjunction_rows;
      disjunctions = disjunctions_next field n o;
      conclusions = conclusions_next field n o;
      formulas = formulas_next field n o;
      quantifieds = quantifieds_next field n o;
      scopes = scopes_next field n o;
      universals = universals_next field n o;
    }

pub one_formula : (field : Bool) → OneTree (formula_form field)
one_formula field = one_tree (formula_form field) (λ n. (formulas_one field n).formulas)
