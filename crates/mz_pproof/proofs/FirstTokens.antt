-- What propositions begin with, and the keywords that their tokens lack.
use Rattle.std.specs.Prelude.{codes}
use Rattle.std.specs.Str.{bytes_eq}
use Rattle.std.proofs.Common.{◌≡◌, ◌||◌, ◌&&◌, ◌⊎◌, inl, inr, Bool, true, false, List, [], ◌∷◌, ◌++◌, refl, sym, ap, ◌∙◌, append_assoc, Option, Some, None}
use Rattle.mz_base.specs.declared.place.Place.{Place}
use Rattle.mz_base.specs.declared.token.MarkedToken.{MarkedToken}
use Rattle.mz_forms.specs.Form.{Agrees}
use Rattle.mz_forms.proofs.Compose.{head_of}
use Rattle.mz_forms.proofs.Lists.{Begun}
use Rattle.mz_tree.specs.Trees.{UnitData, FormulaData, PlainFormula, ImpliesFormula, IffFormula, ChainDisjunction, ChainConjunction, NotUnit, ContradictionUnit, ThesisUnit, QuantifiedUnit, PredicateUnit, PredicateLeftUnit, ForQuantified, ExistsQuantified, no_next_units, no_next_conjunctions}
use Rattle.mz_tree.specs.Spell.{spell_unit, spell_disjunction, spell_formula, spell_next_unit_list, spell_next_conjunction_list}
use Rattle.mz_tree.specs.Rules.{IsUnit, IsFormula}
use Rattle.mz_tree_proof.specs.declared.references.LabelTree.{LabelTree}
use Rattle.mz_tree_proof.specs.Spell.{spell_proposition}
use Rattle.mz_pterm.specs.declared.sign.Sign.{Sign}
use Rattle.mz_pterm.specs.declared.sign.Sign.TheVariants as signs
use Rattle.mz_pterm.specs.Sign.{sign_of}
use Rattle.mz_pterm.specs.Words.{is_fixed, fixed, named, word_of}
use Rattle.mz_pterm.proofs.Signs.{told_fixed, told_named, sign_of-named}
use Rattle.mz_ptype.proofs.Optional.{never}
use Rattle.mz_patom.specs.Classes.{begins_term}
use Rattle.mz_patom.specs.Forms.{Opening, unit_opening, unit_form}
use Rattle.mz_patom.proofs.Parts.{begun_terms}
use Rattle.mz_pformula.specs.Classes.{begins_quantified, begins_unit}
use Rattle.mz_pformula.specs.Forms.{formula_form}
use Rattle.mz_pformula.proofs.Openings.{Begins, not_first, contradiction_first, thesis_first, quantified_first, group_first, private_first, predicate_first, atom_first, begins, opening_filled}
use Rattle.mz_pformula.proofs.Units.{some_unit}
use Rattle.mz_pformula.proofs.Quantifiers.{some_declarations, some_formula}
use Rattle.mz_pjustification.specs.declared.keyword.Keyword.{Keyword}
use Rattle.mz_pjustification.specs.declared.keyword.Keyword.TheVariants as keywords
use Rattle.mz_pjustification.specs.Keyword.{keyword_of}
use Rattle.mz_pjustification.specs.Words.{is_key, key}
use Rattle.mz_pjustification.proofs.Keywords.{told_key, told_numeral, sign_of-key, sign_of-numeral, keyword_of-key}
use Rattle.mz_pproof.specs.Classes.{KeyComes, is_mode, is_set, is_suppose_key, is_statement_key, is_step_key, begins_step}

-- A token of an expression has no keyword.
rest_of_keys : (k : Keyword) → is_key k ≡ false → (k ≡ keywords.Numeral) ⊎ (k ≡ keywords.Other)
rest_of_keys keywords.Numeral e = inl refl
rest_of_keys keywords.Other e = inr refl
rest_of_keys _ e = cc

pub no_keyword : (t : MarkedToken) → (sign_of t ≡ signs.Other → ⊥) → keyword_of t ≡ keywords.Other
no_keyword t h = go (is_key (keyword_of t)) refl
  where
    numeral : keyword_of t ≡ keywords.Numeral → ⊥
    numeral e = h (ap sign_of (told_numeral t e) ∙ sign_of-numeral (word_of t))

    rest : (keyword_of t ≡ keywords.Numeral) ⊎ (keyword_of t ≡ keywords.Other) → keyword_of t ≡ keywords.Other
    rest (inl e) = absurd (numeral e)
    rest (inr e) = e

    go : (b : Bool) → is_key (keyword_of t) ≡ b → keyword_of t ≡ keywords.Other
    go true e = absurd (h (ap sign_of (told_key (keyword_of t) t e refl) ∙ sign_of-key (keyword_of t) t.token.place e))
    go false e = rest (rest_of_keys (keyword_of t) e)

-- The next token has this keyword, or another.
pub key_told : (k : Keyword) (b : List MarkedToken) → is_key k ≡ true → KeyComes k b → (t : MarkedToken) × (rest : List MarkedToken) × (b ≡ t ∷ rest) × (keyword_of t ≡ k)
key_told k [] h e = absurd e
key_told k (t ∷ rest) h e = (t, rest, refl, e)

pub keyword_of-key_agrees : (k : Keyword) (b : List MarkedToken) (t : MarkedToken) (m : List MarkedToken) → KeyComes k b → Agrees b (t ∷ m) → keyword_of t ≡ k
keyword_of-key_agrees k [] t m e g = absurd e
keyword_of-key_agrees k (s ∷ b) t m e g = ap keyword_of g ∙ e

pub key_not : (k : Keyword) (b : List MarkedToken) (t : MarkedToken) (m : List MarkedToken) → (KeyComes k b → ⊥) → keyword_of t ≡ k → Agrees b (t ∷ m) → ⊥
key_not k [] t m h e g = g
key_not k (s ∷ b) t m h e g = h (sym (ap keyword_of g) ∙ e)

-- No step begins with another keyword.
pub begins_step-key : (k : Keyword) (p : Place) → is_key k ≡ true → begins_step (key k p) ≡ (is_step_key k || (is_statement_key k || false))
begins_step-key k p h =
    ap (λ z. is_step_key z || (is_statement_key z || (is_set (key k p) || begins_unit (sign_of (key k p))))) (keyword_of-key k p h) ∙
    ap (λ z. is_step_key k || (is_statement_key k || ((is_mode z && bytes_eq (key k p).token.spelling (codes "set")) || begins_unit z))) (sign_of-key k p h)

pub end_on_none : (p : Place) → (begins_step (key keywords.End p) || is_suppose_key (keyword_of (key keywords.End p))) ≡ true → ⊥
end_on_none p g = never (sym (ap (λ z. z || is_suppose_key (keyword_of (key keywords.End p))) (begins_step-key keywords.End p refl) ∙ ap is_suppose_key (keyword_of-key keywords.End p refl)) ∙ g)

-- What units begin with.
unit_from_term : (s : Sign) → begins_term s ≡ true → begins_unit s ≡ true
unit_from_term signs.Functor e = refl
unit_from_term signs.Identifier e = refl
unit_from_term signs.Structure e = refl
unit_from_term signs.LeftBracket e = refl
unit_from_term signs.It e = refl
unit_from_term signs.The e = refl
unit_from_term (signs.Argument n) e = refl
unit_from_term signs.Open e = refl
unit_from_term signs.OpenBrace e = refl
unit_from_term signs.OpenSquare e = refl
unit_from_term _ e = cc

quantifier_begins : (s : Sign) → begins_quantified s ≡ true → begins_unit s ≡ true
quantifier_begins signs.For e = refl
quantifier_begins signs.Ex e = refl
quantifier_begins _ e = cc

begins_of : (s : Sign) (x : Opening) → Begins false s x → begins_unit s ≡ true
begins_of s x (not_first f p u) = refl
begins_of s x (contradiction_first f p) = refl
begins_of s x (thesis_first f p) = refl
begins_of s x (quantified_first f r q g) = quantifier_begins s g
begins_of s x (group_first f p g q) = refl
begins_of s x (private_first f w p o q) = refl
begins_of s x (predicate_first f w o) = refl
begins_of s x (atom_first f r ts k g i j) = unit_from_term s g

pub record Front (spelled : List MarkedToken) : Type 0 where
  pub unit : UnitData
  pub rest : List MarkedToken
  pub is : IsUnit false unit
  pub spells : spelled ≡ spell_unit unit ++ rest

front : (f : FormulaData) → IsFormula false f → Front (spell_formula f)
front (PlainFormula (ChainDisjunction (ChainConjunction u us) cs)) is = record { unit = u; rest = spell_next_unit_list us ++ spell_next_conjunction_list cs; is = is.0.0; spells = append_assoc (spell_unit u) (spell_next_unit_list us) (spell_next_conjunction_list cs) }
front (ImpliesFormula (ChainDisjunction (ChainConjunction u us) cs) p e) is = record {
  unit = u;
  rest = (spell_next_unit_list us ++ spell_next_conjunction_list cs) ++ fixed signs.Implies p ∷ spell_disjunction e;
  is = is.0.0.0;
  spells = ap (λ z. z ++ fixed signs.Implies p ∷ spell_disjunction e) (append_assoc (spell_unit u) (spell_next_unit_list us) (spell_next_conjunction_list cs)) ∙ append_assoc (spell_unit u) (spell_next_unit_list us ++ spell_next_conjunction_list cs) (fixed signs.Implies p ∷ spell_disjunction e);
}
front (IffFormula (ChainDisjunction (ChainConjunction u us) cs) p e) is = record {
  unit = u;
  rest = (spell_next_unit_list us ++ spell_next_conjunction_list cs) ++ fixed signs.Iff p ∷ spell_disjunction e;
  is = is.0.0.0;
  spells = ap (λ z. z ++ fixed signs.Iff p ∷ spell_disjunction e) (append_assoc (spell_unit u) (spell_next_unit_list us) (spell_next_conjunction_list cs)) ∙ append_assoc (spell_unit u) (spell_next_unit_list us ++ spell_next_conjunction_list cs) (fixed signs.Iff p ∷ spell_disjunction e);
}

pub formula_begins : (f : FormulaData) (t : MarkedToken) (m : List MarkedToken) → IsFormula false f → spell_formula f ≡ t ∷ m → begins_unit (sign_of t) ≡ true
formula_begins f t m is e = go (spell_unit k.unit) refl
  where
    k : Front (spell_formula f)
    k = front f is

    go : (w : List MarkedToken) → spell_unit k.unit ≡ w → begins_unit (sign_of t) ≡ true
    go [] g = absurd (opening_filled false (unit_opening k.unit) k.is g)
    go (s ∷ w) g =
        let whole : s ∷ (w ++ k.rest) ≡ t ∷ m = ap (λ z. z ++ k.rest) (sym g) ∙ (sym k.spells ∙ e) in
        let first : s ≡ t = head_of _ _ _ _ whole in
        begins_of (sign_of t) (unit_opening k.unit) (begins false (unit_opening k.unit) t w k.is (g ∙ ap (λ z. z ∷ w) first))

pub unit_not_other : (t : MarkedToken) → begins_unit (sign_of t) ≡ true → sign_of t ≡ signs.Other → ⊥
unit_not_other t h e = differ (sym (ap begins_unit e) ∙ h)
  where
    differ : false ≡ true → ⊥
    differ g = cc

pub proposition_begins : (l : Option LabelTree) (f : FormulaData) (t : MarkedToken) (m : List MarkedToken) → IsFormula false f → spell_proposition (record { label = l; formula = f }) ≡ t ∷ m → begins_unit (sign_of t) ≡ true
proposition_begins None f t m is e = formula_begins f t m is e
proposition_begins (Some l) f t m is e = ap begins_unit (sym (ap sign_of (head_of _ _ _ _ e)) ∙ sign_of-named signs.Identifier l.name refl)

-- Formulas that begin with a token that may begin one.
some_predicate : (t : MarkedToken) → begins_term (sign_of t) ≡ true → Begun (unit_form false) t
some_predicate t g =
    let k = begun_terms false t g in
    (PredicateLeftUnit k.0 (word_of t), k.1 ++ named signs.Predicate (word_of t) ∷ [], k.2, ap (λ z. z ++ named signs.Predicate (word_of t) ∷ []) k.3)

begun_by : (s : Sign) (t : MarkedToken) (u : UnitData) (m : List MarkedToken) → IsUnit false u → is_fixed s ≡ true → sign_of t ≡ s → spell_unit u ≡ fixed s t.token.place ∷ m → Begun (unit_form false) t
begun_by s t u m is fix h e = (u, m, is, e ∙ ap (λ z. z ∷ m) (sym (told_fixed s t fix h)))

begun_at : (s : Sign) (t : MarkedToken) → sign_of t ≡ s → begins_unit s ≡ true → Begun (unit_form false) t
begun_at signs.Not t h g = begun_by signs.Not t (NotUnit t.token.place some_unit) (spell_unit some_unit) tt refl h refl
begun_at signs.Contradiction t h g = begun_by signs.Contradiction t (ContradictionUnit t.token.place) [] tt refl h refl
begun_at signs.Thesis t h g = begun_by signs.Thesis t (ThesisUnit t.token.place) [] tt refl h refl
begun_at signs.For t h g = begun_by signs.For t (QuantifiedUnit (ForQuantified t.token.place some_declarations.first some_declarations.more t.token.place some_formula)) _ (tt, tt, ((tt, tt), tt)) refl h refl
begun_at signs.Ex t h g = begun_by signs.Ex t (QuantifiedUnit (ExistsQuantified t.token.place some_declarations.first some_declarations.more t.token.place some_formula)) _ (tt, tt, ((tt, tt), tt)) refl h refl
begun_at signs.Predicate t h g = (PredicateUnit (word_of t), [], tt, ap (λ z. z ∷ []) (sym (told_named signs.Predicate t refl h)))
begun_at _ t h g = some_predicate t (ap begins_term h ∙ g)

pub begun_formula : (t : MarkedToken) → begins_unit (sign_of t) ≡ true → Begun (formula_form false) t
begun_formula t g =
    let k = begun_at (sign_of t) t refl g in
    (PlainFormula (ChainDisjunction (ChainConjunction k.0 no_next_units) no_next_conjunctions), (k.1 ++ []) ++ [], ((k.2, tt), tt), ap (λ z. (z ++ []) ++ []) k.3)
