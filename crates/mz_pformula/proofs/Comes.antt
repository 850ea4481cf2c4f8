-- What a unit begins with.
use Rattle.std.proofs.Common.{◌≡◌, ℕ, Bool, true, false, List, [], ◌∷◌, ◌++◌, refl, sym, ap, subst, ◌∙◌}
use Rattle.mz_base.specs.declared.token.MarkedToken.{MarkedToken}
use Rattle.mz_forms.specs.declared.refusal.Refusal.{Refusal}
use Rattle.mz_forms.specs.Form.{Form, Agrees, nested}
use Rattle.mz_forms.specs.Reading.{Refuses}
use Rattle.mz_forms.proofs.Compose.{head_of}
use Rattle.mz_forms.proofs.Choose.{fails_here}
use Rattle.mz_forms.proofs.Descend.{begins_too_deep, passes_down}
use Rattle.mz_forms.proofs.Lists.{Begun}
use Rattle.mz_base.specs.declared.place.Place.{Place}
use Rattle.mz_tree.specs.Trees.{UnitData, ConjunctionData, ChainConjunction, NotUnit, ContradictionUnit, ThesisUnit, QuantifiedUnit, PredicateUnit, PredicateLeftUnit, ForQuantified, ExistsQuantified}
use Rattle.mz_tree.specs.Spell.{spell_unit, spell_conjunction, spell_next_unit_list}
use Rattle.mz_tree.specs.Rules.{conjoins, disjoins, takes_unit, takes_conjunction, IsUnit, IsConjunction}
use Rattle.mz_pterm.specs.declared.sign.Sign.{Sign}
use Rattle.mz_pterm.specs.declared.sign.Sign.TheVariants as signs
use Rattle.mz_pterm.specs.Sign.{sign_of}
use Rattle.mz_pterm.specs.Words.{is_fixed, fixed, named, word_of}
use Rattle.mz_pterm.proofs.Signs.{told_fixed, told_named}
use Rattle.mz_ptype.specs.Classes.{next_is}
use Rattle.mz_ptype.proofs.Optional.{true_not_false}
use Rattle.mz_patom.specs.Classes.{begins_term}
use Rattle.mz_patom.specs.Forms.{Opening, unit_opening, unit_form}
use Rattle.mz_patom.proofs.Parts.{begun_terms}
use Rattle.mz_pformula.specs.Classes.{begins_quantified, begins_unit}
use Rattle.mz_pformula.specs.Row.{row}
use Rattle.mz_pformula.specs.Forms.{unit_takes, conjunction_takes, and_links, or_links, units_form, conjunctions_form, conjunction_with, behind_unit, behind_conjunction, no_room_of}
use Rattle.mz_pformula.proofs.Row.{refused_there}
use Rattle.mz_pformula.proofs.Operators.{not_conjoined, not_disjoined}
use Rattle.mz_pformula.proofs.Conjunctions.{rowed_and, last_unit, Units}
use Rattle.mz_pformula.proofs.Disjunctions.{rowed_or, last_conjunction, Conjoined}
use Rattle.mz_pformula.proofs.Openings.{Begins, not_first, contradiction_first, thesis_first, quantified_first, group_first, private_first, predicate_first, atom_first, begins, opening_filled}
use Rattle.mz_pformula.proofs.Units.{some_unit}
use Rattle.mz_pformula.proofs.Quantifiers.{some_declarations, some_formula}

-- Terms begin units.
unit_from_term : (s : Sign) → begins_term s ≡ true → begins_unit s ≡ true
unit_from_term signs.Functor e = refl
unit_from_term signs.Identifier e = refl
unit_from_term signs.Structure e = refl
unit_from_term signs.LeftBracket e = refl
unit_from_term signs.It e = refl
unit_from_term signs.The e = refl
unit_from_term (signs.Argument n) e = refl
unit_from_term signs.Open e = refl
unit_from_term signs.OpenBrace e = refl
unit_from_term signs.OpenSquare e = refl
unit_from_term _ e = cc

-- The first token of a unit.
some_predicate : (field : Bool) (t : MarkedToken) → begins_term (sign_of t) ≡ true → Begun (unit_form field) t
some_predicate field t g =
    let k = begun_terms field t g in
    (PredicateLeftUnit k.0 (word_of t), k.1 ++ named signs.Predicate (word_of t) ∷ [], k.2, ap (λ z. z ++ named signs.Predicate (word_of t) ∷ []) k.3)

begun_by : (field : Bool) (s : Sign) (t : MarkedToken) (u : UnitData) (m : List MarkedToken) → IsUnit field u → is_fixed s ≡ true → sign_of t ≡ s → spell_unit u ≡ fixed s t.token.place ∷ m → Begun (unit_form field) t
begun_by field s t u m is fix h e = (u, m, is, e ∙ ap (λ z. z ∷ m) (sym (told_fixed s t fix h)))

begun_at : (s : Sign) (field : Bool) (t : MarkedToken) → sign_of t ≡ s → begins_unit s ≡ true → Begun (unit_form field) t
begun_at signs.Not field t h g = begun_by field signs.Not t (NotUnit t.token.place some_unit) (spell_unit some_unit) tt refl h refl
begun_at signs.Contradiction field t h g = begun_by field signs.Contradiction t (ContradictionUnit t.token.place) [] tt refl h refl
begun_at signs.Thesis field t h g = begun_by field signs.Thesis t (ThesisUnit t.token.place) [] tt refl h refl
begun_at signs.For field t h g = begun_by field signs.For t (QuantifiedUnit (ForQuantified t.token.place some_declarations.first some_declarations.more t.token.place some_formula)) _ (tt, tt, ((tt, tt), tt)) refl h refl
begun_at signs.Ex field t h g = begun_by field signs.Ex t (QuantifiedUnit (ExistsQuantified t.token.place some_declarations.first some_declarations.more t.token.place some_formula)) _ (tt, tt, ((tt, tt), tt)) refl h refl
begun_at signs.Predicate field t h g = (PredicateUnit (word_of t), [], tt, ap (λ z. z ∷ []) (sym (told_named signs.Predicate t refl h)))
begun_at _ field t h g = some_predicate field t (ap begins_term h ∙ g)

begun_unit : (field : Bool) (t : MarkedToken) → begins_unit (sign_of t) ≡ true → Begun (unit_form field) t
begun_unit field t g = begun_at (sign_of t) field t refl g

quantifier_begins : (s : Sign) → begins_quantified s ≡ true → begins_unit s ≡ true
quantifier_begins signs.For e = refl
quantifier_begins signs.Ex e = refl
quantifier_begins _ e = cc

begins_of : (field : Bool) (s : Sign) (x : Opening) → Begins field s x → begins_unit s ≡ true
begins_of field s x (not_first f p u) = refl
begins_of field s x (contradiction_first f p) = refl
begins_of field s x (thesis_first f p) = refl
begins_of field s x (quantified_first f r q g) = quantifier_begins s g
begins_of field s x (group_first f p g q) = refl
begins_of field s x (private_first f w p o q) = refl
begins_of field s x (predicate_first f w o) = refl
begins_of field s x (atom_first f r ts k g i j) = unit_from_term s g

unit_first : (field : Bool) (u : UnitData) (t : MarkedToken) (m : List MarkedToken) → IsUnit field u → spell_unit u ≡ t ∷ m → begins_unit (sign_of t) ≡ true
unit_first field u t m is e = begins_of field (sign_of t) (unit_opening u) (begins field (unit_opening u) t m is e)

-- Where no room is left: what begins here is nested too deep, and else nothing begins.
no_room_for : (F : Form MarkedToken) → ((x : F.Tree) → F.IsTree x → F.spell x ≡ [] → ⊥) → ((x : F.Tree) (t : MarkedToken) (m : List MarkedToken) → F.IsTree x → F.spell x ≡ t ∷ m → begins_unit (sign_of t) ≡ true) →
    ((t : MarkedToken) → begins_unit (sign_of t) ≡ true → Begun F t) → (some : F.Tree) → F.IsTree some → (d : List MarkedToken) → Refuses (nested F) 0 d (no_room_of (next_is begins_unit d)) d
no_room_for F filled first begun some is [] = fails_here (nested F) 0 some [] is (λ x isx agrees. none x isx (F.spell x) refl agrees)
  where
    none : (x : F.Tree) → F.IsTree x → (w : List MarkedToken) → F.spell x ≡ w → Agrees [] (F.spell x) → ⊥
    none x isx [] f agrees = filled x isx f
    none x isx (s ∷ w) f agrees = let A : List MarkedToken → Type 0 = λ z. Agrees [] z in subst A f agrees
no_room_for F filled first begun some is (t ∷ rest) = go (begins_unit (sign_of t)) refl
  where
    none : begins_unit (sign_of t) ≡ false → (x : F.Tree) → F.IsTree x → (w : List MarkedToken) → F.spell x ≡ w → Agrees (t ∷ rest) (F.spell x) → ⊥
    none off x isx [] f agrees = filled x isx f
    none off x isx (s ∷ w) f agrees =
        let A : List MarkedToken → Type 0 = λ z. Agrees (t ∷ rest) z in
        let same : s ≡ t = subst A f agrees in
        true_not_false (begins_unit (sign_of t)) off (ap (λ z. begins_unit (sign_of z)) (sym same) ∙ first x s w isx f)

    go : (b : Bool) → begins_unit (sign_of t) ≡ b → Refuses (nested F) 0 (t ∷ rest) (no_room_of b) (t ∷ rest)
    go true e = let k = begun t e in begins_too_deep F t k.0 k.1 k.2 k.3 (λ x isx f. absurd (filled x isx f)) (t ∷ rest) rest refl
    go false e = fails_here (nested F) 0 some (t ∷ rest) is (λ x isx agrees. none e x isx (F.spell x) refl agrees)

left_nil : (v w : List MarkedToken) → v ++ w ≡ [] → v ≡ []
left_nil [] w e = refl
left_nil (s ∷ v) w e = cc

head_first : (v w : List MarkedToken) (t : MarkedToken) (m : List MarkedToken) → (v ≡ [] → ⊥) → v ++ w ≡ t ∷ m → (k : List MarkedToken) × (v ≡ t ∷ k)
head_first [] w t m h e = absurd (h refl)
head_first (s ∷ v) w t m h e = (v, ap (λ z. z ∷ v) (head_of _ _ _ _ e))

units_no_room_here : (field : Bool) (d : List MarkedToken) → Refuses (nested (units_form field)) 0 d (no_room_of (next_is begins_unit d)) d
units_no_room_here field d = no_room_for (units_form field) (λ x is e. filled x.0 is.0 (left_nil (spell_unit x.0) _ e)) (λ x t m is e. let k = head_first (spell_unit x.0) _ t m (filled x.0 is.0) e in unit_first field x.0 t k.0 is.0 k.1)
    (λ t g. let k = begun_unit field t g in ((k.0, []), k.1 ++ [], (k.2, tt), ap (λ z. z ++ []) k.3)) (some_unit, []) (tt, tt) d
  where
    filled : (u : UnitData) → IsUnit field u → spell_unit u ≡ [] → ⊥
    filled u is e = opening_filled field (unit_opening u) is e

pub units_no_room : (field : Bool) (room left : ℕ) (u : UnitData) (p : Place) (ps : List (Place × UnitData)) (b c d : List MarkedToken) (r : Refusal) → left ≡ 0 → Units field room left u ps b c → c ≡ fixed signs.And p ∷ d → r ≡ no_room_of (next_is begins_unit d) → Refuses (behind_unit field u) room b r d
units_no_room field room left u p ps b c d r z so is e =
    let st = takes_unit conjoins (last_unit u ps) in
    let N : ℕ → Type 0 = λ n. Refuses (nested (units_form field)) n d r d in
    let R : Refusal → Type 0 = λ x. Refuses (nested (units_form field)) 0 d x d in
    passes_down (behind_unit field u) (row (and_links field) st) room left (λ qs. so.chained.taken ++ qs) b c d r so.chained.leads
    (refused_there (and_links field) (rowed_and field) st p left c d d r (not_conjoined (unit_takes (last_unit u ps)) p c d is so.quiet) is (subst N (sym z) (subst R (sym e) (units_no_room_here field d))))

-- the same of conjunctions
conjunction_head : (field : Bool) (c : ConjunctionData) → IsConjunction field c → (u : UnitData) × (w : List MarkedToken) × IsUnit field u × (spell_conjunction c ≡ spell_unit u ++ w)
conjunction_head field (ChainConjunction u us) is = (u, spell_next_unit_list us, is.0, refl)

conjunctions_no_room_here : (field : Bool) (d : List MarkedToken) → Refuses (nested (conjunctions_form field)) 0 d (no_room_of (next_is begins_unit d)) d
conjunctions_no_room_here field d = no_room_for (conjunctions_form field) (λ x is e. filled x.0 is.0 (left_nil (spell_conjunction x.0) _ e)) (λ x t m is e. first x.0 is.0 t (head_first (spell_conjunction x.0) _ t m (filled x.0 is.0) e))
    (λ t g. let k = begun_unit field t g in ((conjunction_with k.0 [], []), (k.1 ++ []) ++ [], ((k.2, tt), tt), ap (λ z. (z ++ []) ++ []) k.3)) (conjunction_with some_unit [], []) ((tt, tt), tt) d
  where
    filled : (c : ConjunctionData) → IsConjunction field c → spell_conjunction c ≡ [] → ⊥
    filled c is e = let k = conjunction_head field c is in opening_filled field (unit_opening k.0) k.2 (left_nil (spell_unit k.0) k.1 (sym k.3 ∙ e))

    first : (c : ConjunctionData) → IsConjunction field c → (t : MarkedToken) → (m : List MarkedToken) × (spell_conjunction c ≡ t ∷ m) → begins_unit (sign_of t) ≡ true
    first c is t f =
        let k = conjunction_head field c is in
        let g = head_first (spell_unit k.0) k.1 t f.0 (opening_filled field (unit_opening k.0) k.2) (sym k.3 ∙ f.1) in
        unit_first field k.0 t g.0 k.2 g.1

pub conjunctions_no_room : (field : Bool) (room left : ℕ) (u : ConjunctionData) (p : Place) (ps : List (Place × ConjunctionData)) (b c d : List MarkedToken) (r : Refusal) → left ≡ 0 → Conjoined field room left u ps b c → c ≡ fixed signs.Or p ∷ d → r ≡ no_room_of (next_is begins_unit d) → Refuses (behind_conjunction field u) room b r d
conjunctions_no_room field room left u p ps b c d r z so is e =
    let st = takes_conjunction disjoins (last_conjunction u ps) in
    let N : ℕ → Type 0 = λ n. Refuses (nested (conjunctions_form field)) n d r d in
    let R : Refusal → Type 0 = λ x. Refuses (nested (conjunctions_form field)) 0 d x d in
    passes_down (behind_conjunction field u) (row (or_links field) st) room left (λ qs. so.chained.taken ++ qs) b c d r so.chained.leads
    (refused_there (or_links field) (rowed_or field) st p left c d d r (not_disjoined (conjunction_takes (last_conjunction u ps)) p c d is so.quiet) is (subst N (sym z) (subst R (sym e) (conjunctions_no_room_here field d))))
