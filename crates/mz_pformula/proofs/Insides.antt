-- What stands in parentheses: a formula that begins with a unit, or terms.
use Rattle.std.proofs.Common.{◌≡◌, ℕ, Bool, true, false, ◌||◌, ◌&&◌, List, [], ◌∷◌, ◌++◌, refl, sym, ap, subst, ◌∙◌, append_assoc}
use Rattle.mz_base.specs.declared.place.Place.{Place}
use Rattle.mz_base.specs.declared.token.MarkedToken.{MarkedToken}
use Rattle.mz_forms.specs.declared.refusal.Refusal.{Refusal}
use Rattle.mz_forms.specs.Form.{Found, Leads, is_empty}
use Rattle.mz_forms.specs.Reading.{Refuses, Builds}
use Rattle.mz_forms.specs.Chain.{spell_chain, levels_chain}
use Rattle.mz_forms.proofs.Compose.{Apart, head_of, append_nil}
use Rattle.mz_forms.proofs.Leads.{leads_as, leads_behind, leads_on, beside, passes, first_refuses}
use Rattle.mz_forms.proofs.Words.{found_nothing}
use Rattle.mz_tree.specs.Trees.{TermsData, UnitData, ConjunctionData, DisjunctionData, FormulaData}
use Rattle.mz_tree.specs.Spell.{spell_terms, spell_unit}
use Rattle.mz_tree.specs.Levels.{levels_terms, levels_unit}
use Rattle.mz_tree.specs.Rules.{Operator, conjoins, disjoins, concludes, takes_disjunction, IsFormula}
use Rattle.mz_pterm.specs.declared.sign.Sign.{Sign}
use Rattle.mz_pterm.specs.declared.sign.Sign.TheVariants as signs
use Rattle.mz_pterm.specs.Sign.{sign_of}
use Rattle.mz_pterm.proofs.Signs.{sign_of-fixed}
use Rattle.mz_patom.specs.Classes.{goes_on_atom, goes_open}
use Rattle.mz_patom.specs.Forms.{Opening, unit_opening, terms_opening, goes_unit, goes_opening, opening_form, unit_form}
use Rattle.mz_pformula.specs.Classes.{is_and, is_or, concludes_sign}
use Rattle.mz_pformula.specs.Row.{last_goes}
use Rattle.mz_pformula.specs.Forms.{any_operator, unit_takes, conjunction_takes, disjunction_takes, and_links, or_links, conjunction_with, behind_unit, units_form, conjunctions_form, disjunction_with, behind_conjunction, Conclusion, no_conclusion, implies_conclusion, iff_conclusion, spell_conclusion, levels_conclusion, goes_conclusion, conclusion, formula_with, formula_form}
use Rattle.mz_pformula.specs.Inside.{Inside, formula_inside, terms_inside, spell_inside, levels_inside, IsInside, inside_form, behind_units, rest_form, rest_with, after_opening, begun_inside, inside_with}
use Rattle.mz_pformula.proofs.Operators.{both_ways, goes_weaker, and_goes, or_goes}
use Rattle.mz_pformula.proofs.Openings.{atom_goes}
use Rattle.mz_pformula.proofs.Conjunctions.{as_conjunction, only_conjunction, last_unit, last_unit_goes, takes_last}
use Rattle.mz_pformula.proofs.Disjunctions.{make_disjunction, as_disjunction, only_disjunction, last_conjunction, last_conjunction_goes}
use Rattle.mz_pformula.proofs.Disjunctions as disjunctions
use Rattle.mz_pformula.proofs.Conclusions.{formula_spells, formula_levels, formula_into, only_formula}

-- What goes on a part goes on a formula that takes every operator.
abbrev any : MarkedToken → Bool
any t = goes_open any_operator (sign_of t)

one_of_both : (a b c z : Bool) → (a ≡ true → z ≡ true) → (b ≡ true → z ≡ true) → (a || (c && b)) ≡ true → z ≡ true
one_of_both true b c z f g h = f refl
one_of_both false b true z f g h = g h
one_of_both false b false z f g h = cc

one_or : (a b z : Bool) → (a ≡ true → z ≡ true) → (b ≡ true → z ≡ true) → (a || b) ≡ true → z ≡ true
one_or true b z f g h = f refl
one_or false b z f g h = g h

open_any : (takes : Operator → Bool) (t : MarkedToken) → goes_open takes (sign_of t) ≡ true → any t ≡ true
open_any takes t g = goes_weaker takes any_operator (λ o h. refl) (sign_of t) g

concluding_any : (s : Sign) → concludes_sign s ≡ true → goes_open any_operator s ≡ true
concluding_any signs.Implies g = refl
concluding_any signs.Iff g = refl
concluding_any _ g = cc

units_any : (field : Bool) (u : UnitData) (us : List (Place × UnitData)) (t : MarkedToken) → (behind_unit field u).goes us t ≡ true → any t ≡ true
units_any field u us t g = one_or (is_and (sign_of t)) (last_goes (and_links field) us t) (any t) (and_goes any_operator refl (sign_of t)) (λ h. open_any (unit_takes (last_unit u us)) t (last_unit_goes field u us t h)) g

conjunctions_any : (field : Bool) (c : ConjunctionData) (cs : List (Place × ConjunctionData)) (t : MarkedToken) → (behind_conjunction field c).goes cs t ≡ true → any t ≡ true
conjunctions_any field c cs t g = one_or (is_or (sign_of t)) (last_goes (or_links field) cs t) (any t) (or_goes any_operator refl (sign_of t)) (λ h. open_any (conjunction_takes (last_conjunction c cs)) t (last_conjunction_goes field c cs t h)) g

conclusion_any : (k : Conclusion) (t : MarkedToken) → goes_conclusion k (sign_of t) ≡ true → any t ≡ true
conclusion_any no_conclusion t g = concluding_any (sign_of t) g
conclusion_any (implies_conclusion p d) t g = open_any (disjunction_takes d) t g
conclusion_any (iff_conclusion p d) t g = open_any (disjunction_takes d) t g

opening_any : (o : Opening) (t : MarkedToken) → goes_opening o (sign_of t) ≡ true → any t ≡ true
opening_any (unit_opening u) t g = open_any (unit_takes u) t g
opening_any (terms_opening ts) t g = atom_goes any_operator (sign_of t) g

-- No token both goes on a part and begins the next one.
at_sign : (s : Sign) (f : Operator → Bool) (o : Operator) (m t : MarkedToken) → m ≡ t → sign_of m ≡ s → goes_open f s ≡ f o → f o ≡ false → goes_open f (sign_of t) ≡ true → ⊥
at_sign s f o m t e h same off g = both_ways (f o) off (sym same ∙ (ap (goes_open f) (sym h ∙ ap sign_of e) ∙ g))

concluded_apart : (field : Bool) (f : Operator → Bool) (d : DisjunctionData) (k : Conclusion) (s : MarkedToken) (x : List MarkedToken) → takes_disjunction concludes d ≡ f concludes → (conclusion field d).IsTree k → spell_conclusion k ≡ s ∷ x → goes_open f (sign_of s) ≡ true → ⊥
concluded_apart field f d no_conclusion s x same is e g = cc
concluded_apart field f d (implies_conclusion p y) s x same is e g = at_sign signs.Implies f concludes _ s (head_of _ _ _ _ e) (sign_of-fixed signs.Implies p refl) refl (sym same ∙ is.0) g
concluded_apart field f d (iff_conclusion p y) s x same is e g = at_sign signs.Iff f concludes _ s (head_of _ _ _ _ e) (sign_of-fixed signs.Iff p refl) refl (sym same ∙ is.0) g

no_or : (s : MarkedToken) (k : Conclusion) (x : List MarkedToken) → spell_conclusion k ≡ s ∷ x → concludes_sign (sign_of s) ≡ true
no_or s no_conclusion x e = cc
no_or s (implies_conclusion p y) x e = ap concludes_sign (sym (ap sign_of (head_of _ _ _ _ e)) ∙ sign_of-fixed signs.Implies p refl)
no_or s (iff_conclusion p y) x e = ap concludes_sign (sym (ap sign_of (head_of _ _ _ _ e)) ∙ sign_of-fixed signs.Iff p refl)

or_concludes : (s : Sign) → is_or s ≡ true → concludes_sign s ≡ true → ⊥
or_concludes signs.Or g h = cc
or_concludes _ g h = cc

and_concludes : (s : Sign) → is_and s ≡ true → concludes_sign s ≡ true → ⊥
and_concludes signs.And g h = cc
and_concludes _ g h = cc

split_or : (a b : Bool) → (a || b) ≡ true → (a ≡ true → ⊥) → b ≡ true
split_or true b g h = absurd (h refl)
split_or false b g h = g

pub rest_apart : (field : Bool) (c : ConjunctionData) → Apart (behind_conjunction field c) (λ cs. conclusion field (disjunction_with c cs))
rest_apart field c cs k s x isa isk e g =
    let last = split_or (is_or (sign_of s)) (last_goes (or_links field) cs s) g (λ h. or_concludes (sign_of s) h (no_or s k x e)) in
    concluded_apart field (conjunction_takes (last_conjunction c cs)) (disjunction_with c cs) k s x (disjunctions.takes_last concludes c cs) isk e (last_conjunction_goes field c cs s last)

pub units_apart : (field : Bool) (u : UnitData) → Apart (behind_unit field u) (behind_units field u)
units_apart field u us ([], k) s x isa isk e g =
    let last = split_or (is_and (sign_of s)) (last_goes (and_links field) us s) g (λ h. and_concludes (sign_of s) h (no_or s k x e)) in
    concluded_apart field (unit_takes (last_unit u us)) (disjunction_with (conjunction_with u us) []) k s x (takes_last concludes u us) isk.1 e (last_unit_goes field u us s last)
units_apart field u us (p ∷ ps, k) s x isa isk e g =
    let here : sign_of s ≡ signs.Or = sym (ap sign_of (head_of _ _ _ _ e)) ∙ sign_of-fixed signs.Or p.0 refl in
    let last = split_or (is_and (sign_of s)) (last_goes (and_links field) us s) g (λ h. clash (sym (ap is_and here) ∙ h)) in
    at_sign signs.Or (unit_takes (last_unit u us)) disjoins _ s (head_of _ _ _ _ e) (sign_of-fixed signs.Or p.0 refl) refl (sym (takes_last disjoins u us) ∙ isk.0.0) (last_unit_goes field u us s last)
  where
    clash : false ≡ true → ⊥
    clash h = cc

pub opening_apart : (field : Bool) → Apart (opening_form field) (after_opening field)
opening_apart field (terms_opening ts) k s x isa isk e g = cc
opening_apart field (unit_opening u) (p ∷ ps, k) s x isa isk e g = at_sign signs.And (unit_takes u) conjoins _ s (head_of _ _ _ _ e) (sign_of-fixed signs.And p.0 refl) refl isk.0.0 g
opening_apart field (unit_opening u) ([], (p ∷ ps, k)) s x isa isk e g = at_sign signs.Or (unit_takes u) disjoins _ s (head_of _ _ _ _ e) (sign_of-fixed signs.Or p.0 refl) refl isk.1.0.0 g
opening_apart field (unit_opening u) ([], ([], k)) s x isa isk e g = concluded_apart field (unit_takes u) (disjunction_with (conjunction_with u []) []) k s x refl isk.1.1 e g

-- A formula is its first unit and what goes on with it.
rest_into : (field : Bool) (u : UnitData) (k : (rest_form field u).Tree) → (unit_form field).IsTree u → (rest_form field u).IsTree k → IsFormula field (rest_with field u k)
rest_into field u (us, (cs, k)) isu is = formula_into field (disjunction_with (conjunction_with u us) cs) k ((as_disjunction field []).into (conjunction_with u us, cs) ((as_conjunction field []).into (u, us) (isu, is.0), is.1.0)) is.1.1

append-chained : {X : Type 0} (u a b c : List X) → ((u ++ a) ++ b) ++ c ≡ u ++ (a ++ (b ++ c))
append-chained u a b c = append_assoc (u ++ a) b c ∙ append_assoc u a (b ++ c)

rest_spells : (field : Bool) (u : UnitData) (k : (rest_form field u).Tree) → (unit_form field).IsTree u → (rest_form field u).IsTree k → (formula_form field).spell (rest_with field u k) ≡ spell_unit u ++ (rest_form field u).spell k
rest_spells field u (us, (cs, k)) isu is =
    let conjunction : (units_form field).IsTree (u, us) = (isu, is.0) in
    let disjunction : (conjunctions_form field).IsTree (conjunction_with u us, cs) = ((as_conjunction field []).into (u, us) conjunction, is.1.0) in
    formula_spells (disjunction_with (conjunction_with u us) cs) k ∙
    (ap (λ z. z ++ spell_conclusion k) ((as_disjunction field []).spells (conjunction_with u us, cs) disjunction) ∙
    (ap (λ z. (z ++ spell_chain (or_links field) cs) ++ spell_conclusion k) ((as_conjunction field []).spells (u, us) conjunction) ∙
    append-chained (spell_unit u) (spell_chain (and_links field) us) (spell_chain (or_links field) cs) (spell_conclusion k)))

rest_levels : (field : Bool) (u : UnitData) (k : (rest_form field u).Tree) → (unit_form field).IsTree u → (rest_form field u).IsTree k → (formula_form field).levels (rest_with field u k) ≡ levels_unit u ++ (rest_form field u).levels k
rest_levels field u (us, (cs, k)) isu is =
    let conjunction : (units_form field).IsTree (u, us) = (isu, is.0) in
    let disjunction : (conjunctions_form field).IsTree (conjunction_with u us, cs) = ((as_conjunction field []).into (u, us) conjunction, is.1.0) in
    formula_levels (disjunction_with (conjunction_with u us) cs) k ∙
    (ap (λ z. z ++ levels_conclusion k) ((as_disjunction field []).level (conjunction_with u us, cs) disjunction) ∙
    (ap (λ z. (z ++ levels_chain (or_links field) cs) ++ levels_conclusion k) ((as_conjunction field []).level (u, us) conjunction) ∙
    append-chained (levels_unit u) (levels_chain (and_links field) us) (levels_chain (or_links field) cs) (levels_conclusion k)))

abbrev pub make_inside : (field : Bool) → (begun_inside field).Tree → Inside
make_inside field k = inside_with field k.0 k.1

pub inside_into : (field : Bool) (k : (begun_inside field).Tree) → (begun_inside field).IsTree k → IsInside field (make_inside field k)
inside_into field (unit_opening u, k) is = rest_into field u k is.0 is.1
inside_into field (terms_opening ts, k) is = is.0

pub inside_spells : (field : Bool) (k : (begun_inside field).Tree) → (begun_inside field).IsTree k → spell_inside (make_inside field k) ≡ (begun_inside field).spell k
inside_spells field (unit_opening u, k) is = rest_spells field u k is.0 is.1
inside_spells field (terms_opening ts, k) is = sym (append_nil (spell_terms ts))

inside_levels : (field : Bool) (k : (begun_inside field).Tree) → (begun_inside field).IsTree k → levels_inside (make_inside field k) ≡ (begun_inside field).levels k
inside_levels field (unit_opening u, k) is = rest_levels field u k is.0 is.1
inside_levels field (terms_opening ts, k) is = sym (append_nil (levels_terms ts))

pub inside_goes : (field : Bool) (k : (begun_inside field).Tree) (t : MarkedToken) → (begun_inside field).goes k t ≡ true → any t ≡ true
inside_goes field (terms_opening ts, k) t g = one_of_both false (goes_on_atom (sign_of t)) true (any t) (λ h. cc) (atom_goes any_operator (sign_of t)) g
inside_goes field (unit_opening u, (us, (cs, k))) t g =
    one_of_both ((rest_form field u).goes (us, (cs, k)) t) (goes_unit u (sign_of t)) (is_empty ((rest_form field u).spell (us, (cs, k)))) (any t)
    (one_of_both ((behind_units field u us).goes (cs, k) t) ((behind_unit field u).goes us t) (is_empty ((behind_units field u us).spell (cs, k))) (any t)
    (one_of_both (goes_conclusion k (sign_of t)) ((behind_conjunction field (conjunction_with u us)).goes cs t) (is_empty (spell_conclusion k)) (any t) (conclusion_any k t) (conjunctions_any field (conjunction_with u us) cs t))
    (units_any field u us t))
    (open_any (unit_takes u) t) g

pub only_inside : (field : Bool) (x : Inside) → IsInside field x → (k : (begun_inside field).Tree) × (begun_inside field).IsTree k × (x ≡ make_inside field k)
only_inside field (terms_inside ts) is = ((terms_opening ts, tt), (is, tt), refl)
only_inside field (formula_inside f) is =
    let a = only_formula field f is in
    let b = only_disjunction field a.0.0 a.1.0 in
    let c = only_conjunction field b.0.0 b.1.0 in
    let P : ConjunctionData → Type 0 = λ z. (behind_conjunction field z).IsTree b.0.1 in
    let Q : DisjunctionData → Type 0 = λ z. (conclusion field z).IsTree a.0.1 in
    let same : a.0.0 ≡ disjunction_with (conjunction_with c.0.0 c.0.1) b.0.1 = b.2 ∙ ap (λ z. disjunction_with z b.0.1) c.2 in (
      (unit_opening c.0.0, (c.0.1, (b.0.1, a.0.1))),
      (c.1.0, (c.1.1, (subst P c.2 b.1.1, subst Q same a.1.1))),
      ap (λ z. formula_inside z) (a.2 ∙ ap (λ z. formula_with z a.0.1) same),
    )

pub begin_inside : (field : Bool) (room : ℕ) (b : List MarkedToken) → Leads (inside_form field) (begun_inside field) room (make_inside field) b b
begin_inside field room b = leads_as (inside_form field) (begun_inside field) (make_inside field) room b (record {
  into = inside_into field;
  spells = inside_spells field;
  only = λ x is agrees. only_inside field x is;
  goes = λ k t is g. inside_goes field k t g;
  level = inside_levels field;
})

some_after : (field : Bool) (o : Opening) → (k : (after_opening field o).Tree) × (after_opening field o).IsTree k
some_after field (unit_opening u) = (([], ([], no_conclusion)), (tt, (tt, tt)))
some_after field (terms_opening ts) = (tt, tt)

-- The exits of the reading.
pub opening_refuses : (field : Bool) (room : ℕ) (b after : List MarkedToken) (e : Refusal) → Refuses (opening_form field) room b e after → Refuses (inside_form field) room b e after
opening_refuses field room b after e h = passes (inside_form field) (begun_inside field) room (make_inside field) b b after e (begin_inside field room b)
    (first_refuses (opening_form field) (after_opening field) (opening_apart field) room b after e (λ o is. some_after field o) h)

module _ (field : Bool) (room : ℕ) (b c : List MarkedToken) where
  behind_opening : (o : Opening) → Found (opening_form field) room b o c → Leads (inside_form field) (after_opening field o) room (inside_with field o) b c
  behind_opening o h = leads_on (inside_form field) (begun_inside field) (after_opening field o) room (make_inside field) (beside (opening_form field) (after_opening field) o) b b c (begin_inside field room b)
      (leads_behind (opening_form field) (after_opening field) (opening_apart field) room b c o h)

  pub terms_alone : (ts : TermsData) → Found (opening_form field) room b (terms_opening ts) c → Found (inside_form field) room b (terms_inside ts) c
  terms_alone ts h = (behind_opening (terms_opening ts) h).finds tt c (found_nothing room c)

  module _ (u : UnitData) (read : Found (opening_form field) room b (unit_opening u) c) where
    pub units_refuse : (after : List MarkedToken) (e : Refusal) → Refuses (behind_unit field u) room c e after → Refuses (inside_form field) room b e after
    units_refuse after e h = passes (inside_form field) (rest_form field u) room (inside_with field (unit_opening u)) b c after e (behind_opening (unit_opening u) read)
        (first_refuses (behind_unit field u) (behind_units field u) (units_apart field u) room c after e (λ us is. (([], no_conclusion), (tt, tt))) h)

    module _ (y : ConjunctionData) (d : List MarkedToken) (units : Builds (behind_unit field u) room (conjunction_with u) y c d) where
      behind_units_read : Leads (inside_form field) (behind_units field u units.0) room (λ k. inside_with field (unit_opening u) (units.0, k)) b d
      behind_units_read = leads_on (inside_form field) (rest_form field u) (behind_units field u units.0) room (inside_with field (unit_opening u)) (beside (behind_unit field u) (behind_units field u) units.0) b c d (behind_opening (unit_opening u) read)
          (leads_behind (behind_unit field u) (behind_units field u) (units_apart field u) room c d units.0 units.1)

      pub conjunctions_refuse : (after : List MarkedToken) (e : Refusal) → Refuses (behind_conjunction field y) room d e after → Refuses (inside_form field) room b e after
      conjunctions_refuse after e h =
          let R : ConjunctionData → Type 0 = λ z. Refuses (behind_conjunction field z) room d e after in
          let made = conjunction_with u units.0 in
          passes (inside_form field) (behind_units field u units.0) room (λ k. inside_with field (unit_opening u) (units.0, k)) b d after e behind_units_read
          (first_refuses (behind_conjunction field made) (λ cs. conclusion field (disjunction_with made cs)) (rest_apart field made) room d after e (λ cs is. (no_conclusion, tt)) (subst R units.2 h))

      module _ (z : DisjunctionData) (f : List MarkedToken) (more : Builds (behind_conjunction field y) room (disjunction_with y) z d f) where
        abbrev conjunctions_read : Builds (behind_conjunction field (conjunction_with u units.0)) room (disjunction_with (conjunction_with u units.0)) z d f
        conjunctions_read = let B : ConjunctionData → Type 0 = λ w. Builds (behind_conjunction field w) room (disjunction_with w) z d f in subst B units.2 more

        abbrev disjunction_read : DisjunctionData
        disjunction_read = disjunction_with (conjunction_with u units.0) conjunctions_read.0

        behind_all : Leads (inside_form field) (conclusion field disjunction_read) room (λ k. inside_with field (unit_opening u) (units.0, (conjunctions_read.0, k))) b f
        behind_all =
            let made = conjunction_with u units.0 in
            leads_on (inside_form field) (behind_units field u units.0) (conclusion field disjunction_read) room (λ k. inside_with field (unit_opening u) (units.0, k)) (beside (behind_conjunction field made) (λ cs. conclusion field (disjunction_with made cs)) conjunctions_read.0) b d f behind_units_read
            (leads_behind (behind_conjunction field made) (λ cs. conclusion field (disjunction_with made cs)) (rest_apart field made) room d f conjunctions_read.0 conjunctions_read.1)

        pub conclusion_refuses : (after : List MarkedToken) (e : Refusal) → Refuses (conclusion field z) room f e after → Refuses (inside_form field) room b e after
        conclusion_refuses after e h =
            let R : DisjunctionData → Type 0 = λ w. Refuses (conclusion field w) room f e after in
            passes (inside_form field) (conclusion field disjunction_read) room (λ k. inside_with field (unit_opening u) (units.0, (conjunctions_read.0, k))) b f after e behind_all (subst R conjunctions_read.2 h)

        pub formula_found : (w : FormulaData) (after : List MarkedToken) → Builds (conclusion field z) room (formula_with z) w f after → Found (inside_form field) room b (formula_inside w) after
        formula_found w after last =
            let B : DisjunctionData → Type 0 = λ v. Builds (conclusion field v) room (formula_with v) w f after in
            let k : B disjunction_read = subst B conjunctions_read.2 last in
            let F : FormulaData → Type 0 = λ v. Found (inside_form field) room b (formula_inside v) after in
            subst F (sym k.2) (behind_all.finds k.0 after k.1)
