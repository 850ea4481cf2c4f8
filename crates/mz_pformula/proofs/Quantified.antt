-- The readings of formulas behind `for` and `ex`.
use Rattle.std.specs.declared.alloc.Global.{Global}
use Rattle.std.proofs.Common.{◌≡◌, ℕ, ◌<◌, ◌-◌, Bool, true, false, ◌||◌, ◌&&◌, List, [], ◌∷◌, map, suc, refl, sym, ap, subst, ◌∙◌, arith, append_assoc, Result, Box}
use Rattle.mz_base.specs.declared.place.Place.{Place}
use Rattle.mz_base.specs.declared.token.MarkedToken.{MarkedToken}
use Rattle.mz_forms.specs.declared.refusal.Refusal.{Refusal}
use Rattle.mz_forms.specs.Form.{Agrees, Found, Fails, Leads, is_empty, nested}
use Rattle.mz_forms.specs.Reading.{Refuses, Builds}
use Rattle.mz_forms.proofs.Compose.{Apart, head_of}
use Rattle.mz_forms.proofs.Choose.{Reshapes, fails_here}
use Rattle.mz_forms.proofs.Descend.{Descends, descends_by, descends_into, descends_on, passes_down, gives_down}
use Rattle.mz_forms.proofs.Leads.{leads_as, leads_behind, leads_on, beside, passes, first_refuses}
use Rattle.mz_forms.proofs.Lists.{either}
use Rattle.mz_tree.specs.declared.nodes.QuantifiedNode.{QuantifiedNode}
use Rattle.mz_tree.specs.Trees.{DeclarationsData, FormulaData, QuantifiedData, ForQuantified, ForSuchQuantified, ForFurtherQuantified, ForSuchFurtherQuantified, ExistsQuantified}
use Rattle.mz_tree.specs.Spell.{spell_declared, spell_next_declared_list, spell_quantified}
use Rattle.mz_tree.specs.Levels.{levels_declared, levels_next_declared_list, levels_quantified}
use Rattle.mz_tree.specs.Rules.{Operator, takes_quantified, IsQuantified}
use Rattle.mz_pterm.specs.declared.sign.Sign.{Sign}
use Rattle.mz_pterm.specs.declared.sign.Sign.TheVariants as signs
use Rattle.mz_pterm.specs.Sign.{sign_of}
use Rattle.mz_pterm.specs.Words.{fixed, word}
use Rattle.mz_pterm.proofs.Signs.{sign_of-fixed}
use Rattle.mz_pterm.proofs.Steps.{behind_opening, opening_refuses}
use Rattle.mz_ptype.specs.Forms.{declarations_form, goes_on_declared}
use Rattle.mz_ptype.proofs.Optional.{never}
use Rattle.mz_ptype.proofs.AdjectiveSteps.{nowhere}
use Rattle.mz_patom.specs.Classes.{goes_open}
use Rattle.mz_pformula.specs.Classes.{begins_quantified, NotTaken}
use Rattle.mz_pformula.specs.Quantified.{holds_scope, further_scope, Universal, plain_universal, such_universal, spell_universal, levels_universal, universal_takes, universal_form, quantified_form, behind_for, for_form, universal_from, such_formula, behind_ex, ex_form, exists_from, make_exists, quantified_in, quantified_takes, ReadsQuantified, ReadsUniversal, ReadsExists}
use Rattle.mz_pformula.proofs.Openings.{quantified_sign, quantified_filled}
use Rattle.mz_pformula.proofs.Operators.{goes_weaker, both_ways}
use Rattle.mz_pformula.proofs.Quantifiers.{some_formula, some_declarations, universal_filled}

abbrev pub make_for : (Place × (DeclarationsData × Universal)) → QuantifiedData
make_for k = universal_from k.0 k.1.0 k.1.1

abbrev pub make_ex : (Place × (DeclarationsData × (Place × FormulaData))) → QuantifiedData
make_ex k = make_exists k.0 k.1.0 k.1.1

-- `for`
for_is : (field : Bool) (k : (for_form field).Tree) → (for_form field).IsTree k → IsQuantified field (make_for k)
for_is field (p, (d, plain_universal (holds_scope q f))) is = (is.1.0.0, is.1.0.1, is.1.1)
for_is field (p, (d, plain_universal (further_scope q))) is = (is.1.0.0, is.1.0.1, is.1.1)
for_is field (p, (d, such_universal r g (holds_scope q f))) is = (is.1.0.0, is.1.0.1, is.1.1.0, is.1.1.1)
for_is field (p, (d, such_universal r g (further_scope q))) is = (is.1.0.0, is.1.0.1, is.1.1.0, is.1.1.1)

pub for_spells : (field : Bool) (k : (for_form field).Tree) → spell_quantified (make_for k) ≡ (for_form field).spell k
for_spells field (p, (d, plain_universal (holds_scope q f))) = ap (λ z. fixed signs.For p ∷ z) (sym (append_assoc (spell_declared d.first) (spell_next_declared_list d.more) (spell_universal (plain_universal (holds_scope q f)))))
for_spells field (p, (d, plain_universal (further_scope q))) = ap (λ z. fixed signs.For p ∷ z) (sym (append_assoc (spell_declared d.first) (spell_next_declared_list d.more) (spell_universal (plain_universal (further_scope q)))))
for_spells field (p, (d, such_universal r g (holds_scope q f))) = ap (λ z. fixed signs.For p ∷ z) (sym (append_assoc (spell_declared d.first) (spell_next_declared_list d.more) (spell_universal (such_universal r g (holds_scope q f)))))
for_spells field (p, (d, such_universal r g (further_scope q))) = ap (λ z. fixed signs.For p ∷ z) (sym (append_assoc (spell_declared d.first) (spell_next_declared_list d.more) (spell_universal (such_universal r g (further_scope q)))))

for_levels : (field : Bool) (k : (for_form field).Tree) → levels_quantified (make_for k) ≡ (for_form field).levels k
for_levels field (p, (d, plain_universal (holds_scope q f))) = ap (λ z. 1 ∷ map suc z) (sym (append_assoc (levels_declared d.first) (levels_next_declared_list d.more) (levels_universal (plain_universal (holds_scope q f)))))
for_levels field (p, (d, plain_universal (further_scope q))) = ap (λ z. 1 ∷ map suc z) (sym (append_assoc (levels_declared d.first) (levels_next_declared_list d.more) (levels_universal (plain_universal (further_scope q)))))
for_levels field (p, (d, such_universal r g (holds_scope q f))) = ap (λ z. 1 ∷ map suc z) (sym (append_assoc (levels_declared d.first) (levels_next_declared_list d.more) (levels_universal (such_universal r g (holds_scope q f)))))
for_levels field (p, (d, such_universal r g (further_scope q))) = ap (λ z. 1 ∷ map suc z) (sym (append_assoc (levels_declared d.first) (levels_next_declared_list d.more) (levels_universal (such_universal r g (further_scope q)))))

for_takes : (p : Place) (d : DeclarationsData) (u : Universal) (o : Operator) → universal_takes u o ≡ takes_quantified o (universal_from p d u)
for_takes p d (plain_universal (holds_scope q f)) o = refl
for_takes p d (plain_universal (further_scope q)) o = refl
for_takes p d (such_universal r g (holds_scope q f)) o = refl
for_takes p d (such_universal r g (further_scope q)) o = refl

filled_first : (a b : Bool) (w : List MarkedToken) → (w ≡ [] → ⊥) → (a || (is_empty w && b)) ≡ true → a ≡ true
filled_first a b [] h g = absurd (h refl)
filled_first a b (s ∷ w) h g = either a false false (λ f. absurd (never f)) g

pub for_goes : (field : Bool) (k : (for_form field).Tree) (t : MarkedToken) → (for_form field).goes k t ≡ true → goes_open (quantified_takes (make_for k)) (sign_of t) ≡ true
for_goes field (p, (d, u)) t g =
    let last = either ((behind_for field).goes (d, u) t) false (is_empty ((behind_for field).spell (d, u))) (λ f. absurd (never f)) g in
    goes_weaker (universal_takes u) (quantified_takes (universal_from p d u)) (λ o h. sym (for_takes p d u o) ∙ h) (sign_of t) (filled_first (goes_open (universal_takes u) (sign_of t)) (goes_on_declared (sign_of t)) (spell_universal u) (universal_filled u) last)

pub only_for : (field : Bool) (t : MarkedToken) (rest : List MarkedToken) → (sign_of t ≡ signs.Ex → ⊥) → (x : QuantifiedData) → IsQuantified field x → Agrees (t ∷ rest) (spell_quantified x) → (k : (for_form field).Tree) × (for_form field).IsTree k × (x ≡ make_for k)
only_for field t rest n (ForQuantified p d ds q f) is agrees = ((p, (record { first = d; more = ds }, plain_universal (holds_scope q f))), (tt, ((is.0, is.1), is.2)), refl)
only_for field t rest n (ForSuchQuantified p d ds r g q f) is agrees = ((p, (record { first = d; more = ds }, such_universal r g (holds_scope q f))), (tt, ((is.0, is.1), (is.2, is.3))), refl)
only_for field t rest n (ForFurtherQuantified p d ds q) is agrees = ((p, (record { first = d; more = ds }, plain_universal (further_scope q))), (tt, ((is.0, is.1), is.2)), refl)
only_for field t rest n (ForSuchFurtherQuantified p d ds r g q) is agrees = ((p, (record { first = d; more = ds }, such_universal r g (further_scope q))), (tt, ((is.0, is.1), (is.2, is.3))), refl)
only_for field t rest n (ExistsQuantified p d ds q f) is agrees = absurd (n (sym (ap sign_of agrees) ∙ sign_of-fixed signs.Ex p refl))

pub as_for : (field : Bool) (t : MarkedToken) (rest : List MarkedToken) → (sign_of t ≡ signs.Ex → ⊥) → Reshapes (quantified_form field) (for_form field) make_for (t ∷ rest)
as_for field t rest n = record {
  into = λ k is. for_is field k is;
  spells = λ k is. for_spells field k;
  only = λ x is agrees. only_for field t rest n x is agrees;
  goes = λ k s is g. for_goes field k s g;
  level = λ k is. for_levels field k;
}

-- `ex`
ex_is : (field : Bool) (k : (ex_form field).Tree) → (ex_form field).IsTree k → IsQuantified field (make_ex k)
ex_is field k is = (is.1.0.0, is.1.0.1, is.1.1.1)

pub ex_spells : (field : Bool) (k : (ex_form field).Tree) → spell_quantified (make_ex k) ≡ (ex_form field).spell k
ex_spells field k = ap (λ z. fixed signs.Ex k.0 ∷ z) (sym (append_assoc (spell_declared k.1.0.first) (spell_next_declared_list k.1.0.more) ((such_formula field).spell k.1.1)))

ex_levels : (field : Bool) (k : (ex_form field).Tree) → levels_quantified (make_ex k) ≡ (ex_form field).levels k
ex_levels field k = ap (λ z. 1 ∷ map suc z) (sym (append_assoc (levels_declared k.1.0.first) (levels_next_declared_list k.1.0.more) ((such_formula field).levels k.1.1)))

pub ex_goes : (field : Bool) (k : (ex_form field).Tree) (t : MarkedToken) → (ex_form field).goes k t ≡ true → goes_open (quantified_takes (make_ex k)) (sign_of t) ≡ true
ex_goes field (p, (d, (q, f))) t g =
    let last = either ((behind_ex field).goes (d, (q, f)) t) false (is_empty ((behind_ex field).spell (d, (q, f)))) (λ h. absurd (never h)) g in
    let such = filled_first ((such_formula field).goes (q, f) t) (goes_on_declared (sign_of t)) ((such_formula field).spell (q, f)) (λ e. filled e) last in
    either (goes_open (λ o. takes_quantified o (exists_from p d q f)) (sign_of t)) false _ (λ h. absurd (never h)) such
  where
    filled : (such_formula field).spell (q, f) ≡ [] → ⊥
    filled e = cc

pub only_ex : (field : Bool) (t : MarkedToken) (rest : List MarkedToken) → sign_of t ≡ signs.Ex → (x : QuantifiedData) → IsQuantified field x → Agrees (t ∷ rest) (spell_quantified x) → (k : (ex_form field).Tree) × (ex_form field).IsTree k × (x ≡ make_ex k)
only_ex field t rest h (ExistsQuantified p d ds q f) is agrees = ((p, (record { first = d; more = ds }, (q, f))), (tt, ((is.0, is.1), (tt, is.2))), refl)
only_ex field t rest h (ForQuantified p d ds q f) is agrees = absurd (clash (sym (sign_of-fixed signs.For p refl) ∙ (ap sign_of agrees ∙ h)))
  where
    clash : signs.For ≡ signs.Ex → ⊥
    clash e = cc
only_ex field t rest h (ForSuchQuantified p d ds r g q f) is agrees = absurd (clash (sym (sign_of-fixed signs.For p refl) ∙ (ap sign_of agrees ∙ h)))
  where
    clash : signs.For ≡ signs.Ex → ⊥
    clash e = cc
only_ex field t rest h (ForFurtherQuantified p d ds q) is agrees = absurd (clash (sym (sign_of-fixed signs.For p refl) ∙ (ap sign_of agrees ∙ h)))
  where
    clash : signs.For ≡ signs.Ex → ⊥
    clash e = cc
only_ex field t rest h (ForSuchFurtherQuantified p d ds r g q) is agrees = absurd (clash (sym (sign_of-fixed signs.For p refl) ∙ (ap sign_of agrees ∙ h)))
  where
    clash : signs.For ≡ signs.Ex → ⊥
    clash e = cc

pub as_ex : (field : Bool) (t : MarkedToken) (rest : List MarkedToken) → sign_of t ≡ signs.Ex → Reshapes (quantified_form field) (ex_form field) make_ex (t ∷ rest)
as_ex field t rest h = record {
  into = λ k is. ex_is field k is;
  spells = λ k is. ex_spells field k;
  only = λ x is agrees. only_ex field t rest h x is agrees;
  goes = λ k s is g. ex_goes field k s g;
  level = λ k is. ex_levels field k;
}

-- Nothing that goes on declarations begins what stands behind them.
scope_off : (s : Sign) → begins_quantified s ≡ true → goes_on_declared s ≡ false
scope_off signs.For g = refl
scope_off signs.Ex g = refl
scope_off _ g = cc

at_word : (s : Sign) (m t : MarkedToken) → m ≡ t → sign_of m ≡ s → goes_on_declared s ≡ false → goes_on_declared (sign_of t) ≡ false
at_word s m t e h off = ap goes_on_declared (sym (ap sign_of e) ∙ h) ∙ off

universal_off : (u : Universal) (t : MarkedToken) (m : List MarkedToken) → spell_universal u ≡ t ∷ m → goes_on_declared (sign_of t) ≡ false
universal_off (plain_universal (holds_scope p f)) t m e = at_word signs.Holds _ t (head_of _ _ _ _ e) (sign_of-fixed signs.Holds p refl) refl
universal_off (plain_universal (further_scope q)) t m e = scope_off (sign_of t) (quantified_sign q t m e)
universal_off (such_universal p f s) t m e = at_word signs.St _ t (head_of _ _ _ _ e) (sign_of-fixed signs.St p refl) refl

pub universal_apart : (field : Bool) → Apart (declarations_form field) (λ _. universal_form field)
universal_apart field d u s x isa isk e g = both_ways (goes_on_declared (sign_of s)) (universal_off u s x e) g

pub such_apart : (field : Bool) → Apart (declarations_form field) (λ _. such_formula field)
such_apart field d k s x isa isk e g = both_ways (goes_on_declared (sign_of s)) (at_word signs.St _ s (head_of _ _ _ _ e) (sign_of-fixed signs.St k.0 refl) refl) g

-- The exits of the reading.
begin_for : (field : Bool) (room : ℕ) (t : MarkedToken) (b rest : List MarkedToken) → (sign_of t ≡ signs.Ex → ⊥) → b ≡ t ∷ rest → Leads (quantified_form field) (for_form field) room make_for b b
begin_for field room t b rest n e = let R : List MarkedToken → Type 0 = λ z. Reshapes (quantified_form field) (for_form field) make_for z in leads_as (quantified_form field) (for_form field) make_for room b (subst R (sym e) (as_for field t rest n))

begin_ex : (field : Bool) (room : ℕ) (t : MarkedToken) (b rest : List MarkedToken) → sign_of t ≡ signs.Ex → b ≡ t ∷ rest → Leads (quantified_form field) (ex_form field) room make_ex b b
begin_ex field room t b rest h e = let R : List MarkedToken → Type 0 = λ z. Reshapes (quantified_form field) (ex_form field) make_ex z in leads_as (quantified_form field) (ex_form field) make_ex room b (subst R (sym e) (as_ex field t rest h))

pub no_quantified : (field : Bool) (room : ℕ) (b : List MarkedToken) → b ≡ [] → Fails (quantified_form field) room b b
no_quantified field room b e = fails_here (quantified_form field) room (exists_from nowhere some_declarations nowhere some_formula) b (tt, tt, ((tt, tt), tt)) (λ x is agrees. let A : List MarkedToken → Type 0 = λ z. Agrees z (spell_quantified x) in none x (spell_quantified x) refl (subst A e agrees))
  where
    none : (x : QuantifiedData) (w : List MarkedToken) → spell_quantified x ≡ w → Agrees [] (spell_quantified x) → ⊥
    none x [] f agrees = quantified_filled x f
    none x (s ∷ w) f agrees = let A : List MarkedToken → Type 0 = λ z. Agrees [] z in subst A f agrees

pub for_refuses : (field : Bool) (room : ℕ) (t : MarkedToken) (b rest after : List MarkedToken) (e : Refusal) → (sign_of t ≡ signs.Ex → ⊥) → b ≡ t ∷ rest → Refuses (nested (word signs.For)) room b e after → Refuses (quantified_form field) room b e after
for_refuses field room t b rest after e n is h = passes (quantified_form field) (for_form field) room make_for b b after e (begin_for field room t b rest n is)
    (opening_refuses signs.For (λ _. nested (behind_for field)) (λ p. ((some_declarations, plain_universal (holds_scope nowhere some_formula)), ((tt, tt), ((tt, tt), tt)))) room b after e h)

pub ex_refuses : (field : Bool) (room : ℕ) (t : MarkedToken) (b rest after : List MarkedToken) (e : Refusal) → sign_of t ≡ signs.Ex → b ≡ t ∷ rest → Refuses (nested (word signs.Ex)) room b e after → Refuses (quantified_form field) room b e after
ex_refuses field room t b rest after e n is h = passes (quantified_form field) (ex_form field) room make_ex b b after e (begin_ex field room t b rest n is)
    (opening_refuses signs.Ex (λ _. nested (behind_ex field)) (λ p. ((some_declarations, (nowhere, some_formula)), ((tt, tt), (tt, ((tt, tt), tt))))) room b after e h)

module _ (field : Bool) (room : ℕ) (more : 0 < room) (t : MarkedToken) (b rest : List MarkedToken) (is : b ≡ t ∷ rest) (p : Place) (c : List MarkedToken) where
  module _ (n : sign_of t ≡ signs.Ex → ⊥) (opened : Found (nested (word signs.For)) room b p c) where
    behind_for_word : Descends (quantified_form field) (behind_for field) room (room - 1) (λ k. universal_from p k.0 k.1) b c
    behind_for_word = descends_on (quantified_form field) (nested (behind_for field)) (behind_for field) room room (room - 1) (λ k. universal_from p k.0 k.1) (λ k. k) b c c
        (descends_by (quantified_form field) (nested (behind_for field)) room (λ k. universal_from p k.0 k.1) b c
        (leads_on (quantified_form field) (for_form field) (nested (behind_for field)) room make_for (beside (nested (word signs.For)) (λ _. nested (behind_for field)) p) b b c (begin_for field room t b rest n is) (behind_opening signs.For (λ _. nested (behind_for field)) room b c p opened)))
        (descends_into (behind_for field) room (room - 1) (omega (arith, more)) c)

    pub for_declarations_refuse : (after : List MarkedToken) (e : Refusal) → Refuses (declarations_form field) (room - 1) c e after → Refuses (quantified_form field) room b e after
    for_declarations_refuse after e h = passes_down (quantified_form field) (behind_for field) room (room - 1) (λ k. universal_from p k.0 k.1) b c after e behind_for_word
        (first_refuses (declarations_form field) (λ _. universal_form field) (universal_apart field) (room - 1) c after e (λ d is. (plain_universal (holds_scope nowhere some_formula), ((tt, tt), tt))) h)

    pub universal_given : (d : DeclarationsData) (f after : List MarkedToken) (r : Result (Box QuantifiedNode Global) Refusal) → Found (declarations_form field) (room - 1) c d f → ReadsUniversal field (room - 1) p d f r after → ReadsQuantified field room b r after
    universal_given d f after r h given =
        let leads = descends_on (quantified_form field) (behind_for field) (universal_form field) room (room - 1) (room - 1) (λ k. universal_from p k.0 k.1) (beside (declarations_form field) (λ _. universal_form field) d) b c f behind_for_word
        (descends_by (behind_for field) (universal_form field) (room - 1) (beside (declarations_form field) (λ _. universal_form field) d) c f (leads_behind (declarations_form field) (λ _. universal_form field) (universal_apart field) (room - 1) c f d h)) in
        gives_down (quantified_form field) (universal_form field) room (room - 1) (λ x. Found (quantified_form field) room b (quantified_in x) after × NotTaken (quantified_takes (quantified_in x)) after)
        (λ x. Builds (universal_form field) (room - 1) (universal_from p d) (quantified_in x) f after × NotTaken (quantified_takes (quantified_in x)) after) (universal_from p d) b f after r
        (λ x k. let F : QuantifiedData → Type 0 = λ z. Found (quantified_form field) room b z after in (subst F (sym k.0.2) (leads.finds k.0.0 after k.0.1), k.1))
        leads given

  module _ (n : sign_of t ≡ signs.Ex) (opened : Found (nested (word signs.Ex)) room b p c) where
    behind_ex_word : Descends (quantified_form field) (behind_ex field) room (room - 1) (λ k. make_exists p k.0 k.1) b c
    behind_ex_word = descends_on (quantified_form field) (nested (behind_ex field)) (behind_ex field) room room (room - 1) (λ k. make_exists p k.0 k.1) (λ k. k) b c c
        (descends_by (quantified_form field) (nested (behind_ex field)) room (λ k. make_exists p k.0 k.1) b c
        (leads_on (quantified_form field) (ex_form field) (nested (behind_ex field)) room make_ex (beside (nested (word signs.Ex)) (λ _. nested (behind_ex field)) p) b b c (begin_ex field room t b rest n is) (behind_opening signs.Ex (λ _. nested (behind_ex field)) room b c p opened)))
        (descends_into (behind_ex field) room (room - 1) (omega (arith, more)) c)

    pub ex_declarations_refuse : (after : List MarkedToken) (e : Refusal) → Refuses (declarations_form field) (room - 1) c e after → Refuses (quantified_form field) room b e after
    ex_declarations_refuse after e h = passes_down (quantified_form field) (behind_ex field) room (room - 1) (λ k. make_exists p k.0 k.1) b c after e behind_ex_word
        (first_refuses (declarations_form field) (λ _. such_formula field) (such_apart field) (room - 1) c after e (λ d is. ((nowhere, some_formula), (tt, ((tt, tt), tt)))) h)

    pub exists_given : (d : DeclarationsData) (f after : List MarkedToken) (r : Result (Box QuantifiedNode Global) Refusal) → Found (declarations_form field) (room - 1) c d f → ReadsExists field (room - 1) p d f r after → ReadsQuantified field room b r after
    exists_given d f after r h given =
        let leads = descends_on (quantified_form field) (behind_ex field) (such_formula field) room (room - 1) (room - 1) (λ k. make_exists p k.0 k.1) (beside (declarations_form field) (λ _. such_formula field) d) b c f behind_ex_word
        (descends_by (behind_ex field) (such_formula field) (room - 1) (beside (declarations_form field) (λ _. such_formula field) d) c f (leads_behind (declarations_form field) (λ _. such_formula field) (such_apart field) (room - 1) c f d h)) in
        gives_down (quantified_form field) (such_formula field) room (room - 1) (λ x. Found (quantified_form field) room b (quantified_in x) after × NotTaken (quantified_takes (quantified_in x)) after)
        (λ x. Builds (such_formula field) (room - 1) (make_exists p d) (quantified_in x) f after × NotTaken (quantified_takes (quantified_in x)) after) (make_exists p d) b f after r
        (λ x k. let F : QuantifiedData → Type 0 = λ z. Found (quantified_form field) room b z after in (subst F (sym k.0.2) (leads.finds k.0.0 after k.0.1), k.1))
        leads given
