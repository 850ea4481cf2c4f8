-- The readings of what stands behind a disjunction.
use Rattle.std.specs.declared.alloc.Global.{Global}
use Rattle.std.proofs.Common.{◌≡◌, ℕ, Bool, true, false, ◌||◌, ◌&&◌, List, [], ◌∷◌, ◌++◌, refl, sym, ap, subst, ◌∙◌, arith, None, Result, Ok, Err, Box}
use Rattle.mz_base.specs.declared.place.Place.{Place}
use Rattle.mz_base.specs.declared.token.MarkedToken.{MarkedToken}
use Rattle.mz_forms.specs.declared.refusal.Refusal.{Refusal}
use Rattle.mz_forms.specs.Form.{Agrees, Found, Leads, is_empty}
use Rattle.mz_forms.specs.Reading.{Refuses, Builds}
use Rattle.mz_forms.proofs.Compose.{Apart, head_of, append_nil}
use Rattle.mz_forms.proofs.Choose.{Chooses, Reshapes, finds_empty}
use Rattle.mz_forms.proofs.Leads.{leads_by, leads_as, leads_behind, leads_on, beside, passes, first_refuses, gives_through}
use Rattle.mz_forms.proofs.Lists.{either}
use Rattle.mz_tree.specs.declared.nodes.FormulaNode.{FormulaNode}
use Rattle.mz_tree.specs.Trees.{DisjunctionData, FormulaData, PlainFormula, ImpliesFormula, IffFormula}
use Rattle.mz_tree.specs.Spell.{spell_disjunction, spell_formula}
use Rattle.mz_tree.specs.Levels.{levels_disjunction, levels_formula}
use Rattle.mz_tree.specs.Rules.{Operator, conjoins, disjoins, concludes, takes_disjunction, IsDisjunction, IsFormula}
use Rattle.mz_tree.specs.Views.{formula_of}
use Rattle.mz_pterm.specs.declared.sign.Sign.{Sign}
use Rattle.mz_pterm.specs.declared.sign.Sign.TheVariants as signs
use Rattle.mz_pterm.specs.Sign.{sign_of}
use Rattle.mz_pterm.specs.Words.{fixed, TakesPlace}
use Rattle.mz_pterm.proofs.Signs.{sign_of-fixed, same_fixed}
use Rattle.mz_patom.specs.Classes.{goes_open}
use Rattle.mz_pformula.specs.Classes.{concludes_sign, NotTaken}
use Rattle.mz_pformula.specs.Forms.{disjunction_takes, goes_conclusion, formula_takes, disjunction_form, Conclusion, no_conclusion, implies_conclusion, iff_conclusion, spell_conclusion, levels_conclusion, IsConclusion, conclusion, formula_with, formula_form, concluded, formula_in, BoxesFormula, ReadsFormula, ReadsRestOfFormula}
use Rattle.mz_pformula.proofs.Operators.{both_ways, goes_weaker, not_implied, not_equivalent, quieter, plain_ended}

-- `implies` and `iff` stand behind what doesn't take them
pub conclusion_apart : (field : Bool) → Apart (disjunction_form field) (conclusion field)
conclusion_apart field d no_conclusion s x isd isk e g = cc
conclusion_apart field d (implies_conclusion p f) s x isd isk e g = both_ways (takes_disjunction concludes d) isk.0 (sym (ap (goes_open (disjunction_takes d)) (sym (ap sign_of (head_of _ _ _ _ e)) ∙ sign_of-fixed signs.Implies p refl)) ∙ g)
conclusion_apart field d (iff_conclusion p f) s x isd isk e g = both_ways (takes_disjunction concludes d) isk.0 (sym (ap (goes_open (disjunction_takes d)) (sym (ap sign_of (head_of _ _ _ _ e)) ∙ sign_of-fixed signs.Iff p refl)) ∙ g)

nothing_goes : (x : Conclusion) (t : MarkedToken) → spell_conclusion x ≡ [] → concludes_sign (sign_of t) ≡ true → goes_conclusion x (sign_of t) ≡ true
nothing_goes no_conclusion t e g = g
nothing_goes (implies_conclusion p f) t e g = cc
nothing_goes (iff_conclusion p f) t e g = cc

-- `implies`
only_implies : (field : Bool) (d : DisjunctionData) (p : Place) (x : Conclusion) (more : List MarkedToken) → IsConclusion field d x → spell_conclusion x ≡ fixed signs.Implies p ∷ more → (k : DisjunctionData) × IsDisjunction field k × (x ≡ implies_conclusion p k)
only_implies field d p no_conclusion more is e = cc
only_implies field d p (implies_conclusion q f) more is e = (f, is.1, ap (λ z. implies_conclusion z f) (same_fixed signs.Implies refl q p (head_of _ _ _ _ e)))
only_implies field d p (iff_conclusion q f) more is e = absurd (clash (sym (sign_of-fixed signs.Iff q refl) ∙ (ap sign_of (head_of _ _ _ _ e) ∙ sign_of-fixed signs.Implies p refl)))
  where
    clash : signs.Iff ≡ signs.Implies → ⊥
    clash h = cc

pub by_implies : (field : Bool) (d : DisjunctionData) (p : Place) → takes_disjunction concludes d ≡ false → Chooses (conclusion field d) (fixed signs.Implies p) (disjunction_form field) (implies_conclusion p) 0
by_implies field d p may = record {
  level = λ k is. refl;
  into = λ k is. (may, is);
  spells = λ k is. refl;
  only = λ x more is e. only_implies field d p x more is e;
  empty = λ x is e. nothing_goes x (fixed signs.Implies p) e (ap concludes_sign (sign_of-fixed signs.Implies p refl));
  goes = λ k t is g. g;
}

-- `iff`
only_iff : (field : Bool) (d : DisjunctionData) (p : Place) (x : Conclusion) (more : List MarkedToken) → IsConclusion field d x → spell_conclusion x ≡ fixed signs.Iff p ∷ more → (k : DisjunctionData) × IsDisjunction field k × (x ≡ iff_conclusion p k)
only_iff field d p no_conclusion more is e = cc
only_iff field d p (iff_conclusion q f) more is e = (f, is.1, ap (λ z. iff_conclusion z f) (same_fixed signs.Iff refl q p (head_of _ _ _ _ e)))
only_iff field d p (implies_conclusion q f) more is e = absurd (clash (sym (sign_of-fixed signs.Implies q refl) ∙ (ap sign_of (head_of _ _ _ _ e) ∙ sign_of-fixed signs.Iff p refl)))
  where
    clash : signs.Implies ≡ signs.Iff → ⊥
    clash h = cc

pub by_iff : (field : Bool) (d : DisjunctionData) (p : Place) → takes_disjunction concludes d ≡ false → Chooses (conclusion field d) (fixed signs.Iff p) (disjunction_form field) (iff_conclusion p) 0
by_iff field d p may = record {
  level = λ k is. refl;
  into = λ k is. (may, is);
  spells = λ k is. refl;
  only = λ x more is e. only_iff field d p x more is e;
  empty = λ x is e. nothing_goes x (fixed signs.Iff p) e (ap concludes_sign (sign_of-fixed signs.Iff p refl));
  goes = λ k t is g. g;
}

take_implies : (field : Bool) (d : DisjunctionData) (room : ℕ) (p : Place) (b rest : List MarkedToken) → NotTaken (disjunction_takes d) b → b ≡ fixed signs.Implies p ∷ rest → Leads (conclusion field d) (disjunction_form field) room (implies_conclusion p) b rest
take_implies field d room p b rest quiet e = leads_by (conclusion field d) (fixed signs.Implies p) (disjunction_form field) (implies_conclusion p) 0 (by_implies field d p (not_implied (disjunction_takes d) p b rest e quiet)) room (omega arith) b rest e

take_iff : (field : Bool) (d : DisjunctionData) (room : ℕ) (p : Place) (b rest : List MarkedToken) → NotTaken (disjunction_takes d) b → b ≡ fixed signs.Iff p ∷ rest → Leads (conclusion field d) (disjunction_form field) room (iff_conclusion p) b rest
take_iff field d room p b rest quiet e = leads_by (conclusion field d) (fixed signs.Iff p) (disjunction_form field) (iff_conclusion p) 0 (by_iff field d p (not_equivalent (disjunction_takes d) p b rest e quiet)) room (omega arith) b rest e

pub implied_refused : (field : Bool) (d : DisjunctionData) (room : ℕ) (p : Place) (b rest after : List MarkedToken) (e : Refusal) → NotTaken (disjunction_takes d) b → b ≡ fixed signs.Implies p ∷ rest → Refuses (disjunction_form field) room rest e after → Refuses (conclusion field d) room b e after
implied_refused field d room p b rest after e quiet is h = passes (conclusion field d) (disjunction_form field) room (implies_conclusion p) b rest after e (take_implies field d room p b rest quiet is) h

pub equivalent_refused : (field : Bool) (d : DisjunctionData) (room : ℕ) (p : Place) (b rest after : List MarkedToken) (e : Refusal) → NotTaken (disjunction_takes d) b → b ≡ fixed signs.Iff p ∷ rest → Refuses (disjunction_form field) room rest e after → Refuses (conclusion field d) room b e after
equivalent_refused field d room p b rest after e quiet is h = passes (conclusion field d) (disjunction_form field) room (iff_conclusion p) b rest after e (take_iff field d room p b rest quiet is) h

-- a formula in its box
pub boxed_formula : (field : Bool) (d : DisjunctionData) (room : ℕ) (k : Conclusion) (x : FormulaNode) (b after : List MarkedToken) (r : Result (Box FormulaNode Global) Refusal) → Found (conclusion field d) room b k after → formula_of x ≡ formula_with d k → NotTaken (formula_takes (formula_with d k)) after → BoxesFormula x r → ReadsRestOfFormula field room d b r after
boxed_formula field d room k x b after (Ok z) h e quiet g =
    let same : formula_of z.value ≡ formula_with d k = ap formula_of g ∙ e in
    let N : FormulaData → Type 0 = λ y. NotTaken (formula_takes y) after in
    ((k, h, same), subst N (sym same) quiet)
boxed_formula field d room k x b after (Err e) h f quiet g = let R : Refusal → Type 0 = λ z. Refuses (conclusion field d) room b z after in subst R (sym g) tt

implied_takes : (d e : DisjunctionData) (p : Place) (o : Operator) → formula_takes (ImpliesFormula d p e) o ≡ disjunction_takes e o
implied_takes d e p conjoins = refl
implied_takes d e p disjoins = refl
implied_takes d e p concludes = refl

equivalent_takes : (d e : DisjunctionData) (p : Place) (o : Operator) → formula_takes (IffFormula d p e) o ≡ disjunction_takes e o
equivalent_takes d e p conjoins = refl
equivalent_takes d e p disjoins = refl
equivalent_takes d e p concludes = refl

pub implied_found : (field : Bool) (d f : DisjunctionData) (room : ℕ) (p : Place) (x : FormulaNode) (b rest after : List MarkedToken) (r : Result (Box FormulaNode Global) Refusal) → NotTaken (disjunction_takes d) b → b ≡ fixed signs.Implies p ∷ rest → Found (disjunction_form field) room rest f after → NotTaken (disjunction_takes f) after →
    formula_of x ≡ ImpliesFormula d p f → BoxesFormula x r → ReadsRestOfFormula field room d b r after
implied_found field d f room p x b rest after r quiet is h behind e g =
    boxed_formula field d room (implies_conclusion p f) x b after r ((take_implies field d room p b rest quiet is).finds f after h) e (quieter (disjunction_takes f) (formula_takes (ImpliesFormula d p f)) (implied_takes d f p) after behind) g

pub equivalent_found : (field : Bool) (d f : DisjunctionData) (room : ℕ) (p : Place) (x : FormulaNode) (b rest after : List MarkedToken) (r : Result (Box FormulaNode Global) Refusal) → NotTaken (disjunction_takes d) b → b ≡ fixed signs.Iff p ∷ rest → Found (disjunction_form field) room rest f after → NotTaken (disjunction_takes f) after →
    formula_of x ≡ IffFormula d p f → BoxesFormula x r → ReadsRestOfFormula field room d b r after
equivalent_found field d f room p x b rest after r quiet is h behind e g =
    boxed_formula field d room (iff_conclusion p f) x b after r ((take_iff field d room p b rest quiet is).finds f after h) e (quieter (disjunction_takes f) (formula_takes (IffFormula d p f)) (equivalent_takes d f p) after behind) g

-- nothing stands behind the disjunction
first_of : (b v : List MarkedToken) (s : MarkedToken) → Agrees b (s ∷ v) → Agrees b (s ∷ [])
first_of [] v s h = h
first_of (t ∷ b) v s h = h

pub plain_found : (field : Bool) (d : DisjunctionData) (room : ℕ) (x : FormulaNode) (b c after : List MarkedToken) (r : Result (Box FormulaNode Global) Refusal) → NotTaken (disjunction_takes d) b → TakesPlace signs.Implies b None c → TakesPlace signs.Iff c None after → formula_of x ≡ PlainFormula d → BoxesFormula x r → ReadsRestOfFormula field room d b r after
plain_found field d room x b c after r quiet m n e g =
    let F : List MarkedToken → Type 0 = λ z. Found (conclusion field d) room b no_conclusion z in
    boxed_formula field d room no_conclusion x b after r (subst F (m.0 ∙ n.0) (record { found = finds_empty (conclusion field d) no_conclusion b tt refl only; fits = λ i l. absurd (omega (arith, l)) })) e (plain_ended d b c after quiet m n) g
  where
    iff_no : (p : Place) → Agrees b (fixed signs.Iff p ∷ []) → ⊥
    iff_no p h = let A : List MarkedToken → Type 0 = λ z. Agrees z (fixed signs.Iff p ∷ []) in n.1 p (subst A m.0 h)

    only : (k : Conclusion) → IsConclusion field d k → Agrees b (spell_conclusion k) → k ≡ no_conclusion
    only no_conclusion is agrees = refl
    only (implies_conclusion p f) is agrees = absurd (m.1 p (first_of b _ _ agrees))
    only (iff_conclusion p f) is agrees = absurd (iff_no p (first_of b _ _ agrees))

-- A formula is a disjunction with what stands behind it.
pub formula_into : (field : Bool) (d : DisjunctionData) (k : Conclusion) → IsDisjunction field d → IsConclusion field d k → IsFormula field (formula_with d k)
formula_into field d no_conclusion h g = h
formula_into field d (implies_conclusion p f) h g = (h, g.0, g.1)
formula_into field d (iff_conclusion p f) h g = (h, g.0, g.1)

pub formula_spells : (d : DisjunctionData) (k : Conclusion) → spell_formula (formula_with d k) ≡ spell_disjunction d ++ spell_conclusion k
formula_spells d no_conclusion = sym (append_nil (spell_disjunction d))
formula_spells d (implies_conclusion p f) = refl
formula_spells d (iff_conclusion p f) = refl

nothing_more : (ls : List ℕ) → ls ≡ ls ++ []
nothing_more [] = refl
nothing_more (l ∷ ls) = ap (λ z. l ∷ z) (nothing_more ls)

pub formula_levels : (d : DisjunctionData) (k : Conclusion) → levels_formula (formula_with d k) ≡ levels_disjunction d ++ levels_conclusion k
formula_levels d no_conclusion = nothing_more (levels_disjunction d)
formula_levels d (implies_conclusion p f) = refl
formula_levels d (iff_conclusion p f) = refl

pub only_formula : (field : Bool) (x : FormulaData) → IsFormula field x → (k : (concluded field).Tree) × (concluded field).IsTree k × (x ≡ formula_with k.0 k.1)
only_formula field (PlainFormula d) is = ((d, no_conclusion), (is, tt), refl)
only_formula field (ImpliesFormula d p f) is = ((d, implies_conclusion p f), (is.0, (is.1, is.2)), refl)
only_formula field (IffFormula d p f) is = ((d, iff_conclusion p f), (is.0, (is.1, is.2)), refl)

nothing : false ≡ true → ⊥
nothing h = cc

conclusion_goes : (d : DisjunctionData) (s : Sign) → concludes_sign s ≡ true → goes_open (formula_takes (PlainFormula d)) s ≡ true
conclusion_goes d signs.Implies e = refl
conclusion_goes d signs.Iff e = refl
conclusion_goes d _ e = cc

plain_takes : (d : DisjunctionData) (o : Operator) → disjunction_takes d o ≡ true → formula_takes (PlainFormula d) o ≡ true
plain_takes d conjoins e = refl
plain_takes d disjoins e = refl
plain_takes d concludes e = refl

formula_goes : (d : DisjunctionData) (k : Conclusion) (s : Sign) → (goes_conclusion k s || (is_empty (spell_conclusion k) && goes_open (disjunction_takes d) s)) ≡ true → goes_open (formula_takes (formula_with d k)) s ≡ true
formula_goes d no_conclusion s g = go (concludes_sign s) refl g
  where
    go : (b : Bool) → concludes_sign s ≡ b → (b || (true && goes_open (disjunction_takes d) s)) ≡ true → goes_open (formula_takes (PlainFormula d)) s ≡ true
    go true e h = conclusion_goes d s e
    go false e h = goes_weaker (disjunction_takes d) (formula_takes (PlainFormula d)) (plain_takes d) s h
formula_goes d (implies_conclusion p f) s g = goes_weaker (disjunction_takes f) (formula_takes (ImpliesFormula d p f)) (λ o h. implied_takes d f p o ∙ h) s (either (goes_open (disjunction_takes f) s) false false (λ h. absurd (nothing h)) g)
formula_goes d (iff_conclusion p f) s g = goes_weaker (disjunction_takes f) (formula_takes (IffFormula d p f)) (λ o h. equivalent_takes d f p o ∙ h) s (either (goes_open (disjunction_takes f) s) false false (λ h. absurd (nothing h)) g)

abbrev pub make_formula : (DisjunctionData × Conclusion) → FormulaData
make_formula k = formula_with k.0 k.1

pub as_formula : (field : Bool) (b : List MarkedToken) → Reshapes (formula_form field) (concluded field) make_formula b
as_formula field b = record {
  into = λ k is. formula_into field k.0 k.1 is.0 is.1;
  spells = λ k is. formula_spells k.0 k.1;
  only = λ x is agrees. only_formula field x is;
  goes = λ k t is g. formula_goes k.0 k.1 (sign_of t) g;
  level = λ k is. formula_levels k.0 k.1;
}

begin_formula : (field : Bool) (room : ℕ) (b : List MarkedToken) → Leads (formula_form field) (concluded field) room make_formula b b
begin_formula field room b = leads_as (formula_form field) (concluded field) make_formula room b (as_formula field b)

pub disjunction_refused : (field : Bool) (room : ℕ) (b after : List MarkedToken) (e : Refusal) → Refuses (disjunction_form field) room b e after → Refuses (formula_form field) room b e after
disjunction_refused field room b after e h = passes (formula_form field) (concluded field) room make_formula b b after e (begin_formula field room b)
    (first_refuses (disjunction_form field) (conclusion field) (conclusion_apart field) room b after e (λ a is. (no_conclusion, tt)) h)

pub formula_from : (field : Bool) (room : ℕ) (d : DisjunctionData) (b c after : List MarkedToken) (r : Result (Box FormulaNode Global) Refusal) → Found (disjunction_form field) room b d c → ReadsRestOfFormula field room d c r after → ReadsFormula field room b r after
formula_from field room d b c after r found given =
    let leads = leads_on (formula_form field) (concluded field) (conclusion field d) room make_formula (beside (disjunction_form field) (conclusion field) d) b b c (begin_formula field room b)
    (leads_behind (disjunction_form field) (conclusion field) (conclusion_apart field) room b c d found) in
    gives_through (formula_form field) (conclusion field d) room (λ x. Found (formula_form field) room b (formula_in x) after × NotTaken (formula_takes (formula_in x)) after)
    (λ x. Builds (conclusion field d) room (formula_with d) (formula_in x) c after × NotTaken (formula_takes (formula_in x)) after) (formula_with d) b c after r
    (λ x k. let F : FormulaData → Type 0 = λ z. Found (formula_form field) room b z after in (subst F (sym k.0.2) (leads.finds k.0.0 after k.0.1), k.1))
    leads given
