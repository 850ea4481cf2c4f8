-- The readings of negations, of quantified formulas as units, and of openings.
use Rattle.std.specs.declared.alloc.Global.{Global}
use Rattle.std.proofs.Common.{◌≡◌, ℕ, ◌<◌, ◌-◌, Bool, true, false, List, [], ◌∷◌, refl, sym, ap, subst, ◌∙◌, arith, Result, Ok, Err, Some, None, Box}
use Rattle.mz_base.specs.declared.place.Place.{Place}
use Rattle.mz_base.specs.declared.token.MarkedToken.{MarkedToken}
use Rattle.mz_forms.specs.declared.refusal.Refusal.{Refusal}
use Rattle.mz_forms.specs.declared.refusal.Refusal.TheVariants as refusals
use Rattle.mz_forms.specs.Form.{Form, Agrees, Found, Fails, Leads, nested}
use Rattle.mz_forms.specs.Reading.{Refuses, Builds}
use Rattle.mz_forms.proofs.Choose.{Reshapes, fails_here}
use Rattle.mz_forms.proofs.Leads.{leads_as, leads_turn, beside, passes, gives_through}
use Rattle.mz_forms.proofs.Nested.{found_under, refuses_under}
use Rattle.mz_tree.specs.declared.nodes.UnitNode.{UnitNode}
use Rattle.mz_tree.specs.Trees.{UnitData, QuantifiedData, NotUnit, QuantifiedUnit, ContradictionUnit, ThesisUnit}
use Rattle.mz_tree.specs.Rules.{Operator, takes_unit}
use Rattle.mz_tree.specs.Views.{unit_of}
use Rattle.mz_pterm.specs.declared.sign.Sign.TheVariants as signs
use Rattle.mz_pterm.specs.Sign.{sign_of}
use Rattle.mz_pterm.specs.Words.{word}
use Rattle.mz_pterm.proofs.Steps.{behind_opening, opening_refuses}
use Rattle.mz_patom.specs.declared.atoms.Opening as rust_opening
use Rattle.mz_patom.specs.declared.atoms.Opening.TheVariants as openings
use Rattle.mz_patom.specs.Forms.{Opening, unit_opening, spell_opening, IsOpening, opening_form, unit_form, opening_of, unit_in, BoxesUnit, predicate_form, make_predicate, private_form, make_private}
use Rattle.mz_patom.specs.Classes.{private_next}
use Rattle.mz_pformula.specs.Classes.{begins_quantified, NotTaken}
use Rattle.mz_pformula.specs.Forms.{unit_takes}
use Rattle.mz_pformula.specs.Quantified.{quantified_form, quantified_takes}
use Rattle.mz_pformula.specs.Inside.{not_form, negated, opening_takes, as_unit, ReadsOpening, ReadsNegation, ReadsQuantifiedUnit}
use Rattle.mz_pformula.proofs.Openings.{opening_filled}
use Rattle.mz_pformula.proofs.Operators.{quieter, takes_none}
use Rattle.mz_pformula.proofs.Units.{some_unit, put_not, turn_not, put_predicate, turn_predicate, put_quantified, as_quantified, contradiction_found, thesis_found}
use Rattle.mz_pformula.proofs.Identifiers.{put_private, begin_private}

-- want of memory
pub no_memory : (F : Form MarkedToken) (room : ℕ) (b after : List MarkedToken) (e : Refusal) → e ≡ refusals.Memory → Refuses F room b e after
no_memory F room b after e h = let R : Refusal → Type 0 = λ z. Refuses F room b z after in subst R (sym h) tt

-- `not`
pub not_refuses : (field : Bool) (room : ℕ) (b after : List MarkedToken) (e : Refusal) → Refuses (nested (word signs.Not)) room b e after → Refuses (not_form field) room b e after
not_refuses field room b after e h = opening_refuses signs.Not (λ _. nested (unit_form field)) (λ p. (some_unit, tt)) room b after e h

module _ (field : Bool) (room : ℕ) (more : 0 < room) (p : Place) (b c : List MarkedToken) (opened : Found (nested (word signs.Not)) room b p c) where
  behind_not : Leads (not_form field) (nested (unit_form field)) room (beside (nested (word signs.Not)) (λ _. nested (unit_form field)) p) b c
  behind_not = behind_opening signs.Not (λ _. nested (unit_form field)) room b c p opened

  pub negated_refuses : (after : List MarkedToken) (e : Refusal) → Refuses (unit_form field) (room - 1) c e after → Refuses (not_form field) room b e after
  negated_refuses after e h = passes (not_form field) (nested (unit_form field)) room (beside (nested (word signs.Not)) (λ _. nested (unit_form field)) p) b c after e behind_not (refuses_under (unit_form field) room (room - 1) (omega (arith, more)) c after e h)

  pub negation_found : (u : UnitData) (after : List MarkedToken) → Found (unit_form field) (room - 1) c u after → NotTaken (unit_takes u) after → (x : UnitNode) → unit_of x ≡ NotUnit p u → (r : Result (Box UnitNode Global) Refusal) → BoxesUnit x r → ReadsNegation field room b r after
  negation_found u after h quiet x e (Ok z) g =
      let same : unit_in z ≡ NotUnit p u = ap unit_of g ∙ e in
      let N : UnitData → Type 0 = λ y. NotTaken (unit_takes y) after in
      (((p, u), behind_not.finds u after (found_under (unit_form field) room (room - 1) (omega (arith, more)) c after u h), same), subst N (sym same) (quieter (unit_takes u) (unit_takes (NotUnit p u)) (λ o. refl) after quiet))
  negation_found u after h quiet x e (Err z) g = no_memory (not_form field) room b after z g

begin_not : (field : Bool) (room : ℕ) (t : MarkedToken) (b rest : List MarkedToken) → sign_of t ≡ signs.Not → b ≡ t ∷ rest → Leads (opening_form field) (not_form field) room put_not b b
begin_not field room t b rest h e = leads_turn (opening_form field) (not_form field) put_not t (turn_not field t h) room b rest e

pub not_opening_refuses : (field : Bool) (room : ℕ) (t : MarkedToken) (b rest after : List MarkedToken) (e : Refusal) → sign_of t ≡ signs.Not → b ≡ t ∷ rest → Refuses (not_form field) room b e after → Refuses (opening_form field) room b e after
not_opening_refuses field room t b rest after e h is r = passes (opening_form field) (not_form field) room put_not b b after e (begin_not field room t b rest h is) r

-- A unit that is read, as an opening.
abbrev Opened : Bool → ℕ → List MarkedToken → Box UnitNode Global → List MarkedToken → Type 0
Opened field room b u after = Found (opening_form field) room b (opening_of (openings.Unit u)) after × NotTaken (opening_takes (opening_of (openings.Unit u))) after

as_opened : (field : Bool) (room : ℕ) (b after : List MarkedToken) (u : Box UnitNode Global) (x : UnitData) → Found (opening_form field) room b (unit_opening x) after → unit_in u ≡ x → NotTaken (unit_takes x) after → Opened field room b u after
as_opened field room b after u x h e quiet =
    let G : UnitData → Type 0 = λ z. Found (opening_form field) room b (unit_opening z) after × NotTaken (opening_takes (unit_opening z)) after in
    subst G (sym e) (h, quieter (unit_takes x) (opening_takes (unit_opening x)) (λ o. refl) after quiet)

pub not_opening_found : (field : Bool) (room : ℕ) (t : MarkedToken) (b rest after : List MarkedToken) (u : Box UnitNode Global) → sign_of t ≡ signs.Not → b ≡ t ∷ rest → Builds (not_form field) room negated (unit_in u) b after × NotTaken (unit_takes (unit_in u)) after → Opened field room b u after
not_opening_found field room t b rest after u h is k =
    let N : UnitData → Type 0 = λ y. NotTaken (unit_takes y) after in
    as_opened field room b after u (negated k.0.0) ((begin_not field room t b rest h is).finds k.0.0 after k.0.1) k.0.2 (subst N k.0.2 k.1)

-- `contradiction` and `thesis`
pub contradiction_opened : (field : Bool) (room : ℕ) (t : MarkedToken) (b rest : List MarkedToken) (x : UnitNode) (u : Box UnitNode Global) → sign_of t ≡ signs.Contradiction → b ≡ t ∷ rest → unit_of x ≡ ContradictionUnit t.token.place → u.value ≡ x → Opened field room b u rest
contradiction_opened field room t b rest x u h is e g = as_opened field room b rest u (ContradictionUnit t.token.place) (contradiction_found field room t b rest h is) (ap unit_of g ∙ e) (takes_none (unit_takes (ContradictionUnit t.token.place)) (λ o. refl) rest)

pub thesis_opened : (field : Bool) (room : ℕ) (t : MarkedToken) (b rest : List MarkedToken) (x : UnitNode) (u : Box UnitNode Global) → sign_of t ≡ signs.Thesis → b ≡ t ∷ rest → unit_of x ≡ ThesisUnit t.token.place → u.value ≡ x → Opened field room b u rest
thesis_opened field room t b rest x u h is e g = as_opened field room b rest u (ThesisUnit t.token.place) (thesis_found field room t b rest h is) (ap unit_of g ∙ e) (takes_none (unit_takes (ThesisUnit t.token.place)) (λ o. refl) rest)

-- a predicate symbol
begin_predicate : (field : Bool) (room : ℕ) (t : MarkedToken) (b rest : List MarkedToken) → sign_of t ≡ signs.Predicate → b ≡ t ∷ rest → Leads (opening_form field) (predicate_form field) room put_predicate b b
begin_predicate field room t b rest h e = leads_turn (opening_form field) (predicate_form field) put_predicate t (turn_predicate field t h) room b rest e

pub predicate_refuses : (field : Bool) (room : ℕ) (t : MarkedToken) (b rest after : List MarkedToken) (e : Refusal) → sign_of t ≡ signs.Predicate → b ≡ t ∷ rest → Refuses (predicate_form field) room b e after → Refuses (opening_form field) room b e after
predicate_refuses field room t b rest after e h is r = passes (opening_form field) (predicate_form field) room put_predicate b b after e (begin_predicate field room t b rest h is) r

predicate_takes : (k : (predicate_form true).Tree) (o : Operator) → takes_unit o (make_predicate k) ≡ false
predicate_takes (w, None) o = refl
predicate_takes (w, Some ts) o = refl

pub predicate_opened : (field : Bool) (room : ℕ) (t : MarkedToken) (b rest after : List MarkedToken) (u : Box UnitNode Global) → sign_of t ≡ signs.Predicate → b ≡ t ∷ rest → Builds (predicate_form field) room make_predicate (unit_in u) b after → Opened field room b u after
predicate_opened field room t b rest after u h is k = as_opened field room b after u (make_predicate k.0) ((begin_predicate field room t b rest h is).finds k.0 after k.1) k.2 (takes_none (unit_takes (make_predicate k.0)) (predicate_takes k.0) after)

-- a private predicate
private_takes : (k : (private_form true).Tree) (o : Operator) → takes_unit o (make_private k) ≡ false
private_takes (w, (p, (None, q))) o = refl
private_takes (w, (p, (Some ts, q))) o = refl

pub private_refuses : (field : Bool) (room : ℕ) (b after : List MarkedToken) (e : Refusal) → private_next b ≡ true → Refuses (private_form field) room b e after → Refuses (opening_form field) room b e after
private_refuses field room b after e h r = passes (opening_form field) (private_form field) room put_private b b after e (begin_private field room b h) r

pub private_opened : (field : Bool) (room : ℕ) (b after : List MarkedToken) (u : Box UnitNode Global) → private_next b ≡ true → Builds (private_form field) room make_private (unit_in u) b after → Opened field room b u after
private_opened field room b after u h k = as_opened field room b after u (make_private k.0) ((begin_private field room b h).finds k.0 after k.1) k.2 (takes_none (unit_takes (make_private k.0)) (private_takes k.0) after)

-- A quantified formula as a unit.
pub quantified_unit_found : (field : Bool) (room : ℕ) (q : QuantifiedData) (b after : List MarkedToken) (x : UnitNode) (u : Box UnitNode Global) → Found (quantified_form field) room b q after × NotTaken (quantified_takes q) after → unit_of x ≡ QuantifiedUnit q → u.value ≡ x →
    Builds (quantified_form field) room as_unit (opening_of (openings.Unit u)) b after × NotTaken (opening_takes (opening_of (openings.Unit u))) after
quantified_unit_found field room q b after x u k e g =
    let same : unit_in u ≡ QuantifiedUnit q = ap unit_of g ∙ e in
    let N : UnitData → Type 0 = λ y. NotTaken (opening_takes (unit_opening y)) after in
    ((q, k.0, ap (λ z. unit_opening z) same), subst N (sym same) (quieter (quantified_takes q) (opening_takes (unit_opening (QuantifiedUnit q))) (λ o. refl) after k.1))

pub quantified_given : (field : Bool) (room : ℕ) (t : MarkedToken) (b rest after : List MarkedToken) (r : Result rust_opening.Opening Refusal) → begins_quantified (sign_of t) ≡ true → b ≡ t ∷ rest → ReadsQuantifiedUnit field room b r after → ReadsOpening field room b r after
quantified_given field room t b rest after r h e given =
    let R : List MarkedToken → Type 0 = λ z. Reshapes (opening_form field) (quantified_form field) put_quantified z in
    let leads = leads_as (opening_form field) (quantified_form field) put_quantified room b (subst R (sym e) (as_quantified field t rest h)) in
    gives_through (opening_form field) (quantified_form field) room (λ x. Found (opening_form field) room b (opening_of x) after × NotTaken (opening_takes (opening_of x)) after)
    (λ x. Builds (quantified_form field) room as_unit (opening_of x) b after × NotTaken (opening_takes (opening_of x)) after) put_quantified b b after r
    (λ x k. let F : Opening → Type 0 = λ z. Found (opening_form field) room b z after in (subst F (sym k.0.2) (leads.finds k.0.0 after k.0.1), k.1))
    leads given

-- nothing is left
pub no_opening : (field : Bool) (room : ℕ) (b : List MarkedToken) → b ≡ [] → Fails (opening_form field) room b b
no_opening field room b e = fails_here (opening_form field) room (unit_opening some_unit) b tt (λ x is agrees. let A : List MarkedToken → Type 0 = λ z. Agrees z (spell_opening x) in none x is (spell_opening x) refl (subst A e agrees))
  where
    none : (x : Opening) → IsOpening field x → (w : List MarkedToken) → spell_opening x ≡ w → Agrees [] (spell_opening x) → ⊥
    none x is [] f agrees = opening_filled field x is f
    none x is (s ∷ w) f agrees = let A : List MarkedToken → Type 0 = λ z. Agrees [] z in subst A f agrees
