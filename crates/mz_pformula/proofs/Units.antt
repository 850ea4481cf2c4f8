-- The readings of units and of terms with what stands behind them.
use Rattle.std.proofs.Common.{◌≡◌, ℕ, Bool, true, false, List, [], ◌∷◌, ◌++◌, refl, sym, ap, subst, ◌∙◌, arith, Option, Some, None, Result}
use Rattle.mz_base.specs.declared.place.Place.{Place}
use Rattle.mz_base.specs.declared.token.MarkedToken.{MarkedToken}
use Rattle.mz_forms.specs.declared.refusal.Refusal.{Refusal}
use Rattle.mz_forms.specs.Form.{Agrees, Found, Leads, is_empty, nothing}
use Rattle.mz_forms.specs.Reading.{Builds}
use Rattle.mz_forms.proofs.Compose.{head_of}
use Rattle.mz_forms.proofs.Choose.{Chooses, Turns, Reshapes}
use Rattle.mz_forms.proofs.Leads.{leads_by, leads_as, gives_through}
use Rattle.mz_forms.proofs.Lists.{Begun, either}
use Rattle.mz_forms.proofs.Words.{found_nothing}
use Rattle.mz_tree.specs.declared.word.Word.{Word}
use Rattle.mz_tree.specs.Trees.{TermsData, UnitData, QuantifiedData, ContradictionUnit, ThesisUnit, QuantifiedUnit}
use Rattle.mz_tree.specs.Spell.{spell_unit}
use Rattle.mz_tree.specs.Levels.{levels_unit}
use Rattle.mz_tree.specs.Rules.{Operator, takes_unit, IsUnit, IsQuantified}
use Rattle.mz_pterm.specs.declared.sign.Sign.{Sign}
use Rattle.mz_pterm.specs.declared.sign.Sign.TheVariants as signs
use Rattle.mz_pterm.specs.Classes.{goes_on_terms}
use Rattle.mz_pterm.specs.Sign.{sign_of}
use Rattle.mz_pterm.specs.Words.{fixed, named, word_of}
use Rattle.mz_pterm.proofs.Signs.{told_fixed, told_named, sign_of-fixed, same_fixed}
use Rattle.mz_pterm.proofs.Steps.{told_rest}
use Rattle.mz_ptype.proofs.Optional.{never, true_not_false}
use Rattle.mz_ptype.proofs.AdjectiveSteps.{nowhere}
use Rattle.mz_patom.specs.Classes.{begins_term, goes_on_atom}
use Rattle.mz_patom.specs.declared.atoms.Opening as rust_opening
use Rattle.mz_patom.specs.Forms.{Opening, unit_opening, spell_opening, IsOpening, goes_unit, goes_opening, is_tail, relates, opening_of, ReadsAtom, opening_form, maybe_terms_form, Tail, no_tail, spell_tail, join, atom_form, make_atom, predicate_form, predicate_from, make_predicate}
use Rattle.mz_patom.proofs.Parts.{begun_terms}
use Rattle.mz_patom.proofs.Tails.{maybe_terms_on, terms_on}
use Rattle.mz_pformula.specs.Classes.{begins_quantified, NotTaken}
use Rattle.mz_pformula.specs.Quantified.{quantified_form}
use Rattle.mz_pformula.specs.Inside.{not_form, negated, opening_takes, ReadsOpening}
use Rattle.mz_pformula.proofs.Operators.{opens_other, takes_none}
use Rattle.mz_pformula.proofs.Openings.{Begins, not_first, contradiction_first, thesis_first, quantified_first, group_first, private_first, predicate_first, atom_first, begins, opening_filled, join_is, join_spells, join_levels, join_goes, atom_goes}

-- with the sign that the token has
pub begins_as : (field : Bool) (s : Sign) (x : Opening) (t : MarkedToken) (m : List MarkedToken) → sign_of t ≡ s → IsOpening field x → spell_opening x ≡ t ∷ m → Begins field s x
begins_as field s x t m h is e = let S : Sign → Type 0 = λ z. Begins field z x in subst S h (begins field x t m is e)

abbrev pub some_unit : UnitData
some_unit = ThesisUnit nowhere

-- `not`
abbrev pub put_not : (Place × UnitData) → Opening
put_not k = unit_opening (negated k)

only_not : (field : Bool) (x : Opening) → IsOpening field x → Begins field signs.Not x → (k : (not_form field).Tree) × (not_form field).IsTree k × (x ≡ put_not k)
only_not field x is (not_first f p u) = ((p, u), (tt, is), refl)
only_not field x is (quantified_first f s q g) = cc
only_not field x is (atom_first f s ts k g h i) = cc

pub turn_not : (field : Bool) (t : MarkedToken) → sign_of t ≡ signs.Not → Turns (opening_form field) (not_form field) put_not t
turn_not field t h = record {
  into = λ k is. is.1;
  spells = λ k is. refl;
  only = λ x m is e. only_not field x is (begins_as field signs.Not x t m h is e);
  empty = λ x is e. absurd (opening_filled field x is e);
  filled = λ k is e. cc;
  goes = λ k s is g. either (goes_unit k.1 (sign_of s)) false (is_empty (spell_unit k.1)) (λ f. absurd (never f)) g;
  level = λ k is. refl;
  begins = ((t.token.place, some_unit), spell_unit some_unit, (tt, tt), ap (λ z. z ∷ spell_unit some_unit) (sym (told_fixed signs.Not t refl h)));
}

-- `contradiction` and `thesis`
only_contradiction : (field : Bool) (p : Place) (x : Opening) (m : List MarkedToken) → spell_opening x ≡ fixed signs.Contradiction p ∷ m → Begins field signs.Contradiction x → (k : Unit {0}) × Unit {0} × (x ≡ unit_opening (ContradictionUnit p))
only_contradiction field p x m e (contradiction_first f q) = (tt, tt, ap (λ z. unit_opening (ContradictionUnit z)) (same_fixed signs.Contradiction refl q p (head_of _ _ _ _ e)))
only_contradiction field p x m e (quantified_first f s q g) = cc
only_contradiction field p x m e (atom_first f s ts k g h i) = cc

pub by_contradiction : (field : Bool) (p : Place) → Chooses (opening_form field) (fixed signs.Contradiction p) nothing (λ _. unit_opening (ContradictionUnit p)) 0
by_contradiction field p = record {
  level = λ k is. refl;
  into = λ k is. tt;
  spells = λ k is. refl;
  only = λ x m is f. only_contradiction field p x m f (begins_as field signs.Contradiction x (fixed signs.Contradiction p) m (sign_of-fixed signs.Contradiction p refl) is f);
  empty = λ x is f. absurd (opening_filled field x is f);
  goes = λ k s is g. cc;
}

pub contradiction_found : (field : Bool) (room : ℕ) (t : MarkedToken) (b rest : List MarkedToken) → sign_of t ≡ signs.Contradiction → b ≡ t ∷ rest → Found (opening_form field) room b (unit_opening (ContradictionUnit t.token.place)) rest
contradiction_found field room t b rest h e = (leads_by (opening_form field) (fixed signs.Contradiction t.token.place) nothing (λ _. unit_opening (ContradictionUnit t.token.place)) 0 (by_contradiction field t.token.place) room (omega arith) b rest (told_rest b rest t _ e (told_fixed signs.Contradiction t refl h))).finds tt rest (found_nothing room rest)

only_thesis : (field : Bool) (p : Place) (x : Opening) (m : List MarkedToken) → spell_opening x ≡ fixed signs.Thesis p ∷ m → Begins field signs.Thesis x → (k : Unit {0}) × Unit {0} × (x ≡ unit_opening (ThesisUnit p))
only_thesis field p x m e (thesis_first f q) = (tt, tt, ap (λ z. unit_opening (ThesisUnit z)) (same_fixed signs.Thesis refl q p (head_of _ _ _ _ e)))
only_thesis field p x m e (quantified_first f s q g) = cc
only_thesis field p x m e (atom_first f s ts k g h i) = cc

pub by_thesis : (field : Bool) (p : Place) → Chooses (opening_form field) (fixed signs.Thesis p) nothing (λ _. unit_opening (ThesisUnit p)) 0
by_thesis field p = record {
  level = λ k is. refl;
  into = λ k is. tt;
  spells = λ k is. refl;
  only = λ x m is f. only_thesis field p x m f (begins_as field signs.Thesis x (fixed signs.Thesis p) m (sign_of-fixed signs.Thesis p refl) is f);
  empty = λ x is f. absurd (opening_filled field x is f);
  goes = λ k s is g. cc;
}

pub thesis_found : (field : Bool) (room : ℕ) (t : MarkedToken) (b rest : List MarkedToken) → sign_of t ≡ signs.Thesis → b ≡ t ∷ rest → Found (opening_form field) room b (unit_opening (ThesisUnit t.token.place)) rest
thesis_found field room t b rest h e = (leads_by (opening_form field) (fixed signs.Thesis t.token.place) nothing (λ _. unit_opening (ThesisUnit t.token.place)) 0 (by_thesis field t.token.place) room (omega arith) b rest (told_rest b rest t _ e (told_fixed signs.Thesis t refl h))).finds tt rest (found_nothing room rest)

-- a predicate symbol with nothing before it
abbrev pub put_predicate : (Word × Option TermsData) → Opening
put_predicate k = unit_opening (make_predicate k)

predicate_is : (field : Bool) (w : Word) (o : Option TermsData) → (maybe_terms_form field).IsTree o → IsUnit field (predicate_from w o)
predicate_is field w None is = tt
predicate_is field w (Some ts) is = is

predicate_spells : (field : Bool) (w : Word) (o : Option TermsData) → spell_unit (predicate_from w o) ≡ named signs.Predicate w ∷ (maybe_terms_form field).spell o
predicate_spells field w None = refl
predicate_spells field w (Some ts) = refl

predicate_levels : (field : Bool) (w : Word) (o : Option TermsData) → levels_unit (predicate_from w o) ≡ 0 ∷ (maybe_terms_form field).levels o
predicate_levels field w None = refl
predicate_levels field w (Some ts) = refl

maybe_back : (field : Bool) (w : Word) (o : Option TermsData) → IsUnit field (predicate_from w o) → (maybe_terms_form field).IsTree o
maybe_back field w None is = tt
maybe_back field w (Some ts) is = is

only_predicate : (field : Bool) (x : Opening) → IsOpening field x → Begins field signs.Predicate x → (k : (predicate_form field).Tree) × (predicate_form field).IsTree k × (x ≡ put_predicate k)
only_predicate field x is (predicate_first f w o) = ((w, o), (tt, maybe_back field w o is), refl)
only_predicate field x is (quantified_first f s q g) = cc
only_predicate field x is (atom_first f s ts k g h i) = cc

pub turn_predicate : (field : Bool) (t : MarkedToken) → sign_of t ≡ signs.Predicate → Turns (opening_form field) (predicate_form field) put_predicate t
turn_predicate field t h = record {
  into = λ k is. predicate_is field k.0 k.1 is.1;
  spells = λ k is. predicate_spells field k.0 k.1;
  only = λ x m is e. only_predicate field x is (begins_as field signs.Predicate x t m h is e);
  empty = λ x is e. absurd (opening_filled field x is e);
  filled = λ k is e. cc;
  goes = λ k s is g. atom_goes (λ z. takes_unit z (make_predicate k)) (sign_of s) (maybe_terms_on field k.1 s (either ((maybe_terms_form field).goes k.1 s) false (is_empty ((maybe_terms_form field).spell k.1)) (λ f. absurd (never f)) g));
  level = λ k is. predicate_levels field k.0 k.1;
  begins = ((word_of t, None), [], (tt, tt), ap (λ z. z ∷ []) (sym (told_named signs.Predicate t refl h)));
}

-- a quantifier
abbrev pub put_quantified : QuantifiedData → Opening
put_quantified q = unit_opening (QuantifiedUnit q)

only_quantified : (field : Bool) (s : Sign) (x : Opening) → begins_quantified s ≡ true → IsOpening field x → Begins field s x → (k : QuantifiedData) × IsQuantified field k × (x ≡ put_quantified k)
only_quantified field s x b is (quantified_first f r q g) = (q, is, refl)
only_quantified field s x b is (not_first f p u) = cc
only_quantified field s x b is (contradiction_first f p) = cc
only_quantified field s x b is (thesis_first f p) = cc
only_quantified field s x b is (group_first f p g q) = cc
only_quantified field s x b is (private_first f w p o q) = cc
only_quantified field s x b is (predicate_first f w o) = cc
only_quantified field s x b is (atom_first f r ts k g h i) = absurd (no s b g)
  where
    no : (s : Sign) → begins_quantified s ≡ true → begins_term s ≡ true → ⊥
    no signs.For b g = cc
    no signs.Ex b g = cc
    no _ b g = cc

pub as_quantified : (field : Bool) (t : MarkedToken) (rest : List MarkedToken) → begins_quantified (sign_of t) ≡ true → Reshapes (opening_form field) (quantified_form field) put_quantified (t ∷ rest)
as_quantified field t rest b = record {
  into = λ k is. is;
  spells = λ k is. refl;
  only = λ x is agrees. go x is (spell_opening x) refl agrees;
  goes = λ k s is g. g;
  level = λ k is. refl;
}
  where
    go : (x : Opening) → IsOpening field x → (w : List MarkedToken) → spell_opening x ≡ w → Agrees (t ∷ rest) w → (k : QuantifiedData) × IsQuantified field k × (x ≡ put_quantified k)
    go x is [] e agrees = absurd (opening_filled field x is e)
    go x is (s ∷ w) e agrees = only_quantified field (sign_of t) x b is (begins field x t w is (e ∙ ap (λ z. z ∷ w) agrees))

-- Terms, where nothing else begins with the next token.
pub some_atom : (field : Bool) (t : MarkedToken) → begins_term (sign_of t) ≡ true → Begun (atom_form field) t
some_atom field t b = let some = begun_terms field t b in ((some.0, no_tail), some.1 ++ [], (some.2, tt), ap (λ z. z ++ []) some.3)

pub atom_on : (field : Bool) (k : (atom_form field).Tree) (t : MarkedToken) → (atom_form field).goes k t ≡ true → goes_opening (make_atom k) (sign_of t) ≡ true
atom_on field k t g = join_goes k.0 k.1 (sign_of t) (either (goes_on_atom (sign_of t)) (goes_on_terms (sign_of t)) (is_empty (spell_tail field k.1)) (terms_on (sign_of t)) g)

quantifier : (s : Sign) → begins_quantified s ≡ true → opens_other s ≡ true
quantifier signs.For g = refl
quantifier signs.Ex g = refl
quantifier _ g = cc

only_atom : (field : Bool) (s : Sign) (x : Opening) → opens_other s ≡ false → (s ≡ signs.Identifier → ⊥) → IsOpening field x → Begins field s x → (k : (atom_form field).Tree) × (atom_form field).IsTree k × (x ≡ make_atom k)
only_atom field s x n m is (atom_first f r ts k g h i) = ((ts, k), (h, i), refl)
only_atom field s x n m is (not_first f p u) = absurd (true_not_false (opens_other s) n refl)
only_atom field s x n m is (contradiction_first f p) = absurd (true_not_false (opens_other s) n refl)
only_atom field s x n m is (thesis_first f p) = absurd (true_not_false (opens_other s) n refl)
only_atom field s x n m is (predicate_first f w o) = absurd (true_not_false (opens_other s) n refl)
only_atom field s x n m is (group_first f p g q) = absurd (true_not_false (opens_other s) n refl)
only_atom field s x n m is (private_first f w p o q) = absurd (m refl)
only_atom field s x n m is (quantified_first f r q g) = absurd (true_not_false (opens_other s) n (quantifier s g))

pub as_atom : (field : Bool) (t : MarkedToken) (rest : List MarkedToken) → opens_other (sign_of t) ≡ false → (sign_of t ≡ signs.Identifier → ⊥) → Reshapes (opening_form field) (atom_form field) make_atom (t ∷ rest)
as_atom field t rest n m = record {
  into = λ k is. join_is field k.0 k.1 is.0 is.1;
  spells = λ k is. join_spells field k.0 k.1 is.1;
  only = λ x is agrees. go x is (spell_opening x) refl agrees;
  goes = λ k s is g. atom_on field k s g;
  level = λ k is. join_levels field k.0 k.1 is.1;
}
  where
    go : (x : Opening) → IsOpening field x → (w : List MarkedToken) → spell_opening x ≡ w → Agrees (t ∷ rest) w → (k : (atom_form field).Tree) × (atom_form field).IsTree k × (x ≡ make_atom k)
    go x is [] e agrees = absurd (opening_filled field x is e)
    go x is (s ∷ w) e agrees = only_atom field (sign_of t) x n m is (begins field x t w is (e ∙ ap (λ z. z ∷ w) agrees))

pub begin_atom : (field : Bool) (room : ℕ) (t : MarkedToken) (b rest : List MarkedToken) → opens_other (sign_of t) ≡ false → (sign_of t ≡ signs.Identifier → ⊥) → b ≡ t ∷ rest → Leads (opening_form field) (atom_form field) room make_atom b b
begin_atom field room t b rest n m e = let R : List MarkedToken → Type 0 = λ z. Reshapes (opening_form field) (atom_form field) make_atom z in leads_as (opening_form field) (atom_form field) make_atom room b (subst R (sym e) (as_atom field t rest n m))

-- what terms are with what stands behind them takes no operator
join_takes : (ts : TermsData) (k : Tail) (o : Operator) → opening_takes (join ts k) o ≡ false
join_takes ts no_tail o = refl
join_takes ts (relates w None) o = refl
join_takes ts (relates w (Some us)) o = refl
join_takes ts (is_tail p [] None) o = refl
join_takes ts (is_tail p (a ∷ ads) None) o = refl
join_takes ts (is_tail p ads (Some k)) o = refl

pub join_quiet : (ts : TermsData) (k : Tail) (after : List MarkedToken) → NotTaken (opening_takes (join ts k)) after
join_quiet ts k after = takes_none (opening_takes (join ts k)) (join_takes ts k) after

pub atom_given : (field : Bool) (room : ℕ) (b after : List MarkedToken) (r : Result rust_opening.Opening Refusal) → Leads (opening_form field) (atom_form field) room make_atom b b → ReadsAtom field room b r after → ReadsOpening field room b r after
atom_given field room b after r leads given =
    gives_through (opening_form field) (atom_form field) room (λ x. Found (opening_form field) room b (opening_of x) after × NotTaken (opening_takes (opening_of x)) after) (λ x. Builds (atom_form field) room make_atom (opening_of x) b after) make_atom b b after r
    (λ x k. let F : Opening → Type 0 = λ z. Found (opening_form field) room b z after × NotTaken (opening_takes z) after in subst F (sym k.2) (leads.finds k.0 after k.1, join_quiet k.0.0 k.0.1 after))
    leads given
