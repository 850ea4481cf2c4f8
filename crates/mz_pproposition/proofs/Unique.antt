-- Two propositions that spell the same tokens are equal.
use Rattle.std.proofs.Common.{◌≡◌, ℕ, zero, suc, ◌<◌, true, false, List, [], ◌∷◌, ◌++◌, length, refl, sym, ap, ◌∙◌, subst, arith, Option, Some, None}
use Rattle.mz_base.specs.declared.place.Place.{Place}
use Rattle.mz_base.specs.declared.token.MarkedToken.{MarkedToken}
use Rattle.mz_forms.specs.Parse.{OneTree}
use Rattle.mz_forms.proofs.Compose.{head_of, tail_of}
use Rattle.mz_forms.proofs.Leads.{apart_closed}
use Rattle.mz_forms.proofs.One.{One, OneAt, Quiet, one_then, at_by, at_as, at_same, at_token, one_from, one_class, one_zero, one_as, one_tree}
use Rattle.mz_forms.proofs.OneRepeat.{one_many}
use Rattle.mz_tree.specs.declared.word.Word.{Word}
use Rattle.mz_tree.specs.Trees.{FormulaData}
use Rattle.mz_tree.specs.Rules.{IsFormula}
use Rattle.mz_tree.specs.Spell.{spell_formula}
use Rattle.mz_tree_proof.specs.declared.references.LabelTree.{LabelTree}
use Rattle.mz_tree_proof.specs.declared.propositions.PropositionTree.{PropositionTree}
use Rattle.mz_tree_proof.specs.declared.propositions.HypothesesTree.{HypothesesTree}
use Rattle.mz_tree_proof.specs.declared.propositions.HypothesesTree.TheVariants as hypotheses_tree
use Rattle.mz_tree_proof.specs.Spell.{spell_proposition, spell_hypotheses}
use Rattle.mz_tree_proof.specs.Rules.{AreHypotheses}
use Rattle.mz_pterm.specs.declared.sign.Sign.TheVariants as signs
use Rattle.mz_pterm.specs.Sign.{sign_of}
use Rattle.mz_pterm.specs.Words.{named, name}
use Rattle.mz_pterm.proofs.Signs.{same_named, sign_of-named}
use Rattle.mz_ptype.proofs.Optional.{true_not_false}
use Rattle.mz_pformula.specs.Forms.{formula_form}
use Rattle.mz_pformula.proofs.UniqueFormulas.{formulas_one}
use Rattle.mz_pjustification.specs.declared.keyword.Keyword.{Keyword}
use Rattle.mz_pjustification.specs.declared.keyword.Keyword.TheVariants as keywords
use Rattle.mz_pjustification.specs.Words.{is_key, key, keyword, tokens_of}
use Rattle.mz_pjustification.proofs.Keywords.{same_key, sign_of-key}
use Rattle.mz_pjustification.proofs.Taken.{key_among}
use Rattle.mz_pproposition.specs.Forms.{label_form, goes_on_proposition, proposition_form, begins_further, goes_on_propositions, further_form, more_propositions, propositions_form, hypotheses_form, such_form}
use Rattle.mz_pproposition.proofs.Formulas.{no_other, formula_filled}
use Rattle.mz_pproposition.proofs.PropositionSteps as propositions

names : (n : ℕ) → One n (name signs.Identifier)
names n = one_class n Word (named signs.Identifier) (same_named signs.Identifier refl)

pub keys : (n : ℕ) (k : Keyword) → is_key k ≡ true → One n (keyword k)
keys n k h = one_class n Place (key k) (same_key k h)

pub label_one : (n : ℕ) → One n label_form
label_one n = one_as n label_form propositions.parts_of_label propositions.make_label (λ x is. ((x.name, x.colon), (tt, tt), refl)) (λ s is. refl) (λ s t is g. g)
    (one_then n n (name signs.Identifier) (λ _. keyword keywords.Colon) (apart_closed (name signs.Identifier) (λ _. keyword keywords.Colon) (λ a t. refl)) (names n) (λ a. keys n keywords.Colon refl) (λ a l isa h. omega (arith, h)))

labelled_one : (n : ℕ) → One n propositions.labelled
labelled_one n = one_then n n label_form (λ _. formula_form false) (apart_closed label_form (λ _. formula_form false) (λ a t. refl)) (label_one n) (λ a. (formulas_one false n).formulas) (λ a l isa h. omega (arith, h))

-- both have a label, or neither has
mixed : (l : LabelTree) (f g : FormulaData) (x y : List MarkedToken) → IsFormula false g → spell_proposition (propositions.make_labelled (l, f)) ++ x ≡ spell_formula g ++ y → Quiet proposition_form (propositions.plainly g) y → ⊥
mixed l f g x y is e quiet = go (spell_formula g) refl
  where
    not_quiet : (z : List MarkedToken) → Quiet proposition_form (propositions.plainly g) z → key keywords.Colon l.colon ∷ (spell_formula f ++ x) ≡ z → ⊥
    not_quiet [] q i = cc
    not_quiet (s ∷ z) q i =
        let C : MarkedToken → Type 0 = λ v. tokens_of goes_on_proposition v ≡ false in
        true_not_false (tokens_of goes_on_proposition (key keywords.Colon l.colon)) (subst C (sym (head_of _ _ _ _ i)) q) (key_among goes_on_proposition keywords.Colon l.colon refl)

    go : (w : List MarkedToken) → spell_formula g ≡ w → ⊥
    go [] h = formula_filled g is h
    go (t ∷ []) h = not_quiet y quiet (tail_of _ _ _ _ (e ∙ ap (λ z. z ++ y) h))
    go (t ∷ (n ∷ w)) h =
        let whole : named signs.Identifier l.name ∷ (key keywords.Colon l.colon ∷ (spell_formula f ++ x)) ≡ t ∷ (n ∷ (w ++ y)) = e ∙ ap (λ z. z ++ y) h in
        no_other g t n w is (sym (ap sign_of (head_of _ _ _ _ whole)) ∙ sign_of-named signs.Identifier l.name refl) (sym (ap sign_of (head_of _ _ _ _ (tail_of _ _ _ _ whole))) ∙ sign_of-key keywords.Colon l.colon refl) h

abbrev SameProposition : PropositionTree → PropositionTree → Type 0
SameProposition a b = a ≡ b

both_of : (n : ℕ) (l m : Option LabelTree) (f g : FormulaData) (x y : List MarkedToken) → length (spell_proposition (record { label = l; formula = f })) < n → IsFormula false f → IsFormula false g →
    spell_proposition (record { label = l; formula = f }) ++ x ≡ spell_proposition (record { label = m; formula = g }) ++ y → Quiet proposition_form (record { label = l; formula = f }) x → Quiet proposition_form (record { label = m; formula = g }) y → SameProposition (record { label = l; formula = f }) (record { label = m; formula = g })
both_of n (Some l) (Some m) f g x y less isf isg e qf qg = at_same n proposition_form propositions.labelled propositions.make_labelled (λ s is. refl) (λ s t is h. propositions.labelled_goes s t h) (labelled_one n) (propositions.make_labelled (l, f)) (propositions.make_labelled (m, g)) x y less ((l, f), (tt, isf), refl) ((m, g), (tt, isg), refl) e qf qg
both_of n None None f g x y less isf isg e qf qg = at_same n proposition_form (formula_form false) propositions.plainly (λ s is. refl) (λ s t is h. propositions.formula_on s t h) (formulas_one false n).formulas (propositions.plainly f) (propositions.plainly g) x y less (f, isf, refl) (g, isg, refl) e qf qg
both_of n (Some l) None f g x y less isf isg e qf qg = absurd (mixed l f g x y isg e qg)
both_of n None (Some m) f g x y less isf isg e qf qg = absurd (mixed m g f y x isf (sym e) qf)

pub proposition_one : (n : ℕ) → One n proposition_form
proposition_one n a b x y less isa isb e qa qb = both_of n a.label b.label a.formula b.formula x y less isa isb e qa qb

-- propositions, hypotheses and conditions
further_one : (n : ℕ) → One n further_form
further_one n = one_as n further_form propositions.parts_of_further propositions.make_further (λ x is. ((x.and, x.proposition), (tt, is), refl)) (λ s is. refl) (λ s t is g. propositions.goes_further s t g)
    (one_then n n (keyword keywords.And) (λ _. proposition_form) (apart_closed (keyword keywords.And) (λ _. proposition_form) (λ a t. refl)) (keys n keywords.And refl) (λ a. proposition_one n) (λ a l isa h. omega (arith, h)))

more_one : (n : ℕ) → One n more_propositions
more_one zero = one_zero more_propositions
more_one (suc n) = one_many further_form (tokens_of begins_further) (tokens_of goes_on_propositions) propositions.repeats_further n (further_one (suc n)) (more_one n)

pub propositions_one : (n : ℕ) → One n propositions_form
propositions_one n = one_as n propositions_form propositions.some_propositions propositions.make_propositions propositions.only_propositions (λ s is. (propositions.as_propositions []).spells s is) (λ s t is g. propositions.propositions_goes s t g)
    (one_then n n proposition_form (λ _. more_propositions) propositions.more_apart (proposition_one n) (λ a. more_one n) (λ a l isa h. omega (arith, h)))

hypotheses_at : (n : ℕ) (x : HypothesesTree) (tok : MarkedToken) (m : List MarkedToken) → AreHypotheses x → spell_hypotheses x ≡ tok ∷ m → OneAt (suc n) hypotheses_form tok
hypotheses_at n (hypotheses_tree.One p) tok m is e = at_as (suc n) hypotheses_form proposition_form (λ k. hypotheses_tree.One k) tok
    (propositions.as_one (tok ∷ []) (λ q g. propositions.proposition_first p.label p.formula tok m is e (ap sign_of (sym g) ∙ sign_of-key keywords.That q refl))) (proposition_one (suc n))
hypotheses_at n (hypotheses_tree.That q ps) tok m is e = at_token (suc n) hypotheses_form (key keywords.That q) tok (head_of _ _ _ _ e) (at_by n hypotheses_form (key keywords.That q) propositions_form (λ k. hypotheses_tree.That q k) 0 (propositions.by_that q) (propositions_one n))

pub hypotheses_one : (n : ℕ) → One n hypotheses_form
hypotheses_one zero = one_zero hypotheses_form
hypotheses_one (suc n) = one_from (suc n) hypotheses_form (λ a b isa isb ea eb. absurd (propositions.hypotheses_filled a isa ea)) (λ a b tok m isa isb ea eb. absurd (propositions.hypotheses_filled a isa ea)) (λ a tok m isa e. hypotheses_at n a tok m isa e)

pub such_one : (n : ℕ) → One n such_form
such_one n = one_as n such_form propositions.parts_of_such propositions.make_such (λ x is. ((x.such, (x.that, x.propositions)), (tt, (tt, is)), refl)) (λ s is. refl) (λ s t is g. propositions.such_goes s t g)
    (one_then n n (keyword keywords.Such) (λ _. propositions.behind_such) (apart_closed (keyword keywords.Such) (λ _. propositions.behind_such) (λ a t. refl)) (keys n keywords.Such refl)
    (λ a. one_then n n (keyword keywords.That) (λ _. propositions_form) (apart_closed (keyword keywords.That) (λ _. propositions_form) (λ b t. refl)) (keys n keywords.That refl) (λ b. propositions_one n) (λ b l isb h. omega (arith, h))) (λ a l isa h. omega (arith, h)))

pub one_proposition : OneTree proposition_form
one_proposition = one_tree proposition_form proposition_one
