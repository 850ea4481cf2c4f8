-- What formulas are read to is determined, where what terms, types and adjectives' arguments are read to is.
use Rattle.std.proofs.Common.{◌≡◌, ℕ, List, [], ◌∷◌, refl, sym, ap, ◌∙◌, subst, Option, Some}
use Rattle.std.specs.Prelude.{Result, Ok, Err}
use Rattle.mz_base.specs.declared.place.Place.{Place}
use Rattle.mz_core.specs.Statement.{Statement}
use Rattle.mz_context.specs.Context.{next}
use Rattle.mz_context.specs.declared.context.Context.{Context}
use Rattle.mz_environment.specs.declared.environment.Environment.{Environment}
use Rattle.mz_names.specs.Closing.{with_variables}
use Rattle.mz_names.specs.declared.refusal.Refusal.{Refusal}
use Rattle.mz_names.specs.declared.variable.Variable.{Variable}
use Rattle.mz_tree.specs.Trees.{FormulaData, DisjunctionData, ConjunctionData, UnitData, QuantifiedData}
use Rattle.mz_tree.specs.Places.{first_place}
use Rattle.mz_tree.specs.Spell.{spell_formula, spell_disjunction, spell_conjunction, spell_unit}
use Rattle.mz_free.specs.Free.{free_variables}
use Rattle.mz_joined.specs.Bound.{for_all_within}
use Rattle.mz_joined.specs.Joined.{denied, conjoined, disjoined, implied, equated, under}
use Rattle.mz_formulas.specs.Atoms.{listed_adjectives}
use Rattle.mz_formulas.specs.Formulas as fo
use Rattle.mz_formulas.specs.Formulas.{listed_units, listed_conjunctions, declared_in, bound_by, ReadsFormula, ReadsDisjunction, ReadsDisjuncts, ReadsConjunction, ReadsConjuncts, ReadsUnit, ReadsQuantified, ReadsBody}
use Rattle.mz_formulas.specs.Sentences as se
use Rattle.mz_formulas.specs.Sentences.{sentence_of, ReadsSentence}
use Rattle.mz_formulas.specs.declared.sentence.Sentence.{Sentence}
use Rattle.mz_formula_laws.proofs.OneAtom.{Determined, one_predicate, one_private, one_is_type, one_is_adjectives, one_declared}

abbrev good : {X : Type 0} → X → Result X Refusal
good x = Ok x

ok-inj : {X : Type 0} (x y : X) → good x ≡ good y → x ≡ y
ok-inj x y h = cc

one_place : (o : Option Place) (p q : Place) → o ≡ Some p → o ≡ Some q → p ≡ q
one_place o p q h k = cc

mutual
  pub one_formula : (l : Determined) (e : Environment) (least : ℕ) (c : Context) (f : FormulaData) (o : Result Statement Refusal) → ReadsFormula e least c f o → (p : Result Statement Refusal) → ReadsFormula e least c f p → o ≡ p
  one_formula l e least _ _ _ (fo.plain c d o h) p (fo.plain _ _ _ k) = one_disjunction l e least c d o h p k
  one_formula l e least _ _ _ (fo.implies_refused c d f a r h) p (fo.implies_refused _ _ _ _ s k) = one_disjunction l e least c d (Err r) h (Err s) k
  one_formula l e least _ _ _ (fo.implies_refused c d f a r h) p (fo.implies _ _ _ _ g s x k m n) = let q = one_disjunction l e least c d (Err r) h (Ok s) k in cc
  one_formula l e least _ _ _ (fo.implies c d f a g s x h i j) p (fo.implies_refused _ _ _ _ r k) = let q = one_disjunction l e least c d (Ok s) h (Err r) k in cc
  one_formula l e least _ _ _ (fo.implies c d f a g s x h i j) p (fo.implies _ _ _ _ g' s' x' k m n) =
      let q : s ≡ s' = ok-inj s s' (one_disjunction l e least c d (Ok s) h (Ok s') k) in
      let z : x ≡ x' = one_disjunction l e least c f x i x' m in
      let y : g ≡ g' = one_place (first_place (spell_disjunction d)) g g' j n in
      ap (λ b. implied b s x) y ∙ (ap (λ b. implied g' b x) q ∙ ap (implied g' s') z)
  one_formula l e least _ _ _ (fo.iff_refused c d f a r h) p (fo.iff_refused _ _ _ _ s k) = one_disjunction l e least c d (Err r) h (Err s) k
  one_formula l e least _ _ _ (fo.iff_refused c d f a r h) p (fo.iff _ _ _ _ g s x k m n) = let q = one_disjunction l e least c d (Err r) h (Ok s) k in cc
  one_formula l e least _ _ _ (fo.iff c d f a g s x h i j) p (fo.iff_refused _ _ _ _ r k) = let q = one_disjunction l e least c d (Ok s) h (Err r) k in cc
  one_formula l e least _ _ _ (fo.iff c d f a g s x h i j) p (fo.iff _ _ _ _ g' s' x' k m n) =
      let q : s ≡ s' = ok-inj s s' (one_disjunction l e least c d (Ok s) h (Ok s') k) in
      let z : x ≡ x' = one_disjunction l e least c f x i x' m in
      let y : g ≡ g' = one_place (first_place (spell_disjunction d)) g g' j n in
      ap (λ b. equated b s x) y ∙ (ap (λ b. equated g' b x) q ∙ ap (equated g' s') z)

  pub one_disjunction : (l : Determined) (e : Environment) (least : ℕ) (c : Context) (d : DisjunctionData) (o : Result Statement Refusal) → ReadsDisjunction e least c d o → (p : Result Statement Refusal) → ReadsDisjunction e least c d p → o ≡ p
  one_disjunction l e least _ _ o (fo.disjunction c k ks g x _ h i j) p (fo.disjunction _ _ _ g' x' _ h' i' j') =
      let q : x' ≡ x = sym (one_conjunction l e least c k x h x' h') in
      let y : g' ≡ g = one_place (first_place (spell_conjunction k)) g' g i' i in
      one_disjuncts l e least g c (listed_conjunctions ks) x o j p (subst (λ b. ReadsDisjuncts e least b c (listed_conjunctions ks) x p) y (subst (λ b. ReadsDisjuncts e least g' c (listed_conjunctions ks) b p) q j'))

  pub one_disjuncts : (l : Determined) (e : Environment) (least : ℕ) (g : Place) (c : Context) (ks : List ConjunctionData) (s : Result Statement Refusal) (o : Result Statement Refusal) → ReadsDisjuncts e least g c ks s o → (p : Result Statement Refusal) → ReadsDisjuncts e least g c ks s p → o ≡ p
  one_disjuncts l e least _ _ _ _ _ (fo.disjunct_refused g c ks r) p (fo.disjunct_refused _ _ _ _) = refl
  one_disjuncts l e least _ _ _ _ _ (fo.no_disjunct g c s) p (fo.no_disjunct _ _ _) = refl
  one_disjuncts l e least _ _ _ _ o (fo.disjunct g c k ks s x _ h i) p (fo.disjunct _ _ _ _ _ y _ m n) =
      let q : y ≡ x = sym (one_conjunction l e least c k x h y m) in
      one_disjuncts l e least g c ks (disjoined g s x) o i p (subst (λ z. ReadsDisjuncts e least g c ks (disjoined g s z) p) q n)

  pub one_conjunction : (l : Determined) (e : Environment) (least : ℕ) (c : Context) (d : ConjunctionData) (o : Result Statement Refusal) → ReadsConjunction e least c d o → (p : Result Statement Refusal) → ReadsConjunction e least c d p → o ≡ p
  one_conjunction l e least _ _ o (fo.conjunction c u us g x _ h i j) p (fo.conjunction _ _ _ g' x' _ h' i' j') =
      let q : x' ≡ x = sym (one_unit l e least c u x h x' h') in
      let y : g' ≡ g = one_place (first_place (spell_unit u)) g' g i' i in
      one_conjuncts l e least g c (listed_units us) x o j p (subst (λ b. ReadsConjuncts e least b c (listed_units us) x p) y (subst (λ b. ReadsConjuncts e least g' c (listed_units us) b p) q j'))

  pub one_conjuncts : (l : Determined) (e : Environment) (least : ℕ) (g : Place) (c : Context) (us : List UnitData) (s : Result Statement Refusal) (o : Result Statement Refusal) → ReadsConjuncts e least g c us s o → (p : Result Statement Refusal) → ReadsConjuncts e least g c us s p → o ≡ p
  one_conjuncts l e least _ _ _ _ _ (fo.conjunct_refused g c us r) p (fo.conjunct_refused _ _ _ _) = refl
  one_conjuncts l e least _ _ _ _ _ (fo.no_conjunct g c s) p (fo.no_conjunct _ _ _) = refl
  one_conjuncts l e least _ _ _ _ o (fo.conjunct g c u us s x _ h i) p (fo.conjunct _ _ _ _ _ y _ m n) =
      let q : y ≡ x = sym (one_unit l e least c u x h y m) in
      one_conjuncts l e least g c us (conjoined g s x) o i p (subst (λ z. ReadsConjuncts e least g c us (conjoined g s z) p) q n)

  pub one_unit : (l : Determined) (e : Environment) (least : ℕ) (c : Context) (u : UnitData) (o : Result Statement Refusal) → ReadsUnit e least c u o → (p : Result Statement Refusal) → ReadsUnit e least c u p → o ≡ p
  one_unit l e least _ _ _ (fo.negated c a u x h) p (fo.negated _ _ _ y k) = ap (denied a) (one_unit l e least c u x h y k)
  one_unit l e least _ _ _ (fo.contradiction c a) p (fo.contradiction _ _) = refl
  one_unit l e least _ _ _ (fo.thesis c a) p (fo.thesis _ _) = refl
  one_unit l e least _ _ _ (fo.quantified c q o h) p (fo.quantified _ _ _ k) = one_quantified l e least c q o h p k
  one_unit l e least _ _ _ (fo.group c a b f o h) p (fo.group _ _ _ _ _ k) = one_formula l e least c f o h p k
  one_unit l e least _ _ _ (fo.private c w a b o h) p (fo.private _ _ _ _ _ k) = one_private l e c least w _ o p h k
  one_unit l e least _ _ _ (fo.private_with c w a b ts o h) p (fo.private_with _ _ _ _ _ _ k) = one_private l e c least w _ o p h k
  one_unit l e least _ _ _ (fo.predicate c w o h) p (fo.predicate _ _ _ k) = one_predicate l e c least _ w _ o p h k
  one_unit l e least _ _ _ (fo.predicate_right c w us o h) p (fo.predicate_right _ _ _ _ k) = one_predicate l e c least _ w _ o p h k
  one_unit l e least _ _ _ (fo.predicate_left c w ts o h) p (fo.predicate_left _ _ _ _ k) = one_predicate l e c least _ w _ o p h k
  one_unit l e least _ _ _ (fo.predicate_both c w ts us o h) p (fo.predicate_both _ _ _ _ _ k) = one_predicate l e c least _ w _ o p h k
  one_unit l e least _ _ _ (fo.is_type c a t ty o h) p (fo.is_type _ _ _ _ _ k) = one_is_type l e c least t ty o p h k
  one_unit l e least _ _ _ (fo.is_adjectives c a t b xs o h) p (fo.is_adjectives _ _ _ _ _ _ k) = one_is_adjectives l e c least t b (listed_adjectives xs) o p h k

  pub one_quantified : (l : Determined) (e : Environment) (least : ℕ) (c : Context) (q : QuantifiedData) (o : Result Statement Refusal) → ReadsQuantified e least c q o → (p : Result Statement Refusal) → ReadsQuantified e least c q p → o ≡ p
  one_quantified l e least _ _ _ (fo.declared_refused c q r h) p (fo.declared_refused _ _ s k) = let z = one_declared l e least c (declared_in q) (Err r) (Err s) h k in cc
  one_quantified l e least _ _ _ (fo.declared_refused c q r h) p (fo.declared _ _ vs x k m) = let z = one_declared l e least c (declared_in q) (Err r) (Ok vs) h k in cc
  one_quantified l e least _ _ _ (fo.declared c q vs x h i) p (fo.declared_refused _ _ s k) = let z = one_declared l e least c (declared_in q) (Ok vs) (Err s) h k in cc
  one_quantified l e least _ _ _ (fo.declared c q vs x h i) p (fo.declared _ _ us y k m) =
      let z : us ≡ vs = ok-inj us vs (one_declared l e least c (declared_in q) (Ok us) (Ok vs) k h) in
      let w : x ≡ y = one_body l e least (with_variables c vs) q x i y (subst (λ b. ReadsBody e least (with_variables c b) q y) z m) in
      ap (bound_by q (next c) vs) w ∙ ap (λ b. bound_by q (next c) b y) (sym z)

  pub one_body : (l : Determined) (e : Environment) (least : ℕ) (c : Context) (q : QuantifiedData) (o : Result Statement Refusal) → ReadsBody e least c q o → (p : Result Statement Refusal) → ReadsBody e least c q p → o ≡ p
  one_body l e least _ _ _ (fo.holds c a b d ds f o h) p (fo.holds _ _ _ _ _ _ _ k) = one_formula l e least c f o h p k
  one_body l e least _ _ _ (fo.exists c a b d ds f o h) p (fo.exists _ _ _ _ _ _ _ k) = one_formula l e least c f o h p k
  one_body l e least _ _ _ (fo.further c a d ds q o h) p (fo.further _ _ _ _ _ _ k) = one_quantified l e least c q o h p k
  one_body l e least _ _ _ (fo.such_refused c a b v d ds f g r h) p (fo.such_refused _ _ _ _ _ _ _ _ s k) = one_formula l e least c f (Err r) h (Err s) k
  one_body l e least _ _ _ (fo.such_refused c a b v d ds f g r h) p (fo.such _ _ _ _ _ _ _ _ s x k m) = let z = one_formula l e least c f (Err r) h (Ok s) k in cc
  one_body l e least _ _ _ (fo.such c a b v d ds f g s x h i) p (fo.such_refused _ _ _ _ _ _ _ _ r k) = let z = one_formula l e least c f (Ok s) h (Err r) k in cc
  one_body l e least _ _ _ (fo.such c a b v d ds f g s x h i) p (fo.such _ _ _ _ _ _ _ _ t y k m) =
      ap (λ z. under z x) (ok-inj s t (one_formula l e least c f (Ok s) h (Ok t) k)) ∙ ap (under t) (one_formula l e least c g x i y m)
  one_body l e least _ _ _ (fo.such_further_refused c a v d ds f q r h) p (fo.such_further_refused _ _ _ _ _ _ _ s k) = one_formula l e least c f (Err r) h (Err s) k
  one_body l e least _ _ _ (fo.such_further_refused c a v d ds f q r h) p (fo.such_further _ _ _ _ _ _ _ s x k m) = let z = one_formula l e least c f (Err r) h (Ok s) k in cc
  one_body l e least _ _ _ (fo.such_further c a v d ds f q s x h i) p (fo.such_further_refused _ _ _ _ _ _ _ r k) = let z = one_formula l e least c f (Ok s) h (Err r) k in cc
  one_body l e least _ _ _ (fo.such_further c a v d ds f q s x h i) p (fo.such_further _ _ _ _ _ _ _ t y k m) =
      ap (λ z. under z x) (ok-inj s t (one_formula l e least c f (Ok s) h (Ok t) k)) ∙ ap (under t) (one_quantified l e least c q x i y m)

pub one_sentence : (l : Determined) (e : Environment) (least : ℕ) (c : Context) (f : FormulaData) (o p : Result Sentence Refusal) → ReadsSentence e least c f o → ReadsSentence e least c f p → o ≡ p
one_sentence l e least c f o p (se.formula_refused r h) (se.formula_refused s k) = let q = one_formula l e least (with_variables c (free_variables least c f)) f (Err r) h (Err s) k in cc
one_sentence l e least c f o p (se.formula_refused r h) (se.formula_read s g k m) = let q = one_formula l e least (with_variables c (free_variables least c f)) f (Err r) h (Ok s) k in cc
one_sentence l e least c f o p (se.formula_read s g h i) (se.formula_refused r k) = let q = one_formula l e least (with_variables c (free_variables least c f)) f (Ok s) h (Err r) k in cc
one_sentence l e least c f o p (se.formula_read s g h i) (se.formula_read t j k m) =
    let q : s ≡ t = ok-inj s t (one_formula l e least (with_variables c (free_variables least c f)) f (Ok s) h (Ok t) k) in
    let y : g ≡ j = one_place (first_place (spell_formula f)) g j i m in
    ap (λ x. sentence_of (free_variables least c f) s (for_all_within x (next c) (free_variables least c f) s)) y ∙ ap (λ x. sentence_of (free_variables least c f) x (for_all_within j (next c) (free_variables least c f) x)) q
