-- What formulas and sentences are read to is usable.
use Rattle.std.proofs.Common.{◌≡◌, ℕ, true, List, refl, Some, None}
use Rattle.std.specs.Prelude.{Result, Ok, Err}
use Rattle.mz_base.specs.declared.place.Place.{Place}
use Rattle.mz_core.specs.Statement.{Statement}
use Rattle.mz_context.specs.Context.{next}
use Rattle.mz_context.specs.declared.context.Context.{Context}
use Rattle.mz_environment.specs.declared.environment.Environment.{Environment}
use Rattle.mz_names.specs.Closing.{with_variables}
use Rattle.mz_names.specs.declared.refusal.Refusal.{Refusal}
use Rattle.mz_names.specs.declared.variable.Variable.{Variable}
use Rattle.mz_free.specs.Free.{free_variables}
use Rattle.mz_tree.specs.Trees.{FormulaData, DisjunctionData, ConjunctionData, UnitData, QuantifiedData, ForQuantified, ForSuchQuantified, ForFurtherQuantified, ForSuchFurtherQuantified, ExistsQuantified}
use Rattle.mz_joined.specs.Joined.{conjoined, disjoined}
use Rattle.mz_joined.specs.Bound.{for_all_within}
use Rattle.mz_formulas.specs.Atoms.{listed_adjectives}
use Rattle.mz_formulas.specs.Formulas as fo
use Rattle.mz_formulas.specs.Formulas.{listed_units, listed_conjunctions, declared_in, quantifier, bound_by, ReadsFormula, ReadsDisjunction, ReadsDisjuncts, ReadsConjunction, ReadsConjuncts, ReadsUnit, ReadsQuantified, ReadsBody}
use Rattle.mz_formulas.specs.Sentences as se
use Rattle.mz_formulas.specs.Sentences.{sentence_of, ReadsSentence}
use Rattle.mz_formulas.specs.declared.sentence.Sentence.{Sentence}
use Rattle.mz_term_laws.specs.Usable.{statement_usable}
use Rattle.mz_term_laws.specs.ChangeLaws.{AreUsable}
use Rattle.mz_term_laws.proofs.Outcomes.{on_ok}
use Rattle.mz_term_laws.proofs.ChangeProofs.{variables_law}
use Rattle.mz_term_laws.proofs.AppliedProofs.{Reading}
use Rattle.mz_reading_laws.specs.ReadingLaws.{FormulaLaw, DeclaredLaw, IsUsableSentence, SentenceLaw}
use Rattle.mz_reading_laws.proofs.BoundProofs.{denied_usable, conjoined_usable, disjoined_usable, implied_usable, equated_usable, under_usable, thesis_usable, for_all_within_usable, there_are_within_usable}
use Rattle.mz_reading_laws.proofs.AtomProofs.{predicate_usable, private_usable, is_type_usable, is_adjectives_usable}
use Rattle.mz_reading_laws.proofs.DeclarationProofs.{free_usable, declared_usable}

-- the reading goes on behind variables
behind_variables : (e : Environment) (c : Context) (from least : ℕ) → Reading e c from least → (vs : List Variable) → AreUsable from c vs → Reading e (with_variables c vs) from least
behind_variables e c from least r vs u = record { environment = r.environment; context = variables_law from c vs r.context u; below = r.below }

quantifier_usable : (from : ℕ) (c : Context) (q : QuantifiedData) (vs : List Variable) (s : Statement) → AreUsable from c vs → statement_usable from (with_variables c vs) s ≡ true → on_ok (statement_usable from c) (quantifier q (next c) vs s) ≡ true
quantifier_usable from c (ForQuantified p d ds h f) vs s u k = for_all_within_usable from c p vs s u k
quantifier_usable from c (ForSuchQuantified p d ds q f h g) vs s u k = for_all_within_usable from c p vs s u k
quantifier_usable from c (ForFurtherQuantified p d ds q) vs s u k = for_all_within_usable from c p vs s u k
quantifier_usable from c (ForSuchFurtherQuantified p d ds r f q) vs s u k = for_all_within_usable from c p vs s u k
quantifier_usable from c (ExistsQuantified p d ds q f) vs s u k = there_are_within_usable from c p vs s u k

bound_usable : (from : ℕ) (c : Context) (q : QuantifiedData) (vs : List Variable) (o : Result Statement Refusal) → AreUsable from c vs → on_ok (statement_usable from (with_variables c vs)) o ≡ true → on_ok (statement_usable from c) (bound_by q (next c) vs o) ≡ true
bound_usable from c q vs (Err r) u k = refl
bound_usable from c q vs (Ok s) u k = quantifier_usable from c q vs s u k

mutual
  pub formula_usable : (e : Environment) (from least : ℕ) (c : Context) (f : FormulaData) (o : Result Statement Refusal) → ReadsFormula e least c f o → Reading e c from least → on_ok (statement_usable from c) o ≡ true
  formula_usable e from least c f o (fo.plain d g x h) r = disjunction_usable e from least d g x h r
  formula_usable e from least c f o (fo.implies_refused d g k p x h) r = refl
  formula_usable e from least c f o (fo.implies d g k p first s x h i j) r = implied_usable from d first s x (disjunction_usable e from least d g (Ok s) h r) (disjunction_usable e from least d k x i r)
  formula_usable e from least c f o (fo.iff_refused d g k p x h) r = refl
  formula_usable e from least c f o (fo.iff d g k p first s x h i j) r = equated_usable from d first s x (disjunction_usable e from least d g (Ok s) h r) (disjunction_usable e from least d k x i r)

  disjunction_usable : (e : Environment) (from least : ℕ) (c : Context) (d : DisjunctionData) (o : Result Statement Refusal) → ReadsDisjunction e least c d o → Reading e c from least → on_ok (statement_usable from c) o ≡ true
  disjunction_usable e from least c d o (fo.disjunction b k ks first p x h i j) r = disjuncts_usable e from least first b (listed_conjunctions ks) p x j (conjunction_usable e from least b k p h r) r

  disjuncts_usable : (e : Environment) (from least : ℕ) (first : Place) (c : Context) (ks : List ConjunctionData) (s o : Result Statement Refusal) → ReadsDisjuncts e least first c ks s o → on_ok (statement_usable from c) s ≡ true → Reading e c from least → on_ok (statement_usable from c) o ≡ true
  disjuncts_usable e from least first c ks s o (fo.disjunct_refused f b ls x) hs r = refl
  disjuncts_usable e from least first c ks s o (fo.no_disjunct f b t) hs r = hs
  disjuncts_usable e from least first c ks s o (fo.disjunct f b k ls t p x h i) hs r =
      disjuncts_usable e from least f b ls (disjoined f t p) x i (disjoined_usable from b f t p hs (conjunction_usable e from least b k p h r)) r

  conjunction_usable : (e : Environment) (from least : ℕ) (c : Context) (d : ConjunctionData) (o : Result Statement Refusal) → ReadsConjunction e least c d o → Reading e c from least → on_ok (statement_usable from c) o ≡ true
  conjunction_usable e from least c d o (fo.conjunction b u us first p x h i j) r = conjuncts_usable e from least first b (listed_units us) p x j (unit_usable e from least b u p h r) r

  conjuncts_usable : (e : Environment) (from least : ℕ) (first : Place) (c : Context) (us : List UnitData) (s o : Result Statement Refusal) → ReadsConjuncts e least first c us s o → on_ok (statement_usable from c) s ≡ true → Reading e c from least → on_ok (statement_usable from c) o ≡ true
  conjuncts_usable e from least first c us s o (fo.conjunct_refused f b ls x) hs r = refl
  conjuncts_usable e from least first c us s o (fo.no_conjunct f b t) hs r = hs
  conjuncts_usable e from least first c us s o (fo.conjunct f b u ls t p x h i) hs r =
      conjuncts_usable e from least f b ls (conjoined f t p) x i (conjoined_usable from b f t p hs (unit_usable e from least b u p h r)) r

  unit_usable : (e : Environment) (from least : ℕ) (c : Context) (u : UnitData) (o : Result Statement Refusal) → ReadsUnit e least c u o → Reading e c from least → on_ok (statement_usable from c) o ≡ true
  unit_usable e from least c u o (fo.negated b p v x h) r = denied_usable from b p x (unit_usable e from least b v x h r)
  unit_usable e from least c u o (fo.contradiction b p) r = refl
  unit_usable e from least c u o (fo.thesis b p) r = thesis_usable from b p b.thesis r.context.thesis
  unit_usable e from least c u o (fo.quantified b q x h) r = quantified_usable e from least b q x h r
  unit_usable e from least c u o (fo.group b p q f x h) r = formula_usable e from least b f x h r
  unit_usable e from least c u o (fo.private b w p q x h) r = private_usable e b from least r w None x h
  unit_usable e from least c u o (fo.private_with b w p q ts x h) r = private_usable e b from least r w (Some ts) x h
  unit_usable e from least c u o (fo.predicate b w x h) r = predicate_usable e b from least r None w None x h
  unit_usable e from least c u o (fo.predicate_right b w us x h) r = predicate_usable e b from least r None w (Some us) x h
  unit_usable e from least c u o (fo.predicate_left b w ts x h) r = predicate_usable e b from least r (Some ts) w None x h
  unit_usable e from least c u o (fo.predicate_both b w ts us x h) r = predicate_usable e b from least r (Some ts) w (Some us) x h
  unit_usable e from least c u o (fo.is_type b p t ty x h) r = is_type_usable e b from least r t ty x h
  unit_usable e from least c u o (fo.is_adjectives b p t a xs x h) r = is_adjectives_usable e b from least r t a (listed_adjectives xs) x h

  quantified_usable : (e : Environment) (from least : ℕ) (c : Context) (q : QuantifiedData) (o : Result Statement Refusal) → ReadsQuantified e least c q o → Reading e c from least → on_ok (statement_usable from c) o ≡ true
  quantified_usable e from least c q o (fo.declared_refused b p x h) r = refl
  quantified_usable e from least c q o (fo.declared b p vs x h i) r =
      let u : AreUsable from b vs = declared_usable e b from least r (declared_in p) (Ok vs) h in
      bound_usable from b p vs x u (body_usable e from least (with_variables b vs) p x i (behind_variables e b from least r vs u))

  body_usable : (e : Environment) (from least : ℕ) (c : Context) (q : QuantifiedData) (o : Result Statement Refusal) → ReadsBody e least c q o → Reading e c from least → on_ok (statement_usable from c) o ≡ true
  body_usable e from least c q o (fo.holds b p h d ds f x k) r = formula_usable e from least b f x k r
  body_usable e from least c q o (fo.exists b p s d ds f x k) r = formula_usable e from least b f x k r
  body_usable e from least c q o (fo.further b p d ds s x k) r = quantified_usable e from least b s x k r
  body_usable e from least c q o (fo.such_refused b p s h d ds f g x k) r = refl
  body_usable e from least c q o (fo.such b p s h d ds f g t x k l) r = under_usable from b t x (formula_usable e from least b f (Ok t) k r) (formula_usable e from least b g x l r)
  body_usable e from least c q o (fo.such_further_refused b p s d ds f g x k) r = refl
  body_usable e from least c q o (fo.such_further b p s d ds f g t x k l) r = under_usable from b t x (formula_usable e from least b f (Ok t) k r) (quantified_usable e from least b g x l r)

-- sentences
abbrev SentenceSo : ℕ → Context → Result Sentence Refusal → Type 0
SentenceSo from c (Err r) = Unit {0}
SentenceSo from c (Ok s) = IsUsableSentence from c s

sentence_so : (from : ℕ) (c : Context) (vs : List Variable) (s : Statement) (o : Result Statement Refusal) → AreUsable from c vs → statement_usable from (with_variables c vs) s ≡ true → on_ok (statement_usable from c) o ≡ true → SentenceSo from c (sentence_of vs s o)
sentence_so from c vs s (Err r) u h k = tt
sentence_so from c vs s (Ok t) u h k = record { variables = u; inner = h; closed = k }

sentence_usable : (e : Environment) (c : Context) (from least : ℕ) → Reading e c from least → (f : FormulaData) (o : Result Sentence Refusal) → ReadsSentence e least c f o → SentenceSo from c o
sentence_usable e c from least r f o (se.formula_refused x h) = tt
sentence_usable e c from least r f o (se.formula_read s first h i) =
    let vs : List Variable = free_variables least c f in
    let u : AreUsable from c vs = free_usable from least c r.below r.context f in
    let inner : statement_usable from (with_variables c vs) s ≡ true = formula_usable e from least (with_variables c vs) f (Ok s) h (behind_variables e c from least r vs u) in
    sentence_so from c vs s (for_all_within first (next c) vs s) u inner (for_all_within_usable from c first vs s u inner)

pub formula_law : FormulaLaw
formula_law e c from least ce w le f s h = formula_usable e from least c f (Ok s) h (record { environment = ce; context = w; below = le })

pub declared_law : DeclaredLaw
declared_law e c from least ce w le ds vs h = declared_usable e c from least (record { environment = ce; context = w; below = le }) ds (Ok vs) h

pub sentence_law : SentenceLaw
sentence_law e c from least ce w le f s h = sentence_usable e c from least (record { environment = ce; context = w; below = le }) f (Ok s) h
