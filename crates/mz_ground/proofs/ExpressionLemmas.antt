-- Expressions of formulas, and what putting them into a ground part leaves.
use Rattle.std.proofs.Common.{◌≡◌, ◌<◌, ◌≤◌, ◌+◌, ℕ, Bool, true, false, List, [], ◌∷◌, ◌++◌, length, map, take, get_or, refl, sym as inverse, ap, ◌∙◌, subst, arith, ◌⊎◌, inl, inr, Option, Some, None}
use Rattle.std.specs.Prelude.{Contains, ◌&&◌}
use Rattle.std.specs.List.{list_all}
use Rattle.std.proofs.lemmas.List.{map_push, length-append, take_more, take_all}
use Rattle.std.proofs.lemmas.List.Elements.{Contains-append_left, Contains-append_right, Contains-push_cases}
use Rattle.std.proofs.lemmas.Bool.{false≢true}
use Rattle.mz_logic.specs.declared.sym.Sym.{Sym}
use Rattle.mz_logic.specs.Term.{Term}
use Rattle.mz_logic.specs.Formula.{Formula, Truth, Eq, Atom, Not, And, All}
use Rattle.mz_logic.specs.Literal.{signed, literal_formula}
use Rattle.mz_logic.specs.declared.literal.Literal as literal
use Rattle.mz_logic.specs.declared.literal.Literal.TheVariants as literals
use Rattle.mz_logic.specs.Indices.{closed}
use Rattle.mz_ground.specs.GroundExpression.{GroundExpression, TermExpression, AtomExpression, EquationExpression, IsAtomExpression, IsWithin, Has, the_atom, the_equation, in_atom, in_left, in_right, in_negation, in_first, in_second, in_body, expression_closed}
use Rattle.mz_logic.specs.Substitution.{substitute, value_at}
use Rattle.mz_logic.proofs.ValueLaws.{substitute-no_values}
use Rattle.mz_ground.specs.Instance.{literal_at}
use Rattle.mz_ground.specs.Ground.{term_at, most_atoms}
use Rattle.mz_ground.specs.Table.{IsPlaced, entry_terms, Reads, AddedTerms, AddsTerm, AddsTerms}
use Rattle.mz_ground.specs.Growth.{IsNumbered, ReadsIn, Grows, IsExpressionOf, IsExpressionOfLiterals, IsExpressionOfFormulas}
use Rattle.mz_ground.specs.declared.ground_part.Ground.{Ground}
use Rattle.mz_ground.specs.declared.ground_term.GroundTerm.{GroundTerm}
use Rattle.mz_ground.specs.declared.ground_atom.GroundAtom.{GroundAtom}
use Rattle.mz_ground.specs.declared.ground_equation.GroundEquation.{GroundEquation}
use Rattle.mz_ground.proofs.ListLemmas.{contains_none, contains_first, contains_later, contains_cases, contains_one}
use Rattle.mz_ground.proofs.TableLemmas.{entry_terms-length, entry_terms_closed, term_at-contained, term_at_grown, reads_grown}
use Rattle.mz_ground.proofs.AddLemmas.{added_more}
use Rattle.mz_ground.proofs.GrowthLemmas.{reads_from, grows_nothing, grows_both, grows_as, IsTermOf, grows_terms, grows_atom, grows_past, grows_equation, reads_in_grown}

-- a term within one of the terms
abbrev IsTermIn : List Term → GroundExpression → Type 0
IsTermIn ts (TermExpression v) = (t : Term) × Contains ts t × IsWithin v t
IsTermIn ts (AtomExpression s us) = ⊥
IsTermIn ts (EquationExpression u w) = ⊥

-- what stands in a formula, by its form
abbrev HasCases : Formula → GroundExpression → Type 0
HasCases Truth p = ⊥
HasCases (Eq t u) p = (EquationExpression t u ≡ p) ⊎ IsTermIn (t ∷ u ∷ []) p
HasCases (Atom s ts) p = (AtomExpression s ts ≡ p) ⊎ IsTermIn ts p
HasCases (Not f) p = Has f p
HasCases (And f g) p = Has f p ⊎ Has g p
HasCases (All f) p = Has f p

has_cases : {f : Formula} {p : GroundExpression} → Has f p → HasCases f p
has_cases (the_atom s ts) = inl refl
has_cases (the_equation t u) = inl refl
has_cases (in_atom s ts t u c w) = inr (t, c, w)
has_cases (in_left t u v w) = inr (t, contains_first t (u ∷ []), w)
has_cases (in_right t u v w) = inr (u, contains_later t u (u ∷ []) (contains_first u []), w)
has_cases (in_negation f p h) = h
has_cases (in_first f g p h) = inl h
has_cases (in_second f g p h) = inr h
has_cases (in_body f p h) = h

and_true : (a b : Bool) → a ≡ true → b ≡ true → (a && b) ≡ true
and_true true b h k = k
and_true false b h k = h

and_left : (a b : Bool) → (a && b) ≡ true → a ≡ true
and_left true b h = refl
and_left false b h = h

and_right : (a b : Bool) → (a && b) ≡ true → b ≡ true
and_right true b h = h
and_right false b h = absurd (false≢true h)

apart : (b : Bool) → b ≡ true → b ≡ false → ⊥
apart b p q = false≢true (inverse q ∙ p)

-- expressions of an atom are its closed terms, and itself where it is closed
atom_from_terms : (s : Sym) (us : List Term) (p : GroundExpression) → IsTermOf us p → IsExpressionOf (Atom s us) p
atom_from_terms s us (TermExpression u) q = record { has = in_atom s us q.outer u q.among q.within; is_closed = q.is_closed }
atom_from_terms s us (AtomExpression r ts) q = absurd q
atom_from_terms s us (EquationExpression t u) q = absurd q

atom_itself : (s : Sym) (us : List Term) (p : GroundExpression) → list_all closed us ≡ true → AtomExpression s us ≡ p → IsExpressionOf (Atom s us) p
atom_itself s us p c e = subst (λ (z : GroundExpression). IsExpressionOf (Atom s us) z) e (record { has = the_atom s us; is_closed = c })

terms_from : (us : List Term) (p : GroundExpression) → IsTermIn us p → expression_closed p ≡ true → IsTermOf us p
terms_from us (TermExpression u) q c = record { outer = q.0; among = q.1; within = q.2; is_closed = c }
terms_from us (AtomExpression s ts) q c = absurd q
terms_from us (EquationExpression t u) q c = absurd q

atom_to : (s : Sym) (us : List Term) (p : GroundExpression) → IsExpressionOf (Atom s us) p → IsTermOf us p ⊎ (AtomExpression s us ≡ p)
atom_to s us p q = elim (has_cases q.has) [ inl e ↦ inr e | inr r ↦ inl (terms_from us p r q.is_closed) ]

atom_to_terms : (s : Sym) (us : List Term) (p : GroundExpression) → list_all closed us ≡ false → IsExpressionOf (Atom s us) p → IsTermOf us p
atom_to_terms s us p n q =
    elim (atom_to s us p q) [
      | inl r ↦ r
      | inr e ↦ let c : expression_closed (AtomExpression s us) ≡ true = ap expression_closed e ∙ q.is_closed in absurd (apart (list_all closed us) c n)
    ]

-- terms at places have no index
place_closed : (es : List GroundTerm) (k : ℕ) → k < length es → closed (term_at (entry_terms es) k) ≡ true
place_closed es k lt = entry_terms_closed es (term_at (entry_terms es) k) (term_at-contained (entry_terms es) k (omega (arith, entry_terms-length es)))

places_closed : (es : List GroundTerm) (ks : List ℕ) → ((k : ℕ) → Contains ks k → k < length es) → list_all closed (map (term_at (entry_terms es)) ks) ≡ true
places_closed es [] h = refl
places_closed es (k ∷ ks) h = and_true (closed (term_at (entry_terms es) k)) (list_all closed (map (term_at (entry_terms es)) ks)) (place_closed es k (h k (contains_first k ks))) (places_closed es ks (λ j w. h j (contains_later k j ks w)))

pub atom_some : (g h : Ground) (args : List ℕ) (s : Sym) (us : List Term) (ks : List ℕ) (k : ℕ) → ((ts : List Term) → Reads g.terms args ts → AddsTerms g.terms ts us (Some ks) h.terms) → IsPlaced g.atoms (record { sym = s; args = ks }) h.atoms k → h.equations ≡ g.equations → h.ends ≡ g.ends → (ts : List Term) → ReadsIn g args ts → Grows g (IsExpressionOf (Atom s (map (substitute 0 (value_at ts)) us))) h
atom_some g h args s us ks k a p ee en ts r =
    let vs : List Term = map (substitute 0 (value_at ts)) us in
    let b : AddsTerms g.terms ts us (Some ks) h.terms = a ts (reads_from g args ts r) in
    let item : GroundAtom = record { sym = s; args = ks } in
    let m : Ground = record { terms = h.terms; atoms = g.atoms; equations = g.equations; ends = g.ends } in
    let first : Grows g (IsTermOf vs) m = grows_terms g m vs r.numbered b.added refl refl refl in
    let second : Grows m (λ q. AtomExpression s (map (term_at (entry_terms h.terms)) ks) ≡ q) h = grows_atom m h item k first.numbered b.found.0 p refl ee en in
    let those : map (term_at (entry_terms h.terms)) ks ≡ vs = b.found.1 in
    let all : list_all closed vs ≡ true = ap (list_all closed) (inverse those) ∙ places_closed h.terms ks b.found.0 in
    grows_as g h (λ q. IsTermOf vs q ⊎ (AtomExpression s (map (term_at (entry_terms h.terms)) ks) ≡ q)) (IsExpressionOf (Atom s vs)) (grows_both g m h (IsTermOf vs) (λ q. AtomExpression s (map (term_at (entry_terms h.terms)) ks) ≡ q) first second)
    (λ q c. elim c [ inl d ↦ atom_from_terms s vs q d | inr e ↦ atom_itself s vs q all (ap (AtomExpression s) (inverse those) ∙ e) ])
    (λ q c. elim (atom_to s vs q c) [ inl d ↦ inl d | inr e ↦ inr (ap (AtomExpression s) those ∙ e) ])

pub atom_none : (g h : Ground) (args : List ℕ) (s : Sym) (us : List Term) → ((ts : List Term) → Reads g.terms args ts → AddsTerms g.terms ts us None h.terms) → h.atoms ≡ g.atoms → h.equations ≡ g.equations → h.ends ≡ g.ends → (ts : List Term) → ReadsIn g args ts → Grows g (IsExpressionOf (Atom s (map (substitute 0 (value_at ts)) us))) h
atom_none g h args s us a ea ee en ts r =
    let vs : List Term = map (substitute 0 (value_at ts)) us in
    let b : AddsTerms g.terms ts us None h.terms = a ts (reads_from g args ts r) in
    grows_as g h (IsTermOf vs) (IsExpressionOf (Atom s vs)) (grows_terms g h vs r.numbered b.added ea ee en)
    (λ q c. atom_from_terms s vs q c) (λ q c. atom_to_terms s vs q b.found c)

pub atom_past : (g h : Ground) (args : List ℕ) (s : Sym) (us : List Term) (ks : List ℕ) → ((ts : List Term) → Reads g.terms args ts → AddsTerms g.terms ts us (Some ks) h.terms) → most_atoms < length h.atoms → h.atoms ≡ g.atoms → h.equations ≡ g.equations → h.ends ≡ g.ends → (ts : List Term) → ReadsIn g args ts → Grows g (IsExpressionOf (Atom s (map (substitute 0 (value_at ts)) us))) h
atom_past g h args s us ks a lt ea ee en ts r =
    let vs : List Term = map (substitute 0 (value_at ts)) us in
    let b : AddsTerms g.terms ts us (Some ks) h.terms = a ts (reads_from g args ts r) in
    let first : Grows g (IsTermOf vs) h = grows_terms g h vs r.numbered b.added ea ee en in
    let second : Grows h (λ q. AtomExpression s vs ≡ q) h = grows_past h (λ q. AtomExpression s vs ≡ q) first.numbered lt (λ q e. subst IsAtomExpression e tt) in
    let those : map (term_at (entry_terms h.terms)) ks ≡ vs = b.found.1 in
    let all : list_all closed vs ≡ true = ap (list_all closed) (inverse those) ∙ places_closed h.terms ks b.found.0 in
    grows_as g h (λ q. IsTermOf vs q ⊎ (AtomExpression s vs ≡ q)) (IsExpressionOf (Atom s vs)) (grows_both g h h (IsTermOf vs) (λ q. AtomExpression s vs ≡ q) first second)
    (λ q c. elim c [ inl d ↦ atom_from_terms s vs q d | inr e ↦ atom_itself s vs q all e ])
    (λ q c. atom_to s vs q c)

-- the same, where the places were computed
pub told_atom_past : (g h : Ground) (args : List ℕ) (s : Sym) (us : List Term) (o : Option (List ℕ)) (ks : List ℕ) → o ≡ Some ks → ((ts : List Term) → Reads g.terms args ts → AddsTerms g.terms ts us o h.terms) → most_atoms < length h.atoms → h.atoms ≡ g.atoms → h.equations ≡ g.equations → h.ends ≡ g.ends → (ts : List Term) → ReadsIn g args ts → Grows g (IsExpressionOf (Atom s (map (substitute 0 (value_at ts)) us))) h
told_atom_past g h args s us o ks q a lt ea ee en =
    atom_past g h args s us ks (subst (λ (z : Option (List ℕ)). (ts : List Term) → Reads g.terms args ts → AddsTerms g.terms ts us z h.terms) q a) lt ea ee en

pub told_atom_some : (g h : Ground) (args : List ℕ) (s : Sym) (us : List Term) (o : Option (List ℕ)) (ks : List ℕ) (k : ℕ) → o ≡ Some ks → ((ts : List Term) → Reads g.terms args ts → AddsTerms g.terms ts us o h.terms) → IsPlaced g.atoms (record { sym = s; args = ks }) h.atoms k → h.equations ≡ g.equations → h.ends ≡ g.ends → (ts : List Term) → ReadsIn g args ts → Grows g (IsExpressionOf (Atom s (map (substitute 0 (value_at ts)) us))) h
told_atom_some g h args s us o ks k q a p ee en =
    atom_some g h args s us ks k (subst (λ (z : Option (List ℕ)). (ts : List Term) → Reads g.terms args ts → AddsTerms g.terms ts us z h.terms) q a) p ee en

pub told_atom_none : (g h : Ground) (args : List ℕ) (s : Sym) (us : List Term) (o : Option (List ℕ)) → o ≡ None → ((ts : List Term) → Reads g.terms args ts → AddsTerms g.terms ts us o h.terms) → h.atoms ≡ g.atoms → h.equations ≡ g.equations → h.ends ≡ g.ends → (ts : List Term) → ReadsIn g args ts → Grows g (IsExpressionOf (Atom s (map (substitute 0 (value_at ts)) us))) h
told_atom_none g h args s us o q a ea ee en =
    atom_none g h args s us (subst (λ (z : Option (List ℕ)). (ts : List Term) → Reads g.terms args ts → AddsTerms g.terms ts us z h.terms) q a) ea ee en

-- expressions of an equation
equation_from_terms : (t u : Term) (p : GroundExpression) → IsTermOf (t ∷ u ∷ []) p → IsExpressionOf (Eq t u) p
equation_from_terms t u (TermExpression v) q =
    elim (contains_cases t q.outer (u ∷ []) q.among) [
      | inl e ↦ record { has = in_left t u v (subst (λ (x : Term). IsWithin v x) (inverse e) q.within); is_closed = q.is_closed }
      | inr w ↦ record { has = in_right t u v (subst (λ (x : Term). IsWithin v x) (inverse (contains_one u q.outer w)) q.within); is_closed = q.is_closed }
    ]
equation_from_terms t u (AtomExpression s ts) q = absurd q
equation_from_terms t u (EquationExpression v w) q = absurd q

equation_itself : (t u : Term) (p : GroundExpression) → closed t ≡ true → closed u ≡ true → EquationExpression t u ≡ p → IsExpressionOf (Eq t u) p
equation_itself t u p c d e = subst (λ (z : GroundExpression). IsExpressionOf (Eq t u) z) e (record { has = the_equation t u; is_closed = and_true (closed t) (closed u) c d })

equation_to : (t u : Term) (p : GroundExpression) → IsExpressionOf (Eq t u) p → IsTermOf (t ∷ u ∷ []) p ⊎ ((EquationExpression t u ≡ p) × (closed t ≡ true) × (closed u ≡ true))
equation_to t u p q =
    elim (has_cases q.has) [
      | inl e ↦ let c : (closed t && closed u) ≡ true = ap expression_closed e ∙ q.is_closed in inr (e, and_left (closed t) (closed u) c, and_right (closed t) (closed u) c)
      | inr r ↦ inl (terms_from (t ∷ u ∷ []) p r q.is_closed)
    ]

-- both sides put among the terms
sides : (g h : Ground) (es : List GroundTerm) (args : List ℕ) (t u : Term) (k l : Option ℕ) → ((ts : List Term) → Reads g.terms args ts → AddsTerm g.terms ts t k es) → ((ts : List Term) → Reads es args ts → AddsTerm es ts u l h.terms) → (ts : List Term) → ReadsIn g args ts → AddedTerms g.terms (substitute 0 (value_at ts) t ∷ substitute 0 (value_at ts) u ∷ []) h.terms
sides g h es args t u k l a b ts r =
    let c : AddsTerm g.terms ts t k es = a ts (reads_from g args ts r) in
    let d : AddsTerm es ts u l h.terms = b ts (reads_grown g.terms es c.added.grown c.added.table args ts (reads_from g args ts r)) in
    added_more g.terms es h.terms (substitute 0 (value_at ts) t ∷ []) (substitute 0 (value_at ts) u) c.added d.added

left_found : (g : Ground) (es : List GroundTerm) (args : List ℕ) (t : Term) (k : Option ℕ) → ((ts : List Term) → Reads g.terms args ts → AddsTerm g.terms ts t k es) → (ts : List Term) → ReadsIn g args ts → AddsTerm g.terms ts t k es
left_found g es args t k a ts r = a ts (reads_from g args ts r)

right_found : (g h : Ground) (es : List GroundTerm) (args : List ℕ) (t u : Term) (k l : Option ℕ) → ((ts : List Term) → Reads g.terms args ts → AddsTerm g.terms ts t k es) → ((ts : List Term) → Reads es args ts → AddsTerm es ts u l h.terms) → (ts : List Term) → ReadsIn g args ts → AddsTerm es ts u l h.terms
right_found g h es args t u k l a b ts r =
    let c : AddsTerm g.terms ts t k es = a ts (reads_from g args ts r) in
    b ts (reads_grown g.terms es c.added.grown c.added.table args ts (reads_from g args ts r))

pub equation_some : (g h : Ground) (es : List GroundTerm) (args : List ℕ) (t u : Term) (k l place : ℕ) → ((ts : List Term) → Reads g.terms args ts → AddsTerm g.terms ts t (Some k) es) → ((ts : List Term) → Reads es args ts → AddsTerm es ts u (Some l) h.terms) → IsPlaced g.equations (record { left = k; right = l }) h.equations place → h.atoms ≡ g.atoms → h.ends ≡ g.ends → (ts : List Term) → ReadsIn g args ts → Grows g (IsExpressionOf (Eq (substitute 0 (value_at ts) t) (substitute 0 (value_at ts) u))) h
equation_some g h es args t u k l place a b p ea en ts r =
    let c : AddsTerm g.terms ts t (Some k) es = left_found g es args t (Some k) a ts r in
    let d : AddsTerm es ts u (Some l) h.terms = right_found g h es args t u (Some k) (Some l) a b ts r in
    let v : Term = substitute 0 (value_at ts) t in
    let w : Term = substitute 0 (value_at ts) u in
    let item : GroundEquation = record { left = k; right = l } in
    let m : Ground = record { terms = h.terms; atoms = g.atoms; equations = g.equations; ends = g.ends } in
    let all : AddedTerms g.terms (v ∷ w ∷ []) h.terms = sides g h es args t u (Some k) (Some l) a b ts r in
    let first : Grows g (IsTermOf (v ∷ w ∷ [])) m = grows_terms g m (v ∷ w ∷ []) r.numbered all refl refl refl in
    let lt : k < length h.terms = omega (arith, c.found.0, ap length d.added.grown.1, length-append es d.added.grown.0) in
    let tk : term_at (entry_terms h.terms) k ≡ v = term_at_grown es h.terms d.added.grown k c.found.0 ∙ c.found.1 in
    let tl : term_at (entry_terms h.terms) l ≡ w = d.found.1 in
    let second : Grows m (λ q. EquationExpression (term_at (entry_terms h.terms) k) (term_at (entry_terms h.terms) l) ≡ q) h = grows_equation m h item place first.numbered (lt, d.found.0) p refl ea en in
    let expression : EquationExpression (term_at (entry_terms h.terms) k) (term_at (entry_terms h.terms) l) ≡ EquationExpression v w = λ i. EquationExpression (tk i) (tl i) in
    let cv : closed v ≡ true = ap closed (inverse tk) ∙ place_closed h.terms k lt in
    let cw : closed w ≡ true = ap closed (inverse tl) ∙ place_closed h.terms l d.found.0 in
    grows_as g h (λ q. IsTermOf (v ∷ w ∷ []) q ⊎ (EquationExpression (term_at (entry_terms h.terms) k) (term_at (entry_terms h.terms) l) ≡ q)) (IsExpressionOf (Eq v w)) (grows_both g m h (IsTermOf (v ∷ w ∷ [])) (λ q. EquationExpression (term_at (entry_terms h.terms) k) (term_at (entry_terms h.terms) l) ≡ q) first second)
    (λ q x. elim x [ inl y ↦ equation_from_terms v w q y | inr e ↦ equation_itself v w q cv cw (inverse expression ∙ e) ])
    (λ q x. elim (equation_to v w q x) [ inl y ↦ inl y | inr e ↦ inr (expression ∙ e.0) ])

-- where a side has an index
equation_open : (g h : Ground) (v w : Term) → IsNumbered g → AddedTerms g.terms (v ∷ w ∷ []) h.terms → ((closed v ≡ true) → (closed w ≡ true) → ⊥) → h.atoms ≡ g.atoms → h.equations ≡ g.equations → h.ends ≡ g.ends → Grows g (IsExpressionOf (Eq v w)) h
equation_open g h v w n all never ea ee en =
    grows_as g h (IsTermOf (v ∷ w ∷ [])) (IsExpressionOf (Eq v w)) (grows_terms g h (v ∷ w ∷ []) n all ea ee en)
    (λ q x. equation_from_terms v w q x)
    (λ q x. elim (equation_to v w q x) [ inl y ↦ y | inr e ↦ absurd (never e.1 e.2) ])

pub equation_left : (g h : Ground) (es : List GroundTerm) (args : List ℕ) (t u : Term) (l : Option ℕ) → ((ts : List Term) → Reads g.terms args ts → AddsTerm g.terms ts t None es) → ((ts : List Term) → Reads es args ts → AddsTerm es ts u l h.terms) → h.atoms ≡ g.atoms → h.equations ≡ g.equations → h.ends ≡ g.ends → (ts : List Term) → ReadsIn g args ts → Grows g (IsExpressionOf (Eq (substitute 0 (value_at ts) t) (substitute 0 (value_at ts) u))) h
equation_left g h es args t u l a b ea ee en ts r =
    let c : AddsTerm g.terms ts t None es = left_found g es args t None a ts r in
    equation_open g h (substitute 0 (value_at ts) t) (substitute 0 (value_at ts) u) r.numbered (sides g h es args t u None l a b ts r) (λ p q. apart (closed (substitute 0 (value_at ts) t)) p c.found) ea ee en

pub equation_right : (g h : Ground) (es : List GroundTerm) (args : List ℕ) (t u : Term) (k : Option ℕ) → ((ts : List Term) → Reads g.terms args ts → AddsTerm g.terms ts t k es) → ((ts : List Term) → Reads es args ts → AddsTerm es ts u None h.terms) → h.atoms ≡ g.atoms → h.equations ≡ g.equations → h.ends ≡ g.ends → (ts : List Term) → ReadsIn g args ts → Grows g (IsExpressionOf (Eq (substitute 0 (value_at ts) t) (substitute 0 (value_at ts) u))) h
equation_right g h es args t u k a b ea ee en ts r =
    let d : AddsTerm es ts u None h.terms = right_found g h es args t u k None a b ts r in
    equation_open g h (substitute 0 (value_at ts) t) (substitute 0 (value_at ts) u) r.numbered (sides g h es args t u k None a b ts r) (λ p q. apart (closed (substitute 0 (value_at ts) u)) q d.found) ea ee en

-- the same, where the places were computed
abbrev AddsAt : List GroundTerm → List ℕ → Term → List GroundTerm → Option ℕ → Type 0
AddsAt es args t fs o = (ts : List Term) → Reads es args ts → AddsTerm es ts t o fs

pub told_equation_some : (g h : Ground) (es : List GroundTerm) (args : List ℕ) (t u : Term) (o p : Option ℕ) (k l place : ℕ) → o ≡ Some k → p ≡ Some l → ((ts : List Term) → Reads g.terms args ts → AddsTerm g.terms ts t o es) → ((ts : List Term) → Reads es args ts → AddsTerm es ts u p h.terms) → IsPlaced g.equations (record { left = k; right = l }) h.equations place → h.atoms ≡ g.atoms → h.ends ≡ g.ends → (ts : List Term) → ReadsIn g args ts → Grows g (IsExpressionOf (Eq (substitute 0 (value_at ts) t) (substitute 0 (value_at ts) u))) h
told_equation_some g h es args t u o p k l place eo ep a b =
    equation_some g h es args t u k l place (subst (AddsAt g.terms args t es) eo a) (subst (AddsAt es args u h.terms) ep b)

pub told_equation_left : (g h : Ground) (es : List GroundTerm) (args : List ℕ) (t u : Term) (o p : Option ℕ) → o ≡ None → ((ts : List Term) → Reads g.terms args ts → AddsTerm g.terms ts t o es) → ((ts : List Term) → Reads es args ts → AddsTerm es ts u p h.terms) → h.atoms ≡ g.atoms → h.equations ≡ g.equations → h.ends ≡ g.ends → (ts : List Term) → ReadsIn g args ts → Grows g (IsExpressionOf (Eq (substitute 0 (value_at ts) t) (substitute 0 (value_at ts) u))) h
told_equation_left g h es args t u o p eo a b = equation_left g h es args t u p (subst (AddsAt g.terms args t es) eo a) b

pub told_equation_right : (g h : Ground) (es : List GroundTerm) (args : List ℕ) (t u : Term) (o p : Option ℕ) → p ≡ None → ((ts : List Term) → Reads g.terms args ts → AddsTerm g.terms ts t o es) → ((ts : List Term) → Reads es args ts → AddsTerm es ts u p h.terms) → h.atoms ≡ g.atoms → h.equations ≡ g.equations → h.ends ≡ g.ends → (ts : List Term) → ReadsIn g args ts → Grows g (IsExpressionOf (Eq (substitute 0 (value_at ts) t) (substitute 0 (value_at ts) u))) h
told_equation_right g h es args t u o p ep a b = equation_right g h es args t u o a (subst (AddsAt es args u h.terms) ep b)

-- expressions of a negation are those of the formula
pub grows_not : (g h : Ground) (f : Formula) → Grows g (IsExpressionOf f) h → Grows g (IsExpressionOf (Not f)) h
grows_not g h f a =
    grows_as g h (IsExpressionOf f) (IsExpressionOf (Not f)) a
    (λ p q. record { has = in_negation f p q.has; is_closed = q.is_closed })
    (λ p q. record { has = has_cases q.has; is_closed = q.is_closed })

grows_all : (g h : Ground) (f : Formula) → Grows g (IsExpressionOf f) h → Grows g (IsExpressionOf (All f)) h
grows_all g h f a =
    grows_as g h (IsExpressionOf f) (IsExpressionOf (All f)) a
    (λ p q. record { has = in_body f p q.has; is_closed = q.is_closed })
    (λ p q. record { has = has_cases q.has; is_closed = q.is_closed })

grows_and : (g h k : Ground) (e f : Formula) → Grows g (IsExpressionOf e) h → Grows h (IsExpressionOf f) k → Grows g (IsExpressionOf (And e f)) k
grows_and g h k e f a b =
    grows_as g k (λ p. IsExpressionOf e p ⊎ IsExpressionOf f p) (IsExpressionOf (And e f)) (grows_both g h k (IsExpressionOf e) (IsExpressionOf f) a b)
    (λ p q. elim q [ inl x ↦ record { has = in_first e f p x.has; is_closed = x.is_closed } | inr y ↦ record { has = in_second e f p y.has; is_closed = y.is_closed } ])
    (λ p q. elim (has_cases q.has) [ inl x ↦ inl (record { has = x; is_closed = q.is_closed }) | inr y ↦ inr (record { has = y; is_closed = q.is_closed }) ])

pub all-no_values : (ts : List Term) → map (substitute 0 (value_at [])) ts ≡ ts
all-no_values [] = refl
all-no_values (t ∷ ts) = λ i. substitute-no_values 0 t i ∷ all-no_values ts i

reads_nothing : (g : Ground) → IsNumbered g → ReadsIn g [] []
reads_nothing g n = record { numbered = n; within = λ k w. absurd (contains_none k w); terms = refl }

-- formulas by their form
pub told_truth : (g : Ground) (f : Formula) → f ≡ Truth → IsNumbered g → Grows g (IsExpressionOf f) g
told_truth g f e n = subst (λ (x : Formula). Grows g (IsExpressionOf x) g) (inverse e) (grows_nothing g (IsExpressionOf Truth) n (λ p q. has_cases q.has))

pub told_equation : (g h : Ground) (f : Formula) (t u : Term) → f ≡ Eq t u → ((ts : List Term) → ReadsIn g [] ts → Grows g (IsExpressionOf (Eq (substitute 0 (value_at ts) t) (substitute 0 (value_at ts) u))) h) → IsNumbered g → Grows g (IsExpressionOf f) h
told_equation g h f t u e a n =
    let same : Eq (substitute 0 (value_at []) t) (substitute 0 (value_at []) u) ≡ f = (λ i. Eq (substitute-no_values 0 t i) (substitute-no_values 0 u i)) ∙ inverse e in
    subst (λ (x : Formula). Grows g (IsExpressionOf x) h) same (a [] (reads_nothing g n))

pub told_atom : (g h : Ground) (f : Formula) (s : Sym) (us : List Term) → f ≡ Atom s us → ((ts : List Term) → ReadsIn g [] ts → Grows g (IsExpressionOf (Atom s (map (substitute 0 (value_at ts)) us))) h) → IsNumbered g → Grows g (IsExpressionOf f) h
told_atom g h f s us e a n =
    let same : Atom s (map (substitute 0 (value_at [])) us) ≡ f = ap (Atom s) (all-no_values us) ∙ inverse e in
    subst (λ (x : Formula). Grows g (IsExpressionOf x) h) same (a [] (reads_nothing g n))

pub told_not : (g h : Ground) (f e : Formula) → f ≡ Not e → (IsNumbered g → Grows g (IsExpressionOf e) h) → IsNumbered g → Grows g (IsExpressionOf f) h
told_not g h f e q a n = subst (λ (x : Formula). Grows g (IsExpressionOf x) h) (inverse q) (grows_not g h e (a n))

pub told_all : (g h : Ground) (f e : Formula) → f ≡ All e → (IsNumbered g → Grows g (IsExpressionOf e) h) → IsNumbered g → Grows g (IsExpressionOf f) h
told_all g h f e q a n = subst (λ (x : Formula). Grows g (IsExpressionOf x) h) (inverse q) (grows_all g h e (a n))

pub told_and : (g h k : Ground) (f e d : Formula) → f ≡ And e d → (IsNumbered g → Grows g (IsExpressionOf e) h) → (IsNumbered h → Grows h (IsExpressionOf d) k) → IsNumbered g → Grows g (IsExpressionOf f) k
told_and g h k f e d q a b n = let x : Grows g (IsExpressionOf e) h = a n in subst (λ (z : Formula). Grows g (IsExpressionOf z) k) (inverse q) (grows_and g h k e d x (b x.numbered))

pub ruleset formula_rules = (told_truth, told_equation, told_atom, told_not, told_all, told_and)

-- literals
with_sign : (g h : Ground) (positive : Bool) (f : Formula) → Grows g (IsExpressionOf f) h → Grows g (IsExpressionOf (signed positive f)) h
with_sign g h true f a = a
with_sign g h false f a = grows_not g h f a

pub told_atom_literal : (g h : Ground) (args : List ℕ) (l : literal.Literal) (positive : Bool) (s : Sym) (us : List Term) → l ≡ literals.Atom positive s us → ((ts : List Term) → ReadsIn g args ts → Grows g (IsExpressionOf (Atom s (map (substitute 0 (value_at ts)) us))) h) → (ts : List Term) → ReadsIn g args ts → Grows g (IsExpressionOf (literal_formula (literal_at ts l))) h
told_atom_literal g h args l positive s us e a ts r =
    subst (λ (x : literal.Literal). Grows g (IsExpressionOf (literal_formula (literal_at ts x))) h) (inverse e) (with_sign g h positive (Atom s (map (substitute 0 (value_at ts)) us)) (a ts r))

pub told_equation_literal : (g h : Ground) (args : List ℕ) (l : literal.Literal) (positive : Bool) (t u : Term) → l ≡ literals.Eq positive t u → ((ts : List Term) → ReadsIn g args ts → Grows g (IsExpressionOf (Eq (substitute 0 (value_at ts) t) (substitute 0 (value_at ts) u))) h) → (ts : List Term) → ReadsIn g args ts → Grows g (IsExpressionOf (literal_formula (literal_at ts l))) h
told_equation_literal g h args l positive t u e a ts r =
    subst (λ (x : literal.Literal). Grows g (IsExpressionOf (literal_formula (literal_at ts x))) h) (inverse e) (with_sign g h positive (Eq (substitute 0 (value_at ts) t) (substitute 0 (value_at ts) u)) (a ts r))

pub ruleset literal_rules = (told_atom_literal, told_equation_literal)

-- one literal or formula after another
pub literals_none : (g : Ground) → IsNumbered g → Grows g (IsExpressionOfLiterals []) g
literals_none g n = grows_nothing g (IsExpressionOfLiterals []) n (λ p q. contains_none q.literal q.among)

pub literals_more : (g h k : Ground) (ls : List literal.Literal) (l : literal.Literal) → Grows g (IsExpressionOfLiterals ls) h → Grows h (IsExpressionOf (literal_formula l)) k → Grows g (IsExpressionOfLiterals (ls ++ l ∷ [])) k
literals_more g h k ls l a b =
    grows_as g k (λ p. IsExpressionOfLiterals ls p ⊎ IsExpressionOf (literal_formula l) p) (IsExpressionOfLiterals (ls ++ l ∷ [])) (grows_both g h k (IsExpressionOfLiterals ls) (IsExpressionOf (literal_formula l)) a b)
    (λ p q. elim q [
      | inl x ↦ record { literal = x.literal; among = Contains-append_left ls (l ∷ []) x.literal x.among; expression = x.expression }
      | inr y ↦ record { literal = l; among = Contains-append_right ls (l ∷ []) l (contains_first l []); expression = y }
    ])
    (λ p q. elim (Contains-push_cases ls l q.literal q.among) [
      | inl c ↦ inl (record { literal = q.literal; among = c; expression = q.expression })
      | inr e ↦ inr (subst (λ (x : literal.Literal). IsExpressionOf (literal_formula x) p) (inverse e) q.expression)
    ])

pub literals_step : (g h k : Ground) (args : List ℕ) (ts : List Term) (ls : List literal.Literal) (l : literal.Literal) → ReadsIn g args ts → Grows g (IsExpressionOfLiterals (map (literal_at ts) ls)) h → ((us : List Term) → ReadsIn h args us → Grows h (IsExpressionOf (literal_formula (literal_at us l))) k) → Grows g (IsExpressionOfLiterals (map (literal_at ts) (ls ++ l ∷ []))) k
literals_step g h k args ts ls l r a b =
    let same : map (literal_at ts) (ls ++ l ∷ []) ≡ map (literal_at ts) ls ++ literal_at ts l ∷ [] = map_push (literal_at ts) ls l in
    subst (λ (x : List literal.Literal). Grows g (IsExpressionOfLiterals x) k) (inverse same)
    (literals_more g h k (map (literal_at ts) ls) (literal_at ts l) a (b ts (reads_in_grown g h (IsExpressionOfLiterals (map (literal_at ts) ls)) args ts r a)))

pub formulas_none : (g : Ground) → IsNumbered g → Grows g (IsExpressionOfFormulas []) g
formulas_none g n = grows_nothing g (IsExpressionOfFormulas []) n (λ p q. contains_none q.formula q.among)

pub formulas_more : (g h k : Ground) (fs : List Formula) (f : Formula) → Grows g (IsExpressionOfFormulas fs) h → (IsNumbered h → Grows h (IsExpressionOf f) k) → Grows g (IsExpressionOfFormulas (fs ++ f ∷ [])) k
formulas_more g h k fs f a b =
    grows_as g k (λ p. IsExpressionOfFormulas fs p ⊎ IsExpressionOf f p) (IsExpressionOfFormulas (fs ++ f ∷ [])) (grows_both g h k (IsExpressionOfFormulas fs) (IsExpressionOf f) a (b a.numbered))
    (λ p q. elim q [
      | inl x ↦ record { formula = x.formula; among = Contains-append_left fs (f ∷ []) x.formula x.among; expression = x.expression }
      | inr y ↦ record { formula = f; among = Contains-append_right fs (f ∷ []) f (contains_first f []); expression = y }
    ])
    (λ p q. elim (Contains-push_cases fs f q.formula q.among) [
      | inl c ↦ inl (record { formula = q.formula; among = c; expression = q.expression })
      | inr e ↦ inr (subst (λ (x : Formula). IsExpressionOf x p) (inverse e) q.expression)
    ])

-- the loop over literals, and the one over formulas
pub told_literal_step : (g h k : Ground) (args : List ℕ) (ls : List literal.Literal) (i : ℕ) (l : literal.Literal) → ((ts : List Term) → ReadsIn g args ts → Grows g (IsExpressionOfLiterals (map (literal_at ts) (take i ls))) h) → l ≡ get_or ls i l → i < length ls → ((us : List Term) → ReadsIn h args us → Grows h (IsExpressionOf (literal_formula (literal_at us l))) k) → (ts : List Term) → ReadsIn g args ts → Grows g (IsExpressionOfLiterals (map (literal_at ts) (take (i + 1) ls))) k
told_literal_step g h k args ls i l a e lt b ts r =
    let same : take (i + 1) ls ≡ take i ls ++ l ∷ [] = take_more ls i l lt ∙ ap (λ z. take i ls ++ z ∷ []) (inverse e) in
    subst (λ (z : List literal.Literal). Grows g (IsExpressionOfLiterals (map (literal_at ts) z)) k) (inverse same) (literals_step g h k args ts (take i ls) l r (a ts r) b)

pub told_literals : (g h : Ground) (args : List ℕ) (ls ms : List literal.Literal) (i : ℕ) → ((ts : List Term) → ReadsIn g args ts → Grows g (IsExpressionOfLiterals (map (literal_at ts) (take i ls))) h) → ls ≡ ms → length ls ≤ i → (ts : List Term) → ReadsIn g args ts → Grows g (IsExpressionOfLiterals (map (literal_at ts) ms)) h
told_literals g h args ls ms i a e le ts r = subst (λ (z : List literal.Literal). Grows g (IsExpressionOfLiterals (map (literal_at ts) z)) h) (take_all i ls le ∙ e) (a ts r)

pub told_formula_step : (g h k : Ground) (fs : List Formula) (i : ℕ) (f : Formula) → (IsNumbered g → Grows g (IsExpressionOfFormulas (take i fs)) h) → f ≡ get_or fs i f → i < length fs → (IsNumbered h → Grows h (IsExpressionOf f) k) → IsNumbered g → Grows g (IsExpressionOfFormulas (take (i + 1) fs)) k
told_formula_step g h k fs i f a e lt b n =
    let same : take (i + 1) fs ≡ take i fs ++ f ∷ [] = take_more fs i f lt ∙ ap (λ z. take i fs ++ z ∷ []) (inverse e) in
    subst (λ (z : List Formula). Grows g (IsExpressionOfFormulas z) k) (inverse same) (formulas_more g h k (take i fs) f (a n) b)

pub told_formulas : (g h : Ground) (fs es : List Formula) (i : ℕ) → (IsNumbered g → Grows g (IsExpressionOfFormulas (take i fs)) h) → fs ≡ es → length fs ≤ i → IsNumbered g → Grows g (IsExpressionOfFormulas es) h
told_formulas g h fs es i a e le n = subst (λ (z : List Formula). Grows g (IsExpressionOfFormulas z) h) (take_all i fs le ∙ e) (a n)

pub ruleset atom_rules = (atom_some, atom_past, atom_none)

pub ruleset equation_rules = (equation_some, equation_left, equation_right)

pub ruleset literals_rules = (literals_none, literals_step)

pub ruleset formulas_rules = (formulas_none, formulas_more)
