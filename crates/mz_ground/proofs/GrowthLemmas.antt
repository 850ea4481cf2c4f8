-- How a ground part grows.
use Rattle.std.proofs.Common.{◌≡◌, ◌<◌, ◌≤◌, ℕ, List, [], ◌∷◌, ◌++◌, length, map, refl, sym as inverse, ap, ◌∙◌, subst, arith, ◌⊎◌, inl, inr, Some}
use Rattle.std.specs.Prelude.{Contains, slice_get}
use Rattle.std.proofs.lemmas.List.{append-nil, length-append, map_push, map-append}
use Rattle.std.proofs.lemmas.List.Elements.{Contains-append_left, Contains-push, Contains-push_cases, Contains-get_or}
use Rattle.std.proofs.lemmas.List.Quantifiers.{all_pairs_push}
use Rattle.mz_logic.specs.Term.{Term}
use Rattle.mz_ground.specs.GroundExpression.{GroundExpression, TermExpression, AtomExpression, EquationExpression, IsAtomExpression}
use Rattle.mz_ground.specs.Ground.{term_at, ground_terms, ground_atoms, ground_equations, atom_expression, equation_expression, IsDistinct, most_terms, most_atoms}
use Rattle.mz_ground.specs.Table.{Extends, IsPlaced, entry_terms, IsTable, Reads, IsPart, AddedTerms}
use Rattle.mz_ground.specs.Growth.{IsMember, IsStored, IsNumbered, ReadsIn, Grows}
use Rattle.mz_ground.specs.declared.ground_part.Ground.{Ground}
use Rattle.mz_ground.specs.declared.ground_term.GroundTerm.{GroundTerm}
use Rattle.mz_ground.specs.declared.ground_atom.GroundAtom.{GroundAtom}
use Rattle.mz_ground.specs.declared.ground_equation.GroundEquation.{GroundEquation}
use Rattle.mz_ground.proofs.ListLemmas.{contains_first, contains_later, contains_get, get_contained, contains_map, map_contains, extends_itself, extends_further, extends-length}
use Rattle.mz_ground.proofs.TableLemmas.{tail_after, entry_terms-length, entry_terms-append, map_term_at-append, term_at-append, map_term_at-inj, term_at-inj, contains_grown, map_grown}

pub reads_from : (g : Ground) (places : List ℕ) (ts : List Term) → ReadsIn g places ts → Reads g.terms places ts
reads_from g places ts r = record { table = r.numbered.table; within = r.within; terms = r.terms }

pub terms_grown : (g h : Ground) → (p : Extends g.terms h.terms) → ground_terms h ≡ ground_terms g ++ tail_after (ground_terms g) p.0
terms_grown g h p = ap entry_terms p.1 ∙ entry_terms-append g.terms p.0

low : (g : Ground) (k : ℕ) → k < length g.terms → k < length (ground_terms g)
low g k lt = omega (arith, entry_terms-length g.terms)

atoms_after : (ts xs : List Term) (items : List GroundAtom) → ((a : GroundAtom) (k : ℕ) → Contains items a → Contains a.args k → k < length ts) → map (atom_expression (ts ++ xs)) items ≡ map (atom_expression ts) items
atoms_after ts xs [] h = refl
atoms_after ts xs (a ∷ items) h =
    let first : map (term_at (ts ++ xs)) a.args ≡ map (term_at ts) a.args = map_term_at-append ts xs a.args (λ k w. h a k (contains_first a items) w) in
    let rest : map (atom_expression (ts ++ xs)) items ≡ map (atom_expression ts) items = atoms_after ts xs items (λ b k w v. h b k (contains_later a b items w) v) in
    λ i. AtomExpression a.sym (first i) ∷ rest i

equations_after : (ts xs : List Term) (items : List GroundEquation) → ((e : GroundEquation) → Contains items e → (e.left < length ts) × (e.right < length ts)) → map (equation_expression (ts ++ xs)) items ≡ map (equation_expression ts) items
equations_after ts xs [] h = refl
equations_after ts xs (e ∷ items) h =
    let here : (e.left < length ts) × (e.right < length ts) = h e (contains_first e items) in
    let l : term_at (ts ++ xs) e.left ≡ term_at ts e.left = term_at-append ts xs e.left here.0 in
    let r : term_at (ts ++ xs) e.right ≡ term_at ts e.right = term_at-append ts xs e.right here.1 in
    let rest : map (equation_expression (ts ++ xs)) items ≡ map (equation_expression ts) items = equations_after ts xs items (λ b w. h b (contains_later e b items w)) in
    λ i. EquationExpression (l i) (r i) ∷ rest i

pub atoms_kept : (g h : Ground) → IsNumbered g → Extends g.terms h.terms → map (atom_expression (ground_terms h)) g.atoms ≡ ground_atoms g
atoms_kept g h n p =
    ap (λ z. map (atom_expression z) g.atoms) (terms_grown g h p) ∙ atoms_after (ground_terms g) (tail_after (ground_terms g) p.0) g.atoms (λ a k w v. low g k (n.atoms_within a k w v))

pub equations_kept : (g h : Ground) → IsNumbered g → Extends g.terms h.terms → map (equation_expression (ground_terms h)) g.equations ≡ ground_equations g
equations_kept g h n p =
    ap (λ z. map (equation_expression z) g.equations) (terms_grown g h p) ∙ equations_after (ground_terms g) (tail_after (ground_terms g) p.0) g.equations (λ e w. let q = n.equations_within e w in (low g e.left q.0, low g e.right q.1))

-- the lists of a ground part that has grown begin with those before
pub atoms_extend : (g h : Ground) → IsNumbered g → Extends g.terms h.terms → Extends g.atoms h.atoms → Extends (ground_atoms g) (ground_atoms h)
atoms_extend g h n p q =
    let f : GroundAtom → GroundExpression = atom_expression (ground_terms h) in
    (map f q.0, ap (map f) q.1 ∙ map-append f g.atoms q.0 ∙ ap (λ z. z ++ map f q.0) (atoms_kept g h n p))

pub equations_extend : (g h : Ground) → IsNumbered g → Extends g.terms h.terms → Extends g.equations h.equations → Extends (ground_equations g) (ground_equations h)
equations_extend g h n p q =
    let f : GroundEquation → GroundExpression = equation_expression (ground_terms h) in
    (map f q.0, ap (map f) q.1 ∙ map-append f g.equations q.0 ∙ ap (λ z. z ++ map f q.0) (equations_kept g h n p))

contains_extended : {A : Type 0} (xs ys : List A) (x : A) → Extends xs ys → Contains xs x → Contains ys x
contains_extended {A} xs ys x p w = subst (λ (z : List A). Contains z x) (inverse p.1) (Contains-append_left xs p.0 x w)

pub member_grown : (g h : Ground) → IsNumbered g → Extends g.terms h.terms → Extends g.atoms h.atoms → Extends g.equations h.equations → (p : GroundExpression) → IsMember g p → IsMember h p
member_grown g h n a b c (TermExpression t) w = contains_grown g.terms h.terms a t w
member_grown g h n a b c (AtomExpression s ts) w = contains_extended (ground_atoms g) (ground_atoms h) (AtomExpression s ts) (atoms_extend g h n a b) w
member_grown g h n a b c (EquationExpression t u) w = contains_extended (ground_equations g) (ground_equations h) (EquationExpression t u) (equations_extend g h n a c) w

pub stored_grown : (g h : Ground) → IsNumbered g → Extends g.terms h.terms → Extends g.atoms h.atoms → Extends g.equations h.equations → (p : GroundExpression) → IsStored g p → IsStored h p
stored_grown g h n a b c p s =
    elim s [
      | inl w ↦ inl (member_grown g h n a b c p w)
      | inr q ↦ inr (q.0, extends-length g.atoms h.atoms most_atoms b q.1)
    ]

-- nothing, one thing after another, and the same in other words
pub grows_nothing : (g : Ground) (Q : GroundExpression → Type 0) → IsNumbered g → ((p : GroundExpression) → Q p → ⊥) → Grows g Q g
grows_nothing g Q n h =
    record { numbered = n; terms = extends_itself g.terms; atoms = extends_itself g.atoms; equations = extends_itself g.equations; ends = refl; sound = λ p w. inl w; complete = λ le p q. absurd (h p q) }

pub grows_both : (g h k : Ground) (Q R : GroundExpression → Type 0) → Grows g Q h → Grows h R k → Grows g (λ p. Q p ⊎ R p) k
grows_both g h k Q R a b =
    let fits : length k.terms ≤ most_terms → length h.terms ≤ most_terms = λ le. omega (arith, ap length b.terms.1, length-append h.terms b.terms.0) in
    record {
      numbered = b.numbered;
      terms = extends_further g.terms h.terms k.terms a.terms b.terms;
      atoms = extends_further g.atoms h.atoms k.atoms a.atoms b.atoms;
      equations = extends_further g.equations h.equations k.equations a.equations b.equations;
      ends = b.ends ∙ a.ends;
      sound = λ p w. elim (b.sound p w) [ inl v ↦ elim (a.sound p v) [ inl u ↦ inl u | inr q ↦ inr (inl q) ] | inr r ↦ inr (inr r) ];
      complete = λ le p q. elim q [ inl s ↦ stored_grown h k a.numbered b.terms b.atoms b.equations p (a.complete (fits le) p s) | inr r ↦ b.complete le p r ];
    }

-- the same for more expressions, where each of these is stored
pub grows_within : (g h : Ground) (Q R : GroundExpression → Type 0) → Grows g Q h → ((p : GroundExpression) → Q p → R p) → (length h.terms ≤ most_terms → (p : GroundExpression) → R p → IsStored h p) → Grows g R h
grows_within g h Q R a to all =
    record {
      numbered = a.numbered;
      terms = a.terms;
      atoms = a.atoms;
      equations = a.equations;
      ends = a.ends;
      sound = λ p w. elim (a.sound p w) [ inl v ↦ inl v | inr q ↦ inr (to p q) ];
      complete = all;
    }

pub grows_as : (g h : Ground) (Q R : GroundExpression → Type 0) → Grows g Q h → ((p : GroundExpression) → Q p → R p) → ((p : GroundExpression) → R p → Q p) → Grows g R h
grows_as g h Q R a to from = grows_within g h Q R a to (λ le p r. a.complete le p (from p r))

-- terms
abbrev pub IsTermOf : List Term → GroundExpression → Type 0
IsTermOf us (TermExpression u) = IsPart us u
IsTermOf us (AtomExpression s ts) = ⊥
IsTermOf us (EquationExpression t u) = ⊥

as_extends : {A : Type 0} (xs ys : List A) → ys ≡ xs → Extends xs ys
as_extends xs ys e = ([], e ∙ inverse (append-nil xs))

same_atoms : (g h : Ground) → IsNumbered g → Extends g.terms h.terms → h.atoms ≡ g.atoms → ground_atoms h ≡ ground_atoms g
same_atoms g h n p e = ap (map (atom_expression (ground_terms h))) e ∙ atoms_kept g h n p

same_equations : (g h : Ground) → IsNumbered g → Extends g.terms h.terms → h.equations ≡ g.equations → ground_equations h ≡ ground_equations g
same_equations g h n p e = ap (map (equation_expression (ground_terms h))) e ∙ equations_kept g h n p

contained_as : (p : GroundExpression) (xs ys : List GroundExpression) → xs ≡ ys → Contains xs p → Contains ys p
contained_as p xs ys e w = subst (λ (z : List GroundExpression). Contains z p) e w

terms_sound : (g h : Ground) (us : List Term) → AddedTerms g.terms us h.terms → ground_atoms h ≡ ground_atoms g → ground_equations h ≡ ground_equations g → (p : GroundExpression) → IsMember h p → IsMember g p ⊎ IsTermOf us p
terms_sound g h us a ea ee (TermExpression u) w = a.sound u w
terms_sound g h us a ea ee (AtomExpression s ts) w = inl (contained_as (AtomExpression s ts) (ground_atoms h) (ground_atoms g) ea w)
terms_sound g h us a ea ee (EquationExpression t u) w = inl (contained_as (EquationExpression t u) (ground_equations h) (ground_equations g) ee w)

terms_complete : (g h : Ground) (us : List Term) → AddedTerms g.terms us h.terms → (p : GroundExpression) → IsTermOf us p → IsMember h p
terms_complete g h us a (TermExpression u) q = a.complete u q
terms_complete g h us a (AtomExpression s ts) q = absurd q
terms_complete g h us a (EquationExpression t u) q = absurd q

within_kept : (g h : Ground) → IsNumbered g → Extends g.terms h.terms → h.atoms ≡ g.atoms → (a : GroundAtom) (k : ℕ) → Contains h.atoms a → Contains a.args k → k < length h.terms
within_kept g h n p e a k w v = extends-length g.terms h.terms k p (n.atoms_within a k (subst (λ (z : List GroundAtom). Contains z a) e w) v)

sides_kept : (g h : Ground) → IsNumbered g → Extends g.terms h.terms → h.equations ≡ g.equations → (e : GroundEquation) → Contains h.equations e → (e.left < length h.terms) × (e.right < length h.terms)
sides_kept g h n p q e w =
    let r = n.equations_within e (subst (λ (z : List GroundEquation). Contains z e) q w) in
    (extends-length g.terms h.terms e.left p r.0, extends-length g.terms h.terms e.right p r.1)

pub grows_terms : (g h : Ground) (us : List Term) → IsNumbered g → AddedTerms g.terms us h.terms → h.atoms ≡ g.atoms → h.equations ≡ g.equations → h.ends ≡ g.ends → Grows g (IsTermOf us) h
grows_terms g h us n a ea ee en =
    let same_a : ground_atoms h ≡ ground_atoms g = same_atoms g h n a.grown ea in
    let same_e : ground_equations h ≡ ground_equations g = same_equations g h n a.grown ee in
    let numbered' : IsNumbered h = record {
      table = a.table;
      atoms_within = within_kept g h n a.grown ea;
      equations_within = sides_kept g h n a.grown ee;
      distinct_atoms = subst (λ (z : List GroundExpression). IsDistinct z) (inverse same_a) n.distinct_atoms;
      distinct_equations = subst (λ (z : List GroundExpression). IsDistinct z) (inverse same_e) n.distinct_equations;
    } in
    record {
      numbered = numbered';
      terms = a.grown;
      atoms = as_extends g.atoms h.atoms ea;
      equations = as_extends g.equations h.equations ee;
      ends = en;
      sound = terms_sound g h us a same_a same_e;
      complete = λ le p q. inl (terms_complete g h us a p q);
    }

-- an item placed in a list of expressions
pub record PlacedExpression {A : Type 0} (f : A → GroundExpression) (xs : List A) (x : A) (ys : List A) : Type 0 where
  pub distinct : IsDistinct (map f ys)
  pub grown : Extends xs ys
  pub sound : (p : GroundExpression) → Contains (map f ys) p → Contains (map f xs) p ⊎ (f x ≡ p)
  pub complete : Contains (map f ys) (f x)

expression_old : {A : Type 0} (f : A → GroundExpression) (xs : List A) (x : A) (k : ℕ) → IsDistinct (map f xs) → slice_get xs k ≡ Some x → PlacedExpression f xs x xs
expression_old f xs x k d g = record { distinct = d; grown = extends_itself xs; sound = λ p w. inl w; complete = map_contains f xs x (contains_get xs k x g) }

lacks_expression : {A : Type 0} (f : A → GroundExpression) (xs : List A) (x : A) → ((y : A) → Contains xs y → f y ≡ f x → y ≡ x) → ((k : ℕ) → slice_get xs k ≡ Some x → ⊥) → Contains (map f xs) (f x) → ⊥
lacks_expression {A} f xs x one none w =
    let m = contains_map f xs (f x) w in
    let v : Contains xs x = subst (λ (z : A). Contains xs z) (one m.0 m.1 m.2) m.1 in
    none v.0 (get_contained xs x v)

expression_new : {A : Type 0} (f : A → GroundExpression) (xs : List A) (x : A) → IsDistinct (map f xs) → ((y : A) → Contains xs y → f y ≡ f x → y ≡ x) → ((k : ℕ) → slice_get xs k ≡ Some x → ⊥) → PlacedExpression f xs x (xs ++ x ∷ [])
expression_new f xs x d one none =
    let all : map f (xs ++ x ∷ []) ≡ map f xs ++ f x ∷ [] = map_push f xs x in
    let apart : IsDistinct (map f xs ++ f x ∷ []) = all_pairs_push (λ (a b : GroundExpression). a ≡ b → ⊥) (map f xs) (f x) d (λ j c lt q. lacks_expression f xs x one none (subst (λ (z : GroundExpression). Contains (map f xs) z) q (Contains-get_or (map f xs) j c lt))) in
    record {
      distinct = subst (λ (z : List GroundExpression). IsDistinct z) (inverse all) apart;
      grown = (x ∷ [], refl);
      sound = λ p w. Contains-push_cases (map f xs) (f x) p (contained_as p (map f (xs ++ x ∷ [])) (map f xs ++ f x ∷ []) all w);
      complete = contained_as (f x) (map f xs ++ f x ∷ []) (map f (xs ++ x ∷ [])) (inverse all) (Contains-push (map f xs) (f x));
    }

expression_placed : {A : Type 0} (f : A → GroundExpression) (xs : List A) (x : A) (ys : List A) (k : ℕ) → IsDistinct (map f xs) → ((y : A) → Contains xs y → f y ≡ f x → y ≡ x) → IsPlaced xs x ys k → PlacedExpression f xs x ys
expression_placed {A} f xs x ys k d one p =
    let P : List A → Type 0 = λ z. PlacedExpression f xs x z in
    elim p.grown [
      | inl q ↦ subst P (inverse q) (expression_old f xs x k d (subst (λ (z : List A). slice_get z k ≡ Some x) q p.found))
      | inr q ↦ subst P (inverse q.0) (expression_new f xs x d one q.1)
    ]

-- an atom
one_atom : (g : Ground) → IsNumbered g → (a : GroundAtom) → ((k : ℕ) → Contains a.args k → k < length g.terms) → (b : GroundAtom) → Contains g.atoms b → atom_expression (ground_terms g) b ≡ atom_expression (ground_terms g) a → b ≡ a
one_atom g n a within b w e =
    let s : b.sym ≡ a.sym = cc in
    let all : map (term_at (ground_terms g)) b.args ≡ map (term_at (ground_terms g)) a.args = cc in
    let r : b.args ≡ a.args = map_term_at-inj (ground_terms g) n.table.distinct b.args a.args (λ k v. low g k (n.atoms_within b k w v)) (λ k v. low g k (within k v)) all in
    λ i. record { sym = s i; args = r i }

atom_sound : (g h : Ground) (a : GroundAtom) → ground_terms h ≡ ground_terms g → ground_equations h ≡ ground_equations g → PlacedExpression (atom_expression (ground_terms g)) g.atoms a h.atoms → ground_atoms h ≡ map (atom_expression (ground_terms g)) h.atoms → (p : GroundExpression) → IsMember h p → IsMember g p ⊎ (atom_expression (ground_terms g) a ≡ p)
atom_sound g h a et ee q ea (TermExpression u) w = inl (subst (λ (z : List Term). Contains z u) et w)
atom_sound g h a et ee q ea (AtomExpression s ts) w = q.sound (AtomExpression s ts) (contained_as (AtomExpression s ts) (ground_atoms h) (map (atom_expression (ground_terms g)) h.atoms) ea w)
atom_sound g h a et ee q ea (EquationExpression t u) w = inl (contained_as (EquationExpression t u) (ground_equations h) (ground_equations g) ee w)

placed_within : {A : Type 0} (xs ys : List A) (x y : A) (k : ℕ) → IsPlaced xs x ys k → Contains ys y → Contains xs y ⊎ (x ≡ y)
placed_within {A} xs ys x y k p w =
    elim p.grown [
      | inl q ↦ inl (subst (λ (z : List A). Contains z y) q w)
      | inr q ↦ Contains-push_cases xs x y (subst (λ (z : List A). Contains z y) q.0 w)
    ]

pub grows_atom : (g h : Ground) (a : GroundAtom) (k : ℕ) → IsNumbered g → ((j : ℕ) → Contains a.args j → j < length g.terms) → IsPlaced g.atoms a h.atoms k → h.terms ≡ g.terms → h.equations ≡ g.equations → h.ends ≡ g.ends → Grows g (λ p. atom_expression (ground_terms g) a ≡ p) h
grows_atom g h a k n within p et ee en =
    let q : PlacedExpression (atom_expression (ground_terms g)) g.atoms a h.atoms = expression_placed (atom_expression (ground_terms g)) g.atoms a h.atoms k n.distinct_atoms (one_atom g n a within) p in
    let ts : ground_terms h ≡ ground_terms g = ap entry_terms et in
    let ext : Extends g.terms h.terms = as_extends g.terms h.terms et in
    let atoms' : ground_atoms h ≡ map (atom_expression (ground_terms g)) h.atoms = ap (λ z. map (atom_expression z) h.atoms) ts in
    let equations' : ground_equations h ≡ ground_equations g = same_equations g h n ext ee in
    let numbered' : IsNumbered h = record {
      table = subst (λ (z : List GroundTerm). IsTable z) (inverse et) n.table;
      atoms_within = λ b j w v. elim (placed_within g.atoms h.atoms a b k p w) [
        | inl c ↦ extends-length g.terms h.terms j ext (n.atoms_within b j c v)
        | inr e ↦ extends-length g.terms h.terms j ext (within j (subst (λ (z : GroundAtom). Contains z.args j) (inverse e) v))
      ];
      equations_within = sides_kept g h n ext ee;
      distinct_atoms = subst (λ (z : List GroundExpression). IsDistinct z) (inverse atoms') q.distinct;
      distinct_equations = subst (λ (z : List GroundExpression). IsDistinct z) (inverse equations') n.distinct_equations;
    } in
    record {
      numbered = numbered';
      terms = ext;
      atoms = q.grown;
      equations = as_extends g.equations h.equations ee;
      ends = en;
      sound = atom_sound g h a ts equations' q atoms';
      complete = λ le r e. inl (subst (λ (z : GroundExpression). IsMember h z) e (contained_as (atom_expression (ground_terms g) a) (map (atom_expression (ground_terms g)) h.atoms) (ground_atoms h) (inverse atoms') q.complete));
    }

-- past the limit of atoms no atom is owed
pub grows_past : (g : Ground) (Q : GroundExpression → Type 0) → IsNumbered g → most_atoms < length g.atoms → ((p : GroundExpression) → Q p → IsAtomExpression p) → Grows g Q g
grows_past g Q n lt h =
    record { numbered = n; terms = extends_itself g.terms; atoms = extends_itself g.atoms; equations = extends_itself g.equations; ends = refl; sound = λ p w. inl w; complete = λ le p q. inr (h p q, lt) }

-- an equation
one_equation : (g : Ground) → IsNumbered g → (a : GroundEquation) → (a.left < length g.terms) × (a.right < length g.terms) → (b : GroundEquation) → Contains g.equations b → equation_expression (ground_terms g) b ≡ equation_expression (ground_terms g) a → b ≡ a
one_equation g n a within b w e =
    let l : term_at (ground_terms g) b.left ≡ term_at (ground_terms g) a.left = cc in
    let r : term_at (ground_terms g) b.right ≡ term_at (ground_terms g) a.right = cc in
    let at = n.equations_within b w in
    let p : b.left ≡ a.left = term_at-inj (ground_terms g) n.table.distinct b.left a.left (low g b.left at.0) (low g a.left within.0) l in
    let q : b.right ≡ a.right = term_at-inj (ground_terms g) n.table.distinct b.right a.right (low g b.right at.1) (low g a.right within.1) r in
    λ i. record { left = p i; right = q i }

equation_sound : (g h : Ground) (e : GroundEquation) → ground_terms h ≡ ground_terms g → ground_atoms h ≡ ground_atoms g → PlacedExpression (equation_expression (ground_terms g)) g.equations e h.equations → ground_equations h ≡ map (equation_expression (ground_terms g)) h.equations → (p : GroundExpression) → IsMember h p → IsMember g p ⊎ (equation_expression (ground_terms g) e ≡ p)
equation_sound g h e et ea q ee (TermExpression u) w = inl (subst (λ (z : List Term). Contains z u) et w)
equation_sound g h e et ea q ee (AtomExpression s ts) w = inl (contained_as (AtomExpression s ts) (ground_atoms h) (ground_atoms g) ea w)
equation_sound g h e et ea q ee (EquationExpression t u) w = q.sound (EquationExpression t u) (contained_as (EquationExpression t u) (ground_equations h) (map (equation_expression (ground_terms g)) h.equations) ee w)

pub grows_equation : (g h : Ground) (e : GroundEquation) (k : ℕ) → IsNumbered g → (e.left < length g.terms) × (e.right < length g.terms) → IsPlaced g.equations e h.equations k → h.terms ≡ g.terms → h.atoms ≡ g.atoms → h.ends ≡ g.ends → Grows g (λ p. equation_expression (ground_terms g) e ≡ p) h
grows_equation g h e k n within p et ea en =
    let q : PlacedExpression (equation_expression (ground_terms g)) g.equations e h.equations = expression_placed (equation_expression (ground_terms g)) g.equations e h.equations k n.distinct_equations (one_equation g n e within) p in
    let ts : ground_terms h ≡ ground_terms g = ap entry_terms et in
    let ext : Extends g.terms h.terms = as_extends g.terms h.terms et in
    let equations' : ground_equations h ≡ map (equation_expression (ground_terms g)) h.equations = ap (λ z. map (equation_expression z) h.equations) ts in
    let atoms' : ground_atoms h ≡ ground_atoms g = same_atoms g h n ext ea in
    let numbered' : IsNumbered h = record {
      table = subst (λ (z : List GroundTerm). IsTable z) (inverse et) n.table;
      atoms_within = within_kept g h n ext ea;
      equations_within = λ b w. elim (placed_within g.equations h.equations e b k p w) [
        | inl c ↦ let r = n.equations_within b c in (extends-length g.terms h.terms b.left ext r.0, extends-length g.terms h.terms b.right ext r.1)
        | inr s ↦ subst (λ (z : GroundEquation). (z.left < length h.terms) × (z.right < length h.terms)) s (extends-length g.terms h.terms e.left ext within.0, extends-length g.terms h.terms e.right ext within.1)
      ];
      distinct_atoms = subst (λ (z : List GroundExpression). IsDistinct z) (inverse atoms') n.distinct_atoms;
      distinct_equations = subst (λ (z : List GroundExpression). IsDistinct z) (inverse equations') q.distinct;
    } in
    record {
      numbered = numbered';
      terms = ext;
      atoms = as_extends g.atoms h.atoms ea;
      equations = q.grown;
      ends = en;
      sound = equation_sound g h e ts atoms' q equations';
      complete = λ le r s. inl (subst (λ (z : GroundExpression). IsMember h z) s (contained_as (equation_expression (ground_terms g) e) (map (equation_expression (ground_terms g)) h.equations) (ground_equations h) (inverse equations') q.complete));
    }

pub reads_in_grown : (g h : Ground) (Q : GroundExpression → Type 0) (places : List ℕ) (ts : List Term) → ReadsIn g places ts → Grows g Q h → ReadsIn h places ts
reads_in_grown g h Q places ts r a = record { numbered = a.numbered; within = λ k w. extends-length g.terms h.terms k a.terms (r.within k w); terms = map_grown g.terms h.terms a.terms places r.within ∙ r.terms }
