-- What look-ups find.
use Rattle.std.proofs.Common.{◌≡◌, ◌<◌, ◌≤◌, ◌+◌, ℕ, zero, suc, List, [], ◌∷◌, ◌++◌, length, map, take, refl, ap, sym, ◌∙◌, subst, true, false, Bool, add-one}
use Rattle.std.specs.Prelude.{slice_get, Some, None, Option, MatchOption, IfSome, ◌&&◌}
use Rattle.std.proofs.lemmas.Bool.{eqb-true}
use Rattle.std.proofs.lemmas.List.{take_all}
use Rattle.std.proofs.lemmas.List.Elements.{Contains-append_left, Contains-push}
use Rattle.std.proofs.lemmas.Option.{slice_get_within}
use Rattle.mz_logic.specs.declared.sym.Sym.{Sym}
use Rattle.mz_logic.specs.Sym.{same_sym}
use Rattle.mz_logic.specs.Term.{Term, Bound, Const, App, terms_of}
use Rattle.mz_logic.specs.Substitution.{value_at, substitute}
use Rattle.mz_logic.specs.declared.disjunct.Disjunct.{Disjunct}
use Rattle.mz_logic.proofs.SubstitutionLaws.{substitute_args-terms_of}
use Rattle.mz_logic.proofs.ValueLaws.{substitute-no_values}
use Rattle.mz_ground.specs.Hash.{hash_with, hash_with_all, hash_with_symbol, term_hash, atom_hash}
use Rattle.mz_ground.proofs.HashLemmas.{hash_with_all-push}
use Rattle.mz_ground.specs.Ground.{term_at, ground_terms, IsGround}
use Rattle.mz_ground.specs.declared.clause.Clause.{Clause}
use Rattle.mz_ground.specs.declared.ground_part.Ground.{Ground}
use Rattle.mz_ground.specs.declared.ground_term.GroundTerm.{GroundTerm}
use Rattle.mz_ground.specs.declared.ground_term.GroundTerm.TheVariants as entry
use Rattle.mz_ground.specs.declared.ground_atom.GroundAtom.{GroundAtom}
use Rattle.mz_ground.specs.declared.ground_equation.GroundEquation.{GroundEquation}
use Rattle.mz_congruence.specs.Codes.{IsTermPlace, IsAtomPlace}
use Rattle.mz_congruence.specs.Lookup.{IsTermFound, FindsTerm, FindsHash, FindsAtom, FindsEquation, IsHashedTerm, IsHashedAtom}
use Rattle.mz_congruence.specs.Pairing.{AllWithin, terms_at}
use Rattle.mz_congruence.specs.InstanceAt.{is_same_place, is_constant, is_instance_at, are_instances_at, is_atom_instance}
use Rattle.mz_congruence.proofs.ListLemmas.{some_same, none_some, get_map, get_unmap, get_some, get_contains, not_contains_nil}
use Rattle.mz_congruence.proofs.GroundLemmas.{term_entry, term_unique, equation_within}
use Rattle.mz_congruence.proofs.AndLemmas.{both_left, both_right}
use Rattle.mz_congruence.proofs.SignatureLemmas.{equation_equal}
use Rattle.mz_congruence.proofs.InstanceAtLemmas.{is_instance_at_sound, is_instance_at_complete, map-each_sound, each_complete, same_sym_true, same_sym_refl, substitute-index_found, bound_complete, constant_complete}
use Rattle.mz_congruence.proofs.UpLemmas.{app_place, within_term, within_atom, cons_nil, nil_cons, cons_head, cons_tail}

no_both : {b : Bool} → b ≡ true → b ≡ false → ⊥
no_both p q = cc

pub nil_within : (g : Ground) → AllWithin g []
nil_within g k c = absurd (not_contains_nil k c)

pub all-no_values : (us : List Term) → map (substitute 0 (value_at [])) us ≡ us
all-no_values [] = refl
all-no_values (u ∷ us) = λ i. substitute-no_values 0 u i ∷ all-no_values us i

-- places of atoms
pub atom_sound : (d : Disjunct) (cs : List Clause) (g : Ground) → IsGround d cs g → (args : List ℕ) (s : Sym) (us : List Term) (k : ℕ) (a : GroundAtom) → slice_get g.atoms k ≡ Some a → is_atom_instance g.terms args s us a ≡ true → IsAtomPlace g k s (map (substitute 0 (value_at (terms_at g args))) us)
atom_sound d cs g gr args s us k a at h =
    let w : AllWithin g a.args = λ j c. gr.atoms_within a j (get_contains g.atoms k a at) c in
    let p : same_sym a.sym s ≡ true = both_left (same_sym a.sym s) (are_instances_at g.terms args us a.args) h in
    let q : are_instances_at g.terms args us a.args ≡ true = both_right (same_sym a.sym s) (are_instances_at g.terms args us a.args) h in
    (a, at, same_sym_true a.sym s p, sym (map-each_sound d cs g gr args us a.args w q))

pub atom_complete : (d : Disjunct) (cs : List Clause) (g : Ground) → IsGround d cs g → (args : List ℕ) → AllWithin g args → (s : Sym) (us : List Term) (k : ℕ) → (h : IsAtomPlace g k s (map (substitute 0 (value_at (terms_at g args))) us)) → is_atom_instance g.terms args s us h.0 ≡ true
atom_complete d cs g gr args w s us k h =
    let v : AllWithin g h.0.args = λ j c. gr.atoms_within h.0 j (get_contains g.atoms k h.0 h.1) c in
    let p : same_sym h.0.sym s ≡ true = ap (λ r. same_sym r s) h.2 ∙ same_sym_refl s in
    let q : are_instances_at g.terms args us h.0.args ≡ true = each_complete d cs g gr args w us h.0.args v (sym h.3) in
    λ i. p i && q i

-- by hashes, or from the beginning
pub told_first_term : (g : Ground) (args : List ℕ) (t : Term) (hash : ℕ) (r : Option ℕ) → MatchOption r ((k : ℕ) → k < length g.terms → is_instance_at g.terms args t k ≡ false) (λ k. (k < length g.terms) × (is_instance_at g.terms args t k ≡ true)) → IsHashedTerm g args t hash r
told_first_term g args t hash None h = λ k item at e. h k (slice_get_within g.terms k item at)
told_first_term g args t hash (Some k) h = h

pub told_no_term : (g : Ground) (args : List ℕ) (t : Term) (hash : ℕ) → ((k : ℕ) (item : GroundTerm) → slice_get g.terms k ≡ Some item → term_hash item ≡ hash → ⊥) → IsHashedTerm g args t hash None
told_no_term g args t hash n = λ k item at e. absurd (n k item at e)

pub told_first_atom : (g : Ground) (args : List ℕ) (s : Sym) (us : List Term) (hash : ℕ) (r : Option ℕ) → MatchOption r ((k : ℕ) (a : GroundAtom) → slice_get g.atoms k ≡ Some a → is_atom_instance g.terms args s us a ≡ false) (λ k. (a : GroundAtom) × (slice_get g.atoms k ≡ Some a) × (is_atom_instance g.terms args s us a ≡ true)) → IsHashedAtom g args s us hash r
told_first_atom g args s us hash None h = λ k a at e. h k a at
told_first_atom g args s us hash (Some k) h = h

pub told_no_atom : (g : Ground) (args : List ℕ) (s : Sym) (us : List Term) (hash : ℕ) → ((k : ℕ) (a : GroundAtom) → slice_get g.atoms k ≡ Some a → atom_hash a ≡ hash → ⊥) → IsHashedAtom g args s us hash None
told_no_atom g args s us hash n = λ k a at e. absurd (n k a at e)

pub ruleset hashed_rules = (told_first_term, told_no_term, told_first_atom, told_no_atom)

-- an index
bound_found : (d : Disjunct) (cs : List Clause) (g : Ground) → IsGround d cs g → (args : List ℕ) → AllWithin g args → (n : ℕ) (o : Option ℕ) → slice_get args n ≡ o → IsTermFound g (substitute 0 (value_at (terms_at g args)) (Bound n)) o
bound_found d cs g gr args w n None e = λ k p. no_both (bound_complete d cs g gr args w n k p.0 (sym p.1)) (ap (is_same_place k) e)
bound_found d cs g gr args w n (Some p) e = (w p (get_contains args n p e), sym (substitute-index_found (terms_at g args) n (term_at (ground_terms g) p) (get_map (term_at (ground_terms g)) args n p e)))

pub told_bound : (g : Ground) (args : List ℕ) (t : Term) (n : ℕ) (r : Option ℕ) → t ≡ Bound n → r ≡ slice_get args n → FindsTerm g args t r
unfolding FindsTerm
told_bound g args t n r e q d cs gr w = subst (λ (u : Term). IsTermFound g (substitute 0 (value_at (terms_at g args)) u) r) (sym e) (bound_found d cs g gr args w n r (sym q))

-- a term that stands at a place
instance_found : (d : Disjunct) (cs : List Clause) (g : Ground) → IsGround d cs g → (args : List ℕ) (t : Term) (k : ℕ) → k < length g.terms → is_instance_at g.terms args t k ≡ true → IsTermPlace g k (substitute 0 (value_at (terms_at g args)) t)
instance_found d cs g gr args t k lt h = (lt, sym (is_instance_at_sound d cs g gr args t k lt h))

-- a constant
constant_hash : (m : ℕ) (x : GroundTerm) → is_constant m (Some x) ≡ true → term_hash x ≡ hash_with 0 m
constant_hash m (entry.Const n) e = ap (hash_with 0) (sym (eqb-true m n e))
constant_hash m (entry.App r ks) e = absurd (no_both e refl)

pub told_constant : (g : Ground) (args : List ℕ) (t : Term) (m hash : ℕ) (r : Option ℕ) → t ≡ Const m → hash ≡ hash_with 0 m → IsHashedTerm g args t hash r → FindsTerm g args t r
unfolding FindsTerm
told_constant g args t m hash (Some k) e q h d cs gr w = instance_found d cs g gr args t k h.0 h.1
told_constant g args t m hash None e q h d cs gr w = λ k p.
    let x = get_some g.terms k p.0 in
    let here : Const m ≡ term_at (ground_terms g) k = ap (substitute 0 (value_at (terms_at g args))) (sym e) ∙ sym p.1 in
    let c : is_constant m (Some x.0) ≡ true = constant_complete m (ground_terms g) x.0 (here ∙ term_entry d cs g gr k x.0 x.1) in
    no_both (is_instance_at_complete d cs g gr args w t k p.0 (sym p.1)) (h k x.0 x.1 (constant_hash m x.0 c ∙ sym q))

-- an application
substitute-app : (ts : List Term) (t : Term) (s : Sym) (us : List Term) → t ≡ App s (terms_of us) → substitute 0 (value_at ts) t ≡ App s (terms_of (map (substitute 0 (value_at ts)) us))
substitute-app ts t s us e = ap (substitute 0 (value_at ts)) e ∙ ap (App s) (substitute_args-terms_of 0 (value_at ts) us)

pub told_app_hash : (g : Ground) (args : List ℕ) (t : Term) (s : Sym) (us : List Term) (start hash : ℕ) (r : Option ℕ) → t ≡ App s (terms_of us) → start ≡ hash_with_symbol 1 s → FindsHash g args us start (Some hash) → IsHashedTerm g args t hash r → FindsTerm g args t r
unfolding FindsTerm FindsHash
told_app_hash g args t s us start hash (Some k) e st f h d cs gr w = instance_found d cs g gr args t k h.0 h.1
told_app_hash g args t s us start hash None e st f h d cs gr w = λ k p.
    let q = app_place d cs g gr k s (map (substitute 0 (value_at (terms_at g args))) us) (p.0, p.1 ∙ substitute-app (terms_at g args) t s us e) in
    let same : hash_with_all start q.0 ≡ hash = f d cs gr w q.0 (within_term d cs g gr k s q.0 q.1) q.2 in
    no_both (is_instance_at_complete d cs g gr args w t k p.0 (sym p.1)) (h k (entry.App s q.0) q.1 (ap (λ (n : ℕ). hash_with_all n q.0) (sym st) ∙ same))

pub told_no_hash : (g : Ground) (args : List ℕ) (t : Term) (s : Sym) (us : List Term) (start : ℕ) → t ≡ App s (terms_of us) → FindsHash g args us start None → FindsTerm g args t None
unfolding FindsTerm FindsHash
told_no_hash g args t s us start e f d cs gr w = λ k p.
    let q = app_place d cs g gr k s (map (substitute 0 (value_at (terms_at g args))) us) (p.0, p.1 ∙ substitute-app (terms_at g args) t s us e) in
    f d cs gr w q.0 (within_term d cs g gr k s q.0 q.1) q.2

pub ruleset term_rules = (told_bound, told_constant, told_app_hash, told_no_hash)

-- the hash of arguments
pub hash_start : (g : Ground) (args : List ℕ) (start : ℕ) → FindsHash g args [] start (Some start)
unfolding FindsHash
hash_start g args start d cs gr w [] v e = refl
hash_start g args start d cs gr w (k ∷ ks) v e = absurd (cons_nil e)

-- the last of a list, seen through a map
record Last (f : ℕ → Term) (ks : List ℕ) (ts : List Term) (t : Term) : Type 0 where
  front : List ℕ
  last : ℕ
  is : ks ≡ front ++ last ∷ []
  terms : map f front ≡ ts
  term : f last ≡ t

last_of : (f : ℕ → Term) (ks : List ℕ) (ts : List Term) (t : Term) → map f ks ≡ ts ++ t ∷ [] → Last f ks ts t
last_of f [] [] t e = absurd (nil_cons e)
last_of f [] (u ∷ ts) t e = absurd (nil_cons e)
last_of f (k ∷ []) [] t e = record { front = []; last = k; is = refl; terms = refl; term = cons_head e }
last_of f (k ∷ l ∷ ks) [] t e = absurd (cons_nil (cons_tail e))
last_of f (k ∷ ks) (u ∷ ts) t e =
    let r = last_of f ks ts t (cons_tail e) in
    record { front = k ∷ r.front; last = r.last; is = ap (λ xs. k ∷ xs) r.is; terms = λ i. cons_head e i ∷ r.terms i; term = r.term }

map_take_more : (f : Term → Term) (us : List Term) (k : ℕ) (u : Term) → slice_get us k ≡ Some u → map f (take (suc k) us) ≡ map f (take k us) ++ f u ∷ []
map_take_more f [] k u at = absurd (none_some at)
map_take_more f (v ∷ us) zero u at = let e : v ≡ u = some_same at in ap (λ x. f x ∷ []) e
map_take_more f (v ∷ us) (suc k) u at = ap (λ xs. f v ∷ xs) (map_take_more f us k u at)

front_within : (g : Ground) (ks : List ℕ) (k : ℕ) → AllWithin g (ks ++ k ∷ []) → AllWithin g ks
front_within g ks k w = λ j c. w j (Contains-append_left ks (k ∷ []) j c)

last_within : (g : Ground) (ks : List ℕ) (k : ℕ) → AllWithin g (ks ++ k ∷ []) → k < length g.terms
last_within g ks k w = w k (Contains-push ks k)

pub hash_more : (g : Ground) (args : List ℕ) (us : List Term) (start hash next i place : ℕ) (u : Term) → FindsHash g args (take i us) start (Some hash) → slice_get us i ≡ Some u → FindsTerm g args u (Some place) → next ≡ hash_with hash place → FindsHash g args (take (i + 1) us) start (Some next)
unfolding FindsHash FindsTerm
hash_more g args us start hash next i place u h at f n d cs gr w ks v e =
    let fill : Term → Term = substitute 0 (value_at (terms_at g args)) in
    let r = last_of (term_at (ground_terms g)) ks (map fill (take i us)) (fill u) (e ∙ ap (λ (m : ℕ). map fill (take m us)) (add-one i) ∙ map_take_more fill us i u at) in
    let inside : AllWithin g (r.front ++ r.last ∷ []) = subst (λ (xs : List ℕ). AllWithin g xs) r.is v in
    let one : r.last ≡ place = term_unique d cs g gr r.last place (fill u) (last_within g r.front r.last inside, r.term) (f d cs gr w) in
    let front : hash_with_all start r.front ≡ hash = h d cs gr w r.front (front_within g r.front r.last inside) r.terms in
    ap (hash_with_all start) r.is ∙ hash_with_all-push start r.front r.last ∙ (λ j. hash_with (front j) (one j)) ∙ sym n

pub hash_none : (g : Ground) (args : List ℕ) (us : List Term) (start i : ℕ) (u : Term) → slice_get us i ≡ Some u → FindsTerm g args u None → FindsHash g args us start None
unfolding FindsHash FindsTerm
hash_none g args us start i u at f d cs gr w ks v e =
    let fill : Term → Term = substitute 0 (value_at (terms_at g args)) in
    let here : slice_get (map (term_at (ground_terms g)) ks) i ≡ Some (fill u) = ap (λ (ts : List Term). slice_get ts i) e ∙ get_map fill us i u at in
    let p = get_unmap (term_at (ground_terms g)) ks i (fill u) here in
    f d cs gr w p.0 (v p.0 (get_contains ks i p.0 p.1), p.2)

pub hash_end : (g : Ground) (args : List ℕ) (us : List Term) (start hash i : ℕ) → length us ≤ i → FindsHash g args (take i us) start (Some hash) → FindsHash g args us start (Some hash)
hash_end g args us start hash i le h = subst (λ (ts : List Term). FindsHash g args ts start (Some hash)) (take_all i us le) h

pub ruleset hash_rules = (hash_start, hash_more, hash_none, hash_end)

-- atoms
pub told_atom : (g : Ground) (args : List ℕ) (s : Sym) (us : List Term) (start hash : ℕ) (r : Option ℕ) → start ≡ hash_with_symbol 0 s → FindsHash g args us start (Some hash) → IsHashedAtom g args s us hash r → FindsAtom g args s us r
unfolding FindsAtom FindsHash
told_atom g args s us start hash (Some k) st f h d cs gr w = atom_sound d cs g gr args s us k h.0 h.1 h.2
told_atom g args s us start hash None st f h d cs gr w = λ k p.
    let a : GroundAtom = p.0 in
    let same : hash_with_all start a.args ≡ hash = f d cs gr w a.args (within_atom d cs g gr k a p.1) p.3 in
    let at : atom_hash a ≡ hash = ap (λ (q : Sym). hash_with_all (hash_with_symbol 0 q) a.args) p.2 ∙ ap (λ (n : ℕ). hash_with_all n a.args) (sym st) ∙ same in
    no_both (atom_complete d cs g gr args w s us k p) (h k a p.1 at)

pub told_atom_without : (g : Ground) (args : List ℕ) (s : Sym) (us : List Term) (start : ℕ) → FindsHash g args us start None → FindsAtom g args s us None
unfolding FindsAtom FindsHash
told_atom_without g args s us start f d cs gr w = λ k p. f d cs gr w p.0.args (within_atom d cs g gr k p.0 p.1) p.3

pub atom_within : (g : Ground) (args : List ℕ) (s : Sym) (us : List Term) (hash : ℕ) (r : Option ℕ) → IsHashedAtom g args s us hash r → IfSome r (λ k. k < length g.atoms)
atom_within g args s us hash None h = tt
atom_within g args s us hash (Some k) h = slice_get_within g.atoms k h.0 h.1

pub ruleset atom_rules = (told_atom, told_atom_without, atom_within)

-- equations
pub told_sides : (g : Ground) (args : List ℕ) (t u : Term) (i j : ℕ) (r : Option ℕ) → FindsTerm g args t (Some i) → FindsTerm g args u (Some j) → MatchOption r ((k : ℕ) → slice_get g.equations k ≡ Some (record { left = i; right = j }) → ⊥) (λ k. slice_get g.equations k ≡ Some (record { left = i; right = j })) → FindsEquation g args t u r
unfolding FindsEquation FindsTerm
told_sides g args t u i j (Some k) p q h d cs gr w = (record { left = i; right = j }, (h, (p d cs gr w).1, (q d cs gr w).1))
told_sides g args t u i j None p q h d cs gr w = λ k e x.
    let v = equation_within d cs g gr k e x.0 in
    let l : e.left ≡ i = term_unique d cs g gr e.left i (substitute 0 (value_at (terms_at g args)) t) (v.0, x.1) (p d cs gr w) in
    let m : e.right ≡ j = term_unique d cs g gr e.right j (substitute 0 (value_at (terms_at g args)) u) (v.1, x.2) (q d cs gr w) in
    h k (x.0 ∙ ap Some (equation_equal e (record { left = i; right = j }) l m))

pub told_left_without : (g : Ground) (args : List ℕ) (t u : Term) → FindsTerm g args t None → FindsEquation g args t u None
unfolding FindsEquation FindsTerm
told_left_without g args t u f d cs gr w = λ k e x. f d cs gr w e.left ((equation_within d cs g gr k e x.0).0, x.1)

pub told_right_without : (g : Ground) (args : List ℕ) (t u : Term) → FindsTerm g args u None → FindsEquation g args t u None
unfolding FindsEquation FindsTerm
told_right_without g args t u f d cs gr w = λ k e x. f d cs gr w e.right ((equation_within d cs g gr k e x.0).1, x.2)

pub sides_within : (es : List GroundEquation) (e : GroundEquation) (r : Option ℕ) → MatchOption r ((k : ℕ) → slice_get es k ≡ Some e → ⊥) (λ k. slice_get es k ≡ Some e) → IfSome r (λ k. k < length es)
sides_within es e None h = tt
sides_within es e (Some k) h = slice_get_within es k e h

pub ruleset equation_rules = (told_sides, told_left_without, told_right_without, sides_within)
