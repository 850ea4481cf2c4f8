-- The two nodes of a literal.
use Rattle.std.proofs.Common.{◌≡◌, ◌≤◌, ◌+◌, ℕ, zero, suc, List, [], ◌∷◌, ◌++◌, length, map, take, refl, ap, sym, ◌∙◌, subst, true, false, Bool, add-one}
use Rattle.std.specs.Prelude.{slice_get, Some, None}
use Rattle.std.proofs.lemmas.List.{take_all}
use Rattle.mz_logic.specs.declared.sym.Sym.{Sym}
use Rattle.mz_logic.specs.Term.{Term}
use Rattle.mz_logic.specs.declared.literal.Literal.{Literal}
use Rattle.mz_logic.specs.declared.literal.Literal.TheVariants.{Atom, Eq}
use Rattle.mz_logic.specs.declared.disjunct.Disjunct.{Disjunct}
use Rattle.mz_ground.specs.Instance.{literal_at}
use Rattle.mz_ground.specs.Ground.{IsGround}
use Rattle.mz_ground.specs.declared.clause.Clause.{Clause}
use Rattle.mz_ground.specs.declared.ground_part.Ground.{Ground}
use Rattle.mz_ground.specs.declared.ground_equation.GroundEquation.{GroundEquation}
use Rattle.mz_congruence.specs.declared.graph.Pair.{Pair}
use Rattle.mz_congruence.specs.Nodes.{atom_place, disequal_place, yes_place}
use Rattle.mz_congruence.specs.Codes.{Codes, CodesAll}
use Rattle.mz_congruence.specs.Pairing.{terms_at, PairOf, PairsOf}
use Rattle.mz_congruence.specs.Lookup.{FindsAtom, FindsEquation}
use Rattle.mz_congruence.proofs.ListLemmas.{some_same, none_some}
use Rattle.mz_congruence.proofs.GroundLemmas.{atom_unique, equation_unique}

pub told_atom_pair : (g : Ground) (args : List ℕ) (positive : Bool) (s : Sym) (us : List Term) (k i j : ℕ) → FindsAtom g args s us (Some k) → i ≡ atom_place g positive k → j ≡ yes_place g → PairOf g args (Atom positive s us) (Some (record { left = i; right = j }))
unfolding PairOf FindsAtom
told_atom_pair g args positive s us k i j f ei ej d cs gr w = (k, f d cs gr w, ei, ej)

pub told_no_atom_pair : (g : Ground) (args : List ℕ) (positive : Bool) (s : Sym) (us : List Term) → FindsAtom g args s us None → PairOf g args (Atom positive s us) None
unfolding PairOf FindsAtom
told_no_atom_pair g args positive s us f d cs gr w = λ i j c. f d cs gr w c.0 c.1

pub told_equal_pair : (g : Ground) (args : List ℕ) (t u : Term) (k : ℕ) (f : GroundEquation) → FindsEquation g args t u (Some k) → slice_get g.equations k ≡ Some f → PairOf g args (Eq true t u) (Some (record { left = f.left; right = f.right }))
unfolding PairOf FindsEquation
told_equal_pair g args t u k f h bt d cs gr w =
    let p = h d cs gr w in
    let one : p.0 ≡ f = some_same (sym p.1.0 ∙ bt) in
    (k, p.0, p.1, ap (λ (x : GroundEquation). x.left) (sym one), ap (λ (x : GroundEquation). x.right) (sym one))

pub told_no_equal_pair : (g : Ground) (args : List ℕ) (t u : Term) → FindsEquation g args t u None → PairOf g args (Eq true t u) None
unfolding PairOf FindsEquation
told_no_equal_pair g args t u f d cs gr w = λ i j c. f d cs gr w c.0 c.1 c.2

pub told_disequal_pair : (g : Ground) (args : List ℕ) (t u : Term) (k i j : ℕ) → FindsEquation g args t u (Some k) → i ≡ disequal_place g k → j ≡ yes_place g → PairOf g args (Eq false t u) (Some (record { left = i; right = j }))
unfolding PairOf FindsEquation
told_disequal_pair g args t u k i j f ei ej d cs gr w = let p = f d cs gr w in (k, p.0, p.1, ei, ej)

pub told_no_disequal_pair : (g : Ground) (args : List ℕ) (t u : Term) → FindsEquation g args t u None → PairOf g args (Eq false t u) None
unfolding PairOf FindsEquation
told_no_disequal_pair g args t u f d cs gr w = λ i j c. f d cs gr w c.0 c.1 c.2

pub ruleset atom_pair_rules = (told_atom_pair, told_no_atom_pair)

pub ruleset equation_pair_rules = (told_equal_pair, told_no_equal_pair)

pub ruleset disequal_pair_rules = (told_disequal_pair, told_no_disequal_pair)

-- lists of literals
codes_push : (g : Ground) (ls : List Literal) (ps : List Pair) (l : Literal) (p : Pair) → CodesAll g ls ps → Codes g l p.left p.right → CodesAll g (ls ++ l ∷ []) (ps ++ p ∷ [])
codes_push g [] [] l p a c = (c, tt)
codes_push g [] (q ∷ ps) l p a c = absurd a
codes_push g (m ∷ ls) [] l p a c = absurd a
codes_push g (m ∷ ls) (q ∷ ps) l p a c = (a.0, codes_push g ls ps l p a.1 c)

codes_get : (g : Ground) (ls : List Literal) (ps : List Pair) (k : ℕ) (l : Literal) → CodesAll g ls ps → slice_get ls k ≡ Some l → (i : ℕ) × (j : ℕ) × Codes g l i j
codes_get g [] ps k l a at = absurd (none_some at)
codes_get g (m ∷ ls) [] k l a at = absurd a
codes_get g (m ∷ ls) (p ∷ ps) zero l a at = (p.left, p.right, subst (λ (x : Literal). Codes g x p.left p.right) (some_same at) a.0)
codes_get g (m ∷ ls) (p ∷ ps) (suc k) l a at = codes_get g ls ps k l a.1 at

map_take_more : (f : Literal → Literal) (ls : List Literal) (k : ℕ) (l : Literal) → slice_get ls k ≡ Some l → map f (take (suc k) ls) ≡ map f (take k ls) ++ f l ∷ []
map_take_more f [] k l at = absurd (none_some at)
map_take_more f (m ∷ ls) zero l at = let e : m ≡ l = some_same at in ap (λ x. f x ∷ []) e
map_take_more f (m ∷ ls) (suc k) l at = ap (λ xs. f m ∷ xs) (map_take_more f ls k l at)

map_get : (f : Literal → Literal) (ls : List Literal) (k : ℕ) (l : Literal) → slice_get ls k ≡ Some l → slice_get (map f ls) k ≡ Some (f l)
map_get f [] k l at = absurd (none_some at)
map_get f (m ∷ ls) zero l at = let e : m ≡ l = some_same at in ap (λ x. Some (f x)) e
map_get f (m ∷ ls) (suc k) l at = map_get f ls k l at

pub pairs_nil : (g : Ground) (args : List ℕ) → PairsOf g args [] (Some [])
unfolding PairsOf
pairs_nil g args d cs gr w = tt

pub pairs_more : (g : Ground) (args : List ℕ) (ls : List Literal) (ps qs : List Pair) (k : ℕ) (l : Literal) (p : Pair) → PairsOf g args (take k ls) (Some ps) → slice_get ls k ≡ Some l → PairOf g args l (Some p) → qs ≡ ps ++ p ∷ [] → PairsOf g args (take (k + 1) ls) (Some qs)
unfolding PairOf PairsOf
pairs_more g args ls ps qs k l p a at c e d cs gr w =
    let f : Literal → Literal = literal_at (terms_at g args) in
    rw (add-one, e, map_take_more f ls k l at) (codes_push g (map f (take k ls)) ps (f l) p (a d cs gr w) (c d cs gr w))

pub pairs_none : (g : Ground) (args : List ℕ) (ls : List Literal) (k : ℕ) (l : Literal) → slice_get ls k ≡ Some l → PairOf g args l None → PairsOf g args ls None
unfolding PairOf PairsOf
pairs_none g args ls k l at n d cs gr w = λ ps c.
    let f : Literal → Literal = literal_at (terms_at g args) in
    let p = codes_get g (map f ls) ps k (f l) c (map_get f ls k l at) in
    n d cs gr w p.0 p.1 p.2

pub pairs_end : (g : Ground) (args : List ℕ) (ls : List Literal) (ps : List Pair) (k : ℕ) → length ls ≤ k → PairsOf g args (take k ls) (Some ps) → PairsOf g args ls (Some ps)
pairs_end g args ls ps k le a = subst (λ (xs : List Literal). PairsOf g args xs (Some ps)) (take_all k ls le) a

pub ruleset pairs_rules = (pairs_more, pairs_none, pairs_end)

-- the two nodes of a literal are determined
pub codes_unique : (d : Disjunct) (cs : List Clause) (g : Ground) → IsGround d cs g → (l : Literal) (i j i' j' : ℕ) → Codes g l i j → Codes g l i' j' → (i ≡ i') × (j ≡ j')
codes_unique d cs g gr (Atom positive s ts) i j i' j' p q =
    let k : p.0 ≡ q.0 = atom_unique d cs g gr p.0 q.0 s ts p.1 q.1 in
    (p.2 ∙ ap (atom_place g positive) k ∙ sym q.2, p.3 ∙ sym q.3)
codes_unique d cs g gr (Eq true t u) i j i' j' p q =
    let k : p.0 ≡ q.0 = equation_unique d cs g gr p.0 q.0 p.1 q.1 t u p.2 q.2 in
    let e : p.1 ≡ q.1 = some_same (sym p.2.0 ∙ ap (slice_get g.equations) k ∙ q.2.0) in
    (p.3 ∙ ap (λ (x : GroundEquation). x.left) e ∙ sym q.3, p.4 ∙ ap (λ (x : GroundEquation). x.right) e ∙ sym q.4)
codes_unique d cs g gr (Eq false t u) i j i' j' p q =
    let k : p.0 ≡ q.0 = equation_unique d cs g gr p.0 q.0 p.1 q.1 t u p.2 q.2 in
    (p.3 ∙ ap (disequal_place g) k ∙ sym q.3, p.4 ∙ sym q.4)

pair_same : (p q : Pair) → p.left ≡ q.left → p.right ≡ q.right → p ≡ q
pair_same p q l r = λ i. record { left = l i; right = r i }

pub codes_all_unique : (d : Disjunct) (cs : List Clause) (g : Ground) → IsGround d cs g → (ls : List Literal) (ps qs : List Pair) → CodesAll g ls ps → CodesAll g ls qs → ps ≡ qs
codes_all_unique d cs g gr [] [] [] a b = refl
codes_all_unique d cs g gr [] [] (q ∷ qs) a b = absurd b
codes_all_unique d cs g gr [] (p ∷ ps) qs a b = absurd a
codes_all_unique d cs g gr (l ∷ ls) [] qs a b = absurd a
codes_all_unique d cs g gr (l ∷ ls) (p ∷ ps) [] a b = absurd b
codes_all_unique d cs g gr (l ∷ ls) (p ∷ ps) (q ∷ qs) a b =
    let c = codes_unique d cs g gr l p.left p.right q.left q.right a.0 b.0 in
    let e : p ≡ q = pair_same p q c.0 c.1 in
    let f : ps ≡ qs = codes_all_unique d cs g gr ls ps qs a.1 b.1 in
    λ i. e i ∷ f i
