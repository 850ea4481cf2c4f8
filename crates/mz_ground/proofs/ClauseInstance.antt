-- An instance of a clause derives from the clause.
use Rattle.std.proofs.Common.{◌≡◌, List, [], ◌∷◌, ◌++◌, map, refl, ap, sym, ◌∙◌, true, false}
use Rattle.mz_logic.specs.Term.{Term}
use Rattle.mz_logic.specs.Formula as formula
use Rattle.mz_logic.specs.Formula.{Formula, Not, And}
use Rattle.mz_logic.specs.Connectives.{joined_to}
use Rattle.mz_logic.specs.Substitution.{substitute_formula, value_at}
use Rattle.mz_logic.specs.Negation.{falsity}
use Rattle.mz_logic.specs.Literal.{literal_formula}
use Rattle.mz_logic.specs.declared.literal.Literal.{Literal}
use Rattle.mz_logic.specs.declared.literal.Literal.TheVariants.{Atom, Eq}
use Rattle.mz_logic.specs.Derives.{Derives}
use Rattle.mz_logic.proofs.Rules.{not_in, not_out, classical}
use Rattle.mz_logic.proofs.Connectives.{first, under}
use Rattle.mz_logic.proofs.Each.{Along, joined_to_in}
use Rattle.mz_ground.specs.Instance.{literal_at}
use Rattle.mz_ground.specs.ClauseFormula.{complement, implication}

-- the substitution under no binder
substitute_formula-literal : (ts : List Term) (l : Literal) → substitute_formula 0 (value_at ts) (literal_formula l) ≡ literal_formula (literal_at ts l)
substitute_formula-literal ts (Atom true s us) = refl
substitute_formula-literal ts (Atom false s us) = refl
substitute_formula-literal ts (Eq true a b) = refl
substitute_formula-literal ts (Eq false a b) = refl

substitute_formula-joined_to : (ts : List Term) (f : Formula) (fs : List Formula) → substitute_formula 0 (value_at ts) (joined_to f fs) ≡ joined_to (substitute_formula 0 (value_at ts) f) (map (substitute_formula 0 (value_at ts)) fs)
substitute_formula-joined_to ts f [] = refl
substitute_formula-joined_to ts f (g ∷ gs) = substitute_formula-joined_to ts (And f g) gs

complement-literal_at : (ts : List Term) (l : Literal) → complement (literal_at ts l) ≡ literal_at ts (complement l)
complement-literal_at ts (Atom positive s us) = refl
complement-literal_at ts (Eq positive t u) = refl

substitute_formula-parts : (ts : List Term) (ls : List Literal) (l : Literal) → map (substitute_formula 0 (value_at ts)) (map literal_formula ls ++ literal_formula l ∷ []) ≡ map literal_formula (map (literal_at ts) ls) ++ literal_formula (literal_at ts l) ∷ []
substitute_formula-parts ts [] l = ap (λ f. f ∷ []) (substitute_formula-literal ts l)
substitute_formula-parts ts (k ∷ ks) l = λ i. substitute_formula-literal ts k i ∷ substitute_formula-parts ts ks l i

pub substitute_formula-implication : (ts : List Term) (ls : List Literal) (l : Literal) → substitute_formula 0 (value_at ts) (implication ls l) ≡ implication (map (literal_at ts) ls) (literal_at ts l)
substitute_formula-implication ts [] l = substitute_formula-literal ts l
substitute_formula-implication ts (k ∷ ks) l =
    let parts : List Formula = map literal_formula ks ++ literal_formula (complement l) ∷ [] in
    let moved : map (substitute_formula 0 (value_at ts)) parts ≡ (map literal_formula (map (literal_at ts) ks) ++ literal_formula (complement (literal_at ts l)) ∷ []) =
    substitute_formula-parts ts ks (complement l) ∙ ap (λ m. map literal_formula (map (literal_at ts) ks) ++ literal_formula m ∷ []) (sym (complement-literal_at ts l)) in
    ap Not (substitute_formula-joined_to ts (literal_formula k) parts ∙ (λ i. joined_to (substitute_formula-literal ts k i) (moved i)))

-- the literal derives where its complement gives falsity
pub by_complement : (ax g : List Formula) (l : Literal) → Derives ax (literal_formula (complement l) ∷ g) falsity → Derives ax g (literal_formula l)
by_complement ax g (Atom true s ts) d = classical ax g (formula.Atom s ts) d
by_complement ax g (Atom false s ts) d = not_in ax g (formula.Atom s ts) d
by_complement ax g (Eq true t u) d = classical ax g (formula.Eq t u) d
by_complement ax g (Eq false t u) d = not_in ax g (formula.Eq t u) d

along_under : (ax g : List Formula) (k : Formula) (ls : List Literal) (l : Formula) → Along ax g (map literal_formula ls) → Derives ax (k ∷ g) l → Along ax (k ∷ g) (map literal_formula ls ++ l ∷ [])
along_under ax g k [] l e d = (d, tt)
along_under ax g k (m ∷ ms) l e d = (under ax g k (literal_formula m) e.0, along_under ax g k ms l e.1 d)

pub implication_out : (ax g : List Formula) (ls : List Literal) (l : Literal) → Derives ax g (implication ls l) → Along ax g (map literal_formula ls) → Derives ax g (literal_formula l)
implication_out ax g [] l d e = d
implication_out ax g (k ∷ ks) l d e =
    let c : Formula = literal_formula (complement l) in
    let parts : List Formula = map literal_formula ks ++ c ∷ [] in
    let all : Derives ax (c ∷ g) (joined_to (literal_formula k) parts) =
    joined_to_in ax (c ∷ g) (literal_formula k) parts (under ax g c (literal_formula k) e.0) (along_under ax g c ks c e.1 (first ax g c)) in
    by_complement ax g l (not_out ax (c ∷ g) (joined_to (literal_formula k) parts) falsity all (under ax g c (implication (k ∷ ks) l) d))
