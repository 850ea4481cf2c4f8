-- A clause derives where its conclusion derives from its premises at new constants.
use Rattle.std.proofs.Common.{◌≡◌, ℕ, zero, suc, ◌+◌, ◌<◌, ◌≤◌, List, [], ◌∷◌, ◌++◌, map, length, refl, sym, ap, subst, arith, true, false}
use Rattle.std.specs.List.{list_all, list_any}
use Rattle.std.proofs.lemmas.Bool.{ne_eqb, or_from}
use Rattle.std.proofs.lemmas.List.{map-append}
use Rattle.std.proofs.lemmas.List.Elements.{Contains-append_right}
use Rattle.mz_logic.specs.Term.{Term, Const}
use Rattle.mz_logic.specs.Formula.{Formula, And, All}
use Rattle.mz_logic.specs.Negation.{falsity}
use Rattle.mz_logic.specs.Indices.{closed}
use Rattle.mz_logic.specs.Constants.{occurs, occurs_in_formula}
use Rattle.mz_logic.specs.Connectives.{joined_to, quantified}
use Rattle.mz_logic.specs.Literal.{literal_formula}
use Rattle.mz_logic.specs.Substitution.{substitute_formula, value_at, body_at}
use Rattle.mz_logic.specs.Derives.{Derives}
use Rattle.mz_logic.specs.declared.literal.Literal.{Literal}
use Rattle.mz_logic.specs.declared.literal.Literal.TheVariants.{Atom, Eq}
use Rattle.mz_logic.proofs.SubstitutionLaws.{occurs_in_formula-substitute}
use Rattle.mz_logic.proofs.ValueLaws.{substitute_formula-one_others, occurs-value_at, substitute_formula-no_values}
use Rattle.mz_logic.proofs.Fresh.{formula_greatest, all_greatest, occurs_in_formula-above, occurs_in_formulas-above}
use Rattle.mz_logic.proofs.Rules.{not_in, not_out, all_in}
use Rattle.mz_logic.proofs.Connectives.{first, under}
use Rattle.mz_logic.proofs.Each.{Along, Each, cut_each, each_along, each_append, each_itself, along_left, along_right, joined_to_out, premises_within}
use Rattle.mz_ground.specs.ClauseFormula.{complement, implication}
use Rattle.mz_clause_laws.proofs.Instances.{formulas_at}

-- `count` constants from m on, the last one first
abbrev pub constants : ℕ → ℕ → List Term
constants m zero = []
constants m (suc count) = Const (m + count) ∷ constants m count

pub length-constants : (m count : ℕ) → length (constants m count) ≡ count
length-constants m zero = refl
length-constants m (suc count) = ap suc (length-constants m count)

pub constants_closed : (m count : ℕ) → list_all closed (constants m count) ≡ true
constants_closed m zero = refl
constants_closed m (suc count) = constants_closed m count

-- a later constant is none of them
none_later : (m count c : ℕ) → m + count ≤ c → list_any (occurs c) (constants m count) ≡ false
none_later m zero c le = refl
none_later m (suc count) c le =
    or_from _ _ (ne_eqb (m + count) c (λ e. omega arith)) (none_later m count c (omega arith))

-- all objects, from new constants
pub quantified_in : (ax known : List Formula) (m count : ℕ) (f : Formula) → formula_greatest f < m → all_greatest known < m → Derives ax known (substitute_formula 0 (value_at (constants m count)) f) → Derives ax known (quantified count f)
quantified_in ax known m zero f lt above d = subst (Derives ax known) (substitute_formula-no_values 0 f) d
quantified_in ax known m (suc count) f lt above d =
    let inner : Formula = substitute_formula 1 (value_at (constants m count)) f in
    let fresh : list_any (occurs_in_formula (m + count)) known ≡ false = occurs_in_formulas-above (m + count) known (omega arith) in
    let apart : occurs_in_formula (m + count) f ≡ false = occurs_in_formula-above (m + count) f (omega arith) in
    let values : (k : ℕ) → occurs (m + count) (value_at (constants m count) k) ≡ false = λ k. occurs-value_at (m + count) (constants m count) k (none_later m count (m + count) (omega arith)) in
    let lacks : occurs_in_formula (m + count) inner ≡ false = occurs_in_formula-substitute (m + count) 1 (value_at (constants m count)) f values apart in
    let at : Derives ax known (body_at inner (Const (m + count))) = subst (Derives ax known) (sym (substitute_formula-one_others 0 (Const (m + count)) (constants m count) f)) d in
    quantified_in ax known m count (All f) lt above (all_in ax known inner (m + count) fresh lacks at)

-- an implication, from its conclusion under its premises
joined_at : (v : ℕ → Term) (f : Formula) (fs : List Formula) → substitute_formula 0 v (joined_to f fs) ≡ joined_to (substitute_formula 0 v f) (map (substitute_formula 0 v) fs)
joined_at v f [] = refl
joined_at v f (g ∷ gs) = joined_at v (And f g) gs

-- the complement and the literal contradict each other
contradict : (ax g : List Formula) (v : ℕ → Term) (l : Literal) → Derives ax g (substitute_formula 0 v (literal_formula l)) → Derives ax g (substitute_formula 0 v (literal_formula (complement l))) → Derives ax g falsity
contradict ax g v (Atom true s ts) d e = not_out ax g _ falsity d e
contradict ax g v (Atom false s ts) d e = not_out ax g _ falsity e d
contradict ax g v (Eq true t u) d e = not_out ax g _ falsity d e
contradict ax g v (Eq false t u) d e = not_out ax g _ falsity e d

-- premises, and literals at terms before them
abbrev pub premises_at : List Formula → List Term → List Literal → List Formula
premises_at known ts ls = formulas_at ts ls ++ known

pub weaker : (ax known fs : List Formula) (f : Formula) → Derives ax known f → Derives ax (fs ++ known) f
weaker ax known fs f d = premises_within known (fs ++ known) f ax (λ k is. Contains-append_right fs known k is) d

known_under : (ax known : List Formula) (f : Formula) → Each ax (f ∷ known) known
known_under ax known f k is = under ax known f k (each_itself ax known k is)

pub implication_in : (ax known : List Formula) (ts : List Term) (ls : List Literal) (l : Literal) → Derives ax (premises_at known ts ls) (substitute_formula 0 (value_at ts) (literal_formula l)) → Derives ax known (substitute_formula 0 (value_at ts) (implication ls l))
implication_in ax known ts [] l d = d
implication_in ax known ts (k ∷ ks) l d =
    let parts : List Formula = map literal_formula ks ++ literal_formula (complement l) ∷ [] in
    let both : Formula = substitute_formula 0 (value_at ts) (joined_to (literal_formula k) parts) in
    let h : List Formula = both ∷ known in
    let told : Derives ax h (joined_to (substitute_formula 0 (value_at ts) (literal_formula k)) (map (substitute_formula 0 (value_at ts)) parts)) = subst (Derives ax h) (joined_at (value_at ts) (literal_formula k) parts) (first ax known both) in
    let each : Derives ax h (substitute_formula 0 (value_at ts) (literal_formula k)) × Along ax h (map (substitute_formula 0 (value_at ts)) parts) = joined_to_out ax h (substitute_formula 0 (value_at ts) (literal_formula k)) (map (substitute_formula 0 (value_at ts)) parts) told in
    let cut_up : Along ax h (formulas_at ts ks ++ formulas_at ts (complement l ∷ [])) = subst (Along ax h) (map-append (substitute_formula 0 (value_at ts)) (map literal_formula ks) (literal_formula (complement l) ∷ [])) each.1 in
    let given : Along ax h (formulas_at ts (k ∷ ks)) = (each.0, along_left ax h (formulas_at ts ks) (formulas_at ts (complement l ∷ [])) cut_up) in
    let against : Along ax h (formulas_at ts (complement l ∷ [])) = along_right ax h (formulas_at ts ks) (formulas_at ts (complement l ∷ [])) cut_up in
    let all : Each ax h (premises_at known ts (k ∷ ks)) = each_append ax h (formulas_at ts (k ∷ ks)) known (each_along ax h (formulas_at ts (k ∷ ks)) given) (known_under ax known both) in
    let conclusion : Derives ax h (substitute_formula 0 (value_at ts) (literal_formula l)) = cut_each ax h (premises_at known ts (k ∷ ks)) (substitute_formula 0 (value_at ts) (literal_formula l)) all d in
    not_in ax known both (contradict ax h (value_at ts) l conclusion against.0)

-- a clause: at any closed terms its conclusion derives from its premises
pub clause_in : (ax known : List Formula) (count : ℕ) (ls : List Literal) (l : Literal) → ((ts : List Term) → list_all closed ts ≡ true → length ts ≡ count → Derives ax (premises_at known ts ls) (substitute_formula 0 (value_at ts) (literal_formula l))) → Derives ax known (quantified count (implication ls l))
clause_in ax known count ls l each =
    let m : ℕ = formula_greatest (implication ls l) + all_greatest known + 1 in
    let above : formula_greatest (implication ls l) < formula_greatest (implication ls l) + all_greatest known + 1 = omega arith in
    let others : all_greatest known < formula_greatest (implication ls l) + all_greatest known + 1 = omega arith in
    quantified_in ax known m count (implication ls l) above others
    (implication_in ax known (constants m count) ls l (each (constants m count) (constants_closed m count) (length-constants m count)))
