-- A problem that derives gives its statement.
use Rattle.std.proofs.Common.{◌≡◌, ◌≤◌, ◌+◌, ℕ, zero, suc, List, [], ◌∷◌, ◌++◌, map, length, refl, ap, sym, ◌∙◌, subst, arith, Bool, true, false, inl, inr, ◌⊎◌, Option, Some, None, length-append}
use Rattle.std.specs.Prelude.{Contains, flat_map}
use Rattle.std.specs.List.{list_all}
use Rattle.std.proofs.lemmas.List.{append-nil, map-append}
use Rattle.std.proofs.lemmas.List.Elements.{Contains-append_cases}
use Rattle.std.proofs.lemmas.Bool.{and_parts, and_from, lt-ltb}
use Rattle.mz_logic.specs.declared.sym.Sym.{Sym}
use Rattle.mz_logic.specs.Term.{Term, Const}
use Rattle.mz_logic.specs.Formula as formula
use Rattle.mz_logic.specs.Formula.{Formula}
use Rattle.mz_logic.specs.Literal.{literal_formula}
use Rattle.mz_logic.specs.Indices.{is_below}
use Rattle.mz_logic.specs.Negation.{falsity}
use Rattle.mz_logic.specs.Derives.{Derives}
use Rattle.mz_logic.specs.declared.literal.Literal.{Literal}
use Rattle.mz_logic.specs.declared.literal.Literal.TheVariants as literal
use Rattle.mz_logic.proofs.Rules.{not_in, not_out, classical}
use Rattle.mz_logic.proofs.Connectives.{first, under}
use Rattle.mz_logic.proofs.Each.{Each, Along, cut_each, each_itself, each_under, each_append, each_left, each_right, each_more, each_none, each_along, along_each}
use Rattle.mz_core.specs.Statement.{Statement, Truth, Eq, Atom, Not, And, For}
use Rattle.mz_core.specs.StatementForms.{opposite}
use Rattle.mz_core.specs.TypeStatements.{literal_statement}
use Rattle.mz_core.specs.TypeSubstitution.{statement_at}
use Rattle.mz_core.specs.Guard.{guard, guard_literals}
use Rattle.mz_core.specs.Parts.{parts}
use Rattle.mz_core.specs.Erasure.{erase}
use Rattle.mz_core.specs.InForce.{term_in_force, formula_in_force, type_in_force, statement_in_force}
use Rattle.mz_core.specs.Everywhere.{literal_all}
use Rattle.mz_core.specs.Below.{type_below, statement_below}
use Rattle.mz_core.specs.declared.soft_type.SoftType.{SoftType}
use Rattle.mz_core.proofs.AllLemmas.{parts_all, opposite_all, guard_literals_all, literal_statement_all}
use Rattle.mz_core.proofs.LawProofs.{body_in_force, body_below, more_in_force, guard_in_force}
use Rattle.mz_laws.proofs.StatementProofs.{more_formula_in_force, more_type_in_force}
use Rattle.mz_context.specs.Context.{numbers}
use Rattle.mz_context.specs.Gather.{below, reached, known, known_of_all}
use Rattle.mz_context.specs.declared.constants.Constant.{Constant}
use Rattle.mz_ground.specs.ClauseFormula.{clause_formula}
use Rattle.mz_ground.specs.declared.clause.Clause.{Clause}
use Rattle.mz_environment.specs.declared.unfoldings.Unfolding.{Unfolding}
use Rattle.mz_nf.specs.declared.problem.Problem.{Problem}
use Rattle.mz_fits.specs.Laws.{AreGranted}
use Rattle.mz_thesis.specs.Rows.{with_fresh}
use Rattle.mz_thesis.specs.Unfolding.{UnfoldsTo}
use Rattle.mz_problem.specs.Opened.{Opens, as_it_is, at_constant, with_all_fresh, guards_from}
use Rattle.mz_problem.specs.Definientia.{Adds, definiens, negated_definiens, nothing, nothing_negated, other, AllAdd, no_parts, and_part}
use Rattle.mz_problem.specs.Asked.{occurs_in_some, known_in, formulas_of, parts_of, problem_of, AskedAt, with_added, Asks, asks}
use Rattle.mz_thesis_laws.specs.RowLaws.{AreInForce}
use Rattle.mz_thesis_laws.specs.StepLaws.{AreUnfoldings}
use Rattle.mz_thesis_laws.proofs.StatementProofs.{opposite_in, parts_out}
use Rattle.mz_thesis_laws.proofs.RowProofs.{generalized, granted_with_fresh}
use Rattle.mz_thesis_laws.proofs.UnfoldProofs.{unfolds_law}
use Rattle.mz_problem_laws.specs.ProblemLaw.{KnownIsClosed, ProblemLaw, JoinedProblemLaw}

-- what is granted from some premises is granted from others that derive these
granted_more : (ax g h : List Formula) (cs : List Clause) (ks : List (Option Constant)) → Each ax h g → AreGranted ax g cs ks → AreGranted ax h cs ks
granted_more ax g h cs ks each grants = record {
  clauses = λ c is. cut_each ax h g (clause_formula c) each (grants.clauses c is);
  known = λ n l is. cut_each ax h g (literal_formula l) each (grants.known n l is);
}

-- a definiens that is added derives from the part
adds_derives : (ax h : List Formula) (cs : List Clause) (ks : List (Option Constant)) (us : List Unfolding) → AreGranted ax h cs ks → AreUnfoldings ax us → (s : Statement) (ds : List Statement) → Adds cs ks us s ds → statement_below 0 s ≡ true → Derives ax h (erase s) → Along ax h (map erase ds)
adds_derives ax h cs ks us grants each s ds (definiens r ts d u) below x = ((unfolds_law ax h cs ks us grants each (Atom r ts) d below u).1 x, tt)
adds_derives ax h cs ks us grants each s ds (negated_definiens r ts d u) below x =
    let k : List Formula = erase d ∷ h in
    let grants' : AreGranted ax k cs ks = granted_more ax h k cs ks (each_under ax h h (erase d) (each_itself ax h)) grants in
    let atom : Derives ax k (formula.Atom r ts) = (unfolds_law ax k cs ks us grants' each (Atom r ts) d below u).0 (first ax h (erase d)) in
    (opposite_in ax h d (not_in ax h (erase d) (not_out ax k (formula.Atom r ts) falsity atom (under ax h (erase d) (formula.Not (formula.Atom r ts)) x))), tt)
adds_derives ax h cs ks us grants each s ds (nothing r ts u) below x = tt
adds_derives ax h cs ks us grants each s ds (nothing_negated r ts u) below x = tt
adds_derives ax h cs ks us grants each s ds (other r e) below x = tt

along_both : (ax h : List Formula) (ss ts : List Statement) → Along ax h (map erase ss) → Along ax h (map erase ts) → Along ax h (map erase (ss ++ ts))
along_both ax h [] ts p q = q
along_both ax h (s ∷ ss) ts p q = (p.0, along_both ax h ss ts p.1 q)

all_add_derive : (ax h : List Formula) (cs : List Clause) (ks : List (Option Constant)) (us : List Unfolding) → AreGranted ax h cs ks → AreUnfoldings ax us → (ss ds : List Statement) → AllAdd cs ks us ss ds → list_all (statement_below 0) ss ≡ true → Along ax h (map erase ss) → Along ax h (map erase ds)
all_add_derive ax h cs ks us grants each ss ds no_parts below x = tt
all_add_derive ax h cs ks us grants each ss ds (and_part q qs es fs a rest) below x =
    let b : (statement_below 0 q ≡ true) × (list_all (statement_below 0) qs ≡ true) = and_parts (statement_below 0 q) (list_all (statement_below 0) qs) below in
    along_both ax h es fs (adds_derives ax h cs ks us grants each q es a b.0 x.0) (all_add_derive ax h cs ks us grants each qs fs rest b.1 x.1)

-- the parts, and that they have no free index
all_both : (p : Statement → Bool) (ss ts : List Statement) → list_all p ss ≡ true → list_all p ts ≡ true → list_all p (ss ++ ts) ≡ true
all_both p [] ts a b = b
all_both p (s ∷ ss) ts a b =
    let c : (p s ≡ true) × (list_all p ss ≡ true) = and_parts (p s) (list_all p ss) a in
    and_from (p s) (list_all p (ss ++ ts)) c.0 (all_both p ss ts c.1 b)

parts_below : (ss : List Statement) → list_all (statement_below 0) ss ≡ true → list_all (statement_below 0) (flat_map parts ss) ≡ true
parts_below [] h = refl
parts_below (s ∷ ss) h =
    let c : (statement_below 0 s ≡ true) × (list_all (statement_below 0) ss ≡ true) = and_parts (statement_below 0 s) (list_all (statement_below 0) ss) h in
    all_both (statement_below 0) (parts s) (flat_map parts ss) (parts_all is_below 0 s c.0) (parts_below ss c.1)

parts_along : (ax h : List Formula) (ss : List Statement) → Along ax h (map erase ss) → Along ax h (map erase (flat_map parts ss))
parts_along ax h [] p = tt
parts_along ax h (s ∷ ss) p = along_both ax h (parts s) (flat_map parts ss) (parts_out ax h s p.0) (parts_along ax h ss p.1)

-- literals as statements
erased_literal : (l : Literal) → erase (literal_statement l) ≡ literal_formula l
erased_literal (literal.Atom true s ts) = refl
erased_literal (literal.Atom false s ts) = refl
erased_literal (literal.Eq true t u) = refl
erased_literal (literal.Eq false t u) = refl

erased_literals : (ls : List Literal) → map erase (map literal_statement ls) ≡ map literal_formula ls
erased_literals [] = refl
erased_literals (l ∷ ls) = λ i. erased_literal l i ∷ erased_literals ls i

-- literals without free indices
abbrev AreClosedLiterals : List Literal → Type 0
AreClosedLiterals ls = list_all (statement_below 0) (map literal_statement ls) ≡ true

of_some : (ks : List (Option Constant)) (ns : List ℕ) → KnownIsClosed ks → AreClosedLiterals (known_of_all ks ns)
of_some ks [] h = refl
of_some ks (n ∷ ns) h =
    subst (λ xs. list_all (statement_below 0) xs ≡ true) (sym (map-append literal_statement (known ks n) (known_of_all ks ns)))
    (all_both (statement_below 0) (map literal_statement (known ks n)) (map literal_statement (known_of_all ks ns)) (each_closed (known ks n) (h n)) (of_some ks ns h))
  where
    each_closed : (ls : List Literal) → ((l : Literal) → Contains ls l → statement_below 0 (literal_statement l) ≡ true) → list_all (statement_below 0) (map literal_statement ls) ≡ true
    each_closed [] k = refl
    each_closed (l ∷ ls) k =
        and_from (statement_below 0 (literal_statement l)) (list_all (statement_below 0) (map literal_statement ls)) (k l (0, omega arith, refl)) (each_closed ls (λ m is. k m (suc is.0, omega (arith, is.1), is.2)))

known_derive : (ax h : List Formula) (cs : List Clause) (ks : List (Option Constant)) → AreGranted ax h cs ks → (ns : List ℕ) → Along ax h (map literal_formula (known_of_all ks ns))
known_derive ax h cs ks grants [] = tt
known_derive ax h cs ks grants (n ∷ ns) =
    subst (Along ax h) (sym (map-append literal_formula (known ks n) (known_of_all ks ns))) (both (known ks n) (grants.known n) (known_derive ax h cs ks grants ns))
  where
    both : (ls : List Literal) → ((l : Literal) → Contains ls l → Derives ax h (literal_formula l)) → Along ax h (map literal_formula (known_of_all ks ns)) → Along ax h (map literal_formula ls ++ map literal_formula (known_of_all ks ns))
    both [] k rest = rest
    both (l ∷ ls) k rest = (k l (0, omega arith, refl), both ls (λ m is. k m (suc is.0, omega (arith, is.1), is.2)) rest)

-- fresh constants, one after another. `fs` derive all along, and at last so do the guards, which have no free index
abbrev Final : List Formula → List Clause → List (Option Constant) → List SoftType → List Formula → Statement → Type 0
Final ax cs ks tys fs t =
    (h : List Formula) → AreGranted ax h cs (with_all_fresh ks tys) → Each ax h fs → Each ax h (map literal_formula (guards_from (numbers ks) tys)) →
    AreClosedLiterals (guards_from (numbers ks) tys) → statement_below 0 t ≡ true → Derives ax h (erase t)

type_closed : (n : ℕ) (ty : SoftType) → type_below 0 ty ≡ true → AreClosedLiterals (guard_literals ty (Const n))
type_closed n ty h = inner (guard_literals ty (Const n)) (guard_literals_all is_below 0 ty (Const n) h refl)
  where
    inner : (ls : List Literal) → list_all (literal_all is_below 0) ls ≡ true → AreClosedLiterals ls
    inner [] k = refl
    inner (l ∷ ls) k =
        let c : (literal_all is_below 0 l ≡ true) × (list_all (literal_all is_below 0) ls ≡ true) = and_parts (literal_all is_below 0 l) (list_all (literal_all is_below 0) ls) k in
        and_from (statement_below 0 (literal_statement l)) (list_all (statement_below 0) (map literal_statement ls)) (literal_statement_all is_below 0 l c.0) (inner ls c.1)

next_number : (ks : List (Option Constant)) (ty : SoftType) → numbers (with_fresh ks ty) ≡ suc (numbers ks)
next_number ks ty = let e : length (with_fresh ks ty) ≡ length ks + 1 = length-append ks _ in omega (arith, e)

-- the formulas of a list in force with one more constant
all_more : (n : ℕ) (fs : List Formula) → AreInForce n fs → AreInForce (suc n) fs
all_more n [] h = refl
all_more n (f ∷ fs) h =
    let c = and_parts (formula_in_force n f) (list_all (formula_in_force n) fs) h in
    and_from (formula_in_force (suc n) f) (list_all (formula_in_force (suc n)) fs) (more_formula_in_force n (suc n) f (omega arith) c.0) (all_more n fs c.1)

all_of_both : (n : ℕ) (fs gs : List Formula) → AreInForce n fs → AreInForce n gs → AreInForce n (fs ++ gs)
all_of_both n [] gs a b = b
all_of_both n (f ∷ fs) gs a b =
    let c = and_parts (formula_in_force n f) (list_all (formula_in_force n) fs) a in
    and_from (formula_in_force n f) (list_all (formula_in_force n) (fs ++ gs)) c.0 (all_of_both n fs gs c.1 b)

new_in_force : (n : ℕ) → term_in_force (suc n) (Const n) ≡ true
new_in_force n = lt-ltb n (suc n) (omega arith)

opened : (ax : List Formula) (cs : List Clause) (ks : List (Option Constant)) (s : Statement) (tys : List SoftType) (t : Statement) → Opens ks s tys t → (g fs : List Formula) → AreGranted ax g cs ks → AreInForce (numbers ks) g → statement_in_force (numbers ks) s ≡ true → statement_below 0 s ≡ true → Each ax g fs → Final ax cs ks tys fs t → Derives ax g (erase s)
opened ax cs ks s tys t (as_it_is ls r e) g fs grants in_g in_s below each final = final g grants each (each_none ax g) refl below
opened ax cs ks s tys t (at_constant ls ty us r v o) g fs grants in_g in_s below each final =
    let n : ℕ = numbers ls in
    let gs : List Formula = guard ty (Const n) in
    let k : List Formula = gs ++ g in
    let in_both : (type_in_force n ty ≡ true) × (statement_in_force n r ≡ true) = and_parts (type_in_force n ty) (statement_in_force n r) in_s in
    let below_both : (type_below 0 ty ≡ true) × (statement_below 1 r ≡ true) = and_parts (type_below 0 ty) (statement_below 1 r) below in
    let up : numbers (with_fresh ls ty) ≡ suc n = next_number ls ty in
    let in_k : AreInForce (suc n) k = all_of_both (suc n) gs g (guard_in_force (suc n) ty (Const n) (more_type_in_force n (suc n) ty (omega arith) in_both.0) (new_in_force n)) (all_more n g in_g) in
    let in_r : statement_in_force (suc n) (statement_at r (Const n)) ≡ true = body_in_force (suc n) r (Const n) (new_in_force n) (more_in_force n (suc n) r (omega arith) in_both.1) in
    let from_gs : Each ax k gs = each_left ax k gs g (each_itself ax k) in
    let from_g : Each ax k g = each_right ax k gs g (each_itself ax k) in
    let each_fs : Each ax k fs = λ f is. cut_each ax k g f from_g (each f is) in
    let inner : Derives ax k (erase (statement_at r (Const n))) =
    opened ax cs (with_fresh ls ty) (statement_at r (Const n)) us v o k (gs ++ fs) (granted_with_fresh ax g cs ls ty grants) (subst (λ m. AreInForce m k) (sym up) in_k) (subst (λ m. statement_in_force m (statement_at r (Const n)) ≡ true) (sym up) in_r) (body_below 0 r (Const n) refl below_both.1) (each_append ax k gs fs from_gs each_fs)
    (further ls ty us v fs below_both.0 final) in
    generalized ax g n n ty r in_g (omega arith) in_both.0 in_both.1 inner
  where
    further : (ls : List (Option Constant)) (ty : SoftType) (us : List SoftType) (v : Statement) (fs : List Formula) → type_below 0 ty ≡ true → Final ax cs ls (ty ∷ us) fs v → Final ax cs (with_fresh ls ty) us (guard ty (Const (numbers ls)) ++ fs) v
    further ls ty us v fs closed_ty final h grants each guards closed_guards below =
        let n : ℕ = numbers ls in
        let gs : List Literal = guard_literals ty (Const n) in
        let up : numbers (with_fresh ls ty) ≡ suc n = next_number ls ty in
        let guards' : Each ax h (map literal_formula (guards_from (suc n) us)) = subst (λ m. Each ax h (map literal_formula (guards_from m us))) up guards in
        let closed' : AreClosedLiterals (guards_from (suc n) us) = subst (λ m. AreClosedLiterals (guards_from m us)) up closed_guards in
        final h grants (each_right ax h (guard ty (Const n)) fs each)
        (subst (Each ax h) (sym (map-append literal_formula gs (guards_from (suc n) us))) (each_append ax h (map literal_formula gs) (map literal_formula (guards_from (suc n) us)) (each_left ax h (guard ty (Const n)) fs each) guards'))
        (subst (λ xs. list_all (statement_below 0) xs ≡ true) (sym (map-append literal_statement gs (guards_from (suc n) us))) (all_both (statement_below 0) (map literal_statement gs) (map literal_statement (guards_from (suc n) us)) (type_closed n ty closed_ty) closed'))
        below

-- the problem, where the statement is open
asked_derives : (ax more : List Formula) (cs : List Clause) (ks : List (Option Constant)) (us : List Unfolding) → AreUnfoldings ax us → (given : List Statement) (known fresh : List Literal) (t : Statement) (p : Problem) → AskedAt cs ks us given known fresh t p → (h : List Formula) → AreGranted ax h cs ks → list_all (statement_below 0) given ≡ true → AreClosedLiterals known → AreClosedLiterals fresh → statement_below 0 t ≡ true → Along ax h (map erase given) → Along ax h (map literal_formula known) → Along ax h (map literal_formula fresh) → Along ax h more → Derives ax (p.premises ++ more) p.conclusion → Derives ax h (erase t)
asked_derives ax more cs ks us each given known fresh t p (with_added added a) h grants bg bk bf bt dg dk df dm d =
    let no : Formula = formula.Not (erase t) in
    let k : List Formula = no ∷ h in
    let up : (fs : List Formula) → Along ax h fs → Each ax k fs = λ fs x. each_under ax h fs no (each_along ax h fs x) in
    let grants' : AreGranted ax k cs ks = granted_more ax h k cs ks (each_under ax h h no (each_itself ax h)) grants in
    let ps : List Statement = ((flat_map parts given ++ map literal_statement known) ++ map literal_statement fresh) ++ parts (opposite t) in
    let closed_ps : list_all (statement_below 0) (((flat_map parts given ++ map literal_statement known) ++ map literal_statement fresh) ++ parts (opposite t)) ≡ true =
    all_both (statement_below 0) ((flat_map parts given ++ map literal_statement known) ++ map literal_statement fresh) (parts (opposite t))
    (all_both (statement_below 0) (flat_map parts given ++ map literal_statement known) (map literal_statement fresh) (all_both (statement_below 0) (flat_map parts given) (map literal_statement known) (parts_below given bg) bk) bf)
    (parts_all is_below 0 (opposite t) (opposite_all is_below 0 t ∙ bt)) in
    let given_k : Along ax k (map erase given) = along_each ax k (map erase given) (up (map erase given) dg) in
    let known_k : Along ax k (map erase (map literal_statement known)) = subst (Along ax k) (sym (erased_literals known)) (along_each ax k (map literal_formula known) (up (map literal_formula known) dk)) in
    let fresh_k : Along ax k (map erase (map literal_statement fresh)) = subst (Along ax k) (sym (erased_literals fresh)) (along_each ax k (map literal_formula fresh) (up (map literal_formula fresh) df)) in
    let all : Along ax k (map erase (((flat_map parts given ++ map literal_statement known) ++ map literal_statement fresh) ++ parts (opposite t))) =
    along_both ax k ((flat_map parts given ++ map literal_statement known) ++ map literal_statement fresh) (parts (opposite t))
    (along_both ax k (flat_map parts given ++ map literal_statement known) (map literal_statement fresh) (along_both ax k (flat_map parts given) (map literal_statement known) (parts_along ax k given given_k) known_k) fresh_k)
    (parts_out ax k (opposite t) (opposite_in ax k t (first ax h no))) in
    let joined : Along ax k (map erase added) = all_add_derive ax k cs ks us grants' each ps added a closed_ps all in
    let premises : Each ax k (((map erase given ++ map literal_formula known) ++ map erase added) ++ map literal_formula fresh) =
    each_append ax k ((map erase given ++ map literal_formula known) ++ map erase added) (map literal_formula fresh)
    (each_append ax k (map erase given ++ map literal_formula known) (map erase added) (each_append ax k (map erase given) (map literal_formula known) (up (map erase given) dg) (up (map literal_formula known) dk)) (each_along ax k (map erase added) joined))
    (up (map literal_formula fresh) df) in
    let all_premises : Each ax k ((((map erase given ++ map literal_formula known) ++ map erase added) ++ map literal_formula fresh) ++ more) =
    each_append ax k (((map erase given ++ map literal_formula known) ++ map erase added) ++ map literal_formula fresh) more premises (up more dm) in
    classical ax h (erase t) (not_out ax k (erase t) falsity (cut_each ax k ((((map erase given ++ map literal_formula known) ++ map erase added) ++ map literal_formula fresh) ++ more) (erase t) all_premises d) (first ax h no))

pub joined_problem_law : JoinedProblemLaw
joined_problem_law ax g cs ks us grants each in_g closed given bg dg s in_s free p (asks tys t o a) more dm d =
    let known_all : Along ax g (map literal_formula (known_in ks (formulas_of given s))) = known_derive ax g cs ks grants (reached ks (below (occurs_in_some (formulas_of given s)) (numbers ks))) in
    let known : List Formula = map literal_formula (known_in ks (formulas_of given s)) in
    let both : List Formula = map erase given ++ known in
    let fs : List Formula = both ++ more in
    let each_both : Each ax g both = each_append ax g (map erase given) known dg (each_along ax g known known_all) in
    let each_fs : Each ax g fs = each_append ax g both more each_both dm in
    opened ax cs ks s tys t o g fs grants in_g in_s free each_fs
    (λ h grants' each' guards closed_guards bt.
    asked_derives ax more cs (with_all_fresh ks tys) us each given (known_in ks (formulas_of given s)) (guards_from (numbers ks) tys) t p a h grants' bg (of_some ks (reached ks (below (occurs_in_some (formulas_of given s)) (numbers ks))) closed) closed_guards bt
    (along_each ax h (map erase given) (each_left ax h (map erase given) known (each_left ax h both more each')))
    (along_each ax h known (each_right ax h (map erase given) known (each_left ax h both more each')))
    (along_each ax h (map literal_formula (guards_from (numbers ks) tys)) guards)
    (along_each ax h more (each_right ax h both more each')) d)

pub problem_law : ProblemLaw
problem_law ax g cs ks us grants each in_g closed given bg dg s in_s free p asked d =
    joined_problem_law ax g cs ks us grants each in_g closed given bg dg s in_s free p asked [] (each_none ax g) (subst (λ fs. Derives ax fs p.conclusion) (sym (append-nil p.premises)) d)
