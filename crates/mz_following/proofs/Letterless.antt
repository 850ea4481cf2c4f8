-- The instance of a formula that has no predicate letter changes its terms alone; so it is with types.
use Rattle.std.proofs.Common.{◌≡◌, ℕ, ◌+◌, List, [], ◌∷◌, ◌++◌, map, refl, ap, Bool, true, false}
use Rattle.std.specs.Prelude.{Option, None, find, not, ◌&&◌, if◌then◌else◌}
use Rattle.std.specs.List.{list_all}
use Rattle.std.proofs.lemmas.Bool.{and_parts, and_from, false≢true}
use Rattle.mz_logic.specs.Term.{Term, Bound}
use Rattle.mz_logic.specs.Formula.{Formula, Truth, Eq, Atom, Not, And, All}
use Rattle.mz_logic.specs.Negation.{negated}
use Rattle.mz_logic.specs.Connectives.{joined_to}
use Rattle.mz_logic.specs.Literal.{literal_formula}
use Rattle.mz_logic.specs.declared.literal.Literal.{Literal}
use Rattle.mz_logic.specs.declared.literal.Literal.TheVariants as literal
use Rattle.mz_logic.specs.Letters.{is_predicate_letter, formula_at, is_of}
use Rattle.mz_logic.specs.Instance.{term_instance, instance, formula_or}
use Rattle.mz_logic.specs.declared.letters.Letter.{Letter}
use Rattle.mz_logic.specs.declared.sym.Sym.{Sym}
use Rattle.mz_core.specs.Hidden.{is_of_any_object}
use Rattle.mz_core.specs.Statement as statement
use Rattle.mz_core.specs.Statement.{Statement}
use Rattle.mz_core.specs.Guard.{radix_literals, adjective_literal, guard_literals}
use Rattle.mz_core.specs.Connectives.{where_guard, guard_inside}
use Rattle.mz_core.specs.Parts.{conjunction_to, conjunction}
use Rattle.mz_core.specs.TypeShift.{shift_adjective, shift_type}
use Rattle.mz_core.specs.TypeStatements.{literal_statement, is_of_type}
use Rattle.mz_core.specs.Erasure.{erase}
use Rattle.mz_core.specs.declared.adjective.Adjective.{Adjective}
use Rattle.mz_core.specs.declared.radix.Radix.{Radix}
use Rattle.mz_core.specs.declared.soft_type.SoftType.{SoftType}
use Rattle.mz_core.proofs.TermMaps.{formula_with}
use Rattle.mz_core.proofs.AllLemmas.{all-map, all-append}
use Rattle.mz_following.specs.TypeInstance.{is_letterless_adjective, is_letterless}
use Rattle.mz_following.proofs.InstanceMaps.{instances}

-- no symbol of an atom is a predicate letter
abbrev pub is_plain : Formula → Bool
is_plain Truth = true
is_plain (Eq t u) = true
is_plain (Atom s ts) = not (is_predicate_letter s)
is_plain (Not f) = is_plain f
is_plain (And f g) = is_plain f && is_plain g
is_plain (All f) = is_plain f

atom_unchanged : (b : Bool) (o : Option Formula) (s : Sym) (ts : List Term) → not b ≡ true → formula_or (if b then o else None) s ts ≡ Atom s ts
atom_unchanged true o s ts h = absurd (false≢true h)
atom_unchanged false o s ts h = refl

pub plain_instance : (ls : List Letter) (d : ℕ) (f : Formula) → is_plain f ≡ true → instance ls f ≡ formula_with (instances ls) d f
plain_instance ls d Truth h = refl
plain_instance ls d (Eq t u) h = refl
plain_instance ls d (Atom s ts) h = atom_unchanged (is_predicate_letter s) (formula_at (find (is_of s) ls)) s (map (term_instance ls) ts) h
plain_instance ls d (Not f) h = ap Not (plain_instance ls d f h)
plain_instance ls d (And f g) h =
    let both : (is_plain f ≡ true) × (is_plain g ≡ true) = and_parts (is_plain f) (is_plain g) h in
    λ i. And (plain_instance ls d f both.0 i) (plain_instance ls d g both.1 i)
plain_instance ls d (All f) h = ap All (plain_instance ls (d + 1) f h)

plain_negated : (f : Formula) → is_plain f ≡ true → is_plain (negated f) ≡ true
plain_negated Truth h = h
plain_negated (Eq t u) h = h
plain_negated (Atom s ts) h = h
plain_negated (Not f) h = h
plain_negated (And f g) h = h
plain_negated (All f) h = h

plain_joined : (f : Formula) (fs : List Formula) → is_plain f ≡ true → list_all is_plain fs ≡ true → is_plain (joined_to f fs) ≡ true
plain_joined f [] h k = h
plain_joined f (g ∷ gs) h k =
    let both : (is_plain g ≡ true) × (list_all is_plain gs ≡ true) = and_parts (is_plain g) (list_all is_plain gs) k in
    plain_joined (And f g) gs (and_from (is_plain f) (is_plain g) h both.0) both.1

plain_where : (gs : List Formula) (f : Formula) → list_all is_plain gs ≡ true → is_plain f ≡ true → is_plain (where_guard gs f) ≡ true
plain_where [] f hg h = h
plain_where (g ∷ gs) f hg h =
    let both : (is_plain g ≡ true) × (list_all is_plain gs ≡ true) = and_parts (is_plain g) (list_all is_plain gs) hg in
    and_from (is_plain (joined_to g gs)) (is_plain (negated f)) (plain_joined g gs both.0 both.1) (plain_negated f h)

-- the literals of a guard
abbrev pub is_plain_literal : Literal → Bool
is_plain_literal (literal.Atom positive s ts) = not (is_predicate_letter s)
is_plain_literal (literal.Eq positive t u) = true

plain_literal : (l : Literal) → is_plain_literal l ≡ true → is_plain (literal_formula l) ≡ true
plain_literal (literal.Atom true s ts) h = h
plain_literal (literal.Atom false s ts) h = h
plain_literal (literal.Eq true t u) h = h
plain_literal (literal.Eq false t u) h = h

plain_radix : (b : Bool) (r : Radix) (t : Term) → not (is_predicate_letter r.sym) ≡ true → list_all is_plain_literal (if b then [] else literal.Atom true r.sym (r.args ++ t ∷ []) ∷ []) ≡ true
plain_radix true r t h = refl
plain_radix false r t h = and_from (not (is_predicate_letter r.sym)) true h refl

plain_adjectives : (t : Term) (xs : List Adjective) → list_all is_letterless_adjective xs ≡ true → list_all is_plain_literal (map (adjective_literal t) xs) ≡ true
plain_adjectives t [] h = refl
plain_adjectives t (a ∷ xs) h =
    let both : (is_letterless_adjective a ≡ true) × (list_all is_letterless_adjective xs ≡ true) = and_parts (is_letterless_adjective a) (list_all is_letterless_adjective xs) h in
    and_from (is_letterless_adjective a) (list_all is_plain_literal (map (adjective_literal t) xs)) both.0 (plain_adjectives t xs both.1)

plain_guard_literals : (ty : SoftType) (t : Term) → is_letterless ty ≡ true → list_all is_plain_literal (guard_literals ty t) ≡ true
plain_guard_literals ty t h =
    let both : (not (is_predicate_letter ty.radix.sym) ≡ true) × (list_all is_letterless_adjective ty.adjectives ≡ true) = and_parts (not (is_predicate_letter ty.radix.sym)) (list_all is_letterless_adjective ty.adjectives) h in
    all-append is_plain_literal (radix_literals ty.radix t) (map (adjective_literal t) ty.adjectives) (plain_radix (is_of_any_object ty.radix.sym) ty.radix t both.0) (plain_adjectives t ty.adjectives both.1)

plain_formulas : (ls : List Literal) → list_all is_plain_literal ls ≡ true → list_all is_plain (map literal_formula ls) ≡ true
plain_formulas ls h = all-map is_plain_literal is_plain literal_formula ls plain_literal h

-- erasures
pub letterless_shifted : (ty : SoftType) → is_letterless ty ≡ true → is_letterless (shift_type 0 1 ty) ≡ true
letterless_shifted ty h =
    let both : (not (is_predicate_letter ty.radix.sym) ≡ true) × (list_all is_letterless_adjective ty.adjectives ≡ true) = and_parts (not (is_predicate_letter ty.radix.sym)) (list_all is_letterless_adjective ty.adjectives) h in
    and_from (not (is_predicate_letter ty.radix.sym)) (list_all is_letterless_adjective (map (shift_adjective 0 1) ty.adjectives)) both.0 (all-map is_letterless_adjective is_letterless_adjective (shift_adjective 0 1) ty.adjectives (λ a k. k) both.1)

plain_literal_statement : (l : Literal) → is_plain_literal l ≡ true → is_plain (erase (literal_statement l)) ≡ true
plain_literal_statement (literal.Atom true s ts) h = h
plain_literal_statement (literal.Atom false s ts) h = h
plain_literal_statement (literal.Eq true t u) h = h
plain_literal_statement (literal.Eq false t u) h = h

plain_statements : (s : Statement) (ls : List Literal) → is_plain (erase s) ≡ true → list_all is_plain_literal ls ≡ true → is_plain (erase (conjunction_to s (map literal_statement ls))) ≡ true
plain_statements s [] h k = h
plain_statements s (l ∷ ls) h k =
    let both : (is_plain_literal l ≡ true) × (list_all is_plain_literal ls ≡ true) = and_parts (is_plain_literal l) (list_all is_plain_literal ls) k in
    plain_statements (statement.And s (literal_statement l)) ls (and_from (is_plain (erase s)) (is_plain (erase (literal_statement l))) h (plain_literal_statement l both.0)) both.1

plain_conjunction : (ls : List Literal) → list_all is_plain_literal ls ≡ true → is_plain (erase (conjunction (map literal_statement ls))) ≡ true
plain_conjunction [] h = refl
plain_conjunction (l ∷ ls) h =
    let both : (is_plain_literal l ≡ true) × (list_all is_plain_literal ls ≡ true) = and_parts (is_plain_literal l) (list_all is_plain_literal ls) h in
    plain_statements (literal_statement l) ls (plain_literal_statement l both.0) both.1

pub plain_of_type : (ty : SoftType) (t : Term) → is_letterless ty ≡ true → is_plain (erase (is_of_type ty t)) ≡ true
plain_of_type ty t h = plain_conjunction (guard_literals ty t) (plain_guard_literals ty t h)

pub plain_for : (ty : SoftType) (s : Statement) → is_letterless ty ≡ true → is_plain (erase s) ≡ true → is_plain (erase (statement.For ty s)) ≡ true
plain_for ty s h k =
    plain_where (guard_inside ty) (erase s) (plain_formulas (guard_literals (shift_type 0 1 ty) (Bound 0)) (plain_guard_literals (shift_type 0 1 ty) (Bound 0) (letterless_shifted ty h))) k
