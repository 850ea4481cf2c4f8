-- What an atom or an equation unfolds to is as much as it.
use Rattle.std.proofs.Common.{◌≡◌, ◌≤◌, ◌<◌, ◌-◌, ◌+◌, ℕ, zero, suc, true, false, Bool, List, [], ◌∷◌, ◌++◌, refl, sym, ap, ◌∙◌, subst, arith, length, length-append, append_assoc, Option, Some, map, drop, get_or}
use Rattle.std.specs.Prelude.{◌&&◌, reverse, Contains, nat_eq}
use Rattle.std.specs.List.{list_all}
use Rattle.std.proofs.lemmas.List.{get_or-reverse, length-reverse, reverse-append, append-nil}
use Rattle.std.proofs.lemmas.Bool.{and_parts, and_from, eqb-true, lt-ltb}
use Rattle.std.proofs.lemmas.Bool.{false≢true}
pub use Rattle.mz_std_laws.proofs.Options.{some-inj, none_some}
use Rattle.mz_logic.specs.declared.sym.Sym.{Sym}
use Rattle.mz_logic.specs.Sym.{same_sym, kind_number}
use Rattle.mz_logic.specs.Term as term
use Rattle.mz_logic.specs.Term.{Terms, Bound, Const, App, none, more, terms_of}
use Rattle.mz_logic.specs.Formula as formula
use Rattle.mz_logic.specs.Formula.{Formula}
use Rattle.mz_logic.specs.Literal.{literal_formula}
use Rattle.mz_logic.specs.Indices.{is_below, args_below, closed}
use Rattle.mz_logic.specs.Connectives.{implies}
use Rattle.mz_logic.specs.Substitution.{shift, substitute, substitute_formula, value_at, body_at}
use Rattle.mz_logic.specs.Equality.{AreEqual}
use Rattle.mz_logic.specs.Derives.{Derives}
use Rattle.mz_logic.proofs.SymLemmas.{kind_number-inj}
use Rattle.mz_logic.proofs.Connectives.{swapped}
use Rattle.mz_logic.proofs.Each.{Each, Along, along_each, along_append, implies_out}
use Rattle.mz_logic.proofs.IndexLemmas.{args_below-terms_of}
use Rattle.mz_logic.proofs.Congruence.{atom_congruence, equation_congruence}
use Rattle.mz_logic.proofs.ValueLaws.{substitute-value_at, substitute_formula-one_others, is_below-values}
use Rattle.mz_core.specs.Statement as statement
use Rattle.mz_core.specs.Statement.{Statement, Eq}
use Rattle.mz_core.specs.StatementForms.{implication}
use Rattle.mz_core.specs.TypeShift.{shift_type}
use Rattle.mz_core.specs.TypeSubstitution.{substitute_type, substitute_statement}
use Rattle.mz_core.specs.Guard.{guard, guard_literals}
use Rattle.mz_core.specs.Connectives.{guard_inside}
use Rattle.mz_core.specs.Erasure.{erase}
use Rattle.mz_core.specs.Below.{statement_below}
use Rattle.mz_core.specs.Closed.{term_under, args_under, statement_under, loci_closed}
use Rattle.mz_core.specs.declared.soft_type.SoftType.{SoftType}
use Rattle.mz_core.proofs.TermMaps.{formula_with, guard_inside-with}
use Rattle.mz_core.proofs.MapInstances.{substitutes, substitutes_go_under, substitute_formula-with}
use Rattle.mz_core.proofs.LawProofs.{map_is, erasure_of_substitution}
use Rattle.mz_laws.proofs.StatementProofs.{guard_at_term}
use Rattle.mz_context.specs.declared.constants.Constant.{Constant}
use Rattle.mz_ground.specs.declared.clause.Clause.{Clause}
use Rattle.mz_ground.specs.declared.trigger.Trigger.{Trigger}
use Rattle.mz_ground.specs.declared.trigger.Trigger.TheVariants.{Term, Atom}
use Rattle.mz_clauses.specs.Guards.{loci_guards}
use Rattle.mz_clause_laws.specs.RowLaws.{AllFollow}
use Rattle.mz_clause_laws.proofs.Instances.{formulas_at, formulas_at-append, guard_at_values}
use Rattle.mz_clause_laws.proofs.Literals.{implication_at}
use Rattle.mz_environment.specs.declared.unfoldings.Unfolding.{Unfolding}
use Rattle.mz_closed_laws.specs.ClosedClauses.{trigger_under, unfolding_closed}
use Rattle.mz_unfolding_laws.specs.UnfoldingLaw.{head_statement, Unfolds}
use Rattle.mz_fits.specs.Fits.{TypeFits, type_at, LociFit, no_loci, and_locus}
use Rattle.mz_fits.specs.Matching.{Fixed, unfixed, Matched, locus, no_locus, constant, other_constant, symbol, other_symbol, AllMatched, all_matched, one_more, one_fails, too_few, too_many, values_of, Accepted, not_fixed, fitting, unfit as not_fitting}
use Rattle.mz_fits.specs.Laws.{AreGranted}
use Rattle.mz_fits.proofs.SoundLemmas.{fits_derives}
use Rattle.mz_fits.proofs.MatchSound.{match_law}
use Rattle.mz_thesis.specs.declared.sought.Sought.{Sought}
use Rattle.mz_thesis.specs.declared.sought.Sought.TheVariants.{AtomOf, Equation}
use Rattle.mz_thesis.specs.Unfolding.{formals, is_sought, definiens_at, Gives, unmatched, unfit, fit, FirstGives, none_left, of_other, not_this, this_one, is_compound, UnfoldsTo, atom, right, left, compound}
use Rattle.mz_thesis_laws.specs.StepLaws.{AreUnfoldings, UnfoldsLaw}
use Rattle.mz_thesis_laws.proofs.MatchKeeps.{GoesInside, matched_values}

-- the guards of loci
map_two : {X Y Z : Type 0} (f : Y → Z) (g : X → Y) (xs : List X) → map f (map g xs) ≡ map (λ x. f (g x)) xs
map_two f g [] = refl
map_two f g (x ∷ xs) = ap (λ ys. f (g x) ∷ ys) (map_two f g xs)

pub guard_at : (before : List term.Term) (ty : SoftType) (t : term.Term) → map (substitute_formula 0 (value_at (t ∷ before))) (guard_inside ty) ≡ guard (type_at before ty) t
guard_at before ty t =
    let v : ℕ → term.Term = value_at before in
    let one : map (substitute_formula 0 (value_at (t ∷ before))) (guard_inside ty) ≡ map (λ f. body_at (substitute_formula 1 v f) t) (guard_inside ty) =
    map_is (substitute_formula 0 (value_at (t ∷ before))) (λ f. body_at (substitute_formula 1 v f) t) (guard_inside ty) (λ f. sym (substitute_formula-one_others 0 t before f)) in
    let two : map (substitute_formula 1 v) (guard_inside ty) ≡ guard_inside (substitute_type 0 v ty) =
    map_is (substitute_formula 1 v) (formula_with (substitutes v) 1) (guard_inside ty) (λ f. substitute_formula-with v 1 f) ∙ guard_inside-with (substitutes v) 0 ty (substitutes_go_under v) in
    one ∙ (sym (map_two (λ f. body_at f t) (substitute_formula 1 v) (guard_inside ty)) ∙ (ap (map (λ f. body_at f t)) two ∙ guard_at_term (substitute_type 0 v ty) t))

abbrev whole : List term.Term → List term.Term → List term.Term
whole before ts = reverse ts ++ before

whole_next : (before : List term.Term) (t : term.Term) (ts : List term.Term) → whole before (t ∷ ts) ≡ whole (t ∷ before) ts
whole_next before t ts = ap (λ xs. xs ++ before) (reverse-append (t ∷ []) ts) ∙ append_assoc (reverse ts) (t ∷ []) before

pub length-count : (cs : List Clause) (ks : List (Option Constant)) (before : List term.Term) (loci : List SoftType) (ts : List term.Term) → LociFit cs ks before loci ts → length ts ≡ length loci
length-count cs ks before loci ts (no_loci b) = refl
length-count cs ks before loci ts (and_locus b ty tys u us f h) = ap suc (length-count cs ks (u ∷ b) tys us h)

drop_front : (xs ys : List term.Term) (n : ℕ) → n ≡ length xs → drop n (xs ++ ys) ≡ ys
drop_front [] ys zero e = refl
drop_front [] ys (suc n) e = absurd (omega (arith, e))
drop_front (x ∷ xs) ys zero e = absurd (omega (arith, e))
drop_front (x ∷ xs) ys (suc n) e = drop_front xs ys n (omega (arith, e))

pub guards_follow : (ax g : List Formula) (cs : List Clause) (ks : List (Option Constant)) → AreGranted ax g cs ks → (before : List term.Term) (loci : List SoftType) (ts : List term.Term) → LociFit cs ks before loci ts → Along ax g (formulas_at (whole before ts) (loci_guards 0 loci))
guards_follow ax g cs ks grants before loci ts (no_loci b) = tt
guards_follow ax g cs ks grants before loci ts (and_locus b ty tys t us f h) =
    let n : ℕ = length tys in
    let all : List term.Term = whole (t ∷ b) us in
    let same : length us ≡ length tys = length-count cs ks (t ∷ b) tys us h in
    let back : length (reverse us) ≡ length us = length-reverse us in
    let fits : Along ax g (guard (type_at b ty) t) = along_each ax g (guard (type_at b ty) t) (fits_derives ax g cs ks grants t (type_at b ty) f) in
    let behind : drop n all ≡ t ∷ b = drop_front (reverse us) (t ∷ b) n (omega (arith, same, back)) in
    let long : length all ≡ length (reverse us) + length (t ∷ b) = length-append (reverse us) (t ∷ b) in
    let here : map (substitute_formula 0 (value_at all)) (guard (shift_type 0 (n + 1) ty) (Bound n)) ≡ guard (type_at b ty) t =
    guard_at_values n all ty (omega (arith, same, back, long)) ∙ (ap (λ xs. map (substitute_formula 0 (value_at xs)) (guard_inside ty)) behind ∙ guard_at b ty t) in
    let sums : (n + 1 + 0 ≡ n + 1) × (n + 0 ≡ n) = (omega arith, omega arith) in
    let first : Along ax g (formulas_at all (guard_literals (shift_type 0 (n + 1 + 0) ty) (Bound (n + 0)))) =
    subst (λ m. Along ax g (formulas_at all (guard_literals (shift_type 0 m ty) (Bound (n + 0))))) (sym sums.0) (subst (λ m. Along ax g (formulas_at all (guard_literals (shift_type 0 (n + 1) ty) (Bound m)))) (sym sums.1) (subst (Along ax g) (sym here) fits)) in
    let rest : Along ax g (formulas_at all (loci_guards 0 tys)) = guards_follow ax g cs ks grants (t ∷ b) tys us h in
    let both : Along ax g (formulas_at all (guard_literals (shift_type 0 (n + 1 + 0) ty) (Bound (n + 0)) ++ loci_guards 0 tys)) =
    subst (Along ax g) (sym (formulas_at-append all (guard_literals (shift_type 0 (n + 1 + 0) ty) (Bound (n + 0))) (loci_guards 0 tys)))
    (along_append ax g (formulas_at all (guard_literals (shift_type 0 (n + 1 + 0) ty) (Bound (n + 0)))) (formulas_at all (loci_guards 0 tys)) first rest) in
    subst (λ xs. Along ax g (formulas_at xs (loci_guards 0 (ty ∷ tys)))) (sym (whole_next b t us)) both

follow_of : (ax g fs : List Formula) → Along ax g fs → AllFollow ax g fs
follow_of ax g [] p = tt
follow_of ax g (f ∷ fs) p = (p.0, follow_of ax g fs p.1)

-- what has no constant under some loci has indices below their number
mutual
  term_is_below : (n : ℕ) (t : term.Term) → term_under n t ≡ true → is_below n t ≡ true
  term_is_below n (Bound index) h = h
  term_is_below n (Const number) h = cc
  term_is_below n (App s ts) h = args_are_below n ts h

  args_are_below : (n : ℕ) (ts : Terms) → args_under n ts ≡ true → args_below n ts ≡ true
  args_are_below n none h = refl
  args_are_below n (more t ts) h =
      let both : (term_under n t ≡ true) × (args_under n ts ≡ true) = and_parts (term_under n t) (args_under n ts) h in
      and_from (is_below n t) (args_below n ts) (term_is_below n t both.0) (args_are_below n ts both.1)

closed_below : (n : ℕ) (vs : List term.Term) (t : term.Term) → n ≡ length vs → list_all closed vs ≡ true → is_below n t ≡ true → closed (substitute 0 (value_at vs) t) ≡ true
closed_below n vs t e cv h =
    let same : n ≡ 0 + length vs = omega (arith, e) in
    is_below-values 0 vs t cv (subst (λ m. is_below m t ≡ true) same h)

all_closed : (n : ℕ) (vs ts : List term.Term) → n ≡ length vs → list_all closed vs ≡ true → list_all (term_under n) ts ≡ true → list_all closed (map (substitute 0 (value_at vs)) ts) ≡ true
all_closed n vs [] e cv h = refl
all_closed n vs (t ∷ ts) e cv h =
    let both : (term_under n t ≡ true) × (list_all (term_under n) ts ≡ true) = and_parts (term_under n t) (list_all (term_under n) ts) h in
    and_from (closed (substitute 0 (value_at vs) t)) (list_all closed (map (substitute 0 (value_at vs)) ts)) (closed_below n vs t e cv (term_is_below n t both.0)) (all_closed n vs ts e cv both.1)

-- equal terms, the other way round
turned : (ax g : List Formula) (ts us : List term.Term) → list_all closed ts ≡ true → list_all closed us ≡ true → AreEqual ax g ts us → AreEqual ax g us ts
turned ax g [] [] ct cu e = tt
turned ax g [] (u ∷ us) ct cu e = absurd e
turned ax g (t ∷ ts) [] ct cu e = absurd e
turned ax g (t ∷ ts) (u ∷ us) ct cu e =
    let a : (closed t ≡ true) × (list_all closed ts ≡ true) = and_parts (closed t) (list_all closed ts) ct in
    let b : (closed u ≡ true) × (list_all closed us ≡ true) = and_parts (closed u) (list_all closed us) cu in
    (swapped ax g t u a.0 b.0 e.0, turned ax g ts us a.1 b.1 e.1)

reverse_closed : (ts : List term.Term) → list_all closed ts ≡ true → list_all closed (reverse ts) ≡ true
reverse_closed [] h = refl
reverse_closed (t ∷ ts) h =
    let both : (closed t ≡ true) × (list_all closed ts ≡ true) = and_parts (closed t) (list_all closed ts) h in
    subst (λ xs. list_all closed xs ≡ true) (sym (reverse-append (t ∷ []) ts)) (appended (reverse ts) (reverse_closed ts both.1) both.0)
  where
    appended : (xs : List term.Term) → list_all closed xs ≡ true → closed t ≡ true → list_all closed (xs ++ t ∷ []) ≡ true
    appended [] a b = and_from (closed t) true b refl
    appended (x ∷ xs) a b =
        let c : (closed x ≡ true) × (list_all closed xs ≡ true) = and_parts (closed x) (list_all closed xs) a in
        and_from (closed x) (list_all closed (xs ++ t ∷ [])) c.0 (appended xs c.1 b)

closed_inside : GoesInside closed
closed_inside s ts h = sym (args_below-terms_of 0 ts) ∙ h

-- each derives from the other
abbrev Both : List Formula → List Formula → Formula → Formula → Type 0
Both ax g f k = (Derives ax g f → Derives ax g k) × (Derives ax g k → Derives ax g f)

-- the head at values beside what it matches
atom_head : (ax g : List Formula) (vs : List term.Term) (s : Sym) (us ts : List term.Term) → list_all closed (map (substitute 0 (value_at vs)) us) ≡ true → list_all closed ts ≡ true → AreEqual ax g (map (substitute 0 (value_at vs)) us) ts → Both ax g (substitute_formula 0 (value_at vs) (erase (head_statement (Atom s us)))) (formula.Atom s ts)
atom_head ax g vs s us ts cu ct e =
    (atom_congruence ax g s (map (substitute 0 (value_at vs)) us) ts cu ct e, atom_congruence ax g s ts (map (substitute 0 (value_at vs)) us) ct cu (turned ax g (map (substitute 0 (value_at vs)) us) ts cu ct e))

equation_head : (ax g : List Formula) (vs : List term.Term) (t f y : term.Term) → list_all closed (map (substitute 0 (value_at vs)) (t ∷ Bound 0 ∷ [])) ≡ true → list_all closed (f ∷ y ∷ []) ≡ true → AreEqual ax g (map (substitute 0 (value_at vs)) (t ∷ Bound 0 ∷ [])) (f ∷ y ∷ []) → Both ax g (substitute_formula 0 (value_at vs) (erase (head_statement (Term t)))) (formula.Eq y f)
equation_head ax g vs t f y cu ct e =
    let a : term.Term = substitute 0 (value_at vs) t in
    let b : term.Term = substitute 0 (value_at vs) (Bound 0) in
    let u : (closed a ≡ true) × (list_all closed (b ∷ []) ≡ true) = and_parts (closed a) (list_all closed (b ∷ [])) cu in
    let cb : closed b ≡ true = (and_parts (closed b) true u.1).0 in
    let w : (closed f ≡ true) × (list_all closed (y ∷ []) ≡ true) = and_parts (closed f) (list_all closed (y ∷ [])) ct in
    let cy : closed y ≡ true = (and_parts (closed y) true w.1).0 in
    (equation_congruence ax g b y a f cb cy u.0 w.0 e.1.0 e.0, equation_congruence ax g y b f a cy cb w.0 u.0 (swapped ax g b y cb cy e.1.0) (swapped ax g a f u.0 w.0 e.0))

-- what an unfolding gives
accepted_values : (cs : List Clause) (ks : List (Option Constant)) (loci : List SoftType) (fs : Fixed) (o : Option (List term.Term)) → Accepted cs ks loci fs o → (vs : List term.Term) → o ≡ Some vs → (values_of fs ≡ Some vs) × LociFit cs ks [] loci vs
accepted_values cs ks loci fs o (not_fixed h) vs e = absurd (none_some vs e)
accepted_values cs ks loci fs o (fitting ts h f) vs e = (h ∙ e, subst (LociFit cs ks [] loci) (some-inj ts vs e) f)
accepted_values cs ks loci fs o (not_fitting ts h f) vs e = absurd (none_some vs e)

-- values at which an unfolding's head is beside the terms, and its definiens what is given
pub record GivenAt (ax g : List Formula) (cs : List Clause) (ks : List (Option Constant)) (u : Unfolding) (ts : List term.Term) (d : Statement) : Type 0 where
  pub values : List term.Term
  pub fixed : Fixed
  pub matched : AllMatched cs ks (length u.loci) (unfixed (length u.loci)) (formals u.head) ts (Some fixed)
  pub are_values : values_of fixed ≡ Some values
  pub loci_fit : LociFit cs ks [] u.loci values
  pub is : definiens_at values u.definiens ≡ d

pub given_at : (ax g : List Formula) (cs : List Clause) (ks : List (Option Constant)) (u : Unfolding) (ts : List term.Term) (o : Option Statement) → Gives cs ks u ts o → (d : Statement) → o ≡ Some d → GivenAt ax g cs ks u ts d
given_at ax g cs ks u ts o (unmatched h) d e = absurd (none_some d e)
given_at ax g cs ks u ts o (unfit fs h a) d e = absurd (none_some d e)
given_at ax g cs ks u ts o (fit fs vs h a) d e =
    let v : (values_of fs ≡ Some vs) × LociFit cs ks [] u.loci vs = accepted_values cs ks u.loci fs (Some vs) a vs refl in
    record { values = vs; fixed = fs; matched = h; are_values = v.0; loci_fit = v.1; is = some-inj (definiens_at vs u.definiens) d e }

head_closed : (n : ℕ) (vs : List term.Term) (r : Trigger) → n ≡ length vs → 0 < n → list_all closed vs ≡ true → trigger_under n r ≡ true → list_all closed (map (substitute 0 (value_at vs)) (formals r)) ≡ true
head_closed n vs (Atom s ts) e lt cv h = all_closed n vs ts e cv h
head_closed n vs (Term t) e lt cv h =
    let zero_below : is_below n (Bound 0) ≡ true = lt-ltb 0 n lt in
    and_from (closed (substitute 0 (value_at vs) t)) (list_all closed (substitute 0 (value_at vs) (Bound 0) ∷ [])) (closed_below n vs t e cv (term_is_below n t h))
    (and_from (closed (substitute 0 (value_at vs) (Bound 0))) true (closed_below n vs (Bound 0) e cv zero_below) refl)

-- an index that matched is a locus
index_of : term.Term → ℕ
index_of (Bound i) = i
index_of (Const n) = 0
index_of (App s ts) = 0

is_index : term.Term → Bool
is_index (Bound i) = true
is_index (Const n) = false
is_index (App s ts) = false

not_index : (t : term.Term) (i : ℕ) → is_index t ≡ false → t ≡ Bound i → ⊥
unfolding is_index
not_index t i h e = cc_of (is_index t) h (ap is_index e)
  where
    cc_of : (b : Bool) → b ≡ false → b ≡ true → ⊥
    cc_of true p q = cc
    cc_of false p q = cc

matched_index : (cs : List Clause) (ks : List (Option Constant)) (scope : ℕ) (fs : Fixed) (f t : term.Term) (o : Option Fixed) → Matched cs ks scope fs f t o → (gs : Fixed) → o ≡ Some gs → (i : ℕ) → f ≡ Bound i → i < scope
unfolding index_of is_index
matched_index cs ks scope fs f t o (locus hs j u r lt h) gs e i same = let p : j ≡ i = ap index_of same in omega (arith, lt, p)
matched_index cs ks scope fs f t o (no_locus hs j u le) gs e i same = absurd (none_some gs e)
matched_index cs ks scope fs f t o (constant hs n) gs e i same = absurd (not_index (Const n) i refl same)
matched_index cs ks scope fs f t o (other_constant hs n u h) gs e i same = absurd (none_some gs e)
matched_index cs ks scope fs f t o (symbol hs s us ts r h) gs e i same = absurd (not_index (App s (terms_of us)) i refl same)
matched_index cs ks scope fs f t o (other_symbol hs s us u h) gs e i same = absurd (none_some gs e)

all_indices : (cs : List Clause) (ks : List (Option Constant)) (scope : ℕ) (fs : Fixed) (us ts : List term.Term) (o : Option Fixed) → AllMatched cs ks scope fs us ts o → (gs : Fixed) → o ≡ Some gs → (i : ℕ) → Contains us (Bound i) → i < scope
all_indices cs ks scope fs us ts o (all_matched hs) gs e i is = absurd (omega (arith, is.1))
all_indices cs ks scope fs us ts o (one_more hs between f x fs' xs r h rest) gs e i (zero, lt, same) = matched_index cs ks scope hs f x (Some between) h between refl i same
all_indices cs ks scope fs us ts o (one_more hs between f x fs' xs r h rest) gs e i (suc k, lt, same) = all_indices cs ks scope between fs' xs r rest gs e i (k, omega (arith, lt), same)
all_indices cs ks scope fs us ts o (one_fails hs f x fs' xs h) gs e i is = absurd (none_some gs e)
all_indices cs ks scope fs us ts o (too_few hs x xs) gs e i is = absurd (none_some gs e)
all_indices cs ks scope fs us ts o (too_many hs f fs') gs e i is = absurd (none_some gs e)

-- the head's formals at the values are closed
formals_closed : (cs : List Clause) (ks : List (Option Constant)) (n : ℕ) (vs ts : List term.Term) (r : Trigger) (fs : Fixed) → AllMatched cs ks n (unfixed n) (formals r) ts (Some fs) → n ≡ length vs → list_all closed vs ≡ true → trigger_under n r ≡ true → list_all closed (map (substitute 0 (value_at vs)) (formals r)) ≡ true
formals_closed cs ks n vs ts (Atom s us) fs h e cv under = all_closed n vs us e cv under
formals_closed cs ks n vs ts (Term t) fs h e cv under = head_closed n vs (Term t) e (all_indices cs ks n (unfixed n) (t ∷ Bound 0 ∷ []) ts (Some fs) h fs refl 0 (1, omega arith, refl)) cv under

same_sym-true : (r s : Sym) → same_sym r s ≡ true → r ≡ s
same_sym-true r s h =
    let outer : ((nat_eq r.article s.article && nat_eq (kind_number r.kind) (kind_number s.kind)) ≡ true) × (nat_eq r.number s.number ≡ true) = and_parts (nat_eq r.article s.article && nat_eq (kind_number r.kind) (kind_number s.kind)) (nat_eq r.number s.number) h in
    let inner : (nat_eq r.article s.article ≡ true) × (nat_eq (kind_number r.kind) (kind_number s.kind) ≡ true) = and_parts (nat_eq r.article s.article) (nat_eq (kind_number r.kind) (kind_number s.kind)) outer.0 in
    let article : r.article ≡ s.article = eqb-true r.article s.article inner.0 in
    let kind : r.kind ≡ s.kind = kind_number-inj r.kind s.kind (eqb-true (kind_number r.kind) (kind_number s.kind) inner.1) in
    let number : r.number ≡ s.number = eqb-true r.number s.number outer.1 in
    λ i. record { article = article i; kind = kind i; number = number i }

-- the head at the values, and the definiens
definiens_both : (ax g : List Formula) (cs : List Clause) (ks : List (Option Constant)) → AreGranted ax g cs ks → (u : Unfolding) → Unfolds ax u → (ts : List term.Term) (d : Statement) → list_all closed ts ≡ true → (a : GivenAt ax g cs ks u ts d) → Both ax g (substitute_formula 0 (value_at (reverse a.values)) (erase (head_statement u.head))) (erase d)
definiens_both ax g cs ks grants u unfolds ts d ct a =
    let vs : List term.Term = reverse a.values in
    let v : ℕ → term.Term = value_at (reverse a.values) in
    let cv : list_all closed (reverse a.values) ≡ true = reverse_closed a.values (matched_values closed closed_inside cs ks (length u.loci) (formals u.head) ts a.values a.fixed a.matched a.are_values ct) in
    let long : length (reverse a.values) ≡ length u.loci = length-reverse a.values ∙ length-count cs ks [] u.loci a.values a.loci_fit in
    let guards : Along ax g (formulas_at (reverse a.values) (loci_guards 0 u.loci)) = subst (λ xs. Along ax g (formulas_at xs (loci_guards 0 u.loci))) (append-nil (reverse a.values)) (guards_follow ax g cs ks grants [] u.loci a.values a.loci_fit) in
    let both = unfolds g (reverse a.values) cv long (follow_of ax g (formulas_at (reverse a.values) (loci_guards 0 u.loci)) guards) in
    let forth : Derives ax g (implies (substitute_formula 0 v (erase (head_statement u.head))) (substitute_formula 0 v (erase u.definiens))) = subst (Derives ax g) (implication_at v (head_statement u.head) u.definiens) both.0 in
    let back : Derives ax g (implies (substitute_formula 0 v (erase u.definiens)) (substitute_formula 0 v (erase (head_statement u.head)))) = subst (Derives ax g) (implication_at v u.definiens (head_statement u.head)) both.1 in
    let same : substitute_formula 0 v (erase u.definiens) ≡ erase d = sym (erasure_of_substitution 0 v u.definiens) ∙ ap erase a.is in (
      λ x. subst (Derives ax g) same (implies_out ax g (substitute_formula 0 v (erase (head_statement u.head))) (substitute_formula 0 v (erase u.definiens)) forth x),
      λ x. implies_out ax g (substitute_formula 0 v (erase u.definiens)) (substitute_formula 0 v (erase (head_statement u.head))) back (subst (Derives ax g) (sym same) x),
    )

chain_both : (ax g : List Formula) (e f k : Formula) → Both ax g e f → Both ax g e k → Both ax g k f
chain_both ax g e f k p q = (λ x. p.0 (q.1 x), λ x. q.0 (p.1 x))

-- what was matched, beside the definiens
matched_both : (ax g : List Formula) (cs : List Clause) (ks : List (Option Constant)) → AreGranted ax g cs ks → (u : Unfolding) → unfolding_closed u ≡ true → (ts : List term.Term) (d : Statement) → list_all closed ts ≡ true → (a : GivenAt ax g cs ks u ts d) → AreEqual ax g (map (substitute 0 (value_at (reverse a.values))) (formals u.head)) ts × (list_all closed (map (substitute 0 (value_at (reverse a.values))) (formals u.head)) ≡ true)
matched_both ax g cs ks grants u under ts d ct a =
    let cv : list_all closed (reverse a.values) ≡ true = reverse_closed a.values (matched_values closed closed_inside cs ks (length u.loci) (formals u.head) ts a.values a.fixed a.matched a.are_values ct) in
    let long : length u.loci ≡ length (reverse a.values) = sym (length-reverse a.values ∙ length-count cs ks [] u.loci a.values a.loci_fit) in
    let parts : ((loci_closed u.loci && trigger_under (length u.loci) u.head) ≡ true) × (statement_under (length u.loci) u.definiens ≡ true) = and_parts (loci_closed u.loci && trigger_under (length u.loci) u.head) (statement_under (length u.loci) u.definiens) under in
    let head : trigger_under (length u.loci) u.head ≡ true = (and_parts (loci_closed u.loci) (trigger_under (length u.loci) u.head) parts.0).1 in (
      (match_law ax g cs ks grants (length u.loci) a.fixed (formals u.head) ts a.values ct a.matched a.are_values).0,
      formals_closed cs ks (length u.loci) (reverse a.values) ts u.head a.fixed a.matched long cv head,
    )

-- by the form of the head
abbrev Is : Sought → List term.Term → Formula → Type 0
Is (AtomOf s) ts f = formula.Atom s ts ≡ f
Is Equation ts f = (t : term.Term) × (u : term.Term) × (ts ≡ u ∷ t ∷ []) × (formula.Eq t u ≡ f)

by_head : (ax g : List Formula) (q : Sought) (r : Trigger) (vs ts : List term.Term) (f : Formula) → is_sought q r ≡ true → Is q ts f → list_all closed ts ≡ true → AreEqual ax g (map (substitute 0 (value_at vs)) (formals r)) ts → list_all closed (map (substitute 0 (value_at vs)) (formals r)) ≡ true → Both ax g (substitute_formula 0 (value_at vs) (erase (head_statement r))) f
by_head ax g (AtomOf s) (Term t) vs ts f h is ct e cu = absurd (false≢true h)
by_head ax g (AtomOf s) (Atom r us) vs ts f h is ct e cu =
    subst (Both ax g (substitute_formula 0 (value_at vs) (erase (head_statement (Atom r us))))) (ap (λ z. formula.Atom z ts) (same_sym-true r s h) ∙ is) (atom_head ax g vs r us ts cu ct e)
by_head ax g Equation (Term t) vs ts f h is ct e cu =
    let ct' : list_all closed (is.1 ∷ is.0 ∷ []) ≡ true = subst (λ xs. list_all closed xs ≡ true) is.2 ct in
    let e' : AreEqual ax g (map (substitute 0 (value_at vs)) (t ∷ Bound 0 ∷ [])) (is.1 ∷ is.0 ∷ []) = subst (AreEqual ax g (map (substitute 0 (value_at vs)) (t ∷ Bound 0 ∷ []))) is.2 e in
    subst (Both ax g (substitute_formula 0 (value_at vs) (erase (head_statement (Term t))))) is.3 (equation_head ax g vs t is.1 is.0 cu ct' e')
by_head ax g Equation (Atom r us) vs ts f h is ct e cu = absurd (false≢true h)

-- the first of several
pub from_reverse : (us : List Unfolding) (u : Unfolding) → Contains (reverse us) u → Contains us u
from_reverse us u is =
    let within : is.0 < length us = let e : length (reverse us) ≡ length us = length-reverse us in omega (arith, is.1, e) in
    (length us - 1 - is.0, omega (arith, within), sym (get_or-reverse us is.0 u within) ∙ is.2)

a_later : (u v : Unfolding) (us : List Unfolding) → Contains us u → Contains (v ∷ us) u
a_later u v us is = (suc is.0, omega (arith, is.1), is.2)

pub record FirstOf (cs : List Clause) (ks : List (Option Constant)) (q : Sought) (ts : List term.Term) (us : List Unfolding) (d : Statement) : Type 0 where
  pub one : Unfolding
  pub within : Contains us one
  pub sought : is_sought q one.head ≡ true
  pub gives : Gives cs ks one ts (Some d)

pub first_of : (cs : List Clause) (ks : List (Option Constant)) (q : Sought) (ts : List term.Term) (us : List Unfolding) (o : Option Statement) → FirstGives cs ks q ts us o → (d : Statement) → o ≡ Some d → FirstOf cs ks q ts us d
first_of cs ks q ts us o none_left d e = absurd (none_some d e)
first_of cs ks q ts us o (of_other u vs p h k) d e =
    let r : FirstOf cs ks q ts vs d = first_of cs ks q ts vs p k d e in
    record { one = r.one; within = a_later r.one u vs r.within; sought = r.sought; gives = r.gives }
first_of cs ks q ts us o (not_this u vs p h g k) d e =
    let r : FirstOf cs ks q ts vs d = first_of cs ks q ts vs p k d e in
    record { one = r.one; within = a_later r.one u vs r.within; sought = r.sought; gives = r.gives }
first_of cs ks q ts us o (this_one u vs s h g) d e =
    record { one = u; within = (0, omega arith, refl); sought = h; gives = subst (λ x. Gives cs ks u ts (Some x)) (some-inj s d e) g }

first_both : (ax g : List Formula) (cs : List Clause) (ks : List (Option Constant)) (us : List Unfolding) → AreGranted ax g cs ks → AreUnfoldings ax us → (q : Sought) (ts : List term.Term) (d : Statement) (f : Formula) → Is q ts f → list_all closed ts ≡ true → FirstGives cs ks q ts (reverse us) (Some d) → Both ax g f (erase d)
first_both ax g cs ks us grants each q ts d f is ct h =
    let r : FirstOf cs ks q ts (reverse us) d = first_of cs ks q ts (reverse us) (Some d) h d refl in
    let u : Unfolding = r.one in
    let known : Unfolds ax r.one × (unfolding_closed r.one ≡ true) = each r.one (from_reverse us r.one r.within) in
    let a : GivenAt ax g cs ks r.one ts d = given_at ax g cs ks r.one ts (Some d) r.gives d refl in
    let m : AreEqual ax g (map (substitute 0 (value_at (reverse a.values))) (formals r.one.head)) ts × (list_all closed (map (substitute 0 (value_at (reverse a.values))) (formals r.one.head)) ≡ true) = matched_both ax g cs ks grants r.one known.1 ts d ct a in
    chain_both ax g (substitute_formula 0 (value_at (reverse a.values)) (erase (head_statement r.one.head))) (erase d) f
    (definiens_both ax g cs ks grants r.one known.0 ts d ct a)
    (by_head ax g q r.one.head (reverse a.values) ts f r.sought is ct m.0 m.1)

turned_both : (ax g : List Formula) (t u : term.Term) → closed t ≡ true → closed u ≡ true → Both ax g (formula.Eq u t) (formula.Eq t u)
turned_both ax g t u ct cu = (swapped ax g u t cu ct, swapped ax g t u ct cu)

unfolds_both : (ax g : List Formula) (cs : List Clause) (ks : List (Option Constant)) (us : List Unfolding) → AreGranted ax g cs ks → AreUnfoldings ax us → (s : Statement) (o : Option Statement) → UnfoldsTo cs ks us s o → statement_below 0 s ≡ true → (d : Statement) → o ≡ Some d → Both ax g (erase s) (erase d)
unfolds_both ax g cs ks us grants each s o (atom r ts p h) below d e =
    first_both ax g cs ks us grants each (AtomOf r) ts d (formula.Atom r ts) refl below (subst (FirstGives cs ks (AtomOf r) ts (reverse us)) e h)
unfolds_both ax g cs ks us grants each s o (right t u p h) below d e =
    let c : (closed t ≡ true) × (closed u ≡ true) = and_parts (closed t) (closed u) below in
    first_both ax g cs ks us grants each Equation (u ∷ t ∷ []) d (formula.Eq t u) (t, u, refl, refl) (and_from (closed u) (list_all closed (t ∷ [])) c.1 (and_from (closed t) true c.0 refl)) (subst (FirstGives cs ks Equation (u ∷ t ∷ []) (reverse us)) e h)
unfolds_both ax g cs ks us grants each s o (left t u p h k) below d e =
    let c : (closed t ≡ true) × (closed u ≡ true) = and_parts (closed t) (closed u) below in
    let both : Both ax g (formula.Eq u t) (erase d) = first_both ax g cs ks us grants each Equation (t ∷ u ∷ []) d (formula.Eq u t) (u, t, refl, refl) (and_from (closed t) (list_all closed (u ∷ [])) c.0 (and_from (closed u) true c.1 refl)) (subst (FirstGives cs ks Equation (t ∷ u ∷ []) (reverse us)) e k) in
    chain_both ax g (formula.Eq u t) (erase d) (formula.Eq t u) both (turned_both ax g t u c.0 c.1)
unfolds_both ax g cs ks us grants each s o (compound r h) below d e = absurd (none_some d e)

pub unfolds_law : UnfoldsLaw
unfolds_law ax g cs ks us grants each s d below h =
    let both : Both ax g (erase s) (erase d) = unfolds_both ax g cs ks us grants each s (Some d) h below d refl in
    (both.1, both.0)
