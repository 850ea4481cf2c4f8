-- Proofs of the laws of rows.
use Rattle.std.proofs.Common.{◌≡◌, ◌+◌, List, [], ◌∷◌, ◌++◌, map, length, refl, ap, ◌∙◌, subst, true, false}
use Rattle.std.specs.Prelude.{◌&&◌, not, Contains, Option, Some, None}
use Rattle.std.proofs.lemmas.Bool.{and_parts}
use Rattle.mz_base.specs.Name.{number_of}
use Rattle.mz_logic.specs.declared.sym.Sym.{Sym}
use Rattle.mz_logic.specs.Term as term
use Rattle.mz_logic.specs.Term.{Bound, Const, App, terms_of, list_of}
use Rattle.mz_logic.specs.TermStorage.{terms_of-list_of}
use Rattle.mz_logic.specs.Substitution.{shift}
use Rattle.mz_core.specs.Hidden.{is_of_any_object, set_type}
use Rattle.mz_core.specs.Guard.{guard_literals}
use Rattle.mz_core.specs.declared.adjective.Adjective.{Adjective}
use Rattle.mz_core.specs.declared.soft_type.SoftType.{SoftType}
use Rattle.mz_core.specs.declared.scheme.SchemeLetter.{SchemeLetter}
use Rattle.mz_core.specs.declared.scheme.SchemeLetter.TheVariants.{OfFunctor, OfPredicate}
use Rattle.mz_core.specs.declared.set_term.SetTerm.{SetTerm as TheSetTerm}
use Rattle.mz_core.specs.declared.item.Item.{Item}
use Rattle.mz_core.specs.declared.item.Item.TheVariants.{Axiom, AxiomScheme, Primitive, Theorem, Scheme, FunctorMeans, FunctorEquals, Predicate, Attribute, ModeMeans, Abbreviation, Notation, RedefinedFunctor, RedefinedMode, RedefinedPredicate, RedefinedAttribute, Property, Existential, Conditional, Functorial, Reduction, Identification, Structure, SetTerm, Choice}
use Rattle.mz_ground.specs.declared.clause.Clause.{Clause}
use Rattle.mz_ground.specs.Variables.{has_all_below}
use Rattle.mz_ground.specs.declared.trigger.Trigger.TheVariants.{Term, Atom}
use Rattle.mz_clauses.specs.Guards.{loci_guards, guard_at_object}
use Rattle.mz_clauses.specs.Groups.{groups_clauses}
use Rattle.mz_clauses.specs.DefinitionClauses.{functor_type_groups, new_functor_type_groups, mode_parent_groups, new_mode_parent_groups}
use Rattle.mz_clauses.specs.Clauses.{typing_clauses, letter_clauses}
use Rattle.mz_environment.specs.declared.rows.Row.{Row}
use Rattle.mz_environment.specs.Rows.{row, row_on, redefined_functor_rows, redefined_mode_rows, is_empty, is_bare, is_mode, has_loci, functor_rows, mode_rows, letter_rows}
use Rattle.mz_row_laws.specs.RowLaws.{row_term, row_mode, functor_row_clauses, mode_row_clauses, FunctorRowLaw, ModeRowLaw, LetterRowLaw, HasTypeClauses, HasParentClauses, HasClause, FunctorClauseLaw, ModeClauseLaw, LetterClauseLaw}
use Rattle.mz_row_laws.proofs.IndexLemmas.{term_full, atom_full, subject_full}
use Rattle.mz_row_laws.proofs.MemberLemmas.{in_none, in_one, in_where, group_has, any_group_has}

-- the clauses of a functor's row are among those of a list, and its application has all loci
record IsTyped (cs : List Clause) (r : Row) : Type 0 where
  pub clauses : (c : Clause) → Contains (functor_row_clauses r) c → Contains cs c
  pub full : has_all_below (length r.loci) (Term (row_term r)) ≡ true

itself_typed : (t : Row) → has_all_below (length t.loci) (Term (row_term t)) ≡ true → IsTyped (functor_row_clauses t) t
itself_typed t f = record { clauses = λ c k. k; full = f }

one_typed : (loci : List SoftType) (s : Sym) (ty : SoftType) (r : Row) → Contains (row_on loci s ty ∷ []) r → IsTyped (functor_row_clauses (row_on loci s ty)) r
one_typed loci s ty r h = subst (λ (q : Row). IsTyped (functor_row_clauses (row_on loci s ty)) q) (in_one (row_on loci s ty) r h) (itself_typed (row_on loci s ty) (term_full (length loci) s))

-- a redefinition whose application has all loci
new_typed : (loci : List SoftType) (t : term.Term) (ty : Option SoftType) (r : Row) → Contains (redefined_functor_rows loci t ty) r → IsTyped (groups_clauses (new_functor_type_groups loci t ty)) r
new_typed loci t None r h = absurd (in_none r h)
new_typed loci (Bound index) (Some ty) r h = absurd (in_none r h)
new_typed loci (Const number) (Some ty) r h = absurd (in_none r h)
new_typed loci (App s ts) (Some ty) r h =
    let both : (has_all_below (length loci) (Term (App s ts)) ≡ true) × (row loci s (list_of ts) ty ≡ r) = in_where (has_all_below (length loci) (Term (App s ts))) (row loci s (list_of ts) ty) r h in
    let full : has_all_below (length loci) (Term (App s (terms_of (list_of ts)))) ≡ true = ap (λ (us : term.Terms). has_all_below (length loci) (Term (App s us))) (terms_of-list_of ts) ∙ both.0 in
    subst (λ (us : term.Terms). IsTyped (groups_clauses (functor_type_groups loci (App s us) ty)) r) (terms_of-list_of ts)
    (subst (λ (q : Row). IsTyped (functor_row_clauses (row loci s (list_of ts) ty)) q) both.1 (itself_typed (row loci s (list_of ts) ty) full))

-- a set term is of no type but `set`, which has no literal
set_alone : (s : TheSetTerm) (c : Clause) → Contains (functor_row_clauses (row_on s.loci s.sym set_type)) c → Contains [] c
unfolding number_of
set_alone s c h = h

set_typed : (s : TheSetTerm) (r : Row) → IsTyped (functor_row_clauses (row_on s.loci s.sym set_type)) r → IsTyped [] r
set_typed s r it = record { clauses = λ c k. set_alone s c (it.clauses c k); full = it.full }

functors_typed : (item : Item) (r : Row) → Contains (functor_rows item) r → IsTyped (typing_clauses item) r
functors_typed (Axiom x) r h = absurd (in_none r h)
functors_typed (AxiomScheme x) r h = absurd (in_none r h)
functors_typed (Primitive x) r h = absurd (in_none r h)
functors_typed (Theorem x) r h = absurd (in_none r h)
functors_typed (Scheme x) r h = absurd (in_none r h)
functors_typed (FunctorMeans d) r h = one_typed d.pattern.loci d.sym d.ty r h
functors_typed (FunctorEquals d) r h = one_typed d.pattern.loci d.sym d.ty r h
functors_typed (Predicate x) r h = absurd (in_none r h)
functors_typed (Attribute x) r h = absurd (in_none r h)
functors_typed (ModeMeans d) r h = absurd (in_none r h)
functors_typed (Abbreviation x) r h = absurd (in_none r h)
functors_typed (Notation x) r h = absurd (in_none r h)
functors_typed (RedefinedFunctor d) r h = new_typed d.pattern.loci d.term d.ty r h
functors_typed (RedefinedMode d) r h = absurd (in_none r h)
functors_typed (RedefinedPredicate x) r h = absurd (in_none r h)
functors_typed (RedefinedAttribute x) r h = absurd (in_none r h)
functors_typed (Property x) r h = absurd (in_none r h)
functors_typed (Existential x) r h = absurd (in_none r h)
functors_typed (Conditional x) r h = absurd (in_none r h)
functors_typed (Functorial x) r h = absurd (in_none r h)
functors_typed (Reduction x) r h = absurd (in_none r h)
functors_typed (Identification x) r h = absurd (in_none r h)
functors_typed (Structure x) r h = absurd (in_none r h)
functors_typed (SetTerm s) r h = set_typed s r (one_typed s.loci s.sym set_type r h)
functors_typed (Choice x) r h = one_typed x.loci x.sym x.ty r h

letters_typed : (l : SchemeLetter) (r : Row) → Contains (letter_rows l) r → IsTyped (letter_clauses l) r
unfolding letter_clauses
letters_typed (OfFunctor s places ty) r h = one_typed places s ty r h
letters_typed (OfPredicate s places) r h = absurd (in_none r h)

-- the clauses of a mode's row are among those of a list, and its atom has all loci
record HasParent (cs : List Clause) (r : Row) : Type 0 where
  pub clauses : (c : Clause) → Contains (mode_row_clauses r) c → Contains cs c
  pub full : has_all_below (length r.loci) (Atom r.sym r.args) ≡ true

itself_parent : (t : Row) → has_all_below (length t.loci) (Atom t.sym t.args) ≡ true → HasParent (mode_row_clauses t) t
itself_parent t f = record { clauses = λ c k. k; full = f }

one_parent : (loci : List SoftType) (s : Sym) (ty : SoftType) (r : Row) → Contains (row_on loci s ty ∷ []) r → HasParent (mode_row_clauses (row_on loci s ty)) r
one_parent loci s ty r h = subst (λ (q : Row). HasParent (mode_row_clauses (row_on loci s ty)) q) (in_one (row_on loci s ty) r h) (itself_parent (row_on loci s ty) (atom_full (length loci) s))

no_adjectives : (xs : List Adjective) → is_empty xs ≡ true → [] ≡ xs
no_adjectives [] e = refl
no_adjectives (a ∷ more) e = cc

-- a type without adjectives is that of its radix
record-bare_alone : (mode : SoftType) → is_bare mode ≡ true → record { adjectives = []; radix = mode.radix } ≡ mode
record-bare_alone mode e =
    ap (λ (xs : List Adjective). record { adjectives = xs; radix = mode.radix }) (no_adjectives mode.adjectives (and_parts (is_empty mode.adjectives) (not (is_of_any_object mode.radix.sym)) e).0)

-- a redefinition whose mode has all loci and no adjectives
new_parent : (loci : List SoftType) (mode : SoftType) (ty : Option SoftType) (r : Row) → Contains (redefined_mode_rows loci mode ty) r → HasParent (groups_clauses (new_mode_parent_groups loci mode ty)) r
new_parent loci mode None r h = absurd (in_none r h)
new_parent loci mode (Some ty) r h =
    let both : ((is_bare mode && is_mode mode.radix.sym.kind && has_loci loci mode) ≡ true) × (row loci mode.radix.sym mode.radix.args ty ≡ r) = in_where (is_bare mode && is_mode mode.radix.sym.kind && has_loci loci mode) (row loci mode.radix.sym mode.radix.args ty) r h in
    let parts : ((is_bare mode && is_mode mode.radix.sym.kind) ≡ true) × (has_loci loci mode ≡ true) = and_parts (is_bare mode && is_mode mode.radix.sym.kind) (has_loci loci mode) both.0 in
    let bare : is_bare mode ≡ true = (and_parts (is_bare mode) (is_mode mode.radix.sym.kind) parts.0).0 in
    subst (λ (m : SoftType). HasParent (groups_clauses (mode_parent_groups loci m ty)) r) (record-bare_alone mode bare)
    (subst (λ (q : Row). HasParent (mode_row_clauses (row loci mode.radix.sym mode.radix.args ty)) q) both.1 (itself_parent (row loci mode.radix.sym mode.radix.args ty) parts.1))

modes_parent : (item : Item) (r : Row) → Contains (mode_rows item) r → HasParent (typing_clauses item) r
modes_parent (Axiom x) r h = absurd (in_none r h)
modes_parent (AxiomScheme x) r h = absurd (in_none r h)
modes_parent (Primitive x) r h = absurd (in_none r h)
modes_parent (Theorem x) r h = absurd (in_none r h)
modes_parent (Scheme x) r h = absurd (in_none r h)
modes_parent (FunctorMeans d) r h = absurd (in_none r h)
modes_parent (FunctorEquals d) r h = absurd (in_none r h)
modes_parent (Predicate x) r h = absurd (in_none r h)
modes_parent (Attribute x) r h = absurd (in_none r h)
modes_parent (ModeMeans d) r h = one_parent d.pattern.loci d.sym d.ty r h
modes_parent (Abbreviation x) r h = absurd (in_none r h)
modes_parent (Notation x) r h = absurd (in_none r h)
modes_parent (RedefinedFunctor d) r h = absurd (in_none r h)
modes_parent (RedefinedMode d) r h = new_parent d.pattern.loci d.mode d.ty r h
modes_parent (RedefinedPredicate x) r h = absurd (in_none r h)
modes_parent (RedefinedAttribute x) r h = absurd (in_none r h)
modes_parent (Property x) r h = absurd (in_none r h)
modes_parent (Existential x) r h = absurd (in_none r h)
modes_parent (Conditional x) r h = absurd (in_none r h)
modes_parent (Functorial x) r h = absurd (in_none r h)
modes_parent (Reduction x) r h = absurd (in_none r h)
modes_parent (Identification x) r h = absurd (in_none r h)
modes_parent (Structure x) r h = absurd (in_none r h)
modes_parent (SetTerm s) r h = absurd (in_none r h)
modes_parent (Choice x) r h = absurd (in_none r h)

-- each literal of a row
type_clauses : (cs : List Clause) (r : Row) → IsTyped cs r → HasTypeClauses cs r
type_clauses cs r it k h =
    let g : HasClause (functor_row_clauses r) (length r.loci) (loci_guards 0 r.loci) k = group_has (length r.loci) (Term (row_term r)) (loci_guards 0 r.loci) (guard_literals r.ty (row_term r)) k it.full h in
    (g.0, it.clauses g.0 g.1, g.2, g.3, g.4)

parent_clauses : (cs : List Clause) (r : Row) → HasParent cs r → is_of_any_object r.sym ≡ false → HasParentClauses cs r
parent_clauses cs r it e k h =
    let g : HasClause (mode_row_clauses r) (length r.loci + 1) (loci_guards 1 r.loci ++ guard_at_object (row_mode r)) k = any_group_has (is_of_any_object r.sym) (length r.loci + 1) r.sym (map (shift 0 1) r.args ++ Bound 0 ∷ []) (loci_guards 1 r.loci ++ guard_at_object (row_mode r)) (guard_at_object r.ty) k e (subject_full (length r.loci) r.sym r.args it.full) h in
    (g.0, it.clauses g.0 g.1, g.2, g.3, g.4)

-- laws
pub functor_row_law : FunctorRowLaw
functor_row_law item r h = (functors_typed item r h).clauses

pub mode_row_law : ModeRowLaw
mode_row_law item r h = (modes_parent item r h).clauses

pub letter_row_law : LetterRowLaw
letter_row_law l r h = (letters_typed l r h).clauses

pub functor_clause_law : FunctorClauseLaw
functor_clause_law item r h = type_clauses (typing_clauses item) r (functors_typed item r h)

pub mode_clause_law : ModeClauseLaw
mode_clause_law item r h e = parent_clauses (typing_clauses item) r (modes_parent item r h) e

pub letter_clause_law : LetterClauseLaw
letter_clause_law l r h = type_clauses (letter_clauses l) r (letters_typed l r h)
