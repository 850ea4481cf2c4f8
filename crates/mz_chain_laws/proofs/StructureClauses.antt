-- The typing clauses of structures.
use Rattle.std.proofs.Common.{◌≡◌, ◌+◌, ◌⊎◌, inl, inr, ℕ, zero, suc, List, [], ◌∷◌, ◌++◌, map, length, append_assoc, append-nil, reverse, refl, sym, ap, ◌∙◌, subst, arith, true}
use Rattle.std.specs.Prelude.{Contains, flat_map}
use Rattle.std.proofs.lemmas.Grind.{flat_map-append}
use Rattle.std.proofs.lemmas.List.{map-append, reverse-append}
use Rattle.std.proofs.lemmas.List.Elements.{Contains-append_left, Contains-append_right}
use Rattle.mz_logic.specs.declared.sym.Sym.{Sym}
use Rattle.mz_logic.specs.Term as term
use Rattle.mz_logic.specs.Term.{Bound, App, terms_of}
use Rattle.mz_logic.specs.Substitution.{shift}
use Rattle.mz_logic.specs.declared.literal.Literal.{Literal}
use Rattle.mz_logic.proofs.ShiftLaws.{shift-Bound}
use Rattle.mz_core.specs.declared.structure.Structure.{Structure as TheStructure}
use Rattle.mz_core.specs.declared.item.Item.{Item}
use Rattle.mz_core.specs.declared.item.Item.TheVariants.{Axiom, AxiomScheme, Primitive, Theorem, Scheme, FunctorMeans, FunctorEquals, Predicate, Attribute, ModeMeans, Abbreviation, Notation, RedefinedFunctor, RedefinedMode, RedefinedPredicate, RedefinedAttribute, Property, Existential, Conditional, Functorial, Reduction, Identification, Structure, SetTerm, Choice}
use Rattle.mz_ground.specs.Variables.{has_all_below}
use Rattle.mz_ground.specs.declared.clause.Clause.{Clause}
use Rattle.mz_ground.specs.declared.trigger.Trigger.TheVariants.{Term, Atom}
use Rattle.mz_items.specs.Loci.{inward, variables}
use Rattle.mz_items.specs.StructureRows.{given_values}
use Rattle.mz_clauses.specs.Clauses.{typing_clauses}
use Rattle.mz_clauses.specs.Groups.{group_clauses, groups_clauses}
use Rattle.mz_clauses.specs.Guards.{loci_guards}
use Rattle.mz_clauses.specs.StructureClauses.{structure_arguments, structure_literal, strict_literal, structure_parts, given_guards, selection_equations, part_groups, aggregate_groups}
use Rattle.mz_environment.specs.Environment.{structures_of}
use Rattle.mz_row_laws.specs.RowLaws.{HasClause}
use Rattle.mz_row_laws.proofs.IndexLemmas.{term_full, atom_full, subject_full}
use Rattle.mz_row_laws.proofs.MemberLemmas.{in_none, in_one, group_has}
use Rattle.mz_chain_laws.specs.ChainLaw.{made_of_variables, HasPartClauses, HasAggregateClause, StructureClauseLaw}
use Rattle.mz_chain_laws.proofs.StructureHolds.{map_reverse}

-- variables under one more
inward_raised : (n : ℕ) → map (shift 0 1) (inward 0 n) ≡ inward 1 n
inward_raised zero = refl
inward_raised (suc n) =
    let e : 0 + n + 1 ≡ 1 + n = omega arith in
    let last : shift 0 1 (Bound (0 + n)) ≡ Bound (1 + n) = shift-Bound 1 (0 + n) ∙ ap Bound e in
    map-append (shift 0 1) (inward 0 n) (Bound (0 + n) ∷ []) ∙ (λ i. inward_raised n i ++ last i ∷ [])

variables_raised : (n : ℕ) → map (shift 0 1) (variables 0 n) ≡ variables 1 n
variables_raised n = map_reverse (shift 0 1) (inward 0 n) ∙ ap reverse (inward_raised n)

part_full : (n : ℕ) (s : Sym) → has_all_below (n + 1) (Atom s (variables 1 n ++ Bound 0 ∷ [])) ≡ true
part_full n s = subst (λ (ts : List term.Term). has_all_below (n + 1) (Atom s (ts ++ Bound 0 ∷ [])) ≡ true) (variables_raised n) (subject_full n s (variables 0 n) (atom_full n s))

-- variables, and then those under them
inward_both : (m n : ℕ) → inward 0 (m + n) ≡ inward 0 m ++ inward m n
inward_both m zero =
    let e : m + 0 ≡ m = omega arith in
    ap (inward 0) e ∙ sym (append-nil (inward 0 m))
inward_both m (suc n) =
    let e : m + suc n ≡ suc (m + n) = omega arith in
    let last : 0 + (m + n) ≡ m + n = omega arith in
    ap (inward 0) e ∙ ((λ i. inward_both m n i ++ Bound (last i) ∷ []) ∙ append_assoc (inward 0 m) (inward m n) (Bound (m + n) ∷ []))

variables_both : (m n : ℕ) → variables 0 (m + n) ≡ variables m n ++ variables 0 m
variables_both m n = ap reverse (inward_both m n) ∙ reverse-append (inward 0 m) (inward m n)

made_full : (m n : ℕ) (s : Sym) → has_all_below (n + m) (Term (App s (terms_of (variables m n ++ variables 0 m)))) ≡ true
made_full m n s =
    let e : m + n ≡ n + m = omega arith in
    subst (λ k. has_all_below k (Term (App s (terms_of (variables m n ++ variables 0 m)))) ≡ true) e
    (subst (λ (ts : List term.Term). has_all_below (m + n) (Term (App s (terms_of ts))) ≡ true) (variables_both m n) (term_full (m + n) s))

-- clauses among others
pub among : (cs ds : List Clause) → ((c : Clause) → Contains cs c → Contains ds c) → (n : ℕ) (ps : List Literal) (k : Literal) → HasClause cs n ps k → HasClause ds n ps k
among cs ds f n ps k w = (w.0, f w.0 w.1, w.2, w.3, w.4)

typing_clauses-both_groups : (x : TheStructure) → typing_clauses (Structure x) ≡ groups_clauses (part_groups x) ++ groups_clauses (aggregate_groups x)
typing_clauses-both_groups x = flat_map-append group_clauses (part_groups x) (aggregate_groups x)

parts_there : (x : TheStructure) → HasPartClauses (typing_clauses (Structure x)) x
parts_there x k h =
    let w : HasClause (groups_clauses (part_groups x)) (length x.loci + 1) (loci_guards 1 x.loci ++ structure_literal 1 x (Bound 0) ∷ []) k =
    group_has (length x.loci + 1) (Atom x.sym (structure_arguments 1 x (Bound 0))) (loci_guards 1 x.loci ++ structure_literal 1 x (Bound 0) ∷ []) (structure_parts x) k (part_full (length x.loci) x.sym) h in
    among (groups_clauses (part_groups x)) (typing_clauses (Structure x))
    (λ c i. subst (λ (ds : List Clause). Contains ds c) (sym (typing_clauses-both_groups x)) (Contains-append_left (groups_clauses (part_groups x)) (groups_clauses (aggregate_groups x)) c i)) (length x.loci + 1) (loci_guards 1 x.loci ++ structure_literal 1 x (Bound 0) ∷ []) k w

made_there : (x : TheStructure) → HasAggregateClause (typing_clauses (Structure x)) x
made_there x =
    let n : ℕ = length x.fields in
    let a : term.Term = made_of_variables x in
    let ps : List Literal = loci_guards (length x.fields) x.loci ++ given_guards (given_values x (length x.fields) (made_of_variables x)) x.fields (variables 0 (length x.fields)) in
    let k : Literal = structure_literal (length x.fields) x (made_of_variables x) in
    let w : HasClause (groups_clauses (aggregate_groups x)) (length x.loci + length x.fields) ps k =
    group_has (length x.loci + length x.fields) (Term (made_of_variables x)) ps (structure_literal (length x.fields) x (made_of_variables x) ∷ strict_literal (length x.fields) x (made_of_variables x) ∷ selection_equations (made_of_variables x) x.fields (variables 0 (length x.fields)))
    k (made_full (length x.fields) (length x.loci) x.aggregate) (0, omega arith, refl) in
    among (groups_clauses (aggregate_groups x)) (typing_clauses (Structure x))
    (λ c i. subst (λ (ds : List Clause). Contains ds c) (sym (typing_clauses-both_groups x)) (Contains-append_right (groups_clauses (part_groups x)) (groups_clauses (aggregate_groups x)) c i)) (length x.loci + length x.fields) ps k w

pub structure_clause_law : StructureClauseLaw
structure_clause_law (Axiom d) x h = absurd (in_none x h)
structure_clause_law (AxiomScheme d) x h = absurd (in_none x h)
structure_clause_law (Primitive d) x h = absurd (in_none x h)
structure_clause_law (Theorem d) x h = absurd (in_none x h)
structure_clause_law (Scheme d) x h = absurd (in_none x h)
structure_clause_law (FunctorMeans d) x h = absurd (in_none x h)
structure_clause_law (FunctorEquals d) x h = absurd (in_none x h)
structure_clause_law (Predicate d) x h = absurd (in_none x h)
structure_clause_law (Attribute d) x h = absurd (in_none x h)
structure_clause_law (ModeMeans d) x h = absurd (in_none x h)
structure_clause_law (Abbreviation d) x h = absurd (in_none x h)
structure_clause_law (Notation d) x h = absurd (in_none x h)
structure_clause_law (RedefinedFunctor d) x h = absurd (in_none x h)
structure_clause_law (RedefinedMode d) x h = absurd (in_none x h)
structure_clause_law (RedefinedPredicate d) x h = absurd (in_none x h)
structure_clause_law (RedefinedAttribute d) x h = absurd (in_none x h)
structure_clause_law (Property d) x h = absurd (in_none x h)
structure_clause_law (Existential d) x h = absurd (in_none x h)
structure_clause_law (Conditional d) x h = absurd (in_none x h)
structure_clause_law (Functorial d) x h = absurd (in_none x h)
structure_clause_law (Reduction d) x h = absurd (in_none x h)
structure_clause_law (Identification d) x h = absurd (in_none x h)
structure_clause_law (Structure s) x h = subst (λ (y : TheStructure). HasPartClauses (typing_clauses (Structure s)) y × HasAggregateClause (typing_clauses (Structure s)) y) (in_one s x h) (parts_there s, made_there s)
structure_clause_law (SetTerm d) x h = absurd (in_none x h)
structure_clause_law (Choice d) x h = absurd (in_none x h)
