-- No row of a mode and no structure of an item is `object` or `set`.
use Rattle.std.proofs.Common.{◌≡◌, Bool, true, false, List, [], ◌∷◌, ap, sym, ◌∙◌, subst, refl}
use Rattle.std.specs.Prelude.{◌&&◌, not, All, Contains, Option, Some, None}
use Rattle.std.proofs.lemmas.Bool.{and_parts, not-true}
use Rattle.std.proofs.lemmas.List.Elements.{All-contains}
use Rattle.mz_logic.specs.declared.sym.Sym.{Sym}
use Rattle.mz_logic.specs.declared.kind.Kind.TheVariants as kind
use Rattle.mz_core.specs.Hidden.{is_of_any_object}
use Rattle.mz_core.specs.declared.soft_type.SoftType.{SoftType}
use Rattle.mz_core.specs.declared.structure.Structure.{Structure as TheStructure}
use Rattle.mz_core.specs.declared.definition.MeansDefinition.{MeansDefinition}
use Rattle.mz_core.specs.declared.outcome.Export.{Export}
use Rattle.mz_core.specs.declared.item.Item.{Item}
use Rattle.mz_core.specs.declared.item.Item.TheVariants.{Axiom, AxiomScheme, Primitive, Theorem, Scheme, FunctorMeans, FunctorEquals, Predicate, Attribute, ModeMeans, Abbreviation, Notation, RedefinedFunctor, RedefinedMode, RedefinedPredicate, RedefinedAttribute, Property, Existential, Conditional, Functorial, Reduction, Identification, Structure, SetTerm, Choice}
use Rattle.mz_items.specs.Closed.{is_of_kind, structure_closed, kind_fits, contents_closed, item_closed}
use Rattle.mz_axioms.specs.Library.{HasClosedItems}
use Rattle.mz_environment.specs.Rows.{row, row_on, redefined_mode_rows, is_empty, is_bare, is_mode, has_loci, mode_rows}
use Rattle.mz_environment.specs.Environment.{structures_of}
use Rattle.mz_environment.specs.declared.numbering.Numbering.{Numbering}
use Rattle.mz_environment.specs.declared.rows.Row.{Row}
use Rattle.mz_environment.specs.declared.environment.Environment.{Environment}
use Rattle.mz_row_laws.proofs.MemberLemmas.{in_none, in_one, in_where}
use Rattle.mz_env_laws.specs.Entries.{HasTypingOf, IsOfExports, SomeItem, AreOfItems}
use Rattle.mz_env_laws.proofs.Along.{stands_member}
use Rattle.mz_env_laws.proofs.ClosedProofs.{member_holds}
use Rattle.mz_chain_clause_laws.specs.ChainClauses.{PlainRowsLaw}

fits : (x : Item) → item_closed x ≡ true → kind_fits x ≡ true
fits x h = (and_parts (kind_fits x) (contents_closed x) h).0

-- a redefined mode is bare, so it isn't one of these
plain_again : (loci : List SoftType) (mode : SoftType) (ty : Option SoftType) (r : Row) → Contains (redefined_mode_rows loci mode ty) r → is_of_any_object r.sym ≡ false
plain_again loci mode None r is = absurd (in_none r is)
plain_again loci mode (Some ty) r is =
    let both : ((is_bare mode && is_mode mode.radix.sym.kind && has_loci loci mode) ≡ true) × (row loci mode.radix.sym mode.radix.args ty ≡ r) = in_where (is_bare mode && is_mode mode.radix.sym.kind && has_loci loci mode) (row loci mode.radix.sym mode.radix.args ty) r is in
    let parts : ((is_bare mode && is_mode mode.radix.sym.kind) ≡ true) × (has_loci loci mode ≡ true) = and_parts (is_bare mode && is_mode mode.radix.sym.kind) (has_loci loci mode) both.0 in
    let bare : is_bare mode ≡ true = (and_parts (is_bare mode) (is_mode mode.radix.sym.kind) parts.0).0 in
    let other : not (is_of_any_object mode.radix.sym) ≡ true = (and_parts (is_empty mode.adjectives) (not (is_of_any_object mode.radix.sym)) bare).1 in
    ap (λ (q : Row). is_of_any_object q.sym) (sym both.1) ∙ not-true (is_of_any_object mode.radix.sym) other

plain_mode : (d : MeansDefinition) (r : Row) → kind_fits (ModeMeans d) ≡ true → Contains (mode_rows (ModeMeans d)) r → is_of_any_object r.sym ≡ false
plain_mode d r h is =
    let other : not (is_of_any_object d.sym) ≡ true = (and_parts (is_of_kind kind.Mode d.pattern) (not (is_of_any_object d.sym)) h).1 in
    ap (λ (q : Row). is_of_any_object q.sym) (sym (in_one (row_on d.pattern.loci d.sym d.ty) r is)) ∙ not-true (is_of_any_object d.sym) other

plain_rows : (x : Item) (r : Row) → kind_fits x ≡ true → Contains (mode_rows x) r → is_of_any_object r.sym ≡ false
plain_rows (Axiom d) r h is = absurd (in_none r is)
plain_rows (AxiomScheme d) r h is = absurd (in_none r is)
plain_rows (Primitive d) r h is = absurd (in_none r is)
plain_rows (Theorem d) r h is = absurd (in_none r is)
plain_rows (Scheme d) r h is = absurd (in_none r is)
plain_rows (FunctorMeans d) r h is = absurd (in_none r is)
plain_rows (FunctorEquals d) r h is = absurd (in_none r is)
plain_rows (Predicate d) r h is = absurd (in_none r is)
plain_rows (Attribute d) r h is = absurd (in_none r is)
plain_rows (ModeMeans d) r h is = plain_mode d r h is
plain_rows (Abbreviation d) r h is = absurd (in_none r is)
plain_rows (Notation d) r h is = absurd (in_none r is)
plain_rows (RedefinedFunctor d) r h is = absurd (in_none r is)
plain_rows (RedefinedMode d) r h is = plain_again d.pattern.loci d.mode d.ty r is
plain_rows (RedefinedPredicate d) r h is = absurd (in_none r is)
plain_rows (RedefinedAttribute d) r h is = absurd (in_none r is)
plain_rows (Property d) r h is = absurd (in_none r is)
plain_rows (Existential d) r h is = absurd (in_none r is)
plain_rows (Conditional d) r h is = absurd (in_none r is)
plain_rows (Functorial d) r h is = absurd (in_none r is)
plain_rows (Reduction d) r h is = absurd (in_none r is)
plain_rows (Identification d) r h is = absurd (in_none r is)
plain_rows (Structure d) r h is = absurd (in_none r is)
plain_rows (SetTerm d) r h is = absurd (in_none r is)
plain_rows (Choice d) r h is = absurd (in_none r is)

-- what is asked of a structure and holds of an item's holds of the one that the item defines
pub of_structure : (P : TheStructure → Type 0) (x : Item) (s : TheStructure) → ((t : TheStructure) → x ≡ Structure t → P t) → Contains (structures_of x) s → P s
of_structure P (Axiom d) s h is = absurd (in_none s is)
of_structure P (AxiomScheme d) s h is = absurd (in_none s is)
of_structure P (Primitive d) s h is = absurd (in_none s is)
of_structure P (Theorem d) s h is = absurd (in_none s is)
of_structure P (Scheme d) s h is = absurd (in_none s is)
of_structure P (FunctorMeans d) s h is = absurd (in_none s is)
of_structure P (FunctorEquals d) s h is = absurd (in_none s is)
of_structure P (Predicate d) s h is = absurd (in_none s is)
of_structure P (Attribute d) s h is = absurd (in_none s is)
of_structure P (ModeMeans d) s h is = absurd (in_none s is)
of_structure P (Abbreviation d) s h is = absurd (in_none s is)
of_structure P (Notation d) s h is = absurd (in_none s is)
of_structure P (RedefinedFunctor d) s h is = absurd (in_none s is)
of_structure P (RedefinedMode d) s h is = absurd (in_none s is)
of_structure P (RedefinedPredicate d) s h is = absurd (in_none s is)
of_structure P (RedefinedAttribute d) s h is = absurd (in_none s is)
of_structure P (Property d) s h is = absurd (in_none s is)
of_structure P (Existential d) s h is = absurd (in_none s is)
of_structure P (Conditional d) s h is = absurd (in_none s is)
of_structure P (Functorial d) s h is = absurd (in_none s is)
of_structure P (Reduction d) s h is = absurd (in_none s is)
of_structure P (Identification d) s h is = absurd (in_none s is)
of_structure P (Structure t) s h is = subst P (in_one t s is) (h t refl)
of_structure P (SetTerm d) s h is = absurd (in_none s is)
of_structure P (Choice d) s h is = absurd (in_none s is)

pub structure_parts : (t : TheStructure) → item_closed (Structure t) ≡ true → (is_of_any_object t.sym ≡ false) × (structure_closed t ≡ true)
structure_parts t h =
    let both : (not (is_of_any_object t.sym) ≡ true) × (structure_closed t ≡ true) = and_parts (not (is_of_any_object t.sym)) (structure_closed t) h in
    (not-true (is_of_any_object t.sym) both.0, both.1)

pub closed_structure : (x : Item) (s : TheStructure) → item_closed x ≡ true → Contains (structures_of x) s → (is_of_any_object s.sym ≡ false) × (structure_closed s ≡ true)
closed_structure x s h is =
    of_structure (λ (t : TheStructure). (is_of_any_object t.sym ≡ false) × (structure_closed t ≡ true)) x s (λ t same. structure_parts t (subst (λ y. item_closed y ≡ true) same h)) is

-- items of the exports
pub source_closed : (exports : List Export) → All HasClosedItems exports → (at : Numbering) (x : Item) → IsOfExports exports at x → item_closed x ≡ true
source_closed exports all at x from = member_holds from.0.items x (All-contains HasClosedItems exports from.0 all from.1) (stands_member from.2)

pub plain_rows_law : PlainRowsLaw
plain_rows_law exports e entries all = (
  λ r is.
      let g : SomeItem (IsOfExports exports) (λ at x. Contains (mode_rows x) r × HasTypingOf e x) = entries.modes r is in
      plain_rows g.1 r (fits g.1 (source_closed exports all g.0 g.1 g.2)) g.3.0,
  λ s is.
      let g : SomeItem (IsOfExports exports) (λ at x. Contains (structures_of x) s × HasTypingOf e x) = entries.structures s is in
      (closed_structure g.1 s (source_closed exports all g.0 g.1 g.2) g.3.0).0,
)
