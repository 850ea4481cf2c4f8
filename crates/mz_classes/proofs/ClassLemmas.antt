-- What the lists of numbers tell of the facts.
use Rattle.std.proofs.Common.{◌≡◌, ◌<◌, ◌≤◌, ℕ, List, [], ◌∷◌, length, map, refl, ap, sym, ◌∙◌, subst, arith, true, false, Bool, inl, inr}
use Rattle.std.specs.Prelude.{slice_get, slice_index, Option, Some, None, ◌&&◌, ◌↔◌}
use Rattle.std.proofs.lemmas.Bool.{eqb-true, eq-eqb}
use Rattle.mz_logic.specs.Sym.{same_sym}
use Rattle.mz_logic.specs.declared.sym.Sym.{Sym}
use Rattle.mz_logic.specs.declared.literal.Literal.TheVariants.{Atom}
use Rattle.mz_logic.specs.declared.disjunct.Disjunct.{Disjunct}
use Rattle.mz_ground.specs.Ground.{term_at, ground_terms}
use Rattle.mz_ground.specs.Facts.{Fact}
use Rattle.mz_ground.specs.Facts as facts
use Rattle.mz_ground.specs.FactSet.{FactView, HasFacts}
use Rattle.mz_ground.specs.declared.clause.Clause.{Clause}
use Rattle.mz_ground.specs.declared.ground_atom.GroundAtom.{GroundAtom}
use Rattle.mz_congruence.proofs.RootLemmas.{cases_lt}
use Rattle.mz_congruence.proofs.AndLemmas.{both_left, both_right}
use Rattle.mz_classes.specs.Numbers.{first_of, list_at, numbers_where}
use Rattle.mz_classes.specs.SymLists.{sym_list}
use Rattle.mz_classes.specs.Indexed.{has_label, has_sym, has_sign, AreMemberLists, AreSignedLists, AreWithin}
use Rattle.mz_classes.specs.Classes.{numbered_term, AreEqualTerms, IsClassOf, AreMembers, IsSignedAtom, DecidesClass, DecidesMembers, DecidesSigned}
use Rattle.mz_classes.specs.declared.sym_lists.SymLists.{SymLists}
use Rattle.mz_classes.proofs.NumberLemmas.{where_within, where_has, where_ascending, IsFirstNumber, first_number, no_number}
use Rattle.mz_classes.proofs.SymListLemmas.{same_sym_true, same_sym_itself}

false_true : false ≡ true → ⊥
false_true e = cc

-- labels and equal terms
label_equal : (v : FactView) (ps : List ℕ) (d : Disjunct) (cs : List Clause) → HasFacts d cs v → AreWithin (length v.part.terms) ps → (m n : ℕ) → m < length v.part.terms → n < length v.part.terms → has_label v ps (v.class (slice_index ps n)) m ≡ true → AreEqualTerms d cs v.part ps m n
label_equal v ps d cs h w m n lm ln e = (h.equal (slice_index ps m) (slice_index ps n) (w m lm) (w n ln)).0 (eqb-true (v.class (slice_index ps m)) (v.class (slice_index ps n)) e)

equal_label : (v : FactView) (ps : List ℕ) (d : Disjunct) (cs : List Clause) → HasFacts d cs v → AreWithin (length v.part.terms) ps → (m n : ℕ) → m < length v.part.terms → n < length v.part.terms → AreEqualTerms d cs v.part ps m n → has_label v ps (v.class (slice_index ps n)) m ≡ true
equal_label v ps d cs h w m n lm ln f = eq-eqb (v.class (slice_index ps m)) (v.class (slice_index ps n)) ((h.equal (slice_index ps m) (slice_index ps n) (w m lm) (w n ln)).1 f)

abbrev its_label : FactView → List ℕ → ℕ → ℕ
its_label v ps term = v.class (slice_index ps term)

-- the class of a term
class_first : (v : FactView) (ps : List ℕ) (term class : ℕ) → AreWithin (length v.part.terms) ps → term < length v.part.terms → IsFirstNumber (has_label v ps (its_label v ps term)) (length v.part.terms) class → DecidesClass v ps term class
unfolding DecidesClass
class_first v ps term class w lt f = λ d cs h. record {
  within = f.within;
  equal = label_equal v ps d cs h w class term f.within lt f.holds;
  least = λ m le q. f.least m le (equal_label v ps d cs h w m term (omega (arith, le, f.within)) lt q);
}

pub told_class : (v : FactView) (ps : List ℕ) (xss : List (List ℕ)) (term label class : ℕ) (ns : List ℕ) (o : Option ℕ) → AreMemberLists v ps xss → AreWithin (length v.part.terms) ps → term < length v.part.terms → label ≡ its_label v ps term → ns ≡ list_at xss label → o ≡ first_of ns → o ≡ Some class → DecidesClass v ps term class
told_class v ps xss term label class ns o h w lt e q p s =
    let one : ns ≡ numbers_where (has_label v ps (its_label v ps term)) (length v.part.terms) = q ∙ ap (list_at xss) e ∙ h (its_label v ps term) in
    class_first v ps term class w lt (first_number (has_label v ps (its_label v ps term)) (length v.part.terms) class (ap first_of (sym one) ∙ sym p ∙ s))

label_itself : (v : FactView) (ps : List ℕ) (term : ℕ) → has_label v ps (its_label v ps term) term ≡ true
label_itself v ps term = eq-eqb (its_label v ps term) (its_label v ps term) refl

pub told_no_first : (v : FactView) (ps : List ℕ) (xss : List (List ℕ)) (term label class : ℕ) (ns : List ℕ) (o : Option ℕ) → AreMemberLists v ps xss → term < length v.part.terms → label ≡ its_label v ps term → ns ≡ list_at xss label → o ≡ first_of ns → o ≡ None → DecidesClass v ps term class
told_no_first v ps xss term label class ns o h lt e q p s =
    let one : ns ≡ numbers_where (has_label v ps (its_label v ps term)) (length v.part.terms) = q ∙ ap (list_at xss) e ∙ h (its_label v ps term) in
    absurd (no_number (has_label v ps (its_label v ps term)) (length v.part.terms) term (ap first_of (sym one) ∙ sym p ∙ s) lt (label_itself v ps term))

pub told_no_list : (v : FactView) (ps : List ℕ) (xss : List (List ℕ)) (term label class : ℕ) → AreMemberLists v ps xss → term < length v.part.terms → label ≡ its_label v ps term → list_at xss label ≡ [] → DecidesClass v ps term class
told_no_list v ps xss term label class h lt e q =
    let one : [] ≡ numbers_where (has_label v ps (its_label v ps term)) (length v.part.terms) = sym q ∙ ap (list_at xss) e ∙ h (its_label v ps term) in
    absurd (no_number (has_label v ps (its_label v ps term)) (length v.part.terms) term (ap first_of (sym one)) lt (label_itself v ps term))

pub ruleset class_rules = (told_class, told_no_first, told_no_list)

-- the members of a class
same_class : (d : Disjunct) (cs : List Clause) (v : FactView) (ps : List ℕ) (m n class : ℕ) → AreEqualTerms d cs v.part ps m n → IsClassOf d cs v.part ps n class → IsClassOf d cs v.part ps m class
same_class d cs v ps m n class e c =
    let t = numbered_term v.part ps m in
    let u = numbered_term v.part ps n in
    record {
      within = c.within;
      equal = facts.transitive (numbered_term v.part ps class) u t c.equal (facts.symmetric t u e);
      least = λ k lt q. c.least k lt (facts.transitive (numbered_term v.part ps k) t u q e);
    }

one_class : (d : Disjunct) (cs : List Clause) (v : FactView) (ps : List ℕ) (m class other : ℕ) → IsClassOf d cs v.part ps m class → IsClassOf d cs v.part ps m other → class ≡ other
one_class d cs v ps m class other c o =
    elim (cases_lt class other) [
      | inl lt ↦ absurd (o.least class lt c.equal)
      | inr ge ↦ elim (cases_lt other class) [ inl lt ↦ absurd (c.least other lt o.equal) | inr le ↦ omega (arith, ge, le) ]
    ]

pub members_listed : (v : FactView) (ps : List ℕ) (class : ℕ) → AreWithin (length v.part.terms) ps → class < length v.part.terms → DecidesClass v ps class class → DecidesMembers v ps class (numbers_where (has_label v ps (its_label v ps class)) (length v.part.terms))
unfolding DecidesClass DecidesMembers
members_listed v ps class w lt c = λ d cs h. record {
  ascending = where_ascending (has_label v ps (its_label v ps class)) (length v.part.terms);
  members = λ m. (
    λ q. let x = where_within (has_label v ps (its_label v ps class)) (length v.part.terms) m q in (x.0, same_class d cs v ps m class class (label_equal v ps d cs h w m class x.0 lt x.1) (c d cs h)),
    λ p. where_has (has_label v ps (its_label v ps class)) (length v.part.terms) m p.0 (equal_label v ps d cs h w m class p.0 lt (facts.symmetric (numbered_term v.part ps class) (numbered_term v.part ps m) p.1.equal)),
  );
}

pub told_members : (v : FactView) (ps : List ℕ) (xss : List (List ℕ)) (class other label : ℕ) (ns : List ℕ) → AreMemberLists v ps xss → AreWithin (length v.part.terms) ps → class < length v.part.terms → DecidesClass v ps class other → other ≡ class → label ≡ its_label v ps class → ns ≡ list_at xss label → DecidesMembers v ps class ns
told_members v ps xss class other label ns h w lt c e l q =
    let one : ns ≡ numbers_where (has_label v ps (its_label v ps class)) (length v.part.terms) = q ∙ ap (list_at xss) l ∙ h (its_label v ps class) in
    subst (λ (ms : List ℕ). DecidesMembers v ps class ms) (sym one) (members_listed v ps class w lt (subst (λ (k : ℕ). DecidesClass v ps class k) e c))

pub told_none : (v : FactView) (ps : List ℕ) (xss : List (List ℕ)) (class other label : ℕ) (ns : List ℕ) → AreMemberLists v ps xss → AreWithin (length v.part.terms) ps → class < length v.part.terms → DecidesClass v ps class other → other ≡ class → label ≡ its_label v ps class → list_at xss label ≡ [] → ns ≡ [] → DecidesMembers v ps class ns
told_none v ps xss class other label ns h w lt c e l q n = told_members v ps xss class other label ns h w lt c e l (n ∙ sym q)

-- no class
no_members : (v : FactView) (ps : List ℕ) (class : ℕ) (ns : List ℕ) → ns ≡ [] → ((d : Disjunct) (cs : List Clause) → HasFacts d cs v → (m : ℕ) → IsClassOf d cs v.part ps m class → ⊥) → DecidesMembers v ps class ns
unfolding DecidesMembers
no_members v ps class ns e n = λ d cs h. subst (λ (ms : List ℕ). AreMembers d cs v.part ps class ms) (sym e) (record {
  ascending = λ k lt. absurd (omega (arith, lt));
  members = λ m. (λ q. absurd (omega (arith, q.1)), λ p. absurd (n d cs h m p.1));
})

pub told_past : (v : FactView) (ps : List ℕ) (class : ℕ) (ns : List ℕ) → ns ≡ [] → length v.part.terms ≤ class → DecidesMembers v ps class ns
told_past v ps class ns e ge = no_members v ps class ns e (λ d cs h m c. omega (arith, ge, c.within))

pub told_other : (v : FactView) (ps : List ℕ) (class other : ℕ) (ns : List ℕ) → ns ≡ [] → DecidesClass v ps class other → ¬ (other ≡ class) → DecidesMembers v ps class ns
unfolding DecidesClass
told_other v ps class other ns e c ne = no_members v ps class ns e (λ d cs h m q.
    let t = numbered_term v.part ps class in
    let u = numbered_term v.part ps m in
    let here : IsClassOf d cs v.part ps class class = record { within = q.within; equal = facts.transitive t u t q.equal (facts.symmetric t u q.equal); least = λ k less r. q.least k less (facts.transitive (numbered_term v.part ps k) t u r q.equal) } in
    ne (one_class d cs v ps class other class (c d cs h) here))

-- atoms with a sign
sym_found : (s : Sym) (o : Option GroundAtom) → has_sym s o ≡ true → (a : GroundAtom) × (o ≡ Some a) × (a.sym ≡ s)
sym_found s None e = absurd (false_true e)
sym_found s (Some a) e = (a, refl, same_sym_true a.sym s e)

signed_sound : (v : FactView) (ps : List ℕ) (s : Sym) (positive : Bool) (d : Disjunct) (cs : List Clause) → HasFacts d cs v → (k : ℕ) → k < length v.part.atoms → has_sign v ps s positive k ≡ true → IsSignedAtom d cs v.part ps s positive k
signed_sound v ps s positive d cs h k lt e =
    let i : ℕ = slice_index ps k in
    let p = sym_found s (slice_get v.part.atoms i) (both_left (has_sym s (slice_get v.part.atoms i)) (v.signed positive i) e) in
    let f : Fact d cs (Atom positive p.0.sym (map (term_at (ground_terms v.part)) p.0.args)) = (h.signed positive i p.0 p.1).0 (both_right (has_sym s (slice_get v.part.atoms i)) (v.signed positive i) e) in
    (lt, (p.0, p.1, p.2, subst (λ (r : Sym). Fact d cs (Atom positive r (map (term_at (ground_terms v.part)) p.0.args))) p.2 f))

signed_complete : (v : FactView) (ps : List ℕ) (s : Sym) (positive : Bool) (d : Disjunct) (cs : List Clause) → HasFacts d cs v → (k : ℕ) → IsSignedAtom d cs v.part ps s positive k → has_sign v ps s positive k ≡ true
signed_complete v ps s positive d cs h k q =
    let i : ℕ = slice_index ps k in
    let p = q.1 in
    let here : has_sym s (slice_get v.part.atoms i) ≡ true = ap (has_sym s) p.1 ∙ ap (λ (r : Sym). same_sym r s) p.2 ∙ same_sym_itself s in
    let f : Fact d cs (Atom positive p.0.sym (map (term_at (ground_terms v.part)) p.0.args)) = subst (λ (r : Sym). Fact d cs (Atom positive r (map (term_at (ground_terms v.part)) p.0.args))) (sym p.2) p.3 in
    let sign : v.signed positive i ≡ true = (h.signed positive i p.0 p.1).1 f in
    rw (here, sign) refl

signed_listed : (v : FactView) (ps : List ℕ) (s : Sym) (positive : Bool) → DecidesSigned v ps s positive (numbers_where (has_sign v ps s positive) (length v.part.atoms))
unfolding DecidesSigned
signed_listed v ps s positive = λ d cs h. record {
  ascending = where_ascending (has_sign v ps s positive) (length v.part.atoms);
  atoms = λ k. (
    λ q. let x = where_within (has_sign v ps s positive) (length v.part.atoms) k q in signed_sound v ps s positive d cs h k x.0 x.1,
    λ p. where_has (has_sign v ps s positive) (length v.part.atoms) k p.0 (signed_complete v ps s positive d cs h k p),
  );
}

pub told_signed : (v : FactView) (ps : List ℕ) (s : Sym) (positive : Bool) (x : SymLists) (ns : List ℕ) → AreSignedLists v ps positive x → ns ≡ sym_list x s → DecidesSigned v ps s positive ns
told_signed v ps s positive x ns h e = subst (λ (ms : List ℕ). DecidesSigned v ps s positive ms) (sym (e ∙ h s)) (signed_listed v ps s positive)

pub told_unsigned : (v : FactView) (ps : List ℕ) (s : Sym) (positive : Bool) (x : SymLists) (ns : List ℕ) → AreSignedLists v ps positive x → sym_list x s ≡ [] → ns ≡ [] → DecidesSigned v ps s positive ns
told_unsigned v ps s positive x ns h e q = told_signed v ps s positive x ns h (q ∙ sym e)
