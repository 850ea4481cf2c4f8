-- A notation of a block has no constant and no loose index.
use Rattle.std.proofs.Common.{◌≡◌, ◌≤◌, ◌<◌, ◌+◌, ℕ, zero, suc, Bool, true, false, List, [], ◌∷◌, ◌++◌, map, length, refl, sym, ap, ◌∙◌, subst, arith, Option, Some, if◌then◌else◌}
use Rattle.std.specs.Prelude.{◌&&◌, nat_le, nat_lt, Contains, Result, Ok, Err}
use Rattle.std.specs.List.{list_all}
use Rattle.std.proofs.lemmas.Bool.{and_parts, and_from, le-leb, lt-ltb, ltb-true}
use Rattle.mz_base.specs.declared.place.Place.{Place}
use Rattle.mz_logic.specs.Formula.{Formula}
use Rattle.mz_logic.specs.Derives.{Derives}
use Rattle.mz_logic.specs.Term.{Term}
use Rattle.mz_logic.specs.declared.kind.Kind.{Kind}
use Rattle.mz_logic.specs.declared.kind.Kind.TheVariants as kind
use Rattle.mz_logic.specs.declared.literal.Literal.{Literal}
use Rattle.mz_logic.specs.declared.literal.Literal.TheVariants as literal
use Rattle.mz_logic.specs.declared.sequent.Sequent.{Sequent}
use Rattle.mz_core.specs.Abstraction.{statement_over}
use Rattle.mz_core.specs.Closed.{term_under, literal_under, statement_under, loci_closed}
use Rattle.mz_core.specs.Statement.{Statement, Eq}
use Rattle.mz_core.specs.declared.item.Item.TheVariants as item
use Rattle.mz_core.specs.declared.notation.Meaning.{Meaning}
use Rattle.mz_core.specs.declared.notation.Meaning.TheVariants.{OfTerm, OfLiteral, OfType}
use Rattle.mz_core.specs.declared.notation.Notation.{Notation}
use Rattle.mz_core.specs.declared.pattern.Pattern.{Pattern}
use Rattle.mz_core.specs.declared.soft_type.SoftType.{SoftType}
use Rattle.mz_items.specs.Closed.{is_locus, are_distinct, is_single, right_fits, pattern_closed, meaning_under, meaning_fits}
use Rattle.mz_items.specs.Items.{owes}
use Rattle.mz_applied.specs.Meant.{literal_of}
use Rattle.mz_choice.specs.declared.choice.Wanted.TheVariants.{Anything}
use Rattle.mz_choice_laws.specs.Known.{term_known, literal_known, statement_known, meaning_known}
use Rattle.mz_choice_laws.proofs.KnownChoice.{known_meaning_law}
use Rattle.mz_choice_laws.proofs.KnownValues.{type_known-where, statement_known-where}
use Rattle.mz_cluster_items.specs.OverLoci.{term_over_loci}
use Rattle.mz_context.specs.Context.{next}
use Rattle.mz_context.specs.declared.constants.Constant.{Constant}
use Rattle.mz_context.specs.declared.context.Context.{Context}
use Rattle.mz_environment.specs.declared.environment.Environment.{Environment}
use Rattle.mz_loci.specs.Loci.{loci_from, statement_over_loci, types_behind, locus_types}
use Rattle.mz_loci_laws.specs.Block.{StandsInBlock}
use Rattle.mz_loci_laws.proofs.BlockProofs.{next-variables, count_there, whole_there, closed_there, types_law}
use Rattle.mz_loci_laws.proofs.OverProofs.{between, type_under_loci, statement_under_loci}
use Rattle.mz_names.specs.Closing.{with_variables}
use Rattle.mz_names.specs.declared.refusal.Refusal.{Refusal}
use Rattle.mz_names.specs.declared.refusal.Refusal.TheVariants.{UnfitArgument, TooLarge}
use Rattle.mz_patterns.specs.Functors.{closed_pattern}
use Rattle.mz_patterns.specs.Patterns.{identifiers_beside, identifier}
use Rattle.mz_patterns.specs.declared.visible.Visible.{Visible}
use Rattle.mz_patterns.proofs.VisibleProofs.{AreGood, visible_good, sides_named, one_behind}
use Rattle.mz_standing.specs.declared.standing.Standing.{Standing}
use Rattle.mz_standing_laws.specs.Owed.{IsOwed}
use Rattle.mz_standing_laws.specs.Soundly.{Setting}
use Rattle.mz_term_laws.specs.Usable.{is_usable}
use Rattle.mz_term_laws.proofs.ChangeProofs.{known_types}
use Rattle.mz_term_laws.proofs.Outcomes.{on_ok, on_reads_as}
use Rattle.mz_tree_heading.specs.declared.patterns.PatternTree.{PatternTree}
use Rattle.mz_tree_heading.specs.declared.patterns.PatternTree.TheVariants.{Functor, Predicate, Attribute, Mode}
use Rattle.mz_tree_part.specs.declared.words.NotationWord.{NotationWord}
use Rattle.mz_tree_part.specs.declared.words.NotationWord.TheVariants.{Synonym, Antonym}
use Rattle.mz_types.specs.Known.{typing}
use Rattle.mz_notations.specs.OverLoci.{literal_over_loci, meaning_over_loci}
use Rattle.mz_notations.specs.Patterns.{kind_of, names_before, names_behind, symbol_of, closing_of, symbol_place, first_of}
use Rattle.mz_notations.specs.Reading.{new_loci, old_loci, locus_at, applied_to, meaning_keeps, kept_meaning, as_pattern, PatternReads}
use Rattle.mz_notations.specs.Notes.{opposite_of, signed_by, notation_of}

-- in a block

next_there : (g : Setting) (least : ℕ) (s : Standing) → StandsInBlock g least s → next s.context ≡ least + length (loci_from least s.context.constants)
next_there g least s b =
    let a : next s.context ≡ next (with_variables b.outside b.loci) = ap next b.here in
    let n : next (with_variables b.outside b.loci) ≡ next b.outside + length b.loci = next-variables b.outside b.loci in
    let e : next b.outside ≡ least = b.first in
    let k : length (loci_from least s.context.constants) ≡ length b.loci = count_there g least s b in
    omega (arith, a, n, e, k)

-- what is usable there, under the loci

formula_so : (least : ℕ) (c : Context) (k : ℕ) (s : Statement) → next c ≡ least + k → statement_known (is_usable least c) 0 s ≡ true → statement_under k (statement_over_loci least k s) ≡ true
formula_so least c k s e h = statement_under_loci least (next c) k s e (statement_known-where (is_usable least c) (between least (next c)) (λ m u. u) 0 s h)

over-equation : (least k : ℕ) (t u : Term) → statement_over_loci least k (Eq t u) ≡ Eq (term_over_loci least k t) (term_over_loci least k u)
over-equation least zero t u = refl
over-equation least (suc k) t u = ap (statement_over (least + k) 0) (over-equation least k t u)

both_so : (least : ℕ) (c : Context) (k : ℕ) (t u : Term) → next c ≡ least + k → term_known (is_usable least c) 0 t ≡ true → term_known (is_usable least c) 0 u ≡ true → (term_under k (term_over_loci least k t) ≡ true) × (term_under k (term_over_loci least k u) ≡ true)
both_so least c k t u e h j =
    let both : statement_known (is_usable least c) 0 (Eq t u) ≡ true = and_from (term_known (is_usable least c) 0 t) (term_known (is_usable least c) 0 u) h j in
    let under : statement_under k (Eq (term_over_loci least k t) (term_over_loci least k u)) ≡ true = subst (λ s. statement_under k s ≡ true) (over-equation least k t u) (formula_so least c k (Eq t u) e both) in
    and_parts (term_under k (term_over_loci least k t)) (term_under k (term_over_loci least k u)) under

term_so : (least : ℕ) (c : Context) (k : ℕ) (t : Term) → next c ≡ least + k → term_known (is_usable least c) 0 t ≡ true → term_under k (term_over_loci least k t) ≡ true
term_so least c k t e h = (both_so least c k t t e h h).0

terms_so : (least : ℕ) (c : Context) (k : ℕ) → next c ≡ least + k → (ts : List Term) → list_all (term_known (is_usable least c) 0) ts ≡ true → list_all (term_under k) (map (term_over_loci least k) ts) ≡ true
terms_so least c k e [] h = refl
terms_so least c k e (t ∷ ts) h =
    let both : (term_known (is_usable least c) 0 t ≡ true) × (list_all (term_known (is_usable least c) 0) ts ≡ true) = and_parts (term_known (is_usable least c) 0 t) (list_all (term_known (is_usable least c) 0) ts) h in
    and_from (term_under k (term_over_loci least k t)) (list_all (term_under k) (map (term_over_loci least k) ts)) (term_so least c k t e both.0) (terms_so least c k e ts both.1)

literal_so : (least : ℕ) (c : Context) (k : ℕ) (l : Literal) → next c ≡ least + k → literal_known (is_usable least c) 0 l ≡ true → literal_under k (literal_over_loci least k l) ≡ true
literal_so least c k (literal.Atom positive s ts) e h = terms_so least c k e ts h
literal_so least c k (literal.Eq positive t u) e h =
    let both : (term_known (is_usable least c) 0 t ≡ true) × (term_known (is_usable least c) 0 u ≡ true) = and_parts (term_known (is_usable least c) 0 t) (term_known (is_usable least c) 0 u) h in
    let there : (term_under k (term_over_loci least k t) ≡ true) × (term_under k (term_over_loci least k u) ≡ true) = both_so least c k t u e both.0 both.1 in
    and_from (term_under k (term_over_loci least k t)) (term_under k (term_over_loci least k u)) there.0 there.1

meaning_so : (least : ℕ) (c : Context) (k : ℕ) (m : Meaning) → next c ≡ least + k → meaning_known (is_usable least c) 0 m ≡ true → meaning_under k (meaning_over_loci least k m) ≡ true
meaning_so least c k (OfTerm t) e h = term_so least c k t e h
meaning_so least c k (OfLiteral l) e h = literal_so least c k l e h
meaning_so least c k (OfType ty) e h = type_under_loci least (next c) k ty e (type_known-where (is_usable least c) (between least (next c)) (λ m u. u) 0 ty h)

-- the opposite

literal_known_opposite : (known : ℕ → Bool) (l : Literal) → literal_known known 0 l ≡ true → literal_known known 0 (literal_of true l) ≡ true
literal_known_opposite known (literal.Atom positive s ts) h = h
literal_known_opposite known (literal.Eq positive t u) h = h

opposite_known : (known : ℕ → Bool) (m : Meaning) → meaning_known known 0 m ≡ true → meaning_known known 0 (opposite_of m) ≡ true
opposite_known known (OfTerm t) h = h
opposite_known known (OfLiteral l) h = literal_known_opposite known l h
opposite_known known (OfType ty) h = h

signed_known : (known : ℕ → Bool) (w : NotationWord) (m : Meaning) → meaning_known known 0 m ≡ true → meaning_known known 0 (signed_by w m) ≡ true
signed_known known Synonym m h = h
signed_known known Antonym m h = opposite_known known m h

-- what a pattern of a kind reads to fits it, also under loci

over_fits : (least k : ℕ) (j : Kind) (m : Meaning) → meaning_fits j (meaning_over_loci least k m) ≡ meaning_fits j m
over_fits least k kind.Mode (OfTerm t) = refl
over_fits least k kind.Mode (OfLiteral l) = refl
over_fits least k kind.Mode (OfType ty) = refl
over_fits least k kind.Structure (OfTerm t) = refl
over_fits least k kind.Structure (OfLiteral l) = refl
over_fits least k kind.Structure (OfType ty) = refl
over_fits least k kind.Attribute (OfTerm t) = refl
over_fits least k kind.Attribute (OfLiteral l) = refl
over_fits least k kind.Attribute (OfType ty) = refl
over_fits least k kind.Functor (OfTerm t) = refl
over_fits least k kind.Functor (OfLiteral l) = refl
over_fits least k kind.Functor (OfType ty) = refl
over_fits least k kind.Selector (OfTerm t) = refl
over_fits least k kind.Selector (OfLiteral l) = refl
over_fits least k kind.Selector (OfType ty) = refl
over_fits least k kind.Aggregate (OfTerm t) = refl
over_fits least k kind.Aggregate (OfLiteral l) = refl
over_fits least k kind.Aggregate (OfType ty) = refl
over_fits least k kind.Predicate (OfTerm t) = refl
over_fits least k kind.Predicate (OfLiteral l) = refl
over_fits least k kind.Predicate (OfType ty) = refl
over_fits least k kind.LetterFunctor m = refl
over_fits least k kind.LetterPredicate m = refl

opposite_fits : (j : Kind) (m : Meaning) → meaning_fits j (opposite_of m) ≡ meaning_fits j m
opposite_fits kind.Mode (OfTerm t) = refl
opposite_fits kind.Mode (OfLiteral l) = refl
opposite_fits kind.Mode (OfType ty) = refl
opposite_fits kind.Structure (OfTerm t) = refl
opposite_fits kind.Structure (OfLiteral l) = refl
opposite_fits kind.Structure (OfType ty) = refl
opposite_fits kind.Attribute (OfTerm t) = refl
opposite_fits kind.Attribute (OfLiteral l) = refl
opposite_fits kind.Attribute (OfType ty) = refl
opposite_fits kind.Functor (OfTerm t) = refl
opposite_fits kind.Functor (OfLiteral l) = refl
opposite_fits kind.Functor (OfType ty) = refl
opposite_fits kind.Selector (OfTerm t) = refl
opposite_fits kind.Selector (OfLiteral l) = refl
opposite_fits kind.Selector (OfType ty) = refl
opposite_fits kind.Aggregate (OfTerm t) = refl
opposite_fits kind.Aggregate (OfLiteral l) = refl
opposite_fits kind.Aggregate (OfType ty) = refl
opposite_fits kind.Predicate (OfTerm t) = refl
opposite_fits kind.Predicate (OfLiteral l) = refl
opposite_fits kind.Predicate (OfType ty) = refl
opposite_fits kind.LetterFunctor m = refl
opposite_fits kind.LetterPredicate m = refl

signed_fits : (j : Kind) (w : NotationWord) (m : Meaning) → meaning_fits j (signed_by w m) ≡ meaning_fits j m
signed_fits j Synonym m = refl
signed_fits j Antonym m = opposite_fits j m

abbrev IsKnownAndFits : (ℕ → Bool) → Kind → Result Meaning Refusal → Type 0
IsKnownAndFits known j (Ok m) = (meaning_known known 0 m ≡ true) × (meaning_fits j m ≡ true)
IsKnownAndFits known j (Err r) = Unit {0}

kept_so : (known : ℕ → Bool) (j : Kind) (first : Place) (m : Meaning) (b : Bool) → meaning_known known 0 m ≡ true → meaning_fits j m ≡ true → IsKnownAndFits known j (if b then Ok m else Err (TooLarge first))
kept_so known j first m true h f = (h, f)
kept_so known j first m false h f = tt

fits_so : (known : ℕ → Bool) (j : Kind) (place first : Place) (m : Meaning) (b : Bool) → meaning_fits j m ≡ b → meaning_known known 0 m ≡ true → IsKnownAndFits known j (if b then kept_meaning first m else Err (UnfitArgument place))
fits_so known j place first m true e h = kept_so known j first m (meaning_keeps m) h e
fits_so known j place first m false e h = tt

-- two tests as one, for the law on what is read
abbrev known_and_fits : (ℕ → Bool) → Kind → Meaning → Bool
known_and_fits known j m = meaning_known known 0 m && meaning_fits j m

as_test : (known : ℕ → Bool) (j : Kind) (o : Result Meaning Refusal) → IsKnownAndFits known j o → on_ok (known_and_fits known j) o ≡ true
as_test known j (Ok m) h = and_from (meaning_known known 0 m) (meaning_fits j m) h.0 h.1
as_test known j (Err r) h = refl

-- the loci are usable

usable_at : (least : ℕ) (c : Context) (k : ℕ) → next c ≡ least + k → (ns : List ℕ) → list_all (is_locus k) ns ≡ true → list_all (term_known (is_usable least c) 0) (map (locus_at least) ns) ≡ true
usable_at least c k e [] h = refl
usable_at least c k e (n ∷ ns) h =
    let both : (is_locus k n ≡ true) × (list_all (is_locus k) ns ≡ true) = and_parts (is_locus k n) (list_all (is_locus k) ns) h in
    let lt : n < k = ltb-true n k both.0 in
    let le : least ≤ least + n = omega arith in
    let below : least + n < next c = omega (arith, lt, e) in
    and_from (is_usable least c (least + n)) (list_all (term_known (is_usable least c) 0) (map (locus_at least) ns))
    (and_from (nat_le least (least + n)) (nat_lt (least + n) (next c)) (le-leb least (least + n) le) (lt-ltb (least + n) (next c) below)) (usable_at least c k e ns both.1)

map-append : (least : ℕ) (ns ms : List ℕ) → map (locus_at least) (ns ++ ms) ≡ map (locus_at least) ns ++ map (locus_at least) ms
map-append least [] ms = refl
map-append least (n ∷ ns) ms = ap (λ ts. locus_at least n ∷ ts) (map-append least ns ms)

-- what the old pattern reads to
old_so : (g : Setting) (least : ℕ) (s : Standing) (q : PatternTree) (u : Visible) (m : Meaning) → StandsInBlock g least s → old_loci (loci_from least s.context.constants) q ≡ Some u → PatternReads s.environment s.context least q u (Ok m) →
    (meaning_known (is_usable least s.context) 0 m ≡ true) × (meaning_fits (kind_of q) m ≡ true)
old_so g least s q u m b eu reads =
    let c : Context = s.context in
    let e : Environment = s.environment in
    let ks : List (Option Constant) = loci_from least c.constants in
    let known : ℕ → Bool = is_usable least c in
    let n : next c ≡ least + length ks = next_there g least s b in
    let loci : list_all (is_locus (length ks)) (u.left ++ u.right) ≡ true = sides_named ks (names_before q) (names_behind q) u eu in
    let args : list_all (term_known known 0) (map (locus_at least) u.left ++ map (locus_at least) u.right) ≡ true = subst (λ ts. list_all (term_known known 0) ts ≡ true) (map-append least u.left u.right) (usable_at least c (length ks) n (u.left ++ u.right) loci) in
    let test : on_ok (known_and_fits known (kind_of q)) (Ok m) ≡ true =
    on_reads_as (known_and_fits known (kind_of q)) e c Anything (symbol_place q) (as_pattern (kind_of q) (symbol_place q) (first_of q)) (applied_to least q u)
    (λ x h. as_test known (kind_of q) (as_pattern (kind_of q) (symbol_place q) (first_of q) x)
    (fits_so known (kind_of q) (symbol_place q) (first_of q) x (meaning_fits (kind_of q) x) refl
    (known_meaning_law known (typing e c) e c (closed_there g least s b) (known_types least c (whole_there g least s b)) Anything (applied_to least q u) x args h))) (Ok m) reads in
    and_parts (meaning_known known 0 m) (meaning_fits (kind_of q) m) test

-- patterns

length-types : (least before : ℕ) (ks : List (Option Constant)) → length (types_behind least before ks) ≡ length ks
length-types least before [] = refl
length-types least before (k ∷ ks) = ap suc (length-types least (suc before) ks)

single : (ns : List ℕ) (n : ℕ) → ns ≡ n ∷ [] → is_single ns ≡ true
single ns n e = ap is_single e

right_so : (least : ℕ) (ks : List (Option Constant)) (p : PatternTree) (v : Visible) → new_loci least ks p ≡ Some v → right_fits (kind_of p) v.right ≡ true
right_so least ks (Functor t) v e = refl
right_so least ks (Predicate t) v e = refl
right_so least ks (Attribute t) v e = let alone = one_behind least ks (identifiers_beside t.loci) (identifier t.subject) v e in single v.right alone.0 alone.1
right_so least ks (Mode t) v e = refl

pattern_so : (g : Setting) (least : ℕ) (s : Standing) (t : PatternTree) (v : Visible) → StandsInBlock g least s → new_loci least (loci_from least s.context.constants) t ≡ Some v →
    pattern_closed (closed_pattern (kind_of t) (symbol_of t) (closing_of t) (locus_types least (loci_from least s.context.constants)) v) ≡ true
pattern_so g least s t v b e =
    let ks : List (Option Constant) = loci_from least s.context.constants in
    let good : AreGood (length ks) v = visible_good least ks (names_before t) (names_behind t) v e in
    let p : Pattern = closed_pattern (kind_of t) (symbol_of t) (closing_of t) (locus_types least ks) v in
    and_from (loci_closed p.loci && list_all (is_locus (length p.loci)) (p.left ++ p.right) && are_distinct (p.left ++ p.right)) (right_fits (kind_of t) v.right)
    (and_from (loci_closed p.loci && list_all (is_locus (length p.loci)) (p.left ++ p.right)) (are_distinct (p.left ++ p.right))
    (and_from (loci_closed p.loci) (list_all (is_locus (length p.loci)) (p.left ++ p.right)) (types_law g least s b)
    (subst (λ n. list_all (is_locus n) (v.left ++ v.right) ≡ true) (sym (length-types least 0 ks)) good.loci)) good.distinct) (right_so least ks t v e)

-- the notation

notation_owes : (x : Notation) → owes (item.Notation x) ≡ []
unfolding owes
notation_owes x = refl

none_there : (ax : List Formula) (qs : List Sequent) → qs ≡ [] → (q : Sequent) → Contains qs q → Derives ax q.premises q.conclusion
none_there ax [] e q is = let lt : is.0 < 0 = is.1 in absurd (omega arith)
none_there ax (p ∷ ps) e q is = let wrong : ⊥ = cc in absurd wrong

pub notation_owed : (g : Setting) (least : ℕ) (s : Standing) (w : NotationWord) (p q : PatternTree) (v u : Visible) (m : Meaning) (ax : List Formula) → StandsInBlock g least s → new_loci least (loci_from least s.context.constants) p ≡ Some v →
    old_loci (loci_from least s.context.constants) q ≡ Some u → kind_of p ≡ kind_of q → PatternReads s.environment s.context least q u (Ok m) → IsOwed ax (notation_of least s.context w p v m)
notation_owed g least s w p q v u m ax b ev eu same reads =
    let c : Context = s.context in
    let ks : List (Option Constant) = loci_from least c.constants in
    let k : ℕ = length ks in
    let loci : List SoftType = locus_types least ks in
    let there : (meaning_known (is_usable least c) 0 m ≡ true) × (meaning_fits (kind_of q) m ≡ true) = old_so g least s q u m b eu reads in
    let n : Meaning = meaning_over_loci least k (signed_by w m) in
    let pattern : Pattern = closed_pattern (kind_of p) (symbol_of p) (closing_of p) loci v in
    let long : length loci ≡ k = length-types least 0 ks in
    let under : meaning_under k n ≡ true = meaning_so least c k (signed_by w m) (next_there g least s b) (signed_known (is_usable least c) w m there.0) in
    let fits : meaning_fits (kind_of p) n ≡ true = over_fits least k (kind_of p) (signed_by w m) ∙ (signed_fits (kind_of p) w m ∙ (ap (λ j. meaning_fits j m) same ∙ there.1)) in
    record {
      closed =
          and_from (pattern_closed pattern && meaning_under (length loci) n) (meaning_fits (kind_of p) n)
          (and_from (pattern_closed pattern) (meaning_under (length loci) n) (pattern_so g least s p v b ev) (subst (λ j. meaning_under j n ≡ true) (sym long) under)) fits;
      own = refl;
      owed = none_there ax (owes (notation_of least c w p v m)) (notation_owes (record { pattern = pattern; meaning = n }));
    }
