-- Ground terms are compared by the parts of their entries.
use Rattle.std.proofs.Common.{◌≡◌, ◌<◌, ◌≤◌, ℕ, zero, suc, List, [], ◌∷◌, map, length, refl, ap, sym, ◌∙◌, arith, get_or, inl, inr}
use Rattle.std.specs.Prelude.{Option, None, Some, slice_get, Contains}
use Rattle.std.specs.declared.cmp.Ordering.{Ordering}
use Rattle.std.specs.declared.cmp.Ordering.TheVariants.{Less, Equal, Greater}
use Rattle.std.specs.Ordering.{nat_cmp, ordering_then}
use Rattle.std.proofs.lemmas.Option.{slice_get_past, slice_get-get_or, slice_get_within, get_or_from_slice_get, none-some}
use Rattle.std.proofs.lemmas.Bool.{cases_lt}
use Rattle.mz_logic.specs.declared.sym.Sym.{Sym}
use Rattle.mz_logic.specs.Term as term
use Rattle.mz_logic.specs.Term.{Term, terms_of}
use Rattle.mz_logic.specs.Order.{sym_cmp, term_cmp, terms_cmp}
use Rattle.mz_logic.proofs.OrderLemmas.{term_cmp-App}
use Rattle.mz_ground.specs.Ground.{term_or_zero, term_at, term_of_entry}
use Rattle.mz_ground.specs.Growth.{IsNumbered}
use Rattle.mz_ground.specs.Table.{IsTable, entry_terms}
use Rattle.mz_ground.specs.declared.ground_atom.GroundAtom.{GroundAtom}
use Rattle.mz_ground.specs.declared.ground_term.GroundTerm.{GroundTerm}
use Rattle.mz_ground.specs.declared.ground_term.GroundTerm.TheVariants.{Const, App}
use Rattle.mz_ground.proofs.TableLemmas.{term_at-table_read, entry_terms-length}
use Rattle.mz_ground.specs.declared.ground_part.Ground.{Ground}
use Rattle.mz_numbering.specs.Numbering.{option_atom_cmp}
use Rattle.mz_numbering.specs.Entry.{symbol_in, constant_in, args_in}

-- the term of an entry by its parts
abbrev pub term_of_parts : List Term → Option Sym → List ℕ → ℕ → Term
term_of_parts ts None args number = term.Const number
term_of_parts ts (Some s) args number = term.App s (terms_of (map (term_at ts) args))

parts_of_entry : (ts : List Term) (e : GroundTerm) → term_of_entry ts e ≡ term_of_parts ts (symbol_in (Some e)) (args_in (Some e)) (constant_in (Some e))
parts_of_entry ts (Const number) = refl
parts_of_entry ts (App s args) = refl

past : (es : List GroundTerm) (p : ℕ) → slice_get es p ≡ None → length (entry_terms es) ≤ p
past es p e =
    elim (cases_lt p (length es)) [
      | inl lt ↦ absurd (none-some (get_or es p (Const 0)) (sym e ∙ slice_get-get_or es p (Const 0) lt))
      | inr ge ↦ omega (arith, ge, entry_terms-length es)
    ]

-- the term at a place by the parts of its entry
pub parts_at : (es : List GroundTerm) → IsTable es → (p : ℕ) → term_at (entry_terms es) p ≡ term_of_parts (entry_terms es) (symbol_in (slice_get es p)) (args_in (slice_get es p)) (constant_in (slice_get es p))
parts_at es t p =
    let here : (o : Option GroundTerm) → slice_get es p ≡ o → term_at (entry_terms es) p ≡ term_of_parts (entry_terms es) (symbol_in o) (args_in o) (constant_in o)
    = elim [
      | None ↦ λ e. ap term_or_zero (slice_get_past (entry_terms es) p (past es p e))
      | Some x ↦ λ e. term_at-table_read es t p x e ∙ parts_of_entry (entry_terms es) x
    ] in
    here (slice_get es p) refl

abbrev pub cmp_at : List GroundTerm → ℕ → ℕ → Ordering
cmp_at es p q = term_cmp (term_at (entry_terms es) p) (term_at (entry_terms es) q)

cmp_parts : (es : List GroundTerm) → IsTable es → (p q : ℕ) (m n : Option Sym) → m ≡ symbol_in (slice_get es p) → n ≡ symbol_in (slice_get es q) → cmp_at es p q ≡ term_cmp (term_of_parts (entry_terms es) m (args_in (slice_get es p)) (constant_in (slice_get es p))) (term_of_parts (entry_terms es) n (args_in (slice_get es q)) (constant_in (slice_get es q)))
cmp_parts es t p q m n em en =
    let a : term_at (entry_terms es) p ≡ term_of_parts (entry_terms es) m (args_in (slice_get es p)) (constant_in (slice_get es p)) = parts_at es t p ∙ ap (λ (o : Option Sym). term_of_parts (entry_terms es) o (args_in (slice_get es p)) (constant_in (slice_get es p))) (sym em) in
    let b : term_at (entry_terms es) q ≡ term_of_parts (entry_terms es) n (args_in (slice_get es q)) (constant_in (slice_get es q)) = parts_at es t q ∙ ap (λ (o : Option Sym). term_of_parts (entry_terms es) o (args_in (slice_get es q)) (constant_in (slice_get es q))) (sym en) in
    λ i. term_cmp (a i) (b i)

pub cmp_both : (es : List GroundTerm) → IsTable es → (p q : ℕ) (r s : Sym) (ps qs : List ℕ) (o : Ordering) → Some r ≡ symbol_in (slice_get es p) → Some s ≡ symbol_in (slice_get es q) → ps ≡ args_in (slice_get es p) → qs ≡ args_in (slice_get es q) → o ≡ terms_cmp (map (term_at (entry_terms es)) ps) (map (term_at (entry_terms es)) qs) → ordering_then (sym_cmp r s) o ≡ cmp_at es p q
cmp_both es t p q r s ps qs o er es' ep eq eo =
    let f : List ℕ → List Term = map (term_at (entry_terms es)) in
    ap (ordering_then (sym_cmp r s)) (eo ∙ (λ i. terms_cmp (f (ep i)) (f (eq i)))) ∙ sym (term_cmp-App r s (f (args_in (slice_get es p))) (f (args_in (slice_get es q)))) ∙ sym (cmp_parts es t p q (Some r) (Some s) er es')

pub cmp_first : (es : List GroundTerm) → IsTable es → (p q : ℕ) (r : Sym) → Some r ≡ symbol_in (slice_get es p) → None ≡ symbol_in (slice_get es q) → Greater ≡ cmp_at es p q
unfolding term_cmp
cmp_first es t p q r er en = sym (cmp_parts es t p q (Some r) None er en)

pub cmp_second : (es : List GroundTerm) → IsTable es → (p q : ℕ) (s : Sym) → None ≡ symbol_in (slice_get es p) → Some s ≡ symbol_in (slice_get es q) → Less ≡ cmp_at es p q
unfolding term_cmp
cmp_second es t p q s en er = sym (cmp_parts es t p q None (Some s) en er)

pub cmp_neither : (es : List GroundTerm) → IsTable es → (p q m n : ℕ) → None ≡ symbol_in (slice_get es p) → None ≡ symbol_in (slice_get es q) → m ≡ constant_in (slice_get es p) → n ≡ constant_in (slice_get es q) → nat_cmp m n ≡ cmp_at es p q
unfolding term_cmp
cmp_neither es t p q m n ep eq em en = (λ i. nat_cmp (em i) (en i)) ∙ sym (cmp_parts es t p q None None ep eq)

entry_before : (es : List GroundTerm) → IsTable es → (p k : ℕ) (x : GroundTerm) → slice_get es p ≡ Some x → Contains (args_in (Some x)) k → k < p
entry_before es t p k (Const number) e q = absurd (omega (arith, q.1))
entry_before es t p k (App s args) e q = t.earlier p k s args e q

-- the arguments stand before the term
pub args_before : (es : List GroundTerm) → IsTable es → (p k : ℕ) → Contains (args_in (slice_get es p)) k → k < p
args_before es t p k c =
    let here : (o : Option GroundTerm) → slice_get es p ≡ o → Contains (args_in o) k → k < p
    = elim [
      | None ↦ λ e q. absurd (omega (arith, q.1))
      | Some x ↦ entry_before es t p k x
    ] in
    here (slice_get es p) refl c

pub ruleset term_rules = (cmp_both, cmp_first, cmp_second, cmp_neither)

-- atoms
pub cmp_atoms : (g : Ground) (a b : GroundAtom) (o q : Option GroundAtom) (ps qs : List ℕ) (x : Ordering) → o ≡ Some a → q ≡ Some b → ps ≡ a.args → qs ≡ b.args → x ≡ terms_cmp (map (term_at (entry_terms g.terms)) ps) (map (term_at (entry_terms g.terms)) qs) → ordering_then (sym_cmp a.sym b.sym) x ≡ option_atom_cmp g o q
cmp_atoms g a b o q ps qs x eo eq ep er ex =
    let f : List ℕ → List Term = map (term_at (entry_terms g.terms)) in
    ap (ordering_then (sym_cmp a.sym b.sym)) (ex ∙ (λ i. terms_cmp (f (ep i)) (f (er i)))) ∙ sym (λ i. option_atom_cmp g (eo i) (eq i))

pub cmp_first_atom : (g : Ground) (a : GroundAtom) (o q : Option GroundAtom) → o ≡ Some a → q ≡ None → Greater ≡ option_atom_cmp g o q
cmp_first_atom g a o q eo eq = sym (λ i. option_atom_cmp g (eo i) (eq i))

pub cmp_second_atom : (g : Ground) (b : GroundAtom) (o q : Option GroundAtom) → o ≡ None → q ≡ Some b → Less ≡ option_atom_cmp g o q
cmp_second_atom g b o q eo eq = sym (λ i. option_atom_cmp g (eo i) (eq i))

pub cmp_no_atom : (g : Ground) (o q : Option GroundAtom) → o ≡ None → q ≡ None → Equal ≡ option_atom_cmp g o q
cmp_no_atom g o q eo eq = sym (λ i. option_atom_cmp g (eo i) (eq i))

pub atom_args_within : (g : Ground) → IsNumbered g → (p k : ℕ) (a : GroundAtom) → slice_get g.atoms p ≡ Some a → Contains a.args k → k < length g.terms
atom_args_within g n p k a at c = n.atoms_within a k (p, slice_get_within g.atoms p a at, get_or_from_slice_get g.atoms p a a at) c

-- a list of terms at places, at an index
pub get_or-map_places : (f : ℕ → Term) (ps : List ℕ) (i : ℕ) (d : Term) → i < length ps → f (get_or ps i 0) ≡ get_or (map f ps) i d
get_or-map_places f [] i d lt = absurd (omega (arith, lt))
get_or-map_places f (p ∷ ps) zero d lt = refl
get_or-map_places f (p ∷ ps) (suc i) d lt = get_or-map_places f ps i d (omega (arith, lt))

pub ruleset atom_rules = (cmp_atoms, cmp_first_atom, cmp_second_atom, cmp_no_atom)
