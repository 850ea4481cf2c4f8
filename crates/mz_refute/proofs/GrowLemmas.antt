-- The entries of a table that grows.
use Rattle.std.proofs.Common.{◌≡◌, ◌<◌, ◌+◌, ℕ, zero, suc, List, [], ◌∷◌, ◌++◌, map, take, length, refl, arith, ap, sym, ◌∙◌, inl, inr, subst, Bool, true, false, append-nil, append_assoc, length-append}
use Rattle.std.specs.Prelude.{slice_get, slice_index, slice_index_or, Option, None, Some, if◌then◌else◌}
use Rattle.std.proofs.lemmas.List.{map-append}
use Rattle.mz_ground.specs.declared.ground_term.GroundTerm.{GroundTerm}
use Rattle.mz_ground.specs.declared.ground_atom.GroundAtom.{GroundAtom}
use Rattle.mz_ground.specs.declared.ground_equation.GroundEquation.{GroundEquation}
use Rattle.mz_refute.proofs.ListLaws.{index_get}
use Rattle.mz_refute.proofs.RowLists.{same_lists, members-append, members-repeated}
use Rattle.mz_match.proofs.SomeLemmas.{some_map, into_map}
use Rattle.mz_match.specs.Rows.{SomeOf}
use Rattle.mz_match.specs.Heads.{same_head}
use Rattle.mz_match.specs.Table.{rows_of, count_of, rows_at, rows_in, count_in, IsAdded, IsAddedWhere, Grows}
use Rattle.mz_match.specs.declared.rows.Rows.{Rows}
use Rattle.mz_refute.specs.Entries.{Entry, HaveSameMembers, AreRows, Grown, HasEntries, term_entry, term_entries, sign_entry, atom_entries, equation_entries, rows_for, row_pair}
use Rattle.mz_match.specs.declared.row.Head.{Head}
use Rattle.mz_match.specs.declared.row.Head.TheVariants.{Holds, Fails, Disequal}
use Rattle.mz_match.specs.declared.row.Row.{Row}
use Rattle.mz_match.specs.declared.table.Table.{Table}

front : (b : Bool) (p : List ℕ × ℕ) (all xs ys : List (List ℕ × ℕ)) → all ≡ xs ++ ys → (if b then p ∷ all else all) ≡ (if b then p ∷ xs else xs) ++ ys
front true p all xs ys e = ap (λ zs. p ∷ zs) e
front false p all xs ys e = e

rows_for-append : (h : Head) (ds es : List Entry) → rows_for h (ds ++ es) ≡ rows_for h ds ++ rows_for h es
rows_for-append h [] es = refl
rows_for-append h (d ∷ ds) es = front (same_head d.head h) (d.args, d.value) (rows_for h (ds ++ es)) (rows_for h ds) (rows_for h es) (rows_for-append h ds es)

-- rows that are added
same_pair : (r : Row) (rs : List Row) → SomeOf (λ x. (x.args.items ≡ r.args.items) × (x.value ≡ r.value)) rs → SomeOf (λ p. p ≡ row_pair r) (map row_pair rs)
same_pair r rs k = into_map (λ p. p ≡ row_pair r) row_pair rs (some_map (λ x. (x.args.items ≡ r.args.items) × (x.value ≡ r.value)) (λ x. row_pair x ≡ row_pair r) rs (λ x c i. (c.0 i, c.1 i)) k)

added_members : (r : Row) (old new : Option Rows) (ps : List (List ℕ × ℕ)) → IsAdded r old new → HaveSameMembers (map row_pair (rows_in old)) ps → HaveSameMembers (map row_pair (rows_in new)) (ps ++ row_pair r ∷ [])
added_members r old new ps a k =
    elim a.rows [
      | inl e ↦
          let q : map row_pair (rows_in new) ≡ map row_pair (rows_in old) ++ row_pair r ∷ [] = ap (map row_pair) e ∙ map-append row_pair (rows_in old) (r ∷ []) in
          subst (λ (xs : List (List ℕ × ℕ)). HaveSameMembers xs (ps ++ row_pair r ∷ [])) (sym q) (members-append (map row_pair (rows_in old)) ps (row_pair r ∷ []) k)
      | inr e ↦ subst (λ (rs : List Row). HaveSameMembers (map row_pair rs) (ps ++ row_pair r ∷ [])) (sym e.0) (members-repeated (map row_pair (rows_in old)) ps (row_pair r) k (same_pair r (rows_in old) e.1))
    ]

added_rows : (b : Bool) (r : Row) (old new : Option Rows) (ps : List (List ℕ × ℕ)) → IsAddedWhere b r old new → AreRows (rows_in old) (count_in old) ps → AreRows (rows_in new) (count_in new) (ps ++ (if b then row_pair r ∷ [] else []))
added_rows true r old new ps a k =
    let n : length (ps ++ row_pair r ∷ []) ≡ length ps + 1 = length-append ps (row_pair r ∷ []) in
    record { members = added_members r old new ps a k.members; number = a.count ∙ ap (λ m. m + 1) k.number ∙ sym n }
added_rows false r old new ps a k =
    subst (λ (o : Option Rows). AreRows (rows_in o) (count_in o) (ps ++ [])) (sym a) (subst (λ (qs : List (List ℕ × ℕ)). AreRows (rows_in old) (count_in old) qs) (sym (append-nil ps)) k)

one_entry : (h : Head) (r : Row) (table next : Table) → Grows h r table next → Grown table next (record { head = h; args = r.args.items; value = r.value } ∷ [])
unfolding Grows Grown HasEntries
one_entry h r table next g ds k q =
    let e : Entry = record { head = h; args = r.args.items; value = r.value } in
    subst (λ (ys : List (List ℕ × ℕ)). AreRows (rows_of next q) (count_of next q) ys) (sym (rows_for-append q ds (e ∷ [])))
    (added_rows (same_head h q) r (rows_at table q) (rows_at next q) (rows_for q ds) (g q) (k q))

pub told_as : (table next : Table) (e : Entry) (h : Head) (args : List ℕ) (value : ℕ) → Grown table next (record { head = h; args = args; value = value } ∷ []) → e.head ≡ h → e.args ≡ args → e.value ≡ value → Grown table next (e ∷ [])
told_as table next e h args value g a b c = subst (λ (x : Entry). Grown table next (x ∷ [])) (λ i. record { head = sym a i; args = sym b i; value = sym c i }) g

pub told_entry : (h : Head) (r : Row) (table next : Table) (e : Entry) → Grows h r table next → e.head ≡ h → e.args ≡ r.args.items → e.value ≡ r.value → Grown table next (e ∷ [])
told_entry h r table next e g a b c =
    subst (λ (x : Entry). Grown table next (x ∷ [])) (λ i. record { head = sym a i; args = sym b i; value = sym c i }) (one_entry h r table next g)

pub grown_none : (table : Table) → Grown table table []
unfolding Grown
grown_none table ds k = subst (λ (es : List Entry). HasEntries table es) (sym (append-nil ds)) k

pub grown_both : (first second third : Table) (xs ys : List Entry) → Grown first second xs → Grown second third ys → Grown first third (xs ++ ys)
unfolding Grown
grown_both first second third xs ys a b ds k = subst (λ (es : List Entry). HasEntries third es) (append_assoc ds xs ys) (b (ds ++ xs) (a ds k))

pub told_nothing : (table next : Table) → next ≡ table → Grown table next []
told_nothing table next e = subst (λ (t : Table). Grown table t []) (sym e) (grown_none table)

pub ruleset grow_rules = (told_entry, told_as, told_nothing, grown_both)

sum-add_one : (i : ℕ) → i + 1 ≡ suc i
sum-add_one i = omega arith

terms_suc : (classes vs : List ℕ) (ts : List GroundTerm) (i : ℕ) (t : GroundTerm) (v : ℕ) → slice_get ts i ≡ Some t → slice_get vs i ≡ Some v → term_entries classes (take (suc i) vs) (take (suc i) ts) ≡ term_entries classes (take i vs) (take i ts) ++ term_entry classes v t ∷ []
terms_suc classes [] ts i t v a b = cc
terms_suc classes (w ∷ vs) [] i t v a b = cc
terms_suc classes (w ∷ vs) (u ∷ ts) zero t v a b =
    let p : u ≡ t = cc in
    let q : w ≡ v = cc in
    λ j. term_entry classes (q j) (p j) ∷ []
terms_suc classes (w ∷ vs) (u ∷ ts) (suc i) t v a b = ap (λ es. term_entry classes w u ∷ es) (terms_suc classes vs ts i t v a b)

-- the entries of one more
pub terms_more : (classes vs : List ℕ) (ts : List GroundTerm) (i : ℕ) (t : GroundTerm) (v : ℕ) → slice_get ts i ≡ Some t → slice_get vs i ≡ Some v → term_entries classes (take (i + 1) vs) (take (i + 1) ts) ≡ term_entries classes (take i vs) (take i ts) ++ term_entry classes v t ∷ []
terms_more classes vs ts i t v a b = ap (λ n. term_entries classes (take n vs) (take n ts)) (sum-add_one i) ∙ terms_suc classes vs ts i t v a b

atoms_suc : (classes : List ℕ) (ps ns : List Bool) (os : List GroundAtom) (i : ℕ) (p n : Bool) (a : GroundAtom) → slice_get ps i ≡ Some p → slice_get ns i ≡ Some n → slice_get os i ≡ Some a → atom_entries classes (take (suc i) ps) (take (suc i) ns) (take (suc i) os) ≡ atom_entries classes (take i ps) (take i ns) (take i os) ++ (sign_entry p (Holds a.sym) (map (slice_index classes) a.args) ++ sign_entry n (Fails a.sym) (map (slice_index classes) a.args))
atoms_suc classes [] ns os i p n a x y z = cc
atoms_suc classes (q ∷ ps) [] os i p n a x y z = cc
atoms_suc classes (q ∷ ps) (m ∷ ns) [] i p n a x y z = cc
atoms_suc classes (q ∷ ps) (m ∷ ns) (b ∷ os) zero p n a x y z =
    let k : q ≡ p = cc in
    let l : m ≡ n = cc in
    let o : b ≡ a = cc in
    let e : (sign_entry q (Holds b.sym) (map (slice_index classes) b.args) ++ sign_entry m (Fails b.sym) (map (slice_index classes) b.args)) ≡ (sign_entry p (Holds a.sym) (map (slice_index classes) a.args) ++ sign_entry n (Fails a.sym) (map (slice_index classes) a.args)) =
    λ j. sign_entry (k j) (Holds (o j).sym) (map (slice_index classes) (o j).args) ++ sign_entry (l j) (Fails (o j).sym) (map (slice_index classes) (o j).args) in
    append-nil (sign_entry q (Holds b.sym) (map (slice_index classes) b.args) ++ sign_entry m (Fails b.sym) (map (slice_index classes) b.args)) ∙ e
atoms_suc classes (q ∷ ps) (m ∷ ns) (b ∷ os) (suc i) p n a x y z =
    let front : List Entry = sign_entry q (Holds b.sym) (map (slice_index classes) b.args) ++ sign_entry m (Fails b.sym) (map (slice_index classes) b.args) in
    ap (λ es. front ++ es) (atoms_suc classes ps ns os i p n a x y z)
    ∙ sym (append_assoc front (atom_entries classes (take i ps) (take i ns) (take i os)) (sign_entry p (Holds a.sym) (map (slice_index classes) a.args) ++ sign_entry n (Fails a.sym) (map (slice_index classes) a.args)))

equations_suc : (classes : List ℕ) (bs : List Bool) (es : List GroundEquation) (i : ℕ) (b : Bool) (e : GroundEquation) → slice_get bs i ≡ Some b → slice_get es i ≡ Some e → equation_entries classes (take (suc i) bs) (take (suc i) es) ≡ equation_entries classes (take i bs) (take i es) ++ sign_entry b Disequal (slice_index classes e.left ∷ slice_index classes e.right ∷ [])
equations_suc classes [] es i b e x y = cc
equations_suc classes (c ∷ bs) [] i b e x y = cc
equations_suc classes (c ∷ bs) (d ∷ es) zero b e x y =
    let k : c ≡ b = cc in
    let o : d ≡ e = cc in
    append-nil (sign_entry c Disequal (slice_index classes d.left ∷ slice_index classes d.right ∷ []))
    ∙ (λ j. sign_entry (k j) Disequal (slice_index classes (o j).left ∷ slice_index classes (o j).right ∷ []))
equations_suc classes (c ∷ bs) (d ∷ es) (suc i) b e x y =
    let front : List Entry = sign_entry c Disequal (slice_index classes d.left ∷ slice_index classes d.right ∷ []) in
    ap (λ xs. front ++ xs) (equations_suc classes bs es i b e x y)
    ∙ sym (append_assoc front (equation_entries classes (take i bs) (take i es)) (sign_entry b Disequal (slice_index classes e.left ∷ slice_index classes e.right ∷ [])))

pub get_by_or : {X : Type 0} (xs : List X) (i : ℕ) (x : X) → i < length xs → x ≡ slice_index_or xs i x → slice_get xs i ≡ Some x
get_by_or [] i x lt e = absurd (omega arith)
get_by_or (y ∷ xs) zero x lt e = ap (λ z. Some z) (sym e)
get_by_or (y ∷ xs) (suc i) x lt e = get_by_or xs i x (omega arith) e

-- one turn of a loop
pub terms_turn : (first table next : Table) (classes : List ℕ) (ts : List GroundTerm) (i : ℕ) (t : GroundTerm) (v : ℕ) → Grown first table (term_entries classes (take i classes) (take i ts)) → Grown table next (term_entry classes v t ∷ []) → slice_get ts i ≡ Some t → slice_get classes i ≡ Some v → Grown first next (term_entries classes (take (i + 1) classes) (take (i + 1) ts))
terms_turn first table next classes ts i t v a b c d =
    subst (λ (es : List Entry). Grown first next es) (sym (terms_more classes classes ts i t v c d)) (grown_both first table next (term_entries classes (take i classes) (take i ts)) (term_entry classes v t ∷ []) a b)

pub atoms_turn : (first table next : Table) (classes : List ℕ) (ps ns : List Bool) (os : List GroundAtom) (i : ℕ) (p n : Bool) (a : GroundAtom) → Grown first table (atom_entries classes (take i ps) (take i ns) (take i os)) → Grown table next (sign_entry p (Holds a.sym) (map (slice_index classes) a.args) ++ sign_entry n (Fails a.sym) (map (slice_index classes) a.args)) → slice_get ps i ≡ Some p → slice_get ns i ≡ Some n → slice_get os i ≡ Some a → Grown first next (atom_entries classes (take (i + 1) ps) (take (i + 1) ns) (take (i + 1) os))
atoms_turn first table next classes ps ns os i p n a x y u v w =
    subst (λ (es : List Entry). Grown first next es) (sym (ap (λ k. atom_entries classes (take k ps) (take k ns) (take k os)) (sum-add_one i) ∙ atoms_suc classes ps ns os i p n a u v w))
    (grown_both first table next (atom_entries classes (take i ps) (take i ns) (take i os)) (sign_entry p (Holds a.sym) (map (slice_index classes) a.args) ++ sign_entry n (Fails a.sym) (map (slice_index classes) a.args)) x y)

pub equations_turn : (first table next : Table) (classes : List ℕ) (bs : List Bool) (es : List GroundEquation) (i : ℕ) (b : Bool) (e : GroundEquation) → Grown first table (equation_entries classes (take i bs) (take i es)) → Grown table next (sign_entry b Disequal (slice_index classes e.left ∷ slice_index classes e.right ∷ [])) → slice_get bs i ≡ Some b → slice_get es i ≡ Some e → Grown first next (equation_entries classes (take (i + 1) bs) (take (i + 1) es))
equations_turn first table next classes bs es i b e x y u v =
    subst (λ (xs : List Entry). Grown first next xs) (sym (ap (λ k. equation_entries classes (take k bs) (take k es)) (sum-add_one i) ∙ equations_suc classes bs es i b e u v))
    (grown_both first table next (equation_entries classes (take i bs) (take i es)) (sign_entry b Disequal (slice_index classes e.left ∷ slice_index classes e.right ∷ [])) x y)

pub told_terms : (first table next : Table) (classes : List ℕ) (ts : List GroundTerm) (i : ℕ) (t : GroundTerm) (v : ℕ) → Grown first table (term_entries classes (take i classes) (take i ts)) → Grown table next (term_entry classes v t ∷ []) → slice_get ts i ≡ Some t → v ≡ slice_index classes i → i < length classes → Grown first next (term_entries classes (take (i + 1) classes) (take (i + 1) ts))
told_terms first table next classes ts i t v a b c d lt = terms_turn first table next classes ts i t v a b c (index_get classes i lt ∙ ap (λ x. Some x) (sym d))

pub told_atoms : (first table next : Table) (classes : List ℕ) (ps ns : List Bool) (os : List GroundAtom) (i : ℕ) (p n : Bool) (a : GroundAtom) → Grown first table (atom_entries classes (take i ps) (take i ns) (take i os)) → Grown table next (sign_entry p (Holds a.sym) (map (slice_index classes) a.args) ++ sign_entry n (Fails a.sym) (map (slice_index classes) a.args)) → slice_get os i ≡ Some a → i < length ps → p ≡ slice_index_or ps i p → i < length ns → n ≡ slice_index_or ns i n → Grown first next (atom_entries classes (take (i + 1) ps) (take (i + 1) ns) (take (i + 1) os))
told_atoms first table next classes ps ns os i p n a x y z l e m k = atoms_turn first table next classes ps ns os i p n a x y (get_by_or ps i p l e) (get_by_or ns i n m k) z

pub told_equations : (first table next : Table) (classes : List ℕ) (bs : List Bool) (es : List GroundEquation) (i : ℕ) (b : Bool) (e : GroundEquation) → Grown first table (equation_entries classes (take i bs) (take i es)) → Grown table next (sign_entry b Disequal (slice_index classes e.left ∷ slice_index classes e.right ∷ [])) → slice_get es i ≡ Some e → i < length bs → b ≡ slice_index_or bs i b → Grown first next (equation_entries classes (take (i + 1) bs) (take (i + 1) es))
told_equations first table next classes bs es i b e x y z l k = equations_turn first table next classes bs es i b e x y (get_by_or bs i b l k) z

pub ruleset turn_rules = (told_nothing, told_terms, told_atoms, told_equations)

pub told_no_rows : (table : Table) → ((h : Head) → rows_at table h ≡ None) → HasEntries table []
unfolding HasEntries
told_no_rows table e h =
    let o : Option Rows = rows_at table h in
    record { members = same_lists (map row_pair (rows_in o)) [] (ap (λ x. map row_pair (rows_in x)) (e h)); number = ap count_in (e h) }

pub ruleset empty_rules = (told_no_rows)

-- a whole table
pub told_table : (first second third last : Table) (xs ys zs : List Entry) → HasEntries first [] → Grown first second xs → Grown second third ys → Grown third last zs → HasEntries last (xs ++ (ys ++ zs))
unfolding Grown
told_table first second third last xs ys zs h a b c = subst (λ (es : List Entry). HasEntries last es) (append_assoc xs ys zs) (c (xs ++ ys) (b xs (a [] h)))

pub ruleset whole_rules = (told_table)
