-- The terms at which a term is the term at a place.
use Rattle.std.proofs.Common.{◌≡◌, ◌<◌, ◌≤◌, ◌+◌, ◌*◌, ℕ, zero, suc, Bool, true, false, List, [], ◌∷◌, ◌++◌, length, map, take, get_or, refl, sym, ap, ◌∙◌, subst, arith, Option, Some, None}
use Rattle.std.specs.Prelude.{Contains, slice_get, ◌||◌}
use Rattle.std.specs.List.{list_any}
use Rattle.std.proofs.lemmas.List.{length-map, map_push, take_more}
use Rattle.std.proofs.lemmas.Option.{slice_get_within}
use Rattle.std.proofs.lemmas.Bool.{false≢true, eqb-true}
use Rattle.mz_logic.specs.declared.sym.Sym.{Sym}
use Rattle.mz_logic.specs.Term.{Term, Bound, Const, App, terms_of}
use Rattle.mz_logic.specs.TermStorage.{terms_of-inj, size_of, sizes_of}
use Rattle.mz_logic.specs.Substitution.{value_at, substitute}
use Rattle.mz_ground.specs.Variables.{has_index}
use Rattle.mz_ground.specs.Ground.{term_at, term_of_entry}
use Rattle.mz_ground.specs.Table.{entry_terms, IsTable}
use Rattle.mz_ground.specs.Matches.{IsValue, IsTermValue, AreTermsValue}
use Rattle.mz_ground.specs.declared.ground_term.GroundTerm.{GroundTerm}
use Rattle.mz_ground.specs.declared.ground_term.GroundTerm.TheVariants as entry
use Rattle.mz_ground.proofs.ListLemmas.{contains_get}
use Rattle.mz_ground.proofs.VariableLemmas.{args_have_index-terms_of}
use Rattle.mz_ground.proofs.TableLemmas.{term_at-table_read, entry_at, term_at-inj, entry_terms-length}
use Rattle.mz_logic.proofs.SubstitutionLaws.{substitute_args-terms_of}
use Rattle.mz_logic.proofs.ValueLaws.{substitute-value_at}
use Rattle.mz_ground.proofs.AddLemmas.{index_at, index_past}

get-value_at : (ts : List Term) (index : ℕ) → index < length ts → slice_get ts index ≡ Some (value_at ts index)
get-value_at [] index lt = absurd (omega arith)
get-value_at (t ∷ ts) zero lt = refl
get-value_at (t ∷ ts) (suc index) lt = get-value_at ts index (omega arith)

pub value_bound : (es : List GroundTerm) (index n place : ℕ) (t : Term) → place < length es → t ≡ Bound n → n ≡ index → IsTermValue es index t place (Some place)
value_bound es index n place t lt e q =
    let at : (ts : List Term) → index < length ts → substitute 0 (value_at ts) t ≡ term_at (entry_terms es) place → slice_get ts index ≡ Some (term_at (entry_terms es) place) = λ ts l h.
    get-value_at ts index l ∙ ap Some (sym (substitute-value_at ts index) ∙ ap (λ k. substitute 0 (value_at ts) (Bound k)) (sym q) ∙ sym (ap (substitute 0 (value_at ts)) e) ∙ h) in
    record { value = (lt, at) }

pub value_other : (es : List GroundTerm) (index n place : ℕ) (t : Term) → t ≡ Bound n → (n ≡ index → ⊥) → IsTermValue es index t place None
value_other es index n place t e q = record { value = λ o ts l h. q (eqb-true n index (sym (ap (has_index index) e) ∙ o)) }

pub value_const : (es : List GroundTerm) (index n place : ℕ) (t : Term) → t ≡ Const n → IsTermValue es index t place None
value_const es index n place t e = record { value = λ o ts l h. absurd (false≢true (sym (ap (has_index index) e) ∙ o)) }

-- an application at the terms, and the entry at the place
pub app_entry : (es : List GroundTerm) → IsTable es → (ts : List Term) (r : Sym) (us : List Term) (t : Term) (place : ℕ) (e : GroundTerm) → t ≡ App r (terms_of us) → slice_get es place ≡ Some e → substitute 0 (value_at ts) t ≡ term_at (entry_terms es) place → App r (terms_of (map (substitute 0 (value_at ts)) us)) ≡ term_of_entry (entry_terms es) e
app_entry es h ts r us t place e q g f = sym (ap (substitute 0 (value_at ts)) q ∙ ap (App r) (substitute_args-terms_of 0 (value_at ts) us)) ∙ f ∙ term_at-table_read es h place e g

apart_const : (d : List Term) (r : Sym) (us : List Term) (n : ℕ) → App r (terms_of us) ≡ term_of_entry d (entry.Const n) → ⊥
apart_const d r us n e = cc

same_sym : (d : List Term) (r s : Sym) (us : List Term) (args : List ℕ) → App r (terms_of us) ≡ term_of_entry d (entry.App s args) → r ≡ s
same_sym d r s us args e = cc

same_args : (d : List Term) (r s : Sym) (us : List Term) (args : List ℕ) → App r (terms_of us) ≡ term_of_entry d (entry.App s args) → us ≡ map (term_at d) args
same_args d r s us args e = let q : terms_of us ≡ terms_of (map (term_at d) args) = cc in terms_of-inj _ _ q

pub value_app_const : (es : List GroundTerm) → IsTable es → (index place n : ℕ) (t : Term) (r : Sym) (us : List Term) → t ≡ App r (terms_of us) → slice_get es place ≡ Some (entry.Const n) → IsTermValue es index t place None
value_app_const es h index place n t r us q g = record { value = λ o ts l f. apart_const (entry_terms es) r (map (substitute 0 (value_at ts)) us) n (app_entry es h ts r us t place (entry.Const n) q g f) }

pub value_app_other : (es : List GroundTerm) → IsTable es → (index place : ℕ) (t : Term) (r s : Sym) (us : List Term) (args : List ℕ) → t ≡ App r (terms_of us) → slice_get es place ≡ Some (entry.App s args) → (r ≡ s → ⊥) → IsTermValue es index t place None
value_app_other es h index place t r s us args q g n = record { value = λ o ts l f. n (same_sym (entry_terms es) r s (map (substitute 0 (value_at ts)) us) args (app_entry es h ts r us t place (entry.App s args) q g f)) }

weaker_value : (es : List GroundTerm) (index : ℕ) (E F : List Term → Type 0) (b c : Bool) (r : Option ℕ) → ((ts : List Term) → F ts → E ts) → c ≡ b → IsValue es index E b r → IsValue es index F c r
weaker_value es index E F b c None h q v = λ o ts l f. v (sym q ∙ o) ts l (h ts f)
weaker_value es index E F b c (Some k) h q v = (v.0, λ ts l f. v.1 ts l (h ts f))

pub value_app : (es : List GroundTerm) → IsTable es → (index place : ℕ) (t : Term) (r s : Sym) (us : List Term) (args : List ℕ) (o : Option ℕ) → t ≡ App r (terms_of us) → slice_get es place ≡ Some (entry.App s args) → AreTermsValue es index us args o → IsTermValue es index t place o
value_app es h index place t r s us args o q g v =
    let d : List Term = entry_terms es in
    record {
      value = weaker_value es index (λ ts. map (substitute 0 (value_at ts)) us ≡ map (term_at d) args) (λ ts. substitute 0 (value_at ts) t ≡ term_at d place) (list_any (has_index index) us) (has_index index t) o
          (λ ts f. same_args d r s (map (substitute 0 (value_at ts)) us) args (app_entry es h ts r us t place (entry.App s args) q g f))
          (ap (has_index index) q ∙ args_have_index-terms_of index us) v.value;
    }

pub entry_args_within : (es : List GroundTerm) → IsTable es → (place : ℕ) (s : Sym) (args : List ℕ) → slice_get es place ≡ Some (entry.App s args) → (k : ℕ) → Contains args k → k < length es
entry_args_within es h place s args g k w =
    let a : k < place = h.earlier place k s args g w in
    let b : place < length es = slice_get_within es place (entry.App s args) g in
    omega arith

pub values_length : (es : List GroundTerm) (index : ℕ) (us : List Term) (places : List ℕ) → (length us ≡ length places → ⊥) → AreTermsValue es index us places None
values_length es index us places n = record { value = λ o ts l e. n (sym (length-map us (substitute 0 (value_at ts))) ∙ ap length e ∙ length-map places (term_at (entry_terms es))) }

pub map_at : (ts : List Term) (d : List Term) (us : List Term) (places : List ℕ) (i : ℕ) (u : Term) → i < length us → map (substitute 0 (value_at ts)) us ≡ map (term_at d) places → substitute 0 (value_at ts) (get_or us i u) ≡ term_at d (get_or places i 0)
map_at ts d [] places i u lt e = absurd (omega arith)
map_at ts d (v ∷ us) [] i u lt e = cc
map_at ts d (v ∷ us) (k ∷ places) zero u lt e = cc
map_at ts d (v ∷ us) (k ∷ places) (suc i) u lt e = let q : map (substitute 0 (value_at ts)) us ≡ map (term_at d) places = cc in map_at ts d us places i u (omega arith) q

pub values_found : (es : List GroundTerm) (index : ℕ) (us : List Term) (places : List ℕ) (i k : ℕ) (u : Term) → i < length us → IsTermValue es index (get_or us i u) (get_or places i 0) (Some k) → AreTermsValue es index us places (Some k)
values_found es index us places i k u lt v = record { value = (v.value.0, λ ts l e. v.value.1 ts l (map_at ts (entry_terms es) us places i u lt e)) }

abbrev OccursAt : ℕ → List Term → Type 0
OccursAt index us = (i : ℕ) × (i < length us) × (has_index index (get_or us i (Const 0)) ≡ true)

occurs_split : (index : ℕ) (u : Term) (us : List Term) (b : Bool) → has_index index u ≡ b → (b || list_any (has_index index) us) ≡ true → (list_any (has_index index) us ≡ true → OccursAt index us) → OccursAt index (u ∷ us)
occurs_split index u us true e o later = (0, omega arith, e)
occurs_split index u us false e o later = let r : OccursAt index us = later o in (suc r.0, omega (arith, r.1), r.2)

occurs_at : (index : ℕ) (us : List Term) → list_any (has_index index) us ≡ true → OccursAt index us
occurs_at index [] o = absurd (false≢true o)
occurs_at index (u ∷ us) o = occurs_split index u us (has_index index u) refl o (occurs_at index us)

pub values_none : (es : List GroundTerm) (index : ℕ) (us : List Term) (places : List ℕ) → ((i : ℕ) (u : Term) → i < length us → IsTermValue es index (get_or us i u) (get_or places i 0) None) → AreTermsValue es index us places None
values_none es index us places h =
    record { value = λ o ts l e. let at = occurs_at index us o in (h at.0 (Const 0) at.1).value at.2 ts l (map_at ts (entry_terms es) us places at.0 (Const 0) at.1 e) }

-- an argument is smaller than the list
args_smaller : (us : List Term) (i : ℕ) (u : Term) → i < length us → size_of (get_or us i u) < sizes_of us
args_smaller [] i u lt = absurd (omega arith)
args_smaller (t ∷ ts) zero u lt = omega arith
args_smaller (t ∷ ts) (suc i) u lt = omega (arith, args_smaller ts i u (omega arith))

pub item_falls : (us vs : List Term) (i n : ℕ) (u : Term) → vs ≡ us → i < length vs → u ≡ get_or vs i u → 2 * (sizes_of us + 1) + 0 ≡ n → 2 * (size_of u + 1) + 0 < n
item_falls us vs i n u e lt at d =
    let one : size_of u < sizes_of vs = subst (λ (z : Term). size_of z < sizes_of vs) (sym at) (args_smaller vs i u lt) in
    omega (arith, one, ap sizes_of e, d)

-- the same of a list that is the one of the arguments
pub values_found_in : (es : List GroundTerm) (index : ℕ) (us vs : List Term) (places : List ℕ) (i k : ℕ) (u : Term) (o : Option ℕ) → vs ≡ us → i < length vs → u ≡ get_or vs i u → o ≡ Some k → IsTermValue es index u (get_or places i 0) o → AreTermsValue es index us places (Some k)
values_found_in es index us vs places i k u o e lt at q v =
    let found : IsTermValue es index u (get_or places i 0) (Some k) = subst (λ (z : Option ℕ). IsTermValue es index u (get_or places i 0) z) q v in
    let there : IsTermValue es index (get_or vs i u) (get_or places i 0) (Some k) = subst (λ (z : Term). IsTermValue es index z (get_or places i 0) (Some k)) at found in
    subst (λ (z : List Term). AreTermsValue es index z places (Some k)) e (values_found es index vs places i k u lt there)

pub values_none_in : (es : List GroundTerm) (index : ℕ) (us vs : List Term) (places : List ℕ) (n : ℕ) → vs ≡ us → length vs ≤ n → ((j : ℕ) (u : Term) → j < n → IsTermValue es index (get_or vs j u) (get_or places j 0) None) → AreTermsValue es index us places None
values_none_in es index us vs places n e le h =
    subst (λ (z : List Term). AreTermsValue es index z places None) e (values_none es index vs places (λ j u lt. h j u (omega arith)))

pub ruleset value_rules = (value_bound, value_other, value_const, value_app_const, value_app_other, value_app, entry_args_within, values_length, values_found, values_none)

-- whether a term at terms is the term at a place
pub substitute-bound_is : (es : List GroundTerm) (args : List ℕ) (n k place : ℕ) (t : Term) → t ≡ Bound n → slice_get args n ≡ Some k → k ≡ place → substitute 0 (value_at (map (term_at (entry_terms es)) args)) t ≡ term_at (entry_terms es) place
substitute-bound_is es args n k place t e g q = ap (substitute 0 (value_at (map (term_at (entry_terms es)) args))) e ∙ index_at es args n k g ∙ ap (term_at (entry_terms es)) q

pub bound_place : (es : List GroundTerm) → IsTable es → (args : List ℕ) (n k place : ℕ) (t : Term) → t ≡ Bound n → slice_get args n ≡ Some k → ((j : ℕ) → Contains args j → j < length es) → place < length es → substitute 0 (value_at (map (term_at (entry_terms es)) args)) t ≡ term_at (entry_terms es) place → k ≡ place
bound_place es h args n k place t e g w lt f =
    let size = entry_terms-length es in
    let here : k < length es = w k (contains_get args n k g) in
    term_at-inj (entry_terms es) h.distinct k place (omega (arith, size)) (omega (arith, size)) (sym (index_at es args n k g) ∙ sym (ap (substitute 0 (value_at (map (term_at (entry_terms es)) args))) e) ∙ f)

entry_no_index : (d : List Term) (e : GroundTerm) (j : ℕ) → Bound j ≡ term_of_entry d e → ⊥
entry_no_index d (entry.Const n) j q = cc
entry_no_index d (entry.App s args) j q = cc

pub bound_past : (es : List GroundTerm) → IsTable es → (args : List ℕ) (n place : ℕ) (t : Term) → t ≡ Bound n → slice_get args n ≡ None → place < length es → substitute 0 (value_at (map (term_at (entry_terms es)) args)) t ≡ term_at (entry_terms es) place → ⊥
bound_past es h args n place t e g lt f =
    let p = index_past es args n g in
    let d = entry_at es place lt in
    entry_no_index (entry_terms es) d.0 p.0 (sym p.1 ∙ sym (ap (substitute 0 (value_at (map (term_at (entry_terms es)) args))) e) ∙ f ∙ term_at-table_read es h place d.0 d.1)

pub substitute-const_is : (es : List GroundTerm) → IsTable es → (ts : List Term) (m n place : ℕ) (t : Term) → t ≡ Const m → slice_get es place ≡ Some (entry.Const n) → m ≡ n → substitute 0 (value_at ts) t ≡ term_at (entry_terms es) place
substitute-const_is es h ts m n place t e g q = ap (substitute 0 (value_at ts)) e ∙ ap Const q ∙ sym (term_at-table_read es h place (entry.Const n) g)

pub const_place : (es : List GroundTerm) → IsTable es → (ts : List Term) (m n place : ℕ) (t : Term) → t ≡ Const m → slice_get es place ≡ Some (entry.Const n) → substitute 0 (value_at ts) t ≡ term_at (entry_terms es) place → m ≡ n
const_place es h ts m n place t e g f = let q : Const m ≡ Const n = sym (ap (substitute 0 (value_at ts)) e) ∙ f ∙ term_at-table_read es h place (entry.Const n) g in cc

pub const_apart : (es : List GroundTerm) → IsTable es → (ts : List Term) (m place : ℕ) (s : Sym) (args : List ℕ) (t : Term) → t ≡ Const m → slice_get es place ≡ Some (entry.App s args) → substitute 0 (value_at ts) t ≡ term_at (entry_terms es) place → ⊥
const_apart es h ts m place s args t e g f = let q : Const m ≡ App s (terms_of (map (term_at (entry_terms es)) args)) = sym (ap (substitute 0 (value_at ts)) e) ∙ f ∙ term_at-table_read es h place (entry.App s args) g in cc

pub app_apart : (es : List GroundTerm) → IsTable es → (ts : List Term) (n place : ℕ) (r : Sym) (us : List Term) (t : Term) → t ≡ App r (terms_of us) → slice_get es place ≡ Some (entry.Const n) → substitute 0 (value_at ts) t ≡ term_at (entry_terms es) place → ⊥
app_apart es h ts n place r us t q g f = apart_const (entry_terms es) r (map (substitute 0 (value_at ts)) us) n (app_entry es h ts r us t place (entry.Const n) q g f)

pub substitute-app_is : (es : List GroundTerm) → IsTable es → (ts : List Term) (place : ℕ) (r s : Sym) (us : List Term) (args : List ℕ) (t : Term) → t ≡ App r (terms_of us) → slice_get es place ≡ Some (entry.App s args) → r ≡ s → map (substitute 0 (value_at ts)) us ≡ map (term_at (entry_terms es)) args → substitute 0 (value_at ts) t ≡ term_at (entry_terms es) place
substitute-app_is es h ts place r s us args t q g e f = ap (substitute 0 (value_at ts)) q ∙ ap (App r) (substitute_args-terms_of 0 (value_at ts) us) ∙ (λ i. App (e i) (terms_of (f i))) ∙ sym (term_at-table_read es h place (entry.App s args) g)

pub app_place_sym : (es : List GroundTerm) → IsTable es → (ts : List Term) (place : ℕ) (r s : Sym) (us : List Term) (args : List ℕ) (t : Term) → t ≡ App r (terms_of us) → slice_get es place ≡ Some (entry.App s args) → substitute 0 (value_at ts) t ≡ term_at (entry_terms es) place → r ≡ s
app_place_sym es h ts place r s us args t q g f = same_sym (entry_terms es) r s (map (substitute 0 (value_at ts)) us) args (app_entry es h ts r us t place (entry.App s args) q g f)

pub map-app_place_args : (es : List GroundTerm) → IsTable es → (ts : List Term) (place : ℕ) (r s : Sym) (us : List Term) (args : List ℕ) (t : Term) → t ≡ App r (terms_of us) → slice_get es place ≡ Some (entry.App s args) → substitute 0 (value_at ts) t ≡ term_at (entry_terms es) place → map (substitute 0 (value_at ts)) us ≡ map (term_at (entry_terms es)) args
map-app_place_args es h ts place r s us args t q g f = same_args (entry_terms es) r s (map (substitute 0 (value_at ts)) us) args (app_entry es h ts r us t place (entry.App s args) q g f)

pub maps_length : (ts d us : List Term) (places : List ℕ) → map (substitute 0 (value_at ts)) us ≡ map (term_at d) places → length us ≡ length places
maps_length ts d us places e = sym (length-map us (substitute 0 (value_at ts))) ∙ ap length e ∙ length-map places (term_at d)

-- the item at an index of a list that is the one of the terms
pub substitute-item_is : (ts d us vs : List Term) (places : List ℕ) (i : ℕ) (u : Term) → vs ≡ us → i < length vs → u ≡ get_or vs i u → map (substitute 0 (value_at ts)) us ≡ map (term_at d) places → substitute 0 (value_at ts) u ≡ term_at d (get_or places i 0)
substitute-item_is ts d us vs places i u e lt at f = ap (substitute 0 (value_at ts)) at ∙ map_at ts d vs places i u lt (ap (map (substitute 0 (value_at ts))) e ∙ f)

pub map_more : (ts d vs : List Term) (places : List ℕ) (i : ℕ) (u : Term) → i < length vs → i < length places → u ≡ get_or vs i u → substitute 0 (value_at ts) u ≡ term_at d (get_or places i 0) → map (substitute 0 (value_at ts)) (take i vs) ≡ map (term_at d) (take i places) → map (substitute 0 (value_at ts)) (take (i + 1) vs) ≡ map (term_at d) (take (i + 1) places)
map_more ts d vs places i u lv lk at e h =
    let at_terms : Term → Term = substitute 0 (value_at ts) in
    let one : at_terms (get_or vs i u) ≡ term_at d (get_or places i 0) = ap at_terms (sym at) ∙ e in
    ap (map at_terms) (take_more vs i u lv) ∙ map_push at_terms (take i vs) (get_or vs i u) ∙ (λ j. h j ++ one j ∷ []) ∙ sym (map_push (term_at d) (take i places) (get_or places i 0)) ∙ sym (ap (map (term_at d)) (take_more places i 0 lk))

pub ruleset instance_rules = (substitute-bound_is, bound_place, bound_past, substitute-const_is, const_place, const_apart, app_apart, substitute-app_is, app_place_sym, map-app_place_args, entry_args_within, maps_length, map_at)
