-- Lists by symbols, found, made and prolonged.
use Rattle.std.proofs.Common.{◌≡◌, ◌<◌, ◌≤◌, ◌+◌, ℕ, List, [], ◌∷◌, ◌++◌, length, refl, ap, sym, ◌∙◌, subst, arith, true, false, Bool, ◌⊎◌}
use Rattle.std.specs.Prelude.{Option, Some, None, Result, Ok, Err, OnOk, nat_eq, ◌&&◌, if◌then◌else◌}
use Rattle.std.proofs.lemmas.Bool.{eqb-true, eq-eqb}
use Rattle.std.proofs.lemmas.List.{length_push}
use Rattle.mz_logic.specs.Sym.{kind_number, same_sym}
use Rattle.mz_logic.specs.declared.sym.Sym.{Sym}
use Rattle.mz_congruence.specs.Signature.{sym_code, is_list, place_of}
use Rattle.mz_congruence.proofs.ListLemmas.{some_same, none_some, get_left, get_right, get_some}
use Rattle.mz_congruence.proofs.SignatureLemmas.{sym_equal, is_list_true, is_list_same}
use Rattle.mz_congruence.proofs.AndLemmas.{both_left, both_right}
use Rattle.mz_classes.specs.declared.sym_lists.SymLists.{SymLists}
use Rattle.mz_classes.specs.Numbers.{list_or_none, list_at}
use Rattle.mz_classes.specs.SymLists.{list_of_place, sym_list, HasPlaces, HasList, HasOneMore}
use Rattle.mz_congruence.specs.declared.signatures.Signatures.{Signatures}

no_both : {b : Bool} → b ≡ true → b ≡ false → ⊥
no_both p q = cc

-- symbols and their codes
pub code_same : (r s : Sym) → sym_code 0 r ≡ sym_code 0 s → r ≡ s
code_same r s e =
    let a : r.article ≡ s.article = cc in
    let k : kind_number r.kind ≡ kind_number s.kind = cc in
    let n : r.number ≡ s.number = cc in
    sym_equal r s a k n

pub same_sym_true : (r s : Sym) → same_sym r s ≡ true → r ≡ s
same_sym_true r s e =
    let front : (nat_eq r.article s.article && nat_eq (kind_number r.kind) (kind_number s.kind)) ≡ true = both_left (nat_eq r.article s.article && nat_eq (kind_number r.kind) (kind_number s.kind)) (nat_eq r.number s.number) e in
    sym_equal r s (eqb-true r.article s.article (both_left (nat_eq r.article s.article) (nat_eq (kind_number r.kind) (kind_number s.kind)) front))
    (eqb-true (kind_number r.kind) (kind_number s.kind) (both_right (nat_eq r.article s.article) (nat_eq (kind_number r.kind) (kind_number s.kind)) front))
    (eqb-true r.number s.number (both_right (nat_eq r.article s.article && nat_eq (kind_number r.kind) (kind_number s.kind)) (nat_eq r.number s.number) e))

pub same_sym_itself : (s : Sym) → same_sym s s ≡ true
same_sym_itself s =
    let a : nat_eq s.article s.article ≡ true = eq-eqb s.article s.article refl in
    let k : nat_eq (kind_number s.kind) (kind_number s.kind) ≡ true = eq-eqb (kind_number s.kind) (kind_number s.kind) refl in
    let n : nat_eq s.number s.number ≡ true = eq-eqb s.number s.number refl in
    rw (a, k, n) refl

-- no list
pub new_places : (x : SymLists) → ((s : List ℕ) → place_of x.places s ≡ None) → HasPlaces x
new_places x h = record {
  within = λ code place e. absurd (none_some (sym (h code) ∙ e));
  distinct = λ code other place e f. absurd (none_some (sym (h code) ∙ e));
}

pub sym_list-new_empty : (x : SymLists) → ((s : List ℕ) → place_of x.places s ≡ None) → (s : Sym) → sym_list x s ≡ []
sym_list-new_empty x h s = ap (list_of_place x.lists) (h (sym_code 0 s))

pub ruleset new_rules = (new_places, sym_list-new_empty)

-- a list
pub got : (x : SymLists) (s : Sym) (o : Option ℕ) (p : ℕ) (q : List ℕ) → o ≡ place_of x.places (sym_code 0 s) → o ≡ Some p → q ≡ list_at x.lists p → q ≡ sym_list x s
got x s o p q e f h = h ∙ ap (list_of_place x.lists) (sym f ∙ e)

pub sym_list-got_none : (x : SymLists) (s : Sym) (o : Option ℕ) → o ≡ place_of x.places (sym_code 0 s) → o ≡ None → sym_list x s ≡ []
sym_list-got_none x s o e f = ap (list_of_place x.lists) (sym e ∙ f)

pub ruleset get_rules = (got, sym_list-got_none)

-- the place of a list
pub list_found : (x : SymLists) (s : Sym) (place : ℕ) → HasPlaces x → place_of x.places (sym_code 0 s) ≡ Some place → HasList x s x place
list_found x s place h e = record { places = h; found = e; same = λ r. refl }

at_end : (xss : List (List ℕ)) → list_at (xss ++ [] ∷ []) (length xss) ≡ []
at_end xss = ap list_or_none (get_right xss ([] ∷ []) (length xss) 0 (omega arith))

list_at-before_end : (xss yss : List (List ℕ)) (k : ℕ) → k < length xss → list_at (xss ++ yss) k ≡ list_at xss k
list_at-before_end xss yss k lt = let p = get_some xss k lt in ap list_or_none (get_left xss yss k p.0 p.1 ∙ sym p.1)

-- what a table of places has after one more code
record Entered (x y : SymLists) (code : List ℕ) : Type 0 where
  lists : y.lists ≡ x.lists ++ [] ∷ []
  absent : place_of x.places code ≡ None
  places : (c : List ℕ) → place_of y.places c ≡ (if is_list c code then Some (length x.lists) else place_of x.places c)

pub data Placed (x y : SymLists) (code c : List ℕ) (place : ℕ) : Type 0 where
  new : c ≡ code → place ≡ length x.lists → Placed x y code c place
  old : place_of x.places c ≡ Some place → Placed x y code c place

placed : (x y : SymLists) (code : List ℕ) → Entered x y code → (c : List ℕ) (place : ℕ) → place_of y.places c ≡ Some place → Placed x y code c place
placed x y code h c place e =
    let here : (b : Bool) → is_list c code ≡ b → (if b then Some (length x.lists) else place_of x.places c) ≡ Some place → Placed x y code c place
    = elim [ true ↦ λ q f. new (is_list_true c code q) (sym (some_same f)) | false ↦ λ q f. old f ] in
    here (is_list c code) refl (sym (h.places c) ∙ e)

entered_places : (x y : SymLists) (code : List ℕ) → HasPlaces x → Entered x y code → HasPlaces y
entered_places x y code h en =
    let long : length y.lists ≡ length x.lists + 1 = ap length en.lists ∙ length_push x.lists [] in
    record {
      within = λ c place e. elim (placed x y code en c place e) [ new q r ↦ omega (arith, r, long) | old q ↦ omega (arith, h.within c place q, long) ];
      distinct = λ c d place e f.
          elim (placed x y code en c place e) [
            | new q r ↦ elim (placed x y code en d place f) [ new s t ↦ q ∙ sym s | old s ↦ absurd (omega (arith, h.within d place s, r)) ]
            | old q ↦ elim (placed x y code en d place f) [ new s t ↦ absurd (omega (arith, h.within c place q, t)) | old s ↦ h.distinct c d place q s ]
          ];
    }

place_of-entered_found : (x y : SymLists) (code : List ℕ) → Entered x y code → place_of y.places code ≡ Some (length x.lists)
place_of-entered_found x y code h =
    let here : (b : Bool) → b ≡ true → (if b then Some (length x.lists) else place_of x.places code) ≡ Some (length x.lists) = elim [ true ↦ λ e. refl | false ↦ λ e. cc ] in
    h.places code ∙ here (is_list code code) (is_list_same code)

old_list : (x y : SymLists) (o : Option ℕ) → y.lists ≡ x.lists ++ [] ∷ [] → ((place : ℕ) → o ≡ Some place → place < length x.lists) → list_of_place y.lists o ≡ list_of_place x.lists o
old_list x y None e h = refl
old_list x y (Some place) e h = ap (λ (xss : List (List ℕ)). list_at xss place) e ∙ list_at-before_end x.lists ([] ∷ []) place (h place refl)

sym_list-entered_same : (x y : SymLists) (code : List ℕ) → HasPlaces x → Entered x y code → (s : Sym) → sym_list y s ≡ sym_list x s
sym_list-entered_same x y code h en s =
    let c : List ℕ = sym_code 0 s in
    let here : (b : Bool) → is_list c code ≡ b → place_of y.places c ≡ (if b then Some (length x.lists) else place_of x.places c) → sym_list y s ≡ sym_list x s
    = elim [
      | true ↦ λ e f.
          let absent : place_of x.places c ≡ None = ap (place_of x.places) (is_list_true c code e) ∙ en.absent in
          let left : sym_list y s ≡ [] = ap (list_of_place y.lists) f ∙ ap (λ (xss : List (List ℕ)). list_at xss (length x.lists)) en.lists ∙ at_end x.lists in
          left ∙ sym (ap (list_of_place x.lists) absent)
      | false ↦ λ e f. ap (list_of_place y.lists) f ∙ old_list x y (place_of x.places c) en.lists (λ place q. h.within c place q)
    ] in
    here (is_list c code) refl (en.places c)

pub list_made : (x y : SymLists) (s : Sym) (code : List ℕ) (place : ℕ) → HasPlaces x → place_of x.places (sym_code 0 s) ≡ None → code ≡ sym_code 0 s → place ≡ length x.lists → y.lists ≡ x.lists ++ [] ∷ [] → ((c : List ℕ) → place_of y.places c ≡ (if is_list c code then Some place else place_of x.places c)) → HasList x s y place
list_made x y s code place h absent e n lists places =
    let at_length : (c : List ℕ) → place_of y.places c ≡ (if is_list c code then Some (length x.lists) else place_of x.places c) = subst (λ (k : ℕ). (c : List ℕ) → place_of y.places c ≡ (if is_list c code then Some k else place_of x.places c)) n places in
    let en : Entered x y code = record { lists = lists; absent = ap (place_of x.places) e ∙ absent; places = at_length } in
    record {
      places = entered_places x y code h en;
      found = ap (place_of y.places) (sym e) ∙ place_of-entered_found x y code en ∙ ap Some (sym n);
      same = sym_list-entered_same x y code h en;
    }

pub ruleset place_rules = (list_found)

-- a number more
list_of_place-one_more : (x y : SymLists) (s r : Sym) (place number : ℕ) (o : Option ℕ) → HasPlaces x → place_of x.places (sym_code 0 s) ≡ Some place → o ≡ place_of x.places (sym_code 0 r) → ((k : ℕ) → list_at y.lists k ≡ (if nat_eq k place then list_at x.lists k ++ number ∷ [] else list_at x.lists k)) → list_of_place y.lists o ≡ (if same_sym s r then list_of_place x.lists o ++ number ∷ [] else list_of_place x.lists o)
list_of_place-one_more x y s r place number None h e q lists =
    let here : (b : Bool) → same_sym s r ≡ b → [] ≡ (if b then [] ++ number ∷ [] else [])
    = elim [
      | true ↦ λ t. absurd (none_some (q ∙ ap (λ (z : Sym). place_of x.places (sym_code 0 z)) (sym (same_sym_true s r t)) ∙ e))
      | false ↦ λ t. refl
    ] in
    here (same_sym s r) refl
list_of_place-one_more x y s r place number (Some k) h e q lists =
    let here : (b c : Bool) → nat_eq k place ≡ b → same_sym s r ≡ c → (if b then list_at x.lists k ++ number ∷ [] else list_at x.lists k) ≡ (if c then list_at x.lists k ++ number ∷ [] else list_at x.lists k)
    = elim [
      | true ↦ elim [
        | true ↦ λ t u. refl
        | false ↦ λ t u.
            let one : sym_code 0 s ≡ sym_code 0 r = h.distinct (sym_code 0 s) (sym_code 0 r) k (e ∙ ap Some (sym (eqb-true k place t))) (sym q) in
            absurd (no_both (ap (λ (z : Sym). same_sym s z) (sym (code_same s r one)) ∙ same_sym_itself s) u)
      ]
      | false ↦ elim [
        | true ↦ λ t u.
            let one : Some place ≡ Some k = sym e ∙ ap (λ (z : Sym). place_of x.places (sym_code 0 z)) (same_sym_true s r u) ∙ sym q in
            absurd (no_both (eq-eqb k place (sym (some_same one))) t)
        | false ↦ λ t u. refl
      ]
    ] in
    lists k ∙ here (nat_eq k place) (same_sym s r) refl refl

longer_places : (x y : SymLists) → HasPlaces x → y.places ≡ x.places → length y.lists ≡ length x.lists → HasPlaces y
longer_places x y h e n = record {
  within = λ c place q. omega (arith, n, h.within c place (ap (λ (z : Signatures). place_of z c) (sym e) ∙ q));
  distinct = λ c d place q r. h.distinct c d place (ap (λ (z : Signatures). place_of z c) (sym e) ∙ q) (ap (λ (z : Signatures). place_of z d) (sym e) ∙ r);
}

pub list_longer : (w x y : SymLists) (s : Sym) (place number : ℕ) → HasList w s x place → y.places ≡ x.places → length y.lists ≡ length x.lists → ((k : ℕ) → list_at y.lists k ≡ (if nat_eq k place then list_at x.lists k ++ number ∷ [] else list_at x.lists k)) → HasOneMore w s number y
list_longer w x y s place number h e n lists = record {
  places = longer_places x y h.places e n;
  lists = λ r.
      let here : sym_list y r ≡ (if same_sym s r then sym_list x r ++ number ∷ [] else sym_list x r) = ap (λ (z : Signatures). list_of_place y.lists (place_of z (sym_code 0 r))) e ∙ list_of_place-one_more x y s r place number (place_of x.places (sym_code 0 r)) h.places h.found refl lists in
      subst (λ (ns : List ℕ). sym_list y r ≡ (if same_sym s r then ns ++ number ∷ [] else ns)) (h.same r) here;
}

pub told_longer : {E : Type 0} (w x y : SymLists) (s : Sym) (place number : ℕ) (r : Result (Unit {0}) E) → HasList w s x place → y.places ≡ x.places → length y.lists ≡ length x.lists → OnOk r ((k : ℕ) → list_at y.lists k ≡ (if nat_eq k place then list_at x.lists k ++ number ∷ [] else list_at x.lists k)) → OnOk r (HasOneMore w s number y)
told_longer w x y s place number (Ok u) h e n lists = list_longer w x y s place number h e n lists
told_longer w x y s place number (Err u) h e n lists = tt

pub place_within : (w x : SymLists) (s : Sym) (place : ℕ) → HasList w s x place → place < length x.lists
place_within w x s place h = h.places.within (sym_code 0 s) place h.found

pub ruleset push_rules = (told_longer, place_within)
