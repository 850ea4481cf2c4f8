-- What putting the closed terms within a term among the entries leaves.
use Rattle.std.proofs.Common.{◌≡◌, ◌<◌, ◌≤◌, ◌+◌, ℕ, zero, suc, Bool, true, false, List, [], ◌∷◌, ◌++◌, length, map, take, get_or, refl, sym, ap, ◌∙◌, subst, arith, ◌⊎◌, inl, inr, Option, Some, None}
use Rattle.std.specs.Prelude.{Contains, slice_get, ◌&&◌, MatchOption, option_map}
use Rattle.std.specs.List.{list_all}
use Rattle.std.proofs.lemmas.List.{map_push, take_more, take_all}
use Rattle.std.proofs.lemmas.List.Elements.{Contains-append_left, Contains-append_right, Contains-push_cases}
use Rattle.std.proofs.lemmas.Option.{same_Some, none-some, slice_get-map}
use Rattle.std.proofs.lemmas.Bool.{false≢true, le-ltb}
use Rattle.mz_logic.specs.declared.sym.Sym.{Sym}
use Rattle.mz_logic.specs.Term.{Term, Bound, Const, App, terms_of, list_of}
use Rattle.mz_logic.specs.TermStorage.{list_of-terms_of}
use Rattle.mz_logic.specs.Indices.{closed}
use Rattle.mz_logic.proofs.IndexLemmas.{args_below-terms_of}
use Rattle.mz_logic.proofs.SubstitutionLaws.{substitute_args-terms_of}
use Rattle.mz_logic.proofs.ValueLaws.{substitute-value_at}
use Rattle.mz_ground.specs.GroundExpression.{IsWithin, whole, argument}
use Rattle.mz_logic.specs.Substitution.{value_at, substitute}
use Rattle.mz_ground.specs.Ground.{term_at}
use Rattle.mz_ground.specs.Table.{Extends, IsPlaced, entry_terms, IsTable, Reads, IsPart, AddedTerms, IsFound, EachFound, AreFound, AddsTerm, AddsEach, AddsTerms}
use Rattle.mz_ground.specs.declared.ground_term.GroundTerm.{GroundTerm}
use Rattle.mz_ground.specs.declared.ground_term.GroundTerm.TheVariants as entry
use Rattle.mz_ground.proofs.ListLemmas.{contains_none, contains_first, contains_cases, contains_one, contains_get, extends_itself, extends_further}
use Rattle.mz_ground.proofs.TableLemmas.{PlacedTerm, placed, term_at-contained, entry_terms-length, entry_terms_closed, within_table, contains_grown, found_grown, reads_grown}

-- what stands within a term
abbrev pub IsArgWithin : Term → Term → Type 0
IsArgWithin u (Bound index) = ⊥
IsArgWithin u (Const number) = ⊥
IsArgWithin u (App s ts) = (t : Term) × Contains (list_of ts) t × IsWithin u t

pub within_cases : (u : Term) {x : Term} → IsWithin u x → (u ≡ x) ⊎ IsArgWithin u x
within_cases u whole = inl refl
within_cases u (argument s ts t c w) = inr (t, subst (λ (xs : List Term). Contains xs t) (sym (list_of-terms_of ts)) c, w)

pub part_first : (t : Term) → closed t ≡ true → IsPart (t ∷ []) t
part_first t e = record { outer = t; among = contains_first t []; within = whole; is_closed = e }

within_of_part : (t u : Term) → IsPart (t ∷ []) u → IsWithin u t
within_of_part t u p = subst (λ (x : Term). IsWithin u x) (sym (contains_one t p.outer p.among)) p.within

pub part_left : (ts us : List Term) (u : Term) → IsPart ts u → IsPart (ts ++ us) u
part_left ts us u p = record { outer = p.outer; among = Contains-append_left ts us p.outer p.among; within = p.within; is_closed = p.is_closed }

pub part_right : (ts us : List Term) (u : Term) → IsPart us u → IsPart (ts ++ us) u
part_right ts us u p = record { outer = p.outer; among = Contains-append_right ts us p.outer p.among; within = p.within; is_closed = p.is_closed }

pub part_cases : (ts : List Term) (t u : Term) → IsPart (ts ++ t ∷ []) u → IsPart ts u ⊎ IsPart (t ∷ []) u
part_cases ts t u p =
    elim (Contains-push_cases ts t p.outer p.among) [
      | inl a ↦ inl (record { outer = p.outer; among = a; within = p.within; is_closed = p.is_closed })
      | inr q ↦ inr (record { outer = t; among = contains_first t []; within = subst (λ (x : Term). IsWithin u x) (sym q) p.within; is_closed = p.is_closed })
    ]

-- nothing is added, then the terms of one more
pub added_none : (es : List GroundTerm) → IsTable es → AddedTerms es [] es
added_none es h = record { table = h; grown = extends_itself es; sound = λ u w. inl w; complete = λ u p. absurd (contains_none p.outer p.among) }

pub added_more : (es fs gs : List GroundTerm) (us : List Term) (t : Term) → AddedTerms es us fs → AddedTerms fs (t ∷ []) gs → AddedTerms es (us ++ t ∷ []) gs
added_more es fs gs us t a b =
    let sound' : (u : Term) → Contains (entry_terms gs) u → Contains (entry_terms es) u ⊎ IsPart (us ++ t ∷ []) u = λ u w.
    elim (b.sound u w) [
      | inl c ↦ elim (a.sound u c) [ inl d ↦ inl d | inr p ↦ inr (part_left us (t ∷ []) u p) ]
      | inr p ↦ inr (part_right us (t ∷ []) u p)
    ] in
    let complete' : (u : Term) → IsPart (us ++ t ∷ []) u → Contains (entry_terms gs) u = λ u p.
    elim (part_cases us t u p) [
      | inl q ↦ contains_grown fs gs b.grown u (a.complete u q)
      | inr q ↦ b.complete u q
    ] in
    record { table = b.table; grown = extends_further es fs gs a.grown b.grown; sound = sound'; complete = complete' }

-- a term that stands in the table, and one with an index of which nothing is within it
added_known : (es : List GroundTerm) → IsTable es → (t : Term) → Contains (entry_terms es) t → AddedTerms es (t ∷ []) es
added_known es h t c = record { table = h; grown = extends_itself es; sound = λ u w. inl w; complete = λ u p. within_table es h u (within_of_part t u p) c }

not_closed : (index : ℕ) → closed (Bound index) ≡ false
not_closed index = le-ltb index 0 (omega arith)

apart : (b : Bool) → b ≡ true → b ≡ false → ⊥
apart b p q = false≢true (sym q ∙ p)

added_bound : (es : List GroundTerm) → IsTable es → (index : ℕ) → AddedTerms es (Bound index ∷ []) es
added_bound es h index =
    record {
      table = h;
      grown = extends_itself es;
      sound = λ u w. inl w;
      complete = λ u p. elim (within_cases u (within_of_part (Bound index) u p)) [ inl q ↦ absurd (apart (closed u) p.is_closed (ap closed q ∙ not_closed index)) | inr r ↦ absurd r ];
    }

value_at-some : (ts : List Term) (index : ℕ) (t : Term) → slice_get ts index ≡ Some t → value_at ts index ≡ t
value_at-some [] index t g = absurd (none-some t g)
value_at-some (u ∷ us) zero t g = same_Some u t g
value_at-some (u ∷ us) (suc index) t g = value_at-some us index t g

value_at-none : (ts : List Term) (index : ℕ) → slice_get ts index ≡ None → (j : ℕ) × (value_at ts index ≡ Bound j)
value_at-none [] index g = (index, refl)
value_at-none (u ∷ us) zero g = absurd (none-some u (sym g))
value_at-none (u ∷ us) (suc index) g = value_at-none us index g

-- an index, where the terms at places stand for the indices
pub index_at : (es : List GroundTerm) (args : List ℕ) (index k : ℕ) → slice_get args index ≡ Some k → substitute 0 (value_at (map (term_at (entry_terms es)) args)) (Bound index) ≡ term_at (entry_terms es) k
index_at es args index k g =
    let d : List Term = entry_terms es in
    substitute-value_at (map (term_at d) args) index ∙ value_at-some (map (term_at d) args) index (term_at d k) (slice_get-map (term_at d) args index ∙ ap (option_map (term_at d)) g)

pub index_past : (es : List GroundTerm) (args : List ℕ) (index : ℕ) → slice_get args index ≡ None → (j : ℕ) × (substitute 0 (value_at (map (term_at (entry_terms es)) args)) (Bound index) ≡ Bound j)
index_past es args index g =
    let d : List Term = entry_terms es in
    let p = value_at-none (map (term_at d) args) index (slice_get-map (term_at d) args index ∙ ap (option_map (term_at d)) g) in
    (p.0, substitute-value_at (map (term_at d) args) index ∙ p.1)

added_as : (es fs : List GroundTerm) (t u : Term) → t ≡ u → AddedTerms es (u ∷ []) fs → AddedTerms es (t ∷ []) fs
added_as es fs t u q a = subst (λ (x : Term). AddedTerms es (x ∷ []) fs) (sym q) a

bound_at : (es : List GroundTerm) (args : List ℕ) (ts : List Term) (index : ℕ) (o : Option ℕ) → Reads es args ts → slice_get args index ≡ o → AddsTerm es ts (Bound index) o es
bound_at es args ts index None r g =
    let p = index_past es args index g in
    let q : substitute 0 (value_at ts) (Bound index) ≡ Bound p.0 = ap (λ z. substitute 0 (value_at z) (Bound index)) (sym r.terms) ∙ p.1 in
    record { added = added_as es es (substitute 0 (value_at ts) (Bound index)) (Bound p.0) q (added_bound es r.table p.0); found = ap closed q ∙ not_closed p.0 }
bound_at es args ts index (Some k) r g =
    let q : substitute 0 (value_at ts) (Bound index) ≡ term_at (entry_terms es) k = ap (λ z. substitute 0 (value_at z) (Bound index)) (sym r.terms) ∙ index_at es args index k g in
    let lt : k < length es = r.within k (contains_get args index k g) in
    record { added = added_as es es (substitute 0 (value_at ts) (Bound index)) (term_at (entry_terms es) k) q (added_known es r.table (term_at (entry_terms es) k) (term_at-contained (entry_terms es) k (omega (arith, entry_terms-length es)))); found = (lt, sym q) }

pub told_bound : (es : List GroundTerm) (args : List ℕ) (index : ℕ) (o : Option ℕ) (t : Term) → t ≡ Bound index → o ≡ slice_get args index → (ts : List Term) → Reads es args ts → AddsTerm es ts t o es
told_bound es args index o t e q ts r = subst (λ (x : Term). AddsTerm es ts x o es) (sym e) (bound_at es args ts index o r (sym q))

-- a constant
added_placed_const : (es fs : List GroundTerm) (n k : ℕ) → PlacedTerm es (Const n) fs k → AddedTerms es (Const n ∷ []) fs
added_placed_const es fs n k p =
    record {
      table = p.table;
      grown = p.grown;
      sound = λ u w. elim (p.sound u w) [ inl a ↦ inl a | inr q ↦ inr (subst (λ (x : Term). IsPart (Const n ∷ []) x) q (part_first (Const n) refl)) ];
      complete = λ u part. elim (within_cases u (within_of_part (Const n) u part)) [ inl q ↦ subst (λ (x : Term). Contains (entry_terms fs) x) (sym q) p.complete | inr r ↦ absurd r ];
    }

pub told_const : (es fs : List GroundTerm) (args : List ℕ) (n k : ℕ) (t : Term) → t ≡ Const n → IsPlaced es (entry.Const n) fs k → (ts : List Term) → Reads es args ts → AddsTerm es ts t (Some k) fs
told_const es fs args n k t e p ts r =
    let q : PlacedTerm es (Const n) fs k = placed es r.table (entry.Const n) tt fs k p in
    subst (λ (x : Term). AddsTerm es ts x (Some k) fs) (sym e) (record { added = added_placed_const es fs n k q; found = q.found })

-- an application
app_part : (s : Sym) (us : List Term) (u : Term) → IsPart us u → IsPart (App s (terms_of us) ∷ []) u
app_part s us u p = record { outer = App s (terms_of us); among = contains_first (App s (terms_of us)) []; within = argument s us p.outer p.among p.within; is_closed = p.is_closed }

part_of_app : (s : Sym) (us : List Term) (u : Term) → IsPart (App s (terms_of us) ∷ []) u → (u ≡ App s (terms_of us)) ⊎ IsPart us u
part_of_app s us u p =
    elim (within_cases u (within_of_part (App s (terms_of us)) u p)) [
      | inl q ↦ inl q
      | inr r ↦ inr (record { outer = r.0; among = subst (λ (xs : List Term). Contains xs r.0) (list_of-terms_of us) r.1; within = r.2; is_closed = p.is_closed })
    ]

added_app_some : (es fs gs : List GroundTerm) (s : Sym) (us : List Term) (k : ℕ) → AddedTerms es us fs → PlacedTerm fs (App s (terms_of us)) gs k → AddedTerms es (App s (terms_of us) ∷ []) gs
added_app_some es fs gs s us k a p =
    let t : Term = App s (terms_of us) in
    record {
      table = p.table;
      grown = extends_further es fs gs a.grown p.grown;
      sound = λ u w. elim (p.sound u w) [
        | inl c ↦ elim (a.sound u c) [ inl d ↦ inl d | inr part ↦ inr (app_part s us u part) ]
        | inr q ↦ inr (subst (λ (x : Term). IsPart (t ∷ []) x) q (part_first t (entry_terms_closed gs t p.complete)))
      ];
      complete = λ u part. elim (part_of_app s us u part) [
        | inl q ↦ subst (λ (x : Term). Contains (entry_terms gs) x) (sym q) p.complete
        | inr r ↦ contains_grown fs gs p.grown u (a.complete u r)
      ];
    }

added_app_none : (es fs : List GroundTerm) (s : Sym) (us : List Term) → AddedTerms es us fs → closed (App s (terms_of us)) ≡ false → AddedTerms es (App s (terms_of us) ∷ []) fs
added_app_none es fs s us a n =
    record {
      table = a.table;
      grown = a.grown;
      sound = λ u w. elim (a.sound u w) [ inl d ↦ inl d | inr part ↦ inr (app_part s us u part) ];
      complete = λ u part. elim (part_of_app s us u part) [
        | inl q ↦ absurd (apart (closed u) part.is_closed (ap closed q ∙ n))
        | inr r ↦ a.complete u r
      ];
    }

app_at_some : (es fs gs : List GroundTerm) (s : Sym) (ts us : List Term) (ks : List ℕ) (k : ℕ) → AddsTerms es ts us (Some ks) fs → IsPlaced fs (entry.App s ks) gs k → AddsTerm es ts (App s (terms_of us)) (Some k) gs
app_at_some es fs gs s ts us ks k a p =
    let vs : List Term = map (substitute 0 (value_at ts)) us in
    let q : PlacedTerm fs (App s (terms_of (map (term_at (entry_terms fs)) ks))) gs k = placed fs a.added.table (entry.App s ks) a.found.0 gs k p in
    let r : PlacedTerm fs (App s (terms_of vs)) gs k = subst (λ (xs : List Term). PlacedTerm fs (App s (terms_of xs)) gs k) a.found.1 q in
    let same : substitute 0 (value_at ts) (App s (terms_of us)) ≡ App s (terms_of vs) = ap (App s) (substitute_args-terms_of 0 (value_at ts) us) in
    record { added = added_as es gs (substitute 0 (value_at ts) (App s (terms_of us))) (App s (terms_of vs)) same (added_app_some es fs gs s vs k a.added r); found = (r.found.0, r.found.1 ∙ sym same) }

app_at_none : (es fs : List GroundTerm) (s : Sym) (ts us : List Term) → AddsTerms es ts us None fs → AddsTerm es ts (App s (terms_of us)) None fs
app_at_none es fs s ts us a =
    let vs : List Term = map (substitute 0 (value_at ts)) us in
    let same : substitute 0 (value_at ts) (App s (terms_of us)) ≡ App s (terms_of vs) = ap (App s) (substitute_args-terms_of 0 (value_at ts) us) in
    let open' : closed (App s (terms_of vs)) ≡ false = args_below-terms_of 0 vs ∙ a.found in
    record { added = added_as es fs (substitute 0 (value_at ts) (App s (terms_of us))) (App s (terms_of vs)) same (added_app_none es fs s vs a.added open'); found = ap closed same ∙ open' }

pub told_app_some : (es fs gs : List GroundTerm) (args : List ℕ) (s : Sym) (us : List Term) (ks : List ℕ) (k : ℕ) (t : Term) → t ≡ App s (terms_of us) → ((ts : List Term) → Reads es args ts → AddsTerms es ts us (Some ks) fs) → IsPlaced fs (entry.App s ks) gs k → (ts : List Term) → Reads es args ts → AddsTerm es ts t (Some k) gs
told_app_some es fs gs args s us ks k t e a p ts r = subst (λ (x : Term). AddsTerm es ts x (Some k) gs) (sym e) (app_at_some es fs gs s ts us ks k (a ts r) p)

pub told_app_none : (es fs : List GroundTerm) (args : List ℕ) (s : Sym) (us : List Term) (t : Term) → t ≡ App s (terms_of us) → ((ts : List Term) → Reads es args ts → AddsTerms es ts us None fs) → (ts : List Term) → Reads es args ts → AddsTerm es ts t None fs
told_app_none es fs args s us t e a ts r = subst (λ (x : Term). AddsTerm es ts x None fs) (sym e) (app_at_none es fs s ts us (a ts r))

pub ruleset add_rules = (told_bound, told_const, told_app_some, told_app_none)

-- one argument after another
pub each_none : (es : List GroundTerm) (args : List ℕ) (ts : List Term) → Reads es args ts → AddsEach es ts [] [] es
each_none es args ts r = record { added = added_none es r.table; found = tt }

each_grown : (fs gs : List GroundTerm) → Extends fs gs → (us : List Term) (os : List (Option ℕ)) → EachFound fs us os → EachFound gs us os
each_grown fs gs p [] [] h = tt
each_grown fs gs p [] (o ∷ os) h = h
each_grown fs gs p (u ∷ us) [] h = h
each_grown fs gs p (u ∷ us) (o ∷ os) h = (found_grown fs gs p u o h.0, each_grown fs gs p us os h.1)

each_push : (fs : List GroundTerm) (us : List Term) (os : List (Option ℕ)) (u : Term) (o : Option ℕ) → EachFound fs us os → IsFound fs u o → EachFound fs (us ++ u ∷ []) (os ++ o ∷ [])
each_push fs [] [] u o h f = (f, tt)
each_push fs [] (p ∷ os) u o h f = absurd h
each_push fs (v ∷ us) [] u o h f = absurd h
each_push fs (v ∷ us) (p ∷ os) u o h f = (h.0, each_push fs us os u o h.1 f)

pub each_more : (es fs gs : List GroundTerm) (args : List ℕ) (ts us : List Term) (os : List (Option ℕ)) (u : Term) (o : Option ℕ) → Reads es args ts → AddsEach es ts us os fs → ((vs : List Term) → Reads fs args vs → AddsTerm fs vs u o gs) → AddsEach es ts (us ++ u ∷ []) (os ++ o ∷ []) gs
each_more es fs gs args ts us os u o r a b =
    let c : AddsTerm fs ts u o gs = b ts (reads_grown es fs a.added.grown a.added.table args ts r) in
    let q : map (substitute 0 (value_at ts)) (us ++ u ∷ []) ≡ map (substitute 0 (value_at ts)) us ++ substitute 0 (value_at ts) u ∷ [] = map_push (substitute 0 (value_at ts)) us u in
    record {
      added = subst (λ (vs : List Term). AddedTerms es vs gs) (sym q) (added_more es fs gs (map (substitute 0 (value_at ts)) us) (substitute 0 (value_at ts) u) a.added c.added);
      found = subst (λ (vs : List Term). EachFound gs vs (os ++ o ∷ [])) (sym q) (each_push gs (map (substitute 0 (value_at ts)) us) os (substitute 0 (value_at ts) u) o (each_grown fs gs c.added.grown (map (substitute 0 (value_at ts)) us) os a.found) c.found);
    }

-- all places, if each is there
and_false : (a b : Bool) → a ≡ false → (a && b) ≡ false
and_false true b h = absurd (false≢true (sym h))
and_false false b h = refl

and_false_later : (a b : Bool) → b ≡ false → (a && b) ≡ false
and_false_later true b h = h
and_false_later false b h = refl

each_lacks : (fs : List GroundTerm) (us : List Term) (os : List (Option ℕ)) → EachFound fs us os → Contains os None → list_all closed us ≡ false
each_lacks fs [] [] h w = absurd (contains_none None w)
each_lacks fs [] (o ∷ os) h w = absurd h
each_lacks fs (u ∷ us) [] h w = absurd h
each_lacks fs (u ∷ us) (o ∷ os) h w =
    elim (contains_cases o None os w) [
      | inl q ↦ and_false (closed u) (list_all closed us) (subst (λ (p : Option ℕ). IsFound fs u p) q h.0)
      | inr v ↦ and_false_later (closed u) (list_all closed us) (each_lacks fs us os h.1 v)
    ]

each_has : (fs : List GroundTerm) (us : List Term) (ks : List ℕ) → EachFound fs us (map Some ks) → AreFound fs us (Some ks)
each_has fs [] [] h = (λ k w. absurd (contains_none k w), refl)
each_has fs [] (k ∷ ks) h = absurd h
each_has fs (u ∷ us) [] h = absurd h
each_has fs (u ∷ us) (k ∷ ks) h =
    let r : AreFound fs us (Some ks) = each_has fs us ks h.1 in
    (λ j w. elim (contains_cases k j ks w) [ inl q ↦ subst (λ (i : ℕ). i < length fs) q h.0.0 | inr v ↦ r.0 j v ], λ i. h.0.1 i ∷ r.1 i)

pub all_told : (es fs : List GroundTerm) (ts us : List Term) (os : List (Option ℕ)) (r : Option (List ℕ)) → AddsEach es ts us os fs → MatchOption r (Contains os None) (λ ks. os ≡ map Some ks) → AddsTerms es ts us r fs
all_told es fs ts us os None a h = record { added = a.added; found = each_lacks fs (map (substitute 0 (value_at ts)) us) os a.found h }
all_told es fs ts us os (Some ks) a h = record { added = a.added; found = each_has fs (map (substitute 0 (value_at ts)) us) ks (subst (λ (xs : List (Option ℕ)). EachFound fs (map (substitute 0 (value_at ts)) us) xs) h a.found) }

-- the loop over the arguments
pub told_each : (es fs gs : List GroundTerm) (args : List ℕ) (us : List Term) (i : ℕ) (os ps : List (Option ℕ)) (u : Term) (o : Option ℕ) → ((ts : List Term) → Reads es args ts → AddsEach es ts (take i us) os fs) → u ≡ get_or us i u → i < length us → ((vs : List Term) → Reads fs args vs → AddsTerm fs vs u o gs) → ps ≡ os ++ o ∷ [] → (ts : List Term) → Reads es args ts → AddsEach es ts (take (i + 1) us) ps gs
told_each es fs gs args us i os ps u o a e lt b q ts r =
    let same : take (i + 1) us ≡ take i us ++ u ∷ [] = take_more us i u lt ∙ ap (λ z. take i us ++ z ∷ []) (sym e) in
    let c : AddsEach es ts (take i us ++ u ∷ []) (os ++ o ∷ []) gs = each_more es fs gs args ts (take i us) os u o r (a ts r) b in
    subst (λ (z : List Term). AddsEach es ts z ps gs) (sym same) (subst (λ (z : List (Option ℕ)). AddsEach es ts (take i us ++ u ∷ []) z gs) (sym q) c)

pub told_each_all : (es fs : List GroundTerm) (args : List ℕ) (us vs : List Term) (i : ℕ) (os ps : List (Option ℕ)) (o : Option (List ℕ)) → ((ts : List Term) → Reads es args ts → AddsEach es ts (take i us) os fs) → us ≡ vs → length us ≤ i → ps ≡ os → MatchOption o (Contains ps None) (λ ks. ps ≡ map Some ks) → (ts : List Term) → Reads es args ts → AddsTerms es ts vs o fs
told_each_all es fs args us vs i os ps o a e le q h ts r =
    let same : take i us ≡ vs = take_all i us le ∙ e in
    let c : AddsEach es ts vs os fs = subst (λ (z : List Term). AddsEach es ts z os fs) same (a ts r) in
    all_told es fs ts vs ps o (subst (λ (z : List (Option ℕ)). AddsEach es ts vs z fs) (sym q) c) h

pub ruleset all_rules = (each_none, each_more, all_told)
