-- What the code of citations tells.
use Rattle.std.proofs.Common.{◌≡◌, ◌<◌, ◌+◌, ℕ, zero, suc, List, [], ◌∷◌, ◌++◌, length, drop, map, get_or, refl, sym, ap, ◌∙◌, subst, arith, append_assoc, Option, Some, None, Result, Ok, Err}
use Rattle.std.proofs.lemmas.List.{append-nil}
use Rattle.std.proofs.Math.Seq.{drop-cons, drop-length}
use Rattle.mz_base.specs.declared.place.Place.{Place}
use Rattle.mz_core.specs.Statement.{Statement}
use Rattle.mz_context.specs.declared.context.Context.{Context}
use Rattle.mz_environment.specs.declared.environment.Environment.{Environment}
use Rattle.mz_tree.specs.declared.chain.Next.{Next}
use Rattle.mz_tree.specs.declared.lists.Separated.{Separated}
use Rattle.mz_tree.specs.declared.word.Comma.{Comma}
use Rattle.mz_tree_proof.specs.declared.references.NumberTree.{NumberTree}
use Rattle.mz_tree_proof.specs.declared.references.ReferenceTree.{ReferenceTree}
use Rattle.mz_cited.specs.Cited.{cited_by_number, tree_of, members, in_front_of, cited_by_numbers, cited_by, place_of, with_cited, cites}

-- the statements and then those of the others
abbrev pub behind : List Statement → Option (List Statement) → Option (List Statement)
behind out None = None
behind out (Some ss) = Some (out ++ ss)

abbrev pub result_behind : List Statement → Result (List Statement) Place → Result (List Statement) Place
result_behind out (Err p) = Err p
result_behind out (Ok ss) = Ok (out ++ ss)

-- the trees from i on
map-from_here : {X : Type 0} (xs : List (Next Comma X)) (i : ℕ) (x : Next Comma X) → i < length xs → x ≡ get_or xs i x → map tree_of (drop i xs) ≡ tree_of x ∷ map tree_of (drop (i + 1) xs)
map-from_here xs i x lt e =
    let next : suc i ≡ i + 1 = omega arith in
    ap (map tree_of) (drop-cons xs i x lt ∙ (ap (λ y. y ∷ drop (suc i) xs) (sym e) ∙ ap (λ k. x ∷ drop k xs) next))

map-none_from_here : {X : Type 0} (xs : List (Next Comma X)) (i : ℕ) → i ≡ length xs → map tree_of (drop i xs) ≡ []
map-none_from_here xs i e = ap (map tree_of) (ap (λ k. drop k xs) e ∙ drop-length xs)

-- numbers
behind-one_more : (out : List Statement) (s : Statement) (o : Option (List Statement)) → behind out (in_front_of (Some s) o) ≡ behind (out ++ s ∷ []) o
behind-one_more out s None = refl
behind-one_more out s (Some ss) = ap Some (sym (append_assoc out (s ∷ []) ss))

pub told_first_number : (e : Environment) (a : Option ℕ) (ns : Separated NumberTree) (o : Option Statement) (s : Statement) (start out : List Statement) → o ≡ cited_by_number e a ns.first → o ≡ Some s → start ≡ [] → out ≡ start ++ s ∷ [] → behind out (cited_by_numbers e a (map tree_of (drop 0 ns.more))) ≡ cited_by_numbers e a (members ns)
told_first_number e a ns o s start out h is es eo =
    let rest : Option (List Statement) = cited_by_numbers e a (map tree_of ns.more) in
    ap (λ xs. behind xs rest) (eo ∙ ap (λ xs. xs ++ s ∷ []) es) ∙ (first rest ∙ ap (λ p. in_front_of p rest) (sym is ∙ h))
  where
    first : (o : Option (List Statement)) → behind (s ∷ []) o ≡ in_front_of (Some s) o
    first None = refl
    first (Some ss) = refl

pub told_number : (e : Environment) (a : Option ℕ) (whole : Option (List Statement)) (xs : List (Next Comma NumberTree)) (i : ℕ) (x : Next Comma NumberTree) (o : Option Statement) (s : Statement) (out new : List Statement) → i < length xs → x ≡ get_or xs i x → o ≡ cited_by_number e a x.tree → o ≡ Some s → new ≡ out ++ s ∷ [] → behind out (cited_by_numbers e a (map tree_of (drop i xs))) ≡ whole → behind new (cited_by_numbers e a (map tree_of (drop (i + 1) xs))) ≡ whole
told_number e a whole xs i x o s out new lt at h is en so =
    let rest : Option (List Statement) = cited_by_numbers e a (map tree_of (drop (i + 1) xs)) in
    let here : cited_by_numbers e a (map tree_of (drop i xs)) ≡ in_front_of (Some s) rest = ap (cited_by_numbers e a) (map-from_here xs i x lt at) ∙ ap (λ p. in_front_of p rest) (sym h ∙ is) in
    ap (λ ys. behind ys rest) en ∙ (sym (behind-one_more out s rest) ∙ (ap (behind out) (sym here) ∙ so))

pub told_no_number : (e : Environment) (a : Option ℕ) (whole : Option (List Statement)) (xs : List (Next Comma NumberTree)) (i : ℕ) (x : Next Comma NumberTree) (o : Option Statement) (out : List Statement) → i < length xs → x ≡ get_or xs i x → o ≡ cited_by_number e a x.tree → o ≡ None → behind out (cited_by_numbers e a (map tree_of (drop i xs))) ≡ whole → None ≡ whole
told_no_number e a whole xs i x o out lt at h is so =
    let rest : Option (List Statement) = cited_by_numbers e a (map tree_of (drop (i + 1) xs)) in
    let here : cited_by_numbers e a (map tree_of (drop i xs)) ≡ None = ap (cited_by_numbers e a) (map-from_here xs i x lt at) ∙ ap (λ p. in_front_of p rest) (sym h ∙ is) in
    ap (behind out) (sym here) ∙ so

pub told_no_first_number : (e : Environment) (a : Option ℕ) (ns : Separated NumberTree) (o : Option Statement) → o ≡ cited_by_number e a ns.first → o ≡ None → None ≡ cited_by_numbers e a (members ns)
told_no_first_number e a ns o h is = ap (λ p. in_front_of p (cited_by_numbers e a (map tree_of ns.more))) (sym is ∙ h)

pub told_all_numbers : (e : Environment) (a : Option ℕ) (whole : Option (List Statement)) (xs : List (Next Comma NumberTree)) (i : ℕ) (out : List Statement) → i ≡ length xs → behind out (cited_by_numbers e a (map tree_of (drop i xs))) ≡ whole → Some out ≡ whole
told_all_numbers e a whole xs i out ei so =
    ap Some (sym (append-nil out)) ∙ (ap (λ ys. behind out (cited_by_numbers e a ys)) (sym (map-none_from_here xs i ei)) ∙ so)

pub ruleset number_rules = (told_first_number, told_number, told_no_number, told_no_first_number, told_all_numbers)

-- references
more_cited : (out ss : List Statement) (place : Place) (o : Result (List Statement) Place) → result_behind out (with_cited place (Some ss) o) ≡ result_behind (out ++ ss) o
more_cited out ss place (Err p) = refl
more_cited out ss place (Ok ts) = ap Ok (sym (append_assoc out ss ts))

result_behind-nothing_before : (o : Result (List Statement) Place) → result_behind [] o ≡ o
result_behind-nothing_before (Err p) = refl
result_behind-nothing_before (Ok ss) = refl

pub result_behind-told_first_reference : (e : Environment) (c : Context) (rs : Separated ReferenceTree) (o : Option (List Statement)) (ss start out : List Statement) → o ≡ cited_by e c rs.first → o ≡ Some ss → start ≡ [] → out ≡ start ++ ss → result_behind out (cites e c (map tree_of (drop 0 rs.more))) ≡ cites e c (members rs)
result_behind-told_first_reference e c rs o ss start out h is es eo =
    let rest : Result (List Statement) Place = cites e c (map tree_of rs.more) in
    ap (λ xs. result_behind xs rest) (eo ∙ ap (λ xs. xs ++ ss) es) ∙
    (sym (more_cited [] ss (place_of rs.first) rest) ∙ (result_behind-nothing_before (with_cited (place_of rs.first) (Some ss) rest) ∙ ap (λ p. with_cited (place_of rs.first) p rest) (sym is ∙ h)))

pub result_behind-told_reference : (e : Environment) (c : Context) (whole : Result (List Statement) Place) (xs : List (Next Comma ReferenceTree)) (i : ℕ) (x : Next Comma ReferenceTree) (o : Option (List Statement)) (ss out new : List Statement) → i < length xs → x ≡ get_or xs i x → o ≡ cited_by e c x.tree → o ≡ Some ss → new ≡ out ++ ss → result_behind out (cites e c (map tree_of (drop i xs))) ≡ whole → result_behind new (cites e c (map tree_of (drop (i + 1) xs))) ≡ whole
result_behind-told_reference e c whole xs i x o ss out new lt at h is en so =
    let rest : Result (List Statement) Place = cites e c (map tree_of (drop (i + 1) xs)) in
    let here : cites e c (map tree_of (drop i xs)) ≡ with_cited (place_of x.tree) (Some ss) rest = ap (cites e c) (map-from_here xs i x lt at) ∙ ap (λ p. with_cited (place_of x.tree) p rest) (sym h ∙ is) in
    ap (λ ys. result_behind ys rest) en ∙ (sym (more_cited out ss (place_of x.tree) rest) ∙ (ap (result_behind out) (sym here) ∙ so))

pub told_no_reference : (e : Environment) (c : Context) (whole : Result (List Statement) Place) (xs : List (Next Comma ReferenceTree)) (i : ℕ) (x : Next Comma ReferenceTree) (o : Option (List Statement)) (out : List Statement) (place : Place) → i < length xs → x ≡ get_or xs i x → o ≡ cited_by e c x.tree → o ≡ None → place ≡ place_of x.tree → result_behind out (cites e c (map tree_of (drop i xs))) ≡ whole → Err place ≡ whole
told_no_reference e c whole xs i x o out place lt at h is ep so =
    let rest : Result (List Statement) Place = cites e c (map tree_of (drop (i + 1) xs)) in
    let here : cites e c (map tree_of (drop i xs)) ≡ Err (place_of x.tree) = ap (cites e c) (map-from_here xs i x lt at) ∙ ap (λ p. with_cited (place_of x.tree) p rest) (sym h ∙ is) in
    ap Err ep ∙ (ap (result_behind out) (sym here) ∙ so)

pub told_no_first_reference : (e : Environment) (c : Context) (rs : Separated ReferenceTree) (o : Option (List Statement)) (place : Place) → o ≡ cited_by e c rs.first → o ≡ None → place ≡ place_of rs.first → Err place ≡ cites e c (members rs)
told_no_first_reference e c rs o place h is ep = ap Err ep ∙ ap (λ p. with_cited (place_of rs.first) p (cites e c (map tree_of rs.more))) (sym is ∙ h)

pub told_all_references : (e : Environment) (c : Context) (whole : Result (List Statement) Place) (xs : List (Next Comma ReferenceTree)) (i : ℕ) (out : List Statement) → i ≡ length xs → result_behind out (cites e c (map tree_of (drop i xs))) ≡ whole → Ok out ≡ whole
told_all_references e c whole xs i out ei so =
    ap Ok (sym (append-nil out)) ∙ (ap (λ ys. result_behind out (cites e c ys)) (sym (map-none_from_here xs i ei)) ∙ so)

pub ruleset reference_rules = (result_behind-told_first_reference, result_behind-told_reference, told_no_reference, told_no_first_reference, told_all_references)
