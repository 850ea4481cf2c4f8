-- Articles let in one after another.
use Rattle.std.proofs.Common.{◌≡◌, ℕ, suc, ◌+◌, ◌<◌, ◌≤◌, ◌⊎◌, inl, inr, List, [], ◌∷◌, ◌++◌, length, get_or, refl, sym, ap, ◌∙◌, subst, append_assoc, arith, Bool, true, false}
use Rattle.std.specs.Prelude.{take, Option, Some, None}
use Rattle.std.proofs.Math.Seq.{take-suc}
use Rattle.std.proofs.lemmas.List.{take_all}
use Rattle.mz_base.specs.declared.name.Name.{Name}
use Rattle.mz_core.specs.declared.outcome.Export.{Export}
use Rattle.mz_env.specs.Symbols.{is_among}
use Rattle.mz_env.specs.Visits.{export_named, Visits, no_more, again, absent, let_in}

-- one list of names and then another
pub followed : {exports : List Export} {begun middle later : List Name} {ns ms : List Name} {es fs : List Export} → Visits exports begun ns middle es → Visits exports middle ms later fs → Visits exports begun (ns ++ ms) later (es ++ fs)
followed no_more w = w
followed (again n ns is v) w = again n (ns ++ _) is (followed v w)
followed (absent n ns is none v) w = absent n (ns ++ _) is none (followed v w)
followed {exports = exports} {begun = begun} {later = later} {ms = ms} {fs = fs} (let_in {before = before} {after = after} n ns e is at inner v) w =
    subst (Visits exports begun (n ∷ ns ++ ms) later) (sym (append_assoc before (e ∷ after) fs)) (let_in n (ns ++ ms) e is at inner (followed v w))

-- one name
pub told_again : (exports : List Export) (begun : List Name) (n : Name) (es : List Export) (b : Bool) → b ≡ is_among n.number begun → b ≡ true → es ≡ [] → Visits exports begun (n ∷ []) begun es
told_again exports begun n es b is holds none = subst (Visits exports begun (n ∷ []) begun) (sym none) (again n [] (sym is ∙ holds) no_more)

pub told_absent : (exports : List Export) (begun : List Name) (n : Name) (es : List Export) (b : Bool) → b ≡ is_among n.number begun → b ≡ false → export_named exports n.number ≡ None → es ≡ [] → Visits exports begun (n ∷ []) begun es
told_absent exports begun n es b is fails at none = subst (Visits exports begun (n ∷ []) begun) (sym none) (absent n [] (sym is ∙ fails) at no_more)

pub told_let_in : (exports : List Export) (begun middle later : List Name) (n : Name) (e : Export) (before es : List Export) (b : Bool) → b ≡ is_among n.number begun → b ≡ false → export_named exports n.number ≡ Some e → middle ≡ begun ++ n ∷ [] → Visits exports middle e.dependencies later before → es ≡ before ++ e ∷ [] → Visits exports begun (n ∷ []) later es
told_let_in exports begun middle later n e before es b is fails at begins inner all =
    subst (Visits exports begun (n ∷ []) later) (sym all)
    (let_in n [] e (sym is ∙ fails) at (subst (λ m. Visits exports m e.dependencies later before) begins inner) no_more)

pub ruleset visit_rules = (told_again, told_absent, told_let_in)

-- the loop over names
pub told_start : (exports : List Export) (begun ns : List Name) (es : List Export) → es ≡ [] → Visits exports begun (take 0 ns) begun es
told_start exports begun ns es none = subst (Visits exports begun [] begun) (sym none) no_more

next_taken : (ns : List Name) (i : ℕ) (n : Name) → i < length ns → n ≡ get_or ns i n → take i ns ++ n ∷ [] ≡ take (i + 1) ns
next_taken ns i n lt at =
    let e : suc i ≡ i + 1 = omega arith in
    ap (λ v. take i ns ++ v ∷ []) at ∙ (sym (take-suc ns i n lt) ∙ ap (λ j. take j ns) e)

pub told_next : (exports : List Export) (begun middle later ns : List Name) (i : ℕ) (n : Name) (out more now : List Export) → i < length ns → n ≡ get_or ns i n → Visits exports begun (take i ns) middle out → Visits exports middle (n ∷ []) later more → now ≡ out ++ more → Visits exports begun (take (i + 1) ns) later now
told_next exports begun middle later ns i n out more now lt at v w all =
    subst (Visits exports begun (take (i + 1) ns) later) (sym all)
    (subst (λ ms. Visits exports begun ms later (out ++ more)) (next_taken ns i n lt at) (followed v w))

pub told_visited : (exports : List Export) (begun later ns : List Name) (i : ℕ) (out : List Export) → length ns ≤ i → Visits exports begun (take i ns) later out → Visits exports begun ns later out
told_visited exports begun later ns i out past v = subst (λ ms. Visits exports begun ms later out) (take_all i ns past) v

pub ruleset visits_rules = (told_start, told_next, told_visited)
