-- Pairs of disjuncts.
use Rattle.std.proofs.Common.{◌≡◌, ◌<◌, ℕ, suc, ◌+◌, ◌*◌, List, [], ◌∷◌, ◌++◌, map, length, take, get_or, refl, ap, sym, ◌∙◌, append_assoc, add-one, arith}
use Rattle.std.specs.Prelude.{slice_get, Option, None, Some}
use Rattle.std.proofs.Math.Nat.{suc-mul}
use Rattle.std.proofs.Math.Seq.{take-suc}
use Rattle.std.proofs.lemmas.List.{append-nil, map-append, length-append, length-map}
use Rattle.std.proofs.lemmas.Grind.{flat_map-append}
use Rattle.mz_logic.specs.declared.disjunct.Disjunct.{Disjunct}
use Rattle.mz_nf.specs.Disjunct.{empty, joined, pairs}

joined-empty : (d : Disjunct) → joined d empty ≡ d
joined-empty d i = record { literals = append-nil d.literals i; universals = append-nil d.universals i }

joined_assoc : (d e f : Disjunct) → joined (joined d e) f ≡ joined d (joined e f)
joined_assoc d e f i = record { literals = append_assoc d.literals e.literals f.literals i; universals = append_assoc d.universals e.universals f.universals i }

map-joined : (d e : Disjunct) (fs : List Disjunct) → map (joined (joined d e)) fs ≡ map (joined d) (map (joined e) fs)
map-joined d e [] = refl
map-joined d e (f ∷ fs) = λ i. joined_assoc d e f i ∷ map-joined d e fs i

pub pairs-append : (ds es fs : List Disjunct) → pairs (ds ++ es) fs ≡ pairs ds fs ++ pairs es fs
pairs-append ds es fs = flat_map-append (λ d. map (joined d) fs) ds es

pairs-map : (d : Disjunct) (es fs : List Disjunct) → pairs (map (joined d) es) fs ≡ map (joined d) (pairs es fs)
pairs-map d [] fs = refl
pairs-map d (e ∷ es) fs =
    (λ i. map-joined d e fs i ++ pairs-map d es fs i) ∙ sym (map-append (joined d) (map (joined e) fs) (pairs es fs))

pub pairs_assoc : (ds es fs : List Disjunct) → pairs (pairs ds es) fs ≡ pairs ds (pairs es fs)
pairs_assoc [] es fs = refl
pairs_assoc (d ∷ ds) es fs = pairs-append (map (joined d) es) (pairs ds es) fs ∙ (λ i. pairs-map d es fs i ++ pairs_assoc ds es fs i)

pub pairs-empty : (ds : List Disjunct) → pairs ds (empty ∷ []) ≡ ds
pairs-empty [] = refl
pairs-empty (d ∷ ds) = λ i. joined-empty d i ∷ pairs-empty ds i

map-joined_empty : (es : List Disjunct) → map (joined empty) es ≡ es
map-joined_empty [] = refl
map-joined_empty (e ∷ es) = ap (λ x. e ∷ x) (map-joined_empty es)

pub empty-pairs : (es : List Disjunct) → pairs (empty ∷ []) es ≡ es
empty-pairs es = append-nil (map (joined empty) es) ∙ map-joined_empty es

pub length-pairs : (ds es : List Disjunct) → length (pairs ds es) ≡ length ds * length es
length-pairs [] es = omega arith
length-pairs (d ∷ ds) es =
    let one : length (map (joined d) es ++ pairs ds es) ≡ length (map (joined d) es) + length (pairs ds es) = length-append (map (joined d) es) (pairs ds es) in
    let each : length (map (joined d) es) ≡ length es = length-map es (joined d) in
    let rest : length (pairs ds es) ≡ length ds * length es = length-pairs ds es in
    let times : suc (length ds) * length es ≡ length ds * length es + length es = suc-mul (length ds) (length es) in
    let here : length (map (joined d) es) + length (pairs ds es) ≡ length ds * length es + length es = omega arith in
    one ∙ here ∙ sym times

-- a step of the loop over the first list
pub told_pairs : (ds es out more : List Disjunct) (d : Disjunct) (i : ℕ) → more ≡ out ++ map (joined d) es → out ≡ pairs (take i ds) es → d ≡ get_or ds i d → i < length ds → more ≡ pairs (take (i + 1) ds) es
told_pairs ds es out more d i em eo g lt =
    let next : take (i + 1) ds ≡ take i ds ++ d ∷ [] = ap (λ n. take n ds) (add-one i) ∙ take-suc ds i d lt ∙ ap (λ y. take i ds ++ y ∷ []) (sym g) in
    let one : pairs (d ∷ []) es ≡ map (joined d) es = append-nil (map (joined d) es) in
    let whole : pairs (take (i + 1) ds) es ≡ pairs (take i ds) es ++ map (joined d) es = ap (λ xs. pairs xs es) next ∙ pairs-append (take i ds) (d ∷ []) es ∙ ap (λ x. pairs (take i ds) es ++ x) one in
    em ∙ ap (λ x. x ++ map (joined d) es) eo ∙ sym whole

pub ruleset pair_rules = (told_pairs)

-- pairs with a single disjunct
pub pairs-single : (ds : List Disjunct) (e : Disjunct) → pairs ds (e ∷ []) ≡ map (λ d. joined d e) ds
pairs-single [] e = refl
pairs-single (d ∷ ds) e = ap (λ x. joined d e ∷ x) (pairs-single ds e)

abbrev disjunct_or : Disjunct → Option Disjunct → Disjunct
disjunct_or x None = x
disjunct_or x (Some y) = y

single_of : (es : List Disjunct) (e : Disjunct) → length es ≡ 1 → slice_get es 0 ≡ Some e → es ≡ e ∷ []
single_of [] e l g = absurd (omega (arith, l))
single_of (x ∷ []) e l g = ap (λ y. disjunct_or x y ∷ []) g
single_of (x ∷ y ∷ es) e l g = absurd (omega (arith, l))

pub pairs-one : (ds es : List Disjunct) (e : Disjunct) → length es ≡ 1 → slice_get es 0 ≡ Some e → pairs ds es ≡ map (λ d. joined d e) ds
pairs-one ds es e l g = ap (pairs ds) (single_of es e l g) ∙ pairs-single ds e
