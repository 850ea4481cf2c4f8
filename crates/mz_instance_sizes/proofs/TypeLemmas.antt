-- Sizes of instances of types.
use Rattle.std.proofs.Common.{◌≡◌, suc, List, [], ◌∷◌, map, refl, ap, ◌∙◌, Bool}
use Rattle.mz_logic.specs.Term.{Term, Terms, terms_of}
use Rattle.mz_logic.specs.Instance.{term_instance}
use Rattle.mz_logic.specs.declared.letters.Letter.{Letter}
use Rattle.mz_logic.proofs.InstanceLemmas.{args_instance-terms_of}
use Rattle.mz_core.specs.declared.adjective.Adjective.{Adjective}
use Rattle.mz_core.specs.declared.soft_type.SoftType.{SoftType}
use Rattle.mz_ground.specs.Instance.{args_nodes}
use Rattle.mz_sizes.specs.Sizes.{args_depth, adjective_nodes, adjective_depth, adjectives_nodes, adjectives_depth, type_nodes, type_depth, type_keeps}
use Rattle.mz_following.specs.TypeInstance.{adjective_instance, type_instance}
use Rattle.mz_instance_sizes.specs.Sizes.{capped, is_kept, above, beside, all_beside, term_size, adjectives_size, type_size}
use Rattle.mz_instance_sizes.specs.Instances.{terms_instance_size, adjective_instance_size, type_instance_size}
use Rattle.mz_instance_sizes.specs.declared.size.Size.{Size}
use Rattle.mz_instance_sizes.proofs.SizeLemmas.{above-capped, beside-capped, kept-capped}
use Rattle.mz_instance_sizes.proofs.InstanceLemmas.{sizes-instance, all-beside}

below : (ls : List Letter) (us : List Term) → terms_instance_size ls us ≡ capped (suc (args_nodes (terms_of (map (term_instance ls) us)))) (suc (args_depth (terms_of (map (term_instance ls) us))))
below ls us =
    let vs : Terms = terms_of (map (term_instance ls) us) in
    ap above (ap all_beside (sizes-instance ls (terms_of us) ∙ ap (map term_size) (args_instance-terms_of ls us)) ∙ all-beside (map (term_instance ls) us)) ∙ above-capped (args_nodes vs) (args_depth vs)

adjectives-instance : (ls : List Letter) (xs : List Adjective) → all_beside (map (adjective_instance_size ls) xs) ≡ adjectives_size (map (adjective_instance ls) xs)
adjectives-instance ls [] = refl
adjectives-instance ls (a ∷ xs) =
    let b : Adjective = adjective_instance ls a in
    let ys : List Adjective = map (adjective_instance ls) xs in
    (λ i. beside (below ls a.args i) (adjectives-instance ls xs i)) ∙ beside-capped (adjective_nodes b) (adjectives_nodes ys) (adjective_depth b) (adjectives_depth ys)

type-instance : (ls : List Letter) (ty : SoftType) → type_instance_size ls ty ≡ type_size (type_instance ls ty)
type-instance ls ty =
    let vs : Terms = terms_of (map (term_instance ls) ty.radix.args) in
    let ys : List Adjective = map (adjective_instance ls) ty.adjectives in
    (λ i. beside (below ls ty.radix.args i) (adjectives-instance ls ty.adjectives i)) ∙ beside-capped (suc (args_nodes vs)) (adjectives_nodes ys) (suc (args_depth vs)) (adjectives_depth ys)

pub told_type_kept : (ls : List Letter) (ty : SoftType) (x : Size) (b : Bool) → x ≡ type_instance_size ls ty → b ≡ is_kept x → b ≡ type_keeps (type_instance ls ty)
told_type_kept ls ty x b ex eb = eb ∙ ap is_kept (ex ∙ type-instance ls ty) ∙ kept-capped (type_nodes (type_instance ls ty)) (type_depth (type_instance ls ty))

pub ruleset keep_rules = (told_type_kept)
