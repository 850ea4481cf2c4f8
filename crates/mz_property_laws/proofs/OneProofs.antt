-- One thing at most comes of properties.
use Rattle.std.proofs.Common.{◌≡◌, ◌∙◌, ℕ, true, false, refl, sym, ap, subst, Option, Some, None}
use Rattle.mz_core.specs.declared.item.Item.{Item}
use Rattle.mz_core.specs.declared.item.Item.TheVariants as item
use Rattle.mz_core.specs.declared.property.Property.{Property as TheProperty}
use Rattle.mz_conditions.specs.Conditions.{plain_sentence}
use Rattle.mz_loci.specs.Loci.{statement_at_loci}
use Rattle.mz_owed.specs.declared.owed.Owed.{Owed}
use Rattle.mz_properties.specs.Properties as rule
use Rattle.mz_properties.specs.Properties.{stated, behind_judged, TakesKnown, TakesProperty, TakesFurther}
use Rattle.mz_standing.specs.Standing.{extent_of}
use Rattle.mz_standing.specs.declared.standing.Standing.{Standing}
use Rattle.mz_taken.specs.Taken.{Taken}
use Rattle.mz_taken.proofs.OneByOneProofs.{one_all}
use Rattle.mz_tree_item.specs.declared.definition.ConditionOrPropertyTree.{ConditionOrPropertyTree}
use Rattle.mz_tree_item.specs.declared.definition.PropertyTree.{PropertyTree}
use Rattle.mz_condition_laws.proofs.OneConditions.{one_justified_law}
use Rattle.mz_property_laws.specs.Laws.{OnePropertiesLaw}

true_false : true ≡ false → ⊥
true_false e = cc

abbrev there : TheProperty → Option TheProperty
there p = Some p

none_there : (p : TheProperty) → None ≡ there p → ⊥
none_there p e = cc

same_there : (p q : TheProperty) → there p ≡ there q → p ≡ q
same_there p q e = cc

one_known : (least count : ℕ) (p : TheProperty) (s : Standing) (t : PropertyTree) {v w : Taken Standing} → TakesKnown least count p s t v → TakesKnown least count p s t w → v ≡ w
one_known least count p s t (rule.too_large e) (rule.too_large f) = refl
one_known least count p s t (rule.too_large e) (rule.judged n f k) = absurd (true_false (sym f ∙ e))
one_known least count p s t (rule.judged o e h) (rule.too_large f) = absurd (true_false (sym e ∙ f))
one_known least count p s t (rule.judged o e h) (rule.judged n f k) =
    ap (behind_judged s (item.Property p)) (one_justified_law s.environment (extent_of s) s.context t.place false t.semicolon t.just (plain_sentence (statement_at_loci least count (stated p))) s.left o n h k)

one_property : (least count : ℕ) (x : Item) (s : Standing) (t : PropertyTree) {v w : Taken Standing} → TakesProperty least count x s t v → TakesProperty least count x s t w → v ≡ w
one_property least count x s t (rule.stray e) (rule.stray f) = refl
one_property least count x s t (rule.stray e) (rule.known q n f k) = absurd (none_there q (sym e ∙ f))
one_property least count x s t (rule.known p o e h) (rule.stray f) = absurd (none_there p (sym f ∙ e))
one_property least count x s t (rule.known p o e h) (rule.known q n f k) =
    let same : p ≡ q = same_there p q (sym e ∙ f) in
    one_known least count p s t h (subst (λ (r : TheProperty). TakesKnown least count r s t n) (sym same) k)

one_further : (least count : ℕ) (x : Item) (owed : Owed) (s : Standing) {y : ConditionOrPropertyTree} {v w : Taken Standing} → TakesFurther least count x owed s y v → TakesFurther least count x owed s y w → v ≡ w
one_further least count x owed s (rule.property t o h) (rule.property _ n k) = one_property least count x s t h k
one_further least count x owed s (rule.condition t) (rule.condition _) = refl

pub one_properties : OnePropertiesLaw
one_properties least count x owed s ws v w h k = one_all (TakesFurther least count x owed) (λ u y a b i j. one_further least count x owed u i j) h k
