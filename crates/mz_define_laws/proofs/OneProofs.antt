-- One thing at most comes of a block of definitions.
use Rattle.std.proofs.Common.{◌≡◌, ℕ, List, [], refl, ap}
use Rattle.std.specs.Prelude.{Ok, Err}
use Rattle.mz_base.specs.declared.place.Place.{Place}
use Rattle.mz_context.specs.Context.{next}
use Rattle.mz_justified.specs.declared.proof_fault.ProofRefusal.TheVariants.{Resolve}
use Rattle.mz_justified_laws.specs.Determined.{AtMostOne}
use Rattle.mz_justified_laws.proofs.Sequence.{one_by, one_value, AfterRead, one_after_read}
use Rattle.mz_let.specs.Lets as lets
use Rattle.mz_let.specs.Lets.{Lets, with_loci}
use Rattle.mz_names.specs.declared.refusal.Refusal.{Refusal}
use Rattle.mz_parts.specs.Declarations.{DeclarationsRead}
use Rattle.mz_parts_laws.proofs.OneDeclaration.{one_declarations}
use Rattle.mz_standing.specs.declared.standing.Standing.{Standing}
use Rattle.mz_structure_laws.proofs.KindProofs.{one_structure}
use Rattle.mz_taken.specs.OneByOne.{OneLaw}
use Rattle.mz_taken.specs.Taken.{Taken, Made, Refused}
use Rattle.mz_taken.specs.declared.item_fault.ItemRefusal.TheVariants.{Proof}
use Rattle.mz_taken.proofs.OneByOneProofs.{one_all}
use Rattle.mz_tree_heading.specs.declared.heading.HeadingTree.{HeadingTree}
use Rattle.mz_tree_item.specs.declared.definition.ConditionOrPropertyTree.{ConditionOrPropertyTree}
use Rattle.mz_tree_part.specs.declared.notation.BlockLetTree.{BlockLetTree}
use Rattle.mz_define.specs.Headings as head
use Rattle.mz_define.specs.Headings.{Heads}
use Rattle.mz_define.specs.Defines as rule
use Rattle.mz_define.specs.Defines.{PlacedPart, TakesPart, ended, Defines}
use Rattle.mz_heading_laws.proofs.OneProofs.{one_predicate, one_attribute, one_functor, one_mode, one_abbreviation}

abbrev unread : Refusal → Taken Standing
unread r = Refused (Proof (Resolve r))

-- loci

abbrev LetAs : ℕ → Standing → BlockLetTree → Taken Standing → Type 0
LetAs least s t = AfterRead (DeclarationsRead s.environment s.context least s.left t.declarations) unread (λ vs l o. o ≡ Made [] (with_loci s vs l))

let_as : (least : ℕ) (s : Standing) (t : BlockLetTree) (o : Taken Standing) → Lets least s t o → LetAs least s t o
let_as least s t o (lets.not_declared r after h) = (Err r, after, h, refl)
let_as least s t o (lets.declared vs after h) = (Ok vs, after, h, refl)

one_let : (least : ℕ) (s : Standing) (t : BlockLetTree) → AtMostOne (Lets least s t)
one_let least s t =
    one_by (Lets least s t) (LetAs least s t) (let_as least s t)
    (one_after_read (DeclarationsRead s.environment s.context least s.left t.declarations) unread (λ vs l o. o ≡ Made [] (with_loci s vs l)) (one_declarations s.environment s.context least s.left t.declarations) (λ vs l. one_value (Made [] (with_loci s vs l))))

-- headings

one_heading : (least : ℕ) (s : Standing) (place : Place) {t : HeadingTree} {ws : List ConditionOrPropertyTree} {v w : Taken Standing} → Heads least s place t ws v → Heads least s place t ws w → v ≡ w
one_heading least s place (head.predicate t ws o h) (head.predicate _ _ p k) = one_predicate least s t ws place o p h k
one_heading least s place (head.structure t ws o h) (head.structure _ _ p k) = one_structure least s (t, ws) o p h k
one_heading least s place (head.functor t ws o h) (head.functor _ _ p k) = one_functor least s t ws place o p h k
one_heading least s place (head.attribute t ws o h) (head.attribute _ _ p k) = one_attribute least s t ws place o p h k
one_heading least s place (head.mode t ws o h) (head.mode _ _ p k) = one_mode least s t ws place o p h k
one_heading least s place (head.abbreviation t ws o h) (head.abbreviation _ _ p k) = one_abbreviation least s t ws place o p h k
one_heading least s place (head.redefined_functor p t ws) (head.redefined_functor _ _ _) = refl
one_heading least s place (head.redefined_predicate p t ws) (head.redefined_predicate _ _ _) = refl
one_heading least s place (head.redefined_attribute p t ws) (head.redefined_attribute _ _ _) = refl
one_heading least s place (head.redefined_mode p t ws) (head.redefined_mode _ _ _) = refl

-- blocks

one_part : (least : ℕ) (s : Standing) {p : PlacedPart} {v w : Taken Standing} → TakesPart least s p v → TakesPart least s p w → v ≡ w
one_part least s (rule.loci t place o h) (rule.loci _ _ p k) = one_let least s t o p h k
one_part least s (rule.heading t ws place o h) (rule.heading _ _ _ p k) = one_heading least s place h k

pub definitions_one : OneLaw Defines
definitions_one s t _ _ (rule.block o h) (rule.block p k) = ap (ended (next s.context)) (one_all (TakesPart (next s.context)) (λ u x v w i j. one_part (next s.context) u i j) h k)
