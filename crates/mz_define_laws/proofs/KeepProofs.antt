-- By a block of definitions the clauses only grow, and where an article stood soundly it does behind.
use Rattle.std.proofs.Common.{ℕ, List, []}
use Rattle.std.specs.Prelude.{if◌then◌else◌}
use Rattle.std.proofs.lemmas.List.Elements.{Contains-append_left, Contains-append_right}
use Rattle.mz_base.specs.declared.place.Place.{Place}
use Rattle.mz_ground.proofs.ListLemmas.{extends_itself, extends_further}
use Rattle.mz_context.specs.Context.{next}
use Rattle.mz_let.specs.Lets as lets
use Rattle.mz_let.specs.Lets.{Lets}
use Rattle.mz_obligations.specs.declared.obligation.Obligation.{Obligation}
use Rattle.mz_standing.specs.declared.standing.Standing.{Standing}
use Rattle.mz_standing_laws.specs.Soundly.{Setting, StandsSoundly}
use Rattle.mz_standing_laws.specs.Kinds.{HasGrown, GrowsLaw, KeepsSoundly}
use Rattle.mz_standing_laws.proofs.KindProofs.{grows_all_law}
use Rattle.mz_structure.specs.Structures.{Structures}
use Rattle.mz_structure_laws.proofs.KindProofs.{structures_grow, structures_keep}
use Rattle.mz_taken.specs.OneByOne.{OneByOne, none_left, one_refused, one_taken}
use Rattle.mz_taken.specs.Taken.{Taken, Made, Refused, behind}
use Rattle.mz_tree_heading.specs.declared.heading.HeadingTree.{HeadingTree}
use Rattle.mz_tree_heading.specs.declared.structure.StructureTree.{StructureTree}
use Rattle.mz_tree_item.specs.declared.definition.ConditionOrPropertyTree.{ConditionOrPropertyTree}
use Rattle.mz_tree_item.specs.declared.definition.DefinitionTree.{DefinitionTree}
use Rattle.mz_tree_part.specs.declared.notation.BlockLetTree.{BlockLetTree}
use Rattle.mz_loci_laws.specs.Block.{StandsInBlock}
use Rattle.mz_loci_laws.proofs.BlockProofs as blocks
use Rattle.mz_define.specs.Headings as head
use Rattle.mz_define.specs.Headings.{Heads}
use Rattle.mz_define.specs.Defines as rule
use Rattle.mz_define.specs.Defines.{PlacedPart, with_places, TakesPart, ended, Defines}
use Rattle.mz_heading_laws.specs.Laws.{KeepsInBlock}
use Rattle.mz_heading_laws.proofs.HeadingProofs.{predicate_grows, attribute_grows, functor_grows, mode_grows, predicate_keeps, attribute_keeps, functor_keeps, mode_keeps, abbreviation_grows, abbreviation_keeps}

-- the clauses only grow

let_grows : (least : ℕ) (s : Standing) (t : BlockLetTree) (w : Taken Standing) → Lets least s t w → HasGrown s w
let_grows least s t w (lets.not_declared r after h) = tt
let_grows least s t w (lets.declared vs after h) = extends_itself s.clauses

heading_grows : (least : ℕ) (s : Standing) (place : Place) (t : HeadingTree) (ws : List ConditionOrPropertyTree) (w : Taken Standing) → Heads least s place t ws w → HasGrown s w
heading_grows least s place _ _ _ (head.predicate t ws o h) = predicate_grows least s t ws place o h
heading_grows least s place _ _ _ (head.structure t ws o h) = structures_grow least s (t, ws) o h
heading_grows least s place _ _ _ (head.functor t ws o h) = functor_grows least s t ws place o h
heading_grows least s place _ _ _ (head.attribute t ws o h) = attribute_grows least s t ws place o h
heading_grows least s place _ _ _ (head.mode t ws o h) = mode_grows least s t ws place o h
heading_grows least s place _ _ _ (head.abbreviation t ws o h) = abbreviation_grows least s t ws place o h
heading_grows least s place _ _ _ (head.redefined_functor p t ws) = tt
heading_grows least s place _ _ _ (head.redefined_predicate p t ws) = tt
heading_grows least s place _ _ _ (head.redefined_attribute p t ws) = tt
heading_grows least s place _ _ _ (head.redefined_mode p t ws) = tt

part_grows : (least : ℕ) → GrowsLaw (TakesPart least)
part_grows least s _ _ (rule.loci t place o h) = let_grows least s t o h
part_grows least s _ _ (rule.heading t ws place o h) = heading_grows least s place t ws o h

parts_grow : (least : ℕ) (s : Standing) (ps : List PlacedPart) (w : Taken Standing) → OneByOne (TakesPart least) s ps w → HasGrown s w
parts_grow least s ps w h = grows_all_law (TakesPart least) (part_grows least) s ps w h

ended_grows : (least : ℕ) (s : Standing) (w : Taken Standing) → HasGrown s w → HasGrown s (ended least w)
ended_grows least s (Made os t) h = h
ended_grows least s (Refused r) h = tt

pub definitions_grows : GrowsLaw Defines
definitions_grows s t _ (rule.block o h) = ended_grows (next s.context) s o (parts_grow (next s.context) s (with_places t.end t.parts) o h)

-- it stands soundly but for the loci

let_keeps : (g : Setting) (least : ℕ) (s : Standing) (t : BlockLetTree) (w : Taken Standing) → StandsInBlock g least s → Lets least s t w → KeepsInBlock g least w
let_keeps g least s t w b (lets.not_declared r after h) = tt
let_keeps g least s t w b (lets.declared vs after h) = λ final grows decided. blocks.let_law g least s (lets.with_loci s vs after) t [] b (lets.declared vs after h)

structure_keeps : (g : Setting) (least : ℕ) (s : Standing) (t : StructureTree) (ws : List ConditionOrPropertyTree) (w : Taken Standing) → StandsInBlock g least s → Structures least s t ws w → KeepsInBlock g least w
structure_keeps g least s t ws (Made os u) b h = structures_keep g least s (t, ws) (Made os u) b h
structure_keeps g least s t ws (Refused r) b h = tt

heading_keeps : (g : Setting) (least : ℕ) (s : Standing) (place : Place) (t : HeadingTree) (ws : List ConditionOrPropertyTree) (w : Taken Standing) → StandsInBlock g least s → Heads least s place t ws w → KeepsInBlock g least w
heading_keeps g least s place _ _ _ b (head.predicate t ws o h) = predicate_keeps g least s t ws place o b h
heading_keeps g least s place _ _ _ b (head.structure t ws o h) = structure_keeps g least s t ws o b h
heading_keeps g least s place _ _ _ b (head.functor t ws o h) = functor_keeps g least s t ws place o b h
heading_keeps g least s place _ _ _ b (head.attribute t ws o h) = attribute_keeps g least s t ws place o b h
heading_keeps g least s place _ _ _ b (head.mode t ws o h) = mode_keeps g least s t ws place o b h
heading_keeps g least s place _ _ _ b (head.abbreviation t ws o h) = abbreviation_keeps g least s t ws place o b h
heading_keeps g least s place _ _ _ b (head.redefined_functor p t ws) = tt
heading_keeps g least s place _ _ _ b (head.redefined_predicate p t ws) = tt
heading_keeps g least s place _ _ _ b (head.redefined_attribute p t ws) = tt
heading_keeps g least s place _ _ _ b (head.redefined_mode p t ws) = tt

part_keeps : (g : Setting) (least : ℕ) (s : Standing) (p : PlacedPart) (w : Taken Standing) → StandsInBlock g least s → TakesPart least s p w → KeepsInBlock g least w
part_keeps g least s _ _ b (rule.loci t place o h) = let_keeps g least s t o b h
part_keeps g least s _ _ b (rule.heading t ws place o h) = heading_keeps g least s place t ws o b h

behind_keeps : (g : Setting) (least : ℕ) (t : Standing) (os : List Obligation) (w : Taken Standing) → KeepsInBlock g least (Made os t) → (StandsInBlock g least t → KeepsInBlock g least w) → HasGrown t w → KeepsInBlock g least (behind os w)
behind_keeps g least t os (Made ps u) first later further =
    λ final grows decided.
    later (first final (extends_further t.clauses u.clauses final further grows) (λ o is. decided o (Contains-append_left os ps o is))) final grows (λ o is. decided o (Contains-append_right os ps o is))
behind_keeps g least t os (Refused r) first later further = tt

parts_keep : (g : Setting) (least : ℕ) {s : Standing} {ps : List PlacedPart} {w : Taken Standing} → StandsInBlock g least s → OneByOne (TakesPart least) s ps w → KeepsInBlock g least w
parts_keep g least b (none_left s) = λ final grows decided. b
parts_keep g least b (one_refused s x xs r h) = tt
parts_keep g least b (one_taken s t x xs os w h k) = behind_keeps g least t os w (part_keeps g least s x (Made os t) b h) (λ there. parts_keep g least there k) (parts_grow least t xs w k)

ended_keeps : (g : Setting) (least : ℕ) (s : Standing) (w : Taken Standing) → HasGrown s w → KeepsInBlock g least w → KeepsSoundly g s (ended least w)
ended_keeps g least s (Made os t) grown h = (grown, λ final grows decided. blocks.end_law g least t (h final grows decided))
ended_keeps g least s (Refused r) grown h = tt

pub definitions_keep : (g : Setting) (s : Standing) (t : DefinitionTree) (w : Taken Standing) → StandsSoundly g s → Defines s t w → KeepsSoundly g s w
definitions_keep g s t _ sound (rule.block o h) =
    ended_keeps g (next s.context) s o (parts_grow (next s.context) s (with_places t.end t.parts) o h) (parts_keep g (next s.context) (blocks.block_law g s sound) h)
