-- What the code of blocks tells.
use Rattle.std.proofs.Common.{◌≡◌, ℕ, List, [], ◌∷◌, length, refl, sym, ap, subst}
use Rattle.std.specs.Prelude.{Result, Ok, Err}
use Rattle.mz_context.specs.Context.{next}
use Rattle.mz_loci.specs.Loci.{behind_loci}
use Rattle.mz_let.specs.Lets.{Lets}
use Rattle.mz_obligations.specs.declared.obligation.Obligation.{Obligation}
use Rattle.mz_standing.specs.Standing.{with_context}
use Rattle.mz_standing.specs.declared.standing.Standing.{Standing}
use Rattle.mz_structure.specs.Structures.{Structures}
use Rattle.mz_taken.specs.Answers.{OnTaken, IsBrought, Brings, Leads}
use Rattle.mz_taken.specs.OneByOne.{OneByOne}
use Rattle.mz_taken.proofs.OneByOneProofs.{Reading, on_err, on_ok, told_turn, told_stop, told_end}
use Rattle.mz_base.specs.declared.place.Place.{Place}
use Rattle.mz_taken.specs.Taken.{Taken, Made, Refused}
use Rattle.mz_taken.specs.declared.item_fault.ItemFault.{ItemFault}
use Rattle.mz_tree_heading.specs.declared.heading.AbbreviationTree.{AbbreviationTree}
use Rattle.mz_tree_heading.specs.declared.heading.AttributeHeadingTree.{AttributeHeadingTree}
use Rattle.mz_tree_heading.specs.declared.heading.FunctorHeadingTree.{FunctorHeadingTree}
use Rattle.mz_tree_heading.specs.declared.heading.ModeHeadingTree.{ModeHeadingTree}
use Rattle.mz_tree_heading.specs.declared.heading.HeadingTree.{HeadingTree}
use Rattle.mz_tree_heading.specs.declared.heading.HeadingTree.TheVariants as tree
use Rattle.mz_tree_heading.specs.declared.heading.PredicateHeadingTree.{PredicateHeadingTree}
use Rattle.mz_tree_heading.specs.declared.meaning.MeaningTree.{MeaningTree}
use Rattle.mz_tree_heading.specs.declared.structure.StructureTree.{StructureTree}
use Rattle.mz_tree_item.specs.declared.definition.ConditionOrPropertyTree.{ConditionOrPropertyTree}
use Rattle.mz_tree_item.specs.declared.definition.DefinitionPartTree.{DefinitionPartTree}
use Rattle.mz_tree_item.specs.declared.definition.DefinitionPartTree.TheVariants.{Let, Heading}
use Rattle.mz_tree_item.specs.declared.definition.DefinitionTree.{DefinitionTree}
use Rattle.mz_tree_part.specs.declared.notation.BlockLetTree.{BlockLetTree}
use Rattle.mz_defined.specs.Atoms.{DefinesPredicate, DefinesAttribute}
use Rattle.mz_define.specs.Headings as head
use Rattle.mz_define.specs.Headings.{Heads}
use Rattle.mz_defined.specs.Functors.{DefinesFunctor, DefinesMode, DefinesAbbreviation}
use Rattle.mz_define.specs.Defines.{first_of_parts, with_places, TakesPart, loci, heading, ended, Defines, block}
use Rattle.mz_heading.proofs.AnswerLemmas.{brought_more, led_brings}

-- headings

pub told_predicate : {X : Type 0} (least : ℕ) (s u : Standing) (behind : Place) (os ps : List Obligation) (h : HeadingTree) (t : PredicateHeadingTree MeaningTree) (ws : List ConditionOrPropertyTree) (z : Result X ItemFault) → h ≡ tree.Predicate t →
    OnTaken z (Brings (DefinesPredicate least s t ws behind) u os ps) → OnTaken z (Brings (Heads least s behind h ws) u os ps)
told_predicate least s u behind os ps h t ws z is k =
    brought_more (DefinesPredicate least s t ws behind) (Heads least s behind h ws) u os ps z (λ o j. subst (λ x. Heads least s behind x ws o) (sym is) (head.predicate t ws o j)) k

pub told_attribute : {X : Type 0} (least : ℕ) (s u : Standing) (behind : Place) (os ps : List Obligation) (h : HeadingTree) (t : AttributeHeadingTree MeaningTree) (ws : List ConditionOrPropertyTree) (z : Result X ItemFault) → h ≡ tree.Attribute t →
    OnTaken z (Brings (DefinesAttribute least s t ws behind) u os ps) → OnTaken z (Brings (Heads least s behind h ws) u os ps)
told_attribute least s u behind os ps h t ws z is k =
    brought_more (DefinesAttribute least s t ws behind) (Heads least s behind h ws) u os ps z (λ o j. subst (λ x. Heads least s behind x ws o) (sym is) (head.attribute t ws o j)) k

pub told_structure : {X : Type 0} (least : ℕ) (s u : Standing) (behind : Place) (os ps : List Obligation) (h : HeadingTree) (t : StructureTree) (ws : List ConditionOrPropertyTree) (z : Result X ItemFault) → h ≡ tree.Structure t →
    OnTaken z (Brings (Structures least s t ws) u os ps) → OnTaken z (Brings (Heads least s behind h ws) u os ps)
told_structure least s u behind os ps h t ws z is k =
    brought_more (Structures least s t ws) (Heads least s behind h ws) u os ps z (λ o j. subst (λ x. Heads least s behind x ws o) (sym is) (head.structure t ws o j)) k

pub told_functor : {X : Type 0} (least : ℕ) (s u : Standing) (behind : Place) (os ps : List Obligation) (h : HeadingTree) (t : FunctorHeadingTree MeaningTree) (ws : List ConditionOrPropertyTree) (z : Result X ItemFault) → h ≡ tree.Functor t →
    OnTaken z (Brings (DefinesFunctor least s t ws behind) u os ps) → OnTaken z (Brings (Heads least s behind h ws) u os ps)
told_functor least s u behind os ps h t ws z is k =
    brought_more (DefinesFunctor least s t ws behind) (Heads least s behind h ws) u os ps z (λ o j. subst (λ x. Heads least s behind x ws o) (sym is) (head.functor t ws o j)) k

pub told_mode : {X : Type 0} (least : ℕ) (s u : Standing) (behind : Place) (os ps : List Obligation) (h : HeadingTree) (t : ModeHeadingTree MeaningTree) (ws : List ConditionOrPropertyTree) (z : Result X ItemFault) → h ≡ tree.Mode t →
    OnTaken z (Brings (DefinesMode least s t ws behind) u os ps) → OnTaken z (Brings (Heads least s behind h ws) u os ps)
told_mode least s u behind os ps h t ws z is k =
    brought_more (DefinesMode least s t ws behind) (Heads least s behind h ws) u os ps z (λ o j. subst (λ x. Heads least s behind x ws o) (sym is) (head.mode t ws o j)) k

pub told_abbreviation : {X : Type 0} (least : ℕ) (s u : Standing) (behind : Place) (os ps : List Obligation) (h : HeadingTree) (t : AbbreviationTree) (ws : List ConditionOrPropertyTree) (z : Result X ItemFault) → h ≡ tree.Abbreviation t →
    OnTaken z (Brings (DefinesAbbreviation least s t ws behind) u os ps) → OnTaken z (Brings (Heads least s behind h ws) u os ps)
told_abbreviation least s u behind os ps h t ws z is k =
    brought_more (DefinesAbbreviation least s t ws behind) (Heads least s behind h ws) u os ps z (λ o j. subst (λ x. Heads least s behind x ws o) (sym is) (head.abbreviation t ws o j)) k

pub ruleset heading_rules = (head.redefined_functor, head.redefined_predicate, head.redefined_attribute, head.redefined_mode)

-- parts

pub told_let : {X : Type 0} (least : ℕ) (s u : Standing) (behind : Place) (os : List Obligation) (p : DefinitionPartTree) (t : BlockLetTree) (z : Result X ItemFault) → p ≡ Let t → OnTaken z (Leads (Lets least s t) u) → OnTaken z (Brings (TakesPart least s (p, behind)) u os os)
told_let least s u behind os p t z is h = led_brings (Lets least s t) (TakesPart least s (p, behind)) u os z (λ o k. subst (λ (x : DefinitionPartTree). TakesPart least s (x, behind) o) (sym is) (loci t behind o k)) h

pub told_heading : {X : Type 0} (least : ℕ) (s u : Standing) (behind : Place) (os ps : List Obligation) (p : DefinitionPartTree) (t : HeadingTree) (ws vs : List ConditionOrPropertyTree) (z : Result X ItemFault) → p ≡ Heading t ws → vs ≡ ws →
    OnTaken z (Brings (Heads least s behind t vs) u os ps) → OnTaken z (Brings (TakesPart least s (p, behind)) u os ps)
told_heading least s u behind os ps p t ws vs z is same h =
    brought_more (Heads least s behind t vs) (TakesPart least s (p, behind)) u os ps z (λ o k. subst (λ (x : DefinitionPartTree). TakesPart least s (x, behind) o) (sym is) (heading t ws behind o (subst (λ xs. Heads least s behind t xs o) same k))) h

-- parts one after another, each with the place behind it

placed : (end : Place) (rest others : List DefinitionPartTree) (p : DefinitionPartTree) → rest ≡ p ∷ others → with_places end rest ≡ (p, first_of_parts end others) ∷ with_places end others
placed end rest others p e = ap (with_places end) e

pub told_part_turn : {Y : Type 0} (least : ℕ) (s u s0 : Standing) (os os2 os0 : List Obligation) (end behind : Place) (p : DefinitionPartTree) (rest others all : List DefinitionPartTree) (z : Result Y ItemFault) (v : Y) → rest ≡ p ∷ others → behind ≡ first_of_parts end others →
    OnTaken z (Brings (TakesPart least s (p, behind)) u os os2) → z ≡ Ok v → Reading (TakesPart least) s os (with_places end rest) s0 os0 (with_places end all) → Reading (TakesPart least) u os2 (with_places end others) s0 os0 (with_places end all)
told_part_turn least s u s0 os os2 os0 end behind p rest others all z v is eb h e so_far =
    told_turn (TakesPart least) s u s0 os os2 os0 (p, first_of_parts end others) (with_places end rest) (with_places end others) (with_places end all) z v (placed end rest others p is) (subst (λ (b : Place). OnTaken z (Brings (TakesPart least s (p, b)) u os os2)) eb h) e so_far

pub told_part_stop : {Y : Type 0} (Z : Type 0) (least : ℕ) (s u v s0 : Standing) (os os2 os0 qs : List Obligation) (end behind : Place) (p : DefinitionPartTree) (rest others all : List DefinitionPartTree) (z : Result Y ItemFault) (f : ItemFault) → rest ≡ p ∷ others → behind ≡ first_of_parts end others →
    OnTaken z (Brings (TakesPart least s (p, behind)) u os os2) → z ≡ Err f → Reading (TakesPart least) s os (with_places end rest) s0 os0 (with_places end all) → OnTaken {X = Z} (Err f) (Brings (OneByOne (TakesPart least) s0 (with_places end all)) v os0 qs)
told_part_stop Z least s u v s0 os os2 os0 qs end behind p rest others all z f is eb h e so_far =
    told_stop Z (TakesPart least) s u v s0 os os2 os0 qs (p, first_of_parts end others) (with_places end rest) (with_places end others) (with_places end all) z f (placed end rest others p is) (subst (λ (b : Place). OnTaken z (Brings (TakesPart least s (p, b)) u os os2)) eb h) e so_far

none_placed : (end : Place) (rest : List DefinitionPartTree) → length rest ≡ 0 → length (with_places end rest) ≡ 0
none_placed end [] e = refl
none_placed end (p ∷ ps) e = let wrong : ⊥ = cc in absurd wrong

pub told_parts_end : (least : ℕ) (s s0 : Standing) (os os0 : List Obligation) (end : Place) (rest all : List DefinitionPartTree) → length rest ≡ 0 → Reading (TakesPart least) s os (with_places end rest) s0 os0 (with_places end all) →
    IsBrought (λ ps. OneByOne (TakesPart least) s0 (with_places end all) (Made ps s)) os0 os
told_parts_end least s s0 os os0 end rest all none so_far = told_end (TakesPart least) s s0 os os0 (with_places end rest) (with_places end all) (none_placed end rest none) so_far

-- the block

abbrev Parts : ℕ → Standing → DefinitionTree → Taken Standing → Type 0
Parts least s t = OneByOne (TakesPart least) s (with_places t.end t.parts)

block_so : (least : ℕ) (s : Standing) (t : DefinitionTree) (o : Taken Standing) → least ≡ next s.context → Parts least s t o → Defines s t (ended least o)
block_so least s t o e h = subst (λ (n : ℕ). Defines s t (ended n o)) (sym e) (block o (subst (λ (n : ℕ). Parts n s t o) e h))

pub told_ended : {X : Type 0} (least : ℕ) (s u v : Standing) (os ps : List Obligation) (t : DefinitionTree) (z : Result X ItemFault) (y : X) → least ≡ next s.context → OnTaken z (Brings (Parts least s t) u os ps) → z ≡ Ok y → v ≡ with_context u (behind_loci u.context least) →
    IsBrought (λ qs. Defines s t (Made qs v)) os ps
told_ended {X} least s u v os ps t z y e h is ev =
    let b = on_ok (Brings (Parts least s t) u os ps) z y is h in
    record { made = b.made; is_made = subst (λ (w : Standing). Defines s t (Made b.made w)) (sym ev) (block_so least s t (Made b.made u) e b.is_made); are_last = b.are_last }

pub told_stopped : (X : Type 0) {Y : Type 0} (least : ℕ) (s u v : Standing) (os ps qs : List Obligation) (t : DefinitionTree) (z : Result Y ItemFault) (f : ItemFault) → least ≡ next s.context → OnTaken z (Brings (Parts least s t) u os ps) → z ≡ Err f →
    OnTaken {X = X} (Err f) (Brings (Defines s t) v os qs)
told_stopped X least s u v os ps qs t z f e h is = on_err (Brings (Parts least s t) u os ps) (Brings (Defines s t) v os qs) z f is h (λ r k. block_so least s t (Refused r) e k)
