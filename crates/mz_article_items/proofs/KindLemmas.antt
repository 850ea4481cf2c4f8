-- What the code that reads items of each kind tells.
use Rattle.std.proofs.Common.{◌≡◌, List, [], ◌++◌, append-nil, sym, subst}
use Rattle.std.specs.Prelude.{Result, Ok, Err}
use Rattle.mz_base.specs.declared.place.Place.{Place}
use Rattle.mz_obligations.specs.declared.obligation.Obligation.{Obligation}
use Rattle.mz_justified.specs.Answers.{OnMade}
use Rattle.mz_justified.specs.declared.proof_fault.ProofFault.{ProofFault}
use Rattle.mz_justified.specs.declared.proof_fault.ProofFault.TheVariants as reasoning
use Rattle.mz_walk.specs.Answers as walk
use Rattle.mz_walk.specs.Walked.{Walked}
use Rattle.mz_walk.specs.Walked as walked
use Rattle.mz_tree_proof.specs.Reasoning.{StatementData}
use Rattle.mz_tree_part.specs.declared.notation.NotationTree.{NotationTree}
use Rattle.mz_tree_part.specs.declared.reserve.ReserveTree.{ReserveTree}
use Rattle.mz_tree_item.specs.declared.definition.DefinitionTree.{DefinitionTree}
use Rattle.mz_tree_item.specs.declared.registration.RegistrationTree.{RegistrationTree}
use Rattle.mz_tree_item.specs.declared.schemes.SchemeTree.{SchemeTree}
use Rattle.mz_tree_item.specs.declared.schemes.TheoremTree.{TheoremTree}
use Rattle.mz_tree_item.specs.declared.article.ItemTree.{ItemTree}
use Rattle.mz_tree_item.specs.declared.article.ItemTree.TheVariants as tree
use Rattle.mz_tree_item.specs.declared.article.ArticlePartTree.{ArticlePartTree}
use Rattle.mz_tree_item.specs.declared.article.ArticlePartTree.TheVariants.{Begin, Item}
use Rattle.mz_standing.specs.declared.standing.Standing.{Standing}
use Rattle.mz_taken.specs.Taken.{Taken, Made, Refused, taken}
use Rattle.mz_taken.specs.Answers.{OnTaken, IsBrought, Brings, Leads}
use Rattle.mz_taken.specs.declared.item_fault.ItemFault.{ItemFault}
use Rattle.mz_taken.specs.declared.item_fault.ItemFault.TheVariants as fault
use Rattle.mz_taken.specs.declared.item_fault.ItemRefusal.TheVariants.{Proof}
use Rattle.mz_define.specs.Defines.{Defines, Notes}
use Rattle.mz_register.specs.Registers.{Registers}
use Rattle.mz_scheme_items.specs.StatesScheme.{StatesScheme}
use Rattle.mz_article_items.specs.Answers.{as_of_item}
use Rattle.mz_article_items.specs.Items as rule
use Rattle.mz_article_items.specs.Items.{IsReserved, IsTheorem, IsStatement, IsItem, IsPart}

-- what is told of a reasoning, of an item
taken_on : {X : Type 0} (P : Walked Standing → Type 0) (Q : Taken Standing → Type 0) (u : Standing) (os os2 : List Obligation) (z : Result X ProofFault) → ((o : Walked Standing) → P o → Q (taken o)) →
    OnMade z (walk.Brings P u os os2) → OnTaken (as_of_item z) (Brings Q u os os2)
taken_on P Q u os os2 (Ok v) g b = record { made = b.made; is_made = g (walked.Made b.made u) b.is_made; are_last = b.are_last }
taken_on P Q u os os2 (Err (reasoning.Refused r)) g h = g (walked.Refused r) h
taken_on P Q u os os2 (Err reasoning.Memory) g h = tt

-- the same answer, of which more is told
brought_on : {X : Type 0} (P Q : Taken Standing → Type 0) (u : Standing) (os os2 : List Obligation) (z : Result X ItemFault) → ((o : Taken Standing) → P o → Q o) → OnTaken z (Brings P u os os2) → OnTaken z (Brings Q u os os2)
brought_on P Q u os os2 (Ok v) g b = record { made = b.made; is_made = g (Made b.made u) b.is_made; are_last = b.are_last }
brought_on P Q u os os2 (Err (fault.Refused r)) g h = g (Refused r) h
brought_on P Q u os os2 (Err fault.Memory) g h = tt

led_on : {X : Type 0} (P Q : Taken Standing → Type 0) (u : Standing) (os : List Obligation) (z : Result X ItemFault) → ((o : Taken Standing) → P o → Q o) → OnTaken z (Leads P u) → OnTaken z (Brings Q u os os)
led_on P Q u os (Ok v) g h = record { made = []; is_made = g (Made [] u) h; are_last = sym (append-nil os) }
led_on P Q u os (Err (fault.Refused r)) g h = g (Refused r) h
led_on P Q u os (Err fault.Memory) g h = tt

abbrev ItemTaken : {X : Type 0} → Standing → Standing → List Obligation → List Obligation → Result X ItemFault → ItemTree → Type 0
ItemTaken s u os os2 y x = OnTaken y (Brings (IsItem s x) u os os2)

pub told_reserve_item : {X : Type 0} (s u : Standing) (os : List Obligation) (x : ItemTree) (t : ReserveTree) (z : Result X ProofFault) (y : Result X ItemFault) → x ≡ tree.Reserve t → OnMade z (walk.Brings (IsReserved s t) u os os) → y ≡ as_of_item z →
    OnTaken y (Brings (IsItem s x) u os os)
told_reserve_item s u os x t z y e h ey =
    subst (ItemTaken s u os os y) (sym e) (subst (λ w. ItemTaken s u os os w (tree.Reserve t)) (sym ey) (taken_on (IsReserved s t) (IsItem s (tree.Reserve t)) u os os z (λ o k. rule.reserve t o k) h))

pub told_theorem_item : {X : Type 0} (s u : Standing) (os os2 : List Obligation) (x : ItemTree) (t : TheoremTree) (z : Result X ProofFault) (y : Result X ItemFault) → x ≡ tree.Theorem t → OnMade z (walk.Brings (IsTheorem s t) u os os2) → y ≡ as_of_item z →
    OnTaken y (Brings (IsItem s x) u os os2)
told_theorem_item s u os os2 x t z y e h ey =
    subst (ItemTaken s u os os2 y) (sym e) (subst (λ w. ItemTaken s u os os2 w (tree.Theorem t)) (sym ey) (taken_on (IsTheorem s t) (IsItem s (tree.Theorem t)) u os os2 z (λ o k. rule.theorem t o k) h))

pub told_statement_item : {X : Type 0} (s u : Standing) (os os2 : List Obligation) (x : ItemTree) (t : StatementData) (z : Result X ProofFault) (y : Result X ItemFault) → x ≡ tree.Statement t → OnMade z (walk.Brings (IsStatement s t) u os os2) → y ≡ as_of_item z →
    OnTaken y (Brings (IsItem s x) u os os2)
told_statement_item s u os os2 x t z y e h ey =
    subst (ItemTaken s u os os2 y) (sym e) (subst (λ w. ItemTaken s u os os2 w (tree.Statement t)) (sym ey) (taken_on (IsStatement s t) (IsItem s (tree.Statement t)) u os os2 z (λ o k. rule.statement t o k) h))

pub told_scheme_item : {X : Type 0} (s u : Standing) (os os2 : List Obligation) (x : ItemTree) (t : SchemeTree) (y : Result X ItemFault) → x ≡ tree.Scheme t → OnTaken y (Brings (StatesScheme s t) u os os2) → OnTaken y (Brings (IsItem s x) u os os2)
told_scheme_item s u os os2 x t y e h = subst (ItemTaken s u os os2 y) (sym e) (brought_on (StatesScheme s t) (IsItem s (tree.Scheme t)) u os os2 y (λ o k. rule.scheme t o k) h)

pub told_definition_item : {X : Type 0} (s u : Standing) (os os2 : List Obligation) (x : ItemTree) (t : DefinitionTree) (y : Result X ItemFault) → x ≡ tree.Definition t → OnTaken y (Brings (Defines s t) u os os2) → OnTaken y (Brings (IsItem s x) u os os2)
told_definition_item s u os os2 x t y e h = subst (ItemTaken s u os os2 y) (sym e) (brought_on (Defines s t) (IsItem s (tree.Definition t)) u os os2 y (λ o k. rule.definition t o k) h)

pub told_registration_item : {X : Type 0} (s u : Standing) (os os2 : List Obligation) (x : ItemTree) (t : RegistrationTree) (y : Result X ItemFault) → x ≡ tree.Registration t → OnTaken y (Brings (Registers s t) u os os2) → OnTaken y (Brings (IsItem s x) u os os2)
told_registration_item s u os os2 x t y e h = subst (ItemTaken s u os os2 y) (sym e) (brought_on (Registers s t) (IsItem s (tree.Registration t)) u os os2 y (λ o k. rule.registration t o k) h)

pub told_notation_item : {X : Type 0} (s u : Standing) (os : List Obligation) (x : ItemTree) (t : NotationTree) (y : Result X ItemFault) → x ≡ tree.Notation t → OnTaken y (Leads (Notes s t) u) → OnTaken y (Brings (IsItem s x) u os os)
told_notation_item s u os x t y e h = subst (ItemTaken s u os os y) (sym e) (led_on (Notes s t) (IsItem s (tree.Notation t)) u os y (λ o k. rule.notation t o k) h)

pub ruleset item_rules = (told_reserve_item, told_theorem_item, told_statement_item, told_scheme_item, told_definition_item, told_registration_item, told_notation_item)

-- a part

begun : (s : Standing) (os : List Obligation) (p : Place) → IsBrought (λ ps. IsPart s (Begin p) (Made ps s)) os os
begun s os p = record { made = []; is_made = rule.section p; are_last = sym (append-nil os) }

pub told_section : (s : Standing) (os : List Obligation) (part : ArticlePartTree) (p : Place) → part ≡ Begin p → IsBrought (λ ps. IsPart s part (Made ps s)) os os
told_section s os part p e = subst (λ (q : ArticlePartTree). IsBrought (λ ps. IsPart s q (Made ps s)) os os) (sym e) (begun s os p)

pub told_item : {X : Type 0} (s u : Standing) (os os2 : List Obligation) (part : ArticlePartTree) (x : ItemTree) (y : Result X ItemFault) → part ≡ Item x → OnTaken y (Brings (IsItem s x) u os os2) → OnTaken y (Brings (IsPart s part) u os os2)
told_item s u os os2 part x y e h = subst (λ (q : ArticlePartTree). OnTaken y (Brings (IsPart s q) u os os2)) (sym e) (brought_on (IsItem s x) (IsPart s (Item x)) u os os2 y (λ o k. rule.item x o k) h)

pub ruleset part_rules = (told_section, told_item)
