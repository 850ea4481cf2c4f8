-- What the code of headings tells.
use Rattle.std.proofs.Common.{◌≡◌, ◌∙◌, ℕ, Bool, true, false, List, [], sym, ap, subst, Option, Some}
use Rattle.std.specs.Prelude.{Result, Ok, Err, OnOk, nat_le, ◌&&◌}
use Rattle.std.specs.List.{list_all}
use Rattle.mz_base.specs.declared.place.Place.{Place}
use Rattle.mz_core.specs.Hidden.{is_of_any_object}
use Rattle.mz_core.specs.declared.item.Item.{Item}
use Rattle.mz_core.specs.declared.outcome.Left.{Left}
use Rattle.mz_core.specs.declared.soft_type.SoftType.{SoftType}
use Rattle.mz_items.specs.Items.{owed_statements, granted_statements}
use Rattle.mz_context.specs.declared.context.Context.{Context}
use Rattle.mz_cluster_items.specs.Items.{sequent_keeps}
use Rattle.mz_justified.specs.declared.proof_fault.ProofRefusal.TheVariants.{Resolve, NotBuilt}
use Rattle.mz_names.specs.declared.refusal.Refusal.{Refusal}
use Rattle.mz_names.specs.declared.refusal.Refusal.TheVariants.{TooLarge}
use Rattle.mz_obligations.specs.declared.obligation.Obligation.{Obligation}
use Rattle.mz_patterns.specs.declared.visible.Visible.{Visible}
use Rattle.mz_resolve.specs.Answers.{OnRead}
use Rattle.mz_resolve.specs.Calls.{TypeRead}
use Rattle.mz_resolve.specs.declared.resolve_fault.ResolveFault.{ResolveFault}
use Rattle.mz_sizes.specs.Sizes.{statement_keeps}
use Rattle.mz_standing.specs.Standing.{with_left}
use Rattle.mz_standing.specs.declared.standing.Standing.{Standing}
use Rattle.mz_taken.specs.Taken.{Refused}
use Rattle.mz_taken.specs.Answers.{of_reading, OnTaken, Brings}
use Rattle.mz_taken.specs.declared.item_fault.ItemFault.{ItemFault}
use Rattle.mz_taken.specs.declared.item_fault.ItemFault.TheVariants as fault
use Rattle.mz_taken.specs.declared.item_fault.ItemRefusal.TheVariants.{Proof}
use Rattle.mz_tree.specs.Trees.{TermData, FormulaData}
use Rattle.mz_tree_heading.specs.declared.heading.AbbreviationTree.{AbbreviationTree}
use Rattle.mz_tree_heading.specs.declared.heading.FunctorHeadingTree.{FunctorHeadingTree}
use Rattle.mz_tree_heading.specs.declared.heading.ModeHeadingTree.{ModeHeadingTree}
use Rattle.mz_tree_heading.specs.declared.meaning.CasesTree.{CasesTree}
use Rattle.mz_tree_heading.specs.declared.meaning.DefinitionLabelTree.{DefinitionLabelTree}
use Rattle.mz_tree_heading.specs.declared.meaning.MeaningTree.{MeaningTree}
use Rattle.mz_tree_heading.specs.declared.meaning.MeaningTree.TheVariants.{Means, Equals}
use Rattle.mz_tree_item.specs.declared.definition.ConditionOrPropertyTree.{ConditionOrPropertyTree}
use Rattle.mz_defined.specs.Owing as ow
use Rattle.mz_defined.specs.Owing.{loci_count, TakesWritten, TakesOwing}
use Rattle.mz_defined.specs.Headed as hd
use Rattle.mz_defined.specs.Headed.{DefiningHeading, DefinesBy, DefinesByFormulas}
use Rattle.mz_defined.specs.Functors as fu
use Rattle.mz_defined.specs.Functors.{MeansReadAt, EqualsReadAt, means_functor_heading, equals_functor_heading, DefinesFunctorBy, next_mode, mode_visible, mode_heading, DefinesMode, abbreviation_of, DefinesAbbreviation}
use Rattle.mz_heading.proofs.AnswerLemmas.{read_by, refused_as, refused_by, brought_more}

-- too many loci
told_many : (least : ℕ) (s : Standing) (first : Place) (label : List ℕ) (x : Item) (ws : List ConditionOrPropertyTree) (behind : Place) (b : Bool) → b ≡ nat_le (loci_count least s.context) 512 → b ≡ false →
    TakesOwing least s first label x ws behind (Refused (Proof (Resolve (TooLarge first))))
told_many least s first label x ws behind b eb ef = ow.too_large (ap (λ v. v && (list_all sequent_keeps (owed_statements x) && list_all statement_keeps (granted_statements x))) (sym eb ∙ ef))

pub told_many_as : (X : Type 0) (least : ℕ) (s u : Standing) (first : Place) (label : List ℕ) (x : Item) (ws : List ConditionOrPropertyTree) (behind : Place) (os os2 : List Obligation) (b : Bool) (k : ItemFault) → b ≡ nat_le (loci_count least s.context) 512 → b ≡ false →
    k ≡ fault.Refused (Proof (Resolve (TooLarge first))) → OnTaken {X = X} (Err k) (Brings (TakesOwing least s first label x ws behind) u os os2)
told_many_as X least s u first label x ws behind os os2 b k eb ef ek =
    refused_as X (TakesOwing least s first label x ws behind) u os os2 k (Proof (Resolve (TooLarge first))) ek (told_many least s first label x ws behind b eb ef)

-- an item that was made, with its label
pub told_put : {Y : Type 0} (least : ℕ) (s u : Standing) (first : Place) (label name : List ℕ) (x y : Item) (ws : List ConditionOrPropertyTree) (behind : Place) (os os2 : List Obligation) (z : Result Y ItemFault) → name ≡ label → y ≡ x → OnTaken z (Brings (TakesOwing least s first name y ws behind) u os os2) →
    OnTaken z (Brings (TakesOwing least s first label x ws behind) u os os2)
told_put least s u first label name x y ws behind os os2 z el ey h =
    subst (λ (m : List ℕ). OnTaken z (Brings (TakesOwing least s first m x ws behind) u os os2)) el (subst (λ (i : Item). OnTaken z (Brings (TakesOwing least s first name i ws behind) u os os2)) ey h)

pub told_put_written : {Y : Type 0} (least : ℕ) (s u : Standing) (label name : List ℕ) (x y : Item) (ws : List ConditionOrPropertyTree) (behind : Place) (os os2 : List Obligation) (z : Result Y ItemFault) → name ≡ label → y ≡ x → OnTaken z (Brings (TakesWritten least s name y ws behind) u os os2) →
    OnTaken z (Brings (TakesWritten least s label x ws behind) u os os2)
told_put_written least s u label name x y ws behind os os2 z el ey h =
    subst (λ (m : List ℕ). OnTaken z (Brings (TakesWritten least s m x ws behind) u os os2)) el (subst (λ (i : Item). OnTaken z (Brings (TakesWritten least s name i ws behind) u os os2)) ey h)

-- a heading with a definiens

pub unread : {X : Type 0} (least : ℕ) (s u : Standing) (h : DefiningHeading X) (reads : Result X Refusal → Left → Type 0) (ws : List ConditionOrPropertyTree) (behind : Place) (v : Visible) (after : Left) (z : Result X ResolveFault) (g : ResolveFault) (k : ItemFault) (os os2 : List Obligation) →
    h.visible ≡ Some v → OnRead z (λ o. reads o after) → z ≡ Err g → k ≡ of_reading g → OnTaken {X = Unit {0}} (Err k) (Brings (DefinesBy least s h reads ws behind) u os os2)
unread {X} least s u h reads ws behind v after z g k os os2 ev on e ek =
    let P : Result X Refusal → Type 0 = λ o. reads o after in
    subst (λ y. OnTaken {X = Unit {0}} (Err y) (Brings (DefinesBy least s h reads ws behind) u os os2)) (sym ek)
    (refused_by P (Brings (DefinesBy least s h reads ws behind) u os os2) z g on e (λ r j. hd.not_read v r after ev j))

pub read_so : {X Y : Type 0} (least : ℕ) (s s1 u : Standing) (h : DefiningHeading X) (item : Context → Visible → X → Item) (reads : Result X Refusal → Left → Type 0) (ws : List ConditionOrPropertyTree) (behind : Place) (v : Visible) (z : Result X ResolveFault) (x : X) (y : Result Y ItemFault)
    (os os2 : List Obligation) → h.item ≡ item s.context → h.visible ≡ Some v → OnRead z (λ o. reads o s1.left) → z ≡ Ok x → OnOk z (s1 ≡ with_left s s1.left) →
    OnTaken y (Brings (TakesOwing least s1 h.first h.label (item s1.context v x) ws behind) u os os2) → OnTaken y (Brings (DefinesBy least s h reads ws behind) u os os2)
read_so {X} {Y} least s s1 u h item reads ws behind v z x y os os2 ei ev on e same k =
    let P : Result X Refusal → Type 0 = λ o. reads o s1.left in
    brought_more (TakesOwing least s1 h.first h.label (item s1.context v x) ws behind) (DefinesBy least s h reads ws behind) u os os2 y
    (λ o j. hd.is_read v x s1.left o ev (read_by P z x on e)
    (subst (λ (i : Visible → X → Item). TakesOwing least (with_left s s1.left) h.first h.label (i v x) ws behind o) (sym ei)
    (subst (λ (w : Standing). TakesOwing least w h.first h.label (item w.context v x) ws behind o) (subst (λ q. OnOk q (s1 ≡ with_left s s1.left)) e same) j))) k

-- by formulas, or by terms

pub told_formulas : {X Y : Type 0} (least : ℕ) (s u : Standing) (h : DefiningHeading X) (reads : CasesTree FormulaData → Result X Refusal → Left → Type 0) (ws : List ConditionOrPropertyTree) (behind : Place) (m : MeaningTree) (means : Place) (label : Option DefinitionLabelTree) (f : CasesTree FormulaData) (z : Result Y ItemFault)
    (os os2 : List Obligation) → m ≡ Means means label f → OnTaken z (Brings (DefinesBy least s h (reads f) ws behind) u os os2) → OnTaken z (Brings (DefinesByFormulas least s h reads ws behind m) u os os2)
told_formulas least s u h reads ws behind m means label f z os os2 e k =
    brought_more (DefinesBy least s h (reads f) ws behind) (DefinesByFormulas least s h reads ws behind m) u os os2 z (λ o j. subst (λ n. DefinesByFormulas least s h reads ws behind n o) (sym e) (hd.by_formulas means label f o j)) k

pub told_no_formulas : {X : Type 0} (Y : Type 0) (least : ℕ) (s u : Standing) (h : DefiningHeading X) (reads : CasesTree FormulaData → Result X Refusal → Left → Type 0) (ws : List ConditionOrPropertyTree) (behind : Place) (m : MeaningTree) (equals : Place) (label : Option DefinitionLabelTree) (d : CasesTree TermData)
    (os os2 : List Obligation) (k : ItemFault) → m ≡ Equals equals label d → k ≡ fault.Refused (Proof (NotBuilt h.first)) → OnTaken {X = Y} (Err k) (Brings (DefinesByFormulas least s h reads ws behind m) u os os2)
told_no_formulas Y least s u h reads ws behind m equals label d os os2 k e ek =
    refused_as Y (DefinesByFormulas least s h reads ws behind m) u os os2 k (Proof (NotBuilt h.first)) ek (subst (λ n. DefinesByFormulas least s h reads ws behind n (Refused (Proof (NotBuilt h.first)))) (sym e) (hd.no_formulas equals label d))

pub told_functor_means : {Y : Type 0} (least : ℕ) (s u : Standing) (t : FunctorHeadingTree MeaningTree) (ws : List ConditionOrPropertyTree) (behind : Place) (m : MeaningTree) (means : Place) (label : Option DefinitionLabelTree) (f : CasesTree FormulaData) (z : Result Y ItemFault) (os os2 : List Obligation) → m ≡ Means means label f →
    OnTaken z (Brings (DefinesBy least s (means_functor_heading least s.context t) (MeansReadAt least s t.result f) ws behind) u os os2) → OnTaken z (Brings (DefinesFunctorBy least s t ws behind m) u os os2)
told_functor_means least s u t ws behind m means label f z os os2 e k =
    brought_more (DefinesBy least s (means_functor_heading least s.context t) (MeansReadAt least s t.result f) ws behind) (DefinesFunctorBy least s t ws behind m) u os os2 z (λ o j. subst (λ n. DefinesFunctorBy least s t ws behind n o) (sym e) (fu.by_means means label f o j)) k

pub told_functor_equals : {Y : Type 0} (least : ℕ) (s u : Standing) (t : FunctorHeadingTree MeaningTree) (ws : List ConditionOrPropertyTree) (behind : Place) (m : MeaningTree) (equals : Place) (label : Option DefinitionLabelTree) (d : CasesTree TermData) (z : Result Y ItemFault) (os os2 : List Obligation) → m ≡ Equals equals label d →
    OnTaken z (Brings (DefinesBy least s (equals_functor_heading least s.context t) (EqualsReadAt least s t.result d) ws behind) u os os2) → OnTaken z (Brings (DefinesFunctorBy least s t ws behind m) u os os2)
told_functor_equals least s u t ws behind m equals label d z os os2 e k =
    brought_more (DefinesBy least s (equals_functor_heading least s.context t) (EqualsReadAt least s t.result d) ws behind) (DefinesFunctorBy least s t ws behind m) u os os2 z (λ o j. subst (λ n. DefinesFunctorBy least s t ws behind n o) (sym e) (fu.by_equals equals label d o j)) k

-- modes

pub told_hidden : (Y : Type 0) (least : ℕ) (s u : Standing) (t : ModeHeadingTree MeaningTree) (ws : List ConditionOrPropertyTree) (behind : Place) (os os2 : List Obligation) (b : Bool) (k : ItemFault) → b ≡ is_of_any_object (next_mode s.context) → b ≡ true →
    k ≡ fault.Refused (Proof (NotBuilt t.mode)) → OnTaken {X = Y} (Err k) (Brings (DefinesMode least s t ws behind) u os os2)
told_hidden Y least s u t ws behind os os2 b k eb et ek = refused_as Y (DefinesMode least s t ws behind) u os os2 k (Proof (NotBuilt t.mode)) ek (fu.hidden_mode (sym eb ∙ et))

pub told_other : {Y : Type 0} (least : ℕ) (s u : Standing) (t : ModeHeadingTree MeaningTree) (ws : List ConditionOrPropertyTree) (behind : Place) (z : Result Y ItemFault) (os os2 : List Obligation) (b : Bool) → b ≡ is_of_any_object (next_mode s.context) → b ≡ false →
    OnTaken z (Brings (DefinesByFormulas least s (mode_heading least s.context t) (MeansReadAt least s t.result) ws behind t.meaning) u os os2) → OnTaken z (Brings (DefinesMode least s t ws behind) u os os2)
told_other least s u t ws behind z os os2 b eb ef k =
    brought_more (DefinesByFormulas least s (mode_heading least s.context t) (MeansReadAt least s t.result) ws behind t.meaning) (DefinesMode least s t ws behind) u os os2 z (λ o j. fu.other_mode o (sym eb ∙ ef) j) k

-- abbreviations

abbrev pub TypeSo : ℕ → Standing → AbbreviationTree → Left → Result SoftType Refusal → Type 0
TypeSo least s t after o = TypeRead s.environment s.context least s.left t.ty o after

pub unread_type : (least : ℕ) (s s1 u : Standing) (t : AbbreviationTree) (ws : List ConditionOrPropertyTree) (behind : Place) (v : Visible) (z : Result SoftType ResolveFault) (g : ResolveFault) (k : ItemFault) (os os2 : List Obligation) →
    mode_visible least s.context t.pattern ≡ Some v → OnRead z (TypeSo least s t s1.left) → z ≡ Err g → k ≡ of_reading g → OnTaken {X = Unit {0}} (Err k) (Brings (DefinesAbbreviation least s t ws behind) u os os2)
unread_type least s s1 u t ws behind v z g k os os2 ev on e ek =
    subst (λ y. OnTaken {X = Unit {0}} (Err y) (Brings (DefinesAbbreviation least s t ws behind) u os os2)) (sym ek)
    (refused_by (TypeSo least s t s1.left) (Brings (DefinesAbbreviation least s t ws behind) u os os2) z g on e (λ r j. fu.type_refused v r s1.left ev j))

pub read_type_so : {X : Type 0} (least : ℕ) (s s1 u : Standing) (t : AbbreviationTree) (ws : List ConditionOrPropertyTree) (behind : Place) (v : Visible) (z : Result SoftType ResolveFault) (ty : SoftType) (y : Result X ItemFault) (os os2 : List Obligation) →
    mode_visible least s.context t.pattern ≡ Some v → OnRead z (TypeSo least s t s1.left) → z ≡ Ok ty → s1 ≡ with_left s s1.left →
    OnTaken y (Brings (TakesWritten least s1 [] (abbreviation_of least s1.context t.pattern v ty) ws behind) u os os2) → OnTaken y (Brings (DefinesAbbreviation least s t ws behind) u os os2)
read_type_so least s s1 u t ws behind v z ty y os os2 ev on e same k =
    brought_more (TakesWritten least s1 [] (abbreviation_of least s1.context t.pattern v ty) ws behind) (DefinesAbbreviation least s t ws behind) u os os2 y
    (λ o j. fu.type_read v ty s1.left o ev (read_by (TypeSo least s t s1.left) z ty on e)
    (subst (λ (w : Standing). TakesWritten least w [] (abbreviation_of least w.context t.pattern v ty) ws behind o) same j)) k
