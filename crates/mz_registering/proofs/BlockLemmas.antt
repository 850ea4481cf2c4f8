-- What the code of blocks tells.
use Rattle.std.proofs.Common.{◌≡◌, ◌∙◌, ℕ, List, [], ◌∷◌, append-nil, length, refl, sym, ap, subst}
use Rattle.std.specs.Prelude.{Result, Ok, Err}
use Rattle.mz_base.specs.declared.place.Place.{Place}
use Rattle.mz_context.specs.Context.{next}
use Rattle.mz_obligations.specs.declared.obligation.Obligation.{Obligation}
use Rattle.mz_let.specs.Lets.{Lets}
use Rattle.mz_loci.specs.Loci.{behind_loci}
use Rattle.mz_standing.specs.Standing.{with_context}
use Rattle.mz_standing.specs.declared.standing.Standing.{Standing}
use Rattle.mz_taken.specs.Taken.{Taken, Made, Refused}
use Rattle.mz_taken.specs.OneByOne.{OneByOne}
use Rattle.mz_taken.specs.Answers.{OnTaken, IsBrought, Brings, Leads}
use Rattle.mz_taken.specs.declared.item_fault.ItemFault.{ItemFault}
use Rattle.mz_taken.specs.declared.item_fault.ItemFault.TheVariants as fault
use Rattle.mz_taken.specs.declared.item_fault.ItemRefusal.{ItemRefusal}
use Rattle.mz_taken.proofs.OneByOneProofs.{Reading, told_turn as turned, told_stop as stopped, told_end as finished, on_err, on_ok}
use Rattle.mz_tree_item.specs.declared.definition.ConditionTree.{ConditionTree}
use Rattle.mz_tree_item.specs.declared.registration.RegistrationPartTree.{RegistrationPartTree}
use Rattle.mz_tree_item.specs.declared.registration.RegistrationPartTree.TheVariants.{Let, Cluster}
use Rattle.mz_tree_item.specs.declared.registration.RegistrationTree.{RegistrationTree}
use Rattle.mz_tree_part.specs.declared.cluster.ClusterTree.{ClusterTree}
use Rattle.mz_tree_part.specs.declared.notation.BlockLetTree.{BlockLetTree}
use Rattle.mz_registered.specs.Headings.{Heads}
use Rattle.mz_registered.specs.Blocks as re
use Rattle.mz_registered.specs.Blocks.{first_of_parts, with_places, TakesPart, ended, TakesBlock}
use Rattle.mz_registering.proofs.HeadingLemmas.{brought_on}

-- a part
led_on : {X : Type 0} (P Q : Taken Standing → Type 0) (u : Standing) (os : List Obligation) (z : Result X ItemFault) → ((o : Taken Standing) → P o → Q o) → OnTaken z (Leads P u) → OnTaken z (Brings Q u os os)
led_on P Q u os (Ok v) g h = record { made = []; is_made = g (Made [] u) h; are_last = sym (append-nil os) }
led_on P Q u os (Err (fault.Refused r)) g h = g (Refused r) h
led_on P Q u os (Err fault.Memory) g h = tt

pub told_loci : {X : Type 0} (least : ℕ) (s u : Standing) (os : List Obligation) (p : RegistrationPartTree) (behind : Place) (t : BlockLetTree) (z : Result X ItemFault) → p ≡ Let t → OnTaken z (Leads (Lets least s t) u) → OnTaken z (Brings (TakesPart least s (p, behind)) u os os)
told_loci least s u os p behind t z ep h =
    subst (λ (q : RegistrationPartTree). OnTaken z (Brings (TakesPart least s (q, behind)) u os os)) (sym ep)
    (led_on (Lets least s t) (TakesPart least s (Let t, behind)) u os z (λ o k. re.loci t behind o k) h)

pub told_cluster : {X : Type 0} (least : ℕ) (s u : Standing) (os os2 : List Obligation) (p : RegistrationPartTree) (behind : Place) (t : ClusterTree) (ws vs : List ConditionTree) (z : Result X ItemFault) → p ≡ Cluster t ws → vs ≡ ws →
    OnTaken z (Brings (Heads least s t vs behind) u os os2) → OnTaken z (Brings (TakesPart least s (p, behind)) u os os2)
told_cluster least s u os os2 p behind t ws vs z ep ev h =
    subst (λ (q : RegistrationPartTree). OnTaken z (Brings (TakesPart least s (q, behind)) u os os2)) (sym ep)
    (brought_on (Heads least s t ws behind) (TakesPart least s (Cluster t ws, behind)) u os os2 z (λ o k. re.heading t ws behind o k)
    (subst (λ (xs : List ConditionTree). OnTaken z (Brings (Heads least s t xs behind) u os os2)) ev h))

-- parts with the places behind them
placed : (end : Place) (rest others : List RegistrationPartTree) (p : RegistrationPartTree) (behind : Place) → rest ≡ p ∷ others → behind ≡ first_of_parts end others → with_places end rest ≡ (p, behind) ∷ with_places end others
placed end rest others p behind er eb = ap (with_places end) er ∙ ap (λ (q : Place). (p, q) ∷ with_places end others) (sym eb)

pub told_turn : {Y : Type 0} (least : ℕ) (s u s0 : Standing) (os os2 os0 : List Obligation) (end behind : Place) (p : RegistrationPartTree) (rest others all : List RegistrationPartTree) (z : Result Y ItemFault) (v : Y) → rest ≡ p ∷ others → behind ≡ first_of_parts end others →
    OnTaken z (Brings (TakesPart least s (p, behind)) u os os2) → z ≡ Ok v → Reading (TakesPart least) s os (with_places end rest) s0 os0 (with_places end all) → Reading (TakesPart least) u os2 (with_places end others) s0 os0 (with_places end all)
told_turn least s u s0 os os2 os0 end behind p rest others all z v er eb h ez r =
    turned (TakesPart least) s u s0 os os2 os0 (p, behind) (with_places end rest) (with_places end others) (with_places end all) z v (placed end rest others p behind er eb) h ez r

pub told_stop : {Y : Type 0} (Z : Type 0) (least : ℕ) (s u w s0 : Standing) (os os2 os0 qs : List Obligation) (end behind : Place) (p : RegistrationPartTree) (rest others all : List RegistrationPartTree) (z : Result Y ItemFault) (f : ItemFault) → rest ≡ p ∷ others → behind ≡ first_of_parts end others →
    OnTaken z (Brings (TakesPart least s (p, behind)) u os os2) → z ≡ Err f → Reading (TakesPart least) s os (with_places end rest) s0 os0 (with_places end all) → OnTaken {X = Z} (Err f) (Brings (OneByOne (TakesPart least) s0 (with_places end all)) w os0 qs)
told_stop Z least s u w s0 os os2 os0 qs end behind p rest others all z f er eb h ez r =
    stopped Z (TakesPart least) s u w s0 os os2 os0 qs (p, behind) (with_places end rest) (with_places end others) (with_places end all) z f (placed end rest others p behind er eb) h ez r

no_parts : (end : Place) (rest : List RegistrationPartTree) → length rest ≡ 0 → length (with_places end rest) ≡ 0
no_parts end [] e = refl
no_parts end (p ∷ ps) e = let no : ⊥ = cc in absurd no

pub told_end : (least : ℕ) (s s0 : Standing) (os os0 : List Obligation) (end : Place) (rest all : List RegistrationPartTree) → length rest ≡ 0 → Reading (TakesPart least) s os (with_places end rest) s0 os0 (with_places end all) →
    IsBrought (λ ps. OneByOne (TakesPart least) s0 (with_places end all) (Made ps s)) os0 os
told_end least s s0 os os0 end rest all e r = finished (TakesPart least) s s0 os os0 (with_places end rest) (with_places end all) (no_parts end rest e) r

-- a block
abbrev pub Parts : ℕ → Standing → RegistrationTree → Taken Standing → Type 0
Parts least s t o = OneByOne (TakesPart least) s (with_places t.end t.parts) o

taken_block : (s : Standing) (t : RegistrationTree) (least : ℕ) (o : Taken Standing) → least ≡ next s.context → Parts least s t o → TakesBlock s t (ended least o)
taken_block s t least o el h =
    subst (λ (n : ℕ). TakesBlock s t (ended n o)) (sym el) (re.block o (subst (λ (n : ℕ). Parts n s t o) el h))

pub told_block_refused : (X : Type 0) {Y : Type 0} (s u v : Standing) (t : RegistrationTree) (least : ℕ) (os os2 os3 : List Obligation) (z : Result Y ItemFault) (f : ItemFault) → least ≡ next s.context →
    OnTaken z (Brings (Parts least s t) u os os2) → z ≡ Err f → OnTaken {X = X} (Err f) (Brings (TakesBlock s t) v os os3)
told_block_refused X {Y} s u v t least os os2 os3 z f el h ez =
    let P : Result Y ItemRefusal → Type 0 = Brings (Parts least s t) u os os2 in
    let Q : Result X ItemRefusal → Type 0 = Brings (TakesBlock s t) v os os3 in
    on_err P Q z f ez h (λ r k. taken_block s t least (Refused r) el k)

pub told_block : {Y : Type 0} (s u v : Standing) (t : RegistrationTree) (least : ℕ) (os os2 : List Obligation) (z : Result Y ItemFault) (y : Y) → least ≡ next s.context →
    OnTaken z (Brings (Parts least s t) u os os2) → z ≡ Ok y → v ≡ with_context u (behind_loci u.context least) → IsBrought (λ ps. TakesBlock s t (Made ps v)) os os2
told_block {Y} s u v t least os os2 z y el h ez ev =
    let P : Result Y ItemRefusal → Type 0 = Brings (Parts least s t) u os os2 in
    let b : P (Ok y) = on_ok P z y ez h in
    record { made = b.made; is_made = subst (λ (w : Standing). TakesBlock s t (Made b.made w)) (sym ev) (taken_block s t least (Made b.made u) el b.is_made); are_last = b.are_last }
