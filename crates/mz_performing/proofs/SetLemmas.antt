-- What the code of `set` and of all introductions tells.
use Rattle.std.proofs.Common.{◌≡◌, ℕ, List, [], ◌∷◌, ◌++◌, length, map, refl, sym, ap, ◌∙◌, subst}
use Rattle.std.specs.Prelude.{Result, Ok, Err}
use Rattle.std.proofs.lemmas.List.{append-nil}
use Rattle.mz_base.specs.declared.place.Place.{Place}
use Rattle.mz_core.specs.declared.outcome.Left.{Left}
use Rattle.mz_context.specs.declared.context.Context.{Context}
use Rattle.mz_environment.specs.declared.environment.Environment.{Environment}
use Rattle.mz_names.specs.declared.refusal.Refusal.{Refusal}
use Rattle.mz_fits.proofs.FitLemmas.{empty}
use Rattle.mz_tree.specs.declared.chain.Next.{Next}
use Rattle.mz_tree.specs.declared.lists.Separated.{Separated}
use Rattle.mz_tree.specs.declared.word.Comma.{Comma}
use Rattle.mz_cited.specs.Cited.{members, tree_of}
use Rattle.mz_resolve.specs.Answers.{OnRead}
use Rattle.mz_resolve.specs.declared.resolve_fault.ResolveFault.{ResolveFault}
use Rattle.mz_tree_proof.specs.declared.introduction.ConsiderTree.{ConsiderTree}
use Rattle.mz_tree_proof.specs.declared.introduction.DefpredTree.{DefpredTree}
use Rattle.mz_tree_proof.specs.declared.introduction.DeffuncTree.{DeffuncTree}
use Rattle.mz_tree_proof.specs.declared.introduction.IntroductionTree.{IntroductionTree}
use Rattle.mz_tree_proof.specs.declared.introduction.IntroductionTree.TheVariants.{Consider, Reconsider, Set, Deffunc, Defpred}
use Rattle.mz_tree_proof.specs.declared.introduction.NamedTermTree.{NamedTermTree}
use Rattle.mz_tree_proof.specs.declared.introduction.ReconsiderTree.{ReconsiderTree}
use Rattle.mz_tree_proof.specs.declared.introduction.SetTree.{SetTree}
use Rattle.mz_obligations.specs.declared.obligation.Extent.{Extent}
use Rattle.mz_obligations.specs.declared.obligation.Obligation.{Obligation}
use Rattle.mz_parts.specs.Named.{NamedRead}
use Rattle.mz_steps.specs.declared.block.Block.{Block}
use Rattle.mz_steps.specs.declared.read_step.Definition.{Definition}
use Rattle.mz_steps.specs.declared.read_step.ReadStep.TheVariants as read
use Rattle.mz_justified.specs.Answers.{OnMade}
use Rattle.mz_justified.specs.declared.proof_fault.ProofFault.{ProofFault}
use Rattle.mz_justified.specs.declared.proof_fault.ProofRefusal.{ProofRefusal}
use Rattle.mz_justified.specs.declared.proof_fault.ProofRefusal.TheVariants.{Resolve}
use Rattle.mz_walk.specs.Walked.{State, state, OneByOne, Walked, Made, Refused}
use Rattle.mz_walk.specs.Performing.{PerformsAlone}
use Rattle.mz_walk.specs.Introductions as it
use Rattle.mz_walk.specs.Introductions.{Considers, Reconsiders, SetsOne, DefinesFunctor, DefinesPredicate, Introduces}
use Rattle.mz_walk.specs.Answers.{resolved, reached, IsBrought, Brings}
use Rattle.mz_performing.proofs.AnswerLemmas.{on_made, on_unread, on_read}
use Rattle.mz_performing.proofs.TakingLemmas.{Taking, taking_end, taking_stop, taking_turn, first_refused, first_taken}

-- a name
pub told_unread : (Y : Type 0) (e : Environment) (first : Place) (c : Context) (b : Block) (l l' : Left) (n : NamedTermTree) (x : Result Definition ResolveFault) (f : ResolveFault) (g : ProofFault) (u : State) →
    OnRead x (λ o. NamedRead e c 0 l n o l') → x ≡ Err f → g ≡ resolved f → OnMade {X = Y} (Err g) (λ o. SetsOne e first (state c b l) n (reached o u))
told_unread Y e first c b l l' n x f g u h ex eg =
    let P : Result Definition Refusal → Type 0 = λ o. NamedRead e c 0 l n o l' in
    let Q : Result Y ProofRefusal → Type 0 = λ o. SetsOne e first (state c b l) n (reached o u) in
    on_unread P Q x f g ex eg h (λ r k. it.not_read r l' k)

pub told_set : {Y : Type 0} (e : Environment) (first : Place) (c c'' : Context) (b b' : Block) (l l' : Left) (n : NamedTermTree) (x : Result Definition ResolveFault) (d : Definition) (y : Result Y ProofFault) →
    OnRead x (λ o. NamedRead e c 0 l n o l') → x ≡ Ok d → ((m : Left) → OnMade y (λ o. PerformsAlone e first (state c b m) (read.Set d) (reached o (state c'' b' m)))) → OnMade y (λ o. SetsOne e first (state c b l) n (reached o (state c'' b' l')))
told_set {Y} e first c c'' b b' l l' n x d y h ex k =
    let P : Result Definition Refusal → Type 0 = λ o. NamedRead e c 0 l n o l' in
    let Q : Result Y ProofRefusal → Type 0 = λ o. PerformsAlone e first (state c b l') (read.Set d) (reached o (state c'' b' l')) in
    let R : Result Y ProofRefusal → Type 0 = λ o. SetsOne e first (state c b l) n (reached o (state c'' b' l')) in
    let is_read : NamedRead e c 0 l n (Ok d) l' = on_read P x d ex h in
    on_made Q R y (k l') (λ w g. it.set d l' (Ok (state c'' b' l')) is_read g) (λ r g. it.set d l' (Err r) is_read g)

pub ruleset set_rules = (told_unread, told_set)

-- names one after another
abbrev pub SettingAll : Environment → Place → State → List (Next Comma NamedTermTree) → State → List (Next Comma NamedTermTree) → Type 0
SettingAll e first s rest t all = Taking (SetsOne e first) s (map tree_of rest) t (map tree_of all)

pub told_each_begun : (e : Environment) (first : Place) (s : State) (all : List (Next Comma NamedTermTree)) → SettingAll e first s all s all
told_each_begun e first s all o h = h

pub told_each_end : (e : Environment) (first : Place) (s t : State) (rest all : List (Next Comma NamedTermTree)) → length rest ≡ 0 → SettingAll e first s rest t all → OneByOne (SetsOne e first) t (map tree_of all) (Ok s)
told_each_end e first s t rest all er g = taking_end (SetsOne e first) s t (map tree_of rest) (map tree_of all) (ap (map tree_of) (empty rest er)) g

pub told_each_stop : {Y : Type 0} (Z : Type 0) (e : Environment) (first : Place) (s t u v : State) (n : Next Comma NamedTermTree) (rest others all : List (Next Comma NamedTermTree)) (y : Result Y ProofFault) (f : ProofFault) → rest ≡ n ∷ others →
    OnMade y (λ o. SetsOne e first s n.tree (reached o u)) → y ≡ Err f → SettingAll e first s rest t all → OnMade {X = Z} (Err f) (λ o. OneByOne (SetsOne e first) t (map tree_of all) (reached o v))
told_each_stop Z e first s t u v n rest others all y f er h ey g = taking_stop Z (SetsOne e first) s t u v n.tree (map tree_of rest) (map tree_of others) (map tree_of all) y f (ap (map tree_of) er) h ey g

pub told_each_turn : {Y : Type 0} (e : Environment) (first : Place) (s t u : State) (n : Next Comma NamedTermTree) (rest others all : List (Next Comma NamedTermTree)) (y : Result Y ProofFault) (z : Y) → rest ≡ n ∷ others →
    OnMade y (λ o. SetsOne e first s n.tree (reached o u)) → y ≡ Ok z → SettingAll e first s rest t all → SettingAll e first u others t all
told_each_turn e first s t u n rest others all y z er h ey g = taking_turn (SetsOne e first) s t u n.tree (map tree_of rest) (map tree_of others) (map tree_of all) y z (ap (map tree_of) er) h ey g

pub ruleset each_rules = (told_each_begun, told_each_end, told_each_stop, told_each_turn)

pub told_first_refused : {Y : Type 0} (Z : Type 0) (e : Environment) (first : Place) (s u v : State) (xs : Separated NamedTermTree) (y : Result Y ProofFault) (f : ProofFault) →
    OnMade y (λ o. SetsOne e first s xs.first (reached o u)) → y ≡ Err f → OnMade {X = Z} (Err f) (λ o. OneByOne (SetsOne e first) s (members xs) (reached o v))
told_first_refused Z e first s u v xs y f h ey = first_refused Z (SetsOne e first) s u v xs.first (map tree_of xs.more) y f h ey

pub told_first_taken : {Y Z : Type 0} (e : Environment) (first : Place) (s u v : State) (xs : Separated NamedTermTree) (y : Result Y ProofFault) (z : Y) (q : Result Z ProofFault) →
    OnMade y (λ o. SetsOne e first s xs.first (reached o u)) → y ≡ Ok z → OnMade q (λ o. OneByOne (SetsOne e first) u (map tree_of xs.more) (reached o v)) → OnMade q (λ o. OneByOne (SetsOne e first) s (members xs) (reached o v))
told_first_taken e first s u v xs y z q h ey k = first_taken (SetsOne e first) s u v xs.first (map tree_of xs.more) y z q h ey k

-- where the names are seen through a view
pub told_all_taken : {Y Z : Type 0} (e : Environment) (first : Place) (s u v : State) (xs ys : Separated NamedTermTree) (slice : List (Next Comma NamedTermTree)) (y : Result Y ProofFault) (z : Y) (q : Result Z ProofFault) → xs ≡ ys →
    OnMade y (λ o. SetsOne e first s xs.first (reached o u)) → y ≡ Ok z → slice ≡ xs.more → OnMade q (λ o. OneByOne (SetsOne e first) u (map tree_of slice) (reached o v)) → OnMade q (λ o. OneByOne (SetsOne e first) s (members ys) (reached o v))
told_all_taken e first s u v xs ys slice y z q ex h ey es k =
    subst (λ w. OnMade q (λ o. OneByOne (SetsOne e first) s (members w) (reached o v))) ex (told_first_taken e first s u v xs y z q h ey (subst (λ w. OnMade q (λ o. OneByOne (SetsOne e first) u (map tree_of w) (reached o v))) es k))

pub told_all_refused : {Y : Type 0} (Z : Type 0) (e : Environment) (first : Place) (s u v : State) (xs ys : Separated NamedTermTree) (y : Result Y ProofFault) (f : ProofFault) → xs ≡ ys →
    OnMade y (λ o. SetsOne e first s xs.first (reached o u)) → y ≡ Err f → OnMade {X = Z} (Err f) (λ o. OneByOne (SetsOne e first) s (members ys) (reached o v))
told_all_refused Z e first s u v xs ys y f ex h ey = subst (λ w. OnMade {X = Z} (Err f) (λ o. OneByOne (SetsOne e first) s (members w) (reached o v))) ex (told_first_refused Z e first s u v xs y f h ey)

pub ruleset all_rules = (told_first_refused, told_first_taken)

-- an introduction
introduced_as : {Y : Type 0} (e : Environment) (at : Extent) (first : Place) (s u : State) (tree other : IntroductionTree) (q : Result Y ProofFault) (os ps : List Obligation) → tree ≡ other → OnMade q (Brings (λ o. Introduces e at first s other o) u os ps) →
    OnMade q (Brings (λ o. Introduces e at first s tree o) u os ps)
introduced_as e at first s u tree other q os ps et h = subst (λ z. OnMade q (Brings (λ o. Introduces e at first s z o) u os ps)) (sym et) h

pub told_considers : {Y : Type 0} (e : Environment) (at : Extent) (first : Place) (s u : State) (tree : IntroductionTree) (t : ConsiderTree) (q : Result Y ProofFault) (os ps : List Obligation) → tree ≡ Consider t → OnMade q (Brings (λ o. Considers e at first s t o) u os ps) →
    OnMade q (Brings (λ o. Introduces e at first s tree o) u os ps)
told_considers {Y} e at first s u tree t q os ps et h =
    let P : Result Y ProofRefusal → Type 0 = Brings (λ o. Considers e at first s t o) u os ps in
    let R : Result Y ProofRefusal → Type 0 = Brings (λ o. Introduces e at first s (Consider t) o) u os ps in
    introduced_as e at first s u tree (Consider t) q os ps et (on_made P R q h (λ w g. record { made = g.made; is_made = it.considers t (Made g.made u) g.is_made; are_last = g.are_last }) (λ r g. it.considers t (Refused r) g))

pub told_reconsiders : {Y : Type 0} (e : Environment) (at : Extent) (first : Place) (s u : State) (tree : IntroductionTree) (t : ReconsiderTree) (q : Result Y ProofFault) (os ps : List Obligation) → tree ≡ Reconsider t → OnMade q (Brings (λ o. Reconsiders e at first s t o) u os ps) →
    OnMade q (Brings (λ o. Introduces e at first s tree o) u os ps)
told_reconsiders {Y} e at first s u tree t q os ps et h =
    let P : Result Y ProofRefusal → Type 0 = Brings (λ o. Reconsiders e at first s t o) u os ps in
    let R : Result Y ProofRefusal → Type 0 = Brings (λ o. Introduces e at first s (Reconsider t) o) u os ps in
    introduced_as e at first s u tree (Reconsider t) q os ps et (on_made P R q h (λ w g. record { made = g.made; is_made = it.reconsiders t (Made g.made u) g.is_made; are_last = g.are_last }) (λ r g. it.reconsiders t (Refused r) g))

pub told_sets : {Y : Type 0} (e : Environment) (at : Extent) (first : Place) (s u : State) (tree : IntroductionTree) (t : SetTree) (q : Result Y ProofFault) (os : List Obligation) → tree ≡ Set t → OnMade q (λ o. OneByOne (SetsOne e first) s (members t.named) (reached o u)) →
    OnMade q (Brings (λ o. Introduces e at first s tree o) u os os)
told_sets {Y} e at first s u tree t q os et h =
    let P : Result Y ProofRefusal → Type 0 = λ o. OneByOne (SetsOne e first) s (members t.named) (reached o u) in
    let R : Result Y ProofRefusal → Type 0 = Brings (λ o. Introduces e at first s (Set t) o) u os os in
    introduced_as e at first s u tree (Set t) q os os et (on_made P R q h (λ w g. record { made = []; is_made = it.sets t (Ok u) g; are_last = sym (append-nil os) }) (λ r g. it.sets t (Err r) g))

pub told_private_functor : {Y : Type 0} (e : Environment) (at : Extent) (first : Place) (s u : State) (tree : IntroductionTree) (t : DeffuncTree) (q : Result Y ProofFault) (os : List Obligation) → tree ≡ Deffunc t → OnMade q (λ o. DefinesFunctor e s t (reached o u)) →
    OnMade q (Brings (λ o. Introduces e at first s tree o) u os os)
told_private_functor {Y} e at first s u tree t q os et h =
    let P : Result Y ProofRefusal → Type 0 = λ o. DefinesFunctor e s t (reached o u) in
    let R : Result Y ProofRefusal → Type 0 = Brings (λ o. Introduces e at first s (Deffunc t) o) u os os in
    introduced_as e at first s u tree (Deffunc t) q os os et (on_made P R q h (λ w g. record { made = []; is_made = it.private_functor t (Ok u) g; are_last = sym (append-nil os) }) (λ r g. it.private_functor t (Err r) g))

pub told_private_predicate : {Y : Type 0} (e : Environment) (at : Extent) (first : Place) (s u : State) (tree : IntroductionTree) (t : DefpredTree) (q : Result Y ProofFault) (os : List Obligation) → tree ≡ Defpred t → OnMade q (λ o. DefinesPredicate e s t (reached o u)) →
    OnMade q (Brings (λ o. Introduces e at first s tree o) u os os)
told_private_predicate {Y} e at first s u tree t q os et h =
    let P : Result Y ProofRefusal → Type 0 = λ o. DefinesPredicate e s t (reached o u) in
    let R : Result Y ProofRefusal → Type 0 = Brings (λ o. Introduces e at first s (Defpred t) o) u os os in
    introduced_as e at first s u tree (Defpred t) q os os et (on_made P R q h (λ w g. record { made = []; is_made = it.private_predicate t (Ok u) g; are_last = sym (append-nil os) }) (λ r g. it.private_predicate t (Err r) g))

pub ruleset introduce_rules = (told_considers, told_reconsiders, told_sets, told_private_functor, told_private_predicate)
