-- What the code of `let` tells.
use Rattle.std.proofs.Common.{◌≡◌, ℕ, List, [], ◌∷◌, length, map, refl, sym, ap, ◌∙◌, subst}
use Rattle.std.specs.Prelude.{Result, Ok, Err}
use Rattle.mz_base.specs.declared.place.Place.{Place}
use Rattle.mz_core.specs.declared.outcome.Left.{Left}
use Rattle.mz_context.specs.declared.context.Context.{Context}
use Rattle.mz_environment.specs.declared.environment.Environment.{Environment}
use Rattle.mz_names.specs.declared.refusal.Refusal.{Refusal}
use Rattle.mz_names.specs.declared.variable.Variable.{Variable}
use Rattle.mz_fits.proofs.FitLemmas.{empty}
use Rattle.mz_tree.specs.Trees.{DeclaredData, DeclarationsData}
use Rattle.mz_tree.specs.Views.{declared_of, declarations_of}
use Rattle.mz_tree.specs.declared.chain.Chain.{Chain}
use Rattle.mz_tree.specs.declared.chain.Next.{Next}
use Rattle.mz_tree.specs.declared.nodes.DeclaredNode.{DeclaredNode}
use Rattle.mz_tree.specs.declared.word.Comma.{Comma}
use Rattle.mz_tree.specs.declared.word.Word.{Word}
use Rattle.mz_formulas.specs.Declarations.{declared_tree, reserved_variable}
use Rattle.mz_formulas.proofs.DeclaredLemmas.{listed_declared-is}
use Rattle.mz_resolve.specs.Answers.{OnRead}
use Rattle.mz_resolve.specs.declared.resolve_fault.ResolveFault.{ResolveFault}
use Rattle.mz_parts.specs.Declarations.{Declares, declared_in}
use Rattle.mz_steps.specs.declared.block.Block.{Block}
use Rattle.mz_steps.specs.declared.read_step.ReadStep.{ReadStep}
use Rattle.mz_steps.specs.declared.read_step.ReadStep.TheVariants as read
use Rattle.mz_justified.specs.Answers.{OnMade}
use Rattle.mz_justified.specs.declared.proof_fault.ProofFault.{ProofFault}
use Rattle.mz_justified.specs.declared.proof_fault.ProofRefusal.{ProofRefusal}
use Rattle.mz_justified.specs.declared.proof_fault.ProofRefusal.TheVariants.{Resolve}
use Rattle.mz_walk.specs.Walked.{State, state, OneByOne}
use Rattle.mz_walk.specs.Performing.{PerformsAlone}
use Rattle.mz_walk.specs.Skeleton as sk
use Rattle.mz_walk.specs.Skeleton.{lets, Letting, letting, letting_then, LetsDeclared, LetsReserved, Lets}
use Rattle.mz_walk.specs.Answers.{resolved, reached}
use Rattle.mz_performing.proofs.AnswerLemmas.{on_err, on_ok, on_made, on_unread, on_read}
use Rattle.mz_performing.proofs.TakingLemmas.{Taking, taking_end, taking_stop, taking_turn, first_refused}
use Rattle.mz_skeleton.proofs.SliceLemmas.{first_taken_each}

-- a declared identifier
pub told_undeclared : (Y : Type 0) (e : Environment) (first : Place) (c : Context) (b : Block) (l l' : Left) (ws us : List Word) (d : DeclaredData) (x : Result (List Variable) ResolveFault) (f : ResolveFault) (g : ProofFault) (t : Letting) →
    OnRead x (λ o. Declares e c 0 ws l d o us l') → x ≡ Err f → g ≡ resolved f → OnMade {X = Y} (Err g) (λ o. LetsDeclared e first (letting (state c b l) ws) d (reached o t))
told_undeclared Y e first c b l l' ws us d x f g t h ex eg =
    let P : Result (List Variable) Refusal → Type 0 = λ o. Declares e c 0 ws l d o us l' in
    let Q : Result Y ProofRefusal → Type 0 = λ o. LetsDeclared e first (letting (state c b l) ws) d (reached o t) in
    on_unread P Q x f g ex eg h (λ r k. sk.not_read us r l' k)

pub told_declared : {Y : Type 0} (e : Environment) (first : Place) (c c' c'' : Context) (b b' : Block) (l l' : Left) (ws us : List Word) (d : DeclaredData) (x : Result (List Variable) ResolveFault) (vs : List Variable) (rs : List ReadStep) (y : Result Y ProofFault) →
    OnRead x (λ o. Declares e c 0 ws l d o us l') → x ≡ Ok vs → c' ≡ c → rs ≡ lets vs → ((m : Left) → OnMade y (λ o. OneByOne (PerformsAlone e first) (state c' b m) rs (reached o (state c'' b' m)))) →
    OnMade y (λ o. LetsDeclared e first (letting (state c b l) ws) d (reached o (letting (state c'' b' l') us)))
told_declared {Y} e first c c' c'' b b' l l' ws us d x vs rs y h ex ec er k =
    let P : Result (List Variable) Refusal → Type 0 = λ o. Declares e c 0 ws l d o us l' in
    let Q : Result Y ProofRefusal → Type 0 = λ o. OneByOne (PerformsAlone e first) (state c b l') (lets vs) (reached o (state c'' b' l')) in
    let R : Result Y ProofRefusal → Type 0 = λ o. LetsDeclared e first (letting (state c b l) ws) d (reached o (letting (state c'' b' l') us)) in
    let at_c : OnMade y (λ o. OneByOne (PerformsAlone e first) (state c b l') rs (reached o (state c'' b' l'))) = subst (λ z. OnMade y (λ o. OneByOne (PerformsAlone e first) (state z b l') rs (reached o (state c'' b' l')))) ec (k l') in
    let at_vs : OnMade y Q = subst (λ z. OnMade y (λ o. OneByOne (PerformsAlone e first) (state c b l') z (reached o (state c'' b' l')))) er at_c in
    let read : Declares e c 0 ws l d (Ok vs) us l' = on_read P x vs ex h in
    on_made Q R y at_vs (λ z g. sk.declared us vs l' (Ok (state c'' b' l')) read g) (λ r g. sk.declared us vs l' (Err r) read g)

pub ruleset declared_rules = (told_undeclared, told_declared)

-- one after another
abbrev pub LettingAll : Environment → Place → Letting → List (Next Comma DeclaredNode) → Letting → List (Next Comma DeclaredNode) → Type 0
LettingAll e first s rest t all = Taking (LetsDeclared e first) s (map declared_tree rest) t (map declared_tree all)

pub told_each_begun : (e : Environment) (first : Place) (s : Letting) (all : List (Next Comma DeclaredNode)) → LettingAll e first s all s all
told_each_begun e first s all o h = h

pub told_each_end : (e : Environment) (first : Place) (s t : Letting) (rest all : List (Next Comma DeclaredNode)) → length rest ≡ 0 → LettingAll e first s rest t all → OneByOne (LetsDeclared e first) t (map declared_tree all) (Ok s)
told_each_end e first s t rest all er g = taking_end (LetsDeclared e first) s t (map declared_tree rest) (map declared_tree all) (ap (map declared_tree) (empty rest er)) g

pub told_each_stop : {Y : Type 0} (Z : Type 0) (e : Environment) (first : Place) (s t u v : Letting) (n : Next Comma DeclaredNode) (rest others all : List (Next Comma DeclaredNode)) (y : Result Y ProofFault) (f : ProofFault) → rest ≡ n ∷ others →
    OnMade y (λ o. LetsDeclared e first s (declared_of n.tree) (reached o u)) → y ≡ Err f → LettingAll e first s rest t all → OnMade {X = Z} (Err f) (λ o. OneByOne (LetsDeclared e first) t (map declared_tree all) (reached o v))
told_each_stop Z e first s t u v n rest others all y f er h ey g = taking_stop Z (LetsDeclared e first) s t u v (declared_of n.tree) (map declared_tree rest) (map declared_tree others) (map declared_tree all) y f (ap (map declared_tree) er) h ey g

pub told_each_turn : {Y : Type 0} (e : Environment) (first : Place) (s t u : Letting) (n : Next Comma DeclaredNode) (rest others all : List (Next Comma DeclaredNode)) (y : Result Y ProofFault) (z : Y) → rest ≡ n ∷ others →
    OnMade y (λ o. LetsDeclared e first s (declared_of n.tree) (reached o u)) → y ≡ Ok z → LettingAll e first s rest t all → LettingAll e first u others t all
told_each_turn e first s t u n rest others all y z er h ey g = taking_turn (LetsDeclared e first) s t u (declared_of n.tree) (map declared_tree rest) (map declared_tree others) (map declared_tree all) y z (ap (map declared_tree) er) h ey g

pub ruleset each_rules = (told_each_begun, told_each_end, told_each_stop, told_each_turn)

-- the first, and then the others
pub told_first_refused : {Y : Type 0} (Z : Type 0) (e : Environment) (first : Place) (s u v : Letting) (d : DeclaredData) (ds : List DeclaredData) (y : Result Y ProofFault) (f : ProofFault) →
    OnMade y (λ o. LetsDeclared e first s d (reached o u)) → y ≡ Err f → OnMade {X = Z} (Err f) (λ o. OneByOne (LetsDeclared e first) s (d ∷ ds) (reached o v))
told_first_refused Z e first s u v d ds y f h ey = first_refused Z (LetsDeclared e first) s u v d ds y f h ey

pub told_first_taken : {Y Z : Type 0} (e : Environment) (first : Place) (s u v : Letting) (d : DeclaredData) (slice items : List (Next Comma DeclaredNode)) (y : Result Y ProofFault) (z : Y) (q : Result Z ProofFault) →
    OnMade y (λ o. LetsDeclared e first s d (reached o u)) → y ≡ Ok z → slice ≡ items → OnMade q (λ o. OneByOne (LetsDeclared e first) u (map declared_tree slice) (reached o v)) →
    OnMade q (λ o. OneByOne (LetsDeclared e first) s (d ∷ map declared_tree items) (reached o v))
told_first_taken e first s u v d slice items y z q h ey es k = first_taken_each (LetsDeclared e first) declared_tree s u v d slice items y z q h ey es k

pub ruleset all_rules = (told_first_refused, told_first_taken)

-- an identifier that no type follows
pub told_unreserved : (e : Environment) (first : Place) (c : Context) (b : Block) (w : Word) (x : Result Variable Refusal) (r : Refusal) → x ≡ reserved_variable 0 c w → x ≡ Err r → (l : Left) → LetsReserved e first (state c b l) w (Err (Resolve r))
told_unreserved e first c b w x r ex er l = sk.not_reserved r (sym ex ∙ er)

pub told_reserved : {Y : Type 0} (e : Environment) (first : Place) (c c' : Context) (b b' : Block) (w : Word) (x : Result Variable Refusal) (v : Variable) (y : Result Y ProofFault) → x ≡ reserved_variable 0 c w → x ≡ Ok v →
    ((l : Left) → OnMade y (λ o. PerformsAlone e first (state c b l) (read.Let v) (reached o (state c' b' l)))) → (l : Left) → OnMade y (λ o. LetsReserved e first (state c b l) w (reached o (state c' b' l)))
told_reserved {Y} e first c c' b b' w x v y ex ev h l =
    let P : Result Y ProofRefusal → Type 0 = λ o. PerformsAlone e first (state c b l) (read.Let v) (reached o (state c' b' l)) in
    let Q : Result Y ProofRefusal → Type 0 = λ o. LetsReserved e first (state c b l) w (reached o (state c' b' l)) in
    on_made P Q y (h l) (λ z g. sk.reserved v (Ok (state c' b' l)) (sym ex ∙ ev) g) (λ r g. sk.reserved v (Err r) (sym ex ∙ ev) g)

pub ruleset reserved_rules = (told_unreserved, told_reserved)

-- one after another
abbrev pub LettingWords : Environment → Place → Context → Block → List Word → Context → Block → List Word → Type 0
LettingWords e first c b rest d b' all = (l : Left) → Taking (LetsReserved e first) (state c b l) rest (state d b' l) all

pub told_words_begun : (e : Environment) (first : Place) (c : Context) (b : Block) (all : List Word) → LettingWords e first c b all c b all
told_words_begun e first c b all l o h = h

pub told_words_end : (e : Environment) (first : Place) (c d : Context) (b b' : Block) (rest all : List Word) → length rest ≡ 0 → LettingWords e first c b rest d b' all → (l : Left) → OneByOne (LetsReserved e first) (state d b' l) all (Ok (state c b l))
told_words_end e first c d b b' rest all er g l = taking_end (LetsReserved e first) (state c b l) (state d b' l) rest all (empty rest er) (g l)

pub told_words_stop : {X : Type 0} (Y : Type 0) (e : Environment) (first : Place) (c c' d : Context) (b b' f' : Block) (w : Word) (rest others all : List Word) (x : Result X ProofFault) (f : ProofFault) → rest ≡ w ∷ others →
    ((l : Left) → OnMade x (λ o. LetsReserved e first (state c b l) w (reached o (state c' b' l)))) → x ≡ Err f → LettingWords e first c b rest d f' all →
    (l : Left) → OnMade {X = Y} (Err f) (λ o. OneByOne (LetsReserved e first) (state d f' l) all (reached o (state c' b' l)))
told_words_stop Y e first c c' d b b' f' w rest others all x f er h ex g l = taking_stop Y (LetsReserved e first) (state c b l) (state d f' l) (state c' b' l) (state c' b' l) w rest others all x f er (h l) ex (g l)

pub told_words_turn : {X : Type 0} (e : Environment) (first : Place) (c c' d : Context) (b b' f' : Block) (w : Word) (rest others all : List Word) (x : Result X ProofFault) (y : X) → rest ≡ w ∷ others →
    ((l : Left) → OnMade x (λ o. LetsReserved e first (state c b l) w (reached o (state c' b' l)))) → x ≡ Ok y → LettingWords e first c b rest d f' all → LettingWords e first c' b' others d f' all
told_words_turn e first c c' d b b' f' w rest others all x y er h ex g l = taking_turn (LetsReserved e first) (state c b l) (state d f' l) (state c' b' l) w rest others all x y er (h l) ex (g l)

pub ruleset words_rules = (told_words_begun, told_words_end, told_words_stop, told_words_turn)

-- all declared identifiers
declared_in-is : (node : Chain Comma DeclaredNode) (tree : DeclarationsData) → declarations_of node ≡ tree → declared_of node.first ∷ map declared_tree node.more.items ≡ declared_in tree
declared_in-is node tree e = ap (λ ds. declared_of node.first ∷ ds) (sym (listed_declared-is node.more.items)) ∙ ap declared_in e

pub told_not_let : {Y : Type 0} (Z : Type 0) (e : Environment) (first : Place) (s t : State) (u : Letting) (ws : List Word) (node : Chain Comma DeclaredNode) (tree : DeclarationsData) (y : Result Y ProofFault) (f : ProofFault) → declarations_of node ≡ tree → ws ≡ [] →
    OnMade y (λ o. OneByOne (LetsDeclared e first) (letting s ws) (declared_of node.first ∷ map declared_tree node.more.items) (reached o u)) → y ≡ Err f → OnMade {X = Z} (Err f) (λ o. Lets e first s (declared_in tree) (reached o t))
told_not_let {Y} Z e first s t u ws node tree y f et ew h ey =
    let P : Result Y ProofRefusal → Type 0 = λ o. OneByOne (LetsDeclared e first) (letting s ws) (declared_of node.first ∷ map declared_tree node.more.items) (reached o u) in
    let Q : Result Z ProofRefusal → Type 0 = λ o. Lets e first s (declared_in tree) (reached o t) in
    on_err P Q y f ey h (λ r k. sk.not_declared r (subst (λ ds. OneByOne (LetsDeclared e first) (letting s []) ds (Err r)) (declared_in-is node tree et)
    (subst (λ us. OneByOne (LetsDeclared e first) (letting s us) (declared_of node.first ∷ map declared_tree node.more.items) (Err r)) ew k)))

pub told_let : {Y Z : Type 0} (e : Environment) (first : Place) (s : State) (c d : Context) (b b' : Block) (l : Left) (ws us slice : List Word) (node : Chain Comma DeclaredNode) (tree : DeclarationsData) (y : Result Y ProofFault) (z : Y) (q : Result Z ProofFault) → declarations_of node ≡ tree → ws ≡ [] →
    OnMade y (λ o. OneByOne (LetsDeclared e first) (letting s ws) (declared_of node.first ∷ map declared_tree node.more.items) (reached o (letting (state c b l) us))) → y ≡ Ok z → slice ≡ us →
    ((m : Left) → OnMade q (λ o. OneByOne (LetsReserved e first) (state c b m) slice (reached o (state d b' m)))) → OnMade q (λ o. Lets e first s (declared_in tree) (reached o (state d b' l)))
told_let {Y} {Z} e first s c d b b' l ws us slice node tree y z q et ew h ey es k =
    let P : Result Y ProofRefusal → Type 0 = λ o. OneByOne (LetsDeclared e first) (letting s ws) (declared_of node.first ∷ map declared_tree node.more.items) (reached o (letting (state c b l) us)) in
    let Q : Result Z ProofRefusal → Type 0 = λ o. OneByOne (LetsReserved e first) (state c b l) us (reached o (state d b' l)) in
    let R : Result Z ProofRefusal → Type 0 = λ o. Lets e first s (declared_in tree) (reached o (state d b' l)) in
    let waiting : OnMade q Q = subst (λ vs. OnMade q (λ o. OneByOne (LetsReserved e first) (state c b l) vs (reached o (state d b' l)))) es (k l) in
    let all : OneByOne (LetsDeclared e first) (letting s []) (declared_in tree) (Ok (letting (state c b l) us)) = subst (λ ds. OneByOne (LetsDeclared e first) (letting s []) ds (Ok (letting (state c b l) us))) (declared_in-is node tree et)
    (subst (λ vs. OneByOne (LetsDeclared e first) (letting s vs) (declared_of node.first ∷ map declared_tree node.more.items) (Ok (letting (state c b l) us))) ew (on_ok P y z ey h)) in
    on_made Q R q waiting (λ w g. sk.all_declared (letting (state c b l) us) (Ok (state d b' l)) all g) (λ r g. sk.all_declared (letting (state c b l) us) (Err r) all g)

pub ruleset lets_rules = (told_not_let, told_let)
