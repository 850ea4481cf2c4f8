-- Lists that are taken one by one: what the rest makes, all make.
use Rattle.std.proofs.Common.{◌≡◌, List, [], ◌∷◌, ◌++◌, length, refl, sym, ap, ◌∙◌, subst}
use Rattle.std.specs.Prelude.{Result, Ok, Err}
use Rattle.mz_fits.proofs.FitLemmas.{empty}
use Rattle.mz_justified.specs.Answers.{OnMade}
use Rattle.mz_justified.specs.declared.proof_fault.ProofFault.{ProofFault}
use Rattle.mz_justified.specs.declared.proof_fault.ProofRefusal.{ProofRefusal}
use Rattle.mz_walk.specs.Walked as wk
use Rattle.mz_walk.specs.Walked.{OneByOne}
use Rattle.mz_walk.specs.Answers.{reached}
use Rattle.mz_performing.proofs.AnswerLemmas.{on_err, on_ok, on_made}

abbrev pub Taking : {S X : Type 0} → (S → X → Result S ProofRefusal → Type 0) → S → List X → S → List X → Type 0
Taking {S} {X} one s rest t all = (o : Result S ProofRefusal) → OneByOne one s rest o → OneByOne one t all o

pub taking_end : {S X : Type 0} (one : S → X → Result S ProofRefusal → Type 0) (s t : S) (rest all : List X) → rest ≡ [] → Taking one s rest t all → OneByOne one t all (Ok s)
taking_end one s t rest all e g = g (Ok s) (subst (λ xs. OneByOne one s xs (Ok s)) (sym e) (wk.none_left s))

pub taking_stop : {S X Y : Type 0} (Z : Type 0) (one : S → X → Result S ProofRefusal → Type 0) (s t u v : S) (x : X) (rest others all : List X) (y : Result Y ProofFault) (f : ProofFault) → rest ≡ x ∷ others →
    OnMade y (λ o. one s x (reached o u)) → y ≡ Err f → Taking one s rest t all → OnMade {X = Z} (Err f) (λ o. OneByOne one t all (reached o v))
taking_stop {S} {X} {Y} Z one s t u v x rest others all y f er h ey g =
    let P : Result Y ProofRefusal → Type 0 = λ o. one s x (reached o u) in
    let Q : Result Z ProofRefusal → Type 0 = λ o. OneByOne one t all (reached o v) in
    on_err P Q y f ey h (λ r k. g (Err r) (subst (λ xs. OneByOne one s xs (Err r)) (sym er) (wk.one_refused s x others r k)))

pub taking_turn : {S X Y : Type 0} (one : S → X → Result S ProofRefusal → Type 0) (s t u : S) (x : X) (rest others all : List X) (y : Result Y ProofFault) (z : Y) → rest ≡ x ∷ others →
    OnMade y (λ o. one s x (reached o u)) → y ≡ Ok z → Taking one s rest t all → Taking one u others t all
taking_turn {S} {X} {Y} one s t u x rest others all y z er h ey g o k =
    let P : Result Y ProofRefusal → Type 0 = λ q. one s x (reached q u) in
    g o (subst (λ xs. OneByOne one s xs o) (sym er) (wk.one_taken s u x others o (on_ok P y z ey h) k))

-- the first, and then the others
pub first_refused : {S X Y : Type 0} (Z : Type 0) (one : S → X → Result S ProofRefusal → Type 0) (s u v : S) (x : X) (xs : List X) (y : Result Y ProofFault) (f : ProofFault) →
    OnMade y (λ o. one s x (reached o u)) → y ≡ Err f → OnMade {X = Z} (Err f) (λ o. OneByOne one s (x ∷ xs) (reached o v))
first_refused {S} {X} {Y} Z one s u v x xs y f h ey =
    let P : Result Y ProofRefusal → Type 0 = λ o. one s x (reached o u) in
    let Q : Result Z ProofRefusal → Type 0 = λ o. OneByOne one s (x ∷ xs) (reached o v) in
    on_err P Q y f ey h (λ r k. wk.one_refused s x xs r k)

pub first_taken : {S X Y Z : Type 0} (one : S → X → Result S ProofRefusal → Type 0) (s u v : S) (x : X) (xs : List X) (y : Result Y ProofFault) (z : Y) (q : Result Z ProofFault) →
    OnMade y (λ o. one s x (reached o u)) → y ≡ Ok z → OnMade q (λ o. OneByOne one u xs (reached o v)) → OnMade q (λ o. OneByOne one s (x ∷ xs) (reached o v))
first_taken {S} {X} {Y} {Z} one s u v x xs y z q h ey k =
    let P : Result Y ProofRefusal → Type 0 = λ o. one s x (reached o u) in
    let Q : Result Z ProofRefusal → Type 0 = λ o. OneByOne one u xs (reached o v) in
    let R : Result Z ProofRefusal → Type 0 = λ o. OneByOne one s (x ∷ xs) (reached o v) in
    let first : one s x (Ok u) = on_ok P y z ey h in
    on_made Q R q k (λ w g. wk.one_taken s u x xs (Ok v) first g) (λ r g. wk.one_taken s u x xs (Err r) first g)

-- one alone
pub alone : {S X Z : Type 0} (one : S → X → Result S ProofRefusal → Type 0) (s v : S) (x : X) (q : Result Z ProofFault) → OnMade q (λ o. one s x (reached o v)) → OnMade q (λ o. OneByOne one s (x ∷ []) (reached o v))
alone {S} {X} {Z} one s v x q h =
    let P : Result Z ProofRefusal → Type 0 = λ o. one s x (reached o v) in
    let R : Result Z ProofRefusal → Type 0 = λ o. OneByOne one s (x ∷ []) (reached o v) in
    on_made P R q h (λ w g. wk.one_taken s v x [] (Ok v) g (wk.none_left v)) (λ r g. wk.one_refused s x [] r g)
