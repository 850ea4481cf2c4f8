-- What the code that takes schemes tells.
use Rattle.std.proofs.Common.{◌≡◌, ◌+◌, List, [], sym, ap, subst, ◌∙◌, false}
use Rattle.std.specs.Prelude.{ℕ, Result, Ok, Err, OnOk, flat_map}
use Rattle.std.proofs.Math.Seq.{take-append_seam}
use Rattle.mz_core.specs.declared.outcome.Left.{Left}
use Rattle.mz_context.specs.declared.context.Context.{Context}
use Rattle.mz_context.specs.declared.labelled.LabelledStatement.{LabelledStatement}
use Rattle.mz_context.specs.declared.letters.NamedLetter.{NamedLetter}
use Rattle.mz_core.specs.declared.item.Item.{Item}
use Rattle.mz_steps.specs.Changes.{label_of}
use Rattle.mz_obligations.specs.declared.obligation.Obligation.{Obligation}
use Rattle.mz_justified.specs.Answers.{OnMade}
use Rattle.mz_justified.specs.declared.proof_fault.ProofFault.{ProofFault}
use Rattle.mz_justified.specs.declared.proof_fault.ProofFault.TheVariants as reasoning
use Rattle.mz_justified.specs.declared.proof_fault.ProofRefusal.{ProofRefusal}
use Rattle.mz_walk.specs.Answers as walk
use Rattle.mz_walk.specs.Walked as walked
use Rattle.mz_walk.specs.Walked.{Walked}
use Rattle.mz_walk.specs.Walk.{Justifies}
use Rattle.mz_standing.specs.Standing.{extent_of, with_left, with_context, with_item, behind_scheme}
use Rattle.mz_standing.specs.declared.standing.Standing.{Standing}
use Rattle.mz_taken.specs.Answers.{OnTaken, IsBrought, Brings, of_reasoning}
use Rattle.mz_taken.specs.Taken.{Taken, Made, Refused}
use Rattle.mz_taken.specs.declared.item_fault.ItemFault.{ItemFault}
use Rattle.mz_taken.specs.declared.item_fault.ItemRefusal.{ItemRefusal}
use Rattle.mz_taken.specs.declared.item_fault.ItemRefusal.TheVariants.{Proof}
use Rattle.mz_taken.proofs.OneByOneProofs.{on_err, on_ok}
use Rattle.mz_tree_item.specs.declared.schemes.SchemeTree.{SchemeTree}
use Rattle.mz_scheme_items.specs.Answers.{LeadsBy}
use Rattle.mz_scheme_items.specs.StatesScheme as rule
use Rattle.mz_letters.specs.Aside.{without_letters}
use Rattle.mz_scheme_items.specs.StatesScheme.{SchemeHeading, with_premises, scheme_item, stands_behind, TakesHeading, JustifiesScheme, StatesScheme}
use Rattle.mz_scheme_items.proofs.BesideProofs.{with_letters_of, IsBeside, heading_beside}
use Rattle.mz_letters.specs.Aside.{aside_of, put_back}
use Rattle.mz_scheme.specs.Heading.{heading_in, ended}
use Rattle.mz_letters.specs.declared.aside.Aside.{Aside}
use Rattle.mz_scheme.specs.declared.heading.ReadHeading.{ReadHeading}

-- the context is as it was where what was aside is put back
put_back_so : (c d : Context) (ps : List LabelledStatement) → IsBeside (without_letters c) d → put_back (with_premises d ps) (aside_of c) ≡ c
put_back_so c d ps beside =
    ap (λ (x : Context). put_back (with_premises x ps) (aside_of c)) beside ∙ ap (λ ls. record c { labelled = ls }) (take-append_seam c.labelled (flat_map label_of ps))

-- the heading is that of the scheme's start
abbrev pub HeadingRead : Standing → SchemeTree → Standing → Result ReadHeading ItemRefusal → Type 0
HeadingRead s t u = LeadsBy (TakesHeading s.environment s.context s.left t) (heading_in u.context u.left)

-- the standing when the scheme begins, and behind its heading
abbrev pub begun : Standing → Standing
begun s = with_context s (without_letters s.context)

pub told_unread : (Y : Type 0) (s s1 s2 v : Standing) (os os2 : List Obligation) (t : SchemeTree) (x : Result ReadHeading ItemFault) (f : ItemFault) → s1 ≡ begun s → OnTaken x (HeadingRead s1 t s2) → x ≡ Err f →
    OnTaken {X = Y} (Err f) (Brings (StatesScheme s t) v os os2)
told_unread Y s s1 s2 v os os2 t x f e1 h is =
    on_err (HeadingRead (begun s) t s2) (Brings (StatesScheme s t) v os os2) x f is (subst (λ (w : Standing). OnTaken x (HeadingRead w t s2)) e1 h) (λ r k. rule.not_read r k)

-- its justification
abbrev pub Justified : Standing → SchemeTree → ReadHeading → Walked Left → Type 0
Justified s t x = Justifies s.environment (extent_of s) s.context t.scheme false t.semicolon t.just x.conclusion s.left

made_ok : {X : Type 0} (P : Result X ProofRefusal → Type 0) (x : Result X ProofFault) (y : X) → x ≡ Ok y → OnMade x P → P (Ok y)
made_ok P x y e h = subst (λ z. OnMade z P) e h

unmade : {X Y : Type 0} (P : Result X ProofRefusal → Type 0) (Q : Result Y ItemRefusal → Type 0) (f : ProofFault) → ((r : ProofRefusal) → P (Err r) → Q (Err (Proof r))) → OnMade {X = X} (Err f) P → OnTaken {X = Y} (Err (of_reasoning f)) Q
unmade P Q (reasoning.Refused r) k h = k r h
unmade P Q reasoning.Memory k h = tt

on_unmade : {X Y : Type 0} (P : Result X ProofRefusal → Type 0) (Q : Result Y ItemRefusal → Type 0) (x : Result X ProofFault) (f : ProofFault) (g : ItemFault) → x ≡ Err f → g ≡ of_reasoning f → OnMade x P → ((r : ProofRefusal) → P (Err r) → Q (Err (Proof r))) → OnTaken {X = Y} (Err g) Q
on_unmade P Q x f g e eg h k = subst (λ y. OnTaken (Err y) Q) (sym eg) (unmade P Q f k (subst (λ y. OnMade y P) e h))

-- the standing with the scheme's letters and premises in force
abbrev in_scheme : Standing → Context → Left → ReadHeading → Standing
in_scheme s c l x = with_left (with_context s (with_premises c x.premises)) l

in_scheme_so : (s s1 s2 s3 : Standing) (x : ReadHeading) → s1 ≡ begun s → s2 ≡ with_left (with_context s1 s2.context) s2.left → s3 ≡ with_context s2 (with_premises s2.context x.premises) → s3 ≡ in_scheme s s2.context s2.left x
in_scheme_so s s1 s2 s3 x e1 e2 e3 =
    e3 ∙ ap (λ (w : Standing). with_context w (with_premises s2.context x.premises)) (e2 ∙ ap (λ (w : Standing). with_left (with_context w s2.context) s2.left) e1)

heading_so : (s s1 s2 : Standing) (t : SchemeTree) (x : Result ReadHeading ItemFault) (y : ReadHeading) → s1 ≡ begun s → OnTaken x (HeadingRead s1 t s2) → x ≡ Ok y → TakesHeading s.environment (without_letters s.context) s.left t (Made [] (heading_in s2.context s2.left y))
heading_so s s1 s2 t x y e1 h is = on_ok (HeadingRead (begun s) t s2) x y is (subst (λ (w : Standing). OnTaken x (HeadingRead w t s2)) e1 h)

pub told_unjustified : {X : Type 0} (Y : Type 0) (s s1 s2 s3 s4 v : Standing) (os os4 ps : List Obligation) (t : SchemeTree) (x : Result ReadHeading ItemFault) (y : ReadHeading) (z : Result X ProofFault) (f : ProofFault) (g : ItemFault) → s1 ≡ begun s → OnTaken x (HeadingRead s1 t s2) → x ≡ Ok y →
    s2 ≡ with_left (with_context s1 s2.context) s2.left → s3 ≡ with_context s2 (with_premises s2.context y.premises) → OnMade z (walk.Brings (Justified s3 t y) s4.left os os4) → z ≡ Err f → g ≡ of_reasoning f → OnTaken {X = Y} (Err g) (Brings (StatesScheme s t) v os ps)
told_unjustified Y s s1 s2 s3 s4 v os os4 ps t x y z f g e1 h is e2 e3 k ez eg =
    on_unmade (walk.Brings (Justified s3 t y) s4.left os os4) (Brings (StatesScheme s t) v os ps) z f g ez eg k
    (λ r j. rule.read (heading_in s2.context s2.left y) (walked.Refused r) (heading_so s s1 s2 t x y e1 h is)
    (subst (λ (w : Standing). Justified w t y (walked.Refused r)) (in_scheme_so s s1 s2 s3 y e1 e2 e3) j))

-- behind it
stated_so : (s : Standing) (c : Context) (l m : Left) (t : SchemeTree) (x : ReadHeading) → IsBeside (without_letters s.context) c → ended (with_left (in_scheme s c l x) m) (aside_of s.context) t x ≡ stands_behind s t (heading_in c l x) m
stated_so s c l m t x beside =
    ap (λ (d : Context). with_left (with_context (with_item s (scheme_item (heading_in c l x))) (behind_scheme d (scheme_item (heading_in c l x)) t.name.spelling (s.numbering.schemes + 1))) m)
    (put_back_so s.context c x.premises beside)

ended_so : (s s3 s4 s5 : Standing) (a : Aside) (c : Context) (l : Left) (t : SchemeTree) (x : ReadHeading) → a ≡ aside_of s.context → s3 ≡ in_scheme s c l x → s4 ≡ with_left s3 s4.left → s5 ≡ ended s4 a t x → IsBeside (without_letters s.context) c →
    s5 ≡ stands_behind s t (heading_in c l x) s4.left
ended_so s s3 s4 s5 a c l t x ea e3 e4 e5 beside =
    e5 ∙ ap (λ b. ended s4 b t x) ea ∙ ap (λ (w : Standing). ended w (aside_of s.context) t x) (e4 ∙ ap (λ (w : Standing). with_left w s4.left) e3) ∙ stated_so s c l s4.left t x beside

pub told_scheme : {X : Type 0} (s s1 s2 s3 s4 s5 : Standing) (os os4 : List Obligation) (t : SchemeTree) (a : Aside) (x : Result ReadHeading ItemFault) (y : ReadHeading) (z : Result X ProofFault) (v : X) → a ≡ aside_of s.context → s1 ≡ begun s → OnTaken x (HeadingRead s1 t s2) → x ≡ Ok y →
    s2 ≡ with_left (with_context s1 s2.context) s2.left → s3 ≡ with_context s2 (with_premises s2.context y.premises) → OnMade z (walk.Brings (Justified s3 t y) s4.left os os4) → z ≡ Ok v → OnOk z (s4 ≡ with_left s3 s4.left) → s5 ≡ ended s4 a t y →
    IsBrought (λ ps. StatesScheme s t (Made ps s5)) os os4
told_scheme s s1 s2 s3 s4 s5 os os4 t a x y z v ea e1 h is e2 e3 k ez h4 e5 =
    let e4 : s4 ≡ with_left s3 s4.left = subst (λ w. OnOk w (s4 ≡ with_left s3 s4.left)) ez h4 in
    let b = made_ok (walk.Brings (Justified s3 t y) s4.left os os4) z v ez k in
    let there : s3 ≡ in_scheme s s2.context s2.left y = in_scheme_so s s1 s2 s3 y e1 e2 e3 in
    let read : TakesHeading s.environment (without_letters s.context) s.left t (Made [] (heading_in s2.context s2.left y)) = heading_so s s1 s2 t x y e1 h is in
    record {
      made = b.made;
      is_made =
          subst (λ (w : Standing). StatesScheme s t (Made b.made w))
          (sym (ended_so s s3 s4 s5 a s2.context s2.left t y ea there e4 e5 (heading_beside s.environment (without_letters s.context) s.left t [] (heading_in s2.context s2.left y) read)))
          (rule.read (heading_in s2.context s2.left y) (walked.Made b.made s4.left) read (subst (λ (w : Standing). Justified w t y (walked.Made b.made s4.left)) there b.is_made));
      are_last = b.are_last;
    }

-- the standing behind a scheme
behind_so : (s : Standing) (a : Aside) (t : SchemeTree) (x : ReadHeading) (c1 c2 : Context) (w i k : Item) (label : List ℕ) (n : ℕ) → c1 ≡ put_back s.context a → w ≡ scheme_item (heading_in s.context s.left x) → label ≡ t.name.spelling → n ≡ s.numbering.schemes + 1 → i ≡ w →
    c2 ≡ behind_scheme c1 i label n → k ≡ w → with_item (with_context s c2) k ≡ ended s a t x
behind_so s a t x c1 c2 w i k label n e1 ew el en ei e2 ek =
    ap (λ (y : Item). with_item (with_context s c2) y) ek ∙ ap (λ (d : Context). with_item (with_context s d) w) e2 ∙ ap (λ (d : Context). with_item (with_context s (behind_scheme d i label n)) w) e1 ∙
    ap (λ (y : Item). with_item (with_context s (behind_scheme (put_back s.context a) y label n)) w) ei ∙ ap (λ (y : List ℕ). with_item (with_context s (behind_scheme (put_back s.context a) w y n)) w) el ∙
    ap (λ (y : ℕ). with_item (with_context s (behind_scheme (put_back s.context a) w t.name.spelling y)) w) en ∙
    ap (λ (y : Item). with_item (with_context s (behind_scheme (put_back s.context a) y t.name.spelling (s.numbering.schemes + 1))) y) ew

pub told_ended : {X E : Type 0} (r : Result X E) (s v : Standing) (a : Aside) (t : SchemeTree) (x : ReadHeading) (letters : List NamedLetter) (c1 c2 : Context) (w i k : Item) (label : List ℕ) (n : ℕ) → letters ≡ s.context.letters → c1 ≡ put_back s.context a →
    ((c : Context) (left : Left) → c.letters ≡ letters → w ≡ scheme_item (heading_in c left x)) → label ≡ t.name.spelling → n ≡ s.numbering.schemes + 1 → i ≡ w → c2 ≡ behind_scheme c1 i label n → k ≡ w → OnOk r (v ≡ with_item (with_context s c2) k) →
    OnOk r (v ≡ ended s a t x)
told_ended r s v a t x letters c1 c2 w i k label n e0 e1 ew el en ei e2 ek h =
    subst (λ y. OnOk r (v ≡ y)) (behind_so s a t x c1 c2 w i k label n e1 (ew s.context s.left (sym e0)) el en ei e2 ek) h
