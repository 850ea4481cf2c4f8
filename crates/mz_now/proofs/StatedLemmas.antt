-- What the code of a `now` tells.
use Rattle.std.proofs.Common.{◌≡◌, ◌<◌, ◌≤◌, ◌-◌, ◌+◌, ℕ, zero, suc, List, [], ◌∷◌, ◌++◌, refl, sym, ap, ◌∙◌, subst, arith, add-one, map, length, drop, take, get_or, Bool, true, false, if◌then◌else◌, Option, Some, None}
use Rattle.std.specs.Prelude.{◌&&◌, nat_lt}
use Rattle.std.specs.List.{list_all}
use Rattle.std.proofs.lemmas.Bool.{lt-ltb, le-ltb}
use Rattle.std.proofs.lemmas.Option.{same_Some, none-some}
use Rattle.std.proofs.lemmas.List.{map-append}
use Rattle.std.proofs.Math.Seq.{drop-cons, drop-length, take_all}
use Rattle.mz_core.specs.Statement.{Statement, For}
use Rattle.mz_core.specs.StatementForms.{implication}
use Rattle.mz_core.specs.Abstraction.{statement_over}
use Rattle.mz_core.specs.Parts.{conjunction}
use Rattle.mz_core.specs.declared.soft_type.SoftType.{SoftType}
use Rattle.mz_logic.specs.Term.{Term}
use Rattle.mz_sizes.specs.Sizes.{statement_keeps}
use Rattle.mz_now.specs.Stated.{with_term, conjuncts_with, conjuncts_of, stated_by}
use Rattle.mz_now.specs.Kept.{alone_kept, in_front_kept, most_conjuncts, keeps_with, replaced_kept, kept_with, in_front_of, conjuncts_kept, whole_kept, whole_of, stated_kept, IsStated}
use Rattle.mz_now.specs.declared.now_part.NowPart.{NowPart}
use Rattle.mz_now.specs.declared.now_part.NowPart.TheVariants.{Quantifier, Antecedent, Conjunct, Defined, Hidden}

-- what is to be had where a test is passed
chosen : {X : Type 0} (b : Bool) (x : X) → b ≡ true → Some x ≡ (if b then Some x else None)
chosen b x e = ap (λ c. if c then Some x else None) (sym e)

not_chosen : {X : Type 0} (b : Bool) (x : X) → b ≡ false → None ≡ (if b then Some x else None)
not_chosen b x e = ap (λ c. if c then Some x else None) (sym e)

had : {X : Type 0} (b : Bool) (x y : X) → (if b then Some x else None) ≡ Some y → y ≡ x
had true x y e = sym (same_Some x y e)
had false x y e = absurd (none-some y e)

-- one statement
pub told_alone : (s : Statement) (b : Bool) (old new : List Statement) → b ≡ statement_keeps s → b ≡ true → old ≡ [] → new ≡ old ++ s ∷ [] → Some new ≡ alone_kept s
told_alone s b old new eb h none e = ap Some (e ∙ ap (λ ts. ts ++ s ∷ []) none) ∙ chosen (statement_keeps s) (s ∷ []) (sym eb ∙ h)

pub told_too_large : (s : Statement) (b : Bool) → b ≡ statement_keeps s → b ≡ false → None ≡ alone_kept s
told_too_large s b eb h = not_chosen (statement_keeps s) (s ∷ []) (sym eb ∙ h)

pub ruleset alone_rules = (told_alone, told_too_large)

pub told_in_front : (s copy : Statement) (ss new : List Statement) → length ss < 512 → copy ≡ s → new ≡ copy ∷ ss → Some new ≡ in_front_kept s ss
told_in_front s copy ss new lt same e = ap Some (e ∙ ap (λ t. t ∷ ss) same) ∙ chosen (nat_lt (length ss) most_conjuncts) (s ∷ ss) (lt-ltb (length ss) most_conjuncts lt)

pub told_too_many : (s : Statement) (ss : List Statement) → 512 ≤ length ss → None ≡ in_front_kept s ss
told_too_many s ss le = not_chosen (nat_lt (length ss) most_conjuncts) (s ∷ ss) (le-ltb (length ss) most_conjuncts le)

pub ruleset front_rules = (told_in_front, told_too_many)

pub told_whole : (ss : List Statement) (s : Statement) (b : Bool) → s ≡ conjunction ss → b ≡ statement_keeps s → b ≡ true → Some s ≡ whole_kept ss
told_whole ss s b es eb h = ap Some es ∙ chosen (statement_keeps (conjunction ss)) (conjunction ss) (ap statement_keeps (sym es) ∙ (sym eb ∙ h))

pub told_no_whole : (ss : List Statement) (s : Statement) (b : Bool) → s ≡ conjunction ss → b ≡ statement_keeps s → b ≡ false → None ≡ whole_kept ss
told_no_whole ss s b es eb h = not_chosen (statement_keeps (conjunction ss)) (conjunction ss) (ap statement_keeps (sym es) ∙ (sym eb ∙ h))

pub ruleset whole_rules = (told_whole, told_no_whole)

-- terms for a constant
take_more : {X : Type 0} (xs : List X) (i : ℕ) (x : X) → i < length xs → x ≡ get_or xs i x → take (suc i) xs ≡ take i xs ++ x ∷ []
take_more [] i x lt e = absurd (omega (arith, lt))
take_more (y ∷ ys) zero x lt e = ap (λ z. z ∷ []) (sym e)
take_more (y ∷ ys) (suc i) x lt e = ap (λ zs. y ∷ zs) (take_more ys i x (omega (arith, lt)) e)

and_false : (a b : Bool) → b ≡ false → (a && b) ≡ false
and_false true b h = h
and_false false b h = refl

and_more : (a b c : Bool) → (a && b) ≡ true → (b ≡ true → c ≡ true) → (a && c) ≡ true
and_more true b c h k = k h
and_more false b c h k = h

one_fails : (f : Statement → Bool) (xs : List Statement) (i : ℕ) (x : Statement) → i < length xs → x ≡ get_or xs i x → f x ≡ false → list_all f xs ≡ false
one_fails f [] i x lt e h = absurd (omega (arith, lt))
one_fails f (y ∷ ys) zero x lt e h = ap (λ b. b && list_all f ys) (ap f (sym e) ∙ h)
one_fails f (y ∷ ys) (suc i) x lt e h = and_false (f y) (list_all f ys) (one_fails f ys i x (omega (arith, lt)) e h)

one_more : (f : Statement → Bool) (xs : List Statement) (i : ℕ) (x : Statement) → i < length xs → x ≡ get_or xs i x → f x ≡ true → list_all f (take i xs) ≡ true → list_all f (take (suc i) xs) ≡ true
one_more f [] i x lt e h k = absurd (omega (arith, lt))
one_more f (y ∷ ys) zero x lt e h k = ap (λ b. b && true) (ap f (sym e) ∙ h)
one_more f (y ∷ ys) (suc i) x lt e h k = and_more (f y) (list_all f (take i ys)) (list_all f (take (suc i) ys)) k (one_more f ys i x (omega (arith, lt)) e h)

pub record Replaced (p : NowPart) (ss : List Statement) (i : ℕ) (out : List Statement) : Type 0 where
  pub made : out ≡ map (with_term p) (take i ss)
  pub keep : list_all (keeps_with p) (take i ss) ≡ true

pub told_none_replaced : (p : NowPart) (ss out : List Statement) → out ≡ [] → Replaced p ss 0 out
told_none_replaced p ss out e = record { made = e; keep = refl }

keeps_one : (p : NowPart) (s copy t : Statement) (b c : Bool) → copy ≡ s → t ≡ with_term p copy → b ≡ statement_keeps t → b ≡ c → keeps_with p s ≡ c
keeps_one p s copy t b c same et eb h = ap (keeps_with p) (sym same) ∙ (ap statement_keeps (sym et) ∙ (sym eb ∙ h))

pub told_replaced : (p : NowPart) (ss : List Statement) (i : ℕ) (s copy t : Statement) (b : Bool) (out new : List Statement) → i < length ss → s ≡ get_or ss i s → copy ≡ s → t ≡ with_term p copy → b ≡ statement_keeps t → b ≡ true → new ≡ out ++ t ∷ [] → Replaced p ss i out → Replaced p ss (i + 1) new
told_replaced p ss i s copy t b out new lt at same et eb h e r =
    let is : t ≡ with_term p s = et ∙ ap (with_term p) same in
    let behind : map (with_term p) (take (suc i) ss) ≡ map (with_term p) (take i ss) ++ with_term p s ∷ [] = ap (map (with_term p)) (take_more ss i s lt at) ∙ map-append (with_term p) (take i ss) (s ∷ []) in
    subst (λ (j : ℕ). Replaced p ss j new) (sym (add-one i))
    (record { made = e ∙ (ap (λ us. us ++ t ∷ []) r.made ∙ (ap (λ u. map (with_term p) (take i ss) ++ u ∷ []) is ∙ sym behind)); keep = one_more (keeps_with p) ss i s lt at (keeps_one p s copy t b true same et eb h) r.keep })

pub told_one_too_large : (p : NowPart) (ss : List Statement) (i : ℕ) (s copy t : Statement) (b : Bool) → i < length ss → s ≡ get_or ss i s → copy ≡ s → t ≡ with_term p copy → b ≡ statement_keeps t → b ≡ false → None ≡ replaced_kept p ss
told_one_too_large p ss i s copy t b lt at same et eb h = not_chosen (list_all (keeps_with p) ss) (map (with_term p) ss) (one_fails (keeps_with p) ss i s lt at (keeps_one p s copy t b false same et eb h))

pub told_all_replaced : (p : NowPart) (ss : List Statement) (i : ℕ) (out : List Statement) → length ss ≤ i → Replaced p ss i out → Some out ≡ replaced_kept p ss
told_all_replaced p ss i out le r =
    let all : take i ss ≡ ss = take_all i ss le in
    ap Some (r.made ∙ ap (map (with_term p)) all) ∙ chosen (list_all (keeps_with p) ss) (map (with_term p) ss) (ap (list_all (keeps_with p)) (sym all) ∙ r.keep)

pub ruleset replaced_rules = (told_none_replaced, told_replaced, told_one_too_large, told_all_replaced)

-- a part
pub told_quantifier : (p : NowPart) (c : ℕ) (ty : SoftType) (ss : List Statement) (o : Option (List Statement)) → p ≡ Quantifier c ty → o ≡ alone_kept (For ty (statement_over c 0 (conjunction ss))) → o ≡ kept_with p ss
told_quantifier p c ty ss o e h = h ∙ ap (λ q. kept_with q ss) (sym e)

pub told_antecedent : (p : NowPart) (s : Statement) (ss : List Statement) (o : Option (List Statement)) → p ≡ Antecedent s → o ≡ alone_kept (implication s (conjunction ss)) → o ≡ kept_with p ss
told_antecedent p s ss o e h = h ∙ ap (λ q. kept_with q ss) (sym e)

pub told_conjunct : (p : NowPart) (s : Statement) (ss : List Statement) (o : Option (List Statement)) → p ≡ Conjunct s → o ≡ in_front_kept s ss → o ≡ kept_with p ss
told_conjunct p s ss o e h = h ∙ ap (λ q. kept_with q ss) (sym e)

pub told_defined : (p : NowPart) (c : ℕ) (t : Term) (ss : List Statement) (o : Option (List Statement)) → p ≡ Defined c t → o ≡ replaced_kept p ss → o ≡ kept_with p ss
told_defined p c t ss o e h = h ∙ (ap (λ q. replaced_kept q ss) e ∙ ap (λ q. kept_with q ss) (sym e))

pub told_hidden : (p : NowPart) (c : ℕ) (ss : List Statement) → p ≡ Hidden c → Some ss ≡ kept_with p ss
told_hidden p c ss e = ap (λ q. kept_with q ss) (sym e)

pub ruleset part_rules = (told_quantifier, told_antecedent, told_conjunct, told_defined, told_hidden)

-- what is kept is what the parts state
with_law : (p : NowPart) (ts ss : List Statement) → kept_with p ts ≡ Some ss → ss ≡ conjuncts_with p ts
with_law (Quantifier c ty) ts ss e = had (statement_keeps (For ty (statement_over c 0 (conjunction ts)))) (For ty (statement_over c 0 (conjunction ts)) ∷ []) ss e
with_law (Antecedent s) ts ss e = had (statement_keeps (implication s (conjunction ts))) (implication s (conjunction ts) ∷ []) ss e
with_law (Conjunct s) ts ss e = had (nat_lt (length ts) most_conjuncts) (s ∷ ts) ss e
with_law (Defined c t) ts ss e = had (list_all (keeps_with (Defined c t)) ts) (map (with_term (Defined c t)) ts) ss e
with_law (Hidden c) ts ss e = sym (same_Some ts ss e)

front_law : (p : NowPart) (ps : List NowPart) (o : Option (List Statement)) → ((ts : List Statement) → o ≡ Some ts → ts ≡ conjuncts_of ps) → (ss : List Statement) → in_front_of p o ≡ Some ss → ss ≡ conjuncts_with p (conjuncts_of ps)
front_law p ps None h ss e = absurd (none-some ss e)
front_law p ps (Some ts) h ss e = with_law p ts ss e ∙ ap (conjuncts_with p) (h ts refl)

conjuncts_law : (ps : List NowPart) (ss : List Statement) → conjuncts_kept ps ≡ Some ss → ss ≡ conjuncts_of ps
conjuncts_law [] ss e = sym (same_Some [] ss e)
conjuncts_law (p ∷ ps) ss e = front_law p ps (conjuncts_kept ps) (conjuncts_law ps) ss e

whole_law : (ps : List NowPart) (o : Option (List Statement)) → ((ts : List Statement) → o ≡ Some ts → ts ≡ conjuncts_of ps) → (s : Statement) → whole_of o ≡ Some s → s ≡ stated_by ps
whole_law ps None h s e = absurd (none-some s e)
whole_law ps (Some ts) h s e = had (statement_keeps (conjunction ts)) (conjunction ts) s e ∙ ap conjunction (h ts refl)

is_stated : (ps : List NowPart) (o : Option Statement) → o ≡ stated_kept ps → IsStated ps o
is_stated ps o e = record { kept = e; stated = λ s h. whole_law ps (conjuncts_kept ps) (conjuncts_law ps) s (sym e ∙ h) }

-- the parts, from the last one on
drop-from_last : (ps : List NowPart) (i j : ℕ) (p : NowPart) → j ≡ i - 1 → 0 < i → i ≤ length ps → p ≡ get_or ps j p → drop j ps ≡ p ∷ drop i ps
drop-from_last ps zero j p ej lt le e = absurd (omega (arith, lt))
drop-from_last ps (suc n) j p ej lt le e =
    let same : j ≡ n = omega (arith, ej) in
    let within : j < length ps = omega (arith, le, same) in
    drop-cons ps j p within ∙ (ap (λ q. q ∷ drop (suc j) ps) (sym e) ∙ ap (λ m. p ∷ drop (suc m) ps) same)

conjuncts_kept-part_is : (ps : List NowPart) (i j : ℕ) (p : NowPart) (old : List Statement) (o : Option (List Statement)) → j ≡ i - 1 → 0 < i → i ≤ length ps → p ≡ get_or ps j p → conjuncts_kept (drop i ps) ≡ Some old → o ≡ kept_with p old → conjuncts_kept (drop j ps) ≡ o
conjuncts_kept-part_is ps i j p old o ej lt le e h k = ap conjuncts_kept (drop-from_last ps i j p ej lt le e) ∙ (ap (in_front_of p) h ∙ sym k)

conjuncts_kept-none_before : (ps : List NowPart) (j : ℕ) → conjuncts_kept (drop j ps) ≡ None → conjuncts_kept ps ≡ None
conjuncts_kept-none_before [] zero h = h
conjuncts_kept-none_before [] (suc j) h = h
conjuncts_kept-none_before (p ∷ ps) zero h = h
conjuncts_kept-none_before (p ∷ ps) (suc j) h = ap (in_front_of p) (conjuncts_kept-none_before ps j h)

pub conjuncts_kept-told_part : (ps : List NowPart) (i j : ℕ) (p : NowPart) (old new : List Statement) (o : Option (List Statement)) → j ≡ i - 1 → 0 < i → i ≤ length ps → p ≡ get_or ps j p → conjuncts_kept (drop i ps) ≡ Some old → o ≡ kept_with p old → o ≡ Some new → conjuncts_kept (drop j ps) ≡ Some new
conjuncts_kept-told_part ps i j p old new o ej lt le e h k is = conjuncts_kept-part_is ps i j p old o ej lt le e h k ∙ is

pub told_part_beyond : (parts ps : List NowPart) (i j : ℕ) (p : NowPart) (old : List Statement) (o : Option (List Statement)) → ps ≡ parts → j ≡ i - 1 → 0 < i → i ≤ length ps → p ≡ get_or ps j p → conjuncts_kept (drop i ps) ≡ Some old → o ≡ kept_with p old → o ≡ None → IsStated parts None
told_part_beyond parts ps i j p old o ep ej lt le e h k is =
    is_stated parts None (ap whole_of (sym (conjuncts_kept-none_before ps j (conjuncts_kept-part_is ps i j p old o ej lt le e h k ∙ is))) ∙ ap stated_kept ep)

pub conjuncts_kept-told_no_part : (ps : List NowPart) (i : ℕ) (ss : List Statement) → i ≡ length ps → ss ≡ [] → conjuncts_kept (drop i ps) ≡ Some ss
conjuncts_kept-told_no_part ps i ss ei h = ap conjuncts_kept (ap (λ m. drop m ps) ei ∙ drop-length ps) ∙ ap Some (sym h)

pub told_stated : (parts ps : List NowPart) (i : ℕ) (ss : List Statement) (o : Option Statement) → ps ≡ parts → i ≡ 0 → conjuncts_kept (drop i ps) ≡ Some ss → o ≡ whole_kept ss → IsStated parts o
told_stated parts ps i ss o ep ei h k =
    is_stated parts o (k ∙ (ap whole_of (sym h) ∙ (ap (λ m. whole_of (conjuncts_kept (drop m ps))) ei ∙ ap stated_kept ep)))

pub ruleset stated_rules = (conjuncts_kept-told_part, told_part_beyond, conjuncts_kept-told_no_part, told_stated)
