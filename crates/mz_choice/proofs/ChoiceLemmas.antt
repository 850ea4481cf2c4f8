-- What the code of the choice tells.
use Rattle.std.proofs.Common.{◌≡◌, ◌≤◌, ◌<◌, ℕ, zero, suc, List, [], ◌∷◌, ◌++◌, refl, sym, ap, ◌∙◌, subst, Bool, true, false, arith, length, Option, Some, None, get_or}
use Rattle.std.specs.Prelude.{slice_get, IsTrue, ◌↔◌}
use Rattle.std.proofs.lemmas.Option.{slice_get_past}
use Rattle.mz_logic.specs.Sym.{same_sym}
use Rattle.mz_logic.specs.Term.{Term}
use Rattle.mz_core.specs.Hidden.{is_of_any_object}
use Rattle.mz_core.specs.declared.radix.Radix.{Radix}
use Rattle.mz_core.specs.declared.soft_type.SoftType.{SoftType}
use Rattle.mz_core.specs.declared.notation.Notation.{Notation}
use Rattle.mz_core.specs.declared.notation.Meaning.{Meaning}
use Rattle.mz_context.specs.declared.constants.Constant.{Constant}
use Rattle.mz_context.specs.declared.context.Context.{Context}
use Rattle.mz_ground.specs.declared.clause.Clause.{Clause}
use Rattle.mz_environment.specs.declared.environment.Environment.{Environment}
use Rattle.mz_fits.specs.Matching.{Fixed, unfixed, Placed, AllMatched, Accepted}
use Rattle.mz_fits.proofs.FitLemmas.{not_both, empty}
use Rattle.mz_types.specs.Chain.{IsChain}
use Rattle.mz_choice.specs.Choice as co
use Rattle.mz_choice.specs.Choice.{FirstMember, Typed, Takes, TakesAll, Reads, Suits, Passes, meaning_at}
use Rattle.mz_choice.specs.declared.choice.Wanted.{Wanted}

pub told_no_member : (cs : List Clause) (ks : List (Option Constant)) (scope : ℕ) (formal : Radix) (fs : Fixed) (members : List Radix) → length members ≡ 0 → FirstMember cs ks scope formal fs members None
told_no_member cs ks scope formal fs members em = subst (λ xs. FirstMember cs ks scope formal fs xs None) (sym (empty _ em)) co.no_member

pub told_other_symbol : (cs : List Clause) (ks : List (Option Constant)) (scope : ℕ) (formal : Radix) (fs : Fixed) (r : Radix) (members rs : List Radix) (b : Bool) (o : Option Fixed) → members ≡ r ∷ rs → b ≡ same_sym r.sym formal.sym → b ≡ false → FirstMember cs ks scope formal fs rs o → FirstMember cs ks scope formal fs members o
told_other_symbol cs ks scope formal fs r members rs b o em same eb h = subst (λ xs. FirstMember cs ks scope formal fs xs o) (sym em) (co.other_symbol r rs o (sym same ∙ eb) h)

trials : (cs : List Clause) (ks : List (Option Constant)) (scope : ℕ) (formal : Radix) (fs trial : Fixed) (us ts : List Term) (r : Radix) (o p : Option Fixed) → trial ≡ fs → us ≡ formal.args → ts ≡ r.args → AllMatched cs ks scope trial us ts o → o ≡ p → AllMatched cs ks scope fs formal.args r.args p
trials cs ks scope formal fs trial us ts r o p et eu er h eo =
    let one : AllMatched cs ks scope trial us ts p = subst (AllMatched cs ks scope trial us ts) eo h in
    let two : AllMatched cs ks scope fs us ts p = subst (λ (xs : Fixed). AllMatched cs ks scope xs us ts p) et one in
    let three : AllMatched cs ks scope fs formal.args ts p = subst (λ (xs : List Term). AllMatched cs ks scope fs xs ts p) eu two in
    subst (λ (xs : List Term). AllMatched cs ks scope fs formal.args xs p) er three

pub told_member : (cs : List Clause) (ks : List (Option Constant)) (scope : ℕ) (formal : Radix) (fs trial behind : Fixed) (us ts : List Term) (r : Radix) (members rs : List Radix) (b : Bool) (o : Option Fixed) → members ≡ r ∷ rs → b ≡ same_sym r.sym formal.sym → b ≡ true → trial ≡ fs → us ≡ formal.args → ts ≡ r.args → AllMatched cs ks scope trial us ts o → o ≡ Some behind → FirstMember cs ks scope formal fs members (Some behind)
told_member cs ks scope formal fs trial behind us ts r members rs b o em same eb et eu er h eo =
    subst (λ xs. FirstMember cs ks scope formal fs xs (Some behind)) (sym em) (co.member r rs behind (sym same ∙ eb) (trials cs ks scope formal fs trial us ts r o (Some behind) et eu er h eo))

pub told_other_arguments : (cs : List Clause) (ks : List (Option Constant)) (scope : ℕ) (formal : Radix) (fs trial : Fixed) (us ts : List Term) (r : Radix) (members rs : List Radix) (b : Bool) (o p : Option Fixed) → members ≡ r ∷ rs → b ≡ same_sym r.sym formal.sym → b ≡ true → trial ≡ fs → us ≡ formal.args → ts ≡ r.args → AllMatched cs ks scope trial us ts o → o ≡ None → FirstMember cs ks scope formal fs rs p → FirstMember cs ks scope formal fs members p
told_other_arguments cs ks scope formal fs trial us ts r members rs b o p em same eb et eu er h eo k =
    subst (λ xs. FirstMember cs ks scope formal fs xs p) (sym em) (co.other_arguments r rs p (sym same ∙ eb) (trials cs ks scope formal fs trial us ts r o None et eu er h eo) k)

pub ruleset member_rules = (told_no_member, told_other_symbol, told_member, told_other_arguments)

pub told_any : (cs : List Clause) (e : Environment) (c : Context) (place : ℕ) (ty : SoftType) (fs : Fixed) (t : Term) (b : Bool) → b ≡ is_of_any_object ty.radix.sym → b ≡ true → Typed cs e c place ty fs t (Some fs)
told_any cs e c place ty fs t b same eb = co.any_object (sym same ∙ eb)

pub told_by_chain : (cs : List Clause) (e : Environment) (c : Context) (place : ℕ) (ty : SoftType) (fs : Fixed) (t : Term) (members rs : List Radix) (o : Option Fixed) (b : Bool) → b ≡ is_of_any_object ty.radix.sym → b ≡ false → IsChain cs e c t rs → members ≡ rs → FirstMember cs c.constants place ty.radix fs members o → Typed cs e c place ty fs t o
told_by_chain cs e c place ty fs t members rs o b same eb h em k = co.by_chain rs o (sym same ∙ eb) h (subst (λ (xs : List Radix). FirstMember cs c.constants place ty.radix fs xs o) em k)

pub ruleset typed_rules = (told_any, told_by_chain)

pub told_no_locus : (cs : List Clause) (e : Environment) (c : Context) (loci : List SoftType) (fs : Fixed) (place : ℕ) (t : Term) → length loci ≤ place → Takes cs e c loci fs place t None
told_no_locus cs e c loci fs place t h = co.no_locus (slice_get_past loci place h)

slice_get-got : (loci : List SoftType) (p : ℕ) (x : SoftType) → p < length loci → x ≡ get_or loci p x → slice_get loci p ≡ Some x
slice_get-got [] p x lt at = absurd (omega (arith, lt))
slice_get-got (s ∷ ss) zero x lt at = ap Some (sym at)
slice_get-got (s ∷ ss) (suc p) x lt at = slice_get-got ss p x (omega (arith, lt)) at

there : (loci : List SoftType) (p : ℕ) → p < length loci → (x : SoftType) × (slice_get loci p ≡ Some x)
there [] p lt = absurd (omega (arith, lt))
there (s ∷ ss) zero lt = (s, refl)
there (s ∷ ss) (suc p) lt = there ss p (omega (arith, lt))

pub told_not_placed : (cs : List Clause) (e : Environment) (c : Context) (loci : List SoftType) (fs : Fixed) (place : ℕ) (t : Term) (o : Option Fixed) → place < length loci → Placed cs c.constants fs place t o → o ≡ None → Takes cs e c loci fs place t None
told_not_placed cs e c loci fs place t o lt p eo =
    let s : (x : SoftType) × (slice_get loci place ≡ Some x) = there loci place lt in
    co.not_placed s.0 s.1 (subst (Placed cs c.constants fs place t) eo p)

pub told_is_placed : (cs : List Clause) (e : Environment) (c : Context) (loci : List SoftType) (fs between : Fixed) (place : ℕ) (t : Term) (ty : SoftType) (o p : Option Fixed) → place < length loci → ty ≡ get_or loci place ty → Placed cs c.constants fs place t o → o ≡ Some between → Typed cs e c place ty between t p → Takes cs e c loci fs place t p
told_is_placed cs e c loci fs between place t ty o p lt at h eo k = co.is_placed ty between p (slice_get-got loci place ty lt at) (subst (Placed cs c.constants fs place t) eo h) k

pub ruleset takes_rules = (told_no_locus, told_not_placed, told_is_placed)

told_one_not : (cs : List Clause) (e : Environment) (c : Context) (loci : List SoftType) (fs : Fixed) (p : ℕ) (places ps : List ℕ) (t : Term) (args ts : List Term) (o : Option Fixed) → places ≡ p ∷ ps → args ≡ t ∷ ts → Takes cs e c loci fs p t o → o ≡ None → TakesAll cs e c loci fs places args None
told_one_not cs e c loci fs p places ps t args ts o ep ea h eo =
    subst (λ xs. TakesAll cs e c loci fs xs args None) (sym ep) (subst (λ xs. TakesAll cs e c loci fs (p ∷ ps) xs None) (sym ea) (co.one_not_taken fs p ps t ts (subst (Takes cs e c loci fs p t) eo h)))

told_and_takes : (cs : List Clause) (e : Environment) (c : Context) (loci : List SoftType) (fs between : Fixed) (p : ℕ) (places ps : List ℕ) (t : Term) (args ts : List Term) (o q : Option Fixed) → places ≡ p ∷ ps → args ≡ t ∷ ts → Takes cs e c loci fs p t o → o ≡ Some between → TakesAll cs e c loci between ps ts q → TakesAll cs e c loci fs places args q
told_and_takes cs e c loci fs between p places ps t args ts o q ep ea h eo k =
    subst (λ xs. TakesAll cs e c loci fs xs args q) (sym ep) (subst (λ xs. TakesAll cs e c loci fs (p ∷ ps) xs q) (sym ea) (co.and_takes fs between p ps t ts q (subst (Takes cs e c loci fs p t) eo h) k))

told_all : (cs : List Clause) (e : Environment) (c : Context) (loci : List SoftType) (fs : Fixed) (places : List ℕ) (args : List Term) → length places ≡ 0 → length args ≡ 0 → TakesAll cs e c loci fs places args (Some fs)
told_all cs e c loci fs places args ep ea =
    subst (λ xs. TakesAll cs e c loci fs xs args (Some fs)) (sym (empty _ ep)) (subst (λ xs. TakesAll cs e c loci fs [] xs (Some fs)) (sym (empty _ ea)) (co.all_taken fs))

few : (cs : List Clause) (e : Environment) (c : Context) (loci : List SoftType) (fs : Fixed) (args : List Term) → (length args ≡ 0 → ⊥) → TakesAll cs e c loci fs [] args None
few cs e c loci fs [] h = absurd (h refl)
few cs e c loci fs (t ∷ ts) h = co.places_end fs t ts

told_places_end : (cs : List Clause) (e : Environment) (c : Context) (loci : List SoftType) (fs : Fixed) (places : List ℕ) (args : List Term) → length places ≡ 0 → (length args ≡ 0 → ⊥) → TakesAll cs e c loci fs places args None
told_places_end cs e c loci fs places args ep ea = subst (λ xs. TakesAll cs e c loci fs xs args None) (sym (empty _ ep)) (few cs e c loci fs args ea)

told_terms_end : (cs : List Clause) (e : Environment) (c : Context) (loci : List SoftType) (fs : Fixed) (p : ℕ) (places ps : List ℕ) (args : List Term) → places ≡ p ∷ ps → length args ≡ 0 → TakesAll cs e c loci fs places args None
told_terms_end cs e c loci fs p places ps args ep ea =
    subst (λ xs. TakesAll cs e c loci fs xs args None) (sym ep) (subst (λ xs. TakesAll cs e c loci fs (p ∷ ps) xs None) (sym (empty _ ea)) (co.terms_end fs p ps))

-- the same where what is left of the places and the terms gives what all of them do
pub told_turn : (cs : List Clause) (e : Environment) (c : Context) (loci : List SoftType) (first fs between : Fixed) (p : ℕ) (all places ps : List ℕ) (t : Term) (whole args ts : List Term) (o : Option Fixed) → places ≡ p ∷ ps → args ≡ t ∷ ts → Takes cs e c loci fs p t o → o ≡ Some between → ((q : Option Fixed) → TakesAll cs e c loci fs places args q → TakesAll cs e c loci first all whole q) → (q : Option Fixed) → TakesAll cs e c loci between ps ts q → TakesAll cs e c loci first all whole q
told_turn cs e c loci first fs between p all places ps t whole args ts o ep ea h eo so q k = so q (told_and_takes cs e c loci fs between p places ps t args ts o q ep ea h eo k)

pub told_stops : (cs : List Clause) (e : Environment) (c : Context) (loci : List SoftType) (first fs : Fixed) (p : ℕ) (all places ps : List ℕ) (t : Term) (whole args ts : List Term) (o : Option Fixed) → places ≡ p ∷ ps → args ≡ t ∷ ts → Takes cs e c loci fs p t o → o ≡ None → ((q : Option Fixed) → TakesAll cs e c loci fs places args q → TakesAll cs e c loci first all whole q) → TakesAll cs e c loci first all whole None
told_stops cs e c loci first fs p all places ps t whole args ts o ep ea h eo so = so None (told_one_not cs e c loci fs p places ps t args ts o ep ea h eo)

pub told_no_terms : (cs : List Clause) (e : Environment) (c : Context) (loci : List SoftType) (first fs : Fixed) (p : ℕ) (all places ps : List ℕ) (whole args : List Term) → places ≡ p ∷ ps → length args ≡ 0 → ((q : Option Fixed) → TakesAll cs e c loci fs places args q → TakesAll cs e c loci first all whole q) → TakesAll cs e c loci first all whole None
told_no_terms cs e c loci first fs p all places ps whole args ep ea so = so None (told_terms_end cs e c loci fs p places ps args ep ea)

pub told_end : (cs : List Clause) (e : Environment) (c : Context) (loci : List SoftType) (first fs : Fixed) (all places : List ℕ) (whole args : List Term) → length places ≡ 0 → length args ≡ 0 → ((q : Option Fixed) → TakesAll cs e c loci fs places args q → TakesAll cs e c loci first all whole q) → TakesAll cs e c loci first all whole (Some fs)
told_end cs e c loci first fs all places whole args ep ea so = so (Some fs) (told_all cs e c loci fs places args ep ea)

pub told_no_places : (cs : List Clause) (e : Environment) (c : Context) (loci : List SoftType) (first fs : Fixed) (all places : List ℕ) (whole args : List Term) → length places ≡ 0 → (length args ≡ 0 → ⊥) → ((q : Option Fixed) → TakesAll cs e c loci fs places args q → TakesAll cs e c loci first all whole q) → TakesAll cs e c loci first all whole None
told_no_places cs e c loci first fs all places whole args ep ea so = so None (told_places_end cs e c loci fs places args ep ea)

pub ruleset all_rules = (told_turn, told_stops, told_no_terms, told_end, told_no_places)

behind : (cs : List Clause) (e : Environment) (c : Context) (x : Notation) (args : List Term) (first : Fixed) (loci : List SoftType) (places : List ℕ) (o p : Option Fixed) → first ≡ unfixed (length x.pattern.loci) → loci ≡ x.pattern.loci → places ≡ x.pattern.left ++ x.pattern.right → TakesAll cs e c loci first places args o → o ≡ p → TakesAll cs e c x.pattern.loci (unfixed (length x.pattern.loci)) (x.pattern.left ++ x.pattern.right) args p
behind cs e c x args first loci places o p ef el ep h eo =
    let one : TakesAll cs e c loci first places args p = subst (TakesAll cs e c loci first places args) eo h in
    let two : TakesAll cs e c x.pattern.loci first places args p = subst (λ (tys : List SoftType). TakesAll cs e c tys first places args p) el one in
    let three : TakesAll cs e c x.pattern.loci (unfixed (length x.pattern.loci)) places args p = subst (λ (fs : Fixed). TakesAll cs e c x.pattern.loci fs places args p) ef two in
    subst (λ (ps : List ℕ). TakesAll cs e c x.pattern.loci (unfixed (length x.pattern.loci)) ps args p) ep three

pub told_not_taken : (cs : List Clause) (e : Environment) (c : Context) (x : Notation) (args : List Term) (first : Fixed) (loci : List SoftType) (places : List ℕ) (o : Option Fixed) → first ≡ unfixed (length x.pattern.loci) → loci ≡ x.pattern.loci → places ≡ x.pattern.left ++ x.pattern.right → TakesAll cs e c loci first places args o → o ≡ None → Reads cs e c x args None
told_not_taken cs e c x args first loci places o ef el ep h eo = co.not_taken (behind cs e c x args first loci places o None ef el ep h eo)

pub told_not_accepted : (cs : List Clause) (e : Environment) (c : Context) (x : Notation) (args : List Term) (first fs : Fixed) (loci : List SoftType) (places : List ℕ) (o : Option Fixed) (p : Option (List Term)) → first ≡ unfixed (length x.pattern.loci) → loci ≡ x.pattern.loci → places ≡ x.pattern.left ++ x.pattern.right → TakesAll cs e c loci first places args o → o ≡ Some fs → Accepted cs c.constants x.pattern.loci fs p → p ≡ None → Reads cs e c x args None
told_not_accepted cs e c x args first fs loci places o p ef el ep h eo a en = co.not_accepted fs (behind cs e c x args first loci places o (Some fs) ef el ep h eo) (subst (Accepted cs c.constants x.pattern.loci fs) en a)

pub told_reads : (cs : List Clause) (e : Environment) (c : Context) (x : Notation) (args : List Term) (first fs : Fixed) (loci : List SoftType) (places : List ℕ) (o : Option Fixed) (p : Option (List Term)) (values : List Term) (m : Meaning) → first ≡ unfixed (length x.pattern.loci) → loci ≡ x.pattern.loci → places ≡ x.pattern.left ++ x.pattern.right → TakesAll cs e c loci first places args o → o ≡ Some fs → Accepted cs c.constants x.pattern.loci fs p → p ≡ Some values → m ≡ meaning_at values x.meaning → Reads cs e c x args (Some m)
told_reads cs e c x args first fs loci places o p values m ef el ep h eo a en em =
    subst (λ n. Reads cs e c x args (Some n)) (sym em) (co.reads fs values (behind cs e c x args first loci places o (Some fs) ef el ep h eo) (subst (Accepted cs c.constants x.pattern.loci fs) en a))

pub ruleset reads_rules = (told_not_taken, told_not_accepted, told_reads)

pub told_not_read : (cs : List Clause) (e : Environment) (c : Context) (w : Wanted) (x : Notation) (args : List Term) (o : Option Meaning) → Reads cs e c x args o → o ≡ None → Passes cs e c w x args None
told_not_read cs e c w x args o h eo = co.not_read (subst (Reads cs e c x args) eo h)

pub told_suited : (cs : List Clause) (e : Environment) (c : Context) (w : Wanted) (x : Notation) (args : List Term) (o : Option Meaning) (m : Meaning) (b : Bool) → Reads cs e c x args o → o ≡ Some m → IsTrue b ↔ Suits w m → b ≡ true → Passes cs e c w x args (Some m)
told_suited cs e c w x args o m b h eo i eb = co.passes m (subst (Reads cs e c x args) eo h) (i.0 eb)

pub told_not_suited : (cs : List Clause) (e : Environment) (c : Context) (w : Wanted) (x : Notation) (args : List Term) (o : Option Meaning) (m : Meaning) (b : Bool) → Reads cs e c x args o → o ≡ Some m → IsTrue b ↔ Suits w m → b ≡ false → Passes cs e c w x args None
told_not_suited cs e c w x args o m b h eo i eb = co.not_suited m (subst (Reads cs e c x args) eo h) (λ k. absurd (not_both b eb (i.1 k)))

pub ruleset passes_rules = (told_not_read, told_suited, told_not_suited)
