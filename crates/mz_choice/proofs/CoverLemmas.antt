-- What the code of cover tells.
use Rattle.std.proofs.Common.{◌≡◌, ◌<◌, ◌+◌, ◌-◌, ◌⊎◌, inl, inr, ℕ, zero, suc, List, [], ◌∷◌, ◌++◌, refl, sym, ap, ◌∙◌, subst, Bool, true, false, arith, length, map, Option, Some, None}
use Rattle.std.specs.Prelude.{◌↔◌, IsTrue, Contains, reverse}
use Rattle.std.proofs.lemmas.List.{take_at, length_push, append-nil, append_assoc}
use Rattle.std.proofs.lemmas.List.Elements.{Contains-append_left, Contains-append_right, Contains-append_cases, Contains-push_cases}
use Rattle.std.proofs.lemmas.Bool.{false≢true}
use Rattle.mz_std_laws.proofs.Sums.{either}
use Rattle.mz_logic.specs.Sym.{same_sym}
use Rattle.mz_logic.specs.Term.{Term, Const}
use Rattle.mz_logic.specs.Abstraction.{term_over}
use Rattle.mz_logic.specs.declared.literal.Literal.{Literal}
use Rattle.mz_core.specs.Guard.{adjective_literal}
use Rattle.mz_core.specs.declared.adjective.Adjective.{Adjective}
use Rattle.mz_core.specs.declared.radix.Radix.{Radix}
use Rattle.mz_core.specs.declared.soft_type.SoftType.{SoftType}
use Rattle.mz_core.specs.declared.registration.ExistentialRegistration.{ExistentialRegistration}
use Rattle.mz_context.specs.declared.constants.Constant.{Constant}
use Rattle.mz_context.specs.declared.context.Context.{Context}
use Rattle.mz_context.specs.Context.{next}
use Rattle.mz_context.specs.Changes.{with_constant}
use Rattle.mz_ground.specs.declared.clause.Clause.{Clause}
use Rattle.mz_environment.specs.declared.environment.Environment.{Environment}
use Rattle.mz_fits.specs.Fits.{AllFit, type_at}
use Rattle.mz_fits.specs.Matching.{Fixed, unfixed, AllMatched, Accepted}
use Rattle.mz_fits.proofs.FitLemmas.{not_both, empty}
use Rattle.mz_fits.proofs.OneMatch.{some-inj, none_some, one_match_law, one_accepted_law}
use Rattle.mz_types.specs.Chain.{IsChain}
use Rattle.mz_types.proofs.OneChain.{one_chain_law}
use Rattle.mz_choice.specs.Fresh.{fresh, with_fresh, keeping, Grown}
use Rattle.mz_choice.specs.Cover as cv
use Rattle.mz_choice.specs.Cover.{FitFresh, bare, with_loci, loci_constants, over_constants, IsRegisteredChain, registered_type, MemberMatches, Covers, SomeCovers, CoversByChain, HasCover, IsCovered}

never : {A : Type 0} → (A → ⊥) → IsTrue false ↔ A
never f = (λ x. absurd (false≢true x), λ a. absurd (f a))

-- the context with these constants
abbrev having : Context → List (Option Constant) → Context
having c ks = record c { constants = ks }

-- contexts with further constants
pub grown_itself : (c : Context) → Grown c c
grown_itself c = record { more = []; is = ap (having c) (sym (append-nil c.constants)) }

pub grown_kept : (c d e : Context) → Grown c d → e ≡ d → Grown c e
grown_kept c d e g h = subst (Grown c) (sym h) g

pub grown_more : (c d e : Context) → Grown c d → Grown d e → Grown c e
grown_more c d e g h =
    record {
      more = g.more ++ h.more;
      is = h.is ∙ (ap (λ (x : Context). having x (x.constants ++ h.more)) g.is ∙ ap (having c) (append_assoc c.constants g.more h.more));
    }

pub grown_by : (c d : Context) (k : Constant) → d ≡ with_constant c k → Grown c d
grown_by c d k h = record { more = Some k ∷ []; is = h }

pub grown_add : (c d e : Context) (k : Constant) → Grown c d → e ≡ with_constant d k → Grown c e
grown_add c d e k g h = grown_more c d e g (grown_by d e k h)

pub told_left : (c d e : Context) (count : ℕ) → Grown c d → count ≡ length c.constants → e ≡ keeping count d → e ≡ c
told_left c d e count g ec h =
    h ∙ (ap (keeping count) g.is ∙ ap (having c) (take_at c.constants g.more count (sym ec)))

pub ruleset left_rules = (told_left)

-- adjectives at a constant
pub told_all : (cs : List Clause) (ks : List (Option Constant)) (ls ms : List Literal) (t u : Term) (xs : List Adjective) (b : Bool) → t ≡ u → ls ≡ map (adjective_literal t) xs → ms ≡ ls → IsTrue b ↔ AllFit cs ks ms → IsTrue b ↔ AllFit cs ks (map (adjective_literal u) xs)
told_all cs ks ls ms t u xs b et el em i =
    subst (λ v. IsTrue b ↔ AllFit cs ks (map (adjective_literal v) xs)) et (subst (λ (ns : List Literal). IsTrue b ↔ AllFit cs ks ns) (em ∙ el) i)

pub told_fresh : (cs : List Clause) (c d : Context) (ty : SoftType) (k : Constant) (n : ℕ) (xs : List Adjective) (b : Bool) → k ≡ fresh ty → n ≡ next c → d ≡ with_constant c k → IsTrue b ↔ AllFit cs d.constants (map (adjective_literal (Const n)) xs) → IsTrue b ↔ FitFresh cs c ty xs
told_fresh cs c d ty k n xs b ek en ed i =
    let one : IsTrue b ↔ AllFit cs (with_constant c k).constants (map (adjective_literal (Const n)) xs) = subst (λ (x : Context). IsTrue b ↔ AllFit cs x.constants (map (adjective_literal (Const n)) xs)) ed i in
    let two : IsTrue b ↔ AllFit cs (with_fresh c ty).constants (map (adjective_literal (Const n)) xs) = subst (λ (x : Constant). IsTrue b ↔ AllFit cs (with_constant c x).constants (map (adjective_literal (Const n)) xs)) ek one in
    subst (λ (m : ℕ). IsTrue b ↔ AllFit cs (with_fresh c ty).constants (map (adjective_literal (Const m)) xs)) en two

pub told_fresh_left : (c d e : Context) (k : Constant) (count : ℕ) → d ≡ with_constant c k → count ≡ length c.constants → e ≡ keeping count d → e ≡ c
told_fresh_left c d e k count h ec l = told_left c d e count (grown_by c d k h) ec l

pub ruleset fresh_rules = (told_fresh, told_fresh_left)

-- loci for constants
pub over_constants-told_turn : (c left further less : ℕ) (ts us goal : List Term) → 0 < left → us ≡ map (term_over c 0) ts → further ≡ c + 1 → less ≡ left - 1 → over_constants c left ts ≡ goal → over_constants further less us ≡ goal
over_constants-told_turn c zero further less ts us goal lt eu ef el h = absurd (omega (arith, lt))
over_constants-told_turn c (suc n) further less ts us goal lt eu ef el h =
    let one : less ≡ n = omega (arith, el) in
    let two : further ≡ suc c = omega (arith, ef) in
    subst (λ m. over_constants further m us ≡ goal) (sym one) (subst (λ m. over_constants m n us ≡ goal) (sym two) (subst (λ (vs : List Term). over_constants (suc c) n vs ≡ goal) (sym eu) h))

pub told_over : (c left : ℕ) (ts goal : List Term) → left ≡ 0 → over_constants c left ts ≡ goal → ts ≡ goal
told_over c left ts goal el h = subst (λ m. over_constants c m ts ≡ goal) el h

pub over_constants-told_begin : (n count : ℕ) (ts us : List Term) → us ≡ ts → over_constants n count us ≡ over_constants n count ts
over_constants-told_begin n count ts us e = ap (over_constants n count) e

pub ruleset over_rules = (over_constants-told_turn, told_over, over_constants-told_begin)

-- constants for loci
pub told_locus : (c d : Context) (k : Constant) (at ty : SoftType) (before : List Term) → at ≡ type_at before ty → k ≡ fresh at → d ≡ with_constant c k → d ≡ with_fresh c (type_at before ty)
told_locus c d k at ty before ea ek ed = ed ∙ ap (with_constant c) (ek ∙ ap fresh ea)

pub told_first : (c : Context) (n : ℕ) (t : Term) (before ts : List Term) → n ≡ next c → t ≡ Const n → ts ≡ t ∷ before → ts ≡ Const (next c) ∷ before
told_first c n t before ts en et e = e ∙ ap (λ u. u ∷ before) (et ∙ ap Const en)

pub ruleset locus_rules = (told_locus, told_first, grown_itself, grown_kept, grown_by)

told_no_loci : (c : Context) (before : List Term) (loci : List SoftType) → length loci ≡ 0 → c ≡ with_loci c before loci
told_no_loci c before loci em = subst (λ tys. c ≡ with_loci c before tys) (sym (empty loci em)) refl

told_no_constants : (n : ℕ) (before : List Term) (loci : List SoftType) → length loci ≡ 0 → before ≡ loci_constants n before loci
told_no_constants n before loci em = subst (λ tys. before ≡ loci_constants n before tys) (sym (empty loci em)) refl

told_context : (c d e : Context) (before inside : List Term) (ty : SoftType) (loci tys : List SoftType) → loci ≡ ty ∷ tys → d ≡ with_fresh c (type_at before ty) → inside ≡ Const (next c) ∷ before → e ≡ with_loci d inside tys → e ≡ with_loci c before loci
told_context c d e before inside ty loci tys el ed ei h =
    h ∙ (ap (λ x. with_loci x inside tys) ed ∙ (ap (λ us. with_loci (with_fresh c (type_at before ty)) us tys) ei ∙ ap (with_loci c before) (sym el)))

next_of_fresh : (c d : Context) (ty : SoftType) → d ≡ with_fresh c ty → next d ≡ suc (next c)
next_of_fresh c d ty h = ap next h ∙ (let e : length (c.constants ++ Some (fresh ty) ∷ []) ≡ suc (length c.constants) = omega (arith, length_push c.constants (Some (fresh ty))) in ap suc e)

told_constants : (c d : Context) (before inside us : List Term) (ty : SoftType) (loci tys : List SoftType) → loci ≡ ty ∷ tys → d ≡ with_fresh c (type_at before ty) → inside ≡ Const (next c) ∷ before → us ≡ loci_constants (next d) inside tys → us ≡ loci_constants (next c) before loci
told_constants c d before inside us ty loci tys el ed ei h =
    h ∙ (ap (λ m. loci_constants m inside tys) (next_of_fresh c d (type_at before ty) ed) ∙ (ap (λ vs. loci_constants (suc (next c)) vs tys) ei ∙ ap (loci_constants (next c) before) (sym el)))

-- the same where what is left of the loci gives what all of them do
pub with_loci-told_context_turn : (c d goal : Context) (before inside : List Term) (ty : SoftType) (loci tys : List SoftType) → loci ≡ ty ∷ tys → d ≡ with_fresh c (type_at before ty) → inside ≡ Const (next c) ∷ before → with_loci c before loci ≡ goal → with_loci d inside tys ≡ goal
with_loci-told_context_turn c d goal before inside ty loci tys el ed ei so = told_context c d (with_loci d inside tys) before inside ty loci tys el ed ei refl ∙ so

pub told_constants_turn : (c d : Context) (before inside goal : List Term) (ty : SoftType) (loci tys : List SoftType) → loci ≡ ty ∷ tys → d ≡ with_fresh c (type_at before ty) → inside ≡ Const (next c) ∷ before → loci_constants (next c) before loci ≡ goal → loci_constants (next d) inside tys ≡ goal
told_constants_turn c d before inside goal ty loci tys el ed ei so = told_constants c d before inside (loci_constants (next d) inside tys) ty loci tys el ed ei refl ∙ so

pub told_context_end : (c goal : Context) (before : List Term) (loci : List SoftType) → length loci ≡ 0 → with_loci c before loci ≡ goal → c ≡ goal
told_context_end c goal before loci em so = told_no_loci c before loci em ∙ so

pub told_constants_end : (n : ℕ) (before goal : List Term) (loci : List SoftType) → length loci ≡ 0 → loci_constants n before loci ≡ goal → before ≡ goal
told_constants_end n before goal loci em so = told_no_constants n before loci em ∙ so

pub ruleset loci_rules = (with_loci-told_context_turn, told_constants_turn, told_context_end, told_constants_end, grown_itself, grown_more)

-- the chain of a registration
pub told_chain : (cs : List Clause) (e : Environment) (c d f : Context) (r : ExistentialRegistration) (none loci : List Term) (at : SoftType) (k : Constant) (n : ℕ) (t : Term) (ms : List Radix) → none ≡ [] → d ≡ with_loci c none r.loci → loci ≡ loci_constants (next c) none r.loci → at ≡ type_at loci r.ty → k ≡ fresh at → n ≡ next d → f ≡ with_constant d k → t ≡ Const n → IsChain cs e f t ms → IsRegisteredChain cs e c r ms
told_chain cs e c d f r none loci at k n t ms eo ed el ea ek en ef et h =
    let dd : d ≡ with_loci c [] r.loci = ed ∙ ap (λ us. with_loci c us r.loci) eo in
    let ll : loci ≡ loci_constants (next c) [] r.loci = el ∙ ap (λ us. loci_constants (next c) us r.loci) eo in
    let kk : k ≡ fresh (type_at (loci_constants (next c) [] r.loci) r.ty) = ek ∙ ap fresh (ea ∙ ap (λ us. type_at us r.ty) ll) in
    let ff : f ≡ with_fresh (with_loci c [] r.loci) (type_at (loci_constants (next c) [] r.loci) r.ty) = ef ∙ (λ i. with_constant (dd i) (kk i)) in
    let tt' : t ≡ Const (next (with_loci c [] r.loci)) = et ∙ ap Const (en ∙ ap next dd) in
    subst (λ (x : Context). IsChain cs e x (Const (next (with_loci c [] r.loci))) ms) ff (subst (λ (u : Term). IsChain cs e f u ms) tt' h)

pub ruleset chain_rules = (told_chain, grown_kept, grown_add)

-- a member beside the type
between : (cs : List Clause) (c : Context) (ty : SoftType) (r : ExistentialRegistration) (m : Radix) (n count : ℕ) (first : Fixed) (formals us ts : List Term) (o p : Option Fixed) → n ≡ next c → count ≡ length r.loci → formals ≡ over_constants n count m.args → first ≡ unfixed count → us ≡ formals → ts ≡ ty.radix.args → AllMatched cs c.constants count first us ts o → o ≡ p → AllMatched cs c.constants (length r.loci) (unfixed (length r.loci)) (over_constants (next c) (length r.loci) m.args) ty.radix.args p
between cs c ty r m n count first formals us ts o p en ec ef eo eu er h eq =
    let one : AllMatched cs c.constants count first us ts p = subst (AllMatched cs c.constants count first us ts) eq h in
    let two : AllMatched cs c.constants count first us ty.radix.args p = subst (λ (xs : List Term). AllMatched cs c.constants count first us xs p) er one in
    let three : AllMatched cs c.constants count (unfixed count) us ty.radix.args p = subst (λ (fs : Fixed). AllMatched cs c.constants count fs us ty.radix.args p) eo two in
    let four : AllMatched cs c.constants count (unfixed count) (over_constants n count m.args) ty.radix.args p = subst (λ (xs : List Term). AllMatched cs c.constants count (unfixed count) xs ty.radix.args p) (eu ∙ ef) three in
    let five : AllMatched cs c.constants (length r.loci) (unfixed (length r.loci)) (over_constants n (length r.loci) m.args) ty.radix.args p = subst (λ (k : ℕ). AllMatched cs c.constants k (unfixed k) (over_constants n k m.args) ty.radix.args p) ec four in
    subst (λ (k : ℕ). AllMatched cs c.constants (length r.loci) (unfixed (length r.loci)) (over_constants k (length r.loci) m.args) ty.radix.args p) en five

pub told_unmatched : (cs : List Clause) (c : Context) (ty : SoftType) (r : ExistentialRegistration) (m : Radix) (n count : ℕ) (first : Fixed) (formals us ts : List Term) (o : Option Fixed) → n ≡ next c → count ≡ length r.loci → formals ≡ over_constants n count m.args → first ≡ unfixed count → us ≡ formals → ts ≡ ty.radix.args → AllMatched cs c.constants count first us ts o → o ≡ None → MemberMatches cs c ty r m None
told_unmatched cs c ty r m n count first formals us ts o en ec ef eo eu er h eq = cv.unmatched (between cs c ty r m n count first formals us ts o None en ec ef eo eu er h eq)

pub told_matched : (cs : List Clause) (c : Context) (ty : SoftType) (r : ExistentialRegistration) (m : Radix) (n count : ℕ) (first fs : Fixed) (formals us ts : List Term) (o : Option Fixed) (p : Option (List Term)) → n ≡ next c → count ≡ length r.loci → formals ≡ over_constants n count m.args → first ≡ unfixed count → us ≡ formals → ts ≡ ty.radix.args → AllMatched cs c.constants count first us ts o → o ≡ Some fs → Accepted cs c.constants r.loci fs p → MemberMatches cs c ty r m p
told_matched cs c ty r m n count first fs formals us ts o p en ec ef eo eu er h eq a = cv.matched fs p (between cs c ty r m n count first formals us ts o (Some fs) en ec ef eo eu er h eq) a

pub ruleset member_rules = (told_unmatched, told_matched)

abbrev MatchesAs : List Clause → Context → ExistentialRegistration → Option Fixed → Option (List Term) → Type 0
MatchesAs cs c r None o = o ≡ None
MatchesAs cs c r (Some fs) o = Accepted cs c.constants r.loci fs o

matches_as : (cs : List Clause) (c : Context) (ty : SoftType) (r : ExistentialRegistration) (m : Radix) (o : Option (List Term)) → MemberMatches cs c ty r m o → (q : Option Fixed) × AllMatched cs c.constants (length r.loci) (unfixed (length r.loci)) (over_constants (next c) (length r.loci) m.args) ty.radix.args q × MatchesAs cs c r q o
matches_as cs c ty r m o (cv.unmatched h) = (None, h, refl)
matches_as cs c ty r m o (cv.matched fs p h a) = (Some fs, h, a)

as_once : (cs : List Clause) (c : Context) (r : ExistentialRegistration) (q : Option Fixed) (o p : Option (List Term)) → MatchesAs cs c r q o → MatchesAs cs c r q p → o ≡ p
as_once cs c r None o p h k = h ∙ sym k
as_once cs c r (Some fs) o p h k = one_accepted_law cs c.constants r.loci fs o p h k

pub one_match : (cs : List Clause) (c : Context) (ty : SoftType) (r : ExistentialRegistration) (m : Radix) (o p : Option (List Term)) → MemberMatches cs c ty r m o → MemberMatches cs c ty r m p → o ≡ p
one_match cs c ty r m o p h k =
    let a : (q : Option Fixed) × AllMatched cs c.constants (length r.loci) (unfixed (length r.loci)) (over_constants (next c) (length r.loci) m.args) ty.radix.args q × MatchesAs cs c r q o = matches_as cs c ty r m o h in
    let b : (q : Option Fixed) × AllMatched cs c.constants (length r.loci) (unfixed (length r.loci)) (over_constants (next c) (length r.loci) m.args) ty.radix.args q × MatchesAs cs c r q p = matches_as cs c ty r m p k in
    let same : a.0 ≡ b.0 = one_match_law cs c.constants (length r.loci) (unfixed (length r.loci)) (over_constants (next c) (length r.loci) m.args) ty.radix.args a.0 b.0 a.1 b.1 in
    as_once cs c r b.0 o p (subst (λ q. MatchesAs cs c r q o) same a.2) b.2

pub told_other_member : (cs : List Clause) (c : Context) (ty : SoftType) (r : ExistentialRegistration) (m : Radix) (b : Bool) → b ≡ same_sym m.sym ty.radix.sym → b ≡ false → IsTrue false ↔ Covers cs c ty r m
told_other_member cs c ty r m b same eb = never (λ w. not_both (same_sym m.sym ty.radix.sym) (sym same ∙ eb) w.1.symbol)

pub told_no_match : (cs : List Clause) (c : Context) (ty : SoftType) (r : ExistentialRegistration) (m : Radix) (o : Option (List Term)) → MemberMatches cs c ty r m o → o ≡ None → IsTrue false ↔ Covers cs c ty r m
told_no_match cs c ty r m o h eo = never (λ w. none_some w.0 (sym eo ∙ one_match cs c ty r m o (Some w.0) h w.1.matches))

pub told_member : (cs : List Clause) (c : Context) (ty at : SoftType) (r : ExistentialRegistration) (m : Radix) (a b : Bool) (o : Option (List Term)) (values : List Term) → a ≡ same_sym m.sym ty.radix.sym → a ≡ true → MemberMatches cs c ty r m o → o ≡ Some values → at ≡ type_at (reverse values) (registered_type r) → IsTrue b ↔ FitFresh cs c at ty.adjectives → IsTrue b ↔ Covers cs c ty r m
told_member cs c ty at r m a b o values same ea h eo et i =
    let k : MemberMatches cs c ty r m (Some values) = subst (MemberMatches cs c ty r m) eo h in
    let j : IsTrue b ↔ FitFresh cs c (type_at (reverse values) (registered_type r)) ty.adjectives = subst (λ (x : SoftType). IsTrue b ↔ FitFresh cs c x ty.adjectives) et i in (
      λ x. (values, record { symbol = sym same ∙ ea; matches = k; fit = j.0 x }),
      λ w.
          let e : w.0 ≡ values = some-inj w.0 values (one_match cs c ty r m (Some w.0) (Some values) w.1.matches k) in
          j.1 (subst (λ (vs : List Term). FitFresh cs c (type_at (reverse vs) (registered_type r)) ty.adjectives) e w.1.fit),
    )

pub ruleset covers_rules = (told_other_member, told_no_match, told_member)

-- some of a list
in_none : {A : Type 0} (x : A) → Contains [] x → ⊥
in_none x h = omega (arith, h.1)

at_head : {A : Type 0} (x : A) (xs : List A) → Contains (x ∷ xs) x
at_head x xs = Contains-append_left (x ∷ []) xs x (0, omega arith, refl)

in_tail : {A : Type 0} (x y : A) (xs : List A) → Contains xs y → Contains (x ∷ xs) y
in_tail x y xs h = Contains-append_right (x ∷ []) xs y h

head_or_tail : {A : Type 0} (x y : A) (xs : List A) → Contains (x ∷ xs) y → (x ≡ y) ⊎ Contains xs y
head_or_tail x y xs h =
    either (Contains-append_cases (x ∷ []) xs y h)
    (λ k. either (Contains-push_cases [] x y k) (λ n. absurd (in_none y n)) (λ e. inl e))
    (λ k. inr k)

pub told_no_member : (cs : List Clause) (c : Context) (ty : SoftType) (r : ExistentialRegistration) (members : List Radix) → length members ≡ 0 → IsTrue false ↔ SomeCovers cs c ty r members
told_no_member cs c ty r members em = subst (λ ms. IsTrue false ↔ SomeCovers cs c ty r ms) (sym (empty members em)) (never (λ w. in_none w.0 w.1))

pub told_here : (cs : List Clause) (c : Context) (ty : SoftType) (r : ExistentialRegistration) (m : Radix) (members ms : List Radix) (a : Bool) → members ≡ m ∷ ms → IsTrue a ↔ Covers cs c ty r m → a ≡ true → IsTrue true ↔ SomeCovers cs c ty r members
told_here cs c ty r m members ms a em i ea =
    subst (λ xs. IsTrue true ↔ SomeCovers cs c ty r xs) (sym em) ((λ x. (m, at_head m ms, i.0 ea), λ w. refl))

pub told_later : (cs : List Clause) (c d : Context) (ty : SoftType) (r : ExistentialRegistration) (m : Radix) (members ms : List Radix) (a b : Bool) → members ≡ m ∷ ms → IsTrue a ↔ Covers cs c ty r m → a ≡ false → d ≡ c → IsTrue b ↔ SomeCovers cs d ty r ms → IsTrue b ↔ SomeCovers cs c ty r members
told_later cs c d ty r m members ms a b em i ea ed j =
    let k : IsTrue b ↔ SomeCovers cs c ty r ms = subst (λ (x : Context). IsTrue b ↔ SomeCovers cs x ty r ms) ed j in
    subst (λ xs. IsTrue b ↔ SomeCovers cs c ty r xs) (sym em)
    ((
      λ x. let w : SomeCovers cs c ty r ms = k.0 x in (w.0, in_tail m w.0 ms w.1, w.2),
      λ w. either (head_or_tail m w.0 ms w.1) (λ e. absurd (not_both a ea (i.1 (subst (Covers cs c ty r) (sym e) w.2)))) (λ h. k.1 (w.0, h, w.2)),
    ))

pub told_twice : (c d e : Context) → d ≡ c → e ≡ d → e ≡ c
told_twice c d e h k = k ∙ h

pub ruleset some_rules = (told_no_member, told_here, told_later, told_twice)

-- by the chain of a registration
pub told_by_chain : (cs : List Clause) (e : Environment) (c d : Context) (ty : SoftType) (r : ExistentialRegistration) (ms us : List Radix) (b : Bool) → IsRegisteredChain cs e c r ms → d ≡ c → us ≡ ms → IsTrue b ↔ SomeCovers cs d ty r us → IsTrue b ↔ CoversByChain cs e c ty r
told_by_chain cs e c d ty r ms us b h ed eu i =
    let j : IsTrue b ↔ SomeCovers cs c ty r us = subst (λ (x : Context). IsTrue b ↔ SomeCovers cs x ty r us) ed i in
    let k : IsTrue b ↔ SomeCovers cs c ty r ms = subst (λ (xs : List Radix). IsTrue b ↔ SomeCovers cs c ty r xs) eu j in (
      λ x. (ms, h, k.0 x),
      λ w.
          let same : w.0 ≡ ms = one_chain_law cs e (with_fresh (with_loci c [] r.loci) (type_at (loci_constants (next c) [] r.loci) r.ty)) (Const (next (with_loci c [] r.loci))) w.0 ms w.1 h in
          k.1 (subst (λ (xs : List Radix). SomeCovers cs c ty r xs) same w.2),
    )

pub ruleset by_chain_rules = (told_by_chain, told_twice)

-- some registration
length-mapped_none : {A B : Type 0} (f : A → B) (xs : List A) → length xs ≡ 0 → length (map f xs) ≡ 0
length-mapped_none f xs h = ap (λ ys. length (map f ys)) (empty xs h)

pub told_no_registration : (cs : List Clause) (e : Environment) (c : Context) (ty : SoftType) (rest rs : List ExistentialRegistration) → length rest ≡ 0 → HasCover cs e c ty rest ↔ HasCover cs e c ty rs → IsTrue false ↔ HasCover cs e c ty rs
told_no_registration cs e c ty rest rs em i = never (λ w. let v : HasCover cs e c ty [] = subst (HasCover cs e c ty) (empty rest em) (i.1 w) in in_none v.0 v.1)

pub told_none_left : {A : Type 0} (cs : List Clause) (e : Environment) (c : Context) (ty : SoftType) (f : A → ExistentialRegistration) (ys : List A) (rs : List ExistentialRegistration) → length ys ≡ 0 → HasCover cs e c ty (map f ys) ↔ HasCover cs e c ty rs → IsTrue false ↔ HasCover cs e c ty rs
told_none_left cs e c ty f ys rs em i = told_no_registration cs e c ty (map f ys) rs (length-mapped_none f ys em) i

pub told_this : (cs : List Clause) (e : Environment) (c d : Context) (ty : SoftType) (r : ExistentialRegistration) (rest others rs : List ExistentialRegistration) (a : Bool) → rest ≡ r ∷ others → d ≡ c → IsTrue a ↔ CoversByChain cs e d ty r → a ≡ true → HasCover cs e c ty rest ↔ HasCover cs e c ty rs → IsTrue true ↔ HasCover cs e c ty rs
told_this cs e c d ty r rest others rs a er ed i ea h =
    let j : IsTrue a ↔ CoversByChain cs e c ty r = subst (λ (x : Context). IsTrue a ↔ CoversByChain cs e x ty r) ed i in
    (λ x. h.0 (subst (HasCover cs e c ty) (sym er) (r, at_head r others, j.0 ea)), λ w. refl)

pub told_not_this : (cs : List Clause) (e : Environment) (c d : Context) (ty : SoftType) (r : ExistentialRegistration) (rest others rs : List ExistentialRegistration) (a : Bool) → rest ≡ r ∷ others → d ≡ c → IsTrue a ↔ CoversByChain cs e d ty r → a ≡ false → HasCover cs e c ty rest ↔ HasCover cs e c ty rs → HasCover cs e c ty others ↔ HasCover cs e c ty rs
told_not_this cs e c d ty r rest others rs a er ed i ea h =
    let j : IsTrue a ↔ CoversByChain cs e c ty r = subst (λ (x : Context). IsTrue a ↔ CoversByChain cs e x ty r) ed i in (
      λ w. h.0 (subst (HasCover cs e c ty) (sym er) (w.0, in_tail r w.0 others w.1, w.2)),
      λ w.
          let v : HasCover cs e c ty (r ∷ others) = subst (HasCover cs e c ty) er (h.1 w) in
          either (head_or_tail r v.0 others v.1) (λ q. absurd (not_both a ea (j.1 (subst (CoversByChain cs e c ty) (sym q) v.2)))) (λ k. (v.0, k, v.2)),
    )

pub ruleset has_rules = (told_none_left, told_twice)

-- the whole
pub told_no_adjectives : (cs : List Clause) (e : Environment) (c : Context) (ty : SoftType) → length ty.adjectives ≡ 0 → IsTrue true ↔ IsCovered cs e c ty
told_no_adjectives cs e c ty em = (λ x. cv.no_adjectives (empty ty.adjectives em), λ w. refl)

pub told_by_radix : (cs : List Clause) (e : Environment) (c : Context) (ty alone : SoftType) (a : Bool) → alone ≡ bare ty → IsTrue a ↔ FitFresh cs c alone ty.adjectives → a ≡ true → IsTrue true ↔ IsCovered cs e c ty
told_by_radix cs e c ty alone a el i ea = (λ x. cv.by_radix (subst (λ (t : SoftType). FitFresh cs c t ty.adjectives) el (i.0 ea)), λ w. refl)

pub told_by_registration : (cs : List Clause) (e : Environment) (c d : Context) (ty alone : SoftType) (rs : List ExistentialRegistration) (a b : Bool) → (length ty.adjectives ≡ 0 → ⊥) → alone ≡ bare ty → IsTrue a ↔ FitFresh cs c alone ty.adjectives → a ≡ false → d ≡ c → rs ≡ e.registrations → IsTrue b ↔ HasCover cs e d ty rs → IsTrue b ↔ IsCovered cs e c ty
told_by_registration cs e c d ty alone rs a b some el i ea ed er j =
    let k : IsTrue b ↔ HasCover cs e c ty rs = subst (λ (x : Context). IsTrue b ↔ HasCover cs e x ty rs) ed j in
    let l : IsTrue b ↔ HasCover cs e c ty e.registrations = subst (λ (xs : List ExistentialRegistration). IsTrue b ↔ HasCover cs e c ty xs) er k in
    (λ x. cv.by_registration (l.0 x), back l)
  where
    back : IsTrue b ↔ HasCover cs e c ty e.registrations → IsCovered cs e c ty → IsTrue b
    back l (cv.no_adjectives h) = absurd (some (ap length h))
    back l (cv.by_radix f) = absurd (not_both a ea (i.1 (subst (λ (t : SoftType). FitFresh cs c t ty.adjectives) (sym el) f)))
    back l (cv.by_registration h) = l.1 h

pub ruleset covered_rules = (told_no_adjectives, told_by_radix, told_by_registration, told_twice)
