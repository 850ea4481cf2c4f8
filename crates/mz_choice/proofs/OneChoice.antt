-- What is chosen is determined.
use Rattle.std.proofs.Common.{◌≡◌, ◌<◌, ◌-◌, ◌⊎◌, inl, inr, ℕ, suc, Bool, true, false, List, [], ◌∷◌, ◌++◌, refl, sym, ap, ◌∙◌, subst, arith, length, Option, Some, None}
use Rattle.std.specs.Prelude.{slice_get}
use Rattle.std.specs.List.{list_any}
use Rattle.mz_std_laws.proofs.Sums.{either_once}
use Rattle.mz_logic.specs.Sym.{same_sym}
use Rattle.mz_logic.specs.Term.{Term, Bound}
use Rattle.mz_core.specs.Hidden.{is_of_any_object}
use Rattle.mz_core.specs.declared.radix.Radix.{Radix}
use Rattle.mz_core.specs.declared.soft_type.SoftType.{SoftType}
use Rattle.mz_core.specs.declared.notation.Notation.{Notation}
use Rattle.mz_core.specs.declared.notation.Meaning.{Meaning}
use Rattle.mz_context.specs.declared.constants.Constant.{Constant}
use Rattle.mz_context.specs.declared.context.Context.{Context}
use Rattle.mz_ground.specs.declared.clause.Clause.{Clause}
use Rattle.mz_environment.specs.declared.environment.Environment.{Environment}
use Rattle.mz_fits.specs.Matching.{Fixed, unfixed, Placed, Matched, locus, AllMatched, all_matched, one_more, one_fails, Accepted}
use Rattle.mz_fits.proofs.OneMatch.{none_some, one_match_law, one_accepted_law}
use Rattle.mz_types.specs.Chain.{IsChain}
use Rattle.mz_types.proofs.OneChain.{one_chain_law}
use Rattle.mz_choice.specs.declared.choice.Applied.{Applied}
use Rattle.mz_choice.specs.declared.choice.Wanted.{Wanted}
use Rattle.mz_choice.specs.declared.resolve.Resolution.{Resolution}
use Rattle.mz_choice.specs.declared.resolve.Resolution.TheVariants.{ReadsTo, UnknownSymbol, NoNotation, UnfitArgument}
use Rattle.mz_choice.specs.Choice as co
use Rattle.mz_choice.specs.Choice.{FirstMember, Typed, Takes, TakesAll, meaning_at, Reads, Suits, Passes, FirstPasses, is_of_symbol, is_candidate, candidates, Chosen}
use Rattle.mz_choice.specs.Resolution as re
use Rattle.mz_choice.specs.Resolution.{Resolves}
use Rattle.mz_choice.specs.Laws.{OneMemberLaw, OneReadingLaw, OneChosenLaw, OneResolutionLaw}
use Rattle.mz_choice.proofs.ResolveLemmas.{has_symbol, chosen_none}

-- the first member that matches
abbrev BehindAs : List Clause → List (Option Constant) → ℕ → Radix → Fixed → List Radix → Option Fixed → Option Fixed → Type 0
BehindAs cs ks scope formal fs rs None o = FirstMember cs ks scope formal fs rs o
BehindAs cs ks scope formal fs rs (Some b) o = o ≡ Some b

abbrev SymbolAs : List Clause → List (Option Constant) → ℕ → Radix → Fixed → Radix → List Radix → Bool → Option Fixed → Type 0
SymbolAs cs ks scope formal fs r rs false o = FirstMember cs ks scope formal fs rs o
SymbolAs cs ks scope formal fs r rs true o = (q : Option Fixed) × AllMatched cs ks scope fs formal.args r.args q × BehindAs cs ks scope formal fs rs q o

abbrev MemberAs : List Clause → List (Option Constant) → ℕ → Radix → Fixed → List Radix → Option Fixed → Type 0
MemberAs cs ks scope formal fs [] o = o ≡ None
MemberAs cs ks scope formal fs (r ∷ rs) o = SymbolAs cs ks scope formal fs r rs (same_sym r.sym formal.sym) o

member_as : (cs : List Clause) (ks : List (Option Constant)) (scope : ℕ) (formal : Radix) (fs : Fixed) (members : List Radix) (o : Option Fixed) → FirstMember cs ks scope formal fs members o → MemberAs cs ks scope formal fs members o
member_as cs ks scope formal fs members o co.no_member = refl
member_as cs ks scope formal fs members o (co.member r rs b h k) = subst (λ x. SymbolAs cs ks scope formal fs r rs x (Some b)) (sym h) (Some b, k, refl)
member_as cs ks scope formal fs members o (co.other_symbol r rs p h k) = subst (λ x. SymbolAs cs ks scope formal fs r rs x p) (sym h) k
member_as cs ks scope formal fs members o (co.other_arguments r rs p h k l) = subst (λ x. SymbolAs cs ks scope formal fs r rs x p) (sym h) (None, k, l)

behind_once : (cs : List Clause) (ks : List (Option Constant)) (scope : ℕ) (formal : Radix) (fs : Fixed) (rs : List Radix) → ((o p : Option Fixed) → FirstMember cs ks scope formal fs rs o → FirstMember cs ks scope formal fs rs p → o ≡ p) → (q o p : Option Fixed) → BehindAs cs ks scope formal fs rs q o → BehindAs cs ks scope formal fs rs q p → o ≡ p
behind_once cs ks scope formal fs rs f None o p h k = f o p h k
behind_once cs ks scope formal fs rs f (Some b) o p h k = h ∙ sym k

symbol_once : (cs : List Clause) (ks : List (Option Constant)) (scope : ℕ) (formal : Radix) (fs : Fixed) (r : Radix) (rs : List Radix) → ((o p : Option Fixed) → FirstMember cs ks scope formal fs rs o → FirstMember cs ks scope formal fs rs p → o ≡ p) → (b : Bool) (o p : Option Fixed) → SymbolAs cs ks scope formal fs r rs b o → SymbolAs cs ks scope formal fs r rs b p → o ≡ p
symbol_once cs ks scope formal fs r rs f false o p h k = f o p h k
symbol_once cs ks scope formal fs r rs f true o p h k =
    let same : h.0 ≡ k.0 = one_match_law cs ks scope fs formal.args r.args h.0 k.0 h.1 k.1 in
    behind_once cs ks scope formal fs rs f k.0 o p (subst (λ (q : Option Fixed). BehindAs cs ks scope formal fs rs q o) same h.2) k.2

pub one_member_law : OneMemberLaw
one_member_law cs ks scope formal fs [] o p h k = member_as cs ks scope formal fs [] o h ∙ sym (member_as cs ks scope formal fs [] p k)
one_member_law cs ks scope formal fs (r ∷ rs) o p h k =
    symbol_once cs ks scope formal fs r rs (one_member_law cs ks scope formal fs rs) (same_sym r.sym formal.sym) o p (member_as cs ks scope formal fs (r ∷ rs) o h) (member_as cs ks scope formal fs (r ∷ rs) p k)

-- an argument beside the type of its locus
abbrev TypedAs : List Clause → Environment → Context → ℕ → SoftType → Fixed → Term → Bool → Option Fixed → Type 0
TypedAs cs e c place ty fs t true o = o ≡ Some fs
TypedAs cs e c place ty fs t false o = (rs : List Radix) × IsChain cs e c t rs × FirstMember cs c.constants place ty.radix fs rs o

typed_as : (cs : List Clause) (e : Environment) (c : Context) (place : ℕ) (ty : SoftType) (fs : Fixed) (t : Term) (o : Option Fixed) → Typed cs e c place ty fs t o → TypedAs cs e c place ty fs t (is_of_any_object ty.radix.sym) o
typed_as cs e c place ty fs t o (co.any_object h) = subst (λ b. TypedAs cs e c place ty fs t b (Some fs)) (sym h) refl
typed_as cs e c place ty fs t o (co.by_chain rs p h k l) = subst (λ b. TypedAs cs e c place ty fs t b p) (sym h) (rs, k, l)

typed_once : (cs : List Clause) (e : Environment) (c : Context) (place : ℕ) (ty : SoftType) (fs : Fixed) (t : Term) (b : Bool) (o p : Option Fixed) → TypedAs cs e c place ty fs t b o → TypedAs cs e c place ty fs t b p → o ≡ p
typed_once cs e c place ty fs t true o p h k = h ∙ sym k
typed_once cs e c place ty fs t false o p h k =
    let same : h.0 ≡ k.0 = one_chain_law cs e c t h.0 k.0 h.1 k.1 in
    one_member_law cs c.constants place ty.radix fs k.0 o p (subst (λ (rs : List Radix). FirstMember cs c.constants place ty.radix fs rs o) same h.2) k.2

-- a term for a locus, as a match of one formal term
as_locus : (cs : List Clause) (ks : List (Option Constant)) (fs : Fixed) (place : ℕ) (t : Term) (o : Option Fixed) → Placed cs ks fs place t o → Matched cs ks (suc place) fs (Bound 0) t o
as_locus cs ks fs place t o h =
    let e : place ≡ suc place - suc 0 = omega arith in
    let lt : 0 < suc place = omega arith in
    locus fs 0 t o lt (subst (λ (k : ℕ). Placed cs ks fs k t o) e h)

as_match : (cs : List Clause) (ks : List (Option Constant)) (fs : Fixed) (place : ℕ) (t : Term) (o : Option Fixed) → Placed cs ks fs place t o → AllMatched cs ks (suc place) fs (Bound 0 ∷ []) (t ∷ []) o
as_match cs ks fs place t None h = one_fails fs (Bound 0) t [] [] (as_locus cs ks fs place t None h)
as_match cs ks fs place t (Some b) h = one_more fs b (Bound 0) t [] [] (Some b) (as_locus cs ks fs place t (Some b) h) (all_matched b)

placed_once : (cs : List Clause) (ks : List (Option Constant)) (fs : Fixed) (place : ℕ) (t : Term) (o p : Option Fixed) → Placed cs ks fs place t o → Placed cs ks fs place t p → o ≡ p
placed_once cs ks fs place t o p h k = one_match_law cs ks (suc place) fs (Bound 0 ∷ []) (t ∷ []) o p (as_match cs ks fs place t o h) (as_match cs ks fs place t p k)

-- a visible argument
abbrev PlacedAs : List Clause → Environment → Context → ℕ → SoftType → Term → Option Fixed → Option Fixed → Type 0
PlacedAs cs e c place ty t None o = o ≡ None
PlacedAs cs e c place ty t (Some between) o = Typed cs e c place ty between t o

abbrev TakenAs : List Clause → Environment → Context → Fixed → ℕ → Term → Option SoftType → Option Fixed → Type 0
TakenAs cs e c fs place t None o = o ≡ None
TakenAs cs e c fs place t (Some ty) o = (q : Option Fixed) × Placed cs c.constants fs place t q × PlacedAs cs e c place ty t q o

taken_as : (cs : List Clause) (e : Environment) (c : Context) (loci : List SoftType) (fs : Fixed) (place : ℕ) (t : Term) (o : Option Fixed) → Takes cs e c loci fs place t o → TakenAs cs e c fs place t (slice_get loci place) o
taken_as cs e c loci fs place t o (co.no_locus h) = subst (λ x. TakenAs cs e c fs place t x None) (sym h) refl
taken_as cs e c loci fs place t o (co.not_placed ty h k) = subst (λ x. TakenAs cs e c fs place t x None) (sym h) (None, k, refl)
taken_as cs e c loci fs place t o (co.is_placed ty between p h k l) = subst (λ x. TakenAs cs e c fs place t x p) (sym h) (Some between, k, l)

as_placed_once : (cs : List Clause) (e : Environment) (c : Context) (place : ℕ) (ty : SoftType) (t : Term) (q o p : Option Fixed) → PlacedAs cs e c place ty t q o → PlacedAs cs e c place ty t q p → o ≡ p
as_placed_once cs e c place ty t None o p h k = h ∙ sym k
as_placed_once cs e c place ty t (Some b) o p h k = typed_once cs e c place ty b t (is_of_any_object ty.radix.sym) o p (typed_as cs e c place ty b t o h) (typed_as cs e c place ty b t p k)

as_taken_once : (cs : List Clause) (e : Environment) (c : Context) (fs : Fixed) (place : ℕ) (t : Term) (x : Option SoftType) (o p : Option Fixed) → TakenAs cs e c fs place t x o → TakenAs cs e c fs place t x p → o ≡ p
as_taken_once cs e c fs place t None o p h k = h ∙ sym k
as_taken_once cs e c fs place t (Some ty) o p h k =
    let same : h.0 ≡ k.0 = placed_once cs c.constants fs place t h.0 k.0 h.1 k.1 in
    as_placed_once cs e c place ty t k.0 o p (subst (λ (q : Option Fixed). PlacedAs cs e c place ty t q o) same h.2) k.2

taken_once : (cs : List Clause) (e : Environment) (c : Context) (loci : List SoftType) (fs : Fixed) (place : ℕ) (t : Term) (o p : Option Fixed) → Takes cs e c loci fs place t o → Takes cs e c loci fs place t p → o ≡ p
taken_once cs e c loci fs place t o p h k = as_taken_once cs e c fs place t (slice_get loci place) o p (taken_as cs e c loci fs place t o h) (taken_as cs e c loci fs place t p k)

-- visible arguments
abbrev OthersAs : List Clause → Environment → Context → List SoftType → List ℕ → List Term → Option Fixed → Option Fixed → Type 0
OthersAs cs e c loci ps ts None o = o ≡ None
OthersAs cs e c loci ps ts (Some between) o = TakesAll cs e c loci between ps ts o

abbrev AllAs : List Clause → Environment → Context → List SoftType → Fixed → List ℕ → List Term → Option Fixed → Type 0
AllAs cs e c loci fs [] [] o = o ≡ Some fs
AllAs cs e c loci fs [] (t ∷ ts) o = o ≡ None
AllAs cs e c loci fs (p ∷ ps) [] o = o ≡ None
AllAs cs e c loci fs (p ∷ ps) (t ∷ ts) o = (q : Option Fixed) × Takes cs e c loci fs p t q × OthersAs cs e c loci ps ts q o

all_as : (cs : List Clause) (e : Environment) (c : Context) (loci : List SoftType) (fs : Fixed) (ps : List ℕ) (ts : List Term) (o : Option Fixed) → TakesAll cs e c loci fs ps ts o → AllAs cs e c loci fs ps ts o
all_as cs e c loci fs ps ts o (co.all_taken gs) = refl
all_as cs e c loci fs ps ts o (co.and_takes gs between p qs t us q h k) = (Some between, h, k)
all_as cs e c loci fs ps ts o (co.one_not_taken gs p qs t us h) = (None, h, refl)
all_as cs e c loci fs ps ts o (co.places_end gs t us) = refl
all_as cs e c loci fs ps ts o (co.terms_end gs p qs) = refl

others_once : (cs : List Clause) (e : Environment) (c : Context) (loci : List SoftType) (ps : List ℕ) (ts : List Term) → ((fs : Fixed) (o p : Option Fixed) → TakesAll cs e c loci fs ps ts o → TakesAll cs e c loci fs ps ts p → o ≡ p) → (q o p : Option Fixed) → OthersAs cs e c loci ps ts q o → OthersAs cs e c loci ps ts q p → o ≡ p
others_once cs e c loci ps ts f None o p h k = h ∙ sym k
others_once cs e c loci ps ts f (Some b) o p h k = f b o p h k

all_once : (cs : List Clause) (e : Environment) (c : Context) (loci : List SoftType) (ps : List ℕ) (ts : List Term) (fs : Fixed) (o p : Option Fixed) → TakesAll cs e c loci fs ps ts o → TakesAll cs e c loci fs ps ts p → o ≡ p
all_once cs e c loci [] [] fs o p h k = all_as cs e c loci fs [] [] o h ∙ sym (all_as cs e c loci fs [] [] p k)
all_once cs e c loci [] (t ∷ ts) fs o p h k = all_as cs e c loci fs [] (t ∷ ts) o h ∙ sym (all_as cs e c loci fs [] (t ∷ ts) p k)
all_once cs e c loci (q ∷ ps) [] fs o p h k = all_as cs e c loci fs (q ∷ ps) [] o h ∙ sym (all_as cs e c loci fs (q ∷ ps) [] p k)
all_once cs e c loci (q ∷ ps) (t ∷ ts) fs o p h k =
    let a : (x : Option Fixed) × Takes cs e c loci fs q t x × OthersAs cs e c loci ps ts x o = all_as cs e c loci fs (q ∷ ps) (t ∷ ts) o h in
    let b : (x : Option Fixed) × Takes cs e c loci fs q t x × OthersAs cs e c loci ps ts x p = all_as cs e c loci fs (q ∷ ps) (t ∷ ts) p k in
    let same : a.0 ≡ b.0 = taken_once cs e c loci fs q t a.0 b.0 a.1 b.1 in
    others_once cs e c loci ps ts (all_once cs e c loci ps ts) b.0 o p (subst (λ (x : Option Fixed). OthersAs cs e c loci ps ts x o) same a.2) b.2

-- what arguments read to
abbrev meaning_if_any : Notation → Option (List Term) → Option Meaning
meaning_if_any x None = None
meaning_if_any x (Some values) = Some (meaning_at values x.meaning)

abbrev FixedAs : List Clause → Context → Notation → Option Fixed → Option Meaning → Type 0
FixedAs cs c x None o = o ≡ None
FixedAs cs c x (Some fs) o = (v : Option (List Term)) × Accepted cs c.constants x.pattern.loci fs v × (o ≡ meaning_if_any x v)

abbrev ReadsAs : List Clause → Environment → Context → Notation → List Term → Option Meaning → Type 0
ReadsAs cs e c x args o = (q : Option Fixed) × TakesAll cs e c x.pattern.loci (unfixed (length x.pattern.loci)) (x.pattern.left ++ x.pattern.right) args q × FixedAs cs c x q o

reads_as : (cs : List Clause) (e : Environment) (c : Context) (x : Notation) (args : List Term) (o : Option Meaning) → Reads cs e c x args o → ReadsAs cs e c x args o
reads_as cs e c x args o (co.not_taken h) = (None, h, refl)
reads_as cs e c x args o (co.not_accepted fs h a) = (Some fs, h, (None, a, refl))
reads_as cs e c x args o (co.reads fs values h a) = (Some fs, h, (Some values, a, refl))

fixed_once : (cs : List Clause) (c : Context) (x : Notation) (q : Option Fixed) (o p : Option Meaning) → FixedAs cs c x q o → FixedAs cs c x q p → o ≡ p
fixed_once cs c x None o p h k = h ∙ sym k
fixed_once cs c x (Some fs) o p h k = h.2 ∙ (ap (meaning_if_any x) (one_accepted_law cs c.constants x.pattern.loci fs h.0 k.0 h.1 k.1) ∙ sym k.2)

as_reads_once : (cs : List Clause) (e : Environment) (c : Context) (x : Notation) (args : List Term) (o p : Option Meaning) → ReadsAs cs e c x args o → ReadsAs cs e c x args p → o ≡ p
as_reads_once cs e c x args o p a b =
    let same : a.0 ≡ b.0 = all_once cs e c x.pattern.loci (x.pattern.left ++ x.pattern.right) args (unfixed (length x.pattern.loci)) a.0 b.0 a.1 b.1 in
    fixed_once cs c x b.0 o p (subst (λ (q : Option Fixed). FixedAs cs c x q o) same a.2) b.2

pub one_reading_law : OneReadingLaw
one_reading_law cs e c x args o p h k = as_reads_once cs e c x args o p (reads_as cs e c x args o h) (reads_as cs e c x args p k)

-- what passes
abbrev SuitedAs : Wanted → Option Meaning → Option Meaning → Type 0
SuitedAs w None o = o ≡ None
SuitedAs w (Some m) o = (Suits w m × (o ≡ Some m)) ⊎ ((Suits w m → ⊥) × (o ≡ None))

passes_as : (cs : List Clause) (e : Environment) (c : Context) (w : Wanted) (x : Notation) (args : List Term) (o : Option Meaning) → Passes cs e c w x args o → (q : Option Meaning) × Reads cs e c x args q × SuitedAs w q o
passes_as cs e c w x args o (co.passes m h s) = (Some m, h, inl (s, refl))
passes_as cs e c w x args o (co.not_suited m h n) = (Some m, h, inr (n, refl))
passes_as cs e c w x args o (co.not_read h) = (None, h, refl)

suited_once : (w : Wanted) (q o p : Option Meaning) → SuitedAs w q o → SuitedAs w q p → o ≡ p
suited_once w None o p h k = h ∙ sym k
suited_once w (Some m) o p h k = either_once h k

passes_once : (cs : List Clause) (e : Environment) (c : Context) (w : Wanted) (x : Notation) (args : List Term) (o p : Option Meaning) → Passes cs e c w x args o → Passes cs e c w x args p → o ≡ p
passes_once cs e c w x args o p h k =
    let a : (q : Option Meaning) × Reads cs e c x args q × SuitedAs w q o = passes_as cs e c w x args o h in
    let b : (q : Option Meaning) × Reads cs e c x args q × SuitedAs w q p = passes_as cs e c w x args p k in
    let same : a.0 ≡ b.0 = one_reading_law cs e c x args a.0 b.0 a.1 b.1 in
    suited_once w b.0 o p (subst (λ (q : Option Meaning). SuitedAs w q o) same a.2) b.2

abbrev LaterAs : List Clause → Environment → Context → Wanted → List Term → List Notation → Option Meaning → Option Meaning → Type 0
LaterAs cs e c w args xs None o = FirstPasses cs e c w args xs o
LaterAs cs e c w args xs (Some m) o = o ≡ Some m

abbrev FirstAs : List Clause → Environment → Context → Wanted → List Term → List Notation → Option Meaning → Type 0
FirstAs cs e c w args [] o = o ≡ None
FirstAs cs e c w args (x ∷ xs) o = (q : Option Meaning) × Passes cs e c w x args q × LaterAs cs e c w args xs q o

first_as : (cs : List Clause) (e : Environment) (c : Context) (w : Wanted) (args : List Term) (xs : List Notation) (o : Option Meaning) → FirstPasses cs e c w args xs o → FirstAs cs e c w args xs o
first_as cs e c w args xs o co.none_passes = refl
first_as cs e c w args xs o (co.this_passes x ys m h) = (Some m, h, refl)
first_as cs e c w args xs o (co.not_this x ys p h k) = (None, h, k)

later_once : (cs : List Clause) (e : Environment) (c : Context) (w : Wanted) (args : List Term) (xs : List Notation) → ((o p : Option Meaning) → FirstPasses cs e c w args xs o → FirstPasses cs e c w args xs p → o ≡ p) → (q o p : Option Meaning) → LaterAs cs e c w args xs q o → LaterAs cs e c w args xs q p → o ≡ p
later_once cs e c w args xs f None o p h k = f o p h k
later_once cs e c w args xs f (Some m) o p h k = h ∙ sym k

first_once : (cs : List Clause) (e : Environment) (c : Context) (w : Wanted) (args : List Term) (xs : List Notation) (o p : Option Meaning) → FirstPasses cs e c w args xs o → FirstPasses cs e c w args xs p → o ≡ p
first_once cs e c w args [] o p h k = first_as cs e c w args [] o h ∙ sym (first_as cs e c w args [] p k)
first_once cs e c w args (x ∷ xs) o p h k =
    let a : (q : Option Meaning) × Passes cs e c w x args q × LaterAs cs e c w args xs q o = first_as cs e c w args (x ∷ xs) o h in
    let b : (q : Option Meaning) × Passes cs e c w x args q × LaterAs cs e c w args xs q p = first_as cs e c w args (x ∷ xs) p k in
    let same : a.0 ≡ b.0 = passes_once cs e c w x args a.0 b.0 a.1 b.1 in
    later_once cs e c w args xs (first_once cs e c w args xs) b.0 o p (subst (λ (q : Option Meaning). LaterAs cs e c w args xs q o) same a.2) b.2

pub one_chosen_law : OneChosenLaw
one_chosen_law cs e c w a o p h k = first_once cs e c w (a.left ++ a.right) (candidates a e.notations) o p h k

-- what it reads to, or why to nothing: by whether the symbol has notations, and whether there are candidates
abbrev answer : Option Meaning → Resolution
answer None = UnfitArgument
answer (Some m) = ReadsTo m

abbrev ResolvesAs : List Clause → Environment → Context → Wanted → Applied → Bool → Bool → Resolution → Type 0
ResolvesAs cs e c w a false b o = o ≡ UnknownSymbol
ResolvesAs cs e c w a true false o = o ≡ NoNotation
ResolvesAs cs e c w a true true o = (q : Option Meaning) × Chosen cs e c w a q × (o ≡ answer q)

by_flags : (cs : List Clause) (e : Environment) (c : Context) (w : Wanted) (a : Applied) (p q : Bool) (o : Resolution) → list_any (is_of_symbol a) e.notations ≡ p → list_any (is_candidate a) e.notations ≡ q → ResolvesAs cs e c w a p q o → ResolvesAs cs e c w a (list_any (is_of_symbol a) e.notations) (list_any (is_candidate a) e.notations) o
by_flags cs e c w a p q o ep eq h = subst (λ x. ResolvesAs cs e c w a x (list_any (is_candidate a) e.notations) o) (sym ep) (subst (λ y. ResolvesAs cs e c w a p y o) (sym eq) h)

there : (cs : List Clause) (e : Environment) (c : Context) (w : Wanted) (a : Applied) (m : Meaning) (b : Bool) → list_any (is_candidate a) e.notations ≡ b → Chosen cs e c w a (Some m) → list_any (is_candidate a) e.notations ≡ true
there cs e c w a m true h k = h
there cs e c w a m false h k = absurd (none_some m (sym (chosen_none cs e c w a (Some m) h k)))

resolves_as : (cs : List Clause) (e : Environment) (c : Context) (w : Wanted) (a : Applied) (o : Resolution) → Resolves cs e c w a o → ResolvesAs cs e c w a (list_any (is_of_symbol a) e.notations) (list_any (is_candidate a) e.notations) o
resolves_as cs e c w a o (re.unknown_symbol h) = by_flags cs e c w a false (list_any (is_candidate a) e.notations) UnknownSymbol h refl refl
resolves_as cs e c w a o (re.no_notation h k) = by_flags cs e c w a true false NoNotation h k refl
resolves_as cs e c w a o (re.unfit_argument h k) = by_flags cs e c w a true true UnfitArgument (has_symbol a e.notations h) h (None, k, refl)
resolves_as cs e c w a o (re.reads_to m k) =
    let h : list_any (is_candidate a) e.notations ≡ true = there cs e c w a m (list_any (is_candidate a) e.notations) refl k in
    by_flags cs e c w a true true (ReadsTo m) (has_symbol a e.notations h) h (Some m, k, refl)

as_resolves_once : (cs : List Clause) (e : Environment) (c : Context) (w : Wanted) (a : Applied) (x y : Bool) (o p : Resolution) → ResolvesAs cs e c w a x y o → ResolvesAs cs e c w a x y p → o ≡ p
as_resolves_once cs e c w a false b o p h k = h ∙ sym k
as_resolves_once cs e c w a true false o p h k = h ∙ sym k
as_resolves_once cs e c w a true true o p h k = h.2 ∙ (ap answer (one_chosen_law cs e c w a h.0 k.0 h.1 k.1) ∙ sym k.2)

pub one_resolution_law : OneResolutionLaw
one_resolution_law cs e c w a o p h k = as_resolves_once cs e c w a (list_any (is_of_symbol a) e.notations) (list_any (is_candidate a) e.notations) o p (resolves_as cs e c w a o h) (resolves_as cs e c w a p k)
