-- What declarations are read to, and what the article has left behind them, is determined.
use Rattle.std.proofs.Common.{◌≡◌, ℕ, List, [], ◌∷◌, ◌++◌, map, refl, sym, ap}
use Rattle.std.specs.Prelude.{Result, Ok, Err}
use Rattle.mz_core.specs.declared.outcome.Left.{Left}
use Rattle.mz_core.specs.declared.soft_type.SoftType.{SoftType}
use Rattle.mz_context.specs.declared.context.Context.{Context}
use Rattle.mz_environment.specs.declared.environment.Environment.{Environment}
use Rattle.mz_names.specs.declared.refusal.Refusal.{Refusal}
use Rattle.mz_names.specs.declared.variable.Variable.{Variable}
use Rattle.mz_formulas.specs.Declarations.{Declaring, variable_of, undeclared, reserved_each, behind}
use Rattle.mz_tree.specs.Trees.{DeclaredData, DeclarationsData, PlainDeclared, TypedDeclared}
use Rattle.mz_tree.specs.declared.word.Word.{Word}
use Rattle.mz_resolve.specs.Calls.{TypeRead}
use Rattle.mz_parts.specs.Declarations as dc
use Rattle.mz_parts.specs.Declarations.{Declares, declaring_more, DeclaresAll, declared_in, DeclarationsRead}
use Rattle.mz_justified_laws.specs.Determined.{SameLeft, IsDetermined}
use Rattle.mz_justified_laws.proofs.Sequence.{determined_by, IsValue, determined_value, ThenRead, determined_then, as_it_is}
use Rattle.mz_parts_laws.specs.Laws.{SameBehind, OneDeclarationLaw, OneDeclarationsLaw}
use Rattle.mz_parts_laws.proofs.OneExpression.{one_type_read}

-- the variables that have their type now, together with the identifiers that wait
pub record Declared : Type 0 where
  pub variables : List Variable
  pub waiting : List Word

abbrev pub declared : List Variable → List Word → Declared
declared vs ws = record { variables = vs; waiting = ws }

abbrev pub declared_with : Result (List Variable) Refusal → List Word → Result Declared Refusal
declared_with (Ok vs) ws = Ok (declared vs ws)
declared_with (Err r) ws = Err r

-- a declared identifier
abbrev TypedNext : List Word → Word → SoftType → Left → Result Declared Refusal → Left → Type 0
TypedNext waiting w t l = IsValue (Ok (declared (map (variable_of t) (waiting ++ w ∷ [])) [])) l

abbrev pub DeclaresAs : Environment → Context → ℕ → List Word → Left → DeclaredData → Result Declared Refusal → Left → Type 0
DeclaresAs e c least waiting left (PlainDeclared w) o a = IsValue (Ok (declared [] (waiting ++ w ∷ []))) left o a
DeclaresAs e c least waiting left (TypedDeclared w b ty) o a = ThenRead (TypeRead e c least left ty) as_it_is (TypedNext waiting w) o a

pub declares_as : (e : Environment) (c : Context) (least : ℕ) (waiting : List Word) (left : Left) (d : DeclaredData) (o : Result (List Variable) Refusal) (ws : List Word) (a : Left) →
    Declares e c least waiting left d o ws a → DeclaresAs e c least waiting left d (declared_with o ws) a
declares_as e c least waiting left d o ws a (dc.waits w) = (refl, refl)
declares_as e c least waiting left d o ws a (dc.type_refused w b ty r _ _ h) = (Err r, a, h, refl)
declares_as e c least waiting left d o ws a (dc.type_read w b ty t _ h) = (Ok t, a, h, (refl, refl))

pub one_declared : (e : Environment) (c : Context) (least : ℕ) (waiting : List Word) (left : Left) (d : DeclaredData) → IsDetermined (DeclaresAs e c least waiting left d)
one_declared e c least waiting left (PlainDeclared w) o p a b h k = determined_value (Ok (declared [] (waiting ++ w ∷ []))) left o p a b h k
one_declared e c least waiting left (TypedDeclared w x ty) o p a b h k =
    determined_then (TypeRead e c least left ty) as_it_is (TypedNext waiting w) (one_type_read e c least left ty)
    (λ (t : SoftType) (l : Left). determined_value (Ok (declared (map (variable_of t) (waiting ++ w ∷ [])) [])) l) o p a b h k

abbrev good : Declared → Result Declared Refusal
good d = Ok d

abbrev bad : Refusal → Result Declared Refusal
bad r = Err r

goods-inj : (d f : Declared) → good d ≡ good f → d ≡ f
goods-inj d f h = cc

bads-inj : (r s : Refusal) → bad r ≡ bad s → r ≡ s
bads-inj r s h = cc

good-bad : (d : Declared) (r : Refusal) → good d ≡ bad r → ⊥
good-bad d r h = cc

declared_back : (o p : Result (List Variable) Refusal) (us ws : List Word) (a b : Left) → (declared_with o us ≡ declared_with p ws) × SameLeft (declared_with o us) a b → (o ≡ p) × SameBehind o us ws a b
declared_back (Ok vs) (Ok xs) us ws a b h =
    let same : declared vs us ≡ declared xs ws = goods-inj (declared vs us) (declared xs ws) h.0 in
    (ap (λ (d : Declared). Ok d.variables) same, (ap (λ (d : Declared). d.waiting) same, h.1))
declared_back (Ok vs) (Err r) us ws a b h = absurd (good-bad (declared vs us) r h.0)
declared_back (Err r) (Ok xs) us ws a b h = absurd (good-bad (declared xs ws) r (sym h.0))
declared_back (Err r) (Err s) us ws a b h = (ap (λ (z : Refusal). Err z) (bads-inj r s h.0), tt)

pub one_declaration : OneDeclarationLaw
one_declaration e c least waiting left d o p us ws a b h k =
    declared_back o p us ws a b
    (one_declared e c least waiting left d (declared_with o us) (declared_with p ws) a b (declares_as e c least waiting left d o us a h) (declares_as e c least waiting left d p ws b k))

-- one after another
abbrev AllNext : Environment → ℕ → Declaring → List DeclaredData → Declared → Left → Result Declaring Refusal → Left → Type 0
AllNext e least s ds x l = DeclaresAll e least (declaring_more s x.variables x.waiting) l ds

abbrev AllAs : Environment → ℕ → Declaring → Left → List DeclaredData → Result Declaring Refusal → Left → Type 0
AllAs e least s left [] o a = IsValue (Ok s) left o a
AllAs e least s left (d ∷ ds) o a = ThenRead (DeclaresAs e s.context least s.waiting left d) as_it_is (AllNext e least s ds) o a

all_as : (e : Environment) (least : ℕ) (s : Declaring) (left : Left) (ds : List DeclaredData) (o : Result Declaring Refusal) (a : Left) → DeclaresAll e least s left ds o a → AllAs e least s left ds o a
all_as e least s left ds o a (dc.no_more _ _) = (refl, refl)
all_as e least s left ds o a (dc.one_refused _ _ _ d rest others r h) = (Err r, a, declares_as e s.context least s.waiting left d (Err r) others a h, refl)
all_as e least s left ds o a (dc.one_read _ _ between _ d rest vs others _ h k) = (Ok (declared vs others), between, declares_as e s.context least s.waiting left d (Ok vs) others between h, k)

one_all : (e : Environment) (least : ℕ) (ds : List DeclaredData) (s : Declaring) (left : Left) → IsDetermined (DeclaresAll e least s left ds)
one_all e least [] s left = determined_by (DeclaresAll e least s left []) (AllAs e least s left []) (all_as e least s left []) (determined_value (Ok s) left)
one_all e least (d ∷ ds) s left =
    determined_by (DeclaresAll e least s left (d ∷ ds)) (AllAs e least s left (d ∷ ds)) (all_as e least s left (d ∷ ds))
    (determined_then (DeclaresAs e s.context least s.waiting left d) as_it_is (AllNext e least s ds) (one_declared e s.context least s.waiting left d)
    (λ (x : Declared) (l : Left). one_all e least ds (declaring_more s x.variables x.waiting) l))

-- declarations
abbrev ReservedNext : ℕ → Declaring → Left → Result (List Variable) Refusal → Left → Type 0
ReservedNext least s l = IsValue (behind s.variables (reserved_each least s.context s.waiting)) l

abbrev DeclarationsAs : Environment → Context → ℕ → Left → DeclarationsData → Result (List Variable) Refusal → Left → Type 0
DeclarationsAs e c least left ds = ThenRead (DeclaresAll e least (undeclared c) left (declared_in ds)) as_it_is (ReservedNext least)

declarations_as : (e : Environment) (c : Context) (least : ℕ) (left : Left) (ds : DeclarationsData) (o : Result (List Variable) Refusal) (a : Left) → DeclarationsRead e c least left ds o a → DeclarationsAs e c least left ds o a
declarations_as e c least left ds o a (dc.declared_refused r _ h) = (Err r, a, h, refl)
declarations_as e c least left ds o a (dc.declared_read s _ h) = (Ok s, a, h, (refl, refl))

pub one_declarations : OneDeclarationsLaw
one_declarations e c least left ds =
    determined_by (DeclarationsRead e c least left ds) (DeclarationsAs e c least left ds) (declarations_as e c least left ds)
    (determined_then (DeclaresAll e least (undeclared c) left (declared_in ds)) as_it_is (ReservedNext least) (one_all e least (declared_in ds) (undeclared c) left)
    (λ (s : Declaring) (l : Left). determined_value (behind s.variables (reserved_each least s.context s.waiting)) l))
