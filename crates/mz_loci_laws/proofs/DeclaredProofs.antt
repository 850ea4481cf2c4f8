-- The types of declared loci are usable.
use Rattle.std.proofs.Common.{◌≡◌, ◌≤◌, ℕ, true, List, [], ◌∷◌, ◌++◌, map, refl, sym, ap, ◌∙◌, subst, arith}
use Rattle.std.specs.Prelude.{Result, Ok, Err}
use Rattle.mz_core.specs.declared.outcome.Left.{Left}
use Rattle.mz_core.specs.declared.soft_type.SoftType.{SoftType}
use Rattle.mz_closed_laws.specs.ClosedEnvironment.{IsClosedEnvironment}
use Rattle.mz_context.specs.declared.context.Context.{Context}
use Rattle.mz_environment.specs.declared.environment.Environment.{Environment}
use Rattle.mz_names.specs.Closing.{with_variables}
use Rattle.mz_names.specs.Names.{reserved_type, known_or}
use Rattle.mz_names.specs.declared.refusal.Refusal.{Refusal}
use Rattle.mz_names.specs.declared.variable.Variable.{Variable}
use Rattle.mz_names.proofs.ClosingLemmas.{with_variables-append}
use Rattle.mz_tree.specs.Trees.{DeclaredData, DeclarationsData}
use Rattle.mz_tree.specs.declared.word.Word.{Word}
use Rattle.mz_formulas.specs.Declarations.{Declaring, variable_of, as_variable, first_then, reserved_variable, reserved_each, behind, undeclared}
use Rattle.mz_parts.specs.Declarations as dc
use Rattle.mz_parts.specs.Declarations.{Declares, DeclaresAll, DeclarationsRead, declared_in}
use Rattle.mz_term_laws.specs.Usable.{type_usable}
use Rattle.mz_term_laws.specs.Whole.{IsWhole}
use Rattle.mz_term_laws.specs.ChangeLaws.{AreUsable}
use Rattle.mz_term_laws.proofs.Outcomes.{on_ok, on_known_or}
use Rattle.mz_term_laws.proofs.ChangeProofs.{variables_law, usable_append, AllUsable, each_usable}
use Rattle.mz_term_laws.proofs.AppliedProofs.{reserved_usable}
use Rattle.mz_reading_laws.proofs.CallProofs.{type_call_law}

-- variables that were read
abbrev pub UsableSo : ℕ → Context → Result (List Variable) Refusal → Type 0
UsableSo least c (Err r) = Unit {0}
UsableSo least c (Ok vs) = AreUsable least c vs

-- where the reading of declarations has come
record Stands (least : ℕ) (c : Context) (s : Declaring) : Type 0 where
  pub context : s.context ≡ with_variables c s.variables
  pub usable : AreUsable least c s.variables

abbrev StandsSo : ℕ → Context → Result Declaring Refusal → Type 0
StandsSo least c (Err r) = Unit {0}
StandsSo least c (Ok s) = Stands least c s

stands_whole : (least : ℕ) (c : Context) (s : Declaring) → IsWhole least c → Stands least c s → IsWhole least s.context
stands_whole least c s w h = subst (IsWhole least) (sym h.context) (variables_law least c s.variables w h.usable)

same_type : (least : ℕ) (c : Context) (ty : SoftType) (ws : List Word) → type_usable least c ty ≡ true → AllUsable least c (map (variable_of ty) ws)
same_type least c ty [] h = tt
same_type least c ty (w ∷ ws) h = (h, same_type least c ty ws h)

declares_usable : (e : Environment) (c : Context) (least : ℕ) → IsClosedEnvironment e → IsWhole least c → (waiting : List Word) (left : Left) (d : DeclaredData) (o : Result (List Variable) Refusal) (others : List Word) (after : Left) →
    Declares e c least waiting left d o others after → UsableSo least c o
declares_usable e c least closed_e w waiting left d o others after (dc.waits x) = tt
declares_usable e c least closed_e w waiting left d o others after (dc.type_refused x b ty r xs m h) = tt
declares_usable e c least closed_e w waiting left d o others after (dc.type_read x b ty t m h) =
    each_usable least c (map (variable_of t) (waiting ++ x ∷ [])) (same_type least c t (waiting ++ x ∷ []) (type_call_law e c least least closed_e w (omega arith) left m ty t h))

declares_all : (e : Environment) (c : Context) (least : ℕ) → IsClosedEnvironment e → IsWhole least c → (s : Declaring) (left : Left) (ds : List DeclaredData) (o : Result Declaring Refusal) (after : Left) → DeclaresAll e least s left ds o after →
    Stands least c s → StandsSo least c o
declares_all e c least closed_e w s left ds o after (dc.no_more x l) h = h
declares_all e c least closed_e w s left ds o after (dc.one_refused x l m d rest others r k) h = tt
declares_all e c least closed_e w s left ds o after (dc.one_read x l between m d rest vs others p k j) h =
    let here : AreUsable least x.context vs = declares_usable e x.context least closed_e (stands_whole least c x w h) x.waiting l d (Ok vs) others between k in
    declares_all e c least closed_e w (dc.declaring_more x vs others) between rest p m j (record {
      context = ap (λ (y : Context). with_variables y vs) h.context ∙ sym (with_variables-append c x.variables vs);
      usable = usable_append least c x.variables vs h.usable (subst (λ (y : Context). AreUsable least y vs) h.context here);
    })

-- those that wait at the end have reserved types
abbrev AllSo : ℕ → Context → Result (List Variable) Refusal → Type 0
AllSo least c (Err r) = Unit {0}
AllSo least c (Ok vs) = AllUsable least c vs

abbrev OneSo : ℕ → Context → Result Variable Refusal → Type 0
OneSo least c (Err r) = Unit {0}
OneSo least c (Ok v) = type_usable least c v.ty ≡ true

as_variable_usable : (least : ℕ) (c : Context) (w : Word) (o : Result SoftType Refusal) → on_ok (type_usable least c) o ≡ true → OneSo least c (as_variable w o)
as_variable_usable least c w (Err r) h = tt
as_variable_usable least c w (Ok ty) h = h

first_then_usable : (least : ℕ) (c : Context) (o : Result Variable Refusal) (p : Result (List Variable) Refusal) → OneSo least c o → AllSo least c p → AllSo least c (first_then o p)
first_then_usable least c (Err r) p h k = tt
first_then_usable least c (Ok v) (Err r) h k = tt
first_then_usable least c (Ok v) (Ok vs) h k = (h, k)

reserved_each_usable : (least : ℕ) (c : Context) → IsWhole least c → (ws : List Word) → AllSo least c (reserved_each least c ws)
reserved_each_usable least c w [] = tt
reserved_each_usable least c w (x ∷ xs) =
    first_then_usable least c (reserved_variable least c x) (reserved_each least c xs)
    (as_variable_usable least c x (known_or x.place (reserved_type least c x.spelling)) (on_known_or (type_usable least c) x.place (reserved_type least c x.spelling) (reserved_usable least least c (omega arith) w x.spelling)))
    (reserved_each_usable least c w xs)

behind_usable : (least : ℕ) (c d : Context) (vs : List Variable) → d ≡ with_variables c vs → AreUsable least c vs → (o : Result (List Variable) Refusal) → AllSo least d o → UsableSo least c (behind vs o)
behind_usable least c d vs e h (Err r) k = tt
behind_usable least c d vs e h (Ok us) k = usable_append least c vs us h (subst (λ (x : Context). AreUsable least x us) e (each_usable least d us k))

pub declarations_usable : (e : Environment) (c : Context) (least : ℕ) → IsClosedEnvironment e → IsWhole least c → (left : Left) (ds : DeclarationsData) (o : Result (List Variable) Refusal) (after : Left) → DeclarationsRead e c least left ds o after → UsableSo least c o
declarations_usable e c least closed_e w left ds o after (dc.declared_refused r m h) = tt
declarations_usable e c least closed_e w left ds o after (dc.declared_read s m h) =
    let at_end : Stands least c s = declares_all e c least closed_e w (undeclared c) left (declared_in ds) (Ok s) m h (record { context = refl; usable = tt }) in
    behind_usable least c s.context s.variables at_end.context at_end.usable (reserved_each least s.context s.waiting) (reserved_each_usable least s.context (stands_whole least c s w at_end) s.waiting)
