-- The types of declared and of free reserved variables are usable.
use Rattle.std.proofs.Common.{◌≡◌, ◌≤◌, ℕ, true, List, [], ◌∷◌, ◌++◌, map, refl, sym, ap, ◌∙◌, subst, Option, Some, None}
use Rattle.std.specs.Prelude.{Result, Ok, Err}
use Rattle.mz_core.specs.declared.soft_type.SoftType.{SoftType}
use Rattle.mz_context.specs.declared.context.Context.{Context}
use Rattle.mz_environment.specs.declared.environment.Environment.{Environment}
use Rattle.mz_names.specs.Closing.{with_variables}
use Rattle.mz_names.specs.Names.{reserved_type, known_or}
use Rattle.mz_names.specs.declared.refusal.Refusal.{Refusal}
use Rattle.mz_names.specs.declared.variable.Variable.{Variable}
use Rattle.mz_names.proofs.ClosingLemmas.{with_variables-append}
use Rattle.mz_free.specs.Free.{free_names, if_typed, as_reserved, free_variables}
use Rattle.mz_tree.specs.Trees.{FormulaData, DeclaredData}
use Rattle.mz_tree.specs.declared.word.Word.{Word}
use Rattle.mz_formulas.specs.Declarations as dc
use Rattle.mz_formulas.specs.Declarations.{Declaring, variable_of, Declares, DeclaresAll, as_variable, first_then, reserved_variable, reserved_each, behind, undeclared, ReadsDeclared}
use Rattle.mz_term_laws.specs.Usable.{type_usable}
use Rattle.mz_term_laws.specs.Whole.{IsWhole}
use Rattle.mz_term_laws.specs.ChangeLaws.{AreUsable}
use Rattle.mz_term_laws.proofs.Outcomes.{on_ok, if_any, on_known_or}
use Rattle.mz_term_laws.proofs.ChangeProofs.{variables_law, usable_append, AllUsable, each_usable}
use Rattle.mz_term_laws.proofs.AppliedProofs.{Reading, reserved_usable}
use Rattle.mz_term_laws.proofs.TypeProofs.{type_is_usable}

-- free reserved variables
pub all_append : (least : ℕ) (c : Context) (vs us : List Variable) → AllUsable least c vs → AllUsable least c us → AllUsable least c (vs ++ us)
all_append least c [] us h k = k
all_append least c (v ∷ vs) us h k = (h.0, all_append least c vs us h.1 k)

typed_usable : (least : ℕ) (c : Context) (name : List ℕ) (o : Option SoftType) → if_any (type_usable least c) o ≡ true → AllUsable least c (if_typed name o)
typed_usable least c name None h = tt
typed_usable least c name (Some ty) h = (h, tt)

as_reserved_usable : (from least : ℕ) (c : Context) → from ≤ least → IsWhole from c → (names : List (List ℕ)) → AllUsable from c (as_reserved least c names)
as_reserved_usable from least c le w [] = tt
as_reserved_usable from least c le w (n ∷ ns) =
    all_append from c (if_typed n (reserved_type least c n)) (as_reserved least c ns) (typed_usable from c n (reserved_type least c n) (reserved_usable from least c le w n)) (as_reserved_usable from least c le w ns)

pub free_usable : (from least : ℕ) (c : Context) → from ≤ least → IsWhole from c → (f : FormulaData) → AreUsable from c (free_variables least c f)
free_usable from least c le w f = each_usable from c (free_variables least c f) (as_reserved_usable from least c le w (free_names least c f))

-- where the reading of declarations has come
record Stands (from : ℕ) (c : Context) (s : Declaring) : Type 0 where
  pub context : s.context ≡ with_variables c s.variables
  pub usable : AreUsable from c s.variables

-- as an outcome
abbrev StandsSo : ℕ → Context → Result Declaring Refusal → Type 0
StandsSo from c (Err r) = Unit {0}
StandsSo from c (Ok s) = Stands from c s

stands_whole : (from : ℕ) (c : Context) (s : Declaring) → IsWhole from c → Stands from c s → IsWhole from s.context
stands_whole from c s w h = subst (IsWhole from) (sym h.context) (variables_law from c s.variables w h.usable)

same_type : (from : ℕ) (c : Context) (ty : SoftType) (ws : List Word) → type_usable from c ty ≡ true → AllUsable from c (map (variable_of ty) ws)
same_type from c ty [] h = tt
same_type from c ty (w ∷ ws) h = (h, same_type from c ty ws h)

declares_stands : (e : Environment) (c : Context) (from least : ℕ) → Reading e c from least → (s : Declaring) (d : DeclaredData) (o : Result Declaring Refusal) → Declares e least s d o → Stands from c s → StandsSo from c o
declares_stands e c from least r s d o (dc.waits t w) h = record { context = h.context; usable = h.usable }
declares_stands e c from least r s d o (dc.type_refused t w b ty x k) h = tt
declares_stands e c from least r s d o (dc.type_read t w b ty a k) h =
    let inside : Reading e t.context from least = record { environment = r.environment; context = stands_whole from c t r.context h; below = r.below } in
    let us : List Variable = map (variable_of a) (t.waiting ++ w ∷ []) in
    let here : AreUsable from t.context us = each_usable from t.context us (same_type from t.context a (t.waiting ++ w ∷ []) (type_is_usable e t.context from least inside ty (Ok a) k)) in
    record {
      context = ap (λ (x : Context). with_variables x us) h.context ∙ sym (with_variables-append c t.variables us);
      usable = usable_append from c t.variables us h.usable (subst (λ (x : Context). AreUsable from x us) h.context here);
    }

declares_all : (e : Environment) (c : Context) (from least : ℕ) → Reading e c from least → (s : Declaring) (ds : List DeclaredData) (o : Result Declaring Refusal) → DeclaresAll e least s ds o → Stands from c s → StandsSo from c o
declares_all e c from least r s ds o (dc.no_more t) h = h
declares_all e c from least r s ds o (dc.one_refused t d rest x k) h = tt
declares_all e c from least r s ds o (dc.one_read t u d rest x k l) h = declares_all e c from least r u rest x l (declares_stands e c from least r t d (Ok u) k h)

-- those that wait at the end have reserved types
abbrev AllSo : ℕ → Context → Result (List Variable) Refusal → Type 0
AllSo from c (Err r) = Unit {0}
AllSo from c (Ok vs) = AllUsable from c vs

abbrev OneSo : ℕ → Context → Result Variable Refusal → Type 0
OneSo from c (Err r) = Unit {0}
OneSo from c (Ok v) = type_usable from c v.ty ≡ true

as_variable_usable : (from : ℕ) (c : Context) (w : Word) (o : Result SoftType Refusal) → on_ok (type_usable from c) o ≡ true → OneSo from c (as_variable w o)
as_variable_usable from c w (Err r) h = tt
as_variable_usable from c w (Ok ty) h = h

first_then_usable : (from : ℕ) (c : Context) (o : Result Variable Refusal) (p : Result (List Variable) Refusal) → OneSo from c o → AllSo from c p → AllSo from c (first_then o p)
first_then_usable from c (Err r) p h k = tt
first_then_usable from c (Ok v) (Err r) h k = tt
first_then_usable from c (Ok v) (Ok vs) h k = (h, k)

reserved_each_usable : (from least : ℕ) (c : Context) → from ≤ least → IsWhole from c → (ws : List Word) → AllSo from c (reserved_each least c ws)
reserved_each_usable from least c le w [] = tt
reserved_each_usable from least c le w (x ∷ xs) =
    first_then_usable from c (reserved_variable least c x) (reserved_each least c xs)
    (as_variable_usable from c x (known_or x.place (reserved_type least c x.spelling)) (on_known_or (type_usable from c) x.place (reserved_type least c x.spelling) (reserved_usable from least c le w x.spelling)))
    (reserved_each_usable from least c le w xs)

-- what declarations are read to
abbrev pub DeclaredSo : ℕ → Context → Result (List Variable) Refusal → Type 0
DeclaredSo from c (Err r) = Unit {0}
DeclaredSo from c (Ok vs) = AreUsable from c vs

behind_usable : (from : ℕ) (c d : Context) (vs : List Variable) → d ≡ with_variables c vs → AreUsable from c vs → (o : Result (List Variable) Refusal) → AllSo from d o → DeclaredSo from c (behind vs o)
behind_usable from c d vs e h (Err r) k = tt
behind_usable from c d vs e h (Ok us) k = usable_append from c vs us h (subst (λ (x : Context). AreUsable from x us) e (each_usable from d us k))

pub declared_usable : (e : Environment) (c : Context) (from least : ℕ) → Reading e c from least → (ds : List DeclaredData) (o : Result (List Variable) Refusal) → ReadsDeclared e least c ds o → DeclaredSo from c o
declared_usable e c from least r ds o (dc.declared_refused x h) = tt
declared_usable e c from least r ds o (dc.declared_read s h) =
    let at_end : Stands from c s = declares_all e c from least r (undeclared c) ds (Ok s) h (record { context = refl; usable = tt }) in
    behind_usable from c s.context s.variables at_end.context at_end.usable (reserved_each least s.context s.waiting) (reserved_each_usable from least s.context r.below (stands_whole from c s r.context at_end) s.waiting)
