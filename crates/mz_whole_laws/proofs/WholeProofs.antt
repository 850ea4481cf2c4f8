-- What is read in whole contexts stands.
use Rattle.std.proofs.Common.{◌≡◌, true, List, [], ◌∷◌, refl, subst, arith, Option, Some, None, Result, Ok, Err}
use Rattle.std.specs.List.{list_all}
use Rattle.std.proofs.lemmas.Bool.{and_parts}
use Rattle.mz_logic.specs.Term.{Term}
use Rattle.mz_logic.specs.Indices.{closed, is_below}
use Rattle.mz_core.specs.Statement.{Statement, Truth}
use Rattle.mz_core.specs.Everywhere.{adjective_all}
use Rattle.mz_core.specs.declared.radix.Radix.{Radix}
use Rattle.mz_core.specs.declared.soft_type.SoftType.{SoftType}
use Rattle.mz_context.specs.Context.{next}
use Rattle.mz_context.specs.Changes.{with_constant}
use Rattle.mz_context.specs.declared.context.Context.{Context}
use Rattle.mz_environment.specs.declared.environment.Environment.{Environment}
use Rattle.mz_closed_laws.specs.ClosedEnvironment.{IsClosedEnvironment}
use Rattle.mz_types.specs.Known.{typing}
use Rattle.mz_types.specs.Chain.{IsChain}
use Rattle.mz_chain_laws.specs.ChainLaw.{HasClosedRadices, as_type}
use Rattle.mz_names.specs.Closing.{constant_of, with_variables}
use Rattle.mz_names.specs.Names.{reserved_type, known_or}
use Rattle.mz_names.specs.declared.refusal.Refusal.{Refusal}
use Rattle.mz_names.specs.declared.variable.Variable.{Variable}
use Rattle.mz_tree.specs.declared.word.Word.{Word}
use Rattle.mz_formulas.specs.Declarations.{variable_of, as_variable, reserved_variable}
use Rattle.mz_thesis_laws.proofs.UnfoldProofs.{some-inj, none_some}
use Rattle.mz_steps.specs.declared.block.Effect.TheVariants.{Unchanged}
use Rattle.mz_steps.specs.declared.read_step.ReadStep.TheVariants.{State}
use Rattle.mz_steps_laws.proofs.FactLemmas.{next_with}
use Rattle.mz_choice_laws.specs.Known.{radix_known}
use Rattle.mz_term_laws.specs.Usable.{is_usable, term_usable, statement_usable}
use Rattle.mz_term_laws.specs.Whole.{IsUsableConstant, IsWhole}
use Rattle.mz_term_laws.specs.ChangeLaws.{AreUsable}
use Rattle.mz_term_laws.proofs.ChangeProofs.{constant_law, thesis_law, previous_law}
use Rattle.mz_term_laws.proofs.AppliedProofs.{reserved_type_law, radices_law}
pub use Rattle.mz_reading_laws.specs.ReadingLaws.{IsUsableSentence}
pub use Rattle.mz_reading_laws.proofs.CallProofs.{sentence_call_law}
use Rattle.mz_reading_laws.proofs.CallProofs.{term_call_law, type_call_law}
use Rattle.mz_reading_laws.proofs.StepProofs.{context_after_law}
use Rattle.mz_block_laws.specs.Orders.{TermStands, TypeStands, AllStand, EqualStands}
use Rattle.mz_whole_laws.specs.WholeLaws.{ReadsWellLaw}
use Rattle.mz_whole_laws.proofs.PrivateProofs.{functor_whole, predicate_whole}
use Rattle.mz_whole_laws.proofs.StandingLemmas.{term_usable_in, type_usable_in, statement_usable_in, term_stands, type_stands, statement_stands}
pub use Rattle.mz_walk_laws.proofs.Outcomes.{WhereOk, within_is}

-- declared variables, and a statement behind them
all_stand : (c : Context) (vs : List Variable) (s : Statement) → AreUsable 0 c vs → statement_usable 0 (with_variables c vs) s ≡ true → AllStand (next c) vs s
all_stand c [] s u h = statement_stands c s h
all_stand c (v ∷ vs) s u h =
    (type_stands c v.ty u.0, subst (λ n. AllStand n vs s) (next_with c (constant_of v)) (all_stand (with_constant c (constant_of v)) vs s u.1 h))

-- a reserved variable
same_variable : (v u : Variable) (o : Result Variable Refusal) → o ≡ Ok v → o ≡ Ok u → v ≡ u
same_variable v u o e f = cc

no_variable : (r : Refusal) (v : Variable) → Err r ≡ Ok v → ⊥
no_variable r v e = cc

known_variable : (c : Context) (w : Word) (o : Option SoftType) → ((ty : SoftType) → o ≡ Some ty → TypeStands (next c) ty) → (v : Variable) → as_variable w (known_or w.place o) ≡ Ok v → TypeStands (next c) v.ty
known_variable c w None each v h = absurd (no_variable _ v h)
known_variable c w (Some ty) each v h = subst (λ (u : Variable). TypeStands (next c) u.ty) (same_variable (variable_of ty w) v (as_variable w (known_or w.place (Some ty))) refl h) (each ty refl)

reserved_stands : (c : Context) → IsWhole 0 c → (w : Word) (v : Variable) → reserved_variable 0 c w ≡ Ok v → TypeStands (next c) v.ty
reserved_stands c whole w v h = known_variable c w (reserved_type 0 c w.spelling) (λ ty e. type_stands c ty (reserved_type_law c 0 0 whole (omega arith) w.spelling ty e)) v h

-- the first radix of a chain
chain_stands : (e : Environment) → IsClosedEnvironment e → (c : Context) → IsWhole 0 c → (t : Term) → TermStands (next c) t → (r : Radix) (rs : List Radix) → IsChain (typing e c) e c t (r ∷ rs) → TypeStands (next c) (as_type r)
chain_stands e closed_e c whole t w r rs h =
    let all : list_all (radix_known (is_usable 0 c) 0) (r ∷ rs) ≡ true = radices_law e c 0 closed_e whole t (r ∷ rs) (term_usable_in c t w) h in
    type_stands c (as_type r) (and_parts (radix_known (is_usable 0 c) 0 r) (list_all (radix_known (is_usable 0 c) 0) rs) all).0

-- the radices of constants
radices_closed : (c : Context) → IsWhole 0 c → HasClosedRadices c
radices_closed c whole n k e =
    let u : IsUsableConstant 0 c k = whole.constants n k e (omega arith) in
    let w : TypeStands (next c) k.ty = type_stands c k.ty u.0 in
    (and_parts (list_all (adjective_all is_below 0) k.ty.adjectives) (list_all closed k.ty.radix.args) w.1).1

-- what is put into a context
equal_usable : (c : Context) (o : Option Term) → EqualStands (next c) o → (t : Term) → o ≡ Some t → term_usable 0 c t ≡ true
equal_usable c None w t e = absurd (none_some t e)
equal_usable c (Some u) w t e = subst (λ x. term_usable 0 c x ≡ true) (some-inj u t e) (term_usable_in c u w)

pub reads_well_law : ReadsWellLaw
reads_well_law e closed_e = record {
  term = λ c whole l m t u h. term_stands c u (term_call_law e c 0 0 closed_e whole (omega arith) l m t u h);
  type_of = λ c whole l m t s h. type_stands c s (type_call_law e c 0 0 closed_e whole (omega arith) l m t s h);
  sentence = λ c whole l m f x h. let u : IsUsableSentence 0 c x = sentence_call_law e c 0 0 closed_e whole (omega arith) l m f x h in all_stand c x.variables x.inner u.variables u.inner;
  reserved = λ c whole w v h. reserved_stands c whole w v h;
  chain = λ c whole t w r rs h. chain_stands e closed_e c whole t w r rs h;
  radices = λ c whole. radices_closed c whole;
  thesis = λ c whole s h. statement_stands c s (whole.thesis s h);
  with_one = λ c whole k w u. constant_law 0 c k whole (type_usable_in c k.ty w, equal_usable c k.equal u);
  with_some = λ c whole ps all. context_after_law 0 c whole (State Truth) refl Unchanged tt ps (λ p is. statement_usable_in c p.statement (all p is));
  posed = λ c whole s w. thesis_law 0 c s whole (statement_usable_in c s w);
  with_functor_read = λ c whole l m t f h. functor_whole e closed_e c whole l m t f h;
  with_predicate_read = λ c whole l m t p h. predicate_whole e closed_e c whole l m t p h;
  unlinked = λ c whole. previous_law 0 c whole;
}
