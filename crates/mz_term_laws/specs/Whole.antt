-- Contexts that hold nothing with a constant that isn't in force or with a loose index.
use Rattle.std.specs.Prelude.{◌≡◌, ◌≤◌, ℕ, true, length, Some, Contains}
use Rattle.std.specs.List.{list_all}
use Rattle.mz_logic.specs.Term.{Term}
use Rattle.mz_core.specs.Statement.{Statement}
use Rattle.mz_items.specs.Closed.{letter_closed}
use Rattle.mz_context.specs.Context.{constant_at}
use Rattle.mz_context.specs.declared.constants.Constant.{Constant}
use Rattle.mz_context.specs.declared.context.Context.{Context}
use Rattle.mz_context.specs.declared.labelled.LabelledStatement.{LabelledStatement}
use Rattle.mz_context.specs.declared.letters.NamedLetter.{NamedLetter}
use Rattle.mz_context.specs.declared.private.PrivateFunctor.{PrivateFunctor}
use Rattle.mz_context.specs.declared.private.PrivatePredicate.{PrivatePredicate}
use Rattle.mz_context.specs.declared.reserved.ReservedVariable.{ReservedVariable}
use Rattle.mz_names.specs.Scope.{type_from, statement_from}
use Rattle.mz_applied.specs.Private.{is_functor_usable, is_predicate_usable}
use Rattle.mz_choice_laws.specs.Known.{term_known, statement_known}
use Rattle.mz_term_laws.specs.Usable.{is_usable, term_usable, type_usable, statement_usable}

-- a constant's type and the term that it is equal to, if there is one
abbrev pub IsUsableConstant : ℕ → Context → Constant → Type 0
IsUsableConstant least c k = (type_usable least c k.ty ≡ true) × ((t : Term) → k.equal ≡ Some t → term_usable least c t ≡ true)

-- The constants that may be used, the letters, the thesis, `it`, the arguments and the subject of a field's type have usable
-- constants alone and no loose index. So has each of the others, reserved variables, statements and private functors and
-- predicates, that has no constant below the least one; the places' indices of a body are not loose.
pub record IsWhole (least : ℕ) (c : Context) : Type 0 where
  pub constants : (n : ℕ) (k : Constant) → constant_at c n ≡ Some k → least ≤ n → IsUsableConstant least c k
  pub reserved : (v : ReservedVariable) → Contains c.reserved v → type_from least v.ty ≡ true → type_usable least c v.ty ≡ true
  pub labelled : (p : LabelledStatement) → Contains c.labelled p → statement_from least p.statement ≡ true → statement_usable least c p.statement ≡ true
  pub previous : (s : Statement) → c.previous ≡ Some s → statement_from least s ≡ true → statement_usable least c s ≡ true
  pub functors : (f : PrivateFunctor) → Contains c.functors f → is_functor_usable least f ≡ true → term_known (is_usable least c) (length f.places) f.body ≡ true
  pub predicates : (p : PrivatePredicate) → Contains c.predicates p → is_predicate_usable least p ≡ true → statement_known (is_usable least c) (length p.places) p.body ≡ true
  pub letters : (l : NamedLetter) → Contains c.letters l → letter_closed l.letter ≡ true
  pub thesis : (s : Statement) → c.thesis ≡ Some s → statement_usable least c s ≡ true
  pub it_is : (t : Term) → c.it ≡ Some t → term_usable least c t ≡ true
  pub arguments : list_all (term_usable least c) c.arguments ≡ true
  pub subject : (t : Term) → c.subject ≡ Some t → term_usable least c t ≡ true
