-- What the code of limits tells.
use Rattle.std.proofs.Common.{◌≡◌, ℕ, List, refl, sym, ap, ◌∙◌, Bool, true, false, length, arith}
use Rattle.std.specs.Prelude.{nat_eq, if◌then◌else◌, ◌&&◌}
use Rattle.std.specs.List.{list_all}
use Rattle.mz_logic.specs.declared.letters.Letter.{Letter}
use Rattle.mz_logic.specs.declared.sym.Sym.{Sym}
use Rattle.mz_core.specs.Statement.{Statement}
use Rattle.mz_core.specs.declared.scheme.Scheme.{Scheme}
use Rattle.mz_core.specs.declared.scheme.SchemeLetter.TheVariants.{OfFunctor}
use Rattle.mz_core.specs.declared.soft_type.SoftType.{SoftType}
use Rattle.mz_from.specs.Verdict.{fixed_by_all}
use Rattle.mz_from.specs.Kept.{type_kept, letter_kept, scheme_kept, from_keeps}

pub told_functor_kept : (ls : List Letter) (s : Sym) (places : List SoftType) (ty : SoftType) (a b : Bool) → a ≡ list_all (type_kept ls) places → b ≡ type_kept ls ty → (a && b) ≡ letter_kept ls (OfFunctor s places ty)
told_functor_kept ls s places ty a b ea eb = λ i. ea i && eb i

pub ruleset letter_rules = (told_functor_kept)

tested : (m n : ℕ) (b : Bool) → nat_eq m n ≡ b → (m ≡ n → ⊥) → b ≡ false
tested m n true e h = absurd (h (grind (arith, e)))
tested m n false e h = refl

pub told_other_count : (scheme : Scheme) (cited : List Statement) (s : Statement) → (length cited ≡ length scheme.premises → ⊥) → true ≡ from_keeps scheme cited s
told_other_count scheme cited s n =
    sym (ap (λ b. if b then scheme_kept (fixed_by_all scheme cited s) scheme else true) (tested (length cited) (length scheme.premises) (nat_eq (length cited) (length scheme.premises)) refl n))

as_many : (m n : ℕ) → m ≡ n → nat_eq m n ≡ true
as_many m n h = grind (arith, h)

pub told_kept : (scheme : Scheme) (cited : List Statement) (s : Statement) (ls : List Letter) (b : Bool) → length cited ≡ length scheme.premises → ls ≡ fixed_by_all scheme cited s → b ≡ scheme_kept ls scheme → b ≡ from_keeps scheme cited s
told_kept scheme cited s ls b n el eb =
    eb ∙ ap (λ xs. scheme_kept xs scheme) el ∙ sym (ap (λ c. if c then scheme_kept (fixed_by_all scheme cited s) scheme else true) (as_many (length cited) (length scheme.premises) n))

pub ruleset from_rules = (told_other_count, told_kept)
