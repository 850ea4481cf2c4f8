-- Types that are equal, the order of their adjectives included.
use Rattle.std.specs.Prelude.{Bool, true, false, ◌&&◌, not, List, [], ◌∷◌}
use Rattle.std.specs.declared.cmp.Ordering.{Ordering}
use Rattle.std.specs.declared.cmp.Ordering.TheVariants.{Less, Equal, Greater}
use Rattle.mz_logic.specs.Sym.{same_sym}
use Rattle.mz_logic.specs.Term.{Term}
use Rattle.mz_logic.specs.Order.{terms_cmp}
use Rattle.mz_core.specs.declared.adjective.Adjective.{Adjective}
use Rattle.mz_core.specs.declared.soft_type.SoftType.{SoftType}

abbrev pub is_equal : Ordering → Bool
is_equal Less = false
is_equal Equal = true
is_equal Greater = false

abbrev pub same_sign : Bool → Bool → Bool
same_sign true q = q
same_sign false q = not q

abbrev pub same_adjective : Adjective → Adjective → Bool
same_adjective a b = same_sign a.positive b.positive && same_sym a.sym b.sym && is_equal (terms_cmp a.args b.args)

abbrev pub same_adjectives : List Adjective → List Adjective → Bool
same_adjectives [] [] = true
same_adjectives [] (b ∷ bs) = false
same_adjectives (a ∷ more) [] = false
same_adjectives (a ∷ more) (b ∷ bs) = same_adjective a b && same_adjectives more bs

abbrev pub same_type : SoftType → SoftType → Bool
same_type t u =
    same_sym t.radix.sym u.radix.sym && is_equal (terms_cmp t.radix.args u.radix.args) && same_adjectives t.adjectives u.adjectives
