-- A step that fits, after some unfoldings or none, is sound.
use Rattle.std.proofs.Common.{◌≡◌, ℕ, zero, suc, true, List, [], ◌∷◌, ◌++◌, refl, sym, ap, ◌∙◌, subst, Option, Some, None}
use Rattle.std.proofs.lemmas.Bool.{and_parts}
use Rattle.mz_logic.specs.Term.{Term, Const}
use Rattle.mz_logic.specs.Formula as formula
use Rattle.mz_logic.specs.Formula.{Formula}
use Rattle.mz_logic.specs.Derives.{Derives}
use Rattle.mz_logic.proofs.Rules.{and_in, and_left, and_right}
use Rattle.mz_core.specs.Statement.{Statement, Truth, Eq, Atom, Not, And, For}
use Rattle.mz_core.specs.Erasure.{erase}
use Rattle.mz_core.specs.InForce.{statement_in_force}
use Rattle.mz_core.specs.declared.soft_type.SoftType.{SoftType}
use Rattle.mz_context.specs.Context.{numbers}
use Rattle.mz_context.specs.declared.constants.Constant.{Constant}
use Rattle.mz_ground.specs.declared.clause.Clause.{Clause}
use Rattle.mz_environment.specs.declared.unfoldings.Unfolding.{Unfolding}
use Rattle.mz_fits.specs.Laws.{AreGranted}
use Rattle.mz_thesis.specs.declared.step.Step.{Step}
use Rattle.mz_thesis.specs.declared.step.Step.TheVariants.{Let, Assume, Thus, Take}
use Rattle.mz_thesis.specs.Rows.{Admits, thesis_after}
use Rattle.mz_thesis.specs.Applied.{first_part, with_first_part, Unfolded, unfolded, as_it_is, Applied, fits, unfolds, unfolds_to_nothing, no_unfolding_left}
use Rattle.mz_thesis_laws.specs.RowLaws.{AreInForce}
use Rattle.mz_thesis_laws.specs.StepLaws.{AreUnfoldings, IsRead, IsLeft, StepLaw}
use Rattle.mz_thesis_laws.proofs.RowProofs.{let_law, assume_law, thus_law, take_law}
use Rattle.mz_thesis_laws.proofs.UnfoldProofs.{unfolds_law, some-inj, none_some}
use Rattle.mz_thesis_laws.proofs.KeepProofs.{Stands, first_part_stands, unfolded_stands}

-- a row, where the step fits the thesis as it stands
let_row : (ax g : List Formula) (cs : List Clause) (ks : List (Option Constant)) → AreGranted ax g cs ks → AreInForce (numbers ks) g → (c : ℕ) (ty : SoftType) (thesis : Statement) → Stands (numbers ks) thesis → IsRead (numbers ks) (Let c ty) → Admits cs ks thesis (Let c ty) → IsLeft ax g (Let c ty) (thesis_after thesis (Let c ty)) → Derives ax g (erase thesis)
let_row ax g cs ks grants in_g c ty Truth w read a left = absurd a
let_row ax g cs ks grants in_g c ty (Eq t u) w read a left = absurd a
let_row ax g cs ks grants in_g c ty (Atom s ts) w read a left = absurd a
let_row ax g cs ks grants in_g c ty (Not s) w read a left = absurd a
let_row ax g cs ks grants in_g c ty (And s t) w read a left = absurd a
let_row ax g cs ks grants in_g c ty (For known s) w read a left = let_law ax g cs ks grants in_g c known ty s read.0 w.in_force read.1 a left

take_inner : (ax g : List Formula) (cs : List Clause) (ks : List (Option Constant)) → AreGranted ax g cs ks → (t : Term) (s : Statement) → IsRead (numbers ks) (Take t) → Admits cs ks (Not s) (Take t) → IsLeft ax g (Take t) (thesis_after (Not s) (Take t)) → Derives ax g (erase (Not s))
take_inner ax g cs ks grants t Truth read a left = absurd a
take_inner ax g cs ks grants t (Eq u v) read a left = absurd a
take_inner ax g cs ks grants t (Atom s ts) read a left = absurd a
take_inner ax g cs ks grants t (Not s) read a left = absurd a
take_inner ax g cs ks grants t (And s u) read a left = absurd a
take_inner ax g cs ks grants t (For ty s) read a left = take_law ax g cs ks grants ty s t read a left

take_row : (ax g : List Formula) (cs : List Clause) (ks : List (Option Constant)) → AreGranted ax g cs ks → (t : Term) (thesis : Statement) → IsRead (numbers ks) (Take t) → Admits cs ks thesis (Take t) → IsLeft ax g (Take t) (thesis_after thesis (Take t)) → Derives ax g (erase thesis)
take_row ax g cs ks grants t Truth read a left = absurd a
take_row ax g cs ks grants t (Eq u v) read a left = absurd a
take_row ax g cs ks grants t (Atom s ts) read a left = absurd a
take_row ax g cs ks grants t (Not s) read a left = take_inner ax g cs ks grants t s read a left
take_row ax g cs ks grants t (And s u) read a left = absurd a
take_row ax g cs ks grants t (For ty s) read a left = absurd a

row : (ax g : List Formula) (cs : List Clause) (ks : List (Option Constant)) → AreGranted ax g cs ks → AreInForce (numbers ks) g → (thesis : Statement) (step : Step) → Stands (numbers ks) thesis → IsRead (numbers ks) step → Admits cs ks thesis step → IsLeft ax g step (thesis_after thesis step) → Derives ax g (erase thesis)
row ax g cs ks grants in_g thesis (Let c ty) w read a left = let_row ax g cs ks grants in_g c ty thesis w read a left
row ax g cs ks grants in_g thesis (Assume s) w read a left = assume_law ax g thesis s a left
row ax g cs ks grants in_g thesis (Thus s) w read a left = thus_law ax g thesis s a left.0 left.1
row ax g cs ks grants in_g thesis (Take t) w read a left = take_row ax g cs ks grants t thesis read a left

-- the thesis derives where it does with its first part unfolded
with_first : (ax g : List Formula) (d s : Statement) → (Derives ax g (erase d) → Derives ax g (erase (first_part s))) → Derives ax g (erase (with_first_part d s)) → Derives ax g (erase s)
with_first ax g d Truth back h = back h
with_first ax g d (Eq t u) back h = back h
with_first ax g d (Atom s ts) back h = back h
with_first ax g d (Not s) back h = back h
with_first ax g d (And s t) back h =
    and_in ax g (erase s) (erase t) (with_first ax g d s back (and_left ax g (erase (with_first_part d s)) (erase t) h)) (and_right ax g (erase (with_first_part d s)) (erase t) h)
with_first ax g d (For ty s) back h = back h

unfolded_derives : (ax g : List Formula) (cs : List Clause) (ks : List (Option Constant)) (us : List Unfolding) → AreGranted ax g cs ks → AreUnfoldings ax us → (thesis : Statement) (o : Option Statement) → Unfolded cs ks us thesis o → Stands (numbers ks) thesis → (s : Statement) → o ≡ Some s → Derives ax g (erase s) → Derives ax g (erase thesis)
unfolded_derives ax g cs ks us grants each thesis o (unfolded d h) w s e x =
    let part : Stands (numbers ks) (first_part thesis) = first_part_stands (numbers ks) thesis w in
    with_first ax g d thesis (unfolds_law ax g cs ks us grants each (first_part thesis) d part.below h).0 (subst (λ r. Derives ax g (erase r)) (sym (some-inj (with_first_part d thesis) s e)) x)
unfolded_derives ax g cs ks us grants each thesis o (as_it_is h) w s e x = absurd (none_some s e)

applied_sound : (ax g : List Formula) (cs : List Clause) (ks : List (Option Constant)) (us : List Unfolding) → AreGranted ax g cs ks → AreUnfoldings ax us → AreInForce (numbers ks) g → (most : ℕ) (thesis : Statement) (step : Step) (o : Option Statement) → Applied cs ks us most thesis step o → Stands (numbers ks) thesis → IsRead (numbers ks) step → (after : Statement) → o ≡ Some after → IsLeft ax g step after → Derives ax g (erase thesis)
applied_sound ax g cs ks us grants each in_g most thesis step o (fits n th st a) w read after e left =
    row ax g cs ks grants in_g th st w read a (subst (IsLeft ax g st) (sym (some-inj (thesis_after th st) after e)) left)
applied_sound ax g cs ks us grants each in_g most thesis step o (unfolds n th next st p x u a) w read after e left =
    let inner : Stands (numbers ks) next = unfolded_stands ax (numbers ks) cs ks us each th (Some next) u w next refl in
    unfolded_derives ax g cs ks us grants each th (Some next) u w next refl (applied_sound ax g cs ks us grants each in_g n next st p a inner read after e left)
applied_sound ax g cs ks us grants each in_g most thesis step o (unfolds_to_nothing n th st x u) w read after e left = absurd (none_some after e)
applied_sound ax g cs ks us grants each in_g most thesis step o (no_unfolding_left th st x) w read after e left = absurd (none_some after e)

pub step_law : StepLaw
step_law ax g cs ks us grants each in_g most thesis after step in_th below read h left =
    applied_sound ax g cs ks us grants each in_g most thesis step (Some after) h (record { in_force = in_th; below = below }) read after refl left
