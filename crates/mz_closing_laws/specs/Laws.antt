-- What is stated at loci.
use Rattle.std.specs.Prelude.{◌≡◌, ℕ, true, List, length, map, Option, Some}
use Rattle.mz_core.specs.Closed.{statement_under}
use Rattle.mz_core.specs.Statement.{Statement}
use Rattle.mz_items.specs.Loci.{over}
use Rattle.mz_context.specs.declared.constants.Constant.{Constant}
use Rattle.mz_names.specs.Closing.{constant_of, for_all}
use Rattle.mz_names.specs.declared.variable.Variable.{Variable}
use Rattle.mz_loci.specs.Loci.{statement_at_loci, locus_types}

-- variables as loci
abbrev pub locus_of : Variable → Option Constant
locus_of v = Some (constant_of v)

abbrev pub loci_of : List Variable → List (Option Constant)
loci_of vs = map locus_of vs

-- what is stated at the loci is, over them, what stands under them
abbrev pub ClosingLaw : Type 0
ClosingLaw =
    (least : ℕ) (vs : List Variable) (s : Statement) → statement_under (length vs) s ≡ true →
    for_all least vs (statement_at_loci least (length vs) s) ≡ over (locus_types least (loci_of vs)) s
