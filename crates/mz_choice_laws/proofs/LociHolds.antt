-- Values that fit loci are of their types.
use Rattle.std.proofs.Common.{List, ◌∷◌, Option}
use Rattle.mz_logic.specs.Term.{Term}
use Rattle.mz_logic.specs.Formula.{Formula}
use Rattle.mz_core.specs.declared.soft_type.SoftType.{SoftType}
use Rattle.mz_context.specs.declared.constants.Constant.{Constant}
use Rattle.mz_ground.specs.declared.clause.Clause.{Clause}
use Rattle.mz_fits.specs.Fits as fits
use Rattle.mz_fits.specs.Fits.{type_at, LociFit}
use Rattle.mz_fits.specs.Laws.{AreGranted}
use Rattle.mz_fits.proofs.SoundLemmas.{fits_derives}
use Rattle.mz_choice_laws.specs.LociLaw as holds
use Rattle.mz_choice_laws.specs.LociLaw.{LociHold, LociLaw}

loci_hold : (ax g : List Formula) (cs : List Clause) (ks : List (Option Constant)) → AreGranted ax g cs ks → (before : List Term) (loci : List SoftType) (values : List Term) → LociFit cs ks before loci values → LociHold ax g before loci values
loci_hold ax g cs ks grants before _ _ (fits.no_loci _) = holds.no_loci before
loci_hold ax g cs ks grants before _ _ (fits.and_locus _ ty tys t ts h k) = holds.and_locus before ty tys t ts (fits_derives ax g cs ks grants t (type_at before ty) h) (loci_hold ax g cs ks grants (t ∷ before) tys ts k)

pub loci_law : LociLaw
loci_law ax g cs ks grants before loci values h = loci_hold ax g cs ks grants before loci values h
