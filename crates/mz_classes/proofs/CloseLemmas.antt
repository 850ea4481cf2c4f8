-- The facts that are made are those of the disjunct.
use Rattle.std.proofs.Common.{◌≡◌, ap, ◌∙◌, sym, subst, List, length}
use Rattle.std.specs.Prelude.{Result, Ok, Err, IfOk}
use Rattle.mz_logic.specs.declared.disjunct.Disjunct.{Disjunct}
use Rattle.mz_ground.specs.Ground.{IsGround}
use Rattle.mz_ground.specs.FactSet.{HasFacts}
use Rattle.mz_ground.specs.declared.clause.Clause.{Clause}
use Rattle.mz_ground.specs.declared.ground_part.Ground.{Ground}
use Rattle.mz_congruence.specs.declared.fact_table.FactTable.{FactTable}
use Rattle.mz_congruence.specs.declared.ground_graph.GroundGraph.{GroundGraph}
use Rattle.mz_congruence.specs.FactTable.{table_view}
use Rattle.mz_congruence.specs.GroundGraph.{IsGroundGraph, HasFactsOf}
use Rattle.mz_classes.specs.declared.classes.Classes.{Classes}
use Rattle.mz_classes.specs.ClassView.{class_view}
use Rattle.mz_ground.specs.Growth.{IsNumbered}
use Rattle.mz_numbering.specs.declared.numbering.Numbering.{Numbering}
use Rattle.mz_numbering.specs.Numbering.{term_place_cmp, atom_place_cmp, IsNumbering}
use Rattle.mz_numbering.proofs.NumberingLemmas.{slice_index-ordered}
use Rattle.mz_classes.specs.Indexed.{AreWithin}
use Rattle.mz_classes.proofs.LabelLemmas.{state_from}

pub told_kept : {E : Type 0} (g : Ground) (table : FactTable) (numbering : Numbering) (r : Result Classes E) → table.ground ≡ g → IfOk r (λ f. (f.table ≡ table) × (f.numbering ≡ numbering)) → IfOk r (λ f. (class_view f).part ≡ g)
told_kept g table numbering (Ok f) e h = ap (λ (t : FactTable). t.ground) h.0 ∙ e
told_kept g table numbering (Err x) e h = h

pub told_closed : {E : Type 0} (d : Disjunct) (cs : List Clause) (g : Ground) (graph : GroundGraph) (table : FactTable) (numbering : Numbering) (r : Result Classes E) → IsGround d cs g → IsGroundGraph d cs g graph → HasFactsOf g graph table → IfOk r (λ f. (f.table ≡ table) × (f.numbering ≡ numbering)) → IfOk r (λ f. HasFacts d cs (class_view f))
unfolding HasFactsOf
told_closed d cs g graph table numbering (Ok f) gr gg h e = subst (λ (t : FactTable). HasFacts d cs (table_view t)) (sym e.0) (h d cs gr gg)
told_closed d cs g graph table numbering (Err x) gr gg h e = e

pub told_numbered : {E : Type 0} (g part : Ground) (table : FactTable) (numbering : Numbering) (r : Result Classes E) → part ≡ g → IsNumbering part numbering → IfOk r (λ f. (f.table ≡ table) × (f.numbering ≡ numbering)) → IfOk r (λ f. IsNumbering g f.numbering)
told_numbered g part table numbering (Ok f) e n h = subst (λ (m : Numbering). IsNumbering g m) (sym h.1) (subst (λ (p : Ground). IsNumbering p numbering) e n)
told_numbered g part table numbering (Err x) e n h = h

-- a ground part is numbered by places
pub ground_numbered : (d : Disjunct) (cs : List Clause) (g part : Ground) → IsGround d cs g → part ≡ g → IsNumbered part
ground_numbered d cs g part gr e =
    let here : IsNumbered g = record { table = record { earlier = gr.earlier; distinct = gr.distinct_terms }; atoms_within = gr.atoms_within; equations_within = gr.equations_within; distinct_atoms = gr.distinct_atoms; distinct_equations = gr.distinct_equations } in
    subst (λ (p : Ground). IsNumbered p) (sym e) here

pub terms_within : (part : Ground) (numbering : Numbering) → IsNumbering part numbering → AreWithin (length part.terms) numbering.terms.items
terms_within part numbering n = slice_index-ordered (term_place_cmp part) (length part.terms) numbering.terms.items n.terms

pub atoms_within : (part : Ground) (numbering : Numbering) → IsNumbering part numbering → AreWithin (length part.atoms) numbering.atoms.items
atoms_within part numbering n = slice_index-ordered (atom_place_cmp part) (length part.atoms) numbering.atoms.items n.atoms

pub ruleset close_rules = (told_kept, told_numbered, ground_numbered, terms_within, atoms_within, state_from)
