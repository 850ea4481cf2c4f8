-- One term or atom more in the lists.
use Rattle.std.proofs.Common.{◌≡◌, ◌<◌, ◌+◌, ℕ, List, [], ◌∷◌, ◌++◌, refl, ap, sym, ◌∙◌, subst, arith, true, false, Bool}
use Rattle.std.specs.Prelude.{slice_get, slice_index, Option, Some, Result, Ok, Err, OnOk, nat_eq, ◌&&◌, if◌then◌else◌}
use Rattle.std.proofs.lemmas.Bool.{eqb-true, eq-eqb}
use Rattle.std.proofs.lemmas.List.{append-nil}
use Rattle.mz_logic.specs.Sym.{same_sym}
use Rattle.mz_ground.specs.declared.ground_atom.GroundAtom.{GroundAtom}
use Rattle.mz_ground.specs.FactSet.{FactView}
use Rattle.mz_congruence.specs.declared.fact_table.FactTable.{FactTable}
use Rattle.mz_congruence.specs.FactTable.{table_view}
use Rattle.mz_classes.specs.Numbers.{list_at}
use Rattle.mz_classes.specs.SymLists.{sym_list, HasPlaces, HasOneMore}
use Rattle.mz_classes.specs.Indexed.{has_label, has_sym, has_sign, HasOneAtomMore}
use Rattle.mz_classes.specs.declared.sym_lists.SymLists.{SymLists}

nat_eq_turned : (x y : ℕ) → nat_eq x y ≡ nat_eq y x
nat_eq_turned x y =
    let here : (b c : Bool) → nat_eq x y ≡ b → nat_eq y x ≡ c → b ≡ c
    = elim [
      | true ↦ elim [ true ↦ λ e f. refl | false ↦ λ e f. let g : nat_eq y x ≡ true = eq-eqb y x (sym (eqb-true x y e)) in cc ]
      | false ↦ elim [ true ↦ λ e f. let g : nat_eq x y ≡ true = eq-eqb x y (sym (eqb-true y x f)) in cc | false ↦ λ e f. refl ]
    ] in
    here (nat_eq x y) (nat_eq y x) refl refl

append-one_or_none : (b : Bool) (xs : List ℕ) (k : ℕ) → (if b then xs ++ k ∷ [] else xs) ≡ xs ++ (if b then k ∷ [] else [])
append-one_or_none true xs k = refl
append-one_or_none false xs k = sym (append-nil xs)

-- a term
term_listed : (f : FactTable) (places : List ℕ) (k number label : ℕ) (old new : List (List ℕ)) → number ≡ k → ((j : ℕ) → list_at new j ≡ (if nat_eq j (slice_index f.classes.items (slice_index places k)) then list_at old j ++ number ∷ [] else list_at old j)) → list_at new label ≡ list_at old label ++ (if has_label (table_view f) places label k then k ∷ [] else [])
term_listed f places k number label old new e h =
    let c : ℕ = slice_index f.classes.items (slice_index places k) in
    h label ∙ ap (λ (n : ℕ). if nat_eq label c then list_at old label ++ n ∷ [] else list_at old label) e ∙ ap (λ (b : Bool). if b then list_at old label ++ k ∷ [] else list_at old label) (nat_eq_turned label c) ∙ append-one_or_none (nat_eq c label) (list_at old label) k

pub told_term : {E : Type 0} (f : FactTable) (places : List ℕ) (k number label : ℕ) (old new : List (List ℕ)) (r : Result (Unit {0}) E) → number ≡ k → label ≡ slice_index f.classes.items (slice_index places k) → OnOk r ((j : ℕ) → list_at new j ≡ (if nat_eq j label then list_at old j ++ number ∷ [] else list_at old j)) → OnOk r ((j : ℕ) → list_at new j ≡ list_at old j ++ (if has_label (table_view f) places j k then k ∷ [] else []))
told_term f places k number label old new (Ok u) e c h = λ j. term_listed f places k number j old new e (subst (λ (l : ℕ). (i : ℕ) → list_at new i ≡ (if nat_eq i l then list_at old i ++ number ∷ [] else list_at old i)) c h)
told_term f places k number label old new (Err u) e c h = tt

pub ruleset term_rules = (told_term)

-- an atom
and_true : (a b : Bool) → b ≡ true → (a && b) ≡ a
and_true true b e = e
and_true false b e = refl

and_false : (a b : Bool) → b ≡ false → (a && b) ≡ false
and_false true b e = e
and_false false b e = refl

pub told_atom : {E : Type 0} (v : FactView) (places : List ℕ) (positive : Bool) (k number place : ℕ) (a : GroundAtom) (old new : SymLists) (r : Result (Unit {0}) E) → place ≡ slice_index places k → slice_get v.part.atoms place ≡ Some a → v.signed positive place ≡ true → number ≡ k → OnOk r (HasOneMore old a.sym number new) → OnOk r (HasOneAtomMore v places positive k old new)
told_atom v places positive k number place a old new (Ok u) pl at e n h = record {
  places = h.places;
  lists = λ s.
      let sign : has_sign v places s positive k ≡ same_sym a.sym s = ap (λ (j : ℕ). has_sym s (slice_get v.part.atoms j) && v.signed positive j) (sym pl) ∙ ap (λ (o : Option GroundAtom). has_sym s o && v.signed positive place) at ∙ and_true (same_sym a.sym s) (v.signed positive place) e in
      h.lists s ∙ ap (λ (m : ℕ). if same_sym a.sym s then sym_list old s ++ m ∷ [] else sym_list old s) n ∙ append-one_or_none (same_sym a.sym s) (sym_list old s) k ∙ ap (λ (b : Bool). sym_list old s ++ (if b then k ∷ [] else [])) (sym sign);
}
told_atom v places positive k number place a old new (Err u) pl at e n h = tt

pub told_no_atom : (v : FactView) (places : List ℕ) (positive : Bool) (k place : ℕ) (old : SymLists) → HasPlaces old → place ≡ slice_index places k → v.signed positive place ≡ false → HasOneAtomMore v places positive k old old
told_no_atom v places positive k place old h pl e = record {
  places = h;
  lists = λ s. sym (ap (λ (b : Bool). sym_list old s ++ (if b then k ∷ [] else [])) (ap (λ (j : ℕ). has_sym s (slice_get v.part.atoms j) && v.signed positive j) (sym pl) ∙ and_false (has_sym s (slice_get v.part.atoms place)) (v.signed positive place) e) ∙ append-nil (sym_list old s));
}

pub ruleset atom_rules = (told_atom, told_no_atom)
