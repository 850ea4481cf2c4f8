-- The readings of conjunctions.
use Rattle.std.specs.declared.alloc.Global.{Global}
use Rattle.std.proofs.Common.{◌≡◌, ℕ, suc, ◌-◌, ◌<◌, ◌≤◌, Bool, true, false, ◌||◌, ◌&&◌, List, [], ◌∷◌, ◌++◌, map, refl, sym, ap, subst, ◌∙◌, arith, None, Result, Box, Vec}
use Rattle.mz_base.specs.declared.place.Place.{Place}
use Rattle.mz_base.specs.declared.token.MarkedToken.{MarkedToken}
use Rattle.mz_forms.specs.declared.refusal.Refusal.{Refusal}
use Rattle.mz_forms.specs.Form.{Found, Leads, is_empty, nested}
use Rattle.mz_forms.specs.Reading.{Refuses, Builds}
use Rattle.mz_forms.specs.Chain.{spell_chain, levels_chain, AreLinked}
use Rattle.mz_forms.proofs.Choose.{Reshapes}
use Rattle.mz_forms.proofs.Descend.{passes_down}
use Rattle.mz_forms.proofs.Leads.{leads_as, leads_behind, leads_on, beside, passes, first_refuses, gives_through}
use Rattle.mz_tree.specs.declared.chain.Next.{Next}
use Rattle.mz_tree.specs.declared.nodes.ConjunctionNode.{ConjunctionNode}
use Rattle.mz_tree.specs.declared.nodes.UnitNode.{UnitNode}
use Rattle.mz_tree.specs.Trees.{UnitData, ConjunctionData, NextUnitList, AndNextUnit, ChainConjunction, no_next_units, more_next_units, next_units_of}
use Rattle.mz_tree.specs.Spell.{spell_unit, spell_next_unit_list}
use Rattle.mz_tree.specs.Levels.{levels_unit, levels_next_unit_list}
use Rattle.mz_tree.specs.Rules.{Operator, conjoins, disjoins, concludes, takes_unit, takes_conjunction, AreConjoined, IsConjunction}
use Rattle.mz_tree.specs.Views.{conjunction_of, next_unit_of}
use Rattle.mz_tree.proofs.Views.{conjunction_of-is}
use Rattle.mz_pterm.specs.declared.sign.Sign.{Sign}
use Rattle.mz_pterm.specs.declared.sign.Sign.TheVariants as signs
use Rattle.mz_pterm.specs.Sign.{sign_of}
use Rattle.mz_pterm.specs.Words.{fixed, TakesPlace}
use Rattle.mz_pterm.proofs.Signs.{sign_of-fixed, same_fixed}
use Rattle.mz_pterm.proofs.Loops.{map_push}
use Rattle.mz_patom.specs.Classes.{goes_open}
use Rattle.mz_patom.specs.Forms.{goes_unit, unit_form, unit_in}
use Rattle.mz_pformula.specs.Classes.{is_and, takes_sign, NotTaken}
use Rattle.mz_pformula.specs.Row.{last_goes, row}
use Rattle.mz_pformula.specs.Forms.{unit_takes, conjunction_takes, and_links, units_of, conjunction_with, conjunction_form, behind_unit, units_form, ReadsConjunction, ReadsRestOfConjunction}
use Rattle.mz_pformula.proofs.Row.{Rowed, Chained, chained_none, chained_step, chained_end, chain_ends, member_refused, refused_there, pair_apart}
use Rattle.mz_pformula.proofs.Operators.{both_ways, goes_weaker, and_goes, not_conjoined, ended}

pub rowed_and : (field : Bool) → Rowed (and_links field)
rowed_and field = record {
  told = λ p q e. same_fixed signs.And refl p q e;
  on = λ p. ap is_and (sign_of-fixed signs.And p refl);
  apart = λ u p is may g. both_ways (takes_unit conjoins u) may (sym (ap (goes_unit u) (sign_of-fixed signs.And p refl)) ∙ g);
}

-- The last unit of a conjunction says what it takes.
abbrev pub last_unit : UnitData → List (Place × UnitData) → UnitData
last_unit u [] = u
last_unit u (p ∷ ps) = last_unit p.1 ps

pub takes_last : (o : Operator) (u : UnitData) (ps : List (Place × UnitData)) → takes_conjunction o (conjunction_with u ps) ≡ takes_unit o (last_unit u ps)
takes_last o u [] = refl
takes_last o u (p ∷ ps) = takes_last o p.1 ps

pub last_pushed : (u : UnitData) (ps : List (Place × UnitData)) (p : Place) (v : UnitData) → last_unit u (ps ++ (p, v) ∷ []) ≡ v
last_pushed u [] p v = refl
last_pushed u (q ∷ ps) p v = last_pushed q.1 ps p v

pub last_unit_goes : (field : Bool) (u : UnitData) (ps : List (Place × UnitData)) (t : MarkedToken) → last_goes (and_links field) ps t ≡ true → goes_unit (last_unit u ps) (sign_of t) ≡ true
last_unit_goes field u [] t g = cc
last_unit_goes field u (p ∷ []) t g = g
last_unit_goes field u (p ∷ (q ∷ ps)) t g = last_unit_goes field p.1 (q ∷ ps) t g

unit_to_conjunction : (u : UnitData) (ps : List (Place × UnitData)) (o : Operator) → takes_unit o (last_unit u ps) ≡ true → conjunction_takes (conjunction_with u ps) o ≡ true
unit_to_conjunction u ps conjoins e = refl
unit_to_conjunction u ps disjoins e = takes_last disjoins u ps ∙ e
unit_to_conjunction u ps concludes e = takes_last concludes u ps ∙ e

units_goes : (field : Bool) (u : UnitData) (ps : List (Place × UnitData)) (t : MarkedToken) → (units_form field).goes (u, ps) t ≡ true → goes_open (conjunction_takes (conjunction_with u ps)) (sign_of t) ≡ true
units_goes field u ps t g = go (is_and (sign_of t)) (last_goes (and_links field) ps t) refl refl g
  where
    at_last : goes_unit (last_unit u ps) (sign_of t) ≡ true → goes_open (conjunction_takes (conjunction_with u ps)) (sign_of t) ≡ true
    at_last h = goes_weaker (unit_takes (last_unit u ps)) (conjunction_takes (conjunction_with u ps)) (unit_to_conjunction u ps) (sign_of t) h

    none : (qs : List (Place × UnitData)) → qs ≡ ps → (is_empty (spell_chain (and_links field) qs) && goes_unit u (sign_of t)) ≡ true → goes_unit (last_unit u ps) (sign_of t) ≡ true
    none [] e h = let G : List (Place × UnitData) → Type 0 = λ z. goes_unit (last_unit u z) (sign_of t) ≡ true in subst G e h
    none (q ∷ qs) e h = cc

    go : (a b : Bool) → is_and (sign_of t) ≡ a → last_goes (and_links field) ps t ≡ b → ((a || b) || (is_empty (spell_chain (and_links field) ps) && goes_unit u (sign_of t))) ≡ true → goes_open (conjunction_takes (conjunction_with u ps)) (sign_of t) ≡ true
    go true b e f h = and_goes (conjunction_takes (conjunction_with u ps)) refl (sign_of t) e
    go false true e f h = at_last (last_unit_goes field u ps t f)
    go false false e f h = at_last (none ps refl h)

-- A conjunction is a unit, and a chain of others.
units_spell : (field : Bool) (ps : List (Place × UnitData)) → spell_next_unit_list (units_of ps) ≡ spell_chain (and_links field) ps
units_spell field [] = refl
units_spell field (p ∷ ps) = ap (λ z. fixed signs.And p.0 ∷ (spell_unit p.1 ++ z)) (units_spell field ps)

units_levels : (field : Bool) (ps : List (Place × UnitData)) → levels_next_unit_list (units_of ps) ≡ levels_chain (and_links field) ps
units_levels field [] = refl
units_levels field (p ∷ ps) = ap (λ z. 0 ∷ map suc (levels_unit p.1 ++ z)) (units_levels field ps)

units_into : (field b : Bool) (ps : List (Place × UnitData)) → AreLinked (and_links field) b ps → AreConjoined field b (units_of ps)
units_into field b [] h = tt
units_into field b (p ∷ ps) h = (h.0, h.1, units_into field (takes_unit conjoins p.1) ps h.2)

only_units : (field b : Bool) (x : NextUnitList) → AreConjoined field b x → (ps : List (Place × UnitData)) × AreLinked (and_links field) b ps × (x ≡ units_of ps)
only_units field b no_next_units h = ([], tt, refl)
only_units field b (more_next_units (AndNextUnit p v) vs) h = let k = only_units field (takes_unit conjoins v) vs h.2 in ((p, v) ∷ k.0, (h.0, h.1, k.1), ap (λ z. more_next_units (AndNextUnit p v) z) k.2)

abbrev pub make_conjunction : (UnitData × List (Place × UnitData)) → ConjunctionData
make_conjunction k = conjunction_with k.0 k.1

pub only_conjunction : (field : Bool) (x : ConjunctionData) → IsConjunction field x → (k : (units_form field).Tree) × (units_form field).IsTree k × (x ≡ make_conjunction k)
only_conjunction field (ChainConjunction u us) is = let k = only_units field (takes_unit conjoins u) us is.1 in ((u, k.0), (is.0, k.1), ap (λ z. ChainConjunction u z) k.2)

pub as_conjunction : (field : Bool) (b : List MarkedToken) → Reshapes (conjunction_form field) (units_form field) make_conjunction b
as_conjunction field b = record {
  into = λ k is. (is.0, units_into field (takes_unit conjoins k.0) k.1 is.1);
  spells = λ k is. ap (λ z. spell_unit k.0 ++ z) (units_spell field k.1);
  only = λ x is agrees. only_conjunction field x is;
  goes = λ k t is g. units_goes field k.0 k.1 t g;
  level = λ k is. ap (λ z. levels_unit k.0 ++ z) (units_levels field k.1);
}

-- The loop: no operator comes next that the last unit would take.
pub record Units (field : Bool) (room left : ℕ) (u : UnitData) (so_far : List (Place × UnitData)) (b c : List MarkedToken) : Type 0 where
  pub chained : Chained (and_links field) (rowed_and field) room left (takes_unit conjoins u) (takes_unit conjoins (last_unit u so_far)) [] so_far b c
  pub quiet : NotTaken (unit_takes (last_unit u so_far)) c
  pub fits : left ≤ room

abbrev pub with_and : Next Place (Box UnitNode Global) → Place × UnitData
with_and n = (n.sign, unit_in n.tree)

pub units_none : (field : Bool) (room : ℕ) (u : UnitData) (v : List (Next Place (Box UnitNode Global))) (b : List MarkedToken) → v ≡ [] → NotTaken (unit_takes u) b → Units field room room u (map with_and v) b b
units_none field room u v b e h = let P : List (Next Place (Box UnitNode Global)) → Type 0 = λ z. Units field room room u (map with_and z) b b in subst P (sym e) (record {
  chained = chained_none (and_links field) (rowed_and field) room (takes_unit conjoins u) [] b;
  quiet = h;
  fits = omega arith;
})

units_grown : (field : Bool) (room left : ℕ) (u : UnitData) (ps : List (Place × UnitData)) (p : Place) (x : UnitData) (b c d e : List MarkedToken) → 0 < left → Units field room left u ps b c → c ≡ fixed signs.And p ∷ d → Found (unit_form field) (left - 1) d x e → NotTaken (unit_takes x) e → Units field room (left - 1) u (ps ++ (p, x) ∷ []) b e
units_grown field room left u ps p x b c d e more so_far is found quiet =
    let L : UnitData → Type 0 = λ z. Chained (and_links field) (rowed_and field) room (left - 1) (takes_unit conjoins u) (takes_unit conjoins z) [] (ps ++ (p, x) ∷ []) b e in
    let Q : UnitData → Type 0 = λ z. NotTaken (unit_takes z) e in
    record {
      chained = subst L (sym (last_pushed u ps p x)) (chained_step (and_links field) (rowed_and field) room left (left - 1) (takes_unit conjoins u) (takes_unit conjoins (last_unit u ps)) p x [] ps (ps ++ (p, x) ∷ []) b c d e so_far.chained refl (omega (arith, more)) (not_conjoined (unit_takes (last_unit u ps)) p c d is so_far.quiet) is found);
      quiet = subst Q (sym (last_pushed u ps p x)) quiet;
      fits = let f : left ≤ room = so_far.fits in omega (arith, f);
    }

pub units_step : (field : Bool) (room left : ℕ) (u : UnitData) (p : Place) (x : Box UnitNode Global) (v w : List (Next Place (Box UnitNode Global))) (b c d e : List MarkedToken) → 0 < left → Units field room left u (map with_and v) b c → w ≡ v ++ record { sign = p; tree = x } ∷ [] → c ≡ fixed signs.And p ∷ d →
    Found (unit_form field) (left - 1) d (unit_in x) e → NotTaken (unit_takes (unit_in x)) e → Units field room (left - 1) u (map with_and w) b e
units_step field room left u p x v w b c d e more so_far grown is found quiet =
    let P : List (Place × UnitData) → Type 0 = λ z. Units field room (left - 1) u z b e in
    subst P (sym (map_push with_and v w (record { sign = p; tree = x }) grown)) (units_grown field room left u (map with_and v) p (unit_in x) b c d e more so_far is found quiet)

pub unit_refused : (field : Bool) (room left : ℕ) (u : UnitData) (p : Place) (ps : List (Place × UnitData)) (b c d after : List MarkedToken) (r : Refusal) → 0 < left → Units field room left u ps b c → c ≡ fixed signs.And p ∷ d → Refuses (unit_form field) (left - 1) d r after → Refuses (behind_unit field u) room b r after
unit_refused field room left u p ps b c d after r more so is refused =
    let st = takes_unit conjoins (last_unit u ps) in
    passes_down (behind_unit field u) (row (and_links field) st) room left (λ qs. so.chained.taken ++ qs) b c after r so.chained.leads
    (member_refused (and_links field) (rowed_and field) st p left (left - 1) c d after r (omega (arith, more)) (not_conjoined (unit_takes (last_unit u ps)) p c d is so.quiet) is refused)

pub no_unit_room : (field : Bool) (room left : ℕ) (u : UnitData) (p : Place) (ps : List (Place × UnitData)) (b c d after : List MarkedToken) (r : Refusal) → left ≡ 0 → Units field room left u ps b c → c ≡ fixed signs.And p ∷ d → Refuses (nested (units_form field)) 0 d r after → Refuses (behind_unit field u) room b r after
no_unit_room field room left u p ps b c d after r none so is refused =
    let st = takes_unit conjoins (last_unit u ps) in
    let N : ℕ → Type 0 = λ n. Refuses (nested (units_form field)) n d r after in
    passes_down (behind_unit field u) (row (and_links field) st) room left (λ qs. so.chained.taken ++ qs) b c after r so.chained.leads
    (refused_there (and_links field) (rowed_and field) st p left c d after r (not_conjoined (unit_takes (last_unit u ps)) p c d is so.quiet) is (subst N (sym none) refused))

-- where no `&` comes next
quiet_end : (u : UnitData) (ps : List (Place × UnitData)) (x : Sign) → (x ≡ signs.And → ⊥) → takes_sign (conjunction_takes (conjunction_with u ps)) x ≡ true → takes_sign (unit_takes (last_unit u ps)) x ≡ true
quiet_end u ps signs.And n e = absurd (n refl)
quiet_end u ps signs.Or n e = sym (takes_last disjoins u ps) ∙ e
quiet_end u ps signs.Implies n e = sym (takes_last concludes u ps) ∙ e
quiet_end u ps signs.Iff n e = sym (takes_last concludes u ps) ∙ e
quiet_end u ps _ n e = e

units_seen : (ns : List (Next Place (Box UnitNode Global))) → units_of (map with_and ns) ≡ next_units_of (map next_unit_of ns)
units_seen [] = refl
units_seen (n ∷ ns) = ap (λ z. more_next_units (AndNextUnit n.sign (unit_in n.tree)) z) (units_seen ns)

-- the conjunction of these nodes
pub conjunction_seen : (first now : Box UnitNode Global) (v : Vec (Next Place (Box UnitNode Global)) Global) → now ≡ first → conjunction_of (record { first = now; more = v }) ≡ conjunction_with (unit_in first) (map with_and v.items)
conjunction_seen first now v same = conjunction_of-is (record { first = now; more = v }) ∙ (ap (λ z. ChainConjunction (unit_in z) (next_units_of (map next_unit_of v.items))) same ∙ ap (λ z. ChainConjunction (unit_in first) z) (sym (units_seen v.items)))

pub units_end : (field : Bool) (room left : ℕ) (first now : Box UnitNode Global) (v : Vec (Next Place (Box UnitNode Global)) Global) (b c after : List MarkedToken) → now ≡ first → Units field room left (unit_in first) (map with_and v.items) b c → TakesPlace signs.And c None after →
    Builds (behind_unit field (unit_in first)) room (conjunction_with (unit_in first)) (conjunction_of (record { first = now; more = v })) b after × NotTaken (conjunction_takes (conjunction_of (record { first = now; more = v }))) after
units_end field room left first now v b c after same so none =
    let u = unit_in first in
    let ps = map with_and v.items in
    let st = takes_unit conjoins (last_unit u ps) in
    let F : List MarkedToken → Type 0 = λ z. Found (row (and_links field) st) left c [] z in
    let seen = conjunction_seen first now v same in
    let k = chained_end (and_links field) (rowed_and field) room left (takes_unit conjoins u) st [] ps b c after so.chained (subst F none.0 (chain_ends (and_links field) (rowed_and field) st left c (λ p may agrees. none.1 p agrees))) in
    let N : ConjunctionData → Type 0 = λ z. NotTaken (conjunction_takes z) after in (
      (k.0, k.1, seen ∙ ap (conjunction_with u) k.2),
      subst N (sym seen) (ended signs.And refl (unit_takes (last_unit u ps)) (conjunction_takes (conjunction_with u ps)) (quiet_end u ps) c after so.quiet none),
    )

-- A conjunction from its first unit.
begin_conjunction : (field : Bool) (room : ℕ) (b : List MarkedToken) → Leads (conjunction_form field) (units_form field) room make_conjunction b b
begin_conjunction field room b = leads_as (conjunction_form field) (units_form field) make_conjunction room b (as_conjunction field b)

pub first_unit_refused : (field : Bool) (room : ℕ) (b after : List MarkedToken) (e : Refusal) → Refuses (unit_form field) room b e after → Refuses (conjunction_form field) room b e after
first_unit_refused field room b after e h = passes (conjunction_form field) (units_form field) room make_conjunction b b after e (begin_conjunction field room b)
    (first_refuses (unit_form field) (behind_unit field) (pair_apart (and_links field) (rowed_and field)) room b after e (λ a is. ([], tt)) h)

pub conjunction_from : (field : Bool) (room : ℕ) (u : UnitData) (b c after : List MarkedToken) (r : Result ConjunctionNode Refusal) → Found (unit_form field) room b u c → ReadsRestOfConjunction field room u c r after → ReadsConjunction field room b r after
conjunction_from field room u b c after r found given =
    let leads = leads_on (conjunction_form field) (units_form field) (behind_unit field u) room make_conjunction (beside (unit_form field) (behind_unit field) u) b b c (begin_conjunction field room b)
    (leads_behind (unit_form field) (behind_unit field) (pair_apart (and_links field) (rowed_and field)) room b c u found) in
    gives_through (conjunction_form field) (behind_unit field u) room (λ x. Found (conjunction_form field) room b (conjunction_of x) after × NotTaken (conjunction_takes (conjunction_of x)) after)
    (λ x. Builds (behind_unit field u) room (conjunction_with u) (conjunction_of x) c after × NotTaken (conjunction_takes (conjunction_of x)) after) (conjunction_with u) b c after r
    (λ x k. let F : ConjunctionData → Type 0 = λ z. Found (conjunction_form field) room b z after in (subst F (sym k.0.2) (leads.finds k.0.0 after k.0.1), k.1))
    leads given
