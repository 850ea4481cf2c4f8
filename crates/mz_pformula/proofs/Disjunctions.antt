-- The readings of disjunctions.
use Rattle.std.specs.declared.alloc.Global.{Global}
use Rattle.std.proofs.Common.{◌≡◌, ℕ, suc, ◌-◌, ◌<◌, ◌≤◌, Bool, true, false, ◌||◌, ◌&&◌, List, [], ◌∷◌, ◌++◌, map, refl, sym, ap, subst, ◌∙◌, arith, None, Result, Vec}
use Rattle.mz_base.specs.declared.place.Place.{Place}
use Rattle.mz_base.specs.declared.token.MarkedToken.{MarkedToken}
use Rattle.mz_forms.specs.declared.refusal.Refusal.{Refusal}
use Rattle.mz_forms.specs.Form.{Found, Leads, is_empty, nested}
use Rattle.mz_forms.specs.Reading.{Refuses, Builds}
use Rattle.mz_forms.specs.Chain.{spell_chain, levels_chain, AreLinked}
use Rattle.mz_forms.proofs.Choose.{Reshapes}
use Rattle.mz_forms.proofs.Descend.{passes_down}
use Rattle.mz_forms.proofs.Leads.{leads_as, leads_behind, leads_on, beside, passes, first_refuses, gives_through}
use Rattle.mz_tree.specs.declared.chain.Chain.{Chain}
use Rattle.mz_tree.specs.declared.chain.Next.{Next}
use Rattle.mz_tree.specs.declared.nodes.ConjunctionNode.{ConjunctionNode}
use Rattle.mz_tree.specs.Trees.{ConjunctionData, DisjunctionData, NextConjunctionList, OrNextConjunction, ChainDisjunction, no_next_conjunctions, more_next_conjunctions, next_conjunctions_of}
use Rattle.mz_tree.specs.Spell.{spell_conjunction, spell_next_conjunction_list}
use Rattle.mz_tree.specs.Levels.{levels_conjunction, levels_next_conjunction_list}
use Rattle.mz_tree.specs.Rules.{Operator, conjoins, disjoins, concludes, takes_conjunction, takes_disjunction, AreDisjoined, IsDisjunction}
use Rattle.mz_tree.specs.Views.{conjunction_of, disjunction_of, next_conjunction_of}
use Rattle.mz_pterm.specs.declared.sign.Sign.{Sign}
use Rattle.mz_pterm.specs.declared.sign.Sign.TheVariants as signs
use Rattle.mz_pterm.specs.Sign.{sign_of}
use Rattle.mz_pterm.specs.Words.{fixed, TakesPlace}
use Rattle.mz_pterm.proofs.Signs.{sign_of-fixed, same_fixed}
use Rattle.mz_pterm.proofs.Loops.{map_push}
use Rattle.mz_patom.specs.Classes.{goes_open}
use Rattle.mz_pformula.specs.Classes.{is_or, takes_sign, NotTaken}
use Rattle.mz_pformula.specs.Row.{last_goes, row}
use Rattle.mz_pformula.specs.Forms.{conjunction_takes, disjunction_takes, conjunction_form, or_links, conjunctions_of, disjunction_with, disjunction_form, behind_conjunction, conjunctions_form, ReadsDisjunction, ReadsRestOfDisjunction}
use Rattle.mz_pformula.proofs.Row.{Rowed, Chained, chained_none, chained_step, chained_end, chain_ends, member_refused, refused_there, pair_apart}
use Rattle.mz_pformula.proofs.Operators.{both_ways, goes_weaker, or_goes, not_disjoined, ended}

abbrev pub goes_conjunction : ConjunctionData → Sign → Bool
goes_conjunction c s = goes_open (conjunction_takes c) s

pub rowed_or : (field : Bool) → Rowed (or_links field)
rowed_or field = record {
  told = λ p q e. same_fixed signs.Or refl p q e;
  on = λ p. ap is_or (sign_of-fixed signs.Or p refl);
  apart = λ u p is may g. both_ways (takes_conjunction disjoins u) may (sym (ap (goes_conjunction u) (sign_of-fixed signs.Or p refl)) ∙ g);
}

-- The last conjunction of a disjunction says what it takes.
abbrev pub last_conjunction : ConjunctionData → List (Place × ConjunctionData) → ConjunctionData
last_conjunction u [] = u
last_conjunction u (p ∷ ps) = last_conjunction p.1 ps

pub takes_last : (o : Operator) (u : ConjunctionData) (ps : List (Place × ConjunctionData)) → takes_disjunction o (disjunction_with u ps) ≡ takes_conjunction o (last_conjunction u ps)
takes_last o u [] = refl
takes_last o u (p ∷ ps) = takes_last o p.1 ps

pub last_pushed : (u : ConjunctionData) (ps : List (Place × ConjunctionData)) (p : Place) (v : ConjunctionData) → last_conjunction u (ps ++ (p, v) ∷ []) ≡ v
last_pushed u [] p v = refl
last_pushed u (q ∷ ps) p v = last_pushed q.1 ps p v

pub last_conjunction_goes : (field : Bool) (u : ConjunctionData) (ps : List (Place × ConjunctionData)) (t : MarkedToken) → last_goes (or_links field) ps t ≡ true → goes_conjunction (last_conjunction u ps) (sign_of t) ≡ true
last_conjunction_goes field u [] t g = cc
last_conjunction_goes field u (p ∷ []) t g = g
last_conjunction_goes field u (p ∷ (q ∷ ps)) t g = last_conjunction_goes field p.1 (q ∷ ps) t g

conjunction_to_disjunction : (u : ConjunctionData) (ps : List (Place × ConjunctionData)) (o : Operator) → conjunction_takes (last_conjunction u ps) o ≡ true → disjunction_takes (disjunction_with u ps) o ≡ true
conjunction_to_disjunction u ps conjoins e = refl
conjunction_to_disjunction u ps disjoins e = refl
conjunction_to_disjunction u ps concludes e = takes_last concludes u ps ∙ e

conjunctions_goes : (field : Bool) (u : ConjunctionData) (ps : List (Place × ConjunctionData)) (t : MarkedToken) → (conjunctions_form field).goes (u, ps) t ≡ true → goes_open (disjunction_takes (disjunction_with u ps)) (sign_of t) ≡ true
conjunctions_goes field u ps t g = go (is_or (sign_of t)) (last_goes (or_links field) ps t) refl refl g
  where
    at_last : goes_conjunction (last_conjunction u ps) (sign_of t) ≡ true → goes_open (disjunction_takes (disjunction_with u ps)) (sign_of t) ≡ true
    at_last h = goes_weaker (conjunction_takes (last_conjunction u ps)) (disjunction_takes (disjunction_with u ps)) (conjunction_to_disjunction u ps) (sign_of t) h

    none : (qs : List (Place × ConjunctionData)) → qs ≡ ps → (is_empty (spell_chain (or_links field) qs) && goes_conjunction u (sign_of t)) ≡ true → goes_conjunction (last_conjunction u ps) (sign_of t) ≡ true
    none [] e h = let G : List (Place × ConjunctionData) → Type 0 = λ z. goes_conjunction (last_conjunction u z) (sign_of t) ≡ true in subst G e h
    none (q ∷ qs) e h = cc

    go : (a b : Bool) → is_or (sign_of t) ≡ a → last_goes (or_links field) ps t ≡ b → ((a || b) || (is_empty (spell_chain (or_links field) ps) && goes_conjunction u (sign_of t))) ≡ true → goes_open (disjunction_takes (disjunction_with u ps)) (sign_of t) ≡ true
    go true b e f h = or_goes (disjunction_takes (disjunction_with u ps)) refl (sign_of t) e
    go false true e f h = at_last (last_conjunction_goes field u ps t f)
    go false false e f h = at_last (none ps refl h)

-- A disjunction is a conjunction, and a chain of others.
conjunctions_spell : (field : Bool) (ps : List (Place × ConjunctionData)) → spell_next_conjunction_list (conjunctions_of ps) ≡ spell_chain (or_links field) ps
conjunctions_spell field [] = refl
conjunctions_spell field (p ∷ ps) = ap (λ z. fixed signs.Or p.0 ∷ (spell_conjunction p.1 ++ z)) (conjunctions_spell field ps)

conjunctions_levels : (field : Bool) (ps : List (Place × ConjunctionData)) → levels_next_conjunction_list (conjunctions_of ps) ≡ levels_chain (or_links field) ps
conjunctions_levels field [] = refl
conjunctions_levels field (p ∷ ps) = ap (λ z. 0 ∷ map suc (levels_conjunction p.1 ++ z)) (conjunctions_levels field ps)

conjunctions_into : (field b : Bool) (ps : List (Place × ConjunctionData)) → AreLinked (or_links field) b ps → AreDisjoined field b (conjunctions_of ps)
conjunctions_into field b [] h = tt
conjunctions_into field b (p ∷ ps) h = (h.0, h.1, conjunctions_into field (takes_conjunction disjoins p.1) ps h.2)

only_conjunctions : (field b : Bool) (x : NextConjunctionList) → AreDisjoined field b x → (ps : List (Place × ConjunctionData)) × AreLinked (or_links field) b ps × (x ≡ conjunctions_of ps)
only_conjunctions field b no_next_conjunctions h = ([], tt, refl)
only_conjunctions field b (more_next_conjunctions (OrNextConjunction p v) vs) h = let k = only_conjunctions field (takes_conjunction disjoins v) vs h.2 in ((p, v) ∷ k.0, (h.0, h.1, k.1), ap (λ z. more_next_conjunctions (OrNextConjunction p v) z) k.2)

abbrev pub make_disjunction : (ConjunctionData × List (Place × ConjunctionData)) → DisjunctionData
make_disjunction k = disjunction_with k.0 k.1

pub only_disjunction : (field : Bool) (x : DisjunctionData) → IsDisjunction field x → (k : (conjunctions_form field).Tree) × (conjunctions_form field).IsTree k × (x ≡ make_disjunction k)
only_disjunction field (ChainDisjunction u us) is = let k = only_conjunctions field (takes_conjunction disjoins u) us is.1 in ((u, k.0), (is.0, k.1), ap (λ z. ChainDisjunction u z) k.2)

pub as_disjunction : (field : Bool) (b : List MarkedToken) → Reshapes (disjunction_form field) (conjunctions_form field) make_disjunction b
as_disjunction field b = record {
  into = λ k is. (is.0, conjunctions_into field (takes_conjunction disjoins k.0) k.1 is.1);
  spells = λ k is. ap (λ z. spell_conjunction k.0 ++ z) (conjunctions_spell field k.1);
  only = λ x is agrees. only_disjunction field x is;
  goes = λ k t is g. conjunctions_goes field k.0 k.1 t g;
  level = λ k is. ap (λ z. levels_conjunction k.0 ++ z) (conjunctions_levels field k.1);
}

-- The loop: no operator comes next that the last conjunction would take.
pub record Conjoined (field : Bool) (room left : ℕ) (u : ConjunctionData) (so_far : List (Place × ConjunctionData)) (b c : List MarkedToken) : Type 0 where
  pub chained : Chained (or_links field) (rowed_or field) room left (takes_conjunction disjoins u) (takes_conjunction disjoins (last_conjunction u so_far)) [] so_far b c
  pub quiet : NotTaken (conjunction_takes (last_conjunction u so_far)) c
  pub fits : left ≤ room

abbrev pub with_or : Next Place ConjunctionNode → Place × ConjunctionData
with_or n = (n.sign, conjunction_of n.tree)

pub conjunctions_none : (field : Bool) (room : ℕ) (u : ConjunctionData) (v : List (Next Place ConjunctionNode)) (b : List MarkedToken) → v ≡ [] → NotTaken (conjunction_takes u) b → Conjoined field room room u (map with_or v) b b
conjunctions_none field room u v b e h = let P : List (Next Place ConjunctionNode) → Type 0 = λ z. Conjoined field room room u (map with_or z) b b in subst P (sym e) (record {
  chained = chained_none (or_links field) (rowed_or field) room (takes_conjunction disjoins u) [] b;
  quiet = h;
  fits = omega arith;
})

conjunctions_grown : (field : Bool) (room left : ℕ) (u : ConjunctionData) (ps : List (Place × ConjunctionData)) (p : Place) (x : ConjunctionData) (b c d e : List MarkedToken) → 0 < left → Conjoined field room left u ps b c → c ≡ fixed signs.Or p ∷ d → Found (conjunction_form field) (left - 1) d x e → NotTaken (conjunction_takes x) e → Conjoined field room (left - 1) u (ps ++ (p, x) ∷ []) b e
conjunctions_grown field room left u ps p x b c d e more so_far is found quiet =
    let L : ConjunctionData → Type 0 = λ z. Chained (or_links field) (rowed_or field) room (left - 1) (takes_conjunction disjoins u) (takes_conjunction disjoins z) [] (ps ++ (p, x) ∷ []) b e in
    let Q : ConjunctionData → Type 0 = λ z. NotTaken (conjunction_takes z) e in
    record {
      chained = subst L (sym (last_pushed u ps p x)) (chained_step (or_links field) (rowed_or field) room left (left - 1) (takes_conjunction disjoins u) (takes_conjunction disjoins (last_conjunction u ps)) p x [] ps (ps ++ (p, x) ∷ []) b c d e so_far.chained refl (omega (arith, more)) (not_disjoined (conjunction_takes (last_conjunction u ps)) p c d is so_far.quiet) is found);
      quiet = subst Q (sym (last_pushed u ps p x)) quiet;
      fits = let f : left ≤ room = so_far.fits in omega (arith, f);
    }

pub conjunctions_step : (field : Bool) (room left : ℕ) (u : ConjunctionData) (p : Place) (x : ConjunctionNode) (v w : List (Next Place ConjunctionNode)) (b c d e : List MarkedToken) → 0 < left → Conjoined field room left u (map with_or v) b c → w ≡ v ++ record { sign = p; tree = x } ∷ [] → c ≡ fixed signs.Or p ∷ d →
    Found (conjunction_form field) (left - 1) d (conjunction_of x) e → NotTaken (conjunction_takes (conjunction_of x)) e → Conjoined field room (left - 1) u (map with_or w) b e
conjunctions_step field room left u p x v w b c d e more so_far grown is found quiet =
    let P : List (Place × ConjunctionData) → Type 0 = λ z. Conjoined field room (left - 1) u z b e in
    subst P (sym (map_push with_or v w (record { sign = p; tree = x }) grown)) (conjunctions_grown field room left u (map with_or v) p (conjunction_of x) b c d e more so_far is found quiet)

pub conjunction_refused : (field : Bool) (room left : ℕ) (u : ConjunctionData) (p : Place) (ps : List (Place × ConjunctionData)) (b c d after : List MarkedToken) (r : Refusal) → 0 < left → Conjoined field room left u ps b c → c ≡ fixed signs.Or p ∷ d → Refuses (conjunction_form field) (left - 1) d r after → Refuses (behind_conjunction field u) room b r after
conjunction_refused field room left u p ps b c d after r more so is refused =
    let st = takes_conjunction disjoins (last_conjunction u ps) in
    passes_down (behind_conjunction field u) (row (or_links field) st) room left (λ qs. so.chained.taken ++ qs) b c after r so.chained.leads
    (member_refused (or_links field) (rowed_or field) st p left (left - 1) c d after r (omega (arith, more)) (not_disjoined (conjunction_takes (last_conjunction u ps)) p c d is so.quiet) is refused)

pub no_conjunction_room : (field : Bool) (room left : ℕ) (u : ConjunctionData) (p : Place) (ps : List (Place × ConjunctionData)) (b c d after : List MarkedToken) (r : Refusal) → left ≡ 0 → Conjoined field room left u ps b c → c ≡ fixed signs.Or p ∷ d → Refuses (nested (conjunctions_form field)) 0 d r after → Refuses (behind_conjunction field u) room b r after
no_conjunction_room field room left u p ps b c d after r none so is refused =
    let st = takes_conjunction disjoins (last_conjunction u ps) in
    let N : ℕ → Type 0 = λ n. Refuses (nested (conjunctions_form field)) n d r after in
    passes_down (behind_conjunction field u) (row (or_links field) st) room left (λ qs. so.chained.taken ++ qs) b c after r so.chained.leads
    (refused_there (or_links field) (rowed_or field) st p left c d after r (not_disjoined (conjunction_takes (last_conjunction u ps)) p c d is so.quiet) is (subst N (sym none) refused))

-- where no `or` comes next
quiet_end : (u : ConjunctionData) (ps : List (Place × ConjunctionData)) (x : Sign) → (x ≡ signs.Or → ⊥) → takes_sign (disjunction_takes (disjunction_with u ps)) x ≡ true → takes_sign (conjunction_takes (last_conjunction u ps)) x ≡ true
quiet_end u ps signs.Or n e = absurd (n refl)
quiet_end u ps signs.And n e = refl
quiet_end u ps signs.Implies n e = sym (takes_last concludes u ps) ∙ e
quiet_end u ps signs.Iff n e = sym (takes_last concludes u ps) ∙ e
quiet_end u ps _ n e = e

conjunctions_seen : (ns : List (Next Place ConjunctionNode)) → conjunctions_of (map with_or ns) ≡ next_conjunctions_of (map next_conjunction_of ns)
conjunctions_seen [] = refl
conjunctions_seen (n ∷ ns) = ap (λ z. more_next_conjunctions (OrNextConjunction n.sign (conjunction_of n.tree)) z) (conjunctions_seen ns)

-- the disjunction of these nodes
pub disjunction_seen : (first now : ConjunctionNode) (v : Vec (Next Place ConjunctionNode) Global) → now ≡ first → disjunction_of (record { first = now; more = v }) ≡ disjunction_with (conjunction_of first) (map with_or v.items)
disjunction_seen first now v same = (ap (λ z. ChainDisjunction (conjunction_of z) (next_conjunctions_of (map next_conjunction_of v.items))) same ∙ ap (λ z. ChainDisjunction (conjunction_of first) z) (sym (conjunctions_seen v.items)))

pub conjunctions_end : (field : Bool) (room left : ℕ) (first now : ConjunctionNode) (v : Vec (Next Place ConjunctionNode) Global) (b c after : List MarkedToken) → now ≡ first → Conjoined field room left (conjunction_of first) (map with_or v.items) b c → TakesPlace signs.Or c None after →
    Builds (behind_conjunction field (conjunction_of first)) room (disjunction_with (conjunction_of first)) (disjunction_of (record { first = now; more = v })) b after × NotTaken (disjunction_takes (disjunction_of (record { first = now; more = v }))) after
conjunctions_end field room left first now v b c after same so none =
    let u = conjunction_of first in
    let ps = map with_or v.items in
    let st = takes_conjunction disjoins (last_conjunction u ps) in
    let F : List MarkedToken → Type 0 = λ z. Found (row (or_links field) st) left c [] z in
    let seen = disjunction_seen first now v same in
    let k = chained_end (or_links field) (rowed_or field) room left (takes_conjunction disjoins u) st [] ps b c after so.chained (subst F none.0 (chain_ends (or_links field) (rowed_or field) st left c (λ p may agrees. none.1 p agrees))) in
    let N : DisjunctionData → Type 0 = λ z. NotTaken (disjunction_takes z) after in (
      (k.0, k.1, seen ∙ ap (disjunction_with u) k.2),
      subst N (sym seen) (ended signs.Or refl (conjunction_takes (last_conjunction u ps)) (disjunction_takes (disjunction_with u ps)) (quiet_end u ps) c after so.quiet none),
    )

-- A disjunction from its first conjunction.
begin_disjunction : (field : Bool) (room : ℕ) (b : List MarkedToken) → Leads (disjunction_form field) (conjunctions_form field) room make_disjunction b b
begin_disjunction field room b = leads_as (disjunction_form field) (conjunctions_form field) make_disjunction room b (as_disjunction field b)

pub first_conjunction_refused : (field : Bool) (room : ℕ) (b after : List MarkedToken) (e : Refusal) → Refuses (conjunction_form field) room b e after → Refuses (disjunction_form field) room b e after
first_conjunction_refused field room b after e h = passes (disjunction_form field) (conjunctions_form field) room make_disjunction b b after e (begin_disjunction field room b)
    (first_refuses (conjunction_form field) (behind_conjunction field) (pair_apart (or_links field) (rowed_or field)) room b after e (λ a is. ([], tt)) h)

pub disjunction_from : (field : Bool) (room : ℕ) (u : ConjunctionData) (b c after : List MarkedToken) (r : Result (Chain Place ConjunctionNode) Refusal) → Found (conjunction_form field) room b u c → ReadsRestOfDisjunction field room u c r after → ReadsDisjunction field room b r after
disjunction_from field room u b c after r found given =
    let leads = leads_on (disjunction_form field) (conjunctions_form field) (behind_conjunction field u) room make_disjunction (beside (conjunction_form field) (behind_conjunction field) u) b b c (begin_disjunction field room b)
    (leads_behind (conjunction_form field) (behind_conjunction field) (pair_apart (or_links field) (rowed_or field)) room b c u found) in
    gives_through (disjunction_form field) (behind_conjunction field u) room (λ x. Found (disjunction_form field) room b (disjunction_of x) after × NotTaken (disjunction_takes (disjunction_of x)) after)
    (λ x. Builds (behind_conjunction field u) room (disjunction_with u) (disjunction_of x) c after × NotTaken (disjunction_takes (disjunction_of x)) after) (disjunction_with u) b c after r
    (λ x k. let F : DisjunctionData → Type 0 = λ z. Found (disjunction_form field) room b z after in (subst F (sym k.0.2) (leads.finds k.0.0 after k.0.1), k.1))
    leads given
