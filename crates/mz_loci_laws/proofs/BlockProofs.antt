-- Blocks and their loci.
use Rattle.std.proofs.Common.{◌≡◌, ◌≤◌, ◌+◌, ◌-◌, inr, ℕ, zero, suc, true, List, [], ◌∷◌, ◌++◌, map, length, length-append, append_assoc, append-nil, take, drop, refl, sym, ap, ◌∙◌, subst, arith, Option, Some, None}
use Rattle.std.specs.Prelude.{Result, Ok, Err}
use Rattle.std.proofs.Math.Seq.{drop-append_seam}
use Rattle.std.proofs.lemmas.Bool.{and_from}
use Rattle.mz_core.specs.Closed.{loci_under, type_under}
use Rattle.mz_core.specs.Statement.{Statement}
use Rattle.mz_core.specs.declared.item.Item.{Item}
use Rattle.mz_core.specs.declared.outcome.Left.{Left}
use Rattle.mz_closed_laws.specs.ClosedEnvironment.{IsClosedEnvironment}
use Rattle.mz_context.specs.Changes.{with_constant}
use Rattle.mz_context.specs.Context.{next}
use Rattle.mz_context.specs.declared.constants.Constant.{Constant}
use Rattle.mz_context.specs.declared.context.Context.{Context}
use Rattle.mz_choice_laws.proofs.KnownValues.{type_known-where, statement_known-where}
use Rattle.mz_let.specs.Lets.{Lets, not_declared, declared, with_loci}
use Rattle.mz_standing_laws.specs.Laws.{IsLevel}
use Rattle.mz_standing_laws.proofs.HeadingProofs.{reading_law}
use Rattle.mz_loci.specs.Loci.{loci_from, type_of_locus, type_over_loci, statement_over_loci, types_behind, locus_types, behind_loci}
use Rattle.mz_names.specs.Closing.{constant_of, with_variables}
use Rattle.mz_names.specs.declared.variable.Variable.{Variable}
use Rattle.mz_names.proofs.ClosingLemmas.{with_variables-append}
use Rattle.mz_obligations.specs.declared.obligation.Obligation.{Obligation}
use Rattle.mz_reading_laws.proofs.CallProofs.{formula_call_law}
use Rattle.mz_standing.specs.Standing.{with_left, with_context, with_item, behind_heading}
use Rattle.mz_standing.specs.declared.standing.Standing.{Standing}
use Rattle.mz_standing_laws.specs.Owed.{IsOwed}
use Rattle.mz_standing_laws.specs.Soundly.{Setting, axioms_at, StandsSoundly, SaysNoMore}
use Rattle.mz_standing_laws.proofs.HeadingProofs as heading
use Rattle.mz_standing_laws.proofs.ItemProofs.{context_law, left_law}
use Rattle.mz_taken.specs.Taken.{Taken, Made, Refused}
use Rattle.mz_term_laws.specs.Usable.{is_usable, type_usable, statement_usable}
use Rattle.mz_term_laws.specs.Whole.{IsWhole}
use Rattle.mz_term_laws.specs.ChangeLaws.{AreUsable}
use Rattle.mz_term_laws.proofs.ChangeProofs.{variables_law, usable_append, whole_from_law}
use Rattle.mz_term_laws.proofs.UsableProofs.{next_further}
use Rattle.mz_tree_part.specs.declared.notation.BlockLetTree.{BlockLetTree}
use Rattle.mz_loci_laws.specs.Block.{StandsInBlock}
use Rattle.mz_loci_laws.specs.Laws.{BlockLaw, LetLaw, HeadingLaw, EndLaw, TypesLaw, FormulaLaw}
use Rattle.mz_loci_laws.proofs.OverProofs.{between, type_under_loci, statement_under_loci}
use Rattle.mz_loci_laws.proofs.DeclaredProofs.{UsableSo, declarations_usable}

-- the constants of variables

abbrev pub place_of : Variable → Option Constant
place_of v = Some (constant_of v)

abbrev with_places : Context → List (Option Constant) → Context
with_places c ks = record c { constants = c.constants ++ ks }

with_variables-places : (c : Context) (vs : List Variable) → with_variables c vs ≡ with_places c (map place_of vs)
with_variables-places c [] = ap (λ ks. record c { constants = ks }) (sym (append-nil c.constants))
with_variables-places c (v ∷ vs) =
    with_variables-places (with_constant c (constant_of v)) vs ∙ ap (λ ks. record c { constants = ks }) (append_assoc c.constants (place_of v ∷ []) (map place_of vs))

pub next-variables : (c : Context) (vs : List Variable) → next (with_variables c vs) ≡ next c + length vs
next-variables c [] = omega arith
next-variables c (v ∷ vs) =
    let e : next (with_variables (with_constant c (constant_of v)) vs) ≡ next (with_constant c (constant_of v)) + length vs = next-variables (with_constant c (constant_of v)) vs in
    let f : next (with_constant c (constant_of v)) ≡ suc (next c) = next_further c (constant_of v) in
    omega (arith, e, f)

pub length-places : (vs : List Variable) → length (map place_of vs) ≡ length vs
length-places [] = refl
length-places (v ∷ vs) = ap suc (length-places vs)

-- how many places there were at the block's word
places_so : (c : Context) (least : ℕ) → next c ≡ least → least - 1 ≡ length c.constants
places_so c least e = let f : next c ≡ suc (length c.constants) = refl in omega (arith, e, f)

take_first : (xs ys : List (Option Constant)) → take (length xs) (xs ++ ys) ≡ xs
take_first [] [] = refl
take_first [] (y ∷ ys) = refl
take_first (x ∷ xs) ys = ap (λ zs. x ∷ zs) (take_first xs ys)

loci-variables : (c : Context) (least : ℕ) (vs : List Variable) → next c ≡ least → loci_from least (with_variables c vs).constants ≡ map place_of vs
loci-variables c least vs e =
    ap (λ (d : Context). loci_from least d.constants) (with_variables-places c vs) ∙
    ap (λ n. drop n (c.constants ++ map place_of vs)) (places_so c least e) ∙ drop-append_seam c.constants (map place_of vs)

pub loci_there : (g : Setting) (least : ℕ) (s : Standing) (b : StandsInBlock g least s) → loci_from least s.context.constants ≡ map place_of b.loci
loci_there g least s b = ap (λ (d : Context). loci_from least d.constants) b.here ∙ loci-variables b.outside least b.loci b.first

pub count_there : (g : Setting) (least : ℕ) (s : Standing) (b : StandsInBlock g least s) → length (loci_from least s.context.constants) ≡ length b.loci
count_there g least s b = ap length (loci_there g least s b) ∙ length-places b.loci

-- the context of a block is whole

whole_outside : (g : Setting) (least : ℕ) (s : Standing) (c : Context) → StandsSoundly g (with_context s c) → next c ≡ least → IsWhole least c
whole_outside g least s c sound e = whole_from_law least c sound.level.is_whole (omega (arith, e)) sound.no_thesis sound.level.no_it sound.level.no_arguments sound.level.no_subject

pub whole_there : (g : Setting) (least : ℕ) (s : Standing) → StandsInBlock g least s → IsWhole least s.context
whole_there g least s b = subst (IsWhole least) (sym b.here) (variables_law least b.outside b.loci (whole_outside g least s b.outside b.sound b.first) b.usable)

pub closed_there : (g : Setting) (least : ℕ) (s : Standing) → StandsInBlock g least s → IsClosedEnvironment s.environment
closed_there g least s b = b.sound.closed_so

-- blocks

pub block_law : BlockLaw
block_law g s sound = record { outside = s.context; loci = []; sound = sound; first = refl; here = refl; usable = tt }

abbrev InBlockSo : Setting → ℕ → Taken Standing → Type 0
InBlockSo g least (Made os u) = StandsInBlock g least u
InBlockSo g least (Refused r) = Unit {0}

let_so : (g : Setting) (least : ℕ) (s : Standing) (t : BlockLetTree) (o : Taken Standing) → StandsInBlock g least s → Lets least s t o → InBlockSo g least o
let_so g least s t o b (not_declared r after h) = tt
let_so g least s t o b (declared vs after h) =
    let usable : AreUsable least s.context vs = declarations_usable s.environment s.context least (closed_there g least s b) (whole_there g least s b) s.left t.declarations (Ok vs) after h in
    record {
      outside = b.outside;
      loci = b.loci ++ vs;
      sound = left_law g (with_context s b.outside) after b.sound;
      first = b.first;
      here = ap (λ (c : Context). with_variables c vs) b.here ∙ sym (with_variables-append b.outside b.loci vs);
      usable = usable_append least b.outside b.loci vs b.usable (subst (λ (c : Context). AreUsable least c vs) b.here usable);
    }

pub let_law : LetLaw
let_law g least s u t os b h = let_so g least s t (Made os u) b h

heading-variables : (c : Context) (x : Item) (label : List ℕ) (vs : List Variable) → behind_heading (with_variables c vs) x label ≡ with_variables (behind_heading c x label) vs
heading-variables c x label [] = refl
heading-variables c x label (v ∷ vs) = heading-variables (with_constant c (constant_of v)) x label vs

heading_usable : (least : ℕ) (c : Context) (x : Item) (label : List ℕ) (vs : List Variable) → AreUsable least c vs → AreUsable least (behind_heading c x label) vs
heading_usable least c x label [] u = tt
heading_usable least c x label (v ∷ vs) u = (u.0, heading_usable least (with_constant c (constant_of v)) x label vs u.1)

pub heading_law : HeadingLaw
heading_law g least s x label left b owed = record {
  outside = behind_heading b.outside x label;
  loci = b.loci;
  sound = left_law g (with_context (with_item s x) (behind_heading b.outside x label)) left (heading.heading_law g (with_context s b.outside) x label b.sound owed);
  first = b.first;
  here = ap (λ (c : Context). behind_heading c x label) b.here ∙ heading-variables b.outside x label b.loci;
  usable = heading_usable least b.outside x label b.loci b.usable;
}

behind-places : (c : Context) (least : ℕ) (ks : List (Option Constant)) → next c ≡ least → behind_loci (with_places c ks) least ≡ record c { previous = None }
behind-places c least ks e = ap (λ js. record c { constants = js; previous = None }) (ap (λ n. take n (c.constants ++ ks)) (places_so c least e) ∙ take_first c.constants ks)

pub end_law : EndLaw
end_law g least s b =
    let c : Context = b.outside in
    let is : behind_loci s.context least ≡ record c { previous = None } =
    ap (λ (d : Context). behind_loci d least) (b.here ∙ with_variables-places c b.loci) ∙ behind-places c least (map place_of b.loci) b.first in
    let sound : StandsSoundly g (with_context s (record c { previous = None })) =
    context_law g (with_context s c) (record c { previous = None }) b.sound (record { constants = refl; letters = refl; named = refl; previous = inr refl })
    ((reading_law s.environment b.sound.closed_so).unlinked c b.sound.level) b.sound.no_thesis in
    subst (λ (d : Context). StandsSoundly g (with_context s d)) (sym is) sound

-- loci

usable_between : (least : ℕ) (c : Context) (n : ℕ) → is_usable least c n ≡ true → between least (next c) n ≡ true
usable_between least c n h = h

types_so : (least j : ℕ) (c : Context) (vs : List Variable) → next c ≡ least + j → AreUsable least c vs → loci_under j (types_behind least j (map place_of vs)) ≡ true
types_so least j c [] e u = refl
types_so least j c (v ∷ vs) e u =
    let there : next (with_constant c (constant_of v)) ≡ least + suc j = let f : next (with_constant c (constant_of v)) ≡ suc (next c) = next_further c (constant_of v) in omega (arith, e, f) in
    let one : suc j ≡ j + 1 = omega arith in
    and_from (type_under j (type_over_loci least j v.ty)) (loci_under (j + 1) (types_behind least (suc j) (map place_of vs)))
    (type_under_loci least (next c) j v.ty e (type_known-where (is_usable least c) (between least (next c)) (usable_between least c) 0 v.ty u.0))
    (subst (λ n. loci_under n (types_behind least (suc j) (map place_of vs)) ≡ true) one (types_so least (suc j) (with_constant c (constant_of v)) vs there u.1))

pub types_law : TypesLaw
types_law g least s b =
    let start : next b.outside ≡ least + 0 = let e : next b.outside ≡ least = b.first in omega (arith, e) in
    subst (λ ks. loci_under 0 (types_behind least 0 ks) ≡ true) (sym (loci_there g least s b)) (types_so least 0 b.outside b.loci start b.usable)

pub formula_law : FormulaLaw
formula_law g least s f d after b read =
    let k : ℕ = length (loci_from least s.context.constants) in
    let usable : statement_usable least s.context d ≡ true = formula_call_law s.environment s.context least least (closed_there g least s b) (whole_there g least s b) (omega arith) s.left after f d read in
    let there : next s.context ≡ least + k =
    let a : next s.context ≡ next b.outside + length b.loci = ap next b.here ∙ next-variables b.outside b.loci in
    let e : next b.outside ≡ least = b.first in
    let n : k ≡ length b.loci = count_there g least s b in
    omega (arith, a, e, n) in
    statement_under_loci least (next s.context) k d there (statement_known-where (is_usable least s.context) (between least (next s.context)) (usable_between least s.context) 0 d usable)
