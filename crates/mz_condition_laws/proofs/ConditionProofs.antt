-- Conditions behind a heading derive for all loci.
use Rattle.std.proofs.Common.{◌≡◌, ◌+◌, ℕ, zero, suc, Bool, true, false, List, [], ◌∷◌, ◌++◌, map, length, refl, sym, ap, ◌∙◌, subst, arith, Option, None, Some}
use Rattle.std.specs.Prelude.{not, is_some, flat_map, cond, if◌then◌else◌}
use Rattle.std.specs.List.{filter, list_all, list_any}
use Rattle.std.proofs.lemmas.Bool.{eqb-true}
use Rattle.std.proofs.lemmas.List.Elements.{Contains-append_left, Contains-append_right}
use Rattle.mz_logic.specs.Formula.{Formula}
use Rattle.mz_logic.specs.Derives.{Derives}
use Rattle.mz_logic.proofs.Each.{Along, along_left, along_right}
use Rattle.mz_core.specs.Closed.{term_under, statement_under, loci_under}
use Rattle.mz_core.specs.Erasure.{erase}
use Rattle.mz_core.specs.Parts.{conjunction_to, conjunction}
use Rattle.mz_core.specs.Statement.{Statement, And}
use Rattle.mz_core.specs.declared.item.Item.{Item}
use Rattle.mz_core.specs.declared.outcome.Left.{Left}
use Rattle.mz_core.specs.declared.soft_type.SoftType.{SoftType}
use Rattle.mz_core.proofs.AllLemmas.{all-append, all-alone, conjunction_all}
use Rattle.mz_ground.specs.Table.{Extends}
use Rattle.mz_ground.specs.declared.clause.Clause.{Clause}
use Rattle.mz_items.specs.Conditions.{condition_number}
use Rattle.mz_items.specs.Items.{thesis_of, conditions}
use Rattle.mz_items.specs.Loci.{over}
use Rattle.mz_items.specs.declared.condition.Condition.{Condition}
use Rattle.mz_items.specs.declared.condition.Condition.TheVariants.{Existence, Uniqueness, Coherence, Compatibility, Consistency, Reducibility}
use Rattle.mz_items.proofs.RowLemmas.{over_under}
use Rattle.mz_context.specs.Context.{next}
use Rattle.mz_context.specs.declared.constants.Constant.{Constant}
use Rattle.mz_context.specs.declared.context.Context.{Context}
use Rattle.mz_names.specs.Closing.{with_variables, for_all}
use Rattle.mz_names.specs.declared.variable.Variable.{Variable}
use Rattle.mz_loci.specs.Loci.{types_behind, locus_types, statement_at_loci}
use Rattle.mz_closing_laws.specs.Laws.{loci_of}
use Rattle.mz_closing_laws.proofs.ClosingProofs.{closing_law}
use Rattle.mz_obligations.specs.declared.obligation.Obligation.{Obligation}
use Rattle.mz_owed.specs.Owed.{named, is_owed, at_first, is_condition, is_other, all_or_none, covered_by, covered, written_by, written, first_of, missing, listed, thesis_list, joint_thesis}
use Rattle.mz_owed.specs.declared.owed.Owed.{Owed}
use Rattle.mz_conditions.specs.Conditions as rule
use Rattle.mz_conditions.specs.Conditions.{Asked, plain_sentence, behind_judged, TakesCondition}
use Rattle.mz_block_laws.specs.Orders.{AllStand}
use Rattle.mz_steps_laws.specs.StepLaws.{guards_of}
use Rattle.mz_standing.specs.Standing.{extent_of}
use Rattle.mz_standing.specs.declared.standing.Standing.{Standing}
use Rattle.mz_standing_laws.specs.Soundly.{Setting, axioms_at, AreDecided, StandsSoundly}
use Rattle.mz_standing_laws.proofs.HeadingProofs.{condition_law}
use Rattle.mz_taken.specs.Taken.{Taken, Made, Refused, behind}
use Rattle.mz_taken.specs.OneByOne.{OneByOne, none_left, one_refused, one_taken}
use Rattle.mz_term_laws.specs.ChangeLaws.{AreUsable}
use Rattle.mz_tree_item.specs.declared.definition.ConditionTree.{ConditionTree}
use Rattle.mz_walk.specs.Walked as walked
use Rattle.mz_walk.specs.Walked.{Walked}
use Rattle.mz_walk.specs.Walk.{Justifies}
use Rattle.mz_condition_laws.specs.Laws.{AreClosedTheses, ConditionsLaw}
use Rattle.mz_condition_laws.proofs.LociLemmas.{usable_from_none, at_loci_stands, at_loci_all_stand, with_loci}
use Rattle.mz_condition_laws.proofs.SplitLemmas.{at_constants, for_all_again}

-- what conditions state together

at_loci-conjunction_to : (least n : ℕ) (s : Statement) (ss : List Statement) → statement_at_loci least n (conjunction_to s ss) ≡ conjunction_to (statement_at_loci least n s) (map (statement_at_loci least n) ss)
at_loci-conjunction_to least n s [] = refl
at_loci-conjunction_to least n s (t ∷ ts) = at_loci-conjunction_to least n (And s t) ts

at_loci-conjunction : (least n : ℕ) (ss : List Statement) → statement_at_loci least n (conjunction ss) ≡ conjunction (map (statement_at_loci least n) ss)
at_loci-conjunction least n [] = refl
at_loci-conjunction least n (s ∷ ss) = at_loci-conjunction_to least n s ss

listed_under : (n : ℕ) (o : Option Statement) → ((t : Statement) → o ≡ Some t → statement_under n t ≡ true) → list_all (statement_under n) (listed o) ≡ true
listed_under n None f = refl
listed_under n (Some t) f = all-alone (statement_under n) t (f t refl)

theses_under : (n : ℕ) (x : Item) → AreClosedTheses n x → (cs : List Condition) → list_all (statement_under n) (flat_map (thesis_list x) cs) ≡ true
theses_under n x closed [] = refl
theses_under n x closed (c ∷ cs) = all-append (statement_under n) (thesis_list x c) (flat_map (thesis_list x) cs) (listed_under n (thesis_of x c) (closed c)) (theses_under n x closed cs)

joint_under : (n : ℕ) (x : Item) → AreClosedTheses n x → (cs : List Condition) → statement_under n (joint_thesis x cs) ≡ true
joint_under n x closed cs = conjunction_all term_under n (flat_map (thesis_list x) cs) (theses_under n x closed cs)

types-length : (least j : ℕ) (ks : List (Option Constant)) → length (types_behind least j ks) ≡ length ks
types-length least j [] = refl
types-length least j (k ∷ ks) = ap suc (types-length least (suc j) ks)

pub loci-length : (vs : List Variable) → length (loci_of vs) ≡ length vs
loci-length [] = refl
loci-length (v ∷ vs) = ap suc (loci-length vs)

-- each of them, if it has a statement, derives for all loci

record AtLoci (c : Context) (vs : List Variable) : Type 0 where
  usable : AreUsable 0 c vs
  closed : loci_under 0 (locus_types (next c) (loci_of vs)) ≡ true

abbrev Holds : List Formula → Context → List Variable → Item → Condition → Type 0
Holds ax c vs x d = (t : Statement) → thesis_of x d ≡ Some t → Derives ax [] (erase (over (locus_types (next c) (loci_of vs)) t))

abbrev AllHold : List Formula → Context → List Variable → Item → List Condition → Type 0
AllHold ax c vs x [] = Unit {0}
AllHold ax c vs x (d ∷ ds) = Holds ax c vs x d × AllHold ax c vs x ds

abbrev at : Context → List Variable → Statement → Statement
at c vs = statement_at_loci (next c) (length vs)

map-append : (f : Statement → Statement) (ss ts : List Statement) → map f (ss ++ ts) ≡ map f ss ++ map f ts
map-append f [] ts = refl
map-append f (s ∷ ss) ts = ap (λ us. f s ∷ us) (map-append f ss ts)

erased-append : (ss ts : List Statement) → map erase (ss ++ ts) ≡ map erase ss ++ map erase ts
erased-append [] ts = refl
erased-append (s ∷ ss) ts = ap (λ us. erase s ∷ us) (erased-append ss ts)

both-append : (f : Statement → Statement) (ss ts : List Statement) → map erase (map f (ss ++ ts)) ≡ map erase (map f ss) ++ map erase (map f ts)
both-append f ss ts = ap (λ us. map erase us) (map-append f ss ts) ∙ erased-append (map f ss) (map f ts)

abbrev stated : Statement → Option Statement
stated t = Some t

none_there : (t : Statement) → None ≡ stated t → ⊥
none_there t e = cc

same_there : (u t : Statement) → stated u ≡ stated t → u ≡ t
same_there u t e = cc

one_holds : (ax : List Formula) (c : Context) (vs : List Variable) (x : Item) → AtLoci c vs → (o : Option Statement) → ((t : Statement) → o ≡ Some t → statement_under (length vs) t ≡ true) →
    Along ax (guards_of (next c) vs) (map erase (map (at c vs) (listed o))) → (t : Statement) → o ≡ Some t → Derives ax [] (erase (over (locus_types (next c) (loci_of vs)) t))
one_holds ax c vs x there None closed all t e = absurd (none_there t e)
one_holds ax c vs x there (Some u) closed all t e =
    let same : u ≡ t = same_there u t e in
    let under : statement_under (length vs) u ≡ true = closed u refl in
    let stand : AllStand (next c) vs (at c vs u) = at_loci_all_stand c vs u there.usable under in
    let d : Derives ax [] (erase (for_all (next c) vs (at c vs u))) = for_all_again ax (next c) vs (at c vs u) stand all.0 in
    subst (λ s. Derives ax [] (erase (over (locus_types (next c) (loci_of vs)) s))) same (subst (λ s. Derives ax [] (erase s)) (closing_law (next c) vs u under) d)

all_hold : (ax : List Formula) (c : Context) (vs : List Variable) (x : Item) → AtLoci c vs → AreClosedTheses (length vs) x → (cs : List Condition) →
    Along ax (guards_of (next c) vs) (map erase (map (at c vs) (flat_map (thesis_list x) cs))) → AllHold ax c vs x cs
all_hold ax c vs x there closed [] all = tt
all_hold ax c vs x there closed (d ∷ ds) all =
    let g : List Formula = guards_of (next c) vs in
    let first : List Formula = map erase (map (at c vs) (thesis_list x d)) in
    let rest : List Formula = map erase (map (at c vs) (flat_map (thesis_list x) ds)) in
    let both : Along ax g (first ++ rest) = subst (Along ax g) (both-append (at c vs) (thesis_list x d) (flat_map (thesis_list x) ds)) all in
    (one_holds ax c vs x there (thesis_of x d) (closed d) (along_left ax g first rest both), all_hold ax c vs x there closed ds (along_right ax g first rest both))

-- by a justification of what they state together
judged_hold : (g : Setting) (s : Standing) (vs : List Variable) (x : Item) → StandsSoundly g s → AtLoci s.context vs → AreClosedTheses (length vs) x → (cs : List Condition) →
    (t : ConditionTree) (left after : Left) (os : List Obligation) (final : List Clause) →
    Justifies s.environment (extent_of s) (with_variables s.context vs) t.place false t.semicolon t.just (plain_sentence (at s.context vs (joint_thesis x cs))) left (walked.Made os after) →
    Extends s.clauses final → AreDecided final os → AllHold (axioms_at g s) s.context vs x cs
judged_hold g s vs x sound there closed cs t left after os final justifies grows decided =
    let ax : List Formula = axioms_at g s in
    let c : Context = s.context in
    let joint : Statement = joint_thesis x cs in
    let loci : List SoftType = locus_types (next c) (loci_of vs) in
    let under : statement_under (length vs) joint ≡ true = joint_under (length vs) x closed cs in
    let long : length loci ≡ length vs = types-length (next c) 0 (loci_of vs) ∙ loci-length vs in
    let longer : 0 + length loci ≡ length vs = omega (arith, long) in
    let over_closed : statement_under 0 (over loci joint) ≡ true = over_under 0 loci joint there.closed (subst (λ n. statement_under n joint ≡ true) (sym longer) under) in
    let is : for_all (next c) vs (at c vs joint) ≡ over loci joint = closing_law (next c) vs joint under in
    let d : Derives ax [] (erase (for_all (next c) vs (at c vs joint))) =
    condition_law g s vs (with_variables c vs) (plain_sentence (at c vs joint)) left after t.place t.semicolon false t.just os final sound
    (at_loci_all_stand c vs joint there.usable under) (with_loci c vs sound.level there.usable) (at_loci_stands c vs joint under) refl
    (subst (λ u. statement_under 0 u ≡ true) (sym is) over_closed) justifies grows decided in
    let e : at c vs joint ≡ conjunction (map (at c vs) (flat_map (thesis_list x) cs)) = at_loci-conjunction (next c) (length vs) (flat_map (thesis_list x) cs) in
    all_hold ax c vs x there closed cs (at_constants ax (next c) vs (map (at c vs) (flat_map (thesis_list x) cs)) (subst (λ u. Derives ax [] (erase (for_all (next c) vs u))) e d))

-- what a word leaves

abbrev of_number : ℕ → Condition
of_number zero = Existence
of_number (suc zero) = Existence
of_number (suc (suc zero)) = Uniqueness
of_number (suc (suc (suc zero))) = Coherence
of_number (suc (suc (suc (suc zero)))) = Compatibility
of_number (suc (suc (suc (suc (suc zero))))) = Consistency
of_number (suc (suc (suc (suc (suc (suc n)))))) = Reducibility

of_number_of : (c : Condition) → of_number (condition_number c) ≡ c
of_number_of Existence = refl
of_number_of Uniqueness = refl
of_number_of Coherence = refl
of_number_of Compatibility = refl
of_number_of Consistency = refl
of_number_of Reducibility = refl

same_condition : (c d : Condition) → is_condition c d ≡ true → c ≡ d
same_condition c d h = sym (of_number_of c) ∙ (ap of_number (eqb-true (condition_number c) (condition_number d) h) ∙ of_number_of d)

-- one that holds, and all others
others_hold : (ax : List Formula) (c : Context) (vs : List Variable) (x : Item) (d u : Condition) (us : List Condition) (b : Bool) → is_condition d u ≡ b → Holds ax c vs x d →
    AllHold ax c vs x (cond (not b) (u ∷ filter (is_other d) us) (filter (is_other d) us)) → (AllHold ax c vs x (filter (is_other d) us) → AllHold ax c vs x us) → AllHold ax c vs x (u ∷ us)
others_hold ax c vs x d u us true e h all on = (subst (Holds ax c vs x) (same_condition d u e) h, on all)
others_hold ax c vs x d u us false e h all on = (all.0, on all.1)

with_others : (ax : List Formula) (c : Context) (vs : List Variable) (x : Item) (d : Condition) → Holds ax c vs x d → (us : List Condition) → AllHold ax c vs x (filter (is_other d) us) → AllHold ax c vs x us
with_others ax c vs x d h [] all = tt
with_others ax c vs x d h (u ∷ us) all = others_hold ax c vs x d u us (is_condition d u) refl h all (with_others ax c vs x d h us)

-- those that are not owed state nothing
not_owed : (ax : List Formula) (c : Context) (vs : List Variable) (x : Item) (d : Condition) (ds : List Condition) (o : Option Statement) → thesis_of x d ≡ o →
    AllHold ax c vs x (filter (is_owed x) (d ∷ ds)) → (AllHold ax c vs x (filter (is_owed x) ds) → AllHold ax c vs x ds) → AllHold ax c vs x (d ∷ ds)
not_owed ax c vs x d ds None e all on =
    let not_there : is_owed x d ≡ false = ap (λ (o : Option Statement). is_some o) e in
    (λ t is. absurd (none_there t (sym e ∙ is)), on (subst (λ b. AllHold ax c vs x (cond b (d ∷ filter (is_owed x) ds) (filter (is_owed x) ds))) not_there all))
not_owed ax c vs x d ds (Some t) e all on =
    let is_there : is_owed x d ≡ true = ap (λ (o : Option Statement). is_some o) e in
    let both : AllHold ax c vs x (d ∷ filter (is_owed x) ds) = subst (λ b. AllHold ax c vs x (cond b (d ∷ filter (is_owed x) ds) (filter (is_owed x) ds))) is_there all in
    (both.0, on both.1)

all_owed : (ax : List Formula) (c : Context) (vs : List Variable) (x : Item) (ds : List Condition) → AllHold ax c vs x (filter (is_owed x) ds) → AllHold ax c vs x ds
all_owed ax c vs x [] all = tt
all_owed ax c vs x (d ∷ ds) all = not_owed ax c vs x d ds (thesis_of x d) refl all (all_owed ax c vs x ds)

of_all : (ax : List Formula) (c : Context) (vs : List Variable) (x : Item) → AllHold ax c vs x conditions → (d : Condition) → Holds ax c vs x d
of_all ax c vs x all Existence = all.0
of_all ax c vs x all Uniqueness = all.1.0
of_all ax c vs x all Coherence = all.1.1.0
of_all ax c vs x all Compatibility = all.1.1.1.0
of_all ax c vs x all Consistency = all.1.1.1.1.0
of_all ax c vs x all Reducibility = all.1.1.1.1.1.0

-- a word's conditions hold, and behind it those that it leaves: so all do
abbrev more : Condition → List Condition → List Condition
more d ds = d ∷ ds

same_first : (d e : Condition) (ds es : List Condition) → more d ds ≡ more e es → d ≡ e
same_first d e ds es is = cc

nothing_more : (e : Condition) (es : List Condition) → [] ≡ more e es → ⊥
nothing_more e es is = cc

by_named : (ax : List Formula) (c : Context) (vs : List Variable) (x : Item) (o : Owed) (d : Condition) (b : Bool) (e : Condition) (es : List Condition) → (if b then d ∷ [] else []) ≡ e ∷ es → AllHold ax c vs x (e ∷ es) → Holds ax c vs x d
by_named ax c vs x o d true e es is all = subst (Holds ax c vs x) (sym (same_first d e [] es is)) all.0
by_named ax c vs x o d false e es is all = absurd (nothing_more e es is)

behind_word : (ax : List Formula) (c : Context) (vs : List Variable) (x : Item) (o : Owed) (n : Option Condition) (e : Condition) (es : List Condition) → covered_by o n ≡ e ∷ es → AllHold ax c vs x (e ∷ es) → o.corrected ≡ false →
    ((written_by o n).corrected ≡ false → AllHold ax c vs x (written_by o n).unwritten) → AllHold ax c vs x o.unwritten
behind_word ax c vs x o None e es is all not_yet rest =
    let same : e ∷ es ≡ o.unwritten = sym is ∙ ap (λ b. all_or_none b o.unwritten) not_yet in
    subst (AllHold ax c vs x) same all
behind_word ax c vs x o (Some d) e es is all not_yet rest = with_others ax c vs x d (by_named ax c vs x o d (list_any (is_condition d) o.unwritten) e es is all) o.unwritten (rest not_yet)

-- conditions, one after another

record Judged (g : Setting) (s : Standing) (vs : List Variable) (x : Item) (a b : Asked) (t : ConditionTree) (os : List Obligation) : Type 0 where
  first : Condition
  others : List Condition
  covers : covered a.owed t.word ≡ first ∷ others
  leaves : b.owed ≡ written a.owed t.word
  justifies : Justifies s.environment (extent_of s) (with_variables s.context vs) t.place false t.semicolon t.just (plain_sentence (at s.context vs (joint_thesis x (first ∷ others)))) a.left (walked.Made os b.left)

abbrev JudgedSo : Setting → Standing → List Variable → Item → Asked → ConditionTree → Taken Asked → Type 0
JudgedSo g s vs x a t (Made os b) = Judged g s vs x a b t os
JudgedSo g s vs x a t (Refused r) = Unit {0}

judged_by : (g : Setting) (s : Standing) (vs : List Variable) (x : Item) (a : Asked) (t : ConditionTree) (d : Condition) (ds : List Condition) (o : Walked Left) → covered a.owed t.word ≡ d ∷ ds →
    Justifies s.environment (extent_of s) (with_variables s.context vs) t.place false t.semicolon t.just (plain_sentence (at s.context vs (joint_thesis x (d ∷ ds)))) a.left o →
    JudgedSo g s vs x a t (behind_judged (written a.owed t.word) o)
judged_by g s vs x a t d ds (walked.Made os l) is j = record { first = d; others = ds; covers = is; leaves = refl; justifies = j }
judged_by g s vs x a t d ds (walked.Refused r) is j = tt

abbrev Takes : Standing → List Variable → Item → Asked → ConditionTree → Taken Asked → Type 0
Takes s vs x = TakesCondition s.environment (extent_of s) (with_variables s.context vs) (next s.context) (length vs) x

judged_so : (g : Setting) (s : Standing) (vs : List Variable) (x : Item) (a : Asked) (t : ConditionTree) (w : Taken Asked) → Takes s vs x a t w → JudgedSo g s vs x a t w
judged_so g s vs x a t w (rule.stray none) = tt
judged_so g s vs x a t w (rule.judged d ds o some j) = judged_by g s vs x a t d ds o some j

abbrev GoodAt : Setting → Standing → List Variable → Item → List Clause → Owed → Taken Asked → Type 0
GoodAt g s vs x final o (Made os b) = missing b.owed ≡ None → AreDecided final os → o.corrected ≡ false → AllHold (axioms_at g s) s.context vs x o.unwritten
GoodAt g s vs x final o (Refused r) = Unit {0}

record Given (g : Setting) (s : Standing) (vs : List Variable) (x : Item) (final : List Clause) : Type 0 where
  sound : StandsSoundly g s
  there : AtLoci s.context vs
  closed : AreClosedTheses (length vs) x
  grows : Extends s.clauses final

turn : (g : Setting) (s : Standing) (vs : List Variable) (x : Item) (final : List Clause) → Given g s vs x final → (a b : Asked) (t : ConditionTree) (os : List Obligation) → Judged g s vs x a b t os → (o : Taken Asked) →
    GoodAt g s vs x final b.owed o → GoodAt g s vs x final a.owed (behind os o)
turn g s vs x final given a b t os j (Refused r) on = tt
turn g s vs x final given a b t os j (Made ps z) on = λ none decided not_yet.
    let ax : List Formula = axioms_at g s in
    let one : AllHold ax s.context vs x (j.first ∷ j.others) =
    judged_hold g s vs x given.sound given.there given.closed (j.first ∷ j.others) t a.left b.left os final j.justifies given.grows (λ o is. decided o (Contains-append_left os ps o is)) in
    behind_word ax s.context vs x a.owed (named t.word) j.first j.others j.covers one not_yet
    (λ still. subst (λ (w : Owed). AllHold ax s.context vs x w.unwritten) j.leaves
    (on none (λ o is. decided o (Contains-append_right os ps o is)) (ap (λ (w : Owed). w.corrected) j.leaves ∙ still)))

abbrev one_condition : Condition → Option Condition
one_condition d = Some d

condition_there : (d : Condition) → None ≡ one_condition d → ⊥
condition_there d e = cc

nothing_left : (ax : List Formula) (c : Context) (vs : List Variable) (x : Item) (cs : List Condition) → first_of cs ≡ None → AllHold ax c vs x cs
nothing_left ax c vs x [] none = tt
nothing_left ax c vs x (d ∷ ds) none = absurd (condition_there d (sym none))

good : (g : Setting) (s : Standing) (vs : List Variable) (x : Item) (final : List Clause) → Given g s vs x final → (a : Asked) (ws : List ConditionTree) (w : Taken Asked) → OneByOne (Takes s vs x) a ws w → GoodAt g s vs x final a.owed w
good g s vs x final given a ws w (none_left b) = λ none decided not_yet.
    nothing_left (axioms_at g s) s.context vs x a.owed.unwritten (sym (ap (λ b. first_of (all_or_none b a.owed.unwritten)) not_yet) ∙ none)
good g s vs x final given a ws w (one_refused b t ts r h) = tt
good g s vs x final given a ws w (one_taken b d t ts os o h k) = turn g s vs x final given a d t os (judged_so g s vs x a t (Made os d) h) o (good g s vs x final given d ts o k)

pub conditions_law : ConditionsLaw
conditions_law g s vs x left ws os a final sound usable closed_loci closed taken none grows decided c t is =
    let ax : List Formula = axioms_at g s in
    let there : AtLoci s.context vs = record { usable = usable_from_none (next s.context) s.context vs usable; closed = closed_loci } in
    let given : Given g s vs x final = record { sound = sound; there = there; closed = closed; grows = grows } in
    let start : Asked = rule.asked (at_first x) left in
    of_all ax s.context vs x (all_owed ax s.context vs x conditions (good g s vs x final given start ws (Made os a) taken none decided refl)) c t is
