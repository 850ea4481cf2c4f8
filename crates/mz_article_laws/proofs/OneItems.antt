-- The items of an article come to one thing at most.
use Rattle.std.proofs.Common.{◌≡◌, false, List, [], refl, sym, ap, subst, ◌∙◌, Some}
use Rattle.std.specs.Prelude.{Ok, Err}
use Rattle.mz_core.specs.declared.outcome.Left.{Left}
use Rattle.mz_context.specs.Context.{next}
use Rattle.mz_context.specs.declared.context.Context.{Context}
use Rattle.mz_formulas.specs.declared.sentence.Sentence.{Sentence}
use Rattle.mz_names.specs.declared.refusal.Refusal.{Refusal}
use Rattle.mz_cited.specs.Cited.{members}
use Rattle.mz_steps.specs.declared.block.Block.TheVariants.{Proof}
use Rattle.mz_justified.specs.declared.proof_fault.ProofRefusal.TheVariants.{Resolve}
use Rattle.mz_walk.specs.Walked.{state, Walked, Made, Refused}
use Rattle.mz_tree.specs.Places.{first_place}
use Rattle.mz_tree_proof.specs.Reasoning.{StatementData}
use Rattle.mz_tree_proof.specs.SpellReasoning.{spell_statement}
use Rattle.mz_tree_part.specs.declared.reserve.ReserveTree.{ReserveTree}
use Rattle.mz_tree_item.specs.declared.schemes.TheoremTree.{TheoremTree}
use Rattle.mz_tree_item.specs.declared.article.ItemTree.{ItemTree}
use Rattle.mz_tree_item.specs.declared.article.ItemTree.TheVariants as tree
use Rattle.mz_tree_item.specs.declared.article.ArticlePartTree.{ArticlePartTree}
use Rattle.mz_tree_item.specs.declared.article.ArticlePartTree.TheVariants.{Begin, Item}
use Rattle.mz_standing.specs.Standing.{extent_of, with_left, with_context, behind_item}
use Rattle.mz_standing.specs.declared.standing.Standing.{Standing}
use Rattle.mz_taken.specs.Taken as part
use Rattle.mz_taken.specs.Taken.{Taken, taken}
use Rattle.mz_taken.specs.OneByOne.{OneLaw}
use Rattle.mz_taken.proofs.OneByOneProofs.{one_all}
use Rattle.mz_define.specs.Defines.{Defines, Notes}
use Rattle.mz_define_laws.proofs.KindProofs.{definitions_one, notations_one}
use Rattle.mz_register.specs.Registers.{Registers}
use Rattle.mz_register_laws.proofs.KindProofs.{registrations_one}
use Rattle.mz_scheme_items.specs.StatesScheme.{StatesScheme}
use Rattle.mz_scheme_laws.proofs.KindProofs.{schemes_one}
use Rattle.mz_article_items.specs.Items as rule
use Rattle.mz_article_items.specs.Items.{IsReserved, JustifiesTheorem, StatesThere, theorem_stated, IsTheorem, statement_stated, IsStatement, IsItem, IsPart, AreItems}
use Rattle.mz_article_laws.proofs.Determined.{AreDetermined}
use Rattle.mz_article_laws.proofs.Outcomes.{good_same, bad_same, good_or_bad, bad_or_good, some_same}

-- a reservation

abbrev reserved_as : Standing → Context → Left → Walked Standing
reserved_as s c l = Made [] (with_left (with_context s (behind_item c)) l)

one_reservation : AreDetermined → (s : Standing) (t : ReserveTree) (v w : Walked Standing) → IsReserved s t v → IsReserved s t w → v ≡ w
one_reservation once s t v w (rule.not_read r l h) (rule.not_read q m k) = ap (λ x. Refused (Resolve x)) (bad_same {X = Context} r q (once.reservation s.environment s.context s.left (members t.segments) (Err r) (Err q) l m h k).0)
one_reservation once s t v w (rule.not_read r l h) (rule.reserved c m k) = absurd (bad_or_good r c (once.reservation s.environment s.context s.left (members t.segments) (Err r) (Ok c) l m h k).0)
one_reservation once s t v w (rule.reserved c l h) (rule.not_read r m k) = absurd (good_or_bad c r (once.reservation s.environment s.context s.left (members t.segments) (Ok c) (Err r) l m h k).0)
one_reservation once s t v w (rule.reserved c l h) (rule.reserved d m k) =
    let both = once.reservation s.environment s.context s.left (members t.segments) (Ok c) (Ok d) l m h k in
    ap (λ x. reserved_as s x l) (good_same {F = Refusal} c d both.0) ∙ ap (reserved_as s d) both.1

-- a theorem: its sentence and what is left, or the refusal

record ByTheorem (s : Standing) (t : TheoremTree) (x : Sentence) (l : Left) (w : Walked Standing) : Type 0 where
  outcome : Walked Left
  justifies : JustifiesTheorem s t x l outcome
  is : theorem_stated s t x outcome ≡ w

one_theorem : AreDetermined → (s : Standing) (t : TheoremTree) (v w : Walked Standing) → IsTheorem s t v → IsTheorem s t w → v ≡ w
one_theorem once s t v w (rule.not_read r l h) (rule.not_read q m k) =
    ap (λ x. Refused (Resolve x)) (bad_same {X = Sentence} r q (once.sentence s.environment s.context (next s.context) s.left t.proposition.formula (Err r) (Err q) l m h k).0)
one_theorem once s t v w (rule.not_read r l h) (rule.read x m o k j) = absurd (good_or_bad x r (once.sentence s.environment s.context (next s.context) s.left t.proposition.formula (Ok x) (Err r) m l k h).0)
one_theorem once s t v w (rule.read x l o h j) (rule.not_read r m k) = absurd (good_or_bad x r (once.sentence s.environment s.context (next s.context) s.left t.proposition.formula (Ok x) (Err r) l m h k).0)
one_theorem once s t v w (rule.read x l o h j) (rule.read y m p k i) =
    let both = once.sentence s.environment s.context (next s.context) s.left t.proposition.formula (Ok x) (Ok y) l m h k in
    let a : ByTheorem s t y m w = record { outcome = p; justifies = i; is = refl } in
    let b : ByTheorem s t x l w = subst (λ z. ByTheorem s t x z w) (sym both.1) (subst (λ z. ByTheorem s t z m w) (sym (good_same {F = Refusal} x y both.0)) a) in
    ap (theorem_stated s t x) (once.justified s.environment (extent_of s) s.context t.theorem false t.semicolon t.just x l o b.outcome j b.justifies) ∙ b.is

-- a statement

one_statement : AreDetermined → (s : Standing) (t : StatementData) (v w : Walked Standing) → IsStatement s t v → IsStatement s t w → v ≡ w
one_statement once s t v w (rule.stated p o at h) (rule.stated q u by k) =
    let same : p ≡ q = some_same p q (first_place (spell_statement t)) at by in
    ap (statement_stated s) (once.stated s.environment (extent_of s) (state s.context Proof s.left) q t o u (subst (λ x. StatesThere s t x o) same h) k)

-- an item, by what it is

record ByReasoning (reasons : Walked Standing → Type 0) (w : Taken Standing) : Type 0 where
  outcome : Walked Standing
  reasoned : reasons outcome
  is : taken outcome ≡ w

abbrev ItemAs : Standing → ItemTree → Taken Standing → Type 0
ItemAs s (tree.Reserve t) w = ByReasoning (IsReserved s t) w
ItemAs s (tree.Theorem t) w = ByReasoning (IsTheorem s t) w
ItemAs s (tree.Statement t) w = ByReasoning (IsStatement s t) w
ItemAs s (tree.Scheme t) w = StatesScheme s t w
ItemAs s (tree.Definition t) w = Defines s t w
ItemAs s (tree.Notation t) w = Notes s t w
ItemAs s (tree.Registration t) w = Registers s t w

item_as : {s : Standing} {x : ItemTree} {w : Taken Standing} → IsItem s x w → ItemAs s x w
item_as (rule.reserve t o h) = record { outcome = o; reasoned = h; is = refl }
item_as (rule.theorem t o h) = record { outcome = o; reasoned = h; is = refl }
item_as (rule.statement t o h) = record { outcome = o; reasoned = h; is = refl }
item_as (rule.scheme t o h) = h
item_as (rule.definition t o h) = h
item_as (rule.notation t o h) = h
item_as (rule.registration t o h) = h

by_reasoning : (reasons : Walked Standing → Type 0) → ((o p : Walked Standing) → reasons o → reasons p → o ≡ p) → (v w : Taken Standing) → ByReasoning reasons v → ByReasoning reasons w → v ≡ w
by_reasoning reasons one v w a b = sym a.is ∙ (ap (λ o. taken o) (one a.outcome b.outcome a.reasoned b.reasoned) ∙ b.is)

one_as : AreDetermined → (s : Standing) (x : ItemTree) (v w : Taken Standing) → ItemAs s x v → ItemAs s x w → v ≡ w
one_as once s (tree.Reserve t) v w h k = by_reasoning (IsReserved s t) (one_reservation once s t) v w h k
one_as once s (tree.Theorem t) v w h k = by_reasoning (IsTheorem s t) (one_theorem once s t) v w h k
one_as once s (tree.Statement t) v w h k = by_reasoning (IsStatement s t) (one_statement once s t) v w h k
one_as once s (tree.Scheme t) v w h k = schemes_one s t v w h k
one_as once s (tree.Definition t) v w h k = definitions_one s t v w h k
one_as once s (tree.Notation t) v w h k = notations_one s t v w h k
one_as once s (tree.Registration t) v w h k = registrations_one s t v w h k

-- a part

abbrev PartAs : Standing → ArticlePartTree → Taken Standing → Type 0
PartAs s (Begin p) w = w ≡ part.Made [] s
PartAs s (Item x) w = ItemAs s x w

part_as : {s : Standing} {x : ArticlePartTree} {w : Taken Standing} → IsPart s x w → PartAs s x w
part_as (rule.section p) = refl
part_as (rule.item x o h) = item_as h

one_part_as : AreDetermined → (s : Standing) (x : ArticlePartTree) (v w : Taken Standing) → PartAs s x v → PartAs s x w → v ≡ w
one_part_as once s (Begin p) v w h k = h ∙ sym k
one_part_as once s (Item x) v w h k = one_as once s x v w h k

one_part : AreDetermined → OneLaw IsPart
one_part once s x v w h k = one_part_as once s x v w (part_as h) (part_as k)

-- all parts

pub one_items : AreDetermined → {s : Standing} {parts : List ArticlePartTree} {v w : Taken Standing} → AreItems s parts v → AreItems s parts w → v ≡ w
one_items once h k = one_all IsPart (one_part once) h k
