-- What the items of an article make: the clauses only grow, and it stays sound.
use Rattle.std.proofs.Common.{false, ◌++◌, refl}
use Rattle.mz_core.specs.declared.item.Item.TheVariants.{Theorem}
use Rattle.mz_ground.specs.Table.{Extends}
use Rattle.mz_ground.proofs.ListLemmas.{extends_itself, extends_further}
use Rattle.mz_cited.specs.Cited.{members}
use Rattle.mz_parts.specs.Propositions.{label_in}
use Rattle.mz_formulas.specs.declared.sentence.Sentence.{Sentence}
use Rattle.mz_walk.specs.Walked.{Walked, Made, Refused}
use Rattle.mz_tree_proof.specs.Reasoning.{StatementData}
use Rattle.mz_tree_part.specs.declared.reserve.ReserveTree.{ReserveTree}
use Rattle.mz_tree_item.specs.declared.schemes.TheoremTree.{TheoremTree}
use Rattle.mz_standing.specs.Standing.{clauses_of}
use Rattle.mz_standing.specs.declared.standing.Standing.{Standing}
use Rattle.mz_taken.specs.Taken.{taken}
use Rattle.mz_standing_laws.specs.Soundly.{Setting, StandsSoundly}
use Rattle.mz_standing_laws.specs.Kinds.{HasGrown, GrowsLaw, KeepsSoundly, KeepsLaw}
use Rattle.mz_standing_laws.proofs.ItemProofs.{reservation_law, theorem_law, statement_law}
use Rattle.mz_standing_laws.proofs.KindProofs.{grows_all_law, keeps_all_law}
use Rattle.mz_define_laws.proofs.KindProofs.{definitions_grows, definitions_keeps, notations_grows, notations_keeps}
use Rattle.mz_register_laws.proofs.KindProofs as registrations
use Rattle.mz_scheme_laws.proofs.KindProofs as schemes
use Rattle.mz_article_items.specs.Items as rule
use Rattle.mz_article_items.specs.Items.{IsReserved, IsTheorem, IsStatement, IsItem, IsPart, AreItems}

-- a reservation

reserve_grows : (s : Standing) (t : ReserveTree) (w : Walked Standing) → IsReserved s t w → HasGrown s (taken w)
reserve_grows s t w (rule.not_read r after h) = tt
reserve_grows s t w (rule.reserved c after h) = extends_itself s.clauses

reserve_keeps : (g : Setting) (s : Standing) (t : ReserveTree) (w : Walked Standing) → StandsSoundly g s → IsReserved s t w → KeepsSoundly g s (taken w)
reserve_keeps g s t w sound (rule.not_read r after h) = tt
reserve_keeps g s t w sound (rule.reserved c after h) = (extends_itself s.clauses, λ final grows decided. reservation_law g s (members t.segments) c after sound h)

-- a theorem

behind_theorem_grows : (s : Standing) (x : Sentence) → Extends s.clauses (s.clauses ++ clauses_of (Theorem x.closed))
behind_theorem_grows s x = (clauses_of (Theorem x.closed), refl)

theorem_grows : (s : Standing) (t : TheoremTree) (w : Walked Standing) → IsTheorem s t w → HasGrown s (taken w)
theorem_grows s t w (rule.not_read r after h) = tt
theorem_grows s t w (rule.read x between (Made os l) h j) = behind_theorem_grows s x
theorem_grows s t w (rule.read x between (Refused r) h j) = tt

theorem_keeps : (g : Setting) (s : Standing) (t : TheoremTree) (w : Walked Standing) → StandsSoundly g s → IsTheorem s t w → KeepsSoundly g s (taken w)
theorem_keeps g s t w sound (rule.not_read r after h) = tt
theorem_keeps g s t w sound (rule.read x between (Made os l) h j) = (
  behind_theorem_grows s x,
  λ final grows decided.
      theorem_law g s (label_in t.proposition.label) t.proposition.formula x between l t.theorem t.semicolon false t.just os final sound h j
      (extends_further s.clauses (s.clauses ++ clauses_of (Theorem x.closed)) final (behind_theorem_grows s x) grows) decided,
)
theorem_keeps g s t w sound (rule.read x between (Refused r) h j) = tt

-- a statement

statement_grows : (s : Standing) (t : StatementData) (w : Walked Standing) → IsStatement s t w → HasGrown s (taken w)
statement_grows s t w (rule.stated first (Made os d) at h) = extends_itself s.clauses
statement_grows s t w (rule.stated first (Refused r) at h) = tt

statement_keeps : (g : Setting) (s : Standing) (t : StatementData) (w : Walked Standing) → StandsSoundly g s → IsStatement s t w → KeepsSoundly g s (taken w)
statement_keeps g s t w sound (rule.stated first (Made os d) at h) = (extends_itself s.clauses, λ final grows decided. statement_law g s first t os d final sound h grows decided)
statement_keeps g s t w sound (rule.stated first (Refused r) at h) = tt

-- an item of any kind

item_grows : GrowsLaw IsItem
item_grows s _ _ (rule.reserve t w h) = reserve_grows s t w h
item_grows s _ _ (rule.theorem t w h) = theorem_grows s t w h
item_grows s _ _ (rule.statement t w h) = statement_grows s t w h
item_grows s _ w (rule.scheme t _ h) = schemes.schemes_grows s t w h
item_grows s _ w (rule.definition t _ h) = definitions_grows s t w h
item_grows s _ w (rule.notation t _ h) = notations_grows s t w h
item_grows s _ w (rule.registration t _ h) = registrations.registrations_grows s t w h

item_keeps : KeepsLaw IsItem
item_keeps g s _ _ sound (rule.reserve t w h) = reserve_keeps g s t w sound h
item_keeps g s _ _ sound (rule.theorem t w h) = theorem_keeps g s t w sound h
item_keeps g s _ _ sound (rule.statement t w h) = statement_keeps g s t w sound h
item_keeps g s _ w sound (rule.scheme t _ h) = schemes.schemes_keeps g s t w sound h
item_keeps g s _ w sound (rule.definition t _ h) = definitions_keeps g s t w sound h
item_keeps g s _ w sound (rule.notation t _ h) = notations_keeps g s t w sound h
item_keeps g s _ w sound (rule.registration t _ h) = registrations.registrations_keeps g s t w sound h

-- a part, and all parts

part_grows : GrowsLaw IsPart
part_grows s _ _ (rule.section begin) = extends_itself s.clauses
part_grows s _ w (rule.item x _ h) = item_grows s x w h

part_keeps : KeepsLaw IsPart
part_keeps g s _ _ sound (rule.section begin) = (extends_itself s.clauses, λ final grows decided. sound)
part_keeps g s _ w sound (rule.item x _ h) = item_keeps g s x w sound h

pub items_grow : GrowsLaw AreItems
items_grow = grows_all_law IsPart part_grows

pub items_keep : KeepsLaw AreItems
items_keep = keeps_all_law IsPart part_grows part_keeps
