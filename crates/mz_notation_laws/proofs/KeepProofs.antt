-- By a block of notations the clauses only grow, and where an article stood soundly it does behind.
use Rattle.std.proofs.Common.{◌≡◌, ℕ, true, List, [], refl}
use Rattle.std.specs.Prelude.{nat_eq}
use Rattle.std.proofs.lemmas.Bool.{and_parts, eqb-true}
use Rattle.std.proofs.lemmas.List.Elements.{Contains-append_left, Contains-append_right}
use Rattle.mz_base.specs.declared.place.Place.{Place}
use Rattle.mz_logic.specs.Sym.{kind_number}
use Rattle.mz_logic.proofs.SymLemmas.{kind_number-inj}
use Rattle.mz_ground.specs.Table.{Extends}
use Rattle.mz_ground.specs.declared.clause.Clause.{Clause}
use Rattle.mz_ground.proofs.ListLemmas.{extends_itself, extends_further}
use Rattle.mz_context.specs.Context.{next}
use Rattle.mz_let.specs.Lets as lets
use Rattle.mz_let.specs.Lets.{Lets}
use Rattle.mz_loci_laws.specs.Block.{StandsInBlock}
use Rattle.mz_loci_laws.proofs.BlockProofs as blocks
use Rattle.mz_obligations.specs.declared.obligation.Obligation.{Obligation}
use Rattle.mz_standing.specs.Standing.{clauses_of}
use Rattle.mz_standing.specs.declared.standing.Standing.{Standing}
use Rattle.mz_standing_laws.specs.Soundly.{Setting, axioms_at, AreDecided}
use Rattle.mz_standing_laws.specs.Kinds.{HasGrown, GrowsLaw, KeepsSoundly, KeepsLaw}
use Rattle.mz_standing_laws.proofs.KindProofs.{grows_all_law}
use Rattle.mz_taken.specs.OneByOne.{OneByOne, none_left, one_refused, one_taken}
use Rattle.mz_taken.specs.Taken.{Taken, Made, Refused, behind}
use Rattle.mz_tree_heading.specs.declared.patterns.PatternTree.{PatternTree}
use Rattle.mz_tree_part.specs.declared.notation.BlockLetTree.{BlockLetTree}
use Rattle.mz_tree_part.specs.declared.notation.NotationPartTree.{NotationPartTree}
use Rattle.mz_tree_part.specs.declared.words.NotationWord.{NotationWord}
use Rattle.mz_notations.specs.Patterns.{kind_of}
use Rattle.mz_notations.specs.Notes as rule
use Rattle.mz_notations.specs.Notes.{may_stand, are_alike, notation_of, TakesNotation, NotesPart, ended, NotesBlock}
use Rattle.mz_notation_laws.proofs.ClosedProofs.{notation_owed}

-- the clauses only grow

let_grows : (least : ℕ) (s : Standing) (t : BlockLetTree) (w : Taken Standing) → Lets least s t w → HasGrown s w
let_grows least s t w (lets.not_declared r after h) = tt
let_grows least s t w (lets.declared vs after h) = extends_itself s.clauses

notation_grows : (least : ℕ) (s : Standing) (place : Place) (w : NotationWord) (p q : PatternTree) (o : Taken Standing) → TakesNotation least s place w p q o → HasGrown s o
notation_grows least s place w p q o (rule.new_unfit e) = tt
notation_grows least s place w p q o (rule.old_unfit v e f) = tt
notation_grows least s place w p q o (rule.unlike v u e f i) = tt
notation_grows least s place w p q o (rule.not_read v u r e f i h) = tt
notation_grows least s place w p q o (rule.is_read v u m e f i h) = (clauses_of (notation_of least s.context w p v m), refl)

part_grows : (least : ℕ) → GrowsLaw (NotesPart least)
part_grows least s _ _ (rule.loci t o h) = let_grows least s t o h
part_grows least s _ _ (rule.notation place w p q between behind o h) = notation_grows least s place w p q o h

parts_grow : (least : ℕ) (s : Standing) (ps : List NotationPartTree) (w : Taken Standing) → OneByOne (NotesPart least) s ps w → HasGrown s w
parts_grow least s ps w h = grows_all_law (NotesPart least) (part_grows least) s ps w h

ended_grows : (least : ℕ) (s : Standing) (w : Taken Standing) → HasGrown s w → HasGrown s (ended least w)
ended_grows least s (Made os t) h = h
ended_grows least s (Refused r) h = tt

pub notes_grow : GrowsLaw NotesBlock
notes_grow s t _ (rule.block o h) = ended_grows (next s.context) s o (parts_grow (next s.context) s t.parts o h)

-- patterns of a kind

alike_so : (w : NotationWord) (p q : PatternTree) → are_alike w p q ≡ true → kind_of p ≡ kind_of q
alike_so w p q h =
    let both : (nat_eq (kind_number (kind_of p)) (kind_number (kind_of q)) ≡ true) × (may_stand w (kind_of q) ≡ true) = and_parts (nat_eq (kind_number (kind_of p)) (kind_number (kind_of q))) (may_stand w (kind_of q)) h in
    kind_number-inj (kind_of p) (kind_of q) (eqb-true (kind_number (kind_of p)) (kind_number (kind_of q)) both.0)

-- it stands soundly but for the loci

abbrev KeepsInBlock : Setting → ℕ → Taken Standing → Type 0
KeepsInBlock g least (Made os t) = (final : List Clause) → Extends t.clauses final → AreDecided final os → StandsInBlock g least t
KeepsInBlock g least (Refused r) = Unit {0}

let_keeps : (g : Setting) (least : ℕ) (s : Standing) (t : BlockLetTree) (w : Taken Standing) → StandsInBlock g least s → Lets least s t w → KeepsInBlock g least w
let_keeps g least s t w b (lets.not_declared r after h) = tt
let_keeps g least s t w b (lets.declared vs after h) = λ final grows decided. blocks.let_law g least s (lets.with_loci s vs after) t [] b (lets.declared vs after h)

notation_keeps : (g : Setting) (least : ℕ) (s : Standing) (place : Place) (w : NotationWord) (p q : PatternTree) (o : Taken Standing) → StandsInBlock g least s → TakesNotation least s place w p q o → KeepsInBlock g least o
notation_keeps g least s place w p q o b (rule.new_unfit e) = tt
notation_keeps g least s place w p q o b (rule.old_unfit v e f) = tt
notation_keeps g least s place w p q o b (rule.unlike v u e f i) = tt
notation_keeps g least s place w p q o b (rule.not_read v u r e f i h) = tt
notation_keeps g least s place w p q o b (rule.is_read v u m e f alike h) = λ final grows decided.
    blocks.heading_law g least s (notation_of least s.context w p v m) [] s.left b (notation_owed g least s w p q v u m (axioms_at g s) b e f (alike_so w p q alike) h)

part_keeps : (g : Setting) (least : ℕ) (s : Standing) (p : NotationPartTree) (w : Taken Standing) → StandsInBlock g least s → NotesPart least s p w → KeepsInBlock g least w
part_keeps g least s _ _ b (rule.loci t o h) = let_keeps g least s t o b h
part_keeps g least s _ _ b (rule.notation place w p q between behind o h) = notation_keeps g least s place w p q o b h

behind_keeps : (g : Setting) (least : ℕ) (t : Standing) (os : List Obligation) (w : Taken Standing) → KeepsInBlock g least (Made os t) → (StandsInBlock g least t → KeepsInBlock g least w) → HasGrown t w → KeepsInBlock g least (behind os w)
behind_keeps g least t os (Made ps u) first later further =
    λ final grows decided.
    later (first final (extends_further t.clauses u.clauses final further grows) (λ o is. decided o (Contains-append_left os ps o is))) final grows (λ o is. decided o (Contains-append_right os ps o is))
behind_keeps g least t os (Refused r) first later further = tt

parts_keep : (g : Setting) (least : ℕ) {s : Standing} {ps : List NotationPartTree} {w : Taken Standing} → StandsInBlock g least s → OneByOne (NotesPart least) s ps w → KeepsInBlock g least w
parts_keep g least b (none_left s) = λ final grows decided. b
parts_keep g least b (one_refused s x xs r h) = tt
parts_keep g least b (one_taken s t x xs os w h k) = behind_keeps g least t os w (part_keeps g least s x (Made os t) b h) (λ there. parts_keep g least there k) (parts_grow least t xs w k)

ended_keeps : (g : Setting) (least : ℕ) (s : Standing) (w : Taken Standing) → HasGrown s w → KeepsInBlock g least w → KeepsSoundly g s (ended least w)
ended_keeps g least s (Made os t) grown h = (grown, λ final grows decided. blocks.end_law g least t (h final grows decided))
ended_keeps g least s (Refused r) grown h = tt

pub notes_keep : KeepsLaw NotesBlock
notes_keep g s t _ sound (rule.block o h) = ended_keeps g (next s.context) s o (parts_grow (next s.context) s t.parts o h) (parts_keep g (next s.context) (blocks.block_law g s sound) h)
