-- One thing at most comes of a block of notations.
use Rattle.std.proofs.Common.{◌≡◌, ℕ, [], refl, sym, ap, subst, Option, Some, None}
use Rattle.std.specs.Prelude.{Result, Ok, Err}
use Rattle.mz_base.specs.declared.place.Place.{Place}
use Rattle.mz_core.specs.declared.notation.Meaning.{Meaning}
use Rattle.mz_applied.proofs.OneApplication.{one_application}
use Rattle.mz_choice.specs.declared.choice.Wanted.TheVariants.{Anything}
use Rattle.mz_context.specs.Context.{next}
use Rattle.mz_justified.specs.declared.proof_fault.ProofRefusal.TheVariants.{Resolve}
use Rattle.mz_justified_laws.specs.Determined.{AtMostOne}
use Rattle.mz_justified_laws.proofs.Sequence.{one_by, one_value, IfSo, if_so, if_not, one_if, NextSome, one_next_some, AfterRead, one_after_read, NextOk, one_next_ok, After, one_after}
use Rattle.mz_let.specs.Lets as lets
use Rattle.mz_let.specs.Lets.{Lets, with_loci}
use Rattle.mz_loci.specs.Loci.{loci_from}
use Rattle.mz_names.specs.declared.refusal.Refusal.{Refusal}
use Rattle.mz_names.specs.declared.refusal.Refusal.TheVariants.{UnknownSymbol}
use Rattle.mz_parts.specs.Declarations.{DeclarationsRead}
use Rattle.mz_parts_laws.proofs.OneDeclaration.{one_declarations}
use Rattle.mz_patterns.specs.declared.visible.Visible.{Visible}
use Rattle.mz_standing.specs.declared.standing.Standing.{Standing}
use Rattle.mz_taken.specs.OneByOne.{OneLaw}
use Rattle.mz_taken.specs.Taken.{Taken, Made, Refused}
use Rattle.mz_taken.specs.declared.item_fault.ItemRefusal.TheVariants.{Proof, BadLoci}
use Rattle.mz_taken.proofs.OneByOneProofs.{one_all}
use Rattle.mz_tree_heading.specs.declared.patterns.PatternTree.{PatternTree}
use Rattle.mz_tree_part.specs.declared.notation.BlockLetTree.{BlockLetTree}
use Rattle.mz_tree_part.specs.declared.notation.NotationPartTree.{NotationPartTree}
use Rattle.mz_tree_part.specs.declared.words.NotationWord.{NotationWord}
use Rattle.mz_notations.specs.Patterns.{kind_of, symbol_place, first_of}
use Rattle.mz_notations.specs.Reading.{new_loci, old_loci, applied_to, as_pattern, PatternReads}
use Rattle.mz_notations.specs.Notes as rule
use Rattle.mz_notations.specs.Notes.{are_alike, notation_of, noted, TakesNotation, NotesPart, ended, NotesBlock}

abbrev unread : Refusal → Taken Standing
unread r = Refused (Proof (Resolve r))

-- loci

abbrev LetAs : ℕ → Standing → BlockLetTree → Taken Standing → Type 0
LetAs least s t = AfterRead (DeclarationsRead s.environment s.context least s.left t.declarations) unread (λ vs l o. o ≡ Made [] (with_loci s vs l))

let_as : (least : ℕ) (s : Standing) (t : BlockLetTree) (o : Taken Standing) → Lets least s t o → LetAs least s t o
let_as least s t o (lets.not_declared r after h) = (Err r, after, h, refl)
let_as least s t o (lets.declared vs after h) = (Ok vs, after, h, refl)

one_let : (least : ℕ) (s : Standing) (t : BlockLetTree) → AtMostOne (Lets least s t)
one_let least s t =
    one_by (Lets least s t) (LetAs least s t) (let_as least s t)
    (one_after_read (DeclarationsRead s.environment s.context least s.left t.declarations) unread (λ vs l o. o ≡ Made [] (with_loci s vs l)) (one_declarations s.environment s.context least s.left t.declarations) (λ vs l. one_value (Made [] (with_loci s vs l))))

-- notations

abbrev MadeOf : ℕ → Standing → NotationWord → PatternTree → Visible → Meaning → Taken Standing → Type 0
MadeOf least s w p v m o = o ≡ Made [] (noted s (notation_of least s.context w p v m))

abbrev BehindReading : ℕ → Standing → NotationWord → PatternTree → Visible → Result Meaning Refusal → Taken Standing → Type 0
BehindReading least s w p v = NextOk unread (MadeOf least s w p v)

abbrev BehindLoci : ℕ → Standing → NotationWord → PatternTree → PatternTree → Visible → Visible → Taken Standing → Type 0
BehindLoci least s w p q v u o = IfSo (are_alike w p q) (After (PatternReads s.environment s.context least q u) (BehindReading least s w p v) o) (o ≡ Refused (Proof (Resolve (UnknownSymbol (symbol_place q)))))

abbrev BehindNew : ℕ → Standing → Place → NotationWord → PatternTree → PatternTree → Visible → Taken Standing → Type 0
BehindNew least s place w p q v = NextSome (Refused (BadLoci place)) (BehindLoci least s w p q v) (old_loci (loci_from least s.context.constants) q)

abbrev NotationAs : ℕ → Standing → Place → NotationWord → PatternTree → PatternTree → Taken Standing → Type 0
NotationAs least s place w p q = NextSome (Refused (BadLoci place)) (BehindNew least s place w p q) (new_loci least (loci_from least s.context.constants) p)

next_there : {X : Type 0} (bad : Taken Standing) (next : X → Taken Standing → Type 0) (z : Option X) (x : X) (o : Taken Standing) → z ≡ Some x → next x o → NextSome bad next z o
next_there {X} bad next z x o e h = subst (λ (y : Option X). NextSome bad next y o) (sym e) h

next_lacking : {X : Type 0} (bad : Taken Standing) (next : X → Taken Standing → Type 0) (z : Option X) → z ≡ None → NextSome bad next z bad
next_lacking {X} bad next z e = subst (λ (y : Option X). NextSome bad next y bad) (sym e) refl

with_both : (least : ℕ) (s : Standing) (place : Place) (w : NotationWord) (p q : PatternTree) (v u : Visible) (o : Taken Standing) → new_loci least (loci_from least s.context.constants) p ≡ Some v → old_loci (loci_from least s.context.constants) q ≡ Some u → BehindLoci least s w p q v u o →
    NotationAs least s place w p q o
with_both least s place w p q v u o ev eu h =
    next_there (Refused (BadLoci place)) (BehindNew least s place w p q) (new_loci least (loci_from least s.context.constants) p) v o ev
    (next_there (Refused (BadLoci place)) (BehindLoci least s w p q v) (old_loci (loci_from least s.context.constants) q) u o eu h)

abbrev Reads : ℕ → Standing → NotationWord → PatternTree → PatternTree → Visible → Visible → Taken Standing → Type 0
Reads least s w p q v u = After (PatternReads s.environment s.context least q u) (BehindReading least s w p v)

abbrev Unlike : PatternTree → Taken Standing → Type 0
Unlike q o = o ≡ Refused (Proof (Resolve (UnknownSymbol (symbol_place q))))

notation_as : (least : ℕ) (s : Standing) (place : Place) (w : NotationWord) (p q : PatternTree) (o : Taken Standing) → TakesNotation least s place w p q o → NotationAs least s place w p q o
notation_as least s place w p q o (rule.new_unfit e) = next_lacking (Refused (BadLoci place)) (BehindNew least s place w p q) (new_loci least (loci_from least s.context.constants) p) e
notation_as least s place w p q o (rule.old_unfit v ev e) =
    next_there (Refused (BadLoci place)) (BehindNew least s place w p q) (new_loci least (loci_from least s.context.constants) p) v o ev (next_lacking (Refused (BadLoci place)) (BehindLoci least s w p q v) (old_loci (loci_from least s.context.constants) q) e)
notation_as least s place w p q o (rule.unlike v u ev eu alike) = with_both least s place w p q v u o ev eu (if_not (are_alike w p q) (Reads least s w p q v u o) (Unlike q o) alike refl)
notation_as least s place w p q o (rule.not_read v u r ev eu alike h) = with_both least s place w p q v u o ev eu (if_so (are_alike w p q) (Reads least s w p q v u o) (Unlike q o) alike (Err r, h, refl))
notation_as least s place w p q o (rule.is_read v u m ev eu alike h) = with_both least s place w p q v u o ev eu (if_so (are_alike w p q) (Reads least s w p q v u o) (Unlike q o) alike (Ok m, h, refl))

one_pattern : (least : ℕ) (s : Standing) (q : PatternTree) (u : Visible) → AtMostOne (PatternReads s.environment s.context least q u)
one_pattern least s q u o p h k = one_application s.environment s.context Anything (symbol_place q) (as_pattern (kind_of q) (symbol_place q) (first_of q)) (applied_to least q u) o p h k

one_notation : (least : ℕ) (s : Standing) (place : Place) (w : NotationWord) (p q : PatternTree) → AtMostOne (TakesNotation least s place w p q)
one_notation least s place w p q =
    one_by (TakesNotation least s place w p q) (NotationAs least s place w p q) (notation_as least s place w p q)
    (one_next_some (Refused (BadLoci place)) (BehindNew least s place w p q)
    (λ v. one_next_some (Refused (BadLoci place)) (BehindLoci least s w p q v)
    (λ u. one_if (are_alike w p q) (Reads least s w p q v u) (Unlike q)
    (one_after (PatternReads s.environment s.context least q u) (BehindReading least s w p v) (one_pattern least s q u)
    (λ m. one_next_ok unread (MadeOf least s w p v) (λ n. one_value (Made [] (noted s (notation_of least s.context w p v n)))) m))
    (one_value (Refused (Proof (Resolve (UnknownSymbol (symbol_place q))))))) (old_loci (loci_from least s.context.constants) q)) (new_loci least (loci_from least s.context.constants) p))

-- blocks

one_part : (least : ℕ) (s : Standing) {p : NotationPartTree} {v w : Taken Standing} → NotesPart least s p v → NotesPart least s p w → v ≡ w
one_part least s (rule.loci t o h) (rule.loci _ p k) = one_let least s t o p h k
one_part least s (rule.notation place w p q between behind o h) (rule.notation _ _ _ _ _ _ n k) = one_notation least s place w p q o n h k

pub one_block : OneLaw NotesBlock
one_block s t _ _ (rule.block o h) (rule.block p k) = ap (ended (next s.context)) (one_all (NotesPart (next s.context)) (λ u x v w i j. one_part (next s.context) u i j) h k)
