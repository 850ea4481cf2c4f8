-- What comes of a block of notations.
use Rattle.std.specs.Prelude.{◌≡◌, ℕ, Bool, true, false, ◌&&◌, nat_eq, [], length, Some, None, Ok, Err}
use Rattle.mz_base.specs.declared.place.Place.{Place}
use Rattle.mz_logic.specs.Sym.{kind_number}
use Rattle.mz_logic.specs.declared.kind.Kind.{Kind}
use Rattle.mz_logic.specs.declared.kind.Kind.TheVariants as kind
use Rattle.mz_core.specs.declared.item.Item.{Item}
use Rattle.mz_core.specs.declared.item.Item.TheVariants as item
use Rattle.mz_core.specs.declared.notation.Meaning.{Meaning}
use Rattle.mz_core.specs.declared.notation.Meaning.TheVariants.{OfTerm, OfLiteral, OfType}
use Rattle.mz_applied.specs.Meant.{literal_of}
use Rattle.mz_context.specs.Context.{next}
use Rattle.mz_context.specs.declared.context.Context.{Context}
use Rattle.mz_justified.specs.declared.proof_fault.ProofRefusal.TheVariants.{Resolve}
use Rattle.mz_let.specs.Lets.{Lets}
use Rattle.mz_loci.specs.Loci.{loci_from, locus_types, behind_loci}
use Rattle.mz_names.specs.declared.refusal.Refusal.{Refusal}
use Rattle.mz_names.specs.declared.refusal.Refusal.TheVariants.{UnknownSymbol}
use Rattle.mz_patterns.specs.Functors.{closed_pattern}
use Rattle.mz_patterns.specs.declared.visible.Visible.{Visible}
use Rattle.mz_standing.specs.Standing.{with_context, with_item, behind_heading}
use Rattle.mz_standing.specs.declared.standing.Standing.{Standing}
use Rattle.mz_taken.specs.Taken.{Taken, Made, Refused}
use Rattle.mz_taken.specs.OneByOne.{OneByOne}
use Rattle.mz_taken.specs.declared.item_fault.ItemRefusal.TheVariants.{Proof, BadLoci}
use Rattle.mz_tree_heading.specs.declared.patterns.PatternTree.{PatternTree}
use Rattle.mz_tree_part.specs.declared.notation.BlockLetTree.{BlockLetTree}
use Rattle.mz_tree_part.specs.declared.notation.NotationPartTree.{NotationPartTree}
use Rattle.mz_tree_part.specs.declared.notation.NotationPartTree.TheVariants.{Let, Notation}
use Rattle.mz_tree_part.specs.declared.notation.NotationTree.{NotationTree}
use Rattle.mz_tree_part.specs.declared.words.NotationWord.{NotationWord}
use Rattle.mz_tree_part.specs.declared.words.NotationWord.TheVariants.{Synonym, Antonym}
use Rattle.mz_notations.specs.OverLoci.{meaning_over_loci}
use Rattle.mz_notations.specs.Patterns.{kind_of, symbol_of, closing_of, symbol_place}
use Rattle.mz_notations.specs.Reading.{new_loci, old_loci, PatternReads}

-- patterns of predicates and attributes have an opposite
abbrev pub has_opposite : Kind → Bool
has_opposite kind.Mode = false
has_opposite kind.Structure = false
has_opposite kind.Attribute = true
has_opposite kind.Functor = false
has_opposite kind.Selector = false
has_opposite kind.Aggregate = false
has_opposite kind.Predicate = true
has_opposite kind.LetterFunctor = false
has_opposite kind.LetterPredicate = false

-- the word may stand before a pattern of the one kind for one of the other
abbrev pub may_stand : NotationWord → Kind → Bool
may_stand Synonym k = true
may_stand Antonym k = has_opposite k

abbrev pub are_alike : NotationWord → PatternTree → PatternTree → Bool
are_alike w p q = nat_eq (kind_number (kind_of p)) (kind_number (kind_of q)) && may_stand w (kind_of q)

-- what the old pattern reads to, or the opposite
abbrev pub opposite_of : Meaning → Meaning
opposite_of (OfTerm t) = OfTerm t
opposite_of (OfLiteral l) = OfLiteral (literal_of true l)
opposite_of (OfType ty) = OfType ty

abbrev pub signed_by : NotationWord → Meaning → Meaning
signed_by Synonym m = m
signed_by Antonym m = opposite_of m

-- the notation that is made of it, under the loci
abbrev pub notation_of : ℕ → Context → NotationWord → PatternTree → Visible → Meaning → Item
notation_of least c w p v m = item.Notation (record {
  pattern = closed_pattern (kind_of p) (symbol_of p) (closing_of p) (locus_types least (loci_from least c.constants)) v;
  meaning = meaning_over_loci least (length (loci_from least c.constants)) (signed_by w m);
})

-- behind it: it is in force, and there is no statement just before
abbrev pub noted : Standing → Item → Standing
noted s x = with_context (with_item s x) (behind_heading s.context x [])

-- A further pattern p for what the old pattern q reads to, in a block whose loci are the constants from `least` on, where the word stands at
-- the place. In this order: the loci of p are those that it wants, and each name of q is a locus; q is of the kind of p; q is read.
pub data TakesNotation (least : ℕ) (s : Standing) (place : Place) (w : NotationWord) (p q : PatternTree) : Taken Standing → Type 0 where
  new_unfit : new_loci least (loci_from least s.context.constants) p ≡ None → TakesNotation least s place w p q (Refused (BadLoci place))
  old_unfit : (v : Visible) → new_loci least (loci_from least s.context.constants) p ≡ Some v → old_loci (loci_from least s.context.constants) q ≡ None → TakesNotation least s place w p q (Refused (BadLoci place))
  unlike : (v u : Visible) → new_loci least (loci_from least s.context.constants) p ≡ Some v → old_loci (loci_from least s.context.constants) q ≡ Some u → are_alike w p q ≡ false →
      TakesNotation least s place w p q (Refused (Proof (Resolve (UnknownSymbol (symbol_place q)))))
  not_read : (v u : Visible) (r : Refusal) → new_loci least (loci_from least s.context.constants) p ≡ Some v → old_loci (loci_from least s.context.constants) q ≡ Some u → are_alike w p q ≡ true →
      PatternReads s.environment s.context least q u (Err r) → TakesNotation least s place w p q (Refused (Proof (Resolve r)))
  is_read : (v u : Visible) (m : Meaning) → new_loci least (loci_from least s.context.constants) p ≡ Some v → old_loci (loci_from least s.context.constants) q ≡ Some u → are_alike w p q ≡ true →
      PatternReads s.environment s.context least q u (Ok m) → TakesNotation least s place w p q (Made [] (noted s (notation_of least s.context w p v m)))

-- a part of a block
pub data NotesPart (least : ℕ) (s : Standing) : NotationPartTree → Taken Standing → Type 0 where
  loci : (t : BlockLetTree) (o : Taken Standing) → Lets least s t o → NotesPart least s (Let t) o
  notation : (place : Place) (w : NotationWord) (p q : PatternTree) (between behind : Place) (o : Taken Standing) → TakesNotation least s place w p q o → NotesPart least s (Notation place w p between q behind) o

-- behind the block its loci are out of force
abbrev pub ended : ℕ → Taken Standing → Taken Standing
ended least (Made os t) = Made os (with_context t (behind_loci t.context least))
ended least (Refused r) = Refused r

-- a block of notations: its parts are taken one after another, each where the one before it has led to
pub data NotesBlock (s : Standing) (t : NotationTree) : Taken Standing → Type 0 where
  block : (o : Taken Standing) → OneByOne (NotesPart (next s.context)) s t.parts o → NotesBlock s t (ended (next s.context) o)
