-- Which commas stand between names for terms, what is retyped, what is taken, and types.
use Rattle.std.proofs.Common.{◌≡◌, Bool, true, false, refl, sym, ap, ◌∙◌}
use Rattle.std.proofs.lemmas.Bool.{or_left}
use Rattle.mz_forms.proofs.Chain.{Linked}
use Rattle.mz_tree.specs.declared.word.Comma.{Comma}
use Rattle.mz_tree.specs.Spelled.{comma_token}
use Rattle.mz_tree.specs.Trees.{TermData, PieceData, PieceList, PrefixList, TypedDeclared, RunTerm, FunctorPiece, OperandPiece, SelectorPrefix, ChoiceOfPrefix, ChoiceOverPrefix, no_pieces, more_pieces, no_prefixs, more_prefixs}
use Rattle.mz_tree.specs.Rules.{Last, start, last_behind, IsTerm, IsPiece, GoesOn, ArePrefixes, has_choice, piece_ends_in_list, last_piece_ends_in_list, term_ends_in_list, ends_in_terms}
use Rattle.mz_tree_proof.specs.declared.introduction.NamedTermTree.{NamedTermTree}
use Rattle.mz_tree_proof.specs.declared.introduction.RetypedTree.{RetypedTree}
use Rattle.mz_tree_proof.specs.declared.introduction.RetypedTree.TheVariants as retyped_tree
use Rattle.mz_tree_proof.specs.declared.skeleton.TakenTree.{TakenTree}
use Rattle.mz_tree_proof.specs.declared.skeleton.TakenTree.TheVariants as taken_tree
use Rattle.mz_tree_proof.specs.Rules.{IsNamedTerm, IsRetyped, IsTaken, named_term_ends_in_list, retyped_ends_in_list, taken_ends_in_list}
use Rattle.mz_pterm.specs.declared.sign.Sign.{Sign}
use Rattle.mz_pterm.specs.Classes.{goes_on_term}
use Rattle.mz_pterm.specs.Sign.{sign_of}
use Rattle.mz_pterm.proofs.Bases.{word_at}
use Rattle.mz_ptype.specs.Forms.{whole_type, goes_on_declared, is_comma}
use Rattle.mz_ptype.proofs.DeclarationSteps.{comma_kind, comma_signed, comma_told, declared_on, linked_declared}
use Rattle.mz_ptype.proofs.Optional.{never}
use Rattle.mz_pjustification.proofs.Taken.{nowhere}
use Rattle.mz_pstep.specs.Words.{is_predicate}
use Rattle.mz_pstep.specs.Forms.{links, named_term_form, goes_on_named, retyped_form, taken_form, goes_on_list}

kind_on : (d : Bool) → goes_on_list (comma_kind d) ≡ true
kind_on true = refl
kind_on false = refl

kind_off : (d : Bool) → goes_on_named (comma_kind d) ≡ true → ⊥
kind_off true g = never g
kind_off false g = never g

comma_on : (c : Comma) → goes_on_list (sign_of (comma_token c)) ≡ true
comma_on c = ap goes_on_list (comma_signed c) ∙ kind_on c.dividing

named_on : (s : Sign) → goes_on_named s ≡ true → goes_on_list s ≡ true
named_on s g = or_left (goes_on_named s) (is_comma s) g

term_on : (s : Sign) → goes_on_term s ≡ true → goes_on_named s ≡ true
term_on s g = or_left (goes_on_term s) (is_predicate s) g

comma_off : (c : Comma) → goes_on_named (sign_of (comma_token c)) ≡ true → ⊥
comma_off c g = kind_off c.dividing (sym (ap goes_on_named (comma_signed c)) ∙ g)

pub linked_named : Linked (links named_term_form named_term_ends_in_list goes_on_list)
linked_named = record {
  told = λ a b e. comma_told a b e;
  weaker = λ x t is g. named_on (sign_of t) (term_on (sign_of t) g);
  on = λ c. comma_on c;
  apart = λ x c is may g. comma_off c (term_on (sign_of (comma_token c)) g);
}

pub linked_retyped : Linked (links retyped_form retyped_ends_in_list goes_on_list)
linked_retyped = record {
  told = λ a b e. comma_told a b e;
  weaker = λ x t is g. named_on (sign_of t) g;
  on = λ c. comma_on c;
  apart = λ x c is may g. comma_off c g;
}

pub linked_taken : Linked (links taken_form taken_ends_in_list goes_on_list)
linked_taken = record {
  told = λ a b e. comma_told a b e;
  weaker = λ x t is g. named_on (sign_of t) g;
  on = λ c. comma_on c;
  apart = λ x c is may g. comma_off c g;
}

-- types, as they are in declarations
pub linked_types : Linked (links (whole_type false) ends_in_terms goes_on_declared)
linked_types = record {
  told = λ a b e. comma_told a b e;
  weaker = λ x t is g. declared_on (TypedDeclared (word_at nowhere) (record { place = nowhere; long = false }) x) (sign_of t) g;
  on = λ c. (linked_declared false).on c;
  apart = λ x c is may g. (linked_declared false).apart (TypedDeclared (word_at nowhere) (record { place = nowhere; long = false }) x) c is may g;
}

-- No term ends in a list of operands yet.
no_choice : (ps : PrefixList) → ArePrefixes false ps → has_choice ps ≡ false
no_choice no_prefixs is = refl
no_choice (more_prefixs (SelectorPrefix a b c) ps) is = no_choice ps is
no_choice (more_prefixs (ChoiceOfPrefix a b c d e) ps) is = absurd is
no_choice (more_prefixs (ChoiceOverPrefix a b c d e) ps) is = absurd is

piece_off : (l : Last) (p : PieceData) → IsPiece false l p → piece_ends_in_list p ≡ false
piece_off l (FunctorPiece a b) is = refl
piece_off l (OperandPiece a b) is = no_choice a is.1

pieces_off : (l : Last) (b : Bool) (ps : PieceList) → b ≡ false → GoesOn false l ps → last_piece_ends_in_list b ps ≡ false
pieces_off l b no_pieces e is = e
pieces_off l b (more_pieces p ps) e is = pieces_off (last_behind l p) (piece_ends_in_list p) ps (piece_off l p is.0) is.1

pub term_off : (x : TermData) → IsTerm false x → term_ends_in_list x ≡ false
term_off (RunTerm p ps) is = pieces_off (last_behind start p) (piece_ends_in_list p) ps (piece_off start p is.0) is.1

pub named_off : (x : NamedTermTree) → IsNamedTerm x → false ≡ named_term_ends_in_list x
named_off x is = sym (term_off x.term is)

pub retyped_off : (x : RetypedTree) → IsRetyped x → false ≡ retyped_ends_in_list x
retyped_off (retyped_tree.Itself w) is = refl
retyped_off (retyped_tree.Named n) is = named_off n is

pub taken_off : (x : TakenTree) → IsTaken x → false ≡ taken_ends_in_list x
taken_off (taken_tree.Plain x) is = sym (term_off x is)
taken_off (taken_tree.Named n) is = named_off n is
