-- The readings of parts of items that are parts one behind another.
use Rattle.std.specs.Prelude.{codes}
use Rattle.std.proofs.Common.{◌≡◌, ℕ, Bool, true, false, ◌||◌, ◌&&◌, List, [], ◌∷◌, refl, sym, ap, ◌∙◌, append_assoc, None}
use Rattle.mz_base.specs.declared.place.Place.{Place}
use Rattle.mz_base.specs.declared.token.MarkedToken.{MarkedToken}
use Rattle.mz_forms.specs.declared.refusal.Refusal.{Refusal}
use Rattle.mz_forms.specs.Form.{Form, Found, Leads, is_empty, then}
use Rattle.mz_forms.specs.Reading.{Refuses}
use Rattle.mz_forms.proofs.Choose.{Reshapes}
use Rattle.mz_forms.proofs.Compose.{Apart}
use Rattle.mz_forms.proofs.Leads.{leads_as, leads_behind, leads_on, beside, apart_closed, passes, first_refuses}
use Rattle.mz_tree.specs.declared.word.Word.{Word}
use Rattle.mz_tree.specs.declared.chain.Next.{Next}
use Rattle.mz_tree.specs.declared.word.Comma.{Comma}
use Rattle.mz_tree.specs.declared.lists.Separated.{Separated}
use Rattle.mz_tree.specs.Trees.{TypeData, DeclarationsData, ModeType, no_adjectives}
use Rattle.mz_tree.specs.Rules.{Every}
use Rattle.mz_tree.specs.Lists.{AreSeparated, AreDivided, AreBehind, IsNext}
use Rattle.mz_tree_heading.specs.declared.patterns.IdentifierTree.{IdentifierTree}
use Rattle.mz_tree_heading.specs.declared.patterns.PatternTree.{PatternTree}
use Rattle.mz_tree_heading.specs.declared.patterns.PatternTree.TheVariants as pattern_tree
use Rattle.mz_tree_part.specs.declared.words.DirectiveWord.{DirectiveWord}
use Rattle.mz_tree_part.specs.declared.words.DirectiveWord.TheVariants as directive_words
use Rattle.mz_tree_part.specs.declared.words.NotationWord.{NotationWord}
use Rattle.mz_tree_part.specs.declared.words.NotationWord.TheVariants as notation_words
use Rattle.mz_tree_part.specs.declared.directive.DirectiveTree.{DirectiveTree}
use Rattle.mz_tree_part.specs.declared.reserve.SegmentTree.{SegmentTree}
use Rattle.mz_tree_part.specs.declared.reserve.ReserveTree.{ReserveTree}
use Rattle.mz_tree_part.specs.declared.notation.BlockLetTree.{BlockLetTree}
use Rattle.mz_tree_part.specs.declared.notation.NotationPartTree.{NotationPartTree}
use Rattle.mz_tree_part.specs.declared.notation.NotationPartTree.TheVariants as notation_part_tree
use Rattle.mz_tree_part.specs.declared.notation.NotationTree.{NotationTree}
use Rattle.mz_tree_part.specs.Keywords.{notation_word}
use Rattle.mz_tree_part.specs.Rules.{IsNamed}
use Rattle.mz_pterm.specs.declared.sign.Sign.TheVariants as signs
use Rattle.mz_pterm.specs.Sign.{sign_of}
use Rattle.mz_pterm.specs.Words.{fixed, word}
use Rattle.mz_pterm.proofs.Bases.{word_at}
use Rattle.mz_pterm.proofs.Signs.{sign_of-fixed}
use Rattle.mz_ptype.specs.Forms.{whole_type, goes_type, declarations_form, goes_on_declared}
use Rattle.mz_ptype.proofs.Optional.{never}
use Rattle.mz_pformula.proofs.Quantifiers.{some_declarations}
use Rattle.mz_pjustification.specs.declared.keyword.Keyword.{Keyword}
use Rattle.mz_pjustification.specs.declared.keyword.Keyword.TheVariants as keywords
use Rattle.mz_pjustification.specs.Words.{is_key, key, keyword}
use Rattle.mz_pjustification.proofs.Keywords.{sign_of-key, keyword_of-key}
use Rattle.mz_pjustification.proofs.Taken.{nowhere, or_goes}
use Rattle.mz_pstep.proofs.Ends.{Ends, ends_class, ends_then}
use Rattle.mz_ppattern.specs.Words.{word_form}
use Rattle.mz_ppattern.specs.Classes.{goes_on_names, goes_on_pattern}
use Rattle.mz_ppattern.specs.Forms.{identifiers_form, pattern_form, never_ends}
use Rattle.mz_ppattern.proofs.NameSteps.{make_identifier, any_names}
use Rattle.mz_ppattern.proofs.SymbolSteps.{some_names}
use Rattle.mz_ppattern.proofs.Sets.{apart_off, off_one, off_one_then}
use Rattle.mz_ppart.specs.WordLists.{chosen_token}
use Rattle.mz_ppart.specs.Classes.{is_let, begins_notation_part}
use Rattle.mz_ppart.specs.Forms.{directive_word_form, article_names_form, directive_form, segment_form, segments_form, reserve_form, block_let_form, notation_word_form, synonym_form, notation_parts_form, notation_form}

-- Examples.
abbrev some_type : TypeData
some_type = ModeType no_adjectives (word_at nowhere)

abbrev some_pattern : PatternTree
some_pattern = pattern_tree.Mode (record { symbol = word_at nowhere; loci = None })

abbrev some_segments : Separated SegmentTree
some_segments = record { first = record { identifiers = some_names; for_ = nowhere; ty = some_type }; more = [] }

-- a word that is a name
abbrev named_word : Word
named_word = record { place = nowhere; spelling = codes "A" }

abbrev some_article_names : Separated IdentifierTree
some_article_names = record { first = make_identifier named_word; more = [] }

-- Sets.
abbrev on_names : MarkedToken → Bool
on_names t = goes_on_names (sign_of t)

abbrev on_pattern : MarkedToken → Bool
on_pattern t = goes_on_pattern (sign_of t)

abbrev on_declared : MarkedToken → Bool
on_declared t = goes_on_declared (sign_of t)

declared_off_key : (k : Keyword) (p : Place) → is_key k ≡ true → on_declared (key k p) ≡ true → ⊥
declared_off_key k p h g = never (sym (ap goes_on_declared (sign_of-key k p h)) ∙ g)

end_off_notation : (p : Place) → begins_notation_part (key keywords.End p) ≡ true → ⊥
end_off_notation p g = never (sym (ap (λ k. false || is_let k) (keyword_of-key keywords.End p refl)) ∙ g)

-- what goes on a form behind a token is what goes on the form
or_next : (p q r : Bool) → r ≡ false → (p || (r && q)) ≡ true → p ≡ true
or_next true q r h g = refl
or_next false q true h g = cc
or_next false q false h g = cc

-- Names of articles, with commas of either mark.
behind_into : (ns : List (Next Comma IdentifierTree)) → Every (IsNext IsNamed) ns → AreBehind IsNamed never_ends false ns
behind_into [] is = tt
behind_into (n ∷ ns) is = (tt, is.0, behind_into ns is.1)

behind_from : (ns : List (Next Comma IdentifierTree)) → AreBehind IsNamed never_ends false ns → Every (IsNext IsNamed) ns
behind_from [] is = tt
behind_from (n ∷ ns) is = (is.1, behind_from ns is.2)

separated_into : (s : Separated IdentifierTree) → AreSeparated IsNamed s → AreDivided IsNamed never_ends s
separated_into s is = (is.0, behind_into s.more is.1)

separated_from : (s : Separated IdentifierTree) → AreDivided IsNamed never_ends s → AreSeparated IsNamed s
separated_from s is = (is.0, behind_from s.more is.1)

-- directive
abbrev pub directive_3 : Form MarkedToken
directive_3 = keyword keywords.Semicolon

abbrev pub directive_2 : Form MarkedToken
directive_2 = then article_names_form (λ _. directive_3)

abbrev pub directive_1 : Form MarkedToken
directive_1 = then directive_word_form (λ _. directive_2)

pub directive_apart_1 : Apart directive_word_form (λ _. directive_2)
directive_apart_1 = apart_closed directive_word_form (λ _. directive_2) (λ a t. refl)

pub directive_apart_2 : Apart article_names_form (λ _. directive_3)
directive_apart_2 = apart_off article_names_form directive_3 on_names (λ a t is g. g) (off_one on_names (key keywords.Semicolon) (λ p g. never (sym (ap goes_on_names (sign_of-key keywords.Semicolon p refl)) ∙ g)))

abbrev pub make_directive : directive_1.Tree → DirectiveTree
make_directive k = record { place = k.0.1; word = k.0.0; names = k.1.0; semicolon = k.1.1 }

pub only_directive : (x : DirectiveTree) → directive_form.IsTree x → (k : directive_1.Tree) × directive_1.IsTree k × (x ≡ make_directive k)
only_directive x is = (((x.word, x.place), (x.names, x.semicolon)), (is.0, (separated_into x.names is.1, tt)), refl)

ends_directive : Ends directive_1
ends_directive = ends_then directive_word_form (λ _. directive_2) (λ _. ends_then article_names_form (λ _. directive_3) (λ _. ends_class Place (key keywords.Semicolon)))

pub as_directive : (b : List MarkedToken) → Reshapes directive_form directive_1 make_directive b
as_directive b = record {
  into = λ k is. (is.0, separated_from k.1.0 is.1.0);
  spells = λ k is. refl;
  only = λ x is g. only_directive x is;
  goes = λ k t is g. absurd (ends_directive.closed k t is g);
  level = λ k is. refl;
}

begin_directive : (room : ℕ) (b : List MarkedToken) → Leads directive_form directive_1 room make_directive b b
begin_directive room b = leads_as directive_form directive_1 make_directive room b (as_directive b)

pub directive_refused_1 : (room : ℕ) (b after : List MarkedToken) (e : Refusal) → Refuses directive_word_form room b e after → Refuses directive_form room b e after
directive_refused_1 room b after e h = passes directive_form directive_1 room make_directive b b after e (begin_directive room b) (first_refuses directive_word_form (λ _. directive_2) directive_apart_1 room b after e (λ a is. ((some_article_names, nowhere), ((refl, tt), tt))) h)

module _ (room : ℕ) (b : List MarkedToken) where
  module _ (x1 : (DirectiveWord × Place)) (c1 : List MarkedToken) (h1 : Found directive_word_form room b x1 c1) where
    directive_at_1 : Leads directive_form directive_2 room (λ k. make_directive (x1, k)) b c1
    directive_at_1 = leads_on directive_form directive_1 directive_2 room make_directive (beside directive_word_form (λ _. directive_2) x1) b b c1 (begin_directive room b) (leads_behind directive_word_form (λ _. directive_2) directive_apart_1 room b c1 x1 h1)

    pub directive_refused_2 : (after : List MarkedToken) (e : Refusal) → Refuses article_names_form room c1 e after → Refuses directive_form room b e after
    directive_refused_2 after e h = passes directive_form directive_2 room (λ k. make_directive (x1, k)) b c1 after e directive_at_1 (first_refuses article_names_form (λ _. directive_3) directive_apart_2 room c1 after e (λ a is. (nowhere, tt)) h)

    module _ (x2 : (Separated IdentifierTree)) (c2 : List MarkedToken) (h2 : Found article_names_form room c1 x2 c2) where
      directive_at_2 : Leads directive_form directive_3 room (λ k. make_directive (x1, (x2, k))) b c2
      directive_at_2 = leads_on directive_form directive_2 directive_3 room (λ k. make_directive (x1, k)) (beside article_names_form (λ _. directive_3) x2) b c1 c2 directive_at_1 (leads_behind article_names_form (λ _. directive_3) directive_apart_2 room c1 c2 x2 h2)

      pub directive_refused_3 : (after : List MarkedToken) (e : Refusal) → Refuses (keyword keywords.Semicolon) room c2 e after → Refuses directive_form room b e after
      directive_refused_3 after e h = passes directive_form directive_3 room (λ k. make_directive (x1, (x2, k))) b c2 after e directive_at_2 h

      pub directive_found : (x3 : Place) (after : List MarkedToken) → Found (keyword keywords.Semicolon) room c2 x3 after → Found directive_form room b (make_directive (x1, (x2, x3))) after
      directive_found x3 after h = directive_at_2.finds x3 after h

-- segment
abbrev pub segment_3 : Form MarkedToken
segment_3 = whole_type false

abbrev pub segment_2 : Form MarkedToken
segment_2 = then (word signs.For) (λ _. segment_3)

abbrev pub segment_1 : Form MarkedToken
segment_1 = then identifiers_form (λ _. segment_2)

pub segment_apart_1 : Apart identifiers_form (λ _. segment_2)
segment_apart_1 = apart_off identifiers_form segment_2 on_names (λ a t is g. g) (off_one_then on_names (fixed signs.For) (λ _. segment_3) (λ p g. never (sym (ap goes_on_names (sign_of-fixed signs.For p refl)) ∙ g)))

pub segment_apart_2 : Apart (word signs.For) (λ _. segment_3)
segment_apart_2 = apart_closed (word signs.For) (λ _. segment_3) (λ a t. refl)

abbrev pub make_segment : segment_1.Tree → SegmentTree
make_segment k = record { identifiers = k.0; for_ = k.1.0; ty = k.1.1 }

pub only_segment : (x : SegmentTree) → segment_form.IsTree x → (k : segment_1.Tree) × segment_1.IsTree k × (x ≡ make_segment k)
only_segment x is = ((x.identifiers, (x.for_, x.ty)), (any_names x.identifiers, (tt, is)), refl)

segment_goes : (k : segment_1.Tree) (t : MarkedToken) → segment_1.goes k t ≡ true → goes_type k.1.1 (sign_of t) ≡ true
segment_goes k t g = or_goes (segment_3.goes k.1.1 t) ((word signs.For).goes k.1.0 t) (is_empty (segment_3.spell k.1.1)) (goes_type k.1.1 (sign_of t)) (λ h1. h1) (λ h1. absurd (never h1)) (or_next (segment_2.goes k.1 t) (identifiers_form.goes k.0 t) (is_empty (segment_2.spell k.1)) refl g)

pub as_segment : (b : List MarkedToken) → Reshapes segment_form segment_1 make_segment b
as_segment b = record {
  into = λ k is. is.1.1;
  spells = λ k is. refl;
  only = λ x is g. only_segment x is;
  goes = λ k t is g. segment_goes k t g;
  level = λ k is. refl;
}

begin_segment : (room : ℕ) (b : List MarkedToken) → Leads segment_form segment_1 room make_segment b b
begin_segment room b = leads_as segment_form segment_1 make_segment room b (as_segment b)

pub segment_refused_1 : (room : ℕ) (b after : List MarkedToken) (e : Refusal) → Refuses identifiers_form room b e after → Refuses segment_form room b e after
segment_refused_1 room b after e h = passes segment_form segment_1 room make_segment b b after e (begin_segment room b) (first_refuses identifiers_form (λ _. segment_2) segment_apart_1 room b after e (λ a is. ((nowhere, some_type), (tt, tt))) h)

module _ (room : ℕ) (b : List MarkedToken) where
  module _ (x1 : (Separated IdentifierTree)) (c1 : List MarkedToken) (h1 : Found identifiers_form room b x1 c1) where
    segment_at_1 : Leads segment_form segment_2 room (λ k. make_segment (x1, k)) b c1
    segment_at_1 = leads_on segment_form segment_1 segment_2 room make_segment (beside identifiers_form (λ _. segment_2) x1) b b c1 (begin_segment room b) (leads_behind identifiers_form (λ _. segment_2) segment_apart_1 room b c1 x1 h1)

    pub segment_refused_2 : (after : List MarkedToken) (e : Refusal) → Refuses (word signs.For) room c1 e after → Refuses segment_form room b e after
    segment_refused_2 after e h = passes segment_form segment_2 room (λ k. make_segment (x1, k)) b c1 after e segment_at_1 (first_refuses (word signs.For) (λ _. segment_3) segment_apart_2 room c1 after e (λ a is. (some_type, tt)) h)

    module _ (x2 : Place) (c2 : List MarkedToken) (h2 : Found (word signs.For) room c1 x2 c2) where
      segment_at_2 : Leads segment_form segment_3 room (λ k. make_segment (x1, (x2, k))) b c2
      segment_at_2 = leads_on segment_form segment_2 segment_3 room (λ k. make_segment (x1, k)) (beside (word signs.For) (λ _. segment_3) x2) b c1 c2 segment_at_1 (leads_behind (word signs.For) (λ _. segment_3) segment_apart_2 room c1 c2 x2 h2)

      pub segment_refused_3 : (after : List MarkedToken) (e : Refusal) → Refuses (whole_type false) room c2 e after → Refuses segment_form room b e after
      segment_refused_3 after e h = passes segment_form segment_3 room (λ k. make_segment (x1, (x2, k))) b c2 after e segment_at_2 h

      pub segment_found : (x3 : TypeData) (after : List MarkedToken) → Found (whole_type false) room c2 x3 after → Found segment_form room b (make_segment (x1, (x2, x3))) after
      segment_found x3 after h = segment_at_2.finds x3 after h

-- reserve
abbrev pub reserve_3 : Form MarkedToken
reserve_3 = keyword keywords.Semicolon

abbrev pub reserve_2 : Form MarkedToken
reserve_2 = then segments_form (λ _. reserve_3)

abbrev pub reserve_1 : Form MarkedToken
reserve_1 = then (word_form (codes "reserve")) (λ _. reserve_2)

pub reserve_apart_1 : Apart (word_form (codes "reserve")) (λ _. reserve_2)
reserve_apart_1 = apart_closed (word_form (codes "reserve")) (λ _. reserve_2) (λ a t. refl)

pub reserve_apart_2 : Apart segments_form (λ _. reserve_3)
reserve_apart_2 = apart_off segments_form reserve_3 on_declared (λ a t is g. g) (off_one on_declared (key keywords.Semicolon) (λ p g. declared_off_key keywords.Semicolon p refl g))

abbrev pub make_reserve : reserve_1.Tree → ReserveTree
make_reserve k = record { reserve = k.0; segments = k.1.0; semicolon = k.1.1 }

pub only_reserve : (x : ReserveTree) → reserve_form.IsTree x → (k : reserve_1.Tree) × reserve_1.IsTree k × (x ≡ make_reserve k)
only_reserve x is = ((x.reserve, (x.segments, x.semicolon)), (tt, (is, tt)), refl)

ends_reserve : Ends reserve_1
ends_reserve = ends_then (word_form (codes "reserve")) (λ _. reserve_2) (λ _. ends_then segments_form (λ _. reserve_3) (λ _. ends_class Place (key keywords.Semicolon)))

pub as_reserve : (b : List MarkedToken) → Reshapes reserve_form reserve_1 make_reserve b
as_reserve b = record {
  into = λ k is. is.1.0;
  spells = λ k is. refl;
  only = λ x is g. only_reserve x is;
  goes = λ k t is g. absurd (ends_reserve.closed k t is g);
  level = λ k is. refl;
}

begin_reserve : (room : ℕ) (b : List MarkedToken) → Leads reserve_form reserve_1 room make_reserve b b
begin_reserve room b = leads_as reserve_form reserve_1 make_reserve room b (as_reserve b)

pub reserve_refused_1 : (room : ℕ) (b after : List MarkedToken) (e : Refusal) → Refuses (word_form (codes "reserve")) room b e after → Refuses reserve_form room b e after
reserve_refused_1 room b after e h = passes reserve_form reserve_1 room make_reserve b b after e (begin_reserve room b) (first_refuses (word_form (codes "reserve")) (λ _. reserve_2) reserve_apart_1 room b after e (λ a is. ((some_segments, nowhere), ((tt, tt), tt))) h)

module _ (room : ℕ) (b : List MarkedToken) where
  module _ (x1 : Place) (c1 : List MarkedToken) (h1 : Found (word_form (codes "reserve")) room b x1 c1) where
    reserve_at_1 : Leads reserve_form reserve_2 room (λ k. make_reserve (x1, k)) b c1
    reserve_at_1 = leads_on reserve_form reserve_1 reserve_2 room make_reserve (beside (word_form (codes "reserve")) (λ _. reserve_2) x1) b b c1 (begin_reserve room b) (leads_behind (word_form (codes "reserve")) (λ _. reserve_2) reserve_apart_1 room b c1 x1 h1)

    pub reserve_refused_2 : (after : List MarkedToken) (e : Refusal) → Refuses segments_form room c1 e after → Refuses reserve_form room b e after
    reserve_refused_2 after e h = passes reserve_form reserve_2 room (λ k. make_reserve (x1, k)) b c1 after e reserve_at_1 (first_refuses segments_form (λ _. reserve_3) reserve_apart_2 room c1 after e (λ a is. (nowhere, tt)) h)

    module _ (x2 : (Separated SegmentTree)) (c2 : List MarkedToken) (h2 : Found segments_form room c1 x2 c2) where
      reserve_at_2 : Leads reserve_form reserve_3 room (λ k. make_reserve (x1, (x2, k))) b c2
      reserve_at_2 = leads_on reserve_form reserve_2 reserve_3 room (λ k. make_reserve (x1, k)) (beside segments_form (λ _. reserve_3) x2) b c1 c2 reserve_at_1 (leads_behind segments_form (λ _. reserve_3) reserve_apart_2 room c1 c2 x2 h2)

      pub reserve_refused_3 : (after : List MarkedToken) (e : Refusal) → Refuses (keyword keywords.Semicolon) room c2 e after → Refuses reserve_form room b e after
      reserve_refused_3 after e h = passes reserve_form reserve_3 room (λ k. make_reserve (x1, (x2, k))) b c2 after e reserve_at_2 h

      pub reserve_found : (x3 : Place) (after : List MarkedToken) → Found (keyword keywords.Semicolon) room c2 x3 after → Found reserve_form room b (make_reserve (x1, (x2, x3))) after
      reserve_found x3 after h = reserve_at_2.finds x3 after h

-- block_let
abbrev pub block_let_3 : Form MarkedToken
block_let_3 = keyword keywords.Semicolon

abbrev pub block_let_2 : Form MarkedToken
block_let_2 = then (declarations_form false) (λ _. block_let_3)

abbrev pub block_let_1 : Form MarkedToken
block_let_1 = then (keyword keywords.Let) (λ _. block_let_2)

pub block_let_apart_1 : Apart (keyword keywords.Let) (λ _. block_let_2)
block_let_apart_1 = apart_closed (keyword keywords.Let) (λ _. block_let_2) (λ a t. refl)

pub block_let_apart_2 : Apart (declarations_form false) (λ _. block_let_3)
block_let_apart_2 = apart_off (declarations_form false) block_let_3 on_declared (λ a t is g. g) (off_one on_declared (key keywords.Semicolon) (λ p g. declared_off_key keywords.Semicolon p refl g))

abbrev pub make_block_let : block_let_1.Tree → BlockLetTree
make_block_let k = record { let_ = k.0; declarations = k.1.0; semicolon = k.1.1 }

pub only_block_let : (x : BlockLetTree) → block_let_form.IsTree x → (k : block_let_1.Tree) × block_let_1.IsTree k × (x ≡ make_block_let k)
only_block_let x is = ((x.let_, (x.declarations, x.semicolon)), (tt, (is, tt)), refl)

ends_block_let : Ends block_let_1
ends_block_let = ends_then (keyword keywords.Let) (λ _. block_let_2) (λ _. ends_then (declarations_form false) (λ _. block_let_3) (λ _. ends_class Place (key keywords.Semicolon)))

pub as_block_let : (b : List MarkedToken) → Reshapes block_let_form block_let_1 make_block_let b
as_block_let b = record {
  into = λ k is. is.1.0;
  spells = λ k is. refl;
  only = λ x is g. only_block_let x is;
  goes = λ k t is g. absurd (ends_block_let.closed k t is g);
  level = λ k is. refl;
}

begin_block_let : (room : ℕ) (b : List MarkedToken) → Leads block_let_form block_let_1 room make_block_let b b
begin_block_let room b = leads_as block_let_form block_let_1 make_block_let room b (as_block_let b)

pub block_let_refused_1 : (room : ℕ) (b after : List MarkedToken) (e : Refusal) → Refuses (keyword keywords.Let) room b e after → Refuses block_let_form room b e after
block_let_refused_1 room b after e h = passes block_let_form block_let_1 room make_block_let b b after e (begin_block_let room b) (first_refuses (keyword keywords.Let) (λ _. block_let_2) block_let_apart_1 room b after e (λ a is. ((some_declarations, nowhere), ((tt, tt), tt))) h)

module _ (room : ℕ) (b : List MarkedToken) where
  module _ (x1 : Place) (c1 : List MarkedToken) (h1 : Found (keyword keywords.Let) room b x1 c1) where
    block_let_at_1 : Leads block_let_form block_let_2 room (λ k. make_block_let (x1, k)) b c1
    block_let_at_1 = leads_on block_let_form block_let_1 block_let_2 room make_block_let (beside (keyword keywords.Let) (λ _. block_let_2) x1) b b c1 (begin_block_let room b) (leads_behind (keyword keywords.Let) (λ _. block_let_2) block_let_apart_1 room b c1 x1 h1)

    pub block_let_refused_2 : (after : List MarkedToken) (e : Refusal) → Refuses (declarations_form false) room c1 e after → Refuses block_let_form room b e after
    block_let_refused_2 after e h = passes block_let_form block_let_2 room (λ k. make_block_let (x1, k)) b c1 after e block_let_at_1 (first_refuses (declarations_form false) (λ _. block_let_3) block_let_apart_2 room c1 after e (λ a is. (nowhere, tt)) h)

    module _ (x2 : DeclarationsData) (c2 : List MarkedToken) (h2 : Found (declarations_form false) room c1 x2 c2) where
      block_let_at_2 : Leads block_let_form block_let_3 room (λ k. make_block_let (x1, (x2, k))) b c2
      block_let_at_2 = leads_on block_let_form block_let_2 block_let_3 room (λ k. make_block_let (x1, k)) (beside (declarations_form false) (λ _. block_let_3) x2) b c1 c2 block_let_at_1 (leads_behind (declarations_form false) (λ _. block_let_3) block_let_apart_2 room c1 c2 x2 h2)

      pub block_let_refused_3 : (after : List MarkedToken) (e : Refusal) → Refuses (keyword keywords.Semicolon) room c2 e after → Refuses block_let_form room b e after
      block_let_refused_3 after e h = passes block_let_form block_let_3 room (λ k. make_block_let (x1, (x2, k))) b c2 after e block_let_at_2 h

      pub block_let_found : (x3 : Place) (after : List MarkedToken) → Found (keyword keywords.Semicolon) room c2 x3 after → Found block_let_form room b (make_block_let (x1, (x2, x3))) after
      block_let_found x3 after h = block_let_at_2.finds x3 after h

-- synonym
abbrev pub synonym_5 : Form MarkedToken
synonym_5 = keyword keywords.Semicolon

abbrev pub synonym_4 : Form MarkedToken
synonym_4 = then pattern_form (λ _. synonym_5)

abbrev pub synonym_3 : Form MarkedToken
synonym_3 = then (word signs.For) (λ _. synonym_4)

abbrev pub synonym_2 : Form MarkedToken
synonym_2 = then pattern_form (λ _. synonym_3)

abbrev pub synonym_1 : Form MarkedToken
synonym_1 = then notation_word_form (λ _. synonym_2)

pub synonym_apart_1 : Apart notation_word_form (λ _. synonym_2)
synonym_apart_1 = apart_closed notation_word_form (λ _. synonym_2) (λ a t. refl)

pub synonym_apart_2 : Apart pattern_form (λ _. synonym_3)
synonym_apart_2 = apart_off pattern_form synonym_3 on_pattern (λ a t is g. g) (off_one_then on_pattern (fixed signs.For) (λ _. synonym_4) (λ p g. never (sym (ap goes_on_pattern (sign_of-fixed signs.For p refl)) ∙ g)))

pub synonym_apart_3 : Apart (word signs.For) (λ _. synonym_4)
synonym_apart_3 = apart_closed (word signs.For) (λ _. synonym_4) (λ a t. refl)

pub synonym_apart_4 : Apart pattern_form (λ _. synonym_5)
synonym_apart_4 = apart_off pattern_form synonym_5 on_pattern (λ a t is g. g) (off_one on_pattern (key keywords.Semicolon) (λ p g. never (sym (ap goes_on_pattern (sign_of-key keywords.Semicolon p refl)) ∙ g)))

abbrev pub make_synonym : synonym_1.Tree → NotationPartTree
make_synonym k = notation_part_tree.Notation k.0.1 k.0.0 k.1.0 k.1.1.0 k.1.1.1.0 k.1.1.1.1

pub only_synonym : (x : NotationPartTree) → synonym_form.IsTree x → (k : synonym_1.Tree) × synonym_1.IsTree k × (x ≡ make_synonym k)
only_synonym (notation_part_tree.Let a) is = absurd is
only_synonym (notation_part_tree.Notation p w a q b r) is = (((w, p), (a, (q, (b, r)))), (refl, (tt, (tt, (tt, tt)))), refl)

ends_synonym : Ends synonym_1
ends_synonym = ends_then notation_word_form (λ _. synonym_2) (λ _. ends_then pattern_form (λ _. synonym_3) (λ _. ends_then (word signs.For) (λ _. synonym_4) (λ _. ends_then pattern_form (λ _. synonym_5) (λ _. ends_class Place (key keywords.Semicolon)))))

synonym_spells : (k : synonym_1.Tree) → synonym_form.spell (make_synonym k) ≡ synonym_1.spell k
synonym_spells k = ap (λ z. chosen_token notation_word k.0 ∷ z) (append_assoc (pattern_form.spell k.1.0) (fixed signs.For k.1.1.0 ∷ pattern_form.spell k.1.1.1.0) (key keywords.Semicolon k.1.1.1.1 ∷ []))

synonym_levels : (k : synonym_1.Tree) → synonym_form.levels (make_synonym k) ≡ synonym_1.levels k
synonym_levels k = ap (λ z. 0 ∷ z) (append_assoc (pattern_form.levels k.1.0) (0 ∷ pattern_form.levels k.1.1.1.0) (0 ∷ []))

pub as_synonym : (b : List MarkedToken) → Reshapes synonym_form synonym_1 make_synonym b
as_synonym b = record {
  into = λ k is. tt;
  spells = λ k is. synonym_spells k;
  only = λ x is g. only_synonym x is;
  goes = λ k t is g. absurd (ends_synonym.closed k t is g);
  level = λ k is. synonym_levels k;
}

begin_synonym : (room : ℕ) (b : List MarkedToken) → Leads synonym_form synonym_1 room make_synonym b b
begin_synonym room b = leads_as synonym_form synonym_1 make_synonym room b (as_synonym b)

pub synonym_refused_1 : (room : ℕ) (b after : List MarkedToken) (e : Refusal) → Refuses notation_word_form room b e after → Refuses synonym_form room b e after
synonym_refused_1 room b after e h = passes synonym_form synonym_1 room make_synonym b b after e (begin_synonym room b) (first_refuses notation_word_form (λ _. synonym_2) synonym_apart_1 room b after e (λ a is. ((some_pattern, (nowhere, (some_pattern, nowhere))), (tt, (tt, (tt, tt))))) h)

module _ (room : ℕ) (b : List MarkedToken) where
  module _ (x1 : (NotationWord × Place)) (c1 : List MarkedToken) (h1 : Found notation_word_form room b x1 c1) where
    synonym_at_1 : Leads synonym_form synonym_2 room (λ k. make_synonym (x1, k)) b c1
    synonym_at_1 = leads_on synonym_form synonym_1 synonym_2 room make_synonym (beside notation_word_form (λ _. synonym_2) x1) b b c1 (begin_synonym room b) (leads_behind notation_word_form (λ _. synonym_2) synonym_apart_1 room b c1 x1 h1)

    pub synonym_refused_2 : (after : List MarkedToken) (e : Refusal) → Refuses pattern_form room c1 e after → Refuses synonym_form room b e after
    synonym_refused_2 after e h = passes synonym_form synonym_2 room (λ k. make_synonym (x1, k)) b c1 after e synonym_at_1 (first_refuses pattern_form (λ _. synonym_3) synonym_apart_2 room c1 after e (λ a is. ((nowhere, (some_pattern, nowhere)), (tt, (tt, tt)))) h)

    module _ (x2 : PatternTree) (c2 : List MarkedToken) (h2 : Found pattern_form room c1 x2 c2) where
      synonym_at_2 : Leads synonym_form synonym_3 room (λ k. make_synonym (x1, (x2, k))) b c2
      synonym_at_2 = leads_on synonym_form synonym_2 synonym_3 room (λ k. make_synonym (x1, k)) (beside pattern_form (λ _. synonym_3) x2) b c1 c2 synonym_at_1 (leads_behind pattern_form (λ _. synonym_3) synonym_apart_2 room c1 c2 x2 h2)

      pub synonym_refused_3 : (after : List MarkedToken) (e : Refusal) → Refuses synonym_3 room c2 e after → Refuses synonym_form room b e after
      synonym_refused_3 after e h = passes synonym_form synonym_3 room (λ k. make_synonym (x1, (x2, k))) b c2 after e synonym_at_2 h

      pub synonym_found : (x3 : synonym_3.Tree) (after : List MarkedToken) → Found synonym_3 room c2 x3 after → Found synonym_form room b (make_synonym (x1, (x2, x3))) after
      synonym_found x3 after h = synonym_at_2.finds x3 after h

-- what stands behind its first pattern
pub other_refused_1 : (room : ℕ) (b after : List MarkedToken) (e : Refusal) → Refuses (word signs.For) room b e after → Refuses synonym_3 room b e after
other_refused_1 room b after e h = first_refuses (word signs.For) (λ _. synonym_4) synonym_apart_3 room b after e (λ a is. ((some_pattern, nowhere), (tt, tt))) h

module _ (room : ℕ) (b : List MarkedToken) where
  module _ (x1 : Place) (c1 : List MarkedToken) (h1 : Found (word signs.For) room b x1 c1) where
    other_at_1 : Leads synonym_3 synonym_4 room (beside (word signs.For) (λ _. synonym_4) x1) b c1
    other_at_1 = leads_behind (word signs.For) (λ _. synonym_4) synonym_apart_3 room b c1 x1 h1

    pub other_refused_2 : (after : List MarkedToken) (e : Refusal) → Refuses pattern_form room c1 e after → Refuses synonym_3 room b e after
    other_refused_2 after e h = passes synonym_3 synonym_4 room (beside (word signs.For) (λ _. synonym_4) x1) b c1 after e other_at_1 (first_refuses pattern_form (λ _. synonym_5) synonym_apart_4 room c1 after e (λ a is. (nowhere, tt)) h)

    module _ (x2 : PatternTree) (c2 : List MarkedToken) (h2 : Found pattern_form room c1 x2 c2) where
      other_at_2 : Leads synonym_3 synonym_5 room (λ k. (x1, (x2, k))) b c2
      other_at_2 = leads_on synonym_3 synonym_4 synonym_5 room (beside (word signs.For) (λ _. synonym_4) x1) (beside pattern_form (λ _. synonym_5) x2) b c1 c2 other_at_1 (leads_behind pattern_form (λ _. synonym_5) synonym_apart_4 room c1 c2 x2 h2)

      pub other_refused_3 : (after : List MarkedToken) (e : Refusal) → Refuses (keyword keywords.Semicolon) room c2 e after → Refuses synonym_3 room b e after
      other_refused_3 after e h = passes synonym_3 synonym_5 room (λ k. (x1, (x2, k))) b c2 after e other_at_2 h

      pub other_found : (x3 : Place) (after : List MarkedToken) → Found (keyword keywords.Semicolon) room c2 x3 after → Found synonym_3 room b (x1, (x2, x3)) after
      other_found x3 after h = other_at_2.finds x3 after h

-- notation
abbrev pub notation_4 : Form MarkedToken
notation_4 = keyword keywords.Semicolon

abbrev pub notation_3 : Form MarkedToken
notation_3 = then (keyword keywords.End) (λ _. notation_4)

abbrev pub notation_2 : Form MarkedToken
notation_2 = then notation_parts_form (λ _. notation_3)

abbrev pub notation_1 : Form MarkedToken
notation_1 = then (word_form (codes "notation")) (λ _. notation_2)

pub notation_apart_1 : Apart (word_form (codes "notation")) (λ _. notation_2)
notation_apart_1 = apart_closed (word_form (codes "notation")) (λ _. notation_2) (λ a t. refl)

pub notation_apart_2 : Apart notation_parts_form (λ _. notation_3)
notation_apart_2 = apart_off notation_parts_form notation_3 begins_notation_part (λ a t is g. g) (off_one_then begins_notation_part (key keywords.End) (λ _. notation_4) (λ p g. end_off_notation p g))

pub notation_apart_3 : Apart (keyword keywords.End) (λ _. notation_4)
notation_apart_3 = apart_closed (keyword keywords.End) (λ _. notation_4) (λ a t. refl)

abbrev pub make_notation : notation_1.Tree → NotationTree
make_notation k = record { notation = k.0; parts = k.1.0; end = k.1.1.0; semicolon = k.1.1.1 }

pub only_notation : (x : NotationTree) → notation_form.IsTree x → (k : notation_1.Tree) × notation_1.IsTree k × (x ≡ make_notation k)
only_notation x is = ((x.notation, (x.parts, (x.end, x.semicolon))), (tt, (is, (tt, tt))), refl)

ends_notation : Ends notation_1
ends_notation = ends_then (word_form (codes "notation")) (λ _. notation_2) (λ _. ends_then notation_parts_form (λ _. notation_3) (λ _. ends_then (keyword keywords.End) (λ _. notation_4) (λ _. ends_class Place (key keywords.Semicolon))))

pub as_notation : (b : List MarkedToken) → Reshapes notation_form notation_1 make_notation b
as_notation b = record {
  into = λ k is. is.1.0;
  spells = λ k is. refl;
  only = λ x is g. only_notation x is;
  goes = λ k t is g. absurd (ends_notation.closed k t is g);
  level = λ k is. refl;
}

begin_notation : (room : ℕ) (b : List MarkedToken) → Leads notation_form notation_1 room make_notation b b
begin_notation room b = leads_as notation_form notation_1 make_notation room b (as_notation b)

pub notation_refused_1 : (room : ℕ) (b after : List MarkedToken) (e : Refusal) → Refuses (word_form (codes "notation")) room b e after → Refuses notation_form room b e after
notation_refused_1 room b after e h = passes notation_form notation_1 room make_notation b b after e (begin_notation room b) (first_refuses (word_form (codes "notation")) (λ _. notation_2) notation_apart_1 room b after e (λ a is. (([], (nowhere, nowhere)), (tt, (tt, tt)))) h)

module _ (room : ℕ) (b : List MarkedToken) where
  module _ (x1 : Place) (c1 : List MarkedToken) (h1 : Found (word_form (codes "notation")) room b x1 c1) where
    notation_at_1 : Leads notation_form notation_2 room (λ k. make_notation (x1, k)) b c1
    notation_at_1 = leads_on notation_form notation_1 notation_2 room make_notation (beside (word_form (codes "notation")) (λ _. notation_2) x1) b b c1 (begin_notation room b) (leads_behind (word_form (codes "notation")) (λ _. notation_2) notation_apart_1 room b c1 x1 h1)

    pub notation_refused_2 : (after : List MarkedToken) (e : Refusal) → Refuses notation_parts_form room c1 e after → Refuses notation_form room b e after
    notation_refused_2 after e h = passes notation_form notation_2 room (λ k. make_notation (x1, k)) b c1 after e notation_at_1 (first_refuses notation_parts_form (λ _. notation_3) notation_apart_2 room c1 after e (λ a is. ((nowhere, nowhere), (tt, tt))) h)

    module _ (x2 : (List NotationPartTree)) (c2 : List MarkedToken) (h2 : Found notation_parts_form room c1 x2 c2) where
      notation_at_2 : Leads notation_form notation_3 room (λ k. make_notation (x1, (x2, k))) b c2
      notation_at_2 = leads_on notation_form notation_2 notation_3 room (λ k. make_notation (x1, k)) (beside notation_parts_form (λ _. notation_3) x2) b c1 c2 notation_at_1 (leads_behind notation_parts_form (λ _. notation_3) notation_apart_2 room c1 c2 x2 h2)

      pub notation_refused_3 : (after : List MarkedToken) (e : Refusal) → Refuses (keyword keywords.End) room c2 e after → Refuses notation_form room b e after
      notation_refused_3 after e h = passes notation_form notation_3 room (λ k. make_notation (x1, (x2, k))) b c2 after e notation_at_2 (first_refuses (keyword keywords.End) (λ _. notation_4) notation_apart_3 room c2 after e (λ a is. (nowhere, tt)) h)

      module _ (x3 : Place) (c3 : List MarkedToken) (h3 : Found (keyword keywords.End) room c2 x3 c3) where
        notation_at_3 : Leads notation_form notation_4 room (λ k. make_notation (x1, (x2, (x3, k)))) b c3
        notation_at_3 = leads_on notation_form notation_3 notation_4 room (λ k. make_notation (x1, (x2, k))) (beside (keyword keywords.End) (λ _. notation_4) x3) b c2 c3 notation_at_2 (leads_behind (keyword keywords.End) (λ _. notation_4) notation_apart_3 room c2 c3 x3 h3)

        pub notation_refused_4 : (after : List MarkedToken) (e : Refusal) → Refuses (keyword keywords.Semicolon) room c3 e after → Refuses notation_form room b e after
        notation_refused_4 after e h = passes notation_form notation_4 room (λ k. make_notation (x1, (x2, (x3, k)))) b c3 after e notation_at_3 h

        pub notation_found : (x4 : Place) (after : List MarkedToken) → Found (keyword keywords.Semicolon) room c3 x4 after → Found notation_form room b (make_notation (x1, (x2, (x3, x4)))) after
        notation_found x4 after h = notation_at_3.finds x4 after h
